use Rattle.std.proofs.Common.{◌<◌, length, sym, ap, ◌∙◌, arith}
use Rattle.net_engine.specs.Readers.{listeners_of}
use Rattle.net_engine.proofs.DesignLemmas.{listeners-length, listeners-read}
use Rattle.net_engine.proofs.design.Design.listeners.Goals as goal

pub index-requires : goal.index-requires
index-requires g c =
    let inside : c.args.event < length c.self.inside.listeners.items = listeners-length c.self.inside.listeners.items c.self.inside.rows.items c.args.event c.self.invariant.0.listed (rw (sym c.self.view_is) at c.requires) in
    omega (arith, inside)

pub returns : goal.returns
returns g c =
    c.as_slice.ensures ∙ c.index.ensures
    ∙ listeners-read c.self.inside.listeners.items c.self.inside.rows.items c.args.event _ c.self.invariant.0.listed (rw (sym c.self.view_is) at c.requires) ∙ ap (λ ns. listeners_of ns c.args.event) c.self.view_is
