use Rattle.std.proofs.Common.{length, ap, ◌∙◌}
use Rattle.std.proofs.lemmas.List.{length-map}
use Rattle.net_engine.specs.Net.{driven_of}
use Rattle.net_engine.specs.Kept.{NetNow}
use Rattle.net_engine.proofs.WideLemmas.{overlaid-length}
use Rattle.net_engine.proofs.net.Net.assign_part.Goals as goal

pub change_bits-requires-clause-width : goal.change_bits-requires-clause-width
change_bits-requires-clause-width g c =
    ap length c.put-bits.ensures ∙ overlaid-length c.driven_bits.result _ c.args.value ∙ ap length c.driven_bits.ensures ∙ length-map (driven_of c.self.inside.store.values c.args.item) _
    ∙ ap (λ (n : NetNow). length (driven_of n.values c.args.item)) c.self.view_is
