use Rattle.std.proofs.Common.{arith, subst, sym, set, ℕ, ◌∷◌}
use Rattle.port_chain.specs.Chain.{IsBound}
use Rattle.port_chain.proofs.ChainLemmas.{IsBound-cons}
use Rattle.port_chain.proofs.chain.bind.Goals as goal

pub returns : goal.returns
returns c readers fresh bound =
    let at = c.place.ensures.place in
    subst (λ (n : ℕ). IsBound (set c.args.heads.now c.args.reader.driver c.args.reader.link) (set c.args.ports.now n c.index-heads-reader.result) (c.args.reader ∷ readers)) (sym at)
    (IsBound-cons _ _ c.args.reader readers _ c.requires.driver (omega arith) c.place.ensures.port c.index-heads-reader.is fresh bound)
