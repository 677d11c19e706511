use Rattle.std.proofs.Common.{◌≡◌, ◌+◌, ◌-◌, ◌<◌, ℕ, [], ◌∷◌, ◌++◌, length, drop, subst, sym, ◌∙◌, arith}
use Rattle.std.proofs.lemmas.Iterator.Adapters.{YieldsList-from_rev_slice}
use Rattle.std.proofs.lemmas.Iterator.Consumers.{YieldsList-turn}
use Rattle.std.proofs.lemmas.List.{get_or-reverse, length-reverse, length_push}
use Rattle.port_chain.specs.Chain.{IsBound}
use Rattle.port_chain.proofs.ChainLemmas.{IsBound-more}
use Rattle.port_chain.proofs.chain.bind_all.Goals as goal

pub loop-reader-preserved : goal.loop-reader-preserved
loop-reader-preserved c =
    let readers = c.args.readers.now in
    let bound = c.loop-reader.yielded in
    let turn = YieldsList-turn (YieldsList-from_rev_slice readers cc) bound _ c.loop-reader.yielded_by _ _ c.in-Some.reader c.in-Some.is c.next.ensures.steps in
    let there : length bound < length readers = omega (arith, turn.0, length-reverse readers) in
    let i = length readers - 1 - length bound in
    let before : i + 1 ≡ length readers - length bound = omega arith in
    let now : i ≡ length readers - length (bound ++ c.in-Some.reader ∷ []) = omega (arith, length_push bound c.in-Some.reader) in
    subst (λ (n : ℕ). IsBound c.bind.new.heads c.bind.new.ports (drop n readers)) now
    (IsBound-more _ _ readers i c.in-Some.reader.now (omega arith) (turn.1 ∙ get_or-reverse readers (length bound) _ there) c.requires.once (λ fresh.
    c.bind.ensures _ fresh (subst (λ (n : ℕ). IsBound c.loop-reader.heads c.loop-reader.ports (drop n readers)) (sym before) c.loop-reader.invariant)))
