use Rattle.std.proofs.Common.{◌≡◌, length, map}
use Rattle.vvp_lex.specs.Words.{is_one}
use Rattle.vvp_lex.proofs.words.is_one.Given as goal

abbrev pub invariant-loop-texts : goal.invariant-loop-texts
invariant-loop-texts l = is_one l.word (map (λ text. text.now) l.texts) ≡ is_one l.word (map (λ text. text.now) l.initial.texts)

abbrev pub decreases-loop-texts : goal.decreases-loop-texts
decreases-loop-texts l = length l.texts
