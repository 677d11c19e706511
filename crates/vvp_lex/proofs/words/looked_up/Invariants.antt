use Rattle.std.proofs.Common.{◌≡◌, length, map}
use Rattle.vvp_lex.specs.Words.{looked_up}
use Rattle.vvp_lex.proofs.words.looked_up.Given as goal

abbrev pub invariant-loop-table : goal.invariant-loop-table
invariant-loop-table g l =
    looked_up (map (λ row. (row.0.now, row.1)) l.table) l.word ≡ looked_up (map (λ row. (row.0.now, row.1)) l.initial.table) l.word

abbrev pub decreases-loop-table : goal.decreases-loop-table
decreases-loop-table g l = length l.table
