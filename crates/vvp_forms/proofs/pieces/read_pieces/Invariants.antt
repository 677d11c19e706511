use Rattle.std.proofs.Common.{◌≡◌, length}
use Rattle.std.specs.List.{All}
use Rattle.vvp_lex.specs.Place.{IsTextOf}
use Rattle.vvp_forms.specs.Operands.{no_operands, pieces_at}
use Rattle.vvp_forms.proofs.pieces.read_pieces.Given as goal

abbrev pub invariant-loop-left : goal.invariant-loop-left
invariant-loop-left l = record {
  texts : All (IsTextOf l.src) l.rest;
  reads : pieces_at l.src l.left l.operands l.rest ≡ pieces_at l.src l.pieces no_operands l.tokens;
}

abbrev pub decreases-loop-left : goal.decreases-loop-left
decreases-loop-left l = length l.left
