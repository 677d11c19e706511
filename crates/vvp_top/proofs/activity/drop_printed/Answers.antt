use Rattle.vvp_top.proofs.ActivityLemmas.{moves-cleared, moves-none}
use Rattle.vvp_top.proofs.activity.drop_printed.Goals as goal

pub returns-then-out-lt-PIECE-clause-moves : goal.returns-then-out-lt-PIECE-clause-moves
returns-then-out-lt-PIECE-clause-moves g c = moves-none _

pub returns-clause-moves : goal.returns-clause-moves
returns-clause-moves g c = moves-cleared _ _ c.clear_out.ensures
