use Rattle.sim_core.specs.Step.{step}
use Rattle.vvp_top.proofs.ActivityLemmas.{moves-follows, moves-then}
use Rattle.vvp_top.proofs.activity.silent_turn.Goals as goal

pub returns-in-Ok-clause-moves : goal.returns-in-Ok-clause-moves
returns-in-Ok-clause-moves g c =
    let f = step c.args.engine.now.program c.args.engine.now.order in
    moves-then f _ _ _ (moves-follows f _ _ c.in-Ok.ensures.ok) c.drop_printed.ensures.moves
