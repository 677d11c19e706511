use Rattle.vvp_lex.proofs.TextAtLemmas.{texts-after}
use Rattle.vvp_ops.proofs.calls.task_of.Goals as goal

pub arguments-requires-clause-texts : goal.arguments-requires-clause-texts
arguments-requires-clause-texts c =
    texts-after c.args.src.now c.args.tokens.now _ 3 c.tokens_after.ensures c.requires.texts
