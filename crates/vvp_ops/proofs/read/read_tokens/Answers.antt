use Rattle.vvp_lex.proofs.TextAtLemmas.{texts-after}
use Rattle.vvp_ops.proofs.read.read_tokens.Goals as goal

pub read_word-requires-clause-texts : goal.read_word-requires-clause-texts
read_word-requires-clause-texts c =
    texts-after c.args.src.now c.args.tokens.now _ 1 c.tokens_after.ensures c.requires.texts
