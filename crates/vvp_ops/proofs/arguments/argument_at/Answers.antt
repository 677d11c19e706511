use Rattle.std.proofs.Common.{sym, ◌∙◌, subst}
use Rattle.vvp_lex.specs.Unescaped.{IsText}
use Rattle.vvp_ops.proofs.CallLemmas.{front-IsText}
use Rattle.vvp_ops.proofs.arguments.argument_at.Goals as goal

pub text_bytes-requires-clause-text : goal.text_bytes-requires-clause-text
text_bytes-requires-clause-text c =
    let text = front-IsText c.args.src.now c.args.tokens.now _ c.requires.texts (sym c.is_empty.ensures ∙ c.if-is_empty.false) c.in-Text.is in
    subst (IsText c.args.src.now) (sym c.span-name.ensures) text
