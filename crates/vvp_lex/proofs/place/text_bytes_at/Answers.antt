use Rattle.std.proofs.Common.{sym}
use Rattle.vvp_lex.proofs.TextAtLemmas.{text_at-IsText}
use Rattle.vvp_lex.proofs.place.text_bytes_at.Goals as goal

pub text_bytes-requires-clause-text : goal.text_bytes-requires-clause-text
text_bytes-requires-clause-text c =
    text_at-IsText c.args.src.now c.args.tokens.now c.args.place _ c.requires.texts (sym c.in-Some.ensures)
