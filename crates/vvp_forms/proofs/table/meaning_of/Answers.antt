use Rattle.std.proofs.Common.{ap, ◌∙◌}
use Rattle.vvp_lex.specs.Words.{looked_up}
use Rattle.vvp_forms.proofs.Rows.{rows-seen}
use Rattle.vvp_forms.proofs.table.meaning_of.Goals as goal

pub returns : goal.returns
returns c = c.looked_up.ensures ∙ ap (λ table. looked_up table c.args.word.now) rows-seen
