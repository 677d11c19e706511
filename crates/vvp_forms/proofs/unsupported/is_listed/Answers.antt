use Rattle.std.proofs.Common.{ap, ◌∙◌}
use Rattle.vvp_lex.specs.Words.{is_one}
use Rattle.vvp_forms.proofs.Words.{words-seen}
use Rattle.vvp_forms.proofs.unsupported.is_listed.Goals as goal

pub returns : goal.returns
returns c = c.is_one.ensures ∙ ap (is_one c.args.word.now) words-seen
