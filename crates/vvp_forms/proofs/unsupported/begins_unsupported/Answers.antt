use Rattle.std.proofs.Common.{ap, ◌∙◌}
use Rattle.vvp_lex.specs.Words.{begins_with_one}
use Rattle.vvp_forms.proofs.Words.{beginnings-seen}
use Rattle.vvp_forms.proofs.unsupported.begins_unsupported.Goals as goal

pub returns : goal.returns
returns c = c.begins_with_one.ensures ∙ ap (begins_with_one c.args.word.now) beginnings-seen
