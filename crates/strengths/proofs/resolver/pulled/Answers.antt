use Rattle.std.proofs.Common.{◌∙◌, refl}
use Rattle.strengths.proofs.Sizes.{kept_is}
use Rattle.strengths.proofs.resolver.pulled.Goals as goal

pub returns : goal.returns
returns c = c.resolve.ensures ∙ rw (c.splat.ensures, kept_is c.args.level c.requires.least c.requires.most, c.width.ensures.value) refl
