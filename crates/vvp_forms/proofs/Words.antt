use Rattle.std.proofs.Common.{◌≡◌, map, refl}
use Rattle.vvp_forms.specs.declared.unsupported.TheConstants.{WORDS, BEGINNINGS}
use Rattle.vvp_forms.specs.Unsupported.{words, beginnings}

-- the words of the code are those of the definition
pub words-seen : map (λ text. text.now) WORDS ≡ words
unfolding words
words-seen = refl

pub beginnings-seen : map (λ text. text.now) BEGINNINGS ≡ beginnings
unfolding beginnings
beginnings-seen = refl
