use Rattle.std.proofs.Common.{ℕ, List, Option, Bor, sym, ap, ◌∙◌}
use Rattle.std.specs.Prelude.{option_map}
use Rattle.vvp_words.specs.Decimal.{decimal_of}
use Rattle.vvp_words.specs.Entries.{number_or}
use Rattle.vvp_words.proofs.EntriesLemmas.{number-none, number-some}
use Rattle.vvp_words.proofs.entries.number_or.Goals as goal

pub returns-in-None : goal.returns-in-None
returns-in-None c =
    number-none c.args.usual ∙ ap (λ (t : Option (Bor (List ℕ))). number_or (option_map (λ s. s.now) t) c.args.usual) (sym c.in-None.is)

pub returns-in-Some : goal.returns-in-Some
returns-in-Some c =
    c.decimal.ensures.number ∙ ap (decimal_of 10 0 4294967295) c.as_bytes.ensures.value ∙ number-some c.in-Some.text.now c.args.usual
    ∙ ap (λ (t : Option (Bor (List ℕ))). number_or (option_map (λ s. s.now) t) c.args.usual) (sym c.in-Some.is)
