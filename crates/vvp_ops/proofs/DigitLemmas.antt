use Rattle.std.proofs.Common.{◌≡◌, ℕ, ◌+◌, ◌-◌, ◌*◌, ◌<◌, ◌≤◌, true, List, [], ◌∷◌, length, get_or, drop, min, sym, ap, ◌∙◌, arith}
use Rattle.std.specs.Str.Parse.{digits_value, digits_value_after}
use Rattle.std.specs.Char.{digit_value, is_ascii_digit}
use Rattle.std.proofs.lemmas.Bool.Decides.{nat_tests}
use Rattle.std.proofs.lemmas.List.{drop_all, drop_more}

pub digit_value-digit : (b : ℕ) → is_ascii_digit b ≡ true → digit_value b ≡ b - 48
digit_value-digit b digit = grind (arith, nat_tests)

pub saturated_sum : (top a b : ℕ) → min (min a top + b) top ≡ min (a + b) top
saturated_sum top a b = omega arith

saturated_digit : (top n d : ℕ) → min (min n top * 10 + d) top ≡ min (n * 10 + d) top
saturated_digit top n d = omega arith

-- a number that counts as `top` once it is over it
saturated : (top n : ℕ) (ds : List ℕ) → min (digits_value_after 10 (min n top) ds) top ≡ min (digits_value_after 10 n ds) top
saturated top n [] = omega arith
saturated top n (d ∷ ds) =
    let short = saturated top (min n top * 10 + digit_value d) ds in
    let long = saturated top (n * 10 + digit_value d) ds in
    sym short ∙ ap (λ m. min (digits_value_after 10 m ds) top) (saturated_digit top n (digit_value d)) ∙ long

-- one digit more
pub decimal-more : (top : ℕ) (ds : List ℕ) (i value next : ℕ) → i < length ds → next ≡ min (value * 10 + digit_value (get_or ds i 0)) top → min (digits_value_after 10 value (drop i ds)) top ≡ min (digits_value 10 ds) top → min (digits_value_after 10 next (drop (i + 1) ds)) top ≡ min (digits_value 10 ds) top
decimal-more top ds i value next lt is so_far =
    ap (λ n. min (digits_value_after 10 n (drop (i + 1) ds)) top) is ∙ saturated top _ (drop (i + 1) ds) ∙ sym (ap (λ part. min (digits_value_after 10 value part) top) (drop_more ds i 0 lt)) ∙ so_far

-- all digits
pub decimal-all : (top : ℕ) (ds : List ℕ) (i value : ℕ) → length ds ≤ i → value ≤ top → min (digits_value_after 10 value (drop i ds)) top ≡ min (digits_value 10 ds) top → value ≡ min (digits_value 10 ds) top
decimal-all top ds i value past fits so_far =
    let end : min value top ≡ min (digits_value 10 ds) top = ap (λ part. min (digits_value_after 10 value part) top) (sym (drop_all i ds past)) ∙ so_far in
    omega arith

pub min-fits : (top n next : ℕ) → next ≡ min n top → next ≤ top
min-fits top n next is = omega arith
