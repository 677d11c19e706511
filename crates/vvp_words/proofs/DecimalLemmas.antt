-- Numbers by their digits.
use Rattle.std.proofs.Common.{◌≡◌, ℕ, ◌+◌, ◌-◌, ◌*◌, ◌<◌, ◌≤◌, zero, suc, Bool, true, false, ◌&&◌, nat_le, ◌==◌, ◌⊎◌, inl, inr, cond, List, [], ◌∷◌, ◌++◌, length, take, drop, get_or, Option, Some, None, refl, sym, ap, ◌∙◌, arith}
use Rattle.std.specs.List.{fold, list_all}
use Rattle.std.proofs.lemmas.List.Folds.{list_all-append}
use Rattle.std.proofs.lemmas.List.{take-append-drop}
use Rattle.std.proofs.lemmas.List.Sums.{fold-append}
use Rattle.std.proofs.lemmas.Bool.Decides.{nat_tests}
use Rattle.std.specs.Char.{is_ascii_digit}
use Rattle.vvp_words.specs.Decimal.{with_digit, spelled, decimal_of}

-- ---- what is and isn't such a number

-- a text that is none for its length
pub none-by_length : (places least most : ℕ) (text : List ℕ) → (nat_le 1 (length text) && nat_le (length text) places) ≡ false → None ≡ decimal_of places least most text
unfolding decimal_of
none-by_length places least most text short =
    sym (ap (λ b. cond (b && (list_all is_ascii_digit text && (nat_le least (spelled text) && nat_le (spelled text) most))) (Some (spelled text)) None) short)

and-false : (b : Bool) → (b && false) ≡ false
and-false true = refl
and-false false = refl

-- a text that is none for a byte
pub none-by_byte : (places least most : ℕ) (text : List ℕ) → list_all is_ascii_digit text ≡ false → None ≡ decimal_of places least most text
unfolding decimal_of
none-by_byte places least most text other =
    let size : Bool = nat_le 1 (length text) && nat_le (length text) places in
    sym (ap (λ b. cond (size && (b && (nat_le least (spelled text) && nat_le (spelled text) most))) (Some (spelled text)) None) other
    ∙ ap (λ b. cond b (Some (spelled text)) None) (and-false size))

-- a text that is none for its value
pub none-by_value : (places least most : ℕ) (text : List ℕ) → (nat_le least (spelled text) && nat_le (spelled text) most) ≡ false → None ≡ decimal_of places least most text
unfolding decimal_of
none-by_value places least most text outside =
    let size : Bool = nat_le 1 (length text) && nat_le (length text) places in
    sym (ap (λ b. cond (size && (list_all is_ascii_digit text && b)) (Some (spelled text)) None) outside
    ∙ ap (λ b. cond (size && b) (Some (spelled text)) None) (and-false (list_all is_ascii_digit text))
    ∙ ap (λ b. cond b (Some (spelled text)) None) (and-false size))

-- a text that is one
pub some-by : (places least most number : ℕ) (text : List ℕ) → (nat_le 1 (length text) && nat_le (length text) places) ≡ true → list_all is_ascii_digit text ≡ true
    → (nat_le least (spelled text) && nat_le (spelled text) most) ≡ true → number ≡ spelled text → Some number ≡ decimal_of places least most text
unfolding decimal_of
some-by places least most number text size digits value is =
    ap (λ n. let some : Option ℕ = Some n in some) is
    ∙ sym (ap (λ b. cond (b && (list_all is_ascii_digit text && (nat_le least (spelled text) && nat_le (spelled text) most))) (Some (spelled text)) None) size
    ∙ ap (λ b. cond (b && (nat_le least (spelled text) && nat_le (spelled text) most)) (Some (spelled text)) None) digits
    ∙ ap (λ b. cond b (Some (spelled text)) None) value)

size-none : (n places : ℕ) → (n < 1) ⊎ (places < n) → (nat_le 1 n && nat_le n places) ≡ false
size-none n places out = grind (arith, nat_tests)

pub none-if_empty : (places least most : ℕ) (text : List ℕ) (b : Bool) → b ≡ true → b ≡ (length text == 0) → None ≡ decimal_of places least most text
none-if_empty places least most text b is test =
    let empty : length text < 1 = grind (arith, nat_tests) in none-by_length places least most text (size-none (length text) places (inl empty))

pub none-if_long : (places least most : ℕ) (text : List ℕ) → places < length text → None ≡ decimal_of places least most text
none-if_long places least most text long = none-by_length places least most text (size-none (length text) places (inr long))

pub none-if_more : (places least most number : ℕ) (text : List ℕ) → number ≤ spelled text → most < number → None ≡ decimal_of places least most text
none-if_more places least most number text grows over =
    let out : (nat_le least (spelled text) && nat_le (spelled text) most) ≡ false = grind (arith, nat_tests) in none-by_value places least most text out

pub none-if_less : (places least most number : ℕ) (text : List ℕ) → number ≡ spelled text → number < least → None ≡ decimal_of places least most text
none-if_less places least most number text is under =
    let out : (nat_le least (spelled text) && nat_le (spelled text) most) ≡ false = grind (arith, nat_tests) in none-by_value places least most text out

pub some-if : (places least most number : ℕ) (text : List ℕ) → 1 ≤ length text → length text ≤ places → list_all is_ascii_digit text ≡ true → number ≡ spelled text
    → least ≤ number → number ≤ most → Some number ≡ decimal_of places least most text
some-if places least most number text some few digits is above below =
    let size : (nat_le 1 (length text) && nat_le (length text) places) ≡ true = grind (arith, nat_tests) in
    let value : (nat_le least (spelled text) && nat_le (spelled text) most) ≡ true = grind (arith, nat_tests) in
    some-by places least most number text size digits value is

-- ---- digit by digit

take-snoc : (text : List ℕ) (i : ℕ) → i < length text → take (i + 1) text ≡ take i text ++ get_or text i 0 ∷ []
take-snoc [] i lt = absurd (let none : ⊥ = omega (arith, lt) in none)
take-snoc (x ∷ xs) zero lt = refl
take-snoc (x ∷ xs) (suc i) lt =
    let within : i < length xs = omega (arith, lt) in
    let next : suc i + 1 ≡ suc (i + 1) = omega arith in
    ap (λ (n : ℕ). take n (x ∷ xs)) next ∙ ap (λ ys. x ∷ ys) (take-snoc xs i within)

pub spelled-more : (text : List ℕ) (i : ℕ) → i < length text → spelled (take (i + 1) text) ≡ spelled (take i text) * 10 + (get_or text i 0 - 48)
spelled-more text i lt = ap spelled (take-snoc text i lt) ∙ fold-append with_digit 0 (take i text) (get_or text i 0 ∷ [])

pub digits-more : (text : List ℕ) (i : ℕ) → i < length text → list_all is_ascii_digit (take i text) ≡ true → is_ascii_digit (get_or text i 0) ≡ true → list_all is_ascii_digit (take (i + 1) text) ≡ true
digits-more text i lt so_far digit =
    ap (list_all is_ascii_digit) (take-snoc text i lt) ∙ list_all-append is_ascii_digit (take i text) (get_or text i 0 ∷ [])
    ∙ ap (λ b. b && (is_ascii_digit (get_or text i 0) && true)) so_far ∙ ap (λ b. b && true) digit

-- a byte that is no digit
pub digits-none : (text : List ℕ) (i : ℕ) → i < length text → is_ascii_digit (get_or text i 0) ≡ false → list_all is_ascii_digit text ≡ false
digits-none [] i lt other = absurd (let none : ⊥ = omega (arith, lt) in none)
digits-none (x ∷ xs) zero lt other = ap (λ b. b && list_all is_ascii_digit xs) other
digits-none (x ∷ xs) (suc i) lt other =
    let within : i < length xs = omega (arith, lt) in
    ap (λ b. is_ascii_digit x && b) (digits-none xs i within other) ∙ and-false (is_ascii_digit x)

-- more digits never spell less
fold-grows : (digits : List ℕ) (number : ℕ) → number ≤ fold with_digit number digits
fold-grows [] number = omega arith
fold-grows (d ∷ ds) number = let more : with_digit number d ≤ fold with_digit (with_digit number d) ds = fold-grows ds (with_digit number d) in omega (arith, more)

pub spelled-grows : (text : List ℕ) (i : ℕ) → spelled (take i text) ≤ spelled text
spelled-grows text i =
    let parts : spelled text ≡ fold with_digit (spelled (take i text)) (drop i text) = ap spelled (sym (take-append-drop i text)) ∙ fold-append with_digit 0 (take i text) (drop i text) in
    let more : spelled (take i text) ≤ fold with_digit (spelled (take i text)) (drop i text) = fold-grows (drop i text) (spelled (take i text)) in
    omega (arith, parts, more)
