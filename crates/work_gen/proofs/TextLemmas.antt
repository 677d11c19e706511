-- Texts that are filled byte by byte.
use Rattle.std.proofs.Common.{◌≡◌, ℕ, ◌+◌, ◌-◌, ◌<◌, zero, suc, List, [], ◌∷◌, ◌++◌, length, take, get_or, sym, ap, ◌∙◌, append_assoc, append-nil, arith}
use Rattle.std.specs.List.{flat_map}
use Rattle.work_gen.specs.Workload.{filled, filled_byte, counters_text, counter_text, end_text, scope_text, workload_text}

flat_map-take : (f : ℕ → List ℕ) (xs : List ℕ) (i : ℕ) → i < length xs → flat_map f (take (suc i) xs) ≡ flat_map f (take i xs) ++ f (get_or xs i 0)
flat_map-take f [] i lt = absurd (let none : ⊥ = omega (arith, lt) in none)
flat_map-take f (x ∷ xs) zero lt = append-nil (f x)
flat_map-take f (x ∷ xs) (suc i) lt =
    let within : i < length xs = omega (arith, lt) in
    ap (λ bytes. f x ++ bytes) (flat_map-take f xs i within) ∙ sym (append_assoc (f x) (flat_map f (take i xs)) (f (get_or xs i 0)))

pub filled-none : (text digits : List ℕ) → text ≡ text ++ filled [] digits
unfolding filled
filled-none text digits = sym (append-nil text)

-- one byte more of the template is filled
pub filled-more : (xs digits old now new : List ℕ) (i : ℕ) → i < length xs → now ≡ old ++ filled (take i xs) digits → new ≡ now ++ filled_byte digits (get_or xs i 0)
    → new ≡ old ++ filled (take (i + 1) xs) digits
unfolding filled
filled-more xs digits old now new i lt so_far more =
    let next : suc i ≡ i + 1 = omega arith in
    more ∙ ap (λ t. t ++ filled_byte digits (get_or xs i 0)) so_far ∙ append_assoc old (filled (take i xs) digits) (filled_byte digits (get_or xs i 0))
    ∙ ap (λ t. old ++ t) (sym (flat_map-take (filled_byte digits) xs i lt)) ∙ ap (λ (n : ℕ). old ++ filled (take n xs) digits) next

pub counters-none : (text : List ℕ) → text ≡ text ++ counters_text 0
unfolding counters_text
counters-none text = sym (append-nil text)

-- one counter more
pub counters-more : (text now new : List ℕ) (n : ℕ) → now ≡ text ++ counters_text n → new ≡ now ++ counter_text n → new ≡ text ++ counters_text (n + 1)
unfolding counters_text
counters-more text now new n so_far more =
    let next : suc n ≡ n + 1 = omega arith in
    more ∙ ap (λ t. t ++ counter_text n) so_far ∙ append_assoc text (counters_text n) (counter_text n) ∙ ap (λ (m : ℕ). text ++ counters_text m) next

-- all of the workload
pub workload-whole : (size reached : ℕ) (counters new : List ℕ) → reached ≡ size → counters ≡ scope_text ++ counters_text reached → new ≡ counters ++ end_text (size - 1) → new ≡ workload_text size
unfolding workload_text
workload-whole size reached counters new all so_far last =
    last ∙ ap (λ t. t ++ end_text (size - 1)) (so_far ∙ ap (λ (n : ℕ). scope_text ++ counters_text n) all)
