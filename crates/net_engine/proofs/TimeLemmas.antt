-- The greatest time over the places of a net delay.
use Rattle.std.proofs.Common.{◌≡◌, ℕ, ◌+◌, ◌<◌, ◌≤◌, pos, Bool, false, if◌then◌else◌, List, [], ◌∷◌, ◌++◌, length, take, get_or, slice_get, Some, refl, sym, ap, ◌∙◌, arith}
use Rattle.std.specs.Prelude.{max}
use Rattle.std.specs.List.{fold, zip}
use Rattle.std.proofs.lemmas.List.{take_more, take_all}
use Rattle.std.proofs.lemmas.Option.{slice_get-get_or, slice_get_within, get_or_from_slice_get, same_Some}
use Rattle.four_state.specs.declared.bits.Bit.{Bit}
use Rattle.strengths.specs.Level.{seen_bit}
use Rattle.net_engine.specs.Net.{seen}
use Rattle.strengths.specs.Interval.{Interval}
use Rattle.net_engine.specs.Delivery.{Times, same_level, time_to, time_of_place, time_between}
use Rattle.net_engine.proofs.MixLemmas.{zip-get, zip-length, map-get}

abbrev pub greatest : Times → List (Interval × Interval) → ℕ
greatest times places = fold (λ most place. max most (time_of_place times place)) 0 places

fold-push : {A B : Type 0} (f : B → A → B) (a : B) (xs : List A) (x : A) → fold f a (xs ++ x ∷ []) ≡ f (fold f a xs) x
fold-push f a [] x = refl
fold-push f a (y ∷ xs) x = fold-push f (f a y) xs x

pub times-more : (times : Times) (old new : List Interval) (i most place result : ℕ) → length old ≡ length new → i < length new → most ≡ greatest times (take i (zip old new))
    → ((was is : Interval) → slice_get old i ≡ Some was → slice_get new i ≡ Some is → place ≡ time_of_place times (was, is)) → result ≡ max most place → result ≡ greatest times (take (i + 1) (zip old new))
times-more times old new i most place result same inside before here is =
    let none : Interval = record { lo = pos 0; hi = pos 0 } in
    let was = get_or old i none in
    let wants = get_or new i none in
    let at_old = slice_get-get_or old i none (omega arith) in
    let at_new = slice_get-get_or new i none inside in
    let at = zip-get old new i was wants at_old at_new in
    let in_zip : i < length (zip old new) = slice_get_within (zip old new) i (was, wants) at in
    let next : take (i + 1) (zip old new) ≡ take i (zip old new) ++ (was, wants) ∷ [] =
    take_more (zip old new) i (was, wants) in_zip ∙ ap (λ (p : Interval × Interval). take i (zip old new) ++ p ∷ []) (get_or_from_slice_get (zip old new) i (was, wants) (was, wants) at) in
    is ∙ ap (λ (n : ℕ). max n place) before ∙ ap (λ (n : ℕ). max (greatest times (take i (zip old new))) n) (here was wants at_old at_new)
    ∙ sym (fold-push (λ most p. max most (time_of_place times p)) 0 (take i (zip old new)) (was, wants)) ∙ ap (greatest times) (sym next)

pub times-all : (times : Times) (old new : List Interval) (i most : ℕ) → length old ≡ length new → length new ≤ i → most ≡ greatest times (take i (zip old new)) → most ≡ time_between times old new
times-all times old new i most same enough is = is ∙ ap (greatest times) (take_all i (zip old new) (omega (arith, zip-length old new same, enough)))

-- ---- one place

pub of-place : (times : Times) (old new : List Interval) (bits : List Bit) (place : ℕ) (a b : Interval) (bit : Bit) (result : ℕ) → slice_get old place ≡ Some a → slice_get new place ≡ Some b → bits ≡ seen new → slice_get bits place ≡ Some bit
    → same_level a b ≡ false → result ≡ time_to times bit → (was is : Interval) → slice_get old place ≡ Some was → slice_get new place ≡ Some is → result ≡ time_of_place times (was, is)
of-place times old new bits place a b bit result at_a at_b are at_bit other gives was is at_was at_is =
    let old_same : a ≡ was = same_Some a was (sym at_a ∙ at_was) in
    let new_same : b ≡ is = same_Some b is (sym at_b ∙ at_is) in
    let seen_as : bit ≡ seen_bit b = same_Some bit (seen_bit b) (sym at_bit ∙ ap (λ (bs : List Bit). slice_get bs place) are ∙ map-get seen_bit new place b at_b) in
    gives ∙ ap (time_to times) seen_as ∙ ap (λ (c : Bool). if c then 0 else time_to times (seen_bit b)) (sym other)
    ∙ ap (λ (x : Interval). time_of_place times (x, b)) old_same ∙ ap (λ (y : Interval). time_of_place times (was, y)) new_same
