-- How slots and the plane keep the values of items.
use Rattle.std.proofs.Common.{◌≡◌, ℕ, zero, suc, ◌<◌, ◌≤◌, Bool, true, false, nat_eq, if◌then◌else◌, Option, Some, None, List, [], ◌∷◌, length, map, set, get_or, slice_get, refl, sym, ap, subst, ◌∙◌, arith}
use Rattle.std.specs.List.{All, zip, enumerate_from}
use Rattle.std.proofs.lemmas.List.{length-map, map-set}
use Rattle.std.proofs.lemmas.List.Elements.{All-set}
use Rattle.std.proofs.lemmas.List.FromFn.{length-enumerate_from}
use Rattle.std.proofs.lemmas.Option.{slice_get-get_or, slice_get_within, get_or_from_slice_get}
use Rattle.four_state.specs.declared.bits.Bit.{Bit}
use Rattle.four_state.specs.declared.bits.Bit.TheVariants.{Unknown}
use Rattle.std.proofs.lemmas.Bool.Decides.{nat_tests}
use Rattle.strengths.specs.Interval.{Interval}
use Rattle.strengths.specs.Level.{seen_bit}
use Rattle.net_engine.specs.declared.store.Change.{Change}
use Rattle.net_engine.specs.Net.{NetValues, Request, forced_of, levels_of, seen, shown_level, with_parts}
use Rattle.net_engine.specs.Delivery.{forced_after, kept_after, driven_after}
use Rattle.net_engine.specs.Slots.{Held, held_levels, driven_in, forced_in, place_in, released, released_driven, HasPlaces, IsStored, SlotNow, held_by, held_in, helds}
use Rattle.net_engine.specs.Parts.{IsChange, place_by_value}
use Rattle.net_engine.proofs.MixLemmas.{map-get, zip-get, zip-length}

-- the values that slots, words and requests have
abbrev pub stored : List (Option Held) → List (List (List Bit)) → List Request → NetValues
stored slots words requests = record { driven = map driven_in slots; forced = map forced_in slots; words = words; requests = requests }

-- ---- values by slots and the plane

zip-set : {X Y : Type 0} (xs : List X) (ys : List Y) (i : ℕ) (x : X) (y : Y) → zip (set xs i x) (set ys i y) ≡ set (zip xs ys) i (x, y)
zip-set [] ys i x y = refl
zip-set (a ∷ xs) [] zero x y = refl
zip-set (a ∷ xs) [] (suc i) x y = refl
zip-set (a ∷ xs) (b ∷ ys) zero x y = refl
zip-set (a ∷ xs) (b ∷ ys) (suc i) x y = ap (λ rest. (a, b) ∷ rest) (zip-set xs ys i x y)

pub helds-set : (slots : List (Option SlotNow)) (plane : List (List Bit)) (item : ℕ) (slot : SlotNow) (bits : List Bit) → helds (set slots item (Some slot)) (set plane item bits) ≡ set (helds slots plane) item (Some (held_by slot bits))
helds-set slots plane item slot bits = ap (map held_in) (zip-set slots plane item (Some slot) bits) ∙ map-set held_in (zip slots plane) item (Some slot, bits)

pub helds-get : (slots : List (Option SlotNow)) (plane : List (List Bit)) (item : ℕ) (slot : SlotNow) (bits : List Bit) → slice_get slots item ≡ Some (Some slot) → slice_get plane item ≡ Some bits → slice_get (helds slots plane) item ≡ Some (Some (held_by slot bits))
helds-get slots plane item slot bits at read = map-get held_in (zip slots plane) item (Some slot, bits) (zip-get slots plane item (Some slot) bits at read)

pub helds-length : (slots : List (Option SlotNow)) (plane : List (List Bit)) → length plane ≡ length slots → length (helds slots plane) ≡ length plane
helds-length slots plane same = length-map (zip slots plane) held_in ∙ zip-length slots plane (sym same)

-- an item that has a value has a slot
pub helds-slot : (slots : List (Option SlotNow)) (plane : List (List Bit)) (item : ℕ) (held : Held) → slice_get (helds slots plane) item ≡ Some (Some held) → (slot : SlotNow) × (slice_get slots item ≡ Some (Some slot))
helds-slot [] plane item held at = cc
helds-slot (slot ∷ slots) [] item held at = cc
helds-slot (None ∷ slots) (place ∷ plane) zero held at = cc
helds-slot (Some slot ∷ slots) (place ∷ plane) zero held at = (slot, refl)
helds-slot (slot ∷ slots) (place ∷ plane) (suc item) held at = helds-slot slots plane item held at

-- ---- reading

-- an item that drives something has a slot
pub slot-some : (slots : List (Option Held)) (item : ℕ) → 1 ≤ length (get_or (map driven_in slots) item []) → (held : Held) × (slice_get slots item ≡ Some (Some held))
slot-some [] item least = absurd (omega (arith, least))
slot-some (None ∷ slots) zero least = absurd (omega (arith, least))
slot-some (Some held ∷ slots) zero least = (held, refl)
slot-some (slot ∷ slots) (suc item) least = slot-some slots item least

-- so has one with a place on which something may be forced
pub slot-forced : (slots : List (Option Held)) (item place : ℕ) → place < length (get_or (map forced_in slots) item []) → (held : Held) × (slice_get slots item ≡ Some (Some held))
slot-forced [] item place inside = absurd (omega (arith, inside))
slot-forced (None ∷ slots) zero place inside = absurd (omega (arith, inside))
slot-forced (Some held ∷ slots) zero place inside = (held, refl)
slot-forced (slot ∷ slots) (suc item) place inside = slot-forced slots item place inside

pub slot-driven : (slots : List (Option Held)) (item : ℕ) (held : Held) → slice_get slots item ≡ Some (Some held) → get_or (map driven_in slots) item [] ≡ held.driven
slot-driven slots item held at = get_or_from_slice_get (map driven_in slots) item held.driven [] (map-get driven_in slots item (Some held) at)

pub forced-at : (slots : List (Option Held)) (item : ℕ) (held : Held) → slice_get slots item ≡ Some (Some held) → get_or (map forced_in slots) item [] ≡ held.forced
forced-at slots item held at = get_or_from_slice_get (map forced_in slots) item held.forced [] (map-get forced_in slots item (Some held) at)

pub slot-levels : (slots : List (Option Held)) (words : List (List (List Bit))) (requests : List Request) (item : ℕ) (held : Held) → slice_get slots item ≡ Some (Some held)
    → levels_of (stored slots words requests) item ≡ held_levels held
unfolding levels_of
slot-levels slots words requests item held at =
    ap (λ (f : List (Option Interval)). map shown_level (zip f (get_or (map driven_in slots) item []))) (forced-at slots item held at)
    ∙ ap (λ (d : List Interval). map shown_level (zip held.forced d)) (slot-driven slots item held at)

pub slot-sized : (slots : List (Option Held)) (plane : List (List Bit)) (item : ℕ) (held : Held) → IsStored slots plane → slice_get slots item ≡ Some (Some held) → HasPlaces (Some held)
slot-sized slots plane item held kept at =
    subst HasPlaces (get_or_from_slice_get slots item (Some held) None at) (kept.sized item None (slice_get_within slots item (Some held) at))

-- as many levels as places
pub held-length : (held : Held) → length held.forced ≡ length held.driven → length (held_levels held) ≡ length held.driven
held-length held same = length-map (zip held.forced held.driven) shown_level ∙ zip-length held.forced held.driven same

-- the place of an item in the plane
pub plane-at : (slots : List (Option Held)) (plane : List (List Bit)) (item : ℕ) (held : Held) → IsStored slots plane → slice_get slots item ≡ Some (Some held) → slice_get plane item ≡ Some (seen (held_levels held))
plane-at slots plane item held kept at = ap (λ (p : List (List Bit)). slice_get p item) kept.shown ∙ map-get place_in slots item (Some held) at

pub plane-width : (slots : List (Option Held)) (plane : List (List Bit)) (item : ℕ) (held : Held) → IsStored slots plane → slice_get slots item ≡ Some (Some held) → length (get_or plane item []) ≡ length held.driven
plane-width slots plane item held kept at =
    ap length (get_or_from_slice_get plane item (seen (held_levels held)) [] (plane-at slots plane item held kept at))
    ∙ length-map (held_levels held) seen_bit ∙ held-length held (slot-sized slots plane item held kept at).2

-- ---- writing

pub stored-set : (slots new_slots : List (Option Held)) (plane new_plane : List (List Bit)) (item : ℕ) (held : Held) (bits : List Bit) → IsStored slots plane → HasPlaces (Some held)
    → new_slots ≡ set slots item (Some held) → new_plane ≡ set plane item bits → bits ≡ seen (held_levels held) → IsStored new_slots new_plane
stored-set slots new_slots plane new_plane item held bits kept places slot shown same = record {
  shown = shown ∙ ap (λ (p : List (List Bit)). set p item bits) kept.shown ∙ ap (λ (b : List Bit). set (map place_in slots) item b) same ∙ sym (map-set place_in slots item (Some held)) ∙ ap (map place_in) (sym slot);
  sized = subst (All HasPlaces) (sym slot) (All-set HasPlaces slots item (Some held) places kept.sized);
}

pub values-set : (slots new_slots : List (Option Held)) (words : List (List (List Bit))) (requests : List Request) (item : ℕ) (held : Held) → new_slots ≡ set slots item (Some held)
    → stored new_slots words requests ≡ with_parts item held.driven held.forced (stored slots words requests)
values-set slots new_slots words requests item held slot =
    ap (λ (ss : List (Option Held)). stored ss words requests) slot
    ∙ ap (λ (d : List (List Interval)). (let v : NetValues = record { driven = d; forced = map forced_in (set slots item (Some held)); words = words; requests = requests } in v)) (map-set driven_in slots item (Some held))
    ∙ ap (λ (f : List (List (Option Interval))). (let v : NetValues = record { driven = set (map driven_in slots) item held.driven; forced = f; words = words; requests = requests } in v)) (map-set forced_in slots item (Some held))

pub set-at : {X : Type 0} (xs : List X) (i : ℕ) (x y : X) → slice_get xs i ≡ Some x → slice_get (set xs i y) i ≡ Some y
set-at [] i x y at = cc
set-at (a ∷ xs) zero x y at = refl
set-at (a ∷ xs) (suc i) x y at = set-at xs i x y at

-- what changed, by the levels before and after
pub change-set : (change : Option Change) (slots new_slots : List (Option Held)) (words : List (List (List Bit))) (requests : List Request) (item : ℕ) (held new_held : Held) (old_levels new_levels : List Interval)
    → slice_get slots item ≡ Some (Some held) → new_slots ≡ set slots item (Some new_held) → old_levels ≡ held_levels held → new_levels ≡ held_levels new_held → IsChange change old_levels new_levels
    → IsChange change (levels_of (stored slots words requests) item) (levels_of (stored new_slots words requests) item)
change-set change slots new_slots words requests item held new_held old_levels new_levels at slot old new is =
    let there : slice_get new_slots item ≡ Some (Some new_held) = ap (λ (ss : List (Option Held)). slice_get ss item) slot ∙ set-at slots item (Some held) (Some new_held) at in
    let before : old_levels ≡ levels_of (stored slots words requests) item = old ∙ sym (slot-levels slots words requests item held at) in
    let after : new_levels ≡ levels_of (stored new_slots words requests) item = new ∙ sym (slot-levels new_slots words requests item new_held there) in
    subst (λ (n : List Interval). IsChange change (levels_of (stored slots words requests) item) n) after (subst (λ (o : List Interval). IsChange change o new_levels) before is)

-- ---- releases

pub released-places : (base width : ℕ) (keep : Bool) (held : Held) → HasPlaces (Some held) → HasPlaces (Some (released base width keep held))
released-places base width true held h =
    let driven = length-map (enumerate_from 0 (zip held.forced held.driven)) (kept_after base width) ∙ length-enumerate_from 0 (zip held.forced held.driven) ∙ zip-length held.forced held.driven h.2 in
    let forced = length-map (enumerate_from 0 held.forced) (forced_after base width) ∙ length-enumerate_from 0 held.forced in
    let least = h.0 in let most = h.1 in
    (omega (arith, driven, least), omega (arith, driven, most), forced ∙ h.2 ∙ sym driven)
released-places base width false held h =
    let forced = length-map (enumerate_from 0 held.forced) (forced_after base width) ∙ length-enumerate_from 0 held.forced in
    (h.0, h.1, forced ∙ h.2)

pub released-long : (base width : ℕ) (keep : Bool) (held : Held) → HasPlaces (Some held) → length (released base width keep held).driven ≡ length held.driven
released-long base width true held h = length-map (enumerate_from 0 (zip held.forced held.driven)) (kept_after base width) ∙ length-enumerate_from 0 (zip held.forced held.driven) ∙ zip-length held.forced held.driven h.2
released-long base width false held h = refl

-- what drives an item after a release, by its slot
pub released-values : (base width : ℕ) (keep : Bool) (slots : List (Option Held)) (words : List (List (List Bit))) (requests : List Request) (item : ℕ) (held : Held) → slice_get slots item ≡ Some (Some held)
    → with_parts item (released base width keep held).driven (released base width keep held).forced (stored slots words requests)
    ≡ with_parts item (driven_after base width keep (stored slots words requests) item) (map (forced_after base width) (enumerate_from 0 (forced_of (stored slots words requests) item))) (stored slots words requests)
released-values base width keep slots words requests item held at =
    ap (λ (f : List (Option Interval)). with_parts item (released_driven base width keep held) (map (forced_after base width) (enumerate_from 0 f)) (stored slots words requests)) (sym (forced-at slots item held at))
    ∙ ap (λ (d : List Interval). with_parts item d (map (forced_after base width) (enumerate_from 0 (forced_of (stored slots words requests) item))) (stored slots words requests)) (go keep)
  where
    go : (k : Bool) → released_driven base width k held ≡ driven_after base width k (stored slots words requests) item
    go true =
        ap (λ (f : List (Option Interval)). map (kept_after base width) (enumerate_from 0 (zip f held.driven))) (sym (forced-at slots item held at))
        ∙ ap (λ (d : List Interval). map (kept_after base width) (enumerate_from 0 (zip (get_or (map forced_in slots) item []) d))) (sym (slot-driven slots item held at))
    go false = sym (slot-driven slots item held at)

-- ---- the plane

-- the place of an item, by whether it has a value
pub place-at : (slots : List (Option Held)) (plane : List (List Bit)) (words : List (List (List Bit))) (requests : List Request) (item : ℕ) → IsStored slots plane → item < length slots
    → slice_get plane item ≡ Some (place_by_value (stored slots words requests) item)
place-at slots plane words requests item kept inside = go (get_or slots item None) (slice_get-get_or slots item None inside) where
  go : (slot : Option Held) → slice_get slots item ≡ Some slot → slice_get plane item ≡ Some (place_by_value (stored slots words requests) item)
  go None at =
      let empty : get_or (map driven_in slots) item [] ≡ [] = get_or_from_slice_get (map driven_in slots) item [] [] (map-get driven_in slots item None at) in
      ap (λ (p : List (List Bit)). slice_get p item) kept.shown ∙ map-get place_in slots item None at
      ∙ ap (λ (b : Bool). Some (if b then Unknown ∷ [] else seen (levels_of (stored slots words requests) item))) (sym (ap (λ (d : List Interval). nat_eq (length d) 0) empty))
  go (Some held) at =
      let some : nat_eq (length (get_or (map driven_in slots) item [])) 0 ≡ false =
      (let least = (slot-sized slots plane item held kept at).0 in let same = ap length (slot-driven slots item held at) in grind (arith, nat_tests)) in
      plane-at slots plane item held kept at ∙ ap (λ (l : List Interval). Some (seen l)) (sym (slot-levels slots words requests item held at))
      ∙ ap (λ (b : Bool). Some (if b then Unknown ∷ [] else seen (levels_of (stored slots words requests) item))) (sym some)
