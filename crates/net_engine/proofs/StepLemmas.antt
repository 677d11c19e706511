-- One slot is changed, and the plane shows it.
use Rattle.std.proofs.Common.{◌≡◌, ℕ, ◌<◌, ◌≤◌, ◌⊎◌, inl, inr, Bool, Option, Some, None, List, [], ◌++◌, length, map, set, get_or, take, drop, slice_get, refl, sym, ap, subst, ◌∙◌, arith}
use Rattle.std.specs.List.{enumerate_from}
use Rattle.std.proofs.lemmas.Bool.{cases_lt}
use Rattle.std.proofs.lemmas.List.{length-set, length-map, take_at, get_or_default, get_or_past}
use Rattle.std.proofs.lemmas.Option.{slice_get_within, slice_get-get_or, get_or_from_slice_get, same_Some}
use Rattle.four_state.specs.declared.bits.Bit.{Bit}
use Rattle.strengths.specs.Interval.{Interval}
use Rattle.net_engine.specs.declared.store.Change.{Change}
use Rattle.net_engine.specs.Net.{NetValues, Request, driven_of, forced_of, levels_of, array_of, seen, strongly, with_parts}
use Rattle.net_engine.specs.Delivery.{forced_after, driven_after}
use Rattle.net_engine.specs.Slots.{Held, held_levels, driven_in, driving, forcing, released, HasPlaces, IsStored, SlotNow, held_by, helds, IsChanged, IsKept}
use Rattle.net_engine.specs.Parts.{IsChange, place_by_value}
use Rattle.net_engine.proofs.MixLemmas.{read-at}
use Rattle.net_engine.proofs.StoreLemmas.{stored, slot-some, slot-forced, slot-driven, forced-at, slot-levels, slot-sized, held-length, plane-at, plane-width, stored-set, values-set, change-set, released-places, released-long, released-values, place-at, helds-set, helds-get, helds-length, helds-slot}

-- an item that drives something has a slot
pub held-there : (slots : List (Option Held)) (words : List (List (List Bit))) (requests : List Request) (values : NetValues) (item : ℕ) → stored slots words requests ≡ values → 1 ≤ length (driven_of values item)
    → (held : Held) × (slice_get slots item ≡ Some (Some held))
held-there slots words requests values item view there = slot-some slots item (subst (λ (v : NetValues). 1 ≤ length (driven_of v item)) (sym view) there)

-- a slot, and what the plane has of its item
pub record Found (slots : List (Option SlotNow)) (plane : List (List Bit)) (values : NetValues) (item : ℕ) (bits : List Bit) : Type 0 where
  pub slot : SlotNow
  pub at : slice_get slots item ≡ Some (Some slot)
  pub held : slice_get (helds slots plane) item ≡ Some (Some (held_by slot bits))
  pub sized : HasPlaces (Some (held_by slot bits))
  pub wide : length bits ≡ length slot.forced
  pub driven : driven_of values item ≡ (held_by slot bits).driven

pub found : (slots : List (Option SlotNow)) (plane : List (List Bit)) (words : List (List (List Bit))) (requests : List Request) (values : NetValues) (item : ℕ) (bits : List Bit) → IsKept slots plane → stored (helds slots plane) words requests ≡ values
    → 1 ≤ length (driven_of values item) → slice_get plane item ≡ Some bits → Found slots plane values item bits
found slots plane words requests values item bits kept view there read =
    let old = held-there (helds slots plane) words requests values item view there in
    let slot = helds-slot slots plane item old.0 old.1 in
    let held = helds-get slots plane item slot.0 bits slot.1 read in
    let sized = slot-sized (helds slots plane) plane item (held_by slot.0 bits) kept.stored held in
    record {
      slot = slot.0;
      at = slot.1;
      held = held;
      sized = sized;
      wide = ap length (sym (get_or_from_slice_get plane item bits [] read)) ∙ plane-width (helds slots plane) plane item (held_by slot.0 bits) kept.stored held ∙ sym sized.2;
      driven = ap (λ (v : NetValues). driven_of v item) (sym view) ∙ slot-driven (helds slots plane) item (held_by slot.0 bits) held;
    }

-- an item that drives something has a place in the plane
pub place-there : (slots : List (Option SlotNow)) (plane : List (List Bit)) (words : List (List (List Bit))) (requests : List Request) (values : NetValues) (item : ℕ) → IsKept slots plane → stored (helds slots plane) words requests ≡ values
    → 1 ≤ length (driven_of values item) → item < length plane
place-there slots plane words requests values item kept view there =
    let old = held-there (helds slots plane) words requests values item view there in
    let inside = slice_get_within (helds slots plane) item (Some old.0) old.1 in
    omega (arith, inside, helds-length slots plane kept.places)

-- and a slot
pub slot-there : (slots : List (Option SlotNow)) (plane : List (List Bit)) (words : List (List (List Bit))) (requests : List Request) (values : NetValues) (item : ℕ) → stored (helds slots plane) words requests ≡ values
    → 1 ≤ length (driven_of values item) → (slot : SlotNow) × (slice_get slots item ≡ Some (Some slot))
slot-there slots plane words requests values item view there =
    let old = held-there (helds slots plane) words requests values item view there in
    helds-slot slots plane item old.0 old.1

-- a slot was changed so that the value is what f makes of it
pub record Stepped (f : Held → Held) (slots new : List (Option SlotNow)) (plane : List (List Bit)) (item : ℕ) (before after : List Interval) : Type 0 where
  pub held : Held
  pub at : slice_get (helds slots plane) item ≡ Some (Some held)
  pub sized : HasPlaces (Some held)
  pub places : HasPlaces (Some (f held))
  pub same : length (f held).driven ≡ length held.driven
  pub count : length new ≡ length slots
  pub slot : helds new (set plane item (seen after)) ≡ set (helds slots plane) item (Some (f held))
  pub was : before ≡ held_levels held
  pub is : after ≡ held_levels (f held)

pub stepped : (f : Held → Held) (slots slice new : List (Option SlotNow)) (plane : List (List Bit)) (words : List (List (List Bit))) (requests : List Request) (values : NetValues) (item : ℕ) (bits : List Bit) (before after : List Interval)
    → IsKept slots plane → stored (helds slots plane) words requests ≡ values → 1 ≤ length (driven_of values item) → slice ≡ slots → slice_get plane item ≡ Some bits
    → ((held : Held) → slice_get (helds slots plane) item ≡ Some (Some held) → HasPlaces (Some held) → HasPlaces (Some (f held)) × (length (f held).driven ≡ length held.driven))
    → IsChanged f slice new item bits before after → Stepped f slots new plane item before after
stepped f slots slice new plane words requests values item bits before after kept view there lent read keeps said =
    let held = held_by said.was bits in
    let at = helds-get slots plane item said.was bits (ap (λ (ss : List (Option SlotNow)). slice_get ss item) (sym lent) ∙ said.there) read in
    let sized = slot-sized (helds slots plane) plane item held kept.stored at in
    let stays = keeps held at sized in
    let now : new ≡ set slots item (Some said.is) = said.set ∙ ap (λ (ss : List (Option SlotNow)). set ss item (Some said.is)) lent in
    record {
      held = held;
      at = at;
      sized = sized;
      places = stays.0;
      same = stays.1;
      count = ap length now ∙ length-set slots item (Some said.is);
      slot = ap (λ (ss : List (Option SlotNow)). helds ss (set plane item (seen after))) now ∙ helds-set slots plane item said.is (seen after)
          ∙ ap (λ (h : Held). set (helds slots plane) item (Some h)) (ap (λ (l : List Interval). held_by said.is (seen l)) said.shows ∙ said.keeps);
      was = said.showed;
      is = said.shows;
    }

pub stepped-same : (f : Held → Held) (slots new : List (Option SlotNow)) (plane : List (List Bit)) (item : ℕ) (before after : List Interval) → Stepped f slots new plane item before after → length after ≡ length before
stepped-same f slots new plane item before after s =
    ap length s.is ∙ held-length (f s.held) s.places.2 ∙ s.same ∙ sym (ap length s.was ∙ held-length s.held s.sized.2)

pub stepped-width : (f : Held → Held) (slots new : List (Option SlotNow)) (plane : List (List Bit)) (item : ℕ) (before after : List Interval) → IsKept slots plane → Stepped f slots new plane item before after → length after ≡ length (get_or plane item [])
stepped-width f slots new plane item before after kept s =
    ap length s.is ∙ held-length (f s.held) s.places.2 ∙ s.same ∙ sym (plane-width (helds slots plane) plane item s.held kept.stored s.at)

-- the slots of a store, after a slice of them was changed
pub refilled : {X : Type 0} (len : ℕ) (items new : List X) → len ≡ length items → length new ≡ length items → take len (new ++ drop (length new) items) ≡ new
refilled len items new long same = take_at new (drop (length new) items) len (same ∙ sym long)

-- the values of all items afterwards
stepped-helds : (f : Held → Held) (slots new last : List (Option SlotNow)) (plane new_plane : List (List Bit)) (item : ℕ) (before after : List Interval) → (s : Stepped f slots new plane item before after) → last ≡ new → new_plane ≡ set plane item (seen after)
    → helds last new_plane ≡ set (helds slots plane) item (Some (f s.held))
stepped-helds f slots new last plane new_plane item before after s back shown =
    ap (λ (ss : List (Option SlotNow)). helds ss new_plane) back ∙ ap (helds new) shown ∙ s.slot

pub stepped-kept : (f : Held → Held) (slots new last : List (Option SlotNow)) (plane new_plane : List (List Bit)) (item : ℕ) (before after : List Interval) → IsKept slots plane → Stepped f slots new plane item before after → last ≡ new
    → new_plane ≡ set plane item (seen after) → IsKept last new_plane
stepped-kept f slots new last plane new_plane item before after kept s back shown = record {
  places = ap length shown ∙ length-set plane item (seen after) ∙ kept.places ∙ sym s.count ∙ sym (ap length back);
  stored = stored-set (helds slots plane) (helds last new_plane) plane new_plane item (f s.held) (seen after) kept.stored s.places (stepped-helds f slots new last plane new_plane item before after s back shown) shown (ap seen s.is);
}

pub stepped-values : (f : Held → Held) (slots new last : List (Option SlotNow)) (plane new_plane : List (List Bit)) (words : List (List (List Bit))) (requests : List Request) (item : ℕ) (before after : List Interval) → (s : Stepped f slots new plane item before after) → last ≡ new
    → new_plane ≡ set plane item (seen after) → stored (helds last new_plane) words requests ≡ with_parts item (f s.held).driven (f s.held).forced (stored (helds slots plane) words requests)
stepped-values f slots new last plane new_plane words requests item before after s back shown =
    values-set (helds slots plane) (helds last new_plane) words requests item (f s.held) (stepped-helds f slots new last plane new_plane item before after s back shown)

pub stepped-change : (f : Held → Held) (change : Option Change) (slots new last : List (Option SlotNow)) (plane new_plane : List (List Bit)) (words : List (List (List Bit))) (requests : List Request) (values : NetValues) (item : ℕ) (before after : List Interval)
    → Stepped f slots new plane item before after → last ≡ new → new_plane ≡ set plane item (seen after) → stored (helds slots plane) words requests ≡ values → IsChange change before after
    → IsChange change (levels_of values item) (levels_of (stored (helds last new_plane) words requests) item)
stepped-change f change slots new last plane new_plane words requests values item before after s back shown view is =
    subst (λ (v : NetValues). IsChange change (levels_of v item) (levels_of (stored (helds last new_plane) words requests) item)) view
    (change-set change (helds slots plane) (helds last new_plane) words requests item s.held (f s.held) before after s.at (stepped-helds f slots new last plane new_plane item before after s back shown) s.was s.is is)

-- ---- driving

pub drive-keeps : (slots : List (Option Held)) (words : List (List (List Bit))) (requests : List Request) (values : NetValues) (item : ℕ) (levels : List Interval) → stored slots words requests ≡ values → length levels ≡ length (driven_of values item)
    → (held : Held) → slice_get slots item ≡ Some (Some held) → HasPlaces (Some held) → HasPlaces (Some (driving levels held)) × (length levels ≡ length held.driven)
drive-keeps slots words requests values item levels view width held at sized =
    let same : length levels ≡ length held.driven = width ∙ ap (λ (v : NetValues). length (driven_of v item)) (sym view) ∙ ap length (slot-driven slots item held at) in
    let least = sized.0 in
    let most = sized.1 in
    ((omega (arith, same, least), omega (arith, same, most), sized.2 ∙ sym same), same)

pub drive-values : (slots new last : List (Option SlotNow)) (plane new_plane : List (List Bit)) (words : List (List (List Bit))) (requests : List Request) (values : NetValues) (item : ℕ) (levels before after : List Interval)
    → Stepped (driving levels) slots new plane item before after → last ≡ new → new_plane ≡ set plane item (seen after) → stored (helds slots plane) words requests ≡ values
    → stored (helds last new_plane) words requests ≡ with_parts item levels (forced_of values item) values
drive-values slots new last plane new_plane words requests values item levels before after s back shown view =
    stepped-values (driving levels) slots new last plane new_plane words requests item before after s back shown
    ∙ ap (λ (f : List (Option Interval)). with_parts item levels f (stored (helds slots plane) words requests)) (sym (forced-at (helds slots plane) item s.held s.at))
    ∙ ap (λ (v : NetValues). with_parts item levels (forced_of v item) v) view

-- ---- forcing

pub force-keeps : (slots : List (Option Held)) (words : List (List (List Bit))) (requests : List Request) (values : NetValues) (item : ℕ) (levels : List Interval) → stored slots words requests ≡ values → length levels ≡ length (driven_of values item)
    → (held : Held) → slice_get slots item ≡ Some (Some held) → HasPlaces (Some held) → HasPlaces (Some (forcing levels held)) × (length held.driven ≡ length held.driven)
force-keeps slots words requests values item levels view width held at sized =
    let same : length levels ≡ length held.driven = width ∙ ap (λ (v : NetValues). length (driven_of v item)) (sym view) ∙ ap length (slot-driven slots item held at) in
    let long : length (map Some levels) ≡ length levels = length-map levels Some in
    ((sized.0, sized.1, long ∙ same), refl)

pub force-values : (slots new last : List (Option SlotNow)) (plane new_plane : List (List Bit)) (words : List (List (List Bit))) (requests : List Request) (values : NetValues) (item : ℕ) (levels before after : List Interval) (value : List Bit)
    → Stepped (forcing levels) slots new plane item before after → last ≡ new → new_plane ≡ set plane item (seen after) → stored (helds slots plane) words requests ≡ values → levels ≡ strongly value
    → stored (helds last new_plane) words requests ≡ with_parts item (driven_of values item) (map Some (strongly value)) values
force-values slots new last plane new_plane words requests values item levels before after value s back shown view is =
    stepped-values (forcing levels) slots new last plane new_plane words requests item before after s back shown
    ∙ ap (λ (d : List Interval). with_parts item d (map Some levels) (stored (helds slots plane) words requests)) (sym (slot-driven (helds slots plane) item s.held s.at))
    ∙ ap (λ (v : NetValues). with_parts item (driven_of v item) (map Some levels) v) view
    ∙ ap (λ (l : List Interval). with_parts item (driven_of values item) (map Some l) values) is

-- ---- releasing

pub release-keeps : (base width : ℕ) (keep : Bool) (held : Held) → HasPlaces (Some held) → HasPlaces (Some (released base width keep held)) × (length (released base width keep held).driven ≡ length held.driven)
release-keeps base width keep held sized = (released-places base width keep held sized, released-long base width keep held sized)

pub release-values : (base width : ℕ) (keep : Bool) (slots new last : List (Option SlotNow)) (plane new_plane : List (List Bit)) (words : List (List (List Bit))) (requests : List Request) (values : NetValues) (item : ℕ) (before after : List Interval)
    → Stepped (released base width keep) slots new plane item before after → last ≡ new → new_plane ≡ set plane item (seen after) → stored (helds slots plane) words requests ≡ values
    → stored (helds last new_plane) words requests ≡ with_parts item (driven_after base width keep values item) (map (forced_after base width) (enumerate_from 0 (forced_of values item))) values
release-values base width keep slots new last plane new_plane words requests values item before after s back shown view =
    stepped-values (released base width keep) slots new last plane new_plane words requests item before after s back shown
    ∙ released-values base width keep (helds slots plane) words requests item s.held s.at
    ∙ ap (λ (v : NetValues). with_parts item (driven_after base width keep v item) (map (forced_after base width) (enumerate_from 0 (forced_of v item))) v) view

-- ---- reading

-- a slot that was read
pub slot-read : (slots : List (Option SlotNow)) (plane : List (List Bit)) (words : List (List (List Bit))) (requests : List Request) (values : NetValues) (item : ℕ) (read : Option SlotNow) (slot : SlotNow) → stored (helds slots plane) words requests ≡ values
    → 1 ≤ length (driven_of values item) → read ≡ get_or slots item read → read ≡ Some slot → slice_get slots item ≡ Some (Some slot)
slot-read slots plane words requests values item read slot view there at is =
    let old = slot-there slots plane words requests values item view there in
    read-at slots item read (slice_get_within slots item (Some old.0) old.1) at ∙ ap (λ (o : Option SlotNow). Some o) is

pub no-slot : (slots : List (Option SlotNow)) (plane : List (List Bit)) (words : List (List (List Bit))) (requests : List Request) (values : NetValues) (item : ℕ) (read : Option SlotNow) → stored (helds slots plane) words requests ≡ values
    → 1 ≤ length (driven_of values item) → read ≡ get_or slots item read → read ≡ None → ⊥
no-slot slots plane words requests values item read view there at is =
    let old = slot-there slots plane words requests values item view there in
    let same : Some old.0 ≡ None = same_Some (Some old.0) read (sym old.1 ∙ read-at slots item read (slice_get_within slots item (Some old.0) old.1) at) ∙ is in
    cc

-- so has an item with a place on which something may be forced
forced-slot : (slots : List (Option SlotNow)) (plane : List (List Bit)) (words : List (List (List Bit))) (requests : List Request) (values : NetValues) (item place : ℕ) → IsKept slots plane → stored (helds slots plane) words requests ≡ values
    → place < length (forced_of values item) → (slot : SlotNow) × (slice_get slots item ≡ Some (Some slot)) × (item < length plane)
forced-slot slots plane words requests values item place kept view within =
    let old = slot-forced (helds slots plane) item place (subst (λ (v : NetValues). place < length (forced_of v item)) (sym view) within) in
    let slot = helds-slot slots plane item old.0 old.1 in
    let inside = slice_get_within (helds slots plane) item (Some old.0) old.1 in
    (slot.0, slot.1, omega (arith, inside, helds-length slots plane kept.places))

pub forced-get : (slots : List (Option SlotNow)) (plane : List (List Bit)) (words : List (List (List Bit))) (requests : List Request) (values : NetValues) (item place : ℕ) (read : Option SlotNow) (slot : SlotNow) → IsKept slots plane → stored (helds slots plane) words requests ≡ values
    → place < length (forced_of values item) → read ≡ get_or slots item read → read ≡ Some slot → slot.forced ≡ forced_of values item
forced-get slots plane words requests values item place read slot kept view within at is =
    let old = forced-slot slots plane words requests values item place kept view within in
    let there : slice_get slots item ≡ Some (Some slot) = read-at slots item read (slice_get_within slots item (Some old.0) old.1) at ∙ ap (λ (o : Option SlotNow). Some o) is in
    sym (forced-at (helds slots plane) item (held_by slot (get_or plane item [])) (helds-get slots plane item slot (get_or plane item []) there (slice_get-get_or plane item [] old.2))) ∙ ap (λ (v : NetValues). forced_of v item) view

pub forced-none : (slots : List (Option SlotNow)) (plane : List (List Bit)) (words : List (List (List Bit))) (requests : List Request) (values : NetValues) (item place : ℕ) (read : Option SlotNow) → IsKept slots plane → stored (helds slots plane) words requests ≡ values
    → place < length (forced_of values item) → read ≡ get_or slots item read → read ≡ None → ⊥
forced-none slots plane words requests values item place read kept view within at is =
    let old = forced-slot slots plane words requests values item place kept view within in
    let same : Some old.0 ≡ None = same_Some (Some old.0) read (sym old.1 ∙ read-at slots item read (slice_get_within slots item (Some old.0) old.1) at) ∙ is in
    cc

-- its places are as many as the bits that the plane has of it
pub slot-wide : (slots : List (Option SlotNow)) (plane : List (List Bit)) (item : ℕ) (slot : SlotNow) (bits : List Bit) → IsKept slots plane → slice_get slots item ≡ Some (Some slot) → slice_get plane item ≡ Some bits → length bits ≡ length slot.forced
slot-wide slots plane item slot bits kept at read =
    let held = helds-get slots plane item slot bits at read in
    ap length (sym (get_or_from_slice_get plane item bits [] read)) ∙ plane-width (helds slots plane) plane item (held_by slot bits) kept.stored held
    ∙ sym (slot-sized (helds slots plane) plane item (held_by slot bits) kept.stored held).2

-- what drives an item whose slot was read
pub driven-read : (slots : List (Option SlotNow)) (plane : List (List Bit)) (words : List (List (List Bit))) (requests : List Request) (values : NetValues) (item : ℕ) (slot : SlotNow) (bits : List Bit) → stored (helds slots plane) words requests ≡ values
    → slice_get slots item ≡ Some (Some slot) → slice_get plane item ≡ Some bits → (held_by slot bits).driven ≡ driven_of values item
driven-read slots plane words requests values item slot bits view at read =
    sym (slot-driven (helds slots plane) item (held_by slot bits) (helds-get slots plane item slot bits at read)) ∙ ap (λ (v : NetValues). driven_of v item) view

-- the levels that it shows
pub shown-read : (slots : List (Option SlotNow)) (plane : List (List Bit)) (words : List (List (List Bit))) (requests : List Request) (values : NetValues) (item : ℕ) (slot : SlotNow) (bits : List Bit) → stored (helds slots plane) words requests ≡ values
    → slice_get slots item ≡ Some (Some slot) → slice_get plane item ≡ Some bits → held_levels (held_by slot bits) ≡ levels_of values item
shown-read slots plane words requests values item slot bits view at read =
    sym (slot-levels (helds slots plane) words requests item (held_by slot bits) (helds-get slots plane item slot bits at read)) ∙ ap (λ (v : NetValues). levels_of v item) view

-- the bits of an item that were read
pub bits-read : (slots : List (Option Held)) (plane : List (List Bit)) (words : List (List (List Bit))) (requests : List Request) (values : NetValues) (item : ℕ) (bits : List Bit) → IsStored slots plane → stored slots words requests ≡ values → 1 ≤ length (driven_of values item)
    → slice_get plane item ≡ Some bits → bits ≡ seen (levels_of values item)
bits-read slots plane words requests values item bits kept view there read =
    let old = held-there slots words requests values item view there in
    let same : Some bits ≡ Some (seen (held_levels old.0)) = sym read ∙ plane-at slots plane item old.0 kept old.1 in
    same_Some bits (seen (held_levels old.0)) same ∙ ap seen (sym (slot-levels slots words requests item old.0 old.1)) ∙ ap (λ (v : NetValues). seen (levels_of v item)) view

-- the place of an item in the plane
pub place-read : (slots : List (Option Held)) (plane : List (List Bit)) (words : List (List (List Bit))) (requests : List Request) (values : NetValues) (item : ℕ) → IsStored slots plane → stored slots words requests ≡ values → item < length values.driven
    → slice_get plane item ≡ Some (place_by_value values item)
place-read slots plane words requests values item kept view inside =
    let within : item < length slots = (let many : length (map driven_in slots) ≡ length values.driven = ap (λ (v : NetValues). length v.driven) view in let long = length-map slots driven_in in omega (arith, many, long, inside)) in
    place-at slots plane words requests item kept within ∙ ap (λ (v : NetValues). Some (place_by_value v item)) view

-- a word of an array that was read
pub word-read : (words : List (List (List Bit))) (values : NetValues) (array word : ℕ) (list inner : List (List Bit)) (bits : List Bit) → words ≡ values.words → word < length (array_of values array) → list ≡ get_or words array list → inner ≡ list → bits ≡ get_or inner word bits
    → slice_get (array_of values array) word ≡ Some bits
word-read words values array word list inner bits view inside read_list same read =
    let long : word < length (get_or words array []) = subst (λ (ws : List (List (List Bit))). word < length (get_or ws array [])) (sym view) inside in
    let at : list ≡ get_or words array [] = read_list ∙ defaults (cases_lt array (length words)) in
    let whole : inner ≡ array_of values array = same ∙ at ∙ ap (λ (ws : List (List (List Bit))). get_or ws array []) view in
    ap (λ ls. slice_get ls word) (sym whole) ∙ read-at inner word bits (omega (arith, ap length whole, inside)) read
  where
    defaults : (array < length words) ⊎ (length words ≤ array) → get_or words array list ≡ get_or words array []
    defaults (inl here) = get_or_default words array list [] here
    defaults (inr past) =
        let none : get_or words array [] ≡ [] = get_or_past words array [] past in
        let long : word < length (get_or words array []) = subst (λ (ws : List (List (List Bit))). word < length (get_or ws array [])) (sym view) inside in
        absurd (omega (arith, ap length none, long))
