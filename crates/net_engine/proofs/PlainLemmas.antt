-- An item of which the plane alone has the value.
use Rattle.std.proofs.Common.{◌≡◌, ℕ, ◌≤◌, Bool, true, false, Option, Some, None, List, [], length, set, get_or, slice_get, refl, sym, ap, subst, ◌∙◌}
use Rattle.std.specs.Prelude.{unwrap_or}
use Rattle.std.proofs.lemmas.List.{length-map}
use Rattle.std.proofs.lemmas.Option.{slice_get-get_or, get_or_from_slice_get}
use Rattle.four_state.specs.declared.bits.Bit.{Bit}
use Rattle.strengths.specs.Interval.{Interval}
use Rattle.strengths.specs.Level.{driven}
use Rattle.net_engine.specs.Net.{NetValues, Request, driven_of, levels_of, seen, strongly}
use Rattle.net_engine.specs.Delivery.{same_levels}
use Rattle.net_engine.specs.Slots.{Held, SlotNow, held_levels, held_by, helds, driving, IsPlain, IsChanged, IsKept}
use Rattle.net_engine.specs.Parts.{IsChange}
use Rattle.net_engine.proofs.MixLemmas.{set-same}
use Rattle.net_engine.proofs.SlotLemmas.{shown-quiet, quiet}
use Rattle.net_engine.proofs.StrongLemmas.{seen-driven, same-by}
use Rattle.net_engine.proofs.StoreLemmas.{stored}
use Rattle.net_engine.proofs.StepLemmas.{found, place-there, shown-read, Stepped, stepped, drive-keeps}

-- ---- the plane alone

pub bits-width : (plane : List (List Bit)) (item : ℕ) (old bits : List Bit) → slice_get plane item ≡ Some old → length bits ≡ length (get_or plane item []) → length old ≡ length bits
bits-width plane item old bits read width = ap length (sym (get_or_from_slice_get plane item old [] read)) ∙ sym width

pub bits-same : (plane : List (List Bit)) (item : ℕ) (old bits : List Bit) → slice_get plane item ≡ Some old → old ≡ bits → plane ≡ set plane item bits
bits-same plane item old bits read same = set-same plane item old read ∙ ap (λ (b : List Bit). set plane item b) same

pub bits-unchanged : (plane : List (List Bit)) (item : ℕ) (old bits : List Bit) → slice_get plane item ≡ Some old → old ≡ bits → IsChange None (strongly (get_or plane item [])) (strongly bits)
bits-unchanged plane item old bits read same =
    ap (λ (b : List Bit). same_levels (strongly b) (strongly bits)) (get_or_from_slice_get plane item old [] read ∙ same) ∙ same-by true bits bits (λ e. refl) (λ e. refl)

pub bits-changed : (plane : List (List Bit)) (item : ℕ) (old bits : List Bit) (equal : Bool) → slice_get plane item ≡ Some old → (equal ≡ true → old ≡ bits) → (old ≡ bits → equal ≡ true) → equal ≡ false
    → IsChange (Some (record { old = old; new = bits })) (strongly (get_or plane item [])) (strongly bits)
bits-changed plane item old bits equal read to from is =
    subst (λ (b : List Bit). IsChange (Some (record { old = old; new = bits })) (strongly b) (strongly bits)) (sym (get_or_from_slice_get plane item old [] read))
    (same-by equal old bits to from ∙ is, sym (seen-driven old), sym (seen-driven bits))

-- ---- the slot stays as it is

plain-shown : (slot : SlotNow) (bits : List Bit) → IsPlain slot → length bits ≡ length slot.forced → strongly bits ≡ held_levels (record { driven = strongly bits; forced = slot.forced })
plain-shown slot bits plain wide = shown-quiet slot.forced (strongly bits) (plain.quiet ∙ ap quiet (sym (length-map bits (driven 6 6) ∙ wide)))

plain-held : (slot : SlotNow) (bits : List Bit) → IsPlain slot → held_by slot bits ≡ record { driven = strongly bits; forced = slot.forced }
plain-held slot bits plain = ap (λ (k : Option (List Interval)). value (unwrap_or k (strongly bits))) plain.bare where
  value : List Interval → Held
  value d = record { driven = d; forced = slot.forced }

pub plain-changed : (slots : List (Option SlotNow)) (item : ℕ) (slot : SlotNow) (old bits : List Bit) → slice_get slots item ≡ Some (Some slot) → IsPlain slot → length old ≡ length slot.forced → length bits ≡ length slot.forced
    → IsChanged (driving (strongly bits)) slots slots item old (strongly old) (strongly bits)
plain-changed slots item slot old bits at plain was_wide wide = record {
  was = slot;
  is = slot;
  there = at;
  set = set-same slots item (Some slot) at;
  keeps = ap (λ (l : List Interval). held_by slot (seen l)) (sym (plain-shown slot bits plain wide)) ∙ ap (λ (b : List Bit). held_by slot b) (seen-driven bits) ∙ plain-held slot bits plain;
  showed = plain-shown slot old plain was_wide ∙ ap held_levels (sym (plain-held slot old plain));
  shows = plain-shown slot bits plain wide;
}

pub place-width : (slots : List (Option SlotNow)) (plane : List (List Bit)) (words : List (List (List Bit))) (requests : List Request) (values : NetValues) (item : ℕ) → IsKept slots plane → stored (helds slots plane) words requests ≡ values
    → 1 ≤ length (driven_of values item) → length (get_or plane item []) ≡ length (driven_of values item)
place-width slots plane words requests values item kept view there =
    let f = found slots plane words requests values item (get_or plane item []) kept view there (slice_get-get_or plane item [] (place-there slots plane words requests values item kept view there)) in
    f.wide ∙ f.sized.2 ∙ ap length (sym f.driven)

pub plain-stepped : (slots slice : List (Option SlotNow)) (plane : List (List Bit)) (words : List (List (List Bit))) (requests : List Request) (values : NetValues) (item : ℕ) (bits : List Bit) → IsKept slots plane → stored (helds slots plane) words requests ≡ values
    → 1 ≤ length (driven_of values item) → length bits ≡ length (driven_of values item) → slice ≡ slots → ((slot : SlotNow) → slice_get slice item ≡ Some (Some slot) → IsPlain slot)
    → Stepped (driving (strongly bits)) slots slots plane item (strongly (get_or plane item [])) (strongly bits)
plain-stepped slots slice plane words requests values item bits kept view there width lent says =
    let old = get_or plane item [] in
    let read : slice_get plane item ≡ Some old = slice_get-get_or plane item [] (place-there slots plane words requests values item kept view there) in
    let f = found slots plane words requests values item old kept view there read in
    let plain = says f.slot (ap (λ (ss : List (Option SlotNow)). slice_get ss item) lent ∙ f.at) in
    let wide : length bits ≡ length f.slot.forced = width ∙ ap length f.driven ∙ sym f.sized.2 in
    stepped (driving (strongly bits)) slots slots slots plane words requests values item old (strongly old) (strongly bits) kept view there refl read
    (drive-keeps (helds slots plane) words requests values item (strongly bits) view (length-map bits (driven 6 6) ∙ width)) (plain-changed slots item f.slot old bits f.at plain f.wide wide)

-- the plane afterwards
pub plain-plane : (plane new_plane : List (List Bit)) (item : ℕ) (bits : List Bit) → new_plane ≡ set plane item bits → new_plane ≡ set plane item (seen (strongly bits))
plain-plane plane new_plane item bits is = is ∙ ap (λ (b : List Bit). set plane item b) (sym (seen-driven bits))

-- ---- reading

-- such an item shows the bits that it is seen as, driven strongly
pub plain-levels : (slots slice : List (Option SlotNow)) (plane : List (List Bit)) (words : List (List (List Bit))) (requests : List Request) (values : NetValues) (item : ℕ) → IsKept slots plane → stored (helds slots plane) words requests ≡ values
    → 1 ≤ length (driven_of values item) → slice ≡ slots → ((slot : SlotNow) → slice_get slice item ≡ Some (Some slot) → IsPlain slot) → strongly (seen (levels_of values item)) ≡ levels_of values item
plain-levels slots slice plane words requests values item kept view there lent says =
    let old = get_or plane item [] in
    let read : slice_get plane item ≡ Some old = slice_get-get_or plane item [] (place-there slots plane words requests values item kept view there) in
    let f = found slots plane words requests values item old kept view there read in
    let plain = says f.slot (ap (λ (ss : List (Option SlotNow)). slice_get ss item) lent ∙ f.at) in
    let shown : strongly old ≡ levels_of values item = plain-shown f.slot old plain f.wide ∙ ap held_levels (sym (plain-held f.slot old plain)) ∙ shown-read slots plane words requests values item f.slot old view f.at read in
    ap (λ (ls : List Interval). strongly (seen ls)) (sym shown) ∙ ap strongly (seen-driven old) ∙ shown
