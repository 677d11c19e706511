-- Loops over the places of an item.
use Rattle.std.proofs.Common.{◌≡◌, ℕ, ◌+◌, ◌<◌, ◌≤◌, pos, Bool, true, false, Option, Some, None, List, [], ◌∷◌, ◌++◌, length, map, set, get_or, take, drop, replicate, slice_get, refl, sym, ap, subst, ◌∙◌, arith}
use Rattle.std.specs.List.{zip, enumerate_from, list_any}
use Rattle.std.specs.Prelude.{is_some, unwrap_or}
use Rattle.std.proofs.lemmas.List.{length-map, take_at}
use Rattle.net_engine.specs.Slots.{Held, SlotNow, IsSlot, KeepsValue, held_by, held_levels, released, released_driven}
use Rattle.std.proofs.lemmas.List.FromFn.{length-enumerate_from}
use Rattle.std.proofs.lemmas.Option.{slice_get-get_or, same_Some}
use Rattle.four_state.specs.declared.bits.Bit.{Bit}
use Rattle.strengths.specs.Interval.{Interval}
use Rattle.strengths.specs.Level.{driven}
use Rattle.net_engine.specs.Net.{shown_level, seen, strongly}
use Rattle.net_engine.specs.Delivery.{forced_after, kept_after}
use Rattle.net_engine.proofs.StrongLemmas.{seen-driven}
use Rattle.net_engine.proofs.MixLemmas.{mixed, mixed-more, mixed-read, mixed-all, mixed-length, zip-get, zip-length, map-get, enumerate-get, read-at}

-- a level for where there is none
abbrev nothing : Interval
nothing = record { lo = pos 0; hi = pos 0 }

abbrev all_shown : List (Option Interval) → List Interval → List Interval
all_shown forced driven = map shown_level (zip forced driven)

shown-length : (forced : List (Option Interval)) (driven : List Interval) → length forced ≡ length driven → length (all_shown forced driven) ≡ length driven
shown-length forced driven same = length-map (zip forced driven) shown_level ∙ zip-length forced driven same

pub shown-inside : (forced : List (Option Interval)) (driven levels : List Interval) (i k : ℕ) → length forced ≡ length driven → levels ≡ mixed (all_shown forced driven) driven i → k < length driven → k < length levels
shown-inside forced driven levels i k same is inside = omega (arith, ap length is, mixed-length (all_shown forced driven) driven i (shown-length forced driven same), inside)

pub shown-more : (forced : List (Option Interval)) (driven levels result : List Interval) (i : ℕ) (f : Option Interval) → length forced ≡ length driven → i < length driven → f ≡ get_or forced i f
    → levels ≡ mixed (all_shown forced driven) driven i → ((level : Interval) → slice_get levels i ≡ Some level → result ≡ set levels i (shown_level (f, level)))
    → result ≡ mixed (all_shown forced driven) driven (i + 1)
shown-more forced driven levels result i f same inside read is set_is =
    let level = get_or driven i nothing in
    let at_f = read-at forced i f (omega arith) read in
    let at_d = slice_get-get_or driven i nothing inside in
    let at_new = map-get shown_level (zip forced driven) i (f, level) (zip-get forced driven i f level at_f at_d) in
    let at_old = ap (λ xs. slice_get xs i) is ∙ mixed-read (all_shown forced driven) driven i (omega (arith, shown-length forced driven same)) ∙ at_d in
    set_is level at_old ∙ ap (λ xs. set xs i (shown_level (f, level))) is ∙ mixed-more (all_shown forced driven) driven i (shown_level (f, level)) (shown-length forced driven same) at_new

pub shown-all : (forced : List (Option Interval)) (driven levels : List Interval) (i : ℕ) → length forced ≡ length driven → length driven ≤ i → levels ≡ mixed (all_shown forced driven) driven i → levels ≡ all_shown forced driven
shown-all forced driven levels i same enough is = is ∙ mixed-all (all_shown forced driven) driven i (omega (arith, shown-length forced driven same, enough)) enough

-- where nothing is forced, what drives is shown
pub shown-quiet : (forced : List (Option Interval)) (driven : List Interval) → forced ≡ replicate (length driven) None → driven ≡ all_shown forced driven
shown-quiet forced driven quiet = go driven ∙ ap (λ f. all_shown f driven) (sym quiet) where
  go : (d : List Interval) → d ≡ all_shown (replicate (length d) None) d
  go [] = refl
  go (x ∷ d) = ap (λ xs. x ∷ xs) (go d)

-- so many places on which nothing is forced
abbrev pub quiet : ℕ → List (Option Interval)
quiet n = replicate n None

abbrev pub unforced : List Interval → List (Option Interval)
unforced levels = map (λ level. None) levels

pub none-forced : (driven : List Interval) → quiet (length driven) ≡ unforced driven
none-forced [] = refl
none-forced (x ∷ driven) = ap (λ (xs : List (Option Interval)). None ∷ xs) (none-forced driven)

-- where none is forced
pub any-none : (forced : List (Option Interval)) → list_any is_some forced ≡ false → forced ≡ quiet (length forced)
any-none [] none = refl
any-none (None ∷ forced) none = ap (λ (xs : List (Option Interval)). None ∷ xs) (any-none forced none)
any-none (Some level ∷ forced) none = cc

-- ---- forcing

pub force-more : (old forced new : List (Option Interval)) (levels : List Interval) (i : ℕ) (level : Interval) → length old ≡ length levels → slice_get levels i ≡ Some level → forced ≡ mixed (map Some levels) old i
    → new ≡ set forced i (Some level) → new ≡ mixed (map Some levels) old (i + 1)
force-more old forced new levels i level same at is set_is =
    set_is ∙ ap (λ xs. set xs i (Some level)) is ∙ mixed-more (map Some levels) old i (Some level) (length-map levels Some ∙ sym same) (map-get Some levels i level at)

pub force-all : (old forced : List (Option Interval)) (levels : List Interval) (i : ℕ) → length old ≡ length levels → length levels ≤ i → forced ≡ mixed (map Some levels) old i → forced ≡ map Some levels
force-all old forced levels i same enough is =
    let long : length (map Some levels) ≡ length levels = length-map levels Some in
    is ∙ mixed-all (map Some levels) old i (omega (arith, long, enough)) (omega (arith, same, enough))

-- ---- releasing

abbrev all_released : ℕ → ℕ → List (Option Interval) → List (Option Interval)
all_released base width old = map (forced_after base width) (enumerate_from 0 old)

released-length : (base width : ℕ) (old : List (Option Interval)) → length (all_released base width old) ≡ length old
released-length base width old = length-map (enumerate_from 0 old) (forced_after base width) ∙ length-enumerate_from 0 old

pub release-inside : (base width : ℕ) (old forced : List (Option Interval)) (i : ℕ) → forced ≡ mixed (all_released base width old) old i → length forced ≡ length old
release-inside base width old forced i is = ap length is ∙ mixed-length (all_released base width old) old i (released-length base width old)

pub release-more : (base width : ℕ) (old forced new : List (Option Interval)) (i : ℕ) (f g : Option Interval) → i < length old → f ≡ get_or forced i f → g ≡ forced_after base width (i, f) → forced ≡ mixed (all_released base width old) old i
    → new ≡ set forced i g → new ≡ mixed (all_released base width old) old (i + 1)
release-more base width old forced new i f g inside read after is set_is =
    let in_forced : i < length forced = omega (arith, release-inside base width old forced i is, inside) in
    let at_f = sym (mixed-read (all_released base width old) old i (omega (arith, released-length base width old))) ∙ ap (λ xs. slice_get xs i) (sym is) ∙ read-at forced i f in_forced read in
    let number : 0 + i ≡ i = omega arith in
    let at_new = map-get (forced_after base width) (enumerate_from 0 old) i (0 + i, f) (enumerate-get old 0 i f at_f) ∙ ap (λ (k : ℕ). Some (forced_after base width (k, f))) number in
    set_is ∙ ap (λ xs. set xs i g) is ∙ ap (λ (x : Option Interval). set (mixed (all_released base width old) old i) i x) after
    ∙ mixed-more (all_released base width old) old i (forced_after base width (i, f)) (released-length base width old) at_new

pub release-all : (base width : ℕ) (old forced : List (Option Interval)) (i : ℕ) → length old ≤ i → forced ≡ mixed (all_released base width old) old i → forced ≡ all_released base width old
release-all base width old forced i enough is = is ∙ mixed-all (all_released base width old) old i (omega (arith, released-length base width old, enough)) enough

-- ---- keeping what was forced

abbrev all_kept : ℕ → ℕ → List (Option Interval) → List Interval → List Interval
all_kept base width forced driven = map (kept_after base width) (enumerate_from 0 (zip forced driven))

kept-length : (base width : ℕ) (forced : List (Option Interval)) (driven : List Interval) → length forced ≡ length driven → length (all_kept base width forced driven) ≡ length driven
kept-length base width forced driven same = length-map (enumerate_from 0 (zip forced driven)) (kept_after base width) ∙ length-enumerate_from 0 (zip forced driven) ∙ zip-length forced driven same

pub kept-inside : (base width : ℕ) (forced : List (Option Interval)) (driven levels : List Interval) (i : ℕ) → length forced ≡ length driven → levels ≡ mixed (all_kept base width forced driven) driven i → length levels ≡ length driven
kept-inside base width forced driven levels i same is = ap length is ∙ mixed-length (all_kept base width forced driven) driven i (kept-length base width forced driven same)

pub kept-more : (base width : ℕ) (forced : List (Option Interval)) (driven levels new : List Interval) (i : ℕ) (f : Option Interval) (level kept : Interval) → length forced ≡ length driven → i < length driven → f ≡ get_or forced i f → slice_get driven i ≡ Some level
    → kept ≡ kept_after base width (i, (f, level)) → levels ≡ mixed (all_kept base width forced driven) driven i → new ≡ set levels i kept → new ≡ mixed (all_kept base width forced driven) driven (i + 1)
kept-more base width forced driven levels new i f level kept same inside read at_d after is set_is =
    let at_f = read-at forced i f (omega arith) read in
    let number : 0 + i ≡ i = omega arith in
    let at_new = map-get (kept_after base width) (enumerate_from 0 (zip forced driven)) i (0 + i, (f, level)) (enumerate-get (zip forced driven) 0 i (f, level) (zip-get forced driven i f level at_f at_d))
    ∙ ap (λ (k : ℕ). Some (kept_after base width (k, (f, level)))) number in
    set_is ∙ ap (λ xs. set xs i kept) is ∙ ap (λ (x : Interval). set (mixed (all_kept base width forced driven) driven i) i x) after
    ∙ mixed-more (all_kept base width forced driven) driven i (kept_after base width (i, (f, level))) (kept-length base width forced driven same) at_new

pub kept-all : (base width : ℕ) (forced : List (Option Interval)) (driven levels : List Interval) (i : ℕ) → length forced ≡ length driven → length driven ≤ i → levels ≡ mixed (all_kept base width forced driven) driven i → levels ≡ all_kept base width forced driven
kept-all base width forced driven levels i same enough is = is ∙ mixed-all (all_kept base width forced driven) driven i (omega (arith, kept-length base width forced driven same, enough)) enough

-- ---- what a slot keeps

-- where nothing is forced, a value that shows its levels is kept by what they are beside bits
pub keeps-quiet : (kept : Option (List Interval)) (levels : List Interval) (forced : List (Option Interval)) → unwrap_or kept (strongly (seen levels)) ≡ levels → forced ≡ quiet (length levels)
    → KeepsValue (record { levels = kept; forced = forced }) (record { driven = levels; forced = forced })
keeps-quiet kept levels forced is none =
    ap (λ (l : List Interval). value (unwrap_or kept (strongly (seen l)))) (sym (shown-quiet forced levels none)) ∙ ap value is
  where
    value : List Interval → Held
    value d = record { driven = d; forced = forced }

pub keeps-new : (kept : Option (List Interval)) (levels : List Interval) (forced : List (Option Interval)) (n : ℕ) → unwrap_or kept (strongly (seen levels)) ≡ levels → forced ≡ quiet n → n ≡ length levels
    → KeepsValue (record { levels = kept; forced = forced }) (record { driven = levels; forced = unforced levels })
keeps-new kept levels forced n is none long =
    let bare : forced ≡ quiet (length levels) = none ∙ ap quiet long in
    subst (λ (f : List (Option Interval)). KeepsValue (record { levels = kept; forced = forced }) (record { driven = levels; forced = f })) (bare ∙ none-forced levels) (keeps-quiet kept levels forced is bare)

-- what a slot says of what drives is as long as its places
pub driven-places : (kept : Option (List Interval)) (bits : List Bit) (forced : List (Option Interval)) (any : Bool) → IsSlot kept forced any → length bits ≡ length forced → length (unwrap_or kept (strongly bits)) ≡ length forced
driven-places None bits forced any slot long = length-map bits (driven 6 6) ∙ long
driven-places (Some k) bits forced any slot long = slot.places k refl

-- where nothing is forced, what drives is shown
pub shown-bare : (kept : Option (List Interval)) (forced : List (Option Interval)) (any : Bool) (now : SlotNow) (bits : List Bit) (drives : List Interval) → IsSlot kept forced any → record { levels = kept; forced = forced } ≡ now → any ≡ false
    → length bits ≡ length now.forced → drives ≡ (held_by now bits).driven → drives ≡ held_levels (held_by now bits)
shown-bare kept forced any now bits drives slot view none = subst (λ (n : SlotNow). length bits ≡ length n.forced → drives ≡ (held_by n bits).driven → drives ≡ held_levels (held_by n bits)) view go where
  go : length bits ≡ length forced → drives ≡ unwrap_or kept (strongly bits) → drives ≡ all_shown forced (unwrap_or kept (strongly bits))
  go long is =
      let wide : length drives ≡ length forced = ap length is ∙ driven-places kept bits forced any slot long in
      shown-quiet forced drives (slot.quiet none ∙ ap quiet (sym wide)) ∙ ap (λ (d : List Interval). all_shown forced d) is

-- where a slot has no levels, the bits in the plane are what drives
pub bare-bits : (kept : Option (List Interval)) (forced : List (Option Interval)) (now : SlotNow) (bits : List Bit) → record { levels = kept; forced = forced } ≡ now → kept ≡ None → bits ≡ seen (unwrap_or now.levels (strongly bits))
bare-bits kept forced now bits view none =
    sym (ap (λ (s : SlotNow). seen (unwrap_or s.levels (strongly bits))) (sym view) ∙ ap (λ (k : Option (List Interval)). seen (unwrap_or k (strongly bits))) none ∙ seen-driven bits)

-- an item on which nothing is forced is driven otherwise
drive-quiet : (old : Option (List Interval)) (levels : List Interval) (forced : List (Option Interval)) (any : Bool) (now : SlotNow) → IsSlot old forced any → record { levels = old; forced = forced } ≡ now → any ≡ false → length levels ≡ length now.forced
    → forced ≡ quiet (length levels)
drive-quiet old levels forced any now slot view none long = slot.quiet none ∙ ap quiet (ap (λ (s : SlotNow). length s.forced) view ∙ sym long)

pub drive-bare : (old kept : Option (List Interval)) (levels : List Interval) (forced : List (Option Interval)) (any : Bool) (now : SlotNow) → IsSlot old forced any → record { levels = old; forced = forced } ≡ now → any ≡ false → length levels ≡ length now.forced
    → unwrap_or kept (strongly (seen levels)) ≡ levels → KeepsValue (record { levels = kept; forced = forced }) (record { driven = levels; forced = now.forced })
drive-bare old kept levels forced any now slot view none long is =
    subst (λ (f : List (Option Interval)). KeepsValue (record { levels = kept; forced = forced }) (record { driven = levels; forced = f })) (ap (λ (s : SlotNow). s.forced) view)
    (keeps-quiet kept levels forced is (drive-quiet old levels forced any now slot view none long))

pub drive-shown : (old : Option (List Interval)) (levels : List Interval) (forced : List (Option Interval)) (any : Bool) (now : SlotNow) → IsSlot old forced any → record { levels = old; forced = forced } ≡ now → any ≡ false → length levels ≡ length now.forced
    → levels ≡ held_levels (record { driven = levels; forced = now.forced })
drive-shown old levels forced any now slot view none long =
    shown-quiet forced levels (drive-quiet old levels forced any now slot view none long) ∙ ap (λ (s : SlotNow). all_shown s.forced levels) view

-- where every place is forced, what is forced is shown
forced-shown : (levels driven : List Interval) → length levels ≡ length driven → levels ≡ all_shown (map Some levels) driven
forced-shown [] [] same = refl
forced-shown [] (x ∷ driven) same = cc
forced-shown (l ∷ levels) [] same = cc
forced-shown (l ∷ levels) (x ∷ driven) same = ap (λ xs. l ∷ xs) (forced-shown levels driven (omega (arith, same)))

pub force-shown : (kept : Option (List Interval)) (forced : List (Option Interval)) (any : Bool) (now : SlotNow) (bits : List Bit) (levels : List Interval) → IsSlot kept forced any → record { levels = kept; forced = forced } ≡ now
    → length bits ≡ length now.forced → length levels ≡ length now.forced → levels ≡ all_shown (map Some levels) (held_by now bits).driven
force-shown kept forced any now bits levels slot view = subst (λ (n : SlotNow). length bits ≡ length n.forced → length levels ≡ length n.forced → levels ≡ all_shown (map Some levels) (held_by n bits).driven) view go where
  go : length bits ≡ length forced → length levels ≡ length forced → levels ≡ all_shown (map Some levels) (unwrap_or kept (strongly bits))
  go wide long = forced-shown levels (unwrap_or kept (strongly bits)) (long ∙ sym (driven-places kept bits forced any slot wide))

released-count : (base width : ℕ) (keep : Bool) (held : Held) → length held.forced ≡ length held.driven → length (released_driven base width keep held) ≡ length held.driven
released-count base width true held same = kept-length base width held.forced held.driven same
released-count base width false held same = refl

-- after a release there are as many levels as places
pub release-long : (base width : ℕ) (keep : Bool) (kept : Option (List Interval)) (forced : List (Option Interval)) (any : Bool) (now : SlotNow) (bits : List Bit) (drives gives : List Interval) (lent lent_new new : List (Option Interval)) (len : ℕ)
    → IsSlot kept forced any → record { levels = kept; forced = forced } ≡ now → length bits ≡ length now.forced → drives ≡ (held_by now bits).driven → lent ≡ forced → gives ≡ released_driven base width keep (record { driven = drives; forced = lent })
    → len ≡ length forced → lent_new ≡ forced → new ≡ all_released base width lent_new → length gives ≡ length (take len (new ++ drop (length new) forced))
release-long base width keep kept forced any now bits drives gives lent lent_new new len slot view wide is same released len_is same_new is_new =
    let long : length drives ≡ length forced =
    ap length is ∙ ap (λ (s : SlotNow). length (unwrap_or s.levels (strongly bits))) (sym view) ∙ driven-places kept bits forced any slot (wide ∙ ap (λ (s : SlotNow). length s.forced) (sym view)) in
    let count : length new ≡ length forced = ap length is_new ∙ released-length base width lent_new ∙ ap length same_new in
    ap length released ∙ released-count base width keep (record { driven = drives; forced = lent }) (ap length same ∙ sym long) ∙ long ∙ sym count
    ∙ sym (ap length (take_at new (drop (length new) forced) len (count ∙ sym len_is)))

-- and nothing is forced where none is found
pub release-slot : (gives : List Interval) (filled read : List (Option Interval)) (any : Bool) → length gives ≡ length filled → read ≡ filled → any ≡ list_any is_some read → IsSlot (Some gives) filled any
release-slot gives filled read any long same anything = record {
  places = λ (k : List Interval) (e : Some gives ≡ Some k). ap length (sym (same_Some gives k e)) ∙ long;
  quiet = λ (none : any ≡ false). any-none filled (ap (list_any is_some) (sym same) ∙ sym anything ∙ none);
  bare = λ (e : Some gives ≡ None). cc;
}
