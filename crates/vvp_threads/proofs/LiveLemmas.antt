-- The places of live threads, among all that are kept.
use Rattle.std.proofs.Common.{◌≡◌, ℕ, zero, suc, ◌+◌, ◌<◌, Bool, true, false, not, cond, Option, Some, None, option_map, List, [], ◌∷◌, ◌++◌, length, map, filter, get_or, set, refl, sym, ap, ◌∙◌, arith}
use Rattle.std.proofs.lemmas.List.{length-map, length-append, length-set, map-append, map-set}
use Rattle.std.proofs.lemmas.List.Elements.{filter-append}
use Rattle.std.proofs.lemmas.List.Filters.{length-filter_both}
use Rattle.std.proofs.lemmas.List.Sums.{length-filter, count_by-le-length}
use Rattle.vvp_threads.specs.declared.places.Place.{Place}
use Rattle.vvp_threads.specs.Places.{spread, place_after, is_ended, unended, unmarked, IsKept}
use Rattle.vvp_threads.specs.Table.{slot_at}
use Rattle.vvp_threads.proofs.PlaceLemmas.{gathered, gathered-except}
use Rattle.vvp_threads.proofs.GatherLemmas.{gathered-seen, length-seen, seen, pushed, put, cleared, changed, found_at, absent_at}
use Rattle.vvp_threads.proofs.SlotLemmas.{slot_at-map}

-- the places of live threads by serial
abbrev pub live : ℕ → List Place → List (Option Place)
live drawn places = map unended (spread 0 drawn places)

-- how many places are those of ended threads
abbrev pub ends : List Place → ℕ
ends places = length (filter is_ended places)

all-live : (slots : List (Option Place)) → ends (gathered slots) ≡ 0 → map unended slots ≡ slots
all-live [] e = refl
all-live (None ∷ slots) e = ap (λ r. None ∷ r) (all-live slots e)
all-live (Some q ∷ slots) e = (elim q.ended as (λ b. length (cond b (q ∷ filter is_ended (gathered slots)) (filter is_ended (gathered slots))) ≡ 0 → cond b None (Some q) ∷ map unended slots ≡ Some q ∷ slots) [
  | true ↦ λ e. absurd (omega (arith, e))
  | false ↦ λ e. ap (λ r. Some q ∷ r) (all-live slots e)
]) e

ends-put : (places : List Place) (at : ℕ) (d r : Place) → at < length places → (get_or places at d).ended ≡ false → r.ended ≡ true → ends (set places at r) ≡ ends places + 1
ends-put [] at d r h was is = absurd (omega arith)
ends-put (q ∷ places) zero d r h was is = rw (was, is) (omega arith)
ends-put (q ∷ places) (suc at) d r h was is =
    let more = ends-put places at d r (omega arith) was is in
    elim q.ended as (λ b. length (cond b (q ∷ filter is_ended (set places at r)) (filter is_ended (set places at r))) ≡ length (cond b (q ∷ filter is_ended places) (filter is_ended places)) + 1) [
      | true ↦ omega (arith, more)
      | false ↦ more
    ]

-- where none has ended, none of some has
ends-some : (test : Place → Bool) (places : List Place) → ends places ≡ 0 → ends (filter test places) ≡ 0
ends-some test [] e = refl
ends-some test (q ∷ places) e = go (ends-some test places) q.ended refl where
  go : (ends places ≡ 0 → ends (filter test places) ≡ 0) → (b : Bool) → q.ended ≡ b → ends (filter test (q ∷ places)) ≡ 0
  go more true is = absurd (omega (arith, rw is at e))
  go more false is =
      let rest = more (rw is at e) in
      elim (test q) as (λ b. ends (cond b (q ∷ filter test places) (filter test places)) ≡ 0) [
        | true ↦ rw is rest
        | false ↦ rest
      ]

ends-pruned : (places : List Place) → ends (filter (λ p. not (is_ended p)) places) ≡ 0
ends-pruned [] = refl
ends-pruned (q ∷ places) = go (ends-pruned places) q.ended refl where
  go : ends (filter (λ p. not (is_ended p)) places) ≡ 0 → (b : Bool) → q.ended ≡ b → ends (filter (λ p. not (is_ended p)) (q ∷ places)) ≡ 0
  go rest true is = rw is rest
  go rest false is = rw is rest

ends-map : (f : Place → Place) → ((p : Place) → (f p).ended ≡ p.ended) → (places : List Place) → ends (map f places) ≡ ends places
ends-map f keeps [] = refl
ends-map f keeps (q ∷ places) =
    let more = ends-map f keeps places in
    ap (λ b. length (cond b (f q ∷ filter is_ended (map f places)) (filter is_ended (map f places)))) (keeps q)
    ∙ (elim q.ended as (λ b. length (cond b (f q ∷ filter is_ended (map f places)) (filter is_ended (map f places))) ≡ length (cond b (q ∷ filter is_ended places) (filter is_ended places))) [
      | true ↦ omega (arith, more)
      | false ↦ more
    ])

-- what is kept, and what is seen of it
pub record Keeps (drawn ended : ℕ) (places : List Place) (slots : List (Option Place)) : Type 0 where
  pub kept : IsKept drawn ended places
  pub shown : live drawn places ≡ slots

module _ (drawn ended : ℕ) (places : List Place) (k : IsKept drawn ended places) where
  pub length-live : length (live drawn places) ≡ drawn
  length-live = length-map (spread 0 drawn places) unended ∙ length-seen drawn places k.whole

  -- where no place is that of an ended thread, all are seen
  pub whole-live : ended ≡ 0 → live drawn places ≡ spread 0 drawn places
  whole-live none = all-live (spread 0 drawn places) (ap ends (sym (gathered-seen drawn places k.whole)) ∙ k.exact ∙ none)

  -- each kept place is that of a live thread or of an ended one
  pub count-live : length (gathered (live drawn places)) + ended ≡ length places
  count-live =
      let e = gathered-except is_ended (spread 0 drawn places) ∙ ap (filter (λ p. not (is_ended p))) (sym (gathered-seen drawn places k.whole)) in
      omega (arith, ap length e, k.exact, length-filter_both is_ended (λ p. not (is_ended p)) (λ p. refl) places)

  -- what stands at a serial where a search found a place
  pub live-found : (serial at : ℕ) (p : Place) → at < length places → ((p : Place) → (get_or places at p).serial ≡ serial) → slot_at (live drawn places) serial ≡ unended (Some (get_or places at p))
  live-found serial at p within has = slot_at-map unended refl (spread 0 drawn places) serial ∙ ap unended (sym (found_at drawn places _ serial at p (seen drawn places k.whole) within has))

  -- and where it found none
  pub live-absent : (serial : ℕ) → ((i : ℕ) (p : Place) → i < length places → (get_or places i p).serial ≡ serial → ⊥) → slot_at (live drawn places) serial ≡ None
  live-absent serial none = slot_at-map unended refl (spread 0 drawn places) serial ∙ ap unended (absent_at drawn places _ serial (seen drawn places k.whole) none)

  pub keeps-push : (key : ℕ) → Keeps (drawn + 1) ended (places ++ (record { serial = drawn; key = key; marked = false; ended = false }) ∷ []) (live drawn places ++ Some (place_after (live drawn places) key) ∷ [])
  keeps-push key =
      let place : Place = record { serial = drawn; key = key; marked = false; ended = false } in
      let g = pushed drawn places (spread 0 drawn places) key (seen drawn places k.whole) in
      let named : List (Option Place) → Option Place = λ slots. Some (place_after slots key) in
      let same : named (spread 0 drawn places) ≡ named (live drawn places) = ap (λ n. let p : Place = record { serial = n; key = key; marked = false; ended = false } in Some p) (length-seen drawn places k.whole ∙ sym length-live) in
      record {
        kept = record { whole = g.whole; exact = omega (arith, k.exact, ap length (filter-append is_ended places (place ∷ [])), length-append (filter is_ended places) []) };
        shown = ap (map unended) g.seen ∙ map-append unended (spread 0 drawn places) (named (spread 0 drawn places) ∷ []) ∙ ap (λ slot. live drawn places ++ slot ∷ []) same;
      }

  -- where a place is that of a live thread, not all are those of ended ones
  pub ended-within : (at : ℕ) (d : Place) → at < length places → (get_or places at d).ended ≡ false → ended < length places
  ended-within at d within was =
      let r : Place = record { serial = 0; key = 0; marked = false; ended = true } in
      let more = ends-put places at d r within was refl in
      omega (arith, k.exact, more, length-filter is_ended (set places at r), count_by-le-length is_ended (set places at r), length-set places at r)

  -- the place that a search found is marked as that of an ended thread
  pub keeps-end : (serial at : ℕ) (d r : Place) → at < length places → ((p : Place) → (get_or places at p).serial ≡ serial) → (get_or places at d).ended ≡ false → r.serial ≡ serial → r.ended ≡ true → Keeps drawn (ended + 1) (set places at r) (set (live drawn places) serial None)
  keeps-end serial at d r within has was same is =
      let g = put drawn places (spread 0 drawn places) serial at r (seen drawn places k.whole) within has same in
      let none : unended (Some r) ≡ None = rw is refl in
      record {
        kept = record { whole = g.whole; exact = ends-put places at d r within was is ∙ ap (λ n. n + 1) k.exact };
        shown = ap (map unended) g.seen ∙ map-set unended (spread 0 drawn places) serial (Some r) ∙ ap (set (live drawn places) serial) none;
      }

  pub keeps-pruned : Keeps drawn 0 (filter (λ p. not (is_ended p)) places) (live drawn places)
  keeps-pruned =
      let g = cleared is_ended drawn places (spread 0 drawn places) (seen drawn places k.whole) in
      let left : List Place = filter (λ p. not (is_ended p)) places in
      record {
        kept = record { whole = g.whole; exact = ends-pruned places };
        shown = all-live (spread 0 drawn left) (ap ends (sym (gathered-seen drawn left g.whole)) ∙ ends-pruned places) ∙ g.seen;
      }

  pub keeps-unmarked : ended ≡ 0 → Keeps drawn ended (filter (λ p. not p.marked) places) (map unmarked (live drawn places))
  keeps-unmarked none =
      let g = cleared (λ p. p.marked) drawn places (spread 0 drawn places) (seen drawn places k.whole) in
      let left : List Place = filter (λ p. not p.marked) places in
      let no_ends = ends-some (λ p. not p.marked) places (k.exact ∙ none) in
      record {
        kept = record { whole = g.whole; exact = no_ends ∙ sym none };
        shown = all-live (spread 0 drawn left) (ap ends (sym (gathered-seen drawn left g.whole)) ∙ no_ends) ∙ g.seen ∙ ap (map unmarked) (sym (whole-live none));
      }

  pub keeps-changed : (f : Place → Place) → ((p : Place) → (f p).serial ≡ p.serial) → ((p : Place) → (f p).ended ≡ p.ended) → ended ≡ 0 → Keeps drawn ended (map f places) (map (option_map f) (live drawn places))
  keeps-changed f same keeps none =
      let g = changed f same drawn places (spread 0 drawn places) (seen drawn places k.whole) in
      let no_ends = ends-map f keeps places ∙ k.exact ∙ none in
      record {
        kept = record { whole = g.whole; exact = no_ends ∙ sym none };
        shown = all-live (spread 0 drawn (map f places)) (ap ends (sym (gathered-seen drawn (map f places) g.whole)) ∙ no_ends) ∙ g.seen ∙ ap (map (option_map f)) (sym (whole-live none));
      }
