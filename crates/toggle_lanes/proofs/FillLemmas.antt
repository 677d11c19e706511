-- The values that nets take, and their lanes.
use Rattle.std.proofs.Common.{◌≡◌, ℕ, zero, suc, ◌/◌, ◌%◌, ◌<◌, ◌≤◌, ◌^◌, Bool, true, false, eqb, cond, List, [], ◌∷◌, ◌++◌, length, get_or, set, map, replicate, refl, sym, ap, subst, ◌∙◌, arith, All, slice_get, Some, count_by, nat_lt}
use Rattle.std.specs.List.{filter, range_with_len}
use Rattle.std.proofs.lemmas.List.{length-map, length-set, map-append, append-nil, get_or-map, get_or-set_same, get_or-set_other}
use Rattle.std.proofs.lemmas.List.Elements.{filter-append, All-head, All-tail, All-map}
use Rattle.std.proofs.lemmas.List.Sums.{length-filter, count_by-le-length}
use Rattle.std.proofs.lemmas.List.FromFn.{fill_by_all}
use Rattle.std.proofs.lemmas.Bool.{eqb-true, eqb-false}
use Rattle.std.proofs.lemmas.Option.{get_or_from_slice_get}
use Rattle.four_state.specs.declared.bits.Bit.{Bit}
use Rattle.four_state.specs.declared.bits.Bit.TheVariants.{Unknown}
use Rattle.four_state.specs.Planes.{low_plane, high_plane}
use Rattle.vcd_read.specs.declared.types.Change.{Change}
use Rattle.vcd_read.specs.declared.types.Trace.{Trace}
use Rattle.toggle_lanes.specs.declared.lanes.NetLanes.{NetLanes}
use Rattle.toggle_lanes.specs.Counts.{values_of}
use Rattle.toggle_lanes.specs.Lanes.{above_64, lanes_of, all_values, added, AreFilled, IsCountable}
use Rattle.toggle_lanes.proofs.LaneLemmas.{lanes-more, added-more}
use Rattle.toggle_lanes.proofs.MoveLemmas.{AreWide}

-- ---- the values of a net
wide-by : (widths : List ℕ) (change : Change) (changes : List Change) (net : ℕ) (b : Bool) → b ≡ eqb change.net net
    → slice_get widths change.net ≡ Some (length change.value)
    → AreWide (get_or widths net 0) (map (λ change. change.value) changes)
    → AreWide (get_or widths net 0) (map (λ change. change.value) (cond b (change ∷ changes) changes))
wide-by widths change changes net true e h rest =
    (sym (get_or_from_slice_get widths change.net (length change.value) 0 h) ∙ ap (λ n. get_or widths n 0) (eqb-true change.net net (sym e)), rest)
wide-by widths change changes net false e h rest = rest

-- they are as wide as the net
pub values-wide : (widths : List ℕ) (changes : List Change) (net : ℕ) → All (λ change. slice_get widths change.net ≡ Some (length change.value)) changes → AreWide (get_or widths net 0) (values_of changes net)
values-wide widths [] net each = tt
values-wide widths (change ∷ changes) net each =
    wide-by widths change (filter (λ change. eqb change.net net) changes) net (eqb change.net net) refl
    (All-head (λ change. slice_get widths change.net ≡ Some (length change.value)) change changes each)
    (values-wide widths changes net (All-tail (λ change. slice_get widths change.net ≡ Some (length change.value)) change changes each))

-- no more of them than changes
values-few : (changes : List Change) (net : ℕ) → length (values_of changes net) ≤ length changes
values-few changes net =
    let same : length (values_of changes net) ≡ count_by (λ change. eqb change.net net) changes = length-map (filter (λ change. eqb change.net net) changes) (λ change. change.value) ∙ length-filter (λ change. eqb change.net net) changes in
    omega (arith, same, count_by-le-length (λ change. eqb change.net net) changes)

-- an entry that is there
pub get_or-any : {X : Type 0} (xs : List X) (i : ℕ) (d e : X) → i < length xs → get_or xs i d ≡ get_or xs i e
get_or-any [] i d e h = absurd (omega (arith, h))
get_or-any (x ∷ xs) zero d e h = refl
get_or-any (x ∷ xs) (suc i) d e h = get_or-any xs i d e (omega (arith, h))

-- ---- one change more
values-more : (changes : List Change) (change : Change) (net : ℕ) (b : Bool) → eqb change.net net ≡ b → values_of (changes ++ change ∷ []) net ≡ values_of changes net ++ map (λ change. change.value) (cond b (change ∷ []) [])
values-more changes change net b e =
    ap (map (λ change. change.value)) (filter-append (λ change. eqb change.net net) changes (change ∷ []))
    ∙ (map-append (λ change. change.value) (filter (λ change. eqb change.net net) changes) (filter (λ change. eqb change.net net) (change ∷ []))
    ∙ ap (λ b. values_of changes net ++ map (λ change. change.value) (cond b (change ∷ []) [])) e)

filled-at : (old mid new : List NetLanes) (changes : List Change) (change : Change) (one more other : NetLanes) (net : ℕ) (b : Bool)
    → AreFilled old mid changes → net < length old → more ≡ added (get_or mid change.net one) (change.value ∷ []) → new ≡ set mid change.net more → eqb change.net net ≡ b
    → get_or new net other ≡ added (get_or old net other) (values_of changes net ++ map (λ change. change.value) (cond b (change ∷ []) []))
filled-at old mid new changes change one more other net true f within pushed written e =
    let same : change.net ≡ net = eqb-true change.net net e in
    let there : net < length mid = omega (arith, f.count) in
    let was : get_or mid change.net one ≡ added (get_or old net other) (values_of changes net) = ap (λ k. get_or mid k one) same ∙ (get_or-any mid net one other there ∙ f.filled net other within) in
    ap (λ xs. get_or xs net other) (written ∙ ap (λ k. set mid k more) same)
    ∙ (get_or-set_same mid net more other there
    ∙ (pushed
    ∙ (ap (λ lanes. added lanes (change.value ∷ [])) was
    ∙ added-more (get_or old net other) (values_of changes net) (change.value ∷ []))))
filled-at old mid new changes change one more other net false f within pushed written e =
    ap (λ xs. get_or xs net other) written
    ∙ (get_or-set_other mid change.net net more other (λ same. eqb-false change.net net e (sym same))
    ∙ (f.filled net other within
    ∙ ap (added (get_or old net other)) (sym (append-nil (values_of changes net)))))

pub filled-more : (old mid new : List NetLanes) (changes : List Change) (change : Change) (one more : NetLanes)
    → AreFilled old mid changes → more ≡ added (get_or mid change.net one) (change.value ∷ []) → new ≡ set mid change.net more
    → AreFilled old new (changes ++ change ∷ [])
filled-more old mid new changes change one more f pushed written = record {
  count = ap length written ∙ (length-set mid change.net more ∙ f.count);
  filled = λ net other within.
      filled-at old mid new changes change one more other net (eqb change.net net) f within pushed written refl
      ∙ ap (added (get_or old net other)) (sym (values-more changes change net (eqb change.net net) refl));
}

-- ---- the lanes of all nets
pub gathered : (trace : Trace) (old new : List NetLanes) → old ≡ map (λ width. lanes_of (replicate width Unknown ∷ [])) trace.widths → AreFilled old new trace.changes
    → new ≡ map (λ net. lanes_of (all_values trace net)) (range_with_len 0 (length trace.widths))
gathered trace old new e f =
    let long : length old ≡ length trace.widths = ap length e ∙ length-map trace.widths (λ width. lanes_of (replicate width Unknown ∷ [])) in
    fill_by_all (λ net. lanes_of (all_values trace net)) new (length trace.widths) (lanes_of []) (f.count ∙ long)
    (λ net within.
    f.filled net (lanes_of []) (omega (arith, long))
    ∙ ap (λ lanes. added lanes (values_of trace.changes net)) (ap (λ nets. get_or nets net (lanes_of [])) e ∙ get_or-map (λ width. lanes_of (replicate width Unknown ∷ [])) trace.widths net 0 (lanes_of []) within)
    ∙ lanes-more (replicate (get_or trace.widths net 0) Unknown ∷ []) (values_of trace.changes net))

-- they can be counted
above-few : (values : List (List Bit)) → length (above_64 values) ≤ length values
above-few values = omega (arith, length-filter (λ value. nat_lt 64 (length value)) values, count_by-le-length (λ value. nat_lt 64 (length value)) values)

countable-one : (trace : Trace) (net : ℕ) → length trace.changes ≤ 2 ^ 56 → IsCountable (lanes_of (all_values trace net))
countable-one trace net few =
    let low : (f : List Bit → ℕ) → length (map f (all_values trace net)) ≡ suc (length (values_of trace.changes net)) = λ f. length-map (all_values trace net) f in
    let high : (f : List Bit → ℕ) → length (map f (above_64 (all_values trace net))) ≡ length (above_64 (all_values trace net)) = λ f. length-map (above_64 (all_values trace net)) f in
    let few' = values-few trace.changes net in
    let above : length (above_64 (all_values trace net)) ≤ suc (length (values_of trace.changes net)) = above-few (all_values trace net) in
    record {
      low = low (λ value. high_plane value % 2 ^ 64) ∙ sym (low (λ value. low_plane value % 2 ^ 64));
      high = high (λ value. high_plane value / 2 ^ 64) ∙ sym (high (λ value. low_plane value / 2 ^ 64));
      few_low = omega (arith, low (λ value. low_plane value % 2 ^ 64));
      few_high = omega (arith, high (λ value. low_plane value / 2 ^ 64));
    }

pub countable-all : (trace : Trace) (nets : List NetLanes) → nets ≡ map (λ net. lanes_of (all_values trace net)) (range_with_len 0 (length trace.widths)) → length trace.changes ≤ 2 ^ 56 → All IsCountable nets
countable-all trace nets e few =
    subst (All IsCountable) (sym e) (All-map IsCountable (λ net. lanes_of (all_values trace net)) (range_with_len 0 (length trace.widths)) (λ k d h. countable-one trace (get_or (range_with_len 0 (length trace.widths)) k d) few))
