-- The rows of the report.
use Rattle.std.proofs.Common.{◌≡◌, ℕ, suc, ◌+◌, ◌<◌, List, [], ◌∷◌, ◌++◌, length, get_or, map, refl, sym, ap, ◌∙◌, arith, All, take, length-take}
use Rattle.std.specs.List.{enumerate_from, range_with_len}
use Rattle.std.proofs.lemmas.List.{get_or-map, map-append, length-map, take_more}
use Rattle.std.proofs.lemmas.List.Elements.{All-head, All-tail}
use Rattle.std.proofs.lemmas.List.FromFn.{get_or-map-range_with_len, length-map-range_with_len}
use Rattle.std.proofs.lemmas.Simd.{length-replicate}
use Rattle.four_state.specs.declared.bits.Bit.TheVariants.{Unknown}
use Rattle.vcd_read.specs.declared.types.Trace.{Trace}
use Rattle.vcd_read.specs.declared.types.VcdVar.{VcdVar}
use Rattle.vcd_read.specs.Sound.{AreOfNets}
use Rattle.toggle_lanes.specs.declared.lanes.Moves.{Moves}
use Rattle.toggle_lanes.specs.declared.lanes.NetLanes.{NetLanes}
use Rattle.toggle_lanes.specs.declared.rows.Row.{Row}
use Rattle.toggle_lanes.specs.Counts.{is_rise, is_fall, moves_from, first_value, values_of, rows_of}
use Rattle.toggle_lanes.specs.Lanes.{lanes_of, all_values, moves_of, no_moves, row_with}
use Rattle.toggle_lanes.proofs.FillLemmas.{values-wide}
use Rattle.toggle_lanes.proofs.MoveLemmas.{moves-are}

-- one variable more
enumerate-more : {X : Type 0} (from : ℕ) (xs : List X) (x : X) → enumerate_from from (xs ++ x ∷ []) ≡ enumerate_from from xs ++ (from + length xs, x) ∷ []
enumerate-more from [] x = ap (λ n. (n, x) ∷ []) (omega arith)
enumerate-more from (y ∷ xs) x =
    let next : from + 1 + length xs ≡ from + suc (length xs) = omega arith in
    ap (λ zs. (from, y) ∷ zs) (enumerate-more (from + 1) xs x ∙ ap (λ n. enumerate_from (from + 1) xs ++ (n, x) ∷ []) next)

abbrev pub row_by : (ℕ → Moves) → ℕ × VcdVar → Row
row_by moves numbered = row_with numbered.0 (moves numbered.1.net)

pub rows-more : (moves : ℕ → Moves) (vars : List VcdVar) (var : VcdVar) (i : ℕ) → length vars ≡ i → map (row_by moves) (enumerate_from 0 (vars ++ var ∷ [])) ≡ map (row_by moves) (enumerate_from 0 vars) ++ row_with i (moves var.net) ∷ []
rows-more moves vars var i e =
    ap (map (row_by moves)) (enumerate-more 0 vars var)
    ∙ (map-append (row_by moves) (enumerate_from 0 vars) ((0 + length vars, var) ∷ [])
    ∙ ap (λ n. map (row_by moves) (enumerate_from 0 vars) ++ row_with n (moves var.net) ∷ []) (omega (arith, e)))

pub row-pushed : (counts : List Moves) (vars : List VcdVar) (var : VcdVar) (i : ℕ) (moves : Moves) (rows new : List Row)
    → rows ≡ map (row_by (λ net. get_or counts net no_moves)) (enumerate_from 0 (take i vars))
    → i < length vars → var ≡ get_or vars i var → get_or counts var.net no_moves ≡ moves
    → new ≡ rows ++ row_with i moves ∷ []
    → new ≡ map (row_by (λ net. get_or counts net no_moves)) (enumerate_from 0 (take (i + 1) vars))
row-pushed counts vars var i moves rows new e within is there f =
    let by : ℕ → Moves = λ net. get_or counts net no_moves in
    let long : length (take i vars) ≡ i = rw length-take (omega arith) in
    f
    ∙ (ap (λ xs. xs ++ row_with i moves ∷ []) e
    ∙ (ap (λ m. map (row_by by) (enumerate_from 0 (take i vars)) ++ row_with i m ∷ []) (sym there)
    ∙ (sym (rows-more by (take i vars) var i long)
    ∙ ap (λ xs. map (row_by by) (enumerate_from 0 xs)) (ap (λ v. take i vars ++ v ∷ []) is ∙ sym (take_more vars i var within)))))

-- rows whose nets move as often are the same
rows-same : (f g : ℕ → Moves) (from : ℕ) (vars : List VcdVar) → All (λ var. f var.net ≡ g var.net) vars → map (row_by f) (enumerate_from from vars) ≡ map (row_by g) (enumerate_from from vars)
rows-same f g from [] each = refl
rows-same f g from (var ∷ vars) each =
    ap (λ moves. row_with from moves ∷ map (row_by f) (enumerate_from (from + 1) vars)) (All-head (λ var. f var.net ≡ g var.net) var vars each)
    ∙ ap (λ rows. row_with from (g var.net) ∷ rows) (rows-same f g (from + 1) vars (All-tail (λ var. f var.net ≡ g var.net) var vars each))

-- how often a net's places move
moves_by : Trace → ℕ → Moves
moves_by trace net = record {
  rises = moves_from is_rise (first_value trace net) (values_of trace.changes net);
  falls = moves_from is_fall (first_value trace net) (values_of trace.changes net);
}

counted : (trace : Trace) (none : Moves) (nets : List NetLanes) (counts : List Moves) (net : ℕ) → AreOfNets trace.widths trace.vars trace.changes
    → nets ≡ map (λ net. lanes_of (all_values trace net)) (range_with_len 0 (length trace.widths)) → counts ≡ map moves_of nets
    → net < length trace.widths → get_or counts net none ≡ moves_by trace net
unfolding moves_by
counted trace none nets counts net h e f there =
    let long : length nets ≡ length trace.widths = ap length e ∙ length-map-range_with_len (λ net. lanes_of (all_values trace net)) 0 (length trace.widths) in
    ap (λ xs. get_or xs net none) f
    ∙ (get_or-map moves_of nets net (lanes_of []) none (omega (arith, long))
    ∙ (ap (λ xs. moves_of (get_or xs net (lanes_of []))) e
    ∙ (ap moves_of (get_or-map-range_with_len (λ net. lanes_of (all_values trace net)) 0 (length trace.widths) net net (lanes_of []) there (omega arith))
    ∙ moves-are (get_or trace.widths net 0) (first_value trace net) (values_of trace.changes net) (length-replicate (get_or trace.widths net 0) Unknown) (values-wide trace.widths trace.changes net h.as_wide))))

pub rows-are : (trace : Trace) (none : Moves) (nets : List NetLanes) (counts : List Moves) → AreOfNets trace.widths trace.vars trace.changes
    → nets ≡ map (λ net. lanes_of (all_values trace net)) (range_with_len 0 (length trace.widths)) → counts ≡ map moves_of nets
    → map (row_by (λ net. get_or counts net none)) (enumerate_from 0 trace.vars) ≡ rows_of trace
unfolding rows_of moves_by
rows-are trace none nets counts h e f =
    rows-same (λ net. get_or counts net none) (moves_by trace) 0 trace.vars
    (λ k d within. counted trace none nets counts (get_or trace.vars k d).net h e f (h.named k d within))

pub counts-long : (trace : Trace) (nets : List NetLanes) (counts : List Moves) → nets ≡ map (λ net. lanes_of (all_values trace net)) (range_with_len 0 (length trace.widths)) → counts ≡ map moves_of nets → length counts ≡ length trace.widths
counts-long trace nets counts e f = ap length f ∙ (length-map nets moves_of ∙ (ap length e ∙ length-map-range_with_len (λ net. lanes_of (all_values trace net)) 0 (length trace.widths)))
