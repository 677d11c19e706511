-- What a net is stays so, whatever its calls change.
use Rattle.std.proofs.Common.{◌≡◌, ◌≢◌, ℕ, ◌+◌, ◌<◌, ◌≤◌, ◌⊎◌, inl, inr, Bool, true, false, Option, Some, None, List, [], length, map, set, get_or, refl, sym, ap, subst, ◌∙◌, arith}
use Rattle.std.specs.List.{zip, enumerate_from}
use Rattle.std.specs.Option.{ForSome}
use Rattle.std.proofs.lemmas.Bool.{cases_lt, cases_eq}
use Rattle.std.proofs.lemmas.List.{length-map, get_or_past, get_or-set_same, get_or-set_other, set_past}
use Rattle.std.proofs.lemmas.List.FromFn.{length-enumerate_from}
use Rattle.event_pool.specs.Schedule.{Schedule}
use Rattle.four_state.specs.declared.bits.Bit.{Bit}
use Rattle.strengths.specs.Interval.{Interval}
use Rattle.vvp_threads.specs.Keyed.{KeyedTable}
use Rattle.sym_link.specs.Roots.{Node, kind_of, root_of}
use Rattle.net_engine.specs.Net.{NetValues, Request, driven_of, forced_of, levels_of, request_of, strongly, words_of, with_parts, with_request}
use Rattle.net_engine.specs.Delivery.{forced_after, kept_after, driven_after}
use Rattle.net_engine.specs.Kept.{Fits}
use Rattle.net_engine.specs.Parts.{AreWide, IsNet, IsLinked, HasLevels, HasValue, MayFit, net_of, AsksAtMost}
use Rattle.net_engine.proofs.MixLemmas.{zip-length}
use Rattle.net_engine.proofs.RootLemmas.{levels-driven, levels-length}
use Rattle.net_engine.proofs.ReadLemmas.{value-levels, value-root, words-one}
use Rattle.net_engine.proofs.WideLemmas.{wide-parts, wide-request}

-- an item that drives something is there
pub driven-there : (nodes : List Node) (values : NetValues) (item : ℕ) → AreWide nodes values → 1 ≤ length (driven_of values item) → item < length nodes
driven-there nodes values item wide least = go (cases_lt item (length values.driven)) where
  go : (item < length values.driven) ⊎ (length values.driven ≤ item) → item < length nodes
  go (inl inside) = omega (arith, wide.drivens, inside)
  go (inr past) = absurd (omega (arith, ap length (get_or_past values.driven item [] past), least))

-- a place that may be forced is driven
pub forced-there : (nodes : List Node) (values : NetValues) (item place : ℕ) → AreWide nodes values → place < length (forced_of values item) → 1 ≤ length (driven_of values item)
forced-there nodes values item place wide inside = omega (arith, wide.forced item, inside)

-- an item with a value drives at least one place
pub value-driven : (nodes : List Node) (values : NetValues) (item : ℕ) → IsLinked nodes → AreWide nodes values → HasValue (kind_of nodes item) → 1 ≤ length (driven_of values item)
value-driven nodes values item linked wide h =
    subst (λ (r : ℕ). 1 ≤ length (driven_of values r)) (value-root (kind_of nodes item) item h) (levels-driven nodes values item linked wide (value-levels (kind_of nodes item) h))

pub fits-may : (nodes : List Node) (values : NetValues) (marks : List Bool) (threads : KeyedTable) (s : Schedule) → Fits (net_of nodes values marks) threads s → MayFit nodes marks threads s
fits-may nodes values marks threads s fits = record { values = values; fits = fits }

-- ---- what is set

pub net-parts : (nodes : List Node) (values new_values : NetValues) (marks new_marks : List Bool) (item : ℕ) (levels : List Interval) (forced : List (Option Interval)) → IsNet nodes values marks
    → new_values ≡ with_parts item levels forced values → length levels ≡ length (driven_of values item) → length forced ≡ length levels → length new_marks ≡ length nodes → IsNet nodes new_values new_marks
net-parts nodes values new_values marks new_marks item levels forced net is same places marked = record {
  linked = net.linked;
  wide = subst (AreWide nodes) (sym is) (wide-parts nodes values item levels forced net.wide same places);
  marked = marked;
}

pub net-request : (nodes : List Node) (values new_values : NetValues) (marks new_marks : List Bool) (item : ℕ) (request : Request) → IsNet nodes values marks
    → new_values ≡ with_request item request values → ForSome request.kept (λ kept. length kept ≡ length (driven_of values item)) → length new_marks ≡ length nodes → IsNet nodes new_values new_marks
net-request nodes values new_values marks new_marks item request net is kept marked = record {
  linked = net.linked;
  wide = subst (AreWide nodes) (sym is) (wide-request nodes values item request net.wide kept);
  marked = marked;
}

pub net-marks : (nodes : List Node) (values : NetValues) (marks new_marks : List Bool) → IsNet nodes values marks → length new_marks ≡ length nodes → IsNet nodes values new_marks
net-marks nodes values marks new_marks net marked = record { linked = net.linked; wide = net.wide; marked = marked }

-- ---- forcing

-- the one word of an item is as wide as what its root drives
pub word-width : (nodes : List Node) (values : NetValues) (item : ℕ) → IsLinked nodes → AreWide nodes values → HasLevels (kind_of nodes item) → length (get_or (words_of nodes values item) 0 []) ≡ length (driven_of values (root_of nodes item))
word-width nodes values item linked wide h =
    ap (λ (ws : List (List Bit)). length (get_or ws 0 [])) (words-one nodes values item h)
    ∙ length-map (levels_of values (root_of nodes item)) _ ∙ levels-length values (root_of nodes item) (wide.forced (root_of nodes item))

pub forced-length : (value : List Bit) (levels : List Interval) → length value ≡ length levels → length (map Some (strongly value)) ≡ length levels
forced-length value levels same = length-map (strongly value) _ ∙ length-map value _ ∙ same

pub released-length : (base width : ℕ) (forced : List (Option Interval)) (levels : List Interval) → length forced ≡ length levels → length (map (forced_after base width) (enumerate_from 0 forced)) ≡ length levels
released-length base width forced levels same = length-map (enumerate_from 0 forced) (forced_after base width) ∙ length-enumerate_from 0 forced ∙ same

pub released-driven : (base width : ℕ) (keep : Bool) (values : NetValues) (item : ℕ) → length (forced_of values item) ≡ length (driven_of values item) → length (driven_after base width keep values item) ≡ length (driven_of values item)
released-driven base width true values item same = length-map (enumerate_from 0 (zip (forced_of values item) (driven_of values item))) (kept_after base width) ∙ length-enumerate_from 0 (zip (forced_of values item) (driven_of values item)) ∙ zip-length (forced_of values item) (driven_of values item) same
released-driven base width false values item same = refl

-- ---- numbers of requests

pub asks-same : (values new_values : NetValues) → new_values.requests ≡ values.requests → AsksAtMost 1 values new_values
asks-same values new_values same = record { each = λ item. (let number : (request_of new_values item).serial ≡ (request_of values item).serial = ap (λ (rs : List Request). (get_or rs item (record { serial = 0; kept = None })).serial) same in omega (arith, number)) }

pub asks-request : (more item : ℕ) (request : Request) (values set_values new_values : NetValues) → set_values ≡ with_request item request values → new_values.requests ≡ set_values.requests → request.serial ≤ (request_of values item).serial + more
    → AsksAtMost more values new_values
asks-request more item request values set_values new_values set_is same few = record {
  each = λ k. subst (λ (rs : List Request). (get_or rs k none).serial ≤ (request_of values k).serial + more) (sym (same ∙ ap (λ (v : NetValues). v.requests) set_is)) (go k (cases_eq k item) (cases_lt item (length values.requests)));
} where
  none : Request
  none = record { serial = 0; kept = None }

  go : (k : ℕ) → (k ≡ item) ⊎ (k ≢ item) → (item < length values.requests) ⊎ (length values.requests ≤ item) → (get_or (set values.requests item request) k none).serial ≤ (request_of values k).serial + more
  go k (inl here) (inl inside) =
      let is : (get_or (set values.requests item request) k none).serial ≡ request.serial = ap (λ (r : Request). r.serial) (ap (λ (i : ℕ). get_or (set values.requests item request) i none) here ∙ get_or-set_same values.requests item request none inside) in
      let was : (request_of values k).serial ≡ (request_of values item).serial = ap (λ (i : ℕ). (request_of values i).serial) here in
      omega (arith, is, was, few)
  go k (inl here) (inr past) =
      let is : (get_or (set values.requests item request) k none).serial ≡ (request_of values k).serial = ap (λ (rs : List Request). (get_or rs k none).serial) (set_past values.requests item request past) in omega (arith, is)
  go k (inr other) h =
      let is : (get_or (set values.requests item request) k none).serial ≡ (request_of values k).serial = ap (λ (r : Request). r.serial) (get_or-set_other values.requests item k request none other) in omega (arith, is)

pub asks-none : (values new_values : NetValues) → new_values.requests ≡ values.requests → AsksAtMost 0 values new_values
asks-none values new_values same = record { each = λ item. (let number : (request_of new_values item).serial ≡ (request_of values item).serial = ap (λ (rs : List Request). (get_or rs item (record { serial = 0; kept = None })).serial) same in omega (arith, number)) }
