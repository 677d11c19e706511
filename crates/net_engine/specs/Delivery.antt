-- How a value changes, and what follows from it (IEEE 1364-2005, 7.14, 9.2, 9.3.2, 9.7 and 11.3).
use Rattle.std.specs.Prelude.{ℕ, ◌+◌, ◌-◌, ◌^◌, ℤ, nat_eq, nat_lt, min, max, Bool, true, false, not, ◌&&◌, if◌then◌else◌, Option, Some, None, List, [], map, fold, slice_get, slice_index_or, zip}
use Rattle.std.specs.List.{enumerate_from}
use Rattle.std.specs.Ordering.{int_eq}
use Rattle.std.specs.Cmp.Lexicographic.{pointwise}
use Rattle.four_state.specs.declared.bits.Bit.{Bit}
use Rattle.four_state.specs.declared.bits.Bit.TheVariants.{Zero, One, Unknown, HighZ}
use Rattle.four_state.specs.Vector.{overlaid}
use Rattle.strengths.specs.Interval.{Interval}
use Rattle.strengths.specs.Level.{driven, seen_bit}
use Rattle.four_state.specs.Same.{same_bit}
use Rattle.event_pool.specs.declared.agenda.Act.TheVariants.{Mature}
use Rattle.event_pool.specs.declared.agenda.Region.TheVariants.{Active}
use Rattle.event_pool.specs.Pending.{eval_of, has_eval}
use Rattle.vvp_forms.specs.declared.form.EdgeKind.{EdgeKind}
use Rattle.vvp_forms.specs.declared.form.EdgeKind.TheVariants.{Pos, Neg, Any}
use Rattle.vvp_threads.specs.Table.{woken, waiters_of}
use Rattle.sym_link.specs.declared.program.ItemKind.{ItemKind}
use Rattle.sym_link.specs.declared.program.ItemKind.TheVariants.{Functor, Delay, Edge, Array}
use Rattle.sym_link.specs.Roots.{Node, Input, root_of, kind_of, readers, fired_with}
use Rattle.net_engine.specs.Net.{NetValues, Request, levels_of, driven_of, forced_of, value_of, array_of, seen, strongly, output_of, request_of, with_parts, with_word, with_request}
use Rattle.net_engine.specs.State.{State, put_in, let_go, with_threads, with_values}

-- ---- the same levels

-- two intervals with the same ends
abbrev pub same_level : Interval → Interval → Bool
same_level left right = int_eq left.lo right.lo && int_eq left.hi right.hi

-- the same level at each place
abbrev pub same_levels : List Interval → List Interval → Bool
same_levels left right = pointwise same_level left right

-- ---- triggering (9.7.3 and 9.7.4)

-- the threads that wait for an event go on at once, in the order of waiting
abbrev pub wake : State → ℕ → State
wake state event = let_go (waiters_of state.threads event) (with_threads (woken state.threads event) state)

-- an event is triggered: who waits for it goes on, then who waits for each event that lists it
unfoldable pub trigger : List Node → ℕ → State → State
trigger nodes event state = fold wake state (fired_with nodes event)

-- ---- edges (9.7.2)

-- from 0 to x, z or 1, and from x or z to 1
abbrev pub rises : Bit → Bit → Bool
rises Zero new = not (same_bit Zero new)
rises One new = false
rises old new = same_bit One new

-- from 1 to x, z or 0, and from x or z to 0
abbrev pub falls : Bit → Bit → Bool
falls One new = not (same_bit One new)
falls Zero new = false
falls old new = same_bit Zero new

-- the bit that edges look at
abbrev pub lowest : List Bit → Bit
lowest bits = slice_index_or bits 0 Unknown

-- whether an event fires where a port of it changes from one seen value to another
abbrev pub fires : EdgeKind → List Bit → List Bit → Bool
fires Pos old new = rises (lowest old) (lowest new)
fires Neg old new = falls (lowest old) (lowest new)
fires Any old new = not (pointwise same_bit old new)

-- ---- delivering a change (11.3)

-- an item is to be evaluated at once, unless it is to be already
abbrev pub ask_eval : ℕ → State → State
ask_eval item state = if has_eval item state.pending then state else put_in (eval_of state.pending.now item) state

-- what an item of a kind does when one of its inputs changes from one seen value to another
abbrev pub reached : List Node → List Bit → List Bit → ℕ → Option ItemKind → State → State
reached nodes old new item (Some (Functor gate drive ports)) state = ask_eval item state
reached nodes old new item (Some (Delay rise fall decay port)) state = ask_eval item state
reached nodes old new item (Some (Edge kind ports)) state = if fires kind old new then trigger nodes item state else state
reached nodes old new item other state = state

-- what one input does
abbrev pub reached_at : List Node → List Bit → List Bit → State → Input → State
reached_at nodes old new state input = reached nodes old new input.item (kind_of nodes input.item) state

-- a change of an item from one seen value to another reaches the inputs that it drives, in their order
unfoldable pub delivered : List Node → List Bit → List Bit → ℕ → State → State
delivered nodes old new item state = fold (reached_at nodes old new) state (readers nodes item)

-- What drives an item, and what is forced on it, are set. Where it shows the same levels as before, nothing follows.
unfoldable pub become : List Node → ℕ → List Interval → List (Option Interval) → State → State
become nodes item driven forced state =
    let set = with_values (with_parts item driven forced state.values) state in
    let old = levels_of state.values item in
    let new = levels_of set.values item in
    if same_levels old new then set else delivered nodes (seen old) (seen new) item set

-- an item is driven otherwise; what is forced stays
abbrev pub change : List Node → ℕ → List Interval → State → State
change nodes item driven state = become nodes item driven (forced_of state.values item) state

-- ---- assignments (9.2)

-- a word of an array is changed; nothing reads the words of an array but opcodes and tasks (4.9)
abbrev pub word_assigned : ℕ → ℕ → ℤ → List Bit → State → State
word_assigned array word offset value state =
    with_values (with_word array word (overlaid (slice_index_or (array_of state.values array) word []) offset value) state.values) state

-- a variable is driven by its old bits with a value laid over them
abbrev pub variable_assigned : List Node → ℕ → ℤ → List Bit → State → State
variable_assigned nodes item offset value state =
    change nodes item (strongly (overlaid (seen (driven_of state.values item)) offset value)) state

-- an item of a kind gets a value: a word of an array, or a variable
abbrev pub assigned : List Node → ℕ → ℕ → ℤ → List Bit → Option ItemKind → State → State
assigned nodes item word offset value (Some (Array words)) state = word_assigned item word offset value state
assigned nodes item word offset value other state = variable_assigned nodes item offset value state

-- a value is laid over a variable, or over a word of an array, from a place up
unfoldable pub write : List Node → ℕ → ℕ → ℤ → List Bit → State → State
write nodes item word offset value state = assigned nodes item word offset value (kind_of nodes item) state

-- ---- force and release (9.3.2)

-- every place of the item's root is forced to a value, as strongly as a variable drives
unfoldable pub force : List Node → ℕ → List Bit → State → State
force nodes item value state =
    let root = root_of nodes item in
    become nodes root (driven_of state.values root) (map Some (strongly value)) state

-- whether a place is one of so many from a base on
abbrev pub is_among : ℕ → ℕ → ℕ → Bool
is_among base width place = not (nat_lt place base) && nat_lt place (base + width)

-- what is forced on a place of a number, after the release of so many from a base on
abbrev pub forced_after : ℕ → ℕ → ℕ × Option Interval → Option Interval
forced_after base width place = if is_among base width place.0 then None else place.1

-- a place that was forced keeps the bit that it was seen as
abbrev pub kept_level : Option Interval × Interval → Interval
kept_level (None, level) = level
kept_level (Some forced, level) = driven 6 6 (seen_bit forced)

-- what drives a place of a number, where those that are released keep what was forced
abbrev pub kept_after : ℕ → ℕ → ℕ × (Option Interval × Interval) → Interval
kept_after base width place = if is_among base width place.0 then kept_level place.1 else place.1.1

-- what drives an item after a release: a variable keeps what was forced on it, a net is driven as before
abbrev pub driven_after : ℕ → ℕ → Bool → NetValues → ℕ → List Interval
driven_after base width true values item = map (kept_after base width) (enumerate_from 0 (zip (forced_of values item) (driven_of values item)))
driven_after base width false values item = driven_of values item

-- so many places of the item's root from a base on are no longer forced, all in one change
unfoldable pub release : List Node → ℕ → ℕ → ℕ → Bool → State → State
release nodes item base width keep state =
    let root = root_of nodes item in
    become nodes root (driven_after base width keep state.values root) (map (forced_after base width) (enumerate_from 0 (forced_of state.values root))) state

-- ---- net delays (7.14)

-- the times of a net delay in ticks: to 1, to 0 and to z
pub record Times : Type 0 where
  pub rise : ℕ
  pub fall : ℕ
  pub decay : ℕ

-- the time to a bit; to x it is the least of the three (7.14.1)
abbrev pub time_to : Times → Bit → ℕ
time_to times One = times.rise
time_to times Zero = times.fall
time_to times HighZ = times.decay
time_to times Unknown = min times.rise (min times.fall times.decay)

-- the time of a place that is to go from one level to another; none where they are the same
abbrev pub time_of_place : Times → Interval × Interval → ℕ
time_of_place times place = if same_level place.0 place.1 then 0 else time_to times (seen_bit place.1)

-- the greatest time over all places
abbrev pub time_between : Times → List Interval → List Interval → ℕ
time_between times old new = fold (λ most place. max most (time_of_place times place)) 0 (zip old new)

-- so many ticks from now, at most the last time
abbrev pub later : ℕ → ℕ → ℕ
later now ticks = min (now + ticks) (2 ^ 64 - 1)

-- a net delay is to follow a value when its time has come, unless it is asked for another one before
abbrev pub postponed : ℕ → ℕ → List Interval → Request → State → State
postponed item ticks wanted request state =
    put_in (record { time = later state.pending.now ticks; region = Active; act = Mature item request.serial })
    (with_values (with_request item (record request { kept = Some wanted }) state.values) state)

-- a net delay follows a value after so many ticks, at once where there are none
abbrev pub follows_after : List Node → ℕ → ℕ → List Interval → Request → State → State
follows_after nodes item ticks wanted request state =
    if nat_lt 0 ticks then postponed item ticks wanted request state
    else change nodes item wanted (with_values (with_request item request state.values) state)

-- a request of a new number, which keeps nothing yet
abbrev pub next_request : Request → Request
next_request request = record { serial = request.serial + 1; kept = None }

-- a net delay is asked for a value that it doesn't keep: for what it drives already there is no more to do
abbrev pub asked_anew : List Node → ℕ → Times → List Interval → State → State
asked_anew nodes item times wanted state =
    let request = next_request (request_of state.values item) in
    let driven = driven_of state.values item in
    if same_levels wanted driven then with_values (with_request item request state.values) state
    else follows_after nodes item (time_between times driven wanted) wanted request state

-- a net delay is asked for a value, where it keeps one or none: for the one that it keeps nothing is to be done
abbrev pub asked : List Node → ℕ → Times → List Interval → Option (List Interval) → State → State
asked nodes item times wanted None state = asked_anew nodes item times wanted state
asked nodes item times wanted (Some kept) state =
    if same_levels wanted kept then state else asked_anew nodes item times wanted state

-- a net delay is asked for what its port has now
abbrev pub ask : List Node → ℕ → Times → ℕ → State → State
ask nodes item times port state = asked nodes item times (value_of nodes state.values port) (request_of state.values item).kept state

-- a net delay follows what it keeps
abbrev pub matured : List Node → ℕ → Request → Option (List Interval) → State → State
matured nodes item request None state = state
matured nodes item request (Some kept) state =
    change nodes item kept (with_values (with_request item (record request { kept = None }) state.values) state)

-- the time of a request has come: nothing is done where another was made since, or nothing is kept
unfoldable pub mature : List Node → ℕ → ℕ → State → State
mature nodes item serial state =
    let request = request_of state.values item in
    if nat_eq request.serial serial then matured nodes item request request.kept state else state

-- ---- evaluating

-- an item of a kind is evaluated: a net delay is asked, a gate drives its output
abbrev pub evaluated : List Node → ℕ → Node → ItemKind → State → State
evaluated nodes item node (Delay rise fall decay port) state = ask nodes item (record { rise = rise; fall = fall; decay = decay }) port state
evaluated nodes item node other state = change nodes item (output_of nodes state.values node) state

-- an item is evaluated, where there is one of this number
abbrev pub row_evaluated : List Node → ℕ → Option Node → State → State
row_evaluated nodes item None state = state
row_evaluated nodes item (Some node) state = evaluated nodes item node node.what state

-- an item is evaluated
unfoldable pub eval : List Node → ℕ → State → State
eval nodes item state = row_evaluated nodes item (slice_get nodes item) state
