-- What delivery leaves of the threads: those that wait may go on, and nothing else of them changes.
use Rattle.std.proofs.Common.{◌≡◌, ◌≢◌, ◌⊎◌, inl, inr, ℕ, zero, suc, ◌+◌, ℤ, nat_eq, nat_lt, Bool, true, false, cond, Option, Some, None, List, [], ◌∷◌, ◌++◌, map, set, refl, sym, ap, ◌∙◌, append_assoc, arith}
use Rattle.std.specs.List.{fold, slice_get}
use Rattle.std.specs.Prelude.{slice_index_or}
use Rattle.std.proofs.lemmas.List.{append-nil, get_or-set_other}
use Rattle.std.proofs.lemmas.Bool.{cases_eq}
use Rattle.std.proofs.lemmas.Bool.Decides.{nat_tests}
use Rattle.four_state.specs.declared.bits.Bit.{Bit}
use Rattle.strengths.specs.Interval.{Interval}
use Rattle.event_pool.specs.declared.agenda.Due.{Due}
use Rattle.event_pool.specs.declared.agenda.Act.TheVariants.{Mature}
use Rattle.event_pool.specs.declared.agenda.Region.TheVariants.{Active}
use Rattle.event_pool.specs.Pending.{eval_of, has_eval, run_of}
use Rattle.event_pool.proofs.CountLemmas.{count-push, one_if}
use Rattle.four_state.specs.Vector.{overlaid}
use Rattle.vvp_threads.specs.declared.thread.Thread.{Thread}
use Rattle.vvp_threads.specs.declared.thread.ThreadState.TheVariants.{Ready}
use Rattle.vvp_threads.specs.Table.{Table, changed_at, has, in_state, made_ready, slot_at, waiters_of, woken}
use Rattle.vvp_threads.specs.Runs.{is_run_of, runs_of}
use Rattle.vvp_threads.proofs.SlotLemmas.{slot_at-set_other}
use Rattle.sym_link.specs.Roots.{Input, Node, fired_with, kind_of, readers, root_of}
use Rattle.sym_link.specs.declared.program.ItemKind.{ItemKind}
use Rattle.sym_link.specs.declared.program.ItemKind.TheVariants.{Array, Delay, Edge, Functor}
use Rattle.sym_link.specs.declared.program.ItemKind.TheVariants as kind
use Rattle.net_engine.specs.Net.{NetValues, Request, array_of, driven_of, forced_of, levels_of, output_of, request_of, seen, strongly, value_of, with_parts, with_request, with_word}
use Rattle.net_engine.specs.State.{State, put_in, with_values}
use Rattle.net_engine.specs.Delivery.{Times, ask_eval, asked, asked_anew, become, change, delivered, eval, evaluated, fires, follows_after, force, later, mature, matured, next_request, postponed, reached, reached_at, release, row_evaluated, same_levels, time_between, trigger, wake, assigned, write}
use Rattle.sim_core.proofs.DescendLemmas.{Descend, descend-none, descend-ready, descend-then}

-- no event has the serial among those that wait for it
abbrev pub WaitsFor : Table → ℕ → Type 0
WaitsFor table serial = (event : ℕ) → has (waiters_of table event) serial ≡ false

-- a thread that waits for no event has as many Runs pending as before, and is as it was
pub record StaysAs (old new : State) (serial : ℕ) : Type 0 where
  pub no_event : WaitsFor new.threads serial
  pub runs : runs_of serial new.pending.dues ≡ runs_of serial old.pending.dues
  pub slot : slot_at new.threads.threads serial ≡ slot_at old.threads.threads serial

pub record Wakes (old new : State) : Type 0 where
  pub down : Descend old.threads.threads new.threads.threads
  pub still : (serial : ℕ) → WaitsFor old.threads serial → StaysAs old new serial

pub wakes-none : (state : State) → Wakes state state
wakes-none state = record { down = descend-none state.threads.threads; still = λ serial waits. record { no_event = waits; runs = refl; slot = refl } }

pub wakes-then : (old mid new : State) → Wakes old mid → Wakes mid new → Wakes old new
wakes-then old mid new first next = record {
  down = descend-then old.threads.threads mid.threads.threads new.threads.threads first.down next.down;
  still = λ serial waits.
      let a = first.still serial waits in
      let b = next.still serial a.no_event in
      record { no_event = b.no_event; runs = b.runs ∙ a.runs; slot = b.slot ∙ a.slot };
}

-- other values
pub wakes-values : (values : NetValues) (old new : State) → Wakes (with_values values old) new → Wakes old new
wakes-values values old new w = record { down = w.down; still = λ serial waits. let s = w.still serial waits in record { no_event = s.no_event; runs = s.runs; slot = s.slot } }

-- a due that isn't a Run
wakes-put : (due : Due) (old : State) → ((serial : ℕ) → is_run_of serial due.act ≡ false) → Wakes old (put_in due old)
wakes-put due old other = record {
  down = descend-none old.threads.threads;
  still = λ serial waits. record {
    no_event = waits;
    runs = count-push (λ (d : Due). is_run_of serial d.act) old.pending.dues due ∙ (let none : one_if (is_run_of serial due.act) ≡ 0 = ap one_if (other serial) in omega (arith, none));
    slot = refl;
  };
}

-- ---- waking

pub has-parts : (s : ℕ) (serials : List ℕ) (serial : ℕ) → has (s ∷ serials) serial ≡ false → (nat_eq s serial ≡ false) × (has serials serial ≡ false)
has-parts s serials serial out = go (nat_eq s serial) refl where
  go : (b : Bool) → nat_eq s serial ≡ b → (nat_eq s serial ≡ false) × (has serials serial ≡ false)
  go true e = absurd (let h = rw e at out in (let none : ⊥ = cc in none))
  go false e = (e, rw e at out)

pub ready-slot : (serials : List ℕ) (threads : List (Option Thread)) (serial : ℕ) → has serials serial ≡ false → slot_at (made_ready serials threads) serial ≡ slot_at threads serial
ready-slot [] threads serial out = refl
ready-slot (s ∷ serials) threads serial out =
    let parts = has-parts s serials serial out in
    let first : nat_eq s serial ≡ false = parts.0 in
    let differ : serial ≢ s = λ e. (let none : ⊥ = grind (arith, nat_tests, first) in none) in
    ready-slot serials (changed_at threads s (in_state Ready)) serial parts.1 ∙ slot_at-set_other threads s serial _ differ

run-counts : (serials : List ℕ) (now serial : ℕ) (dues : List Due) → has serials serial ≡ false → runs_of serial (dues ++ map (run_of now Active) serials) ≡ runs_of serial dues
run-counts [] now serial dues out = ap (runs_of serial) (append-nil dues)
run-counts (s ∷ serials) now serial dues out =
    let parts = has-parts s serials serial out in
    let none : one_if (nat_eq s serial) ≡ 0 = ap one_if parts.0 in
    let one : runs_of serial (dues ++ run_of now Active s ∷ []) ≡ runs_of serial dues + one_if (nat_eq s serial) = count-push (λ (due : Due). is_run_of serial due.act) dues (run_of now Active s) in
    ap (runs_of serial) (sym (append_assoc dues (run_of now Active s ∷ []) (map (run_of now Active) serials)))
    ∙ run-counts serials now serial (dues ++ run_of now Active s ∷ []) parts.1
    ∙ omega (arith, one, none)

emptied-has : (waiting : List (List ℕ)) (event serial : ℕ) → has (slice_index_or (set waiting event []) event []) serial ≡ false
emptied-has [] event serial = refl
emptied-has (list ∷ waiting) zero serial = refl
emptied-has (list ∷ waiting) (suc event) serial = emptied-has waiting event serial

woken-waits : (table : Table) (event serial : ℕ) → WaitsFor table serial → WaitsFor (woken table event) serial
woken-waits table event serial waits other = go (cases_eq other event) where
  go : (other ≡ event) ⊎ (other ≢ event) → has (slice_index_or (set table.waiting event []) other []) serial ≡ false
  go (inl here) = ap (λ (k : ℕ). has (slice_index_or (set table.waiting event []) k []) serial) here ∙ emptied-has table.waiting event serial
  go (inr differ) = ap (λ (serials : List ℕ). has serials serial) (get_or-set_other table.waiting event other [] [] differ) ∙ waits other

wakes-event : (state : State) (event : ℕ) → Wakes state (wake state event)
wakes-event state event = record {
  down = descend-ready (waiters_of state.threads event) state.threads.threads;
  still = λ serial waits. record {
    no_event = woken-waits state.threads event serial waits;
    runs = run-counts (waiters_of state.threads event) state.pending.now serial state.pending.dues (waits event);
    slot = ready-slot (waiters_of state.threads event) state.threads.threads serial (waits event);
  };
}

wakes-events : (events : List ℕ) (state : State) → Wakes state (fold wake state events)
wakes-events [] state = wakes-none state
wakes-events (event ∷ events) state = wakes-then state (wake state event) (fold wake (wake state event) events) (wakes-event state event) (wakes-events events (wake state event))

pub wakes-trigger : (nodes : List Node) (event : ℕ) (state : State) → Wakes state (trigger nodes event state)
unfolding trigger
wakes-trigger nodes event state = wakes-events (fired_with nodes event) state

-- ---- delivering

wakes-ask : (item : ℕ) (state : State) → Wakes state (ask_eval item state)
wakes-ask item state = go (has_eval item state.pending) where
  go : (b : Bool) → Wakes state (cond b state (put_in (eval_of state.pending.now item) state))
  go true = wakes-none state
  go false = wakes-put (eval_of state.pending.now item) state (λ serial. refl)

wakes-edge : (nodes : List Node) (item : ℕ) (b : Bool) (state : State) → Wakes state (cond b (trigger nodes item state) state)
wakes-edge nodes item true state = wakes-trigger nodes item state
wakes-edge nodes item false state = wakes-none state

wakes-reached : (nodes : List Node) (old new : List Bit) (item : ℕ) (what : Option ItemKind) (state : State) → Wakes state (reached nodes old new item what state)
wakes-reached nodes old new item None state = wakes-none state
wakes-reached nodes old new item (Some (kind.Var integer)) state = wakes-none state
wakes-reached nodes old new item (Some (kind.Net root)) state = wakes-none state
wakes-reached nodes old new item (Some (Functor gate drive ports)) state = wakes-ask item state
wakes-reached nodes old new item (Some (Edge what ports)) state = wakes-edge nodes item (fires what old new) state
wakes-reached nodes old new item (Some kind.Named) state = wakes-none state
wakes-reached nodes old new item (Some (kind.AnyOf events)) state = wakes-none state
wakes-reached nodes old new item (Some (Array words)) state = wakes-none state
wakes-reached nodes old new item (Some (kind.Scope number)) state = wakes-none state
wakes-reached nodes old new item (Some kind.Param) state = wakes-none state
wakes-reached nodes old new item (Some (Delay rise fall decay port)) state = wakes-ask item state

wakes-inputs : (nodes : List Node) (old new : List Bit) (inputs : List Input) (state : State) → Wakes state (fold (reached_at nodes old new) state inputs)
wakes-inputs nodes old new [] state = wakes-none state
wakes-inputs nodes old new (input ∷ inputs) state =
    wakes-then state (reached_at nodes old new state input) (fold (reached_at nodes old new) (reached_at nodes old new state input) inputs)
    (wakes-reached nodes old new input.item (kind_of nodes input.item) state) (wakes-inputs nodes old new inputs (reached_at nodes old new state input))

wakes-delivered : (nodes : List Node) (old new : List Bit) (item : ℕ) (state : State) → Wakes state (delivered nodes old new item state)
unfolding delivered
wakes-delivered nodes old new item state = wakes-inputs nodes old new (readers nodes item) state

-- the values alone
wakes-set : (values : NetValues) (state : State) → Wakes state (with_values values state)
wakes-set values state = wakes-values values state (with_values values state) (wakes-none (with_values values state))

pub wakes-become : (nodes : List Node) (item : ℕ) (driven : List Interval) (forced : List (Option Interval)) (state : State) → Wakes state (become nodes item driven forced state)
unfolding become
wakes-become nodes item driven forced state =
    let values : NetValues = with_parts item driven forced state.values in
    wakes-values values state (become nodes item driven forced state) (go (same_levels (levels_of state.values item) (levels_of values item)) (seen (levels_of state.values item)) (seen (levels_of values item)))
  where
    go : (b : Bool) (old new : List Bit) → Wakes (with_values (with_parts item driven forced state.values) state)
        (cond b (with_values (with_parts item driven forced state.values) state) (delivered nodes old new item (with_values (with_parts item driven forced state.values) state)))
    go true old new = wakes-none (with_values (with_parts item driven forced state.values) state)
    go false old new = wakes-delivered nodes old new item (with_values (with_parts item driven forced state.values) state)

wakes-change : (nodes : List Node) (item : ℕ) (driven : List Interval) (state : State) → Wakes state (change nodes item driven state)
wakes-change nodes item driven state = wakes-become nodes item driven (forced_of state.values item) state

-- ---- the calls of a net

wakes-assigned : (nodes : List Node) (item word : ℕ) (offset : ℤ) (value : List Bit) (what : Option ItemKind) (state : State) → Wakes state (assigned nodes item word offset value what state)
wakes-assigned nodes item word offset value None state = wakes-change nodes item (strongly (overlaid (seen (driven_of state.values item)) offset value)) state
wakes-assigned nodes item word offset value (Some (kind.Var integer)) state = wakes-change nodes item (strongly (overlaid (seen (driven_of state.values item)) offset value)) state
wakes-assigned nodes item word offset value (Some (kind.Net root)) state = wakes-change nodes item (strongly (overlaid (seen (driven_of state.values item)) offset value)) state
wakes-assigned nodes item word offset value (Some (Functor gate drive ports)) state = wakes-change nodes item (strongly (overlaid (seen (driven_of state.values item)) offset value)) state
wakes-assigned nodes item word offset value (Some (Edge what ports)) state = wakes-change nodes item (strongly (overlaid (seen (driven_of state.values item)) offset value)) state
wakes-assigned nodes item word offset value (Some kind.Named) state = wakes-change nodes item (strongly (overlaid (seen (driven_of state.values item)) offset value)) state
wakes-assigned nodes item word offset value (Some (kind.AnyOf events)) state = wakes-change nodes item (strongly (overlaid (seen (driven_of state.values item)) offset value)) state
wakes-assigned nodes item word offset value (Some (Array words)) state = wakes-set (with_word item word (overlaid (slice_index_or (array_of state.values item) word []) offset value) state.values) state
wakes-assigned nodes item word offset value (Some (kind.Scope number)) state = wakes-change nodes item (strongly (overlaid (seen (driven_of state.values item)) offset value)) state
wakes-assigned nodes item word offset value (Some kind.Param) state = wakes-change nodes item (strongly (overlaid (seen (driven_of state.values item)) offset value)) state
wakes-assigned nodes item word offset value (Some (Delay rise fall decay port)) state = wakes-change nodes item (strongly (overlaid (seen (driven_of state.values item)) offset value)) state

pub wakes-write : (nodes : List Node) (item word : ℕ) (offset : ℤ) (value : List Bit) (state : State) → Wakes state (write nodes item word offset value state)
unfolding write
wakes-write nodes item word offset value state = wakes-assigned nodes item word offset value (kind_of nodes item) state

pub wakes-force : (nodes : List Node) (item : ℕ) (value : List Bit) (state : State) → Wakes state (force nodes item value state)
unfolding force
wakes-force nodes item value state = wakes-become nodes (root_of nodes item) _ _ state

pub wakes-release : (nodes : List Node) (item base width : ℕ) (keep : Bool) (state : State) → Wakes state (release nodes item base width keep state)
unfolding release
wakes-release nodes item base width keep state = wakes-become nodes (root_of nodes item) _ _ state

wakes-after : (nodes : List Node) (item ticks : ℕ) (wanted : List Interval) (request : Request) (state : State) → Wakes state (follows_after nodes item ticks wanted request state)
wakes-after nodes item ticks wanted request state = go (nat_lt 0 ticks) where
  go : (b : Bool) → Wakes state (cond b (postponed item ticks wanted request state) (change nodes item wanted (with_values (with_request item request state.values) state)))
  go true =
      wakes-values (with_request item (record request { kept = Some wanted }) state.values) state _
      (wakes-put (record { time = later state.pending.now ticks; region = Active; act = Mature item request.serial }) (with_values (with_request item (record request { kept = Some wanted }) state.values) state) (λ serial. refl))
  go false = wakes-values (with_request item request state.values) state _ (wakes-change nodes item wanted (with_values (with_request item request state.values) state))

wakes-anew : (nodes : List Node) (item : ℕ) (times : Times) (wanted : List Interval) (state : State) → Wakes state (asked_anew nodes item times wanted state)
wakes-anew nodes item times wanted state = go (same_levels wanted (driven_of state.values item)) where
  go : (b : Bool) → Wakes state (cond b (with_values (with_request item (next_request (request_of state.values item)) state.values) state)
      (follows_after nodes item (time_between times (driven_of state.values item) wanted) wanted (next_request (request_of state.values item)) state))
  go true = wakes-set (with_request item (next_request (request_of state.values item)) state.values) state
  go false = wakes-after nodes item (time_between times (driven_of state.values item) wanted) wanted (next_request (request_of state.values item)) state

wakes-asked : (nodes : List Node) (item : ℕ) (times : Times) (wanted : List Interval) (kept : Option (List Interval)) (state : State) → Wakes state (asked nodes item times wanted kept state)
wakes-asked nodes item times wanted None state = wakes-anew nodes item times wanted state
wakes-asked nodes item times wanted (Some kept) state = go (same_levels wanted kept) where
  go : (b : Bool) → Wakes state (cond b state (asked_anew nodes item times wanted state))
  go true = wakes-none state
  go false = wakes-anew nodes item times wanted state

wakes-matured : (nodes : List Node) (item : ℕ) (request : Request) (kept : Option (List Interval)) (state : State) → Wakes state (matured nodes item request kept state)
wakes-matured nodes item request None state = wakes-none state
wakes-matured nodes item request (Some kept) state =
    wakes-values (with_request item (record request { kept = None }) state.values) state _ (wakes-change nodes item kept (with_values (with_request item (record request { kept = None }) state.values) state))

pub wakes-mature : (nodes : List Node) (item serial : ℕ) (state : State) → Wakes state (mature nodes item serial state)
unfolding mature
wakes-mature nodes item serial state = go (nat_eq (request_of state.values item).serial serial) where
  go : (b : Bool) → Wakes state (cond b (matured nodes item (request_of state.values item) (request_of state.values item).kept state) state)
  go true = wakes-matured nodes item (request_of state.values item) (request_of state.values item).kept state
  go false = wakes-none state

wakes-evaluated : (nodes : List Node) (item : ℕ) (node : Node) (what : ItemKind) (state : State) → Wakes state (evaluated nodes item node what state)
wakes-evaluated nodes item node (kind.Var integer) state = wakes-change nodes item (output_of nodes state.values node) state
wakes-evaluated nodes item node (kind.Net root) state = wakes-change nodes item (output_of nodes state.values node) state
wakes-evaluated nodes item node (Functor gate drive ports) state = wakes-change nodes item (output_of nodes state.values node) state
wakes-evaluated nodes item node (Edge what ports) state = wakes-change nodes item (output_of nodes state.values node) state
wakes-evaluated nodes item node kind.Named state = wakes-change nodes item (output_of nodes state.values node) state
wakes-evaluated nodes item node (kind.AnyOf events) state = wakes-change nodes item (output_of nodes state.values node) state
wakes-evaluated nodes item node (Array words) state = wakes-change nodes item (output_of nodes state.values node) state
wakes-evaluated nodes item node (kind.Scope number) state = wakes-change nodes item (output_of nodes state.values node) state
wakes-evaluated nodes item node kind.Param state = wakes-change nodes item (output_of nodes state.values node) state
wakes-evaluated nodes item node (Delay rise fall decay port) state = wakes-asked nodes item (record { rise = rise; fall = fall; decay = decay }) (value_of nodes state.values port) (request_of state.values item).kept state

wakes-row : (nodes : List Node) (item : ℕ) (node : Option Node) (state : State) → Wakes state (row_evaluated nodes item node state)
wakes-row nodes item None state = wakes-none state
wakes-row nodes item (Some node) state = wakes-evaluated nodes item node node.what state

pub wakes-eval : (nodes : List Node) (item : ℕ) (state : State) → Wakes state (eval nodes item state)
unfolding eval
wakes-eval nodes item state = wakes-row nodes item (slice_get nodes item) state
