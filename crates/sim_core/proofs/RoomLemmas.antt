-- Room for one due more: the live threads and the items with an output want so many places at most.
use Rattle.std.proofs.Common.{◌≡◌, ℕ, ◌+◌, ◌≤◌, ◌^◌, min, Bool, true, false, ◌&&◌, nat_eq, Option, is_some, List, [], ◌∷◌, length, map, sym, ap, subst, ◌∙◌, arith}
use Rattle.std.specs.List.{All, count_by, enumerate_from}
use Rattle.event_pool.specs.declared.agenda.Due.{Due}
use Rattle.event_pool.specs.Order.{in_order}
use Rattle.event_pool.specs.Pending.{unkeyed}
use Rattle.event_pool.specs.Schedule.{Schedule}
use Rattle.event_pool.proofs.CountLemmas.{count-cons, one_if}
use Rattle.vvp_threads.specs.declared.thread.Thread.{Thread}
use Rattle.vvp_threads.specs.Table.{live_count}
use Rattle.vvp_threads.specs.Keyed.{KeyedTable}
use Rattle.vvp_threads.specs.Runs.{AreRunsOf, HasKey, HasRuns, lacks_run, runs_lacking, runs_of}
use Rattle.sym_link.specs.declared.program.Item.{Item}
use Rattle.sym_link.specs.Roots.{Node, node_of}
use Rattle.net_engine.specs.Kept.{AreMarked, Fits, NamesItems, NetNow, evals_lacking, evals_of, has_output, lacks_eval}
use Rattle.sim_core.specs.Kept.{Held, IsSound, outputs_in}

-- ---- counting

one-few : (b : Bool) → one_if b ≤ 1
one-few true = omega arith
one-few false = omega arith

both-few : (a b : Bool) → one_if (a && b) ≤ one_if a
both-few true b = one-few b
both-few false b = omega arith

-- no more threads lack a Run than are live
runs-few : (from : ℕ) (dues : List Due) (threads : List (Option Thread)) → count_by (lacks_run dues) (enumerate_from from threads) ≤ count_by is_some threads
runs-few from dues [] = omega arith
runs-few from dues (slot ∷ threads) =
    omega (arith, count-cons (lacks_run dues) (from, slot) (enumerate_from (from + 1) threads), count-cons is_some slot threads, both-few (is_some slot) (nat_eq (runs_of from dues) 0), runs-few (from + 1) dues threads)

-- no more items lack an evaluation than have an output
evals-few : (from : ℕ) (dues : List Due) (items : List Item) → count_by (lacks_eval dues) (enumerate_from from (map node_of items)) ≤ outputs_in items
evals-few from dues [] = omega arith
evals-few from dues (item ∷ items) =
    let p : Item → Bool = λ i. has_output i.what in
    omega (arith, count-cons (lacks_eval dues) (from, node_of item) (enumerate_from (from + 1) (map node_of items)), count-cons p item items, both-few (has_output item.what) (nat_eq (evals_of from dues) 0), evals-few (from + 1) dues items)

-- ---- another amount of room

-- the dues are as they were, and there is room enough
pub runs-room : (threads : KeyedTable) (besides more : ℕ) (old new : Schedule) → new.dues ≡ old.dues → runs_lacking threads.table old.dues + more ≤ new.spare → HasRuns threads besides old → HasRuns threads more new
runs-room threads besides more old new same room on = record {
  runs = subst (λ (dues : List Due). AreRunsOf threads.table dues) (sym same) on.runs;
  keys = subst (λ (dues : List Due). All (λ (due : Due). HasKey threads.keys due.act) dues) (sym same) on.keys;
  room = subst (λ (dues : List Due). runs_lacking threads.table dues + more ≤ new.spare) (sym same) room;
}

-- the same for fewer dues
pub runs-fewer : (threads : KeyedTable) (besides : ℕ) (s : Schedule) → HasRuns threads besides s → HasRuns threads 0 s
runs-fewer threads besides s on = let room = on.room in record { runs = on.runs; keys = on.keys; room = omega (arith, room) }

pub fits-room : (net : NetNow) (threads : KeyedTable) (old new : Schedule) → new.dues ≡ old.dues → runs_lacking threads.table old.dues + evals_lacking net.nodes old.dues ≤ new.spare → Fits net threads old → Fits net threads new
fits-room net threads old new same room fits = record {
  marks = subst (λ (dues : List Due). AreMarked net.marks dues) (sym same) fits.marks;
  runs = subst (λ (dues : List Due). HasRuns threads (evals_lacking net.nodes dues) new) (sym same) (runs-room threads (evals_lacking net.nodes old.dues) (evals_lacking net.nodes old.dues) old new same room fits.runs);
  names = subst (λ (dues : List Due). All (λ (due : Due). NamesItems net.nodes net.values due.act) dues) (sym same) fits.names;
  marked = fits.marked;
  events = fits.events;
}

-- ---- room that was made

-- how many places are wanted of those that were made
room-made : (h : Held) (spare : ℕ) → IsSound h → min h.schedule.spare (live_count h.threads.table + h.outputs) + 1 ≤ spare
    → runs_lacking h.threads.table h.schedule.dues + evals_lacking h.net.nodes h.schedule.dues + 1 ≤ spare
room-made h spare s room =
    let live : runs_lacking h.threads.table h.schedule.dues ≤ live_count h.threads.table = runs-few 0 h.schedule.dues h.threads.table.threads in
    let few : evals_lacking h.net.nodes h.schedule.dues ≤ h.outputs =
    subst (λ (n : ℕ). evals_lacking h.net.nodes h.schedule.dues ≤ n) (sym s.outputs_are)
    (subst (λ (nodes : List Node). evals_lacking nodes h.schedule.dues ≤ outputs_in h.program.items) (sym s.nodes) (evals-few 0 h.schedule.dues h.program.items)) in
    let kept = s.fits.runs.room in
    omega (arith, live, few, kept, room)

-- there is room for one due more than is kept
pub more-made : (h : Held) (new : Schedule) → IsSound h → new.dues ≡ h.schedule.dues → min h.schedule.spare (live_count h.threads.table + h.outputs) + 1 ≤ new.spare
    → HasRuns h.threads (evals_lacking h.net.nodes new.dues + 1) new
more-made h new s same room =
    let wanted = room-made h new.spare s room in
    subst (λ (dues : List Due). HasRuns h.threads (evals_lacking h.net.nodes dues + 1) new) (sym same)
    (runs-room h.threads (evals_lacking h.net.nodes h.schedule.dues) (evals_lacking h.net.nodes h.schedule.dues + 1) h.schedule new same (omega (arith, wanted)) s.fits.runs)

-- an agenda with the same dues and the room that was made
pub sound-made : (h : Held) (new : Schedule) → IsSound h → new.dues ≡ h.schedule.dues → min h.schedule.spare (live_count h.threads.table + h.outputs) + 1 ≤ new.spare → IsSound (record h { schedule = new })
sound-made h new s same room =
    let wanted = room-made h new.spare s room in
    record {
      linked = s.linked;
      nodes = s.nodes;
      parents = s.parents;
      outputs_are = s.outputs_are;
      designed = s.designed;
      fits = fits-room h.net h.threads h.schedule new same (omega (arith, wanted)) s.fits;
      in_turn = subst (λ (dues : List Due). in_order (map unkeyed dues) ≡ map unkeyed dues) (sym same) s.in_turn;
      runs = λ r is.
          let o = s.runs r is in
          record { key = o.key; ready = o.ready; no_event = o.no_event; no_run = ap (runs_of r.serial) same ∙ o.no_run };
      scopes = s.scopes;
      children = s.children;
      few_taken = s.few_taken;
      few_serials = s.few_serials;
      few_requests = s.few_requests;
    }

-- the outputs are no more than the items
pub outputs-few : (h : Held) → IsSound h → h.outputs ≤ 2 ^ 20
outputs-few h s =
    let linked = s.linked.few_items in
    omega (arith, s.outputs_are, count-few (λ (item : Item). has_output item.what) h.program.items, linked)
  where
    count-few : (p : Item → Bool) (items : List Item) → count_by p items ≤ length items
    count-few p [] = omega arith
    count-few p (item ∷ items) = omega (arith, count-cons p item items, one-few (p item), count-few p items)
