use Rattle.std.proofs.Common.{◌≡◌, ◌+◌, ◌<◌, ℕ, List, [], Option, Some, None, slice_get, drop, length, refl, sym, ap, subst, ◌∙◌, arith}
use Rattle.std.proofs.lemmas.List.{get_or-set_same}
use Rattle.event_pool.specs.Contents.{Contents}
use Rattle.vvp_threads.specs.declared.places.Place.{Place}
use Rattle.vvp_threads.specs.declared.thread.Thread.{Thread}
use Rattle.vvp_threads.specs.Table.{slot_at, waiters_of, made_ready, woken}
use Rattle.vvp_threads.specs.Keyed.{KeyedTable, with_runs}
use Rattle.vvp_threads.specs.Kept.{threads_of, keys_of, IsSound}
use Rattle.vvp_threads.proofs.SoundLemmas.{queue}
use Rattle.vvp_threads.proofs.WakeAllLemmas.{first_rest, waking-starts, waking-place, waking-room, waking-live, waking-more, waking-threads, waking-queues, waking-agenda}
use Rattle.vvp_threads.proofs.RunLemmas.{woken-runs}
use Rattle.vvp_threads.proofs.CallRuns.{moved-runs, waiters-rest}
use Rattle.vvp_threads.proofs.threads.Threads.wake_all.Goals as goal

pub wake-init : goal.wake-init
wake-init g c = (
  refl,
  refl,
  waking-starts c.self.inside.places.slots c.self.inside.slab c.self.inside.waiting.queues (g.A.Agenda.schedule c.args.agenda.now) c.args.event c.self.inside.waiting.spare c.self.invariant.0 c.self.invariant.1
      (rw (sym c.self.view_is) at c.requires.event) (rw (sym c.self.view_is) at (woken-runs c.args.event 0 c.args.self.now (g.A.Agenda.schedule c.args.agenda.now) (waiters-rest c.self.inside.places.slots c.self.inside.slab c.self.inside.waiting.queues c.self.inside.waiting.spare c.args.self.now c.self.view_is c.self.invariant.0 c.self.invariant.1 c.args.event) c.requires.runs).0),
)

pub pop_front-requires : goal.pop_front-requires
pop_front-requires g c = c.wake.invariant.2.inside

pub resume-requires-clause-placed : goal.resume-requires-clause-placed
resume-requires-clause-placed g c = c.wake.invariant.2.placed

pub resume-requires-clause-live : goal.resume-requires-clause-live
resume-requires-clause-live g c = waking-live c.wake.self-inside.places.slots c.self.inside.slab c.self.inside.waiting.queues (g.A.Agenda.schedule c.args.agenda.now) c.args.event c.wake.self-inside.slab c.wake.self-inside.waiting.queues c.wake.self-inside.waiting.spare (g.A.Agenda.schedule c.wake.agenda) c.wake.invariant.2 c.in-Some.serial c.in-Some-find.place (sym c.in-Some-find.ensures)

pub resume-requires-clause-room : goal.resume-requires-clause-room
resume-requires-clause-room g c = waking-room c.wake.self-inside.places.slots c.self.inside.slab c.self.inside.waiting.queues (g.A.Agenda.schedule c.args.agenda.now) c.args.event c.wake.self-inside.slab c.wake.self-inside.waiting.queues c.wake.self-inside.waiting.spare (g.A.Agenda.schedule c.wake.agenda) c.wake.invariant.2 c.in-Some.serial (sym c.in-Some.ensures.first)

more_left : (q left : List ℕ) (serial : ℕ) → slice_get q 0 ≡ Some serial → left ≡ drop 1 q → length left < length q
more_left q left serial first is = let w = ap length (first_rest q serial first) in let l = ap length is in omega arith

pub wake-preserved : goal.wake-preserved
wake-preserved g c = (
  c.wake.invariant.0,
  refl,
  waking-more c.wake.self-inside.places.slots c.self.inside.slab c.self.inside.waiting.queues (g.A.Agenda.schedule c.args.agenda.now) c.args.event c.wake.self-inside.slab c.wake.self-inside.waiting.queues c.wake.self-inside.waiting.spare (g.A.Agenda.schedule c.wake.agenda) c.wake.invariant.2 c.in-Some.serial c.in-Some-find.place c.resume.new.slab c.pop_front.new.self.queues c.pop_front.new.self.spare (g.A.Agenda.schedule c.resume.new.agenda)
      (sym c.in-Some.ensures.first) (sym c.in-Some-find.ensures) c.in-Some.ensures.rest c.in-Some.ensures.spare c.resume.ensures.placed c.resume.ensures.threads c.resume.ensures.agenda,
)

pub wake-smaller : goal.wake-smaller
wake-smaller g c =
    more_left (queue c.wake.self-inside.waiting.queues c.args.event) (queue c.pop_front.new.self.queues c.args.event) c.in-Some.serial (sym c.in-Some.ensures.first)
    (ap (λ qs. queue qs c.args.event) c.in-Some.ensures.rest ∙ get_or-set_same c.wake.self-inside.waiting.queues c.args.event (drop 1 (queue c.wake.self-inside.waiting.queues c.args.event)) [] c.wake.invariant.2.inside)

not_there : (place : Place) (slot : Option Place) → None ≡ slot → slot ≡ Some place → ⊥
not_there place slot e f = let never : None ≡ Some place = e ∙ f in cc

pub unreachable-requires : goal.unreachable-requires
unreachable-requires g c =
    let there = waking-place c.wake.self-inside.places.slots c.self.inside.slab c.self.inside.waiting.queues (g.A.Agenda.schedule c.args.agenda.now) c.args.event c.wake.self-inside.slab c.wake.self-inside.waiting.queues c.wake.self-inside.waiting.spare (g.A.Agenda.schedule c.wake.agenda) c.wake.invariant.2 c.in-Some.serial (sym c.in-Some.ensures.first) in
    not_there there.0 (slot_at c.wake.self-inside.places.slots c.in-Some.serial) c.in-None.ensures there.1

pub invariant_of-self : goal.invariant_of-self
invariant_of-self g c =
    let P : Contents ℕ → Type 0 = λ p. IsSound (threads_of c.wake.self-inside.places.slots c.wake.self-inside.slab) p.queues p.spare in
    (c.wake.invariant.2.placed, subst P (sym c.in_default.ensures.none) c.wake.invariant.2.sound)

pub returns-clause-threads : goal.returns-clause-threads
returns-clause-threads g c =
    let none = sym c.in_default.ensures.first in
    let shape : List (Option Thread) → List (List ℕ) → KeyedTable = λ ts qs. record { table = record { threads = ts; waiting = qs }; keys = keys_of c.wake.self-inside.places.slots } in
    let done : List (Option Place) → KeyedTable = λ slots. record { table = woken (record { threads = threads_of slots c.self.inside.slab; waiting = c.self.inside.waiting.queues }) c.args.event; keys = keys_of slots } in
    let after : KeyedTable → KeyedTable = λ v. record v { table = woken v.table c.args.event } in
    ap (λ ts. shape ts c.pop_front.new.self.queues) (waking-threads c.wake.self-inside.places.slots c.self.inside.slab c.self.inside.waiting.queues (g.A.Agenda.schedule c.args.agenda.now) c.args.event c.wake.self-inside.slab c.wake.self-inside.waiting.queues c.wake.self-inside.waiting.spare (g.A.Agenda.schedule c.wake.agenda) c.wake.invariant.2 none)
    ∙ ap (shape (made_ready (queue c.self.inside.waiting.queues c.args.event) (threads_of c.wake.self-inside.places.slots c.self.inside.slab))) (ap (λ p. p.queues) c.in_default.ensures.none ∙ waking-queues c.wake.self-inside.places.slots c.self.inside.slab c.self.inside.waiting.queues (g.A.Agenda.schedule c.args.agenda.now) c.args.event c.wake.self-inside.slab c.wake.self-inside.waiting.queues c.wake.self-inside.waiting.spare (g.A.Agenda.schedule c.wake.agenda) c.wake.invariant.2 none)
    ∙ ap (λ p. done p.slots) c.wake.invariant.0
    ∙ ap after c.self.view_is

pub returns-clause-agenda : goal.returns-clause-agenda
returns-clause-agenda g c =
    let none = sym c.in_default.ensures.first in
    waking-agenda c.wake.self-inside.places.slots c.self.inside.slab c.self.inside.waiting.queues (g.A.Agenda.schedule c.args.agenda.now) c.args.event c.wake.self-inside.slab c.wake.self-inside.waiting.queues c.wake.self-inside.waiting.spare (g.A.Agenda.schedule c.wake.agenda) c.wake.invariant.2 none
    ∙ ap (λ p. with_runs (g.A.Agenda.schedule c.args.agenda.now) (keys_of p.slots) (queue c.self.inside.waiting.queues c.args.event)) c.wake.invariant.0
    ∙ ap (λ v. with_runs (g.A.Agenda.schedule c.args.agenda.now) v.keys (waiters_of v.table c.args.event)) c.self.view_is

pub returns-clause-runs : goal.returns-clause-runs
returns-clause-runs g c besides on =
    moved-runs _ _ _ _ besides (returns-clause-threads g c) (returns-clause-agenda g c) (woken-runs c.args.event besides c.args.self.now (g.A.Agenda.schedule c.args.agenda.now) (waiters-rest c.self.inside.places.slots c.self.inside.slab c.self.inside.waiting.queues c.self.inside.waiting.spare c.args.self.now c.self.view_is c.self.invariant.0 c.self.invariant.1 c.args.event) on).1

pub returns-clause-places : goal.returns-clause-places
returns-clause-places g c =
    ap (λ s. s.spare + length s.dues) (returns-clause-agenda g c) ∙ (woken-runs c.args.event 0 c.args.self.now (g.A.Agenda.schedule c.args.agenda.now) (waiters-rest c.self.inside.places.slots c.self.inside.slab c.self.inside.waiting.queues c.self.inside.waiting.spare c.args.self.now c.self.view_is c.self.invariant.0 c.self.invariant.1 c.args.event) c.requires.runs).2
