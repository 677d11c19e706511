use Rattle.std.proofs.Common.{◌≡◌, ◌+◌, [], ◌∷◌, Some, length, sym, ap, ◌∙◌}
use Rattle.vvp_threads.specs.Table.{slot_at, joiners_of, emptied, without}
use Rattle.vvp_threads.specs.Keyed.{KeyedTable, with_runs}
use Rattle.vvp_threads.specs.Kept.{threads_of, keys_of}
use Rattle.vvp_threads.proofs.StepLemmas.{contains_under, under_view}
use Rattle.vvp_threads.proofs.JoinLemmas.{joiners-one}
use Rattle.vvp_threads.proofs.EndLemmas.{left_event, left_alone, ends, ready_sound, ready_under, ended_view}
use Rattle.vvp_threads.proofs.RunLemmas.{ended-runs}
use Rattle.vvp_threads.proofs.CallRuns.{moved-runs}
use Rattle.vvp_threads.proofs.threads.Threads.end.Goals as goal

some_same : {X : Type 0} (x y : X) → Some x ≡ Some y → x ≡ y
some_same x y e = cc

pub index-requires : goal.index-requires
index-requires g c =
    let u = under_view c.self.inside.places.slots c.self.inside.slab c.self.inside.waiting.queues c.args.self.now c.self.view_is c.self.invariant.0 c.requires.live.0 c.args.key c.requires.live.1 in
    contains_under c.self.inside.places.slots c.self.inside.slab c.requires.live.0 c.args.key u

pub resume_joiner-requires-clause-room : goal.resume_joiner-requires-clause-room
resume_joiner-requires-clause-room g c =
    let u = under_view c.self.inside.places.slots c.self.inside.slab c.self.inside.waiting.queues c.args.self.now c.self.view_is c.self.invariant.0 c.requires.live.0 c.args.key c.requires.live.1 in
    let is : c.index.result.now.serial ≡ c.requires.live.0 = ap (λ t. t.serial) (some_same c.index.result.now u.thread (sym c.index.ensures ∙ u.kept)) ∙ u.serial_is in
    let k = ap (λ v. slot_at v.keys c.requires.live.0) c.self.view_is ∙ c.requires.live.1 in
    let room = (ended-runs c.requires.live.0 0 c.args.self.now (g.A.Agenda.schedule c.args.agenda.now) c.requires.runs).0 in
    rw (is, sym (joiners-one (threads_of c.self.inside.places.slots c.self.inside.slab) c.self.inside.waiting.queues c.self.inside.waiting.spare c.self.invariant.1 c.requires.live.0))
    (rw (sym c.self.view_is) at room)

pub leave-requires-clause-event : goal.leave-requires-clause-event
leave-requires-clause-event g c =
    let u = under_view c.self.inside.places.slots c.self.inside.slab c.self.inside.waiting.queues c.args.self.now c.self.view_is c.self.invariant.0 c.requires.live.0 c.args.key c.requires.live.1 in
    let is : c.index.result.now.serial ≡ c.requires.live.0 = ap (λ t. t.serial) (some_same c.index.result.now u.thread (sym c.index.ensures ∙ u.kept)) ∙ u.serial_is in
    let k = ap (λ v. slot_at v.keys c.requires.live.0) c.self.view_is ∙ c.requires.live.1 in
    let r = rw is at c.resume_joiner.ensures.threads in
    let sound = ready_sound c.self.inside.places.slots c.self.inside.slab c.self.inside.waiting.queues c.self.inside.waiting.spare c.self.invariant.0 c.self.invariant.1 c.requires.live.0 c.args.key k c.resume_joiner.new.slab c.resume_joiner.ensures.placed r in
    let v = ready_under c.self.inside.places.slots c.self.inside.slab c.self.inside.waiting.queues c.self.inside.waiting.spare c.self.invariant.0 c.self.invariant.1 c.requires.live.0 c.args.key k c.resume_joiner.new.slab c.resume_joiner.ensures.placed r in
    let state = c.take-state.ensures.state v.thread v.kept in
    left_event c.self.inside.places.slots c.resume_joiner.new.slab c.self.inside.waiting.queues c.self.inside.waiting.spare c.resume_joiner.ensures.placed sound c.requires.live.0 c.args.key v c.take-state.result state

pub leave-requires-clause-alone : goal.leave-requires-clause-alone
leave-requires-clause-alone g c =
    let u = under_view c.self.inside.places.slots c.self.inside.slab c.self.inside.waiting.queues c.args.self.now c.self.view_is c.self.invariant.0 c.requires.live.0 c.args.key c.requires.live.1 in
    let is : c.index.result.now.serial ≡ c.requires.live.0 = ap (λ t. t.serial) (some_same c.index.result.now u.thread (sym c.index.ensures ∙ u.kept)) ∙ u.serial_is in
    let k = ap (λ v. slot_at v.keys c.requires.live.0) c.self.view_is ∙ c.requires.live.1 in
    let r = rw is at c.resume_joiner.ensures.threads in
    let sound = ready_sound c.self.inside.places.slots c.self.inside.slab c.self.inside.waiting.queues c.self.inside.waiting.spare c.self.invariant.0 c.self.invariant.1 c.requires.live.0 c.args.key k c.resume_joiner.new.slab c.resume_joiner.ensures.placed r in
    let v = ready_under c.self.inside.places.slots c.self.inside.slab c.self.inside.waiting.queues c.self.inside.waiting.spare c.self.invariant.0 c.self.invariant.1 c.requires.live.0 c.args.key k c.resume_joiner.new.slab c.resume_joiner.ensures.placed r in
    let state = c.take-state.ensures.state v.thread v.kept in
    rw is (left_alone c.self.inside.places.slots c.resume_joiner.new.slab c.self.inside.waiting.queues c.self.inside.waiting.spare c.resume_joiner.ensures.placed sound c.requires.live.0 c.args.key v c.take-state.result state)

pub invariant_of-self : goal.invariant_of-self
invariant_of-self g c =
    let u = under_view c.self.inside.places.slots c.self.inside.slab c.self.inside.waiting.queues c.args.self.now c.self.view_is c.self.invariant.0 c.requires.live.0 c.args.key c.requires.live.1 in
    let is : c.index.result.now.serial ≡ c.requires.live.0 = ap (λ t. t.serial) (some_same c.index.result.now u.thread (sym c.index.ensures ∙ u.kept)) ∙ u.serial_is in
    let k = ap (λ v. slot_at v.keys c.requires.live.0) c.self.view_is ∙ c.requires.live.1 in
    let r = rw is at c.resume_joiner.ensures.threads in
    let sound = ready_sound c.self.inside.places.slots c.self.inside.slab c.self.inside.waiting.queues c.self.inside.waiting.spare c.self.invariant.0 c.self.invariant.1 c.requires.live.0 c.args.key k c.resume_joiner.new.slab c.resume_joiner.ensures.placed r in
    let v = ready_under c.self.inside.places.slots c.self.inside.slab c.self.inside.waiting.queues c.self.inside.waiting.spare c.self.invariant.0 c.self.invariant.1 c.requires.live.0 c.args.key k c.resume_joiner.new.slab c.resume_joiner.ensures.placed r in
    let state = c.take-state.ensures.state v.thread v.kept in
    let q = rw is at c.leave.ensures.queues in
    let e = ends c.self.inside.places.slots c.resume_joiner.new.slab c.self.inside.waiting.queues c.self.inside.waiting.spare c.resume_joiner.ensures.placed sound c.requires.live.0 c.args.key v c.take-state.new.slab c.leave.new.waiting.queues c.leave.new.waiting.spare c.take-state.ensures.thread q c.leave.ensures.spare in
    rw (c.remove.ensures, is) (e.placed, e.sound)

pub returns-clause-threads : goal.returns-clause-threads
returns-clause-threads g c serial key =
    let u = under_view c.self.inside.places.slots c.self.inside.slab c.self.inside.waiting.queues c.args.self.now c.self.view_is c.self.invariant.0 serial c.args.key key in
    let is : c.index.result.now.serial ≡ serial = ap (λ t. t.serial) (some_same c.index.result.now u.thread (sym c.index.ensures ∙ u.kept)) ∙ u.serial_is in
    let k = ap (λ v. slot_at v.keys serial) c.self.view_is ∙ key in
    let r = rw is at c.resume_joiner.ensures.threads in
    let sound = ready_sound c.self.inside.places.slots c.self.inside.slab c.self.inside.waiting.queues c.self.inside.waiting.spare c.self.invariant.0 c.self.invariant.1 serial c.args.key k c.resume_joiner.new.slab c.resume_joiner.ensures.placed r in
    let v = ready_under c.self.inside.places.slots c.self.inside.slab c.self.inside.waiting.queues c.self.inside.waiting.spare c.self.invariant.0 c.self.invariant.1 serial c.args.key k c.resume_joiner.new.slab c.resume_joiner.ensures.placed r in
    let state = c.take-state.ensures.state v.thread v.kept in
    let q = rw is at c.leave.ensures.queues in
    let e = ends c.self.inside.places.slots c.resume_joiner.new.slab c.self.inside.waiting.queues c.self.inside.waiting.spare c.resume_joiner.ensures.placed sound serial c.args.key v c.take-state.new.slab c.leave.new.waiting.queues c.leave.new.waiting.spare c.take-state.ensures.thread q c.leave.ensures.spare in
    let after : KeyedTable → KeyedTable = λ w. record { table = without w.table (serial ∷ []); keys = emptied (serial ∷ []) w.keys } in
    rw (c.remove.ensures, is) (ended_view c.self.inside.places.slots c.self.inside.slab c.self.inside.waiting.queues c.self.inside.waiting.spare c.self.invariant.0 c.self.invariant.1 serial c.args.key k c.resume_joiner.new.slab c.resume_joiner.ensures.placed r c.take-state.new.slab c.leave.new.waiting.queues c.leave.new.waiting.spare e q) ∙ ap after c.self.view_is

pub returns-clause-agenda : goal.returns-clause-agenda
returns-clause-agenda g c serial key =
    let u = under_view c.self.inside.places.slots c.self.inside.slab c.self.inside.waiting.queues c.args.self.now c.self.view_is c.self.invariant.0 serial c.args.key key in
    let is : c.index.result.now.serial ≡ serial = ap (λ t. t.serial) (some_same c.index.result.now u.thread (sym c.index.ensures ∙ u.kept)) ∙ u.serial_is in
    let k = ap (λ v. slot_at v.keys serial) c.self.view_is ∙ key in
    let a = rw is at c.resume_joiner.ensures.agenda in
    a ∙ ap (with_runs (g.A.Agenda.schedule c.args.agenda.now) (keys_of c.self.inside.places.slots)) (sym (joiners-one (threads_of c.self.inside.places.slots c.self.inside.slab) c.self.inside.waiting.queues c.self.inside.waiting.spare c.self.invariant.1 serial))
    ∙ ap (λ w. with_runs (g.A.Agenda.schedule c.args.agenda.now) w.keys (joiners_of w.table.threads (serial ∷ []))) c.self.view_is

pub returns-clause-runs : goal.returns-clause-runs
returns-clause-runs g c besides on =
    let serial = c.requires.live.0 in
    let key = c.requires.live.1 in
    moved-runs _ _ _ _ besides (returns-clause-threads g c serial key) (returns-clause-agenda g c serial key) (ended-runs serial besides c.args.self.now (g.A.Agenda.schedule c.args.agenda.now) on).1

pub returns-clause-places : goal.returns-clause-places
returns-clause-places g c =
    ap (λ s. s.spare + length s.dues) (returns-clause-agenda g c c.requires.live.0 c.requires.live.1) ∙ (ended-runs c.requires.live.0 0 c.args.self.now (g.A.Agenda.schedule c.args.agenda.now) c.requires.runs).2
