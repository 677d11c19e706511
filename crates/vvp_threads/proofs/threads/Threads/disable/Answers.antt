use Rattle.std.proofs.Common.{◌≡◌, ◌+◌, ℕ, Bool, List, Option, Some, length, sym, ap, subst, ◌∙◌}
use Rattle.event_pool.specs.Schedule.{Schedule}
use Rattle.vvp_threads.specs.declared.thread.Thread.{Thread}
use Rattle.vvp_threads.specs.Table.{running_first, emptied, joiners_of, without}
use Rattle.vvp_threads.specs.Disable.{disabled_marks, disabled_serials, disabled}
use Rattle.vvp_threads.specs.Keyed.{KeyedTable, with_runs}
use Rattle.vvp_threads.specs.Kept.{threads_of, keys_of, IsSound}
use Rattle.vvp_threads.specs.Wake.{marked_serials}
use Rattle.vvp_threads.proofs.StepLemmas.{contains_under, under_view}
use Rattle.vvp_threads.proofs.DisableLemmas.{Marked, marked, joiners-unmarked, joined_sound, left_placed, left_sound, left_view}
use Rattle.vvp_threads.proofs.RunLemmas.{without-runs}
use Rattle.vvp_threads.proofs.CallRuns.{moved-runs, joiners-rest, view-numbered, view-below}
use Rattle.vvp_threads.proofs.DisabledSet.{within-reached, reached-within, least-ends, ends-least}
use Rattle.vvp_threads.proofs.threads.Threads.disable.Goals as goal

some_same : {X : Type 0} (x y : X) → Some x ≡ Some y → x ≡ y
some_same x y e = cc

pub index-requires : goal.index-requires
index-requires g c =
    let u = under_view c.self.inside.places.slots c.self.inside.slab c.self.inside.waiting.queues c.args.self.now c.self.view_is c.self.invariant.0 c.requires.running.0 c.args.running c.requires.running.1 in
    contains_under c.self.inside.places.slots c.self.inside.slab c.requires.running.0 c.args.running u

pub resume_joiners-requires-clause-placed : goal.resume_joiners-requires-clause-placed
resume_joiners-requires-clause-placed g c =
    let u = under_view c.self.inside.places.slots c.self.inside.slab c.self.inside.waiting.queues c.args.self.now c.self.view_is c.self.invariant.0 c.requires.running.0 c.args.running c.requires.running.1 in
    let is : c.index.result.now.serial ≡ c.requires.running.0 = ap (λ t. t.serial) (some_same c.index.result.now u.thread (sym c.index.ensures ∙ u.kept)) ∙ u.serial_is in
    let marks : List Bool = disabled_marks (threads_of c.self.inside.places.slots c.self.inside.slab) c.args.scope_parents.now c.args.scope in
    let m = subst (Marked c.self.inside.places.slots c.self.inside.slab c.self.invariant.0 marks) (sym c.mark_disabled.ensures.slots) (marked c.self.inside.places.slots c.self.inside.slab c.self.invariant.0 marks) in
    let chosen : running_first c.requires.running.0 (marked_serials c.mark_disabled.new.self.slots) ≡ disabled_serials (record { threads = threads_of c.self.inside.places.slots c.self.inside.slab; waiting = c.self.inside.waiting.queues }) c.requires.running.0 c.args.scope_parents.now c.args.scope = ap (running_first c.requires.running.0) m.serials in
    let P : List (Option Thread) → Type 0 = λ ts. IsSound ts c.self.inside.waiting.queues c.self.inside.waiting.spare in
    let s = subst P (sym m.threads) c.self.invariant.1 in
    m.placed

pub resume_joiners-requires-clause-room : goal.resume_joiners-requires-clause-room
resume_joiners-requires-clause-room g c =
    let u = under_view c.self.inside.places.slots c.self.inside.slab c.self.inside.waiting.queues c.args.self.now c.self.view_is c.self.invariant.0 c.requires.running.0 c.args.running c.requires.running.1 in
    let is : c.index.result.now.serial ≡ c.requires.running.0 = ap (λ t. t.serial) (some_same c.index.result.now u.thread (sym c.index.ensures ∙ u.kept)) ∙ u.serial_is in
    let marks : List Bool = disabled_marks (threads_of c.self.inside.places.slots c.self.inside.slab) c.args.scope_parents.now c.args.scope in
    let m = subst (Marked c.self.inside.places.slots c.self.inside.slab c.self.invariant.0 marks) (sym c.mark_disabled.ensures.slots) (marked c.self.inside.places.slots c.self.inside.slab c.self.invariant.0 marks) in
    let chosen : running_first c.requires.running.0 (marked_serials c.mark_disabled.new.self.slots) ≡ disabled_serials (record { threads = threads_of c.self.inside.places.slots c.self.inside.slab; waiting = c.self.inside.waiting.queues }) c.requires.running.0 c.args.scope_parents.now c.args.scope = ap (running_first c.requires.running.0) m.serials in
    let P : List (Option Thread) → Type 0 = λ ts. IsSound ts c.self.inside.waiting.queues c.self.inside.waiting.spare in
    let s = subst P (sym m.threads) c.self.invariant.1 in
    let room = rw (sym c.self.view_is) at (without-runs (disabled_serials c.args.self.now.table c.requires.running.0 c.args.scope_parents.now c.args.scope) 0 c.args.self.now (g.A.Agenda.schedule c.args.agenda.now) (joiners-rest c.self.inside.places.slots c.self.inside.slab c.self.inside.waiting.queues c.self.inside.waiting.spare c.args.self.now c.self.view_is c.self.invariant.0 c.self.invariant.1 c.requires.running.0 c.args.scope_parents.now c.args.scope) c.requires.runs).0 in
    rw (is, sym (joiners-unmarked c.mark_disabled.new.self.slots c.self.inside.slab m.placed c.requires.running.0), m.threads, chosen) room

pub end_marked-requires-clause-sound : goal.end_marked-requires-clause-sound
end_marked-requires-clause-sound g c =
    let u = under_view c.self.inside.places.slots c.self.inside.slab c.self.inside.waiting.queues c.args.self.now c.self.view_is c.self.invariant.0 c.requires.running.0 c.args.running c.requires.running.1 in
    let is : c.index.result.now.serial ≡ c.requires.running.0 = ap (λ t. t.serial) (some_same c.index.result.now u.thread (sym c.index.ensures ∙ u.kept)) ∙ u.serial_is in
    let marks : List Bool = disabled_marks (threads_of c.self.inside.places.slots c.self.inside.slab) c.args.scope_parents.now c.args.scope in
    let m = subst (Marked c.self.inside.places.slots c.self.inside.slab c.self.invariant.0 marks) (sym c.mark_disabled.ensures.slots) (marked c.self.inside.places.slots c.self.inside.slab c.self.invariant.0 marks) in
    let chosen : running_first c.requires.running.0 (marked_serials c.mark_disabled.new.self.slots) ≡ disabled_serials (record { threads = threads_of c.self.inside.places.slots c.self.inside.slab; waiting = c.self.inside.waiting.queues }) c.requires.running.0 c.args.scope_parents.now c.args.scope = ap (running_first c.requires.running.0) m.serials in
    let P : List (Option Thread) → Type 0 = λ ts. IsSound ts c.self.inside.waiting.queues c.self.inside.waiting.spare in
    let s = subst P (sym m.threads) c.self.invariant.1 in
    let r = rw is at c.resume_joiners.ensures.threads in
    joined_sound c.mark_disabled.new.self.slots c.self.inside.slab m.placed c.requires.running.0 c.self.inside.waiting.queues c.self.inside.waiting.spare s c.resume_joiners.new.slab r

pub invariant_of-self : goal.invariant_of-self
invariant_of-self g c =
    let u = under_view c.self.inside.places.slots c.self.inside.slab c.self.inside.waiting.queues c.args.self.now c.self.view_is c.self.invariant.0 c.requires.running.0 c.args.running c.requires.running.1 in
    let is : c.index.result.now.serial ≡ c.requires.running.0 = ap (λ t. t.serial) (some_same c.index.result.now u.thread (sym c.index.ensures ∙ u.kept)) ∙ u.serial_is in
    let marks : List Bool = disabled_marks (threads_of c.self.inside.places.slots c.self.inside.slab) c.args.scope_parents.now c.args.scope in
    let m = subst (Marked c.self.inside.places.slots c.self.inside.slab c.self.invariant.0 marks) (sym c.mark_disabled.ensures.slots) (marked c.self.inside.places.slots c.self.inside.slab c.self.invariant.0 marks) in
    let chosen : running_first c.requires.running.0 (marked_serials c.mark_disabled.new.self.slots) ≡ disabled_serials (record { threads = threads_of c.self.inside.places.slots c.self.inside.slab; waiting = c.self.inside.waiting.queues }) c.requires.running.0 c.args.scope_parents.now c.args.scope = ap (running_first c.requires.running.0) m.serials in
    let P : List (Option Thread) → Type 0 = λ ts. IsSound ts c.self.inside.waiting.queues c.self.inside.waiting.spare in
    let s = subst P (sym m.threads) c.self.invariant.1 in
    let r = rw is at c.resume_joiners.ensures.threads in
    rw c.remove_marked.ensures (left_placed c.mark_disabled.new.self.slots c.self.inside.slab m.placed c.requires.running.0 c.self.inside.waiting.queues c.self.inside.waiting.spare s c.resume_joiners.new.slab r c.end_marked.new.slab c.end_marked.new.waiting.queues c.end_marked.new.waiting.spare c.end_marked.ensures, left_sound c.mark_disabled.new.self.slots c.self.inside.slab m.placed c.requires.running.0 c.self.inside.waiting.queues c.self.inside.waiting.spare s c.resume_joiners.new.slab r c.end_marked.new.slab c.end_marked.new.waiting.queues c.end_marked.new.waiting.spare c.end_marked.ensures)

pub returns-clause-threads : goal.returns-clause-threads
returns-clause-threads g c serial key =
    let u = under_view c.self.inside.places.slots c.self.inside.slab c.self.inside.waiting.queues c.args.self.now c.self.view_is c.self.invariant.0 serial c.args.running key in
    let is : c.index.result.now.serial ≡ serial = ap (λ t. t.serial) (some_same c.index.result.now u.thread (sym c.index.ensures ∙ u.kept)) ∙ u.serial_is in
    let marks : List Bool = disabled_marks (threads_of c.self.inside.places.slots c.self.inside.slab) c.args.scope_parents.now c.args.scope in
    let m = subst (Marked c.self.inside.places.slots c.self.inside.slab c.self.invariant.0 marks) (sym c.mark_disabled.ensures.slots) (marked c.self.inside.places.slots c.self.inside.slab c.self.invariant.0 marks) in
    let chosen : running_first serial (marked_serials c.mark_disabled.new.self.slots) ≡ disabled_serials (record { threads = threads_of c.self.inside.places.slots c.self.inside.slab; waiting = c.self.inside.waiting.queues }) serial c.args.scope_parents.now c.args.scope = ap (running_first serial) m.serials in
    let P : List (Option Thread) → Type 0 = λ ts. IsSound ts c.self.inside.waiting.queues c.self.inside.waiting.spare in
    let s = subst P (sym m.threads) c.self.invariant.1 in
    let r = rw is at c.resume_joiners.ensures.threads in
    let shape : List (Option Thread) → List (Option ℕ) → List ℕ → KeyedTable = λ ts ks members. record { table = without (record { threads = ts; waiting = c.self.inside.waiting.queues }) members; keys = emptied members ks } in
    let after : KeyedTable → KeyedTable = λ v. record { table = disabled v.table serial c.args.scope_parents.now c.args.scope; keys = emptied (disabled_serials v.table serial c.args.scope_parents.now c.args.scope) v.keys } in
    rw c.remove_marked.ensures (left_view c.mark_disabled.new.self.slots c.self.inside.slab m.placed serial c.self.inside.waiting.queues c.self.inside.waiting.spare s c.resume_joiners.new.slab r c.end_marked.new.slab c.end_marked.new.waiting.queues c.end_marked.new.waiting.spare c.end_marked.ensures)
    ∙ ap (λ ts. shape ts (keys_of c.mark_disabled.new.self.slots) (running_first serial (marked_serials c.mark_disabled.new.self.slots))) m.threads
    ∙ ap (λ ks. shape (threads_of c.self.inside.places.slots c.self.inside.slab) ks (running_first serial (marked_serials c.mark_disabled.new.self.slots))) m.keys
    ∙ ap (shape (threads_of c.self.inside.places.slots c.self.inside.slab) (keys_of c.self.inside.places.slots)) chosen
    ∙ ap after c.self.view_is

pub returns-clause-agenda : goal.returns-clause-agenda
returns-clause-agenda g c serial key =
    let u = under_view c.self.inside.places.slots c.self.inside.slab c.self.inside.waiting.queues c.args.self.now c.self.view_is c.self.invariant.0 serial c.args.running key in
    let is : c.index.result.now.serial ≡ serial = ap (λ t. t.serial) (some_same c.index.result.now u.thread (sym c.index.ensures ∙ u.kept)) ∙ u.serial_is in
    let marks : List Bool = disabled_marks (threads_of c.self.inside.places.slots c.self.inside.slab) c.args.scope_parents.now c.args.scope in
    let m = subst (Marked c.self.inside.places.slots c.self.inside.slab c.self.invariant.0 marks) (sym c.mark_disabled.ensures.slots) (marked c.self.inside.places.slots c.self.inside.slab c.self.invariant.0 marks) in
    let chosen : running_first serial (marked_serials c.mark_disabled.new.self.slots) ≡ disabled_serials (record { threads = threads_of c.self.inside.places.slots c.self.inside.slab; waiting = c.self.inside.waiting.queues }) serial c.args.scope_parents.now c.args.scope = ap (running_first serial) m.serials in
    let P : List (Option Thread) → Type 0 = λ ts. IsSound ts c.self.inside.waiting.queues c.self.inside.waiting.spare in
    let s = subst P (sym m.threads) c.self.invariant.1 in
    let a = rw is at c.resume_joiners.ensures.agenda in
    let runs : List (Option Thread) → List (Option ℕ) → List ℕ → Schedule = λ ts ks members. with_runs (g.A.Agenda.schedule c.args.agenda.now) ks (joiners_of ts members) in
    a ∙ ap (with_runs (g.A.Agenda.schedule c.args.agenda.now) (keys_of c.mark_disabled.new.self.slots)) (sym (joiners-unmarked c.mark_disabled.new.self.slots c.self.inside.slab m.placed serial))
    ∙ ap (λ ts. runs ts (keys_of c.mark_disabled.new.self.slots) (running_first serial (marked_serials c.mark_disabled.new.self.slots))) m.threads
    ∙ ap (λ ks. runs (threads_of c.self.inside.places.slots c.self.inside.slab) ks (running_first serial (marked_serials c.mark_disabled.new.self.slots))) m.keys
    ∙ ap (runs (threads_of c.self.inside.places.slots c.self.inside.slab) (keys_of c.self.inside.places.slots)) chosen
    ∙ ap (λ v. with_runs (g.A.Agenda.schedule c.args.agenda.now) v.keys (joiners_of v.table.threads (disabled_serials v.table serial c.args.scope_parents.now c.args.scope))) c.self.view_is

pub returns-clause-runs : goal.returns-clause-runs
returns-clause-runs g c besides on =
    let serial = c.requires.running.0 in
    let key = c.requires.running.1 in
    moved-runs _ _ _ _ besides (returns-clause-threads g c serial key) (returns-clause-agenda g c serial key) (without-runs (disabled_serials c.args.self.now.table c.requires.running.0 c.args.scope_parents.now c.args.scope) besides c.args.self.now (g.A.Agenda.schedule c.args.agenda.now) (joiners-rest c.self.inside.places.slots c.self.inside.slab c.self.inside.waiting.queues c.self.inside.waiting.spare c.args.self.now c.self.view_is c.self.invariant.0 c.self.invariant.1 c.requires.running.0 c.args.scope_parents.now c.args.scope) on).1

pub returns-clause-places : goal.returns-clause-places
returns-clause-places g c =
    ap (λ s. s.spare + length s.dues) (returns-clause-agenda g c c.requires.running.0 c.requires.running.1) ∙ (without-runs (disabled_serials c.args.self.now.table c.requires.running.0 c.args.scope_parents.now c.args.scope) 0 c.args.self.now (g.A.Agenda.schedule c.args.agenda.now) (joiners-rest c.self.inside.places.slots c.self.inside.slab c.self.inside.waiting.queues c.self.inside.waiting.spare c.args.self.now c.self.view_is c.self.invariant.0 c.self.invariant.1 c.requires.running.0 c.args.scope_parents.now c.args.scope) c.requires.runs).2

pub returns-clause-scopes : goal.returns-clause-scopes
returns-clause-scopes g c inner =
    (within-reached c.args.scope_parents.now c.requires.tree c.args.scope inner, reached-within c.args.scope_parents.now c.requires.tree c.args.scope inner)

pub returns-clause-least : goal.returns-clause-least
returns-clause-least g c serial member =
    let at = view-numbered c.self.inside.places.slots c.self.inside.slab c.self.inside.waiting.queues c.self.inside.waiting.spare c.args.self.now c.self.view_is c.self.invariant.0 c.self.invariant.1 in
    let down = view-below c.self.inside.places.slots c.self.inside.slab c.self.inside.waiting.queues c.self.inside.waiting.spare c.args.self.now c.self.view_is c.self.invariant.0 c.self.invariant.1 in
    (least-ends c.args.self.now.table serial c.args.scope_parents.now c.args.scope at down member, ends-least c.args.self.now.table serial c.args.scope_parents.now c.args.scope at down member)
