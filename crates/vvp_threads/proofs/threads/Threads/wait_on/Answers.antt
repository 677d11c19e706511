use Rattle.std.proofs.Common.{◌≡◌, refl, sym, ap, subst, ◌∙◌}
use Rattle.vvp_threads.specs.declared.thread.ThreadState.TheVariants.{Ready, Waiting}
use Rattle.vvp_threads.specs.Table.{in_state, waits_on}
use Rattle.vvp_threads.specs.Keyed.{KeyedTable}
use Rattle.vvp_threads.specs.Runs.{HasRuns}
use Rattle.vvp_threads.specs.Kept.{is_free}
use Rattle.vvp_threads.proofs.StepLemmas.{contains_under, under_view, state_view, written, waited, slot_left}
use Rattle.vvp_threads.proofs.RunLemmas.{waits-runs}
use Rattle.vvp_threads.proofs.CallRuns.{view-live}
use Rattle.vvp_threads.proofs.threads.Threads.wait_on.Goals as goal

pub set_state-serial-requires : goal.set_state-serial-requires
set_state-serial-requires c =
    let k = c.requires.ready in
    let u = under_view c.self.inside.places.slots c.self.inside.slab c.self.inside.waiting.queues c.args.self.now c.self.view_is c.self.invariant.0 k.0 c.args.key k.1 in
    contains_under c.self.inside.places.slots c.self.inside.slab k.0 c.args.key u

pub push_back-requires-clause-room : goal.push_back-requires-clause-room
push_back-requires-clause-room c =
    let k = c.requires.ready in
    let u = under_view c.self.inside.places.slots c.self.inside.slab c.self.inside.waiting.queues c.args.self.now c.self.view_is c.self.invariant.0 k.0 c.args.key k.1 in
    let ready = state_view c.self.inside.places.slots c.self.inside.slab c.self.inside.waiting.queues c.args.self.now c.self.view_is k.0 c.args.key u Ready k.2 in
    slot_left c.self.inside.places.slots c.self.inside.slab c.self.invariant.0 c.self.inside.slab k.0 c.args.key u c.self.inside.waiting.queues c.self.inside.waiting.spare c.self.invariant.1 (ap is_free ready)

pub invariant_of-self : goal.invariant_of-self
invariant_of-self c =
    let k = c.requires.ready in
    let u = under_view c.self.inside.places.slots c.self.inside.slab c.self.inside.waiting.queues c.args.self.now c.self.view_is c.self.invariant.0 k.0 c.args.key k.1 in
    let ready = state_view c.self.inside.places.slots c.self.inside.slab c.self.inside.waiting.queues c.args.self.now c.self.view_is k.0 c.args.key u Ready k.2 in
    let serial : c.set_state-serial.result ≡ k.0 = c.set_state-serial.ensures.serial u.thread u.kept ∙ u.serial_is in
    let w = written c.self.inside.places.slots c.self.inside.slab c.self.invariant.0 c.set_state-serial.new.slab k.0 c.args.key u (in_state (Waiting c.args.event)) (λ t. refl) c.set_state-serial.ensures.thread in
    let inside = rw (sym c.self.view_is) at c.requires.event in
    (w.placed, rw (c.push_back.ensures.queues, serial) (waited c.self.inside.places.slots c.self.inside.slab c.self.invariant.0 c.set_state-serial.new.slab k.0 c.args.key u c.self.inside.waiting.queues c.self.inside.waiting.spare c.self.invariant.1 c.args.event c.push_back.new.self.spare ready inside c.push_back.ensures.spare c.set_state-serial.ensures.thread))

pub returns-clause-table : goal.returns-clause-table
returns-clause-table c serial k =
    let u = under_view c.self.inside.places.slots c.self.inside.slab c.self.inside.waiting.queues c.args.self.now c.self.view_is c.self.invariant.0 serial c.args.key k in
    let same : c.set_state-serial.result ≡ serial = c.set_state-serial.ensures.serial u.thread u.kept ∙ u.serial_is in
    let w = written c.self.inside.places.slots c.self.inside.slab c.self.invariant.0 c.set_state-serial.new.slab serial c.args.key u (in_state (Waiting c.args.event)) (λ t. refl) c.set_state-serial.ensures.thread in
    let after : KeyedTable → KeyedTable = λ v. record v { table = waits_on v.table serial c.args.event } in
    rw (w.seen, c.push_back.ensures.queues, same) (ap after c.self.view_is)

pub returns-clause-runs : goal.returns-clause-runs
returns-clause-runs c serial besides schedule k none on =
    let t = view-live c.self.inside.places.slots c.self.inside.slab c.self.inside.waiting.queues c.self.inside.waiting.spare c.args.self.now c.self.view_is c.self.invariant.0 c.self.invariant.1 serial c.args.key k in
    subst (λ v. HasRuns v besides schedule) (sym (returns-clause-table c serial k)) (waits-runs c.args.event serial besides c.args.self.now schedule t.0 t.1 none on)
