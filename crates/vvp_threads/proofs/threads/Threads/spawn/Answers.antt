use Rattle.std.proofs.Common.{◌<◌, ◌≤◌, ◌+◌, Some, ◌++◌, ◌∷◌, [], length, sym, ap, subst, ◌∙◌, arith}
use Rattle.vvp_threads.specs.Table.{slot_at, live_count, spawned}
use Rattle.vvp_threads.specs.Keyed.{KeyedTable, IsNamed}
use Rattle.vvp_threads.specs.Kept.{kept_as}
use Rattle.vvp_threads.proofs.PlaceLemmas.{gathered}
use Rattle.vvp_threads.proofs.KeptLemmas.{length-threads}
use Rattle.vvp_threads.proofs.KeyLemmas.{no_key_kept}
use Rattle.vvp_threads.proofs.CountLemmas.{live-count}
use Rattle.vvp_threads.proofs.SpawnLemmas.{on_err, roomy, named_contains, given, started_placed, started_sound, started_view}
use Rattle.vvp_threads.specs.Runs.{HasRuns}
use Rattle.event_pool.specs.Schedule.{put_due}
use Rattle.vvp_threads.specs.Keyed.{run_under}
use Rattle.vvp_threads.proofs.CallRuns.{spawned-runs, as-many-keys}
use Rattle.vvp_threads.proofs.threads.Threads.spawn.Goals as goal

pub invariant_of-self : goal.invariant_of-self
invariant_of-self c =
    let r = roomy c.self.inside.places.slots c.make_room.new.places.slots c.self.inside.slab c.make_room.new.slab c.self.inside.waiting.queues c.make_room.new.waiting.queues c.self.inside.waiting.spare c.make_room.new.waiting.spare c.self.invariant.0 c.self.invariant.1 c.in_err-make_room.ensures.slots c.in_err-make_room.ensures.slab c.in_err-make_room.ensures.queues c.in_err-make_room.ensures.spare in
    (r.placed, r.sound)

pub returns-in_err-make_room-clause-err : goal.returns-in_err-make_room-clause-err
returns-in_err-make_room-clause-err c =
    let r = roomy c.self.inside.places.slots c.make_room.new.places.slots c.self.inside.slab c.make_room.new.slab c.self.inside.waiting.queues c.make_room.new.waiting.queues c.self.inside.waiting.spare c.make_room.new.waiting.spare c.self.invariant.0 c.self.invariant.1 c.in_err-make_room.ensures.slots c.in_err-make_room.ensures.slab c.in_err-make_room.ensures.queues c.in_err-make_room.ensures.spare in
    on_err c.from_residual.result _ (r.view ∙ c.self.view_is)

pub add_child-requires : goal.add_child-requires
add_child-requires c =
    let r = roomy c.self.inside.places.slots c.make_room.new.places.slots c.self.inside.slab c.make_room.new.slab c.self.inside.waiting.queues c.make_room.new.waiting.queues c.self.inside.waiting.spare c.make_room.new.waiting.spare c.self.invariant.0 c.self.invariant.1 c.in_ok-make_room.ensures.slots c.in_ok-make_room.ensures.slab c.in_ok-make_room.ensures.queues c.in_ok-make_room.ensures.spare in
    let n = subst (λ v. IsNamed v c.args.parent c.requires.parent.0) (sym (r.view ∙ c.self.view_is)) c.requires.parent.1 in
    named_contains c.make_room.new.places.slots c.make_room.new.slab c.make_room.new.waiting.queues c.make_room.new.waiting.spare r.placed r.sound c.args.parent c.requires.parent.0 n

pub invariant_of-self-in_err-parent : goal.invariant_of-self-in_err-parent
invariant_of-self-in_err-parent c =
    let r = roomy c.self.inside.places.slots c.make_room.new.places.slots c.self.inside.slab c.make_room.new.slab c.self.inside.waiting.queues c.make_room.new.waiting.queues c.self.inside.waiting.spare c.make_room.new.waiting.spare c.self.invariant.0 c.self.invariant.1 c.in_ok-make_room.ensures.slots c.in_ok-make_room.ensures.slab c.in_ok-make_room.ensures.queues c.in_ok-make_room.ensures.spare in
    rw c.in_err-parent.ensures.err (r.placed, r.sound)

pub returns-in_err-parent-clause-err : goal.returns-in_err-parent-clause-err
returns-in_err-parent-clause-err c =
    let r = roomy c.self.inside.places.slots c.make_room.new.places.slots c.self.inside.slab c.make_room.new.slab c.self.inside.waiting.queues c.make_room.new.waiting.queues c.self.inside.waiting.spare c.make_room.new.waiting.spare c.self.invariant.0 c.self.invariant.1 c.in_ok-make_room.ensures.slots c.in_ok-make_room.ensures.slab c.in_ok-make_room.ensures.queues c.in_ok-make_room.ensures.spare in
    on_err c.from_residual-in_err-parent.result _ (ap (λ s. kept_as c.make_room.new.places.slots s c.make_room.new.waiting.queues) c.in_err-parent.ensures.err ∙ r.view ∙ c.self.view_is)

pub push-requires-clause-drawn : goal.push-requires-clause-drawn
push-requires-clause-drawn c = omega (arith, c.requires.drawn, ap length c.in_ok-make_room.ensures.slots, length-threads c.self.inside.places.slots c.self.inside.slab, ap (λ v. length v.table.threads) c.self.view_is)

pub invariant_of-self-2 : goal.invariant_of-self-2
invariant_of-self-2 c =
    let r = roomy c.self.inside.places.slots c.make_room.new.places.slots c.self.inside.slab c.make_room.new.slab c.self.inside.waiting.queues c.make_room.new.waiting.queues c.self.inside.waiting.spare c.make_room.new.waiting.spare c.self.invariant.0 c.self.invariant.1 c.in_ok-make_room.ensures.slots c.in_ok-make_room.ensures.slab c.in_ok-make_room.ensures.queues c.in_ok-make_room.ensures.spare in
    let n = subst (λ v. IsNamed v c.args.parent c.requires.parent.0) (sym (r.view ∙ c.self.view_is)) c.requires.parent.1 in
    let a = rw c.drawn-serial.ensures at c.in_ok-parent.ensures.ok in
    let g = given c.make_room.new.places.slots c.make_room.new.slab c.make_room.new.waiting.queues c.make_room.new.waiting.spare r.placed r.sound c.add_child.new.slab c.args.parent c.requires.parent.0 c.in_ok-parent.parent (length c.make_room.new.places.slots) n a in
    let w = rw (c.drawn-serial.ensures, c.new.ensures) at c.insert_reserved-key.ensures.updates in
    let few = live-count c.self.inside.places.slots c.self.inside.slab c.self.invariant.0 in
    let fewer : length (gathered c.make_room.new.places.slots) < 65536 = rw c.in_ok-make_room.ensures.slots (omega (arith, few, c.requires.few, ap (λ v. live_count v.table) c.self.view_is)) in
    let room : length (gathered c.make_room.new.places.slots) + 1 ≤ c.make_room.new.waiting.spare = rw c.in_ok-make_room.ensures.slots c.in_ok-make_room.ensures.waiters in
    rw c.push.ensures (started_placed c.make_room.new.places.slots c.make_room.new.slab c.make_room.new.waiting.queues c.make_room.new.waiting.spare r.placed r.sound c.add_child.new.slab c.insert_reserved-key.new.self c.requires.parent.0 c.in_ok-parent.parent g c.insert_reserved-key.result c.args.scope c.args.pc c.insert_reserved-key.ensures.was_vacant w fewer room, started_sound c.make_room.new.places.slots c.make_room.new.slab c.make_room.new.waiting.queues c.make_room.new.waiting.spare r.placed r.sound c.add_child.new.slab c.insert_reserved-key.new.self c.requires.parent.0 c.in_ok-parent.parent g c.insert_reserved-key.result c.args.scope c.args.pc c.insert_reserved-key.ensures.was_vacant w fewer room)

pub returns-clause-fresh : goal.returns-clause-fresh
returns-clause-fresh c serial k =
    let r = roomy c.self.inside.places.slots c.make_room.new.places.slots c.self.inside.slab c.make_room.new.slab c.self.inside.waiting.queues c.make_room.new.waiting.queues c.self.inside.waiting.spare c.make_room.new.waiting.spare c.self.invariant.0 c.self.invariant.1 c.in_ok-make_room.ensures.slots c.in_ok-make_room.ensures.slab c.in_ok-make_room.ensures.queues c.in_ok-make_room.ensures.spare in
    let n = subst (λ v. IsNamed v c.args.parent c.requires.parent.0) (sym (r.view ∙ c.self.view_is)) c.requires.parent.1 in
    let a = rw c.drawn-serial.ensures at c.in_ok-parent.ensures.ok in
    let g = given c.make_room.new.places.slots c.make_room.new.slab c.make_room.new.waiting.queues c.make_room.new.waiting.spare r.placed r.sound c.add_child.new.slab c.args.parent c.requires.parent.0 c.in_ok-parent.parent (length c.make_room.new.places.slots) n a in
    let w = rw (c.drawn-serial.ensures, c.new.ensures) at c.insert_reserved-key.ensures.updates in
    let few = live-count c.self.inside.places.slots c.self.inside.slab c.self.invariant.0 in
    let fewer : length (gathered c.make_room.new.places.slots) < 65536 = rw c.in_ok-make_room.ensures.slots (omega (arith, few, c.requires.few, ap (λ v. live_count v.table) c.self.view_is)) in
    let room : length (gathered c.make_room.new.places.slots) + 1 ≤ c.make_room.new.waiting.spare = rw c.in_ok-make_room.ensures.slots c.in_ok-make_room.ensures.waiters in
    no_key_kept c.make_room.new.places.slots c.add_child.new.slab c.make_room.new.waiting.queues g.placed c.insert_reserved-key.result c.insert_reserved-key.ensures.was_vacant serial (ap (λ v. slot_at v.keys serial) (r.view ∙ c.self.view_is) ∙ k)

pub returns-clause-ok : goal.returns-clause-ok
returns-clause-ok c serial named =
    let r = roomy c.self.inside.places.slots c.make_room.new.places.slots c.self.inside.slab c.make_room.new.slab c.self.inside.waiting.queues c.make_room.new.waiting.queues c.self.inside.waiting.spare c.make_room.new.waiting.spare c.self.invariant.0 c.self.invariant.1 c.in_ok-make_room.ensures.slots c.in_ok-make_room.ensures.slab c.in_ok-make_room.ensures.queues c.in_ok-make_room.ensures.spare in
    let n = subst (λ v. IsNamed v c.args.parent serial) (sym (r.view ∙ c.self.view_is)) named in
    let a = rw c.drawn-serial.ensures at c.in_ok-parent.ensures.ok in
    let g = given c.make_room.new.places.slots c.make_room.new.slab c.make_room.new.waiting.queues c.make_room.new.waiting.spare r.placed r.sound c.add_child.new.slab c.args.parent serial c.in_ok-parent.parent (length c.make_room.new.places.slots) n a in
    let w = rw (c.drawn-serial.ensures, c.new.ensures) at c.insert_reserved-key.ensures.updates in
    let few = live-count c.self.inside.places.slots c.self.inside.slab c.self.invariant.0 in
    let fewer : length (gathered c.make_room.new.places.slots) < 65536 = rw c.in_ok-make_room.ensures.slots (omega (arith, few, c.requires.few, ap (λ v. live_count v.table) c.self.view_is)) in
    let room : length (gathered c.make_room.new.places.slots) + 1 ≤ c.make_room.new.waiting.spare = rw c.in_ok-make_room.ensures.slots c.in_ok-make_room.ensures.waiters in
    let after : KeyedTable → KeyedTable = λ v. record { table = spawned v.table serial c.args.scope c.args.pc; keys = v.keys ++ Some c.insert_reserved-key.result ∷ [] } in
    rw c.push.ensures (started_view c.make_room.new.places.slots c.make_room.new.slab c.make_room.new.waiting.queues c.make_room.new.waiting.spare r.placed r.sound c.add_child.new.slab c.insert_reserved-key.new.self serial c.in_ok-parent.parent g c.insert_reserved-key.result c.args.scope c.args.pc c.insert_reserved-key.ensures.was_vacant w fewer room) ∙ ap after (r.view ∙ c.self.view_is)

pub returns-clause-runs : goal.returns-clause-runs
returns-clause-runs c besides schedule on =
    let as_many = as-many-keys c.self.inside.places.slots c.self.inside.slab c.self.inside.waiting.queues c.self.inside.waiting.spare c.args.self.now c.self.view_is c.self.invariant.0 c.self.invariant.1 in
    subst (λ v. HasRuns v besides (put_due schedule (run_under schedule.now (length c.args.self.now.table.threads) c.insert_reserved-key.result))) (sym (returns-clause-ok c c.requires.parent.0 c.requires.parent.1))
    (spawned-runs c.requires.parent.0 besides c.args.scope c.args.pc c.insert_reserved-key.result c.args.self.now schedule as_many on)
