use Rattle.std.proofs.Common.{is_some, refl, sym, ap, subst, ◌∙◌}
use Rattle.vvp_threads.specs.declared.thread.ThreadState.TheVariants.{Ready, Joining}
use Rattle.vvp_threads.specs.Table.{Table, changed_at, in_state}
use Rattle.vvp_threads.specs.Keyed.{KeyedTable}
use Rattle.vvp_threads.specs.Kept.{is_free}
use Rattle.vvp_threads.proofs.StepLemmas.{contains_under, under_view, state_view, written, freed, live_view, joins-live, joins-ended}
use Rattle.vvp_threads.specs.Runs.{HasRuns}
use Rattle.vvp_threads.proofs.CallRuns.{view-live, joins-runs}
use Rattle.vvp_threads.proofs.threads.Threads.join_on.Goals as goal

pub returns-then-is_none-clause-live : goal.returns-then-is_none-clause-live
returns-then-is_none-clause-live c =
    sym (live_view c.self.inside.places.slots c.self.inside.slab c.self.inside.waiting.queues c.args.self.now c.self.view_is c.self.invariant.0 c.args.child ∙ ap is_some (sym c.find.ensures) ∙ c.if-is_none.ensures)

pub returns-then-is_none-clause-table : goal.returns-then-is_none-clause-table
returns-then-is_none-clause-table c serial k =
    let ended = live_view c.self.inside.places.slots c.self.inside.slab c.self.inside.waiting.queues c.args.self.now c.self.view_is c.self.invariant.0 c.args.child ∙ ap is_some (sym c.find.ensures) ∙ c.if-is_none.ensures in
    let after : Table → KeyedTable = λ t. record { table = t; keys = c.args.self.now.keys } in
    sym (ap after (joins-ended c.args.self.now.table serial c.args.child ended))

pub set_state-requires : goal.set_state-requires
set_state-requires c =
    let k = c.requires.ready in
    let u = under_view c.self.inside.places.slots c.self.inside.slab c.self.inside.waiting.queues c.args.self.now c.self.view_is c.self.invariant.0 k.0 c.args.key k.1 in
    contains_under c.self.inside.places.slots c.self.inside.slab k.0 c.args.key u

pub invariant_of-self : goal.invariant_of-self
invariant_of-self c =
    let k = c.requires.ready in
    let u = under_view c.self.inside.places.slots c.self.inside.slab c.self.inside.waiting.queues c.args.self.now c.self.view_is c.self.invariant.0 k.0 c.args.key k.1 in
    let ready = state_view c.self.inside.places.slots c.self.inside.slab c.self.inside.waiting.queues c.args.self.now c.self.view_is k.0 c.args.key u Ready k.2 in
    let w = written c.self.inside.places.slots c.self.inside.slab c.self.invariant.0 c.set_state.new.slab k.0 c.args.key u (in_state (Joining c.args.child)) (λ t. refl) c.set_state.ensures.thread in
    (w.placed, freed c.self.inside.places.slots c.self.inside.slab c.self.invariant.0 c.set_state.new.slab k.0 c.args.key u c.self.inside.waiting.queues c.self.inside.waiting.spare c.self.invariant.1 (Joining c.args.child) (ap is_free ready) refl c.set_state.ensures.thread)

pub returns-clause-live : goal.returns-clause-live
returns-clause-live c =
    sym (live_view c.self.inside.places.slots c.self.inside.slab c.self.inside.waiting.queues c.args.self.now c.self.view_is c.self.invariant.0 c.args.child ∙ ap is_some (sym c.find.ensures) ∙ c.if-is_none.ensures)

pub returns-clause-table : goal.returns-clause-table
returns-clause-table c serial k =
    let live = live_view c.self.inside.places.slots c.self.inside.slab c.self.inside.waiting.queues c.args.self.now c.self.view_is c.self.invariant.0 c.args.child ∙ ap is_some (sym c.find.ensures) ∙ c.if-is_none.ensures in
    let u = under_view c.self.inside.places.slots c.self.inside.slab c.self.inside.waiting.queues c.args.self.now c.self.view_is c.self.invariant.0 serial c.args.key k in
    let w = written c.self.inside.places.slots c.self.inside.slab c.self.invariant.0 c.set_state.new.slab serial c.args.key u (in_state (Joining c.args.child)) (λ t. refl) c.set_state.ensures.thread in
    let after : KeyedTable → KeyedTable = λ v. record v { table = record v.table { threads = changed_at v.table.threads serial (in_state (Joining c.args.child)) } } in
    let joined : Table → KeyedTable = λ t. record { table = t; keys = c.args.self.now.keys } in
    rw w.seen (ap after c.self.view_is) ∙ sym (ap joined (joins-live c.args.self.now.table serial c.args.child live))

pub returns-then-is_none-clause-runs : goal.returns-then-is_none-clause-runs
returns-then-is_none-clause-runs c serial besides schedule k none on = on

pub returns-clause-runs : goal.returns-clause-runs
returns-clause-runs c serial besides schedule k none on =
    let t = view-live c.self.inside.places.slots c.self.inside.slab c.self.inside.waiting.queues c.self.inside.waiting.spare c.args.self.now c.self.view_is c.self.invariant.0 c.self.invariant.1 serial c.args.key k in
    subst (λ v. HasRuns v besides schedule) (sym (returns-clause-table c serial k)) (joins-runs serial c.args.child besides c.args.self.now schedule t.0 t.1 none on)
