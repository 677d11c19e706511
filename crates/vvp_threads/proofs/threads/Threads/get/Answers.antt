use Rattle.std.proofs.Common.{◌≡◌, ℕ, true, IfSome, IfNone, length, sym, ap, subst, ◌∙◌}
use Rattle.vvp_threads.specs.declared.thread.ThreadState.TheVariants.{Waiting}
use Rattle.vvp_threads.specs.Table.{slot_at, has, waiters_of, IsInState}
use Rattle.vvp_threads.specs.Keyed.{IsKeyOf, IsNoKey}
use Rattle.vvp_threads.proofs.KeyLemmas.{thread_kept, if_key, if_serial, if_no_key}
use Rattle.vvp_threads.proofs.KeptLemmas.{length-keys, length-threads}
use Rattle.vvp_threads.proofs.CallRuns.{view-keyed}
use Rattle.vvp_threads.proofs.threads.Threads.get.Goals as goal

pub returns-clause-thread : goal.returns-clause-thread
returns-clause-thread c serial k =
    c.get.ensures ∙ thread_kept c.self.inside.places.slots c.self.inside.slab c.self.inside.waiting.queues c.self.invariant.0 c.args.key serial (ap (λ v. slot_at v.keys serial) c.self.view_is ∙ k)
    ∙ ap (λ v. slot_at v.table.threads serial) c.self.view_is

pub returns-clause-key : goal.returns-clause-key
returns-clause-key c = subst (λ v. IfSome c.get.result (λ t. IsKeyOf v t.now.serial c.args.key)) c.self.view_is (if_key c.self.inside.places.slots c.self.inside.slab c.self.inside.waiting.queues c.self.invariant.0 c.args.key c.get.result c.get.ensures)

pub returns-clause-none : goal.returns-clause-none
returns-clause-none c = subst (λ v. IfNone c.get.result (IsNoKey v c.args.key)) c.self.view_is (if_no_key c.self.inside.places.slots c.self.inside.slab c.self.inside.waiting.queues c.self.invariant.0 c.args.key c.get.result c.get.ensures)

pub returns-clause-serial : goal.returns-clause-serial
returns-clause-serial c =
    subst (λ v. IfSome c.get.result (λ t. (serial : ℕ) → IsKeyOf v serial c.args.key → t.now.serial ≡ serial)) c.self.view_is
    (if_serial c.self.inside.places.slots c.self.inside.slab c.self.inside.waiting.queues c.self.invariant.0 c.args.key c.get.result c.get.ensures)

pub returns-clause-keyed : goal.returns-clause-keyed
returns-clause-keyed c serial =
    view-keyed c.self.inside.places.slots c.self.inside.slab c.self.inside.waiting.queues c.self.inside.waiting.spare c.args.self.now c.self.view_is c.self.invariant.0 c.self.invariant.1 serial

pub returns-clause-waiting : goal.returns-clause-waiting
returns-clause-waiting c =
    subst (λ v. (event serial : ℕ) → has (waiters_of v.table event) serial ≡ true → IsInState v.table serial (Waiting event)) c.self.view_is
    c.self.invariant.1.states.waiting

pub returns-clause-keys : goal.returns-clause-keys
returns-clause-keys c =
    subst (λ v. length v.keys ≡ length v.table.threads) c.self.view_is
    (length-keys c.self.inside.places.slots ∙ sym (length-threads c.self.inside.places.slots c.self.inside.slab))
