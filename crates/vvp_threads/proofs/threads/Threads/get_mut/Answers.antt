use Rattle.std.proofs.Common.{◌≡◌, ℕ, true, false, refl, sym, ap, subst, ◌∙◌}
use Rattle.vvp_threads.specs.Keyed.{IsKeyOf, IsNoKey, serial_under}
use Rattle.vvp_threads.specs.Table.{slot_at}
use Rattle.vvp_threads.proofs.StepLemmas.{under_view}
use Rattle.vvp_threads.proofs.FrameLemmas.{some_serial, no_serial, serial-under}
use Rattle.vvp_threads.proofs.CallRuns.{framed-runs}
use Rattle.vvp_threads.proofs.threads.Threads.get_mut.Goals as goal

never : false ≡ true → ⊥
never e = cc

pub frame_mut-requires : goal.frame_mut-requires
frame_mut-requires c = subst (λ v. (serial : ℕ) × IsKeyOf v serial c.args.key) c.self.view_is (some_serial c.self.inside.places.slots c.self.inside.slab c.self.inside.waiting.queues c.self.invariant.0 c.args.key (c.if-contains.ensures.0 refl))

pub returns-then-contains : goal.returns-then-contains
returns-then-contains c = (
  refl,
  record {
    writes_back = tt;
    frame = λ serial k. sym (c.frame_mut.ensures.frame serial k);
    serial = λ serial k.
        let u = under_view c.self.inside.places.slots c.self.inside.slab c.self.inside.waiting.queues c.args.self.now c.self.view_is c.self.invariant.0 serial c.args.key k in
        ap (λ v. serial_under v c.args.key) (sym c.self.view_is) ∙ serial-under c.self.inside.places.slots c.self.inside.slab c.self.inside.waiting.queues c.self.invariant.0 serial c.args.key u (ap (λ v. slot_at v.keys serial) c.self.view_is ∙ k);
    runs = framed-runs c.args.key c.args.self.now;
    some = subst (λ v. (serial : ℕ) × IsKeyOf v serial c.args.key) c.self.view_is (some_serial c.self.inside.places.slots c.self.inside.slab c.self.inside.waiting.queues c.self.invariant.0 c.args.key (c.if-contains.ensures.0 refl));
    none = tt;
  },
)

pub returns-else-contains : goal.returns-else-contains
returns-else-contains c =
    let none = subst (λ v. IsNoKey v c.args.key) c.self.view_is (no_serial c.self.inside.places.slots c.self.inside.slab c.self.inside.waiting.queues c.self.invariant.0 c.args.key (λ h. never (c.if-contains.ensures.1 h))) in
    (refl, record { writes_back = tt; frame = λ serial k. absurd (none serial k); serial = λ serial k. absurd (none serial k); runs = framed-runs c.args.key c.args.self.now; some = tt; none = none })
