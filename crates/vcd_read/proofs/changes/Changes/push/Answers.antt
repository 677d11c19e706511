use Rattle.std.proofs.Common.{◌≡◌, ◌∙◌, [], ◌∷◌, ◌++◌, length, refl, ap, subst, Some, None, arith}
use Rattle.vcd_read.specs.declared.changes.Kept.{Kept}
use Rattle.vcd_read.specs.Kept.{changes_of, AreEnough}
use Rattle.vcd_read.proofs.KeptLemmas.{bit-pushed, bit-enough, wide-pushed, wide-enough}
use Rattle.vcd_read.proofs.changes.Changes.push.Goals as goal

pub invariant_of-self-then-width-eq1 : goal.invariant_of-self-then-width-eq1
invariant_of-self-then-width-eq1 c =
    let one : Kept = record { time = c.args.change.time; net = c.args.change.net; bit = Some c.bit.result } in
    rw c.in_ok-push.ensures.items (bit-enough c.self.inside.kept.items c.self.inside.wide.items one c.bit.result c.self.invariant refl)

pub returns-then-width-eq1-clause-ok : goal.returns-then-width-eq1-clause-ok
returns-then-width-eq1-clause-ok c =
    let one : Kept = record { time = c.args.change.time; net = c.args.change.net; bit = Some c.bit.result } in
    let long : length c.args.change.value ≡ 1 = omega (arith, c.width.ensures.value) in
    ap (λ kept. changes_of kept c.self.inside.wide.items) c.in_ok-push.ensures.items
    ∙ (bit-pushed c.self.inside.kept.items c.self.inside.wide.items one c.bit.result c.args.change.value c.self.invariant refl long c.bit.ensures
    ∙ ap (λ changes. changes ++ c.args.change ∷ []) c.self.view_is)

pub invariant_of-self-in-Ok : goal.invariant_of-self-in-Ok
invariant_of-self-in-Ok c =
    let one : Kept = record { time = c.args.change.time; net = c.args.change.net; bit = None } in
    rw (c.in-Ok.ensures.items, c.in_ok-push-2.ensures.items) (wide-enough c.self.inside.kept.items c.self.inside.wide.items one c.args.change.value c.self.invariant refl)

pub returns-in-Ok-clause-ok : goal.returns-in-Ok-clause-ok
returns-in-Ok-clause-ok c =
    let one : Kept = record { time = c.args.change.time; net = c.args.change.net; bit = None } in
    ap (λ kept. changes_of kept c.push-2.new.self.items) c.in-Ok.ensures.items
    ∙ (ap (λ wide. changes_of (c.self.inside.kept.items ++ one ∷ []) wide) c.in_ok-push-2.ensures.items
    ∙ (wide-pushed c.self.inside.kept.items c.self.inside.wide.items one c.args.change.value c.self.invariant refl
    ∙ ap (λ changes. changes ++ c.args.change ∷ []) c.self.view_is))
