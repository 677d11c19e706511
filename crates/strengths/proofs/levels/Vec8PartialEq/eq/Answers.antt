use Rattle.std.proofs.Common.{◌≡◌, ◌∙◌, Bool, sym}
use Rattle.std.specs.Bool.{Decides}
use Rattle.std.proofs.lemmas.Bool.{eqb-true}
use Rattle.strengths.proofs.Equal.{ends_Decides, lists_test, decided, not_decided, not_both}
use Rattle.strengths.proofs.levels.Vec8PartialEq.eq.Goals as goal
use Rattle.strengths.proofs.levels.Vec8PartialEq.eq.Goals.{then-self-other, else-self-other}

-- a test of ends, as the code has it
subst_test : (r s : Bool) (P : Type 0) → r ≡ s → Decides s P → Decides r P
subst_test r s P e d = rw e d

then_decides : (c : goal.After-eq-then-eq) → Decides c.eq-then-eq.result (c.args.self.now ≡ c.args.other.now)
then_decides c =
    elim c.if-self-other.branch [
      | then-self-other w ↦
          decided _ _ _ _ _ _ _ _ _ c.self.view_is c.other.view_is c.self.invariant c.other.invariant w.if-self-other.true
          ((ends_Decides _ _).0 (sym w.eq.ensures ∙ sym w.value-is ∙ c.if-eq.true))
          (subst_test _ _ _ c.eq-then-eq.ensures (ends_Decides _ _))
      | else-self-other w ↦ absurd (w.if-self-other.false (eqb-true _ _ (sym w.value-is ∙ c.if-eq.true)))
    ]

else_decides : (c : goal.Else-eq) → Decides c.if-self-other.value (c.args.self.now ≡ c.args.other.now)
else_decides c =
    elim c.if-self-other.branch [
      | then-self-other w ↦
          not_decided _ _ _ _ _ _ _ _ _ c.self.view_is c.other.view_is c.self.invariant c.other.invariant c.if-eq.false
          (λ width lo. not_both _ (w.value-is ∙ w.eq.ensures ∙ (ends_Decides _ _).1 lo) c.if-eq.false)
      | else-self-other w ↦
          not_decided _ _ _ _ _ _ _ _ _ c.self.view_is c.other.view_is c.self.invariant c.other.invariant c.if-eq.false
          (λ width lo. w.if-self-other.false width)
    ]

pub returns-then-eq-clause-test : goal.returns-then-eq-clause-test
returns-then-eq-clause-test c = lists_test _ _ _ (then_decides c)

pub returns-then-eq-clause-exact : goal.returns-then-eq-clause-exact
returns-then-eq-clause-exact c = then_decides c

pub returns-else-eq-clause-test : goal.returns-else-eq-clause-test
returns-else-eq-clause-test c = lists_test _ _ _ (else_decides c)

pub returns-else-eq-clause-exact : goal.returns-else-eq-clause-exact
returns-else-eq-clause-exact c = else_decides c
