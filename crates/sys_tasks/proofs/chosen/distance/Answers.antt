use Rattle.std.proofs.Common.{◌≡◌, ℕ, eqb, [], get_or, sym, ap, ◌∙◌, arith}
use Rattle.std.specs.Prelude.{Some, slice_get}
use Rattle.std.specs.List.{position_from}
use Rattle.std.proofs.lemmas.Option.{slice_get-get_or}
use Rattle.sys_tasks.proofs.LineageLemmas.{found-from, found-here, found-later, lineage, lineage-head, lineage-on, lineage-past, lineage-root}
use Rattle.sys_tasks.proofs.chosen.distance.Goals as goal

pub returns-then-at-above : goal.returns-then-at-above
returns-then-at-above c =
    let rows = c.args.scopes.now in
    let at = c.loop-at.at in
    let t = λ (s : ℕ). eqb s c.args.above in
    let head = lineage-head rows at c.loop-at-test.true in
    sym (found-from t (lineage rows c.args.scope) ∙ sym c.loop-at.invariant.left ∙ ap (position_from t c.loop-at.levels) head.1 ∙ found-here c.args.above c.loop-at.levels at head.0 c.if-at-above.true)

pub returns-then-parent-at : goal.returns-then-parent-at
returns-then-parent-at c =
    let rows = c.args.scopes.now in
    let at = c.loop-at.at in
    let t = λ (s : ℕ). eqb s c.args.above in
    let row = get_or rows at c.index-scopes-at.result in
    let there : slice_get rows at ≡ Some row = slice_get-get_or rows at c.index-scopes-at.result c.loop-at-test.true in
    sym (found-from t (lineage rows c.args.scope) ∙ sym c.loop-at.invariant.left ∙ ap (position_from t c.loop-at.levels) (lineage-root rows at row there c.if-parent-at.true) ∙ found-later c.args.above c.loop-at.levels at [] c.if-at-above.false)

pub loop-at-preserved : goal.loop-at-preserved
loop-at-preserved c =
    let rows = c.args.scopes.now in
    let at = c.loop-at.at in
    let t = λ (s : ℕ). eqb s c.args.above in
    let row = get_or rows at c.index-scopes-at.result in
    let there : slice_get rows at ≡ Some row = slice_get-get_or rows at c.index-scopes-at.result c.loop-at-test.true in
    let few = c.loop-at.invariant.few in
    record {
      few = omega arith;
      left = sym (ap (position_from t c.loop-at.levels) (lineage-on rows at row there c.if-parent-at.false) ∙ found-later c.args.above c.loop-at.levels at (lineage rows row.parent) c.if-at-above.false) ∙ c.loop-at.invariant.left;
    }

pub returns : goal.returns
returns c =
    let rows = c.args.scopes.now in
    let t = λ (s : ℕ). eqb s c.args.above in
    sym (found-from t (lineage rows c.args.scope) ∙ sym c.loop-at.invariant.left ∙ ap (position_from t c.loop-at.levels) (lineage-past rows c.loop-at.at c.loop-at-test.false))
