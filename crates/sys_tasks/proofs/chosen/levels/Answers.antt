use Rattle.std.proofs.Common.{◌≡◌, ◌∷◌, length, get_or, ap, arith}
use Rattle.std.specs.Prelude.{Some, slice_get}
use Rattle.std.proofs.lemmas.Option.{slice_get-get_or}
use Rattle.sys_tasks.proofs.LineageLemmas.{lineage, lineage-on, lineage-past, lineage-root}
use Rattle.sys_tasks.proofs.chosen.levels.Goals as goal

pub returns-then-parent-at : goal.returns-then-parent-at
returns-then-parent-at c =
    let rows = c.args.scopes.now in
    let at = c.loop-at.at in
    let row = get_or rows at c.index-scopes-at.result in
    let there : slice_get rows at ≡ Some row = slice_get-get_or rows at c.index-scopes-at.result c.loop-at-test.true in
    let one : length (lineage rows at) ≡ 1 = ap length (lineage-root rows at row there c.if-parent-at.true) in
    let left = c.loop-at.invariant.left in
    omega arith

pub loop-at-preserved : goal.loop-at-preserved
loop-at-preserved c =
    let rows = c.args.scopes.now in
    let at = c.loop-at.at in
    let row = get_or rows at c.index-scopes-at.result in
    let there : slice_get rows at ≡ Some row = slice_get-get_or rows at c.index-scopes-at.result c.loop-at-test.true in
    let on : length (lineage rows at) ≡ length (at ∷ lineage rows row.parent) = ap length (lineage-on rows at row there c.if-parent-at.false) in
    let left = c.loop-at.invariant.left in
    let few = c.loop-at.invariant.few in
    record { few = omega arith; left = omega arith }

pub returns : goal.returns
returns c =
    let none : length (lineage c.args.scopes.now c.loop-at.at) ≡ 0 = ap length (lineage-past c.args.scopes.now c.loop-at.at c.loop-at-test.false) in
    let left = c.loop-at.invariant.left in
    omega arith
