use Rattle.std.proofs.Common.{◌<◌, ◌≤◌, ◌∙◌, [], ◌∷◌, ap, arith}
use Rattle.vcd_write.specs.declared.types.DumpItem.{DumpItem}
use Rattle.vcd_write.specs.Header.{size}
use Rattle.vcd_write.proofs.TestLemmas.{all-three}
use Rattle.vcd_write.proofs.tests.three_items.Goals as goal

pub returns-clause-scopes : goal.returns-clause-scopes
returns-clause-scopes c =
    all-three (λ (item : DumpItem). item.scope < 5) c.in_ok-item.field-0 c.in_ok-item-2.field-0 c.in_ok-item-3.field-0
    (omega (arith, c.in_ok-item.ensures.scope)) (omega (arith, c.in_ok-item-2.ensures.scope)) (omega (arith, c.in_ok-item-3.ensures.scope))

pub returns-clause-sizes : goal.returns-clause-sizes
returns-clause-sizes c =
    all-three (λ (item : DumpItem). size item ≤ 128) c.in_ok-item.field-0 c.in_ok-item-2.field-0 c.in_ok-item-3.field-0
    (omega (arith, c.in_ok-item.ensures.size)) (omega (arith, c.in_ok-item-2.ensures.size)) (omega (arith, c.in_ok-item-3.ensures.size))

pub returns-clause-widths : goal.returns-clause-widths
returns-clause-widths c =
    ap (λ n. n ∷ size c.in_ok-item-2.field-0 ∷ size c.in_ok-item-3.field-0 ∷ []) c.in_ok-item.ensures.size
    ∙ ap (λ n. 4 ∷ n ∷ size c.in_ok-item-3.field-0 ∷ []) c.in_ok-item-2.ensures.size
    ∙ ap (λ n. 4 ∷ 1 ∷ n ∷ []) c.in_ok-item-3.ensures.size
