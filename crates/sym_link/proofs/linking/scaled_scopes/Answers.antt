use Rattle.std.proofs.Common.{◌≡◌, ◌<◌, List, length, Some, ap, sym, subst, ◌∙◌, to_z, of_z, w8}
use Rattle.std.proofs.lemmas.Int.{to_z-of_z}
use Rattle.std.specs.Borrow.{Bor}
use Rattle.sym_link.specs.declared.placed.Placed.{Placed}
use Rattle.sym_link.specs.Currents.{AreCurrents, AreNear, scale_before}
use Rattle.sym_link.proofs.ScaleLemmas.{scale-all}
use Rattle.sym_link.proofs.linking.scaled_scopes.Goals as goal

pub returns : goal.returns
returns c = λ src all h long k is near.
    let same = ap (λ (b : Bor (List Placed)). b.now) c.statements.ensures ∙ h.statements in
    let p = to_z w8 (of_z w8 c.args.precision) in
    let kept : p ≡ c.args.precision = to_z-of_z w8 c.args.precision c.ranges.precision in
    let currents = subst (λ (l : List Placed). AreCurrents src l c.args.currents.now) (sym same) k in
    let units = subst (λ (l : List Placed). AreNear p l) (sym same) (subst (λ q. AreNear q all) (sym kept) near) in
    c.scope_rows.ensures src all h (λ scope lt.
    c.put_scales.ensures src currents units scope (subst (λ n. scope < n) (sym long) lt)
    ∙ ap (λ (l : List Placed). Some (scale_before src l p scope (length l))) same
    ∙ ap Some (scale-all src all p scope (kept ∙ is)))
