use Rattle.std.proofs.Common.{List, ap, sym, subst, ◌∙◌, to_z, of_z, w8, rules, FitsSigned}
use Rattle.std.proofs.lemmas.Int.{to_z-of_z}
use Rattle.std.specs.Borrow.{Bor}
use Rattle.sym_link.specs.declared.placed.Placed.{Placed}
use Rattle.sym_link.specs.Currents.{AreCurrents, AreNear}
use Rattle.sym_link.specs.Meaning.{code_scopes_of, precision_of}
use Rattle.sym_link.proofs.ProgramLemmas.{program-is}
use Rattle.sym_link.proofs.linking.program_of.Goals as goal

pub returns : goal.returns
returns c = λ src all n formed near free.
    let h = n.knows in
    let same = ap (λ (b : Bor (List Placed)). b.now) c.statements-all.ensures ∙ h.statements in
    let k = c.in_ok-currents.ensures src all h in
    let k1 = subst (AreCurrents src all) (sym c.deref.ensures.value) k in
    let k2 = subst (AreCurrents src all) (sym c.deref-2.ensures.value) k in
    let k3 = subst (AreCurrents src all) (sym c.deref-3.ensures.value) k in
    let k4 = subst (AreCurrents src all) (sym c.deref-4.ensures.value) k in
    let read = c.precision_of-precision.result in
    let fits : FitsSigned w8 read = search rules in
    let p = to_z-of_z w8 read fits ∙ c.precision_of-precision.ensures ∙ ap precision_of same in
    program-is src all c.in_ok-items.items c.in_ok-code.code c.in_ok-code_scopes.code_scopes c.in_ok-scopes.scopes c.in_ok-threads.threads (to_z w8 (of_z w8 read))
    (c.in_ok-items.ensures src all n formed k1 free)
    (c.in_ok-code.ensures src all h)
    (c.in_ok-code_scopes.ensures src (subst (λ (l : List Placed). AreCurrents src l c.deref-2.result.now) (sym same) k2) ∙ ap (code_scopes_of src) same)
    (c.in_ok-scopes.ensures src all h k3 p (subst (λ q. AreNear q all) (sym p) near))
    (c.in_ok-threads.ensures src all h k4)
    p
