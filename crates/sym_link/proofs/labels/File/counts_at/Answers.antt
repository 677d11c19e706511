use Rattle.std.proofs.Common.{◌≡◌, ◌*◌, ◌/◌, ◌≤◌, ◌^◌, List, length, ap, sym, subst, ◌∙◌, arith}
use Rattle.sym_link.specs.declared.placed.Placed.{Placed}
use Rattle.sym_link.specs.Known.{IsCounted}
use Rattle.sym_link.specs.Places.{counts_before}
use Rattle.sym_link.proofs.labels.File.counts_at.Goals as goal

pub returns : goal.returns
returns c = λ file all h le.
    let place = c.args.place in
    let near : place / 8 * 8 ≤ place = omega arith in
    let few = subst (λ (l : List Placed). length l ≤ 2 ^ 26) (sym h.statements) h.few in
    let within = subst (λ (l : List Placed). place ≤ length l) (sym h.statements) le in
    let kept = subst (λ (l : List Placed). IsCounted l (place / 8 * 8) c.kept_at.result) (sym h.statements) (c.kept_at.ensures file all h (omega (arith, near, le))) in
    (c.counts_on.ensures few near within kept).exact ∙ ap (λ (l : List Placed). counts_before l place) h.statements
