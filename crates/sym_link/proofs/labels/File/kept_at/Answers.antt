use Rattle.std.proofs.Common.{◌≡◌, ◌<◌, ◌≤◌, List, length, get_or, ltb-false, sym, subst, arith}
use Rattle.sym_link.specs.declared.labels.Counts.{Counts}
use Rattle.sym_link.proofs.CountLemmas.{kept-nearest, kept-within}
use Rattle.sym_link.proofs.labels.File.kept_at.Goals as goal

pub returns-in-Some : goal.returns-in-Some
returns-in-Some c = λ file all h le.
    let kept = c.args.self.now.counts.items in
    let lt = subst (λ (l : List Counts). c.args.number < length l) c.deref.ensures.value c.in-Some.ensures.lookup.3.0 in
    let got = subst (λ (l : List Counts). c.in-Some.counts.now ≡ get_or l c.args.number c.in-Some.counts.now) c.deref.ensures.value c.in-Some.ensures.lookup.1 in
    kept-nearest all kept c.args.number c.in-Some.counts.now le h.counts lt got

pub returns-in-None : goal.returns-in-None
returns-in-None c = λ file all h le.
    let past = ltb-false c.args.number (length c.deref.result.now) (sym c.in-None.ensures.lookup.0) in
    let end = subst (λ (l : List Counts). length l ≤ c.args.number) c.deref.ensures.value past in
    let within = kept-within all c.args.self.now.counts.items c.args.number le h.counts in
    absurd (omega (arith, end, within))
