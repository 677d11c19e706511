use Rattle.std.proofs.Common.{◌≡◌, ◌<◌, ◌≤◌, ℕ, List, length, get_or, is_some, true, false, ltb-false, ap, sym, subst, ◌∙◌}
use Rattle.std.specs.List.Sorted.{IsSorted}
use Rattle.std.specs.Str.{bytes_eq}
use Rattle.sym_link.specs.Known.{IsFirstFrom, label_at, label_order}
use Rattle.sym_link.proofs.IndexLemmas.{known-found, known-none, known-other}
use Rattle.sym_link.proofs.labels.File.place_of.Goals as goal

pub returns-in-Some : goal.returns-in-Some
returns-in-Some c = λ file all h.
    let f = c.args.self.now in
    let at = c.first_from-at.result in
    let label = c.bytes_of-label.result.now in
    let place = c.in-Some.place.now in
    let first = subst (λ (l : List ℕ). IsSorted (label_order f.src.now f.placed.now) l → IsFirstFrom f.src.now f.placed.now l label at) c.deref.ensures.value c.first_from-at.ensures in
    let lt = subst (λ (l : List ℕ). at < length l) c.deref-2.ensures.value c.in-Some.ensures.lookup.3.0 in
    let got = subst (λ (l : List ℕ). place ≡ get_or l at place) c.deref-2.ensures.value c.in-Some.ensures.lookup.1 in
    let same : bytes_eq (label_at f.src.now f.placed.now place) label ≡ true = ap (λ l. bytes_eq l label) (sym c.label_at.ensures) ∙ sym c.eq.ensures ∙ c.if-eq.true in
    known-found file all f.src.now f.placed.now c.args.symbol label f.names.items at h.source h.statements h.names first c.bytes_of-label.ensures place lt got same

pub returns-in_default : goal.returns-in_default
returns-in_default c = λ file all h.
    let f = c.args.self.now in
    let at = c.first_from-at.result in
    let label = c.bytes_of-label.result.now in
    let place = c.in-Some.place.now in
    let first = subst (λ (l : List ℕ). IsSorted (label_order f.src.now f.placed.now) l → IsFirstFrom f.src.now f.placed.now l label at) c.deref.ensures.value c.first_from-at.ensures in
    let lt = subst (λ (l : List ℕ). at < length l) c.deref-2.ensures.value c.in-Some.ensures.lookup.3.0 in
    let got = subst (λ (l : List ℕ). place ≡ get_or l at place) c.deref-2.ensures.value c.in-Some.ensures.lookup.1 in
    let other : bytes_eq (label_at f.src.now f.placed.now place) label ≡ false = ap (λ l. bytes_eq l label) (sym c.label_at.ensures) ∙ sym c.eq.ensures ∙ c.if-eq.false in
    known-other file all f.src.now f.placed.now c.args.symbol label f.names.items at h.source h.statements h.names first c.bytes_of-label.ensures place lt got other

pub returns-in_default-2 : goal.returns-in_default-2
returns-in_default-2 c = λ file all h.
    let f = c.args.self.now in
    let at = c.first_from-at.result in
    let label = c.bytes_of-label.result.now in
    let first = subst (λ (l : List ℕ). IsSorted (label_order f.src.now f.placed.now) l → IsFirstFrom f.src.now f.placed.now l label at) c.deref.ensures.value c.first_from-at.ensures in
    let past = ltb-false at (length c.deref-2.result.now) (sym c.get.ensures.lookup.0 ∙ ap (λ o. is_some o) c.in_default.is) in
    let end = subst (λ (l : List ℕ). length l ≤ at) c.deref-2.ensures.value past in
    known-none file all f.src.now f.placed.now c.args.symbol label f.names.items at h.source h.statements h.names first c.bytes_of-label.ensures end
