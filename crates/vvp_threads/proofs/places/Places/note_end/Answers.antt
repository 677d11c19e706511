use Rattle.std.proofs.Common.{◌≡◌, true, false, Some, None, get_or, set, refl, sym, ap, ◌∙◌, arith}
use Rattle.vvp_threads.specs.declared.places.Place.{Place}
use Rattle.vvp_threads.specs.Table.{slot_at}
use Rattle.vvp_threads.specs.Places.{unended}
use Rattle.vvp_threads.proofs.GatherLemmas.{seen, rises, set-absent}
use Rattle.vvp_threads.proofs.LiveLemmas.{live-found, live-absent, ended-within, keeps-end}
use Rattle.vvp_threads.proofs.places.Places.note_end.Goals as goal

pub find_place-requires : goal.find_place-requires
find_place-requires c = rw c.as_slice.ensures.value (rises c.self.inside.drawn c.self.inside.places.items _ (seen c.self.inside.drawn c.self.inside.places.items c.self.invariant.whole))

pub returns-in-None : goal.returns-in-None
returns-in-None c =
    let none = rw c.as_slice.ensures.value at c.in-None.ensures in
    sym (set-absent c.args.self.now.slots c.args.serial (ap (λ v. slot_at v.slots c.args.serial) (sym c.self.view_is) ∙ live-absent c.self.inside.drawn c.self.inside.ended c.self.inside.places.items c.self.invariant c.args.serial none))

pub returns-then-index : goal.returns-then-index
returns-then-index c =
    let found = rw c.as_slice.ensures.value at c.in-Some.ensures in
    let ended : (get_or c.self.inside.places.items c.in-Some.at c.index.result.now).ended ≡ true = ap (λ p. p.ended) (sym c.index.ensures) ∙ c.if-index.true in
    let none : unended (Some (get_or c.self.inside.places.items c.in-Some.at c.index.result.now)) ≡ None = rw ended refl in
    sym (set-absent c.args.self.now.slots c.args.serial (ap (λ v. slot_at v.slots c.args.serial) (sym c.self.view_is) ∙ live-found c.self.inside.drawn c.self.inside.ended c.self.inside.places.items c.self.invariant c.args.serial c.in-Some.at c.index.result.now found.0 found.1 ∙ none))

pub overflow_add-self : goal.overflow_add-self
overflow_add-self c =
    let found = rw c.as_slice.ensures.value at c.in-Some.ensures in
    let was : (get_or c.self.inside.places.items c.in-Some.at c.index.result.now).ended ≡ false = ap (λ p. p.ended) (sym c.index.ensures) ∙ c.if-index.false in
    let within = ended-within c.self.inside.drawn c.self.inside.ended c.self.inside.places.items c.self.invariant c.in-Some.at c.index.result.now found.0 was in
    omega (arith, within, c.self.inside.places.ok.0, c.self.inside.places.ok.1, c.self.inside.places.small)

pub invariant_of-self : goal.invariant_of-self
invariant_of-self c =
    let found = rw c.as_slice.ensures.value at c.in-Some.ensures in
    let was : (get_or c.self.inside.places.items c.in-Some.at c.index.result.now).ended ≡ false = ap (λ p. p.ended) (sym c.index.ensures) ∙ c.if-index.false in
    let r : Place = record { serial = c.index_mut.result.now.serial; key = c.index_mut.result.now.key; marked = c.index_mut.result.now.marked; ended = true } in
    (keeps-end c.self.inside.drawn c.self.inside.ended c.self.inside.places.items c.self.invariant c.args.serial c.in-Some.at c.index.result.now r found.0 found.1 was
    (ap (λ p. p.serial) c.index_mut.ensures.value ∙ found.1 c.index_mut.result.now) refl).kept

pub returns : goal.returns
returns c =
    let found = rw c.as_slice.ensures.value at c.in-Some.ensures in
    let was : (get_or c.self.inside.places.items c.in-Some.at c.index.result.now).ended ≡ false = ap (λ p. p.ended) (sym c.index.ensures) ∙ c.if-index.false in
    let r : Place = record { serial = c.index_mut.result.now.serial; key = c.index_mut.result.now.key; marked = c.index_mut.result.now.marked; ended = true } in
    (keeps-end c.self.inside.drawn c.self.inside.ended c.self.inside.places.items c.self.invariant c.args.serial c.in-Some.at c.index.result.now r found.0 found.1 was
    (ap (λ p. p.serial) c.index_mut.ensures.value ∙ found.1 c.index_mut.result.now) refl).shown
    ∙ ap (λ v. set v.slots c.args.serial None) c.self.view_is
