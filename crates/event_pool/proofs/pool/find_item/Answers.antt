use Rattle.std.proofs.Common.{◌≡◌, ◌+◌, drop, true, false, refl, ap, subst, sym, ◌∙◌, arith}
use Rattle.std.specs.List.{position_from}
use Rattle.std.proofs.lemmas.List.{get_or_default}
use Rattle.event_pool.specs.declared.pool.Slot.{Slot}
use Rattle.event_pool.specs.Chain.{IsChain, items_of, places_of}
use Rattle.event_pool.proofs.TakeLemmas.{IsSome-stored}
use Rattle.event_pool.proofs.FindLemmas.{is_here, none_left}
use Rattle.event_pool.proofs.pool.find_item.Goals as goal

pub returns-then-place : goal.returns-then-place
returns-then-place g c = λ queue laid.
    let i = c.loop-k.invariant queue laid in
    let none = none_left _ _ (drop c.loop-k.k queue) (omega arith) c.if-place.true i.1 in
    sym (ap (position_from (λ x. g.E.PartialEq.eq x c.args.e) c.loop-k.k) none) ∙ i.3

pub offset_bounds-slots-place : goal.offset_bounds-slots-place
offset_bounds-slots-place g c =
    let r = c.requires in
    let i = c.loop-k.invariant r.0 r.1 in
    let h = is_here _ _ _ r.0 c.if-place.false i.1 i.2 in
    omega (arith, h.inside)

pub bounds-slots-place : goal.bounds-slots-place
bounds-slots-place g c =
    let r = c.requires in
    let i = c.loop-k.invariant r.0 r.1 in
    let h = is_here _ _ _ r.0 c.if-place.false i.1 i.2 in
    h.inside

pub unwrap-requires : goal.unwrap-requires
unwrap-requires g c =
    let r = c.requires in
    let i = c.loop-k.invariant r.0 r.1 in
    let h = is_here _ _ _ r.0 c.if-place.false i.1 i.2 in
    IsSome-stored _ h.item (ap (λ (s : Slot g.row.E.Denot). s.item) (c.index-slots-place.is ∙ get_or_default c.args.slots.now c.loop-k.place _ _ h.inside) ∙ h.stored)

pub returns-then-eq : goal.returns-then-eq
returns-then-eq g c = λ queue laid.
    let i = c.loop-k.invariant queue laid in
    let h = is_here _ _ _ queue c.if-place.false i.1 i.2 in
    let read = ap (λ (s : Slot g.row.E.Denot). s.item) (c.index-slots-place.is ∙ get_or_default c.args.slots.now c.loop-k.place _ _ h.inside) ∙ h.stored in
    let item : c.unwrap.result ≡ h.item = (let u = c.unwrap.ensures in cc) in
    let test : g.E.PartialEq.eq h.item c.args.e ≡ true = ap (λ x. g.E.PartialEq.eq x c.args.e) (sym item) ∙ sym c.eq.ensures ∙ c.if-eq.true in
    sym (ap (position_from (λ x. g.E.PartialEq.eq x c.args.e) c.loop-k.k) h.items ∙ rw test refl) ∙ i.3

pub loop-k-preserved : goal.loop-k-preserved
loop-k-preserved g c = λ queue laid.
    let i = c.loop-k.invariant queue laid in
    let h = is_here _ _ _ queue c.if-place.false i.1 i.2 in
    let slot_is = c.index-slots-place.is ∙ get_or_default c.args.slots.now c.loop-k.place _ _ h.inside in
    let read = ap (λ (s : Slot g.row.E.Denot). s.item) slot_is ∙ h.stored in
    let item : c.unwrap.result ≡ h.item = (let u = c.unwrap.ensures in cc) in
    let test : g.E.PartialEq.eq h.item c.args.e ≡ false = ap (λ x. g.E.PartialEq.eq x c.args.e) (sym item) ∙ sym c.eq.ensures ∙ c.if-eq.false in
    let step : position_from (λ x. g.E.PartialEq.eq x c.args.e) c.loop-k.k (items_of (drop c.loop-k.k queue)) ≡ position_from (λ x. g.E.PartialEq.eq x c.args.e) (c.loop-k.k + 1) (items_of (drop (c.loop-k.k + 1) queue)) =
    ap (position_from (λ x. g.E.PartialEq.eq x c.args.e) c.loop-k.k) h.items ∙ rw test refl in (
      omega (arith, h.within),
      subst (λ (s : Slot g.row.E.Denot). IsChain c.args.slots.now s.next (places_of (drop (c.loop-k.k + 1) queue))) (sym slot_is) h.next,
      h.rest,
      sym step ∙ i.3,
    )
