use Rattle.std.proofs.Common.{◌≡◌, ◌+◌, ◌++◌, ◌∷◌, [], drop, ap, subst, sym, ◌∙◌, arith, append_assoc}
use Rattle.std.proofs.lemmas.List.{get_or_default, append-nil, drop_all}
use Rattle.event_pool.specs.declared.pool.Slot.{Slot}
use Rattle.event_pool.specs.Chain.{IsChain, items_of, places_of}
use Rattle.event_pool.proofs.TakeLemmas.{IsSome-stored}
use Rattle.event_pool.proofs.FindLemmas.{is_here, none_left}
use Rattle.event_pool.proofs.pool.chain_items.Goals as goal

pub returns-then-place : goal.returns-then-place
returns-then-place g c = λ queue laid.
    let i = c.walk.invariant queue laid in
    let none = none_left _ _ (drop c.walk.counter queue) (omega arith) c.if-place.true i.1 in
    sym (append-nil c.walk.items.items) ∙ ap (λ xs. c.walk.items.items ++ xs) (sym none) ∙ i.3

pub offset_bounds-slots-place : goal.offset_bounds-slots-place
offset_bounds-slots-place g c =
    let r = c.requires in
    let i = c.walk.invariant r.0 r.1 in
    let h = is_here _ _ _ r.0 c.if-place.false i.1 i.2 in
    omega (arith, h.inside)

pub bounds-slots-place : goal.bounds-slots-place
bounds-slots-place g c =
    let r = c.requires in
    let i = c.walk.invariant r.0 r.1 in
    let h = is_here _ _ _ r.0 c.if-place.false i.1 i.2 in
    h.inside

pub unwrap-requires : goal.unwrap-requires
unwrap-requires g c =
    let r = c.requires in
    let i = c.walk.invariant r.0 r.1 in
    let h = is_here _ _ _ r.0 c.if-place.false i.1 i.2 in
    IsSome-stored _ h.item (ap (λ (s : Slot g.row.E.Denot). s.item) (c.index-slots-place.is ∙ get_or_default c.args.slots.now c.walk.place _ _ h.inside) ∙ h.stored)

pub walk-preserved : goal.walk-preserved
walk-preserved g c = λ queue laid.
    let i = c.walk.invariant queue laid in
    let h = is_here _ _ _ queue c.if-place.false i.1 i.2 in
    let slot_is = c.index-slots-place.is ∙ get_or_default c.args.slots.now c.walk.place _ _ h.inside in
    let read = ap (λ (s : Slot g.row.E.Denot). s.item) slot_is ∙ h.stored in
    let item : c.unwrap.result ≡ h.item = (let u = c.unwrap.ensures in cc) in
    let left = items_of (drop (c.walk.counter + 1) queue) in (
      omega (arith, h.within),
      subst (λ (s : Slot g.row.E.Denot). IsChain c.args.slots.now s.next (places_of (drop (c.walk.counter + 1) queue))) (sym slot_is) h.next,
      h.rest,
      ap (λ xs. xs ++ left) c.in_ok-push.ensures.items ∙ append_assoc c.walk.items.items (c.unwrap.result ∷ []) left
          ∙ ap (λ x. c.walk.items.items ++ x ∷ left) item ∙ ap (λ xs. c.walk.items.items ++ xs) (sym h.items) ∙ i.3,
    )

pub returns : goal.returns
returns g c = λ queue laid.
    let i = c.walk.invariant queue laid in
    let none = drop_all c.walk.counter queue (omega (arith, laid.short)) in
    sym (append-nil c.walk.items.items) ∙ ap (λ xs. c.walk.items.items ++ items_of xs) (sym none) ∙ i.3
