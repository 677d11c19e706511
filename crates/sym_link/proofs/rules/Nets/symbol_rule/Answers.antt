use Rattle.std.proofs.Common.{◌≡◌, Bool, true, false, not, ◌&&◌, List, [], ◌∷◌, Some, None, refl, sym, ap, ◌∙◌, rules}
use Rattle.std.specs.List.{list_any}
use Rattle.sym_link.specs.declared.fault.LinkKind.TheVariants as rule
use Rattle.sym_link.specs.declared.labels.Counts.{Counts}
use Rattle.sym_link.specs.LinkRules.{duplicate_label, first_broken, is_misplaced, is_unknown, no_scope, unknown_symbol, wrong_kind}
use Rattle.sym_link.specs.Places.{counts_before}
use Rattle.sym_link.specs.Sorts.{needs_scope}
use Rattle.sym_link.proofs.rules.Nets.symbol_rule.Goals as goal
use Rattle.sym_link.proofs.rules.Nets.symbol_rule.Goals.{else-needs_scope-via-then-needs_scope+else-not-counts_before, else-needs_scope-via-else-needs_scope}

second : (d n u w : Bool) → d ≡ false → n ≡ true → Some rule.NoScope ≡ first_broken ((d, rule.DuplicateLabel) ∷ (n, rule.NoScope) ∷ (u, rule.UnknownSymbol) ∷ (w, rule.WrongKind) ∷ [])
second d n u w p q = sym (ap (λ x. first_broken ((x, rule.DuplicateLabel) ∷ (n, rule.NoScope) ∷ (u, rule.UnknownSymbol) ∷ (w, rule.WrongKind) ∷ [])) p ∙ ap (λ x. first_broken ((x, rule.NoScope) ∷ (u, rule.UnknownSymbol) ∷ (w, rule.WrongKind) ∷ [])) q)

last : (d n u w : Bool) → d ≡ false → n ≡ false → u ≡ false → first_broken ((w, rule.WrongKind) ∷ []) ≡ first_broken ((d, rule.DuplicateLabel) ∷ (n, rule.NoScope) ∷ (u, rule.UnknownSymbol) ∷ (w, rule.WrongKind) ∷ [])
last d n u w p q r = sym (ap (λ x. first_broken ((x, rule.DuplicateLabel) ∷ (n, rule.NoScope) ∷ (u, rule.UnknownSymbol) ∷ (w, rule.WrongKind) ∷ [])) p ∙ ap (λ x. first_broken ((x, rule.NoScope) ∷ (u, rule.UnknownSymbol) ∷ (w, rule.WrongKind) ∷ [])) q ∙ ap (λ x. first_broken ((x, rule.UnknownSymbol) ∷ (w, rule.WrongKind) ∷ [])) r)

needs-none : (x y : Bool) → y ≡ true → (x && not y) ≡ false
needs-none true y is = ap not is
needs-none false y is = refl

pub returns-then-not-counts_before : goal.returns-then-not-counts_before
returns-then-not-counts_before c = λ src all h le.
    let none : not c.counts_before.result.has_scope ≡ true = search rules in
    let needs = sym c.needs_scope.ensures ∙ c.if-needs_scope.true in
    second (duplicate_label src all c.args.place c.args.placed.now) (no_scope src all c.args.place c.args.placed.now) (unknown_symbol src all c.args.place c.args.placed.now) (wrong_kind src all c.args.place c.args.placed.now)
    (sym (c.is_earlier.ensures src all h) ∙ c.if-is_earlier.false)
    (ap (λ (k : Counts). needs_scope c.args.placed.now.what && not k.has_scope) (sym (c.counts_before.ensures src all h.knows le)) ∙ ap (λ b. b && not c.counts_before.result.has_scope) needs ∙ none)

pub returns-then-any_misplaced : goal.returns-then-any_misplaced
returns-then-any_misplaced c = λ src all h le.
    let needs_none : no_scope src all c.args.place c.args.placed.now ≡ false = elim c.else-needs_scope.branch [
      | else-needs_scope-via-then-needs_scope+else-not-counts_before w ↦
          (let some : w.counts_before.result.has_scope ≡ true = search rules in
          ap (λ (k : Counts). needs_scope c.args.placed.now.what && not k.has_scope) (sym (w.counts_before.ensures src all h.knows le)) ∙ needs-none (needs_scope c.args.placed.now.what) w.counts_before.result.has_scope some)
      | else-needs_scope-via-else-needs_scope w ↦ ap (λ b. b && not (counts_before all c.args.place).has_scope) (sym c.needs_scope.ensures ∙ w.if-needs_scope.false)
    ] in
    let known : unknown_symbol src all c.args.place c.args.placed.now ≡ false = ap (list_any (is_unknown src all)) (sym c.requires) ∙ sym (c.any_unknown.ensures src all h) ∙ c.if-any_unknown.false in
    let found = last (duplicate_label src all c.args.place c.args.placed.now) (no_scope src all c.args.place c.args.placed.now) (unknown_symbol src all c.args.place c.args.placed.now) (wrong_kind src all c.args.place c.args.placed.now)
    (sym (c.is_earlier.ensures src all h) ∙ c.if-is_earlier.false) needs_none known in
    let wrong : wrong_kind src all c.args.place c.args.placed.now ≡ true = ap (list_any (is_misplaced src all c.args.place)) (sym c.requires) ∙ sym (c.any_misplaced.ensures src all h) ∙ c.if-any_misplaced.true in
    sym (ap (λ x. first_broken ((x, rule.WrongKind) ∷ [])) wrong) ∙ found

pub returns : goal.returns
returns c = λ src all h le.
    let needs_none : no_scope src all c.args.place c.args.placed.now ≡ false = elim c.else-needs_scope.branch [
      | else-needs_scope-via-then-needs_scope+else-not-counts_before w ↦
          (let some : w.counts_before.result.has_scope ≡ true = search rules in
          ap (λ (k : Counts). needs_scope c.args.placed.now.what && not k.has_scope) (sym (w.counts_before.ensures src all h.knows le)) ∙ needs-none (needs_scope c.args.placed.now.what) w.counts_before.result.has_scope some)
      | else-needs_scope-via-else-needs_scope w ↦ ap (λ b. b && not (counts_before all c.args.place).has_scope) (sym c.needs_scope.ensures ∙ w.if-needs_scope.false)
    ] in
    let known : unknown_symbol src all c.args.place c.args.placed.now ≡ false = ap (list_any (is_unknown src all)) (sym c.requires) ∙ sym (c.any_unknown.ensures src all h) ∙ c.if-any_unknown.false in
    let found = last (duplicate_label src all c.args.place c.args.placed.now) (no_scope src all c.args.place c.args.placed.now) (unknown_symbol src all c.args.place c.args.placed.now) (wrong_kind src all c.args.place c.args.placed.now)
    (sym (c.is_earlier.ensures src all h) ∙ c.if-is_earlier.false) needs_none known in
    let wrong : wrong_kind src all c.args.place c.args.placed.now ≡ false = ap (list_any (is_misplaced src all c.args.place)) (sym c.requires) ∙ sym (c.any_misplaced.ensures src all h) ∙ c.if-any_misplaced.false in
    sym (ap (λ x. first_broken ((x, rule.WrongKind) ∷ [])) wrong) ∙ found
