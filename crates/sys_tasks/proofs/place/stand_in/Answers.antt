use Rattle.std.proofs.Common.{ℕ, ◌≤◌, ap, sym, subst, ◌∙◌}
use Rattle.std.specs.Prelude.{Some}
use Rattle.text_format.specs.declared.shown.Place.{Place}
use Rattle.sys_tasks.proofs.place.stand_in.Goals as goal

pub returns-then-last-scope-clause-least : goal.returns-then-last-scope-clause-least
returns-then-last-scope-clause-least c =
    subst (λ (p : Place). 1 ≤ p.scale) (sym (c.requires.here.at c.args.scope (c.in-Some.is ∙ ap Some c.if-last-scope.true)))
    (subst (λ (n : ℕ). 1 ≤ n) c.scale_of-scale.ensures.scale c.scale_of-scale.ensures.least)
