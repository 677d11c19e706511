use Rattle.std.proofs.Common.{not, ap, ◌∙◌, rules}
use Rattle.std.proofs.lemmas.List.Elements.{filter_from_retain}
use Rattle.vvp_threads.specs.Places.{is_ended}
use Rattle.vvp_threads.proofs.LiveLemmas.{keeps-pruned}
use Rattle.vvp_threads.proofs.places.Places.prune.Goals as goal

pub invariant_of-self : goal.invariant_of-self
invariant_of-self c =
    let left = filter_from_retain _ (λ p. not (is_ended p)) (λ p x b q r. search (rules, r)) _ _ _ c.retain.ensures.filtered in
    rw left (keeps-pruned c.self.inside.drawn c.self.inside.ended c.self.inside.places.items c.self.invariant).kept

pub returns-clause-slots : goal.returns-clause-slots
returns-clause-slots c =
    let left = filter_from_retain _ (λ p. not (is_ended p)) (λ p x b q r. search (rules, r)) _ _ _ c.retain.ensures.filtered in
    rw left (keeps-pruned c.self.inside.drawn c.self.inside.ended c.self.inside.places.items c.self.invariant).shown
    ∙ ap (λ v. v.slots) c.self.view_is
