use Rattle.std.proofs.Common.{◌∙◌, ap, arith}
use Rattle.strengths.specs.Resolver.{resolved_by, pulled, used}
use Rattle.strengths.specs.Wired.{seen_at, wired_and, wired_or}
use Rattle.strengths.proofs.PlacesLemmas.{map-wired, wired_and-shown, wired_or-shown}
use Rattle.strengths.proofs.resolver.resolve_kind.Goals as goal

pub returns-in-Tri : goal.returns-in-Tri
unfolding resolved_by
returns-in-Tri c = rw c.in-Tri.is c.all_resolved.ensures

pub returns-in-Tri0 : goal.returns-in-Tri0
unfolding resolved_by
returns-in-Tri0 c = rw c.in-Tri0.is (c.pulled.ensures ∙ ap (pulled _) c.all_resolved-in-Tri0.ensures)

pub returns-in-Tri1 : goal.returns-in-Tri1
unfolding resolved_by
returns-in-Tri1 c = rw c.in-Tri1.is (c.pulled-in-Tri1.ensures ∙ ap (pulled _) c.all_resolved-in-Tri1.ensures)

pub returns-in-Triand : goal.returns-in-Triand
unfolding resolved_by
returns-in-Triand c =
    rw c.in-Triand.is
    (c.driven.ensures
    ∙ map-wired 6 6 _ wired_and _ _ _ c.shown-width.ensures.width
    (λ i h. rw (c.shown-width.ensures.shows.zeros i h, c.shown-width.ensures.shows.unknowns i h, c.shown-width.ensures.shows.ones i h) (wired_and-shown (seen_at (used c.args.ports.now) i))))

pub returns-in-Trior : goal.returns-in-Trior
unfolding resolved_by
returns-in-Trior c =
    rw c.in-Trior.is
    (c.driven-in-Trior.ensures
    ∙ map-wired 6 6 _ wired_or _ _ _ c.shown-width-in-Trior.ensures.width
    (λ i h.
    c.ones_first.ensures i (omega (arith, c.shown-width-in-Trior.ensures.most))
    ∙ rw (c.shown-width-in-Trior.ensures.shows.zeros i h, c.shown-width-in-Trior.ensures.shows.unknowns i h, c.shown-width-in-Trior.ensures.shows.ones i h) (wired_or-shown (seen_at (used c.args.ports.now) i))))
