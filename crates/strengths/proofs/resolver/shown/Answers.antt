use Rattle.std.proofs.Common.{◌≡◌, None, Some, length, get_or, take, refl, sym, ◌∙◌, ◌+◌, [], ◌∷◌, subst, arith}
use Rattle.std.proofs.lemmas.List.{get_or_read}
use Rattle.strengths.specs.Level.{seen_bit}
use Rattle.strengths.specs.Resolver.{used, first_width}
use Rattle.strengths.specs.Wired.{silent, Shows, seen_at}
use Rattle.strengths.proofs.JoinLemmas.{IsWide, next_width, seen_at-more, used_none, used_all}
use Rattle.strengths.proofs.PlacesLemmas.{Shows-none, Shows-same}
use Rattle.strengths.proofs.resolver.shown.Goals as goal
use Rattle.strengths.proofs.resolver.shown.Goals.{in-Some, in_default}

pub loop-port-init : goal.loop-port-init
loop-port-init c = record {
  shows = Shows-none _ (seen_at []) (λ i h. refl);
  wide = λ h. absurd (omega arith);
}

pub loop-port-preserved : goal.loop-port-preserved
loop-port-preserved c =
    elim c.match-port.branch [
      | in-Some w ↦
          let here : get_or c.args.ports.now c.loop-port.port-index None ≡ Some w.in-Some.next = sym (get_or_read _ _ _ c.loop-port-test.true c.port-item.is None) ∙ w.in-Some.is in
          let common : length w.in-Some.next ≡ first_width (used c.args.ports.now) = next_width _ _ _ c.requires.same_width c.loop-port-test.true here in
          rw (w.places-is, w.width-is)
          record {
            shows =
                Shows-same _ _ _ _
                (w.with-places.ensures (first_width (used c.args.ports.now)) _ (λ i. seen_bit (get_or w.in-Some.next i silent) ∷ []) c.loop-port.invariant.shows (subst (λ n. Shows w.places.result n (λ i. seen_bit (get_or w.in-Some.next i silent) ∷ [])) common w.places.ensures))
                (λ i h. seen_at-more _ _ _ i c.loop-port-test.true here);
            wide = λ h. record { least = w.width-width.ensures.least; most = w.width-width.ensures.most; same = w.width-width.ensures.value ∙ common };
          }
      | in_default w ↦
          let same : used (take c.loop-port.port-index c.args.ports.now) ≡ used (take (c.loop-port.port-index + 1) c.args.ports.now) =
          used_none _ _ c.loop-port-test.true (sym (get_or_read _ _ _ c.loop-port-test.true c.port-item.is None) ∙ w.in_default.is) in
          rw (w.places-is, w.width-is, ← same) c.loop-port.invariant
    ]

pub returns : goal.returns
returns c =
    let all : used (take c.loop-port.port-index c.args.ports.now) ≡ used c.args.ports.now = used_all _ _ c.loop-port-test.false in
    let wide : IsWide c.loop-port.width (first_width (used c.args.ports.now)) = c.loop-port.invariant.wide (rw all c.requires.one) in
    record {
      width = wide.same;
      least = wide.least;
      most = wide.most;
      shows = rw wide.same (subst (λ vectors. Shows c.loop-port.places (first_width (used c.args.ports.now)) (seen_at vectors)) all c.loop-port.invariant.shows);
    }
