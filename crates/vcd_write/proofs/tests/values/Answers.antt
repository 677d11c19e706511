use Rattle.std.proofs.Common.{◌≡◌, ◌<◌, ◌∙◌, [], ◌∷◌, length, get_or, map, sym, ap, arith}
use Rattle.std.proofs.lemmas.List.{length-map, get_or-map}
use Rattle.four_state.specs.PlaneLemmas.{length-places}
use Rattle.vcd_write.proofs.tests.values.Goals as goal

pub set-requires-clause-width : goal.set-requires-clause-width
set-requires-clause-width c =
    ap length c.from_planes.ensures ∙ (length-places c.args.v.0 c.args.v.1 4 ∙ sym (ap (λ vectors. length (get_or vectors 0 [])) c.in_ok-plane.ensures))

pub set-requires-2-clause-width : goal.set-requires-2-clause-width
set-requires-2-clause-width c =
    let widths : map length c.set.new.self ≡ 4 ∷ 1 ∷ 3 ∷ [] = c.set.ensures.widths ∙ ap (map length) c.in_ok-plane.ensures in
    let there : 1 < length c.set.new.self = omega (arith, ap length widths, length-map c.set.new.self length) in
    ap length c.splat.ensures ∙ sym (sym (get_or-map length c.set.new.self 1 [] 0 there) ∙ ap (λ ws. get_or ws 1 0) widths)
