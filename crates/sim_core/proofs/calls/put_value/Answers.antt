use Rattle.std.proofs.Common.{◌≡◌, ◌<◌, ◌-◌, ℕ, zero, suc, List, [], ◌∷◌, drop, refl, ap, ◌∙◌, arith}
use Rattle.four_state.specs.declared.bits.Bit.{Bit}
use Rattle.sim_core.proofs.calls.put_value.Goals as goal

drop-more : (n : ℕ) (xs : List (List Bit)) → drop 1 (drop n xs) ≡ drop (suc n) xs
drop-more zero xs = refl
drop-more (suc n) [] = refl
drop-more (suc n) (x ∷ xs) = drop-more n xs

dropped : (pops : ℕ) (xs : List (List Bit)) → 0 < pops → drop 1 (drop (pops - 1) xs) ≡ drop pops xs
dropped zero xs some = absurd (omega arith)
dropped (suc pops) xs some =
    let same : suc pops - 1 ≡ pops = omega arith in
    ap (λ (n : ℕ). drop 1 (drop n xs)) same ∙ drop-more pops xs

pub returns-clause-ok : goal.returns-clause-ok
returns-clause-ok c =
    let some : 0 < c.args.pops = omega (arith, c.if-pops-eq0.false) in
    ap (λ (stack : List (List Bit)). record c.args.frame.now { stack = stack })
    (c.set_top.ensures ∙ ap (λ (stack : List (List Bit)). c.args.value ∷ drop 1 stack) c.discard.ensures ∙ ap (λ (stack : List (List Bit)). c.args.value ∷ stack) (dropped c.args.pops c.args.frame.now.stack some))
