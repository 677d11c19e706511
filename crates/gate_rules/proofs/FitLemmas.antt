-- What a kind's ports say of its widths, and its strengths of its output.
use Rattle.std.proofs.Common.{◌≡◌, ℕ, zero, suc, ◌+◌, Bool, true, false, ◌&&◌, Option, Some, None, IsSome, IsSomeAnd, IsTrue, List, [], ◌∷◌, map, sum, refl, sym, ap, ◌∙◌, eqb, zero-add}
use Rattle.std.proofs.lemmas.Bool.{eqb-true}
use Rattle.std.proofs.lemmas.List.Sums.{sum_by-cons}
use Rattle.vvp_forms.specs.declared.form.Gate.{Gate}
use Rattle.vvp_forms.specs.declared.form.Gate.TheVariants as gate
use Rattle.gate_rules.specs.Evaluable.{port_of_width}
use Rattle.gate_rules.specs.Ports.{there}
use Rattle.gate_rules.specs.Strong.{looks, strength_of, keeps_strong}

pub and_is_there : (o : Option ℕ) (P : ℕ → Type 0) → IsSomeAnd o P → IsSome o
and_is_there None P h = absurd h
and_is_there (Some w) P h = refl

pub and_at : (o : Option ℕ) (P : ℕ → Type 0) (v : ℕ) → IsSomeAnd o P → o ≡ Some v → P v
and_at None P v h e = absurd h
and_at (Some w) P v h e =
    let same : w ≡ v = cc in
    rw (← same) h

-- the ports of a concatenation have its widths
pub sum_there : (widths : List ℕ) → sum (there (map port_of_width widths)) ≡ sum widths
sum_there [] = refl
sum_there (zero ∷ widths) = sum_there widths ∙ sym (sum_by-cons (λ n. n) 0 widths ∙ zero-add (sum widths))
sum_there (suc n ∷ widths) =
    sum_by-cons (λ n. n) (suc n) (there (map port_of_width widths))
    ∙ ap (λ m. suc n + m) (sum_there widths)
    ∙ sym (sum_by-cons (λ n. n) (suc n) widths)

both_true : (a b : Bool) → IsTrue (a && b) → (a ≡ true) × (b ≡ true)
both_true true b h = (refl, h)
both_true false b h = absurd (cc)

-- strengths that are both 6
pub both_six : (s0 s1 : ℕ) → IsTrue (eqb s0 6 && eqb s1 6) → (s0 ≡ 6) × (s1 ≡ 6)
both_six s0 s1 h =
    let both : (eqb s0 6 ≡ true) × (eqb s1 6 ≡ true) = both_true _ _ h in
    (eqb-true _ _ both.0, eqb-true _ _ both.1)

-- a kind that looks at bits and keeps strong bits strong drives with 6 and 6
pub drives_strongly : (kind : Gate) (s0 s1 : ℕ) → IsTrue (looks kind) → IsTrue (keeps_strong kind s0 s1) → (strength_of kind s0 ≡ 6) × (strength_of kind s1 ≡ 6)
drives_strongly gate.And s0 s1 l h = both_six s0 s1 h
drives_strongly gate.Or s0 s1 l h = both_six s0 s1 h
drives_strongly gate.Xor s0 s1 l h = both_six s0 s1 h
drives_strongly gate.Nand s0 s1 l h = both_six s0 s1 h
drives_strongly gate.Nor s0 s1 l h = both_six s0 s1 h
drives_strongly gate.Xnor s0 s1 l h = both_six s0 s1 h
drives_strongly gate.Buf s0 s1 l h = both_six s0 s1 h
drives_strongly gate.Not s0 s1 l h = both_six s0 s1 h
drives_strongly gate.Bufz s0 s1 l h = both_six s0 s1 h
drives_strongly gate.Muxz s0 s1 l h = both_six s0 s1 h
drives_strongly (gate.Arithmetic kind) s0 s1 l h = (refl, refl)
drives_strongly (gate.Compare kind bits) s0 s1 l h = (refl, refl)
drives_strongly (gate.Shift kind) s0 s1 l h = (refl, refl)
drives_strongly (gate.Reduce kind) s0 s1 l h = (refl, refl)
drives_strongly gate.Buft s0 s1 l h = absurd (cc)
drives_strongly (gate.Resolver kind) s0 s1 l h = absurd (cc)
drives_strongly (gate.Part base) s0 s1 l h = absurd (cc)
drives_strongly (gate.PartInto base bits) s0 s1 l h = absurd (cc)
drives_strongly (gate.PartFrom sign) s0 s1 l h = absurd (cc)
drives_strongly (gate.Concat widths) s0 s1 l h = absurd (cc)
drives_strongly (gate.Repeat count) s0 s1 l h = absurd (cc)
drives_strongly gate.Extend s0 s1 l h = absurd (cc)
