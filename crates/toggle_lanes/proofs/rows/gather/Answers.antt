use Rattle.std.proofs.Common.{◌≡◌, ◌∙◌, List, ℕ, ◌++◌, length, take, sym, ap, arith}
use Rattle.std.proofs.Math.Seq.{take-append_seam}
use Rattle.toggle_lanes.proofs.FillLemmas.{gathered}
use Rattle.toggle_lanes.proofs.rows.gather.Goals as goal

-- a slice that was lent and written back
refilled : {X : Type 0} (n : ℕ) (xs ys : List X) → length xs ≡ n → take n (xs ++ ys) ≡ xs
refilled n xs ys e = ap (λ k. take k (xs ++ ys)) (sym e) ∙ take-append_seam xs ys

pub returns : goal.returns
returns c =
    let filled = rw c.deref_mut.ensures.value at c.in_ok-fill.ensures in
    refilled _ c.fill.new.nets _ (omega (arith, filled.count, c.in_ok-nets.nets.ok.0))
    ∙ gathered c.args.trace.now c.in_ok-nets.nets.items c.fill.new.nets (rw c.as_slice.ensures at c.in_ok-nets.ensures) filled
