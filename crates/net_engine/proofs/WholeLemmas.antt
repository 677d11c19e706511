-- A value that is laid over all of another.
use Rattle.std.proofs.Common.{◌≡◌, ℕ, zero, suc, ◌+◌, ℤ, pos, List, [], ◌∷◌, length, map, drop, refl, sym, ap, ◌∙◌, arith}
use Rattle.std.proofs.Common.{w64}
use mir.Val.{to_z}
use Rattle.std.specs.Prelude.{◌-ℤ◌, slice_index_or}
use Rattle.std.specs.List.{enumerate_from}
use Rattle.four_state.specs.declared.bits.Bit.{Bit}
use Rattle.four_state.specs.Vector.{place_or, overlaid}

less-none : (k : ℕ) → pos k -ℤ pos 0 ≡ pos k
less-none k = let same : k + 0 ≡ k = omega arith in ap pos same

step : (piece : List Bit) (k : ℕ) (bit : Bit) (n : ℕ) → length piece ≡ k + suc n → slice_index_or piece k bit ∷ drop (suc k) piece ≡ drop k piece
step [] k bit n long = absurd (omega (arith, long))
step (b ∷ piece) zero bit n long = refl
step (b ∷ piece) (suc k) bit n long = step piece k bit n (omega (arith, long))

none : (xs : List Bit) (k : ℕ) → length xs ≡ k → drop k xs ≡ []
none [] zero same = refl
none [] (suc k) same = refl
none (x ∷ xs) zero same = absurd (omega (arith, same))
none (x ∷ xs) (suc k) same = none xs k (omega (arith, same))

whole-from : (k : ℕ) (bits piece : List Bit) → length piece ≡ k + length bits → map (λ p. place_or piece (pos p.0 -ℤ pos 0) p.1) (enumerate_from k bits) ≡ drop k piece
whole-from k [] piece long = sym (none piece k (omega (arith, long)))
whole-from k (bit ∷ bits) piece long =
    let first : place_or piece (pos k -ℤ pos 0) bit ≡ slice_index_or piece k bit = ap (λ z. place_or piece z bit) (less-none k) in
    let next : k + 1 ≡ suc k = omega arith in
    let rest = whole-from (k + 1) bits piece (omega (arith, long)) ∙ ap (λ n. drop n piece) next in
    ap (λ b. b ∷ map (λ p. place_or piece (pos p.0 -ℤ pos 0) p.1) (enumerate_from (k + 1) bits)) first
    ∙ (ap (λ r. slice_index_or piece k bit ∷ r) rest ∙ step piece k bit (length bits) long)

-- a piece that is as long as the bits takes their place
pub overlaid-whole : (bits piece : List Bit) → length bits ≡ length piece → overlaid bits (pos 0) piece ≡ piece
unfolding overlaid
overlaid-whole bits piece same = whole-from 0 bits piece (omega (arith, same))

-- the same for an offset in 64 bits
pub overlaid-none : (bits piece : List Bit) (offset : ℤ) (word : ℕ) → to_z w64 word ≡ offset → word ≡ 0 → length bits ≡ length piece → overlaid bits offset piece ≡ piece
overlaid-none bits piece offset word is none same =
    ap (λ z. overlaid bits z piece) (sym is ∙ ap (to_z w64) none) ∙ overlaid-whole bits piece same
