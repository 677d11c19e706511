use Rattle.std.proofs.Common.{◌≡◌, ℕ, false, ◌<◌, ◌≤◌, List, [], ◌∷◌, ◌++◌, Some, nat_eq, nat_lt, length, get_or, drop, map, reverse, sym, ap, ◌∙◌, arith}
use Rattle.std.proofs.lemmas.List.{reverse-append}
use Rattle.four_state.specs.declared.bits.Bit.{Bit}
use Rattle.std.proofs.lemmas.Bool.Decides.{nat_tests}
use Rattle.vvp_lex.specs.Vector.{bit_of, vector_of}

-- a vector is its first bit, and the others below it
pub vector-first : (bits : List ℕ) → 0 < length bits → reverse (map bit_of (drop 1 bits)) ++ bit_of (get_or bits 0 0) ∷ [] ≡ reverse (map bit_of bits)
vector-first [] some = absurd (omega arith)
vector-first (first ∷ rest) some = sym (reverse-append (bit_of first ∷ []) (map bit_of rest))

pub vector_of-some : (bits rest : List ℕ) (top : Bit) (vector : List Bit) → nat_eq (length bits) 0 ≡ false → length bits ≤ 128 → top ≡ bit_of (get_or bits 0 0) → rest ≡ drop 1 bits → vector ≡ reverse (map bit_of rest) ++ top ∷ [] → Some vector ≡ vector_of bits
unfolding vector_of
vector_of-some bits rest top vector not_none few top_is rest_is is =
    let some : 0 < length bits = grind (arith, nat_tests) in
    let not_wide : nat_lt 128 (length bits) ≡ false = grind (arith, nat_tests) in
    let parts = ap (λ (xs : List ℕ). reverse (map bit_of xs) ++ top ∷ []) rest_is ∙ ap (λ (b : Bit). reverse (map bit_of (drop 1 bits)) ++ b ∷ []) top_is in
    rw (not_none, not_wide) (ap Some (is ∙ parts ∙ vector-first bits some))
