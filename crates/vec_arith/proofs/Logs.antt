-- The rounded logarithm by a count of leading zeros.
use Rattle.std.proofs.Common.{◌≡◌, ℕ, suc, ◌-◌, ◌*◌, ◌^◌, ◌<◌, ◌≤◌, Bool, true, false, List, length, get_or, slice_get, Some, sym, ap, ◌∙◌, arith, lit<}
use Rattle.std.specs.Prelude.{nat_le, unwrap_or, find}
use Rattle.std.specs.List.{range_with_len, position_or_len}
use lib.Count.{count_leading_zeros}
use Rattle.std.proofs.Math.Nat.{pow-suc, pow-le-pow_right}
use Rattle.std.proofs.lemmas.Bool.{le-leb, lt-leb}
use Rattle.std.proofs.lemmas.List.Folds.{find_at}
use Rattle.std.proofs.lemmas.List.FromFn.{length-range_with_len, get_or-range_with_len}
use Rattle.std.proofs.lemmas.List.Sums.{position_or_len_is}
use Rattle.std.proofs.lemmas.Nat.{pow_pos, leading_length}
use Rattle.std.proofs.lemmas.Option.{slice_get-get_or}
use Rattle.vec_arith.specs.Arith.{ceil_log2}

-- the first place that passes a test of the numbers from 0 up
find_first : (p : ℕ → Bool) (n k : ℕ) → k < n → ((j : ℕ) → j < k → p j ≡ false) → p k ≡ true → find p (range_with_len 0 n) ≡ Some k
find_first p n k h before here =
    let xs : List ℕ = range_with_len 0 n in
    let size : length xs ≡ n = length-range_with_len 0 n in
    let at : (j : ℕ) → j < n → get_or xs j 0 ≡ j = λ j q. get_or-range_with_len 0 n j 0 q ∙ omega arith in
    let place : position_or_len p xs ≡ k =
    position_or_len_is p xs k 0 (omega (arith, size)) (λ j q. ap p (at j (omega arith)) ∙ before j q) (λ q. ap p (at k h) ∙ here) in
    find_at p xs ∙ ap (slice_get xs) place ∙ slice_get-get_or xs k 0 (omega (arith, size)) ∙ ap (λ j. Some j) (at k h)

ceil_log2_is : (x k : ℕ) → k ≤ 128 → x ≤ 2 ^ k → ((j : ℕ) → j < k → 2 ^ j < x) → k ≡ ceil_log2 x
unfolding ceil_log2
ceil_log2_is x k h here before =
    sym (ap (λ o. unwrap_or o 0)
    (find_first (λ n. nat_le x (2 ^ n)) 129 k (omega arith) (λ j q. lt-leb x (2 ^ j) (before j q)) (le-leb x (2 ^ k) here)))

pub ceil_log2_leading : (x l : ℕ) → x < 2 ^ 128 → l ≡ count_leading_zeros 128 (x - 1) → 128 - l ≡ ceil_log2 x
ceil_log2_leading x l h e =
    let found = leading_length 128 (x - 1) (omega arith) in
    let k : ℕ = found.0 in
    let rest : 128 - l ≡ k = omega (arith, e, found.1) in
    rw rest
    (ceil_log2_is x k (omega (arith, found.1)) (omega (arith, found.2))
    (λ j q.
    let above : 2 ^ suc j ≤ 2 ^ k = pow-le-pow_right (lit< tt) (omega arith) in
    let twice : 2 ^ suc j ≡ 2 ^ j * 2 = pow-suc 2 j in
    omega (arith, above, twice, found.3, pow_pos j)))
