-- Counts over pairs of lanes: one pair, four at once, and runs of pairs one after another.
use Rattle.std.proofs.Common.{◌≡◌, ℕ, zero, suc, ◌+◌, ◌≤◌, ◌<◌, List, [], ◌∷◌, ◌++◌, length, get_or, map, refl, sym, ap, ◌∙◌, arith, add-zero, add-one, zero-add, bit_and, bit_or, bit_xor}
use Rattle.std.specs.Int.RustNames.{count_ones}
use Rattle.std.specs.List.{range_with_len, sum_by}
use Rattle.std.specs.Simd.Lanes.{chunk}
use Rattle.std.proofs.lemmas.List.Sums.{sum_by-append, sum_by-cons}
use Rattle.std.proofs.lemmas.List.FromFn.{length-map-range_with_len, get_or-map-range_with_len}
use Rattle.std.proofs.lemmas.Grind.{same_number_lists}
use Rattle.std.proofs.lemmas.Simd.{length-chunk, get_or-chunk, zip2-map}
use Rattle.toggle_lanes.specs.declared.lanes.Moves.{Moves}
use Rattle.toggle_lanes.specs.Lanes.{gained, gained_lanes, rises_at, falls_at, lane_rises, lane_falls}

-- ---- runs of pairs, one after the other
range-append : (from m n : ℕ) → range_with_len from (m + n) ≡ range_with_len from m ++ range_with_len (from + m) n
range-append from zero n = rw (zero-add, add-zero) refl
range-append from (suc m) n =
    let e : suc m + n ≡ suc (m + n) = omega arith in
    let next : from + 1 + m ≡ from + suc m = omega arith in
    rw e (ap (λ xs. from ∷ xs) (range-append (from + 1) m n ∙ ap (λ k. range_with_len (from + 1) m ++ range_with_len k n) next))

sum-range : (f : ℕ → ℕ) (from m n : ℕ) → sum_by f (range_with_len from (m + n)) ≡ sum_by f (range_with_len from m) + sum_by f (range_with_len (from + m) n)
sum-range f from m n = ap (sum_by f) (range-append from m n) ∙ sum_by-append f (range_with_len from m) (range_with_len (from + m) n)

pub rises-more : (a b : List ℕ) (from m k n total : ℕ) → k ≡ from + m → total ≡ m + n → lane_rises a b from total ≡ lane_rises a b from m + lane_rises a b k n
unfolding lane_rises
rises-more a b from m k n total e f = rw (e, f) (sum-range (rises_at a b) from m n)

pub falls-more : (a b : List ℕ) (from m k n total : ℕ) → k ≡ from + m → total ≡ m + n → lane_falls a b from total ≡ lane_falls a b from m + lane_falls a b k n
unfolding lane_falls
falls-more a b from m k n total e f = rw (e, f) (sum-range (falls_at a b) from m n)

pub rises-none : (a b : List ℕ) (from n : ℕ) → n ≡ 0 → lane_rises a b from n ≡ 0
unfolding lane_rises
rises-none a b from n e = rw e refl

pub falls-none : (a b : List ℕ) (from n : ℕ) → n ≡ 0 → lane_falls a b from n ≡ 0
unfolding lane_falls
falls-none a b from n e = rw e refl

-- ---- one pair
pub rises-one : (a b : List ℕ) (at : ℕ) → lane_rises a b at 1 ≡ rises_at a b at
unfolding lane_rises
rises-one a b at = zero-add (rises_at a b at)

pub falls-one : (a b : List ℕ) (at : ℕ) → lane_falls a b at 1 ≡ falls_at a b at
unfolding lane_falls
falls-one a b at = zero-add (falls_at a b at)

-- ---- several pairs at once
chunk-range : (xs : List ℕ) (from n : ℕ) → from + n ≤ length xs → chunk from n xs ≡ map (λ i. get_or xs i 0) (range_with_len from n)
chunk-range xs from n h =
    same_number_lists _ _ (length-chunk from n xs h ∙ sym (length-map-range_with_len (λ i. get_or xs i 0) from n))
    (λ k within.
    let below : k < n = rw (length-chunk from n xs h) at within in
    get_or-chunk from n xs k 0 below ∙ sym (get_or-map-range_with_len (λ i. get_or xs i 0) from n k (from + k) 0 below refl))

map-next : (f : ℕ → ℕ) (from n : ℕ) → map f (range_with_len (from + 1) n) ≡ map (λ i. f (i + 1)) (range_with_len from n)
map-next f from zero = refl
map-next f from (suc n) = ap (λ xs. f (from + 1) ∷ xs) (map-next f (from + 1) n)

next-range : (xs : List ℕ) (from n : ℕ) → from + 1 + n ≤ length xs → chunk (from + 1) n xs ≡ map (λ i. get_or xs (i + 1) 0) (range_with_len from n)
next-range xs from n h = chunk-range xs (from + 1) n h ∙ map-next (λ i. get_or xs i 0) from n

-- what is gained in each lane, where the lanes were computed from indices
gained-map : (f g h k : ℕ → ℕ) (is : List ℕ) → gained_lanes (map f is) (map g is) (map h is) (map k is) ≡ map (λ i. gained (f i) (g i) (h i) (k i)) is
gained-map f g h k is =
    rw (zip2-map bit_or h k is, zip2-map bit_or g (λ i. bit_or (h i) (k i)) is, zip2-map bit_and f (λ i. bit_or (g i) (bit_or (h i) (k i))) is)
    (zip2-map bit_xor f (λ i. bit_and (f i) (bit_or (g i) (bit_or (h i) (k i)))) is)

sum-map : (f g : ℕ → ℕ) (is : List ℕ) → sum_by f (map g is) ≡ sum_by (λ i. f (g i)) is
sum-map f g [] = refl
sum-map f g (i ∷ is) = sum_by-cons f (g i) (map g is) ∙ (ap (λ n. f (g i) + n) (sum-map f g is) ∙ sym (sum_by-cons (λ i. f (g i)) i is))

pub rises-lanes : (a b : List ℕ) (at n : ℕ) → at + 1 + n ≤ length a → at + 1 + n ≤ length b
    → sum_by count_ones (gained_lanes (chunk (at + 1) n a) (chunk (at + 1) n b) (chunk at n a) (chunk at n b)) ≡ lane_rises a b at n
unfolding lane_rises
rises-lanes a b at n p q =
    rw (next-range a at n p, next-range b at n q, chunk-range a at n (omega arith), chunk-range b at n (omega arith), gained-map (λ i. get_or a (i + 1) 0) (λ i. get_or b (i + 1) 0) (λ i. get_or a i 0) (λ i. get_or b i 0) (range_with_len at n))
    (sum-map count_ones (λ i. gained (get_or a (i + 1) 0) (get_or b (i + 1) 0) (get_or a i 0) (get_or b i 0)) (range_with_len at n))

pub falls-lanes : (a b : List ℕ) (at n : ℕ) → at + 1 + n ≤ length a → at + 1 + n ≤ length b
    → sum_by count_ones (gained_lanes (chunk at n a) (chunk at n b) (chunk (at + 1) n a) (chunk (at + 1) n b)) ≡ lane_falls a b at n
unfolding lane_falls
falls-lanes a b at n p q =
    rw (next-range a at n p, next-range b at n q, chunk-range a at n (omega arith), chunk-range b at n (omega arith), gained-map (λ i. get_or a i 0) (λ i. get_or b i 0) (λ i. get_or a (i + 1) 0) (λ i. get_or b (i + 1) 0) (range_with_len at n))
    (sum-map count_ones (λ i. gained (get_or a i 0) (get_or b i 0) (get_or a (i + 1) 0) (get_or b (i + 1) 0)) (range_with_len at n))

-- ---- pairs after one more entry in front
later-read : (x : ℕ) (a : List ℕ) (i : ℕ) → get_or (x ∷ a) (i + 1) 0 ≡ get_or a i 0
later-read x a i = ap (λ k. get_or (x ∷ a) k 0) (add-one i)

ones-same : (p q r s p' q' r' s' : ℕ) → p ≡ p' → q ≡ q' → r ≡ r' → s ≡ s' → count_ones (gained p q r s) ≡ count_ones (gained p' q' r' s')
ones-same p q r s p' q' r' s' e f g h =
    ap (λ n. count_ones (gained n q r s)) e ∙ (ap (λ n. count_ones (gained p' n r s)) f ∙ (ap (λ n. count_ones (gained p' q' n s)) g ∙ ap (λ n. count_ones (gained p' q' r' n)) h))

rises-later : (x y : ℕ) (a b : List ℕ) (from n : ℕ) → lane_rises (x ∷ a) (y ∷ b) (from + 1) n ≡ lane_rises a b from n
unfolding lane_rises
rises-later x y a b from zero = refl
rises-later x y a b from (suc n) =
    let now : rises_at (x ∷ a) (y ∷ b) (from + 1) ≡ rises_at a b from = ones-same _ _ _ _ _ _ _ _ (later-read x a (from + 1)) (later-read y b (from + 1)) (later-read x a from) (later-read y b from) in
    sum_by-cons (rises_at (x ∷ a) (y ∷ b)) (from + 1) (range_with_len (from + 1 + 1) n)
    ∙ (ap (λ m. m + sum_by (rises_at (x ∷ a) (y ∷ b)) (range_with_len (from + 1 + 1) n)) now
    ∙ (ap (λ m. rises_at a b from + m) (rises-later x y a b (from + 1) n)
    ∙ sym (sum_by-cons (rises_at a b) from (range_with_len (from + 1) n))))

falls-later : (x y : ℕ) (a b : List ℕ) (from n : ℕ) → lane_falls (x ∷ a) (y ∷ b) (from + 1) n ≡ lane_falls a b from n
unfolding lane_falls
falls-later x y a b from zero = refl
falls-later x y a b from (suc n) =
    let now : falls_at (x ∷ a) (y ∷ b) (from + 1) ≡ falls_at a b from = ones-same _ _ _ _ _ _ _ _ (later-read x a from) (later-read y b from) (later-read x a (from + 1)) (later-read y b (from + 1)) in
    sum_by-cons (falls_at (x ∷ a) (y ∷ b)) (from + 1) (range_with_len (from + 1 + 1) n)
    ∙ (ap (λ m. m + sum_by (falls_at (x ∷ a) (y ∷ b)) (range_with_len (from + 1 + 1) n)) now
    ∙ (ap (λ m. falls_at a b from + m) (falls-later x y a b (from + 1) n)
    ∙ sym (sum_by-cons (falls_at a b) from (range_with_len (from + 1) n))))

pub rises-cons : (x x' y y' : ℕ) (a b : List ℕ) (n : ℕ) → lane_rises (x ∷ x' ∷ a) (y ∷ y' ∷ b) 0 (suc n) ≡ count_ones (gained x' y' x y) + lane_rises (x' ∷ a) (y' ∷ b) 0 n
unfolding lane_rises
rises-cons x x' y y' a b n =
    sum_by-cons (rises_at (x ∷ x' ∷ a) (y ∷ y' ∷ b)) 0 (range_with_len 1 n)
    ∙ ap (λ m. count_ones (gained x' y' x y) + m) (rises-later x y (x' ∷ a) (y' ∷ b) 0 n)

pub falls-cons : (x x' y y' : ℕ) (a b : List ℕ) (n : ℕ) → lane_falls (x ∷ x' ∷ a) (y ∷ y' ∷ b) 0 (suc n) ≡ count_ones (gained x y x' y') + lane_falls (x' ∷ a) (y' ∷ b) 0 n
unfolding lane_falls
falls-cons x x' y y' a b n =
    sum_by-cons (falls_at (x ∷ x' ∷ a) (y ∷ y' ∷ b)) 0 (range_with_len 1 n)
    ∙ ap (λ m. count_ones (gained x y x' y') + m) (falls-later x y (x' ∷ a) (y' ∷ b) 0 n)

-- ---- counts in parts
pub in-parts : (r m n x y t : ℕ) → r ≡ m + n → m ≡ x → n ≡ y → t ≡ x + y → r ≡ t
in-parts r m n x y t e f g h = e ∙ (ap (λ k. k + n) f ∙ (ap (λ k. x + k) g ∙ sym h))

pub gained-same : (a b c d a' b' c' d' : List ℕ) → a ≡ a' → b ≡ b' → c ≡ c' → d ≡ d' → gained_lanes a b c d ≡ gained_lanes a' b' c' d'
gained-same a b c d a' b' c' d' p q r s =
    ap (λ x. gained_lanes x b c d) p ∙ (ap (λ x. gained_lanes a' x c d) q ∙ (ap (λ x. gained_lanes a' b' x d) r ∙ ap (λ x. gained_lanes a' b' c' x) s))

pub same-moves : (m : Moves) (r f : ℕ) → m.rises ≡ r → m.falls ≡ f → m ≡ record { rises = r; falls = f }
same-moves m r f p q =
    let with_rises : ℕ → Moves = λ x. record { rises = x; falls = m.falls } in
    let with_falls : ℕ → Moves = λ x. record { rises = r; falls = x } in
    ap with_rises p ∙ ap with_falls q
