-- The shortest spelling of a value.
use Rattle.std.proofs.Common.{◌≡◌, ◌≢◌, ℕ, zero, suc, ◌+◌, ◌-◌, ◌<◌, ◌≤◌, Bool, true, false, List, [], ◌∷◌, length, get_or, take, map, replicate, Some, unwrap_or, refl, sym, ap, subst, ◌∙◌, arith, inl, inr, length-append}
use Rattle.std.specs.List.{find, range_with_len}
use Rattle.std.proofs.lemmas.Bool.{cases_Bool, cases_lt}
use Rattle.std.proofs.lemmas.List.{same_lists, length-replicate, get_or-replicate, get_or-take, get_or_append_left, get_or-append_right, length-take-le}
use Rattle.four_state.specs.declared.bits.Bit.{Bit}
use Rattle.four_state.specs.declared.bits.Bit.TheVariants.{Zero, One, Unknown, HighZ}
use Rattle.four_state.specs.Same.{is_same, is_same-Decides}
use Rattle.vcd_write.specs.Value.{extension_of, extended, shortest}

pub extension-twice : (bit : Bit) → extension_of (extension_of bit) ≡ extension_of bit
extension-twice Zero = refl
extension-twice One = refl
extension-twice Unknown = refl
extension-twice HighZ = refl

-- all places from n on are what extends the bit below them
pub record Follows (value : List Bit) (n : ℕ) : Type 0 where
  pub each : (k : ℕ) → n ≤ k → k < length value → get_or value k Unknown ≡ extension_of (get_or value (n - 1) Unknown)

pub follows-all : (value : List Bit) → Follows value (length value)
follows-all value = record { each = λ k low high. absurd (omega arith) }

-- one place fewer
pub follows-less : (value : List Bit) (n : ℕ) → 1 < n → n ≤ length value → get_or value (n - 1) Unknown ≡ extension_of (get_or value (n - 2) Unknown) → Follows value n → Follows value (n - 1)
follows-less value n h le e f =
    let below : n - 2 ≡ n - 1 - 1 = omega arith in
    record {
      each = λ k low high.
          elim (cases_lt k n) [
            | inl less ↦
                let top : k ≡ n - 1 = omega arith in
                ap (λ j. get_or value j Unknown) top ∙ (e ∙ ap (λ j. extension_of (get_or value j Unknown)) below)
            | inr more ↦
                f.each k more high ∙ (ap extension_of e ∙ (extension-twice (get_or value (n - 2) Unknown) ∙ ap (λ j. extension_of (get_or value j Unknown)) below))
          ];
    }

-- no fewer where the top bit doesn't follow
pub follows-not : (value : List Bit) (n m : ℕ) → n ≤ length value → 1 ≤ m → m < n → get_or value (n - 1) Unknown ≢ extension_of (get_or value (n - 2) Unknown) → Follows value m → ⊥
follows-not value n m le some less ne f =
    let top : get_or value (n - 1) Unknown ≡ extension_of (get_or value (m - 1) Unknown) = f.each (n - 1) (omega arith) (omega arith) in
    elim (cases_lt m (n - 1)) [
      | inl under ↦
          let next : get_or value (n - 2) Unknown ≡ extension_of (get_or value (m - 1) Unknown) = f.each (n - 2) (omega arith) (omega arith) in
          ne (top ∙ (sym (extension-twice (get_or value (m - 1) Unknown)) ∙ sym (ap extension_of next)))
      | inr at ↦
          let below : m - 1 ≡ n - 2 = omega arith in
          ne (top ∙ ap (λ j. extension_of (get_or value j Unknown)) below)
    ]

length-extended : (spelling : List Bit) (w : ℕ) → length spelling ≤ w → length (extended spelling w) ≡ w
length-extended spelling w h = rw (length-append, length-replicate) (omega arith)

extended_low : (spelling : List Bit) (w k : ℕ) (d : Bit) → k < length spelling → get_or (extended spelling w) k d ≡ get_or spelling k d
extended_low spelling w k d h = get_or_append_left spelling (replicate (w - length spelling) (extension_of (get_or spelling (length spelling - 1) Unknown))) d k h

extended_high : (spelling : List Bit) (w k : ℕ) (d : Bit) → length spelling ≤ k → k < w → get_or (extended spelling w) k d ≡ extension_of (get_or spelling (length spelling - 1) Unknown)
extended_high spelling w k d low high =
    let within : k - length spelling < w - length spelling = omega arith in
    get_or-append_right spelling (replicate (w - length spelling) (extension_of (get_or spelling (length spelling - 1) Unknown))) (length spelling) k d refl low
    ∙ get_or-replicate (w - length spelling) (k - length spelling) (extension_of (get_or spelling (length spelling - 1) Unknown)) d within

-- a place that is there reads the same whatever stands past the end
read_any : (value : List Bit) (i : ℕ) (d e : Bit) → i < length value → get_or value i d ≡ get_or value i e
read_any [] i d e h = absurd (omega arith)
read_any (bit ∷ bits) zero d e h = refl
read_any (bit ∷ bits) (suc i) d e h = read_any bits i d e (omega arith)

top_of_front : (value : List Bit) (n : ℕ) → 1 ≤ n → n ≤ length value → get_or (take n value) (length (take n value) - 1) Unknown ≡ get_or value (n - 1) Unknown
top_of_front value n some le =
    let long : length (take n value) ≡ n = length-take-le n value le in
    ap (λ k. get_or (take n value) (k - 1) Unknown) long ∙ get_or-take n value (n - 1) Unknown (omega arith)

-- the front of a value extends to it where the rest follows
pub extended-front : (value : List Bit) (n : ℕ) → 1 ≤ n → n ≤ length value → Follows value n → extended (take n value) (length value) ≡ value
extended-front value n some le f =
    let long : length (take n value) ≡ n = length-take-le n value le in
    same_lists (extended (take n value) (length value)) value (length-extended (take n value) (length value) (omega arith))
    (λ k d h.
    let within : k < length value = rw (length-extended (take n value) (length value) (omega arith)) at h in
    elim (cases_lt k n) [
      | inl low ↦ extended_low (take n value) (length value) k d (omega arith) ∙ get_or-take n value k d low
      | inr high ↦
          extended_high (take n value) (length value) k d (omega arith) within
          ∙ (ap extension_of (top_of_front value n some le) ∙ (sym (f.each k high within) ∙ read_any value k Unknown d within))
    ])

pub follows-front : (value : List Bit) (n : ℕ) → 1 ≤ n → n ≤ length value → extended (take n value) (length value) ≡ value → Follows value n
follows-front value n some le e =
    let long : length (take n value) ≡ n = length-take-le n value le in
    record {
      each = λ k low high.
          ap (λ bits. get_or bits k Unknown) (sym e)
          ∙ (extended_high (take n value) (length value) k Unknown (omega arith) high ∙ ap extension_of (top_of_front value n some le));
    }

-- the first that passes, of the lists made from so many numbers
find_at : {X : Type 0} (test : X → Bool) (f : ℕ → X) (from count n : ℕ) → from ≤ n → n < from + count → test (f n) ≡ true → ((m : ℕ) → from ≤ m → m < n → test (f m) ≡ false) → find test (map f (range_with_len from count)) ≡ Some (f n)
find_at test f from zero n low high passes fails = absurd (omega arith)
find_at test f from (suc count) n low high passes fails =
    elim (cases_lt from n) [
      | inl less ↦ rw (fails from (omega arith) less) (find_at test f (from + 1) count n (omega arith) (omega arith) passes (λ m p q. fails m (omega arith) q))
      | inr at ↦
          let same : n ≡ from = omega arith in
          let first : test (f from) ≡ true = subst (λ m. test (f m) ≡ true) same passes in
          rw first (ap (λ m. Some (f m)) (sym same))
    ]

pub shortest_is : (value : List Bit) (n : ℕ) → 1 ≤ n → n ≤ length value → Follows value n → ((m : ℕ) → 1 ≤ m → m < n → Follows value m → ⊥) → shortest value ≡ take n value
unfolding shortest
shortest_is value n some le f fewer =
    ap (λ o. unwrap_or o value)
    (find_at (λ spelling. is_same (extended spelling (length value)) value) (λ m. take m value) 1 (length value) n some (omega arith)
    (ap (λ bits. is_same bits value) (extended-front value n some le f) ∙ (is_same-Decides value value).1 refl)
    (λ m low less.
    elim (cases_Bool (is_same (extended (take m value) (length value)) value)) [
      | inl same ↦ absurd (fewer m low less (follows-front value m low (omega arith) ((is_same-Decides (extended (take m value) (length value)) value).0 same)))
      | inr e ↦ e
    ]))
