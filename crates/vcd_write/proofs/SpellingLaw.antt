-- What is written is the shortest spelling that extends to the value.
use Rattle.std.proofs.Common.{◌≡◌, ◌≢◌, ℕ, zero, suc, ◌+◌, ◌-◌, ◌<◌, ◌≤◌, true, List, length, get_or, take, replicate, sym, ap, subst, ◌∙◌, arith, inl, inr, ◌⊎◌, length-append}
use Rattle.std.proofs.Math.Seq.{take-append_seam}
use Rattle.std.proofs.lemmas.Bool.{cases_Bool, cases_lt}
use Rattle.std.proofs.lemmas.List.{length-replicate, length-take-le}
use Rattle.four_state.specs.declared.bits.Bit.{Bit}
use Rattle.four_state.specs.declared.bits.Bit.TheVariants.{Unknown}
use Rattle.four_state.specs.Same.{same_bit, same_bit-Decides}
use Rattle.vcd_write.specs.Value.{extension_of, extended, Extends, IsShortest, shortest}
use Rattle.vcd_write.proofs.SpellingLemmas.{Follows, follows-all, follows-less, follows-not, extended-front, follows-front, shortest_is}

-- two bits are the same, or not
cases_bit : (a b : Bit) → (a ≡ b) ⊎ (a ≢ b)
cases_bit a b =
    elim (cases_Bool (same_bit a b)) [
      | inl same ↦ inl ((same_bit-Decides a b).0 same)
      | inr other ↦ inr (λ (e : a ≡ b). let same : same_bit a b ≡ true = (same_bit-Decides a b).1 e in cc)
    ]

-- the least number of places above which all follow
record IsLeast (value : List Bit) (n : ℕ) : Type 0 where
  some : 1 ≤ n
  within : n ≤ length value
  follows : Follows value n
  fewer : (m : ℕ) → 1 ≤ m → m < n → Follows value m → ⊥

least_from : (value : List Bit) (n : ℕ) → 1 ≤ n → n ≤ length value → Follows value n → (m : ℕ) × IsLeast value m
least_from value zero some le f = absurd (omega arith)
least_from value (suc zero) some le f = (1, record { some = some; within = le; follows = f; fewer = λ m low less g. absurd (omega arith) })
least_from value (suc (suc n)) some le f =
    elim (cases_bit (get_or value (suc (suc n) - 1) Unknown) (extension_of (get_or value (suc (suc n) - 2) Unknown))) [
      | inl extends ↦
          let less : suc (suc n) - 1 ≡ suc n = omega arith in
          least_from value (suc n) (omega arith) (omega arith) (subst (λ k. Follows value k) less (follows-less value (suc (suc n)) (omega arith) le extends f))
      | inr apart ↦ (suc (suc n), record { some = some; within = le; follows = f; fewer = λ m low less g. follows-not value (suc (suc n)) m le low less apart g })
    ]

-- a spelling that extends to a value is its front
is_front : (other value : List Bit) → Extends other value → (length other ≤ length value) × (take (length other) value ≡ other)
is_front other value e =
    let fill : List Bit = replicate (length value - length other) (extension_of (get_or other (length other - 1) Unknown)) in
    let long : length (extended other (length value)) ≡ length other + (length value - length other) = length-append other fill ∙ ap (λ n. length other + n) (length-replicate (length value - length other) (extension_of (get_or other (length other - 1) Unknown))) in
    let whole : length (extended other (length value)) ≡ length value = ap length e.whole in
    (omega arith, ap (take (length other)) (sym e.whole) ∙ take-append_seam other fill)

pub shortest-law : (value : List Bit) → 1 ≤ length value → IsShortest (shortest value) value
shortest-law value some =
    let found : (m : ℕ) × IsLeast value m = least_from value (length value) some (omega arith) (follows-all value) in
    let n : ℕ = found.0 in
    let least : IsLeast value found.0 = found.1 in
    let front : shortest value ≡ take found.0 value = shortest_is value found.0 least.some least.within least.follows least.fewer in
    let long : length (take found.0 value) ≡ found.0 = length-take-le found.0 value least.within in
    let law : IsShortest (take found.0 value) value = record {
      extends = record { some = omega (arith, least.some); whole = extended-front value found.0 least.some least.within least.follows };
      least = λ other e.
          let part = is_front other value e in
          elim (cases_lt (length other) found.0) [
            | inl less ↦ absurd (least.fewer (length other) e.some less (follows-front value (length other) e.some part.0 (ap (λ bits. extended bits (length value)) part.1 ∙ e.whole)))
            | inr more ↦ omega arith
          ];
    } in
    subst (λ bits. IsShortest bits value) (sym front) law
