-- Bits that are driven as a variable drives them.
use Rattle.std.proofs.Common.{◌≡◌, ℕ, Bool, true, false, ◌&&◌, Option, Some, None, List, [], ◌∷◌, length, map, refl, sym, ap, ◌∙◌}
use Rattle.std.proofs.lemmas.List.{length-map}
use Rattle.std.specs.Option.{option_map}
use Rattle.std.specs.Cmp.Lexicographic.{pointwise, pointwise_decides}
use Rattle.four_state.specs.declared.bits.Bit.{Bit}
use Rattle.four_state.specs.declared.bits.Bit.TheVariants.{Zero, One, Unknown, HighZ}
use Rattle.four_state.specs.Bit.{and_bit, or_bit, xor_bit, not_bit}
use Rattle.four_state.specs.Same.{same_bit, same_bit-Decides}
use Rattle.strengths.specs.Interval.{Interval}
use Rattle.strengths.specs.Level.{driven, seen_bit}
use Rattle.vvp_forms.specs.declared.form.Gate.{Gate}
use Rattle.vvp_forms.specs.declared.form.Gate.TheVariants as gate
use Rattle.gate_rules.specs.Ports.{there, vector_at, seen_ports, driven_ports, widths}
use Rattle.gate_rules.specs.Rows.{folded, buffered_bit, selected, arithmetic_of, comparison, shifted, reduced}
use Rattle.gate_rules.specs.Output.{output, lowest}
use Rattle.gate_rules.specs.Strong.{looks, keeps_strong}
use Rattle.net_engine.specs.Net.{seen, strongly}
use Rattle.net_engine.specs.Delivery.{same_level, same_levels}

seen-driven_bit : (bit : Bit) → seen_bit (driven 6 6 bit) ≡ bit
seen-driven_bit Zero = refl
seen-driven_bit One = refl
seen-driven_bit Unknown = refl
seen-driven_bit HighZ = refl

-- bits that are driven strongly are seen again
pub seen-driven : (bits : List Bit) → seen (strongly bits) ≡ bits
seen-driven [] = refl
seen-driven (bit ∷ bits) = ap (λ b. b ∷ seen (strongly bits)) (seen-driven_bit bit) ∙ ap (λ rest. bit ∷ rest) (seen-driven bits)

seen_ports-driven : (ports : List (Option (List Bit))) → seen_ports (driven_ports 6 6 ports) ≡ ports
seen_ports-driven [] = refl
seen_ports-driven (None ∷ ports) = ap (λ rest. None ∷ rest) (seen_ports-driven ports)
seen_ports-driven (Some bits ∷ ports) = ap (λ b. Some b ∷ seen_ports (driven_ports 6 6 ports)) (seen-driven bits) ∙ ap (λ rest. Some bits ∷ rest) (seen_ports-driven ports)

pub widths-seen : (ports : List (Option (List Interval))) → widths (seen_ports ports) ≡ widths ports
widths-seen [] = refl
widths-seen (None ∷ ports) = ap (λ rest. None ∷ rest) (widths-seen ports)
widths-seen (Some levels ∷ ports) = ap (λ n. Some n ∷ widths (seen_ports ports)) (length-map levels seen_bit) ∙ ap (λ rest. Some (length levels) ∷ rest) (widths-seen ports)

-- ---- the same levels

level-same : (a b : Bit) → same_level (driven 6 6 a) (driven 6 6 b) ≡ same_bit a b
level-same Zero Zero = refl
level-same Zero One = refl
level-same Zero Unknown = refl
level-same Zero HighZ = refl
level-same One Zero = refl
level-same One One = refl
level-same One Unknown = refl
level-same One HighZ = refl
level-same Unknown Zero = refl
level-same Unknown One = refl
level-same Unknown Unknown = refl
level-same Unknown HighZ = refl
level-same HighZ Zero = refl
level-same HighZ One = refl
level-same HighZ Unknown = refl
level-same HighZ HighZ = refl

-- bits that are driven strongly have the same levels where they are the same
pub levels-same : (xs ys : List Bit) → same_levels (strongly xs) (strongly ys) ≡ pointwise same_bit xs ys
levels-same [] [] = refl
levels-same [] (y ∷ ys) = refl
levels-same (x ∷ xs) [] = refl
levels-same (x ∷ xs) (y ∷ ys) = ap (λ b. b && same_levels (strongly xs) (strongly ys)) (level-same x y) ∙ ap (λ b. same_bit x y && b) (levels-same xs ys)

-- by a test of equality
pub same-by : (equal : Bool) (xs ys : List Bit) → (equal ≡ true → xs ≡ ys) → (xs ≡ ys → equal ≡ true) → same_levels (strongly xs) (strongly ys) ≡ equal
same-by true xs ys to from = levels-same xs ys ∙ (pointwise_decides same_bit-Decides xs ys).1 (to refl)
same-by false xs ys to from = levels-same xs ys ∙ never (pointwise same_bit xs ys) (pointwise_decides same_bit-Decides xs ys).0 where
  never : (b : Bool) → (b ≡ true → xs ≡ ys) → b ≡ false
  never true is = let same : false ≡ true = from (is refl) in cc
  never false is = refl

-- ---- gates that look at bits

-- such a gate gives the same for ports that are seen the same
looks-seen : (kind : Gate) (width s0 s1 : ℕ) (a b : List (Option (List Interval))) → looks kind ≡ true → seen_ports a ≡ seen_ports b → output kind width s0 s1 a ≡ output kind width s0 s1 b
unfolding output
looks-seen gate.And width s0 s1 a b is same = ap (λ (p : List (Option (List Bit))). map (driven s0 s1) (folded and_bit One width (there p))) same
looks-seen gate.Or width s0 s1 a b is same = ap (λ (p : List (Option (List Bit))). map (driven s0 s1) (folded or_bit Zero width (there p))) same
looks-seen gate.Xor width s0 s1 a b is same = ap (λ (p : List (Option (List Bit))). map (driven s0 s1) (folded xor_bit Zero width (there p))) same
looks-seen gate.Nand width s0 s1 a b is same = ap (λ (p : List (Option (List Bit))). map (driven s0 s1) (map not_bit (folded and_bit One width (there p)))) same
looks-seen gate.Nor width s0 s1 a b is same = ap (λ (p : List (Option (List Bit))). map (driven s0 s1) (map not_bit (folded or_bit Zero width (there p)))) same
looks-seen gate.Xnor width s0 s1 a b is same = ap (λ (p : List (Option (List Bit))). map (driven s0 s1) (map not_bit (folded xor_bit Zero width (there p)))) same
looks-seen gate.Buf width s0 s1 a b is same = ap (λ (p : List (Option (List Bit))). map (driven s0 s1) (map buffered_bit (vector_at p 0))) same
looks-seen gate.Not width s0 s1 a b is same = ap (λ (p : List (Option (List Bit))). map (driven s0 s1) (map not_bit (vector_at p 0))) same
looks-seen gate.Bufz width s0 s1 a b is same = ap (λ (p : List (Option (List Bit))). map (driven s0 s1) (vector_at p 0)) same
looks-seen gate.Muxz width s0 s1 a b is same = ap (λ (p : List (Option (List Bit))). map (driven s0 s1) (selected (lowest (vector_at p 2)) (vector_at p 0) (vector_at p 1))) same
looks-seen gate.Buft width s0 s1 a b is same = cc
looks-seen (gate.Resolver kind) width s0 s1 a b is same = cc
looks-seen (gate.Part base) width s0 s1 a b is same = cc
looks-seen (gate.PartInto base bits) width s0 s1 a b is same = cc
looks-seen (gate.PartFrom sign) width s0 s1 a b is same = cc
looks-seen (gate.Concat list) width s0 s1 a b is same = cc
looks-seen (gate.Repeat count) width s0 s1 a b is same = cc
looks-seen gate.Extend width s0 s1 a b is same = cc
looks-seen (gate.Arithmetic kind) width s0 s1 a b is same = ap (λ (p : List (Option (List Bit))). map (driven 6 6) (arithmetic_of kind (vector_at p 0) (vector_at p 1))) same
looks-seen (gate.Compare kind bits) width s0 s1 a b is same = ap (λ (p : List (Option (List Bit))). map (driven 6 6) (comparison kind (vector_at p 0) (vector_at p 1) ∷ [])) same
looks-seen (gate.Shift kind) width s0 s1 a b is same = ap (λ (p : List (Option (List Bit))). map (driven 6 6) (shifted kind (vector_at p 0) (vector_at p 1))) same
looks-seen (gate.Reduce kind) width s0 s1 a b is same = ap (λ (p : List (Option (List Bit))). map (driven 6 6) (reduced kind (vector_at p 0) ∷ [])) same

-- what it gives, by the bits at its ports
pub looks-output : (kind : Gate) (width s0 s1 : ℕ) (levels : List (Option (List Interval))) (bits : List (Option (List Bit))) (result : List Bit) → looks kind ≡ true → bits ≡ seen_ports levels
    → output kind width s0 s1 (driven_ports 6 6 bits) ≡ map (driven 6 6) result → strongly result ≡ output kind width s0 s1 levels
looks-output kind width s0 s1 levels bits result is shown gives =
    sym gives ∙ looks-seen kind width s0 s1 (driven_ports 6 6 bits) levels is (seen_ports-driven bits ∙ shown)

-- ---- what is driven strongly

-- a constant is
pub strong-fixed : (bits : List Bit) → option_map strongly (option_map seen (Some (strongly bits))) ≡ Some (strongly bits)
strong-fixed bits = ap (λ (b : List Bit). Some (strongly b)) (seen-driven bits)

-- a gate that keeps strong bits strong with some strengths does with the strengths 6 and 6
pub strong-at_six : (kind : Gate) (s0 s1 : ℕ) → keeps_strong kind s0 s1 ≡ true → keeps_strong kind 6 6 ≡ true
strong-at_six gate.And s0 s1 is = refl
strong-at_six gate.Or s0 s1 is = refl
strong-at_six gate.Xor s0 s1 is = refl
strong-at_six gate.Nand s0 s1 is = refl
strong-at_six gate.Nor s0 s1 is = refl
strong-at_six gate.Xnor s0 s1 is = refl
strong-at_six gate.Buf s0 s1 is = refl
strong-at_six gate.Not s0 s1 is = refl
strong-at_six gate.Bufz s0 s1 is = refl
strong-at_six gate.Muxz s0 s1 is = refl
strong-at_six gate.Buft s0 s1 is = refl
strong-at_six (gate.Resolver kind) s0 s1 is = is
strong-at_six (gate.Part base) s0 s1 is = refl
strong-at_six (gate.PartInto base bits) s0 s1 is = refl
strong-at_six (gate.PartFrom sign) s0 s1 is = refl
strong-at_six (gate.Concat list) s0 s1 is = refl
strong-at_six (gate.Repeat count) s0 s1 is = refl
strong-at_six gate.Extend s0 s1 is = refl
strong-at_six (gate.Arithmetic kind) s0 s1 is = refl
strong-at_six (gate.Compare kind bits) s0 s1 is = refl
strong-at_six (gate.Shift kind) s0 s1 is = refl
strong-at_six (gate.Reduce kind) s0 s1 is = refl
