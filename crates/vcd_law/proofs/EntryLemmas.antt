-- The line of a value is an entry that says this value.
use Rattle.std.proofs.Common.{◌≡◌, ℕ, ◌+◌, ◌-◌, ◌≤◌, true, ◌&&◌, inl, inr, List, [], ◌∷◌, ◌++◌, length, map, reverse, replicate, refl, sym, ap, ◌∙◌, arith, Some, slice_get, length-append}
use Rattle.std.specs.List.{list_all}
use Rattle.std.proofs.lemmas.List.{reverse-reverse}
use Rattle.std.proofs.lemmas.Simd.{length-replicate}
use Rattle.four_state.specs.declared.bits.Bit.{Bit}
use Rattle.four_state.specs.declared.bits.Bit.TheVariants.{Zero, One, Unknown, HighZ}
use Rattle.four_state.specs.Vector.{top_bit}
use Rattle.vvp_lex.specs.Token.{is_bit}
use Rattle.vcd_write.proofs.LineLemmas.{length-spelled}
use Rattle.vcd_law.proofs.Known.{Header, Body}
use Rattle.vvp_lex.specs.Vector.{bit_of}
use Rattle.vcd_read.specs.Parts.{net_of, bits_of, extended}
use Rattle.vcd_read.specs.Parts as reader
use Rattle.vcd_read.specs.Grammar.{IsScalar, IsVector, IsEntry, changed}
use Rattle.vcd_write.specs.Value.{bit_code, spelled, IsShortest, extension_of}

written-bit : (bit : Bit) → bit_of (bit_code bit) ≡ bit
written-bit Zero = refl
written-bit One = refl
written-bit Unknown = refl
written-bit HighZ = refl

is-written : (bit : Bit) → is_bit (bit_code bit) ≡ true
is-written Zero = refl
is-written One = refl
is-written Unknown = refl
is-written HighZ = refl

map-written : (bits : List Bit) → map bit_of (map bit_code bits) ≡ bits
map-written [] = refl
map-written (bit ∷ bits) = ap (λ b. b ∷ map bit_of (map bit_code bits)) (written-bit bit) ∙ ap (λ bs. bit ∷ bs) (map-written bits)

-- bits that are written and read are the same
read-back : (bits : List Bit) → bits_of (spelled bits) ≡ bits
read-back bits = ap reverse (map-written (reverse bits)) ∙ reverse-reverse bits

all-written : (bits : List Bit) → list_all is_bit (map bit_code bits) ≡ true
all-written [] = refl
all-written (bit ∷ bits) = ap (λ b. b && list_all is_bit (map bit_code bits)) (is-written bit) ∙ all-written bits

pub scalar-entry : (header : Header) (body : Body) (bit : Bit) (code : List ℕ) (net : ℕ) → 1 ≤ length code → net_of header.nets code ≡ Some net → slice_get header.widths net ≡ Some 1
    → IsEntry header ((bit_code bit ∷ code) ∷ []) body (changed body net (bit ∷ []))
scalar-entry header body bit code net some names width =
    let entry : IsScalar header ((bit_code bit ∷ code) ∷ []) body (changed body net (bit ∷ [])) = record {
      bit = bit_code bit;
      code = code;
      net = net;
      spelled = refl;
      some = some;
      writes = is-written bit;
      names = names;
      width = width;
      says = ap (λ b. changed body net (b ∷ [])) (sym (written-bit bit));
    } in
    inr (inr (inr (inr (inl entry))))

-- the reader extends a value as the writer's shortest spelling is extended
extended-same : (bits : List Bit) (width : ℕ) → extended bits width ≡ bits ++ replicate (width - length bits) (extension_of (top_bit bits))
unfolding extended
extended-same bits width = ap (λ bit. bits ++ replicate (width - length bits) bit) (by_bit (top_bit bits))
  where
    by_bit : (bit : Bit) → reader.extension_of bit ≡ extension_of bit
    by_bit Zero = refl
    by_bit One = refl
    by_bit Unknown = refl
    by_bit HighZ = refl

pub vector-entry : (header : Header) (body : Body) (value spelling : List Bit) (code : List ℕ) (net : ℕ) → IsShortest spelling value → length value ≤ 128 → net_of header.nets code ≡ Some net → slice_get header.widths net ≡ Some (length value)
    → IsEntry header ((98 ∷ spelled spelling) ∷ code ∷ []) body (changed body net value)
vector-entry header body value spelling code net shortest most names width =
    let whole : spelling ++ replicate (length value - length spelling) (extension_of (top_bit spelling)) ≡ value = shortest.extends.whole in
    let long : length spelling + (length value - length spelling) ≡ length value =
    sym (length-append spelling (replicate (length value - length spelling) (extension_of (top_bit spelling))) ∙ ap (λ n. length spelling + n) (length-replicate (length value - length spelling) (extension_of (top_bit spelling)))) ∙ ap length whole in
    let as_long = length-spelled spelling in
    let entry : IsVector header ((98 ∷ spelled spelling) ∷ code ∷ []) body (changed body net value) = record {
      letter = 98;
      bits = spelled spelling;
      code = code;
      net = net;
      width = length value;
      spelled = refl;
      begins = inl refl;
      some = omega (arith, as_long, shortest.extends.some);
      few = omega (arith, as_long, long);
      all_bits = all-written (reverse spelling);
      names = names;
      has_width = width;
      fits = omega (arith, as_long, long);
      says = ap (changed body net) (sym (ap (λ bits. extended bits (length value)) (read-back spelling) ∙ extended-same spelling (length value) ∙ whole));
    } in
    inr (inr (inr (inr (inr entry))))
