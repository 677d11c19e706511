-- A vector among the arguments: what is read is spelled so, and what is spelled so is read.
use Rattle.std.proofs.Common.{◌≡◌, ℕ, ◌+◌, ◌<◌, ◌≤◌, List, [], ◌∷◌, ◌++◌, length, drop, map, reverse, Bool, true, false, ◌==◌, nat_eq, nat_lt, Option, None, Some, refl, sym, ap, ◌∙◌, subst, if◌then◌else◌, ◌⊎◌, inl, inr, eqb-true, arith}
use Rattle.std.specs.List.{prefix_len, AllPass}
use Rattle.std.specs.Prelude.{slice_index}
use Rattle.std.specs.Char.{is_ascii_digit}
use Rattle.std.proofs.Math.Seq.{take-append_seam, drop-append-add}
use Rattle.std.proofs.lemmas.Bool.{ltb-false, eq-eqb}
use Rattle.std.proofs.lemmas.Bool.Decides.{nat_tests}
use Rattle.std.proofs.lemmas.List.{get_or-append-add}
use Rattle.std.proofs.lemmas.List.Sums.{AllPass-from_list_all}
use Rattle.std.proofs.lemmas.List.Elements.{All-head, All-tail}
use Rattle.vvp_lex.specs.declared.types.Name.{Name}
use Rattle.four_state.specs.declared.bits.Bit.{Bit}
use Rattle.vvp_ops.specs.declared.args.Arg.{Arg}
use Rattle.vvp_ops.specs.declared.args.Arg.TheVariants as a
use Rattle.vvp_lex.specs.Place.{◌>>=◌}
use Rattle.vvp_ops.specs.Tokens.{decimal}
use Rattle.vvp_lex.specs.Longest.{IsBased}
use Rattle.vvp_lex.specs.Vector.{bit_of, vector_of}
use Rattle.vvp_ops.specs.Arguments.{mark_len, sized_vector, based_argument}
use Rattle.vvp_ops.specs.Spelled.{mark_of, IsVector}
use Rattle.vvp_lex.proofs.FrontLemmas.{bind-some, some_inj}
use Rattle.vvp_ops.proofs.ArgumentSpells.{if-some}

-- the bits of a vector
abbrev if_few : Bool → List ℕ → Option (List Bit)
if_few wide bits = if wide then None else Some (reverse (map bit_of bits))

abbrev AreBits : List ℕ → List Bit → Type 0
AreBits bits value = (0 < length bits) × (length bits ≤ 128) × (value ≡ reverse (map bit_of bits))

bits-sound : (bits : List ℕ) (value : List Bit) → vector_of bits ≡ Some value → AreBits bits value
unfolding vector_of
bits-sound bits value h = by (nat_eq (length bits) 0) refl h
  where
    fits : (wide : Bool) → nat_lt 128 (length bits) ≡ wide → 0 < length bits → if_few wide bits ≡ Some value → AreBits bits value
    fits true e some h = cc
    fits false e some h = (some, ltb-false _ _ e, sym (some_inj _ value h))

    by : (empty : Bool) → nat_eq (length bits) 0 ≡ empty → (if empty then None else if_few (nat_lt 128 (length bits)) bits) ≡ Some value → AreBits bits value
    by true e h = cc
    by false e h = fits (nat_lt 128 (length bits)) refl (grind (arith, nat_tests)) h

bits-complete : (bits : List ℕ) (value : List Bit) → AreBits bits value → vector_of bits ≡ Some value
unfolding vector_of
bits-complete bits value is =
    let some : 0 < length bits = is.0 in
    let fits : length bits ≤ 128 = is.1 in
    let not_none : nat_eq (length bits) 0 ≡ false = grind (arith, nat_tests) in
    let not_wide : nat_lt 128 (length bits) ≡ false = grind (arith, nat_tests) in
    rw (not_none, not_wide) (ap Some (sym is.2))

-- the bits after a size and a mark
abbrev bits_after : List ℕ → List ℕ → Bool → Option (Arg Name)
bits_after size bits signed =
    vector_of bits >>= λ value. if decimal size == length bits then Some (a.Based value signed) else None

-- the size, and what stands after it
abbrev vector_after : List ℕ → List ℕ → Bool → Option (Arg Name)
vector_after size rest signed = bits_after size (drop (mark_len signed) rest) signed

split : (size rest : List ℕ) → prefix_len is_ascii_digit (size ++ rest) ≡ length size → based_argument (size ++ rest) ≡ vector_after size rest (slice_index rest 1 == 115)
unfolding based_argument sized_vector
split size rest count =
    let second : slice_index (size ++ rest) (length size + 1) ≡ slice_index rest 1 = get_or-append-add size rest 1 0 in
    rw (count, second, drop-append-add size rest (mark_len (slice_index rest 1 == 115)), take-append_seam size rest) refl

-- where no digit follows, the digits at the front are counted
prefix-whole : (p : ℕ → Bool) (size more : List ℕ) (first : ℕ) → AllPass p size → p first ≡ false → prefix_len p (size ++ first ∷ more) ≡ length size
prefix-whole p [] more first all fails = rw fails refl
prefix-whole p (x ∷ size) more first all fails =
    let passes : p x ≡ true = All-head (λ y. p y ≡ true) x size all in
    let later = prefix-whole p size more first (All-tail (λ y. p y ≡ true) x size all) fails in
    rw passes (omega (arith, later))

same_value : (v value : List Bit) (s signed : Bool) → ◌≡◌ {A = Arg Name} (a.Based v s) (a.Based value signed) → (v ≡ value) × (s ≡ signed)
same_value v value s signed h = (cc, cc)

-- what is read after the size and the mark is a vector
after-sound : (size bits : List ℕ) (value : List Bit) (signed test : Bool) → AllPass is_ascii_digit size → bits_after size bits test ≡ Some (a.Based value signed) → IsVector (size ++ (mark_of test ++ bits)) value signed
after-sound size bits value signed test digits h =
    let read = bind-some (vector_of bits) _ (a.Based value signed) h in
    let last = if-some (decimal size == length bits) (a.Based read.0 test) (a.Based value signed) read.2 in
    let same = same_value read.0 value test signed last.1 in
    let found = bits-sound bits read.0 read.1 in
    subst (λ s. IsVector (size ++ (mark_of test ++ bits)) value s) same.1 (record {
      size = size;
      bits = bits;
      is = refl;
      digits = digits;
      some = found.0;
      few = found.1;
      counted = eqb-true _ _ last.0;
      means = sym same.0 ∙ found.2;
    })

marked-sound : (text size bits : List ℕ) (value : List Bit) (signed test : Bool) → text ≡ size ++ (mark_of test ++ bits) → AllPass is_ascii_digit size → based_argument text ≡ Some (a.Based value signed) → IsVector text value signed
marked-sound text size bits value signed false is digits h =
    let count = prefix-whole is_ascii_digit size (98 ∷ bits) 39 digits refl in
    let read = sym (split size (39 ∷ 98 ∷ bits) count) ∙ ap based_argument (sym is) ∙ h in
    subst (λ (t : List ℕ). IsVector t value signed) (sym is) (after-sound size bits value signed false digits read)
marked-sound text size bits value signed true is digits h =
    let count = prefix-whole is_ascii_digit size (115 ∷ 98 ∷ bits) 39 digits refl in
    let read = sym (split size (39 ∷ 115 ∷ 98 ∷ bits) count) ∙ ap based_argument (sym is) ∙ h in
    subst (λ (t : List ℕ). IsVector t value signed) (sym is) (after-sound size bits value signed true digits read)

-- what is read of a Based is spelled so
pub vector-sound : (text : List ℕ) (value : List Bit) (signed : Bool) → IsBased text → based_argument text ≡ Some (a.Based value signed) → IsVector text value signed
vector-sound text value signed b h = by b.signed
  where
    digits : AllPass is_ascii_digit b.size
    digits = AllPass-from_list_all is_ascii_digit b.size b.digits

    by : (b.sign ≡ []) ⊎ (b.sign ≡ 115 ∷ []) → IsVector text value signed
    by (inl none) =
        marked-sound text b.size b.bits value signed false (b.whole ∙ ap (λ (s : List ℕ). b.size ++ (39 ∷ (s ++ (98 ∷ b.bits)))) none) digits h
    by (inr one) =
        marked-sound text b.size b.bits value signed true (b.whole ∙ ap (λ (s : List ℕ). b.size ++ (39 ∷ (s ++ (98 ∷ b.bits)))) one) digits h

-- a vector that is spelled so is read
pub vector-complete : (text : List ℕ) (value : List Bit) (signed : Bool) → IsVector text value signed → based_argument text ≡ Some (a.Based value signed)
vector-complete text value false s =
    let count = prefix-whole is_ascii_digit s.size (98 ∷ s.bits) 39 s.digits refl in
    let bits = bits-complete s.bits value (s.some, s.few, s.means) in
    let counted : (decimal s.size == length s.bits) ≡ true = eq-eqb _ _ s.counted in
    ap based_argument s.is ∙ split s.size (39 ∷ 98 ∷ s.bits) count ∙ rw (bits, counted) refl
vector-complete text value true s =
    let count = prefix-whole is_ascii_digit s.size (115 ∷ 98 ∷ s.bits) 39 s.digits refl in
    let bits = bits-complete s.bits value (s.some, s.few, s.means) in
    let counted : (decimal s.size == length s.bits) ≡ true = eq-eqb _ _ s.counted in
    ap based_argument s.is ∙ split s.size (39 ∷ 115 ∷ 98 ∷ s.bits) count ∙ rw (bits, counted) refl
