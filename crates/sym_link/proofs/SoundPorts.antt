-- The ports of gates: what each takes its value from fits it.
use Rattle.std.proofs.Common.{◌≡◌, ℕ, zero, suc, ◌+◌, ◌*◌, ◌/◌, ◌%◌, ◌≤◌, Bool, true, false, not, ◌&&◌, ◌||◌, List, [], ◌∷◌, ◌++◌, length, length-append, get_or, slice_get, sum, sum_by, Option, None, Some, refl, sym, ap, subst, ◌∙◌, arith, div-add-mod', div-le_self, zero-mul, if◌then◌else◌}
use Rattle.std.proofs.lemmas.Bool.{and_from, and_parts, eq-eqb, eqb-false, eqb-true, le-leb, not-false, or_parts}
use Rattle.std.proofs.lemmas.List.Sums.{get_or-le-sum_by}
use Rattle.std.proofs.lemmas.Option.{get_or_from_slice_get, slice_get_within}
use Rattle.std.specs.Prelude.{nat_eq, nat_le}
use Rattle.std.specs.List.{list_any}
use Rattle.std.specs.Option.{option_map_or}
use Rattle.four_state.specs.declared.bits.Bit.{Bit}
use Rattle.four_state.specs.Vector.{copies}
use Rattle.vvp_forms.specs.declared.form.Gate.{Gate}
use Rattle.vvp_forms.specs.declared.form.Gate.TheVariants as gate
use Rattle.vvp_forms.specs.declared.form.Port.{Port}
use Rattle.vvp_forms.specs.declared.form.Port.TheVariants as port
use Rattle.vvp_forms.specs.Checks.{is_used as is_port}
use Rattle.vvp_forms.specs.Checks.{is_symbol}
use Rattle.vvp_ops.specs.Ranges.{IsWidth}
use Rattle.sym_link.specs.declared.placed.Placed.{Placed}
use Rattle.sym_link.specs.declared.program.Source.{Source}
use Rattle.sym_link.specs.declared.sorts.Takes.TheVariants as takes
use Rattle.sym_link.specs.declared.widths.Wanted.{Wanted}
use Rattle.sym_link.specs.declared.widths.Wanted.TheVariants as wants
use Rattle.sym_link.specs.LinkRules.{any_misfits, misfits}
use Rattle.sym_link.specs.Meaning.{fitted, items_of, source_of, sources_from}
use Rattle.sym_link.specs.Sound.{AreSources, IsSource, first_pass, is_item, is_same, is_used, pass_by_width, port_takes, ports_fit}
use Rattle.sym_link.specs.Widths.{concat_wanted, fits}
use Rattle.sym_link.proofs.OperandLemmas.{IsVector}
use Rattle.sym_link.proofs.SoundForms.{HasNumbers}
use Rattle.sym_link.proofs.SoundNamed.{named}
use Rattle.sym_link.proofs.SoundNets.{AllGiven}
use Rattle.sym_link.proofs.SoundScopes.{AllKeep}
use Rattle.sym_link.proofs.SoundSymbols.{Declared}
use Rattle.sym_link.proofs.SoundWidths.{HasValue, has-value}

-- what a used port takes is a width
abbrev pub InRange : Wanted → Type 0
InRange wants.Any = Unit {0}
InRange (wants.Exactly exact) = IsWidth exact
InRange (wants.AtMost most) = 1 ≤ most

copies-length : (n : ℕ) (bits : List Bit) → length bits ≡ 1 → length (copies n bits) ≡ n
unfolding copies
copies-length zero bits one = refl
copies-length (suc n) bits one =
    let both : length (bits ++ copies n bits) ≡ length bits + length (copies n bits) = length-append bits (copies n bits) in
    let rest : length (copies n bits) ≡ n = copies-length n bits one in
    omega (arith, both, rest, one)

-- a constant fits where it has one bit or the width
constant-fits : (want : Wanted) (bits : List Bit) → (1 ≤ length bits) × (length bits ≤ 128) → InRange want → (not (nat_eq (length bits) 1) && not (fits want (length bits))) ≡ false → IsWidth (length (fitted want bits)) × (fits want (length (fitted want bits)) ≡ true)
constant-fits wants.Any bits vector range is = ((vector.0, vector.1), refl)
constant-fits (wants.AtMost most) bits vector range is = ((vector.0, vector.1), by (nat_eq (length bits) 1) refl (nat_le (length bits) most) refl)
  where
    by : (single : Bool) → nat_eq (length bits) 1 ≡ single → (low : Bool) → nat_le (length bits) most ≡ low → nat_le (length bits) most ≡ true
    by single one true le = le
    by true one false le = let same : length bits ≡ 1 = eqb-true (length bits) 1 one in let least : length bits ≤ most = omega (arith, same, range) in le-leb (length bits) most least
    by false one false le = absurd (cc (sym is ∙ ap (λ b. not b && not (nat_le (length bits) most)) one ∙ ap (λ b. true && not b) le))
constant-fits (wants.Exactly exact) bits vector range is = by (nat_eq (length bits) 1) refl
  where
    inside : (nat_le 1 exact && nat_le exact 128) ≡ true
    inside = and_from (nat_le 1 exact) (nat_le exact 128) (le-leb 1 exact range.0) (le-leb exact 128 range.1)

    by : (single : Bool) → nat_eq (length bits) 1 ≡ single → IsWidth (length (fitted (wants.Exactly exact) bits)) × (nat_eq (length (fitted (wants.Exactly exact) bits)) exact ≡ true)
    by true one =
        let repeated : fitted (wants.Exactly exact) bits ≡ copies exact bits = ap (λ b. if b then copies exact bits else bits) (and_from (nat_eq (length bits) 1 && nat_le 1 exact) (nat_le exact 128) (and_from (nat_eq (length bits) 1) (nat_le 1 exact) one (le-leb 1 exact range.0)) (le-leb exact 128 range.1)) in
        let same : length (fitted (wants.Exactly exact) bits) ≡ exact = ap length repeated ∙ copies-length exact bits (eqb-true (length bits) 1 one) in
        (subst IsWidth (sym same) range, eq-eqb (length (fitted (wants.Exactly exact) bits)) exact same)
    by false one =
        let kept : fitted (wants.Exactly exact) bits ≡ bits = ap (λ b. if b && nat_le 1 exact && nat_le exact 128 then copies exact bits else bits) one in
        let holds : nat_eq (length bits) exact ≡ true = not-false (nat_eq (length bits) exact) (sym (ap (λ b. not b && not (nat_eq (length bits) exact)) one) ∙ is) in
        (subst (λ l. IsWidth (length l)) (sym kept) (vector.0, vector.1), ap (λ l. nat_eq (length l) exact) kept ∙ holds)

-- A port

module _ (file : List ℕ) (all : List Placed) (keep : AllKeep file all) (given : AllGiven all) (place : ℕ) where
  -- a symbol at a port is declared
  abbrev pub Uses : Port → Type 0
  Uses port.Unused = Unit {0}
  Uses (port.Sym symbol) = Declared file all place symbol takes.Signal
  Uses (port.Fixed bits) = Unit {0}

  source-is : (want : Wanted) (p : Port) → IsVector p → Uses p → (is_port p ≡ true → InRange want) → misfits file all want p ≡ false → IsSource (items_of file all) want (source_of file all want p)
  source-is want port.Unused vector uses range is = tt
  source-is want (port.Sym symbol) vector uses range is =
      let v : HasValue file all symbol = has-value file all keep given place symbol uses in
      let holds : fits want v.width ≡ true = not-false (fits want v.width) (sym (ap (λ o. option_map_or (λ width. not (fits want width)) o false) v.known) ∙ is) in
      (named file all place symbol takes.Signal uses, ap (fits want) v.is ∙ holds)
  source-is want (port.Fixed bits) vector uses range is = constant-fits want bits vector (range refl) is

  pub sources-are : (want want' : ℕ → Wanted) (number : ℕ) (ports : List Port) → ((k : ℕ) (p : Port) → slice_get ports k ≡ Some p → IsVector p) → ((k : ℕ) (p : Port) → slice_get ports k ≡ Some p → Uses p) → ((k : ℕ) (p : Port) → slice_get ports k ≡ Some p → is_port p ≡ true → InRange (want (number + k))) → ((k : ℕ) → want k ≡ want' k) → any_misfits file all want number ports ≡ false → AreSources (items_of file all) want' number (sources_from file all want number ports)
  sources-are want want' number [] vectors uses range same is = tt
  sources-are want want' number (p ∷ ports) vectors uses range same is =
      let parts = or_parts (misfits file all (want number) p) (any_misfits file all want (number + 1) ports) is in
      let here : number + 0 ≡ number = omega arith in (
        subst (λ w. IsSource (items_of file all) w (source_of file all (want number) p)) (same number)
            (source-is (want number) p (vectors 0 p refl) (uses 0 p refl) (λ there. subst (λ n. InRange (want n)) here (range 0 p refl there)) parts.0),
        sources-are want want' (number + 1) ports (λ k. vectors (suc k)) (λ k. uses (suc k))
            (λ k q at there. let later : number + suc k ≡ number + 1 + k = omega arith in subst (λ n. InRange (want n)) later (range (suc k) q at there))
            same parts.1,
      )

-- What is used

same-used : (file : List ℕ) (all : List Placed) (want : Wanted) (p : Port) → is_used (source_of file all want p) ≡ is_port p
same-used file all want port.Unused = refl
same-used file all want (port.Sym symbol) = refl
same-used file all want (port.Fixed bits) = refl

same-item : (file : List ℕ) (all : List Placed) (want : Wanted) (p : Port) → is_item (source_of file all want p) ≡ is_symbol p
same-item file all want port.Unused = refl
same-item file all want (port.Sym symbol) = refl
same-item file all want (port.Fixed bits) = refl

module _ (file : List ℕ) (all : List Placed) (want : ℕ → Wanted) (test : Source → Bool) (test' : Port → Bool) (same : (w : Wanted) (p : Port) → test (source_of file all w p) ≡ test' p) where
  any-same : (number : ℕ) (ports : List Port) → list_any test (sources_from file all want number ports) ≡ list_any test' ports
  any-same number [] = refl
  any-same number (p ∷ ports) = ap (λ b. b || list_any test (sources_from file all want (number + 1) ports)) (same (want number) p) ∙ ap (λ b. test' p || b) (any-same (number + 1) ports)

  first-same : (n number : ℕ) (ports : List Port) → first_pass test n (sources_from file all want number ports) ≡ first_pass test' n ports
  first-same n number [] = refl
  first-same zero number (p ∷ ports) = ap (λ b. not b && first_pass test 0 (sources_from file all want (number + 1) ports)) (same (want number) p) ∙ ap (λ b. not (test' p) && b) (first-same 0 (number + 1) ports)
  first-same (suc n) number (p ∷ ports) = ap (λ b. b && first_pass test n (sources_from file all want (number + 1) ports)) (same (want number) p) ∙ ap (λ b. test' p && b) (first-same n (number + 1) ports)

  width-same : (widths : List ℕ) (number : ℕ) (ports : List Port) → pass_by_width test widths (sources_from file all want number ports) ≡ pass_by_width test' widths ports
  width-same [] number [] = refl
  width-same [] number (p ∷ ports) = refl
  width-same (w ∷ widths) number [] = refl
  width-same (w ∷ widths) number (p ∷ ports) = ap (λ b. is_same b (not (nat_eq w 0)) && pass_by_width test widths (sources_from file all want (number + 1) ports)) (same (want number) p) ∙ ap (λ b. is_same (test' p) (not (nat_eq w 0)) && b) (width-same widths (number + 1) ports)

-- a gate's sources are there where its ports are
pub ports-there : (file : List ℕ) (all : List Placed) (want : ℕ → Wanted) (is : Gate) (number : ℕ) (ports : List Port) → ports_fit is_used is_item is (sources_from file all want number ports) ≡ ports_fit is_port is_symbol is ports
ports-there file all want gate.And number ports = any-same file all want is_used is_port (same-used file all) number ports
ports-there file all want gate.Or number ports = any-same file all want is_used is_port (same-used file all) number ports
ports-there file all want gate.Xor number ports = any-same file all want is_used is_port (same-used file all) number ports
ports-there file all want gate.Nand number ports = any-same file all want is_used is_port (same-used file all) number ports
ports-there file all want gate.Nor number ports = any-same file all want is_used is_port (same-used file all) number ports
ports-there file all want gate.Xnor number ports = any-same file all want is_used is_port (same-used file all) number ports
ports-there file all want gate.Buf number ports = first-same file all want is_used is_port (same-used file all) 1 number ports
ports-there file all want gate.Not number ports = first-same file all want is_used is_port (same-used file all) 1 number ports
ports-there file all want gate.Bufz number ports = first-same file all want is_used is_port (same-used file all) 1 number ports
ports-there file all want gate.Buft number ports = first-same file all want is_used is_port (same-used file all) 1 number ports
ports-there file all want (gate.Part base) number ports = first-same file all want is_used is_port (same-used file all) 1 number ports
ports-there file all want (gate.PartInto base part) number ports = first-same file all want is_used is_port (same-used file all) 1 number ports
ports-there file all want (gate.Reduce operation) number ports = first-same file all want is_used is_port (same-used file all) 1 number ports
ports-there file all want (gate.Repeat count) number ports = first-same file all want is_used is_port (same-used file all) 1 number ports
ports-there file all want gate.Extend number ports = first-same file all want is_used is_port (same-used file all) 1 number ports
ports-there file all want gate.Muxz number ports = first-same file all want is_used is_port (same-used file all) 3 number ports
ports-there file all want (gate.PartFrom signed) number ports = first-same file all want is_used is_port (same-used file all) 2 number ports
ports-there file all want (gate.Arithmetic operation) number ports = first-same file all want is_used is_port (same-used file all) 2 number ports
ports-there file all want (gate.Compare operation compared) number ports = first-same file all want is_used is_port (same-used file all) 2 number ports
ports-there file all want (gate.Shift operation) number ports = first-same file all want is_used is_port (same-used file all) 2 number ports
ports-there file all want (gate.Resolver resolution) number ports = any-same file all want is_item is_symbol (same-item file all) number ports
ports-there file all want (gate.Concat widths) number ports = width-same file all want is_used is_port (same-used file all) widths number ports

pub sources-length : (file : List ℕ) (all : List Placed) (want : ℕ → Wanted) (number : ℕ) (ports : List Port) → length (sources_from file all want number ports) ≡ length ports
sources-length file all want number [] = refl
sources-length file all want number (p ∷ ports) = ap suc (sources-length file all want (number + 1) ports)

pub any-used : (file : List ℕ) (all : List Placed) (want : ℕ → Wanted) (number : ℕ) (ports : List Port) → list_any is_used (sources_from file all want number ports) ≡ list_any is_port ports
any-used file all want number ports = any-same file all want is_used is_port (same-used file all) number ports

-- What used ports take

-- a used port of a concatenation has a width
used-width : (widths : List ℕ) (ports : List Port) (k : ℕ) (p : Port) (width : ℕ) → pass_by_width is_port widths ports ≡ true → slice_get ports k ≡ Some p → is_port p ≡ true → slice_get widths k ≡ Some width → 1 ≤ width
used-width [] [] k p width is there used at = absurd (cc)
used-width [] (q ∷ ports) k p width is there used at = absurd (cc)
used-width (w ∷ widths) [] k p width is there used at = absurd (cc)
used-width (w ∷ widths) (q ∷ ports) zero p width is there used at =
    let parts = and_parts (is_same (is_port q) (not (nat_eq w 0))) (pass_by_width is_port widths ports) is in
    let same : q ≡ p = cc in
    let wide : w ≡ width = cc in
    let some : not (nat_eq w 0) ≡ true = sym (ap (λ b. is_same b (not (nat_eq w 0))) (ap is_port same ∙ used)) ∙ parts.0 in
    let other : w ≡ 0 → ⊥ = eqb-false w 0 (not-true' (nat_eq w 0) some) in
    subst (λ n. 1 ≤ n) wide (omega (arith, other))
  where
    not-true' : (b : Bool) → not b ≡ true → b ≡ false
    not-true' true e = absurd (cc)
    not-true' false e = refl
used-width (w ∷ widths) (q ∷ ports) (suc k) p width is there used at =
    used-width widths ports k p width (and_parts (is_same (is_port q) (not (nat_eq w 0))) (pass_by_width is_port widths ports) is).1 there used at

concat-range : (widths : List ℕ) (ports : List Port) (k : ℕ) (p : Port) → sum widths ≤ 128 → pass_by_width is_port widths ports ≡ true → slice_get ports k ≡ Some p → is_port p ≡ true → InRange (concat_wanted widths k)
concat-range widths ports k p most is there used = by (slice_get widths k) refl
  where
    by : (o : Option ℕ) → slice_get widths k ≡ o → InRange (option_map_or wants.Exactly o wants.Any)
    by None at = tt
    by (Some width) at =
        let least : 1 ≤ width = used-width widths ports k p width is there used at in
        let part : get_or widths k 0 ≤ sum_by (λ x. x) widths = get_or-le-sum_by (λ x. x) widths k 0 (slice_get_within widths k width at) in
        let same : get_or widths k 0 ≡ width = get_or_from_slice_get widths k width 0 at in
        (least, omega (arith, part, same, most))

parts-least : (width count : ℕ) → 1 ≤ count → width % count ≡ 0 → 1 ≤ width → 1 ≤ width / count
parts-least width count some even wide = by (width / count) refl
  where
    by : (n : ℕ) → width / count ≡ n → 1 ≤ n
    by zero is =
        let whole : width / count * count + width % count ≡ width = div-add-mod' width count in
        let none : width / count * count ≡ 0 = ap (λ m. m * count) is ∙ zero-mul count in
        absurd (omega (arith, whole, none, even, wide))
    by (suc n) is = omega arith

parts-most : (width count : ℕ) → 1 ≤ count → width ≤ 128 → width / count ≤ 128
parts-most width count some most = let less : width / count ≤ width = div-le_self width count in omega (arith, less, most)

pub want-range : (is : Gate) (width : ℕ) (ports : List Port) (k : ℕ) (p : Port) → IsWidth width → HasNumbers is width → ports_fit is_port is_symbol is ports ≡ true → slice_get ports k ≡ Some p → is_port p ≡ true → InRange (port_takes is width k)
want-range gate.And width ports k p range numbers fit there used = range
want-range gate.Or width ports k p range numbers fit there used = range
want-range gate.Xor width ports k p range numbers fit there used = range
want-range gate.Nand width ports k p range numbers fit there used = range
want-range gate.Nor width ports k p range numbers fit there used = range
want-range gate.Xnor width ports k p range numbers fit there used = range
want-range gate.Buf width ports k p range numbers fit there used = range
want-range gate.Not width ports k p range numbers fit there used = range
want-range gate.Bufz width ports k p range numbers fit there used = range
want-range gate.Buft width ports k p range numbers fit there used = range
want-range (gate.Resolver resolution) width ports k p range numbers fit there used = range
want-range (gate.Arithmetic operation) width ports k p range numbers fit there used = range
want-range gate.Muxz width ports k p range numbers fit there used = by (nat_eq k 2)
  where
    by : (b : Bool) → IsWidth (if b then 1 else width)
    by true = (omega arith, omega arith)
    by false = range
want-range (gate.Part base) width ports k p range numbers fit there used = tt
want-range (gate.PartInto base part) width ports k p range numbers fit there used = numbers
want-range (gate.PartFrom signed) width ports k p range numbers fit there used = tt
want-range (gate.Concat widths) width ports k p range numbers fit there used = concat-range widths ports k p (subst (λ n. n ≤ 128) (sym numbers.1) range.1) fit there used
want-range (gate.Compare operation compared) width ports k p range numbers fit there used = numbers.0
want-range (gate.Shift operation) width ports k p range numbers fit there used = by (nat_eq k 0)
  where
    by : (b : Bool) → InRange (if b then wants.Exactly width else wants.Any)
    by true = range
    by false = tt
want-range (gate.Reduce operation) width ports k p range numbers fit there used = tt
want-range (gate.Repeat count) width ports k p range numbers fit there used = by (nat_eq count 0)
  where
    least : 1 ≤ width / count
    least = let some : 1 ≤ count = numbers.0 in let even : width % count ≡ 0 = numbers.1 in let wide : 1 ≤ width = range.0 in parts-least width count some even wide

    by : (b : Bool) → InRange (if b then wants.Any else wants.Exactly (width / count))
    by true = tt
    by false = (least, parts-most width count numbers.0 range.1)
want-range gate.Extend width ports k p range numbers fit there used = range.0
