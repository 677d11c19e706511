-- Bits and lines that were written, one after another.
use Rattle.std.proofs.Common.{◌≡◌, ◌≢◌, ℕ, zero, suc, ◌+◌, ◌-◌, ◌<◌, ◌≤◌, List, [], ◌∷◌, ◌++◌, length, get_or, take, map, reverse, Some, refl, sym, ap, ◌∙◌, arith, slice_get, set, inl, inr, append_assoc, append-nil, add-zero, add-one, zero-add, true, false, eqb, codes}
use Rattle.std.specs.List.{range_with_len}
use Rattle.std.proofs.Math.Seq.{take-length}
use Rattle.std.proofs.lemmas.Bool.{cases_eq, eq-eqb}
use Rattle.std.proofs.lemmas.Bool.Decides.{nat_tests}
use Rattle.std.proofs.lemmas.List.Concat.{flat_map-append}
use Rattle.std.proofs.lemmas.List.{take_more, length-map, get_or-map, length-reverse, get_or-reverse, get_or-take, length-take-le, get_or-set_same, get_or-set_other, get_or_default, same_lists}
use Rattle.std.proofs.lemmas.Option.{get_or_from_slice_get}
use Rattle.four_state.specs.declared.bits.Bit.{Bit}
use Rattle.four_state.specs.declared.bits.Bit.TheVariants.{Unknown}
use Rattle.vcd_write.specs.declared.types.Section.{Section}
use Rattle.vcd_write.specs.Value.{bit_code, spelled, shortest, spelling_text, value_line}
use Rattle.vcd_write.specs.Section.{shown_value, lines_of}

pub length-spelled : (bits : List Bit) → length (spelled bits) ≡ length bits
length-spelled bits = length-map (reverse bits) bit_code ∙ length-reverse bits

-- the character number `done` of so many lowest places
pub spelled-read : (value : List Bit) (count done : ℕ) (bit : Bit) → count ≤ length value → done < count → slice_get value (count - 1 - done) ≡ Some bit → get_or (spelled (take count value)) done 0 ≡ bit_code bit
spelled-read value count done bit le h e =
    let long : length (take count value) ≡ count = length-take-le count value le in
    let within : done < length (reverse (take count value)) = omega (arith, length-reverse (take count value)) in
    get_or-map bit_code (reverse (take count value)) done Unknown 0 within
    ∙ ap bit_code
    (get_or-reverse (take count value) done Unknown (omega arith)
    ∙ (ap (λ n. get_or (take count value) (n - 1 - done) Unknown) long
    ∙ (get_or-take count value (count - 1 - done) Unknown (omega arith) ∙ get_or_from_slice_get value (count - 1 - done) bit Unknown e)))

-- bytes written one after another into room
pub put-more : (room whole : List ℕ) (done byte : ℕ) → done < length room → ((k : ℕ) → k < done → get_or room k 0 ≡ get_or whole k 0) → byte ≡ get_or whole done 0
    → (k : ℕ) → k < done + 1 → get_or (set room done byte) k 0 ≡ get_or whole k 0
put-more room whole done byte within below here k h =
    elim (cases_eq k done) [
      | inl e ↦ rw (e, get_or-set_same room done byte 0 within) here
      | inr n ↦ rw (get_or-set_other room done k byte 0 n) (below k (omega (arith, n)))
    ]

pub put-all : (room whole : List ℕ) (count : ℕ) → count ≤ length room → length whole ≡ count → ((k : ℕ) → k < count → get_or room k 0 ≡ get_or whole k 0) → take count room ≡ whole
put-all room whole count fits long each =
    let taken : length (take count room) ≡ count = length-take-le count room fits in
    same_lists (take count room) whole (taken ∙ sym long)
    (λ k d h.
    let within : k < count = omega arith in
    get_or-take count room k d within ∙ (get_or_default room k d 0 (omega arith) ∙ (each k within ∙ get_or_default whole k 0 d (omega arith))))

take_whole : {X : Type 0} (xs : List X) (n : ℕ) → length xs ≡ n → take n xs ≡ xs
take_whole xs n e = ap (λ k. take k xs) (sym e) ∙ take-length xs

-- what stands before the code
pub spelling-bit : (value : List Bit) → length value ≡ 1 → spelled (take 1 value) ≡ spelling_text value
unfolding spelling_text
spelling-bit value e =
    let whole : take 1 value ≡ value = take_whole value 1 e in
    let test : eqb (length value) 1 ≡ true = eq-eqb (length value) 1 e in
    rw (whole, test) refl

pub spelling-vector : (value : List Bit) → length value ≢ 1 → codes "b" ++ (spelled (shortest value) ++ codes " ") ≡ spelling_text value
unfolding spelling_text
spelling-vector value ne =
    let test : eqb (length value) 1 ≡ false = grind (arith, nat_tests) in
    rw test refl

-- ---- lines
range-more : (from n : ℕ) → range_with_len from (suc n) ≡ range_with_len from n ++ (from + n) ∷ []
range-more from zero = rw add-zero refl
range-more from (suc n) =
    let next : from + 1 + n ≡ from + suc n = omega arith in
    ap (λ xs. from ∷ xs) (range-more (from + 1) n ∙ ap (λ k. range_with_len (from + 1) n ++ k ∷ []) next)

pub lines-append : (values : List (List Bit)) (places : List ℕ) (place : ℕ) → lines_of values (places ++ place ∷ []) ≡ lines_of values places ++ value_line place (get_or values place [])
unfolding lines_of
lines-append values places place = flat_map-append (λ p. value_line p (get_or values p [])) places (place ∷ []) ∙ ap (λ t. lines_of values places ++ t) (append-nil (value_line place (get_or values place [])))

pub lines-none : (values : List (List Bit)) → lines_of values [] ≡ []
unfolding lines_of
lines-none values = refl

-- one item more, of those from the first on
pub lines-next : (values : List (List Bit)) (k : ℕ) (value : List Bit) (old out new : List ℕ) → out ≡ old ++ lines_of values (range_with_len 0 k) → new ≡ out ++ value_line k value → get_or values k [] ≡ value → new ≡ old ++ lines_of values (range_with_len 0 (k + 1))
lines-next values k value old out new eo en ev =
    let more : range_with_len 0 (k + 1) ≡ range_with_len 0 k ++ k ∷ [] = rw (add-one k) (range-more 0 k ∙ ap (λ n. range_with_len 0 k ++ n ∷ []) (zero-add k)) in
    en ∙ (ap (λ t. t ++ value_line k value) eo ∙ (append_assoc old (lines_of values (range_with_len 0 k)) (value_line k value)
    ∙ ap (λ t. old ++ t) (ap (λ v. lines_of values (range_with_len 0 k) ++ value_line k v) (sym ev) ∙ (sym (lines-append values (range_with_len 0 k) k) ∙ ap (lines_of values) (sym more)))))

-- one item more, of those in a list
pub lines-further : (values : List (List Bit)) (places : List ℕ) (i place : ℕ) (value : List Bit) (old out new : List ℕ) → i < length places → place ≡ get_or places i 0 → out ≡ old ++ lines_of values (take i places) → new ≡ out ++ value_line place value → get_or values place [] ≡ value → new ≡ old ++ lines_of values (take (i + 1) places)
lines-further values places i place value old out new h ep eo en ev =
    let more : take (i + 1) places ≡ take i places ++ place ∷ [] = take_more places i 0 h ∙ ap (λ n. take i places ++ n ∷ []) (sym ep) in
    en ∙ (ap (λ t. t ++ value_line place value) eo ∙ (append_assoc old (lines_of values (take i places)) (value_line place value)
    ∙ ap (λ t. old ++ t) (ap (λ v. lines_of values (take i places) ++ value_line place v) (sym ev) ∙ (sym (lines-append values (take i places) place) ∙ ap (lines_of values) (sym more)))))

pub shown-read : (kind : Section) (values : List (List Bit)) (k : ℕ) (value : List Bit) → slice_get values k ≡ Some value → k < length values → get_or (map (shown_value kind) values) k [] ≡ shown_value kind value
shown-read kind values k value e h = get_or-map (shown_value kind) values k [] [] h ∙ ap (shown_value kind) (get_or_from_slice_get values k value [] e)
