-- The parts of a body say what the grammar says.
use Rattle.std.proofs.Common.{◌≡◌, ℕ, zero, suc, ◌+◌, ◌<◌, ◌≤◌, Bool, true, false, List, [], ◌∷◌, ◌++◌, length, map, get_or, refl, sym, ap, subst, ◌∙◌, arith, codes, Some, slice_get}
use Rattle.std.specs.Prelude.{All, option_map}
use Rattle.std.specs.List.{range_with_len}
use Rattle.std.proofs.lemmas.List.{length-map, length-replicate}
use Rattle.std.proofs.lemmas.List.Elements.{All-head, All-tail}
use Rattle.std.proofs.lemmas.Option.{slice_get-map, slice_get-get_or}
use Rattle.four_state.specs.declared.bits.Bit.{Bit}
use Rattle.four_state.specs.declared.bits.Bit.TheVariants.{Unknown}
use Rattle.vcd_write.specs.declared.types.DumpItem.{DumpItem}
use Rattle.vcd_write.specs.declared.types.Section.{Section}
use Rattle.vcd_write.specs.declared.types.Section.TheVariants as section
use Rattle.vcd_write.specs.Header.{size}
use Rattle.vcd_write.specs.Value.{value_line}
use Rattle.vcd_write.specs.Section.{section_word, section_text, shown_value, lines_of, time_text}
use Rattle.vcd_law.specs.Own.{Part, Time, Values, Lines, AreParts, parts_text}
use Rattle.vcd_law.proofs.Known.{Header}
use Rattle.vcd_law.proofs.SaidLemmas.{IsNet, IsSaid, said-none, said-append, said-time, said-opens, said-closes, said-value}

-- the nets of a header have the codes of items of these sizes
pub record HasNets (header : Header) (sizes : List ℕ) : Type 0 where
  pub least : (k width : ℕ) → slice_get sizes k ≡ Some width → 1 ≤ width
  pub most : (k width : ℕ) → slice_get sizes k ≡ Some width → width ≤ 128
  pub nets : (k width : ℕ) → slice_get sizes k ≡ Some width → IsNet header k width

shown-length : (kind : Section) (value : List Bit) → length (shown_value kind value) ≡ length value
shown-length section.Vars value = refl
shown-length section.Off value = length-replicate (length value) Unknown
shown-length section.On value = refl
shown-length section.All value = refl

shown-lengths : (kind : Section) (values : List (List Bit)) → map length (map (shown_value kind) values) ≡ map length values
shown-lengths kind [] = refl
shown-lengths kind (value ∷ values) = ap (λ n. n ∷ map length (map (shown_value kind) values)) (shown-length kind value) ∙ ap (λ ns. length value ∷ ns) (shown-lengths kind values)

module _ (header : Header) (sizes : List ℕ) (has : HasNets header sizes) (values : List (List Bit)) (as_wide : map length values ≡ sizes) (now : ℕ) (inside : Bool) where
  as-many : length values ≡ length sizes
  as-many = sym (length-map values length) ∙ ap length as_wide

  width-at : (place : ℕ) → place < length sizes → slice_get sizes place ≡ Some (length (get_or values place []))
  width-at place h =
      let there : slice_get values place ≡ Some (get_or values place []) = slice_get-get_or values place [] (omega (arith, h, as-many)) in
      ap (λ ns. slice_get ns place) (sym as_wide) ∙ slice_get-map length values place ∙ ap (option_map length) there

  line-said : (place : ℕ) → place < length sizes → IsSaid header (value_line place (get_or values place [])) now inside now inside
  line-said place h =
      let width = width-at place h in
      said-value header place (get_or values place []) now inside (has.least place (length (get_or values place [])) width) (has.most place (length (get_or values place [])) width) (has.nets place (length (get_or values place [])) width)

  pub lines-said : (places : List ℕ) → All (λ place. place < length sizes) places → IsSaid header (lines_of values places) now inside now inside
  unfolding lines_of
  lines-said [] all = said-none header now inside
  lines-said (place ∷ places) all =
      said-append header (value_line place (get_or values place [])) (lines_of values places) now inside now inside now inside
      (line-said place (All-head (λ place. place < length sizes) place places all)) (lines-said places (All-tail (λ place. place < length sizes) place places all))

  pub range-said : (from count : ℕ) → from + count ≤ length sizes → IsSaid header (lines_of values (range_with_len from count)) now inside now inside
  unfolding lines_of
  range-said from zero h = said-none header now inside
  range-said from (suc count) h =
      said-append header (value_line from (get_or values from [])) (lines_of values (range_with_len (from + 1) count)) now inside now inside now inside
      (line-said from (omega (arith, h))) (range-said (from + 1) count (omega (arith, h)))

pub section-said : (header : Header) (sizes : List ℕ) → HasNets header sizes → (kind : Section) (values : List (List Bit)) → map length values ≡ sizes → (now : ℕ) → IsSaid header (section_text kind values) now false now false
unfolding section_text
section-said header sizes has kind values as_wide now =
    let shown : List (List Bit) = map (shown_value kind) values in
    let wide : map length shown ≡ sizes = shown-lengths kind values ∙ as_wide in
    let many : length values ≡ length sizes = sym (length-map values length) ∙ ap length as_wide in
    let lines = range-said header sizes has shown wide now true 0 (length values) (omega (arith, many)) in
    said-append header (section_word kind) (lines_of shown (range_with_len 0 (length values)) ++ codes "$end\n") now false now true now false
    (said-opens header kind now)
    (said-append header (lines_of shown (range_with_len 0 (length values))) (codes "$end\n") now true now true now false lines (said-closes header now))

-- what all parts say, and the time after them
pub record IsBody (header : Header) (text : List ℕ) (now : ℕ) : Type 0 where
  pub later : ℕ
  pub says : IsSaid header text now false later false

then-body : (header : Header) (first second : List ℕ) (now middle : ℕ) → IsSaid header first now false middle false → IsBody header second middle → IsBody header (first ++ second) now
then-body header first second now middle h k = record { later = k.later; says = said-append header first second now false middle false k.later false h k.says }

pub parts-said : (header : Header) (items : List DumpItem) → HasNets header (map size items) → (now : ℕ) (parts : List Part) → AreParts items now parts → IsBody header (parts_text parts) now
parts-said header items has now [] h = record { later = now; says = said-none header now false }
parts-said header items has now (Time time ∷ parts) h =
    then-body header (time_text time) (parts_text parts) now time (said-time header now time false h.0 h.1) (parts-said header items has time parts h.2)
parts-said header items has now (Values kind values ∷ parts) h =
    then-body header (section_text kind values) (parts_text parts) now now (section-said header (map size items) has kind values h.0 now) (parts-said header items has now parts h.1)
parts-said header items has now (Lines values places ∷ parts) h =
    let many : length (map size items) ≡ length items = length-map items size in
    let all : All (λ place. place < length (map size items)) places = subst (λ n. All (λ place. place < n) places) (sym many) h.1 in
    then-body header (lines_of values places) (parts_text parts) now now (lines-said header (map size items) has values h.0 now false places all) (parts-said header items has now parts h.2)
