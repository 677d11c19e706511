-- What is in the grammar is read.
use Rattle.std.proofs.Common.{◌≡◌, ℕ, ◌<◌, ◌≤◌, ◌^◌, List, [], ◌∷◌, ◌++◌, length, refl, sym, ap, ◌∙◌, subst, arith, Bool, true, false, Some, append_assoc, map}
use Rattle.std.specs.Prelude.{Ok, All, codes, slice_get, slice_index, nat_lt, nat_le, ◌==◌, ◌||◌, ◌⊎◌}
use Rattle.std.proofs.Common.{inl, inr}
use Rattle.std.specs.List.{flat_map, list_all}
use Rattle.std.specs.Str.{bytes_eq}
use Rattle.std.specs.Str.Parse.{digits_value}
use Rattle.std.proofs.lemmas.Bool.Decides.{nat_tests}
use Rattle.std.proofs.lemmas.List.{length-reverse, length-map}
use Rattle.std.proofs.lemmas.List.Elements.{All-head, All-tail}
use Rattle.std.proofs.lemmas.Option.{get_or_from_slice_get}
use Rattle.std.proofs.lemmas.Slice.Eq.{bytes_eq-Decides}
use Rattle.vvp_lex.specs.Token.{is_bit}
use Rattle.vcd_read.specs.declared.header.Wanted.TheVariants.{Entry, Remark, Code}
use Rattle.vcd_read.specs.declared.header.Header.{Header}
use Rattle.vcd_read.specs.declared.body.Body.{Body}
use Rattle.vcd_read.specs.Words.{is_end, is_number}
use Rattle.vvp_lex.specs.Vector.{bit_of}
use Rattle.vcd_read.specs.Parts.{bits_of, extended, is_section, net_of}
use Rattle.vcd_read.specs.Grammar.{IsEntry, AreEntries, changed}
use Rattle.vcd_read.specs.Reading.{time, scalar, vector, bits, section, entry, with_body, taken}
use Rattle.vcd_read.proofs.WalkLemmas.{stand, walk, goes-to}

abbrev Words : Type 0
Words = List (List ℕ)

length-bits_of : (word : List ℕ) → length (bits_of word) ≡ length word
length-bits_of word = length-reverse (map bit_of word) ∙ length-map word bit_of

-- ---- the body
module _ (header : Header) where
  -- an entry of one word
  one-word : (words : Words) (word : List ℕ) (before middle after : Body) → words ≡ word ∷ [] → entry header before word ≡ Ok (Entry, middle) → after ≡ middle → (more : Words) → walk (words ++ more) (stand Entry header before) ≡ walk more (stand Entry header after)
  one-word words word before middle after spelled step says more =
      ap (λ ws. walk (ws ++ more) (stand Entry header before)) spelled
      ∙ goes-to word more (stand Entry header before) (stand Entry header middle) (ap (with_body header) step)
      ∙ ap (λ b. walk more (stand Entry header b)) (sym says)

  time-ok : (body : Body) (digits : List ℕ) → is_number digits ≡ true → digits_value 10 digits < 2 ^ 64 → body.time ≤ digits_value 10 digits → entry header body (35 ∷ digits) ≡ Ok (Entry, record body { time = digits_value 10 digits })
  unfolding entry time
  time-ok body digits number fits onward =
      let low : nat_lt (digits_value 10 digits) (2 ^ 64) ≡ true = grind (arith, nat_tests) in
      let late : nat_lt (digits_value 10 digits) body.time ≡ false = grind (arith, nat_tests) in
      rw (number, low, late) refl

  -- the first byte of a section's word and of `$end`
  section-first : (word : List ℕ) → is_section word ≡ true → (slice_index word 0 == 35) ≡ false
  section-first word h = by_text (bytes_eq word (codes "$dumpvars")) refl (bytes_eq word (codes "$dumpoff")) refl (bytes_eq word (codes "$dumpon")) refl (bytes_eq word (codes "$dumpall")) refl h
    where
      is : (text : List ℕ) → (slice_index text 0 == 35) ≡ false → bytes_eq word text ≡ true → (slice_index word 0 == 35) ≡ false
      is text first e = subst (λ w. (slice_index w 0 == 35) ≡ false) (sym ((bytes_eq-Decides word text).0 e)) first

      by_text : (a : Bool) → bytes_eq word (codes "$dumpvars") ≡ a → (b : Bool) → bytes_eq word (codes "$dumpoff") ≡ b → (c : Bool) → bytes_eq word (codes "$dumpon") ≡ c → (d : Bool) → bytes_eq word (codes "$dumpall") ≡ d → (a || b || c || d) ≡ true → (slice_index word 0 == 35) ≡ false
      by_text true e b f c g d k h = is (codes "$dumpvars") refl e
      by_text false e true f c g d k h = is (codes "$dumpoff") refl f
      by_text false e false f true g d k h = is (codes "$dumpon") refl g
      by_text false e false f false g true k h = is (codes "$dumpall") refl k
      by_text false e false f false g false k h = absurd (cc)

  section-not_end : (word : List ℕ) → is_section word ≡ true → is_end word ≡ false
  section-not_end word h = by_end (is_end word) refl
    where
      by_end : (ends : Bool) → is_end word ≡ ends → ends ≡ false
      by_end false e = refl
      by_end true e =
          let is : word ≡ codes "$end" = (bytes_eq-Decides word (codes "$end")).0 e in
          let no : is_section (codes "$end") ≡ true = subst (λ w. is_section w ≡ true) is h in
          absurd (cc)

  opens-ok : (body : Body) (word : List ℕ) → is_section word ≡ true → body.is_open ≡ false → entry header body word ≡ Ok (Entry, record body { is_open = true })
  unfolding entry section
  opens-ok body word begins closed = rw (section-first word begins, begins, section-not_end word begins, closed) refl

  closes-ok : (body : Body) → body.is_open ≡ true → entry header body (codes "$end") ≡ Ok (Entry, record body { is_open = false })
  unfolding entry section
  closes-ok body opened = rw opened refl

  comment-ok : (body : Body) → entry header body (codes "$comment") ≡ Ok (Remark, body)
  unfolding entry
  comment-ok body = refl

  remark-walk : (text more : Words) (body : Body) → All (λ word. is_end word ≡ false) text → walk (text ++ codes "$end" ∷ more) (stand Remark header body) ≡ walk more (stand Entry header body)
  remark-walk [] more body inside = refl
  remark-walk (word ∷ text) more body inside =
      let next : taken Remark header body word ≡ Ok (stand Remark header body) = rw (All-head (λ word. is_end word ≡ false) word text inside) refl in
      goes-to word (text ++ codes "$end" ∷ more) (stand Remark header body) (stand Remark header body) next
      ∙ remark-walk text more body (All-tail (λ word. is_end word ≡ false) word text inside)

  width-at : (net width : ℕ) → slice_get header.widths net ≡ Some width → slice_index header.widths net ≡ width
  width-at net width h = get_or_from_slice_get header.widths net width 0 h

  -- the first byte of a value is no `#`, and the word is none of those that begin with `$` (its code is 36)
  first-apart : (byte : ℕ) (rest : List ℕ) (text : List ℕ) → (byte == 36) ≡ false → bytes_eq (byte ∷ rest) (36 ∷ text) ≡ false
  first-apart byte rest text apart = rw apart refl

  bit-bytes : (byte : ℕ) → is_bit byte ≡ true → ((byte == 35) ≡ false) × ((byte == 36) ≡ false)
  bit-bytes byte h = (grind (arith, nat_tests), grind (arith, nat_tests))

  scalar-ok : (body : Body) (bit net : ℕ) (code : List ℕ) → 1 ≤ length code → is_bit bit ≡ true → net_of header.nets code ≡ Some net → slice_get header.widths net ≡ Some 1 → entry header body (bit ∷ code) ≡ Ok (Entry, changed body net (bit_of bit ∷ []))
  unfolding entry scalar
  scalar-ok body bit net code some writes names width =
      let bytes = bit-bytes bit writes in
      let there : (length code == 0) ≡ false = grind (arith, nat_tests) in
      rw (bytes.0, bytes.1, writes, there, names, width-at net 1 width) refl

  vector-first : (body : Body) (letter : ℕ) (word : List ℕ) → (letter ≡ 98) ⊎ (letter ≡ 66) → 1 ≤ length word → length word ≤ 128 → list_all is_bit word ≡ true → entry header body (letter ∷ word) ≡ Ok (Code (bits_of word), body)
  unfolding entry bits
  vector-first body letter word begins some few all_bits =
      let there : (length word == 0) ≡ false = grind (arith, nat_tests) in
      let short : nat_lt 128 (length word) ≡ false = grind (arith, nat_tests) in
      by_letter there short begins
    where
      by_letter : (length word == 0) ≡ false → nat_lt 128 (length word) ≡ false → (letter ≡ 98) ⊎ (letter ≡ 66) → entry header body (letter ∷ word) ≡ Ok (Code (bits_of word), body)
      by_letter there short (inl e) = rw (e, there, short, all_bits) refl
      by_letter there short (inr e) = rw (e, there, short, all_bits) refl

  vector-code : (body : Body) (word code : List ℕ) (net width : ℕ) → net_of header.nets code ≡ Some net → slice_get header.widths net ≡ Some width → length (bits_of word) ≤ width → vector header body (bits_of word) code ≡ Ok (Entry, changed body net (extended (bits_of word) width))
  unfolding vector
  vector-code body word code net width names has_width fits =
      let wide : nat_le (length (bits_of word)) width ≡ true = grind (arith, nat_tests) in
      rw (names, width-at net width has_width, wide) refl

  entry-walk : (words : Words) (before after : Body) → IsEntry header words before after → (more : Words) → walk (words ++ more) (stand Entry header before) ≡ walk more (stand Entry header after)
  entry-walk words before after (inl e) more =
      one-word words (35 ∷ e.digits) before (record before { time = digits_value 10 e.digits }) after e.spelled (time-ok before e.digits e.number e.fits e.onward) e.says more
  entry-walk words before after (inr (inl e)) more =
      one-word words e.word before (record before { is_open = true }) after e.spelled (opens-ok before e.word e.begins e.closed) e.says more
  entry-walk words before after (inr (inr (inl e))) more =
      one-word words (codes "$end") before (record before { is_open = false }) after e.spelled (closes-ok before e.opened) e.says more
  entry-walk words before after (inr (inr (inr (inl e)))) more =
      ap (λ ws. walk (ws ++ more) (stand Entry header before)) e.spelled
      ∙ goes-to (codes "$comment") ((e.text ++ codes "$end" ∷ []) ++ more) (stand Entry header before) (stand Remark header before) (ap (with_body header) (comment-ok before))
      ∙ ap (λ ws. walk ws (stand Remark header before)) (append_assoc e.text (codes "$end" ∷ []) more)
      ∙ remark-walk e.text more before e.inside
      ∙ ap (λ b. walk more (stand Entry header b)) (sym e.same)
  entry-walk words before after (inr (inr (inr (inr (inl e))))) more =
      one-word words (e.bit ∷ e.code) before (changed before e.net (bit_of e.bit ∷ [])) after e.spelled (scalar-ok before e.bit e.net e.code e.some e.writes e.names e.width) e.says more
  entry-walk words before after (inr (inr (inr (inr (inr e))))) more =
      let fits : length (bits_of e.bits) ≤ e.width = omega (arith, length-bits_of e.bits, e.fits) in
      ap (λ ws. walk (ws ++ more) (stand Entry header before)) e.spelled
      ∙ goes-to (e.letter ∷ e.bits) (e.code ∷ more) (stand Entry header before) (stand (Code (bits_of e.bits)) header before) (ap (with_body header) (vector-first before e.letter e.bits e.begins e.some e.few e.all_bits))
      ∙ goes-to e.code more (stand (Code (bits_of e.bits)) header before) (stand Entry header (changed before e.net (extended (bits_of e.bits) e.width))) (ap (with_body header) (vector-code before e.bits e.code e.net e.width e.names e.has_width fits))
      ∙ ap (λ b. walk more (stand Entry header b)) (sym e.says)

  pub entries-walk : (entries : List Words) (before after : Body) → AreEntries header entries before after → walk (flat_map (λ entry. entry) entries) (stand Entry header before) ≡ Ok (stand Entry header after)
  entries-walk [] before after h = ap (λ b. Ok (stand Entry header b)) (sym h)
  entries-walk (words ∷ entries) before after (middle, first, rest) =
      entry-walk words before middle first (flat_map (λ entry. entry) entries) ∙ entries-walk entries middle after rest
