-- The body that is read is in the grammar.
use Rattle.std.proofs.Common.{◌≡◌, ℕ, ◌<◌, ◌≤◌, ◌^◌, List, [], ◌∷◌, ◌++◌, length, refl, sym, ap, ◌∙◌, subst, arith, Bool, true, false, cond, not, Option, Some, None, append_assoc, append-nil, map, inl, inr}
use Rattle.std.specs.Prelude.{Result, Ok, Err, All, codes, slice_get, slice_index, nat_lt, nat_le, ◌==◌, ◌||◌, ◌&&◌, ◌⊎◌}
use Rattle.std.specs.List.{flat_map, list_all}
use Rattle.std.specs.Str.{bytes_eq}
use Rattle.std.specs.Str.Parse.{digits_value}
use Rattle.std.proofs.lemmas.Bool.{eqb-true, true≢false}
use Rattle.std.proofs.lemmas.Bool.Decides.{nat_tests}
use Rattle.std.proofs.lemmas.List.{length-reverse, length-map}
use Rattle.std.proofs.lemmas.List.Elements.{All-append, All-cons, All-nil}
use Rattle.std.proofs.lemmas.List.Quantifiers.{position-Some}
use Rattle.std.proofs.lemmas.Option.{slice_get-get_or}
use Rattle.std.proofs.lemmas.Slice.Eq.{bytes_eq-Decides}
use Rattle.vvp_lex.specs.Token.{is_bit}
use Rattle.vcd_read.specs.declared.types.VcdKind.{VcdKind}
use Rattle.vcd_read.specs.declared.types.VcdKind.TheVariants.{BadWord, TimeBack, UnknownCode}
use Rattle.vcd_read.specs.declared.header.Wanted.{Wanted}
use Rattle.vcd_read.specs.declared.header.Wanted.TheVariants.{Entry, Remark, Code}
use Rattle.vcd_read.specs.declared.header.Header.{Header}
use Rattle.vcd_read.specs.declared.body.Body.{Body}
use Rattle.vcd_read.specs.declared.reader.Reader.{Reader}
use Rattle.vcd_read.specs.Words.{is_end, is_number}
use Rattle.vvp_lex.specs.Vector.{bit_of}
use Rattle.vcd_read.specs.Parts.{bits_of, extended, is_section, net_of}
use Rattle.vcd_read.specs.Grammar.{IsTime, Opens, Closes, IsComment, IsScalar, IsVector, IsEntry, AreEntries, changed}
use Rattle.vcd_read.specs.Reading.{need, beside, given, time, scalar, vector, bits, section, entry, with_body, may_end}
use Rattle.vcd_read.proofs.WalkLemmas.{stand, walk, onto, ok-one}

abbrev Words : Type 0
Words = List (List ℕ)

abbrev AreInner : Words → Type 0
AreInner words = All (λ word. is_end word ≡ false) words

snoc-inner : (words : Words) (word : List ℕ) → AreInner words → is_end word ≡ false → AreInner (words ++ word ∷ [])
snoc-inner words word inside one = All-append (λ word. is_end word ≡ false) words (word ∷ []) inside (All-cons (λ word. is_end word ≡ false) word [] one (All-nil (λ word. is_end word ≡ false)))

-- where a test failed there is no next state
refused : {A : Type 0} (P : Type 0) (kind : VcdKind) (x : A) → ◌≡◌ {A = Result A VcdKind} (Err kind) (Ok x) → P
refused P kind x h = absurd (cc)

-- the words of a body that lead from a body to the file's end
pub record BodyTail (header : Header) (before : Body) (words : Words) (after : Reader) : Type 0 where
  pub entries : List Words
  pub last : Body
  pub spelled : words ≡ flat_map (λ entry. entry) entries
  pub says : AreEntries header entries before last
  pub is : after ≡ stand Entry header last

-- what has come of an entry: its words so far
abbrev SoFar : Wanted → Body → Body → Words → Type 0
SoFar Entry before now p = (p ≡ []) × (now ≡ before)
SoFar Remark before now p = (text : Words) × (p ≡ codes "$comment" ∷ text) × AreInner text × (now ≡ before)
SoFar (Code value) before now p = (letter : ℕ) × (word : List ℕ) × (p ≡ (letter ∷ word) ∷ []) × ((letter ≡ 98) ⊎ (letter ≡ 66)) × (1 ≤ length word) × (length word ≤ 128) × (list_all is_bit word ≡ true) × (value ≡ bits_of word) × (now ≡ before)
SoFar _ before now p = ⊥

module _ (header : Header) (after : Reader) (closed : may_end after ≡ true) where
  -- one entry more at the front
  one-more : (words rest : Words) (before middle : Body) → IsEntry header words before middle → BodyTail header middle rest after → BodyTail header before (words ++ rest) after
  one-more words rest before middle first tail = record {
    entries = words ∷ tail.entries;
    last = tail.last;
    spelled = ap (λ ws. words ++ ws) tail.spelled;
    says = (middle, first, tail.says);
    is = tail.is;
  }

  abbrev Again : Words → Type 0
  Again words = (wanted : Wanted) (before now : Body) (p : Words) → SoFar wanted before now p → walk words (stand wanted header now) ≡ Ok after → BodyTail header before (p ++ words) after

  -- an entry of one word
  one-word : (word : List ℕ) (words : Words) (before middle : Body) → Again words → IsEntry header (word ∷ []) before middle → walk words (stand Entry header middle) ≡ Ok after → BodyTail header before (word ∷ words) after
  one-word word words before middle again first h = one-more (word ∷ []) words before middle first (again Entry middle middle [] (refl, refl) h)

  time-tail : (digits : List ℕ) (words : Words) (before : Body) → Again words → onto (walk words) (with_body header (time before digits)) ≡ Ok after → BodyTail header before ((35 ∷ digits) ∷ words) after
  unfolding time
  time-tail digits words before again h = by_tests (is_number digits) refl (nat_lt (digits_value 10 digits) (2 ^ 64)) refl (nat_lt (digits_value 10 digits) before.time) refl h
    where
      by_tests : (a : Bool) → is_number digits ≡ a → (b : Bool) → nat_lt (digits_value 10 digits) (2 ^ 64) ≡ b → (c : Bool) → nat_lt (digits_value 10 digits) before.time ≡ c → onto (walk words) (with_body header (cond (not (a && b)) (Err BadWord) (cond c (Err TimeBack) (Ok (Entry, record before { time = digits_value 10 digits }))))) ≡ Ok after → BodyTail header before ((35 ∷ digits) ∷ words) after
      by_tests true a true b false c h =
          let says : IsTime ((35 ∷ digits) ∷ []) before (record before { time = digits_value 10 digits }) = record { digits = digits; spelled = refl; number = a; fits = grind (arith, nat_tests); onward = grind (arith, nat_tests); says = refl } in
          one-word (35 ∷ digits) words before (record before { time = digits_value 10 digits }) again (inl says) h
      by_tests true a true b true c h = refused _ TimeBack after h
      by_tests true a false b c k h = refused _ BadWord after h
      by_tests false a b k c l h = refused _ BadWord after h

  section-tail : (word : List ℕ) (words : Words) (before : Body) → Again words → (is_section word || is_end word) ≡ true → onto (walk words) (with_body header (section before word)) ≡ Ok after → BodyTail header before (word ∷ words) after
  unfolding section
  section-tail word words before again one h = by_end (is_end word) refl before.is_open refl one h
    where
      or-first : (x : Bool) → (x || false) ≡ true → x ≡ true
      or-first true e = refl
      or-first false e = e

      by_end : (ends : Bool) → is_end word ≡ ends → (is_open : Bool) → before.is_open ≡ is_open → (is_section word || ends) ≡ true → onto (walk words) (with_body header (cond ends (need is_open (Entry, record before { is_open = false })) (need (not is_open) (Entry, record before { is_open = true })))) ≡ Ok after → BodyTail header before (word ∷ words) after
      by_end true e true opened one h =
          let is : word ≡ codes "$end" = (bytes_eq-Decides word (codes "$end")).0 e in
          let says : Closes (word ∷ []) before (record before { is_open = false }) = record { spelled = ap (λ w. w ∷ []) is; opened = opened; says = refl } in
          one-word word words before (record before { is_open = false }) again (inr (inr (inl says))) h
      by_end true e false opened one h = refused _ BadWord after h
      by_end false e true opened one h = refused _ BadWord after h
      by_end false e false opened one h =
          let says : Opens (word ∷ []) before (record before { is_open = true }) = record { word = word; spelled = refl; begins = or-first (is_section word) one; closed = opened; says = refl } in
          one-word word words before (record before { is_open = true }) again (inr (inl says)) h

  net-width : (net : ℕ) (code : List ℕ) → length header.nets ≡ length header.widths → net_of header.nets code ≡ Some net → slice_get header.widths net ≡ Some (slice_index header.widths net)
  net-width net code same found =
      let within : net < length header.nets = (position-Some (bytes_eq code) header.nets net [] found).0 in
      slice_get-get_or header.widths net 0 (omega (arith, same, within))

  module _ (same : length header.nets ≡ length header.widths) where
    scalar-tail : (byte : ℕ) (code : List ℕ) (words : Words) (before : Body) → Again words → is_bit byte ≡ true → onto (walk words) (with_body header (scalar header before byte code)) ≡ Ok after → BodyTail header before ((byte ∷ code) ∷ words) after
    unfolding scalar
    scalar-tail byte code words before again writes h = by_tests (length code == 0) refl (net_of header.nets code) refl h
      where
        by_width : (net : ℕ) → (length code == 0) ≡ false → net_of header.nets code ≡ Some net → (t : Bool) → (slice_index header.widths net == 1) ≡ t → onto (walk words) (with_body header (need t (Entry, changed before net (bit_of byte ∷ [])))) ≡ Ok after → BodyTail header before ((byte ∷ code) ∷ words) after
        by_width net some found true one h =
            let says : IsScalar header ((byte ∷ code) ∷ []) before (changed before net (bit_of byte ∷ [])) = record { bit = byte; code = code; net = net; spelled = refl; some = grind (arith, nat_tests); writes = writes; names = found; width = net-width net code same found ∙ ap Some (eqb-true (slice_index header.widths net) 1 one); says = refl } in
            one-word (byte ∷ code) words before (changed before net (bit_of byte ∷ [])) again (inr (inr (inr (inr (inl says))))) h
        by_width net some found false one h = refused _ BadWord after h

        by_tests : (none : Bool) → (length code == 0) ≡ none → (net : Option ℕ) → net_of header.nets code ≡ net → onto (walk words) (with_body header (cond none (Err BadWord) (given before header.widths (λ width. width == 1) (λ width. bit_of byte ∷ []) net))) ≡ Ok after → BodyTail header before ((byte ∷ code) ∷ words) after
        by_tests true e net f h = refused _ BadWord after h
        by_tests false e None f h = refused _ UnknownCode after h
        by_tests false e (Some net) f h = by_width net e f (slice_index header.widths net == 1) refl h

    length-bits_of : (word : List ℕ) → length (bits_of word) ≡ length word
    length-bits_of word = length-reverse (map bit_of word) ∙ length-map word bit_of

    vector-tail : (letter : ℕ) (word code : List ℕ) (words : Words) (before : Body) → Again words → (letter ≡ 98) ⊎ (letter ≡ 66) → 1 ≤ length word → length word ≤ 128 → list_all is_bit word ≡ true → onto (walk words) (with_body header (vector header before (bits_of word) code)) ≡ Ok after → BodyTail header before ((letter ∷ word) ∷ code ∷ words) after
    unfolding vector
    vector-tail letter word code words before again begins some few all_bits h = by_net (net_of header.nets code) refl h
      where
        by_width : (net : ℕ) → net_of header.nets code ≡ Some net → (t : Bool) → nat_le (length (bits_of word)) (slice_index header.widths net) ≡ t → onto (walk words) (with_body header (need t (Entry, changed before net (extended (bits_of word) (slice_index header.widths net))))) ≡ Ok after → BodyTail header before ((letter ∷ word) ∷ code ∷ words) after
        by_width net found true fits h =
            let middle : Body = changed before net (extended (bits_of word) (slice_index header.widths net)) in
            let narrow : length (bits_of word) ≤ slice_index header.widths net = grind (arith, nat_tests) in
            let says : IsVector header ((letter ∷ word) ∷ code ∷ []) before middle = record { letter = letter; bits = word; code = code; net = net; width = slice_index header.widths net; spelled = refl; begins = begins; some = some; few = few; all_bits = all_bits; names = found; has_width = net-width net code same found; fits = omega (arith, narrow, length-bits_of word); says = refl } in
            one-more ((letter ∷ word) ∷ code ∷ []) words before middle (inr (inr (inr (inr (inr says))))) (again Entry middle middle [] (refl, refl) h)
        by_width net found false fits h = refused _ BadWord after h

        by_net : (net : Option ℕ) → net_of header.nets code ≡ net → onto (walk words) (with_body header (given before header.widths (λ width. nat_le (length (bits_of word)) width) (λ width. extended (bits_of word) width) net)) ≡ Ok after → BodyTail header before ((letter ∷ word) ∷ code ∷ words) after
        by_net None f h = refused _ UnknownCode after h
        by_net (Some net) f h = by_width net f (nat_le (length (bits_of word)) (slice_index header.widths net)) refl h

    bits-tail : (letter : ℕ) (word : List ℕ) (words : Words) (before : Body) → Again words → (letter ≡ 98) ⊎ (letter ≡ 66) → onto (walk words) (with_body header (beside before (bits word))) ≡ Ok after → BodyTail header before ((letter ∷ word) ∷ words) after
    unfolding bits
    bits-tail letter word words before again begins h = by_tests (length word == 0) refl (nat_lt 128 (length word)) refl (list_all is_bit word) refl h
      where
        by_tests : (a : Bool) → (length word == 0) ≡ a → (b : Bool) → nat_lt 128 (length word) ≡ b → (c : Bool) → list_all is_bit word ≡ c → onto (walk words) (with_body header (beside before (need (not (a || b || not c)) (Code (bits_of word))))) ≡ Ok after → BodyTail header before ((letter ∷ word) ∷ words) after
        by_tests false a false b true c h = again (Code (bits_of word)) before before ((letter ∷ word) ∷ []) (letter, word, refl, begins, grind (arith, nat_tests), grind (arith, nat_tests), c, refl, refl) h
        by_tests false a false b false c h = refused _ BadWord after h
        by_tests false a true b c k h = refused _ BadWord after h
        by_tests true a b k c l h = refused _ BadWord after h

    entry-tail : (word : List ℕ) (words : Words) (before : Body) → Again words → onto (walk words) (with_body header (entry header before word)) ≡ Ok after → BodyTail header before (word ∷ words) after
    unfolding entry
    entry-tail [] words before again h = refused _ BadWord after h
    entry-tail (byte ∷ rest) words before again h = by_tests (byte == 35) refl (is_section (byte ∷ rest) || is_end (byte ∷ rest)) refl (bytes_eq (byte ∷ rest) (codes "$comment")) refl (is_bit byte) refl (byte == 98) refl (byte == 66) refl h
      where
        by_tests : (a : Bool) → (byte == 35) ≡ a → (b : Bool) → (is_section (byte ∷ rest) || is_end (byte ∷ rest)) ≡ b → (c : Bool) → bytes_eq (byte ∷ rest) (codes "$comment") ≡ c → (d : Bool) → is_bit byte ≡ d → (e : Bool) → (byte == 98) ≡ e → (f : Bool) → (byte == 66) ≡ f → onto (walk words) (with_body header (cond a (time before rest) (cond b (section before (byte ∷ rest)) (cond c (Ok (Remark, before)) (cond d (scalar header before byte rest) (cond (e || f) (beside before (bits rest)) (Err BadWord))))))) ≡ Ok after → BodyTail header before ((byte ∷ rest) ∷ words) after
        by_tests true a b k c l d m e n f o h = subst (λ first. BodyTail header before ((first ∷ rest) ∷ words) after) (sym (eqb-true byte 35 a)) (time-tail rest words before again h)
        by_tests false a true k c l d m e n f o h = section-tail (byte ∷ rest) words before again k h
        by_tests false a false k true l d m e n f o h = again Remark before before ((byte ∷ rest) ∷ []) ([], ap (λ w. w ∷ []) ((bytes_eq-Decides (byte ∷ rest) (codes "$comment")).0 l), All-nil (λ word. is_end word ≡ false), refl) h
        by_tests false a false k false l true m e n f o h = scalar-tail byte rest words before again m h
        by_tests false a false k false l false m true n f o h = bits-tail byte rest words before again (inl (eqb-true byte 98 n)) h
        by_tests false a false k false l false m false n true o h = bits-tail byte rest words before again (inr (eqb-true byte 66 o)) h
        by_tests false a false k false l false m false n false o h = refused _ BadWord after h

    -- where a file can't end
    no-end : (P : Type 0) (wanted : Wanted) (now : Body) → may_end (stand wanted header now) ≡ false → ◌≡◌ {A = Result Reader VcdKind} (Ok (stand wanted header now)) (Ok after) → P
    no-end P wanted now open_still h = absurd (true≢false (sym closed ∙ ap may_end (sym (ok-one (stand wanted header now) after h)) ∙ open_still))

    remark-more : (word : List ℕ) (words : Words) (before now : Body) (p text : Words) → Again words → p ≡ codes "$comment" ∷ text → AreInner text → now ≡ before → (ends : Bool) → is_end word ≡ ends → walk words (stand (cond ends Entry Remark) header now) ≡ Ok after → BodyTail header before (p ++ word ∷ words) after
    remark-more word words before now p text again e inside f true ends h =
        let is : word ≡ codes "$end" = (bytes_eq-Decides word (codes "$end")).0 ends in
        let spelled : p ++ word ∷ [] ≡ codes "$comment" ∷ (text ++ codes "$end" ∷ []) = ap (λ q. q ++ word ∷ []) e ∙ ap (λ w. codes "$comment" ∷ (text ++ w ∷ [])) is in
        let says : IsComment (p ++ word ∷ []) before now = record { text = text; spelled = spelled; inside = inside; same = f } in
        subst (λ ws. BodyTail header before ws after) (append_assoc p (word ∷ []) words) (one-more (p ++ word ∷ []) words before now (inr (inr (inr (inl says)))) (again Entry now now [] (refl, refl) h))
    remark-more word words before now p text again e inside f false ends h =
        subst (λ ws. BodyTail header before ws after) (append_assoc p (word ∷ []) words) (again Remark before now (p ++ word ∷ []) (text ++ word ∷ [], ap (λ q. q ++ word ∷ []) e, snoc-inner text word inside ends, f) h)

    pub body-tail : (words : Words) (wanted : Wanted) (before now : Body) (p : Words) → SoFar wanted before now p → walk words (stand wanted header now) ≡ Ok after → BodyTail header before (p ++ words) after
    body-tail [] Entry before now p (e, f) h = record {
      entries = [];
      last = before;
      spelled = append-nil p ∙ e;
      says = refl;
      is = sym (ok-one (stand Entry header now) after h) ∙ ap (stand Entry header) f;
    }
    body-tail [] Remark before now p part h = no-end _ Remark now refl h
    body-tail [] (Code value) before now p part h = no-end _ (Code value) now refl h
    body-tail [] wanted before now p part h = absurd part
    body-tail (word ∷ words) Entry before now p (e, f) h =
        subst (λ q. BodyTail header before (q ++ word ∷ words) after) (sym e) (entry-tail word words before (body-tail words) (subst (λ n. walk (word ∷ words) (stand Entry header n) ≡ Ok after) f h))
    body-tail (word ∷ words) Remark before now p (text, e, inside, f) h = remark-more word words before now p text (body-tail words) e inside f (is_end word) refl h
    body-tail (word ∷ words) (Code value) before now p (letter, digits, e, begins, some, few, all_bits, v, f) h =
        let here : walk (word ∷ words) (stand (Code (bits_of digits)) header before) ≡ Ok after = subst (λ n. walk (word ∷ words) (stand (Code (bits_of digits)) header n) ≡ Ok after) f (subst (λ bits. walk (word ∷ words) (stand (Code bits) header now) ≡ Ok after) v h) in
        subst (λ q. BodyTail header before (q ++ word ∷ words) after) (sym e) (vector-tail letter digits word words before (body-tail words) begins some few all_bits here)
    body-tail (word ∷ words) wanted before now p part h = absurd part
