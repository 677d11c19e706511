-- One step from word to word.
use Rattle.std.proofs.Common.{◌≡◌, ℕ, suc, ◌+◌, ◌-◌, ◌<◌, ◌≤◌, List, [], ◌∷◌, length, get_or, take, drop, sym, ap, ◌∙◌, subst, arith, false, cond, zero-add, add-zero}
use Rattle.std.specs.Prelude.{count_by}
use Rattle.std.specs.List.{prefix_len}
use Rattle.std.proofs.Math.Seq.{take-add}
use Rattle.std.proofs.lemmas.List.{drop-drop, drop_all, take_all, take_rest, length-drop, get_or-drop}
use Rattle.std.proofs.lemmas.List.Sums.{prefix_len-le-length, prefix_len_stops, sum_by-append}
use Rattle.vvp_lex.specs.Text.{cut, is_white, is_line_feed}
use Rattle.vvp_lex.specs.Statement.{line_at}
use Rattle.vcd_read.specs.Words.{Spot, spots_of, spot_front, more_len}
use Rattle.vvp_lex.proofs.CutLemmas.{cut-white, cut-front}

-- a slice from a place on, as the code takes it
abbrev pub rest_of : List ℕ → ℕ → List ℕ
rest_of xs at = take (length xs - at) (drop at xs)

pub rest_twice : (xs : List ℕ) (at len : ℕ) → rest_of (rest_of xs at) len ≡ drop (at + len) xs
rest_twice xs at len = take_rest (rest_of xs at) len ∙ ap (drop len) (take_rest xs at) ∙ drop-drop len at xs

pub length-rest_of : (xs : List ℕ) (at : ℕ) → length (rest_of xs at) ≡ length xs - at
length-rest_of xs at = ap length (take_rest xs at) ∙ length-drop at xs

-- the line of a later place
pub line_at-later : (file : List ℕ) (at next : ℕ) → line_at file (at + next) ≡ line_at file at + count_by is_line_feed (take next (rest_of file at))
line_at-later file at next =
    let split : count_by is_line_feed (take (at + next) file) ≡ count_by is_line_feed (take at file) + count_by is_line_feed (take next (rest_of file at)) =
    ap (count_by is_line_feed) (take-add at next file) ∙ sum_by-append (λ x. cond (is_line_feed x) 1 0) (take at file) (take next (drop at file))
    ∙ ap (λ l. count_by is_line_feed (take at file) + count_by is_line_feed (take next l)) (sym (take_rest file at)) in
    omega (arith, split)

-- a walk stands at a byte that isn't white, or at the end
pub record Stands (text : List ℕ) (at : ℕ) : Type 0 where
  pub in_range : at ≤ length text
  pub solid : at < length text → is_white (get_or text at 0) ≡ false

-- past the white space it stands so
pub stands-after : (text : List ℕ) (at n : ℕ) → at ≤ length text → n ≡ prefix_len is_white (drop at text) → Stands text (at + n)
stands-after text at n in_range gap =
    let len : length (drop at text) ≡ length text - at = length-drop at text in
    let most : n ≤ length (drop at text) = subst (λ m. m ≤ length (drop at text)) (sym gap) (prefix_len-le-length is_white (drop at text)) in
    record {
      in_range = omega arith;
      solid = λ inside.
          let short : prefix_len is_white (drop at text) < length (drop at text) = omega arith in
          let stops : is_white (get_or (drop at text) (prefix_len is_white (drop at text)) 0) ≡ false = prefix_len_stops is_white (drop at text) 0 short in
          let here : is_white (get_or (drop at text) n 0) ≡ false = subst (λ m. is_white (get_or (drop at text) m 0) ≡ false) (sym gap) stops in
          subst (λ b. is_white b ≡ false) (get_or-drop at text n 0) here;
    }

abbrev pub spot_at : List ℕ → ℕ → ℕ → Spot
spot_at file at len = record { line = line_at file at; word = take len (drop at file) }

-- the first word stands after the white space
pub spots-begin : (file : List ℕ) (n : ℕ) → n ≡ prefix_len is_white file → Stands file n × (spots_of file ≡ cut (spot_front file) n 0 (drop n file))
unfolding spots_of
spots-begin file n gap = (
  subst (Stands file) (zero-add n) (stands-after file 0 n (omega arith) gap),
  cut-white (spot_front file) 0 file ∙ ap (λ m. cut (spot_front file) (0 + m) 0 (drop m file)) (sym gap) ∙ ap (λ p. cut (spot_front file) p 0 (drop n file)) (zero-add n),
)

module _ (file : List ℕ) (at : ℕ) (stands : Stands file at) (inside : at < length file) where
  -- the word there, and the next one after the white space
  pub spots-more : (len n : ℕ) → len ≡ 1 + more_len (drop at file) → at + len ≤ length file → n ≡ prefix_len is_white (drop (at + len) file) → Stands file (at + (len + n)) × (cut (spot_front file) at 0 (drop at file) ≡ spot_at file at len ∷ cut (spot_front file) (at + (len + n)) 0 (drop (at + (len + n)) file))
  spots-more len n len_is in_range gap =
      let front = spot_front file in
      let text = drop at file in
      let some : 0 < length text = omega (arith, length-drop at file) in
      let first : get_or text 0 0 ≡ get_or file at 0 = get_or-drop at file 0 0 ∙ ap (λ i. get_or file i 0) (add-zero at) in
      let solid : is_white (get_or text 0 0) ≡ false = subst (λ b. is_white b ≡ false) (sym first) (stands.solid inside) in
      let whole : suc (more_len text) ≡ len = omega (arith, len_is) in
      let same : at + len + n ≡ at + (len + n) = omega arith in
      let spot : Spot = record { line = line_at file at; word = take (1 + more_len text) text } in
      let after : cut front (at + suc (more_len text)) 0 (drop (suc (more_len text)) text) ≡ cut front (at + (len + n)) 0 (drop (at + (len + n)) file) =
      ap (λ m. cut front (at + m) 0 (drop m text)) whole
      ∙ ap (cut front (at + len) 0) (drop-drop len at file)
      ∙ cut-white front (at + len) (drop (at + len) file)
      ∙ ap (λ m. cut front (at + len + m) 0 (drop m (drop (at + len) file))) (sym gap)
      ∙ ap (cut front (at + len + n) 0) (drop-drop n (at + len) file)
      ∙ ap (λ p. cut front p 0 (drop p file)) same in
      let goes : Stands file (at + len + n) = stands-after file (at + len) n in_range gap in (
        subst (Stands file) same goes,
        cut-front front at text some solid
            ∙ ap (λ l. spot ∷ l) after
            ∙ ap (λ m. record { line = line_at file at; word = take m text } ∷ cut front (at + (len + n)) 0 (drop (at + (len + n)) file)) (sym len_is),
      )

-- no word is left at the end, whose line is that of the file's end
pub spots-end : (file : List ℕ) (at : ℕ) → length file ≤ at → cut (spot_front file) at 0 (drop at file) ≡ []
spots-end file at past = ap (cut (spot_front file) at 0) (drop_all at file past)

pub line_at-end : (file : List ℕ) (at : ℕ) → length file ≤ at → line_at file at ≡ 1 + count_by is_line_feed file
line_at-end file at past = ap (λ l. 1 + count_by is_line_feed l) (take_all at file past)
