-- The words of such a text are those that were written.
use Rattle.std.proofs.Common.{◌≡◌, ℕ, suc, ◌+◌, ◌≤◌, Bool, true, false, ◌&&◌, List, [], ◌∷◌, ◌++◌, length, get_or, map, take, refl, sym, ap, subst, ◌∙◌, arith}
use Rattle.std.specs.Prelude.{All, not, ◌==◌}
use Rattle.std.specs.List.{prefix_len, list_all}
use Rattle.std.proofs.Math.Seq.{take-append_seam}
use Rattle.std.proofs.lemmas.List.{length-map, get_or-map}
use Rattle.std.proofs.lemmas.List.Elements.{All-nil, All-cons}
use Rattle.std.proofs.lemmas.Bool.Decides.{nat_tests}
use Rattle.vvp_lex.specs.Text.{cut, is_white}
use Rattle.vcd_read.specs.declared.types.Trace.{Trace}
use Rattle.vcd_read.specs.Words.{Spot, spots_of, spot_front, more_len, is_printable, is_word}
use Rattle.vcd_read.specs.Grammar.{AreOfTrace, IsVcd}
use Rattle.vcd_law.specs.Words.{Written, AreWritten, text_of, words_of}

pub and-left : (a b : Bool) → (a && b) ≡ true → a ≡ true
and-left true b e = refl
and-left false b e = e

pub and-right : (a b : Bool) → (a && b) ≡ true → b ≡ true
and-right true b e = e
and-right false b e = cc

pub some-length : (n : ℕ) → not (n == 0) ≡ true → 1 ≤ n
some-length n h = grind (arith, nat_tests)

solid : (b : ℕ) → is_printable b ≡ true → is_white b ≡ false
solid b e = grind (arith, nat_tests)

stops : (b : ℕ) → is_white b ≡ true → is_printable b ≡ false
stops b e = grind (arith, nat_tests)

-- a run of such bytes ends at white space
run : (bs : List ℕ) (after : ℕ) (rest : List ℕ) → list_all is_printable bs ≡ true → is_printable after ≡ false → prefix_len is_printable (bs ++ after ∷ rest) ≡ length bs
run [] after rest q r = rw r refl
run (b ∷ bs) after rest q r =
    let more : prefix_len is_printable (bs ++ after ∷ rest) ≡ length bs = run bs after rest (and-right (is_printable b) (list_all is_printable bs) q) r in
    rw (and-left (is_printable b) (list_all is_printable bs) q) (omega (arith, more))

module _ (file : List ℕ) where
  -- the words of a text that stands somewhere in the file
  abbrev words_at : ℕ → ℕ → List ℕ → List (List ℕ)
  words_at place covered text = map (λ spot. spot.word) (cut (spot_front file) place covered text)

  -- covered bytes are passed over
  passed : (bs ys : List ℕ) (ws : List (List ℕ)) → ((place : ℕ) → words_at place 0 ys ≡ ws) → (place : ℕ) → words_at place (length bs) (bs ++ ys) ≡ ws
  passed [] ys ws h place = h place
  passed (b ∷ bs) ys ws h place = passed bs ys ws h (place + 1)

  one-word : (b : ℕ) (bs : List ℕ) (after : ℕ) (rest : List ℕ) (ws : List (List ℕ)) → is_printable b ≡ true → list_all is_printable bs ≡ true → is_white after ≡ true
      → ((place : ℕ) → words_at place 0 rest ≡ ws) → (place : ℕ) → words_at place 0 (b ∷ (bs ++ after ∷ rest)) ≡ (b ∷ bs) ∷ ws
  one-word b bs after rest ws p q r h place =
      let text : List ℕ = bs ++ after ∷ rest in
      let word : ℕ → List ℕ = λ n. take (1 + n) (b ∷ text) in
      let run_is : prefix_len is_printable text ≡ length bs = run bs after rest q (stops after r) in
      let more : more_len (b ∷ text) ≡ length bs = rw p run_is in
      let first : words_at place 0 (b ∷ text) ≡ word (more_len (b ∷ text)) ∷ words_at (place + 1) (more_len (b ∷ text)) text = rw (solid b p) refl in
      let one : 1 + length bs ≡ suc (length bs) = omega arith in
      let taken : word (length bs) ≡ b ∷ bs = ap (λ n. take n (b ∷ text)) one ∙ ap (λ xs. b ∷ xs) (take-append_seam bs (after ∷ rest)) in
      let skip : (at : ℕ) → words_at at 0 (after ∷ rest) ≡ ws = λ at. (let step : words_at at 0 (after ∷ rest) ≡ words_at (at + 1) 0 rest = rw r refl in step ∙ h (at + 1)) in
      first
      ∙ (ap (λ n. word n ∷ words_at (place + 1) n text) more
      ∙ (ap (λ w. w ∷ words_at (place + 1) (length bs) text) taken
      ∙ ap (λ vs. (b ∷ bs) ∷ vs) (passed bs (after ∷ rest) ws skip (place + 1))))

  with-word : (word : List ℕ) (after : ℕ) (rest : List ℕ) (ws : List (List ℕ)) → 1 ≤ length word → list_all is_printable word ≡ true → is_white after ≡ true
      → ((place : ℕ) → words_at place 0 rest ≡ ws) → (place : ℕ) → words_at place 0 (word ++ after ∷ rest) ≡ word ∷ ws
  with-word [] after rest ws some q r h place = absurd (omega (arith, some))
  with-word (b ∷ bs) after rest ws some q r h place =
      one-word b bs after rest ws (and-left (is_printable b) (list_all is_printable bs) q) (and-right (is_printable b) (list_all is_printable bs) q) r h place

  words-written : (ws : List Written) → AreWritten ws → (place : ℕ) → words_at place 0 (text_of ws) ≡ words_of ws
  words-written [] each place = refl
  words-written (w ∷ ws) each place = with-word w.word w.after (text_of ws) (words_of ws) each.0.some each.0.printable each.0.white (words-written ws each.1) place

-- each of them is a word
written-is_word : (word : List ℕ) → 1 ≤ length word → list_all is_printable word ≡ true → is_word word ≡ true
written-is_word [] some q = absurd (omega (arith, some))
written-is_word (b ∷ bs) some q = and-left (is_printable b) (list_all is_printable bs) q

words-are : (ws : List Written) → AreWritten ws → All (λ word. is_word word ≡ true) (words_of ws)
words-are [] each = All-nil (λ word. is_word word ≡ true)
words-are (w ∷ ws) each =
    All-cons (λ word. is_word word ≡ true) w.word (words_of ws) (written-is_word w.word each.0.some each.0.printable) (words-are ws each.1)

spots-are : (spots : List Spot) (words : List (List ℕ)) → map (λ spot. spot.word) spots ≡ words → All (λ word. is_word word ≡ true) words → All (λ spot. is_word spot.word ≡ true) spots
spots-are spots words e each =
    λ k d h.
    let same : get_or (map (λ spot. spot.word) spots) k d.word ≡ (get_or spots k d).word = get_or-map (λ spot. spot.word) spots k d d.word h in
    let word : is_word (get_or (map (λ spot. spot.word) spots) k d.word) ≡ true =
    subst (λ vs. is_word (get_or vs k d.word) ≡ true) (sym e) (each k d.word (omega (arith, h, ap length e, length-map spots (λ spot. spot.word)))) in
    subst (λ word. is_word word ≡ true) same word

-- a text whose words are of a trace is a dump with this trace
pub dump-of_words : (ws : List Written) (trace : Trace) → AreWritten ws → AreOfTrace (words_of ws) trace → IsVcd (text_of ws) trace
unfolding spots_of
dump-of_words ws trace each grammar =
    let words = words-written (text_of ws) ws each 0 in
    record {
      words = spots-are (spots_of (text_of ws)) (words_of ws) words (words-are ws each);
      grammar = subst (λ vs. AreOfTrace vs trace) (sym words) grammar;
    }
