-- How a search for a statement's end goes on.
use Rattle.std.proofs.Common.{◌≡◌, ℕ, zero, suc, ◌+◌, ◌-◌, ◌<◌, ◌≤◌, List, [], ◌∷◌, length, get_or, drop, refl, sym, ap, ◌∙◌, subst, arith, Bool, true, false, cond, ◌||◌, eqb, Option, Some, None}
use Rattle.std.specs.Prelude.{unwrap_or}
use Rattle.std.specs.Option.{option_map}
use Rattle.std.specs.List.{prefix_len}
use Rattle.std.proofs.Math.Seq.{drop-cons}
use Rattle.std.proofs.lemmas.Bool.{true≢false, false_from_ne_true, eqb-true, ne_eqb}
use Rattle.std.proofs.lemmas.List.{drop-drop, drop_all, take_rest, length-drop, get_or-drop}
use Rattle.memchr.specs.Find.{Nowhere, NoneBefore, Passes, is_byte3}
use Rattle.vvp_lex.specs.Text.{LineStart, InLine, InComment, blanked}
use Rattle.vvp_lex.specs.Token.{text_len}
use Rattle.vvp_lex.specs.Statement.{body_len, covered, open_len, comment_len, line_len}
use Rattle.vvp_lex.proofs.LineLemmas.{in_line, text_len-line, text_len-inside, drop-line}
use Rattle.vvp_lex.proofs.ScanLemmas.{shift, shift-shift, shift-zero, suc-shift, or_false, rest_of, blanked-byte}

-- covered bytes are passed over
body_len-passed : (n : ℕ) (text : List ℕ) → body_len n text ≡ shift n (body_len 0 (drop n text))
body_len-passed zero text = shift-zero _
body_len-passed (suc n) [] = refl
body_len-passed (suc n) (b ∷ text) = ap (option_map suc) (body_len-passed n text) ∙ suc-shift n _

mapped_inside : (o : Option ℕ) (n len : ℕ) → ((m : ℕ) → o ≡ Some m → m < len) → option_map suc o ≡ Some n → n < suc len
mapped_inside None n len later found = absurd (cc)
mapped_inside (Some m) n len later found =
    let e : suc m ≡ n = cc in
    omega (arith, later m refl)

-- the end lies in the text
pub body_len-inside : (passed : ℕ) (text : List ℕ) (n : ℕ) → body_len passed text ≡ Some n → n < length text
body_len-inside passed [] n found = absurd (cc)
body_len-inside (suc passed) (b ∷ text) n found = mapped_inside (body_len passed text) n (length text) (body_len-inside passed text) found
body_len-inside zero (b ∷ text) n found = by_end (body_len-inside (covered b text) text) (eqb b 59) found
  where
    by_end : ((m : ℕ) → body_len (covered b text) text ≡ Some m → m < length text) → (ends : Bool) → cond ends (Some 0) (option_map suc (body_len (covered b text) text)) ≡ Some n → n < suc (length text)
    by_end later true here =
        let e : 0 ≡ n = cc in
        omega arith
    by_end later false here = mapped_inside _ n _ later here

mapped_byte : (o : Option ℕ) (b : ℕ) (text : List ℕ) (n : ℕ) → ((m : ℕ) → o ≡ Some m → get_or text m 0 ≡ 59) → option_map suc o ≡ Some n → get_or (b ∷ text) n 0 ≡ 59
mapped_byte None b text n later found = absurd (cc)
mapped_byte (Some m) b text n later found =
    let e : n ≡ suc m = cc in
    rw e (later m refl)

-- a `;` stands there
pub body_len-byte : (passed : ℕ) (text : List ℕ) (n : ℕ) → body_len passed text ≡ Some n → get_or text n 0 ≡ 59
body_len-byte passed [] n found = absurd (cc)
body_len-byte (suc passed) (b ∷ text) n found = mapped_byte (body_len passed text) b text n (body_len-byte passed text) found
body_len-byte zero (b ∷ text) n found = by_end (body_len-byte (covered b text) text) (eqb b 59) refl (found)
  where
    by_end : ((m : ℕ) → body_len (covered b text) text ≡ Some m → get_or text m 0 ≡ 59) → (ends : Bool) → eqb b 59 ≡ ends → cond (eqb b 59) (Some 0) (option_map suc (body_len (covered b text) text)) ≡ Some n → get_or (b ∷ text) n 0 ≡ 59
    by_end later true ends here =
        let zero_is : Some 0 ≡ Some n = rw ends at here in
        let e : n ≡ 0 = cc in
        rw e (eqb-true b 59 ends)
    by_end later false ends here = mapped_byte (body_len (covered b text) text) b text n later (rw ends at here)

-- the bytes that a search for the end stops at
abbrev pub is_stop : ℕ → Bool
is_stop = is_byte3 59 34 10

abbrev pub body_from : List ℕ → ℕ → Option ℕ
body_from xs i = shift i (body_len 0 (blanked InLine (drop i xs)))

body_len-plain : (k : ℕ) (xs : List ℕ) → ((i : ℕ) → i < k → is_stop (get_or xs i 0) ≡ false) → body_len 0 (blanked InLine xs) ≡ shift k (body_len 0 (blanked InLine (drop k xs)))
body_len-plain zero xs plain = shift-zero _
body_len-plain (suc k) [] plain = refl
body_len-plain (suc k) (b ∷ xs) plain =
    let here : is_stop b ≡ false = plain 0 (omega arith) in
    let parts = or_false (eqb b 59 || eqb b 34) (eqb b 10) here in
    let stops = or_false (eqb b 59) (eqb b 34) parts.0 in
    let front : blanked InLine (b ∷ xs) ≡ b ∷ blanked InLine xs = rw parts.1 refl in
    let passed : body_len 0 (b ∷ blanked InLine xs) ≡ option_map suc (body_len 0 (blanked InLine xs)) = rw (stops.0, stops.1) refl in
    ap (body_len 0) front ∙ passed ∙ ap (option_map suc) (body_len-plain k xs (λ i below. plain (suc i) (omega arith))) ∙ suc-shift k _

body_len-search : (xs : List ℕ) (at k : ℕ) → ((i : ℕ) → 0 ≤ i → i < k → ¬ Passes is_stop (rest_of xs at) i) → body_from xs at ≡ body_from xs (at + k)
body_len-search xs at k nowhere =
    let none : ((i : ℕ) → 0 ≤ i → i < k → ¬ Passes is_stop (drop at xs) i) = subst (λ part. (i : ℕ) → 0 ≤ i → i < k → ¬ Passes is_stop part i) (take_rest xs at) nowhere in
    ap (shift at) (body_len-plain k (drop at xs) (λ i below. false_from_ne_true _ (none i (omega arith) below)))
    ∙ shift-shift at k _ ∙ ap (λ rest. shift (at + k) (body_len 0 (blanked InLine rest))) (drop-drop k at xs)

-- where the search stopped
pub record Stops (xs : List ℕ) (at i : ℕ) : Type 0 where
  pub inside : i < length xs
  pub stop : is_stop (get_or xs i 0) ≡ true
  pub left : shift at (body_len 0 (blanked InLine (drop at xs))) ≡ shift i (body_len 0 (blanked InLine (drop i xs)))

pub search_stops : (xs : List ℕ) (at k : ℕ) → at ≤ length xs → NoneBefore (Passes is_stop (rest_of xs at)) 0 (length (rest_of xs at)) k → Passes is_stop (rest_of xs at) k → Stops xs at (at + k)
search_stops xs at k in_range before here =
    let short : length (rest_of xs at) ≡ length xs - at = ap length (take_rest xs at) ∙ length-drop at xs in
    record {
      inside = omega (arith, before.high);
      stop = ap is_stop (sym (get_or-drop at xs k 0)) ∙ subst (λ part. is_stop (get_or part k 0) ≡ true) (take_rest xs at) here;
      left = body_len-search xs at k before.before;
    }

pub search_fails : (xs : List ℕ) (at : ℕ) → Nowhere (Passes is_stop (rest_of xs at)) 0 (length (rest_of xs at)) → shift at (body_len 0 (blanked InLine (drop at xs))) ≡ None
search_fails xs at nowhere =
    let short : length (rest_of xs at) ≡ length xs - at = ap length (take_rest xs at) ∙ length-drop at xs in
    body_len-search xs at (length (rest_of xs at)) nowhere ∙ ap (λ rest. shift (at + length (rest_of xs at)) (body_len 0 (blanked InLine rest))) (drop_all _ xs (omega arith))

-- at a `;` the statement ends
pub body_len-semicolon : (xs : List ℕ) (i : ℕ) → i < length xs → get_or xs i 0 ≡ 59 → body_from xs i ≡ Some i
body_len-semicolon xs i inside here =
    let zero_more : i + 0 ≡ i = omega arith in
    rw (drop-cons xs i 0 inside, here) (ap Some zero_more)

-- a text is passed over, and the quote alone where it opens none
body_len-quote : (rest : List ℕ) → body_len 0 (blanked InLine (34 ∷ rest)) ≡ shift (suc (unwrap_or (text_len false rest) 0)) (body_len 0 (blanked InLine (drop (unwrap_or (text_len false rest) 0) rest)))
body_len-quote rest =
    ap (λ o. option_map suc (body_len (unwrap_or o 0) (blanked InLine rest))) (text_len-line false rest)
    ∙ ap (option_map suc) (body_len-passed _ (blanked InLine rest) ∙ ap (λ part. shift (unwrap_or (text_len false rest) 0) (body_len 0 part)) (drop-line _ rest (within (text_len false rest) refl)))
    ∙ suc-shift (unwrap_or (text_len false rest) 0) _
  where
    within : (o : Option ℕ) → text_len false rest ≡ o → unwrap_or o 0 ≤ prefix_len in_line rest
    within None is = omega arith
    within (Some n) is = text_len-inside false rest n is

mapped_none : (o : Option ℕ) → option_map suc o ≡ None → o ≡ None
mapped_none None none = refl
mapped_none (Some m) none = absurd (cc)

-- a text that its line doesn't close isn't closed from the next byte on, nor does a quote there open another
later_open : (e : Bool) (b : ℕ) (rest : List ℕ) → text_len e (b ∷ rest) ≡ None → eqb b 10 ≡ false → (later : Bool) × ((text_len later rest ≡ None) × (eqb b 34 ≡ true → text_len false rest ≡ None))
later_open e b rest unclosed within = by_escaped e (rw within at unclosed)
  where
    by_quote : (quote : Bool) → eqb b 34 ≡ quote → cond quote (Some 1) (option_map suc (text_len (eqb b 92) rest)) ≡ None → (later : Bool) × ((text_len later rest ≡ None) × (eqb b 34 ≡ true → text_len false rest ≡ None))
    by_quote true is here = absurd (cc)
    by_quote false is here = (eqb b 92, (mapped_none _ here, λ quote. absurd (true≢false (sym quote ∙ is))))

    by_escaped : (e : Bool) → cond e (option_map suc (text_len false rest)) (cond (eqb b 34) (Some 1) (option_map suc (text_len (eqb b 92) rest))) ≡ None → (later : Bool) × ((text_len later rest ≡ None) × (eqb b 34 ≡ true → text_len false rest ≡ None))
    by_escaped true here = (false, (mapped_none _ here, λ quote. mapped_none _ here))
    by_escaped false here = by_quote (eqb b 34) refl here

-- the search goes on at the next `;` or the line's end
abbrev SkipsOpen : List ℕ → Type 0
SkipsOpen text = body_len 0 (blanked InLine text) ≡ shift (open_len text) (body_len 0 (blanked InLine (drop (open_len text) text)))

skips_none : (text : List ℕ) → 0 ≡ open_len text → SkipsOpen text
skips_none text len = subst (λ n. body_len 0 (blanked InLine text) ≡ shift n (body_len 0 (blanked InLine (drop n text)))) len (shift-zero _)

skips_one : (b : ℕ) (rest : List ℕ) → eqb b 59 ≡ false → eqb b 10 ≡ false → (eqb b 34 ≡ true → text_len false rest ≡ None) → SkipsOpen rest → SkipsOpen (b ∷ rest)
skips_one b rest ends line unclosed later =
    let one : 1 + open_len rest ≡ suc (open_len rest) = omega arith in
    let len : suc (open_len rest) ≡ open_len (b ∷ rest) = rw (ends, line, one) refl in
    let front : blanked InLine (b ∷ rest) ≡ b ∷ blanked InLine rest = rw line refl in
    let none : covered b (blanked InLine rest) ≡ 0 = by_quote (eqb b 34) refl in
    let passed : body_len 0 (b ∷ blanked InLine rest) ≡ option_map suc (body_len (covered b (blanked InLine rest)) (blanked InLine rest)) = rw ends refl in
    subst (λ n. body_len 0 (blanked InLine (b ∷ rest)) ≡ shift n (body_len 0 (blanked InLine (drop n (b ∷ rest))))) len
    (ap (body_len 0) front ∙ passed ∙ ap (λ n. option_map suc (body_len n (blanked InLine rest))) none ∙ ap (option_map suc) later ∙ suc-shift (open_len rest) _)
  where
    by_quote : (quote : Bool) → eqb b 34 ≡ quote → cond (eqb b 34) (unwrap_or (text_len false (blanked InLine rest)) 0) 0 ≡ 0
    by_quote true is = rw (is, text_len-line false rest, unclosed is) refl
    by_quote false is = rw is refl

-- in a line that leaves a text open only a `;` counts
body_len-open : (e : Bool) (text : List ℕ) → text_len e text ≡ None → SkipsOpen text
body_len-open e [] unclosed = refl
body_len-open e (b ∷ rest) unclosed = by_end (λ later. body_len-open later rest) (eqb b 59) refl
  where
    by_line : ((later : Bool) → text_len later rest ≡ None → SkipsOpen rest) → eqb b 59 ≡ false → (line : Bool) → eqb b 10 ≡ line → SkipsOpen (b ∷ rest)
    by_line each ends true line = skips_none (b ∷ rest) (rw (ends, line) refl)
    by_line each ends false line =
        let next = later_open e b rest unclosed line in
        skips_one b rest ends line next.1.1 (each next.0 next.1.0)

    by_end : ((later : Bool) → text_len later rest ≡ None → SkipsOpen rest) → (ends : Bool) → eqb b 59 ≡ ends → SkipsOpen (b ∷ rest)
    by_end each true ends = skips_none (b ∷ rest) (rw ends refl)
    by_end each false ends = by_line each ends (eqb b 10) refl

-- a text is passed over, and where the line ends first what stands before the next `;` of that line
body_len-text : (rest : List ℕ) → body_len 0 (blanked InLine (34 ∷ rest)) ≡ shift (suc (unwrap_or (text_len false rest) (open_len rest))) (body_len 0 (blanked InLine (drop (unwrap_or (text_len false rest) (open_len rest)) rest)))
body_len-text rest = by_text (text_len false rest) refl
  where
    by_text : (o : Option ℕ) → text_len false rest ≡ o → body_len 0 (blanked InLine (34 ∷ rest)) ≡ shift (suc (unwrap_or o (open_len rest))) (body_len 0 (blanked InLine (drop (unwrap_or o (open_len rest)) rest)))
    by_text (Some n) is = subst (λ o. body_len 0 (blanked InLine (34 ∷ rest)) ≡ shift (suc (unwrap_or o 0)) (body_len 0 (blanked InLine (drop (unwrap_or o 0) rest)))) is (body_len-quote rest)
    by_text None is =
        let one : 1 + open_len rest ≡ suc (open_len rest) = omega arith in
        subst (λ o. body_len 0 (blanked InLine (34 ∷ rest)) ≡ shift (suc (unwrap_or o 0)) (body_len 0 (blanked InLine (drop (unwrap_or o 0) rest)))) is (body_len-quote rest)
        ∙ ap (shift 1) (body_len-open false rest is)
        ∙ shift-shift 1 (open_len rest) _
        ∙ ap (λ n. shift n (body_len 0 (blanked InLine (drop (open_len rest) rest)))) one

-- a comment is passed over
body_len-comment : (text : List ℕ) → body_len 0 (blanked InComment text) ≡ shift (line_len text) (body_len 0 (blanked InLine (drop (line_len text) text)))
body_len-comment [] = refl
body_len-comment (b ∷ text) = by_end (body_len-comment text) (eqb b 10) refl
  where
    by_end : body_len 0 (blanked InComment text) ≡ shift (line_len text) (body_len 0 (blanked InLine (drop (line_len text) text))) → (ends : Bool) → eqb b 10 ≡ ends → body_len 0 (blanked InComment (b ∷ text)) ≡ shift (line_len (b ∷ text)) (body_len 0 (blanked InLine (drop (line_len (b ∷ text)) (b ∷ text))))
    by_end later true ends = rw (eqb-true b 10 ends) (shift-zero _)
    by_end later false ends =
        let one : 1 + line_len text ≡ suc (line_len text) = omega arith in
        rw (ends, one) (ap (option_map suc) later ∙ suc-shift (line_len text) _)

body_len-line_start : (rest : List ℕ) → body_len 0 (blanked LineStart rest) ≡ shift (comment_len rest) (body_len 0 (blanked InLine (drop (comment_len rest) rest)))
body_len-line_start [] = refl
body_len-line_start (b ∷ rest) = by_first (eqb b 35) refl
  where
    by_first : (first : Bool) → eqb b 35 ≡ first → body_len 0 (blanked LineStart (b ∷ rest)) ≡ shift (comment_len (b ∷ rest)) (body_len 0 (blanked InLine (drop (comment_len (b ∷ rest)) (b ∷ rest))))
    by_first true first = rw (eqb-true b 35 first) (body_len-comment (35 ∷ rest))
    by_first false first =
        let none : 0 ≡ comment_len (b ∷ rest) = rw first refl in
        let same : blanked LineStart (b ∷ rest) ≡ blanked InLine (b ∷ rest) = blanked-byte true b rest first ∙ sym (blanked-byte false b rest refl) in
        subst (λ n. body_len 0 (blanked LineStart (b ∷ rest)) ≡ shift n (body_len 0 (blanked InLine (drop n (b ∷ rest))))) none (ap (body_len 0) same ∙ shift-zero _)

is_end : (b : ℕ) → is_stop b ≡ true → (b ≡ 59 → ⊥) → eqb b 34 ≡ false → b ≡ 10
is_end b stop no_end no_quote = eqb-true b 10 (subst (λ t. (t || eqb b 10) ≡ true) no_quote (subst (λ t. ((t || eqb b 34) || eqb b 10) ≡ true) (ne_eqb b 59 no_end) stop))

-- what stands after a quote or a line feed is passed over
module _ (xs : List ℕ) (i n : ℕ) (inside : i < length xs) where
  rest_is : rest_of xs (i + 1) ≡ drop (suc i) xs
  rest_is = take_rest xs (i + 1) ∙ ap (λ j. drop j xs) (let e : i + 1 ≡ suc i = omega arith in e)

  lands : shift i (shift (suc n) (body_len 0 (blanked InLine (drop n (drop (suc i) xs))))) ≡ body_from xs (i + 1 + n)
  lands =
      let place : i + suc n ≡ i + 1 + n = omega arith in
      let index : suc i + n ≡ i + 1 + n = omega arith in
      shift-shift i (suc n) _
      ∙ ap (λ part. shift (i + suc n) (body_len 0 (blanked InLine part))) (drop-drop n (suc i) xs)
      ∙ ap (λ m. shift m (body_len 0 (blanked InLine (drop (suc i + n) xs)))) place
      ∙ ap (λ m. shift (i + 1 + n) (body_len 0 (blanked InLine (drop m xs)))) index

  passes-text : get_or xs i 0 ≡ 34 → n ≡ unwrap_or (text_len false (rest_of xs (i + 1))) (open_len (rest_of xs (i + 1))) → body_from xs i ≡ body_from xs (i + 1 + n)
  passes-text here passed =
      let n_is : unwrap_or (text_len false (drop (suc i) xs)) (open_len (drop (suc i) xs)) ≡ n = ap (λ l. unwrap_or (text_len false l) (open_len l)) (sym rest_is) ∙ sym passed in
      ap (λ l. shift i (body_len 0 (blanked InLine l))) (drop-cons xs i 0 inside ∙ ap (λ b. b ∷ drop (suc i) xs) here)
      ∙ ap (shift i) (body_len-text (drop (suc i) xs) ∙ ap (λ m. shift (suc m) (body_len 0 (blanked InLine (drop m (drop (suc i) xs))))) n_is)
      ∙ lands

  passes-line_feed : get_or xs i 0 ≡ 10 → n ≡ comment_len (rest_of xs (i + 1)) → body_from xs i ≡ body_from xs (i + 1 + n)
  passes-line_feed here passed =
      let n_is : comment_len (drop (suc i) xs) ≡ n = ap comment_len (sym rest_is) ∙ sym passed in
      ap (λ l. shift i (body_len 0 (blanked InLine l))) (drop-cons xs i 0 inside ∙ ap (λ b. b ∷ drop (suc i) xs) here)
      ∙ ap (shift i) (ap (option_map suc) (body_len-line_start (drop (suc i) xs)) ∙ suc-shift (comment_len (drop (suc i) xs)) _ ∙ ap (λ m. shift (suc m) (body_len 0 (blanked InLine (drop m (drop (suc i) xs))))) n_is)
      ∙ lands

  pub body_len-passes : is_stop (get_or xs i 0) ≡ true → (get_or xs i 0 ≡ 59 → ⊥) → n ≡ cond (eqb (get_or xs i 0) 34) (unwrap_or (text_len false (rest_of xs (i + 1))) (open_len (rest_of xs (i + 1)))) (comment_len (rest_of xs (i + 1))) → body_from xs i ≡ body_from xs (i + 1 + n)
  body_len-passes stop no_end passed = by_quote (eqb (get_or xs i 0) 34) refl
    where
      by_quote : (quote : Bool) → eqb (get_or xs i 0) 34 ≡ quote → body_from xs i ≡ body_from xs (i + 1 + n)
      by_quote true quote = passes-text (eqb-true _ 34 quote) (rw quote at passed)
      by_quote false quote = passes-line_feed (is_end _ stop no_end quote) (rw quote at passed)
