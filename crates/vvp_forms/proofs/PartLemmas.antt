-- The parts of operands that have several tokens or several spellings: what is read is spelled so, and what is spelled so is
-- read.
use Rattle.std.proofs.Common.{◌≡◌, ℕ, suc, ◌<◌, ◌^◌, Bool, true, false, List, [], ◌∷◌, drop, nat_lt, Option, None, Some, refl, sym, ap, ◌∙◌, subst, if◌then◌else◌, inl, inr}
use Rattle.std.specs.Prelude.{ℤ, pos, neg_ℤ}
use Rattle.std.specs.Option.{option_map}
use Rattle.std.proofs.lemmas.Bool.{lt-ltb, ltb-true}
use Rattle.vvp_lex.specs.declared.types.Name.{Name}
use Rattle.vvp_lex.specs.declared.types.Spanned.{Spanned}
use Rattle.vvp_lex.specs.declared.types.Token.{Token}
use Rattle.vvp_lex.specs.declared.types.Token.TheVariants as token
use Rattle.vvp_forms.specs.declared.form.Port.{Port}
use Rattle.vvp_forms.specs.declared.form.Port.TheVariants as port
use Rattle.vvp_lex.specs.Place.{◌>>=◌, span_of, bytes_of, is_mark, number_at, word_in, word_at, is_mark_at}
use Rattle.vvp_forms.specs.Numbers.{size_at, integer_at, power_at}
use Rattle.vvp_forms.specs.Ports.{constant_of, between, port_in, port_at}
use Rattle.vvp_forms.specs.Operands.{symbols_of, symbols_after, with_name, drives_at}
use Rattle.vvp_forms.specs.Pieces.{◌>>◌, IsMark, IsNumber, IsSize, IsInteger, IsPower, AreMoreSymbols, AreSymbols, AreDrives, IsPort}
use Rattle.vvp_lex.proofs.FrontLemmas.{some_inj, bind-some, test-some, is_mark-is, is_mark_at-sound, is_mark_at-complete, number-sound, number-complete, word-sound, word-complete, is_mark_at-next}
use Rattle.vvp_forms.proofs.FrontLemmas.{number-no_mark, minus-no_plus, number-next, drop-one}

abbrev small_of : ℕ → Option ℕ
small_of n = if nat_lt n (2 ^ 31) then Some n else None

small-some : (n size : ℕ) → small_of n ≡ Some size → (n ≡ size) × (n < 2 ^ 31)
small-some n size is =
    let read = test-some (nat_lt n (2 ^ 31)) (Some n) size is in
    (some_inj n size read.1, ltb-true _ _ read.0)

-- a number of at most 2^31 - 1
size-sound : (size : ℕ) (tokens : List Spanned) → size_at tokens 0 ≡ Some size → IsSize size tokens (drop 1 tokens)
unfolding size_at
size-sound size tokens is =
    let read = bind-some (number_at tokens 0) small_of size is in
    let fits = small-some read.0 size read.2 in
    (subst (λ n. IsNumber n tokens (drop 1 tokens)) fits.0 (number-sound 0 tokens read.0 read.1), subst (λ n. n < 2 ^ 31) fits.0 fits.1)

size-complete : (size : ℕ) (tokens rest : List Spanned) → IsSize size tokens rest → size_at tokens 0 ≡ Some size
unfolding size_at
size-complete size tokens rest is =
    let small : nat_lt size (2 ^ 31) ≡ true = lt-ltb _ _ is.1 in
    rw ((number-complete 0 tokens tokens rest size refl is.0).0, small) refl

size-next : (tokens : List Spanned) (place : ℕ) → size_at tokens (suc place) ≡ size_at (drop 1 tokens) place
unfolding size_at
size-next tokens place = rw (number-next tokens place) refl

-- the same after a mark
after-sound : (byte size : ℕ) (tokens : List Spanned) → is_mark_at tokens 0 byte ≡ true → size_at tokens 1 ≡ Some size → (IsMark byte >> IsSize size) tokens (drop 2 tokens)
unfolding is_mark_at
after-sound byte size [] mark is = absurd (cc)
after-sound byte size (first ∷ tokens) mark is =
    (tokens, is_mark_at-sound 0 (first ∷ tokens) byte mark, size-sound size tokens (sym (size-next (first ∷ tokens) 0) ∙ is))

after-complete : (byte size : ℕ) (tokens rest : List Spanned) → (IsMark byte >> IsSize size) tokens rest → (is_mark_at tokens 0 byte ≡ true) × (size_at tokens 1 ≡ Some size) × (drop 2 tokens ≡ rest)
after-complete byte size tokens rest is =
    let passed : drop 1 tokens ≡ is.0 = ap (drop 1) is.1.1 in
    let both : tokens ≡ is.1.0 ∷ is.2.0.0 ∷ rest = is.1.1 ∙ ap (λ l. is.1.0 ∷ l) is.2.0.1 in
    ((is_mark_at-complete 0 tokens tokens is.0 byte refl is.1).0, size-next tokens 0 ∙ ap (λ l. size_at l 0) passed ∙ size-complete size is.0 rest is.2, ap (drop 2) both)

abbrev negative_of : ℕ → Option (ℤ × ℕ)
negative_of value = Some (neg_ℤ (pos value), 2)

abbrev plain_of : ℕ → Option (ℤ × ℕ)
plain_of value = Some (pos value, 1)

abbrev positive_of : ℕ → Option (ℤ × ℕ)
positive_of value = Some (pos value, 2)

-- an integer
pub integer-sound : (value : ℤ) (used : ℕ) (tokens : List Spanned) → integer_at tokens ≡ Some (value, used) → IsInteger value tokens (drop used tokens)
unfolding integer_at
integer-sound value used tokens is = by (is_mark_at tokens 0 45) refl is
  where
    by : (minus : Bool) → is_mark_at tokens 0 45 ≡ minus → (if minus then (size_at tokens 1 >>= negative_of) else (size_at tokens 0 >>= plain_of)) ≡ Some (value, used) → IsInteger value tokens (drop used tokens)
    by true e h =
        let read = bind-some (size_at tokens 1) negative_of (value, used) h in
        let both = some_inj (neg_ℤ (pos read.0), 2) (value, used) read.2 in
        subst (λ (r : ℤ × ℕ). IsInteger r.0 tokens (drop r.1 tokens)) both (inr (read.0, after-sound 45 read.0 tokens e read.1, refl))
    by false e h =
        let read = bind-some (size_at tokens 0) plain_of (value, used) h in
        let both = some_inj (pos read.0, 1) (value, used) read.2 in
        subst (λ (r : ℤ × ℕ). IsInteger r.0 tokens (drop r.1 tokens)) both (inl (read.0, size-sound read.0 tokens read.1, refl))

pub integer-complete : (value : ℤ) (tokens rest : List Spanned) → IsInteger value tokens rest → (used : ℕ) × (integer_at tokens ≡ Some (value, used)) × (drop used tokens ≡ rest)
unfolding integer_at
integer-complete value tokens rest (inl is) =
    let plain = number-no_mark is.0 45 tokens rest is.1.0 in
    let read = size-complete is.0 tokens rest is.1 in
    (1, rw (plain, read, is.2) refl, ap (drop 1) is.1.0.1)
integer-complete value tokens rest (inr is) =
    let read = after-complete 45 is.0 tokens rest is.1 in
    (2, rw (read.0, read.1, is.2) refl, read.2)

pub power-sound : (value : ℤ) (used : ℕ) (tokens : List Spanned) → power_at tokens ≡ Some (value, used) → IsPower value tokens (drop used tokens)
unfolding power_at
power-sound value used tokens is = by (is_mark_at tokens 0 43) refl is
  where
    by : (plus : Bool) → is_mark_at tokens 0 43 ≡ plus → (if plus then (size_at tokens 1 >>= positive_of) else integer_at tokens) ≡ Some (value, used) → IsPower value tokens (drop used tokens)
    by true e h =
        let read = bind-some (size_at tokens 1) positive_of (value, used) h in
        let both = some_inj (pos read.0, 2) (value, used) read.2 in
        subst (λ (r : ℤ × ℕ). IsPower r.0 tokens (drop r.1 tokens)) both (inr (read.0, after-sound 43 read.0 tokens e read.1, refl))
    by false e h = inl (integer-sound value used tokens h)

integer-no_plus : (value : ℤ) (tokens rest : List Spanned) → IsInteger value tokens rest → is_mark_at tokens 0 43 ≡ false
integer-no_plus value tokens rest (inl is) = number-no_mark is.0 43 tokens rest is.1.0
integer-no_plus value tokens rest (inr is) = minus-no_plus tokens is.1.0 is.1.1

pub power-complete : (value : ℤ) (tokens rest : List Spanned) → IsPower value tokens rest → (used : ℕ) × (power_at tokens ≡ Some (value, used)) × (drop used tokens ≡ rest)
unfolding power_at
power-complete value tokens rest (inl is) =
    let read = integer-complete value tokens rest is in
    let none = integer-no_plus value tokens rest is in
    (read.0, rw (none, read.1) refl, read.2)
power-complete value tokens rest (inr is) =
    let read = after-complete 43 is.0 tokens rest is.1 in
    (2, rw (read.0, read.1, is.2) refl, read.2)

four-drops : (tokens : List Spanned) → drop 1 (drop 1 (drop 1 (drop 1 tokens))) ≡ drop 4 tokens
four-drops [] = refl
four-drops (a ∷ []) = refl
four-drops (a ∷ b ∷ []) = refl
four-drops (a ∷ b ∷ c ∷ []) = refl
four-drops (a ∷ b ∷ c ∷ d ∷ tokens) = refl

abbrev closed : List Spanned → ℕ → ℕ → Option (ℕ × ℕ)
closed tokens low high = if is_mark_at tokens 3 93 then Some (low, high) else None

abbrev with_low : List Spanned → ℕ → Option (ℕ × ℕ)
with_low tokens low = number_at tokens 2 >>= closed tokens low

-- drive strengths
pub drives-sound : (tokens : List Spanned) (drives : ℕ × ℕ) → is_mark_at tokens 0 91 ≡ true → drives_at tokens ≡ Some drives → AreDrives drives.0 drives.1 tokens (drop 4 tokens)
unfolding drives_at
drives-sound tokens drives opened is =
    let low = bind-some (number_at tokens 1) (with_low tokens) drives is in
    let high = bind-some (number_at tokens 2) (closed tokens low.0) drives low.2 in
    let end = test-some (is_mark_at tokens 3 93) (Some (low.0, high.0)) drives high.2 in
    let second = number-sound 0 (drop 1 tokens) low.0 (sym (number-next tokens 0) ∙ low.1) in
    let third = number-sound 0 (drop 1 (drop 1 tokens)) high.0 (sym (number-next tokens 1 ∙ number-next (drop 1 tokens) 0) ∙ high.1) in
    let last = is_mark_at-sound 0 (drop 1 (drop 1 (drop 1 tokens))) 93 (sym (is_mark_at-next tokens 2 93 ∙ is_mark_at-next (drop 1 tokens) 1 93 ∙ is_mark_at-next (drop 1 (drop 1 tokens)) 0 93) ∙ end.0) in
    let closing = subst (IsMark 93 (drop 1 (drop 1 (drop 1 tokens)))) (four-drops tokens) last in
    subst (λ (d : ℕ × ℕ). AreDrives d.0 d.1 tokens (drop 4 tokens)) (some_inj (low.0, high.0) drives end.1) (drop 1 tokens, is_mark_at-sound 0 tokens 91 opened, (drop 1 (drop 1 tokens), second, (drop 1 (drop 1 (drop 1 tokens)), third, closing)))

pub drives-complete : (tokens rest : List Spanned) (low high : ℕ) → AreDrives low high tokens rest → (is_mark_at tokens 0 91 ≡ true) × (drives_at tokens ≡ Some (low, high)) × (drop 4 tokens ≡ rest)
unfolding drives_at
drives-complete tokens rest low high d =
    let first = drop-one (token.Punct 91) tokens d.0 d.1 in
    let second = ap (drop 1) first ∙ drop-one (token.Number low) d.0 d.2.0 d.2.1 in
    let third = ap (drop 1) second ∙ drop-one (token.Number high) d.2.0 d.2.2.0 d.2.2.1 in
    let fourth = ap (drop 1) third ∙ drop-one (token.Punct 93) d.2.2.0 rest d.2.2.2 in
    let low_is : number_at tokens 1 ≡ Some low = number-next tokens 0 ∙ ap (λ l. number_at l 0) first ∙ (number-complete 0 d.0 d.0 d.2.0 low refl d.2.1).0 in
    let high_is : number_at tokens 2 ≡ Some high = number-next tokens 1 ∙ number-next (drop 1 tokens) 0 ∙ ap (λ l. number_at l 0) second ∙ (number-complete 0 d.2.0 d.2.0 d.2.2.0 high refl d.2.2.1).0 in
    let close : is_mark_at tokens 3 93 ≡ true = is_mark_at-next tokens 2 93 ∙ is_mark_at-next (drop 1 tokens) 1 93 ∙ is_mark_at-next (drop 1 (drop 1 tokens)) 0 93 ∙ ap (λ l. is_mark_at l 0 93) third ∙ (is_mark_at-complete 0 d.2.2.0 d.2.2.0 rest 93 refl d.2.2.2).0 in
    ((is_mark_at-complete 0 tokens tokens d.0 91 refl d.1).0, rw (low_is, high_is, close) refl, sym (four-drops tokens) ∙ fourth)

-- a name before those that are read
named-some : (name : Name) (read : Option (List Name)) (names : List Name) → option_map (with_name name) read ≡ Some names → (more : List Name) × (read ≡ Some more) × (name ∷ more ≡ names)
named-some name (Some more) names is = (more, refl, some_inj (name ∷ more) names is)
named-some name None names is = absurd (cc)

abbrev before_more : List Spanned → Name → Option (List Name)
before_more tokens name = option_map (with_name name) (symbols_after tokens)

-- symbols
more-sound : (tokens : List Spanned) (names : List Name) → symbols_after tokens ≡ Some names → AreMoreSymbols names tokens
unfolding word_at
more-sound [] names is = subst (λ (ns : List Name). AreMoreSymbols ns []) (some_inj [] names is) refl
more-sound (comma ∷ []) names is = absurd (cc)
more-sound (comma ∷ symbol ∷ tokens) names is =
    let mark = test-some (is_mark 44 comma.token) (word_in symbol.token (span_of symbol) >>= before_more tokens) names is in
    let word = bind-some (word_in symbol.token (span_of symbol)) (before_more tokens) names mark.1 in
    let more = named-some word.0 (symbols_after tokens) names word.2 in
    let comma_is : IsMark 44 (comma ∷ symbol ∷ tokens) (symbol ∷ tokens) = (comma, refl, is_mark-is 44 comma.token mark.0) in
    subst (λ (ns : List Name). AreMoreSymbols ns (comma ∷ symbol ∷ tokens)) more.2 (tokens, (symbol ∷ tokens, comma_is, word-sound 0 (symbol ∷ tokens) word.0 word.1), more-sound tokens more.0 more.1)

more-complete : (names : List Name) (tokens : List Spanned) → AreMoreSymbols names tokens → symbols_after tokens ≡ Some names
more-complete [] tokens is = ap symbols_after is
more-complete (name ∷ names) tokens is =
    let comma = is.1.1 in
    let word = is.1.2 in
    let both : tokens ≡ comma.0 ∷ word.0 ∷ is.0 = comma.1 ∙ ap (λ l. comma.0 ∷ l) word.1 in
    let mark : is_mark 44 comma.0.token ≡ true = rw comma.2 refl in
    ap symbols_after both ∙ rw (mark, word.2, more-complete names is.0 is.2, word.3) refl

pub symbols-sound : (tokens : List Spanned) (names : List Name) → symbols_of tokens ≡ Some names → AreSymbols names tokens
unfolding symbols_of
symbols-sound tokens names is =
    let word = bind-some (word_at tokens 0) (before_more (drop 1 tokens)) names is in
    let more = named-some word.0 (symbols_after (drop 1 tokens)) names word.2 in
    subst (λ (ns : List Name). AreSymbols ns tokens) more.2 (drop 1 tokens, word-sound 0 tokens word.0 word.1, more-sound (drop 1 tokens) more.0 more.1)

pub symbols-complete : (tokens : List Spanned) (names : List Name) → AreSymbols names tokens → symbols_of tokens ≡ Some names
unfolding symbols_of
symbols-complete tokens [] is = absurd is
symbols-complete tokens (name ∷ names) is =
    let passed : drop 1 tokens ≡ is.0 = ap (drop 1) is.1.1 in
    let more : symbols_after (drop 1 tokens) ≡ Some names = ap symbols_after passed ∙ more-complete names is.0 is.2 in
    rw ((word-complete 0 tokens tokens is.0 name refl is.1).0, more) refl

-- a port
pub port-sound : (file : List ℕ) (tokens : List Spanned) (found : Port) → port_at file tokens 0 ≡ Some found → IsPort file found tokens (drop 1 tokens)
unfolding port_at
port-sound file [] found is = absurd (cc)
port-sound file (first ∷ tokens) found is = by first.token refl is
  where
    by : (t : Token) → first.token ≡ t → port_in file t (span_of first) ≡ Some found → IsPort file found (first ∷ tokens) tokens
    by token.Word e h = inl (span_of first, (first, refl, e, refl), sym (some_inj (port.Sym (span_of first)) found h))
    by token.Const e h = inr (span_of first, (first, refl, e, refl), h)
    by _ e h = absurd (cc)

pub port-complete : (file : List ℕ) (tokens rest : List Spanned) (found : Port) → IsPort file found tokens rest → (port_at file tokens 0 ≡ Some found) × (drop 1 tokens ≡ rest)
unfolding port_at
port-complete file tokens rest found (inl is) = (rw (is.1.1, is.1.2, is.2, is.1.3) refl, ap (drop 1) is.1.1)
port-complete file tokens rest found (inr is) =
    (rw (is.1.1, is.1.2) (ap (λ name. constant_of (between (bytes_of file name))) (sym is.1.3) ∙ is.2), ap (drop 1) is.1.1)
