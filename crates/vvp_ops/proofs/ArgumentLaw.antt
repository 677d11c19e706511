-- An argument of any kind: what is read is spelled so, and what is spelled so is read.
use Rattle.std.proofs.Common.{◌≡◌, ℕ, ◌+◌, List, [], ◌∷◌, length, take, drop, codes, Bool, true, false, ◌&&◌, ◌==◌, nat_eq, Option, None, Some, is_some, refl, sym, ap, ◌∙◌, subst, if◌then◌else◌, ◌⊎◌, inl, inr, eqb-true}
use Rattle.std.specs.List.{All, prefix_len}
use Rattle.std.proofs.lemmas.List.Elements.{All-head}
use Rattle.std.specs.Prelude.{slice_index}
use Rattle.std.specs.Char.{is_ascii_digit}
use Rattle.std.specs.Str.{bytes_eq}
use Rattle.std.proofs.lemmas.Bool.{false≢true, and_parts}
use Rattle.vvp_lex.specs.declared.types.Name.{Name}
use Rattle.vvp_lex.specs.declared.types.Spanned.{Spanned}
use Rattle.vvp_lex.specs.declared.types.Token.{Token}
use Rattle.vvp_lex.specs.declared.types.Token.TheVariants as token
use Rattle.vvp_lex.specs.Unescaped.{text_of}
use Rattle.four_state.specs.declared.bits.Bit.{Bit}
use Rattle.vvp_ops.specs.declared.args.Arg.{Arg}
use Rattle.vvp_ops.specs.declared.args.Arg.TheVariants as a
use Rattle.vvp_lex.specs.Place.{span_of, bytes_of, word_at, Begins, BeginsAt, mark_at}
use Rattle.vvp_ops.specs.Tokens.{decimal}
use Rattle.vvp_lex.specs.Vector.{vector_of}
use Rattle.vvp_ops.specs.Arguments.{mark_len, sized_vector, based_argument, stack_argument, array_argument, part_argument, place_argument, opens_stack, word_argument, argument_as, argument_at, tokens_in}
use Rattle.vvp_ops.specs.Spelled.{IsTimeWord, IsArgument}
use Rattle.vvp_lex.proofs.FrontLemmas.{bind-some, some_inj, get-complete, word-sound, mark-next}
use Rattle.vvp_lex.proofs.BasedLemmas.{IsBasedOf}
use Rattle.vvp_ops.proofs.VectorSpells.{vector-sound, vector-complete}
use Rattle.vvp_ops.proofs.ArgumentSpells.{if-some, same_bytes, bytes_same, stack-sound, stack-complete, array-sound, array-complete, part-sound, part-complete}

if-cases : {A : Type 0} (test : Bool) (x y z : A) → (if test then x else y) ≡ z → ((test ≡ true) × (x ≡ z)) ⊎ ((test ≡ false) × (y ≡ z))
if-cases true x y z h = inl (refl, h)
if-cases false x y z h = inr (refl, h)

-- an argument is spelled by its tokens at the front
abbrev IsFront : List ℕ → List Spanned → Arg Name → Type 0
IsFront file tokens arg = IsArgument file tokens (drop (tokens_in arg) tokens) arg

-- what is read of a vector is one
based-is : (text : List ℕ) (arg : Arg Name) → based_argument text ≡ Some arg → (value : List Bit) × (signed : Bool) × (a.Based value signed ≡ arg)
unfolding based_argument sized_vector
based-is text arg h =
    let size = prefix_len is_ascii_digit text in
    let signed = slice_index text (size + 1) == 115 in
    let value = bind-some (vector_of (drop (size + mark_len signed) text)) _ arg h in
    let last = if-some (decimal (take size text) == length (drop (size + mark_len signed) text)) (a.Based value.0 signed) arg value.2 in
    (value.0, signed, last.1)

based-spelled : (file : List ℕ) (first : Spanned) (rest : List Spanned) (arg : Arg Name) → IsBasedOf file first → first.token ≡ token.Based → based_argument (bytes_of file (span_of first)) ≡ Some arg → IsFront file (first ∷ rest) arg
based-spelled file first rest arg given based h =
    let is = based-is (bytes_of file (span_of first)) arg h in
    subst (IsFront file (first ∷ rest)) is.2 (span_of first, (first, refl, based, refl), vector-sound (bytes_of file (span_of first)) is.0 is.1 (given based) (h ∙ ap Some (sym is.2)))

not_same : (word text : List ℕ) → bytes_eq word text ≡ false → ¬ (word ≡ text)
not_same word text h same = false≢true (sym h ∙ bytes_same word text same)

-- a word: a stack item or a symbol, after the time words
symbol-spelled : (file : List ℕ) (tokens : List Spanned) (name : Name) (arg : Arg Name) → BeginsAt token.Word name tokens (drop 1 tokens) → ¬ IsTimeWord (bytes_of file name) → ((opens_stack (bytes_of file name) tokens ≡ true) × (stack_argument file tokens ≡ Some arg)) ⊎ ((opens_stack (bytes_of file name) tokens ≡ false) × (Some (a.Symbol name) ≡ Some arg)) → IsFront file tokens arg
symbol-spelled file tokens name arg one no_time (inl is) =
    let opens = and_parts _ _ is.0 in
    let found = stack-sound file tokens arg (name, one, same_bytes _ _ opens.0) is.1 in
    subst (IsFront file tokens) found.3 found.4
symbol-spelled file tokens name arg one no_time (inr is) =
    subst (IsFront file tokens) (some_inj (a.Symbol name) arg is.1) (one, no_time)

no_time_word : (word : List ℕ) → bytes_eq word (codes "$time") ≡ false → bytes_eq word (codes "$stime") ≡ false → bytes_eq word (codes "$simtime") ≡ false → ¬ IsTimeWord word
no_time_word word time stime simtime (inl is) = not_same word _ time is
no_time_word word time stime simtime (inr (inl is)) = not_same word _ stime is
no_time_word word time stime simtime (inr (inr is)) = not_same word _ simtime is

abbrev after_time : List ℕ → List Spanned → Name → Option (Arg Name)
after_time file tokens name =
    if opens_stack (bytes_of file name) tokens then stack_argument file tokens else Some (a.Symbol name)

simtime-spelled : (file : List ℕ) (tokens : List Spanned) (name : Name) (arg : Arg Name) → BeginsAt token.Word name tokens (drop 1 tokens) → bytes_eq (bytes_of file name) (codes "$time") ≡ false → bytes_eq (bytes_of file name) (codes "$stime") ≡ false → ((bytes_eq (bytes_of file name) (codes "$simtime") ≡ true) × (Some a.SimTime ≡ Some arg)) ⊎ ((bytes_eq (bytes_of file name) (codes "$simtime") ≡ false) × (after_time file tokens name ≡ Some arg)) → IsFront file tokens arg
simtime-spelled file tokens name arg one no_time no_stime (inl is) =
    subst (IsFront file tokens) (some_inj a.SimTime arg is.1) (name, one, same_bytes _ _ is.0)
simtime-spelled file tokens name arg one no_time no_stime (inr is) =
    symbol-spelled file tokens name arg one (no_time_word _ no_time no_stime is.0) (if-cases (opens_stack (bytes_of file name) tokens) _ _ _ is.1)

abbrev after_stime : List ℕ → List Spanned → Name → Option (Arg Name)
after_stime file tokens name =
    if bytes_eq (bytes_of file name) (codes "$simtime") then Some a.SimTime else after_time file tokens name

stime-spelled : (file : List ℕ) (tokens : List Spanned) (name : Name) (arg : Arg Name) → BeginsAt token.Word name tokens (drop 1 tokens) → bytes_eq (bytes_of file name) (codes "$time") ≡ false → ((bytes_eq (bytes_of file name) (codes "$stime") ≡ true) × (Some a.ShortTime ≡ Some arg)) ⊎ ((bytes_eq (bytes_of file name) (codes "$stime") ≡ false) × (after_stime file tokens name ≡ Some arg)) → IsFront file tokens arg
stime-spelled file tokens name arg one no_time (inl is) =
    subst (IsFront file tokens) (some_inj a.ShortTime arg is.1) (name, one, same_bytes _ _ is.0)
stime-spelled file tokens name arg one no_time (inr is) =
    simtime-spelled file tokens name arg one no_time is.0 (if-cases (bytes_eq (bytes_of file name) (codes "$simtime")) _ _ _ is.1)

abbrev after_all : List ℕ → List Spanned → Name → Option (Arg Name)
after_all file tokens name =
    if bytes_eq (bytes_of file name) (codes "$stime") then Some a.ShortTime else after_stime file tokens name

time-spelled : (file : List ℕ) (tokens : List Spanned) (name : Name) (arg : Arg Name) → BeginsAt token.Word name tokens (drop 1 tokens) → ((bytes_eq (bytes_of file name) (codes "$time") ≡ true) × (Some a.Time ≡ Some arg)) ⊎ ((bytes_eq (bytes_of file name) (codes "$time") ≡ false) × (after_all file tokens name ≡ Some arg)) → IsFront file tokens arg
time-spelled file tokens name arg one (inl is) =
    subst (IsFront file tokens) (some_inj a.Time arg is.1) (name, one, same_bytes _ _ is.0)
time-spelled file tokens name arg one (inr is) =
    stime-spelled file tokens name arg one is.0 (if-cases (bytes_eq (bytes_of file name) (codes "$stime")) _ _ _ is.1)

word-spelled : (file : List ℕ) (tokens : List Spanned) (name : Name) (arg : Arg Name) → BeginsAt token.Word name tokens (drop 1 tokens) → word_argument file tokens name ≡ Some arg → IsFront file tokens arg
unfolding word_argument
word-spelled file tokens name arg one h =
    time-spelled file tokens name arg one (if-cases (bytes_eq (bytes_of file name) (codes "$time")) _ _ _ h)

-- an ampersand: an array's word or a part
part-spelled : (file : List ℕ) (tokens : List Spanned) (word : Name) (arg : Arg Name) → Begins (token.Punct 38) tokens (drop 1 tokens) → BeginsAt token.Word word (drop 1 tokens) (drop 2 tokens) → ((bytes_eq (bytes_of file word) (codes "PV") ≡ true) × (part_argument tokens ≡ Some arg)) ⊎ ((bytes_eq (bytes_of file word) (codes "PV") ≡ false) × (None ≡ Some arg)) → IsFront file tokens arg
part-spelled file tokens word arg ampersand one (inl is) =
    let found = part-sound file tokens arg ampersand (word, one, same_bytes _ _ is.0) is.1 in
    subst (IsFront file tokens) found.3 found.4
part-spelled file tokens word arg ampersand one (inr is) = let none : None ≡ Some arg = is.1 in cc

abbrev after_array : List ℕ → List Spanned → Name → Option (Arg Name)
after_array file tokens word =
    if bytes_eq (bytes_of file word) (codes "PV") then part_argument tokens else None

array-spelled : (file : List ℕ) (tokens : List Spanned) (word : Name) (arg : Arg Name) → Begins (token.Punct 38) tokens (drop 1 tokens) → BeginsAt token.Word word (drop 1 tokens) (drop 2 tokens) → ((bytes_eq (bytes_of file word) (codes "A") ≡ true) × (array_argument tokens ≡ Some arg)) ⊎ ((bytes_eq (bytes_of file word) (codes "A") ≡ false) × (after_array file tokens word ≡ Some arg)) → IsFront file tokens arg
array-spelled file tokens word arg ampersand one (inl is) =
    let found = array-sound file tokens arg ampersand (word, one, same_bytes _ _ is.0) is.1 in
    subst (IsFront file tokens) found.2 found.3
array-spelled file tokens word arg ampersand one (inr is) =
    part-spelled file tokens word arg ampersand one (if-cases (bytes_eq (bytes_of file word) (codes "PV")) _ _ _ is.1)

place-spelled : (file : List ℕ) (tokens : List Spanned) (arg : Arg Name) → Begins (token.Punct 38) tokens (drop 1 tokens) → place_argument file tokens ≡ Some arg → IsFront file tokens arg
unfolding place_argument
place-spelled file tokens arg ampersand h =
    let word = bind-some (word_at tokens 1) _ arg h in
    array-spelled file tokens word.0 arg ampersand (word-sound 1 tokens word.0 word.1) (if-cases (bytes_eq (bytes_of file word.0) (codes "A")) _ _ _ word.2)

-- an argument that is read is spelled so
pub argument-sound : (file : List ℕ) (tokens : List Spanned) (arg : Arg Name) → All (IsBasedOf file) tokens → argument_at file tokens ≡ Some arg → IsArgument file tokens (drop (tokens_in arg) tokens) arg
unfolding argument_at
argument-sound file [] arg given h = cc
argument-sound file (first ∷ rest) arg given h = by first.token refl h
  where
    punct : (byte : ℕ) (test : Bool) → nat_eq byte 38 ≡ test → first.token ≡ token.Punct byte → (if test then place_argument file (first ∷ rest) else None) ≡ Some arg → IsFront file (first ∷ rest) arg
    punct byte true is e h =
        place-spelled file (first ∷ rest) arg (first, refl, e ∙ ap token.Punct (eqb-true byte 38 is)) h
    punct byte false is e h = cc

    by : (t : Token) → first.token ≡ t → argument_as t file (first ∷ rest) (span_of first) ≡ Some arg → IsFront file (first ∷ rest) arg
    by token.Text e h =
        subst (IsFront file (first ∷ rest)) (some_inj (a.Text (text_of file (span_of first))) arg h) (span_of first, (first, refl, e, refl), refl)
    by token.Based e h = based-spelled file first rest arg (All-head (IsBasedOf file) first rest given) e h
    by token.Word e h = word-spelled file (first ∷ rest) (span_of first) arg (first, refl, e, refl) h
    by (token.Punct byte) e h = punct byte (nat_eq byte 38) refl e h
    by _ e h = cc

-- what an argument begins with
text-begins : (file : List ℕ) (tokens rest : List Spanned) (name : Name) → BeginsAt token.Text name tokens rest → (argument_at file tokens ≡ Some (a.Text (text_of file name))) × (drop 1 tokens ≡ rest)
unfolding argument_at
text-begins file tokens rest name one =
    let found = get-complete 0 tokens tokens rest one.0 refl one.1 in
    (rw (found.0, one.2, one.3) refl, found.1)

based-begins : (file : List ℕ) (tokens rest : List Spanned) (name : Name) → BeginsAt token.Based name tokens rest → (argument_at file tokens ≡ based_argument (bytes_of file name)) × (drop 1 tokens ≡ rest)
unfolding argument_at
based-begins file tokens rest name one =
    let found = get-complete 0 tokens tokens rest one.0 refl one.1 in
    (rw (found.0, one.2, one.3) refl, found.1)

word-begins : (file : List ℕ) (tokens rest : List Spanned) (name : Name) → BeginsAt token.Word name tokens rest → (argument_at file tokens ≡ word_argument file tokens name) × (drop 1 tokens ≡ rest)
unfolding argument_at
word-begins file tokens rest name one =
    let found = get-complete 0 tokens tokens rest one.0 refl one.1 in
    (rw (found.0, one.2, one.3) refl, found.1)

place-begins : (file : List ℕ) (tokens rest : List Spanned) → Begins (token.Punct 38) tokens rest → argument_at file tokens ≡ place_argument file tokens
unfolding argument_at
place-begins file tokens rest one =
    let found = get-complete 0 tokens tokens rest one.0 refl one.1 in rw (found.0, one.2) refl

-- a word by its bytes
time-read : (file : List ℕ) (tokens : List Spanned) (name : Name) → bytes_of file name ≡ codes "$time" → word_argument file tokens name ≡ Some a.Time
unfolding word_argument
time-read file tokens name is = rw is refl

stime-read : (file : List ℕ) (tokens : List Spanned) (name : Name) → bytes_of file name ≡ codes "$stime" → word_argument file tokens name ≡ Some a.ShortTime
unfolding word_argument
stime-read file tokens name is = rw is refl

simtime-read : (file : List ℕ) (tokens : List Spanned) (name : Name) → bytes_of file name ≡ codes "$simtime" → word_argument file tokens name ≡ Some a.SimTime
unfolding word_argument
simtime-read file tokens name is = rw is refl

stack-read : (file : List ℕ) (tokens : List Spanned) (name : Name) → bytes_of file name ≡ codes "S" → mark_at tokens 1 60 ≡ Some tt → word_argument file tokens name ≡ stack_argument file tokens
unfolding word_argument
stack-read file tokens name is less = rw (is, less) refl

differ : (word text : List ℕ) → ¬ (word ≡ text) → bytes_eq word text ≡ false
differ word text apart = by (bytes_eq word text) refl
  where
    by : (test : Bool) → bytes_eq word text ≡ test → bytes_eq word text ≡ false
    by true e = absurd (apart (same_bytes word text e))
    by false e = e

not_both : (test : Bool) → (test && false) ≡ false
not_both true = refl
not_both false = refl

symbol-read : (file : List ℕ) (tokens : List Spanned) (name : Name) → ¬ IsTimeWord (bytes_of file name) → is_some (mark_at tokens 1 60) ≡ false → word_argument file tokens name ≡ Some (a.Symbol name)
unfolding word_argument
symbol-read file tokens name no_time no_less =
    let time = differ (bytes_of file name) (codes "$time") (λ is. no_time (inl is)) in
    let stime = differ (bytes_of file name) (codes "$stime") (λ is. no_time (inr (inl is))) in
    let simtime = differ (bytes_of file name) (codes "$simtime") (λ is. no_time (inr (inr is))) in
    rw (time, stime, simtime, no_less, not_both (bytes_eq (bytes_of file name) (codes "S"))) refl

-- an argument that is spelled so, with no < after it, is read
pub argument-complete : (file : List ℕ) (arg : Arg Name) (tokens rest : List Spanned) → IsArgument file tokens rest arg → is_some (mark_at rest 0 60) ≡ false → (argument_at file tokens ≡ Some arg) × (drop (tokens_in arg) tokens ≡ rest)
argument-complete file (a.Text bytes) tokens rest is no_less =
    let begins = text-begins file tokens rest is.0 is.1 in
    (begins.0 ∙ ap (λ (b : List ℕ). Some (a.Text b)) (sym is.2), begins.1)
argument-complete file (a.Based value signed) tokens rest is no_less =
    let begins = based-begins file tokens rest is.0 is.1 in (begins.0 ∙ vector-complete (bytes_of file is.0) value signed is.2, begins.1)
argument-complete file (a.Symbol name) tokens rest is no_less =
    let begins = word-begins file tokens rest name is.0 in
    let after : is_some (mark_at tokens 1 60) ≡ false = ap is_some (mark-next tokens 0 60) ∙ ap (λ (l : List Spanned). is_some (mark_at l 0 60)) begins.1 ∙ no_less in
    (begins.0 ∙ symbol-read file tokens name is.1 after, begins.1)
argument-complete file a.Time tokens rest is no_less =
    let begins = word-begins file tokens rest is.0 is.1 in (begins.0 ∙ time-read file tokens is.0 is.2, begins.1)
argument-complete file a.ShortTime tokens rest is no_less =
    let begins = word-begins file tokens rest is.0 is.1 in (begins.0 ∙ stime-read file tokens is.0 is.2, begins.1)
argument-complete file a.SimTime tokens rest is no_less =
    let begins = word-begins file tokens rest is.0 is.1 in (begins.0 ∙ simtime-read file tokens is.0 is.2, begins.1)
argument-complete file (a.Stack place width signed) tokens rest is no_less =
    let begins = word-begins file tokens is.t1 is.opens.0 is.opens.1 in
    let read = stack-complete file tokens rest place width signed is in
    (begins.0 ∙ stack-read file tokens is.opens.0 is.opens.2 read.0 ∙ read.1, read.2)
argument-complete file (a.Word array index) tokens rest is no_less =
    let read = array-complete file tokens rest array index is in
    (place-begins file tokens is.t1 is.ampersand ∙ read.0, read.1)
argument-complete file (a.Part item base width) tokens rest is no_less =
    let read = part-complete file tokens rest item base width is in
    (place-begins file tokens is.t1 is.ampersand ∙ read.0, read.1)
