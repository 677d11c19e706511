-- The reading of a file, as a walk over its words.
use Rattle.std.proofs.Common.{◌≡◌, ℕ, List, [], ◌∷◌, refl, sym, ap, ◌∙◌, Bool, true, false, map}
use Rattle.std.specs.Prelude.{Result, Ok, Err, All}
use Rattle.std.proofs.lemmas.List.Elements.{All-head, All-tail, All-cons, All-nil}
use Rattle.vcd_read.specs.declared.types.Trace.{Trace}
use Rattle.vcd_read.specs.declared.types.VcdKind.{VcdKind}
use Rattle.vcd_read.specs.declared.types.VcdKind.TheVariants.{BadByte}
use Rattle.vcd_read.specs.declared.header.Wanted.{Wanted}
use Rattle.vcd_read.specs.declared.header.Header.{Header}
use Rattle.vcd_read.specs.declared.body.Body.{Body}
use Rattle.vcd_read.specs.declared.reader.Reader.{Reader}
use Rattle.vcd_read.specs.Words.{Spot, is_word}
use Rattle.vcd_read.specs.Reading.{taken, step, onward, run, finish}

abbrev pub stand : Wanted → Header → Body → Reader
stand wanted header body = record { wanted = wanted; header = header; body = body }

abbrev pub onto : (Reader → Result Reader VcdKind) → Result Reader VcdKind → Result Reader VcdKind
onto next (Ok reader) = next reader
onto next (Err kind) = Err kind

-- words one after another, of which none is a bad byte
abbrev pub walk : List (List ℕ) → Reader → Result Reader VcdKind
walk [] reader = Ok reader
walk (word ∷ words) reader = onto (walk words) (taken reader.wanted reader.header reader.body word)

-- one word is taken
pub goes-to : (word : List ℕ) (words : List (List ℕ)) (reader next : Reader) → taken reader.wanted reader.header reader.body word ≡ Ok next → walk (word ∷ words) reader ≡ walk words next
goes-to word words reader next h = ap (onto (walk words)) h

abbrev value_or : {A E : Type 0} → A → Result A E → A
value_or other (Ok value) = value
value_or other (Err error) = other

pub ok-one : {A E : Type 0} (x y : A) → ◌≡◌ {A = Result A E} (Ok x) (Ok y) → x ≡ y
ok-one x y h = ap (value_or x) h

abbrev pub words_in : List Spot → List (List ℕ)
words_in spots = map (λ spot. spot.word) spots

abbrev pub AreWords : List Spot → Type 0
AreWords spots = All (λ spot. is_word spot.word ≡ true) spots

step-word : (reader : Reader) (word : List ℕ) → is_word word ≡ true → step reader word ≡ taken reader.wanted reader.header reader.body word
unfolding step
step-word reader word h = rw h refl

step-byte : (reader : Reader) (word : List ℕ) → is_word word ≡ false → step reader word ≡ Err BadByte
unfolding step
step-byte reader word h = rw h refl

-- where the walk ends the reading does
pub read-walk : (last : ℕ) (spots : List Spot) (reader after : Reader) → AreWords spots → walk (words_in spots) reader ≡ Ok after → run last spots reader ≡ finish after last
read-walk last [] reader after words h = ap (λ r. finish r last) (ok-one reader after h)
read-walk last (spot ∷ spots) reader after words h =
    ap (onward (run last spots) spot.line) (step-word reader spot.word (All-head (λ spot. is_word spot.word ≡ true) spot spots words))
    ∙ by_next (λ next. read-walk last spots next after (All-tail (λ spot. is_word spot.word ≡ true) spot spots words)) (taken reader.wanted reader.header reader.body spot.word) h
  where
    by_next : ((next : Reader) → walk (words_in spots) next ≡ Ok after → run last spots next ≡ finish after last) → (next : Result Reader VcdKind) → onto (walk (words_in spots)) next ≡ Ok after → onward (run last spots) spot.line next ≡ finish after last
    by_next again (Ok next) h = again next h
    by_next again (Err kind) h = absurd (cc)

-- where the reading gives a trace, the walk leads to its end
pub record Walked (last : ℕ) (spots : List Spot) (reader : Reader) (trace : Trace) : Type 0 where
  pub after : Reader
  pub words : AreWords spots
  pub walks : walk (words_in spots) reader ≡ Ok after
  pub ends : finish after last ≡ Ok trace

pub walk-read : (last : ℕ) (spots : List Spot) (reader : Reader) (trace : Trace) → run last spots reader ≡ Ok trace → Walked last spots reader trace
walk-read last [] reader trace h = record { after = reader; words = All-nil (λ spot. is_word spot.word ≡ true); walks = refl; ends = h }
walk-read last (spot ∷ spots) reader trace h = by_word (λ next. walk-read last spots next trace) (is_word spot.word) refl
  where
    by_next : ((next : Reader) → run last spots next ≡ Ok trace → Walked last spots next trace) → is_word spot.word ≡ true → (next : Result Reader VcdKind) → taken reader.wanted reader.header reader.body spot.word ≡ next → onward (run last spots) spot.line next ≡ Ok trace → Walked last (spot ∷ spots) reader trace
    by_next again word (Ok next) is h =
        let rest = again next h in
        record {
          after = rest.after;
          words = All-cons (λ spot. is_word spot.word ≡ true) spot spots word rest.words;
          walks = goes-to spot.word (words_in spots) reader next is ∙ rest.walks;
          ends = rest.ends;
        }
    by_next again word (Err kind) is h = absurd (cc)

    by_word : ((next : Reader) → run last spots next ≡ Ok trace → Walked last spots next trace) → (word : Bool) → is_word spot.word ≡ word → Walked last (spot ∷ spots) reader trace
    by_word again true word = by_next again word (taken reader.wanted reader.header reader.body spot.word) refl (sym (ap (onward (run last spots) spot.line) (step-word reader spot.word word)) ∙ h)
    by_word again false word =
        let bad : onward (run last spots) spot.line (Err BadByte) ≡ Ok trace = sym (ap (onward (run last spots) spot.line) (step-byte reader spot.word word)) ∙ h in
        absurd (cc)
