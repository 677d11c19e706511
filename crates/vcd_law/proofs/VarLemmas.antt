-- The line of an item declares it.
use Rattle.std.proofs.Common.{◌≡◌, ℕ, ◌<◌, ◌≤◌, ◌^◌, true, false, List, [], ◌∷◌, ◌++◌, length, refl, sym, ap, subst, ◌∙◌, arith, inl, inr, codes, append_assoc, append-nil, Some, None, Option, slice_get}
use Rattle.std.specs.Prelude.{All, decimal}
use Rattle.std.specs.List.{flat_map, list_all}
use Rattle.std.specs.Str.Parse.{digits_value}
use Rattle.std.proofs.lemmas.Bool.{true≢false, false_from_ne_true}
use Rattle.std.proofs.lemmas.List.Elements.{All-nil, All-cons}
use Rattle.std.proofs.lemmas.Slice.Eq.{bytes_eq-Decides}
use Rattle.vcd_read.specs.Words.{is_printable, is_end, is_number}
use Rattle.vcd_read.specs.Parts.{net_of, path_of, is_real}
use Rattle.vcd_read.specs.Grammar.{ended, NamesNet, IsVar, AreCommands}
use Rattle.vcd_write.specs.declared.types.DumpItem.{DumpItem}
use Rattle.vcd_write.specs.declared.types.VarWord.{VarWord}
use Rattle.vcd_write.specs.declared.types.VarWord.TheVariants.{Reg, Integer, Wire}
use Rattle.vcd_write.specs.Code.{code}
use Rattle.vcd_write.specs.Header.{size, var_word, var_kind, var_line, range_text}
use Rattle.vcd_law.specs.Words.{Written, IsWritten, AreWritten, text_of, words_of, spaced, lined}
use Rattle.vcd_law.proofs.Known.{Header}
use Rattle.vcd_law.proofs.CodeFacts.{and-both, code-some, code-printable, code-not_end}
use Rattle.vcd_law.proofs.TextFacts.{Range, range-is, decimal-printable, decimal-some, decimal-number, decimal-value}
use Rattle.vcd_law.proofs.TextFacts as text
use Rattle.vcd_law.proofs.JoinLemmas.{words-append, are-append}
use Rattle.vcd_law.proofs.NetLemmas.{IsDeclared, Fits, new-fits, new-kept, new-found}
use Rattle.vcd_law.proofs.BlockLemmas.{Inner, Leads, IsBlock, IsName, Has}

-- ---- the words after an item's name
abbrev last : List Written
last = lined (codes "$end") ∷ []

last-written : AreWritten last
last-written = (record { some = omega arith; printable = refl; white = refl }, tt)

record IsTail (range : List ℕ) : Type 0 where
  words : List Written
  are_written : AreWritten words
  inner : All Inner (words_of words)
  text_is : range ++ codes " $end\n" ≡ 32 ∷ text_of (words ++ last)

bracket-inner : (word : List ℕ) → is_end (91 ∷ word) ≡ false
bracket-inner word = refl

bracket-printable : (word : List ℕ) → list_all is_printable word ≡ true → list_all is_printable (91 ∷ word) ≡ true
bracket-printable word h = and-both (is_printable 91) (list_all is_printable word) refl h

range-tail : (range : List ℕ) → Range range → IsTail range
range-tail range (text.None e) = record { words = []; are_written = tt; inner = All-nil Inner; text_is = ap (λ t. t ++ codes " $end\n") e }
range-tail range (text.Some word e h) = record {
  words = spaced (91 ∷ word) ∷ [];
  are_written = (record { some = omega arith; printable = bracket-printable word h; white = refl }, tt);
  inner = All-cons Inner (91 ∷ word) [] (bracket-inner word) (All-nil Inner);
  text_is = ap (λ t. t ++ codes " $end\n") e;
}

-- ---- its words
kind-written : (word : VarWord) → IsWritten (spaced (var_word word))
kind-written Reg = record { some = omega arith; printable = refl; white = refl }
kind-written Integer = record { some = omega arith; printable = refl; white = refl }
kind-written Wire = record { some = omega arith; printable = refl; white = refl }

kind-inner : (word : VarWord) → is_end (var_word word) ≡ false
kind-inner Reg = refl
kind-inner Integer = refl
kind-inner Wire = refl

kind-values : (word : VarWord) → is_real (var_word word) ≡ false
kind-values Reg = refl
kind-values Integer = refl
kind-values Wire = refl

small : (n : ℕ) → n ≤ 128 → n < 2 ^ 64
small n h = omega arith

-- a number isn't `$end`
number-inner : (word : List ℕ) → is_number word ≡ true → is_end word ≡ false
number-inner word h =
    false_from_ne_true (is_end word)
    (λ same.
    let e : word ≡ codes "$end" = (bytes_eq-Decides word (codes "$end")).0 same in
    true≢false (sym h ∙ ap is_number e))

-- ---- the line of the item number k
module _ (k : ℕ) (item : DumpItem) (few : k ≤ 1048576) (most : size item ≤ 128) (name : IsName item.name) where
  abbrev line_words : List Written → List Written
  line_words rest = spaced (codes "$var") ∷ spaced (var_word item.word) ∷ spaced (decimal (size item)) ∷ spaced (code k) ∷ spaced item.name ∷ (rest ++ last)

  abbrev declares : List (List ℕ) → List (List ℕ)
  declares rest = codes "$var" ∷ var_word item.word ∷ decimal (size item) ∷ code k ∷ item.name ∷ rest

  fits64 : size item < 2 ^ 64
  fits64 = small (size item) most

  line-written : (rest : List Written) → AreWritten rest → AreWritten (line_words rest)
  line-written rest are = (
    record { some = omega arith; printable = refl; white = refl },
    (
      kind-written item.word,
      (
        record { some = decimal-some (size item) fits64; printable = decimal-printable (size item); white = refl },
        (
          record { some = code-some k; printable = code-printable k; white = refl },
          (
            record { some = name.some; printable = name.printed; white = refl },
            are-append rest last are last-written,
          ),
        ),
      ),
    ),
  )

  line-text : (tail : IsTail (range_text item.msb item.lsb)) → var_line k item ≡ text_of (line_words tail.words)
  unfolding var_line var_kind
  line-text tail =
      let kind : List ℕ = var_word item.word in
      let size_text : List ℕ = decimal (size item) in
      let after : List ℕ = code k ++ (codes " " ++ (item.name ++ (range_text item.msb item.lsb ++ codes " $end\n"))) in
      ap (λ t. codes "$var " ++ t) (append_assoc kind (codes " " ++ (size_text ++ codes " ")) after)
      ∙ ap (λ t. codes "$var " ++ (kind ++ (codes " " ++ t))) (append_assoc size_text (codes " ") after)
      ∙ ap (λ t. codes "$var " ++ (kind ++ (codes " " ++ (size_text ++ (codes " " ++ (code k ++ (codes " " ++ (item.name ++ t)))))))) tail.text_is

  line-words : (rest : List Written) → words_of (line_words rest) ≡ flat_map ended (declares (words_of rest) ∷ [])
  line-words rest =
      ap (λ ws. codes "$var" ∷ var_word item.word ∷ decimal (size item) ∷ code k ∷ item.name ∷ ws)
      (words-append rest last ∙ sym (append-nil (words_of rest ++ codes "$end" ∷ [])))

  line-inner : (rest : List (List ℕ)) → All Inner rest → All Inner (declares rest)
  line-inner rest inner =
      All-cons Inner (codes "$var") (var_word item.word ∷ decimal (size item) ∷ code k ∷ item.name ∷ rest) refl
      (All-cons Inner (var_word item.word) (decimal (size item) ∷ code k ∷ item.name ∷ rest) (kind-inner item.word)
      (All-cons Inner (decimal (size item)) (code k ∷ item.name ∷ rest) (number-inner (decimal (size item)) (decimal-number (size item) fits64))
      (All-cons Inner (code k) (item.name ∷ rest) (code-not_end k few)
      (All-cons Inner item.name rest name.inner inner))))

  value-is : digits_value 10 (decimal (size item)) ≡ size item
  value-is = decimal-value (size item) fits64

  -- with the net that its code names
  abbrev named : Header → List (List ℕ) → ℕ → Header
  named middle rest net = record middle { vars = middle.vars ++ record { path = path_of middle.scopes item.name; net = net } ∷ [] }

  is-var : (rest : List (List ℕ)) (net : ℕ) (before middle : Header) → NamesNet (code k) (digits_value 10 (decimal (size item))) net before middle → IsVar (declares rest) before (named middle rest net)
  is-var rest net before middle names = record {
    kind = var_word item.word;
    width = decimal (size item);
    code = code k;
    name = item.name;
    more = rest;
    net = net;
    middle = middle;
    spelled = refl;
    has_values = kind-values item.word;
    digits = decimal-number (size item) fits64;
    least = subst (λ n. 1 ≤ n) (sym value-is) (omega arith);
    most = subst (λ n. n ≤ 128) (sym value-is) most;
    names = names;
    declares = refl;
  }

  says-var : (rest : List (List ℕ)) (net : ℕ) (before middle : Header) → All Inner rest → NamesNet (code k) (digits_value 10 (decimal (size item))) net before middle → AreCommands (declares rest ∷ []) before (named middle rest net)
  says-var rest net before middle inner names = (line-inner rest inner, named middle rest net, inr (inr (inr (inr (is-var rest net before middle names)))), refl)

  found-one : (nets : List (List ℕ)) → IsDeclared nets k → (j : ℕ) → Has (k ∷ []) j → IsDeclared nets j
  found-one nets d j (inl e) = subst (IsDeclared nets) (sym e) d
  found-one nets d j (inr none) = absurd none

  line-leads : (sizes : List ℕ) → slice_get sizes k ≡ Some (size item) → (rest : List (List ℕ)) → All Inner rest → (before : Header) → Fits sizes before.nets before.widths → Leads sizes (declares rest ∷ []) (k ∷ []) before
  line-leads sizes here rest inner before fits = by_net (net_of before.nets (code k)) refl
    where
      by_net : (found : Option ℕ) → net_of before.nets (code k) ≡ found → Leads sizes (declares rest ∷ []) (k ∷ []) before
      by_net None e =
          let nets : List (List ℕ) = before.nets ++ code k ∷ [] in
          let middle : Header = record before { nets = before.nets ++ code k ∷ []; widths = before.widths ++ size item ∷ [] } in
          let names : NamesNet (code k) (digits_value 10 (decimal (size item))) (length before.widths) before middle = record {
            names = inl (e, refl, ap (λ (w : ℕ). record before { nets = before.nets ++ code k ∷ []; widths = before.widths ++ w ∷ [] }) (sym value-is));
          } in
          record {
            after = named middle rest (length before.widths);
            says = says-var rest (length before.widths) before middle inner names;
            fits = new-fits sizes before.nets before.widths fits k (size item) here e;
            same_scopes = refl;
            kept = new-kept sizes before.nets before.widths fits k (size item) here e;
            found = found-one nets (new-found sizes before.nets before.widths fits k (size item) here e);
          }
      by_net (Some net) e =
          let names : NamesNet (code k) (digits_value 10 (decimal (size item))) net before before = record {
            names = inr (e, fits.each k net (digits_value 10 (decimal (size item))) (here ∙ ap Some (sym value-is)) e, refl);
          } in
          record {
            after = named before rest net;
            says = says-var rest net before before inner names;
            fits = fits;
            same_scopes = refl;
            kept = λ j d. d;
            found = found-one before.nets (record { net = net; names = e });
          }

  pub var-is : (sizes : List ℕ) → slice_get sizes k ≡ Some (size item) → IsBlock sizes (var_line k item) (k ∷ [])
  var-is sizes here =
      let tail : IsTail (range_text item.msb item.lsb) = range-tail (range_text item.msb item.lsb) (range-is item.msb item.lsb) in
      record {
        written = line_words tail.words;
        commands = declares (words_of tail.words) ∷ [];
        are_written = line-written tail.words tail.are_written;
        text_is = line-text tail;
        words_are = line-words tail.words;
        leads = line-leads sizes here (words_of tail.words) tail.inner;
      }
