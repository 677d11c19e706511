-- The lines of a body are entries of the grammar.
use Rattle.std.proofs.Common.{◌≡◌, ◌≢◌, ℕ, ◌<◌, ◌≤◌, ◌^◌, Bool, true, false, List, [], ◌∷◌, ◌++◌, length, refl, sym, ap, subst, ◌∙◌, arith, inl, inr, codes, append_assoc, Some, slice_get}
use Rattle.std.specs.Prelude.{decimal}
use Rattle.std.specs.List.{flat_map, list_all}
use Rattle.std.specs.Str.Parse.{digits_value}
use Rattle.std.proofs.lemmas.List.Concat.{flat_map-append}
use Rattle.four_state.specs.declared.bits.Bit.{Bit}
use Rattle.vcd_read.specs.declared.types.Change.{Change}
use Rattle.vcd_read.specs.Words.{is_printable}
use Rattle.vcd_read.specs.Parts.{net_of, is_section}
use Rattle.vcd_read.specs.Grammar.{IsTime, Opens, Closes, IsEntry, AreEntries}
use Rattle.vcd_write.specs.declared.types.Section.{Section}
use Rattle.vcd_write.specs.declared.types.Section.TheVariants.{Vars, Off, On, All}
use Rattle.vcd_write.specs.Code.{code}
use Rattle.vcd_write.specs.Value.{spelled, shortest, spelling_text, value_line, bit_code}
use Rattle.vcd_write.specs.Section.{section_word, time_text}
use Rattle.vcd_write.proofs.LineLemmas.{spelling-vector}
use Rattle.vcd_write.proofs.SpellingLaw.{shortest-law}
use Rattle.vcd_law.specs.Words.{Written, AreWritten, text_of, words_of, spaced, lined}
use Rattle.vcd_law.proofs.Known.{Header, Body}
use Rattle.vcd_law.proofs.CodeFacts.{code-some, code-printable}
use Rattle.vcd_law.proofs.TextFacts.{decimal-printable, decimal-number, decimal-value, spelled-printable, bit-then}
use Rattle.vcd_law.proofs.EntryLemmas.{scalar-entry, vector-entry}
use Rattle.vcd_law.proofs.JoinLemmas.{text-append, words-append, are-append, entries-append}

abbrev pub at_time : ℕ → Bool → List Change → Body
at_time now is_open changes = record { time = now; is_open = is_open; changes = changes }

-- words of a text, which are these entries
pub record IsSpelled (text : List ℕ) (written : List Written) (entries : List (List (List ℕ))) : Type 0 where
  pub are_written : AreWritten written
  pub text_is : text ≡ text_of written
  pub words_are : words_of written ≡ flat_map (λ (entry : List (List ℕ)). entry) entries

-- a text says something from any body at a time to one at another time, each in a section or outside
pub record IsSaid (header : Header) (text : List ℕ) (now : ℕ) (inside : Bool) (later : ℕ) (after_inside : Bool) : Type 0 where
  pub written : List Written
  pub entries : List (List (List ℕ))
  pub spells : IsSpelled text written entries
  pub says : (changes : List Change) → (more : List Change) × AreEntries header entries (at_time now inside changes) (at_time later after_inside more)

module _ (header : Header) where
  pub said-none : (now : ℕ) (inside : Bool) → IsSaid header [] now inside now inside
  said-none now inside = record {
    written = [];
    entries = [];
    spells = record { are_written = tt; text_is = refl; words_are = refl };
    says = λ changes. (changes, refl);
  }

  pub said-append : (first second : List ℕ) (now : ℕ) (a : Bool) (then_ : ℕ) (b : Bool) (later : ℕ) (c : Bool) → IsSaid header first now a then_ b → IsSaid header second then_ b later c → IsSaid header (first ++ second) now a later c
  said-append first second now a then_ b later c h k = record {
    written = h.written ++ k.written;
    entries = h.entries ++ k.entries;
    spells = record {
      are_written = are-append h.written k.written h.spells.are_written k.spells.are_written;
      text_is = ap (λ t. t ++ second) h.spells.text_is ∙ ap (λ t. text_of h.written ++ t) k.spells.text_is ∙ sym (text-append h.written k.written);
      words_are = words-append h.written k.written
          ∙ ap (λ ws. ws ++ words_of k.written) h.spells.words_are
          ∙ ap (λ ws. flat_map (λ (entry : List (List ℕ)). entry) h.entries ++ ws) k.spells.words_are
          ∙ sym (flat_map-append (λ (entry : List (List ℕ)). entry) h.entries k.entries);
    };
    says = λ changes.
        let first_says : (more : List Change) × AreEntries header h.entries (at_time now a changes) (at_time then_ b more) = h.says changes in
        let second_says : (more : List Change) × AreEntries header k.entries (at_time then_ b first_says.0) (at_time later c more) = k.says first_says.0 in
        (second_says.0, entries-append header h.entries k.entries (at_time now a changes) (at_time then_ b first_says.0) (at_time later c second_says.0) first_says.1 second_says.1);
  }

  -- one entry of one word, on a line
  said-word : (word : List ℕ) (now : ℕ) (a : Bool) (later : ℕ) (b : Bool) → 1 ≤ length word → list_all is_printable word ≡ true
      → ((changes : List Change) → (more : List Change) × IsEntry header (word ∷ []) (at_time now a changes) (at_time later b more)) → IsSaid header (word ++ codes "\n") now a later b
  said-word word now a later b some printed says = record {
    written = lined word ∷ [];
    entries = (word ∷ []) ∷ [];
    spells = record { are_written = (record { some = some; printable = printed; white = refl }, tt); text_is = refl; words_are = refl };
    says = λ changes.
        let one : (more : List Change) × IsEntry header (word ∷ []) (at_time now a changes) (at_time later b more) = says changes in
        (one.0, (at_time later b one.0, one.1, refl));
  }

  pub said-time : (now time : ℕ) (inside : Bool) → now ≤ time → time < 2 ^ 64 → IsSaid header (time_text time) now inside time inside
  unfolding time_text
  said-time now time inside onward fits =
      said-word (35 ∷ decimal time) now inside time inside (omega arith) (decimal-printable time)
      (λ changes.
      let value : digits_value 10 (decimal time) ≡ time = decimal-value time fits in
      let entry : IsTime ((35 ∷ decimal time) ∷ []) (at_time now inside changes) (at_time time inside changes) = record {
        digits = decimal time;
        spelled = refl;
        number = decimal-number time fits;
        fits = subst (λ n. n < 2 ^ 64) (sym value) fits;
        onward = subst (λ n. now ≤ n) (sym value) onward;
        says = ap (λ n. at_time n inside changes) (sym value);
      } in
      (changes, inl entry))

  opens-with : (word : List ℕ) (now : ℕ) → is_section word ≡ true → 1 ≤ length word → list_all is_printable word ≡ true → IsSaid header (word ++ codes "\n") now false now true
  opens-with word now begins some printed =
      said-word word now false now true some printed
      (λ changes.
      let entry : Opens (word ∷ []) (at_time now false changes) (at_time now true changes) = record { word = word; spelled = refl; begins = begins; closed = refl; says = refl } in
      (changes, inr (inl entry)))

  pub said-opens : (kind : Section) (now : ℕ) → IsSaid header (section_word kind) now false now true
  said-opens Vars now = opens-with (codes "$dumpvars") now refl (omega arith) refl
  said-opens Off now = opens-with (codes "$dumpoff") now refl (omega arith) refl
  said-opens On now = opens-with (codes "$dumpon") now refl (omega arith) refl
  said-opens All now = opens-with (codes "$dumpall") now refl (omega arith) refl

  pub said-closes : (now : ℕ) → IsSaid header (codes "$end\n") now true now false
  said-closes now =
      said-word (codes "$end") now true now false (omega arith) refl
      (λ changes.
      let entry : Closes (codes "$end" ∷ []) (at_time now true changes) (at_time now false changes) = record { spelled = refl; opened = refl; says = refl } in
      (changes, inr (inr (inl entry))))

  -- ---- the line of a value
  -- an item's code names a net of so many places
  pub record IsNet (k width : ℕ) : Type 0 where
    pub net : ℕ
    pub names : net_of header.nets (code k) ≡ Some net
    pub wide : slice_get header.widths net ≡ Some width

  scalar-said : (k : ℕ) (bit : Bit) (now : ℕ) (inside : Bool) → IsNet k 1 → IsSaid header (value_line k (bit ∷ [])) now inside now inside
  unfolding value_line spelling_text
  scalar-said k bit now inside h =
      said-word (bit_code bit ∷ code k) now inside now inside (omega arith) (bit-then bit (code k) (code-printable k))
      (λ changes.
      (changes ++ record { time = now; net = h.net; value = bit ∷ [] } ∷ [], scalar-entry header (at_time now inside changes) bit (code k) h.net (code-some k) h.names h.wide))

  vector-text : (k : ℕ) (value : List Bit) → length value ≢ 1 → value_line k value ≡ text_of (spaced (98 ∷ spelled (shortest value)) ∷ lined (code k) ∷ [])
  unfolding value_line
  vector-text k value wide =
      ap (λ t. t ++ (code k ++ codes "\n")) (sym (spelling-vector value wide))
      ∙ ap (λ t. 98 ∷ t) (append_assoc (spelled (shortest value)) (codes " ") (code k ++ codes "\n"))

  vector-said : (k : ℕ) (value : List Bit) (now : ℕ) (inside : Bool) → 1 ≤ length value → length value ≤ 128 → length value ≢ 1 → IsNet k (length value) → IsSaid header (value_line k value) now inside now inside
  vector-said k value now inside some most wide h =
      let word : List ℕ = 98 ∷ spelled (shortest value) in
      record {
        written = spaced word ∷ lined (code k) ∷ [];
        entries = (word ∷ code k ∷ []) ∷ [];
        spells = record {
          are_written = (record { some = omega arith; printable = spelled-printable (shortest value); white = refl }, (record { some = code-some k; printable = code-printable k; white = refl }, tt));
          text_is = vector-text k value wide;
          words_are = refl;
        };
        says = λ changes.
            let after : List Change = changes ++ record { time = now; net = h.net; value = value } ∷ [] in
            (after, (at_time now inside after, vector-entry header (at_time now inside changes) value (shortest value) (code k) h.net (shortest-law value some) most h.names h.wide, refl));
      }

  pub said-value : (k : ℕ) (value : List Bit) (now : ℕ) (inside : Bool) → 1 ≤ length value → length value ≤ 128 → IsNet k (length value) → IsSaid header (value_line k value) now inside now inside
  said-value k [] now inside some most h = absurd (omega (arith, some))
  said-value k (bit ∷ []) now inside some most h = scalar-said k bit now inside h
  said-value k (bit ∷ next ∷ rest) now inside some most h = vector-said k (bit ∷ next ∷ rest) now inside some most (λ (e : length (bit ∷ next ∷ rest) ≡ 1). omega (arith, e)) h
