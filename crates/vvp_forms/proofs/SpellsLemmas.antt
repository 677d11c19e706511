use Rattle.std.proofs.Common.{◌≡◌, ℕ, Bool, true, false, List, [], ◌∷◌, Option, None, Some, Result, Ok, Err, refl, sym, ap, ◌∙◌, subst, if◌then◌else◌, inl, inr}
use Rattle.std.specs.Prelude.{IfOk, IfErr}
use Rattle.std.specs.List.{Contains}
use Rattle.vvp_lex.specs.declared.types.Spanned.{Spanned}
use Rattle.vvp_lex.specs.declared.types.Token.{Token}
use Rattle.vvp_lex.specs.declared.types.Token.TheVariants as token
use Rattle.vvp_lex.specs.declared.types.FormKind.{FormKind}
use Rattle.vvp_lex.specs.declared.types.FormFault.{FormFault}
use Rattle.vvp_lex.specs.declared.types.FormFault.TheVariants as fault
use Rattle.vvp_forms.specs.declared.form.Form.{Form}
use Rattle.vvp_forms.specs.declared.form.Form.TheVariants as form
use Rattle.vvp_forms.specs.declared.table.Label.{Label}
use Rattle.vvp_forms.specs.declared.table.Label.TheVariants as label
use Rattle.vvp_forms.specs.declared.table.Meaning.{Meaning}
use Rattle.vvp_forms.specs.declared.table.Row.{Row}
use Rattle.vvp_forms.specs.declared.table.Row.TheVariants as row
use Rattle.vvp_forms.specs.declared.pieces.Operands.{Operands}
use Rattle.vvp_lex.specs.Place.{span_of, bytes_of, is_mark_at}
use Rattle.vvp_forms.specs.Table.{Spelling, rows, row_in, row_spelled, label_of, pieces_of}
use Rattle.vvp_forms.specs.Operands.{no_operands, pieces_at}
use Rattle.vvp_forms.specs.Checks.{◌>>=◌, needed}
use Rattle.vvp_forms.specs.Forms.{Answer, form_of}
use Rattle.vvp_lex.specs.Label.{is_label}
use Rattle.vvp_lex.specs.Words.{looked_up}
use Rattle.vvp_lex.proofs.FrontLemmas.{bind-some, some_inj}
use Rattle.vvp_lex.proofs.TableLemmas.{are_distinct, looked_up-contains, looked_up-found}
use Rattle.vvp_forms.specs.Reading.{row_or, row_of, label_fits, form_at, after_label, form_spelled, Answers}
use Rattle.vvp_forms.proofs.PiecesLaw.{pieces-sound, pieces-complete}
use Rattle.vvp_forms.specs.Spells.{IsRow, LabelIs, SpellsRow, SpellsFirst, Spells, SpellsOnly, SpellsNone}

-- no word stands twice in the table
rows-distinct : are_distinct rows ≡ true
unfolding rows
rows-distinct = refl

-- a spelling of the table is found by its word
row_spelled-contains : (spelling : Spelling) (has_comma : Bool) → Contains rows spelling → row_spelled spelling.0 has_comma ≡ Some (row_in spelling.1 has_comma)
unfolding row_spelled
row_spelled-contains spelling has_comma at = rw (looked_up-contains rows spelling rows-distinct at) refl

-- what is found in the table
abbrev Found : List ℕ → Bool → Row → Type 0
Found word has_comma found =
    (s : Spelling) × Contains rows s × (s.0 ≡ word) × (found ≡ row_in s.1 has_comma)

abbrev named_by : Bool → Meaning → Option Row
named_by has_comma meaning = Some (row_in meaning has_comma)

row_spelled-found : (word : List ℕ) (has_comma : Bool) (found : Row) → row_spelled word has_comma ≡ Some found → Found word has_comma found
unfolding row_spelled
row_spelled-found word has_comma found h =
    let meaning = bind-some (looked_up rows word) (named_by has_comma) found h in
    let at = looked_up-found rows word meaning.0 meaning.1 in
    let named : found ≡ row_in meaning.0 has_comma = sym (some_inj _ found meaning.2) in
    (at.0, at.1, at.2, named ∙ ap (λ (m : Meaning). row_in m has_comma) (sym at.3))

bind_ok : {A B : Type 0} (r : Result A FormKind) (f : A → Result B FormKind) (y : B) → (r >>= f) ≡ Ok y → (x : A) × (r ≡ Ok x) × (f x ≡ Ok y)
bind_ok (Ok x) f y is = (x, refl, is)
bind_ok (Err e) f y is = absurd (cc)

-- the row of a first token, in both directions
row-read : (file : List ℕ) (first : Spanned) (tokens : List Spanned) (found : Row) → IsRow file first tokens found → row_of file first.token (span_of first) tokens ≡ Ok found
row-read file first tokens found (inr lone) = rw (lone.0, lone.1) refl
row-read file first tokens found (inl s) =
    let at : row_spelled (bytes_of file (span_of first)) (is_mark_at tokens 1 44) ≡ Some (row_in s.spelling.1 (is_mark_at tokens 1 44)) = ap (λ word. row_spelled word (is_mark_at tokens 1 44)) (sym s.bytes) ∙ row_spelled-contains s.spelling (is_mark_at tokens 1 44) s.in_table in
    rw (s.is_word, at, s.names) refl

row-spelled : (file : List ℕ) (first : Spanned) (tokens : List Spanned) (found : Row) → row_of file first.token (span_of first) tokens ≡ Ok found → IsRow file first tokens found
row-spelled file first tokens found h = by first.token refl h
  where
    named : (r : Option Row) → row_spelled (bytes_of file (span_of first)) (is_mark_at tokens 1 44) ≡ r → row_or (bytes_of file (span_of first)) r ≡ Ok found → first.token ≡ token.Word → IsRow file first tokens found
    named None e is word = absurd (cc)
    named (Some other) e is word =
        let same : Some other ≡ Some found = cc in
        let at = row_spelled-found (bytes_of file (span_of first)) (is_mark_at tokens 1 44) found (e ∙ same) in
        inl (record { spelling = at.0; in_table = at.1; is_word = word; bytes = at.2; names = at.3 })

    by : (k : Token) → first.token ≡ k → row_of file k (span_of first) tokens ≡ Ok found → IsRow file first tokens found
    by token.Word e is = named (row_spelled (bytes_of file (span_of first)) (is_mark_at tokens 1 44)) refl is e
    by token.Text e is = let same : found ≡ row.LoneText = cc in inr (e, same)
    by (token.Number n) e is = absurd (cc)
    by token.Const e is = absurd (cc)
    by token.Based e is = absurd (cc)
    by (token.Punct b) e is = absurd (cc)

label-read : (wanted : Label) (labelled : Bool) → LabelIs wanted labelled → label_fits wanted labelled ≡ Ok tt
label-read label.Needed true is = refl
label-read label.Needed false is = absurd (cc)
label-read label.Refused true is = absurd (cc)
label-read label.Refused false is = refl
label-read label.Optional labelled is = refl

label-spelled : (wanted : Label) (labelled : Bool) (u : Unit {0}) → label_fits wanted labelled ≡ Ok u → LabelIs wanted labelled
label-spelled label.Needed true u is = refl
label-spelled label.Needed false u is = absurd (cc)
label-spelled label.Refused true u is = absurd (cc)
label-spelled label.Refused false u is = refl
label-spelled label.Optional labelled u is = tt

needed-some : {A : Type 0} (o : Option A) (x : A) → needed o ≡ Ok x → o ≡ Some x
needed-some None x is = absurd (cc)
needed-some (Some y) x is = let same : y ≡ x = cc in ap Some same

abbrev with_operands : List ℕ → Row → Operands → Answer
with_operands file found operands = form_of file found operands

abbrev with_label : List ℕ → List Spanned → Row → Unit {0} → Answer
with_label file tokens found _ = needed (pieces_at file (pieces_of found) no_operands tokens) >>= with_operands file found

abbrev with_row : List ℕ → Bool → List Spanned → Row → Answer
with_row file labelled tokens found = label_fits (label_of found) labelled >>= with_label file tokens found

-- what a row spells is read
form_at-read : (file : List ℕ) (labelled : Bool) (first : Spanned) (tokens : List Spanned) (found : Form) → SpellsRow file labelled first tokens found → form_at file labelled first tokens ≡ Ok found
unfolding form_at
form_at-read file labelled first tokens found s =
    let operands = pieces-complete file (pieces_of s.row) no_operands s.operands tokens s.has_operands in
    rw (row-read file first tokens s.row s.is_row, label-read (label_of s.row) labelled s.has_label, operands) s.means

-- what is read is spelled by a row
form_at-spelled : (file : List ℕ) (labelled : Bool) (first : Spanned) (tokens : List Spanned) (found : Form) → form_at file labelled first tokens ≡ Ok found → SpellsRow file labelled first tokens found
unfolding form_at
form_at-spelled file labelled first tokens found is =
    let named = bind_ok (row_of file first.token (span_of first) tokens) (with_row file labelled tokens) found is in
    let label = bind_ok (label_fits (label_of named.0) labelled) (with_label file tokens named.0) found named.2 in
    let operands = bind_ok (needed (pieces_at file (pieces_of named.0) no_operands tokens)) (with_operands file named.0) found label.2 in
    let read = needed-some (pieces_at file (pieces_of named.0) no_operands tokens) operands.0 operands.1 in
    record {
      row = named.0;
      operands = operands.0;
      is_row = row-spelled file first tokens named.0 named.1;
      has_label = label-spelled (label_of named.0) labelled label.0 label.1;
      has_operands = pieces-sound file (pieces_of named.0) no_operands operands.0 tokens read;
      means = operands.2;
    }

-- what tokens spell is read
pub form_spelled-read : (file : List ℕ) (column_one : Bool) (tokens : List Spanned) (found : Form) → Spells file column_one tokens found → form_spelled file column_one tokens ≡ Ok found
form_spelled-read file column_one [] found s = absurd s
form_spelled-read file column_one (first ∷ tokens) found s = by (is_label file column_one first) tokens s
  where
    by : (labelled : Bool) (tokens : List Spanned) → SpellsFirst file labelled first tokens found → (if labelled then after_label file tokens else form_at file false first tokens) ≡ Ok found
    by true [] is = ap Ok (sym is)
    by true (second ∷ rest) is = form_at-read file true second rest found is
    by false tokens is = form_at-read file false first tokens found is

-- what is read is spelled
pub form_spelled-spelled : (file : List ℕ) (column_one : Bool) (tokens : List Spanned) (found : Form) → form_spelled file column_one tokens ≡ Ok found → Spells file column_one tokens found
form_spelled-spelled file column_one [] found h = absurd (cc)
form_spelled-spelled file column_one (first ∷ tokens) found h = by (is_label file column_one first) tokens h
  where
    by : (labelled : Bool) (tokens : List Spanned) → (if labelled then after_label file tokens else form_at file false first tokens) ≡ Ok found → SpellsFirst file labelled first tokens found
    by true [] is = let same : found ≡ form.CodeLabel = cc in same
    by true (second ∷ rest) is = form_at-spelled file true second rest found is
    by false tokens is = form_at-spelled file false first tokens found is

-- what was read is spelled, and nothing else is
only_of_answer : (file : List ℕ) (column_one : Bool) (tokens : List Spanned) (line : ℕ) (result : Result Form FormFault) → Answers result line (form_spelled file column_one tokens) → IfOk result (SpellsOnly file column_one tokens)
only_of_answer file column_one tokens line (Ok found) h =
    (form_spelled-spelled file column_one tokens found h, λ other s. let read = form_spelled-read file column_one tokens other s in cc)
only_of_answer file column_one tokens line (Err fault) h = tt

-- what is refused spells nothing
none_of_answer : (file : List ℕ) (column_one : Bool) (tokens : List Spanned) (line : ℕ) (result : Result Form FormFault) → Answers result line (form_spelled file column_one tokens) → IfErr result (SpellsNone file column_one tokens)
none_of_answer file column_one tokens line (Ok found) h = tt
none_of_answer file column_one tokens line (Err (fault.Refused at why)) h =
    λ found s. let read = form_spelled-read file column_one tokens found s in cc
none_of_answer file column_one tokens line (Err fault.Memory) h = tt

-- the same of the tokens of a statement
pub only_of_read : (file : List ℕ) (column_one : Bool) (given tokens : List Spanned) (line : ℕ) (result : Result Form FormFault) → given ≡ tokens → Answers result line (form_spelled file column_one given) → IfOk result (SpellsOnly file column_one tokens)
only_of_read file column_one given tokens line result same h =
    only_of_answer file column_one tokens line result (subst (λ (ts : List Spanned). Answers result line (form_spelled file column_one ts)) same h)

pub none_of_read : (file : List ℕ) (column_one : Bool) (given tokens : List Spanned) (line : ℕ) (result : Result Form FormFault) → given ≡ tokens → Answers result line (form_spelled file column_one given) → IfErr result (SpellsNone file column_one tokens)
none_of_read file column_one given tokens line result same h =
    none_of_answer file column_one tokens line result (subst (λ (ts : List Spanned). Answers result line (form_spelled file column_one ts)) same h)
