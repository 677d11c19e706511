-- What each statement of a file is read from: where the whole file is spelled, each statement is.
use Rattle.std.proofs.Common.{◌≡◌, ℕ, ◌+◌, ◌≤◌, Bool, true, false, List, [], ◌∷◌, ◌++◌, length, length-append, Option, None, Some, Result, Ok, Err, refl, ap, subst, arith, zero, suc, if◌then◌else◌, cond}
use Rattle.std.proofs.lemmas.List.Elements.{All-nil, All-cons}
use Rattle.std.specs.Prelude.{All, IfOk, slice_get}
use Rattle.vvp_lex.specs.declared.types.FormKind.{FormKind}
use Rattle.vvp_lex.specs.declared.types.Name.{Name}
use Rattle.vvp_lex.specs.declared.types.Spanned.{Spanned}
use Rattle.vvp_lex.specs.declared.types.Stmt.{Stmt}
use Rattle.vvp_lex.specs.Label.{is_label}
use Rattle.vvp_lex.specs.Place.{span_of}
use Rattle.vvp_lex.specs.Statement.{body_len, statement_front, statement_read, statements_of, tokens_of}
use Rattle.vvp_lex.specs.Text.{Front, LineState, LineStart, after_byte, blanked, cut, is_white}
use Rattle.vvp_forms.specs.declared.form.Form.{Form}
use Rattle.vvp_forms.specs.declared.form.Form.TheVariants as form
use Rattle.vvp_forms.specs.declared.pieces.Operands.{Operands}
use Rattle.vvp_forms.specs.declared.table.Row.{Row}
use Rattle.vvp_forms.specs.Checks.{◌>>=◌, needed}
use Rattle.vvp_forms.specs.Forms.{form_of}
use Rattle.vvp_forms.specs.Operands.{no_operands, pieces_at}
use Rattle.vvp_forms.specs.Reading.{after_label, form_at, form_spelled, label_fits, row_of}
use Rattle.vvp_forms.specs.Table.{label_of, pieces_of}
use Rattle.vvp_ops.specs.declared.op.Op.{Op}
use Rattle.vvp_ops.specs.Grammar.{read_tokens}
use Rattle.vvp_ops.specs.Statement.{body_of, is_opcode}
use Rattle.sym_link.specs.declared.placed.Placed.{Placed}
use Rattle.sym_link.specs.declared.placed.What.{What}
use Rattle.sym_link.specs.declared.placed.What.TheVariants as what
use Rattle.sym_link.specs.Spelled.{label_of as label_in, Refusal, at_line, placed_of, put_first, read_all, statements_read, what_of, with_label}

-- a fact of what a chain gives follows from the same fact of its last part
pub bind-if : {A B : Type 0} (P : B → Type 0) (r : Result A FormKind) (next : A → Result B FormKind) → ((x : A) → r ≡ Ok x → IfOk (next x) P) → IfOk (r >>= next) P
bind-if P (Ok x) next each = each x refl
bind-if P (Err kind) next each = tt

needed-ok : {A : Type 0} (o : Option A) (x : A) → needed o ≡ Ok x → o ≡ Some x
needed-ok (Some y) x is = cc
needed-ok None x is = absurd (cc)

-- how a form that isn't a code label is spelled: by a row, with operands that stand in the tokens
pub record IsSpelledBy (file : List ℕ) (row : Row) (operands : Operands) : Type 0 where
  pub tokens : List Spanned
  pub read : pieces_at file (pieces_of row) no_operands tokens ≡ Some operands

-- A fact of each form that a row means with operands that are spelled, and of a code label, is a fact of each form that is spelled.
module _ (P : Form → Type 0) (file : List ℕ) (label : P form.CodeLabel) (each : (row : Row) (operands : Operands) → IsSpelledBy file row operands → IfOk (form_of file row operands) P) where
  form_at-each : (labelled : Bool) (first : Spanned) (tokens : List Spanned) → IfOk (form_at file labelled first tokens) P
  unfolding form_at
  form_at-each labelled first tokens =
      bind-if P (row_of file first.token (span_of first) tokens) _ (λ (row : Row) _.
      bind-if P (label_fits (label_of row) labelled) _ (λ _ _.
      bind-if P (needed (pieces_at file (pieces_of row) no_operands tokens)) _ (λ (operands : Operands) read.
      each row operands (record { tokens = tokens; read = needed-ok (pieces_at file (pieces_of row) no_operands tokens) operands read }))))

  after_label-each : (tokens : List Spanned) → IfOk (after_label file tokens) P
  after_label-each [] = label
  after_label-each (first ∷ tokens) = form_at-each true first tokens

  pub form_spelled-each : (column_one : Bool) (tokens : List Spanned) → IfOk (form_spelled file column_one tokens) P
  form_spelled-each column_one [] = tt
  form_spelled-each column_one (first ∷ tokens) = by (is_label file column_one first)
    where
      by : (b : Bool) → IfOk (if b then after_label file tokens else form_at file false first tokens) P
      by true = after_label-each tokens
      by false = form_at-each false first tokens

at_line-if : {X Y : Type 0} (P : Y → Type 0) (line : ℕ) (made : X → Y) (r : Result X FormKind) → IfOk r (λ x. P (made x)) → IfOk (at_line line made r) P
at_line-if P line made (Ok x) each = each
at_line-if P line made (Err kind) each = tt

-- what each statement spells
pub what_of-each : (P : What → Type 0) (file : List ℕ) (statement : Stmt) → ((op : Op Name) → P (what.Op op)) → IfOk (form_spelled file statement.column_one (tokens_of file statement)) (λ f. P (what.Form f)) → IfOk (what_of file statement) P
unfolding what_of
what_of-each P file statement ops forms = by (is_opcode file (slice_get (body_of file statement) 0))
  where
    any-op : (r : Result (Op Name) FormKind) → IfOk r (λ (op : Op Name). P (what.Op op))
    any-op (Ok op) = ops op
    any-op (Err kind) = tt

    by : (b : Bool) → IfOk (if b then at_line statement.line what.Op (read_tokens file (body_of file statement)) else at_line statement.line what.Form (form_spelled file statement.column_one (tokens_of file statement))) P
    by true = at_line-if P statement.line what.Op _ (any-op (read_tokens file (body_of file statement)))
    by false = at_line-if P statement.line what.Form _ forms

placed_of-each : (P : What → Type 0) (file : List ℕ) (statement : Stmt) → IfOk (what_of file statement) P → IfOk (placed_of file statement) (λ s. P s.what)
unfolding placed_of
placed_of-each P file statement spelled = by (what_of file statement) spelled
  where
    by : (r : Result What (Refusal FormKind)) → IfOk r P → IfOk (with_label statement.line (label_in file statement) r) (λ s. P s.what)
    by (Ok w) spelled = spelled
    by (Err why) spelled = tt

put_first-each : (P : Placed → Type 0) (one : Result Placed (Refusal FormKind)) (more : Result (List Placed) (Refusal FormKind)) → IfOk one P → IfOk more (All P) → IfOk (put_first one more) (All P)
put_first-each P (Ok s) (Ok all) first later = All-cons P s all first later
put_first-each P (Ok s) (Err why) first later = tt
put_first-each P (Err why) more first later = tt

read_all-each : (P : Placed → Type 0) (file : List ℕ) → ((statement : Stmt) → IfOk (placed_of file statement) P) → (statements : List Stmt) → IfOk (read_all file statements) (All P)
read_all-each P file each [] = All-nil P
read_all-each P file each (statement ∷ statements) = put_first-each P (placed_of file statement) (read_all file statements) (each statement) (read_all-each P file each statements)

-- a fact of each form that is spelled, and of each opcode, is a fact of each statement of a file
pub read-each : (P : What → Type 0) (file : List ℕ) (all : List Placed) → ((op : Op Name) → P (what.Op op)) → P (what.Form form.CodeLabel) → ((row : Row) (operands : Operands) → IsSpelledBy file row operands → IfOk (form_of file row operands) (λ f. P (what.Form f))) → statements_read file ≡ Ok all → All (λ s. P s.what) all
unfolding statements_read
read-each P file all ops label each is =
    subst (λ (r : Result (List Placed) (Refusal FormKind)). IfOk r (All (λ (s : Placed). P s.what))) is
    (read_all-each (λ (s : Placed). P s.what) file one (statements_of file))
  where
    one : (statement : Stmt) → IfOk (placed_of file statement) (λ s. P s.what)
    one statement =
        placed_of-each P file statement
        (what_of-each P file statement ops
        (form_spelled-each (λ (f : Form). P (what.Form f)) file label each statement.column_one (tokens_of file statement)))

-- How many statements there are

put_first-length : (one : Result Placed (Refusal FormKind)) (more : Result (List Placed) (Refusal FormKind)) (n : ℕ) → IfOk more (λ (all : List Placed). length all ≡ n) → IfOk (put_first one more) (λ (all : List Placed). length all ≡ suc n)
put_first-length (Ok s) (Ok all) n is = ap suc is
put_first-length (Ok s) (Err why) n is = tt
put_first-length (Err why) more n is = tt

read_all-length : (file : List ℕ) (statements : List Stmt) → IfOk (read_all file statements) (λ (all : List Placed). length all ≡ length statements)
read_all-length file [] = refl
read_all-length file (statement ∷ statements) = put_first-length (placed_of file statement) (read_all file statements) (length statements) (read_all-length file statements)

cut-by : {A : Type 0} (front : ℕ → List ℕ → Front A) (b : ℕ) (text : List ℕ) (place : ℕ) → length (front place (b ∷ text)).gives ≤ 1 → length (cut front (place + 1) 0 text) ≤ length text → length (cut front (place + 1) (front place (b ∷ text)).more text) ≤ length text → (white : Bool) → length (cond white (cut front (place + 1) 0 text) ((front place (b ∷ text)).gives ++ cut front (place + 1) (front place (b ∷ text)).more text)) ≤ suc (length text)
cut-by front b text place one skipped passed true = omega (arith, skipped)
cut-by front b text place one skipped passed false =
    omega (arith, length-append (front place (b ∷ text)).gives (cut front (place + 1) (front place (b ∷ text)).more text), one, passed)

-- fronts that give one thing at most cut a text into at most as many things as it has bytes
cut-length : {A : Type 0} (front : ℕ → List ℕ → Front A) → ((place : ℕ) (text : List ℕ) → length (front place text).gives ≤ 1) → (text : List ℕ) (place passed : ℕ) → length (cut front place passed text) ≤ length text
cut-length front one [] place passed = omega arith
cut-length front one (b ∷ text) place (suc passed) = omega (arith, cut-length front one text (place + 1) passed)
cut-length front one (b ∷ text) place zero =
    cut-by front b text place (one place (b ∷ text)) (cut-length front one text (place + 1) 0) (cut-length front one text (place + 1) (front place (b ∷ text)).more) (is_white b)

blanked-length : (state : LineState) (text : List ℕ) → length (blanked state text) ≡ length text
blanked-length state [] = refl
blanked-length state (b ∷ text) = ap suc (blanked-length (after_byte state b) text)

front-length : (file : List ℕ) (place : ℕ) (text : List ℕ) → length (statement_front file place text).gives ≤ 1
front-length file place text = by (body_len 0 text)
  where
    by : (o : Option ℕ) → length (statement_read file place text o).gives ≤ 1
    by None = omega arith
    by (Some len) = omega arith

-- a file has at most as many statements as bytes
pub read-few : (file : List ℕ) (all : List Placed) → statements_read file ≡ Ok all → length all ≤ length file
unfolding statements_read
read-few file all is =
    let same : length all ≡ length (statements_of file) =
    subst (λ (r : Result (List Placed) (Refusal FormKind)). IfOk r (λ (l : List Placed). length l ≡ length (statements_of file))) is (read_all-length file (statements_of file)) in
    let most : length (statements_of file) ≤ length (blanked LineStart file) = cut-length (statement_front file) (front-length file) (blanked LineStart file) 0 0 in
    omega (arith, same, most, blanked-length LineStart file)
