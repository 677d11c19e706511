-- The form that the tokens of a statement spell, or the kind of its refusal.
use Rattle.std.specs.Prelude.{◌≡◌, ℕ, Bool, true, false, List, [], ◌∷◌, Option, None, Some, Result, Ok, Err, if◌then◌else◌}
use Rattle.vvp_lex.specs.declared.types.Name.{Name}
use Rattle.vvp_lex.specs.declared.types.Spanned.{Spanned}
use Rattle.vvp_lex.specs.declared.types.Token.{Token}
use Rattle.vvp_lex.specs.declared.types.Token.TheVariants as token
use Rattle.vvp_lex.specs.declared.types.FormKind.{FormKind}
use Rattle.vvp_lex.specs.declared.types.FormKind.TheVariants as kind
use Rattle.vvp_lex.specs.declared.types.FormFault.{FormFault}
use Rattle.vvp_lex.specs.declared.types.FormFault.TheVariants as fault
use Rattle.vvp_forms.specs.declared.form.Form.{Form}
use Rattle.vvp_forms.specs.declared.form.Form.TheVariants as form
use Rattle.vvp_forms.specs.declared.table.Label.{Label}
use Rattle.vvp_forms.specs.declared.table.Label.TheVariants as label
use Rattle.vvp_forms.specs.declared.table.Row.{Row}
use Rattle.vvp_forms.specs.declared.table.Row.TheVariants as row
use Rattle.vvp_lex.specs.Label.{is_label}
use Rattle.vvp_lex.specs.Place.{span_of, bytes_of, is_mark_at}
use Rattle.vvp_forms.specs.Table.{row_spelled, label_of, pieces_of}
use Rattle.vvp_forms.specs.Unsupported.{is_unsupported}
use Rattle.vvp_forms.specs.Operands.{no_operands, pieces_at}
use Rattle.vvp_forms.specs.Forms.{Answer, form_of}
use Rattle.vvp_forms.specs.Checks.{◌>>=◌, needed}

-- the row of a word, or why it has none
abbrev pub row_or : List ℕ → Option Row → Result Row FormKind
row_or word None = Err (if is_unsupported word then kind.UnsupportedStatement else kind.UnknownStatement)
row_or word (Some found) = Ok found

-- the row of the first token, by the tokens after it
abbrev pub row_of : List ℕ → Token → Name → List Spanned → Result Row FormKind
row_of file token.Word span tokens =
    row_or (bytes_of file span) (row_spelled (bytes_of file span) (is_mark_at tokens 1 44))
row_of file token.Text span tokens = Ok row.LoneText
row_of file _ span tokens = Err kind.UnknownStatement

-- a label stands where it has to
abbrev pub label_fits : Label → Bool → Result (Unit {0}) FormKind
label_fits label.Needed true = Ok tt
label_fits label.Needed false = Err kind.LabelMissing
label_fits label.Refused true = Err kind.LabelNotAllowed
label_fits label.Refused false = Ok tt
label_fits label.Optional labelled = Ok tt

-- a word and the tokens after it, after a label or without one
unfoldable pub form_at : List ℕ → Bool → Spanned → List Spanned → Answer
form_at file labelled first tokens = do
  found ← row_of file first.token (span_of first) tokens
  _ ← label_fits (label_of found) labelled
  operands ← needed (pieces_at file (pieces_of found) no_operands tokens)
  form_of file found operands

-- what stands after a label
abbrev pub after_label : List ℕ → List Spanned → Answer
after_label file [] = Ok form.CodeLabel
after_label file (first ∷ tokens) = form_at file true first tokens

-- the tokens of a statement
abbrev pub form_spelled : List ℕ → Bool → List Spanned → Answer
form_spelled file column_one [] = Err kind.UnknownStatement
form_spelled file column_one (first ∷ tokens) =
    if is_label file column_one first then after_label file tokens else form_at file false first tokens

-- A result is what reading gives; a refusal has the statement's line and its kind. Want of memory says nothing.
abbrev pub Answers : Result Form FormFault → ℕ → Answer → Type 0
Answers (Ok found) line read = read ≡ Ok found
Answers (Err (fault.Refused at why)) line read = (at ≡ line) × (read ≡ Err why)
Answers (Err fault.Memory) line read = Unit {0}
