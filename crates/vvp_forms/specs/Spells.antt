-- Which forms a list of tokens spells.
use Rattle.std.specs.Prelude.{◌≡◌, ℕ, Bool, true, false, List, [], ◌∷◌, ◌⊎◌, Ok}
use Rattle.std.specs.List.{Contains}
use Rattle.vvp_lex.specs.declared.types.Spanned.{Spanned}
use Rattle.vvp_lex.specs.declared.types.Token.TheVariants as token
use Rattle.vvp_lex.specs.declared.types.FormFault.{FormFault}
use Rattle.vvp_lex.specs.declared.types.FormFault.TheVariants as fault
use Rattle.vvp_forms.specs.declared.form.Form.{Form}
use Rattle.vvp_forms.specs.declared.form.Form.TheVariants as form
use Rattle.vvp_forms.specs.declared.table.Label.{Label}
use Rattle.vvp_forms.specs.declared.table.Label.TheVariants as label
use Rattle.vvp_forms.specs.declared.table.Row.{Row}
use Rattle.vvp_forms.specs.declared.table.Row.TheVariants as row
use Rattle.vvp_forms.specs.declared.pieces.Operands.{Operands}
use Rattle.vvp_lex.specs.Place.{span_of, bytes_of, is_mark_at}
use Rattle.vvp_forms.specs.Table.{Spelling, rows, row_in, label_of, pieces_of}
use Rattle.vvp_forms.specs.Operands.{no_operands}
use Rattle.vvp_forms.specs.Pieces.{ArePieces}
use Rattle.vvp_forms.specs.Forms.{form_of}
use Rattle.vvp_lex.specs.Label.{is_label}

-- A spelling of the table has the word's bytes, and the row is the one of it that the second token after the word says.
pub record SpelledBy (file : List ℕ) (first : Spanned) (tokens : List Spanned) (found : Row) : Type 0 where
  pub spelling : Spelling
  pub in_table : Contains rows spelling
  pub is_word : first.token ≡ token.Word
  pub bytes : spelling.0 ≡ bytes_of file (span_of first)
  pub names : found ≡ row_in spelling.1 (is_mark_at tokens 1 44)

-- a spelling of the table, or a lone text
abbrev pub IsRow : List ℕ → Spanned → List Spanned → Row → Type 0
IsRow file first tokens found =
    SpelledBy file first tokens found ⊎ ((first.token ≡ token.Text) × (found ≡ row.LoneText))

-- a label stands where the row has one
abbrev pub LabelIs : Label → Bool → Type 0
LabelIs label.Needed labelled = labelled ≡ true
LabelIs label.Refused labelled = labelled ≡ false
LabelIs label.Optional labelled = Unit {0}

-- A first token has a row, the tokens after it are the row's operands, and the form is the one that the row means with
-- them.
pub record SpellsRow (file : List ℕ) (labelled : Bool) (first : Spanned) (tokens : List Spanned) (found : Form) : Type 0 where
  pub row : Row
  pub operands : Operands
  pub is_row : IsRow file first tokens row
  pub has_label : LabelIs (label_of row) labelled
  pub has_operands : ArePieces file (pieces_of row) no_operands operands tokens
  pub means : form_of file row operands ≡ Ok found

-- a label alone, or a row after a label
abbrev pub SpellsLabelled : List ℕ → List Spanned → Form → Type 0
SpellsLabelled file [] found = found ≡ form.CodeLabel
SpellsLabelled file (first ∷ tokens) found = SpellsRow file true first tokens found

abbrev pub SpellsFirst : List ℕ → Bool → Spanned → List Spanned → Form → Type 0
SpellsFirst file true first tokens found = SpellsLabelled file tokens found
SpellsFirst file false first tokens found = SpellsRow file false first tokens found

-- a statement in the first column may begin with a label
abbrev pub Spells : List ℕ → Bool → List Spanned → Form → Type 0
Spells file column_one [] found = ⊥
Spells file column_one (first ∷ tokens) found = SpellsFirst file (is_label file column_one first) first tokens found

-- the form that was read is spelled, and no other is
abbrev pub SpellsOnly : List ℕ → Bool → List Spanned → Form → Type 0
SpellsOnly file column_one tokens found =
    Spells file column_one tokens found × ((other : Form) → Spells file column_one tokens other → other ≡ found)

-- what is refused spells nothing
abbrev pub SpellsNone : List ℕ → Bool → List Spanned → FormFault → Type 0
SpellsNone file column_one tokens (fault.Refused line kind) = (found : Form) → ¬ Spells file column_one tokens found
SpellsNone file column_one tokens fault.Memory = Unit {0}
