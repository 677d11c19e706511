-- Which opcodes a list of tokens, those of a statement after its label, spells. In a record `rest` is what stands after
-- the word, t1 what stands after one token more, and so on.
use Rattle.std.specs.Prelude.{◌≡◌, ℕ, List, ◌∷◌, ◌⊎◌}
use Rattle.std.specs.List.{Contains}
use Rattle.vvp_lex.specs.declared.types.Name.{Name}
use Rattle.vvp_lex.specs.declared.types.Spanned.{Spanned}
use Rattle.vvp_lex.specs.declared.types.Token.TheVariants as token
use Rattle.vvp_lex.specs.declared.types.FormFault.{FormFault}
use Rattle.vvp_lex.specs.declared.types.FormFault.TheVariants as fault
use Rattle.vvp_lex.specs.Unescaped.{text_of}
use Rattle.vvp_ops.specs.declared.args.Arg.{Arg}
use Rattle.vvp_ops.specs.declared.op.Op.{Op}
use Rattle.vvp_ops.specs.declared.op.Op.TheVariants as o
use Rattle.vvp_ops.specs.declared.operand.Operand.{Operand}
use Rattle.vvp_lex.specs.Place.{span_of, bytes_of, Begins, BeginsAt}
use Rattle.vvp_ops.specs.declared.table.Kind.{Kind}
use Rattle.vvp_ops.specs.declared.table.Mnemonic.{Mnemonic}
use Rattle.vvp_ops.specs.Table.{rows, opcode_of}
use Rattle.vvp_ops.specs.Spelled.{AreOperands, AreArguments, ArePops, IsTaskWord, IsFunctionWord}

-- A row of the table has the first token's bytes, the other tokens are operands of its kinds with commas between them,
-- and the opcode is the one that the row means with these operands.
pub record SpellsRow (file : List ℕ) (tokens : List Spanned) (opcode : Op Name) : Type 0 where
  pub word : Spanned
  pub rest : List Spanned
  pub bytes : List ℕ
  pub kinds : Kind × Kind × Kind
  pub mnemonic : Mnemonic
  pub values : Operand × Operand × Operand
  pub begins : tokens ≡ word ∷ rest
  pub in_table : Contains rows (bytes, (kinds, mnemonic))
  pub is_spelled : bytes ≡ bytes_of file (span_of word)
  pub has_operands : AreOperands kinds rest values
  pub means : opcode ≡ opcode_of mnemonic values

-- The first token is a word of task calls, and after it come two numbers, a text, arguments and `{n 0 0}`.
pub record SpellsTask (file : List ℕ) (tokens : List Spanned) (opcode : Op Name) : Type 0 where
  pub word : Spanned
  pub rest : List Spanned
  pub t1 : List Spanned
  pub t2 : List Spanned
  pub t3 : List Spanned
  pub after : List Spanned
  pub number : ℕ
  pub line : ℕ
  pub name : Name
  pub args : List (Arg Name)
  pub pops : ℕ
  pub begins : tokens ≡ word ∷ rest
  pub is_spelled : IsTaskWord (bytes_of file (span_of word))
  pub has_number : Begins (token.Number number) rest t1
  pub has_line : Begins (token.Number line) t1 t2
  pub has_name : BeginsAt token.Text name t2 t3
  pub has_arguments : AreArguments file t3 args after
  pub has_pops : ArePops after pops
  pub means : opcode ≡ o.CallTask number line (text_of file name) args pops

-- The first token is the word of function calls, and after it come two numbers, a text, a width, arguments and
-- `{n 0 0}`.
pub record SpellsFunction (file : List ℕ) (tokens : List Spanned) (opcode : Op Name) : Type 0 where
  pub word : Spanned
  pub rest : List Spanned
  pub t1 : List Spanned
  pub t2 : List Spanned
  pub t3 : List Spanned
  pub t4 : List Spanned
  pub after : List Spanned
  pub number : ℕ
  pub line : ℕ
  pub name : Name
  pub width : ℕ
  pub args : List (Arg Name)
  pub pops : ℕ
  pub begins : tokens ≡ word ∷ rest
  pub is_spelled : IsFunctionWord (bytes_of file (span_of word))
  pub has_number : Begins (token.Number number) rest t1
  pub has_line : Begins (token.Number line) t1 t2
  pub has_name : BeginsAt token.Text name t2 t3
  pub has_width : Begins (token.Number width) t3 t4
  pub has_arguments : AreArguments file t4 args after
  pub has_pops : ArePops after pops
  pub means : opcode ≡ o.CallFunction number line (text_of file name) width args pops

-- a row of the table, a task call or a function call
abbrev pub Spells : List ℕ → List Spanned → Op Name → Type 0
Spells file tokens opcode =
    SpellsRow file tokens opcode ⊎ (SpellsTask file tokens opcode ⊎ SpellsFunction file tokens opcode)

-- the opcode that was read is spelled, and no other is
abbrev pub SpellsOnly : List ℕ → List Spanned → Op Name → Type 0
SpellsOnly file tokens opcode =
    Spells file tokens opcode × ((other : Op Name) → Spells file tokens other → other ≡ opcode)

-- what is refused spells nothing
abbrev pub SpellsNone : List ℕ → List Spanned → FormFault → Type 0
SpellsNone file tokens (fault.Refused line kind) = (opcode : Op Name) → ¬ Spells file tokens opcode
SpellsNone file tokens fault.Memory = Unit {0}
