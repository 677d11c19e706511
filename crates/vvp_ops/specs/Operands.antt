-- The operands of a row of the table, as tokens spell them.
use Rattle.std.specs.Prelude.{ℕ, ◌^◌, Bool, true, ◌&&◌, List, length, Option, None, Some, option_and_then, nat_eq, nat_lt, slice_get, if◌then◌else◌}
use Rattle.vvp_lex.specs.declared.types.Name.{Name}
use Rattle.vvp_lex.specs.declared.types.Spanned.{Spanned}
use Rattle.vvp_lex.specs.declared.types.Token.TheVariants as token
use Rattle.vvp_lex.specs.Place.{span_of, is_mark}
use Rattle.vvp_ops.specs.declared.table.Kind.{Kind}
use Rattle.vvp_ops.specs.declared.table.Kind.TheVariants as k
use Rattle.vvp_ops.specs.declared.operand.Operand.{Operand}
use Rattle.vvp_ops.specs.declared.operand.Operand.TheVariants as operand

-- a symbol, or a number of the row's kind
abbrev pub symbol_as : Kind → Name → Option Operand
symbol_as k.Label name = Some (operand.Symbol name)
symbol_as k.Variable name = Some (operand.Symbol name)
symbol_as k.Array name = Some (operand.Symbol name)
symbol_as k.Signal name = Some (operand.Symbol name)
symbol_as k.Event name = Some (operand.Symbol name)
symbol_as k.Scope name = Some (operand.Symbol name)
symbol_as _ name = None

abbrev pub number_as : Kind → ℕ → Option Operand
number_as k.Register number = Some (operand.Number number)
number_as k.Flag number = Some (operand.Number number)
number_as k.Width number = Some (operand.Number number)
number_as k.Number number = Some (operand.Number number)
number_as k.Half number = if nat_lt number (2 ^ 32) then Some (operand.Half number) else None
number_as k.State number = if nat_lt number 4 then Some (operand.Half number) else None
number_as _ number = None

-- a token as an operand
abbrev pub operand_as : Kind → Spanned → Option Operand
operand_as kind spanned =
    elim spanned.token [ token.Word ↦ symbol_as kind (span_of spanned) | token.Number number ↦ number_as kind number | _ ↦ None ]

-- the operand at a place among the tokens
unfoldable pub operand_at : Kind → List Spanned → ℕ → Option Operand
operand_at k.Absent tokens place = Some operand.Absent
operand_at kind tokens place = option_and_then (operand_as kind) (slice_get tokens place)

-- whether a place holds a comma, where there is one
abbrev pub comma_or_none : Option Spanned → Bool
comma_or_none None = true
comma_or_none (Some spanned) = is_mark 44 spanned.token

-- how many tokens the operands and the commas between them take
unfoldable pub tokens_of : Kind × Kind × Kind → ℕ
tokens_of (k.Absent, _, _) = 0
tokens_of (_, k.Absent, _) = 1
tokens_of (_, _, k.Absent) = 3
tokens_of _ = 5

abbrev pub operands_at : Kind × Kind × Kind → List Spanned → Option (Operand × Operand × Operand)
operands_at kinds tokens =
    option_and_then (λ first. option_and_then (λ second. option_and_then (λ third. Some (first, second, third)) (operand_at kinds.2 tokens 4)) (operand_at kinds.1 tokens 2)) (operand_at kinds.0 tokens 0)

-- the operands: they stand at the places 0, 2 and 4, and commas between them
unfoldable pub operands_of : Kind × Kind × Kind → List Spanned → Option (Operand × Operand × Operand)
operands_of kinds tokens =
    if nat_eq (length tokens) (tokens_of kinds) && (comma_or_none (slice_get tokens 1) && comma_or_none (slice_get tokens 3)) then operands_at kinds tokens else None
