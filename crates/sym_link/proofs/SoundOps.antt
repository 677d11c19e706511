-- The opcodes of the program: their registers, flags and widths, and what their symbols stand for.
use Rattle.std.proofs.Common.{◌≡◌, ℕ, ◌+◌, ◌<◌, ◌≤◌, false, not, ◌||◌, List, Option, None, Some, refl, sym, subst, arith}
use Rattle.std.proofs.lemmas.Bool.{and_parts, leb-true, ltb-false, not-false, or_parts}
use Rattle.std.proofs.lemmas.Option.{same_Some}
use Rattle.std.specs.Prelude.{nat_le, nat_lt}
use Rattle.std.specs.List.{list_any}
use Rattle.std.specs.Option.{ForSome, option_map}
use Rattle.vvp_lex.specs.declared.types.Name.{Name}
use Rattle.vvp_ops.specs.declared.op.Op.{Op}
use Rattle.vvp_ops.specs.declared.op.Op.TheVariants as op
use Rattle.vvp_ops.specs.Ranges.{IsInRange, IsWidth}
use Rattle.sym_link.specs.declared.placed.Placed.{Placed}
use Rattle.sym_link.specs.Bound.{bound_op}
use Rattle.sym_link.specs.Operands.{flags_of, is_width, registers_of, width_fails, widths_of}
use Rattle.sym_link.specs.Sound.{IsNamed}
use Rattle.sym_link.specs.Uses.{Symbol, args_of, op_symbols}
use Rattle.sym_link.proofs.SoundNamed.{bound_number, meant, named}
use Rattle.sym_link.proofs.SoundRules.{KeepsOperands}
use Rattle.sym_link.proofs.SoundSymbols.{OpDeclares, SymbolDeclared}

-- the registers, flags and widths of an opcode are in range
record InRanges (o : Op Name) : Type 0 where
  register0 : (registers_of o).0 < 16
  register1 : (registers_of o).1 < 16
  flag0 : (flags_of o).0 < 256
  flag1 : (flags_of o).1 < 256
  width0 : IsWidth (widths_of o).0
  width1 : IsWidth (widths_of o).1

pub width-range : (width : ℕ) → not (is_width width) ≡ false → IsWidth width
width-range width is =
    let parts = and_parts (nat_le 1 width) (nat_le width 128) (not-false (is_width width) is) in
    (leb-true 1 width parts.0, leb-true width 128 parts.1)

below : (most limit n : ℕ) → most + 1 ≡ limit → nat_lt most n ≡ false → n < limit
below most limit n same is = let le : n ≤ most = ltb-false most n is in omega (arith, same, le)

in-ranges : (file : List ℕ) (all : List Placed) (o : Op Name) → KeepsOperands file all o → InRanges o
in-ranges file all o keeps =
    let registers = or_parts (nat_lt 15 (registers_of o).0) (nat_lt 15 (registers_of o).1) keeps.registers in
    let flags = or_parts (nat_lt 255 (flags_of o).0) (nat_lt 255 (flags_of o).1) keeps.flags in
    let widths = or_parts (not (is_width (widths_of o).0) || not (is_width (widths_of o).1)) (list_any width_fails (args_of o)) keeps.widths in
    let own = or_parts (not (is_width (widths_of o).0)) (not (is_width (widths_of o).1)) widths.0 in
    record {
      register0 = below 15 16 (registers_of o).0 refl registers.0;
      register1 = below 15 16 (registers_of o).1 refl registers.1;
      flag0 = below 255 256 (flags_of o).0 refl flags.0;
      flag1 = below 255 256 (flags_of o).1 refl flags.1;
      width0 = width-range (widths_of o).0 own.0;
      width1 = width-range (widths_of o).1 own.1;
    }

pub args-wide : (file : List ℕ) (all : List Placed) (o : Op Name) → KeepsOperands file all o → list_any width_fails (args_of o) ≡ false
args-wide file all o keeps = (or_parts (not (is_width (widths_of o).0) || not (is_width (widths_of o).1)) (list_any width_fails (args_of o)) keeps.widths).1

range-of : (file : List ℕ) (all : List Placed) (o : Op Name) → InRanges o → IsInRange (bound_op file all o)
unfolding bound_op registers_of flags_of widths_of
range-of file all op.Nop r = tt
range-of file all (op.PushImmediate low high width) r = r.width0
range-of file all (op.Load item) r = tt
range-of file all (op.LoadWord array index) r = r.register0
range-of file all (op.Store item offset width) r = (r.register0, r.width0)
range-of file all (op.StoreWord array index offset) r = (r.register0, r.register1)
range-of file all (op.Assign item delay) r = tt
range-of file all (op.AssignRegister item delay) r = r.register0
range-of file all (op.AssignOffset item offset delay) r = (r.register0, r.register1)
range-of file all (op.AssignWord array offset delay) r = (r.register0, r.register1)
range-of file all (op.IndexLoad register low high) r = r.register0
range-of file all (op.IndexGet register item) r = r.register0
range-of file all (op.IndexGetSigned register item) r = r.register0
range-of file all (op.IndexPop register) r = r.register0
range-of file all (op.IndexPopSigned register) r = r.register0
range-of file all (op.IndexAdd register low high) r = r.register0
range-of file all (op.IndexSubtract register low high) r = r.register0
range-of file all (op.IndexMultiply register low high) r = r.register0
range-of file all (op.IndexMove register source) r = (r.register0, r.register1)
range-of file all (op.FlagPop flag) r = r.flag0
range-of file all (op.FlagImmediate flag value) r = r.flag0
range-of file all (op.FlagPush flag) r = r.flag0
range-of file all (op.FlagMove flag source) r = (r.flag0, r.flag1)
range-of file all (op.FlagInvert flag) r = r.flag0
range-of file all (op.FlagOr flag source) r = (r.flag0, r.flag1)
range-of file all (op.Jump target) r = tt
range-of file all (op.JumpIfZero target flag) r = r.flag0
range-of file all (op.JumpIfOne target flag) r = r.flag0
range-of file all (op.JumpUnlessOne target flag) r = r.flag0
range-of file all (op.JumpUnlessZero target flag) r = r.flag0
range-of file all op.CompareUnsigned r = tt
range-of file all op.CompareSigned r = tt
range-of file all op.CompareEqual r = tt
range-of file all op.CompareNotEqual r = tt
range-of file all op.CompareWildZ r = tt
range-of file all op.CompareWildX r = tt
range-of file all (op.CompareUnsignedImmediate low high width) r = r.width0
range-of file all (op.CompareSignedImmediate low high width) r = r.width0
range-of file all (op.CompareEqualImmediate low high width) r = r.width0
range-of file all (op.CompareNotEqualImmediate low high width) r = r.width0
range-of file all op.Add r = tt
range-of file all op.Subtract r = tt
range-of file all op.Multiply r = tt
range-of file all op.Divide r = tt
range-of file all op.DivideSigned r = tt
range-of file all op.Modulo r = tt
range-of file all op.ModuloSigned r = tt
range-of file all op.Power r = tt
range-of file all (op.AddImmediate low high width) r = r.width0
range-of file all (op.SubtractImmediate low high width) r = r.width0
range-of file all (op.MultiplyImmediate low high width) r = r.width0
range-of file all op.And r = tt
range-of file all op.Or r = tt
range-of file all op.Xor r = tt
range-of file all op.Nand r = tt
range-of file all op.Nor r = tt
range-of file all op.Xnor r = tt
range-of file all op.Invert r = tt
range-of file all op.ReduceAnd r = tt
range-of file all op.ReduceOr r = tt
range-of file all op.ReduceXor r = tt
range-of file all op.ReduceNand r = tt
range-of file all op.ReduceNor r = tt
range-of file all op.ReduceXnor r = tt
range-of file all (op.ShiftLeft register) r = r.register0
range-of file all (op.ShiftRight register) r = r.register0
range-of file all (op.ShiftRightSigned register) r = r.register0
range-of file all op.Concatenate r = tt
range-of file all (op.ConcatenateImmediate low high width) r = r.width0
range-of file all (op.Replicate count) r = tt
range-of file all (op.PartUnsigned width) r = r.width0
range-of file all (op.PartSigned width) r = r.width0
range-of file all (op.PartImmediateUnsigned width base base_width) r = (r.width0, r.width1)
range-of file all (op.PartImmediateSigned width base base_width) r = (r.width0, r.width1)
range-of file all (op.PadUnsigned width) r = r.width0
range-of file all (op.PadSigned width) r = r.width0
range-of file all op.Duplicate r = tt
range-of file all (op.Pop count) r = tt
range-of file all (op.Split width) r = r.width0
range-of file all op.Blend r = tt
range-of file all (op.Delay low high) r = tt
range-of file all (op.DelayRegister register) r = r.register0
range-of file all (op.Wait event) r = tt
range-of file all (op.Trigger event) r = tt
range-of file all (op.Fork target scope) r = tt
range-of file all op.Join r = tt
range-of file all (op.Disable scope) r = tt
range-of file all op.End r = tt
range-of file all (op.Force item) r = tt
range-of file all (op.ReleaseNet item base width) r = r.width0
range-of file all (op.ReleaseReg item base width) r = r.width0
range-of file all (op.CallTask source line name args pops) r = tt
range-of file all (op.CallFunction source line name width args pops) r = r.width0

pub op-range : (file : List ℕ) (all : List Placed) (o : Op Name) → KeepsOperands file all o → IsInRange (bound_op file all o)
op-range file all o keeps = range-of file all o (in-ranges file all o keeps)

-- Symbols

abbrev pub bound_symbol : List ℕ → List Placed → Symbol Name → Symbol ℕ
bound_symbol file all symbol = (bound_number file all symbol.1 symbol.0, symbol.1)

abbrev bound_both : List ℕ → List Placed → Option (Symbol Name) × Option (Symbol Name) → Option (Symbol ℕ) × Option (Symbol ℕ)
bound_both file all both = (option_map (bound_symbol file all) both.0, option_map (bound_symbol file all) both.1)

symbols-of : (file : List ℕ) (all : List Placed) (o : Op Name) → op_symbols (bound_op file all o) ≡ bound_both file all (op_symbols o)
unfolding bound_op op_symbols
symbols-of file all op.Nop = refl
symbols-of file all (op.PushImmediate low high width) = refl
symbols-of file all (op.Load item) = refl
symbols-of file all (op.LoadWord array index) = refl
symbols-of file all (op.Store item offset width) = refl
symbols-of file all (op.StoreWord array index offset) = refl
symbols-of file all (op.Assign item delay) = refl
symbols-of file all (op.AssignRegister item delay) = refl
symbols-of file all (op.AssignOffset item offset delay) = refl
symbols-of file all (op.AssignWord array offset delay) = refl
symbols-of file all (op.IndexLoad register low high) = refl
symbols-of file all (op.IndexGet register item) = refl
symbols-of file all (op.IndexGetSigned register item) = refl
symbols-of file all (op.IndexPop register) = refl
symbols-of file all (op.IndexPopSigned register) = refl
symbols-of file all (op.IndexAdd register low high) = refl
symbols-of file all (op.IndexSubtract register low high) = refl
symbols-of file all (op.IndexMultiply register low high) = refl
symbols-of file all (op.IndexMove register source) = refl
symbols-of file all (op.FlagPop flag) = refl
symbols-of file all (op.FlagImmediate flag value) = refl
symbols-of file all (op.FlagPush flag) = refl
symbols-of file all (op.FlagMove flag source) = refl
symbols-of file all (op.FlagInvert flag) = refl
symbols-of file all (op.FlagOr flag source) = refl
symbols-of file all (op.Jump target) = refl
symbols-of file all (op.JumpIfZero target flag) = refl
symbols-of file all (op.JumpIfOne target flag) = refl
symbols-of file all (op.JumpUnlessOne target flag) = refl
symbols-of file all (op.JumpUnlessZero target flag) = refl
symbols-of file all op.CompareUnsigned = refl
symbols-of file all op.CompareSigned = refl
symbols-of file all op.CompareEqual = refl
symbols-of file all op.CompareNotEqual = refl
symbols-of file all op.CompareWildZ = refl
symbols-of file all op.CompareWildX = refl
symbols-of file all (op.CompareUnsignedImmediate low high width) = refl
symbols-of file all (op.CompareSignedImmediate low high width) = refl
symbols-of file all (op.CompareEqualImmediate low high width) = refl
symbols-of file all (op.CompareNotEqualImmediate low high width) = refl
symbols-of file all op.Add = refl
symbols-of file all op.Subtract = refl
symbols-of file all op.Multiply = refl
symbols-of file all op.Divide = refl
symbols-of file all op.DivideSigned = refl
symbols-of file all op.Modulo = refl
symbols-of file all op.ModuloSigned = refl
symbols-of file all op.Power = refl
symbols-of file all (op.AddImmediate low high width) = refl
symbols-of file all (op.SubtractImmediate low high width) = refl
symbols-of file all (op.MultiplyImmediate low high width) = refl
symbols-of file all op.And = refl
symbols-of file all op.Or = refl
symbols-of file all op.Xor = refl
symbols-of file all op.Nand = refl
symbols-of file all op.Nor = refl
symbols-of file all op.Xnor = refl
symbols-of file all op.Invert = refl
symbols-of file all op.ReduceAnd = refl
symbols-of file all op.ReduceOr = refl
symbols-of file all op.ReduceXor = refl
symbols-of file all op.ReduceNand = refl
symbols-of file all op.ReduceNor = refl
symbols-of file all op.ReduceXnor = refl
symbols-of file all (op.ShiftLeft register) = refl
symbols-of file all (op.ShiftRight register) = refl
symbols-of file all (op.ShiftRightSigned register) = refl
symbols-of file all op.Concatenate = refl
symbols-of file all (op.ConcatenateImmediate low high width) = refl
symbols-of file all (op.Replicate count) = refl
symbols-of file all (op.PartUnsigned width) = refl
symbols-of file all (op.PartSigned width) = refl
symbols-of file all (op.PartImmediateUnsigned width base base_width) = refl
symbols-of file all (op.PartImmediateSigned width base base_width) = refl
symbols-of file all (op.PadUnsigned width) = refl
symbols-of file all (op.PadSigned width) = refl
symbols-of file all op.Duplicate = refl
symbols-of file all (op.Pop count) = refl
symbols-of file all (op.Split width) = refl
symbols-of file all op.Blend = refl
symbols-of file all (op.Delay low high) = refl
symbols-of file all (op.DelayRegister register) = refl
symbols-of file all (op.Wait event) = refl
symbols-of file all (op.Trigger event) = refl
symbols-of file all (op.Fork target scope) = refl
symbols-of file all op.Join = refl
symbols-of file all (op.Disable scope) = refl
symbols-of file all op.End = refl
symbols-of file all (op.Force item) = refl
symbols-of file all (op.ReleaseNet item base width) = refl
symbols-of file all (op.ReleaseReg item base width) = refl
symbols-of file all (op.CallTask source line name args pops) = refl
symbols-of file all (op.CallFunction source line name width args pops) = refl

-- a symbol that is declared stands for what its place takes
pub symbol-named : (file : List ℕ) (all : List Placed) (place : ℕ) (o : Option (Symbol Name)) → ForSome o (SymbolDeclared file all place) → ForSome (option_map (bound_symbol file all) o) (IsNamed (meant file all))
symbol-named file all place None each symbol is = absurd (cc)
symbol-named file all place (Some found) each symbol is =
    subst (IsNamed (meant file all)) (same_Some (bound_symbol file all found) symbol is) (named file all place found.0 found.1 (each found refl))

pub first-named : (file : List ℕ) (all : List Placed) (place : ℕ) (o : Op Name) → OpDeclares file all place o → ForSome (op_symbols (bound_op file all o)).0 (IsNamed (meant file all))
first-named file all place o d =
    subst (λ (both : Option (Symbol ℕ) × Option (Symbol ℕ)). ForSome both.0 (IsNamed (meant file all))) (sym (symbols-of file all o))
    (symbol-named file all place (op_symbols o).0 d.first)

pub second-named : (file : List ℕ) (all : List Placed) (place : ℕ) (o : Op Name) → OpDeclares file all place o → ForSome (op_symbols (bound_op file all o)).1 (IsNamed (meant file all))
second-named file all place o d =
    subst (λ (both : Option (Symbol ℕ) × Option (Symbol ℕ)). ForSome both.1 (IsNamed (meant file all))) (sym (symbols-of file all o))
    (symbol-named file all place (op_symbols o).1 d.second)
