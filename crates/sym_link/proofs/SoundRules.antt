-- A statement that breaks no rule: each test fails there.
use Rattle.std.proofs.Common.{◌≡◌, ℕ, Bool, true, false, List, [], ◌∷◌, ◌++◌, Option, None, Some, refl, sym, ◌∙◌, slice_get}
use Rattle.std.specs.Option.{option_or}
use Rattle.vvp_lex.specs.declared.types.Name.{Name}
use Rattle.vvp_ops.specs.declared.op.Op.{Op}
use Rattle.sym_link.specs.declared.fault.LinkKind.{LinkKind}
use Rattle.sym_link.specs.declared.fault.LinkKind.TheVariants as rule
use Rattle.sym_link.specs.declared.placed.Placed.{Placed}
use Rattle.sym_link.specs.declared.placed.What.{What}
use Rattle.sym_link.specs.declared.placed.What.TheVariants as what
use Rattle.sym_link.specs.LinkRules.{Tested, bad_arguments, broken_rule, code_rules, duplicate_label, first_broken, first_refusal, limit_reached, limit_rules, net_loop, no_code, no_scope, opcode_rules, operand_rules, part_outside, symbol_rules, unknown_symbol, unknown_task, value_rules, width_mismatch, wrong_kind}
use Rattle.sym_link.specs.Operands.{flag_range, immediate_width, register_range}
use Rattle.sym_link.proofs.AcceptLemmas.{rule-free}
use Rattle.sym_link.proofs.RuleLemmas.{first-append}

-- an opcode breaks none of its rules
pub record KeepsOperands (file : List ℕ) (all : List Placed) (o : Op Name) : Type 0 where
  pub registers : register_range o ≡ false
  pub flags : flag_range o ≡ false
  pub widths : immediate_width o ≡ false
  pub named : unknown_task o ≡ false
  pub taken : bad_arguments file all o ≡ false

abbrev pub OperandsKept : List ℕ → List Placed → What → Type 0
OperandsKept file all (what.Form f) = Unit {0}
OperandsKept file all (what.Op o) = KeepsOperands file all o

-- a statement breaks no rule
pub record Keeps (file : List ℕ) (all : List Placed) (place : ℕ) (s : Placed) : Type 0 where
  pub scoped : no_scope file all place s ≡ false
  pub known : unknown_symbol file all place s ≡ false
  pub kinds : wrong_kind file all place s ≡ false
  pub ends : net_loop file all place s.what ≡ false
  pub widths : width_mismatch file all place s.what ≡ false
  pub parts : part_outside file all s.what ≡ false
  pub coded : no_code file all s.what ≡ false
  pub operands : OperandsKept file all s.what
  pub few : limit_reached all place s ≡ false

first-free : (t : Bool) (k : LinkKind) (rest : List Tested) → first_broken ((t, k) ∷ rest) ≡ None → (t ≡ false) × (first_broken rest ≡ None)
first-free true k rest is = absurd (cc)
first-free false k rest is = (refl, is)

both-free : (a b : List Tested) → first_broken (a ++ b) ≡ None → (first_broken a ≡ None) × (first_broken b ≡ None)
both-free a b is = by (first_broken a) (sym (first-append a b) ∙ is)
  where
    by : (o : Option LinkKind) → option_or o (first_broken b) ≡ None → (o ≡ None) × (first_broken b ≡ None)
    by None is = (refl, is)
    by (Some k) is = absurd (cc)

three-free : (a b c : Bool) (j k l : LinkKind) → first_broken ((a, j) ∷ (b, k) ∷ (c, l) ∷ []) ≡ None → (a ≡ false) × (b ≡ false) × (c ≡ false)
three-free a b c j k l is =
    let first = first-free a j ((b, k) ∷ (c, l) ∷ []) is in
    let second = first-free b k ((c, l) ∷ []) first.1 in
    let third = first-free c l [] second.1 in
    (first.0, second.0, third.0)

four-free : (a b c d : Bool) (j k l m : LinkKind) → first_broken ((a, j) ∷ (b, k) ∷ (c, l) ∷ (d, m) ∷ []) ≡ None → (a ≡ false) × (b ≡ false) × (c ≡ false) × (d ≡ false)
four-free a b c d j k l m is =
    let first = first-free a j ((b, k) ∷ (c, l) ∷ (d, m) ∷ []) is in
    let second = three-free b c d k l m first.1 in
    (first.0, second.0, second.1, second.2)

five-free : (a b c d e : Bool) (j k l m n : LinkKind) → first_broken ((a, j) ∷ (b, k) ∷ (c, l) ∷ (d, m) ∷ (e, n) ∷ []) ≡ None → (a ≡ false) × (b ≡ false) × (c ≡ false) × (d ≡ false) × (e ≡ false)
five-free a b c d e j k l m n is =
    let first = first-free a j ((b, k) ∷ (c, l) ∷ (d, m) ∷ (e, n) ∷ []) is in
    let second = first-free b k ((c, l) ∷ (d, m) ∷ (e, n) ∷ []) first.1 in
    let third = first-free c l ((d, m) ∷ (e, n) ∷ []) second.1 in
    let fourth = first-free d m ((e, n) ∷ []) third.1 in
    let fifth = first-free e n [] fourth.1 in
    (first.0, second.0, third.0, fourth.0, fifth.0)

operands-kept : (file : List ℕ) (all : List Placed) (o : Op Name) → first_broken (operand_rules file all o) ≡ None → KeepsOperands file all o
operands-kept file all o is =
    let registers = five-free (register_range o) (flag_range o) (immediate_width o) (unknown_task o) (bad_arguments file all o) rule.RegisterRange rule.FlagRange rule.ImmediateWidth rule.UnknownTask rule.BadArguments is in
    record { registers = registers.0; flags = registers.1; widths = registers.2; named = registers.3; taken = registers.4 }

opcode-kept : (file : List ℕ) (all : List Placed) (w : What) → first_broken (opcode_rules file all w) ≡ None → OperandsKept file all w
opcode-kept file all (what.Form f) is = tt
opcode-kept file all (what.Op o) is = operands-kept file all o is

abbrev from_code : List ℕ → List Placed → ℕ → Placed → List Tested
from_code file all place s = code_rules file all s.what ++ limit_rules all place s

abbrev from_value : List ℕ → List Placed → ℕ → Placed → List Tested
from_value file all place s = value_rules file all place s.what ++ from_code file all place s

free-keeps : (file : List ℕ) (all : List Placed) (place : ℕ) (s : Placed) → broken_rule file all place s ≡ None → Keeps file all place s
unfolding broken_rule
free-keeps file all place s is =
    let groups = both-free (symbol_rules file all place s) (from_value file all place s) is in
    let values = both-free (value_rules file all place s.what) (from_code file all place s) groups.1 in
    let codes = both-free (code_rules file all s.what) (limit_rules all place s) values.1 in
    let symbols = four-free (duplicate_label file all place s) (no_scope file all place s) (unknown_symbol file all place s) (wrong_kind file all place s) rule.DuplicateLabel rule.NoScope rule.UnknownSymbol rule.WrongKind groups.0 in
    let sizes = three-free (net_loop file all place s.what) (width_mismatch file all place s.what) (part_outside file all s.what) rule.NetLoop rule.WidthMismatch rule.PartOutside values.0 in
    let coded = first-free (no_code file all s.what) rule.NoCode (opcode_rules file all s.what) codes.0 in
    let few = first-free (limit_reached all place s) rule.LimitReached [] codes.1 in
    record {
      scoped = symbols.1;
      known = symbols.2;
      kinds = symbols.3;
      ends = sizes.0;
      widths = sizes.1;
      parts = sizes.2;
      coded = coded.0;
      operands = opcode-kept file all s.what coded.1;
      few = few.0;
    }

-- each statement of an accepted file breaks no rule
pub keeps : (file : List ℕ) (all : List Placed) (place : ℕ) (s : Placed) → first_refusal file all ≡ None → slice_get all place ≡ Some s → Keeps file all place s
keeps file all place s none there = free-keeps file all place s (rule-free file all place s none there)
