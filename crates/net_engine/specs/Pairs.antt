-- Gates that fold a table over two items.
use Rattle.std.specs.Prelude.{◌≡◌, ℕ, ◌≤◌, IsTrue, Option, Some, List, [], ◌∷◌, length}
use Rattle.vvp_forms.specs.declared.form.Gate.{Gate}
use Rattle.gate_rules.specs.Tables.{has_table, IsIdle}
use Rattle.sym_link.specs.declared.program.ItemKind.{ItemKind}
use Rattle.sym_link.specs.declared.program.ItemKind.TheVariants.{Functor}
use Rattle.sym_link.specs.declared.program.Source.{Source}
use Rattle.sym_link.specs.declared.program.Source.TheVariants as source
use Rattle.sym_link.specs.Roots.{Node, root_of}

-- a source adds nothing to what the table of a gate makes of two others: the port isn't used, or it is a constant that adds nothing
abbrev pub IsIdleSource : Gate → Source → Type 0
IsIdleSource kind source.Unused = Unit {0}
IsIdleSource kind (source.Item item) = ⊥
IsIdleSource kind (source.Fixed bits) = (1 ≤ length bits) × IsIdle kind (length bits) (Some bits)

-- the first two of a gate's sources show the values of these items, and its others add nothing
pub record AreTwo (nodes : List Node) (kind : Gate) (sources : List Source) (left right : ℕ) : Type 0 where
  pub first : ℕ
  pub second : ℕ
  pub third : Source
  pub fourth : Source
  pub are : sources ≡ source.Item first ∷ source.Item second ∷ third ∷ fourth ∷ []
  pub left_is : left ≡ root_of nodes first
  pub right_is : right ≡ root_of nodes second
  pub third_idle : IsIdleSource kind third
  pub fourth_idle : IsIdleSource kind fourth

-- an item is a gate that drives strongly what its table makes of the values of two items
abbrev pub IsPair : List Node → Option ItemKind → ℕ → ℕ → Type 0
IsPair nodes (Some (Functor kind drive sources)) left right = IsTrue (has_table kind) × (drive.0 ≡ 6) × (drive.1 ≡ 6) × AreTwo nodes kind sources left right
IsPair nodes other left right = ⊥
