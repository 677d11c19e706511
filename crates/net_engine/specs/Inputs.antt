-- Gates that are told by the values of one item or of two.
use Rattle.std.specs.Prelude.{◌≡◌, ℕ, ◌≤◌, IsTrue, Option, Some, List, [], ◌∷◌, length, slice_get}
use Rattle.gate_rules.specs.Single.{has_one_input}
use Rattle.sym_link.specs.declared.program.ItemKind.{ItemKind}
use Rattle.sym_link.specs.declared.program.ItemKind.TheVariants.{Functor}
use Rattle.sym_link.specs.declared.program.Source.{Source}
use Rattle.sym_link.specs.declared.program.Source.TheVariants as source
use Rattle.sym_link.specs.Roots.{Node, kind_of, root_of}
use Rattle.net_engine.specs.declared.inputs.Inputs.{Inputs}
use Rattle.net_engine.specs.declared.inputs.Inputs.TheVariants.{Single, Pair, Other}
use Rattle.net_engine.specs.Pairs.{IsPair}

-- a source is no item
abbrev pub IsConstant : Source → Type 0
IsConstant source.Unused = Unit {0}
IsConstant (source.Item item) = ⊥
IsConstant (source.Fixed bits) = 1 ≤ length bits

-- the first of a gate's sources shows the value of this item, and its others are no items
pub record AreOne (nodes : List Node) (sources : List Source) (item : ℕ) : Type 0 where
  pub first : ℕ
  pub second : Source
  pub third : Source
  pub fourth : Source
  pub are : sources ≡ source.Item first ∷ second ∷ third ∷ fourth ∷ []
  pub item_is : item ≡ root_of nodes first
  pub second_constant : IsConstant second
  pub third_constant : IsConstant third
  pub fourth_constant : IsConstant fourth

-- an item is a gate of one input, the value of another item, and drives strongly
abbrev pub IsSingle : List Node → Option ItemKind → ℕ → Type 0
IsSingle nodes (Some (Functor kind drive sources)) item = IsTrue (has_one_input kind) × (drive.0 ≡ 6) × (drive.1 ≡ 6) × AreOne nodes sources item
IsSingle nodes other item = ⊥

-- what is known of an item's inputs
abbrev pub IsInputs : List Node → Option ItemKind → Inputs → Type 0
IsInputs nodes kind (Single item) = IsSingle nodes kind item
IsInputs nodes kind (Pair left right) = IsPair nodes kind left right
IsInputs nodes kind Other = Unit {0}

-- what is known of each item's inputs
pub record AreInputs (nodes : List Node) (inputs : List Inputs) : Type 0 where
  pub counted : length inputs ≡ length nodes
  pub each : (item : ℕ) (found : Inputs) → slice_get inputs item ≡ Some found → IsInputs nodes (kind_of nodes item) found
