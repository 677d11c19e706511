-- An opcode of a program that was linked may be done on the values of its items.
use Rattle.std.proofs.Common.{◌≡◌, ℕ, zero, suc, ◌+◌, ◌≤◌, Bool, true, false, not, ◌&&◌, Some, IsTrue, List, [], ◌∷◌, length, refl, sym, ap, subst, ◌∙◌, arith}
use Rattle.std.specs.List.{slice_get}
use Rattle.std.proofs.lemmas.Option.{get_or_from_slice_get, slice_get_within}
use Rattle.sym_link.specs.declared.program.Item.{Item}
use Rattle.sym_link.specs.declared.program.ItemKind.{ItemKind}
use Rattle.sym_link.specs.declared.program.ItemKind.TheVariants as kind
use Rattle.sym_link.specs.declared.program.Program.{Program}
use Rattle.sym_link.specs.declared.sorts.Takes.TheVariants as takes
use Rattle.sym_link.specs.Roots.{nodes_of}
use Rattle.sym_link.specs.Sound.{IsArray, IsBound, IsKind, IsProgram, is_array_kind, is_such, is_value_kind, is_variable_kind, width_of}
use Rattle.sym_link.specs.Uses.{op_symbols}
use Rattle.vvp_ops.specs.declared.op.Op.{Op}
use Rattle.vvp_ops.specs.declared.op.Op.TheVariants as o
use Rattle.op_exec.specs.Rows.{value_of}
use Rattle.op_exec.specs.Executable.{IsExecutable, NamesItems}
use Rattle.net_engine.specs.Net.{NetValues, words_of}
use Rattle.net_engine.specs.Parts.{AreWide, IsLinked}
use Rattle.net_engine.proofs.LinkedLemmas.{item-sound, such-at}
use Rattle.net_engine.proofs.ReadLemmas.{count-array, count-one}
use Rattle.net_engine.proofs.RootLemmas.{rooted}
use Rattle.net_engine.proofs.SoundLemmas.{word-width}
use Rattle.sim_core.proofs.FitLemmas.{has-levels, kind-is}

-- an item of a kind is one of a wider kind
pub such-wider : (p q : ItemKind → Bool) → ((what : ItemKind) → p what ≡ true → q what ≡ true) → (items : List Item) (k : ℕ) → IsTrue (is_such p items k) → IsTrue (is_such q items k)
such-wider p q wider [] k such = such
such-wider p q wider (item ∷ items) (suc k) such = such-wider p q wider items k such
such-wider p q wider (item ∷ items) zero such = wider item.what such

variable-value : (what : ItemKind) → is_variable_kind what ≡ true → is_value_kind what ≡ true
variable-value (kind.Var integer) is = refl
variable-value (kind.Net root) is = refl
variable-value (kind.Functor gate drive ports) is = refl
variable-value (kind.Delay rise fall decay port) is = refl
variable-value (kind.Edge edge ports) is = is
variable-value kind.Named is = is
variable-value (kind.AnyOf events) is = is
variable-value (kind.Array words) is = is
variable-value (kind.Scope scope) is = is
variable-value kind.Param is = is

both-first : (a b : Bool) → a && b ≡ true → a ≡ true
both-first true b is = refl
both-first false b is = is

pub variable-such : (items : List Item) (k : ℕ) → IsTrue (is_such is_variable_kind items k) → IsTrue (is_such is_value_kind items k)
variable-such items k such = such-wider is_variable_kind is_value_kind variable-value items k such

pub driven-such : (items : List Item) (k : ℕ) → IsTrue (is_such (λ what. is_value_kind what && not (is_variable_kind what)) items k) → IsTrue (is_such is_value_kind items k)
driven-such items k such = such-wider (λ what. is_value_kind what && not (is_variable_kind what)) is_value_kind (λ what. both-first (is_value_kind what) (not (is_variable_kind what))) items k such

-- an item with a value has one word
pub value-one : (program : Program) (values : NetValues) (k : ℕ) → IsTrue (is_such is_value_kind program.items k) → length (words_of (nodes_of program) values k) ≡ 1
value-one program values k such = sym (count-one (nodes_of program) values k (has-levels program k such))

-- as wide as the item
pub value-width : (program : Program) (values : NetValues) (k : ℕ) → IsProgram program → AreWide (nodes_of program) values → IsTrue (is_such is_value_kind program.items k)
    → length (value_of (words_of (nodes_of program) values k)) ≡ width_of program.items k
value-width program values k linked wide such =
    let is : IsLinked (nodes_of program) = record { program = program; linked = linked; same = refl } in
    word-width (nodes_of program) values k is wide (has-levels program k such) ∙ (rooted program values k linked wide such).width

-- an array has a word at least
array-some-by : (program : Program) (item : Item) (what : ItemKind) → IsKind program item what → is_array_kind what ≡ true → (count : ℕ) × (what ≡ kind.Array count) × (1 ≤ count) × IsArray program item count
array-some-by program item (kind.Array count) is array = (count, refl, is.some, is)
array-some-by program item (kind.Var integer) is array = absurd (let none : ⊥ = cc in none)
array-some-by program item (kind.Net root) is array = absurd (let none : ⊥ = cc in none)
array-some-by program item (kind.Functor gate drive ports) is array = absurd (let none : ⊥ = cc in none)
array-some-by program item (kind.Delay rise fall decay port) is array = absurd (let none : ⊥ = cc in none)
array-some-by program item (kind.Edge edge ports) is array = absurd (let none : ⊥ = cc in none)
array-some-by program item kind.Named is array = absurd (let none : ⊥ = cc in none)
array-some-by program item (kind.AnyOf events) is array = absurd (let none : ⊥ = cc in none)
array-some-by program item (kind.Scope scope) is array = absurd (let none : ⊥ = cc in none)
array-some-by program item kind.Param is array = absurd (let none : ⊥ = cc in none)

-- an item that is an array, and how many words it has
pub record IsArrayAt (program : Program) (k : ℕ) : Type 0 where
  pub item : Item
  pub there : slice_get program.items k ≡ Some item
  pub count : ℕ
  pub what : item.what ≡ kind.Array count
  pub some : 1 ≤ count
  pub sound : IsArray program item count

pub array-at : (program : Program) (k : ℕ) → IsProgram program → IsTrue (is_such is_array_kind program.items k) → IsArrayAt program k
array-at program k linked such =
    let found = such-at is_array_kind program.items k such in
    let is = array-some-by program found.0 found.0.what (item-sound program k found.0 linked found.1) found.2 in
    record { item = found.0; there = found.1; count = is.0; what = is.1; some = is.2; sound = is.3 }

pub array-words : (program : Program) (values : NetValues) (k : ℕ) → IsProgram program → AreWide (nodes_of program) values → IsTrue (is_such is_array_kind program.items k)
    → 1 ≤ length (words_of (nodes_of program) values k)
array-words program values k linked wide such =
    let a = array-at program k linked such in
    let count = count-array (nodes_of program) values k a.count wide (kind-is program k a.item a.there ∙ ap (λ (what : ItemKind). Some what) a.what) in
    let some = a.some in
    omega (arith, count, some)

-- ---- opcodes

-- an opcode of a program
pub bound-at : (program : Program) (place : ℕ) (op : Op ℕ) → IsProgram program → slice_get program.code place ≡ Some op → IsBound program op
bound-at program place op linked at =
    subst (IsBound program) (get_or_from_slice_get program.code place op op at) (linked.each_opcode place op (slice_get_within program.code place op at))

names-items : (program : Program) (values : NetValues) → IsProgram program → AreWide (nodes_of program) values → (op : Op ℕ) → IsBound program op → NamesItems (words_of (nodes_of program) values) op
unfolding op_symbols
names-items program values linked wide (o.Load item) bound = value-one program values item (bound.first (item, takes.Signal) refl)
names-items program values linked wide (o.LoadWord array index) bound = array-words program values array linked wide (bound.first (array, takes.Array) refl)
names-items program values linked wide (o.Store item offset width) bound = value-one program values item (variable-such program.items item (bound.first (item, takes.Variable) refl))
names-items program values linked wide (o.StoreWord array index offset) bound = array-words program values array linked wide (bound.first (array, takes.Array) refl)
names-items program values linked wide (o.Assign item delay) bound = value-one program values item (variable-such program.items item (bound.first (item, takes.Variable) refl))
names-items program values linked wide (o.AssignRegister item delay) bound = value-one program values item (variable-such program.items item (bound.first (item, takes.Variable) refl))
names-items program values linked wide (o.AssignOffset item offset delay) bound = value-one program values item (variable-such program.items item (bound.first (item, takes.Variable) refl))
names-items program values linked wide (o.AssignWord array offset delay) bound = array-words program values array linked wide (bound.first (array, takes.Array) refl)
names-items program values linked wide (o.IndexGet register item) bound = value-one program values item (bound.first (item, takes.Signal) refl)
names-items program values linked wide (o.IndexGetSigned register item) bound = value-one program values item (bound.first (item, takes.Signal) refl)
names-items program values linked wide (o.Force item) bound = value-one program values item (bound.first (item, takes.Signal) refl)
names-items program values linked wide (o.ReleaseNet item base width) bound =
    let such = driven-such program.items item (bound.first (item, takes.NetOrFunctor) refl) in
    let within : base + width ≤ width_of program.items item = bound.call in
    (value-one program values item such, omega (arith, within, value-width program values item linked wide such))
names-items program values linked wide (o.ReleaseReg item base width) bound =
    let such = variable-such program.items item (bound.first (item, takes.Variable) refl) in
    let within : base + width ≤ width_of program.items item = bound.call in
    (value-one program values item such, omega (arith, within, value-width program values item linked wide such))
names-items program values linked wide op bound = tt

pub executable : (program : Program) (values : NetValues) (place : ℕ) (op : Op ℕ) → IsProgram program → AreWide (nodes_of program) values → slice_get program.code place ≡ Some op
    → IsExecutable (words_of (nodes_of program) values) op
executable program values place op linked wide at =
    let bound = bound-at program place op linked at in
    record { range = bound.range; items = names-items program values linked wide op bound }
