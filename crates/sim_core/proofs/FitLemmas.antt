-- What the effect of an opcode needs, where the opcode is one of a program that was linked: the items, events and scopes that it
-- names are there.
use Rattle.std.proofs.Common.{◌≡◌, ℕ, zero, suc, ◌<◌, pos, Bool, true, false, cond, not, ◌&&◌, nat_eq, Option, Some, None, option_map, IsTrue, Result, Ok, Err, List, [], ◌∷◌, length, map, drop, refl, sym, ap, subst, ◌∙◌}
use Rattle.std.specs.List.{slice_get}
use Rattle.std.specs.Option.{option_map_or}
use Rattle.std.proofs.lemmas.Option.{slice_get_within}
use Rattle.sym_link.specs.declared.program.Item.{Item}
use Rattle.sym_link.specs.declared.program.ItemKind.{ItemKind}
use Rattle.sym_link.specs.declared.program.ItemKind.TheVariants as kind
use Rattle.sym_link.specs.declared.program.Program.{Program}
use Rattle.sym_link.specs.Roots.{Node, kind_of, node_of, nodes_of}
use Rattle.sym_link.specs.Sound.{is_array_kind, is_such, is_value_kind, is_variable_kind}
use Rattle.net_engine.specs.Net.{NetValues, words_of}
use Rattle.net_engine.specs.Kept.{IsWritable}
use Rattle.net_engine.specs.Parts.{HasLevels}
use Rattle.vvp_threads.specs.declared.thread.Frame.{Frame}
use Rattle.vvp_ops.specs.declared.op.Op.TheVariants as o
use Rattle.op_exec.specs.declared.effect.TrapKind.{TrapKind}
use Rattle.op_exec.specs.declared.effect.Effect.{Effect}
use Rattle.op_exec.specs.declared.effect.Effect.TheVariants.{Assign, Next, Set}
use Rattle.op_exec.specs.Rows.{◌>>=◌, Words, is_blocked, top_of, top_of_width, value_of}
use Rattle.op_exec.specs.RegisterRows.{with_stack}
use Rattle.op_exec.specs.EffectRows.{delay_at, effect_row, offset_at}
use Rattle.four_state.specs.declared.bits.Bit.{Bit}
use Rattle.sim_core.specs.Engine.{Shown}
use Rattle.sim_core.specs.Parts.{EffectFits}

pub get-map : {X Y : Type 0} (f : X → Y) (xs : List X) (k : ℕ) → slice_get (map f xs) k ≡ option_map f (slice_get xs k)
get-map f [] k = refl
get-map f (x ∷ xs) zero = refl
get-map f (x ∷ xs) (suc k) = get-map f xs k

-- there is an item of this number, of such a kind
pub record IsItemOf (test : ItemKind → Bool) (items : List Item) (number : ℕ) : Type 0 where
  pub item : Item
  pub there : slice_get items number ≡ Some item
  pub passes : test item.what ≡ true

pub such-is : (test : ItemKind → Bool) (items : List Item) (number : ℕ) → IsTrue (is_such test items number) → IsItemOf test items number
such-is test items number such = go (slice_get items number) refl such where
  go : (slot : Option Item) → slice_get items number ≡ slot → IsTrue (option_map_or (λ (item : Item). test item.what) slot false) → IsItemOf test items number
  go None at h = absurd (let none : ⊥ = cc in none)
  go (Some item) at h = record { item = item; there = at; passes = h }

pub kind-is : (program : Program) (number : ℕ) (item : Item) → slice_get program.items number ≡ Some item → kind_of (nodes_of program) number ≡ Some item.what
kind-is program number item at = ap (option_map (λ (node : Node). node.what)) (get-map node_of program.items number ∙ ap (option_map node_of) at)

-- ---- variables and arrays may be written

writable-by : (values : NetValues) (number : ℕ) (what : ItemKind) → is_variable_kind what ≡ true → IsWritable values number 0 (Some what)
writable-by values number (kind.Var integer) is = refl
writable-by values number (kind.Net root) is = absurd (let none : ⊥ = cc in none)
writable-by values number (kind.Functor gate drive ports) is = absurd (let none : ⊥ = cc in none)
writable-by values number (kind.Edge edge ports) is = absurd (let none : ⊥ = cc in none)
writable-by values number kind.Named is = absurd (let none : ⊥ = cc in none)
writable-by values number (kind.AnyOf events) is = absurd (let none : ⊥ = cc in none)
writable-by values number (kind.Array words) is = absurd (let none : ⊥ = cc in none)
writable-by values number (kind.Scope scope) is = absurd (let none : ⊥ = cc in none)
writable-by values number kind.Param is = absurd (let none : ⊥ = cc in none)
writable-by values number (kind.Delay rise fall decay port) is = absurd (let none : ⊥ = cc in none)

pub variable-writable : (program : Program) (values : NetValues) (number : ℕ) → IsTrue (is_such is_variable_kind program.items number) → IsWritable values number 0 (kind_of (nodes_of program) number)
variable-writable program values number such =
    let is = such-is is_variable_kind program.items number such in
    subst (λ (k : Option ItemKind). IsWritable values number 0 k) (sym (kind-is program number is.item is.there)) (writable-by values number is.item.what is.passes)

array-by : (values : NetValues) (nodes : List Node) (number word : ℕ) (what : ItemKind) → kind_of nodes number ≡ Some what → is_array_kind what ≡ true → word < length (words_of nodes values number)
    → IsWritable values number word (Some what)
unfolding words_of
array-by values nodes number word (kind.Array words) at is within = rw at at within
array-by values nodes number word (kind.Var integer) at is within = absurd (let none : ⊥ = cc in none)
array-by values nodes number word (kind.Net root) at is within = absurd (let none : ⊥ = cc in none)
array-by values nodes number word (kind.Functor gate drive ports) at is within = absurd (let none : ⊥ = cc in none)
array-by values nodes number word (kind.Edge edge ports) at is within = absurd (let none : ⊥ = cc in none)
array-by values nodes number word kind.Named at is within = absurd (let none : ⊥ = cc in none)
array-by values nodes number word (kind.AnyOf events) at is within = absurd (let none : ⊥ = cc in none)
array-by values nodes number word (kind.Scope scope) at is within = absurd (let none : ⊥ = cc in none)
array-by values nodes number word kind.Param at is within = absurd (let none : ⊥ = cc in none)
array-by values nodes number word (kind.Delay rise fall decay port) at is within = absurd (let none : ⊥ = cc in none)

pub array-writable : (program : Program) (values : NetValues) (number word : ℕ) → IsTrue (is_such is_array_kind program.items number)
    → word < length (words_of (nodes_of program) values number) → IsWritable values number word (kind_of (nodes_of program) number)
array-writable program values number word such within =
    let is = such-is is_array_kind program.items number such in
    let at = kind-is program number is.item is.there in
    subst (λ (k : Option ItemKind). IsWritable values number word k) (sym at) (array-by values (nodes_of program) number word is.item.what at is.passes within)

-- ---- items with levels, and events

levels-by : (what : ItemKind) → is_value_kind what ≡ true → HasLevels (Some what)
levels-by (kind.Var integer) is = tt
levels-by (kind.Net root) is = tt
levels-by (kind.Functor gate drive ports) is = tt
levels-by (kind.Delay rise fall decay port) is = tt
levels-by (kind.Edge edge ports) is = absurd (let none : ⊥ = cc in none)
levels-by kind.Named is = absurd (let none : ⊥ = cc in none)
levels-by (kind.AnyOf events) is = absurd (let none : ⊥ = cc in none)
levels-by (kind.Array words) is = absurd (let none : ⊥ = cc in none)
levels-by (kind.Scope scope) is = absurd (let none : ⊥ = cc in none)
levels-by kind.Param is = absurd (let none : ⊥ = cc in none)

pub has-levels : (program : Program) (number : ℕ) → IsTrue (is_such is_value_kind program.items number) → HasLevels (kind_of (nodes_of program) number)
has-levels program number such =
    let is = such-is is_value_kind program.items number such in
    subst (λ (k : Option ItemKind). HasLevels k) (sym (kind-is program number is.item is.there)) (levels-by is.item.what is.passes)

pub is-below : (test : ItemKind → Bool) (program : Program) (number : ℕ) → IsTrue (is_such test program.items number) → number < length program.items
is-below test program number such =
    let is = such-is test program.items number such in
    slice_get_within program.items number is.item is.there

-- ---- effects

-- what the effect of a row needs, unless it is a trap
abbrev pub HoldsFit : Shown → ℕ → Result (Frame × Effect) TrapKind → Type 0
HoldsFit shown serial (Ok done) = EffectFits shown serial done.0 done.1
HoldsFit shown serial (Err kind) = Unit {0}

pub popped-fits : (shown : Shown) (serial : ℕ) (frame : Frame) (popped : Result (List Bit) TrapKind) (effect : List Bit → Effect)
    → ((top : List Bit) → EffectFits shown serial (with_stack frame (drop 1 frame.stack)) (effect top))
    → HoldsFit shown serial (popped >>= (λ top. Ok (with_stack frame (drop 1 frame.stack), effect top)))
popped-fits shown serial frame (Ok top) effect fits = fits top
popped-fits shown serial frame (Err kind) effect fits = tt

pub either-fits : (shown : Shown) (serial : ℕ) (frame : Frame) (b : Bool) (x y : Effect) → EffectFits shown serial frame x → EffectFits shown serial frame y → EffectFits shown serial frame (cond b x y)
either-fits shown serial frame true x y f g = f
either-fits shown serial frame false x y f g = g

-- the opcodes whose effects name an item, an event or a scope, but for words of arrays and for calls
module _ (shown : Shown) (serial : ℕ) (frame : Frame) (words : Words) where
  pub store-fits : (item offset width : ℕ) → IsTrue (is_such is_variable_kind shown.program.items item) → HoldsFit shown serial (effect_row (o.Store item offset width) frame words)
  store-fits item offset width such =
      popped-fits shown serial frame (top_of_width frame.stack width) (λ top. cond (not (nat_eq offset 0) && is_blocked frame.flags) Next (Set item 0 (offset_at frame.registers offset) top))
      (λ top. either-fits shown serial (with_stack frame (drop 1 frame.stack)) (not (nat_eq offset 0) && is_blocked frame.flags) Next (Set item 0 (offset_at frame.registers offset) top) tt
      (variable-writable shown.program shown.machine.state.values item such))

  pub assign-fits : (item delay : ℕ) → IsTrue (is_such is_variable_kind shown.program.items item) → HoldsFit shown serial (effect_row (o.Assign item delay) frame words)
  assign-fits item delay such =
      popped-fits shown serial frame (top_of_width frame.stack (length (value_of (words item)))) (λ top. Assign item 0 (pos 0) top delay) (λ top. variable-writable shown.program shown.machine.state.values item such)

  pub register-fits : (item delay : ℕ) → IsTrue (is_such is_variable_kind shown.program.items item) → HoldsFit shown serial (effect_row (o.AssignRegister item delay) frame words)
  register-fits item delay such =
      popped-fits shown serial frame (top_of_width frame.stack (length (value_of (words item)))) (λ top. Assign item 0 (pos 0) top (delay_at frame.registers delay)) (λ top. variable-writable shown.program shown.machine.state.values item such)

  pub offset-fits : (item offset delay : ℕ) → IsTrue (is_such is_variable_kind shown.program.items item) → HoldsFit shown serial (effect_row (o.AssignOffset item offset delay) frame words)
  offset-fits item offset delay such =
      popped-fits shown serial frame (top_of frame.stack) (λ top. cond (is_blocked frame.flags) Next (Assign item 0 (offset_at frame.registers offset) top (delay_at frame.registers delay)))
      (λ top. either-fits shown serial (with_stack frame (drop 1 frame.stack)) (is_blocked frame.flags) Next (Assign item 0 (offset_at frame.registers offset) top (delay_at frame.registers delay)) tt
      (variable-writable shown.program shown.machine.state.values item such))
