-- The code of the program, in a file whose statements break no rule.
use Rattle.std.proofs.Common.{◌≡◌, ℕ, ◌+◌, ◌<◌, ◌≤◌, Bool, true, false, not, List, length, slice_get, Option, None, Some, is_some, refl, sym, ap, subst, ◌∙◌, if◌then◌else◌}
use Rattle.std.proofs.lemmas.Bool.{eqb-true, ltb-false, not-false}
use Rattle.std.proofs.lemmas.Option.{same_Some}
use Rattle.std.specs.Prelude.{All, IsTrue, nat_eq}
use Rattle.std.specs.Option.{option_map_or}
use Rattle.vvp_forms.specs.declared.form.Form.TheVariants as form
use Rattle.vvp_lex.specs.declared.types.Name.{Name}
use Rattle.vvp_lex.specs.Place.{◌>>=◌}
use Rattle.vvp_ops.specs.declared.op.Op.{Op}
use Rattle.vvp_ops.specs.declared.op.Op.TheVariants as op
use Rattle.sym_link.specs.declared.placed.Placed.{Placed}
use Rattle.sym_link.specs.declared.placed.What.{What}
use Rattle.sym_link.specs.declared.placed.What.TheVariants as what
use Rattle.sym_link.specs.declared.program.Item.{Item}
use Rattle.sym_link.specs.declared.sorts.Sort.{Sort}
use Rattle.sym_link.specs.declared.sorts.Sort.TheVariants as sort
use Rattle.sym_link.specs.declared.sorts.Takes.{Takes}
use Rattle.sym_link.specs.declared.sorts.Takes.TheVariants as takes
use Rattle.sym_link.specs.Bound.{bound_op}
use Rattle.sym_link.specs.LinkRules.{is_code_place, is_past, is_resolver, own_width, part_outside, releases_past, width_mismatch}
use Rattle.sym_link.specs.Meaning.{code_of, code_scope_said, code_scopes_of, current_scope, items_of, op_said, scopes_of}
use Rattle.sym_link.specs.Places.{is_opcode_statement, signal_place, sort_at, symbol_item}
use Rattle.sym_link.specs.Sorts.{accepts, is_signal, needs_scope, op_needs_scope, sort_of}
use Rattle.sym_link.specs.Sound.{IsBound, MayBeScope, is_call, width_of}
use Rattle.sym_link.specs.Uses.{op_symbols}
use Rattle.sym_link.specs.Widths.{declared_width, root_width, what_width, width_at, width_step}
use Rattle.sym_link.proofs.SoundCalls.{ReleaseFits, is-call}
use Rattle.sym_link.proofs.SoundGather.{Given, gather-all, gather-found, gather-get, gather-length}
use Rattle.sym_link.proofs.SoundItems.{Accepted}
use Rattle.sym_link.proofs.SoundNamed.{ItemOf, code-length, item-of, meant, op-tests}
use Rattle.sym_link.proofs.SoundNets.{IsSignalAt}
use Rattle.sym_link.proofs.SoundOps.{first-named, op-range, second-named}
use Rattle.sym_link.proofs.SoundRules.{Keeps, KeepsOperands, OperandsKept}
use Rattle.sym_link.proofs.SoundScopes.{AllKeep, current-may, current-there}
use Rattle.sym_link.proofs.SoundSymbols.{Declared, OpDeclares, op-declares}
use Rattle.sym_link.proofs.SoundWidths.{HasWidth, has-width, own-end, width-is}

-- Releases

same-width : (o : Option ℕ) (a b : ℕ) → o ≡ Some a → o ≡ Some b → a ≡ b
same-width o a b is also = cc

-- but for a resolver a statement says how wide its value is
says-width : (file : List ℕ) (all : List Placed) (p : ℕ) (s : Placed) (w : What) (width : ℕ) → Keeps file all p s → slice_get all p ≡ Some s → s.what ≡ w → is_signal (sort_of w) ≡ true → is_resolver w ≡ false → root_width file all p ≡ Some width → what_width w ≡ width
unfolding sort_of declared_width
says-width file all p s (what.Op o) n keeps there is signal other known = absurd (cc)
says-width file all p s (what.Form form.Ignored) n keeps there is signal other known = absurd (cc)
says-width file all p s (what.Form form.Parameter) n keeps there is signal other known = absurd (cc)
says-width file all p s (what.Form (form.Precision power)) n keeps there is signal other known = absurd (cc)
says-width file all p s (what.Form (form.Scope kind name source_module number line within)) n keeps there is signal other known = absurd (cc)
says-width file all p s (what.Form (form.CurrentScope scope)) n keeps there is signal other known = absurd (cc)
says-width file all p s (what.Form (form.TimeScale unit precision)) n keeps there is signal other known = absurd (cc)
says-width file all p s (what.Form (form.Variable kind starred name range)) n keeps there is signal other known = same-width (root_width file all p) _ n (own-end file all p s there (ap (width_step file all) is) ∙ ap (λ v. Some (what_width v)) is) known
says-width file all p s (what.Form (form.Net signed starred name range source)) n keeps there is signal other known =
    sym (eqb-true n _ (not-false (nat_eq n (what_width (what.Form (form.Net signed starred name range source))))
    (sym (ap (λ o. option_map_or (λ m. not (nat_eq m (what_width (what.Form (form.Net signed starred name range source))))) o false) known)
    ∙ sym (ap (width_mismatch file all p) is) ∙ keeps.widths)))
says-width file all p s (what.Form (form.Array kind name first last range)) n keeps there is signal other known = absurd (cc)
says-width file all p s (what.Form (form.Functor kind width drives ports)) n keeps there is signal other known = same-width (root_width file all p) _ n (own-end file all p s there (ap (width_step file all) is) ∙ ap (λ v. Some (what_width v)) is) known
says-width file all p s (what.Form (form.Resolver kind ports)) n keeps there is signal other known = absurd (cc)
says-width file all p s (what.Form (form.Part first base width)) n keeps there is signal other known = same-width (root_width file all p) _ n (own-end file all p s there (ap (width_step file all) is) ∙ ap (λ v. Some (what_width v)) is) known
says-width file all p s (what.Form (form.PartInto first base width whole)) n keeps there is signal other known = same-width (root_width file all p) _ n (own-end file all p s there (ap (width_step file all) is) ∙ ap (λ v. Some (what_width v)) is) known
says-width file all p s (what.Form (form.PartFrom signed first base width)) n keeps there is signal other known = same-width (root_width file all p) _ n (own-end file all p s there (ap (width_step file all) is) ∙ ap (λ v. Some (what_width v)) is) known
says-width file all p s (what.Form (form.Concat widths ports)) n keeps there is signal other known = same-width (root_width file all p) _ n (own-end file all p s there (ap (width_step file all) is) ∙ ap (λ v. Some (what_width v)) is) known
says-width file all p s (what.Form (form.Arithmetic kind width left right)) n keeps there is signal other known = same-width (root_width file all p) _ n (own-end file all p s there (ap (width_step file all) is) ∙ ap (λ v. Some (what_width v)) is) known
says-width file all p s (what.Form (form.Compare kind width left right)) n keeps there is signal other known = same-width (root_width file all p) _ n (own-end file all p s there (ap (width_step file all) is) ∙ ap (λ v. Some (what_width v)) is) known
says-width file all p s (what.Form (form.Shift kind width first amount)) n keeps there is signal other known = same-width (root_width file all p) _ n (own-end file all p s there (ap (width_step file all) is) ∙ ap (λ v. Some (what_width v)) is) known
says-width file all p s (what.Form (form.Reduce kind first)) n keeps there is signal other known = same-width (root_width file all p) _ n (own-end file all p s there (ap (width_step file all) is) ∙ ap (λ v. Some (what_width v)) is) known
says-width file all p s (what.Form (form.Repeat width count first)) n keeps there is signal other known = same-width (root_width file all p) _ n (own-end file all p s there (ap (width_step file all) is) ∙ ap (λ v. Some (what_width v)) is) known
says-width file all p s (what.Form (form.Extend width first)) n keeps there is signal other known = same-width (root_width file all p) _ n (own-end file all p s there (ap (width_step file all) is) ∙ ap (λ v. Some (what_width v)) is) known
says-width file all p s (what.Form (form.Delay width rise fall decay first)) n keeps there is signal other known = same-width (root_width file all p) _ n (own-end file all p s there (ap (width_step file all) is) ∙ ap (λ v. Some (what_width v)) is) known
says-width file all p s (what.Form (form.EdgeEvent kind ports)) n keeps there is signal other known = absurd (cc)
says-width file all p s (what.Form (form.NamedEvent name)) n keeps there is signal other known = absurd (cc)
says-width file all p s (what.Form (form.EventOr events)) n keeps there is signal other known = absurd (cc)
says-width file all p s (what.Form (form.Thread code start)) n keeps there is signal other known = absurd (cc)
says-width file all p s (what.Form form.CodeLabel) n keeps there is signal other known = absurd (cc)

own-is : (file : List ℕ) (all : List Placed) (a : Accepted file all) (p : ℕ) (here : IsSignalAt all p) (width : ℕ) → root_width file all p ≡ Some width → own_width file all p ≡ Some width
own-is file all a p here width known = by (is_resolver here.from.what) refl
  where
    test : option_map_or (λ (s : Placed). is_resolver s.what) (slice_get all p) false ≡ is_resolver here.from.what
    test = ap (λ o. option_map_or (λ (s : Placed). is_resolver s.what) o false) here.there

    by : (b : Bool) → is_resolver here.from.what ≡ b → own_width file all p ≡ Some width
    by true is = ap (λ c. if c then root_width file all p else Some (width_at all p)) (test ∙ is) ∙ known
    by false is =
        ap (λ c. if c then root_width file all p else Some (width_at all p)) (test ∙ is)
        ∙ ap Some (ap (λ o. option_map_or (λ (s : Placed). what_width s.what) o 0) here.there
        ∙ says-width file all p here.from here.from.what width (a.keep p here.from here.there) here.there refl here.signal is known)

release-of : (file : List ℕ) (all : List Placed) (a : Accepted file all) (place : ℕ) (item : Name) (base width : ℕ) (kind : Takes) → is_code_place kind ≡ false → ((s : Sort) → accepts kind s ≡ true → is_signal s ≡ true) → Declared file all place item kind → releases_past file all item base width ≡ false → base + width ≤ width_of (items_of file all) (symbol_item file all item)
release-of file all a place item base width kind other signals d inside =
    let here : IsSignalAt all d.first = record { from = d.from; there = d.there; signal = signals (sort_of d.from.what) d.accepted } in
    let w : HasWidth file all d.first = has-width file all a.keep a.given d.first here in
    let i : ItemOf file all kind item d.first d.from = item-of file all place item kind other d in
    let sorted : sort_at all d.first ≡ sort_of d.from.what = ap (λ o. option_map_or (λ (s : Placed). sort_of s.what) o sort.Nothing) d.there in
    let found : signal_place file all item ≡ Some d.first =
    ap (λ o. o >>= λ p. if is_signal (sort_at all p) then Some p else None) d.found
    ∙ ap (λ b. if b then Some d.first else None) (ap is_signal sorted ∙ here.signal) in
    let own : (signal_place file all item >>= own_width file all) ≡ Some w.width = ap (λ o. o >>= own_width file all) found ∙ own-is file all a d.first here w.width w.known in
    let le : base + width ≤ w.width = ltb-false w.width (base + width) (sym (ap (λ o. option_map_or (is_past base width) o false) own) ∙ inside) in
    let wide : width_of (items_of file all) (symbol_item file all item) ≡ w.width = ap (λ o. option_map_or (λ (x : Item). x.width) o 0) i.at ∙ width-is file all a.keep d.first here i.declared w.width w.known in
    subst (λ n. base + width ≤ n) (sym wide) le

net-signal : (s : Sort) → accepts takes.NetOrFunctor s ≡ true → is_signal s ≡ true
net-signal sort.Variable is = absurd (cc)
net-signal sort.Net is = refl
net-signal sort.Functor is = refl
net-signal sort.Array is = absurd (cc)
net-signal sort.EdgeEvent is = absurd (cc)
net-signal sort.NamedEvent is = absurd (cc)
net-signal sort.EventOr is = absurd (cc)
net-signal sort.Scope is = absurd (cc)
net-signal sort.Parameter is = absurd (cc)
net-signal sort.Code is = absurd (cc)
net-signal sort.Nothing is = absurd (cc)

variable-signal : (s : Sort) → accepts takes.Variable s ≡ true → is_signal s ≡ true
variable-signal sort.Variable is = refl
variable-signal sort.Net is = absurd (cc)
variable-signal sort.Functor is = absurd (cc)
variable-signal sort.Array is = absurd (cc)
variable-signal sort.EdgeEvent is = absurd (cc)
variable-signal sort.NamedEvent is = absurd (cc)
variable-signal sort.EventOr is = absurd (cc)
variable-signal sort.Scope is = absurd (cc)
variable-signal sort.Parameter is = absurd (cc)
variable-signal sort.Code is = absurd (cc)
variable-signal sort.Nothing is = absurd (cc)

release-fits : (file : List ℕ) (all : List Placed) (a : Accepted file all) (place : ℕ) (o : Op Name) → OpDeclares file all place o → part_outside file all (what.Op o) ≡ false → ReleaseFits file all place o
unfolding op_symbols
release-fits file all a place op.Nop d inside = tt
release-fits file all a place (op.PushImmediate low high width) d inside = tt
release-fits file all a place (op.Load item) d inside = tt
release-fits file all a place (op.LoadWord array index) d inside = tt
release-fits file all a place (op.Store item offset width) d inside = tt
release-fits file all a place (op.StoreWord array index offset) d inside = tt
release-fits file all a place (op.Assign item delay) d inside = tt
release-fits file all a place (op.AssignRegister item delay) d inside = tt
release-fits file all a place (op.AssignOffset item offset delay) d inside = tt
release-fits file all a place (op.AssignWord array offset delay) d inside = tt
release-fits file all a place (op.IndexLoad register low high) d inside = tt
release-fits file all a place (op.IndexGet register item) d inside = tt
release-fits file all a place (op.IndexGetSigned register item) d inside = tt
release-fits file all a place (op.IndexPop register) d inside = tt
release-fits file all a place (op.IndexPopSigned register) d inside = tt
release-fits file all a place (op.IndexAdd register low high) d inside = tt
release-fits file all a place (op.IndexSubtract register low high) d inside = tt
release-fits file all a place (op.IndexMultiply register low high) d inside = tt
release-fits file all a place (op.IndexMove register source) d inside = tt
release-fits file all a place (op.FlagPop flag) d inside = tt
release-fits file all a place (op.FlagImmediate flag value) d inside = tt
release-fits file all a place (op.FlagPush flag) d inside = tt
release-fits file all a place (op.FlagMove flag source) d inside = tt
release-fits file all a place (op.FlagInvert flag) d inside = tt
release-fits file all a place (op.FlagOr flag source) d inside = tt
release-fits file all a place (op.Jump target) d inside = tt
release-fits file all a place (op.JumpIfZero target flag) d inside = tt
release-fits file all a place (op.JumpIfOne target flag) d inside = tt
release-fits file all a place (op.JumpUnlessOne target flag) d inside = tt
release-fits file all a place (op.JumpUnlessZero target flag) d inside = tt
release-fits file all a place op.CompareUnsigned d inside = tt
release-fits file all a place op.CompareSigned d inside = tt
release-fits file all a place op.CompareEqual d inside = tt
release-fits file all a place op.CompareNotEqual d inside = tt
release-fits file all a place op.CompareWildZ d inside = tt
release-fits file all a place op.CompareWildX d inside = tt
release-fits file all a place (op.CompareUnsignedImmediate low high width) d inside = tt
release-fits file all a place (op.CompareSignedImmediate low high width) d inside = tt
release-fits file all a place (op.CompareEqualImmediate low high width) d inside = tt
release-fits file all a place (op.CompareNotEqualImmediate low high width) d inside = tt
release-fits file all a place op.Add d inside = tt
release-fits file all a place op.Subtract d inside = tt
release-fits file all a place op.Multiply d inside = tt
release-fits file all a place op.Divide d inside = tt
release-fits file all a place op.DivideSigned d inside = tt
release-fits file all a place op.Modulo d inside = tt
release-fits file all a place op.ModuloSigned d inside = tt
release-fits file all a place op.Power d inside = tt
release-fits file all a place (op.AddImmediate low high width) d inside = tt
release-fits file all a place (op.SubtractImmediate low high width) d inside = tt
release-fits file all a place (op.MultiplyImmediate low high width) d inside = tt
release-fits file all a place op.And d inside = tt
release-fits file all a place op.Or d inside = tt
release-fits file all a place op.Xor d inside = tt
release-fits file all a place op.Nand d inside = tt
release-fits file all a place op.Nor d inside = tt
release-fits file all a place op.Xnor d inside = tt
release-fits file all a place op.Invert d inside = tt
release-fits file all a place op.ReduceAnd d inside = tt
release-fits file all a place op.ReduceOr d inside = tt
release-fits file all a place op.ReduceXor d inside = tt
release-fits file all a place op.ReduceNand d inside = tt
release-fits file all a place op.ReduceNor d inside = tt
release-fits file all a place op.ReduceXnor d inside = tt
release-fits file all a place (op.ShiftLeft register) d inside = tt
release-fits file all a place (op.ShiftRight register) d inside = tt
release-fits file all a place (op.ShiftRightSigned register) d inside = tt
release-fits file all a place op.Concatenate d inside = tt
release-fits file all a place (op.ConcatenateImmediate low high width) d inside = tt
release-fits file all a place (op.Replicate count) d inside = tt
release-fits file all a place (op.PartUnsigned width) d inside = tt
release-fits file all a place (op.PartSigned width) d inside = tt
release-fits file all a place (op.PartImmediateUnsigned width base base_width) d inside = tt
release-fits file all a place (op.PartImmediateSigned width base base_width) d inside = tt
release-fits file all a place (op.PadUnsigned width) d inside = tt
release-fits file all a place (op.PadSigned width) d inside = tt
release-fits file all a place op.Duplicate d inside = tt
release-fits file all a place (op.Pop count) d inside = tt
release-fits file all a place (op.Split width) d inside = tt
release-fits file all a place op.Blend d inside = tt
release-fits file all a place (op.Delay low high) d inside = tt
release-fits file all a place (op.DelayRegister register) d inside = tt
release-fits file all a place (op.Wait event) d inside = tt
release-fits file all a place (op.Trigger event) d inside = tt
release-fits file all a place (op.Fork target scope) d inside = tt
release-fits file all a place op.Join d inside = tt
release-fits file all a place (op.Disable scope) d inside = tt
release-fits file all a place op.End d inside = tt
release-fits file all a place (op.Force item) d inside = tt
release-fits file all a place (op.ReleaseNet item base width) d inside = release-of file all a place item base width takes.NetOrFunctor refl net-signal (d.first (item, takes.NetOrFunctor) refl) inside
release-fits file all a place (op.ReleaseReg item base width) d inside = release-of file all a place item base width takes.Variable refl variable-signal (d.first (item, takes.Variable) refl) inside
release-fits file all a place (op.CallTask source line name args pops) d inside = tt
release-fits file all a place (op.CallFunction source line name width args pops) d inside = tt

-- Opcodes

is-bound : (file : List ℕ) (all : List Placed) (a : Accepted file all) (place : ℕ) (s : Placed) (w : What) (o : Op ℕ) → slice_get all place ≡ Some s → s.what ≡ w → op_said file all w ≡ Some o → IsBound (meant file all) o
is-bound file all a place s (what.Form f) o there is said = absurd (cc)
is-bound file all a place s (what.Op named) o there is said =
    let d : OpDeclares file all place named = op-declares file all place s named (a.keep place s there) is in
    let keeps : KeepsOperands file all named = subst (OperandsKept file all) is (a.keep place s there).operands in
    let release = release-fits file all a place named d (sym (ap (part_outside file all) is) ∙ (a.keep place s there).parts) in
    subst (IsBound (meant file all)) (same_Some (bound_op file all named) o said)
    (record { range = op-range file all named keeps; first = first-named file all place named d; second = second-named file all place named d; call = is-call file all place named d keeps release })

pub each-opcode : (file : List ℕ) (all : List Placed) → Accepted file all → All (IsBound (meant file all)) (code_of file all)
each-opcode file all a = gather-all (IsBound (meant file all)) (λ p s. op_said file all s.what) all (λ p s there o said. is-bound file all a p s s.what o there refl said)

-- Scopes of opcodes

scope-tests : (current : ℕ) (w : What) → is_some (code_scope_said current w) ≡ is_opcode_statement (record { line = 0; label = None; what = w })
scope-tests current (what.Form f) = refl
scope-tests current (what.Op o) = refl

pub scope-each : (file : List ℕ) (all : List Placed) → length (code_scopes_of file all) ≡ length (code_of file all)
scope-each file all =
    gather-length (λ p s. code_scope_said (current_scope file all p) s.what) is_opcode_statement all (λ p t. scope-tests (current_scope file all p) t.what)
    ∙ sym (code-length file all)

said-current : (current scope : ℕ) (w : What) → code_scope_said current w ≡ Some scope → scope ≡ current
said-current current scope (what.Form f) said = absurd (cc)
said-current current scope (what.Op o) said = sym (same_Some current scope said)

pub opcode-scopes : (file : List ℕ) (all : List Placed) → AllKeep file all → All (MayBeScope (scopes_of file all)) (code_scopes_of file all)
opcode-scopes file all keep =
    gather-all (MayBeScope (scopes_of file all)) (λ p s. code_scope_said (current_scope file all p) s.what) all
    (λ p s there scope said. subst (MayBeScope (scopes_of file all)) (sym (said-current (current_scope file all p) scope s.what said)) (current-may file all p keep))

call-needs : (file : List ℕ) (all : List Placed) (o : Op Name) → is_call (bound_op file all o) ≡ op_needs_scope o
unfolding bound_op
call-needs file all op.Nop = refl
call-needs file all (op.PushImmediate low high width) = refl
call-needs file all (op.Load item) = refl
call-needs file all (op.LoadWord array index) = refl
call-needs file all (op.Store item offset width) = refl
call-needs file all (op.StoreWord array index offset) = refl
call-needs file all (op.Assign item delay) = refl
call-needs file all (op.AssignRegister item delay) = refl
call-needs file all (op.AssignOffset item offset delay) = refl
call-needs file all (op.AssignWord array offset delay) = refl
call-needs file all (op.IndexLoad register low high) = refl
call-needs file all (op.IndexGet register item) = refl
call-needs file all (op.IndexGetSigned register item) = refl
call-needs file all (op.IndexPop register) = refl
call-needs file all (op.IndexPopSigned register) = refl
call-needs file all (op.IndexAdd register low high) = refl
call-needs file all (op.IndexSubtract register low high) = refl
call-needs file all (op.IndexMultiply register low high) = refl
call-needs file all (op.IndexMove register source) = refl
call-needs file all (op.FlagPop flag) = refl
call-needs file all (op.FlagImmediate flag value) = refl
call-needs file all (op.FlagPush flag) = refl
call-needs file all (op.FlagMove flag source) = refl
call-needs file all (op.FlagInvert flag) = refl
call-needs file all (op.FlagOr flag source) = refl
call-needs file all (op.Jump target) = refl
call-needs file all (op.JumpIfZero target flag) = refl
call-needs file all (op.JumpIfOne target flag) = refl
call-needs file all (op.JumpUnlessOne target flag) = refl
call-needs file all (op.JumpUnlessZero target flag) = refl
call-needs file all op.CompareUnsigned = refl
call-needs file all op.CompareSigned = refl
call-needs file all op.CompareEqual = refl
call-needs file all op.CompareNotEqual = refl
call-needs file all op.CompareWildZ = refl
call-needs file all op.CompareWildX = refl
call-needs file all (op.CompareUnsignedImmediate low high width) = refl
call-needs file all (op.CompareSignedImmediate low high width) = refl
call-needs file all (op.CompareEqualImmediate low high width) = refl
call-needs file all (op.CompareNotEqualImmediate low high width) = refl
call-needs file all op.Add = refl
call-needs file all op.Subtract = refl
call-needs file all op.Multiply = refl
call-needs file all op.Divide = refl
call-needs file all op.DivideSigned = refl
call-needs file all op.Modulo = refl
call-needs file all op.ModuloSigned = refl
call-needs file all op.Power = refl
call-needs file all (op.AddImmediate low high width) = refl
call-needs file all (op.SubtractImmediate low high width) = refl
call-needs file all (op.MultiplyImmediate low high width) = refl
call-needs file all op.And = refl
call-needs file all op.Or = refl
call-needs file all op.Xor = refl
call-needs file all op.Nand = refl
call-needs file all op.Nor = refl
call-needs file all op.Xnor = refl
call-needs file all op.Invert = refl
call-needs file all op.ReduceAnd = refl
call-needs file all op.ReduceOr = refl
call-needs file all op.ReduceXor = refl
call-needs file all op.ReduceNand = refl
call-needs file all op.ReduceNor = refl
call-needs file all op.ReduceXnor = refl
call-needs file all (op.ShiftLeft register) = refl
call-needs file all (op.ShiftRight register) = refl
call-needs file all (op.ShiftRightSigned register) = refl
call-needs file all op.Concatenate = refl
call-needs file all (op.ConcatenateImmediate low high width) = refl
call-needs file all (op.Replicate count) = refl
call-needs file all (op.PartUnsigned width) = refl
call-needs file all (op.PartSigned width) = refl
call-needs file all (op.PartImmediateUnsigned width base base_width) = refl
call-needs file all (op.PartImmediateSigned width base base_width) = refl
call-needs file all (op.PadUnsigned width) = refl
call-needs file all (op.PadSigned width) = refl
call-needs file all op.Duplicate = refl
call-needs file all (op.Pop count) = refl
call-needs file all (op.Split width) = refl
call-needs file all op.Blend = refl
call-needs file all (op.Delay low high) = refl
call-needs file all (op.DelayRegister register) = refl
call-needs file all (op.Wait event) = refl
call-needs file all (op.Trigger event) = refl
call-needs file all (op.Fork target scope) = refl
call-needs file all op.Join = refl
call-needs file all (op.Disable scope) = refl
call-needs file all op.End = refl
call-needs file all (op.Force item) = refl
call-needs file all (op.ReleaseNet item base width) = refl
call-needs file all (op.ReleaseReg item base width) = refl
call-needs file all (op.CallTask source line name args pops) = refl
call-needs file all (op.CallFunction source line name width args pops) = refl

said-needs : (file : List ℕ) (all : List Placed) (w : What) (o : Op ℕ) → op_said file all w ≡ Some o → is_call o ≡ true → needs_scope w ≡ true
said-needs file all (what.Form f) o said is = absurd (cc)
said-needs file all (what.Op named) o said is = sym (call-needs file all named) ∙ ap is_call (same_Some (bound_op file all named) o said) ∙ is

-- a call stands in a scope
pub call-scopes : (file : List ℕ) (all : List Placed) → AllKeep file all → (address scope : ℕ) (o : Op ℕ) → slice_get (code_of file all) address ≡ Some o → IsTrue (is_call o) → slice_get (code_scopes_of file all) address ≡ Some scope → scope < length (scopes_of file all)
call-scopes file all keep address scope o at call there =
    let found : Given (Op ℕ) (λ p s. op_said file all s.what) is_opcode_statement all address o =
    gather-found (λ p s. op_said file all s.what) is_opcode_statement all address o (λ p t. op-tests file all t.what) at in
    let said : slice_get (code_scopes_of file all) address ≡ code_scope_said (current_scope file all found.place) found.from.what =
    ap (slice_get (code_scopes_of file all)) found.count
    ∙ gather-get (λ p s. code_scope_said (current_scope file all p) s.what) is_opcode_statement all found.place found.from (λ p t. scope-tests (current_scope file all p) t.what) found.there found.passes in
    let same : scope ≡ current_scope file all found.place = said-current (current_scope file all found.place) scope found.from.what (sym said ∙ there) in
    subst (λ n. n < length (scopes_of file all)) (sym same)
    (current-there file all found.place found.from keep found.there (said-needs file all found.from.what o found.given call))
