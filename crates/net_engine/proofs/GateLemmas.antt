-- A gate of a linked program can be evaluated by what its ports have.
use Rattle.std.proofs.Common.{◌≡◌, ℕ, zero, suc, ◌+◌, ◌*◌, ◌/◌, ◌%◌, ◌<◌, ◌≤◌, Bool, true, false, not, ◌&&◌, nat_eq, if◌then◌else◌, IsTrue, Option, Some, None, IsSome, List, [], ◌∷◌, length, map, refl, sym, ap, subst, ◌∙◌, arith}
use Rattle.std.specs.Prelude.{sum, IsSomeAnd}
use Rattle.std.specs.List.{All, list_all, list_any}
use Rattle.std.specs.Option.{option_map}
use Rattle.std.proofs.lemmas.Bool.{eqb-true}
use Rattle.std.proofs.lemmas.Bool.Decides.{nat_tests}
use Rattle.std.proofs.lemmas.List.{length-map}
use Rattle.std.proofs.lemmas.List.Elements.{All-nil, All-cons, All-head, All-tail}
use Rattle.vvp_forms.specs.declared.form.Gate.{Gate}
use Rattle.vvp_forms.specs.declared.form.Gate.TheVariants as gate
use Rattle.gate_rules.specs.Ports.{there, widths}
use Rattle.gate_rules.specs.Evaluable.{IsEvaluable, Fits, HaveWidth, port_of_width}
use Rattle.event_pool.proofs.CountLemmas.{one_if}
use Rattle.sym_link.specs.declared.program.Program.{Program}
use Rattle.sym_link.specs.declared.program.Item.{Item}
use Rattle.sym_link.specs.declared.program.ItemKind.TheVariants.{Functor}
use Rattle.sym_link.specs.declared.program.Source.{Source}
use Rattle.sym_link.specs.declared.program.Source.TheVariants as source
use Rattle.sym_link.specs.declared.widths.Wanted.{Wanted}
use Rattle.sym_link.specs.declared.widths.Wanted.TheVariants as wants
use Rattle.sym_link.specs.Roots.{node_of, nodes_of, root_of}
use Rattle.sym_link.specs.Widths.{concat_wanted}
use Rattle.sym_link.specs.Sound.{IsProgram, IsKind, IsSource, AreSources, IsGate, has_ports, is_same, pass_by_width, zeros_last, port_takes, is_used, is_item, is_value_kind, width_of, source_width}
use Rattle.net_engine.specs.Net.{NetValues, driven_of, at_source}
use Rattle.net_engine.specs.Parts.{AreWide, IsShowing, AreShowing}
use Rattle.net_engine.proofs.LinkedLemmas.{such-within, is-true}
use Rattle.net_engine.proofs.RootLemmas.{rooted, levels-length}

-- the width that a source offers
abbrev pub offered : List Item → Source → Option ℕ
offered items source.Unused = None
offered items (source.Item number) = Some (width_of items number)
offered items (source.Fixed bits) = Some (length bits)

-- ---- tests

both-left : (a b : Bool) → (a && b) ≡ true → a ≡ true
both-left true b e = refl
both-left false b e = cc

both-right : (a b : Bool) → (a && b) ≡ true → b ≡ true
both-right true b e = e
both-right false b e = cc

-- ---- one source

exactly : (items : List Item) (width : ℕ) (s : Source) → IsSource items (wants.Exactly width) s → is_used s ≡ true → offered items s ≡ Some width
exactly items width source.Unused h used = cc
exactly items width (source.Item number) h used = ap (λ (n : ℕ). Some n) (eqb-true (width_of items number) width (is-true _ h.1))
exactly items width (source.Fixed bits) h used = ap (λ (n : ℕ). Some n) (eqb-true (length bits) width (is-true _ h.1))

some-offered : (items : List Item) (s : Source) → is_used s ≡ true → IsSome (offered items s)
some-offered items source.Unused used = cc
some-offered items (source.Item number) used = refl
some-offered items (source.Fixed bits) used = refl

wide-enough : (items : List Item) (base width : ℕ) (s : Source) → is_used s ≡ true → base + width ≤ source_width items s → IsSomeAnd (offered items s) (λ n. base + width ≤ n)
wide-enough items base width source.Unused used h = cc
wide-enough items base width (source.Item number) used h = h
wide-enough items base width (source.Fixed bits) used h = h

at-most : (items : List Item) (width : ℕ) (s : Source) → IsSource items (wants.AtMost width) s → is_used s ≡ true → IsSomeAnd (offered items s) (λ n. n ≤ width)
at-most items width source.Unused h used = cc
at-most items width (source.Item number) h used = let test = is-true _ h.1 in grind (arith, nat_tests)
at-most items width (source.Fixed bits) h used = let test = is-true _ h.1 in grind (arith, nat_tests)

copied-some : (o : Option ℕ) (count width copy : ℕ) → o ≡ Some copy → count * copy ≡ width → IsSomeAnd o (λ n. count * n ≡ width)
copied-some None count width copy is h = cc
copied-some (Some n) count width copy is h = let same : n ≡ copy = cc in ap (λ (m : ℕ). count * m) same ∙ h

repeats : (items : List Item) (width count : ℕ) (s : Source) → IsSource items (if nat_eq count 0 then wants.Any else wants.Exactly (width / count)) s → is_used s ≡ true → 1 ≤ count → width % count ≡ 0
    → IsSomeAnd (offered items s) (λ n. count * n ≡ width)
repeats items width count s h used least rest =
    let not_none : nat_eq count 0 ≡ false = grind (arith, nat_tests) in
    let exact : IsSource items (wants.Exactly (width / count)) s = subst (λ (b : Bool). IsSource items (if b then wants.Any else wants.Exactly (width / count)) s) not_none h in
    let some : 0 < count = omega arith in
    copied-some (offered items s) count width (width / count) (exactly items (width / count) s exact used) (omega arith)

-- ---- all ports

all-exact : (items : List Item) (width port : ℕ) (takes : ℕ → Wanted) (sources : List Source) → ((k : ℕ) → takes k ≡ wants.Exactly width) → AreSources items takes port sources → All (λ (w : ℕ). w ≡ width) (there (map (offered items) sources))
all-exact items width port takes [] same h = All-nil (λ (w : ℕ). w ≡ width)
all-exact items width port takes (source.Unused ∷ sources) same h = all-exact items width (port + 1) takes sources same h.1
all-exact items width port takes (source.Item number ∷ sources) same h =
    let exact : IsSource items (wants.Exactly width) (source.Item number) = subst (λ (want : Wanted). IsSource items want (source.Item number)) (same port) h.0 in
    All-cons (λ (w : ℕ). w ≡ width) (width_of items number) _ (eqb-true (width_of items number) width (is-true _ exact.1)) (all-exact items width (port + 1) takes sources same h.1)
all-exact items width port takes (source.Fixed bits ∷ sources) same h =
    let exact : IsSource items (wants.Exactly width) (source.Fixed bits) = subst (λ (want : Wanted). IsSource items want (source.Fixed bits)) (same port) h.0 in
    All-cons (λ (w : ℕ). w ≡ width) (length bits) _ (eqb-true (length bits) width (is-true _ exact.1)) (all-exact items width (port + 1) takes sources same h.1)

some-there : (items : List Item) (sources : List Source) → list_any is_used sources ≡ true → 1 ≤ length (there (map (offered items) sources))
some-there items [] any = cc
some-there items (source.Unused ∷ sources) any = some-there items sources any
some-there items (source.Item number ∷ sources) any = omega arith
some-there items (source.Fixed bits ∷ sources) any = omega arith

items-used : (sources : List Source) → list_any is_item sources ≡ true → list_any is_used sources ≡ true
items-used [] any = cc
items-used (source.Unused ∷ sources) any = items-used sources any
items-used (source.Item number ∷ sources) any = refl
items-used (source.Fixed bits ∷ sources) any = refl

have-width : (items : List Item) (width : ℕ) (takes : ℕ → Wanted) (sources : List Source) → ((k : ℕ) → takes k ≡ wants.Exactly width) → list_any is_used sources ≡ true → AreSources items takes 0 sources → HaveWidth (map (offered items) sources) width
have-width items width takes sources same any h = (some-there items sources any, all-exact items width 0 takes sources same h)

-- ---- concatenations

-- a port has a bit at least
abbrev pub Least : Option ℕ → Type 0
Least None = Unit {0}
Least (Some width) = 1 ≤ width

-- a width that isn't 0, as a number
abbrev unless : Bool → ℕ
unless b = if b then 0 else 1

abbrev is_there : ℕ → ℕ
is_there width = unless (nat_eq width 0)

there-some : (width : ℕ) → 1 ≤ width → is_there width ≡ 1
there-some width least = let other : nat_eq width 0 ≡ false = grind (arith, nat_tests) in ap unless other

there-none : (width : ℕ) → is_there width ≡ 0 → width ≡ 0
there-none width none = go (nat_eq width 0) refl none where
  go : (b : Bool) → nat_eq width 0 ≡ b → unless b ≡ 0 → width ≡ 0
  go true is h = eqb-true width 0 is
  go false is h = absurd (omega (arith, h))

port-some : (width : ℕ) → 1 ≤ width → port_of_width width ≡ Some width
port-some zero least = absurd (omega arith)
port-some (suc n) least = refl

-- whether a port is used says whether it has a width
same-count : (used none : Bool) → is_same used (not none) ≡ true → one_if used ≡ unless none
same-count true true h = cc
same-count true false h = refl
same-count false true h = refl
same-count false false h = cc

-- a port is used exactly where its width isn't 0
port-width : (items : List Item) (width : ℕ) (s : Source) → IsSource items (wants.Exactly width) s → Least (offered items s) → one_if (is_used s) ≡ is_there width → offered items s ≡ port_of_width width
port-width items width source.Unused h least count = ap port_of_width (sym (there-none width (sym count)))
port-width items width (source.Item number) h least count =
    let same : width_of items number ≡ width = eqb-true (width_of items number) width (is-true _ h.1) in
    ap (λ (n : ℕ). Some n) same ∙ sym (port-some width (omega (arith, same, least)))
port-width items width (source.Fixed bits) h least count =
    let same : length bits ≡ width = eqb-true (length bits) width (is-true _ h.1) in
    ap (λ (n : ℕ). Some n) same ∙ sym (port-some width (omega (arith, same, least)))

same-four : {X : Type 0} (a b c d p q r s : X) → a ≡ p → b ≡ q → c ≡ r → d ≡ s → a ∷ b ∷ c ∷ d ∷ [] ≡ p ∷ q ∷ r ∷ s ∷ []
same-four a b c d p q r s e f g h = cc

-- widths after a 0 are 0
none-after : (w x y z : ℕ) → zeros_last (w ∷ x ∷ y ∷ z ∷ []) ≡ true → w ≡ 0 → sum (w ∷ x ∷ y ∷ z ∷ []) ≡ 0
none-after w x y z last none =
    let is : nat_eq w 0 ≡ true = grind (arith, nat_tests) in
    let all : (nat_eq 0 x && (nat_eq 0 y && (nat_eq 0 z && true))) ≡ true = subst (λ (b : Bool). (if b then list_all (nat_eq 0) (x ∷ y ∷ z ∷ []) else zeros_last (x ∷ y ∷ z ∷ [])) ≡ true) is last in
    let no_x : 0 ≡ x = eqb-true 0 x (both-left _ _ all) in
    let no_y : 0 ≡ y = eqb-true 0 y (both-left _ _ (both-right (nat_eq 0 x) _ all)) in
    let no_z : 0 ≡ z = eqb-true 0 z (both-left _ _ (both-right (nat_eq 0 y) _ (both-right (nat_eq 0 x) _ all))) in
    omega (arith, none, no_x, no_y, no_z)

concat-fits : (items : List Item) (ws : List ℕ) (width : ℕ) (a b c d : Source) → pass_by_width is_used ws (a ∷ b ∷ c ∷ d ∷ []) ≡ true → AreSources items (concat_wanted ws) 0 (a ∷ b ∷ c ∷ d ∷ [])
    → (length ws ≡ 4) × (sum ws ≡ width) × IsTrue (zeros_last ws) → All Least (map (offered items) (a ∷ b ∷ c ∷ d ∷ [])) → 1 ≤ width
    → (map (offered items) (a ∷ b ∷ c ∷ d ∷ []) ≡ map port_of_width ws) × (sum ws ≡ width) × IsSome (offered items a)
concat-fits items [] width a b c d used h g least some = absurd (omega (arith, g.0))
concat-fits items (w ∷ []) width a b c d used h g least some = absurd (omega (arith, g.0))
concat-fits items (w ∷ x ∷ []) width a b c d used h g least some = absurd (omega (arith, g.0))
concat-fits items (w ∷ x ∷ y ∷ []) width a b c d used h g least some = absurd (omega (arith, g.0))
concat-fits items (w ∷ x ∷ y ∷ z ∷ v ∷ ws) width a b c d used h g least some = absurd (omega (arith, g.0))
concat-fits items (w ∷ x ∷ y ∷ z ∷ []) width a b c d used h g least some =
    let least_a = All-head Least (offered items a) (offered items b ∷ offered items c ∷ offered items d ∷ []) least in
    let tail_a = All-tail Least (offered items a) (offered items b ∷ offered items c ∷ offered items d ∷ []) least in
    let least_b = All-head Least (offered items b) (offered items c ∷ offered items d ∷ []) tail_a in
    let tail_b = All-tail Least (offered items b) (offered items c ∷ offered items d ∷ []) tail_a in
    let least_c = All-head Least (offered items c) (offered items d ∷ []) tail_b in
    let least_d = All-head Least (offered items d) [] (All-tail Least (offered items c) (offered items d ∷ []) tail_b) in
    let used_a = both-right (is_same (is_used a) (not (nat_eq w 0))) _ used in
    let used_b = both-right (is_same (is_used b) (not (nat_eq x 0))) _ used_a in
    let used_c = both-right (is_same (is_used c) (not (nat_eq y 0))) _ used_b in
    let at_a = same-count (is_used a) (nat_eq w 0) (both-left _ _ used) in
    let at_b = same-count (is_used b) (nat_eq x 0) (both-left _ _ used_a) in
    let at_c = same-count (is_used c) (nat_eq y 0) (both-left _ _ used_b) in
    let at_d = same-count (is_used d) (nat_eq z 0) (both-left _ _ used_c) in (
      same-four _ _ _ _ _ _ _ _ (port-width items w a h.0 least_a at_a) (port-width items x b h.1.0 least_b at_b) (port-width items y c h.1.1.0 least_c at_c) (port-width items z d h.1.1.1.0 least_d at_d),
      g.1,
      some-offered items a (first-used (is_used a) refl at_a),
    )
  where
    first-used : (b : Bool) → is_used a ≡ b → one_if (is_used a) ≡ is_there w → is_used a ≡ true
    first-used true is count = is
    first-used false is count =
        let none : is_there w ≡ 0 = sym count ∙ ap one_if is in
        let all = none-after w x y z (is-true _ g.2) (there-none w none) in
        absurd (omega (arith, all, g.1, some))

-- ---- all gates

fits-four : (items : List Item) (kind : Gate) (width : ℕ) (a b c d : Source) → has_ports kind (a ∷ b ∷ c ∷ d ∷ []) ≡ true → AreSources items (port_takes kind width) 0 (a ∷ b ∷ c ∷ d ∷ [])
    → IsGate items kind width (a ∷ b ∷ c ∷ d ∷ []) → All Least (map (offered items) (a ∷ b ∷ c ∷ d ∷ [])) → 1 ≤ width
    → Fits kind width (map (offered items) (a ∷ b ∷ c ∷ d ∷ []))
unfolding Fits
fits-four items gate.And width a b c d has h g least some = have-width items width (port_takes gate.And width) (a ∷ b ∷ c ∷ d ∷ []) (λ k. refl) has h
fits-four items gate.Or width a b c d has h g least some = have-width items width (port_takes gate.Or width) (a ∷ b ∷ c ∷ d ∷ []) (λ k. refl) has h
fits-four items gate.Xor width a b c d has h g least some = have-width items width (port_takes gate.Xor width) (a ∷ b ∷ c ∷ d ∷ []) (λ k. refl) has h
fits-four items gate.Nand width a b c d has h g least some = have-width items width (port_takes gate.Nand width) (a ∷ b ∷ c ∷ d ∷ []) (λ k. refl) has h
fits-four items gate.Nor width a b c d has h g least some = have-width items width (port_takes gate.Nor width) (a ∷ b ∷ c ∷ d ∷ []) (λ k. refl) has h
fits-four items gate.Xnor width a b c d has h g least some = have-width items width (port_takes gate.Xnor width) (a ∷ b ∷ c ∷ d ∷ []) (λ k. refl) has h
fits-four items (gate.Resolver kind) width a b c d has h g least some = have-width items width (port_takes (gate.Resolver kind) width) (a ∷ b ∷ c ∷ d ∷ []) (λ k. refl) (items-used (a ∷ b ∷ c ∷ d ∷ []) has) h
fits-four items gate.Buf width a b c d has h g least some = exactly items width a h.0 (both-left _ _ has)
fits-four items gate.Not width a b c d has h g least some = exactly items width a h.0 (both-left _ _ has)
fits-four items gate.Bufz width a b c d has h g least some = exactly items width a h.0 (both-left _ _ has)
fits-four items gate.Buft width a b c d has h g least some = exactly items width a h.0 (both-left _ _ has)
fits-four items gate.Muxz width a b c d has h g least some =
    let rest = both-right _ _ has in
    (exactly items width a h.0 (both-left _ _ has), exactly items width b h.1.0 (both-left _ _ rest), exactly items 1 c h.1.1.0 (both-left _ _ (both-right _ _ rest)))
fits-four items (gate.Part base) width a b c d has h g least some = wide-enough items base width a (both-left _ _ has) g
fits-four items (gate.PartInto base bits) width a b c d has h g least some = (exactly items bits a h.0 (both-left _ _ has), g.1)
fits-four items (gate.PartFrom sign) width a b c d has h g least some = (some-offered items a (both-left _ _ has), some-offered items b (both-left _ _ (both-right _ _ has)))
fits-four items (gate.Concat ws) width a b c d has h g least some = concat-fits items ws width a b c d has h g least some
fits-four items (gate.Arithmetic kind) width a b c d has h g least some = (exactly items width a h.0 (both-left _ _ has), exactly items width b h.1.0 (both-left _ _ (both-right _ _ has)))
fits-four items (gate.Compare kind bits) width a b c d has h g least some = (g.1, exactly items bits a h.0 (both-left _ _ has), exactly items bits b h.1.0 (both-left _ _ (both-right _ _ has)))
fits-four items (gate.Shift kind) width a b c d has h g least some = (exactly items width a h.0 (both-left _ _ has), some-offered items b (both-left _ _ (both-right _ _ has)))
fits-four items (gate.Reduce kind) width a b c d has h g least some = (g, some-offered items a (both-left _ _ has))
fits-four items (gate.Repeat count) width a b c d has h g least some = (g.0, repeats items width count a h.0 (both-left _ _ has) g.0 g.1)
fits-four items gate.Extend width a b c d has h g least some = at-most items width a h.0 (both-left _ _ has)

four-of : (sources : List Source) → length sources ≡ 4 → (a : Source) × (b : Source) × (c : Source) × (d : Source) × (sources ≡ a ∷ b ∷ c ∷ d ∷ [])
four-of [] four = absurd (omega (arith, four))
four-of (a ∷ []) four = absurd (omega (arith, four))
four-of (a ∷ b ∷ []) four = absurd (omega (arith, four))
four-of (a ∷ b ∷ c ∷ []) four = absurd (omega (arith, four))
four-of (a ∷ b ∷ c ∷ d ∷ []) four = (a, b, c, d, refl)
four-of (a ∷ b ∷ c ∷ d ∷ e ∷ sources) four = absurd (omega (arith, four))

-- a gate of a linked program, by what its ports offer
pub evaluable : (program : Program) (item : Item) (kind : Gate) (drive : ℕ × ℕ) (ports : List Source) → IsKind program item (Functor kind drive ports) → All Least (map (offered program.items) ports)
    → IsEvaluable kind item.width drive.0 drive.1 (map (offered program.items) ports)
evaluable program item kind drive ports h least =
    let four = four-of ports h.four in
    let same = four.4 in
    let has : has_ports kind (four.0 ∷ four.1 ∷ four.2 ∷ four.3 ∷ []) ≡ true = ap (has_ports kind) (sym same) ∙ is-true _ h.there in
    let sources = subst (AreSources program.items (port_takes kind item.width) 0) same h.each_port in
    let numbers = subst (IsGate program.items kind item.width) same h.numbers in
    let leasts = subst (λ (ss : List Source). All Least (map (offered program.items) ss)) same least in
    record {
      least = h.in_range.0;
      most = h.in_range.1;
      zero_strength = h.zero_strength;
      one_strength = h.one_strength;
      four = length-map ports (offered program.items) ∙ h.four;
      fits = subst (λ (ss : List Source). Fits kind item.width (map (offered program.items) ss)) (sym same) (fits-four program.items kind item.width four.0 four.1 four.2 four.3 has sources numbers leasts h.in_range.0);
    }

-- ---- what sources show

-- a source of a linked program shows a value as wide as it offers
source-width : (program : Program) (values : NetValues) (want : Wanted) (s : Source) → IsProgram program → AreWide (nodes_of program) values → IsSource program.items want s
    → IsShowing (nodes_of program) values s × (option_map length (at_source (nodes_of program) values s) ≡ offered program.items s)
source-width program values want source.Unused linked wide h = (tt, refl)
source-width program values want (source.Fixed bits) linked wide h = (tt, ap (λ (n : ℕ). Some n) (length-map bits _))
source-width program values want (source.Item number) linked wide h =
    let is = is-true _ h.0 in
    let r = rooted program values number linked wide is in
    let root = root_of (nodes_of program) number in
    let inside : number < length (nodes_of program) = omega (arith, length-map program.items node_of, such-within is_value_kind program.items number is) in
    let width = r.width in
    let least : 1 ≤ length (driven_of values root) = (let sized = r.sized.0 in omega (arith, width, sized)) in
    ((inside, least), ap (λ (n : ℕ). Some n) (levels-length values root (wide.forced root) ∙ width))

sources-width : (program : Program) (values : NetValues) (takes : ℕ → Wanted) (port : ℕ) (sources : List Source) → IsProgram program → AreWide (nodes_of program) values → AreSources program.items takes port sources
    → AreShowing (nodes_of program) values sources × (map (option_map length) (map (at_source (nodes_of program) values) sources) ≡ map (offered program.items) sources)
sources-width program values takes port [] linked wide h = (All-nil (IsShowing (nodes_of program) values), refl)
sources-width program values takes port (s ∷ sources) linked wide h =
    let first = source-width program values (takes port) s linked wide h.0 in
    let rest = sources-width program values takes (port + 1) sources linked wide h.1 in
    (All-cons (IsShowing (nodes_of program) values) s sources first.0 rest.0, ap (λ (o : Option ℕ). o ∷ map (option_map length) (map (at_source (nodes_of program) values) sources)) first.1 ∙ ap (λ (os : List (Option ℕ)). offered program.items s ∷ os) rest.1)

-- the ports of a gate of a linked program show values, as wide as they offer
pub ports-showing : (program : Program) (values : NetValues) (item : Item) (kind : Gate) (drive : ℕ × ℕ) (ports : List Source) → IsProgram program → AreWide (nodes_of program) values → IsKind program item (Functor kind drive ports)
    → AreShowing (nodes_of program) values ports × (widths (map (at_source (nodes_of program) values) ports) ≡ map (offered program.items) ports)
ports-showing program values item kind drive ports linked wide h = sources-width program values (port_takes kind item.width) 0 ports linked wide h.each_port
