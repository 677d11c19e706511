-- What the grammar gives linking: widths are those of vectors, and powers of ten lie from -15 to 2.
use Rattle.std.proofs.Common.{◌≡◌, ℕ, zero, suc, ◌+◌, ◌<◌, ◌≤◌, ◌%◌, ℤ, pos, negsuc, ◌-ℤ◌, ◌-◌, Bool, true, false, not, List, [], ◌∷◌, length, take, Option, None, Some, Result, Ok, Err, refl, subst, arith, if◌then◌else◌}
use Rattle.std.proofs.lemmas.Bool.{and_parts, leb-true, ltb-false}
use Rattle.std.proofs.lemmas.List.Elements.{All-contains, All-head, All-tail, All-weaker}
use Rattle.std.proofs.lemmas.Option.{get_or_from_slice_get, slice_get_within}
use Rattle.std.specs.Prelude.{All, IfOk, ◌&&◌, ◌==◌, int_le, nat_lt, unsigned_abs, sum}
use Rattle.std.specs.List.{cons_option, list_any}
use Rattle.std.specs.Option.{IfSome}
use Rattle.std.proofs.Math.IntN.{sub_ℕ}
use Rattle.vvp_lex.specs.declared.types.FormKind.{FormKind}
use Rattle.vvp_lex.specs.declared.types.FormKind.TheVariants as fault
use Rattle.vvp_forms.specs.declared.form.Form.{Form}
use Rattle.vvp_forms.specs.declared.form.Form.TheVariants as form
use Rattle.vvp_forms.specs.declared.form.Gate.{Gate}
use Rattle.vvp_forms.specs.declared.form.Gate.TheVariants as gate
use Rattle.vvp_forms.specs.declared.form.Port.{Port}
use Rattle.vvp_forms.specs.declared.form.Port.TheVariants as port
use Rattle.vvp_forms.specs.declared.form.Range.{Range}
use Rattle.vvp_forms.specs.declared.pieces.Operands.{Operands}
use Rattle.vvp_forms.specs.declared.table.Row.{Row}
use Rattle.vvp_forms.specs.declared.table.Row.TheVariants as row
use Rattle.vvp_forms.specs.Checks.{allowed, is_symbol, kind_needed, needed, not_wide, places, power, range, used, width}
use Rattle.vvp_forms.specs.Choices.{edge_kind, functor_type, resolution, scope_kind}
use Rattle.vvp_forms.specs.Forms.{fits_ports, integer, number, ports_used, some_used, start_of, strength, arithmetic, array, compare, concat, constant_width, current_scope, delay, edge_event, extend, form_of, functor, net, one_port, own_width, part, part_from, part_into, port_of, precision, reduce, repeat, resolver, scope, shift, thread, time_scale, variable, width_or, widths_of}
use Rattle.vvp_forms.specs.Table.{pieces_of}
use Rattle.sym_link.specs.declared.placed.Placed.{Placed}
use Rattle.sym_link.specs.declared.placed.What.{What}
use Rattle.sym_link.specs.declared.placed.What.TheVariants as what
use Rattle.sym_link.specs.Currents.{AreFormed, AreNear, UnitIsNear}
use Rattle.sym_link.specs.Meaning.{gather, latest, precision_of, precision_said, unit_in}
use Rattle.sym_link.specs.Spelled.{statements_read}
use Rattle.sym_link.specs.Widths.{declared_width, what_width}
use Rattle.sym_link.proofs.GrammarLemmas.{IsSpelledBy, bind-if, read-each}
use Rattle.sym_link.proofs.OperandLemmas.{IsVector, operands-have, port-vector}

-- Widths

not_wide-fits : (bits n : ℕ) → not_wide bits ≡ Ok n → n ≤ 128
not_wide-fits bits n is = by (nat_lt 128 bits) refl is
  where
    by : (wide : Bool) → nat_lt 128 bits ≡ wide → (if wide then Err fault.VectorTooWide else Ok bits) ≡ Ok n → n ≤ 128
    by true wide is = absurd (cc)
    by false wide is = let same : bits ≡ n = cc in subst (λ m. m ≤ 128) same (ltb-false 128 bits wide)

width-fits : (bits n : ℕ) → width bits ≡ Ok n → n ≤ 128
width-fits bits n is = by (bits == 0) is
  where
    by : (none : Bool) → (if none then Err fault.BadOperands else not_wide bits) ≡ Ok n → n ≤ 128
    by true is = absurd (cc)
    by false is = not_wide-fits bits n is

range-fits : (msb lsb : ℤ) → IfOk (range msb lsb) (λ (r : Range). places r.msb r.lsb ≤ 128)
range-fits msb lsb = bind-if (λ (r : Range). places r.msb r.lsb ≤ 128) (not_wide (places msb lsb)) _ (λ (bits : ℕ) is. few bits is)
  where
    few : (bits : ℕ) → not_wide (places msb lsb) ≡ Ok bits → places msb lsb ≤ 128
    few bits is = by (nat_lt 128 (places msb lsb)) refl is
      where
        by : (wide : Bool) → nat_lt 128 (places msb lsb) ≡ wide → (if wide then Err fault.VectorTooWide else Ok (places msb lsb)) ≡ Ok bits → places msb lsb ≤ 128
        by true wide is = absurd (cc)
        by false wide is = ltb-false 128 (places msb lsb) wide

range-ok : (msb lsb : ℤ) (r : Range) → range msb lsb ≡ Ok r → places r.msb r.lsb ≤ 128
range-ok msb lsb r is = subst (λ (o : Result Range FormKind). IfOk o (λ (x : Range). places x.msb x.lsb ≤ 128)) is (range-fits msb lsb)

constant-fits : (first : Port) → IsVector first → (bits n : ℕ) → width_or (constant_width first) bits ≡ Ok n → n ≤ 128
constant-fits port.Unused vector bits n is = width-fits bits n is
constant-fits (port.Sym name) vector bits n is = width-fits bits n is
constant-fits (port.Fixed constant) vector bits n is = by (nat_lt 1 (length constant)) is
  where
    by : (own : Bool) → width_or (if own then Some (length constant) else None) bits ≡ Ok n → n ≤ 128
    by true is = let same : length constant ≡ n = cc in subst (λ m. m ≤ 128) same vector.1
    by false is = width-fits bits n is

used-vector : (p first : Port) → IsVector p → used p ≡ Ok first → IsVector first
used-vector port.Unused first vector is = absurd (cc)
used-vector (port.Sym name) first vector is = let same : port.Sym name ≡ first = cc in subst IsVector same vector
used-vector (port.Fixed bits) first vector is = let same : port.Fixed bits ≡ first = cc in subst IsVector same vector

one-vector : (given : List Port) → IsVector (port_of given 0) → IfOk (one_port given) (λ ports. IsVector (port_of ports 0))
unfolding one_port
one-vector given vector = bind-if (λ (ports : List Port). IsVector (port_of ports 0)) (used (port_of given 0)) _ (λ (first : Port) is. used-vector (port_of given 0) first vector is)

own-fits : (kind : Gate) (given ports : List Port) → IsVector (port_of given 0) → ports_used kind given ≡ Ok ports → (bits n : ℕ) → width_or (own_width kind (port_of ports 0)) bits ≡ Ok n → n ≤ 128
unfolding ports_used
own-fits gate.Buft given ports vector used bits n is =
    constant-fits (port_of ports 0) (subst (λ (r : Result (List Port) FormKind). IfOk r (λ l. IsVector (port_of l 0))) used (one-vector given vector)) bits n is
own-fits _ given ports vector used bits n is = width-fits bits n is

widths-fit : (first second third fourth : ℕ) (widths : List ℕ) → widths_of first second third fourth ≡ Ok widths → sum widths ≤ 128
unfolding widths_of
widths-fit first second third fourth widths is = by (nat_lt 128 (first + second + third + fourth)) refl is
  where
    by : (wide : Bool) → nat_lt 128 (first + second + third + fourth) ≡ wide → (if wide then Err fault.VectorTooWide else Ok (first ∷ second ∷ third ∷ fourth ∷ [])) ≡ Ok widths → sum widths ≤ 128
    by true wide is = absurd (cc)
    by false wide is =
        let same : first ∷ second ∷ third ∷ fourth ∷ [] ≡ widths = cc in
        let most : first + second + third + fourth ≤ 128 = ltb-false 128 (first + second + third + fourth) wide in
        let whole : sum (first ∷ second ∷ third ∷ fourth ∷ []) ≤ 128 = omega arith in
        subst (λ (l : List ℕ). sum l ≤ 128) same whole

-- Powers of ten

-- a power of ten of a unit of time
abbrev IsPower : ℤ → Type 0
IsPower z = (int_le (negsuc 14) z && int_le z (pos 2)) ≡ true

power-fits : (z n : ℤ) → power z ≡ Ok n → IsPower n
power-fits z n is = by (int_le (negsuc 14) z && int_le z (pos 2)) refl is
  where
    by : (fits : Bool) → (int_le (negsuc 14) z && int_le z (pos 2)) ≡ fits → (if fits then Ok z else Err fault.BadOperands) ≡ Ok n → IsPower n
    by true fits is = let same : z ≡ n = cc in subst IsPower same fits
    by false fits is = absurd (cc)

sub-small : (a b : ℕ) → a < 18 → b < 18 → unsigned_abs (sub_ℕ a b) < 18
sub-small a b first second = by (nat_lt a b)
  where
    by : (less : Bool) → unsigned_abs (if less then negsuc (b - suc a) else pos (a - b)) < 18
    by true = omega arith
    by false = omega arith

-- two of them are near
powers-near : (precision unit : ℤ) → IsPower precision → IsPower unit → unsigned_abs (unit -ℤ precision) < 18
powers-near (pos zero) (pos u) first second = let most : u ≤ 2 = leb-true u 2 (and_parts true _ second).1 in omega arith
powers-near (pos (suc p)) (pos u) first second =
    sub-small u (suc p) (omega (arith, leb-true u 2 (and_parts true _ second).1)) (omega (arith, leb-true (suc p) 2 (and_parts true _ first).1))
powers-near (pos zero) (negsuc u) first second = sub-small 0 (suc u) (omega arith) (omega (arith, leb-true u 14 (and_parts _ true second).0))
powers-near (pos (suc p)) (negsuc u) first second =
    let one : suc p ≤ 2 = leb-true (suc p) 2 (and_parts true _ first).1 in
    let other : u ≤ 14 = leb-true u 14 (and_parts _ true second).0 in
    omega arith
powers-near (negsuc p) (pos u) first second =
    let one : p ≤ 14 = leb-true p 14 (and_parts _ true first).0 in
    let other : u ≤ 2 = leb-true u 2 (and_parts true _ second).1 in
    omega arith
powers-near (negsuc p) (negsuc u) first second =
    sub-small (suc p) (suc u) (omega (arith, leb-true p 14 (and_parts _ true first).0)) (omega (arith, leb-true u 14 (and_parts _ true second).0))

-- Forms

abbrev HasPowers : What → Type 0
HasPowers (what.Form (form.Precision z)) = IsPower z
HasPowers (what.Form (form.TimeScale z tick)) = IsPower z
HasPowers _ = Unit {0}

-- what the grammar gives of a statement
abbrev IsFormed : What → Type 0
IsFormed w = (what_width w ≤ 128) × HasPowers w

abbrev HasForm : Form → Type 0
HasForm f = IsFormed (what.Form f)

none : 0 ≤ 128
none = omega arith

one : 1 ≤ 128
one = omega arith

port-fits : (file : List ℕ) (r : Row) (operands : Operands) → IsSpelledBy file r operands → (kind : Gate) (ports : List Port) → ports_used kind operands.ports ≡ Ok ports → (n : ℕ) → width_or (own_width kind (port_of ports 0)) (number operands 0) ≡ Ok n → n ≤ 128
port-fits file r operands spelled kind ports used n is =
    own-fits kind operands.ports ports (port-vector operands 0 (operands-have file (pieces_of r) spelled.tokens operands spelled.read)) used (number operands 0) n is

form-each : (file : List ℕ) (r : Row) (operands : Operands) → IsSpelledBy file r operands → IfOk (form_of file r operands) HasForm
unfolding form_of declared_width precision scope current_scope time_scale variable net array functor resolver part part_into part_from concat arithmetic compare shift reduce repeat extend delay edge_event thread
form-each file row.Version operands spelled = (none, tt)
form-each file row.IgnoredText operands spelled = (none, tt)
form-each file row.IgnoredNumber operands spelled = (none, tt)
form-each file row.LoneText operands spelled = (none, tt)
form-each file row.Parameter operands spelled = (none, tt)
form-each file row.Precision operands spelled =
    bind-if HasForm (power (integer operands 0)) _ (λ (z : ℤ) is. (none, power-fits (integer operands 0) z is))
form-each file row.Scope operands spelled = bind-if HasForm (kind_needed scope_kind file operands.kind) _ (λ _ _. (none, tt))
form-each file row.CurrentScope operands spelled = bind-if HasForm (needed operands.symbol) _ (λ _ _. (none, tt))
form-each file row.TimeScale operands spelled =
    bind-if HasForm (power (integer operands 0)) _ (λ (z : ℤ) is.
    bind-if HasForm (power (integer operands 1)) _ (λ _ _. (none, power-fits (integer operands 0) z is)))
form-each file (row.Variable kind) operands spelled =
    bind-if HasForm (range (integer operands 0) (integer operands 1)) _ (λ (r : Range) is. (range-ok (integer operands 0) (integer operands 1) r is, tt))
form-each file (row.Net signed) operands spelled =
    bind-if HasForm (needed operands.symbol) _ (λ _ _.
    bind-if HasForm (range (integer operands 0) (integer operands 1)) _ (λ (r : Range) is. (range-ok (integer operands 0) (integer operands 1) r is, tt)))
form-each file (row.Array kind) operands spelled =
    bind-if HasForm (range (integer operands 2) (integer operands 3)) _ (λ (r : Range) is. (range-ok (integer operands 2) (integer operands 3) r is, tt))
form-each file row.Functor operands spelled =
    bind-if HasForm (kind_needed functor_type file operands.kind) _ (λ (kind : Gate) _.
    bind-if HasForm (strength operands.drives.0) _ (λ (low : ℕ) _.
    bind-if HasForm (strength operands.drives.1) _ (λ (high : ℕ) _.
    bind-if HasForm (ports_used kind operands.ports) _ (λ (ports : List Port) used.
    bind-if HasForm (width_or (own_width kind (port_of ports 0)) (number operands 0)) (λ bits. Ok (form.Functor kind bits (low, high) ports)) (λ (n : ℕ) is.
    (port-fits file row.Functor operands spelled kind ports used n is, tt))))))
form-each file row.Resolver operands spelled =
    bind-if HasForm (kind_needed resolution file operands.kind) _ (λ _ _.
    bind-if HasForm (allowed (list_any is_symbol operands.ports)) _ (λ _ _. (none, tt)))
form-each file row.Part operands spelled =
    bind-if HasForm (used (port_of operands.ports 0)) _ (λ _ _.
    bind-if HasForm (width (number operands 1)) _ (λ (n : ℕ) is. (width-fits (number operands 1) n is, tt)))
form-each file row.PartInto operands spelled =
    bind-if HasForm (used (port_of operands.ports 0)) _ (λ _ _.
    bind-if HasForm (allowed (not (number operands 1 == 0) && not (number operands 2 == 0))) _ (λ _ _.
    bind-if HasForm (not_wide (number operands 1)) _ (λ _ _.
    bind-if HasForm (not_wide (number operands 2)) _ (λ (n : ℕ) is. (not_wide-fits (number operands 2) n is, tt)))))
form-each file (row.PartFrom signed) operands spelled =
    bind-if HasForm (used (port_of operands.ports 0)) _ (λ _ _.
    bind-if HasForm (used (port_of operands.ports 1)) _ (λ _ _.
    bind-if HasForm (width (number operands 0)) _ (λ (n : ℕ) is. (width-fits (number operands 0) n is, tt))))
form-each file row.Concat operands spelled =
    bind-if HasForm (allowed (fits_ports (take 4 operands.numbers) operands.ports operands.last_port)) _ (λ _ _.
    bind-if HasForm (widths_of (number operands 0) (number operands 1) (number operands 2) (number operands 3)) _ (λ (widths : List ℕ) is. (widths-fit (number operands 0) (number operands 1) (number operands 2) (number operands 3) widths is, tt)))
form-each file (row.Arithmetic kind) operands spelled =
    bind-if HasForm (used (port_of operands.ports 0)) _ (λ _ _.
    bind-if HasForm (used (port_of operands.ports 1)) _ (λ _ _.
    bind-if HasForm (width (number operands 0)) _ (λ (n : ℕ) is. (width-fits (number operands 0) n is, tt))))
form-each file (row.Compare kind) operands spelled =
    bind-if HasForm (used (port_of operands.ports 0)) _ (λ _ _.
    bind-if HasForm (used (port_of operands.ports 1)) _ (λ _ _.
    bind-if HasForm (width (number operands 0)) _ (λ _ _. (one, tt))))
form-each file (row.Shift kind) operands spelled =
    bind-if HasForm (used (port_of operands.ports 0)) _ (λ _ _.
    bind-if HasForm (used (port_of operands.ports 1)) _ (λ _ _.
    bind-if HasForm (width (number operands 0)) _ (λ (n : ℕ) is. (width-fits (number operands 0) n is, tt))))
form-each file (row.Reduce kind) operands spelled = bind-if HasForm (used (port_of operands.ports 0)) _ (λ _ _. (one, tt))
form-each file row.Repeat operands spelled =
    bind-if HasForm (used (port_of operands.ports 0)) _ (λ _ _.
    bind-if HasForm (allowed (not (number operands 1 == 0) && number operands 0 % number operands 1 == 0)) _ (λ _ _.
    bind-if HasForm (width (number operands 0)) _ (λ (n : ℕ) is. (width-fits (number operands 0) n is, tt))))
form-each file row.Extend operands spelled =
    bind-if HasForm (used (port_of operands.ports 0)) _ (λ _ _.
    bind-if HasForm (width (number operands 0)) _ (λ (n : ℕ) is. (width-fits (number operands 0) n is, tt)))
form-each file row.Delay operands spelled =
    bind-if HasForm (needed operands.symbol) _ (λ _ _.
    bind-if HasForm (width (number operands 0)) _ (λ (n : ℕ) is. (width-fits (number operands 0) n is, tt)))
form-each file row.EdgeEvent operands spelled =
    bind-if HasForm (kind_needed edge_kind file operands.kind) _ (λ _ _.
    bind-if HasForm (some_used operands.ports) _ (λ _ _. (none, tt)))
form-each file row.NamedEvent operands spelled = (none, tt)
form-each file row.EventOr operands spelled = (none, tt)
form-each file row.Thread operands spelled =
    bind-if HasForm (needed operands.symbol) _ (λ _ _.
    bind-if HasForm (start_of file operands.kind) _ (λ _ _. (none, tt)))

statements-formed : (file : List ℕ) (all : List Placed) → statements_read file ≡ Ok all → All (λ s. IsFormed s.what) all
unfolding declared_width
statements-formed file all is = read-each IsFormed file all (λ _. (none, tt)) (none, tt) (form-each file) is

-- the widths that are spelled are those of vectors
pub widths-formed : (file : List ℕ) (all : List Placed) → statements_read file ≡ Ok all → AreFormed all
widths-formed file all is = All-weaker (λ (s : Placed). IsFormed s.what) (λ (s : Placed). what_width s.what ≤ 128) (λ s formed. formed.0) all (statements-formed file all is)

-- the tick

said-power : (w : What) → HasPowers w → IfSome (precision_said w) IsPower
said-power (what.Form (form.Precision z)) has = has
said-power _ has = tt

-- one that is said is the last so far
latest-by : (all : List Placed) (place : ℕ) (z : ℤ) → IsPower z → ((last : ℤ) → IsPower last → IsPower (latest last (gather (λ place x. precision_said x.what) (place + 1) all))) → (o : Option ℤ) → IfSome o IsPower → IsPower (latest z (cons_option o (gather (λ place x. precision_said x.what) (place + 1) all)))
latest-by all place z is later None said = later z is
latest-by all place z is later (Some last) said = later last said

latest-power : (all : List Placed) (place : ℕ) (z : ℤ) → All (λ (s : Placed). IsFormed s.what) all → IsPower z → IsPower (latest z (gather (λ place s. precision_said s.what) place all))
latest-power [] place z formed is = is
latest-power (s ∷ all) place z formed is =
    latest-by all place z is
    (λ last holds. latest-power all (place + 1) last (All-tail (λ (x : Placed). IsFormed x.what) s all formed) holds)
    (precision_said s.what) (said-power s.what (All-head (λ (x : Placed). IsFormed x.what) s all formed).1)

unit-near : (precision : ℤ) (w : What) → IsPower precision → HasPowers w → UnitIsNear precision (unit_in w)
unit-near precision (what.Form (form.TimeScale unit tick)) is has = powers-near precision unit is has
unit-near precision _ is has = tt

-- the units of time are near the tick
pub units-near : (file : List ℕ) (all : List Placed) → statements_read file ≡ Ok all → AreNear (precision_of all) all
units-near file all is place s there =
    let formed = statements-formed file all is in
    unit-near (precision_of all) s.what (latest-power all 0 (pos 0) formed refl)
    (All-contains (λ (x : Placed). IsFormed x.what) all s formed (place, slice_get_within all place s there, get_or_from_slice_get all place s s there)).1
