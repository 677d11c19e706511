-- Tables that are folded over ports.
use Rattle.std.proofs.Common.{◌≡◌, ℕ, zero, suc, ◌<◌, Bool, true, false, Option, Some, None, IfSome, List, [], ◌∷◌, length, get_or, map, replicate, refl, sym, ap, ◌∙◌, arith, zero-add, ◌≤◌}
use Rattle.std.specs.List.{fold, All}
use Rattle.std.proofs.lemmas.List.{same_lists, length-replicate, get_or-replicate}
use Rattle.std.proofs.lemmas.List.FromFn.{length-map-range_with_len, get_or-map-range_with_len}
use Rattle.four_state.specs.declared.bits.Bit.{Bit}
use Rattle.four_state.specs.declared.bits.Bit.TheVariants.{Zero, One, Unknown, HighZ}
use Rattle.four_state.specs.Bit.{resolve_bit, not_bit}
use Rattle.four_state.specs.Same.{is_same, is_same-Decides}
use Rattle.four_state.specs.Vector.{at_each_place, reduction}
use Rattle.strengths.specs.Resolver.{joined}
use Rattle.gate_rules.specs.Ports.{there, widths}
use Rattle.gate_rules.specs.Evaluable.{HaveWidth}
use Rattle.gate_rules.proofs.PortLemmas.{each_width, port_fits, some_there}
use Rattle.gate_rules.specs.Rows.{bits_at, folded, buffered_bit, identity}
use Rattle.gate_rules.specs.Tables.{IsAll, table_of, unit_of, with_port, with_next}
use Rattle.gate_rules.specs.declared.fold.Table.{Table}
use Rattle.gate_rules.specs.declared.fold.Table.TheVariants as which

pub length-at_each_place : {A B C : Type 0} (f : A → B → C) (xs : List A) (ys : List B) → length xs ≡ length ys → length (at_each_place f xs ys) ≡ length xs
unfolding at_each_place
length-at_each_place f [] ys e = refl
length-at_each_place f (x ∷ xs) [] e = absurd (omega (arith, e))
length-at_each_place f (x ∷ xs) (y ∷ ys) e = ap suc (length-at_each_place f xs ys (omega (arith, e)))

pub get_or-at_each_place : {A B C : Type 0} (f : A → B → C) (xs : List A) (ys : List B) (i : ℕ) (z : C) (d : A) (e : B) → i < length xs → length xs ≡ length ys → get_or (at_each_place f xs ys) i z ≡ f (get_or xs i d) (get_or ys i e)
unfolding at_each_place
get_or-at_each_place f [] ys i z d e h k = absurd (omega arith)
get_or-at_each_place f (x ∷ xs) [] i z d e h k = absurd (omega (arith, k))
get_or-at_each_place f (x ∷ xs) (y ∷ ys) zero z d e h k = refl
get_or-at_each_place f (x ∷ xs) (y ∷ ys) (suc i) z d e h k = get_or-at_each_place f xs ys i z d e (omega arith) (omega (arith, k))

pub length-folded : (table : Bit → Bit → Bit) (unit : Bit) (w : ℕ) (vectors : List (List Bit)) → length (folded table unit w vectors) ≡ w
unfolding folded
length-folded table unit w vectors = length-map-range_with_len _ 0 w

get_or-folded : (table : Bit → Bit → Bit) (unit : Bit) (w : ℕ) (vectors : List (List Bit)) (i : ℕ) (d : Bit) → i < w → get_or (folded table unit w vectors) i d ≡ reduction table unit (bits_at vectors i)
unfolding folded
get_or-folded table unit w vectors i d h = get_or-map-range_with_len (λ i. reduction table unit (bits_at vectors i)) 0 w i i d h (zero-add i)

pub folded-nil : (table : Bit → Bit → Bit) (unit : Bit) (w : ℕ) → folded table unit w [] ≡ replicate w unit
unfolding reduction
folded-nil table unit w =
    same_lists _ _ (length-folded table unit w [] ∙ sym (length-replicate w unit))
    (λ i d h.
    let within : i < w = rw length-folded at h in
    get_or-folded table unit w [] i d within ∙ sym (get_or-replicate w i unit d within))

pub folded-cons : (table : Bit → Bit → Bit) (unit : Bit) (w : ℕ) (v : List Bit) (vectors : List (List Bit)) → length v ≡ w → folded table unit w (v ∷ vectors) ≡ at_each_place table v (folded table unit w vectors)
unfolding reduction
folded-cons table unit w v vectors e =
    let same : length v ≡ length (folded table unit w vectors) = e ∙ sym (length-folded table unit w vectors) in
    same_lists _ _ (length-folded table unit w (v ∷ vectors) ∙ sym (length-at_each_place table v (folded table unit w vectors) same ∙ e))
    (λ i d h.
    let inside : i < w = rw length-folded at h in
    let within : i < length v = omega arith in
    get_or-folded table unit w (v ∷ vectors) i d inside
    ∙ sym (get_or-at_each_place table v (folded table unit w vectors) i d Unknown d within same ∙ ap (table (get_or v i Unknown)) (get_or-folded table unit w vectors i d inside)))

-- one port more
pub folded-port : (table : Bit → Bit → Bit) (unit : Bit) (w : ℕ) (port : Option (List Bit)) (ports : List (Option (List Bit))) (rest : List Bit)
    → IfSome port (λ v. length v ≡ w) → rest ≡ folded table unit w (there ports) → with_port table port rest ≡ folded table unit w (there (port ∷ ports))
folded-port table unit w None ports rest h e = e
folded-port table unit w (Some v) ports rest h e = rw e (sym (folded-cons table unit w v (there ports) h))

pub folded-four : (table : Bit → Bit → Bit) (unit : Bit) (w : ℕ) (a b c d : Option (List Bit)) (none last third second : List Bit)
    → IfSome a (λ v. length v ≡ w) → IfSome b (λ v. length v ≡ w) → IfSome c (λ v. length v ≡ w) → IfSome d (λ v. length v ≡ w)
    → none ≡ replicate w unit → last ≡ with_port table d none → third ≡ with_port table c last → second ≡ with_port table b third
    → with_port table a second ≡ folded table unit w (there (a ∷ b ∷ c ∷ d ∷ []))
folded-four table unit w a b c d none last third second p q r s e f g h =
    folded-port table unit w a (b ∷ c ∷ d ∷ []) _ p
    (h ∙ folded-port table unit w b (c ∷ d ∷ []) _ q
    (g ∙ folded-port table unit w c (d ∷ []) _ r
    (f ∙ folded-port table unit w d [] _ s
    (e ∙ sym (folded-nil table unit w)))))

pub folded-ports : (table : Bit → Bit → Bit) (unit : Bit) (w : ℕ) (ports : List (Option (List Bit))) (a b c d : Option (List Bit)) (none last third second : List Bit)
    → length ports ≡ 4 → All (λ v. v ≡ w) (there (widths ports)) → a ≡ get_or ports 0 a → b ≡ get_or ports 1 b → c ≡ get_or ports 2 c → d ≡ get_or ports 3 d
    → none ≡ replicate w unit → last ≡ with_port table d none → third ≡ with_port table c last → second ≡ with_port table b third
    → with_port table a second ≡ folded table unit w (there ports)
folded-ports table unit w (p ∷ q ∷ r ∷ s ∷ []) a b c d none last third second e all i j k l f g h m =
    let ports : List (Option (List Bit)) = p ∷ q ∷ r ∷ s ∷ [] in
    let first : IfSome a (λ v. length v ≡ w) = rw i (each_width ports w 0 all) in
    let next : IfSome b (λ v. length v ≡ w) = rw j (each_width ports w 1 all) in
    let then : IfSome c (λ v. length v ≡ w) = rw k (each_width ports w 2 all) in
    let final : IfSome d (λ v. length v ≡ w) = rw l (each_width ports w 3 all) in
    folded-four table unit w a b c d none last third second first next then final f g h m
    ∙ rw (← i, ← j, ← k, ← l) refl
folded-ports table unit w [] a b c d none last third second e all i j k l f g h m = absurd (omega (arith, e))
folded-ports table unit w (p ∷ []) a b c d none last third second e all i j k l f g h m = absurd (omega (arith, e))
folded-ports table unit w (p ∷ q ∷ []) a b c d none last third second e all i j k l f g h m = absurd (omega (arith, e))
folded-ports table unit w (p ∷ q ∷ r ∷ []) a b c d none last third second e all i j k l f g h m = absurd (omega (arith, e))
folded-ports table unit w (p ∷ q ∷ r ∷ s ∷ u ∷ rest) a b c d none last third second e all i j k l f g h m = absurd (omega (arith, e))

-- ---- two ports

on_bits : (P : Bit → Type 0) → P Zero → P One → P Unknown → P HighZ → (bit : Bit) → P bit
on_bits P z o u h Zero = z
on_bits P z o u h One = o
on_bits P z o u h Unknown = u
on_bits P z o u h HighZ = h

-- the unit of a table adds nothing to what it makes of two bits
abbrev Absorbs : Table → Bit → Bit → Type 0
Absorbs t x y = table_of t x (table_of t y (unit_of t)) ≡ table_of t x y

absorbs : (t : Table) (x y : Bit) → Absorbs t x y
absorbs which.And Zero y = refl
absorbs which.And One y = on_bits (Absorbs which.And One) refl refl refl refl y
absorbs which.And Unknown y = on_bits (Absorbs which.And Unknown) refl refl refl refl y
absorbs which.And HighZ y = on_bits (Absorbs which.And HighZ) refl refl refl refl y
absorbs which.Or Zero y = on_bits (Absorbs which.Or Zero) refl refl refl refl y
absorbs which.Or One y = refl
absorbs which.Or Unknown y = on_bits (Absorbs which.Or Unknown) refl refl refl refl y
absorbs which.Or HighZ y = on_bits (Absorbs which.Or HighZ) refl refl refl refl y
absorbs which.Xor Zero y = on_bits (Absorbs which.Xor Zero) refl refl refl refl y
absorbs which.Xor One y = on_bits (Absorbs which.Xor One) refl refl refl refl y
absorbs which.Xor Unknown y = on_bits (Absorbs which.Xor Unknown) refl refl refl refl y
absorbs which.Xor HighZ y = on_bits (Absorbs which.Xor HighZ) refl refl refl refl y

absorbed : (t : Table) (xs ys : List Bit) → length xs ≡ length ys
    → at_each_place (table_of t) xs (at_each_place (table_of t) ys (replicate (length ys) (unit_of t))) ≡ at_each_place (table_of t) xs ys
unfolding at_each_place
absorbed t [] ys e = refl
absorbed t (x ∷ xs) [] e = absurd (omega (arith, e))
absorbed t (x ∷ xs) (y ∷ ys) e = rw (absorbs t x y, absorbed t xs ys (omega (arith, e))) refl

folded-two : (t : Table) (w : ℕ) (a b : List Bit) → length a ≡ w → length b ≡ w → at_each_place (table_of t) a b ≡ folded (table_of t) (unit_of t) w (a ∷ b ∷ [])
folded-two t w a b p q =
    sym (folded-cons (table_of t) (unit_of t) w a (b ∷ []) p
    ∙ ap (at_each_place (table_of t) a) (folded-cons (table_of t) (unit_of t) w b [] q ∙ ap (at_each_place (table_of t) b) (folded-nil (table_of t) (unit_of t) w ∙ ap (λ n. replicate n (unit_of t)) (sym q)))
    ∙ absorbed t a b (p ∙ sym q))

-- the first two ports are there, and no others
pub two-widths : (w : ℕ) (ports : List (Option (List Bit))) (p q : Option (List Bit)) (a b : List Bit) → All (λ v. v ≡ w) (there (widths ports)) → 2 ≤ length ports
    → p ≡ get_or ports 0 p → q ≡ get_or ports 1 q → p ≡ Some a → q ≡ Some b → length a ≡ length b
two-widths w ports p q a b all two i j x y =
    let first : length a ≡ w = rw x at (port_fits ports w 0 w p all (omega arith) i refl) in
    let next : length b ≡ w = rw y at (port_fits ports w 1 w q all (omega arith) j refl) in
    first ∙ sym next

pub two-ports : (t : Table) (w : ℕ) (ports : List (Option (List Bit))) (p q r s : Option (List Bit)) (a b : List Bit) → length ports ≡ 4 → All (λ v. v ≡ w) (there (widths ports))
    → p ≡ get_or ports 0 p → q ≡ get_or ports 1 q → r ≡ get_or ports 2 r → s ≡ get_or ports 3 s → p ≡ Some a → q ≡ Some b → r ≡ None → s ≡ None
    → at_each_place (table_of t) a b ≡ folded (table_of t) (unit_of t) w (there ports)
two-ports t w (p' ∷ q' ∷ r' ∷ s' ∷ []) p q r s a b e all i j k l x y z v =
    let ports : List (Option (List Bit)) = p' ∷ q' ∷ r' ∷ s' ∷ [] in
    let first : length a ≡ w = rw x at (port_fits ports w 0 w p all (omega arith) i refl) in
    let next : length b ≡ w = rw y at (port_fits ports w 1 w q all (omega arith) j refl) in
    let e0 : p' ≡ Some a = sym i ∙ x in
    let e1 : q' ≡ Some b = sym j ∙ y in
    let e2 : r' ≡ None = sym k ∙ z in
    let e3 : s' ≡ None = sym l ∙ v in
    rw (e0, e1, e2, e3) (folded-two t w a b first next)
two-ports t w [] p q r s a b e all i j k l x y z v = absurd (omega (arith, e))
two-ports t w (o ∷ []) p q r s a b e all i j k l x y z v = absurd (omega (arith, e))
two-ports t w (o ∷ o' ∷ []) p q r s a b e all i j k l x y z v = absurd (omega (arith, e))
two-ports t w (o ∷ o' ∷ o'' ∷ []) p q r s a b e all i j k l x y z v = absurd (omega (arith, e))
two-ports t w (o ∷ o' ∷ o'' ∷ u ∷ u' ∷ rest) p q r s a b e all i j k l x y z v = absurd (omega (arith, e))

-- ---- two ports beside those that add nothing

unit-kept : (t : Table) → table_of t (unit_of t) (unit_of t) ≡ unit_of t
unit-kept which.And = refl
unit-kept which.Or = refl
unit-kept which.Xor = refl

units-kept : (t : Table) (w : ℕ) → at_each_place (table_of t) (replicate w (unit_of t)) (replicate w (unit_of t)) ≡ replicate w (unit_of t)
unfolding at_each_place
units-kept t zero = refl
units-kept t (suc w) = rw (unit-kept t, units-kept t w) refl

idle-port : (t : Table) (w : ℕ) (port : Option (List Bit)) (ports : List (Option (List Bit))) → IsAll (unit_of t) w port → folded (table_of t) (unit_of t) w (there ports) ≡ replicate w (unit_of t)
    → folded (table_of t) (unit_of t) w (there (port ∷ ports)) ≡ replicate w (unit_of t)
idle-port t w None ports idle rest = rest
idle-port t w (Some bits) ports idle rest =
    folded-cons (table_of t) (unit_of t) w bits (there ports) (ap length idle ∙ length-replicate w (unit_of t))
    ∙ ap (at_each_place (table_of t) bits) rest
    ∙ ap (λ (b : List Bit). at_each_place (table_of t) b (replicate w (unit_of t))) idle
    ∙ units-kept t w

pub two-idle : (t : Table) (a b : List Bit) (third fourth : Option (List Bit)) → length a ≡ length b → IsAll (unit_of t) (length a) third → IsAll (unit_of t) (length a) fourth
    → at_each_place (table_of t) a b ≡ folded (table_of t) (unit_of t) (length a) (there (Some a ∷ Some b ∷ third ∷ fourth ∷ []))
two-idle t a b third fourth same idle_third idle_fourth =
    let w : ℕ = length a in
    let none : folded (table_of t) (unit_of t) w (there (third ∷ fourth ∷ [])) ≡ replicate w (unit_of t) = idle-port t w third (fourth ∷ []) idle_third (idle-port t w fourth [] idle_fourth (folded-nil (table_of t) (unit_of t) w)) in
    sym (folded-cons (table_of t) (unit_of t) w a (b ∷ there (third ∷ fourth ∷ [])) refl
    ∙ ap (at_each_place (table_of t) a) (folded-cons (table_of t) (unit_of t) w b (there (third ∷ fourth ∷ [])) (sym same) ∙ ap (at_each_place (table_of t) b) (none ∙ ap (λ n. replicate n (unit_of t)) same))
    ∙ absorbed t a b same)

-- ---- drivers of one strength

resolve-z : (bits : List Bit) → at_each_place resolve_bit (replicate (length bits) HighZ) bits ≡ bits
unfolding at_each_place
resolve-z [] = refl
resolve-z (bit ∷ bits) = ap (λ rest. bit ∷ rest) (resolve-z bits)

-- the ports that are there, folded from the left
abbrev pub so_far : List Bit → List (Option (List Bit)) → List Bit
so_far start [] = start
so_far start (port ∷ ports) = so_far (with_next resolve_bit start port) ports

so_far-fold : (start : List Bit) (ports : List (Option (List Bit))) → so_far start ports ≡ fold (at_each_place resolve_bit) start (there ports)
so_far-fold start [] = refl
so_far-fold start (None ∷ ports) = so_far-fold start ports
so_far-fold start (Some bits ∷ ports) = so_far-fold (at_each_place resolve_bit start bits) ports

pub so_far-joined : (w : ℕ) (ports : List (Option (List Bit))) → ((i : ℕ) → IfSome (get_or ports i None) (λ v. length v ≡ w)) → 1 ≤ length (there ports)
    → so_far (replicate w HighZ) ports ≡ joined resolve_bit (there ports)
unfolding joined
so_far-joined w [] each h = absurd (omega arith)
so_far-joined w (None ∷ ports) each h = so_far-joined w ports (λ i. each (suc i)) h
so_far-joined w (Some bits ∷ ports) each h =
    let width : length bits ≡ w = each 0 in
    ap (λ start. so_far start ports) (rw (← width) (resolve-z bits)) ∙ so_far-fold bits ports

pub resolved-ports : (w : ℕ) (ports : List (Option (List Bit))) (a b c d : Option (List Bit)) (none first second third : List Bit)
    → length ports ≡ 4 → HaveWidth (widths ports) w → a ≡ get_or ports 0 a → b ≡ get_or ports 1 b → c ≡ get_or ports 2 c → d ≡ get_or ports 3 d
    → none ≡ replicate w HighZ → first ≡ with_next resolve_bit none a → second ≡ with_next resolve_bit first b → third ≡ with_next resolve_bit second c
    → with_next resolve_bit third d ≡ joined resolve_bit (there ports)
resolved-ports w (p ∷ q ∷ r ∷ s ∷ []) a b c d none first second third e all i j k l f g h m =
    let ports : List (Option (List Bit)) = p ∷ q ∷ r ∷ s ∷ [] in
    let some : 1 ≤ length (there ports) = rw some_there at all.0 in
    rw (m, h, g, f, i, j, k, l) (so_far-joined w ports (λ n. each_width ports w n all.1) some)
resolved-ports w [] a b c d none first second third e all i j k l f g h m = absurd (omega (arith, e))
resolved-ports w (p ∷ []) a b c d none first second third e all i j k l f g h m = absurd (omega (arith, e))
resolved-ports w (p ∷ q ∷ []) a b c d none first second third e all i j k l f g h m = absurd (omega (arith, e))
resolved-ports w (p ∷ q ∷ r ∷ []) a b c d none first second third e all i j k l f g h m = absurd (omega (arith, e))
resolved-ports w (p ∷ q ∷ r ∷ s ∷ u ∷ rest) a b c d none first second third e all i j k l f g h m = absurd (omega (arith, e))

-- ---- buffers

not-not : (bits : List Bit) → map not_bit (map not_bit bits) ≡ map buffered_bit bits
not-not [] = refl
not-not (Zero ∷ bits) = ap (λ rest. Zero ∷ rest) (not-not bits)
not-not (One ∷ bits) = ap (λ rest. One ∷ rest) (not-not bits)
not-not (Unknown ∷ bits) = ap (λ rest. Unknown ∷ rest) (not-not bits)
not-not (HighZ ∷ bits) = ap (λ rest. Unknown ∷ rest) (not-not bits)

pub twice-not : (v once twice : List Bit) → once ≡ map not_bit v → twice ≡ map not_bit once → twice ≡ map buffered_bit v
twice-not v once twice e f = f ∙ ap (map not_bit) e ∙ not-not v

-- ---- `===`

pub identity-same : (xs ys : List Bit) → xs ≡ ys → One ≡ identity xs ys
identity-same xs ys e = let same : is_same xs ys ≡ true = (is_same-Decides xs ys).1 e in rw same refl

false_of : (b : Bool) → (b ≡ true → ⊥) → b ≡ false
false_of true h = absurd (h refl)
false_of false h = refl

pub identity-other : (xs ys : List Bit) → (xs ≡ ys → ⊥) → Zero ≡ identity xs ys
identity-other xs ys n = let other : is_same xs ys ≡ false = false_of _ (λ h. n ((is_same-Decides xs ys).0 h)) in rw other refl
