-- The constants among the operands of a row have 1 to 128 bits.
use Rattle.std.proofs.Common.{◌≡◌, ℕ, zero, suc, ◌≤◌, Bool, true, false, List, [], ◌∷◌, length, map, reverse, drop, get_or, Option, None, Some, refl, subst, ◌∙◌, arith, if◌then◌else◌}
use Rattle.std.proofs.lemmas.Bool.{eqb-false, ltb-false}
use Rattle.std.proofs.lemmas.List.{length-map, length-reverse}
use Rattle.std.proofs.lemmas.List.Elements.{All-replicate, All-set}
use Rattle.std.specs.Prelude.{All, ◌==◌, nat_lt, slice_get}
use Rattle.std.specs.Option.{IfSome}
use Rattle.four_state.specs.declared.bits.Bit.{Bit}
use Rattle.vvp_lex.specs.Vector.{bit_of, vector_of}
use Rattle.vvp_lex.specs.declared.types.Name.{Name}
use Rattle.vvp_lex.specs.declared.types.Spanned.{Spanned}
use Rattle.vvp_lex.specs.declared.types.Token.{Token}
use Rattle.vvp_lex.specs.declared.types.Token.TheVariants as token
use Rattle.vvp_lex.specs.Place.{◌>>=◌, bytes_of, is_mark_at, number_at, span_of, text_at, word_at}
use Rattle.vvp_forms.specs.declared.form.Port.{Port}
use Rattle.vvp_forms.specs.declared.form.Port.TheVariants as port
use Rattle.vvp_forms.specs.declared.pieces.Operands.{Operands}
use Rattle.vvp_forms.specs.declared.table.Piece.{Piece}
use Rattle.vvp_forms.specs.declared.table.Piece.TheVariants as piece
use Rattle.vvp_forms.specs.Forms.{port_of}
use Rattle.vvp_forms.specs.Numbers.{integer_at, power_at}
use Rattle.vvp_forms.specs.Operands.{drives_at, symbols_of, ends_before, no_operands, piece_at, pieces_at}
use Rattle.vvp_forms.specs.Ports.{between, constant_of, port_at, port_in}

-- a constant is a vector
abbrev pub IsVector : Port → Type 0
IsVector (port.Fixed bits) = (1 ≤ length bits) × (length bits ≤ 128)
IsVector _ = Unit {0}

abbrev is_vector : List Bit → Type 0
is_vector bits = (1 ≤ length bits) × (length bits ≤ 128)

vector_of-vector : (bits : List ℕ) → IfSome (vector_of bits) is_vector
unfolding vector_of
vector_of-vector bits = by (length bits == 0) refl (nat_lt 128 (length bits)) refl
  where
    same : length (reverse (map bit_of bits)) ≡ length bits
    same = length-reverse (map bit_of bits) ∙ length-map bits bit_of

    by : (none : Bool) → (length bits == 0) ≡ none → (long : Bool) → nat_lt 128 (length bits) ≡ long → IfSome (if none then None else (if long then None else Some (reverse (map bit_of bits)))) is_vector
    by true is long wide = tt
    by false is true wide = tt
    by false is false wide =
        let some : length bits ≡ 0 → ⊥ = eqb-false (length bits) 0 is in
        let most : length bits ≤ 128 = ltb-false 128 (length bits) wide in
        (omega (arith, same, some), omega (arith, same, most))

abbrev fixed_port : List Bit → Option Port
fixed_port value = Some (port.Fixed value)

constant-vector : (bits : List ℕ) → IfSome (constant_of bits) IsVector
unfolding constant_of
constant-vector bits = by (length bits == 0) (vector_of bits) (vector_of-vector bits)
  where
    by : (none : Bool) (o : Option (List Bit)) → IfSome o is_vector → IfSome (if none then Some port.Unused else (o >>= fixed_port)) IsVector
    by true o is = tt
    by false (Some value) is = is
    by false None is = tt

port_in-vector : (file : List ℕ) (t : Token) (span : Name) → IfSome (port_in file t span) IsVector
port_in-vector file token.Word span = tt
port_in-vector file token.Const span = constant-vector (between (bytes_of file span))
port_in-vector file _ span = tt

bind-some : {A B : Type 0} (P : B → Type 0) (o : Option A) (next : A → Option B) → ((x : A) → o ≡ Some x → IfSome (next x) P) → IfSome (o >>= next) P
bind-some P (Some x) next each = each x refl
bind-some P None next each = tt

port_at-vector : (file : List ℕ) (tokens : List Spanned) (place : ℕ) → IfSome (port_at file tokens place) IsVector
unfolding port_at
port_at-vector file tokens place = bind-some IsVector (slice_get tokens place) _ (λ (found : Spanned) _. port_in-vector file found.token (span_of found))

abbrev pub HaveVectors : Operands → Type 0
HaveVectors operands = All IsVector operands.ports

-- after a piece
abbrev Kept : Operands × ℕ → Type 0
Kept read = HaveVectors read.0

if-kept : (b : Bool) (one other : Option (Operands × ℕ)) → IfSome one Kept → IfSome other Kept → IfSome (if b then one else other) Kept
if-kept true one other first second = first
if-kept false one other first second = second

piece-kept : (file : List ℕ) (p : Piece) (operands : Operands) (tokens : List Spanned) → HaveVectors operands → IfSome (piece_at file p operands tokens) Kept
unfolding piece_at
piece-kept file piece.Text operands tokens have = bind-some Kept (text_at tokens 0) _ (λ _ _. have)
piece-kept file piece.SecondText operands tokens have = bind-some Kept (text_at tokens 0) _ (λ _ _. have)
piece-kept file piece.Starred operands tokens have = if-kept (is_mark_at tokens 0 42) _ _ (bind-some Kept (text_at tokens 1) _ (λ _ _. have)) (bind-some Kept (text_at tokens 0) _ (λ _ _. have))
piece-kept file piece.Kind operands tokens have = bind-some Kept (word_at tokens 0) _ (λ _ _. have)
piece-kept file piece.Symbol operands tokens have = bind-some Kept (word_at tokens 0) _ (λ _ _. have)
piece-kept file piece.Symbols operands tokens have = bind-some Kept (symbols_of tokens) _ (λ _ _. have)
piece-kept file (piece.Number slot) operands tokens have = bind-some Kept (number_at tokens 0) _ (λ _ _. have)
piece-kept file (piece.Integer slot) operands tokens have = bind-some Kept (integer_at tokens) _ (λ _ _. have)
piece-kept file piece.Power operands tokens have = bind-some Kept (power_at tokens) _ (λ _ _. have)
piece-kept file (piece.Mark byte) operands tokens have = if-kept (is_mark_at tokens 0 byte) _ _ have tt
piece-kept file piece.Drives operands tokens have = if-kept (is_mark_at tokens 0 91) _ _ (bind-some Kept (drives_at tokens) _ (λ _ _. have)) have
piece-kept file (piece.Port slot) operands tokens have =
    bind-some Kept (port_at file tokens 0) _ (λ (found : Port) is.
    All-set IsVector operands.ports slot found (subst (λ (o : Option Port). IfSome o IsVector) is (port_at-vector file tokens 0)) have)
piece-kept file piece.MayEnd operands tokens have = have
piece-kept file piece.Anything operands tokens have = have

rest-kept : (file : List ℕ) (p : Piece) (pieces : List Piece) (operands : Operands) (tokens : List Spanned) → HaveVectors operands → ((read : Operands × ℕ) → Kept read → IfSome (pieces_at file pieces read.0 (drop read.1 tokens)) HaveVectors) → (ends : Bool) → IfSome (if ends then Some operands else (piece_at file p operands tokens >>= λ read. pieces_at file pieces read.0 (drop read.1 tokens))) HaveVectors
rest-kept file p pieces operands tokens have later true = have
rest-kept file p pieces operands tokens have later false =
    bind-some HaveVectors (piece_at file p operands tokens) _ (λ (read : Operands × ℕ) is.
    later read (subst (λ (o : Option (Operands × ℕ)). IfSome o Kept) is (piece-kept file p operands tokens have)))

pieces-kept : (file : List ℕ) (pieces : List Piece) (operands : Operands) (tokens : List Spanned) → HaveVectors operands → IfSome (pieces_at file pieces operands tokens) HaveVectors
pieces-kept file [] operands [] have = have
pieces-kept file [] operands (first ∷ tokens) have = tt
pieces-kept file (p ∷ pieces) operands tokens have =
    rest-kept file p pieces operands tokens have (λ (read : Operands × ℕ) kept. pieces-kept file pieces read.0 (drop read.1 tokens) kept) (ends_before p tokens)

none-have : HaveVectors no_operands
unfolding no_operands
none-have = All-replicate IsVector 4 port.Unused tt

-- the operands of a row
pub operands-have : (file : List ℕ) (pieces : List Piece) (tokens : List Spanned) (operands : Operands) → pieces_at file pieces no_operands tokens ≡ Some operands → HaveVectors operands
operands-have file pieces tokens operands is = subst (λ (o : Option Operands). IfSome o HaveVectors) is (pieces-kept file pieces no_operands tokens none-have)

at-vector : (ports : List Port) (slot : ℕ) → All IsVector ports → IsVector (get_or ports slot port.Unused)
at-vector [] slot have = tt
at-vector (p ∷ ports) zero have = have 0 port.Unused (omega arith)
at-vector (p ∷ ports) (suc slot) have = at-vector ports slot (λ k d lt. have (suc k) d (omega arith))

pub port-vector : (operands : Operands) (slot : ℕ) → HaveVectors operands → IsVector (port_of operands.ports slot)
port-vector operands slot have = at-vector operands.ports slot have
