-- The slots of a row's operands: there are as many as at the start, and no port after the last one that is written is used.
use Rattle.std.proofs.Common.{◌≡◌, ℕ, zero, suc, ◌<◌, ◌≤◌, ℤ, Bool, true, false, ◌&&◌, List, [], ◌∷◌, length, length-set, drop, get_or, Option, None, Some, refl, ap, subst, ◌∙◌, arith, if◌then◌else◌}
use Rattle.std.proofs.lemmas.Bool.{and_parts, leb-true}
use Rattle.std.specs.Prelude.{nat_le, slice_set}
use Rattle.std.specs.Option.{IfSome}
use Rattle.vvp_lex.specs.declared.types.Spanned.{Spanned}
use Rattle.vvp_lex.specs.declared.types.Name.{Name}
use Rattle.vvp_lex.specs.Place.{◌>>=◌, is_mark_at, number_at, text_at, word_at}
use Rattle.vvp_lex.specs.Unescaped.{text_of}
use Rattle.vvp_forms.specs.declared.form.Port.{Port}
use Rattle.vvp_forms.specs.declared.form.Port.TheVariants as port
use Rattle.vvp_forms.specs.declared.pieces.Operands.{Operands}
use Rattle.vvp_forms.specs.declared.table.Piece.{Piece}
use Rattle.vvp_forms.specs.declared.table.Piece.TheVariants as piece
use Rattle.vvp_forms.specs.Numbers.{integer_at, power_at}
use Rattle.vvp_forms.specs.Operands.{drives_at, ends_before, no_operands, piece_at, pieces_at, symbols_of}
use Rattle.vvp_forms.specs.Ports.{port_at}

-- as many slots as at the start
pub record HasSlots (operands : Operands) : Type 0 where
  pub ports : length operands.ports ≡ 4
  pub numbers : length operands.numbers ≡ 5
  pub after : (k : ℕ) → operands.last_port < k → get_or operands.ports k port.Unused ≡ port.Unused

-- whether the ports of a row stand in their order, none of them before this one
abbrev pub rises : ℕ → List Piece → Bool
rises least [] = true
rises least (piece.Port slot ∷ pieces) = nat_le least slot && rises slot pieces
rises least (_ ∷ pieces) = rises least pieces

-- after a piece: the slots, and the ports of the pieces that come
abbrev Kept : List Piece → Operands → Type 0
Kept pieces operands = HasSlots operands × (rises operands.last_port pieces ≡ true)

abbrev After : List Piece → Operands × ℕ → Type 0
After pieces read = Kept pieces read.0

bind-some : {A B : Type 0} (P : B → Type 0) (o : Option A) (next : A → Option B) → ((x : A) → IfSome (next x) P) → IfSome (o >>= next) P
bind-some P (Some x) next each = each x
bind-some P None next each = tt

if-kept : (pieces : List Piece) (b : Bool) (this other : Option (Operands × ℕ)) → IfSome this (After pieces) → IfSome other (After pieces) → IfSome (if b then this else other) (After pieces)
if-kept pieces true this other first second = first
if-kept pieces false this other first second = second

-- a read past a write
set-past : (xs : List Port) (slot k : ℕ) (x : Port) → slot < k → get_or (slice_set xs slot x) k port.Unused ≡ get_or xs k port.Unused
set-past [] slot k x lt = refl
set-past (y ∷ xs) slot zero x lt = absurd (omega arith)
set-past (y ∷ xs) zero (suc k) x lt = refl
set-past (y ∷ xs) (suc slot) (suc k) x lt = let less : slot < k = omega (arith, lt) in set-past xs slot k x less

port-kept : (pieces : List Piece) (operands : Operands) (slot : ℕ) (found : Port) → Kept (piece.Port slot ∷ pieces) operands → Kept pieces (record operands { ports = slice_set operands.ports slot found; last_port = slot })
port-kept pieces operands slot found kept =
    let parts = and_parts (nat_le operands.last_port slot) (rises slot pieces) kept.1 in
    let least : operands.last_port ≤ slot = leb-true operands.last_port slot parts.0 in (
      record {
        ports = length-set operands.ports slot found ∙ kept.0.ports;
        numbers = kept.0.numbers;
        after = λ k lt. let less : operands.last_port < k = omega (arith, least, lt) in set-past operands.ports slot k found lt ∙ kept.0.after k less;
      },
      parts.1,
    )

number-kept : (pieces : List Piece) (operands : Operands) (slot value : ℕ) → Kept pieces operands → Kept pieces (record operands { numbers = slice_set operands.numbers slot value })
number-kept pieces operands slot value kept =
    (record { ports = kept.0.ports; numbers = length-set operands.numbers slot value ∙ kept.0.numbers; after = kept.0.after }, kept.1)

-- other slots say nothing of these
other-kept : (pieces : List Piece) (old new : Operands) → new.ports ≡ old.ports → new.numbers ≡ old.numbers → new.last_port ≡ old.last_port → Kept pieces old → Kept pieces new
other-kept pieces old new ports numbers last kept = (
  record {
    ports = ap length ports ∙ kept.0.ports;
    numbers = ap length numbers ∙ kept.0.numbers;
    after = λ k lt. ap (λ l. get_or l k port.Unused) ports ∙ kept.0.after k (subst (λ n. n < k) last lt);
  },
  ap (λ n. rises n pieces) last ∙ kept.1,
)

piece-kept : (file : List ℕ) (p : Piece) (pieces : List Piece) (operands : Operands) (tokens : List Spanned) → Kept (p ∷ pieces) operands → IfSome (piece_at file p operands tokens) (After pieces)
unfolding piece_at
piece-kept file piece.Text pieces operands tokens kept = bind-some (After pieces) (text_at tokens 0) (λ (x : Name). Some (record operands { text = text_of file x }, 1)) (λ x. other-kept pieces operands (record operands { text = text_of file x }) refl refl refl kept)
piece-kept file piece.SecondText pieces operands tokens kept = bind-some (After pieces) (text_at tokens 0) (λ (x : Name). Some (record operands { second_text = text_of file x }, 1)) (λ x. other-kept pieces operands (record operands { second_text = text_of file x }) refl refl refl kept)
piece-kept file piece.Starred pieces operands tokens kept =
    if-kept pieces (is_mark_at tokens 0 42) (text_at tokens 1 >>= λ (x : Name). Some (record operands { starred = true; text = text_of file x }, 2)) (text_at tokens 0 >>= λ (x : Name). Some (record operands { text = text_of file x }, 1))
    (bind-some (After pieces) (text_at tokens 1) (λ (x : Name). Some (record operands { starred = true; text = text_of file x }, 2)) (λ x. other-kept pieces operands (record operands { starred = true; text = text_of file x }) refl refl refl kept))
    (bind-some (After pieces) (text_at tokens 0) (λ (x : Name). Some (record operands { text = text_of file x }, 1)) (λ x. other-kept pieces operands (record operands { text = text_of file x }) refl refl refl kept))
piece-kept file piece.Kind pieces operands tokens kept = bind-some (After pieces) (word_at tokens 0) (λ (x : Name). Some (record operands { kind = Some x }, 1)) (λ x. other-kept pieces operands (record operands { kind = Some x }) refl refl refl kept)
piece-kept file piece.Symbol pieces operands tokens kept = bind-some (After pieces) (word_at tokens 0) (λ (x : Name). Some (record operands { symbol = Some x }, 1)) (λ x. other-kept pieces operands (record operands { symbol = Some x }) refl refl refl kept)
piece-kept file piece.Symbols pieces operands tokens kept = bind-some (After pieces) (symbols_of tokens) (λ (x : List Name). Some (record operands { symbols = x }, length tokens)) (λ x. other-kept pieces operands (record operands { symbols = x }) refl refl refl kept)
piece-kept file (piece.Number slot) pieces operands tokens kept = bind-some (After pieces) (number_at tokens 0) (λ (x : ℕ). Some (record operands { numbers = slice_set operands.numbers slot x }, 1)) (λ x. number-kept pieces operands slot x kept)
piece-kept file (piece.Integer slot) pieces operands tokens kept = bind-some (After pieces) (integer_at tokens) (λ (x : ℤ × ℕ). Some (record operands { integers = slice_set operands.integers slot x.0 }, x.1)) (λ x. other-kept pieces operands (record operands { integers = slice_set operands.integers slot x.0 }) refl refl refl kept)
piece-kept file piece.Power pieces operands tokens kept = bind-some (After pieces) (power_at tokens) (λ (x : ℤ × ℕ). Some (record operands { integers = slice_set operands.integers 0 x.0 }, x.1)) (λ x. other-kept pieces operands (record operands { integers = slice_set operands.integers 0 x.0 }) refl refl refl kept)
piece-kept file (piece.Mark byte) pieces operands tokens kept = if-kept pieces (is_mark_at tokens 0 byte) (Some (operands, 1)) None kept tt
piece-kept file piece.Drives pieces operands tokens kept =
    if-kept pieces (is_mark_at tokens 0 91) (drives_at tokens >>= λ (x : ℕ × ℕ). Some (record operands { drives = x }, 4)) (Some (operands, 0))
    (bind-some (After pieces) (drives_at tokens) (λ (x : ℕ × ℕ). Some (record operands { drives = x }, 4)) (λ x. other-kept pieces operands (record operands { drives = x }) refl refl refl kept))
    kept
piece-kept file (piece.Port slot) pieces operands tokens kept = bind-some (After pieces) (port_at file tokens 0) (λ (x : Port). Some (record operands { ports = slice_set operands.ports slot x; last_port = slot }, 1)) (λ x. port-kept pieces operands slot x kept)
piece-kept file piece.MayEnd pieces operands tokens kept = kept
piece-kept file piece.Anything pieces operands tokens kept = kept

pieces-kept : (file : List ℕ) (pieces : List Piece) (operands : Operands) (tokens : List Spanned) → Kept pieces operands → IfSome (pieces_at file pieces operands tokens) HasSlots
pieces-kept file [] operands [] kept = kept.0
pieces-kept file [] operands (first ∷ tokens) kept = tt
pieces-kept file (p ∷ pieces) operands tokens kept =
    by (ends_before p tokens) (piece_at file p operands tokens) (piece-kept file p pieces operands tokens kept)
    (λ (read : Operands × ℕ) after. pieces-kept file pieces read.0 (drop read.1 tokens) after)
  where
    next : (o : Option (Operands × ℕ)) → IfSome o (After pieces) → ((read : Operands × ℕ) → After pieces read → IfSome (pieces_at file pieces read.0 (drop read.1 tokens)) HasSlots) → IfSome (o >>= λ read. pieces_at file pieces read.0 (drop read.1 tokens)) HasSlots
    next None after rest = tt
    next (Some read) after rest = rest read after

    by : (ends : Bool) (o : Option (Operands × ℕ)) → IfSome o (After pieces) → ((read : Operands × ℕ) → After pieces read → IfSome (pieces_at file pieces read.0 (drop read.1 tokens)) HasSlots) → IfSome (if ends then Some operands else (o >>= λ read. pieces_at file pieces read.0 (drop read.1 tokens))) HasSlots
    by true o after rest = kept.0
    by false o after rest = next o after rest

none-used : (k : ℕ) → get_or (port.Unused ∷ port.Unused ∷ port.Unused ∷ port.Unused ∷ []) k port.Unused ≡ port.Unused
none-used zero = refl
none-used (suc zero) = refl
none-used (suc (suc zero)) = refl
none-used (suc (suc (suc zero))) = refl
none-used (suc (suc (suc (suc k)))) = refl

none-kept : (pieces : List Piece) → rises 0 pieces ≡ true → Kept pieces no_operands
unfolding no_operands
none-kept pieces rising = (record { ports = refl; numbers = refl; after = λ k lt. none-used k }, rising)

-- the operands of a row whose ports stand in their order
pub has-slots : (file : List ℕ) (pieces : List Piece) (tokens : List Spanned) (operands : Operands) → rises 0 pieces ≡ true → pieces_at file pieces no_operands tokens ≡ Some operands → HasSlots operands
has-slots file pieces tokens operands rising is = subst (λ (o : Option Operands). IfSome o HasSlots) is (pieces-kept file pieces no_operands tokens (none-kept pieces rising))
