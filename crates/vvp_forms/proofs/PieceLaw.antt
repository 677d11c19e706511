-- Each piece: what is read is spelled so, and what is spelled so is read.
use Rattle.std.proofs.Common.{◌≡◌, ℕ, Bool, true, false, List, [], ◌∷◌, length, drop, Option, None, Some, refl, sym, ap, ◌∙◌, subst, if◌then◌else◌, inl, inr, arith}
use Rattle.std.specs.Prelude.{ℤ, slice_set}
use Rattle.std.proofs.lemmas.Bool.{false≢true}
use Rattle.std.proofs.lemmas.List.{drop_all}
use Rattle.vvp_lex.specs.declared.types.Name.{Name}
use Rattle.vvp_lex.specs.declared.types.Spanned.{Spanned}
use Rattle.vvp_lex.specs.declared.types.Token.TheVariants as token
use Rattle.vvp_lex.specs.Unescaped.{text_of}
use Rattle.vvp_forms.specs.declared.form.Port.{Port}
use Rattle.vvp_forms.specs.declared.table.Piece.{Piece}
use Rattle.vvp_forms.specs.declared.table.Piece.TheVariants as piece
use Rattle.vvp_forms.specs.declared.pieces.Operands.{Operands}
use Rattle.vvp_lex.specs.Place.{◌>>=◌, number_at, word_at, text_at, is_mark_at}
use Rattle.vvp_forms.specs.Numbers.{integer_at, power_at}
use Rattle.vvp_forms.specs.Ports.{port_at}
use Rattle.vvp_forms.specs.Operands.{symbols_of, drives_at, piece_at}
use Rattle.vvp_forms.specs.Pieces.{IsNumber, IsTextAt, IsWordAt, AreDrives, IsPort, IsPiece}
use Rattle.vvp_lex.proofs.FrontLemmas.{some_inj, bind-some, is_mark_at-sound, is_mark_at-complete, number-sound, number-complete, word-sound, word-complete, text-sound, text-complete}
use Rattle.vvp_forms.proofs.FrontLemmas.{no_mark-sound, no_mark-complete, text-no_mark, text-next, drop-one}
use Rattle.vvp_forms.proofs.PartLemmas.{integer-sound, integer-complete, power-sound, power-complete, drives-sound, drives-complete, symbols-sound, symbols-complete, port-sound, port-complete}

-- a value that is read into its slot, and how many tokens it has
abbrev put : {A : Type 0} → (A → Operands) → ℕ → A → Option (Operands × ℕ)
put make used x = Some (make x, used)

-- what was read, and where it was put
bind_put : {A : Type 0} (r : Option A) (make : A → Operands) (n : ℕ) (after : Operands) (used : ℕ) → (r >>= put make n) ≡ Some (after, used) → (x : A) × (r ≡ Some x) × (make x ≡ after) × (n ≡ used)
bind_put (Some x) make n after used is =
    let both = some_inj (make x, n) (after, used) is in
    (x, refl, ap (λ (r : Operands × ℕ). r.0) both, ap (λ (r : Operands × ℕ). r.1) both)
bind_put None make n after used is = absurd (cc)

abbrev put_integer : Operands → ℕ → ℤ × ℕ → Option (Operands × ℕ)
put_integer before slot read = Some (record before { integers = slice_set before.integers slot read.0 }, read.1)

-- the operands with a value in its slot
abbrev text_put : List ℕ → Operands → Name → Operands
text_put file before name = record before { text = text_of file name }

abbrev star_put : List ℕ → Operands → Name → Operands
star_put file before name = record before { starred = true; text = text_of file name }

abbrev second_put : List ℕ → Operands → Name → Operands
second_put file before name = record before { second_text = text_of file name }

abbrev kind_put : Operands → Name → Operands
kind_put before name = record before { kind = Some name }

abbrev symbol_put : Operands → Name → Operands
symbol_put before name = record before { symbol = Some name }

abbrev symbols_put : Operands → List Name → Operands
symbols_put before names = record before { symbols = names }

abbrev number_put : Operands → ℕ → ℕ → Operands
number_put before slot value = record before { numbers = slice_set before.numbers slot value }

abbrev drives_put : Operands → ℕ × ℕ → Operands
drives_put before drives = record before { drives = drives }

abbrev port_put : Operands → ℕ → Port → Operands
port_put before slot found = record before { ports = slice_set before.ports slot found; last_port = slot }

-- no mark stands where no token is
no-mark : (byte : ℕ) → is_mark_at [] 0 byte ≡ true → ⊥
unfolding is_mark_at
no-mark byte is = false≢true is

starred-sound : (file : List ℕ) (before after : Operands) (used : ℕ) (tokens : List Spanned) (star : Bool) → is_mark_at tokens 0 42 ≡ star → (if star then (text_at tokens 1 >>= put (star_put file before) 2) else (text_at tokens 0 >>= put (text_put file before) 1)) ≡ Some (after, used) → IsPiece file piece.Starred before after tokens (drop used tokens)
unfolding IsPiece
starred-sound file before after used [] true e is = absurd (no-mark 42 e)
starred-sound file before after used (first ∷ tokens) true e is =
    let p = bind_put (text_at (first ∷ tokens) 1) (star_put file before) 2 after used is in
    let one = text-sound 0 tokens p.0 (sym (text-next (first ∷ tokens) 0) ∙ p.1) in
    inr (p.0, (tokens, is_mark_at-sound 0 (first ∷ tokens) 42 e, subst (λ n. IsTextAt p.0 tokens (drop n (first ∷ tokens))) p.3 one), sym p.2)
starred-sound file before after used tokens false e is =
    let p = bind_put (text_at tokens 0) (text_put file before) 1 after used is in
    inl (p.0, subst (λ n. IsTextAt p.0 tokens (drop n tokens)) p.3 (text-sound 0 tokens p.0 p.1), sym p.2)

-- a mark leaves the operands
abbrev passed : Operands → Option (Operands × ℕ)
passed before = Some (before, 1)

mark-piece-sound : (file : List ℕ) (byte : ℕ) (before after : Operands) (used : ℕ) (tokens : List Spanned) (mark : Bool) → is_mark_at tokens 0 byte ≡ mark → (if mark then passed before else None) ≡ Some (after, used) → IsPiece file (piece.Mark byte) before after tokens (drop used tokens)
unfolding IsPiece
mark-piece-sound file byte before after used tokens true e is =
    let both = some_inj (before, 1) (after, used) is in
    subst (λ (r : Operands × ℕ). IsPiece file (piece.Mark byte) before r.0 tokens (drop r.1 tokens)) both (is_mark_at-sound 0 tokens byte e, refl)
mark-piece-sound file byte before after used tokens false e is = absurd (cc)

drives-piece-sound : (file : List ℕ) (before after : Operands) (used : ℕ) (tokens : List Spanned) (opened : Bool) → is_mark_at tokens 0 91 ≡ opened → (if opened then (drives_at tokens >>= put (drives_put before) 4) else Some (before, 0)) ≡ Some (after, used) → IsPiece file piece.Drives before after tokens (drop used tokens)
unfolding IsPiece
drives-piece-sound file before after used tokens true e is =
    let p = bind_put (drives_at tokens) (drives_put before) 4 after used is in
    inr (p.0.0, p.0.1, subst (λ n. AreDrives p.0.0 p.0.1 tokens (drop n tokens)) p.3 (drives-sound tokens p.0 e p.1), sym p.2)
drives-piece-sound file before after used tokens false e is =
    let both = some_inj (before, 0) (after, used) is in
    subst (λ (r : Operands × ℕ). IsPiece file piece.Drives before r.0 tokens (drop r.1 tokens)) both (inl (no_mark-sound 91 tokens e, refl, refl))

-- a piece that is read is spelled so
pub piece-sound : (file : List ℕ) (p : Piece) (before after : Operands) (used : ℕ) (tokens : List Spanned) → piece_at file p before tokens ≡ Some (after, used) → IsPiece file p before after tokens (drop used tokens)
unfolding piece_at IsPiece
piece-sound file piece.Text before after used tokens is =
    let p = bind_put (text_at tokens 0) (text_put file before) 1 after used is in
    (p.0, subst (λ n. IsTextAt p.0 tokens (drop n tokens)) p.3 (text-sound 0 tokens p.0 p.1), sym p.2)
piece-sound file piece.SecondText before after used tokens is =
    let p = bind_put (text_at tokens 0) (second_put file before) 1 after used is in
    (p.0, subst (λ n. IsTextAt p.0 tokens (drop n tokens)) p.3 (text-sound 0 tokens p.0 p.1), sym p.2)
piece-sound file piece.Starred before after used tokens is =
    starred-sound file before after used tokens (is_mark_at tokens 0 42) refl is
piece-sound file piece.Kind before after used tokens is =
    let p = bind_put (word_at tokens 0) (kind_put before) 1 after used is in
    (p.0, subst (λ n. IsWordAt p.0 tokens (drop n tokens)) p.3 (word-sound 0 tokens p.0 p.1), sym p.2)
piece-sound file piece.Symbol before after used tokens is =
    let p = bind_put (word_at tokens 0) (symbol_put before) 1 after used is in
    (p.0, subst (λ n. IsWordAt p.0 tokens (drop n tokens)) p.3 (word-sound 0 tokens p.0 p.1), sym p.2)
piece-sound file piece.Symbols before after used tokens is =
    let p = bind_put (symbols_of tokens) (symbols_put before) (length tokens) after used is in
    (p.0, symbols-sound tokens p.0 p.1, subst (λ n. drop n tokens ≡ []) p.3 (drop_all (length tokens) tokens (omega arith)), sym p.2)
piece-sound file (piece.Number slot) before after used tokens is =
    let p = bind_put (number_at tokens 0) (number_put before slot) 1 after used is in
    (p.0, subst (λ n. IsNumber p.0 tokens (drop n tokens)) p.3 (number-sound 0 tokens p.0 p.1), sym p.2)
piece-sound file (piece.Integer slot) before after used tokens is =
    let read = bind-some (integer_at tokens) (put_integer before slot) (after, used) is in
    let both = some_inj (record before { integers = slice_set before.integers slot read.0.0 }, read.0.1) (after, used) read.2 in
    subst (λ (r : Operands × ℕ). IsPiece file (piece.Integer slot) before r.0 tokens (drop r.1 tokens)) both (read.0.0, integer-sound read.0.0 read.0.1 tokens read.1, refl)
piece-sound file piece.Power before after used tokens is =
    let read = bind-some (power_at tokens) (put_integer before 0) (after, used) is in
    let both = some_inj (record before { integers = slice_set before.integers 0 read.0.0 }, read.0.1) (after, used) read.2 in
    subst (λ (r : Operands × ℕ). IsPiece file piece.Power before r.0 tokens (drop r.1 tokens)) both (read.0.0, power-sound read.0.0 read.0.1 tokens read.1, refl)
piece-sound file (piece.Mark byte) before after used tokens is =
    mark-piece-sound file byte before after used tokens (is_mark_at tokens 0 byte) refl is
piece-sound file piece.Drives before after used tokens is =
    drives-piece-sound file before after used tokens (is_mark_at tokens 0 91) refl is
piece-sound file (piece.Port slot) before after used tokens is =
    let p = bind_put (port_at file tokens 0) (port_put before slot) 1 after used is in
    (p.0, subst (λ n. IsPort file p.0 tokens (drop n tokens)) p.3 (port-sound file tokens p.0 p.1), sym p.2)
piece-sound file piece.MayEnd before after used tokens is =
    let both = some_inj (before, 0) (after, used) is in
    subst (λ (r : Operands × ℕ). IsPiece file piece.MayEnd before r.0 tokens (drop r.1 tokens)) both (refl, refl)
piece-sound file piece.Anything before after used tokens is =
    let both = some_inj (before, length tokens) (after, used) is in
    subst (λ (r : Operands × ℕ). IsPiece file piece.Anything before r.0 tokens (drop r.1 tokens)) both (drop_all (length tokens) tokens (omega arith), refl)

-- a piece that is spelled so is read
pub piece-complete : (file : List ℕ) (p : Piece) (before after : Operands) (tokens rest : List Spanned) → IsPiece file p before after tokens rest → (used : ℕ) × (piece_at file p before tokens ≡ Some (after, used)) × (drop used tokens ≡ rest)
unfolding piece_at IsPiece
piece-complete file piece.Text before after tokens rest is =
    (1, rw ((text-complete 0 tokens tokens rest is.0 refl is.1).0, is.2) refl, ap (drop 1) is.1.1)
piece-complete file piece.SecondText before after tokens rest is =
    (1, rw ((text-complete 0 tokens tokens rest is.0 refl is.1).0, is.2) refl, ap (drop 1) is.1.1)
piece-complete file piece.Starred before after tokens rest (inl is) =
    (1, rw (text-no_mark is.0 42 tokens rest is.1, (text-complete 0 tokens tokens rest is.0 refl is.1).0, is.2) refl, ap (drop 1) is.1.1)
piece-complete file piece.Starred before after tokens rest (inr is) =
    let mark = is.1.1 in
    let text = is.1.2 in
    let passed = drop-one (token.Punct 42) tokens is.1.0 mark in
    let read : text_at tokens 1 ≡ Some is.0 = text-next tokens 0 ∙ ap (λ l. text_at l 0) passed ∙ (text-complete 0 is.1.0 is.1.0 rest is.0 refl text).0 in
    let both : tokens ≡ mark.0 ∷ text.0 ∷ rest = mark.1 ∙ ap (λ l. mark.0 ∷ l) text.1 in
    (2, rw ((is_mark_at-complete 0 tokens tokens is.1.0 42 refl mark).0, read, is.2) refl, ap (drop 2) both)
piece-complete file piece.Kind before after tokens rest is =
    (1, rw ((word-complete 0 tokens tokens rest is.0 refl is.1).0, is.2) refl, ap (drop 1) is.1.1)
piece-complete file piece.Symbol before after tokens rest is =
    (1, rw ((word-complete 0 tokens tokens rest is.0 refl is.1).0, is.2) refl, ap (drop 1) is.1.1)
piece-complete file piece.Symbols before after tokens rest is =
    (length tokens, rw (symbols-complete tokens is.0 is.1, is.3) refl, drop_all (length tokens) tokens (omega arith) ∙ sym is.2)
piece-complete file (piece.Number slot) before after tokens rest is =
    (1, rw ((number-complete 0 tokens tokens rest is.0 refl is.1).0, is.2) refl, ap (drop 1) is.1.1)
piece-complete file (piece.Integer slot) before after tokens rest is =
    let read = integer-complete is.0 tokens rest is.1 in
    (read.0, rw (read.1, is.2) refl, read.2)
piece-complete file piece.Power before after tokens rest is =
    let read = power-complete is.0 tokens rest is.1 in
    (read.0, rw (read.1, is.2) refl, read.2)
piece-complete file (piece.Mark byte) before after tokens rest is =
    (1, rw ((is_mark_at-complete 0 tokens tokens rest byte refl is.0).0, is.1) refl, ap (drop 1) is.0.1)
piece-complete file piece.Drives before after tokens rest (inl is) =
    (0, rw (no_mark-complete 91 tokens is.0, is.2) refl, is.1)
piece-complete file piece.Drives before after tokens rest (inr is) =
    let read = drives-complete tokens rest is.0 is.1 is.2 in
    (4, rw (read.0, read.1, is.3) refl, read.2)
piece-complete file (piece.Port slot) before after tokens rest is =
    let read = port-complete file tokens rest is.0 is.1 in
    (1, rw (read.0, is.2) refl, read.1)
piece-complete file piece.MayEnd before after tokens rest is = (0, rw is.1 refl, is.0)
piece-complete file piece.Anything before after tokens rest is =
    (length tokens, rw is.1 refl, drop_all (length tokens) tokens (omega arith) ∙ sym is.0)
