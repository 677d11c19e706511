use Rattle.std.proofs.Common.{◌≡◌, ℕ, ◌<◌, true, false, List, [], ◌∷◌, ◌++◌, length, get_or, drop, Option, None, Some, refl, sym, ap, append_assoc, append-nil, arith}
use Rattle.std.specs.Option.{option_map}
use Rattle.std.proofs.lemmas.Bool.{false≢true}
use Rattle.vvp_lex.specs.declared.types.Name.{Name}
use Rattle.vvp_lex.specs.declared.types.Spanned.{Spanned}
use Rattle.vvp_forms.specs.declared.table.Piece.{Piece}
use Rattle.vvp_forms.specs.declared.pieces.Operands.{Operands}
use Rattle.vvp_lex.specs.Place.{word_at, is_mark_at}
use Rattle.vvp_forms.specs.Operands.{symbols_of, symbols_after, with_name, piece_at, ends_before, pieces_at}

-- the names found so far, before those that are left
abbrev pub after_names : List Name → List Name → List Name
after_names found names = found ++ names

-- the first symbol
pub symbols-first : (tokens : List Spanned) (first : Name) (found : List Name) → word_at tokens 0 ≡ Some first → found ≡ first ∷ [] → option_map (after_names found) (symbols_after (drop 1 tokens)) ≡ symbols_of tokens
unfolding symbols_of
symbols-first tokens first found is names = rw (is, names) refl

-- no token is left
pub symbols-end : (rest : List Spanned) (found : List Name) → length rest ≡ 0 → option_map (after_names found) (symbols_after rest) ≡ Some found
symbols-end [] found none = ap Some (append-nil found)
symbols-end (comma ∷ rest) found none = absurd (omega arith)

-- what is left doesn't begin with a comma
pub symbols-no_comma : (rest : List Spanned) → 0 < length rest → is_mark_at rest 0 44 ≡ false → symbols_after rest ≡ None
unfolding is_mark_at
symbols-no_comma [] some other = absurd (omega arith)
symbols-no_comma (comma ∷ []) some other = refl
symbols-no_comma (comma ∷ symbol ∷ rest) some other = rw other refl

-- after the comma stands no word
pub symbols-no_word : (rest : List Spanned) → is_mark_at rest 0 44 ≡ true → word_at rest 1 ≡ None → symbols_after rest ≡ None
unfolding is_mark_at word_at
symbols-no_word [] mark none = absurd (false≢true mark)
symbols-no_word (comma ∷ []) mark none = refl
symbols-no_word (comma ∷ symbol ∷ rest) mark none = rw (mark, none) refl

-- one symbol more
pub symbols-more : (rest : List Spanned) (name : Name) → is_mark_at rest 0 44 ≡ true → word_at rest 1 ≡ Some name → symbols_after rest ≡ option_map (with_name name) (symbols_after (drop 2 rest))
unfolding is_mark_at word_at
symbols-more [] name mark is = absurd (false≢true mark)
symbols-more (comma ∷ []) name mark is = absurd (cc)
symbols-more (comma ∷ symbol ∷ rest) name mark is = rw (mark, is) refl

pub after_names-push : (found : List Name) (name : Name) (read : Option (List Name)) → option_map (after_names found) (option_map (with_name name) read) ≡ option_map (after_names (found ++ name ∷ [])) read
after_names-push found name None = refl
after_names-push found name (Some names) = ap Some (sym (append_assoc found (name ∷ []) names))

-- the operands end before the next piece
pub pieces-end : (file : List ℕ) (piece : Piece) (pieces : List Piece) (operands : Operands) (tokens : List Spanned) → ends_before piece tokens ≡ true → pieces_at file (piece ∷ pieces) operands tokens ≡ Some operands
pieces-end file piece pieces operands tokens ends = rw ends refl

-- the next piece isn't there
pub pieces-none : (file : List ℕ) (piece : Piece) (pieces : List Piece) (operands : Operands) (tokens : List Spanned) → ends_before piece tokens ≡ false → piece_at file piece operands tokens ≡ None → pieces_at file (piece ∷ pieces) operands tokens ≡ None
pieces-none file piece pieces operands tokens more none = rw (more, none) refl

-- one piece more
pub pieces-more : (file : List ℕ) (piece : Piece) (pieces : List Piece) (operands after : Operands) (used : ℕ) (tokens : List Spanned) → ends_before piece tokens ≡ false → piece_at file piece operands tokens ≡ Some (after, used) → pieces_at file (piece ∷ pieces) operands tokens ≡ pieces_at file pieces after (drop used tokens)
pieces-more file piece pieces operands after used tokens more is = rw (more, is) refl

-- a list of pieces is its first, and the others after it
pub pieces-first : (pieces : List Piece) (default : Piece) → 0 < length pieces → pieces ≡ get_or pieces 0 default ∷ drop 1 pieces
pieces-first [] default some = absurd (omega arith)
pieces-first (piece ∷ pieces) default some = refl
