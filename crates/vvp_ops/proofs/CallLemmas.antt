use Rattle.std.proofs.Common.{◌≡◌, ℕ, zero, suc, ◌<◌, Bool, true, false, List, [], ◌∷◌, ◌++◌, length, drop, get_or, nat_eq, Option, None, Some, is_some, refl, sym, ap, ◌∙◌, append_assoc, append-nil, arith}
use Rattle.std.specs.Option.{option_map}
use Rattle.std.specs.List.{All}
use Rattle.std.proofs.lemmas.Bool.{false≢true}
use Rattle.std.proofs.lemmas.List.Elements.{All-head}
use Rattle.std.proofs.lemmas.List.{length-drop}
use Rattle.vvp_lex.specs.declared.types.Token.TheVariants as token
use Rattle.vvp_lex.specs.Unescaped.{IsText}
use Rattle.vvp_lex.specs.declared.types.Name.{Name}
use Rattle.vvp_lex.specs.declared.types.Spanned.{Spanned}
use Rattle.vvp_ops.specs.declared.args.Arg.{Arg}
use Rattle.vvp_lex.specs.Place.{IsTextOf, is_mark, span_of, is_mark_at, mark_at}
use Rattle.vvp_ops.specs.Arguments.{argument_at, tokens_in}
use Rattle.vvp_ops.specs.Calls.{Arguments, with_argument, arguments_of}

-- the arguments read so far, before those that are left
abbrev pub after_arguments : List (Arg Name) → Arguments → Arguments
after_arguments found read = (found ++ read.0, read.1)

pub arguments_of-passed : (file : List ℕ) (passed : ℕ) (tokens : List Spanned) → arguments_of file passed tokens ≡ arguments_of file 0 (drop passed tokens)
arguments_of-passed file zero tokens = refl
arguments_of-passed file (suc passed) [] = refl
arguments_of-passed file (suc passed) (first ∷ tokens) = arguments_of-passed file passed tokens

is_mark-some : (byte : ℕ) (tokens : List Spanned) (first : Spanned) (found : Bool) → is_mark byte first.token ≡ found → is_some (mark_at (first ∷ tokens) 0 byte) ≡ found
unfolding mark_at is_mark_at
is_mark-some byte tokens first true e = rw e refl
is_mark-some byte tokens first false e = rw e refl

-- after a comma stands an argument
pub arguments_of-comma : (file : List ℕ) (tokens : List Spanned) (arg : Arg Name) → is_some (mark_at tokens 0 44) ≡ true → argument_at file (drop 1 tokens) ≡ Some arg → arguments_of file 0 tokens ≡ option_map (with_argument arg) (arguments_of file 0 (drop (tokens_in arg) (drop 1 tokens)))
unfolding mark_at is_mark_at
arguments_of-comma file [] arg comma read = absurd (false≢true comma)
arguments_of-comma file (first ∷ tokens) arg comma read =
    let mark : is_mark 44 first.token ≡ true = sym (is_mark-some 44 tokens first _ refl) ∙ comma in
    rw (mark, read) (ap (option_map (with_argument arg)) (arguments_of-passed file (tokens_in arg) tokens))

-- where none stands, nothing is read
pub arguments_of-none : (file : List ℕ) (tokens : List Spanned) → is_some (mark_at tokens 0 44) ≡ true → argument_at file (drop 1 tokens) ≡ None → arguments_of file 0 tokens ≡ None
unfolding mark_at is_mark_at
arguments_of-none file [] comma read = absurd (false≢true comma)
arguments_of-none file (first ∷ tokens) comma read =
    let mark : is_mark 44 first.token ≡ true = sym (is_mark-some 44 tokens first _ refl) ∙ comma in
    rw (mark, read) refl

-- without a comma the arguments are over
pub arguments_of-end : (file : List ℕ) (tokens : List Spanned) → is_some (mark_at tokens 0 44) ≡ false → arguments_of file 0 tokens ≡ Some ([], tokens)
arguments_of-end file [] over = refl
arguments_of-end file (first ∷ tokens) over =
    let mark : is_mark 44 first.token ≡ false = sym (is_mark-some 44 tokens first _ refl) ∙ over in
    rw mark refl

-- one argument more
pub after_arguments-push : (found : List (Arg Name)) (arg : Arg Name) (read : Option Arguments) → option_map (after_arguments found) (option_map (with_argument arg) read) ≡ option_map (after_arguments (found ++ arg ∷ [])) read
after_arguments-push found arg None = refl
after_arguments-push found arg (Some read) =
    ap (λ (args : List (Arg Name)). Some (args, read.1)) (sym (append_assoc found (arg ∷ []) read.0))

-- an argument and its comma take tokens
pub arguments-shorter : (tokens : List Spanned) (count : ℕ) → is_some (mark_at tokens 0 44) ≡ true → length (drop count (drop 1 tokens)) < length tokens
unfolding mark_at is_mark_at
arguments-shorter [] count comma = absurd (false≢true comma)
arguments-shorter (first ∷ tokens) count comma = omega (arith, length-drop count tokens)

pub after_arguments-end : (found : List (Arg Name)) (tokens : List Spanned) → option_map (after_arguments found) (Some ([], tokens)) ≡ Some (found, tokens)
after_arguments-end found tokens = ap (λ (args : List (Arg Name)). Some (args, tokens)) (append-nil found)

-- a text at the front is a text of the file
pub front-IsText : (file : List ℕ) (tokens : List Spanned) (default : Spanned) → All (IsTextOf file) tokens → nat_eq (length tokens) 0 ≡ false → (get_or tokens 0 default).token ≡ token.Text → IsText file (span_of (get_or tokens 0 default))
unfolding IsTextOf
front-IsText file [] default h some text = absurd (false≢true (sym some))
front-IsText file (first ∷ tokens) default h some text =
    All-head (λ found. found.token ≡ token.Text → IsText file (span_of found)) first tokens h text
