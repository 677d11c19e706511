-- The calls of tasks and functions, the two opcodes whose operands are a list. The tokens are those after the word.
use Rattle.std.specs.Prelude.{ℕ, zero, suc, Bool, ◌||◌, ◌==◌, List, [], ◌∷◌, length, drop, codes, Option, None, Some, if◌then◌else◌}
use Rattle.std.specs.Option.{option_map}
use Rattle.std.specs.Str.{bytes_eq}
use Rattle.vvp_lex.specs.declared.types.Name.{Name}
use Rattle.vvp_lex.specs.declared.types.Spanned.{Spanned}
use Rattle.vvp_lex.specs.Unescaped.{text_of}
use Rattle.vvp_ops.specs.declared.args.Arg.{Arg}
use Rattle.vvp_ops.specs.declared.op.Op.{Op}
use Rattle.vvp_ops.specs.declared.op.Op.TheVariants as o
use Rattle.vvp_lex.specs.Place.{◌>>=◌, is_mark, number_at, text_at, mark_at}
use Rattle.vvp_ops.specs.Arguments.{argument_at, tokens_in}

-- the three words of a task call
unfoldable pub is_task : List ℕ → Bool
is_task word = bytes_eq word (codes "%vpi_call") || bytes_eq word (codes "%vpi_call/w") || bytes_eq word (codes "%vpi_call/i")

unfoldable pub is_function : List ℕ → Bool
is_function word = bytes_eq word (codes "%vpi_func")

-- arguments, and the tokens after them
abbrev pub Arguments : Type 0
Arguments = List (Arg Name) × List Spanned

abbrev pub with_argument : Arg Name → Arguments → Arguments
with_argument arg read = (arg ∷ read.0, read.1)

-- The arguments at the front, each after its comma, and the tokens after them. The first `passed` tokens are read
-- already.
abbrev pub arguments_of : List ℕ → ℕ → List Spanned → Option Arguments
arguments_of file passed [] = Some ([], [])
arguments_of file (suc passed) (first ∷ tokens) = arguments_of file passed tokens
arguments_of file zero (first ∷ tokens) =
    if is_mark 44 first.token then (argument_at file tokens >>= λ arg. option_map (with_argument arg) (arguments_of file (tokens_in arg) tokens))
    else Some ([], first ∷ tokens)

-- a 0 at a place
abbrev pub zero_at : List Spanned → ℕ → Option (Unit {0})
zero_at tokens place = number_at tokens place >>= λ value. if value == 0 then Some tt else None

-- `{n 0 0}` and nothing after it
unfoldable pub pops_of : List Spanned → Option ℕ
pops_of tokens = do
  _ ← mark_at tokens 0 123
  pops ← number_at tokens 1
  _ ← zero_at tokens 2
  _ ← zero_at tokens 3
  _ ← mark_at tokens 4 125
  if length tokens == 5 then Some pops else None

-- `n n t (, arg ..) {n 0 0}`
unfoldable pub task_of : List ℕ → List Spanned → Option (Op Name)
task_of file tokens = do
  number ← number_at tokens 0
  line ← number_at tokens 1
  name ← text_at tokens 2
  read ← arguments_of file 0 (drop 3 tokens)
  pops ← pops_of read.1
  Some (o.CallTask number line (text_of file name) read.0 pops)

-- `n n t w (, arg ..) {n 0 0}`
unfoldable pub function_of : List ℕ → List Spanned → Option (Op Name)
function_of file tokens = do
  number ← number_at tokens 0
  line ← number_at tokens 1
  name ← text_at tokens 2
  width ← number_at tokens 3
  read ← arguments_of file 0 (drop 4 tokens)
  pops ← pops_of read.1
  Some (o.CallFunction number line (text_of file name) width read.0 pops)
