-- The arguments of a task call, as tokens spell them. `file` is the bytes of the file, and `tokens` begin with the
-- argument's first one. Marks are given by their codes: & is 38, the comma 44, < 60, > 62.
use Rattle.std.specs.Prelude.{ℕ, ◌+◌, Bool, true, false, not, ◌||◌, ◌&&◌, ◌==◌, nat_lt, List, length, take, drop, map, reverse, codes, Option, None, Some, is_some, slice_get, slice_index, if◌then◌else◌}
use Rattle.std.specs.List.{list_all, prefix_len}
use Rattle.std.specs.Char.{is_ascii_digit}
use Rattle.std.specs.Str.{bytes_eq}
use Rattle.vvp_lex.specs.declared.types.Name.{Name}
use Rattle.vvp_lex.specs.declared.types.Spanned.{Spanned}
use Rattle.vvp_lex.specs.declared.types.Token.{Token}
use Rattle.vvp_lex.specs.declared.types.Token.TheVariants as token
use Rattle.vvp_lex.specs.Unescaped.{text_of}
use Rattle.vvp_ops.specs.declared.args.Arg.{Arg}
use Rattle.vvp_ops.specs.declared.args.Arg.TheVariants as a
use Rattle.vvp_lex.specs.Place.{◌>>=◌, span_of, bytes_of, number_at, word_at, mark_at}
use Rattle.vvp_lex.specs.Vector.{vector_of}
use Rattle.vvp_ops.specs.Tokens.{decimal}

-- how many bytes stand between the size of `4'sb01xz` or `4'b01xz` and its bits
abbrev pub mark_len : Bool → ℕ
mark_len signed = if signed then 3 else 2

-- a vector whose size, its first `size` bytes, is the number of its bits
unfoldable pub sized_vector : List ℕ → ℕ → Bool → Option (Arg Name)
sized_vector text size signed = do
  value ← vector_of (drop (size + mark_len signed) text)
  if decimal (take size text) == length (drop (size + mark_len signed) text) then Some (a.Based value signed) else None

unfoldable pub based_argument : List ℕ → Option (Arg Name)
based_argument text =
    let size = prefix_len is_ascii_digit text in
    sized_vector text size (slice_index text (size + 1) == 115)

-- the sign and the width of `u8` or `s8`
unfoldable pub stack_type : List ℕ → Option (Bool × ℕ)
stack_type word =
    if not (nat_lt 0 (length (drop 1 word)) && list_all is_ascii_digit (drop 1 word)) then None
    else (if slice_index word 0 == 117 then Some (false, decimal (drop 1 word))
    else (if slice_index word 0 == 115 then Some (true, decimal (drop 1 word))
    else None))

-- `S<n,vec4,uW>` or `S<n,vec4,sW>`
unfoldable pub stack_argument : List ℕ → List Spanned → Option (Arg Name)
stack_argument file tokens = do
  _ ← mark_at tokens 1 60
  place ← number_at tokens 2
  _ ← mark_at tokens 3 44
  kind ← word_at tokens 4
  _ ← mark_at tokens 5 44
  type ← word_at tokens 6
  _ ← mark_at tokens 7 62
  read ← stack_type (bytes_of file type)
  if bytes_eq (bytes_of file kind) (codes "vec4") then Some (a.Stack place read.1 read.0) else None

-- `&A<m, n>`
unfoldable pub array_argument : List Spanned → Option (Arg Name)
array_argument tokens = do
  _ ← mark_at tokens 2 60
  array ← word_at tokens 3
  _ ← mark_at tokens 4 44
  index ← number_at tokens 5
  _ ← mark_at tokens 6 62
  Some (a.Word array index)

-- `&PV<s, n, w>`
unfoldable pub part_argument : List Spanned → Option (Arg Name)
part_argument tokens = do
  _ ← mark_at tokens 2 60
  item ← word_at tokens 3
  _ ← mark_at tokens 4 44
  base ← number_at tokens 5
  _ ← mark_at tokens 6 44
  width ← number_at tokens 7
  _ ← mark_at tokens 8 62
  Some (a.Part item base width)

-- what `&` and a word begin
unfoldable pub place_argument : List ℕ → List Spanned → Option (Arg Name)
place_argument file tokens = do
  word ← word_at tokens 1
  if bytes_eq (bytes_of file word) (codes "A") then array_argument tokens
      else (if bytes_eq (bytes_of file word) (codes "PV") then part_argument tokens
      else None)

-- whether a stack item begins: `S` and `<`
abbrev pub opens_stack : List ℕ → List Spanned → Bool
opens_stack word tokens = bytes_eq word (codes "S") && is_some (mark_at tokens 1 60)

-- a time word, a stack item or a symbol
unfoldable pub word_argument : List ℕ → List Spanned → Name → Option (Arg Name)
word_argument file tokens name =
    if bytes_eq (bytes_of file name) (codes "$time") then Some a.Time
    else (if bytes_eq (bytes_of file name) (codes "$stime") then Some a.ShortTime
    else (if bytes_eq (bytes_of file name) (codes "$simtime") then Some a.SimTime
    else (if opens_stack (bytes_of file name) tokens then stack_argument file tokens
    else Some (a.Symbol name))))

abbrev pub argument_as : Token → List ℕ → List Spanned → Name → Option (Arg Name)
argument_as token.Text file tokens span = Some (a.Text (text_of file span))
argument_as token.Based file tokens span = based_argument (bytes_of file span)
argument_as token.Word file tokens span = word_argument file tokens span
argument_as (token.Punct byte) file tokens span = if byte == 38 then place_argument file tokens else None
argument_as _ file tokens span = None

-- the argument that begins with the first token
unfoldable pub argument_at : List ℕ → List Spanned → Option (Arg Name)
argument_at file tokens = slice_get tokens 0 >>= λ first. argument_as first.token file tokens (span_of first)

-- how many tokens an argument is spelled by
abbrev pub tokens_in : {S : Type 0} → Arg S → ℕ
tokens_in (a.Stack _ _ _) = 8
tokens_in (a.Word _ _) = 7
tokens_in (a.Part _ _ _) = 9
tokens_in _ = 1
