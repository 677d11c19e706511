-- How the operands of a row and the arguments of a call are spelled, apart from how they are read. Each stands at the
-- front of `tokens`, with `rest` after it; in a record t1 is what stands after the first token, t2 after the second, and
-- so on. Marks are given by their codes: & is 38, the comma 44, < 60, > 62, { 123, } 125.
use Rattle.std.specs.Prelude.{◌≡◌, ℕ, ◌<◌, ◌≤◌, ◌^◌, Bool, false, true, List, [], ◌∷◌, ◌++◌, length, map, reverse, codes, ◌⊎◌}
use Rattle.std.specs.Char.{is_ascii_digit}
use Rattle.std.specs.List.{AllPass}
use Rattle.four_state.specs.declared.bits.Bit.{Bit}
use Rattle.vvp_lex.specs.declared.types.Name.{Name}
use Rattle.vvp_lex.specs.declared.types.Spanned.{Spanned}
use Rattle.vvp_lex.specs.declared.types.Token.TheVariants as token
use Rattle.vvp_lex.specs.Unescaped.{text_of}
use Rattle.vvp_ops.specs.declared.args.Arg.{Arg}
use Rattle.vvp_ops.specs.declared.args.Arg.TheVariants as a
use Rattle.vvp_ops.specs.declared.table.Kind.{Kind}
use Rattle.vvp_ops.specs.declared.table.Kind.TheVariants as k
use Rattle.vvp_ops.specs.declared.operand.Operand.{Operand}
use Rattle.vvp_ops.specs.declared.operand.Operand.TheVariants as operand
use Rattle.vvp_lex.specs.Place.{bytes_of, Begins, BeginsAt}
use Rattle.vvp_ops.specs.Tokens.{decimal}
use Rattle.vvp_lex.specs.Vector.{bit_of}

-- a word with these bytes
abbrev pub OneWord : List ℕ → List ℕ → List Spanned → List Spanned → Type 0
OneWord file text tokens rest = (name : Name) × BeginsAt token.Word name tokens rest × (bytes_of file name ≡ text)

-- a symbol
abbrev pub IsSymbol : List Spanned → List Spanned → Operand → Type 0
IsSymbol tokens rest found = (name : Name) × BeginsAt token.Word name tokens rest × (found ≡ operand.Symbol name)

-- a number
abbrev pub IsNumber : List Spanned → List Spanned → Operand → Type 0
IsNumber tokens rest found = (number : ℕ) × Begins (token.Number number) tokens rest × (found ≡ operand.Number number)

-- a number below a limit
abbrev pub IsBelow : ℕ → List Spanned → List Spanned → Operand → Type 0
IsBelow limit tokens rest found =
    (number : ℕ) × Begins (token.Number number) tokens rest × (number < limit) × (found ≡ operand.Half number)

-- an operand, by its kind
abbrev pub IsOperand : Kind → List Spanned → List Spanned → Operand → Type 0
IsOperand k.Absent tokens rest found = (tokens ≡ rest) × (found ≡ operand.Absent)
IsOperand k.Label tokens rest found = IsSymbol tokens rest found
IsOperand k.Variable tokens rest found = IsSymbol tokens rest found
IsOperand k.Array tokens rest found = IsSymbol tokens rest found
IsOperand k.Signal tokens rest found = IsSymbol tokens rest found
IsOperand k.Event tokens rest found = IsSymbol tokens rest found
IsOperand k.Scope tokens rest found = IsSymbol tokens rest found
IsOperand k.Register tokens rest found = IsNumber tokens rest found
IsOperand k.Flag tokens rest found = IsNumber tokens rest found
IsOperand k.Width tokens rest found = IsNumber tokens rest found
IsOperand k.Number tokens rest found = IsNumber tokens rest found
IsOperand k.Half tokens rest found = IsBelow (2 ^ 32) tokens rest found
IsOperand k.State tokens rest found = IsBelow 4 tokens rest found

-- a comma and an operand; nothing where there is no operand
abbrev pub IsNext : Kind → List Spanned → List Spanned → Operand → Type 0
IsNext k.Absent tokens rest found = (tokens ≡ rest) × (found ≡ operand.Absent)
IsNext kind tokens rest found =
    (after : List Spanned) × Begins (token.Punct 44) tokens after × IsOperand kind after rest found

-- the operands of a row, with commas between them and nothing after them
abbrev pub AreOperands : Kind × Kind × Kind → List Spanned → Operand × Operand × Operand → Type 0
AreOperands kinds tokens values =
    (second : List Spanned) × (third : List Spanned)
    × IsOperand kinds.0 tokens second values.0 × IsNext kinds.1 second third values.1 × IsNext kinds.2 third [] values.2

-- `$time`, `$stime` or `$simtime`
abbrev pub IsTimeWord : List ℕ → Type 0
IsTimeWord word = (word ≡ codes "$time") ⊎ ((word ≡ codes "$stime") ⊎ (word ≡ codes "$simtime"))

-- `uW`, or `sW` for a signed item: the width is written by digits
abbrev pub IsStackType : Bool → ℕ → List ℕ → Type 0
IsStackType false width word =
    (digits : List ℕ) × (word ≡ 117 ∷ digits) × (0 < length digits) × AllPass is_ascii_digit digits × (width ≡ decimal digits)
IsStackType true width word =
    (digits : List ℕ) × (word ≡ 115 ∷ digits) × (0 < length digits) × AllPass is_ascii_digit digits × (width ≡ decimal digits)

-- `S<n,vec4,uW>` or `S<n,vec4,sW>`
pub record IsStack (file : List ℕ) (tokens rest : List Spanned) (place width : ℕ) (signed : Bool) : Type 0 where
  pub t1 : List Spanned
  pub t2 : List Spanned
  pub t3 : List Spanned
  pub t4 : List Spanned
  pub t5 : List Spanned
  pub t6 : List Spanned
  pub t7 : List Spanned
  pub type : Name
  pub opens : OneWord file (codes "S") tokens t1
  pub less : Begins (token.Punct 60) t1 t2
  pub has_place : Begins (token.Number place) t2 t3
  pub comma : Begins (token.Punct 44) t3 t4
  pub vec4 : OneWord file (codes "vec4") t4 t5
  pub second_comma : Begins (token.Punct 44) t5 t6
  pub has_type : BeginsAt token.Word type t6 t7
  pub more : Begins (token.Punct 62) t7 rest
  pub means : IsStackType signed width (bytes_of file type)

-- `&A<m, n>`
pub record IsArrayWord (file : List ℕ) (tokens rest : List Spanned) (array : Name) (index : ℕ) : Type 0 where
  pub t1 : List Spanned
  pub t2 : List Spanned
  pub t3 : List Spanned
  pub t4 : List Spanned
  pub t5 : List Spanned
  pub t6 : List Spanned
  pub ampersand : Begins (token.Punct 38) tokens t1
  pub opens : OneWord file (codes "A") t1 t2
  pub less : Begins (token.Punct 60) t2 t3
  pub has_array : BeginsAt token.Word array t3 t4
  pub comma : Begins (token.Punct 44) t4 t5
  pub has_index : Begins (token.Number index) t5 t6
  pub more : Begins (token.Punct 62) t6 rest

-- `&PV<s, n, w>`
pub record IsPart (file : List ℕ) (tokens rest : List Spanned) (item : Name) (base width : ℕ) : Type 0 where
  pub t1 : List Spanned
  pub t2 : List Spanned
  pub t3 : List Spanned
  pub t4 : List Spanned
  pub t5 : List Spanned
  pub t6 : List Spanned
  pub t7 : List Spanned
  pub t8 : List Spanned
  pub ampersand : Begins (token.Punct 38) tokens t1
  pub opens : OneWord file (codes "PV") t1 t2
  pub less : Begins (token.Punct 60) t2 t3
  pub has_item : BeginsAt token.Word item t3 t4
  pub comma : Begins (token.Punct 44) t4 t5
  pub has_base : Begins (token.Number base) t5 t6
  pub second_comma : Begins (token.Punct 44) t6 t7
  pub has_width : Begins (token.Number width) t7 t8
  pub more : Begins (token.Punct 62) t8 rest

-- what stands between the size and the bits of a vector, and of a signed one
abbrev pub mark_of : Bool → List ℕ
mark_of false = codes "'b"
mark_of true = codes "'sb"

-- A vector: its size by digits, the mark, and 1 to 128 bits, highest first. The size is the number of the bits.
pub record IsVector (text : List ℕ) (value : List Bit) (signed : Bool) : Type 0 where
  pub size : List ℕ
  pub bits : List ℕ
  pub is : text ≡ size ++ (mark_of signed ++ bits)
  pub digits : AllPass is_ascii_digit size
  pub some : 0 < length bits
  pub few : length bits ≤ 128
  pub counted : decimal size ≡ length bits
  pub means : value ≡ reverse (map bit_of bits)

-- an argument, by its kind; a time word is no symbol
abbrev pub IsArgument : List ℕ → List Spanned → List Spanned → Arg Name → Type 0
IsArgument file tokens rest (a.Text bytes) =
    (name : Name) × BeginsAt token.Text name tokens rest × (bytes ≡ text_of file name)
IsArgument file tokens rest (a.Based value signed) =
    (name : Name) × BeginsAt token.Based name tokens rest × IsVector (bytes_of file name) value signed
IsArgument file tokens rest (a.Symbol name) = BeginsAt token.Word name tokens rest × ¬ IsTimeWord (bytes_of file name)
IsArgument file tokens rest a.Time = OneWord file (codes "$time") tokens rest
IsArgument file tokens rest a.ShortTime = OneWord file (codes "$stime") tokens rest
IsArgument file tokens rest a.SimTime = OneWord file (codes "$simtime") tokens rest
IsArgument file tokens rest (a.Stack place width signed) = IsStack file tokens rest place width signed
IsArgument file tokens rest (a.Word array index) = IsArrayWord file tokens rest array index
IsArgument file tokens rest (a.Part item base width) = IsPart file tokens rest item base width

-- `{n 0 0}` and nothing after it
pub record ArePops (tokens : List Spanned) (pops : ℕ) : Type 0 where
  pub t1 : List Spanned
  pub t2 : List Spanned
  pub t3 : List Spanned
  pub t4 : List Spanned
  pub opens : Begins (token.Punct 123) tokens t1
  pub has_pops : Begins (token.Number pops) t1 t2
  pub second : Begins (token.Number 0) t2 t3
  pub third : Begins (token.Number 0) t3 t4
  pub closes : Begins (token.Punct 125) t4 []

-- these arguments, each after a comma, and then the tokens `after`
abbrev pub AreArguments : List ℕ → List Spanned → List (Arg Name) → List Spanned → Type 0
AreArguments file tokens [] after = tokens ≡ after
AreArguments file tokens (arg ∷ args) after =
    (t1 : List Spanned) × (rest : List Spanned)
    × Begins (token.Punct 44) tokens t1 × IsArgument file t1 rest arg × AreArguments file rest args after

-- the words of a task call and of a function call
abbrev pub IsTaskWord : List ℕ → Type 0
IsTaskWord word = (word ≡ codes "%vpi_call") ⊎ ((word ≡ codes "%vpi_call/w") ⊎ (word ≡ codes "%vpi_call/i"))

abbrev pub IsFunctionWord : List ℕ → Type 0
IsFunctionWord word = word ≡ codes "%vpi_func"
