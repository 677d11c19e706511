-- What the operands of a row have to be. The tests stand in the order in which they are made: bad operands before a vector
-- too wide.
use Rattle.std.specs.Prelude.{ℕ, ◌+◌, ℤ, pos, negsuc, ◌-ℤ◌, unsigned_abs, int_le, Bool, true, false, ◌&&◌, ◌==◌, nat_lt, List, Option, None, Some, Result, Ok, Err, if◌then◌else◌}
use Rattle.vvp_lex.specs.declared.types.Name.{Name}
use Rattle.vvp_lex.specs.declared.types.FormKind.{FormKind}
use Rattle.vvp_lex.specs.declared.types.FormKind.TheVariants as fault
use Rattle.vvp_forms.specs.declared.form.Range.{Range}
use Rattle.vvp_forms.specs.declared.form.Port.{Port}
use Rattle.vvp_forms.specs.declared.form.Port.TheVariants as port
use Rattle.vvp_lex.specs.Place.{bytes_of}

-- the first test that fails says the kind
infixl 10 ◌>>=◌
abbrev pub ◌>>=◌ : {A B : Type 0} → Result A FormKind → (A → Result B FormKind) → Result B FormKind
(Ok x) >>= next = next x
(Err kind) >>= next = Err kind

abbrev pub allowed : Bool → Result (Unit {0}) FormKind
allowed true = Ok tt
allowed false = Err fault.BadOperands

-- an operand that has to be there
abbrev pub needed : {A : Type 0} → Option A → Result A FormKind
needed None = Err fault.BadOperands
needed (Some value) = Ok value

-- the kind that a word of the file says
abbrev pub kind_needed : {A : Type 0} → (List ℕ → Option A) → List ℕ → Option Name → Result A FormKind
kind_needed kind_of file word = needed word >>= λ name. needed (kind_of (bytes_of file name))

abbrev pub is_used : Port → Bool
is_used port.Unused = false
is_used (port.Sym name) = true
is_used (port.Fixed bits) = true

abbrev pub is_symbol : Port → Bool
is_symbol port.Unused = false
is_symbol (port.Sym name) = true
is_symbol (port.Fixed bits) = false

-- a port that has to be there
abbrev pub used : Port → Result Port FormKind
used found = if is_used found then Ok found else Err fault.BadOperands

-- at most 128 bits
abbrev pub not_wide : ℕ → Result ℕ FormKind
not_wide bits = if nat_lt 128 bits then Err fault.VectorTooWide else Ok bits

-- 1 to 128 bits
abbrev pub width : ℕ → Result ℕ FormKind
width bits = if bits == 0 then Err fault.BadOperands else not_wide bits

-- the power of ten of a unit of time, -15 to 2
abbrev pub power : ℤ → Result ℤ FormKind
power value = if int_le (negsuc 14) value && int_le value (pos 2) then Ok value else Err fault.BadOperands

-- how many places there are from one to the other
abbrev pub places : ℤ → ℤ → ℕ
places msb lsb = unsigned_abs (msb -ℤ lsb) + 1

-- places of a vector
abbrev pub range : ℤ → ℤ → Result Range FormKind
range msb lsb = not_wide (places msb lsb) >>= λ _. Ok (record { msb = msb; lsb = lsb })
