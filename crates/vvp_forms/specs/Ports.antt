-- Ports: what stands where a port does, and what a constant says there.
use Rattle.std.specs.Prelude.{ℕ, ◌-◌, ◌==◌, List, length, take, drop, Option, None, Some, slice_get, if◌then◌else◌}
use Rattle.vvp_lex.specs.declared.types.Spanned.{Spanned}
use Rattle.vvp_lex.specs.declared.types.Token.{Token}
use Rattle.vvp_lex.specs.declared.types.Token.TheVariants as token
use Rattle.vvp_lex.specs.declared.types.Name.{Name}
use Rattle.vvp_forms.specs.declared.form.Port.{Port}
use Rattle.vvp_forms.specs.declared.form.Port.TheVariants as port
use Rattle.vvp_lex.specs.Place.{◌>>=◌, span_of, bytes_of}
use Rattle.vvp_lex.specs.Vector.{vector_of}

-- what stands between `C4<` and `>`
abbrev pub between : List ℕ → List ℕ
between text = take (length (drop 3 text) - 1) (drop 3 text)

-- The port of a constant whose bits are written highest first. Without bits it is an unused port, and no token has more
-- than 128.
unfoldable pub constant_of : List ℕ → Option Port
constant_of bits = if length bits == 0 then Some port.Unused else (vector_of bits >>= λ value. Some (port.Fixed value))

-- a word, or a constant
abbrev pub port_in : List ℕ → Token → Name → Option Port
port_in file token.Word span = Some (port.Sym span)
port_in file token.Const span = constant_of (between (bytes_of file span))
port_in file _ span = None

unfoldable pub port_at : List ℕ → List Spanned → ℕ → Option Port
port_at file tokens place = slice_get tokens place >>= λ found. port_in file found.token (span_of found)
