-- What words and parts of words stand for.
use Rattle.std.specs.Prelude.{ℕ, Bool, ◌||◌, ◌-◌, ℤ, pos, negsuc, List, [], ◌∷◌, ◌++◌, length, map, replicate, reverse, codes, position, Option, None, Some, if◌then◌else◌}
use Rattle.std.specs.List.{flat_map}
use Rattle.std.specs.Str.{bytes_eq}
use Rattle.four_state.specs.declared.bits.Bit.{Bit}
use Rattle.four_state.specs.declared.bits.Bit.TheVariants.{Zero, One, Unknown, HighZ}
use Rattle.four_state.specs.Vector.{top_bit}
use Rattle.vvp_lex.specs.Vector.{bit_of}

-- the power of ten that the number of a time scale is (IEEE 1364-2005, 18.2.3.5)
abbrev pub number_power : List ℕ → Option ℕ
number_power word =
    if bytes_eq word (codes "1") then Some 0
    else (if bytes_eq word (codes "10") then Some 1
    else (if bytes_eq word (codes "100") then Some 2
    else None))

-- the power of ten seconds that a unit of time is
abbrev pub unit_power : List ℕ → Option ℤ
unit_power word =
    if bytes_eq word (codes "s") then Some (pos 0)
    else (if bytes_eq word (codes "ms") then Some (negsuc 2)
    else (if bytes_eq word (codes "us") then Some (negsuc 5)
    else (if bytes_eq word (codes "ns") then Some (negsuc 8)
    else (if bytes_eq word (codes "ps") then Some (negsuc 11)
    else (if bytes_eq word (codes "fs") then Some (negsuc 14)
    else None)))))

-- the names of the open scopes and a name, joined by `.` (its code is 46)
abbrev pub path_of : List (List ℕ) → List ℕ → List ℕ
path_of scopes name = flat_map (λ scope. scope ++ 46 ∷ []) scopes ++ name

-- the number of the net with a code
abbrev pub net_of : List (List ℕ) → List ℕ → Option ℕ
net_of nets code = position (bytes_eq code) nets

-- the bits that bytes write (IEEE 1364-2005, 18.2.2): the highest place first, where a value has the lowest first
abbrev pub bits_of : List ℕ → List Bit
bits_of bytes = reverse (map bit_of bytes)

-- what extends a value on the left: 0 where its highest bit is 0 or 1, x where it is x, z where z (IEEE 1364-2005, table 18-1)
abbrev pub extension_of : Bit → Bit
extension_of Zero = Zero
extension_of One = Zero
extension_of Unknown = Unknown
extension_of HighZ = HighZ

-- a value extended to a width
unfoldable pub extended : List Bit → ℕ → List Bit
extended bits width = bits ++ replicate (width - length bits) (extension_of (top_bit bits))

-- the words that open a section of the body
abbrev pub is_section : List ℕ → Bool
is_section word =
    bytes_eq word (codes "$dumpvars") || bytes_eq word (codes "$dumpoff")
    || bytes_eq word (codes "$dumpon") || bytes_eq word (codes "$dumpall")

-- the commands of the header that hold any words
abbrev pub is_remark : List ℕ → Bool
is_remark word =
    bytes_eq word (codes "$date") || bytes_eq word (codes "$version") || bytes_eq word (codes "$comment")

-- the kinds of variables that a trace has no values of
abbrev pub is_real : List ℕ → Bool
is_real word = bytes_eq word (codes "real") || bytes_eq word (codes "realtime")
