-- How the values of items are written (IEEE 1364-2005, 18.2.2). A value is a list of bits, the lowest place first.
use Rattle.std.specs.Prelude.{◌≡◌, ℕ, ◌-◌, ◌≤◌, ◌==◌, if◌then◌else◌, List, ◌++◌, length, map, take, reverse, replicate, unwrap_or, codes}
use Rattle.std.specs.List.{find, range_with_len}
use Rattle.four_state.specs.declared.bits.Bit.{Bit}
use Rattle.four_state.specs.declared.bits.Bit.TheVariants.{Zero, One, Unknown, HighZ}
use Rattle.four_state.specs.Vector.{top_bit}
use Rattle.four_state.specs.Same.{is_same}
use Rattle.vcd_write.specs.Code.{code}

-- what extends a spelling on the left: 0 where it begins with 0 or 1, x where with x, z where with z
abbrev pub extension_of : Bit → Bit
extension_of Zero = Zero
extension_of One = Zero
extension_of Unknown = Unknown
extension_of HighZ = HighZ

-- a spelling, extended to a width
abbrev pub extended : List Bit → ℕ → List Bit
extended spelling width = spelling ++ replicate (width - length spelling) (extension_of (top_bit spelling))

-- a spelling of one place or more extends to the value
pub record Extends (spelling value : List Bit) : Type 0 where
  pub some : 1 ≤ length spelling
  pub whole : extended spelling (length value) ≡ value

-- and no shorter one does
pub record IsShortest (spelling value : List Bit) : Type 0 where
  pub extends : Extends spelling value
  pub least : (other : List Bit) → Extends other value → length spelling ≤ length other

-- the shortest spelling: of the value's lowest places, the first number of them that extends to it
unfoldable pub shortest : List Bit → List Bit
shortest value = unwrap_or (find (λ spelling. is_same (extended spelling (length value)) value) (map (λ n. take n value) (range_with_len 1 (length value)))) value

abbrev pub bit_code : Bit → ℕ
bit_code Zero = 48
bit_code One = 49
bit_code Unknown = 120
bit_code HighZ = 122

-- bits as they are written, the highest place first
abbrev pub spelled : List Bit → List ℕ
spelled bits = map bit_code (reverse bits)

-- what stands before the code: one bit is that bit, a vector is `b`, the shortest spelling and a space
unfoldable pub spelling_text : List Bit → List ℕ
spelling_text value = if length value == 1 then spelled value else codes "b" ++ (spelled (shortest value) ++ codes " ")

-- the line of a value of the item number k
unfoldable pub value_line : ℕ → List Bit → List ℕ
value_line k value = spelling_text value ++ (code k ++ codes "\n")
