-- The grammar of dumps (IEEE 1364-2005, 18.2), as a relation between the words of a file and its trace. How a file is read is said
-- apart.
use Rattle.std.specs.Prelude.{◌≡◌, ℕ, ◌^◌, ◌<◌, ◌≤◌, ℤ, pos, ◌+ℤ◌, true, false, List, [], ◌∷◌, ◌++◌, length, map, codes, ◌⊎◌, None, Some, slice_get, All}
use Rattle.std.specs.List.{flat_map, list_all}
use Rattle.std.specs.Str.Parse.{digits_value}
use Rattle.four_state.specs.declared.bits.Bit.{Bit}
use Rattle.vvp_lex.specs.Token.{is_bit}
use Rattle.vcd_read.specs.declared.types.Trace.{Trace}
use Rattle.vcd_read.specs.declared.header.Header.{Header}
use Rattle.vcd_read.specs.declared.body.Body.{Body}
use Rattle.vcd_read.specs.Words.{spots_of, is_word, is_end, is_number}
use Rattle.vvp_lex.specs.Vector.{bit_of}
use Rattle.vcd_read.specs.Parts.{number_power, unit_power, path_of, net_of, bits_of, extended, is_section, is_remark, is_real}

abbrev pub Word : Type 0
Word = List ℕ

-- ---- the header: what a command declares, whose words up to its `$end` these are
-- `$date`, `$version` or `$comment`, and any words
pub record IsRemark (words : List Word) (before after : Header) : Type 0 where
  pub command : Word
  pub more : List Word
  pub spelled : words ≡ command ∷ more
  pub begins : is_remark command ≡ true
  pub same : after ≡ before

-- `$timescale`, and 1, 10 or 100 and a unit, as one word or two
pub record IsScale (words : List Word) (before after : Header) : Type 0 where
  pub number : Word
  pub of_unit : Word
  pub power : ℕ
  pub unit : ℤ
  pub spelled : (words ≡ codes "$timescale" ∷ number ∷ of_unit ∷ []) ⊎ (words ≡ codes "$timescale" ∷ (number ++ of_unit) ∷ [])
  pub number_is : number_power number ≡ Some power
  pub unit_is : unit_power of_unit ≡ Some unit
  pub holds : after ≡ record before { power = pos power +ℤ unit }

-- `$scope`, a kind and a name
pub record IsScope (words : List Word) (before after : Header) : Type 0 where
  pub kind : Word
  pub name : Word
  pub spelled : words ≡ codes "$scope" ∷ kind ∷ name ∷ []
  pub opens : after ≡ record before { scopes = before.scopes ++ name ∷ [] }

-- `$upscope`, in an open scope
pub record IsUpscope (words : List Word) (before after : Header) : Type 0 where
  pub innermost : Word
  pub spelled : words ≡ codes "$upscope" ∷ []
  pub closes : before ≡ record after { scopes = after.scopes ++ innermost ∷ [] }

-- a code of a width names a net: the next one, or one that has this code already and this width
pub record NamesNet (code : Word) (width net : ℕ) (before after : Header) : Type 0 where
  pub names :
      ((net_of before.nets code ≡ None) × (net ≡ length before.widths) × (after ≡ record before { nets = before.nets ++ code ∷ []; widths = before.widths ++ width ∷ [] }))
      ⊎ ((net_of before.nets code ≡ Some net) × (slice_get before.widths net ≡ Some width) × (after ≡ before))

-- `$var`, a kind, a width from 1 to 128, a code, a name and any words
pub record IsVar (words : List Word) (before after : Header) : Type 0 where
  pub kind : Word
  pub width : Word
  pub code : Word
  pub name : Word
  pub more : List Word
  pub net : ℕ
  pub middle : Header
  pub spelled : words ≡ codes "$var" ∷ kind ∷ width ∷ code ∷ name ∷ more
  pub has_values : is_real kind ≡ false
  pub digits : is_number width ≡ true
  pub least : 1 ≤ digits_value 10 width
  pub most : digits_value 10 width ≤ 128
  pub names : NamesNet code (digits_value 10 width) net before middle
  pub declares : after ≡ record middle { vars = middle.vars ++ record { path = path_of middle.scopes name; net = net } ∷ [] }

abbrev pub IsCommand : List Word → Header → Header → Type 0
IsCommand words before after =
    IsRemark words before after ⊎ (IsScale words before after ⊎ (IsScope words before after ⊎ (IsUpscope words before after ⊎ IsVar words before after)))

-- commands, in order
abbrev pub AreCommands : List (List Word) → Header → Header → Type 0
AreCommands [] before after = after ≡ before
AreCommands (words ∷ commands) before after =
    All (λ word. is_end word ≡ false) words × (middle : Header) × IsCommand words before middle × AreCommands commands middle after

-- ---- the body: what an entry says
-- `#` (its code is 35) and a number below 2 ^ 64, which isn't below the last time
pub record IsTime (words : List Word) (before after : Body) : Type 0 where
  pub digits : Word
  pub spelled : words ≡ (35 ∷ digits) ∷ []
  pub number : is_number digits ≡ true
  pub fits : digits_value 10 digits < 2 ^ 64
  pub onward : before.time ≤ digits_value 10 digits
  pub says : after ≡ record before { time = digits_value 10 digits }

-- a section's word, where none is open
pub record Opens (words : List Word) (before after : Body) : Type 0 where
  pub word : Word
  pub spelled : words ≡ word ∷ []
  pub begins : is_section word ≡ true
  pub closed : before.is_open ≡ false
  pub says : after ≡ record before { is_open = true }

-- its `$end`
pub record Closes (words : List Word) (before after : Body) : Type 0 where
  pub spelled : words ≡ codes "$end" ∷ []
  pub opened : before.is_open ≡ true
  pub says : after ≡ record before { is_open = false }

-- `$comment`, any words and `$end`
pub record IsComment (words : List Word) (before after : Body) : Type 0 where
  pub text : List Word
  pub spelled : words ≡ codes "$comment" ∷ (text ++ codes "$end" ∷ [])
  pub inside : All (λ word. is_end word ≡ false) text
  pub same : after ≡ before

abbrev pub changed : Body → ℕ → List Bit → Body
changed body net value = record body { changes = body.changes ++ record { time = body.time; net = net; value = value } ∷ [] }

-- a bit, and at once the code of a net of one place
pub record IsScalar (header : Header) (words : List Word) (before after : Body) : Type 0 where
  pub bit : ℕ
  pub code : Word
  pub net : ℕ
  pub spelled : words ≡ (bit ∷ code) ∷ []
  pub some : 1 ≤ length code
  pub writes : is_bit bit ≡ true
  pub names : net_of header.nets code ≡ Some net
  pub width : slice_get header.widths net ≡ Some 1
  pub says : after ≡ changed before net (bit_of bit ∷ [])

-- `b` or `B` (their codes are 98 and 66), 1 to 128 bits and no more than the net's places; then the net's code, as a word
pub record IsVector (header : Header) (words : List Word) (before after : Body) : Type 0 where
  pub letter : ℕ
  pub bits : Word
  pub code : Word
  pub net : ℕ
  pub width : ℕ
  pub spelled : words ≡ (letter ∷ bits) ∷ code ∷ []
  pub begins : (letter ≡ 98) ⊎ (letter ≡ 66)
  pub some : 1 ≤ length bits
  pub few : length bits ≤ 128
  pub all_bits : list_all is_bit bits ≡ true
  pub names : net_of header.nets code ≡ Some net
  pub has_width : slice_get header.widths net ≡ Some width
  pub fits : length bits ≤ width
  pub says : after ≡ changed before net (extended (bits_of bits) width)

abbrev pub IsEntry : Header → List Word → Body → Body → Type 0
IsEntry header words before after =
    IsTime words before after ⊎ (Opens words before after ⊎ (Closes words before after ⊎ (IsComment words before after ⊎ (IsScalar header words before after ⊎ IsVector header words before after))))

-- entries, in order
abbrev pub AreEntries : Header → List (List Word) → Body → Body → Type 0
AreEntries header [] before after = after ≡ before
AreEntries header (words ∷ entries) before after =
    (middle : Body) × IsEntry header words before middle × AreEntries header entries middle after

-- ---- a file
abbrev pub ended : List Word → List Word
ended words = words ++ codes "$end" ∷ []

-- A header of commands, each ended by `$end`, the last of them `$enddefinitions`; and a body of entries, with no section open at its
-- end. At first the power and the time are 0.
pub record AreOfTrace (words : List Word) (trace : Trace) : Type 0 where
  pub commands : List (List Word)
  pub entries : List (List Word)
  pub header : Header
  pub body : Body
  pub spelled : words ≡ flat_map ended commands ++ (codes "$enddefinitions" ∷ codes "$end" ∷ flat_map (λ entry. entry) entries)
  pub heads : AreCommands commands (record { power = pos 0; scopes = []; nets = []; widths = []; vars = [] }) header
  pub says : AreEntries header entries (record { time = 0; is_open = false; changes = [] }) body
  pub closed : body.is_open ≡ false
  pub trace_is : trace ≡ record { power = header.power; widths = header.widths; vars = header.vars; changes = body.changes }

-- all bytes are those of words or white space, and the words are of this trace
pub record IsVcd (file : List ℕ) (trace : Trace) : Type 0 where
  pub words : All (λ spot. is_word spot.word ≡ true) (spots_of file)
  pub grammar : AreOfTrace (map (λ spot. spot.word) (spots_of file)) trace
