-- What our own dumps are: a header, and after it times, sections and changes.
use Rattle.std.specs.Prelude.{◌≡◌, ℕ, ◌<◌, ◌≤◌, ◌^◌, ◌≤ℤ◌, ℤ, pos, negsuc, Bool, true, not, ◌&&◌, ◌==◌, List, [], ◌∷◌, ◌++◌, length, map, All}
use Rattle.std.specs.List.{flat_map, list_all}
use Rattle.four_state.specs.declared.bits.Bit.{Bit}
use Rattle.vcd_read.specs.Words.{is_printable, is_end}
use Rattle.vcd_write.specs.declared.types.DumpItem.{DumpItem}
use Rattle.vcd_write.specs.declared.types.DumpScope.{DumpScope}
use Rattle.vcd_write.specs.declared.types.Section.{Section}
use Rattle.vcd_write.specs.Header.{header_text, size, AreNested}
use Rattle.vcd_write.specs.Section.{time_text, section_text, lines_of}

-- a name that a dump can hold: one or more bytes from `!` to `~`, and not `$end`
abbrev pub is_plain : List ℕ → Bool
is_plain name = not (length name == 0) && (list_all is_printable name && not (is_end name))

-- what may stand after the header
pub data Part : Type 0 where
  -- the line of a time
  Time : ℕ → Part
  -- a section of all values
  Values : Section → List (List Bit) → Part
  -- the lines of the items at these places, by these values
  Lines : List (List Bit) → List ℕ → Part

abbrev pub part_text : Part → List ℕ
part_text (Time time) = time_text time
part_text (Values kind values) = section_text kind values
part_text (Lines values places) = lines_of values places

abbrev pub parts_text : List Part → List ℕ
parts_text parts = flat_map part_text parts

-- A time isn't below the last one. Values are as wide as their items, and places are those of items.
abbrev pub AreParts : List DumpItem → ℕ → List Part → Type 0
AreParts items now [] = Unit {0}
AreParts items now (Time time ∷ parts) = (now ≤ time) × (time < 2 ^ 64) × AreParts items time parts
AreParts items now (Values kind values ∷ parts) = (map length values ≡ map size items) × AreParts items now parts
AreParts items now (Lines values places ∷ parts) = (map length values ≡ map size items) × All (λ place. place < length items) places × AreParts items now parts

-- what a dump needs of its scopes and items, as `Dump::start` does, and that their names are plain
pub record IsHead (power : ℤ) (scopes : List DumpScope) (items : List DumpItem) : Type 0 where
  pub least : negsuc 14 ≤ℤ power
  pub most : power ≤ℤ pos 2
  pub nested : AreNested 0 scopes
  pub inside : All (λ item. item.scope < length scopes) items
  pub few : length items ≤ 1048576
  pub sizes : All (λ item. size item ≤ 128) items
  pub scope_names : All (λ scope. is_plain scope.name ≡ true) scopes
  pub item_names : All (λ item. is_plain item.name ≡ true) items

-- a dump of such scopes and items
pub record IsOwn (text : List ℕ) : Type 0 where
  pub power : ℤ
  pub scopes : List DumpScope
  pub items : List DumpItem
  pub parts : List Part
  pub head : IsHead power scopes items
  pub follow : AreParts items 0 parts
  pub spelled : text ≡ header_text power scopes items ++ parts_text parts

-- the time after these parts
abbrev pub last_time : ℕ → List Part → ℕ
last_time now [] = now
last_time now (Time time ∷ parts) = last_time time parts
last_time now (Values kind values ∷ parts) = last_time now parts
last_time now (Lines values places ∷ parts) = last_time now parts

-- a dump of these scopes and items, as it stands at a time: what may follow is of this time or a later one
pub record IsDumpTo (power : ℤ) (scopes : List DumpScope) (items : List DumpItem) (now : ℕ) (text : List ℕ) : Type 0 where
  pub parts : List Part
  pub head : IsHead power scopes items
  pub follow : AreParts items 0 parts
  pub onward : last_time 0 parts ≤ now
  pub spelled : text ≡ header_text power scopes items ++ parts_text parts
