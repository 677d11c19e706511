-- How the values of a dump are kept: one of one place as its bit, and wider ones in a list of their own.
use Rattle.std.specs.Prelude.{◌≡◌, ℕ, ◌<◌, List, [], ◌∷◌, length, drop, slice_index_or, Option, None, Some}
use Rattle.four_state.specs.declared.bits.Bit.{Bit}
use Rattle.vcd_read.specs.declared.types.Change.{Change}
use Rattle.vcd_read.specs.declared.changes.Kept.{Kept}

-- the value that is kept so: a bit, or the next of the wide ones
abbrev pub value_of : Option Bit → List (List Bit) → List Bit
value_of (Some bit) wide = bit ∷ []
value_of None wide = slice_index_or wide 0 []

-- the wide ones after it
abbrev pub others : Option Bit → List (List Bit) → List (List Bit)
others (Some bit) wide = wide
others None wide = drop 1 wide

abbrev pub change_of : Kept → List Bit → Change
change_of kept value = record { time = kept.time; net = kept.net; value = value }

-- the values that are kept so, in order
abbrev pub changes_of : List Kept → List (List Bit) → List Change
changes_of [] wide = []
changes_of (kept ∷ later) wide = change_of kept (value_of kept.bit wide) ∷ changes_of later (others kept.bit wide)

-- a value without a bit is among the wide ones
abbrev pub IsThere : Option Bit → List (List Bit) → Type 0
IsThere (Some bit) wide = Unit {0}
IsThere None wide = 0 < length wide

-- there are just as many wide ones as values without a bit
abbrev pub AreEnough : List Kept → List (List Bit) → Type 0
AreEnough [] wide = wide ≡ []
AreEnough (kept ∷ later) wide = IsThere kept.bit wide × AreEnough later (others kept.bit wide)
