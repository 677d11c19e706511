-- What holds of a reader between two words.
use Rattle.std.specs.Prelude.{◌≡◌, ℕ, ◌<◌, ◌≤◌, List, length, slice_get, Some, All}
use Rattle.vcd_read.specs.declared.types.VcdVar.{VcdVar}
use Rattle.vcd_read.specs.declared.types.Change.{Change}
use Rattle.vcd_read.specs.declared.types.Trace.{Trace}
use Rattle.vcd_read.specs.declared.header.Wanted.{Wanted}
use Rattle.vcd_read.specs.declared.header.Wanted.TheVariants.{ScaleUnit, VarCode, VarName}
use Rattle.vcd_read.specs.declared.reader.Reader.{Reader}

-- variables and values of nets of these widths: each net is there, and each value is as wide as its net
pub record AreOfNets (widths : List ℕ) (vars : List VcdVar) (changes : List Change) : Type 0 where
  pub least : All (λ width. 1 ≤ width) widths
  pub most : All (λ width. width ≤ 128) widths
  pub named : All (λ var. var.net < length widths) vars
  pub as_wide : All (λ change. slice_get widths change.net ≡ Some (length change.value)) changes

-- such a trace, of at most so many variables
pub record IsTrace (most : ℕ) (trace : Trace) : Type 0 where
  pub few_vars : length trace.vars ≤ most
  pub of_nets : AreOfNets trace.widths trace.vars trace.changes

-- what is known of what is wanted next
abbrev pub IsRight : Wanted → List ℕ → Type 0
IsRight (ScaleUnit power) widths = power ≤ 2
IsRight (VarCode width) widths = (1 ≤ width) × (width ≤ 128)
IsRight (VarName net) widths = net < length widths
IsRight _ widths = Unit {0}

-- after at most so many words
pub record IsSound (words : ℕ) (reader : Reader) : Type 0 where
  pub wanted : IsRight reader.wanted reader.header.widths
  pub same : length reader.header.nets ≡ length reader.header.widths
  pub few_nets : length reader.header.widths ≤ words
  pub few_vars : length reader.header.vars ≤ words
  pub of_nets : AreOfNets reader.header.widths reader.header.vars reader.body.changes
