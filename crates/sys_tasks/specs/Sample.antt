-- A small program that the tests run: a scope of a thousand ticks a unit, a variable of one bit and one of four.
use Rattle.std.specs.Prelude.{ℕ, zero, suc, pos, negsuc, false, List, [], ◌∷◌, codes}
use Rattle.four_state.specs.declared.bits.Bit.{Bit}
use Rattle.vvp_forms.specs.declared.form.ScopeKind.TheVariants.{Module}
use Rattle.sym_link.specs.declared.program.Item.{Item}
use Rattle.sym_link.specs.declared.program.ItemKind.TheVariants as kind
use Rattle.sym_link.specs.declared.program.Program.{Program}
use Rattle.sym_link.specs.declared.program.ScopeRow.{ScopeRow}
use Rattle.sym_link.specs.declared.program.TheConstants.{NONE}
use Rattle.sys_tasks.specs.Design.{Design, design_of}

abbrev pub scope_item : Item
scope_item = record { name = codes "tb"; starred = false; scope = NONE; msb = pos 0; lsb = pos 0; signed = false; width = 0; what = kind.Scope 0 }

abbrev pub bit_item : Item
bit_item = record { name = codes "a"; starred = false; scope = 0; msb = pos 0; lsb = pos 0; signed = false; width = 1; what = kind.Var false }

abbrev pub vector_item : Item
vector_item = record { name = codes "v"; starred = false; scope = 0; msb = pos 3; lsb = pos 0; signed = false; width = 4; what = kind.Var false }

abbrev pub sample_row : ScopeRow
sample_row = record { name = codes "tb"; kind = Module; parent = NONE; scale = 1000 }

abbrev pub sample : Program
sample = record { items = scope_item ∷ bit_item ∷ vector_item ∷ []; code = []; code_scopes = []; scopes = sample_row ∷ []; threads = []; precision = negsuc 11 }

unfoldable pub sample_design : Design
sample_design = design_of sample

-- the words of each item, by the values of the variables
unfoldable pub sample_words : List Bit → List Bit → ℕ → List (List Bit)
sample_words bit vector zero = []
sample_words bit vector (suc zero) = bit ∷ []
sample_words bit vector (suc (suc zero)) = vector ∷ []
sample_words bit vector (suc (suc (suc item))) = []
