-- The types of what the grammar knows of a header and of a body. The reader doesn't export their names, so they are taken from its relations.
use Rattle.std.specs.Prelude.{ℕ, List, [], pos}
use Rattle.vcd_read.specs.Grammar.{IsCommand, changed}

abbrev related : {A : Type 0} → (List (List ℕ) → A → A → Type 0) → Type 0
related {A} relation = A

abbrev result_of : {A B C D : Type 0} → (A → B → C → D) → Type 0
result_of {D = D} f = D

abbrev pub Header : Type 0
Header = related IsCommand

abbrev pub Body : Type 0
Body = result_of changed

-- what is known before the first command
abbrev pub no_commands : Header
no_commands = record { power = pos 0; scopes = []; nets = []; widths = []; vars = [] }
