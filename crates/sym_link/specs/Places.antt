-- The statements of a file by their places, counted from 0 in file order: labels, and what is counted before a place. `all` is
-- the list of the file's statements.
use Rattle.std.specs.Prelude.{ℕ, ◌+◌, Bool, true, false, List, [], ◌∷◌, take, count_by, slice_get, Option, Some, None, is_some, if◌then◌else◌}
use Rattle.std.specs.List.{list_any, sum_by}
use Rattle.std.specs.Option.{option_map, option_map_or}
use Rattle.std.specs.Str.{bytes_eq}
use Rattle.vvp_forms.specs.declared.form.Form.TheVariants as form
use Rattle.vvp_forms.specs.Checks.{places}
use Rattle.vvp_lex.specs.declared.types.Name.{Name}
use Rattle.vvp_lex.specs.Place.{◌>>=◌, bytes_of}
use Rattle.sym_link.specs.declared.labels.Counts.{Counts}
use Rattle.sym_link.specs.declared.placed.Placed.{Placed}
use Rattle.sym_link.specs.declared.placed.What.{What}
use Rattle.sym_link.specs.declared.placed.What.TheVariants as what
use Rattle.sym_link.specs.declared.sorts.Sort.{Sort}
use Rattle.sym_link.specs.declared.sorts.Sort.TheVariants as sort
use Rattle.sym_link.specs.Sorts.{is_item, is_signal, makes_current, sort_of}

-- Labels

abbrev pub label_is : List ℕ → List ℕ → Option Name → Bool
label_is file name None = false
label_is file name (Some label) = bytes_eq (bytes_of file label) name

-- the place of the first statement with this label, among those from a place on
abbrev pub place_from : List ℕ → ℕ → List Placed → List ℕ → Option ℕ
place_from file place [] name = None
place_from file place (s ∷ after) name = if label_is file name s.label then Some place else place_from file (place + 1) after name

-- the place of the statement with this label: the first one, where there are more
abbrev pub place_of : List ℕ → List Placed → List ℕ → Option ℕ
place_of file all name = place_from file 0 all name

abbrev pub symbol_place : List ℕ → List Placed → Name → Option ℕ
symbol_place file all symbol = place_of file all (bytes_of file symbol)

-- what the label of the statement at a place names
abbrev pub sort_at : List Placed → ℕ → Sort
sort_at all place = option_map_or (λ s. sort_of s.what) (slice_get all place) sort.Nothing

-- what a symbol names, where it is declared
abbrev pub symbol_sort : List ℕ → List Placed → Name → Option Sort
symbol_sort file all symbol = option_map (sort_at all) (symbol_place file all symbol)

-- Counts

abbrev pub is_item_statement : Placed → Bool
is_item_statement s = is_item (sort_of s.what) (is_some s.label)

abbrev pub is_opcode_what : What → Bool
is_opcode_what (what.Form f) = false
is_opcode_what (what.Op o) = true

abbrev pub is_opcode_statement : Placed → Bool
is_opcode_statement s = is_opcode_what s.what

abbrev pub is_scope_form : What → Bool
is_scope_form (what.Form (form.Scope kind name source_module source line within)) = true
is_scope_form _ = false

abbrev pub is_thread_form : What → Bool
is_thread_form (what.Form (form.Thread code start)) = true
is_thread_form _ = false

-- the words of an array: words count from the first one to the last one, either of which may be the greater
abbrev pub words_in : What → ℕ
words_in (what.Form (form.Array kind name first last range)) = places first last
words_in _ = 0

-- what is counted among statements
abbrev pub counts_of : List Placed → Counts
counts_of statements = record {
  items = count_by is_item_statement statements;
  opcodes = count_by is_opcode_statement statements;
  scopes = count_by (λ s. is_scope_form s.what) statements;
  starts = count_by (λ s. is_thread_form s.what) statements;
  words = sum_by (λ s. words_in s.what) statements;
  has_scope = list_any (λ s. makes_current s.what) statements;
}

-- the counts before a place: items, scopes and opcodes have these numbers, from 0 in file order
abbrev pub counts_before : List Placed → ℕ → Counts
counts_before all place = counts_of (take place all)

-- What symbols name

-- a code label names the address of the next opcode
abbrev pub symbol_code : List ℕ → List Placed → Name → ℕ
symbol_code file all symbol = option_map_or (λ place. (counts_before all place).opcodes) (symbol_place file all symbol) 0

abbrev pub symbol_item : List ℕ → List Placed → Name → ℕ
symbol_item file all symbol = option_map_or (λ place. (counts_before all place).items) (symbol_place file all symbol) 0

abbrev pub symbol_scope : List ℕ → List Placed → Name → ℕ
symbol_scope file all symbol = option_map_or (λ place. (counts_before all place).scopes) (symbol_place file all symbol) 0

-- the place of a variable, a net or a functor
abbrev pub signal_place : List ℕ → List Placed → Name → Option ℕ
signal_place file all symbol = symbol_place file all symbol >>= λ place. if is_signal (sort_at all place) then Some place else None
