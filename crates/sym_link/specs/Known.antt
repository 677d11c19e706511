-- What a file's labels and counts are kept as.
use Rattle.std.specs.Prelude.{◌≡◌, ℕ, ◌+◌, ◌*◌, ◌<◌, ◌≤◌, ◌^◌, ◌||◌, Bool, true, false, List, [], ◌∷◌, ◌++◌, length, slice_get, slice_index_or, Option, Some, None, is_some, if◌then◌else◌}
use Rattle.std.specs.Cmp.Lexicographic.{slice_cmp}
use Rattle.std.specs.List.Sorted.{IsPermutation, IsSorted}
use Rattle.std.specs.Option.{option_map_or}
use Rattle.std.specs.Ordering.{is_lt, nat_cmp, ordering_then}
use Rattle.std.specs.declared.cmp.Ordering.{Ordering}
use Rattle.vvp_lex.specs.declared.types.Name.{Name}
use Rattle.vvp_lex.specs.Place.{bytes_of}
use Rattle.sym_link.specs.declared.labels.Counts.{Counts}
use Rattle.sym_link.specs.declared.labels.File.{File}
use Rattle.sym_link.specs.declared.placed.Placed.{Placed}
use Rattle.sym_link.specs.Places.{counts_before, is_item_statement, is_opcode_what, is_scope_form, is_thread_form, words_in}
use Rattle.sym_link.specs.Sorts.{makes_current}

-- Counts

abbrev pub one_where : Bool → ℕ
one_where test = if test then 1 else 0

-- the counts with one more statement
abbrev pub counted : Counts → Placed → Counts
counted before s = record {
  items = before.items + one_where (is_item_statement s);
  opcodes = before.opcodes + one_where (is_opcode_what s.what);
  scopes = before.scopes + one_where (is_scope_form s.what);
  starts = before.starts + one_where (is_thread_form s.what);
  words = before.words + words_in s.what;
  has_scope = before.has_scope || makes_current s.what;
}

-- these are the counts before a place; an array has 2 ^ 32 words at most
pub record IsCounted (all : List Placed) (place : ℕ) (counts : Counts) : Type 0 where
  pub exact : counts ≡ counts_before all place
  pub words : counts.words ≤ 4294967296 * place

-- the counts before each eighth place are kept
abbrev pub AreKept : List Placed → List Counts → Type 0
AreKept all kept = (n : ℕ) → n * 8 ≤ length all → (counts : Counts) × (slice_get kept n ≡ Some counts) × IsCounted all (n * 8) counts

-- Labels

-- a place, where its statement has a label
abbrev pub labelled : ℕ → Option Name → List ℕ
labelled place label = if is_some label then place ∷ [] else []

-- the places of the statements with a label, in file order, of those from a place on
abbrev pub labelled_from : ℕ → List Placed → List ℕ
labelled_from place [] = []
labelled_from place (s ∷ after) = labelled place s.label ++ labelled_from (place + 1) after

abbrev pub labelled_places : List Placed → List ℕ
labelled_places all = labelled_from 0 all

abbrev pub label_bytes : List ℕ → Option Name → List ℕ
label_bytes file None = []
label_bytes file (Some label) = bytes_of file label

-- the label of the statement at a place, empty where it has none
abbrev pub label_at : List ℕ → List Placed → ℕ → List ℕ
label_at file all place = option_map_or (λ s. label_bytes file s.label) (slice_get all place) []

-- places go by their labels, and where these are equal by themselves
abbrev pub label_order : List ℕ → List Placed → ℕ → ℕ → Ordering
label_order file all first second = ordering_then (slice_cmp nat_cmp (label_at file all first) (label_at file all second)) (nat_cmp first second)

-- the places of the statements with a label, in that order
pub record IsIndex (file : List ℕ) (all : List Placed) (places : List ℕ) : Type 0 where
  pub same : IsPermutation (labelled_places all) places
  pub sorted : IsSorted (label_order file all) places

-- whether the label at a place comes before this one
abbrev pub is_before : List ℕ → List Placed → List ℕ → ℕ → Bool
is_before file all label place = is_lt (slice_cmp nat_cmp (label_at file all place) label)

-- the places before one in the list have a label that comes before this one, and those from it on have none
pub record IsFirstFrom (file : List ℕ) (all : List Placed) (places label : List ℕ) (at : ℕ) : Type 0 where
  pub before : (k d : ℕ) → k < at → is_before file all label (slice_index_or places k d) ≡ true
  pub after : (k d : ℕ) → at ≤ k → k < length places → is_before file all label (slice_index_or places k d) ≡ false

-- a file's statements are kept with the places of their labels in order, and the counts before each eighth place
pub record Knows (file : List ℕ) (all : List Placed) (kept : File) : Type 0 where
  pub source : kept.src.now ≡ file
  pub statements : kept.placed.now ≡ all
  pub few : length all ≤ 2 ^ 26
  pub names : IsIndex file all kept.names.items
  pub counts : AreKept all kept.counts.items
