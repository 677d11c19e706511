-- The places of labels.
use Rattle.std.proofs.Common.{◌≡◌, ℕ, ◌+◌, ◌<◌, ◌≤◌, Bool, true, false, List, [], ◌∷◌, length, Some, sym, ap, ◌∙◌, arith, if◌then◌else◌}
use Rattle.std.specs.Option.{option_map_or}
use Rattle.vvp_lex.specs.declared.types.Name.{Name}
use Rattle.sym_link.specs.declared.labels.Counts.{Counts}
use Rattle.sym_link.specs.declared.placed.Placed.{Placed}
use Rattle.sym_link.specs.Places.{counts_before, label_is, place_from, symbol_code, symbol_item, symbol_place, symbol_scope}

from-within : (file : List ℕ) (start : ℕ) (all : List Placed) (name : List ℕ) (place : ℕ) → place_from file start all name ≡ Some place → place < start + length all
from-within file start [] name place is = absurd (cc)
from-within file start (s ∷ all) name place is = by (label_is file name s.label) is (from-within file (start + 1) all name place)
  where
    by : (b : Bool) → (if b then Some start else place_from file (start + 1) all name) ≡ Some place → (place_from file (start + 1) all name ≡ Some place → place < start + 1 + length all) → place < start + length (s ∷ all)
    by true is more = let same : start ≡ place = cc in omega (arith, same)
    by false is more = let later : place < start + 1 + length all = more is in omega (arith, later)

-- a label stands at a place of the file
pub place-within : (file : List ℕ) (all : List Placed) (symbol : Name) (place : ℕ) → Some place ≡ symbol_place file all symbol → place ≤ length all
place-within file all symbol place is =
    let less : place < 0 + length all = from-within file 0 all _ place (sym is) in omega (arith, less)

pub place-below : (file : List ℕ) (all : List Placed) (symbol : Name) (place : ℕ) → Some place ≡ symbol_place file all symbol → place < length all
place-below file all symbol place is =
    let less : place < 0 + length all = from-within file 0 all _ place (sym is) in omega (arith, less)

-- what is counted before the place of a label
pub code-found : (file : List ℕ) (all : List Placed) (symbol : Name) (place : ℕ) (counts : Counts) → Some place ≡ symbol_place file all symbol → (place ≤ length all → counts ≡ counts_before all place) → counts.opcodes ≡ symbol_code file all symbol
code-found file all symbol place counts is known =
    ap (λ (c : Counts). c.opcodes) (known (place-within file all symbol place is)) ∙ ap (λ o. option_map_or (λ p. (counts_before all p).opcodes) o 0) is

pub item-found : (file : List ℕ) (all : List Placed) (symbol : Name) (place : ℕ) (counts : Counts) → Some place ≡ symbol_place file all symbol → (place ≤ length all → counts ≡ counts_before all place) → counts.items ≡ symbol_item file all symbol
item-found file all symbol place counts is known =
    ap (λ (c : Counts). c.items) (known (place-within file all symbol place is)) ∙ ap (λ o. option_map_or (λ p. (counts_before all p).items) o 0) is

pub scope-found : (file : List ℕ) (all : List Placed) (symbol : Name) (place : ℕ) (counts : Counts) → Some place ≡ symbol_place file all symbol → (place ≤ length all → counts ≡ counts_before all place) → counts.scopes ≡ symbol_scope file all symbol
scope-found file all symbol place counts is known =
    ap (λ (c : Counts). c.scopes) (known (place-within file all symbol place is)) ∙ ap (λ o. option_map_or (λ p. (counts_before all p).scopes) o 0) is
