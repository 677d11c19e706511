-- Tables of words in which no word stands twice: each row is found by its word, and what is found is a row with the word.
use Rattle.std.proofs.Common.{◌≡◌, ℕ, zero, suc, ◌<◌, Bool, true, false, ◌&&◌, not, List, [], ◌∷◌, length, get_or, Option, None, Some, refl, sym, ap, ◌∙◌, subst, if◌then◌else◌, arith}
use Rattle.std.specs.List.{Contains}
use Rattle.std.specs.Str.{bytes_eq}
use Rattle.std.proofs.lemmas.Bool.{not-true, and_parts}
use Rattle.std.proofs.lemmas.Slice.Eq.{bytes_eq-Decides}
use Rattle.vvp_lex.specs.Words.{looked_up}
use Rattle.vvp_lex.proofs.FrontLemmas.{some_inj}

-- no row of a table has this word
abbrev pub no_row : {A : Type 0} → List ℕ → List (List ℕ × A) → Bool
no_row word [] = true
no_row word (row ∷ more) = not (bytes_eq word row.0) && no_row word more

-- no two rows of a table have one word
abbrev pub are_distinct : {A : Type 0} → List (List ℕ × A) → Bool
are_distinct [] = true
are_distinct (row ∷ more) = no_row row.0 more && are_distinct more

bytes_eq-refl : (word : List ℕ) → bytes_eq word word ≡ true
bytes_eq-refl word = (bytes_eq-Decides word word).1 refl

no_row-at : {A : Type 0} (word : List ℕ) (table : List (List ℕ × A)) (k : ℕ) (default : List ℕ × A) → no_row word table ≡ true → k < length table → bytes_eq word (get_or table k default).0 ≡ false
no_row-at word [] k default h lt = absurd (omega arith)
no_row-at word (row ∷ more) zero default h lt = not-true _ (and_parts _ _ h).0
no_row-at word (row ∷ more) (suc k) default h lt = no_row-at word more k default (and_parts _ _ h).1 (omega arith)

looked_up-at : {A : Type 0} (table : List (List ℕ × A)) (k : ℕ) (default : List ℕ × A) → are_distinct table ≡ true → k < length table → looked_up table (get_or table k default).0 ≡ Some (get_or table k default).1
looked_up-at [] k default h lt = absurd (omega arith)
looked_up-at (row ∷ more) zero default h lt = rw (bytes_eq-refl row.0) refl
looked_up-at (row ∷ more) (suc k) default h lt =
    rw (no_row-at row.0 more k default (and_parts _ _ h).0 (omega arith)) (looked_up-at more k default (and_parts _ _ h).1 (omega arith))

-- in a table with no word twice, each row is found by its word
pub looked_up-contains : {A : Type 0} (table : List (List ℕ × A)) (row : List ℕ × A) → are_distinct table ≡ true → Contains table row → looked_up table row.0 ≡ Some row.1
looked_up-contains {A} table row h at =
    let P : List ℕ × A → Type 0 = λ r. looked_up table r.0 ≡ Some r.1 in
    subst P at.2 (looked_up-at table at.0 row h at.1)

-- a row of a table with this word says this of it
abbrev pub Says : {A : Type 0} → List (List ℕ × A) → List ℕ → A → Type 0
Says {A} table word found = (row : List ℕ × A) × Contains table row × (row.0 ≡ word) × (row.1 ≡ found)

-- what is found is said by a row of the table
pub looked_up-found : {A : Type 0} (table : List (List ℕ × A)) (word : List ℕ) (found : A) → looked_up table word ≡ Some found → Says table word found
looked_up-found [] word found h = absurd (cc)
looked_up-found {A} (first ∷ more) word found h =
    by (bytes_eq first.0 word) refl (λ is. looked_up-found more word found is) h
  where
    deeper : Says more word found → Says (first ∷ more) word found
    deeper s = (s.0, (suc s.1.0, omega (arith, s.1.1), s.1.2), s.2, s.3)

    by : (same : Bool) → bytes_eq first.0 word ≡ same → (looked_up more word ≡ Some found → Says more word found) → (if same then Some first.1 else looked_up more word) ≡ Some found → Says (first ∷ more) word found
    by true e later is =
        (first, (0, omega arith, refl), (bytes_eq-Decides first.0 word).0 e, some_inj first.1 found is)
    by false e later is = deeper (later is)
