-- The source that the words name.
use Rattle.std.proofs.Common.{◌≡◌, ℕ, ◌^◌, ◌<◌, Bool, true, false, List, length, Option, Some, None, refl, sym, ap, ◌∙◌}
use Rattle.std.specs.Prelude.{IfSome, is_some}
use Rattle.std.specs.FinMap as map
use Rattle.vvp_edge.specs.declared.store.TheConstants.{MOST_SOURCE}
use Rattle.vvp_edge.specs.Files.{Files}
use Rattle.vvp_words.specs.Entries.{Entries, Work}
use Rattle.vvp_words.specs.Entries as words
use Rattle.vvp_top.specs.declared.outcome.Outcome.TheVariants.{NoFile, Refused}
use Rattle.vvp_top.specs.declared.refusal.Why.TheVariants as why
use Rattle.vvp_top.specs.Whole.{activity_of_verdict, silent, whole_of_found, whole_of_verdict, whole_of_work}
use Rattle.vvp_top.proofs.VerdictLemmas.{most_source, verdict-large}
use Rattle.vvp_top.proofs.ReportLemmas.{dump-large}

none-of : {A : Type 0} (o : Option A) → is_some o ≡ false → o ≡ None
none-of None isnt = refl
none-of (Some x) isnt = absurd (let never : ⊥ = cc in never)

-- no file has the name
pub no-file : (files : Option Files) (name : List ℕ) (found : Bool) → found ≡ false → IfSome files (λ m. found ≡ map.contains_key m name)
    → IfSome files (λ m. (e : Entries) → whole_of_found e (map.get m name) ≡ silent NoFile)
no-file None name found isnt told = tt
no-file (Some m) name found isnt told = λ e. ap (whole_of_found e) (none-of (map.get m name) (sym told ∙ isnt))

-- what is read is the file, where the files are told
left-of : (reading : Option (List ℕ)) (m : Files) (name : List ℕ) (found : Bool) (P : List ℕ → Type 0) → found ≡ true → found ≡ map.contains_key m name → reading ≡ map.get m name → IfSome reading P
    → (left : List ℕ) × (map.get m name ≡ Some left) × P left
left-of (Some left) m name found P is has same holds = (left, sym same, holds)
left-of None m name found P is has same holds =
    absurd (let none : is_some (map.get m name) ≡ false = ap is_some (sym same) in let some : is_some (map.get m name) ≡ true = sym has ∙ is in let never : ⊥ = cc in never)

-- a source that is too large, whatever is to be done with it
work-large : (work : Work) (e : Entries) (bytes : List ℕ) (most : ℕ) → most ≡ 2 ^ 26 → most < length bytes → whole_of_work work e bytes ≡ silent (Refused 0 why.TooLarge)
work-large (words.File name) e bytes most is large = ap (whole_of_verdict e) (verdict-large bytes most is large)
work-large (words.Workload size) e bytes most is large = ap (whole_of_verdict e) (verdict-large bytes most is large)
work-large (words.Toggles name) e bytes most is large = dump-large bytes most is large
work-large (words.Activity name) e bytes most is large = ap (activity_of_verdict e) (verdict-large bytes most is large)

-- it has more bytes than a source may have
pub file-large : (files : Option Files) (reading : Option (List ℕ)) (name : List ℕ) (found : Bool) → found ≡ true → IfSome files (λ m. found ≡ map.contains_key m name)
    → IfSome files (λ m. reading ≡ map.get m name) → IfSome reading (λ left. MOST_SOURCE < length left)
    → IfSome files (λ m. (e : Entries) → whole_of_found e (map.get m name) ≡ silent (Refused 0 why.TooLarge))
file-large None reading name found is has same large = tt
file-large (Some m) reading name found is has same large = λ e.
    let left = left-of reading m name found (λ bytes. MOST_SOURCE < length bytes) is has same large in
    ap (whole_of_found e) left.1 ∙ work-large e.work e left.0 MOST_SOURCE most_source left.2

-- its bytes
pub file-read : (files : Option Files) (reading : Option (List ℕ)) (name bytes : List ℕ) (found : Bool) → found ≡ true → IfSome files (λ m. found ≡ map.contains_key m name)
    → IfSome files (λ m. reading ≡ map.get m name) → IfSome reading (λ left. bytes ≡ left) → IfSome files (λ m. map.get m name ≡ Some bytes)
file-read None reading name bytes found is has same read = tt
file-read (Some m) reading name bytes found is has same read =
    let left = left-of reading m name found (λ all. bytes ≡ all) is has same read in left.1 ∙ ap Some (sym left.2)
