-- The files of a store that lends one.
use Rattle.std.proofs.Common.{◌≡◌, ℕ, Bool, true, false, List, [], ◌∷◌, Option, Some, None, sym, ap, ◌∙◌}
use Rattle.std.specs.Prelude.{IfSome, is_some, if◌then◌else◌}
use Rattle.std.specs.Ordering.{nat_cmp}
use Rattle.std.specs.Cmp.Lexicographic.{slice_cmp}
use Rattle.std.specs.FinMap.{contains_key, get, get-empty}
use Rattle.vvp_edge.specs.Files.{Files}
use Rattle.vvp_edge.specs.MemoryStore.{files_in}
use Rattle.vvp_edge.proofs.FilesLemmas.{get-insert_other, get-insert_same}

-- where the files are told they are the one that is lent
pub told-only : (writing : Bool) (files : Files) (P : Files → Type 0) → P files → IfSome (let told : Option Files = if writing then None else Some files in told) P
told-only true files P fact = tt
told-only false files P fact = fact

pub lent-found : (name bytes q : List ℕ) → name ≡ q → get (files_in ((name, bytes) ∷ [])) q ≡ Some bytes
lent-found name bytes q same = ap (get (files_in ((name, bytes) ∷ []))) (sym same) ∙ get-insert_same (files_in []) name bytes

pub lent-absent : (name bytes q : List ℕ) → (name ≡ q → ⊥) → get (files_in ((name, bytes) ∷ [])) q ≡ None
lent-absent name bytes q other = get-insert_other (files_in []) name bytes q (λ same. other (sym same)) ∙ get-empty (slice_cmp nat_cmp) q

pub lent-has : (name bytes q : List ℕ) → name ≡ q → true ≡ contains_key (files_in ((name, bytes) ∷ [])) q
lent-has name bytes q same = sym (ap is_some (lent-found name bytes q same))

pub lent-lacks : (name bytes q : List ℕ) → (name ≡ q → ⊥) → false ≡ contains_key (files_in ((name, bytes) ∷ [])) q
lent-lacks name bytes q other = sym (ap is_some (lent-absent name bytes q other))
