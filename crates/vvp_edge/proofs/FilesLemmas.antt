-- Files that are made empty, and files that grow.
use Rattle.std.proofs.Common.{◌≡◌, ℕ, Bool, true, false, cond, List, [], ◌++◌, refl, sym, ap, ◌∙◌, append_assoc, append-nil}
use Rattle.std.specs.Prelude.{IsSome}
use Rattle.std.specs.declared.cmp.Ordering.{Ordering}
use Rattle.std.specs.declared.cmp.Ordering.TheVariants.{Less, Equal, Greater}
use Rattle.std.specs.Ordering.{nat_cmp, eq_by_cmp, is_eq}
use Rattle.std.specs.Cmp.{eq_by_cmp_equiv}
use Rattle.std.specs.Cmp.Lexicographic.{slice_cmp, nat_list_cmp_total}
use Rattle.std.specs.FinMap.{get, insert, get-insert, same_map, get_tied, slice_cmp-IsAntisymmetric, nat_cmp-IsAntisymmetric}
use Rattle.std.specs.Option.{option_map_or}
use Rattle.std.specs.declared.option.Option.{Option}
use Rattle.std.specs.declared.option.Option.TheVariants.{Some, None}
use Rattle.vvp_edge.specs.Files.{Files, with_appended, appended}

abbrev by_name : List ℕ → List ℕ → Ordering
by_name = slice_cmp nat_cmp

-- maps with the same bytes at each name are equal
pub same_files : (m n : Files) → ((q : List ℕ) → get m q ≡ get n q) → m ≡ n
same_files m n h = same_map nat_list_cmp_total (slice_cmp-IsAntisymmetric nat_cmp-IsAntisymmetric) m n h

twice : (b : Bool) (v w : List ℕ) (o : Option (List ℕ)) → cond b (Some w) (cond b (Some v) o) ≡ cond b (Some w) o
twice true v w o = refl
twice false v w o = refl

-- what is put under a name takes the place of what was put there
pub insert-insert : (m : Files) (k v w : List ℕ) → insert (insert m k v) k w ≡ insert m k w
insert-insert m k v w = same_files _ _ (λ q. get-insert nat_list_cmp_total (insert m k v) k w q
    ∙ ap (λ o. cond (eq_by_cmp by_name q k) (Some w) o) (get-insert nat_list_cmp_total m k v q)
    ∙ twice (eq_by_cmp by_name q k) v w (get m q)
    ∙ sym (get-insert nat_list_cmp_total m k w q))

pub get-insert_same : (m : Files) (k v : List ℕ) → get (insert m k v) k ≡ Some v
get-insert_same m k v = get-insert nat_list_cmp_total m k v k ∙ ap (λ b. cond b (Some v) (get m k)) ((eq_by_cmp_equiv nat_list_cmp_total).refl k)

tied_or_not : (r : Ordering) (v : List ℕ) (o : Option (List ℕ)) → (r ≡ Equal → o ≡ Some v) → cond (is_eq r) (Some v) o ≡ o
tied_or_not Less v o h = refl
tied_or_not Equal v o h = sym (h refl)
tied_or_not Greater v o h = refl

-- what a file has already changes nothing
pub insert-same : (m : Files) (k v : List ℕ) → get m k ≡ Some v → insert m k v ≡ m
insert-same m k v e = same_files _ _ (λ q. get-insert nat_list_cmp_total m k v q
    ∙ tied_or_not (by_name q k) v (get m q) (λ t. sym (get_tied nat_list_cmp_total m q k t) ∙ e))

-- ---- files that grow

grown : Files → List ℕ → List ℕ → Option (List ℕ) → Files
grown m name bytes o = option_map_or (λ held. insert m name (held ++ bytes)) o m

grown_is : (m : Files) (name bytes : List ℕ) (o : Option (List ℕ)) → get m name ≡ o → with_appended m name bytes ≡ grown m name bytes o
unfolding with_appended grown
grown_is m name bytes o e = ap (λ p. option_map_or (λ held. insert m name (held ++ bytes)) p m) e

nil_by : (m : Files) (name : List ℕ) (o : Option (List ℕ)) → get m name ≡ o → with_appended m name [] ≡ m
unfolding grown
nil_by m name None e = grown_is m name [] None e
nil_by m name (Some held) e = grown_is m name [] (Some held) e ∙ ap (insert m name) (append-nil held) ∙ insert-same m name held e

pub with_appended-nil : (m : Files) (name : List ℕ) → with_appended m name [] ≡ m
with_appended-nil m name = nil_by m name _ refl

-- to add to a file that was just put is to put more
pub with_appended-insert : (m : Files) (name a b : List ℕ) → with_appended (insert m name a) name b ≡ insert m name (a ++ b)
unfolding grown
with_appended-insert m name a b = grown_is (insert m name a) name b (Some a) (get-insert_same m name a) ∙ insert-insert m name a (a ++ b)

append_by : (m : Files) (name a b : List ℕ) (o : Option (List ℕ)) → get m name ≡ o → with_appended (with_appended m name a) name b ≡ with_appended m name (a ++ b)
unfolding grown
append_by m name a b None e =
    ap (λ n. with_appended n name b) (grown_is m name a None e) ∙ grown_is m name b None e ∙ sym (grown_is m name (a ++ b) None e)
append_by m name a b (Some held) e =
    ap (λ n. with_appended n name b) (grown_is m name a (Some held) e)
    ∙ with_appended-insert m name (held ++ a) b
    ∙ ap (insert m name) (append_assoc held a b)
    ∙ sym (grown_is m name (a ++ b) (Some held) e)

pub with_appended-append : (m : Files) (name a b : List ℕ) → with_appended (with_appended m name a) name b ≡ with_appended m name (a ++ b)
with_appended-append m name a b = append_by m name a b _ refl

none_told : IsSome {T = List ℕ} None → ⊥
none_told h = cc

pub appended-nil : (files : Option Files) (target : Option (List ℕ)) → (IsSome files → IsSome target) → appended files target [] ≡ files
appended-nil None target h = refl
appended-nil (Some m) None h = absurd (none_told (h refl))
appended-nil (Some m) (Some name) h = ap Some (with_appended-nil m name)

pub appended-append : (files : Option Files) (target : Option (List ℕ)) (a b : List ℕ) → appended (appended files target a) target b ≡ appended files target (a ++ b)
appended-append None target a b = refl
appended-append (Some m) None a b = refl
appended-append (Some m) (Some name) a b = ap Some (with_appended-append m name a b)

-- ---- another file

passed : (r : Ordering) (b : List ℕ) (o : Option (List ℕ)) → (r ≡ Equal → ⊥) → cond (is_eq r) (Some b) o ≡ o
passed Less b o differ = refl
passed Equal b o differ = absurd (differ refl)
passed Greater b o differ = refl

-- what is put under another name
pub get-insert_other : (m : Files) (k v q : List ℕ) → (q ≡ k → ⊥) → get (insert m k v) q ≡ get m q
get-insert_other m k v q other = get-insert nat_list_cmp_total m k v q
    ∙ passed (by_name q k) v (get m q) (λ tied. other (slice_cmp-IsAntisymmetric nat_cmp-IsAntisymmetric q k tied))
