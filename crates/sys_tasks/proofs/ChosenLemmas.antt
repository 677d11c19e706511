-- The items of a dump.
use Rattle.std.proofs.Common.{◌≡◌, ℕ, ◌+◌, ◌<◌, ◌≤◌, Bool, true, false, ◌||◌, eqb, cond, Option, Some, None, List, [], ◌∷◌, ◌++◌, length, get_or, take, map, replicate, refl, sym, ap, ◌∙◌, subst, arith, inl, inr, zero-add, get_or-set_other, get_or-set_same}
use Rattle.std.specs.Prelude.{filter, slice_get}
use Rattle.std.specs.List.{list_all, list_any, range_with_len}
use Rattle.std.specs.Option.{option_map_or}
use Rattle.std.proofs.Math.ListN.{set, length-set}
use Rattle.std.proofs.lemmas.Bool.{and_parts, cases_Bool, eqb-true, false≢true}
use Rattle.std.proofs.lemmas.Bool.Decides.{eqb_tells}
use Rattle.std.proofs.lemmas.List.{append-nil, get_or-replicate, length-replicate, same_lists, take_all}
use Rattle.std.proofs.lemmas.List.Folds.{list_any_more}
use Rattle.std.proofs.lemmas.List.FromFn.{filter_of_map_range_with_len_more, get_or-map-range_with_len, length-map-range_with_len, length-range_with_len}
use Rattle.std.proofs.lemmas.List.Sums.{AllPass-from_list_all}
use Rattle.std.proofs.lemmas.Option.{slice_get_within}
use Rattle.vvp_ops.specs.declared.args.Arg.{Arg}
use Rattle.sym_link.specs.declared.program.ScopeRow.{ScopeRow}
use Rattle.sys_tasks.specs.declared.design.Entry.{Entry}
use Rattle.sys_tasks.specs.declared.state.TaskState.{TaskState}
use Rattle.sys_tasks.specs.declared.writer.Writer.{Writer}
use Rattle.sys_tasks.specs.declared.design.EntryKind.TheVariants.{Other}
use Rattle.sys_tasks.specs.Design.{is_dumpable_kind}
use Rattle.sys_tasks.specs.Dumped.{chosen_in, is_chosen, kind_of}
use Rattle.sys_tasks.specs.Sound.{AreChosen, MayWrite}

-- Filtering

map-same : (xs : List ℕ) → map (λ (x : ℕ). x) xs ≡ xs
map-same [] = refl
map-same (x ∷ xs) = ap (λ (ys : List ℕ). x ∷ ys) (map-same xs)

-- one number more
pub filter-next : (p : ℕ → Bool) (n : ℕ) → filter p (range_with_len 0 (n + 1)) ≡ filter p (range_with_len 0 n) ++ cond (p n) (n ∷ []) []
filter-next p n =
    ap (filter p) (sym (map-same (range_with_len 0 (n + 1)))) ∙ filter_of_map_range_with_len_more p (λ (x : ℕ). x) 0 n n (zero-add n)
    ∙ ap (λ (xs : List ℕ). filter p xs ++ cond (p n) (n ∷ []) []) (map-same (range_with_len 0 n))

-- an item that was chosen before, or is now
abbrev pub is_taken : List Entry → List ScopeRow → List (Arg ℕ) → List ℕ → ℕ → Bool
is_taken entries scopes args chosen item = list_any (λ k. eqb k item) chosen || is_chosen entries scopes args item

pub taken-next : (p : ℕ → Bool) (n : ℕ) (items more : List ℕ) → p n ≡ true → items ≡ filter p (range_with_len 0 n) → more ≡ items ++ n ∷ [] → more ≡ filter p (range_with_len 0 (n + 1))
taken-next p n items more yes_ is told =
    told ∙ ap (λ (xs : List ℕ). xs ++ n ∷ []) is ∙ sym (filter-next p n ∙ ap (λ (b : Bool). filter p (range_with_len 0 n) ++ cond b (n ∷ []) []) yes_)

pub passed-next : (p : ℕ → Bool) (n : ℕ) (items : List ℕ) → p n ≡ false → items ≡ filter p (range_with_len 0 n) → items ≡ filter p (range_with_len 0 (n + 1))
passed-next p n items no_ is =
    is ∙ sym (filter-next p n ∙ ap (λ (b : Bool). filter p (range_with_len 0 n) ++ cond b (n ∷ []) []) no_ ∙ append-nil (filter p (range_with_len 0 n)))

filter-few : (p : ℕ → Bool) (xs : List ℕ) → length (filter p xs) ≤ length xs
filter-few p [] = omega arith
filter-few p (x ∷ xs) =
    let rest = filter-few p xs in
    elim (cases_Bool (p x)) [ inl passes ↦ rw passes (omega arith) | inr fails ↦ rw fails (omega arith) ]

filter-passes : (p q : ℕ → Bool) (xs : List ℕ) → ((x : ℕ) → p x ≡ true → q x ≡ true) → list_all q (filter p xs) ≡ true
filter-passes p q [] h = refl
filter-passes p q (x ∷ xs) h =
    let rest = filter-passes p q xs h in
    elim (cases_Bool (p x)) [ inl passes ↦ rw (passes, h x passes) rest | inr fails ↦ rw fails rest ]

any-passes : (q : ℕ → Bool) (xs : List ℕ) (x : ℕ) → list_all q xs ≡ true → list_any (λ k. eqb k x) xs ≡ true → q x ≡ true
any-passes q [] x all some = absurd (false≢true some)
any-passes q (y ∷ ys) x all some =
    let parts = and_parts (q y) (list_all q ys) all in
    elim (cases_Bool (eqb y x)) [
      | inl here ↦ ap q (sym (eqb-true y x here)) ∙ parts.0
      | inr other ↦ let rest : list_any (λ k. eqb k x) ys ≡ true = rw other at some in any-passes q ys x parts.1 rest
    ]

-- what is chosen now may be dumped, where what was chosen before may
pub chosen-are : (entries : List Entry) (scopes : List ScopeRow) (args : List (Arg ℕ)) (chosen : List ℕ) → AreChosen entries chosen → AreChosen entries (chosen_in entries scopes args chosen)
unfolding chosen_in
chosen-are entries scopes args chosen h =
    let all = range_with_len 0 (length entries) in
    let p : ℕ → Bool = λ item. list_any (λ k. eqb k item) chosen || is_chosen entries scopes args item in
    let q : ℕ → Bool = λ item. is_dumpable_kind (kind_of entries item) in
    let passes : (x : ℕ) → p x ≡ true → q x ≡ true = λ x t.
    elim (cases_Bool (list_any (λ k. eqb k x) chosen)) [
      | inl before ↦ any-passes q chosen x h.each before
      | inr other ↦ let now : is_chosen entries scopes args x ≡ true = rw other at t in (and_parts _ _ now).0
    ] in
    let few = filter-few p all in
    let count = length-range_with_len 0 (length entries) in
    record { few = omega arith; each = filter-passes p q all passes }

-- Marks

no-entry : (entries : List Entry) (item : ℕ) → slice_get entries item ≡ None → is_dumpable_kind (kind_of entries item) ≡ true → ⊥
no-entry entries item is dumps =
    false≢true (sym (ap (λ (o : Option Entry). is_dumpable_kind (option_map_or (λ (e : Entry). e.what) o Other)) is) ∙ dumps)

dumpable-there : (entries : List Entry) (item : ℕ) (found : Option Entry) → slice_get entries item ≡ found → is_dumpable_kind (kind_of entries item) ≡ true → item < length entries
dumpable-there entries item None is dumps = absurd (no-entry entries item is dumps)
dumpable-there entries item (Some e) is dumps = slice_get_within entries item e is

-- a chosen item is one of the program
pub chosen-there : (entries : List Entry) (chosen : List ℕ) (i item : ℕ) → AreChosen entries chosen → i < length chosen → item ≡ get_or chosen i item → item < length entries
chosen-there entries chosen i item h inside is =
    dumpable-there entries item (slice_get entries item) refl
    (ap (λ (x : ℕ). is_dumpable_kind (kind_of entries x)) is ∙ AllPass-from_list_all (λ x. is_dumpable_kind (kind_of entries x)) chosen h.each i item inside)

pub dumpable-at : (entries : List Entry) (chosen : List ℕ) (i : ℕ) → list_all (λ x. is_dumpable_kind (kind_of entries x)) chosen ≡ true → i < length chosen → get_or chosen i 0 < length entries
dumpable-at entries chosen i h inside =
    dumpable-there entries (get_or chosen i 0) (slice_get entries (get_or chosen i 0)) refl (AllPass-from_list_all (λ x. is_dumpable_kind (kind_of entries x)) chosen h i 0 inside)

-- all items were looked at
pub all-taken : (entries : List Entry) (scopes : List ScopeRow) (args : List (Arg ℕ)) (chosen items : List ℕ) (i : ℕ) → items ≡ filter (is_taken entries scopes args chosen) (range_with_len 0 i) → length entries ≤ i → i ≤ length entries
    → items ≡ chosen_in entries scopes args chosen
unfolding chosen_in
all-taken entries scopes args chosen items i is least most =
    let same : i ≡ length entries = omega arith in
    is ∙ ap (λ (n : ℕ). filter (is_taken entries scopes args chosen) (range_with_len 0 n)) same

pub or-first : (a b : Bool) → a ≡ true → (a || b) ≡ true
or-first a b h = rw h refl

pub or-second : (a b : Bool) → b ≡ true → (a || b) ≡ true
or-second true b h = refl
or-second false b h = h

pub or-none : (a b : Bool) → a ≡ false → b ≡ false → (a || b) ≡ false
or-none a b h k = rw (h, k) refl

-- what `$dumpvars` keeps
pub chosen-kept : (entries listed : List Entry) (scopes : List ScopeRow) (args : List (Arg ℕ)) (chosen before new : List ℕ) → AreChosen entries chosen → listed ≡ entries → before ≡ chosen → new ≡ chosen_in listed scopes args before → AreChosen entries new
chosen-kept entries listed scopes args chosen before new h l b n =
    let P : List ℕ → Type 0 = λ xs. AreChosen entries xs in
    subst P (sym (n ∙ ap (λ (es : List Entry). chosen_in es scopes args before) l ∙ ap (chosen_in entries scopes args) b)) (chosen-are entries scopes args chosen h)

-- no dump is written before its header
pub unwritten : (entries : List Entry) (state later : TaskState) (writer : Option Writer) → MayWrite entries state writer → (state.dumping ≡ 2 → ⊥) → later.dumping ≡ 1 → MayWrite entries later writer
unwritten entries state later None h other one = omega (arith, one)
unwritten entries state later (Some w) h other one = absurd (other h.0)

-- of each item whether it is among these
pub record AreMarks (count : ℕ) (chosen : List ℕ) (marks : List Bool) : Type 0 where
  pub length_is : length marks ≡ count
  pub each : (item : ℕ) (d : Bool) → item < count → get_or marks item d ≡ list_any (λ k. eqb k item) chosen

pub no-marks : (count : ℕ) (marks : List Bool) → marks ≡ replicate count false → AreMarks count [] marks
no-marks count marks is = record {
  length_is = ap length is ∙ length-replicate count false;
  each = λ item d inside. ap (λ (xs : List Bool). get_or xs item d) is ∙ get_or-replicate count item false d inside;
}

pub marks-more : (count : ℕ) (chosen : List ℕ) (i item : ℕ) (marks : List Bool) → i < length chosen → item ≡ get_or chosen i item → AreMarks count (take i chosen) marks → AreMarks count (take (i + 1) chosen) (set marks item true)
marks-more count chosen i item marks inside is h = record {
  length_is = length-set marks item true ∙ h.length_is;
  each = λ k d below.
      let next : list_any (λ j. eqb j k) (take (i + 1) chosen) ≡ (list_any (λ j. eqb j k) (take i chosen) || eqb item k) =
      list_any_more (λ j. eqb j k) chosen i item inside ∙ ap (λ (x : ℕ). list_any (λ j. eqb j k) (take i chosen) || eqb x k) (sym is) in
      elim (eqb_tells item k) [
        | inl same ↦
            let there : item < length marks = omega (arith, h.length_is, same.1) in
            ap (λ (x : ℕ). get_or (set marks item true) x d) (sym same.1) ∙ get_or-set_same marks item true d there
            ∙ sym (next ∙ ap (λ (b : Bool). list_any (λ j. eqb j k) (take i chosen) || b) same.0 ∙ or-true (list_any (λ j. eqb j k) (take i chosen)))
        | inr other ↦
            get_or-set_other marks item k true d (λ e. other.1 (sym e)) ∙ h.each k d below
            ∙ sym (next ∙ ap (λ (b : Bool). list_any (λ j. eqb j k) (take i chosen) || b) other.0 ∙ or-false (list_any (λ j. eqb j k) (take i chosen)))
      ];
}
  where
    or-true : (b : Bool) → (b || true) ≡ true
    or-true true = refl
    or-true false = refl

    or-false : (b : Bool) → (b || false) ≡ b
    or-false true = refl
    or-false false = refl

pub marks-all : (count : ℕ) (chosen : List ℕ) (i : ℕ) (marks : List Bool) → length chosen ≤ i → AreMarks count (take i chosen) marks → marks ≡ map (λ item. list_any (λ k. eqb k item) chosen) (range_with_len 0 count)
marks-all count chosen i marks h are =
    same_lists _ _ (are.length_is ∙ sym (length-map-range_with_len (λ item. list_any (λ k. eqb k item) chosen) 0 count))
    (λ k d below.
    let inside : k < count = omega (arith, are.length_is) in
    are.each k d inside ∙ ap (λ (xs : List ℕ). list_any (λ j. eqb j k) xs) (take_all i chosen h)
    ∙ sym (get_or-map-range_with_len (λ item. list_any (λ j. eqb j item) chosen) 0 count k k d inside (zero-add k)))

-- a mark, where all are made
pub mark-is : (count : ℕ) (chosen : List ℕ) (marks : List Bool) (item : ℕ) (mark : Bool) → marks ≡ map (λ item. list_any (λ k. eqb k item) chosen) (range_with_len 0 count) → item < count → mark ≡ get_or marks item mark
    → mark ≡ list_any (λ k. eqb k item) chosen
mark-is count chosen marks item mark is inside here =
    here ∙ ap (λ (xs : List Bool). get_or xs item mark) is ∙ get_or-map-range_with_len (λ item. list_any (λ k. eqb k item) chosen) 0 count item item mark inside (zero-add item)
