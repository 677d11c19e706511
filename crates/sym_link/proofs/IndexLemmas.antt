-- The place of a label, found in the places that are kept in the order of their labels.
use Rattle.std.proofs.Common.{◌≡◌, ◌⊎◌, inl, inr, ℕ, zero, suc, ◌+◌, ◌<◌, ◌≤◌, ◌==◌, Bool, true, false, cond, List, [], ◌∷◌, ◌++◌, length, get_or, drop, Option, Some, None, is_some, refl, sym, ap, subst, ◌∙◌, arith, append_assoc, append-nil, lt-ltb, if◌then◌else◌}
use Rattle.std.proofs.lemmas.Bool.{cases_lt, false_from_ne_true, true≢false}
use Rattle.std.proofs.lemmas.Cmp.{nat_cmp_total, nat_list_cmp_total, then_total}
use Rattle.std.proofs.lemmas.List.{at_drop_all, at_drop_more, get_or_default}
use Rattle.std.proofs.lemmas.List.Sorted.{Contains-permutation, IsPermutation-sym, ranks_by, sorted_far}
use Rattle.std.proofs.lemmas.Map.Text.{is_eq-slice_cmp}
use Rattle.std.proofs.lemmas.Slice.Eq.{bytes_eq-Decides}
use Rattle.std.specs.BTreeMap.Comparable.{le_lt_trans}
use Rattle.std.specs.Cmp.{IsStrictWeakOrder, IsTotalOrder}
use Rattle.std.specs.Cmp.Lexicographic.{on_texts, slice_cmp}
use Rattle.std.specs.List.{Contains}
use Rattle.std.specs.List.Sorted.{IsPartitionedBy, IsSorted}
use Rattle.std.specs.Option.{option_map_or}
use Rattle.std.specs.Ordering.{is_eq, is_le, is_lt, nat_cmp, ordering_reverse, ordering_then}
use Rattle.std.specs.Prelude.{slice_get}
use Rattle.std.specs.Str.{bytes_eq}
use Rattle.std.specs.declared.cmp.Ordering.{Ordering}
use Rattle.std.specs.declared.cmp.Ordering.TheVariants.{Less, Equal, Greater}
use Rattle.vvp_lex.specs.declared.types.Name.{Name}
use Rattle.vvp_lex.specs.Place.{bytes_of}
use Rattle.sym_link.specs.declared.placed.Placed.{Placed}
use Rattle.sym_link.specs.Known.{IsFirstFrom, IsIndex, is_before, label_at, label_bytes, label_order, labelled, labelled_from, labelled_places}
use Rattle.sym_link.specs.Places.{label_is, place_from, place_of, symbol_place}

-- Whether the statement at a place has this label

abbrev has_at : List ℕ → List Placed → List ℕ → ℕ → Bool
has_at file all name place = option_map_or (λ (s : Placed). label_is file name s.label) (slice_get all place) false

-- the first place with the label
first-has : (file : List ℕ) (start : ℕ) (all : List Placed) (name : List ℕ) (place : ℕ) → has_at file all name place ≡ true → ((q : ℕ) → q < place → has_at file all name q ≡ false) → place_from file start all name ≡ Some (start + place)
first-has file start [] name place has none = absurd (true≢false (sym has))
first-has file start (s ∷ all) name zero has none =
    let same : start ≡ start + 0 = omega arith in
    ap (λ b. if b then Some start else place_from file (start + 1) all name) has ∙ ap Some same
first-has file start (s ∷ all) name (suc place) has none =
    let zero-less : 0 < suc place = omega arith in
    let same : start + 1 + place ≡ start + suc place = omega arith in
    ap (λ b. if b then Some start else place_from file (start + 1) all name) (none 0 zero-less)
    ∙ first-has file (start + 1) all name place has (λ q lt. let less : suc q < suc place = omega (arith, lt) in none (suc q) less)
    ∙ ap Some same

none-has : (file : List ℕ) (start : ℕ) (all : List Placed) (name : List ℕ) → ((q : ℕ) → has_at file all name q ≡ false) → place_from file start all name ≡ None
none-has file start [] name none = refl
none-has file start (s ∷ all) name none =
    ap (λ b. if b then Some start else place_from file (start + 1) all name) (none 0) ∙ none-has file (start + 1) all name (λ q. none (suc q))

-- The labelled places are those of the statements with a label

abbrev is_labelled : List Placed → ℕ → Bool
is_labelled all place = option_map_or (λ (s : Placed). is_some s.label) (slice_get all place) false

right-of : (xs ys : List ℕ) (x : ℕ) → Contains ys x → Contains (xs ++ ys) x
right-of [] ys x has = has
right-of (y ∷ xs) ys x has =
    let more = right-of xs ys x has in
    let lt = more.1 in
    (suc more.0, omega (arith, lt), more.2)

is-some : (file name : List ℕ) (label : Option Name) → label_is file name label ≡ true → is_some label ≡ true
is-some file name None has = absurd (true≢false (sym has))
is-some file name (Some l) has = refl

labelled-has : (file : List ℕ) (start : ℕ) (all : List Placed) (name : List ℕ) (place : ℕ) → has_at file all name place ≡ true → Contains (labelled_from start all) (start + place)
labelled-has file start [] name place has = absurd (true≢false (sym has))
labelled-has file start (s ∷ all) name zero has =
    let same : start ≡ start + 0 = omega arith in
    let first : 0 < length (start ∷ labelled_from (start + 1) all) = omega arith in
    subst (λ (b : Bool). Contains ((if b then start ∷ [] else []) ++ labelled_from (start + 1) all) (start + 0)) (sym (is-some file name s.label has)) (0, first, same)
labelled-has file start (s ∷ all) name (suc place) has =
    let same : start + 1 + place ≡ start + suc place = omega arith in
    right-of (labelled start s.label) (labelled_from (start + 1) all) (start + suc place)
    (subst (Contains (labelled_from (start + 1) all)) same (labelled-has file (start + 1) all name place has))

abbrev IsFrom : ℕ → List Placed → ℕ → Type 0
IsFrom start all place = (q : ℕ) × (place ≡ start + q) × (is_labelled all q ≡ true)

labelled-is : (start : ℕ) (all : List Placed) (place : ℕ) → Contains (labelled_from start all) place → IsFrom start all place
labelled-is start [] place has = let lt = has.1 in absurd (omega (arith, lt))
labelled-is start (s ∷ all) place has = by (is_some s.label) refl has (labelled-is (start + 1) all place)
  where
    on : IsFrom (start + 1) all place → IsFrom start (s ∷ all) place
    on more =
        let at = more.1 in
        (suc more.0, omega (arith, at), more.2)

    here : is_some s.label ≡ true → (Contains (labelled_from (start + 1) all) place → IsFrom (start + 1) all place) → (k : ℕ) → k < length (start ∷ labelled_from (start + 1) all) → get_or (start ∷ labelled_from (start + 1) all) k place ≡ place → IsFrom start (s ∷ all) place
    here is more zero lt at = (0, omega (arith, at), is)
    here is more (suc k) lt at = on (more (k, omega (arith, lt), at))

    by : (b : Bool) → is_some s.label ≡ b → Contains ((if b then start ∷ [] else []) ++ labelled_from (start + 1) all) place → (Contains (labelled_from (start + 1) all) place → IsFrom (start + 1) all place) → IsFrom start (s ∷ all) place
    by true is there more = here is more there.0 there.1 there.2
    by false is there more = on (more there)

-- the label at a place
has-label : (file : List ℕ) (all : List Placed) (name : List ℕ) (place : ℕ) → has_at file all name place ≡ true → bytes_eq (label_at file all place) name ≡ true
has-label file all name place = by (slice_get all place)
  where
    of : (label : Option Name) → label_is file name label ≡ true → bytes_eq (label_bytes file label) name ≡ true
    of None has = absurd (true≢false (sym has))
    of (Some l) has = has

    by : (o : Option Placed) → option_map_or (λ (s : Placed). label_is file name s.label) o false ≡ true → bytes_eq (option_map_or (λ (s : Placed). label_bytes file s.label) o []) name ≡ true
    by None has = absurd (true≢false (sym has))
    by (Some s) has = of s.label has

label-has : (file : List ℕ) (all : List Placed) (name : List ℕ) (place : ℕ) → is_labelled all place ≡ true → bytes_eq (label_at file all place) name ≡ true → has_at file all name place ≡ true
label-has file all name place = by (slice_get all place)
  where
    of : (label : Option Name) → is_some label ≡ true → bytes_eq (label_bytes file label) name ≡ true → label_is file name label ≡ true
    of None is same = absurd (true≢false (sym is))
    of (Some l) is same = same

    by : (o : Option Placed) → option_map_or (λ (s : Placed). is_some s.label) o false ≡ true → bytes_eq (option_map_or (λ (s : Placed). label_bytes file s.label) o []) name ≡ true → option_map_or (λ (s : Placed). label_is file name s.label) o false ≡ true
    by None is same = absurd (true≢false (sym is))
    by (Some s) is same = of s.label is same

-- Orders

is-less : (o : Ordering) → is_lt o ≡ true → o ≡ Less
is-less Less is = refl
is-less Equal is = absurd (true≢false (sym is))
is-less Greater is = absurd (true≢false (sym is))

is-equal : (o : Ordering) → is_eq o ≡ true → o ≡ Equal
is-equal Less is = absurd (true≢false (sym is))
is-equal Equal is = refl
is-equal Greater is = absurd (true≢false (sym is))

equal-bytes : (xs ys : List ℕ) → bytes_eq xs ys ≡ true → slice_cmp nat_cmp xs ys ≡ Equal
equal-bytes xs ys same = is-equal (slice_cmp nat_cmp xs ys) (is_eq-slice_cmp xs ys ∙ same)

same-bytes : (xs ys : List ℕ) → bytes_eq xs ys ≡ true → xs ≡ ys
same-bytes xs ys same = (bytes_eq-Decides xs ys).0 same

first-order : (o p : Ordering) → is_lt (ordering_then o p) ≡ false → is_lt o ≡ false
first-order Less p none = none
first-order Equal p none = refl
first-order Greater p none = refl

not-more : (xs ys : List ℕ) → is_lt (slice_cmp nat_cmp ys xs) ≡ false → is_le (slice_cmp nat_cmp xs ys) ≡ true
not-more xs ys none = ap is_le (nat_list_cmp_total.antisymm xs ys) ∙ by (slice_cmp nat_cmp ys xs) none
  where
    by : (o : Ordering) → is_lt o ≡ false → is_le (ordering_reverse o) ≡ true
    by Less h = absurd (true≢false h)
    by Equal h = refl
    by Greater h = refl

neither : (xs ys : List ℕ) → is_lt (slice_cmp nat_cmp xs ys) ≡ false → is_lt (slice_cmp nat_cmp ys xs) ≡ false → bytes_eq xs ys ≡ true
neither xs ys one other = sym (is_eq-slice_cmp xs ys) ∙ by (slice_cmp nat_cmp xs ys) one (not-more xs ys other)
  where
    by : (o : Ordering) → is_lt o ≡ false → is_le o ≡ true → is_eq o ≡ true
    by Less h k = absurd (true≢false h)
    by Equal h k = refl
    by Greater h k = absurd (true≢false (sym k))

less-on : (xs ys zs : List ℕ) → is_lt (slice_cmp nat_cmp ys xs) ≡ false → is_lt (slice_cmp nat_cmp ys zs) ≡ true → is_lt (slice_cmp nat_cmp xs zs) ≡ true
less-on xs ys zs none less = ap is_lt (le_lt_trans nat_list_cmp_total xs ys zs (not-more xs ys none) (is-less (slice_cmp nat_cmp ys zs) less))

order-total : (file : List ℕ) (all : List Placed) → IsTotalOrder (label_order file all)
order-total file all = then_total (on_texts (label_at file all)) nat_cmp_total

pub order-strict : (file : List ℕ) (all : List Placed) → IsStrictWeakOrder (λ (x y : ℕ). is_lt (label_order file all x y))
order-strict file all = ranks_by (order-total file all) (λ (x : ℕ). x)

later : (file : List ℕ) (all : List Placed) (places : List ℕ) → IsSorted (label_order file all) places → (i j d : ℕ) → i ≤ j → j < length places → is_lt (label_order file all (get_or places j d) (get_or places i d)) ≡ false
later file all places sorted i j d le lt = sorted_far (λ (x y : ℕ). is_lt (label_order file all x y)) (order-strict file all) places sorted i j d le lt

later-label : (file : List ℕ) (all : List Placed) (places : List ℕ) → IsSorted (label_order file all) places → (i j d : ℕ) → i ≤ j → j < length places → is_lt (slice_cmp nat_cmp (label_at file all (get_or places j d)) (label_at file all (get_or places i d))) ≡ false
later-label file all places sorted i j d le lt = first-order _ _ (later file all places sorted i j d le lt)

pub parted : (file : List ℕ) (all : List Placed) (places label : List ℕ) → IsSorted (label_order file all) places → IsPartitionedBy (is_before file all label) places
parted file all places label sorted i j d le lt less =
    less-on (label_at file all (get_or places i d)) (label_at file all (get_or places j d)) label (later-label file all places sorted i j d le lt) less

-- The labelled places, from the first one on

pub labelled-more : (all : List Placed) (place : ℕ) (d : Placed) (done new : List ℕ) → place < length all → labelled_places all ≡ done ++ labelled_from place (drop place all) → new ≡ done ++ labelled place (get_or all place d).label → labelled_places all ≡ new ++ labelled_from (place + 1) (drop (place + 1) all)
labelled-more all place d done new lt so_far is =
    so_far
    ∙ ap (λ l. done ++ l) (at_drop_more (labelled_from place) all place d lt)
    ∙ sym (append_assoc done (labelled place (get_or all place d).label) (labelled_from (place + 1) (drop (place + 1) all)))
    ∙ ap (λ l. l ++ labelled_from (place + 1) (drop (place + 1) all)) (sym is)

pub labelled-all : (all : List Placed) (place : ℕ) (done : List ℕ) → length all ≤ place → labelled_places all ≡ done ++ labelled_from place (drop place all) → done ≡ labelled_places all
labelled-all all place done end so_far =
    sym (so_far ∙ ap (λ l. done ++ l) (at_drop_all (labelled_from place) all place end) ∙ append-nil done)

-- The search

module _ (file : List ℕ) (all : List Placed) (name places : List ℕ) (at : ℕ) (index : IsIndex file all places) (first : IsFirstFrom file all places name at) where
  abbrev IsLater : ℕ → Type 0
  IsLater q = (k : ℕ) × (at ≤ k) × (k < length places) × (get_or places k q ≡ q)

  -- a place with the label isn't before the first
  has-later : (q : ℕ) → has_at file all name q ≡ true → IsLater q
  has-later q has = by (cases_lt there.0 at)
    where
      there : Contains places q
      there =
          let same : 0 + q ≡ q = omega arith in
          Contains-permutation (labelled_places all) places q index.same (subst (Contains (labelled_places all)) same (labelled-has file 0 all name q has))

      by : (there.0 < at) ⊎ (at ≤ there.0) → IsLater q
      by (inr le) = (there.0, le, there.1, there.2)
      by (inl lt) =
          let before : is_lt (slice_cmp nat_cmp (label_at file all q) name) ≡ true = ap (is_before file all name) (sym there.2) ∙ first.before there.0 q lt in
          absurd (true≢false (sym before ∙ ap is_lt (equal-bytes (label_at file all q) name (has-label file all name q has))))

  pub missing-end : length places ≤ at → None ≡ place_of file all name
  missing-end end = sym (none-has file 0 all name (λ q. false_from_ne_true _ (λ has.
      let there = has-later q has in
      let le = there.1 in
      let lt = there.2 in
      absurd (omega (arith, le, lt, end)))))

  pub missing-here : (place : ℕ) → at < length places → place ≡ get_or places at place → bytes_eq (label_at file all place) name ≡ false → None ≡ place_of file all name
  missing-here place lt is other = sym (none-has file 0 all name (λ q. false_from_ne_true _ (λ has. by q has (has-later q has))))
    where
      by : (q : ℕ) → has_at file all name q ≡ true → IsLater q → ⊥
      by q has there =
          let last : get_or places there.0 place ≡ q = get_or_default places there.0 place q there.2 ∙ there.3 in
          let after : is_lt (slice_cmp nat_cmp (label_at file all place) name) ≡ false = ap (is_before file all name) is ∙ first.after at place (omega arith) lt in
          let rises : is_lt (slice_cmp nat_cmp (label_at file all q) (label_at file all place)) ≡ false = ap (λ p. is_lt (slice_cmp nat_cmp (label_at file all p) (label_at file all place))) (sym last) ∙ ap (λ p. is_lt (slice_cmp nat_cmp (label_at file all (get_or places there.0 place)) (label_at file all p))) is ∙ later-label file all places index.sorted at there.0 place there.1 there.2 in
          let same = same-bytes (label_at file all q) name (has-label file all name q has) in
          true≢false (sym (neither (label_at file all place) name after (ap (λ l. is_lt (slice_cmp nat_cmp l (label_at file all place))) (sym same) ∙ rises)) ∙ other)

  pub found : (place : ℕ) → at < length places → place ≡ get_or places at place → bytes_eq (label_at file all place) name ≡ true → Some place ≡ place_of file all name
  found place lt is same =
      let at_place : 0 + place ≡ place = omega arith in
      sym (first-has file 0 all name place (label-has file all name place has same) (λ q less. false_from_ne_true _ (λ others. by q less others (has-later q others))) ∙ ap Some at_place)
    where
      has : is_labelled all place ≡ true
      has =
          let there = labelled-is 0 all place (Contains-permutation places (labelled_places all) place (IsPermutation-sym (labelled_places all) places index.same) (at, lt, sym is)) in
          let where_it_is = there.1 in
          let here : place ≡ there.0 = omega (arith, where_it_is) in
          ap (is_labelled all) here ∙ there.2

      by : (q : ℕ) → q < place → has_at file all name q ≡ true → IsLater q → ⊥
      by q less others there =
          let last : get_or places there.0 place ≡ q = get_or_default places there.0 place q there.2 ∙ there.3 in
          let rises : is_lt (label_order file all q place) ≡ false = ap (λ p. is_lt (label_order file all p place)) (sym last) ∙ ap (λ p. is_lt (label_order file all (get_or places there.0 place) p)) is ∙ later file all places index.sorted at there.0 place there.1 there.2 in
          let labels : label_at file all q ≡ label_at file all place = same-bytes (label_at file all q) name (has-label file all name q others) ∙ sym (same-bytes (label_at file all place) name same) in
          let equal : slice_cmp nat_cmp (label_at file all q) (label_at file all place) ≡ Equal = equal-bytes (label_at file all q) (label_at file all place) ((bytes_eq-Decides (label_at file all q) (label_at file all place)).1 labels) in
          let numbers : is_lt (nat_cmp q place) ≡ false = ap (λ o. is_lt (ordering_then o (nat_cmp q place))) (sym equal) ∙ rises in
          true≢false (sym (ap (λ b. is_lt (cond b Less (cond (q == place) Equal Greater))) (lt-ltb q place less)) ∙ numbers)

-- The same for statements and labels as a file keeps them

module _ (file : List ℕ) (all : List Placed) (src : List ℕ) (placed : List Placed) (symbol : Name) (label places : List ℕ) (at : ℕ) (source : src ≡ file) (statements : placed ≡ all) (index : IsIndex file all places) (first : IsSorted (label_order src placed) places → IsFirstFrom src placed places label at) (is : label ≡ bytes_of src symbol) where
  here : IsIndex src placed places
  here = subst (λ x. IsIndex x placed places) (sym source) (subst (λ x. IsIndex file x places) (sym statements) index)

  there : place_of src placed label ≡ symbol_place file all symbol
  there = ap (place_of src placed) is ∙ ap (λ x. place_of x placed (bytes_of x symbol)) source ∙ ap (λ x. place_of file x (bytes_of file symbol)) statements

  pub known-found : (place : ℕ) → at < length places → place ≡ get_or places at place → bytes_eq (label_at src placed place) label ≡ true → Some place ≡ symbol_place file all symbol
  known-found place lt got same = found src placed label places at here (first here.sorted) place lt got same ∙ there

  pub known-other : (place : ℕ) → at < length places → place ≡ get_or places at place → bytes_eq (label_at src placed place) label ≡ false → None ≡ symbol_place file all symbol
  known-other place lt got other = missing-here src placed label places at here (first here.sorted) place lt got other ∙ there

  pub known-none : length places ≤ at → None ≡ symbol_place file all symbol
  known-none end = missing-end src placed label places at here (first here.sorted) end ∙ there
