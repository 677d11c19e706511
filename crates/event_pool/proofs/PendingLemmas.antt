-- What each call of an agenda makes of the order of a plain list of dues.
use Rattle.std.proofs.Common.{◌≡◌, ◌≢◌, ℕ, zero, suc, ◌+◌, ◌*◌, ◌<◌, ◌≤◌, Bool, true, false, ◌&&◌, ◌||◌, cond, nat_eq, List, [], ◌∷◌, ◌++◌, map, filter, refl, sym, ap, subst, ◌∙◌, arith, ◌⊎◌, inl, inr}
use Rattle.std.proofs.Common.{length, min, nat_lt}
use Rattle.std.proofs.lemmas.List.Elements.{recursion_from_All}
use Rattle.std.specs.List.{list_any, fold, remove, AllByRecursion}
use Rattle.event_pool.specs.declared.agenda.Settled.TheVariants.{Ready, TimeEnds}
use Rattle.event_pool.proofs.ScheduleLemmas.{least_time-le}
use Rattle.std.proofs.lemmas.Bool.{cases_eq}
use Rattle.std.proofs.lemmas.Bool.Decides.{nat_tests}
use Rattle.event_pool.specs.declared.agenda.Region.{Region}
use Rattle.event_pool.specs.declared.agenda.Region.TheVariants.{Active, Inactive, Nonblocking}
use Rattle.event_pool.specs.declared.agenda.Due.{Due}
use Rattle.event_pool.specs.Schedule.{region_eq, is_due_in, is_active_at, active_dues, promote, settled_dues, settled_of, earliest, least_time, without_nth}
use Rattle.event_pool.specs.Order.{rank_of, turn_of, insert_by_key, in_order}
use Rattle.event_pool.proofs.OrderLemmas.{filter_same, at_key, at_key-sorted, sorted_same, All-insert}

rank_below : (region : Region) → rank_of region < 3
rank_below Active = omega arith
rank_below Inactive = omega arith
rank_below Nonblocking = omega arith

region_same : (a b : Region) → rank_of a ≡ rank_of b → region_eq a b ≡ true
region_same Active Active e = refl
region_same Active Inactive e = absurd (omega arith)
region_same Active Nonblocking e = absurd (omega arith)
region_same Inactive Active e = absurd (omega arith)
region_same Inactive Inactive e = refl
region_same Inactive Nonblocking e = absurd (omega arith)
region_same Nonblocking Active e = absurd (omega arith)
region_same Nonblocking Inactive e = absurd (omega arith)
region_same Nonblocking Nonblocking e = refl

rank_same : (a b : Region) → region_eq a b ≡ true → rank_of a ≡ rank_of b
rank_same Active Active e = refl
rank_same Active Inactive e = cc
rank_same Active Nonblocking e = cc
rank_same Inactive Active e = cc
rank_same Inactive Inactive e = refl
rank_same Inactive Nonblocking e = cc
rank_same Nonblocking Active e = cc
rank_same Nonblocking Inactive e = cc
rank_same Nonblocking Nonblocking e = refl

both_true : (a b : Bool) → a && b ≡ true → (a ≡ true) × (b ≡ true)
both_true true b e = (refl, e)
both_true false b e = cc

-- a due is of a region, at a time, where its turn is theirs
pub is_due_in-turn : (region : Region) (now : ℕ) (due : Due) → is_due_in region now due ≡ nat_eq (turn_of due) (3 * now + rank_of region)
is_due_in-turn region now due = go (cases_eq (turn_of due) (3 * now + rank_of region)) where
  go : (turn_of due ≡ 3 * now + rank_of region) ⊎ (turn_of due ≢ 3 * now + rank_of region) → is_due_in region now due ≡ nat_eq (turn_of due) (3 * now + rank_of region)
  go (inl same) =
      let time : due.time ≡ now = omega (arith, rank_below due.region, rank_below region) in
      let rank : rank_of due.region ≡ rank_of region = omega (arith, rank_below due.region, rank_below region) in
      let at : nat_eq due.time now ≡ true = grind (arith, nat_tests) in
      let turn : nat_eq (turn_of due) (3 * now + rank_of region) ≡ true = grind (arith, nat_tests) in
      rw (at, turn) (region_same due.region region rank)
  go (inr differ) = by_test (is_due_in region now due) refl where
    by_test : (b : Bool) → is_due_in region now due ≡ b → b ≡ nat_eq (turn_of due) (3 * now + rank_of region)
    by_test true is =
        let both = both_true (nat_eq due.time now) (region_eq due.region region) is in
        let time : due.time ≡ now = (let e = both.0 in grind (arith, nat_tests)) in
        absurd (differ (omega (arith, time, rank_same due.region region both.1)))
    by_test false is = let turn : nat_eq (turn_of due) (3 * now + rank_of region) ≡ false = grind (arith, nat_tests) in sym turn

filter-push : {X : Type 0} (p : X → Bool) (xs : List X) (y : X) → filter p (xs ++ y ∷ []) ≡ filter p xs ++ filter p (y ∷ [])
filter-push p [] y = refl
filter-push p (x ∷ xs) y = elim (p x) as (λ b. cond b (x ∷ filter p (xs ++ y ∷ [])) (filter p (xs ++ y ∷ [])) ≡ cond b (x ∷ filter p xs) (filter p xs) ++ filter p (y ∷ [])) [
  | true ↦ ap (λ zs. x ∷ zs) (filter-push p xs y)
  | false ↦ filter-push p xs y
]

without_same : {X : Type 0} (p q : X → Bool) → ((x : X) → p x ≡ q x) → (xs : List X) (k : ℕ) → without_nth p k xs ≡ without_nth q k xs
without_same p q e [] zero = refl
without_same p q e [] (suc k) = refl
without_same p q e (x ∷ xs) zero = rw (e x, without_same p q e xs 0) refl
without_same p q e (x ∷ xs) (suc k) = rw (e x, without_same p q e xs (cond (q x) k (suc k))) refl

-- lists of one order have the same dues of each turn
turns_same : (xs ys : List Due) → in_order xs ≡ in_order ys → (n : ℕ) → at_key turn_of n xs ≡ at_key turn_of n ys
turns_same xs ys same n = sym (at_key-sorted turn_of n xs) ∙ ap (at_key turn_of n) same ∙ at_key-sorted turn_of n ys

-- lists of one order have the same Active dues of now
pub active_dues-same : (now : ℕ) (xs ys : List Due) → in_order xs ≡ in_order ys → active_dues now xs ≡ active_dues now ys
active_dues-same now xs ys same =
    filter_same (is_active_at now) (λ d. nat_eq (turn_of d) (3 * now + 0)) (is_due_in-turn Active now) xs
    ∙ turns_same xs ys same (3 * now + 0)
    ∙ sym (filter_same (is_active_at now) (λ d. nat_eq (turn_of d) (3 * now + 0)) (is_due_in-turn Active now) ys)

-- putting a due last keeps lists of one order so
pub push-same : (xs ys : List Due) (due : Due) → in_order xs ≡ in_order ys → in_order (xs ++ due ∷ []) ≡ in_order (ys ++ due ∷ [])
push-same xs ys due same = sorted_same turn_of _ _ (λ n.
    filter-push (λ d. nat_eq (turn_of d) n) xs due ∙ ap (λ zs. zs ++ at_key turn_of n (due ∷ [])) (turns_same xs ys same n)
    ∙ sym (filter-push (λ d. nat_eq (turn_of d) n) ys due))

module _ {X : Type 0} (key : X → ℕ) (m : ℕ) where
  -- without the k-th element of key m
  abbrev pub without_at : ℕ → List X → List X
  without_at k xs = without_nth (λ x. nat_eq (key x) m) k xs

  at_key-without_same : (xs : List X) (k : ℕ) → at_key key m (without_at k xs) ≡ remove (at_key key m xs) k
  at_key-without_same [] zero = refl
  at_key-without_same [] (suc k) = refl
  at_key-without_same (x ∷ xs) zero = go (nat_eq (key x) m) refl (at_key-without_same xs 0) where
    go : (b : Bool) → nat_eq (key x) m ≡ b → at_key key m (without_at 0 xs) ≡ remove (at_key key m xs) 0 →
        at_key key m (cond b xs (x ∷ without_at 0 xs)) ≡ remove (cond b (x ∷ at_key key m xs) (at_key key m xs)) 0
    go true is rest = refl
    go false is rest = rw is rest
  at_key-without_same (x ∷ xs) (suc k) = go (nat_eq (key x) m) refl (at_key-without_same xs) where
    go : (b : Bool) → nat_eq (key x) m ≡ b → ((j : ℕ) → at_key key m (without_at j xs) ≡ remove (at_key key m xs) j) →
        at_key key m (x ∷ without_at (cond b k (suc k)) xs) ≡ remove (cond b (x ∷ at_key key m xs) (at_key key m xs)) (suc k)
    go true is rest = rw is (ap (λ ys. x ∷ ys) (rest k))
    go false is rest = rw is (rest (suc k))

  at_key-without_other : (n : ℕ) → n ≢ m → (xs : List X) (k : ℕ) → at_key key n (without_at k xs) ≡ at_key key n xs
  at_key-without_other n differ [] zero = refl
  at_key-without_other n differ [] (suc k) = refl
  at_key-without_other n differ (x ∷ xs) zero = go (nat_eq (key x) m) refl (at_key-without_other n differ xs 0) where
    go : (b : Bool) → nat_eq (key x) m ≡ b → at_key key n (without_at 0 xs) ≡ at_key key n xs →
        at_key key n (cond b xs (x ∷ without_at 0 xs)) ≡ at_key key n (x ∷ xs)
    go true is rest = let no : nat_eq (key x) n ≡ false = grind (arith, nat_tests) in rw no refl
    go false is rest = rw rest refl
  at_key-without_other n differ (x ∷ xs) (suc k) = rw (at_key-without_other n differ xs (cond (nat_eq (key x) m) k (suc k))) refl

-- taking the k-th Active due of now keeps lists of one order so
pub without-same : (now k : ℕ) (xs ys : List Due) → in_order xs ≡ in_order ys → in_order (without_nth (is_active_at now) k xs) ≡ in_order (without_nth (is_active_at now) k ys)
without-same now k xs ys same =
    let m = 3 * now + 0 in
    let by_turn = λ (zs : List Due). without_same (is_active_at now) (λ d. nat_eq (turn_of d) m) (is_due_in-turn Active now) zs k in
    ap in_order (by_turn xs)
    ∙ sorted_same turn_of _ _ (λ n. go n (cases_eq n m))
    ∙ sym (ap in_order (by_turn ys)) where
      go : (n : ℕ) → (n ≡ 3 * now + 0) ⊎ (n ≢ 3 * now + 0) → at_key turn_of n (without_at turn_of (3 * now + 0) k xs) ≡ at_key turn_of n (without_at turn_of (3 * now + 0) k ys)
      go n (inl is) = subst (λ t. at_key turn_of t (without_at turn_of (3 * now + 0) k xs) ≡ at_key turn_of t (without_at turn_of (3 * now + 0) k ys)) (sym is)
          (at_key-without_same turn_of (3 * now + 0) xs k ∙ ap (λ zs. remove zs k) (turns_same xs ys same (3 * now + 0)) ∙ sym (at_key-without_same turn_of (3 * now + 0) ys k))
      go n (inr differ) = at_key-without_other turn_of (3 * now + 0) n differ xs k ∙ turns_same xs ys same n ∙ sym (at_key-without_other turn_of (3 * now + 0) n differ ys k)

any-filter : {X : Type 0} (p : X → Bool) (xs : List X) → list_any p xs ≡ list_any (λ _. true) (filter p xs)
any-filter p [] = refl
any-filter p (x ∷ xs) = elim (p x) as (λ b. b || list_any p xs ≡ list_any (λ _. true) (cond b (x ∷ filter p xs) (filter p xs))) [ true ↦ refl | false ↦ any-filter p xs ]

-- lists of one order have dues of a region at now, or have none, together
pub any-same : (region : Region) (now : ℕ) (xs ys : List Due) → in_order xs ≡ in_order ys → list_any (is_due_in region now) xs ≡ list_any (is_due_in region now) ys
any-same region now xs ys same =
    let k = 3 * now + rank_of region in
    let by_turn = λ (zs : List Due). filter_same (is_due_in region now) (λ d. nat_eq (turn_of d) k) (is_due_in-turn region now) zs in
    any-filter (is_due_in region now) xs ∙ ap (list_any (λ _. true)) (by_turn xs ∙ turns_same xs ys same k ∙ sym (by_turn ys)) ∙ sym (any-filter (is_due_in region now) ys)

or_false : (a b : Bool) → a || b ≡ false → (a ≡ false) × (b ≡ false)
or_false true b e = cc
or_false false b e = (refl, e)

-- the due as an Active one
abbrev activated : Due → Due
activated due = record due { region = Active }

activated_turn : (region : Region) (now : ℕ) (due : Due) → is_due_in region now due ≡ true → turn_of (activated due) ≡ 3 * now + 0
activated_turn region now due is =
    let at = (both_true (nat_eq due.time now) (region_eq due.region region) is).0 in
    let time : due.time ≡ now = grind (arith, nat_tests) in
    omega arith

at_turn-promoted : (region : Region) (now : ℕ) (xs : List Due) → list_any (is_active_at now) xs ≡ false → at_key turn_of (3 * now + 0) (promote region now xs) ≡ map activated (at_key turn_of (3 * now + rank_of region) xs)
at_turn-promoted region now [] none = refl
at_turn-promoted region now (x ∷ xs) none =
    let parts = or_false (is_active_at now x) (list_any (is_active_at now) xs) none in
    go (is_due_in region now x) refl parts.0 (at_turn-promoted region now xs parts.1) where
      go : (b : Bool) → is_due_in region now x ≡ b → is_active_at now x ≡ false → at_key turn_of (3 * now + 0) (promote region now xs) ≡ map activated (at_key turn_of (3 * now + rank_of region) xs) →
          at_key turn_of (3 * now + 0) (cond b (activated x) x ∷ promote region now xs) ≡ map activated (at_key turn_of (3 * now + rank_of region) (x ∷ xs))
      go true is not rest =
          let turn = activated_turn region now x is in
          let here : nat_eq (turn_of (activated x)) (3 * now + 0) ≡ true = grind (arith, nat_tests) in
          let there : nat_eq (turn_of x) (3 * now + rank_of region) ≡ true = sym (is_due_in-turn region now x) ∙ is in
          rw (here, there) (ap (λ zs. activated x ∷ zs) rest)
      go false is not rest =
          let here : nat_eq (turn_of x) (3 * now + 0) ≡ false = sym (is_due_in-turn Active now x) ∙ not in
          let there : nat_eq (turn_of x) (3 * now + rank_of region) ≡ false = sym (is_due_in-turn region now x) ∙ is in
          rw (here, there) rest

at_turn-left : (region : Region) (now : ℕ) → 0 < rank_of region → (xs : List Due) → at_key turn_of (3 * now + rank_of region) (promote region now xs) ≡ []
at_turn-left region now later [] = refl
at_turn-left region now later (x ∷ xs) = go (is_due_in region now x) refl (at_turn-left region now later xs) where
  go : (b : Bool) → is_due_in region now x ≡ b → at_key turn_of (3 * now + rank_of region) (promote region now xs) ≡ [] → at_key turn_of (3 * now + rank_of region) (cond b (activated x) x ∷ promote region now xs) ≡ []
  go true is rest =
      let turn = activated_turn region now x is in
      let no : nat_eq (turn_of (activated x)) (3 * now + rank_of region) ≡ false = grind (arith, nat_tests) in
      rw no rest
  go false is rest =
      let no : nat_eq (turn_of x) (3 * now + rank_of region) ≡ false = sym (is_due_in-turn region now x) ∙ is in
      rw no rest

at_turn-other : (region : Region) (now n : ℕ) → n ≢ 3 * now + 0 → n ≢ 3 * now + rank_of region → (xs : List Due) → at_key turn_of n (promote region now xs) ≡ at_key turn_of n xs
at_turn-other region now n first second [] = refl
at_turn-other region now n first second (x ∷ xs) = go (is_due_in region now x) refl (at_turn-other region now n first second xs) where
  go : (b : Bool) → is_due_in region now x ≡ b → at_key turn_of n (promote region now xs) ≡ at_key turn_of n xs → at_key turn_of n (cond b (activated x) x ∷ promote region now xs) ≡ at_key turn_of n (x ∷ xs)
  go true is rest =
      let turn = activated_turn region now x is in
      let no : nat_eq (turn_of (activated x)) n ≡ false = grind (arith, nat_tests) in
      let was : nat_eq (turn_of x) (3 * now + rank_of region) ≡ true = sym (is_due_in-turn region now x) ∙ is in
      let old : nat_eq (turn_of x) n ≡ false = grind (arith, nat_tests) in
      rw (no, old) rest
  go false is rest = rw rest refl

-- where none is Active at now, promoting a region keeps lists of one order so
pub promote-same : (region : Region) (now : ℕ) → 0 < rank_of region → (xs ys : List Due) → list_any (is_active_at now) xs ≡ false → in_order xs ≡ in_order ys → in_order (promote region now xs) ≡ in_order (promote region now ys)
promote-same region now later xs ys none same =
    let none' : list_any (is_active_at now) ys ≡ false = sym (any-same Active now xs ys same) ∙ none in
    sorted_same turn_of _ _ (λ n. go n (cases_eq n (3 * now + 0)) (cases_eq n (3 * now + rank_of region)) none') where
      go : (n : ℕ) → (n ≡ 3 * now + 0) ⊎ (n ≢ 3 * now + 0) → (n ≡ 3 * now + rank_of region) ⊎ (n ≢ 3 * now + rank_of region) → list_any (is_active_at now) ys ≡ false → at_key turn_of n (promote region now xs) ≡ at_key turn_of n (promote region now ys)
      go n (inl is) other none' = subst (λ k. at_key turn_of k (promote region now xs) ≡ at_key turn_of k (promote region now ys)) (sym is)
          (at_turn-promoted region now xs none ∙ ap (map activated) (turns_same xs ys same (3 * now + rank_of region)) ∙ sym (at_turn-promoted region now ys none'))
      go n (inr first) (inl is) none' = subst (λ k. at_key turn_of k (promote region now xs) ≡ at_key turn_of k (promote region now ys)) (sym is)
          (at_turn-left region now later xs ∙ sym (at_turn-left region now later ys))
      go n (inr first) (inr second) none' = at_turn-other region now n first second xs ∙ turns_same xs ys same n ∙ sym (at_turn-other region now n first second ys)

-- settling keeps lists of one order so
pub settled-same : (now : ℕ) (xs ys : List Due) → in_order xs ≡ in_order ys → in_order (settled_dues now xs) ≡ in_order (settled_dues now ys)
settled-same now xs ys same = rw (sym (any-same Active now xs ys same), sym (any-same Inactive now xs ys same)) (go _ _ refl) where
  go : (b c : Bool) → list_any (is_active_at now) xs ≡ b → in_order (cond b xs (cond c (promote Inactive now xs) (promote Nonblocking now xs))) ≡ in_order (cond b ys (cond c (promote Inactive now ys) (promote Nonblocking now ys)))
  go true c none = same
  go false true none = promote-same Inactive now (omega arith) xs ys none same
  go false false none = promote-same Nonblocking now (omega arith) xs ys none same

-- a list in order is in order
pub in_order-again : (xs : List Due) → in_order (in_order xs) ≡ in_order xs
in_order-again xs = sorted_same turn_of (in_order xs) xs (λ n. at_key-sorted turn_of n xs)

module _ {X : Type 0} (key : X → ℕ) where
  length-insert_by_key : (x : X) (ys : List X) → length (insert_by_key key x ys) ≡ suc (length ys)
  length-insert_by_key x [] = refl
  length-insert_by_key x (y ∷ ys) = elim (nat_lt (key x) (key y)) as (λ b. length (cond b (x ∷ y ∷ ys) (y ∷ insert_by_key key x ys)) ≡ suc (suc (length ys))) [ true ↦ refl | false ↦ ap suc (length-insert_by_key x ys) ]

  length-from : (sorted xs : List X) → length (fold (λ s x. insert_by_key key x s) sorted xs) ≡ length sorted + length xs
  length-from sorted [] = omega arith
  length-from sorted (x ∷ xs) = omega (arith, length-from (insert_by_key key x sorted) xs, length-insert_by_key x sorted)

  all_from : (P : X → Type 0) (sorted xs : List X) → AllByRecursion P sorted → AllByRecursion P xs → AllByRecursion P (fold (λ s x. insert_by_key key x s) sorted xs)
  all_from P sorted [] a b = a
  all_from P sorted (x ∷ xs) a b = all_from P (insert_by_key key x sorted) xs (All-insert key P x sorted b.0 a) b.1

  uninserted : (P : X → Type 0) (x : X) (ys : List X) → AllByRecursion P (insert_by_key key x ys) → P x × AllByRecursion P ys
  uninserted P x [] all = (all.0, tt)
  uninserted P x (y ∷ ys) all = go (nat_lt (key x) (key y)) all (uninserted P x ys) where
    go : (b : Bool) → AllByRecursion P (cond b (x ∷ y ∷ ys) (y ∷ insert_by_key key x ys)) → (AllByRecursion P (insert_by_key key x ys) → P x × AllByRecursion P ys) → P x × AllByRecursion P (y ∷ ys)
    go true a rest = (a.0, a.1)
    go false a rest = let r = rest a.1 in (r.0, (a.0, r.1))

  unsorted_from : (P : X → Type 0) (sorted xs : List X) → AllByRecursion P (fold (λ s x. insert_by_key key x s) sorted xs) → AllByRecursion P sorted × AllByRecursion P xs
  unsorted_from P sorted [] all = (all, tt)
  unsorted_from P sorted (x ∷ xs) all =
      let r = unsorted_from P (insert_by_key key x sorted) xs all in
      let u = uninserted P x sorted r.0 in
      (u.1, (u.0, r.1))

-- putting in order keeps the number of dues
pub length-in_order : (xs : List Due) → length (in_order xs) ≡ length xs
length-in_order xs = omega (arith, length-from turn_of [] xs)

-- what holds of each due holds of each in order, and the other way round
pub all_in_order : (P : Due → Type 0) (xs : List Due) → AllByRecursion P xs → AllByRecursion P (in_order xs)
all_in_order P xs all = all_from turn_of P [] xs tt all

pub all_from_in_order : (P : Due → Type 0) (xs : List Due) → AllByRecursion P (in_order xs) → AllByRecursion P xs
all_from_in_order P xs all = (unsorted_from turn_of P [] xs all).1

lengths_same : (xs ys : List Due) → in_order xs ≡ in_order ys → length xs ≡ length ys
lengths_same xs ys same = sym (length-in_order xs) ∙ ap length same ∙ length-in_order ys

-- settling answers alike for lists of one order
pub settled_of-same : (now : ℕ) (xs ys : List Due) → in_order xs ≡ in_order ys → settled_of now xs ≡ settled_of now ys
settled_of-same now [] [] same = refl
settled_of-same now [] (y ∷ ys) same = absurd (omega (arith, lengths_same [] (y ∷ ys) same))
settled_of-same now (x ∷ xs) [] same = absurd (omega (arith, lengths_same (x ∷ xs) [] same))
settled_of-same now (x ∷ xs) (y ∷ ys) same = ap (λ b. cond b Ready TimeEnds) (any-same Active now (x ∷ xs) (y ∷ ys) same)

least_from : (low time : ℕ) (dues : List Due) → low ≤ time → AllByRecursion (λ due. low ≤ due.time) dues → low ≤ earliest time dues
least_from low time [] le all = le
least_from low time (due ∷ dues) le all = let first = all.0 in least_from low (min time due.time) dues (omega arith) all.1

least_low : (xs : List Due) (y : Due) (ys : List Due) → in_order xs ≡ in_order (y ∷ ys) → least_time xs ≤ least_time (y ∷ ys)
least_low xs y ys same =
    let P = λ (due : Due). least_time xs ≤ due.time in
    let here = all_in_order P xs (recursion_from_All P xs (least_time-le xs)) in
    let there = all_from_in_order P (y ∷ ys) (subst (AllByRecursion P) same here) in
    least_from (least_time xs) y.time ys there.0 there.1

-- lists of one order have one least time
pub least_time-same : (xs ys : List Due) → in_order xs ≡ in_order ys → least_time xs ≡ least_time ys
least_time-same [] [] same = refl
least_time-same [] (y ∷ ys) same = absurd (omega (arith, lengths_same [] (y ∷ ys) same))
least_time-same (x ∷ xs) [] same = absurd (omega (arith, lengths_same (x ∷ xs) [] same))
least_time-same (x ∷ xs) (y ∷ ys) same =
    let one = least_low (x ∷ xs) y ys same in
    let other = least_low (y ∷ ys) x xs (sym same) in
    omega arith

pub settled_of-ends : (now : ℕ) (dues : List Due) → settled_of now dues ≡ TimeEnds → list_any (is_active_at now) dues ≡ false
settled_of-ends now [] ends = cc
settled_of-ends now (due ∷ dues) ends = go (list_any (is_active_at now) (due ∷ dues)) ends where
  go : (b : Bool) → cond b Ready TimeEnds ≡ TimeEnds → b ≡ false
  go true e = cc
  go false e = refl
