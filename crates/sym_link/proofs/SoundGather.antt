-- Lists of what statements give: what stands at the number of a statement, and what holds of each element.
use Rattle.std.proofs.Common.{◌≡◌, ◌⊎◌, inl, inr, ℕ, zero, suc, ◌+◌, ◌<◌, ◌≤◌, Bool, true, false, cond, List, [], ◌∷◌, length, take, count_by, sum_by, slice_get, Option, None, Some, is_some, refl, sym, ap, subst, ◌∙◌, arith}
use Rattle.std.proofs.lemmas.Bool.{cases_Bool}
use Rattle.std.proofs.lemmas.List.Elements.{All-cons, All-nil}
use Rattle.std.proofs.lemmas.List.Sums.{sum_by-cons}
use Rattle.std.specs.Prelude.{All, ◌||◌}
use Rattle.std.specs.List.{cons_option, list_any}
use Rattle.std.specs.Option.{ForSome, option_map_or}
use Rattle.sym_link.specs.declared.placed.Placed.{Placed}
use Rattle.sym_link.specs.Meaning.{gather, latest}

-- Counts

abbrev pick : Bool → ℕ
pick b = cond b 1 0

pub count-yes : {X : Type 0} (test : X → Bool) (x : X) (xs : List X) → test x ≡ true → count_by test (x ∷ xs) ≡ suc (count_by test xs)
count-yes test x xs is =
    let sum : count_by test (x ∷ xs) ≡ cond (test x) 1 0 + count_by test xs = sum_by-cons (λ y. cond (test y) 1 0) x xs in
    let one : pick (test x) ≡ pick true = ap pick is in
    omega (arith, sum, one)

pub count-no : {X : Type 0} (test : X → Bool) (x : X) (xs : List X) → test x ≡ false → count_by test (x ∷ xs) ≡ count_by test xs
count-no test x xs is =
    let sum : count_by test (x ∷ xs) ≡ cond (test x) 1 0 + count_by test xs = sum_by-cons (λ y. cond (test y) 1 0) x xs in
    let none : pick (test x) ≡ pick false = ap pick is in
    omega (arith, sum, none)

-- a count goes up at an element that passes
pub count-below : {X : Type 0} (test : X → Bool) (xs : List X) (place later : ℕ) (x : X) → place < later → slice_get xs place ≡ Some x → test x ≡ true → count_by test (take place xs) < count_by test (take later xs)
count-below test [] place later x lt there is = absurd (cc)
count-below test (y ∷ xs) place zero x lt there is = absurd (omega arith)
count-below test (y ∷ xs) zero (suc later) x lt there is =
    let same : y ≡ x = cc in
    let one : count_by test (y ∷ take later xs) ≡ suc (count_by test (take later xs)) = count-yes test y (take later xs) (ap test same ∙ is) in
    omega (arith, one)
count-below test (y ∷ xs) (suc place) (suc later) x lt there is =
    let less : place < later = omega (arith, lt) in
    let more : count_by test (take place xs) < count_by test (take later xs) = count-below test xs place later x less there is in
    let left : count_by test (y ∷ take place xs) ≡ cond (test y) 1 0 + count_by test (take place xs) = sum_by-cons (λ z. cond (test z) 1 0) y (take place xs) in
    let right : count_by test (y ∷ take later xs) ≡ cond (test y) 1 0 + count_by test (take later xs) = sum_by-cons (λ z. cond (test z) 1 0) y (take later xs) in
    omega (arith, more, left, right)

pub count-within : {X : Type 0} (test : X → Bool) (xs : List X) (place : ℕ) (x : X) → slice_get xs place ≡ Some x → test x ≡ true → count_by test (take place xs) < count_by test xs
count-within test [] place x there is = absurd (cc)
count-within test (y ∷ xs) zero x there is =
    let same : y ≡ x = cc in
    let one : count_by test (y ∷ xs) ≡ suc (count_by test xs) = count-yes test y xs (ap test same ∙ is) in
    omega (arith, one)
count-within test (y ∷ xs) (suc place) x there is =
    let more : count_by test (take place xs) < count_by test xs = count-within test xs place x there is in
    let left : count_by test (y ∷ take place xs) ≡ cond (test y) 1 0 + count_by test (take place xs) = sum_by-cons (λ z. cond (test z) 1 0) y (take place xs) in
    let right : count_by test (y ∷ xs) ≡ cond (test y) 1 0 + count_by test xs = sum_by-cons (λ z. cond (test z) 1 0) y xs in
    omega (arith, more, left, right)

-- where a test implies another, fewer pass it
pub count-fewer : {X : Type 0} (test wider : X → Bool) (xs : List X) → ((x : X) → test x ≡ true → wider x ≡ true) → count_by test xs ≤ count_by wider xs
count-fewer test wider [] implied = omega arith
count-fewer test wider (x ∷ xs) implied = by (count-fewer test wider xs implied) (test x) refl
  where
    by : count_by test xs ≤ count_by wider xs → (b : Bool) → test x ≡ b → count_by test (x ∷ xs) ≤ count_by wider (x ∷ xs)
    by fewer true is =
        let left : count_by test (x ∷ xs) ≡ suc (count_by test xs) = count-yes test x xs is in
        let right : count_by wider (x ∷ xs) ≡ suc (count_by wider xs) = count-yes wider x xs (implied x is) in
        omega (arith, left, right, fewer)
    by fewer false is =
        let left : count_by test (x ∷ xs) ≡ count_by test xs = count-no test x xs is in
        let right : count_by wider (x ∷ xs) ≡ cond (wider x) 1 0 + count_by wider xs = sum_by-cons (λ z. cond (wider z) 1 0) x xs in
        omega (arith, left, right, fewer)

-- where each element that passes has few of them before it, there are few
few-from : {X : Type 0} (test : X → Bool) (most before : ℕ) (xs : List X) → ((place : ℕ) (x : X) → slice_get xs place ≡ Some x → test x ≡ true → before + count_by test (take place xs) < most) → before ≤ most → before + count_by test xs ≤ most
few-from test most before [] each le = omega (arith, le)
few-from {X} test most before (x ∷ xs) each le = by (cases_Bool (test x)) (λ (n : ℕ) next less. few-from test most n xs next less)
  where
    by : (test x ≡ true) ⊎ (test x ≡ false) → ((n : ℕ) → ((place : ℕ) (y : X) → slice_get xs place ≡ Some y → test y ≡ true → n + count_by test (take place xs) < most) → n ≤ most → n + count_by test xs ≤ most) → before + count_by test (x ∷ xs) ≤ most
    by (inl is) rest =
        let one : count_by test (x ∷ xs) ≡ suc (count_by test xs) = count-yes test x xs is in
        let here : before + 0 < most = each 0 x refl is in
        let less : before + 1 ≤ most = omega (arith, here) in
        let more : before + 1 + count_by test xs ≤ most =
        rest (before + 1)
        (λ place y there passes.
        let far : before + count_by test (x ∷ take place xs) < most = each (suc place) y there passes in
        let same : count_by test (x ∷ take place xs) ≡ suc (count_by test (take place xs)) = count-yes test x (take place xs) is in
        omega (arith, far, same))
        less in
        omega (arith, one, more)
    by (inr is) rest =
        let none : count_by test (x ∷ xs) ≡ count_by test xs = count-no test x xs is in
        let more : before + count_by test xs ≤ most =
        rest before
        (λ place y there passes.
        let far : before + count_by test (x ∷ take place xs) < most = each (suc place) y there passes in
        let same : count_by test (x ∷ take place xs) ≡ count_by test (take place xs) = count-no test x (take place xs) is in
        omega (arith, far, same))
        le in
        omega (arith, none, more)

pub few-all : {X : Type 0} (test : X → Bool) (most : ℕ) (xs : List X) → ((place : ℕ) (x : X) → slice_get xs place ≡ Some x → test x ≡ true → count_by test (take place xs) < most) → count_by test xs ≤ most
few-all test most xs each =
    let any : 0 ≤ most = omega arith in
    let all : 0 + count_by test xs ≤ most = few-from test most 0 xs (λ place x there is. let less : count_by test (take place xs) < most = each place x there is in let same : 0 + count_by test (take place xs) < most = omega (arith, less) in same) any in
    omega (arith, all)

-- the same of a sum
sum-from : {X : Type 0} (f : X → ℕ) (most before : ℕ) (xs : List X) → ((place : ℕ) (x : X) → slice_get xs place ≡ Some x → before + sum_by f (take place xs) + f x ≤ most) → before ≤ most → before + sum_by f xs ≤ most
sum-from f most before [] each le = omega (arith, le)
sum-from {X} f most before (x ∷ xs) each le =
    let here : before + 0 + f x ≤ most = each 0 x refl in
    let less : before + f x ≤ most = omega (arith, here) in
    let more : sum_by f (x ∷ xs) ≡ f x + sum_by f xs = sum_by-cons f x xs in
    let rest : before + f x + sum_by f xs ≤ most = sum-from f most (before + f x) xs next less in
    omega (arith, more, rest)
  where
    next : (place : ℕ) (y : X) → slice_get xs place ≡ Some y → before + f x + sum_by f (take place xs) + f y ≤ most
    next place y there =
        let more : before + sum_by f (x ∷ take place xs) + f y ≤ most = each (suc place) y there in
        let sum : sum_by f (x ∷ take place xs) ≡ f x + sum_by f (take place xs) = sum_by-cons f x (take place xs) in
        omega (arith, more, sum)

pub sum-all : {X : Type 0} (f : X → ℕ) (most : ℕ) (xs : List X) → ((place : ℕ) (x : X) → slice_get xs place ≡ Some x → sum_by f (take place xs) + f x ≤ most) → sum_by f xs ≤ most
sum-all f most xs each =
    let any : 0 ≤ most = omega arith in
    let all : 0 + sum_by f xs ≤ most = sum-from f most 0 xs (λ place x there. let less : sum_by f (take place xs) + f x ≤ most = each place x there in let same : 0 + sum_by f (take place xs) + f x ≤ most = omega (arith, less) in same) any in
    omega (arith, all)

-- What stands at a number

-- what a statement gives stands at its number
gather-at : {X : Type 0} (gives : ℕ → Placed → Option X) (test : Placed → Bool) (start : ℕ) (all : List Placed) (place : ℕ) (s : Placed) → ((p : ℕ) (t : Placed) → is_some (gives p t) ≡ test t) → slice_get all place ≡ Some s → test s ≡ true → slice_get (gather gives start all) (count_by test (take place all)) ≡ gives (start + place) s
gather-at gives test start [] place s tests there is = absurd (cc)
gather-at {X} gives test start (t ∷ all) zero s tests there is =
    let same : t ≡ s = cc in
    by (gives start t) refl same
  where
    by : (o : Option X) → gives start t ≡ o → t ≡ s → slice_get (cons_option o (gather gives (start + 1) all)) 0 ≡ gives (start + 0) s
    by None given same =
        let yes : is_some (gives start t) ≡ true = tests start t ∙ ap test same ∙ is in
        let none : is_some (gives start t) ≡ false = ap is_some given in
        absurd (cc (yes, none))
    by (Some y) given same =
        let here : start ≡ start + 0 = omega arith in
        sym given ∙ ap (λ n. gives n t) here ∙ ap (gives (start + 0)) same
gather-at {X} gives test start (t ∷ all) (suc place) s tests there is =
    let here : start + 1 + place ≡ start + suc place = omega arith in
    by (gives start t) refl (gather-at gives test (start + 1) all place s tests there is ∙ ap (λ n. gives n s) here)
  where
    by : (o : Option X) → gives start t ≡ o → slice_get (gather gives (start + 1) all) (count_by test (take place all)) ≡ gives (start + suc place) s → slice_get (cons_option o (gather gives (start + 1) all)) (count_by test (t ∷ take place all)) ≡ gives (start + suc place) s
    by None given more =
        ap (slice_get (gather gives (start + 1) all)) (count-no test t (take place all) (sym (tests start t) ∙ ap is_some given)) ∙ more
    by (Some y) given more =
        ap (slice_get (y ∷ gather gives (start + 1) all)) (count-yes test t (take place all) (sym (tests start t) ∙ ap is_some given)) ∙ more

pub gather-get : {X : Type 0} (gives : ℕ → Placed → Option X) (test : Placed → Bool) (all : List Placed) (place : ℕ) (s : Placed) → ((p : ℕ) (t : Placed) → is_some (gives p t) ≡ test t) → slice_get all place ≡ Some s → test s ≡ true → slice_get (gather gives 0 all) (count_by test (take place all)) ≡ gives place s
gather-get gives test all place s tests there is =
    let here : 0 + place ≡ place = omega arith in
    gather-at gives test 0 all place s tests there is ∙ ap (λ n. gives n s) here

-- how many there are
gather-count : {X : Type 0} (gives : ℕ → Placed → Option X) (test : Placed → Bool) (start : ℕ) (all : List Placed) → ((p : ℕ) (t : Placed) → is_some (gives p t) ≡ test t) → length (gather gives start all) ≡ count_by test all
gather-count gives test start [] tests = refl
gather-count {X} gives test start (t ∷ all) tests = by (gives start t) refl (gather-count gives test (start + 1) all tests)
  where
    by : (o : Option X) → gives start t ≡ o → length (gather gives (start + 1) all) ≡ count_by test all → length (cons_option o (gather gives (start + 1) all)) ≡ count_by test (t ∷ all)
    by None given more = more ∙ sym (count-no test t all (sym (tests start t) ∙ ap is_some given))
    by (Some y) given more = ap suc more ∙ sym (count-yes test t all (sym (tests start t) ∙ ap is_some given))

pub gather-length : {X : Type 0} (gives : ℕ → Placed → Option X) (test : Placed → Bool) (all : List Placed) → ((p : ℕ) (t : Placed) → is_some (gives p t) ≡ test t) → length (gather gives 0 all) ≡ count_by test all
gather-length gives test all tests = gather-count gives test 0 all tests

-- where an element of a list comes from
pub record Given (X : Type 0) (gives : ℕ → Placed → Option X) (test : Placed → Bool) (all : List Placed) (number : ℕ) (x : X) : Type 0 where
  pub place : ℕ
  pub from : Placed
  pub there : slice_get all place ≡ Some from
  pub passes : test from ≡ true
  pub given : gives place from ≡ Some x
  pub count : number ≡ count_by test (take place all)

gather-find : {X : Type 0} (gives : ℕ → Placed → Option X) (test : Placed → Bool) (start : ℕ) (all : List Placed) (number : ℕ) (x : X) → ((p : ℕ) (t : Placed) → is_some (gives p t) ≡ test t) → slice_get (gather gives start all) number ≡ Some x → Given X (λ p. gives (start + p)) test all number x
gather-find gives test start [] number x tests is = absurd (cc)
gather-find {X} gives test start (t ∷ all) number x tests is = by (gives start t) refl number is (λ n. gather-find gives test (start + 1) all n x tests)
  where
    next : (n m : ℕ) → ((place : ℕ) → n ≡ count_by test (take place all) → m ≡ count_by test (t ∷ take place all)) → Given X (λ p. gives (start + 1 + p)) test all n x → Given X (λ p. gives (start + p)) test (t ∷ all) m x
    next n m count found = record {
      place = suc found.place;
      from = found.from;
      there = found.there;
      passes = found.passes;
      given = (let here : start + suc found.place ≡ start + 1 + found.place = omega arith in ap (λ k. gives k found.from) here ∙ found.given);
      count = count found.place found.count;
    }

    by : (o : Option X) → gives start t ≡ o → (n : ℕ) → slice_get (cons_option o (gather gives (start + 1) all)) n ≡ Some x → ((m : ℕ) → slice_get (gather gives (start + 1) all) m ≡ Some x → Given X (λ p. gives (start + 1 + p)) test all m x) → Given X (λ p. gives (start + p)) test (t ∷ all) n x
    by None given n is more =
        next n n (λ place same. same ∙ sym (count-no test t (take place all) (sym (tests start t) ∙ ap is_some given))) (more n is)
    by (Some y) given zero is more = record {
      place = 0;
      from = t;
      there = refl;
      passes = sym (tests start t) ∙ ap is_some given;
      given = (let here : start + 0 ≡ start = omega arith in ap (λ k. gives k t) here ∙ given ∙ is);
      count = refl;
    }
    by (Some y) given (suc n) is more =
        next n (suc n) (λ place same. ap suc same ∙ sym (count-yes test t (take place all) (sym (tests start t) ∙ ap is_some given))) (more n is)

pub gather-found : {X : Type 0} (gives : ℕ → Placed → Option X) (test : Placed → Bool) (all : List Placed) (number : ℕ) (x : X) → ((p : ℕ) (t : Placed) → is_some (gives p t) ≡ test t) → slice_get (gather gives 0 all) number ≡ Some x → Given X gives test all number x
gather-found {X} gives test all number x tests is =
    let found : Given X (λ p. gives (0 + p)) test all number x = gather-find gives test 0 all number x tests is in
    record {
      place = found.place;
      from = found.from;
      there = found.there;
      passes = found.passes;
      given = (let here : found.place ≡ 0 + found.place = omega arith in ap (λ k. gives k found.from) here ∙ found.given);
      count = found.count;
    }

-- what holds of what each statement gives
gather-each : {X : Type 0} (P : X → Type 0) (gives : ℕ → Placed → Option X) (start : ℕ) (all : List Placed) → ((place : ℕ) (s : Placed) → slice_get all place ≡ Some s → ForSome (gives (start + place) s) P) → All P (gather gives start all)
gather-each P gives start [] each = All-nil P
gather-each {X} P gives start (t ∷ all) each =
    by (gives start t) refl
    (gather-each P gives (start + 1) all (λ place s there. let here : start + suc place ≡ start + 1 + place = omega arith in subst (λ n. ForSome (gives n s) P) here (each (suc place) s there)))
  where
    by : (o : Option X) → gives start t ≡ o → All P (gather gives (start + 1) all) → All P (cons_option o (gather gives (start + 1) all))
    by None given rest = rest
    by (Some y) given rest =
        let here : start ≡ start + 0 = omega arith in
        All-cons P y (gather gives (start + 1) all) (each 0 t refl y (ap (λ n. gives n t) (sym here) ∙ given)) rest

pub gather-all : {X : Type 0} (P : X → Type 0) (gives : ℕ → Placed → Option X) (all : List Placed) → ((place : ℕ) (s : Placed) → slice_get all place ≡ Some s → ForSome (gives place s) P) → All P (gather gives 0 all)
gather-all P gives all each =
    gather-each P gives 0 all (λ place s there. let here : place ≡ 0 + place = omega arith in subst (λ n. ForSome (gives n s) P) here (each place s there))

-- what a list of numbers sums to
gather-sum_from : {X : Type 0} (g : X → ℕ) (f : Placed → ℕ) (gives : ℕ → Placed → Option X) (start : ℕ) (all : List Placed) → ((p : ℕ) (t : Placed) → option_map_or g (gives p t) 0 ≡ f t) → sum_by g (gather gives start all) ≡ sum_by f all
gather-sum_from g f gives start [] same = refl
gather-sum_from {X} g f gives start (t ∷ all) same = by (gives start t) refl (gather-sum_from g f gives (start + 1) all same)
  where
    by : (o : Option X) → gives start t ≡ o → sum_by g (gather gives (start + 1) all) ≡ sum_by f all → sum_by g (cons_option o (gather gives (start + 1) all)) ≡ sum_by f (t ∷ all)
    by None given more =
        let none : 0 ≡ f t = sym (ap (λ o. option_map_or g o 0) given) ∙ same start t in
        let sum : sum_by f (t ∷ all) ≡ f t + sum_by f all = sum_by-cons f t all in
        omega (arith, none, more, sum)
    by (Some y) given more =
        let one : g y ≡ f t = sym (ap (λ o. option_map_or g o 0) given) ∙ same start t in
        let sum : sum_by f (t ∷ all) ≡ f t + sum_by f all = sum_by-cons f t all in
        let left : sum_by g (y ∷ gather gives (start + 1) all) ≡ g y + sum_by g (gather gives (start + 1) all) = sum_by-cons g y (gather gives (start + 1) all) in
        omega (arith, one, more, sum, left)

pub gather-sum : {X : Type 0} (g : X → ℕ) (f : Placed → ℕ) (gives : ℕ → Placed → Option X) (all : List Placed) → ((p : ℕ) (t : Placed) → option_map_or g (gives p t) 0 ≡ f t) → sum_by g (gather gives 0 all) ≡ sum_by f all
gather-sum g f gives all same = gather-sum_from g f gives 0 all same

-- the last one of a list, where the first value holds or there is one
latest-from : {X : Type 0} (P : X → Type 0) (gives : ℕ → Placed → Option X) (test : Placed → Bool) (start : ℕ) (all : List Placed) (x : X) → ((p : ℕ) (t : Placed) → is_some (gives p t) ≡ test t) → ((place : ℕ) (s : Placed) → slice_get all place ≡ Some s → ForSome (gives (start + place) s) P) → P x ⊎ (list_any test all ≡ true) → P (latest x (gather gives start all))
latest-from P gives test start [] x tests each (inl holds) = holds
latest-from P gives test start [] x tests each (inr is) = absurd (cc)
latest-from {X} P gives test start (t ∷ all) x tests each first =
    by (gives start t) refl first
    (λ (y : X) any. latest-from P gives test (start + 1) all y tests (λ place s there. let here : start + suc place ≡ start + 1 + place = omega arith in subst (λ n. ForSome (gives n s) P) here (each (suc place) s there)) any)
  where
    by : (o : Option X) → gives start t ≡ o → P x ⊎ (list_any test (t ∷ all) ≡ true) → ((y : X) → P y ⊎ (list_any test all ≡ true) → P (latest y (gather gives (start + 1) all))) → P (latest x (cons_option o (gather gives (start + 1) all)))
    by None given (inl holds) rest = rest x (inl holds)
    by None given (inr is) rest =
        let fails : test t ≡ false = sym (tests start t) ∙ ap is_some given in
        rest x (inr (sym (ap (λ b. b || list_any test all) fails) ∙ is))
    by (Some y) given any rest =
        let here : start ≡ start + 0 = omega arith in
        rest y (inl (each 0 t refl y (ap (λ n. gives n t) (sym here) ∙ given)))

pub gather-latest : {X : Type 0} (P : X → Type 0) (gives : ℕ → Placed → Option X) (test : Placed → Bool) (all : List Placed) (x : X) → ((p : ℕ) (t : Placed) → is_some (gives p t) ≡ test t) → ((place : ℕ) (s : Placed) → slice_get all place ≡ Some s → ForSome (gives place s) P) → P x ⊎ (list_any test all ≡ true) → P (latest x (gather gives 0 all))
gather-latest P gives test all x tests each first =
    latest-from P gives test 0 all x tests (λ place s there. let here : place ≡ 0 + place = omega arith in subst (λ n. ForSome (gives n s) P) here (each place s there)) first
