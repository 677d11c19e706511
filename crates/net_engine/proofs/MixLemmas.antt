-- A list of which the front is new already and the rest is old still: how a loop that goes over its places keeps it.
use Rattle.std.proofs.Common.{◌≡◌, ℕ, zero, suc, ◌+◌, ◌<◌, ◌≤◌, List, [], ◌∷◌, ◌++◌, length, map, set, get_or, take, drop, slice_get, Some, None, refl, sym, ap, ◌∙◌, arith, append_assoc}
use Rattle.std.specs.List.{zip, enumerate_from}
use Rattle.std.proofs.lemmas.List.{drop_more, take_more, set_at, length-take-le, take_all, drop_all, append-nil, map-append}
use Rattle.std.proofs.lemmas.Option.{get_or_from_slice_get, slice_get-get_or, slice_get_within}

abbrev pub mixed : {X : Type 0} → List X → List X → ℕ → List X
mixed new old i = take i new ++ drop i old

-- the place at which the old ones begin gets its new element
pub mixed-more : {X : Type 0} (new old : List X) (i : ℕ) (y : X) → length new ≡ length old → slice_get new i ≡ Some y → set (mixed new old i) i y ≡ mixed new old (i + 1)
mixed-more new old i y same at =
    let in_new : i < length new = slice_get_within new i y at in
    let in_old : i < length old = omega arith in
    ap (λ xs. set (take i new ++ xs) i y) (drop_more old i y in_old)
    ∙ set_at (take i new) (get_or old i y) (drop (i + 1) old) y i (length-take-le i new (omega arith))
    ∙ sym (ap (λ xs. xs ++ drop (i + 1) old) (take_more new i y in_new ∙ ap (λ x. take i new ++ x ∷ []) (get_or_from_slice_get new i y y at)) ∙ append_assoc (take i new) (y ∷ []) (drop (i + 1) old))

past-front : {X : Type 0} (xs : List X) (k : ℕ) → slice_get (take k xs ++ []) k ≡ None
past-front xs zero = refl
past-front [] (suc k) = refl
past-front (x ∷ xs) (suc k) = past-front xs k

-- and has its old one before
pub mixed-read : {X : Type 0} (new old : List X) (i : ℕ) → i ≤ length new → slice_get (mixed new old i) i ≡ slice_get old i
mixed-read new old zero le = refl
mixed-read [] old (suc i) le = absurd (omega arith)
mixed-read (n ∷ new) [] (suc i) le = past-front new i
mixed-read (n ∷ new) (o ∷ old) (suc i) le = mixed-read new old i (omega arith)

-- all are new
pub mixed-all : {X : Type 0} (new old : List X) (i : ℕ) → length new ≤ i → length old ≤ i → mixed new old i ≡ new
mixed-all new old i news olds = ap (λ xs. take i new ++ xs) (drop_all i old olds) ∙ append-nil (take i new) ∙ take_all i new news

-- ---- elements of lists that are made of others

pub zip-get : {X Y : Type 0} (xs : List X) (ys : List Y) (i : ℕ) (x : X) (y : Y) → slice_get xs i ≡ Some x → slice_get ys i ≡ Some y → slice_get (zip xs ys) i ≡ Some (x, y)
zip-get [] ys i x y at_x at_y = cc
zip-get (a ∷ xs) [] i x y at_x at_y = cc
zip-get (a ∷ xs) (b ∷ ys) zero x y at_x at_y =
    let left : a ≡ x = cc in
    let right : b ≡ y = cc in
    ap (λ v. Some (v, b)) left ∙ ap (λ w. Some (x, w)) right
zip-get (a ∷ xs) (b ∷ ys) (suc i) x y at_x at_y = zip-get xs ys i x y at_x at_y

pub zip-length : {X Y : Type 0} (xs : List X) (ys : List Y) → length xs ≡ length ys → length (zip xs ys) ≡ length ys
zip-length [] [] same = refl
zip-length [] (y ∷ ys) same = cc
zip-length (x ∷ xs) [] same = cc
zip-length (x ∷ xs) (y ∷ ys) same = ap suc (zip-length xs ys (omega arith))

pub map-get : {X Y : Type 0} (f : X → Y) (xs : List X) (i : ℕ) (x : X) → slice_get xs i ≡ Some x → slice_get (map f xs) i ≡ Some (f x)
map-get f [] i x at = cc
map-get f (a ∷ xs) zero x at = let same : a ≡ x = cc in ap (λ v. Some (f v)) same
map-get f (a ∷ xs) (suc i) x at = map-get f xs i x at

pub enumerate-get : {X : Type 0} (xs : List X) (from i : ℕ) (x : X) → slice_get xs i ≡ Some x → slice_get (enumerate_from from xs) i ≡ Some (from + i, x)
enumerate-get [] from i x at = cc
enumerate-get (a ∷ xs) from zero x at =
    let same : a ≡ x = cc in
    let here : from ≡ from + 0 = omega arith in
    ap (λ v. Some (from, v)) same ∙ ap (λ k. Some (k, x)) here
enumerate-get (a ∷ xs) from (suc i) x at =
    let there : from + 1 + i ≡ from + suc i = omega arith in
    enumerate-get xs (from + 1) i x at ∙ ap (λ k. Some (k, x)) there

pub enumerate-length : {X : Type 0} (xs : List X) (from : ℕ) → length (enumerate_from from xs) ≡ length xs
enumerate-length [] from = refl
enumerate-length (x ∷ xs) from = ap suc (enumerate-length xs (from + 1))

pub mixed-length : {X : Type 0} (new old : List X) (i : ℕ) → length new ≡ length old → length (mixed new old i) ≡ length old
mixed-length new old zero same = refl
mixed-length [] [] (suc i) same = refl
mixed-length [] (o ∷ old) (suc i) same = cc
mixed-length (n ∷ new) [] (suc i) same = cc
mixed-length (n ∷ new) (o ∷ old) (suc i) same = ap suc (mixed-length new old i (omega arith))

-- an element that was read
pub read-at : {X : Type 0} (xs : List X) (i : ℕ) (x : X) → i < length xs → x ≡ get_or xs i x → slice_get xs i ≡ Some x
read-at xs i x inside is = slice_get-get_or xs i x inside ∙ ap (λ y. Some y) (sym is)

-- ---- lists that are made element by element

pub mapped-more : {X Y : Type 0} (f : X → Y) (xs : List X) (made new : List Y) (i : ℕ) (x : X) (y : Y) → made ≡ map f (take i xs) → slice_get xs i ≡ Some x → y ≡ f x → new ≡ made ++ y ∷ [] → new ≡ map f (take (i + 1) xs)
mapped-more f xs made new i x y before at is pushed =
    let inside : i < length xs = slice_get_within xs i x at in
    let next : take (i + 1) xs ≡ take i xs ++ x ∷ [] = take_more xs i x inside ∙ ap (λ z. take i xs ++ z ∷ []) (get_or_from_slice_get xs i x x at) in
    pushed ∙ ap (λ ys. ys ++ y ∷ []) before ∙ ap (λ z. map f (take i xs) ++ z ∷ []) is ∙ sym (map-append f (take i xs) (x ∷ [])) ∙ ap (map f) (sym next)

pub mapped-all : {X Y : Type 0} (f : X → Y) (xs : List X) (made : List Y) (i : ℕ) → length xs ≤ i → made ≡ map f (take i xs) → made ≡ map f xs
mapped-all f xs made i enough is = is ∙ ap (map f) (take_all i xs enough)

pub set-same : {X : Type 0} (xs : List X) (i : ℕ) (x : X) → slice_get xs i ≡ Some x → xs ≡ set xs i x
set-same [] i x at = cc
set-same (a ∷ xs) zero x at = let same : a ≡ x = cc in ap (λ y. y ∷ xs) same
set-same (a ∷ xs) (suc i) x at = ap (λ ys. a ∷ ys) (set-same xs i x at)
