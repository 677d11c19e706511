-- The nets of a header as a declaration is added: each code that an item has names a net of the item's size.
use Rattle.std.proofs.Common.{◌≡◌, ℕ, ◌<◌, Bool, true, false, cond, not, List, [], ◌∷◌, ◌++◌, length, refl, sym, ap, ◌∙◌, arith, Some, None, Option, slice_get, length-append}
use Rattle.std.specs.Prelude.{position}
use Rattle.std.specs.Str.{bytes_eq}
use Rattle.std.proofs.Math.Seq.{get_or-append_seam}
use Rattle.std.proofs.lemmas.Bool.{false≢true}
use Rattle.std.proofs.lemmas.Bool.Decides.{nat_tests}
use Rattle.std.proofs.lemmas.List.{get_or_append_left}
use Rattle.std.proofs.lemmas.List.Folds.{position_or_len_push}
use Rattle.std.proofs.lemmas.List.Sums.{prefix_len-le-length}
use Rattle.std.proofs.lemmas.Option.{slice_get_within, get_or_from_slice_get, slice_get-get_or}
use Rattle.std.proofs.lemmas.Slice.Eq.{bytes_eq-Decides}
use Rattle.vcd_read.specs.Parts.{net_of}
use Rattle.vcd_write.specs.Code.{code}
use Rattle.vcd_law.proofs.CodeFacts.{code-one}

-- ---- the first place of an element, as the list grows by one that passes the test, or doesn't
position-more : {X : Type 0} (p : X → Bool) (xs : List X) (y : X) (b : Bool) → p y ≡ b → (b ≡ true → position p xs ≡ None) → position p (xs ++ y ∷ []) ≡ cond b (Some (length xs)) (position p xs)
position-more p xs y true e fresh =
    let push = rw e at (position_or_len_push p xs y) in
    let none = fresh refl in
    grind (arith, nat_tests, push, length-append xs (y ∷ []), none, prefix_len-le-length (λ x. not (p x)) xs)
position-more p xs y false e fresh =
    let push = rw e at (position_or_len_push p xs y) in
    grind (arith, nat_tests, push, length-append xs (y ∷ []), prefix_len-le-length (λ x. not (p x)) xs)

-- ---- lists one longer
pub get-left : {X : Type 0} (xs : List X) (y : X) (i : ℕ) (x : X) → slice_get xs i ≡ Some x → slice_get (xs ++ y ∷ []) i ≡ Some x
get-left xs y i x h =
    let inside : i < length xs = slice_get_within xs i x h in
    let long = length-append xs (y ∷ []) in
    slice_get-get_or (xs ++ y ∷ []) i x (omega (arith, inside, long)) ∙ ap Some (get_or_append_left xs (y ∷ []) x i inside ∙ get_or_from_slice_get xs i x x h)

pub get-last : {X : Type 0} (xs : List X) (y : X) → slice_get (xs ++ y ∷ []) (length xs) ≡ Some y
get-last xs y =
    let long = length-append xs (y ∷ []) in
    slice_get-get_or (xs ++ y ∷ []) (length xs) y (omega (arith, long)) ∙ ap Some (get_or-append_seam xs y [] y)

-- ---- declarations
pub record IsDeclared (nets : List (List ℕ)) (k : ℕ) : Type 0 where
  pub net : ℕ
  pub names : net_of nets (code k) ≡ Some net

-- as many nets as widths, and each net that has an item's code is as wide as the item
pub record Fits (sizes : List ℕ) (nets : List (List ℕ)) (widths : List ℕ) : Type 0 where
  pub as_many : length nets ≡ length widths
  pub each : (k net width : ℕ) → slice_get sizes k ≡ Some width → net_of nets (code k) ≡ Some net → slice_get widths net ≡ Some width

same-some : (x y : ℕ) → ◌≡◌ {A = Option ℕ} (Some x) (Some y) → x ≡ y
same-some x y e = cc

-- a code that names no net names the next one
module _ (sizes : List ℕ) (nets : List (List ℕ)) (widths : List ℕ) (fits : Fits sizes nets widths) (k size : ℕ) (here : slice_get sizes k ≡ Some size) (fresh : net_of nets (code k) ≡ None) where
  new-named : net_of (nets ++ code k ∷ []) (code k) ≡ Some (length nets)
  new-named = position-more (bytes_eq (code k)) nets (code k) true ((bytes_eq-Decides (code k) (code k)).1 refl) (λ e. fresh)

  -- another code names what it named before
  other-named : (j : ℕ) → bytes_eq (code j) (code k) ≡ false → net_of (nets ++ code k ∷ []) (code j) ≡ net_of nets (code j)
  other-named j apart = position-more (bytes_eq (code j)) nets (code k) false apart (λ e. absurd (false≢true e))

  new-width : (j net width : ℕ) → slice_get sizes j ≡ Some width → net_of (nets ++ code k ∷ []) (code j) ≡ Some net → slice_get (widths ++ size ∷ []) net ≡ Some width
  new-width j net width there names = by_same (bytes_eq (code j) (code k)) refl
    where
      by_same : (same : Bool) → bytes_eq (code j) (code k) ≡ same → slice_get (widths ++ size ∷ []) net ≡ Some width
      by_same true e =
          let one : j ≡ k = code-one j k ((bytes_eq-Decides (code j) (code k)).0 e) in
          let last : length nets ≡ net = same-some (length nets) net (sym new-named ∙ ap (λ i. net_of (nets ++ code k ∷ []) (code i)) (sym one) ∙ names) in
          let same : size ≡ width = same-some size width (sym here ∙ ap (slice_get sizes) (sym one) ∙ there) in
          ap (slice_get (widths ++ size ∷ [])) (sym last ∙ fits.as_many) ∙ get-last widths size ∙ ap Some same
      by_same false e =
          get-left widths size net width (fits.each j net width there (sym (other-named j e) ∙ names))

  pub new-fits : Fits sizes (nets ++ code k ∷ []) (widths ++ size ∷ [])
  new-fits = record {
    as_many = (let long = length-append nets (code k ∷ []) in let wide = length-append widths (size ∷ []) in let many = fits.as_many in omega (arith, long, wide, many));
    each = new-width;
  }

  pub new-kept : (j : ℕ) → IsDeclared nets j → IsDeclared (nets ++ code k ∷ []) j
  new-kept j h = by_same (bytes_eq (code j) (code k)) refl
    where
      by_same : (same : Bool) → bytes_eq (code j) (code k) ≡ same → IsDeclared (nets ++ code k ∷ []) j
      by_same true e =
          let one : j ≡ k = code-one j k ((bytes_eq-Decides (code j) (code k)).0 e) in
          record { net = length nets; names = ap (λ i. net_of (nets ++ code k ∷ []) (code i)) one ∙ new-named }
      by_same false e = record { net = h.net; names = other-named j e ∙ h.names }

  pub new-found : IsDeclared (nets ++ code k ∷ []) k
  new-found = record { net = length nets; names = new-named }
