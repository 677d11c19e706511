-- The bytes of a text, part by part, and where its closing quote is found.
use Rattle.std.proofs.Common.{◌≡◌, ℕ, suc, List, [], ◌∷◌, ◌++◌, length, take, refl, ap, ◌∙◌, Bool, true, false, not, cond, ◌&&◌, eqb, Option, Some, None, inl, inr}
use Rattle.std.specs.Prelude.{IfSome, All}
use Rattle.std.specs.Option.{option_map}
use Rattle.std.specs.List.{concat}
use Rattle.std.proofs.lemmas.List.Elements.{All-nil, All-cons, All-head, All-tail}
use Rattle.std.proofs.lemmas.Bool.{eqb-true, and_parts, not-true}
use Rattle.vvp_lex.specs.Token.{text_len}
use Rattle.vvp_lex.specs.Longest.{is_plain, IsPiece}

-- a part is passed over
text_len-plain : (b : ℕ) (text : List ℕ) (n : ℕ) → is_plain b ≡ true → text_len false text ≡ Some n → text_len false (b ∷ text) ≡ Some (suc n)
text_len-plain b text n plain later =
    let last = and_parts (not (eqb b 10) && not (eqb b 34)) (not (eqb b 92)) plain in
    let first = and_parts (not (eqb b 10)) (not (eqb b 34)) last.0 in
    rw (not-true _ first.0, not-true _ first.1, not-true _ last.1, later) refl

text_len-escaped : (b : ℕ) (text : List ℕ) (n : ℕ) → eqb b 10 ≡ false → text_len false text ≡ Some n → text_len false (92 ∷ b ∷ text) ≡ Some (suc (suc n))
text_len-escaped b text n goes_on later = rw (goes_on, later) refl

-- parts and a quote are a text, whatever follows
pub text_len-pieces : (pieces : List (List ℕ)) (tail : List ℕ) → All IsPiece pieces → text_len false (concat pieces ++ (34 ∷ tail)) ≡ Some (suc (length (concat pieces)))
text_len-pieces [] tail all = refl
text_len-pieces (piece ∷ pieces) tail all = by_piece piece (All-head IsPiece piece pieces all) (text_len-pieces pieces tail (All-tail IsPiece piece pieces all))
  where
    by_piece : (piece : List ℕ) → IsPiece piece → text_len false (concat pieces ++ (34 ∷ tail)) ≡ Some (suc (length (concat pieces))) → text_len false ((piece ++ concat pieces) ++ (34 ∷ tail)) ≡ Some (suc (length (piece ++ concat pieces)))
    by_piece piece (inl is) later = rw is.1 (text_len-plain is.0 (concat pieces ++ (34 ∷ tail)) (suc (length (concat pieces))) is.2 later)
    by_piece piece (inr is) later = rw is.1 (text_len-escaped is.0 (concat pieces ++ (34 ∷ tail)) (suc (length (concat pieces))) is.2 later)

-- The first bytes are parts and a quote. Where a backslash stands before: a byte, and then those.
abbrev pub AreQuoted : Bool → List ℕ → ℕ → Type 0
AreQuoted false xs n = (pieces : List (List ℕ)) × All IsPiece pieces × (take n xs ≡ concat pieces ++ 34 ∷ [])
AreQuoted true xs n =
    (b : ℕ) × (eqb b 10 ≡ false) × (pieces : List (List ℕ)) × All IsPiece pieces × (take n xs ≡ b ∷ (concat pieces ++ 34 ∷ []))

-- what is read up to the closing quote are parts and that quote
pub quoted-front : (escaped : Bool) (xs : List ℕ) → IfSome (text_len escaped xs) (AreQuoted escaped xs)
quoted-front escaped [] = tt
quoted-front escaped (b ∷ xs) = by_end (eqb b 10) refl escaped (λ e. quoted-front e xs)
  where
    Later : Type 0
    Later = (e : Bool) → IfSome (text_len e xs) (AreQuoted e xs)

    mapped : (e later : Bool) (o : Option ℕ) → IfSome o (AreQuoted later xs) → ((m : ℕ) → AreQuoted later xs m → AreQuoted e (b ∷ xs) (suc m)) → IfSome (option_map suc o) (AreQuoted e (b ∷ xs))
    mapped e later None is step = tt
    mapped e later (Some m) is step = step m is

    plain : eqb b 10 ≡ false → eqb b 34 ≡ false → eqb b 92 ≡ false → is_plain b ≡ true
    plain goes quote escape = rw (goes, quote, escape) refl

    by_escape : eqb b 10 ≡ false → eqb b 34 ≡ false → Later → (escape : Bool) → eqb b 92 ≡ escape → IfSome (option_map suc (text_len escape xs)) (AreQuoted false (b ∷ xs))
    by_escape goes quote later true escape = mapped false true _ (later true) (λ m is. (
      (92 ∷ is.0 ∷ []) ∷ is.2,
      All-cons IsPiece (92 ∷ is.0 ∷ []) is.2 (inr (is.0, refl, is.1)) is.3,
      ap (λ l. b ∷ l) is.4 ∙ ap (λ c. c ∷ is.0 ∷ (concat is.2 ++ 34 ∷ [])) (eqb-true b 92 escape),
    ))
    by_escape goes quote later false escape = mapped false false _ (later false) (λ m is. (
      (b ∷ []) ∷ is.0,
      All-cons IsPiece (b ∷ []) is.0 (inl (b, refl, plain goes quote escape)) is.1,
      ap (λ l. b ∷ l) is.2,
    ))

    by_quote : eqb b 10 ≡ false → Later → (quote : Bool) → eqb b 34 ≡ quote → IfSome (cond quote (Some 1) (option_map suc (text_len (eqb b 92) xs))) (AreQuoted false (b ∷ xs))
    by_quote goes later true quote = ([], All-nil IsPiece, ap (λ c. c ∷ []) (eqb-true b 34 quote))
    by_quote goes later false quote = by_escape goes quote later (eqb b 92) refl

    by_end : (ends : Bool) → eqb b 10 ≡ ends → (e : Bool) → Later → IfSome (cond ends None (cond e (option_map suc (text_len false xs)) (cond (eqb b 34) (Some 1) (option_map suc (text_len (eqb b 92) xs))))) (AreQuoted e (b ∷ xs))
    by_end true goes e later = tt
    by_end false goes true later = mapped true false _ (later false) (λ m is. (b, goes, is.0, is.1, ap (λ l. b ∷ l) is.2))
    by_end false goes false later = by_quote goes later (eqb b 34) refl
