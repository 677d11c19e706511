-- What is counted before a place, and the places of labels, with one more statement.
use Rattle.std.proofs.Common.{◌≡◌, ◌⊎◌, inl, inr, ℕ, zero, suc, ◌+◌, ◌*◌, ◌^◌, ◌<◌, ◌≤◌, Bool, List, [], ◌∷◌, ◌++◌, length, get_or, take, drop, Option, Some, None, count_by, refl, sym, ap, subst, ◌∙◌, arith, if◌then◌else◌}
use Rattle.std.proofs.Math.Bool.{or-false}
use Rattle.std.proofs.lemmas.Bool.{cases_eq}
use Rattle.std.proofs.lemmas.List.{length-take-le, take_more}
use Rattle.std.proofs.lemmas.List.Folds.{list_any-append}
use Rattle.std.proofs.lemmas.List.Sums.{count_by-le-length, sum_by_push}
use Rattle.std.proofs.lemmas.Option.{same_Some, slice_get_read, slice_get_within}
use Rattle.std.specs.Prelude.{cond, slice_get, ◌||◌}
use Rattle.sym_link.specs.declared.labels.Counts.{Counts}
use Rattle.sym_link.specs.declared.placed.Placed.{Placed}
use Rattle.sym_link.specs.Known.{AreKept, IsCounted, counted}
use Rattle.sym_link.specs.Places.{counts_before, counts_of, is_item_statement, is_opcode_statement, is_scope_form, is_thread_form, words_in}
use Rattle.sym_link.specs.Sorts.{makes_current}
use Rattle.sym_link.proofs.ListLemmas.{push-length, push-new, push-old}

abbrev made : ℕ → ℕ → ℕ → ℕ → ℕ → Bool → Counts
made items opcodes scopes starts words has_scope =
    record { items = items; opcodes = opcodes; scopes = scopes; starts = starts; words = words; has_scope = has_scope }

same-counts : (a a' b b' c c' d d' e e' : ℕ) (f f' : Bool) → a ≡ a' → b ≡ b' → c ≡ c' → d ≡ d' → e ≡ e' → f ≡ f' → made a b c d e f ≡ made a' b' c' d' e' f'
same-counts a a' b b' c c' d d' e e' f f' p q r s t u =
    ap (λ x. made x b c d e f) p ∙ ap (λ x. made a' x c d e f) q ∙ ap (λ x. made a' b' x d e f) r ∙ ap (λ x. made a' b' c' x e f) s ∙ ap (λ x. made a' b' c' d' x f) t ∙ ap (λ x. made a' b' c' d' e' x) u

-- the counts with one more statement
counts-snoc : (before : List Placed) (s : Placed) → counts_of (before ++ s ∷ []) ≡ counted (counts_of before) s
counts-snoc before s =
    same-counts _ _ _ _ _ _ _ _ _ _ _ _
    (sum_by_push (λ (x : Placed). cond (is_item_statement x) 1 0) before s)
    (sum_by_push (λ (x : Placed). cond (is_opcode_statement x) 1 0) before s)
    (sum_by_push (λ (x : Placed). cond (is_scope_form x.what) 1 0) before s)
    (sum_by_push (λ (x : Placed). cond (is_thread_form x.what) 1 0) before s)
    (sum_by_push (λ (x : Placed). words_in x.what) before s)
    (list_any-append (λ (x : Placed). makes_current x.what) before (s ∷ []) ∙ ap (λ b. (counts_of before).has_scope || b) (or-false (makes_current s.what)))

pub counts-more : (xs : List Placed) (i : ℕ) (x : Placed) (old new : Counts) → i < length xs → x ≡ get_or xs i x → old ≡ counts_of (take i xs) → new ≡ counted old x → new ≡ counts_of (take (i + 1) xs)
counts-more xs i x old new lt is so_far one =
    one
    ∙ ap (λ c. counted c x) so_far
    ∙ sym (counts-snoc (take i xs) x)
    ∙ sym (ap counts_of (take_more xs i x lt ∙ ap (λ (y : Placed). take i xs ++ y ∷ []) (sym is)))

-- what is counted is no more than the statements
few : (n : ℕ) (p : Placed → Bool) (xs : List Placed) (i : ℕ) → i < length xs → length xs ≤ n → count_by p (take i xs) < n
few n p xs i lt le =
    let counted_le = count_by-le-length p (take i xs) in
    let taken = length-take-le i xs (omega (arith, lt)) in
    omega (arith, counted_le, taken, lt, le)

-- on by one statement
pub counted-on : (xs : List Placed) (i : ℕ) (x : Placed) (old new : Counts) → i < length xs → length xs ≤ 2 ^ 26 → x ≡ get_or xs i x
    → (old.items < 2 ^ 26 → old.opcodes < 2 ^ 26 → old.scopes < 2 ^ 26 → old.starts < 2 ^ 26 → old.words < 2 ^ 62 → new ≡ counted old x)
    → new.words ≤ old.words + 4294967296 → IsCounted xs i old → IsCounted xs (i + 1) new
counted-on xs i x old new lt le is one words so_far =
    let same = so_far.exact in
    let bound = so_far.words in
    let items = subst (λ (c : Counts). c.items < 2 ^ 26) (sym same) (few (2 ^ 26) is_item_statement xs i lt le) in
    let opcodes = subst (λ (c : Counts). c.opcodes < 2 ^ 26) (sym same) (few (2 ^ 26) is_opcode_statement xs i lt le) in
    let scopes = subst (λ (c : Counts). c.scopes < 2 ^ 26) (sym same) (few (2 ^ 26) (λ s. is_scope_form s.what) xs i lt le) in
    let starts = subst (λ (c : Counts). c.starts < 2 ^ 26) (sym same) (few (2 ^ 26) (λ s. is_thread_form s.what) xs i lt le) in
    let all_words : old.words < 2 ^ 62 = omega (arith, bound, lt, le) in
    record {
      exact = counts-more xs i x old new lt is same (one items opcodes scopes starts all_words);
      words = omega (arith, words, bound);
    }

pub counted-none : (xs : List Placed) (none : Counts) → none ≡ counts_of [] → IsCounted xs 0 none
counted-none xs none is = record {
  exact = is;
  words = let same : none.words ≡ 0 = ap (λ (c : Counts). c.words) is in omega (arith, same);
}

-- Counts that are kept

abbrev pub AreKeptHere : List Placed → List Counts → Type 0
AreKeptHere all kept = (n : ℕ) → n < length kept → (counts : Counts) × (slice_get kept n ≡ Some counts) × IsCounted all (n * 8) counts

pub kept-none : (xs : List Placed) (none : Counts) → none ≡ counts_of [] → AreKeptHere xs (none ∷ [])
kept-none xs none is zero lt = (none, refl, counted-none xs none is)
kept-none xs none is (suc n) lt = absurd (omega (arith, lt))

pub kept-more : (xs : List Placed) (place : ℕ) (kept : List Counts) (new : Counts) → length kept * 8 ≡ place + 8 → AreKeptHere xs kept → IsCounted xs (place + 8) new → AreKeptHere xs (kept ++ new ∷ [])
kept-more xs place kept new len each is n lt = by (cases_eq n (length kept))
  where
    by : (n ≡ length kept) ⊎ (n ≡ length kept → ⊥) → (counts : Counts) × (slice_get (kept ++ new ∷ []) n ≡ Some counts) × IsCounted xs (n * 8) counts
    by (inl same) =
        let at : place + 8 ≡ n * 8 = omega (arith, same, len) in
        (new, ap (slice_get (kept ++ new ∷ [])) same ∙ push-new kept new, subst (λ p. IsCounted xs p new) at is)
    by (inr other) =
        let long = push-length kept new in
        let within : n < length kept = omega (arith, lt, long, other) in
        let old = each n within in
        (old.0, push-old kept new n within ∙ old.1, old.2)

pub kept-all : (xs : List Placed) (place : ℕ) (kept : List Counts) → length kept * 8 ≡ place + 8 → length xs < place + 8 → AreKeptHere xs kept → AreKept xs kept
kept-all xs place kept len end each n le = each n (omega (arith, len, end, le))

-- the nearest counts that are kept
pub kept-nearest : (all : List Placed) (kept : List Counts) (n : ℕ) (got : Counts) → n * 8 ≤ length all → AreKept all kept → n < length kept → got ≡ get_or kept n got → IsCounted all (n * 8) got
kept-nearest all kept n got le each lt at =
    let there = each n le in
    subst (IsCounted all (n * 8)) (same_Some there.0 got (sym there.1 ∙ slice_get_read kept (length kept) n got refl lt at)) there.2

pub kept-within : (all : List Placed) (kept : List Counts) (n : ℕ) → n * 8 ≤ length all → AreKept all kept → n < length kept
kept-within all kept n le each = let there = each n le in slice_get_within kept n there.0 there.1
