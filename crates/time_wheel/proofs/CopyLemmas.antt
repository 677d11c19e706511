-- Copying the dues out, queue by queue.
use Rattle.std.proofs.Common.{◌≡◌, ◌≢◌, ℕ, ◌+◌, ◌<◌, ◌⊎◌, inl, inr, false, nat_eq, List, [], ◌∷◌, ◌++◌, length, get_or, take, map, refl, sym, ap, ◌∙◌, arith}
use Rattle.std.proofs.lemmas.List.{append_assoc, append-nil, map_more, take_more}
use Rattle.std.proofs.lemmas.Bool.{cases_eq}
use Rattle.std.proofs.lemmas.Bool.Decides.{nat_tests}
use Rattle.event_pool.specs.declared.agenda.Due.{Due}
use Rattle.time_wheel.specs.TimeWheel.{joined, shown}
use Rattle.time_wheel.specs.Queues.{shown_due}
use Rattle.time_wheel.specs.declared.queues.TheConstants.{ACTIVE}
use Rattle.time_wheel.proofs.ShownLemmas.{shown_active, shown_other}

map_other : (q : ℕ) → nat_eq q ACTIVE ≡ false → (dues : List Due) → dues ≡ map (shown_due q) dues
map_other q other [] = refl
map_other q other (due ∷ dues) = rw other (ap (λ ds. due ∷ ds) (map_other q other dues))

-- a queue as it is shown
pub shown_at : (q : ℕ) (queues : List (List Due)) → ACTIVE < length queues → get_or (shown queues) q [] ≡ map (shown_due q) (get_or queues q [])
shown_at q queues long = go (cases_eq q ACTIVE) where
  go : (q ≡ ACTIVE) ⊎ (q ≢ ACTIVE) → get_or (shown queues) q [] ≡ map (shown_due q) (get_or queues q [])
  go (inl same) = ap (λ j. get_or (shown queues) j []) same ∙ shown_active queues long ∙ ap (λ j. map (shown_due j) (get_or queues j [])) (sym same)
  go (inr other) = let test : nat_eq q ACTIVE ≡ false = grind (arith, nat_tests) in shown_other queues q other ∙ map_other q test (get_or queues q [])

-- one more due is copied
pub copied-more : (q k : ℕ) (items before dues dues' : List Due) (due : Due) → k < length items → due ≡ get_or items k due → dues ≡ before ++ map (shown_due q) (take k items) →
    dues' ≡ dues ++ shown_due q due ∷ [] → dues' ≡ before ++ map (shown_due q) (take (k + 1) items)
copied-more q k items before dues dues' due within read so_far made =
    let done = map (shown_due q) (take k items) in
    made ∙ ap (λ xs. xs ++ shown_due q due ∷ []) so_far ∙ append_assoc before done (shown_due q due ∷ [])
    ∙ ap (λ d. before ++ (done ++ shown_due q d ∷ [])) read ∙ ap (λ xs. before ++ xs) (sym (map_more (shown_due q) items k due within))

-- one more queue is copied
pub joined-more : (xss : List (List Due)) (q : ℕ) → q < length xss → joined (take q xss) ++ get_or xss q [] ≡ joined (take (q + 1) xss)
joined-more xss q within = sym (ap joined (take_more xss q [] within) ∙ joined-push (take q xss) (get_or xss q [])) where
  joined-push : (xss : List (List Due)) (xs : List Due) → joined (xss ++ xs ∷ []) ≡ joined xss ++ xs
  joined-push [] xs = append-nil xs
  joined-push (ys ∷ xss) xs = ap (λ zs. ys ++ zs) (joined-push xss xs) ∙ sym (append_assoc ys (joined xss) xs)
