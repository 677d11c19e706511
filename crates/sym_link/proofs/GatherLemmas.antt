-- Loops over the statements of a file that push what each gives.
use Rattle.std.proofs.Common.{◌≡◌, ℕ, ◌+◌, ◌<◌, ◌≤◌, List, [], ◌++◌, length, get_or, drop, Option, sym, ap, subst, ◌∙◌, append-nil}
use Rattle.std.proofs.lemmas.List.{at_drop_all, at_drop_more}
use Rattle.std.specs.List.{cons_option}
use Rattle.sym_link.specs.declared.placed.Placed.{Placed}
use Rattle.sym_link.specs.Meaning.{gather}
use Rattle.sym_link.proofs.ListLemmas.{left-more}

-- what the statement at a place gives is pushed; the list that is gone through is that of the file
pub gather-more : {X : Type 0} (gives : ℕ → Placed → Option X) (all l : List Placed) (i : ℕ) (d : Placed) (o : Option X) (whole done new : List X) → l ≡ all → i < length l → o ≡ gives i (get_or l i d) → whole ≡ done ++ gather gives i (drop i all) → new ≡ done ++ cons_option o [] → whole ≡ new ++ gather gives (i + 1) (drop (i + 1) all)
gather-more gives all l i d o whole done new same lt is so_far pushed =
    left-more whole done new (gather gives (i + 1) (drop (i + 1) all)) o
    (so_far ∙ ap (λ r. done ++ r)
    (at_drop_more (gather gives i) all i d (subst (λ x. i < length x) same lt)
    ∙ ap (λ p. cons_option p (gather gives (i + 1) (drop (i + 1) all))) (sym (is ∙ ap (λ (x : List Placed). gives i (get_or x i d)) same))))
    pushed

pub gather-all : {X : Type 0} (gives : ℕ → Placed → Option X) (all l : List Placed) (i : ℕ) (whole done : List X) → l ≡ all → length l ≤ i → whole ≡ done ++ gather gives i (drop i all) → done ≡ whole
gather-all gives all l i whole done same end so_far =
    sym (so_far ∙ ap (λ r. done ++ r) (at_drop_all (gather gives i) all i (subst (λ x. length x ≤ i) same end)) ∙ append-nil done)
