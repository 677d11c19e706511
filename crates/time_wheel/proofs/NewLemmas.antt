-- A wheel with no dues.
use Rattle.std.proofs.Common.{◌≡◌, ◌≢◌, ℕ, ◌<◌, ◌⊎◌, inl, inr, List, [], length, get_or, replicate, sym, ap, subst, ◌∙◌, arith, None}
use Rattle.std.specs.List.{AllByRecursion}
use Rattle.std.proofs.lemmas.List.{length-replicate}
use Rattle.std.proofs.lemmas.Bool.{cases_eq}
use Rattle.event_pool.specs.declared.agenda.Due.{Due}
use Rattle.event_pool.specs.Contents.{Contents}
use Rattle.event_pool.specs.Order.{in_order}
use Rattle.time_wheel.specs.TimeWheel.{IsPlaced, IsKept, joined, shown, least_of}
use Rattle.time_wheel.specs.declared.queues.TheConstants.{ACTIVE, OVERFLOW, QUEUES}
use Rattle.time_wheel.proofs.JoinedLemmas.{joined-none, joined-replicate, get_or-replicate_none}
use Rattle.time_wheel.proofs.ShownLemmas.{length-shown, shown_empty, shown_other}

shown_none : (queues : List (List Due)) → ACTIVE < length queues → ((k : ℕ) → get_or queues k [] ≡ []) → (k : ℕ) → get_or (shown queues) k [] ≡ []
shown_none queues long none k = go (cases_eq k ACTIVE) where
  go : (k ≡ ACTIVE) ⊎ (k ≢ ACTIVE) → get_or (shown queues) k [] ≡ []
  go (inl same) = ap (λ j. get_or (shown queues) j []) same ∙ shown_empty queues long (none ACTIVE)
  go (inr other) = shown_other queues k other ∙ none k

none_in : (n : ℕ) (queues : List (List Due)) → queues ≡ replicate n [] → (k : ℕ) → get_or queues k [] ≡ []
none_in n queues is k = ap (λ qs. get_or qs k []) is ∙ get_or-replicate_none n k

pub kept-new : (n : ℕ) (contents : Contents Due) → n ≡ QUEUES → contents.queues ≡ replicate n [] → contents.spare ≡ 0 → IsKept 0 0 None contents
kept-new n contents size is spare =
    let counted : length contents.queues ≡ QUEUES = ap length is ∙ length-replicate n [] ∙ size in
    record {
      wheel = record {
        counted = length-shown contents.queues ∙ counted;
        placed = λ q within. subst (AllByRecursion (IsPlaced 0 q)) (sym (shown_none contents.queues (omega arith) (none_in n contents.queues is) q)) tt;
      };
      counted = ap length (ap joined is ∙ joined-replicate n);
      fits = omega arith;
      least = sym (ap least_of (none_in n contents.queues is OVERFLOW));
    }

pub dues-new : (n : ℕ) (queues : List (List Due)) → n ≡ QUEUES → queues ≡ replicate n [] → in_order (joined (shown queues)) ≡ []
dues-new n queues size is =
    let counted : length queues ≡ QUEUES = ap length is ∙ length-replicate n [] ∙ size in
    ap in_order (joined-none (shown queues) (λ k within. shown_none queues (omega arith) (none_in n queues is) k))
