-- Each thread that goes on when others end is live, joins one of them, and isn't one of them.
use Rattle.std.proofs.Common.{◌≡◌, ℕ, nat_eq, Bool, true, false, cond, Option, Some, None, List, [], ◌∷◌, filter_map, refl, sym, ap, ◌∙◌, inl, inr, ◌⊎◌}
use Rattle.std.specs.List.{cons_option}
use Rattle.vvp_threads.specs.declared.thread.Thread.{Thread}
use Rattle.vvp_threads.specs.declared.thread.ThreadState.{ThreadState}
use Rattle.vvp_threads.specs.declared.thread.ThreadState.TheVariants.{Ready, Waiting, Joining}
use Rattle.vvp_threads.specs.Table.{slot_at, has, is_joining, outside, joiner_of, joiners_of}
use Rattle.vvp_threads.proofs.SlotLemmas.{no_some}
use Rattle.vvp_threads.proofs.QueueLemmas.{either, eq_same}
use Rattle.vvp_threads.proofs.JoinLemmas.{joiner-is}

-- a live thread that joins another one, and isn't a member
pub record GoesOn (threads : List (Option Thread)) (members : List ℕ) (serial : ℕ) : Type 0 where
  pub thread : Thread
  pub child : ℕ
  pub live : slot_at threads serial ≡ Some thread
  pub joins : thread.state ≡ Joining child
  pub apart : has members serial ≡ false

state-joins : (state : ThreadState) (child : ℕ) → is_joining state child ≡ true → state ≡ Joining child
state-joins Ready child e = absurd (let never : false ≡ true = e in cc)
state-joins (Waiting event) child e = absurd (let never : false ≡ true = e in cc)
state-joins (Joining other) child e = ap Joining (eq_same other child e)

outside-parts : (members : List ℕ) (j : Option ℕ) (q : ℕ) → outside members j ≡ Some q → (j ≡ Some q) × (has members q ≡ false)
outside-parts members None q e = absurd (no_some q e)
outside-parts members (Some r) q e = test (has members r) refl e where
  test : (b : Bool) → has members r ≡ b → cond b None (Some r) ≡ Some q → (Some r ≡ Some q) × (has members q ≡ false)
  test true is f = absurd (no_some q f)
  test false is f = (f, (let same : r ≡ q = cc in ap (has members) (sym same) ∙ is))

module _ (threads : List (Option Thread)) (members : List ℕ) (serial : ℕ) where
  from_member : (member : ℕ) → outside members (joiner_of threads member) ≡ Some serial → GoesOn threads members serial
  from_member member e =
      let parts = outside-parts members (joiner_of threads member) serial e in
      let j = joiner-is threads member serial parts.0 in
      record { thread = j.joiner; child = member; live = j.there; joins = state-joins j.joiner.state member j.joins; apart = parts.1 }

  among : (some : List ℕ) → has (filter_map (λ member. outside members (joiner_of threads member)) some) serial ≡ true → GoesOn threads members serial
  among [] e = absurd (let never : false ≡ true = e in cc)
  among (member ∷ some) e = cons (outside members (joiner_of threads member)) refl (among some) e where
    cons : (o : Option ℕ) → outside members (joiner_of threads member) ≡ o → (has (filter_map (λ k. outside members (joiner_of threads k)) some) serial ≡ true → GoesOn threads members serial)
        → has (cons_option o (filter_map (λ k. outside members (joiner_of threads k)) some)) serial ≡ true → GoesOn threads members serial
    cons None is rest f = rest f
    cons (Some q) is rest f = at (either (nat_eq q serial) (has (filter_map (λ k. outside members (joiner_of threads k)) some) serial) f) where
      at : (nat_eq q serial ≡ true) ⊎ (has (filter_map (λ k. outside members (joiner_of threads k)) some) serial ≡ true) → GoesOn threads members serial
      at (inl same) = from_member member (is ∙ ap Some (eq_same q serial same))
      at (inr more) = rest more

  pub goes-on : has (joiners_of threads members) serial ≡ true → GoesOn threads members serial
  goes-on = among members
