-- Threads that come from threads before: each has the parent and the scope that it had, and no child that it didn't have.
use Rattle.std.proofs.Common.{◌≡◌, ◌≢◌, ◌⊎◌, inl, inr, ℕ, ◌<◌, Option, Some, None, option_map, IfSome, List, [], ◌∷◌, length, set, refl, sym, ap, subst, ◌∙◌, arith}
use Rattle.std.specs.List.{slice_get}
use Rattle.std.proofs.lemmas.List.{length-set}
use Rattle.std.proofs.lemmas.Bool.{cases_eq}
use Rattle.vvp_threads.specs.declared.thread.Frame.{Frame}
use Rattle.vvp_threads.specs.declared.thread.Thread.{Thread}
use Rattle.vvp_threads.specs.declared.thread.ThreadState.{ThreadState}
use Rattle.vvp_threads.specs.declared.thread.ThreadState.TheVariants.{Ready}
use Rattle.vvp_threads.specs.Table.{changed_at, emptied, in_state, made_ready, slot_at, with_frame}
use Rattle.vvp_threads.specs.Disable.{StandIn}
use Rattle.vvp_threads.proofs.SlotLemmas.{no_some, slot_at-set_other, slot_at-set_same, slot_at-within}
use Rattle.sim_core.specs.Kept.{OwnChildren}

-- each child in the first list is one in the second
abbrev pub AreAmong : List ℕ → List ℕ → Type 0
AreAmong few many = (place child : ℕ) → slice_get few place ≡ Some child → (p : ℕ) × (slice_get many p ≡ Some child)

-- a thread comes from the one that stood at its serial
pub record ComesFrom (old : List (Option Thread)) (serial : ℕ) (new : Thread) : Type 0 where
  pub thread : Thread
  pub was : slot_at old serial ≡ Some thread
  pub parent : new.parent ≡ thread.parent
  pub scope : new.scope ≡ thread.scope
  pub children : AreAmong new.frame.children thread.frame.children

pub record Descend (old new : List (Option Thread)) : Type 0 where
  pub each : (serial : ℕ) (thread : Thread) → slot_at new serial ≡ Some thread → ComesFrom old serial thread
  pub length : length new ≡ length old

pub descend-none : (threads : List (Option Thread)) → Descend threads threads
descend-none threads = record {
  each = λ serial thread at. record { thread = thread; was = at; parent = refl; scope = refl; children = λ place child e. (place, e) };
  length = refl;
}

pub descend-then : (old mid new : List (Option Thread)) → Descend old mid → Descend mid new → Descend old new
descend-then old mid new first next = record {
  each = λ serial thread at.
      let near = next.each serial thread at in
      let far = first.each serial near.thread near.was in
      record {
        thread = far.thread;
        was = far.was;
        parent = near.parent ∙ far.parent;
        scope = near.scope ∙ far.scope;
        children = λ place child e. let p = near.children place child e in far.children p.0 child p.1;
      };
  length = next.length ∙ first.length;
}

some_same : (x y : Thread) → Some x ≡ Some y → x ≡ y
some_same x y e = cc

-- one thread is another, or has ended
pub descend-set : (threads : List (Option Thread)) (place : ℕ) (slot : Option Thread) → ((new : Thread) → slot ≡ Some new → ComesFrom threads place new) → Descend threads (set threads place slot)
descend-set threads place slot comes = record {
  each = λ serial thread at. by_place serial thread at (cases_eq serial place);
  length = length-set threads place slot;
}
  where
    by_place : (serial : ℕ) (thread : Thread) → slot_at (set threads place slot) serial ≡ Some thread → (serial ≡ place) ⊎ (serial ≢ place) → ComesFrom threads serial thread
    by_place serial thread at (inl here) =
        let within : serial < length threads = let h = slot_at-within (set threads place slot) serial thread at in omega (arith, h, length-set threads place slot) in
        let spot : place < length threads = omega (arith, within, here) in
        let is : slot ≡ Some thread = sym (slot_at-set_same threads place slot spot) ∙ ap (λ (k : ℕ). slot_at (set threads place slot) k) (sym here) ∙ at in
        subst (λ (k : ℕ). ComesFrom threads k thread) (sym here) (comes thread is)
    by_place serial thread at (inr differ) = (descend-none threads).each serial thread (sym (slot_at-set_other threads place serial slot differ) ∙ at)

-- a thread with another frame, whose children it had
pub descend-framed : (threads : List (Option Thread)) (serial : ℕ) (frame : Frame) → ((thread : Thread) → slot_at threads serial ≡ Some thread → AreAmong frame.children thread.frame.children)
    → Descend threads (changed_at threads serial (with_frame frame))
descend-framed threads serial frame among = descend-set threads serial (option_map (with_frame frame) (slot_at threads serial)) (λ new is. go new (slot_at threads serial) refl is)
  where
    go : (new : Thread) (slot : Option Thread) → slot_at threads serial ≡ slot → option_map (with_frame frame) slot ≡ Some new → ComesFrom threads serial new
    go new None at is = absurd (no_some new is)
    go new (Some old) at is =
        let same : with_frame frame old ≡ new = some_same (with_frame frame old) new is in
        subst (λ (t : Thread). ComesFrom threads serial t) same (record { thread = old; was = at; parent = refl; scope = refl; children = among old at })

-- a thread in another state
pub descend-state : (threads : List (Option Thread)) (serial : ℕ) (state : ThreadState) → Descend threads (changed_at threads serial (in_state state))
descend-state threads serial state = descend-set threads serial (option_map (in_state state) (slot_at threads serial)) (λ new is. go new (slot_at threads serial) refl is)
  where
    go : (new : Thread) (slot : Option Thread) → slot_at threads serial ≡ slot → option_map (in_state state) slot ≡ Some new → ComesFrom threads serial new
    go new None at is = absurd (no_some new is)
    go new (Some old) at is =
        let same : in_state state old ≡ new = some_same (in_state state old) new is in
        subst (λ (t : Thread). ComesFrom threads serial t) same (record { thread = old; was = at; parent = refl; scope = refl; children = λ place child e. (place, e) })

pub descend-ready : (serials : List ℕ) (threads : List (Option Thread)) → Descend threads (made_ready serials threads)
descend-ready [] threads = descend-none threads
descend-ready (serial ∷ serials) threads =
    descend-then threads (changed_at threads serial (in_state Ready)) (made_ready serials (changed_at threads serial (in_state Ready)))
    (descend-state threads serial Ready) (descend-ready serials (changed_at threads serial (in_state Ready)))

pub descend-emptied : (serials : List ℕ) (threads : List (Option Thread)) → Descend threads (emptied serials threads)
descend-emptied [] threads = descend-none threads
descend-emptied (serial ∷ serials) threads =
    descend-then threads (set threads serial None) (emptied serials (set threads serial None))
    (descend-set threads serial None (λ new is. absurd (no_some new is))) (descend-emptied serials (set threads serial None))

-- ---- what goes down

pub descend-scopes : (parents : List ℕ) (old new : List (Option Thread)) → Descend old new → StandIn parents old → StandIn parents new
descend-scopes parents old new down stand serial = go (slot_at new serial) refl where
  go : (slot : Option Thread) → slot_at new serial ≡ slot → IfSome slot (λ (thread : Thread). thread.scope < length parents)
  go None at = tt
  go (Some thread) at =
      let from = down.each serial thread at in
      let stood : from.thread.scope < length parents = subst (λ (slot : Option Thread). IfSome slot (λ (t : Thread). t.scope < length parents)) from.was (stand serial) in
      subst (λ (n : ℕ). n < length parents) (sym from.scope) stood

pub descend-children : (old new : List (Option Thread)) → Descend old new → OwnChildren old → OwnChildren new
descend-children old new down own serial place child thread at has =
    let from = down.each serial thread at in
    let among = from.children place child has in
    let was = own serial among.0 child from.thread from.was among.1 in (
      omega (arith, was.0, down.length),
      λ kid is.
          let kin = down.each child kid is in
          kin.parent ∙ was.1 kin.thread kin.was,
    )
