-- A due is taken: one due fewer, and room for one more.
use Rattle.std.proofs.Common.{◌≡◌, ℕ, zero, suc, ◌+◌, Bool, true, false, ◌&&◌, nat_eq, Option, Some, is_some, List, [], ◌∷◌, refl, ap, subst, ◌∙◌, arith}
use Rattle.std.specs.List.{All, count_by, filter, slice_get}
use Rattle.std.proofs.lemmas.List.Elements.{All-cons, All-head, All-tail}
use Rattle.event_pool.specs.declared.agenda.Due.{Due}
use Rattle.event_pool.specs.declared.agenda.Act.{Act}
use Rattle.event_pool.specs.Schedule.{Schedule, active_dues, is_active_at, taken, without_nth}
use Rattle.event_pool.proofs.CountLemmas.{count-cons, count-same, one_if}
use Rattle.vvp_threads.specs.declared.thread.Thread.{Thread}
use Rattle.vvp_threads.specs.Keyed.{KeyedTable}
use Rattle.vvp_threads.specs.Runs.{HasKey, HasRuns, is_run_of, lacks_run, runs_of}
use Rattle.sim_core.proofs.ActLemmas.{acts-ordered}

-- one due fewer
pub record Removes (due : Due) (old new : List Due) : Type 1 where
  pub counts : (p : Act → Bool) → count_by (λ (d : Due). p d.act) new + one_if (p due.act) ≡ count_by (λ (d : Due). p d.act) old
  pub each : (P : Act → Type 0) → All (λ (d : Due). P d.act) old → All (λ (d : Due). P d.act) new
  pub had : (P : Act → Type 0) → All (λ (d : Due). P d.act) old → P due.act

removes-here : (x due : Due) (xs : List Due) → Some x ≡ Some due → Removes due (x ∷ xs) xs
removes-here x due xs e =
    let same : x ≡ due = cc in
    subst (λ (d : Due). Removes d (x ∷ xs) xs) same (record {
      counts = λ p. (let one = count-cons (λ (d : Due). p d.act) x xs in omega (arith, one));
      each = λ P all. All-tail (λ (d : Due). P d.act) x xs all;
      had = λ P all. All-head (λ (d : Due). P d.act) x xs all;
    })

removes-there : (x due : Due) (xs ys : List Due) → Removes due xs ys → Removes due (x ∷ xs) (x ∷ ys)
removes-there x due xs ys r = record {
  counts = λ p. (let q : Due → Bool = λ d. p d.act in omega (arith, r.counts p, count-cons q x xs, count-cons q x ys));
  each = λ P all. (let Q : Due → Type 0 = λ d. P d.act in All-cons Q x ys (All-head Q x xs all) (r.each P (All-tail Q x xs all)));
  had = λ P all. (let Q : Due → Type 0 = λ d. P d.act in r.had P (All-tail Q x xs all));
}

removes-nth : (test : Due → Bool) (k : ℕ) (xs : List Due) (due : Due) → slice_get (filter test xs) k ≡ Some due → Removes due xs (without_nth test k xs)
removes-nth test k [] due h = absurd (let none : ⊥ = cc in none)
removes-nth test zero (x ∷ xs) due h = go (test x) refl (λ rest. removes-nth test zero xs due rest) where
  go : (b : Bool) → test x ≡ b → (slice_get (filter test xs) zero ≡ Some due → Removes due xs (without_nth test zero xs)) → Removes due (x ∷ xs) (without_nth test zero (x ∷ xs))
  go true e rest = rw e (removes-here x due xs (rw e at h))
  go false e rest = rw e (removes-there x due xs (without_nth test zero xs) (rest (rw e at h)))
removes-nth test (suc k) (x ∷ xs) due h = go (test x) refl (λ rest. removes-nth test k xs due rest) (λ rest. removes-nth test (suc k) xs due rest) where
  go : (b : Bool) → test x ≡ b → (slice_get (filter test xs) k ≡ Some due → Removes due xs (without_nth test k xs)) → (slice_get (filter test xs) (suc k) ≡ Some due → Removes due xs (without_nth test (suc k) xs))
      → Removes due (x ∷ xs) (without_nth test (suc k) (x ∷ xs))
  go true e one more = rw e (removes-there x due xs (without_nth test k xs) (one (rw e at h)))
  go false e one more = rw e (removes-there x due xs (without_nth test (suc k) xs) (more (rw e at h)))

-- the due that an agenda takes
pub removes-taken : (k : ℕ) (s : Schedule) (due : Due) → slice_get (active_dues s.now s.dues) k ≡ Some due → Removes due s.dues (taken k s).dues
removes-taken k s due at =
    let r = removes-nth (is_active_at s.now) k s.dues due at in
    let o = acts-ordered (without_nth (is_active_at s.now) k s.dues) in
    record {
      counts = λ p. (let a = o.counts p in let b = r.counts p in omega (arith, a, b));
      each = λ P all. o.each P (r.each P all);
      had = r.had;
    }

-- a due that isn't a Run leaves a place more
pub runs-taken : (threads : KeyedTable) (besides : ℕ) (old new : Schedule) (due : Due) → Removes due old.dues new.dues → new.spare ≡ old.spare + 1 → ((serial : ℕ) → is_run_of serial due.act ≡ false)
    → HasRuns threads besides old → HasRuns threads (besides + 1) new
runs-taken threads besides old new due r room other has = record {
  runs = record {
    once = λ serial. (let k = same serial in let h = has.runs.once serial in omega (arith, k, h));
    drawn = λ serial past. same serial ∙ has.runs.drawn serial past;
    resting = λ serial thread live rests. same serial ∙ has.runs.resting serial thread live rests;
  };
  keys = r.each (HasKey threads.keys) has.keys;
  room =
      let lacking = count-same (lacks_run new.dues) (lacks_run old.dues) threads.table.threads 0 (λ k (slot : Option Thread) from. ap (λ (n : ℕ). is_some slot && nat_eq n 0) (same k)) in
      omega (arith, lacking, has.room, room);
}
  where
    same : (serial : ℕ) → runs_of serial new.dues ≡ runs_of serial old.dues
    same serial = (let k = r.counts (is_run_of serial) in let none = ap one_if (other serial) in omega (arith, k, none))
