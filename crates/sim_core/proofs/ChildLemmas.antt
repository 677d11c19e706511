-- What an engine keeps where a thread starts a child.
use Rattle.std.proofs.Common.{◌≡◌, ◌≢◌, ◌⊎◌, inl, inr, ℕ, zero, suc, ◌+◌, ◌<◌, ◌≤◌, false, nat_eq, Option, Some, None, option_map, IfSome, List, [], ◌∷◌, ◌++◌, length, refl, sym, ap, subst, ◌∙◌, arith}
use Rattle.std.specs.List.{slice_get}
use Rattle.std.specs.Option.{ForSome}
use Rattle.std.proofs.lemmas.Bool.{cases_eq, cases_lt}
use Rattle.std.proofs.lemmas.Bool.Decides.{nat_tests}
use Rattle.std.proofs.lemmas.List.{length-append, length-set}
use Rattle.event_pool.specs.declared.agenda.Due.{Due}
use Rattle.event_pool.specs.Schedule.{put_due}
use Rattle.event_pool.proofs.CountLemmas.{each-put, one_if}
use Rattle.vvp_threads.specs.declared.thread.Thread.{Thread}
use Rattle.vvp_threads.specs.declared.thread.ThreadState.TheVariants.{Ready}
use Rattle.vvp_threads.specs.Frame.{first_frame}
use Rattle.vvp_threads.specs.Table.{changed_at, slot_at, spawned, thread_of, with_child, with_frame}
use Rattle.vvp_threads.specs.Keyed.{run_under}
use Rattle.vvp_threads.specs.Disable.{StandIn}
use Rattle.vvp_threads.specs.Runs.{HasRuns}
use Rattle.vvp_threads.proofs.RunLemmas.{runs-put}
use Rattle.vvp_threads.proofs.SlotLemmas.{no_some, slot_at-set_other, slot_at-set_same, slot_at-within}
use Rattle.net_engine.specs.Kept.{NamesItems, evals_lacking}
use Rattle.net_engine.proofs.KeptLemmas.{lacking-evals, marked-other}
use Rattle.sim_core.specs.Kept.{Held, IsSound, OwnChildren}
use Rattle.sim_core.proofs.SoundLemmas.{ordered-turn}
use Rattle.sim_core.proofs.PutLemmas.{in-state}

some_same : {X : Type 0} (x y : X) → Some x ≡ Some y → x ≡ y
some_same x y e = cc

-- the slots before the last one
slot-before : {X : Type 0} (slots : List (Option X)) (last : Option X) (k : ℕ) → k < length slots → slot_at (slots ++ last ∷ []) k ≡ slot_at slots k
slot-before [] last k within = absurd (omega arith)
slot-before (x ∷ slots) last zero within = refl
slot-before (x ∷ slots) last (suc k) within = slot-before slots last k (omega arith)

slot-last : {X : Type 0} (slots : List (Option X)) (last : Option X) → slot_at (slots ++ last ∷ []) (length slots) ≡ last
slot-last [] last = refl
slot-last (x ∷ slots) last = slot-last slots last

slot-past : {X : Type 0} (slots : List (Option X)) (k : ℕ) → length slots ≤ k → slot_at slots k ≡ None
slot-past [] k past = refl
slot-past (x ∷ slots) zero past = absurd (omega arith)
slot-past (x ∷ slots) (suc k) past = slot-past slots k (omega arith)

-- the thread that starts
abbrev pub child_of : ℕ → ℕ → ℕ → ℕ → Thread
child_of serial parent scope pc = record { serial = serial; parent = Some parent; scope = scope; frame = first_frame pc; state = Ready }

abbrev given : ℕ → Thread → Thread
given child thread = with_frame (with_child child thread.frame) thread

-- the threads with one child more
abbrev pub forked_from : List (Option Thread) → ℕ → ℕ → ℕ → List (Option Thread)
forked_from threads parent scope pc = changed_at threads parent (given (length threads)) ++ Some (child_of (length threads) parent scope pc) ∷ []

-- a thread that stood there before, of whose children one is new where it is the parent
pub record Stood (threads : List (Option Thread)) (parent k : ℕ) (thread : Thread) : Type 0 where
  pub old : Thread
  pub was : slot_at threads k ≡ Some old
  pub same_parent : thread.parent ≡ old.parent
  pub same_scope : thread.scope ≡ old.scope
  pub same_state : thread.state ≡ old.state
  pub children : (thread.frame.children ≡ old.frame.children) ⊎ ((k ≡ parent) × (thread.frame.children ≡ old.frame.children ++ length threads ∷ []))

changed-length : (threads : List (Option Thread)) (parent : ℕ) → length (changed_at threads parent (given (length threads))) ≡ length threads
changed-length threads parent = length-set threads parent (option_map (given (length threads)) (slot_at threads parent))

forked-length : (threads : List (Option Thread)) (parent scope pc : ℕ) → length (forked_from threads parent scope pc) ≡ length threads + 1
forked-length threads parent scope pc =
    omega (arith, length-append (changed_at threads parent (given (length threads))) (Some (child_of (length threads) parent scope pc) ∷ []), changed-length threads parent)

-- one of the threads before
pub stood-there : (threads : List (Option Thread)) (parent k : ℕ) (thread : Thread) → slot_at (changed_at threads parent (given (length threads))) k ≡ Some thread → Stood threads parent k thread
stood-there threads parent k thread at = by_place (cases_eq k parent)
  where
    slot : Option Thread
    slot = option_map (given (length threads)) (slot_at threads parent)

    by_slot : (s : Option Thread) → slot_at threads parent ≡ s → k ≡ parent → option_map (given (length threads)) s ≡ Some thread → Stood threads parent k thread
    by_slot None is here e = absurd (no_some thread e)
    by_slot (Some old) is here e =
        let same : given (length threads) old ≡ thread = some_same (given (length threads) old) thread e in
        subst (λ (t : Thread). Stood threads parent k t) same (record {
          old = old;
          was = ap (λ (i : ℕ). slot_at threads i) here ∙ is;
          same_parent = refl;
          same_scope = refl;
          same_state = refl;
          children = inr (here, refl);
        })

    by_place : (k ≡ parent) ⊎ (k ≢ parent) → Stood threads parent k thread
    by_place (inl here) =
        let within : k < length threads = (let h = slot_at-within (changed_at threads parent (given (length threads))) k thread at in omega (arith, h, changed-length threads parent)) in
        let spot : parent < length threads = omega (arith, within, here) in
        let is : option_map (given (length threads)) (slot_at threads parent) ≡ Some thread =
        sym (slot_at-set_same threads parent (option_map (given (length threads)) (slot_at threads parent)) spot)
        ∙ ap (λ (i : ℕ). slot_at (changed_at threads parent (given (length threads))) i) (sym here) ∙ at in
        by_slot (slot_at threads parent) refl here is
    by_place (inr differ) = record {
      old = thread;
      was = sym (slot_at-set_other threads parent k (option_map (given (length threads)) (slot_at threads parent)) differ) ∙ at;
      same_parent = refl;
      same_scope = refl;
      same_state = refl;
      children = inl refl;
    }

-- a thread is the child, or stood there before
pub forked-slot : (threads : List (Option Thread)) (parent scope pc k : ℕ) (thread : Thread) → slot_at (forked_from threads parent scope pc) k ≡ Some thread
    → ((k ≡ length threads) × (thread ≡ child_of (length threads) parent scope pc)) ⊎ Stood threads parent k thread
forked-slot threads parent scope pc k thread at = go (cases_eq k (length threads)) (cases_lt k (length threads))
  where
    changed : List (Option Thread)
    changed = changed_at threads parent (given (length threads))

    child : Thread
    child = child_of (length threads) parent scope pc

    go : (k ≡ length threads) ⊎ (k ≢ length threads) → (k < length threads) ⊎ (length threads ≤ k)
        → ((k ≡ length threads) × (thread ≡ child_of (length threads) parent scope pc)) ⊎ Stood threads parent k thread
    go (inl here) order =
        let spot : k ≡ length (changed_at threads parent (given (length threads))) = here ∙ sym (changed-length threads parent) in
        let is : Some (child_of (length threads) parent scope pc) ≡ Some thread =
        sym (slot-last (changed_at threads parent (given (length threads))) (Some (child_of (length threads) parent scope pc)))
        ∙ ap (λ (i : ℕ). slot_at (forked_from threads parent scope pc) i) (sym spot) ∙ at in
        inl (here, sym (some_same (child_of (length threads) parent scope pc) thread is))
    go (inr differ) (inl before) =
        inr (stood-there threads parent k thread
        (sym (slot-before (changed_at threads parent (given (length threads))) (Some (child_of (length threads) parent scope pc)) k (omega (arith, before, changed-length threads parent))) ∙ at))
    go (inr differ) (inr past) =
        absurd (no_some thread (sym (slot-past (forked_from threads parent scope pc) k (omega (arith, past, differ, forked-length threads parent scope pc))) ∙ at))

-- who stood there stands there still
pub stood-still : (threads : List (Option Thread)) (parent scope pc k : ℕ) → k < length threads
    → option_map (λ (t : Thread). t.state) (slot_at (forked_from threads parent scope pc) k) ≡ option_map (λ (t : Thread). t.state) (slot_at threads k)
stood-still threads parent scope pc k before =
    ap (option_map (λ (t : Thread). t.state)) (slot-before (changed_at threads parent (given (length threads))) (Some (child_of (length threads) parent scope pc)) k (omega (arith, before, changed-length threads parent)))
    ∙ kept threads parent k
  where
    child : ℕ
    child = length threads

    kept : (slots : List (Option Thread)) (i j : ℕ) → option_map (λ (t : Thread). t.state) (slot_at (changed_at slots i (given (length threads))) j) ≡ option_map (λ (t : Thread). t.state) (slot_at slots j)
    kept [] i j = refl
    kept (None ∷ slots) zero zero = refl
    kept (Some t ∷ slots) zero zero = refl
    kept (slot ∷ slots) zero (suc j) = refl
    kept (slot ∷ slots) (suc i) zero = refl
    kept (slot ∷ slots) (suc i) (suc j) = kept slots i j

-- ---- what is kept

forked-scopes : (parents : List ℕ) (threads : List (Option Thread)) (parent scope pc : ℕ) → scope < length parents → StandIn parents threads → StandIn parents (forked_from threads parent scope pc)
forked-scopes parents threads parent scope pc within stand k = go (slot_at (forked_from threads parent scope pc) k) refl
  where
    one : (thread : Thread) → ((k ≡ length threads) × (thread ≡ child_of (length threads) parent scope pc)) ⊎ Stood threads parent k thread → thread.scope < length parents
    one thread (inl child) = subst (λ (n : ℕ). n < length parents) (sym (ap (λ (t : Thread). t.scope) child.1)) within
    one thread (inr stood) =
        let was : stood.old.scope < length parents = subst (λ (s : Option Thread). IfSome s (λ (t : Thread). t.scope < length parents)) stood.was (stand k) in
        subst (λ (n : ℕ). n < length parents) (sym stood.same_scope) was

    go : (slot : Option Thread) → slot_at (forked_from threads parent scope pc) k ≡ slot → IfSome slot (λ (thread : Thread). thread.scope < length parents)
    go None at = tt
    go (Some thread) at = one thread (forked-slot threads parent scope pc k thread at)

get-push : (xs : List ℕ) (x place y : ℕ) → slice_get (xs ++ x ∷ []) place ≡ Some y → (slice_get xs place ≡ Some y) ⊎ (y ≡ x)
get-push [] x zero y e = inr (sym (some_same x y e))
get-push [] x (suc place) y e = absurd (let none : ⊥ = cc in none)
get-push (z ∷ xs) x zero y e = inl e
get-push (z ∷ xs) x (suc place) y e = get-push xs x place y e

forked-children : (threads : List (Option Thread)) (parent scope pc : ℕ) → OwnChildren threads → OwnChildren (forked_from threads parent scope pc)
forked-children threads parent scope pc own k place c thread at has = of_thread (forked-slot threads parent scope pc k thread at)
  where
    -- a child that was there before
    earlier : (old : Thread) → slot_at threads k ≡ Some old → slice_get old.frame.children place ≡ Some c
        → (c < length (forked_from threads parent scope pc)) × ForSome (slot_at (forked_from threads parent scope pc) c) (λ (kid : Thread). kid.parent ≡ Some k)
    earlier old was child =
        let before = own k place c old was child in
        (omega (arith, before.0, forked-length threads parent scope pc), λ kid is. kin kid is (forked-slot threads parent scope pc c kid is) before.0 before.1)
      where
        kin : (kid : Thread) → slot_at (forked_from threads parent scope pc) c ≡ Some kid
            → ((c ≡ length threads) × (kid ≡ child_of (length threads) parent scope pc)) ⊎ Stood threads parent c kid → c < length threads
            → ForSome (slot_at threads c) (λ (k' : Thread). k'.parent ≡ Some k) → kid.parent ≡ Some k
        kin kid is (inl new) within belongs = absurd (omega (arith, new.0, within))
        kin kid is (inr stood) within belongs = stood.same_parent ∙ belongs stood.old stood.was

    -- the child that starts
    newest : k ≡ parent → c ≡ length threads
        → (c < length (forked_from threads parent scope pc)) × ForSome (slot_at (forked_from threads parent scope pc) c) (λ (kid : Thread). kid.parent ≡ Some k)
    newest here last =
        (omega (arith, last, forked-length threads parent scope pc), λ kid is. kin kid (forked-slot threads parent scope pc c kid is))
      where
        kin : (kid : Thread) → ((c ≡ length threads) × (kid ≡ child_of (length threads) parent scope pc)) ⊎ Stood threads parent c kid → kid.parent ≡ Some k
        kin kid (inl new) = ap (λ (t : Thread). t.parent) new.1 ∙ ap (λ (n : ℕ). Some n) (sym here)
        kin kid (inr stood) = absurd (let h = slot_at-within threads c stood.old stood.was in omega (arith, h, last))

    pushed : (old : Thread) → slot_at threads k ≡ Some old → k ≡ parent → (slice_get old.frame.children place ≡ Some c) ⊎ (c ≡ length threads)
        → (c < length (forked_from threads parent scope pc)) × ForSome (slot_at (forked_from threads parent scope pc) c) (λ (kid : Thread). kid.parent ≡ Some k)
    pushed old was here (inl before) = earlier old was before
    pushed old was here (inr last) = newest here last

    by_children : (stood : Stood threads parent k thread) → (thread.frame.children ≡ stood.old.frame.children) ⊎ ((k ≡ parent) × (thread.frame.children ≡ stood.old.frame.children ++ length threads ∷ []))
        → (c < length (forked_from threads parent scope pc)) × ForSome (slot_at (forked_from threads parent scope pc) c) (λ (kid : Thread). kid.parent ≡ Some k)
    by_children stood (inl same) = earlier stood.old stood.was (ap (λ (xs : List ℕ). slice_get xs place) (sym same) ∙ has)
    by_children stood (inr more) = pushed stood.old stood.was more.0 (get-push stood.old.frame.children (length threads) place c (ap (λ (xs : List ℕ). slice_get xs place) (sym more.1) ∙ has))

    of_thread : ((k ≡ length threads) × (thread ≡ child_of (length threads) parent scope pc)) ⊎ Stood threads parent k thread
        → (c < length (forked_from threads parent scope pc)) × ForSome (slot_at (forked_from threads parent scope pc) c) (λ (kid : Thread). kid.parent ≡ Some k)
    of_thread (inl new) =
        let none : slice_get {X = ℕ} [] place ≡ Some c = ap (λ (t : Thread). slice_get t.frame.children place) (sym new.1) ∙ has in
        absurd (let no : ⊥ = cc in no)
    of_thread (inr stood) = by_children stood stood.children

-- a child has started, and its Run was put
pub sound-child : (h : Held) (parent scope pc key : ℕ) → scope < length h.scope_parents → length h.threads.keys ≡ length h.threads.table.threads → length h.threads.table.threads < h.steps + length h.program.threads
    → HasRuns (record { table = spawned h.threads.table (Some parent) scope pc; keys = h.threads.keys ++ Some key ∷ [] }) (evals_lacking h.net.nodes h.schedule.dues)
    (put_due h.schedule (run_under h.schedule.now (length h.threads.table.threads) key))
    → IsSound h → IsSound (record h {
      threads = record { table = spawned h.threads.table (Some parent) scope pc; keys = h.threads.keys ++ Some key ∷ [] };
      schedule = put_due h.schedule (run_under h.schedule.now (length h.threads.table.threads) key);
    })
sound-child h parent scope pc key within lengths few on s = record {
  linked = s.linked;
  nodes = s.nodes;
  parents = s.parents;
  outputs_are = s.outputs_are;
  designed = s.designed;
  fits = record {
    marks = marked-other h.net.marks h.schedule due s.fits.marks (λ item. refl);
    runs = record { runs = on.runs; keys = on.keys; room = (let room = on.room in let evals = lacking-evals h.net.nodes h.schedule due (λ item. refl) in omega (arith, evals, room)) };
    names = each-put (λ (d : Due). NamesItems h.net.nodes h.net.values d.act) h.schedule due s.fits.names tt;
    marked = s.fits.marked;
    events = s.fits.events;
  };
  in_turn = ordered-turn (h.schedule.dues ++ due ∷ []);
  runs = λ r is.
      let o = s.runs r is in
      let live = in-state (thread_of h.threads.table r.serial) Ready o.ready in
      let drawn : r.serial < length h.threads.table.threads = slot_at-within h.threads.table.threads r.serial live.0 live.1 in
      record {
        key = slot-before h.threads.keys (Some key) r.serial (omega (arith, drawn, lengths)) ∙ o.key;
        ready = stood-still h.threads.table.threads parent scope pc r.serial drawn ∙ o.ready;
        no_event = o.no_event;
        no_run =
            let other : nat_eq (length h.threads.table.threads) r.serial ≡ false = (let no : r.serial ≢ length h.threads.table.threads = (λ e. omega (arith, e, drawn)) in grind (arith, nat_tests)) in
            let one = runs-put r.serial h.schedule due in
            let none = o.no_run in
            omega (arith, one, none, ap one_if other);
      };
  scopes = forked-scopes h.scope_parents h.threads.table.threads parent scope pc within s.scopes;
  children = forked-children h.threads.table.threads parent scope pc s.children;
  few_taken = s.few_taken;
  few_serials = omega (arith, few, forked-length h.threads.table.threads parent scope pc);
  few_requests = s.few_requests;
}
  where
    due : Due
    due = run_under h.schedule.now (length h.threads.table.threads) key
