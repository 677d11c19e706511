-- What an engine keeps where a due is put.
use Rattle.std.proofs.Common.{◌≡◌, ◌≢◌, ◌⊎◌, inl, inr, ℕ, ◌+◌, ◌<◌, ◌≤◌, Bool, true, false, ◌&&◌, nat_eq, Option, Some, None, is_some, option_map, [], ◌∷◌, ◌++◌, refl, sym, ap, ◌∙◌, arith}
use Rattle.std.proofs.lemmas.Bool.{cases_eq}
use Rattle.std.proofs.lemmas.Bool.Decides.{nat_tests}
use Rattle.event_pool.specs.declared.agenda.Due.{Due}
use Rattle.event_pool.specs.declared.agenda.Region.{Region}
use Rattle.event_pool.specs.declared.agenda.Act.TheVariants.{Run}
use Rattle.event_pool.specs.Pending.{is_eval_of}
use Rattle.event_pool.specs.Schedule.{Schedule, put_due}
use Rattle.event_pool.proofs.CountLemmas.{count-same, each-put, one_if}
use Rattle.vvp_threads.specs.declared.thread.Thread.{Thread}
use Rattle.vvp_threads.specs.declared.thread.ThreadState.{ThreadState}
use Rattle.vvp_threads.specs.declared.thread.ThreadState.TheVariants.{Ready}
use Rattle.vvp_threads.specs.Table.{IsInState, slot_at, thread_of}
use Rattle.vvp_threads.specs.Keyed.{IsKeyOf, KeyedTable}
use Rattle.vvp_threads.specs.Runs.{HasKey, HasRuns, is_run_of, lacks_run, rests, runs_lacking, runs_of}
use Rattle.vvp_threads.proofs.RunLemmas.{lacking-run, run_due, runs-put, slot-get}
use Rattle.vvp_threads.proofs.SlotLemmas.{slot_at-within}
use Rattle.net_engine.specs.Kept.{Fits, NamesItems, evals_lacking}
use Rattle.net_engine.proofs.KeptLemmas.{delivers-put, lacking-evals, marked-other}
use Rattle.sim_core.specs.Kept.{Held, IsSound}
use Rattle.sim_core.proofs.DescendLemmas.{descend-none}
use Rattle.sim_core.proofs.SoundLemmas.{ordered-turn, sound-rests}

-- a due is put that is neither an evaluation nor a Run, where there is room for one due more
pub sound-update : (h : Held) (due : Due) → ((item : ℕ) → is_eval_of item due.act ≡ false) → ((serial : ℕ) → is_run_of serial due.act ≡ false) → HasKey h.threads.keys due.act → NamesItems h.net.nodes h.net.values due.act
    → HasRuns h.threads (evals_lacking h.net.nodes h.schedule.dues + 1) h.schedule → IsSound h → IsSound (record h { schedule = put_due h.schedule due })
sound-update h due no_eval no_run key named more s = record {
  linked = s.linked;
  nodes = s.nodes;
  parents = s.parents;
  outputs_are = s.outputs_are;
  designed = s.designed;
  fits = (delivers-put due h.net h.threads h.schedule s.fits no_eval no_run key named more).fits;
  in_turn = ordered-turn (h.schedule.dues ++ due ∷ []);
  runs = λ r is.
      let o = s.runs r is in
      record { key = o.key; ready = o.ready; no_event = o.no_event; no_run = (let none = o.no_run in omega (arith, none, runs-put r.serial h.schedule due, ap one_if (no_run r.serial))) };
  scopes = s.scopes;
  children = s.children;
  few_taken = s.few_taken;
  few_serials = s.few_serials;
  few_requests = s.few_requests;
}

-- ---- the Run of the thread that ran

some_same : (x y : Thread) → Some x ≡ Some y → x ≡ y
some_same x y e = cc

state_same : (x y : ThreadState) → Some x ≡ Some y → x ≡ y
state_same x y e = cc

-- a thread that is in a state
pub in-state : (slot : Option Thread) (state : ThreadState) → option_map (λ (t : Thread). t.state) slot ≡ Some state → (thread : Thread) × (slot ≡ Some thread) × (thread.state ≡ state)
in-state None state is = absurd (let none : ⊥ = cc in none)
in-state (Some thread) state is = (thread, refl, state_same thread.state state is)

one-few : (b : Bool) → one_if b ≤ 1
one-few true = omega arith
one-few false = omega arith

-- a Run of a thread at a time, in a region
abbrev pub run_at : ℕ → Region → ℕ → ℕ → Due
run_at time region serial key = record { time = time; region = region; act = Run serial key }

apart : (serial k : ℕ) → k ≢ serial → nat_eq serial k ≡ false
apart serial k differ = grind (arith, nat_tests)

other-run : (s : Schedule) (time : ℕ) (region : Region) (serial key k : ℕ) → k ≢ serial → runs_of k (put_due s (run_at time region serial key)).dues ≡ runs_of k s.dues
other-run s time region serial key k differ = (let one = runs-put k s (run_at time region serial key) in omega (arith, one, ap one_if (apart serial k differ)))

-- a ready thread without a Run gets one, at the place that was kept for it
pub own-run : (threads : KeyedTable) (besides : ℕ) (s : Schedule) (time : ℕ) (region : Region) (serial key : ℕ) (thread : Thread) → thread_of threads.table serial ≡ Some thread → thread.state ≡ Ready
    → IsKeyOf threads serial key → runs_of serial s.dues ≡ 0 → HasRuns threads besides s → (0 < s.spare) × HasRuns threads besides (put_due s (run_at time region serial key))
own-run threads besides s time region serial key thread live ready keyed none on =
    let room = on.room in (
      omega (arith, lacking, room),
      record {
        runs = record {
          once = λ k. once k (cases_eq k serial);
          drawn = λ k past. (let within = slot_at-within threads.table.threads serial thread live in let other = other-run s time region serial key k (omega (arith, past, within)) in other ∙ on.runs.drawn k past);
          resting = λ k t at resting. rest k t at resting (cases_eq k serial);
        };
        keys = each-put (λ (d : Due). HasKey threads.keys d.act) s (run_at time region serial key) on.keys (λ kept at. key_same key kept (sym keyed ∙ at));
        room = omega (arith, lacking, room);
      },
    )
  where
    key_same : (x y : ℕ) → Some x ≡ Some y → x ≡ y
    key_same x y e = cc

    lacking : runs_lacking threads.table s.dues ≡ runs_lacking threads.table (put_due s (run_at time region serial key)).dues + 1
    lacking =
        let first = lacking-run threads.table serial key thread s (slot-get threads.table.threads serial thread live) none in
        let same = count-same (lacks_run (put_due s (run_due s serial key)).dues) (lacks_run (put_due s (run_at time region serial key)).dues) threads.table.threads 0
        (λ k (slot : Option Thread) from. ap (λ (n : ℕ). is_some slot && nat_eq n 0) (runs-put k s (run_due s serial key) ∙ sym (runs-put k s (run_at time region serial key)))) in
        omega (arith, first, same)

    once : (k : ℕ) → (k ≡ serial) ⊎ (k ≢ serial) → runs_of k (put_due s (run_at time region serial key)).dues ≤ 1
    once k (inl here) =
        let one = runs-put k s (run_at time region serial key) in
        let before : runs_of k s.dues ≡ 0 = ap (λ (i : ℕ). runs_of i s.dues) here ∙ none in
        omega (arith, one, before, one-few (nat_eq serial k))
    once k (inr differ) = (let one = other-run s time region serial key k differ in let few = on.runs.once k in omega (arith, one, few))

    rest : (k : ℕ) (t : Thread) → slot_at threads.table.threads k ≡ Some t → rests t.state ≡ true → (k ≡ serial) ⊎ (k ≢ serial) → runs_of k (put_due s (run_at time region serial key)).dues ≡ 0
    rest k t at resting (inl here) =
        let same : t ≡ thread = some_same t thread (sym at ∙ ap (λ (i : ℕ). slot_at threads.table.threads i) here ∙ live) in
        let no : rests t.state ≡ false = ap (λ (u : Thread). rests u.state) same ∙ ap rests ready in
        absurd (let wrong : ⊥ = cc in wrong)
    rest k t at resting (inr differ) = other-run s time region serial key k differ ∙ on.runs.resting k t at resting

-- the thread that ran gives way, and its Run is put
pub sound-delayed : (h : Held) (time : ℕ) (region : Region) (serial key : ℕ) → IsKeyOf h.threads serial key → IsInState h.threads.table serial Ready → runs_of serial h.schedule.dues ≡ 0
    → IsSound h → (0 < h.schedule.spare) × IsSound (record h { schedule = put_due h.schedule (run_at time region serial key); running = None })
sound-delayed h time region serial key keyed ready none s =
    let at = in-state (thread_of h.threads.table serial) Ready ready in
    let due = run_at time region serial key in
    let own = own-run h.threads (evals_lacking h.net.nodes h.schedule.dues) h.schedule time region serial key at.0 at.1 at.2 keyed none s.fits.runs in
    let evals = lacking-evals h.net.nodes h.schedule due (λ item. refl) in
    let room = own.1.room in
    let fits : Fits h.net h.threads (put_due h.schedule due) = record {
      marks = marked-other h.net.marks h.schedule due s.fits.marks (λ item. refl);
      runs = record { runs = own.1.runs; keys = own.1.keys; room = omega (arith, evals, room) };
      names = each-put (λ (d : Due). NamesItems h.net.nodes h.net.values d.act) h.schedule due s.fits.names tt;
      marked = s.fits.marked;
      events = s.fits.events;
    } in
    (own.0, sound-rests h h.threads (put_due h.schedule due) fits (ordered-turn (h.schedule.dues ++ due ∷ [])) (descend-none h.threads.table.threads) s)
