-- Dues whose acts are the same: what an engine keeps speaks of acts alone, so settling and reserving keep it.
use Rattle.std.proofs.Common.{◌≡◌, ℕ, ◌≤◌, Bool, true, false, ◌&&◌, cond, nat_eq, Option, is_some, List, [], ◌∷◌, get_or, refl, sym, ap, subst, ◌∙◌, arith}
use Rattle.std.specs.List.{All, count_by, enumerate_from, list_any}
use Rattle.std.proofs.lemmas.List.Elements.{All-from_recursion, All-map, recursion_from_All}
use Rattle.event_pool.specs.declared.agenda.Due.{Due}
use Rattle.event_pool.specs.declared.agenda.Act.{Act}
use Rattle.event_pool.specs.declared.agenda.Region.{Region}
use Rattle.event_pool.specs.declared.agenda.Region.TheVariants.{Active, Inactive, Nonblocking}
use Rattle.event_pool.specs.Order.{in_order}
use Rattle.event_pool.specs.Pending.{is_eval_of}
use Rattle.event_pool.specs.Schedule.{Schedule, is_active_at, is_due_in, promote, promoted_due, settled, settled_dues}
use Rattle.event_pool.proofs.CountLemmas.{count-cons, count-in_order, count-same, one_if}
use Rattle.event_pool.proofs.PendingLemmas.{all_in_order}
use Rattle.vvp_threads.specs.declared.thread.Thread.{Thread}
use Rattle.vvp_threads.specs.Keyed.{KeyedTable}
use Rattle.vvp_threads.specs.Runs.{HasKey, HasRuns, is_run_of, lacks_run}
use Rattle.sym_link.specs.Roots.{Node}
use Rattle.net_engine.specs.Kept.{Fits, NamesItems, NetNow, has_output, lacks_eval}

-- as many dues of each kind of act, and of no act that there wasn't
pub record SameActs (old new : List Due) : Type 1 where
  pub counts : (p : Act → Bool) → count_by (λ (due : Due). p due.act) new ≡ count_by (λ (due : Due). p due.act) old
  pub each : (P : Act → Type 0) → All (λ (due : Due). P due.act) old → All (λ (due : Due). P due.act) new

pub acts-none : (dues : List Due) → SameActs dues dues
acts-none dues = record { counts = λ p. refl; each = λ P all. all }

pub acts-then : (old mid new : List Due) → SameActs old mid → SameActs mid new → SameActs old new
acts-then old mid new first next = record { counts = λ p. next.counts p ∙ first.counts p; each = λ P all. next.each P (first.each P all) }

-- dues put in order
pub acts-ordered : (dues : List Due) → SameActs dues (in_order dues)
acts-ordered dues = record {
  counts = λ p. count-in_order (λ (due : Due). p due.act) dues;
  each = λ P all.
      let Q : Due → Type 0 = λ due. P due.act in
      All-from_recursion Q (in_order dues) (all_in_order Q dues (recursion_from_All Q dues all));
}

-- dues that become Active
promoted-act : (region : Region) (now : ℕ) (due : Due) → (promoted_due region now due).act ≡ due.act
promoted-act region now due = go (is_due_in region now due) where
  go : (b : Bool) → (cond b (record due { region = Active }) due).act ≡ due.act
  go true = refl
  go false = refl

promoted-counts : (region : Region) (now : ℕ) (p : Act → Bool) (dues : List Due) → count_by (λ (due : Due). p due.act) (promote region now dues) ≡ count_by (λ (due : Due). p due.act) dues
promoted-counts region now p [] = refl
promoted-counts region now p (due ∷ dues) =
    let q : Due → Bool = λ d. p d.act in
    omega (arith, count-cons q (promoted_due region now due) (promote region now dues), count-cons q due dues, promoted-counts region now p dues, ap (λ (act : Act). one_if (p act)) (promoted-act region now due))

acts-promoted : (region : Region) (now : ℕ) (dues : List Due) → SameActs dues (promote region now dues)
acts-promoted region now dues = record {
  counts = λ p. promoted-counts region now p dues;
  each = λ P all.
      All-map (λ (due : Due). P due.act) (promoted_due region now) dues
      (λ k d within. subst P (sym (promoted-act region now (get_or dues k d))) (all k d within));
}

-- dues that settle
pub acts-settled : (s : Schedule) → SameActs s.dues (settled s).dues
acts-settled s = acts-then s.dues (settled_dues s.now s.dues) (settled s).dues (go (list_any (is_active_at s.now) s.dues) (list_any (is_due_in Inactive s.now) s.dues)) (acts-ordered (settled_dues s.now s.dues))
  where
    go : (a b : Bool) → SameActs s.dues (cond a s.dues (cond b (promote Inactive s.now s.dues) (promote Nonblocking s.now s.dues)))
    go true b = acts-none s.dues
    go false true = acts-promoted Inactive s.now s.dues
    go false false = acts-promoted Nonblocking s.now s.dues

-- ---- what is kept

pub runs-acts : (threads : KeyedTable) (besides : ℕ) (old new : Schedule) → SameActs old.dues new.dues → old.spare ≤ new.spare → HasRuns threads besides old → HasRuns threads besides new
runs-acts threads besides old new same room has = record {
  runs = record {
    once = λ serial. let k = same.counts (is_run_of serial) in let h = has.runs.once serial in omega (arith, k, h);
    drawn = λ serial past. same.counts (is_run_of serial) ∙ has.runs.drawn serial past;
    resting = λ serial thread live rests. same.counts (is_run_of serial) ∙ has.runs.resting serial thread live rests;
  };
  keys = same.each (HasKey threads.keys) has.keys;
  room =
      let lacking = count-same (lacks_run new.dues) (lacks_run old.dues) threads.table.threads 0 (λ k (slot : Option Thread) from. ap (λ (n : ℕ). is_some slot && nat_eq n 0) (same.counts (is_run_of k))) in
      omega (arith, lacking, has.room, room);
}

pub lacking-acts : (nodes : List Node) (old new : List Due) → SameActs old new → count_by (lacks_eval new) (enumerate_from 0 nodes) ≡ count_by (lacks_eval old) (enumerate_from 0 nodes)
lacking-acts nodes old new same = count-same (lacks_eval new) (lacks_eval old) nodes 0 (λ k (node : Node) from. ap (λ (n : ℕ). has_output node.what && nat_eq n 0) (same.counts (is_eval_of k)))

pub fits-acts : (net : NetNow) (threads : KeyedTable) (old new : Schedule) → SameActs old.dues new.dues → old.spare ≤ new.spare → Fits net threads old → Fits net threads new
fits-acts net threads old new same room fits = record {
  marks = λ item. same.counts (is_eval_of item) ∙ fits.marks item;
  runs = subst (λ (n : ℕ). HasRuns threads n new) (sym (lacking-acts net.nodes old.dues new.dues same)) (runs-acts threads _ old new same room fits.runs);
  names = same.each (NamesItems net.nodes net.values) fits.names;
  marked = fits.marked;
  events = fits.events;
}
