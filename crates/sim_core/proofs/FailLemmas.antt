-- Want of memory: what was printed is a beginning of what was due.
use Rattle.std.proofs.Common.{◌≡◌, ℕ, List, [], ◌++◌, sym, ap, ◌∙◌, subst, append_assoc}
use Rattle.std.proofs.lemmas.List.{append-nil}
use Rattle.sys_tasks.specs.Conditions.{IsBetween}
use Rattle.sys_tasks.specs.Tasks.{TasksNow}
use Rattle.sim_core.specs.Machine.{Machine}
use Rattle.sim_core.specs.Engine.{Sent, with_sent, in_turn_of_machine, Shown, EngineFollows, EngineFails}
use Rattle.sim_core.specs.Parts.{Unprinted, ShownFails, ShownSteps}
use Rattle.sim_core.proofs.SentLemmas.{sent-follows}

-- f does the same whatever was printed and handed over before
abbrev pub After : (Machine → Machine) → Type 0
After f = (sent : Sent) (machine : Machine) → f (with_sent sent machine) ≡ with_sent sent (f machine)

-- a machine that has printed and dumped nothing
abbrev pub emptied : Machine → Machine
emptied machine = record machine { tasks = record machine.tasks { out = []; dump = [] } }

abbrev pub sent_of : Machine → Sent
sent_of machine = record { out = machine.tasks.out; dump = machine.tasks.dump }

whole : (machine : Machine) → machine ≡ with_sent (sent_of machine) (emptied machine)
whole machine =
    ap (λ (bytes : List ℕ). record machine { tasks = record machine.tasks { out = bytes } }) (sym (append-nil machine.tasks.out))
    ∙ ap (λ (bytes : List ℕ). record machine { tasks = record machine.tasks { out = machine.tasks.out ++ []; dump = bytes } }) (sym (append-nil machine.tasks.dump))

-- so what f prints is added
pub added : (f : Machine → Machine) → After f → (machine : Machine) → f machine ≡ with_sent (sent_of machine) (f (emptied machine))
added f after machine = ap f (whole machine) ∙ after (sent_of machine) (emptied machine)

-- where nothing was printed, all that was is a beginning
pub unprinted-fails : (f : Machine → Machine) (old new : Shown) → After f → Unprinted old new → ShownFails f old new
unprinted-fails f old new after still = record {
  cut = λ machine e.
      let tasks : machine.tasks ≡ old.machine.tasks = ap (λ (m : Machine). m.tasks) e in
      let all : f machine ≡ with_sent (sent_of machine) (f (emptied machine)) = added f after machine in
      record {
        out = record {
          part = [];
          rest = (f (emptied machine)).tasks.out;
          after_first = still.out ∙ sym (append-nil old.machine.tasks.out);
          before_last = ap (λ (m : Machine). m.tasks.out) all ∙ ap (λ (bytes : List ℕ). bytes ++ (f (emptied machine)).tasks.out) (ap (λ (t : TasksNow). t.out) tasks ∙ sym still.out);
        };
        dump = record {
          part = [];
          rest = (f (emptied machine)).tasks.dump;
          after_first = still.dump ∙ sym (append-nil old.machine.tasks.dump);
          before_last = ap (λ (m : Machine). m.tasks.dump) all ∙ ap (λ (bytes : List ℕ). bytes ++ (f (emptied machine)).tasks.dump) (ap (λ (t : TasksNow). t.dump) tasks ∙ sym still.dump);
        };
      };
  program = still.program;
  order = still.order;
}

-- bytes that stand in front of all three
between-sent : (sent first last text : List ℕ) → IsBetween first last text → IsBetween (sent ++ first) (sent ++ last) (sent ++ text)
between-sent sent first last text b = record {
  part = b.part;
  rest = b.rest;
  after_first = ap (λ (bytes : List ℕ). sent ++ bytes) b.after_first ∙ sym (append_assoc sent first b.part);
  before_last = ap (λ (bytes : List ℕ). sent ++ bytes) b.before_last ∙ sym (append_assoc sent text b.rest);
}

-- more that was due behind
pub between-more : (first last later text more : List ℕ) → IsBetween first last text → later ≡ last ++ more → IsBetween first later text
between-more first last later text more b e = record {
  part = b.part;
  rest = b.rest ++ more;
  after_first = b.after_first;
  before_last = e ∙ ap (λ (bytes : List ℕ). bytes ++ more) b.before_last ∙ append_assoc text b.rest more;
}

-- more that was printed before
pub between-before : (earlier first last text part : List ℕ) → first ≡ earlier ++ part → IsBetween first last text → IsBetween earlier last text
between-before earlier first last text part e b = record {
  part = part ++ b.part;
  rest = b.rest;
  after_first = b.after_first ∙ ap (λ (bytes : List ℕ). bytes ++ b.part) e ∙ append_assoc earlier part b.part;
  before_last = b.before_last;
}

pub engine-fails : (f : Machine → Machine) (old new : Shown) → After f → ShownFails f old new → EngineFails f old new
engine-fails f old new after fails = record {
  out = λ sent machine e.
      subst (λ (m : Machine). IsBetween (sent.out ++ old.machine.tasks.out) m.tasks.out (sent.out ++ new.machine.tasks.out)) (sym (same sent machine e))
      (between-sent sent.out old.machine.tasks.out (f (bare machine)).tasks.out new.machine.tasks.out (fails.cut (bare machine) (shown sent machine e)).out);
  dump = λ sent machine e.
      subst (λ (m : Machine). IsBetween (sent.dump ++ old.machine.tasks.dump) m.tasks.dump (sent.dump ++ new.machine.tasks.dump)) (sym (same sent machine e))
      (between-sent sent.dump old.machine.tasks.dump (f (bare machine)).tasks.dump new.machine.tasks.dump (fails.cut (bare machine) (shown sent machine e)).dump);
  program = fails.program;
  order = fails.order;
}
  where
    bare : Machine → Machine
    bare machine = record machine { tasks = old.machine.tasks }

    shown : (sent : Sent) (machine : Machine) → in_turn_of_machine machine ≡ with_sent sent old.machine → in_turn_of_machine (bare machine) ≡ old.machine
    shown sent machine e = ap (λ (m : Machine). record m { tasks = old.machine.tasks }) e

    same : (sent : Sent) (machine : Machine) → in_turn_of_machine machine ≡ with_sent sent old.machine → f machine ≡ with_sent sent (f (bare machine))
    same sent machine e = ap f (ap (λ (t : TasksNow). record machine { tasks = t }) (ap (λ (m : Machine). m.tasks) e)) ∙ after sent (bare machine)

-- one step more or less
pub engine-follows : (f : Machine → Machine) (old new : Shown) → After f → ShownSteps f old new → EngineFollows f old new
engine-follows f old new after steps = record {
  machine = λ sent. sent-follows f old.machine new.machine after steps.machine sent;
  program = steps.program;
  order = steps.order;
  failed = steps.failed;
}
