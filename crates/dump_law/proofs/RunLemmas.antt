-- The dump of each run of a linked program with plain names is one of ours.
use Rattle.std.proofs.Common.{◌≡◌, ℕ, zero, suc, ◌+◌, Bool, true, false, cond, ◌==◌, Option, Some, None, List, [], ◌∷◌, map, refl, arith}
use Rattle.std.specs.Prelude.{All, filter_map}
use Rattle.std.specs.List.{cons_option, enumerate_from}
use Rattle.std.proofs.lemmas.Bool.{eqb-true}
use Rattle.std.proofs.lemmas.List.Elements.{All-nil, All-cons, All-append, All-map}
use Rattle.std.proofs.lemmas.Option.{none-some}
use Rattle.event_pool.specs.declared.agenda.Due.{Due}
use Rattle.event_pool.specs.declared.agenda.Act.{Act}
use Rattle.event_pool.specs.declared.agenda.Act.TheVariants.{Eval, Run, Update, Mature}
use Rattle.sym_link.specs.declared.program.ItemKind.{ItemKind}
use Rattle.sym_link.specs.declared.program.ItemKind.TheVariants as kind
use Rattle.sym_link.specs.declared.program.Program.{Program}
use Rattle.sym_link.specs.Roots.{Node, nodes_of}
use Rattle.sym_link.specs.Sound.{IsProgram}
use Rattle.net_engine.specs.Kept.{NamesItems}
use Rattle.net_engine.specs.Net.{NetValues, first_values}
use Rattle.net_engine.proofs.WideLemmas.{wide-first}
use Rattle.sys_tasks.specs.declared.state.TaskState.{TaskState}
use Rattle.sys_tasks.specs.Design.{design_of}
use Rattle.sys_tasks.specs.Phase.{dump_name}
use Rattle.sys_tasks.specs.Tasks.{first_state, first_tasks}
use Rattle.vcd_law.proofs.GrowLemmas.{dump-own}
use Rattle.sim_core.specs.Machine.{Machine, now_of}
use Rattle.sim_core.specs.Start.{eval_at, eval_by, first_dues, first_evals, run, run_at, start_of}
use Rattle.sim_core.specs.Step.{after}
use Rattle.sim_core.proofs.LoadLemmas.{first-named}
use Rattle.dump_law.specs.Dumping.{IsDumpKept}
use Rattle.dump_law.specs.Kept.{HasOwnDump, IsKept}
use Rattle.dump_law.specs.Plain.{plain_names}
use Rattle.dump_law.specs.Steady.{ArePending, IsOnTime, NamesKind}
use Rattle.dump_law.proofs.StepLemmas.{budgeted-kept, step-kept}

-- ---- the start

names-kind : (nodes : List Node) (values : NetValues) (act : Act) → NamesItems nodes values act → NamesKind nodes act
names-kind nodes values (Eval item) h = h
names-kind nodes values (Run serial key) h = tt
names-kind nodes values (Update item word offset value) h = tt
names-kind nodes values (Mature item number) h = h

-- the first evaluations are due at time 0
by-kind-start : (item : ℕ) (what : ItemKind) (dues : List Due) → All (λ (due : Due). due.time ≡ 0) dues → All (λ (due : Due). due.time ≡ 0) (cons_option (eval_by item what) dues)
by-kind-start item (kind.Functor gate drive ports) dues h = All-cons (λ (due : Due). due.time ≡ 0) _ dues refl h
by-kind-start item (kind.Delay rise fall decay port) dues h = All-cons (λ (due : Due). due.time ≡ 0) _ dues refl h
by-kind-start item other dues h = h

evals-start : (from : ℕ) (nodes : List Node) → All (λ (due : Due). due.time ≡ 0) (filter_map eval_at (enumerate_from from nodes))
evals-start from [] = All-nil (λ (due : Due). due.time ≡ 0)
evals-start from (node ∷ nodes) = by-kind-start from node.what (filter_map eval_at (enumerate_from (from + 1) nodes)) (evals-start (from + 1) nodes)

start-on-time : (nodes : List Node) (due : Due) → due.time ≡ 0 → NamesKind nodes due.act → IsOnTime nodes 0 due
start-on-time nodes due at names = record { onward = omega arith; in_time = omega (arith, at); names = names }

start-pending : (program : Program) → ArePending (nodes_of program) 0 (record { now = 0; dues = first_dues program })
start-pending program =
    let nodes : List Node = nodes_of program in
    let values : NetValues = first_values nodes in
    record {
      at = refl;
      dues =
          All-append (IsOnTime nodes 0) (first_evals nodes) (map run_at (enumerate_from 0 program.threads))
          (λ k d inside. start-on-time nodes _ (evals-start 0 nodes k d inside) (names-kind nodes values _ (first-named nodes values k d inside)))
          (All-map (IsOnTime nodes 0) run_at (enumerate_from 0 program.threads) (λ k d inside. record { onward = omega arith; in_time = omega arith; names = tt }));
    }

start-dump : (program : Program) → IsDumpKept program 0 (first_tasks (design_of program))
unfolding first_tasks first_state
start-dump program = record {
  designed = refl;
  chosen = record { few = omega arith; each = refl };
  stage = omega arith;
  before = λ less. refl;
  begun = λ two. absurd (let none : 0 ≡ 2 = two in omega arith);
}

module _ (program : Program) (linked : IsProgram program) (plain : plain_names program ≡ true) where
  pub start-kept : IsKept program (start_of program)
  start-kept = record {
    few = omega arith;
    at = record {
      steady = record { pending = start-pending program; wide = wide-first (nodes_of program) };
      dump = start-dump program;
    };
  }

  -- ---- runs

  pub after-kept : (order count : ℕ) → IsKept program (after program order count (start_of program))
  after-kept order zero = start-kept
  after-kept order (suc count) = step-kept program linked plain order (after program order count (start_of program)) (after-kept order count)

  pub run-kept : (order budget : ℕ) → IsKept program (run program order budget)
  run-kept order budget = budgeted-kept program linked plain (after program order budget (start_of program)) (after-kept order budget)

-- ---- the dump in the end

-- a dump that has a name has its header
named-written : (state : TaskState) (name : List ℕ) → dump_name state ≡ Some name → state.dumping ≡ 2
unfolding dump_name
named-written state name is = by (state.dumping == 2) refl is
  where
    by : (b : Bool) → (state.dumping == 2) ≡ b → ◌≡◌ {A = Option (List ℕ)} (cond b (Some state.name) None) (Some name) → state.dumping ≡ 2
    by true two e = eqb-true state.dumping 2 two
    by false two e = absurd (none-some name e)

pub kept-own : (program : Program) (machine : Machine) → IsKept program machine → HasOwnDump machine
kept-own program machine h name is =
    dump-own _ _ _ (now_of machine) machine.tasks.dump (h.at.dump.begun (named-written machine.tasks.state name is)).text

pub runs-own : (program : Program) (order budget : ℕ) → IsProgram program → plain_names program ≡ true → HasOwnDump (run program order budget)
runs-own program order budget linked plain = kept-own program (run program order budget) (run-kept program linked plain order budget)
