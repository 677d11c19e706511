-- The read-only phase keeps what a run keeps of its dump.
use Rattle.std.proofs.Common.{◌≡◌, ℕ, ◌<◌, ◌≤◌, ◌^◌, Bool, true, false, cond, ◌&&◌, ◌||◌, not, ◌==◌, Option, Some, None, List, [], ◌++◌, length, map, refl, sym, subst, append-nil, arith}
use Rattle.std.proofs.lemmas.Bool.{eqb-true, false≢true}
use Rattle.std.proofs.lemmas.Bool.Decides.{nat_tests}
use Rattle.four_state.specs.declared.bits.Bit.{Bit}
use Rattle.vcd_write.specs.Header.{header_text, size}
use Rattle.vcd_law.specs.Own.{IsDumpTo}
use Rattle.sym_link.specs.declared.program.Program.{Program}
use Rattle.sym_link.specs.Roots.{nodes_of}
use Rattle.sym_link.specs.Sound.{IsProgram}
use Rattle.net_engine.specs.Net.{NetValues, words_of}
use Rattle.net_engine.specs.Parts.{AreWide}
use Rattle.sys_tasks.specs.declared.state.Call.{Call}
use Rattle.sys_tasks.specs.Dumped.{dump_items, dump_scopes, dumped_values}
use Rattle.sys_tasks.specs.Phase.{dumped, line_now, monitored, monitored_by, read_only, same_values, strobed, watched_now, with_phase}
use Rattle.sys_tasks.specs.Tasks.{TasksNow, printed, with_state}
use Rattle.dump_law.specs.Dumping.{IsDumpKept}
use Rattle.dump_law.specs.Plain.{plain_names}
use Rattle.dump_law.proofs.HeadLemmas.{head-of, values-wide}
use Rattle.dump_law.proofs.WritingLemmas.{headed, phase-follows}

-- a dump that is neither before its first call nor at its header
two-left : (dumping : ℕ) → (dumping == 0) ≡ false → (dumping == 1) ≡ false → dumping ≤ 2 → dumping ≡ 2
two-left dumping not_zero not_one most = grind (arith, nat_tests)

module _ (program : Program) (now : ℕ) where
  pub either-kept : (choice : Bool) (a b : TasksNow) → IsDumpKept program now a → IsDumpKept program now b → IsDumpKept program now (cond choice a b)
  either-kept true a b first second = first
  either-kept false a b first second = second

  -- ---- printing

  strobed-kept : (words : ℕ → List (List Bit)) (tasks : TasksNow) → IsDumpKept program now tasks → IsDumpKept program now (strobed now words tasks)
  unfolding strobed
  strobed-kept words tasks h = record { designed = h.designed; chosen = h.chosen; stage = h.stage; before = h.before; begun = λ two. record { text = (h.begun two).text; last = (h.begun two).last } }

  monitored-kept : (words : ℕ → List (List Bit)) (call : Option Call) (tasks : TasksNow) → IsDumpKept program now tasks → IsDumpKept program now (monitored_by now words call tasks)
  monitored-kept words None tasks h = h
  monitored-kept words (Some call) tasks h =
      let values : List (List Bit) = watched_now tasks.design.entries tasks.design.scopes now words call in
      let line : List ℕ = line_now tasks.design.entries tasks.design.scopes now words call in
      either-kept (tasks.state.monitor_on && (tasks.state.monitor_due || not (same_values values tasks.state.shown)))
      (printed line (with_state (record tasks.state { monitor_due = false; shown = values }) tasks)) tasks
      (record { designed = h.designed; chosen = h.chosen; stage = h.stage; before = h.before; begun = λ two. record { text = (h.begun two).text; last = (h.begun two).last } }) h

module _ (program : Program) (linked : IsProgram program) (plain : plain_names program ≡ true) (now : ℕ) (few : now < 2 ^ 64) (values : NetValues) (wide : AreWide (nodes_of program) values) where
  -- ---- the dump

  abbrev words : ℕ → List (List Bit)
  words = words_of (nodes_of program) values

  -- a phase after this much of the dump, with its header or without
  after-front : (header : Bool) (front : List ℕ) (tasks : TasksNow) → IsDumpKept program now tasks → IsDumpTo tasks.design.precision (dump_scopes tasks.design) (dump_items tasks.design tasks.state.chosen) now front
      → (header ≡ false → map length tasks.state.last ≡ map size (dump_items tasks.design tasks.state.chosen))
      → IsDumpKept program now (with_phase now header (dumped_values tasks.design words tasks.state.chosen) (record tasks { dump = front }))
  after-front header front tasks h text last =
      let follows =
      phase-follows tasks.design.precision (dump_scopes tasks.design) (dump_items tasks.design tasks.state.chosen) now (dumped_values tasks.design words tasks.state.chosen) front header tasks.state.requests tasks.state.dump_on tasks.state.last few
      (values-wide program tasks.design values tasks.state.chosen linked wide h.designed h.chosen) text last in
      record {
        designed = h.designed;
        chosen = h.chosen;
        stage = omega arith;
        before = λ less. absurd (omega (arith, less));
        begun = λ two. record { text = follows.follows; last = follows.wide };
      }

  -- by whether the header is due, where a dump was asked for
  abbrev phase_by : Bool → TasksNow → TasksNow
  phase_by header tasks =
      with_phase now header (dumped_values tasks.design words tasks.state.chosen)
      (record tasks { dump = tasks.dump ++ cond header (header_text tasks.design.precision (dump_scopes tasks.design) (dump_items tasks.design tasks.state.chosen)) [] })

  phase-by : (header : Bool) (tasks : TasksNow) → IsDumpKept program now tasks → (tasks.state.dumping == 0) ≡ false → (tasks.state.dumping == 1) ≡ header → IsDumpKept program now (phase_by header tasks)
  phase-by true tasks h begun one =
      let first : tasks.state.dumping ≡ 1 = eqb-true tasks.state.dumping 1 one in
      let empty : tasks.dump ≡ [] = h.before (omega (arith, first)) in
      let head = head-of program tasks.design tasks.state.chosen linked plain h.designed h.chosen in
      let text : List ℕ = header_text tasks.design.precision (dump_scopes tasks.design) (dump_items tasks.design tasks.state.chosen) in
      let front : IsDumpTo tasks.design.precision (dump_scopes tasks.design) (dump_items tasks.design tasks.state.chosen) now (tasks.dump ++ text) =
      subst (λ (d : List ℕ). IsDumpTo tasks.design.precision (dump_scopes tasks.design) (dump_items tasks.design tasks.state.chosen) now (d ++ text)) (sym empty)
      (headed tasks.design.precision (dump_scopes tasks.design) (dump_items tasks.design tasks.state.chosen) now head) in
      after-front true (tasks.dump ++ text) tasks h front (λ is. absurd (false≢true (sym is)))
  phase-by false tasks h begun other =
      let two : tasks.state.dumping ≡ 2 = two-left tasks.state.dumping begun other h.stage in
      let was = h.begun two in
      after-front false (tasks.dump ++ []) tasks h
      (subst (IsDumpTo tasks.design.precision (dump_scopes tasks.design) (dump_items tasks.design tasks.state.chosen) now) (sym (append-nil tasks.dump)) was.text) (λ is. was.last)

  dumped-kept : (tasks : TasksNow) → IsDumpKept program now tasks → IsDumpKept program now (dumped now words tasks)
  unfolding dumped
  dumped-kept tasks h = by (tasks.state.dumping == 0) refl
    where
      by : (none : Bool) → (tasks.state.dumping == 0) ≡ none → IsDumpKept program now (cond none tasks (phase_by (tasks.state.dumping == 1) tasks))
      by true is = h
      by false is = phase-by (tasks.state.dumping == 1) tasks h is refl

  pub phase-kept : (tasks : TasksNow) → IsDumpKept program now tasks → IsDumpKept program now (read_only now words tasks)
  unfolding read_only monitored
  phase-kept tasks h =
      let strobes : TasksNow = strobed now words tasks in
      let printed_ : IsDumpKept program now strobes = strobed-kept program now words tasks h in
      dumped-kept (monitored_by now words strobes.state.monitor strobes) (monitored-kept program now words strobes.state.monitor strobes printed_)
