-- A run whose dump stays with the engine.
use Rattle.std.proofs.Common.{◌≡◌, ℕ, suc, ◌+◌, ◌^◌, ◌<◌, ◌≤◌, Bool, true, false, cond, List, [], ◌++◌, length, Option, Some, None, inl, inr, refl, sym, ap, subst, ◌∙◌, length-append, arith}
use Rattle.std.specs.Prelude.{◌⊎◌, Ok}
use Rattle.sym_link.specs.declared.program.Program.{Program}
use Rattle.sym_link.specs.Verdict as verdict
use Rattle.sys_tasks.specs.Phase.{dump_name}
use Rattle.sim_core.specs.declared.ending.Ending.{Ending}
use Rattle.sim_core.specs.Machine.{Machine}
use Rattle.sim_core.specs.Engine.{EngineFollows, Shown, in_turn_of_machine}
use Rattle.sim_core.specs.Start.{run as run_of, start_of}
use Rattle.sim_core.specs.Step.{after, budgeted, run_from, step}
use Rattle.dump_law.specs.Kept.{HasOwnDump}
use Rattle.dump_law.specs.Plain.{plain_names}
use Rattle.vcd_law.specs.Own.{IsOwn}
use Rattle.vcd_law.proofs.OwnLaw.{own-vcd}
use Rattle.vcd_read.specs.declared.types.Trace.{Trace}
use Rattle.vvp_edge.specs.Bytes.{IsPrefix}
use Rattle.vvp_words.specs.Entries.{Entries}
use Rattle.vvp_top.specs.declared.activity.Own.{Own}
use Rattle.vvp_top.specs.declared.activity.Own.TheVariants as own
use Rattle.vvp_top.specs.declared.outcome.Outcome.{Outcome}
use Rattle.vvp_top.specs.declared.outcome.Outcome.TheVariants.{BadWords, Memory, OutputFault, Refused, StoreFault}
use Rattle.vvp_top.specs.declared.refusal.Why.TheVariants as why
use Rattle.vvp_top.specs.Activity.{IsReadable, KeepsDump, Moves, own_outcome}
use Rattle.vvp_top.specs.Delivery.{same_machine, without_out}
use Rattle.vvp_top.specs.Toggles.{own_text}
use Rattle.vvp_top.specs.Whole.{Dump, Whole, activity_of_machine, activity_of_program, activity_of_verdict, dump_by, dump_of, ended, is_larger, reported, silent, trace_of, whole_of_activity, whole_of_own}
use Rattle.vvp_top.specs.Refusals.{IsRefusal}
use Rattle.vvp_top.proofs.DeliveryLemmas.{shows-out}
use Rattle.vvp_top.proofs.GrowLemmas.{Grows}
use Rattle.vvp_top.proofs.RunLemmas.{run-ends, run-grows}
use Rattle.vvp_top.proofs.VerdictLemmas.{lt-test, test-lt}

-- ---- calls that keep the dump

pub keeps-start : (machine : Machine) (shown : Shown) → in_turn_of_machine machine ≡ shown.machine → KeepsDump machine shown
keeps-start machine shown is = record { printed = []; shows = is }

pub moves-none : (shown : Shown) → Moves same_machine shown shown
moves-none shown = record { moved = λ machine keeps. keeps; program = refl; order = refl }

-- what was printed is taken away
pub moves-cleared : (old new : Shown) → new ≡ without_out old → Moves same_machine old new
moves-cleared old new is = subst (Moves same_machine old) (sym is) (record {
  moved = λ machine keeps. record {
    printed = keeps.printed ++ old.machine.tasks.out;
    shows = keeps.shows ∙ shows-out (record { out = keeps.printed; dump = [] }) old;
  };
  program = refl;
  order = refl;
})

-- the engine does it
pub moves-follows : (f : Machine → Machine) (old new : Shown) → EngineFollows f old new → Moves f old new
moves-follows f old new follows = record {
  moved = λ machine keeps. record {
    printed = keeps.printed;
    shows = (follows.machine (record { out = keeps.printed; dump = [] })).shown machine keeps.shows;
  };
  program = follows.program;
  order = follows.order;
}

pub moves-then : (f : Machine → Machine) (old mid new : Shown) → Moves f old mid → Moves same_machine mid new → Moves f old new
moves-then f old mid new first second = record {
  moved = λ machine keeps. second.moved (f machine) (first.moved machine keeps);
  program = second.program ∙ first.program;
  order = second.order ∙ first.order;
}

-- ---- turns

-- one turn more
pub keeps-next : (program now_program : Program) (order now_order count : ℕ) (machine : Machine) (old new : Shown) → now_program ≡ program → now_order ≡ order
    → KeepsDump (after program order count machine) old → Moves (step now_program now_order) old new → KeepsDump (after program order (count + 1) machine) new
keeps-next program now_program order now_order count machine old new programs orders keeps moves =
    let next : suc count ≡ count + 1 = omega arith in
    let there : Machine = after program order count machine in
    subst (λ (n : ℕ). KeepsDump (after program order n machine) new) next
    (subst (λ (p : Program). KeepsDump (step p order there) new) programs
    (subst (λ (o : ℕ). KeepsDump (step now_program o there) new) orders (moves.moved there keeps)))

-- the run has ended before its budget
pub keeps-early : (program : Program) (order count budget : ℕ) (ending : Ending) (machine : Machine) (shown : Shown) → count ≤ budget → shown.machine.ending ≡ Some ending
    → KeepsDump (after program order count machine) shown → KeepsDump (run_from program order budget machine) shown
keeps-early program order count budget ending machine shown within ended keeps =
    let there : (after program order count machine).ending ≡ Some ending = ap (λ (x : Machine). x.ending) keeps.shows ∙ ended in
    subst (λ (x : Machine). KeepsDump x shown) (sym (run-ends program order count budget ending machine within there)) keeps

-- the budget has ended
pub keeps-last : (program now_program : Program) (order count budget : ℕ) (machine : Machine) (old new : Shown) → now_program ≡ program → count ≡ budget
    → KeepsDump (after program order count machine) old → Moves (budgeted now_program) old new → KeepsDump (run_from program order budget machine) new
keeps-last program now_program order count budget machine old new programs all keeps moves =
    let there : Machine = after program order count machine in
    subst (λ (n : ℕ). KeepsDump (run_from program order n machine) new) all
    (subst (λ (p : Program). KeepsDump (budgeted p there) new) programs (moves.moved there keeps))

-- ---- a dump that is too large

dump-kept : (machine : Machine) (shown : Shown) → KeepsDump machine shown → dump_of machine ≡ dump_of shown.machine
dump-kept machine shown keeps = ap dump_of keeps.shows

prefix-larger : (most : ℕ) (bytes more : List ℕ) → IsPrefix bytes more → most < length bytes → most < length more
prefix-larger most bytes more (rest, is) large =
    let long : length more ≡ length bytes + length rest = ap (λ (b : List ℕ). length b) is ∙ length-append bytes rest in
    omega (arith, large, long)

-- it only grows
larger-by : (most : ℕ) (old new : Option (List ℕ)) (bytes more : List ℕ) → ((name : List ℕ) → old ≡ Some name → new ≡ Some name) → IsPrefix bytes more
    → is_larger most (dump_by old bytes) ≡ true → is_larger most (dump_by new more) ≡ true
larger-by most None new bytes more stays longer large = absurd (let never : ⊥ = cc in never)
larger-by most (Some name) new bytes more stays longer large =
    ap (λ (n : Option (List ℕ)). is_larger most (dump_by n more)) (stays name refl)
    ∙ lt-test most (length more) (prefix-larger most bytes more longer (test-lt most (length bytes) large))

larger-grows : (most : ℕ) (old new : Machine) → Grows old.tasks new.tasks → is_larger most (dump_of old) ≡ true → is_larger most (dump_of new) ≡ true
larger-grows most old new grows large = larger-by most (dump_name old.tasks.state) (dump_name new.tasks.state) old.tasks.dump new.tasks.dump grows.named grows.dump large

-- so that of the whole run is too large
pub larger-run : (most : ℕ) (program : Program) (order count budget : ℕ) (machine : Machine) (shown : Shown) → count ≤ budget → KeepsDump (after program order count machine) shown
    → is_larger most (dump_of shown.machine) ≡ true → is_larger most (dump_of (run_from program order budget machine)) ≡ true
larger-run most program order count budget machine shown within keeps large =
    larger-grows most (after program order count machine) (run_from program order budget machine) (run-grows program order count budget machine within)
    (ap (is_larger most) (dump-kept (after program order count machine) shown keeps) ∙ large)

-- the greatest size that a source may have
pub sized : (most : ℕ) (large : Bool) (dump : Option Dump) → most ≡ 2 ^ 26 → is_larger most dump ≡ large → is_larger (2 ^ 26) dump ≡ large
sized most large dump is so = ap (λ (n : ℕ). is_larger n dump) (sym is) ∙ so

-- ---- the dump that the engine has

-- a dump of ours is in the reader's grammar
readable-by : (name : Option (List ℕ)) (bytes : List ℕ) → ((n : List ℕ) → name ≡ Some n → IsOwn bytes) → IsReadable (dump_by name bytes)
readable-by None bytes own = tt
readable-by (Some n) bytes own = own-vcd bytes (own n refl)

pub readable-own : (machine : Machine) → HasOwnDump machine → IsReadable (dump_of machine)
readable-own machine own = readable-by (dump_name machine.tasks.state) machine.tasks.dump own

-- ---- the run of a program

-- what holds of the run from the machine that an engine shows holds of the program's run
pub of-run : (P : Machine → Type 0) (program : Program) (order budget : ℕ) (engine : Shown) → engine.program ≡ program → engine.order ≡ order → in_turn_of_machine (start_of program) ≡ engine.machine
    → ((machine : Machine) → in_turn_of_machine machine ≡ engine.machine → P (run_from engine.program engine.order budget machine)) → P (run_of program order budget)
of-run P program order budget engine programs orders start holds =
    subst (λ (p : Program). P (run_from p order budget (start_of program))) programs
    (subst (λ (o : ℕ). P (run_from engine.program o budget (start_of program))) orders (holds (start_of program) start))

-- what is said of the dump that the engine keeps, at the run's end, is what is said of the run's
pub kept-own : (machine : Machine) (shown : Shown) → KeepsDump machine shown → HasOwnDump machine → HasOwnDump shown.machine
kept-own machine shown keeps own =
    subst (λ (m : Machine). HasOwnDump m) keeps.shows own

pub of-kept : (P : Option Dump → Type 0) (machine : Machine) (shown : Shown) → KeepsDump machine shown → P (dump_of shown.machine) → P (dump_of machine)
of-kept P machine shown keeps holds = subst P (sym (dump-kept machine shown keeps)) holds

pub ending-kept : (machine : Machine) (shown : Shown) (ending : Option Ending) → KeepsDump machine shown → ending ≡ shown.machine.ending → ending ≡ machine.ending
ending-kept machine shown ending keeps answer = answer ∙ sym (ap (λ (m : Machine). m.ending) keeps.shows)

-- ---- the report on it

abbrev own_by : Outcome → Option Trace → Bool → Whole
own_by end trace large = cond large (silent (Refused 0 why.TooLarge)) (reported end (own_text trace))

own-is : (end : Outcome) (dump : Option Dump) → own_by end (trace_of dump) (is_larger (2 ^ 26) dump) ≡ whole_of_own end dump
unfolding whole_of_own
own-is end dump = refl

-- it was read
pub activity-read : (machine : Machine) (trace : Option Trace) (ending : Option Ending) → is_larger (2 ^ 26) (dump_of machine) ≡ false → trace ≡ trace_of (dump_of machine) → ending ≡ machine.ending
    → activity_of_machine machine ≡ reported (ended ending) (own_text trace)
activity-read machine trace ending small is answer =
    sym (own-is (ended machine.ending) (dump_of machine))
    ∙ ap (own_by (ended machine.ending) (trace_of (dump_of machine))) small
    ∙ ap (λ (t : Option Trace). reported (ended machine.ending) (own_text t)) (sym is)
    ∙ ap (λ (e : Option Ending). reported (ended e) (own_text trace)) (sym answer)

-- the run was stopped
pub activity-stopped : (stop : Own) (machine : Machine) (outcome : Outcome) → outcome ≡ own_outcome stop → (stop ≡ own.TooLarge → is_larger (2 ^ 26) (dump_of machine) ≡ true)
    → (outcome ≡ Memory) ⊎ (activity_of_machine machine ≡ silent outcome)
activity-stopped own.TooLarge machine outcome is large =
    inr (sym (own-is (ended machine.ending) (dump_of machine)) ∙ ap (own_by (ended machine.ending) (trace_of (dump_of machine))) (large refl) ∙ ap silent (sym is))
activity-stopped own.Memory machine outcome is large = inl is

pub stopped-isnt : (stop : Own) (outcome : Outcome) → outcome ≡ own_outcome stop → (outcome ≡ StoreFault → ⊥) × (outcome ≡ OutputFault → ⊥) × (outcome ≡ BadWords → ⊥)
stopped-isnt own.TooLarge outcome is = ((λ same. let never : ⊥ = cc in never), (λ same. let never : ⊥ = cc in never), (λ same. let never : ⊥ = cc in never))
stopped-isnt own.Memory outcome is = ((λ same. let never : ⊥ = cc in never), (λ same. let never : ⊥ = cc in never), (λ same. let never : ⊥ = cc in never))

-- ---- the program of a source

abbrev by_names : Entries → Program → Bool → Whole
by_names e program plain = cond plain (activity_of_machine (run_of program e.order e.budget)) (silent (Refused 0 why.BadName))

activity-by : (e : Entries) (program : Program) → by_names e program (plain_names program) ≡ activity_of_program e program
unfolding activity_of_program
activity-by e program = refl

-- a dump can hold its names
pub activity-plain : (e : Entries) (bytes : List ℕ) (program : Program) (w : Whole) → verdict.verdict bytes ≡ Ok program → plain_names program ≡ true → activity_of_machine (run_of program e.order e.budget) ≡ w
    → whole_of_activity e bytes ≡ w
activity-plain e bytes program w is plain says = ap (activity_of_verdict e) is ∙ sym (activity-by e program) ∙ ap (by_names e program) plain ∙ says

pub activity-bad : (e : Entries) (bytes : List ℕ) (program : Program) → verdict.verdict bytes ≡ Ok program → plain_names program ≡ false → whole_of_activity e bytes ≡ silent (Refused 0 why.BadName)
activity-bad e bytes program is plain = ap (activity_of_verdict e) is ∙ sym (activity-by e program) ∙ ap (by_names e program) plain

pub activity-none_or : (e : Entries) (bytes : List ℕ) (program : Program) (outcome : Outcome) → verdict.verdict bytes ≡ Ok program → plain_names program ≡ true
    → ((outcome ≡ Memory) ⊎ (activity_of_machine (run_of program e.order e.budget) ≡ silent outcome)) → (outcome ≡ Memory) ⊎ (whole_of_activity e bytes ≡ silent outcome)
activity-none_or e bytes program outcome is plain (inl memory) = inl memory
activity-none_or e bytes program outcome is plain (inr says) = inr (activity-plain e bytes program (silent outcome) is plain says)

-- it has none
pub activity-no_program : (e : Entries) (bytes : List ℕ) (outcome : Outcome) → IsRefusal outcome (verdict.verdict bytes) → (outcome ≡ Memory) ⊎ (whole_of_activity e bytes ≡ silent outcome)
activity-no_program e bytes outcome (inl memory) = inl memory
activity-no_program e bytes outcome (inr (w, is, so)) = inr (ap (activity_of_verdict e) is ∙ ap silent (sym so))
