-- What a call does, by what its parts do.
use Rattle.std.proofs.Common.{◌≡◌, ℕ, Bool, true, false, List, [], ◌++◌, Option, Some, None, inl, inr, refl, sym, ap, subst, ◌∙◌}
use Rattle.std.specs.Prelude.{IfSome, Result, Ok}
use Rattle.sym_link.specs.declared.program.Program.{Program}
use Rattle.sym_link.specs.Verdict as verdict
use Rattle.sim_core.specs.declared.ending.Ending.{Ending}
use Rattle.sim_core.specs.Machine.{Machine}
use Rattle.sim_core.specs.Engine.{Shown, in_turn_of_machine}
use Rattle.sim_core.specs.Start.{run as run_of, start_of}
use Rattle.sim_core.specs.Step.{run_from}
use Rattle.vvp_edge.specs.Bytes.{TellsAtMost}
use Rattle.vvp_edge.specs.Files.{Files}
use Rattle.vvp_words.specs.Entries.{Entries, entries}
use Rattle.vvp_top.specs.declared.outcome.Outcome.{Outcome}
use Rattle.vvp_top.specs.declared.outcome.Outcome.TheVariants.{Finish, Stop, Idle, Reported, BadWords, Refused, Spent, Trap, StoreFault, OutputFault, Memory, NoFile}
use Rattle.vvp_top.specs.declared.report.Counts.{Counts}
use Rattle.vvp_top.specs.declared.report.Report.{Report}
use Rattle.vvp_top.specs.Texts.{counts_text, is_ended, line_of, lines_of, may_come_anytime, own_message, status_of, yields}
use Rattle.vvp_top.specs.Whole.{Whole, counts_of, ended, refused, silent, source_of, whole, whole_of_entries, whole_of_found, whole_of_machine, whole_of_program, whole_of_run, whole_of_verdict}
use Rattle.vvp_top.specs.Ends.{CutFiles, CutShort, HandedOver, LeavesFiles}
use Rattle.vvp_top.specs.Delivery.{IsCut, IsDone}
use Rattle.vvp_top.specs.Refusals.{IsRefusal}
use Rattle.vvp_top.proofs.DeliveryLemmas.{append_known-nil, tells-same}

-- ---- nothing is handed over

pub tells-left : (now before : Option Files) → now ≡ before → TellsAtMost now before
tells-left now before is = subst (λ (f : Option Files). TellsAtMost now f) is (tells-same now)

pub leaves-none : (now before : Option Files) → now ≡ before → LeavesFiles None before now
leaves-none now None is = tells-left now None is
leaves-none now (Some files) is = tells-left now (Some files) is

-- a call that does nothing does what is silent
pub does-nothing : (w : Whole) (outcome : Outcome) (report : Report) (held held' : Option (List ℕ)) (files files' : Option Files) → w ≡ silent outcome
    → report ≡ record { outcome = outcome; counts = None } → held' ≡ held → files' ≡ files
    → (report ≡ w.report) × HandedOver w.output held held' × LeavesFiles w.dump files files'
does-nothing w outcome report held held' files files' is says same stays =
    subst (λ (x : Whole). (report ≡ x.report) × HandedOver x.output held held' × LeavesFiles x.dump files files') (sym is)
    (says, same ∙ sym (append_known-nil held), leaves-none files' files stays)

-- a call that is stopped before it hands anything over
pub cuts-nothing : (w : Whole) (held held' : Option (List ℕ)) (files files' : Option Files) → held' ≡ held → files' ≡ files → CutShort w.output held held' × CutFiles w.dump files files'
cuts-nothing w held held' files files' same stays = (([], (w.output, refl), same ∙ sym (append_known-nil held)), inl (tells-left files' files stays))

-- ---- what words and files say

-- refused words
pub whole-refused : (words : List (List ℕ)) (files : Files) → entries words ≡ None → whole words files ≡ silent BadWords
whole-refused words files none = ap (λ (e : Option Entries). whole_of_entries e files) none

-- words that are accepted
pub whole-said : (words : List (List ℕ)) (e : Entries) (files : Files) → entries words ≡ Some e → whole words files ≡ whole_of_found e (source_of e.work files)
whole-said words e files some = ap (λ (o : Option Entries). whole_of_entries o files) some

-- in every state of the files, if they are told
pub if-told : (files : Option Files) (P Q : Files → Type 0) → ((m : Files) → P m → Q m) → IfSome files P → IfSome files Q
if-told None P Q more told = tt
if-told (Some m) P Q more told = more m told

pub all-told : (files : Option Files) (Q : Files → Type 0) → ((m : Files) → Q m) → IfSome files Q
all-told None Q all = tt
all-told (Some m) Q all = all m

-- ---- the run of a program

-- the report of a run, by what its engine shows at the end
pub report-is : (stats : Bool) (machine : Machine) (shown : Shown) (outcome : Outcome) (counts : Option Counts) (ending : Option Ending) → outcome ≡ ended ending → ending ≡ shown.machine.ending
    → counts ≡ counts_of stats shown.machine → machine.ending ≡ shown.machine.ending → machine.state.pending.now ≡ shown.machine.state.pending.now → machine.steps ≡ shown.machine.steps
    → machine.peak ≡ shown.machine.peak → let report : Report = record { outcome = outcome; counts = counts } in report ≡ (whole_of_machine stats machine).report
report-is stats machine shown outcome counts ending o e c same now steps peak =
    let outcomes : outcome ≡ ended machine.ending = o ∙ ap ended (e ∙ sym same) in
    let all : counts ≡ counts_of stats machine = c ∙ counts-same stats shown.machine machine (sym now) (sym steps) (sym peak) in
    ap (λ (x : Outcome). let report : Report = record { outcome = x; counts = counts } in report) outcomes
    ∙ ap (λ (x : Option Counts). let report : Report = record { outcome = ended machine.ending; counts = x } in report) all
  where
    counts-same : (stats : Bool) (a b : Machine) → a.state.pending.now ≡ b.state.pending.now → a.steps ≡ b.steps → a.peak ≡ b.peak → counts_of stats a ≡ counts_of stats b
    counts-same false a b t s p = refl
    counts-same true a b t s p =
        ap (λ (x : ℕ). let c : Option Counts = Some (record { time = x; steps = a.steps; peak = a.peak }) in c) t
        ∙ ap (λ (x : ℕ). let c : Option Counts = Some (record { time = b.state.pending.now; steps = x; peak = a.peak }) in c) s
        ∙ ap (λ (x : ℕ). let c : Option Counts = Some (record { time = b.state.pending.now; steps = b.steps; peak = x }) in c) p

-- the run of the program of a source
pub source-runs : (e : Entries) (source : List ℕ) (program : Program) → verdict.verdict source ≡ Ok program → whole_of_run e source ≡ whole_of_machine e.stats (run_of program e.order e.budget)
unfolding whole_of_program
source-runs e source program is = ap (whole_of_verdict e) is

-- with what was handed over so far, where the run is stopped
pub source-cut : (e : Entries) (source : List ℕ) (program : Program) (engine : Shown) (held held' : Option (List ℕ)) (files files' : Option Files) → verdict.verdict source ≡ Ok program → engine.program ≡ program → engine.order ≡ e.order
    → in_turn_of_machine (start_of program) ≡ engine.machine → ((machine : Machine) → in_turn_of_machine machine ≡ engine.machine → IsCut (run_from engine.program engine.order e.budget machine) held files held' files')
    → CutShort (whole_of_run e source).output held held' × CutFiles (whole_of_run e source).dump files files'
source-cut e source program engine held held' files files' is programs orders start cut =
    let here : IsCut (run_of program e.order e.budget) held files held' files' =
    subst (λ (p : Program). IsCut (run_from p e.order e.budget (start_of program)) held files held' files') programs
    (subst (λ (o : ℕ). IsCut (run_from engine.program o e.budget (start_of program)) held files held' files') orders (cut (start_of program) start)) in
    subst (λ (w : Whole). CutShort w.output held held' × CutFiles w.dump files files') (sym (source-runs e source program is)) (here.output, here.dump)

-- with all that it has put out, where it has come to its end
pub source-done : (e : Entries) (source : List ℕ) (program : Program) (engine end : Shown) (outcome : Outcome) (counts : Option Counts) (ending : Option Ending) (held held' : Option (List ℕ)) (files files' : Option Files)
    → verdict.verdict source ≡ Ok program → engine.program ≡ program → engine.order ≡ e.order → in_turn_of_machine (start_of program) ≡ engine.machine
    → ((machine : Machine) → in_turn_of_machine machine ≡ engine.machine → IsDone (run_from engine.program engine.order e.budget machine) held files end held' files')
    → outcome ≡ ended ending → ending ≡ end.machine.ending → counts ≡ counts_of e.stats end.machine
    → let report : Report = record { outcome = outcome; counts = counts } in
    (report ≡ (whole_of_run e source).report) × HandedOver (whole_of_run e source).output held held' × LeavesFiles (whole_of_run e source).dump files files'
source-done e source program engine end outcome counts ending held held' files files' is programs orders start done o n c =
    let machine : Machine = run_of program e.order e.budget in
    let here : IsDone machine held files end held' files' =
    subst (λ (p : Program). IsDone (run_from p e.order e.budget (start_of program)) held files end held' files') programs
    (subst (λ (k : ℕ). IsDone (run_from engine.program k e.budget (start_of program)) held files end held' files') orders (done (start_of program) start)) in
    let report : Report = record { outcome = outcome; counts = counts } in
    subst (λ (w : Whole). (report ≡ w.report) × HandedOver w.output held held' × LeavesFiles w.dump files files') (sym (source-runs e source program is))
    (report-is e.stats machine end outcome counts ending o n c here.ending here.time here.steps here.peak, here.output, here.dump)

-- a source that is refused
pub refusal-silent : (e : Entries) (source : List ℕ) (outcome : Outcome) → IsRefusal outcome (verdict.verdict source) → yields outcome ≡ false → whole_of_run e source ≡ silent outcome
refusal-silent e source outcome (inl memory) none = absurd (let never : ⊥ = let is : yields Memory ≡ false = ap yields (sym memory) ∙ none in cc in never)
refusal-silent e source outcome (inr (why, is, so)) none = ap (whole_of_verdict e) is ∙ ap silent (sym so)

-- a refusal is neither of words nor of an object that fails
pub refusal-isnt : (outcome other : Outcome) (v : Result Program verdict.Why) → IsRefusal outcome v → (Memory ≡ other → ⊥) → ((why : verdict.Why) → refused why ≡ other → ⊥) → outcome ≡ other → ⊥
refusal-isnt outcome other v (inl memory) not_memory not_refused same = not_memory (sym memory ∙ same)
refusal-isnt outcome other v (inr (why, is, so)) not_memory not_refused same = not_refused why (sym so ∙ same)

-- ---- statuses

pub yields-status : (outcome : Outcome) → may_come_anytime (status_of outcome) ≡ yields outcome
yields-status Finish = refl
yields-status Stop = refl
yields-status Idle = refl
yields-status Reported = refl
yields-status BadWords = refl
yields-status (Refused line why) = refl
yields-status Spent = refl
yields-status (Trap kind address) = refl
yields-status StoreFault = refl
yields-status OutputFault = refl
yields-status Memory = refl
yields-status NoFile = refl

-- a run that has come to an end is no fault
pub ended-stays : (outcome : Outcome) → is_ended outcome ≡ true → yields outcome ≡ false
ended-stays Finish is = refl
ended-stays Stop is = refl
ended-stays Idle is = refl
ended-stays Reported is = refl
ended-stays BadWords is = refl
ended-stays (Refused line why) is = refl
ended-stays Spent is = refl
ended-stays (Trap kind address) is = refl
ended-stays StoreFault is = sym is
ended-stays OutputFault is = sym is
ended-stays Memory is = sym is
ended-stays NoFile is = refl

-- the outcomes whose statuses have lines of their own
pub own-is : (outcome : Outcome) (text : List ℕ) → own_message (status_of outcome) ≡ Some text → (line_of outcome ≡ text) × (is_ended outcome ≡ false)
own-is Finish text is = absurd (let none : ⊥ = cc in none)
own-is Stop text is = absurd (let none : ⊥ = cc in none)
own-is Idle text is = absurd (let none : ⊥ = cc in none)
own-is Reported text is = absurd (let none : ⊥ = cc in none)
own-is BadWords text is = (let same : line_of BadWords ≡ text = cc in same, refl)
own-is (Refused line why) text is = absurd (let none : ⊥ = cc in none)
own-is Spent text is = absurd (let none : ⊥ = cc in none)
own-is (Trap kind address) text is = absurd (let none : ⊥ = cc in none)
own-is StoreFault text is = (let same : line_of StoreFault ≡ text = cc in same, refl)
own-is OutputFault text is = (let same : line_of OutputFault ≡ text = cc in same, refl)
own-is Memory text is = (let same : line_of Memory ≡ text = cc in same, refl)
own-is NoFile text is = (let same : line_of NoFile ≡ text = cc in same, refl)

-- the lines of a report without counts
pub lines-bare : (report : Report) → report.counts ≡ None → lines_of report ≡ line_of report.outcome
lines-bare report none = ap (λ (c : Option Counts). counts_text report.outcome c ++ line_of report.outcome) none
