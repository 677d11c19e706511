-- The report on a dump.
use Rattle.std.proofs.Common.{◌≡◌, ℕ, zero, suc, ◌+◌, ◌^◌, ◌<◌, ◌≤◌, Bool, true, false, cond, List, [], ◌∷◌, ◌++◌, length, take, get_or, nat_lt, Option, None, refl, sym, ap, subst, ◌∙◌, append_assoc, append-nil, arith}
use Rattle.std.specs.Prelude.{Result, Ok, Err}
use Rattle.std.specs.List.{enumerate_from}
use Rattle.std.proofs.lemmas.List.{length-map}
use Rattle.std.proofs.lemmas.List.FromFn.{length-enumerate_from}
use Rattle.sym_link.specs.declared.program.Program.{Program}
use Rattle.sym_link.specs.Verdict as verdict
use Rattle.sim_core.specs.Machine.{Machine}
use Rattle.sim_core.specs.Start.{run as run_of}
use Rattle.dump_law.specs.Plain.{plain_names}
use Rattle.vcd_read.specs.Reading.{Fault, reading}
use Rattle.vcd_read.specs.declared.types.Trace.{Trace}
use Rattle.vcd_read.specs.declared.types.VcdKind.{VcdKind}
use Rattle.vcd_read.specs.declared.types.VcdVar.{VcdVar}
use Rattle.toggle_lanes.specs.Counts.{row_of, rows_of}
use Rattle.toggle_lanes.specs.declared.rows.Row.{Row}
use Rattle.vvp_edge.specs.Files.{Files}
use Rattle.vvp_words.specs.Entries.{Entries, Work}
use Rattle.vvp_words.specs.Entries as words
use Rattle.vvp_top.specs.declared.outcome.Outcome.{Outcome}
use Rattle.vvp_top.specs.declared.outcome.Outcome.TheVariants.{Refused, Reported}
use Rattle.vvp_top.specs.declared.refusal.Why.TheVariants as why
use Rattle.vvp_top.specs.declared.report.Report.{Report}
use Rattle.vvp_top.specs.Ends.{HandedOver, LeavesFiles}
use Rattle.vvp_top.specs.Toggles.{own_text, toggle_line, toggle_lines, toggle_text}
use Rattle.vvp_top.specs.Whole.{Dump, Whole, activity_of_machine, activity_of_program, activity_of_verdict, dump_of, ended, is_larger, reported, silent, trace_of, whole_of_activity, whole_of_dump, whole_of_own, whole_of_reading, whole_of_source, whole_of_work}
use Rattle.vvp_top.proofs.TopLemmas.{leaves-none}
use Rattle.vvp_top.proofs.VerdictLemmas.{le-test, lt-test}

-- ---- what a dump says

-- by whether it is too large
abbrev by_size : Bool → List ℕ → Whole
by_size large bytes = cond large (silent (Refused 0 why.TooLarge)) (whole_of_reading (reading bytes))

dump-by : (bytes : List ℕ) (most : ℕ) → most ≡ 2 ^ 26 → by_size (nat_lt most (length bytes)) bytes ≡ whole_of_dump bytes
unfolding whole_of_dump
dump-by bytes most is = ap (λ (n : ℕ). by_size (nat_lt n (length bytes)) bytes) is

pub dump-large : (bytes : List ℕ) (most : ℕ) → most ≡ 2 ^ 26 → most < length bytes → whole_of_dump bytes ≡ silent (Refused 0 why.TooLarge)
dump-large bytes most is large = sym (dump-by bytes most is) ∙ ap (λ b. by_size b bytes) (lt-test most (length bytes) large)

dump-small : (bytes : List ℕ) (most : ℕ) → most ≡ 2 ^ 26 → length bytes ≤ most → whole_of_dump bytes ≡ whole_of_reading (reading bytes)
dump-small bytes most is small = sym (dump-by bytes most is) ∙ ap (λ b. by_size b bytes) (le-test most (length bytes) small)

pub dump-read : (bytes : List ℕ) (most : ℕ) (trace : Trace) → most ≡ 2 ^ 26 → length bytes ≤ most → reading bytes ≡ Ok trace → whole_of_dump bytes ≡ reported Reported (toggle_text trace)
dump-read bytes most trace is small read = dump-small bytes most is small ∙ ap whole_of_reading read

pub dump-fault : (bytes : List ℕ) (most line : ℕ) (kind : VcdKind) → most ≡ 2 ^ 26 → length bytes ≤ most → reading bytes ≡ Err (record { line = line; kind = kind })
    → whole_of_dump bytes ≡ silent (Refused line (why.Dump kind))
dump-fault bytes most line kind is small read = dump-small bytes most is small ∙ ap whole_of_reading read

-- a report makes no file
none-by : (large : Bool) (read : Result Trace Fault) → (cond large (silent (Refused 0 why.TooLarge)) (whole_of_reading read)).dump ≡ None
none-by true read = refl
none-by false (Ok trace) = refl
none-by false (Err fault) = refl

pub dump-none : (bytes : List ℕ) → (whole_of_dump bytes).dump ≡ None
dump-none bytes = ap (λ (w : Whole). w.dump) (sym (dump-by bytes (2 ^ 26) refl)) ∙ none-by (nat_lt (2 ^ 26) (length bytes)) (reading bytes)

-- ---- the report on the dump of a run makes none either

own-by : (end : Outcome) (trace : Option Trace) (large : Bool) → (cond large (silent (Refused 0 why.TooLarge)) (reported end (own_text trace))).dump ≡ None
own-by end trace true = refl
own-by end trace false = refl

own-none : (end : Outcome) (dump : Option Dump) → (whole_of_own end dump).dump ≡ None
unfolding whole_of_own
own-none end dump = own-by end (trace_of dump) (is_larger (2 ^ 26) dump)

activity-by : (e : Entries) (program : Program) (plain : Bool) → (cond plain (activity_of_machine (run_of program e.order e.budget)) (silent (Refused 0 why.BadName))).dump ≡ None
activity-by e program true = let machine : Machine = run_of program e.order e.budget in own-none (ended machine.ending) (dump_of machine)
activity-by e program false = refl

activity-program : (e : Entries) (program : Program) → (activity_of_program e program).dump ≡ None
unfolding activity_of_program
activity-program e program = activity-by e program (plain_names program)

activity-verdict : (e : Entries) (v : Result Program verdict.Why) → (activity_of_verdict e v).dump ≡ None
activity-verdict e (Ok program) = activity-program e program
activity-verdict e (Err w) = refl

pub activity-none : (e : Entries) (bytes : List ℕ) → (whole_of_activity e bytes).dump ≡ None
activity-none e bytes = activity-verdict e (verdict.verdict bytes)

-- ---- its lines

lines-more : (vars : List VcdVar) (rows : List Row) (i : ℕ) (v : VcdVar) (r : Row) → i < length vars → i < length rows
    → toggle_lines (take (suc i) vars) (take (suc i) rows) ≡ toggle_lines (take i vars) (take i rows) ++ toggle_line (get_or vars i v) (get_or rows i r)
unfolding toggle_lines
lines-more [] rows i v r lt within = absurd (let never : ⊥ = omega (arith, lt) in never)
lines-more (x ∷ vars) [] i v r lt within = absurd (let never : ⊥ = omega (arith, within) in never)
lines-more (x ∷ vars) (y ∷ rows) zero v r lt within = append-nil (toggle_line x y)
lines-more (x ∷ vars) (y ∷ rows) (suc i) v r lt within =
    ap (λ text. toggle_line x y ++ text) (lines-more vars rows i v r (let below : i < length vars = omega (arith, lt) in below) (let below : i < length rows = omega (arith, within) in below))
    ∙ sym (append_assoc (toggle_line x y) (toggle_lines (take i vars) (take i rows)) (toggle_line (get_or vars i v) (get_or rows i r)))

-- one line more
pub lines-next : (vars : List VcdVar) (rows : List Row) (i : ℕ) (var : VcdVar) (r : Row) (text new : List ℕ) → length rows ≡ length vars → i < length rows → text ≡ toggle_lines (take i vars) (take i rows) → var ≡ get_or vars i var
    → new ≡ text ++ toggle_line var (get_or rows i r) → new ≡ toggle_lines (take (i + 1) vars) (take (i + 1) rows)
lines-next vars rows i var r text new long within so_far is more =
    let below : i < length vars = omega (arith, within, long) in
    let next : suc i ≡ i + 1 = omega arith in
    more ∙ ap (λ t. t ++ toggle_line var (get_or rows i r)) so_far
    ∙ ap (λ v. toggle_lines (take i vars) (take i rows) ++ toggle_line v (get_or rows i r)) is
    ∙ sym (lines-more vars rows i var r below within)
    ∙ ap (λ n. toggle_lines (take n vars) (take n rows)) next

-- no line yet
pub lines-none : (text : List ℕ) → text ≡ [] → text ≡ toggle_lines [] []
unfolding toggle_lines
lines-none text is = is

-- a row for each variable
pub rows-long : (trace : Trace) (rows : List Row) (vars : List VcdVar) → rows ≡ rows_of trace → vars ≡ trace.vars → length rows ≡ length vars
unfolding rows_of
rows-long trace rows vars is those =
    ap (λ (r : List Row). length r) is ∙ length-map (enumerate_from 0 trace.vars) (λ (numbered : ℕ × VcdVar). row_of trace numbered.0 numbered.1.net) ∙ length-enumerate_from 0 trace.vars ∙ sym (ap (λ (v : List VcdVar). length v) those)

-- ---- what is done with a source, by the work

pub source-dump : (e : Entries) (name bytes : List ℕ) → e.work ≡ words.Toggles name → whole_of_source e bytes ≡ whole_of_dump bytes
source-dump e name bytes is = ap (λ (w : Work). whole_of_work w e bytes) is

pub source-activity : (e : Entries) (name bytes : List ℕ) → e.work ≡ words.Activity name → whole_of_source e bytes ≡ whole_of_activity e bytes
source-activity e name bytes is = ap (λ (w : Work). whole_of_work w e bytes) is

-- a report leaves the files
pub report-did : (w made : Whole) (report : Report) (held held' : Option (List ℕ)) (files : Option Files) → w ≡ made → made.dump ≡ None
    → (report ≡ made.report) × HandedOver made.output held held' → (report ≡ w.report) × HandedOver w.output held held' × LeavesFiles w.dump files files
report-did w made report held held' files is no_file did =
    let none : LeavesFiles made.dump files files = subst (λ d. LeavesFiles d files files) (sym no_file) (leaves-none files files refl) in
    subst (λ (x : Whole). (report ≡ x.report) × HandedOver x.output held held' × LeavesFiles x.dump files files) (sym is) (did.0, did.1, none)
