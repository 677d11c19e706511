-- What a phase reads of a plane, and what the writer keeps.
use Rattle.std.proofs.Common.{◌≡◌, ℕ, ◌<◌, Bool, List, [], ◌∷◌, ◌++◌, length, get_or, map, refl, sym, ap, ◌∙◌, subst, arith}
use Rattle.std.specs.Prelude.{ℤ, Option, Some, None}
use Rattle.std.specs.List.{All}
use Rattle.four_state.specs.declared.bits.Bit.{Bit}
use Rattle.vcd_write.specs.declared.types.Section.{Section}
use Rattle.sym_link.specs.declared.program.ScopeRow.{ScopeRow}
use Rattle.sys_tasks.specs.declared.design.Entry.{Entry}
use Rattle.sys_tasks.specs.declared.state.TaskState.{TaskState}
use Rattle.sys_tasks.specs.declared.writer.Writer.{Writer}
use Rattle.sys_tasks.specs.Arguments.{value_in}
use Rattle.sys_tasks.specs.Conditions.{HasWidths, HoldsValues}
use Rattle.sys_tasks.specs.Design.{Design, root_of, width_of}
use Rattle.sys_tasks.specs.Dumped.{dumped_values}
use Rattle.sys_tasks.specs.Conditions.{IsBetween}
use Rattle.sys_tasks.specs.Phase.{Writing, timed, with_phase, written}
use Rattle.sys_tasks.specs.Tasks.{TasksNow}
use Rattle.sys_tasks.specs.Writer.{last_of, state_with}
use Rattle.sys_tasks.proofs.WritingLemmas.{at_body}
use Rattle.sys_tasks.specs.Sound.{AreChosen, CanDump, IsWriting, MayWrite}
use Rattle.sys_tasks.proofs.HeaderLemmas.{roots-there, values-same, widths-same}

pub writing-at : (entries : List Entry) (state : TaskState) (writer : Option Writer) (w : Writer) → writer ≡ Some w → MayWrite entries state writer → IsWriting entries state.chosen w.roots.items w.dump w.values
writing-at entries state writer w is h = let P : Option Writer → Type 0 = λ o. MayWrite entries state o in (subst P is h).1

pub not-writing : (entries : List Entry) (state : TaskState) (writer : Option Writer) → writer ≡ None → MayWrite entries state writer → state.dumping < 2
not-writing entries state writer is h = let P : Option Writer → Type 0 = λ o. MayWrite entries state o in subst P is h

-- a dump that is neither before its first call nor at its header is written
pub writes-on : (entries : List Entry) (state : TaskState) (writer : Option Writer) → MayWrite entries state writer → (state.dumping ≡ 0 → ⊥) → (state.dumping ≡ 1 → ⊥) → state.dumping ≡ 2
writes-on entries state None h zero_ one = omega (arith, zero_, one)
writes-on entries state (Some w) h zero_ one = h.0

lengths-of : (plane : List (List Bit)) (roots : List ℕ) → map length (map (λ p. get_or plane p []) roots) ≡ map (λ p. length (get_or plane p [])) roots
lengths-of plane [] = refl
lengths-of plane (r ∷ roots) = ap (λ (xs : List ℕ). length (get_or plane r []) ∷ xs) (lengths-of plane roots)

module _ (entries : List Entry) (scopes : List ScopeRow) (precision : ℤ) (can : CanDump entries scopes precision) (chosen : List ℕ) (are : AreChosen entries chosen) (plane : List (List Bit)) where
  pub reads-there : (listed roots : List ℕ) (last values : List (List Bit)) → listed ≡ roots → HasWidths entries plane → IsWriting entries chosen roots last values → All (λ p. p < length plane) listed
  reads-there listed roots last values is has w = roots-there entries scopes precision can plane chosen listed has are (is ∙ w.are_roots)

  pub reads-wide : (listed roots : List ℕ) (last values : List (List Bit)) → listed ≡ roots → HasWidths entries plane → IsWriting entries chosen roots last values → map (λ p. length (get_or plane p [])) listed ≡ map length values
  reads-wide listed roots last values is has w =
      ap (map (λ p. length (get_or plane p []))) (is ∙ w.are_roots) ∙ widths-same entries scopes precision can plane has chosen are.each ∙ sym (w.value_widths ∙ ap (map (width_of entries)) w.are_roots)

  pub values-wide : (roots : List ℕ) (last values taken : List (List Bit)) → HasWidths entries plane → IsWriting entries chosen roots last values → taken ≡ map (λ p. get_or plane p []) roots → map length taken ≡ map length last
  values-wide roots last values taken has w is =
      ap (map length) is ∙ lengths-of plane roots ∙ reads-wide roots roots last values refl has w ∙ w.value_widths ∙ sym w.last_widths

  pub values-due : (words : ℕ → List (List Bit)) (design : Design) (roots : List ℕ) (last values taken : List (List Bit)) → design.entries ≡ entries → HoldsValues entries words plane → IsWriting entries chosen roots last values → taken ≡ map (λ p. get_or plane p []) roots
      → taken ≡ dumped_values design words chosen
  unfolding dumped_values
  values-due words design roots last values taken e holds w is =
      is ∙ ap (map (λ p. get_or plane p [])) w.are_roots ∙ values-same entries scopes precision can words plane holds chosen are.each
      ∙ ap (λ (es : List Entry). map (λ item. value_in words (root_of es item)) chosen) (sym e)

  pub still-writing : (roots : List ℕ) (last values taken more : List (List Bit)) → HasWidths entries plane → IsWriting entries chosen roots last values → taken ≡ map (λ p. get_or plane p []) roots → map length more ≡ map length last
      → IsWriting entries chosen roots more taken
  still-writing roots last values taken more has w is same = record {
    are_roots = w.are_roots;
    last_widths = same ∙ w.last_widths;
    value_widths = values-wide roots last values taken has w is ∙ w.last_widths;
  }

-- What a phase leaves

abbrev pub tasks_of : Design → TaskState → List ℕ → List ℕ → TasksNow
tasks_of design state out dump = record { design = design; state = state; out = out; dump = dump }

-- what the dump has after a phase
abbrev pub after_phase : ℕ → List ℕ → Writing → Writing
after_phase now dump w = record w { body = dump ++ timed now w.body }

pub phase-done : (now : ℕ) (header : Bool) (words : ℕ → List (List Bit)) (old : TasksNow) (design : Design) (state : TaskState) (writer : Option Writer) (out dump : List ℕ) (last values : List (List Bit)) (requests cleared : List Section) (on : Bool) (text : List ℕ)
    (kept : List (List Bit)) → tasks_of design (state_with state writer) out dump ≡ old → last ≡ last_of writer → values ≡ dumped_values old.design words old.state.chosen → requests ≡ state.requests → cleared ≡ [] → state.dumping ≡ 2
    → at_body text on kept ≡ after_phase now dump (written header values requests (at_body [] state.dump_on last))
    → tasks_of design (record state { dump_on = on; requests = cleared; last = kept }) out text ≡ with_phase now header (dumped_values old.design words old.state.chosen) old
phase-done now header words old design state writer out dump last values requests cleared on text kept view l due r c two told =
    let P : TasksNow → Type 0 = λ t. values ≡ dumped_values t.design words t.state.chosen → tasks_of design (record state { dump_on = on; requests = cleared; last = kept }) out text ≡ with_phase now header (dumped_values t.design words t.state.chosen) t in
    let end : Writing → ℕ → List Section → TasksNow = λ x d q. tasks_of design (record state { dumping = d; dump_on = x.on; requests = q; last = x.last }) out x.body in
    let whole : List (List Bit) → List Section → List (List Bit) → Writing = λ v q y. after_phase now dump (written header v q (at_body [] state.dump_on y)) in
    subst P view (λ v.
    ap (λ (d : ℕ). end (at_body text on kept) d cleared) two
    ∙ ap (λ (q : List Section). end (at_body text on kept) 2 q) c
    ∙ ap (λ (x : Writing). end x 2 []) (told ∙ ap (λ (x : List (List Bit)). whole x requests last) v ∙ ap (λ (q : List Section). whole (dumped_values design words state.chosen) q last) r ∙ ap (λ (y : List (List Bit)). whole (dumped_values design words state.chosen) state.requests y) l))
    due

pub phase-part : (now : ℕ) (header : Bool) (words : ℕ → List (List Bit)) (old : TasksNow) (design : Design) (state : TaskState) (writer : Option Writer) (out dump : List ℕ) (last values : List (List Bit)) (requests : List Section) (text : List ℕ)
    → tasks_of design (state_with state writer) out dump ≡ old → last ≡ last_of writer → values ≡ dumped_values old.design words old.state.chosen → requests ≡ state.requests
    → IsBetween dump (dump ++ timed now (written header values requests (at_body [] state.dump_on last)).body) text
    → IsBetween old.dump (with_phase now header (dumped_values old.design words old.state.chosen) old).dump text
phase-part now header words old design state writer out dump last values requests text view l due r told =
    let P : TasksNow → Type 0 = λ t. values ≡ dumped_values t.design words t.state.chosen → IsBetween t.dump (with_phase now header (dumped_values t.design words t.state.chosen) t).dump text in
    let whole : List (List Bit) → List Section → List (List Bit) → List ℕ = λ v q y. dump ++ timed now (written header v q (at_body [] state.dump_on y)).body in
    let B : List ℕ → Type 0 = λ x. IsBetween dump x text in
    subst P view (λ v.
    subst B (ap (λ (x : List (List Bit)). whole x requests last) v ∙ ap (λ (q : List Section). whole (dumped_values design words state.chosen) q last) r ∙ ap (λ (y : List (List Bit)). whole (dumped_values design words state.chosen) state.requests y) l) told)
    due
