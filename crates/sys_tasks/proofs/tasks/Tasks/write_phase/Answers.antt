use Rattle.std.proofs.Common.{◌≡◌, List, ap, ◌∙◌, sym, subst}
use Rattle.std.proofs.lemmas.Result.{err_from_is_err_and}
use Rattle.std.specs.Prelude.{ℤ, map, slice_index_or, [], ℕ}
use Rattle.four_state.specs.declared.bits.Bit.{Bit}
use Rattle.sym_link.specs.declared.program.ScopeRow.{ScopeRow}
use Rattle.sys_tasks.specs.declared.design.Entry.{Entry}
use Rattle.sys_tasks.specs.declared.state.TaskState.{TaskState}
use Rattle.sys_tasks.specs.Conditions.{HasWidths, HoldsValues}
use Rattle.sys_tasks.specs.Dumped.{dumped_values}
use Rattle.sys_tasks.specs.Sound.{AreChosen, CanDump, IsWriting}
use Rattle.sys_tasks.specs.Tasks.{TasksNow}
use Rattle.sys_tasks.specs.Writer.{last_of}
use Rattle.sys_tasks.proofs.WriterLemmas.{phase-done, phase-part, reads-there, reads-wide, still-writing, values-due, values-wide, writing-at}
use Rattle.sys_tasks.proofs.tasks.Tasks.write_phase.Goals as goal

inner-widths : (entries known : List Entry) (plane : List (List Bit)) → known ≡ entries → HasWidths entries plane → HasWidths known plane
inner-widths entries known plane is h = let P : List Entry → Type 0 = λ es. HasWidths es plane in subst P (sym is) h

inner-holds : (entries known : List Entry) (words : ℕ → List (List Bit)) (plane : List (List Bit)) → known ≡ entries → HoldsValues entries words plane → HoldsValues known words plane
inner-holds entries known words plane is h = let P : List Entry → Type 0 = λ es. HoldsValues es words plane in subst P (sym is) h

-- the values that are due, seen from outside
outer-values : (entries : List Entry) (scopes : List ScopeRow) (precision : ℤ) (state : TaskState) (can : CanDump entries scopes precision) (are : AreChosen entries state.chosen) (words : ℕ → List (List Bit)) (old : TasksNow) (roots : List ℕ) (last values taken plane : List (List Bit))
    → entries ≡ old.design.entries → state.chosen ≡ old.state.chosen → HoldsValues old.design.entries words plane → IsWriting entries state.chosen roots last values → taken ≡ map (λ p. slice_index_or plane p []) roots → taken ≡ dumped_values old.design words old.state.chosen
outer-values entries scopes precision state can are words old roots last values taken plane e n holds w is =
    values-due entries scopes precision can state.chosen are plane words old.design roots last values taken (sym e) (inner-holds _ entries words plane e holds) w is ∙ ap (dumped_values old.design words) n

pub copy_into-requires-clause-there : goal.copy_into-requires-clause-there
copy_into-requires-clause-there c =
    let has = inner-widths _ c.self.inside.entries.items c.args.plane.now (ap (λ (t : TasksNow). t.design.entries) c.self.view_is) c.requires.widths in
    let writing = writing-at c.self.inside.entries.items c.self.inside.state c.self.inside.writer c.in-Some.writer c.in-Some.is c.self.invariant.writing in
    reads-there _ _ _ c.self.invariant.can_dump _ c.self.invariant.chosen c.args.plane.now _ _ _ _ c.as_slice.ensures.value has writing

pub copy_into-requires-clause-widths : goal.copy_into-requires-clause-widths
copy_into-requires-clause-widths c =
    let has = inner-widths _ c.self.inside.entries.items c.args.plane.now (ap (λ (t : TasksNow). t.design.entries) c.self.view_is) c.requires.widths in
    let writing = writing-at c.self.inside.entries.items c.self.inside.state c.self.inside.writer c.in-Some.writer c.in-Some.is c.self.invariant.writing in
    reads-wide _ _ _ c.self.invariant.can_dump _ c.self.invariant.chosen c.args.plane.now _ _ _ _ c.as_slice.ensures.value has writing

pub append_phase-requires : goal.append_phase-requires
append_phase-requires c =
    let has = inner-widths _ c.self.inside.entries.items c.args.plane.now (ap (λ (t : TasksNow). t.design.entries) c.self.view_is) c.requires.widths in
    let writing = writing-at c.self.inside.entries.items c.self.inside.state c.self.inside.writer c.in-Some.writer c.in-Some.is c.self.invariant.writing in
    values-wide _ _ _ c.self.invariant.can_dump _ c.self.invariant.chosen c.args.plane.now _ _ _ _ has writing (c.copy_into.ensures ∙ ap (map (λ p. slice_index_or c.args.plane.now p [])) c.as_slice.ensures.value)

pub invariant_of-self-in_err-on : goal.invariant_of-self-in_err-on
invariant_of-self-in_err-on c =
    let has = inner-widths _ c.self.inside.entries.items c.args.plane.now (ap (λ (t : TasksNow). t.design.entries) c.self.view_is) c.requires.widths in
    let writing = writing-at c.self.inside.entries.items c.self.inside.state c.self.inside.writer c.in-Some.writer c.in-Some.is c.self.invariant.writing in
    record {
      here = c.self.invariant.here;
      scales = c.self.invariant.scales;
      can_dump = c.self.invariant.can_dump;
      strobes = c.self.invariant.strobes;
      monitor = c.self.invariant.monitor;
      chosen = c.self.invariant.chosen;
      writing = (
        ap (λ (t : TasksNow). t.state.dumping) c.self.view_is ∙ c.requires.dumping,
        still-writing _ _ _ c.self.invariant.can_dump _ c.self.invariant.chosen c.args.plane.now _ _ _ _ _ has writing (c.copy_into.ensures ∙ ap (map (λ p. slice_index_or c.args.plane.now p [])) c.as_slice.ensures.value) c.append_phase.ensures.widths,
      );
    }

pub returns-in_err-on-clause-part : goal.returns-in_err-on-clause-part
returns-in_err-on-clause-part c =
    let p = err_from_is_err_and c.from_residual.result c.from_residual.ensures.1 in
    rw p.1 (λ words holds.
    phase-part c.args.now c.args.header words c.args.self.now _ c.self.inside.state c.self.inside.writer _ _ c.in-Some.writer.dump c.copy_into.new.other c.as_slice-requests.result.now _ c.self.view_is (sym (ap last_of c.in-Some.is))
    (outer-values _ _ _ c.self.inside.state c.self.invariant.can_dump c.self.invariant.chosen words c.args.self.now _ _ _ _ c.args.plane.now (ap (λ (t : TasksNow). t.design.entries) c.self.view_is) (ap (λ (t : TasksNow). t.state.chosen) c.self.view_is) holds
    (writing-at c.self.inside.entries.items c.self.inside.state c.self.inside.writer c.in-Some.writer c.in-Some.is c.self.invariant.writing) (c.copy_into.ensures ∙ ap (map (λ p. slice_index_or c.args.plane.now p [])) c.as_slice.ensures.value))
    c.as_slice-requests.ensures c.in_err-on.ensures.err)

pub invariant_of-self-2 : goal.invariant_of-self-2
invariant_of-self-2 c =
    let has = inner-widths _ c.self.inside.entries.items c.args.plane.now (ap (λ (t : TasksNow). t.design.entries) c.self.view_is) c.requires.widths in
    let writing = writing-at c.self.inside.entries.items c.self.inside.state c.self.inside.writer c.in-Some.writer c.in-Some.is c.self.invariant.writing in
    record {
      here = c.self.invariant.here;
      scales = c.self.invariant.scales;
      can_dump = c.self.invariant.can_dump;
      strobes = c.self.invariant.strobes;
      monitor = c.self.invariant.monitor;
      chosen = c.self.invariant.chosen;
      writing = (
        ap (λ (t : TasksNow). t.state.dumping) c.self.view_is ∙ c.requires.dumping,
        still-writing _ _ _ c.self.invariant.can_dump _ c.self.invariant.chosen c.args.plane.now _ _ _ _ _ has writing (c.copy_into.ensures ∙ ap (map (λ p. slice_index_or c.args.plane.now p [])) c.as_slice.ensures.value) c.append_phase.ensures.widths,
      );
    }

pub returns-clause-ok : goal.returns-clause-ok
returns-clause-ok c = λ words holds.
    phase-done c.args.now c.args.header words c.args.self.now _ c.self.inside.state c.self.inside.writer _ _ c.in-Some.writer.dump c.copy_into.new.other c.as_slice-requests.result.now _ _ _ _ c.self.view_is (sym (ap last_of c.in-Some.is))
    (outer-values _ _ _ c.self.inside.state c.self.invariant.can_dump c.self.invariant.chosen words c.args.self.now _ _ _ _ c.args.plane.now (ap (λ (t : TasksNow). t.design.entries) c.self.view_is) (ap (λ (t : TasksNow). t.state.chosen) c.self.view_is) holds
    (writing-at c.self.inside.entries.items c.self.inside.state c.self.inside.writer c.in-Some.writer c.in-Some.is c.self.invariant.writing) (c.copy_into.ensures ∙ ap (map (λ p. slice_index_or c.args.plane.now p [])) c.as_slice.ensures.value))
    c.as_slice-requests.ensures c.clear.ensures (ap (λ (t : TasksNow). t.state.dumping) c.self.view_is ∙ c.requires.dumping) c.in_ok-on.ensures.ok
