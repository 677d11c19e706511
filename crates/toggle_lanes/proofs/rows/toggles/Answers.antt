use Rattle.std.proofs.Common.{◌≡◌, ◌∙◌, ◌<◌, List, length, get_or, map, All, IfOk, ap, sym, subst, arith}
use Rattle.std.specs.List.{enumerate_from}
use Rattle.vcd_read.specs.declared.types.VcdVar.{VcdVar}
use Rattle.toggle_lanes.specs.declared.rows.Row.{Row}
use Rattle.toggle_lanes.specs.Lanes.{no_moves}
use Rattle.toggle_lanes.proofs.FillLemmas.{countable-all}
use Rattle.toggle_lanes.proofs.RowLemmas.{row_by, rows-are, counts-long}
use Rattle.toggle_lanes.proofs.rows.toggles.Goals as goal

pub counts-requires : goal.counts-requires
counts-requires c =
    countable-all c.args.trace.now c.deref.result.now (c.deref.ensures.value ∙ c.in_ok-nets.ensures) (omega (arith, c.len.ensures))

pub rows-requires-clause-there : goal.rows-requires-clause-there
rows-requires-clause-there c =
    let long = counts-long c.args.trace.now c.deref.result.now c.deref-2.result.now (c.deref.ensures.value ∙ c.in_ok-nets.ensures) (c.deref-2.ensures.value ∙ c.in_ok-counts.ensures) in
    let P : List VcdVar → Type 0 = λ vars. All (λ var. var.net < length c.deref-2.result.now) vars in
    subst P (sym c.as_slice.ensures) (λ k d h. omega (arith, long, c.requires.of_nets.named k d h))

pub returns : goal.returns
returns c =
    let P : List Row → Type 0 = λ found. IfOk c.rows.result (λ rows. rows.items ≡ found) in
    let same =
    ap (λ vars. map (row_by (λ net. get_or c.deref-2.result.now net no_moves)) (enumerate_from 0 vars)) c.as_slice.ensures
    ∙ rows-are c.args.trace.now no_moves c.deref.result.now c.deref-2.result.now c.requires.of_nets (c.deref.ensures.value ∙ c.in_ok-nets.ensures) (c.deref-2.ensures.value ∙ c.in_ok-counts.ensures) in
    subst P same c.rows.ensures
