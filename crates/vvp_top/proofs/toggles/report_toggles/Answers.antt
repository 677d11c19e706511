use Rattle.std.proofs.Common.{◌∙◌}
use Rattle.vvp_top.proofs.ReportLemmas.{rows-long}
use Rattle.vvp_top.proofs.toggles.report_toggles.Goals as goal

pub toggle_lines-requires : goal.toggle_lines-requires
toggle_lines-requires g c = rows-long c.args.trace.now c.deref.result.now c.as_slice.result.now (c.deref.ensures.value ∙ c.in-Ok.ensures) c.as_slice.ensures
