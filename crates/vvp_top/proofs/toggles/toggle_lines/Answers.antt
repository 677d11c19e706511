use Rattle.vvp_top.proofs.ReportLemmas.{lines-next, lines-none}
use Rattle.vvp_top.proofs.toggles.toggle_lines.Goals as goal

pub loop-i-init : goal.loop-i-init
loop-i-init c = lines-none c.new-text.result.items c.new-text.ensures.items

pub loop-i-preserved : goal.loop-i-preserved
loop-i-preserved c =
    lines-next c.args.vars.now c.args.rows.now c.loop-i.i c.index-vars-i.result _ c.loop-i.text.items c.add_line.new.text.items c.requires c.loop-i-test.true c.loop-i.invariant c.index-vars-i.is c.in_ok-add_line.ensures
