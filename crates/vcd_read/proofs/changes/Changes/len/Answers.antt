use Rattle.std.proofs.Common.{length, ap, arith}
use Rattle.vcd_read.proofs.KeptLemmas.{count-kept}
use Rattle.vcd_read.proofs.changes.Changes.len.Goals as goal

pub returns : goal.returns
returns c =
    omega (arith, c.len.ensures, c.self.inside.kept.ok.0, count-kept c.self.inside.kept.items c.self.inside.wide.items, ap length c.self.view_is)
