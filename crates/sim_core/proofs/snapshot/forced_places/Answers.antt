use Rattle.std.proofs.Common.{Option, List, [], ◌∷◌, ◌++◌, sym, ap, ◌∙◌}
use Rattle.strengths.specs.Interval.{Interval}
use Rattle.net_engine.specs.Net.{forced_of}
use Rattle.sim_core.proofs.SnapshotLemmas.{take-more}
use Rattle.sim_core.proofs.snapshot.forced_places.Goals as goal

pub places-preserved : goal.places-preserved
places-preserved g c =
    c.in_ok-push.ensures.ok ∙ ap (λ (ls : List (Option Interval)). ls ++ c.forced.result ∷ []) c.places.invariant
    ∙ sym (take-more (forced_of c.args.net.now.values c.args.item) c.places.place c.forced.result c.forced.ensures)
