use Rattle.std.proofs.lemmas.Option.{slice_get-get_or}
use Rattle.net_engine.proofs.ListLemmas.{listing-more}
use Rattle.net_engine.proofs.build.list_all.Goals as goal

pub events-preserved : goal.events-preserved
events-preserved c =
    listing-more c.args.listeners.now c.events.listeners c.list_one.new.listeners c.args.item c.events.i _ c.args.events.now c.events.invariant (slice_get-get_or c.args.events.now c.events.i 0 c.events-test.true) (c.requires.events c.events.i 0 c.events-test.true) c.requires.fresh c.in_ok-list_one.ensures
