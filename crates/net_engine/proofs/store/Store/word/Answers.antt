use Rattle.std.proofs.Common.{ap, map}
use Rattle.net_engine.specs.Net.{NetValues}
use Rattle.net_engine.specs.Room.{StoreNow, last_request}
use Rattle.net_engine.proofs.StepLemmas.{word-read}
use Rattle.net_engine.proofs.store.Store.word.Goals as goal

pub returns : goal.returns
returns c = word-read c.self.inside.words.items c.args.self.now.values c.args.array c.args.word c.index.result.now c.behind-self.inside.words.items c.index-2.result.now (ap (λ (v : NetValues). v.words) (ap (λ (s : StoreNow). s.values) c.self.view_is)) c.requires c.index.ensures c.behind-self.view_is c.index-2.ensures
