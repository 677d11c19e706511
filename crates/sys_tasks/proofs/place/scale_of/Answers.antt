use Rattle.std.proofs.Common.{sym}
use Rattle.std.proofs.lemmas.Option.{slice_get-get_or}
use Rattle.sys_tasks.proofs.PathLemmas.{place-scale, scale-least}
use Rattle.sys_tasks.proofs.place.scale_of.Goals as goal

pub returns-clause-scale : goal.returns-clause-scale
returns-clause-scale c = sym (place-scale c.args.scopes.now c.args.scope _ (slice_get-get_or c.args.scopes.now c.args.scope _ c.requires.there))
