use Rattle.std.proofs.Common.{sym, ◌∙◌}
use Rattle.sym_link.specs.Roots.{node_of}
use Rattle.net_engine.proofs.BuildLemmas.{place-some, place-none}
use Rattle.net_engine.proofs.build.place_bits.Goals as goal

pub returns-in-Some : goal.returns-in-Some
returns-in-Some c = c.seen.ensures ∙ place-some (node_of c.args.item.now) c.in-Some.levels (sym c.first_levels.ensures ∙ c.in-Some.is)

pub returns-in-None : goal.returns-in-None
returns-in-None c = c.splat.ensures ∙ place-none (node_of c.args.item.now) (sym c.first_levels.ensures ∙ c.in-None.is)
