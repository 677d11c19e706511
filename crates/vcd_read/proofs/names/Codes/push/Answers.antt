use Rattle.std.proofs.Common.{◌∙◌, Some}
use Rattle.std.specs.BTreeMap.{get_by}
use Rattle.std.specs.Cmp.Lexicographic.{slice_cmp}
use Rattle.std.specs.Ordering.{nat_cmp}
use Rattle.std.proofs.lemmas.Map.Text.{btree_map_updates_str}
use Rattle.vcd_read.proofs.CodeLemmas.{one-more}
use Rattle.vcd_read.proofs.names.Codes.push.Goals as goal

pub invariant_of-self-in-Ok : goal.invariant_of-self-in-Ok
invariant_of-self-in-Ok c = λ code.
    btree_map_updates_str c.args.code.now c.self.inside.nets c.insert.new.self (Some c.args.net) c.in-Ok.ensures.updates code
    ∙ rw c.in_ok-push.ensures.ok (one-more (λ code. get_by (λ key. slice_cmp nat_cmp code key.now) c.self.inside.nets) c.self.inside.codes c.args.code.now c.args.net c.self.invariant (rw (← c.self.view_is) at c.requires.next) (rw (← c.self.view_is) at c.requires.fresh) code)
