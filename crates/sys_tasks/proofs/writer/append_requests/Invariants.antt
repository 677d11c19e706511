use Rattle.std.proofs.Common.{◌≡◌, length, map, take}
use Rattle.std.specs.List.{fold}
use Rattle.sys_tasks.specs.Phase.{requested}
use Rattle.sys_tasks.proofs.WritingLemmas.{at_body}
use Rattle.sys_tasks.proofs.writer.append_requests.Given as goal

abbrev pub invariant-loop-kind : goal.invariant-loop-kind
invariant-loop-kind l = record {
  widths : map length l.dump ≡ map length l.initial.dump;
  found : at_body l.out.items l.is_on l.dump ≡ fold (requested l.values) (at_body l.initial.out.items l.initial.is_on l.initial.dump) (take l.kind-index l.requests);
}
