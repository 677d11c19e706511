use Rattle.std.proofs.Common.{arith, rules}
use Rattle.std.proofs.lemmas.List.Sorted.{IsPartitionPoint-from_clause}
use Rattle.sym_link.specs.Known.{is_before}
use Rattle.sym_link.proofs.IndexLemmas.{parted}
use Rattle.sym_link.proofs.labels.first_from.Goals as goal

pub returns : goal.returns
returns c = λ sorted.
    let point = IsPartitionPoint-from_clause (is_before c.args.src.now c.args.placed.now c.args.label.now) _ _ c.partition_point.ensures.partitioned (parted c.args.src.now c.args.placed.now c.args.places.now c.args.label.now sorted) (λ a r q k. search rules) in
    record {
      before = λ k d lt. point.0 k d (omega arith) lt;
      after = λ k d le lt. point.1 k d le lt;
    }
