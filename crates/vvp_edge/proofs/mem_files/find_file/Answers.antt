use Rattle.std.proofs.Common.{rules, ◌≡◌, ◌∙◌, sym, true, arith}
use Rattle.vvp_edge.proofs.ListingLemmas.{passed_on, newest_found, none_left}
use Rattle.vvp_edge.proofs.mem_files.find_file.Goals as goal

pub returns-then-same_name-clause-found : goal.returns-then-same_name-clause-found
returns-then-same_name-clause-found c = sym (c.loop-left.invariant.passed
    ∙ newest_found c.args.files.now c.loop-left.left c.index-files-left.result c.args.name.now c.loop-left-test.true c.loop-left.invariant.within c.index-files-left.is
    (sym (c.same_name.ensures.0 (search rules)) ∙ c.deref.ensures.value))

pub loop-left-preserved : goal.loop-left-preserved
loop-left-preserved c = record {
  within = omega arith;
  passed = c.loop-left.invariant.passed
      ∙ passed_on c.args.files.now c.loop-left.left c.index-files-left.result c.args.name.now c.loop-left-test.true c.loop-left.invariant.within c.index-files-left.is
      (λ same. let is : c.same_name.result ≡ true = c.same_name.ensures.1 (c.deref.ensures.value ∙ sym same) in cc);
}

pub returns-clause-found : goal.returns-clause-found
returns-clause-found c = sym (c.loop-left.invariant.passed ∙ none_left c.args.files.now c.loop-left.left c.args.name.now (omega arith))
