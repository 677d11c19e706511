use Rattle.std.proofs.Common.{rules, ◌≡◌, ◌∙◌, sym, true, map}
use Rattle.vvp_edge.specs.MemoryStore.{entry_of}
use Rattle.vvp_edge.proofs.ListingLemmas.{target_found, target_passed}
use Rattle.vvp_edge.proofs.mem_store.newest.Goals as goal

pub returns-then-same_name-clause-found : goal.returns-then-same_name-clause-found
returns-then-same_name-clause-found c = target_found c.args.target.now c.in-Some.file (map entry_of c.args.kept.now) c.args.name.now c.in-Some.is
    (sym (c.same_name.ensures.0 (search rules)) ∙ c.deref.ensures.value)

pub returns-else-same_name-clause-found : goal.returns-else-same_name-clause-found
returns-else-same_name-clause-found c = c.find_file-else-same_name.ensures.found
    ∙ target_passed c.args.target.now c.in-Some.file (map entry_of c.args.kept.now) c.args.name.now c.in-Some.is
    (λ same. let is : c.same_name.result ≡ true = c.same_name.ensures.1 (c.deref.ensures.value ∙ sym same) in cc)
