use Rattle.std.proofs.Common.{sym}
use Rattle.vvp_edge.specs.MemoryStore.{named_target}
use Rattle.vvp_edge.proofs.FilesLemmas.{appended-nil}
use Rattle.vvp_edge.proofs.ListingLemmas.{append_files}
use Rattle.vvp_edge.proofs.mem_store.MemStoreStore.append.Goals as goal

pub returns-then-is_empty-clause-files : goal.returns-then-is_empty-clause-files
returns-then-is_empty-clause-files c = sym (appended-nil _ _ (λ _. named_target c.args.self.now.target c.requires))

pub returns-clause-files : goal.returns-clause-files
returns-clause-files c = append_files c.append_some.result c.args.self.now _ c.args.piece.now c.requires c.append_some.ensures.done c.append_some.ensures.failed
