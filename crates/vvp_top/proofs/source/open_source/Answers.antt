use Rattle.std.proofs.Common.{ap, Err}
use Rattle.vvp_top.proofs.SourceLemmas.{file-large}
use Rattle.vvp_top.proofs.source.open_source.Goals as goal

-- the file has more bytes than a source may have
pub returns-in-Err-TooLarge-clause-refused : goal.returns-in-Err-TooLarge-clause-refused
returns-in-Err-TooLarge-clause-refused g c = λ _.
    file-large (g.S.Store.files c.args.store.now) (g.S.Store.reading c.open_file.new.self) c.args.name.now c.in-Ok-true.field-0 c.in-Ok-true.field-0-test c.in-Ok-true.ensures.found
    (c.in-Ok-true.ensures.opened c.in-Ok-true.field-0-test) (c.in-Err-TooLarge.ensures.large (ap Err c.in-Err-TooLarge.field-0-is))
