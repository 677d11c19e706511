use Rattle.std.proofs.Common.{◌^◌, length}
use Rattle.vcd_read.specs.Reading.{reading}
use Rattle.vcd_read.proofs.FoundLemmas.{found}
use Rattle.vcd_read.proofs.LawLemmas.{is-read, gives, few}
use Rattle.vcd_read.proofs.reader.read_vcd.Goals as goal

pub returns : goal.returns
returns c = record {
  found = found c.args.bytes.now c.read.result c.read.ensures.exact;
  only = λ trace vcd. gives c.read.result trace (reading c.args.bytes.now) c.read.ensures.exact (is-read c.args.bytes.now trace vcd);
  exact = c.read.ensures.exact;
  of_nets = few (length c.args.bytes.now) (2 ^ 26) c.read.result c.requires.small c.read.ensures.of_nets;
}
