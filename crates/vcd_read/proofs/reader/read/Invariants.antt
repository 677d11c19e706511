use Rattle.std.proofs.Common.{◌≡◌, ◌+◌, ◌-◌, drop, length}
use Rattle.std.specs.Prelude.{count_by}
use Rattle.vvp_lex.specs.Text.{cut, is_line_feed}
use Rattle.vvp_lex.specs.Statement.{line_at}
use Rattle.vcd_read.specs.Words.{spot_front}
use Rattle.vcd_read.specs.Reading.{reading, run}
use Rattle.vcd_read.specs.Sound.{IsSound}
use Rattle.vcd_read.proofs.SpotLemmas.{Stands}
use Rattle.vcd_read.proofs.reader.read.Given as goal

abbrev pub invariant-loop-at : goal.invariant-loop-at
invariant-loop-at l = record {
  stands : Stands l.bytes l.at;
  line : l.line ≡ line_at l.bytes l.at;
  sound : IsSound l.at l.reader;
  left : reading l.bytes ≡ run (1 + count_by is_line_feed l.bytes) (cut (spot_front l.bytes) l.at 0 (drop l.at l.bytes)) l.reader;
}

abbrev pub decreases-loop-at : goal.decreases-loop-at
decreases-loop-at l = length l.bytes - l.at
