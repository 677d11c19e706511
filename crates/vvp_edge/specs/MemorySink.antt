-- What a sink in memory keeps, and what a write does to it.
use Rattle.std.specs.Prelude.{ℕ, ◌-◌, ◌==◌, ◌||◌, min, Bool, List, ◌++◌, length}
use Rattle.vvp_edge.specs.Counts.{CallsState, counted, fails_next, next_call}

-- a sink in memory
pub record SinkState : Type 0 where
  pub held : List ℕ
  -- how many bytes one write takes at most, and for how many there is room
  pub most : ℕ
  pub room : ℕ
  -- the writes of pieces that aren't empty, and how many of them failed
  pub writes : CallsState
  pub faults : ℕ

-- the next write of a piece that isn't empty fails
abbrev pub write_fails : SinkState → Bool
write_fails sink = (sink.room == 0) || fails_next sink.writes

-- how many bytes of the piece the next write takes, if it doesn't fail
abbrev pub write_takes : SinkState → List ℕ → ℕ
write_takes sink piece = min (length piece) (min sink.most sink.room)

-- the sink after a write that failed, and after one that took these bytes
abbrev pub after_failed_write : SinkState → SinkState
after_failed_write sink = record sink { writes = next_call sink.writes; faults = counted sink.faults }

abbrev pub after_write : SinkState → List ℕ → SinkState
after_write sink taken = record sink { held = sink.held ++ taken; room = sink.room - length taken; writes = next_call sink.writes }
