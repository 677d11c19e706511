-- What writes a dump.
use Rattle.std.specs.Prelude.{Option, Some, None, List, []}
use Rattle.four_state.specs.declared.bits.Bit.{Bit}
use Rattle.sys_tasks.specs.declared.state.TaskState.{TaskState}
use Rattle.sys_tasks.specs.declared.writer.Writer.{Writer}

-- the values that the dump has of its items
abbrev pub last_of : Option Writer → List (List Bit)
last_of None = []
last_of (Some w) = w.dump

-- the state, with these values
abbrev pub state_with : TaskState → Option Writer → TaskState
state_with state writer = record state { last = last_of writer }
