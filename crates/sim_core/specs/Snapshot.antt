-- What a snapshot shows of a machine.
use Rattle.std.specs.Prelude.{ℕ, if◌then◌else◌, Option, Some, None, List, [], length, map, filter_map}
use Rattle.std.specs.List.{enumerate_from}
use Rattle.four_state.specs.declared.bits.Bit.{Bit}
use Rattle.strengths.specs.Interval.{Interval}
use Rattle.event_pool.specs.Order.{in_order}
use Rattle.vvp_threads.specs.declared.thread.Thread.{Thread}
use Rattle.sym_link.specs.declared.program.Program.{Program}
use Rattle.sym_link.specs.declared.program.ItemKind.{ItemKind}
use Rattle.sym_link.specs.declared.program.ItemKind.TheVariants.{Delay, Array}
use Rattle.sym_link.specs.Roots.{Node, nodes_of}
use Rattle.net_engine.specs.Net.{NetValues, array_of, driven_of, forced_of, request_of}
use Rattle.net_engine.specs.Parts.{has_value}
use Rattle.sim_core.specs.declared.snapshot.Snapshot.{Snapshot}
use Rattle.sim_core.specs.Lists.{levels_or_none}
use Rattle.sim_core.specs.Machine.{Machine, dues_of, now_of}

-- ---- items

-- what drives an item of a kind: levels where it has a value of its own
abbrev pub driven_by : NetValues → ℕ → ItemKind → Option (List Interval)
driven_by values item kind = if has_value kind then Some (driven_of values item) else None

-- what is forced on the places of an item of a kind; the empty list where it has no value of its own
abbrev pub forced_by : NetValues → ℕ → ItemKind → List (Option Interval)
forced_by values item kind = if has_value kind then forced_of values item else []

-- the words of an array
abbrev pub words_by : NetValues → ℕ → ItemKind → Option (List (List Bit))
words_by values item (Array words) = Some (array_of values item)
words_by values item other = None

-- the number of the last request of a net delay, and the value that it keeps
abbrev pub request_by : NetValues → ℕ → ItemKind → Option (ℕ × Option (List Interval))
request_by values item (Delay rise fall decay port) = Some ((request_of values item).serial, (request_of values item).kept)
request_by values item other = None

-- ---- items with their numbers

abbrev pub driven_at : NetValues → ℕ × Node → List Interval
driven_at values node = levels_or_none (driven_by values node.0 node.1.what)

abbrev pub forced_at : NetValues → ℕ × Node → List (Option Interval)
forced_at values node = forced_by values node.0 node.1.what

abbrev pub words_at : NetValues → ℕ × Node → Option (List (List Bit))
words_at values node = words_by values node.0 node.1.what

abbrev pub request_at : NetValues → ℕ × Node → Option (ℕ × Option (List Interval))
request_at values node = request_by values node.0 node.1.what

-- ---- a machine

-- the live ones of the threads by serial, so by rising serial
abbrev pub live_threads : List (Option Thread) → List Thread
live_threads threads = filter_map (λ slot. slot) threads

-- What a snapshot shows of the machine of a program and an order: its dues by time, then by region, then as they were put; the
-- waiting serials, what drives and what is forced by item; the words by array and the requests by net delay, in file order.
unfoldable pub snapshot_of : Program → ℕ → Machine → Snapshot
snapshot_of program order machine =
    let values = machine.state.values in
    let nodes = enumerate_from 0 (nodes_of program) in
    record {
      now = now_of machine;
      steps = machine.steps;
      peak = machine.peak;
      running = machine.running;
      serials = length machine.state.threads.threads;
      dues = in_order (dues_of machine);
      threads = live_threads machine.state.threads.threads;
      waiting = machine.state.threads.waiting;
      values = map (driven_at values) nodes;
      words = filter_map (words_at values) nodes;
      tasks = machine.tasks.state;
      delays = filter_map (request_at values) nodes;
      forced = map (forced_at values) nodes;
      taken = machine.taken;
      order = order;
    }
