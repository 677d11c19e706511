-- What an engine keeps between steps: all of it as long as memory was never wanting, and what a snapshot needs in any case.
use Rattle.std.specs.Prelude.{◌≡◌, ℕ, ◌+◌, ◌<◌, ◌≤◌, false, Option, Some, List, length, map, count_by, slice_get, Bool}
use Rattle.std.specs.Option.{ForSome}
use Rattle.event_pool.specs.Order.{in_order}
use Rattle.event_pool.specs.Pending.{unkeyed}
use Rattle.event_pool.specs.Schedule.{Schedule}
use Rattle.vvp_threads.specs.declared.thread.Thread.{Thread}
use Rattle.vvp_threads.specs.declared.thread.ThreadState.TheVariants.{Ready}
use Rattle.vvp_threads.specs.Table.{IsInState, slot_at, waiters_of, has}
use Rattle.vvp_threads.specs.Disable.{StandIn}
use Rattle.vvp_threads.specs.Keyed.{KeyedTable, IsKeyOf}
use Rattle.vvp_threads.specs.Runs.{runs_of}
use Rattle.net_engine.specs.Net.{NetValues, request_of}
use Rattle.net_engine.specs.Kept.{NetNow, Fits, has_output}
use Rattle.sys_tasks.specs.Design.{Design, design_of}
use Rattle.sym_link.specs.declared.program.Program.{Program}
use Rattle.sym_link.specs.declared.program.Item.{Item}
use Rattle.sym_link.specs.Roots.{nodes_of}
use Rattle.sym_link.specs.Sound.{IsProgram}
use Rattle.sim_core.specs.declared.engine.Running.{Running}
use Rattle.sim_core.specs.Effects.{parents_of}

-- the thread that runs is ready, waits for no event, and has no Run pending; it is kept under its key
pub record IsRunning (threads : KeyedTable) (schedule : Schedule) (running : Running) : Type 0 where
  pub key : IsKeyOf threads running.serial running.key
  pub ready : IsInState threads.table running.serial Ready
  pub no_event : (event : ℕ) → has (waiters_of threads.table event) running.serial ≡ false
  pub no_run : runs_of running.serial schedule.dues ≡ 0

-- the children of a live thread were drawn, and those of them that are live have it as their parent
abbrev pub OwnChildren : List (Option Thread) → Type 0
OwnChildren threads =
    (serial place child : ℕ) (thread : Thread) → slot_at threads serial ≡ Some thread → slice_get thread.frame.children place ≡ Some child
    → (child < length threads) × ForSome (slot_at threads child) (λ kid. kid.parent ≡ Some serial)

-- no net delay was asked oftener than this
abbrev pub AsksFew : NetValues → ℕ → Type 0
AsksFew values most = (item : ℕ) → (request_of values item).serial ≤ most

-- how many items have an output
abbrev pub outputs_in : List Item → ℕ
outputs_in items = count_by (λ (item : Item). has_output item.what) items

-- what an engine holds, but for what it shows alone
pub record Held : Type 0 where
  pub program : Program
  pub scope_parents : List ℕ
  pub outputs : ℕ
  pub net : NetNow
  pub threads : KeyedTable
  pub design : Design
  pub schedule : Schedule
  pub running : Option Running
  pub steps : ℕ
  pub taken : ℕ

-- What an engine keeps: a program that was linked, and what it has drawn from it; a net, threads and an agenda that fit each
-- other; and counts that no step can pass.
pub record IsSound (h : Held) : Type 0 where
  pub linked : IsProgram h.program
  pub nodes : h.net.nodes ≡ nodes_of h.program
  pub parents : h.scope_parents ≡ parents_of h.program
  pub outputs_are : h.outputs ≡ outputs_in h.program.items
  pub designed : h.design ≡ design_of h.program
  pub fits : Fits h.net h.threads h.schedule
  pub in_turn : in_order (map unkeyed h.schedule.dues) ≡ map unkeyed h.schedule.dues
  pub runs : ForSome h.running (IsRunning h.threads h.schedule)
  pub scopes : StandIn h.scope_parents h.threads.table.threads
  pub children : OwnChildren h.threads.table.threads
  pub few_taken : h.taken ≤ h.steps
  pub few_serials : length h.threads.table.threads ≤ h.steps + length h.program.threads
  pub few_requests : AsksFew h.net.values h.steps

-- What stands even where memory was wanting: the net is that of the program, each item has a list of waiting threads, and the
-- dues are in order.
pub record Stands (program : Program) (net : NetNow) (threads : KeyedTable) (schedule : Schedule) : Type 0 where
  pub linked : IsProgram program
  pub nodes : net.nodes ≡ nodes_of program
  pub events : length threads.table.waiting ≡ length net.nodes
  pub in_turn : in_order (map unkeyed schedule.dues) ≡ map unkeyed schedule.dues

-- what an engine keeps, by whether memory was wanting
pub record Lasts (failed : Bool) (h : Held) : Type 0 where
  pub sound : failed ≡ false → IsSound h
  pub stands : Stands h.program h.net h.threads h.schedule
