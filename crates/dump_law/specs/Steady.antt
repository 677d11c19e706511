-- What stands between any two steps of a run, apart from what is dumped: dues are on time, and values are as wide as their items.
use Rattle.std.specs.Prelude.{◌≡◌, ℕ, ◌<◌, ◌≤◌, ◌^◌, List, All}
use Rattle.event_pool.specs.declared.agenda.Due.{Due}
use Rattle.event_pool.specs.declared.agenda.Act.{Act}
use Rattle.event_pool.specs.declared.agenda.Act.TheVariants.{Eval, Run, Update, Mature}
use Rattle.event_pool.specs.Pending.{Pending}
use Rattle.sym_link.specs.Roots.{Node, kind_of}
use Rattle.net_engine.specs.Kept.{HasOutput, IsDelay}
use Rattle.net_engine.specs.Parts.{AreWide}
use Rattle.net_engine.specs.State.{State}

-- an evaluation names a gate or a net delay, and a request a net delay
abbrev pub NamesKind : List Node → Act → Type 0
NamesKind nodes (Eval item) = HasOutput (kind_of nodes item)
NamesKind nodes (Run serial key) = Unit {0}
NamesKind nodes (Update item word offset value) = Unit {0}
NamesKind nodes (Mature item number) = IsDelay (kind_of nodes item)

-- a due isn't before now, and its time is one that a dump can name
pub record IsOnTime (nodes : List Node) (now : ℕ) (due : Due) : Type 0 where
  pub onward : now ≤ due.time
  pub in_time : due.time < 2 ^ 64
  pub names : NamesKind nodes due.act

-- what is pending at a time
pub record ArePending (nodes : List Node) (now : ℕ) (pending : Pending) : Type 0 where
  pub at : pending.now ≡ now
  pub dues : All (IsOnTime nodes now) pending.dues

-- the values and what is pending at a time
pub record IsSteady (nodes : List Node) (now : ℕ) (state : State) : Type 0 where
  pub pending : ArePending nodes now state.pending
  pub wide : AreWide nodes state.values
