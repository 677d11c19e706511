-- Whatever follows from a change, the values stay, dues stay on time, and evaluations name gates and net delays.
use Rattle.std.proofs.Common.{◌≡◌, ℕ, ◌<◌, ◌^◌, Bool, true, false, cond, Option, Some, List, [], ◌∷◌, map, refl, sym, subst, ◌∙◌, arith}
use Rattle.std.specs.List.{fold}
use Rattle.std.proofs.lemmas.List.Elements.{All-append, All-map, All-push}
use Rattle.four_state.specs.declared.bits.Bit.{Bit}
use Rattle.event_pool.specs.declared.agenda.Due.{Due}
use Rattle.event_pool.specs.declared.agenda.Region.{Region}
use Rattle.event_pool.specs.declared.agenda.Region.TheVariants.{Active}
use Rattle.event_pool.specs.Pending.{eval_of, has_eval, run_of}
use Rattle.vvp_threads.specs.Table.{waiters_of, woken}
use Rattle.sym_link.specs.declared.program.ItemKind.{ItemKind}
use Rattle.sym_link.specs.declared.program.ItemKind.TheVariants.{Functor, Delay, Edge}
use Rattle.sym_link.specs.Roots.{Node, Input, kind_of, readers, fired_with}
use Rattle.net_engine.specs.Net.{NetValues}
use Rattle.net_engine.specs.State.{State, put_in, let_go, with_threads}
use Rattle.net_engine.specs.Delivery.{ask_eval, delivered, fires, reached, reached_at, trigger, wake}
use Rattle.net_engine.specs.Kept.{HasOutput}
use Rattle.dump_law.specs.Steady.{ArePending, IsOnTime}

module _ (nodes : List Node) (now : ℕ) (few : now < 2 ^ 64) where
  -- a state has these values, and is on time where another one is
  pub record Moves (values : NetValues) (old new : State) : Type 0 where
    pub values_are : new.values ≡ values
    pub pending : ArePending nodes now old.pending → ArePending nodes now new.pending

  pub moves-none : (state : State) → Moves state.values state state
  moves-none state = record { values_are = refl; pending = λ h. h }

  pub moves-then : (values : NetValues) (a b c : State) → Moves values a b → Moves b.values b c → Moves values a c
  moves-then values a b c first second = record { values_are = second.values_are ∙ first.values_are; pending = λ h. second.pending (first.pending h) }

  moves-either : (choice : Bool) (values : NetValues) (a b c : State) → Moves values a b → Moves values a c → Moves values a (cond choice b c)
  moves-either true values a b c first second = first
  moves-either false values a b c first second = second

  -- a due of now
  run-on-time : (time : ℕ) (region : Region) (serial : ℕ) → time ≡ now → IsOnTime nodes now (run_of time region serial)
  run-on-time time region serial is = record { onward = omega (arith, is); in_time = omega (arith, is, few); names = tt }

  pub put-pending : (due : Due) (state : State) → IsOnTime nodes now due → ArePending nodes now state.pending → ArePending nodes now (put_in due state).pending
  put-pending due state on h = record { at = h.at; dues = All-push (IsOnTime nodes now) state.pending.dues due h.dues on }

  pub runs-pending : (serials : List ℕ) (state : State) → ArePending nodes now state.pending → ArePending nodes now (let_go serials state).pending
  runs-pending serials state h = record {
    at = h.at;
    dues =
        All-append (IsOnTime nodes now) state.pending.dues (map (run_of state.pending.now Active) serials) h.dues
        (All-map (IsOnTime nodes now) (run_of state.pending.now Active) serials (λ k d inside. run-on-time state.pending.now Active _ h.at));
  }

  -- ---- triggering

  wake-moves : (event : ℕ) (state : State) → Moves state.values state (wake state event)
  wake-moves event state = record { values_are = refl; pending = λ h. runs-pending (waiters_of state.threads event) (with_threads (woken state.threads event) state) h }

  wakes-move : (events : List ℕ) (state : State) → Moves state.values state (fold wake state events)
  wakes-move [] state = moves-none state
  wakes-move (event ∷ events) state = moves-then state.values state (wake state event) (fold wake (wake state event) events) (wake-moves event state) (wakes-move events (wake state event))

  pub trigger-moves : (event : ℕ) (state : State) → Moves state.values state (trigger nodes event state)
  unfolding trigger
  trigger-moves event state = wakes-move (fired_with nodes event) state

  -- ---- delivering

  eval-on-time : (time item : ℕ) → time ≡ now → HasOutput (kind_of nodes item) → IsOnTime nodes now (eval_of time item)
  eval-on-time time item is has = record { onward = omega (arith, is); in_time = omega (arith, is, few); names = has }

  ask-moves : (item : ℕ) (state : State) → HasOutput (kind_of nodes item) → Moves state.values state (ask_eval item state)
  ask-moves item state has =
      moves-either (has_eval item state.pending) state.values state state (put_in (eval_of state.pending.now item) state) (moves-none state)
      (record { values_are = refl; pending = λ h. put-pending (eval_of state.pending.now item) state (eval-on-time state.pending.now item h.at has) h })

  -- an item that has an output
  has-output : (item : ℕ) (kind : ItemKind) → kind_of nodes item ≡ Some kind → HasOutput (Some kind) → HasOutput (kind_of nodes item)
  has-output item kind is has = subst HasOutput (sym is) has

  reached-moves : (old new : List Bit) (item : ℕ) (kind : Option ItemKind) (state : State) → kind_of nodes item ≡ kind → Moves state.values state (reached nodes old new item kind state)
  reached-moves old new item (Some (Functor gate drive ports)) state is = ask-moves item state (has-output item (Functor gate drive ports) is refl)
  reached-moves old new item (Some (Delay rise fall decay port)) state is = ask-moves item state (has-output item (Delay rise fall decay port) is refl)
  reached-moves old new item (Some (Edge edge ports)) state is = moves-either (fires edge old new) state.values state (trigger nodes item state) state (trigger-moves item state) (moves-none state)
  reached-moves old new item other state is = moves-none state

  inputs-move : (old new : List Bit) (inputs : List Input) (state : State) → Moves state.values state (fold (reached_at nodes old new) state inputs)
  inputs-move old new [] state = moves-none state
  inputs-move old new (input ∷ inputs) state =
      let next : State = reached_at nodes old new state input in
      moves-then state.values state next (fold (reached_at nodes old new) next inputs) (reached-moves old new input.item (kind_of nodes input.item) state refl) (inputs-move old new inputs next)

  pub delivered-moves : (old new : List Bit) (item : ℕ) (state : State) → Moves state.values state (delivered nodes old new item state)
  unfolding delivered
  delivered-moves old new item state = inputs-move old new (readers nodes item) state
