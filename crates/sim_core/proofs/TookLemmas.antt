-- The due that an order picks, as an engine takes it: what each kind of due needs, what is kept, and what the machine does.
use Rattle.std.proofs.Common.{◌≡◌, ℕ, ◌+◌, ◌^◌, ◌<◌, false, Option, Some, None, option_map, Result, Ok, Err, List, length, map, get_or, refl, sym, ap, subst, ◌∙◌, arith}
use Rattle.std.specs.List.{slice_get}
use Rattle.std.specs.Result.{OnOk, is_err}
use Rattle.event_pool.specs.declared.agenda.Due.{Due}
use Rattle.event_pool.specs.declared.agenda.Act.{Act}
use Rattle.event_pool.specs.declared.agenda.Act.TheVariants.{Eval}
use Rattle.event_pool.specs.Order.{in_order}
use Rattle.event_pool.specs.Pending.{unkeyed}
use Rattle.event_pool.specs.Schedule.{Schedule, active_dues, is_active_at, taken, without_nth}
use Rattle.net_engine.specs.Net.{NetValues, Request, request_of}
use Rattle.net_engine.specs.Kept.{NamesItems}
use Rattle.net_engine.specs.Parts.{AsksAtMost}
use Rattle.vvp_threads.specs.Runs.{HasKey}
use Rattle.sim_core.specs.declared.engine.Running.{Running}
use Rattle.sim_core.specs.Step.{pick}
use Rattle.sim_core.specs.Kept.{AsksFew, Held, IsSound}
use Rattle.sim_core.proofs.OrderLemmas.{pick-within}
use Rattle.sim_core.proofs.SoundLemmas.{ordered-turn}
use Rattle.sim_core.proofs.TakeLemmas.{output-within, outputs-most, taken-key, taken-names}
use Rattle.sim_core.proofs.TakenLemmas.{Removes, removes-taken}

-- what an engine knows of the due that it took at a place
pub record Took (h : Held) (order : ℕ) (place : ℕ) (due : Due) (mid : Schedule) : Type 0 where
  pub picked : place ≡ pick order h.taken (length (active_dues h.schedule.now h.schedule.dues))
  pub at : slice_get (active_dues h.schedule.now h.schedule.dues) place ≡ Some due
  pub left : mid ≡ taken place h.schedule

pub took : (h : Held) (order count place : ℕ) (due : Due) (mid : Schedule) → count ≡ length (active_dues h.schedule.now h.schedule.dues) → place ≡ pick order h.taken count
    → slice_get (active_dues h.schedule.now h.schedule.dues) place ≡ Some due → mid ≡ taken place h.schedule → Took h order place due mid
took h order count place due mid n e at left = record { picked = e ∙ ap (pick order h.taken) n; at = at; left = left }

-- the place is one of those that there are
pub place-within : (order taken_before count place : ℕ) (dues : List Due) → count ≡ length dues → place ≡ pick order taken_before count → 0 < count → place < length dues
place-within order taken_before count place dues n e some =
    let within : place < count = subst (λ (k : ℕ). k < count) (sym e) (pick-within order taken_before count some) in
    subst (λ (k : ℕ). place < k) n within

-- one due fewer, and one place more
pub took-removes : (h : Held) (order place : ℕ) (due : Due) (mid : Schedule) → Took h order place due mid → Removes due h.schedule.dues mid.dues
took-removes h order place due mid t = subst (λ (s : Schedule). Removes due h.schedule.dues s.dues) (sym t.left) (removes-taken place h.schedule due t.at)

pub took-spare : (h : Held) (order place : ℕ) (due : Due) (mid : Schedule) → Took h order place due mid → mid.spare ≡ h.schedule.spare + 1
took-spare h order place due mid t = ap (λ (s : Schedule). s.spare) t.left

pub took-turn : (h : Held) (order place : ℕ) (due : Due) (mid : Schedule) → Took h order place due mid → in_order (map unkeyed mid.dues) ≡ map unkeyed mid.dues
took-turn h order place due mid t = subst (λ (s : Schedule). in_order (map unkeyed s.dues) ≡ map unkeyed s.dues) (sym t.left) (ordered-turn (without_nth (is_active_at h.schedule.now) place h.schedule.dues))

-- the due is where the order picks
pub took-at : (h : Held) (order place : ℕ) (due : Due) (mid : Schedule) → Took h order place due mid
    → slice_get (active_dues h.schedule.now h.schedule.dues) (pick order h.taken (length (active_dues h.schedule.now h.schedule.dues))) ≡ Some due
took-at h order place due mid t = subst (λ (k : ℕ). slice_get (active_dues h.schedule.now h.schedule.dues) k ≡ Some due) t.picked t.at

pub took-now : (h : Held) (order place : ℕ) (due : Due) (mid : Schedule) → Took h order place due mid → mid.now ≡ h.schedule.now
took-now h order place due mid t = ap (λ (s : Schedule). s.now) t.left

pub took-dues : (h : Held) (order place : ℕ) (due : Due) (mid : Schedule) → Took h order place due mid → mid.dues ≡ (taken (pick order h.taken (length (active_dues h.schedule.now h.schedule.dues))) h.schedule).dues
took-dues h order place due mid t = ap (λ (s : Schedule). s.dues) t.left ∙ ap (λ (k : ℕ). (taken k h.schedule).dues) t.picked

pub took-left : (h : Held) (order place : ℕ) (due : Due) (mid : Schedule) → Took h order place due mid → mid ≡ taken (pick order h.taken (length (active_dues h.schedule.now h.schedule.dues))) h.schedule
took-left h order place due mid t = t.left ∙ ap (λ (k : ℕ). taken k h.schedule) t.picked

-- ---- what the due names

pub took-names : (h : Held) (order place : ℕ) (due : Due) (act : Act) (mid : Schedule) → Took h order place due mid → due.act ≡ act → IsSound h → NamesItems h.net.nodes h.net.values act
took-names h order place due act mid t is s = taken-names h due act mid.dues is (took-removes h order place due mid t) s

pub took-key : (h : Held) (order place : ℕ) (due : Due) (act : Act) (mid : Schedule) → Took h order place due mid → due.act ≡ act → IsSound h → HasKey h.threads.keys act
took-key h order place due act mid t is s = taken-key h due act mid.dues is (took-removes h order place due mid t) s

-- an item that is evaluated is there
pub took-item : (h : Held) (order place item : ℕ) (due : Due) (mid : Schedule) → Took h order place due mid → due.act ≡ Eval item → IsSound h → item < length h.program.items
took-item h order place item due mid t is s = output-within h.program h.net.nodes item s.nodes (took-names h order place due (Eval item) mid t is s)

-- the outputs are few
pub outputs-few : (h : Held) → IsSound h → h.outputs < 2 ^ 32
outputs-few h s = omega (arith, s.outputs_are, outputs-most h.program.items, s.linked.few_items)

-- ---- how often net delays were asked

pub few-more : (old new : NetValues) (steps : ℕ) → AsksAtMost 1 old new → AsksFew old steps → AsksFew new (steps + 1)
few-more old new steps asks few item = (let one = asks.each item in let was = few item in omega (arith, one, was))

pub few-same : (old new : NetValues) (steps : ℕ) → new.requests ≡ old.requests → AsksFew old steps → AsksFew new (steps + 1)
few-same old new steps same few item =
    let was = few item in
    let is : (request_of new item).serial ≡ (request_of old item).serial = ap (λ (rs : List Request). (get_or rs item (record { serial = 0; kept = None })).serial) same in
    omega (arith, was, is)

pub few-none : (old new : NetValues) (steps : ℕ) → AsksAtMost 0 old new → AsksFew old steps → AsksFew new (steps + 1)
few-none old new steps asks few item = (let one = asks.each item in let was = few item in omega (arith, one, was))

-- no thread runs
pub rests-none : (running : Option Running) → option_map (λ (r : Running). r.serial) running ≡ None → running ≡ None
rests-none None e = refl
rests-none (Some r) e = absurd (let none : ⊥ = cc in none)

-- what an answer says that isn't an error
pub ok-holds : {T E P : Type 0} (r : Result T E) → is_err r ≡ false → OnOk r P → P
ok-holds (Ok v) e h = h
ok-holds (Err v) e h = absurd (let none : ⊥ = cc in none)
