-- What a due's queue says of its time and region, case by case.
use Rattle.std.proofs.Common.{◌≡◌, ◌≢◌, ℕ, ◌+◌, ◌*◌, ◌/◌, ◌%◌, ◌<◌, ◌≤◌, Bool, true, false, cond, nat_eq, nat_lt, refl, sym, ap, ◌∙◌, arith}
use Rattle.std.proofs.lemmas.Bool.Decides.{nat_tests}
use Rattle.event_pool.specs.declared.agenda.Region.{Region}
use Rattle.event_pool.specs.declared.agenda.Region.TheVariants.{Active, Inactive, Nonblocking}
use Rattle.event_pool.specs.declared.agenda.Due.{Due}
use Rattle.time_wheel.specs.TimeWheel.{queue_for, IsPlaced}
use Rattle.time_wheel.specs.declared.queues.TheConstants.{TICKS, ACTIVE, INACTIVE, OVERFLOW}

-- a due of the region, at the time, stands in this queue because ..
pub data Stand (now time queue : ℕ) (region : Region) : Type 0 where
  -- .. it is Active, at now
  ready : region ≡ Active → time ≡ now → queue ≡ ACTIVE → Stand now time queue region
  -- .. it is Inactive, at now
  idle : region ≡ Inactive → time ≡ now → queue ≡ INACTIVE → Stand now time queue region
  -- .. it is after the block of now
  far : region ≢ Inactive → now / TICKS < time / TICKS → queue ≡ OVERFLOW → Stand now time queue region
  -- .. it is Active, later in the block of now
  soon : region ≡ Active → now < time → time / TICKS ≡ now / TICKS → queue ≡ 2 * (time % TICKS) → Stand now time queue region
  -- .. it is Nonblocking, in the block of now
  last : region ≡ Nonblocking → now ≤ time → time / TICKS ≡ now / TICKS → queue ≡ 2 * (time % TICKS) + 1 → Stand now time queue region

stand_active : (now time queue : ℕ) → now ≤ time → (here later : Bool) → nat_eq time now ≡ here → nat_lt (now / TICKS) (time / TICKS) ≡ later →
    cond here ACTIVE (cond later OVERFLOW (2 * (time % TICKS))) ≡ queue → Stand now time queue Active
stand_active now time queue le true later h l e = ready refl (grind (arith, nat_tests)) (sym e)
stand_active now time queue le false true h l e = far (λ same. cc) (grind (arith, nat_tests)) (sym e)
stand_active now time queue le false false h l e =
    let differ : time ≢ now = grind (arith, nat_tests) in
    let block : time / TICKS ≤ now / TICKS = grind (arith, nat_tests) in
    soon refl (omega arith) (omega arith) (sym e)

stand_nonblocking : (now time queue : ℕ) → now ≤ time → (later : Bool) → nat_lt (now / TICKS) (time / TICKS) ≡ later →
    cond later OVERFLOW (2 * (time % TICKS) + 1) ≡ queue → Stand now time queue Nonblocking
stand_nonblocking now time queue le true l e = far (λ same. cc) (grind (arith, nat_tests)) (sym e)
stand_nonblocking now time queue le false l e =
    let block : time / TICKS ≤ now / TICKS = grind (arith, nat_tests) in
    last refl le (omega arith) (sym e)

stand_in : (region : Region) (now time queue : ℕ) → now ≤ time → (region ≡ Inactive → time ≡ now) → queue_for region now time ≡ queue → Stand now time queue region
stand_in Active now time queue le idle_now e = stand_active now time queue le _ _ refl refl e
stand_in Inactive now time queue le idle_now e = idle refl (idle_now refl) (sym e)
stand_in Nonblocking now time queue le idle_now e = stand_nonblocking now time queue le _ refl e

-- a due that is placed stands there in one of the five ways
pub stand : (now queue : ℕ) (due : Due) → IsPlaced now queue due → Stand now due.time queue due.region
stand now queue due placed = stand_in due.region now due.time queue placed.0.0 placed.0.1 placed.1

placed_active_now : (now : ℕ) → queue_for Active now now ≡ ACTIVE
placed_active_now now = let here : nat_eq now now ≡ true = grind (arith, nat_tests) in rw here refl

placed_far : (region : Region) (now time : ℕ) → region ≢ Inactive → now / TICKS < time / TICKS → queue_for region now time ≡ OVERFLOW
placed_far Active now time active later =
    let here : nat_eq time now ≡ false = grind (arith, nat_tests) in
    let block : nat_lt (now / TICKS) (time / TICKS) ≡ true = grind (arith, nat_tests) in
    rw (here, block) refl
placed_far Inactive now time active later = absurd (active refl)
placed_far Nonblocking now time active later = let block : nat_lt (now / TICKS) (time / TICKS) ≡ true = grind (arith, nat_tests) in rw block refl

placed_soon : (now time : ℕ) → now < time → time / TICKS ≡ now / TICKS → queue_for Active now time ≡ 2 * (time % TICKS)
placed_soon now time later same =
    let here : nat_eq time now ≡ false = grind (arith, nat_tests) in
    let block : nat_lt (now / TICKS) (time / TICKS) ≡ false = grind (arith, nat_tests) in
    rw (here, block) refl

placed_last : (now time : ℕ) → time / TICKS ≡ now / TICKS → queue_for Nonblocking now time ≡ 2 * (time % TICKS) + 1
placed_last now time same = let block : nat_lt (now / TICKS) (time / TICKS) ≡ false = grind (arith, nat_tests) in rw block refl

not_before : (now time : ℕ) → now / TICKS < time / TICKS → now ≤ time
not_before now time later = omega arith

-- the five ways are those in which a due is placed
pub placed : (now queue : ℕ) (due : Due) → Stand now due.time queue due.region → IsPlaced now queue due
placed now queue due (ready region time is) =
    ((omega arith, λ e. cc), ap (λ r. queue_for r now due.time) region ∙ ap (λ t. queue_for Active now t) time ∙ placed_active_now now ∙ sym is)
placed now queue due (idle region time is) = ((omega arith, λ e. time), ap (λ r. queue_for r now due.time) region ∙ sym is)
placed now queue due (far region block is) =
    ((not_before now due.time block, λ e. absurd (region e)), placed_far due.region now due.time region block ∙ sym is)
placed now queue due (soon region later block is) =
    ((omega arith, λ e. cc), ap (λ r. queue_for r now due.time) region ∙ placed_soon now due.time later block ∙ sym is)
placed now queue due (last region le block is) =
    ((le, λ e. cc), ap (λ r. queue_for r now due.time) region ∙ placed_last now due.time block ∙ sym is)
