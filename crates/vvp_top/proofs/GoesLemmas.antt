-- Calls that hand over, one after another.
use Rattle.std.proofs.Common.{◌≡◌, ℕ, ◌≤◌, true, List, [], ◌++◌, Option, Some, None, refl, sym, ap, subst, ◌∙◌, append-nil, arith}
use Rattle.std.specs.Prelude.{IsSome, Result, Ok, Err, OnErr}
use Rattle.std.specs.Io.KnownBytes.{append_known}
use Rattle.sys_tasks.specs.Phase.{dump_name}
use Rattle.sim_core.specs.Machine.{Machine}
use Rattle.sim_core.specs.Engine.{EngineFollows, Shown}
use Rattle.vvp_edge.specs.Bytes.{IsPrefix}
use Rattle.vvp_edge.specs.Causes.{Rose}
use Rattle.vvp_edge.specs.Files.{Files}
use Rattle.vvp_top.specs.declared.fault.Fault.{Fault}
use Rattle.vvp_top.specs.declared.fault.Fault.TheVariants as fault
use Rattle.vvp_top.specs.Whole.{dump_by}
use Rattle.vvp_top.specs.Ends.{CutFiles}
use Rattle.vvp_top.specs.Delivery.{Before, DoneAt, DumpStands, Goes, IsReady, Moment, Stands, StopsBy, after_dump, dump_given, dump_taken, same_machine, without_out}
use Rattle.vvp_top.proofs.GrowLemmas.{Grows}
use Rattle.vvp_top.proofs.DeliveryLemmas.{cut-grows, cut-still, cut-with, done-by, dump-is, out-is, prefix-whole, stands-dump, stands-out, stands-step}

-- ---- nothing is done

pub goes-none : {T : Type 0} (x : T) (m : Moment) → IsReady m → Goes same_machine (let ok : Result T Fault = Ok x in ok) m m
goes-none x m ready = record {
  moved = λ machine before stands. stands;
  cut = tt;
  ready = ready;
  program = refl;
  order = refl;
  store_later = omega arith;
  out_later = omega arith;
  stop = tt;
}

-- the same of another answer
pub goes-ok : {T U : Type 0} (f : Machine → Machine) (x : T) (y : U) (old new : Moment) → Goes f (let first : Result T Fault = Ok x in first) old new → Goes f (let second : Result U Fault = Ok y in second) old new
goes-ok f x y old new goes = record {
  moved = goes.moved;
  cut = tt;
  ready = goes.ready;
  program = goes.program;
  order = goes.order;
  store_later = goes.store_later;
  out_later = goes.out_later;
  stop = tt;
}

pub goes-err : {T U : Type 0} (f : Machine → Machine) (why : Fault) (old new : Moment) → Goes f (let first : Result T Fault = Err why in first) old new → Goes f (let second : Result U Fault = Err why in second) old new
goes-err f why old new goes = record {
  moved = tt;
  cut = goes.cut;
  ready = tt;
  program = tt;
  order = tt;
  store_later = goes.store_later;
  out_later = goes.out_later;
  stop = goes.stop;
}

-- ---- the output fails

pub goes-out_failed : {T : Type 0} (old new : Moment) (piece : List ℕ) → IsPrefix piece old.shown.machine.tasks.out → new.held ≡ append_known old.held piece → new.files ≡ old.files
    → new.store_faults ≡ old.store_faults → Rose old.out_faults new.out_faults → old.out_faults ≤ new.out_faults → Goes same_machine (let err : Result T Fault = Err fault.Output in err) old new
goes-out_failed old new piece part held files store rose later = record {
  moved = tt;
  cut = λ machine before stands. cut-with machine before old new piece stands part held files;
  ready = tt;
  program = tt;
  order = tt;
  store_later = omega (arith, store);
  out_later = later;
  stop = rose;
}

-- ---- all is handed over

-- the moment between: all output was handed over
pub record IsOut (old mid : Moment) : Type 0 where
  pub shown : mid.shown ≡ without_out old.shown
  pub held : mid.held ≡ append_known old.held old.shown.machine.tasks.out
  pub made : mid.made ≡ old.made
  pub files : mid.files ≡ old.files
  pub target : mid.target ≡ old.target
  pub store_faults : mid.store_faults ≡ old.store_faults
  pub out_faults : old.out_faults ≤ mid.out_faults

-- and then the dump
pub record IsDumped (mid new : Moment) : Type 0 where
  pub shown : new.shown ≡ after_dump mid.shown
  pub held : new.held ≡ mid.held
  pub named : IsSome (dump_name mid.shown.machine.tasks.state) → new.made ≡ true
  pub stands : (front : List ℕ) (before : Option Files) → DumpStands mid.made (dump_name mid.shown.machine.tasks.state) front before mid.files mid.target
      → DumpStands new.made (dump_name mid.shown.machine.tasks.state) (front ++ dump_given mid.shown) before new.files new.target
  pub ready : IsReady new
  pub store_later : mid.store_faults ≤ new.store_faults
  pub out_faults : new.out_faults ≡ mid.out_faults

stands-mid : (machine : Machine) (before : Before) (old mid : Moment) → IsOut old mid → Stands machine before old → Stands machine before mid
stands-mid machine before old mid out stands = stands-out machine before old mid stands out.shown out.held out.made out.files out.target

dump-then : (machine : Machine) (before : Before) (mid new : Moment) → IsDumped mid new → (stands : Stands machine before mid)
    → DumpStands new.made (dump_name mid.shown.machine.tasks.state) (stands.sent.dump ++ dump_given mid.shown) before.files new.files new.target
dump-then machine before mid new dumped stands = dumped.stands stands.sent.dump before.files stands.dump

taken-program : (name : Option (List ℕ)) (shown : Shown) → (dump_taken name shown).program ≡ shown.program
taken-program None shown = refl
taken-program (Some name) shown = refl

taken-order : (name : Option (List ℕ)) (shown : Shown) → (dump_taken name shown).order ≡ shown.order
taken-order None shown = refl
taken-order (Some name) shown = refl

taken-steps : (name : Option (List ℕ)) (shown : Shown) → (dump_taken name shown).machine.steps ≡ shown.machine.steps
taken-steps None shown = refl
taken-steps (Some name) shown = refl

taken-ending : (name : Option (List ℕ)) (shown : Shown) → (dump_taken name shown).machine.ending ≡ shown.machine.ending
taken-ending None shown = refl
taken-ending (Some name) shown = refl

-- handing over changes neither program nor order, neither steps nor ending
pub given-program : (old mid new : Moment) → IsOut old mid → IsDumped mid new → new.shown.program ≡ old.shown.program
given-program old mid new out dumped =
    ap (λ (s : Shown). s.program) dumped.shown ∙ taken-program (dump_name mid.shown.machine.tasks.state) mid.shown ∙ ap (λ (s : Shown). s.program) out.shown

pub given-order : (old mid new : Moment) → IsOut old mid → IsDumped mid new → new.shown.order ≡ old.shown.order
given-order old mid new out dumped =
    ap (λ (s : Shown). s.order) dumped.shown ∙ taken-order (dump_name mid.shown.machine.tasks.state) mid.shown ∙ ap (λ (s : Shown). s.order) out.shown

pub given-steps : (old mid new : Moment) → IsOut old mid → IsDumped mid new → new.shown.machine.steps ≡ old.shown.machine.steps
given-steps old mid new out dumped =
    ap (λ (s : Shown). s.machine.steps) dumped.shown ∙ taken-steps (dump_name mid.shown.machine.tasks.state) mid.shown ∙ ap (λ (s : Shown). s.machine.steps) out.shown

pub given-ending : (old mid new : Moment) → IsOut old mid → IsDumped mid new → new.shown.machine.ending ≡ old.shown.machine.ending
given-ending old mid new out dumped =
    ap (λ (s : Shown). s.machine.ending) dumped.shown ∙ taken-ending (dump_name mid.shown.machine.tasks.state) mid.shown ∙ ap (λ (s : Shown). s.machine.ending) out.shown

pub goes-all : {T : Type 0} (x : T) (old mid new : Moment) → IsOut old mid → IsDumped mid new
    → Goes same_machine (let ok : Result T Fault = Ok x in ok) old new
goes-all x old mid new out dumped = record {
  moved = λ machine before stands.
      let there : Stands machine before mid = stands-mid machine before old mid out stands in
      stands-dump machine before mid new there dumped.shown dumped.held (dump-then machine before mid new dumped there);
  cut = tt;
  ready = dumped.ready;
  program = given-program old mid new out dumped;
  order = given-order old mid new out dumped;
  store_later = omega (arith, out.store_faults, dumped.store_later);
  out_later = omega (arith, out.out_faults, dumped.out_faults);
  stop = tt;
}

pub done-all : (old mid new : Moment) → IsOut old mid → IsDumped mid new → (machine : Machine) (before : Before) → Stands machine before old → DoneAt machine before new
done-all old mid new out dumped machine before stands =
    let there : Stands machine before mid = stands-mid machine before old mid out stands in
    done-by machine before mid new there (ap (λ (s : Shown). s.machine.tasks.out) out.shown) dumped.held dumped.named (dump-then machine before mid new dumped there)

-- the store fails after all output was handed over
pub goes-dump_failed : {T : Type 0} (old mid new : Moment) → IsOut old mid → new.held ≡ mid.held
    → ((front : List ℕ) (before : Option Files) → DumpStands mid.made (dump_name mid.shown.machine.tasks.state) front before mid.files mid.target
    → CutFiles (dump_by (dump_name mid.shown.machine.tasks.state) (front ++ mid.shown.machine.tasks.dump)) before new.files)
    → Rose mid.store_faults new.store_faults → mid.store_faults ≤ new.store_faults → new.out_faults ≡ mid.out_faults → Goes same_machine (let err : Result T Fault = Err fault.Store in err) old new
goes-dump_failed old mid new out held cut rose later still = record {
  moved = tt;
  cut = λ machine before stands.
      let there : Stands machine before mid = stands-mid machine before old mid out stands in
      let empty : mid.shown.machine.tasks.out ≡ [] = ap (λ (s : Shown). s.machine.tasks.out) out.shown in record {
        output = (
          there.sent.out ++ mid.shown.machine.tasks.out,
          subst (λ (bytes : List ℕ). IsPrefix (there.sent.out ++ mid.shown.machine.tasks.out) bytes) (sym (out-is machine there.sent mid.shown there.shows)) (prefix-whole (there.sent.out ++ mid.shown.machine.tasks.out)),
          held ∙ there.given ∙ ap (append_known before.held) (none-after there.sent.out mid.shown.machine.tasks.out empty),
        );
        dump = subst (λ d. CutFiles d before.files new.files) (sym (dump-is machine there.sent mid.shown there.shows)) (cut there.sent.dump before.files there.dump);
      };
  ready = tt;
  program = tt;
  order = tt;
  store_later = omega (arith, out.store_faults, later);
  out_later = omega (arith, out.out_faults, still);
  stop = subst (λ (n : ℕ). Rose n new.store_faults) out.store_faults rose;
}
  where
    none-after : (a b : List ℕ) → b ≡ [] → a ≡ a ++ b
    none-after a b empty = sym (append-nil a) ∙ ap (λ (x : List ℕ). a ++ x) (sym empty)

-- ---- a step, and then what it leaves is handed over

-- nothing but the engine has changed
pub record IsStepped (old mid : Moment) : Type 0 where
  pub held : mid.held ≡ old.held
  pub made : mid.made ≡ old.made
  pub files : mid.files ≡ old.files
  pub target : mid.target ≡ old.target
  pub writing : mid.writing ≡ old.writing
  pub store_faults : mid.store_faults ≡ old.store_faults
  pub out_faults : mid.out_faults ≡ old.out_faults

pub stands-then : (f : Machine → Machine) → ((machine : Machine) → Grows machine.tasks (f machine).tasks) → (old mid : Moment) → EngineFollows f old.shown mid.shown → IsStepped old mid
    → (machine : Machine) (before : Before) → Stands machine before old → Stands (f machine) before mid
stands-then f grows old mid follows still machine before stands = stands-step f machine before old mid (grows machine) follows stands still.held still.made still.files still.target

rose-same : (a b c d : ℕ) → b ≡ a → Rose b c → Rose a c
rose-same a b c d same rose = subst (λ (n : ℕ). Rose n c) same rose

stop-same : (why : Fault) (old mid new : Moment) → IsStepped old mid → StopsBy why mid new → StopsBy why old new
stop-same fault.Store old mid new still stop = subst (λ (n : ℕ). Rose n new.store_faults) still.store_faults stop
stop-same fault.Output old mid new still stop = subst (λ (n : ℕ). Rose n new.out_faults) still.out_faults stop
stop-same fault.Memory old mid new still stop = tt

-- f is done, and then what comes next is done as after it
pub goes-then : {T U : Type 0} (f : Machine → Machine) (first : Result T Fault) (y : U) (old mid new : Moment) → ((machine : Machine) → Grows machine.tasks (f machine).tasks)
    → EngineFollows f old.shown mid.shown → IsStepped old mid → Goes same_machine first mid new → (ok : OnErr first ⊥) → Goes f (let answer : Result U Fault = Ok y in answer) old new
goes-then f (Ok x) y old mid new grows follows still goes ok = record {
  moved = λ machine before stands. goes.moved (f machine) before (stands-then f grows old mid follows still machine before stands);
  cut = tt;
  ready = goes.ready;
  program = goes.program ∙ follows.program;
  order = goes.order ∙ follows.order;
  store_later = omega (arith, goes.store_later, still.store_faults);
  out_later = omega (arith, goes.out_later, still.out_faults);
  stop = tt;
}
goes-then f (Err e) y old mid new grows follows still goes ok = absurd ok

pub goes-then_failed : {T U : Type 0} (f : Machine → Machine) (why : Fault) (old mid new : Moment) → ((machine : Machine) → Grows machine.tasks (f machine).tasks)
    → EngineFollows f old.shown mid.shown → IsStepped old mid → Goes same_machine (let err : Result T Fault = Err why in err) mid new → Goes f (let answer : Result U Fault = Err why in answer) old new
goes-then_failed f why old mid new grows follows still goes = record {
  moved = tt;
  cut = λ machine before stands. goes.cut (f machine) before (stands-then f grows old mid follows still machine before stands);
  ready = tt;
  program = tt;
  order = tt;
  store_later = omega (arith, goes.store_later, still.store_faults);
  out_later = omega (arith, goes.out_later, still.out_faults);
  stop = stop-same why old mid new still goes.stop;
}

-- and all is handed over then
pub done-then : (f : Machine → Machine) (old mid new : Moment) → ((machine : Machine) → Grows machine.tasks (f machine).tasks) → EngineFollows f old.shown mid.shown → IsStepped old mid
    → ((machine : Machine) (before : Before) → Stands machine before mid → DoneAt machine before new) → (machine : Machine) (before : Before) → Stands machine before old → DoneAt (f machine) before new
done-then f old mid new grows follows still done machine before stands = done (f machine) before (stands-then f grows old mid follows still machine before stands)

-- memory was wanting in the step
pub goes-wanting : {U : Type 0} (f : Machine → Machine) (old mid : Moment) → ((machine : Machine) → Grows machine.tasks (f machine).tasks) → IsStepped old mid
    → Goes f (let answer : Result U Fault = Err fault.Memory in answer) old mid
goes-wanting f old mid grows still = record {
  moved = tt;
  cut = λ machine before stands. cut-grows machine (f machine) before mid (grows machine) (cut-still machine before old mid stands still.held still.files);
  ready = tt;
  program = tt;
  order = tt;
  store_later = omega (arith, still.store_faults);
  out_later = omega (arith, still.out_faults);
  stop = tt;
}
