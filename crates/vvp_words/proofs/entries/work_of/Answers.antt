use Rattle.std.proofs.Common.{ℕ, true, false, List, Option, Bor, sym, ap, ◌∙◌}
use Rattle.std.specs.Prelude.{option_map}
use Rattle.vvp_words.specs.Decimal.{decimal_of}
use Rattle.vvp_words.specs.Entries.{Activity, File, Toggles, Workload, work_of}
use Rattle.vvp_words.proofs.EntriesLemmas.{work_as, work-last, work-load, work-none, work-run, work-toggles}
use Rattle.vvp_words.proofs.entries.work_of.Goals as goal

pub returns-in_default-clause-work : goal.returns-in_default-clause-work
returns-in_default-clause-work c =
    ap (λ (name : List ℕ). work_as (File name)) c.as_bytes.ensures.value ∙ work-none c.args.operand.now
    ∙ ap (λ (m : Option (Bor (List ℕ))). work_of (option_map (λ s. s.now) m) c.args.operand.now) (sym c.in_default.is)

pub returns-then-eq-clause-work : goal.returns-then-eq-clause-work
returns-then-eq-clause-work c =
    ap (λ (name : List ℕ). work_as (File name)) c.as_bytes-then-eq.ensures.value
    ∙ work-run c.in-Some.mode.now c.args.operand.now (sym c.eq.ensures ∙ c.if-eq.true)
    ∙ ap (λ (m : Option (Bor (List ℕ))). work_of (option_map (λ s. s.now) m) c.args.operand.now) (sym c.in-Some.is)

pub returns-in-None-clause-work : goal.returns-in-None-clause-work
returns-in-None-clause-work c =
    ap (λ (size : Option ℕ). option_map Workload size) (c.in-None.ensures.number ∙ ap (decimal_of 4 1 2000) c.as_bytes-then-eq-2.ensures.value)
    ∙ work-load c.in-Some.mode.now c.args.operand.now (sym c.eq.ensures ∙ c.if-eq.false) (sym c.eq-2.ensures ∙ c.if-eq-2.true)
    ∙ ap (λ (m : Option (Bor (List ℕ))). work_of (option_map (λ s. s.now) m) c.args.operand.now) (sym c.in-Some.is)

pub returns-in-Some-decimal-clause-work : goal.returns-in-Some-decimal-clause-work
returns-in-Some-decimal-clause-work c =
    ap (λ (size : Option ℕ). option_map Workload size) (c.in-Some-decimal.ensures.number ∙ ap (decimal_of 4 1 2000) c.as_bytes-then-eq-2.ensures.value)
    ∙ work-load c.in-Some.mode.now c.args.operand.now (sym c.eq.ensures ∙ c.if-eq.false) (sym c.eq-2.ensures ∙ c.if-eq-2.true)
    ∙ ap (λ (m : Option (Bor (List ℕ))). work_of (option_map (λ s. s.now) m) c.args.operand.now) (sym c.in-Some.is)

pub returns-then-eq-3-clause-work : goal.returns-then-eq-3-clause-work
returns-then-eq-3-clause-work c =
    ap (λ (name : List ℕ). work_as (Toggles name)) c.as_bytes-then-eq-3.ensures.value
    ∙ work-toggles c.in-Some.mode.now c.args.operand.now (sym c.eq.ensures ∙ c.if-eq.false) (sym c.eq-2.ensures ∙ c.if-eq-2.false) (sym c.eq-3.ensures ∙ c.if-eq-3.true)
    ∙ ap (λ (m : Option (Bor (List ℕ))). work_of (option_map (λ s. s.now) m) c.args.operand.now) (sym c.in-Some.is)

pub returns-then-eq-4-clause-work : goal.returns-then-eq-4-clause-work
returns-then-eq-4-clause-work c =
    ap (λ (name : List ℕ). work_as (Activity name)) c.as_bytes-then-eq-4.ensures.value
    ∙ work-last c.in-Some.mode.now c.args.operand.now true (sym c.eq.ensures ∙ c.if-eq.false) (sym c.eq-2.ensures ∙ c.if-eq-2.false) (sym c.eq-3.ensures ∙ c.if-eq-3.false) (sym c.eq-4.ensures ∙ c.if-eq-4.true)
    ∙ ap (λ (m : Option (Bor (List ℕ))). work_of (option_map (λ s. s.now) m) c.args.operand.now) (sym c.in-Some.is)

pub returns-clause-work : goal.returns-clause-work
returns-clause-work c =
    work-last c.in-Some.mode.now c.args.operand.now false (sym c.eq.ensures ∙ c.if-eq.false) (sym c.eq-2.ensures ∙ c.if-eq-2.false) (sym c.eq-3.ensures ∙ c.if-eq-3.false) (sym c.eq-4.ensures ∙ c.if-eq-4.false)
    ∙ ap (λ (m : Option (Bor (List ℕ))). work_of (option_map (λ s. s.now) m) c.args.operand.now) (sym c.in-Some.is)
