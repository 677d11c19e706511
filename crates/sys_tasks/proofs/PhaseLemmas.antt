-- The read-only phase.
use Rattle.std.proofs.Common.{◌≡◌, ℕ, Bool, true, false, not, ◌&&◌, ◌||◌, eqb, eq-eqb, Option, Some, None, List, [], ◌++◌, refl, sym, ap, ◌∙◌, subst, inl, inr}
use Rattle.std.specs.Prelude.{IfNone, IfSome, OnErr, Result, Ok, Err, if◌then◌else◌}
use Rattle.std.proofs.lemmas.Bool.{cases_Bool}
use Rattle.std.proofs.lemmas.List.{append-nil}
use Rattle.four_state.specs.declared.bits.Bit.{Bit}
use Rattle.vcd_write.specs.Header.{header_text}
use Rattle.sys_tasks.specs.declared.state.Call.{Call}
use Rattle.sys_tasks.specs.declared.state.TaskState.{TaskState}
use Rattle.sys_tasks.specs.Conditions.{Answers, HasWidths, HoldsValues, IsBetween}
use Rattle.sys_tasks.specs.Design.{Design}
use Rattle.sys_tasks.specs.Dumped.{dump_items, dump_scopes, dumped_values}
use Rattle.sys_tasks.specs.Phase.{IsPartOf, dump_name, dumped, header_due, line_now, lines_now, monitored, monitored_by, read_only, same_values, strobed, watched_now, with_header, with_phase}
use Rattle.sys_tasks.specs.Tasks.{TasksNow, with_state}
use Rattle.sys_tasks.proofs.WritingLemmas.{Grown, between, grown-first, grown-last, grown-trans, same-grown}

grows : (now : ℕ) (words : ℕ → List (List Bit)) (o : Option Call) (t : TasksNow) → Grown t.out (monitored_by now words o t).out
grows now words None t = same-grown t.out
grows now words (Some call) t =
    elim (cases_Bool (t.state.monitor_on && (t.state.monitor_due || not (same_values (watched_now t.design.entries t.design.scopes now words call) t.state.shown)))) [
      | inl prints ↦ record { more = line_now t.design.entries t.design.scopes now words call; is = rw prints refl }
      | inr quiet ↦ record { more = []; is = rw quiet (sym (append-nil t.out)) }
    ]

monitored-grows : (now : ℕ) (words : ℕ → List (List Bit)) (t : TasksNow) → Grown t.out (monitored now words t).out
unfolding monitored
monitored-grows now words t = grows now words t.state.monitor t

strobed-grows : (now : ℕ) (words : ℕ → List (List Bit)) (t : TasksNow) → Grown t.out (strobed now words t).out
unfolding strobed
strobed-grows now words t = record { more = lines_now t.design.entries t.design.scopes now words t.state.strobes; is = refl }

-- Strobes and the monitor leave the dump

abbrev pub printing : ℕ → (ℕ → List (List Bit)) → TasksNow → TasksNow
printing now words t = monitored now words (strobed now words t)

-- what the dump has is the same, and so is the program
pub record SameDump (old new : TasksNow) : Type 0 where
  pub design : new.design ≡ old.design
  pub dump : new.dump ≡ old.dump
  pub name : dump_name new.state ≡ dump_name old.state

strobed-dump : (now : ℕ) (words : ℕ → List (List Bit)) (t : TasksNow) → SameDump t (strobed now words t)
unfolding strobed dump_name
strobed-dump now words t = record { design = refl; dump = refl; name = refl }

monitored-by-dump : (now : ℕ) (words : ℕ → List (List Bit)) (o : Option Call) (t : TasksNow) → SameDump t (monitored_by now words o t)
unfolding dump_name
monitored-by-dump now words None t = record { design = refl; dump = refl; name = refl }
monitored-by-dump now words (Some call) t =
    either (t.state.monitor_on && (t.state.monitor_due || not (same_values (watched_now t.design.entries t.design.scopes now words call) t.state.shown))) _ (record { design = refl; dump = refl; name = refl })
  where
    either : (b : Bool) (x : TasksNow) → SameDump t x → SameDump t (if b then x else t)
    either true x h = h
    either false x h = record { design = refl; dump = refl; name = refl }

printing-dump : (now : ℕ) (words : ℕ → List (List Bit)) (t : TasksNow) → SameDump t (printing now words t)
unfolding monitored
printing-dump now words t =
    let first = strobed-dump now words t in
    let second = monitored-by-dump now words (strobed now words t).state.monitor (strobed now words t) in
    record { design = second.design ∙ first.design; dump = second.dump ∙ first.dump; name = second.name ∙ first.name }

printing-grows : (now : ℕ) (words : ℕ → List (List Bit)) (t : TasksNow) → Grown t.out (printing now words t).out
printing-grows now words t = grown-trans _ _ _ (strobed-grows now words t) (monitored-grows now words (strobed now words t))

-- The dump's part

dumped-grows : (now : ℕ) (words : ℕ → List (List Bit)) (t : TasksNow) → Grown t.dump (dumped now words t).dump
unfolding dumped
dumped-grows now words t = either (eqb t.state.dumping 0)
  where
    either : (b : Bool) → Grown t.dump (if b then t else with_phase now (eqb t.state.dumping 1) (dumped_values t.design words t.state.chosen) (with_header t)).dump
    either true = same-grown t.dump
    either false = grown-trans _ (with_header t).dump _ (record { more = header_due t.design t.state; is = refl }) (record { more = _; is = refl })

dumped-out : (now : ℕ) (words : ℕ → List (List Bit)) (t : TasksNow) → (dumped now words t).out ≡ t.out
unfolding dumped
dumped-out now words t = either (eqb t.state.dumping 0)
  where
    either : (b : Bool) → (if b then t else with_phase now (eqb t.state.dumping 1) (dumped_values t.design words t.state.chosen) (with_header t)).out ≡ t.out
    either true = refl
    either false = refl

-- a dump that has a name keeps it
some-name : (dumping : ℕ) (name n : List ℕ) (b : Bool) → (if b then Some name else None) ≡ Some n → Some name ≡ Some n
some-name dumping name n true h = h
some-name dumping name n false h = cc

dumped-name : (now : ℕ) (words : ℕ → List (List Bit)) (t : TasksNow) (n : List ℕ) → dump_name t.state ≡ Some n → dump_name (dumped now words t).state ≡ Some n
unfolding dumped dump_name
dumped-name now words t n h = either (eqb t.state.dumping 0)
  where
    either : (b : Bool) → dump_name (if b then t else with_phase now (eqb t.state.dumping 1) (dumped_values t.design words t.state.chosen) (with_header t)).state ≡ Some n
    either true = h
    either false = some-name t.state.dumping t.state.name n (eqb t.state.dumping 2) h

some-each : (o : Option (List ℕ)) (P : List ℕ → Type 0) → ((n : List ℕ) → o ≡ Some n → P n) → IfSome o P
some-each None P h = tt
some-each (Some n) P h = h n refl

none-each : (o : Option (List ℕ)) (P : Type 0) → P → IfNone o P
none-each None P h = h
none-each (Some n) P h = tt

-- Where memory is wanting

-- before the dump writes
quiet-part : (now : ℕ) (words : ℕ → List (List Bit)) (old new : TasksNow) → IsBetween old.out (printing now words old).out new.out → new.dump ≡ old.dump → dump_name new.state ≡ dump_name old.state
    → IsPartOf old (dumped now words (printing now words old)) new
quiet-part now words old new out dump name =
    let middle = printing now words old in
    let same = printing-dump now words old in
    let O : List ℕ → Type 0 = λ x. IsBetween old.out x new.out in
    let D : List ℕ → Type 0 = λ x. IsBetween x (dumped now words middle).dump new.dump in
    let E : List ℕ → Type 0 = λ x. IsBetween middle.dump (dumped now words middle).dump x in
    record {
      out = subst O (sym (dumped-out now words middle)) out;
      dump = subst D same.dump (subst E (same.dump ∙ sym dump) (between _ _ _ (same-grown middle.dump) (dumped-grows now words middle)));
      named = some-each _ _ (λ n is. dumped-name now words middle n (same.name ∙ sym name ∙ is));
      unnamed = none-each _ _ dump;
    }

-- while it writes
dump-part : (now : ℕ) (words : ℕ → List (List Bit)) (old new : TasksNow) → IsPartOf (printing now words old) (dumped now words (printing now words old)) new → IsPartOf old (dumped now words (printing now words old)) new
dump-part now words old new h =
    let middle = printing now words old in
    let same = printing-dump now words old in
    let D : List ℕ → Type 0 = λ x. IsBetween x (dumped now words middle).dump new.dump in
    let N : List ℕ → Type 0 = λ x. IfNone (dump_name new.state) (new.dump ≡ x) in
    record {
      out = between _ _ _ (grown-trans _ _ _ (printing-grows now words old) (grown-first _ _ _ h.out)) (grown-last _ _ _ h.out);
      dump = subst D same.dump h.dump;
      named = h.named;
      unnamed = subst N same.dump h.unnamed;
    }

-- The whole phase

phase-is : (now : ℕ) (words : ℕ → List (List Bit)) (old : TasksNow) → dumped now words (printing now words old) ≡ read_only now words old
unfolding read_only
phase-is now words old = refl

middle-is : (now : ℕ) (words : ℕ → List (List Bit)) (old a b : TasksNow) → a ≡ strobed now words old → b ≡ monitored now words a → b ≡ printing now words old
middle-is now words old a b p q = q ∙ ap (monitored now words) p

pub middle-holds : (now : ℕ) (words : ℕ → List (List Bit)) (old a b : TasksNow) (plane : List (List Bit)) → a ≡ strobed now words old → b ≡ monitored now words a → HoldsValues old.design.entries words plane → HoldsValues b.design.entries words plane
middle-holds now words old a b plane p q h =
    let P : Design → Type 0 = λ d. HoldsValues d.entries words plane in
    subst P (sym (ap (λ (t : TasksNow). t.design) (middle-is now words old a b p q) ∙ (printing-dump now words old).design)) h

pub middle-answers : (now : ℕ) (words : ℕ → List (List Bit)) (old a b : TasksNow) → a ≡ strobed now words old → b ≡ monitored now words a → Answers old.design.entries words → Answers b.design.entries words
middle-answers now words old a b p q h =
    let P : Design → Type 0 = λ d. Answers d.entries words in
    subst P (sym (ap (λ (t : TasksNow). t.design) (middle-is now words old a b p q) ∙ (printing-dump now words old).design)) h

pub whole-phase : (now : ℕ) (words : ℕ → List (List Bit)) (old a b new : TasksNow) → a ≡ strobed now words old → b ≡ monitored now words a → new ≡ dumped now words b → new ≡ read_only now words old
whole-phase now words old a b new p q r = r ∙ ap (dumped now words) (middle-is now words old a b p q) ∙ phase-is now words old

-- a part of the strobes' lines
pub strobes-part : (now : ℕ) (words : ℕ → List (List Bit)) (old new : TasksNow) → IsBetween old.out (strobed now words old).out new.out → new ≡ record old { out = new.out } → IsPartOf old (read_only now words old) new
strobes-part now words old new h is =
    let P : TasksNow → Type 0 = λ t. IsPartOf old t new in
    let out = between _ _ _ (grown-first _ _ _ h) (grown-trans _ _ _ (grown-last _ _ _ h) (monitored-grows now words (strobed now words old))) in
    subst P (phase-is now words old) (quiet-part now words old new out (ap (λ (t : TasksNow). t.dump) is) (ap (λ (t : TasksNow). dump_name t.state) is))

-- all of them
pub monitor-part : (now : ℕ) (words : ℕ → List (List Bit)) (old a new : TasksNow) → a ≡ strobed now words old → new ≡ a → IsPartOf old (read_only now words old) new
monitor-part now words old a new p q =
    let P : TasksNow → Type 0 = λ t. IsPartOf old t new in
    let same = strobed-dump now words old in
    let told : new ≡ strobed now words old = q ∙ p in
    let O : List ℕ → Type 0 = λ x. IsBetween old.out (printing now words old).out x in
    let out = subst O (sym (ap (λ (t : TasksNow). t.out) told)) (between _ _ _ (strobed-grows now words old) (monitored-grows now words (strobed now words old))) in
    subst P (phase-is now words old) (quiet-part now words old new out (ap (λ (t : TasksNow). t.dump) told ∙ same.dump) (ap (λ (t : TasksNow). dump_name t.state) told ∙ same.name))

-- the dump's part
pub dumping-part : (now : ℕ) (words : ℕ → List (List Bit)) (old a b new : TasksNow) → a ≡ strobed now words old → b ≡ monitored now words a → IsPartOf b (dumped now words b) new → IsPartOf old (read_only now words old) new
dumping-part now words old a b new p q h =
    let P : TasksNow → Type 0 = λ t. IsPartOf old t new in
    let Q : TasksNow → Type 0 = λ t. IsPartOf t (dumped now words t) new in
    subst P (phase-is now words old) (dump-part now words old new (subst Q (middle-is now words old a b p q) h))

-- Parts of the dump's part

-- nothing is dumped yet
pub undumped : (now : ℕ) (words : ℕ → List (List Bit)) (t : TasksNow) → t.state.dumping ≡ 0 → t ≡ dumped now words t
unfolding dumped
undumped now words t is = sym (ap (λ (b : Bool). if b then t else with_phase now (eqb t.state.dumping 1) (dumped_values t.design words t.state.chosen) (with_header t)) (eq-eqb t.state.dumping 0 is))

-- the phase of the header
headed-is : (now : ℕ) (words : ℕ → List (List Bit)) (t : TasksNow) → t.state.dumping ≡ 1 → with_phase now true (dumped_values t.design words t.state.chosen) (with_header t) ≡ dumped now words t
unfolding dumped
headed-is now words t is =
    let other : eqb t.state.dumping 0 ≡ false = ap (λ (n : ℕ). eqb n 0) is in
    let one : eqb t.state.dumping 1 ≡ true = ap (λ (n : ℕ). eqb n 1) is in
    ap (λ (b : Bool). with_phase now b (dumped_values t.design words t.state.chosen) (with_header t)) (sym one)
    ∙ ap (λ (b : Bool). if b then t else with_phase now (eqb t.state.dumping 1) (dumped_values t.design words t.state.chosen) (with_header t)) (sym other)

abbrev pub begun : List (List Bit) → TasksNow → TasksNow
begun last t = with_state (record t.state { dumping = 2; last = last }) (with_header t)

begun-is : (now : ℕ) (words : ℕ → List (List Bit)) (t : TasksNow) (last : List (List Bit))
    → with_phase now true (dumped_values (begun last t).design words (begun last t).state.chosen) (begun last t) ≡ with_phase now true (dumped_values t.design words t.state.chosen) (with_header t)
begun-is now words t last = refl

pub headed : (now : ℕ) (words : ℕ → List (List Bit)) (old middle new : TasksNow) → old.state.dumping ≡ 1 → middle ≡ begun middle.state.last old → new ≡ with_phase now true (dumped_values middle.design words middle.state.chosen) middle
    → new ≡ dumped now words old
headed now words old middle new one is told =
    let f : TasksNow → TasksNow = λ t. with_phase now true (dumped_values t.design words t.state.chosen) t in
    told ∙ ap f is ∙ begun-is now words old middle.state.last ∙ headed-is now words old one

-- a later phase
pub unheaded : (now : ℕ) (words : ℕ → List (List Bit)) (t new : TasksNow) → t.state.dumping ≡ 2 → new ≡ with_phase now false (dumped_values t.design words t.state.chosen) t → new ≡ dumped now words t
unfolding dumped
unheaded now words t new is told =
    let none : eqb t.state.dumping 0 ≡ false = ap (λ (n : ℕ). eqb n 0) is in
    let one : eqb t.state.dumping 1 ≡ false = ap (λ (n : ℕ). eqb n 1) is in
    let plain : with_header t ≡ t = ap (λ (b : Bool). record t { dump = t.dump ++ (if b then header_text t.design.precision (dump_scopes t.design) (dump_items t.design t.state.chosen) else []) }) one ∙ ap (λ (d : List ℕ). record t { dump = d }) (append-nil t.dump) in
    let f : Bool → TasksNow → TasksNow = λ b x. with_phase now b (dumped_values t.design words t.state.chosen) x in
    told ∙ ap (f false) (sym plain) ∙ ap (λ (b : Bool). f b (with_header t)) (sym one)
    ∙ ap (λ (b : Bool). if b then t else with_phase now (eqb t.state.dumping 1) (dumped_values t.design words t.state.chosen) (with_header t)) (sym none)

-- where the header is wanting, or nothing is done
pub none-part : (now : ℕ) (words : ℕ → List (List Bit)) (old new : TasksNow) → new ≡ old → IsPartOf old (dumped now words old) new
none-part now words old new is =
    let P : TasksNow → Type 0 = λ t. IsPartOf old (dumped now words old) t in
    let O : List ℕ → Type 0 = λ x. IsBetween old.out x old.out in
    subst P (sym is) (record {
      out = subst O (sym (dumped-out now words old)) (between _ _ _ (same-grown old.out) (same-grown old.out));
      dump = between _ _ _ (same-grown old.dump) (dumped-grows now words old);
      named = some-each _ _ (λ n told. dumped-name now words old n told);
      unnamed = none-each _ _ refl;
    })

named-two : (state : TaskState) → state.dumping ≡ 2 → dump_name state ≡ Some state.name
unfolding dump_name
named-two state is = ap (λ (n : ℕ). if eqb n 2 then Some state.name else None) is

named-none : (o : Option (List ℕ)) (n : List ℕ) (P : Type 0) → o ≡ Some n → IfNone o P
named-none None n P h = cc
named-none (Some m) n P h = tt

-- after the header
pub headed-part : (now : ℕ) (words : ℕ → List (List Bit)) (old middle new : TasksNow) → old.state.dumping ≡ 1 → middle ≡ begun middle.state.last old
    → IsBetween middle.dump (with_phase now true (dumped_values middle.design words middle.state.chosen) middle).dump new.dump → new ≡ record middle { state = record middle.state { last = new.state.last }; dump = new.dump }
    → IsPartOf old (dumped now words old) new
headed-part now words old middle new one is told kept =
    let whole = headed now words old middle _ one is refl in
    let out : new.out ≡ old.out = ap (λ (t : TasksNow). t.out) (kept ∙ ap (λ (t : TasksNow). record t { state = record t.state { last = new.state.last }; dump = new.dump }) is) in
    let two : new.state.dumping ≡ 2 = ap (λ (t : TasksNow). t.state.dumping) (kept ∙ ap (λ (t : TasksNow). record t { state = record t.state { last = new.state.last }; dump = new.dump }) is) in
    let name : new.state.name ≡ old.state.name = ap (λ (t : TasksNow). t.state.name) (kept ∙ ap (λ (t : TasksNow). record t { state = record t.state { last = new.state.last }; dump = new.dump }) is) in
    let due : dump_name (dumped now words old).state ≡ Some old.state.name =
    ap (λ (t : TasksNow). dump_name t.state) (sym (headed-is now words old one)) ∙ named-two (with_phase now true (dumped_values old.design words old.state.chosen) (with_header old)).state refl in
    let now_ : dump_name new.state ≡ Some old.state.name = named-two new.state two ∙ ap (λ (n : List ℕ). Some n) name in
    let O : List ℕ → Type 0 = λ x. IsBetween old.out (dumped now words old).out x in
    let Q : List ℕ → Type 0 = λ x. IsBetween old.out x old.out in
    let D : List ℕ → Type 0 = λ x. IsBetween middle.dump x new.dump in
    let more = subst D (ap (λ (t : TasksNow). t.dump) whole) told in
    let first : Grown old.dump middle.dump = record { more = header_due old.design old.state; is = ap (λ (t : TasksNow). t.dump) is } in
    record {
      out = subst O (sym out) (subst Q (sym (dumped-out now words old)) (between _ _ _ (same-grown old.out) (same-grown old.out)));
      dump = between _ _ _ (grown-trans _ _ _ first (grown-first _ _ _ more)) (grown-last _ _ _ more);
      named = some-each _ _ (λ n told_. due ∙ sym now_ ∙ told_);
      unnamed = named-none _ _ _ now_;
    }

-- in a later phase
pub later-part : (now : ℕ) (words : ℕ → List (List Bit)) (old new : TasksNow) → old.state.dumping ≡ 2 → IsBetween old.dump (with_phase now false (dumped_values old.design words old.state.chosen) old).dump new.dump
    → new ≡ record old { state = record old.state { last = new.state.last }; dump = new.dump } → IsPartOf old (dumped now words old) new
later-part now words old new is told kept =
    let whole = unheaded now words old _ is refl in
    let out : new.out ≡ old.out = ap (λ (t : TasksNow). t.out) kept in
    let two : new.state.dumping ≡ 2 = ap (λ (t : TasksNow). t.state.dumping) kept ∙ is in
    let before : dump_name old.state ≡ Some old.state.name = named-two old.state is in
    let now_ : dump_name new.state ≡ Some old.state.name = named-two new.state two ∙ ap (λ (t : TasksNow). Some t.state.name) kept in
    let O : List ℕ → Type 0 = λ x. IsBetween old.out (dumped now words old).out x in
    let Q : List ℕ → Type 0 = λ x. IsBetween old.out x old.out in
    let D : List ℕ → Type 0 = λ x. IsBetween old.dump x new.dump in
    record {
      out = subst O (sym out) (subst Q (sym (dumped-out now words old)) (between _ _ _ (same-grown old.out) (same-grown old.out)));
      dump = subst D (ap (λ (t : TasksNow). t.dump) whole) told;
      named = some-each _ _ (λ n told_. dumped-name now words old n (before ∙ sym now_ ∙ told_));
      unnamed = named-none _ _ _ now_;
    }

-- the header leaves the program
pub begun-holds : (words : ℕ → List (List Bit)) (old middle : TasksNow) (plane : List (List Bit)) → middle ≡ begun middle.state.last old → HoldsValues old.design.entries words plane → HoldsValues middle.design.entries words plane
begun-holds words old middle plane is h =
    let P : TasksNow → Type 0 = λ t. HoldsValues t.design.entries words plane in
    subst P (sym is) h

pub begun-widths : (old middle : TasksNow) (plane : List (List Bit)) → middle ≡ begun middle.state.last old → HasWidths old.design.entries plane → HasWidths middle.design.entries plane
begun-widths old middle plane is h =
    let P : TasksNow → Type 0 = λ t. HasWidths t.design.entries plane in
    subst P (sym is) h

-- two facts of one error
pub on_err_both : {P Q R : Type 0} {T E : Type 0} (r : Result T E) → OnErr r P → OnErr r Q → (P → Q → R) → OnErr r R
on_err_both (Ok x) p q f = tt
on_err_both (Err e) p q f = f p q
