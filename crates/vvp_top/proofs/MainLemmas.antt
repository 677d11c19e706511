-- What is said of a call and what its status stands for, by the report of what it did.
use Rattle.std.proofs.Common.{◌≡◌, ℕ, Bool, true, false, List, Option, Some, None, inl, inr, refl, sym, ap, subst, ◌∙◌, arith}
use Rattle.std.specs.Prelude.{◌⊎◌, IfSome, unwrap_or}
use Rattle.vvp_edge.specs.Files.{Files}
use Rattle.vvp_top.specs.declared.outcome.Outcome.{Outcome}
use Rattle.vvp_top.specs.declared.outcome.Outcome.TheVariants.{Finish, Stop, Idle, Reported, BadWords, Refused, Spent, Trap, StoreFault, OutputFault, Memory, NoFile}
use Rattle.vvp_top.specs.declared.report.Report.{Report}
use Rattle.vvp_top.specs.Texts.{is_ended, lines_of, may_come_anytime, message_at, own_message, status_of, yields}
use Rattle.vvp_top.specs.Whole.{Whole, whole}
use Rattle.vvp_top.specs.Ends.{CutFiles, CutShort, HandedOver, LeavesFiles, Says}
use Rattle.vvp_top.proofs.TopLemmas.{if-told, lines-bare, own-is, yields-status}

-- ---- statuses

pub only-bad_words : (outcome : Outcome) (status : ℕ) → status ≡ status_of outcome → status ≡ 1 → outcome ≡ BadWords
only-bad_words Finish status is one = absurd (let never : ⊥ = omega (arith, is, one) in never)
only-bad_words Stop status is one = absurd (let never : ⊥ = omega (arith, is, one) in never)
only-bad_words Idle status is one = absurd (let never : ⊥ = omega (arith, is, one) in never)
only-bad_words Reported status is one = absurd (let never : ⊥ = omega (arith, is, one) in never)
only-bad_words BadWords status is one = refl
only-bad_words (Refused line why) status is one = absurd (let never : ⊥ = omega (arith, is, one) in never)
only-bad_words Spent status is one = absurd (let never : ⊥ = omega (arith, is, one) in never)
only-bad_words (Trap kind address) status is one = absurd (let never : ⊥ = omega (arith, is, one) in never)
only-bad_words StoreFault status is one = absurd (let never : ⊥ = omega (arith, is, one) in never)
only-bad_words OutputFault status is one = absurd (let never : ⊥ = omega (arith, is, one) in never)
only-bad_words Memory status is one = absurd (let never : ⊥ = omega (arith, is, one) in never)
only-bad_words NoFile status is one = absurd (let never : ⊥ = omega (arith, is, one) in never)

pub only-store : (outcome : Outcome) (status : ℕ) → status ≡ status_of outcome → status ≡ 5 → outcome ≡ StoreFault
only-store Finish status is five = absurd (let never : ⊥ = omega (arith, is, five) in never)
only-store Stop status is five = absurd (let never : ⊥ = omega (arith, is, five) in never)
only-store Idle status is five = absurd (let never : ⊥ = omega (arith, is, five) in never)
only-store Reported status is five = absurd (let never : ⊥ = omega (arith, is, five) in never)
only-store BadWords status is five = absurd (let never : ⊥ = omega (arith, is, five) in never)
only-store (Refused line why) status is five = absurd (let never : ⊥ = omega (arith, is, five) in never)
only-store Spent status is five = absurd (let never : ⊥ = omega (arith, is, five) in never)
only-store (Trap kind address) status is five = absurd (let never : ⊥ = omega (arith, is, five) in never)
only-store StoreFault status is five = refl
only-store OutputFault status is five = absurd (let never : ⊥ = omega (arith, is, five) in never)
only-store Memory status is five = absurd (let never : ⊥ = omega (arith, is, five) in never)
only-store NoFile status is five = absurd (let never : ⊥ = omega (arith, is, five) in never)

pub only-output : (outcome : Outcome) (status : ℕ) → status ≡ status_of outcome → status ≡ 6 → outcome ≡ OutputFault
only-output Finish status is six = absurd (let never : ⊥ = omega (arith, is, six) in never)
only-output Stop status is six = absurd (let never : ⊥ = omega (arith, is, six) in never)
only-output Idle status is six = absurd (let never : ⊥ = omega (arith, is, six) in never)
only-output Reported status is six = absurd (let never : ⊥ = omega (arith, is, six) in never)
only-output BadWords status is six = absurd (let never : ⊥ = omega (arith, is, six) in never)
only-output (Refused line why) status is six = absurd (let never : ⊥ = omega (arith, is, six) in never)
only-output Spent status is six = absurd (let never : ⊥ = omega (arith, is, six) in never)
only-output (Trap kind address) status is six = absurd (let never : ⊥ = omega (arith, is, six) in never)
only-output StoreFault status is six = absurd (let never : ⊥ = omega (arith, is, six) in never)
only-output OutputFault status is six = refl
only-output Memory status is six = absurd (let never : ⊥ = omega (arith, is, six) in never)
only-output NoFile status is six = absurd (let never : ⊥ = omega (arith, is, six) in never)

pub refused-status : (outcome : Outcome) (status : ℕ) → status ≡ status_of outcome → (outcome ≡ BadWords) ⊎ (outcome ≡ Memory) → (status ≡ 1) ⊎ (status ≡ 7)
refused-status outcome status is (inl bad) = inl (is ∙ ap status_of bad)
refused-status outcome status is (inr wants) = inr (is ∙ ap status_of wants)

-- ---- what the call did

abbrev pub Did : Report → Option (List ℕ) → Option (List ℕ) → Option Files → Option Files → Whole → Type 0
Did report held held' files files' w = (report ≡ w.report) × HandedOver w.output held held' × LeavesFiles w.dump files files'

abbrev pub Ended : ℕ → Option (List ℕ) → Option (List ℕ) → Option Files → Option Files → Whole → Type 0
Ended status held held' files files' w = (status ≡ status_of w.report.outcome) × HandedOver w.output held held' × LeavesFiles w.dump files files'

abbrev pub Cut : Option (List ℕ) → Option (List ℕ) → Option Files → Option Files → Whole → Type 0
Cut held held' files files' w = CutShort w.output held held' × CutFiles w.dump files files'

did-ended : (report : Report) (status : ℕ) (held held' : Option (List ℕ)) (files files' : Option Files) (w : Whole) → status ≡ status_of report.outcome → Did report held held' files files' w → Ended status held held' files files' w
did-ended report status held held' files files' w is did = (is ∙ ap (λ (r : Report). status_of r.outcome) did.0, did.1, did.2)

yields-so : (outcome : Outcome) (status : ℕ) (choice : Bool) → status ≡ status_of outcome → may_come_anytime status ≡ choice → yields outcome ≡ choice
yields-so outcome status choice is so = sym (yields-status outcome) ∙ ap may_come_anytime (sym is) ∙ so

pub top-exact : (words : List (List ℕ)) (report : Report) (status : ℕ) (held held' : Option (List ℕ)) (files files' : Option Files) → status ≡ status_of report.outcome
    → (yields report.outcome ≡ false → IfSome files (λ m. Did report held held' files files' (whole words m))) → may_come_anytime status ≡ false
    → IfSome files (λ m. Ended status held held' files files' (whole words m))
top-exact words report status held held' files files' is does so =
    if-told files (λ m. Did report held held' files files' (whole words m)) (λ m. Ended status held held' files files' (whole words m))
    (λ m did. did-ended report status held held' files files' (whole words m) is did) (does (yields-so report.outcome status false is so))

pub top-prefix : (words : List (List ℕ)) (report : Report) (status : ℕ) (held held' : Option (List ℕ)) (files files' : Option Files) → status ≡ status_of report.outcome
    → (yields report.outcome ≡ true → IfSome files (λ m. Cut held held' files files' (whole words m))) → may_come_anytime status ≡ true
    → IfSome files (λ m. Cut held held' files files' (whole words m))
top-prefix words report status held held' files files' is cuts so = cuts (yields-so report.outcome status true is so)

-- ---- completeness

complete-by : (outcome : Outcome) (status : ℕ) (choice : Bool) → yields outcome ≡ choice → status ≡ status_of outcome → (outcome ≡ StoreFault → ⊥) → (outcome ≡ OutputFault → ⊥)
    → (status ≡ 7) ⊎ (yields outcome ≡ false)
complete-by Finish status choice so is store out = inr refl
complete-by Stop status choice so is store out = inr refl
complete-by Idle status choice so is store out = inr refl
complete-by Reported status choice so is store out = inr refl
complete-by BadWords status choice so is store out = inr refl
complete-by (Refused line why) status choice so is store out = inr refl
complete-by Spent status choice so is store out = inr refl
complete-by (Trap kind address) status choice so is store out = inr refl
complete-by StoreFault status choice so is store out = absurd (store refl)
complete-by OutputFault status choice so is store out = absurd (out refl)
complete-by Memory status choice so is store out = inl is
complete-by NoFile status choice so is store out = inr refl

complete-then : (words : List (List ℕ)) (report : Report) (status : ℕ) (held held' : Option (List ℕ)) (files files' : Option Files) → status ≡ status_of report.outcome
    → (yields report.outcome ≡ false → IfSome files (λ m. Did report held held' files files' (whole words m))) → (status ≡ 7) ⊎ (yields report.outcome ≡ false)
    → IfSome files (λ m. (status ≡ 7) ⊎ Ended status held held' files files' (whole words m))
complete-then words report status held held' None files' is does either = tt
complete-then words report status held held' (Some m) files' is does (inl wants) = inl wants
complete-then words report status held held' (Some m) files' is does (inr so) = inr (did-ended report status held held' (Some m) files' (whole words m) is (does so))

pub top-complete : (words : List (List ℕ)) (report : Report) (status : ℕ) (held held' : Option (List ℕ)) (files files' : Option Files) (Store Out : Type 0) → status ≡ status_of report.outcome
    → (yields report.outcome ≡ false → IfSome files (λ m. Did report held held' files files' (whole words m)))
    → (report.outcome ≡ StoreFault → Store) → (report.outcome ≡ OutputFault → Out) → (Store → ⊥) → (Out → ⊥)
    → IfSome files (λ m. (status ≡ 7) ⊎ Ended status held held' files files' (whole words m))
top-complete words report status held held' files files' Store Out is does store out no_store no_out =
    complete-then words report status held held' files files' is does
    (complete-by report.outcome status (yields report.outcome) refl is (λ fault. no_store (store fault)) (λ fault. no_out (out fault)))

-- ---- lines

own-by : (report : Report) (own : Option (List ℕ)) (held held' : Option (List ℕ)) (before now : ℕ) → own_message (status_of report.outcome) ≡ own → (is_ended report.outcome ≡ false → report.counts ≡ None)
    → Says (lines_of report) held held' before now → IfSome own (λ text. Says text held held' before now)
own-by report None held held' before now is bare says = tt
own-by report (Some text) held held' before now is bare says =
    let own = own-is report.outcome text is in
    subst (λ (t : List ℕ). Says t held held' before now) (lines-bare report (bare own.1) ∙ own.0) says

pub top-own : (report : Report) (status : ℕ) (held held' : Option (List ℕ)) (before now : ℕ) → status ≡ status_of report.outcome → (is_ended report.outcome ≡ false → report.counts ≡ None)
    → Says (lines_of report) held held' before now → IfSome (own_message status) (λ text. Says text held held' before now)
top-own report status held held' before now is bare says = own-by report (own_message status) held held' before now (ap own_message (sym is)) bare says

-- a status without a line of its own is neither of a fault nor of want of memory
not-own : (outcome : Outcome) → own_message (status_of outcome) ≡ None → yields outcome ≡ false
not-own Finish none = refl
not-own Stop none = refl
not-own Idle none = refl
not-own Reported none = refl
not-own BadWords none = refl
not-own (Refused line why) none = refl
not-own Spent none = refl
not-own (Trap kind address) none = refl
not-own StoreFault none = absurd (let never : ⊥ = cc in never)
not-own OutputFault none = absurd (let never : ⊥ = cc in never)
not-own Memory none = absurd (let never : ⊥ = cc in never)
not-own NoFile none = refl

line-by : (words : List (List ℕ)) (report : Report) (own : Option (List ℕ)) (held held' out out' : Option (List ℕ)) (files files' : Option Files) (before now : ℕ) → own_message (status_of report.outcome) ≡ own
    → (is_ended report.outcome ≡ false → report.counts ≡ None) → (yields report.outcome ≡ false → IfSome files (λ m. Did report out out' files files' (whole words m)))
    → Says (lines_of report) held held' before now → IfSome files (λ m. Says (unwrap_or own (lines_of (whole words m).report)) held held' before now)
line-by words report (Some text) held held' out out' None files' before now is bare does says = tt
line-by words report (Some text) held held' out out' (Some m) files' before now is bare does says = own-by report (Some text) held held' before now is bare says
line-by words report None held held' out out' files files' before now is bare does says =
    if-told files (λ m. Did report out out' files files' (whole words m)) (λ m. Says (lines_of (whole words m).report) held held' before now)
    (λ m did. subst (λ (r : Report). Says (lines_of r) held held' before now) did.0 says) (does (not-own report.outcome is))

pub top-line : (words : List (List ℕ)) (report : Report) (status : ℕ) (held held' out out' : Option (List ℕ)) (files files' : Option Files) (before now : ℕ) → status ≡ status_of report.outcome
    → (is_ended report.outcome ≡ false → report.counts ≡ None) → (yields report.outcome ≡ false → IfSome files (λ m. Did report out out' files files' (whole words m)))
    → Says (lines_of report) held held' before now → IfSome files (λ m. Says (message_at status (whole words m).report) held held' before now)
top-line words report status held held' out out' files files' before now is bare does says =
    line-by words report (own_message status) held held' out out' files files' before now (ap own_message (sym is)) bare does says
