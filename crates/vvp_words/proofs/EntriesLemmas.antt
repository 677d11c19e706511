-- From the texts that the words give to what they say.
use Rattle.std.proofs.Common.{◌≡◌, ℕ, Bool, true, false, List, codes, Option, Some, None, cond, refl, sym, ap, ◌∙◌}
use Rattle.std.specs.Prelude.{option_map, option_and_then}
use Rattle.std.specs.Str.{bytes_eq}
use Rattle.vvp_words.specs.Command.{Given, given}
use Rattle.vvp_words.specs.Decimal.{decimal_of}
use Rattle.vvp_words.specs.Entries.{Entries, Work, File, Workload, Toggles, Activity, entries, entries_of, number_or, takes, work_given, work_of}

abbrev pub work_as : Work → Option Work
work_as work = Some work

abbrev pub no_work : Option Work
no_work = None

abbrev pub entries_as : Work → ℕ → ℕ → Bool → Option Entries
entries_as work budget order stats = Some (record { work = work; budget = budget; order = order; stats = stats })

abbrev pub no_entries : Option Entries
no_entries = None

-- ---- the work

pub work-none : (operand : List ℕ) → work_as (File operand) ≡ work_of None operand
unfolding work_of
work-none operand = refl

abbrev numbered : List ℕ → Option Work
numbered operand = option_map Workload (decimal_of 4 1 2000 operand)

-- by which of the modes that report it is
abbrev reports : Bool → Bool → List ℕ → Option Work
reports toggles activity operand = cond toggles (work_as (Toggles operand)) (cond activity (work_as (Activity operand)) no_work)

abbrev reports_in : List ℕ → List ℕ → Option Work
reports_in mode operand = reports (bytes_eq mode (codes "toggles")) (bytes_eq mode (codes "activity")) operand

-- by which of the modes it is
abbrev chosen : Bool → Bool → List ℕ → List ℕ → Option Work
chosen run load mode operand = cond run (work_as (File operand)) (cond load (numbered operand) (reports_in mode operand))

work-chosen : (mode operand : List ℕ) → chosen (bytes_eq mode (codes "run")) (bytes_eq mode (codes "workload")) mode operand ≡ work_of (Some mode) operand
unfolding work_of
work-chosen mode operand = refl

pub work-run : (mode operand : List ℕ) → bytes_eq mode (codes "run") ≡ true → work_as (File operand) ≡ work_of (Some mode) operand
work-run mode operand run = ap (λ b. chosen b (bytes_eq mode (codes "workload")) mode operand) (sym run) ∙ work-chosen mode operand

pub work-load : (mode operand : List ℕ) → bytes_eq mode (codes "run") ≡ false → bytes_eq mode (codes "workload") ≡ true → numbered operand ≡ work_of (Some mode) operand
work-load mode operand run load =
    ap (λ b. chosen false b mode operand) (sym load) ∙ ap (λ b. chosen b (bytes_eq mode (codes "workload")) mode operand) (sym run) ∙ work-chosen mode operand

-- it is none of the others
work-other : (mode operand : List ℕ) → bytes_eq mode (codes "run") ≡ false → bytes_eq mode (codes "workload") ≡ false → reports_in mode operand ≡ work_of (Some mode) operand
work-other mode operand run load =
    ap (λ b. chosen false b mode operand) (sym load) ∙ ap (λ b. chosen b (bytes_eq mode (codes "workload")) mode operand) (sym run) ∙ work-chosen mode operand

work-reports : (mode operand : List ℕ) (toggles activity : Bool) → bytes_eq mode (codes "toggles") ≡ toggles → bytes_eq mode (codes "activity") ≡ activity → reports toggles activity operand ≡ reports_in mode operand
work-reports mode operand toggles activity first second =
    ap (λ b. reports b activity operand) (sym first) ∙ ap (λ b. reports (bytes_eq mode (codes "toggles")) b operand) (sym second)

pub work-toggles : (mode operand : List ℕ) → bytes_eq mode (codes "run") ≡ false → bytes_eq mode (codes "workload") ≡ false → bytes_eq mode (codes "toggles") ≡ true
    → work_as (Toggles operand) ≡ work_of (Some mode) operand
work-toggles mode operand run load toggles = work-reports mode operand true (bytes_eq mode (codes "activity")) toggles refl ∙ work-other mode operand run load

pub work-last : (mode operand : List ℕ) (activity : Bool) → bytes_eq mode (codes "run") ≡ false → bytes_eq mode (codes "workload") ≡ false → bytes_eq mode (codes "toggles") ≡ false
    → bytes_eq mode (codes "activity") ≡ activity → cond activity (work_as (Activity operand)) no_work ≡ work_of (Some mode) operand
work-last mode operand activity run load toggles is = work-reports mode operand false activity toggles is ∙ work-other mode operand run load

-- ---- the work, where it takes the options

abbrev taken : Given → Option Work → Option Work
taken g work = option_and_then (λ (w : Work). cond (takes g w) (work_as w) no_work) work

taken-given : (g : Given) → taken g (work_of g.mode g.operand) ≡ work_given g
unfolding work_given
taken-given g = refl

pub given-none : (g : Given) → no_work ≡ work_of g.mode g.operand → no_work ≡ work_given g
given-none g none = ap (taken g) none ∙ taken-given g

pub given-some : (g : Given) (work : Work) (choice : Bool) → work_as work ≡ work_of g.mode g.operand → takes g work ≡ choice → cond choice (work_as work) no_work ≡ work_given g
given-some g work choice some is = ap (λ b. cond b (work_as work) no_work) (sym is) ∙ ap (taken g) some ∙ taken-given g

-- ---- the numbers

pub number-none : (usual : ℕ) → (let some : Option ℕ = Some usual in some) ≡ number_or None usual
unfolding number_or
number-none usual = refl

pub number-some : (text : List ℕ) (usual : ℕ) → decimal_of 10 0 4294967295 text ≡ number_or (Some text) usual
unfolding number_or
number-some text usual = refl

-- ---- all of it

abbrev built : Bool → Option Work → Option ℕ → Option ℕ → Option Entries
built stats work budget order =
    option_and_then (λ (w : Work).
    option_and_then (λ (b : ℕ).
    option_map (λ (o : ℕ). record { work = w; budget = b; order = o; stats = stats })
    order)
    budget)
    work

entries-built : (g : Given) → built g.stats (work_given g) (number_or g.events 10000000) (number_or g.order 0) ≡ entries_of g
unfolding entries_of
entries-built g = refl

pub entries-some : (g : Given) (work : Work) (budget order : ℕ) → work_as work ≡ work_given g → Some budget ≡ number_or g.events 10000000
    → Some order ≡ number_or g.order 0 → entries_as work budget order g.stats ≡ entries_of g
entries-some g work budget order work_is budget_is order_is =
    ap (λ (o : Option ℕ). built g.stats (Some work) (Some budget) o) order_is
    ∙ ap (λ (b : Option ℕ). built g.stats (Some work) b (number_or g.order 0)) budget_is
    ∙ ap (λ (w : Option Work). built g.stats w (number_or g.events 10000000) (number_or g.order 0)) work_is
    ∙ entries-built g

pub entries-no_work : (g : Given) → no_work ≡ work_given g → no_entries ≡ entries_of g
entries-no_work g work_is =
    ap (λ (w : Option Work). built g.stats w (number_or g.events 10000000) (number_or g.order 0)) work_is ∙ entries-built g

pub entries-no_budget : (g : Given) (work : Work) → work_as work ≡ work_given g → None ≡ number_or g.events 10000000 → no_entries ≡ entries_of g
entries-no_budget g work work_is budget_is =
    ap (λ (b : Option ℕ). built g.stats (Some work) b (number_or g.order 0)) budget_is
    ∙ ap (λ (w : Option Work). built g.stats w (number_or g.events 10000000) (number_or g.order 0)) work_is
    ∙ entries-built g

pub entries-no_order : (g : Given) (work : Work) (budget : ℕ) → work_as work ≡ work_given g → Some budget ≡ number_or g.events 10000000
    → None ≡ number_or g.order 0 → no_entries ≡ entries_of g
entries-no_order g work budget work_is budget_is order_is =
    ap (λ (o : Option ℕ). built g.stats (Some work) (Some budget) o) order_is
    ∙ ap (λ (b : Option ℕ). built g.stats (Some work) b (number_or g.order 0)) budget_is
    ∙ ap (λ (w : Option Work). built g.stats w (number_or g.events 10000000) (number_or g.order 0)) work_is
    ∙ entries-built g

-- ---- from the words

pub said : (words : List (List ℕ)) (g : Given) → given words ≡ Some g → entries words ≡ entries_of g
unfolding entries
said words g is = ap (λ (x : Option Given). option_and_then entries_of x) is

pub nothing_said : (words : List (List ℕ)) → given words ≡ None → entries words ≡ None
unfolding entries
nothing_said words is = ap (λ (x : Option Given). option_and_then entries_of x) is
