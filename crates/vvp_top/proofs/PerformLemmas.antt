-- A call by what its words, its source and its run say.
use Rattle.std.proofs.Common.{◌≡◌, ℕ, ◌≤◌, Bool, true, false, List, Option, Some, None, refl, sym, ap, subst, ◌∙◌, arith}
use Rattle.std.specs.Prelude.{IfSome}
use Rattle.vvp_edge.specs.Causes.{Rose}
use Rattle.vvp_edge.specs.Files.{Files}
use Rattle.vvp_words.specs.Entries.{Entries, entries}
use Rattle.vvp_top.specs.declared.outcome.Outcome.{Outcome}
use Rattle.vvp_top.specs.declared.outcome.Outcome.TheVariants.{BadWords, Memory, OutputFault, StoreFault}
use Rattle.vvp_top.specs.declared.report.Report.{Report}
use Rattle.vvp_top.specs.Texts.{is_ended, yields}
use Rattle.vvp_top.specs.Whole.{Whole, silent, source_of, whole, whole_of_found, whole_of_source}
use Rattle.vvp_top.proofs.MainLemmas.{Cut, Did}
use Rattle.vvp_top.proofs.TopLemmas.{does-nothing, ended-stays, if-told, whole-said}

-- ---- reports without counts

pub bare-outcome : (report : Report) (outcome : Outcome) → report ≡ record { outcome = outcome; counts = None } → report.outcome ≡ outcome
bare-outcome report outcome is = ap (λ (r : Report). r.outcome) is

pub bare-counts : (report : Report) (outcome : Outcome) → report ≡ record { outcome = outcome; counts = None } → report.counts ≡ None
bare-counts report outcome is = ap (λ (r : Report). r.counts) is

pub bare-yields : (report : Report) (outcome : Outcome) (choice : Bool) → report ≡ record { outcome = outcome; counts = None } → yields report.outcome ≡ choice → yields outcome ≡ choice
bare-yields report outcome choice is so = sym (ap (λ (r : Report). yields r.outcome) is) ∙ so

pub bare-isnt : (report : Report) (outcome other : Outcome) → report ≡ record { outcome = outcome; counts = None } → (outcome ≡ other → ⊥) → report.outcome ≡ other → ⊥
bare-isnt report outcome other is isnt same = isnt (sym (bare-outcome report outcome is) ∙ same)

pub not-yields : (outcome : Outcome) → yields outcome ≡ false → yields outcome ≡ true → ⊥
not-yields outcome mild so = let never : ⊥ = let same : false ≡ true = sym mild ∙ so in cc in never

pub words-not-store : BadWords ≡ StoreFault → ⊥
words-not-store is = let never : ⊥ = cc in never

pub words-not-output : BadWords ≡ OutputFault → ⊥
words-not-output is = let never : ⊥ = cc in never

pub memory-not-words : Memory ≡ BadWords → ⊥
memory-not-words is = let never : ⊥ = cc in never

pub memory-not-store : Memory ≡ StoreFault → ⊥
memory-not-store is = let never : ⊥ = cc in never

pub memory-not-output : Memory ≡ OutputFault → ⊥
memory-not-output is = let never : ⊥ = cc in never

-- words that say something aren't refused
pub not-refused : (words : List (List ℕ)) (e : Entries) → entries words ≡ Some e → entries words ≡ None → ⊥
not-refused words e some none = let never : ⊥ = let same : ◌≡◌ {A = Option Entries} (Some e) None = sym some ∙ none in cc in never

-- what has ended is not this
pub ended-isnt : (outcome other : Outcome) → is_ended outcome ≡ true → is_ended other ≡ false → outcome ≡ other → ⊥
ended-isnt outcome other ended isnt same = let never : ⊥ = let is : true ≡ false = sym ended ∙ ap is_ended same ∙ isnt in cc in never

pub ended-yields : (outcome : Outcome) → is_ended outcome ≡ true → yields outcome ≡ true → ⊥
ended-yields outcome ended so = not-yields outcome (ended-stays outcome ended) so

pub ended-not : (outcome : Outcome) → is_ended outcome ≡ true → is_ended outcome ≡ false → ⊥
ended-not outcome ended isnt = let never : ⊥ = let is : true ≡ false = sym ended ∙ isnt in cc in never

pub rose-later : (before mid now : ℕ) → before ≤ mid → Rose mid now → Rose before now
rose-later before mid now later rose = omega (arith, later, rose)

-- ---- the run of a source

source-said : (words : List (List ℕ)) (e : Entries) (m : Files) (source bytes : List ℕ) → entries words ≡ Some e → source ≡ bytes → (source_of e.work m ≡ Some bytes)
    → whole words m ≡ whole_of_source e source
source-said words e m source bytes some read is = whole-said words e m some ∙ ap (whole_of_found e) is ∙ ap (whole_of_source e) (sym read)

pub run-did : (words : List (List ℕ)) (e : Entries) (source bytes : List ℕ) (report : Report) (held held' : Option (List ℕ)) (files mid files' : Option Files) → entries words ≡ Some e → source ≡ bytes
    → IfSome files (λ m. source_of e.work m ≡ Some bytes) → mid ≡ files → Did report held held' mid files' (whole_of_source e source)
    → IfSome files (λ m. Did report held held' files files' (whole words m))
run-did words e source bytes report held held' files mid files' some read is same did =
    if-told files (λ m. source_of e.work m ≡ Some bytes) (λ m. Did report held held' files files' (whole words m))
    (λ m here. subst (λ (w : Whole). Did report held held' files files' w) (sym (source-said words e m source bytes some read here))
    (subst (λ (f : Option Files). Did report held held' f files' (whole_of_source e source)) same did)) is

pub run-cut : (words : List (List ℕ)) (e : Entries) (source bytes : List ℕ) (held held' : Option (List ℕ)) (files mid files' : Option Files) → entries words ≡ Some e → source ≡ bytes
    → IfSome files (λ m. source_of e.work m ≡ Some bytes) → mid ≡ files → Cut held held' mid files' (whole_of_source e source)
    → IfSome files (λ m. Cut held held' files files' (whole words m))
run-cut words e source bytes held held' files mid files' some read is same cut =
    if-told files (λ m. source_of e.work m ≡ Some bytes) (λ m. Cut held held' files files' (whole words m))
    (λ m here. subst (λ (w : Whole). Cut held held' files files' w) (sym (source-said words e m source bytes some read here))
    (subst (λ (f : Option Files). Cut held held' f files' (whole_of_source e source)) same cut)) is

pub run-refused : (words : List (List ℕ)) (e : Entries) (source bytes : List ℕ) (outcome : Outcome) (report : Report) (held held' : Option (List ℕ)) (files mid files' : Option Files) → entries words ≡ Some e → source ≡ bytes
    → IfSome files (λ m. source_of e.work m ≡ Some bytes) → mid ≡ files → (whole_of_source e source ≡ silent outcome) × (held' ≡ held) × (files' ≡ mid)
    → report ≡ record { outcome = outcome; counts = None } → IfSome files (λ m. Did report held held' files files' (whole words m))
run-refused words e source bytes outcome report held held' files mid files' some read is same refused says =
    if-told files (λ m. source_of e.work m ≡ Some bytes) (λ m. Did report held held' files files' (whole words m))
    (λ m here. does-nothing (whole words m) outcome report held held' files files' (source-said words e m source bytes some read here ∙ refused.0) says refused.1 (refused.2 ∙ same)) is

-- ---- no source

pub source-refused : (words : List (List ℕ)) (e : Entries) (outcome : Outcome) (report : Report) (held : Option (List ℕ)) (files files' : Option Files) → entries words ≡ Some e
    → IfSome files (λ m. (d : Entries) → whole_of_found d (source_of e.work m) ≡ silent outcome) → files' ≡ files → report ≡ record { outcome = outcome; counts = None }
    → IfSome files (λ m. Did report held held files files' (whole words m))
source-refused words e outcome report held files files' some is same says =
    if-told files (λ m. (d : Entries) → whole_of_found d (source_of e.work m) ≡ silent outcome) (λ m. Did report held held files files' (whole words m))
    (λ m here. does-nothing (whole words m) outcome report held held files files' (whole-said words e m some ∙ here e) says refl same) is
