-- A file that is made and then grows, for callers.
use Rattle.std.proofs.Common.{◌≡◌, ℕ, List, ◌++◌, sym, ap, subst, ◌∙◌}
use Rattle.std.specs.Prelude.{Result, Ok, Err, OnOk, OnErr}
use Rattle.std.specs.FinMap.{insert}
use Rattle.std.specs.Option.{option_map}
use Rattle.std.specs.declared.option.Option.{Option}
use Rattle.std.specs.declared.option.Option.TheVariants.{Some, None}
use Rattle.vvp_edge.specs.Bytes.{IsPrefix, TellsAtMost}
use Rattle.vvp_edge.specs.Files.{Files, with_appended, appended}
use Rattle.vvp_edge.proofs.FilesLemmas.{with_appended-insert}

-- the files with this front of a file, where they are told
abbrev pub Holds : List ℕ → List ℕ → Option Files → Option Files → Type 0
Holds name front before now = TellsAtMost now (option_map (λ m. insert m name front) before)

by_target : (name front piece : List ℕ) (m0 m1 : Files) (t : List ℕ) → Some (insert m0 name front) ≡ Some m1 → Some name ≡ Some t
    → Some (insert m0 name (front ++ piece)) ≡ Some (with_appended m1 t piece)
by_target name front piece m0 m1 t held same =
    let is : insert m0 name front ≡ m1 = cc in
    let names : name ≡ t = cc in
    ap Some (sym (with_appended-insert m0 name front piece)
    ∙ ap (λ (m : Files). with_appended m name piece) is
    ∙ ap (λ (n : List ℕ). with_appended m1 n piece) names)

grown : (name front piece : List ℕ) (files0 files1 : Option Files) (target : Option (List ℕ))
    → Holds name front files0 files1 → TellsAtMost target (Some name) → Holds name (front ++ piece) files0 (appended files1 target piece)
grown name front piece files0 None target held same = tt
grown name front piece files0 (Some m1) None held same = tt
grown name front piece None (Some m1) (Some t) held same = cc
grown name front piece (Some m0) (Some m1) (Some t) held same = by_target name front piece m0 m1 t held same

-- one more piece was added to it
pub made_more : (name front piece : List ℕ) (files0 files1 files2 : Option Files) (target : Option (List ℕ))
    → Holds name front files0 files1 → TellsAtMost target (Some name) → files2 ≡ appended files1 target piece → Holds name (front ++ piece) files0 files2
made_more name front piece files0 files1 files2 target held same grew =
    subst (Holds name (front ++ piece) files0) (sym grew) (grown name front piece files0 files1 target held same)

-- the same at the answer of the call that adds
pub made_all : {T E : Type 0} (result : Result T E) (name front bytes : List ℕ) (files0 files1 files2 : Option Files) (target : Option (List ℕ))
    → Holds name front files0 files1 → TellsAtMost target (Some name)
    → OnOk result (files2 ≡ appended files1 target bytes) → OnOk result (Holds name (front ++ bytes) files0 files2)
made_all (Ok x) name front bytes files0 files1 files2 target held same grew = made_more name front bytes files0 files1 files2 target held same grew
made_all (Err e) name front bytes files0 files1 files2 target held same grew = tt

pub made_some : {T E : Type 0} (result : Result T E) (name front bytes : List ℕ) (files0 files1 files2 : Option Files) (target : Option (List ℕ))
    → Holds name front files0 files1 → TellsAtMost target (Some name)
    → OnErr result ((sent : List ℕ) × IsPrefix sent bytes × (files2 ≡ appended files1 target sent))
    → OnErr result ((sent : List ℕ) × IsPrefix sent bytes × Holds name (front ++ sent) files0 files2)
made_some (Ok x) name front bytes files0 files1 files2 target held same cut = tt
made_some (Err e) name front bytes files0 files1 files2 target held same cut = (cut.0, cut.1, made_more name front cut.0 files0 files1 files2 target held same cut.2)
