-- The dump's file: made, and then added to.
use Rattle.std.proofs.Common.{◌≡◌, ℕ, Bool, true, false, List, [], ◌++◌, Option, Some, None, inr, sym, ap, subst, ◌∙◌, append-nil}
use Rattle.std.specs.Prelude.{IsSome, option_map}
use Rattle.std.specs.FinMap.{insert}
use Rattle.sys_tasks.specs.Phase.{dump_name}
use Rattle.sim_core.specs.Engine.{Shown}
use Rattle.vvp_edge.specs.Bytes.{IsPrefix, TellsAtMost}
use Rattle.vvp_edge.specs.Files.{Files, appended}
use Rattle.vvp_edge.proofs.Made.{made_more}
use Rattle.vvp_top.specs.Whole.{dump_by}
use Rattle.vvp_top.specs.Ends.{CutFiles}
use Rattle.vvp_top.specs.Delivery.{DumpStands, IsMade, after_dump, dump_taken, given_by, without_dump}
use Rattle.vvp_top.proofs.DeliveryLemmas.{prefix-after, stands-cut}

-- ---- making it

-- it is made already
pub make-none : (made : Bool) (name front : List ℕ) (before now : Option Files) (target : Option (List ℕ)) → made ≡ true → DumpStands made (Some name) front before now target → IsMade name front before now target
make-none made name front before now target is stands = subst (λ (b : Bool). DumpStands b (Some name) front before now target) is stands

-- it is made now
pub make-new : (made : Bool) (name front : List ℕ) (before now new : Option Files) (target target' : Option (List ℕ)) → made ≡ false → TellsAtMost new (option_map (λ m. insert m name []) now) → TellsAtMost target' (Some name)
    → DumpStands made (Some name) front before now target → IsMade name front before new target'
make-new made name front before now new target target' isnt created named stands =
    let still = subst (λ (b : Bool). DumpStands b (Some name) front before now target) isnt stands in
    record {
      holds = subst (λ (bytes : List ℕ). TellsAtMost new (option_map (λ m. insert m name bytes) before)) (sym still.1)
          (subst (λ (f : Option Files). TellsAtMost new (option_map (λ m. insert m name []) f)) still.0 created);
      written = named;
    }

-- it can't be made
pub make-failed : (made : Bool) (name front bytes : List ℕ) (before now new : Option Files) (target : Option (List ℕ)) → new ≡ now → DumpStands made (Some name) front before now target
    → CutFiles (dump_by (Some name) (front ++ bytes)) before new
make-failed made name front bytes before now new target same stands =
    subst (λ (f : Option Files). CutFiles (dump_by (Some name) (front ++ bytes)) before f) (sym same) (stands-cut made (Some name) front bytes before now target stands)

-- ---- no dump

pub none-shown : (shown : Shown) → None ≡ dump_name shown.machine.tasks.state → shown ≡ after_dump shown
none-shown shown none = ap (λ (n : Option (List ℕ)). dump_taken n shown) none

pub none-made : (name : Option (List ℕ)) (made : Bool) → None ≡ name → IsSome name → made ≡ true
none-made name made none some = absurd (let never : ⊥ = let is : IsSome {T = List ℕ} None = subst (λ (n : Option (List ℕ)). IsSome n) (sym none) some in cc in never)

pub none-stands : (made : Bool) (name : Option (List ℕ)) (front bytes : List ℕ) (before now : Option Files) (target : Option (List ℕ)) → None ≡ name → DumpStands made name front before now target
    → DumpStands made name (front ++ given_by name bytes) before now target
none-stands made name front bytes before now target none stands =
    let same : front ≡ front ++ given_by name bytes = sym (append-nil front) ∙ ap (λ (n : Option (List ℕ)). front ++ given_by n bytes) none in
    subst (λ (f : List ℕ). DumpStands made name f before now target) same stands

-- ---- a dump

pub some-shown : (shown : Shown) (name : List ℕ) → Some name ≡ dump_name shown.machine.tasks.state → without_dump shown ≡ after_dump shown
some-shown shown name some = ap (λ (n : Option (List ℕ)). dump_taken n shown) some

-- its bytes are added
pub some-stands : (made made' : Bool) (named : Option (List ℕ)) (name front bytes : List ℕ) (before now mid new : Option Files) (target target' target'' : Option (List ℕ)) → Some name ≡ named → made' ≡ true
    → (DumpStands made (Some name) front before now target → IsMade name front before mid target') → new ≡ appended mid target' bytes → target'' ≡ target' → DumpStands made named front before now target
    → DumpStands made' named (front ++ given_by named bytes) before new target''
some-stands made made' named name front bytes before now mid new target target' target'' some is make grew same stands =
    let there : IsMade name front before mid target' = make (subst (λ (n : Option (List ℕ)). DumpStands made n front before now target) (sym some) stands) in
    let grown : IsMade name (front ++ bytes) before new target'' = record {
      holds = made_more name front bytes before mid new target' there.holds there.written grew;
      written = subst (λ (t : Option (List ℕ)). TellsAtMost t (Some name)) (sym same) there.written;
    } in
    subst (λ (b : Bool). DumpStands b named (front ++ given_by named bytes) before new target'') (sym is)
    (subst (λ (n : Option (List ℕ)). DumpStands true n (front ++ given_by n bytes) before new target'') some grown)

-- a front of its bytes is added
pub some-cut : (made : Bool) (named : Option (List ℕ)) (name front bytes : List ℕ) (before now mid new : Option Files) (target target' : Option (List ℕ)) → Some name ≡ named
    → (DumpStands made (Some name) front before now target → IsMade name front before mid target') → ((part : List ℕ) × IsPrefix part bytes × (new ≡ appended mid target' part)) → DumpStands made named front before now target
    → CutFiles (dump_by named (front ++ bytes)) before new
some-cut made named name front bytes before now mid new target target' some make (part, is, grew) stands =
    let there : IsMade name front before mid target' = make (subst (λ (n : Option (List ℕ)). DumpStands made n front before now target) (sym some) stands) in
    let cut : CutFiles (dump_by (Some name) (front ++ bytes)) before new = inr (front ++ part, prefix-after front part bytes is, made_more name front part before mid new target' there.holds there.written grew) in
    subst (λ (n : Option (List ℕ)). CutFiles (dump_by n (front ++ bytes)) before new) some cut

-- its file can't be made
pub some-failed : (made : Bool) (named : Option (List ℕ)) (name front bytes : List ℕ) (before now new : Option Files) (target : Option (List ℕ)) → Some name ≡ named
    → (DumpStands made (Some name) front before now target → CutFiles (dump_by (Some name) (front ++ bytes)) before new) → DumpStands made named front before now target
    → CutFiles (dump_by named (front ++ bytes)) before new
some-failed made named name front bytes before now new target some fails stands =
    subst (λ (n : Option (List ℕ)). CutFiles (dump_by n (front ++ bytes)) before new) some (fails (subst (λ (n : Option (List ℕ)). DumpStands made n front before now target) (sym some) stands))
