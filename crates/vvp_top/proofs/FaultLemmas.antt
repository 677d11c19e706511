-- What stops a run, as an outcome.
use Rattle.std.proofs.Common.{◌≡◌, true, false, refl, sym, ap, ◌∙◌}
use Rattle.vvp_top.specs.declared.fault.Fault.{Fault}
use Rattle.vvp_top.specs.declared.fault.Fault.TheVariants as fault
use Rattle.vvp_top.specs.declared.outcome.Outcome.{Outcome}
use Rattle.vvp_top.specs.declared.outcome.Outcome.TheVariants.{BadWords, Memory, OutputFault, StoreFault}
use Rattle.vvp_top.specs.Ends.{outcome_of}
use Rattle.vvp_top.specs.Texts.{yields}

fault-yields : (why : Fault) → yields (outcome_of why) ≡ true
fault-yields fault.Store = refl
fault-yields fault.Output = refl
fault-yields fault.Memory = refl

-- it is none of the other outcomes
pub fault-isnt_mild : (why : Fault) (outcome : Outcome) → outcome ≡ outcome_of why → yields outcome ≡ false → ⊥
fault-isnt_mild why outcome is mild = let never : ⊥ = let same : true ≡ false = sym (fault-yields why) ∙ sym (ap yields is) ∙ mild in cc in never

pub fault-isnt_words : (why : Fault) (outcome : Outcome) → outcome ≡ outcome_of why → outcome ≡ BadWords → ⊥
fault-isnt_words why outcome is bad = fault-isnt_mild why outcome is (ap yields bad)

pub fault-is_store : (why : Fault) (outcome : Outcome) → outcome ≡ outcome_of why → outcome ≡ StoreFault → why ≡ fault.Store
fault-is_store fault.Store outcome is same = refl
fault-is_store fault.Output outcome is same = absurd (let never : ⊥ = let two : StoreFault ≡ OutputFault = sym same ∙ is in cc in never)
fault-is_store fault.Memory outcome is same = absurd (let never : ⊥ = let two : StoreFault ≡ Memory = sym same ∙ is in cc in never)

pub fault-is_output : (why : Fault) (outcome : Outcome) → outcome ≡ outcome_of why → outcome ≡ OutputFault → why ≡ fault.Output
fault-is_output fault.Store outcome is same = absurd (let never : ⊥ = let two : OutputFault ≡ StoreFault = sym same ∙ is in cc in never)
fault-is_output fault.Output outcome is same = refl
fault-is_output fault.Memory outcome is same = absurd (let never : ⊥ = let two : OutputFault ≡ Memory = sym same ∙ is in cc in never)
