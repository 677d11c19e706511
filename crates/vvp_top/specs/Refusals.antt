-- Answers in the place of a program.
use Rattle.std.specs.Prelude.{◌≡◌, ◌⊎◌, Result, Err}
use Rattle.sym_link.specs.declared.program.Program.{Program}
use Rattle.sym_link.specs.Verdict as verdict
use Rattle.vvp_top.specs.declared.outcome.Outcome.{Outcome}
use Rattle.vvp_top.specs.declared.outcome.Outcome.TheVariants.{Memory}
use Rattle.vvp_top.specs.Whole.{refused}

-- want of memory, or the refusal that the verdict gives
abbrev pub IsRefusal : Outcome → Result Program verdict.Why → Type 0
IsRefusal outcome v = (outcome ≡ Memory) ⊎ ((why : verdict.Why) × (v ≡ Err why) × (outcome ≡ refused why))
