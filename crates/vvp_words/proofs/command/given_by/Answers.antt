use Rattle.std.proofs.Common.{refl, ◌∙◌, Some, None}
use Rattle.clap.specs.Words.{found_of}
use Rattle.vvp_words.proofs.GivenLemmas.{given_is, same_stats}
use Rattle.vvp_words.proofs.command.given_by.Goals as goal

pub returns-in-None : goal.returns-in-None
returns-in-None c = given_is (found_of c.args.matches.now) None _ _ _ _ c.in-None.ensures refl refl refl refl

pub returns-in-Some : goal.returns-in-Some
returns-in-Some c =
    same_stats c.in-Some.operand.now _ _ _ c.is_true.result _ c.is_true.ensures
    ∙ given_is (found_of c.args.matches.now) (Some c.in-Some.operand.now) _ _ _ _ c.in-Some.ensures c.get_str-in-Some.ensures c.get_str-in-Some-2.ensures c.get_str-in-Some-3.ensures c.get_str-in-Some-4.ensures
