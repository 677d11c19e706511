-- The program of an accepted file is a program.
use Rattle.std.proofs.Common.{◌≡◌, ℕ, List, None, Ok, refl, subst}
use Rattle.sym_link.specs.declared.placed.Placed.{Placed}
use Rattle.sym_link.specs.Currents.{AreNear}
use Rattle.sym_link.specs.LinkRules.{first_refusal}
use Rattle.sym_link.specs.Meaning.{precision_of, program_of}
use Rattle.sym_link.specs.Sound.{IsProgram}
use Rattle.sym_link.specs.Spelled.{statements_read}
use Rattle.sym_link.proofs.FormedLemmas.{units-near}
use Rattle.sym_link.proofs.SoundCode.{call-scopes, each-opcode, opcode-scopes, scope-each}
use Rattle.sym_link.proofs.SoundForms.{given}
use Rattle.sym_link.proofs.SoundItems.{Accepted, each-item}
use Rattle.sym_link.proofs.SoundNamed.{meant}
use Rattle.sym_link.proofs.SoundRules.{keeps}
use Rattle.sym_link.proofs.SoundScopes.{each-scope}
use Rattle.sym_link.proofs.SoundThreads.{each-thread, few-items, few-opcodes, few-scopes, few-threads, few-words, tick}

accepted : (file : List ℕ) (all : List Placed) → statements_read file ≡ Ok all → first_refusal file all ≡ None → Accepted file all
accepted file all read none = record {
  keep = λ place s there. keeps file all place s none there;
  given = λ place s there. given file all place s read there;
}

is-meant : (file : List ℕ) (all : List Placed) → Accepted file all → AreNear (precision_of all) all → IsProgram (meant file all)
is-meant file all a near = record {
  few_items = few-items file all a.keep;
  few_opcodes = few-opcodes file all a.keep;
  few_words = few-words file all a.keep;
  few_threads = few-threads file all a.keep;
  few_scopes = few-scopes file all;
  tick = tick all a.given;
  each_item = each-item file all a;
  each_opcode = each-opcode file all a;
  each_thread = each-thread file all a.keep;
  each_scope = each-scope file all a.keep near;
  scope_each = scope-each file all;
  opcode_scopes = opcode-scopes file all a.keep;
  call_scopes = call-scopes file all a.keep;
}

meant-is : (file : List ℕ) (all : List Placed) → meant file all ≡ program_of file all
unfolding program_of
meant-is file all = refl

-- the program of the statements of a file that break no rule
pub is-program : (file : List ℕ) (all : List Placed) → statements_read file ≡ Ok all → first_refusal file all ≡ None → IsProgram (program_of file all)
is-program file all read none =
    subst IsProgram (meant-is file all) (is-meant file all (accepted file all read none) (units-near file all read))
