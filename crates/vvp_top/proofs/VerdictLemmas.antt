-- The verdict case by case.
use Rattle.std.proofs.Common.{◌≡◌, ℕ, ◌^◌, ◌<◌, ◌≤◌, true, false, cond, List, length, nat_lt, Some, None, inr, refl, sym, ap, ◌∙◌, arith}
use Rattle.std.specs.Prelude.{Result, Ok, Err}
use Rattle.std.proofs.lemmas.Bool.Decides.{nat_tests}
use Rattle.vvp_edge.specs.declared.store.TheConstants.{MOST_SOURCE}
use Rattle.vvp_lex.specs.declared.types.FormKind.{FormKind}
use Rattle.vvp_lex.specs.declared.types.Stmt.{Stmt}
use Rattle.vvp_lex.specs.Statement.{Fault, lexical, statements_of}
use Rattle.sym_link.specs.declared.fault.LinkKind.{LinkKind}
use Rattle.sym_link.specs.declared.placed.Placed.{Placed}
use Rattle.sym_link.specs.declared.program.Program.{Program}
use Rattle.sym_link.specs.Meaning.{linked}
use Rattle.sym_link.specs.Spelled.{Refusal, read_all, statements_read}
use Rattle.sym_link.specs.Verdict.{Why, TooLarge, Unlexed, Unspelled, unlexed_or, unspelled_or, unlinked_or, verdict}
use Rattle.vvp_top.specs.declared.outcome.Outcome.{Outcome}
use Rattle.vvp_top.specs.Whole.{refused}
use Rattle.vvp_top.specs.Refusals.{IsRefusal}

pub most_source : MOST_SOURCE ≡ 2 ^ 26
most_source = refl

pub lt-test : (a b : ℕ) → a < b → nat_lt a b ≡ true
lt-test a b lt = grind (arith, nat_tests)

pub le-test : (a b : ℕ) → b ≤ a → nat_lt a b ≡ false
le-test a b le = grind (arith, nat_tests)

pub test-lt : (a b : ℕ) → nat_lt a b ≡ true → a < b
test-lt a b is = grind (arith, nat_tests)

pub verdict-large : (file : List ℕ) (most : ℕ) → most ≡ 2 ^ 26 → most < length file → verdict file ≡ Err TooLarge
unfolding verdict
verdict-large file most is large =
    ap (λ (n : ℕ). cond (nat_lt n (length file)) (let err : Result Program Why = Err TooLarge in err) (unlexed_or file (lexical file))) (sym is)
    ∙ ap (λ b. cond b (let err : Result Program Why = Err TooLarge in err) (unlexed_or file (lexical file))) (lt-test most (length file) large)

verdict-small : (file : List ℕ) (most : ℕ) → most ≡ 2 ^ 26 → length file ≤ most → verdict file ≡ unlexed_or file (lexical file)
unfolding verdict
verdict-small file most is small =
    ap (λ (n : ℕ). cond (nat_lt n (length file)) (let err : Result Program Why = Err TooLarge in err) (unlexed_or file (lexical file))) (sym is)
    ∙ ap (λ b. cond b (let err : Result Program Why = Err TooLarge in err) (unlexed_or file (lexical file))) (le-test most (length file) small)

pub verdict-lexical : (file : List ℕ) (most : ℕ) (first : Fault) → most ≡ 2 ^ 26 → length file ≤ most → lexical file ≡ Some first → verdict file ≡ Err (Unlexed (first.line, first.kind))
verdict-lexical file most first is small fault = verdict-small file most is small ∙ ap (unlexed_or file) fault

verdict-lexed : (file : List ℕ) (most : ℕ) → most ≡ 2 ^ 26 → length file ≤ most → lexical file ≡ None → verdict file ≡ unspelled_or file (statements_read file)
verdict-lexed file most is small none = verdict-small file most is small ∙ ap (unlexed_or file) none

-- what was read of the statements that were cut is what was read of the file
pub read-whole : (file : List ℕ) (statements : List Stmt) (read : Result (List Placed) (Refusal FormKind)) → statements ≡ statements_of file → read_all file statements ≡ read → statements_read file ≡ read
unfolding statements_read
read-whole file statements read are is = ap (read_all file) (sym are) ∙ is

pub verdict-form : (file : List ℕ) (most line : ℕ) (kind : FormKind) → most ≡ 2 ^ 26 → length file ≤ most → lexical file ≡ None → statements_read file ≡ Err (line, kind) → verdict file ≡ Err (Unspelled (line, kind))
verdict-form file most line kind is small none read = verdict-lexed file most is small none ∙ ap (unspelled_or file) read

pub verdict-linked : (file : List ℕ) (most : ℕ) (all : List Placed) (answer : Result Program (Refusal LinkKind)) → most ≡ 2 ^ 26 → length file ≤ most → lexical file ≡ None → statements_read file ≡ Ok all → linked file all ≡ answer
    → verdict file ≡ unlinked_or answer
verdict-linked file most all answer is small none read links = verdict-lexed file most is small none ∙ ap (unspelled_or file) read ∙ ap unlinked_or links

-- a refusal that the verdict gives
pub refused-so : (outcome : Outcome) (why : Why) (v : Result Program Why) → v ≡ Err why → outcome ≡ refused why → IsRefusal outcome v
refused-so outcome why v is so = inr (why, is, so)
