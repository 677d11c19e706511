use Rattle.std.proofs.Common.{◌≡◌, ℕ, Bool, true, false, List, drop, Result, Ok, Err, refl, sym, ap, ◌∙◌, subst, if◌then◌else◌}
use Rattle.std.specs.Prelude.{IfOk, IfErr}
use Rattle.std.specs.List.{Contains, All, slice_get}
use Rattle.std.proofs.lemmas.List.Elements.{All-drop}
use Rattle.vvp_lex.specs.declared.types.Name.{Name}
use Rattle.vvp_lex.specs.declared.types.Spanned.{Spanned}
use Rattle.vvp_lex.specs.declared.types.Stmt.{Stmt}
use Rattle.vvp_lex.specs.declared.types.FormFault.{FormFault}
use Rattle.vvp_lex.specs.declared.types.FormFault.TheVariants as fault
use Rattle.vvp_lex.specs.Statement.{statements_of, tokens_of}
use Rattle.vvp_ops.specs.declared.op.Op.{Op}
use Rattle.vvp_lex.specs.Place.{IsTextOf}
use Rattle.vvp_ops.specs.Grammar.{read_tokens}
use Rattle.vvp_ops.specs.Statement.{has_label, after_label, body_of, Answers}
use Rattle.vvp_ops.specs.Spells.{SpellsOnly, SpellsNone}
use Rattle.vvp_lex.proofs.BasedLemmas.{IsBasedOf, All-based}
use Rattle.vvp_lex.proofs.TextAtLemmas.{All-tokens_of}
use Rattle.vvp_ops.proofs.SpellsLemmas.{read-spelled, spelled-read}

-- what was read is spelled, and nothing else is
pub only_of_answer : (file : List ℕ) (tokens : List Spanned) (line : ℕ) (result : Result (Op Name) FormFault) → All (IsBasedOf file) tokens → Answers result line (read_tokens file tokens) → IfOk result (SpellsOnly file tokens)
only_of_answer file tokens line (Ok opcode) based h =
    (spelled-read file tokens opcode based h, λ other s. let read = read-spelled file tokens other s in cc)
only_of_answer file tokens line (Err fault) based h = tt

-- what is refused spells nothing
pub none_of_answer : (file : List ℕ) (tokens : List Spanned) (line : ℕ) (result : Result (Op Name) FormFault) → Answers result line (read_tokens file tokens) → IfErr result (SpellsNone file tokens)
none_of_answer file tokens line (Ok opcode) h = tt
none_of_answer file tokens line (Err (fault.Refused at kind)) h =
    λ opcode s. let read = read-spelled file tokens opcode s in cc
none_of_answer file tokens line (Err fault.Memory) h = tt

-- what holds of all tokens holds of those after the label
pub All-after_label : (P : Spanned → Type 0) (file : List ℕ) (column_one : Bool) (tokens : List Spanned) → All P tokens → All P (after_label file column_one tokens)
All-after_label P file column_one tokens h = by (has_label file column_one (slice_get tokens 0))
  where
    by : (label : Bool) → All P (if label then drop 1 tokens else tokens)
    by true = All-drop P 1 tokens h
    by false = h

-- the tokens after a statement's label
pub body_of-is : (file : List ℕ) (statement : Stmt) → body_of file statement ≡ after_label file statement.column_one (tokens_of file statement)
unfolding body_of
body_of-is file statement = refl

-- the texts among the tokens after a statement's label are texts of the file
pub All-body : (file : List ℕ) (statement : Stmt) (found body : List Spanned) → Contains (statements_of file) statement → found ≡ tokens_of file statement → body ≡ after_label file statement.column_one found → All (IsTextOf file) body
All-body file statement found body given found_is body_is =
    let texts = All-after_label (IsTextOf file) file statement.column_one (tokens_of file statement) (All-tokens_of file statement given) in
    let same : body ≡ after_label file statement.column_one (tokens_of file statement) = body_is ∙ ap (after_label file statement.column_one) found_is in
    subst (All (IsTextOf file)) (sym same) texts

-- the bytes of a Based among them are one
pub All-body_based : (file : List ℕ) (statement : Stmt) → Contains (statements_of file) statement → All (IsBasedOf file) (body_of file statement)
All-body_based file statement given =
    let based = All-after_label (IsBasedOf file) file statement.column_one (tokens_of file statement) (All-based file statement given) in
    subst (All (IsBasedOf file)) (sym (body_of-is file statement)) based

-- the answer on those tokens is the answer on the statement
pub answer_of-body : (file : List ℕ) (statement : Stmt) (found body : List Spanned) (result : Result (Op Name) FormFault) → found ≡ tokens_of file statement → body ≡ after_label file statement.column_one found → Answers result statement.line (read_tokens file body) → Answers result statement.line (read_tokens file (body_of file statement))
answer_of-body file statement found body result found_is body_is answer =
    let same : body ≡ body_of file statement = body_is ∙ ap (after_label file statement.column_one) found_is ∙ sym (body_of-is file statement) in
    subst (λ tokens. Answers result statement.line (read_tokens file tokens)) same answer
