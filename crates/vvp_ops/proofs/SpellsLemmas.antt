use Rattle.std.proofs.Common.{◌≡◌, ℕ, ◌<◌, suc, zero, Bool, true, false, ◌&&◌, ◌||◌, not, List, [], ◌∷◌, length, get_or, Option, None, Some, Ok, refl, sym, ap, ◌∙◌, subst, inl, inr, if◌then◌else◌, arith}
use Rattle.std.specs.Option.{option_map}
use Rattle.std.specs.List.{Contains, All}
use Rattle.std.proofs.lemmas.Bool.{false≢true, not-true, and_parts}
use Rattle.std.proofs.lemmas.List.Elements.{All-tail}
use Rattle.std.proofs.lemmas.Slice.Eq.{bytes_eq-Decides}
use Rattle.vvp_lex.specs.declared.types.Name.{Name}
use Rattle.vvp_lex.specs.declared.types.Spanned.{Spanned}
use Rattle.vvp_ops.specs.declared.op.Op.{Op}
use Rattle.vvp_ops.specs.declared.operand.Operand.{Operand}
use Rattle.vvp_lex.specs.Place.{span_of, bytes_of}
use Rattle.vvp_ops.specs.declared.table.Kind.{Kind}
use Rattle.vvp_ops.specs.declared.table.Mnemonic.{Mnemonic}
use Rattle.vvp_lex.specs.Words.{looked_up}
use Rattle.vvp_ops.specs.Table.{Meaning, Row, rows, opcode_of}
use Rattle.vvp_ops.specs.Operands.{operands_of}
use Rattle.vvp_ops.specs.Calls.{is_task, is_function, task_of, function_of}
use Rattle.vvp_ops.specs.Grammar.{known, read_row, read_word, read_tokens}
use Rattle.vvp_lex.proofs.BasedLemmas.{IsBasedOf}
use Rattle.vvp_lex.proofs.TableLemmas.{are_distinct, looked_up-contains, looked_up-found}
use Rattle.vvp_ops.proofs.OperandSpells.{is_absent}
use Rattle.vvp_ops.proofs.RowSpells.{is_formed, operands-sound, operands-complete}
use Rattle.vvp_ops.proofs.PopsSpells.{task_word-complete, function_word-complete}
use Rattle.vvp_ops.proofs.CallSpells.{task-read, task-spelled, function-read, function-spelled}
use Rattle.vvp_ops.specs.Spells.{SpellsRow, SpellsTask, SpellsFunction, Spells}

-- no word stands twice in the table
pub rows-distinct : are_distinct rows ≡ true
unfolding rows
rows-distinct = refl

-- no row of a table is spelled as a call
abbrev pub are_apart : List Row → Bool
are_apart [] = true
are_apart (row ∷ more) = not (is_task row.0 || is_function row.0) && are_apart more

pub rows-apart : are_apart rows ≡ true
unfolding rows is_task is_function
rows-apart = refl

neither-left : (a b : Bool) → (a || b) ≡ false → a ≡ false
neither-left true b h = h
neither-left false b h = refl

neither-right : (a b : Bool) → (a || b) ≡ false → b ≡ false
neither-right true b h = absurd (false≢true (sym h))
neither-right false b h = h

apart-at : (table : List Row) (k : ℕ) (default : Row) → are_apart table ≡ true → k < length table → (is_task (get_or table k default).0 || is_function (get_or table k default).0) ≡ false
apart-at [] k default h lt = absurd (omega arith)
apart-at (row ∷ more) zero default h lt = not-true _ (and_parts _ _ h).0
apart-at (row ∷ more) (suc k) default h lt = apart-at more k default (and_parts _ _ h).1 (omega arith)

apart-contains : (row : Row) → Contains rows row → (is_task row.0 || is_function row.0) ≡ false
apart-contains row at =
    let P : Row → Type 0 = λ r. (is_task r.0 || is_function r.0) ≡ false in
    subst P at.2 (apart-at rows at.0 row rows-apart at.1)

-- no operand of these kinds stands after one that is absent
abbrev pub formed_kinds : Kind × Kind × Kind → Bool
formed_kinds kinds = is_formed (is_absent kinds.0) (is_absent kinds.1) (is_absent kinds.2)

-- in no row of a table an operand stands after one that is absent
abbrev pub formed_row : Row → Bool
formed_row (word, (kinds, mnemonic)) = formed_kinds kinds

abbrev pub are_formed : List Row → Bool
are_formed [] = true
are_formed (row ∷ more) = formed_row row && are_formed more

pub rows-formed : are_formed rows ≡ true
unfolding rows
rows-formed = refl

formed-at : (table : List Row) (k : ℕ) (default : Row) → are_formed table ≡ true → k < length table → formed_row (get_or table k default) ≡ true
formed-at [] k default h lt = absurd (omega arith)
formed-at (row ∷ more) zero default h lt = (and_parts _ _ h).0
formed-at (row ∷ more) (suc k) default h lt = formed-at more k default (and_parts _ _ h).1 (omega arith)

formed-contains : (row : Row) → Contains rows row → formed_row row ≡ true
formed-contains row at =
    let P : Row → Type 0 = λ r. formed_row r ≡ true in
    subst P at.2 (formed-at rows at.0 row rows-formed at.1)

-- the word of a function call is none of a task call
function-no_task : (word : List ℕ) → is_function word ≡ true → is_task word ≡ false
unfolding is_task is_function
function-no_task word h =
    let P : List ℕ → Type 0 = λ bytes. is_task bytes ≡ false in
    subst P (sym ((bytes_eq-Decides word _).0 h)) refl

-- what each kind of word begins
read_word-task : (file word : List ℕ) (tokens : List Spanned) → is_task word ≡ true → read_word file word tokens ≡ known (task_of file tokens)
unfolding read_word
read_word-task file word tokens task = rw task refl

read_word-function : (file word : List ℕ) (tokens : List Spanned) → is_task word ≡ false → is_function word ≡ true → read_word file word tokens ≡ known (function_of file tokens)
unfolding read_word
read_word-function file word tokens no_task function = rw (no_task, function) refl

read_word-row : (file word : List ℕ) (tokens : List Spanned) → is_task word ≡ false → is_function word ≡ false → read_word file word tokens ≡ read_row word (looked_up rows word) tokens
unfolding read_word
read_word-row file word tokens no_task no_function = rw (no_task, no_function) refl

-- what a row spells is read
read-row : (file : List ℕ) (tokens : List Spanned) (opcode : Op Name) → SpellsRow file tokens opcode → read_tokens file tokens ≡ Ok opcode
read-row file tokens opcode s =
    let word = bytes_of file (span_of s.word) in
    let row : Row = (s.bytes, (s.kinds, s.mnemonic)) in
    let no_call = apart-contains row s.in_table in
    let no_task : is_task word ≡ false = ap is_task (sym s.is_spelled) ∙ neither-left _ _ no_call in
    let no_function : is_function word ≡ false = ap is_function (sym s.is_spelled) ∙ neither-right _ _ no_call in
    let found : looked_up rows word ≡ Some (s.kinds, s.mnemonic) = ap (looked_up rows) (sym s.is_spelled) ∙ looked_up-contains rows row rows-distinct s.in_table in
    let operands = operands-complete s.kinds s.rest s.values (formed-contains row s.in_table) s.has_operands in
    ap (read_tokens file) s.begins ∙ read_word-row file word s.rest no_task no_function ∙ ap (λ (said : Option Meaning). read_row word said s.rest) found ∙ ap (λ values. known (option_map (opcode_of s.mnemonic) values)) operands ∙ ap Ok (sym s.means)

read-task : (file : List ℕ) (tokens : List Spanned) (opcode : Op Name) → SpellsTask file tokens opcode → read_tokens file tokens ≡ Ok opcode
read-task file tokens opcode s =
    ap (read_tokens file) s.begins ∙ read_word-task file (bytes_of file (span_of s.word)) s.rest (task_word-complete _ s.is_spelled) ∙ ap known (task-read file tokens opcode s)

read-function : (file : List ℕ) (tokens : List Spanned) (opcode : Op Name) → SpellsFunction file tokens opcode → read_tokens file tokens ≡ Ok opcode
read-function file tokens opcode s =
    let spelled = function_word-complete _ s.is_spelled in
    ap (read_tokens file) s.begins ∙ read_word-function file (bytes_of file (span_of s.word)) s.rest (function-no_task _ spelled) spelled ∙ ap known (function-read file tokens opcode s)

-- what tokens spell is what they are read as
pub read-spelled : (file : List ℕ) (tokens : List Spanned) (opcode : Op Name) → Spells file tokens opcode → read_tokens file tokens ≡ Ok opcode
read-spelled file tokens opcode (inl row) = read-row file tokens opcode row
read-spelled file tokens opcode (inr (inl task)) = read-task file tokens opcode task
read-spelled file tokens opcode (inr (inr function)) = read-function file tokens opcode function

known-ok : (read : Option (Op Name)) (opcode : Op Name) → known read ≡ Ok opcode → read ≡ Some opcode
known-ok None opcode h = cc
known-ok (Some read) opcode h = cc

spells_values : (file : List ℕ) (word : Spanned) (rest : List Spanned) (opcode : Op Name) (kinds : Kind × Kind × Kind) (mnemonic : Mnemonic) (values : Option (Operand × Operand × Operand)) → looked_up rows (bytes_of file (span_of word)) ≡ Some (kinds, mnemonic) → operands_of kinds rest ≡ values → known (option_map (opcode_of mnemonic) values) ≡ Ok opcode → SpellsRow file (word ∷ rest) opcode
spells_values file word rest opcode kinds mnemonic None found e h = cc
spells_values file word rest opcode kinds mnemonic (Some values) found e h =
    let at = looked_up-found rows (bytes_of file (span_of word)) (kinds, mnemonic) found in
    let here : Contains rows (at.0.0, (kinds, mnemonic)) = subst (λ (m : Meaning). Contains rows (at.0.0, m)) at.3 at.1 in
    record { word = word; rest = rest; bytes = at.0.0; kinds = kinds; mnemonic = mnemonic; values = values; begins = refl; in_table = here; is_spelled = at.2; has_operands = operands-sound kinds rest values e; means = cc }

spells_row : (file : List ℕ) (word : Spanned) (rest : List Spanned) (opcode : Op Name) (found : Option Meaning) → looked_up rows (bytes_of file (span_of word)) ≡ found → read_row (bytes_of file (span_of word)) found rest ≡ Ok opcode → SpellsRow file (word ∷ rest) opcode
spells_row file word rest opcode None e h = cc
spells_row file word rest opcode (Some (kinds, mnemonic)) e h =
    spells_values file word rest opcode kinds mnemonic (operands_of kinds rest) e refl h

spells_no_task : (file : List ℕ) (word : Spanned) (rest : List Spanned) (opcode : Op Name) (function : Bool) → All (IsBasedOf file) rest → is_task (bytes_of file (span_of word)) ≡ false → is_function (bytes_of file (span_of word)) ≡ function → read_word file (bytes_of file (span_of word)) rest ≡ Ok opcode → Spells file (word ∷ rest) opcode
spells_no_task file word rest opcode true based no_task e h =
    inr (inr (function-spelled file word rest opcode based e (known-ok _ opcode (sym (read_word-function file _ rest no_task e) ∙ h))))
spells_no_task file word rest opcode false based no_task e h =
    inl (spells_row file word rest opcode _ refl (sym (read_word-row file _ rest no_task e) ∙ h))

spells_word : (file : List ℕ) (word : Spanned) (rest : List Spanned) (opcode : Op Name) (task : Bool) → All (IsBasedOf file) rest → is_task (bytes_of file (span_of word)) ≡ task → read_word file (bytes_of file (span_of word)) rest ≡ Ok opcode → Spells file (word ∷ rest) opcode
spells_word file word rest opcode true based e h =
    inr (inl (task-spelled file word rest opcode based e (known-ok _ opcode (sym (read_word-task file _ rest e) ∙ h))))
spells_word file word rest opcode false based e h = spells_no_task file word rest opcode _ based e refl h

-- what tokens are read as they spell
pub spelled-read : (file : List ℕ) (tokens : List Spanned) (opcode : Op Name) → All (IsBasedOf file) tokens → read_tokens file tokens ≡ Ok opcode → Spells file tokens opcode
spelled-read file [] opcode based h = cc
spelled-read file (word ∷ rest) opcode based h =
    spells_word file word rest opcode _ (All-tail (IsBasedOf file) word rest based) refl h
