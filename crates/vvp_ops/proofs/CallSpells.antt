-- A call and its arguments: what is read is spelled so, and what is spelled so is read.
use Rattle.std.proofs.Common.{◌≡◌, ℕ, Bool, true, false, List, [], ◌∷◌, drop, Option, None, Some, is_some, refl, sym, ap, ◌∙◌, if◌then◌else◌}
use Rattle.std.specs.Option.{option_map}
use Rattle.std.specs.List.{All}
use Rattle.std.proofs.lemmas.List.Elements.{All-tail, All-drop}
use Rattle.vvp_lex.specs.declared.types.Name.{Name}
use Rattle.vvp_lex.specs.declared.types.Spanned.{Spanned}
use Rattle.vvp_lex.specs.declared.types.Token.TheVariants as token
use Rattle.vvp_lex.specs.Unescaped.{text_of}
use Rattle.vvp_ops.specs.declared.args.Arg.{Arg}
use Rattle.vvp_ops.specs.declared.op.Op.{Op}
use Rattle.vvp_ops.specs.declared.op.Op.TheVariants as o
use Rattle.vvp_lex.specs.Place.{◌>>=◌, span_of, bytes_of, is_mark, number_at, text_at, Begins, is_mark_at, mark_at}
use Rattle.vvp_ops.specs.Arguments.{argument_at, tokens_in}
use Rattle.vvp_ops.specs.Calls.{Arguments, with_argument, arguments_of, pops_of, is_task, is_function, task_of, function_of}
use Rattle.vvp_ops.specs.Spelled.{AreArguments, ArePops}
use Rattle.vvp_ops.specs.Spells.{SpellsTask, SpellsFunction}
use Rattle.vvp_ops.proofs.CallLemmas.{arguments_of-passed, arguments_of-comma, arguments_of-end}
use Rattle.vvp_lex.proofs.FrontLemmas.{bind-some, is_mark-is, number-sound, number-complete, text-sound, text-complete, mark-complete}
use Rattle.vvp_lex.proofs.BasedLemmas.{IsBasedOf}
use Rattle.vvp_ops.proofs.ArgumentLaw.{argument-sound, argument-complete}
use Rattle.vvp_ops.proofs.PopsSpells.{task_word-sound, function_word-sound, pops-sound, pops-complete, pops-no_mark}

-- the parts of what was read
same_read : (read other : Arguments) → Some read ≡ Some other → read ≡ other
same_read read other h = cc

same_args : (read other : Arguments) → Some read ≡ Some other → read.0 ≡ other.0
same_args read other h = ap (λ (r : Arguments). r.0) (same_read read other h)

same_after : (read other : Arguments) → Some read ≡ Some other → read.1 ≡ other.1
same_after read other h = ap (λ (r : Arguments). r.1) (same_read read other h)

-- the arguments are over where the pops stand
pops-end : (file : List ℕ) (tokens : List Spanned) (pops : ℕ) → ArePops tokens pops → arguments_of file 0 tokens ≡ Some ([], tokens)
pops-end file tokens pops s = arguments_of-end file tokens (pops-no_mark 44 tokens pops refl s)

comma-no_less : (tokens rest : List Spanned) → Begins (token.Punct 44) tokens rest → is_some (mark_at tokens 0 60) ≡ false
unfolding mark_at is_mark_at
comma-no_less tokens rest one = rw (one.1, one.2) refl

-- after an argument stands a comma or a brace
arguments-no_less : (file : List ℕ) (tokens : List Spanned) (args : List (Arg Name)) (after : List Spanned) → AreArguments file tokens args after → is_some (mark_at after 0 60) ≡ false → is_some (mark_at tokens 0 60) ≡ false
arguments-no_less file tokens [] after s over = ap (λ (l : List Spanned). is_some (mark_at l 0 60)) s ∙ over
arguments-no_less file tokens (arg ∷ args) after s over = comma-no_less tokens s.0 s.2

-- arguments that are spelled are read
arguments-read : (file : List ℕ) (tokens : List Spanned) (args : List (Arg Name)) (after : List Spanned) → AreArguments file tokens args after → is_some (mark_at after 0 60) ≡ false → arguments_of file 0 after ≡ Some ([], after) → arguments_of file 0 tokens ≡ Some (args, after)
arguments-read file tokens [] after s no_less over = ap (arguments_of file 0) s ∙ over
arguments-read file tokens (arg ∷ args) after s no_less over =
    let comma = mark-complete 0 tokens tokens s.0 44 refl s.2 in
    let one = argument-complete file arg s.0 s.1 s.3 (arguments-no_less file s.1 args after s.4 no_less) in
    let left : drop (tokens_in arg) (drop 1 tokens) ≡ s.1 = ap (drop (tokens_in arg)) comma.1 ∙ one.1 in
    arguments_of-comma file tokens arg (ap is_some comma.0) (ap (argument_at file) comma.1 ∙ one.0) ∙ ap (λ (l : List Spanned). option_map (with_argument arg) (arguments_of file 0 l)) left ∙ ap (option_map (with_argument arg)) (arguments-read file s.1 args after s.4 no_less over)

-- arguments that are read are spelled
spelled_rest : (file : List ℕ) (arg : Arg Name) (tokens : List Spanned) (args : List (Arg Name)) (after : List Spanned) (more : Option Arguments) → arguments_of file (tokens_in arg) tokens ≡ more → option_map (with_argument arg) more ≡ Some (args, after) → (rest : List (Arg Name)) × (args ≡ arg ∷ rest) × (arguments_of file 0 (drop (tokens_in arg) tokens) ≡ Some (rest, after))
spelled_rest file arg tokens args after None e h = cc
spelled_rest file arg tokens args after (Some read) e h =
    let args_is : args ≡ arg ∷ read.0 = sym (same_args _ _ h) in
    let after_is : after ≡ read.1 = sym (same_after _ _ h) in
    (read.0, args_is, sym (arguments_of-passed file (tokens_in arg) tokens) ∙ e ∙ ap (λ (left : List Spanned). Some (read.0, left)) (sym after_is))

spelled_first : (file : List ℕ) (tokens : List Spanned) (args : List (Arg Name)) (after : List Spanned) (read : Option (Arg Name)) → argument_at file tokens ≡ read → (read >>= λ arg. option_map (with_argument arg) (arguments_of file (tokens_in arg) tokens)) ≡ Some (args, after) → (arg : Arg Name) × (rest : List (Arg Name)) × (argument_at file tokens ≡ Some arg) × (args ≡ arg ∷ rest) × (arguments_of file 0 (drop (tokens_in arg) tokens) ≡ Some (rest, after))
spelled_first file tokens args after None e h = cc
spelled_first file tokens args after (Some arg) e h =
    let found = spelled_rest file arg tokens args after _ refl h in (arg, found.0, e, found.1, found.2)

arguments-spelled : (file : List ℕ) (args : List (Arg Name)) (tokens : List Spanned) (after : List Spanned) → All (IsBasedOf file) tokens → arguments_of file 0 tokens ≡ Some (args, after) → AreArguments file tokens args after
arguments-spelled file [] [] after based h = same_after _ _ h
arguments-spelled file [] (first ∷ tokens) after based h = by (is_mark 44 first.token) refl h
  where
    by : (comma : Bool) → is_mark 44 first.token ≡ comma → (if comma then (argument_at file tokens >>= λ arg. option_map (with_argument arg) (arguments_of file (tokens_in arg) tokens)) else Some ([], first ∷ tokens)) ≡ Some ([], after) → first ∷ tokens ≡ after
    by true e h =
        let found = spelled_first file tokens [] after _ refl h in
        let none : [] ≡ found.0 ∷ found.1 = found.3 in cc
    by false e h = same_after _ _ h
arguments-spelled file (arg ∷ args) [] after based h =
    let none : [] ≡ arg ∷ args = same_args _ _ h in cc
arguments-spelled file (arg ∷ args) (first ∷ tokens) after based h = by (is_mark 44 first.token) refl h (arguments-spelled file args)
  where
    by : (comma : Bool) → is_mark 44 first.token ≡ comma → (if comma then (argument_at file tokens >>= λ arg. option_map (with_argument arg) (arguments_of file (tokens_in arg) tokens)) else Some ([], first ∷ tokens)) ≡ Some (arg ∷ args, after) → ((left rest : List Spanned) → All (IsBasedOf file) left → arguments_of file 0 left ≡ Some (args, rest) → AreArguments file left args rest) → AreArguments file (first ∷ tokens) (arg ∷ args) after
    by true e h others =
        let found = spelled_first file tokens (arg ∷ args) after _ refl h in
        let split : arg ∷ args ≡ found.0 ∷ found.1 = found.3 in
        let same : found.0 ≡ arg = cc in
        let same_rest : found.1 ≡ args = cc in
        let read : argument_at file tokens ≡ Some arg = found.2 ∙ ap Some same in
        let left : arguments_of file 0 (drop (tokens_in arg) tokens) ≡ Some (args, after) = ap (λ (a : Arg Name). arguments_of file 0 (drop (tokens_in a) tokens)) (sym same) ∙ found.4 ∙ ap (λ (rest : List (Arg Name)). Some (rest, after)) same_rest in
        let more = All-tail (IsBasedOf file) first tokens based in
        (tokens, drop (tokens_in arg) tokens, (first, refl, is_mark-is 44 first.token e), argument-sound file tokens arg more read, others (drop (tokens_in arg) tokens) after (All-drop (IsBasedOf file) (tokens_in arg) tokens more) left)
    by false e h others = let none : [] ≡ arg ∷ args = same_args _ _ h in cc

-- a task call that is spelled is read
pub task-read : (file : List ℕ) (tokens : List Spanned) (opcode : Op Name) (s : SpellsTask file tokens opcode) → task_of file s.rest ≡ Some opcode
unfolding task_of
task-read file tokens opcode s =
    let number = number-complete 0 s.rest s.rest s.t1 s.number refl s.has_number in
    let line = number-complete 1 s.rest s.t1 s.t2 s.line number.1 s.has_line in
    let name = text-complete 2 s.rest s.t2 s.t3 s.name line.1 s.has_name in
    let args = arguments-read file s.t3 s.args s.after s.has_arguments (pops-no_mark 60 s.after s.pops refl s.has_pops) (pops-end file s.after s.pops s.has_pops) in
    let read : arguments_of file 0 (drop 3 s.rest) ≡ Some (s.args, s.after) = ap (arguments_of file 0) name.1 ∙ args in
    let pops = pops-complete s.after s.pops s.has_pops in
    rw (number.0, line.0, name.0, read, pops) (ap Some (sym s.means))

-- a task call that is read is spelled
pub task-spelled : (file : List ℕ) (word : Spanned) (rest : List Spanned) (opcode : Op Name) → All (IsBasedOf file) rest → is_task (bytes_of file (span_of word)) ≡ true → task_of file rest ≡ Some opcode → SpellsTask file (word ∷ rest) opcode
unfolding task_of
task-spelled file word rest opcode based spelled h =
    let number = bind-some (number_at rest 0) _ opcode h in
    let line = bind-some (number_at rest 1) _ opcode number.2 in
    let name = bind-some (text_at rest 2) _ opcode line.2 in
    let read = bind-some (arguments_of file 0 (drop 3 rest)) _ opcode name.2 in
    let pops = bind-some (pops_of read.0.1) _ opcode read.2 in
    let meant : Some (o.CallTask number.0 line.0 (text_of file name.0) read.0.0 pops.0) ≡ Some opcode = pops.2 in
    record {
      word = word;
      rest = rest;
      t1 = drop 1 rest;
      t2 = drop 2 rest;
      t3 = drop 3 rest;
      after = read.0.1;
      number = number.0;
      line = line.0;
      name = name.0;
      args = read.0.0;
      pops = pops.0;
      begins = refl;
      is_spelled = task_word-sound (bytes_of file (span_of word)) spelled;
      has_number = number-sound 0 rest number.0 number.1;
      has_line = number-sound 1 rest line.0 line.1;
      has_name = text-sound 2 rest name.0 name.1;
      has_arguments = arguments-spelled file read.0.0 (drop 3 rest) read.0.1 (All-drop (IsBasedOf file) 3 rest based) read.1;
      has_pops = pops-sound read.0.1 pops.0 pops.1;
      means = cc;
    }

-- a function call that is spelled is read
pub function-read : (file : List ℕ) (tokens : List Spanned) (opcode : Op Name) (s : SpellsFunction file tokens opcode) → function_of file s.rest ≡ Some opcode
unfolding function_of
function-read file tokens opcode s =
    let number = number-complete 0 s.rest s.rest s.t1 s.number refl s.has_number in
    let line = number-complete 1 s.rest s.t1 s.t2 s.line number.1 s.has_line in
    let name = text-complete 2 s.rest s.t2 s.t3 s.name line.1 s.has_name in
    let width = number-complete 3 s.rest s.t3 s.t4 s.width name.1 s.has_width in
    let args = arguments-read file s.t4 s.args s.after s.has_arguments (pops-no_mark 60 s.after s.pops refl s.has_pops) (pops-end file s.after s.pops s.has_pops) in
    let read : arguments_of file 0 (drop 4 s.rest) ≡ Some (s.args, s.after) = ap (arguments_of file 0) width.1 ∙ args in
    let pops = pops-complete s.after s.pops s.has_pops in
    rw (number.0, line.0, name.0, width.0, read, pops) (ap Some (sym s.means))

-- a function call that is read is spelled
pub function-spelled : (file : List ℕ) (word : Spanned) (rest : List Spanned) (opcode : Op Name) → All (IsBasedOf file) rest → is_function (bytes_of file (span_of word)) ≡ true → function_of file rest ≡ Some opcode → SpellsFunction file (word ∷ rest) opcode
unfolding function_of
function-spelled file word rest opcode based spelled h =
    let number = bind-some (number_at rest 0) _ opcode h in
    let line = bind-some (number_at rest 1) _ opcode number.2 in
    let name = bind-some (text_at rest 2) _ opcode line.2 in
    let width = bind-some (number_at rest 3) _ opcode name.2 in
    let read = bind-some (arguments_of file 0 (drop 4 rest)) _ opcode width.2 in
    let pops = bind-some (pops_of read.0.1) _ opcode read.2 in
    let meant : Some (o.CallFunction number.0 line.0 (text_of file name.0) width.0 read.0.0 pops.0) ≡ Some opcode = pops.2 in
    record {
      word = word;
      rest = rest;
      t1 = drop 1 rest;
      t2 = drop 2 rest;
      t3 = drop 3 rest;
      t4 = drop 4 rest;
      after = read.0.1;
      number = number.0;
      line = line.0;
      name = name.0;
      width = width.0;
      args = read.0.0;
      pops = pops.0;
      begins = refl;
      is_spelled = function_word-sound (bytes_of file (span_of word)) spelled;
      has_number = number-sound 0 rest number.0 number.1;
      has_line = number-sound 1 rest line.0 line.1;
      has_name = text-sound 2 rest name.0 name.1;
      has_width = number-sound 3 rest width.0 width.1;
      has_arguments = arguments-spelled file read.0.0 (drop 4 rest) read.0.1 (All-drop (IsBasedOf file) 4 rest based) read.1;
      has_pops = pops-sound read.0.1 pops.0 pops.1;
      means = cc;
    }
