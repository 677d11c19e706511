-- The program that the tests run is a linked one, and its values answer for it.
use Rattle.std.proofs.Common.{◌≡◌, ℕ, zero, suc, ◌+◌, ◌<◌, ◌≤◌, true, List, [], ◌∷◌, ◌++◌, length, get_or, map, replicate, refl, sym, ap, ◌∙◌, subst, arith, inl, inr, lit<, lit≤}
use Rattle.std.proofs.lemmas.Bool.{false≢true}
use Rattle.std.specs.Prelude.{Some, IsTrue, codes, slice_get}
use Rattle.std.proofs.Math.ListN.{set}
use Rattle.four_state.specs.declared.bits.Bit.{Bit}
use Rattle.four_state.specs.declared.bits.Bit.TheVariants.{Unknown}
use Rattle.vvp_ops.specs.declared.op.Op.{Op}
use Rattle.vvp_ops.specs.declared.op.Op.TheVariants as o
use Rattle.vvp_ops.specs.declared.args.Arg.{Arg}
use Rattle.vvp_ops.specs.declared.args.Arg.TheVariants as arg
use Rattle.sym_link.specs.declared.program.Program.{Program}
use Rattle.sym_link.specs.declared.program.Item.{Item}
use Rattle.sym_link.specs.declared.program.ScopeRow.{ScopeRow}
use Rattle.sym_link.specs.Sound.{IsItem, IsProgram, IsScopeRow}
use Rattle.sys_tasks.specs.Arguments.{value_in}
use Rattle.sys_tasks.specs.Conditions.{Answers, HoldsValues, has_own_value, is_function_call, is_task_call}
use Rattle.sys_tasks.specs.Design.{Design, design_of, width_of, words_in}
use Rattle.sys_tasks.specs.Dumped.{kind_of}
use Rattle.sys_tasks.specs.KeepLemmas.{called-design, read_only-design}
use Rattle.sys_tasks.specs.Names.{function_of, task_of}
use Rattle.sys_tasks.specs.Phase.{read_only}
use Rattle.sys_tasks.specs.Tasks.{TasksNow, called, first_tasks}
use Rattle.sys_tasks.specs.Sample.{sample, sample_design, sample_row, sample_words}

sample-row : (number : ℕ) (row : ScopeRow) → slice_get sample.scopes number ≡ Some row → IsScopeRow number row
sample-row zero row h =
    let same : sample_row ≡ row = cc in
    let P : ScopeRow → Type 0 = λ r. IsScopeRow 0 r in
    subst P same (record { lower = inl refl; least = lit≤ tt; most = lit≤ tt })
sample-row (suc number) row h = cc

sample-items : (k : ℕ) (d : Item) → k < length sample.items → IsItem sample (get_or sample.items k d)
sample-items zero d h = record { scope = inl refl; is = record { no_value = refl; row = sample_row; there = refl; same_name = refl; parent = refl } }
sample-items (suc zero) d h = record { scope = inr (lit< tt); is = record { range = record { spans = refl; in_range = (lit≤ tt, lit≤ tt) }; stands = lit< tt } }
sample-items (suc (suc zero)) d h = record { scope = inr (lit< tt); is = record { range = record { spans = refl; in_range = (lit≤ tt, lit≤ tt) }; stands = lit< tt } }
sample-items (suc (suc (suc k))) d h = absurd (omega arith)

pub sample-sound : IsProgram sample
sample-sound = record {
  few_items = lit≤ tt;
  few_opcodes = lit≤ tt;
  few_words = lit≤ tt;
  few_threads = lit≤ tt;
  few_scopes = lit≤ tt;
  tick = refl;
  each_item = sample-items;
  each_opcode = λ k d h. absurd (omega arith);
  each_thread = λ k d h. absurd (omega arith);
  each_scope = sample-row;
  scope_each = refl;
  opcode_scopes = λ k d h. absurd (omega arith);
  call_scopes = λ address scope o h. cc;
}

sample-words-there : (a v : List Bit) (item index : ℕ) (word : List Bit) → length a ≡ 1 → length v ≡ 4 → slice_get (sample_words a v item) index ≡ Some word → length word ≡ width_of sample_design.entries item
unfolding sample_design sample_words design_of
sample-words-there a v zero index word one four h = cc
sample-words-there a v (suc zero) zero word one four h = let same : a ≡ word = cc in ap length (sym same) ∙ one
sample-words-there a v (suc zero) (suc index) word one four h = cc
sample-words-there a v (suc (suc zero)) zero word one four h = let same : v ≡ word = cc in ap length (sym same) ∙ four
sample-words-there a v (suc (suc zero)) (suc index) word one four h = cc
sample-words-there a v (suc (suc (suc item))) index word one four h = cc

sample-counts : (a v : List Bit) (item : ℕ) → item < length sample_design.entries → length (sample_words a v item) ≡ words_in (kind_of sample_design.entries item)
unfolding sample_design sample_words design_of
sample-counts a v zero h = refl
sample-counts a v (suc zero) h = refl
sample-counts a v (suc (suc zero)) h = refl
sample-counts a v (suc (suc (suc item))) h = refl

pub sample-answers : (design : Design) (a v : List Bit) → design ≡ sample_design → length a ≡ 1 → length v ≡ 4 → Answers design.entries (sample_words a v)
sample-answers design a v is one four =
    let P : Design → Type 0 = λ d. Answers d.entries (sample_words a v) in
    subst P (sym is) (record { counts = sample-counts a v; widths = λ item index word inside h. sample-words-there a v item index word one four h })

sample-plane : (a v : List Bit) (plane : List (List Bit)) (item : ℕ) → length plane ≡ 3 → get_or plane 1 [] ≡ a → get_or plane 2 [] ≡ v → IsTrue (has_own_value (kind_of sample_design.entries item)) → get_or plane item [] ≡ value_in (sample_words a v) item
unfolding sample_design sample_words design_of
sample-plane a v plane zero n first second own = absurd (false≢true own)
sample-plane a v plane (suc zero) n first second own = first
sample-plane a v plane (suc (suc zero)) n first second own = second
sample-plane a v plane (suc (suc (suc item))) n first second own = absurd (false≢true own)

pub sample-holds : (design : Design) (a v : List Bit) (plane : List (List Bit)) → design ≡ sample_design → length plane ≡ 3 → get_or plane 1 [] ≡ a → get_or plane 2 [] ≡ v → HoldsValues design.entries (sample_words a v) plane
unfolding sample_design design_of
sample-holds design a v plane is n first second =
    let P : Design → Type 0 = λ d. HoldsValues d.entries (sample_words a v) plane in
    subst P (sym is) (record { places = n; values = λ item own. sample-plane a v plane item n first second own })

-- The values

pub sample-bit : (a v : List Bit) (item word : ℕ) → item ≡ 1 → word < length (sample_words a v item) → slice_get (sample_words a v item) word ≡ Some a
unfolding sample_words
sample-bit a v zero word is inside = absurd (omega (arith, is))
sample-bit a v (suc zero) zero is inside = refl
sample-bit a v (suc zero) (suc word) is inside = absurd (omega arith)
sample-bit a v (suc (suc item)) word is inside = absurd (omega (arith, is))

pub sample-vector : (a v : List Bit) (item word : ℕ) → (item ≡ 1 → ⊥) → word < length (sample_words a v item) → slice_get (sample_words a v item) word ≡ Some v
unfolding sample_words
sample-vector a v zero word other inside = absurd (omega arith)
sample-vector a v (suc zero) word other inside = absurd (other refl)
sample-vector a v (suc (suc zero)) zero other inside = refl
sample-vector a v (suc (suc zero)) (suc word) other inside = absurd (omega arith)
sample-vector a v (suc (suc (suc item))) word other inside = absurd (omega arith)

pub sample-one : (a v : List Bit) (item : ℕ) → 1 ≤ length (sample_words a v item) → 1 ≡ length (sample_words a v item)
unfolding sample_words
sample-one a v zero h = absurd (omega arith)
sample-one a v (suc zero) h = refl
sample-one a v (suc (suc zero)) h = refl
sample-one a v (suc (suc (suc item))) h = absurd (omega arith)

-- Calls and phases

pub sample-linked : (program : Program) → program ≡ sample → IsProgram program
sample-linked program is = let P : Program → Type 0 = λ p. IsProgram p in subst P (sym is) sample-sound

first-design : (design : Design) → (first_tasks design).design ≡ design
unfolding first_tasks
first-design design = refl

sampled : (program : Program) → program ≡ sample → design_of program ≡ sample_design
unfolding sample_design
sampled program is = ap design_of is

pub sample-first : (program : Program) (tasks : TasksNow) → program ≡ sample → tasks ≡ first_tasks (design_of program) → tasks.design ≡ sample_design
sample-first program tasks is told = ap (λ (t : TasksNow). t.design) told ∙ first-design (design_of program) ∙ sampled program is

pub after-call : (op : Op ℕ) (scope : ℕ) (kept : List (List Bit)) (now : ℕ) (words : ℕ → List (List Bit)) (old new : TasksNow) → new ≡ called op scope kept now words old → old.design ≡ sample_design → new.design ≡ sample_design
after-call op scope kept now words old new told is = ap (λ (t : TasksNow). t.design) told ∙ called-design op scope kept now words old ∙ is

pub after-phase : (now : ℕ) (words : ℕ → List (List Bit)) (old new : TasksNow) → new ≡ read_only now words old → old.design ≡ sample_design → new.design ≡ sample_design
after-phase now words old new told is = ap (λ (t : TasksNow). t.design) told ∙ read_only-design now words old ∙ is

abbrev task_op : List ℕ → List (Arg ℕ) → Op ℕ
task_op name args = o.CallTask 1 1 name args 0

pub call-fits : (design : Design) (name known : List ℕ) (args given : List (Arg ℕ)) → design ≡ sample_design → name ≡ known → args ≡ given → is_task_call sample_design 0 [] (task_op known given) ≡ true → is_task_call design 0 [] (task_op name args) ≡ true
call-fits design name known args given is n a h =
    ap (λ (d : Design). is_task_call d 0 [] (task_op name args)) is ∙ ap (λ (x : List ℕ). is_task_call sample_design 0 [] (task_op x args)) n ∙ ap (λ (x : List (Arg ℕ)). is_task_call sample_design 0 [] (task_op known x)) a ∙ h

pub display-fits : (text : List ℕ) → is_task_call sample_design 0 [] (task_op (codes "$display") (arg.Text text ∷ arg.Time ∷ arg.Time ∷ [])) ≡ true
unfolding is_task_call task_of sample_design design_of
display-fits text = refl

pub monitor-fits : (text : List ℕ) → is_task_call sample_design 0 [] (task_op (codes "$monitor") (arg.Text text ∷ arg.Symbol 2 ∷ [])) ≡ true
unfolding is_task_call task_of sample_design design_of
monitor-fits text = refl

pub dumpvars-fits : is_task_call sample_design 0 [] (task_op (codes "$dumpvars") []) ≡ true
unfolding is_task_call task_of sample_design design_of
dumpvars-fits = refl

abbrev function_op : List ℕ → List (Arg ℕ) → Op ℕ
function_op name args = o.CallFunction 1 1 name 64 args 0

time-now : is_function_call sample_design 0 [] (function_op (codes "$time") []) ≡ true
unfolding is_function_call function_of sample_design design_of
time-now = refl

pub time-fits : (design : Design) (name : List ℕ) (args : List (Arg ℕ)) → design ≡ sample_design → name ≡ codes "$time" → args ≡ [] → is_function_call design 0 [] (function_op name args) ≡ true
time-fits design name args is n a =
    ap (λ (d : Design). is_function_call d 0 [] (function_op name args)) is ∙ ap (λ (x : List ℕ). is_function_call sample_design 0 [] (function_op x args)) n ∙ ap (λ (x : List (Arg ℕ)). is_function_call sample_design 0 [] (function_op (codes "$time") x)) a ∙ time-now

pub two-args : (x y : Arg ℕ) (a b d : List (Arg ℕ)) → a ≡ [] → b ≡ a ++ x ∷ [] → d ≡ b ++ y ∷ [] → d ≡ x ∷ y ∷ []
two-args x y a b d h k l = l ∙ ap (λ (t : List (Arg ℕ)). t ++ y ∷ []) (k ∙ ap (λ (t : List (Arg ℕ)). t ++ x ∷ []) h)

pub three-args : (x y z : Arg ℕ) (a b d e : List (Arg ℕ)) → a ≡ [] → b ≡ a ++ x ∷ [] → d ≡ b ++ y ∷ [] → e ≡ d ++ z ∷ [] → e ≡ x ∷ y ∷ z ∷ []
three-args x y z a b d e h k l m = m ∙ ap (λ (t : List (Arg ℕ)). t ++ z ∷ []) (two-args x y a b d h k l)

-- Planes

abbrev pub sample_widths : List ℕ
sample_widths = 1 ∷ 1 ∷ 4 ∷ []

abbrev pub first_plane : List (List Bit)
first_plane = map (λ w. replicate w Unknown) sample_widths

pub widths-least : (k d : ℕ) → k < length sample_widths → 1 ≤ get_or sample_widths k d
widths-least zero d h = lit≤ tt
widths-least (suc zero) d h = lit≤ tt
widths-least (suc (suc zero)) d h = lit≤ tt
widths-least (suc (suc (suc k))) d h = absurd (omega arith)

pub widths-most : (k d : ℕ) → k < length sample_widths → get_or sample_widths k d ≤ 128
widths-most zero d h = lit≤ tt
widths-most (suc zero) d h = lit≤ tt
widths-most (suc (suc zero)) d h = lit≤ tt
widths-most (suc (suc (suc k))) d h = absurd (omega arith)

pub plane-holds : (design : Design) (a v : List Bit) (p q r : List (List Bit)) → design ≡ sample_design → p ≡ first_plane → q ≡ set p 1 a → r ≡ set q 2 v → HoldsValues design.entries (sample_words a v) r
plane-holds design a v p q r is first second third =
    let whole : r ≡ set (set first_plane 1 a) 2 v = third ∙ ap (λ (x : List (List Bit)). set x 2 v) (second ∙ ap (λ (x : List (List Bit)). set x 1 a) first) in
    let P : List (List Bit) → Type 0 = λ x. HoldsValues design.entries (sample_words a v) x in
    subst P (sym whole) (sample-holds design a v (set (set first_plane 1 a) 2 v) is refl refl refl)
