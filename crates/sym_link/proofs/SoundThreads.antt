-- The starting threads of the program, its limits and its tick.
use Rattle.std.proofs.Common.{◌≡◌, inl, ℕ, ◌+◌, ◌<◌, ◌≤◌, ℤ, pos, negsuc, Bool, true, false, cond, ◌&&◌, List, [], ◌∷◌, ◌++◌, length, length-append, count_by, sum_by, slice_get, None, Some, is_some, refl, sym, ap, subst, arith, if◌then◌else◌}
use Rattle.std.proofs.lemmas.Bool.{leb-false, ltb-false, or_parts}
use Rattle.std.proofs.lemmas.List.Elements.{All-append}
use Rattle.std.proofs.lemmas.List.Sums.{sum_by-cons}
use Rattle.std.proofs.lemmas.Option.{same_Some}
use Rattle.std.specs.Prelude.{All, int_le, nat_le, nat_lt}
use Rattle.std.specs.Option.{ForSome, option_map_or}
use Rattle.vvp_forms.specs.declared.form.Form.TheVariants as form
use Rattle.vvp_forms.specs.declared.form.StartKind.{StartKind}
use Rattle.vvp_forms.specs.declared.form.StartKind.TheVariants as start
use Rattle.vvp_lex.specs.declared.types.Name.{Name}
use Rattle.sym_link.specs.declared.placed.Placed.{Placed}
use Rattle.sym_link.specs.declared.placed.What.{What}
use Rattle.sym_link.specs.declared.placed.What.TheVariants as what
use Rattle.sym_link.specs.declared.program.Item.{Item}
use Rattle.sym_link.specs.declared.program.Start.{Start}
use Rattle.sym_link.specs.declared.rules.TheConstants.{MOST_ITEMS, MOST_OPCODES, MOST_STARTS, MOST_WORDS}
use Rattle.sym_link.specs.declared.sorts.Takes.TheVariants as takes
use Rattle.sym_link.specs.LinkRules.{limit_reached}
use Rattle.sym_link.specs.Meaning.{code_of, current_scope, gate_of, is_same_start, item_said, items_of, other_item, precision_of, precision_said, scopes_of, thread_said, threads_at, threads_of}
use Rattle.sym_link.specs.Places.{counts_before, is_item_statement, is_opcode_statement, is_opcode_what, is_scope_form, is_thread_form, words_in}
use Rattle.sym_link.specs.Sorts.{is_item, needs_scope, sort_of}
use Rattle.sym_link.specs.Sound.{IsStart}
use Rattle.sym_link.specs.Sound.{words_in as item_words}
use Rattle.sym_link.specs.Uses.{form_use}
use Rattle.sym_link.proofs.SoundForms.{IsGiven}
use Rattle.sym_link.proofs.SoundGather.{count-fewer, few-all, gather-all, gather-latest, gather-length, gather-sum, sum-all}
use Rattle.sym_link.proofs.SoundKinds.{item-tests}
use Rattle.sym_link.proofs.SoundNamed.{code-length, code-named, meant, scopes-length}
use Rattle.sym_link.proofs.SoundNets.{AllGiven}
use Rattle.sym_link.proofs.SoundScopes.{AllKeep, current-there}
use Rattle.sym_link.proofs.SoundSymbols.{Declared, FormDeclares, form-declares}

-- Threads

thread-use : (file : List ℕ) (all : List Placed) (place : ℕ) (code : Name) (when : StartKind) → FormDeclares file all place (form.Thread code when) → Declared file all place code takes.Code
unfolding form_use
thread-use file all place code when d = d.alone (record { symbol = code; takes = takes.Code }) refl

made-start : (b : Bool) (made given : Start) → (if b then Some made else None) ≡ Some given → made ≡ given
made-start true made given is = same_Some made given is
made-start false made given is = absurd (cc)

is-start : (file : List ℕ) (all : List Placed) (keep : AllKeep file all) (which : StartKind) (place : ℕ) (s : Placed) (w : What) (begun : Start) → slice_get all place ≡ Some s → s.what ≡ w → thread_said file all which (current_scope file all place) w ≡ Some begun → IsStart (meant file all) begun
is-start file all keep which place s (what.Op o) begun there is said = absurd (cc)
is-start file all keep which place s (what.Form form.Ignored) begun there is said = absurd (cc)
is-start file all keep which place s (what.Form form.Parameter) begun there is said = absurd (cc)
is-start file all keep which place s (what.Form (form.Precision power)) begun there is said = absurd (cc)
is-start file all keep which place s (what.Form (form.Scope kind name source_module number line within)) begun there is said = absurd (cc)
is-start file all keep which place s (what.Form (form.CurrentScope scope)) begun there is said = absurd (cc)
is-start file all keep which place s (what.Form (form.TimeScale unit precision)) begun there is said = absurd (cc)
is-start file all keep which place s (what.Form (form.Variable kind starred name range)) begun there is said = absurd (cc)
is-start file all keep which place s (what.Form (form.Net signed starred name range source)) begun there is said = absurd (cc)
is-start file all keep which place s (what.Form (form.Array kind name first last range)) begun there is said = absurd (cc)
is-start file all keep which place s (what.Form (form.Functor kind width drives ports)) begun there is said = absurd (cc)
is-start file all keep which place s (what.Form (form.Resolver kind ports)) begun there is said = absurd (cc)
is-start file all keep which place s (what.Form (form.Part first base width)) begun there is said = absurd (cc)
is-start file all keep which place s (what.Form (form.PartInto first base width whole)) begun there is said = absurd (cc)
is-start file all keep which place s (what.Form (form.PartFrom signed first base width)) begun there is said = absurd (cc)
is-start file all keep which place s (what.Form (form.Concat widths ports)) begun there is said = absurd (cc)
is-start file all keep which place s (what.Form (form.Arithmetic kind width left right)) begun there is said = absurd (cc)
is-start file all keep which place s (what.Form (form.Compare kind width left right)) begun there is said = absurd (cc)
is-start file all keep which place s (what.Form (form.Shift kind width first amount)) begun there is said = absurd (cc)
is-start file all keep which place s (what.Form (form.Reduce kind first)) begun there is said = absurd (cc)
is-start file all keep which place s (what.Form (form.Repeat width count first)) begun there is said = absurd (cc)
is-start file all keep which place s (what.Form (form.Extend width first)) begun there is said = absurd (cc)
is-start file all keep which place s (what.Form (form.Delay width rise fall decay first)) begun there is said = absurd (cc)
is-start file all keep which place s (what.Form (form.EdgeEvent kind ports)) begun there is said = absurd (cc)
is-start file all keep which place s (what.Form (form.NamedEvent name)) begun there is said = absurd (cc)
is-start file all keep which place s (what.Form (form.EventOr events)) begun there is said = absurd (cc)
is-start file all keep which place s (what.Form (form.Thread code when)) begun there is said =
    subst (IsStart (meant file all)) (made-start (is_same_start when which) _ begun said)
    (record {
      address = code-named file all place code (thread-use file all place code when (form-declares file all place s (form.Thread code when) (keep place s there) is));
      stands = current-there file all place s keep there (ap needs_scope is);
    })
is-start file all keep which place s (what.Form form.CodeLabel) begun there is said = absurd (cc)

kind-starts : (file : List ℕ) (all : List Placed) → AllKeep file all → (which : StartKind) → All (IsStart (meant file all)) (threads_at file all which)
kind-starts file all keep which =
    gather-all (IsStart (meant file all)) (λ p s. thread_said file all which (current_scope file all p) s.what) all (λ p s there begun said. is-start file all keep which p s s.what begun there refl said)

pub each-thread : (file : List ℕ) (all : List Placed) → AllKeep file all → All (IsStart (meant file all)) (threads_of file all)
each-thread file all keep =
    All-append (IsStart (meant file all)) (threads_at file all start.Init) (threads_at file all start.Push ++ threads_at file all start.Plain) (kind-starts file all keep start.Init)
    (All-append (IsStart (meant file all)) (threads_at file all start.Push) (threads_at file all start.Plain) (kind-starts file all keep start.Push) (kind-starts file all keep start.Plain))

-- whether a statement starts a thread of a kind
starts : StartKind → What → Bool
starts which (what.Form (form.Thread code when)) = is_same_start when which
starts which _ = false

some-if : (b : Bool) (x : Start) → is_some (if b then Some x else None) ≡ b
some-if true x = refl
some-if false x = refl

start-tests : (file : List ℕ) (all : List Placed) (which : StartKind) (current : ℕ) (w : What) → is_some (thread_said file all which current w) ≡ starts which w
unfolding starts
start-tests file all which current (what.Op o) = refl
start-tests file all which current (what.Form form.Ignored) = refl
start-tests file all which current (what.Form form.Parameter) = refl
start-tests file all which current (what.Form (form.Precision power)) = refl
start-tests file all which current (what.Form (form.Scope kind name source_module number line within)) = refl
start-tests file all which current (what.Form (form.CurrentScope scope)) = refl
start-tests file all which current (what.Form (form.TimeScale unit precision)) = refl
start-tests file all which current (what.Form (form.Variable kind starred name range)) = refl
start-tests file all which current (what.Form (form.Net signed starred name range source)) = refl
start-tests file all which current (what.Form (form.Array kind name first last range)) = refl
start-tests file all which current (what.Form (form.Functor kind width drives ports)) = refl
start-tests file all which current (what.Form (form.Resolver kind ports)) = refl
start-tests file all which current (what.Form (form.Part first base width)) = refl
start-tests file all which current (what.Form (form.PartInto first base width whole)) = refl
start-tests file all which current (what.Form (form.PartFrom signed first base width)) = refl
start-tests file all which current (what.Form (form.Concat widths ports)) = refl
start-tests file all which current (what.Form (form.Arithmetic kind width left right)) = refl
start-tests file all which current (what.Form (form.Compare kind width left right)) = refl
start-tests file all which current (what.Form (form.Shift kind width first amount)) = refl
start-tests file all which current (what.Form (form.Reduce kind first)) = refl
start-tests file all which current (what.Form (form.Repeat width count first)) = refl
start-tests file all which current (what.Form (form.Extend width first)) = refl
start-tests file all which current (what.Form (form.Delay width rise fall decay first)) = refl
start-tests file all which current (what.Form (form.EdgeEvent kind ports)) = refl
start-tests file all which current (what.Form (form.NamedEvent name)) = refl
start-tests file all which current (what.Form (form.EventOr events)) = refl
start-tests file all which current (what.Form (form.Thread code when)) = some-if (is_same_start when which) _
start-tests file all which current (what.Form form.CodeLabel) = refl

one : Bool → ℕ
one b = cond b 1 0

one-kind : (w : What) → one (starts start.Init w) + one (starts start.Push w) + one (starts start.Plain w) ≡ one (is_thread_form w)
unfolding starts one
one-kind (what.Form (form.Thread code start.Init)) = refl
one-kind (what.Form (form.Thread code start.Push)) = refl
one-kind (what.Form (form.Thread code start.Plain)) = refl
one-kind (what.Op o) = refl
one-kind (what.Form form.Ignored) = refl
one-kind (what.Form form.Parameter) = refl
one-kind (what.Form (form.Precision power)) = refl
one-kind (what.Form (form.Scope kind name source_module number line within)) = refl
one-kind (what.Form (form.CurrentScope scope)) = refl
one-kind (what.Form (form.TimeScale unit precision)) = refl
one-kind (what.Form (form.Variable kind starred name range)) = refl
one-kind (what.Form (form.Net signed starred name range source)) = refl
one-kind (what.Form (form.Array kind name first last range)) = refl
one-kind (what.Form (form.Functor kind width drives ports)) = refl
one-kind (what.Form (form.Resolver kind ports)) = refl
one-kind (what.Form (form.Part first base width)) = refl
one-kind (what.Form (form.PartInto first base width whole)) = refl
one-kind (what.Form (form.PartFrom signed first base width)) = refl
one-kind (what.Form (form.Concat widths ports)) = refl
one-kind (what.Form (form.Arithmetic kind width left right)) = refl
one-kind (what.Form (form.Compare kind width left right)) = refl
one-kind (what.Form (form.Shift kind width first amount)) = refl
one-kind (what.Form (form.Reduce kind first)) = refl
one-kind (what.Form (form.Repeat width count first)) = refl
one-kind (what.Form (form.Extend width first)) = refl
one-kind (what.Form (form.Delay width rise fall decay first)) = refl
one-kind (what.Form (form.EdgeEvent kind ports)) = refl
one-kind (what.Form (form.NamedEvent name)) = refl
one-kind (what.Form (form.EventOr events)) = refl
one-kind (what.Form form.CodeLabel) = refl

all-kinds : (xs : List Placed) → count_by (λ s. starts start.Init s.what) xs + count_by (λ s. starts start.Push s.what) xs + count_by (λ s. starts start.Plain s.what) xs ≡ count_by (λ s. is_thread_form s.what) xs
unfolding one
all-kinds [] = refl
all-kinds (s ∷ xs) =
    let more : count_by (λ t. starts start.Init t.what) xs + count_by (λ t. starts start.Push t.what) xs + count_by (λ t. starts start.Plain t.what) xs ≡ count_by (λ t. is_thread_form t.what) xs = all-kinds xs in
    let here : one (starts start.Init s.what) + one (starts start.Push s.what) + one (starts start.Plain s.what) ≡ one (is_thread_form s.what) = one-kind s.what in
    let a : count_by (λ t. starts start.Init t.what) (s ∷ xs) ≡ one (starts start.Init s.what) + count_by (λ t. starts start.Init t.what) xs = sum_by-cons (λ (t : Placed). one (starts start.Init t.what)) s xs in
    let b : count_by (λ t. starts start.Push t.what) (s ∷ xs) ≡ one (starts start.Push s.what) + count_by (λ t. starts start.Push t.what) xs = sum_by-cons (λ (t : Placed). one (starts start.Push t.what)) s xs in
    let c : count_by (λ t. starts start.Plain t.what) (s ∷ xs) ≡ one (starts start.Plain s.what) + count_by (λ t. starts start.Plain t.what) xs = sum_by-cons (λ (t : Placed). one (starts start.Plain t.what)) s xs in
    let d : count_by (λ t. is_thread_form t.what) (s ∷ xs) ≡ one (is_thread_form s.what) + count_by (λ t. is_thread_form t.what) xs = sum_by-cons (λ (t : Placed). one (is_thread_form t.what)) s xs in
    omega (arith, more, here, a, b, c, d)

kind-length : (file : List ℕ) (all : List Placed) (which : StartKind) → length (threads_at file all which) ≡ count_by (λ s. starts which s.what) all
kind-length file all which = gather-length (λ p s. thread_said file all which (current_scope file all p) s.what) (λ s. starts which s.what) all (λ p t. start-tests file all which (current_scope file all p) t.what)

threads-length : (file : List ℕ) (all : List Placed) → length (threads_of file all) ≡ count_by (λ s. is_thread_form s.what) all
threads-length file all =
    let init : length (threads_at file all start.Init) ≡ count_by (λ s. starts start.Init s.what) all = kind-length file all start.Init in
    let push : length (threads_at file all start.Push) ≡ count_by (λ s. starts start.Push s.what) all = kind-length file all start.Push in
    let plain : length (threads_at file all start.Plain) ≡ count_by (λ s. starts start.Plain s.what) all = kind-length file all start.Plain in
    let both : length (threads_at file all start.Push ++ threads_at file all start.Plain) ≡ length (threads_at file all start.Push) + length (threads_at file all start.Plain) = length-append (threads_at file all start.Push) (threads_at file all start.Plain) in
    let whole : length (threads_of file all) ≡ length (threads_at file all start.Init) + length (threads_at file all start.Push ++ threads_at file all start.Plain) = length-append (threads_at file all start.Init) (threads_at file all start.Push ++ threads_at file all start.Plain) in
    let sum : count_by (λ (s : Placed). starts start.Init s.what) all + count_by (λ (s : Placed). starts start.Push s.what) all + count_by (λ (s : Placed). starts start.Plain s.what) all ≡ count_by (λ (s : Placed). is_thread_form s.what) all = all-kinds all in
    omega (arith, init, push, plain, both, whole, sum)

-- Limits

-- a statement within the limits
record IsWithin (all : List Placed) (place : ℕ) (s : Placed) : Type 0 where
  items : (is_item_statement s && nat_le MOST_ITEMS (counts_before all place).items) ≡ false
  opcodes : (is_opcode_what s.what && nat_le MOST_OPCODES (counts_before all place).opcodes) ≡ false
  words : nat_lt MOST_WORDS ((counts_before all place).words + words_in s.what) ≡ false
  starts : (is_thread_form s.what && nat_le MOST_STARTS (counts_before all place).starts) ≡ false

within-of : (all : List Placed) (place : ℕ) (s : Placed) → limit_reached all place s ≡ false → IsWithin all place s
within-of all place s is =
    let first = or_parts _ _ is in
    let second = or_parts _ _ first.0 in
    let third = or_parts _ _ second.0 in
    record { items = third.0; opcodes = third.1; words = second.1; starts = first.1 }

few-of : (test : Bool) (most n : ℕ) → (test && nat_le most n) ≡ false → test ≡ true → n < most
few-of true most n is holds = leb-false most n is
few-of false most n is holds = absurd (cc)

pub few-items : (file : List ℕ) (all : List Placed) → AllKeep file all → length (items_of file all) ≤ MOST_ITEMS
few-items file all keep =
    subst (λ n. n ≤ MOST_ITEMS) (sym (gather-length (λ p s. item_said file all p (current_scope file all p) (is_some s.label) s.what) is_item_statement all (λ p t. item-tests file all p (current_scope file all p) (is_some t.label) t.what)))
    (few-all is_item_statement MOST_ITEMS all (λ place s there is. few-of (is_item_statement s) MOST_ITEMS (counts_before all place).items (within-of all place s (keep place s there).few).items is))

pub few-opcodes : (file : List ℕ) (all : List Placed) → AllKeep file all → length (code_of file all) ≤ MOST_OPCODES
few-opcodes file all keep =
    subst (λ n. n ≤ MOST_OPCODES) (sym (code-length file all))
    (few-all is_opcode_statement MOST_OPCODES all (λ place s there is. few-of (is_opcode_what s.what) MOST_OPCODES (counts_before all place).opcodes (within-of all place s (keep place s there).few).opcodes is))

pub few-threads : (file : List ℕ) (all : List Placed) → AllKeep file all → length (threads_of file all) ≤ MOST_STARTS
few-threads file all keep =
    subst (λ n. n ≤ MOST_STARTS) (sym (threads-length file all))
    (few-all (λ (s : Placed). is_thread_form s.what) MOST_STARTS all (λ place s there is. few-of (is_thread_form s.what) MOST_STARTS (counts_before all place).starts (within-of all place s (keep place s there).few).starts is))

scope-item : (s : Placed) → is_scope_form s.what ≡ true → is_item_statement s ≡ true
unfolding sort_of
scope-item s is = by s.what is
  where
    by : (w : What) → is_scope_form w ≡ true → is_item (sort_of w) (is_some s.label) ≡ true
    by (what.Op o) holds = absurd (cc)
    by (what.Form form.Ignored) holds = absurd (cc)
    by (what.Form form.Parameter) holds = absurd (cc)
    by (what.Form (form.Precision power)) holds = absurd (cc)
    by (what.Form (form.Scope kind name source_module number line within)) holds = refl
    by (what.Form (form.CurrentScope scope)) holds = absurd (cc)
    by (what.Form (form.TimeScale unit precision)) holds = absurd (cc)
    by (what.Form (form.Variable kind starred name range)) holds = absurd (cc)
    by (what.Form (form.Net signed starred name range source)) holds = absurd (cc)
    by (what.Form (form.Array kind name first last range)) holds = absurd (cc)
    by (what.Form (form.Functor kind width drives ports)) holds = absurd (cc)
    by (what.Form (form.Resolver kind ports)) holds = absurd (cc)
    by (what.Form (form.Part first base width)) holds = absurd (cc)
    by (what.Form (form.PartInto first base width whole)) holds = absurd (cc)
    by (what.Form (form.PartFrom signed first base width)) holds = absurd (cc)
    by (what.Form (form.Concat widths ports)) holds = absurd (cc)
    by (what.Form (form.Arithmetic kind width left right)) holds = absurd (cc)
    by (what.Form (form.Compare kind width left right)) holds = absurd (cc)
    by (what.Form (form.Shift kind width first amount)) holds = absurd (cc)
    by (what.Form (form.Reduce kind first)) holds = absurd (cc)
    by (what.Form (form.Repeat width count first)) holds = absurd (cc)
    by (what.Form (form.Extend width first)) holds = absurd (cc)
    by (what.Form (form.Delay width rise fall decay first)) holds = absurd (cc)
    by (what.Form (form.EdgeEvent kind ports)) holds = absurd (cc)
    by (what.Form (form.NamedEvent name)) holds = absurd (cc)
    by (what.Form (form.EventOr events)) holds = absurd (cc)
    by (what.Form (form.Thread code start)) holds = absurd (cc)
    by (what.Form form.CodeLabel) holds = absurd (cc)

pub few-scopes : (file : List ℕ) (all : List Placed) → length (scopes_of file all) ≤ length (items_of file all)
few-scopes file all =
    let fewer : count_by (λ (s : Placed). is_scope_form s.what) all ≤ count_by is_item_statement all = count-fewer (λ (s : Placed). is_scope_form s.what) is_item_statement all scope-item in
    let left : length (scopes_of file all) ≡ count_by (λ (s : Placed). is_scope_form s.what) all = scopes-length file all in
    let right : length (items_of file all) ≡ count_by is_item_statement all = gather-length (λ p s. item_said file all p (current_scope file all p) (is_some s.label) s.what) is_item_statement all (λ p t. item-tests file all p (current_scope file all p) (is_some t.label) t.what) in
    omega (arith, fewer, left, right)

word-count : (file : List ℕ) (all : List Placed) (place scope : ℕ) (labelled : Bool) (w : What) → option_map_or (λ (i : Item). item_words i.what) (item_said file all place scope labelled w) 0 ≡ words_in w
unfolding item_said gate_of other_item
word-count file all place current labelled (what.Op o) = refl
word-count file all place current true (what.Form form.Parameter) = refl
word-count file all place current false (what.Form form.Parameter) = refl
word-count file all place current labelled (what.Form form.Ignored) = refl
word-count file all place current labelled (what.Form (form.Precision power)) = refl
word-count file all place current labelled (what.Form (form.Scope kind name source_module number line within)) = refl
word-count file all place current labelled (what.Form (form.CurrentScope scope)) = refl
word-count file all place current labelled (what.Form (form.TimeScale unit precision)) = refl
word-count file all place current labelled (what.Form (form.Variable kind starred name range)) = refl
word-count file all place current labelled (what.Form (form.Net signed starred name range source)) = refl
word-count file all place current labelled (what.Form (form.Array kind name first last range)) = refl
word-count file all place current labelled (what.Form (form.Functor kind width drives ports)) = refl
word-count file all place current labelled (what.Form (form.Resolver kind ports)) = refl
word-count file all place current labelled (what.Form (form.Part first base width)) = refl
word-count file all place current labelled (what.Form (form.PartInto first base width whole)) = refl
word-count file all place current labelled (what.Form (form.PartFrom signed first base width)) = refl
word-count file all place current labelled (what.Form (form.Concat widths ports)) = refl
word-count file all place current labelled (what.Form (form.Arithmetic kind width left right)) = refl
word-count file all place current labelled (what.Form (form.Compare kind width left right)) = refl
word-count file all place current labelled (what.Form (form.Shift kind width first amount)) = refl
word-count file all place current labelled (what.Form (form.Reduce kind first)) = refl
word-count file all place current labelled (what.Form (form.Repeat width count first)) = refl
word-count file all place current labelled (what.Form (form.Extend width first)) = refl
word-count file all place current labelled (what.Form (form.Delay width rise fall decay first)) = refl
word-count file all place current labelled (what.Form (form.EdgeEvent kind ports)) = refl
word-count file all place current labelled (what.Form (form.NamedEvent name)) = refl
word-count file all place current labelled (what.Form (form.EventOr events)) = refl
word-count file all place current labelled (what.Form (form.Thread code start)) = refl
word-count file all place current labelled (what.Form form.CodeLabel) = refl

pub few-words : (file : List ℕ) (all : List Placed) → AllKeep file all → sum_by (λ item. item_words item.what) (items_of file all) ≤ MOST_WORDS
few-words file all keep =
    subst (λ n. n ≤ MOST_WORDS) (sym (gather-sum (λ (i : Item). item_words i.what) (λ s. words_in s.what) (λ p s. item_said file all p (current_scope file all p) (is_some s.label) s.what) all (λ p t. word-count file all p (current_scope file all p) (is_some t.label) t.what)))
    (sum-all (λ (s : Placed). words_in s.what) MOST_WORDS all (λ place s there. ltb-false MOST_WORDS ((counts_before all place).words + words_in s.what) (within-of all place s (keep place s there).few).words))

-- The tick

abbrev IsPower : ℤ → Type 0
IsPower z = (int_le (negsuc 14) z && int_le z (pos 2)) ≡ true

said-power : (w : What) → IsGiven w → ForSome (precision_said w) IsPower
said-power (what.Op o) given z said = absurd (cc)
said-power (what.Form form.Ignored) given z said = absurd (cc)
said-power (what.Form form.Parameter) given z said = absurd (cc)
said-power (what.Form (form.Precision power)) given z said = subst IsPower (same_Some power z said) given
said-power (what.Form (form.Scope kind name source_module number line within)) given z said = absurd (cc)
said-power (what.Form (form.CurrentScope scope)) given z said = absurd (cc)
said-power (what.Form (form.TimeScale unit precision)) given z said = absurd (cc)
said-power (what.Form (form.Variable kind starred name range)) given z said = absurd (cc)
said-power (what.Form (form.Net signed starred name range source)) given z said = absurd (cc)
said-power (what.Form (form.Array kind name first last range)) given z said = absurd (cc)
said-power (what.Form (form.Functor kind width drives ports)) given z said = absurd (cc)
said-power (what.Form (form.Resolver kind ports)) given z said = absurd (cc)
said-power (what.Form (form.Part first base width)) given z said = absurd (cc)
said-power (what.Form (form.PartInto first base width whole)) given z said = absurd (cc)
said-power (what.Form (form.PartFrom signed first base width)) given z said = absurd (cc)
said-power (what.Form (form.Concat widths ports)) given z said = absurd (cc)
said-power (what.Form (form.Arithmetic kind width left right)) given z said = absurd (cc)
said-power (what.Form (form.Compare kind width left right)) given z said = absurd (cc)
said-power (what.Form (form.Shift kind width first amount)) given z said = absurd (cc)
said-power (what.Form (form.Reduce kind first)) given z said = absurd (cc)
said-power (what.Form (form.Repeat width count first)) given z said = absurd (cc)
said-power (what.Form (form.Extend width first)) given z said = absurd (cc)
said-power (what.Form (form.Delay width rise fall decay first)) given z said = absurd (cc)
said-power (what.Form (form.EdgeEvent kind ports)) given z said = absurd (cc)
said-power (what.Form (form.NamedEvent name)) given z said = absurd (cc)
said-power (what.Form (form.EventOr events)) given z said = absurd (cc)
said-power (what.Form (form.Thread code start)) given z said = absurd (cc)
said-power (what.Form form.CodeLabel) given z said = absurd (cc)

pub tick : (all : List Placed) → AllGiven all → IsPower (precision_of all)
tick all given =
    gather-latest IsPower (λ place s. precision_said s.what) (λ s. is_some (precision_said s.what)) all (pos 0) (λ p t. refl) (λ p s there. said-power s.what (given p s there)) (inl refl)
