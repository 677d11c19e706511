-- The dues and threads of the start, put and started one by one; and that an engine which starts keeps what engines keep.
use Rattle.std.proofs.Common.{◌≡◌, ◌≢◌, ℕ, zero, suc, ◌+◌, ◌<◌, ◌≤◌, Bool, true, false, nat_eq, Option, Some, None, option_map, List, [], ◌∷◌, ◌++◌, length, map, drop, get_or, slice_get, refl, sym, ap, subst, ◌∙◌, arith, append_assoc}
use Rattle.std.specs.List.{All, cons_option, count_by, enumerate_from, filter_map}
use Rattle.std.proofs.lemmas.Bool.Decides.{nat_tests}
use Rattle.std.proofs.lemmas.List.{append-nil}
use Rattle.std.proofs.Math.Seq.{drop-cons}
use Rattle.event_pool.specs.declared.agenda.Due.{Due}
use Rattle.event_pool.specs.declared.agenda.Act.{Act}
use Rattle.event_pool.specs.declared.agenda.Act.TheVariants.{Eval, Run, Update, Mature}
use Rattle.event_pool.specs.Order.{in_order}
use Rattle.event_pool.specs.Pending.{eval_of, is_eval_of, unkeyed, unkeyed_act}
use Rattle.event_pool.specs.Schedule.{Schedule, put_due}
use Rattle.event_pool.proofs.CountLemmas.{count-cons, one_if}
use Rattle.event_pool.proofs.PendingLemmas.{in_order-again, push-same}
use Rattle.sym_link.specs.declared.program.Item.{Item}
use Rattle.sym_link.specs.declared.program.ItemKind.{ItemKind}
use Rattle.sym_link.specs.declared.program.ItemKind.TheVariants as kind
use Rattle.sym_link.specs.Roots.{Node, kind_of, node_of}
use Rattle.net_engine.specs.Net.{NetValues}
use Rattle.net_engine.specs.Kept.{HasOutput, NamesItems, evals_of, has_output, mark_of}
use Rattle.sim_core.specs.Start.{eval_at, eval_by, first_evals}

-- ---- lists of dues in one order

pub append-same : (xs ys zs : List Due) → in_order xs ≡ in_order ys → in_order (xs ++ zs) ≡ in_order (ys ++ zs)
append-same xs ys [] e = ap in_order (append-nil xs) ∙ e ∙ ap in_order (sym (append-nil ys))
append-same xs ys (z ∷ zs) e =
    ap in_order (sym (append_assoc xs (z ∷ []) zs)) ∙ append-same (xs ++ z ∷ []) (ys ++ z ∷ []) zs (push-same xs ys z e) ∙ ap in_order (append_assoc ys (z ∷ []) zs)

-- ---- the evaluations of the start

-- the evaluations of items that are numbered from a number on
abbrev pub evals_from : ℕ → List Node → List Due
evals_from k nodes = filter_map eval_at (enumerate_from k nodes)

eval-some : (k : ℕ) (what : ItemKind) → has_output what ≡ true → eval_by k what ≡ Some (eval_of 0 k)
eval-some k (kind.Functor gate drive ports) h = refl
eval-some k (kind.Delay rise fall decay port) h = refl
eval-some k (kind.Var integer) h = absurd (let none : ⊥ = cc in none)
eval-some k (kind.Net root) h = absurd (let none : ⊥ = cc in none)
eval-some k (kind.Edge edge ports) h = absurd (let none : ⊥ = cc in none)
eval-some k kind.Named h = absurd (let none : ⊥ = cc in none)
eval-some k (kind.AnyOf events) h = absurd (let none : ⊥ = cc in none)
eval-some k (kind.Array words) h = absurd (let none : ⊥ = cc in none)
eval-some k (kind.Scope scope) h = absurd (let none : ⊥ = cc in none)
eval-some k kind.Param h = absurd (let none : ⊥ = cc in none)

eval-none : (k : ℕ) (what : ItemKind) → has_output what ≡ false → eval_by k what ≡ None
eval-none k (kind.Functor gate drive ports) h = absurd (let none : ⊥ = cc in none)
eval-none k (kind.Delay rise fall decay port) h = absurd (let none : ⊥ = cc in none)
eval-none k (kind.Var integer) h = refl
eval-none k (kind.Net root) h = refl
eval-none k (kind.Edge edge ports) h = refl
eval-none k kind.Named h = refl
eval-none k (kind.AnyOf events) h = refl
eval-none k (kind.Array words) h = refl
eval-none k (kind.Scope scope) h = refl
eval-none k kind.Param h = refl

pub evals-some : (k : ℕ) (node : Node) (nodes : List Node) → has_output node.what ≡ true → evals_from k (node ∷ nodes) ≡ eval_of 0 k ∷ evals_from (k + 1) nodes
evals-some k node nodes h = ap (λ (o : Option Due). cons_option o (evals_from (k + 1) nodes)) (eval-some k node.what h)

pub evals-none : (k : ℕ) (node : Node) (nodes : List Node) → has_output node.what ≡ false → evals_from k (node ∷ nodes) ≡ evals_from (k + 1) nodes
evals-none k node nodes h = ap (λ (o : Option Due). cons_option o (evals_from (k + 1) nodes)) (eval-none k node.what h)

-- what was put of the evaluations of some items, of which so many were looked at
pub record ArePut (items : List Item) (start k : ℕ) (s : Schedule) : Type 0 where
  pub time : s.now ≡ 0
  pub turn : in_order s.dues ≡ s.dues
  pub dues : in_order (s.dues ++ evals_from k (map node_of (drop k items))) ≡ in_order (first_evals (map node_of items))
  pub room : s.spare + count_by (λ (item : Item). has_output item.what) items ≡ start + count_by (λ (item : Item). has_output item.what) (drop k items)

pub put-none : (items : List Item) (s : Schedule) → s.now ≡ 0 → s.dues ≡ [] → ArePut items s.spare 0 s
put-none items s now empty = record {
  time = now;
  turn = subst (λ (ds : List Due). in_order ds ≡ ds) (sym empty) refl;
  dues = ap (λ (ds : List Due). in_order (ds ++ evals_from 0 (map node_of items))) empty;
  room = refl;
}

-- there is room for the next
pub put-room : (items rest : List Item) (item : Item) (start k : ℕ) (s : Schedule) → drop k items ≡ item ∷ rest → count_by (λ (i : Item). has_output i.what) items ≤ start → has_output item.what ≡ true → ArePut items start k s → 0 < s.spare
put-room items rest item start k s at enough output p =
    let here : count_by (λ (i : Item). has_output i.what) (drop k items) ≡ 1 + count_by (λ (i : Item). has_output i.what) rest =
    ap (count_by (λ (i : Item). has_output i.what)) at ∙ count-cons (λ (i : Item). has_output i.what) item rest ∙ ap (λ (b : Bool). one_if b + count_by (λ (i : Item). has_output i.what) rest) output in
    omega (arith, here, p.room, enough)

pub put-more : (items rest : List Item) (item : Item) (start k : ℕ) (old new : Schedule) → drop k items ≡ item ∷ rest → drop (k + 1) items ≡ rest
    → (has_output item.what ≡ true → new ≡ put_due old (eval_of 0 k)) → (has_output item.what ≡ false → new ≡ old) → count_by (λ (i : Item). has_output i.what) items ≤ start → ArePut items start k old → ArePut items start (k + 1) new
put-more items rest item start k old new at next some none enough p = go (has_output item.what) refl where
  left : List Due
  left = evals_from (k + 1) (map node_of rest)

  dues_at : in_order (old.dues ++ evals_from k (node_of item ∷ map node_of rest)) ≡ in_order (first_evals (map node_of items))
  dues_at = ap (λ (xs : List Item). in_order (old.dues ++ evals_from k (map node_of xs))) (sym at) ∙ p.dues

  next_dues : (ds : List Due) → in_order (ds ++ left) ≡ in_order (first_evals (map node_of items)) → in_order (ds ++ evals_from (k + 1) (map node_of (drop (k + 1) items))) ≡ in_order (first_evals (map node_of items))
  next_dues ds e = ap (λ (xs : List Item). in_order (ds ++ evals_from (k + 1) (map node_of xs))) next ∙ e

  counts : count_by (λ (i : Item). has_output i.what) (drop k items) ≡ one_if (has_output item.what) + count_by (λ (i : Item). has_output i.what) (drop (k + 1) items)
  counts =
      ap (count_by (λ (i : Item). has_output i.what)) at ∙ count-cons (λ (i : Item). has_output i.what) item rest
      ∙ ap (λ (xs : List Item). one_if (has_output item.what) + count_by (λ (i : Item). has_output i.what) xs) (sym next)

  go : (b : Bool) → has_output item.what ≡ b → ArePut items start (k + 1) new
  go true output =
      let due = eval_of 0 k in
      let is = some output in
      let room : 0 < old.spare = put-room items rest item start k old at enough output p in
      subst (λ (s : Schedule). ArePut items start (k + 1) s) (sym is) (record {
        time = p.time;
        turn = in_order-again (old.dues ++ due ∷ []);
        dues = next_dues (in_order (old.dues ++ due ∷ []))
            (append-same (in_order (old.dues ++ due ∷ [])) (old.dues ++ due ∷ []) left (in_order-again (old.dues ++ due ∷ []))
            ∙ ap in_order (append_assoc old.dues (due ∷ []) left)
            ∙ ap (λ (ds : List Due). in_order (old.dues ++ ds)) (sym (evals-some k (node_of item) (map node_of rest) output)) ∙ dues_at);
        room = omega (arith, p.room, counts, ap one_if output, room);
      })
  go false output =
      subst (λ (s : Schedule). ArePut items start (k + 1) s) (sym (none output)) (record {
        time = p.time;
        turn = p.turn;
        dues = next_dues old.dues (ap (λ (ds : List Due). in_order (old.dues ++ ds)) (sym (evals-none k (node_of item) (map node_of rest) output)) ∙ dues_at);
        room = omega (arith, p.room, counts, ap one_if output);
      })

-- what is left at a place
pub left-at : {X : Type 0} (xs : List X) (k : ℕ) (d : X) → k < length xs → drop k xs ≡ get_or xs k d ∷ drop (k + 1) xs
left-at xs k d within = drop-cons xs k d within ∙ (let more : suc k ≡ k + 1 = omega arith in ap (λ (n : ℕ). get_or xs k d ∷ drop n xs) more)

drop-all : {X : Type 0} (xs : List X) → drop (length xs) xs ≡ []
drop-all [] = refl
drop-all (x ∷ xs) = drop-all xs

pub put-all : (items : List Item) (start k : ℕ) (s : Schedule) → k ≡ length items → ArePut items start k s
    → (s.dues ≡ in_order (first_evals (map node_of items))) × (s.spare + count_by (λ (item : Item). has_output item.what) items ≡ start)
put-all items start k s e p =
    let none : drop k items ≡ [] = ap (λ (n : ℕ). drop n items) e ∙ drop-all items in (
      sym p.turn ∙ ap in_order (sym (append-nil s.dues)) ∙ ap (λ (xs : List Item). in_order (s.dues ++ evals_from k (map node_of xs))) (sym none) ∙ p.dues,
      (let count : count_by (λ (item : Item). has_output item.what) (drop k items) ≡ 0 = ap (count_by (λ (item : Item). has_output item.what)) none in omega (arith, p.room, count)),
    )

-- ---- the marks of the start

evals-below : (nodes : List Node) (k i : ℕ) → i < k → evals_of i (evals_from k nodes) ≡ 0
evals-below [] k i below = refl
evals-below (node ∷ nodes) k i below = go (has_output node.what) refl (evals-below nodes (k + 1) i (omega (arith, below))) where
  go : (b : Bool) → has_output node.what ≡ b → evals_of i (evals_from (k + 1) nodes) ≡ 0 → evals_of i (evals_from k (node ∷ nodes)) ≡ 0
  go true h rest =
      let apart : nat_eq k i ≡ false = (let unlike : k ≢ i = (λ e. (let none : ⊥ = omega (arith, e, below) in none)) in grind (arith, nat_tests)) in
      ap (evals_of i) (evals-some k node nodes h) ∙ (let test : Due → Bool = λ due. is_eval_of i due.act in omega (arith, count-cons test (eval_of 0 k) (evals_from (k + 1) nodes), ap one_if apart, rest))
  go false h rest = ap (evals_of i) (evals-none k node nodes h) ∙ rest

marks-from : (nodes : List Node) (k j : ℕ) → evals_of (k + j) (evals_from k nodes) ≡ mark_of (map (λ (node : Node). has_output node.what) nodes) j
marks-from [] k j = refl
marks-from (node ∷ nodes) k zero = go (has_output node.what) refl (evals-below nodes (k + 1) (k + zero) (omega arith)) where
  go : (b : Bool) → has_output node.what ≡ b → evals_of (k + zero) (evals_from (k + 1) nodes) ≡ 0 → evals_of (k + zero) (evals_from k (node ∷ nodes)) ≡ one_if (has_output node.what)
  go true h rest =
      let same : nat_eq k (k + zero) ≡ true = (let e : k ≡ k + zero = omega arith in grind (arith, nat_tests)) in
      ap (evals_of (k + zero)) (evals-some k node nodes h) ∙ (let test : Due → Bool = λ due. is_eval_of (k + zero) due.act in omega (arith, count-cons test (eval_of 0 k) (evals_from (k + 1) nodes), ap one_if same, rest, ap one_if h))
  go false h rest = ap (evals_of (k + zero)) (evals-none k node nodes h) ∙ rest ∙ sym (ap one_if h)
marks-from (node ∷ nodes) k (suc j) = go (has_output node.what) refl (marks-from nodes (k + 1) j) where
  moved : k + 1 + j ≡ k + suc j
  moved = omega arith

  go : (b : Bool) → has_output node.what ≡ b → evals_of (k + 1 + j) (evals_from (k + 1) nodes) ≡ mark_of (map (λ (n : Node). has_output n.what) nodes) j
      → evals_of (k + suc j) (evals_from k (node ∷ nodes)) ≡ mark_of (map (λ (n : Node). has_output n.what) nodes) j
  go true h rest =
      let apart : nat_eq k (k + suc j) ≡ false = (let unlike : k ≢ k + suc j = (λ e. (let none : ⊥ = omega (arith, e) in none)) in grind (arith, nat_tests)) in
      let there : evals_of (k + suc j) (evals_from (k + 1) nodes) ≡ mark_of (map (λ (n : Node). has_output n.what) nodes) j = ap (λ (i : ℕ). evals_of i (evals_from (k + 1) nodes)) (sym moved) ∙ rest in
      ap (evals_of (k + suc j)) (evals-some k node nodes h) ∙ (let test : Due → Bool = λ due. is_eval_of (k + suc j) due.act in omega (arith, count-cons test (eval_of 0 k) (evals_from (k + 1) nodes), ap one_if apart, there))
  go false h rest = ap (evals_of (k + suc j)) (evals-none k node nodes h) ∙ ap (λ (i : ℕ). evals_of i (evals_from (k + 1) nodes)) (sym moved) ∙ rest

-- each item with an output is marked, and its evaluation is pending
pub first-marks : (nodes : List Node) (item : ℕ) → evals_of item (first_evals nodes) ≡ mark_of (map (λ (node : Node). has_output node.what) nodes) item
first-marks nodes item = (let here : 0 + item ≡ item = omega arith in ap (λ (i : ℕ). evals_of i (first_evals nodes)) (sym here) ∙ marks-from nodes 0 item)

-- ---- what the dues of the start name

unkeyed-evals : (item : ℕ) (act : Act) → is_eval_of item (unkeyed_act act) ≡ is_eval_of item act
unkeyed-evals item (Eval other) = refl
unkeyed-evals item (Run serial key) = refl
unkeyed-evals item (Update other word offset value) = refl
unkeyed-evals item (Mature other number) = refl

pub evals-keyed : (item : ℕ) (dues : List Due) → evals_of item (map unkeyed dues) ≡ evals_of item dues
evals-keyed item [] = refl
evals-keyed item (due ∷ dues) =
    let test : Due → Bool = λ d. is_eval_of item d.act in
    omega (arith, count-cons test (unkeyed due) (map unkeyed dues), count-cons test due dues, evals-keyed item dues, ap one_if (unkeyed-evals item due.act))

-- what holds of each act without its key
pub acts-keyed : (P : Act → Type 0) → ((act : Act) → P (unkeyed_act act) → P act) → (dues : List Due) → All (λ (due : Due). P due.act) (map unkeyed dues) → All (λ (due : Due). P due.act) dues
acts-keyed P back dues all = λ k d within. go dues all k d within where
  go : (ds : List Due) → All (λ (due : Due). P due.act) (map unkeyed ds) → (k : ℕ) (d : Due) → k < length ds → P (get_or ds k d).act
  go [] h k d within = absurd (omega arith)
  go (x ∷ xs) h zero d within = back x.act (h zero d (omega arith))
  go (x ∷ xs) h (suc k) d within = go xs (λ j e below. h (suc j) e (omega (arith, below))) k d (omega arith)

pub names-keyed : (nodes : List Node) (values : NetValues) (act : Act) → NamesItems nodes values (unkeyed_act act) → NamesItems nodes values act
names-keyed nodes values (Eval item) h = h
names-keyed nodes values (Run serial key) h = h
names-keyed nodes values (Update item word offset value) h = h
names-keyed nodes values (Mature item number) h = h

All-first : {X : Type 0} (P : X → Type 0) (x : X) (xs : List X) → P x → All P xs → All P (x ∷ xs)
All-first {X = X} P x xs first rest = λ k d within. go k d within where
  go : (k : ℕ) (d : X) → k < length (x ∷ xs) → P (get_or (x ∷ xs) k d)
  go zero d within = first
  go (suc k) d within = rest k d (omega arith)

evals-named : (whole nodes : List Node) (values : NetValues) (k : ℕ) → ((j : ℕ) (node : Node) → slice_get nodes j ≡ Some node → slice_get whole (k + j) ≡ Some node) → All (λ (due : Due). NamesItems whole values due.act) (evals_from k nodes)
evals-named whole [] values k there = λ j d within. absurd (omega arith)
evals-named whole (node ∷ nodes) values k there =
    go (has_output node.what) refl (evals-named whole nodes values (k + 1) (λ j n at. (let moved : k + suc j ≡ k + 1 + j = omega arith in subst (λ (i : ℕ). slice_get whole i ≡ Some n) moved (there (suc j) n at))))
  where
    go : (b : Bool) → has_output node.what ≡ b → All (λ (due : Due). NamesItems whole values due.act) (evals_from (k + 1) nodes) → All (λ (due : Due). NamesItems whole values due.act) (evals_from k (node ∷ nodes))
    go true h rest =
        let at : slice_get whole k ≡ Some node = (let here : k + zero ≡ k = omega arith in subst (λ (i : ℕ). slice_get whole i ≡ Some node) here (there zero node refl)) in
        let named : HasOutput (kind_of whole k) = subst (λ (o : Option Node). HasOutput (option_map (λ (n : Node). n.what) o)) (sym at) h in
        subst (λ (ds : List Due). All (λ (due : Due). NamesItems whole values due.act) ds) (sym (evals-some k node nodes h))
        (All-first (λ (due : Due). NamesItems whole values due.act) (eval_of 0 k) (evals_from (k + 1) nodes) named rest)
    go false h rest = subst (λ (ds : List Due). All (λ (due : Due). NamesItems whole values due.act) ds) (sym (evals-none k node nodes h)) rest

pub first-named : (nodes : List Node) (values : NetValues) → All (λ (due : Due). NamesItems nodes values due.act) (first_evals nodes)
first-named nodes values = evals-named nodes nodes values 0 (λ j node at. (let here : j ≡ 0 + j = omega arith in subst (λ (i : ℕ). slice_get nodes i ≡ Some node) here at))
