-- One turn of a walk that is followed, and of a path that is settled.
use Rattle.std.proofs.Common.{◌≡◌, ◌⊎◌, inl, inr, ℕ, zero, suc, ◌+◌, ◌<◌, ◌≤◌, List, [], ◌∷◌, ◌++◌, length, get_or, map, replicate, reverse, Some, refl, sym, ap, subst, ◌∙◌, arith}
use Rattle.std.proofs.lemmas.Bool.{cases_eq}
use Rattle.std.proofs.lemmas.List.{length-replicate, reverse-append}
use Rattle.std.proofs.lemmas.List.Sums.{count_by-le-length}
use Rattle.std.proofs.lemmas.Option.{get_or_from_slice_get, slice_get-get_or}
use Rattle.std.specs.Prelude.{slice_get, slice_set}
use Rattle.sym_link.specs.declared.walks.Mark.{Mark}
use Rattle.sym_link.specs.declared.walks.Mark.TheVariants.{New, Open, Known}
use Rattle.sym_link.specs.declared.walks.Step.{Step}
use Rattle.sym_link.specs.declared.walks.Step.TheVariants.{Stray, On}
use Rattle.sym_link.specs.declared.walks.Turn.TheVariants.{Ended, Onward}
use Rattle.sym_link.specs.declared.walks.Walk.{Walk}
use Rattle.sym_link.specs.declared.walks.Walk.TheVariants.{Endless}
use Rattle.sym_link.specs.Marks.{IsDone, IsEnd, IsOn, Keeps, LedTo, Marked, Stands, Turned, end_of, is_known, known_count, noted}
use Rattle.sym_link.specs.Walks.{step_at, walk_from, walks_from, walks_of}
use Rattle.sym_link.proofs.MarkLemmas.{Noted, kept-open, marked-open, new-open, noted-so}
use Rattle.sym_link.proofs.WalkLemmas.{end-on, endless}

-- a place that is open is one of the trail's
pub turned-open : (steps : List Step) (marks : List Mark) (trail : List ℕ) (at : ℕ) → Marked steps marks trail → LedTo steps at trail → slice_get marks at ≡ Some Open → Turned steps marks marks trail trail at (Ended Endless)
turned-open steps marks trail at m led is =
    let on : IsOn trail at = m.opened at is in
    (record { marked = m; at = at; led = led; ends = λ more le. endless steps at trail led on more at on }, λ place done. done, inl on, refl)

-- a walk that ends at a new place
pub turned-end : (steps : List Step) (marks : List Mark) (trail : List ℕ) (at : ℕ) (end : Walk) → Marked steps marks trail → LedTo steps at trail → slice_get marks at ≡ Some New → ((moves : ℕ) → IsEnd steps moves at end) → Turned steps marks (noted marks at end) trail trail at (Ended end)
turned-end steps marks trail at end m led is ends =
    let n : Noted steps marks (noted marks at end) trail at end = noted-so steps marks trail trail at end New m (λ p on. inr on) (ends (known_count marks + 1)) is in
    (record { marked = n.marked; at = at; led = led; ends = n.ends }, n.kept, inr n.done, refl)

-- a walk that goes on from a new place
pub turned-on : (steps : List Step) (marks : List Mark) (path : List ℕ) (at to : ℕ) → Marked steps marks (reverse path) → slice_get marks at ≡ Some New → step_at steps at ≡ On to → Turned steps marks (slice_set marks at Open) (reverse path) (reverse (path ++ at ∷ [])) at (Onward to)
turned-on steps marks path at to m is goes =
    let longer : reverse (path ++ at ∷ []) ≡ at ∷ reverse path = reverse-append path (at ∷ []) in
    (subst (Marked steps (slice_set marks at Open)) (sym longer) (marked-open steps marks (reverse path) at m is), longer, goes, kept-open marks at is, new-open marks at is)

-- Settling

step-within : (steps : List Step) (p to : ℕ) → step_at steps p ≡ On to → p < length steps
step-within [] p to is = absurd (cc)
step-within (s ∷ steps) zero to is = omega arith
step-within (s ∷ steps) (suc p) to is = let less : p < length steps = step-within steps p to is in omega arith

pub record Settled (steps : List Step) (old new : List Mark) (trail : List ℕ) (place : ℕ) (end : Walk) : Type 0 where
  pub stands : Stands steps new trail end
  pub kept : Keeps old new
  pub done : IsDone new place

-- the latest place of a trail ends as the one that it leads to
pub settled-more : (steps : List Step) (marks : List Mark) (path front : List ℕ) (place : ℕ) (end : Walk) → Stands steps marks (reverse path) end → path ≡ front ++ place ∷ [] → Settled steps marks (noted marks place end) (reverse front) place end
settled-more steps marks path front place end s is = by (subst (λ l. Stands steps marks l end) longer s)
  where
    longer : reverse path ≡ place ∷ reverse front
    longer = ap reverse is ∙ reverse-append front (place ∷ [])

    by : Stands steps marks (place ∷ reverse front) end → Settled steps marks (noted marks place end) (reverse front) place end
    by s = record { stands = record { marked = n.marked; at = place; led = s.led.1; ends = n.ends }; kept = n.kept; done = n.done }
      where
        within : place < length marks
        within = let less : place < length steps = step-within steps place s.at s.led.0 in subst (λ k. place < k) (sym s.marked.same) less

        n : Noted steps marks (noted marks place end) (reverse front) place end
        n = noted-so steps marks (place ∷ reverse front) (reverse front) place end (get_or marks place New) s.marked (λ p on. on) (end-on steps place s.at (known_count marks) end s.led.0 s.ends) (slice_get-get_or marks place New within)

-- What is at a place

pub mark-is : (steps : List Step) (marks : List Mark) (trail : List ℕ) (at : ℕ) (d m : Mark) → Marked steps marks trail → at < length steps → get_or marks at d ≡ m → slice_get marks at ≡ Some m
mark-is steps marks trail at d m marked lt is = slice_get-get_or marks at d (subst (λ k. at < k) (sym marked.same) lt) ∙ ap Some is

pub step-is : (steps : List Step) (at : ℕ) (d s : Step) → at < length steps → get_or steps at d ≡ s → step_at steps at ≡ s
step-is steps at d s lt is = get_or_from_slice_get steps at s Stray (slice_get-get_or steps at d lt ∙ ap Some is)

-- Following

pub step-there : (steps : List Step) (at to : ℕ) → step_at steps at ≡ On to → slice_get steps at ≡ Some (On to)
step-there [] at to is = absurd (cc)
step-there (s ∷ steps) zero to is = ap Some is
step-there (s ∷ steps) (suc at) to is = step-there steps at to is

-- the trail after a turn leads to where the walk goes on
pub led-more : (steps : List Step) (at to : ℕ) (trail trail' : List ℕ) → LedTo steps at trail → trail' ≡ at ∷ trail → step_at steps at ≡ On to → LedTo steps to trail'
led-more steps at to trail trail' led is goes = subst (LedTo steps to) (sym is) (goes, led)

pub begun-more : (at to from : ℕ) (trail trail' : List ℕ) → IsOn trail from ⊎ (at ≡ from) → trail' ≡ at ∷ trail → IsOn trail' from ⊎ (to ≡ from)
begun-more at to from trail trail' (inl on) is = inl (subst (λ l. IsOn l from) (sym is) (inr on))
begun-more at to from trail trail' (inr same) is = inl (subst (λ l. IsOn l from) (sym is) (inl same))

pub begun-end : (marks : List Mark) (at from : ℕ) (trail trail' : List ℕ) → IsOn trail from ⊎ (at ≡ from) → IsOn trail' at ⊎ IsDone marks at → trail' ≡ trail → IsOn trail' from ⊎ IsDone marks from
begun-end marks at from trail trail' (inl on) there is = inl (subst (λ l. IsOn l from) (sym is) on)
begun-end marks at from trail trail' (inr same) (inl on) is = inl (subst (IsOn trail') same on)
begun-end marks at from trail trail' (inr same) (inr done) is = inr (subst (IsDone marks) same done)

-- Settling all

-- once the latest place is settled, those before it are on the trail, or done
pub done-more : (old new : List Mark) (path front : List ℕ) (place p : ℕ) → path ≡ front ++ place ∷ [] → Keeps old new → IsDone new place → IsOn (reverse path) p ⊎ IsDone old p → IsOn (reverse front) p ⊎ IsDone new p
done-more old new path front place p is kept done (inr known) = inr (kept p known)
done-more old new path front place p is kept done (inl on) = by (subst (λ l. IsOn l p) (ap reverse is ∙ reverse-append front (place ∷ [])) on)
  where
    by : IsOn (place ∷ reverse front) p → IsOn (reverse front) p ⊎ IsDone new p
    by (inl same) = inr (subst (IsDone new) same done)
    by (inr there) = inl there

pub done-all : (marks : List Mark) (path : List ℕ) (p : ℕ) → path ≡ [] → IsOn (reverse path) p ⊎ IsDone marks p → IsDone marks p
done-all marks path p is (inr done) = done
done-all marks path p is (inl on) = absurd (subst (λ l. IsOn (reverse l) p) is on)

-- Starting

pub begun-new : (steps : List Step) (marks : List Mark) → length marks ≡ length steps → ((place : ℕ) (m : Mark) → slice_get marks place ≡ Some m → m ≡ New) → Marked steps marks []
begun-new steps marks same fresh = record {
  same = same;
  known = λ place end is. absurd (cc (fresh place (Known end) is));
  opened = λ place is. absurd (cc (fresh place Open is));
}

-- One more walk

-- a place that was on the path is done once the path is settled
pub done-from : (marks : List Mark) (path : List ℕ) (from : ℕ) (mid : List Mark) → IsOn (reverse path) from ⊎ IsDone mid from → ((p : ℕ) → IsOn (reverse path) p → IsDone marks p) → Keeps mid marks → IsDone marks from
done-from marks path from mid (inl on) done kept = done from on
done-from marks path from mid (inr is) done kept = kept from is

pub done-next : (old mid new : List Mark) (from : ℕ) → ((p : ℕ) → p < from → IsDone old p) → Keeps old mid → Keeps mid new → IsDone new from → (p : ℕ) → p < from + 1 → IsDone new p
done-next old mid new from done first then' is p lt = by (cases_eq p from)
  where
    by : (p ≡ from) ⊎ (p ≡ from → ⊥) → IsDone new p
    by (inl same) = subst (IsDone new) (sym same) is
    by (inr other) = let less : p < from = omega (arith, lt, other) in then' p (first p (done p less))

-- All walks

ends-from : (steps : List Step) (start : ℕ) (marks : List Mark) (more : List Step) → length marks ≡ length more → ((k : ℕ) → k < length marks → (e : Walk) × (slice_get marks k ≡ Some (Known e)) × (walk_from steps (start + k) ≡ e)) → map end_of marks ≡ walks_from steps start more
ends-from steps start [] [] same ends = refl
ends-from steps start [] (s ∷ more) same ends = absurd (omega (arith, same))
ends-from steps start (m ∷ marks) [] same ends = absurd (omega (arith, same))
ends-from steps start (m ∷ marks) (s ∷ more) same ends =
    ap (λ w. w ∷ map end_of marks) first
    ∙ ap (λ l. walk_from steps start ∷ l) (ends-from steps (start + 1) marks more rest later)
  where
    first : end_of m ≡ walk_from steps start
    first = let lt : 0 < length (m ∷ marks) = omega arith in let at = ends 0 lt in let mark : m ≡ Known at.0 = cc at.1 in let here : start + 0 ≡ start = omega arith in ap end_of mark ∙ sym at.2 ∙ ap (walk_from steps) here

    rest : length marks ≡ length more
    rest = omega (arith, same)

    later : (k : ℕ) → k < length marks → (e : Walk) × (slice_get marks k ≡ Some (Known e)) × (walk_from steps (start + 1 + k) ≡ e)
    later k lt = let next : suc k < length (m ∷ marks) = omega (arith, lt) in let at = ends (suc k) next in let here : start + 1 + k ≡ start + suc k = omega arith in (at.0, at.1, ap (walk_from steps) here ∙ at.2)

-- the marks say how all walks end
pub ends-all : (steps : List Step) (marks : List Mark) → Marked steps marks [] → ((place : ℕ) → place < length steps → IsDone marks place) → map end_of marks ≡ walks_of steps
unfolding walks_of
ends-all steps marks m done = ends-from steps 0 marks steps m.same at
  where
    at : (k : ℕ) → k < length marks → (e : Walk) × (slice_get marks k ≡ Some (Known e)) × (walk_from steps (0 + k) ≡ e)
    at k lt =
        let within : k < length steps = subst (λ n. k < n) m.same lt in
        let d = done k within in
        let few : known_count marks ≤ length steps = subst (λ n. known_count marks ≤ n) m.same (count_by-le-length is_known marks) in
        let here : 0 + k ≡ k = omega arith in
        (d.0, d.1, ap (walk_from steps) here ∙ m.known k d.0 d.1 (length steps) few)

-- marks that are all new
new-at : (n k : ℕ) (m : Mark) → slice_get (replicate n New) k ≡ Some m → m ≡ New
new-at zero k m is = absurd (cc)
new-at (suc n) zero m is = sym (cc is)
new-at (suc n) (suc k) m is = new-at n k m is

pub marked-new : (steps : List Step) (marks : List Mark) → marks ≡ replicate (length steps) New → Marked steps marks []
marked-new steps marks is = begun-new steps marks (ap length is ∙ length-replicate (length steps) New) (λ place m there. new-at (length steps) place m (sym (ap (λ l. slice_get l place) is) ∙ there))
