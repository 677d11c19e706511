-- Texts that are said one after another.
use Rattle.std.proofs.Common.{◌≡◌, ℕ, zero, suc, ◌<◌, ◌≤◌, List, [], ◌∷◌, ◌++◌, length, take, drop, get_or, Option, None, Some, inl, inr, refl, sym, ap, ◌∙◌, append_assoc, arith}
use Rattle.std.specs.Borrow.{Bor}
use Rattle.std.specs.List.{flat_map}
use Rattle.std.specs.Prelude.{Result, Ok, Err, codes, decimal}
use Rattle.std.specs.Io.KnownBytes.{append_known}
use Rattle.vvp_edge.specs.Bytes.{IsPrefix}
use Rattle.vvp_edge.specs.Causes.{Rose}
use Rattle.op_exec.specs.declared.effect.TrapKind.{TrapKind}
use Rattle.vvp_top.specs.declared.refusal.Why.{Why}
use Rattle.vvp_top.specs.declared.outcome.Outcome.{Outcome}
use Rattle.vvp_top.specs.declared.outcome.Outcome.TheVariants.{Refused, Trap}
use Rattle.vvp_top.specs.declared.report.Counts.{Counts}
use Rattle.vvp_top.specs.declared.report.Report.{Report}
use Rattle.vvp_top.specs.Ends.{Says, SaysOrFails}
use Rattle.vvp_top.specs.Texts.{counts_line, counts_text, ending_name, line_of, lines_of, trap_name, why_text}
use Rattle.vvp_top.proofs.DeliveryLemmas.{append_known-append, prefix-after, prefix-whole}

-- a text that is lent
abbrev pub Lent : Type 0
Lent = Bor (List ℕ)

flat_map-split : (texts : List Lent) (i : ℕ) (d : Lent) → i < length texts → flat_map (λ t. t.now) texts ≡ flat_map (λ t. t.now) (take i texts) ++ ((get_or texts i d).now ++ flat_map (λ t. t.now) (drop (suc i) texts))
flat_map-split [] i d lt = absurd (let none : ⊥ = omega (arith, lt) in none)
flat_map-split (t ∷ texts) zero d lt = refl
flat_map-split (t ∷ texts) (suc i) d lt =
    let within : i < length texts = omega (arith, lt) in
    ap (λ bytes. t.now ++ bytes) (flat_map-split texts i d within)
    ∙ sym (append_assoc t.now (flat_map (λ q. q.now) (take i texts)) ((get_or texts i d).now ++ flat_map (λ q. q.now) (drop (suc i) texts)))

-- a front of the texts was said, and the sink has failed
pub said-cut : (texts : List Lent) (i : ℕ) (d : Lent) (known held held' : Option (List ℕ)) (before mid now : ℕ) → i < length texts
    → held ≡ append_known known (flat_map (λ t. t.now) (take i texts)) → before ≤ mid → ((sent : List ℕ) × IsPrefix sent (get_or texts i d).now × (held' ≡ append_known held sent)) → Rose mid now
    → (front : List ℕ) × IsPrefix front (flat_map (λ t. t.now) texts) × (held' ≡ append_known known front) × Rose before now
said-cut texts i d known held held' before mid now lt so_far later (sent, (rest, whole), more) rose =
    let said = flat_map (λ (t : Lent). t.now) (take i texts) in
    let left = flat_map (λ (t : Lent). t.now) (drop (suc i) texts) in (
      said ++ sent,
      (rest ++ left, flat_map-split texts i d lt ∙ ap (λ bytes. said ++ (bytes ++ left)) whole ∙ ap (λ bytes. said ++ bytes) (append_assoc sent rest left) ∙ sym (append_assoc said sent (rest ++ left))),
      more ∙ ap (λ k. append_known k sent) so_far ∙ append_known-append known said sent,
      (let earlier : Rose before now = omega (arith, rose, later) in earlier),
    )

-- as a call without an answer says it
pub says-any : {T E : Type 0} (result : Result T E) (text : List ℕ) (held held' : Option (List ℕ)) (before now : ℕ) → SaysOrFails result text held held' before now → Says text held held' before now
says-any (Ok x) text held held' before now said = (text, prefix-whole text, said, inr refl)
says-any (Err e) text held held' before now (front, part, is, rose) = (front, part, is, inl rose)

-- ---- lines

pub refusal-line : (outcome : Outcome) (line : ℕ) (why : Why) (digits text : List ℕ) → outcome ≡ Refused line why → digits ≡ decimal line → text ≡ why_text why
    → codes "vvp: line " ++ (digits ++ (codes ": " ++ (text ++ (codes "\n" ++ [])))) ≡ line_of outcome
refusal-line outcome line why digits text is d t = rw (d, t, is) refl

pub trap-line : (outcome : Outcome) (kind : TrapKind) (address : ℕ) (name digits : List ℕ) → outcome ≡ Trap kind address → name ≡ trap_name kind → digits ≡ decimal address
    → codes "vvp: trap " ++ (name ++ (codes " at " ++ (digits ++ (codes "\n" ++ [])))) ≡ line_of outcome
trap-line outcome kind address name digits is n d = rw (n, d, is) refl

pub counts-line : (outcome : Outcome) (counts : Counts) (name time steps peak : List ℕ) → name ≡ ending_name outcome → time ≡ decimal counts.time → steps ≡ decimal counts.steps → peak ≡ decimal counts.peak
    → codes "ending=" ++ (name ++ (codes " time=" ++ (time ++ (codes " steps=" ++ (steps ++ (codes " peak=" ++ (peak ++ (codes "\n" ++ [])))))))) ≡ counts_line outcome counts
unfolding counts_line
counts-line outcome counts name time steps peak n t s p = rw (n, t, s, p) refl

-- ---- two texts, one after the other

pub says-both : (first second : List ℕ) (held mid held' : Option (List ℕ)) (before between now : ℕ) → mid ≡ append_known held first → before ≤ between → Says second mid held' between now
    → Says (first ++ second) held held' before now
says-both first second held mid held' before between now said later (front, part, is, ends) = (
  first ++ front,
  prefix-after first front second part,
  is ∙ ap (λ (k : Option (List ℕ)). append_known k front) said ∙ append_known-append held first front,
  elim ends [ inl rose ↦ inl (let earlier : Rose before now = omega (arith, rose, later) in earlier) | inr whole ↦ inr (ap (λ (b : List ℕ). first ++ b) whole) ],
)

pub says-first : (first second : List ℕ) (held held' : Option (List ℕ)) (before now : ℕ) → ((front : List ℕ) × IsPrefix front first × (held' ≡ append_known held front) × Rose before now)
    → Says (first ++ second) held held' before now
says-first first second held held' before now (front, (rest, whole), is, rose) =
    (front, (rest ++ second, ap (λ (b : List ℕ). b ++ second) whole ∙ append_assoc front rest second), is, inl rose)

-- the lines of a report by its counts
pub lines-none : (report : Report) → report.counts ≡ None → lines_of report ≡ line_of report.outcome
lines-none report none = ap (λ (c : Option Counts). counts_text report.outcome c ++ line_of report.outcome) none

pub lines-some : (report : Report) (counts : Counts) → report.counts ≡ Some counts → lines_of report ≡ counts_line report.outcome counts ++ line_of report.outcome
lines-some report counts some = ap (λ (c : Option Counts). counts_text report.outcome c ++ line_of report.outcome) some
