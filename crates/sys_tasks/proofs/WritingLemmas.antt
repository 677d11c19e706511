-- What a phase writes goes on from what was written before.
use Rattle.std.proofs.Common.{◌≡◌, ℕ, ◌+◌, Bool, true, false, eqb, eq-eqb, List, [], ◌∷◌, ◌++◌, length, take, drop, refl, sym, ap, ◌∙◌, subst, arith, append_assoc, length-append}
use Rattle.std.specs.Prelude.{if◌then◌else◌}
use Rattle.std.specs.List.{fold}
use Rattle.std.proofs.lemmas.Bool.{ne_eqb}
use Rattle.std.proofs.lemmas.List.{append-nil, append_cancel_left, take-append-drop, take_at}
use Rattle.std.proofs.lemmas.List.Sums.{fold-append}
use Rattle.four_state.specs.declared.bits.Bit.{Bit}
use Rattle.vcd_write.specs.declared.types.Section.{Section}
use Rattle.vcd_write.specs.declared.types.Section.TheVariants as section
use Rattle.vcd_write.specs.Section.{section_text, time_text, written_by}
use Rattle.sys_tasks.specs.Conditions.{IsBetween}
use Rattle.sys_tasks.specs.Phase.{Writing, opened, requested, timed, with_changes, written, written_section}

-- Parts of a text

-- a text goes on from another one
pub record Grown (first last : List ℕ) : Type 0 where
  pub more : List ℕ
  pub is : last ≡ first ++ more

pub same-grown : (text : List ℕ) → Grown text text
same-grown text = record { more = []; is = sym (append-nil text) }

pub grown-trans : (a b c : List ℕ) → Grown a b → Grown b c → Grown a c
grown-trans a b c h k = record { more = h.more ++ k.more; is = k.is ∙ ap (λ (t : List ℕ). t ++ k.more) h.is ∙ append_assoc a h.more k.more }

pub between : (first last text : List ℕ) → Grown first text → Grown text last → IsBetween first last text
between first last text h k = record { part = h.more; rest = k.more; after_first = h.is; before_last = k.is }

pub grown-first : (first last text : List ℕ) → IsBetween first last text → Grown first text
grown-first first last text h = record { more = h.part; is = h.after_first }

pub grown-last : (first last text : List ℕ) → IsBetween first last text → Grown text last
grown-last first last text h = record { more = h.rest; is = h.before_last }

-- Writings

abbrev pub at_body : List ℕ → Bool → List (List Bit) → Writing
at_body body on last = record { body = body; on = on; last = last }

-- a writing after a text
abbrev pub later : List ℕ → Writing → Writing
later text w = record w { body = text ++ w.body }

-- a writing as if it had written nothing yet
abbrev pub bare : Writing → Writing
bare w = record w { body = [] }

from-bare : (w : Writing) → w ≡ later w.body (bare w)
from-bare w = ap (λ (t : List ℕ). at_body t w.on w.last) (sym (append-nil w.body))

either-later : (b : Bool) (x y x' y' : Writing) (text : List ℕ) → x' ≡ later text x → y' ≡ later text y → (if b then x' else y') ≡ later text (if b then x else y)
either-later true x y x' y' text p q = p
either-later false x y x' y' text p q = q

module _ (values : List (List Bit)) where
  section-later : (kind : Section) (on : Bool) (text : List ℕ) (w : Writing) → written_section kind on values (later text w) ≡ later text (written_section kind on values w)
  section-later kind on text w = ap (λ (t : List ℕ). at_body t on (written_by kind w.last values)) (append_assoc text w.body (section_text kind values))

  requested-later : (text : List ℕ) (w : Writing) (kind : Section) → requested values (later text w) kind ≡ later text (requested values w kind)
  requested-later text w section.Vars = refl
  requested-later text w section.Off = either-later w.on _ _ _ _ text (section-later section.Off false text w) refl
  requested-later text w section.On = either-later w.on _ _ _ _ text refl (section-later section.On true text w)
  requested-later text w section.All = either-later w.on _ _ _ _ text (section-later section.All true text w) refl

  requests-later : (text : List ℕ) (kinds : List Section) (w : Writing) → fold (requested values) (later text w) kinds ≡ later text (fold (requested values) w kinds)
  requests-later text [] w = refl
  requests-later text (kind ∷ kinds) w = ap (λ (x : Writing). fold (requested values) x kinds) (requested-later text w kind) ∙ requests-later text kinds (requested values w kind)

  opened-later : (header : Bool) (text : List ℕ) (w : Writing) → opened header values (later text w) ≡ later text (opened header values w)
  opened-later header text w = either-later header _ _ _ _ text (section-later section.Vars true text w) refl

  changes-later : (text : List ℕ) (w : Writing) → with_changes values (later text w) ≡ later text (with_changes values w)
  changes-later text w = either-later w.on _ _ _ _ text (ap (λ (t : List ℕ). at_body t w.on values) (append_assoc text w.body _)) refl

  written-later : (header : Bool) (kinds : List Section) (text : List ℕ) (w : Writing) → written header values kinds (later text w) ≡ later text (written header values kinds w)
  written-later header kinds text w =
      ap (λ (x : Writing). with_changes values (fold (requested values) x kinds)) (opened-later header text w)
      ∙ ap (with_changes values) (requests-later text kinds (opened header values w))
      ∙ changes-later text (fold (requested values) (opened header values w) kinds)

  -- what is written goes on
  pub requests-grow : (kinds : List Section) (w : Writing) → Grown w.body (fold (requested values) w kinds).body
  requests-grow kinds w = record {
    more = (fold (requested values) (bare w) kinds).body;
    is = ap (λ (x : Writing). x.body) (ap (λ (x : Writing). fold (requested values) x kinds) (from-bare w) ∙ requests-later w.body kinds (bare w));
  }

  pub opened-grow : (header : Bool) (w : Writing) → Grown w.body (opened header values w).body
  opened-grow header w = record {
    more = (opened header values (bare w)).body;
    is = ap (λ (x : Writing). x.body) (ap (opened header values) (from-bare w) ∙ opened-later header w.body (bare w));
  }

  pub changes-grow : (w : Writing) → Grown w.body (with_changes values w).body
  changes-grow w = record {
    more = (with_changes values (bare w)).body;
    is = ap (λ (x : Writing). x.body) (ap (with_changes values) (from-bare w) ∙ changes-later w.body (bare w));
  }

  pub written-bare : (header : Bool) (kinds : List Section) (w : Writing) → written header values kinds w ≡ later w.body (written header values kinds (bare w))
  written-bare header kinds w = ap (written header values kinds) (from-bare w) ∙ written-later header kinds w.body (bare w)

  -- where the first requests are done
  pub requests-part : (kinds : List Section) (i : ℕ) (w found : Writing) (text : List ℕ) → found ≡ fold (requested values) w (take i kinds) → text ≡ found.body → IsBetween w.body (fold (requested values) w kinds).body text
  requests-part kinds i w found text is told =
      let done_ = fold (requested values) w (take i kinds) in
      let here : text ≡ done_.body = told ∙ ap (λ (x : Writing). x.body) is in
      let rest : fold (requested values) w kinds ≡ fold (requested values) done_ (drop i kinds) =
      ap (fold (requested values) w) (sym (take-append-drop i kinds)) ∙ fold-append (requested values) w (take i kinds) (drop i kinds) in
      let P : List ℕ → Type 0 = λ t. IsBetween w.body t text in
      let Q : List ℕ → Type 0 = λ t. IsBetween w.body (fold (requested values) done_ (drop i kinds)).body t in
      subst P (sym (ap (λ (x : Writing). x.body) rest))
      (subst Q (sym here) (between w.body _ done_.body (requests-grow (take i kinds) w) (requests-grow (drop i kinds) done_)))

  -- where the first section is wanting
  pub first-wanting : (header : Bool) (kinds : List Section) (w : Writing) (text : List ℕ) → text ≡ w.body → IsBetween w.body (written header values kinds w).body text
  first-wanting header kinds w text is =
      let P : List ℕ → Type 0 = λ t. IsBetween w.body (written header values kinds w).body t in
      let whole = grown-trans _ _ _ (opened-grow header w) (grown-trans _ _ _ (requests-grow kinds (opened header values w)) (changes-grow (fold (requested values) (opened header values w) kinds))) in
      subst P (sym is) (between _ _ _ (same-grown w.body) whole)

  -- where a request is wanting
  pub request-wanting : (header : Bool) (kinds : List Section) (w found : Writing) (text : List ℕ) → found ≡ opened header values w → IsBetween found.body (fold (requested values) found kinds).body text
      → IsBetween w.body (written header values kinds w).body text
  request-wanting header kinds w found text is h =
      let P : Writing → Type 0 = λ x. IsBetween x.body (fold (requested values) x kinds).body text in
      let told = subst P is h in
      between _ _ _ (grown-trans _ _ _ (opened-grow header w) (grown-first _ _ _ told))
      (grown-trans _ _ _ (grown-last _ _ _ told) (changes-grow (fold (requested values) (opened header values w) kinds)))

  -- where the changes are wanting
  pub changes-wanting : (header : Bool) (kinds : List Section) (w found then_ : Writing) (text : List ℕ) → found ≡ opened header values w → then_ ≡ fold (requested values) found kinds → text ≡ then_.body
      → IsBetween w.body (written header values kinds w).body text
  changes-wanting header kinds w found then_ text is more told =
      let whole : then_ ≡ fold (requested values) (opened header values w) kinds = more ∙ ap (λ (x : Writing). fold (requested values) x kinds) is in
      let here : text ≡ (fold (requested values) (opened header values w) kinds).body = told ∙ ap (λ (x : Writing). x.body) whole in
      let P : List ℕ → Type 0 = λ t. IsBetween w.body (written header values kinds w).body t in
      subst P (sym here) (between _ _ _ (grown-trans _ _ _ (opened-grow header w) (requests-grow kinds (opened header values w))) (changes-grow (fold (requested values) (opened header values w) kinds)))

-- The line of the time

-- a text without what stands after it where that is nothing
abbrev pub cut_back : ℕ → ℕ → List ℕ → List ℕ
cut_back before after text = if eqb (length text) after then take before text else text

longer : (text : List ℕ) (byte : ℕ) (more : List ℕ) → eqb (length (text ++ (byte ∷ more))) (length text) ≡ false
longer text byte more = let n : length (text ++ (byte ∷ more)) ≡ length text + length (byte ∷ more) = length-append text (byte ∷ more) in ne_eqb _ _ (λ e. omega (arith, n, e))

pub timed-is : (old body : List ℕ) (now : ℕ) → cut_back (length old) (length (old ++ time_text now)) ((old ++ time_text now) ++ body) ≡ old ++ timed now body
timed-is old [] now =
    let front = old ++ time_text now in
    let same : eqb (length front) (length front) ≡ true = eq-eqb (length front) (length front) refl in
    ap (cut_back (length old) (length front)) (append-nil front)
    ∙ ap (λ (b : Bool). if b then take (length old) front else front) same ∙ take_at old (time_text now) (length old) refl ∙ sym (append-nil old)
timed-is old (byte ∷ body) now =
    let text = (old ++ time_text now) ++ (byte ∷ body) in
    ap (λ (b : Bool). if b then take (length old) text else text) (longer (old ++ time_text now) byte body) ∙ append_assoc old (time_text now) (byte ∷ body)

pub timed-part : (old body text : List ℕ) (now : ℕ) → IsBetween (old ++ time_text now) ((old ++ time_text now) ++ body) text
    → IsBetween old (old ++ timed now body) (cut_back (length old) (length (old ++ time_text now)) text)
timed-part old body text now h =
    let front = old ++ time_text now in
    let P : List ℕ → Type 0 = λ t. IsBetween old (old ++ timed now body) (cut_back (length old) (length front) t) in
    let Q : List ℕ → Type 0 = λ b. IsBetween old (old ++ timed now b) (cut_back (length old) (length front) (front ++ h.part)) in
    let whole : body ≡ h.part ++ h.rest = append_cancel_left front body (h.part ++ h.rest) (h.before_last ∙ ap (λ (t : List ℕ). t ++ h.rest) h.after_first ∙ append_assoc front h.part h.rest) in
    subst P (sym h.after_first) (subst Q (sym whole) (cases h.part h.rest))
  where
    grown-timed : (part rest : List ℕ) → Grown (old ++ timed now part) (old ++ timed now (part ++ rest))
    grown-timed [] rest = record { more = timed now rest; is = ap (λ (t : List ℕ). t ++ timed now rest) (sym (append-nil old)) }
    grown-timed (byte ∷ part) rest = record {
      more = rest;
      is = ap (λ (t : List ℕ). old ++ t) (sym (append_assoc (time_text now) (byte ∷ part) rest)) ∙ sym (append_assoc old (time_text now ++ (byte ∷ part)) rest);
    }

    cases : (part rest : List ℕ) → IsBetween old (old ++ timed now (part ++ rest)) (cut_back (length old) (length (old ++ time_text now)) ((old ++ time_text now) ++ part))
    cases part rest =
        let R : List ℕ → Type 0 = λ t. IsBetween old (old ++ timed now (part ++ rest)) t in
        subst R (sym (timed-is old part now)) (between _ _ _ (record { more = timed now part; is = refl }) (grown-timed part rest))

-- The phase

pub unbegun : (old more text : List ℕ) → text ≡ old → IsBetween old (old ++ more) text
unbegun old more text is =
    let P : List ℕ → Type 0 = λ t. IsBetween old (old ++ more) t in
    subst P (sym is) (between _ _ _ (same-grown old) (record { more = more; is = refl }))

module _ (values : List (List Bit)) (header : Bool) (kinds : List Section) (on : Bool) (last : List (List Bit)) (now : ℕ) (old begun text cut : List ℕ) where
  -- the text after the line of the time, without that line where nothing stands after it
  pub phase-done : (after : Bool) (kept : List (List Bit)) (before behind : ℕ) → before ≡ length old → behind ≡ length begun → begun ≡ old ++ time_text now
      → at_body text after kept ≡ written header values kinds (at_body begun on last) → cut ≡ cut_back before behind text
      → at_body cut after kept ≡ (let w = written header values kinds (at_body [] on last) in record w { body = old ++ timed now w.body })
  phase-done after kept before behind b a line told is =
      let w = written header values kinds (at_body [] on last) in
      let front = old ++ time_text now in
      let whole : at_body text after kept ≡ later front w = told ∙ written-bare values header kinds (at_body begun on last) ∙ ap (λ (t : List ℕ). later t w) line in
      let here : text ≡ front ++ w.body = ap (λ (x : Writing). x.body) whole in
      let short : cut ≡ old ++ timed now w.body =
      is ∙ ap (λ (n : ℕ). cut_back n behind text) b ∙ ap (λ (n : ℕ). cut_back (length old) n text) (a ∙ ap length line) ∙ ap (cut_back (length old) (length front)) here ∙ timed-is old w.body now in
      ap (λ (t : List ℕ). at_body t after kept) short
      ∙ ap (λ (x : Writing). record x { body = old ++ timed now w.body }) whole

  -- and where memory is wanting
  pub phase-cut : (before behind : ℕ) → before ≡ length old → behind ≡ length begun → begun ≡ old ++ time_text now
      → IsBetween begun (written header values kinds (at_body begun on last)).body text → cut ≡ cut_back before behind text
      → IsBetween old (old ++ timed now (written header values kinds (at_body [] on last)).body) cut
  phase-cut before behind b a line told is =
      let w = written header values kinds (at_body [] on last) in
      let front = old ++ time_text now in
      let whole : (written header values kinds (at_body begun on last)).body ≡ begun ++ w.body = ap (λ (x : Writing). x.body) (written-bare values header kinds (at_body begun on last)) in
      let P : List ℕ → Type 0 = λ t. IsBetween begun t text in
      let Q : List ℕ → Type 0 = λ t. IsBetween t (t ++ w.body) text in
      let R : List ℕ → Type 0 = λ t. IsBetween old (old ++ timed now w.body) t in
      let short : cut ≡ cut_back (length old) (length front) text = is ∙ ap (λ (n : ℕ). cut_back n behind text) b ∙ ap (λ (n : ℕ). cut_back (length old) n text) (a ∙ ap length line) in
      subst R (sym short) (timed-part old w.body text now (subst Q line (subst P whole told)))
