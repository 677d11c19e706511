-- A text that is commands, after which the scopes are what they were, and the items whose lines it has are declared.
use Rattle.std.proofs.Common.{◌≡◌, ℕ, ◌≤◌, true, false, List, [], ◌∷◌, ◌++◌, length, refl, sym, ap, subst, ◌∙◌, arith, inl, inr, ◌⊎◌, codes}
use Rattle.std.specs.Prelude.{All}
use Rattle.std.specs.List.{flat_map, list_all}
use Rattle.std.proofs.lemmas.Bool.{cases_eq}
use Rattle.std.proofs.lemmas.List.Concat.{flat_map-append}
use Rattle.std.proofs.lemmas.List.Elements.{All-nil, All-cons}
use Rattle.vcd_read.specs.Words.{is_printable, is_end}
use Rattle.vcd_read.specs.Grammar.{ended, IsScope, IsUpscope, AreCommands}
use Rattle.vcd_write.specs.declared.types.DumpScope.{DumpScope}
use Rattle.vcd_write.specs.declared.types.ScopeWord.{ScopeWord}
use Rattle.vcd_write.specs.declared.types.ScopeWord.TheVariants.{Module, Task, Begin, Fork}
use Rattle.vcd_write.specs.Header.{scope_word, scope_line, scope_block}
use Rattle.vcd_write.specs.Chains.{scope_end}
use Rattle.vcd_write.proofs.PieceLemmas.{block-some}
use Rattle.vcd_law.specs.Words.{Written, IsWritten, AreWritten, text_of, words_of, spaced, lined}
use Rattle.vcd_law.proofs.Known.{Header}
use Rattle.vcd_law.proofs.JoinLemmas.{text-append, words-append, are-append, commands-append}
use Rattle.vcd_law.proofs.NetLemmas.{IsDeclared, Fits}

-- ---- lists of items' numbers
abbrev pub Has : List ℕ → ℕ → Type 0
Has [] k = ⊥
Has (m ∷ marks) k = (k ≡ m) ⊎ Has marks k

pub has-left : (first second : List ℕ) (k : ℕ) → Has first k → Has (first ++ second) k
has-left [] second k h = absurd h
has-left (m ∷ first) second k (inl e) = inl e
has-left (m ∷ first) second k (inr h) = inr (has-left first second k h)

pub has-right : (first second : List ℕ) (k : ℕ) → Has second k → Has (first ++ second) k
has-right [] second k h = h
has-right (m ∷ first) second k h = inr (has-right first second k h)

pub has-either : (first second : List ℕ) (k : ℕ) → Has (first ++ second) k → Has first k ⊎ Has second k
has-either [] second k h = inr h
has-either (m ∷ first) second k (inl e) = inl (inl e)
has-either (m ∷ first) second k (inr h) = elim (has-either first second k h) [ inl here ↦ inl (inr here) | inr there ↦ inr there ]

-- ---- commands
abbrev pub Commands : Type 0
Commands = List (List (List ℕ))

-- where commands lead from a header
pub record Leads (sizes : List ℕ) (commands : Commands) (marks : List ℕ) (before : Header) : Type 0 where
  pub after : Header
  pub says : AreCommands commands before after
  pub fits : Fits sizes after.nets after.widths
  pub same_scopes : after.scopes ≡ before.scopes
  pub kept : (k : ℕ) → IsDeclared before.nets k → IsDeclared after.nets k
  pub found : (k : ℕ) → Has marks k → IsDeclared after.nets k

pub record IsBlock (sizes : List ℕ) (text : List ℕ) (marks : List ℕ) : Type 0 where
  pub written : List Written
  pub commands : Commands
  pub are_written : AreWritten written
  pub text_is : text ≡ text_of written
  pub words_are : words_of written ≡ flat_map ended commands
  pub leads : (before : Header) → Fits sizes before.nets before.widths → Leads sizes commands marks before

-- a word inside a command
abbrev pub Inner : List ℕ → Type 0
Inner word = is_end word ≡ false

-- a name is a word other than `$end`
pub record IsName (name : List ℕ) : Type 0 where
  pub some : 1 ≤ length name
  pub printed : list_all is_printable name ≡ true
  pub inner : is_end name ≡ false

module _ (sizes : List ℕ) where
  pub block-none : IsBlock sizes [] []
  block-none = record {
    written = [];
    commands = [];
    are_written = tt;
    text_is = refl;
    words_are = refl;
    leads = λ before fits. record { after = before; says = refl; fits = fits; same_scopes = refl; kept = λ k h. h; found = λ k h. absurd h };
  }

  pub block-append : (first second : List ℕ) (marks others : List ℕ) → IsBlock sizes first marks → IsBlock sizes second others → IsBlock sizes (first ++ second) (marks ++ others)
  block-append first second marks others h k = record {
    written = h.written ++ k.written;
    commands = h.commands ++ k.commands;
    are_written = are-append h.written k.written h.are_written k.are_written;
    text_is = ap (λ t. t ++ second) h.text_is ∙ ap (λ t. text_of h.written ++ t) k.text_is ∙ sym (text-append h.written k.written);
    words_are = words-append h.written k.written ∙ ap (λ ws. ws ++ words_of k.written) h.words_are ∙ ap (λ ws. flat_map ended h.commands ++ ws) k.words_are ∙ sym (flat_map-append ended h.commands k.commands);
    leads = λ before fits.
        let one : Leads sizes h.commands marks before = h.leads before fits in
        let two : Leads sizes k.commands others one.after = k.leads one.after one.fits in
        record {
          after = two.after;
          says = commands-append h.commands k.commands before one.after two.after one.says two.says;
          fits = two.fits;
          same_scopes = two.same_scopes ∙ one.same_scopes;
          kept = λ j d. two.kept j (one.kept j d);
          found = λ j has. elim (has-either marks others j has) [ inl here ↦ two.kept j (one.found j here) | inr there ↦ two.found j there ];
        };
  }

  -- ---- scopes
  kind-written : (word : ScopeWord) → IsWritten (spaced (scope_word word))
  kind-written Module = record { some = omega arith; printable = refl; white = refl }
  kind-written Task = record { some = omega arith; printable = refl; white = refl }
  kind-written Begin = record { some = omega arith; printable = refl; white = refl }
  kind-written Fork = record { some = omega arith; printable = refl; white = refl }

  kind-inner : (word : ScopeWord) → is_end (scope_word word) ≡ false
  kind-inner Module = refl
  kind-inner Task = refl
  kind-inner Begin = refl
  kind-inner Fork = refl

  abbrev opening : DumpScope → List Written
  opening scope = spaced (codes "$scope") ∷ spaced (scope_word scope.word) ∷ spaced scope.name ∷ lined (codes "$end") ∷ []

  abbrev closing : List Written
  closing = spaced (codes "$upscope") ∷ lined (codes "$end") ∷ []

  opening-text : (scope : DumpScope) → scope_line scope ≡ text_of (opening scope)
  unfolding scope_line
  opening-text scope = refl

  opening-written : (scope : DumpScope) → IsName scope.name → AreWritten (opening scope)
  opening-written scope name = (
    record { some = omega arith; printable = refl; white = refl },
    (
      kind-written scope.word,
      (
        record { some = name.some; printable = name.printed; white = refl },
        (record { some = omega arith; printable = refl; white = refl }, tt),
      ),
    ),
  )

  closing-written : AreWritten closing
  closing-written = (record { some = omega arith; printable = refl; white = refl }, (record { some = omega arith; printable = refl; white = refl }, tt))

  abbrev opens : DumpScope → List (List ℕ)
  opens scope = codes "$scope" ∷ scope_word scope.word ∷ scope.name ∷ []

  opens-inner : (scope : DumpScope) → IsName scope.name → All Inner (opens scope)
  opens-inner scope name =
      All-cons Inner (codes "$scope") (scope_word scope.word ∷ scope.name ∷ []) refl
      (All-cons Inner (scope_word scope.word) (scope.name ∷ []) (kind-inner scope.word) (All-cons Inner scope.name [] name.inner (All-nil Inner)))

  closes-inner : All Inner (codes "$upscope" ∷ [])
  closes-inner = All-cons Inner (codes "$upscope") [] refl (All-nil Inner)

  block-commands : (scope : DumpScope) (commands : Commands) (marks : List ℕ) → IsName scope.name → ((before : Header) → Fits sizes before.nets before.widths → Leads sizes commands marks before)
      → (before : Header) → Fits sizes before.nets before.widths → Leads sizes (opens scope ∷ (commands ++ (codes "$upscope" ∷ []) ∷ [])) marks before
  block-commands scope commands marks name leads before fits =
      let opened : Header = record before { scopes = before.scopes ++ scope.name ∷ [] } in
      let held : Leads sizes commands marks opened = leads opened fits in
      let after : Header = record held.after { scopes = before.scopes } in
      let first : IsScope (opens scope) before opened = record { kind = scope_word scope.word; name = scope.name; spelled = refl; opens = refl } in
      let last : IsUpscope (codes "$upscope" ∷ []) held.after after = record { innermost = scope.name; spelled = refl; closes = ap (λ (s : List (List ℕ)). record held.after { scopes = s }) held.same_scopes } in
      let close : AreCommands ((codes "$upscope" ∷ []) ∷ []) held.after after = (closes-inner, after, inr (inr (inr (inl last))), refl) in
      record {
        after = after;
        says = (opens-inner scope name, opened, inr (inr (inl first)), commands-append commands ((codes "$upscope" ∷ []) ∷ []) opened held.after after held.says close);
        fits = held.fits;
        same_scopes = refl;
        kept = held.kept;
        found = held.found;
      }

  -- a scope that holds something
  held-some : (scope : DumpScope) (held marks : List ℕ) → IsName scope.name → IsBlock sizes held marks → IsBlock sizes (scope_line scope ++ (held ++ scope_end)) marks
  held-some scope held marks name h = record {
    written = opening scope ++ (h.written ++ closing);
    commands = opens scope ∷ (h.commands ++ (codes "$upscope" ∷ []) ∷ []);
    are_written = are-append (opening scope) (h.written ++ closing) (opening-written scope name) (are-append h.written closing h.are_written closing-written);
    text_is = ap (λ t. t ++ (held ++ scope_end)) (opening-text scope)
        ∙ ap (λ t. text_of (opening scope) ++ (t ++ scope_end)) h.text_is
        ∙ ap (λ t. text_of (opening scope) ++ t) (sym (text-append h.written closing))
        ∙ sym (text-append (opening scope) (h.written ++ closing));
    words_are = ap (λ ws. ended (opens scope) ++ ws)
        (words-append h.written closing ∙ ap (λ ws. ws ++ words_of closing) h.words_are ∙ sym (flat_map-append ended h.commands ((codes "$upscope" ∷ []) ∷ [])));
    leads = block-commands scope h.commands marks name h.leads;
  }

  no-text : (text : List ℕ) → length text ≡ 0 → text ≡ []
  no-text [] e = refl
  no-text (b ∷ text) e = absurd (omega (arith, e))

  empty-block : (scope : DumpScope) → scope_block scope [] ≡ []
  unfolding scope_block
  empty-block scope = refl

  pub scope-is : (scope : DumpScope) (held marks : List ℕ) → IsName scope.name → IsBlock sizes held marks → IsBlock sizes (scope_block scope held) marks
  scope-is scope held marks name h =
      elim (cases_eq (length held) 0) [
        | inl none ↦
            let empty : held ≡ [] = no-text held none in
            subst (λ t. IsBlock sizes t marks) (empty ∙ sym (empty-block scope) ∙ ap (scope_block scope) (sym empty)) h
        | inr some ↦
            let more : 1 ≤ length held = omega (arith, some) in
            subst (λ t. IsBlock sizes t marks) (sym (block-some scope held more)) (held-some scope held marks name h)
      ]
