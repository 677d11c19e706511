-- Whatever is a dump of ours is in the grammar.
use Rattle.std.proofs.Common.{◌≡◌, ℕ, false, List, [], ◌∷◌, ◌++◌, map, refl, sym, ap, subst, ◌∙◌, codes, append_assoc}
use Rattle.std.specs.Prelude.{Result, Err}
use Rattle.std.specs.List.{flat_map}
use Rattle.vcd_read.specs.declared.types.Change.{Change}
use Rattle.vcd_read.specs.declared.types.Trace.{Trace}
use Rattle.vcd_read.specs.declared.types.VcdFault.{VcdFault}
use Rattle.vcd_read.specs.declared.types.VcdFault.TheVariants as fault
use Rattle.vcd_read.specs.declared.types.VcdKind.{VcdKind}
use Rattle.vcd_read.specs.Grammar.{ended, AreEntries, AreOfTrace, IsVcd}
use Rattle.vcd_read.specs.Reading.{Gives}
use Rattle.vcd_write.specs.Header.{header_text, size}
use Rattle.vcd_law.specs.Words.{text_of, words_of}
use Rattle.vcd_law.specs.Own.{IsOwn, parts_text}
use Rattle.vcd_law.proofs.WordLemmas.{dump-of_words}
use Rattle.vcd_law.proofs.JoinLemmas.{text-append, words-append, are-append}
use Rattle.vcd_law.proofs.SaidLemmas.{IsSaid, at_time}
use Rattle.vcd_law.proofs.BodyLemmas.{IsBody, parts-said}
use Rattle.vcd_law.proofs.HeadLemmas.{IsHeader, head-is}

-- a header, and what a body says after it, are of a trace
joined : (first second : List ℕ) (sizes : List ℕ) → (head : IsHeader first sizes) → IsBody head.header second 0 → (trace : Trace) × IsVcd (first ++ second) trace
joined first second sizes head body =
    let said : IsSaid head.header second 0 false body.later false = body.says in
    let told : (more : List Change) × AreEntries head.header said.entries (at_time 0 false []) (at_time body.later false more) = said.says [] in
    let trace : Trace = record { power = head.header.power; widths = head.header.widths; vars = head.header.vars; changes = told.0 } in
    let grammar : AreOfTrace (words_of (head.written ++ said.written)) trace = record {
      commands = head.commands;
      entries = said.entries;
      header = head.header;
      body = at_time body.later false told.0;
      spelled = words-append head.written said.written
          ∙ ap (λ ws. ws ++ words_of said.written) head.words_are
          ∙ append_assoc (flat_map ended head.commands) (codes "$enddefinitions" ∷ codes "$end" ∷ []) (words_of said.written)
          ∙ ap (λ ws. flat_map ended head.commands ++ (codes "$enddefinitions" ∷ codes "$end" ∷ ws)) said.spells.words_are;
      heads = head.heads;
      says = told.1;
      closed = refl;
      trace_is = refl;
    } in
    let whole : first ++ second ≡ text_of (head.written ++ said.written) =
    ap (λ t. t ++ second) head.text_is ∙ ap (λ t. text_of head.written ++ t) said.spells.text_is ∙ sym (text-append head.written said.written) in
    (trace, subst (λ t. IsVcd t trace) (sym whole) (dump-of_words (head.written ++ said.written) trace (are-append head.written said.written head.are_written said.spells.are_written) grammar))

pub own-vcd : (text : List ℕ) → IsOwn text → (trace : Trace) × IsVcd text trace
own-vcd text own =
    let head : IsHeader (header_text own.power own.scopes own.items) (map size own.items) = head-is own.power own.scopes own.items own.head in
    let body : IsBody head.header (parts_text own.parts) 0 = parts-said head.header own.items head.has_nets 0 own.parts own.follow in
    let found : (trace : Trace) × IsVcd (header_text own.power own.scopes own.items ++ parts_text own.parts) trace = joined (header_text own.power own.scopes own.items) (parts_text own.parts) (map size own.items) head body in
    (found.0, subst (λ t. IsVcd t found.0) (sym own.spelled) found.1)

-- so the reader refuses none
pub not-refused : (text : List ℕ) → IsOwn text → (read : Result Trace VcdFault) → ((trace : Trace) → IsVcd text trace → Gives read trace) → (fault_ : VcdFault) (line : ℕ) (kind : VcdKind) → read ≡ Err fault_ → fault_ ≡ fault.Refused line kind → ⊥
not-refused text own read only fault_ line kind e f =
    let found : (trace : Trace) × IsVcd text trace = own-vcd text own in
    subst (λ (r : Result Trace VcdFault). Gives r found.0) (e ∙ ap Err f) (only found.0 found.1)
