-- What is read is in the grammar.
use Rattle.std.proofs.Common.{◌≡◌, ℕ, ◌+◌, List, [], refl, sym, ap, ◌∙◌, Bool, true, false, cond, not}
use Rattle.std.specs.Prelude.{Result, Ok, Err, IfOk, count_by}
use Rattle.std.proofs.lemmas.Bool.{not-true}
use Rattle.std.proofs.lemmas.List.Elements.{All-nil}
use Rattle.vvp_lex.specs.Text.{is_line_feed}
use Rattle.vcd_read.specs.declared.types.Trace.{Trace}
use Rattle.vcd_read.specs.declared.types.VcdFault.{VcdFault}
use Rattle.vcd_read.specs.declared.types.VcdKind.TheVariants.{OpenEnd}
use Rattle.vcd_read.specs.declared.header.Wanted.TheVariants.{Command}
use Rattle.vcd_read.specs.declared.reader.Reader.{Reader}
use Rattle.vcd_read.specs.Words.{spots_of, is_end}
use Rattle.vcd_read.specs.Grammar.{IsVcd}
use Rattle.vcd_read.specs.Reading.{Fault, reading, start, finish, may_end, Reads}
use Rattle.vcd_read.proofs.WalkLemmas.{words_in, walk-read, Walked, ok-one}
use Rattle.vcd_read.proofs.HeaderFound.{FileTail, header-tail}

abbrev trace_of : Reader → Trace
trace_of reader = record { power = reader.header.power; widths = reader.header.widths; vars = reader.header.vars; changes = reader.body.changes }

finish-is : (reader : Reader) (last : ℕ) (trace : Trace) → finish reader last ≡ Ok trace → (may_end reader ≡ true) × (trace ≡ trace_of reader)
unfolding finish
finish-is reader last trace h = by_end (may_end reader) refl h
  where
    by_end : (ends : Bool) → may_end reader ≡ ends → ◌≡◌ {A = Result Trace Fault} (cond ends (Ok (trace_of reader)) (Err (record { line = last; kind = OpenEnd }))) (Ok trace) → (may_end reader ≡ true) × (trace ≡ trace_of reader)
    by_end true e h = (e, sym (ok-one (trace_of reader) trace h))
    by_end false e h = absurd (cc)

pub is-found : (file : List ℕ) (trace : Trace) → reading file ≡ Ok trace → IsVcd file trace
is-found file trace h =
    let last : ℕ = 1 + count_by is_line_feed file in
    let walked : Walked last (spots_of file) start trace = walk-read last (spots_of file) start trace h in
    let ends = finish-is walked.after last trace walked.ends in
    let tail : FileTail start.header start.body (words_in (spots_of file)) walked.after = header-tail start.body walked.after ends.0 (words_in (spots_of file)) Command start.header start.header [] (refl, refl) (All-nil (λ word. is_end word ≡ false)) refl walked.walks in
    let closed : not tail.last.is_open ≡ true = ap may_end (sym tail.is) ∙ ends.0 in
    record {
      words = walked.words;
      grammar = record {
        commands = tail.commands;
        entries = tail.entries;
        header = tail.header;
        body = tail.last;
        spelled = tail.spelled;
        heads = tail.heads;
        says = tail.says;
        closed = not-true tail.last.is_open closed;
        trace_is = ends.1 ∙ ap trace_of tail.is;
      };
    }

pub found : (file : List ℕ) (read : Result Trace VcdFault) → Reads read (reading file) → IfOk read (IsVcd file)
found file (Ok trace) h = is-found file trace h
found file (Err error) h = tt
