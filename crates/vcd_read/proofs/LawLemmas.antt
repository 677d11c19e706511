-- What is in the grammar is read, as the trace that it spells.
use Rattle.std.proofs.Common.{◌≡◌, ℕ, ◌+◌, List, ◌∷◌, refl, sym, ap, ◌∙◌, false, ◌≤◌, arith}
use Rattle.std.specs.Prelude.{Result, Ok, Err, IfOk, count_by, codes}
use Rattle.std.proofs.lemmas.Result.{IfOk-weaker}
use Rattle.std.specs.List.{flat_map}
use Rattle.vvp_lex.specs.Text.{is_line_feed}
use Rattle.vcd_read.specs.declared.types.Trace.{Trace}
use Rattle.vcd_read.specs.declared.types.VcdFault.{VcdFault}
use Rattle.vcd_read.specs.declared.types.VcdFault.TheVariants as fault
use Rattle.vcd_read.specs.Sound.{IsTrace}
use Rattle.vcd_read.specs.declared.header.Wanted.TheVariants.{Entry}
use Rattle.vcd_read.specs.declared.header.Header.{Header}
use Rattle.vcd_read.specs.declared.body.Body.{Body}
use Rattle.vcd_read.specs.Words.{spots_of}
use Rattle.vcd_read.specs.Grammar.{IsVcd}
use Rattle.vcd_read.specs.Reading.{Fault, reading, start, finish, Reads, Gives}
use Rattle.vcd_read.proofs.WalkLemmas.{stand, walk, words_in, read-walk, ok-one}
use Rattle.vcd_read.proofs.HeaderLemmas.{commands-walk, last-walk}
use Rattle.vcd_read.proofs.CompleteLemmas.{entries-walk}

finish-ok : (header : Header) (body : Body) (last : ℕ) → body.is_open ≡ false → finish (stand Entry header body) last ≡ Ok (record { power = header.power; widths = header.widths; vars = header.vars; changes = body.changes })
unfolding finish
finish-ok header body last closed = rw closed refl

pub is-read : (file : List ℕ) (trace : Trace) → IsVcd file trace → reading file ≡ Ok trace
is-read file trace vcd =
    let g = vcd.grammar in
    let last : ℕ = 1 + count_by is_line_feed file in
    let walks : walk (words_in (spots_of file)) start ≡ Ok (stand Entry g.header g.body) =
    ap (λ words. walk words start) g.spelled
    ∙ commands-walk start.body g.commands start.header g.header g.heads (codes "$enddefinitions" ∷ codes "$end" ∷ flat_map (λ entry. entry) g.entries)
    ∙ last-walk start.body g.header (flat_map (λ entry. entry) g.entries)
    ∙ entries-walk g.header g.entries start.body g.body g.says in
    read-walk last (spots_of file) start (stand Entry g.header g.body) vcd.words walks
    ∙ finish-ok g.header g.body last g.closed
    ∙ ap Ok (sym g.trace_is)

-- what the code answers then
pub gives : (found : Result Trace VcdFault) (trace : Trace) (read : Result Trace Fault) → Reads found read → read ≡ Ok trace → Gives found trace
gives (Ok other) trace read h k = ok-one other trace (sym h ∙ k)
gives (Err (fault.Refused line kind)) trace read h k =
    let both : ◌≡◌ {A = Result Trace Fault} (Err (record { line = line; kind = kind })) (Ok trace) = sym h ∙ k in
    absurd (cc)
gives (Err fault.Memory) trace read h k = tt

pub few : (m n : ℕ) (found : Result Trace VcdFault) → m ≤ n → IfOk found (IsTrace m) → IfOk found (IsTrace n)
few m n found more h = IfOk-weaker found (IsTrace m) (IsTrace n) (λ trace is. record { few_vars = omega (arith, is.few_vars); of_nets = is.of_nets }) h
