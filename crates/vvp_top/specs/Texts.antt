-- The statuses and lines of the program.
use Rattle.std.specs.Prelude.{ℕ, Bool, true, false, nat_le, ◌==◌, ◌&&◌, unwrap_or, List, [], ◌∷◌, ◌++◌, codes, decimal, Option, Some, None}
use Rattle.std.specs.Map.{lookup}
use Rattle.op_exec.specs.declared.effect.TrapKind.{TrapKind}
use Rattle.op_exec.specs.declared.effect.TrapKind.TheVariants as trap
use Rattle.vvp_lex.specs.declared.types.LexKind.{LexKind}
use Rattle.vvp_lex.specs.declared.types.LexKind.TheVariants as lexical
use Rattle.vvp_lex.specs.declared.types.FormKind.{FormKind}
use Rattle.vvp_lex.specs.declared.types.FormKind.TheVariants as form
use Rattle.sym_link.specs.declared.fault.LinkKind.{LinkKind}
use Rattle.sym_link.specs.declared.fault.LinkKind.TheVariants as link
use Rattle.vcd_read.specs.declared.types.VcdKind.{VcdKind}
use Rattle.vcd_read.specs.declared.types.VcdKind.TheVariants as dump
use Rattle.vvp_top.specs.declared.refusal.Why.{Why}
use Rattle.vvp_top.specs.declared.refusal.Why.TheVariants as why
use Rattle.vvp_top.specs.declared.outcome.Outcome.{Outcome}
use Rattle.vvp_top.specs.declared.outcome.Outcome.TheVariants.{Finish, Stop, Idle, Reported, BadWords, Refused, Spent, Trap, StoreFault, OutputFault, Memory, NoFile}
use Rattle.vvp_top.specs.declared.report.Counts.{Counts}
use Rattle.vvp_top.specs.declared.report.Report.{Report}

-- ---- statuses

-- the status of the program
abbrev pub status_of : Outcome → ℕ
status_of Finish = 0
status_of Stop = 0
status_of Idle = 0
status_of Reported = 0
status_of BadWords = 1
status_of (Refused line why) = 2
status_of Spent = 3
status_of (Trap kind address) = 4
status_of StoreFault = 5
status_of OutputFault = 6
status_of Memory = 7
status_of NoFile = 8

-- a fault, or want of memory: it may come in the place of every other outcome
abbrev pub yields : Outcome → Bool
yields StoreFault = true
yields OutputFault = true
yields Memory = true
yields Finish = false
yields Stop = false
yields Idle = false
yields Reported = false
yields BadWords = false
yields (Refused line why) = false
yields Spent = false
yields (Trap kind address) = false
yields NoFile = false

-- the end of a run, of its budget, or of a report
abbrev pub is_ended : Outcome → Bool
is_ended Finish = true
is_ended Stop = true
is_ended Idle = true
is_ended Reported = true
is_ended Spent = true
is_ended (Trap kind address) = true
is_ended BadWords = false
is_ended (Refused line why) = false
is_ended StoreFault = false
is_ended OutputFault = false
is_ended Memory = false
is_ended NoFile = false

-- the statuses of faults and of want of memory
abbrev pub may_come_anytime : ℕ → Bool
may_come_anytime status = nat_le 5 status && nat_le status 7

-- ---- texts

-- the name of a kind of trap
abbrev pub trap_name : TrapKind → List ℕ
trap_name trap.StackUnder = codes "StackUnder"
trap_name trap.StackOver = codes "StackOver"
trap_name trap.Width = codes "Width"
trap_name trap.Wide = codes "Wide"
trap_name trap.NoChild = codes "NoChild"
trap_name trap.OffEnd = codes "OffEnd"
trap_name trap.TimeOver = codes "TimeOver"
trap_name trap.ThreadsOver = codes "ThreadsOver"

-- the text of a lexical fault
abbrev pub lexical_text : LexKind → List ℕ
lexical_text lexical.BadCharacter = codes "bad character"
lexical_text lexical.OpenString = codes "open string"
lexical_text lexical.OpenStatement = codes "open statement"
lexical_text lexical.NumberTooLarge = codes "number too large"
lexical_text lexical.VectorTooWide = codes "vector too wide"

-- the text of a statement that is none of the grammar
abbrev pub form_text : FormKind → List ℕ
form_text form.UnknownStatement = codes "unknown statement"
form_text form.UnsupportedStatement = codes "unsupported statement"
form_text form.UnknownOpcode = codes "unknown opcode"
form_text form.UnsupportedOpcode = codes "unsupported opcode"
form_text form.LabelMissing = codes "label missing"
form_text form.LabelNotAllowed = codes "label not allowed"
form_text form.BadOperands = codes "bad operands"
form_text form.VectorTooWide = codes "vector too wide"

-- the text of a link rule
abbrev pub link_text : LinkKind → List ℕ
link_text link.DuplicateLabel = codes "duplicate label"
link_text link.NoScope = codes "no scope"
link_text link.UnknownSymbol = codes "unknown symbol"
link_text link.WrongKind = codes "wrong kind"
link_text link.NetLoop = codes "net loop"
link_text link.WidthMismatch = codes "width mismatch"
link_text link.PartOutside = codes "part outside"
link_text link.NoCode = codes "no code"
link_text link.RegisterRange = codes "register range"
link_text link.FlagRange = codes "flag range"
link_text link.ImmediateWidth = codes "immediate width"
link_text link.UnknownTask = codes "unknown task"
link_text link.BadArguments = codes "bad arguments"
link_text link.LimitReached = codes "limit reached"

-- the text of a fault of a dump
abbrev pub dump_text : VcdKind → List ℕ
dump_text dump.BadByte = codes "bad byte"
dump_text dump.BadWord = codes "bad word"
dump_text dump.TooWide = codes "too wide"
dump_text dump.UnknownCode = codes "unknown code"
dump_text dump.TimeBack = codes "time back"
dump_text dump.OpenEnd = codes "open end"

-- the text of a refusal
abbrev pub why_text : Why → List ℕ
why_text why.TooLarge = codes "file too large"
why_text (why.Lexical kind) = lexical_text kind
why_text (why.Form kind) = form_text kind
why_text (why.Link kind) = link_text kind
why_text (why.Dump kind) = dump_text kind
why_text why.BadName = codes "bad name"

-- ---- lines

-- what is said of an outcome, but of a refusal and of a trap, of which more is said
abbrev pub fixed_line : Outcome → List ℕ
fixed_line BadWords = codes "vvp: bad words\n"
fixed_line Spent = codes "vvp: budget spent\n"
fixed_line StoreFault = codes "vvp: store fault\n"
fixed_line OutputFault = codes "vvp: output fault\n"
fixed_line Memory = codes "vvp: out of memory\n"
fixed_line NoFile = codes "vvp: no such file\n"
fixed_line Finish = []
fixed_line Stop = []
fixed_line Idle = []
fixed_line Reported = []
fixed_line (Refused line why) = []
fixed_line (Trap kind address) = []

-- the line of an outcome, where it has one
abbrev pub line_of : Outcome → List ℕ
line_of (Refused line why) = codes "vvp: line " ++ (decimal line ++ (codes ": " ++ (why_text why ++ codes "\n")))
line_of (Trap kind address) = codes "vvp: trap " ++ (trap_name kind ++ (codes " at " ++ (decimal address ++ codes "\n")))
line_of BadWords = fixed_line BadWords
line_of Spent = fixed_line Spent
line_of StoreFault = fixed_line StoreFault
line_of OutputFault = fixed_line OutputFault
line_of Memory = fixed_line Memory
line_of NoFile = fixed_line NoFile
line_of Finish = []
line_of Stop = []
line_of Idle = []
line_of Reported = []

-- the end of a run, as the line of its counts names it
abbrev pub ending_name : Outcome → List ℕ
ending_name Finish = codes "finish"
ending_name Stop = codes "stop"
ending_name Idle = codes "idle"
ending_name Spent = codes "spent"
ending_name (Trap kind address) = codes "trap"
ending_name Reported = []
ending_name BadWords = []
ending_name (Refused line why) = []
ending_name StoreFault = []
ending_name OutputFault = []
ending_name Memory = []
ending_name NoFile = []

-- the line of a run's counts: how it ended, the time, the steps, and the most dues that were pending at once
unfoldable pub counts_line : Outcome → Counts → List ℕ
counts_line outcome counts =
    codes "ending=" ++ (ending_name outcome ++ (codes " time=" ++ (decimal counts.time ++ (codes " steps=" ++ (decimal counts.steps ++ (codes " peak=" ++ (decimal counts.peak ++ codes "\n")))))))

-- the same, where there are counts
abbrev pub counts_text : Outcome → Option Counts → List ℕ
counts_text outcome None = []
counts_text outcome (Some counts) = counts_line outcome counts

-- the lines of a call: that of the counts, and that of the outcome
abbrev pub lines_of : Report → List ℕ
lines_of report = counts_text report.outcome report.counts ++ line_of report.outcome

-- ---- lines by statuses

abbrev pub own_messages : List (ℕ × List ℕ)
own_messages =
    (1, line_of BadWords)
    ∷ (5, line_of StoreFault)
    ∷ (6, line_of OutputFault)
    ∷ (7, line_of Memory)
    ∷ (8, line_of NoFile)
    ∷ []

-- what is said with a status that says all: of bad words, of a missing file, of a fault or of want of memory
abbrev pub own_message : ℕ → Option (List ℕ)
own_message status = lookup (λ s. s == status) own_messages

-- what is said with a status, where this is what words and files say
abbrev pub message_at : ℕ → Report → List ℕ
message_at status report = unwrap_or (own_message status) (lines_of report)
