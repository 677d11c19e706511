-- Which words can stand where, as a file is read from left to right: each word leads to what is wanted next, or is a fault.
use Rattle.std.specs.Prelude.{◌≡◌, ℕ, ◌+◌, ◌-◌, ◌^◌, ℤ, pos, ◌+ℤ◌, Bool, true, false, not, ◌||◌, ◌&&◌, ◌==◌, nat_le, nat_lt, List, [], ◌∷◌, ◌++◌, length, take, drop, codes, count_by, slice_index, Option, None, Some, Result, Ok, Err, if◌then◌else◌}
use Rattle.std.specs.List.{prefix_len, list_all}
use Rattle.std.specs.Char.{is_ascii_digit}
use Rattle.std.specs.Str.{bytes_eq}
use Rattle.std.specs.Str.Parse.{digits_value}
use Rattle.four_state.specs.declared.bits.Bit.{Bit}
use Rattle.vvp_lex.specs.Text.{is_line_feed}
use Rattle.vvp_lex.specs.Token.{is_bit}
use Rattle.vcd_read.specs.declared.types.Trace.{Trace}
use Rattle.vcd_read.specs.declared.types.VcdKind.{VcdKind}
use Rattle.vcd_read.specs.declared.types.VcdKind.TheVariants.{BadByte, BadWord, TooWide, UnknownCode, TimeBack, OpenEnd}
use Rattle.vcd_read.specs.declared.types.VcdFault.{VcdFault}
use Rattle.vcd_read.specs.declared.types.VcdFault.TheVariants as fault
use Rattle.vcd_read.specs.declared.types.Stop.{Stop}
use Rattle.vcd_read.specs.declared.types.Stop.TheVariants as stop
use Rattle.vcd_read.specs.declared.header.Wanted.{Wanted}
use Rattle.vcd_read.specs.declared.header.Wanted.TheVariants.{Command, Text, Close, Scale, ScaleUnit, ScopeKind, ScopeName, VarKind, VarWidth, VarCode, VarName, Start, Entry, Remark, Code}
use Rattle.vcd_read.specs.declared.header.Header.{Header}
use Rattle.vcd_read.specs.declared.body.Body.{Body}
use Rattle.vcd_read.specs.declared.reader.Reader.{Reader}
use Rattle.vcd_read.specs.Words.{Spot, spots_of, is_word, is_end, is_number}
use Rattle.vvp_lex.specs.Vector.{bit_of}
use Rattle.vcd_read.specs.Parts.{number_power, unit_power, path_of, net_of, bits_of, extended, is_section, is_remark, is_real}

-- what is wanted after a word, and what is known then; or the fault
abbrev pub Next : Type 0 → Type 0
Next A = Result (Wanted × A) VcdKind

abbrev pub need : {A : Type 0} → Bool → A → Result A VcdKind
need true next = Ok next
need false next = Err BadWord

-- nothing of what is known changes
abbrev pub beside : {A : Type 0} → A → Result Wanted VcdKind → Next A
beside known (Ok wanted) = Ok (wanted, known)
beside known (Err kind) = Err kind

-- ---- the header
-- words that change nothing of what is known
abbrev pub var_width : List ℕ → Result Wanted VcdKind
var_width word =
    if not (is_number word) then Err BadWord
    else (if nat_lt 128 (digits_value 10 word) then Err TooWide
    else need (not (digits_value 10 word == 0)) (VarCode (digits_value 10 word)))

abbrev pub plain : Wanted → List ℕ → Result Wanted VcdKind
plain Text word = Ok (if is_end word then Command else Text)
plain Close word = need (is_end word) Command
plain ScopeKind word = need (not (is_end word)) ScopeName
plain VarKind word = need (not (is_end word || is_real word)) VarWidth
plain VarWidth word = var_width word
plain Start word = need (is_end word) Entry
plain Remark word = Ok (if is_end word then Entry else Remark)
plain _ word = Err BadWord

-- out of the innermost scope, where one is open
abbrev pub leave : Header → Next Header
leave header = need (not (length header.scopes == 0)) (Close, record header { scopes = take (length header.scopes - 1) header.scopes })

unfoldable pub command : Header → List ℕ → Next Header
command header word =
    if is_remark word then Ok (Text, header)
    else (if bytes_eq word (codes "$timescale") then Ok (Scale, header)
    else (if bytes_eq word (codes "$scope") then Ok (ScopeKind, header)
    else (if bytes_eq word (codes "$upscope") then leave header
    else (if bytes_eq word (codes "$var") then Ok (VarKind, header)
    else need (bytes_eq word (codes "$enddefinitions")) (Start, header)))))

abbrev pub scaled : Header → ℕ → Option ℤ → Next Header
scaled header power None = Err BadWord
scaled header power (Some of_unit) = Ok (Close, record header { power = pos power +ℤ of_unit })

unfoldable pub unit : Header → ℕ → List ℕ → Next Header
unit header power word = scaled header power (unit_power word)

abbrev pub scale_from : Header → List ℕ → Option ℕ → Next Header
scale_from header rest None = Err BadWord
scale_from header rest (Some power) = if length rest == 0 then Ok (ScaleUnit power, header) else unit header power rest

-- the number of the time scale, and perhaps its unit, in one word
unfoldable pub scale : Header → List ℕ → Next Header
scale header word =
    scale_from header (drop (prefix_len is_ascii_digit word) word) (number_power (take (prefix_len is_ascii_digit word) word))

unfoldable pub scope_name : Header → List ℕ → Next Header
scope_name header word = need (not (is_end word)) (Close, record header { scopes = header.scopes ++ word ∷ [] })

-- a new code names the next net; one that was declared names its net, and needs its width
abbrev pub declared : Header → ℕ → List ℕ → Option ℕ → Next Header
declared header width code None =
    Ok (VarName (length header.widths), record header { nets = header.nets ++ code ∷ []; widths = header.widths ++ width ∷ [] })
declared header width code (Some net) = need (slice_index header.widths net == width) (VarName net, header)

unfoldable pub var_code : Header → ℕ → List ℕ → Next Header
var_code header width word =
    if is_end word then Err BadWord else declared header width word (net_of header.nets word)

unfoldable pub var_name : Header → ℕ → List ℕ → Next Header
var_name header net word =
    need (not (is_end word)) (Text, record header { vars = header.vars ++ record { path = path_of header.scopes word; net = net } ∷ [] })

-- ---- the body
abbrev pub changed : Body → ℕ → List Bit → Body
changed body net value = record body { changes = body.changes ++ record { time = body.time; net = net; value = value } ∷ [] }

unfoldable pub time : Body → List ℕ → Next Body
time body digits =
    if not (is_number digits && nat_lt (digits_value 10 digits) (2 ^ 64)) then Err BadWord
    else (if nat_lt (digits_value 10 digits) body.time then Err TimeBack
    else Ok (Entry, record body { time = digits_value 10 digits }))

-- a value of a net that is as wide as it has to be
abbrev pub given : Body → List ℕ → (ℕ → Bool) → (ℕ → List Bit) → Option ℕ → Next Body
given body widths fits value None = Err UnknownCode
given body widths fits value (Some net) = need (fits (slice_index widths net)) (Entry, changed body net (value (slice_index widths net)))

unfoldable pub scalar : Header → Body → ℕ → List ℕ → Next Body
scalar header body byte code =
    if length code == 0 then Err BadWord
    else given body header.widths (λ width. width == 1) (λ width. bit_of byte ∷ []) (net_of header.nets code)

unfoldable pub vector : Header → Body → List Bit → List ℕ → Next Body
vector header body bits code =
    given body header.widths (λ width. nat_le (length bits) width) (λ width. extended bits width) (net_of header.nets code)

unfoldable pub bits : List ℕ → Result Wanted VcdKind
bits word = need (not (length word == 0 || nat_lt 128 (length word) || not (list_all is_bit word))) (Code (bits_of word))

-- the word that opens a section, or its `$end`
unfoldable pub section : Body → List ℕ → Next Body
section body word =
    if is_end word then need body.is_open (Entry, record body { is_open = false })
    else need (not body.is_open) (Entry, record body { is_open = true })

-- an entry: `#` (its code is 35) and a time, the word of a section or its `$end`, a comment, a bit and a code, or `b` or `B` and bits
unfoldable pub entry : Header → Body → List ℕ → Next Body
entry header body word =
    if slice_index word 0 == 35 then time body (drop 1 word)
    else (if is_section word || is_end word then section body word
    else (if bytes_eq word (codes "$comment") then Ok (Remark, body)
    else (if is_bit (slice_index word 0) then scalar header body (slice_index word 0) (drop 1 word)
    else (if slice_index word 0 == 98 || slice_index word 0 == 66 then beside body (bits (drop 1 word))
    else Err BadWord))))

-- ---- a file
abbrev pub with_header : Body → Next Header → Result Reader VcdKind
with_header body (Ok next) = Ok (record { wanted = next.0; header = next.1; body = body })
with_header body (Err kind) = Err kind

abbrev pub with_body : Header → Next Body → Result Reader VcdKind
with_body header (Ok next) = Ok (record { wanted = next.0; header = header; body = next.1 })
with_body header (Err kind) = Err kind

-- what a word leads to
abbrev pub taken : Wanted → Header → Body → List ℕ → Result Reader VcdKind
taken Command header body word = with_header body (command header word)
taken Scale header body word = with_header body (scale header word)
taken (ScaleUnit power) header body word = with_header body (unit header power word)
taken ScopeName header body word = with_header body (scope_name header word)
taken (VarCode width) header body word = with_header body (var_code header width word)
taken (VarName net) header body word = with_header body (var_name header net word)
taken Entry header body word = with_body header (entry header body word)
taken (Code value) header body word = with_body header (vector header body value word)
taken wanted header body word = with_header body (beside header (plain wanted word))

unfoldable pub step : Reader → List ℕ → Result Reader VcdKind
step reader word = if is_word word then taken reader.wanted reader.header reader.body word else Err BadByte

-- a fault and its line
pub record Fault : Type 0 where
  pub line : ℕ
  pub kind : VcdKind

-- a file may end where an entry may stand, outside a section
abbrev pub is_entry : Wanted → Bool
is_entry Entry = true
is_entry _ = false

abbrev pub may_end : Reader → Bool
may_end reader = is_entry reader.wanted && not reader.body.is_open

unfoldable pub finish : Reader → ℕ → Result Trace Fault
finish reader last =
    if may_end reader
    then Ok (record { power = reader.header.power; widths = reader.header.widths; vars = reader.header.vars; changes = reader.body.changes })
    else Err (record { line = last; kind = OpenEnd })

-- what comes after a word, or its fault
abbrev pub onward : (Reader → Result Trace Fault) → ℕ → Result Reader VcdKind → Result Trace Fault
onward next line (Ok reader) = next reader
onward next line (Err kind) = Err (record { line = line; kind = kind })

-- the trace that the words lead to, or the first fault among them; `last` is the line on which the file ends
abbrev pub run : ℕ → List Spot → Reader → Result Trace Fault
run last [] reader = finish reader last
run last (spot ∷ spots) reader = onward (run last spots) spot.line (step reader spot.word)

abbrev pub start : Reader
start = record {
  wanted = Command;
  header = record { power = pos 0; scopes = []; nets = []; widths = []; vars = [] };
  body = record { time = 0; is_open = false; changes = [] };
}

-- the trace of a file, or its first fault
abbrev pub reading : List ℕ → Result Trace Fault
reading file = run (1 + count_by is_line_feed file) (spots_of file) start

-- ---- what the code answers
-- a word was taken as said, or is the fault that is said; want of memory says nothing
abbrev pub Takes : {A : Type 0} → Result Wanted Stop → A → Next A → Type 0
Takes (Ok wanted) after next = next ≡ Ok (wanted, after)
Takes (Err (stop.Refused kind)) after next = next ≡ Err kind
Takes (Err stop.Memory) after next = Unit {0}

abbrev pub with_wanted : Reader → Wanted → Reader
with_wanted reader wanted = record reader { wanted = wanted }

-- the same of a whole reader, whose field `wanted` isn't written yet
abbrev pub Leads : Result Wanted Stop → Reader → Result Reader VcdKind → Type 0
Leads (Ok wanted) after next = next ≡ Ok (with_wanted after wanted)
Leads (Err (stop.Refused kind)) after next = next ≡ Err kind
Leads (Err stop.Memory) after next = Unit {0}

abbrev pub Steps : {U : Type 0} → Result U Stop → Reader → Result Reader VcdKind → Type 0
Steps (Ok _) after next = next ≡ Ok after
Steps (Err (stop.Refused kind)) after next = next ≡ Err kind
Steps (Err stop.Memory) after next = Unit {0}

-- a file was read as said, or has the fault that is said; want of memory says nothing
abbrev pub Reads : Result Trace VcdFault → Result Trace Fault → Type 0
Reads (Ok trace) read = read ≡ Ok trace
Reads (Err (fault.Refused line kind)) read = read ≡ Err (record { line = line; kind = kind })
Reads (Err fault.Memory) read = Unit {0}

-- this trace was read, unless memory ran out
abbrev pub Gives : Result Trace VcdFault → Trace → Type 0
Gives (Ok read) trace = read ≡ trace
Gives (Err (fault.Refused line kind)) trace = ⊥
Gives (Err fault.Memory) trace = Unit {0}

-- the fault of a word on a line
abbrev pub fault_of : Stop → ℕ → VcdFault
fault_of (stop.Refused kind) line = fault.Refused line kind
fault_of stop.Memory line = fault.Memory
