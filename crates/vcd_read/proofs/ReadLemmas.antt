-- One turn of the reader over a file.
use Rattle.std.proofs.Common.{◌≡◌, ℕ, ◌+◌, ◌<◌, ◌≤◌, List, ◌∷◌, length, take, drop, refl, sym, ap, ◌∙◌, arith}
use Rattle.std.specs.Prelude.{Ok, Err}
use Rattle.std.specs.List.{prefix_len}
use Rattle.std.proofs.lemmas.List.{take_rest}
use Rattle.vvp_lex.specs.Text.{cut, is_white}
use Rattle.vvp_lex.specs.Statement.{line_at}
use Rattle.vcd_read.specs.declared.types.Stop.{Stop}
use Rattle.vcd_read.specs.declared.types.Stop.TheVariants as stop
use Rattle.vcd_read.specs.declared.reader.Reader.{Reader}
use Rattle.vcd_read.specs.Words.{Spot, spot_front, more_len}
use Rattle.vcd_read.specs.Reading.{step, run, reading, Steps, Reads, fault_of}
use Rattle.vcd_read.proofs.SpotLemmas.{rest_of, rest_twice, length-rest_of, Stands, spots-more}

-- a fault ends the reading
pub stops : (found : Stop) (line last : ℕ) (reader after : Reader) (word : List ℕ) (rest : List Spot) → Steps {U = Unit {0}} (Err found) after (step reader word) → Reads (Err (fault_of found line)) (run last (record { line = line; word = word } ∷ rest) reader)
stops (stop.Refused kind) line last reader after word rest h = rw h refl
stops stop.Memory line last reader after word rest h = tt

-- a word that is taken leads on
pub goes : (line last : ℕ) (reader after : Reader) (word : List ℕ) (rest : List Spot) → step reader word ≡ Ok after → run last (record { line = line; word = word } ∷ rest) reader ≡ run last rest after
goes line last reader after word rest h = rw h refl

-- what is left begins with the word that the code reads
pub left-here : (file : List ℕ) (at : ℕ) → Stands file at → at < length file → (len n line last : ℕ) (reader : Reader) → len ≡ 1 + more_len (rest_of file at) → len ≤ length (rest_of file at) → n ≡ prefix_len is_white (rest_of (rest_of file at) len) → line ≡ line_at file at → reading file ≡ run last (cut (spot_front file) at 0 (drop at file)) reader → Stands file (at + (len + n)) × (reading file ≡ run last (record { line = line; word = take len (rest_of file at) } ∷ cut (spot_front file) (at + (len + n)) 0 (drop (at + (len + n)) file)) reader)
left-here file at stands inside len n line last reader len_is len_in gap line_is left =
    let len_here : len ≡ 1 + more_len (drop at file) = len_is ∙ ap (λ l. 1 + more_len l) (take_rest file at) in
    let in_range : at + len ≤ length file = omega (arith, length-rest_of file at) in
    let gap_here : n ≡ prefix_len is_white (drop (at + len) file) = gap ∙ ap (prefix_len is_white) (rest_twice file at len) in
    let more = spots-more file at stands inside len n len_here in_range gap_here in
    let rest : List Spot = cut (spot_front file) (at + (len + n)) 0 (drop (at + (len + n)) file) in (
      more.0,
      left ∙ ap (λ spots. run last spots reader) more.1
          ∙ ap (λ l. run last (record { line = l; word = take len (drop at file) } ∷ rest) reader) (sym line_is)
          ∙ ap (λ text. run last (record { line = line; word = take len text } ∷ rest) reader) (sym (take_rest file at)),
    )
