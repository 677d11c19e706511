-- Bytes that are handed over piece by piece.
use Rattle.std.proofs.Common.{◌≡◌, ℕ, ◌+◌, ◌-◌, List, ◌++◌, take, drop, sym, ap, ◌∙◌, append_assoc, arith, take-take}
use Rattle.std.proofs.lemmas.List.{take-append-drop, drop-take}
use Rattle.std.specs.Prelude.{Option, IsSome}
use Rattle.std.specs.Io.KnownBytes.{append_known}
use Rattle.vvp_edge.specs.Bytes.{IsPrefix}
use Rattle.vvp_edge.specs.Files.{Files, appended}
use Rattle.vvp_edge.proofs.FilesLemmas.{appended-append, appended-nil}
use Rattle.vvp_top.proofs.DeliveryLemmas.{append_known-append, append_known-nil}

-- a piece of the bytes, as the code takes it
abbrev pub piece : List ℕ → ℕ → ℕ → List ℕ
piece bytes sent count = take ((sent + count) - sent) (drop sent bytes)

take-take_drop : (k n : ℕ) (xs : List ℕ) → take k xs ++ take n (drop k xs) ≡ take (k + n) xs
take-take_drop k n xs =
    ap (λ a. a ++ take n (drop k xs)) (sym (take-take k (k + n) xs (omega arith)))
    ∙ ap (λ b. take k (take (k + n) xs) ++ b) (sym (drop-take k n xs))
    ∙ take-append-drop k (take (k + n) xs)

piece-next : (bytes : List ℕ) (sent count : ℕ) → take sent bytes ++ piece bytes sent count ≡ take (sent + count) bytes
piece-next bytes sent count =
    let just : (sent + count) - sent ≡ count = omega arith in
    ap (λ (n : ℕ). take sent bytes ++ take n (drop sent bytes)) just ∙ take-take_drop sent count bytes

front-of : (bytes part : List ℕ) (sent count : ℕ) → IsPrefix part (piece bytes sent count) → IsPrefix (take sent bytes ++ part) bytes
front-of bytes part sent count (rest, is) = (
  rest ++ drop (sent + count) bytes,
  sym (take-append-drop (sent + count) bytes)
      ∙ ap (λ front. front ++ drop (sent + count) bytes) (sym (piece-next bytes sent count) ∙ ap (λ b. take sent bytes ++ b) is ∙ sym (append_assoc (take sent bytes) part rest))
      ∙ append_assoc (take sent bytes ++ part) rest (drop (sent + count) bytes),
)

pub sent-none : (known : Option (List ℕ)) (bytes : List ℕ) → known ≡ append_known known (take 0 bytes)
sent-none known bytes = sym (append_known-nil known)

pub sent-next : (old mid new : Option (List ℕ)) (bytes : List ℕ) (sent count : ℕ) → new ≡ append_known mid (piece bytes sent count) → mid ≡ append_known old (take sent bytes)
    → new ≡ append_known old (take (sent + count) bytes)
sent-next old mid new bytes sent count more so_far =
    more ∙ ap (λ k. append_known k (piece bytes sent count)) so_far ∙ append_known-append old (take sent bytes) (piece bytes sent count) ∙ ap (append_known old) (piece-next bytes sent count)

pub sent-cut : (old mid new : Option (List ℕ)) (bytes : List ℕ) (sent count : ℕ) → ((part : List ℕ) × IsPrefix part (piece bytes sent count) × (new ≡ append_known mid part)) → mid ≡ append_known old (take sent bytes)
    → (front : List ℕ) × IsPrefix front bytes × (new ≡ append_known old front)
sent-cut old mid new bytes sent count (part, is, more) so_far =
    (take sent bytes ++ part, front-of bytes part sent count is, more ∙ ap (λ k. append_known k part) so_far ∙ append_known-append old (take sent bytes) part)

pub added-none : (files : Option Files) (target : Option (List ℕ)) (bytes : List ℕ) → (IsSome files → IsSome target) → files ≡ appended files target (take 0 bytes)
added-none files target bytes told = sym (appended-nil files target told)

pub added-next : (old mid new : Option Files) (before now : Option (List ℕ)) (bytes : List ℕ) (sent count : ℕ) → new ≡ appended mid now (piece bytes sent count) → mid ≡ appended old before (take sent bytes) → now ≡ before
    → new ≡ appended old before (take (sent + count) bytes)
added-next old mid new before now bytes sent count more so_far same =
    more ∙ ap (λ target. appended mid target (piece bytes sent count)) same ∙ ap (λ files. appended files before (piece bytes sent count)) so_far
    ∙ appended-append old before (take sent bytes) (piece bytes sent count) ∙ ap (appended old before) (piece-next bytes sent count)

pub added-cut : (old mid new : Option Files) (before now : Option (List ℕ)) (bytes : List ℕ) (sent count : ℕ) → ((part : List ℕ) × IsPrefix part (piece bytes sent count) × (new ≡ appended mid now part)) → mid ≡ appended old before (take sent bytes)
    → now ≡ before → (front : List ℕ) × IsPrefix front bytes × (new ≡ appended old before front)
added-cut old mid new before now bytes sent count (part, is, more) so_far same = (
  take sent bytes ++ part,
  front-of bytes part sent count is,
  more ∙ ap (λ target. appended mid target part) same ∙ ap (λ files. appended files before part) so_far ∙ appended-append old before (take sent bytes) part,
)
