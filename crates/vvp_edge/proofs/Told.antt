-- What is told of bytes that go out step by step.
use Rattle.std.proofs.Common.{◌≡◌, ℕ, ◌+◌, ◌-◌, List, [], ◌++◌, length, take, drop, refl, sym, ap, ◌∙◌, append_assoc, append-nil, arith, take-take, take_all, length-drop}
use Rattle.std.proofs.lemmas.List.{take-append-drop, drop-take}
use Rattle.std.specs.Prelude.{IsSome}
use Rattle.std.specs.declared.option.Option.{Option}
use Rattle.std.specs.declared.option.Option.TheVariants.{Some, None}
use Rattle.std.specs.Io.KnownBytes.{append_known}
use Rattle.vvp_edge.specs.Bytes.{IsPrefix}
use Rattle.vvp_edge.specs.Files.{Files, appended}
use Rattle.vvp_edge.proofs.FilesLemmas.{appended-nil, appended-append}

pub append_known-nil : (known : Option (List ℕ)) → append_known known [] ≡ known
append_known-nil None = refl
append_known-nil (Some xs) = ap Some (append-nil xs)

pub append_known-append : (known : Option (List ℕ)) (a b : List ℕ) → append_known (append_known known a) b ≡ append_known known (a ++ b)
append_known-append None a b = refl
append_known-append (Some xs) a b = ap Some (append_assoc xs a b)

-- the front that was sent, and a piece of what is left
take-take_drop : (k n : ℕ) (xs : List ℕ) → take k xs ++ take n (drop k xs) ≡ take (k + n) xs
take-take_drop k n xs =
    ap (λ a. a ++ take n (drop k xs)) (sym (take-take k (k + n) xs (omega arith)))
    ∙ ap (λ b. take k (take (k + n) xs) ++ b) (sym (drop-take k n xs))
    ∙ take-append-drop k (take (k + n) xs)

-- nothing was sent yet
pub sent_none : (known : Option (List ℕ)) (xs : List ℕ) → known ≡ append_known known (take 0 xs)
sent_none known xs = sym (append_known-nil known)

-- the rest of a slice, as the code takes it
the_rest : (xs : List ℕ) (k : ℕ) → take (length xs - k) (drop k xs) ≡ drop k xs
the_rest xs k = take_all _ _ (rw length-drop (omega arith))

take_rest : (xs : List ℕ) (k n : ℕ) → take k xs ++ take n (take (length xs - k) (drop k xs)) ≡ take (k + n) xs
take_rest xs k n = ap (λ (rest : List ℕ). take k xs ++ take n rest) (the_rest xs k) ∙ take-take_drop k n xs

-- one more piece was sent
pub sent_more : (old mid new : Option (List ℕ)) (xs : List ℕ) (k n : ℕ) → new ≡ append_known mid (take n (take (length xs - k) (drop k xs))) → mid ≡ append_known old (take k xs) → new ≡ append_known old (take (k + n) xs)
sent_more old mid new xs k n step so_far =
    step ∙ ap (λ (known : Option (List ℕ)). append_known known (take n (take (length xs - k) (drop k xs)))) so_far
    ∙ append_known-append old _ _ ∙ ap (append_known old) (take_rest xs k n)

-- nothing was added to the file that is written
pub appended_none : (files : Option Files) (target : Option (List ℕ)) (xs : List ℕ) → (IsSome files → IsSome target) → files ≡ appended files target (take 0 xs)
appended_none files target xs h = sym (appended-nil files target h)

-- one more piece was added to it
pub appended_more : (old mid new : Option Files) (before now : Option (List ℕ)) (xs : List ℕ) (k n : ℕ) → new ≡ appended mid now (take n (take (length xs - k) (drop k xs))) → mid ≡ appended old before (take k xs) → now ≡ before → new ≡ appended old before (take (k + n) xs)
appended_more old mid new before now xs k n step so_far same =
    step ∙ ap (λ (target : Option (List ℕ)). appended mid target (take n (take (length xs - k) (drop k xs)))) same
    ∙ ap (λ (files : Option Files). appended files before (take n (take (length xs - k) (drop k xs)))) so_far
    ∙ appended-append old before _ _ ∙ ap (appended old before) (take_rest xs k n)

pub front_is_prefix : (k : ℕ) (xs : List ℕ) → IsPrefix (take k xs) xs
front_is_prefix k xs = (drop k xs, sym (take-append-drop k xs))
