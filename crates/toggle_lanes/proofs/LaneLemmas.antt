-- The lanes of values, and after them those of more.
use Rattle.std.proofs.Common.{◌≡◌, ℕ, ◌/◌, ◌%◌, ◌^◌, nat_lt, List, ◌++◌, length, map, sym, ap, ◌∙◌, append_assoc}
use Rattle.std.proofs.lemmas.List.{map-append}
use Rattle.std.proofs.lemmas.List.Elements.{filter-append}
use Rattle.four_state.specs.declared.bits.Bit.{Bit}
use Rattle.four_state.specs.Planes.{low_plane, high_plane}
use Rattle.toggle_lanes.specs.declared.lanes.NetLanes.{NetLanes}
use Rattle.toggle_lanes.specs.Lanes.{above_64, lanes_of, added}

abbrev pub lists : List ℕ → List ℕ → List ℕ → List ℕ → NetLanes
lists a b c d = record { a_low = a; a_high = b; b_low = c; b_high = d }

same-lists : (a b c d a' b' c' d' : List ℕ) → a ≡ a' → b ≡ b' → c ≡ c' → d ≡ d' → lists a b c d ≡ lists a' b' c' d'
same-lists a b c d a' b' c' d' p q r s =
    ap (λ x. lists x b c d) p ∙ (ap (λ x. lists a' x c d) q ∙ (ap (λ x. lists a' b' x d) r ∙ ap (λ x. lists a' b' c' x) s))

high-more : (f : List Bit → ℕ) (some more : List (List Bit)) → map f (above_64 some) ++ map f (above_64 more) ≡ map f (above_64 (some ++ more))
high-more f some more = sym (ap (map f) (filter-append (λ value. nat_lt 64 (length value)) some more) ∙ map-append f (above_64 some) (above_64 more))

pub lanes-more : (some more : List (List Bit)) → added (lanes_of some) more ≡ lanes_of (some ++ more)
lanes-more some more = same-lists _ _ _ _ _ _ _ _
    (sym (map-append (λ value. low_plane value % 2 ^ 64) some more))
    (high-more (λ value. low_plane value / 2 ^ 64) some more)
    (sym (map-append (λ value. high_plane value % 2 ^ 64) some more))
    (high-more (λ value. high_plane value / 2 ^ 64) some more)

pub added-more : (lanes : NetLanes) (some more : List (List Bit)) → added (added lanes some) more ≡ added lanes (some ++ more)
added-more lanes some more = same-lists _ _ _ _ _ _ _ _
    (append_assoc lanes.a_low (lanes_of some).a_low (lanes_of more).a_low ∙ ap (λ xs. lanes.a_low ++ xs) (ap (λ l. l.a_low) (lanes-more some more)))
    (append_assoc lanes.a_high (lanes_of some).a_high (lanes_of more).a_high ∙ ap (λ xs. lanes.a_high ++ xs) (ap (λ l. l.a_high) (lanes-more some more)))
    (append_assoc lanes.b_low (lanes_of some).b_low (lanes_of more).b_low ∙ ap (λ xs. lanes.b_low ++ xs) (ap (λ l. l.b_low) (lanes-more some more)))
    (append_assoc lanes.b_high (lanes_of some).b_high (lanes_of more).b_high ∙ ap (λ xs. lanes.b_high ++ xs) (ap (λ l. l.b_high) (lanes-more some more)))
