-- A dump grows by times, sections and changes, and stays one of ours.
use Rattle.std.proofs.Common.{◌≡◌, ℕ, zero, suc, ◌+◌, ◌<◌, ◌≤◌, ◌^◌, Bool, true, false, cond, List, [], ◌∷◌, ◌++◌, length, map, refl, sym, ap, subst, ◌∙◌, arith, append_assoc, append-nil}
use Rattle.std.specs.Prelude.{All, ℤ}
use Rattle.std.specs.List.{filter, range_with_len}
use Rattle.std.proofs.lemmas.List.{length-map}
use Rattle.std.proofs.lemmas.List.Concat.{flat_map-append}
use Rattle.std.proofs.lemmas.List.Elements.{All-nil, All-cons, All-head, All-tail}
use Rattle.four_state.specs.declared.bits.Bit.{Bit}
use Rattle.value_plane.specs.Differing.{differing_places}
use Rattle.vcd_write.specs.declared.types.DumpItem.{DumpItem}
use Rattle.vcd_write.specs.declared.types.DumpScope.{DumpScope}
use Rattle.vcd_write.specs.declared.types.Section.{Section}
use Rattle.vcd_write.specs.Header.{header_text, size}
use Rattle.vcd_write.specs.Section.{section_text, changes_text, time_text}
use Rattle.vcd_law.specs.Own.{Part, Time, Values, Lines, part_text, parts_text, AreParts, last_time, IsHead, IsOwn, IsDumpTo}

-- ---- parts, one list after another
parts-append : (items : List DumpItem) (now : ℕ) (parts more : List Part) → AreParts items now parts → AreParts items (last_time now parts) more → AreParts items now (parts ++ more)
parts-append items now [] more h k = k
parts-append items now (Time time ∷ parts) more h k = (h.0, h.1, parts-append items time parts more h.2 k)
parts-append items now (Values kind values ∷ parts) more h k = (h.0, parts-append items now parts more h.1 k)
parts-append items now (Lines values places ∷ parts) more h k = (h.0, h.1, parts-append items now parts more h.2 k)

last-append : (now : ℕ) (parts more : List Part) → last_time now (parts ++ more) ≡ last_time (last_time now parts) more
last-append now [] more = refl
last-append now (Time time ∷ parts) more = last-append time parts more
last-append now (Values kind values ∷ parts) more = last-append now parts more
last-append now (Lines values places ∷ parts) more = last-append now parts more

-- ---- places that differ are those of items
filter-all : (P : ℕ → Type 0) (test : ℕ → Bool) (xs : List ℕ) → All P xs → All P (filter test xs)
filter-all P test [] all = All-nil P
filter-all P test (x ∷ xs) all = by_test (filter-all P test xs (All-tail P x xs all)) (test x)
  where
    by_test : All P (filter test xs) → (passes : Bool) → All P (cond passes (x ∷ filter test xs) (filter test xs))
    by_test rest true = All-cons P x (filter test xs) (All-head P x xs all) rest
    by_test rest false = rest

range-all : (from count most : ℕ) → from + count ≤ most → All (λ place. place < most) (range_with_len from count)
range-all from zero most h = All-nil (λ place. place < most)
range-all from (suc count) most h = All-cons (λ place. place < most) from (range_with_len (from + 1) count) (omega (arith, h)) (range-all (from + 1) count most (omega (arith, h)))

differing-inside : (last now : List (List Bit)) (count : ℕ) → length last ≡ count → All (λ place. place < count) (differing_places last now)
unfolding differing_places
differing-inside last now count e = filter-all (λ place. place < count) _ (range_with_len 0 (length last)) (range-all 0 (length last) count (omega (arith, e)))

-- ---- dumps
module _ (power : ℤ) (scopes : List DumpScope) (items : List DumpItem) where
  -- a header alone
  pub begun : IsHead power scopes items → (now : ℕ) → IsDumpTo power scopes items now (header_text power scopes items)
  begun head now = record { parts = []; head = head; follow = tt; onward = omega arith; spelled = sym (append-nil (header_text power scopes items)) }

  pub later-grown : (now later : ℕ) (text : List ℕ) → now ≤ later → IsDumpTo power scopes items now text → IsDumpTo power scopes items later text
  later-grown now later text le h = (let onward = h.onward in record { parts = h.parts; head = h.head; follow = h.follow; onward = omega (arith, le, onward); spelled = h.spelled })

  pub dump-own : (now : ℕ) (text : List ℕ) → IsDumpTo power scopes items now text → IsOwn text
  dump-own now text h = record { power = power; scopes = scopes; items = items; parts = h.parts; head = h.head; follow = h.follow; spelled = h.spelled }

  -- one part more
  part-grown : (now later : ℕ) (text : List ℕ) (part : Part) → (h : IsDumpTo power scopes items now text) → AreParts items (last_time 0 h.parts) (part ∷ []) → last_time (last_time 0 h.parts) (part ∷ []) ≤ later → IsDumpTo power scopes items later (text ++ part_text part)
  part-grown now later text part h follows onward = record {
    parts = h.parts ++ part ∷ [];
    head = h.head;
    follow = parts-append items 0 h.parts (part ∷ []) h.follow follows;
    onward = subst (λ n. n ≤ later) (sym (last-append 0 h.parts (part ∷ []))) onward;
    spelled = ap (λ t. t ++ part_text part) h.spelled
        ∙ append_assoc (header_text power scopes items) (parts_text h.parts) (part_text part)
        ∙ ap (λ t. header_text power scopes items ++ (parts_text h.parts ++ t)) (sym (append-nil (part_text part)))
        ∙ ap (λ t. header_text power scopes items ++ t) (sym (flat_map-append part_text h.parts (part ∷ [])));
  }

  pub time-grown : (now time : ℕ) (text : List ℕ) → now ≤ time → time < 2 ^ 64 → IsDumpTo power scopes items now text → IsDumpTo power scopes items time (text ++ time_text time)
  time-grown now time text le fits h =
      let onward = h.onward in
      part-grown now time text (Time time) h (omega (arith, le, onward), fits, tt) (omega arith)

  pub section-grown : (now : ℕ) (text : List ℕ) (kind : Section) (values : List (List Bit)) → map length values ≡ map size items → IsDumpTo power scopes items now text → IsDumpTo power scopes items now (text ++ section_text kind values)
  section-grown now text kind values wide h = part-grown now now text (Values kind values) h (wide, tt) h.onward

  pub changes-grown : (now : ℕ) (text : List ℕ) (last values : List (List Bit)) → map length last ≡ map size items → map length values ≡ map size items → IsDumpTo power scopes items now text → IsDumpTo power scopes items now (text ++ changes_text last values)
  unfolding changes_text
  changes-grown now text last values last_wide wide h =
      let many : length last ≡ length items = sym (length-map last length) ∙ ap length last_wide ∙ length-map items size in
      part-grown now now text (Lines values (differing_places last values)) h (wide, differing-inside last values (length items) many, tt) h.onward
