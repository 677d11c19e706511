-- Kept values, and more after them.
use Rattle.std.proofs.Common.{◌≡◌, ℕ, suc, ◌<◌, List, [], ◌∷◌, ◌++◌, length, drop, get_or, slice_get, Option, None, Some, refl, sym, ap, ◌∙◌, subst, arith}
use Rattle.std.proofs.lemmas.List.{append-nil}
use Rattle.std.proofs.lemmas.Option.{get_or_from_slice_get}
use Rattle.four_state.specs.declared.bits.Bit.{Bit}
use Rattle.vcd_read.specs.declared.types.Change.{Change}
use Rattle.vcd_read.specs.declared.changes.Kept.{Kept}
use Rattle.vcd_read.specs.Kept.{value_of, others, change_of, changes_of, IsThere, AreEnough}

-- as many values as are kept
pub count-kept : (kept : List Kept) (wide : List (List Bit)) → length (changes_of kept wide) ≡ length kept
count-kept [] wide = refl
count-kept (first ∷ kept) wide = ap suc (count-kept kept (others first.bit wide))

-- ---- more after them
value-more : (bit : Option Bit) (wide more : List (List Bit)) → IsThere bit wide → value_of bit (wide ++ more) ≡ value_of bit wide
value-more (Some bit) wide more h = refl
value-more None [] more h = absurd (omega (arith, h))
value-more None (first ∷ wide) more h = refl

others-more : (bit : Option Bit) (wide more : List (List Bit)) → IsThere bit wide → others bit (wide ++ more) ≡ others bit wide ++ more
others-more (Some bit) wide more h = refl
others-more None [] more h = absurd (omega (arith, h))
others-more None (first ∷ wide) more h = refl

there-more : (bit : Option Bit) (wide more : List (List Bit)) → IsThere bit wide → IsThere bit (wide ++ more)
there-more (Some bit) wide more h = tt
there-more None [] more h = absurd (omega (arith, h))
there-more None (first ∷ wide) more h = omega arith

-- more values after them
changes-more : (kept later : List Kept) (wide more : List (List Bit)) → AreEnough kept wide → changes_of (kept ++ later) (wide ++ more) ≡ changes_of kept wide ++ changes_of later more
changes-more [] later wide more e = ap (λ wide. changes_of later (wide ++ more)) e
changes-more (first ∷ kept) later wide more e =
    ap (λ value. change_of first value ∷ changes_of (kept ++ later) (others first.bit (wide ++ more))) (value-more first.bit wide more e.0)
    ∙ ap (λ changes. change_of first (value_of first.bit wide) ∷ changes) (ap (changes_of (kept ++ later)) (others-more first.bit wide more e.0) ∙ changes-more kept later (others first.bit wide) more e.1)

-- and the wide ones are just as many
enough-more : (kept later : List Kept) (wide more : List (List Bit)) → AreEnough kept wide → AreEnough later more → AreEnough (kept ++ later) (wide ++ more)
enough-more [] later wide more e f = subst (λ wide. AreEnough later (wide ++ more)) (sym e) f
enough-more (first ∷ kept) later wide more e f =
    (there-more first.bit wide more e.0, subst (AreEnough (kept ++ later)) (sym (others-more first.bit wide more e.0)) (enough-more kept later (others first.bit wide) more e.1 f))

-- ---- one value more
one-place : (value : List Bit) (bit : Bit) → length value ≡ 1 → slice_get value 0 ≡ Some bit → bit ∷ [] ≡ value
one-place [] bit one first = absurd (omega (arith, one))
one-place (b ∷ []) bit one first = ap (λ b. b ∷ []) (sym (get_or_from_slice_get (b ∷ []) 0 bit b first))
one-place (b ∷ c ∷ rest) bit one first = absurd (omega (arith, one))

-- of one place, as its bit
pub bit-pushed : (kept : List Kept) (wide : List (List Bit)) (one : Kept) (bit : Bit) (value : List Bit) → AreEnough kept wide → one.bit ≡ Some bit → length value ≡ 1 → slice_get value 0 ≡ Some bit
    → changes_of (kept ++ one ∷ []) wide ≡ changes_of kept wide ++ change_of one value ∷ []
bit-pushed kept wide one bit value e is long first =
    let spelled : value_of one.bit [] ≡ value = ap (λ bit. value_of bit []) is ∙ one-place value bit long first in
    ap (changes_of (kept ++ one ∷ [])) (sym (append-nil wide))
    ∙ (changes-more kept (one ∷ []) wide [] e
    ∙ ap (λ value. changes_of kept wide ++ change_of one value ∷ []) spelled)

pub bit-enough : (kept : List Kept) (wide : List (List Bit)) (one : Kept) (bit : Bit) → AreEnough kept wide → one.bit ≡ Some bit → AreEnough (kept ++ one ∷ []) wide
bit-enough kept wide one bit e is =
    subst (AreEnough (kept ++ one ∷ [])) (append-nil wide)
    (enough-more kept (one ∷ []) wide [] e (subst (λ bit. IsThere bit [] × (others bit [] ≡ [])) (sym is) (tt, refl)))

-- or wider, among the wide ones
pub wide-pushed : (kept : List Kept) (wide : List (List Bit)) (one : Kept) (value : List Bit) → AreEnough kept wide → one.bit ≡ None
    → changes_of (kept ++ one ∷ []) (wide ++ value ∷ []) ≡ changes_of kept wide ++ change_of one value ∷ []
wide-pushed kept wide one value e is =
    changes-more kept (one ∷ []) wide (value ∷ []) e
    ∙ ap (λ bit. changes_of kept wide ++ change_of one (value_of bit (value ∷ [])) ∷ []) is

pub wide-enough : (kept : List Kept) (wide : List (List Bit)) (one : Kept) (value : List Bit) → AreEnough kept wide → one.bit ≡ None → AreEnough (kept ++ one ∷ []) (wide ++ value ∷ [])
wide-enough kept wide one value e is =
    enough-more kept (one ∷ []) wide (value ∷ []) e (subst (λ bit. IsThere bit (value ∷ []) × (others bit (value ∷ []) ≡ [])) (sym is) (omega arith, refl))
