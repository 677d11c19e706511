-- What holds of a statement of a file that breaks no rule.
use Rattle.std.proofs.Common.{◌≡◌, ℕ, zero, suc, ◌+◌, ◌≤◌, Bool, true, false, List, [], ◌∷◌, ◌++◌, Option, None, Some, refl, sym, ap, ◌∙◌, arith}
use Rattle.std.proofs.lemmas.Bool.{ltb-false}
use Rattle.std.proofs.lemmas.List.Elements.{All-contains}
use Rattle.std.proofs.lemmas.Option.{get_or_from_slice_get, slice_get_within}
use Rattle.std.specs.Prelude.{slice_get, ◌||◌, ◌&&◌, nat_le, nat_lt}
use Rattle.std.specs.Option.{option_or}
use Rattle.vvp_forms.specs.declared.form.Form.{Form}
use Rattle.sym_link.specs.declared.fault.LinkKind.{LinkKind}
use Rattle.sym_link.specs.declared.placed.Placed.{Placed}
use Rattle.sym_link.specs.declared.placed.What.{What}
use Rattle.sym_link.specs.declared.placed.What.TheVariants as what
use Rattle.sym_link.specs.declared.rules.TheConstants.{MOST_ITEMS, MOST_OPCODES, MOST_STARTS, MOST_WORDS}
use Rattle.sym_link.specs.Currents.{AreFormed}
use Rattle.sym_link.specs.LinkRules.{Tested, broken_rule, code_rules, first_broken, first_refusal, limit_reached, limit_rules, refusal_from, refusal_or, symbol_rules, value_rules}
use Rattle.sym_link.specs.Meaning.{form_item, gate_of, item_said, other_item}
use Rattle.sym_link.specs.Places.{counts_before, is_item_statement, is_opcode_what, is_thread_form, words_in}
use Rattle.sym_link.specs.Spelled.{Refusal}
use Rattle.sym_link.specs.Widths.{what_width}
use Rattle.sym_link.proofs.RuleLemmas.{first-append}

none-here : (line : ℕ) (o : Option LinkKind) (later : Option (Refusal LinkKind)) → refusal_or line o later ≡ None → (o ≡ None) × (later ≡ None)
none-here line None later is = (refl, is)
none-here line (Some k) later is = absurd (cc)

refusal-free : (file : List ℕ) (all : List Placed) (start : ℕ) (rest : List Placed) (k : ℕ) (s : Placed) → refusal_from file all start rest ≡ None → slice_get rest k ≡ Some s → broken_rule file all (start + k) s ≡ None
refusal-free file all start [] k s none there = absurd (cc)
refusal-free file all start (x ∷ rest) zero s none there =
    let same : x ≡ s = cc in
    let here : start + 0 ≡ start = omega arith in
    ap (λ n. broken_rule file all n s) here ∙ ap (broken_rule file all start) (sym same)
    ∙ (none-here x.line (broken_rule file all start x) (refusal_from file all (start + 1) rest) none).0
refusal-free file all start (x ∷ rest) (suc k) s none there =
    let here : start + suc k ≡ start + 1 + k = omega arith in
    ap (λ n. broken_rule file all n s) here
    ∙ refusal-free file all (start + 1) rest k s (none-here x.line (broken_rule file all start x) (refusal_from file all (start + 1) rest) none).1 there

-- no statement of the file breaks a rule
pub rule-free : (file : List ℕ) (all : List Placed) (place : ℕ) (s : Placed) → first_refusal file all ≡ None → slice_get all place ≡ Some s → broken_rule file all place s ≡ None
unfolding first_refusal
rule-free file all place s none there =
    let here : 0 + place ≡ place = omega arith in
    ap (λ n. broken_rule file all n s) (sym here) ∙ refusal-free file all 0 all place s none there

later-free : (a b : List Tested) → first_broken (a ++ b) ≡ None → first_broken b ≡ None
later-free a b is = by (first_broken a) (sym (first-append a b) ∙ is)
  where
    by : (o : Option LinkKind) → option_or o (first_broken b) ≡ None → first_broken b ≡ None
    by None is = is
    by (Some k) is = absurd (cc)

test-free : (t : Bool) (k : LinkKind) → first_broken ((t, k) ∷ []) ≡ None → t ≡ false
test-free true k is = absurd (cc)
test-free false k is = refl

limit-free : (file : List ℕ) (all : List Placed) (place : ℕ) (s : Placed) → broken_rule file all place s ≡ None → limit_reached all place s ≡ false
unfolding broken_rule
limit-free file all place s is =
    test-free (limit_reached all place s) _
    (later-free (code_rules file all s.what) (limit_rules all place s)
    (later-free (value_rules file all place s.what) (code_rules file all s.what ++ limit_rules all place s)
    (later-free (symbol_rules file all place s) (value_rules file all place s.what ++ (code_rules file all s.what ++ limit_rules all place s)) is)))

third-false : (a b c d : Bool) → (((a || b) || c) || d) ≡ false → c ≡ false
third-false true b c d is = absurd (cc)
third-false false true c d is = absurd (cc)
third-false false false true d is = absurd (cc)
third-false false false false d is = refl

-- the words of an array
pub words-few : (file : List ℕ) (all : List Placed) (place : ℕ) (s : Placed) → first_refusal file all ≡ None → slice_get all place ≡ Some s → words_in s.what ≤ MOST_WORDS
words-few file all place s none there =
    let free = limit-free file all place s (rule-free file all place s none there) in
    let sum : (counts_before all place).words + words_in s.what ≤ MOST_WORDS = ltb-false MOST_WORDS ((counts_before all place).words + words_in s.what) (third-false (is_item_statement s && nat_le MOST_ITEMS (counts_before all place).items) (is_opcode_what s.what && nat_le MOST_OPCODES (counts_before all place).opcodes) (nat_lt MOST_WORDS ((counts_before all place).words + words_in s.what)) (is_thread_form s.what && nat_le MOST_STARTS (counts_before all place).starts) free) in
    omega (arith, sum)

pub width-few : (all : List Placed) (place : ℕ) (s : Placed) → AreFormed all → slice_get all place ≡ Some s → what_width s.what ≤ 128
width-few all place s formed there =
    All-contains (λ (x : Placed). what_width x.what ≤ 128) all s formed (place, slice_get_within all place s there, get_or_from_slice_get all place s s there)

pub said-none : (file : List ℕ) (all : List Placed) (place scope : ℕ) (labelled : Bool) (w : What) (f : Form) → w ≡ what.Form f → None ≡ gate_of f → other_item file all place scope labelled f ≡ item_said file all place scope labelled w
unfolding item_said
said-none file all place scope labelled w f is none =
    ap (form_item file all place scope labelled f) none ∙ sym (ap (item_said file all place scope labelled) is)
