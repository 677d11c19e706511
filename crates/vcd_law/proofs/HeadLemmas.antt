-- The header of a dump of plain names is in the grammar, and has a net for each item.
use Rattle.std.proofs.Common.{◌≡◌, ℕ, ◌+◌, ◌<◌, ◌≤◌, Bool, true, not, ◌&&◌, List, [], ◌∷◌, ◌++◌, length, map, get_or, refl, sym, ap, subst, ◌∙◌, arith, inl, inr, codes, Some, None, Option, slice_get, zero-add}
use Rattle.std.specs.Prelude.{All, ℤ, pos, ◌+ℤ◌, ◌==◌, option_map}
use Rattle.std.specs.List.{flat_map, list_all}
use Rattle.std.proofs.lemmas.Bool.{not-true}
use Rattle.std.proofs.lemmas.List.Elements.{All-nil, All-cons}
use Rattle.std.proofs.lemmas.Option.{slice_get-map, slice_get_within, get_or_from_slice_get}
use Rattle.vcd_read.specs.Words.{is_printable, is_end}
use Rattle.vcd_read.specs.Grammar.{ended, IsRemark, IsScale, AreCommands}
use Rattle.vcd_write.specs.declared.types.DumpItem.{DumpItem}
use Rattle.vcd_write.specs.declared.types.DumpScope.{DumpScope}
use Rattle.vcd_write.specs.Header.{header_text, time_unit, size, var_pieces, scope_pieces, scopes_text}
use Rattle.vcd_law.specs.Words.{Written, AreWritten, text_of, words_of, spaced, lined}
use Rattle.vcd_law.specs.Own.{is_plain, IsHead}
use Rattle.vcd_law.proofs.Known.{Header}
use Rattle.vcd_law.proofs.WordLemmas.{and-left, and-right, some-length}
use Rattle.vcd_law.proofs.JoinLemmas.{text-append, words-append, are-append}
use Rattle.vcd_law.proofs.NetLemmas.{IsDeclared, Fits}
use Rattle.vcd_law.proofs.BodyLemmas.{HasNets}
use Rattle.vcd_law.proofs.BlockLemmas.{Inner, Commands, Leads, IsBlock, IsName, Has}
use Rattle.vcd_law.proofs.HeldLemmas.{IsUnder, AreItems, item_marks, items-are, item-under, held_items, held-is, scope_marks, scopes-are, held-all}
use Rattle.vcd_law.proofs.UnitLemmas.{IsUnit, unit-is}

-- ---- names
name-is : (name : List ℕ) → is_plain name ≡ true → IsName name
name-is name h =
    let a : Bool = not (length name == 0) in
    let b : Bool = list_all is_printable name in
    let c : Bool = not (is_end name) in
    let rest = and-right a (b && c) h in
    record {
      some = some-length (length name) (and-left a (b && c) h);
      printed = and-left b c rest;
      inner = not-true (is_end name) (and-right b c rest);
    }

-- ---- the first lines
abbrev unit_words : List ℕ → List Written
unit_words unit =
    spaced (codes "$version") ∷ spaced (codes "vvp") ∷ spaced (codes "profile") ∷ spaced (codes "P1") ∷ lined (codes "$end")
    ∷ spaced (codes "$timescale") ∷ spaced unit ∷ lined (codes "$end") ∷ []

abbrev last_words : List Written
last_words = spaced (codes "$enddefinitions") ∷ lined (codes "$end") ∷ []

abbrev version : List (List ℕ)
version = codes "$version" ∷ codes "vvp" ∷ codes "profile" ∷ codes "P1" ∷ []

abbrev scale : List ℕ → List (List ℕ)
scale unit = codes "$timescale" ∷ unit ∷ []

unit-written : (unit : List ℕ) → IsUnit unit → AreWritten (unit_words unit)
unit-written unit h = (
  record { some = omega arith; printable = refl; white = refl },
  (
    record { some = omega arith; printable = refl; white = refl },
    (
      record { some = omega arith; printable = refl; white = refl },
      (
        record { some = omega arith; printable = refl; white = refl },
        (
          record { some = omega arith; printable = refl; white = refl },
          (
            record { some = omega arith; printable = refl; white = refl },
            (
              record { some = h.some; printable = h.printed; white = refl },
              (record { some = omega arith; printable = refl; white = refl }, tt),
            ),
          ),
        ),
      ),
    ),
  ),
)

last-written : AreWritten last_words
last-written = (record { some = omega arith; printable = refl; white = refl }, (record { some = omega arith; printable = refl; white = refl }, tt))

version-inner : All Inner version
version-inner =
    All-cons Inner (codes "$version") (codes "vvp" ∷ codes "profile" ∷ codes "P1" ∷ []) refl
    (All-cons Inner (codes "vvp") (codes "profile" ∷ codes "P1" ∷ []) refl
    (All-cons Inner (codes "profile") (codes "P1" ∷ []) refl
    (All-cons Inner (codes "P1") [] refl (All-nil Inner))))

scale-inner : (unit : List ℕ) → IsUnit unit → All Inner (scale unit)
scale-inner unit h = All-cons Inner (codes "$timescale") (unit ∷ []) refl (All-cons Inner unit [] h.inner (All-nil Inner))

abbrev pub at_first : Header
at_first = record { power = pos 0; scopes = []; nets = []; widths = []; vars = [] }

abbrev with_power : ℤ → Header
with_power power = record { power = power; scopes = []; nets = []; widths = []; vars = [] }

-- ---- a whole header
pub record IsHeader (text : List ℕ) (sizes : List ℕ) : Type 0 where
  pub written : List Written
  pub commands : Commands
  pub header : Header
  pub are_written : AreWritten written
  pub text_is : text ≡ text_of written
  pub words_are : words_of written ≡ flat_map ended commands ++ (codes "$enddefinitions" ∷ codes "$end" ∷ [])
  pub heads : AreCommands commands at_first header
  pub has_nets : HasNets header sizes

none-some : (net : ℕ) → ◌≡◌ {A = Option ℕ} None (Some net) → ⊥
none-some net e = cc

no-code : (sizes : List ℕ) → Fits sizes [] []
no-code sizes = record { as_many = refl; each = λ k net width here names. absurd (none-some net names) }

-- an item with a size in the list of sizes
record IsItem (items : List DumpItem) (k width : ℕ) : Type 0 where
  item : DumpItem
  here : slice_get items k ≡ Some item
  wide : size item ≡ width

item-is : (items : List DumpItem) (k width : ℕ) → slice_get (map size items) k ≡ Some width → IsItem items k width
item-is items k width h = by_item (slice_get items k) refl (sym (slice_get-map size items k) ∙ h)
  where
    by_item : (found : Option DumpItem) → slice_get items k ≡ found → option_map size found ≡ Some width → IsItem items k width
    by_item None e f = absurd (none-some width f)
    by_item (Some item) e f = record { item = item; here = e; wide = cc }

module _ (power : ℤ) (scopes : List DumpScope) (items : List DumpItem) (head : IsHead power scopes items) where
  are-items : AreItems (map size items) 0 items
  are-items = record {
    here = λ i item e. ap (slice_get (map size items)) (zero-add i) ∙ slice_get-map size items i ∙ ap (option_map size) e;
    few = (let few = head.few in omega (arith, few));
    most = head.sizes;
    names = λ k d h. name-is (get_or items k d).name (head.item_names k d h);
  }

  abbrev all_marks : List ℕ
  all_marks = held_items 0 (scope_pieces (var_pieces 0 items) 0 scopes) (scope_marks (var_pieces 0 items) (item_marks 0 items) 0 scopes)

  blocks : IsBlock (map size items) (scopes_text scopes items) all_marks
  blocks =
      held-is (map size items) 0 (scope_pieces (var_pieces 0 items) 0 scopes) (scope_marks (var_pieces 0 items) (item_marks 0 items) 0 scopes)
      (scopes-are (var_pieces 0 items) (item_marks 0 items) (map size items) (items-are (map size items) 0 items are-items) 0 scopes (λ k d h. name-is (get_or scopes k d).name (head.scope_names k d h)))

  has-all : (k : ℕ) → k < length items → Has all_marks k
  has-all k h =
      let under : IsUnder (var_pieces 0 items) (item_marks 0 items) (length scopes) (0 + k) = item-under 0 k items (length scopes) h head.inside in
      held-all (var_pieces 0 items) (item_marks 0 items) k scopes head.nested (subst (IsUnder (var_pieces 0 items) (item_marks 0 items) (length scopes)) (zero-add k) under)

  nets-are : (before : Header) (commands : Commands) → (leads : Leads (map size items) commands all_marks before) → HasNets leads.after (map size items)
  nets-are before commands leads = record {
    least = λ k width here.
        let found : IsItem items k width = item-is items k width here in
        let wide = found.wide in
        omega (arith, wide);
    most = λ k width here.
        let found : IsItem items k width = item-is items k width here in
        let wide = found.wide in
        let most : size (get_or items k found.item) ≤ 128 = head.sizes k found.item (slice_get_within items k found.item found.here) in
        let one : get_or items k found.item ≡ found.item = get_or_from_slice_get items k found.item found.item found.here in
        let same = ap size one in
        omega (arith, wide, most, same);
    nets = λ k width here.
        let found : IsItem items k width = item-is items k width here in
        let declared : IsDeclared leads.after.nets k = leads.found k (has-all k (slice_get_within items k found.item found.here)) in
        record { net = declared.net; names = declared.names; wide = leads.fits.each k declared.net width here declared.names };
  }

  head-with : (unit : IsUnit (time_unit power)) → IsHeader (header_text power scopes items) (map size items)
  unfolding header_text
  head-with unit =
      let scaled : Header = with_power (pos unit.power +ℤ unit.unit) in
      let leads : Leads (map size items) blocks.commands all_marks scaled = blocks.leads scaled (no-code (map size items)) in
      let remark : IsRemark version at_first at_first = record { command = codes "$version"; more = codes "vvp" ∷ codes "profile" ∷ codes "P1" ∷ []; spelled = refl; begins = refl; same = refl } in
      let scale_is : IsScale (scale (time_unit power)) at_first scaled = record {
        number = unit.number;
        of_unit = unit.of_unit;
        power = unit.power;
        unit = unit.unit;
        spelled = inr (ap (λ w. codes "$timescale" ∷ w ∷ []) unit.spelled);
        number_is = unit.number_is;
        unit_is = unit.unit_is;
        holds = refl;
      } in
      record {
        written = unit_words (time_unit power) ++ (blocks.written ++ last_words);
        commands = version ∷ scale (time_unit power) ∷ blocks.commands;
        header = leads.after;
        are_written = are-append (unit_words (time_unit power)) (blocks.written ++ last_words) (unit-written (time_unit power) unit) (are-append blocks.written last_words blocks.are_written last-written);
        text_is = ap (λ t. codes "$version vvp profile P1 $end\n$timescale " ++ (time_unit power ++ (codes " $end\n" ++ t)))
            (ap (λ t. t ++ codes "$enddefinitions $end\n") blocks.text_is ∙ sym (text-append blocks.written last_words));
        words_are = ap (λ ws. words_of (unit_words (time_unit power)) ++ ws) (words-append blocks.written last_words ∙ ap (λ ws. ws ++ words_of last_words) blocks.words_are);
        heads = (version-inner, at_first, inl remark, (scale-inner (time_unit power) unit, scaled, inr (inl scale_is), leads.says));
        has_nets = nets-are scaled blocks.commands leads;
      }

  pub head-is : IsHeader (header_text power scopes items) (map size items)
  head-is = head-with (unit-is power head.least head.most)
