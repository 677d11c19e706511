-- The values of a program before anything has happened.
use Rattle.std.proofs.Common.{◌≡◌, ℕ, zero, suc, ◌+◌, ◌<◌, Option, Some, None, List, [], ◌∷◌, ◌++◌, length, map, set, get_or, take, drop, replicate, slice_get, refl, sym, ap, subst, ◌∙◌, arith}
use Rattle.std.specs.List.{All}
use Rattle.std.specs.Option.{option_map}
use Rattle.std.proofs.lemmas.List.{length-map, length-replicate, length-append, map-append, take_more}
use Rattle.std.proofs.lemmas.List.Elements.{All-nil, All-cons, All-append}
use Rattle.std.proofs.lemmas.Option.{get_or_from_slice_get}
use Rattle.four_state.specs.declared.bits.Bit.{Bit}
use Rattle.four_state.specs.declared.bits.Bit.TheVariants.{Unknown}
use Rattle.strengths.specs.Interval.{Interval}
use Rattle.sym_link.specs.declared.program.Item.{Item}
use Rattle.sym_link.specs.declared.program.ItemKind.{ItemKind}
use Rattle.sym_link.specs.declared.program.ItemKind.TheVariants.{Var, Net, Functor, Delay, Edge, Named, AnyOf, Array, Scope, Param}
use Rattle.sym_link.specs.Roots.{Node, node_of}
use Rattle.net_engine.specs.Net.{NetValues, Request, seen, first_driven, first_driven_by, first_forced, first_words, first_values}
use Rattle.net_engine.specs.Slots.{Held, driven_in, forced_in, place_in, HasPlaces, SlotNow, held_in, helds, KeepsValue, IsKept}
use Rattle.net_engine.specs.Built.{first_levels, first_slot, first_place, IsFirst, held_of, events_of, IsListing}
use Rattle.net_engine.proofs.MixLemmas.{mixed, mixed-more, map-get, read-at}
use Rattle.net_engine.proofs.SlotLemmas.{shown-quiet, none-forced, unforced}
use Rattle.net_engine.proofs.ListLemmas.{AreListed, listed-more}
use Rattle.net_engine.proofs.StepLemmas.{refilled}
use Rattle.net_engine.proofs.StoreLemmas.{stored}

-- ---- slots

slot-driven : (node : Node) (kind : ItemKind) → driven_in (option_map held_of (first_levels node kind)) ≡ first_driven_by node kind
slot-driven node (Var integer) = refl
slot-driven node (Functor gate drive ports) = refl
slot-driven node (Delay rise fall decay port) = refl
slot-driven node (Net root) = refl
slot-driven node (Edge edge ports) = refl
slot-driven node Named = refl
slot-driven node (AnyOf events) = refl
slot-driven node (Array words) = refl
slot-driven node (Scope scope) = refl
slot-driven node Param = refl

slot-forced : (node : Node) (kind : ItemKind) → forced_in (option_map held_of (first_levels node kind)) ≡ map (λ level. None) (first_driven_by node kind)
slot-forced node (Var integer) = refl
slot-forced node (Functor gate drive ports) = refl
slot-forced node (Delay rise fall decay port) = refl
slot-forced node (Net root) = refl
slot-forced node (Edge edge ports) = refl
slot-forced node Named = refl
slot-forced node (AnyOf events) = refl
slot-forced node (Array words) = refl
slot-forced node (Scope scope) = refl
slot-forced node Param = refl

slots-driven : (nodes : List Node) → map driven_in (map first_slot nodes) ≡ map first_driven nodes
slots-driven [] = refl
slots-driven (node ∷ nodes) = ap (λ (d : List Interval). d ∷ map driven_in (map first_slot nodes)) (slot-driven node node.what) ∙ ap (λ (ds : List (List Interval)). first_driven node ∷ ds) (slots-driven nodes)

slots-forced : (nodes : List Node) → map forced_in (map first_slot nodes) ≡ map first_forced nodes
slots-forced [] = refl
slots-forced (node ∷ nodes) =
    ap (λ (f : List (Option Interval)). f ∷ map forced_in (map first_slot nodes)) (slot-forced node node.what) ∙ ap (λ (fs : List (List (Option Interval))). first_forced node ∷ fs) (slots-forced nodes)

-- the request that was never made
abbrev never : Request
never = record { serial = 0; kept = None }

pub store-first : (nodes : List Node) (slots : List (Option Held)) (words : List (List (List Bit))) (requests : List Request) → slots ≡ map first_slot nodes → words ≡ map (λ (node : Node). first_words node node.what) nodes → requests ≡ map (λ (node : Node). never) nodes
    → stored slots words requests ≡ first_values nodes
unfolding first_values
store-first nodes slots words requests are_slots are_words are_requests =
    ap (λ (ss : List (Option Held)). stored ss words requests) are_slots ∙ ap (λ (ws : List (List (List Bit))). stored (map first_slot nodes) ws requests) are_words
    ∙ ap (λ (rs : List Request). stored (map first_slot nodes) (map (λ (node : Node). first_words node node.what) nodes) rs) are_requests
    ∙ ap (λ (d : List (List Interval)). values d (map forced_in (map first_slot nodes))) (slots-driven nodes) ∙ ap (λ (f : List (List (Option Interval))). values (map first_driven nodes) f) (slots-forced nodes)
  where
    values : List (List Interval) → List (List (Option Interval)) → NetValues
    values d f = record { driven = d; forced = f; words = map (λ (node : Node). first_words node node.what) nodes; requests = map (λ (node : Node). never) nodes }

-- ---- the plane

widths-unknown : (widths : List ℕ) → map length (map (λ (width : ℕ). replicate width Unknown) widths) ≡ widths
widths-unknown [] = refl
widths-unknown (width ∷ widths) = ap (λ (w : ℕ). w ∷ map length (map (λ (n : ℕ). replicate n Unknown) widths)) (length-replicate width Unknown) ∙ ap (λ (ws : List ℕ). width ∷ ws) (widths-unknown widths)

pub plane-start : (places : List (List Bit)) (widths lent : List ℕ) (plane : List (List Bit)) → widths ≡ map length places → lent ≡ widths → plane ≡ map (λ (width : ℕ). replicate width Unknown) lent → map length plane ≡ map length places
plane-start places widths lent plane are same is = ap (map length) is ∙ widths-unknown lent ∙ same ∙ are

pub plane-place : (places plane : List (List Bit)) (i : ℕ) (place bits : List Bit) → map length plane ≡ map length places → slice_get places i ≡ Some place → bits ≡ place → length bits ≡ length (get_or plane i [])
plane-place places plane i place bits widths at is =
    ap length is ∙ sym (get_or_from_slice_get (map length places) i (length place) 0 (map-get length places i place at)) ∙ ap (λ (ws : List ℕ). get_or ws i 0) (sym widths) ∙ lengths plane i
  where
    lengths : (ps : List (List Bit)) (k : ℕ) → get_or (map length ps) k 0 ≡ length (get_or ps k [])
    lengths [] k = refl
    lengths (p ∷ ps) zero = refl
    lengths (p ∷ ps) (suc k) = lengths ps k

pub plane-more : (places start plane new : List (List Bit)) (i : ℕ) (place bits : List Bit) → map length start ≡ map length places → slice_get places i ≡ Some place → bits ≡ place
    → plane ≡ mixed places start i → new ≡ set plane i bits → new ≡ mixed places start (i + 1)
plane-more places start plane new i place bits widths at is before set_is =
    let many : length places ≡ length start = sym (length-map places length) ∙ sym (ap length widths) ∙ length-map start length in
    set_is ∙ ap (λ ps. set ps i bits) before ∙ ap (λ (b : List Bit). set (mixed places start i) i b) is ∙ mixed-more places start i place many at

-- the bits that an item begins with
pub place-at : (items : List Item) (i : ℕ) (item : Item) → i < length items → item ≡ get_or items i item → slice_get (map first_place (map node_of items)) i ≡ Some (first_place (node_of item))
place-at items i item inside read = map-get first_place (map node_of items) i (node_of item) (map-get node_of items i item (read-at items i item inside read))

pub place-some : (node : Node) (levels : List Interval) → first_levels node node.what ≡ Some levels → seen levels ≡ first_place node
place-some node levels is =
    ap seen (shown-quiet (unforced levels) levels (sym (none-forced levels))) ∙ sym (ap (λ (o : Option (List Interval)). place_in (option_map held_of o)) is)

pub place-none : (node : Node) → first_levels node node.what ≡ None → Unknown ∷ [] ≡ first_place node
place-none node is = sym (ap (λ (o : Option (List Interval)). place_in (option_map held_of o)) is)

-- ---- slots with the plane

pub first-some : (node : Node) (levels : List Interval) (slot : SlotNow) → first_levels node node.what ≡ Some levels → KeepsValue slot (held_of levels) → IsFirst (Some slot) node
first-some node levels slot is keeps =
    subst (λ (o : Option (List Interval)). held_in (Some slot, place_in (option_map held_of o)) ≡ option_map held_of o) (sym is) (ap (λ (h : Held). Some h) keeps)

pub first-none : (node : Node) → first_levels node node.what ≡ None → IsFirst None node
first-none node is = subst (λ (o : Option (List Interval)). held_in (None, place_in (option_map held_of o)) ≡ option_map held_of o) (sym is) refl

pub first-places : (node : Node) (levels : List Interval) → first_levels node node.what ≡ Some levels → HasPlaces (Some (held_of levels)) → HasPlaces (first_slot node)
first-places node levels is places = subst (λ (o : Option (List Interval)). HasPlaces (option_map held_of o)) (sym is) places

pub no-places : (node : Node) → first_levels node node.what ≡ None → HasPlaces (first_slot node)
no-places node is = subst (λ (o : Option (List Interval)). HasPlaces (option_map held_of o)) (sym is) tt

helds-more : (slots : List (Option SlotNow)) (plane : List (List Bit)) (slot : Option SlotNow) (bits : List Bit) → length slots ≡ length plane → helds (slots ++ slot ∷ []) (plane ++ bits ∷ []) ≡ helds slots plane ++ held_in (slot, bits) ∷ []
helds-more [] [] slot bits same = refl
helds-more [] (p ∷ plane) slot bits same = cc
helds-more (s ∷ slots) [] slot bits same = cc
helds-more (s ∷ slots) (p ∷ plane) slot bits same = ap (λ rest. held_in (s, p) ∷ rest) (helds-more slots plane slot bits (omega (arith, same)))

-- so many slots of the front of some items
pub record AreFirst (items : List Item) (slots : List (Option SlotNow)) : Type 0 where
  pub count : length slots ≡ length items
  pub values : helds slots (map first_place (map node_of items)) ≡ map first_slot (map node_of items)
  pub places : All HasPlaces (map first_slot (map node_of items))

first-more : (items : List Item) (slots : List (Option SlotNow)) (item : Item) (slot : Option SlotNow) → AreFirst items slots → IsFirst slot (node_of item) → HasPlaces (first_slot (node_of item)) → AreFirst (items ++ item ∷ []) (slots ++ slot ∷ [])
first-more items slots item slot are is places =
    let nodes : map node_of (items ++ item ∷ []) ≡ map node_of items ++ node_of item ∷ [] = map-append node_of items (item ∷ []) in
    let firsts : map first_slot (map node_of (items ++ item ∷ [])) ≡ map first_slot (map node_of items) ++ first_slot (node_of item) ∷ [] = ap (map first_slot) nodes ∙ map-append first_slot (map node_of items) (node_of item ∷ []) in
    let bits : map first_place (map node_of (items ++ item ∷ [])) ≡ map first_place (map node_of items) ++ first_place (node_of item) ∷ [] = ap (map first_place) nodes ∙ map-append first_place (map node_of items) (node_of item ∷ []) in
    let long : length slots ≡ length (map first_place (map node_of items)) = are.count ∙ sym (length-map (map node_of items) first_place ∙ length-map items node_of) in
    record {
      count = (let a = length-append slots (slot ∷ []) in let b = length-append items (item ∷ []) in let c = are.count in omega (arith, a, b, c));
      values = ap (helds (slots ++ slot ∷ [])) bits ∙ helds-more slots (map first_place (map node_of items)) slot (first_place (node_of item)) long
          ∙ ap (λ rest. rest ++ held_in (slot, first_place (node_of item)) ∷ []) are.values ∙ ap (λ (h : Option Held). map first_slot (map node_of items) ++ h ∷ []) is ∙ sym firsts;
      places = subst (All HasPlaces) (sym firsts) (All-append HasPlaces (map first_slot (map node_of items)) (first_slot (node_of item) ∷ []) are.places (All-cons HasPlaces (first_slot (node_of item)) [] places (All-nil HasPlaces)));
    }

pub slots-more : (items : List Item) (slots new : List (Option SlotNow)) (i : ℕ) (item : Item) (slot : Option SlotNow) → AreFirst (take i items) slots → i < length items → item ≡ get_or items i item → new ≡ slots ++ slot ∷ [] → IsFirst slot (node_of item)
    → HasPlaces (first_slot (node_of item)) → AreFirst (take (i + 1) items) new
slots-more items slots new i item slot are inside read pushed is places =
    subst (λ (ss : List (Option SlotNow)). AreFirst (take (i + 1) items) ss) (sym pushed)
    (subst (λ (xs : List Item). AreFirst xs (slots ++ slot ∷ [])) (sym (take_more items i item inside ∙ ap (λ (x : Item). take i items ++ x ∷ []) (sym read))) (first-more (take i items) slots item slot are is places))

-- what a store begins with
pub first-helds : (nodes : List Node) (slots : List (Option SlotNow)) (plane : List (List Bit)) → plane ≡ map first_place nodes → helds slots (map first_place nodes) ≡ map first_slot nodes → helds slots plane ≡ map first_slot nodes
first-helds nodes slots plane is values = ap (helds slots) is ∙ values

pub first-kept : (nodes : List Node) (slots : List (Option SlotNow)) (plane : List (List Bit)) → plane ≡ map first_place nodes → length slots ≡ length nodes → helds slots (map first_place nodes) ≡ map first_slot nodes → All HasPlaces (map first_slot nodes) → IsKept slots plane
first-kept nodes slots plane is many values places =
    let all = first-helds nodes slots plane is values in
    record {
      places = ap length is ∙ length-map nodes first_place ∙ sym many;
      stored = record { shown = is ∙ shown nodes ∙ ap (map place_in) (sym all); sized = subst (All HasPlaces) (sym all) places };
    }
  where
    shown : (ns : List Node) → map first_place ns ≡ map place_in (map first_slot ns)
    shown [] = refl
    shown (n ∷ ns) = ap (λ rest. first_place n ∷ rest) (shown ns)

-- the same of items that were lent
pub built-kept : (items lent : List Item) (slots : List (Option SlotNow)) (plane : List (List Bit)) → lent ≡ items → plane ≡ map first_place (map node_of lent) → length slots ≡ length lent
    → helds slots (map first_place (map node_of lent)) ≡ map first_slot (map node_of lent) → All HasPlaces (map first_slot (map node_of lent)) → IsKept slots plane × (helds slots plane ≡ map first_slot (map node_of items))
built-kept items lent slots plane same is many values places = (
  first-kept (map node_of lent) slots plane is (many ∙ sym (length-map lent node_of)) values places,
  first-helds (map node_of lent) slots plane is values ∙ ap (λ (xs : List Item). map first_slot (map node_of xs)) same,
)

-- ---- lists of events

pub listers-step : (items : List Item) (lists lent new : List (List ℕ)) (len i : ℕ) (item : Item) (kind : ItemKind) → AreListed (map node_of items) lists i → i < length items → item ≡ get_or items i item → kind ≡ item.what → len ≡ length lists → lent ≡ lists
    → IsListing lent new i (events_of kind) → AreListed (map node_of items) (take len (new ++ drop (length new) lists)) (i + 1)
listers-step items lists lent new len i item kind listed inside read is long same listing =
    let direct : IsListing lists new i (events_of item.what) = subst (λ (ls : List (List ℕ)). IsListing ls new i (events_of item.what)) same (subst (λ (k : ItemKind). IsListing lent new i (events_of k)) is listing) in
    let whole : take len (new ++ drop (length new) lists) ≡ new = refilled len lists new long direct.count in
    subst (λ (ls : List (List ℕ)). AreListed (map node_of items) ls (i + 1)) (sym whole) (listed-more (map node_of items) lists new i (node_of item) listed (map-get node_of items i item (read-at items i item inside read)) direct)
