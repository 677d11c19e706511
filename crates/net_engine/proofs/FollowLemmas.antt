-- What follows from a change, if there is one.
use Rattle.std.proofs.Common.{◌≡◌, ℕ, ◌+◌, ◌<◌, ◌≤◌, Bool, true, false, if◌then◌else◌, Option, Some, None, List, ◌∷◌, length, get_or, set, take, refl, sym, ap, subst, ◌∙◌}
use Rattle.std.specs.List.{fold}
use Rattle.std.proofs.lemmas.List.{take_more, take_all}
use Rattle.event_pool.specs.Schedule.{put_due}
use Rattle.event_pool.specs.Pending.{eval_of}
use Rattle.vvp_forms.specs.declared.form.EdgeKind.{EdgeKind}
use Rattle.vvp_forms.specs.declared.form.Gate.{Gate}
use Rattle.sym_link.specs.declared.program.ItemKind.{ItemKind}
use Rattle.sym_link.specs.declared.program.ItemKind.TheVariants.{Functor, Delay, Edge}
use Rattle.sym_link.specs.declared.program.Source.{Source}
use Rattle.event_pool.specs.Schedule.{Schedule}
use Rattle.four_state.specs.declared.bits.Bit.{Bit}
use Rattle.vvp_threads.specs.Keyed.{KeyedTable}
use Rattle.sym_link.specs.Roots.{Node, kind_of, fired_with}
use Rattle.strengths.specs.Interval.{Interval}
use Rattle.net_engine.specs.declared.store.Change.{Change}
use Rattle.net_engine.specs.Net.{seen}
use Rattle.net_engine.specs.Delivery.{delivered, wake, trigger, ask_eval, reached, fires}
use Rattle.net_engine.specs.Kept.{has_output}
use Rattle.net_engine.specs.Readers.{listeners_of}
use Rattle.net_engine.specs.Parts.{Reaches, MayFit, IsChange, followed}
use Rattle.net_engine.proofs.ReachLemmas.{reaches-none, reaches-more, ask-room, ask-reaches}
use Rattle.net_engine.proofs.LinkedLemmas.{node-of-kind}

pub follow-none : (nodes : List Node) (item : ℕ) (before after : List Interval) (marks : List Bool) (threads : KeyedTable) (s : Schedule) → IsChange None before after
    → Reaches (followed nodes item before after) nodes marks marks threads threads s s
follow-none nodes item before after marks threads s is =
    subst (λ (b : Bool). Reaches (λ state. if b then state else delivered nodes (seen before) (seen after) item state) nodes marks marks threads threads s s) (sym is) (reaches-none nodes marks threads s)

pub follow-some : (nodes : List Node) (item : ℕ) (change : Change) (before after : List Interval) (marks new_marks : List Bool) (threads new_threads : KeyedTable) (s new : Schedule) → IsChange (Some change) before after
    → Reaches (delivered nodes change.old change.new item) nodes marks new_marks threads new_threads s new → Reaches (followed nodes item before after) nodes marks new_marks threads new_threads s new
follow-some nodes item change before after marks new_marks threads new_threads s new is done =
    let seen_so : Reaches (delivered nodes (seen before) (seen after) item) nodes marks new_marks threads new_threads s new =
    subst (λ (n : List Bit). Reaches (delivered nodes (seen before) n item) nodes marks new_marks threads new_threads s new) is.2 (subst (λ (o : List Bit). Reaches (delivered nodes o change.new item) nodes marks new_marks threads new_threads s new) is.1 done) in
    subst (λ (b : Bool). Reaches (λ state. if b then state else delivered nodes (seen before) (seen after) item state) nodes marks new_marks threads new_threads s new) (sym is.0) seen_so

-- ---- what an input does

pub asks-room : (nodes : List Node) (marks : List Bool) (threads : KeyedTable) (s : Schedule) (item : ℕ) (kind : ItemKind) → MayFit nodes marks threads s → kind_of nodes item ≡ Some kind → has_output kind ≡ true
    → get_or marks item false ≡ false → 0 < s.spare
asks-room nodes marks threads s item kind fit is output unmarked =
    let found = node-of-kind nodes item kind is in
    ask-room item found.0 nodes marks threads s fit found.1 (ap has_output found.2 ∙ output) unmarked

asks : (nodes : List Node) (marks new_marks : List Bool) (threads : KeyedTable) (s new : Schedule) (item : ℕ) (kind : ItemKind) → kind_of nodes item ≡ Some kind → has_output kind ≡ true
    → (get_or marks item false ≡ true → (new_marks ≡ marks) × (new ≡ s))
    → (get_or marks item false ≡ false → (new_marks ≡ set marks item true) × (new ≡ put_due s (eval_of s.now item)))
    → Reaches (ask_eval item) nodes marks new_marks threads threads s new
asks nodes marks new_marks threads s new item kind is output marked unmarked =
    let found = node-of-kind nodes item kind is in
    ask-reaches item found.0 nodes marks new_marks threads s new found.1 (ap has_output found.2 ∙ output) marked unmarked

pub reached-gate : (nodes : List Node) (before after : List Bit) (marks new_marks : List Bool) (threads : KeyedTable) (s new : Schedule) (item : ℕ) (gate : Gate) (drive : ℕ × ℕ) (ports : List Source) → kind_of nodes item ≡ Some (Functor gate drive ports)
    → (get_or marks item false ≡ true → (new_marks ≡ marks) × (new ≡ s))
    → (get_or marks item false ≡ false → (new_marks ≡ set marks item true) × (new ≡ put_due s (eval_of s.now item)))
    → Reaches (reached nodes before after item (kind_of nodes item)) nodes marks new_marks threads threads s new
reached-gate nodes before after marks new_marks threads s new item gate drive ports is marked unmarked =
    subst (λ (k : Option ItemKind). Reaches (reached nodes before after item k) nodes marks new_marks threads threads s new) (sym is)
    (asks nodes marks new_marks threads s new item (Functor gate drive ports) is refl marked unmarked)

pub reached-delay : (nodes : List Node) (before after : List Bit) (marks new_marks : List Bool) (threads : KeyedTable) (s new : Schedule) (item rise fall decay port : ℕ) → kind_of nodes item ≡ Some (Delay rise fall decay port)
    → (get_or marks item false ≡ true → (new_marks ≡ marks) × (new ≡ s))
    → (get_or marks item false ≡ false → (new_marks ≡ set marks item true) × (new ≡ put_due s (eval_of s.now item)))
    → Reaches (reached nodes before after item (kind_of nodes item)) nodes marks new_marks threads threads s new
reached-delay nodes before after marks new_marks threads s new item rise fall decay port is marked unmarked =
    subst (λ (k : Option ItemKind). Reaches (reached nodes before after item k) nodes marks new_marks threads threads s new) (sym is)
    (asks nodes marks new_marks threads s new item (Delay rise fall decay port) is refl marked unmarked)

pub reached-edge : (nodes : List Node) (before after : List Bit) (marks new_marks : List Bool) (threads new_threads : KeyedTable) (s new : Schedule) (item : ℕ) (kind : EdgeKind) (ports : List Source) → kind_of nodes item ≡ Some (Edge kind ports)
    → fires kind before after ≡ true → Reaches (trigger nodes item) nodes marks new_marks threads new_threads s new
    → Reaches (reached nodes before after item (kind_of nodes item)) nodes marks new_marks threads new_threads s new
reached-edge nodes before after marks new_marks threads new_threads s new item kind ports is edge done =
    subst (λ (k : Option ItemKind). Reaches (reached nodes before after item k) nodes marks new_marks threads new_threads s new) (sym is)
    (subst (λ (b : Bool). Reaches (λ state. if b then trigger nodes item state else state) nodes marks new_marks threads new_threads s new) (sym edge) done)

-- ---- triggering

-- one event more of those that fire together
pub trigger-more : (event : ℕ) (events : List ℕ) (i : ℕ) (nodes : List Node) (marks : List Bool) (threads mid_threads new_threads : KeyedTable) (s mid new : Schedule) → i < length events
    → Reaches (λ state. fold wake state (event ∷ take i events)) nodes marks marks threads mid_threads s mid → Reaches (λ state. wake state (get_or events i 0)) nodes marks marks mid_threads new_threads mid new
    → Reaches (λ state. fold wake state (event ∷ take (i + 1) events)) nodes marks marks threads new_threads s new
trigger-more event events i nodes marks threads mid_threads new_threads s mid new inside first second =
    subst (λ (es : List ℕ). Reaches (λ state. fold wake state (event ∷ es)) nodes marks marks threads new_threads s new) (sym (take_more events i 0 inside))
    (reaches-more wake (event ∷ take i events) (get_or events i 0) nodes marks marks marks threads mid_threads new_threads s mid new first second)

pub trigger-all : (event : ℕ) (events : List ℕ) (i : ℕ) (nodes : List Node) (marks : List Bool) (threads new_threads : KeyedTable) (s new : Schedule) → length events ≤ i → events ≡ listeners_of nodes event
    → Reaches (λ state. fold wake state (event ∷ take i events)) nodes marks marks threads new_threads s new → Reaches (trigger nodes event) nodes marks marks threads new_threads s new
unfolding trigger fired_with
trigger-all event events i nodes marks threads new_threads s new enough are done =
    subst (λ (es : List ℕ). Reaches (λ state. fold wake state (event ∷ es)) nodes marks marks threads new_threads s new) (take_all i events enough ∙ are) done
