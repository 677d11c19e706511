-- Whatever changes a value, a state stays steady.
use Rattle.std.proofs.Common.{◌≡◌, ℕ, ◌<◌, ◌^◌, ℤ, Bool, true, false, cond, Option, Some, None, List, [], length, map, get_or, refl, sym, ap, subst, ◌∙◌, arith}
use Rattle.std.specs.Prelude.{nat_lt}
use Rattle.std.specs.Option.{ForSome}
use Rattle.std.proofs.lemmas.List.{length-map}
use Rattle.std.proofs.lemmas.Option.{none-some, same_Some}
use Rattle.four_state.specs.declared.bits.Bit.{Bit}
use Rattle.four_state.specs.Vector.{overlaid}
use Rattle.strengths.specs.Interval.{Interval}
use Rattle.event_pool.specs.declared.agenda.Due.{Due}
use Rattle.event_pool.specs.declared.agenda.Act.TheVariants.{Mature}
use Rattle.event_pool.specs.declared.agenda.Region.TheVariants.{Active}
use Rattle.sym_link.specs.declared.program.ItemKind.{ItemKind}
use Rattle.sym_link.specs.declared.program.ItemKind.TheVariants.{Array}
use Rattle.sym_link.specs.Roots.{Node, kind_of, root_of}
use Rattle.net_engine.specs.Net.{NetValues, Request, array_of, driven_of, forced_of, levels_of, request_of, seen, strongly, with_parts, with_request, with_word}
use Rattle.net_engine.specs.State.{State, with_values}
use Rattle.net_engine.specs.Delivery.{asked_anew, assigned, become, change, delivered, driven_after, follows_after, force, later, next_request, postponed, release, same_levels, time_between, Times, write}
use Rattle.net_engine.specs.Kept.{IsDelay}
use Rattle.net_engine.specs.Parts.{AreWide}
use Rattle.net_engine.proofs.WideLemmas.{overlaid-length, wide-parts, wide-request, wide-word}
use Rattle.net_engine.proofs.SoundLemmas.{forced-length, released-driven, released-length}
use Rattle.dump_law.specs.Steady.{ArePending, IsOnTime, IsSteady}
use Rattle.dump_law.proofs.DeliverLemmas.{Moves, delivered-moves, put-pending}

-- other values that are as wide
pub with-values : (nodes : List Node) (now : ℕ) (values : NetValues) (state : State) → AreWide nodes values → IsSteady nodes now state → IsSteady nodes now (with_values values state)
with-values nodes now values state wide h = record { pending = h.pending; wide = wide }

module _ (nodes : List Node) (now : ℕ) (few : now < 2 ^ 64) where
  -- what moves to values that are as wide
  pub moved : (values : NetValues) (old new : State) → Moves nodes now few values old new → AreWide nodes values → ArePending nodes now old.pending → IsSteady nodes now new
  moved values old new m wide h = record { pending = m.pending h; wide = subst (AreWide nodes) (sym m.values_are) wide }

  pub either-steady : (choice : Bool) (a b : State) → IsSteady nodes now a → IsSteady nodes now b → IsSteady nodes now (cond choice a b)
  either-steady true a b first second = first
  either-steady false a b first second = second

  pub become-steady : (item : ℕ) (driven : List Interval) (forced : List (Option Interval)) (state : State) → IsSteady nodes now state → length driven ≡ length (driven_of state.values item) → length forced ≡ length driven
      → IsSteady nodes now (become nodes item driven forced state)
  unfolding become
  become-steady item driven forced state h same places =
      let set : State = with_values (with_parts item driven forced state.values) state in
      let old : List Interval = levels_of state.values item in
      let new : List Interval = levels_of set.values item in
      let set_steady : IsSteady nodes now set = with-values nodes now (with_parts item driven forced state.values) state (wide-parts nodes state.values item driven forced h.wide same places) h in
      either-steady (same_levels old new) set (delivered nodes (seen old) (seen new) item set) set_steady
      (moved set.values set (delivered nodes (seen old) (seen new) item set) (delivered-moves nodes now few (seen old) (seen new) item set) set_steady.wide set_steady.pending)

  pub change-steady : (item : ℕ) (driven : List Interval) (state : State) → IsSteady nodes now state → length driven ≡ length (driven_of state.values item) → IsSteady nodes now (change nodes item driven state)
  change-steady item driven state h same = become-steady item driven (forced_of state.values item) state h same (h.wide.forced item ∙ sym same)

  -- ---- assignments

  variable-steady : (item : ℕ) (offset : ℤ) (value : List Bit) (state : State) → IsSteady nodes now state → IsSteady nodes now (change nodes item (strongly (overlaid (seen (driven_of state.values item)) offset value)) state)
  variable-steady item offset value state h =
      change-steady item (strongly (overlaid (seen (driven_of state.values item)) offset value)) state h
      (length-map (overlaid (seen (driven_of state.values item)) offset value) _ ∙ overlaid-length (seen (driven_of state.values item)) offset value ∙ length-map (driven_of state.values item) _)

  assigned-steady : (item word : ℕ) (offset : ℤ) (value : List Bit) (kind : Option ItemKind) (state : State) → IsSteady nodes now state → IsSteady nodes now (assigned nodes item word offset value kind state)
  assigned-steady item word offset value (Some (Array words)) state h =
      with-values nodes now (with_word item word (overlaid (get_or (array_of state.values item) word []) offset value) state.values) state (wide-word nodes state.values item word offset value h.wide) h
  assigned-steady item word offset value other state h = variable-steady item offset value state h

  pub write-steady : (item word : ℕ) (offset : ℤ) (value : List Bit) (state : State) → IsSteady nodes now state → IsSteady nodes now (write nodes item word offset value state)
  unfolding write
  write-steady item word offset value state h = assigned-steady item word offset value (kind_of nodes item) state h

  -- ---- forcing

  pub force-steady : (item : ℕ) (value : List Bit) (state : State) → IsSteady nodes now state → length value ≡ length (driven_of state.values (root_of nodes item)) → IsSteady nodes now (force nodes item value state)
  unfolding force
  force-steady item value state h same =
      let levels : List Interval = driven_of state.values (root_of nodes item) in
      become-steady (root_of nodes item) levels (map Some (strongly value)) state h refl (forced-length value levels same)

  pub release-steady : (item base width : ℕ) (keep : Bool) (state : State) → IsSteady nodes now state → IsSteady nodes now (release nodes item base width keep state)
  unfolding release
  release-steady item base width keep state h =
      let root : ℕ = root_of nodes item in
      let same : length (driven_after base width keep state.values root) ≡ length (driven_of state.values root) = released-driven base width keep state.values root (h.wide.forced root) in
      become-steady root (driven_after base width keep state.values root) _ state h same (released-length base width (forced_of state.values root) (driven_of state.values root) (h.wide.forced root) ∙ sym same)

  -- ---- net delays

  pub request-steady : (item : ℕ) (request : Request) (state : State) → IsSteady nodes now state → ForSome request.kept (λ kept. length kept ≡ length (driven_of state.values item)) → IsSteady nodes now (with_values (with_request item request state.values) state)
  request-steady item request state h kept = with-values nodes now (with_request item request state.values) state (wide-request nodes state.values item request h.wide kept) h

  -- nothing is kept
  pub none-kept : (request : Request) (width : ℕ) → request.kept ≡ None → ForSome request.kept (λ kept. length kept ≡ width)
  none-kept request width none = λ kept is. absurd (none-some kept (sym none ∙ is))

  -- these levels are
  some-kept : (levels : List Interval) (width : ℕ) → length levels ≡ width → ForSome (Some levels) (λ kept. length kept ≡ width)
  some-kept levels width same = λ kept is. ap length (sym (same_Some levels kept is)) ∙ same

  later-on-time : (time ticks item serial : ℕ) → time ≡ now → IsDelay (kind_of nodes item) → IsOnTime nodes now (record { time = later time ticks; region = Active; act = Mature item serial })
  later-on-time time ticks item serial is delay = record { onward = omega (arith, is, few); in_time = omega (arith, is, few); names = delay }

  postponed-steady : (item ticks : ℕ) (wanted : List Interval) (request : Request) (state : State) → IsSteady nodes now state → IsDelay (kind_of nodes item) → length wanted ≡ length (driven_of state.values item) → IsSteady nodes now (postponed item ticks wanted request state)
  postponed-steady item ticks wanted request state h delay same =
      let kept : Request = record request { kept = Some wanted } in
      let set : State = with_values (with_request item kept state.values) state in
      let due : Due = record { time = later state.pending.now ticks; region = Active; act = Mature item request.serial } in
      let steady : IsSteady nodes now set = request-steady item kept state h (some-kept wanted (length (driven_of state.values item)) same) in
      record { pending = put-pending nodes now few due set (later-on-time state.pending.now ticks item request.serial h.pending.at delay) steady.pending; wide = steady.wide }

  follows-steady : (item ticks : ℕ) (wanted : List Interval) (request : Request) (state : State) → IsSteady nodes now state → IsDelay (kind_of nodes item) → length wanted ≡ length (driven_of state.values item) → request.kept ≡ None
      → IsSteady nodes now (follows_after nodes item ticks wanted request state)
  follows-steady item ticks wanted request state h delay same none =
      let set : State = with_values (with_request item request state.values) state in
      either-steady (nat_lt 0 ticks) (postponed item ticks wanted request state) (change nodes item wanted set) (postponed-steady item ticks wanted request state h delay same)
      (change-steady item wanted set (request-steady item request state h (none-kept request (length (driven_of state.values item)) none)) same)

  pub anew-steady : (item : ℕ) (times : Times) (wanted : List Interval) (state : State) → IsSteady nodes now state → IsDelay (kind_of nodes item) → length wanted ≡ length (driven_of state.values item) → IsSteady nodes now (asked_anew nodes item times wanted state)
  anew-steady item times wanted state h delay same =
      let request : Request = next_request (request_of state.values item) in
      let levels : List Interval = driven_of state.values item in
      either-steady (same_levels wanted levels) (with_values (with_request item request state.values) state) (follows_after nodes item (time_between times levels wanted) wanted request state)
      (request-steady item request state h (none-kept request (length levels) refl)) (follows-steady item (time_between times levels wanted) wanted request state h delay same refl)
