-- An evaluation, and a net delay whose time has come, leave a state steady: what drives an item is as wide as before.
use Rattle.std.proofs.Common.{◌≡◌, ℕ, ◌+◌, ◌<◌, ◌^◌, Option, Some, None, List, [], ◌∷◌, length, map, slice_get, refl, sym, ap, subst, ◌∙◌}
use Rattle.std.specs.Prelude.{All, nat_eq}
use Rattle.std.specs.Option.{ForSome}
use Rattle.std.proofs.lemmas.List.Elements.{All-nil, All-cons}
use Rattle.strengths.specs.Interval.{Interval}
use Rattle.vvp_forms.specs.declared.form.Gate.{Gate}
use Rattle.gate_rules.specs.Evaluable.{Fits}
use Rattle.gate_rules.specs.Ports.{widths}
use Rattle.gate_rules.proofs.LengthLemmas.{length-output}
use Rattle.sym_link.specs.declared.program.Item.{Item}
use Rattle.sym_link.specs.declared.program.ItemKind.{ItemKind}
use Rattle.sym_link.specs.declared.program.ItemKind.TheVariants as kind
use Rattle.sym_link.specs.declared.program.Program.{Program}
use Rattle.sym_link.specs.declared.program.Source.{Source}
use Rattle.sym_link.specs.declared.program.Source.TheVariants as source
use Rattle.sym_link.specs.declared.widths.Wanted.{Wanted}
use Rattle.sym_link.specs.Roots.{Node, kind_of, nodes_of, root_of}
use Rattle.sym_link.specs.Sound.{AreSources, IsKind, IsProgram, IsSource, port_takes}
use Rattle.net_engine.specs.Net.{NetValues, Request, at_source, driven_of, output_of, request_of, value_of, with_request}
use Rattle.net_engine.specs.State.{State, with_values}
use Rattle.net_engine.specs.Delivery.{Times, asked, asked_anew, eval, evaluated, mature, matured, row_evaluated, same_levels}
use Rattle.net_engine.specs.Kept.{HasOutput, IsDelay}
use Rattle.net_engine.specs.Parts.{AreWide, IsWide}
use Rattle.net_engine.proofs.GateLemmas.{Least, evaluable, offered, ports-showing}
use Rattle.net_engine.proofs.LinkedLemmas.{is-true, item-at, item-sound, kind-at, node-of-kind}
use Rattle.net_engine.proofs.RootLemmas.{levels-length, rooted}
use Rattle.dump_law.specs.Steady.{IsSteady}
use Rattle.dump_law.proofs.ChangeLemmas.{anew-steady, change-steady, either-steady, none-kept, request-steady}

-- ---- how wide what an evaluation drives is

module _ (program : Program) (values : NetValues) (linked : IsProgram program) (wide : AreWide (nodes_of program) values) where
  -- an item with its node
  record Stands (item : ℕ) (what : ItemKind) (width : ℕ) : Type 0 where
    row : Item
    sound : IsKind program row what
    as_wide : row.width ≡ width
    drives : IsWide values item (record { width = width; what = what }) what

  stands-at : (item : ℕ) (node : Node) (what : ItemKind) → slice_get (nodes_of program) item ≡ Some node → node.what ≡ what → Stands item what node.width
  stands-at item node what at is =
      let found = item-at program.items item node at in
      let same : found.0.what ≡ what = ap (λ (n : Node). n.what) (sym found.2) ∙ is in
      record {
        row = found.0;
        sound = subst (IsKind program found.0) same (item-sound program item found.0 linked found.1);
        as_wide = ap (λ (n : Node). n.width) (sym found.2);
        drives = subst (λ (w : ItemKind). IsWide values item (record { width = node.width; what = w }) w) is (wide.each item node at);
      }

  source-least : (want : Wanted) (s : Source) → IsSource program.items want s → Least (offered program.items s)
  source-least want source.Unused h = tt
  source-least want (source.Fixed bits) h = h.0.0
  source-least want (source.Item number) h = (rooted program values number linked wide (is-true _ h.0)).sized.0

  sources-least : (takes : ℕ → Wanted) (port : ℕ) (sources : List Source) → AreSources program.items takes port sources → All Least (map (offered program.items) sources)
  sources-least takes port [] h = All-nil Least
  sources-least takes port (s ∷ sources) h = All-cons Least (offered program.items s) (map (offered program.items) sources) (source-least (takes port) s h.0) (sources-least takes (port + 1) sources h.1)

  -- a gate drives as many places as it has bits
  output-length : (item : ℕ) (node : Node) (gate : Gate) (drive : ℕ × ℕ) (ports : List Source) → slice_get (nodes_of program) item ≡ Some node → node.what ≡ kind.Functor gate drive ports
      → length (output_of (nodes_of program) values (record node { what = kind.Functor gate drive ports })) ≡ length (driven_of values item)
  unfolding output_of
  output-length item node gate drive ports at is =
      let s = stands-at item node (kind.Functor gate drive ports) at is in
      let levels : List (Option (List Interval)) = map (at_source (nodes_of program) values) ports in
      let shown = (ports-showing program values s.row gate drive ports linked wide s.sound).1 in
      let can = (evaluable program s.row gate drive ports s.sound (sources-least (port_takes gate s.row.width) 0 ports s.sound.each_port)).fits in
      let fits : Fits gate s.row.width (widths levels) = subst (λ (ws : List (Option ℕ)). Fits gate s.row.width ws) (sym shown) can in
      length-output gate node.width drive.0 drive.1 levels (subst (λ (w : ℕ). Fits gate w (widths levels)) s.as_wide fits) ∙ sym s.drives

  -- a net delay follows a value as wide as its own
  port-length : (item : ℕ) (node : Node) (rise fall decay port : ℕ) → slice_get (nodes_of program) item ≡ Some node → node.what ≡ kind.Delay rise fall decay port → length (value_of (nodes_of program) values port) ≡ length (driven_of values item)
  port-length item node rise fall decay port at is =
      let s = stands-at item node (kind.Delay rise fall decay port) at is in
      let root : ℕ = root_of (nodes_of program) port in
      levels-length values root (wide.forced root) ∙ (rooted program values port linked wide (is-true _ s.sound.follows)).width ∙ s.sound.same ∙ s.as_wide ∙ sym s.drives.0

-- what a net delay keeps is as wide as what it drives
kept-length : (nodes : List Node) (values : NetValues) (item : ℕ) (what : Option ItemKind) → AreWide nodes values → kind_of nodes item ≡ what → IsDelay what → ForSome (request_of values item).kept (λ kept. length kept ≡ length (driven_of values item))
kept-length nodes values item (Some (kind.Delay rise fall decay port)) wide is delay =
    let found = node-of-kind nodes item (kind.Delay rise fall decay port) is in
    let fits : IsWide values item found.0 (kind.Delay rise fall decay port) = subst (IsWide values item found.0) found.2 (wide.each item found.0 found.1) in
    λ kept k. fits.1 kept k ∙ sym fits.0
kept-length nodes values item other wide is delay = absurd delay

module _ (program : Program) (linked : IsProgram program) (now : ℕ) (few : now < 2 ^ 64) where
  -- ---- net delays

  matured-steady : (item : ℕ) (kept : Option (List Interval)) (state : State) → IsSteady (nodes_of program) now state → ForSome kept (λ levels. length levels ≡ length (driven_of state.values item)) → IsSteady (nodes_of program) now (matured (nodes_of program) item (request_of state.values item) kept state)
  matured-steady item None state h same = h
  matured-steady item (Some levels) state h same =
      let request : Request = record (request_of state.values item) { kept = None } in
      change-steady (nodes_of program) now few item levels (with_values (with_request item request state.values) state)
      (request-steady (nodes_of program) now few item request state h (none-kept (nodes_of program) now few request (length (driven_of state.values item)) refl)) (same levels refl)

  pub mature-steady : (item serial : ℕ) (state : State) → IsSteady (nodes_of program) now state → IsDelay (kind_of (nodes_of program) item) → IsSteady (nodes_of program) now (mature (nodes_of program) item serial state)
  unfolding mature
  mature-steady item serial state h delay =
      let request : Request = request_of state.values item in
      either-steady (nodes_of program) now few (nat_eq request.serial serial) (matured (nodes_of program) item request request.kept state) state
      (matured-steady item request.kept state h (kept-length (nodes_of program) state.values item (kind_of (nodes_of program) item) h.wide refl delay)) h

  asked-steady : (item : ℕ) (times : Times) (wanted : List Interval) (kept : Option (List Interval)) (state : State) → IsSteady (nodes_of program) now state → IsDelay (kind_of (nodes_of program) item) → length wanted ≡ length (driven_of state.values item)
      → IsSteady (nodes_of program) now (asked (nodes_of program) item times wanted kept state)
  asked-steady item times wanted None state h delay same = anew-steady (nodes_of program) now few item times wanted state h delay same
  asked-steady item times wanted (Some kept) state h delay same =
      either-steady (nodes_of program) now few (same_levels wanted kept) state (asked_anew (nodes_of program) item times wanted state) h (anew-steady (nodes_of program) now few item times wanted state h delay same)

  -- ---- evaluations

  evaluated-steady : (item : ℕ) (node : Node) (what : ItemKind) (state : State) → slice_get (nodes_of program) item ≡ Some node → node.what ≡ what → HasOutput (Some what) → IsSteady (nodes_of program) now state
      → IsSteady (nodes_of program) now (evaluated (nodes_of program) item (record node { what = what }) what state)
  evaluated-steady item node (kind.Delay rise fall decay port) state at is has h =
      asked-steady item (record { rise = rise; fall = fall; decay = decay }) (value_of (nodes_of program) state.values port) (request_of state.values item).kept state h
      (subst IsDelay (sym (kind-at (nodes_of program) item node at ∙ ap (λ (w : ItemKind). Some w) is)) tt) (port-length program state.values linked h.wide item node rise fall decay port at is)
  evaluated-steady item node (kind.Functor gate drive ports) state at is has h =
      change-steady (nodes_of program) now few item (output_of (nodes_of program) state.values (record node { what = kind.Functor gate drive ports })) state h
      (output-length program state.values linked h.wide item node gate drive ports at is)
  evaluated-steady item node other state at is has h = absurd (let none : ⊥ = cc in none)

  row-steady : (item : ℕ) (row : Option Node) (state : State) → slice_get (nodes_of program) item ≡ row → HasOutput (kind_of (nodes_of program) item) → IsSteady (nodes_of program) now state → IsSteady (nodes_of program) now (row_evaluated (nodes_of program) item row state)
  row-steady item None state at has h = h
  row-steady item (Some node) state at has h = evaluated-steady item node node.what state at refl (subst HasOutput (kind-at (nodes_of program) item node at) has) h

  pub eval-steady : (item : ℕ) (state : State) → IsSteady (nodes_of program) now state → HasOutput (kind_of (nodes_of program) item) → IsSteady (nodes_of program) now (eval (nodes_of program) item state)
  unfolding eval
  eval-steady item state h has = row-steady item (slice_get (nodes_of program) item) state refl has h
