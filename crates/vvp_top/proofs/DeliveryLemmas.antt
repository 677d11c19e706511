-- What was handed over, and what is left of it after each call.
use Rattle.std.proofs.Common.{◌≡◌, ℕ, Bool, true, false, List, [], ◌++◌, Option, Some, None, inl, inr, refl, sym, ap, subst, ◌∙◌, append_assoc, append-nil}
use Rattle.std.specs.Prelude.{IsSome, option_map}
use Rattle.std.specs.Io.KnownBytes.{append_known}
use Rattle.sys_tasks.specs.Phase.{dump_name}
use Rattle.sim_core.specs.Machine.{Machine}
use Rattle.sim_core.specs.Engine.{EngineFollows, Sent, Shown, in_turn_of_machine, with_sent}
use Rattle.vvp_edge.specs.Bytes.{IsPrefix, TellsAtMost}
use Rattle.vvp_edge.specs.Files.{Files}
use Rattle.vvp_top.specs.Whole.{Dump, dump_by, dump_of}
use Rattle.vvp_top.specs.Ends.{CutFiles, LeavesFiles}
use Rattle.vvp_top.specs.Delivery.{Before, CutAt, DoneAt, DumpStands, Moment, Stands, after_dump, dump_given, dump_taken, given_by, without_out}
use Rattle.vvp_top.proofs.GrowLemmas.{Grows, prefix-then}

-- ---- bytes

pub append_known-nil : (known : Option (List ℕ)) → append_known known [] ≡ known
append_known-nil None = refl
append_known-nil (Some bytes) = ap Some (append-nil bytes)

pub append_known-append : (known : Option (List ℕ)) (a b : List ℕ) → append_known (append_known known a) b ≡ append_known known (a ++ b)
append_known-append None a b = refl
append_known-append (Some bytes) a b = ap Some (append_assoc bytes a b)

pub prefix-whole : (bytes : List ℕ) → IsPrefix bytes bytes
prefix-whole bytes = ([], sym (append-nil bytes))

pub prefix-none : (bytes : List ℕ) → IsPrefix [] bytes
prefix-none bytes = (bytes, refl)

-- a front of what comes next
pub prefix-after : (first front bytes : List ℕ) → IsPrefix front bytes → IsPrefix (first ++ front) (first ++ bytes)
prefix-after first front bytes (rest, is) = (rest, ap (λ b. first ++ b) is ∙ sym (append_assoc first front rest))

-- ---- files

pub tells-same : (files : Option Files) → TellsAtMost files files
tells-same None = tt
tells-same (Some files) = refl

tells-is : (now before : Option Files) → now ≡ before → TellsAtMost now before
tells-is now before is = subst (λ (f : Option Files). TellsAtMost now f) is (tells-same now)

-- where the dump stands, it is cut short after these bytes
pub stands-cut : (made : Bool) (name : Option (List ℕ)) (front rest : List ℕ) (before now : Option Files) (target : Option (List ℕ))
    → DumpStands made name front before now target → CutFiles (dump_by name (front ++ rest)) before now
stands-cut false name front rest before now target stands = inl (tells-is now before stands.0)
stands-cut true None front rest before now target stands = absurd stands
stands-cut true (Some name) front rest before now target stands = inr (front, (rest, refl), stands.holds)

left-none : (before now : Option Files) → now ≡ before → TellsAtMost now (option_map (λ (files : Files). files) before)
left-none None now is = tells-is now None is
left-none (Some files) now is = tells-is now (Some files) is

-- where the dump stands with all its bytes, the files are left so
pub stands-left : (made : Bool) (name : Option (List ℕ)) (front bytes : List ℕ) (before now : Option Files) (target : Option (List ℕ))
    → (IsSome name → made ≡ true) → DumpStands made name (front ++ given_by name bytes) before now target → LeavesFiles (dump_by name (front ++ bytes)) before now
stands-left false None front bytes before now target named stands = left-none before now stands.0
stands-left true None front bytes before now target named stands = absurd stands
stands-left false (Some name) front bytes before now target named stands = let none : ⊥ = let is : false ≡ true = named refl in cc in absurd none
stands-left true (Some name) front bytes before now target named stands = stands.holds

-- a name that comes to a dump, or stays with it
pub stands-named : (made : Bool) (old new : Option (List ℕ)) (front : List ℕ) (before now : Option Files) (target : Option (List ℕ))
    → ((name : List ℕ) → old ≡ Some name → new ≡ Some name) → DumpStands made old front before now target → DumpStands made new front before now target
stands-named false old new front before now target stays stands = stands
stands-named true None new front before now target stays stands = absurd stands
stands-named true (Some name) new front before now target stays stands =
    subst (λ (n : Option (List ℕ)). DumpStands true n front before now target) (sym (stays name refl)) stands

-- what begins a dump begins one that goes on
pub cut-more : (old new : Option (List ℕ)) (bytes more : List ℕ) (before now : Option Files) → ((name : List ℕ) → old ≡ Some name → new ≡ Some name) → IsPrefix bytes more
    → CutFiles (dump_by old bytes) before now → CutFiles (dump_by new more) before now
cut-more old new bytes more before now stays longer (inl same) = inl same
cut-more None new bytes more before now stays longer (inr cut) = absurd cut
cut-more (Some name) new bytes more before now stays longer (inr (front, is, told)) =
    subst (λ (n : Option (List ℕ)). CutFiles (dump_by n more) before now) (sym (stays name refl)) (inr (front, prefix-then front bytes more is longer, told))

-- ---- machines

pub out-is : (machine : Machine) (sent : Sent) (shown : Shown) → in_turn_of_machine machine ≡ with_sent sent shown.machine → machine.tasks.out ≡ sent.out ++ shown.machine.tasks.out
out-is machine sent shown is = ap (λ (m : Machine). m.tasks.out) is

pub dump-is : (machine : Machine) (sent : Sent) (shown : Shown) → in_turn_of_machine machine ≡ with_sent sent shown.machine
    → dump_of machine ≡ dump_by (dump_name shown.machine.tasks.state) (sent.dump ++ shown.machine.tasks.dump)
dump-is machine sent shown is = ap dump_of is

-- what was handed over begins all, with a piece more of the output
pub cut-with : (machine : Machine) (before : Before) (old new : Moment) (piece : List ℕ) → Stands machine before old → IsPrefix piece old.shown.machine.tasks.out
    → new.held ≡ append_known old.held piece → new.files ≡ old.files → CutAt machine before new
cut-with machine before old new piece stands part held files = record {
  output = (
    stands.sent.out ++ piece,
    subst (λ (out : List ℕ). IsPrefix (stands.sent.out ++ piece) out) (sym (out-is machine stands.sent old.shown stands.shows)) (prefix-after stands.sent.out piece old.shown.machine.tasks.out part),
    held ∙ ap (λ (k : Option (List ℕ)). append_known k piece) stands.given ∙ append_known-append before.held stands.sent.out piece,
  );
  dump = subst (λ (f : Option Files). CutFiles (dump_of machine) before.files f) (sym files)
      (subst (λ (d : Option Dump). CutFiles d before.files old.files) (sym (dump-is machine stands.sent old.shown stands.shows))
      (stands-cut old.made (dump_name old.shown.machine.tasks.state) stands.sent.dump old.shown.machine.tasks.dump before.files old.files old.target stands.dump));
}

-- nothing more was handed over
pub cut-still : (machine : Machine) (before : Before) (old new : Moment) → Stands machine before old → new.held ≡ old.held → new.files ≡ old.files → CutAt machine before new
cut-still machine before old new stands held files = cut-with machine before old new [] stands (prefix-none old.shown.machine.tasks.out) (held ∙ sym (append_known-nil old.held)) files

-- what begins all that a machine has put out begins all that one puts out which goes on from it
pub cut-grows : (old new : Machine) (before : Before) (m : Moment) → Grows old.tasks new.tasks → CutAt old before m → CutAt new before m
cut-grows old new before m grows cut = record {
  output = let o = cut.output in (o.0, prefix-then o.0 old.tasks.out new.tasks.out o.1 grows.out, o.2);
  dump = cut-more (dump_name old.tasks.state) (dump_name new.tasks.state) old.tasks.dump new.tasks.dump before.files m.files grows.named grows.dump cut.dump;
}

-- ---- the output is handed over

pub shows-out : (sent : Sent) (shown : Shown) → with_sent sent shown.machine ≡ with_sent (record { out = sent.out ++ shown.machine.tasks.out; dump = sent.dump }) (without_out shown).machine
shows-out sent shown =
    ap (λ (out : List ℕ). record shown.machine { tasks = record shown.machine.tasks { out = out; dump = sent.dump ++ shown.machine.tasks.dump } }) (sym (append-nil (sent.out ++ shown.machine.tasks.out)))

pub stands-out : (machine : Machine) (before : Before) (old new : Moment) → Stands machine before old → new.shown ≡ without_out old.shown → new.held ≡ append_known old.held old.shown.machine.tasks.out
    → new.made ≡ old.made → new.files ≡ old.files → new.target ≡ old.target → Stands machine before new
stands-out machine before old new stands shown held made files target = record {
  sent = record { out = stands.sent.out ++ old.shown.machine.tasks.out; dump = stands.sent.dump };
  shows = stands.shows ∙ shows-out stands.sent old.shown ∙ ap (λ (s : Shown). with_sent (record { out = stands.sent.out ++ old.shown.machine.tasks.out; dump = stands.sent.dump }) s.machine) (sym shown);
  given = held ∙ ap (λ (k : Option (List ℕ)). append_known k old.shown.machine.tasks.out) stands.given ∙ append_known-append before.held stands.sent.out old.shown.machine.tasks.out;
  dump = subst (λ (s : Shown). DumpStands new.made (dump_name s.machine.tasks.state) stands.sent.dump before.files new.files new.target) (sym shown)
      (subst (λ (b : Bool). DumpStands b (dump_name old.shown.machine.tasks.state) stands.sent.dump before.files new.files new.target) (sym made)
      (subst (λ (f : Option Files). DumpStands old.made (dump_name old.shown.machine.tasks.state) stands.sent.dump before.files f new.target) (sym files)
      (subst (λ (t : Option (List ℕ)). DumpStands old.made (dump_name old.shown.machine.tasks.state) stands.sent.dump before.files old.files t) (sym target) stands.dump)));
}

-- ---- the dump is handed over

with_dump : Sent → Shown → List ℕ → Machine
with_dump sent shown bytes = record shown.machine { tasks = record shown.machine.tasks { out = sent.out ++ shown.machine.tasks.out; dump = bytes } }

shows-dump : (name : Option (List ℕ)) (sent : Sent) (shown : Shown)
    → with_sent sent shown.machine ≡ with_sent (record { out = sent.out; dump = sent.dump ++ given_by name shown.machine.tasks.dump }) (dump_taken name shown).machine
unfolding with_dump
shows-dump None sent shown = ap (λ (bytes : List ℕ). with_dump sent shown (bytes ++ shown.machine.tasks.dump)) (sym (append-nil sent.dump))
shows-dump (Some name) sent shown = ap (with_dump sent shown) (sym (append-nil (sent.dump ++ shown.machine.tasks.dump)))

name-stays : (name : Option (List ℕ)) (shown : Shown) → dump_name (dump_taken name shown).machine.tasks.state ≡ dump_name shown.machine.tasks.state
name-stays None shown = refl
name-stays (Some name) shown = refl

pub stands-dump : (machine : Machine) (before : Before) (old new : Moment) → (stands : Stands machine before old) → new.shown ≡ after_dump old.shown → new.held ≡ old.held
    → DumpStands new.made (dump_name old.shown.machine.tasks.state) (stands.sent.dump ++ dump_given old.shown) before.files new.files new.target → Stands machine before new
stands-dump machine before old new stands shown held dump = record {
  sent = record { out = stands.sent.out; dump = stands.sent.dump ++ dump_given old.shown };
  shows = stands.shows ∙ shows-dump (dump_name old.shown.machine.tasks.state) stands.sent old.shown
      ∙ ap (λ (s : Shown). with_sent (record { out = stands.sent.out; dump = stands.sent.dump ++ dump_given old.shown }) s.machine) (sym shown);
  given = held ∙ stands.given;
  dump = subst (λ (n : Option (List ℕ)). DumpStands new.made n (stands.sent.dump ++ dump_given old.shown) before.files new.files new.target)
      (sym (ap (λ (s : Shown). dump_name s.machine.tasks.state) shown ∙ name-stays (dump_name old.shown.machine.tasks.state) old.shown)) dump;
}

-- all was handed over
pub done-by : (machine : Machine) (before : Before) (mid new : Moment) → (stands : Stands machine before mid) → mid.shown.machine.tasks.out ≡ [] → new.held ≡ mid.held
    → (IsSome (dump_name mid.shown.machine.tasks.state) → new.made ≡ true)
    → DumpStands new.made (dump_name mid.shown.machine.tasks.state) (stands.sent.dump ++ dump_given mid.shown) before.files new.files new.target → DoneAt machine before new
done-by machine before mid new stands empty held named dump = record {
  output = held ∙ stands.given ∙ ap (append_known before.held) (sym (append-nil stands.sent.out) ∙ ap (λ (rest : List ℕ). stands.sent.out ++ rest) (sym empty) ∙ sym (out-is machine stands.sent mid.shown stands.shows));
  dump = subst (λ (d : Option Dump). LeavesFiles d before.files new.files) (sym (dump-is machine stands.sent mid.shown stands.shows))
      (stands-left new.made (dump_name mid.shown.machine.tasks.state) stands.sent.dump mid.shown.machine.tasks.dump before.files new.files new.target named dump);
}

-- ---- a step

pub stands-step : (f : Machine → Machine) (machine : Machine) (before : Before) (old new : Moment) → Grows machine.tasks (f machine).tasks → EngineFollows f old.shown new.shown
    → Stands machine before old → new.held ≡ old.held → new.made ≡ old.made → new.files ≡ old.files → new.target ≡ old.target → Stands (f machine) before new
stands-step f machine before old new grows follows stands held made files target =
    let shows : in_turn_of_machine (f machine) ≡ with_sent stands.sent new.shown.machine = (follows.machine stands.sent).shown machine stands.shows in record {
      sent = stands.sent;
      shows = shows;
      given = held ∙ stands.given;
      dump =
          subst (λ (b : Bool). DumpStands b (dump_name new.shown.machine.tasks.state) stands.sent.dump before.files new.files new.target) (sym made)
          (subst (λ (f : Option Files). DumpStands old.made (dump_name new.shown.machine.tasks.state) stands.sent.dump before.files f new.target) (sym files)
          (subst (λ (t : Option (List ℕ)). DumpStands old.made (dump_name new.shown.machine.tasks.state) stands.sent.dump before.files old.files t) (sym target)
          (stands-named old.made (dump_name old.shown.machine.tasks.state) (dump_name new.shown.machine.tasks.state) stands.sent.dump before.files old.files old.target
          (λ name is. sym (ap (λ (m : Machine). dump_name m.tasks.state) shows) ∙ grows.named name (ap (λ (m : Machine). dump_name m.tasks.state) stands.shows ∙ is)) stands.dump)));
    }
