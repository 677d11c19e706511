-- What a phase writes after its header leaves the dump one of ours.
use Rattle.std.proofs.Common.{◌≡◌, ℕ, ◌<◌, ◌^◌, Bool, true, false, cond, List, [], ◌∷◌, ◌++◌, length, map, refl, sym, subst, append_assoc, append-nil, arith}
use Rattle.std.specs.Prelude.{ℤ}
use Rattle.std.specs.List.{fold}
use Rattle.four_state.specs.declared.bits.Bit.{Bit}
use Rattle.vcd_write.specs.declared.types.DumpItem.{DumpItem}
use Rattle.vcd_write.specs.declared.types.DumpScope.{DumpScope}
use Rattle.vcd_write.specs.declared.types.Section.{Section}
use Rattle.vcd_write.specs.declared.types.Section.TheVariants as section
use Rattle.vcd_write.specs.Header.{header_text, size}
use Rattle.vcd_write.specs.Section.{changes_text, section_text, time_text, written_by}
use Rattle.vcd_law.specs.Own.{IsDumpTo, IsHead}
use Rattle.vcd_law.proofs.GrowLemmas.{changes-grown, section-grown, time-grown}
use Rattle.sys_tasks.specs.Phase.{Writing, opened, requested, timed, with_changes, written, written_section}

module _ (power : ℤ) (scopes : List DumpScope) (items : List DumpItem) (now : ℕ) where
  -- a header alone
  pub headed : IsHead power scopes items → IsDumpTo power scopes items now (header_text power scopes items)
  headed head = record { parts = []; head = head; follow = tt; onward = omega arith; spelled = sym (append-nil (header_text power scopes items)) }

  module _ (values : List (List Bit)) (wide : map length values ≡ map size items) (front : List ℕ) where
    -- the dump with what is written so far is one of ours, and the values that were written last are as wide as the items
    record Goes (w : Writing) : Type 0 where
      text : IsDumpTo power scopes items now (front ++ w.body)
      last : map length w.last ≡ map size items

    goes-either : (choice : Bool) (a b : Writing) → Goes a → Goes b → Goes (cond choice a b)
    goes-either true a b first second = first
    goes-either false a b first second = second

    text-more : (body more : List ℕ) → IsDumpTo power scopes items now ((front ++ body) ++ more) → IsDumpTo power scopes items now (front ++ (body ++ more))
    text-more body more h = subst (IsDumpTo power scopes items now) (append_assoc front body more) h

    section-text : (kind : Section) (body : List ℕ) → IsDumpTo power scopes items now (front ++ body) → IsDumpTo power scopes items now (front ++ (body ++ section_text kind values))
    section-text kind body h = text-more body (section_text kind values) (section-grown power scopes items now (front ++ body) kind values wide h)

    section-last : (kind : Section) (last : List (List Bit)) → map length last ≡ map size items → map length (written_by kind last values) ≡ map size items
    section-last section.Vars last h = wide
    section-last section.Off last h = h
    section-last section.On last h = wide
    section-last section.All last h = wide

    section-goes : (kind : Section) (on : Bool) (w : Writing) → Goes w → Goes (written_section kind on values w)
    section-goes kind on w h = record { text = section-text kind w.body h.text; last = section-last kind w.last h.last }

    requested-goes : (kind : Section) (w : Writing) → Goes w → Goes (requested values w kind)
    requested-goes section.Vars w h = h
    requested-goes section.Off w h = goes-either w.on (written_section section.Off false values w) w (section-goes section.Off false w h) h
    requested-goes section.On w h = goes-either w.on w (written_section section.On true values w) h (section-goes section.On true w h)
    requested-goes section.All w h = goes-either w.on (written_section section.All true values w) w (section-goes section.All true w h) h

    requests-go : (kinds : List Section) (w : Writing) → Goes w → Goes (fold (requested values) w kinds)
    requests-go [] w h = h
    requests-go (kind ∷ kinds) w h = requests-go kinds (requested values w kind) (requested-goes kind w h)

    -- what has changed
    abbrev changed : Writing → Writing
    changed w = record w { body = w.body ++ changes_text w.last values; last = values }

    changed-goes : (w : Writing) → Goes w → Goes (changed w)
    changed-goes w h = record {
      text = text-more w.body (changes_text w.last values) (changes-grown power scopes items now (front ++ w.body) w.last values h.last wide h.text);
      last = wide;
    }

    changes-go : (w : Writing) → Goes w → Goes (with_changes values w)
    changes-go w h = goes-either w.on (changed w) w (changed-goes w h) h

    -- the first section stands where the header was due; else values were written before
    opened-goes : (header : Bool) (w : Writing) → IsDumpTo power scopes items now (front ++ w.body) → (header ≡ false → map length w.last ≡ map size items) → Goes (opened header values w)
    opened-goes true w h last = record { text = section-text section.Vars w.body h; last = wide }
    opened-goes false w h last = record { text = h; last = last refl }

    written-goes : (header : Bool) (kinds : List Section) (w : Writing) → IsDumpTo power scopes items now (front ++ w.body) → (header ≡ false → map length w.last ≡ map size items) → Goes (written header values kinds w)
    written-goes header kinds w h last = changes-go (fold (requested values) (opened header values w) kinds) (requests-go kinds (opened header values w) (opened-goes header w h last))

  -- the dump and the values that were written last
  pub record Follows (text : List ℕ) (last : List (List Bit)) : Type 0 where
    pub follows : IsDumpTo power scopes items now text
    pub wide : map length last ≡ map size items

  timed-text : (front body : List ℕ) → IsDumpTo power scopes items now front → IsDumpTo power scopes items now ((front ++ time_text now) ++ body) → IsDumpTo power scopes items now (front ++ timed now body)
  timed-text front [] before after = subst (IsDumpTo power scopes items now) (sym (append-nil front)) before
  timed-text front (byte ∷ body) before after = subst (IsDumpTo power scopes items now) (append_assoc front (time_text now) (byte ∷ body)) after

  -- what a phase writes
  pub phase-follows : (values : List (List Bit)) (front : List ℕ) (header : Bool) (kinds : List Section) (on : Bool) (last : List (List Bit)) → now < 2 ^ 64 → map length values ≡ map size items → IsDumpTo power scopes items now front
      → (header ≡ false → map length last ≡ map size items) → (let w = written header values kinds (record { body = []; on = on; last = last }) in Follows (front ++ timed now w.body) w.last)
  phase-follows values front header kinds on last few wide before lasts =
      let begun : Writing = record { body = []; on = on; last = last } in
      let text : List ℕ = front ++ time_text now in
      let timed_ : IsDumpTo power scopes items now (text ++ []) = subst (IsDumpTo power scopes items now) (sym (append-nil text)) (time-grown power scopes items now now front (omega arith) few before) in
      let goes = written-goes values wide text header kinds begun timed_ lasts in
      record { follows = timed-text front (written header values kinds begun).body before goes.text; wide = goes.last }
