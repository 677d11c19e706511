-- What a key says, in the words of contracts.
use Rattle.std.proofs.Common.{◌≡◌, ℕ, Option, Some, None, option_map, IfSome, IfNone, List, sym, ap, ◌∙◌}
use Rattle.std.specs.Prelude.{option_copied}
use Rattle.std.specs.Borrow.{Bor}
use Rattle.slab.specs.Slab.{Slab, get}
use Rattle.vvp_threads.specs.declared.places.Place.{Place}
use Rattle.vvp_threads.specs.declared.thread.Thread.{Thread}
use Rattle.vvp_threads.specs.Table.{slot_at}
use Rattle.vvp_threads.specs.Keyed.{IsKeyOf, IsNoKey}
use Rattle.vvp_threads.specs.Kept.{threads_of, kept_as, IsPlaced}
use Rattle.vvp_threads.proofs.SlotLemmas.{no_some}
use Rattle.vvp_threads.proofs.KeptLemmas.{under_key, under_thread, one_serial, slot_at-keys}

module _ (slots : List (Option Place)) (slab : Slab Thread) (queues : List (List ℕ)) (p : IsPlaced slots slab) (key : ℕ) where
  -- the key of a thread in the slab is the key of its serial
  pub key_kept : (thread : Thread) → get slab key ≡ Some thread → IsKeyOf (kept_as slots slab queues) thread.serial key
  key_kept thread e =
      let u = under_thread slots slab p key thread e in
      slot_at-keys slots thread.serial ∙ ap (option_map (λ place. place.key)) u.at ∙ ap Some u.key_is

  pub no_key_kept : get slab key ≡ None → IsNoKey (kept_as slots slab queues) key
  no_key_kept e serial k = let u = under_key slots slab p serial key k in no_some u.thread (sym e ∙ u.kept)

  pub thread_kept : (serial : ℕ) → IsKeyOf (kept_as slots slab queues) serial key → get slab key ≡ slot_at (threads_of slots slab) serial
  thread_kept serial k = let u = under_key slots slab p serial key k in u.kept ∙ sym u.seen

  pub if_key : (r : Option (Bor Thread)) → option_copied r ≡ get slab key → IfSome r (λ thread. IsKeyOf (kept_as slots slab queues) thread.now.serial key)
  if_key None e = tt
  if_key (Some t) e = key_kept t.now (sym e)

  pub if_no_key : (r : Option (Bor Thread)) → option_copied r ≡ get slab key → IfNone r (IsNoKey (kept_as slots slab queues) key)
  if_no_key None e = no_key_kept (sym e)
  if_no_key (Some t) e = tt

  if_serial_kept : (thread : Thread) → get slab key ≡ Some thread → (serial : ℕ) → IsKeyOf (kept_as slots slab queues) serial key → thread.serial ≡ serial
  if_serial_kept thread e serial k = one_serial slots slab p thread.serial serial key (under_thread slots slab p key thread e) (under_key slots slab p serial key k)

  pub if_serial : (r : Option (Bor Thread)) → option_copied r ≡ get slab key → IfSome r (λ thread. (serial : ℕ) → IsKeyOf (kept_as slots slab queues) serial key → thread.now.serial ≡ serial)
  if_serial None e = tt
  if_serial (Some t) e = if_serial_kept t.now (sym e)
