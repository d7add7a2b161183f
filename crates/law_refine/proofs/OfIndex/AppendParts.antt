-- What an append is about in the index, and how a reply moves it: it publishes in the slot that its try has found, an entry of the address
-- that it has reserved.
use Rattle.std.proofs.Common.{◌≡◌, ℕ, refl, sym, ap, subst, Bool, true, false}
use Rattle.std.specs.Prelude.{if◌then◌else◌, ◌&&◌, nat_lt, ◌^◌, ⊤}
use Rattle.fkv_base.specs.declared.numbers.Addr.{Addr}
use Rattle.fkv_plane.specs.declared.asks.Ask.{Ask}
use Rattle.fkv_plane.specs.declared.asks.Ask.TheVariants.{Done}
use Rattle.fkv_plane.specs.declared.places.Places.{Places}
use Rattle.law_world.specs.Below.fkv_log.ReserveAnswer.{ReserveAnswer}
use Rattle.law_world.specs.Below.fkv_log.ReserveAnswer.TheVariants as reserve
use Rattle.law_world.specs.Below.fkv_log.Reserving.{reserve_next, reserve_next_ask}
use Rattle.law_world.specs.Below.fkv_log.Filling.{fill_begun, fill_ask, fill_next}
use Rattle.law_world.specs.Below.fkv_log.Invalidating.{invalidate_ask, invalidate_next}
use Rattle.fkv_index.specs.declared.publishing.PublishAnswer.{PublishAnswer}
use Rattle.fkv_index.specs.declared.publishing.PublishAnswer.TheVariants as publish
use Rattle.fkv_index.specs.declared.publishing.Publishing.{Publishing}
use Rattle.fkv_index.specs.Publishing.{publish_first, publish_next, publish_next_ask, published_where}
use Rattle.fkv_index.specs.IndexWorld.{may_publish, new_entry}
use Rattle.fkv_index.specs.Slots.{entry_addr}
use Rattle.law_world.specs.Below.fkv_ops.TheAppending.{Appending}
use Rattle.law_world.specs.Below.fkv_ops.TheAppending.TheVariants as appending
use Rattle.law_world.specs.Below.fkv_ops.AppendAnswer.{AppendAnswer}
use Rattle.law_world.specs.Below.fkv_ops.AppendAnswer.TheVariants as append
use Rattle.law_world.specs.Below.fkv_ops.FoundSlot.{FoundSlot}
use Rattle.law_world.specs.Below.fkv_ops.Appending.{AppendState, append_ended, addr_reserved, reserve_ledto, fill_ledto, publish_ledto, invalidate_ledto, appending_next, append_next}
use Rattle.law_world.specs.Below.fkv_ops.Requests.{is_read}
use Rattle.law_world.specs.Below.fkv_ops.Trying.{TryState, slot_of}
use Rattle.law_world.proofs.Below.fkv_ops.Shown.{is_append_end}
use Rattle.law_refine.specs.Index.Finders.{SessionWork, NoWork, KeepsSlot, PublishesEntry, slot_kept, kept_work, append_work}
use Rattle.law_refine.proofs.OfIndex.Goes.{WorkGoes, Drops, Enters, stays}
use Rattle.law_refine.proofs.OfIndex.WalkParts.{IsUpdate, kept_quiet}

-- a new record is made for the slot that was found, behind the entry that was met there
pub record IsAppendOf (t : TryState) (a : AppendState) : Type 0 where
  pub slot : a.slot ≡ slot_of t
  pub previous : a.its_words.header.previous.0 ≡ entry_addr t.walk.entry

abbrev pub AppendKnows : TryState → AppendState → Appending → Type 0
AppendKnows t a (appending.Fills addr) = may_publish t.walk.entry addr.0 ≡ true
AppendKnows t a (appending.Publishes addr) = a.publishing ≡ publish_first t.walk.place t.walk.entry (new_entry addr.0 t.home.tag)
AppendKnows t a step = ⊤

pub record AppendGoes (p : Places) (reply : ℕ) (before : SessionWork) (spare : ℕ) (t : TryState) (a : AppendState) : Type 0 where
  pub its : IsAppendOf t a
  pub knows : AppendKnows t a a.step
  pub goes : WorkGoes p reply before (append_work t a.step) spare

-- an update goes by the slot that it has found
update_kept : (t : TryState) → IsUpdate t → kept_work t ≡ KeepsSlot (slot_kept t)
update_kept t update = rw update refl

kept_keeps : (p : Places) (reply spare : ℕ) (t : TryState) → WorkGoes p reply (kept_work t) (kept_work t) spare
kept_keeps p reply spare t = (stays p reply (kept_work t) spare (kept_quiet t)).work

kept_drops : (p : Places) (reply spare : ℕ) (t : TryState) → WorkGoes p reply (kept_work t) NoWork spare
kept_drops p reply spare t = by_read (is_read t.request.op)
  where
    by_read : (c : Bool) → WorkGoes p reply (if c then NoWork else KeepsSlot (slot_kept t)) NoWork spare
    by_read true = Drops tt refl
    by_read false = Drops tt refl

ended_goes : (p : Places) (reply spare : ℕ) (t : TryState) (a : AppendState) (its : AppendAnswer) → IsAppendOf t a → AppendGoes p reply (kept_work t) spare t (append_ended a its)
ended_goes p reply spare t a its of = record { its = record { slot = of.slot; previous = of.previous }; knows = tt; goes = kept_drops p reply spare t }

reserved_goes : (p : Places) (reply spare : ℕ) (t : TryState) (a : AppendState) (addr : Addr) → IsAppendOf t a → AppendGoes p reply (kept_work t) spare t (addr_reserved a addr)
reserved_goes p reply spare t a addr of = by_test (nat_lt a.its_words.header.previous.0 addr.0 && nat_lt addr.0 (2 ^ 48)) refl
  where
    by_test : (c : Bool) → (nat_lt a.its_words.header.previous.0 addr.0 && nat_lt addr.0 (2 ^ 48)) ≡ c
        → AppendGoes p reply (kept_work t) spare t (if c then record a { filling = fill_begun addr a.its_words; step = appending.Fills addr } else append_ended a append.Contended)
    by_test true may = record { its = record { slot = of.slot; previous = of.previous }; knows = subst (λ (x : ℕ). (nat_lt x addr.0 && nat_lt addr.0 (2 ^ 48)) ≡ true) of.previous may; goes = kept_keeps p reply spare t }
    by_test false fails = ended_goes p reply spare t a append.Contended of

reserve_goes : (p : Places) (reply spare : ℕ) (t : TryState) (a : AppendState) (ask : Ask ReserveAnswer) → a.step ≡ appending.Reserves → IsAppendOf t a → AppendGoes p reply (kept_work t) spare t (reserve_ledto a ask)
unfolding reserve_ledto
reserve_goes p reply spare t a (Done (reserve.Reserved addr)) at of = reserved_goes p reply spare t a addr of
reserve_goes p reply spare t a (Done reserve.Full) at of = ended_goes p reply spare t a append.Full of
reserve_goes p reply spare t a (Done reserve.NoRoom) at of = ended_goes p reply spare t a append.NoRoom of
reserve_goes p reply spare t a (Done reserve.Contended) at of = ended_goes p reply spare t a append.Contended of
reserve_goes p reply spare t a ask at of = record { its = of; knows = subst (λ x. AppendKnows t a x) (sym at) tt; goes = subst (λ x. WorkGoes p reply (kept_work t) (append_work t x) spare) (sym at) (kept_keeps p reply spare t) }

fill_goes : (p : Places) (reply spare : ℕ) (t : TryState) (a : AppendState) (addr : Addr) (ask : Ask (Unit {0})) → a.step ≡ appending.Fills addr → IsUpdate t → IsAppendOf t a → may_publish t.walk.entry addr.0 ≡ true → AppendGoes p reply (kept_work t) spare t (fill_ledto a addr ask)
unfolding fill_ledto
fill_goes p reply spare t a addr (Done its) at update of may = record {
  its = record { slot = of.slot; previous = of.previous };
  knows = ap (λ (x : FoundSlot). publish_first x.place x.entry (new_entry addr.0 x.tag)) of.slot;
  goes = rw (update_kept t update) (Enters (slot_kept t) addr.0 refl may refl);
}
fill_goes p reply spare t a addr ask at update of may = record { its = of; knows = subst (λ x. AppendKnows t a x) (sym at) may; goes = subst (λ x. WorkGoes p reply (kept_work t) (append_work t x) spare) (sym at) (kept_keeps p reply spare t) }

publish_goes : (p : Places) (reply spare : ℕ) (t : TryState) (a : AppendState) (addr : Addr) (its : PublishAnswer) → IsAppendOf t a → AppendGoes p reply (PublishesEntry (slot_kept t) addr.0) spare t (publish_ledto a addr (Done its))
unfolding publish_ledto
publish_goes p reply spare t a addr publish.Won of = record { its = record { slot = of.slot; previous = of.previous }; knows = tt; goes = Drops tt refl }
publish_goes p reply spare t a addr publish.Lost of = record { its = record { slot = of.slot; previous = of.previous }; knows = tt; goes = Drops tt refl }

invalidate_goes : (p : Places) (reply spare : ℕ) (t : TryState) (a : AppendState) (ask : Ask (Unit {0})) → a.step ≡ appending.Invalidates → IsAppendOf t a → AppendGoes p reply NoWork spare t (invalidate_ledto a ask)
unfolding invalidate_ledto
invalidate_goes p reply spare t a (Done its) at of = record { its = record { slot = of.slot; previous = of.previous }; knows = tt; goes = Drops tt refl }
invalidate_goes p reply spare t a ask at of = record { its = of; knows = subst (λ x. AppendKnows t a x) (sym at) tt; goes = Drops tt (ap (append_work t) at) }

-- a publish is answered at its one ask
swapped : (step : Publishing) (place word entry reply : ℕ) → step ≡ publish_first place word entry → publish_next_ask step reply ≡ Done (published_where word reply)
unfolding publish_next_ask
swapped step place word entry reply same = rw same refl

appending_goes : (p : Places) (room reply spare : ℕ) (t : TryState) (a : AppendState) (step : Appending) → a.step ≡ step → IsUpdate t → IsAppendOf t a → AppendKnows t a step → AppendGoes p reply (append_work t step) spare t (appending_next p room a step reply)
unfolding appending_next
appending_goes p room reply spare t a (appending.Ended its) at update of knows = record { its = of; knows = subst (λ x. AppendKnows t a x) (sym at) tt; goes = Drops tt (ap (append_work t) at) }
appending_goes p room reply spare t a appending.Reserves at update of knows =
    reserve_goes p reply spare t (record a { reserving = reserve_next a.reserving reply }) (reserve_next_ask room a.reserving reply) at (record { slot = of.slot; previous = of.previous })
appending_goes p room reply spare t a (appending.Fills addr) at update of knows =
    fill_goes p reply spare t (record a { filling = fill_next a.filling }) addr (fill_ask p (fill_next a.filling)) at update (record { slot = of.slot; previous = of.previous }) knows
appending_goes p room reply spare t a (appending.Publishes addr) at update of knows =
    let its = swapped a.publishing t.walk.place t.walk.entry (new_entry addr.0 t.home.tag) reply knows in
    rw its (publish_goes p reply spare t (record a { publishing = publish_next a.publishing reply }) addr (published_where t.walk.entry reply) (record { slot = of.slot; previous = of.previous }))
appending_goes p room reply spare t a appending.Invalidates at update of knows =
    invalidate_goes p reply spare t (record a { invalidating = invalidate_next a.invalidating }) (invalidate_ask p (invalidate_next a.invalidating)) at (record { slot = of.slot; previous = of.previous })

-- each reply to an append
pub append_goes : (p : Places) (room reply spare : ℕ) (t : TryState) (a : AppendState) → IsUpdate t → IsAppendOf t a → AppendKnows t a a.step → AppendGoes p reply (append_work t a.step) spare t (append_next p room a reply)
append_goes p room reply spare t a update of knows = appending_goes p room reply spare t a a.step refl update of knows

pub append_end_none : (t : TryState) (step : Appending) → is_append_end step ≡ true → append_work t step ≡ NoWork
append_end_none t (appending.Ended its) ends = refl
append_end_none t step ends = cc
