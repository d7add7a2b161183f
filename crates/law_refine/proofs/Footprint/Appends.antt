-- An append fills a record, and publishes at a slot of the index.
use Rattle.std.proofs.Common.{◌≡◌, ◌≢◌, ℕ, ◌^◌, refl, sym, subst, inl, Bool, true, false}
use Rattle.std.specs.Prelude.{if◌then◌else◌, ◌&&◌, nat_lt, ⊤, None, Option}
use Rattle.fkv_base.specs.declared.numbers.Addr.{Addr}
use Rattle.fkv_plane.specs.declared.asks.Ask.{Ask}
use Rattle.fkv_plane.specs.declared.asks.Ask.TheVariants.{Done}
use Rattle.fkv_plane.specs.declared.places.Places.{Places}
use Rattle.fkv_plane.specs.declared.places.RecordWord.TheVariants as rec
use Rattle.fkv_plane.specs.declared.places.SharedWord.TheVariants as one
use Rattle.fkv_index.specs.declared.publishing.PublishAnswer.{PublishAnswer}
use Rattle.fkv_index.specs.declared.publishing.PublishAnswer.TheVariants as publish
use Rattle.fkv_index.specs.declared.publishing.Publishing.{Publishing}
use Rattle.fkv_index.specs.declared.publishing.Publishing.TheVariants as publishing
use Rattle.fkv_index.specs.Publishing.{publish_ask, publish_next, publish_next_ask}
use Rattle.law_world.specs.Below.fkv_log.TheFilling.{Filling}
use Rattle.law_world.specs.Below.fkv_log.TheFilling.TheVariants as fill
use Rattle.law_world.specs.Below.fkv_log.TheInvalidating.{Invalidating}
use Rattle.law_world.specs.Below.fkv_log.TheInvalidating.TheVariants as invalidate
use Rattle.law_world.specs.Below.fkv_log.RecordWords.{RecordWords}
use Rattle.law_world.specs.Below.fkv_log.ReserveAnswer.{ReserveAnswer}
use Rattle.law_world.specs.Below.fkv_log.ReserveAnswer.TheVariants as reserve
use Rattle.law_world.specs.Below.fkv_log.TheReserving.{Reserving}
use Rattle.law_world.specs.Below.fkv_log.TheReserving.TheVariants as reserving
use Rattle.law_world.specs.Below.fkv_log.Filling.{fill_begun, fill_ask, fill_next}
use Rattle.law_world.specs.Below.fkv_log.Invalidating.{invalidate_ask, invalidate_next}
use Rattle.law_world.specs.Below.fkv_log.Reserving.{reserve_ask, reserve_next, reserve_next_ask}
use Rattle.law_world.specs.Below.fkv_ops.AppendAnswer.{AppendAnswer}
use Rattle.law_world.specs.Below.fkv_ops.AppendAnswer.TheVariants as answer
use Rattle.law_world.specs.Below.fkv_ops.TheAppending.{Appending}
use Rattle.law_world.specs.Below.fkv_ops.TheAppending.TheVariants.{Ended, Reserves, Fills, Publishes, Invalidates}
use Rattle.law_world.specs.Below.fkv_ops.FoundSlot.{FoundSlot}
use Rattle.law_world.specs.Below.fkv_ops.Appending.{AppendState, append_begun, appending_ask, append_ask, append_ended, addr_reserved, reserve_ledto, fill_ledto, publish_ledto, invalidate_ledto, appending_next, append_next}
use Rattle.law_world.specs.Below.fkv_ops.Trying.{TryState}
use Rattle.law_refine.specs.Footprint.{Part, TheIndex, Spares}
use Rattle.law_refine.specs.Index.Finders.{append_work, entry_in}
use Rattle.law_refine.proofs.Footprint.Finds.{IsIndexAlone}
use Rattle.law_refine.proofs.Footprint.Latching.{passed_spares}
use Rattle.law_refine.proofs.Footprint.Outside.{shared_outside, record_outside}

-- the entry is published at a slot
abbrev pub PublishesAlone : Places → Publishing → Type 0
PublishesAlone p publishing.AtRest = ⊤
PublishesAlone p (publishing.SwapsEntry place word entry) = IsIndexAlone p place

abbrev pub StepPublishes : Places → AppendState → Appending → Type 0
StepPublishes p a (Publishes addr) = PublishesAlone p a.publishing
StepPublishes p a step = ⊤

-- at the slot that it was told of, which is one of the index
pub record IsAppendSparing (p : Places) (a : AppendState) : Type 0 where
  pub place : IsIndexAlone p a.slot.place
  pub publishes : StepPublishes p a a.step

-- what its machines ask for
reserve_spares : (part : Part) (p : Places) (step : Reserving) → Spares part p (reserve_ask step)
unfolding reserve_ask
reserve_spares part p (reserving.TakesTail tail) = inl (shared_outside part p one.Tail (λ e. cc) (λ e. cc))
reserve_spares part p step = tt

fill_spares : (part : Part) (p : Places) (step : Filling) → Spares part p (fill_ask p step)
unfolding fill_ask
fill_spares part p fill.AtRest = tt
fill_spares part p (fill.StoresValue addr its) = record_outside part p addr.0 rec.Value
fill_spares part p (fill.StoresKey addr its) = record_outside part p addr.0 rec.Key
fill_spares part p (fill.StoresHeader addr its) = record_outside part p addr.0 rec.Header

invalidate_spares : (part : Part) (p : Places) (step : Invalidating) → Spares part p (invalidate_ask p step)
unfolding invalidate_ask
invalidate_spares part p invalidate.AtRest = tt
invalidate_spares part p (invalidate.StoresHeader addr header) = record_outside part p addr.0 rec.Header

publish_spares : (part : Part) (p : Places) (step : Publishing) → PublishesAlone p step → part ≢ TheIndex → Spares part p (publish_ask step)
unfolding publish_ask
publish_spares part p publishing.AtRest alone other = tt
publish_spares part p (publishing.SwapsEntry place word entry) alone other = inl (alone part other)

-- the index is spared where it publishes nothing
publishes_not : (part : Part) (t : TryState) (addr : Addr) → (part ≡ TheIndex → entry_in (append_work t (Publishes addr)) ≡ None) → part ≢ TheIndex
publishes_not part t addr none = λ index. let clash : entry_in (append_work t (Publishes addr)) ≡ None = none index in cc

appending_spares : (part : Part) (p : Places) (t : TryState) (a : AppendState) (step : Appending) → StepPublishes p a step → (part ≡ TheIndex → entry_in (append_work t step) ≡ None) → Spares part p (appending_ask p a step)
unfolding appending_ask
appending_spares part p t a (Ended its) alone none = tt
appending_spares part p t a Reserves alone none = passed_spares part p _ _ (reserve_spares part p a.reserving)
appending_spares part p t a (Fills addr) alone none = passed_spares part p _ _ (fill_spares part p a.filling)
appending_spares part p t a (Publishes addr) alone none = passed_spares part p _ _ (publish_spares part p a.publishing alone (publishes_not part t addr none))
appending_spares part p t a Invalidates alone none = passed_spares part p _ _ (invalidate_spares part p a.invalidating)

pub append_spares : (part : Part) (p : Places) (t : TryState) (a : AppendState) → IsAppendSparing p a → (part ≡ TheIndex → entry_in (append_work t a.step) ≡ None) → Spares part p (append_ask p a)
append_spares part p t a its none = appending_spares part p t a a.step its.publishes none

-- where a reply leads
ended_spares : (p : Places) (a : AppendState) (its : AppendAnswer) → IsIndexAlone p a.slot.place → IsAppendSparing p (append_ended a its)
ended_spares p a its none = record { place = none; publishes = tt }

either_spares : (c : Bool) (p : Places) (a b : AppendState) → IsAppendSparing p a → IsAppendSparing p b → IsAppendSparing p (if c then a else b)
either_spares true p a b one other = one
either_spares false p a b one other = other

stays_spares : (p : Places) (a : AppendState) (step : Appending) → a.step ≡ step → IsIndexAlone p a.slot.place → StepPublishes p a step → IsAppendSparing p a
stays_spares p a step at none publishes = record { place = none; publishes = subst (λ x. StepPublishes p a x) (sym at) publishes }

reserved_spares : (p : Places) (a : AppendState) (addr : Addr) → IsIndexAlone p a.slot.place → IsAppendSparing p (addr_reserved a addr)
reserved_spares p a addr none =
    either_spares (nat_lt a.its_words.header.previous.0 addr.0 && nat_lt addr.0 (2 ^ 48)) p (record a { filling = fill_begun addr a.its_words; step = Fills addr }) (append_ended a answer.Contended)
    (record { place = none; publishes = tt }) (ended_spares p a answer.Contended none)

reserve_ledto_spares : (p : Places) (a : AppendState) (ask : Ask ReserveAnswer) → a.step ≡ Reserves → IsIndexAlone p a.slot.place → IsAppendSparing p (reserve_ledto a ask)
unfolding reserve_ledto
reserve_ledto_spares p a (Done (reserve.Reserved addr)) at none = reserved_spares p a addr none
reserve_ledto_spares p a (Done reserve.Full) at none = ended_spares p a answer.Full none
reserve_ledto_spares p a (Done reserve.NoRoom) at none = ended_spares p a answer.NoRoom none
reserve_ledto_spares p a (Done reserve.Contended) at none = ended_spares p a answer.Contended none
reserve_ledto_spares p a ask at none = stays_spares p a Reserves at none tt

fill_ledto_spares : (p : Places) (a : AppendState) (addr : Addr) (ask : Ask (Unit {0})) → a.step ≡ Fills addr → IsIndexAlone p a.slot.place → IsAppendSparing p (fill_ledto a addr ask)
unfolding fill_ledto
fill_ledto_spares p a addr (Done its) at none = record { place = none; publishes = none }
fill_ledto_spares p a addr ask at none = stays_spares p a (Fills addr) at none tt

publish_ledto_spares : (p : Places) (a : AppendState) (addr : Addr) (ask : Ask PublishAnswer) → a.step ≡ Publishes addr → IsIndexAlone p a.slot.place → PublishesAlone p a.publishing → IsAppendSparing p (publish_ledto a addr ask)
unfolding publish_ledto
publish_ledto_spares p a addr (Done publish.Won) at none publishes = ended_spares p a answer.Published none
publish_ledto_spares p a addr (Done publish.Lost) at none publishes = record { place = none; publishes = tt }
publish_ledto_spares p a addr ask at none publishes = stays_spares p a (Publishes addr) at none publishes

invalidate_ledto_spares : (p : Places) (a : AppendState) (ask : Ask (Unit {0})) → a.step ≡ Invalidates → IsIndexAlone p a.slot.place → IsAppendSparing p (invalidate_ledto a ask)
unfolding invalidate_ledto
invalidate_ledto_spares p a (Done its) at none = ended_spares p a answer.Contended none
invalidate_ledto_spares p a ask at none = stays_spares p a Invalidates at none tt

published_spares : (p : Places) (step : Publishing) (reply : ℕ) → PublishesAlone p (publish_next step reply)
unfolding publish_next
published_spares p publishing.AtRest reply = tt
published_spares p (publishing.SwapsEntry place word entry) reply = tt

next_spares : (p : Places) (room : ℕ) (a : AppendState) (step : Appending) (reply : ℕ) → a.step ≡ step → IsIndexAlone p a.slot.place → IsAppendSparing p (appending_next p room a step reply)
unfolding appending_next
next_spares p room a (Ended its) reply at none = stays_spares p a (Ended its) at none tt
next_spares p room a Reserves reply at none = reserve_ledto_spares p (record a { reserving = reserve_next a.reserving reply }) (reserve_next_ask room a.reserving reply) at none
next_spares p room a (Fills addr) reply at none = fill_ledto_spares p (record a { filling = fill_next a.filling }) addr (fill_ask p (fill_next a.filling)) at none
next_spares p room a (Publishes addr) reply at none = publish_ledto_spares p (record a { publishing = publish_next a.publishing reply }) addr (publish_next_ask a.publishing reply) at none (published_spares p a.publishing reply)
next_spares p room a Invalidates reply at none = invalidate_ledto_spares p (record a { invalidating = invalidate_next a.invalidating }) (invalidate_ask p (invalidate_next a.invalidating)) at none

-- each reply
pub append_next_spares : (p : Places) (room : ℕ) (a : AppendState) (reply : ℕ) → IsAppendSparing p a → IsAppendSparing p (append_next p room a reply)
append_next_spares p room a reply its = next_spares p room a a.step reply refl its.place

-- as it begins
pub append_begun_spares : (p : Places) (slot : FoundSlot) (its : RecordWords) (bound : Option ℕ) → IsIndexAlone p slot.place → IsAppendSparing p (append_begun slot its bound)
append_begun_spares p slot its bound none = record { place = none; publishes = tt }
