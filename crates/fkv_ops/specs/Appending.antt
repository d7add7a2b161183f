-- How a record is appended and published: its address is reserved, its words are written, and its entry takes the place of the one that
-- was found. A record whose entry was not won is invalidated.
use Rattle.std.specs.Prelude.{ℕ, ◌^◌, ◌<◌, ◌&&◌, nat_lt, if◌then◌else◌, false, Option, ⊤}
use Rattle.std.proofs.Common.{arith}
use Rattle.fkv_base.specs.declared.numbers.Addr.{Addr}
use Rattle.fkv_words.specs.declared.headers.Header.{Header}
use Rattle.fkv_plane.specs.declared.asks.Ask.{Ask}
use Rattle.fkv_plane.specs.declared.asks.Ask.TheVariants.{Done}
use Rattle.fkv_plane.specs.declared.places.Places.{Places}
use Rattle.fkv_plane.specs.Passing.{passed}
use Rattle.fkv_log.specs.declared.record_words.RecordWords.{RecordWords}
use Rattle.fkv_log.specs.declared.reserving.ReserveAnswer.{ReserveAnswer}
use Rattle.fkv_log.specs.declared.reserving.ReserveAnswer.TheVariants as reserve
use Rattle.fkv_log.specs.declared.reserving.Reserving.{Reserving}
use Rattle.fkv_log.specs.declared.reserving.Reserving.TheVariants as reserving
use Rattle.fkv_log.specs.declared.filling.Filling.{Filling}
use Rattle.fkv_log.specs.declared.filling.Filling.TheVariants as filling
use Rattle.fkv_log.specs.declared.invalidating.Invalidating.{Invalidating}
use Rattle.fkv_log.specs.declared.invalidating.Invalidating.TheVariants as invalidating
use Rattle.fkv_log.specs.Reserving.{reserve_ask, reserve_next, reserve_next_ask}
use Rattle.fkv_log.specs.Filling.{fill_begun, fill_ask, fill_next}
use Rattle.fkv_log.specs.Invalidating.{invalidate_begun, invalidate_ask, invalidate_next}
use Rattle.fkv_index.specs.declared.publishing.PublishAnswer.{PublishAnswer}
use Rattle.fkv_index.specs.declared.publishing.PublishAnswer.TheVariants as publish
use Rattle.fkv_index.specs.declared.publishing.Publishing.{Publishing}
use Rattle.fkv_index.specs.declared.publishing.Publishing.TheVariants as publishing
use Rattle.fkv_index.specs.Publishing.{publish_ask, publish_next, publish_next_ask}
use Rattle.fkv_index.specs.IndexWorld.{new_entry}
use Rattle.fkv_ops.specs.declared.appending.FoundSlot.{FoundSlot}
use Rattle.fkv_ops.specs.declared.appending.AppendAnswer.{AppendAnswer}
use Rattle.fkv_ops.specs.declared.appending.AppendAnswer.TheVariants as answer
use Rattle.fkv_ops.specs.declared.appending.Appending.{Appending}
use Rattle.fkv_ops.specs.declared.appending.Appending.TheVariants.{Ended, Reserves, Fills, Publishes, Invalidates}

pub record AppendState : Type 0 where
  pub slot : FoundSlot
  pub its_words : RecordWords
  -- the machines inside it
  pub reserving : Reserving
  pub filling : Filling
  pub publishing : Publishing
  pub invalidating : Invalidating
  pub step : Appending

pub record Appender : Type 0 where
  pub places : Places
  -- how many addresses the log has on the device
  pub room : ℕ
  pub state : AppendState

-- what a machine at rest has in place of a slot and a record
abbrev pub no_slot : FoundSlot
no_slot = record { place = 0; entry = 0; tag = 0 }

abbrev pub no_header : Header
no_header = record { previous = record { 0 = 0 }; version = record { 0 = 1 }; invalid = false; previous_fits = omega arith; some_version = omega arith; version_fits = omega arith }

abbrev pub no_words : RecordWords
no_words = record { header = no_header; key = record { 0 = 0 }; value = 0 }

-- before it first starts it is at its end
unfoldable pub append_rested : AppendState
append_rested = record { slot = no_slot; its_words = no_words; reserving = reserving.AtRest; filling = filling.AtRest; publishing = publishing.AtRest; invalidating = invalidating.AtRest; step = Ended answer.Contended }

-- As it begins it is made of what it is given alone: nothing is left of an earlier append.
abbrev pub append_begun : FoundSlot → RecordWords → Option ℕ → AppendState
append_begun slot its_words bound = record { slot = slot; its_words = its_words; reserving = reserving.LoadsLimit bound; filling = filling.AtRest; publishing = publishing.AtRest; invalidating = invalidating.AtRest; step = Reserves }

-- what each state asks
unfoldable pub appending_ask : Places → AppendState → Appending → Ask AppendAnswer
appending_ask p a (Ended answer) = Done answer
appending_ask p a Reserves = passed (reserve_ask a.reserving) answer.Contended
appending_ask p a (Fills addr) = passed (fill_ask p a.filling) answer.Contended
appending_ask p a (Publishes addr) = passed (publish_ask a.publishing) answer.Contended
appending_ask p a Invalidates = passed (invalidate_ask p a.invalidating) answer.Contended

abbrev pub append_ask : Places → AppendState → Ask AppendAnswer
append_ask p a = appending_ask p a a.step

abbrev pub append_ended : AppendState → AppendAnswer → AppendState
append_ended a answer = record a { step = Ended answer }

-- the address is above that of the entry, and one that an entry can have. No store reserves another
abbrev pub addr_reserved : AppendState → Addr → AppendState
addr_reserved a addr =
    if nat_lt a.its_words.header.previous.0 addr.0 && nat_lt addr.0 (2 ^ 48) then record a { filling = fill_begun addr a.its_words; step = Fills addr }
    else append_ended a answer.Contended

-- by what the reservation asks next
unfoldable pub reserve_ledto : AppendState → Ask ReserveAnswer → AppendState
reserve_ledto a (Done (reserve.Reserved addr)) = addr_reserved a addr
reserve_ledto a (Done reserve.Full) = append_ended a answer.Full
reserve_ledto a (Done reserve.NoRoom) = append_ended a answer.NoRoom
reserve_ledto a (Done reserve.Contended) = append_ended a answer.Contended
reserve_ledto a ask = a

-- once the record is written its entry is published
unfoldable pub fill_ledto : AppendState → Addr → Ask (Unit {0}) → AppendState
fill_ledto a addr (Done its) = record a { publishing = publishing.SwapsEntry a.slot.place a.slot.entry (new_entry addr.0 a.slot.tag); step = Publishes addr }
fill_ledto a addr ask = a

-- and where that was lost the record is invalidated
unfoldable pub publish_ledto : AppendState → Addr → Ask PublishAnswer → AppendState
publish_ledto a addr (Done publish.Won) = append_ended a answer.Published
publish_ledto a addr (Done publish.Lost) = record a { invalidating = invalidate_begun addr a.its_words.header; step = Invalidates }
publish_ledto a addr ask = a

unfoldable pub invalidate_ledto : AppendState → Ask (Unit {0}) → AppendState
invalidate_ledto a (Done its) = append_ended a answer.Contended
invalidate_ledto a ask = a

-- where the reply leads
unfoldable pub appending_next : Places → ℕ → AppendState → Appending → ℕ → AppendState
appending_next p room a (Ended answer) reply = a
appending_next p room a Reserves reply = reserve_ledto (record a { reserving = reserve_next a.reserving reply }) (reserve_next_ask room a.reserving reply)
appending_next p room a (Fills addr) reply = fill_ledto (record a { filling = fill_next a.filling }) addr (fill_ask p (fill_next a.filling))
appending_next p room a (Publishes addr) reply = publish_ledto (record a { publishing = publish_next a.publishing reply }) addr (publish_next_ask a.publishing reply)
appending_next p room a Invalidates reply = invalidate_ledto (record a { invalidating = invalidate_next a.invalidating }) (invalidate_ask p (invalidate_next a.invalidating))

abbrev pub append_next : Places → ℕ → AppendState → ℕ → AppendState
append_next p room a reply = appending_next p room a a.step reply

-- the address that is filled and published is one that an entry can have
abbrev pub IsAppendInRange : Appending → Type 0
IsAppendInRange (Fills addr) = (0 < addr.0) × (addr.0 < 2 ^ 48)
IsAppendInRange (Publishes addr) = (0 < addr.0) × (addr.0 < 2 ^ 48)
IsAppendInRange step = ⊤
