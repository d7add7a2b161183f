-- What a step of an append is to the log: an address is taken for a record, and the record is published or given up.
use Rattle.std.specs.Prelude.{ℕ, if◌then◌else◌, List, [], ◌∷◌}
use Rattle.fkv_base.specs.declared.numbers.Serial.{Serial}
use Rattle.fkv_map.specs.declared.history.HistoryEntry.{HistoryEntry}
use Rattle.fkv_map.specs.declared.operations.Reply.{Reply}
use Rattle.law_log.specs.Ghosts.{GhostEvent, Reserves, Publishes, Drops}
use Rattle.fkv_plane.specs.declared.asks.Ask.{Ask}
use Rattle.fkv_plane.specs.declared.asks.Ask.TheVariants.{Done}
use Rattle.law_world.specs.Below.fkv_log.TheInvalidating.{Invalidating}
use Rattle.law_world.specs.Below.fkv_log.TheInvalidating.TheVariants as invalidating
use Rattle.law_world.specs.Below.fkv_log.ReserveAnswer.{ReserveAnswer}
use Rattle.law_world.specs.Below.fkv_log.ReserveAnswer.TheVariants.{Reserved}
use Rattle.law_world.specs.Below.fkv_log.Reserving.{reserve_next_ask}
use Rattle.fkv_index.specs.declared.publishing.PublishAnswer.{PublishAnswer}
use Rattle.fkv_index.specs.declared.publishing.PublishAnswer.TheVariants.{Won}
use Rattle.fkv_index.specs.Publishing.{publish_next_ask}
use Rattle.law_world.specs.Below.fkv_ops.TheAppending.{Appending}
use Rattle.law_world.specs.Below.fkv_ops.TheAppending.TheVariants as appending
use Rattle.law_world.specs.Below.fkv_ops.Appending.{AppendState}
use Rattle.law_world.specs.Below.fkv_pending.PendingRequest.{PendingRequest}
use Rattle.law_world.specs.Below.fkv_pending.RequestName.{RequestName}
use Rattle.law_world.specs.Below.fkv_pending.RequestName.TheVariants.{Update, Read}
use Rattle.law_world.specs.GuardSessions.Tries.{is_for_entry}
use Rattle.law_local.specs.Tries.TryRows.{cell_of}

-- the serial of an update; a read has none, and makes no entry
abbrev pub serial_of : RequestName → Serial
serial_of (Update serial) = serial
serial_of (Read ticket) = record { 0 = 0 }

-- the entry of the history that a session's request makes where it takes effect with this reply
abbrev pub entry_made : ℕ → PendingRequest → Reply → HistoryEntry
entry_made session pending reply = record { session = session; serial = serial_of pending.name; op = pending.request.op; reply = reply }

-- What an append makes: a record of this version, and by its publishing this entry of the history. The record's header has no more than the version's mark.
pub record NewRecord : Type 0 where
  pub entry : HistoryEntry
  pub version : ℕ

-- of a session's request, which takes effect with this reply
abbrev pub new_record : ℕ → PendingRequest → Reply → NewRecord
new_record session pending reply = record { entry = entry_made session pending reply; version = pending.request.version.0 }

-- the won Cas of the tail takes the address for the record; one that no entry can have is given up at once
abbrev pub reserved_ghosts : AppendState → NewRecord → Ask ReserveAnswer → List GhostEvent
reserved_ghosts a made (Done (Reserved addr)) =
    if is_for_entry a addr then Reserves addr.0 made.entry (cell_of made.version a.its_words) ∷ [] else Drops addr.0 ∷ Reserves addr.0 made.entry (cell_of made.version a.its_words) ∷ []
reserved_ghosts a made ask = []

-- the won Cas of the slot publishes it
abbrev pub publish_ghosts : ℕ → Ask PublishAnswer → List GhostEvent
publish_ghosts addr (Done Won) = Publishes addr ∷ []
publish_ghosts addr ask = []

-- and the store of the invalid header gives it up
abbrev pub invalidate_ghosts : Invalidating → List GhostEvent
invalidate_ghosts invalidating.AtRest = []
invalidate_ghosts (invalidating.StoresHeader addr header) = Drops addr.0 ∷ []

-- by the append's control state, with the reply to its ask
abbrev pub append_ghosts : ℕ → AppendState → NewRecord → Appending → ℕ → List GhostEvent
append_ghosts room a made appending.Reserves reply = reserved_ghosts a made (reserve_next_ask room a.reserving reply)
append_ghosts room a made (appending.Publishes addr) reply = publish_ghosts addr.0 (publish_next_ask a.publishing reply)
append_ghosts room a made appending.Invalidates reply = invalidate_ghosts a.invalidating
append_ghosts room a made step reply = []
