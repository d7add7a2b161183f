-- What an append has reserved, by its control state: from the won Cas of the tail up to its publish, or to where the record is given up.
use Rattle.std.specs.Prelude.{◌≡◌, ⊤, ℕ, ◌+◌, List, [], ◌∷◌, Option, Some, None}
use Rattle.fkv_map.specs.declared.history.HistoryEntry.{HistoryEntry}
use Rattle.law_log.specs.Chains.{Cell}
use Rattle.law_log.specs.Ghosts.{GhostEvent, Reserves, Publishes, Drops}
use Rattle.fkv_plane.specs.declared.places.SharedWord.TheVariants as one
use Rattle.fkv_plane.specs.Places.{shared_place}
use Rattle.law_world.specs.Below.fkv_log.TheInvalidating.{Invalidating}
use Rattle.law_world.specs.Below.fkv_log.TheInvalidating.TheVariants as invalidating
use Rattle.law_world.specs.Below.fkv_ops.TheAppending.{Appending}
use Rattle.law_world.specs.Below.fkv_ops.TheAppending.TheVariants as appending
use Rattle.law_world.specs.Below.fkv_ops.TheTrying.{Trying}
use Rattle.law_world.specs.Below.fkv_ops.TheTrying.TheVariants.{Appends}
use Rattle.law_world.specs.Below.fkv_ops.Appending.{AppendState}
use Rattle.law_world.specs.Below.fkv_ops.Trying.{TryState}
use Rattle.law_world.specs.Below.fkv_pending.TheAttempting.{Attempting}
use Rattle.law_world.specs.Below.fkv_pending.TheAttempting.TheVariants.{Tries}
use Rattle.law_world.specs.Below.fkv_pending.PendingRequest.{PendingRequest}
use Rattle.law_world.specs.Below.fkv_pending.Attempting.{AttemptState}
use Rattle.law_refine.specs.Events.Appends.{NewRecord, new_record}
use Rattle.law_local.specs.Tries.TryRows.{cell_of}

-- an address that is taken for a record, and the entry of the history that its publishing makes
pub record Reservation : Type 0 where
  pub addr : ℕ
  pub entry : HistoryEntry
  pub cell : Cell

abbrev pub reservation : AppendState → NewRecord → ℕ → Reservation
reservation a made addr = record { addr = addr; entry = made.entry; cell = cell_of made.version a.its_words }

-- by how far its append has come, for what it makes
abbrev pub invalidate_reserves : AppendState → NewRecord → Invalidating → Option Reservation
invalidate_reserves a made invalidating.AtRest = None
invalidate_reserves a made (invalidating.StoresHeader addr header) = Some (reservation a made addr.0)

abbrev pub append_reserves : AppendState → NewRecord → Appending → Option Reservation
append_reserves a made (appending.Fills addr) = Some (reservation a made addr.0)
append_reserves a made (appending.Publishes addr) = Some (reservation a made addr.0)
append_reserves a made appending.Invalidates = invalidate_reserves a made a.invalidating
append_reserves a made step = None

-- where its try appends
abbrev pub try_reserves : ℕ → PendingRequest → TryState → Trying → Option Reservation
try_reserves session pending t (Appends its) = append_reserves t.append (new_record session pending its) t.append.step
try_reserves session pending t step = None

abbrev pub attempt_reserves : ℕ → AttemptState → Attempting → Option Reservation
attempt_reserves session a Tries = try_reserves session a.pending a.trial a.trial.step
attempt_reserves session a step = None

-- these leave all cells as they were, but for values of published ones
abbrev pub is_still : GhostEvent → Type 0
is_still (Reserves a entry cell) = ⊥
is_still (Publishes a) = ⊥
is_still (Drops a) = ⊥
is_still event = ⊤

abbrev pub AreStill : List GhostEvent → Type 0
AreStill [] = ⊤
AreStill (event ∷ before) = is_still event × AreStill before

-- the ask, by its place and what it makes of the word, takes this address at the tail, which it was replied
pub record TakesTail (place : Option ℕ) (change : ℕ → ℕ) (reply addr : ℕ) : Type 0 where
  pub at : place ≡ Some (shared_place one.Tail)
  pub found : addr ≡ reply
  pub raised : change reply ≡ reply + 1

-- a step's events, from what was reserved to what is
pub data MovesOn (place : Option ℕ) (change : ℕ → ℕ) (reply : ℕ) : List GhostEvent → Option Reservation → Option Reservation → Type 0 where
  Keeps : (events : List GhostEvent) (its : Option Reservation) → AreStill events → MovesOn place change reply events its its
  Behind : (event : GhostEvent) {events : List GhostEvent} {before after : Option Reservation} → is_still event → MovesOn place change reply events before after → MovesOn place change reply (event ∷ events) before after
  TakesOne : (its : Reservation) → TakesTail place change reply its.addr → MovesOn place change reply (Reserves its.addr its.entry its.cell ∷ []) None (Some its)
  LosesOne : (its : Reservation) → TakesTail place change reply its.addr → MovesOn place change reply (Drops its.addr ∷ Reserves its.addr its.entry its.cell ∷ []) None None
  PublishesOne : (its : Reservation) → MovesOn place change reply (Publishes its.addr ∷ []) (Some its) None
  DropsOne : (its : Reservation) → MovesOn place change reply (Drops its.addr ∷ []) (Some its) None
