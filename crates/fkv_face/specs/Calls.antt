-- What a session's exports tell.
use Rattle.std.specs.Prelude.{◌≡◌, ◌==◌, cond, ℕ, ℤ, Option, Some, None, Result, Ok, Err, pos, neg_ℤ}
use Rattle.fkv_base.specs.declared.faults.Fault.{Fault}
use Rattle.fkv_base.specs.declared.numbers.Serial.{Serial}
use Rattle.fkv_map.specs.declared.merges.Merge.{Merge}
use Rattle.fkv_map.specs.declared.merges.Merge.TheVariants as merge
use Rattle.fkv_map.specs.declared.operations.Call.{Call}
use Rattle.fkv_map.specs.declared.operations.Call.TheVariants as call
use Rattle.fkv_map.specs.declared.operations.Op.{Op}
use Rattle.fkv_map.specs.declared.operations.Op.TheVariants as op
use Rattle.fkv_handles.specs.Below.fkv_world.Runs.{World}
use Rattle.fkv_handles.specs.declared.sessions.Session.{Session}
use Rattle.fkv_handles.specs.Handles.{Opening, keys_of}
use Rattle.fkv_handles.specs.Sittings.{HaveMet, IsLastSerial}
use Rattle.fkv_face.specs.declared.sessions.Seen.{Seen}
use Rattle.fkv_face.specs.declared.sessions.Update.{Update}
use Rattle.fkv_face.specs.declared.told.Numbers.{Numbers}
use Rattle.fkv_face.specs.Numbers.{fault_told}
pub use Rattle.fkv_face.specs.Told.{IsToldIn, HasAnswered}
pub use Rattle.fkv_handles.specs.Below.fkv_threads.Models.{opening}
pub use Rattle.fkv_handles.specs.Handles.{sitting_of}
pub use Rattle.fkv_handles.specs.Sittings.{AreOfOneStore}
pub use Rattle.fkv_map.specs.declared.operations.Call.TheVariants.{Op as Operation}

abbrev pub upsert_of : ℕ → ℕ → Op
upsert_of key value = op.Upsert (record { 0 = key }) (record { 0 = value })

abbrev pub add_of : ℕ → ℕ → Op
add_of key number = op.Add (record { 0 = key }) number

abbrev pub max_of : ℕ → ℕ → Op
max_of key number = op.Max (record { 0 = key }) number

-- the merges by their numbers, and none where the number is none's
abbrev pub merge_numbered : ℕ → Option Merge
merge_numbered number =
    cond (number == 0) (Some merge.Keep) (cond (number == 1) (Some merge.Min) (cond (number == 2) (Some merge.Sub) (
    cond (number == 3) (Some merge.And) (cond (number == 4) (Some merge.Or) (cond (number == 5) (Some merge.First) None)))))

abbrev pub merge_of : Merge → ℕ → ℕ → Op
merge_of which key number = op.Merge (record { 0 = key }) which number

abbrev pub keep_of : ℕ → Op
keep_of key = merge_of merge.Keep key 0

abbrev pub delete_of : ℕ → Op
delete_of key = op.Delete (record { 0 = key })

abbrev pub read_of : ℕ → Op
read_of key = op.Read (record { 0 = key })

abbrev pub refresh : Call
refresh = call.Refresh

abbrev pub sleep : Call
sleep = call.Sleep

abbrev pub wake : Call
wake = call.Wake

abbrev pub durable : Call
durable = call.Durable

abbrev pub poll : Call
poll = call.Poll

-- nothing but a fault is told
abbrev pub plain_told : Result (Unit {0}) Fault → ℤ
plain_told (Ok its) = pos 0
plain_told (Err why) = fault_told why

-- a serial as C is told it, or minus the number of the fault, and 0
abbrev pub IsSerialAs : Result Serial Fault → ℤ → ℕ → Type 0
IsSerialAs (Ok serial) result number = (result ≡ pos 0) × (number ≡ serial.0)
IsSerialAs (Err why) result number = (result ≡ fault_told why) × (number ≡ 0)

module _ (at : Opening → World) where
  -- a call that tells nothing but its result
  abbrev pub IsPlain : Session → Call → ℤ → Session → Type 0
  IsPlain before its result after = (told : Numbers) × IsToldIn at before its told after × (result ≡ told.result)

  -- one that tells a number
  abbrev pub IsOneNumber : Session → Call → ℤ → ℕ → Session → Type 0
  IsOneNumber before its result number after = (told : Numbers) × IsToldIn at before its told after × (result ≡ told.result) × (number ≡ told.first)

  -- the last serial that the session has given
  abbrev pub IsSerialTold : Session → ℤ → ℕ → Type 0
  IsSerialTold session result number = (its : Result Serial Fault) × IsLastSerial at (sitting_of session) its × IsSerialAs its result number

  -- a read
  abbrev pub IsRead : Session → ℕ → ℤ → ℕ → Session → Type 0
  IsRead before key result value after = IsOneNumber before (call.Op (read_of key)) result value after

  -- one that tells phase and version
  abbrev pub IsSeen : Session → Call → ℤ → Seen → Session → Type 0
  IsSeen before its result seen after = (told : Numbers) × IsToldIn at before its told after × (result ≡ told.result) × (seen ≡ record { phase = told.first; version = told.second })

  -- Two sessions have met, or a handle was ended; their keys lie as before.
  pub record IsMet (one other : Session) (result : ℤ) (one' other' : Session) : Type 0 where
    pub its : Result (Unit {0}) Fault
    pub met : HaveMet at (sitting_of one) (sitting_of other) its (sitting_of one') (sitting_of other')
    pub keys : (keys_of one' ≡ keys_of one) × (keys_of other' ≡ keys_of other)
    pub told : result ≡ plain_told its

  -- an update
  abbrev pub IsUpdated : Session → Op → ℤ → Update → Session → Type 0
  IsUpdated before its result update after =
      (told : Numbers) × IsToldIn at before (call.Op its) told after × (result ≡ told.result) × (update ≡ record { serial = told.first; value = told.second; reason = told.third })

  -- the update by a merge; where there is no such merge, nothing is done and nothing told
  abbrev pub IsMerged : Session → Option Merge → ℕ → ℕ → ℤ → Update → Update → Session → Type 0
  IsMerged before (Some which) key number result update update' after = IsUpdated before (merge_of which key number) result update' after
  IsMerged before None key number result update update' after = (result ≡ neg_ℤ (pos 26)) × (update' ≡ update) × (after ≡ before)
