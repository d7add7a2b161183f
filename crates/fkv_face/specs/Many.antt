-- Calls of many keys.
use Rattle.std.specs.Prelude.{◌≡◌, ◌≢◌, ◌⊎◌, ◌<◌, ℕ, ℤ, pos, neg_ℤ, List, [], ◌∷◌, length, Option, Some, None}
pub use Rattle.std.specs.List.{zip}
pub use Rattle.std.specs.Prelude.{length}
use Rattle.fkv_map.specs.declared.merges.Merge.{Merge}
use Rattle.fkv_map.specs.declared.operations.Op.{Op}
use Rattle.fkv_handles.specs.Below.fkv_world.Runs.{World}
use Rattle.fkv_handles.specs.declared.sessions.Session.{Session}
use Rattle.fkv_handles.specs.Handles.{Opening}
use Rattle.fkv_face.specs.declared.many.EachRead.{EachRead}
use Rattle.fkv_face.specs.declared.many.EachUpdate.{EachUpdate}
use Rattle.fkv_face.specs.declared.many.Kind.{Kind}
use Rattle.fkv_face.specs.declared.many.Kind.TheVariants as kind
pub use Rattle.fkv_face.specs.Calls.{IsRead, IsUpdated, add_of, merge_numbered, merge_of, upsert_of}
pub use Rattle.fkv_handles.specs.Below.fkv_threads.Models.{opening}

-- what an update of this kind makes of a key and a number
abbrev pub making : Kind → ℕ → ℕ → Op
making kind.Upsert = upsert_of
making kind.Add = add_of
making (kind.Merge which) = merge_of which

-- One call behind the other: each goes on from where the one before has left the session, and its answer stands at its place. Behind the answers the
-- room is as it was.
abbrev pub AreCalled : {A : Type 0} {T : Type 0} → (Session → A → T → Session → Type 0) → Session → List A → List T → List T → Session → Type 0
AreCalled one before [] room room' after = (room' ≡ room) × (after ≡ before)
AreCalled one before (its ∷ calls) [] room' after = ⊥
AreCalled one before (its ∷ calls) (old ∷ room) [] after = ⊥
AreCalled one before (its ∷ calls) (old ∷ room) (told ∷ room') after = (between : Session) × one before its told between × AreCalled one between calls room room' after

-- Where something is lacking nothing is done; else each call is.
pub record IsMany {A T : Type 0} (one : Session → A → T → Session → Type 0) (lacks : Type 0) (before : Session) (calls : List A) (result : ℤ) (room room' : List T) (after : Session) : Type 0 where
  pub small : lacks → (result ≡ neg_ℤ (pos 24)) × (room' ≡ room) × (after ≡ before)
  pub called : ¬ lacks → (result ≡ pos 0) × AreCalled one before calls room room' after

module _ (at : Opening → World) where
  -- one read of many
  abbrev pub IsEachRead : Session → ℕ → EachRead → Session → Type 0
  IsEachRead before key told after = IsRead at before key told.result told.value after

  -- one update of many, of a key and its number
  abbrev pub IsEachUpdate : (ℕ → ℕ → Op) → Session → (ℕ × ℕ) → EachUpdate → Session → Type 0
  IsEachUpdate make before its told after = IsUpdated at before (make its.0 its.1) told.result (record { serial = told.serial; value = told.value; reason = told.reason }) after

  -- the reads of these keys, unless there are fewer places
  abbrev pub AreRead : Session → List ℕ → ℤ → List EachRead → List EachRead → Session → Type 0
  AreRead before keys result room room' after = IsMany IsEachRead (length room < length keys) before keys result room room' after

  -- the updates of these keys by these numbers, unless there are other than as many numbers, or fewer places
  abbrev pub AreUpdated : (ℕ → ℕ → Op) → Session → List ℕ → List ℕ → ℤ → List EachUpdate → List EachUpdate → Session → Type 0
  AreUpdated make before keys numbers result room room' after =
      IsMany (IsEachUpdate make) ((length numbers ≢ length keys) ⊎ (length room < length keys)) before (zip keys numbers) result room room' after

  -- the same by a merge; where there is no such merge, nothing is done
  abbrev pub AreMerged : Option Merge → Session → List ℕ → List ℕ → ℤ → List EachUpdate → List EachUpdate → Session → Type 0
  AreMerged (Some which) before keys numbers result room room' after = AreUpdated (merge_of which) before keys numbers result room room' after
  AreMerged None before keys numbers result room room' after = (result ≡ neg_ℤ (pos 26)) × (room' ≡ room) × (after ≡ before)
