-- What an image has of the newest finished commit, and of the one that is written.
use Rattle.std.specs.Prelude.{◌≡◌, ◌⊎◌, ℕ, ◌*◌, ◌≤◌, List, length, [], ◌∷◌, Bool, true, false, Option, Some, None}
use Rattle.fkv_base.specs.declared.shapes.Shape.{Shape}
use Rattle.fkv_record.specs.Places.{most_triples, area_place}
use Rattle.fkv_disk.specs.Bytes.{bytes_at}
use Rattle.fkv_plane.specs.declared.places.Places.{Places}
use Rattle.fkv_commit.specs.declared.commits.Commit.{Commit}
use Rattle.fkv_base.specs.declared.commits.CommitKind.{CommitKind}
use Rattle.fkv_base.specs.declared.commits.CommitKind.TheVariants.{Full, Log}
use Rattle.fkv_manifest.specs.Committing.{CommitWriter}
use Rattle.fkv_manifest.specs.Kept.{NewStands}
use Rattle.fkv_manifest.specs.Newest.{slot_in, newest}
use Rattle.fkv_keeper.specs.declared.answers.KeeperTold.TheVariants.{Turned}
use Rattle.fkv_keeper.specs.declared.keepers.Keeping.{Keeping}
use Rattle.fkv_keeper.specs.declared.keepers.Keeping.TheVariants.{Ended, Writes, Finishes}
use Rattle.fkv_keeper.specs.declared.last_commits.Checkpoint.{Checkpoint}
use Rattle.fkv_keeper.specs.Keeping.{Finality, KeeperState}
use Rattle.fkv_keeper.specs.KeeperRun.{KeeperEvent, keeper_run, writing}
use Rattle.fkv_keeper.specs.LastCommits.{area_number, slot_place}
use Rattle.law_world.specs.Standing.Opening.{IsBehind}

-- the bytes of a finished commit's slot, and those of the triples of the checkpoint that it uses
pub record Standing : Type 0 where
  pub slot : List ℕ
  pub triples : List ℕ

-- the bytes of a checkpoint's triples, sixteen for each
abbrev pub triples_in : Shape → List ℕ → Checkpoint → List ℕ
triples_in shape image its = bytes_at image (area_place shape (area_number its.area)) (16 * its.triples)

-- as the store was opened
abbrev pub standing_opened : Shape → List ℕ → Finality → Standing
standing_opened shape opened last = record { slot = slot_in opened (slot_place last.number); triples = triples_in shape opened last.checkpoint }

-- a full commit uses the triples that it has written, and a log commit those that stood
abbrev pub triples_used : CommitKind → List ℕ → List ℕ → List ℕ
triples_used Full written stood = written
triples_used Log written stood = stood

abbrev pub triples_left : Option Commit → List ℕ → List ℕ → List ℕ
triples_left None written stood = stood
triples_left (Some c) written stood = triples_used c.kind written stood

-- once a commit is finished its slot stands as it was written
abbrev pub standing_after : Keeping → Keeping → Option Commit → CommitWriter → Standing → Standing
standing_after Finishes (Ended (Turned true full)) commit first was = record { slot = first.gate.slot; triples = triples_left commit first.triples was.triples }
standing_after step after commit first was = was

-- what stands of the newest finished commit after these events
unfoldable pub standing : Shape → Places → List ℕ → KeeperState → List KeeperEvent → Standing
standing shape p opened opening [] = standing_opened shape opened opening.last
standing shape p opened opening (event ∷ before) =
    standing_after (keeper_run shape p opening before).step (keeper_run shape p opening (event ∷ before)).step (keeper_run shape p opening before).commit (writing shape p opening before).first (standing shape p opened opening before)

-- the writes of a commit are under way from their start until it is finished, and for good where a call of them fails
abbrev pub is_writing_after : Keeping → Bool → Bool
is_writing_after Writes was = true
is_writing_after Finishes was = true
is_writing_after (Ended (Turned true full)) was = false
is_writing_after step was = was

unfoldable pub is_writing : Shape → Places → KeeperState → List KeeperEvent → Bool
is_writing shape p opening [] = false
is_writing shape p opening (event ∷ before) = is_writing_after (keeper_run shape p opening (event ∷ before)).step (is_writing shape p opening before)

-- as long as no call has failed they are under way where the keeper has come to these steps, and nowhere else
abbrev pub is_at_writes : Keeping → Bool
is_at_writes Writes = true
is_at_writes Finishes = true
is_at_writes step = false

-- the newest finished commit is in force, and its slot is as it was written
pub record IsInForce (last : Finality) (its : Standing) (image : List ℕ) : Type 0 where
  pub in_force : newest image ≡ Some (slot_place last.number)
  pub slot : slot_in image (slot_place last.number) ≡ its.slot

-- while a commit is written it may be in force already, whole and with its triples
abbrev pub IsOneInForce : Bool → Finality → Standing → CommitWriter → List ℕ → Type 0
IsOneInForce false last its new image = IsInForce last its image
IsOneInForce true last its new image = IsInForce last its image ⊎ NewStands new image

-- the triples of a checkpoint stand, fit into their area, and the image reaches up to them
pub record TriplesStand (shape : Shape) (checkpoint : Checkpoint) (its : Standing) (image : List ℕ) : Type 0 where
  pub same : triples_in shape image checkpoint ≡ its.triples
  pub fit : checkpoint.triples ≤ most_triples shape
  pub long : IsBehind shape checkpoint (length image)
