-- What is known of a store where it is opened, and of the numbers of its commits.
use Rattle.std.specs.Prelude.{◌≡◌, ℕ, ◌+◌, ◌*◌, ◌^◌, ◌<◌, ◌≤◌, ◌==◌, ⊤, List, [], ◌∷◌, length, Some, None}
use Rattle.fkv_base.specs.declared.numbers.Version.{Version}
use Rattle.fkv_base.specs.declared.shapes.Shape.{Shape}
use Rattle.fkv_record.specs.Places.{number_at, most_triples, area_place}
use Rattle.fkv_disk.specs.Bytes.{byte_at}
use Rattle.fkv_plane.specs.declared.places.Places.{Places}
use Rattle.fkv_manifest.specs.Gating.{open_gate}
use Rattle.fkv_manifest.specs.Newest.{slot_in, newest}
use Rattle.fkv_keeper.specs.declared.answers.KeeperTold.TheVariants.{Begun}
use Rattle.fkv_keeper.specs.declared.keepers.Keeping.{Keeping}
use Rattle.fkv_keeper.specs.declared.keepers.Keeping.TheVariants.{Ended, Starts}
use Rattle.fkv_keeper.specs.declared.last_commits.Checkpoint.{Checkpoint}
use Rattle.fkv_keeper.specs.Keeping.{KeeperState}
use Rattle.fkv_keeper.specs.KeeperRun.{KeeperEvent, IsOpened, keeper_run}
use Rattle.fkv_keeper.specs.LastCommits.{area_number, slot_place}

-- an end that lies behind both slots and behind the triples of a checkpoint
pub record IsBehind (shape : Shape) (its : Checkpoint) (end : ℕ) : Type 0 where
  pub slots : 1536 ≤ end
  pub triples : (k : ℕ) → k < 16 * its.triples → area_place shape (area_number its.area) + k < end

-- The keeper is told the truth of the bytes that the store was opened with: which commit is in force and its number, whether each gate
-- stands open, and its checkpoint, which lies in its area. It has not begun to copy, and its places are those of the shape.
pub record IsToldBy (shape : Shape) (p : Places) (opened : List ℕ) (opening : KeeperState) : Type 0 where
  pub is_opened : IsOpened opening
  pub in_force : newest opened ≡ Some (slot_place opening.last.number)
  pub named : number_at (slot_in opened (slot_place opening.last.number)) 8 ≡ opening.last.number.0
  pub first_gate : (byte_at opened 512 == open_gate) ≡ opening.last.gates.0
  pub second_gate : (byte_at opened 1024 == open_gate) ≡ opening.last.gates.1
  pub triples_fit : opening.last.checkpoint.triples ≤ most_triples shape
  pub long : IsBehind shape opening.last.checkpoint (length opened)
  pub no_copy : opening.copy ≡ None
  pub buckets : p.buckets ≡ 2 ^ shape.bucket_bits
  pub overflow : p.overflow ≡ shape.overflow

-- a commit that begins has the number behind the newest finished one's
abbrev pub IsNumberInTurn : Version → Keeping → Keeping → Type 0
IsNumberInTurn last Starts (Ended (Begun number)) = (number.0 ≡ last.0 + 1) × (number.0 < 2 ^ 64)
IsNumberInTurn last step after = ⊤

-- so does each of a run
unfoldable pub AreNumbersInTurn : Shape → Places → KeeperState → List KeeperEvent → Type 0
AreNumbersInTurn shape p opening [] = ⊤
AreNumbersInTurn shape p opening (event ∷ before) =
    IsNumberInTurn (keeper_run shape p opening before).last.number (keeper_run shape p opening before).step (keeper_run shape p opening (event ∷ before)).step × AreNumbersInTurn shape p opening before
