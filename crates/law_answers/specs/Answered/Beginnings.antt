-- What the law of `beginnings` says.
use Rattle.std.specs.Prelude.{◌≡◌, ◌↔◌, [], ℕ, List}
use Rattle.law_answers.specs.Answered.Lives.{IsOfLife}
use Rattle.law_opening.specs.Below.fkv_core.Openings.{IsOpeningWorld, beginning}
use Rattle.law_opening.specs.Below.fkv_core.Worlds.{WorldModel}
use Rattle.fkv_disk.specs.Device.{LeavesOnly}
use Rattle.law_opening.specs.Below.fkv_opening.TheOpened.{Opened}
use Rattle.fkv_disk.specs.Quiet.{IsQuiet}

-- with a world over an honest device of which a crash leaves just what is read begins a life
abbrev pub SyncedBeginsALife : {D : Type 0} → (D → Type 0) → (D → List ℕ) → (D → List ℕ → Type 0) → D → Type 0
SyncedBeginsALife {D} honest seen may_leave device =
    (o : Opened) (world : WorldModel D) → honest device → LeavesOnly (seen device) (may_leave device)
    → IsOpeningWorld o world.now → world.device ≡ device
    → IsOfLife honest seen may_leave (beginning world.now (seen device)) o.tail.0 [] world

-- so it is behind recovery over a device that was honest
abbrev pub RecoveredBeginsALife : {D : Type 0} → (D → Type 0) → (D → List ℕ) → (D → List ℕ → Type 0) → (D → ℕ) → (D → ℕ → List ℕ → Type 0) → (D → ℕ) → D → Type 0
RecoveredBeginsALife {D} honest seen may_leave moment left_since failed device =
    (before : D) (o : Opened) (world : WorldModel D) → honest before → IsQuiet honest seen may_leave moment left_since failed before device
    → LeavesOnly (seen before) (may_leave device) → IsOpeningWorld o world.now → world.device ≡ device
    → IsOfLife honest seen may_leave (beginning world.now (seen before)) o.tail.0 [] world

-- and behind the creation of a store over one
abbrev pub CreatedBeginsALife : {D : Type 0} → (D → Type 0) → (D → List ℕ) → (D → List ℕ → Type 0) → D → Type 0
CreatedBeginsALife {D} honest seen may_leave device =
    (before : D) (o : Opened) (world : WorldModel D) → honest before → (honest before ↔ honest device)
    → LeavesOnly (seen device) (may_leave device) → IsOpeningWorld o world.now → world.device ≡ device
    → IsOfLife honest seen may_leave (beginning world.now (seen device)) o.tail.0 [] world
