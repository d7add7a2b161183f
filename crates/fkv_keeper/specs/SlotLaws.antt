-- What the slot of a commit names as its writes begin: all of its lost ranges, a point for each session, and where its log begins.
use Rattle.std.specs.Prelude.{◌≡◌, ◌≤◌, ◌<◌, ◌⊎◌, length, true, None, Some}
use Rattle.fkv_base.specs.Limits.{max_sessions, last_of}
use Rattle.fkv_base.specs.declared.shapes.Shape.{Shape}
use Rattle.fkv_marks.specs.Window.{InWindow}
use Rattle.fkv_record.specs.Manifest.{SlotSaid, newest_bytes}
use Rattle.fkv_commit.specs.declared.commits.Commit.{Commit}
use Rattle.fkv_base.specs.declared.commits.CommitKind.TheVariants.{Log}
use Rattle.fkv_commit.specs.Starting.{max_lost}
use Rattle.fkv_manifest.specs.Kept.{IsSlotOf}
use Rattle.fkv_maintain.specs.Parts.{ReadsAbove}
use Rattle.fkv_keeper.specs.declared.keepers.Keeping.TheVariants.{Sweeps}
use Rattle.fkv_keeper.specs.Keeping.{KeeperState, is_swept, lost_left}

-- A version follows that of the commit in hand. Where that is a log commit, its slot has room for all lost ranges in hand, and it lies in the window of the
-- checkpoint in force.
pub record HasRoom (s : KeeperState) (c : Commit) : Type 0 where
  pub follows : c.number.0 < last_of s.start.asked.class
  pub lost : c.kind ≡ Log → length s.lost ≤ max_lost
  pub in_window : c.kind ≡ Log → InWindow s.start.asked.class s.last.checkpoint.number.0 c.number.0

abbrev pub CommitHasRoom : KeeperState → Type 0
CommitHasRoom s = (c : Commit) → s.commit ≡ Some c → HasRoom s c

-- The slot says what the newest format can hold, and none of the commit's lost ranges is left out. So it is read back as a slot of its number.
pub record IsSlotWhole (shape : Shape) (s a : KeeperState) : Type 0 where
  pub commit : Commit
  pub in_hand : s.commit ≡ Some commit
  pub said : SlotSaid
  pub spelled : a.writes.gate.slot ≡ newest_bytes said
  pub number : said.number ≡ commit.number.0
  pub begin : said.begin ≡ commit.begin
  pub points : length said.points ≡ shape.sessions
  pub few_points : length said.points ≤ max_sessions
  pub lost : said.lost ≡ lost_left commit.kind s.lost
  pub few_lost : length said.lost ≤ max_lost
  pub named : IsSlotOf commit.number.0 a.writes.gate.slot

-- A sweep is done. It began where the log of the newest finished commit does, and the log of this commit begins at its end. That is at or below the first
-- address of the checkpoint in force, and of the commit itself.
pub record HasMoved (s : KeeperState) (c : Commit) : Type 0 where
  pub swept : is_swept s.sweep ≡ true
  pub from : s.sweep.from ≡ s.last.begin
  pub to : c.begin ≡ s.sweep.to
  pub on : s.last.begin.0 ≤ c.begin.0
  pub in_force : c.begin.0 ≤ s.last.checkpoint.first.0
  pub before : c.begin.0 ≤ c.first.0

-- Mailboxes are served of the log of the newest finished commit, and a read for one is at or above that log's begin. A sweep begins there too; or it is
-- done, and that log begins at its end. While a sweep's turn is in hand no commit is. A commit's log begins where that of the newest finished one
-- does, or it has moved on.
pub record HasBegin (s : KeeperState) : Type 0 where
  pub serves : s.maintain.begin ≡ s.last.begin
  pub reads : ReadsAbove s.maintain
  pub on : s.sweep.from.0 ≤ s.sweep.to.0
  pub sweeps : (s.sweep.from ≡ s.last.begin) ⊎ ((is_swept s.sweep ≡ true) × (s.sweep.to ≡ s.last.begin))
  pub alone : s.step ≡ Sweeps → s.commit ≡ None
  pub from : s.step ≡ Sweeps → s.sweep.from ≡ s.last.begin
  pub commit : (c : Commit) → s.commit ≡ Some c → (c.begin ≡ s.last.begin) ⊎ HasMoved s c
