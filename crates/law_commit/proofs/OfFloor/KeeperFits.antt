-- What the keeper knows of the raises for its commit, of the addresses that go with them, and of what is safe.
use Rattle.std.specs.Prelude.{◌≡◌, ◌<◌, ◌≤◌, ⊤, ℕ, Bool, true, Option, Some, None}
use Rattle.law_refine.specs.Below.fkv_commit.Commit.{Commit}
use Rattle.law_refine.specs.Below.fkv_commit.DeferAnswer.TheVariants.{Armed}
use Rattle.law_refine.specs.Below.fkv_commit.TheDeferring.{Deferring}
use Rattle.law_refine.specs.Below.fkv_commit.TheDeferring.TheVariants as defer
use Rattle.law_refine.specs.Below.fkv_commit.TheEntering.{Entering}
use Rattle.law_refine.specs.Below.fkv_commit.TheEntering.TheVariants as enter
use Rattle.law_refine.specs.Below.fkv_commit.SeekAnswer.TheVariants.{Taken}
use Rattle.law_refine.specs.Below.fkv_commit.TheSeeking.{Seeking}
use Rattle.law_refine.specs.Below.fkv_commit.TheSeeking.TheVariants as seek
use Rattle.law_refine.specs.Below.fkv_commit.StartAnswer.TheVariants.{Begun}
use Rattle.law_refine.specs.Below.fkv_commit.TheStarting.{Starting}
use Rattle.law_refine.specs.Below.fkv_commit.TheStarting.TheVariants as start
use Rattle.law_refine.specs.Below.fkv_commit.WaitAnswer.TheVariants.{Flushed}
use Rattle.law_refine.specs.Below.fkv_commit.TheWaiting.{Waiting}
use Rattle.law_refine.specs.Below.fkv_commit.TheWaiting.TheVariants as waiting
use Rattle.law_refine.specs.Below.fkv_commit.Entering.{EnterState}
use Rattle.law_refine.specs.Below.fkv_commit.Seeking.{SeekState}
use Rattle.law_refine.specs.Below.fkv_commit.Starting.{StartState}
use Rattle.law_refine.specs.Below.fkv_commit.Waiting.{WaitState}
use Rattle.law_refine.specs.Below.fkv_keeper.TheKeeping.{Keeping}
use Rattle.law_refine.specs.Below.fkv_keeper.TheKeeping.TheVariants.{Starts, Enters, Seeks, Waits, Writes, Finishes}
use Rattle.law_refine.specs.Below.fkv_keeper.Keeping.{KeeperState}
use Rattle.law_paper.specs.Phases as paper

-- the raises, the tail and what is safe; the epoch before a step, and behind its ask
pub record Ground : Type 0 where
  pub raises : paper.Raises
  pub tail : ℕ
  pub safe : ℕ
  pub before : ℕ
  pub epoch : ℕ

-- the epoch was raised for the commit's end, from this one, with this end
pub record IsEnding (r : paper.Raises) (end epoch : ℕ) : Type 0 where
  pub some : 0 < r.ending
  pub epoch_is : epoch ≡ r.ending
  pub end_is : end ≡ r.end

abbrev pub IsSafeEnding : Ground → Type 0
IsSafeEnding g = (0 < g.raises.ending) × (g.raises.ending ≤ g.safe)

-- of a deferral: before the raise, behind it, and once its action is put
abbrev pub DeferFits : Type 0 → (ℕ → Type 0) → (ℕ → Type 0) → Deferring → Type 0
DeferFits A B C (defer.Raises its) = A
DeferFits A B C (defer.Puts its slot epoch) = B epoch
DeferFits A B C (defer.Arms epoch) = C epoch
DeferFits A B C (defer.Ended (Armed epoch)) = C epoch
DeferFits A B C step = ⊤

abbrev pub ProgressFits : Ground → ℕ → Deferring → Type 0
ProgressFits g first step = DeferFits (first ≤ g.tail) (λ epoch. (first ≤ g.tail) × (g.before < g.epoch)) (λ epoch. first ≡ g.raises.first) step

abbrev pub PendingFits : Ground → Deferring → Type 0
PendingFits g step = DeferFits ⊤ (λ epoch. g.before < g.epoch) (λ epoch. ⊤) step

abbrev pub EndingFits : Ground → ℕ → Deferring → Type 0
EndingFits g end step =
    DeferFits ((g.raises.ending ≡ 0) × (end ≤ g.tail)) (λ epoch. (g.raises.ending ≡ 0) × (end ≤ g.tail) × (g.before < g.epoch) × (epoch ≡ g.before)) (λ epoch. IsEnding g.raises end epoch) step

-- as a commit starts none is in hand
abbrev pub StartFits : Ground → Option Commit → StartState → Starting → Type 0
StartFits g commit s (start.LoadsTail its) = commit ≡ None
StartFits g commit s (start.Defers its first) = (commit ≡ None) × ProgressFits g first.0 s.defer.step
StartFits g commit s (start.Ended (Begun its first)) = first.0 ≡ g.raises.first
StartFits g commit s step = ⊤

abbrev pub EnterFits : Ground → EnterState → Entering → Type 0
EnterFits g s enter.Defers = PendingFits g s.defer.step
EnterFits g s step = ⊤

abbrev pub SeekFits : Ground → SeekState → Seeking → Type 0
SeekFits g s seek.LoadsTail = g.raises.ending ≡ 0
SeekFits g s (seek.RaisesReadOnly end) = (g.raises.ending ≡ 0) × (end.0 ≤ g.tail)
SeekFits g s (seek.Defers end) = EndingFits g end.0 s.defer.step
SeekFits g s (seek.Ended (Taken end epoch)) = IsEnding g.raises end.0 epoch
SeekFits g s step = ⊤

abbrev pub WaitFits : Ground → WaitState → Waiting → Type 0
WaitFits g s waiting.LoadsSafe = IsEnding g.raises s.end.0 s.epoch
WaitFits g s waiting.LoadsFlushed = IsSafeEnding g
WaitFits g s (waiting.Ended Flushed) = IsSafeEnding g
WaitFits g s step = ⊤

abbrev pub KeepingFits : Ground → KeeperState → Keeping → Type 0
KeepingFits g s Starts = StartFits g s.commit s.start s.start.step
KeepingFits g s Enters = EnterFits g s.enter s.enter.step
KeepingFits g s Seeks = SeekFits g s.seek s.seek.step
KeepingFits g s Waits = (s.has_points ≡ true) × WaitFits g s.wait s.wait.step
KeepingFits g s Writes = (s.has_points ≡ true) × IsSafeEnding g
KeepingFits g s Finishes = (s.has_points ≡ true) × IsSafeEnding g
KeepingFits g s step = ⊤

-- the commit in hand has the first address of its raise, and, once its points are taken, the end and the epoch of the last one; that is safe where its writes
-- rest
pub record HandFits (g : Ground) (commit : Option Commit) (has_points resting : Bool) : Type 0 where
  pub first : (c : Commit) → commit ≡ Some c → c.first.0 ≡ g.raises.first
  pub points : (c : Commit) → commit ≡ Some c → has_points ≡ true → IsEnding g.raises c.end.0 c.epoch
  pub rests : resting ≡ true → (has_points ≡ true) × IsSafeEnding g

pub record KeeperFits (g : Ground) (s : KeeperState) : Type 0 where
  pub hand : HandFits g s.commit s.has_points s.rests
  pub step : KeepingFits g s s.step
