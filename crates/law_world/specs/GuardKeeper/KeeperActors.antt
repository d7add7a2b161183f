-- Which of the guard's actors works for the keeper. A flush that rests is the first one's still, and all else that the keeper does then is the second one's.
use Rattle.std.specs.Prelude.{ℕ, suc, if◌then◌else◌, Bool, false, Option, Some, None}
use Rattle.fkv_flush.specs.GuardWorld.{Work, Flushes}
use Rattle.fkv_maintain.specs.declared.maintaining.Maintaining.{Maintaining}
use Rattle.fkv_maintain.specs.declared.maintaining.Maintaining.TheVariants as maintain
use Rattle.fkv_maintain.specs.Maintaining.{MaintainState, is_flush_resting}
use Rattle.fkv_keeper.specs.declared.keepers.Keeping.{Keeping}
use Rattle.fkv_keeper.specs.declared.keepers.Keeping.TheVariants as keeping
use Rattle.fkv_keeper.specs.Keeping.{KeeperState}

-- a flush rests, while a turn isn't in its part
abbrev pub maintaining_aside : MaintainState → Maintaining → Bool
maintaining_aside s maintain.Flushes = false
maintaining_aside s step = is_flush_resting s

abbrev pub keeping_aside : KeeperState → Keeping → Bool
keeping_aside s keeping.Maintains = maintaining_aside s.maintain s.maintain.step
keeping_aside s step = is_flush_resting s.maintain

abbrev pub is_aside : KeeperState → Bool
is_aside s = keeping_aside s s.step

-- the actor that works, of the two from this number on
abbrev pub actor_by : ℕ → Bool → ℕ
actor_by k aside = if aside then suc k else k

abbrev pub keeper_actor : ℕ → KeeperState → ℕ
keeper_actor k s = actor_by k (is_aside s)

-- the other one, and what it is at: the flush that rests, or nothing
abbrev pub other_by : ℕ → Bool → ℕ
other_by k aside = if aside then k else suc k

abbrev pub other_actor : ℕ → KeeperState → ℕ
other_actor k s = other_by k (is_aside s)

abbrev pub work_by : Bool → MaintainState → Option Work
work_by aside m = if aside then Some (Flushes m.flushing m.bytes) else None

abbrev pub aside_work : KeeperState → Option Work
aside_work s = work_by (is_aside s) s.maintain
