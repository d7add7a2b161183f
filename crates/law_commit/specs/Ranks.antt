-- How far the store has come through its commits, as one number.
use Rattle.std.specs.Prelude.{ℕ, ◌+◌, ◌-◌, ◌*◌, ◌/◌}
use Rattle.fkv_base.specs.declared.phases.Phase.{Phase}
use Rattle.fkv_base.specs.declared.phases.Phase.TheVariants.{Rest, Prepare, InProgress, WaitPending, WaitFlush}

-- A commit goes through five phases: it rests and prepares in its own version, and the other three are of the version that follows.
abbrev pub rank : Phase → ℕ → ℕ
rank Rest version = 5 * version
rank Prepare version = 5 * version + 1
rank InProgress version = 5 * version - 3
rank WaitPending version = 5 * version - 2
rank WaitFlush version = 5 * version - 1

-- the version of the phase at a rank
abbrev pub version_at : ℕ → ℕ
version_at rank = (rank + 3) / 5
