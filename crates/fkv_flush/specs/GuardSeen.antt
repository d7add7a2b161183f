-- What sessions have seen of the offsets, and what each action that waits relies on.
use Rattle.std.specs.Prelude.{ℕ, ◌<◌, ◌≤◌, ⊤}
use Rattle.fkv_plane.specs.declared.actions.Action.{Action}
use Rattle.fkv_plane.specs.declared.actions.Action.TheVariants as act
use Rattle.fkv_epoch.specs.EpochWorld.{Sight, OfReadOnly, OfHead, Loads}
use Rattle.fkv_flush.specs.GuardLevels.{Levels}

-- the offsets that a session loaded last
pub record LastSeen : Type 0 where
  pub read_only : ℕ
  pub head : ℕ

-- What a session goes by is safe: nothing at or above the read-only offset that it has seen is flushed, and no frame at or
-- above the head that it has seen is used again.
pub record SeenIsSafe (l : Levels) (counts : ℕ → Sight → Type 0) (seen : ℕ → LastSeen) : Type 0 where
  pub read_only : (session : ℕ) → counts session OfReadOnly → l.safe_read_only ≤ (seen session).read_only
  pub head : (session : ℕ) → counts session OfHead → l.closed ≤ (seen session).head
  pub read_only_below : (session : ℕ) → (seen session).read_only ≤ l.read_only
  pub head_below : (session : ℕ) → (seen session).head ≤ l.head

-- what an action raises another offset to is what this one was raised to before
abbrev pub IsStored : Levels → Action → Type 0
IsStored l (act.SafeReadOnly addr) = addr.0 ≤ l.read_only
IsStored l (act.Close addr) = addr.0 ≤ l.head
IsStored l (act.Phase phase version) = ⊤

-- each session that goes by an offset which it loaded above epoch c has seen what the action relies on
abbrev pub HaveSeen : (ℕ → Sight → Type 0) → (ℕ → LastSeen) → (ℕ → Loads) → ℕ → Action → Type 0
HaveSeen counts seen loads c (act.SafeReadOnly addr) = (session : ℕ) → counts session OfReadOnly → c < (loads session).read_only → addr.0 ≤ (seen session).read_only
HaveSeen counts seen loads c (act.Close addr) = (session : ℕ) → counts session OfHead → c < (loads session).head → addr.0 ≤ (seen session).head
HaveSeen counts seen loads c (act.Phase phase version) = ⊤
