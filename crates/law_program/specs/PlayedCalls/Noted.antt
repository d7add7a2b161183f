-- What a player notes of the lives of a run, if it keeps their history: each update as it takes effect.
use Rattle.std.specs.Prelude.{◌≡◌, ◌≢◌, ⊤, ℕ, Bool, true, List, [], ◌∷◌, ◌++◌, length, Option, Some, None, slice_get, false}
use Rattle.std.specs.FinMap.{empty}
use Rattle.law_order.specs.Below.fkv_core.Worlds.{WorldModel}
use Rattle.law_order.specs.Below.fkv_core.Event as events
use Rattle.law_order.specs.Below.fkv_core.TheTold as tells
use Rattle.fkv_map.specs.declared.history.HistoryEntry.{HistoryEntry}
use Rattle.law_order.specs.Below.fkv_opening.TheOpened.{Opened}
use Rattle.fkv_runs.specs.Below.fkv_playing.Finishes.{IsFinish, most_rounds, round_of, rounds}
use Rattle.fkv_runs.specs.Below.fkv_playing.Groups.{IsGroup}
use Rattle.fkv_runs.specs.Below.fkv_playing.Players.{PlayerState}
use Rattle.fkv_runs.specs.Below.fkv_playing.Queues.{AreQueuesOf, QueueState, rank_of}
use Rattle.fkv_runs.specs.Below.fkv_playing.ActorCall.{ActorCall}
use Rattle.fkv_runs.specs.Below.fkv_playing.Outcome.{Outcome}
use Rattle.fkv_runs.specs.Below.fkv_playing.Waits.{Waits}
use Rattle.law_order.specs.Below.fkv_world.World.{Event, Now}
use Rattle.law_order.specs.OneHistory.EachLife.{Life}
use Rattle.law_order.specs.Prefix.Law.{first_of, history_so_far, kept_of_all, map_of, points_of}
use Rattle.law_program.specs.PlayedCalls.FewCalls.{left_in}
use Rattle.law_program.specs.PlayedCalls.Interleaved.{HasGoneOn, IsLifeShown, QueuesFit}

-- ---- what is noted
-- The life goes on. If the player keeps the history, it has these updates of the lives before, and behind them the life's own, in their order of effect.
pub record IsNoted {D : Type 0} (kept : List HistoryEntry) (bytes : List ℕ) (first : Now) (life : List Event) (player : PlayerState D) : Type 0 where
  pub goes_on : player.world.now.crashed ≡ false
  pub noted : player.keeps_history ≡ true → player.history ≡ kept ++ history_so_far first bytes life

-- So it is over the lives of a run, with what the points keep of those before. The player keeps the history if the run has checks. The first life has begun empty.
pub record AreNoted {D : Type 0} (checks : Bool) (its : Life) (before : List Life) (player : PlayerState D) : Type 0 where
  pub keeps : player.keeps_history ≡ checks
  pub life : IsNoted (kept_of_all (points_of its) before) its.bytes its.world its.events player
  pub from_nothing : map_of (first_of its before) ≡ empty

-- ---- calls
-- these calls are one actor's
abbrev pub AreOf : ℕ → List ActorCall → Type 0
AreOf rank [] = ⊤
AreOf rank (call ∷ later) = (rank_of call ≡ rank) × AreOf rank later

-- Queues have no call in hand. Each has calls of one actor, and no two of the same.
pub record AreIdle (queues : List QueueState) : Type 0 where
  pub idle : (at : ℕ) (queue : QueueState) → slice_get queues at ≡ Some queue → queue.hand ≡ None
  pub own : (at : ℕ) (queue : QueueState) → slice_get queues at ≡ Some queue → AreOf queue.rank queue.left
  pub apart : (at other : ℕ) (one its : QueueState) → at ≢ other → slice_get queues at ≡ Some one → slice_get queues other ≡ Some its → one.rank ≢ its.rank

-- so have those with which a group begins
abbrev pub CallsMakeIdleQueues : Type 0
CallsMakeIdleQueues = (calls : List ActorCall) (queues : List QueueState) → AreQueuesOf calls queues → AreIdle queues

-- ---- beats
-- The life has gone on, and the player has noted it. No call is left in hand.
pub record HasNotedOn {D : Type 0} (seen : D → List ℕ) (may_leave : D → List ℕ → Type 0) (kept : List HistoryEntry) (bytes : List ℕ) (o : Opened) (first : Now) (life : List Event) (to_begin : ℕ) (before after : PlayerState D) (queues left : List QueueState) : Type 0 where
  pub gone : HasGoneOn seen may_leave bytes o first life to_begin before after queues left
  pub keeps : after.keeps_history ≡ before.keeps_history
  pub noted : IsNoted kept bytes first gone.later after
  pub idle : AreIdle left

-- so it is by each group of calls, up to its end or to a crash
abbrev pub GroupsAreNoted : {D : Type 0} → (D → List ℕ) → (D → List ℕ → Type 0) → (events.Event → WorldModel D → WorldModel D → Option tells.Told → Bool → Type 0) → Type 0
GroupsAreNoted {D} seen may_leave engine =
    (kept : List HistoryEntry) (bytes : List ℕ) (o : Opened) (first : Now) (life : List Event) (before after : PlayerState D) (queues left : List QueueState) (struck : Bool) (text : List ℕ)
    → IsLifeShown seen may_leave bytes o first life before → IsNoted kept bytes first life before → QueuesFit queues → AreIdle queues
    → IsGroup engine (record { player = before; queues = queues }) (record { player = after; queues = left }) struck text
    → HasNotedOn seen may_leave kept bytes o first life (left_in queues) before after queues left

-- and by each finish
abbrev pub FinishesAreNoted : {D : Type 0} → (D → List ℕ) → (D → List ℕ → Type 0) → (events.Event → WorldModel D → WorldModel D → Option tells.Told → Bool → Type 0) → Type 0
FinishesAreNoted {D} seen may_leave engine =
    (kept : List HistoryEntry) (bytes : List ℕ) (o : Opened) (first : Now) (life : List Event) (before after : PlayerState D) (outcome : Outcome) (text : List ℕ)
    → IsLifeShown seen may_leave bytes o first life before → IsNoted kept bytes first life before → IsFinish engine before after outcome text
    → HasNotedOn seen may_leave kept bytes o first life (length (rounds most_rounds (round_of before.seats))) before after [] []

-- a line that fails a device, or crashes it, changes nothing of it, nor whether turns sweep
pub record KeepsNotes {D : Type 0} (before after : PlayerState D) : Type 0 where
  pub now : after.world.now ≡ before.world.now
  pub history : after.history ≡ before.history
  pub keeps : after.keeps_history ≡ before.keeps_history
  pub sweeps : after.sweeps ≡ before.sweeps

abbrev pub ArmsKeepNotes : {D : Type 0} → (ℕ → Waits → PlayerState D → PlayerState D → Type 0) → Type 0
ArmsKeepNotes {D} armed = (count : ℕ) (waits : Waits) (before after : PlayerState D) → armed count waits before after → KeepsNotes before after
