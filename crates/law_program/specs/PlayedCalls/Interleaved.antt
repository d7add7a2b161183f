-- A life goes on by whatever beats of calls, interleaved ones too.
use Rattle.std.specs.Prelude.{◌≡◌, ◌≢◌, ◌≤◌, ◌+◌, ⊤, ℕ, Bool, false, List, [], ◌∷◌, ◌++◌, length, Option, Some, None}
use Rattle.law_order.specs.Below.fkv_core.Openings.{IsOpeningWorld, beginning}
use Rattle.law_order.specs.Below.fkv_core.Worlds.{WorldModel}
use Rattle.law_order.specs.Below.fkv_core.Event as events
use Rattle.law_order.specs.Below.fkv_core.TheTold as tells
use Rattle.fkv_disk.specs.Device.{IsAfter}
use Rattle.law_order.specs.Below.fkv_opening.Opened.{IsStoreOf}
use Rattle.law_order.specs.Below.fkv_opening.TheOpened.{Opened}
use Rattle.fkv_runs.specs.Below.fkv_playing.Finishes.{IsFinish, most_rounds, round_of, rounds}
use Rattle.fkv_runs.specs.Below.fkv_playing.Groups.{IsGroup}
use Rattle.fkv_runs.specs.Below.fkv_playing.Players.{PlayerState}
use Rattle.fkv_runs.specs.Below.fkv_playing.Queues.{AreQueuesOf, QueueState}
use Rattle.fkv_runs.specs.Below.fkv_playing.ActorCall.{ActorCall}
use Rattle.fkv_runs.specs.Below.fkv_playing.ActorCall.TheVariants.{Trim}
use Rattle.fkv_runs.specs.Below.fkv_playing.Outcome.{Outcome}
use Rattle.fkv_runs.specs.declared.pieces.Piece.{Piece}
use Rattle.fkv_runs.specs.declared.pieces.Piece.TheVariants.{Group}
use Rattle.law_order.specs.Below.fkv_world.Runs.{run}
use Rattle.law_order.specs.Below.fkv_world.World.{Event, Now}
use Rattle.law_order.specs.Served.Fits.{CallsFit}
use Rattle.law_order.specs.Tickets.Few.{HasFewCalls, calls_in}
use Rattle.law_program.specs.PlayedCalls.EachLine.{IsLifeOver, IsUnswept, ItsNumbersFit}
use Rattle.law_program.specs.PlayedCalls.FewCalls.{left_in}

-- A life of a store that these bytes hold shows the player's world and its device, whatever calls are in hand. As it begins, turns don't sweep.
pub record IsLifeShown {D : Type 0} (seen : D → List ℕ) (may_leave : D → List ℕ → Type 0) (bytes : List ℕ) (o : Opened) (first : Now) (life : List Event) (player : PlayerState D) : Type 0 where
  pub store : IsStoreOf bytes o
  pub opening : IsOpeningWorld o first
  pub fits : CallsFit life
  pub shows : (run (beginning first bytes) life).now ≡ player.world.now
  pub device : IsAfter (run (beginning first bytes) life).past.opened (run (beginning first bytes) life).past.calls (seen player.world.device) (may_leave player.world.device)
  pub begins : life ≡ [] → player.sweeps ≡ false

-- so does one in which no call is in hand
abbrev pub QuietLivesAreShown : {D : Type 0} → (D → List ℕ) → (D → List ℕ → Type 0) → Type 0
QuietLivesAreShown {D} seen may_leave =
    (bytes : List ℕ) (o : Opened) (first : Now) (life : List Event) (player : PlayerState D) → IsLifeOver seen may_leave bytes o first life player → IsLifeShown seen may_leave bytes o first life player × HasFewCalls life

-- each of these calls is so
abbrev pub AreAll : (ActorCall → Type 0) → List ActorCall → Type 0
AreAll Is [] = ⊤
AreAll Is (call ∷ later) = Is call × AreAll Is later

abbrev pub HandIs : (ActorCall → Type 0) → Option ActorCall → Type 0
HandIs Is None = ⊤
HandIs Is (Some call) = Is call

-- and each that queues have in hand and left
abbrev pub QueuesAre : (ActorCall → Type 0) → List QueueState → Type 0
QueuesAre Is [] = ⊤
QueuesAre Is (queue ∷ others) = (HandIs Is queue.hand × AreAll Is queue.left) × QueuesAre Is others

-- these calls are of numbers below 2^64
abbrev pub AreFitting : List ActorCall → Type 0
AreFitting calls = AreAll ItsNumbersFit calls

abbrev pub QueuesFit : List QueueState → Type 0
QueuesFit queues = QueuesAre ItsNumbersFit queues

-- it is no trim
abbrev pub IsNoTrim : ActorCall → Type 0
IsNoTrim its = its ≢ Trim

-- nor is any of a piece
abbrev pub HasNoTrim : Piece → Type 0
HasNoTrim (Group calls) = AreAll IsNoTrim calls.items
HasNoTrim other = ⊤

-- The life has gone on from these events, and shows the player behind the beats. The calls that are left fit as well. No more have begun than those that stood
-- to begin and are not left.
pub record HasGoneOn {D : Type 0} (seen : D → List ℕ) (may_leave : D → List ℕ → Type 0) (bytes : List ℕ) (o : Opened) (first : Now) (life : List Event) (to_begin : ℕ) (before after : PlayerState D) (queues left : List QueueState) : Type 0 where
  pub later : List Event
  pub since : List Event
  pub grown : later ≡ since ++ life
  pub shown : IsLifeShown seen may_leave bytes o first later after
  pub fit : QueuesFit left
  pub counted : calls_in later + left_in left ≤ calls_in life + to_begin
  -- if no queue has a trim, none is left, and an unswept life stays so
  pub no_trims : QueuesAre IsNoTrim queues → QueuesAre IsNoTrim left
  pub unswept : QueuesAre IsNoTrim queues → IsUnswept bytes first life before → IsUnswept bytes first later after

-- so it does by a group of calls, up to its end or to a crash
abbrev pub GroupsGoOn : {D : Type 0} → (D → List ℕ) → (D → List ℕ → Type 0) → (events.Event → WorldModel D → WorldModel D → Option tells.Told → Bool → Type 0) → Type 0
GroupsGoOn {D} seen may_leave engine =
    (bytes : List ℕ) (o : Opened) (first : Now) (life : List Event) (before after : PlayerState D) (queues left : List QueueState) (struck : Bool) (text : List ℕ)
    → IsLifeShown seen may_leave bytes o first life before → QueuesFit queues
    → IsGroup engine (record { player = before; queues = queues }) (record { player = after; queues = left }) struck text
    → HasGoneOn seen may_leave bytes o first life (left_in queues) before after queues left

-- the queues with which a group begins
abbrev pub FittingCallsMakeQueues : Type 0
FittingCallsMakeQueues = (calls : List ActorCall) (queues : List QueueState) → AreFitting calls → AreQueuesOf calls queues → QueuesFit queues

-- and by each finish
abbrev pub FinishesGoOn : {D : Type 0} → (D → List ℕ) → (D → List ℕ → Type 0) → (events.Event → WorldModel D → WorldModel D → Option tells.Told → Bool → Type 0) → Type 0
FinishesGoOn {D} seen may_leave engine =
    (bytes : List ℕ) (o : Opened) (first : Now) (life : List Event) (before after : PlayerState D) (outcome : Outcome) (text : List ℕ)
    → IsLifeShown seen may_leave bytes o first life before → IsFinish engine before after outcome text
    → HasGoneOn seen may_leave bytes o first life (length (rounds most_rounds (round_of before.seats))) before after [] []
