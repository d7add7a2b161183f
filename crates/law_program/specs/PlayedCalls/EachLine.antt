-- Each line of a call, and each finish, over a device that is honest: a life goes on by it, and shows the device with the world.
use Rattle.std.specs.Prelude.{◌≡◌, ◌≢◌, ◌⊎◌, ◌+◌, ◌-◌, ◌^◌, ◌<◌, ⊤, ℕ, Bool, true, false, List, [], ◌∷◌, ◌++◌, length, take, Option}
use Rattle.fkv_base.specs.declared.commits.CommitKind.TheVariants.{Full}
use Rattle.law_order.specs.Below.fkv_core.Openings.{beginning}
use Rattle.law_order.specs.Below.fkv_core.Unswept.{NeverSweeps}
use Rattle.law_order.specs.Below.fkv_core.Worlds.{WorldModel}
use Rattle.law_order.specs.Below.fkv_core.Event as events
use Rattle.law_order.specs.Below.fkv_core.TheTold as tells
use Rattle.law_order.specs.Below.fkv_core.TheTold.TheVariants as told
use Rattle.fkv_disk.specs.Device.{IsAfter}
use Rattle.fkv_map.specs.declared.operations.Call.TheVariants as call
use Rattle.fkv_map.specs.declared.operations.Op.{Op}
use Rattle.law_order.specs.Below.fkv_opening.TheOpened.{Opened}
use Rattle.fkv_runs.specs.Below.fkv_playing.Beats.{asked_of}
use Rattle.fkv_runs.specs.Below.fkv_playing.Finishes.{IsFinish, most_rounds, round_of, rounds}
use Rattle.fkv_runs.specs.Below.fkv_playing.Groups.{IsGroup, is_struck_by}
use Rattle.fkv_runs.specs.Below.fkv_playing.Players.{PlayerState}
use Rattle.fkv_runs.specs.Below.fkv_playing.Queues.{AreQueuesOf, QueueState}
use Rattle.fkv_runs.specs.Below.fkv_playing.Seats.{SeatState}
use Rattle.fkv_runs.specs.Below.fkv_playing.Texts.{text_of}
use Rattle.fkv_runs.specs.Below.fkv_playing.ActorCall.{ActorCall}
use Rattle.fkv_runs.specs.Below.fkv_playing.ActorCall.TheVariants.{Session, Commit, Trim, Turn}
use Rattle.fkv_runs.specs.Below.fkv_playing.Outcome.{Outcome}
use Rattle.fkv_runs.specs.Below.fkv_playing.Telling.{Telling}
use Rattle.fkv_runs.specs.Below.fkv_playing.Telling.TheVariants.{Finished, Whole}
use Rattle.law_order.specs.Below.fkv_session.Answers.{IsAnswerTold}
use Rattle.law_order.specs.Below.fkv_session.Answer.{Answer}
use Rattle.law_order.specs.Below.fkv_session.Finished as finishes
use Rattle.law_order.specs.Below.fkv_session.Told.{Told}
use Rattle.fkv_texts.specs.Keeper.{not_finished, nothing_to_finish}
use Rattle.law_order.specs.Below.fkv_world.Runs.{run}
use Rattle.law_order.specs.Below.fkv_world.World.{Calls, Commits, Event, KeeperMoves, Moves, Now, Turns}
use Rattle.law_order.specs.Served.Fits.{CallFits}
use Rattle.law_order.specs.Tickets.Few.{HasFewCalls, calls_in}
use Rattle.law_program.specs.PlayedCalls.Finished.{IsCallAnswered}
use Rattle.law_program.specs.PlayedCalls.FinishedCommits.{FinishesWhatIsTold}
use Rattle.law_program.specs.PlayedCalls.PlayedCalls.{IsQuietLife, IsRefusedSession, IsToldTo}
use Rattle.law_program.specs.PlayedCalls.Waiting.{SeatsKeepKeys}
use Rattle.law_program.specs.WholeCalls.WholeCalls.{IsAnsweredByMap, map_after}
use Rattle.law_order.specs.Below.law_refine.Results.Results.{NobodyCalls}

-- ---- a call that is alone, in a life
-- the event by which a call begins; a trim is a full commit
abbrev pub begun_by : ActorCall → Event
begun_by (Session number asked) = Calls number asked
begun_by (Commit kind) = Commits kind
begun_by Trim = Commits Full
begun_by Turn = Turns

-- A move of its actor. In one of the keeper memory is granted or not, and the device's call succeeds or fails.
abbrev pub IsMoveOf : ActorCall → Event → Type 0
IsMoveOf (Session number asked) event = event ≡ Moves number
IsMoveOf other event = (granted : Bool) × (done : Bool) × (event ≡ KeeperMoves granted done)

abbrev pub AreMovesOf : ActorCall → List Event → Type 0
AreMovesOf its [] = ⊤
AreMovesOf its (event ∷ before) = IsMoveOf its event × AreMovesOf its before

-- The life has gone on with the call and so many moves of its actor.
pub record IsCalledAlone (its : ActorCall) (life later : List Event) : Type 0 where
  pub moves : List Event
  pub are_moves : AreMovesOf its moves
  pub so : later ≡ moves ++ begun_by its ∷ life

-- in the life the keeper has swept nothing, and turns don't sweep
abbrev pub IsUnswept : {D : Type 0} → List ℕ → Now → List Event → PlayerState D → Type 0
IsUnswept bytes first life player = NeverSweeps (beginning first bytes) life × (player.sweeps ≡ false)

-- its numbers fit in words
abbrev pub ItsNumbersFit : ActorCall → Type 0
ItsNumbersFit (Session number asked) = CallFits asked
ItsNumbersFit other = ⊤

-- ---- what it is told
-- an operation is answered by the map
pub record IsOpAnswered (bytes : List ℕ) (o : Opened) (first : Now) (life later : List Event) (number : ℕ) (op : Op) (said : tells.Told) : Type 0 where
  pub answer : Answer
  pub same : said ≡ told.Session number answer
  pub its : Told
  pub finished : List finishes.Finished
  pub is_told : IsAnswerTold its finished answer
  pub told_to : IsToldTo op its
  pub by_map : IsAnsweredByMap o first bytes life later op its

-- what the keeper is told
abbrev pub IsOfKeeper : tells.Told → Type 0
IsOfKeeper (told.Session number answer) = ⊥
IsOfKeeper said = ⊤

-- The keeper leaves the map as it was, and just the commit finishes that it tells as finished.
pub record IsKeeperAnswered (bytes : List ℕ) (o : Opened) (first : Now) (life later : List Event) (said : tells.Told) : Type 0 where
  pub by_keeper : IsOfKeeper said
  pub map : map_after o first bytes later ≡ map_after o first bytes life
  pub finished : FinishesWhatIsTold bytes first life later said

-- A session is answered: an operation by the map, and what a poll has finished by the history. So is the keeper.
abbrev pub IsToldInLife : List ℕ → Opened → Now → List Event → List Event → List SeatState → ActorCall → tells.Told → Type 0
IsToldInLife bytes o first life later seats (Session number (call.Op op)) said = IsOpAnswered bytes o first life later number op said
IsToldInLife bytes o first life later seats (Session number asked) said = IsCallAnswered bytes o first life later number seats said
IsToldInLife bytes o first life later seats its said = IsKeeperAnswered bytes o first life later said

-- a session that the store hasn't is refused; the keeper is there always
abbrev pub IsRefusedLine : {D : Type 0} → ActorCall → PlayerState D → PlayerState D → List ℕ → Type 0
IsRefusedLine (Session number asked) before after text = IsRefusedSession number before after text
IsRefusedLine other before after text = ⊥

-- where nothing is to be finished, and where its rounds were not enough, a finish says so behind the lines of its calls
abbrev pub IsEndOfFinish : List ℕ → Type 0
IsEndOfFinish text = (text ≡ []) ⊎ (text ≡ not_finished) ⊎ (text ≡ nothing_to_finish)

-- ---- over a device
module _ {D : Type 0} (seen : D → List ℕ) (may_leave : D → List ℕ → Type 0) where
  -- A life of a store that these bytes hold shows the player's world. It shows the device too, which reads as, and may leave, what the life's calls of it give.
  -- No session has a call in hand. Seats keep the keys of the tickets that were told. As the life begins, turns don't sweep.
  pub record IsLifeOver (bytes : List ℕ) (o : Opened) (first : Now) (life : List Event) (player : PlayerState D) : Type 0 where
    pub quiet : IsQuietLife bytes o first life player.world.now
    pub device : IsAfter (run (beginning first bytes) life).past.opened (run (beginning first bytes) life).past.calls (seen player.world.device) (may_leave player.world.device)
    pub rests : NobodyCalls player.world.now
    pub keeps : SeatsKeepKeys bytes first life player.seats
    pub begins : life ≡ [] → player.sweeps ≡ false

  -- What is printed is what the call was told, and the life has gone on with the call alone. By any call but a trim an unswept life stays so.
  pub record IsPlayedInLife (telling : Telling) (its : ActorCall) (bytes : List ℕ) (o : Opened) (first : Now) (life later : List Event) (before after : PlayerState D) (text : List ℕ) : Type 0 where
    pub said : tells.Told
    pub says : text ≡ text_of telling (asked_of its) before.seats after.world.now said
    pub alone : IsCalledAlone its life later
    pub told : IsToldInLife bytes o first life later before.seats its said
    pub goes_on : IsLifeOver bytes o first later after
    pub unswept : its ≢ Trim → IsUnswept bytes first life before → IsUnswept bytes first later after

  -- so are these calls, one behind the other
  abbrev pub ArePlayedInLife : Telling → List ActorCall → List ℕ → Opened → Now → List Event → List Event → PlayerState D → PlayerState D → List ℕ → Type 0
  ArePlayedInLife telling [] bytes o first life later before after text = (later ≡ life) × (after ≡ before) × (text ≡ [])
  ArePlayedInLife telling (its ∷ rest) bytes o first life later before after text =
      (between : List Event) × (mid : PlayerState D) × (one : List ℕ) × (others : List ℕ) × IsPlayedInLife telling its bytes o first life between before mid one
      × ArePlayedInLife telling rest bytes o first between later mid after others × (text ≡ one ++ others)

  -- so it is of a line
  pub record IsLineInLife (its : ActorCall) (bytes : List ℕ) (o : Opened) (first : Now) (life : List Event) (before after : PlayerState D) (text : List ℕ) : Type 0 where
    pub later : List Event
    pub played : IsPlayedInLife Whole its bytes o first life later before after text

  -- Of a finish: the first so many calls of its rounds, one behind the other, and what it says behind them. An unswept life stays so.
  pub record IsFinishInLife (bytes : List ℕ) (o : Opened) (first : Now) (life : List Event) (before after : PlayerState D) (text : List ℕ) : Type 0 where
    pub count : ℕ
    pub later : List Event
    pub said : List ℕ
    pub played : ArePlayedInLife Finished (take count (rounds most_rounds (round_of before.seats))) bytes o first life later before after said
    pub behind : List ℕ
    pub ends : IsEndOfFinish behind
    pub says : text ≡ said ++ behind
    pub goes_on : IsLifeOver bytes o first later after
    pub unswept : IsUnswept bytes first life before → IsUnswept bytes first later after

  -- One in which a crash strikes has printed the lines of the calls that had ended before, and no more.
  pub record IsFinishCutShort (bytes : List ℕ) (o : Opened) (first : Now) (life : List Event) (before : PlayerState D) (text : List ℕ) : Type 0 where
    pub calls : List ActorCall
    pub behind : List ActorCall
    pub first_of : rounds most_rounds (round_of before.seats) ≡ calls ++ behind
    pub later : List Event
    pub last : PlayerState D
    pub played : ArePlayedInLife Finished calls bytes o first life later before last text

  -- ---- so it is over these steps of the engine
  module _ (engine : events.Event → WorldModel D → WorldModel D → Option tells.Told → Bool → Type 0) where
    -- of each line of a call in which no crash strikes
    abbrev pub CallsGoOn : Type 0
    CallsGoOn =
        (bytes : List ℕ) (o : Opened) (first : Now) (life : List Event) (its : ActorCall) (queues left : List QueueState) (before after : PlayerState D) (text : List ℕ)
        → IsLifeOver bytes o first life before → ItsNumbersFit its → HasFewCalls (begun_by its ∷ life)
        → AreQueuesOf (its ∷ []) queues → IsGroup engine (record { player = before; queues = queues }) (record { player = after; queues = left }) false text
        → IsRefusedLine its before after text ⊎ IsLineInLife its bytes o first life before after text

    -- of each such finish
    abbrev pub FinishesGoOn : Type 0
    FinishesGoOn =
        (bytes : List ℕ) (o : Opened) (first : Now) (life : List Event) (before after : PlayerState D) (outcome : Outcome) (text : List ℕ)
        → IsLifeOver bytes o first life before → calls_in life + length (rounds most_rounds (round_of before.seats)) < 2 ^ 64 - 1
        → IsFinish engine before after outcome text → is_struck_by outcome ≡ false → IsFinishInLife bytes o first life before after text

    -- of each finish in which one strikes
    abbrev pub StruckFinishesEnd : Type 0
    StruckFinishesEnd =
        (bytes : List ℕ) (o : Opened) (first : Now) (life : List Event) (before after : PlayerState D) (outcome : Outcome) (text : List ℕ)
        → IsLifeOver bytes o first life before → calls_in life + length (rounds most_rounds (round_of before.seats)) < 2 ^ 64 - 1
        → IsFinish engine before after outcome text → is_struck_by outcome ≡ true → IsFinishCutShort bytes o first life before text

    -- And a line of a call in which one strikes prints nothing of its own.
    abbrev pub StruckCallsSayNothing : Type 0
    StruckCallsSayNothing =
        (its : ActorCall) (queues left : List QueueState) (before after : PlayerState D) (text : List ℕ) → AreQueuesOf (its ∷ []) queues
        → IsGroup engine (record { player = before; queues = queues }) (record { player = after; queues = left }) true text → text ≡ []

    -- each line of a script
    pub record EachLineGoesOn : Type 0 where
      pub calls : CallsGoOn
      pub finishes : FinishesGoOn
      pub struck_calls : StruckCallsSayNothing
      pub struck_finishes : StruckFinishesEnd
