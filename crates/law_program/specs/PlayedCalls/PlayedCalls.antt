-- Played calls: what an operation prints that is played alone, by the map that the store shows before it.
use Rattle.std.specs.Prelude.{◌≡◌, ◌⊎◌, ℕ, Bool, false, List, [], ◌∷◌, Option, Some, slice_get, ◌++◌, replicate, true, ⊤}
use Rattle.fkv_base.specs.declared.faults.Fault.TheVariants.{NoSession}
use Rattle.law_order.specs.Below.fkv_core.Openings.{IsOpeningWorld, beginning}
use Rattle.law_order.specs.Below.fkv_core.Worlds.{WorldModel}
use Rattle.law_order.specs.Below.fkv_core.Event as events
use Rattle.law_order.specs.Below.fkv_core.TheTold as tells
use Rattle.law_order.specs.Below.fkv_core.TheTold.TheVariants as told
use Rattle.fkv_map.specs.declared.operations.Call.{Call}
use Rattle.fkv_map.specs.declared.operations.Call.TheVariants as call
use Rattle.fkv_map.specs.declared.operations.Op.{Op}
use Rattle.law_order.specs.Below.fkv_opening.Opened.{IsStoreOf}
use Rattle.law_order.specs.Below.fkv_opening.TheOpened.{Opened}
use Rattle.law_order.specs.Below.fkv_ops.Requests.{is_read}
use Rattle.fkv_runs.specs.Below.fkv_playing.Finishes.{IsPlayedAlone}
use Rattle.fkv_runs.specs.Below.fkv_playing.Groups.{IsGroup}
use Rattle.fkv_runs.specs.Below.fkv_playing.Players.{PlayerState}
use Rattle.fkv_runs.specs.Below.fkv_playing.Queues.{AreQueuesOf, QueueState}
use Rattle.fkv_runs.specs.Below.fkv_playing.Seats.{SeatState}
use Rattle.fkv_runs.specs.Below.fkv_playing.Texts.{text_of}
use Rattle.fkv_runs.specs.Below.fkv_playing.ActorCall.TheVariants.{Session}
use Rattle.fkv_runs.specs.Below.fkv_playing.Outcome.TheVariants.{Answered}
use Rattle.fkv_runs.specs.Below.fkv_playing.Telling.{Telling}
use Rattle.fkv_runs.specs.Below.fkv_playing.Telling.TheVariants.{Whole}
use Rattle.law_order.specs.Below.fkv_session.Answers.{IsAnswerTold}
use Rattle.law_order.specs.Below.fkv_session.Answer.{Answer}
use Rattle.law_order.specs.Below.fkv_session.Finished.{Finished}
use Rattle.law_order.specs.Below.fkv_session.Told.{Told}
use Rattle.law_order.specs.Below.fkv_session.Told.TheVariants as tellings
use Rattle.fkv_texts.specs.Refusals.{session_refusal}
use Rattle.law_program.specs.WholeCalls.WholeCalls.{IsAnsweredByMap}
use Rattle.law_order.specs.Below.fkv_world.Runs.{run}
use Rattle.law_order.specs.Below.fkv_world.World.{Calls, Event, Moves, Now}
use Rattle.law_order.specs.Below.law_refine.Results.Results.{NobodyCalls, in_call}
use Rattle.fkv_map.specs.Fits.{OpFits}
use Rattle.law_order.specs.Served.Fits.{CallFits, CallsFit}
use Rattle.law_order.specs.Tickets.Few.{HasFewCalls}

-- A life of a store that these bytes hold, which began with its first world: one of which the order law speaks. It shows this world.
pub record IsQuietLife (bytes : List ℕ) (o : Opened) (first : Now) (life : List Event) (n : Now) : Type 0 where
  pub store : IsStoreOf bytes o
  pub opening : IsOpeningWorld o first
  pub fits : CallsFit life
  pub few : HasFewCalls life
  pub shows : (run (beginning first bytes) life).now ≡ n

-- An operation is told nothing but this: an update that it is done or has to wait, a read what it found or that it has to wait; and each may be refused.
abbrev pub IsToldTo : Op → Told → Type 0
IsToldTo op (tellings.Done serial its) = is_read op ≡ false
IsToldTo op (tellings.Pending serial why) = is_read op ≡ false
IsToldTo op (tellings.Found value) = is_read op ≡ true
IsToldTo op tellings.Absent = is_read op ≡ true
IsToldTo op (tellings.PendingRead ticket) = is_read op ≡ true
IsToldTo op (tellings.Refused why) = ⊤
IsToldTo op other = ⊥

-- What is printed is an answer of the session, and that is the map's: of the map that the store shows before the call, and it leaves the map that the store shows
-- behind it. The life has gone on with the call and so many moves of its session, and no session has a call in hand.
pub record IsReplyOfMap {D : Type 0} (telling : Telling) (number : ℕ) (op : Op) (bytes : List ℕ) (o : Opened) (first : Now) (life : List Event) (before after : PlayerState D) (text : List ℕ) : Type 0 where
  pub answer : Answer
  pub its : Told
  pub finished : List Finished
  pub is_told : IsAnswerTold its finished answer
  pub told_to : IsToldTo op its
  pub says : text ≡ text_of telling (call.Op op) before.seats after.world.now (told.Session number answer)
  pub moves : ℕ
  pub by_map : IsAnsweredByMap o first bytes life (in_call number moves op life) op its
  pub goes_on : IsQuietLife bytes o first (in_call number moves op life) after.world.now
  pub rests : NobodyCalls after.world.now

-- Over this engine an operation that is played alone is answered by the map, where a life shows the world and no session has a call in hand.
abbrev pub RepliesAsMap : {D : Type 0} → (events.Event → WorldModel D → WorldModel D → Option tells.Told → Bool → Type 0) → Type 0
RepliesAsMap {D} engine =
    (bytes : List ℕ) (o : Opened) (first : Now) (life : List Event) (telling : Telling) (number : ℕ) (op : Op) (before after : PlayerState D) (text : List ℕ)
    → IsQuietLife bytes o first life before.world.now → NobodyCalls before.world.now → OpFits op
    → HasFewCalls (Calls number (call.Op op) ∷ life) → IsPlayedAlone engine telling (Session number (call.Op op)) before after Answered text
    → IsReplyOfMap telling number op bytes o first life before after text

-- a session that the store hasn't is refused, and all stays
abbrev pub IsRefusedSession : {D : Type 0} → ℕ → PlayerState D → PlayerState D → List ℕ → Type 0
IsRefusedSession number before after text = (after ≡ before) × (text ≡ session_refusal number NoSession)

-- the session has a seat, and is replied by the map
pub record IsLineOfSession {D : Type 0} (number : ℕ) (op : Op) (bytes : List ℕ) (o : Opened) (first : Now) (life : List Event) (before after : PlayerState D) (text : List ℕ) : Type 0 where
  pub seat : SeatState
  pub sits : slice_get before.seats number ≡ Some seat
  pub reply : IsReplyOfMap Whole number op bytes o first life before after text

-- So it is of a line of a script, which is played as a group of its one call, where no crash strikes in it.
abbrev pub LinesReplyAsMap : {D : Type 0} → (events.Event → WorldModel D → WorldModel D → Option tells.Told → Bool → Type 0) → Type 0
LinesReplyAsMap {D} engine =
    (bytes : List ℕ) (o : Opened) (first : Now) (life : List Event) (number : ℕ) (op : Op) (queues left : List QueueState) (before after : PlayerState D) (text : List ℕ)
    → IsQuietLife bytes o first life before.world.now → NobodyCalls before.world.now → OpFits op → HasFewCalls (Calls number (call.Op op) ∷ life)
    → AreQueuesOf (Session number (call.Op op) ∷ []) queues → IsGroup engine (record { player = before; queues = queues }) (record { player = after; queues = left }) false text
    → IsRefusedSession number before after text ⊎ IsLineOfSession number op bytes o first life before after text

-- ---- any other call of a session
-- the session of this number begins a call, and then makes so many moves, and nobody else does anything
abbrev pub called_alone : ℕ → ℕ → Call → List Event → List Event
called_alone number moves asked before = replicate moves (Moves number) ++ Calls number asked ∷ before

-- What is printed is an answer of the session, the life has gone on with the call alone, and no session has a call in hand.
pub record IsAnsweredAlone {D : Type 0} (number : ℕ) (asked : Call) (bytes : List ℕ) (o : Opened) (first : Now) (life : List Event) (before after : PlayerState D) (text : List ℕ) : Type 0 where
  pub answer : Answer
  pub says : text ≡ text_of Whole asked before.seats after.world.now (told.Session number answer)
  pub moves : ℕ
  pub goes_on : IsQuietLife bytes o first (called_alone number moves asked life) after.world.now
  pub rests : NobodyCalls after.world.now

-- So a life goes on by each line of a session, and what the law says of a line of an operation it says behind such lines too.
abbrev pub LinesGoOn : {D : Type 0} → (events.Event → WorldModel D → WorldModel D → Option tells.Told → Bool → Type 0) → Type 0
LinesGoOn {D} engine =
    (bytes : List ℕ) (o : Opened) (first : Now) (life : List Event) (number : ℕ) (asked : Call) (queues left : List QueueState) (before after : PlayerState D) (text : List ℕ)
    → IsQuietLife bytes o first life before.world.now → NobodyCalls before.world.now → CallFits asked → HasFewCalls (Calls number asked ∷ life)
    → AreQueuesOf (Session number asked ∷ []) queues → IsGroup engine (record { player = before; queues = queues }) (record { player = after; queues = left }) false text
    → IsRefusedSession number before after text ⊎ IsAnsweredAlone number asked bytes o first life before after text
