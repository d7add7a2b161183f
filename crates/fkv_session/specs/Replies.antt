-- The effects that a session tells, the operations that its serials were given to, and the replies that its answers tell.
use Rattle.std.specs.Prelude.{◌≡◌, ℕ, ◌+◌, ◌⊎◌, ◌==◌, Bool, true, false, Option, Some, None, List, [], ◌∷◌, ◌++◌, map, ⊤}
use Rattle.fkv_base.specs.declared.numbers.Serial.{Serial}
use Rattle.fkv_map.specs.declared.history.HistoryEntry.{HistoryEntry}
use Rattle.fkv_map.specs.declared.operations.Call.{Call}
use Rattle.fkv_map.specs.declared.operations.Call.TheVariants as call
use Rattle.fkv_map.specs.declared.operations.Op.{Op}
use Rattle.fkv_map.specs.declared.operations.Reply.{Reply}
use Rattle.fkv_ops.specs.Requests.{is_read}
use Rattle.fkv_pending.specs.declared.pending_requests.RequestName.{RequestName}
use Rattle.fkv_session.specs.declared.answers.Finished.{Finished}
use Rattle.fkv_session.specs.declared.answers.Finished.TheVariants as finished
use Rattle.fkv_session.specs.declared.answers.Told.{Told}
use Rattle.fkv_session.specs.declared.answers.Told.TheVariants as told
use Rattle.fkv_session.specs.Sessions.{SessionState, Seat, is_busy}
use Rattle.fkv_session.specs.SessionRun.{SessionEvent, Begins, Replies, session_run, Telling}
use Rattle.fkv_session.specs.Accounts.{number_of, is_update}

-- what the session tells as the effect of an update behind a reply
abbrev pub effect_behind : SessionEvent → SessionState → Option HistoryEntry
effect_behind (Replies reply) after = after.effect
effect_behind event after = None

abbrev pub with_effect : Option HistoryEntry → List HistoryEntry → List HistoryEntry
with_effect None before = before
with_effect (Some its) before = its ∷ before

-- the effects of a run, the newest first
unfoldable pub effects_told : Seat → SessionState → List SessionEvent → List HistoryEntry
effects_told k opening [] = []
effects_told k opening (event ∷ before) = with_effect (effect_behind event (session_run k opening (event ∷ before))) (effects_told k opening before)

-- the operation of the call that began last; none begins where one is in hand
abbrev pub op_begun : Bool → Call → Option Op → Option Op
op_begun true its before = before
op_begun false (call.Op op) before = Some op
op_begun false its before = None

abbrev pub op_after : SessionState → SessionEvent → Option Op → Option Op
op_after s (Begins its) before = op_begun (is_busy s.step) its before
op_after s event before = before

unfoldable pub op_called : Seat → SessionState → List SessionEvent → Option Op
op_called k opening [] = None
op_called k opening (event ∷ before) = op_after (session_run k opening before) event (op_called k opening before)

-- a serial that was taken, and the operation of the call that took it
pub record Taken : Type 0 where
  pub serial : ℕ
  pub op : Op

abbrev pub with_taken : ℕ → Option Op → List Taken → List Taken
with_taken serial None before = before
with_taken serial (Some op) before = record { serial = serial; op = op } ∷ before

-- a serial is taken where the session's rises
abbrev pub taken_after : Bool → ℕ → Option Op → List Taken → List Taken
taken_after true serial op before = before
taken_after false serial op before = with_taken serial op before

-- the serials that a run took, the newest first
unfoldable pub serials_taken : Seat → SessionState → List SessionEvent → List Taken
serials_taken k opening [] = []
serials_taken k opening (event ∷ before) =
    taken_after ((session_run k opening (event ∷ before)).serial == (session_run k opening before).serial) (session_run k opening (event ∷ before)).serial (op_called k opening (event ∷ before)) (serials_taken k opening before)

-- an update of this serial is done, and was told this reply
pub record UpdateDone : Type 0 where
  pub serial : Serial
  pub reply : Reply

abbrev pub done_by : HistoryEntry → UpdateDone
done_by its = record { serial = its.serial; reply = its.reply }

abbrev pub with_done : Told → List UpdateDone → List UpdateDone
with_done (told.Done serial reply) before = record { serial = serial; reply = reply } ∷ before
with_done its before = before

-- the updates that a poll tells as finished
abbrev pub done_by_poll : List Finished → List UpdateDone
done_by_poll [] = []
done_by_poll (finished.Update serial reply ∷ rest) = record { serial = serial; reply = reply } ∷ done_by_poll rest
done_by_poll (finished.Read ticket value ∷ rest) = done_by_poll rest

-- the updates that answers told as done, at their calls or by a poll
abbrev pub done_told : List Telling → List UpdateDone
done_told [] = []
done_told (it ∷ before) = with_done it.its (done_by_poll it.finished ++ done_told before)

-- Of whatever serials and replies one asks how many of these effects were told with them: so many answers tell an update as done with them.
abbrev pub AreAnswered : List HistoryEntry → List Telling → List Finished → Type 0
AreAnswered effects told in_hand = (such : UpdateDone → Bool) → number_of such (map done_by effects) ≡ number_of such (done_told told) + number_of such (done_by_poll in_hand)

-- All effects of a run have been answered, but for the newest where its update's call or poll is still under way.
pub record AreRepliesOfEffects (effects : List HistoryEntry) (told : List Telling) (in_hand : List Finished) (busy : Bool) : Type 0 where
  pub coming : Option HistoryEntry
  pub answered : List HistoryEntry
  pub its_effects : effects ≡ with_effect coming answered
  pub none_at_rest : busy ≡ false → coming ≡ None
  pub replies : AreAnswered answered told in_hand

-- by the serial
abbrev pub is_done : ℕ → UpdateDone → Bool
is_done n its = its.serial.0 == n

abbrev pub is_of : ℕ → HistoryEntry → Bool
is_of n its = its.serial.0 == n

-- an update of this serial has made one effect, or waits and has made none
abbrev pub HasOneEffect : List HistoryEntry → List RequestName → ℕ → Type 0
HasOneEffect effects waiting n = number_of (is_of n) effects + number_of (is_update n) waiting ≡ 1

-- the serial was taken for this operation
abbrev pub WasTaken : List Taken → ℕ → Op → Type 0
WasTaken [] serial op = ⊥
WasTaken (it ∷ before) serial op = ((it.serial ≡ serial) × (it.op ≡ op)) ⊎ WasTaken before serial op

-- or the call in hand is of this operation, and this is the serial that comes next
abbrev pub IsTakenNext : SessionState → Option Op → ℕ → Op → Type 0
IsTakenNext s called serial op = (is_busy s.step ≡ true) × (called ≡ Some op) × (serial ≡ s.serial + 1)

-- an effect is this session's, of an update, and of the operation that its serial was taken for
pub record IsOfItsCall (number : ℕ) (s : SessionState) (called : Option Op) (taken : List Taken) (its : HistoryEntry) : Type 0 where
  pub session : its.session ≡ number
  pub update : is_read its.op ≡ false
  pub op : WasTaken taken its.serial.0 its.op ⊎ IsTakenNext s called its.serial.0 its.op

abbrev pub AreOfTheirCalls : ℕ → SessionState → Option Op → List Taken → List HistoryEntry → Type 0
AreOfTheirCalls number s called taken [] = ⊤
AreOfTheirCalls number s called taken (it ∷ before) = IsOfItsCall number s called taken it × AreOfTheirCalls number s called taken before
