-- The effect that a step of a call in hand makes: it is the session's own, of the operation in hand, and of the serial that comes next.
use Rattle.std.proofs.Common.{◌≡◌, ℕ, ◌+◌, ◌∙◌, refl, ap, sym, Bool, true, false}
use Rattle.std.specs.Prelude.{Option, Some, None, if◌then◌else◌}
use Rattle.fkv_base.specs.declared.numbers.Serial.{Serial}
use Rattle.fkv_epoch.proofs.Shown.{none_some}
use Rattle.fkv_map.specs.declared.history.HistoryEntry.{HistoryEntry}
use Rattle.fkv_map.specs.declared.operations.Op.{Op}
use Rattle.fkv_map.specs.declared.operations.Reply.{Reply}
use Rattle.law_world.specs.Below.fkv_ops.Requests.{is_read}
use Rattle.law_world.specs.Below.fkv_pending.PendingRequest.{PendingRequest}
use Rattle.law_world.specs.Below.fkv_pending.RequestName.{RequestName}
use Rattle.law_world.specs.Below.fkv_pending.RequestName.TheVariants.{Update, Read}
use Rattle.law_world.specs.Below.fkv_pending.Attempting.{attempt_ask}
use Rattle.fkv_plane.specs.declared.asks.Ask.{Ask}
use Rattle.fkv_plane.specs.declared.asks.Ask.TheVariants.{Done}
use Rattle.law_world.specs.Below.fkv_session.CatchCause.TheVariants.{Refreshes, Wakes, Shifts}
use Rattle.law_world.specs.Below.fkv_session.Sitting.{Sitting}
use Rattle.law_world.specs.Below.fkv_session.Sitting.TheVariants.{Idle, Attempts, CatchesUp, Turns}
use Rattle.law_world.specs.Below.fkv_session.Sessions.{SessionState, Seat, bits_of, room_of, entry_of, ticket_after, name_of, attempts, catch_ledto, attempt_moved, caught, own_turn_moved, session_next, sitting_next}
use Rattle.law_world.proofs.Below.fkv_session.Shown.{attempt_keeps}
use Rattle.law_world.proofs.OfRuns.EffectStays.{turn_keeps as turned_keeps}
use Rattle.law_refine.proofs.OfCalls.MadeBy.{call_keeps}
use Rattle.law_refine.proofs.OfResults.OwnCall.{KnowsOp, Stands, StandsAt, asked, asked_knows, asked_stands}

-- ---- what ends an attempt makes no effect of its own
catch_keeps : (k : Seat) (s : SessionState) (ask : Ask (Unit {0})) → (catch_ledto k s Shifts ask).effect ≡ s.effect
unfolding catch_ledto attempts
catch_keeps k s (Done through) = refl
catch_keeps k s ask = refl

-- ---- the attempt's own
pub record IsMadeInCall (number : ℕ) (op : Op) (serial : ℕ) (its : HistoryEntry) : Type 0 where
  pub its_session : its.session ≡ number
  pub its_op : its.op ≡ op
  pub its_serial : its.serial.0 ≡ serial
  pub update : is_read op ≡ false

next_named : (s : SessionState) (c : Bool) (serial : Serial) → is_read s.op ≡ c → (if c then Read (record { 0 = ticket_after s.ticket }) else Update (record { 0 = s.serial + 1 })) ≡ Update serial → (is_read s.op ≡ false) × (s.serial + 1 ≡ serial.0)
next_named s true serial r e = cc
next_named s false serial r e = let same : record { 0 = s.serial + 1 } ≡ serial = cc in (r, ap (λ (x : Serial). x.0) same)

-- an entry is of its request
entry_made : (number : ℕ) (pending : PendingRequest) (name : RequestName) (reply : Option Reply) (its : HistoryEntry) → entry_of number pending name reply ≡ Some its
    → (its.session ≡ number) × (name ≡ Update its.serial) × (its.op ≡ pending.request.op)
entry_made number pending name None its e = cc
entry_made number pending (Update serial) (Some reply) its e =
    let same : record { session = number; serial = serial; op = pending.request.op; reply = reply } ≡ its = cc in
    (sym (ap (λ (x : HistoryEntry). x.session) same), ap (λ (x : HistoryEntry). Update x.serial) same, sym (ap (λ (x : HistoryEntry). x.op) same))
entry_made number pending (Read ticket) (Some reply) its e = cc

moved_made : (op : Op) (n : ℕ) (k : Seat) (s : SessionState) (reply : ℕ) (its : HistoryEntry) → s.op ≡ op → s.serial ≡ n → s.attempt.pending.name ≡ name_of s → s.attempt.pending.request.op ≡ s.op
    → (attempt_moved k s reply).effect ≡ Some its → IsMadeInCall k.number op (n + 1) its
moved_made op n k s reply its of_op of_serial named its_op e =
    let after : PendingRequest = (attempt_moved k s reply).attempt.pending in
    let keeps = attempt_keeps k.places (bits_of k) (room_of k) k.number s.attempt reply in
    let made = entry_made k.number after after.name (attempt_moved k s reply).attempt.effect its e in
    let next = next_named s (is_read s.op) its.serial refl (sym named ∙ (sym keeps.name ∙ made.1)) in
    record { its_session = made.0; its_op = made.2 ∙ (keeps.op ∙ (its_op ∙ of_op)); its_serial = sym next.1 ∙ ap (λ (x : ℕ). x + 1) of_serial; update = ap is_read (sym of_op) ∙ next.0 }

none_there : {A : Type 0} (found : Option HistoryEntry) (its : HistoryEntry) → found ≡ None → found ≡ Some its → A
none_there found its none some = none_some its (sym none ∙ some)

sitting_made : (op : Op) (n : ℕ) (k : Seat) (t : SessionState) (step : Sitting) (reply : ℕ) (its : HistoryEntry) → t.effect ≡ None
    → KnowsOp t step → StandsAt op n t step → (sitting_next k t step reply).effect ≡ Some its → IsMadeInCall k.number op (n + 1) its
unfolding sitting_next
sitting_made op n k t (Idle answer) reply its none knows stands some = none_there _ its none some
sitting_made op n k t (Attempts again) reply its none knows stands some =
    moved_made op n k t reply its stands.its_op stands.its_serial knows.0 knows.1
    (sym (call_keeps (attempt_moved k t reply) again (attempt_ask k.places k.number (attempt_moved k t reply).attempt)) ∙ some)
sitting_made op n k t (CatchesUp Shifts) reply its none knows stands some = none_there _ its (catch_keeps k (caught k t reply) _ ∙ none) some
sitting_made op n k t (CatchesUp Refreshes) reply its none knows stands some = absurd stands
sitting_made op n k t (CatchesUp Wakes) reply its none knows stands some = absurd stands
sitting_made op n k t (Turns answer) reply its none knows stands some = none_there _ its (turned_keeps (own_turn_moved k t reply) answer _ ∙ none) some
sitting_made op n k t step reply its none knows stands some = absurd stands

pub made_in_call : (op : Op) (n : ℕ) (k : Seat) (s : SessionState) (reply : ℕ) (its : HistoryEntry) → KnowsOp s s.step → Stands op n s → (session_next k s reply).effect ≡ Some its → IsMadeInCall k.number op (n + 1) its
unfolding asked
made_in_call op n k s reply its knows stands some = sitting_made op n k (asked k s) s.step reply its refl (asked_knows k s s.step knows) (asked_stands op n k s s.step stands) some
