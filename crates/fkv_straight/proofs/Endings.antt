-- How the machine has caught up behind a call that went straight to its end.
use Rattle.std.proofs.Common.{◌≡◌, ℕ, ◌+◌, ◌<◌, refl, sym, ap, ◌∙◌, subst, arith, true, false, List, [], ◌∷◌, ◌++◌, length}
use Rattle.std.specs.Prelude.{Option, Some, None, IfSome, IfNone, is_some}
use Rattle.std.proofs.lemmas.Bool.Decides.{nat_tests}
use Rattle.std.proofs.lemmas.List.{length_push}
use Rattle.fkv_base.specs.Limits.{max_pending}
use Rattle.fkv_base.specs.declared.numbers.Serial.{Serial}
use Rattle.fkv_map.specs.declared.operations.Call.{Call}
use Rattle.fkv_map.specs.declared.operations.Call.TheVariants as call
use Rattle.fkv_map.specs.declared.operations.Op.{Op}
use Rattle.fkv_map.specs.declared.operations.Reply.{Reply}
use Rattle.fkv_plane.specs.declared.asks.Ask.TheVariants.{Done}
use Rattle.fkv_ops.specs.declared.answers.Reason.TheVariants as reason
use Rattle.fkv_ops.specs.Requests.{is_read}
use Rattle.fkv_pending.specs.declared.pending_requests.PendingRequest.{PendingRequest}
use Rattle.fkv_session.specs.declared.answers.Told.{Told}
use Rattle.fkv_session.specs.declared.answers.Told.TheVariants as told
use Rattle.fkv_session.specs.declared.sessions.Sitting.TheVariants.{Idle}
use Rattle.fkv_session.specs.Alike.{Lasting, StandAlike, lasting}
use Rattle.fkv_session.specs.Sessions.{Seat, SessionState, Sitter, session_ask, session_begun, is_busy, is_full, request_of, update_waiting}
use Rattle.fkv_straight.specs.declared.going.Going.{Going}
use Rattle.fkv_straight.specs.Course.{course_of, next_name, GoesBy, Goes}
use Rattle.fkv_straight.specs.Standing.{begins, IsEnded, IsWaiting, IsCaughtUp}
use Rattle.fkv_straight.proofs.Goings.{goes_on_by}
use Rattle.fkv_straight.proofs.Moves.{asks_none}
use Rattle.fkv_ops.specs.Bounds.{bounds_of, tail_bound}
use Rattle.fkv_ops.specs.declared.bounds.Bounds.{Bounds}

-- a call that has ended is in hand no more
ended_idle : (s : SessionState) (its : Told) → s.step ≡ Idle its → is_busy s.step ≡ false
ended_idle s its e = rw e refl

pub read_caught_up : (m u : SessionState) (l : Lasting) (its : Told) → lasting m ≡ l → IsEnded l its u → IsCaughtUp m u
read_caught_up m u l its alike ended = record {
  lasts = alike ∙ sym ended.lasts;
  alike = λ busy. absurd (let h : false ≡ true = sym (ended_idle u its ended.ended) ∙ busy in cc h);
}

-- the machine has taken the serial of an update
taken_lasts : (m : SessionState) → lasting (record m { serial = m.serial + 1 }) ≡ record (lasting m) { serial = (lasting m).serial + 1 }
unfolding lasting
taken_lasts m = refl

pub update_caught_up : (m n u : SessionState) (l : Lasting) (its : Told) → lasting m ≡ l → n ≡ record m { serial = m.serial + 1 } → IsEnded (record l { serial = l.serial + 1 }) its u → IsCaughtUp n u
update_caught_up m n u l its alike e done =
    read_caught_up n u (record l { serial = l.serial + 1 }) its (ap (λ (s : SessionState). lasting s) e ∙ (taken_lasts m ∙ ap (λ (x : Lasting). record x { serial = x.serial + 1 }) alike)) done

-- and that of one that waits
waits_lasts : (m : SessionState) (op : Op) → is_read op ≡ false
    → lasting (update_waiting m op) ≡ record (lasting m) { serial = (lasting m).serial + 1; requests = (lasting m).requests ++ record { name = next_name (lasting m) op; request = request_of op (lasting m).seen.version (lasting m).floor; sought = None; has_asked = false } ∷ [] }
unfolding lasting
waits_lasts m op updates = rw updates refl

pub waiting_caught_up : (m n u : SessionState) (k : Seat) (s : SessionState) (op : Op) → is_read op ≡ false → lasting m ≡ lasting s → n ≡ update_waiting m op → IsWaiting (course_of k s op (call.Op op)) u → IsCaughtUp n u
waiting_caught_up m n u k s op updates alike e waits =
    let w : Lasting → Lasting = λ l. record l { serial = l.serial + 1; requests = l.requests ++ record { name = next_name l op; request = request_of op l.seen.version l.floor; sought = None; has_asked = false } ∷ [] } in
    read_caught_up n u (w (lasting s)) _ (ap (λ (x : SessionState). lasting x) e ∙ (waits_lasts m op updates ∙ ap w alike)) waits

serial_lasts : (m : SessionState) → m.serial ≡ (lasting m).serial
unfolding lasting
serial_lasts m = refl

pub waiting_asks : (k : Seat) (m s u : SessionState) (op : Op) (its : Told) → lasting m ≡ lasting s → its ≡ told.Pending (record { 0 = m.serial + 1 }) reason.Contended → IsWaiting (course_of k s op (call.Op op)) u → Done its ≡ session_ask k u
waiting_asks k m s u op its alike e waits =
    ap Done (e ∙ ap (λ (n : ℕ). told.Pending (record { 0 = n + 1 }) reason.Contended) (serial_lasts m ∙ ap (λ (x : Lasting). x.serial) alike)) ∙ sym (asks_none k u _ waits.ended)

-- what is told is what the session's machine tells
pub read_asks : (k : Seat) (u : SessionState) (l : Lasting) (its : Told) → IsEnded l its u → Done its ≡ session_ask k u
read_asks k u l its ended = sym (asks_none k u its ended.ended)

serial_is : (serial : Serial) (n : ℕ) → serial.0 ≡ n → serial ≡ record { 0 = n }
serial_is serial n e = λ i. record { 0 = e i }

pub update_asks : (k : Seat) (m u : SessionState) (l : Lasting) (serial : Serial) (reply : Reply) → lasting m ≡ l → serial.0 ≡ m.serial + 1 → IsEnded (record l { serial = l.serial + 1 }) (told.Done (record { 0 = l.serial + 1 }) reply) u
    → Done (told.Done serial reply) ≡ session_ask k u
update_asks k m u l serial reply alike e done =
    ap (λ (s : Serial). Done (told.Done s reply)) (serial_is serial (l.serial + 1) (e ∙ ap (λ (n : ℕ). n + 1) (serial_lasts m ∙ ap (λ (x : Lasting). x.serial) alike)))
    ∙ sym (asks_none k u (told.Done (record { 0 = l.serial + 1 }) reply) done.ended)

-- a store whose calls have no bound
bounds_none : (b : Option Bounds) → is_some (tail_bound b) ≡ false → b ≡ None
bounds_none None h = refl
bounds_none (Some bounds) h = absurd (cc h)

-- the same of an update that waits, if the machine had room for it, and calls have no bound
pub waiting_ended : (k : Seat) (m n : Sitter) (s u : SessionState) (op : Op) (g : Going) (r : Option Told) → Goes (course_of k s op (call.Op op)) k op g → is_read op ≡ false → lasting m.state ≡ lasting s
    → IfSome r (λ (its : Told). (its ≡ told.Pending (record { 0 = m.state.serial + 1 }) reason.Contended) × (length m.state.requests + 1 < max_pending) × (n ≡ record m { state = update_waiting m.state op }))
    → IfSome r (λ (its : Told). is_some g.bound ≡ false) → (bounds_of k.shape ≡ None → IsWaiting (course_of k s op (call.Op op)) u)
    → IfSome r (λ (its : Told). (Done its ≡ session_ask k u) × IsCaughtUp n.state u)
waiting_ended k m n s u op g (Some its) goes updates alike h none waits =
    let so = waits (bounds_none (bounds_of k.shape) (ap (λ (o : Option ℕ). is_some o) goes.its_bound ∙ none)) in
    (waiting_asks k m.state s u op its alike h.0 so, waiting_caught_up m.state n.state u k s op updates alike (ap (λ (x : Sitter). x.state) h.2) so)
waiting_ended k m n s u op g None goes updates alike h none waits = tt

pub waiting_seat : (m n : Sitter) (op : Op) (r : Option Told)
    → IfSome r (λ (its : Told). (its ≡ told.Pending (record { 0 = m.state.serial + 1 }) reason.Contended) × (length m.state.requests + 1 < max_pending) × (n ≡ record m { state = update_waiting m.state op })) → IfNone r (n ≡ m) → n.seat ≡ m.seat
waiting_seat m n op (Some its) h none = ap (λ (x : Sitter). x.seat) h.2
waiting_seat m n op None h none = ap (λ (x : Sitter). x.seat) none

-- so there is room for another behind it
pub room_left : (requests : List PendingRequest) (its : PendingRequest) → length requests + 1 < max_pending → is_full (requests ++ its ∷ []) ≡ false
room_left requests its few = let e : length (requests ++ its ∷ []) ≡ length requests + 1 = length_push requests its in grind (arith, nat_tests, e)

waiting_by : (m n : Sitter) (op : Op) (g : Going) → length m.state.requests + 1 < max_pending → n ≡ record m { state = update_waiting m.state op } → GoesBy m.seat m.state g → GoesBy n.seat n.state g
waiting_by m n op g few e by = goes_on_by m n (update_waiting m.state op) g e refl refl refl refl (room_left m.state.requests _ few) refl by

pub waiting_goes : (m n : Sitter) (op : Op) (g : Going) (r : Option Told)
    → IfSome r (λ (its : Told). (its ≡ told.Pending (record { 0 = m.state.serial + 1 }) reason.Contended) × (length m.state.requests + 1 < max_pending) × (n ≡ record m { state = update_waiting m.state op })) → IfNone r (n ≡ m) → GoesBy m.seat m.state g
    → GoesBy n.seat n.state g
waiting_goes m n op g (Some its) h none by = waiting_by m n op g h.1 h.2 by
waiting_goes m n op g None h none by = subst (λ (x : Sitter). GoesBy x.seat x.state g) (sym none) by

-- two machines of which the same lasts begin a call alike
pub begun_alike : (k q : Seat) (r s : SessionState) (its : Call) → k ≡ q → StandAlike (session_begun k r its) (session_begun k s its) → StandAlike (begins k r its) (begins q s its)
unfolding begins
begun_alike k q r s its same alike = subst (λ (x : Seat). StandAlike (session_begun k r its) (session_begun x s its)) same alike
