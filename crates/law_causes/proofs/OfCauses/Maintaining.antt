-- A turn's own parts end it early only where the epoch's word is the last, or where a call of the device fails.
use Rattle.std.proofs.Common.{◌≡◌, ℕ, ◌≤◌, refl, inl, inr, ◌⊎◌, sym, subst, arith, List, Bool, true, false}
use Rattle.std.specs.Prelude.{⊤, ◌+◌, ◌==◌, nat_lt, nat_le, if◌then◌else◌}
use Rattle.std.proofs.lemmas.Bool.Decides.{nat_tests}
use Rattle.fkv_base.specs.Limits.{drain_slots, last_epoch}
use Rattle.fkv_base.specs.declared.numbers.Addr.{Addr}
use Rattle.fkv_base.specs.declared.shapes.Shape.{Shape}
use Rattle.fkv_plane.specs.declared.actions.Action.{Action}
use Rattle.fkv_plane.specs.declared.asks.Ask.{Ask}
use Rattle.fkv_plane.specs.declared.asks.Ask.TheVariants.{Done, Load}
use Rattle.fkv_plane.specs.declared.places.Places.{Places}
use Rattle.fkv_plane.specs.declared.places.SharedWord.TheVariants as one
use Rattle.fkv_plane.specs.Places.{shared_place}
use Rattle.fkv_plane.specs.Passing.{passed}
use Rattle.fkv_epoch.specs.declared.arming.Arming.{Arming}
use Rattle.fkv_epoch.specs.declared.raising.RaiseAnswer.{RaiseAnswer}
use Rattle.fkv_epoch.specs.declared.raising.RaiseAnswer.TheVariants as raised
use Rattle.fkv_epoch.specs.declared.raising.Raising.{Raising}
use Rattle.fkv_epoch.specs.declared.raising.Raising.TheVariants as raise
use Rattle.fkv_epoch.specs.Raising.{free_after, raise_ask, raise_next, raise_next_ask, raise_on}
use Rattle.fkv_epoch.specs.Arming.{arm_ask}
use Rattle.fkv_epoch.specs.Claiming.{claim_ask, claim_given, claim_next}
use Rattle.fkv_epoch.specs.Scanning.{scan_ask, scan_next}
use Rattle.fkv_flush.specs.declared.answers.DeviceAnswer.{DeviceAnswer}
use Rattle.fkv_flush.specs.declared.answers.DeviceAnswer.TheVariants as device
use Rattle.fkv_flush.specs.Flushing.{bytes_done, bytes_next, flush_ask, flush_done, flush_next}
use Rattle.fkv_flush.specs.Serving.{mailbox_from, serve_ask, serve_next, serve_read}
use Rattle.fkv_log.specs.declared.moving.MoveAnswer.{MoveAnswer}
use Rattle.fkv_log.specs.declared.moving.MoveAnswer.TheVariants as moved
use Rattle.fkv_log.specs.declared.moving.Moving.{Moving}
use Rattle.fkv_log.specs.declared.moving.Moving.TheVariants as moves
use Rattle.fkv_log.specs.declared.shifting.ShiftAnswer.{ShiftAnswer}
use Rattle.fkv_log.specs.declared.shifting.ShiftAnswer.TheVariants as shift
use Rattle.fkv_log.specs.declared.shifting.Shifting.{Shifting}
use Rattle.fkv_log.specs.declared.shifting.Shifting.TheVariants as shifts
use Rattle.fkv_log.specs.declared.turning.Turning.{Turning}
use Rattle.fkv_log.specs.declared.turning.Turning.TheVariants as turns
use Rattle.fkv_log.specs.declared.moving.Offset.TheVariants.{ReadOnly}
use Rattle.fkv_log.specs.Moving.{Mover, move_ask, move_begun, move_next_ask, moving_ask, moving_next, moving_next_ask, raise_told}
use Rattle.fkv_log.specs.Shifting.{ShiftState, move_told, mutable_start, shift_ask, shift_next, shift_next_ask, shifting_ask, shifting_next, shifting_next_ask}
use Rattle.fkv_log.specs.Turning.{TurnState, turn_ask, turn_next, turn_next_ask, turn_told, turning_ask, turning_next, turning_next_ask}
use Rattle.fkv_maintain.specs.declared.maintaining.MaintainAnswer.{MaintainAnswer}
use Rattle.fkv_maintain.specs.declared.maintaining.MaintainAnswer.TheVariants as answer
use Rattle.fkv_maintain.specs.declared.maintaining.Maintaining.{Maintaining}
use Rattle.fkv_maintain.specs.declared.maintaining.Maintaining.TheVariants.{Through, Spent, Broken, Scans, Claims, Flushes, Shifts, Turns, Serves}
use Rattle.law_causes.proofs.OfCauses.Asking.{passed_alone}
use Rattle.fkv_maintain.specs.Maintaining.{MaintainState, claim_ledto, device_asked, flush_ledto, maintain_ask, maintain_called, maintain_given, maintain_next, maintaining_ask, maintaining_called, maintaining_given, maintaining_next, scan_ledto, serve_begun, serve_ledto, shift_ledto, turn_ledto, flush_told}

-- ---- the epoch's word is loaded, and it is the last
abbrev pub LoadsLast : {A : Type 0} → Ask A → ℕ → Type 0
LoadsLast ask reply = (last_epoch ≤ reply) × (ask ≡ Load (shared_place one.Epoch))

either : (b : Bool) → (b ≡ true) ⊎ (b ≡ false)
either true = inl refl
either false = inr refl

freed : (slot : ℕ) → raise_ask (free_after slot) ≡ Done raised.Spent → ⊥
unfolding free_after raise_ask
freed slot e = elim (either (nat_lt (slot + 1) drain_slots)) [
  | inl is ↦ let it = rw is at e in absurd (cc)
  | inr is ↦ let it = rw is at e in absurd (cc)
]

raise_spent : (r : Raising) (reply : ℕ) → raise_next_ask r reply ≡ Done raised.Spent → LoadsLast (raise_ask r) reply
unfolding raise_next raise_next_ask raise_ask
raise_spent raise.AtRest reply e = absurd (cc)
raise_spent raise.LoadsEpoch reply e = elim (either (nat_le last_epoch reply)) [
  | inl is ↦ (grind (arith, nat_tests, is), refl)
  | inr is ↦ let it = rw is at e in absurd (cc)
]
raise_spent (raise.MeetsSlot slot) reply e = elim (either (reply == 0)) [
  | inl is ↦ let it = rw is at e in absurd (cc)
  | inr is ↦ let it = rw is at e in absurd (freed slot it)
]
raise_spent (raise.HoldsSlot slot) reply e = elim (either (reply == 0)) [
  | inl is ↦ let it = rw is at e in absurd (cc)
  | inr is ↦ let it = rw is at e in absurd (freed slot it)
]
raise_spent (raise.HasSlot slot) reply e = absurd (cc)
raise_spent (raise.RaisesEpoch slot) reply e = absurd (cc)

-- ---- a move
kept_spent : {A B : Type 0} (ask : Ask A) (other its : B) (e : passed ask other ≡ Done its) → (other ≡ its → ⊥) → ⊥
kept_spent ask other its e apart = apart (passed_alone ask other its e)

at_rest : (step : Moving) (raising : Raising) (arming : Arming) → moving_ask step raising arming ≡ Done moved.Spent → ⊥
unfolding moving_ask
at_rest moves.AtRest raising arming e = absurd (cc)
at_rest (moves.Raises target) raising arming e = kept_spent (raise_ask raising) moved.Through moved.Spent e (λ same. cc)
at_rest (moves.MovesOffset target) raising arming e = absurd (cc)
at_rest (moves.Puts target slot) raising arming e = absurd (cc)
at_rest moves.Arms raising arming e = kept_spent (arm_ask arming) moved.Through moved.Spent e (λ same. cc)

told_spent : (ask : Ask RaiseAnswer) (next : Mover) → raise_told ask next ≡ Done moved.Spent → ask ≡ Done raised.Spent
unfolding raise_told
told_spent (Done raised.NoSlot) next e = absurd (cc)
told_spent (Done raised.Spent) next e = refl
told_spent ask next e = absurd (at_rest next.step next.raising next.arming e)

on_not : (r : Raising) → raise_ask r ≡ Done raised.Spent → ⊥
unfolding raise_ask
on_not raise.AtRest e = cc
on_not raise.LoadsEpoch e = cc
on_not (raise.MeetsSlot slot) e = cc
on_not (raise.HoldsSlot slot) e = cc
on_not (raise.HasSlot slot) e = cc
on_not (raise.RaisesEpoch slot) e = cc

passes : {A B : Type 0} (ask : Ask A) (other : B) (reply : ℕ) → LoadsLast ask reply → LoadsLast (passed ask other) reply
unfolding passed
passes ask other reply is = (is.0, rw is.1 refl)

move_at : (step : Moving) (raising : Raising) (arming : Arming) (reply : ℕ) → moving_next_ask step raising arming reply ≡ Done moved.Spent → LoadsLast (moving_ask step raising arming) reply
unfolding moving_next_ask moving_ask
move_at (moves.Raises target) raising arming reply e = passes (raise_ask raising) moved.Through reply (raise_spent raising reply (told_spent (raise_next_ask raising reply) (moving_next (moves.Raises target) raising arming reply) e))
move_at (moves.MovesOffset target) raising arming reply e = absurd (on_not (raise_on raising) (told_spent (raise_ask (raise_on raising)) (moving_next (moves.MovesOffset target) raising arming reply) e))
move_at step raising arming reply e = (let m : Mover = moving_next step raising arming reply in absurd (at_rest m.step m.raising m.arming e))

move_spent : (m : Mover) (reply : ℕ) → move_next_ask m reply ≡ Done moved.Spent → LoadsLast (move_ask m) reply
move_spent m reply e = move_at m.step m.raising m.arming reply e

-- ---- a shift
shift_rests : (step : Shifting) (m : Mover) (tail : Addr) → shifting_ask step m ≡ Done (shift.Spent tail) → ⊥
unfolding shifting_ask
shift_rests shifts.AtRest m tail e = absurd (cc)
shift_rests shifts.LoadsTail m tail e = absurd (cc)
shift_rests (shifts.LoadsReadOnly from) m tail e = absurd (cc)
shift_rests (shifts.Moves from) m tail e = kept_spent (move_ask m) (shift.Through (record { 0 = from })) (shift.Spent tail) e (λ same. cc)

shift_told : (from : ℕ) (ask : Ask MoveAnswer) (next : ShiftState) (tail : Addr) → move_told from ask next ≡ Done (shift.Spent tail) → ask ≡ Done moved.Spent
unfolding move_told
shift_told from (Done moved.Through) next tail e = absurd (cc)
shift_told from (Done moved.NoSlot) next tail e = absurd (cc)
shift_told from (Done moved.Spent) next tail e = refl
shift_told from ask next tail e = absurd (shift_rests next.step next.mover tail e)

either_not : (b : Bool) (from : ℕ) (next : ShiftState) (tail : Addr) → (if b then shift_ask next else Done (shift.Through (record { 0 = from }))) ≡ Done (shift.Spent tail) → ⊥
either_not true from next tail e = shift_rests next.step next.mover tail e
either_not false from next tail e = absurd (cc)

shift_at : (shape : Shape) (step : Shifting) (m : Mover) (reply : ℕ) (tail : Addr) → shifting_next_ask shape step m reply ≡ Done (shift.Spent tail) → LoadsLast (shifting_ask step m) reply
unfolding shifting_next_ask shifting_ask
shift_at shape (shifts.LoadsReadOnly from) m reply tail e = absurd (either_not (nat_lt reply (mutable_start shape.page shape.mutable from)) from (record { step = shifts.Moves from; mover = move_begun ReadOnly (mutable_start shape.page shape.mutable from) }) tail e)
shift_at shape (shifts.Moves from) m reply tail e = passes (move_ask m) (shift.Through (record { 0 = from })) reply (move_spent m reply (shift_told from (move_next_ask m reply) (shifting_next shape (shifts.Moves from) m reply) tail e))
shift_at shape step m reply tail e = (let s : ShiftState = shifting_next shape step m reply in absurd (shift_rests s.step s.mover tail e))

shift_spent : (shape : Shape) (s : ShiftState) (reply : ℕ) (tail : Addr) → shift_next_ask shape s reply ≡ Done (shift.Spent tail) → LoadsLast (shift_ask s) reply
shift_spent shape s reply tail e = shift_at shape s.step s.mover reply tail e

-- ---- the turn of a page
turn_rests : (shape : Shape) (step : Turning) (m : Mover) → turning_ask shape step m ≡ Done moved.Spent → ⊥
unfolding turning_ask
turn_rests shape turns.AtRest m e = absurd (cc)
turn_rests shape (turns.LoadsLimit form tail) m e = absurd (cc)
turn_rests shape (turns.LoadsClosed form limit) m e = absurd (cc)
turn_rests shape (turns.RaisesLimit limit) m e = absurd (cc)
turn_rests shape (turns.LoadsHead end) m e = absurd (cc)
turn_rests shape (turns.LoadsFlushed end) m e = absurd (cc)
turn_rests shape turns.Moves m e = kept_spent (move_ask m) moved.Through moved.Spent e (λ same. cc)

page_told : (shape : Shape) (ask : Ask MoveAnswer) (next : TurnState) → turn_told shape ask next ≡ Done moved.Spent → ask ≡ Done moved.Spent
unfolding turn_told
page_told shape (Done its) next e = e
page_told shape ask next e = absurd (turn_rests shape next.step next.mover e)

turn_at : (shape : Shape) (step : Turning) (m : Mover) (reply : ℕ) → turning_next_ask shape step m reply ≡ Done moved.Spent → LoadsLast (turning_ask shape step m) reply
unfolding turning_next_ask turning_ask
turn_at shape turns.Moves m reply e = passes (move_ask m) moved.Through reply (move_spent m reply (page_told shape (move_next_ask m reply) (turning_next shape turns.Moves m reply) e))
turn_at shape step m reply e = (let s : TurnState = turning_next shape step m reply in absurd (turn_rests shape s.step s.mover e))

turn_spent : (shape : Shape) (s : TurnState) (reply : ℕ) → turn_next_ask shape s reply ≡ Done moved.Spent → LoadsLast (turn_ask shape s) reply
turn_spent shape s reply e = turn_at shape s.step s.mover reply e

-- ---- a turn's parts
-- a part is under way
abbrev pub IsUnderWay : Maintaining → Type 0
IsUnderWay Through = ⊥
IsUnderWay Spent = ⊥
IsUnderWay Broken = ⊥
IsUnderWay step = ⊤

-- where a turn's parts have come to: they may have ended by the last epoch, or by a call that failed
abbrev pub HasComeTo : Type 0 → Type 0 → Maintaining → Type 0
HasComeTo last fails Spent = last
HasComeTo last fails Broken = fails
HasComeTo last fails step = ⊤

module _ (last fails : Type 0) where
  abbrev Comes : MaintainState → Type 0
  Comes s = HasComeTo last fails s.step

  on : (s : MaintainState) (step : Maintaining) → IsUnderWay step → s.step ≡ step → Comes s
  on s Through way e = absurd way
  on s Spent way e = absurd way
  on s Broken way e = absurd way
  on s Scans way e = rw e tt
  on s Claims way e = rw e tt
  on s Flushes way e = rw e tt
  on s Shifts way e = rw e tt
  on s Turns way e = rw e tt
  on s Serves way e = rw e tt

  scan_led : (s : MaintainState) (ask : Ask (Unit {0})) → s.step ≡ Scans → Comes (scan_ledto s ask)
  unfolding scan_ledto
  scan_led s (Done its) e = tt
  scan_led s ask e = on s Scans tt e

  claim_led : (s : MaintainState) (ask : Ask (Unit {0})) → s.step ≡ Claims → Comes (claim_ledto s ask)
  unfolding claim_ledto
  claim_led s (Done its) e = tt
  claim_led s ask e = on s Claims tt e

  flush_led : (s : MaintainState) (ask : Ask DeviceAnswer) → s.step ≡ Flushes → Comes (flush_ledto s ask)
  unfolding flush_ledto
  flush_led s (Done device.Through) e = tt
  flush_led s ask e = on s Flushes tt e

  shift_leads : (s : MaintainState) (ask : Ask ShiftAnswer) → s.step ≡ Shifts → ((tail : Addr) → ask ≡ Done (shift.Spent tail) → last) → Comes (shift_ledto s ask)
  unfolding shift_ledto
  shift_leads s (Done (shift.Through tail)) e spent = tt
  shift_leads s (Done (shift.NoSlot tail)) e spent = tt
  shift_leads s (Done (shift.Spent tail)) e spent = spent tail refl
  shift_leads s ask e spent = on s Shifts tt e

  serve_led : (s : MaintainState) (ask : Ask DeviceAnswer) → s.step ≡ Serves → Comes (serve_ledto s ask)
  unfolding serve_ledto
  serve_led s (Done device.Through) e = tt
  serve_led s ask e = on s Serves tt e

  served : (shape : Shape) (s : MaintainState) → Comes (serve_begun shape s)
  served shape s = serve_led (record s { serving = mailbox_from shape.sessions 0; step = Serves }) (serve_ask (mailbox_from shape.sessions 0)) refl

  turn_leads : (shape : Shape) (s : MaintainState) (ask : Ask MoveAnswer) → s.step ≡ Turns → (ask ≡ Done moved.Spent → last) → Comes (turn_ledto shape s ask)
  unfolding turn_ledto
  turn_leads shape s (Done moved.Through) e spent = served shape s
  turn_leads shape s (Done moved.NoSlot) e spent = served shape (record s { is_drain_full = true })
  turn_leads shape s (Done moved.Spent) e spent = spent refl
  turn_leads shape s ask e spent = on s Turns tt e

  reply_at : (shape : Shape) (p : Places) (s : MaintainState) (step : Maintaining) (reply : ℕ) → s.step ≡ step → IsUnderWay step → (LoadsLast (maintaining_ask shape p s step) reply → last) → Comes (maintaining_next shape p s step reply)
  unfolding maintaining_next maintaining_ask
  reply_at shape p s Through reply e way spent = absurd way
  reply_at shape p s Spent reply e way spent = absurd way
  reply_at shape p s Broken reply e way spent = absurd way
  reply_at shape p s Scans reply e way spent = scan_led (record s { scanning = scan_next shape.sessions s.scanning reply }) (scan_ask (scan_next shape.sessions s.scanning reply)) e
  reply_at shape p s Claims reply e way spent = claim_led (record s { claiming = claim_next s.claiming reply }) (claim_ask (claim_next s.claiming reply)) e
  reply_at shape p s Flushes reply e way spent = flush_led (record s { bytes = bytes_next s.flushing s.bytes reply; flushing = flush_next shape.page s.flushing reply }) (flush_ask p (flush_next shape.page s.flushing reply)) e
  reply_at shape p s Shifts reply e way spent =
      shift_leads (record s { shift = shift_next shape s.shift reply }) (shift_next_ask shape s.shift reply) e (λ tail ends. spent (passes (shift_ask s.shift) answer.Through reply (shift_spent shape s.shift reply tail ends)))
  reply_at shape p s Turns reply e way spent =
      turn_leads shape (record s { turn = turn_next shape s.turn reply }) (turn_next_ask shape s.turn reply) e (λ ends. spent (passes (turn_ask shape s.turn) answer.Through reply (turn_spent shape s.turn reply ends)))
  reply_at shape p s Serves reply e way spent = serve_led (record s { serving = serve_next shape.sessions s.begin.0 s.serving reply }) (serve_ask (serve_next shape.sessions s.begin.0 s.serving reply)) e

  pub maintain_replied : (shape : Shape) (p : Places) (s : MaintainState) (reply : ℕ) → IsUnderWay s.step → (LoadsLast (maintain_ask shape p s) reply → last) → HasComeTo last fails (maintain_next shape p s reply).step
  maintain_replied shape p s reply way spent = reply_at shape p s s.step reply refl way spent

  given_at : (s : MaintainState) (step : Maintaining) (action : Action) → s.step ≡ step → IsUnderWay step → Comes (maintaining_given s step action)
  unfolding maintaining_given
  given_at s Claims action e way = claim_led (record s { claiming = claim_given s.claiming action }) (claim_ask (claim_given s.claiming action)) e
  given_at s step action e way = on s step way e

  pub maintain_got : (s : MaintainState) (action : Action) → IsUnderWay s.step → HasComeTo last fails (maintain_given s action).step
  maintain_got s action way = given_at s s.step action refl way

  called_at : (shape : Shape) (p : Places) (s : MaintainState) (step : Maintaining) (done : Bool) (bytes : List ℕ) → s.step ≡ step → IsUnderWay step → (done ≡ false → fails) → Comes (maintaining_called shape p s step done bytes)
  unfolding maintaining_called
  called_at shape p s Flushes true bytes e way failed = flush_led (record s { bytes = bytes_done s.flushing s.bytes; flushing = flush_done shape.page s.flushing true }) (flush_told shape p (flush_done shape.page s.flushing true)) e
  called_at shape p s Flushes false bytes e way failed = failed refl
  called_at shape p s Serves true bytes e way failed = serve_led (record s { serving = serve_read s.serving bytes }) (serve_ask (serve_read s.serving bytes)) e
  called_at shape p s Serves false bytes e way failed = failed refl
  called_at shape p s step done bytes e way failed = on s step way e

  pub maintain_made_call : (shape : Shape) (p : Places) (s : MaintainState) (done : Bool) (bytes : List ℕ) → IsUnderWay s.step → (done ≡ false → fails) → HasComeTo last fails (maintain_called shape p s done bytes).step
  maintain_made_call shape p s done bytes way failed = called_at shape p s s.step done bytes refl way failed

-- ---- what its answers say of its parts
device_not : (ask : Ask DeviceAnswer) (its : MaintainAnswer) → device_asked ask ≡ Done its → (its ≡ answer.Device) ⊎ (its ≡ answer.Through)
unfolding device_asked
device_not (Done device.Device) its e = inl (cc)
device_not ask its e = inr (sym (passed_alone ask answer.Through its e))

spent_at : (shape : Shape) (p : Places) (s : MaintainState) (step : Maintaining) → maintaining_ask shape p s step ≡ Done answer.Spent → step ≡ Spent
unfolding maintaining_ask
spent_at shape p s Through e = absurd (cc)
spent_at shape p s Spent e = refl
spent_at shape p s Broken e = absurd (cc)
spent_at shape p s Scans e = absurd (kept_spent (scan_ask s.scanning) answer.Through answer.Spent e (λ same. cc))
spent_at shape p s Claims e = absurd (kept_spent (claim_ask s.claiming) answer.Through answer.Spent e (λ same. cc))
spent_at shape p s Flushes e = absurd (elim (device_not (flush_ask p s.flushing) answer.Spent e) [ inl same ↦ cc | inr same ↦ cc ])
spent_at shape p s Shifts e = absurd (kept_spent (shift_ask s.shift) answer.Through answer.Spent e (λ same. cc))
spent_at shape p s Turns e = absurd (kept_spent (turn_ask shape s.turn) answer.Through answer.Spent e (λ same. cc))
spent_at shape p s Serves e = absurd (elim (device_not (serve_ask s.serving) answer.Spent e) [ inl same ↦ cc | inr same ↦ cc ])

broken_at : (shape : Shape) (p : Places) (s : MaintainState) (step : Maintaining) → maintaining_ask shape p s step ≡ Done answer.Broken → step ≡ Broken
unfolding maintaining_ask
broken_at shape p s Through e = absurd (cc)
broken_at shape p s Spent e = absurd (cc)
broken_at shape p s Broken e = refl
broken_at shape p s Scans e = absurd (kept_spent (scan_ask s.scanning) answer.Through answer.Broken e (λ same. cc))
broken_at shape p s Claims e = absurd (kept_spent (claim_ask s.claiming) answer.Through answer.Broken e (λ same. cc))
broken_at shape p s Flushes e = absurd (elim (device_not (flush_ask p s.flushing) answer.Broken e) [ inl same ↦ cc | inr same ↦ cc ])
broken_at shape p s Shifts e = absurd (kept_spent (shift_ask s.shift) answer.Through answer.Broken e (λ same. cc))
broken_at shape p s Turns e = absurd (kept_spent (turn_ask shape s.turn) answer.Through answer.Broken e (λ same. cc))
broken_at shape p s Serves e = absurd (elim (device_not (serve_ask s.serving) answer.Broken e) [ inl same ↦ cc | inr same ↦ cc ])

-- where it has come to by an answer
pub by_spent : (last fails : Type 0) (shape : Shape) (p : Places) (s : MaintainState) → maintain_ask shape p s ≡ Done answer.Spent → HasComeTo last fails s.step → last
by_spent last fails shape p s e comes = subst (λ (step : Maintaining). HasComeTo last fails step) (spent_at shape p s s.step e) comes

pub by_broken : (last fails : Type 0) (shape : Shape) (p : Places) (s : MaintainState) → maintain_ask shape p s ≡ Done answer.Broken → HasComeTo last fails s.step → fails
by_broken last fails shape p s e comes = subst (λ (step : Maintaining). HasComeTo last fails step) (broken_at shape p s s.step e) comes

-- an answer that ends a turn, and one that doesn't
abbrev pub GoesOn : Ask MaintainAnswer → Type 0
GoesOn (Done answer.Through) = ⊥
GoesOn (Done answer.Spent) = ⊥
GoesOn (Done answer.Broken) = ⊥
GoesOn ask = ⊤

under_way : (shape : Shape) (p : Places) (s : MaintainState) (step : Maintaining) → GoesOn (maintaining_ask shape p s step) → IsUnderWay step
unfolding maintaining_ask
under_way shape p s Through on = on
under_way shape p s Spent on = on
under_way shape p s Broken on = on
under_way shape p s Scans on = tt
under_way shape p s Claims on = tt
under_way shape p s Flushes on = tt
under_way shape p s Shifts on = tt
under_way shape p s Turns on = tt
under_way shape p s Serves on = tt

pub goes_on : (shape : Shape) (p : Places) (s : MaintainState) (ask : Ask MaintainAnswer) → maintain_ask shape p s ≡ ask → GoesOn ask → IsUnderWay s.step
goes_on shape p s ask e on = under_way shape p s s.step (subst GoesOn (sym e) on)
