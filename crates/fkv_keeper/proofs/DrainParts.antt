-- What every turn has met of the drain slots, where a part of it was left out for want of one.
use Rattle.std.proofs.Common.{◌≡◌, ℕ, refl, sym, subst, List, Bool, true, false}
use Rattle.std.specs.Prelude.{⊤}
use Rattle.fkv_base.specs.declared.shapes.Shape.{Shape}
use Rattle.fkv_plane.specs.declared.actions.Action.{Action}
use Rattle.fkv_plane.specs.declared.asks.Ask.{Ask}
use Rattle.fkv_plane.specs.declared.asks.Ask.TheVariants.{Done}
use Rattle.fkv_plane.specs.declared.places.Places.{Places}
use Rattle.fkv_log.specs.declared.moving.MoveAnswer.{MoveAnswer}
use Rattle.fkv_log.specs.declared.moving.MoveAnswer.TheVariants as moved
use Rattle.fkv_log.specs.declared.shifting.ShiftAnswer.{ShiftAnswer}
use Rattle.fkv_log.specs.declared.shifting.ShiftAnswer.TheVariants as shift
use Rattle.fkv_log.specs.Shifting.{shift_ask, shift_next, shift_next_ask}
use Rattle.fkv_log.specs.Turning.{turn_ask, turn_next, turn_next_ask}
use Rattle.fkv_epoch.specs.Scanning.{scan_ask, scan_next}
use Rattle.fkv_epoch.specs.Claiming.{claim_ask, claim_next, claim_given}
use Rattle.fkv_flush.specs.declared.answers.DeviceAnswer.{DeviceAnswer}
use Rattle.fkv_flush.specs.declared.answers.DeviceAnswer.TheVariants as device
use Rattle.fkv_flush.specs.Flushing.{flush_ask, flush_next, flush_done}
use Rattle.fkv_flush.specs.Serving.{serve_ask, serve_next, serve_read, mailbox_from}
use Rattle.fkv_maintain.specs.declared.maintaining.MaintainAnswer.TheVariants as answer
use Rattle.fkv_maintain.specs.declared.maintaining.Maintaining.{Maintaining}
use Rattle.fkv_maintain.specs.declared.maintaining.Maintaining.TheVariants.{Through, Spent, Broken, Scans, Claims, Flushes, Shifts, Turns, Serves}
use Rattle.fkv_maintain.specs.Maintaining.{MaintainState, maintaining_ask, maintain_ask, scan_ledto, claim_ledto, flush_ledto, shift_ledto, serve_ledto, serve_begun, turn_ledto, maintaining_next, maintain_next, maintaining_given, maintain_given, maintaining_called, maintain_called, flush_told}
use Rattle.fkv_commit.specs.Exchanges.{Exchange, exchanged}
use Rattle.fkv_keeper.specs.DrainLaws.{HasSoughtAll}
use Rattle.fkv_keeper.proofs.DrainSought.{passed_told, still_sought, now_sought}
use Rattle.fkv_keeper.proofs.DrainMoves.{ShiftKnows, ShiftOutcome, shift_step, TurnKnows, TurnOutcome, turn_step}

abbrev pub MaintainKnows : MaintainState → Maintaining → List Exchange → Type 0
MaintainKnows s Shifts told = ShiftKnows s.shift.step s.shift.mover told
MaintainKnows s Turns told = TurnKnows s.turn.step s.turn.mover told
MaintainKnows s step told = ⊤

-- a part was left out where all slots were sought in vain
pub record IsLeftOut (s : MaintainState) (told : List Exchange) : Type 0 where
  pub knows : MaintainKnows s s.step told
  pub full : s.is_drain_full ≡ true → HasSoughtAll told

at_step : (s : MaintainState) (step : Maintaining) (told : List Exchange) → s.step ≡ step → MaintainKnows s step told → (s.is_drain_full ≡ true → HasSoughtAll told) → IsLeftOut s told
at_step s step told e knows full = record { knows = subst (λ (x : Maintaining). MaintainKnows s x told) (sym e) knows; full = full }

scan_led : (s : MaintainState) (ask : Ask (Unit {0})) (told : List Exchange) → s.step ≡ Scans → (s.is_drain_full ≡ true → HasSoughtAll told) → IsLeftOut (scan_ledto s ask) told
unfolding scan_ledto
scan_led s (Done its) told e full = record { knows = tt; full = full }
scan_led s ask told e full = at_step s Scans told e tt full

claim_led : (s : MaintainState) (ask : Ask (Unit {0})) (told : List Exchange) → s.step ≡ Claims → (s.is_drain_full ≡ true → HasSoughtAll told) → IsLeftOut (claim_ledto s ask) told
unfolding claim_ledto
claim_led s (Done its) told e full = record { knows = tt; full = full }
claim_led s ask told e full = at_step s Claims told e tt full

flush_led : (s : MaintainState) (ask : Ask DeviceAnswer) (told : List Exchange) → s.step ≡ Flushes → (s.is_drain_full ≡ true → HasSoughtAll told) → IsLeftOut (flush_ledto s ask) told
unfolding flush_ledto
flush_led s (Done device.Through) told e full = record { knows = tt; full = full }
flush_led s ask told e full = at_step s Flushes told e tt full

shift_led : (s : MaintainState) (ask : Ask ShiftAnswer) (told : List Exchange) → s.step ≡ Shifts → ShiftOutcome s.shift ask told → (s.is_drain_full ≡ true → HasSoughtAll told) → IsLeftOut (shift_ledto s ask) told
unfolding shift_ledto
shift_led s (Done (shift.Through tail)) told e its full = record { knows = tt; full = full }
shift_led s (Done (shift.NoSlot tail)) told e its full = record { knows = tt; full = λ left. now_sought told (its.none tail refl) }
shift_led s (Done (shift.Spent tail)) told e its full = record { knows = tt; full = full }
shift_led s ask told e its full = at_step s Shifts told e (its.knows refl) full

serve_led : (s : MaintainState) (ask : Ask DeviceAnswer) (told : List Exchange) → s.step ≡ Serves → (s.is_drain_full ≡ true → HasSoughtAll told) → IsLeftOut (serve_ledto s ask) told
unfolding serve_ledto
serve_led s (Done device.Through) told e full = record { knows = tt; full = full }
serve_led s ask told e full = at_step s Serves told e tt full

served : (shape : Shape) (s : MaintainState) (told : List Exchange) → (s.is_drain_full ≡ true → HasSoughtAll told) → IsLeftOut (serve_begun shape s) told
served shape s told full = serve_led (record s { serving = mailbox_from shape.sessions 0; step = Serves }) (serve_ask (mailbox_from shape.sessions 0)) told refl full

turn_led : (shape : Shape) (s : MaintainState) (ask : Ask MoveAnswer) (told : List Exchange) → s.step ≡ Turns → TurnOutcome s.turn ask told → (s.is_drain_full ≡ true → HasSoughtAll told) → IsLeftOut (turn_ledto shape s ask) told
unfolding turn_ledto
turn_led shape s (Done moved.Through) told e its full = served shape s told full
turn_led shape s (Done moved.NoSlot) told e its full = served shape (record s { is_drain_full = true }) told (λ left. now_sought told (its.none refl))
turn_led shape s (Done moved.Spent) told e its full = record { knows = tt; full = full }
turn_led shape s ask told e its full = at_step s Turns told e (its.knows refl) full

reply_at : (shape : Shape) (p : Places) (s : MaintainState) (step : Maintaining) (told : List Exchange) (reply : ℕ) → s.step ≡ step → MaintainKnows s step told → (s.is_drain_full ≡ true → HasSoughtAll told)
    → IsLeftOut (maintaining_next shape p s step reply) (exchanged (maintaining_ask shape p s step) reply told)
unfolding maintaining_next maintaining_ask
reply_at shape p s Through told reply e knows full = at_step s Through _ e tt (λ left. still_sought (Done answer.Through) reply told (full left))
reply_at shape p s Spent told reply e knows full = at_step s Spent _ e tt (λ left. still_sought (Done answer.Spent) reply told (full left))
reply_at shape p s Broken told reply e knows full = at_step s Broken _ e tt (λ left. still_sought (Done answer.Broken) reply told (full left))
reply_at shape p s Scans told reply e knows full = scan_led (record s { scanning = scan_next shape.sessions s.scanning reply }) (scan_ask (scan_next shape.sessions s.scanning reply)) _ e (λ left. still_sought _ reply told (full left))
reply_at shape p s Claims told reply e knows full = claim_led (record s { claiming = claim_next s.claiming reply }) (claim_ask (claim_next s.claiming reply)) _ e (λ left. still_sought _ reply told (full left))
reply_at shape p s Flushes told reply e knows full = flush_led _ (flush_ask p (flush_next shape.page s.flushing reply)) _ e (λ left. still_sought _ reply told (full left))
reply_at shape p s Shifts told reply e knows full =
    subst (λ (x : List Exchange). IsLeftOut (shift_ledto (record s { shift = shift_next shape s.shift reply }) (shift_next_ask shape s.shift reply)) x) (sym (passed_told (shift_ask s.shift) answer.Through reply told))
    (shift_led (record s { shift = shift_next shape s.shift reply }) (shift_next_ask shape s.shift reply) (exchanged (shift_ask s.shift) reply told) e (shift_step shape s.shift told reply knows) (λ left. still_sought (shift_ask s.shift) reply told (full left)))
reply_at shape p s Turns told reply e knows full =
    subst (λ (x : List Exchange). IsLeftOut (turn_ledto shape (record s { turn = turn_next shape s.turn reply }) (turn_next_ask shape s.turn reply)) x) (sym (passed_told (turn_ask shape s.turn) answer.Through reply told))
    (turn_led shape (record s { turn = turn_next shape s.turn reply }) (turn_next_ask shape s.turn reply) (exchanged (turn_ask shape s.turn) reply told) e (turn_step shape s.turn told reply knows) (λ left. still_sought (turn_ask shape s.turn) reply told (full left)))
reply_at shape p s Serves told reply e knows full = serve_led (record s { serving = serve_next shape.sessions s.begin.0 s.serving reply }) (serve_ask (serve_next shape.sessions s.begin.0 s.serving reply)) _ e (λ left. still_sought _ reply told (full left))

pub maintain_replied : (shape : Shape) (p : Places) (s : MaintainState) (told : List Exchange) (reply : ℕ) → IsLeftOut s told → IsLeftOut (maintain_next shape p s reply) (exchanged (maintain_ask shape p s) reply told)
maintain_replied shape p s told reply its = reply_at shape p s s.step told reply refl its.knows its.full

given_at : (s : MaintainState) (step : Maintaining) (told : List Exchange) (action : Action) → s.step ≡ step → IsLeftOut s told → IsLeftOut (maintaining_given s step action) told
unfolding maintaining_given
given_at s Claims told action e its = claim_led (record s { claiming = claim_given s.claiming action }) (claim_ask (claim_given s.claiming action)) told e its.full
given_at s step told action e its = its

pub maintain_got : (s : MaintainState) (told : List Exchange) (action : Action) → IsLeftOut s told → IsLeftOut (maintain_given s action) told
maintain_got s told action its = given_at s s.step told action refl its

called_at : (shape : Shape) (p : Places) (s : MaintainState) (step : Maintaining) (told : List Exchange) (done : Bool) (bytes : List ℕ) → s.step ≡ step → IsLeftOut s told → IsLeftOut (maintaining_called shape p s step done bytes) told
unfolding maintaining_called
called_at shape p s Flushes told true bytes e its = flush_led _ (flush_told shape p (flush_done shape.page s.flushing true)) told e its.full
called_at shape p s Flushes told false bytes e its = record { knows = tt; full = its.full }
called_at shape p s Serves told true bytes e its = serve_led _ (serve_ask (serve_read s.serving bytes)) told e its.full
called_at shape p s Serves told false bytes e its = record { knows = tt; full = its.full }
called_at shape p s step told done bytes e its = its

pub maintain_made_call : (shape : Shape) (p : Places) (s : MaintainState) (told : List Exchange) (done : Bool) (bytes : List ℕ) → IsLeftOut s told → IsLeftOut (maintain_called shape p s done bytes) told
maintain_made_call shape p s told done bytes its = called_at shape p s s.step told done bytes refl its
