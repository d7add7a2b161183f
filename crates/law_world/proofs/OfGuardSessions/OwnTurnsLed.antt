-- Where the machines inside a session's own turn lead it, in what the guard's actor is like.
use Rattle.std.proofs.Common.{◌≡◌, ℕ, ◌+◌, ◌-◌, ◌∙◌, refl, sym, ap, subst, arith, inl, inr, Bool, true, false}
use Rattle.std.proofs.lemmas.Bool.Decides.{nat_tests}
use Rattle.fkv_base.specs.Limits.{drain_slots}
use Rattle.std.specs.Prelude.{Option, Some, None, nat_lt, nat_le, ◌==◌}
use Rattle.fkv_base.specs.declared.shapes.Shape.{Shape}
use Rattle.fkv_plane.specs.declared.actions.Action.TheVariants as act
use Rattle.fkv_plane.specs.declared.asks.Ask.{Ask}
use Rattle.fkv_plane.specs.declared.asks.Ask.TheVariants.{Done}
use Rattle.fkv_plane.specs.Passing.{passed, is_done}
use Rattle.fkv_plane.proofs.Shown.{passed_done}
use Rattle.fkv_epoch.specs.declared.scanning.Scanning.{Scanning}
use Rattle.fkv_epoch.specs.declared.scanning.Scanning.TheVariants as scan
use Rattle.fkv_epoch.specs.declared.claiming.Claiming.{Claiming}
use Rattle.fkv_epoch.specs.declared.claiming.Claiming.TheVariants as claim
use Rattle.fkv_epoch.specs.Scanning.{scan_ask, scan_next, sessions_from}
use Rattle.fkv_epoch.specs.Claiming.{claim_ask, claim_next, slot_after, slot_armed}
use Rattle.fkv_epoch.specs.EpochWorld.{ToClaim}
use Rattle.fkv_log.specs.declared.moving.MoveAnswer.{MoveAnswer}
use Rattle.fkv_log.specs.declared.shifting.ShiftAnswer.{ShiftAnswer}
use Rattle.fkv_log.specs.declared.shifting.Shifting.{Shifting}
use Rattle.fkv_log.specs.declared.shifting.Shifting.TheVariants as shift
use Rattle.fkv_log.specs.declared.turning.TurnForm.TheVariants.{OpensOnly}
use Rattle.fkv_log.specs.declared.turning.Turning.{Turning}
use Rattle.fkv_log.specs.declared.turning.Turning.TheVariants as turn
use Rattle.fkv_log.specs.Moving.{Mover, move_next, move_next_ask}
use Rattle.fkv_log.specs.Shifting.{shift_ask, shifting_ask, shifting_next, shift_led, mutable_start}
use Rattle.fkv_log.specs.Turning.{turning_ask}
use Rattle.fkv_session.specs.declared.own_turns.OwnTurning.{OwnTurning}
use Rattle.fkv_session.specs.declared.own_turns.OwnTurning.TheVariants.{Ended, Scans, Claims, Shifts, Opens}
use Rattle.fkv_session.specs.OwnTurns.{OwnTurnState, own_turning_ask, scan_ledto, claim_ledto, shift_ledto, tail_told}
use Rattle.fkv_flush.specs.GuardSeen.{LastSeen}
use Rattle.fkv_flush.specs.GuardWorld as guard
use Rattle.fkv_flush.specs.GuardWorld.{ToDo, ToShift, ToTurnPage, shift_rests, turn_rests}
use Rattle.fkv_flush.proofs.Shown.{Likeness}
use Rattle.law_world.specs.GuardSessions.Likenesses.{likeness, through}
use Rattle.law_world.specs.GuardSessions.Steps.{Stays}
use Rattle.law_world.specs.GuardSessions.OwnTurns.{scan_machine, claim_machine, shift_machine, scan_onward, claim_onward, shift_onward, own_turn_onward, own_turn_likeness, own_turn_likeness_at}
use Rattle.law_world.proofs.OfGuardSessions.AppendsLed.{truth}
use Rattle.law_world.proofs.OfGuardSessions.Onwards.{Leads, Keeps, Begins, stayed}
use Rattle.law_world.specs.GuardSessions.Rows.{IsScanning, IsClaiming, IsOpening, OwnTurnKnows}

pub record OwnTurnLed (seen : LastSeen) (mid : Likeness) (o : OwnTurnState) : Type 0 where
  pub leads : Leads true mid (own_turn_onward o o.step) (own_turn_likeness seen o)
  pub knows : OwnTurnKnows o o.step

-- the scan
scan_later : (sessions : ℕ) (s : Scanning) (reply : ℕ) → scan_onward (scan_next sessions s reply) ≡ Stays
unfolding scan_next sessions_from
scan_later sessions scan.AtRest reply = refl
scan_later sessions scan.LoadsEpoch reply = elim (truth (nat_lt 0 sessions)) [ inl e ↦ rw e refl | inr e ↦ rw e refl ]
scan_later sessions (scan.LoadsSession session least) reply = elim (truth (nat_lt (session + 1) sessions)) [ inl e ↦ rw e refl | inr e ↦ rw e refl ]
scan_later sessions (scan.RaisesSafe least) reply = refl

scan_to : (seen : LastSeen) (o : OwnTurnState) (s : Scanning) → o.step ≡ Scans → scan_onward s ≡ Stays → OwnTurnLed seen (likeness (scan_machine s) None seen None) (scan_ledto (record o { scanning = s }) (scan_ask s))
unfolding scan_ask scan_ledto
scan_to seen o scan.AtRest at later = record { leads = Begins (ToDo ToClaim) refl tt refl refl tt refl; knows = tt }
scan_to seen o scan.LoadsEpoch at later = cc
scan_to seen o (scan.LoadsSession session least) at later = rw at (record { leads = Keeps refl refl; knows = tt })
scan_to seen o (scan.RaisesSafe least) at later = rw at (record { leads = Keeps refl refl; knows = tt })

pub scan_led : (seen : LastSeen) (o : OwnTurnState) (sessions : ℕ) (s : Scanning) (reply : ℕ) → o.step ≡ Scans
    → OwnTurnLed seen (likeness (scan_machine (scan_next sessions s reply)) None seen None) (scan_ledto (record o { scanning = scan_next sessions s reply }) (scan_ask (scan_next sessions s reply)))
scan_led seen o sessions s reply at = scan_to seen o (scan_next sessions s reply) at (scan_later sessions s reply)

-- the claims
slot_later : (slot : ℕ) (safe : Option ℕ) → claim_onward (slot_after slot safe) ≡ Stays
unfolding slot_after
slot_later slot None = elim (truth (nat_lt (slot + 1) drain_slots)) [ inl e ↦ rw e (not_first slot) | inr e ↦ rw e refl ]
  where
    more : (slot : ℕ) → (slot + 1 == 0) ≡ false
    more slot = grind (arith, nat_tests)

    not_first : (slot : ℕ) → claim_onward (claim.MeetsSlot (slot + 1) None) ≡ Stays
    not_first slot = rw (more slot) refl
slot_later slot (Some safe) = elim (truth (nat_lt (slot + 1) drain_slots)) [ inl e ↦ rw e refl | inr e ↦ rw e refl ]

armed_later : (slot word safe : ℕ) → claim_onward (slot_armed slot word safe) ≡ Stays
unfolding slot_armed
armed_later slot word safe = elim (truth (nat_le (word - 2) safe)) [ inl e ↦ rw e refl | inr e ↦ rw e (slot_later slot (Some safe)) ]

pub claim_later : (c : Claiming) (reply : ℕ) → claim_onward (claim_next c reply) ≡ Stays
unfolding claim_next
claim_later claim.AtRest reply = refl
claim_later (claim.MeetsSlot slot None) reply = elim (truth (nat_lt reply 2)) [ inl e ↦ rw e (slot_later slot None) | inr e ↦ rw e refl ]
claim_later (claim.MeetsSlot slot (Some safe)) reply = elim (truth (nat_lt reply 2)) [ inl e ↦ rw e (slot_later slot (Some safe)) | inr e ↦ rw e (armed_later slot reply safe) ]
claim_later (claim.LoadsSafe slot word) reply = armed_later slot word reply
claim_later (claim.TakesSlot slot word safe) reply = elim (truth (reply == word)) [ inl e ↦ rw e refl | inr e ↦ rw e (slot_later slot (Some safe)) ]
claim_later (claim.Receives slot epoch safe) reply = refl
claim_later (claim.Runs slot epoch safe action) reply = refl
claim_later (claim.FreesSlot slot safe) reply = slot_later slot (Some safe)

pub claim_led : (seen : LastSeen) (o : OwnTurnState) (c : Claiming) → o.step ≡ Claims → claim_onward c ≡ Stays → OwnTurnLed seen (likeness (claim_machine c) None seen None) (claim_ledto (record o { claiming = c }) (claim_ask c))
unfolding claim_ask claim_ledto shifting_ask
claim_led seen o claim.AtRest at later = record { leads = Begins ToShift refl tt refl refl tt refl; knows = refl }
claim_led seen o (claim.MeetsSlot slot safe) at later = rw at (record { leads = Keeps later refl; knows = tt })
claim_led seen o (claim.LoadsSafe slot word) at later = rw at (record { leads = Keeps refl refl; knows = tt })
claim_led seen o (claim.TakesSlot slot word safe) at later = rw at (record { leads = Keeps refl refl; knows = tt })
claim_led seen o (claim.Receives slot epoch safe) at later = rw at (record { leads = Keeps refl refl; knows = tt })
claim_led seen o (claim.Runs slot epoch safe (act.SafeReadOnly addr)) at later = rw at (record { leads = Keeps refl refl; knows = tt })
claim_led seen o (claim.Runs slot epoch safe (act.Close addr)) at later = rw at (record { leads = Keeps refl refl; knows = tt })
claim_led seen o (claim.Runs slot epoch safe (act.Phase phase version)) at later = rw at (record { leads = Keeps refl refl; knows = tt })
claim_led seen o (claim.FreesSlot slot safe) at later = rw at (record { leads = Keeps refl refl; knows = tt })

-- the shift: at its end the page's turn begins
pub shift_ends : (seen : LastSeen) (o : OwnTurnState) (its : ShiftAnswer) → OwnTurnLed seen (through seen) (shift_ledto o (Done its))
unfolding shift_ledto
shift_ends seen o its = record { leads = Begins (ToTurnPage OpensOnly (tail_told its).0) refl tt refl refl tt refl; knows = (refl, tt) }

pub shift_stays : (o : OwnTurnState) (ask : Ask ShiftAnswer) → is_done ask ≡ false → shift_ledto o ask ≡ o
unfolding shift_ledto
shift_stays o (Done its) e = cc
shift_stays o ask e = refl

-- one that asks is under way
pub shift_asking : (step : Shifting) (m : Mover) → is_done (shifting_ask step m) ≡ false → shift_rests step ≡ false
unfolding shifting_ask
shift_asking shift.AtRest m e = cc
shift_asking step m e = refl

pub shift_on : (seen : LastSeen) (o : OwnTurnState) → o.step ≡ Shifts → shift_onward o.shift.step ≡ Stays → is_done (shift_ask o.shift) ≡ false → OwnTurnLed seen (likeness (shift_machine o.shift.step o.shift.mover) (Some (guard.Shifts o.shift)) seen None) o
shift_on seen o at later asks =
    let busy = shift_asking o.shift.step o.shift.mover asks in
    record {
      leads = subst (λ t. Leads true (likeness (shift_machine o.shift.step o.shift.mover) (Some (guard.Shifts o.shift)) seen None) (own_turn_onward o t) (own_turn_likeness_at seen o t)) (sym at) (Keeps later (rw busy refl));
      knows = subst (λ t. OwnTurnKnows o t) (sym at) asks;
    }

-- at its end a turn is through
scan_no_end : {X : Type 0} (s : Scanning) (its : Unit {0}) → IsScanning s → passed {B = Unit {0}} (scan_ask s) tt ≡ Done its → X
unfolding scan_ask passed
scan_no_end scan.AtRest its scanning e = absurd scanning
scan_no_end scan.LoadsEpoch its scanning e = cc
scan_no_end (scan.LoadsSession session least) its scanning e = cc
scan_no_end (scan.RaisesSafe least) its scanning e = cc

claim_no_end : {X : Type 0} (c : Claiming) (its : Unit {0}) → IsClaiming c → passed {B = Unit {0}} (claim_ask c) tt ≡ Done its → X
unfolding claim_ask passed
claim_no_end claim.AtRest its claiming e = absurd claiming
claim_no_end (claim.MeetsSlot slot safe) its claiming e = cc
claim_no_end (claim.LoadsSafe slot word) its claiming e = cc
claim_no_end (claim.TakesSlot slot word safe) its claiming e = cc
claim_no_end (claim.Receives slot epoch safe) its claiming e = cc
claim_no_end (claim.Runs slot epoch safe (act.SafeReadOnly addr)) its claiming e = cc
claim_no_end (claim.Runs slot epoch safe (act.Close addr)) its claiming e = cc
claim_no_end (claim.Runs slot epoch safe (act.Phase phase version)) its claiming e = cc
claim_no_end (claim.FreesSlot slot safe) its claiming e = cc

open_no_end : {X : Type 0} (shape : Shape) (t : Turning) (m : Mover) (its : Unit {0}) → IsOpening t → passed {B = Unit {0}} (turning_ask shape t m) tt ≡ Done its → X
unfolding turning_ask passed
open_no_end shape (turn.LoadsLimit OpensOnly tail) m its opening e = cc
open_no_end shape (turn.LoadsClosed OpensOnly limit) m its opening e = cc
open_no_end shape (turn.RaisesLimit limit) m its opening e = cc
open_no_end shape t m its opening e = absurd opening

clash : {X : Type 0} (b : Bool) → b ≡ true → b ≡ false → X
clash b e f = cc

pub own_turn_through : (shape : Shape) (seen : LastSeen) (mid : Likeness) (o : OwnTurnState) (step : OwnTurning) (its : Unit {0}) → OwnTurnKnows o step → own_turning_ask shape o step ≡ Done its
    → Leads true mid (own_turn_onward o step) (own_turn_likeness_at seen o step) → mid ≡ through seen
unfolding own_turning_ask
own_turn_through shape seen mid o Ended its knows asks led = stayed true mid (through seen) led
own_turn_through shape seen mid o Scans its knows asks led = scan_no_end o.scanning its knows asks
own_turn_through shape seen mid o Claims its knows asks led = claim_no_end o.claiming its knows asks
own_turn_through shape seen mid o Shifts its knows asks led = clash (is_done (passed {B = Unit {0}} (shift_ask o.shift) tt)) (ap is_done asks) (passed_done {B = Unit {0}} (shift_ask o.shift) tt ∙ knows)
own_turn_through shape seen mid o Opens its knows asks led = open_no_end shape o.turn.step o.turn.mover its knows.1 asks

-- a shift that has made an ask is past its first step
moved_later : (tail : ℕ) (m : Mover) (ask : Ask MoveAnswer) → shift_onward (shift_led tail m ask).step ≡ Stays
unfolding shift_led
moved_later tail m (Done its) = refl
moved_later tail m ask = refl

pub shift_later : (shape : Shape) (step : Shifting) (m : Mover) (reply : ℕ) → shift_onward (shifting_next shape step m reply).step ≡ Stays
unfolding shifting_next
shift_later shape shift.AtRest m reply = refl
shift_later shape shift.LoadsTail m reply = refl
shift_later shape (shift.LoadsReadOnly tail) m reply = elim (truth (nat_lt reply (mutable_start shape.page shape.mutable tail))) [ inl e ↦ rw e refl | inr e ↦ rw e refl ]
shift_later shape (shift.Moves tail) m reply = moved_later tail (move_next m reply) (move_next_ask m reply)
