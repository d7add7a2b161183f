-- The words that a session stores beside its machines' are its own: none of them is the guard's.
use Rattle.std.proofs.Common.{◌≡◌, ℕ, ◌<◌, ◌%◌, List, sym, subst, arith, Bool, true, false}
use Rattle.std.specs.Prelude.{◌==◌, if◌then◌else◌}
use Rattle.fkv_plane.specs.declared.asks.Ask.{Ask}
use Rattle.fkv_plane.specs.declared.places.Places.{Places}
use Rattle.fkv_plane.specs.declared.places.SessionWord.TheVariants as own
use Rattle.fkv_plane.specs.Places.{session_place}
use Rattle.fkv_plane.specs.Passing.{passed}
use Rattle.fkv_flush.specs.GuardWorld.{is_guarded}
use Rattle.fkv_flush.proofs.Shown.{session_is_outer}
use Rattle.fkv_ops.specs.declared.answers.TryAnswer.TheVariants as answer
use Rattle.fkv_pending.specs.declared.attempting.Attempting.{Attempting}
use Rattle.fkv_pending.specs.declared.attempting.Attempting.TheVariants.{Ended, Looks, Tries, Puts}
use Rattle.fkv_pending.specs.declared.mailing.Mailing.{Mailing}
use Rattle.fkv_pending.specs.declared.mailing.Mailing.TheVariants as mail
use Rattle.fkv_pending.specs.declared.pending_requests.PendingRequest.{PendingRequest}
use Rattle.fkv_pending.specs.Attempting.{AttemptState, attempting_ask}
use Rattle.fkv_pending.specs.Mailing.{mail_ask}
use Rattle.fkv_session.specs.declared.answers.Told.TheVariants as told
use Rattle.fkv_session.specs.declared.catching_up.Catching.{Catching}
use Rattle.fkv_session.specs.declared.catching_up.Catching.TheVariants as catching
use Rattle.fkv_session.specs.declared.sessions.Sitting.{Sitting}
use Rattle.fkv_session.specs.declared.sessions.Sitting.TheVariants.{Idle, Attempts, CatchesUp, ClearsMail, Polls, StoresOwing, Turns, StoresCut, Leaves, LoadsDurable}
use Rattle.fkv_session.specs.CatchingUp.{CatchState, cut_of, catching_ask}
use Rattle.fkv_session.specs.Sessions.{SessionState, Seat, sitting_ask}
use Rattle.law_world.specs.GuardSessions.Steps.{IsOuter}
use Rattle.law_world.specs.GuardSessions.Catches.{CatchWritesOuter}
use Rattle.law_world.proofs.OfGuardSessions.AttemptsLed.{is_trying}
use Rattle.law_world.proofs.OfGuardSessions.CatchesLed.{is_epochs}
use Rattle.law_world.proofs.OfGuardSessions.Outer.{passed_owes}

passed_outer_ask : {A B : Type 0} (p : Places) (ask : Ask A) (told : B) → IsOuter p ask → IsOuter p (passed ask told)
passed_outer_ask p ask told outer = subst (λ (o : Type 0). o) (sym (passed_owes p ask told)) outer

mail_outer : (p : Places) (number : ℕ) (m : Mailing) → number < p.sessions → IsOuter p (mail_ask number m)
unfolding mail_ask
mail_outer p number (mail.Ended its) below = tt
mail_outer p number (mail.LoadsState task) below = tt
mail_outer p number mail.LoadsHeader below = tt
mail_outer p number (mail.LoadsKey header) below = tt
mail_outer p number (mail.LoadsValue header key) below = tt
mail_outer p number (mail.StoresEmpty its) below = session_is_outer p number own.MailState below (omega arith)
mail_outer p number (mail.StoresAddress addr) below = session_is_outer p number own.MailAddress below (omega arith)
mail_outer p number mail.StoresAsked below = session_is_outer p number own.MailState below (omega arith)

cut_outer : (p : Places) (number version : ℕ) → number < p.sessions → is_guarded p (session_place number (cut_of version)) ≡ false
cut_outer p number version below = by_test (version % 2 == 0)
  where
    by_test : (b : Bool) → is_guarded p (session_place number (if b then own.EvenCut else own.OddCut)) ≡ false
    by_test true = session_is_outer p number own.EvenCut below (omega arith)
    by_test false = session_is_outer p number own.OddCut below (omega arith)

pub attempt_outer : (p : Places) (number : ℕ) (a : AttemptState) (step : Attempting) → number < p.sessions → is_trying step ≡ false → IsOuter p (attempting_ask p number a step)
unfolding attempting_ask
attempt_outer p number a (Ended its) below other = tt
attempt_outer p number a Looks below other = passed_outer_ask p (mail_ask number a.mailing) answer.Shift (mail_outer p number a.mailing below)
attempt_outer p number a Tries below other = cc
attempt_outer p number a Puts below other = passed_outer_ask p (mail_ask number a.mailing) answer.Shift (mail_outer p number a.mailing below)

pub catch_outer : (p : Places) (number : ℕ) (c : CatchState) (requests : List PendingRequest) (step : Catching) → number < p.sessions → is_epochs step ≡ false → CatchWritesOuter p step (catching_ask p number c requests step) → IsOuter p (catching_ask p number c requests step)
unfolding catching_ask
catch_outer p number c requests catching.Ended below other owes = tt
catch_outer p number c requests catching.Refreshes below other owes = cc
catch_outer p number c requests catching.Protects below other owes = cc
catch_outer p number c requests catching.StoresCut below other owes = cut_outer p number _ below
catch_outer p number c requests catching.StoresOwing below other owes = session_is_outer p number own.Owing below (omega arith)
catch_outer p number c requests (catching.Latches index) below other owes = owes
catch_outer p number c requests catching.Finishes below other owes = cc

-- a session is at a word of its own
abbrev pub is_at_own : Sitting → Bool
is_at_own (Attempts has_shifted) = false
is_at_own (Polls index) = false
is_at_own (CatchesUp cause) = false
is_at_own (Turns its) = false
is_at_own Leaves = false
is_at_own step = true

pub sitting_outer : (k : Seat) (s : SessionState) (step : Sitting) → k.number < k.places.sessions → is_at_own step ≡ true → IsOuter k.places (sitting_ask k s step)
unfolding sitting_ask
sitting_outer k s (Idle its) below at = tt
sitting_outer k s (Attempts has_shifted) below at = cc
sitting_outer k s (Polls index) below at = cc
sitting_outer k s (CatchesUp cause) below at = cc
sitting_outer k s (Turns its) below at = cc
sitting_outer k s Leaves below at = cc
sitting_outer k s ClearsMail below at = passed_outer_ask k.places (mail_ask k.number s.mailing) told.Slept (mail_outer k.places k.number s.mailing below)
sitting_outer k s (StoresOwing index) below at = session_is_outer k.places k.number own.Owing below (omega arith)
sitting_outer k s StoresCut below at = cut_outer k.places k.number _ below
sitting_outer k s LoadsDurable below at = tt
