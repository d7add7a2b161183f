-- An update that takes effect was called, and not refused since, and has not taken effect before.
use Rattle.std.proofs.Common.{◌≡◌, ℕ, ◌+◌, ◌≤◌, ◌∙◌, List, [], ◌∷◌, refl, arith, ap, sym, subst, Bool, true, false, inl, inr}
use Rattle.std.specs.Prelude.{Option, Some, None, slice_get, ◌==◌, if◌then◌else◌}
use Rattle.std.proofs.lemmas.Bool.Decides.{nat_tests}
use Rattle.fkv_base.specs.declared.numbers.Serial.{Serial}
use Rattle.fkv_epoch.proofs.Shown.{none_some}
use Rattle.fkv_map.specs.declared.history.HistoryEntry.{HistoryEntry}
use Rattle.law_world.specs.Below.fkv_ops.Requests.{is_read}
use Rattle.law_log.specs.Trace as log
use Rattle.law_log.specs.Trace.{IsIn, called_as, HasUpdate}
use Rattle.law_world.specs.Below.fkv_pending.RequestName.{RequestName}
use Rattle.law_world.specs.Below.fkv_pending.RequestName.TheVariants.{Update, Read}
use Rattle.fkv_plane.specs.Asked.{reply_to}
use Rattle.law_world.specs.Below.fkv_session.Sitting.{Sitting}
use Rattle.law_world.specs.Below.fkv_session.Sitting.TheVariants.{Attempts, Polls}
use Rattle.law_world.specs.Below.fkv_session.Accounts.{number_of}
use Rattle.law_world.specs.Below.fkv_session.Replies.{is_of}
use Rattle.law_world.specs.Below.fkv_session.SessionRun.{session_run}
use Rattle.law_world.specs.Below.fkv_session.Sessions.{SessionState, Seat, session_ask, session_next, ticket_after}
use Rattle.law_world.specs.Runs.Added.{IsEffectOf}
use Rattle.law_world.specs.Below.fkv_world.Opened.{HasBecome, IsOpenedWorld, effects_of}
use Rattle.law_world.specs.Below.fkv_world.OwnEvents.{session_events}
use Rattle.law_world.specs.Below.fkv_world.Past.{Effect}
use Rattle.law_world.specs.Below.fkv_world.Runs.{World, run}
use Rattle.law_world.specs.Below.fkv_world.World.{Event, seat_at}
use Rattle.law_world.proofs.OfSessions.OwnRun.{here, opened_so}
use Rattle.law_world.proofs.OfSessions.Effects.{life_made}
use Rattle.law_world.proofs.Below.fkv_world.Shown.{same_seat}
use Rattle.law_world.proofs.OfRuns.Nothing.{none_ever}
use Rattle.law_refine.specs.Events.GhostEvents.{serials_in}
use Rattle.law_refine.specs.Calls.Calls.{effects_in_log, effects_of_life, lines_of_life, IsUpdateInHand}
use Rattle.law_refine.proofs.OfCalls.Standing.{IsCalled, Knows, polled_called, update_is_some}
use Rattle.law_refine.proofs.OfCalls.MadeBy.{IsMadeAt, made_at}
use Rattle.law_refine.proofs.OfCalls.Once.{none_before}
use Rattle.law_refine.proofs.OfCalls.Called.{ledger_of}
use Rattle.law_refine.proofs.OfCalls.Life.{Stood, run_knows, life_stood}

-- ---- each session was there as the life began
pub record WasOpened (opening : World) (events : List Event) (number : ℕ) (its : SessionState) : Type 0 where
  pub first : SessionState
  pub became : HasBecome opening events number first its

pub was_opened : (opening : World) (events : List Event) (number : ℕ) (its : SessionState) → IsOpenedWorld opening → slice_get (run opening events).now.sessions number ≡ Some its → WasOpened opening events number its
was_opened opening events number its opened found = by_first (slice_get opening.now.sessions number) refl
  where
    by_first : (first : Option SessionState) → slice_get opening.now.sessions number ≡ first → WasOpened opening events number its
    by_first None e = none_some its (sym (none_ever opening events number e) ∙ found)
    by_first (Some first) e = record { first = first; became = record { opened = opened; was = e; is_now = found } }

-- ---- counting
abbrev pub counted : ℕ → ℕ → List Effect → ℕ
counted number n history = number_of (is_of n) (effects_of number history)

one_more : (number n : ℕ) (its : Effect) (before : List Effect) → 1 ≤ counted number n before → 1 ≤ counted number n (its ∷ before)
one_more number n its before one = by_owner (its.entry.session == number)
  where
    by_owner : (c : Bool) → 1 ≤ number_of (is_of n) (if c then its.entry ∷ effects_of number before else effects_of number before)
    by_owner true = omega (arith, one)
    by_owner false = one

has_one : (number n : ℕ) (history : List Effect) (effect : log.Effect) → IsIn effect (effects_in_log history) → effect.entry.session ≡ number → effect.entry.serial.0 ≡ n → 1 ≤ counted number n history
has_one number n [] effect is_in session serial = absurd is_in
has_one number n (its ∷ before) effect (inl same) session serial =
    let mine : (its.entry.session == number) ≡ true = (let e : its.entry.session ≡ number = ap (λ (x : log.Effect). x.entry.session) same ∙ session in grind (arith, nat_tests, e)) in
    let named : (its.entry.serial.0 == n) ≡ true = (let e : its.entry.serial.0 ≡ n = ap (λ (x : log.Effect). x.entry.serial.0) same ∙ serial in grind (arith, nat_tests, e)) in
    rw mine (rw named (omega arith))
has_one number n (its ∷ before) effect (inr later) session serial = one_more number n its before (has_one number n before effect later session serial)

pub none_counted : (number n : ℕ) (history : List Effect) → counted number n history ≡ 0 → HasUpdate (effects_in_log history) number n → ⊥
none_counted number n history none its = let one = has_one number n history its.effect its.is_in its.its_session its.its_serial in omega (arith, one, none)

-- ---- what takes effect
next_named : (s : SessionState) (c : Bool) (serial : Serial) → is_read s.op ≡ c → (if c then Read (record { 0 = ticket_after s.ticket }) else Update (record { 0 = s.serial + 1 })) ≡ Update serial → (is_read s.op ≡ false) × (s.serial + 1 ≡ serial.0)
next_named s true serial r e = cc
next_named s false serial r e = let same : record { 0 = s.serial + 1 } ≡ serial = cc in (r, ap (λ (x : Serial). x.0) same)

called_at : (first : ℕ → ℕ) (number : ℕ) (trace : List _) (s : SessionState) (step : Sitting) (entry : HistoryEntry) → Knows s step → IsMadeAt number s.attempt.pending entry step → Stood (ledger_of first number trace) s step
    → (ledger_of first number trace).updates entry.serial.0 ≡ Some entry.op
called_at first number trace s (Attempts has_shifted) entry knows made stood =
    let next = next_named s (is_read s.op) entry.serial refl (sym knows.at.name ∙ made.name) in
    ap (ledger_of first number trace).updates (sym next.1) ∙ (stood.next.1 ∙ (update_is_some s.op next.0 ∙ ap Some (sym (made.op ∙ knows.at.op))))
called_at first number trace s (Polls index) entry knows made stood =
    let its = polled_called (IsCalled ⊥ (ledger_of first number trace).updates (ledger_of first number trace).reads s.serial s.ticket) s.requests index s.attempt.pending knows stood.waiting in
    let named : IsCalled ⊥ (ledger_of first number trace).updates (ledger_of first number trace).reads s.serial s.ticket (Update entry.serial) s.attempt.pending.request.op
    = subst (λ (x : RequestName). IsCalled ⊥ (ledger_of first number trace).updates (ledger_of first number trace).reads s.serial s.ticket x s.attempt.pending.request.op) made.name its in
    named.1 ∙ ap Some (sym made.op)
called_at first number trace s step entry knows made stood = absurd made

-- the session of such an effect
made_entry : (w : World) (event : Event) (its : Effect) (from : IsEffectOf w event its)
    → (session_next (seat_at w.now from.session) from.mover (reply_to w.now.words (session_ask (seat_at w.now from.session) from.mover))).effect ≡ Some its.entry
made_entry w event its from = ap (λ (s : SessionState). s.effect) (sym from.replied) ∙ from.tells

session_of : (number : ℕ) (s : SessionState) (step : Sitting) (entry : HistoryEntry) → IsMadeAt number s.attempt.pending entry step → entry.session ≡ number
session_of number s (Attempts has_shifted) entry made = made.session
session_of number s (Polls index) entry made = made.session
session_of number s step entry made = absurd made

pub effect_in_hand : (opening : World) (before : List Event) (event : Event) (its : Effect) → IsOpenedWorld opening → IsEffectOf (run opening before) event its → IsUpdateInHand (effects_of_life opening before) (lines_of_life opening before) its.entry
effect_in_hand opening before event its opened from = record {
  called = ap (λ (i : ℕ). called_as (lines_of_life opening before) i its.entry.serial.0) mine ∙ called_at (serials_in opening.now) number w.past.trace s s.step its.entry knows made (life_stood opening before number first s became);
  none_yet = λ has. none_counted number its.entry.serial.0 w.past.history none (subst (λ (i : ℕ). HasUpdate (effects_of_life opening before) i its.entry.serial.0) mine has);
}
  where
    w : World
    w = run opening before

    number : ℕ
    number = from.session

    s : SessionState
    s = from.mover

    first : SessionState
    first = (was_opened opening before number s opened from.found).first

    became : HasBecome opening before number first s
    became = (was_opened opening before number s opened from.found).became

    k : Seat
    k = seat_at opening.now number

    ran : s ≡ session_run k first (session_events opening number before)
    ran = here opening before number first s became

    knows : Knows s s.step
    knows = subst (λ (x : SessionState). Knows x x.step) (sym ran) (run_knows k first (session_events opening number before) (opened_so opening before number first s became))

    made : IsMadeAt number s.attempt.pending its.entry s.step
    made = made_at (seat_at w.now number) s _ its.entry (made_entry w event its from)

    mine : its.entry.session ≡ number
    mine = session_of number s s.step its.entry made

    reply : ℕ
    reply = reply_to w.now.words (session_ask (seat_at w.now number) s)

    makes : (session_next k (session_run k first (session_events opening number before)) reply).effect ≡ Some its.entry
    makes =
        sym (ap (λ (x : SessionState). (session_next k x reply).effect) ran)
        ∙ (sym (ap (λ (x : Seat). (session_next x s reply).effect) (same_seat opening before number)) ∙ made_entry w event its from)

    none : counted number its.entry.serial.0 w.past.history ≡ 0
    none = ap (number_of (is_of its.entry.serial.0)) (sym (life_made opening before number first s became)) ∙ none_before k first (session_events opening number before) reply its.entry (opened_so opening before number first s became) makes
