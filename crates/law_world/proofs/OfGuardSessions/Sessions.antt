-- A session's step is a list of the guard's events, but for its own turn.
use Rattle.std.proofs.Common.{◌≡◌, ℕ, ◌<◌, refl, subst, Bool, true, false}
use Rattle.std.specs.Prelude.{Some, None, slice_get}
use Rattle.fkv_plane.specs.declared.asks.Ask.{Ask}
use Rattle.fkv_plane.specs.Asked.{words_after, reply_to}
use Rattle.fkv_plane.proofs.Shown.{passed_words, passed_reply}
use Rattle.fkv_epoch.specs.declared.leaving.Leaving.TheVariants as leave
use Rattle.fkv_epoch.specs.Leaving.{leave_ask, leave_next}
use Rattle.fkv_epoch.specs.EpochWorld as epochs
use Rattle.fkv_epoch.specs.EpochWorld.{ToLeave, sight_of}
use Rattle.fkv_pending.specs.Mailing.{mail_ask, mail_next}
use Rattle.fkv_pending.specs.Attempting.{attempt_ask}
use Rattle.fkv_pending.proofs.Shown.{AttemptRestsOrAsks, attempt_rests}
use Rattle.fkv_session.specs.declared.answers.Told.{Told}
use Rattle.fkv_session.specs.declared.answers.Told.TheVariants as told
use Rattle.fkv_session.specs.declared.sessions.CatchCause.{CatchCause}
use Rattle.fkv_session.specs.declared.sessions.Sitting.{Sitting}
use Rattle.fkv_session.specs.declared.sessions.Sitting.TheVariants.{Idle, Attempts, CatchesUp, ClearsMail, Polls, StoresOwing, Turns, StoresCut, Leaves, LoadsDurable}
use Rattle.fkv_session.specs.CatchingUp.{catch_ask, catch_requests}
use Rattle.fkv_session.specs.Sessions.{SessionState, Seat, answers, polls_at, clear_ledto, bits_of, room_of, attempt_moved, caught, sitting_ask, sitting_next, session_ask, session_next, asks_after, is_word_ask}
use Rattle.fkv_flush.specs.GuardWorld.{Actor, GuardNow, ToDo}
use Rattle.fkv_flush.proofs.Shown.{Likeness, FitsMachine, Fits}
use Rattle.law_world.specs.GuardSessions.Likenesses.{likeness, last_seen, through}
use Rattle.law_world.specs.GuardSessions.Steps.{outer_events, IsOuter}
use Rattle.law_world.specs.GuardSessions.Attempts.{AttemptWritesOuter, attempt_likeness}
use Rattle.law_world.specs.GuardSessions.Catches.{CatchWritesOuter, catch_likeness}
use Rattle.law_world.specs.GuardSessions.Sessions.{leave_machine, sitting_events, sitting_onward, sitting_likeness, session_likeness, is_protected_at, SittingWritesOuter, SessionWritesOuter}
use Rattle.law_world.specs.GuardSessions.Followed.{seat_in, is_turning}
use Rattle.law_world.proofs.OfGuardSessions.Onwards.{IsSessions, Moved, Keeps, Begins}
use Rattle.law_world.proofs.OfGuardSessions.Outer.{outer_step}
use Rattle.law_world.proofs.OfGuardSessions.OwnWords.{sitting_outer}
use Rattle.law_world.proofs.OfGuardSessions.Attempts.{attempt_passed, attempt_owes, attempt_step}
use Rattle.law_world.proofs.OfGuardSessions.Catches.{machine_moves, catch_step, catch_passed, catch_owes}
use Rattle.law_world.specs.GuardSessions.Rows.{CatchKnows, SittingKnows}
use Rattle.law_world.proofs.OfGuardSessions.SessionsLed.{SessionLed, polls_led, clear_led, attempt_ends, poll_ends, catch_ends, leave_led}

-- where a session's step leads
abbrev Reply : GuardNow → ℕ → SessionState → Sitting → ℕ
Reply n number s step = reply_to n.words (sitting_ask (seat_in n number) s step)

pub record SessionMoved (protected : Bool) (n : GuardNow) (number : ℕ) (s after : SessionState) (step : Sitting) : Type 0 where
  pub its : Moved protected n number (sitting_events (seat_in n number) n.words s step (sitting_ask (seat_in n number) s step)) (sitting_onward after after.step) (session_likeness after) (words_after n.words (sitting_ask (seat_in n number) s step)) n.actions
  pub knows : SittingKnows after after.step

-- a step leaves it protected, but where it leaves
abbrev pub stays_protected : SessionState → Sitting → Bool
stays_protected s Leaves = false
stays_protected s step = is_protected_at s step

module _ (n : GuardNow) (number : ℕ) (x : Actor) (got : slice_get n.actors number ≡ Some x) where
  -- an ask of a word that is none of the guard's
  outer : {A : Type 0} (protected : Bool) (ask : Ask A) (seen : Likeness) (after : SessionState) → Fits seen x → IsOuter n.places ask → SessionLed protected seen after
      → Moved protected n number (outer_events number n.words ask) (sitting_onward after after.step) (session_likeness after) (words_after n.words ask) n.actions
  outer protected ask seen after fits owes led = record { mid = seen; moved = outer_step n number x seen ask got fits owes; leads = led.leads }

  attempts_it : (s : SessionState) (asks : ℕ) (has_shifted : Bool) → s.step ≡ Attempts has_shifted → IsSessions n.places.sessions number true n.words → AttemptRestsOrAsks s.attempt
      → AttemptWritesOuter n.places s.attempt s.attempt.step (attempt_ask n.places number s.attempt) → Fits (attempt_likeness (last_seen s.seen) s.attempt) x
      → SessionMoved true n number s (sitting_next (seat_in n number) (record s { asks = asks; effect = None }) (Attempts has_shifted) (Reply n number s (Attempts has_shifted))) (Attempts has_shifted)
  unfolding sitting_ask sitting_next
  attempts_it s asks has_shifted at session rests owes fits =
      let k : Seat = seat_in n number in
      let ask = attempt_ask n.places number s.attempt in
      let reply : ℕ = reply_to n.words ask in
      let inner = attempt_step n number (bits_of k) x (last_seen s.seen) s.attempt got session rests owes fits in
      let after : SessionState = attempt_moved k (record s { asks = asks; effect = None }) reply in
      let led = attempt_ends k inner.mid after has_shifted (attempt_ask n.places number after.attempt) at refl (attempt_rests n.places (bits_of k) (room_of k) number s.attempt reply rests) inner.leads in
      record {
        its = rw (attempt_passed number (room_of k) n.words n.places s.attempt s.attempt.step ask told.Slept, passed_words n.words ask told.Slept, passed_reply n.words ask told.Slept) (record { mid = inner.mid; moved = inner.moved; leads = led.leads });
        knows = rw (passed_reply n.words ask told.Slept) led.knows;
      }

  polls_it : (s : SessionState) (asks index : ℕ) → s.step ≡ Polls index → IsSessions n.places.sessions number true n.words → AttemptRestsOrAsks s.attempt
      → AttemptWritesOuter n.places s.attempt s.attempt.step (attempt_ask n.places number s.attempt) → Fits (attempt_likeness (last_seen s.seen) s.attempt) x
      → SessionMoved true n number s (sitting_next (seat_in n number) (record s { asks = asks; effect = None }) (Polls index) (Reply n number s (Polls index))) (Polls index)
  unfolding sitting_ask sitting_next
  polls_it s asks index at session rests owes fits =
      let k : Seat = seat_in n number in
      let ask = attempt_ask n.places number s.attempt in
      let reply : ℕ = reply_to n.words ask in
      let inner = attempt_step n number (bits_of k) x (last_seen s.seen) s.attempt got session rests owes fits in
      let after : SessionState = attempt_moved k (record s { asks = asks; effect = None }) reply in
      let led = poll_ends k inner.mid after index (attempt_ask n.places number after.attempt) at refl (attempt_rests n.places (bits_of k) (room_of k) number s.attempt reply rests) inner.leads in
      record {
        its = rw (attempt_passed number (room_of k) n.words n.places s.attempt s.attempt.step ask told.Slept, passed_words n.words ask told.Slept, passed_reply n.words ask told.Slept) (record { mid = inner.mid; moved = inner.moved; leads = led.leads });
        knows = rw (passed_reply n.words ask told.Slept) led.knows;
      }

  catches_it : (protected : Bool) (s : SessionState) (asks : ℕ) (cause : CatchCause) → s.step ≡ CatchesUp cause → number < n.places.sessions → CatchKnows s.catching s.catching.step → CatchWritesOuter n.places s.catching.step (catch_ask n.places number s.catching s.requests) → Fits (catch_likeness s.catching) x
      → SessionMoved protected n number s (sitting_next (seat_in n number) (record s { asks = asks; effect = None }) (CatchesUp cause) (Reply n number s (CatchesUp cause))) (CatchesUp cause)
  unfolding sitting_ask sitting_next
  catches_it protected s asks cause at below knows owes fits =
      let k : Seat = seat_in n number in
      let ask = catch_ask n.places number s.catching s.requests in
      let reply : ℕ = reply_to n.words ask in
      let inner = catch_step n number (bits_of k) x s.catching s.requests (catch_requests s.catching s.requests reply) got below knows owes fits in
      let after : SessionState = caught k (record s { asks = asks; effect = None }) reply in
      let led = catch_ends protected k (inner.its protected).mid after cause (catch_ask n.places number after.catching after.requests) at refl (inner.its protected).leads inner.knows in
      record {
        its = rw (catch_passed number n.words s.catching.step ask told.Slept, passed_words n.words ask told.Slept, passed_reply n.words ask told.Slept) (record { mid = (inner.its protected).mid; moved = (inner.its protected).moved; leads = led.leads });
        knows = rw (passed_reply n.words ask told.Slept) led.knows;
      }

  leaves_it : (s : SessionState) (asks : ℕ) → s.step ≡ Leaves → s.leaving ≡ leave.StoresZero → Fits (likeness (Some (epochs.Leaves leave.StoresZero)) None (last_seen s.seen) None) x
      → SessionMoved false n number s (sitting_next (seat_in n number) (record s { asks = asks; effect = None }) Leaves (Reply n number s Leaves)) Leaves
  unfolding sitting_ask sitting_next leave_next
  leaves_it s asks at same fits =
      let ask = leave_ask number leave.StoresZero in
      let led = leave_led false (record s { asks = asks; effect = None }) number in
      record {
        its = rw (same, passed_words n.words ask told.Slept) (record {
          mid = through (last_seen s.seen);
          moved = record {
            actor = record x { machine = epochs.Leaves leave.AtRest };
            same = machine_moves n number x (epochs.Leaves leave.StoresZero) got fits.machine fits.work;
            fits = record { machine = refl; work = fits.work; seen = fits.seen; undecided = fits.undecided };
          };
          leads = led.leads;
        });
        knows = rw (same) led.knows;
      }

  session_moved : (s : SessionState) (asks : ℕ) (step : Sitting) → s.step ≡ step → is_turning step ≡ false → IsSessions n.places.sessions number (is_protected_at s step) n.words → SittingKnows s step
      → SittingWritesOuter (seat_in n number) s step (sitting_ask (seat_in n number) s step) → Fits (sitting_likeness s step) x
      → SessionMoved (stays_protected s step) n number s (sitting_next (seat_in n number) (record s { asks = asks; effect = None }) step (Reply n number s step)) step
  unfolding sitting_ask sitting_next
  session_moved s asks (Idle its) at other session knows owes fits =
      let after : SessionState = record s { asks = asks; effect = None; step = Idle its } in
      rw at (record { its = outer {A = Told} s.is_awake (sitting_ask (seat_in n number) s (Idle its)) (through (last_seen s.seen)) after fits (sitting_outer (seat_in n number) s (Idle its) session.below refl) (record { leads = Keeps refl refl; knows = tt }); knows = tt })
  session_moved s asks (Attempts has_shifted) at other session knows owes fits =
      attempts_it s asks has_shifted at session knows (subst (λ (o : Type 0). o) (attempt_owes n.places s.attempt s.attempt.step (attempt_ask n.places number s.attempt) told.Slept) owes) fits
  session_moved s asks (CatchesUp cause) at other session knows owes fits =
      catches_it (is_protected_at s (CatchesUp cause)) s asks cause at session.below knows (subst (λ (o : Type 0). o) (catch_owes n.places s.catching.step (catch_ask n.places number s.catching s.requests) told.Slept) owes) fits
  session_moved s asks ClearsMail at other session knows owes fits =
      let after : SessionState = record s { asks = asks; effect = None; mailing = mail_next s.mailing (Reply n number s ClearsMail) } in
      let led = clear_led true (seat_in n number) after (mail_ask number after.mailing) at in
      record { its = outer {A = Told} true (sitting_ask (seat_in n number) s ClearsMail) (through (last_seen s.seen)) (clear_ledto (seat_in n number) after (mail_ask number after.mailing)) fits (sitting_outer (seat_in n number) s ClearsMail session.below refl) led; knows = led.knows }
  session_moved s asks (Polls index) at other session knows owes fits =
      polls_it s asks index at session knows (subst (λ (o : Type 0). o) (attempt_owes n.places s.attempt s.attempt.step (attempt_ask n.places number s.attempt) told.Slept) owes) fits
  session_moved s asks (StoresOwing index) at other session knows owes fits =
      let led = polls_led true (seat_in n number) (record s { asks = asks; effect = None }) index in
      record { its = outer {A = Told} true (sitting_ask (seat_in n number) s (StoresOwing index)) (through (last_seen s.seen)) (polls_at (seat_in n number) (record s { asks = asks; effect = None }) index) fits (sitting_outer (seat_in n number) s (StoresOwing index) session.below refl) led; knows = led.knows }
  session_moved s asks (Turns its) at other session knows owes fits = cc
  session_moved s asks StoresCut at other session knows owes fits =
      let after : SessionState = record s { asks = asks; effect = None; leaving = leave.StoresZero; step = Leaves } in
      record { its = outer {A = Told} true (sitting_ask (seat_in n number) s StoresCut) (through (last_seen s.seen)) after fits (sitting_outer (seat_in n number) s StoresCut session.below refl) (record { leads = Begins (ToDo ToLeave) refl tt refl refl refl refl; knows = refl }); knows = refl }
  session_moved s asks Leaves at other session knows owes fits =
      leaves_it s asks at knows (record { machine = subst (λ l. FitsMachine (leave_machine l) x.machine) knows fits.machine; work = fits.work; seen = fits.seen; undecided = fits.undecided })
  session_moved s asks LoadsDurable at other session knows owes fits =
      let after : SessionState = answers (record s { asks = asks; effect = None }) (told.Durable (record { 0 = Reply n number s LoadsDurable })) in
      record { its = outer {A = Told} s.is_awake (sitting_ask (seat_in n number) s LoadsDurable) (through (last_seen s.seen)) after fits (sitting_outer (seat_in n number) s LoadsDurable session.below refl) (record { leads = Keeps refl refl; knows = tt }); knows = tt }

-- A session's step, where it doesn't turn: it is these events of the guard, and behind them the guard's actor is like what the session has become.
pub session_step : (n : GuardNow) (number : ℕ) (x : Actor) (s : SessionState) → slice_get n.actors number ≡ Some x → is_turning s.step ≡ false → IsSessions n.places.sessions number (is_protected_at s s.step) n.words → SittingKnows s s.step
    → SessionWritesOuter (seat_in n number) s → Fits (session_likeness s) x
    → SessionMoved (stays_protected s s.step) n number s (session_next (seat_in n number) s (reply_to n.words (session_ask (seat_in n number) s))) s.step
session_step n number x s got other session knows owes fits = session_moved n number x got s (asks_after s.asks (is_word_ask (session_ask (seat_in n number) s))) s.step refl other session knows owes fits
