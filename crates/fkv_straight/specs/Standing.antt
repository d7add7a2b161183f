-- The table of a session's machine, and where the machine stands while an operation is tried.
use Rattle.std.specs.Prelude.{◌≡◌, ⊤, ℕ, ◌+◌, true, false, None, List, [], ◌∷◌, ◌++◌}
use Rattle.fkv_map.specs.declared.operations.Call.{Call}
use Rattle.fkv_map.specs.declared.operations.Op.{Op}
use Rattle.fkv_map.specs.declared.operations.Reply.{Reply}
use Rattle.fkv_plane.specs.declared.asks.Ask.{Ask}
use Rattle.fkv_ops.specs.declared.answers.Reason.TheVariants as reason
use Rattle.fkv_ops.specs.declared.answers.TryAnswer.{TryAnswer}
use Rattle.fkv_ops.specs.declared.answers.TryAnswer.TheVariants as tried
use Rattle.fkv_ops.specs.declared.requests.Occasion.{Occasion}
use Rattle.fkv_ops.specs.declared.requests.Occasion.TheVariants.{Call as AtCall, Poll as AtPoll}
use Rattle.fkv_ops.specs.Bounds.{bounds_at}
use Rattle.fkv_ops.specs.Trying.{TryState, try_ask, try_next}
use Rattle.fkv_pending.specs.declared.attempting.Attempting.TheVariants.{Tries as AtTry}
use Rattle.fkv_pending.specs.declared.mailing.MailAnswer.TheVariants.{NotReady}
use Rattle.fkv_pending.specs.declared.mailing.Mailing.TheVariants as mailing
use Rattle.fkv_pending.specs.Attempting.{AttemptState, attempt_ask, try_ledto}
use Rattle.fkv_session.specs.declared.answers.Told.{Told}
use Rattle.fkv_session.specs.declared.answers.Told.TheVariants as told
use Rattle.fkv_session.specs.declared.sessions.Sitting.{Sitting}
use Rattle.fkv_session.specs.declared.sessions.Sitting.TheVariants.{Attempts, Idle, Polls}
use Rattle.fkv_session.specs.Alike.{Lasting, StandAlike, lasting}
use Rattle.fkv_session.specs.Sessions.{Seat, SessionState, room_of, session_begun, session_ask, session_next, attempt_ledto, poll_ledto, finished_of, entry_of, is_busy}
use Rattle.fkv_straight.specs.declared.outcomes.Outcome.{Outcome}
use Rattle.fkv_straight.specs.declared.outcomes.Outcome.TheVariants.{Done, Contended, Unusual}
use Rattle.fkv_straight.specs.Course.{Course, pending_in}

-- what a session's machine asks where it stands, where a reply leads, and where a call begins
unfoldable pub asked : Seat → SessionState → Ask Told
asked k s = session_ask k s

unfoldable pub leads : Seat → SessionState → ℕ → SessionState
leads k s reply = session_next k s reply

unfoldable pub begins : Seat → SessionState → Call → SessionState
begins k s its = session_begun k s its

-- where these replies lead, one after another
unfoldable pub replayed : Seat → SessionState → List ℕ → SessionState
replayed k s [] = s
replayed k s (reply ∷ later) = replayed k (leads k s reply) later

-- The machine has caught up with where the session stands: between two calls the same lasts of both, and in a call they stand alike.
pub record IsCaughtUp (machine stands : SessionState) : Type 0 where
  pub lasts : lasting machine ≡ lasting stands
  pub alike : is_busy stands.step ≡ true → StandAlike machine stands

-- the attempt of it whose try stands so
abbrev pub attempting : Course → TryState → AttemptState
attempting c t = record { pending = pending_in c; seen = c.lasts.seen; occasion = c.occasion; spare = c.lasts.spare; is_orphaned = c.lasts.is_orphaned; is_emptied = false; effect = None; mailing = mailing.Ended NotReady; trial = t; step = AtTry }

-- a call attempts its operation, which is in hand then, and a poll the request that waits first
abbrev pub sits : Occasion → Sitting
sits (AtCall bounds) = Attempts false
sits AtPoll = Polls 0

abbrev pub hand_in : Occasion → Course → Op
hand_in (AtCall bounds) c = c.op
hand_in AtPoll c = c.hand

-- the session whose attempt stands so
abbrev pub sitting : Course → ℕ → AttemptState → SessionState
sitting c asks a =
    let l = c.lasts in
    record {
      seen = l.seen;
      serial = l.serial;
      ticket = l.ticket;
      floor = l.floor;
      requests = l.requests;
      is_orphaned = l.is_orphaned;
      spare = l.spare;
      is_awake = l.is_awake;
      wants_turn = false;
      asks = asks;
      effect = None;
      finished = l.finished;
      op = hand_in c.occasion c;
      catching = l.catching;
      mailing = l.mailing;
      attempt = a;
      leaving = l.leaving;
      own_turn = l.own_turn;
      step = sits c.occasion;
    }

-- where the session goes by what the attempt asks
abbrev pub attempt_leads : Occasion → Seat → SessionState → Ask TryAnswer → SessionState
attempt_leads (AtCall bounds) k s ask = attempt_ledto s false ask
attempt_leads AtPoll k s ask = poll_ledto k s 0 ask

-- the session whose try a reply has led so: the attempt goes by what the try asks then, and the session by what the attempt asks
abbrev pub led_attempt : Course → TryState → AttemptState
led_attempt c t = try_ledto (record (attempting c t) { effect = t.effect }) (try_ask c.seat.places t)

abbrev pub resumed : Course → ℕ → AttemptState → SessionState
resumed c asks a = attempt_leads c.occasion c.seat (record (sitting c asks a) { effect = entry_of c.seat.number a.pending a.pending.name a.effect }) (attempt_ask c.seat.places c.seat.number a)

abbrev pub led_session : Course → ℕ → TryState → SessionState
led_session c asks t = resumed c asks (led_attempt c t)

-- the session's try stands so, after some count of asks
unfoldable pub Tries : Course → TryState → SessionState → Type 0
Tries c t s = (asks : ℕ) × (s ≡ sitting c asks (attempting c t))

-- a reply has led its try so
unfoldable pub IsLed : Course → TryState → SessionState → Type 0
IsLed c t s = (asks : ℕ) × (s ≡ led_session c asks t)

-- where the reply leads a try
abbrev pub next_try : Course → TryState → ℕ → TryState
next_try c t reply = try_next c.seat.places (room_of c.seat) t reply

-- the call has ended so, and this lasts
pub record IsEnded (l : Lasting) (its : Told) (s : SessionState) : Type 0 where
  pub ended : s.step ≡ Idle its
  pub lasts : lasting s ≡ l

-- what lasts behind an update that was done, and what the session is told: a call takes the next serial, and behind a poll no request waits
abbrev pub done_lasts : Occasion → Course → Reply → Lasting
done_lasts (AtCall bounds) c its = record c.lasts { serial = c.lasts.serial + 1 }
done_lasts AtPoll c its = record c.lasts { requests = []; finished = finished_of c.name (tried.Done its) ∷ [] }

abbrev pub done_told : Occasion → Course → Reply → Told
done_told (AtCall bounds) c its = told.Done (record { 0 = c.lasts.serial + 1 }) its
done_told AtPoll c its = told.Polled 0

abbrev pub IsDone : Course → Reply → SessionState → Type 0
IsDone c its s = IsEnded (done_lasts c.occasion c its) (done_told c.occasion c its) s

-- Another session was quicker: a call takes the next serial, and its update waits. In a poll it goes on waiting.
abbrev pub waiting_lasts : Occasion → Course → Lasting
waiting_lasts (AtCall bounds) c = record c.lasts { serial = c.lasts.serial + 1; requests = c.lasts.requests ++ pending_in c ∷ [] }
waiting_lasts AtPoll c = c.lasts

abbrev pub waiting_told : Occasion → Course → Told
waiting_told (AtCall bounds) c = told.Pending (record { 0 = c.lasts.serial + 1 }) reason.Contended
waiting_told AtPoll c = told.Polled 1

abbrev pub IsWaiting : Course → SessionState → Type 0
IsWaiting c s = IsEnded (waiting_lasts c.occasion c) (waiting_told c.occasion c) s

-- What an update comes to. One that has bounds doesn't wait before the machine has looked for room. Of one that is unusual nothing is said.
abbrev pub ComesTo : Course → Outcome → SessionState → Type 0
ComesTo c (Done its) s = IsDone c its s
ComesTo c Contended s = bounds_at c.occasion ≡ None → IsWaiting c s
ComesTo c Unusual s = ⊤
