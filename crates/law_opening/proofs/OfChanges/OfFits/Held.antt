-- What holds of numbers at each moment of a life, and how it goes from moment to moment.
use Rattle.std.proofs.Common.{◌≡◌, ℕ, ◌<◌, ◌≤◌, arith, subst, List, [], ◌∷◌, ◌++◌}
use Rattle.std.specs.Prelude.{Some, slice_get}
use Rattle.law_refine.specs.Below.fkv_flush.GuardLevels.{levels_of}
use Rattle.law_refine.specs.Below.fkv_ops.HeaderSaid.{HeaderSaid}
use Rattle.law_refine.specs.Below.fkv_pending.MailRecord.{MailRecord}
use Rattle.law_refine.specs.Below.fkv_session.Sessions.{SessionState}
use Rattle.law_refine.specs.Below.fkv_world.Runs.{World, run}
use Rattle.law_refine.specs.Below.fkv_world.World.{Event}
use Rattle.law_opening.proofs.OfChanges.LifeLogs.{life_stays}
use Rattle.law_opening.proofs.OfChanges.OfFits.Logs.{LogOk, LoggedOk}
use Rattle.law_opening.proofs.OfChanges.OfFits.Mails.{PastOk}
use Rattle.law_opening.proofs.OfChanges.OfFits.Rows.{AttemptOk, PendingOk, RecordOk, taken_grows}
use Rattle.law_opening.proofs.OfChanges.Rows.{Stays}
use Rattle.law_opening.specs.Changes.Fits.{CellsFit}
use Rattle.law_opening.specs.Changes.Laws.{BeginsLinked, begin_at}
use Rattle.law_refine.specs.Below.law_local.Sessions.Known.{KnowsRequests}
use Rattle.law_log.specs.Ghosts.{Ghosts, Log}
use Rattle.law_refine.specs.Mail.Reads.{mail_past}
use Rattle.law_refine.proofs.OfEvents.Fixed.{life_rises}
use Rattle.law_refine.specs.Events.GhostEvents.{life_ghosts}

abbrev pub log_at : World → Ghosts → List Event → Log
log_at opening ghosts events = (life_ghosts opening ghosts events).log

abbrev pub flushed_at : World → List Event → ℕ
flushed_at opening events = (levels_of (run opening events).now.words).flushed

abbrev pub SessionOk : ℕ → Log → ℕ → SessionState → Type 0
SessionOk begin log flushed s = KnowsRequests (λ pending. PendingOk begin log flushed pending) (λ a. AttemptOk begin log flushed a) s

-- Sessions know it of their requests, what they have asked for is there, and the log has it of its records.
-- No session's floor lies below the begin that the log was opened with.
pub record Held (opening : World) (start : ℕ) (ghosts : Ghosts) (events : List Event) : Type 0 where
  pub sessions : (session : ℕ) (s : SessionState) → slice_get (run opening events).now.sessions session ≡ Some s → SessionOk (begin_at opening.now) (log_at opening ghosts events) (flushed_at opening events) s
  pub floors : (session : ℕ) (s : SessionState) → slice_get (run opening events).now.sessions session ≡ Some s → begin_at opening.now ≤ s.floor.0
  pub asked : (session : ℕ) → session < opening.now.places.sessions → PastOk (log_at opening ghosts events) (flushed_at opening events) (mail_past opening session events)
  pub log : LogOk start (log_at opening ghosts events)

-- so it has been at each moment so far
abbrev pub HeldSoFar : World → ℕ → Ghosts → List Event → Type 0
HeldSoFar opening start ghosts [] = Held opening start ghosts []
HeldSoFar opening start ghosts (event ∷ before) = Held opening start ghosts (event ∷ before) × HeldSoFar opening start ghosts before

pub held_now : (opening : World) (start : ℕ) (ghosts : Ghosts) (events : List Event) → HeldSoFar opening start ghosts events → Held opening start ghosts events
held_now opening start ghosts [] held = held
held_now opening start ghosts (event ∷ before) held = held.0

pub held_then : (opening : World) (start : ℕ) (ghosts : Ghosts) (later earlier : List Event) → HeldSoFar opening start ghosts (later ++ earlier) → HeldSoFar opening start ghosts earlier
held_then opening start ghosts [] earlier held = held
held_then opening start ghosts (event ∷ later) earlier held = held_then opening start ghosts later earlier held.1

pub cells_fit : (start : ℕ) (log : Log) → LogOk start log → CellsFit log
cells_fit start log ok = λ a cell e. (subst (LoggedOk start a) e (ok a)).0

-- ---- from moment to moment
module _ (opening : World) (start : ℕ) (lists : ℕ → List ℕ) (ghosts : Ghosts) (begins : BeginsLinked opening start lists ghosts) where
  pub one_rises : (before : List Event) (event : Event) → flushed_at opening before ≤ flushed_at opening (event ∷ before)
  unfolding run
  one_rises before event = (life_rises opening start before (event ∷ []) begins.now).flushed

  pub one_stays : (before : List Event) (event : Event) → Stays (log_at opening ghosts before) (log_at opening ghosts (event ∷ before))
  one_stays before event = life_stays opening start ghosts begins.now begins.unborn before event

  later_stays : (later earlier : List Event) → Stays (log_at opening ghosts earlier) (log_at opening ghosts (later ++ earlier))
  later_stays [] earlier = λ a there. there
  later_stays (event ∷ later) earlier = λ a there. one_stays (later ++ earlier) event a (later_stays later earlier a there)

  later_rises : (later earlier : List Event) → flushed_at opening earlier ≤ flushed_at opening (later ++ earlier)
  later_rises [] earlier = omega arith
  later_rises (event ∷ later) earlier = let was = later_rises later earlier in let now = one_rises (later ++ earlier) event in omega (arith, was, now)

  pub record_grows : (later : List Event) (event : Event) (earlier : List Event) (its : MailRecord) (said : HeaderSaid) → RecordOk (begin_at opening.now) (log_at opening ghosts earlier) (flushed_at opening earlier) its said
      → RecordOk (begin_at opening.now) (log_at opening ghosts (later ++ (event ∷ earlier))) (flushed_at opening (later ++ (event ∷ earlier))) its said
  record_grows later event earlier its said ok =
      taken_grows (log_at opening ghosts earlier) (log_at opening ghosts (later ++ (event ∷ earlier))) (λ a there. later_stays later (event ∷ earlier) a (one_stays earlier event a there)) (flushed_at opening earlier) (flushed_at opening (later ++ (event ∷ earlier)))
      (let was = one_rises earlier event in let now = later_rises later (event ∷ earlier) in omega (arith, was, now)) (begin_at opening.now) its said ok
