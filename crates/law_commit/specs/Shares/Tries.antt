-- What a try shares of the latch of its bucket, and when it has that latch alone.
use Rattle.std.specs.Prelude.{◌≡◌, ◌⊎◌, ⊤, ℕ, true, false, List}
use Rattle.law_refine.specs.Below.fkv_ops.Seen.{Seen}
use Rattle.law_refine.specs.Below.fkv_ops.TheTrying.{Trying}
use Rattle.law_refine.specs.Below.fkv_ops.TheTrying.TheVariants.{DropsExclusive, DropsShared, Ended, TakesShared}
use Rattle.law_refine.specs.Below.fkv_ops.Requests.{is_read}
use Rattle.law_refine.specs.Below.fkv_ops.Trying.{TryState, is_moving_on, is_prepare}
use Rattle.law_refine.specs.Below.fkv_pending.TheAttempting.{Attempting}
use Rattle.law_refine.specs.Below.fkv_pending.TheAttempting.TheVariants.{Tries}
use Rattle.law_refine.specs.Below.fkv_pending.Attempting.{AttemptState}
use Rattle.law_refine.specs.Below.fkv_session.Sitting.{Sitting}
use Rattle.law_refine.specs.Below.fkv_session.Sitting.TheVariants.{Attempts, Polls}
use Rattle.law_refine.specs.Below.fkv_session.Sessions.{SessionState}
use Rattle.law_refine.specs.Below.fkv_world.Opened.{HasBecome}
use Rattle.law_refine.specs.Below.fkv_world.Runs.{World}
use Rattle.law_refine.specs.Below.fkv_world.World.{Event}
use Rattle.law_refine.specs.Below.law_world.Guarded.Shows as guard

-- In prepare an update shares its latch. One whose request has come with its latch does in each phase. No other does. And a try has the latch alone only while its
-- session goes by in-progress or wait-pending, if the request is of the session's version.
pub record SharesSo (seen : Seen) (t : TryState) : Type 0 where
  pub prepares : is_prepare seen.phase ≡ true → is_read t.request.op ≡ false → t.has_shared ≡ true
  pub kept : t.request.has_latch ≡ true → t.has_shared ≡ true
  pub came : t.has_shared ≡ true → (is_prepare seen.phase ≡ true) ⊎ (t.request.has_latch ≡ true)
  pub alone : t.has_exclusive ≡ true → (is_moving_on seen.phase ≡ true) × (t.request.version.0 ≡ seen.version.0)

-- from where its share is taken to where it may be dropped
abbrev pub SharesTrying : Seen → TryState → Trying → Type 0
SharesTrying seen t TakesShared = ⊤
SharesTrying seen t (DropsExclusive its) = ⊤
SharesTrying seen t (DropsShared its) = ⊤
SharesTrying seen t (Ended its) = ⊤
SharesTrying seen t step = SharesSo seen t

abbrev pub SharesAttempting : Seen → AttemptState → Attempting → Type 0
SharesAttempting seen a Tries = SharesTrying seen a.trial a.trial.step
SharesAttempting seen a step = ⊤

abbrev pub SharesInHand : SessionState → Sitting → Type 0
SharesInHand s (Attempts has_shifted) = SharesAttempting s.seen s.attempt s.attempt.step
SharesInHand s (Polls index) = SharesAttempting s.seen s.attempt s.attempt.step
SharesInHand s step = ⊤

-- so it is in each life
abbrev pub SharesInTries : Type 0
SharesInTries =
    (opening : World) (start : ℕ) (events : List Event) (session : ℕ) (first its : SessionState) → guard.IsOpened opening.now start → HasBecome opening events session first its → SharesInHand its its.step
