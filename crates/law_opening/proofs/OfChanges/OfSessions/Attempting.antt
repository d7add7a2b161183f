-- What a session attempts, the search that it has under way, and the reply that it gets.
use Rattle.fkv_epoch.proofs.Shown.{none_some}
use Rattle.fkv_index.specs.Finding.{find_next_ask}
use Rattle.law_refine.specs.Below.fkv_pending.Attempting.{attempt_ask}
use Rattle.fkv_plane.proofs.Shown.{passed_reply}
use Rattle.fkv_plane.specs.Asked.{reply_to}
use Rattle.fkv_plane.specs.declared.places.Places.{Places}
use Rattle.law_refine.specs.Below.fkv_session.Sessions.{Seat, SessionState, sitting_ask}
use Rattle.law_refine.specs.Below.fkv_session.Told.TheVariants.{Slept}
use Rattle.law_refine.specs.Below.fkv_session.Sitting.{Sitting}
use Rattle.law_refine.specs.Below.fkv_session.Sitting.TheVariants.{Attempts, Polls}
use Rattle.law_refine.specs.Below.fkv_world.Opened.{HasBecome, IsOpenedWorld}
use Rattle.law_refine.specs.Below.fkv_world.OwnEvents.{session_events}
use Rattle.law_refine.specs.Below.fkv_world.Runs.{World, run}
use Rattle.law_refine.specs.Below.fkv_world.World.{Event, seat_at}
use Rattle.law_refine.proofs.Below.law_local.OfSessions.SessionInputs.{run_so}
use Rattle.law_refine.specs.Below.law_local.Sessions.Inputs.{AttemptsSo}
use Rattle.law_refine.specs.Below.law_local.Sessions.Known.{is_attempting}
use Rattle.law_refine.specs.Index.Finders.{Search, SessionWork, attempt_part, search_in, sitting_part}
use Rattle.law_refine.specs.Heads.Searches.{IsHeadAnswered}
use Rattle.law_refine.specs.Records.Frames.{IsAttempting}
use Rattle.law_refine.proofs.Below.law_world.OfRuns.Nothing.{none_ever}
use Rattle.law_refine.proofs.Below.law_world.OfSessions.OwnRun.{of_run, opened_so}
use Rattle.std.proofs.Common.{List, refl, sym, true, ℕ, ◌∙◌, ◌≡◌}
use Rattle.std.specs.Prelude.{None, Option, Some, slice_get}

-- the search that is under way, if any, finds by this reply where the chain begins
abbrev pub FindsBy : Places → ℕ → ℕ → SessionWork → Type 0
FindsBy p head reply work = (its : Search) → search_in work ≡ Some its → IsHeadAnswered head (find_next_ask p its.finding reply)

-- ---- by what it attempts
pub attempting_is : (step : Sitting) → is_attempting step ≡ true → IsAttempting step
attempting_is (Attempts has_shifted) attempts = tt
attempting_is (Polls index) attempts = tt
attempting_is step attempts = cc

-- the search of the session is that of its attempt
pub finds_by : (p : Places) (head reply : ℕ) (s : SessionState) (step : Sitting) → is_attempting step ≡ true → FindsBy p head reply (sitting_part s step).work → FindsBy p head reply (attempt_part s.attempt s.attempt.step).work
finds_by p head reply s (Attempts has_shifted) attempts finds = finds
finds_by p head reply s (Polls index) attempts finds = finds
finds_by p head reply s step attempts finds = cc

-- the reply to the session is the one to its attempt
pub attempt_reply : (k : Seat) (words : List ℕ) (s : SessionState) (step : Sitting) → is_attempting step ≡ true → reply_to words (sitting_ask k s step) ≡ reply_to words (attempt_ask k.places k.number s.attempt)
unfolding sitting_ask
attempt_reply k words s (Attempts has_shifted) attempts = passed_reply words (attempt_ask k.places k.number s.attempt) Slept
attempt_reply k words s (Polls index) attempts = passed_reply words (attempt_ask k.places k.number s.attempt) Slept
attempt_reply k words s step attempts = cc

-- ---- it attempts what it should, at every moment of a life
pub life_attempts : (opening : World) (events : List Event) (session : ℕ) (s : SessionState) → IsOpenedWorld opening → slice_get (run opening events).now.sessions session ≡ Some s → AttemptsSo (seat_at opening.now session) s
life_attempts opening events session s opened found = by_first (slice_get opening.now.sessions session) refl
  where
    k : Seat
    k = seat_at opening.now session

    by_first : (first : Option SessionState) → slice_get opening.now.sessions session ≡ first → AttemptsSo k s
    by_first None e = none_some s (sym (none_ever opening events session e) ∙ found)
    by_first (Some first) e =
        let became : HasBecome opening events session first s = record { opened = opened; was = e; is_now = found } in
        of_run (λ (x : SessionState). AttemptsSo k x) opening events session first s became (run_so k first (session_events opening session events) (opened_so opening events session first s became))
