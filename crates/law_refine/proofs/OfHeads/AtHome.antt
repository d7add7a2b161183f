-- A session tries, searches, keeps a slot and publishes for the home of the key that it attempts.
use Rattle.std.proofs.Common.{◌≡◌, ℕ, ◌∙◌, refl, sym, ap, subst, Bool, true, false, List, length}
use Rattle.std.specs.Prelude.{if◌then◌else◌, Option, Some, None, slice_get, replicate}
use Rattle.fkv_epoch.proofs.Shown.{none_some, some_same}
use Rattle.fkv_map.specs.declared.operations.Op.{Op}
use Rattle.fkv_map.specs.Keys.{key_of}
use Rattle.fkv_plane.specs.declared.places.Places.{Places}
use Rattle.fkv_index.specs.declared.homes.Home.{Home}
use Rattle.fkv_index.specs.IndexWorld.{rested_actor}
use Rattle.fkv_index.specs.Slots.{home_of}
use Rattle.law_world.specs.Below.fkv_ops.TheAppending.{Appending}
use Rattle.law_world.specs.Below.fkv_ops.TheAppending.TheVariants as appending
use Rattle.law_world.specs.Below.fkv_ops.TheTrying.{Trying}
use Rattle.law_world.specs.Below.fkv_ops.TheTrying.TheVariants.{Walks, CountsTaken, LoadsSafe, TakesExclusive, LoadsOld, Appends}
use Rattle.law_world.specs.Below.fkv_ops.TheWalking.{Walking}
use Rattle.law_world.specs.Below.fkv_ops.TheWalking.TheVariants as walking
use Rattle.law_world.specs.Below.fkv_ops.Requests.{is_read}
use Rattle.law_world.specs.Below.fkv_ops.Trying.{TryState, has_walked}
use Rattle.law_world.specs.Below.fkv_pending.TheAttempting.{Attempting}
use Rattle.law_world.specs.Below.fkv_pending.TheAttempting.TheVariants.{Tries}
use Rattle.law_world.specs.Below.fkv_pending.Attempting.{AttemptState}
use Rattle.law_world.specs.Below.fkv_session.Sitting.{Sitting}
use Rattle.law_world.specs.Below.fkv_session.Sitting.TheVariants.{Attempts, Polls}
use Rattle.law_world.specs.Below.fkv_session.SessionRun.{SessionEvent, session_run}
use Rattle.law_world.specs.Below.fkv_session.Sessions.{SessionState, Seat, bits_of}
use Rattle.law_world.specs.Below.fkv_session.Sessions as sessions
use Rattle.law_world.specs.Below.fkv_session.Shares.{HasItsBuckets, shares_added, shares_dropped}
use Rattle.law_world.proofs.Below.fkv_session.Shown.{IsTryOf, KnowsShare, Book, StepShares, run_shares}
use Rattle.law_world.specs.Below.fkv_world.OwnEvents.{session_events}
use Rattle.law_world.specs.Below.fkv_world.Runs.{World, run}
use Rattle.law_world.specs.Below.fkv_world.World.{Event, seat_at}
use Rattle.law_world.proofs.Below.fkv_world.Shown.{same_seat, session_runs}
use Rattle.law_world.proofs.OfRuns.Nothing.{none_ever}
use Rattle.law_refine.specs.Index.Finders.{NoWork, KeepsSlot, slot_kept, kept_work, walk_work, append_work, try_work, attempt_part, sitting_part}
use Rattle.law_refine.specs.Index.Shows.{IsOpened}
use Rattle.law_refine.proofs.OfIndex.SessionParts.{SittingKnows}
use Rattle.law_refine.proofs.OfIndex.Permitted.{are_permitted}
use Rattle.law_refine.proofs.OfIndex.Worlds.{opening_holds, run_holds}
use Rattle.law_refine.specs.Heads.Searches.{TriesFor, AttemptsFor, IsWorkAt, IsAtHome, AreAtHome}

-- ---- by the home of the try
kept_at : (home : Home) (t : TryState) → t.home ≡ home → IsWorkAt home (kept_work t)
kept_at home t same = by_read (is_read t.request.op)
  where
    by_read : (c : Bool) → IsWorkAt home (if c then NoWork else KeepsSlot (slot_kept t))
    by_read true = tt
    by_read false = same

append_at : (home : Home) (t : TryState) (step : Appending) → t.home ≡ home → IsWorkAt home (append_work t step)
append_at home t appending.Reserves same = kept_at home t same
append_at home t (appending.Fills addr) same = kept_at home t same
append_at home t (appending.Publishes addr) same = same
append_at home t step same = tt

-- what the world of the index knows of a session whose attempt, try and walk are at these steps
abbrev KnowsAt : Places → SessionState → Attempting → Trying → Walking → Type 0
KnowsAt p s attempting trying step =
    SittingKnows p (record s { attempt = record s.attempt { step = attempting; trial = record s.attempt.trial { step = trying; walk = record s.attempt.trial.walk { step = step } } } }) (Attempts false)

ended_at : (home : Home) (t : TryState) (c : Bool) → t.home ≡ home → IsWorkAt home (if c then kept_work t else NoWork)
ended_at home t true same = kept_at home t same
ended_at home t false same = tt

walk_at : (p : Places) (home : Home) (s : SessionState) (step : Walking) → KnowsAt p s Tries Walks step → s.attempt.trial.home ≡ home → IsWorkAt home (walk_work s.attempt.trial step)
walk_at p home s walking.Finds knows same = knows.knows.at.0 ∙ same
walk_at p home s (walking.Ended its) knows same = ended_at home s.attempt.trial (has_walked its) same
walk_at p home s step knows same = kept_at home s.attempt.trial same

try_at : (p : Places) (home : Home) (s : SessionState) (step : Trying) → KnowsAt p s Tries step s.attempt.trial.walk.step → s.attempt.trial.home ≡ home → IsWorkAt home (try_work s.attempt.trial step)
try_at p home s Walks knows same = walk_at p home s s.attempt.trial.walk.step knows same
try_at p home s CountsTaken knows same = kept_at home s.attempt.trial same
try_at p home s (LoadsSafe addr version) knows same = kept_at home s.attempt.trial same
try_at p home s (TakesExclusive old) knows same = kept_at home s.attempt.trial same
try_at p home s LoadsOld knows same = kept_at home s.attempt.trial same
try_at p home s (Appends its) knows same = append_at home s.attempt.trial s.attempt.trial.append.step same
try_at p home s step knows same = tt

-- ---- which is that of its request's key
try_home : (k : Seat) (its : HasItsBuckets k) (op : Op) (t : TryState) → IsTryOf k its op t → t.home ≡ home_of (bits_of k) (key_of op)
try_home k its op t of =
    let home : ◌≡◌ {A = Home} t.home (home_of (bits_of k) (key_of of.request.op)) = ap (λ (x : TryState). x.home) of.trying.same in
    home ∙ ap (λ (o : Op). home_of (bits_of k) (key_of o)) of.its_op

attempt_at : (k : Seat) (its : HasItsBuckets k) (s : SessionState) (step : Attempting) → KnowsShare k its s.attempt step → KnowsAt k.places s step s.attempt.trial.step s.attempt.trial.walk.step
    → IsWorkAt (home_of (bits_of k) (key_of s.attempt.pending.request.op)) (attempt_part s.attempt step).work
attempt_at k its s Tries shares knows =
    try_at k.places (home_of (bits_of k) (key_of s.attempt.pending.request.op)) s s.attempt.trial.step knows (try_home k its s.attempt.pending.request.op s.attempt.trial shares)
attempt_at k its s step shares knows = tt

tries_for : (k : Seat) (its : HasItsBuckets k) (a : AttemptState) (step : Attempting) → KnowsShare k its a step → TriesFor (home_of (bits_of k) (key_of a.pending.request.op)) a step
tries_for k its a Tries shares = try_home k its a.pending.request.op a.trial shares
tries_for k its a step shares = tt

attempts_for : (m : Book) (s : SessionState) (step : Sitting) → StepShares m s step → AttemptsFor (home_of (bits_of m.seat) (key_of s.attempt.pending.request.op)) s step
attempts_for m s (Attempts has_shifted) shares = tries_for m.seat m.its s.attempt s.attempt.step shares.known.knows
attempts_for m s (Polls index) shares = tries_for m.seat m.its s.attempt s.attempt.step shares.known.knows
attempts_for m s step shares = tt

sitting_at : (m : Book) (s : SessionState) (step : Sitting) → StepShares m s step → SittingKnows m.seat.places s step → IsWorkAt (home_of (bits_of m.seat) (key_of s.attempt.pending.request.op)) (sitting_part s step).work
sitting_at m s (Attempts has_shifted) shares knows = attempt_at m.seat m.its s s.attempt.step shares.known.knows knows
sitting_at m s (Polls index) shares knows = attempt_at m.seat m.its s s.attempt.step shares.known.knows knows
sitting_at m s step shares knows = tt

-- ---- over a life
-- a session of a life is the run of its own events
record HasRun (opening : World) (events : List Event) (number : ℕ) (s : SessionState) : Type 0 where
  first : SessionState
  was : slice_get opening.now.sessions number ≡ Some first
  same : s ≡ session_run (seat_at opening.now number) first (session_events opening number events)

has_run : (opening : World) (events : List Event) (number : ℕ) (s : SessionState) (found : Option SessionState) → slice_get opening.now.sessions number ≡ found → slice_get (run opening events).now.sessions number ≡ Some s → HasRun opening events number s
has_run opening events number s None e got = none_some s (sym (none_ever opening events number e) ∙ got)
has_run opening events number s (Some first) e got = record {
  first = first;
  was = e;
  same = some_same s (session_run (seat_at opening.now number) first (session_events opening number events)) (sym got ∙ session_runs opening number first events e);
}

abbrev book : (k : Seat) → HasItsBuckets k → SessionState → List SessionEvent → Book
book k its first events = record { seat = k; its = its; at = 0; added = shares_added k first events 0; dropped = shares_dropped k first events 0 }

ran_shares : (k : Seat) (its : HasItsBuckets k) (first : SessionState) (events : List SessionEvent) (s : SessionState) → sessions.IsOpened first → s ≡ session_run k first events → StepShares (book k its first events) s s.step
ran_shares k its first events s opened same = subst (λ (x : SessionState). StepShares (book k its first events) x x.step) (sym same) (run_shares k its first events 0 opened)

pub life_at_home : (opening : World) (lists : ℕ → List ℕ) (events : List Event) → IsOpened opening lists → AreAtHome (run opening events).now
life_at_home opening lists events opened number s got =
    let holds = (run_holds opening events (replicate (length opening.now.sessions) rested_actor) (are_permitted opening lists events opened) (opening_holds opening lists opened)).holds in
    let knows : SittingKnows (run opening events).now.places s s.step = (holds.seats number s got).knows in
    let its = has_run opening events number s (slice_get opening.now.sessions number) refl got in
    let k : Seat = seat_at opening.now number in
    let here : SittingKnows k.places s s.step = subst (λ (seat : Seat). SittingKnows seat.places s s.step) (same_seat opening events number) knows in
    let m : Book = book k opened.buckets its.first (session_events opening number events) in
    let shares : StepShares m s s.step = ran_shares k opened.buckets its.first (session_events opening number events) s (opened.sessions number its.first its.was) its.same in
    let at : IsAtHome (home_of (bits_of k) (key_of s.attempt.pending.request.op)) s = record { tries = attempts_for m s s.step shares; work = sitting_at m s s.step shares here } in
    subst (λ (seat : Seat). IsAtHome (home_of (bits_of seat) (key_of s.attempt.pending.request.op)) s) (sym (same_seat opening events number)) at
