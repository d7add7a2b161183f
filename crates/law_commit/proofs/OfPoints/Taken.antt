-- In a life the points that the keeper takes are the sessions' points of the commit's number.
use Rattle.std.proofs.Common.{◌≡◌, ◌⊎◌, inl, inr, ℕ, zero, suc, ◌-◌, ◌<◌, ◌≤◌, ◌∙◌, List, [], ◌∷◌, length, refl, arith, ap, sym, subst, true}
use Rattle.std.specs.Prelude.{max, Option, Some, None, slice_get}
use Rattle.std.proofs.lemmas.Option.{slice_get_within}
use Rattle.fkv_base.specs.Limits.{last_serial}
use Rattle.fkv_base.specs.declared.numbers.Serial.{Serial}
use Rattle.fkv_base.specs.declared.numbers.Version.{Version}
use Rattle.fkv_base.specs.declared.shapes.Shape.{Shape}
use Rattle.fkv_plane.specs.declared.actions.Action.{Action}
use Rattle.fkv_plane.specs.declared.asks.Ask.{Ask}
use Rattle.fkv_plane.specs.declared.asks.Ask.TheVariants.{Load, Put}
use Rattle.fkv_plane.specs.declared.places.Places.{Places}
use Rattle.fkv_plane.specs.Asked.{reply_to}
use Rattle.fkv_plane.specs.Passing.{passed}
use Rattle.fkv_plane.specs.Places.{session_place}
use Rattle.law_refine.specs.Below.fkv_commit.TheSeeking.{Seeking}
use Rattle.law_refine.specs.Below.fkv_commit.TheSeeking.TheVariants as seek
use Rattle.law_refine.specs.Below.fkv_commit.Cuts.{cut_of, other_cut_of, serial_said, version_said}
use Rattle.law_refine.specs.Below.fkv_commit.Seeking.{floor_of, seeking_ask}
use Rattle.law_refine.specs.Below.fkv_keeper.KeeperTold.{KeeperTold}
use Rattle.law_refine.specs.Below.fkv_keeper.TheKeeping.{Keeping}
use Rattle.law_refine.specs.Below.fkv_keeper.TheKeeping.TheVariants.{Ended, Starts, Maintains, LoadsPhase, Enters, Copies, Seeks, Waits, Writes, Finishes, Sweeps}
use Rattle.law_refine.specs.Below.fkv_keeper.Keeping.{KeeperState, commit_asked, keeper_ask, keeping_ask, turn_asked}
use Rattle.fkv_map.specs.History.{point_of}
use Rattle.law_refine.specs.Below.fkv_session.Sessions.{SessionState}
use Rattle.law_refine.specs.Below.fkv_session.SessionRun.{session_run}
use Rattle.law_refine.specs.Below.fkv_world.Moves.{keeper_gets}
use Rattle.law_refine.specs.Below.fkv_world.Opened.{HasBecome}
use Rattle.law_refine.specs.Below.fkv_world.OwnEvents.{session_events}
use Rattle.law_refine.specs.Below.fkv_world.Runs.{World, run}
use Rattle.law_refine.specs.Below.fkv_world.World.{Event, Now, seat_at}
use Rattle.law_refine.proofs.Below.fkv_world.Shown.{session_runs}
use Rattle.law_refine.proofs.Below.law_world.OfSessions.OwnRun.{opened_so}
use Rattle.law_commit.specs.Accepted.{point, versions_found}
use Rattle.law_commit.specs.Cuts.{ShowCuts}
use Rattle.law_commit.specs.LastSerials.{serial_at}
use Rattle.law_commit.specs.Floor.Stands.{PaperIsSound, stage_number}
use Rattle.law_commit.specs.Phases.Staged.{IsStaged, Pends, SeekAt, Stage, StepAt}
use Rattle.law_commit.specs.Points.{ArePointsOf, TakesPoints, first_cut, other_cut}
use Rattle.law_commit.specs.Quiet.{CutsShowPoints, LiveAreLater, OpensQuiet, ShowsPoint, pending_rank, rank_now, rank_said}
use Rattle.law_commit.proofs.Counted.{life_counted}
use Rattle.law_commit.proofs.OfCuts.Fits.{run_fits}
use Rattle.law_commit.proofs.OfPhases.LifeStages.{event_on, life_staged}
use Rattle.law_commit.proofs.OfPhases.StageMoves.{LedOn, QuietKeeper, Quietly, RunBySession}
use Rattle.law_commit.proofs.OfPoints.GoOn.{event_goes}
use Rattle.law_commit.proofs.OfPoints.Rises.{point_opens, rises_by_version}
use Rattle.law_commit.proofs.OfPoints.Taking.{AreTaken, KeeperTakes, KeepingReply, KeepingTakes, SeekReply, StepTakes, asked_takes, called_takes, commit_takes, given_takes, has_taken, opened_takes, replied_takes, takes_on, turn_takes}
use Rattle.law_commit.proofs.OfPoints.Words.{Meets, both_low, first_low, first_meets, first_stays, other_low, shown_most, stays_most, still_meets}
use Rattle.law_commit.proofs.OfQuiet.Left.{put_no_load}
use Rattle.law_commit.proofs.OfQuiet.Points.{points_stay}
use Rattle.law_commit.proofs.OfQuiet.Ranks.{ranks_rise, staged_rank}
use Rattle.law_commit.proofs.OfVersions.Points.{count_low}

-- ---- lists by index
pub none_past : {X : Type 0} (xs : List X) (i : ℕ) → slice_get xs i ≡ None → length xs ≤ i
none_past [] i none = omega arith
none_past (x ∷ xs) zero none = cc
none_past (x ∷ xs) (suc i) none = let rest = none_past xs i none in omega (arith, rest)

pub some_there : {X : Type 0} (xs : List X) (i : ℕ) → i < length xs → (x : X) × (slice_get xs i ≡ Some x)
some_there [] i low = absurd (omega (arith, low))
some_there (x ∷ xs) zero low = (x, refl)
some_there (x ∷ xs) (suc i) low = some_there xs i (omega (arith, low))

pub point_there : (points : List Serial) (session : ℕ) (it : Serial) → slice_get points session ≡ Some it → point_of points session ≡ it.0
point_there [] session it got = cc
point_there (x ∷ rest) zero it got = let same : x ≡ it = cc in ap (λ (y : Serial). y.0) same
point_there (x ∷ rest) (suc i) it got = point_there rest i it got

floor_point : (points : List Serial) (session : ℕ) → floor_of points session ≡ point_of points session
floor_point [] session = refl
floor_point (x ∷ rest) zero = refl
floor_point (x ∷ rest) (suc i) = floor_point rest i

pub point_past : (points : List Serial) (session : ℕ) → length points ≤ session → point_of points session ≡ 0
point_past [] session past = refl
point_past (x ∷ rest) zero past = absurd (omega (arith, past))
point_past (x ∷ rest) (suc i) past = point_past rest i (omega (arith, past))

-- ---- what the keeper loads
asks_first : (shape : Shape) (p : Places) (s : KeeperState) → s.step ≡ Seeks → s.seek.step ≡ seek.LoadsCut → keeper_ask shape p s ≡ Load (session_place (length s.seek.points) (cut_of s.seek.number.0))
unfolding keeping_ask seeking_ask passed
asks_first shape p s at loads = rw (at, loads) refl

asks_other : (shape : Shape) (p : Places) (s : KeeperState) (met : ℕ) → s.step ≡ Seeks → s.seek.step ≡ seek.LoadsOther met → keeper_ask shape p s ≡ Load (session_place (length s.seek.points) (other_cut_of s.seek.number.0))
unfolding keeping_ask seeking_ask passed
asks_other shape p s met at loads = rw (at, loads) refl

asks_again : (shape : Shape) (p : Places) (s : KeeperState) → s.step ≡ Seeks → s.seek.step ≡ seek.LoadsAgain → keeper_ask shape p s ≡ Load (session_place (length s.seek.points) (cut_of s.seek.number.0))
unfolding keeping_ask seeking_ask passed
asks_again shape p s at loads = rw (at, loads) refl

module _ (live : LiveAreLater) (paper_sound : PaperIsSound) (cuts_show : CutsShowPoints) (opening : World) (start : ℕ) (opens : OpensQuiet opening start) (shows : ShowCuts opening.now)
    (opens_points : (session : ℕ) → point_of opening.now.keeper.last.points session ≡ serial_at opening.now session) where
  abbrev count : ℕ
  count = opening.now.places.sessions

  -- ---- what is known of a session at a moment
  abbrev At : List Event → ℕ → ℕ → ℕ
  At events version session = point opening events session version

  -- A word that was met as its first, and of another version. The session came no further since the version before, and the word says no more. While the phase
  -- is wait-pending its other word says what follows.
  record Met (events : List Event) (version session word : ℕ) : Type 0 where
    from : pending_rank version ≤ rank_now opening events
    stays : (first : SessionState) → slice_get opening.now.sessions session ≡ Some first → At events (version - 1) session ≡ At events version session
    low : (first : SessionState) → slice_get opening.now.sessions session ≡ Some first → serial_said word ≤ At events version session
    meets : (first : SessionState) → slice_get opening.now.sessions session ≡ Some first → rank_now opening events ≡ pending_rank version → Meets version (At events version session) (other_cut opening events session version)

  -- it came no further
  record Again (events : List Event) (version session : ℕ) : Type 0 where
    from : pending_rank version ≤ rank_now opening events
    stays : (first : SessionState) → slice_get opening.now.sessions session ≡ Some first → At events (version - 1) session ≡ At events version session

  -- a serial is its point
  record Point (events : List Event) (version session serial : ℕ) : Type 0 where
    from : pending_rank version ≤ rank_now opening events
    is : (first : SessionState) → slice_get opening.now.sessions session ≡ Some first → serial ≡ At events version session

  abbrev Takes : List Event → KeeperState → Type 0
  Takes events s = KeeperTakes count (Met events) (Again events) (Point events) s

  become : (events : List Event) (session : ℕ) (first : SessionState) → slice_get opening.now.sessions session ≡ Some first
      → HasBecome opening events session first (session_run (seat_at opening.now session) first (session_events opening session events))
  become events session first was = record { opened = opens.opened; was = was; is_now = session_runs opening session first events was }

  shown : (events : List Event) (version session : ℕ) (first : SessionState) → slice_get opening.now.sessions session ≡ Some first → rank_now opening events ≡ pending_rank version
      → ShowsPoint version (At events (version - 1) session) (At events version session) (first_cut opening events session version) (other_cut opening events session version)
  shown events version session first was rank = cuts_show opening start events version session first _ opens shows (become events session first was) rank

  -- a point is a serial
  small : (events : List Event) (version session : ℕ) (first : SessionState) → slice_get opening.now.sessions session ≡ Some first → At events version session ≤ last_serial
  small events version session first was =
      let its : SessionState = session_run (seat_at opening.now session) first (session_events opening session events) in
      let became = become events session first was in
      let fits : its.serial ≤ last_serial = run_fits (seat_at opening.now session) first (session_events opening session events) (opened_so opening events session first its became) in
      let counts = life_counted opening events session first its became in
      let low = count_low version (versions_found opening events session (slice_get opening.now.sessions session)) in
      omega (arith, fits, counts, low)

  -- ---- it goes on
  module _ (event : Event) (before : List Event) where
    up : rank_now opening before ≤ rank_now opening (event ∷ before)
    up = ranks_rise opening start before event opens

    same_point : (version session : ℕ) (first : SessionState) → slice_get opening.now.sessions session ≡ Some first → pending_rank version ≤ rank_now opening before → At (event ∷ before) version session ≡ At before version session
    same_point version session first was from = points_stay live opening start (event ∷ []) before version session first _ opens from (become before session first was)

    still_pends : (version : ℕ) → pending_rank version ≤ rank_now opening before → rank_now opening (event ∷ before) ≡ pending_rank version → rank_now opening before ≡ pending_rank version
    still_pends version from here = let rise = up in omega (arith, rise, from, here)

    same_before : (version session : ℕ) (first : SessionState) → slice_get opening.now.sessions session ≡ Some first → pending_rank version ≤ rank_now opening before
        → At before (version - 1) session ≡ At before version session → At (event ∷ before) (version - 1) session ≡ At (event ∷ before) version session
    same_before version session first was from is = same_point (version - 1) session first was (omega (arith, from)) ∙ (is ∙ sym (same_point version session first was from))

    met_on : (version session word : ℕ) → Met before version session word → Met (event ∷ before) version session word
    met_on version session word its =
        let rise = up in
        let from = its.from in
        record {
          from = omega (arith, rise, from);
          stays = λ first was. same_before version session first was its.from (its.stays first was);
          low = λ first was. let low = its.low first was in let same = same_point version session first was its.from in omega (arith, low, same);
          meets = λ first was here.
              let rank = still_pends version its.from here in
              let goes = event_goes live paper_sound opening start before version session first opens was rank event in
              let same = same_point version session first was its.from in
              subst (λ (n : ℕ). Meets version n (other_cut opening (event ∷ before) session version)) (sym same)
              (still_meets version (At before version session) (other_cut opening before session version) (other_cut opening (event ∷ before) session version) goes.other (its.meets first was rank));
        }

    again_on : (version session : ℕ) → Again before version session → Again (event ∷ before) version session
    again_on version session its =
        let rise = up in
        let from = its.from in
        record { from = omega (arith, rise, from); stays = λ first was. same_before version session first was its.from (its.stays first was) }

    point_on : (version session serial : ℕ) → Point before version session serial → Point (event ∷ before) version session serial
    point_on version session serial its =
        let rise = up in
        let from = its.from in
        record { from = omega (arith, rise, from); is = λ first was. its.is first was ∙ sym (same_point version session first was its.from) }

    carried : (s : KeeperState) → Takes before s → Takes (event ∷ before) s
    carried s its = takes_on count (Met before) (Met (event ∷ before)) (Again before) (Again (event ∷ before)) (Point before) (Point (event ∷ before)) met_on again_on point_on s its

  -- ---- what the keeper reads
  module _ (events : List Event) where
    abbrev n : Now
    n = (run opening events).now

    abbrev reply : ℕ
    reply = reply_to n.words (keeper_ask n.shape n.places n.keeper)

    module _ (number : Version) (stage : Stage) (staged : IsStaged n number stage) where
      pends_rank : n.keeper.seek.number ≡ number → stage ≡ Pends → rank_now opening events ≡ pending_rank n.keeper.seek.number.0
      pends_rank same pends = let a = staged_rank n number stage staged in let b = ap stage_number pends in let c = ap (λ (v : Version). v.0) same in omega (arith, a, b, c)

      seek_at : n.keeper.step ≡ Seeks → (n.keeper.seek.number ≡ number) × SeekAt number stage n.keeper.seek n.keeper.seek.step
      seek_at at = subst (λ (x : Keeping). StepAt number stage n.keeper x) at staged.keeper.step

      here : n.keeper.step ≡ Seeks → (step : Seeking) → n.keeper.seek.step ≡ step → SeekAt number stage n.keeper.seek step
      here at step is = subst (λ (x : Seeking). SeekAt number stage n.keeper.seek x) is (seek_at at).1

      abbrev version : ℕ
      version = n.keeper.seek.number.0

      abbrev session : ℕ
      session = length n.keeper.seek.points

      read : (place : ℕ) → keeper_ask n.shape n.places n.keeper ≡ Load place → reply ≡ reply_to {A = KeeperTold} n.words (Load place)
      read place asks = ap (λ (ask : Ask KeeperTold). reply_to n.words ask) asks

      -- its floor is the session's point of the newest finished commit
      floor_is : Takes events n.keeper → n.keeper.step ≡ Seeks → (first : SessionState) → slice_get opening.now.sessions session ≡ Some first → floor_of n.keeper.seek.floor session ≡ At events n.keeper.last.number.0 session
      floor_is takes at first was =
          let sought = subst (λ (x : Keeping). KeepingTakes count (Met events) (Again events) (Point events) n.keeper x) at takes.step in
          let many = opens.opened.seats in
          let within = slice_get_within opening.now.sessions session first was in
          ap (λ (points : List Serial). floor_of points session) sought.floor ∙ (takes.last session (omega (arith, many, within))).is first was

      -- which is the version before
      floor_before : Takes events n.keeper → n.keeper.step ≡ Seeks → (first : SessionState) → slice_get opening.now.sessions session ≡ Some first → floor_of n.keeper.seek.floor session ≡ At events (version - 1) session
      floor_before takes at first was =
          let next = staged.keeper.has.next in
          let same = ap (λ (v : Version). v.0) (seek_at at).0 in
          let earlier : n.keeper.last.number.0 ≡ version - 1 = omega (arith, next, same) in
          floor_is takes at first was ∙ ap (λ (v : ℕ). At events v session) earlier

      made : Takes events n.keeper → n.keeper.step ≡ Seeks → (first : SessionState) → slice_get opening.now.sessions session ≡ Some first → (serial : ℕ) → max (At events (version - 1) session) serial ≡ At events version session
          → max (floor_of n.keeper.seek.floor session) serial ≡ At events version session
      made takes at first was serial is = ap (λ (n : ℕ). max n serial) (floor_before takes at first was) ∙ is

      rises : At events (version - 1) session ≤ At events version session
      rises = rises_by_version opening events session (version - 1) version (omega arith)

      first_told : Takes events n.keeper → n.keeper.step ≡ Seeks → n.keeper.seek.step ≡ seek.LoadsCut → (first : SessionState) → slice_get opening.now.sessions session ≡ Some first
          → SeekReply count (Met events) (Again events) (Point events) n.keeper.seek seek.LoadsCut reply
      first_told takes at loads first was =
          let rank = pends_rank (seek_at at).0 (here at seek.LoadsCut loads).0 in
          let is : reply ≡ first_cut opening events session version = read (session_place session (cut_of version)) (asks_first n.shape n.places n.keeper at loads) in
          let from : pending_rank version ≤ rank_now opening events = omega (arith, rank) in
          let shows = shown events version session first was rank in
          let little = small events version session first was in (
            (λ same. record {
              from = from;
              is = λ other found. made takes at first was (serial_said reply)
                  (ap (λ (word : ℕ). max (At events (version - 1) session) (serial_said word)) is
                  ∙ shown_most version (At events (version - 1) session) (At events version session) little (first_cut opening events session version) (other_cut opening events session version) rises shows);
            }),
            (λ apart. record {
              from = from;
              stays = λ other found. first_stays version (At events (version - 1) session) (At events version session) little (first_cut opening events session version) (other_cut opening events session version) shows
                  (λ same. apart (ap version_said is ∙ same));
              low = λ other found.
                  let said = ap serial_said is in
                  let low = first_low version (At events (version - 1) session) (At events version session) little (first_cut opening events session version) (other_cut opening events session version) shows in
                  omega (arith, said, low);
              meets = λ other found pending. first_meets version (At events (version - 1) session) (At events version session) little (first_cut opening events session version) (other_cut opening events session version) shows
                  (λ same. apart (ap version_said is ∙ same));
            }),
          )

      other_told : (met : ℕ) → Takes events n.keeper → n.keeper.step ≡ Seeks → n.keeper.seek.step ≡ seek.LoadsOther met → Met events version session met → (first : SessionState) → slice_get opening.now.sessions session ≡ Some first
          → SeekReply count (Met events) (Again events) (Point events) n.keeper.seek (seek.LoadsOther met) reply
      other_told met takes at loads known first was =
          let rank = pends_rank (seek_at at).0 (here at (seek.LoadsOther met) loads).0 in
          let is : reply ≡ other_cut opening events session version = read (session_place session (other_cut_of version)) (asks_other n.shape n.places n.keeper met at loads) in
          let from : pending_rank version ≤ rank_now opening events = omega (arith, rank) in
          let meets = known.meets first was rank in (
            (λ apart. record {
              from = from;
              is = λ other found. made takes at first was (max (serial_said met) (serial_said reply))
                  (stays_most (At events (version - 1) session) (At events version session) (max (serial_said met) (serial_said reply)) (known.stays first was)
                  (both_low (serial_said met) (serial_said reply) (At events version session) (known.low first was)
                  (let said = ap serial_said is in
                  let low = other_low version (At events version session) (other_cut opening events session version) meets (λ same. apart (ap version_said is ∙ same)) in
                  omega (arith, said, low))));
            }),
            (λ later. record { from = from; stays = known.stays }),
          )

      again_told : Takes events n.keeper → n.keeper.step ≡ Seeks → n.keeper.seek.step ≡ seek.LoadsAgain → Again events version session → (first : SessionState) → slice_get opening.now.sessions session ≡ Some first
          → SeekReply count (Met events) (Again events) (Point events) n.keeper.seek seek.LoadsAgain reply
      again_told takes at loads known first was =
          let rank = pends_rank (seek_at at).0 (here at seek.LoadsAgain loads).0 in
          let is : reply ≡ first_cut opening events session version = read (session_place session (cut_of version)) (asks_again n.shape n.places n.keeper at loads) in
          record {
            from = omega (arith, rank);
            is = λ other found. made takes at first was (serial_said reply)
                (stays_most (At events (version - 1) session) (At events version session) (serial_said reply) (known.stays first was)
                (let said = ap serial_said is in
                let low = first_low version (At events (version - 1) session) (At events version session) (small events version session first was) (first_cut opening events session version) (other_cut opening events session version)
                (shown events version session first was rank) in
                omega (arith, said, low)));
          }

      -- the session whose point it seeks is there
      there : session < count → (first : SessionState) × (slice_get opening.now.sessions session ≡ Some first)
      there low = let many = opens.opened.seats in some_there opening.now.sessions session (omega (arith, low, many))

      seek_told : (step : Seeking) → Takes events n.keeper → n.keeper.step ≡ Seeks → n.keeper.seek.step ≡ step → StepTakes count (Met events) (Again events) (Point events) n.keeper.seek step → SeekReply count (Met events) (Again events) (Point events) n.keeper.seek step reply
      seek_told seek.LoadsCut takes at is knows = let its = there knows in first_told takes at is its.0 its.1
      seek_told (seek.LoadsOther met) takes at is knows = let its = there knows.0 in other_told met takes at is knows.1 its.0 its.1
      seek_told seek.LoadsAgain takes at is knows = let its = there knows.0 in again_told takes at is knows.1 its.0 its.1
      seek_told (seek.Ended its) takes at is knows = tt
      seek_told (seek.LoadsOwing other) takes at is knows = tt
      seek_told seek.SeeksSlot takes at is knows = tt
      seek_told seek.StoresWaitFlush takes at is knows = tt
      seek_told seek.LoadsTail takes at is knows = tt
      seek_told (seek.RaisesReadOnly end) takes at is knows = tt
      seek_told (seek.Defers end) takes at is knows = tt

      keeping_told : (step : Keeping) → Takes events n.keeper → n.keeper.step ≡ step → KeepingTakes count (Met events) (Again events) (Point events) n.keeper step → KeepingReply count (Met events) (Again events) (Point events) n.keeper step reply
      keeping_told Seeks takes at knows = seek_told n.keeper.seek.step takes at refl knows.its.step
      keeping_told (Ended told) takes at knows = tt
      keeping_told Starts takes at knows = tt
      keeping_told Maintains takes at knows = tt
      keeping_told LoadsPhase takes at knows = tt
      keeping_told Enters takes at knows = tt
      keeping_told Copies takes at knows = tt
      keeping_told Sweeps takes at knows = tt
      keeping_told Waits takes at knows = tt
      keeping_told Writes takes at knows = tt
      keeping_told Finishes takes at knows = tt

    -- as it puts an action it reads nothing
    seek_puts : (s : KeeperState) (step : Seeking) (slot : ℕ) (action : Action) → s.step ≡ Seeks → s.seek.step ≡ step → keeper_ask n.shape n.places s ≡ Put slot action → SeekReply count (Met events) (Again events) (Point events) s.seek step 0
    seek_puts s seek.LoadsCut slot action at is puts = put_no_load (keeper_ask n.shape n.places s) slot action (session_place (length s.seek.points) (cut_of s.seek.number.0)) puts (asks_first n.shape n.places s at is)
    seek_puts s (seek.LoadsOther met) slot action at is puts = put_no_load (keeper_ask n.shape n.places s) slot action (session_place (length s.seek.points) (other_cut_of s.seek.number.0)) puts (asks_other n.shape n.places s met at is)
    seek_puts s seek.LoadsAgain slot action at is puts = put_no_load (keeper_ask n.shape n.places s) slot action (session_place (length s.seek.points) (cut_of s.seek.number.0)) puts (asks_again n.shape n.places s at is)
    seek_puts s (seek.Ended its) slot action at is puts = tt
    seek_puts s (seek.LoadsOwing other) slot action at is puts = tt
    seek_puts s seek.SeeksSlot slot action at is puts = tt
    seek_puts s seek.StoresWaitFlush slot action at is puts = tt
    seek_puts s seek.LoadsTail slot action at is puts = tt
    seek_puts s (seek.RaisesReadOnly end) slot action at is puts = tt
    seek_puts s (seek.Defers end) slot action at is puts = tt

    keeping_puts : (s : KeeperState) (step : Keeping) (slot : ℕ) (action : Action) → s.step ≡ step → keeper_ask n.shape n.places s ≡ Put slot action → KeepingReply count (Met events) (Again events) (Point events) s step 0
    keeping_puts s Seeks slot action at puts = seek_puts s s.seek.step slot action at refl puts
    keeping_puts s (Ended told) slot action at puts = tt
    keeping_puts s Starts slot action at puts = tt
    keeping_puts s Maintains slot action at puts = tt
    keeping_puts s LoadsPhase slot action at puts = tt
    keeping_puts s Enters slot action at puts = tt
    keeping_puts s Copies slot action at puts = tt
    keeping_puts s Sweeps slot action at puts = tt
    keeping_puts s Waits slot action at puts = tt
    keeping_puts s Writes slot action at puts = tt
    keeping_puts s Finishes slot action at puts = tt

  -- ---- an event
  module _ (event : Event) (before : List Event) (was : Takes before (run opening before).now.keeper) where
    abbrev from : Now
    from = (run opening before).now

    abbrev after : Now
    after = (run opening (event ∷ before)).now

    abbrev Holds : KeeperState → Type 0
    Holds s = Takes before s

    gets_takes : (led : KeeperState) (found : Option Action) → Holds led → Holds (keeper_gets from.shape from.places led found)
    gets_takes led None its = its
    gets_takes led (Some action) its = given_takes count (Met before) (Again before) (Point before) from.shape from.places led led.step action refl its

    quiet_takes : QuietKeeper from after.keeper → Holds after.keeper
    quiet_takes (inl same) = subst Holds (sym same) was
    quiet_takes (inr (inl called)) = subst Holds (sym called.2) (called_takes count (Met before) (Again before) (Point before) from.shape from.places from.keeper from.keeper.step called.0 called.1 refl was)
    quiet_takes (inr (inr (inl commit))) =
        subst Holds (sym commit.1)
        (asked_takes count (Met before) (Again before) (Point before) from.keeper (commit_asked from.keeper commit.0) was
        (commit_takes count (Met before) (Again before) (Point before) from.keeper commit.0 (has_taken count (Met before) (Again before) (Point before) from.keeper was)))
    quiet_takes (inr (inr (inr turn))) =
        subst Holds (sym turn)
        (asked_takes count (Met before) (Again before) (Point before) from.keeper (turn_asked from.keeper) was
        (turn_takes count (Met before) (Again before) (Point before) from.keeper (has_taken count (Met before) (Again before) (Point before) from.keeper was)))

    module _ (number : Version) (stage : Stage) (staged : IsStaged from number stage) where
      onto_takes : (next : Version) (there : Stage) → LedOn from after.keeper after.words number next stage there → Holds after.keeper
      onto_takes next there its =
          let onto = its.onto in
          let led : Holds onto.led =
          subst Holds (sym onto.is_led)
          (replied_takes count (Met before) (Again before) (Point before) from.shape from.places from.keeper from.keeper.step (reply_to from.words (keeper_ask from.shape from.places from.keeper)) its.granted refl
          (has_taken count (Met before) (Again before) (Point before) from.keeper was) was.step (keeping_told before number stage staged from.keeper.step was refl was.step)) in
          elim onto.settled [
            | inl plain ↦ elim plain.keeper [
              | inl same ↦ subst Holds (sym same) led
              | inr gets ↦ subst Holds (sym gets.1) (gets_takes onto.led gets.0 led)
            ]
            | inr puts ↦ subst Holds (sym puts.keeper)
                (replied_takes count (Met before) (Again before) (Point before) from.shape from.places onto.led onto.led.step 0 its.granted refl (has_taken count (Met before) (Again before) (Point before) onto.led led) led.step
                (keeping_puts before onto.led onto.led.step puts.slot puts.action refl puts.asks))
          ]

      how_takes : (next : Version) (there : Stage) → Quietly from after.keeper number next stage there ⊎ (RunBySession from after.keeper number next stage there ⊎ LedOn from after.keeper after.words number next stage there) → Holds after.keeper
      how_takes next there (inl quiet) = quiet_takes quiet.keeper
      how_takes next there (inr (inl session)) = subst Holds (sym session.keeper) was
      how_takes next there (inr (inr led)) = onto_takes next there led

    event_takes : Takes (event ∷ before) after.keeper
    event_takes =
        let lived = life_staged opening start before opens.guarded opens.opened opens.seen.rests in
        let there = event_on opening start opens.guarded opens.opened before event lived.number lived.stage lived.staged in
        carried event before after.keeper (how_takes lived.number lived.stage lived.staged there.on.its_number there.on.its_stage there.how)

  -- ---- a life
  opened_last : (number : ℕ) → pending_rank number ≤ rank_now opening [] → (session : ℕ) → session < count → Point [] number session (floor_of opening.now.keeper.last.points session)
  opened_last number high session low = record { from = high; is = λ first found. floor_point opening.now.keeper.last.points session ∙ (opens_points session ∙ sym (point_opens opening session number)) }

  opened_keeper : Takes [] (run opening []).now.keeper
  unfolding run
  opened_keeper =
      let said = ap rank_said opens.seen.rests.says in
      opened_takes count (Met []) (Again []) (Point []) opening.now.keeper opening.now.keeper.step refl opens.guarded.keeper.none_in_hand opens.guarded.keeper.no_commit opens.guarded.keeper.none_rest opens.sought
      (opened_last opening.now.keeper.last.number.0 (omega (arith, said)))

  life_takes : (events : List Event) → Takes events (run opening events).now.keeper
  life_takes [] = opened_keeper
  life_takes (event ∷ before) = event_takes event before (life_takes before)

  -- where a commit is written they are
  pub writes_taken : (events : List Event) → (run opening events).now.keeper.step ≡ Writes → (run opening events).now.keeper.has_points ≡ true
  writes_taken events writes = subst (λ (x : Keeping). KeepingTakes count (Met events) (Again events) (Point events) (run opening events).now.keeper x) writes (life_takes events).step

  -- all points of a version, once they are taken
  none_given : (events : List Event) (version session : ℕ) → slice_get opening.now.sessions session ≡ None → 0 ≡ point opening events session version
  none_given events version session none = rw none refl

  points_of : (events : List Event) (version : ℕ) (points : List Serial) → AreTaken count (Met events) (Again events) (Point events) version points → length points ≡ count → ArePointsOf opening events version points
  points_of events version points taken all session = by_session (slice_get opening.now.sessions session) refl
    where
      many : length opening.now.sessions ≡ count
      many = opens.opened.seats

      by_session : (found : Option SessionState) → slice_get opening.now.sessions session ≡ found → point_of points session ≡ point opening events session version
      by_session None none =
          let past = none_past opening.now.sessions session none in
          let same = many in
          point_past points session (omega (arith, past, same, all)) ∙ none_given events version session none
      by_session (Some first) found = by_point (slice_get points session) refl
        where
          by_point : (it : Option Serial) → slice_get points session ≡ it → point_of points session ≡ point opening events session version
          by_point None none =
              let past = none_past points session none in
              let within = slice_get_within opening.now.sessions session first found in
              let same = many in
              absurd (omega (arith, past, within, same, all))
          by_point (Some it) got = point_there points session it got ∙ (taken session it got).is first found

pub takes_points : LiveAreLater → PaperIsSound → CutsShowPoints → TakesPoints
takes_points live paper_sound cuts_show opening start events c opens in_hand has_them =
    let its = life_takes live paper_sound cuts_show opening start opens.quiet opens.cuts opens.points events in
    let all = its.hand c in_hand has_them in
    subst (λ (v : Version). ArePointsOf opening events v.0 (run opening events).now.keeper.seek.points) all.number
    (points_of live paper_sound cuts_show opening start opens.quiet opens.cuts opens.points events (run opening events).now.keeper.seek.number.0 (run opening events).now.keeper.seek.points all.taken all.all)
