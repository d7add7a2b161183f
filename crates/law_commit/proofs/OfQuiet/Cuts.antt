-- In wait-pending the two cut words of a session show its point of the commit's number, a sleeper's too.
use Rattle.std.proofs.Common.{◌≡◌, ◌≢◌, ◌⊎◌, inl, inr, ℕ, ◌+◌, ◌-◌, ◌<◌, ◌≤◌, ◌∙◌, List, [], ◌∷◌, refl, arith, ap, sym, subst, Bool, true, false}
use Rattle.std.specs.Prelude.{not, nat_le, ◌==◌, ◌%◌, if◌then◌else◌, Some, slice_get}
use Rattle.std.proofs.lemmas.Bool.Decides.{nat_tests}
use Rattle.fkv_base.specs.declared.numbers.Version.{Version}
use Rattle.fkv_plane.specs.declared.places.SessionWord.TheVariants as own
use Rattle.fkv_plane.specs.Asked.{word_at}
use Rattle.fkv_plane.specs.Places.{session_place}
use Rattle.law_refine.specs.Below.fkv_commit.Cuts.{cut_of, other_cut_of}
use Rattle.law_refine.specs.Below.fkv_session.Catching.{Catching}
use Rattle.law_refine.specs.Below.fkv_session.Catching.TheVariants as catching
use Rattle.law_refine.specs.Below.fkv_session.CatchCause.TheVariants.{Refreshes, Shifts, Wakes}
use Rattle.law_refine.specs.Below.fkv_session.Sitting.{Sitting}
use Rattle.law_refine.specs.Below.fkv_session.Sitting.TheVariants.{Idle, Attempts, CatchesUp, ClearsMail, Polls, StoresOwing, Turns, StoresCut, Leaves, LoadsDurable}
use Rattle.law_refine.specs.Below.fkv_session.Asleep.{IsStepAsleep}
use Rattle.law_refine.specs.Below.fkv_session.CatchingUp.{cut_at}
use Rattle.law_refine.specs.Below.fkv_session.Sessions.{IsOpened, Seat, SessionState}
use Rattle.law_refine.specs.Below.fkv_session.SessionRun.{SessionEvent, session_run}
use Rattle.law_refine.specs.Below.fkv_session.Versions.{IsVersion}
use Rattle.law_refine.specs.Below.fkv_session.Words.{IsCutAsleep, left_with, stored_last}
use Rattle.law_refine.proofs.Below.fkv_session.Shown.{HasCut, IsCatching, IsMarked, StepMarks, run_asleep, run_version}
use Rattle.law_refine.specs.Below.fkv_world.Opened.{HasBecome}
use Rattle.law_refine.specs.Below.fkv_world.OwnEvents.{session_events}
use Rattle.law_refine.specs.Below.fkv_world.Runs.{World, run}
use Rattle.law_refine.specs.Below.fkv_world.World.{Event, seat_at}
use Rattle.law_refine.proofs.Below.fkv_world.Shown.{session_runs}
use Rattle.law_refine.proofs.Below.law_world.OfSessions.OwnRun.{opened_so, seated}
use Rattle.law_commit.specs.Accepted.{HasRisingVersion, point, versions_accepted}
use Rattle.law_commit.specs.Cuts.{HasItsWords, ShowCuts, serial_before, word_now}
use Rattle.law_commit.specs.PhaseVersions.{HasRisingPhase, phase_version}
use Rattle.law_commit.specs.Quiet.{CutsShowPoints, LiveAreLater, OpensQuiet, SaysFirst, ShowsPoint, SleepsSince, pending_rank, rank_now}
use Rattle.law_commit.specs.Views.{IsComing, Sight, View, sight_of}
use Rattle.law_commit.specs.Floor.Stands.{PaperIsSound}
use Rattle.law_commit.proofs.Counted.{life_counted, life_point, run_moves}
use Rattle.law_commit.proofs.OfCuts.Serials.{never_falls}
use Rattle.law_commit.proofs.OfQuiet.Coming.{coming_later}
use Rattle.law_commit.proofs.OfQuiet.Wakes.{HasSlept, IsBefore, WakesSlept, run_wakes}
use Rattle.law_commit.proofs.OfCuts.Always.{run_marks}
use Rattle.law_commit.proofs.OfCuts.Left.{life_left}
use Rattle.law_commit.proofs.OfCuts.Marks.{life_marks}
use Rattle.law_commit.proofs.OfCuts.Told.{cut_mark}
use Rattle.law_commit.proofs.OfPhases.LifeStages.{first_version, life_staged, none_ahead, rising_version, version_now}
use Rattle.law_commit.proofs.OfQuiet.Owing.{IsTaken, Pending, pending_version, takes_taken}
use Rattle.law_commit.proofs.OfQuiet.Ranks.{staged_rank}
use Rattle.law_commit.proofs.OfVersions.Points.{count_low}
use Rattle.law_commit.proofs.Rising.{coming_below, version_below}
use Rattle.law_commit.proofs.Sights.{coming_seen, view_seen}

-- ---- one that has left the version
module _ (k : Seat) (words : ℕ → ℕ) (serial version : ℕ) (s : SessionState) (own_version : s.seen.version.0 ≡ version + 1) where
  abbrev SaysCut : Type 0
  SaysCut = words (session_place k.number (cut_of version)) ≡ cut_at serial version

  to_cut : (at : ℕ) → at ≡ version + 1 → HasCut k.number words (Some serial) at → SaysCut
  to_cut at is has =
      let low : at - 1 ≡ version = omega (arith, is) in
      subst (λ (n : ℕ). words (session_place k.number (cut_of n)) ≡ cut_at serial n) low has.2

  same_test : (at : ℕ) → at ≡ version + 1 → (at == s.seen.version.0) ≡ true
  same_test at is = grind (arith, nat_tests, is, own_version)

  left_cut : (c : Bool) (at : ℕ) → c ≡ true → at ≡ version + 1 → HasCut k.number words (left_with c s.serial (Some serial)) at → SaysCut
  left_cut true at same is has = to_cut at is has
  left_cut false at same is has = cc

  catch_cut : (step : Catching) → IsTaken s version step → IsCatching k.number words (Some serial) (record s { catching = record s.catching { step = step } }) → SaysCut
  catch_cut catching.Refreshes taken marks = to_cut s.seen.version.0 own_version marks.at.1.cut
  catch_cut catching.Protects taken marks = to_cut s.seen.version.0 own_version marks.at.1.cut
  catch_cut catching.StoresCut taken marks = let other = marks.at.0 in let clash : true ≡ false = sym (same_test s.catching.seen.version.0 taken) ∙ other in cc
  catch_cut catching.StoresOwing taken marks = let other = marks.at.0 in let clash : true ≡ false = sym (same_test s.catching.seen.version.0 taken) ∙ other in cc
  catch_cut catching.Ended taken marks = left_cut (s.catching.seen.version.0 == s.seen.version.0) s.catching.seen.version.0 (same_test s.catching.seen.version.0 taken) taken marks.at.cut
  catch_cut (catching.Latches index) taken marks = left_cut (s.catching.seen.version.0 == s.seen.version.0) s.catching.seen.version.0 (same_test s.catching.seen.version.0 taken) taken marks.at.cut
  catch_cut catching.Finishes taken marks = left_cut (s.catching.seen.version.0 == s.seen.version.0) s.catching.seen.version.0 (same_test s.catching.seen.version.0 taken) taken marks.at.cut

  module _ (sight : Sight) (is : (view : View) → sight.coming ≡ Some view → view.version.0 ≡ version + 1) where
    step_cut : (step : Sitting) → IsComing sight s step → StepMarks k words (Some serial) s step → SaysCut
    step_cut (CatchesUp cause) comes marks = catch_cut s.catching.step (takes_taken s version sight is s.catching.step comes) marks
    step_cut (StoresOwing index) comes marks = to_cut s.seen.version.0 own_version marks
    step_cut (Attempts has_shifted) comes marks = to_cut s.seen.version.0 own_version marks.0.cut
    step_cut (Polls index) comes marks = to_cut s.seen.version.0 own_version marks.0.cut
    step_cut (Turns its) comes marks = to_cut s.seen.version.0 own_version marks.0.cut
    step_cut (Idle its) comes marks = to_cut s.seen.version.0 own_version marks.cut
    step_cut ClearsMail comes marks = to_cut s.seen.version.0 own_version marks.cut
    step_cut StoresCut comes marks = to_cut s.seen.version.0 own_version marks.cut
    step_cut Leaves comes marks = to_cut s.seen.version.0 own_version marks.cut
    step_cut LoadsDurable comes marks = to_cut s.seen.version.0 own_version marks.cut

-- ---- one that sleeps since an earlier version
-- which of its two words is which
place_of : ℕ → Bool → ℕ
place_of n even = session_place n (if even then own.EvenCut else own.OddCut)

other_place : ℕ → Bool → ℕ
other_place n even = session_place n (if even then own.OddCut else own.EvenCut)

abbrev Either : (ℕ → ℕ) → ℕ → ℕ → ℕ → ℕ → Type 0
Either words one other x y = ((words one ≡ x) × (words other ≡ y)) ⊎ ((words one ≡ y) × (words other ≡ x))

by_parities : (words : ℕ → ℕ) (n x y : ℕ) (b c d : Bool) → d ≡ not c → words (session_place n (if c then own.EvenCut else own.OddCut)) ≡ x → words (session_place n (if d then own.EvenCut else own.OddCut)) ≡ y
    → Either words (session_place n (if b then own.EvenCut else own.OddCut)) (session_place n (if b then own.OddCut else own.EvenCut)) x y
by_parities words n x y true true false e one other = inl (one, other)
by_parities words n x y false true false e one other = inr (other, one)
by_parities words n x y true false true e one other = inr (other, one)
by_parities words n x y false false true e one other = inl (one, other)
by_parities words n x y b true true e one other = cc
by_parities words n x y b false false e one other = cc

parity : (v : ℕ) → 0 < v → ((v - 1) % 2 == 0) ≡ not (v % 2 == 0)
parity v some = tested (v % 2 == 0) ((v - 1) % 2 == 0) refl refl
  where
    tested : (c d : Bool) → (v % 2 == 0) ≡ c → ((v - 1) % 2 == 0) ≡ d → d ≡ not c
    tested true true e f = let a : v % 2 ≡ 0 = grind (arith, nat_tests, e) in let b : (v - 1) % 2 ≡ 0 = grind (arith, nat_tests, f) in absurd (omega (arith, a, b, some))
    tested true false e f = refl
    tested false true e f = refl
    tested false false e f = let a : v % 2 ≢ 0 = grind (arith, nat_tests, e) in let b : (v - 1) % 2 ≢ 0 = grind (arith, nat_tests, f) in absurd (omega (arith, a, b, some))

sleeper_shows : (words : ℕ → ℕ) (n version at before_point point serial : ℕ) → 0 < at → at ≤ version → (at < version → before_point ≡ point) → serial ≤ point → words (session_place n (cut_of at)) ≡ cut_at point at → words (session_place n (cut_of (at - 1))) ≡ cut_at serial (at - 1)
    → ShowsPoint version before_point point (words (session_place n (cut_of version))) (words (session_place n (other_cut_of version)))
sleeper_shows words n version at before_point point serial some up stays low own before = by_same (at == version) refl
  where
    by_same : (c : Bool) → (at == version) ≡ c → ShowsPoint version before_point point (words (session_place n (cut_of version))) (words (session_place n (other_cut_of version)))
    by_same true same = let e : at ≡ version = grind (arith, nat_tests, same) in SaysFirst (subst (λ (v : ℕ). words (session_place n (cut_of v)) ≡ cut_at point v) e own)
    by_same false other =
        let apart : at ≢ version = grind (arith, nat_tests, other) in
        let less : at < version = omega (arith, up, apart) in
        SleepsSince at less (stays less)
        (elim (by_parities words n (cut_at point at) (cut_at serial (at - 1)) (version % 2 == 0) (at % 2 == 0) ((at - 1) % 2 == 0) (parity at some) own before) [
          | inl its ↦ inl (record { serial = serial; low = low; own = its.0; before = its.1 })
          | inr its ↦ inr (record { serial = serial; low = low; own = its.1; before = its.0 })
        ])

asleep_marks : (k : Seat) (words : ℕ → ℕ) (serial : ℕ) (s : SessionState) (step : Sitting) → IsStepAsleep step → step ≢ CatchesUp Wakes → StepMarks k words (Some serial) s step → IsMarked k.number words (Some serial) s.seen.version.0 s.requests
asleep_marks k words serial s (Idle its) asleep other marks = marks
asleep_marks k words serial s LoadsDurable asleep other marks = marks
asleep_marks k words serial s (CatchesUp Wakes) asleep other marks = absurd (other refl)
asleep_marks k words serial s (CatchesUp Refreshes) asleep other marks = absurd asleep
asleep_marks k words serial s (CatchesUp Shifts) asleep other marks = absurd asleep
asleep_marks k words serial s step asleep other marks = absurd asleep

-- ---- one that wakes
module _ (k : Seat) (words stored : ℕ → ℕ) (same : (at : ℕ) → words (session_place k.number (cut_of at)) ≡ stored (session_place k.number (cut_of at))) (version before_point point left : ℕ) (s : SessionState) (some : 0 < s.seen.version.0) (up : s.seen.version.0 ≤ version)
    (stays : s.seen.version.0 < version → before_point ≡ point) (is_point : point ≡ s.serial) where
  abbrev Shows : Type 0
  Shows = ShowsPoint version before_point point (words (session_place k.number (cut_of version))) (words (session_place k.number (other_cut_of version)))

  wake_slept : HasSlept k stored s → Shows
  wake_slept its =
      let low = its.low in
      sleeper_shows words k.number version s.seen.version.0 before_point point its.serial some up stays (omega (arith, low, is_point)) (same s.seen.version.0 ∙ (its.own ∙ ap (λ (n : ℕ). cut_at n s.seen.version.0) (sym is_point))) (same (s.seen.version.0 - 1) ∙ its.before)

  told_first : (at : ℕ) → at ≡ version + 1 → stored (session_place k.number (cut_of (at - 1))) ≡ cut_at s.serial (at - 1) → Shows
  told_first at is told =
      let low : at - 1 ≡ version = omega (arith, is) in
      let its = subst (λ (n : ℕ). stored (session_place k.number (cut_of n)) ≡ cut_at s.serial n) low told in
      SaysFirst (same version ∙ (its ∙ ap (λ (n : ℕ). cut_at n version) (sym is_point)))

  left_first : (c : Bool) (at : ℕ) → c ≡ false → at ≡ version + 1 → HasCut k.number stored (left_with c s.serial (Some left)) at → Shows
  left_first true at other is has = cc
  left_first false at other is has = told_first at is has.2

  other_test : (at : ℕ) → at ≡ version + 1 → (at == s.seen.version.0) ≡ false
  other_test at is = grind (arith, nat_tests, is, up)

  wake_shows : (step : Catching) → IsTaken s version step → IsBefore (HasSlept k stored s) step → IsCatching k.number stored (Some left) (record s { catching = record s.catching { step = step } }) → Shows
  wake_shows catching.Refreshes taken before marks = absurd before
  wake_shows catching.Protects taken before marks = wake_slept before
  wake_shows catching.StoresCut taken before marks = wake_slept before
  wake_shows catching.StoresOwing taken before marks = told_first s.catching.seen.version.0 taken marks.at.3
  wake_shows catching.Ended taken before marks = left_first (s.catching.seen.version.0 == s.seen.version.0) s.catching.seen.version.0 (other_test s.catching.seen.version.0 taken) taken marks.at.cut
  wake_shows (catching.Latches index) taken before marks = left_first (s.catching.seen.version.0 == s.seen.version.0) s.catching.seen.version.0 (other_test s.catching.seen.version.0 taken) taken marks.at.cut
  wake_shows catching.Finishes taken before marks = left_first (s.catching.seen.version.0 == s.seen.version.0) s.catching.seen.version.0 (other_test s.catching.seen.version.0 taken) taken marks.at.cut

  waking : (sight : Sight) (is : (view : View) → sight.coming ≡ Some view → view.version.0 ≡ version + 1) (step : Sitting) → step ≡ CatchesUp Wakes → IsComing sight s step → WakesSlept k stored s step → StepMarks k stored (Some left) s step → Shows
  waking sight is (CatchesUp Wakes) at comes slept marks = wake_shows s.catching.step (takes_taken s version sight is s.catching.step comes) slept marks
  waking sight is step at comes slept marks = cc

-- what it has left a version at is no later than its serial
up_to : (low mid high : ℕ) → low ≤ mid → mid ≤ high → low ≤ high
up_to low mid high one other = omega (arith, one, other)

before_low : (k : Seat) (first : SessionState) (events : List SessionEvent) → serial_before k first events ≤ (session_run k first events).serial
unfolding serial_before session_run
before_low k first [] = omega arith
before_low k first (event ∷ before) =
    by_same ((session_run k first (event ∷ before)).seen.version.0 == (session_run k first before).seen.version.0) (before_low k first before) (never_falls k first event before (run_moves k first event before))
  where
    by_same : (c : Bool) → serial_before k first before ≤ (session_run k first before).serial → (session_run k first before).serial ≤ (session_run k first (event ∷ before)).serial
        → (if c then serial_before k first before else (session_run k first before).serial) ≤ (session_run k first (event ∷ before)).serial
    by_same true low up = up_to _ _ _ low up
    by_same false low up = up

-- ---- a moment
module _ (live : LiveAreLater) (paper_sound : PaperIsSound) (asleep_law : (opening : World) (events : List Event) (session : ℕ) (first its : SessionState) → HasBecome opening events session first its → HasItsWords opening.now → its.is_awake ≡ false → its.step ≢ CatchesUp Wakes
    → IsCutAsleep (seat_at opening.now session) its (λ place. word_now opening events place))
    (opening : World) (start : ℕ) (events : List Event) (version session : ℕ) (first : SessionState) (opens : OpensQuiet opening start) (shows : ShowCuts opening.now) (was : slice_get opening.now.sessions session ≡ Some first)
    (rank : rank_now opening events ≡ pending_rank version) where
  abbrev k : Seat
  k = seat_at opening.now session

  abbrev own_events : List SessionEvent
  own_events = session_events opening session events

  abbrev s : SessionState
  s = session_run k first own_events

  abbrev stored : ℕ → ℕ
  stored place = stored_last k first (λ at. word_at opening.now.words at) own_events place

  abbrev words : ℕ → ℕ
  words place = word_now opening events place

  became : HasBecome opening events session first s
  became = record { opened = opens.opened; was = was; is_now = session_runs opening session first events was }

  opened : IsOpened first
  opened = opened_so opening events session first s became

  pends : Pending version (phase_version (run opening events).now.words)
  pends =
      let lived = life_staged opening start events opens.guarded opens.opened opens.seen.rests in
      let its = pending_version lived.number lived.stage version lived.staged.fits (sym (staged_rank (run opening events).now lived.number lived.stage lived.staged) ∙ rank) in
      subst (λ (n : ℕ). Pending version n) (sym (version_now (run opening events).now lived.number lived.stage lived.staged)) its

  rises : HasRisingPhase opening events
  rises = (life_staged opening start events opens.guarded opens.opened opens.seen.rests).rises

  risen : HasRisingVersion k first own_events
  risen = rising_version opening start events session first s became opens.guarded opens.seen.rests

  low_version : s.seen.version.0 ≤ version + 1
  low_version =
      let below = version_below opening events session first s became (none_ahead opening.now opens.seen.rests) rises in
      let next = pends.next in
      omega (arith, below, next)

  stored_so : (at : ℕ) → words (session_place session (cut_of at)) ≡ stored (session_place session (cut_of at))
  stored_so at = life_marks opening events session first (session_place session (cut_of at)) opens.opened opens.guarded.words.enough_words was (cut_mark session at)

  abbrev left_serial : ℕ
  left_serial = serial_before k first own_events

  left_is : left_serial ≡ point opening events session (s.seen.version.0 - 1)
  left_is = life_left opening events session first s became (first_version opening session first s events became opens.seen.rests) risen

  marks : StepMarks k stored (Some left_serial) s s.step
  marks = run_marks k first (λ at. word_at opening.now.words at) own_events opened (seated opening events session first s became) (shows session first was)

  -- it has left the version
  has_left : s.seen.version.0 ≡ version + 1 → ShowsPoint version (point opening events session (version - 1)) (point opening events session version) (words (session_place session (cut_of version))) (words (session_place session (other_cut_of version)))
  has_left own_version =
      let coming : (view : View) → (sight_of opening events session).coming ≡ Some view → view.version.0 ≡ version + 1 = (λ view is.
      let between = coming_below opening events session first s view became (none_ahead opening.now opens.seen.rests) rises is in
      let same = ap (λ (v : Version). v.0) (view_seen opening events session first s became).version in
      let low = between.0 in let high = between.1 in let next = pends.next in
      omega (arith, low, high, next, same, own_version)) in
      let says = step_cut k stored left_serial version s own_version (sight_of opening events session) coming s.step (coming_seen opening events session first s became) marks in
      let low : s.seen.version.0 - 1 ≡ version = omega (arith, own_version) in
      let is : left_serial ≡ point opening events session version = left_is ∙ ap (λ (n : ℕ). point opening events session n) low in
      SaysFirst (stored_so version ∙ (says ∙ ap (λ (n : ℕ). cut_at n version) is))

  -- since an earlier one: so its point of the version before is the same
  same_before : s.seen.version.0 < version → point opening events session (version - 1) ≡ point opening events session version
  same_before less =
      let earlier : point opening events session (version - 1) ≡ s.serial = life_point opening events session first s (version - 1) became risen (omega (arith, less)) in
      let is : point opening events session version ≡ s.serial = life_point opening events session first s version became risen (omega (arith, less)) in
      earlier ∙ sym is

  -- it sleeps since this version or an earlier one
  sleeps : s.is_awake ≡ false → s.seen.version.0 ≤ version → s.step ≢ CatchesUp Wakes
      → ShowsPoint version (point opening events session (version - 1)) (point opening events session version) (words (session_place session (cut_of version))) (words (session_place session (other_cut_of version)))
  sleeps asleep up other =
      let at : ℕ = s.seen.version.0 in
      let is : point opening events session version ≡ s.serial = life_point opening events session first s version became risen up in
      let fit : IsVersion at = run_version k first own_events opened (first_version opening session first s events became opens.seen.rests) in
      let few = count_low (at - 1) (versions_accepted opening events session) in
      let counts = life_counted opening events session first s became in
      let before = left_is in
      let own_cut = asleep_law opening events session first s became opens.guarded.words.enough_words asleep other in
      let marked = asleep_marks k stored left_serial s s.step (run_asleep k first own_events opened asleep).accepts_none other marks in
      let cut = marked.cut in
      sleeper_shows words session version at (point opening events session (version - 1)) (point opening events session version) left_serial fit.0 up same_before (omega (arith, is, few, counts, before))
      (own_cut ∙ ap (λ (n : ℕ). cut_at n at) (sym is)) (stored_so (at - 1) ∙ cut.2)

  -- it wakes
  wakes_now : s.seen.version.0 ≤ version → s.step ≡ CatchesUp Wakes
      → ShowsPoint version (point opening events session (version - 1)) (point opening events session version) (words (session_place session (cut_of version))) (words (session_place session (other_cut_of version)))
  wakes_now up at =
      let is : point opening events session version ≡ s.serial = life_point opening events session first s version became risen up in
      let fit : IsVersion s.seen.version.0 = run_version k first own_events opened (first_version opening session first s events became opens.seen.rests) in
      let slept = run_wakes k first (λ place. word_at opening.now.words place) opened (seated opening events session first s became) (shows session first was) (before_low k first) own_events in
      let coming : (view : View) → (sight_of opening events session).coming ≡ Some view → view.version.0 ≡ version + 1 = (λ view comes.
      let later = coming_later paper_sound opening start events version session first s view opens became (omega (arith, rank)) comes in
      let high = (coming_below opening events session first s view became (none_ahead opening.now opens.seen.rests) rises comes).1 in
      let next = pends.next in
      omega (arith, later, high, next)) in
      waking k words stored stored_so version (point opening events session (version - 1)) (point opening events session version) left_serial s fit.0 up same_before is (sight_of opening events session) coming s.step at (coming_seen opening events session first s became) slept marks

  asleep_shows : s.is_awake ≡ false → s.seen.version.0 ≤ version → (step : Sitting) → s.step ≡ step
      → ShowsPoint version (point opening events session (version - 1)) (point opening events session version) (words (session_place session (cut_of version))) (words (session_place session (other_cut_of version)))
  asleep_shows asleep up (CatchesUp Wakes) at = wakes_now up at
  asleep_shows asleep up (CatchesUp Refreshes) at = sleeps asleep up (λ wakes. let clash : CatchesUp Refreshes ≡ CatchesUp Wakes = sym at ∙ wakes in cc)
  asleep_shows asleep up (CatchesUp Shifts) at = sleeps asleep up (λ wakes. let clash : CatchesUp Shifts ≡ CatchesUp Wakes = sym at ∙ wakes in cc)
  asleep_shows asleep up step at = sleeps asleep up (λ wakes. let clash : step ≡ CatchesUp Wakes = sym at ∙ wakes in cc)

  shows_point : ShowsPoint version (point opening events session (version - 1)) (point opening events session version) (words (session_place session (cut_of version))) (words (session_place session (other_cut_of version)))
  shows_point = by_both s.is_awake refl (nat_le s.seen.version.0 version) refl
    where
      by_both : (c : Bool) → s.is_awake ≡ c → (d : Bool) → nat_le s.seen.version.0 version ≡ d → ShowsPoint version (point opening events session (version - 1)) (point opening events session version) (words (session_place session (cut_of version))) (words (session_place session (other_cut_of version)))
      by_both c is false above = let high : version < s.seen.version.0 = grind (arith, nat_tests, above) in let low = low_version in has_left (omega (arith, high, low))
      by_both true awake true below =
          let up : s.seen.version.0 ≤ version = grind (arith, nat_tests, below) in
          let later = live opening start events version session first s opens became (omega (arith, rank)) awake in
          absurd (omega (arith, up, later))
      by_both false asleep true below = asleep_shows asleep (grind (arith, nat_tests, below)) s.step refl

pub cuts_show : LiveAreLater → PaperIsSound → ((opening : World) (events : List Event) (session : ℕ) (first its : SessionState) → HasBecome opening events session first its → HasItsWords opening.now → its.is_awake ≡ false → its.step ≢ CatchesUp Wakes
    → IsCutAsleep (seat_at opening.now session) its (λ place. word_now opening events place)) → CutsShowPoints
cuts_show live paper_sound asleep_law opening start events version session first its opens shows became rank = shows_point live paper_sound asleep_law opening start events version session first opens shows became.was rank
