-- As long as the version of the phase word never falls, that by which a session goes never falls, and is never later.
use Rattle.std.proofs.Common.{◌≡◌, ℕ, ◌≤◌, ◌∙◌, List, [], ◌∷◌, ◌++◌, arith, sym, ap, subst}
use Rattle.std.specs.Prelude.{Option, Some, slice_get}
use Rattle.fkv_words.specs.declared.phase_words.PhaseSaid.{PhaseSaid}
use Rattle.fkv_words.specs.declared.phase_words.PhaseSaid.TheVariants.{Says, Spoiled}
use Rattle.law_refine.specs.Below.fkv_session.Sessions.{SessionState, Seat, IsOpened}
use Rattle.law_refine.specs.Below.fkv_session.SessionRun.{SessionEvent, session_run}
use Rattle.law_refine.specs.Below.fkv_world.Opened.{HasBecome}
use Rattle.law_refine.specs.Below.fkv_world.OwnEvents.{session_part_of, session_events}
use Rattle.law_refine.specs.Below.fkv_world.Runs.{World, run}
use Rattle.law_refine.specs.Below.fkv_world.World.{Event, Now, seat_at}
use Rattle.law_refine.proofs.Below.law_world.OfSessions.OwnRun.{of_run, opened_so}
use Rattle.law_refine.proofs.Below.fkv_world.Shown.{same_seat, session_runs, session_runs_on}
use Rattle.law_commit.specs.Accepted.{HasRisingVersion}
use Rattle.law_commit.specs.PhaseVersions.{NoneIsAhead, HasRisingPhase, phase_version, version_said}
use Rattle.law_commit.specs.Views.{IsSeenAs, View, Sight, sight_found, sight_in, sight_of, sight_through, view_said}
use Rattle.law_commit.proofs.Measured.{ComesBetween, HasRisen, IsBelow, by_risen, higher, top_of}
use Rattle.law_commit.proofs.Telling.{TellAll, found_all}
use Rattle.law_commit.proofs.Sights.{Sees, goes_by_view, life_sees, through}

-- Each event of a session's own raises such a number, and leaves it at or below the phase word's.
module _ (measure : View → ℕ) (measure_said : PhaseSaid → ℕ)
    (fits : (words : List ℕ) (its : View) (said : PhaseSaid) → measure its ≤ measure_said said → (measure its ≤ measure (view_said words its said)) × (measure (view_said words its said) ≤ measure_said said))
    (words : List ℕ) (its : Sight) (k : Seat) (s : SessionState) (AllGo : List SessionEvent → Type 0) (none : AllGo [])
    (more : (event : SessionEvent) (before : List SessionEvent) (was after : Sight) → IsSeenAs was.view (session_run k s before).seen → IsSeenAs after.view (session_run k s (event ∷ before)).seen
    → HasRisen measure (top_of measure measure_said fits words) was after → AllGo before → AllGo (event ∷ before)) where
  pub through_each : (events : List SessionEvent) → IsBelow measure (top_of measure measure_said fits words) its → Sees its s → TellAll words k s events
      → IsBelow measure (top_of measure measure_said fits words) (sight_through words k s events its) × AllGo events
  unfolding sight_through TellAll
  through_each [] below sees tells = (below, none)
  through_each (event ∷ before) below sees tells =
      let past = through_each before below sees tells.1 in
      let was : Sight = sight_through words k s before its in
      let after : Sight = sight_through words k s (event ∷ before) its in
      let one = session_run k s before in
      let other = session_run k s (event ∷ before) in
      let risen = by_risen measure measure_said fits words was k one event past.0 tells.0 in
      (risen.below, more event before was after (goes_by_view was one one.step (through words its k s before sees)) (goes_by_view after other other.step (through words its k s (event ∷ before) sees)) risen past.1)

-- the version of a view
abbrev pub of_version : View → ℕ
of_version its = its.version.0

said_between : (words : List ℕ) (its : View) (said : PhaseSaid) → of_version its ≤ version_said said → (of_version its ≤ of_version (view_said words its said)) × (of_version (view_said words its said) ≤ version_said said)
said_between words its Spoiled below = (omega arith, below)
said_between words its (Says phase version) below = (below, omega arith)

-- over such events
pub record Rise (top : ℕ) (k : Seat) (s : SessionState) (events : List SessionEvent) (after : Sight) : Type 0 where
  pub below : IsBelow of_version top after
  pub rises : HasRisingVersion k s events

through_rise : (words : List ℕ) (its : Sight) (k : Seat) (s : SessionState) (events : List SessionEvent) → IsBelow of_version (phase_version words) its → Sees its s → TellAll words k s events
    → Rise (phase_version words) k s events (sight_through words k s events its)
unfolding HasRisingVersion
through_rise words its k s events below sees tells =
    let both = through_each of_version version_said said_between words its k s (λ events. HasRisingVersion k s events) tt
    (λ event before was after goes_by goes_after risen past. (rw (goes_by.version, goes_after.version) risen.rises, past)) events below sees tells in
    record { below = both.0; rises = both.1 }

-- one list of events behind another
joined : (k : Seat) (first : SessionState) (later before : List SessionEvent) → HasRisingVersion k (session_run k first before) later → HasRisingVersion k first before → HasRisingVersion k first (later ++ before)
unfolding HasRisingVersion
joined k first [] before rises past = past
joined k first (event ∷ later) before rises past =
    (rw (session_runs_on k first later before, session_runs_on k first (event ∷ later) before) rises.0, joined k first later before rises.1 past)

-- over a life
pub life_rise : (opening : World) (session : ℕ) (first : SessionState) (events : List Event) → slice_get opening.now.sessions session ≡ Some first → IsOpened first → first.seen.version.0 ≤ phase_version opening.now.words
    → HasRisingPhase opening events → Rise (phase_version (run opening events).now.words) (seat_at opening.now session) first (session_events opening session events) (sight_in opening session first events)
unfolding sight_in session_events HasRisingPhase run HasRisingVersion
life_rise opening session first [] found opened below rises = record { below = record { view = below; coming = tt }; rises = tt }
life_rise opening session first (event ∷ before) found opened below rises =
    let k : Seat = seat_at opening.now session in
    let now : Now = (run opening before).now in
    let s : SessionState = session_run k first (session_events opening session before) in
    let past = life_rise opening session first before found opened below rises.1 in
    let tell = found_all now k s session event (slice_get now.sessions session) (session_runs opening session first before found) (same_seat opening before session) in
    let risen = through_rise now.words (sight_in opening session first before) k s (session_part_of now session event) past.below (life_sees opening session first before opened) tell in
    record { below = higher of_version (phase_version now.words) _ _ rises.0 risen.below; rises = joined k first (session_part_of now session event) (session_events opening session before) risen.rises past.rises }

pub version_rises : (opening : World) (events : List Event) (session : ℕ) (first its : SessionState) → HasBecome opening events session first its → NoneIsAhead opening.now → HasRisingPhase opening events
    → HasRisingVersion (seat_at opening.now session) first (session_events opening session events)
unfolding NoneIsAhead
version_rises opening events session first its became none rises =
    (life_rise opening session first events became.was (opened_so opening events session first its became) (none session first became.was) rises).rises

-- and it is never later than the phase word's
pub version_below : (opening : World) (events : List Event) (session : ℕ) (first its : SessionState) → HasBecome opening events session first its → NoneIsAhead opening.now → HasRisingPhase opening events
    → its.seen.version.0 ≤ phase_version (run opening events).now.words
unfolding NoneIsAhead
version_below opening events session first its became none rises =
    let opened = opened_so opening events session first its became in
    let s : SessionState = session_run (seat_at opening.now session) first (session_events opening session events) in
    let goes_by = goes_by_view (sight_in opening session first events) s s.step (life_sees opening session first events opened) in
    of_run (λ (x : SessionState). x.seen.version.0 ≤ phase_version (run opening events).now.words) opening events session first its became
    (rw goes_by.version (life_rise opening session first events became.was opened (none session first became.was) rises).below.view)

-- nor is what is coming, which is no earlier than what it goes by
coming_of : (low top : ℕ) (found : Option View) (view : View) → found ≡ Some view → ComesBetween of_version low top found → (low ≤ view.version.0) × (view.version.0 ≤ top)
coming_of low top found view is between = subst (λ (c : Option View). ComesBetween of_version low top c) is between

pub coming_below : (opening : World) (events : List Event) (session : ℕ) (first its : SessionState) (view : View) → HasBecome opening events session first its → NoneIsAhead opening.now → HasRisingPhase opening events
    → (sight_of opening events session).coming ≡ Some view → ((sight_of opening events session).view.version.0 ≤ view.version.0) × (view.version.0 ≤ phase_version (run opening events).now.words)
unfolding NoneIsAhead
coming_below opening events session first its view became none rises is =
    let opened = opened_so opening events session first its became in
    let below = (life_rise opening session first events became.was opened (none session first became.was) rises).below in
    let same = sym (ap (sight_found opening events session) became.was) in
    let found = ap (λ (x : Sight). x.coming) same in
    let view_same = ap (λ (x : Sight). x.view.version.0) same in
    let between = coming_of (sight_in opening session first events).view.version.0 (phase_version (run opening events).now.words) (sight_in opening session first events).coming view (found ∙ is) below.coming in
    let low = between.0 in
    (omega (arith, low, view_same), between.1)
