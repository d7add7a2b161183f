-- At each moment of a life of a store that opens at rest it is at a stage of the commit that is next.
use Rattle.std.proofs.Common.{◌≡◌, inl, inr, ℕ, zero, suc, ◌+◌, ◌*◌, ◌<◌, ◌≤◌, ◌∙◌, List, [], ◌∷◌, length, refl, arith, sym, ap, subst, Bool, true, false}
use Rattle.std.specs.Prelude.{if◌then◌else◌, replicate, Option, Some, None, slice_get}
use Rattle.fkv_base.specs.Limits.{drain_slots}
use Rattle.fkv_base.specs.declared.numbers.Version.{Version}
use Rattle.fkv_base.specs.declared.phases.Phase.TheVariants.{Rest}
use Rattle.fkv_map.specs.declared.operations.Call.{Call}
use Rattle.fkv_words.specs.declared.phase_words.PhaseSaid.{PhaseSaid}
use Rattle.fkv_words.specs.declared.phase_words.PhaseSaid.TheVariants.{Says}
use Rattle.fkv_words.specs.PhaseWords.{phase_said}
use Rattle.fkv_plane.specs.declared.actions.Action.{Action}
use Rattle.fkv_plane.specs.declared.places.Places.{Places}
use Rattle.fkv_plane.specs.declared.places.SharedWord.TheVariants as one
use Rattle.fkv_plane.specs.Asked.{word_at}
use Rattle.fkv_plane.specs.Places.{shared_place}
use Rattle.fkv_plane.specs.Plane.{action_at}
use Rattle.law_refine.specs.Below.fkv_flush.GuardWorld.{GuardWorld}
use Rattle.law_refine.specs.Below.fkv_keeper.TheKeeping.{Keeping}
use Rattle.law_refine.specs.Below.fkv_keeper.TheKeeping.TheVariants.{Ended}
use Rattle.law_refine.specs.Below.fkv_keeper.Keeping.{KeeperState, commit_asked, keeper_ask, turn_asked}
use Rattle.law_refine.specs.Below.fkv_keeper.KeeperRun.{is_in_hand}
use Rattle.law_refine.specs.Below.fkv_session.Sitting.{Sitting}
use Rattle.law_refine.specs.Below.fkv_session.Sitting.TheVariants.{Idle}
use Rattle.law_refine.specs.Below.fkv_session.Sessions.{Seat, SessionState, is_busy, session_ask, session_begun}
use Rattle.law_refine.specs.Below.fkv_session.Versions.{IsVersion}
use Rattle.law_refine.specs.Below.fkv_world.OwnEvents.{session_events}
use Rattle.law_refine.specs.Below.fkv_world.Opened.{HasBecome, IsOpenedWorld}
use Rattle.law_refine.specs.Below.fkv_world.Runs.{World, read_by_keeper, run}
use Rattle.law_refine.specs.Below.fkv_world.World.{Calls, Commits, Crashes, Event, KeeperMoves, Moves, Now, Turns, keeper_asked, life_goes, near, seat_at, session_calls, session_moves, with_keeper, with_session}
use Rattle.law_refine.specs.Below.law_world.Guarded.Shows as guard
use Rattle.law_refine.specs.Below.law_world.Guarded.Shows.{seen_by_guard}
use Rattle.law_refine.proofs.Below.law_world.OfGuarded.Slots.{life_keeper_rests, life_session_rests}
use Rattle.law_refine.proofs.Below.law_world.OfGuarded.Worlds.{life_shows}
use Rattle.law_refine.specs.Footprint.{Spares, ThePhase}
use Rattle.law_refine.proofs.Footprint.Keepers.{keeper_stores}
use Rattle.law_refine.proofs.Footprint.Lives.{keeper_spares}
use Rattle.law_refine.proofs.Footprint.Sessions.{SessionRests, session_asks_spares, sitting_stores}
use Rattle.law_commit.specs.Accepted.{HasRisingVersion}
use Rattle.law_commit.specs.PhaseVersions.{HasRisingPhase, NoneIsAhead, RestIsNext, RestsAreNext, phase_version, version_said}
use Rattle.law_commit.specs.Phases.Staged.{DefersPending, DefersProgress, EarlyAt, FitsVersion, Flushes, Holder, InSlot, IsStaged, KeeperAt, OnlyOut, OpensAtRest, Pends, Prepares, Progresses, Rests, Stage, StepAt, WithKeeper, WithSession, hand_found, held, keeper_hand, keeping_hand, phase_in, sitting_hand, stage_out, stage_phase, stage_version}
use Rattle.law_commit.specs.PhaseStores.{phase_at}
use Rattle.law_commit.proofs.Rising.{version_rises}
use Rattle.law_commit.proofs.OfCuts.Marks.{sparing_now}
use Rattle.law_commit.proofs.OfPhases.KeeperHands.{commit_asked_none, turn_asked_none}
use Rattle.law_commit.proofs.OfPhases.KeeperStages.{commit_asked_at, turn_asked_at}
use Rattle.law_commit.proofs.OfPhases.KeeperStep.{keeper_on}
use Rattle.law_commit.proofs.OfPhases.OneOut.{fewer, keeper_empties, session_empties, session_same}
use Rattle.law_commit.proofs.OfPhases.SessionHands.{begun_none}
use Rattle.law_commit.proofs.OfPhases.SessionStages.{session_on}
use Rattle.law_commit.proofs.OfPhases.StageMoves.{EventOn, QuietKeeper}
use Rattle.law_commit.proofs.OfPhases.StageWords.{said_low}

-- ---- a call that begins
stays : (n : Now) (number : Version) (stage : Stage) → IsStaged n number stage → EventOn n number stage n
stays n number stage its = record { on = record { its_number = number; its_stage = stage; staged = its; rises = omega arith }; how = inl (record { same = record { version = refl; same = refl }; keeper = inl refl }) }

-- the keeper's part stays
calm : (n after : Now) (number : Version) (stage : Stage) → FitsVersion number stage → phase_said (phase_at after) ≡ Says (stage_phase stage) (stage_version number stage) → OnlyOut (held after) (stage_out number stage) → KeeperAt number stage after.keeper → QuietKeeper n after.keeper
    → EventOn n number stage after
calm n after number stage fits word out keeper quiet = record {
  on = record { its_number = number; its_stage = stage; staged = record { fits = fits; word = word; out = out; keeper = keeper }; rises = omega arith };
  how = inl (record { same = record { version = refl; same = refl }; keeper = quiet });
}

call_on : (n : Now) (number : Version) (stage : Stage) (i : ℕ) (call : Call) (found : Option SessionState) → slice_get n.sessions i ≡ found → IsStaged n number stage → EventOn n number stage (session_calls n i call found)
call_on n number stage i call None got its = stays n number stage its
call_on n number stage i call (Some s) got its = by_busy (is_busy s.step)
  where
    by_busy : (b : Bool) → EventOn n number stage (with_session n i (near n (if b then s else session_begun (seat_at n i) s call)))
    by_busy true = calm n (with_session n i (near n s)) number stage its.fits its.word (fewer its.out (session_same n.actions n.sessions n.keeper i s got)) its.keeper (inl refl)
    by_busy false =
        calm n (with_session n i (near n (session_begun (seat_at n i) s call))) number stage its.fits its.word
        (fewer its.out (λ holder a is. (session_empties n.actions n.sessions n.keeper i (session_begun (seat_at n i) s call) (begun_none (seat_at n i) s call) holder a is).0)) its.keeper (inl refl)

asked_on : (n : Now) (number : Version) (stage : Stage) (begun : KeeperState) → IsStaged n number stage → keeper_hand begun ≡ None → (is_in_hand n.keeper.step ≡ false → KeeperAt number stage begun) → QuietKeeper n (keeper_asked n.keeper begun)
    → EventOn n number stage (with_keeper n (near n (keeper_asked n.keeper begun)))
asked_on n number stage begun its none at quiet = by_hand (is_in_hand n.keeper.step) refl
  where
    by_hand : (b : Bool) → is_in_hand n.keeper.step ≡ b → EventOn n number stage (with_keeper n (near n (if b then n.keeper else begun)))
    by_hand true e = stays n number stage its
    by_hand false e =
        calm n (with_keeper n (near n begun)) number stage its.fits its.word (fewer its.out (λ holder a is. (keeper_empties n.actions n.sessions n.keeper begun none holder a is).0)) (at e)
        (subst (λ (b : Bool). QuietKeeper n (if b then n.keeper else begun)) e quiet)

-- ---- an event
module _ (opening : World) (start : ℕ) (guarded : guard.IsOpened opening.now start) (opened : IsOpenedWorld opening) where
  pub low_now : (events : List Event) → 2 < length (run opening events).now.words
  low_now events =
      let w : GuardWorld = seen_by_guard opening start events in
      let shows = life_shows opening start events guarded in
      let enough = shows.sound.epochs.enough_words in
      subst (λ (words : List ℕ). 2 < length words) shows.words (above w.now.places.sessions (length w.now.words) enough)
    where
      above : (sessions count : ℕ) → 24 + 16 * sessions ≤ count → 2 < count
      above sessions count enough = omega (arith, enough)

  seat_now : (events : List Event) (i : ℕ) (s : SessionState) → slice_get (run opening events).now.sessions i ≡ Some s → i < (run opening events).now.places.sessions
  seat_now events i s got =
      let shows = life_shows opening start events guarded in
      subst (λ (p : Places). i < p.sessions) shows.places (shows.sessions i s got).sits.below

  session_spared : (events : List Event) (i : ℕ) (s : SessionState) → slice_get (run opening events).now.sessions i ≡ Some s → sitting_stores s s.step ≡ false
      → Spares ThePhase (run opening events).now.places (session_ask (seat_at (run opening events).now i) s)
  session_spared events i s got stores =
      let k : Seat = seat_at (run opening events).now i in
      let rests : SessionRests ThePhase k s = record { knows = λ e. cc; search = λ e. cc; entry = λ e. cc; latch = λ e. cc; mail = λ e. cc; marks = λ e. cc; phase = λ e. stores } in
      session_asks_spares ThePhase k s (seat_now events i s got) (sparing_now opening events i s opened got) rests

  keeper_spared : (events : List Event) → keeper_stores (run opening events).now.keeper (run opening events).now.keeper.step ≡ false
      → Spares ThePhase (run opening events).now.places (keeper_ask (run opening events).now.shape (run opening events).now.places (run opening events).now.keeper)
  keeper_spared events stores =
      let sessions = guarded.words.fits.sessions in
      let finishes = guarded.finishes in
      keeper_spares ThePhase opening events (λ e. stores) opened.keeper (omega (arith, sessions)) (omega (arith, finishes)) (λ session e. cc) (λ is session e. cc)

  goes_on : (events : List Event) (event : Event) (number : Version) (stage : Stage) → IsStaged (run opening events).now number stage → EventOn (run opening events).now number stage (life_goes (run opening events).now (read_by_keeper (run opening events)) event)
  unfolding life_goes
  goes_on events (Calls i call) number stage its = call_on (run opening events).now number stage i call (slice_get (run opening events).now.sessions i) refl its
  goes_on events (Moves i) number stage its = by_found (slice_get (run opening events).now.sessions i) refl
    where
      by_found : (found : Option SessionState) → slice_get (run opening events).now.sessions i ≡ found → EventOn (run opening events).now number stage (session_moves (run opening events).now i found)
      by_found None got = stays (run opening events).now number stage its
      by_found (Some s) got =
          let there = session_on (run opening events).now number stage i s its got (low_now events) (session_spared events i s got) (life_session_rests opening start events i s guarded got) in
          record { on = there.on; how = elim there.how [ inl same ↦ inl (record { same = same; keeper = inl there.keeper }) | inr ran ↦ inr (inl (record { session = i; s = s; got = got; ran = ran; keeper = there.keeper })) ] }
  goes_on events (Commits kind) number stage its =
      let n : Now = (run opening events).now in
      asked_on n number stage (commit_asked n.keeper kind) its (commit_asked_none n.keeper kind) (λ idle. commit_asked_at number stage n.keeper kind its.keeper idle) (inr (inr (inl (kind, refl))))
  goes_on events Turns number stage its =
      let n : Now = (run opening events).now in
      asked_on n number stage (turn_asked n.keeper) its (turn_asked_none n.keeper) (λ idle. turn_asked_at number stage n.keeper its.keeper idle) (inr (inr (inr refl)))
  goes_on events (KeeperMoves granted done) number stage its =
      let there = keeper_on (run opening events).now number stage granted done (read_by_keeper (run opening events)) its (low_now events) (keeper_spared events) (life_keeper_rests opening start events guarded) in
      record {
        on = there.on;
        how = elim there.how [
          | inl aside ↦ inl (record { same = record { version = aside.version; same = aside.same }; keeper = elim aside.keeper [ inl same ↦ inl same | inr called ↦ inr (inl (done, read_by_keeper (run opening events), called)) ] })
          | inr onto ↦ inr (inr (record { granted = granted; onto = onto }))
        ];
      }
  goes_on events Crashes number stage its = calm (run opening events).now (record (run opening events).now { crashed = true }) number stage its.fits its.word its.out its.keeper (inl refl)

  pub event_on : (events : List Event) (event : Event) (number : Version) (stage : Stage) → IsStaged (run opening events).now number stage → EventOn (run opening events).now number stage (run opening (event ∷ events)).now
  unfolding run
  event_on events event number stage its = by_crash (run opening events).now.crashed
    where
      by_crash : (b : Bool) → EventOn (run opening events).now number stage (if b then (run opening events).now else life_goes (run opening events).now (read_by_keeper (run opening events)) event)
      by_crash true = stays (run opening events).now number stage its
      by_crash false = goes_on events event number stage its

-- ---- as a life begins
none_in_slots : (count slot : ℕ) → action_at (replicate count None) slot ≡ None
none_in_slots zero slot = refl
none_in_slots (suc count) zero = refl
none_in_slots (suc count) (suc slot) = none_in_slots count slot

idle_session : (s : SessionState) (step : Sitting) → is_busy step ≡ false → sitting_hand s step ≡ None
idle_session s (Idle told) idle = refl
idle_session s step idle = cc

idle_keeper : (s : KeeperState) (step : Keeping) → is_in_hand step ≡ false → keeping_hand s step ≡ None
idle_keeper s (Ended told) idle = refl
idle_keeper s step idle = cc

rest_at : (number : Version) (s : KeeperState) (step : Keeping) → s.step ≡ step → is_in_hand step ≡ false → s.commit ≡ None → s.rests ≡ false → number.0 ≡ s.last.number.0 + 1 → KeeperAt number Rests s
rest_at number s (Ended told) at idle none awake next = record {
  has = record { next = next; hand = λ c in_hand. let clash : None ≡ Some c = sym none ∙ in_hand in cc; rests = λ rests. let clash : false ≡ true = sym awake ∙ rests in cc };
  early = subst (λ x. EarlyAt Rests s x) (sym at) (λ e. refl);
  step = subst (λ x. StepAt number Rests s x) (sym at) tt;
}
rest_at number s step at idle none awake next = cc

pub opens_staged : (n : Now) (start : ℕ) → guard.IsOpened n start → OpensAtRest n → IsStaged n (record { 0 = n.keeper.last.number.0 + 1 }) Rests
opens_staged n start guarded rests = record {
  fits = record { some = omega arith; low = said_low (word_at n.words 2) Rest (record { 0 = n.keeper.last.number.0 + 1 }) rests.says; lower = λ e. cc };
  word = rests.says;
  out = record { its_own = λ holder a is. none_out holder a is; once = λ one other a b is and. none_out one a is };
  keeper = rest_at (record { 0 = n.keeper.last.number.0 + 1 }) n.keeper n.keeper.step refl guarded.keeper.none_in_hand guarded.keeper.no_commit guarded.keeper.none_rest refl;
}
  where
    by_session : (found : Option SessionState) (i : ℕ) → slice_get n.sessions i ≡ found → phase_in (hand_found found) ≡ None
    by_session None i got = refl
    by_session (Some s) i got = ap phase_in (idle_session s s.step (guarded.sessions i s got).none_in_hand)

    held_none : (holder : Holder) → held n holder ≡ None
    held_none (InSlot slot) = ap phase_in (ap (λ (actions : List (Option Action)). action_at actions slot) guarded.slots ∙ none_in_slots drain_slots slot)
    held_none (WithSession i) = by_session (slice_get n.sessions i) i refl
    held_none WithKeeper = ap phase_in (idle_keeper n.keeper n.keeper.step guarded.keeper.none_in_hand)

    none_out : {X : Type 0} (holder : Holder) (a : Action) → held n holder ≡ Some a → X
    none_out holder a is = let clash : None ≡ Some a = sym (held_none holder) ∙ is in cc

-- ---- a life
rest_next : (number : Version) (stage : Stage) (last : ℕ) → number.0 ≡ last + 1 → RestIsNext last (Says (stage_phase stage) (stage_version number stage))
rest_next number Rests last next = next
rest_next number Prepares last next = tt
rest_next number DefersProgress last next = tt
rest_next number Progresses last next = tt
rest_next number DefersPending last next = tt
rest_next number Pends last next = tt
rest_next number Flushes last next = tt

pub version_now : (n : Now) (number : Version) (stage : Stage) → IsStaged n number stage → phase_version n.words ≡ (stage_version number stage).0
version_now n number stage its = ap version_said its.word

pub record Lived (opening : World) (events : List Event) : Type 0 where
  pub number : Version
  pub stage : Stage
  pub staged : IsStaged (run opening events).now number stage
  pub rises : HasRisingPhase opening events
  pub rests : RestsAreNext opening events

pub life_staged : (opening : World) (start : ℕ) (events : List Event) → guard.IsOpened opening.now start → IsOpenedWorld opening → OpensAtRest opening.now → Lived opening events
unfolding run HasRisingPhase RestsAreNext
life_staged opening start [] guarded opened rests = record { number = record { 0 = opening.now.keeper.last.number.0 + 1 }; stage = Rests; staged = opens_staged opening.now start guarded rests; rises = tt; rests = tt }
life_staged opening start (event ∷ before) guarded opened rests =
    let past = life_staged opening start before guarded opened rests in
    let n : Now = (run opening before).now in
    let on = (event_on opening start guarded opened before event past.number past.stage past.staged).on in
    let was = version_now n past.number past.stage past.staged in
    let is = version_now (run opening (event ∷ before)).now on.its_number on.its_stage on.staged in
    let up = on.rises in
    let said : RestIsNext n.keeper.last.number.0 (phase_said (word_at n.words (shared_place one.Phase))) =
    subst (λ (x : PhaseSaid). RestIsNext n.keeper.last.number.0 x) (sym past.staged.word) (rest_next past.number past.stage n.keeper.last.number.0 past.staged.keeper.has.next) in
    record { number = on.its_number; stage = on.its_stage; staged = on.staged; rises = (omega (arith, was, is, up), past.rises); rests = (said, past.rests) }

-- no session is ahead as a life begins
pub none_ahead : (n : Now) → OpensAtRest n → NoneIsAhead n
unfolding NoneIsAhead
none_ahead n rests session its found =
    let saw = rests.seen session its found in
    let said : phase_version n.words ≡ n.keeper.last.number.0 + 1 = ap version_said rests.says in
    omega (arith, saw, said)

-- so the version that a session goes by never falls
pub rising_phase : (opening : World) (start : ℕ) (events : List Event) (session : ℕ) (first its : SessionState) → HasBecome opening events session first its → guard.IsOpened opening.now start → OpensAtRest opening.now → HasRisingPhase opening events
rising_phase opening start events session first its became guarded rests = (life_staged opening start events guarded became.opened rests).rises

pub rising_version : (opening : World) (start : ℕ) (events : List Event) (session : ℕ) (first its : SessionState) → HasBecome opening events session first its → guard.IsOpened opening.now start → OpensAtRest opening.now
    → HasRisingVersion (seat_at opening.now session) first (session_events opening session events)
rising_version opening start events session first its became guarded rests =
    version_rises opening events session first its became (none_ahead opening.now rests) (rising_phase opening start events session first its became guarded rests)

-- and it begins with a version that there is
pub first_version : (opening : World) (session : ℕ) (first its : SessionState) (events : List Event) → HasBecome opening events session first its → OpensAtRest opening.now → IsVersion first.seen.version.0
first_version opening session first its events became rests =
    let saw = rests.seen session first became.was in
    let low = said_low (word_at opening.now.words 2) Rest (record { 0 = opening.now.keeper.last.number.0 + 1 }) rests.says in
    (omega (arith, saw), omega (arith, saw, low))
