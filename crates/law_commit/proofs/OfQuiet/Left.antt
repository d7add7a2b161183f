-- From wait-flush of a commit on no session has an update up to its number.
use Rattle.std.proofs.Common.{◌≡◌, ◌⊎◌, inl, inr, ℕ, ◌+◌, ◌*◌, ◌-◌, ◌<◌, ◌≤◌, ◌∙◌, List, [], ◌∷◌, refl, arith, ap, sym, subst, false}
use Rattle.std.specs.Prelude.{Option, Some, None}
use Rattle.fkv_base.specs.declared.numbers.Version.{Version}
use Rattle.fkv_plane.specs.declared.actions.Action.{Action}
use Rattle.fkv_plane.specs.declared.asks.Ask.{Ask}
use Rattle.fkv_plane.specs.declared.asks.Ask.TheVariants.{Load, Put}
use Rattle.fkv_plane.specs.declared.places.Places.{Places}
use Rattle.fkv_plane.specs.declared.places.SessionWord.TheVariants as own
use Rattle.fkv_plane.specs.Asked.{reply_to}
use Rattle.fkv_plane.specs.Passing.{passed}
use Rattle.fkv_plane.specs.Places.{session_place}
use Rattle.fkv_base.specs.declared.shapes.Shape.{Shape}
use Rattle.law_refine.specs.Below.fkv_commit.TheFinishing.{Finishing}
use Rattle.law_refine.specs.Below.fkv_commit.TheFinishing.TheVariants as finish
use Rattle.law_refine.specs.Below.fkv_commit.TheSeeking.{Seeking}
use Rattle.law_refine.specs.Below.fkv_commit.TheSeeking.TheVariants as seek
use Rattle.law_refine.specs.Below.fkv_commit.TheStarting.{Starting}
use Rattle.law_refine.specs.Below.fkv_commit.TheStarting.TheVariants as start
use Rattle.law_refine.specs.Below.fkv_commit.TheEntering.{Entering}
use Rattle.law_refine.specs.Below.fkv_commit.TheEntering.TheVariants as enter
use Rattle.law_refine.specs.Below.fkv_commit.Deferred.{Deferred}
use Rattle.law_refine.specs.Below.fkv_commit.Deferred.TheVariants.{EntersPhase}
use Rattle.law_refine.specs.Below.fkv_commit.TheDeferring.{Deferring}
use Rattle.law_refine.specs.Below.fkv_commit.TheDeferring.TheVariants as defer
use Rattle.fkv_base.specs.declared.phases.Phase.TheVariants as phases
use Rattle.law_refine.specs.Below.fkv_commit.Commits.{version_after}
use Rattle.law_refine.specs.Below.fkv_commit.Entering.{EnterState}
use Rattle.law_refine.specs.Below.fkv_commit.Seeking.{SeekState, seeking_ask}
use Rattle.law_refine.specs.Below.fkv_commit.Starting.{StartState}
use Rattle.law_refine.specs.Below.fkv_keeper.KeeperTold.{KeeperTold}
use Rattle.law_refine.specs.Below.fkv_keeper.TheKeeping.{Keeping}
use Rattle.law_refine.specs.Below.fkv_keeper.TheKeeping.TheVariants.{Ended, Starts, Maintains, LoadsPhase, Enters, Copies, Seeks, Waits, Writes, Finishes, Sweeps}
use Rattle.law_refine.specs.Below.fkv_keeper.Keeping.{KeeperState, commit_asked, keeper_ask, keeping_ask, turn_asked}
use Rattle.law_refine.specs.Below.fkv_pending.PendingRequest.{PendingRequest}
use Rattle.law_refine.specs.Below.fkv_session.Sitting.{Sitting}
use Rattle.law_refine.specs.Below.fkv_session.Sitting.TheVariants.{Attempts, Idle, Polls}
use Rattle.law_refine.specs.Below.fkv_session.Sessions.{SessionState, is_busy}
use Rattle.law_refine.specs.Below.fkv_session.SessionRun.{session_run}
use Rattle.law_refine.specs.Below.fkv_world.Moves.{keeper_gets}
use Rattle.law_refine.specs.Below.fkv_world.Opened.{HasBecome}
use Rattle.law_refine.specs.Below.fkv_world.OwnEvents.{session_events}
use Rattle.law_refine.specs.Below.fkv_world.Runs.{World, run}
use Rattle.law_refine.specs.Below.fkv_world.World.{Event, Now, seat_at}
use Rattle.law_refine.proofs.Below.fkv_world.Shown.{session_runs}
use Rattle.law_refine.proofs.Below.law_world.OfSessions.OwnRun.{of_run, opened_so, seated}
use Rattle.law_refine.proofs.OfRecords.Puts.{is_put}
use Rattle.law_commit.specs.Cuts.{word_now}
use Rattle.law_commit.specs.Floor.Stands.{stage_number}
use Rattle.law_commit.specs.Phases.Staged.{DefersAt, DefersPending, DefersProgress, EnterAt, FinishAt, FitsVersion, Flushes, IsStaged, Pends, Prepares, Progresses, Rests, SeekAt, Stage, StartAt, StepAt, defer_moves, enter_moves, finish_moves, finish_number, is_resting, keeping_moves, keeping_number, seek_moves, stage_run, start_moves}
use Rattle.law_commit.specs.Quiet.{HasNoneUpto, IsLater, LiveAreLater, NoneIsLeft, OpensQuiet, OwesNone, flush_rank, pending_rank, rank_now}
use Rattle.law_commit.specs.Versions.Requests.{AreUpdatesSo, AttemptsSo}
use Rattle.law_commit.proofs.OfFloor.KeeperPuts.{KeeperPuts, keeper_puts}
use Rattle.law_commit.proofs.OfPhases.LifeStages.{event_on, life_staged}
use Rattle.law_commit.proofs.OfPhases.StageMoves.{LedOn, QuietKeeper, Quietly, Replied, RunBySession, Stored}
use Rattle.law_commit.proofs.OfQuiet.Keeper.{AllLeave, KeeperKnows, KeepingLeaves, SeekLeaves, asked_knows, called_knows, commit_knows, given_knows, opened_knows, replied_knows, turn_knows}
use Rattle.law_commit.proofs.OfQuiet.Life.{none_comes_back}
use Rattle.law_commit.proofs.OfQuiet.Owing.{none_owed}
use Rattle.law_commit.proofs.OfQuiet.Ranks.{staged_rank}

-- ---- which step brings wait-flush
-- a version that has flushed there had flushed here
abbrev NoneFlushes : Version → Stage → Version → Stage → Type 0
NoneFlushes number stage next after = (version : ℕ) → flush_rank version ≤ 5 * next.0 + stage_number after → flush_rank version ≤ 5 * number.0 + stage_number stage

same_flush : (number next : Version) (stage after : Stage) → next ≡ number → after ≡ stage → NoneFlushes number stage next after
same_flush number next stage after version same its high = let a = ap (λ (v : Version). v.0) version in let b = ap stage_number same in omega (arith, a, b, high)

run_flush : (number : Version) (stage : Stage) → NoneFlushes number stage number (stage_run stage)
run_flush number Rests version high = high
run_flush number Prepares version high = high
run_flush number DefersProgress version high = omega (arith, high)
run_flush number Progresses version high = high
run_flush number DefersPending version high = omega (arith, high)
run_flush number Pends version high = high
run_flush number Flushes version high = high

ran_flush : (number next : Version) (stage after : Stage) → next ≡ number → after ≡ stage_run stage → NoneFlushes number stage next after
ran_flush number next stage after version runs its high = run_flush number stage its (let a = ap (λ (v : Version). v.0) version in let b = ap stage_number runs in omega (arith, a, b, high))

defer_flush : (number : Version) (its : Deferred) (from out after stage : Stage) (step : Deferring) → stage_number out ≡ stage_number from → DefersAt its from out after stage step → NoneFlushes number stage number (defer_moves stage out step)
defer_flush number its from out after stage (defer.Puts other slot epoch) same at version high = let b = ap stage_number at.1 in omega (arith, b, same, high)
defer_flush number its from out after stage step same at version high = high

start_flush : (number : Version) (stage : Stage) (s : StartState) (step : Starting) → StartAt number stage s step → NoneFlushes number stage number (start_moves stage s step)
start_flush number stage s (start.StoresPrepare its) at version high = let b = ap stage_number at.1 in omega (arith, b, high)
start_flush number stage s (start.Defers its first) at version high = defer_flush number (EntersPhase phases.InProgress (version_after number)) Prepares DefersProgress Progresses stage s.defer.step refl at.1 version high
start_flush number stage s step at version high = high

enter_flush : (number : Version) (stage : Stage) (s : EnterState) (step : Entering) → EnterAt number stage s step → NoneFlushes number stage number (enter_moves stage s step)
enter_flush number stage s enter.Defers at version high = defer_flush number (EntersPhase phases.WaitPending (version_after number)) Progresses DefersPending Pends stage s.defer.step refl at.0 version high
enter_flush number stage s step at version high = high

finish_flush : (number : Version) (stage : Stage) (step : Finishing) → FitsVersion number stage → FinishAt stage step → NoneFlushes number stage (finish_number number step) (finish_moves stage step)
finish_flush number stage finish.StoresRest fits at version high = let b = ap stage_number at in let low = fits.lower (ap is_resting at) in omega (arith, b, low, high)
finish_flush number stage step fits at version high = high

-- as an action is put it doesn't
putting_flush : (number : Version) (stage : Stage) (s : KeeperState) (step : Keeping) → KeeperPuts s step → StepAt number stage s step → NoneFlushes number stage number (keeping_moves stage s step)
putting_flush number stage s Starts puts at version high = start_flush number stage s.start s.start.step at version high
putting_flush number stage s Enters puts at version high = enter_flush number stage s.enter s.enter.step at.1 version high
putting_flush number stage s Seeks puts at version high = let b = ap (λ (x : Seeking). stage_number (seek_moves stage x)) puts.is in omega (arith, b, high)
putting_flush number stage s Maintains puts at version high = high
putting_flush number stage s step puts at version high = absurd puts

-- the keeper stores wait-flush
record StoresFlush (s : KeeperState) : Type 0 where
  seeks : s.step ≡ Seeks
  stores : s.seek.step ≡ seek.StoresWaitFlush

-- and no version has flushed there that is above this one
abbrev FlushesUpto : Version → Version → Stage → Type 0
FlushesUpto number next after = (version : ℕ) → flush_rank version ≤ 5 * next.0 + stage_number after → version ≤ number.0

seek_flush : (number : Version) (stage : Stage) (s : KeeperState) (step : Seeking) → s.step ≡ Seeks → s.seek.step ≡ step → NoneFlushes number stage number (seek_moves stage step) ⊎ (StoresFlush s × FlushesUpto number number (seek_moves stage step))
seek_flush number stage s seek.StoresWaitFlush at is = inr (record { seeks = at; stores = is }, λ version high. omega (arith, high))
seek_flush number stage s (seek.Ended its) at is = inl (λ version high. high)
seek_flush number stage s (seek.LoadsOwing session) at is = inl (λ version high. high)
seek_flush number stage s seek.SeeksSlot at is = inl (λ version high. high)
seek_flush number stage s seek.LoadsCut at is = inl (λ version high. high)
seek_flush number stage s (seek.LoadsOther first) at is = inl (λ version high. high)
seek_flush number stage s seek.LoadsAgain at is = inl (λ version high. high)
seek_flush number stage s seek.LoadsTail at is = inl (λ version high. high)
seek_flush number stage s (seek.RaisesReadOnly end) at is = inl (λ version high. high)
seek_flush number stage s (seek.Defers end) at is = inl (λ version high. high)

keeping_flush : (number : Version) (stage : Stage) (s : KeeperState) (step : Keeping) → s.step ≡ step → FitsVersion number stage → StepAt number stage s step → NoneFlushes number stage (keeping_number number s step) (keeping_moves stage s step) ⊎ (StoresFlush s × FlushesUpto number (keeping_number number s step) (keeping_moves stage s step))
keeping_flush number stage s Starts is fits at = inl (start_flush number stage s.start s.start.step at)
keeping_flush number stage s Enters is fits at = inl (enter_flush number stage s.enter s.enter.step at.1)
keeping_flush number stage s Seeks is fits at = seek_flush number stage s s.seek.step is refl
keeping_flush number stage s Finishes is fits at = inl (finish_flush number stage s.finish.step fits at.1)
keeping_flush number stage s (Ended told) is fits at = inl (λ version high. high)
keeping_flush number stage s Maintains is fits at = inl (λ version high. high)
keeping_flush number stage s LoadsPhase is fits at = inl (λ version high. high)
keeping_flush number stage s Copies is fits at = inl (λ version high. high)
keeping_flush number stage s Sweeps is fits at = inl (λ version high. high)
keeping_flush number stage s Waits is fits at = inl (λ version high. high)
keeping_flush number stage s Writes is fits at = inl (λ version high. high)

module _ (n after : Now) (number : Version) (stage : Stage) (its : IsStaged n number stage) where
  abbrev Flush : Version → Stage → Type 0
  Flush next there = NoneFlushes number stage next there ⊎ (StoresFlush n.keeper × FlushesUpto number next there)

  behind : (between next : Version) (at there : Stage) → NoneFlushes between at next there → Flush between at → Flush next there
  behind between next at there none (inl before) = inl (λ version high. before version (none version high))
  behind between next at there none (inr stores) = inr (stores.0, λ version high. stores.1 version (none version high))

  moved_flush : (next : Version) (there : Stage) → Stored n number next stage there → Flush next there
  moved_flush next there stored =
      behind (keeping_number number n.keeper n.keeper.step) next (keeping_moves stage n.keeper n.keeper.step) there
      (same_flush (keeping_number number n.keeper n.keeper.step) next (keeping_moves stage n.keeper n.keeper.step) there stored.version stored.moves)
      (keeping_flush number stage n.keeper n.keeper.step refl its.fits its.keeper.step)

  replied_flush : (next : Version) (there : Stage) → Replied n number next stage there → Flush next there
  replied_flush next there (inl kept) = inl (same_flush number next stage there kept.version kept.same)
  replied_flush next there (inr (inl stored)) = moved_flush next there stored
  replied_flush next there (inr (inr ran)) = inl (ran_flush number next stage there ran.version ran.runs)

  led_flush : (next : Version) (there : Stage) → LedOn n after.keeper after.words number next stage there → Flush next there
  led_flush next there led =
      let onto = led.onto in
      behind onto.between next onto.at there
      (elim onto.settled [
        | inl plain ↦ same_flush onto.between next onto.at there plain.version plain.same
        | inr puts ↦
            let is = keeper_puts onto.between onto.at n.shape n.places onto.led onto.led.step onto.keeper.step (ap is_put puts.asks) in
            (λ version high.
            let a = ap (λ (v : Version). v.0) puts.version in
            let b = ap stage_number puts.moves in
            putting_flush onto.between onto.at onto.led onto.led.step is onto.keeper.step version (omega (arith, a, b, high)))
      ])
      (replied_flush onto.between onto.at onto.replied)

  how_flush : (next : Version) (there : Stage) → Quietly n after.keeper number next stage there ⊎ (RunBySession n after.keeper number next stage there ⊎ LedOn n after.keeper after.words number next stage there) → Flush next there
  how_flush next there (inl quiet) = inl (same_flush number next stage there quiet.same.version quiet.same.same)
  how_flush next there (inr (inl session)) = inl (ran_flush number next stage there session.ran.version session.ran.runs)
  how_flush next there (inr (inr led)) = led_flush next there led

-- ---- what the keeper knows stays
seek_map : (N M : ℕ → ℕ → Type 0) (count : ℕ) (number : Version) (stage : Stage) (s : SeekState) (step : Seeking) → SeekAt number stage s step → (stage ≡ Pends → (session : ℕ) → N s.number.0 session → M s.number.0 session) → SeekLeaves N count s step → SeekLeaves M count s step
seek_map N M count number stage s (seek.LoadsOwing first) at on leaves = λ session low. on at session (leaves session low)
seek_map N M count number stage s seek.SeeksSlot at on leaves = λ session low. on at.0 session (leaves session low)
seek_map N M count number stage s seek.LoadsCut at on leaves = λ session low. on at.0 session (leaves session low)
seek_map N M count number stage s (seek.LoadsOther first) at on leaves = λ session low. on at.0 session (leaves session low)
seek_map N M count number stage s seek.LoadsAgain at on leaves = λ session low. on at.0 session (leaves session low)
seek_map N M count number stage s seek.StoresWaitFlush at on leaves = λ session low. on at.0 session (leaves session low)
seek_map N M count number stage s (seek.Ended its) at on leaves = tt
seek_map N M count number stage s seek.LoadsTail at on leaves = tt
seek_map N M count number stage s (seek.RaisesReadOnly end) at on leaves = tt
seek_map N M count number stage s (seek.Defers end) at on leaves = tt

keeping_map : (N M : ℕ → ℕ → Type 0) (count : ℕ) (number : Version) (stage : Stage) (s : KeeperState) (step : Keeping) → StepAt number stage s step
    → (s.seek.number ≡ number → stage ≡ Pends → (session : ℕ) → N s.seek.number.0 session → M s.seek.number.0 session) → KeepingLeaves N count s step → KeepingLeaves M count s step
keeping_map N M count number stage s Seeks at on leaves = seek_map N M count number stage s.seek s.seek.step at.1 (on at.0) leaves
keeping_map N M count number stage s (Ended told) at on leaves = tt
keeping_map N M count number stage s Starts at on leaves = tt
keeping_map N M count number stage s Maintains at on leaves = tt
keeping_map N M count number stage s LoadsPhase at on leaves = tt
keeping_map N M count number stage s Enters at on leaves = tt
keeping_map N M count number stage s Copies at on leaves = tt
keeping_map N M count number stage s Sweeps at on leaves = tt
keeping_map N M count number stage s Waits at on leaves = tt
keeping_map N M count number stage s Writes at on leaves = tt
keeping_map N M count number stage s Finishes at on leaves = tt

asks_owing : (shape : Shape) (p : Places) (s : KeeperState) (session : ℕ) → s.step ≡ Seeks → s.seek.step ≡ seek.LoadsOwing session → keeper_ask shape p s ≡ Load (session_place session own.Owing)
unfolding keeping_ask seeking_ask passed
asks_owing shape p s session at loads = rw (at, loads) refl

pub put_no_load : {X : Type 0} (ask : Ask KeeperTold) (slot : ℕ) (action : Action) (place : ℕ) → ask ≡ Put slot action → ask ≡ Load place → X
put_no_load ask slot action place puts loads = let clash : Put slot action ≡ Load place = sym puts ∙ loads in cc

-- ---- an earlier version
lower : (low high : ℕ) → low ≤ high → (version : ℕ) → IsLater high version → IsLater low version
lower low high up version later = omega (arith, up, later)

all_lower : (low high : ℕ) → low ≤ high → (requests : List PendingRequest) → AreUpdatesSo (IsLater high) requests → AreUpdatesSo (IsLater low) requests
all_lower low high up [] so = tt
all_lower low high up (p ∷ rest) so = ((λ updates. lower low high up p.request.version.0 (so.0 updates)), all_lower low high up rest so.1)

attempts_lower : (low high : ℕ) → low ≤ high → (s : SessionState) (step : Sitting) → AttemptsSo (IsLater high) s step → AttemptsSo (IsLater low) s step
attempts_lower low high up s (Attempts has_shifted) so = λ updates. lower low high up s.attempt.pending.request.version.0 (so updates)
attempts_lower low high up s (Polls index) so = λ updates. lower low high up s.attempt.pending.request.version.0 (so updates)
attempts_lower low high up s step so = tt

pub none_lower : (low high : ℕ) (s : SessionState) → low ≤ high → HasNoneUpto high s → HasNoneUpto low s
none_lower low high s up none = record { waiting = all_lower low high up s.requests none.waiting; attempted = attempts_lower low high up s s.step none.attempted }

-- ---- a life
module _ (live : LiveAreLater) (opening : World) (start : ℕ) (opens : OpensQuiet opening start) where
  -- a session has no update up to this version
  abbrev NoneAt : List Event → ℕ → ℕ → Type 0
  NoneAt events version session = (first its : SessionState) → HasBecome opening events session first its → HasNoneUpto version its

  abbrev LeftAt : List Event → Type 0
  LeftAt events = (version session : ℕ) → flush_rank version ≤ rank_now opening events → NoneAt events version session

  record Knows (events : List Event) : Type 0 where
    left : LeftAt events
    keeper : KeeperKnows (NoneAt events) opening.now.places.sessions (run opening events).now.keeper

  become : (events : List Event) (session : ℕ) (first its : SessionState) (event : Event) → HasBecome opening (event ∷ events) session first its
      → HasBecome opening events session first (session_run (seat_at opening.now session) first (session_events opening session events))
  become events session first its event became = record { opened = opens.opened; was = became.was; is_now = session_runs opening session first events became.was }

  carry : (event : Event) (before : List Event) (version session : ℕ) → pending_rank version ≤ rank_now opening before → NoneAt before version session → NoneAt (event ∷ before) version session
  carry event before version session high none first its became =
      let was = become before session first its event became in
      none_comes_back live opening start (event ∷ []) before version session first _ its opens high was (none first _ was) became

  owed_none : (events : List Event) (version session : ℕ) → LeftAt events → rank_now opening events ≡ pending_rank version → word_now opening events (session_place session own.Owing) ≡ 0 → NoneAt events version session
  owed_none events version session left rank owes first its became =
      let s : SessionState = session_run (seat_at opening.now session) first (session_events opening session events) in
      let was : HasBecome opening events session first s = record { opened = opens.opened; was = became.was; is_now = session_runs opening session first events became.was } in
      of_run (HasNoneUpto version) opening events session first its became
      (none_owed live opening start events version session first opens became.was rank owes (λ some. left (version - 1) session (omega (arith, rank, some)) first s was))

  module _ (event : Event) (before : List Event) (was : Knows before) where
    abbrev n : Now
    n = (run opening before).now

    abbrev after : Now
    after = (run opening (event ∷ before)).now

    abbrev M : ℕ → ℕ → Type 0
    M = NoneAt (event ∷ before)

    module _ (number : Version) (stage : Stage) (staged : IsStaged n number stage) where
      rank_here : rank_now opening before ≡ 5 * number.0 + stage_number stage
      rank_here = staged_rank n number stage staged

      pends_rank : (s : KeeperState) → s.seek.number ≡ number → stage ≡ Pends → rank_now opening before ≡ pending_rank s.seek.number.0
      pends_rank s same pends = let a = rank_here in let b = ap stage_number pends in let c = ap (λ (v : Version). v.0) same in omega (arith, a, b, c)

      keeper_on : KeeperKnows M opening.now.places.sessions n.keeper
      keeper_on = record {
        sessions = was.keeper.sessions;
        step = keeping_map (NoneAt before) M opening.now.places.sessions number stage n.keeper n.keeper.step staged.keeper.step
            (λ same pends session none. let rank = pends_rank n.keeper same pends in carry event before n.keeper.seek.number.0 session (omega (arith, rank)) none) was.keeper.step;
      }

      owing_at : (session : ℕ) (step : Keeping) (at : Seeking) → step ≡ Seeks → at ≡ seek.LoadsOwing session → n.keeper.step ≡ step → n.keeper.seek.step ≡ at → StepAt number stage n.keeper n.keeper.step → (n.keeper.seek.number ≡ number) × (stage ≡ Pends)
      owing_at session step at seeks loads is met known =
          let here : StepAt number stage n.keeper Seeks = subst (λ (x : Keeping). StepAt number stage n.keeper x) (is ∙ seeks) known in
          (here.0, subst (λ (x : Seeking). SeekAt number stage n.keeper.seek x) (met ∙ loads) here.1)

      owes_at : (session : ℕ) → n.keeper.step ≡ Seeks → n.keeper.seek.step ≡ seek.LoadsOwing session → reply_to n.words (keeper_ask n.shape n.places n.keeper) ≡ 0 → M n.keeper.seek.number.0 session
      owes_at session at loads zero =
          let it = owing_at session Seeks (seek.LoadsOwing session) refl refl at loads staged.keeper.step in
          let rank = pends_rank n.keeper it.0 it.1 in
          let word = ap (λ (ask : Ask KeeperTold). reply_to n.words ask) (sym (asks_owing n.shape n.places n.keeper session at loads)) ∙ zero in
          carry event before n.keeper.seek.number.0 session (omega (arith, rank)) (owed_none before n.keeper.seek.number.0 session was.left rank word)

      -- the keeper behind the event
      gets_knows : (led : KeeperState) (found : Option Action) → KeeperKnows M opening.now.places.sessions led → KeeperKnows M opening.now.places.sessions (keeper_gets n.shape n.places led found)
      gets_knows led None its = its
      gets_knows led (Some action) its = given_knows M opening.now.places.sessions n.shape n.places led led.step action refl its

      quiet_knows : QuietKeeper n after.keeper → KeeperKnows M opening.now.places.sessions after.keeper
      quiet_knows (inl same) = subst (λ (x : KeeperState). KeeperKnows M opening.now.places.sessions x) (sym same) keeper_on
      quiet_knows (inr (inl called)) =
          subst (λ (x : KeeperState). KeeperKnows M opening.now.places.sessions x) (sym called.2) (called_knows M opening.now.places.sessions n.shape n.places n.keeper n.keeper.step called.0 called.1 refl keeper_on)
      quiet_knows (inr (inr (inl commit))) =
          subst (λ (x : KeeperState). KeeperKnows M opening.now.places.sessions x) (sym commit.1)
          (asked_knows M opening.now.places.sessions n.keeper (commit_asked n.keeper commit.0) keeper_on (commit_knows M opening.now.places.sessions n.keeper commit.0 keeper_on.sessions))
      quiet_knows (inr (inr (inr turn))) =
          subst (λ (x : KeeperState). KeeperKnows M opening.now.places.sessions x) (sym turn) (asked_knows M opening.now.places.sessions n.keeper (turn_asked n.keeper) keeper_on (turn_knows M opening.now.places.sessions n.keeper keeper_on.sessions))

      onto_knows : (next : Version) (there : Stage) → LedOn n after.keeper after.words number next stage there → KeeperKnows M opening.now.places.sessions after.keeper
      onto_knows next there its =
          let onto = its.onto in
          let led : KeeperKnows M opening.now.places.sessions onto.led =
          subst (λ (x : KeeperState). KeeperKnows M opening.now.places.sessions x) (sym onto.is_led)
          (replied_knows M opening.now.places.sessions n.shape n.places n.keeper n.keeper.step (reply_to n.words (keeper_ask n.shape n.places n.keeper)) its.granted refl keeper_on.sessions keeper_on.step (λ session at loads zero. owes_at session at loads zero)) in
          elim onto.settled [
            | inl plain ↦ elim plain.keeper [
              | inl same ↦ subst (λ (x : KeeperState). KeeperKnows M opening.now.places.sessions x) (sym same) led
              | inr gets ↦ subst (λ (x : KeeperState). KeeperKnows M opening.now.places.sessions x) (sym gets.1) (gets_knows onto.led gets.0 led)
            ]
            | inr puts ↦ subst (λ (x : KeeperState). KeeperKnows M opening.now.places.sessions x) (sym puts.keeper)
                (replied_knows M opening.now.places.sessions n.shape n.places onto.led onto.led.step 0 its.granted refl led.sessions led.step
                (λ session at loads zero. put_no_load (keeper_ask n.shape n.places onto.led) puts.slot puts.action (session_place session own.Owing) puts.asks (asks_owing n.shape n.places onto.led session at loads)))
          ]

      how_knows : (next : Version) (there : Stage) → Quietly n after.keeper number next stage there ⊎ (RunBySession n after.keeper number next stage there ⊎ LedOn n after.keeper after.words number next stage there)
          → KeeperKnows M opening.now.places.sessions after.keeper
      how_knows next there (inl quiet) = quiet_knows quiet.keeper
      how_knows next there (inr (inl session)) = subst (λ (x : KeeperState). KeeperKnows M opening.now.places.sessions x) (sym session.keeper) keeper_on
      how_knows next there (inr (inr led)) = onto_knows next there led

      -- wait-flush is stored: each session leaves the commit's version
      stored_all : StoresFlush n.keeper → (session : ℕ) → session < opening.now.places.sessions → M number.0 session
      stored_all stores session inside =
          let here : StepAt number stage n.keeper Seeks = subst (λ (x : Keeping). StepAt number stage n.keeper x) stores.seeks staged.keeper.step in
          let leaves : KeepingLeaves M opening.now.places.sessions n.keeper Seeks = subst (λ (x : Keeping). KeepingLeaves M opening.now.places.sessions n.keeper x) stores.seeks keeper_on.step in
          let all : AllLeave M opening.now.places.sessions n.keeper.seek.number.0 = subst (λ (x : Seeking). SeekLeaves M opening.now.places.sessions n.keeper.seek x) stores.stores leaves in
          subst (λ (v : Version). M v.0 session) here.0 (all session inside)

      stored_pends : StoresFlush n.keeper → stage ≡ Pends
      stored_pends stores =
          let here : StepAt number stage n.keeper Seeks = subst (λ (x : Keeping). StepAt number stage n.keeper x) stores.seeks staged.keeper.step in
          let at : SeekAt number stage n.keeper.seek seek.StoresWaitFlush = subst (λ (x : Seeking). SeekAt number stage n.keeper.seek x) stores.stores here.1 in
          at.0

      left_on : (next : Version) (there : Stage) → IsStaged after next there → NoneFlushes number stage next there ⊎ (StoresFlush n.keeper × FlushesUpto number next there) → LeftAt (event ∷ before)
      left_on next there its (inl none) version session high first state became =
          let a = rank_here in
          let b = staged_rank after next there its in
          let c = none version (omega (arith, b, high)) in
          carry event before version session (omega (arith, a, c)) (was.left version session (omega (arith, a, c))) first state became
      left_on next there its (inr stores) version session high first state became =
          let b = staged_rank after next there its in
          none_lower version number.0 state (stores.1 version (omega (arith, b, high))) (stored_all stores.0 session (seated opening (event ∷ before) session first state became) first state became)

    knows_on : Knows (event ∷ before)
    knows_on =
        let lived = life_staged opening start before opens.guarded opens.opened opens.seen.rests in
        let there = event_on opening start opens.guarded opens.opened before event lived.number lived.stage lived.staged in
        record {
          left = left_on lived.number lived.stage lived.staged there.on.its_number there.on.its_stage there.on.staged (how_flush n after lived.number lived.stage lived.staged there.on.its_number there.on.its_stage there.how);
          keeper = how_knows lived.number lived.stage lived.staged there.on.its_number there.on.its_stage there.how;
        }

  -- as the life begins
  idle_attempts : (P : ℕ → Type 0) (s : SessionState) (step : Sitting) → is_busy step ≡ false → AttemptsSo P s step
  idle_attempts P s (Idle its) idle = tt
  idle_attempts P s step idle = cc

  opened_left : LeftAt []
  unfolding session_events session_run
  opened_left version session high first its became =
      let opened = opened_so opening [] session first its became in
      of_run (HasNoneUpto version) opening [] session first its became
      (record { waiting = subst (λ (requests : List PendingRequest). AreUpdatesSo (IsLater version) requests) (sym opened.none_wait) tt; attempted = idle_attempts (IsLater version) first first.step opened.none_in_hand })

  opened_keeper : KeeperKnows (NoneAt []) opening.now.places.sessions (run opening []).now.keeper
  unfolding run
  opened_keeper = opened_knows (NoneAt []) opening.now.places.sessions opening.now.keeper opening.now.keeper.step refl opens.guarded.keeper.none_in_hand opens.sought

  knows : (events : List Event) → Knows events
  knows [] = record { left = opened_left; keeper = opened_keeper }
  knows (event ∷ before) = knows_on event before (knows before)

  pub left_now : (events : List Event) → LeftAt events
  left_now events = (knows events).left

  pub owed_now : (events : List Event) (version session : ℕ) → rank_now opening events ≡ pending_rank version → word_now opening events (session_place session own.Owing) ≡ 0 → NoneAt events version session
  owed_now events version session rank owes = owed_none events version session (left_now events) rank owes

pub none_is_left : LiveAreLater → NoneIsLeft
none_is_left live opening start events version session first its opens became high = left_now live opening start opens events version session high first its became

pub owes_none : LiveAreLater → OwesNone
owes_none live opening start events version session first its opens became rank owes = owed_now live opening start opens events version session rank owes first its became
