-- No session that takes up prepare meets a latch that is held alone.
use Rattle.std.proofs.Common.{◌≡◌, ◌⊎◌, inl, inr, ℕ, ◌+◌, ◌*◌, ◌<◌, ◌≤◌, ◌∙◌, refl, sym, ap, subst, arith, List, [], Bool, true, false}
use Rattle.std.specs.Prelude.{Option, Some, None, ◌==◌, ◌&&◌, nat_lt, not}
use Rattle.std.proofs.lemmas.Bool.Decides.{nat_tests}
use Rattle.fkv_base.specs.declared.numbers.Version.{Version}
use Rattle.fkv_base.specs.declared.phases.Phase.{Phase}
use Rattle.fkv_base.specs.declared.phases.Phase.TheVariants.{Rest, Prepare, InProgress, WaitPending, WaitFlush}
use Rattle.fkv_epoch.specs.declared.refreshing.Refreshing.{Refreshing}
use Rattle.fkv_epoch.specs.declared.refreshing.Refreshing.TheVariants as refresh
use Rattle.fkv_epoch.specs.declared.protecting.Protecting.{Protecting}
use Rattle.fkv_epoch.specs.declared.protecting.Protecting.TheVariants as protect
use Rattle.fkv_epoch.specs.Refreshing.{refresh_ask}
use Rattle.fkv_epoch.specs.Protecting.{protect_ask}
use Rattle.fkv_index.specs.Slots.{home_of}
use Rattle.fkv_index.proofs.Shown.{homes_are_there}
use Rattle.fkv_latch.specs.declared.latching.Latching.{Latching}
use Rattle.fkv_latch.specs.declared.latching.Latching.TheVariants as latching
use Rattle.fkv_latch.specs.Latched.{AreCounted}
use Rattle.fkv_latch.specs.Latching.{is_exclusive, latch_ask}
use Rattle.fkv_latch.specs.LatchWorld.{has_latch, times}
use Rattle.fkv_map.specs.Keys.{key_of}
use Rattle.law_refine.specs.Below.fkv_ops.Seen.{Seen}
use Rattle.law_refine.specs.Below.fkv_ops.TheTrying.{Trying}
use Rattle.law_refine.specs.Below.fkv_ops.TheTrying.TheVariants.{Ended, TakesShared, LoadsPhase, Walks, CountsTaken, LoadsSafe, SwapsValue, LoadsCurrent, ChangesValue, LoadsAnswer, TakesExclusive, LoadsOld, Appends, LoadsTail, LoadsTaken, DropsExclusive, DropsShared}
use Rattle.law_refine.specs.Below.fkv_ops.Trying.{TryState, is_moving_on, is_prepare}
use Rattle.law_refine.specs.Below.fkv_pending.TheAttempting.{Attempting}
use Rattle.law_refine.specs.Below.fkv_pending.TheAttempting.TheVariants.{Tries}
use Rattle.law_refine.specs.Below.fkv_pending.PendingRequest.{PendingRequest}
use Rattle.law_refine.specs.Below.fkv_pending.Attempting.{AttemptState}
use Rattle.fkv_plane.specs.declared.asks.Ask.TheVariants.{Add}
use Rattle.fkv_plane.specs.declared.places.Places.{Places}
use Rattle.fkv_plane.specs.Asked.{word_at}
use Rattle.fkv_plane.specs.Passing.{passed}
use Rattle.law_refine.specs.Below.fkv_session.Told.{Told}
use Rattle.law_refine.specs.Below.fkv_session.Told.TheVariants.{Slept}
use Rattle.law_refine.specs.Below.fkv_session.Catching.{Catching}
use Rattle.law_refine.specs.Below.fkv_session.Catching.TheVariants as catching
use Rattle.law_refine.specs.Below.fkv_session.CatchCause.{CatchCause}
use Rattle.law_refine.specs.Below.fkv_session.Sitting.{Sitting}
use Rattle.law_refine.specs.Below.fkv_session.Sitting.TheVariants.{Attempts, CatchesUp, Polls}
use Rattle.law_refine.specs.Below.fkv_session.Asleep.{IsAsleep, IsStepAsleep}
use Rattle.law_refine.specs.Below.fkv_session.CatchingUp.{CatchState, catching_ask, enters_prepare}
use Rattle.law_refine.specs.Below.fkv_session.Sessions.{Seat, SessionState, bits_of, session_ask, sitting_ask}
use Rattle.law_refine.specs.Below.fkv_session.Shares.{HasItsBuckets}
use Rattle.law_refine.proofs.Below.fkv_session.Shown.{run_asleep}
use Rattle.law_refine.specs.Below.fkv_world.Opened.{HasBecome}
use Rattle.law_refine.specs.Below.fkv_world.OwnEvents.{session_events}
use Rattle.law_refine.specs.Below.fkv_world.Runs.{World, run}
use Rattle.law_refine.specs.Below.fkv_world.World.{Event, seat_at}
use Rattle.law_refine.proofs.Below.fkv_world.Shown.{places_stay, same_seat}
use Rattle.law_refine.proofs.Below.law_world.OfSessions.OwnRun.{of_run, opened_so}
use Rattle.law_refine.specs.Below.law_world.Guarded.Shows as guard
use Rattle.law_paper.specs.Apart.{IsBetween}
use Rattle.law_paper.specs.Phases as paper
use Rattle.law_refine.specs.Latches.Latchers.{attempt_alone, attempt_latching, catch_latching, held_if, its_latch, session_latching, sitting_alone, sitting_latching, try_alone, try_latching}
use Rattle.law_refine.specs.Latches.Shows as latches
use Rattle.law_refine.specs.Latches.Shows.{Shows, seen_by_latches}
use Rattle.law_commit.specs.Floor.Stands.{HasFloor, OpensSeen, PaperHasFloor, PaperIsSound, stage_number}
use Rattle.law_commit.specs.PhaseVersions.{NoneIsAhead, phase_version}
use Rattle.law_commit.specs.Phases.Projected.{is_coming, paper_view}
use Rattle.law_commit.specs.Phases.Staged.{Stage}
use Rattle.law_commit.specs.Quiet.{rank_now}
use Rattle.law_commit.specs.Ranks.{rank}
use Rattle.law_commit.specs.Shares.Alone.{BitIsPastPrepare, HoldsAloneBetween, HoldsAloneByRank, MeetsNoneAlone}
use Rattle.law_commit.specs.Shares.Tries.{SharesAttempting, SharesInHand, SharesInTries, SharesSo, SharesTrying}
use Rattle.law_commit.specs.Views.{IsComing, IsTakenFrom, Sight, TakesUp, View, rank_of, sight_found, sight_in, sight_of}
use Rattle.law_commit.proofs.Measured.{ComesBetween}
use Rattle.law_commit.proofs.Rising.{life_rise, of_version}
use Rattle.law_commit.proofs.Sights.{coming_seen, view_seen}
use Rattle.law_commit.proofs.OfFloor.LifeFloor.{LifeFloored}
use Rattle.law_commit.proofs.OfFloor.Stands.{few_stages, has_floor, life_floored}
use Rattle.law_commit.proofs.OfPhases.LifeStages.{life_staged, none_ahead}
use Rattle.law_commit.proofs.OfQuiet.Ranks.{staged_rank}
use Rattle.law_commit.proofs.OfShares.AttemptsMove.{AttemptMoving}
use Rattle.law_commit.proofs.OfShares.Enters.{CatchEnters, IsSharing, SomeWait}
use Rattle.law_commit.proofs.OfShares.Holders.{no_bit}
use Rattle.law_commit.proofs.OfShares.SessionsMove.{IsSessionMoving, SittingMoving, session_run_moving}
use Rattle.law_commit.proofs.OfShares.TriesMove.{HasShare, IsTryMoving, MovesOn, SharesBy}

-- ---- who holds a latch alone, or drops it, is between two versions
abbrev MovesAwake : Seen → Sitting → Type 0
MovesAwake seen step = (is_moving_on seen.phase ≡ true) × (IsStepAsleep step → ⊥)

held_so : (place at : ℕ) (has : Bool) → 0 < times place (held_if at has) → has ≡ true
held_so place at true some = refl
held_so place at false some = absurd (omega (arith, some))

none_held : {X : Type 0} (place : ℕ) → 0 < times place [] → X
none_held place some = absurd (omega (arith, some))

try_moves : (p : Places) (seen : Seen) (t : TryState) (step : Trying) (place : ℕ) → IsTryMoving seen t → 0 < times place (try_alone p t step) → is_moving_on seen.phase ≡ true
try_moves p seen t LoadsOld place its some = (its.keeps.1 (held_so place (its_latch p t) t.has_exclusive some)).0
try_moves p seen t (Appends reply) place its some = (its.keeps.1 (held_so place (its_latch p t) t.has_exclusive some)).0
try_moves p seen t (LoadsTail waiting) place its some = (its.keeps.1 (held_so place (its_latch p t) t.has_exclusive some)).0
try_moves p seen t (LoadsTaken waiting) place its some = (its.keeps.1 (held_so place (its_latch p t) t.has_exclusive some)).0
try_moves p seen t step place its some = none_held place some

attempt_moves : (p : Places) (seen : Seen) (a : AttemptState) (step : Attempting) (place : ℕ) → AttemptMoving seen a step → 0 < times place (attempt_alone p a step) → is_moving_on seen.phase ≡ true
attempt_moves p seen a Tries place its some = try_moves p seen a.trial a.trial.step place its some
attempt_moves p seen a step place its some = none_held place some

try_drops : (seen : Seen) (t : TryState) (step : Trying) (place : ℕ) → IsTryMoving seen t → try_latching t step ≡ latching.DropsExclusive place → is_moving_on seen.phase ≡ true
try_drops seen t TakesShared place its e = (its.keeps.2 (rw e refl)).0
try_drops seen t (TakesExclusive old) place its e = (its.keeps.2 (rw e refl)).0
try_drops seen t (DropsExclusive told) place its e = (its.keeps.2 (rw e refl)).0
try_drops seen t (DropsShared told) place its e = (its.keeps.2 (rw e refl)).0
try_drops seen t step place its e = cc

attempt_drops : (seen : Seen) (a : AttemptState) (step : Attempting) (place : ℕ) → AttemptMoving seen a step → attempt_latching a step ≡ latching.DropsExclusive place → is_moving_on seen.phase ≡ true
attempt_drops seen a Tries place its e = try_drops seen a.trial a.trial.step place its e
attempt_drops seen a step place its e = cc

shares_not : (p : Places) (step : Latching) (place : ℕ) {X : Type 0} → IsSharing p step → step ≡ latching.DropsExclusive place → X
shares_not p (latching.DropsExclusive at) place its e = absurd its
shares_not p step place its e = cc

catch_drops : (p : Places) (seen : Seen) (requests : List PendingRequest) (c : CatchState) (step : Catching) (place : ℕ) {X : Type 0} → CatchEnters p seen requests c step → catch_latching c step ≡ latching.DropsExclusive place → X
catch_drops p seen requests c (catching.Latches i) place its e = shares_not p c.latching place its.2 e
catch_drops p seen requests c step place its e = cc

module _ (k : Seat) (homes : (pending : PendingRequest) → (home_of (bits_of k) (key_of pending.request.op)).bucket < k.places.buckets) where
  sitting_moves : (p : Places) (s : SessionState) (step : Sitting) (place : ℕ) → SittingMoving k homes s step → 0 < times place (sitting_alone p s step) → MovesAwake s.seen step
  sitting_moves p s (Attempts has_shifted) place its some = (attempt_moves p s.seen s.attempt s.attempt.step place its.moving some, λ asleep. absurd asleep)
  sitting_moves p s (Polls i) place its some = (attempt_moves p s.seen s.attempt s.attempt.step place its.moving some, λ asleep. absurd asleep)
  sitting_moves p s step place its some = none_held place some

  sitting_drops : (s : SessionState) (step : Sitting) (place : ℕ) → SittingMoving k homes s step → sitting_latching s step ≡ latching.DropsExclusive place → MovesAwake s.seen step
  sitting_drops s (Attempts has_shifted) place its e = (attempt_drops s.seen s.attempt s.attempt.step place its.moving e, λ asleep. absurd asleep)
  sitting_drops s (Polls i) place its e = (attempt_drops s.seen s.attempt s.attempt.step place its.moving e, λ asleep. absurd asleep)
  sitting_drops s (CatchesUp cause) place its e = catch_drops k.places s.seen s.requests s.catching s.catching.step place its e
  sitting_drops s step place its e = cc

-- ---- what its tries share
so : (seen : Seen) (t : TryState) → t.seen ≡ seen → (t.has_exclusive ≡ true → MovesOn seen t) → HasShare t → SharesSo seen t
so seen t same alone shares = record {
  prepares = λ prepare. shares.0 (subst (λ (x : Seen). is_prepare x.phase ≡ true) (sym same) prepare);
  kept = shares.1;
  came = λ has. subst (λ (x : Seen). (is_prepare x.phase ≡ true) ⊎ (t.request.has_latch ≡ true)) same (shares.2 has);
  alone = alone;
}

try_shares : (seen : Seen) (t : TryState) (step : Trying) → t.seen ≡ seen → (t.has_exclusive ≡ true → MovesOn seen t) → SharesBy t step → SharesTrying seen t step
try_shares seen t LoadsPhase same alone shares = so seen t same alone shares
try_shares seen t Walks same alone shares = so seen t same alone shares
try_shares seen t CountsTaken same alone shares = so seen t same alone shares
try_shares seen t (LoadsSafe addr version) same alone shares = so seen t same alone shares
try_shares seen t (SwapsValue addr) same alone shares = so seen t same alone shares
try_shares seen t (LoadsCurrent addr) same alone shares = so seen t same alone shares
try_shares seen t (ChangesValue addr old) same alone shares = so seen t same alone shares
try_shares seen t LoadsAnswer same alone shares = so seen t same alone shares
try_shares seen t (TakesExclusive old) same alone shares = so seen t same alone shares
try_shares seen t LoadsOld same alone shares = so seen t same alone shares
try_shares seen t (Appends its) same alone shares = so seen t same alone shares
try_shares seen t (LoadsTail waiting) same alone shares = so seen t same alone shares
try_shares seen t (LoadsTaken waiting) same alone shares = so seen t same alone shares
try_shares seen t (Ended its) same alone shares = tt
try_shares seen t TakesShared same alone shares = tt
try_shares seen t (DropsExclusive its) same alone shares = tt
try_shares seen t (DropsShared its) same alone shares = tt

attempt_shares : (seen : Seen) (a : AttemptState) (step : Attempting) → AttemptMoving seen a step → SharesAttempting seen a step
attempt_shares seen a Tries its = try_shares seen a.trial a.trial.step its.keeps.0 its.keeps.1 its.shares
attempt_shares seen a step its = tt

module _ (k : Seat) (homes : (pending : PendingRequest) → (home_of (bits_of k) (key_of pending.request.op)).bucket < k.places.buckets) where
  sitting_shares : (s : SessionState) (step : Sitting) → SittingMoving k homes s step → SharesInHand s step
  sitting_shares s (Attempts has_shifted) its = attempt_shares s.seen s.attempt s.attempt.step its.moving
  sitting_shares s (Polls i) its = attempt_shares s.seen s.attempt s.attempt.step its.moving
  sitting_shares s step its = tt

-- ---- who adds to a word in catching up
refresh_adds : {X : Type 0} (n : ℕ) (step : Refreshing) (place number : ℕ) → passed {B = Told} (passed {B = Unit {0}} (refresh_ask n step) tt) Slept ≡ Add place number → X
unfolding refresh_ask passed
refresh_adds n refresh.AtRest place number e = cc
refresh_adds n refresh.LoadsEpoch place number e = cc
refresh_adds n (refresh.LoadsPhase epoch) place number e = cc
refresh_adds n (refresh.LoadsReadOnly epoch phase) place number e = cc
refresh_adds n (refresh.LoadsHead epoch phase read_only) place number e = cc
refresh_adds n (refresh.HasLoaded epoch values) place number e = cc
refresh_adds n (refresh.StoresEpoch epoch) place number e = cc

protect_adds : {X : Type 0} (n : ℕ) (step : Protecting) (place number : ℕ) → passed {B = Told} (passed {B = Unit {0}} (protect_ask n step) tt) Slept ≡ Add place number → X
unfolding protect_ask passed
protect_adds n protect.AtRest place number e = cc
protect_adds n protect.LoadsEpoch place number e = cc
protect_adds n (protect.StoresEpoch epoch) place number e = cc
protect_adds n protect.LoadsPhase place number e = cc
protect_adds n (protect.LoadsReadOnly phase) place number e = cc
protect_adds n (protect.LoadsHead phase read_only) place number e = cc

-- it enters prepare, an update waits, and the word is that of a latch
record Adding (p : Places) (sight : Sight) (seen : Seen) (requests : List PendingRequest) (c : CatchState) (place : ℕ) : Type 0 where
  enters : enters_prepare seen c.seen ≡ true
  waits : SomeWait requests
  has : has_latch p place ≡ true
  takes : IsTakenFrom sight.coming c.seen

latch_adds : (p : Places) (step : Latching) (place number : ℕ) → IsSharing p step → passed {B = Told} (passed {B = Unit {0}} (latch_ask step) tt) Slept ≡ Add place number → has_latch p place ≡ true
unfolding latch_ask passed
latch_adds p (latching.AddsShare at) place number has e = let same : at ≡ place = cc in subst (λ (q : ℕ). has_latch p q ≡ true) same has
latch_adds p (latching.GivesBack at) place number has e = let same : at ≡ place = cc in subst (λ (q : ℕ). has_latch p q ≡ true) same has
latch_adds p step place number has e = absurd has

catch_adds : (p : Places) (n : ℕ) (sight : Sight) (seen : Seen) (requests : List PendingRequest) (c : CatchState) (step : Catching) (place number : ℕ) → CatchEnters p seen requests c step → TakesUp sight c step
    → passed {B = Told} (catching_ask p n c requests step) Slept ≡ Add place number → Adding p sight seen requests c place
unfolding catching_ask passed
catch_adds p n sight seen requests c catching.Ended place number its takes e = cc
catch_adds p n sight seen requests c catching.Refreshes place number its takes e = refresh_adds n c.refreshing place number e
catch_adds p n sight seen requests c catching.Protects place number its takes e = protect_adds n c.protecting place number e
catch_adds p n sight seen requests c catching.StoresCut place number its takes e = cc
catch_adds p n sight seen requests c catching.StoresOwing place number its takes e = cc
catch_adds p n sight seen requests c (catching.Latches i) place number its takes e = record { enters = its.0; waits = its.1; has = latch_adds p c.latching place number its.2 e; takes = takes }
catch_adds p n sight seen requests c catching.Finishes place number its takes e = refresh_adds n c.refreshing place number e

-- ---- ranks
both_are : (a b : Bool) → (a && b) ≡ true → (a ≡ true) × (b ≡ true)
both_are true true e = (refl, refl)
both_are true false e = cc
both_are false b e = cc

is_false : (b : Bool) → not b ≡ true → b ≡ false
is_false false e = refl
is_false true e = cc

-- a view between two versions shows that the commit in hand has come to in-progress
gone_on : (number : Version) (stage : Stage) (phase : Phase) (version : ℕ) → 0 < number.0 → rank phase version ≤ 5 * number.0 + stage_number stage → 5 * number.0 ≤ rank phase version + 1 → is_moving_on phase ≡ true → 2 ≤ stage_number stage
gone_on number stage InProgress version some low rest e = let few = few_stages stage in omega (arith, few, some, low, rest)
gone_on number stage WaitPending version some low rest e = let few = few_stages stage in omega (arith, few, some, low, rest)
gone_on number stage Rest version some low rest e = cc
gone_on number stage Prepare version some low rest e = cc
gone_on number stage WaitFlush version some low rest e = cc

-- so nobody enters prepare then
pub never_enters : (number : Version) (stage : Stage) (phase : Phase) (version coming : ℕ) → 2 ≤ stage_number stage → 5 * number.0 + 1 ≤ rank phase version → rank Prepare coming ≤ 5 * number.0 + stage_number stage → version ≤ coming
    → (is_prepare phase ≡ true → version ≡ coming → ⊥) → ⊥
never_enters number stage Rest version coming far low high rises other = let few = few_stages stage in omega (arith, few, low, high, rises)
never_enters number stage Prepare version coming far low high rises other = let few = few_stages stage in other refl (omega (arith, few, low, high, rises))
never_enters number stage InProgress version coming far low high rises other = let few = few_stages stage in omega (arith, few, low, high, rises)
never_enters number stage WaitPending version coming far low high rises other = let few = few_stages stage in omega (arith, few, low, high, rises)
never_enters number stage WaitFlush version coming far low high rises other = let few = few_stages stage in omega (arith, few, low, high, rises)

pub prepare_is : (phase : Phase) → is_prepare phase ≡ true → phase ≡ Prepare
prepare_is Prepare e = refl
prepare_is Rest e = cc
prepare_is InProgress e = cc
prepare_is WaitPending e = cc
prepare_is WaitFlush e = cc

-- ---- in a life
pub homes_so : (k : Seat) → HasItsBuckets k → (pending : PendingRequest) → (home_of (bits_of k) (key_of pending.request.op)).bucket < k.places.buckets
homes_so k its pending = (homes_are_there k.places (bits_of k) (key_of pending.request.op) its).few

pub moving_at : (opening : World) (events : List Event) (session : ℕ) (first its : SessionState) (buckets : HasItsBuckets (seat_at opening.now session)) → HasBecome opening events session first its
    → IsSessionMoving (seat_at opening.now session) (homes_so (seat_at opening.now session) buckets) its
moving_at opening events session first its buckets became =
    let k : Seat = seat_at opening.now session in
    of_run (λ s. IsSessionMoving k (homes_so k buckets) s) opening events session first its became
    (session_run_moving k (homes_so k buckets) first (session_events opening session events) (opened_so opening events session first its became))

awake_by : (its : SessionState) (awake : Bool) → its.is_awake ≡ awake → (its.is_awake ≡ false → IsAsleep its.requests its.step) → (IsAsleep its.requests its.step → ⊥) → its.is_awake ≡ true
awake_by its true e asleep none = e
awake_by its false e asleep none = absurd (none (asleep e))

pub asleep_at : (opening : World) (events : List Event) (session : ℕ) (first its : SessionState) → HasBecome opening events session first its → its.is_awake ≡ false → IsAsleep its.requests its.step
asleep_at opening events session first its became =
    of_run (λ s. s.is_awake ≡ false → IsAsleep s.requests s.step) opening events session first its became
    (run_asleep (seat_at opening.now session) first (session_events opening session events) (opened_so opening events session first its became))

pub awake_at : (opening : World) (events : List Event) (session : ℕ) (first its : SessionState) → HasBecome opening events session first its → (IsAsleep its.requests its.step → ⊥) → its.is_awake ≡ true
awake_at opening events session first its became none = awake_by its its.is_awake refl (asleep_at opening events session first its became) none

pub alone_between : HoldsAloneBetween
alone_between opening start events session place first its guarded became alone =
    let moves = sitting_moves (seat_at opening.now session) (homes_so (seat_at opening.now session) guarded.buckets) (run opening events).now.places its its.step place
    (moving_at opening events session first its guarded.buckets became) alone in
    (moves.0, awake_at opening events session first its became (λ asleep. moves.1 asleep.accepts_none))

pub tries_share : SharesInTries
tries_share opening start events session first its guarded became =
    sitting_shares (seat_at opening.now session) (homes_so (seat_at opening.now session) guarded.buckets) its its.step (moving_at opening events session first its guarded.buckets became)

drops_between : (opening : World) (start : ℕ) (events : List Event) (session place : ℕ) (first its : SessionState) → guard.IsOpened opening.now start → HasBecome opening events session first its
    → session_latching its ≡ latching.DropsExclusive place → (is_moving_on its.seen.phase ≡ true) × (its.is_awake ≡ true)
drops_between opening start events session place first its guarded became drops =
    let moves = sitting_drops (seat_at opening.now session) (homes_so (seat_at opening.now session) guarded.buckets) its its.step place (moving_at opening events session first its guarded.buckets became) drops in
    (moves.0, awake_at opening events session first its became (λ asleep. moves.1 asleep.accepts_none))

-- ---- one session is between two versions, and another takes up prepare
pub enters_so : (before after : Seen) → enters_prepare before after ≡ true → (is_prepare after.phase ≡ true) × (is_prepare before.phase ≡ true → before.version.0 ≡ after.version.0 → ⊥)
enters_so before after e =
    let both = both_are (is_prepare after.phase) (not (is_prepare before.phase && before.version.0 == after.version.0)) e in
    (both.0, λ prepares same. by_test (is_prepare before.phase) (before.version.0 == after.version.0) prepares (let it : (before.version.0 == after.version.0) ≡ true = grind (arith, nat_tests, same) in it) (is_false _ both.1))
  where
    by_test : (a b : Bool) → a ≡ true → b ≡ true → (a && b) ≡ false → ⊥
    by_test true true one other none = cc
    by_test true false one other none = cc
    by_test false b one other none = cc

between_so : (low top : ℕ) (found : Option View) (view : View) → found ≡ Some view → ComesBetween of_version low top found → low ≤ view.version.0
between_so low top found view e between = let here : ComesBetween of_version low top (Some view) = subst (λ (x : Option View). ComesBetween of_version low top x) e between in here.0

module _ (paper_sound : PaperIsSound) (paper_floor : PaperHasFloor) (opening : World) (start : ℕ) (events : List Event) (guarded : guard.IsOpened opening.now start) (opens : OpensSeen opening.now) where
  moving_far : (number : Version) (stage : Stage) (session : ℕ) (was other : SessionState) → 0 < number.0 → HasBecome opening events session was other → HasFloor number stage (sight_of opening events session).view → is_moving_on other.seen.phase ≡ true → 2 ≤ stage_number stage
  moving_far number stage session was other some became floor moves =
      let saw = view_seen opening events session was other became in
      gone_on number stage (sight_of opening events session).view.phase (sight_of opening events session).view.version.0 some floor.low floor.rest (subst (λ (phase : Phase). is_moving_on phase ≡ true) saw.phase moves)

  pub rising : (session : ℕ) (first its : SessionState) (view : View) → HasBecome opening events session first its → (sight_of opening events session).coming ≡ Some view → (sight_of opening events session).view.version.0 ≤ view.version.0
  unfolding NoneIsAhead
  rising session first its view became e =
      let opened = opened_so opening events session first its became in
      let risen = life_rise opening session first events became.was opened (none_ahead opening.now opens.rests session first became.was) (life_staged opening start events guarded became.opened opens.rests).rises in
      let same : sight_of opening events session ≡ sight_in opening session first events = ap (sight_found opening events session) became.was in
      let between = subst (λ (x : Sight). ComesBetween of_version x.view.version.0 (phase_version (run opening events).now.words) x.coming) (sym same) risen.below.coming in
      between_so _ _ (sight_of opening events session).coming view e between

  conflict : (session other : ℕ) (first its was holder : SessionState) (place : ℕ) → HasBecome opening events session first its → HasBecome opening events other was holder
      → Adding (seat_at opening.now session).places (sight_of opening events session) its.seen its.requests its.catching place → is_moving_on holder.seen.phase ≡ true → holder.is_awake ≡ true → ⊥
  conflict session other first its was holder place became here adding moves awake =
      let lived = life_floored opening start events guarded became.opened opens paper_sound in
      let floor = has_floor opening start events lived.number lived.stage lived.p lived.its paper_floor other was holder here awake in
      let far = moving_far lived.number lived.stage other was holder lived.its.staged.fits.some here floor moves in
      let up : its.is_awake ≡ true = awake_at opening events session first its became (λ asleep. adding.waits asleep.none_wait) in
      let own = has_floor opening start events lived.number lived.stage lived.p lived.its paper_floor session first its became up in
      by_coming (sight_of opening events session).coming refl adding.takes lived.number lived.stage far (own.in_progress far) lived.p lived.its.sound lived.its.papers.base lived.its.papers.at
      (lived.its.life.sessions.there session first its became).comes (lived.its.life.sessions.there session first its became).coming
    where
      by_coming : (found : Option View) → (sight_of opening events session).coming ≡ found → IsTakenFrom found its.catching.seen → (number : Version) (stage : Stage) → 2 ≤ stage_number stage → 5 * number.0 + 1 ≤ rank_of (sight_of opening events session).view
          → (p : paper.Phasing) → paper.IsSound p → p.base ≡ 5 * number.0 → p.stage ≡ stage_number stage → p.sessions.comes session ≡ is_coming (sight_of opening events session).coming
          → ((view : View) → (sight_of opening events session).coming ≡ Some view → p.sessions.coming session ≡ paper_view view) → ⊥
      by_coming None e takes number stage far low p sound base at comes coming = absurd takes
      by_coming (Some view) e takes number stage far low p sound base at comes coming =
          let counts = sound.coming session (comes ∙ ap is_coming e) in
          let high = (subst (λ (v : paper.View). paper.Sees p v) (coming view e) counts).low in
          let entered = enters_so its.seen its.catching.seen adding.enters in
          let prepares : view.phase ≡ Prepare = prepare_is view.phase (subst (λ (phase : Phase). is_prepare phase ≡ true) takes.phase entered.0) in
          let top : rank Prepare view.version.0 ≤ 5 * number.0 + stage_number stage = subst (λ (phase : Phase). rank phase view.version.0 ≤ 5 * number.0 + stage_number stage) prepares (omega (arith, high, base, at)) in
          let saw = view_seen opening events session first its became in
          never_enters number stage (sight_of opening events session).view.phase (sight_of opening events session).view.version.0 view.version.0 far low top (rising session first its view became e)
          (λ prepare same. entered.1 (subst (λ (phase : Phase). is_prepare phase ≡ true) (sym saw.phase) prepare) (ap (λ (v : Version). v.0) saw.version ∙ same ∙ sym (ap (λ (v : Version). v.0) takes.version)))

  meets_at : (session place number : ℕ) (first its : SessionState) (cause : CatchCause) → Shows (run opening events).now (seen_by_latches opening events) → AreCounted (seen_by_latches opening events) → HasBecome opening events session first its
      → its.step ≡ CatchesUp cause → session_ask (seat_at opening.now session) its ≡ Add place number → is_exclusive (word_at (run opening events).now.words place) ≡ false
  unfolding sitting_ask
  meets_at session place number first its cause shows counted became at asks =
      let k : Seat = seat_at opening.now session in
      let knows : SittingMoving k (homes_so k guarded.buckets) its (CatchesUp cause) = subst (λ (step : Sitting). SittingMoving k (homes_so k guarded.buckets) its step) at (moving_at opening events session first its guarded.buckets became) in
      let takes : TakesUp (sight_of opening events session) its.catching its.catching.step = subst (λ (step : Sitting). IsComing (sight_of opening events session) its step) at (coming_seen opening events session first its became) in
      let asked : sitting_ask k its (CatchesUp cause) ≡ Add place number = subst (λ (step : Sitting). sitting_ask k its step ≡ Add place number) at asks in
      let adding = catch_adds k.places k.number (sight_of opening events session) its.seen its.requests its.catching its.catching.step place number knows takes asked in
      no_bit opening events place became.opened shows counted (subst (λ (p : Places). has_latch p place ≡ true) (sym (places_stay opening events)) adding.has)
      (λ other was holder here. (
        λ alone. let holds = alone_between opening start events other place was holder guarded here alone in conflict session other first its was holder place became here adding holds.0 holds.1,
        λ drops. let holds = drops_between opening start events other place was holder guarded here drops in conflict session other first its was holder place became here adding holds.0 holds.1,
      ))

abbrev pub ShowsLatches : Type 0
ShowsLatches = (opening : World) (events : List Event) → latches.IsOpened opening.now → Shows (run opening events).now (seen_by_latches opening events)

abbrev pub CountsLatches : Type 0
CountsLatches = (opening : World) (events : List Event) → latches.IsOpened opening.now → AreCounted (seen_by_latches opening events)

pub meets_none : PaperIsSound → PaperHasFloor → ShowsLatches → CountsLatches → MeetsNoneAlone
meets_none paper_sound paper_floor shows counted opening start events session place number first its cause guarded held opens became at asks =
    meets_at paper_sound paper_floor opening start events guarded opens session place number first its cause (shows opening events held) (counted opening events held) became at
    (subst (λ (k : Seat). session_ask k its ≡ Add place number) (same_seat opening events session) asks)

-- ---- by ranks
rank_between : (number : ℕ) (phase : Phase) (version : ℕ) → 0 < number → 5 * number ≤ rank phase version + 1 → is_moving_on phase ≡ true → IsBetween (rank phase version) version
rank_between number InProgress version some rest e = inl (omega (arith, some, rest))
rank_between number WaitPending version some rest e = inr (omega (arith, some, rest))
rank_between number Rest version some rest e = cc
rank_between number Prepare version some rest e = cc
rank_between number WaitFlush version some rest e = cc

pub alone_by_rank : PaperIsSound → PaperHasFloor → HoldsAloneByRank
alone_by_rank paper_sound paper_floor opening start events session place first its guarded opens became alone =
    let holds = alone_between opening start events session place first its guarded became alone in
    let lived = life_floored opening start events guarded became.opened opens paper_sound in
    let floor = has_floor opening start events lived.number lived.stage lived.p lived.its paper_floor session first its became holds.1 in
    let saw = view_seen opening events session first its became in
    let view : View = (sight_of opening events session).view in
    subst (λ (v : Version). IsBetween (rank_of view) v.0) (sym saw.version)
    (rank_between lived.number.0 view.phase view.version.0 lived.its.staged.fits.some floor.rest (subst (λ (phase : Phase). is_moving_on phase ≡ true) saw.phase holds.0))

-- ---- where a latch has bit 63
never_between : (number : Version) (stage : Stage) (phase : Phase) (version own : ℕ) → 0 < number.0 → 5 * own + 1 ≤ 5 * number.0 + stage_number stage → 5 * number.0 + stage_number stage ≤ 5 * own + 1 → 5 * number.0 ≤ 5 * own + 2
    → rank phase version ≤ 5 * number.0 + stage_number stage → 5 * number.0 ≤ rank phase version + 1 → is_moving_on phase ≡ true → ⊥
never_between number stage InProgress version own some up down near low rest e = let few = few_stages stage in omega (arith, few, some, up, down, near, low, rest)
never_between number stage WaitPending version own some up down near low rest e = let few = few_stages stage in omega (arith, few, some, up, down, near, low, rest)
never_between number stage Rest version own some up down near low rest e = cc
never_between number stage Prepare version own some up down near low rest e = cc
never_between number stage WaitFlush version own some up down near low rest e = cc

pub bit_past_prepare : PaperIsSound → PaperHasFloor → ShowsLatches → CountsLatches → BitIsPastPrepare
bit_past_prepare paper_sound paper_floor shows counted opening start events session place first its guarded held opens became awake prepares has bit = by_test (nat_lt (5 * its.seen.version.0 + 1) (rank_now opening events)) refl
  where
    lived : LifeFloored opening start events
    lived = life_floored opening start events guarded became.opened opens paper_sound

    top : rank_now opening events ≡ 5 * lived.number.0 + stage_number lived.stage
    top = staged_rank (run opening events).now lived.number lived.stage lived.its.staged

    own : HasFloor lived.number lived.stage (sight_of opening events session).view
    own = has_floor opening start events lived.number lived.stage lived.p lived.its paper_floor session first its became awake

    own_rank : rank_of (sight_of opening events session).view ≡ 5 * its.seen.version.0 + 1
    own_rank =
        let saw = view_seen opening events session first its became in
        let phase : (sight_of opening events session).view.phase ≡ Prepare = sym saw.phase ∙ prepare_is its.seen.phase prepares in
        ap (λ (x : Phase). rank x (sight_of opening events session).view.version.0) phase ∙ ap (λ (v : Version). 5 * v.0 + 1) (sym saw.version)

    none : rank_now opening events ≤ 5 * its.seen.version.0 + 1 → (other : ℕ) (was holder : SessionState) → HasBecome opening events other was holder → is_moving_on holder.seen.phase ≡ true → holder.is_awake ≡ true → ⊥
    none near other was holder here moves up =
        let floor = has_floor opening start events lived.number lived.stage lived.p lived.its paper_floor other was holder here up in
        let saw = view_seen opening events other was holder here in
        let view : View = (sight_of opening events other).view in
        let low = own.low in
        let rest = own.rest in
        never_between lived.number lived.stage view.phase view.version.0 its.seen.version.0 lived.its.staged.fits.some (omega (arith, low, own_rank)) (omega (arith, near, top)) (omega (arith, rest, own_rank)) floor.low floor.rest
        (subst (λ (phase : Phase). is_moving_on phase ≡ true) saw.phase moves)

    by_test : (b : Bool) → nat_lt (5 * its.seen.version.0 + 1) (rank_now opening events) ≡ b → 5 * its.seen.version.0 + 1 < rank_now opening events
    by_test true e = grind (arith, nat_tests, e)
    by_test false e =
        let near : rank_now opening events ≤ 5 * its.seen.version.0 + 1 = grind (arith, nat_tests, e) in
        let clear = no_bit opening events place became.opened (shows opening events held) (counted opening events held) has
        (λ other was holder here. (
          λ alone. let holds = alone_between opening start events other place was holder guarded here alone in none near other was holder here holds.0 holds.1,
          λ drops. let holds = drops_between opening start events other place was holder guarded here drops in none near other was holder here holds.0 holds.1,
        )) in
        let clash : true ≡ false = sym bit ∙ clear in
        cc
