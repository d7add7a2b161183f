-- So in each life the updates that wait share their latches in prepare.
use Rattle.std.proofs.Common.{◌≡◌, sym, subst, true, false}
use Rattle.fkv_base.specs.declared.phases.Phase.{Phase}
use Rattle.fkv_base.specs.declared.phases.Phase.TheVariants.{Rest}
use Rattle.law_refine.specs.Below.fkv_ops.Trying.{is_prepare}
use Rattle.fkv_plane.specs.declared.asks.Ask.TheVariants.{Add}
use Rattle.law_refine.specs.Below.fkv_session.Catching.{Catching}
use Rattle.law_refine.specs.Below.fkv_session.Catching.TheVariants.{Ended, Finishes, Latches, Protects, Refreshes, StoresCut, StoresOwing}
use Rattle.law_refine.specs.Below.fkv_session.CatchCause.{CatchCause}
use Rattle.law_refine.specs.Below.fkv_session.Sitting.{Sitting}
use Rattle.law_refine.specs.Below.fkv_session.Sitting.TheVariants.{Idle, Attempts, CatchesUp, ClearsMail, Polls, StoresOwing as StoresOwingAt, Turns, StoresCut as StoresCutAt, Leaves, LoadsDurable}
use Rattle.law_refine.specs.Below.fkv_session.CatchingUp.{CatchState}
use Rattle.law_refine.specs.Below.fkv_session.SessionRun.{session_run}
use Rattle.law_refine.specs.Below.fkv_session.Sessions.{SessionState, Seat, is_busy, session_ask}
use Rattle.law_refine.specs.Below.fkv_session.Shares.{HasItsBuckets}
use Rattle.law_refine.proofs.Below.fkv_session.Shown.{StepLatched}
use Rattle.law_refine.specs.Below.fkv_world.OwnEvents.{session_events}
use Rattle.law_refine.specs.Below.fkv_world.World.{seat_at}
use Rattle.law_refine.proofs.Below.fkv_world.Shown.{same_seat}
use Rattle.law_refine.proofs.Below.law_world.OfSessions.OwnRun.{of_run, opened_so}
use Rattle.law_commit.specs.Floor.Stands.{PaperHasFloor, PaperIsSound}
use Rattle.law_commit.specs.Shares.Waiting.{ShareCatching, ShareSitting, SharesInPrepare}
use Rattle.law_commit.proofs.OfShares.Alone.{CountsLatches, ShowsLatches, meets_none}
use Rattle.law_commit.proofs.OfShares.Waiting.{life_latched}

pub opened_latched : (k : Seat) (its : HasItsBuckets k) (s : SessionState) (step : Sitting) → is_busy step ≡ false → s.seen.phase ≡ Rest → StepLatched k its s step
opened_latched k its s (Idle told) idle rest = λ prepare. let clash : is_prepare Rest ≡ true = subst (λ (phase : Phase). is_prepare phase ≡ true) rest prepare in cc
opened_latched k its s step idle rest = cc

catch_shares : (k : Seat) (its : HasItsBuckets k) (s : SessionState) (c : CatchState) (cause : CatchCause) (step : Catching) → StepLatched k its (record s { catching = record c { step = step } }) (CatchesUp cause)
    → ShareCatching (record s { catching = record c { step = step } }) step
catch_shares k its s c cause Refreshes holds = holds.1
catch_shares k its s c cause Protects holds = holds.1
catch_shares k its s c cause StoresCut holds = tt
catch_shares k its s c cause StoresOwing holds = tt
catch_shares k its s c cause (Latches i) holds = tt
catch_shares k its s c cause Finishes holds = holds
catch_shares k its s c cause Ended holds = holds

sits_sharing : (k : Seat) (its : HasItsBuckets k) (s : SessionState) (step : Sitting) → StepLatched k its s step → ShareSitting s step
sits_sharing k its s (Attempts has_shifted) holds = holds.all
sits_sharing k its s (Polls i) holds = holds.all
sits_sharing k its s (CatchesUp cause) holds = catch_shares k its s s.catching cause s.catching.step holds
sits_sharing k its s (Idle told) holds = holds
sits_sharing k its s ClearsMail holds = holds
sits_sharing k its s (StoresOwingAt i) holds = holds
sits_sharing k its s (Turns told) holds = holds
sits_sharing k its s StoresCutAt holds = holds
sits_sharing k its s Leaves holds = holds
sits_sharing k its s LoadsDurable holds = holds

pub shares_in_prepare : PaperIsSound → PaperHasFloor → ShowsLatches → CountsLatches → SharesInPrepare
shares_in_prepare paper_sound paper_floor shows counted opening start events session first its guarded held opens became none =
    let k : Seat = seat_at opening.now session in
    let opened = opened_so opening events session first its became in
    let began = opened_latched k guarded.buckets first first.step opened.none_in_hand (opens.seen session first became.was) in
    of_run (λ s. ShareSitting s s.step) opening events session first its became
    (sits_sharing k guarded.buckets (session_run k first (session_events opening session events)) (session_run k first (session_events opening session events)).step
    (life_latched opening session first became.was guarded.buckets
    (λ before s there cause place number at asks. meets_none paper_sound paper_floor shows counted opening start before session place number first s cause guarded held opens (record { opened = became.opened; was = became.was; is_now = there }) at
    (subst (λ (x : Seat). session_ask x s ≡ Add place number) (sym (same_seat opening before session)) asks))
    events began none))
