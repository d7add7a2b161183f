-- When a session may hold a latch alone, and what a session never meets that takes up prepare.
use Rattle.std.specs.Prelude.{◌≡◌, ◌<◌, ℕ, true, false, List}
use Rattle.fkv_base.specs.declared.phases.Phase.TheVariants.{Prepare}
use Rattle.fkv_latch.specs.Latching.{is_exclusive}
use Rattle.fkv_latch.specs.LatchWorld.{has_latch, times}
use Rattle.law_refine.specs.Below.fkv_ops.Trying.{is_moving_on, is_prepare}
use Rattle.fkv_plane.specs.declared.asks.Ask.TheVariants.{Add}
use Rattle.fkv_plane.specs.Asked.{word_at}
use Rattle.law_refine.specs.Below.fkv_session.CatchCause.{CatchCause}
use Rattle.law_refine.specs.Below.fkv_session.Sitting.TheVariants.{CatchesUp}
use Rattle.law_refine.specs.Below.fkv_session.Sessions.{SessionState, session_ask}
use Rattle.law_refine.specs.Below.fkv_world.Opened.{HasBecome}
use Rattle.law_refine.specs.Below.fkv_world.Runs.{World, run}
use Rattle.law_refine.specs.Below.fkv_world.World.{Event, seat_at}
use Rattle.law_refine.specs.Below.law_world.Guarded.Shows as guard
use Rattle.law_paper.specs.Apart.{IsBetween}
use Rattle.law_refine.specs.Latches.Latchers.{session_alone}
use Rattle.law_refine.specs.Latches.Shows as latches
use Rattle.law_commit.specs.Floor.Stands.{OpensSeen}
use Rattle.law_commit.specs.Quiet.{rank_now}
use Rattle.law_commit.specs.Ranks.{rank}
use Rattle.law_commit.specs.Views.{rank_of, sight_of}

-- A session that holds a latch alone is awake, and goes by in-progress or wait-pending.
abbrev pub HoldsAloneBetween : Type 0
HoldsAloneBetween =
    (opening : World) (start : ℕ) (events : List Event) (session place : ℕ) (first its : SessionState) → guard.IsOpened opening.now start → HasBecome opening events session first its
    → 0 < times place (session_alone (run opening events).now.places its) → (is_moving_on its.seen.phase ≡ true) × (its.is_awake ≡ true)

-- So its view lies between its version and the one before.
abbrev pub HoldsAloneByRank : Type 0
HoldsAloneByRank =
    (opening : World) (start : ℕ) (events : List Event) (session place : ℕ) (first its : SessionState) → guard.IsOpened opening.now start → OpensSeen opening.now → HasBecome opening events session first its
    → 0 < times place (session_alone (run opening events).now.places its) → IsBetween (rank_of (sight_of opening events session).view) its.seen.version.0

-- Where a session that catches up adds to a word, the word has no bit 63. So each latch that it wants as it takes up prepare is shared by its one try.
abbrev pub MeetsNoneAlone : Type 0
MeetsNoneAlone =
    (opening : World) (start : ℕ) (events : List Event) (session place number : ℕ) (first its : SessionState) (cause : CatchCause) → guard.IsOpened opening.now start → latches.IsOpened opening.now → OpensSeen opening.now
    → HasBecome opening events session first its → its.step ≡ CatchesUp cause → session_ask (seat_at (run opening events).now session) its ≡ Add place number
    → is_exclusive (word_at (run opening events).now.words place) ≡ false

-- Where the word of a latch has bit 63, the phase word has come further than the prepare by which a live session goes.
abbrev pub BitIsPastPrepare : Type 0
BitIsPastPrepare =
    (opening : World) (start : ℕ) (events : List Event) (session place : ℕ) (first its : SessionState) → guard.IsOpened opening.now start → latches.IsOpened opening.now → OpensSeen opening.now → HasBecome opening events session first its
    → its.is_awake ≡ true → is_prepare its.seen.phase ≡ true → has_latch (run opening events).now.places place ≡ true → is_exclusive (word_at (run opening events).now.words place) ≡ true
    → rank Prepare its.seen.version.0 < rank_now opening events
