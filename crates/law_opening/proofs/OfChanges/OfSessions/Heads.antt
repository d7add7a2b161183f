-- No head that a session has seen lies above what is flushed.
use Rattle.std.proofs.Common.{◌≡◌, ℕ, ◌≤◌, subst, arith, List}
use Rattle.std.specs.Prelude.{Some, slice_get}
use Rattle.law_refine.specs.Below.fkv_flush.Guarded.{seen_of}
use Rattle.law_refine.specs.Below.fkv_flush.GuardLevels.{levels_of}
use Rattle.law_refine.specs.Below.fkv_flush.GuardSeen.{LastSeen}
use Rattle.law_refine.specs.Below.fkv_flush.GuardWorld.{GuardWorld}
use Rattle.law_refine.specs.Below.law_world.GuardSessions.Likenesses.{last_seen}
use Rattle.law_refine.specs.Below.fkv_session.Sessions.{SessionState}
use Rattle.law_refine.specs.Below.fkv_world.Runs.{World, run}
use Rattle.law_refine.specs.Below.fkv_world.World.{Event}
use Rattle.law_refine.specs.Below.law_world.Guarded.Shows.{IsOpened, seen_by_guard}
use Rattle.law_refine.proofs.Below.law_world.OfGuarded.Worlds.{life_shows}
use Rattle.law_refine.proofs.OfRecords.FrameOwners.{seen_so}
use Rattle.law_refine.specs.Records.Frames.{IsAttempting}

-- ---- the head has come as far, and no further than what is flushed
pub head_flushed : (opening : World) (start : ℕ) (events : List Event) (session : ℕ) (s : SessionState) → IsOpened opening.now start → slice_get (run opening events).now.sessions session ≡ Some s → IsAttempting s.step
    → s.seen.offsets.head.0 ≤ (levels_of (run opening events).now.words).flushed
head_flushed opening start events session s opened found attempts =
    let w : GuardWorld = seen_by_guard opening start events in
    let shows = life_shows opening start events opened in
    let seat = shows.sessions session s found in
    let same : seen_of w.now.actors session ≡ last_seen s.seen = seen_so w session seat.actor s attempts seat.sits in
    let seen : (seen_of w.now.actors session).head ≤ (levels_of w.now.words).head = shows.sound.guard.safe.head_below session in
    let below : (levels_of w.now.words).head ≤ (levels_of w.now.words).flushed = shows.sound.guard.in_order.head_below in
    let flushed : (seen_of w.now.actors session).head ≤ (levels_of w.now.words).flushed = omega (arith, seen, below) in
    subst (λ (words : List ℕ). s.seen.offsets.head.0 ≤ (levels_of words).flushed) shows.words (subst (λ (its : LastSeen). its.head ≤ (levels_of w.now.words).flushed) same flushed)
