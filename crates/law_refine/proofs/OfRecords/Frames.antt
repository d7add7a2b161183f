-- A record that has a frame shows in it, and one that is flushed on the device.
use Rattle.std.proofs.Common.{◌≡◌, ℕ, ◌∙◌, sym, ap, arith, List, ◌≤◌, []}
use Rattle.std.specs.Prelude.{Some, slice_get}
use Rattle.fkv_base.specs.declared.shapes.Shape.{Shape}
use Rattle.fkv_disk.specs.Calls.{Call}
use Rattle.law_world.specs.Below.fkv_flush.GuardFlushed.{IsSynced}
use Rattle.law_world.specs.Below.fkv_flush.GuardLevels.{levels_of}
use Rattle.law_log.specs.Ghosts.{Ghosts, Log}
use Rattle.fkv_plane.specs.declared.places.Places.{Places}
use Rattle.fkv_plane.specs.Asked.{word_at}
use Rattle.fkv_plane.specs.Places.{record_place}
use Rattle.law_world.specs.Below.fkv_session.Sessions.{SessionState}
use Rattle.law_world.specs.Below.fkv_world.Runs.{World, run}
use Rattle.law_world.specs.Below.fkv_world.World.{Event, Now}
use Rattle.law_world.proofs.Below.fkv_world.Shown.{places_stay}
use Rattle.law_world.specs.Guarded.Shows.{IsOpened}
use Rattle.law_refine.specs.Events.GhostEvents.{life_ghosts}
use Rattle.law_refine.specs.Events.Reserved.{tail_at, IsUnbornFrom, ReservesNothing}
use Rattle.law_refine.proofs.OfEvents.Fixed.{life_rises}
use Rattle.law_refine.specs.Records.Cells.{StandsShowLog}
use Rattle.law_refine.specs.Records.Changes.{AreChangesPublished}
use Rattle.law_refine.specs.Records.Frames.{DeviceShowsLog, FindsFramed, FramesShow, FramesShowLog, IsAttempting}
use Rattle.law_refine.proofs.OfRecords.AppendRows.{Standing}
use Rattle.law_refine.proofs.OfRecords.FrameOwners.{sees_safely}
use Rattle.law_refine.proofs.OfRecords.Life.{life_shows_from}
use Rattle.law_refine.proofs.OfRecords.OneEvent.{same_shows}
use Rattle.law_refine.proofs.OfRecords.Standing.{life_order, limit_near, stands_in, stood}

pub frames_show : (opening : World) (start : ℕ) (events : List Event) → IsOpened opening.now start → FramesShow (run opening events).now (stands_in opening start events)
frames_show opening start events opened = λ a part framed.
    let n : Now = (run opening events).now in
    let places : n.places ≡ opening.now.places = places_stay opening events in
    let ring : n.places.ring ≡ opening.now.places.ring = ap (λ (p : Places). p.ring) places in
    let tail = (life_order opening start events opened).tail in
    let below = framed.below in
    let near = framed.near in
    ap (λ (p : Places). word_at n.words (record_place p a part)) places
    ∙ sym (stood opening start events a part opened (omega (arith, below, tail)) (omega (arith, near, ring)))

pub finds_framed : (opening : World) (start : ℕ) (events : List Event) (number : ℕ) (s : SessionState) → IsOpened opening.now start → slice_get (run opening events).now.sessions number ≡ Some s → FindsFramed (run opening events).now s
finds_framed opening start events number s opened found = λ attempts a above below.
    let n : Now = (run opening events).now in
    let ring : n.places.ring ≡ opening.now.places.ring = ap (λ (p : Places). p.ring) (places_stay opening events) in
    let head = (sees_safely opening start events number s opened found attempts).head in
    let near = limit_near opening start events a opened (omega (arith, head, above)) in
    record { below = below; near = omega (arith, near, ring) }

-- and no head that it has seen lies below the closed offset of the opening
pub head_above : (opening : World) (start : ℕ) (events : List Event) (number : ℕ) (s : SessionState) → IsOpened opening.now start → slice_get (run opening events).now.sessions number ≡ Some s → IsAttempting s.step → (levels_of opening.now.words).closed ≤ s.seen.offsets.head.0
unfolding run
head_above opening start events number s opened found attempts =
    let rises = (life_rises opening start [] events opened).closed in
    let head = (sees_safely opening start events number s opened found attempts).head in
    omega (arith, rises, head)

pub frames_show_log : (opening : World) (start low : ℕ) (ghosts : Ghosts) (events : List Event) → IsOpened opening.now start → IsUnbornFrom (tail_at opening.now) ghosts → ReservesNothing ghosts → AreChangesPublished opening ghosts events
    → low ≤ start → StandsShowLog low (stands_in opening start []) ghosts.log → FramesShowLog low (run opening events).now (life_ghosts opening ghosts events).log
frames_show_log opening start low ghosts events opened none free published small warm = λ a cell above framed e.
    same_shows (stands_in opening start events a) _ cell (λ part. frames_show opening start events opened a part framed) (life_shows_from opening start low ghosts events opened none free published small warm a cell above e)

-- what is synced as it stands shows the log
pub device_shows_log : (shape : Shape) (bytes : List ℕ) (calls : List Call) (stands : Standing) (start flushed : ℕ) (log : Log) → StandsShowLog start stands log → IsSynced shape bytes calls stands start flushed → DeviceShowsLog shape bytes calls start flushed log
device_shows_log shape opened calls stands start flushed log shows synced = λ bytes may a cell above below e. record { words = stands a; shows = shows a cell above e; there = synced.records bytes may a above below }
