-- What a life begins with, beside the log of the order law.
use Rattle.std.specs.Prelude.{◌≡◌, ℕ, ◌<◌, ◌≤◌, List, slice_get, Some}
use Rattle.fkv_map.specs.Map.{Map}
use Rattle.law_opening.specs.Changes.Images.{IsInImage}
use Rattle.law_opening.specs.Changes.Laws.{begin_at}
use Rattle.law_commit.specs.Floor.Stands.{OpensSeen}
use Rattle.law_commit.specs.Below.fkv_session.Sessions.{SessionState}
use Rattle.law_log.specs.Begins.{IsAbove}
use Rattle.law_log.specs.Chains.{Cell, Published}
use Rattle.law_log.specs.Ghosts.{Ghosts}
use Rattle.law_log.specs.Enabled as order
use Rattle.law_commit.specs.Below.fkv_world.Opened.{IsOpenedWorld}
use Rattle.law_commit.specs.Below.fkv_world.Runs.{World, run}
use Rattle.law_commit.specs.Below.fkv_world.World.{Event, Now}
use Rattle.law_commit.specs.Below.law_world.Guarded.OpenedStore.{IsOpenedStore}
use Rattle.law_commit.specs.Below.law_refine.Heads.Heads.{LeadToHeads}
use Rattle.law_commit.specs.Below.law_refine.Index.Shows as index
use Rattle.law_commit.specs.Below.law_refine.Mail.Shows as mail
use Rattle.law_commit.specs.Below.law_refine.Events.GhostEvents.{home_in, safe_at}
use Rattle.law_commit.specs.Below.law_refine.Events.Reserved.{IsUnbornFrom, ReservesNothing, tail_at}
use Rattle.law_commit.specs.Below.law_refine.Records.Warm.{MemoryShowsLog}
use Rattle.law_order.specs.Swept.Valid.{IsValidThere}

-- the home of a key in the store of a world
abbrev pub home_of_world : World → ℕ → ℕ
home_of_world w = home_in w.now.shape.bucket_bits

-- the address at which its log begins
abbrev pub begin_in : World → ℕ
begin_in w = begin_at w.now

-- no commit that was finished since has moved it
abbrev pub BeginStays : World → List Event → Type 0
BeginStays opening events = begin_in (run opening events) ≡ begin_in opening

-- each session has it as its floor
abbrev pub GoByBegin : World → Type 0
GoByBegin w = (session : ℕ) (s : SessionState) → slice_get w.now.sessions session ≡ Some s → s.floor ≡ w.now.keeper.last.begin

-- The scan of the newest finished commit's checkpoint begins at or above the log's begin, and not above the tail. That checkpoint is no newer than the commit.
pub record OpensItsScan (n : Now) : Type 0 where
  pub before_scan : n.keeper.last.begin.0 ≤ n.keeper.last.checkpoint.first.0
  pub below_tail : n.keeper.last.checkpoint.first.0 ≤ tail_at n
  pub no_newer : n.keeper.last.checkpoint.number.0 ≤ n.keeper.last.number.0

-- A store was just opened, with its records' end at `start`: to the engine, the guard, the index (whose overflow buckets follow in these lists) and each
-- mailbox. It rests, as each session has seen. The log is one with which the order law begins, from a map and in a version of its own; it has fixed what lies below the
-- safe read-only offset, its chains begin where the entries of the index lead, memory has its records from the closed offset up, and the image that the device
-- holds has each of them, and says of none that it was given up. None lies below the address at which the log begins, by which each session goes. Nor does a
-- scan begin there.
pub record BeginsLife (opening : World) (start : ℕ) (lists : ℕ → List ℕ) (m : Map) (number : ℕ) (ghosts : Ghosts) : Type 0 where
  pub world : IsOpenedWorld opening
  pub store : IsOpenedStore opening start
  pub index : index.IsOpened opening lists
  pub mailboxes : (session : ℕ) → session < opening.now.places.sessions → mail.IsOpened opening.now session
  pub rests : OpensSeen opening.now
  pub log : order.IsOpened (home_of_world opening) m number ghosts
  pub fixed : ghosts.log.fixed ≡ safe_at opening.now
  pub unborn : IsUnbornFrom (tail_at opening.now) ghosts
  pub reserves : ReservesNothing ghosts
  pub heads : LeadToHeads opening.now lists ghosts.log
  pub warm : MemoryShowsLog opening start ghosts.log
  pub device : (a : ℕ) (cell : Cell) → ghosts.log.cells a ≡ Published cell → IsInImage (begin_in opening) opening.now.shape opening.past.opened a cell
  pub valid : (a : ℕ) (cell : Cell) → ghosts.log.cells a ≡ Published cell → IsValidThere opening.now.shape opening.past.opened a
  pub above : IsAbove (begin_in opening) ghosts.log
  pub some_begin : 1 ≤ begin_in opening
  pub before_end : begin_in opening ≤ start
  pub scan : OpensItsScan opening.now
  pub floors : GoByBegin opening

-- A life as the order law begins it: its world, where its records end, and its overflow buckets. Beside it stands the log, with the map from which that begins
-- and the number of the map's version.
pub record BegunLife : Type 0 where
  pub opening : World
  pub start : ℕ
  pub lists : ℕ → List ℕ
  pub map : Map
  pub number : ℕ
  pub ghosts : Ghosts
  pub begins : BeginsLife opening start lists map number ghosts
