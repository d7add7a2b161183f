-- The guard: which steps may write frames and raise the limit, and what every step keeps.
use Rattle.std.specs.Prelude.{◌≡◌, ℕ, ◌+◌, ◌-◌, ◌*◌, ◌/◌, min, ◌<◌, ◌≤◌, ⊤, Bool, true, false, List, [], ◌∷◌, replicate, length, slice_get, Option, Some, None, if◌then◌else◌}
use Rattle.fkv_base.specs.Limits.{drain_slots}
use Rattle.fkv_base.specs.declared.shapes.Shape.{Shape}
use Rattle.fkv_plane.specs.declared.places.Places.{Places}
use Rattle.fkv_plane.specs.declared.places.RecordWord.{RecordWord}
use Rattle.fkv_plane.specs.Places.{shared_place, record_place, frames_start, word_count}
use Rattle.fkv_epoch.specs.declared.protecting.Protecting.TheVariants as protect
use Rattle.fkv_epoch.specs.declared.refreshing.Refreshing.TheVariants as refresh
use Rattle.fkv_epoch.specs.declared.leaving.Leaving.TheVariants as leave
use Rattle.fkv_epoch.specs.EpochWorld.{EpochMachine, Protects, Refreshes, Leaves, Sight, OfHead}
use Rattle.fkv_epoch.specs.Once as epochs
use Rattle.fkv_epoch.specs.Once.{Counts, opening_past}
use Rattle.fkv_flush.specs.GuardLevels.{levels_of}
use Rattle.fkv_flush.specs.GuardSeen.{LastSeen}
use Rattle.fkv_plane.specs.declared.places.SharedWord.TheVariants as one
use Rattle.fkv_plane.specs.declared.places.RecordWord.TheVariants as rec
use Rattle.fkv_log.specs.Reserving.{reserve_ask}
use Rattle.fkv_log.specs.Filling.{fill_ask}
use Rattle.fkv_log.specs.Invalidating.{invalidate_ask}
use Rattle.fkv_log.specs.Shifting.{shift_ask}
use Rattle.fkv_log.specs.Turning.{turn_ask}
use Rattle.fkv_flush.specs.Flushing.{flush_ask}
use Rattle.fkv_flush.specs.Serving.{serve_ask}
use Rattle.fkv_flush.specs.GuardAsks.{writes, machine_writes}
use Rattle.fkv_flush.specs.GuardWorld.{Actor, Work, Rests, Reserves, Fills, Invalidates, Shifts, Turns, Flushes, Serves, GuardNow, GuardWorld, GuardEvent, Moves, Updates, RaisesReadOnly, RaisesFor, Changes, is_idle, is_guarded, may_update, epoch_now, levels, guard_happens, guard_run}

abbrev pub seen_at : Option Actor → LastSeen
seen_at None = record { read_only = 0; head = 0 }
seen_at (Some x) = x.seen

-- what a session has seen
abbrev pub seen_of : List Actor → ℕ → LastSeen
seen_of actors session = seen_at (slice_get actors session)

abbrev pub undecided_at : Option Actor → Option ℕ
undecided_at None = None
undecided_at (Some x) = x.undecided

-- the address that a session has reserved, as long as its record is undecided
abbrev pub undecided_of : List Actor → ℕ → Option ℕ
undecided_of actors session = undecided_at (slice_get actors session)

-- The session is protected and goes by this value: it isn't in the middle of protecting itself, before its load of the value.
abbrev pub GoesBy : GuardNow → ℕ → Sight → Type 0
GoesBy n session sight = Counts (epoch_now n) session sight

-- the places of a store of this shape
pub record ArePlacesOf (shape : Shape) (places : Places) : Type 0 where
  pub sessions : places.sessions ≡ shape.sessions
  pub ring : places.ring ≡ shape.frames * shape.page

-- The store is just opened: all offsets but the limit stand where its records end, but for closed and head, which may lie below that: from there on the frames
-- have records. The pages up to the next after the end are open, as far as the device has them, and the frames hold what is below the limit.
pub record IsOpened (shape : Shape) (places : Places) (actors : ℕ) (words : List ℕ) (start : ℕ) : Type 0 where
  pub fits : ArePlacesOf shape places
  pub enough_words : word_count places ≤ length words
  pub epochs : epochs.IsOpened places.sessions actors words
  pub closed : (levels_of words).closed ≤ start
  pub head : (levels_of words).head ≡ (levels_of words).closed
  pub flushed : (levels_of words).flushed ≡ start
  pub safe_read_only : (levels_of words).safe_read_only ≡ start
  pub read_only : (levels_of words).read_only ≡ start
  pub tail : (levels_of words).tail ≡ start
  pub limit : (levels_of words).limit ≡ min (start / shape.page + 2) shape.disk_pages * shape.page
  pub tail_below : start ≤ (levels_of words).limit
  pub limit_below : (levels_of words).limit ≤ (levels_of words).closed + places.ring

-- an actor of a store that is just opened: at rest, and it has seen where the records end, and from where on the frames have them
abbrev pub first_actor : ℕ → ℕ → Actor
first_actor start closed = record { machine = Protects protect.AtRest; work = Rests; seen = record { read_only = start; head = closed }; undecided = None }

-- its world
abbrev pub opening : Shape → Places → ℕ → List ℕ → ℕ → GuardWorld
opening shape places actors words start = record {
  now = record { shape = shape; places = places; words = words; actions = replicate drain_slots None; actors = replicate actors (first_actor start (levels_of words).closed) };
  past = opening_past;
}

-- The frames hold all that may still be needed: closed is no further than the ring below the limit, and neither is what is flushed, nor what any
-- protected session that isn't in the middle of protecting itself has seen as the head.
pub record IsCovered (w : GuardWorld) : Type 0 where
  pub closed : (levels w).limit ≤ (levels w).closed + w.now.places.ring
  pub flushed : (levels w).limit ≤ (levels w).flushed + w.now.places.ring
  pub seen : (session : ℕ) → GoesBy w.now session OfHead → (levels w).limit ≤ (seen_of w.now.actors session).head + w.now.places.ring

-- its machine of the epochs is in the middle of no protecting, refreshing or leaving
abbrev pub is_steady : EpochMachine → Bool
is_steady (Protects protect.AtRest) = true
is_steady (Protects step) = false
is_steady (Refreshes refresh.AtRest) = true
is_steady (Refreshes step) = false
is_steady (Leaves leave.AtRest) = true
is_steady (Leaves step) = false
is_steady machine = true

-- A reserved record that is undecided belongs to a session that is protected and neither protects itself nor refreshes nor leaves, and the record is at or
-- above the read-only offset that it has seen. So it is at or above the safe read-only offset, and it is below the tail.
pub record UndecidedIsFresh (w : GuardWorld) : Type 0 where
  pub goes : (session addr : ℕ) (sight : Sight) → undecided_of w.now.actors session ≡ Some addr → GoesBy w.now session sight
  pub steady : (session addr : ℕ) (x : Actor) → slice_get w.now.actors session ≡ Some x → x.undecided ≡ Some addr → is_steady x.machine ≡ true
  pub seen : (session addr : ℕ) → undecided_of w.now.actors session ≡ Some addr → (seen_of w.now.actors session).read_only ≤ addr
  pub safe : (session addr : ℕ) → undecided_of w.now.actors session ≡ Some addr → (levels w).safe_read_only ≤ addr
  pub reserved : (session addr : ℕ) → undecided_of w.now.actors session ≡ Some addr → addr < (levels w).tail

-- while its record is undecided a session sees nothing new
abbrev pub KeepsSeen : GuardWorld → GuardEvent → Type 0
KeepsSeen w event = (session addr : ℕ) → undecided_of w.now.actors session ≡ Some addr → seen_of (guard_happens w event).now.actors session ≡ seen_of w.now.actors session

-- the place that an actor's machine may write next
abbrev pub work_writes : GuardNow → ℕ → Actor → Work → Option ℕ
work_writes n actor x Rests = machine_writes actor x.machine
work_writes n actor x (Reserves step) = writes (reserve_ask step)
work_writes n actor x (Fills step) = writes (fill_ask n.places step)
work_writes n actor x (Invalidates step) = writes (invalidate_ask n.places step)
work_writes n actor x (Shifts s) = writes (shift_ask s)
work_writes n actor x (Turns s) = writes (turn_ask n.shape s)
work_writes n actor x (Flushes step bytes) = writes (flush_ask n.places step)
work_writes n actor x (Serves begin step) = writes (serve_ask step)

abbrev pub actor_writes : GuardNow → ℕ → Option Actor → Option ℕ
actor_writes n actor None = None
actor_writes n actor (Some x) = if is_idle x.work then machine_writes actor x.machine else work_writes n actor x x.work

abbrev pub update_writes : GuardNow → ℕ → ℕ → Option Actor → Option ℕ
update_writes n actor addr None = None
update_writes n actor addr (Some x) = Some (record_place n.places addr rec.Value)

-- The place of the word that an event writes, if any. It counts also where the word stays as it was, as after a Cas that is lost.
abbrev pub event_writes : GuardNow → GuardEvent → Option ℕ
event_writes n (Moves actor) = actor_writes n actor (slice_get n.actors actor)
event_writes n (Updates session addr word) = update_writes n session addr (slice_get n.actors session)
event_writes n (RaisesReadOnly actor to) = Some (shared_place one.ReadOnly)
event_writes n (RaisesFor actor action) = Some (shared_place one.Epoch)
event_writes n (Changes actor place word) = if is_guarded n.places place then None else Some place
event_writes n event = None

-- A change in place is permitted where its session may make it, and each other event always.
abbrev pub IsPermittedEvent : GuardNow → GuardEvent → Type 0
IsPermittedEvent n (Updates session addr word) = (x : Actor) → slice_get n.actors session ≡ Some x → may_update n session x addr ≡ true
IsPermittedEvent n event = ⊤

-- in a whole run each event is permitted
abbrev pub ArePermittedEvents : GuardWorld → List GuardEvent → Type 0
ArePermittedEvents opening [] = ⊤
ArePermittedEvents opening (event ∷ before) = IsPermittedEvent (guard_run opening before).now event × ArePermittedEvents opening before

-- The place has a word of an open address, one of the last of the ring below the limit, which nobody flushes yet and which is reserved.
pub record IsOpenPlace (w : GuardWorld) (place : ℕ) : Type 0 where
  pub addr : ℕ
  pub word : RecordWord
  pub its_place : place ≡ record_place w.now.places addr word
  pub above : (levels w).limit ≤ addr + w.now.places.ring
  pub below : addr < (levels w).limit
  -- no other open address has the place
  pub alone : (other : ℕ) (its_word : RecordWord) → place ≡ record_place w.now.places other its_word → other < (levels w).limit → (levels w).limit ≤ other + w.now.places.ring → other ≡ addr
  pub safe : (levels w).safe_read_only ≤ addr
  pub reserved : addr < (levels w).tail

-- a step that writes a word of a frame writes one of an open place
abbrev pub GuardsWrites : GuardWorld → GuardEvent → Type 0
GuardsWrites w event = (place : ℕ) → event_writes w.now event ≡ Some place → frames_start w.now.places ≤ place → IsOpenPlace w place

-- A step that opens a page, the one at the limit, which is on the device: the Cas of the limit, to the start of the page after it. What is below the end of the page that
-- had its frame is flushed, and each protected session that isn't in the middle of protecting itself has seen a head at or above that.
pub record OpensPage (w : GuardWorld) (page : ℕ) : Type 0 where
  pub next : page ≡ (levels w).limit / w.now.shape.page
  pub on_device : page < w.now.shape.disk_pages
  pub flushed : (page + 1 - w.now.shape.frames) * w.now.shape.page ≤ (levels w).flushed
  pub seen : (session : ℕ) → GoesBy w.now session OfHead → (page + 1 - w.now.shape.frames) * w.now.shape.page ≤ (seen_of w.now.actors session).head

-- a step that raises the limit raises it to the end of a page that it may open
abbrev pub GuardsLimit : GuardWorld → GuardEvent → Type 0
GuardsLimit w event = (levels w).limit < (levels (guard_happens w event)).limit → (page : ℕ) × ((levels (guard_happens w event)).limit ≡ (page + 1) * w.now.shape.page) × OpensPage w page
