-- The steps of the engine's world over a device.
use Rattle.std.specs.Prelude.{⊤, ℕ, List, [], ◌∷◌, Option}
use Rattle.fkv_core.specs.Lives.{IsLedOn, LeadsOn}
use Rattle.fkv_core.specs.Openings.{beginning}
use Rattle.fkv_core.specs.declared.events.Told.{Told}
use Rattle.fkv_disk.specs.Device.{LeavesOnly}
use Rattle.law_paper.specs.Below.fkv_opening.TheOpened.{Opened}
use Rattle.law_refine.specs.Below.law_world.Standing.Opening.{AreNumbersInTurn}
use Rattle.law_refine.specs.Below.law_world.Standing.Standing.{IsOneInForce, TriplesStand}
use Rattle.law_refine.specs.Below.law_world.Keeper.Lives.{is_life_writing, life_standing, life_writing}
use Rattle.law_refine.specs.Below.fkv_world.OwnEvents.{keeper_events}
use Rattle.law_refine.specs.Below.fkv_world.Runs.{World, run}
use Rattle.law_refine.specs.Below.fkv_world.World.{Event, Now}
use Rattle.law_opening.specs.Lives.OpenedFrom.{IsOpenedFrom}

-- one step: the event that took place, what was told, and the world and the device behind it
pub record Step (D : Type 0) : Type 0 where
  pub event : Event
  pub told : Option Told
  pub now : Now
  pub device : D

-- their events; lists of steps have the newest first, as those of events do
abbrev pub events_of : {D : Type 0} → List (Step D) → List Event
events_of [] = []
events_of (step ∷ before) = step.event ∷ events_of before

-- the world and the device behind all of them
abbrev pub now_behind : {D : Type 0} → Now → List (Step D) → Now
now_behind n [] = n
now_behind n (step ∷ before) = step.now

abbrev pub device_behind : {D : Type 0} → D → List (Step D) → D
device_behind device [] = device
device_behind device (step ∷ before) = step.device

-- Each of them, taken where the one before it stood, goes on with every life of a store that was opened.
abbrev pub AllLeadOn : {D : Type 0} → (D → List ℕ) → (D → List ℕ → Type 0) → Now → D → List (Step D) → Type 0
AllLeadOn seen may_leave n device [] = ⊤
AllLeadOn seen may_leave n device (step ∷ before) =
    LeadsOn (now_behind n before) step.now step.event step.told (seen (device_behind device before)) (seen step.device) (may_leave (device_behind device before)) (may_leave step.device)
    × AllLeadOn seen may_leave n device before

-- each of them is an event of this life: the world that it shows, what it tells, and what the device reads as and may leave
abbrev pub AllLedOn : {D : Type 0} → (D → List ℕ) → (D → List ℕ → Type 0) → World → List (Step D) → Type 0
AllLedOn seen may_leave opening [] = ⊤
AllLedOn seen may_leave opening (step ∷ before) =
    IsLedOn (run opening (events_of before)) (run opening (step.event ∷ events_of before)) step.now step.told (seen step.device) (may_leave step.device)
    × AllLedOn seen may_leave opening before

-- The steps of a store that was opened from what a device reads as, which is all that a crash leaves of it: each goes on with every life, and each commit that
-- begins has the number behind the newest finished one's.
pub record AreStepsOfOpened {D : Type 0} (seen : D → List ℕ) (may_leave : D → List ℕ → Type 0) (o : Opened) (n : Now) (device : D) (steps : List (Step D)) : Type 0 where
  pub opened : IsOpenedFrom (seen device) o n
  pub synced : LeavesOnly (seen device) (may_leave device)
  pub lead_on : AllLeadOn seen may_leave n device steps
  pub in_turn : AreNumbersInTurn n.shape n.places n.keeper (keeper_events (beginning n (seen device)) (events_of steps))

-- One commit stands in this image behind the events of a life, where they have led to this world: the newest finished commit is in force, or, while the next
-- one is written, that one; and the triples of the checkpoint that the newest finished commit uses stand.
pub record OneCommitStands (opening : World) (events : List Event) (n : Now) (image : List ℕ) : Type 0 where
  pub commit : IsOneInForce (is_life_writing opening events) n.keeper.last (life_standing opening events) (life_writing opening events).first image
  pub triples : TriplesStand opening.now.shape n.keeper.last.checkpoint (life_standing opening events) image
