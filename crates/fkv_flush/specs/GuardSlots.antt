-- Which event gives an action to a slot or takes one from it, and that the slot is empty then, or has it.
use Rattle.std.specs.Prelude.{◌≡◌, ◌≢◌, ℕ, ◌<◌, ◌&&◌, if◌then◌else◌, List, [], slice_get, Option, Some, None}
use Rattle.fkv_base.specs.Limits.{drain_slots}
use Rattle.fkv_plane.specs.declared.actions.Action.{Action}
use Rattle.fkv_plane.specs.declared.asks.Ask.{Ask}
use Rattle.fkv_plane.specs.declared.asks.Ask.TheVariants.{Put}
use Rattle.fkv_plane.specs.Plane.{action_at}
use Rattle.fkv_plane.specs.Asked.{reply_to}
use Rattle.fkv_epoch.specs.declared.raising.Raising.TheVariants as raise
use Rattle.fkv_epoch.specs.declared.claiming.Claiming.TheVariants as claim
use Rattle.fkv_epoch.specs.EpochWorld.{EpochMachine, Raises, Claims, Claimed, claimed_by}
use Rattle.fkv_epoch.specs.Held.{slot_held}
use Rattle.fkv_epoch.specs.Once.{Among, FindsAction}
use Rattle.fkv_log.specs.Shifting.{shift_ask, shift_next}
use Rattle.fkv_log.specs.Turning.{turn_ask, turn_next}
use Rattle.fkv_flush.specs.GuardCalm.{actor_of}
use Rattle.fkv_flush.specs.GuardWorld.{Actor, Work, Shifts, Turns, GuardNow, GuardWorld, GuardEvent, Moves, RaisesFor, is_idle, is_stored, epoch_now, epoch_world, guard_happens}

-- the slot that an action is put into, where that is asked
abbrev pub slot_put : {A : Type 0} → Ask A → Option ℕ
slot_put (Put slot action) = Some slot
slot_put ask = None

-- a move puts its action into its slot once it has raised the epoch
abbrev pub work_puts : GuardNow → Work → Option ℕ
work_puts n (Shifts s) = slot_put (shift_ask (shift_next n.shape s (reply_to n.words (shift_ask s))))
work_puts n (Turns s) = slot_put (turn_ask n.shape (turn_next n.shape s (reply_to n.words (turn_ask n.shape s))))
work_puts n work = None

abbrev pub raise_puts : EpochMachine → Option ℕ
raise_puts (Raises (raise.RaisesEpoch slot)) = Some slot
raise_puts machine = None

abbrev pub actor_puts : GuardNow → Option Actor → Option ℕ
actor_puts n None = None
actor_puts n (Some x) = if is_idle x.work then None else work_puts n x.work

abbrev pub raiser_puts : GuardNow → Action → Option Actor → Option ℕ
raiser_puts n action None = None
raiser_puts n action (Some x) = if is_idle x.work && is_stored n.words action then raise_puts x.machine else None

-- the slot that an event gives an action to
abbrev pub event_puts : GuardNow → GuardEvent → Option ℕ
event_puts n (Moves actor) = actor_puts n (slice_get n.actors actor)
event_puts n (RaisesFor actor action) = raiser_puts n action (slice_get n.actors actor)
event_puts n event = None

abbrev pub actor_claims : GuardNow → ℕ → Option Actor → List Claimed
actor_claims n actor None = []
actor_claims n actor (Some x) = if is_idle x.work then claimed_by (epoch_now n) actor x.machine else []

-- the claim that an event makes, where its Cas takes an armed slot
abbrev pub event_claims : GuardNow → GuardEvent → List Claimed
event_claims n (Moves actor) = actor_claims n actor (slice_get n.actors actor)
event_claims n event = []

-- the actor's machine of the epochs holds the slot
pub record IsHolder (n : GuardNow) (actor slot : ℕ) : Type 0 where
  pub x : Actor
  pub its_actor : slice_get n.actors actor ≡ Some x
  pub holds : slot_held x.machine ≡ Some slot

-- nobody but this actor holds the slot
abbrev pub NoOtherHolds : GuardNow → ℕ → ℕ → Type 0
NoOtherHolds n actor slot = (other : ℕ) → IsHolder n other slot → other ≡ actor

-- The event is one of an actor beside whom nobody holds the slot, and who holds it once the event has led on.
pub record MovesAction (n there : GuardNow) (event : GuardEvent) (slot : ℕ) : Type 0 where
  pub actor : ℕ
  pub its_actor : actor_of event ≡ Some actor
  pub alone : NoOtherHolds n actor slot
  pub holder : IsHolder there actor slot

-- A slot that gets an action is empty, and one that is taken has the action that was armed there. So nobody ever waits for one. Who moves the action of a
-- slot holds the slot then, and nobody else has held it.
pub record FindsSlots (w : GuardWorld) (event : GuardEvent) : Type 0 where
  pub puts : (slot : ℕ) → event_puts w.now event ≡ Some slot → action_at w.now.actions slot ≡ None
  pub within : (slot : ℕ) → event_puts w.now event ≡ Some slot → slot < drain_slots
  pub takes : (claimed : Claimed) → Among claimed (event_claims w.now event) → FindsAction (epoch_world w) claimed.slot claimed.epoch
  pub waits : (actor slot c safe : ℕ) (x : Actor) → slice_get w.now.actors actor ≡ Some x → ¬ (x.machine ≡ Claims (claim.Receives slot c safe))
  pub moves : (slot : ℕ) → action_at (guard_happens w event).now.actions slot ≢ action_at w.now.actions slot → MovesAction w.now (guard_happens w event).now event slot
