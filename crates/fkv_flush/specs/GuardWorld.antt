-- The world of the machines that write frames and move offsets: the words, the slots' actions, and what each actor is about.
-- Actors are numbered: the first are the sessions, and the others, as the keeper, are never protected.
use Rattle.std.specs.Prelude.{ℕ, ◌*◌, ◌==◌, ◌&&◌, ◌||◌, nat_lt, nat_le, not, max, if◌then◌else◌, Bool, true, false, List, [], ◌∷◌, map, slice_get, slice_set, Option, Some, None}
use Rattle.fkv_base.specs.declared.numbers.Addr.{Addr}
use Rattle.fkv_words.specs.declared.headers.Header.{Header}
use Rattle.fkv_disk.specs.Calls.{Call}
use Rattle.fkv_plane.specs.declared.actions.Action.{Action}
use Rattle.fkv_plane.specs.declared.actions.Action.TheVariants as act
use Rattle.fkv_plane.specs.declared.asks.Ask.{Ask}
use Rattle.fkv_plane.specs.declared.asks.Ask.TheVariants.{Done}
use Rattle.fkv_plane.specs.declared.asks.Ask.TheVariants as ask
use Rattle.fkv_base.specs.declared.shapes.Shape.{Shape}
use Rattle.fkv_plane.specs.declared.places.Places.{Places}
use Rattle.fkv_plane.specs.declared.places.SharedWord.TheVariants as one
use Rattle.fkv_plane.specs.declared.places.RecordWord.TheVariants as rec
use Rattle.fkv_plane.specs.Places.{shared_place, record_place, frames_start}
use Rattle.fkv_plane.specs.Asked.{word_at, words_after, reply_to}
use Rattle.fkv_log.specs.declared.record_words.RecordWords.{RecordWords}
use Rattle.fkv_log.specs.declared.reserving.ReserveAnswer.{ReserveAnswer}
use Rattle.fkv_log.specs.declared.reserving.ReserveAnswer.TheVariants as answer
use Rattle.fkv_log.specs.declared.reserving.Reserving.{Reserving}
use Rattle.fkv_log.specs.declared.reserving.Reserving.TheVariants as reserve
use Rattle.fkv_log.specs.declared.filling.Filling.{Filling}
use Rattle.fkv_log.specs.declared.filling.Filling.TheVariants as fill
use Rattle.fkv_log.specs.declared.invalidating.Invalidating.{Invalidating}
use Rattle.fkv_log.specs.declared.invalidating.Invalidating.TheVariants as invalidate
use Rattle.fkv_log.specs.declared.moving.Moving.{Moving}
use Rattle.fkv_log.specs.declared.shifting.Shifting.{Shifting}
use Rattle.fkv_log.specs.declared.shifting.Shifting.TheVariants as shift
use Rattle.fkv_log.specs.declared.turning.TurnForm.{TurnForm}
use Rattle.fkv_log.specs.declared.turning.Turning.{Turning}
use Rattle.fkv_log.specs.declared.turning.Turning.TheVariants as turn
use Rattle.fkv_log.specs.Moving.{Mover}
use Rattle.fkv_log.specs.Shifting.{ShiftState, shift_begun, shift_ask, shift_next}
use Rattle.fkv_log.specs.Turning.{TurnState, turn_begun, turn_ask, turn_next}
use Rattle.fkv_log.specs.Reserving.{reserve_ask, reserve_next, reserve_next_ask}
use Rattle.fkv_log.specs.Filling.{fill_ask, fill_next}
use Rattle.fkv_log.specs.Invalidating.{invalidate_ask, invalidate_next}
use Rattle.fkv_epoch.specs.declared.raising.Raising.TheVariants as raise
use Rattle.fkv_epoch.specs.declared.arming.Arming.TheVariants as arm
use Rattle.fkv_epoch.specs.Raising.{raise_ask}
use Rattle.fkv_epoch.specs.Arming.{arm_next}
use Rattle.fkv_epoch.specs.EpochWorld.{EpochMachine, Protects, Raises, Arms, Sight, OfReadOnly, OfPhase, OfHead, is_at_rest, may_begin, first_machine, resumed_machine, machine_step, is_own, own_epoch, sight_of, past_moved, past_seen, put_by}
use Rattle.fkv_epoch.specs.EpochWorld as epochs
use Rattle.fkv_flush.specs.declared.flushing.Flushing.{Flushing}
use Rattle.fkv_flush.specs.declared.flushing.Flushing.TheVariants as flush
use Rattle.fkv_flush.specs.declared.serving.Serving.{Serving}
use Rattle.fkv_flush.specs.declared.serving.Serving.TheVariants as serve
use Rattle.fkv_flush.specs.Flushing.{flush_ask, flush_next, flush_done, bytes_next, bytes_done}
use Rattle.fkv_flush.specs.Serving.{serve_ask, serve_next, serve_read, mailbox_from}
use Rattle.fkv_flush.specs.GuardAsks.{inner_of}
use Rattle.fkv_flush.specs.GuardLevels.{Levels, levels_of}
use Rattle.fkv_flush.specs.GuardSeen.{LastSeen}

-- The machine that an actor drives beside those of the epochs, and how far it has come.
pub data Work : Type 0 where
  Rests : Work
  Reserves : Reserving → Work
  Fills : Filling → Work
  Invalidates : Invalidating → Work
  Shifts : ShiftState → Work
  Turns : TurnState → Work
  -- with the bytes in hand
  Flushes : Flushing → List ℕ → Work
  -- in a log that begins at this address
  Serves : ℕ → Serving → Work

pub record Actor : Type 0 where
  -- the machine of the epochs that it drove last, by itself or inside its work
  pub machine : EpochMachine
  pub work : Work
  -- the offsets that it loaded last
  pub seen : LastSeen
  -- the address that it has reserved, as long as the record there is undecided
  pub undecided : Option ℕ

-- a machine that an actor begins
pub data GuardTask : Type 0 where
  -- one of the epochs
  ToDo : epochs.EpochTask → GuardTask
  -- an address below a bound, where there is one
  ToReserve : Option ℕ → GuardTask
  -- the record goes to the address that the actor has reserved
  ToFill : RecordWords → GuardTask
  -- the record that the actor has reserved is invalidated
  ToInvalidate : Header → GuardTask
  ToShift : GuardTask
  -- the next page is opened, or in a whole turn a frame set free for it, with the tail as it was loaded
  ToTurnPage : TurnForm → ℕ → GuardTask
  ToFlush : GuardTask
  -- in a log that begins at this address
  ToServe : ℕ → GuardTask

-- What may happen next. Those from `Sees` on are no step of these machines, but of whoever else works on the same words; each
-- happens only where it may, but for a change in place: that it is made where it may be is the premise of who makes it.
pub data GuardEvent : Type 0 where
  -- the actor begins a machine
  Begins : ℕ → GuardTask → GuardEvent
  -- the actor has done what its machine waits for, and lets it go on
  Resumes : ℕ → GuardEvent
  -- the actor makes its one ask, with the action that goes with it
  Moves : ℕ → GuardEvent
  -- the actor makes its call of the device, which succeeds or fails
  Calls : ℕ → Bool → GuardEvent
  -- the actor has these bytes read by the device, or the read fails
  Reads : ℕ → Option (List ℕ) → GuardEvent
  -- the session loads one of the values that it goes by, once more
  Sees : ℕ → Sight → GuardEvent
  -- the session's record is published, so that it is undecided no more
  Publishes : ℕ → GuardEvent
  -- the session changes the value of a record in place
  Updates : ℕ → ℕ → ℕ → GuardEvent
  -- the actor raises the read-only offset
  RaisesReadOnly : ℕ → ℕ → GuardEvent
  -- the actor raises the epoch, and gives the action to its slot
  RaisesFor : ℕ → Action → GuardEvent
  -- the actor changes some word that is none of those of these machines
  Changes : ℕ → ℕ → ℕ → GuardEvent
  -- some call of the device is made that touches no record
  CallsElse : Call → GuardEvent

-- what the Rust world has
pub record GuardNow : Type 0 where
  pub shape : Shape
  pub places : Places
  pub words : List ℕ
  pub actions : List (Option Action)
  pub actors : List Actor

pub record GuardWorld : Type 0 where
  pub now : GuardNow
  pub past : epochs.EpochPast

-- what the machines of the epochs see of this world
abbrev pub epoch_now : GuardNow → epochs.EpochNow
epoch_now n = record { sessions = n.places.sessions; words = n.words; actions = n.actions; actors = map (λ (x : Actor). x.machine) n.actors }

abbrev pub epoch_world : GuardWorld → epochs.EpochWorld
epoch_world w = record { now = epoch_now w.now; past = w.past }

abbrev pub levels : GuardWorld → Levels
levels w = levels_of w.now.words

abbrev pub shift_rests : Shifting → Bool
shift_rests shift.AtRest = true
shift_rests step = false

abbrev pub turn_rests : Turning → Bool
turn_rests turn.AtRest = true
turn_rests step = false

-- the machine beside those of the epochs is through
abbrev pub is_idle : Work → Bool
is_idle Rests = true
is_idle (Reserves reserve.AtRest) = true
is_idle (Fills fill.AtRest) = true
is_idle (Invalidates invalidate.AtRest) = true
is_idle (Shifts s) = shift_rests s.step
is_idle (Turns s) = turn_rests s.step
is_idle (Flushes flush.AtRest bytes) = true
is_idle (Serves begin serve.AtRest) = true
is_idle work = false

abbrev pub is_none : Option ℕ → Bool
is_none None = true
is_none (Some addr) = false

-- a session that is protected, and not in the middle of protecting itself or of refreshing
abbrev pub is_awake : GuardNow → ℕ → Actor → Bool
is_awake n actor x = nat_lt actor n.places.sessions && not (own_epoch n.words actor == 0) && is_at_rest x.machine

-- An actor with an undecided record neither refreshes nor leaves; a protected session alone reserves, fills and invalidates.
abbrev pub may_work : GuardNow → ℕ → Actor → GuardTask → Bool
may_work n actor x (ToDo epochs.ToProtect) = is_none x.undecided && may_begin (epoch_now n) actor epochs.ToProtect
may_work n actor x (ToDo epochs.ToRefresh) = is_none x.undecided && may_begin (epoch_now n) actor epochs.ToRefresh
may_work n actor x (ToDo epochs.ToLeave) = is_none x.undecided && may_begin (epoch_now n) actor epochs.ToLeave
may_work n actor x (ToDo task) = may_begin (epoch_now n) actor task
may_work n actor x (ToReserve bound) = is_none x.undecided && is_awake n actor x
may_work n actor x (ToFill its_words) = not (is_none x.undecided)
may_work n actor x (ToInvalidate header) = not (is_none x.undecided)
may_work n actor x task = true

abbrev pub address_of : Option ℕ → Addr
address_of None = record { 0 = 0 }
address_of (Some addr) = record { 0 = addr }

abbrev pub started : GuardNow → Actor → GuardTask → Actor
started n x (ToDo task) = record x { machine = first_machine task; work = Rests }
started n x (ToReserve bound) = record x { work = Reserves (reserve.LoadsLimit bound) }
started n x (ToFill its_words) = record x { work = Fills (fill.StoresValue (address_of x.undecided) its_words) }
started n x (ToInvalidate header) = record x { work = Invalidates (invalidate.StoresHeader (address_of x.undecided) header) }
started n x ToShift = record x { work = Shifts shift_begun }
started n x (ToTurnPage form tail) = record x { work = Turns (turn_begun form tail) }
started n x ToFlush = record x { work = Flushes flush.LoadsFlushed [] }
started n x (ToServe begin) = record x { work = Serves begin (mailbox_from n.shape.sessions 0) }

-- an actor and all that one of its steps touches
pub record GuardNear : Type 0 where
  pub words : List ℕ
  pub actions : List (Option Action)
  pub actor : Actor

abbrev pub near : List ℕ → List (Option Action) → Actor → GuardNear
near words actions actor = record { words = words; actions = actions; actor = actor }

abbrev pub with_actor : GuardNow → ℕ → Actor → GuardNow
with_actor n actor x = record n { actors = slice_set n.actors actor x }

abbrev pub put_near : GuardNow → ℕ → GuardNear → GuardNow
put_near n actor here = record n { words = here.words; actions = here.actions; actors = slice_set n.actors actor here.actor }

abbrev pub begun : GuardNow → ℕ → GuardTask → Option Actor → GuardNow
begun n actor task None = n
begun n actor task (Some x) = if is_at_rest x.machine && is_idle x.work && may_work n actor x task then with_actor n actor (started n x task) else n

abbrev pub resumed : GuardNow → ℕ → Option Actor → GuardNow
resumed n actor None = n
resumed n actor (Some x) = if is_idle x.work then with_actor n actor (record x { machine = resumed_machine x.machine }) else n

-- what the actor has seen after it loads this
abbrev pub seen_with : LastSeen → Option Sight → List ℕ → LastSeen
seen_with seen None words = seen
seen_with seen (Some OfPhase) words = seen
seen_with seen (Some OfReadOnly) words = record seen { read_only = word_at words (shared_place one.ReadOnly) }
seen_with seen (Some OfHead) words = record seen { head = word_at words (shared_place one.Head) }

-- one ask of the epochs' machine
abbrev pub epoch_step : GuardNow → ℕ → Actor → GuardNear
epoch_step n actor x = record {
  words = (machine_step n.places.sessions actor n.words n.actions x.machine).words;
  actions = (machine_step n.places.sessions actor n.words n.actions x.machine).actions;
  actor = record x { machine = (machine_step n.places.sessions actor n.words n.actions x.machine).machine; seen = seen_with x.seen (sight_of x.machine) n.words };
}

-- an address that the machine tells is the actor's
abbrev pub reserved_by : Option ℕ → Ask ReserveAnswer → Option ℕ
reserved_by before (Done (answer.Reserved addr)) = Some addr.0
reserved_by before ask = before

-- once the record is invalidated it is undecided no more
abbrev pub invalidated_by : Option ℕ → Invalidating → Option ℕ
invalidated_by before invalidate.AtRest = None
invalidated_by before (invalidate.StoresHeader addr header) = before

-- an action that is asked to be put goes into its slot at once
abbrev pub actions_after : {A : Type 0} → List (Option Action) → Ask A → List (Option Action)
actions_after actions (ask.Put slot action) = slice_set actions slot (Some action)
actions_after actions other = actions

-- and the machine goes on from there
abbrev pub after_put : {A X : Type 0} → Ask A → X → X → X
after_put (ask.Put slot action) once twice = twice
after_put other once twice = once

-- the machine of the epochs inside a move that it drove last
abbrev pub inner_machine : EpochMachine → Moving → Mover → EpochMachine
inner_machine machine before m = inner_of machine before m.step m.raising m.arming

-- What a machine with a move inside it has come to: where that asks to put an action, this goes into its slot and the machine goes on at once.
abbrev pub host_to : {A X : Type 0} → GuardNow → Actor → (X → Ask A) → (X → ℕ → X) → (X → Mover) → (X → Work) → X → X → GuardNear
host_to n x ask next mover work was there = near (words_after n.words (ask was)) (actions_after n.actions (ask there)) (record x {
  machine = inner_machine x.machine (mover was).step (mover (after_put (ask there) there (next there 0)));
  work = work (after_put (ask there) there (next there 0));
})

-- one ask of such a machine, and where the reply leads
abbrev pub host_step : {A X : Type 0} → GuardNow → Actor → (X → Ask A) → (X → ℕ → X) → (X → Mover) → (X → Work) → X → GuardNear
host_step n x ask next mover work was = host_to n x ask next mover work was (next was (reply_to n.words (ask was)))

abbrev pub shifted : GuardNow → Actor → ShiftState → GuardNear
shifted n x s = host_step n x shift_ask (shift_next n.shape) (λ (t : ShiftState). t.mover) Shifts s

abbrev pub turned : GuardNow → Actor → TurnState → GuardNear
turned n x s = host_step n x (turn_ask n.shape) (turn_next n.shape) (λ (t : TurnState). t.mover) Turns s

-- one ask of the actor's machine, by the machine's own tables
abbrev pub work_step : GuardNow → ℕ → Actor → Work → GuardNear
work_step n actor x Rests = epoch_step n actor x
work_step n actor x (Reserves step) = near (words_after n.words (reserve_ask step)) n.actions (record x {
  work = Reserves (reserve_next step (reply_to n.words (reserve_ask step)));
  undecided = reserved_by x.undecided (reserve_next_ask (n.shape.disk_pages * n.shape.page) step (reply_to n.words (reserve_ask step)));
})
work_step n actor x (Fills step) = near (words_after n.words (fill_ask n.places step)) n.actions (record x { work = Fills (fill_next step) })
work_step n actor x (Invalidates step) = near (words_after n.words (invalidate_ask n.places step)) n.actions (record x {
  work = Invalidates (invalidate_next step);
  undecided = invalidated_by x.undecided (invalidate_next step);
})
work_step n actor x (Shifts s) = shifted n x s
work_step n actor x (Turns s) = turned n x s
work_step n actor x (Flushes step bytes) = near (words_after n.words (flush_ask n.places step)) n.actions (record x { work = Flushes (flush_next n.shape.page step (reply_to n.words (flush_ask n.places step))) (bytes_next step bytes (reply_to n.words (flush_ask n.places step))) })
work_step n actor x (Serves begin step) = near (words_after n.words (serve_ask step)) n.actions (record x { work = Serves begin (serve_next n.shape.sessions begin step (reply_to n.words (serve_ask step))) })

abbrev pub actor_step : GuardNow → ℕ → Actor → GuardNear
actor_step n actor x = if is_idle x.work then epoch_step n actor x else work_step n actor x x.work

abbrev pub moved : GuardNow → ℕ → Option Actor → GuardNow
moved n actor None = n
moved n actor (Some x) = put_near n actor (actor_step n actor x)

-- the call of the device that a flush makes
abbrev pub called_by : GuardNow → ℕ → Bool → Actor → Work → GuardNow
called_by n actor done x (Flushes step bytes) = with_actor n actor (record x { work = Flushes (flush_done n.shape.page step done) (bytes_done step bytes) })
called_by n actor done x work = n

abbrev pub called : GuardNow → ℕ → Bool → Option Actor → GuardNow
called n actor done None = n
called n actor done (Some x) = called_by n actor done x x.work

-- a read for a mailbox. Where it fails the machine is at rest
abbrev pub mail_read : Serving → Option (List ℕ) → Serving
mail_read step None = serve.AtRest
mail_read step (Some bytes) = serve_read step bytes

abbrev pub read_by : GuardNow → ℕ → Option (List ℕ) → Actor → Work → GuardNow
read_by n actor bytes x (Serves begin step) = with_actor n actor (record x { work = Serves begin (mail_read step bytes) })
read_by n actor bytes x work = n

abbrev pub read : GuardNow → ℕ → Option (List ℕ) → Option Actor → GuardNow
read n actor bytes None = n
read n actor bytes (Some x) = read_by n actor bytes x x.work

-- the session's load of a value, once more: not while it has an undecided record
abbrev pub seen_again : GuardNow → ℕ → Sight → Option Actor → GuardNow
seen_again n actor sight None = n
seen_again n actor sight (Some x) = if is_none x.undecided then with_actor n actor (record x { seen = seen_with x.seen (Some sight) n.words }) else n

abbrev pub published : GuardNow → ℕ → Option Actor → GuardNow
published n actor None = n
published n actor (Some x) = if is_idle x.work then with_actor n actor (record x { undecided = None }) else n

-- a protected session that is about nothing else may change what is at or above the read-only offset that it has seen, and below the tail
abbrev pub may_update : GuardNow → ℕ → Actor → ℕ → Bool
may_update n actor x addr = is_awake n actor x && is_idle x.work && nat_le x.seen.read_only addr && nat_lt addr (word_at n.words (shared_place one.Tail))

-- the value's word in the record's frame is changed, also where that may not be
abbrev pub updated : GuardNow → ℕ → ℕ → ℕ → Option Actor → GuardNow
updated n actor addr word None = n
updated n actor addr word (Some x) = put_near n actor (near (slice_set n.words (record_place n.places addr rec.Value) word) n.actions x)

-- the read-only offset is raised no higher than the tail
abbrev pub read_only_raised : GuardNow → ℕ → ℕ → Option Actor → GuardNow
read_only_raised n actor to None = n
read_only_raised n actor to (Some x) = if nat_le to (word_at n.words (shared_place one.Tail)) then put_near n actor (near (slice_set n.words (shared_place one.ReadOnly) (max (word_at n.words (shared_place one.ReadOnly)) to)) n.actions x) else n

-- what an action raises another offset to is what this one was raised to before
abbrev pub is_stored : List ℕ → Action → Bool
is_stored words (act.SafeReadOnly addr) = nat_le addr.0 (word_at words (shared_place one.ReadOnly))
is_stored words (act.Close addr) = nat_le addr.0 (word_at words (shared_place one.Head))
is_stored words (act.Phase phase version) = true

-- the word is the epochs', an offset, or a frame's
abbrev pub is_guarded : Places → ℕ → Bool
is_guarded places place = is_own places.sessions place || nat_le 3 place && nat_lt place 10 || nat_le (frames_start places) place

abbrev pub changed : GuardNow → ℕ → ℕ → ℕ → Option Actor → GuardNow
changed n actor place word None = n
changed n actor place word (Some x) = if is_guarded n.places place then n else put_near n actor (near (slice_set n.words place word) n.actions x)

-- the Add that raises the epoch, and the action that goes with it
abbrev pub raised_with : GuardNow → ℕ → Action → Actor → EpochMachine → GuardNow
raised_with n actor action x (Raises (raise.RaisesEpoch slot)) = put_near n actor (near (words_after n.words (raise_ask (raise.RaisesEpoch slot))) (slice_set n.actions slot (Some action)) (record x { machine = Arms (arm_next (arm.PutsAction slot (reply_to n.words (raise_ask (raise.RaisesEpoch slot))))) }))
raised_with n actor action x machine = n

abbrev pub raised_for : GuardNow → ℕ → Action → Option Actor → GuardNow
raised_for n actor action None = n
raised_for n actor action (Some x) = if is_idle x.work && is_stored n.words action then raised_with n actor action x x.machine else n

-- the world after an event
abbrev pub guard_happens_now : GuardNow → GuardEvent → GuardNow
guard_happens_now n (Begins actor task) = begun n actor task (slice_get n.actors actor)
guard_happens_now n (Resumes actor) = resumed n actor (slice_get n.actors actor)
guard_happens_now n (Moves actor) = moved n actor (slice_get n.actors actor)
guard_happens_now n (Calls actor done) = called n actor done (slice_get n.actors actor)
guard_happens_now n (Reads actor bytes) = read n actor bytes (slice_get n.actors actor)
guard_happens_now n (Sees session sight) = seen_again n session sight (slice_get n.actors session)
guard_happens_now n (Publishes session) = published n session (slice_get n.actors session)
guard_happens_now n (Updates session addr word) = updated n session addr word (slice_get n.actors session)
guard_happens_now n (RaisesReadOnly actor to) = read_only_raised n actor to (slice_get n.actors actor)
guard_happens_now n (RaisesFor actor action) = raised_for n actor action (slice_get n.actors actor)
guard_happens_now n (Changes actor place word) = changed n actor place word (slice_get n.actors actor)
guard_happens_now n (CallsElse call) = n

abbrev pub shift_drives : Shifting → Bool
shift_drives (shift.Moves tail) = true
shift_drives step = shift_rests step

abbrev pub turn_drives : Turning → Bool
turn_drives turn.Moves = true
turn_drives step = turn_rests step

-- the actor drives a machine of the epochs, by itself or inside its work
abbrev pub drives_epochs : Work → Bool
drives_epochs (Shifts s) = shift_drives s.step
drives_epochs (Turns s) = turn_drives s.step
drives_epochs work = is_idle work

abbrev pub machine_moved : GuardNow → ℕ → epochs.EpochPast → Option Actor → epochs.EpochPast
machine_moved n actor past None = past
machine_moved n actor past (Some x) = if drives_epochs x.work then past_moved (epoch_now n) actor past (Some x.machine) else past

abbrev pub sight_moved : GuardNow → ℕ → Sight → epochs.EpochPast → Option Actor → epochs.EpochPast
sight_moved n actor sight past None = past
sight_moved n actor sight past (Some x) = if is_none x.undecided then past_seen (epoch_now n) actor sight past (Some x.machine) else past

abbrev pub past_after : GuardNow → GuardEvent → epochs.EpochPast → epochs.EpochPast
past_after n (Moves actor) past = machine_moved n actor past (slice_get n.actors actor)
past_after n (Sees session sight) past = sight_moved n session sight past (slice_get n.actors session)
past_after n event past = past

unfoldable pub guard_happens : GuardWorld → GuardEvent → GuardWorld
guard_happens w event = record { now = guard_happens_now w.now event; past = past_after w.now event w.past }

-- a whole run, the newest event first
unfoldable pub guard_run : GuardWorld → List GuardEvent → GuardWorld
guard_run opening [] = opening
guard_run opening (event ∷ before) = guard_happens (guard_run opening before) event
