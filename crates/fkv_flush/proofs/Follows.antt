-- What a world above follows of one of this world's actors: its events, one after the other, and where they lead.
use Rattle.std.proofs.Common.{◌≡◌, ℕ, List, [], ◌∷◌, refl, ap, ◌∙◌, Bool, true, false, max}
use Rattle.std.specs.Prelude.{Option, Some, None, slice_get, slice_set, nat_le}
use Rattle.std.proofs.lemmas.List.{set-set}
use Rattle.fkv_plane.specs.declared.actions.Action.{Action}
use Rattle.fkv_plane.specs.declared.places.SharedWord.TheVariants as one
use Rattle.fkv_plane.specs.declared.places.RecordWord.TheVariants as rec
use Rattle.fkv_plane.specs.Places.{shared_place, record_place}
use Rattle.fkv_plane.specs.Asked.{word_at}
use Rattle.fkv_epoch.specs.EpochWorld.{EpochMachine, Sight, is_at_rest, resumed_machine}
use Rattle.fkv_epoch.proofs.Shown.{item_written}
use Rattle.fkv_flush.specs.declared.flushing.Flushing.{Flushing}
use Rattle.fkv_flush.specs.declared.serving.Serving.{Serving}
use Rattle.fkv_flush.specs.Flushing.{flush_done, bytes_done}
use Rattle.fkv_flush.specs.GuardSeen.{LastSeen}
use Rattle.fkv_flush.specs.GuardWorld.{Actor, Work, Flushes, Serves, GuardTask, GuardNow, GuardNear, GuardWorld, GuardEvent, Begins, Resumes, Moves, Calls, Reads, Sees, Publishes, Updates, RaisesReadOnly, RaisesFor, Changes, near, put_near, epoch_step, work_step, guard_happens_now, guard_happens, guard_run, is_idle, is_none, is_guarded, is_stored, may_work, started, mail_read, seen_with}
use Rattle.fkv_flush.proofs.OneEvent.{event_near, called_near, read_near, raised_near, one_event}

-- the world after a list of events, the newest first
abbrev pub runs_now : GuardNow → List GuardEvent → GuardNow
runs_now n [] = n
runs_now n (event ∷ before) = guard_happens_now (runs_now n before) event

-- it is that of a run
pub run_now : (w : GuardWorld) (events : List GuardEvent) → (guard_run w events).now ≡ runs_now w.now events
unfolding guard_run guard_happens
run_now w [] = refl
run_now w (event ∷ before) = ap (λ (n : GuardNow). guard_happens_now n event) (run_now w before)

-- what was put once is put over by what is put after it
pub put_twice : (n : GuardNow) (a : ℕ) (g h : GuardNear) → put_near (put_near n a g) a h ≡ put_near n a h
put_twice n a g h = ap (λ (actors : List Actor). record n { words = h.words; actions = h.actions; actors = actors }) (set-set n.actors a g.actor h.actor)

-- the actor that was put is there
pub put_there : (n : GuardNow) (a : ℕ) (x : Actor) (h : GuardNear) → slice_get n.actors a ≡ Some x → slice_get (put_near n a h).actors a ≡ Some h.actor
put_there n a x h got = item_written n.actors a x h.actor got

-- a first event, and one more
pub goes_first : (n : GuardNow) (a : ℕ) (event : GuardEvent) (h : GuardNear) → guard_happens_now n event ≡ put_near n a h → runs_now n (event ∷ []) ≡ put_near n a h
goes_first n a event h e = e

pub goes_on : (n : GuardNow) (a : ℕ) (event : GuardEvent) (before : List GuardEvent) (g h : GuardNear) → runs_now n before ≡ put_near n a g → guard_happens_now (put_near n a g) event ≡ put_near (put_near n a g) a h
    → runs_now n (event ∷ before) ≡ put_near n a h
goes_on n a event before g h led next = ap (λ (m : GuardNow). guard_happens_now m event) led ∙ (next ∙ put_twice n a g h)

-- Each event of an actor that there is, where it may happen.
module _ (n : GuardNow) (a : ℕ) (x : Actor) (got : slice_get n.actors a ≡ Some x) where
  abbrev Leads : GuardEvent → GuardNear → Type 0
  Leads event here = guard_happens_now n event ≡ put_near n a here

  leads : (event : GuardEvent) (here : GuardNear) → event_near n event x ≡ here → guard_happens_now n event ≡ put_near n a (event_near n event x) → Leads event here
  leads event here same e = e ∙ ap (put_near n a) same

  pub begins : (task : GuardTask) → is_at_rest x.machine ≡ true → is_idle x.work ≡ true → may_work n a x task ≡ true → Leads (Begins a task) (near n.words n.actions (started n x task))
  begins task rests idle may = leads (Begins a task) _ (rw (rests, idle, may) refl) (one_event n (Begins a task) a x refl got)

  pub resumes : is_idle x.work ≡ true → Leads (Resumes a) (near n.words n.actions (record x { machine = resumed_machine x.machine }))
  resumes idle = leads (Resumes a) _ (rw idle refl) (one_event n (Resumes a) a x refl got)

  -- an ask of its machine of the epochs
  pub moves_machine : is_idle x.work ≡ true → Leads (Moves a) (epoch_step n a x)
  moves_machine idle = leads (Moves a) _ (rw idle refl) (one_event n (Moves a) a x refl got)

  -- an ask of its work
  pub moves_work : (work : Work) → x.work ≡ work → is_idle work ≡ false → Leads (Moves a) (work_step n a x work)
  moves_work work its busy = leads (Moves a) _ (rw (its, busy) refl) (one_event n (Moves a) a x refl got)

  -- its flush's call of the device
  pub calls : (step : Flushing) (bytes : List ℕ) (done : Bool) → x.work ≡ Flushes step bytes → Leads (Calls a done) (near n.words n.actions (record x { work = Flushes (flush_done n.shape.page step done) (bytes_done step bytes) }))
  calls step bytes done its = leads (Calls a done) _ (ap (called_near n done x) its) (one_event n (Calls a done) a x refl got)

  -- the read for a mailbox
  pub reads : (begin : ℕ) (step : Serving) (bytes : Option (List ℕ)) → x.work ≡ Serves begin step → Leads (Reads a bytes) (near n.words n.actions (record x { work = Serves begin (mail_read step bytes) }))
  reads begin step bytes its = leads (Reads a bytes) _ (ap (read_near n bytes x) its) (one_event n (Reads a bytes) a x refl got)

  pub sees : (sight : Sight) → is_none x.undecided ≡ true → Leads (Sees a sight) (near n.words n.actions (record x { seen = seen_with x.seen (Some sight) n.words }))
  sees sight none = leads (Sees a sight) _ (rw none refl) (one_event n (Sees a sight) a x refl got)

  pub publishes : is_idle x.work ≡ true → Leads (Publishes a) (near n.words n.actions (record x { undecided = None }))
  publishes idle = leads (Publishes a) _ (rw idle refl) (one_event n (Publishes a) a x refl got)

  pub updates : (addr word : ℕ) → Leads (Updates a addr word) (near (slice_set n.words (record_place n.places addr rec.Value) word) n.actions x)
  updates addr word = one_event n (Updates a addr word) a x refl got

  pub raises_read_only : (to : ℕ) → nat_le to (word_at n.words (shared_place one.Tail)) ≡ true
      → Leads (RaisesReadOnly a to) (near (slice_set n.words (shared_place one.ReadOnly) (max (word_at n.words (shared_place one.ReadOnly)) to)) n.actions x)
  raises_read_only to may = leads (RaisesReadOnly a to) _ (rw may refl) (one_event n (RaisesReadOnly a to) a x refl got)

  pub raises_for : (action : Action) → is_idle x.work ≡ true → is_stored n.words action ≡ true → Leads (RaisesFor a action) (raised_near n action x x.machine)
  raises_for action idle stored = leads (RaisesFor a action) _ (rw (idle, stored) refl) (one_event n (RaisesFor a action) a x refl got)

  pub changes : (place word : ℕ) → is_guarded n.places place ≡ false → Leads (Changes a place word) (near (slice_set n.words place word) n.actions x)
  changes place word outer = leads (Changes a place word) _ (rw outer refl) (one_event n (Changes a place word) a x refl got)

-- What a state of a world above shows of its actor: the machine of the epochs and the work that it is at, or none, where they are any that are
-- through; what it has seen; and its undecided address.
pub record Likeness : Type 0 where
  pub machine : Option EpochMachine
  pub work : Option Work
  pub seen : LastSeen
  pub undecided : Option ℕ

abbrev pub FitsMachine : Option EpochMachine → EpochMachine → Type 0
FitsMachine None machine = is_at_rest machine ≡ true
FitsMachine (Some its) machine = machine ≡ its

abbrev pub FitsWork : Option Work → Work → Type 0
FitsWork None work = is_idle work ≡ true
FitsWork (Some its) work = work ≡ its

-- the actor is such a one
pub record Fits (shown : Likeness) (x : Actor) : Type 0 where
  pub machine : FitsMachine shown.machine x.machine
  pub work : FitsWork shown.work x.work
  pub seen : x.seen ≡ shown.seen
  pub undecided : x.undecided ≡ shown.undecided

-- The events lead the actor to one that is like this, with these words and these actions.
pub record Follows (n : GuardNow) (a : ℕ) (events : List GuardEvent) (shown : Likeness) (words : List ℕ) (actions : List (Option Action)) : Type 0 where
  pub actor : Actor
  pub same : runs_now n events ≡ put_near n a (near words actions actor)
  pub fits : Fits shown actor
