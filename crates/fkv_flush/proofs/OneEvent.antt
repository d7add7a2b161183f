-- One event of a known actor: all that it leads to is put beside the other actors as they are.
use Rattle.std.proofs.Common.{◌≡◌, ℕ, List, refl, sym, ap, subst, Bool, true, false, max}
use Rattle.std.specs.Prelude.{Option, Some, None, slice_get, slice_set, nat_le, ◌&&◌, if◌then◌else◌}
use Rattle.fkv_plane.specs.declared.actions.Action.{Action}
use Rattle.fkv_plane.specs.declared.places.SharedWord.TheVariants as one
use Rattle.fkv_plane.specs.declared.places.RecordWord.TheVariants as rec
use Rattle.fkv_plane.specs.Places.{shared_place, record_place}
use Rattle.fkv_plane.specs.Asked.{word_at, words_after, reply_to}
use Rattle.fkv_epoch.specs.declared.raising.Raising.TheVariants as raise
use Rattle.fkv_epoch.specs.declared.arming.Arming.TheVariants as arm
use Rattle.fkv_epoch.specs.Raising.{raise_ask}
use Rattle.fkv_epoch.specs.Arming.{arm_next}
use Rattle.fkv_epoch.specs.EpochWorld.{EpochMachine, Raises, Arms, is_at_rest, resumed_machine}
use Rattle.fkv_epoch.proofs.Shown.{some_same, none_some}
use Rattle.fkv_flush.specs.Flushing.{flush_done, bytes_done}
use Rattle.fkv_flush.specs.GuardWorld.{Actor, Work, Flushes, Serves, GuardNow, GuardNear, GuardEvent, Begins, Resumes, Moves, Calls, Reads, Sees, Publishes, Updates, RaisesReadOnly, RaisesFor, Changes, CallsElse, near, put_near, actor_step, guard_happens_now, is_idle, is_none, is_guarded, is_stored, may_work, started, mail_read, seen_with, called_by, read_by, raised_with}
use Rattle.fkv_flush.specs.GuardCalm.{actor_of}
use Rattle.fkv_flush.proofs.GuardSteps.{same_item}

-- where a call of the device leads
abbrev pub called_near : GuardNow → Bool → Actor → Work → GuardNear
called_near n done x (Flushes step bytes) = near n.words n.actions (record x { work = Flushes (flush_done n.shape.page step done) (bytes_done step bytes) })
called_near n done x work = near n.words n.actions x

-- where a read for a mailbox leads
abbrev pub read_near : GuardNow → Option (List ℕ) → Actor → Work → GuardNear
read_near n bytes x (Serves begin step) = near n.words n.actions (record x { work = Serves begin (mail_read step bytes) })
read_near n bytes x work = near n.words n.actions x

-- where the Add that raises the epoch leads
abbrev pub raised_near : GuardNow → Action → Actor → EpochMachine → GuardNear
raised_near n action x (Raises (raise.RaisesEpoch slot)) = near (words_after n.words (raise_ask (raise.RaisesEpoch slot))) (slice_set n.actions slot (Some action)) (record x { machine = Arms (arm_next (arm.PutsAction slot (reply_to n.words (raise_ask (raise.RaisesEpoch slot))))) })
raised_near n action x machine = near n.words n.actions x

-- where an event of the actor leads
abbrev pub event_near : GuardNow → GuardEvent → Actor → GuardNear
event_near n (Begins a task) x = near n.words n.actions (if is_at_rest x.machine && is_idle x.work && may_work n a x task then started n x task else x)
event_near n (Resumes a) x = near n.words n.actions (if is_idle x.work then record x { machine = resumed_machine x.machine } else x)
event_near n (Moves a) x = actor_step n a x
event_near n (Calls a done) x = called_near n done x x.work
event_near n (Reads a bytes) x = read_near n bytes x x.work
event_near n (Sees a sight) x = near n.words n.actions (if is_none x.undecided then record x { seen = seen_with x.seen (Some sight) n.words } else x)
event_near n (Publishes a) x = near n.words n.actions (if is_idle x.work then record x { undecided = None } else x)
event_near n (Updates a addr word) x = near (slice_set n.words (record_place n.places addr rec.Value) word) n.actions x
event_near n (RaisesReadOnly a to) x = near (if nat_le to (word_at n.words (shared_place one.Tail)) then slice_set n.words (shared_place one.ReadOnly) (max (word_at n.words (shared_place one.ReadOnly)) to) else n.words) n.actions x
event_near n (RaisesFor a action) x = if is_idle x.work && is_stored n.words action then raised_near n action x x.machine else near n.words n.actions x
event_near n (Changes a place word) x = near (if is_guarded n.places place then n.words else slice_set n.words place word) n.actions x
event_near n (CallsElse call) x = near n.words n.actions x

-- an actor that is put where it is
pub put_still : (n : GuardNow) (a : ℕ) (x : Actor) → slice_get n.actors a ≡ Some x → n ≡ put_near n a (near n.words n.actions x)
put_still n a x got = ap (λ (actors : List Actor). record n { actors = actors }) (sym (same_item n.actors a x got))

-- a test by which the actor goes on, or else is left as it is
either_actor : (n : GuardNow) (a : ℕ) (x x' : Actor) (b : Bool) → slice_get n.actors a ≡ Some x → (if b then put_near n a (near n.words n.actions x') else n) ≡ put_near n a (near n.words n.actions (if b then x' else x))
either_actor n a x x' true got = refl
either_actor n a x x' false got = put_still n a x got

-- a test by which a word is written, or else left as it is
either_words : (n : GuardNow) (a : ℕ) (x : Actor) (words : List ℕ) (b : Bool) → slice_get n.actors a ≡ Some x → (if b then put_near n a (near words n.actions x) else n) ≡ put_near n a (near (if b then words else n.words) n.actions x)
either_words n a x words true got = refl
either_words n a x words false got = put_still n a x got

else_words : (n : GuardNow) (a : ℕ) (x : Actor) (words : List ℕ) (b : Bool) → slice_get n.actors a ≡ Some x → (if b then n else put_near n a (near words n.actions x)) ≡ put_near n a (near (if b then n.words else words) n.actions x)
else_words n a x words true got = put_still n a x got
else_words n a x words false got = refl

either_near : (n m : GuardNow) (a : ℕ) (x : Actor) (here : GuardNear) (b : Bool) → slice_get n.actors a ≡ Some x → m ≡ put_near n a here → (if b then m else n) ≡ put_near n a (if b then here else near n.words n.actions x)
either_near n m a x here true got e = e
either_near n m a x here false got e = put_still n a x got

called_one : (n : GuardNow) (a : ℕ) (done : Bool) (x : Actor) (work : Work) → slice_get n.actors a ≡ Some x → called_by n a done x work ≡ put_near n a (called_near n done x work)
called_one n a done x (Flushes step bytes) got = refl
called_one n a done x work got = put_still n a x got

read_one : (n : GuardNow) (a : ℕ) (bytes : Option (List ℕ)) (x : Actor) (work : Work) → slice_get n.actors a ≡ Some x → read_by n a bytes x work ≡ put_near n a (read_near n bytes x work)
read_one n a bytes x (Serves begin step) got = refl
read_one n a bytes x work got = put_still n a x got

raised_one : (n : GuardNow) (a : ℕ) (action : Action) (x : Actor) (d : EpochMachine) → slice_get n.actors a ≡ Some x → raised_with n a action x d ≡ put_near n a (raised_near n action x d)
raised_one n a action x (Raises (raise.RaisesEpoch slot)) got = refl
raised_one n a action x d got = put_still n a x got

-- An event of an actor that there is.
pub one_event : (n : GuardNow) (event : GuardEvent) (a : ℕ) (x : Actor) → actor_of event ≡ Some a → slice_get n.actors a ≡ Some x → guard_happens_now n event ≡ put_near n a (event_near n event x)
one_event n (Begins b task) a x its got = let e = some_same b a its in rw (e, got) (either_actor n a x (started n x task) (is_at_rest x.machine && is_idle x.work && may_work n a x task) got)
one_event n (Resumes b) a x its got = let e = some_same b a its in rw (e, got) (either_actor n a x (record x { machine = resumed_machine x.machine }) (is_idle x.work) got)
one_event n (Moves b) a x its got = let e = some_same b a its in rw (e, got) refl
one_event n (Calls b done) a x its got = let e = some_same b a its in rw (e, got) (called_one n a done x x.work got)
one_event n (Reads b bytes) a x its got = let e = some_same b a its in rw (e, got) (read_one n a bytes x x.work got)
one_event n (Sees b sight) a x its got = let e = some_same b a its in rw (e, got) (either_actor n a x (record x { seen = seen_with x.seen (Some sight) n.words }) (is_none x.undecided) got)
one_event n (Publishes b) a x its got = let e = some_same b a its in rw (e, got) (either_actor n a x (record x { undecided = None }) (is_idle x.work) got)
one_event n (Updates b addr word) a x its got = let e = some_same b a its in rw (e, got) refl
one_event n (RaisesReadOnly b to) a x its got = let e = some_same b a its in rw (e, got) (either_words n a x (slice_set n.words (shared_place one.ReadOnly) (max (word_at n.words (shared_place one.ReadOnly)) to)) (nat_le to (word_at n.words (shared_place one.Tail))) got)
one_event n (RaisesFor b action) a x its got = let e = some_same b a its in rw (e, got) (either_near n _ a x (raised_near n action x x.machine) (is_idle x.work && is_stored n.words action) got (raised_one n a action x x.machine got))
one_event n (Changes b place word) a x its got = let e = some_same b a its in rw (e, got) (else_words n a x (slice_set n.words place word) (is_guarded n.places place) got)
one_event n (CallsElse call) a x its got = none_some {Y = n ≡ put_near n a (near n.words n.actions x)} a its

-- nor has an event of nobody that there is led to anything
no_event : (n : GuardNow) (event : GuardEvent) (a : ℕ) → actor_of event ≡ Some a → slice_get n.actors a ≡ None → guard_happens_now n event ≡ n
no_event n (Begins b task) a its got = let e = some_same b a its in rw (e, got) refl
no_event n (Resumes b) a its got = let e = some_same b a its in rw (e, got) refl
no_event n (Moves b) a its got = let e = some_same b a its in rw (e, got) refl
no_event n (Calls b done) a its got = let e = some_same b a its in rw (e, got) refl
no_event n (Reads b bytes) a its got = let e = some_same b a its in rw (e, got) refl
no_event n (Sees b sight) a its got = let e = some_same b a its in rw (e, got) refl
no_event n (Publishes b) a its got = let e = some_same b a its in rw (e, got) refl
no_event n (Updates b addr word) a its got = let e = some_same b a its in rw (e, got) refl
no_event n (RaisesReadOnly b to) a its got = let e = some_same b a its in rw (e, got) refl
no_event n (RaisesFor b action) a its got = let e = some_same b a its in rw (e, got) refl
no_event n (Changes b place word) a its got = let e = some_same b a its in rw (e, got) refl
no_event n (CallsElse call) a its got = refl

-- What holds as it is, and wherever an event of some actor leads, holds after the event.
pub each_event : (P : GuardNow → Type 0) (n : GuardNow) (event : GuardEvent) → P n
    → ((a : ℕ) (x : Actor) → actor_of event ≡ Some a → slice_get n.actors a ≡ Some x → P (put_near n a (event_near n event x)))
    → P (guard_happens_now n event)
each_event P n event still goes = by (actor_of event) refl
  where
    found : (a : ℕ) (x : Option Actor) → actor_of event ≡ Some a → slice_get n.actors a ≡ x → P (guard_happens_now n event)
    found a None its got = subst P (sym (no_event n event a its got)) still
    found a (Some x) its got = subst P (sym (one_event n event a x its got)) (goes a x its got)

    nobody : (event : GuardEvent) → actor_of event ≡ None → guard_happens_now n event ≡ n
    nobody (CallsElse call) e = refl
    nobody (Begins a task) e = cc
    nobody (Resumes a) e = cc
    nobody (Moves a) e = cc
    nobody (Calls a done) e = cc
    nobody (Reads a bytes) e = cc
    nobody (Sees a sight) e = cc
    nobody (Publishes a) e = cc
    nobody (Updates a addr word) e = cc
    nobody (RaisesReadOnly a to) e = cc
    nobody (RaisesFor a action) e = cc
    nobody (Changes a place word) e = cc

    by : (actor : Option ℕ) → actor_of event ≡ actor → P (guard_happens_now n event)
    by None its = subst P (sym (nobody event its)) still
    by (Some a) its = found a (slice_get n.actors a) its refl
