-- Who writes the words of a mailbox: no step but those that serve it, and changes from outside.
use Rattle.std.proofs.Common.{◌≡◌, ◌≢◌, ℕ, ◌<◌, ◌≤◌, ◌⊎◌, List, length, refl, ap, subst, arith, inl, inr, ◌∙◌, Bool, true, false}
use Rattle.std.specs.Prelude.{Option, Some, None, ⊤, slice_get, slice_set}
use Rattle.fkv_plane.specs.declared.places.SessionWord.TheVariants as own
use Rattle.fkv_plane.specs.Places.{session_place}
use Rattle.fkv_plane.specs.Asked.{word_at}
use Rattle.fkv_log.specs.declared.reserving.Reserving.TheVariants as reserve
use Rattle.fkv_log.specs.declared.filling.Filling.TheVariants as fill
use Rattle.fkv_log.specs.declared.invalidating.Invalidating.TheVariants as invalidate
use Rattle.fkv_log.specs.Reserving.{reserve_ask}
use Rattle.fkv_log.specs.Filling.{fill_ask}
use Rattle.fkv_log.specs.Invalidating.{invalidate_ask}
use Rattle.fkv_epoch.specs.declared.raising.Raising.{Raising}
use Rattle.fkv_epoch.specs.declared.arming.Arming.{Arming}
use Rattle.fkv_epoch.specs.declared.arming.Arming.TheVariants as arm
use Rattle.fkv_epoch.specs.Raising.{raise_ask}
use Rattle.fkv_epoch.specs.Arming.{arm_ask}
use Rattle.fkv_epoch.specs.EpochWorld.{EpochMachine, Raises, Arms}
use Rattle.fkv_epoch.proofs.Shown.{word_spared, word_written}
use Rattle.fkv_log.specs.declared.moving.Offset.{Offset}
use Rattle.fkv_log.specs.declared.moving.Offset.TheVariants.{ReadOnly, Head}
use Rattle.fkv_log.specs.declared.moving.Moving.{Moving}
use Rattle.fkv_log.specs.declared.moving.Moving.TheVariants as move
use Rattle.fkv_log.specs.declared.shifting.Shifting.{Shifting}
use Rattle.fkv_log.specs.declared.shifting.Shifting.TheVariants as shift
use Rattle.fkv_log.specs.declared.turning.Turning.{Turning}
use Rattle.fkv_log.specs.declared.turning.Turning.TheVariants as turn
use Rattle.fkv_flush.specs.declared.flushing.Flushing.TheVariants as flush
use Rattle.fkv_log.specs.Moving.{Mover, offset_place, move_ask, moving_ask}
use Rattle.fkv_log.specs.Shifting.{shift_at, shift_ask, shifting_ask}
use Rattle.fkv_log.specs.Turning.{turn_at, turn_ask, turning_ask}
use Rattle.fkv_flush.specs.Flushing.{flush_ask}
use Rattle.fkv_flush.specs.GuardAsks.{writes, machine_writes}
use Rattle.fkv_flush.specs.GuardLevels.{levels_of}
use Rattle.fkv_flush.specs.GuardMail.{Mailbox, mailbox_of}
use Rattle.fkv_flush.specs.GuardWorld.{Actor, Work, Rests, Reserves, Fills, Invalidates, Shifts, Turns, Flushes, Serves, GuardWorld, GuardEvent, Moves, Updates, RaisesReadOnly, RaisesFor, Changes, is_idle, epoch_world, guard_happens}
use Rattle.fkv_flush.specs.Guarded.{work_writes, update_writes, event_writes}
use Rattle.fkv_flush.proofs.GuardEpochs.{Spares, OwnAt, own_writes}
use Rattle.fkv_flush.proofs.GuardSound.{MoveKnows, IsSound, machine_at}
use Rattle.fkv_flush.proofs.GuardWorks.{truth, Known}
use Rattle.fkv_flush.proofs.GuardWrites.{writes_passed}
use Rattle.fkv_flush.proofs.GuardUnwritten.{unwritten}

-- the place has a word of the session's mailbox
abbrev pub IsMail : ℕ → ℕ → Type 0
IsMail session place = (session_place session own.MailState ≤ place) × (place ≤ session_place session own.MailValue)

-- what is written there is no word of a mailbox
abbrev pub SparesMail : ℕ → Option ℕ → Type 0
SparesMail sessions None = ⊤
SparesMail sessions (Some place) = (session : ℕ) → session < sessions → IsMail session place → ⊥

spares_at : (sessions session place : ℕ) (at : Option ℕ) → SparesMail sessions at → session < sessions → IsMail session place → Spares at place
spares_at sessions session place None spares few is = tt
spares_at sessions session place (Some other) spares few is = λ e. spares session few (omega (arith, e, is.0), omega (arith, e, is.1))

-- a mailbox whose words are all the same
pub same_box : (words words' : List ℕ) (session : ℕ) → ((place : ℕ) → IsMail session place → word_at words' place ≡ word_at words place) → mailbox_of words' session ≡ mailbox_of words session
same_box words words' session same =
    rw (
      same (session_place session own.MailState) (omega arith, omega arith),
      same (session_place session own.MailAddress) (omega arith, omega arith),
      same (session_place session own.MailHeader) (omega arith, omega arith),
      same (session_place session own.MailKey) (omega arith, omega arith),
      same (session_place session own.MailValue) (omega arith, omega arith),
    ) refl

-- a word is written that is none of the mailbox's
pub spared_box : (words : List ℕ) (place word session : ℕ) → (IsMail session place → ⊥) → mailbox_of (slice_set words place word) session ≡ mailbox_of words session
spared_box words place word session none = same_box words (slice_set words place word) session (λ other is. word_spared words place word other (λ e. none (omega (arith, e, is.0), omega (arith, e, is.1))))

own_aside : (sessions a : ℕ) (d : EpochMachine) (at : Option ℕ) → OwnAt sessions a d at → SparesMail sessions at
own_aside sessions a d None h = tt
own_aside sessions a d (Some place) (inl h) = λ session few is. omega (arith, h, is.0)
own_aside sessions a d (Some place) (inr (inl h)) = λ session few is. omega (arith, h.0, is.0)
own_aside sessions a d (Some place) (inr (inr (inl h))) = λ session few is. omega (arith, h.1, is.0)
own_aside sessions a d (Some place) (inr (inr (inr (inl h)))) = λ session few is. omega (arith, h.1, is.0, is.1)
own_aside sessions a d (Some place) (inr (inr (inr (inr h)))) = λ session few is. omega (arith, h.1, is.0)

low_aside : (sessions place : ℕ) → place < 24 → SparesMail sessions (Some place)
low_aside sessions place low = λ session few is. omega (arith, low, is.0)

-- whether the work is to serve mailboxes
abbrev pub is_serve : Work → Bool
is_serve (Serves begin step) = true
is_serve work = false

-- An actor that there is, in a world that is sound.
module _ (w : GuardWorld) (a : ℕ) (x : Actor) (sound : IsSound w) (got : slice_get w.now.actors a ≡ Some x) where
  abbrev S : ℕ
  S = w.now.places.sessions

  -- a machine of the epochs
  pub machine_aside : (d : EpochMachine) → x.machine ≡ d → SparesMail S (machine_writes a d)
  machine_aside d its = own_aside S a d (machine_writes a d) (own_writes (epoch_world w) a d sound.epochs (machine_at w.now.actors a x got ∙ ap Some its))

  offset_aside : (offset : Offset) → SparesMail S (Some (offset_place offset))
  offset_aside ReadOnly = low_aside S 5 (omega arith)
  offset_aside Head = low_aside S 8 (omega arith)

  move_aside : (step : Moving) (raising : Raising) (arming : Arming) → MoveKnows (levels_of w.now.words) x.machine step raising arming → SparesMail S (writes (moving_ask step raising arming))
  unfolding moving_ask
  move_aside move.AtRest raising arming k = tt
  move_aside (move.Raises target) raising arming k = rw (writes_passed (raise_ask raising) _) (machine_aside (Raises raising) k.0)
  move_aside (move.MovesOffset target) raising arming k = offset_aside target.offset
  move_aside (move.Puts target slot) raising arming k = tt
  move_aside move.Arms raising arm.AtRest k = absurd k
  move_aside move.Arms raising (arm.PutsAction slot c) k = absurd k
  move_aside move.Arms raising (arm.StoresEpoch slot c) k = rw (writes_passed (arm_ask (arm.StoresEpoch slot c)) _) (machine_aside (Arms (arm.StoresEpoch slot c)) k)

  -- a shift of the read-only offset, and a turn of pages
  shift_aside : (step : Shifting) (m : Mover) → Known w a x (Shifts (shift_at step m)) → SparesMail S (writes (shift_ask (shift_at step m)))
  unfolding shifting_ask
  shift_aside (shift.Moves tail) m k = rw (writes_passed (move_ask m) _) (move_aside m.step m.raising m.arming k)
  shift_aside step m k = tt

  turn_aside : (step : Turning) (m : Mover) → Known w a x (Turns (turn_at step m)) → SparesMail S (writes (turn_ask w.now.shape (turn_at step m)))
  unfolding turning_ask
  turn_aside (turn.RaisesLimit limit) m k = low_aside S 4 (omega arith)
  turn_aside turn.Moves m k = rw (writes_passed (move_ask m) _) (move_aside m.step m.raising m.arming k)
  turn_aside step m k = tt

  -- any work but that of serving
  work_aside : (work : Work) → x.work ≡ work → is_serve work ≡ false → SparesMail S (work_writes w.now a x work)
  unfolding reserve_ask fill_ask invalidate_ask flush_ask
  work_aside Rests its apart = machine_aside x.machine refl
  work_aside (Reserves (reserve.TakesTail tail)) its apart = low_aside S 3 (omega arith)
  work_aside (Reserves step) its apart = tt
  work_aside (Fills fill.AtRest) its apart = tt
  work_aside (Fills (fill.StoresValue addr its_words)) its apart = λ session few is. omega (arith, few, is.1)
  work_aside (Fills (fill.StoresKey addr its_words)) its apart = λ session few is. omega (arith, few, is.1)
  work_aside (Fills (fill.StoresHeader addr its_words)) its apart = λ session few is. omega (arith, few, is.1)
  work_aside (Invalidates invalidate.AtRest) its apart = tt
  work_aside (Invalidates (invalidate.StoresHeader addr header)) its apart = λ session few is. omega (arith, few, is.1)
  work_aside (Shifts s) its apart = shift_aside s.step s.mover (subst (Known w a x) its (sound.knows a x got))
  work_aside (Turns s) its apart = turn_aside s.step s.mover (subst (Known w a x) its (sound.knows a x got))
  work_aside (Flushes (flush.RaisesFlushed end) bytes) its apart = low_aside S 7 (omega arith)
  work_aside (Flushes step bytes) its apart = tt
  work_aside (Serves begin step) its apart = cc

  -- a step of an actor that is not serving
  pub moves_aside : (is_idle x.work ≡ true) ⊎ (is_serve x.work ≡ false) → SparesMail S (event_writes w.now (Moves a))
  moves_aside why = rw got (elim (truth (is_idle x.work)) [
    | inl idle ↦ rw idle (machine_aside x.machine refl)
    | inr busy ↦ rw busy (elim why [
      | inl idle ↦ let other : is_idle x.work ≡ true = idle in cc
      | inr apart ↦ work_aside x.work refl apart
    ])
  ])

update_aside : (w : GuardWorld) (a addr : ℕ) (found : Option Actor) → SparesMail w.now.places.sessions (update_writes w.now a addr found)
update_aside w a addr None = tt
update_aside w a addr (Some x) = λ session few is. omega (arith, few, is.1)

-- an event that is neither an ask of an actor nor a change from outside
abbrev pub is_aside : GuardEvent → Bool
is_aside (Moves a) = false
is_aside (Changes a place word) = false
is_aside event = true

pub event_aside : (w : GuardWorld) (event : GuardEvent) → is_aside event ≡ true → SparesMail w.now.places.sessions (event_writes w.now event)
event_aside w (Moves a) aside = cc
event_aside w (Changes a place word) aside = cc
event_aside w (Updates a addr word) aside = update_aside w a addr (slice_get w.now.actors a)
event_aside w (RaisesReadOnly a to) aside = low_aside w.now.places.sessions 5 (omega arith)
event_aside w (RaisesFor a action) aside = low_aside w.now.places.sessions 0 (omega arith)
event_aside w event aside = tt

-- an event that writes no word of a mailbox leaves each as it is
pub boxes_stay : (w : GuardWorld) (event : GuardEvent) → SparesMail w.now.places.sessions (event_writes w.now event)
    → (session : ℕ) → session < w.now.places.sessions → mailbox_of (guard_happens w event).now.words session ≡ mailbox_of w.now.words session
boxes_stay w event spares session few =
    same_box w.now.words (guard_happens w event).now.words session (λ place is. unwritten w event place (spares_at w.now.places.sessions session place (event_writes w.now event) spares few is))

-- the words of one mailbox
boxed : (words : List ℕ) (session state addr header key value : ℕ)
    → word_at words (session_place session own.MailState) ≡ state
    → word_at words (session_place session own.MailAddress) ≡ addr
    → word_at words (session_place session own.MailHeader) ≡ header
    → word_at words (session_place session own.MailKey) ≡ key
    → word_at words (session_place session own.MailValue) ≡ value
    → mailbox_of words session ≡ record { state = state; addr = addr; mail = record { header = header; key = key; value = value } }
boxed words session state addr header key value e f g h i = rw (e, f, g, h, i) refl

-- A word of a mailbox is stored.
module _ (words : List ℕ) (session : ℕ) (room : session_place session own.MailValue < length words) where
  abbrev pub box : Mailbox
  box = mailbox_of words session

  pub stored_state : (word : ℕ) → mailbox_of (slice_set words (session_place session own.MailState) word) session ≡ record box { state = word }
  stored_state word =
      let at : ℕ = session_place session own.MailState in
      boxed (slice_set words at word) session word box.addr box.mail.header box.mail.key box.mail.value
      (word_written words at word (omega (arith, room))) (word_spared words at word _ (λ e. omega (arith, e))) (word_spared words at word _ (λ e. omega (arith, e))) (word_spared words at word _ (λ e. omega (arith, e))) (word_spared words at word _ (λ e. omega (arith, e)))

  pub stored_address : (word : ℕ) → mailbox_of (slice_set words (session_place session own.MailAddress) word) session ≡ record box { addr = word }
  stored_address word =
      let at : ℕ = session_place session own.MailAddress in
      boxed (slice_set words at word) session box.state word box.mail.header box.mail.key box.mail.value
      (word_spared words at word _ (λ e. omega (arith, e))) (word_written words at word (omega (arith, room))) (word_spared words at word _ (λ e. omega (arith, e))) (word_spared words at word _ (λ e. omega (arith, e))) (word_spared words at word _ (λ e. omega (arith, e)))

  pub stored_header : (word : ℕ) → mailbox_of (slice_set words (session_place session own.MailHeader) word) session ≡ record box { mail = record box.mail { header = word } }
  stored_header word =
      let at : ℕ = session_place session own.MailHeader in
      boxed (slice_set words at word) session box.state box.addr word box.mail.key box.mail.value
      (word_spared words at word _ (λ e. omega (arith, e))) (word_spared words at word _ (λ e. omega (arith, e))) (word_written words at word (omega (arith, room))) (word_spared words at word _ (λ e. omega (arith, e))) (word_spared words at word _ (λ e. omega (arith, e)))

  pub stored_key : (word : ℕ) → mailbox_of (slice_set words (session_place session own.MailKey) word) session ≡ record box { mail = record box.mail { key = word } }
  stored_key word =
      let at : ℕ = session_place session own.MailKey in
      boxed (slice_set words at word) session box.state box.addr box.mail.header word box.mail.value
      (word_spared words at word _ (λ e. omega (arith, e))) (word_spared words at word _ (λ e. omega (arith, e))) (word_spared words at word _ (λ e. omega (arith, e))) (word_written words at word (omega (arith, room))) (word_spared words at word _ (λ e. omega (arith, e)))

  pub stored_value : (word : ℕ) → mailbox_of (slice_set words (session_place session own.MailValue) word) session ≡ record box { mail = record box.mail { value = word } }
  stored_value word =
      let at : ℕ = session_place session own.MailValue in
      boxed (slice_set words at word) session box.state box.addr box.mail.header box.mail.key word
      (word_spared words at word _ (λ e. omega (arith, e))) (word_spared words at word _ (λ e. omega (arith, e))) (word_spared words at word _ (λ e. omega (arith, e))) (word_spared words at word _ (λ e. omega (arith, e))) (word_written words at word (omega (arith, room)))

-- the words of two mailboxes are apart
pub mail_apart : (session other place : ℕ) → IsMail session place → other ≢ session → IsMail other place → ⊥
mail_apart session other place is apart also = apart (omega (arith, is.0, is.1, also.0, also.1))

pub room_for : (w : GuardWorld) (session : ℕ) → IsSound w → session < w.now.places.sessions → session_place session own.MailValue < length w.now.words
room_for w session sound few = let h = sound.enough_words in omega (arith, h, few)
