-- What is known of an actor that serves, and that each event of another kind keeps it.
use Rattle.std.proofs.Common.{◌≡◌, ◌≢◌, ◌⊎◌, inl, inr, ℕ, ◌<◌, Bool, true, false, List, refl, sym, ap, subst, arith}
use Rattle.std.specs.Prelude.{Some, None, ⊤, slice_get, nat_lt, ◌&&◌, if◌then◌else◌}
use Rattle.fkv_plane.specs.declared.actions.Action.{Action}
use Rattle.fkv_epoch.specs.declared.raising.Raising.TheVariants as raise
use Rattle.fkv_epoch.specs.EpochWorld.{EpochMachine, Raises, is_at_rest}
use Rattle.fkv_epoch.proofs.Shown.{some_same}
use Rattle.fkv_flush.specs.declared.serving.Serving.{Serving}
use Rattle.fkv_flush.specs.declared.serving.Serving.TheVariants as serve
use Rattle.fkv_flush.specs.Serving.{asked_state, ready_state, mailbox_from}
use Rattle.fkv_flush.specs.GuardCalm.{actor_of}
use Rattle.fkv_flush.specs.GuardMail.{Mailbox, MailGiven, HasGiven, FindsAsked, ServesAlone, AskerChanges}
use Rattle.fkv_flush.specs.GuardWorld.{Actor, Work, Rests, Reserves, Fills, Invalidates, Shifts, Turns, Flushes, Serves, GuardTask, ToDo, ToReserve, ToFill, ToInvalidate, ToShift, ToTurnPage, ToFlush, ToServe, GuardNow, GuardWorld, GuardEvent, Begins, Resumes, Moves, Calls, Reads, Sees, Publishes, Updates, RaisesReadOnly, RaisesFor, Changes, CallsElse, is_idle, is_none, is_stored, may_work, work_step, actor_step, started}
use Rattle.fkv_flush.proofs.GuardSound.{IsSound}
use Rattle.fkv_flush.proofs.GuardWorks.{truth, Known}
use Rattle.fkv_flush.proofs.GuardMailPlaces.{is_serve}
use Rattle.fkv_flush.proofs.OneEvent.{event_near, called_near, read_near, raised_near}

-- what is known of an actor that serves: it is at rest, or it is the keeper and finds what it goes by
abbrev pub Row : ℕ → List MailGiven → (ℕ → Mailbox) → ℕ → Work → Type 0
Row keeper given boxes b (Serves begin step) = (step ≡ serve.AtRest) ⊎ ((b ≡ keeper) × FindsAsked given boxes step)
Row keeper given boxes b work = ⊤

-- an event that is no ask of an actor, and no read that succeeds
abbrev pub is_still : GuardEvent → Bool
is_still (Moves a) = false
is_still (Reads a (Some bytes)) = false
is_still event = true

-- a mailbox that stays, or one in which nothing was asked for and nothing is ready afterwards
abbrev pub StaysOrIsApart : Mailbox → Mailbox → Type 0
StaysOrIsApart before after = (after ≡ before) ⊎ ((before.state ≢ asked_state) × (after.state ≢ ready_state))

-- the mailbox that is served is one of the store's
abbrev pub IsServedBelow : ℕ → Serving → Type 0
IsServedBelow sessions serve.AtRest = ⊤
IsServedBelow sessions (serve.LoadsState session) = session < sessions
IsServedBelow sessions (serve.LoadsAddress session) = session < sessions
IsServedBelow sessions (serve.Reads session addr) = session < sessions
IsServedBelow sessions (serve.StoresHeader session mail) = session < sessions
IsServedBelow sessions (serve.StoresKey session mail) = session < sessions
IsServedBelow sessions (serve.StoresValue session mail) = session < sessions
IsServedBelow sessions (serve.StoresReady session) = session < sessions

pub served_below : (w : GuardWorld) (b : ℕ) (y : Actor) (begin : ℕ) (step : Serving) → IsSound w → slice_get w.now.actors b ≡ Some y → y.work ≡ Serves begin step → IsServedBelow w.now.places.sessions step
served_below w b y begin step sound got its = by step (subst (Known w b y) its (sound.knows b y got))
  where
    fits : w.now.places.sessions ≡ w.now.shape.sessions
    fits = sound.fits.sessions

    by : (step : Serving) → Known w b y (Serves begin step) → IsServedBelow w.now.places.sessions step
    by serve.AtRest k = tt
    by (serve.LoadsState session) k = rw fits k
    by (serve.LoadsAddress session) k = rw fits k
    by (serve.Reads session addr) k = rw fits k
    by (serve.StoresHeader session mail) k = rw fits k
    by (serve.StoresKey session mail) k = rw fits k
    by (serve.StoresValue session mail) k = rw fits k
    by (serve.StoresReady session) k = rw fits k

-- the keeper finds what it found, where the mailboxes stay or its own is not one that changes
pub finds_on : (sessions : ℕ) (given : List MailGiven) (boxes boxes' : ℕ → Mailbox) (step : Serving) → ((session : ℕ) → session < sessions → StaysOrIsApart (boxes session) (boxes' session))
    → IsServedBelow sessions step → FindsAsked given boxes step → FindsAsked given boxes' step
finds_on sessions given boxes boxes' step stay few finds = by step few finds
  where
    with_box : (session : ℕ) (P : Mailbox → Type 0) → session < sessions → (boxes session).state ≡ asked_state → P (boxes session) → P (boxes' session)
    with_box session P few asked holds = elim (stay session few) [ inl same ↦ subst P (sym same) holds | inr apart ↦ absurd (apart.0 asked) ]

    by : (step : Serving) → IsServedBelow sessions step → FindsAsked given boxes step → FindsAsked given boxes' step
    by serve.AtRest few finds = tt
    by (serve.LoadsState session) few finds = tt
    by (serve.LoadsAddress session) few finds = with_box session (λ box. box.state ≡ asked_state) few finds finds
    by (serve.Reads session addr) few finds = with_box session (λ box. (box.state ≡ asked_state) × (box.addr ≡ addr)) few finds.0 finds
    by (serve.StoresHeader session mail) few finds = with_box session (λ box. HasGiven given session box mail) few finds.0 finds
    by (serve.StoresKey session mail) few finds = with_box session (λ box. HasGiven given session box mail × (box.mail.header ≡ mail.header)) few finds.0.0 finds
    by (serve.StoresValue session mail) few finds = with_box session (λ box. HasGiven given session box mail × (box.mail.header ≡ mail.header) × (box.mail.key ≡ mail.key)) few finds.0.0 finds
    by (serve.StoresReady session) few finds = with_box session (λ box. HasGiven given session box box.mail) few finds.0 finds

-- what an asker changes is no mailbox in which a record is asked for, and none that is ready then
pub asker_apart : (before after : Mailbox) → AskerChanges before after → (before.state ≢ asked_state) × (after.state ≢ ready_state)
asker_apart before after (inl (empty, same)) = let e = ap (λ (box : Mailbox). box.state) same in (λ i. omega (arith, i, empty), λ i. omega (arith, i, e, empty))
asker_apart before after (inr (inl asks, same)) = let h = asks.0 in let k = asks.1 in (λ i. omega (arith, i, h), λ i. omega (arith, i, k))
asker_apart before after (inr (inr takes, same)) = let h = takes.0 in let k = takes.1 in (λ i. omega (arith, i, h), λ i. omega (arith, i, k))

-- nothing is found yet in the mailbox that comes next
pub next_row : (keeper : ℕ) (given : List MailGiven) (boxes : ℕ → Mailbox) (a begin sessions session : ℕ) → a ≡ keeper → Row keeper given boxes a (Serves begin (mailbox_from sessions session))
unfolding mailbox_from
next_row keeper given boxes a begin sessions session mine = elim (truth (nat_lt session sessions)) [ inl e ↦ rw e (inr (mine, tt)) | inr e ↦ rw e (inl refl) ]

-- What an event makes of the row of its actor.
module _ (n : GuardNow) (keeper : ℕ) (given : List MailGiven) (boxes : ℕ → Mailbox) (a : ℕ) (x : Actor) (row : Row keeper given boxes a x.work) where
  abbrev Holds : Work → Type 0
  Holds = Row keeper given boxes a

  either_row : (b : Bool) (y z : Actor) → Holds y.work → Holds z.work → Holds (if b then y else z).work
  either_row true y z p q = p
  either_row false y z p q = q

  started_row : (task : GuardTask) → ServesAlone keeper (Begins a task) → Holds (started n x task).work
  started_row (ToDo task) alone = tt
  started_row (ToReserve bound) alone = tt
  started_row (ToFill its_words) alone = tt
  started_row (ToInvalidate header) alone = tt
  started_row ToShift alone = tt
  started_row (ToTurnPage form tail) alone = tt
  started_row ToFlush alone = tt
  started_row (ToServe begin) alone = next_row keeper given boxes a begin n.shape.sessions 0 alone

  called_row : (done : Bool) (work : Work) → Holds (called_near n done x work).actor.work
  called_row done (Flushes step bytes) = tt
  called_row done work = row

  failed_row : (work : Work) → Holds (read_near n None x work).actor.work
  failed_row (Serves begin step) = inl refl
  failed_row work = row

  raised_row : (action : Action) (d : EpochMachine) → Holds (raised_near n action x d).actor.work
  raised_row action (Raises (raise.RaisesEpoch slot)) = row
  raised_row action d = row

  -- a step of a machine that serves nobody
  works_row : (work : Work) → is_serve work ≡ false → Holds (work_step n a x work).actor.work
  works_row Rests apart = row
  works_row (Reserves step) apart = tt
  works_row (Fills step) apart = tt
  works_row (Invalidates step) apart = tt
  works_row (Shifts s) apart = tt
  works_row (Turns s) apart = tt
  works_row (Flushes step bytes) apart = tt
  works_row (Serves begin step) apart = cc

  pub stepped_row : (is_idle x.work ≡ true) ⊎ (is_serve x.work ≡ false) → Holds (actor_step n a x).actor.work
  stepped_row why = elim (truth (is_idle x.work)) [
    | inl idle ↦ rw idle row
    | inr busy ↦ rw busy (elim why [
      | inl idle ↦ let other : is_idle x.work ≡ true = idle in cc
      | inr apart ↦ works_row x.work apart
    ])
  ]

  -- an event that is no ask, and no read that succeeds
  pub near_row : (event : GuardEvent) → actor_of event ≡ Some a → is_still event ≡ true → ServesAlone keeper event → Holds (event_near n event x).actor.work
  near_row (Begins b task) its still alone =
      let same : b ≡ a = some_same b a its in
      either_row (is_at_rest x.machine && is_idle x.work && may_work n b x task) (started n x task) x (started_row task (subst (λ (c : ℕ). ServesAlone keeper (Begins c task)) same alone)) row
  near_row (Resumes b) its still alone = either_row (is_idle x.work) _ x row row
  near_row (Moves b) its still alone = cc
  near_row (Calls b done) its still alone = called_row done x.work
  near_row (Reads b None) its still alone = failed_row x.work
  near_row (Reads b (Some bytes)) its still alone = cc
  near_row (Sees b sight) its still alone = either_row (is_none x.undecided) _ x row row
  near_row (Publishes b) its still alone = either_row (is_idle x.work) _ x row row
  near_row (Updates b addr word) its still alone = row
  near_row (RaisesReadOnly b to) its still alone = row
  near_row (RaisesFor b action) its still alone = elim (truth (is_idle x.work && is_stored n.words action)) [
    | inl e ↦ rw e (raised_row action x.machine)
    | inr e ↦ rw e row
  ]
  near_row (Changes b place word) its still alone = row
  near_row (CallsElse call) its still alone = row
