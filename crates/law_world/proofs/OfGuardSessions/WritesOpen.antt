-- A word of a frame that a session asks to write is one of an open place, whether the ask changes it or not.
use Rattle.std.proofs.Common.{◌≡◌, ℕ, ◌<◌, ◌≤◌, ◌∙◌, List, refl, sym, ap, subst, arith, true, false}
use Rattle.std.specs.Prelude.{⊤, Option, Some, None, slice_get, if◌then◌else◌}
use Rattle.fkv_plane.specs.declared.asks.Ask.{Ask}
use Rattle.fkv_plane.specs.declared.places.Places.{Places}
use Rattle.fkv_plane.specs.declared.places.RecordWord.TheVariants as rec
use Rattle.fkv_plane.specs.declared.places.SessionWord.{SessionWord}
use Rattle.fkv_plane.specs.declared.places.SessionWord.TheVariants as own
use Rattle.fkv_plane.specs.Passing.{passed}
use Rattle.fkv_plane.specs.Places.{frames_start, record_place, session_place}
use Rattle.fkv_epoch.specs.declared.leaving.Leaving.{Leaving}
use Rattle.fkv_epoch.specs.declared.leaving.Leaving.TheVariants as leave
use Rattle.fkv_epoch.specs.declared.protecting.Protecting.{Protecting}
use Rattle.fkv_epoch.specs.declared.protecting.Protecting.TheVariants as protect
use Rattle.fkv_epoch.specs.declared.refreshing.Refreshing.{Refreshing}
use Rattle.fkv_epoch.specs.declared.refreshing.Refreshing.TheVariants as refresh
use Rattle.fkv_epoch.specs.Claiming.{claim_ask}
use Rattle.fkv_epoch.specs.Leaving.{leave_ask}
use Rattle.fkv_epoch.specs.Protecting.{protect_ask}
use Rattle.fkv_epoch.specs.Refreshing.{refresh_ask}
use Rattle.fkv_epoch.specs.Scanning.{scan_ask}
use Rattle.fkv_epoch.specs.EpochWorld.{EpochMachine, Scans, Claims, own_epoch}
use Rattle.fkv_log.specs.declared.filling.Filling.{Filling}
use Rattle.fkv_log.specs.declared.filling.Filling.TheVariants as filling
use Rattle.fkv_log.specs.declared.invalidating.Invalidating.{Invalidating}
use Rattle.fkv_log.specs.declared.invalidating.Invalidating.TheVariants as invalidating
use Rattle.fkv_log.specs.declared.reserving.Reserving.{Reserving}
use Rattle.fkv_log.specs.declared.reserving.Reserving.TheVariants as reserving
use Rattle.fkv_log.specs.Filling.{fill_ask}
use Rattle.fkv_log.specs.Invalidating.{invalidate_ask}
use Rattle.fkv_log.specs.Reserving.{reserve_ask}
use Rattle.fkv_log.specs.Shifting.{shift_ask}
use Rattle.fkv_log.specs.Turning.{turn_ask}
use Rattle.fkv_ops.specs.declared.appending.Appending.{Appending}
use Rattle.fkv_ops.specs.declared.appending.Appending.TheVariants as appending
use Rattle.fkv_ops.specs.declared.trying.Trying.{Trying}
use Rattle.fkv_ops.specs.declared.trying.Trying.TheVariants.{SwapsValue, ChangesValue, Appends}
use Rattle.fkv_ops.specs.Appending.{AppendState, appending_ask}
use Rattle.fkv_ops.specs.Trying.{TryState, trying_ask}
use Rattle.fkv_pending.specs.declared.attempting.Attempting.{Attempting}
use Rattle.fkv_pending.specs.declared.attempting.Attempting.TheVariants as attempting
use Rattle.fkv_pending.specs.declared.mailing.Mailing.{Mailing}
use Rattle.fkv_pending.specs.declared.mailing.Mailing.TheVariants as mailing
use Rattle.fkv_pending.specs.declared.pending_requests.PendingRequest.{PendingRequest}
use Rattle.fkv_pending.specs.Attempting.{AttemptState, attempt_ask, attempting_ask}
use Rattle.fkv_pending.specs.Mailing.{mail_ask}
use Rattle.fkv_session.specs.declared.catching_up.Catching.{Catching}
use Rattle.fkv_session.specs.declared.catching_up.Catching.TheVariants as catching
use Rattle.fkv_session.specs.declared.own_turns.OwnTurning.{OwnTurning}
use Rattle.fkv_session.specs.declared.own_turns.OwnTurning.TheVariants as turning
use Rattle.fkv_session.specs.declared.sessions.Sitting.{Sitting}
use Rattle.fkv_session.specs.declared.sessions.Sitting.TheVariants.{Idle, Attempts, CatchesUp, ClearsMail, Polls, StoresOwing, StoresCut, LoadsDurable}
use Rattle.fkv_session.specs.declared.sessions.Sitting.TheVariants as session
use Rattle.fkv_session.specs.CatchingUp.{CatchState, catch_ask, catching_ask}
use Rattle.fkv_session.specs.OwnTurns.{OwnTurnState, own_turn_ask, own_turning_ask}
use Rattle.fkv_session.specs.Sessions.{SessionState, session_ask, sitting_ask}
use Rattle.fkv_flush.specs.GuardAsks.{writes, machine_writes}
use Rattle.fkv_flush.specs.GuardSeen.{LastSeen}
use Rattle.fkv_flush.specs.GuardWorld as guard
use Rattle.fkv_flush.specs.GuardWorld.{Actor, GuardWorld, GuardEvent, Work, Moves, Updates, guard_run, is_idle}
use Rattle.fkv_flush.specs.Guarded.{IsOpenPlace, IsPermittedEvent, actor_writes, event_writes, update_writes, work_writes}
use Rattle.fkv_flush.proofs.Shown.{Fits, FitsWork, IsSound, guards_writes, writes_passed}
use Rattle.law_world.specs.GuardSessions.Attempts.{AttemptWritesOuter, attempt_likeness_at}
use Rattle.law_world.specs.GuardSessions.Catches.{CatchWritesOuter}
use Rattle.law_world.specs.GuardSessions.Followed.{Sits, seat_in}
use Rattle.law_world.specs.GuardSessions.InPlace.{SessionMayChange, attempt_changes, sitting_changes, try_changes}
use Rattle.law_world.specs.GuardSessions.Likenesses.{append_work, fill_work, invalidate_work, last_seen, through}
use Rattle.law_world.specs.GuardSessions.OwnTurns.{own_turn_likeness_at}
use Rattle.law_world.specs.GuardSessions.Rows.{OwnTurnKnows, SittingKnows}
use Rattle.law_world.specs.GuardSessions.Sessions.{SessionWritesOuter, SittingWritesOuter, is_protected_at, sitting_likeness}
use Rattle.law_world.specs.GuardSessions.Steps.{IsOuterPlace}
use Rattle.law_world.specs.GuardSessions.Tries.{AppendWritesOuter, MayChange, TryWritesOuter, try_likeness_at}
use Rattle.law_world.proofs.OfGuardSessions.Onwards.{IsSessions}
use Rattle.law_world.proofs.OfGuardSessions.OwnTurns.{claiming_is, opening_busy, scanning_is, turn_is, work_is}
use Rattle.law_world.proofs.OfGuardSessions.OwnTurnsLed.{shift_asking}
use Rattle.law_world.proofs.OfGuardSessions.Permitted.{change_permitted}
use Rattle.law_world.proofs.OfGuardSessions.WordsWithin.{outer_low, sixteen_words}

-- the place is none of a frame, or it is open
abbrev pub WritesOpen : GuardWorld → Option ℕ → Type 0
WritesOpen w None = ⊤
WritesOpen w (Some place) = frames_start w.now.places ≤ place → IsOpenPlace w place

pub open_at : (w : GuardWorld) (at : Option ℕ) (place : ℕ) → WritesOpen w at → at ≡ Some place → frames_start w.now.places ≤ place → IsOpenPlace w place
open_at w at place free e = subst (λ (its : Option ℕ). WritesOpen w its) e free

-- what one of the guard's events may write
pub by_guard : (w : GuardWorld) (event : GuardEvent) (at : Option ℕ) → IsSound w → IsPermittedEvent w.now event → event_writes w.now event ≡ at → WritesOpen w at
by_guard w event None sound permitted e = tt
by_guard w event (Some place) sound permitted e = λ high. guards_writes w event sound permitted place e high

-- what is passed on
pub passed_open : {A B : Type 0} (w : GuardWorld) (ask : Ask A) (told : B) → WritesOpen w (writes ask) → WritesOpen w (writes (passed ask told))
passed_open w ask told free = subst (λ (at : Option ℕ). WritesOpen w at) (sym (writes_passed ask told)) free

-- words below the frames
pub low_open : (w : GuardWorld) (place : ℕ) → place < 24 → WritesOpen w (Some place)
low_open w place low = λ high. absurd (omega (arith, low, high))

pub own_open : (w : GuardWorld) (number : ℕ) (word : SessionWord) → number < w.now.places.sessions → WritesOpen w (Some (session_place number word))
own_open w number word low = λ high. let few = sixteen_words word in absurd (omega (arith, low, few, high))

outer_open : (w : GuardWorld) (at : Option ℕ) → IsOuterPlace w.now.places at → WritesOpen w at
outer_open w None outer = tt
outer_open w (Some place) outer = λ high. let low = outer_low w.now.places place outer in absurd (omega (arith, low, high))

-- what an actor may write: by the machine of the epochs that it drives, or by its work
pub machine_open : (w : GuardWorld) (a : ℕ) (x : Actor) (d : EpochMachine) → IsSound w → slice_get w.now.actors a ≡ Some x → x.machine ≡ d → is_idle x.work ≡ true → WritesOpen w (machine_writes a d)
machine_open w a x d sound got its idle = by_guard w (Moves a) (machine_writes a d) sound tt (ap (actor_writes w.now a) got ∙ rw idle (ap (machine_writes a) its))

pub work_open : (w : GuardWorld) (a : ℕ) (x : Actor) (work : Work) → IsSound w → slice_get w.now.actors a ≡ Some x → x.work ≡ work → is_idle work ≡ false → WritesOpen w (work_writes w.now a x work)
work_open w a x work sound got its busy =
    by_guard w (Moves a) (work_writes w.now a x work) sound tt (ap (actor_writes w.now a) got
    ∙ subst (λ (k : Work). (if is_idle k then machine_writes a x.machine else work_writes w.now a x k) ≡ work_writes w.now a x work) (sym its) (rw busy refl))

-- Machines that go by the session's number.
refresh_open : (w : GuardWorld) (number : ℕ) (step : Refreshing) → number < w.now.places.sessions → WritesOpen w (writes (refresh_ask number step))
unfolding refresh_ask
refresh_open w number (refresh.StoresEpoch epoch) low = own_open w number own.Epoch low
refresh_open w number step low = tt

protect_open : (w : GuardWorld) (number : ℕ) (step : Protecting) → number < w.now.places.sessions → WritesOpen w (writes (protect_ask number step))
unfolding protect_ask
protect_open w number (protect.StoresEpoch epoch) low = own_open w number own.Epoch low
protect_open w number step low = tt

leave_open : (w : GuardWorld) (number : ℕ) (step : Leaving) → number < w.now.places.sessions → WritesOpen w (writes (leave_ask number step))
unfolding leave_ask
leave_open w number leave.StoresZero low = own_open w number own.Epoch low
leave_open w number leave.AtRest low = tt

mail_open : (w : GuardWorld) (number : ℕ) (step : Mailing) → number < w.now.places.sessions → WritesOpen w (writes (mail_ask number step))
unfolding mail_ask
mail_open w number (mailing.StoresEmpty its) low = own_open w number own.MailState low
mail_open w number (mailing.StoresAddress addr) low = own_open w number own.MailAddress low
mail_open w number mailing.StoresAsked low = own_open w number own.MailState low
mail_open w number step low = tt

reserve_open : (w : GuardWorld) (step : Reserving) → WritesOpen w (writes (reserve_ask step))
unfolding reserve_ask
reserve_open w (reserving.TakesTail tail) = low_open w 3 (omega arith)
reserve_open w step = tt

module _ (w : GuardWorld) (number : ℕ) (x : Actor) (s : SessionState) (sits : Sits w number x s) where
  abbrev P : Places
  P = w.now.places

  abbrev words : List ℕ
  words = w.now.words

  works : (work : Work) → x.work ≡ work → is_idle work ≡ false → WritesOpen w (work_writes w.now number x work)
  works work its busy = work_open w number x work sits.sound sits.got its busy

  -- a record that is undecided
  fill_open : (step : Filling) → FitsWork (fill_work step) x.work → WritesOpen w (writes (fill_ask P step))
  unfolding fill_ask
  fill_open filling.AtRest fits = tt
  fill_open (filling.StoresValue addr its_words) fits = works (guard.Fills (filling.StoresValue addr its_words)) fits refl
  fill_open (filling.StoresKey addr its_words) fits = works (guard.Fills (filling.StoresKey addr its_words)) fits refl
  fill_open (filling.StoresHeader addr its_words) fits = works (guard.Fills (filling.StoresHeader addr its_words)) fits refl

  invalidate_open : (step : Invalidating) → FitsWork (invalidate_work step) x.work → WritesOpen w (writes (invalidate_ask P step))
  unfolding invalidate_ask
  invalidate_open invalidating.AtRest fits = tt
  invalidate_open (invalidating.StoresHeader addr header) fits = works (guard.Invalidates (invalidating.StoresHeader addr header)) fits refl

  append_open : {A : Type 0} (a : AppendState) (step : Appending) (ask : Ask A) → writes ask ≡ writes (appending_ask P a step) → AppendWritesOuter P step ask → FitsWork (append_work a step) x.work → WritesOpen w (writes ask)
  unfolding appending_ask
  append_open a (appending.Ended its) ask e outer fits = subst (λ (at : Option ℕ). WritesOpen w at) (sym e) tt
  append_open a appending.Reserves ask e outer fits = subst (λ (at : Option ℕ). WritesOpen w at) (sym e) (passed_open w (reserve_ask a.reserving) _ (reserve_open w a.reserving))
  append_open a (appending.Fills addr) ask e outer fits = subst (λ (at : Option ℕ). WritesOpen w at) (sym e) (passed_open w (fill_ask P a.filling) _ (fill_open a.filling fits))
  append_open a (appending.Publishes addr) ask e outer fits = outer_open w (writes ask) outer
  append_open a appending.Invalidates ask e outer fits = subst (λ (at : Option ℕ). WritesOpen w at) (sym e) (passed_open w (invalidate_ask P a.invalidating) _ (invalidate_open a.invalidating fits))

  module _ (seen : LastSeen) (its : IsSessions P.sessions number true words) where
    -- a value that is changed in place, or isn't since the Cas is lost
    update_open : (addr : ℕ) → Fits (through seen) x → MayChange seen words addr → WritesOpen w (Some (record_place P addr rec.Value))
    unfolding guard_run
    update_open addr fits may =
        by_guard w (Updates number addr 0) (Some (record_place P addr rec.Value)) sits.sound (change_permitted w number x seen sits.got addr 0 its fits may).0 (ap (update_writes w.now number addr) sits.got)

    try_open : {A : Type 0} (t : TryState) (step : Trying) (ask : Ask A) → writes ask ≡ writes (trying_ask P t step) → TryWritesOuter P t step ask → Fits (try_likeness_at seen t step) x
        → ((addr : ℕ) → try_changes step ≡ Some addr → MayChange seen words addr) → WritesOpen w (writes ask)
    unfolding trying_ask
    try_open t (SwapsValue addr) ask e outer fits may = subst (λ (at : Option ℕ). WritesOpen w at) (sym e) (update_open addr.0 fits (may addr.0 refl))
    try_open t (ChangesValue addr old) ask e outer fits may = subst (λ (at : Option ℕ). WritesOpen w at) (sym e) (update_open addr.0 fits (may addr.0 refl))
    try_open t (Appends answer) ask e outer fits may = append_open t.append t.append.step ask (e ∙ writes_passed (appending_ask P t.append t.append.step) _) outer fits.work
    try_open t step ask e outer fits may = outer_open w (writes ask) outer

    attempt_open : {A : Type 0} (a : AttemptState) (step : Attempting) (ask : Ask A) → writes ask ≡ writes (attempting_ask P number a step) → AttemptWritesOuter P a step ask → Fits (attempt_likeness_at seen a step) x
        → ((addr : ℕ) → attempt_changes a step ≡ Some addr → MayChange seen words addr) → WritesOpen w (writes ask)
    unfolding attempting_ask
    attempt_open a (attempting.Ended answer) ask e outer fits may = subst (λ (at : Option ℕ). WritesOpen w at) (sym e) tt
    attempt_open a attempting.Looks ask e outer fits may = subst (λ (at : Option ℕ). WritesOpen w at) (sym e) (passed_open w (mail_ask number a.mailing) _ (mail_open w number a.mailing its.below))
    attempt_open a attempting.Tries ask e outer fits may = try_open a.trial a.trial.step ask (e ∙ writes_passed (trying_ask P a.trial a.trial.step) _) outer fits may
    attempt_open a attempting.Puts ask e outer fits may = subst (λ (at : Option ℕ). WritesOpen w at) (sym e) (passed_open w (mail_ask number a.mailing) _ (mail_open w number a.mailing its.below))

  catch_open : {A : Type 0} (c : CatchState) (requests : List PendingRequest) (step : Catching) (ask : Ask A) → writes ask ≡ writes (catching_ask P number c requests step) → CatchWritesOuter P step ask → WritesOpen w (writes ask)
  unfolding catching_ask
  catch_open c requests catching.Ended ask e outer = subst (λ (at : Option ℕ). WritesOpen w at) (sym e) tt
  catch_open c requests catching.Refreshes ask e outer = subst (λ (at : Option ℕ). WritesOpen w at) (sym e) (passed_open w (refresh_ask number c.refreshing) _ (refresh_open w number c.refreshing sits.below))
  catch_open c requests catching.Protects ask e outer = subst (λ (at : Option ℕ). WritesOpen w at) (sym e) (passed_open w (protect_ask number c.protecting) _ (protect_open w number c.protecting sits.below))
  catch_open c requests catching.StoresCut ask e outer = subst (λ (at : Option ℕ). WritesOpen w at) (sym e) (own_open w number _ sits.below)
  catch_open c requests catching.StoresOwing ask e outer = subst (λ (at : Option ℕ). WritesOpen w at) (sym e) (own_open w number own.Owing sits.below)
  catch_open c requests (catching.Latches index) ask e outer = outer_open w (writes ask) outer
  catch_open c requests catching.Finishes ask e outer = subst (λ (at : Option ℕ). WritesOpen w at) (sym e) (passed_open w (refresh_ask number c.refreshing) _ (refresh_open w number c.refreshing sits.below))

  own_turn_open : (seen : LastSeen) (o : OwnTurnState) (step : OwnTurning) → OwnTurnKnows o step → Fits (own_turn_likeness_at seen o step) x → WritesOpen w (writes (own_turning_ask w.now.shape o step))
  unfolding own_turning_ask
  own_turn_open seen o turning.Ended knows fits = tt
  own_turn_open seen o turning.Scans knows fits =
      passed_open w (scan_ask o.scanning) _ (machine_open w number x (Scans o.scanning) sits.sound sits.got (scanning_is o.scanning x.machine knows fits.machine) fits.work)
  own_turn_open seen o turning.Claims knows fits =
      passed_open w (claim_ask o.claiming) _ (machine_open w number x (Claims o.claiming) sits.sound sits.got (claiming_is o.claiming x.machine knows fits.machine) fits.work)
  own_turn_open seen o turning.Shifts knows fits =
      let busy = shift_asking o.shift.step o.shift.mover knows in
      passed_open w (shift_ask o.shift) _ (works (guard.Shifts o.shift) (work_is o.shift x.work busy fits.work) busy)
  own_turn_open seen o turning.Opens knows fits =
      let busy = opening_busy o.turn.step o.turn.mover knows.1 in
      passed_open w (turn_ask w.now.shape o.turn) _ (works (guard.Turns o.turn) (turn_is o.turn x.work busy fits.work) busy)

  sitting_open : (step : Sitting) → SittingKnows s step → Fits (sitting_likeness s step) x → (is_protected_at s step ≡ true → 0 < own_epoch words number) → SittingWritesOuter (seat_in w.now number) s step (sitting_ask (seat_in w.now number) s step)
      → ((addr : ℕ) → sitting_changes s step ≡ Some addr → MayChange (last_seen s.seen) words addr) → WritesOpen w (writes (sitting_ask (seat_in w.now number) s step))
  unfolding sitting_ask
  sitting_open (Idle its) knows fits protected outer may = tt
  sitting_open (Attempts has_shifted) knows fits protected outer may =
      attempt_open (last_seen s.seen) (record { below = sits.below; epoch = λ e. protected refl }) s.attempt s.attempt.step _ (writes_passed (attempt_ask P number s.attempt) _) outer fits may
  sitting_open (Polls index) knows fits protected outer may =
      attempt_open (last_seen s.seen) (record { below = sits.below; epoch = λ e. protected refl }) s.attempt s.attempt.step _ (writes_passed (attempt_ask P number s.attempt) _) outer fits may
  sitting_open (CatchesUp cause) knows fits protected outer may = catch_open s.catching s.requests s.catching.step _ (writes_passed (catch_ask P number s.catching s.requests) _) outer
  sitting_open ClearsMail knows fits protected outer may = passed_open w (mail_ask number s.mailing) _ (mail_open w number s.mailing sits.below)
  sitting_open (StoresOwing index) knows fits protected outer may = own_open w number own.Owing sits.below
  sitting_open (session.Turns its) knows fits protected outer may = passed_open w (own_turn_ask w.now.shape s.own_turn) _ (own_turn_open (last_seen s.seen) s.own_turn s.own_turn.step knows fits)
  sitting_open StoresCut knows fits protected outer may = own_open w number _ sits.below
  sitting_open session.Leaves knows fits protected outer may = passed_open w (leave_ask number s.leaving) _ (leave_open w number s.leaving sits.below)
  sitting_open LoadsDurable knows fits protected outer may = tt

pub session_open : (w : GuardWorld) (number : ℕ) (x : Actor) (s : SessionState) → Sits w number x s → SessionWritesOuter (seat_in w.now number) s → SessionMayChange w.now.words s → WritesOpen w (writes (session_ask (seat_in w.now number) s))
session_open w number x s sits outer may = sitting_open w number x s sits s.step sits.knows sits.fits sits.protected outer may
