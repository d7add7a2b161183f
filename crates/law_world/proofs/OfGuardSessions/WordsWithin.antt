-- The word that a session's ask names is one that there is: by its control state, and by what the machine of the epochs in its turn asks.
use Rattle.std.proofs.Common.{◌≡◌, ℕ, ◌+◌, ◌%◌, ◌<◌, refl, subst, arith, List, Bool, true, false}
use Rattle.std.specs.Prelude.{◌||◌, ◌&&◌, nat_le, nat_lt, ⊤, Option, Some, None, slice_get}
use Rattle.std.proofs.lemmas.Bool.Decides.{nat_tests}
use Rattle.std.proofs.lemmas.Nat.{mod_below}
use Rattle.fkv_plane.specs.declared.actions.Action.TheVariants as act
use Rattle.fkv_plane.specs.declared.asks.Ask.{Ask}
use Rattle.fkv_plane.specs.declared.asks.Ask.TheVariants.{Load, Store, Swap, Cas, Add, Max, Put, Take, Done}
use Rattle.fkv_plane.specs.declared.places.Places.{Places}
use Rattle.fkv_plane.specs.declared.places.RecordWord.{RecordWord}
use Rattle.fkv_plane.specs.declared.places.RecordWord.TheVariants as rec
use Rattle.fkv_plane.specs.declared.places.SessionWord.{SessionWord}
use Rattle.fkv_plane.specs.declared.places.SessionWord.TheVariants as own
use Rattle.fkv_plane.specs.Asked.{asked_place}
use Rattle.fkv_plane.specs.Passing.{passed}
use Rattle.fkv_plane.specs.Places.{frames_start, record_number, record_place, session_number, session_place, word_count}
use Rattle.fkv_epoch.specs.declared.arming.Arming.TheVariants as arm
use Rattle.fkv_epoch.specs.declared.claiming.Claiming.TheVariants as claim
use Rattle.fkv_epoch.specs.declared.leaving.Leaving.TheVariants as leave
use Rattle.fkv_epoch.specs.declared.leaving.Leaving.{Leaving}
use Rattle.fkv_epoch.specs.declared.protecting.Protecting.TheVariants as protect
use Rattle.fkv_epoch.specs.declared.protecting.Protecting.{Protecting}
use Rattle.fkv_epoch.specs.declared.raising.Raising.TheVariants as raise
use Rattle.fkv_epoch.specs.declared.raising.Raising.{Raising}
use Rattle.fkv_epoch.specs.declared.refreshing.Refreshing.TheVariants as refresh
use Rattle.fkv_epoch.specs.declared.refreshing.Refreshing.{Refreshing}
use Rattle.fkv_epoch.specs.declared.scanning.Scanning.TheVariants as scan
use Rattle.fkv_epoch.specs.declared.arming.Arming.{Arming}
use Rattle.fkv_epoch.specs.Arming.{arm_ask}
use Rattle.fkv_epoch.specs.Claiming.{claim_ask}
use Rattle.fkv_epoch.specs.Leaving.{leave_ask}
use Rattle.fkv_epoch.specs.Protecting.{protect_ask}
use Rattle.fkv_epoch.specs.Raising.{raise_ask}
use Rattle.fkv_epoch.specs.Refreshing.{refresh_ask}
use Rattle.fkv_epoch.specs.Scanning.{scan_ask}
use Rattle.fkv_epoch.specs.EpochWorld.{EpochMachine, EpochWorld, is_own, Protects, Refreshes, Leaves, Scans, Claims, Raises, HasRaised, Arms}
use Rattle.fkv_epoch.proofs.Shown as epochs
use Rattle.fkv_log.specs.declared.filling.Filling.TheVariants as filling
use Rattle.fkv_log.specs.declared.filling.Filling.{Filling}
use Rattle.fkv_log.specs.declared.invalidating.Invalidating.TheVariants as invalidating
use Rattle.fkv_log.specs.declared.invalidating.Invalidating.{Invalidating}
use Rattle.fkv_log.specs.declared.loading.Loading.TheVariants as loading
use Rattle.fkv_log.specs.declared.loading.Loading.{Loading}
use Rattle.fkv_log.specs.declared.reserving.Reserving.TheVariants as reserving
use Rattle.fkv_log.specs.declared.reserving.Reserving.{Reserving}
use Rattle.fkv_log.specs.Filling.{fill_ask}
use Rattle.fkv_log.specs.Invalidating.{invalidate_ask}
use Rattle.fkv_log.specs.Loading.{load_ask}
use Rattle.fkv_log.specs.Reserving.{reserve_ask}
use Rattle.fkv_index.specs.declared.finding.FindStep.{FindStep}
use Rattle.fkv_index.specs.declared.finding.FindStep.TheVariants as find
use Rattle.fkv_index.specs.declared.finding.Finding.{Finding}
use Rattle.fkv_index.specs.declared.publishing.Publishing.{Publishing}
use Rattle.fkv_index.specs.declared.publishing.Publishing.TheVariants as publishing
use Rattle.fkv_index.specs.Finding.{find_ask, find_step_ask}
use Rattle.fkv_index.specs.Publishing.{publish_ask}
use Rattle.fkv_index.specs.Slots.{bucket_slots}
use Rattle.fkv_latch.specs.declared.latching.Latching.{Latching}
use Rattle.fkv_latch.specs.declared.latching.Latching.TheVariants as latching
use Rattle.fkv_latch.specs.Latching.{latch_ask}
use Rattle.fkv_ops.specs.declared.appending.Appending.{Appending}
use Rattle.fkv_ops.specs.declared.appending.Appending.TheVariants as appending
use Rattle.fkv_ops.specs.declared.trying.Trying.{Trying}
use Rattle.fkv_ops.specs.declared.trying.Trying.TheVariants.{Ended, TakesShared, LoadsPhase, Walks, CountsTaken, LoadsSafe, SwapsValue, LoadsCurrent, ChangesValue, LoadsAnswer, TakesExclusive, LoadsOld, Appends, LoadsTail, LoadsTaken, DropsExclusive, DropsShared}
use Rattle.fkv_ops.specs.declared.walking.Walking.{Walking}
use Rattle.fkv_ops.specs.declared.walking.Walking.TheVariants as walking
use Rattle.fkv_ops.specs.Appending.{AppendState, appending_ask}
use Rattle.fkv_ops.specs.Trying.{TryState, trying_ask}
use Rattle.fkv_ops.specs.Walking.{WalkState, walk_ask, walking_ask}
use Rattle.fkv_ops.specs.Requests.{is_read}
use Rattle.fkv_pending.specs.declared.attempting.Attempting.{Attempting}
use Rattle.fkv_pending.specs.declared.attempting.Attempting.TheVariants as attempting
use Rattle.fkv_pending.specs.declared.mailing.Mailing.{Mailing}
use Rattle.fkv_pending.specs.declared.mailing.Mailing.TheVariants as mailing
use Rattle.fkv_pending.specs.declared.pending_requests.PendingRequest.{PendingRequest}
use Rattle.fkv_pending.specs.Attempting.{AttemptState, attempting_ask}
use Rattle.fkv_pending.specs.Mailing.{mail_ask}
use Rattle.fkv_base.specs.declared.shapes.Shape.{Shape}
use Rattle.fkv_log.specs.declared.moving.Moving.{Moving}
use Rattle.fkv_log.specs.declared.moving.Moving.TheVariants as move
use Rattle.fkv_log.specs.declared.moving.Offset.{Offset}
use Rattle.fkv_log.specs.declared.moving.Offset.TheVariants.{ReadOnly, Head}
use Rattle.fkv_log.specs.declared.shifting.Shifting.{Shifting}
use Rattle.fkv_log.specs.declared.shifting.Shifting.TheVariants as shift
use Rattle.fkv_log.specs.declared.turning.Turning.{Turning}
use Rattle.fkv_log.specs.declared.turning.Turning.TheVariants as turn
use Rattle.fkv_log.specs.Moving.{Mover, move_ask, moving_ask, offset_place}
use Rattle.fkv_log.specs.Shifting.{shift_ask, shifting_ask}
use Rattle.fkv_log.specs.Turning.{turn_ask, turning_ask}
use Rattle.fkv_pending.specs.Attempting.{attempt_ask}
use Rattle.fkv_session.specs.declared.catching_up.Catching.{Catching}
use Rattle.fkv_session.specs.declared.catching_up.Catching.TheVariants as catching
use Rattle.fkv_session.specs.declared.own_turns.OwnTurning.{OwnTurning}
use Rattle.fkv_session.specs.declared.own_turns.OwnTurning.TheVariants as turning
use Rattle.fkv_session.specs.declared.sessions.Sitting.{Sitting}
use Rattle.fkv_session.specs.declared.sessions.Sitting.TheVariants.{Idle, Attempts, CatchesUp, ClearsMail, Polls, StoresOwing, StoresCut, LoadsDurable}
use Rattle.fkv_session.specs.declared.sessions.Sitting.TheVariants as session
use Rattle.fkv_session.specs.CatchingUp.{CatchState, catch_ask, catching_ask}
use Rattle.fkv_session.specs.OwnTurns.{OwnTurnState, own_turn_ask, own_turning_ask}
use Rattle.fkv_session.specs.SessionRun.{SessionEvent, session_run}
use Rattle.fkv_session.specs.Shares.{HasItsBuckets}
use Rattle.fkv_session.specs.Sessions.{IsOpened, Seat, SessionState, session_ask, sitting_ask}
use Rattle.fkv_flush.specs.GuardLevels.{Levels, levels_of}
use Rattle.fkv_flush.specs.GuardSeen.{LastSeen}
use Rattle.fkv_flush.specs.GuardWorld as guard
use Rattle.fkv_flush.specs.GuardWorld.{Actor, GuardWorld, Work, epoch_world, is_guarded}
use Rattle.fkv_flush.proofs.Shown.{Awake, Fits, Knows, MoveKnows, ShiftKnows, TurnKnows, machine_at}
use Rattle.law_world.specs.GuardSessions.Followed.{Sits, seat_in}
use Rattle.law_world.specs.GuardSessions.Likenesses.{last_seen}
use Rattle.law_world.specs.GuardSessions.OwnTurns.{own_turn_likeness_at}
use Rattle.law_world.specs.GuardSessions.Rows.{OwnTurnKnows, SittingKnows}
use Rattle.law_world.specs.GuardSessions.Sessions.{sitting_likeness}
use Rattle.law_world.proofs.OfGuardSessions.CatchesOuter.{CatchRow}
use Rattle.law_world.proofs.OfGuardSessions.OwnTurns.{claiming_is, opening_busy, scanning_is, turn_is, work_is}
use Rattle.law_world.proofs.OfGuardSessions.OwnTurnsLed.{shift_asking}
use Rattle.law_world.proofs.OfGuardSessions.SessionsOuter.{IsSessionOuter, SittingRow, its_homes, session_run_outer}
use Rattle.law_world.proofs.OfGuardSessions.AppendsOuter.{PublishesOuter, StepPublishes}
use Rattle.law_world.proofs.OfGuardSessions.AttemptsOuter.{AttemptRow}
use Rattle.law_world.proofs.OfGuardSessions.FindsOuter.{IsAtBucket, StepLinks}
use Rattle.law_world.proofs.OfGuardSessions.OuterAsks.{IsLatchOuter}
use Rattle.law_world.proofs.OfGuardSessions.TriesOuter.{TryRow}
use Rattle.law_world.proofs.OfGuardSessions.WalksOuter.{WalkRow}

-- the place is one of those that there are
abbrev pub IsWithinPlace : Places → Option ℕ → Type 0
IsWithinPlace p None = ⊤
IsWithinPlace p (Some place) = place < word_count p

abbrev pub IsWithin : {A : Type 0} → Places → Ask A → Type 0
IsWithin p ask = IsWithinPlace p (asked_place ask)

pub named_within : (p : Places) (named : Option ℕ) (place : ℕ) → IsWithinPlace p named → named ≡ Some place → place < word_count p
named_within p None place within e = cc
named_within p (Some its) place within e = subst (λ (i : ℕ). i < word_count p) (epochs.some_same its place e) within

-- what is passed on names the same word
pub passed_within : {A B : Type 0} (p : Places) (ask : Ask A) (told : B) → IsWithin p ask → IsWithin p (passed ask told)
unfolding passed
passed_within p (Load place) told within = within
passed_within p (Store place new) told within = within
passed_within p (Swap place new) told within = within
passed_within p (Cas place old new) told within = within
passed_within p (Add place k) told within = within
passed_within p (Max place k) told within = within
passed_within p (Put slot action) told within = tt
passed_within p (Take slot) told within = tt
passed_within p (Done its) told within = tt

-- a record's words, a session's own, and those of the index
three_words : (word : RecordWord) → record_number word < 3
three_words rec.Header = omega arith
three_words rec.Key = omega arith
three_words rec.Value = omega arith

pub record_within : (p : Places) (addr : ℕ) (word : RecordWord) → record_place p addr word < word_count p
record_within p addr word =
    let place : addr % p.ring < p.ring = mod_below addr p.ring p.some_ring in
    let number = three_words word in
    omega (arith, place, number)

pub sixteen_words : (word : SessionWord) → session_number word < 16
sixteen_words own.Epoch = omega arith
sixteen_words own.EvenCut = omega arith
sixteen_words own.OddCut = omega arith
sixteen_words own.Owing = omega arith
sixteen_words own.Durable = omega arith
sixteen_words own.MailState = omega arith
sixteen_words own.MailAddress = omega arith
sixteen_words own.MailHeader = omega arith
sixteen_words own.MailKey = omega arith
sixteen_words own.MailValue = omega arith

pub own_within : (p : Places) (number : ℕ) (word : SessionWord) → number < p.sessions → session_place number word < word_count p
own_within p number word low = let few = sixteen_words word in omega (arith, low, few)

pub low_within : (p : Places) (place : ℕ) → place < 24 → place < word_count p
low_within p place low = omega (arith, low)

neither : (a b : Bool) → (a || b) ≡ false → (a ≡ false) × (b ≡ false)
neither true true e = cc
neither true false e = cc
neither false true e = cc
neither false false e = (refl, refl)

pub outer_low : (p : Places) (place : ℕ) → is_guarded p place ≡ false → place < frames_start p
outer_low p place outer =
    let below : nat_le (frames_start p) place ≡ false = (neither (is_own p.sessions place || nat_le 3 place && nat_lt place 10) (nat_le (frames_start p) place) outer).1 in
    grind (arith, nat_tests, below)

outer_within : (p : Places) (place : ℕ) → is_guarded p place ≡ false → place < word_count p
outer_within p place outer = let low = outer_low p place outer in omega (arith, low)

-- Machines of the epochs. A session's own go by its number alone.
refresh_within : (p : Places) (number : ℕ) (step : Refreshing) → number < p.sessions → IsWithin p (refresh_ask number step)
unfolding refresh_ask
refresh_within p number refresh.AtRest low = tt
refresh_within p number refresh.LoadsEpoch low = omega arith
refresh_within p number (refresh.LoadsPhase epoch) low = omega arith
refresh_within p number (refresh.LoadsReadOnly epoch phase) low = omega arith
refresh_within p number (refresh.LoadsHead epoch phase read_only) low = omega arith
refresh_within p number (refresh.HasLoaded epoch values) low = tt
refresh_within p number (refresh.StoresEpoch epoch) low = own_within p number own.Epoch low

protect_within : (p : Places) (number : ℕ) (step : Protecting) → number < p.sessions → IsWithin p (protect_ask number step)
unfolding protect_ask
protect_within p number protect.AtRest low = tt
protect_within p number protect.LoadsEpoch low = omega arith
protect_within p number (protect.StoresEpoch epoch) low = own_within p number own.Epoch low
protect_within p number protect.LoadsPhase low = omega arith
protect_within p number (protect.LoadsReadOnly phase) low = omega arith
protect_within p number (protect.LoadsHead phase read_only) low = omega arith

leave_within : (p : Places) (number : ℕ) (step : Leaving) → number < p.sessions → IsWithin p (leave_ask number step)
unfolding leave_ask
leave_within p number leave.AtRest low = tt
leave_within p number leave.StoresZero low = own_within p number own.Epoch low

-- what a machine that anybody may drive asks
abbrev pub MachineWithin : Places → EpochMachine → Type 0
MachineWithin p (Scans step) = IsWithin p (scan_ask step)
MachineWithin p (Claims step) = IsWithin p (claim_ask step)
MachineWithin p (Raises step) = IsWithin p (raise_ask step)
MachineWithin p (Arms step) = IsWithin p (arm_ask step)
MachineWithin p machine = ⊤

-- in a sound world the slots that it meets are there, and so are the sessions
pub machine_within : (p : Places) (w : EpochWorld) (a : ℕ) (d : EpochMachine) → w.now.sessions ≡ p.sessions → epochs.IsSound w → slice_get w.now.actors a ≡ Some d → MachineWithin p d
unfolding scan_ask claim_ask raise_ask arm_ask
machine_within p w a (Scans scan.AtRest) same sound got = tt
machine_within p w a (Scans scan.LoadsEpoch) same sound got = omega arith
machine_within p w a (Scans (scan.LoadsSession session least)) same sound got =
    let few = (sound.epochs.knows a (Scans (scan.LoadsSession session least)) got).0 in
    own_within p session own.Epoch (omega (arith, few, same))
machine_within p w a (Scans (scan.RaisesSafe least)) same sound got = omega arith
machine_within p w a (Claims claim.AtRest) same sound got = tt
machine_within p w a (Claims (claim.MeetsSlot slot None)) same sound got = let few = sound.slots.holds a (Claims (claim.MeetsSlot slot None)) got in omega (arith, few)
machine_within p w a (Claims (claim.MeetsSlot slot (Some safe))) same sound got = let few = (sound.slots.holds a (Claims (claim.MeetsSlot slot (Some safe))) got).0 in omega (arith, few)
machine_within p w a (Claims (claim.LoadsSafe slot word)) same sound got = omega arith
machine_within p w a (Claims (claim.TakesSlot slot word safe)) same sound got = let few = (sound.slots.holds a (Claims (claim.TakesSlot slot word safe)) got).0 in omega (arith, few)
machine_within p w a (Claims (claim.Receives slot epoch safe)) same sound got = tt
machine_within p w a (Claims (claim.Runs slot epoch safe (act.SafeReadOnly addr))) same sound got = omega arith
machine_within p w a (Claims (claim.Runs slot epoch safe (act.Close addr))) same sound got = omega arith
machine_within p w a (Claims (claim.Runs slot epoch safe (act.Phase phase version))) same sound got = omega arith
machine_within p w a (Claims (claim.FreesSlot slot safe)) same sound got = let few = (sound.slots.holds a (Claims (claim.FreesSlot slot safe)) got).0 in omega (arith, few)
machine_within p w a (Raises raise.AtRest) same sound got = tt
machine_within p w a (Raises raise.LoadsEpoch) same sound got = omega arith
machine_within p w a (Raises (raise.MeetsSlot slot)) same sound got = let few = sound.slots.holds a (Raises (raise.MeetsSlot slot)) got in omega (arith, few)
machine_within p w a (Raises (raise.HoldsSlot slot)) same sound got = let few = sound.slots.holds a (Raises (raise.HoldsSlot slot)) got in omega (arith, few)
machine_within p w a (Raises (raise.HasSlot slot)) same sound got = tt
machine_within p w a (Raises (raise.RaisesEpoch slot)) same sound got = omega arith
machine_within p w a (Arms arm.AtRest) same sound got = tt
machine_within p w a (Arms (arm.PutsAction slot epoch)) same sound got = tt
machine_within p w a (Arms (arm.StoresEpoch slot epoch)) same sound got = let few = (sound.slots.holds a (Arms (arm.StoresEpoch slot epoch)) got).0 in omega (arith, few)
machine_within p w a (Protects step) same sound got = tt
machine_within p w a (Refreshes step) same sound got = tt
machine_within p w a (Leaves step) same sound got = tt
machine_within p w a (HasRaised slot epoch) same sound got = tt

-- Machines of the log.
load_within : (p : Places) (step : Loading) → IsWithin p (load_ask p step)
unfolding load_ask
load_within p loading.AtRest = tt
load_within p (loading.LoadsHeader addr) = record_within p addr.0 rec.Header
load_within p (loading.LoadsKey addr header) = record_within p addr.0 rec.Key
load_within p (loading.HasKey addr header key) = tt
load_within p (loading.LoadsValue addr header key) = record_within p addr.0 rec.Value

reserve_within : (p : Places) (step : Reserving) → IsWithin p (reserve_ask step)
unfolding reserve_ask
reserve_within p reserving.AtRest = tt
reserve_within p (reserving.LoadsLimit bound) = omega arith
reserve_within p (reserving.LoadsTail limit) = omega arith
reserve_within p (reserving.TakesTail tail) = omega arith

fill_within : (p : Places) (step : Filling) → IsWithin p (fill_ask p step)
unfolding fill_ask
fill_within p filling.AtRest = tt
fill_within p (filling.StoresValue addr its_words) = record_within p addr.0 rec.Value
fill_within p (filling.StoresKey addr its_words) = record_within p addr.0 rec.Key
fill_within p (filling.StoresHeader addr its_words) = record_within p addr.0 rec.Header

invalidate_within : (p : Places) (step : Invalidating) → IsWithin p (invalidate_ask p step)
unfolding invalidate_ask
invalidate_within p invalidating.AtRest = tt
invalidate_within p (invalidating.StoresHeader addr header) = record_within p addr.0 rec.Header

-- Machines of the index, by where they are.
bucket_within : (p : Places) (f : Finding) (slot : ℕ) → IsAtBucket p f → slot < 8 → f.base + slot < word_count p
bucket_within p f slot its low = let base = its.its_base in let few = its.few in omega (arith, base, few, low)

pub find_within : (p : Places) (f : Finding) (step : FindStep) → IsAtBucket p f → StepLinks f.spare step → IsWithin p (find_step_ask f step)
unfolding find_step_ask
find_within p f find.AtRest its links = tt
find_within p f (find.LoadsSlot slot) its links = bucket_within p f slot its (omega (arith, links))
find_within p f find.LoadsLink its links = bucket_within p f bucket_slots its (omega arith)
find_within p f (find.LoadsTaken word) its links = omega arith
find_within p f (find.TakesBucket word taken) its links = omega arith
find_within p f (find.LinksBucket word) its links = bucket_within p f bucket_slots its (omega arith)

publish_within : (p : Places) (step : Publishing) → PublishesOuter p step → IsWithin p (publish_ask step)
unfolding publish_ask
publish_within p publishing.AtRest outer = tt
publish_within p (publishing.SwapsEntry place word entry) outer = outer_within p place outer

latch_within : (p : Places) (step : Latching) → IsLatchOuter p step → IsWithin p (latch_ask step)
unfolding latch_ask
latch_within p latching.AtRest outer = tt
latch_within p (latching.AddsShare place) outer = outer_within p place outer
latch_within p (latching.GivesBack place) outer = outer_within p place outer
latch_within p (latching.DropsShare place) outer = outer_within p place outer
latch_within p (latching.LoadsWord place) outer = outer_within p place outer
latch_within p (latching.SetsExclusive place word) outer = outer_within p place outer
latch_within p (latching.DropsExclusive place) outer = outer_within p place outer

-- A try and its parts.
walk_within : (p : Places) (reads : Bool) (w : WalkState) (step : Walking) → WalkRow p reads w step → IsWithin p (walking_ask p w step)
unfolding walking_ask
walk_within p reads w (walking.Ended its) row = tt
walk_within p reads w walking.Finds row = passed_within p (find_ask w.finding) _ (find_within p w.finding w.finding.step row.0 row.0.links)
walk_within p reads w (walking.Meets addr) row = passed_within p (load_ask p w.loading) _ (load_within p w.loading)
walk_within p reads w (walking.HasFound addr version) row = tt
walk_within p reads w walking.LoadsValue row = passed_within p (load_ask p w.loading) _ (load_within p w.loading)

append_within : (p : Places) (a : AppendState) (step : Appending) → StepPublishes p a step → IsWithin p (appending_ask p a step)
unfolding appending_ask
append_within p a (appending.Ended its) row = tt
append_within p a appending.Reserves row = passed_within p (reserve_ask a.reserving) _ (reserve_within p a.reserving)
append_within p a (appending.Fills addr) row = passed_within p (fill_ask p a.filling) _ (fill_within p a.filling)
append_within p a (appending.Publishes addr) row = passed_within p (publish_ask a.publishing) _ (publish_within p a.publishing row)
append_within p a appending.Invalidates row = passed_within p (invalidate_ask p a.invalidating) _ (invalidate_within p a.invalidating)

try_within : (p : Places) (t : TryState) (step : Trying) → TryRow p t step → IsWithin p (trying_ask p t step)
unfolding trying_ask
try_within p t (Ended its) row = tt
try_within p t TakesShared row = passed_within p (latch_ask t.latching) _ (latch_within p t.latching row)
try_within p t LoadsPhase row = omega arith
try_within p t Walks row = passed_within p (walk_ask p t.walk) _ (walk_within p (is_read t.request.op) t.walk t.walk.step row)
try_within p t CountsTaken row = omega arith
try_within p t (LoadsSafe addr version) row = omega arith
try_within p t (SwapsValue addr) row = record_within p addr.0 rec.Value
try_within p t (LoadsCurrent addr) row = passed_within p (walk_ask p t.walk) _ (walk_within p false t.walk t.walk.step row)
try_within p t (ChangesValue addr old) row = record_within p addr.0 rec.Value
try_within p t LoadsAnswer row = passed_within p (walk_ask p t.walk) _ (walk_within p (is_read t.request.op) t.walk t.walk.step row)
try_within p t (TakesExclusive old) row = passed_within p (latch_ask t.latching) _ (latch_within p t.latching row.0)
try_within p t LoadsOld row = passed_within p (walk_ask p t.walk) _ (walk_within p false t.walk t.walk.step row)
try_within p t (Appends its) row = passed_within p (appending_ask p t.append t.append.step) _ (append_within p t.append t.append.step row.publishes)
try_within p t (LoadsTail waiting) row = omega arith
try_within p t (LoadsTaken waiting) row = omega arith
try_within p t (DropsExclusive its) row = passed_within p (latch_ask t.latching) _ (latch_within p t.latching row)
try_within p t (DropsShared its) row = passed_within p (latch_ask t.latching) _ (latch_within p t.latching row)

mail_within : (p : Places) (number : ℕ) (step : Mailing) → number < p.sessions → IsWithin p (mail_ask number step)
unfolding mail_ask
mail_within p number (mailing.Ended its) low = tt
mail_within p number (mailing.LoadsState task) low = own_within p number own.MailState low
mail_within p number mailing.LoadsHeader low = own_within p number own.MailHeader low
mail_within p number (mailing.LoadsKey header) low = own_within p number own.MailKey low
mail_within p number (mailing.LoadsValue header key) low = own_within p number own.MailValue low
mail_within p number (mailing.StoresEmpty its) low = own_within p number own.MailState low
mail_within p number (mailing.StoresAddress addr) low = own_within p number own.MailAddress low
mail_within p number mailing.StoresAsked low = own_within p number own.MailState low

attempt_within : (p : Places) (number : ℕ) (a : AttemptState) (step : Attempting) → number < p.sessions → AttemptRow p a step → IsWithin p (attempting_ask p number a step)
unfolding attempting_ask
attempt_within p number a (attempting.Ended its) low row = tt
attempt_within p number a attempting.Looks low row = passed_within p (mail_ask number a.mailing) _ (mail_within p number a.mailing low)
attempt_within p number a attempting.Tries low row = passed_within p (trying_ask p a.trial a.trial.step) _ (try_within p a.trial a.trial.step row.row)
attempt_within p number a attempting.Puts low row = passed_within p (mail_ask number a.mailing) _ (mail_within p number a.mailing low)

catch_within : (p : Places) (number : ℕ) (c : CatchState) (requests : List PendingRequest) (step : Catching) → number < p.sessions → CatchRow p c step → IsWithin p (catching_ask p number c requests step)
unfolding catching_ask
catch_within p number c requests catching.Ended low row = tt
catch_within p number c requests catching.Refreshes low row = passed_within p (refresh_ask number c.refreshing) _ (refresh_within p number c.refreshing low)
catch_within p number c requests catching.Protects low row = passed_within p (protect_ask number c.protecting) _ (protect_within p number c.protecting low)
catch_within p number c requests catching.StoresCut low row = own_within p number _ low
catch_within p number c requests catching.StoresOwing low row = own_within p number own.Owing low
catch_within p number c requests (catching.Latches index) low row = passed_within p (latch_ask c.latching) _ (latch_within p c.latching row)
catch_within p number c requests catching.Finishes low row = passed_within p (refresh_ask number c.refreshing) _ (refresh_within p number c.refreshing low)

-- A turn.
offset_within : (p : Places) (offset : Offset) → offset_place offset < word_count p
offset_within p ReadOnly = omega arith
offset_within p Head = omega arith

move_within : (l : Levels) (p : Places) (d : EpochMachine) (step : Moving) (raising : Raising) (arming : Arming) → MoveKnows l d step raising arming → MachineWithin p d → IsWithin p (moving_ask step raising arming)
unfolding moving_ask
move_within l p d move.AtRest raising arming knows its = tt
move_within l p d (move.Raises target) raising arming knows its = passed_within p (raise_ask raising) _ (subst (λ (machine : EpochMachine). MachineWithin p machine) knows.0 its)
move_within l p d (move.MovesOffset target) raising arming knows its = offset_within p target.offset
move_within l p d (move.Puts target slot) raising arming knows its = tt
move_within l p d move.Arms raising (arm.StoresEpoch slot epoch) knows its = passed_within p (arm_ask (arm.StoresEpoch slot epoch)) _ (subst (λ (machine : EpochMachine). MachineWithin p machine) knows its)
move_within l p d move.Arms raising arming knows its = absurd knows

pub shift_within : (l : Levels) (p : Places) (d : EpochMachine) (step : Shifting) (m : Mover) → ShiftKnows l d step m → MachineWithin p d → IsWithin p (shifting_ask step m)
unfolding shifting_ask
shift_within l p d shift.AtRest m knows its = tt
shift_within l p d shift.LoadsTail m knows its = omega arith
shift_within l p d (shift.LoadsReadOnly tail) m knows its = omega arith
shift_within l p d (shift.Moves tail) m knows its = passed_within p (move_ask m) _ (move_within l p d m.step m.raising m.arming knows its)

pub turn_within : (shape : Shape) (l : Levels) (p : Places) (d : EpochMachine) (step : Turning) (m : Mover) → TurnKnows shape l d step m → MachineWithin p d → IsWithin p (turning_ask shape step m)
unfolding turning_ask
turn_within shape l p d turn.AtRest m knows its = tt
turn_within shape l p d (turn.LoadsLimit form tail) m knows its = omega arith
turn_within shape l p d (turn.LoadsClosed form limit) m knows its = omega arith
turn_within shape l p d (turn.RaisesLimit limit) m knows its = omega arith
turn_within shape l p d (turn.LoadsHead end) m knows its = omega arith
turn_within shape l p d (turn.LoadsFlushed end) m knows its = omega arith
turn_within shape l p d turn.Moves m knows its = passed_within p (move_ask m) _ (move_within l p d m.step m.raising m.arming knows its)

module _ (w : GuardWorld) (number : ℕ) (x : Actor) (s : SessionState) (sits : Sits w number x s) where
  abbrev P : Places
  P = w.now.places

  its_machine : MachineWithin P x.machine
  its_machine = machine_within P (epoch_world w) number x.machine refl sits.sound.epochs (machine_at w.now.actors number x sits.got)

  own_turn_within : (seen : LastSeen) (o : OwnTurnState) (step : OwnTurning) → OwnTurnKnows o step → Fits (own_turn_likeness_at seen o step) x → IsWithin P (own_turning_ask w.now.shape o step)
  unfolding own_turning_ask
  own_turn_within seen o turning.Ended knows fits = tt
  own_turn_within seen o turning.Scans knows fits = passed_within P (scan_ask o.scanning) _ (subst (λ (machine : EpochMachine). MachineWithin P machine) (scanning_is o.scanning x.machine knows fits.machine) its_machine)
  own_turn_within seen o turning.Claims knows fits = passed_within P (claim_ask o.claiming) _ (subst (λ (machine : EpochMachine). MachineWithin P machine) (claiming_is o.claiming x.machine knows fits.machine) its_machine)
  own_turn_within seen o turning.Shifts knows fits =
      let its : x.work ≡ guard.Shifts o.shift = work_is o.shift x.work (shift_asking o.shift.step o.shift.mover knows) fits.work in
      let known : ShiftKnows (levels_of w.now.words) x.machine o.shift.step o.shift.mover =
      subst (λ (work : Work). Knows w.now.shape (levels_of w.now.words) (Awake w.now number x.machine) x.machine x.undecided work) its (sits.sound.knows number x sits.got) in
      passed_within P (shift_ask o.shift) _ (shift_within (levels_of w.now.words) P x.machine o.shift.step o.shift.mover known its_machine)
  own_turn_within seen o turning.Opens knows fits =
      let its : x.work ≡ guard.Turns o.turn = turn_is o.turn x.work (opening_busy o.turn.step o.turn.mover knows.1) fits.work in
      let known : TurnKnows w.now.shape (levels_of w.now.words) x.machine o.turn.step o.turn.mover =
      subst (λ (work : Work). Knows w.now.shape (levels_of w.now.words) (Awake w.now number x.machine) x.machine x.undecided work) its (sits.sound.knows number x sits.got) in
      passed_within P (turn_ask w.now.shape o.turn) _ (turn_within w.now.shape (levels_of w.now.words) P x.machine o.turn.step o.turn.mover known its_machine)

  sitting_within : (step : Sitting) → SittingRow P s step → SittingKnows s step → Fits (sitting_likeness s step) x → IsWithin P (sitting_ask (seat_in w.now number) s step)
  unfolding sitting_ask
  sitting_within (Idle its) row knows fits = tt
  sitting_within (Attempts has_shifted) row knows fits = passed_within P (attempt_ask P number s.attempt) _ (attempt_within P number s.attempt s.attempt.step sits.below row)
  sitting_within (CatchesUp cause) row knows fits = passed_within P (catch_ask P number s.catching s.requests) _ (catch_within P number s.catching s.requests s.catching.step sits.below row)
  sitting_within ClearsMail row knows fits = passed_within P (mail_ask number s.mailing) _ (mail_within P number s.mailing sits.below)
  sitting_within (Polls index) row knows fits = passed_within P (attempt_ask P number s.attempt) _ (attempt_within P number s.attempt s.attempt.step sits.below row)
  sitting_within (StoresOwing index) row knows fits = own_within P number own.Owing sits.below
  sitting_within (session.Turns its) row knows fits = passed_within P (own_turn_ask w.now.shape s.own_turn) _ (own_turn_within (last_seen s.seen) s.own_turn s.own_turn.step knows fits)
  sitting_within StoresCut row knows fits = own_within P number _ sits.below
  sitting_within session.Leaves row knows fits = passed_within P (leave_ask number s.leaving) _ (leave_within P number s.leaving sits.below)
  sitting_within LoadsDurable row knows fits = own_within P number own.Durable sits.below

pub session_within : (w : GuardWorld) (number : ℕ) (x : Actor) (s : SessionState) → Sits w number x s → IsSessionOuter w.now.places s → IsWithin w.now.places (session_ask (seat_in w.now number) s)
session_within w number x s sits row = sitting_within w number x s sits s.step row sits.knows sits.fits

-- so it is of a session's run
pub run_within : (w : GuardWorld) (number : ℕ) (x : Actor) (k : Seat) (opening : SessionState) (events : List SessionEvent) → IsOpened opening → HasItsBuckets k → k.places ≡ w.now.places → Sits w number x (session_run k opening events)
    → IsWithin w.now.places (session_ask (seat_in w.now number) (session_run k opening events))
run_within w number x k opening events opened its same sits =
    session_within w number x (session_run k opening events) sits
    (subst (λ (p : Places). IsSessionOuter p (session_run k opening events)) same (session_run_outer k (its_homes k its) opening events opened))
