-- A step of a session leaves its epoch word as it is, but where it refreshes, protects itself or leaves.
use Rattle.std.proofs.Common.{◌≡◌, ◌≢◌, ℕ, ◌+◌, ◌-◌, ◌*◌, ◌%◌, ◌<◌, ◌∙◌, List, refl, sym, ap, subst, arith, true, false}
use Rattle.std.specs.Prelude.{Option, Some, None, slice_get, nat_lt, nat_le, ◌==◌}
use Rattle.std.proofs.lemmas.Bool.Decides.{nat_tests}
use Rattle.fkv_plane.specs.declared.asks.Ask.{Ask}
use Rattle.fkv_plane.specs.declared.places.Places.{Places}
use Rattle.fkv_plane.specs.declared.places.SessionWord.TheVariants as own
use Rattle.fkv_plane.specs.declared.places.RecordWord.{RecordWord}
use Rattle.fkv_plane.specs.declared.places.RecordWord.TheVariants as rec
use Rattle.fkv_plane.specs.Places.{session_place, record_place}
use Rattle.fkv_plane.specs.Asked.{words_after}
use Rattle.fkv_plane.specs.Passing.{passed}
use Rattle.fkv_epoch.specs.declared.leaving.Leaving.TheVariants as leave
use Rattle.fkv_epoch.specs.EpochWorld as epochs
use Rattle.fkv_epoch.specs.EpochWorld.{EpochMachine, machine_step, moved, own_epoch, is_own, epoch_happens}
use Rattle.fkv_epoch.specs.Protected.{StaysProtected, is_protecting}
use Rattle.fkv_epoch.proofs.Shown.{some_same, is_protected, stays_protected}
use Rattle.fkv_log.specs.declared.reserving.Reserving.{Reserving}
use Rattle.fkv_log.specs.declared.reserving.Reserving.TheVariants as reserving
use Rattle.fkv_log.specs.declared.filling.Filling.{Filling}
use Rattle.fkv_log.specs.declared.filling.Filling.TheVariants as filling
use Rattle.fkv_log.specs.declared.invalidating.Invalidating.{Invalidating}
use Rattle.fkv_log.specs.declared.invalidating.Invalidating.TheVariants as invalidating
use Rattle.fkv_log.specs.Reserving.{reserve_ask}
use Rattle.fkv_log.specs.Filling.{fill_ask}
use Rattle.fkv_log.specs.Invalidating.{invalidate_ask}
use Rattle.fkv_flush.specs.GuardAsks.{writes}
use Rattle.fkv_flush.specs.GuardWorld.{Actor, GuardWorld, epoch_now, epoch_world, is_guarded}
use Rattle.fkv_flush.proofs.Shown.{IsSound, machine_at, Spares, spared, writes_passed}
use Rattle.fkv_ops.specs.declared.appending.Appending.{Appending}
use Rattle.fkv_ops.specs.declared.appending.Appending.TheVariants as appending
use Rattle.fkv_ops.specs.declared.answers.TryAnswer.TheVariants as answer
use Rattle.fkv_ops.specs.declared.appending.AppendAnswer.TheVariants as append
use Rattle.fkv_ops.specs.declared.trying.Trying.{Trying}
use Rattle.fkv_ops.specs.declared.trying.Trying.TheVariants.{SwapsValue, ChangesValue, Appends}
use Rattle.fkv_ops.specs.Appending.{AppendState, appending_ask, append_ask}
use Rattle.fkv_ops.specs.Trying.{TryState, trying_ask, try_ask}
use Rattle.fkv_pending.specs.declared.attempting.Attempting.{Attempting}
use Rattle.fkv_pending.specs.declared.attempting.Attempting.TheVariants.{Tries}
use Rattle.fkv_pending.specs.Attempting.{AttemptState, attempting_ask, attempt_ask}
use Rattle.law_world.specs.GuardSessions.Steps.{IsOuter, IsOuterPlace}
use Rattle.law_world.specs.GuardSessions.Tries.{AppendWritesOuter, TryWritesOuter}
use Rattle.law_world.specs.GuardSessions.Attempts.{AttemptWritesOuter}
use Rattle.law_world.proofs.OfGuardSessions.OwnWords.{attempt_outer}
use Rattle.law_world.proofs.OfGuardSessions.Tries.{append_owes, try_owes}

-- a machine of the epochs that isn't about to leave
pub machine_keeps : (w : GuardWorld) (a : ℕ) (x : Actor) (m : EpochMachine) → IsSound w → slice_get w.now.actors a ≡ Some x → x.machine ≡ m → a < w.now.places.sessions → (m ≡ epochs.Leaves leave.StoresZero → ⊥) → 0 < own_epoch w.now.words a
    → 0 < own_epoch (machine_step w.now.places.sessions a w.now.words w.now.actions m).words a
unfolding StaysProtected epoch_happens
machine_keeps w a x m sound got e below stays some =
    let at : slice_get (epoch_now w.now).actors a ≡ Some m = machine_at w.now.actors a x got ∙ ap Some e in
    subst (λ f. 0 < own_epoch (moved (epoch_now w.now) a f).words a) at
    (stays_protected (epoch_world w) (epochs.Moves a) sound.epochs a below some (λ z. stays (some_same m (epochs.Leaves leave.StoresZero) (sym at ∙ z.is_leaving))))

-- one that is past the store of its epoch has it there
pub machine_protected : (w : GuardWorld) (a : ℕ) (x : Actor) (m : EpochMachine) → IsSound w → slice_get w.now.actors a ≡ Some x → x.machine ≡ m → a < w.now.places.sessions → is_protecting m ≡ true → 0 < own_epoch w.now.words a
machine_protected w a x m sound got e below protecting = is_protected (epoch_world w) sound.epochs a m below (machine_at w.now.actors a x got ∙ ap Some e) protecting

-- a session's epoch word is the guard's
epoch_is_guarded : (p : Places) (a : ℕ) → a < p.sessions → is_guarded p (session_place a own.Epoch) ≡ true
epoch_is_guarded p a below =
    let low : nat_lt (session_place a own.Epoch) 2 ≡ false = grind (arith, nat_tests) in
    let drain : nat_lt (session_place a own.Epoch) 24 ≡ false = grind (arith, nat_tests) in
    let over : nat_le 16 (session_place a own.Epoch) ≡ true = grind (arith, nat_tests) in
    let first : nat_le 24 (session_place a own.Epoch) ≡ true = grind (arith, nat_tests) in
    let last : nat_lt (session_place a own.Epoch) (24 + 16 * p.sessions) ≡ true = grind (arith, nat_tests, below) in
    let whole : ((session_place a own.Epoch - 24) % 16 == 0) ≡ true = grind (arith, nat_tests) in
    rw (low, drain, over, first, last, whole) refl

outer_spares : (p : Places) (a : ℕ) (at : Option ℕ) → a < p.sessions → IsOuterPlace p at → Spares at (session_place a own.Epoch)
outer_spares p a None below outer = tt
outer_spares p a (Some place) below outer = λ same. let clash : true ≡ false = sym (epoch_is_guarded p a below) ∙ ap (is_guarded p) same ∙ outer in cc

record_spares : (p : Places) (a addr : ℕ) (word : RecordWord) → a < p.sessions → session_place a own.Epoch ≢ record_place p addr word
record_spares p a addr word below = λ same. omega (arith, same, below)

reserve_spares : (a : ℕ) (r : Reserving) → Spares (writes (reserve_ask r)) (session_place a own.Epoch)
unfolding reserve_ask
reserve_spares a reserving.AtRest = tt
reserve_spares a (reserving.LoadsLimit bound) = tt
reserve_spares a (reserving.LoadsTail limit) = tt
reserve_spares a (reserving.TakesTail tail) = λ same. omega (arith, same)

fill_spares : (p : Places) (a : ℕ) (f : Filling) → a < p.sessions → Spares (writes (fill_ask p f)) (session_place a own.Epoch)
unfolding fill_ask
fill_spares p a filling.AtRest below = tt
fill_spares p a (filling.StoresValue addr its_words) below = record_spares p a addr.0 rec.Value below
fill_spares p a (filling.StoresKey addr its_words) below = record_spares p a addr.0 rec.Key below
fill_spares p a (filling.StoresHeader addr its_words) below = record_spares p a addr.0 rec.Header below

invalidate_spares : (p : Places) (a : ℕ) (i : Invalidating) → a < p.sessions → Spares (writes (invalidate_ask p i)) (session_place a own.Epoch)
unfolding invalidate_ask
invalidate_spares p a invalidating.AtRest below = tt
invalidate_spares p a (invalidating.StoresHeader addr header) below = record_spares p a addr.0 rec.Header below

pub passed_spares : {A B : Type 0} (ask : Ask A) (told : B) (place : ℕ) → Spares (writes ask) place → Spares (writes (passed ask told)) place
passed_spares ask told place spares = subst (λ at. Spares at place) (sym (writes_passed ask told)) spares

append_spares : (p : Places) (a : ℕ) (s : AppendState) (step : Appending) → a < p.sessions → AppendWritesOuter p step (appending_ask p s step) → Spares (writes (appending_ask p s step)) (session_place a own.Epoch)
unfolding appending_ask
append_spares p a s (appending.Ended its) below owes = tt
append_spares p a s appending.Reserves below owes = passed_spares (reserve_ask s.reserving) append.Contended (session_place a own.Epoch) (reserve_spares a s.reserving)
append_spares p a s (appending.Fills addr) below owes = passed_spares (fill_ask p s.filling) append.Contended (session_place a own.Epoch) (fill_spares p a s.filling below)
append_spares p a s (appending.Publishes addr) below owes = outer_spares p a (writes (appending_ask p s (appending.Publishes addr))) below owes
append_spares p a s appending.Invalidates below owes = passed_spares (invalidate_ask p s.invalidating) append.Contended (session_place a own.Epoch) (invalidate_spares p a s.invalidating below)

try_spares : (p : Places) (a : ℕ) (t : TryState) (step : Trying) → a < p.sessions → TryWritesOuter p t step (trying_ask p t step) → Spares (writes (trying_ask p t step)) (session_place a own.Epoch)
unfolding trying_ask
try_spares p a t (SwapsValue addr) below owes = record_spares p a addr.0 rec.Value below
try_spares p a t (ChangesValue addr old) below owes = record_spares p a addr.0 rec.Value below
try_spares p a t (Appends its) below owes =
    passed_spares (append_ask p t.append) answer.Shift (session_place a own.Epoch) (append_spares p a t.append t.append.step below (subst (λ (o : Type 0). o) (append_owes p t.append.step (append_ask p t.append) answer.Shift) owes))
try_spares p a t step below owes = outer_spares p a (writes (trying_ask p t step)) below owes

attempting_spares : (p : Places) (a : ℕ) (s : AttemptState) (step : Attempting) → a < p.sessions → AttemptWritesOuter p s step (attempting_ask p a s step) → Spares (writes (attempting_ask p a s step)) (session_place a own.Epoch)
unfolding attempting_ask
attempting_spares p a s Tries below owes =
    passed_spares (try_ask p s.trial) answer.Shift (session_place a own.Epoch) (try_spares p a s.trial s.trial.step below (subst (λ (o : Type 0). o) (try_owes p s.trial s.trial.step (try_ask p s.trial) answer.Shift) owes))
attempting_spares p a s step below owes = outer_spares p a (writes (attempting_ask p a s step)) below (attempt_outer p a s step below refl)

pub attempt_spares : (p : Places) (a : ℕ) (s : AttemptState) → a < p.sessions → AttemptWritesOuter p s s.step (attempt_ask p a s) → Spares (writes (attempt_ask p a s)) (session_place a own.Epoch)
attempt_spares p a s below owes = attempting_spares p a s s.step below owes

-- an ask that spares the epoch word leaves it
pub ask_keeps : {A : Type 0} (words : List ℕ) (a : ℕ) (ask : Ask A) → Spares (writes ask) (session_place a own.Epoch) → 0 < own_epoch words a → 0 < own_epoch (words_after words ask) a
ask_keeps words a ask spares some = let same = spared words ask (session_place a own.Epoch) spares in omega (arith, same, some)

pub outer_keeps : {A : Type 0} (p : Places) (words : List ℕ) (a : ℕ) (ask : Ask A) → a < p.sessions → IsOuter p ask → 0 < own_epoch words a → 0 < own_epoch (words_after words ask) a
outer_keeps p words a ask below outer some = ask_keeps words a ask (outer_spares p a (writes ask) below outer) some
