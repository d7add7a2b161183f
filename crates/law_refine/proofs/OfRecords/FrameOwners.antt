-- Whose the record is whose frame a session's next step may write: the session changes it in place, or has reserved it. So the record has its frame.
use Rattle.std.proofs.Common.{[], ◌≡◌, ℕ, ◌≤◌, ◌∙◌, refl, sym, ap, subst, arith, true, List}
use Rattle.std.specs.Prelude.{Option, Some, slice_get}
use Rattle.fkv_base.specs.declared.numbers.Addr.{Addr}
use Rattle.fkv_plane.specs.declared.places.RecordWord.TheVariants as rec
use Rattle.fkv_epoch.specs.EpochWorld.{EpochMachine, Protects, Sight, is_at_rest}
use Rattle.fkv_epoch.specs.declared.protecting.Protecting.TheVariants as protect
use Rattle.fkv_epoch.specs.Once.{goes_by}
use Rattle.fkv_epoch.proofs.Shown.{some_same}
use Rattle.law_world.specs.Below.fkv_log.TheFilling.{Filling}
use Rattle.law_world.specs.Below.fkv_log.TheFilling.TheVariants as fill
use Rattle.law_world.specs.Below.fkv_log.TheInvalidating.{Invalidating}
use Rattle.law_world.specs.Below.fkv_log.TheInvalidating.TheVariants as invalidate
use Rattle.law_world.specs.Below.fkv_log.RecordWords.{RecordWords}
use Rattle.law_world.specs.Below.fkv_flush.Guarded.{GoesBy, seen_at, seen_of}
use Rattle.law_world.specs.Below.fkv_flush.GuardLevels.{levels_of}
use Rattle.law_world.specs.Below.fkv_flush.GuardSeen.{LastSeen}
use Rattle.law_world.specs.Below.fkv_flush.GuardWorld.{Actor, GuardWorld}
use Rattle.law_world.proofs.Below.fkv_flush.Shown.{machine_at, FitsMachine}
use Rattle.law_world.specs.Below.fkv_ops.TheAppending.{Appending}
use Rattle.law_world.specs.Below.fkv_ops.TheAppending.TheVariants as appending
use Rattle.law_world.specs.Below.fkv_ops.TheTrying.{Trying}
use Rattle.law_world.specs.Below.fkv_ops.TheTrying.TheVariants.{SwapsValue, ChangesValue, Appends}
use Rattle.law_world.specs.Below.fkv_ops.Appending.{AppendState}
use Rattle.law_world.specs.Below.fkv_ops.Trying.{TryState}
use Rattle.law_world.specs.Below.fkv_pending.TheAttempting.{Attempting}
use Rattle.law_world.specs.Below.fkv_pending.TheAttempting.TheVariants.{Tries}
use Rattle.law_world.specs.Below.fkv_pending.PendingRequest.{PendingRequest}
use Rattle.law_world.specs.Below.fkv_pending.Attempting.{AttemptState}
use Rattle.law_world.specs.Below.fkv_session.Sitting.{Sitting}
use Rattle.law_world.specs.Below.fkv_session.Sitting.TheVariants.{Attempts, Polls}
use Rattle.law_world.specs.Below.fkv_session.Sessions.{SessionState}
use Rattle.law_world.specs.GuardSessions.Attempts.{attempt_likeness_at}
use Rattle.law_world.specs.GuardSessions.Followed.{Sits}
use Rattle.law_world.specs.GuardSessions.Likenesses.{last_seen}
use Rattle.law_world.specs.GuardSessions.InPlace.{try_changes, attempt_changes, sitting_changes, changed_in_place, SessionMayChange}
use Rattle.law_world.specs.GuardSessions.Sessions.{sitting_likeness, is_protected_at}
use Rattle.law_world.specs.GuardSessions.Tries.{try_likeness_at}
use Rattle.law_world.specs.Below.fkv_world.Runs.{World, run}
use Rattle.law_world.specs.Below.fkv_world.World.{Event, Now}
use Rattle.law_world.specs.Guarded.Shows.{IsOpened, seen_by_guard}
use Rattle.law_world.proofs.OfGuarded.Worlds.{life_shows}
use Rattle.law_refine.specs.Events.Appends.{NewRecord}
use Rattle.law_refine.specs.Events.GhostEvents.{safe_at}
use Rattle.law_refine.specs.Events.Reservations.{Reservation, reservation, append_reserves, invalidate_reserves, try_reserves, attempt_reserves}
use Rattle.law_refine.specs.Events.Reserved.{sitting_reserves, reserved_by}
use Rattle.law_refine.proofs.OfEvents.Apart.{reserved_open}
use Rattle.law_refine.proofs.OfEvents.Fixed.{life_rises}
use Rattle.law_world.proofs.OfGuarded.BelowTail.{life_above}
use Rattle.law_refine.specs.Records.Frames.{IsAttempting}
use Rattle.law_refine.proofs.OfRecords.AppendRows.{Standing, FillStands, AppendStands}
use Rattle.law_refine.proofs.OfRecords.AttemptRows.{TriesAt}
use Rattle.law_refine.proofs.OfRecords.FrameWords.{FrameWord, fill_word, invalidate_word, append_word, try_word, attempt_word, sitting_word}
use Rattle.law_refine.proofs.OfRecords.SessionRows.{StepIsSo}
use Rattle.law_refine.proofs.OfRecords.Standing.{HasFrame}
use Rattle.law_refine.proofs.OfRecords.TryRows.{TryStands}

-- it changes this address in place, or has reserved this
pub data IsOwner (changed : Option ℕ) (reserved : Option Reservation) (f : FrameWord) : Type 0 where
  ByChange : changed ≡ Some f.addr → f.word ≡ rec.Value → IsOwner changed reserved f
  ByReservation : (its : Reservation) → reserved ≡ Some its → its.addr ≡ f.addr → IsOwner changed reserved f

-- ---- by the control state
its_addr : (x f : FrameWord) → Some x ≡ Some f → x.addr ≡ f.addr
its_addr x f e = ap (λ (y : FrameWord). y.addr) (some_same x f e)

its_word : (x f : FrameWord) → Some x ≡ Some f → f.word ≡ x.word
its_word x f e = ap (λ (y : FrameWord). y.word) (sym (some_same x f e))

fill_owner : (stands : Standing) (addr : Addr) (its_words : RecordWords) (filling : Filling) (f : FrameWord) → FillStands stands addr its_words filling → fill_word filling ≡ Some f → addr.0 ≡ f.addr
fill_owner stands addr its_words fill.AtRest f so e = absurd so
fill_owner stands addr its_words (fill.StoresValue at its) f so e = ap (λ (a : Addr). a.0) (sym so.0) ∙ its_addr (record { addr = at.0; word = rec.Value }) f e
fill_owner stands addr its_words (fill.StoresKey at its) f so e = ap (λ (a : Addr). a.0) (sym so.0) ∙ its_addr (record { addr = at.0; word = rec.Key }) f e
fill_owner stands addr its_words (fill.StoresHeader at its) f so e = ap (λ (a : Addr). a.0) (sym so.0) ∙ its_addr (record { addr = at.0; word = rec.Header }) f e

record HasReservation (reserved : Option Reservation) (f : FrameWord) : Type 0 where
  its : Reservation
  reserved_so : reserved ≡ Some its
  addr_so : its.addr ≡ f.addr

invalidate_owner : (a : AppendState) (made : NewRecord) (step : Invalidating) (f : FrameWord) → invalidate_word step ≡ Some f → HasReservation (invalidate_reserves a made step) f
invalidate_owner a made invalidate.AtRest f e = cc
invalidate_owner a made (invalidate.StoresHeader addr header) f e = record { its = reservation a made addr.0; reserved_so = refl; addr_so = its_addr (record { addr = addr.0; word = rec.Header }) f e }

append_owner : (stands : Standing) (a : AppendState) (made : NewRecord) (step : Appending) (f : FrameWord) → AppendStands stands a step → append_word a step ≡ Some f → HasReservation (append_reserves a made step) f
append_owner stands a made (appending.Fills addr) f so e = record { its = reservation a made addr.0; reserved_so = refl; addr_so = fill_owner stands addr a.its_words a.filling f so.0 e }
append_owner stands a made appending.Invalidates f so e = invalidate_owner a made a.invalidating f e
append_owner stands a made step f so e = cc

try_owner : (stands : Standing) (session : ℕ) (pending : PendingRequest) (t : TryState) (step : Trying) (f : FrameWord) → TryStands stands t step → try_word t step ≡ Some f → IsOwner (try_changes step) (try_reserves session pending t step) f
try_owner stands session pending t (SwapsValue addr) f so e =
    let x : FrameWord = record { addr = addr.0; word = rec.Value } in ByChange (ap (λ (a : ℕ). Some a) (its_addr x f e)) (its_word x f e)
try_owner stands session pending t (ChangesValue addr old) f so e =
    let x : FrameWord = record { addr = addr.0; word = rec.Value } in ByChange (ap (λ (a : ℕ). Some a) (its_addr x f e)) (its_word x f e)
try_owner stands session pending t (Appends made) f so e =
    let has = append_owner stands t.append _ t.append.step f so e in ByReservation has.its has.reserved_so has.addr_so
try_owner stands session pending t step f so e = cc

attempt_owner : (stands : Standing) (session : ℕ) (a : AttemptState) (step : Attempting) (f : FrameWord) → TriesAt stands a.trial step → attempt_word a step ≡ Some f → IsOwner (attempt_changes a step) (attempt_reserves session a step) f
attempt_owner stands session a Tries f so e = try_owner stands session a.pending a.trial a.trial.step f so e
attempt_owner stands session a step f so e = cc

pub sitting_owner : (stands : Standing) (number : ℕ) (s : SessionState) (step : Sitting) (f : FrameWord) → StepIsSo stands s step → sitting_word s step ≡ Some f → IsOwner (sitting_changes s step) (sitting_reserves number s step) f
sitting_owner stands number s (Attempts has_shifted) f so e = attempt_owner stands number s.attempt s.attempt.step f so.0.tries_so e
sitting_owner stands number s (Polls index) f so e = attempt_owner stands number s.attempt s.attempt.step f so.tries_so e
sitting_owner stands number s step f so e = cc

-- ---- a session that attempts something goes by what it has seen
rest_goes : (sight : Sight) (machine : EpochMachine) → is_at_rest machine ≡ true → goes_by sight machine ≡ true
rest_goes sight (Protects protect.AtRest) e = refl
rest_goes sight (Protects step) e = cc
rest_goes sight machine e = refl

attempt_rests : (seen : LastSeen) (a : AttemptState) (step : Attempting) (machine : EpochMachine) → FitsMachine (attempt_likeness_at seen a step).machine machine → is_at_rest machine ≡ true
attempt_rests seen a Tries machine fits = try_rests a.trial a.trial.step machine fits
  where
    try_rests : (t : TryState) (step : Trying) (machine : EpochMachine) → FitsMachine (try_likeness_at seen t step).machine machine → is_at_rest machine ≡ true
    try_rests t (Appends made) machine fits = fits
    try_rests t step machine fits = fits
attempt_rests seen a step machine fits = fits

sitting_rests : (s : SessionState) (step : Sitting) (machine : EpochMachine) → IsAttempting step → FitsMachine (sitting_likeness s step).machine machine → is_at_rest machine ≡ true
sitting_rests s (Attempts has_shifted) machine attempts fits = attempt_rests (last_seen s.seen) s.attempt s.attempt.step machine fits
sitting_rests s (Polls index) machine attempts fits = attempt_rests (last_seen s.seen) s.attempt s.attempt.step machine fits
sitting_rests s step machine attempts fits = absurd attempts

protected : (s : SessionState) (step : Sitting) → IsAttempting step → is_protected_at s step ≡ true
protected s (Attempts has_shifted) attempts = refl
protected s (Polls index) attempts = refl
protected s step attempts = absurd attempts

pub attempting_goes : (w : GuardWorld) (number : ℕ) (x : Actor) (s : SessionState) (sight : Sight) → Sits w number x s → IsAttempting s.step → GoesBy w.now number sight
attempting_goes w number x s sight sits attempts = record {
  is_session = sits.below;
  is_protected = sits.protected (protected s s.step attempts);
  machine = x.machine;
  its_machine = machine_at w.now.actors number x sits.got;
  has_loaded = rest_goes sight x.machine (sitting_rests s s.step x.machine attempts sits.fits.machine);
}

try_seen : (seen : LastSeen) (t : TryState) (step : Trying) → (try_likeness_at seen t step).seen ≡ seen
try_seen seen t (Appends made) = refl
try_seen seen t step = refl

attempt_seen : (seen : LastSeen) (a : AttemptState) (step : Attempting) → (attempt_likeness_at seen a step).seen ≡ seen
attempt_seen seen a Tries = try_seen seen a.trial a.trial.step
attempt_seen seen a step = refl

sitting_seen : (s : SessionState) (step : Sitting) → IsAttempting step → (sitting_likeness s step).seen ≡ last_seen s.seen
sitting_seen s (Attempts has_shifted) attempts = attempt_seen (last_seen s.seen) s.attempt s.attempt.step
sitting_seen s (Polls index) attempts = attempt_seen (last_seen s.seen) s.attempt s.attempt.step
sitting_seen s step attempts = absurd attempts

pub seen_so : (w : GuardWorld) (number : ℕ) (x : Actor) (s : SessionState) → IsAttempting s.step → Sits w number x s → seen_of w.now.actors number ≡ last_seen s.seen
seen_so w number x s attempts sits = ap seen_at sits.got ∙ (sits.fits.seen ∙ sitting_seen s s.step attempts)

-- so nothing at or above the read-only offset that it has seen is flushed, and no frame at or above its head is used again
pub record SeesSafely (n : Now) (s : SessionState) : Type 0 where
  pub read_only : safe_at n ≤ s.seen.offsets.read_only.0
  pub head : (levels_of n.words).closed ≤ s.seen.offsets.head.0

pub sees_safely : (opening : World) (start : ℕ) (events : List Event) (number : ℕ) (s : SessionState) → IsOpened opening.now start → slice_get (run opening events).now.sessions number ≡ Some s → IsAttempting s.step
    → SeesSafely (run opening events).now s
sees_safely opening start events number s opened found attempts =
    let w : GuardWorld = seen_by_guard opening start events in
    let shows = life_shows opening start events opened in
    let seat = shows.sessions number s found in
    let same : seen_of w.now.actors number ≡ last_seen s.seen = seen_so w number seat.actor s attempts seat.sits in
    let read_only = shows.sound.guard.safe.read_only number (attempting_goes w number seat.actor s _ seat.sits attempts) in
    let head = shows.sound.guard.safe.head number (attempting_goes w number seat.actor s _ seat.sits attempts) in
    record {
      read_only = subst (λ (words : List ℕ). (levels_of words).safe_read_only ≤ s.seen.offsets.read_only.0) shows.words (subst (λ (seen : LastSeen). (levels_of w.now.words).safe_read_only ≤ seen.read_only) same read_only);
      head = subst (λ (words : List ℕ). (levels_of words).closed ≤ s.seen.offsets.head.0) shows.words (subst (λ (seen : LastSeen). (levels_of w.now.words).closed ≤ seen.head) same head);
    }

changes_attempts : (s : SessionState) (step : Sitting) (a : ℕ) → sitting_changes s step ≡ Some a → IsAttempting step
changes_attempts s (Attempts has_shifted) a e = tt
changes_attempts s (Polls index) a e = tt
changes_attempts s step a e = cc

-- ---- it lies at or above where the log began
pub above_opening : (opening : World) (start : ℕ) (before : List Event) (number : ℕ) (s : SessionState) (a : ℕ) → IsOpened opening.now start → slice_get (run opening before).now.sessions number ≡ Some s → changed_in_place s ≡ Some a → start ≤ a
unfolding run
above_opening opening start before number s a opened found changes =
    let above = life_above opening start before number s opened found a changes in
    let safe = (sees_safely opening start before number s opened found (changes_attempts s s.step a changes)).read_only in
    let rises = (life_rises opening start [] before opened).safe_read_only in
    let first = opened.words.safe_read_only in
    omega (arith, above, safe, rises, first)

-- ---- so the record has its frame
pub owner_frame : (opening : World) (start : ℕ) (before : List Event) (number : ℕ) (s : SessionState) (f : FrameWord) → IsOpened opening.now start → slice_get (run opening before).now.sessions number ≡ Some s
    → SessionMayChange (run opening before).now.words s → IsOwner (changed_in_place s) (reserved_by number s) f → HasFrame (run opening before).now f.addr
owner_frame opening start before number s f opened found may (ByChange changes word) =
    let may = may f.addr changes in
    let safe = (sees_safely opening start before number s opened found (changes_attempts s s.step f.addr changes)).read_only in
    let above = may.0 in
    record { safe = omega (arith, safe, above); below = may.1 }
owner_frame opening start before number s f opened found may (ByReservation its reserved same) =
    let there = reserved_open opening start before opened number its (record { state = s; found = found; reserved = reserved }) in
    let safe = there.0 in
    let below = there.1 in
    record { safe = omega (arith, safe, same); below = omega (arith, below, same) }
