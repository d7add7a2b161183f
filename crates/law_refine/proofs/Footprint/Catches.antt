-- A session that catches up spares each part, but the latch that it works on, and its marks where it stores one.
use Rattle.std.proofs.Common.{◌≡◌, ◌≢◌, ℕ, refl, sym, subst, List, Bool, true, false}
use Rattle.std.specs.Prelude.{if◌then◌else◌, not, ⊤, Option, Some, None, slice_get}
use Rattle.std.specs.List.{position}
use Rattle.fkv_words.specs.PhaseWords.{phase_said}
use Rattle.fkv_map.specs.Keys.{key_of}
use Rattle.fkv_plane.specs.declared.asks.Ask.{Ask}
use Rattle.fkv_plane.specs.declared.asks.Ask.TheVariants.{Done}
use Rattle.fkv_plane.specs.declared.places.Places.{Places}
use Rattle.fkv_epoch.specs.declared.values.Seen as loaded
use Rattle.fkv_epoch.specs.declared.refreshing.RefreshAnswer.{RefreshAnswer}
use Rattle.fkv_epoch.specs.declared.refreshing.RefreshAnswer.TheVariants.{Loaded, Stored}
use Rattle.fkv_epoch.specs.Refreshing.{refresh_ask, refresh_next, refresh_finish}
use Rattle.fkv_epoch.specs.Protecting.{protect_next, protect_next_ask}
use Rattle.fkv_index.specs.Slots.{home_of}
use Rattle.fkv_latch.specs.declared.latching.LatchAnswer.{LatchAnswer}
use Rattle.fkv_latch.specs.declared.latching.LatchAnswer.TheVariants.{Taken}
use Rattle.fkv_latch.specs.declared.latching.LatchTask.TheVariants.{TakeShared}
use Rattle.fkv_latch.specs.declared.latching.Latching.TheVariants as latching
use Rattle.fkv_latch.specs.Latching.{latch_next, latch_next_ask}
use Rattle.law_world.specs.Below.fkv_ops.Seen.{Seen}
use Rattle.law_world.specs.Below.fkv_pending.PendingRequest.{PendingRequest}
use Rattle.law_world.specs.Below.fkv_pending.Pending.{is_unlatched}
use Rattle.law_world.specs.Below.fkv_session.Catching.{Catching}
use Rattle.law_world.specs.Below.fkv_session.Catching.TheVariants.{Ended, Refreshes, Protects, StoresCut, StoresOwing, Latches, Finishes}
use Rattle.law_world.specs.Below.fkv_session.CatchingUp.{CatchState, version_before, catching_ask, catch_ask, finishes, latch_begun, latch_wanted, latches, cuts, is_same_version, enters_prepare, takes_up, seen_after, refresh_ledto, protect_ledto, latch_ledto, finish_ledto, catch_requests, catching_next, catch_next}
use Rattle.law_refine.proofs.Footprint.Epochs.{refresh_spares, protect_spares}
use Rattle.law_refine.specs.Latches.Latchers.{catch_latching}
use Rattle.law_refine.specs.Footprint.{Part, TheLatches, TheMarks, HasSeat, Spares}
use Rattle.law_refine.proofs.Footprint.Latching.{passed_spares, IsAtLatch, latch_spares, latch_stays, latch_begins}
use Rattle.law_refine.proofs.Footprint.Outside.{owing_outside, cut_outside}

-- its machine for latches is at an eighth word
abbrev pub CatchBounds : Places → CatchState → Catching → Type 0
CatchBounds p c (Latches index) = IsAtLatch p c.latching
CatchBounds p c step = ⊤

abbrev pub IsCatchSparing : Places → CatchState → Type 0
IsCatchSparing p c = CatchBounds p c c.step

-- it stores a cut word or the owing word
abbrev pub is_marking : Catching → Bool
is_marking StoresCut = true
is_marking StoresOwing = true
is_marking step = false

-- where it does, no part is its marks
pub not_marks : (part : Part) (n : ℕ) → (part ≡ TheMarks n → true ≡ false) → part ≢ TheMarks n
not_marks part n none = λ same. let clash : true ≡ false = none same in cc

-- what it asks for
catching_spares : (part : Part) (p : Places) (n : ℕ) (c : CatchState) (requests : List PendingRequest) (step : Catching) → HasSeat part p n → CatchBounds p c step → (part ≡ TheLatches → catch_latching c step ≡ latching.AtRest)
    → (part ≡ TheMarks n → is_marking step ≡ false) → Spares part p (catching_ask p n c requests step)
unfolding catching_ask
catching_spares part p n c requests Ended there place rests marks = tt
catching_spares part p n c requests Refreshes there place rests marks = passed_spares part p _ _ (refresh_spares part p n c.refreshing there)
catching_spares part p n c requests Protects there place rests marks = passed_spares part p _ _ (protect_spares part p n c.protecting there)
catching_spares part p n c requests StoresCut there place rests marks = cut_outside part p n (version_before c.seen).0 there (not_marks part n marks)
catching_spares part p n c requests StoresOwing there place rests marks = owing_outside part p n there (not_marks part n marks)
catching_spares part p n c requests (Latches index) there place rests marks = passed_spares part p _ _ (latch_spares part p c.latching place rests)
catching_spares part p n c requests Finishes there place rests marks = passed_spares part p _ _ (refresh_spares part p n c.refreshing there)

pub catch_spares : (part : Part) (p : Places) (n : ℕ) (c : CatchState) (requests : List PendingRequest) → HasSeat part p n → IsCatchSparing p c → (part ≡ TheLatches → catch_latching c c.step ≡ latching.AtRest)
    → (part ≡ TheMarks n → is_marking c.step ≡ false) → Spares part p (catch_ask p n c requests)
catch_spares part p n c requests there place rests marks = catching_spares part p n c requests c.step there place rests marks

-- where a reply leads
either_spares : (b : Bool) (p : Places) (c d : CatchState) → IsCatchSparing p c → IsCatchSparing p d → IsCatchSparing p (if b then c else d)
either_spares true p c d one other = one
either_spares false p c d one other = other

stays_spares : (p : Places) (c : CatchState) (step : Catching) → c.step ≡ step → CatchBounds p c step → IsCatchSparing p c
stays_spares p c step at place = subst (λ x. CatchBounds p c x) (sym at) place

finishes_spares : (p : Places) (c : CatchState) → IsCatchSparing p (finishes c)
finishes_spares p c = either_spares c.is_refresh p (record c { refreshing = refresh_finish c.refreshing; step = Finishes }) (record c { step = Ended }) tt tt

begun_spares : (p : Places) (bits : ℕ) (c : CatchState) (index : ℕ) (found : Option PendingRequest) → IsCatchSparing p (latch_begun p bits c index found)
begun_spares p bits c index None = finishes_spares p c
begun_spares p bits c index (Some pending) = latch_begins p TakeShared (home_of bits (key_of pending.request.op)).bucket

wanted_spares : (p : Places) (bits : ℕ) (c : CatchState) (requests : List PendingRequest) (found : Option ℕ) → IsCatchSparing p (latch_wanted p bits c requests found)
wanted_spares p bits c requests None = finishes_spares p c
wanted_spares p bits c requests (Some index) = begun_spares p bits c index (slice_get requests index)

latches_spares : (p : Places) (bits : ℕ) (c : CatchState) (requests : List PendingRequest) → IsCatchSparing p (latches p bits c requests)
latches_spares p bits c requests =
    either_spares c.is_entering p (latch_wanted p bits c requests (position is_unlatched requests)) (finishes c) (wanted_spares p bits c requests (position is_unlatched requests)) (finishes_spares p c)

cuts_spares : (p : Places) (bits : ℕ) (c : CatchState) (requests : List PendingRequest) (changed : Bool) → IsCatchSparing p (cuts p bits c requests changed)
cuts_spares p bits c requests true = tt
cuts_spares p bits c requests false = latches_spares p bits c requests

takes_spares : (p : Places) (bits : ℕ) (c : CatchState) (requests : List PendingRequest) (after : Seen) → IsCatchSparing p (takes_up p bits c requests after)
takes_spares p bits c requests after = cuts_spares p bits (record c { seen = after; is_entering = enters_prepare c.seen after }) requests (not (is_same_version c.seen after))

refreshed_spares : (p : Places) (bits : ℕ) (c : CatchState) (requests : List PendingRequest) (ask : Ask RefreshAnswer) → c.step ≡ Refreshes → IsCatchSparing p (refresh_ledto p bits c requests ask)
unfolding refresh_ledto
refreshed_spares p bits c requests (Done (Loaded values)) at = takes_spares p bits c requests (seen_after c.seen values (phase_said values.phase))
refreshed_spares p bits c requests (Done Stored) at = tt
refreshed_spares p bits c requests ask at = stays_spares p c Refreshes at tt

protected_spares : (p : Places) (bits : ℕ) (c : CatchState) (requests : List PendingRequest) (ask : Ask loaded.Seen) → c.step ≡ Protects → IsCatchSparing p (protect_ledto p bits c requests ask)
unfolding protect_ledto
protected_spares p bits c requests (Done values) at = takes_spares p bits c requests (seen_after c.seen values (phase_said values.phase))
protected_spares p bits c requests ask at = stays_spares p c Protects at tt

latched_spares : (p : Places) (bits : ℕ) (c : CatchState) (requests : List PendingRequest) (index : ℕ) (ask : Ask LatchAnswer) → c.step ≡ Latches index → IsAtLatch p c.latching → IsCatchSparing p (latch_ledto p bits c requests ask)
unfolding latch_ledto
latched_spares p bits c requests index (Done Taken) at place = latches_spares p bits c requests
latched_spares p bits c requests index (Done its) at place = finishes_spares p c
latched_spares p bits c requests index ask at place = stays_spares p c (Latches index) at place

finished_spares : (p : Places) (c : CatchState) (ask : Ask RefreshAnswer) → c.step ≡ Finishes → IsCatchSparing p (finish_ledto c ask)
unfolding finish_ledto
finished_spares p c (Done its) at = tt
finished_spares p c ask at = stays_spares p c Finishes at tt

next_spares : (p : Places) (bits n : ℕ) (c : CatchState) (requests : List PendingRequest) (step : Catching) (reply : ℕ) → c.step ≡ step → CatchBounds p c step → IsCatchSparing p (catching_next p bits n c requests step reply)
unfolding catching_next
next_spares p bits n c requests Ended reply at place = stays_spares p c Ended at tt
next_spares p bits n c requests Refreshes reply at place = refreshed_spares p bits (record c { refreshing = refresh_next c.refreshing reply }) requests (refresh_ask n (refresh_next c.refreshing reply)) at
next_spares p bits n c requests Protects reply at place = protected_spares p bits (record c { protecting = protect_next c.protecting reply }) requests (protect_next_ask n c.protecting reply) at
next_spares p bits n c requests StoresCut reply at place = tt
next_spares p bits n c requests StoresOwing reply at place = latches_spares p bits c requests
next_spares p bits n c requests (Latches index) reply at place = latched_spares p bits (record c { latching = latch_next c.latching reply }) requests index (latch_next_ask c.latching reply) at (latch_stays p c.latching reply place)
next_spares p bits n c requests Finishes reply at place = finished_spares p (record c { refreshing = refresh_next c.refreshing reply }) (refresh_ask n (refresh_next c.refreshing reply)) at

-- each reply
pub catch_next_spares : (p : Places) (bits n : ℕ) (c : CatchState) (requests : List PendingRequest) (reply : ℕ) → IsCatchSparing p c → IsCatchSparing p (catch_next p bits n c requests reply)
catch_next_spares p bits n c requests reply place = next_spares p bits n c (catch_requests c requests reply) c.step reply refl place
