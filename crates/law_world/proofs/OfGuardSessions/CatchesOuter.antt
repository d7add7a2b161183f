-- The latches that a session takes as it catches up are in the index.
use Rattle.std.proofs.Common.{◌≡◌, ℕ, refl, sym, subst, List, Bool, true, false}
use Rattle.std.specs.Prelude.{if◌then◌else◌, not, ⊤, Option, Some, None, slice_get}
use Rattle.std.specs.List.{position}
use Rattle.fkv_map.specs.Keys.{key_of}
use Rattle.fkv_plane.specs.declared.asks.Ask.{Ask}
use Rattle.fkv_plane.specs.declared.asks.Ask.TheVariants.{Done}
use Rattle.fkv_plane.specs.declared.places.Places.{Places}
use Rattle.fkv_plane.specs.Passing.{passed}
use Rattle.fkv_epoch.specs.declared.values.Seen as loaded
use Rattle.fkv_epoch.specs.declared.refreshing.RefreshAnswer.{RefreshAnswer}
use Rattle.fkv_epoch.specs.declared.refreshing.RefreshAnswer.TheVariants.{Loaded, Stored}
use Rattle.fkv_epoch.specs.Refreshing.{refresh_ask, refresh_next, refresh_finish}
use Rattle.fkv_epoch.specs.Protecting.{protect_next, protect_next_ask}
use Rattle.fkv_index.specs.Slots.{home_of}
use Rattle.fkv_latch.specs.declared.latching.LatchAnswer.TheVariants.{Taken}
use Rattle.fkv_latch.specs.declared.latching.LatchTask.TheVariants.{TakeShared}
use Rattle.fkv_latch.specs.declared.latching.LatchAnswer.{LatchAnswer}
use Rattle.fkv_latch.specs.Latching.{latch_next, latch_next_ask}
use Rattle.fkv_ops.specs.declared.requests.Seen.{Seen}
use Rattle.fkv_pending.specs.declared.pending_requests.PendingRequest.{PendingRequest}
use Rattle.fkv_pending.specs.Pending.{is_unlatched}
use Rattle.fkv_session.specs.declared.catching_up.Catching.{Catching}
use Rattle.fkv_session.specs.declared.catching_up.Catching.TheVariants.{Ended, Refreshes, Protects, StoresCut, StoresOwing, Latches, Finishes}
use Rattle.fkv_session.specs.CatchingUp.{CatchState, catching_ask, finishes, latch_begun, latch_wanted, latches, cuts, is_same_version, enters_prepare, takes_up, seen_after, refresh_ledto, protect_ledto, latch_ledto, finish_ledto, catch_requests, catching_next, catch_next}
use Rattle.fkv_words.specs.PhaseWords.{phase_said}
use Rattle.law_world.specs.GuardSessions.Catches.{CatchWritesOuter}
use Rattle.law_world.proofs.OfGuardSessions.OuterAsks.{passed_is_outer, IsLatchOuter, latch_outer, latch_next_outer, latch_first_outer}
use Rattle.law_world.proofs.OfGuardSessions.AttemptsOuter.{HomesAreLow}

abbrev pub CatchRow : Places → CatchState → Catching → Type 0
CatchRow p c (Latches index) = IsLatchOuter p c.latching
CatchRow p c step = ⊤

abbrev pub IsCatchOuter : Places → CatchState → Type 0
IsCatchOuter p c = CatchRow p c c.step

-- what it owes, as its ask is passed on
pub catch_owes : {A : Type 0} (p : Places) (n : ℕ) (c : CatchState) (requests : List PendingRequest) (step : Catching) (x : A) → CatchRow p c step → CatchWritesOuter p step (passed (catching_ask p n c requests step) x)
unfolding catching_ask
catch_owes p n c requests (Latches index) x row = passed_is_outer p _ x (passed_is_outer p _ tt (latch_outer p c.latching row))
catch_owes p n c requests Ended x row = tt
catch_owes p n c requests Refreshes x row = tt
catch_owes p n c requests Protects x row = tt
catch_owes p n c requests StoresCut x row = tt
catch_owes p n c requests StoresOwing x row = tt
catch_owes p n c requests Finishes x row = tt

either_outer : (b : Bool) (p : Places) (c d : CatchState) → IsCatchOuter p c → IsCatchOuter p d → IsCatchOuter p (if b then c else d)
either_outer true p c d one other = one
either_outer false p c d one other = other

stays_outer : (p : Places) (c : CatchState) (step : Catching) → c.step ≡ step → CatchRow p c step → IsCatchOuter p c
stays_outer p c step at row = subst (λ x. CatchRow p c x) (sym at) row

finishes_outer : (p : Places) (c : CatchState) → IsCatchOuter p (finishes c)
finishes_outer p c = either_outer c.is_refresh p (record c { refreshing = refresh_finish c.refreshing; step = Finishes }) (record c { step = Ended }) tt tt

begun_outer : (p : Places) (bits : ℕ) (c : CatchState) (index : ℕ) (found : Option PendingRequest) → HomesAreLow p bits → IsCatchOuter p (latch_begun p bits c index found)
begun_outer p bits c index None homes = finishes_outer p c
begun_outer p bits c index (Some pending) homes = latch_first_outer p TakeShared (home_of bits (key_of pending.request.op)).bucket (homes (key_of pending.request.op))

wanted_outer : (p : Places) (bits : ℕ) (c : CatchState) (requests : List PendingRequest) (found : Option ℕ) → HomesAreLow p bits → IsCatchOuter p (latch_wanted p bits c requests found)
wanted_outer p bits c requests None homes = finishes_outer p c
wanted_outer p bits c requests (Some index) homes = begun_outer p bits c index (slice_get requests index) homes

latches_outer : (p : Places) (bits : ℕ) (c : CatchState) (requests : List PendingRequest) → HomesAreLow p bits → IsCatchOuter p (latches p bits c requests)
latches_outer p bits c requests homes =
    either_outer c.is_entering p (latch_wanted p bits c requests (position is_unlatched requests)) (finishes c) (wanted_outer p bits c requests (position is_unlatched requests) homes) (finishes_outer p c)

cuts_outer : (p : Places) (bits : ℕ) (c : CatchState) (requests : List PendingRequest) (changed : Bool) → HomesAreLow p bits → IsCatchOuter p (cuts p bits c requests changed)
cuts_outer p bits c requests true homes = tt
cuts_outer p bits c requests false homes = latches_outer p bits c requests homes

takes_outer : (p : Places) (bits : ℕ) (c : CatchState) (requests : List PendingRequest) (after : Seen) → HomesAreLow p bits → IsCatchOuter p (takes_up p bits c requests after)
takes_outer p bits c requests after homes = cuts_outer p bits (record c { seen = after; is_entering = enters_prepare c.seen after }) requests (not (is_same_version c.seen after)) homes

refresh_outer : (p : Places) (bits : ℕ) (c : CatchState) (requests : List PendingRequest) (ask : Ask RefreshAnswer) → c.step ≡ Refreshes → HomesAreLow p bits → IsCatchOuter p (refresh_ledto p bits c requests ask)
unfolding refresh_ledto
refresh_outer p bits c requests (Done (Loaded values)) at homes = takes_outer p bits c requests (seen_after c.seen values (phase_said values.phase)) homes
refresh_outer p bits c requests (Done Stored) at homes = tt
refresh_outer p bits c requests ask at homes = stays_outer p c Refreshes at tt

protect_outer : (p : Places) (bits : ℕ) (c : CatchState) (requests : List PendingRequest) (ask : Ask loaded.Seen) → c.step ≡ Protects → HomesAreLow p bits → IsCatchOuter p (protect_ledto p bits c requests ask)
unfolding protect_ledto
protect_outer p bits c requests (Done values) at homes = takes_outer p bits c requests (seen_after c.seen values (phase_said values.phase)) homes
protect_outer p bits c requests ask at homes = stays_outer p c Protects at tt

finish_outer : (p : Places) (c : CatchState) (ask : Ask RefreshAnswer) → c.step ≡ Finishes → IsCatchOuter p (finish_ledto c ask)
unfolding finish_ledto
finish_outer p c (Done its) at = tt
finish_outer p c ask at = stays_outer p c Finishes at tt

latched_outer : (p : Places) (bits : ℕ) (c : CatchState) (requests : List PendingRequest) (index : ℕ) (ask : Ask LatchAnswer) → c.step ≡ Latches index → IsLatchOuter p c.latching → HomesAreLow p bits → IsCatchOuter p (latch_ledto p bits c requests ask)
unfolding latch_ledto
latched_outer p bits c requests index (Done Taken) at row homes = latches_outer p bits c requests homes
latched_outer p bits c requests index (Done its) at row homes = finishes_outer p c
latched_outer p bits c requests index ask at row homes = stays_outer p c (Latches index) at row

next_outer : (p : Places) (bits session : ℕ) (c : CatchState) (requests : List PendingRequest) (step : Catching) (reply : ℕ) → c.step ≡ step → HomesAreLow p bits → CatchRow p c step → IsCatchOuter p (catching_next p bits session c requests step reply)
unfolding catching_next
next_outer p bits session c requests Ended reply at homes row = stays_outer p c Ended at tt
next_outer p bits session c requests Refreshes reply at homes row = refresh_outer p bits (record c { refreshing = refresh_next c.refreshing reply }) requests (refresh_ask session (refresh_next c.refreshing reply)) at homes
next_outer p bits session c requests Protects reply at homes row = protect_outer p bits (record c { protecting = protect_next c.protecting reply }) requests (protect_next_ask session c.protecting reply) at homes
next_outer p bits session c requests StoresCut reply at homes row = tt
next_outer p bits session c requests StoresOwing reply at homes row = latches_outer p bits c requests homes
next_outer p bits session c requests (Latches index) reply at homes row =
    latched_outer p bits (record c { latching = latch_next c.latching reply }) requests index (latch_next_ask c.latching reply) at (latch_next_outer p c.latching reply row) homes
next_outer p bits session c requests Finishes reply at homes row = finish_outer p (record c { refreshing = refresh_next c.refreshing reply }) (refresh_ask session (refresh_next c.refreshing reply)) at

-- each reply
pub catch_next_outer : (p : Places) (bits session : ℕ) (c : CatchState) (requests : List PendingRequest) (reply : ℕ) → HomesAreLow p bits → IsCatchOuter p c → IsCatchOuter p (catch_next p bits session c requests reply)
catch_next_outer p bits session c requests reply homes row = next_outer p bits session c (catch_requests c requests reply) c.step reply refl homes row
