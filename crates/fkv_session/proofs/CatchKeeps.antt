-- While a session catches up the serial stays that it began with.
use Rattle.std.proofs.Common.{◌≡◌, ℕ, refl, Bool, true, false, List}
use Rattle.std.specs.Prelude.{Option, Some, None, if◌then◌else◌, not, slice_get}
use Rattle.std.specs.List.{position}
use Rattle.fkv_plane.specs.declared.asks.Ask.{Ask}
use Rattle.fkv_plane.specs.declared.asks.Ask.TheVariants.{Done}
use Rattle.fkv_plane.specs.declared.places.Places.{Places}
use Rattle.fkv_epoch.specs.declared.values.Seen as loaded
use Rattle.fkv_epoch.specs.declared.refreshing.RefreshAnswer.{RefreshAnswer}
use Rattle.fkv_epoch.specs.declared.refreshing.RefreshAnswer.TheVariants.{Loaded, Stored}
use Rattle.fkv_epoch.specs.Refreshing.{refresh_ask, refresh_next}
use Rattle.fkv_epoch.specs.Protecting.{protect_next, protect_next_ask}
use Rattle.fkv_latch.specs.declared.latching.LatchAnswer.{LatchAnswer}
use Rattle.fkv_latch.specs.declared.latching.LatchAnswer.TheVariants.{Taken}
use Rattle.fkv_latch.specs.Latching.{latch_next, latch_next_ask}
use Rattle.fkv_ops.specs.declared.requests.Seen.{Seen}
use Rattle.fkv_pending.specs.declared.pending_requests.PendingRequest.{PendingRequest}
use Rattle.fkv_pending.specs.Pending.{is_unlatched}
use Rattle.fkv_session.specs.declared.catching_up.Catching.{Catching}
use Rattle.fkv_session.specs.declared.catching_up.Catching.TheVariants.{Ended, Refreshes, Protects, StoresCut, StoresOwing, Latches, Finishes}
use Rattle.fkv_words.specs.PhaseWords.{phase_said}
use Rattle.fkv_session.specs.CatchingUp.{CatchState, seen_after, finishes, latch_begun, latch_wanted, latches, cuts, is_same_version, enters_prepare, takes_up, refresh_ledto, protect_ledto, latch_ledto, finish_ledto, catch_requests, catching_next, catch_next}

either_serial : (t : Bool) (a b : CatchState) (n : ℕ) → a.serial ≡ n → b.serial ≡ n → (if t then a else b).serial ≡ n
either_serial true a b n one other = one
either_serial false a b n one other = other

finishes_serial : (c : CatchState) → (finishes c).serial ≡ c.serial
finishes_serial c = either_serial c.is_refresh _ (record c { step = Ended }) c.serial refl refl

begun_serial : (p : Places) (bits : ℕ) (c : CatchState) (i : ℕ) (found : Option PendingRequest) → (latch_begun p bits c i found).serial ≡ c.serial
begun_serial p bits c i None = finishes_serial c
begun_serial p bits c i (Some pending) = refl

wanted_serial : (p : Places) (bits : ℕ) (c : CatchState) (requests : List PendingRequest) (at : Option ℕ) → (latch_wanted p bits c requests at).serial ≡ c.serial
wanted_serial p bits c requests None = finishes_serial c
wanted_serial p bits c requests (Some i) = begun_serial p bits c i (slice_get requests i)

latches_serial : (p : Places) (bits : ℕ) (c : CatchState) (requests : List PendingRequest) → (latches p bits c requests).serial ≡ c.serial
latches_serial p bits c requests = either_serial c.is_entering (latch_wanted p bits c requests (position is_unlatched requests)) (finishes c) c.serial (wanted_serial p bits c requests (position is_unlatched requests)) (finishes_serial c)

cuts_serial : (p : Places) (bits : ℕ) (c : CatchState) (requests : List PendingRequest) (t : Bool) → (cuts p bits c requests t).serial ≡ c.serial
cuts_serial p bits c requests true = refl
cuts_serial p bits c requests false = latches_serial p bits c requests

takes_serial : (p : Places) (bits : ℕ) (c : CatchState) (requests : List PendingRequest) (after : Seen) → (takes_up p bits c requests after).serial ≡ c.serial
takes_serial p bits c requests after = cuts_serial p bits (record c { seen = after; is_entering = enters_prepare c.seen after }) requests (not (is_same_version c.seen after))

refresh_serial : (p : Places) (bits : ℕ) (c : CatchState) (requests : List PendingRequest) (ask : Ask RefreshAnswer) → (refresh_ledto p bits c requests ask).serial ≡ c.serial
unfolding refresh_ledto
refresh_serial p bits c requests (Done (Loaded values)) = takes_serial p bits c requests (seen_after c.seen values (phase_said values.phase))
refresh_serial p bits c requests (Done Stored) = refl
refresh_serial p bits c requests ask = refl

protect_serial : (p : Places) (bits : ℕ) (c : CatchState) (requests : List PendingRequest) (ask : Ask loaded.Seen) → (protect_ledto p bits c requests ask).serial ≡ c.serial
unfolding protect_ledto
protect_serial p bits c requests (Done values) = takes_serial p bits c requests (seen_after c.seen values (phase_said values.phase))
protect_serial p bits c requests ask = refl

latch_serial : (p : Places) (bits : ℕ) (c : CatchState) (requests : List PendingRequest) (ask : Ask LatchAnswer) → (latch_ledto p bits c requests ask).serial ≡ c.serial
unfolding latch_ledto
latch_serial p bits c requests (Done Taken) = latches_serial p bits c requests
latch_serial p bits c requests (Done its) = finishes_serial c
latch_serial p bits c requests ask = refl

finish_serial : (c : CatchState) (ask : Ask RefreshAnswer) → (finish_ledto c ask).serial ≡ c.serial
unfolding finish_ledto
finish_serial c (Done its) = refl
finish_serial c ask = refl

step_serial : (p : Places) (bits session : ℕ) (c : CatchState) (requests : List PendingRequest) (step : Catching) (reply : ℕ) → (catching_next p bits session c requests step reply).serial ≡ c.serial
unfolding catching_next
step_serial p bits session c requests Ended reply = refl
step_serial p bits session c requests Refreshes reply = refresh_serial p bits (record c { refreshing = refresh_next c.refreshing reply }) requests (refresh_ask session (refresh_next c.refreshing reply))
step_serial p bits session c requests Protects reply = protect_serial p bits (record c { protecting = protect_next c.protecting reply }) requests (protect_next_ask session c.protecting reply)
step_serial p bits session c requests StoresCut reply = refl
step_serial p bits session c requests StoresOwing reply = latches_serial p bits c requests
step_serial p bits session c requests (Latches i) reply = latch_serial p bits (record c { latching = latch_next c.latching reply }) requests (latch_next_ask c.latching reply)
step_serial p bits session c requests Finishes reply = finish_serial (record c { refreshing = refresh_next c.refreshing reply }) (refresh_ask session (refresh_next c.refreshing reply))

pub catch_serial : (p : Places) (bits session : ℕ) (c : CatchState) (requests : List PendingRequest) (reply : ℕ) → (catch_next p bits session c requests reply).serial ≡ c.serial
catch_serial p bits session c requests reply = step_serial p bits session c (catch_requests c requests reply) c.step reply
