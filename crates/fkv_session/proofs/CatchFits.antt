-- A session's version is one from 1 up to the last, whatever it loads.
use Rattle.std.proofs.Common.{◌≡◌, ℕ, refl, Bool, true, false, List}
use Rattle.std.specs.Prelude.{Option, Some, None, if◌then◌else◌, not, slice_get}
use Rattle.std.specs.List.{position}
use Rattle.fkv_plane.specs.declared.asks.Ask.{Ask}
use Rattle.fkv_plane.specs.declared.asks.Ask.TheVariants.{Done}
use Rattle.fkv_plane.specs.declared.places.Places.{Places}
use Rattle.fkv_epoch.specs.declared.values.Seen as loaded
use Rattle.fkv_epoch.specs.declared.refreshing.RefreshAnswer.{RefreshAnswer}
use Rattle.fkv_epoch.specs.declared.refreshing.RefreshAnswer.TheVariants.{Loaded, Stored}
use Rattle.fkv_epoch.specs.Refreshing.{refresh_ask, refresh_next}
use Rattle.fkv_epoch.specs.Protecting.{protect_next, protect_next_ask}
use Rattle.fkv_latch.specs.declared.latching.LatchAnswer.{LatchAnswer}
use Rattle.fkv_latch.specs.declared.latching.LatchAnswer.TheVariants.{Taken}
use Rattle.fkv_latch.specs.Latching.{latch_next, latch_next_ask}
use Rattle.fkv_ops.specs.declared.requests.Seen.{Seen}
use Rattle.fkv_pending.specs.declared.pending_requests.PendingRequest.{PendingRequest}
use Rattle.fkv_pending.specs.Pending.{is_unlatched}
use Rattle.fkv_session.specs.declared.catching_up.Catching.{Catching}
use Rattle.fkv_session.specs.declared.catching_up.Catching.TheVariants.{Ended, Refreshes, Protects, StoresCut, StoresOwing, Latches, Finishes}
use Rattle.fkv_words.specs.PhaseWords.{phase_said}
use Rattle.fkv_session.specs.CatchingUp.{CatchState, seen_after, finishes, latch_begun, latch_wanted, latches, cuts, is_same_version, enters_prepare, takes_up, refresh_ledto, protect_ledto, latch_ledto, finish_ledto, catch_requests, catching_next, catch_next}
use Rattle.fkv_words.specs.declared.phase_words.PhaseSaid.{PhaseSaid}
use Rattle.fkv_words.specs.declared.phase_words.PhaseSaid.TheVariants.{Says, Spoiled}
use Rattle.fkv_words.proofs.Shown.{said_version}
use Rattle.fkv_session.specs.Versions.{IsVersion}

abbrev IsFit : CatchState → Type 0
IsFit c = IsVersion c.seen.version.0

-- what a phase word says is one
abbrev IsSaidFit : PhaseSaid → Type 0
IsSaidFit Spoiled = Unit {0}
IsSaidFit (Says phase version) = IsVersion version.0

says_fit : (word : ℕ) (said : PhaseSaid) → phase_said word ≡ said → IsSaidFit said
says_fit word Spoiled e = tt
says_fit word (Says phase version) e = said_version word phase version e

said_fit : (word : ℕ) → IsSaidFit (phase_said word)
said_fit word = says_fit word (phase_said word) refl

seen_fit : (seen : Seen) (values : loaded.Seen) (said : PhaseSaid) → IsVersion seen.version.0 → IsSaidFit said → IsVersion (seen_after seen values said).version.0
seen_fit seen values Spoiled fit so = fit
seen_fit seen values (Says phase version) fit so = so

either_fit : (c : Bool) (a b : CatchState) → IsFit a → IsFit b → IsFit (if c then a else b)
either_fit true a b one other = one
either_fit false a b one other = other

finishes_fit : (c : CatchState) → IsFit c → IsFit (finishes c)
finishes_fit c fit = either_fit c.is_refresh _ (record c { step = Ended }) fit fit

begun_fit : (p : Places) (bits : ℕ) (c : CatchState) (i : ℕ) (found : Option PendingRequest) → IsFit c → IsFit (latch_begun p bits c i found)
begun_fit p bits c i None fit = finishes_fit c fit
begun_fit p bits c i (Some pending) fit = fit

wanted_fit : (p : Places) (bits : ℕ) (c : CatchState) (requests : List PendingRequest) (at : Option ℕ) → IsFit c → IsFit (latch_wanted p bits c requests at)
wanted_fit p bits c requests None fit = finishes_fit c fit
wanted_fit p bits c requests (Some i) fit = begun_fit p bits c i (slice_get requests i) fit

latches_fit : (p : Places) (bits : ℕ) (c : CatchState) (requests : List PendingRequest) → IsFit c → IsFit (latches p bits c requests)
latches_fit p bits c requests fit = either_fit c.is_entering (latch_wanted p bits c requests (position is_unlatched requests)) (finishes c) (wanted_fit p bits c requests (position is_unlatched requests) fit) (finishes_fit c fit)

cuts_fit : (p : Places) (bits : ℕ) (c : CatchState) (requests : List PendingRequest) (t : Bool) → IsFit c → IsFit (cuts p bits c requests t)
cuts_fit p bits c requests true fit = fit
cuts_fit p bits c requests false fit = latches_fit p bits c requests fit

takes_fit : (p : Places) (bits : ℕ) (c : CatchState) (requests : List PendingRequest) (values : loaded.Seen) → IsFit c → IsFit (takes_up p bits c requests (seen_after c.seen values (phase_said values.phase)))
takes_fit p bits c requests values fit =
    let after : Seen = seen_after c.seen values (phase_said values.phase) in
    cuts_fit p bits (record c { seen = after; is_entering = enters_prepare c.seen after }) requests (not (is_same_version c.seen after)) (seen_fit c.seen values (phase_said values.phase) fit (said_fit values.phase))

refresh_fit : (p : Places) (bits : ℕ) (c : CatchState) (requests : List PendingRequest) (ask : Ask RefreshAnswer) → IsFit c → IsFit (refresh_ledto p bits c requests ask)
unfolding refresh_ledto
refresh_fit p bits c requests (Done (Loaded values)) fit = takes_fit p bits c requests values fit
refresh_fit p bits c requests (Done Stored) fit = fit
refresh_fit p bits c requests ask fit = fit

protect_fit : (p : Places) (bits : ℕ) (c : CatchState) (requests : List PendingRequest) (ask : Ask loaded.Seen) → IsFit c → IsFit (protect_ledto p bits c requests ask)
unfolding protect_ledto
protect_fit p bits c requests (Done values) fit = takes_fit p bits c requests values fit
protect_fit p bits c requests ask fit = fit

latch_fit : (p : Places) (bits : ℕ) (c : CatchState) (requests : List PendingRequest) (ask : Ask LatchAnswer) → IsFit c → IsFit (latch_ledto p bits c requests ask)
unfolding latch_ledto
latch_fit p bits c requests (Done Taken) fit = latches_fit p bits c requests fit
latch_fit p bits c requests (Done its) fit = finishes_fit c fit
latch_fit p bits c requests ask fit = fit

finish_fit : (c : CatchState) (ask : Ask RefreshAnswer) → IsFit c → IsFit (finish_ledto c ask)
unfolding finish_ledto
finish_fit c (Done its) fit = fit
finish_fit c ask fit = fit

step_fit : (p : Places) (bits session : ℕ) (c : CatchState) (requests : List PendingRequest) (step : Catching) (reply : ℕ) → IsFit c → IsFit (catching_next p bits session c requests step reply)
unfolding catching_next
step_fit p bits session c requests Ended reply fit = fit
step_fit p bits session c requests Refreshes reply fit = refresh_fit p bits (record c { refreshing = refresh_next c.refreshing reply }) requests (refresh_ask session (refresh_next c.refreshing reply)) fit
step_fit p bits session c requests Protects reply fit = protect_fit p bits (record c { protecting = protect_next c.protecting reply }) requests (protect_next_ask session c.protecting reply) fit
step_fit p bits session c requests StoresCut reply fit = fit
step_fit p bits session c requests StoresOwing reply fit = latches_fit p bits c requests fit
step_fit p bits session c requests (Latches i) reply fit = latch_fit p bits (record c { latching = latch_next c.latching reply }) requests (latch_next_ask c.latching reply) fit
step_fit p bits session c requests Finishes reply fit = finish_fit (record c { refreshing = refresh_next c.refreshing reply }) (refresh_ask session (refresh_next c.refreshing reply)) fit

pub catch_fit : (p : Places) (bits session : ℕ) (c : CatchState) (requests : List PendingRequest) (reply : ℕ) → IsVersion c.seen.version.0 → IsVersion (catch_next p bits session c requests reply).seen.version.0
catch_fit p bits session c requests reply fit = step_fit p bits session c (catch_requests c requests reply) c.step reply fit
