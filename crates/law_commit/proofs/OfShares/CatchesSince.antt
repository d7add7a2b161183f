-- What a session takes up stays what it takes up, and only as it takes up prepare does it add shares.
use Rattle.std.proofs.Common.{◌≡◌, ℕ, ◌∙◌, refl, ap, sym, subst, List, [], Bool, true, false}
use Rattle.std.specs.Prelude.{⊤, Option, Some, None, if◌then◌else◌, slice_get}
use Rattle.std.specs.List.{position}
use Rattle.fkv_latch.specs.declared.latching.LatchAnswer.{LatchAnswer}
use Rattle.fkv_latch.specs.declared.latching.LatchAnswer.TheVariants.{Taken}
use Rattle.fkv_latch.specs.Latching.{latch_next, latch_next_ask}
use Rattle.fkv_epoch.specs.declared.refreshing.RefreshAnswer.{RefreshAnswer}
use Rattle.fkv_epoch.specs.Refreshing.{refresh_ask, refresh_finish, refresh_next}
use Rattle.law_refine.specs.Below.fkv_ops.Trying.{is_prepare}
use Rattle.law_refine.specs.Below.fkv_pending.PendingRequest.{PendingRequest}
use Rattle.law_refine.specs.Below.fkv_pending.Pending.{is_unlatched}
use Rattle.fkv_plane.specs.declared.asks.Ask.{Ask}
use Rattle.fkv_plane.specs.declared.asks.Ask.TheVariants.{Done}
use Rattle.fkv_plane.specs.declared.places.Places.{Places}
use Rattle.law_refine.specs.Below.fkv_session.Catching.{Catching}
use Rattle.law_refine.specs.Below.fkv_session.Catching.TheVariants.{Ended, Finishes, Latches, Protects, Refreshes, StoresCut, StoresOwing}
use Rattle.law_refine.specs.Below.fkv_session.Sitting.{Sitting}
use Rattle.law_refine.specs.Below.fkv_session.Sitting.TheVariants.{CatchesUp}
use Rattle.law_refine.specs.Below.fkv_session.CatchingUp.{CatchState, catch_next, catch_requests, catching_next, catching_requests, finish_ledto, finishes, latch_begun, latch_ledto, latch_marked, latch_wanted, latched, latches}
use Rattle.law_refine.specs.Below.fkv_session.Sessions.{Seat, SessionState, session_next}
use Rattle.law_refine.specs.Below.law_local.Sessions.Moves.{requests_at}
use Rattle.law_refine.proofs.Below.law_local.OfSessions.Moves.{next_requests}

-- it has loaded prepare, and takes it up
abbrev pub TakesPrepare : CatchState → Catching → Type 0
TakesPrepare c Refreshes = ⊥
TakesPrepare c Protects = ⊥
TakesPrepare c step = is_prepare c.seen.phase ≡ true

abbrev Takes : CatchState → Type 0
Takes c = TakesPrepare c c.step

abbrev Prepares : CatchState → Type 0
Prepares c = is_prepare c.seen.phase ≡ true

pub takes_so : (c : CatchState) (step : Catching) → TakesPrepare c step → is_prepare c.seen.phase ≡ true
takes_so c Refreshes takes = absurd takes
takes_so c Protects takes = absurd takes
takes_so c Ended takes = takes
takes_so c StoresCut takes = takes
takes_so c StoresOwing takes = takes
takes_so c (Latches i) takes = takes
takes_so c Finishes takes = takes

either_takes : (b : Bool) (c d : CatchState) → Takes c → Takes d → Takes (if b then c else d)
either_takes true c d one other = one
either_takes false c d one other = other

still_takes : (c : CatchState) (step : Catching) → c.step ≡ step → TakesPrepare c step → Takes c
still_takes c step at takes = subst (λ (x : Catching). TakesPrepare c x) (sym at) takes

finishes_takes : (c : CatchState) → Prepares c → Takes (finishes c)
finishes_takes c prepares = either_takes c.is_refresh (record c { refreshing = refresh_finish c.refreshing; step = Finishes }) (record c { step = Ended }) prepares prepares

begun_takes : (p : Places) (bits : ℕ) (c : CatchState) (i : ℕ) (found : Option PendingRequest) → Prepares c → Takes (latch_begun p bits c i found)
begun_takes p bits c i None prepares = finishes_takes c prepares
begun_takes p bits c i (Some pending) prepares = prepares

wanted_takes : (p : Places) (bits : ℕ) (c : CatchState) (requests : List PendingRequest) (found : Option ℕ) → Prepares c → Takes (latch_wanted p bits c requests found)
wanted_takes p bits c requests None prepares = finishes_takes c prepares
wanted_takes p bits c requests (Some i) prepares = begun_takes p bits c i (slice_get requests i) prepares

latches_takes : (p : Places) (bits : ℕ) (c : CatchState) (requests : List PendingRequest) → Prepares c → Takes (latches p bits c requests)
latches_takes p bits c requests prepares =
    either_takes c.is_entering (latch_wanted p bits c requests (position is_unlatched requests)) (finishes c) (wanted_takes p bits c requests (position is_unlatched requests) prepares) (finishes_takes c prepares)

latched_takes : (p : Places) (bits : ℕ) (c : CatchState) (requests : List PendingRequest) (i : ℕ) (ask : Ask LatchAnswer) → c.step ≡ Latches i → Prepares c → Takes (latch_ledto p bits c requests ask)
unfolding latch_ledto
latched_takes p bits c requests i (Done Taken) at prepares = latches_takes p bits c requests prepares
latched_takes p bits c requests i (Done its) at prepares = finishes_takes c prepares
latched_takes p bits c requests i ask at prepares = still_takes c (Latches i) at prepares

finish_takes : (c : CatchState) (ask : Ask RefreshAnswer) → c.step ≡ Finishes → Prepares c → Takes (finish_ledto c ask)
unfolding finish_ledto
finish_takes c (Done its) at prepares = prepares
finish_takes c ask at prepares = still_takes c Finishes at prepares

step_takes : (p : Places) (bits n : ℕ) (c : CatchState) (requests : List PendingRequest) (step : Catching) (reply : ℕ) → c.step ≡ step → TakesPrepare c step → Takes (catching_next p bits n c requests step reply)
unfolding catching_next
step_takes p bits n c requests Refreshes reply at takes = absurd takes
step_takes p bits n c requests Protects reply at takes = absurd takes
step_takes p bits n c requests Ended reply at takes = still_takes c Ended at takes
step_takes p bits n c requests StoresCut reply at takes = takes
step_takes p bits n c requests StoresOwing reply at takes = latches_takes p bits c requests takes
step_takes p bits n c requests (Latches i) reply at takes = latched_takes p bits (record c { latching = latch_next c.latching reply }) requests i (latch_next_ask c.latching reply) at takes
step_takes p bits n c requests Finishes reply at takes = finish_takes (record c { refreshing = refresh_next c.refreshing reply }) (refresh_ask n (refresh_next c.refreshing reply)) at takes

pub catch_takes : (p : Places) (bits n : ℕ) (c : CatchState) (requests : List PendingRequest) (reply : ℕ) → TakesPrepare c c.step → TakesPrepare (catch_next p bits n c requests reply) (catch_next p bits n c requests reply).step
catch_takes p bits n c requests reply takes = step_takes p bits n c (catch_requests c requests reply) c.step reply refl takes

-- ---- the requests
-- only a reply to a latch's ask marks one
abbrev pub IsLatching : Catching → Type 0
IsLatching (Latches i) = ⊤
IsLatching step = ⊥

pub latching_or : (c : CatchState) (requests : List PendingRequest) (step : Catching) (reply : ℕ) → (IsLatching step → ⊥) → catching_requests c requests step reply ≡ requests
unfolding catching_requests
latching_or c requests (Latches i) reply none = absurd (none tt)
latching_or c requests step reply none = refl

-- and where nothing waits, nothing does then
none_latched : (i : ℕ) → latched [] i (slice_get [] i) ≡ []
none_latched i = refl

none_marked : (i : ℕ) (ask : Ask LatchAnswer) → latch_marked [] i ask ≡ []
unfolding latch_marked
none_marked i (Done Taken) = none_latched i
none_marked i ask = refl

none_caught : (c : CatchState) (step : Catching) (reply : ℕ) → catching_requests c [] step reply ≡ []
unfolding catching_requests
none_caught c (Latches i) reply = none_marked i (latch_next_ask c.latching reply)
none_caught c step reply = refl

-- ---- of a session
after_so : (k : Seat) (s : SessionState) (cause : _) (reply : ℕ) → s.step ≡ CatchesUp cause → (session_next k s reply).requests ≡ catch_requests s.catching s.requests reply
after_so k s cause reply at = next_requests k s reply ∙ ap (λ (step : Sitting). requests_at k s step reply) at

pub stay_caught : (k : Seat) (s : SessionState) (cause : _) (reply : ℕ) → s.step ≡ CatchesUp cause → (IsLatching s.catching.step → ⊥) → (session_next k s reply).requests ≡ s.requests
stay_caught k s cause reply at none = after_so k s cause reply at ∙ latching_or s.catching s.requests s.catching.step reply none

pub none_stay : (k : Seat) (s : SessionState) (cause : _) (reply : ℕ) → s.step ≡ CatchesUp cause → s.requests ≡ [] → (session_next k s reply).requests ≡ []
none_stay k s cause reply at none =
    after_so k s cause reply at ∙ (ap (λ (requests : List PendingRequest). catching_requests s.catching requests s.catching.step reply) none ∙ none_caught s.catching s.catching.step reply)
