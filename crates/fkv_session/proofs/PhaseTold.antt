-- What a session goes by once it has caught up is the phase word that it has loaded last, whether it refreshes or wakes.
use Rattle.std.proofs.Common.{◌≡◌, ℕ, ◌-◌, List, ◌∷◌, refl, sym, subst, Bool, true, false}
use Rattle.std.specs.Prelude.{Option, Some, None, if◌then◌else◌, not, ◌==◌, ◌%◌, slice_get}
use Rattle.std.specs.List.{position}
use Rattle.fkv_plane.specs.declared.asks.Ask.{Ask}
use Rattle.fkv_plane.specs.declared.asks.Ask.TheVariants.{Store, Done}
use Rattle.fkv_plane.specs.declared.places.Places.{Places}
use Rattle.fkv_plane.specs.Places.{session_place}
use Rattle.fkv_plane.specs.Passing.{passed}
use Rattle.fkv_epoch.specs.declared.values.Seen as loaded
use Rattle.fkv_epoch.specs.declared.refreshing.Refreshing.{Refreshing}
use Rattle.fkv_epoch.specs.declared.refreshing.Refreshing.TheVariants as refresh
use Rattle.fkv_epoch.specs.declared.protecting.Protecting.{Protecting}
use Rattle.fkv_epoch.specs.declared.protecting.Protecting.TheVariants as protect
use Rattle.fkv_epoch.specs.Refreshing.{refresh_ask, refresh_next, refresh_finish}
use Rattle.fkv_epoch.specs.Protecting.{protect_ask, protect_next, protect_next_ask}
use Rattle.fkv_latch.specs.declared.latching.LatchAnswer.{LatchAnswer}
use Rattle.fkv_latch.specs.declared.latching.LatchAnswer.TheVariants.{Taken}
use Rattle.fkv_latch.specs.Latching.{latch_next}
use Rattle.fkv_ops.specs.declared.requests.Seen.{Seen}
use Rattle.fkv_pending.specs.declared.pending_requests.PendingRequest.{PendingRequest}
use Rattle.fkv_pending.specs.Pending.{is_unlatched}
use Rattle.fkv_words.specs.PhaseWords.{phase_said}
use Rattle.fkv_session.specs.declared.answers.Told.{Told}
use Rattle.fkv_session.specs.declared.answers.Told.TheVariants as told
use Rattle.fkv_session.specs.declared.catching_up.Catching.{Catching}
use Rattle.fkv_session.specs.declared.catching_up.Catching.TheVariants as catching
use Rattle.fkv_session.specs.CatchingUp.{CatchState, cut_at, cut_of, refresh_begun, wake_begun, catching_ask, seen_after, finishes, latch_begun, latch_wanted, latches, cuts, is_same_version, enters_prepare, takes_up, refresh_ledto, protect_ledto, latch_ledto, finish_ledto, catching_next}
use Rattle.fkv_session.specs.InOrder.{Exchange, IsTakenUp}
use Rattle.fkv_session.proofs.PhaseTaken.{phase_loaded, exchange, IsPastLoads, IsShared, finish_past, taken_so, asks_refresh, shared_next, AsksAside, aside_loads, latch_aside, cut_aside, owing_aside}

abbrev values_of : ℕ → ℕ → ℕ → loaded.Seen
values_of phase read_only head = record { phase = phase; read_only = record { 0 = read_only }; head = record { 0 = head } }

-- while it loads
abbrev pub RefreshLoads : Refreshing → List Exchange → Type 0
RefreshLoads refresh.LoadsEpoch asked = Unit {0}
RefreshLoads (refresh.LoadsPhase epoch) asked = Unit {0}
RefreshLoads (refresh.LoadsReadOnly epoch phase) asked = phase_loaded asked ≡ Some phase
RefreshLoads (refresh.LoadsHead epoch phase read_only) asked = phase_loaded asked ≡ Some phase
RefreshLoads step asked = ⊥

abbrev pub ProtectLoads : Protecting → List Exchange → Type 0
ProtectLoads protect.LoadsEpoch asked = Unit {0}
ProtectLoads (protect.StoresEpoch epoch) asked = Unit {0}
ProtectLoads protect.LoadsPhase asked = Unit {0}
ProtectLoads (protect.LoadsReadOnly phase) asked = phase_loaded asked ≡ Some phase
ProtectLoads (protect.LoadsHead phase read_only) asked = phase_loaded asked ≡ Some phase
ProtectLoads protect.AtRest asked = ⊥

-- once it has taken up what it loaded; a refresh loads no more then
pub record HasTakenUp (seen : Seen) (asked : List Exchange) (c : CatchState) : Type 0 where
  pub taken : IsTakenUp seen c.seen (phase_loaded asked)
  pub past : c.is_refresh ≡ true → IsPastLoads c.refreshing

abbrev pub PhaseAt : Seen → List Exchange → CatchState → Catching → Type 0
PhaseAt seen asked c catching.Refreshes = (c.seen ≡ seen) × RefreshLoads c.refreshing asked
PhaseAt seen asked c catching.Protects = (c.seen ≡ seen) × (c.is_refresh ≡ false) × ProtectLoads c.protecting asked
PhaseAt seen asked c (catching.Latches index) = IsShared c.latching × HasTakenUp seen asked c
PhaseAt seen asked c catching.Finishes = (c.is_refresh ≡ true) × HasTakenUp seen asked c
PhaseAt seen asked c step = HasTakenUp seen asked c

abbrev pub PhaseNow : Seen → List Exchange → CatchState → Type 0
PhaseNow seen asked c = PhaseAt seen asked c c.step

either_now : (b : Bool) (seen : Seen) (asked : List Exchange) (one other : CatchState) → (b ≡ true → PhaseNow seen asked one) → PhaseNow seen asked other → PhaseNow seen asked (if b then one else other)
either_now true seen asked one other at at_other = at refl
either_now false seen asked one other at at_other = at_other

still_now : (seen : Seen) (asked : List Exchange) (c : CatchState) (step : Catching) → c.step ≡ step → PhaseAt seen asked c step → PhaseNow seen asked c
still_now seen asked c step e at = subst (λ (x : Catching). PhaseAt seen asked c x) (sym e) at

-- the take-up
finishes_now : (seen : Seen) (asked : List Exchange) (c : CatchState) → HasTakenUp seen asked c → PhaseNow seen asked (finishes c)
finishes_now seen asked c has =
    either_now c.is_refresh seen asked (record c { refreshing = refresh_finish c.refreshing; step = catching.Finishes }) (record c { step = catching.Ended })
    (λ is. (is, record { taken = has.taken; past = λ e. finish_past c.refreshing (has.past e) })) (record { taken = has.taken; past = has.past })

begun_now : (p : Places) (bits : ℕ) (seen : Seen) (asked : List Exchange) (c : CatchState) (i : ℕ) (found : Option PendingRequest) → HasTakenUp seen asked c → PhaseNow seen asked (latch_begun p bits c i found)
begun_now p bits seen asked c i None has = finishes_now seen asked c has
begun_now p bits seen asked c i (Some pending) has = (tt, record { taken = has.taken; past = has.past })

wanted_now : (p : Places) (bits : ℕ) (seen : Seen) (asked : List Exchange) (c : CatchState) (requests : List PendingRequest) (at : Option ℕ) → HasTakenUp seen asked c → PhaseNow seen asked (latch_wanted p bits c requests at)
wanted_now p bits seen asked c requests None has = finishes_now seen asked c has
wanted_now p bits seen asked c requests (Some i) has = begun_now p bits seen asked c i (slice_get requests i) has

latches_now : (p : Places) (bits : ℕ) (seen : Seen) (asked : List Exchange) (c : CatchState) (requests : List PendingRequest) → HasTakenUp seen asked c → PhaseNow seen asked (latches p bits c requests)
latches_now p bits seen asked c requests has =
    either_now c.is_entering seen asked (latch_wanted p bits c requests (position is_unlatched requests)) (finishes c) (λ is. wanted_now p bits seen asked c requests (position is_unlatched requests) has) (finishes_now seen asked c has)

cuts_now : (p : Places) (bits : ℕ) (seen : Seen) (asked : List Exchange) (c : CatchState) (requests : List PendingRequest) (leaves : Bool) → HasTakenUp seen asked c → PhaseNow seen asked (cuts p bits c requests leaves)
cuts_now p bits seen asked c requests true has = record { taken = has.taken; past = has.past }
cuts_now p bits seen asked c requests false has = latches_now p bits seen asked c requests has

takes_now : (p : Places) (bits : ℕ) (seen : Seen) (asked : List Exchange) (c : CatchState) (requests : List PendingRequest) (after : Seen) → IsTakenUp seen after (phase_loaded asked) → (c.is_refresh ≡ true → IsPastLoads c.refreshing)
    → PhaseNow seen asked (takes_up p bits c requests after)
takes_now p bits seen asked c requests after taken past =
    cuts_now p bits seen asked (record c { seen = after; is_entering = enters_prepare c.seen after }) requests (not (is_same_version c.seen after)) (record { taken = taken; past = past })

-- the loads of a refresh
refreshes_now : (p : Places) (bits n : ℕ) (seen : Seen) (before : List Exchange) (c : CatchState) (requests : List PendingRequest) (step : Refreshing) (reply : ℕ) → c.step ≡ catching.Refreshes → c.seen ≡ seen → RefreshLoads step before
    → PhaseNow seen (exchange (asks_refresh n step) reply ∷ before) (refresh_ledto p bits (record c { refreshing = refresh_next step reply }) requests (refresh_ask n (refresh_next step reply)))
unfolding asks_refresh refresh_ask refresh_next refresh_ledto passed
refreshes_now p bits n seen before c requests refresh.LoadsEpoch reply e same loads = still_now seen _ (record c { refreshing = refresh.LoadsPhase reply }) catching.Refreshes e (same, tt)
refreshes_now p bits n seen before c requests (refresh.LoadsPhase epoch) reply e same loads = still_now seen _ (record c { refreshing = refresh.LoadsReadOnly epoch reply }) catching.Refreshes e (same, refl)
refreshes_now p bits n seen before c requests (refresh.LoadsReadOnly epoch phase) reply e same loads = still_now seen _ (record c { refreshing = refresh.LoadsHead epoch phase reply }) catching.Refreshes e (same, loads)
refreshes_now p bits n seen before c requests (refresh.LoadsHead epoch phase read_only) reply e same loads =
    takes_now p bits seen _ (record c { refreshing = refresh.HasLoaded epoch (values_of phase read_only reply) }) requests (seen_after c.seen (values_of phase read_only reply) (phase_said phase))
    (taken_so seen c.seen (values_of phase read_only reply) _ same loads) (λ is. tt)
refreshes_now p bits n seen before c requests refresh.AtRest reply e same loads = absurd loads
refreshes_now p bits n seen before c requests (refresh.HasLoaded epoch values) reply e same loads = absurd loads
refreshes_now p bits n seen before c requests (refresh.StoresEpoch epoch) reply e same loads = absurd loads

-- and of a wake
asks_protect : ℕ → Protecting → Ask Told
asks_protect n step = passed (passed {B = Unit {0}} (protect_ask n step) tt) told.Slept

no_refresh : {A : Type 0} (b : Bool) → b ≡ false → b ≡ true → A
no_refresh true e is = cc
no_refresh false e is = cc

protects_now : (p : Places) (bits n : ℕ) (seen : Seen) (before : List Exchange) (c : CatchState) (requests : List PendingRequest) (step : Protecting) (reply : ℕ) → c.step ≡ catching.Protects → c.seen ≡ seen → c.is_refresh ≡ false → ProtectLoads step before
    → PhaseNow seen (exchange (asks_protect n step) reply ∷ before) (protect_ledto p bits (record c { protecting = protect_next step reply }) requests (protect_next_ask n step reply))
unfolding asks_protect protect_ask protect_next protect_next_ask protect_ledto passed
protects_now p bits n seen before c requests protect.LoadsEpoch reply e same wakes loads = still_now seen _ (record c { protecting = protect.StoresEpoch reply }) catching.Protects e (same, wakes, tt)
protects_now p bits n seen before c requests (protect.StoresEpoch epoch) reply e same wakes loads = still_now seen _ (record c { protecting = protect.LoadsPhase }) catching.Protects e (same, wakes, tt)
protects_now p bits n seen before c requests protect.LoadsPhase reply e same wakes loads = still_now seen _ (record c { protecting = protect.LoadsReadOnly reply }) catching.Protects e (same, wakes, refl)
protects_now p bits n seen before c requests (protect.LoadsReadOnly phase) reply e same wakes loads = still_now seen _ (record c { protecting = protect.LoadsHead phase reply }) catching.Protects e (same, wakes, loads)
protects_now p bits n seen before c requests (protect.LoadsHead phase read_only) reply e same wakes loads =
    takes_now p bits seen _ (record c { protecting = protect.AtRest }) requests (seen_after c.seen (values_of phase read_only reply) (phase_said phase))
    (taken_so seen c.seen (values_of phase read_only reply) _ same loads) (λ is. no_refresh c.is_refresh wakes is)
protects_now p bits n seen before c requests protect.AtRest reply e same wakes loads = absurd loads

-- an ask that loads no phase word
aside_now : (n : ℕ) (ask : Ask Told) (reply : ℕ) (before : List Exchange) (seen : Seen) (c : CatchState) → AsksAside n ask → HasTakenUp seen before c → HasTakenUp seen (exchange ask reply ∷ before) c
aside_now n ask reply before seen c aside has = record {
  taken = subst (λ (x : Option ℕ). IsTakenUp seen c.seen x) (sym (aside_loads n ask reply (phase_loaded before) aside)) has.taken;
  past = has.past;
}

-- latches
latched_now : (p : Places) (bits : ℕ) (seen : Seen) (asked : List Exchange) (c : CatchState) (requests : List PendingRequest) (i : ℕ) (ask : Ask LatchAnswer) → c.step ≡ catching.Latches i → IsShared c.latching → HasTakenUp seen asked c
    → PhaseNow seen asked (latch_ledto p bits c requests ask)
unfolding latch_ledto
latched_now p bits seen asked c requests i (Done Taken) e shared has = latches_now p bits seen asked c requests has
latched_now p bits seen asked c requests i (Done its) e shared has = finishes_now seen asked c has
latched_now p bits seen asked c requests i ask e shared has = still_now seen asked c (catching.Latches i) e (shared, has)

-- the store of the epoch word ends it
finish_now : (n : ℕ) (seen : Seen) (before : List Exchange) (c : CatchState) (step : Refreshing) (reply : ℕ) → c.step ≡ catching.Finishes → c.is_refresh ≡ true → IsPastLoads step → IsTakenUp seen c.seen (phase_loaded before)
    → PhaseNow seen (exchange (asks_refresh n step) reply ∷ before) (finish_ledto (record c { refreshing = refresh_next step reply }) (refresh_ask n (refresh_next step reply)))
unfolding asks_refresh refresh_ask refresh_next finish_ledto passed
finish_now n seen before c refresh.AtRest reply e is past taken = record { taken = taken; past = λ _. tt }
finish_now n seen before c (refresh.HasLoaded epoch values) reply e is past taken = record { taken = taken; past = λ _. tt }
finish_now n seen before c (refresh.StoresEpoch epoch) reply e is past taken = record { taken = taken; past = λ _. tt }
finish_now n seen before c refresh.LoadsEpoch reply e is past taken = absurd past
finish_now n seen before c (refresh.LoadsPhase epoch) reply e is past taken = absurd past
finish_now n seen before c (refresh.LoadsReadOnly epoch phase) reply e is past taken = absurd past
finish_now n seen before c (refresh.LoadsHead epoch phase read_only) reply e is past taken = absurd past

-- behind each reply
pub phase_step : (p : Places) (bits n : ℕ) (seen : Seen) (before : List Exchange) (c : CatchState) (requests after : List PendingRequest) (step : Catching) (reply : ℕ) → c.step ≡ step → PhaseAt seen before c step
    → PhaseNow seen (exchange (passed (catching_ask p n c requests step) told.Slept) reply ∷ before) (catching_next p bits n c after step reply)
unfolding catching_next catching_ask passed asks_refresh asks_protect
phase_step p bits n seen before c requests after catching.Ended reply e at = still_now seen _ c catching.Ended e (record { taken = at.taken; past = at.past })
phase_step p bits n seen before c requests after catching.Refreshes reply e at = refreshes_now p bits n seen before c after c.refreshing reply e at.0 at.1
phase_step p bits n seen before c requests after catching.Protects reply e at = protects_now p bits n seen before c after c.protecting reply e at.0 at.1 at.2
phase_step p bits n seen before c requests after catching.StoresCut reply e at =
    let has = aside_now n (Store (session_place n (cut_of (c.seen.version.0 - 1))) (cut_at c.serial (c.seen.version.0 - 1))) reply before seen c (cut_aside n ((c.seen.version.0 - 1) % 2 == 0)) at in
    record { taken = has.taken; past = has.past }
phase_step p bits n seen before c requests after catching.StoresOwing reply e at = latches_now p bits seen _ c after (aside_now n _ reply before seen c (owing_aside n) at)
phase_step p bits n seen before c requests after (catching.Latches i) reply e at =
    let its : CatchState = record c { latching = latch_next c.latching reply } in
    let has = aside_now n _ reply before seen c (latch_aside n c.latching at.0) at.1 in
    latched_now p bits seen _ its after i _ e (shared_next c.latching reply at.0) (record { taken = has.taken; past = has.past })
phase_step p bits n seen before c requests after catching.Finishes reply e at = finish_now n seen before c c.refreshing reply e at.0 (at.1.past at.0) at.1.taken

-- as it begins
pub refresh_now : (seen : Seen) (asked : List Exchange) (c : CatchState) (serial : ℕ) → PhaseNow seen asked (refresh_begun c seen serial)
refresh_now seen asked c serial = (refl, tt)

pub wake_now : (seen : Seen) (asked : List Exchange) (c : CatchState) (serial : ℕ) → PhaseNow seen asked (wake_begun c seen serial)
wake_now seen asked c serial = (refl, refl, tt)

-- and at its end
loads_ask : (n : ℕ) (step : Refreshing) (asked : List Exchange) (its : Unit {0}) → RefreshLoads step asked → passed {B = Unit {0}} (refresh_ask n step) tt ≡ Done its → ⊥
unfolding refresh_ask passed
loads_ask n refresh.LoadsEpoch asked its loads e = cc
loads_ask n (refresh.LoadsPhase epoch) asked its loads e = cc
loads_ask n (refresh.LoadsReadOnly epoch phase) asked its loads e = cc
loads_ask n (refresh.LoadsHead epoch phase read_only) asked its loads e = cc
loads_ask n step asked its loads e = absurd loads

protects_ask : (n : ℕ) (step : Protecting) (asked : List Exchange) (its : Unit {0}) → ProtectLoads step asked → passed {B = Unit {0}} (protect_ask n step) tt ≡ Done its → ⊥
unfolding protect_ask passed
protects_ask n protect.LoadsEpoch asked its loads e = cc
protects_ask n (protect.StoresEpoch epoch) asked its loads e = cc
protects_ask n protect.LoadsPhase asked its loads e = cc
protects_ask n (protect.LoadsReadOnly phase) asked its loads e = cc
protects_ask n (protect.LoadsHead phase read_only) asked its loads e = cc
protects_ask n protect.AtRest asked its loads e = absurd loads

pub phase_taken : (p : Places) (n : ℕ) (seen : Seen) (asked : List Exchange) (c : CatchState) (requests : List PendingRequest) (step : Catching) (its : Unit {0}) → PhaseAt seen asked c step → catching_ask p n c requests step ≡ Done its
    → IsTakenUp seen c.seen (phase_loaded asked)
unfolding catching_ask
phase_taken p n seen asked c requests catching.Ended its at e = at.taken
phase_taken p n seen asked c requests catching.Refreshes its at e = absurd (loads_ask n c.refreshing asked its at.1 e)
phase_taken p n seen asked c requests catching.Protects its at e = absurd (protects_ask n c.protecting asked its at.2 e)
phase_taken p n seen asked c requests (catching.Latches i) its at e = at.1.taken
phase_taken p n seen asked c requests catching.Finishes its at e = at.1.taken
phase_taken p n seen asked c requests catching.StoresCut its at e = at.taken
phase_taken p n seen asked c requests catching.StoresOwing its at e = at.taken
