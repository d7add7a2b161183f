-- While a session refreshes it takes up the phase word that it has loaded, and stores nothing at its epoch word but at the end.
use Rattle.std.proofs.Common.{◌≡◌, ℕ, ◌-◌, List, ◌∷◌, refl, arith, sym, subst, Bool, true, false}
use Rattle.std.specs.Prelude.{Option, Some, None, if◌then◌else◌, not, ◌==◌, ◌%◌, ◌≢◌, slice_get}
use Rattle.std.specs.List.{position}
use Rattle.fkv_plane.specs.declared.asks.Ask.{Ask}
use Rattle.fkv_plane.specs.declared.asks.Ask.TheVariants.{Load, Store, Done}
use Rattle.fkv_plane.specs.declared.places.Places.{Places}
use Rattle.fkv_plane.specs.declared.places.SharedWord.TheVariants as one
use Rattle.fkv_plane.specs.declared.places.SessionWord.TheVariants as own
use Rattle.fkv_plane.specs.Places.{shared_place, session_place}
use Rattle.fkv_plane.specs.Passing.{passed}
use Rattle.fkv_epoch.specs.declared.values.Seen as loaded
use Rattle.fkv_epoch.specs.declared.refreshing.RefreshAnswer.{RefreshAnswer}
use Rattle.fkv_epoch.specs.declared.refreshing.RefreshAnswer.TheVariants.{Loaded, Stored}
use Rattle.fkv_epoch.specs.declared.refreshing.Refreshing.{Refreshing}
use Rattle.fkv_epoch.specs.declared.refreshing.Refreshing.TheVariants as refresh
use Rattle.fkv_epoch.specs.Refreshing.{refresh_ask, refresh_next, refresh_finish}
use Rattle.fkv_epoch.specs.Protecting.{protect_next}
use Rattle.fkv_latch.specs.declared.latching.LatchAnswer.{LatchAnswer}
use Rattle.fkv_latch.specs.declared.latching.LatchAnswer.TheVariants.{Taken}
use Rattle.fkv_latch.specs.declared.latching.Latching.{Latching}
use Rattle.fkv_latch.specs.declared.latching.Latching.TheVariants as latch
use Rattle.fkv_latch.specs.Latching.{latch_ask, latch_next, is_exclusive}
use Rattle.fkv_ops.specs.declared.requests.Seen.{Seen}
use Rattle.fkv_pending.specs.declared.pending_requests.PendingRequest.{PendingRequest}
use Rattle.fkv_pending.specs.Pending.{is_unlatched}
use Rattle.fkv_words.specs.declared.phase_words.PhaseSaid.{PhaseSaid}
use Rattle.fkv_words.specs.declared.phase_words.PhaseSaid.TheVariants.{Says, Spoiled}
use Rattle.fkv_words.specs.PhaseWords.{phase_said}
use Rattle.fkv_session.specs.declared.answers.Told.{Told}
use Rattle.fkv_session.specs.declared.answers.Told.TheVariants as told
use Rattle.fkv_session.specs.declared.catching_up.Catching.{Catching}
use Rattle.fkv_session.specs.declared.catching_up.Catching.TheVariants as catching
use Rattle.fkv_session.specs.CatchingUp.{CatchState, catching_ask, seen_after, finishes, latch_begun, latch_wanted, latches, cuts, is_same_version, enters_prepare, takes_up, refresh_ledto, protect_ledto, latch_ledto, finish_ledto, catching_next}
use Rattle.fkv_session.specs.InOrder.{Exchange, loaded_by, loaded_last, StoresElsewhere, HasStoredNone, IsSaid, IsTakenUp}

abbrev pub phase_loaded : List Exchange → Option ℕ
phase_loaded exchanges = loaded_last exchanges (shared_place one.Phase)

abbrev NoneStored : ℕ → List Exchange → Type 0
NoneStored n exchanges = HasStoredNone (session_place n own.Epoch) exchanges

abbrev pub exchange : Ask Told → ℕ → Exchange
exchange ask reply = record { ask = ask; reply = reply }

-- what a refresh knows of the phase word, while it loads and as it has loaded
abbrev pub RefreshKnows : Refreshing → List Exchange → Type 0
RefreshKnows refresh.LoadsEpoch exchanges = Unit {0}
RefreshKnows (refresh.LoadsPhase epoch) exchanges = Unit {0}
RefreshKnows (refresh.LoadsReadOnly epoch phase) exchanges = phase_loaded exchanges ≡ Some phase
RefreshKnows (refresh.LoadsHead epoch phase read_only) exchanges = phase_loaded exchanges ≡ Some phase
RefreshKnows (refresh.HasLoaded epoch values) exchanges = phase_loaded exchanges ≡ Some values.phase
RefreshKnows step exchanges = ⊥

-- it loads no more
abbrev pub IsPastLoads : Refreshing → Type 0
IsPastLoads refresh.AtRest = Unit {0}
IsPastLoads (refresh.HasLoaded epoch values) = Unit {0}
IsPastLoads (refresh.StoresEpoch epoch) = Unit {0}
IsPastLoads step = ⊥

-- a latch that is shared is taken without a load
abbrev pub IsShared : Latching → Type 0
IsShared (latch.LoadsWord place) = ⊥
IsShared step = Unit {0}

pub record IsRefreshing (n : ℕ) (exchanges : List Exchange) (seen : Seen) (c : CatchState) : Type 0 where
  pub same : c.seen ≡ seen
  pub loaded : RefreshKnows c.refreshing exchanges
  pub none : NoneStored n exchanges

pub record IsTaken (n : ℕ) (exchanges : List Exchange) (seen : Seen) (c : CatchState) : Type 0 where
  pub taken : IsTakenUp seen c.seen (phase_loaded exchanges)
  pub past : IsPastLoads c.refreshing
  pub none : NoneStored n exchanges

-- of a session that refreshes, and did not sleep
abbrev pub IsPast : ℕ → List Exchange → Seen → Bool → CatchState → Type 0
IsPast n exchanges seen refreshes c = refreshes ≡ true → IsTaken n exchanges seen c

abbrev pub CatchKnows : ℕ → List Exchange → Seen → Bool → CatchState → Catching → Type 0
CatchKnows n exchanges seen refreshes c catching.Ended = Unit {0}
CatchKnows n exchanges seen refreshes c catching.Refreshes = IsRefreshing n exchanges seen c
CatchKnows n exchanges seen refreshes c catching.Protects = refreshes ≡ false
CatchKnows n exchanges seen refreshes c (catching.Latches index) = IsShared c.latching × IsPast n exchanges seen refreshes c
CatchKnows n exchanges seen refreshes c step = IsPast n exchanges seen refreshes c

abbrev KnowsSo : ℕ → List Exchange → Seen → Bool → CatchState → Type 0
KnowsSo n exchanges seen refreshes c = CatchKnows n exchanges seen refreshes c c.step

either_knows : (t : Bool) (n : ℕ) (exchanges : List Exchange) (seen : Seen) (refreshes : Bool) (a b : CatchState) → KnowsSo n exchanges seen refreshes a → KnowsSo n exchanges seen refreshes b → KnowsSo n exchanges seen refreshes (if t then a else b)
either_knows true n exchanges seen refreshes a b one other = one
either_knows false n exchanges seen refreshes a b one other = other

still_knows : (n : ℕ) (exchanges : List Exchange) (seen : Seen) (refreshes : Bool) (c : CatchState) (step : Catching) → c.step ≡ step → CatchKnows n exchanges seen refreshes c step → KnowsSo n exchanges seen refreshes c
still_knows n exchanges seen refreshes c step e knows = subst (λ (x : Catching). CatchKnows n exchanges seen refreshes c x) (sym e) knows

-- the take-up
pub finish_past : (step : Refreshing) → IsPastLoads step → IsPastLoads (refresh_finish step)
unfolding refresh_finish
finish_past (refresh.HasLoaded epoch values) past = tt
finish_past refresh.AtRest past = tt
finish_past (refresh.StoresEpoch epoch) past = tt
finish_past step past = absurd past

finishes_knows : (n : ℕ) (exchanges : List Exchange) (seen : Seen) (refreshes : Bool) (c : CatchState) → IsPast n exchanges seen refreshes c → KnowsSo n exchanges seen refreshes (finishes c)
finishes_knows n exchanges seen refreshes c past =
    either_knows c.is_refresh n exchanges seen refreshes (record c { refreshing = refresh_finish c.refreshing; step = catching.Finishes }) (record c { step = catching.Ended })
    (λ e. record { taken = (past e).taken; past = finish_past c.refreshing (past e).past; none = (past e).none }) tt

begun_knows : (p : Places) (bits n : ℕ) (exchanges : List Exchange) (seen : Seen) (refreshes : Bool) (c : CatchState) (i : ℕ) (found : Option PendingRequest) → IsPast n exchanges seen refreshes c
    → KnowsSo n exchanges seen refreshes (latch_begun p bits c i found)
begun_knows p bits n exchanges seen refreshes c i None past = finishes_knows n exchanges seen refreshes c past
begun_knows p bits n exchanges seen refreshes c i (Some pending) past = (tt, λ e. record { taken = (past e).taken; past = (past e).past; none = (past e).none })

wanted_knows : (p : Places) (bits n : ℕ) (exchanges : List Exchange) (seen : Seen) (refreshes : Bool) (c : CatchState) (requests : List PendingRequest) (at : Option ℕ) → IsPast n exchanges seen refreshes c
    → KnowsSo n exchanges seen refreshes (latch_wanted p bits c requests at)
wanted_knows p bits n exchanges seen refreshes c requests None past = finishes_knows n exchanges seen refreshes c past
wanted_knows p bits n exchanges seen refreshes c requests (Some i) past = begun_knows p bits n exchanges seen refreshes c i (slice_get requests i) past

latches_knows : (p : Places) (bits n : ℕ) (exchanges : List Exchange) (seen : Seen) (refreshes : Bool) (c : CatchState) (requests : List PendingRequest) → IsPast n exchanges seen refreshes c
    → KnowsSo n exchanges seen refreshes (latches p bits c requests)
latches_knows p bits n exchanges seen refreshes c requests past =
    either_knows c.is_entering n exchanges seen refreshes (latch_wanted p bits c requests (position is_unlatched requests)) (finishes c) (wanted_knows p bits n exchanges seen refreshes c requests (position is_unlatched requests) past)
    (finishes_knows n exchanges seen refreshes c past)

cuts_knows : (p : Places) (bits n : ℕ) (exchanges : List Exchange) (seen : Seen) (refreshes : Bool) (c : CatchState) (requests : List PendingRequest) (leaves : Bool) → IsPast n exchanges seen refreshes c
    → KnowsSo n exchanges seen refreshes (cuts p bits c requests leaves)
cuts_knows p bits n exchanges seen refreshes c requests true past = λ e. record { taken = (past e).taken; past = (past e).past; none = (past e).none }
cuts_knows p bits n exchanges seen refreshes c requests false past = latches_knows p bits n exchanges seen refreshes c requests past

takes_knows : (p : Places) (bits n : ℕ) (exchanges : List Exchange) (seen : Seen) (refreshes : Bool) (c : CatchState) (requests : List PendingRequest) (after : Seen)
    → (refreshes ≡ true → IsTakenUp seen after (phase_loaded exchanges) × IsPastLoads c.refreshing × NoneStored n exchanges) → KnowsSo n exchanges seen refreshes (takes_up p bits c requests after)
takes_knows p bits n exchanges seen refreshes c requests after past =
    cuts_knows p bits n exchanges seen refreshes (record c { seen = after; is_entering = enters_prepare c.seen after }) requests (not (is_same_version c.seen after))
    (λ e. record { taken = (past e).0; past = (past e).1; none = (past e).2 })

said_so : (seen : Seen) (values : loaded.Seen) (said : PhaseSaid) → IsSaid seen (seen_after seen values said) said
said_so seen values Spoiled = (refl, refl)
said_so seen values (Says phase version) = (refl, refl)

pub taken_so : (before seen : Seen) (values : loaded.Seen) (its : Option ℕ) → seen ≡ before → its ≡ Some values.phase → IsTakenUp before (seen_after seen values (phase_said values.phase)) its
taken_so before seen values None e loads = cc
taken_so before seen values (Some word) e loads =
    let same : word ≡ values.phase = cc in
    rw same (rw e (said_so before values (phase_said values.phase)))

-- what a refresh asks, and knows behind the reply
unfoldable pub asks_refresh : ℕ → Refreshing → Ask Told
asks_refresh n step = passed (passed {B = Unit {0}} (refresh_ask n step) tt) told.Slept

refresh_knows : (n : ℕ) (step : Refreshing) (reply : ℕ) (before : List Exchange) → RefreshKnows step before → RefreshKnows (refresh_next step reply) (exchange (asks_refresh n step) reply ∷ before)
unfolding asks_refresh refresh_ask refresh_next passed
refresh_knows n refresh.LoadsEpoch reply before knows = tt
refresh_knows n (refresh.LoadsPhase epoch) reply before knows = refl
refresh_knows n (refresh.LoadsReadOnly epoch phase) reply before knows = knows
refresh_knows n (refresh.LoadsHead epoch phase read_only) reply before knows = knows
refresh_knows n (refresh.HasLoaded epoch values) reply before knows = knows
refresh_knows n refresh.AtRest reply before knows = absurd knows
refresh_knows n (refresh.StoresEpoch epoch) reply before knows = absurd knows

refresh_none : (n : ℕ) (step : Refreshing) (before : List Exchange) → RefreshKnows step before → StoresElsewhere (session_place n own.Epoch) (asks_refresh n step)
unfolding asks_refresh refresh_ask passed
refresh_none n refresh.AtRest before knows = absurd knows
refresh_none n (refresh.StoresEpoch epoch) before knows = absurd knows
refresh_none n step before knows = tt

abbrev LoadedSo : Refreshing → Ask RefreshAnswer → List Exchange → Type 0
LoadedSo step (Done (Loaded values)) exchanges = (phase_loaded exchanges ≡ Some values.phase) × IsPastLoads step
LoadedSo step ask exchanges = Unit {0}

loaded_so : (n : ℕ) (step : Refreshing) (exchanges : List Exchange) → RefreshKnows step exchanges → LoadedSo step (refresh_ask n step) exchanges
unfolding refresh_ask
loaded_so n (refresh.HasLoaded epoch values) exchanges knows = (knows, tt)
loaded_so n step exchanges knows = tt

refreshed_knows : (p : Places) (bits n : ℕ) (exchanges : List Exchange) (seen : Seen) (refreshes : Bool) (c : CatchState) (requests : List PendingRequest) (ask : Ask RefreshAnswer) → c.step ≡ catching.Refreshes → IsRefreshing n exchanges seen c
    → LoadedSo c.refreshing ask exchanges → KnowsSo n exchanges seen refreshes (refresh_ledto p bits c requests ask)
unfolding refresh_ledto
refreshed_knows p bits n exchanges seen refreshes c requests (Done (Loaded values)) e knows so =
    takes_knows p bits n exchanges seen refreshes c requests (seen_after c.seen values (phase_said values.phase)) (λ is. (taken_so seen c.seen values (phase_loaded exchanges) knows.same so.0, so.1, knows.none))
refreshed_knows p bits n exchanges seen refreshes c requests (Done Stored) e knows so = tt
refreshed_knows p bits n exchanges seen refreshes c requests ask e knows so = still_knows n exchanges seen refreshes c catching.Refreshes e knows

protected_knows : (p : Places) (bits n : ℕ) (exchanges : List Exchange) (seen : Seen) (refreshes : Bool) (c : CatchState) (requests : List PendingRequest) (ask : Ask loaded.Seen) → c.step ≡ catching.Protects → refreshes ≡ false
    → KnowsSo n exchanges seen refreshes (protect_ledto p bits c requests ask)
unfolding protect_ledto
protected_knows p bits n exchanges seen refreshes c requests (Done values) e wakes = takes_knows p bits n exchanges seen refreshes c requests (seen_after c.seen values (phase_said values.phase)) (λ is. cc)
protected_knows p bits n exchanges seen refreshes c requests ask e wakes = still_knows n exchanges seen refreshes c catching.Protects e wakes

-- latches
either_shared : (t : Bool) (a b : Latching) → IsShared a → IsShared b → IsShared (if t then a else b)
either_shared true a b one other = one
either_shared false a b one other = other

pub shared_next : (step : Latching) (reply : ℕ) → IsShared step → IsShared (latch_next step reply)
unfolding latch_next
shared_next (latch.AddsShare place) reply shared = either_shared (is_exclusive reply) (latch.GivesBack place) latch.AtRest tt tt
shared_next (latch.LoadsWord place) reply shared = absurd shared
shared_next step reply shared = tt

latched_knows : (p : Places) (bits n : ℕ) (exchanges : List Exchange) (seen : Seen) (refreshes : Bool) (c : CatchState) (requests : List PendingRequest) (i : ℕ) (ask : Ask LatchAnswer) → c.step ≡ catching.Latches i → IsShared c.latching
    → IsPast n exchanges seen refreshes c → KnowsSo n exchanges seen refreshes (latch_ledto p bits c requests ask)
unfolding latch_ledto
latched_knows p bits n exchanges seen refreshes c requests i (Done Taken) e shared past = latches_knows p bits n exchanges seen refreshes c requests past
latched_knows p bits n exchanges seen refreshes c requests i (Done its) e shared past = finishes_knows n exchanges seen refreshes c past
latched_knows p bits n exchanges seen refreshes c requests i ask e shared past = still_knows n exchanges seen refreshes c (catching.Latches i) e (shared, past)

-- an ask that neither stores the epoch word nor loads anything
abbrev pub AsksAside : ℕ → Ask Told → Type 0
AsksAside n (Load at) = ⊥
AsksAside n (Store at word) = at ≢ session_place n own.Epoch
AsksAside n ask = Unit {0}

pub aside_loads : (n : ℕ) (ask : Ask Told) (reply : ℕ) (before : Option ℕ) → AsksAside n ask → loaded_by ask reply (shared_place one.Phase) before ≡ before
aside_loads n (Load at) reply before aside = absurd aside
aside_loads n ask reply before aside = refl

aside_stores : (n : ℕ) (ask : Ask Told) → AsksAside n ask → StoresElsewhere (session_place n own.Epoch) ask
aside_stores n (Store at word) aside = aside
aside_stores n ask aside = tt

aside_past : (n : ℕ) (ask : Ask Told) (reply : ℕ) (before : List Exchange) (seen : Seen) (refreshes : Bool) (c : CatchState) → AsksAside n ask → IsPast n before seen refreshes c → IsPast n (exchange ask reply ∷ before) seen refreshes c
aside_past n ask reply before seen refreshes c aside past =
    λ e. record {
      taken = subst (λ (x : Option ℕ). IsTakenUp seen c.seen x) (sym (aside_loads n ask reply (phase_loaded before) aside)) (past e).taken;
      past = (past e).past;
      none = (aside_stores n ask aside, (past e).none);
    }

pub latch_aside : (n : ℕ) (step : Latching) → IsShared step → AsksAside n (passed (passed {B = Unit {0}} (latch_ask step) tt) told.Slept)
unfolding latch_ask passed
latch_aside n (latch.LoadsWord place) shared = absurd shared
latch_aside n step shared = tt

pub cut_aside : (n : ℕ) (even : Bool) → session_place n (if even then own.EvenCut else own.OddCut) ≢ session_place n own.Epoch
cut_aside n true = λ e. absurd (omega (arith, e))
cut_aside n false = λ e. absurd (omega (arith, e))

pub owing_aside : (n : ℕ) → session_place n own.Owing ≢ session_place n own.Epoch
owing_aside n = λ e. absurd (omega (arith, e))

-- the store of the epoch word ends it
finish_knows : (n : ℕ) (before : List Exchange) (seen : Seen) (refreshes : Bool) (c : CatchState) (step : Refreshing) (reply : ℕ) → c.step ≡ catching.Finishes → (refreshes ≡ true → IsPastLoads step)
    → KnowsSo n (exchange (asks_refresh n step) reply ∷ before) seen refreshes (finish_ledto (record c { refreshing = refresh_next step reply }) (refresh_ask n (refresh_next step reply)))
unfolding finish_ledto refresh_next refresh_ask
finish_knows n before seen refreshes c refresh.AtRest reply e past = tt
finish_knows n before seen refreshes c (refresh.HasLoaded epoch values) reply e past = tt
finish_knows n before seen refreshes c (refresh.StoresEpoch epoch) reply e past = tt
finish_knows n before seen refreshes c (refresh.LoadsHead epoch phase read_only) reply e past = tt
finish_knows n before seen refreshes c refresh.LoadsEpoch reply e past = rw e (λ is. absurd (past is))
finish_knows n before seen refreshes c (refresh.LoadsPhase epoch) reply e past = rw e (λ is. absurd (past is))
finish_knows n before seen refreshes c (refresh.LoadsReadOnly epoch phase) reply e past = rw e (λ is. absurd (past is))

-- behind each reply
pub step_knows : (p : Places) (bits n : ℕ) (before : List Exchange) (seen : Seen) (refreshes : Bool) (c : CatchState) (requests after : List PendingRequest) (step : Catching) (reply : ℕ) → c.step ≡ step → CatchKnows n before seen refreshes c step
    → KnowsSo n (exchange (passed (catching_ask p n c requests step) told.Slept) reply ∷ before) seen refreshes (catching_next p bits n c after step reply)
unfolding catching_next catching_ask passed asks_refresh
step_knows p bits n before seen refreshes c requests after catching.Ended reply e knows = rw e tt
step_knows p bits n before seen refreshes c requests after catching.Refreshes reply e knows =
    let exchanges : List Exchange = exchange (asks_refresh n c.refreshing) reply ∷ before in
    let its : CatchState = record c { refreshing = refresh_next c.refreshing reply } in
    let so = refresh_knows n c.refreshing reply before knows.loaded in
    refreshed_knows p bits n exchanges seen refreshes its after _ e (record { same = knows.same; loaded = so; none = (refresh_none n c.refreshing before knows.loaded, knows.none) }) (loaded_so n (refresh_next c.refreshing reply) exchanges so)
step_knows p bits n before seen refreshes c requests after catching.Protects reply e knows = protected_knows p bits n _ seen refreshes (record c { protecting = protect_next c.protecting reply }) after _ e knows
step_knows p bits n before seen refreshes c requests after catching.StoresCut reply e knows = aside_past n _ reply before seen refreshes (record c { step = catching.StoresOwing }) (cut_aside n ((c.seen.version.0 - 1) % 2 == 0)) (λ is. record { taken = (knows is).taken; past = (knows is).past; none = (knows is).none })
step_knows p bits n before seen refreshes c requests after catching.StoresOwing reply e knows = latches_knows p bits n _ seen refreshes c after (aside_past n _ reply before seen refreshes c (owing_aside n) knows)
step_knows p bits n before seen refreshes c requests after (catching.Latches i) reply e knows =
    let its : CatchState = record c { latching = latch_next c.latching reply } in
    latched_knows p bits n _ seen refreshes its after i _ e (shared_next c.latching reply knows.0)
    (aside_past n _ reply before seen refreshes its (latch_aside n c.latching knows.0) (λ is. record { taken = (knows.1 is).taken; past = (knows.1 is).past; none = (knows.1 is).none }))
step_knows p bits n before seen refreshes c requests after catching.Finishes reply e knows = finish_knows n before seen refreshes c c.refreshing reply e (λ is. (knows is).past)
