-- A session that goes on behind a shift takes up a phase that isn't prepare.
use Rattle.std.proofs.Common.{◌≡◌, ℕ, ◌<◌, refl, sym, subst, List, Bool, true, false}
use Rattle.std.specs.Prelude.{⊤, Option, Some, None, if◌then◌else◌, not, slice_get}
use Rattle.std.specs.List.{position}
use Rattle.fkv_base.specs.declared.phases.Phase.TheVariants.{Prepare}
use Rattle.fkv_epoch.specs.declared.refreshing.RefreshAnswer.{RefreshAnswer}
use Rattle.fkv_epoch.specs.declared.refreshing.Refreshing.{Refreshing}
use Rattle.fkv_epoch.specs.declared.refreshing.Refreshing.TheVariants as refresh
use Rattle.fkv_epoch.specs.declared.values.Seen as loaded
use Rattle.fkv_epoch.specs.Refreshing.{refresh_ask, refresh_finish, refresh_next}
use Rattle.fkv_latch.specs.declared.latching.LatchAnswer.{LatchAnswer}
use Rattle.fkv_latch.specs.declared.latching.LatchAnswer.TheVariants.{Taken}
use Rattle.fkv_latch.specs.Latching.{latch_next, latch_next_ask}
use Rattle.law_commit.specs.Below.fkv_ops.Seen.{Seen}
use Rattle.law_commit.specs.Below.fkv_ops.Trying.{is_prepare}
use Rattle.law_commit.specs.Below.fkv_pending.PendingRequest.{PendingRequest}
use Rattle.law_commit.specs.Below.fkv_pending.Pending.{is_unlatched}
use Rattle.fkv_plane.specs.declared.asks.Ask.{Ask}
use Rattle.fkv_plane.specs.declared.asks.Ask.TheVariants.{Done}
use Rattle.fkv_plane.specs.declared.places.Places.{Places}
use Rattle.fkv_plane.specs.Passing.{passed}
use Rattle.law_commit.specs.Below.fkv_session.Catching.{Catching}
use Rattle.law_commit.specs.Below.fkv_session.Catching.TheVariants.{Ended, Finishes, Latches, Protects, Refreshes, StoresCut, StoresOwing}
use Rattle.law_commit.specs.Below.fkv_session.CatchingUp.{CatchState, catch_ask, catch_next, catch_requests, catching_ask, catching_next, cuts, enters_prepare, finish_ledto, finishes, is_same_version, latch_begun, latch_ledto, latch_wanted, latches, refresh_ledto, seen_after, takes_up}
use Rattle.fkv_words.specs.declared.phase_words.PhaseSaid.{PhaseSaid}
use Rattle.fkv_words.specs.declared.phase_words.PhaseSaid.TheVariants.{Says, Spoiled}
use Rattle.fkv_words.specs.PhaseWords.{phase_said}
use Rattle.law_commit.specs.Ranks.{rank}

-- it goes by prepare, and a phase word of this rank has come further
abbrev pub HasPassed : ℕ → Seen → Type 0
HasPassed top seen = (is_prepare seen.phase ≡ true) × (rank Prepare seen.version.0 < top)

-- a phase word says a phase, and not prepare
abbrev pub SaysElse : PhaseSaid → Type 0
SaysElse Spoiled = ⊥
SaysElse (Says phase version) = is_prepare phase ≡ false

-- so does what it has loaded
abbrev pub RefreshRow : Refreshing → Type 0
RefreshRow refresh.LoadsEpoch = ⊤
RefreshRow (refresh.LoadsPhase epoch) = ⊤
RefreshRow (refresh.LoadsReadOnly epoch phase) = SaysElse (phase_said phase)
RefreshRow (refresh.LoadsHead epoch phase read_only) = SaysElse (phase_said phase)
RefreshRow step = ⊥

abbrev pub CatchRow : ℕ → Seen → CatchState → Catching → Type 0
CatchRow top seen c Refreshes = HasPassed top seen × RefreshRow c.refreshing
CatchRow top seen c Protects = ⊥
CatchRow top seen c step = is_prepare c.seen.phase ≡ false

-- the phase is what it loads next
abbrev pub loads_next : Refreshing → Type 0
loads_next (refresh.LoadsPhase epoch) = ⊤
loads_next step = ⊥

module _ (top : ℕ) (seen : Seen) where
  abbrev Row : CatchState → Type 0
  Row c = CatchRow top seen c c.step

  abbrev Else : CatchState → Type 0
  Else c = is_prepare c.seen.phase ≡ false

  either : (b : Bool) (c d : CatchState) → Row c → Row d → Row (if b then c else d)
  either true c d one other = one
  either false c d one other = other

  still : (c : CatchState) (step : Catching) → c.step ≡ step → CatchRow top seen c step → Row c
  still c step at its = subst (CatchRow top seen c) (sym at) its

  finishes_row : (c : CatchState) → Else c → Row (finishes c)
  finishes_row c its = either c.is_refresh (record c { refreshing = refresh_finish c.refreshing; step = Finishes }) (record c { step = Ended }) its its

  begun_row : (p : Places) (bits : ℕ) (c : CatchState) (i : ℕ) (found : Option PendingRequest) → Else c → Row (latch_begun p bits c i found)
  begun_row p bits c i None its = finishes_row c its
  begun_row p bits c i (Some pending) its = its

  wanted_row : (p : Places) (bits : ℕ) (c : CatchState) (requests : List PendingRequest) (found : Option ℕ) → Else c → Row (latch_wanted p bits c requests found)
  wanted_row p bits c requests None its = finishes_row c its
  wanted_row p bits c requests (Some i) its = begun_row p bits c i (slice_get requests i) its

  latches_row : (p : Places) (bits : ℕ) (c : CatchState) (requests : List PendingRequest) → Else c → Row (latches p bits c requests)
  latches_row p bits c requests its =
      either c.is_entering (latch_wanted p bits c requests (position is_unlatched requests)) (finishes c) (wanted_row p bits c requests (position is_unlatched requests) its) (finishes_row c its)

  cuts_row : (p : Places) (bits : ℕ) (c : CatchState) (requests : List PendingRequest) (leaves : Bool) → Else c → Row (cuts p bits c requests leaves)
  cuts_row p bits c requests true its = its
  cuts_row p bits c requests false its = latches_row p bits c requests its

  seen_else : (before : Seen) (values : loaded.Seen) (said : PhaseSaid) → SaysElse said → is_prepare (seen_after before values said).phase ≡ false
  seen_else before values Spoiled says = absurd says
  seen_else before values (Says phase version) says = says

  takes_row : (p : Places) (bits : ℕ) (c : CatchState) (requests : List PendingRequest) (values : loaded.Seen) → SaysElse (phase_said values.phase) → Row (takes_up p bits c requests (seen_after c.seen values (phase_said values.phase)))
  takes_row p bits c requests values says =
      let after : Seen = seen_after c.seen values (phase_said values.phase) in
      cuts_row p bits (record c { seen = after; is_entering = enters_prepare c.seen after }) requests (not (is_same_version c.seen after)) (seen_else c.seen values (phase_said values.phase) says)

  refreshed_row : (p : Places) (bits n : ℕ) (c : CatchState) (requests : List PendingRequest) (step : Refreshing) (reply : ℕ) → c.step ≡ Refreshes → HasPassed top seen → RefreshRow step → (loads_next step → SaysElse (phase_said reply))
      → Row (refresh_ledto p bits (record c { refreshing = refresh_next step reply }) requests (refresh_ask n (refresh_next step reply)))
  unfolding refresh_ledto refresh_next refresh_ask
  refreshed_row p bits n c requests refresh.LoadsEpoch reply at passes row loads = still (record c { refreshing = refresh.LoadsPhase reply }) Refreshes at (passes, tt)
  refreshed_row p bits n c requests (refresh.LoadsPhase epoch) reply at passes row loads = still (record c { refreshing = refresh.LoadsReadOnly epoch reply }) Refreshes at (passes, loads tt)
  refreshed_row p bits n c requests (refresh.LoadsReadOnly epoch phase) reply at passes row loads = still (record c { refreshing = refresh.LoadsHead epoch phase reply }) Refreshes at (passes, row)
  refreshed_row p bits n c requests (refresh.LoadsHead epoch phase read_only) reply at passes row loads = takes_row p bits (record c { refreshing = _ }) requests _ row
  refreshed_row p bits n c requests refresh.AtRest reply at passes row loads = absurd row
  refreshed_row p bits n c requests (refresh.HasLoaded epoch values) reply at passes row loads = absurd row
  refreshed_row p bits n c requests (refresh.StoresEpoch epoch) reply at passes row loads = absurd row

  latched_row : (p : Places) (bits : ℕ) (c : CatchState) (requests : List PendingRequest) (i : ℕ) (ask : Ask LatchAnswer) → c.step ≡ Latches i → Else c → Row (latch_ledto p bits c requests ask)
  unfolding latch_ledto
  latched_row p bits c requests i (Done Taken) at its = latches_row p bits c requests its
  latched_row p bits c requests i (Done other) at its = finishes_row c its
  latched_row p bits c requests i ask at its = still c (Latches i) at its

  finished_row : (c : CatchState) (ask : Ask RefreshAnswer) → c.step ≡ Finishes → Else c → Row (finish_ledto c ask)
  unfolding finish_ledto
  finished_row c (Done other) at its = its
  finished_row c ask at its = still c Finishes at its

  step_row : (p : Places) (bits n : ℕ) (c : CatchState) (requests : List PendingRequest) (step : Catching) (reply : ℕ) → c.step ≡ step → CatchRow top seen c step → (c.step ≡ Refreshes → HasPassed top seen → loads_next c.refreshing → SaysElse (phase_said reply))
      → Row (catching_next p bits n c requests step reply)
  unfolding catching_next
  step_row p bits n c requests Refreshes reply at row loads = refreshed_row p bits n c requests c.refreshing reply at row.0 row.1 (loads at row.0)
  step_row p bits n c requests Protects reply at row loads = absurd row
  step_row p bits n c requests Ended reply at row loads = still c Ended at row
  step_row p bits n c requests StoresCut reply at row loads = row
  step_row p bits n c requests StoresOwing reply at row loads = latches_row p bits c requests row
  step_row p bits n c requests (Latches i) reply at row loads = latched_row p bits (record c { latching = latch_next c.latching reply }) requests i (latch_next_ask c.latching reply) at row
  step_row p bits n c requests Finishes reply at row loads = finished_row (record c { refreshing = refresh_next c.refreshing reply }) (refresh_ask n (refresh_next c.refreshing reply)) at row

  pub catch_row : (p : Places) (bits n : ℕ) (c : CatchState) (requests : List PendingRequest) (reply : ℕ) → Row c → (c.step ≡ Refreshes → HasPassed top seen → loads_next c.refreshing → SaysElse (phase_said reply)) → Row (catch_next p bits n c requests reply)
  catch_row p bits n c requests reply row loads = step_row p bits n c (catch_requests c requests reply) c.step reply refl row loads

  -- once it is through it has taken up another phase
  refresh_asks : (n : ℕ) (step : Refreshing) (its : Unit {0}) → RefreshRow step → passed {B = Unit {0}} (refresh_ask n step) tt ≡ Done its → ⊥
  unfolding refresh_ask passed
  refresh_asks n refresh.AtRest its row e = row
  refresh_asks n (refresh.HasLoaded epoch values) its row e = row
  refresh_asks n (refresh.StoresEpoch epoch) its row e = row
  refresh_asks n step its row e = cc

  ends_else : (p : Places) (n : ℕ) (c : CatchState) (requests : List PendingRequest) (step : Catching) (its : Unit {0}) → CatchRow top seen c step → catching_ask p n c requests step ≡ Done its → Else c
  unfolding catching_ask
  ends_else p n c requests Refreshes its row e = absurd (refresh_asks n c.refreshing its row.1 e)
  ends_else p n c requests Protects its row e = absurd row
  ends_else p n c requests Ended its row e = row
  ends_else p n c requests StoresCut its row e = row
  ends_else p n c requests StoresOwing its row e = row
  ends_else p n c requests (Latches i) its row e = row
  ends_else p n c requests Finishes its row e = row

  pub catch_ends : (p : Places) (n : ℕ) (c : CatchState) (requests : List PendingRequest) (its : Unit {0}) → Row c → catch_ask p n c requests ≡ Done its → is_prepare c.seen.phase ≡ false
  catch_ends p n c requests its row e = ends_else p n c requests c.step its row e
