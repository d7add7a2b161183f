-- As a session catches up: a fact of the head that it went by, and of each word of the head that it loads, is a fact of the head that it goes by then.
use Rattle.std.proofs.Common.{◌≡◌, ℕ, List, refl, ap, sym, subst, Bool, true, false}
use Rattle.std.specs.Prelude.{⊤, Option, Some, None, not, if◌then◌else◌, slice_get}
use Rattle.std.specs.List.{position}
use Rattle.fkv_epoch.specs.declared.protecting.Protecting.{Protecting}
use Rattle.fkv_epoch.specs.declared.protecting.Protecting.TheVariants as protect
use Rattle.fkv_epoch.specs.declared.refreshing.RefreshAnswer.{RefreshAnswer}
use Rattle.fkv_epoch.specs.declared.refreshing.Refreshing.{Refreshing}
use Rattle.fkv_epoch.specs.declared.refreshing.Refreshing.TheVariants as refresh
use Rattle.fkv_epoch.specs.declared.values.Seen as loaded
use Rattle.fkv_epoch.specs.Protecting.{protect_ask, protect_next, protect_next_ask}
use Rattle.fkv_epoch.specs.Refreshing.{refresh_ask, refresh_finish, refresh_next}
use Rattle.fkv_latch.specs.declared.latching.LatchAnswer.{LatchAnswer}
use Rattle.fkv_latch.specs.declared.latching.LatchAnswer.TheVariants.{Taken}
use Rattle.fkv_latch.specs.Latching.{latch_next, latch_next_ask}
use Rattle.law_world.specs.Below.fkv_ops.Seen.{Seen}
use Rattle.law_world.specs.Below.fkv_pending.PendingRequest.{PendingRequest}
use Rattle.law_world.specs.Below.fkv_pending.Pending.{is_unlatched}
use Rattle.fkv_plane.specs.declared.asks.Ask.{Ask}
use Rattle.fkv_plane.specs.declared.asks.Ask.TheVariants.{Load, Done}
use Rattle.fkv_plane.specs.declared.places.Places.{Places}
use Rattle.fkv_plane.specs.declared.places.SharedWord.TheVariants as one
use Rattle.fkv_plane.specs.Passing.{passed}
use Rattle.fkv_plane.specs.Places.{shared_place}
use Rattle.law_world.specs.Below.fkv_session.Catching.{Catching}
use Rattle.law_world.specs.Below.fkv_session.Catching.TheVariants.{Ended, Refreshes, Protects, StoresCut, StoresOwing, Latches, Finishes}
use Rattle.law_world.specs.Below.fkv_session.CatchingUp.{CatchState, catching_ask, catching_next, cuts, enters_prepare, finish_ledto, finishes, is_same_version, latch_begun, latch_ledto, latch_wanted, latches, protect_ledto, refresh_ledto, seen_after, takes_up}
use Rattle.law_world.specs.GuardSessions.Rows.{IsProtecting}
use Rattle.law_local.specs.Tries.TryRows.{head_in}
use Rattle.fkv_words.specs.declared.phase_words.PhaseSaid.{PhaseSaid}
use Rattle.fkv_words.specs.declared.phase_words.PhaseSaid.TheVariants.{Says, Spoiled}
use Rattle.fkv_words.specs.PhaseWords.{phase_said}

-- ---- where it loads the head, that is its ask
abbrev is_at_head : Refreshing → Bool
is_at_head (refresh.LoadsHead epoch phase read_only) = true
is_at_head step = false

abbrev wakes_at_head : Protecting → Bool
wakes_at_head (protect.LoadsHead phase read_only) = true
wakes_at_head step = false

abbrev pub loads_head : CatchState → Catching → Bool
loads_head c Refreshes = is_at_head c.refreshing
loads_head c Protects = wakes_at_head c.protecting
loads_head c step = false

refresh_asks : (n : ℕ) (step : Refreshing) → is_at_head step ≡ true → refresh_ask n step ≡ Load (shared_place one.Head)
unfolding refresh_ask
refresh_asks n (refresh.LoadsHead epoch phase read_only) e = refl
refresh_asks n step e = cc

protect_asks : (n : ℕ) (step : Protecting) → wakes_at_head step ≡ true → protect_ask n step ≡ Load (shared_place one.Head)
unfolding protect_ask
protect_asks n (protect.LoadsHead phase read_only) e = refl
protect_asks n step e = cc

pub catch_asks_head : (p : Places) (n : ℕ) (c : CatchState) (requests : List PendingRequest) (step : Catching) → loads_head c step ≡ true → catching_ask p n c requests step ≡ Load (shared_place one.Head)
unfolding catching_ask passed
catch_asks_head p n c requests Refreshes e = ap (λ (x : Ask RefreshAnswer). passed x tt) (refresh_asks n c.refreshing e)
catch_asks_head p n c requests Protects e = ap (λ (x : Ask loaded.Seen). passed x tt) (protect_asks n c.protecting e)
catch_asks_head p n c requests step e = cc

-- ---- the head that it takes up, and the one that a refresh has loaded
abbrev RefreshSees : (ℕ → Type 0) → Refreshing → Type 0
RefreshSees P (refresh.HasLoaded epoch values) = P values.head.0
RefreshSees P step = ⊤

-- who protects itself goes on to its load of the head
abbrev pub LoadsSee : (ℕ → Type 0) → CatchState → Catching → Type 0
LoadsSee P c Refreshes = RefreshSees P c.refreshing
LoadsSee P c Protects = IsProtecting c.protecting
LoadsSee P c step = ⊤

pub record CatchSees (P : ℕ → Type 0) (c : CatchState) : Type 0 where
  pub seen : P (head_in c.seen)
  pub loads : LoadsSee P c c.step

-- so it is of a weaker fact
refresh_more : (P Q : ℕ → Type 0) (step : Refreshing) → ((head : ℕ) → P head → Q head) → RefreshSees P step → RefreshSees Q step
refresh_more P Q (refresh.HasLoaded epoch values) more sees = more values.head.0 sees
refresh_more P Q step more sees = tt

loads_more : (P Q : ℕ → Type 0) (c : CatchState) (step : Catching) → ((head : ℕ) → P head → Q head) → LoadsSee P c step → LoadsSee Q c step
loads_more P Q c Refreshes more loads = refresh_more P Q c.refreshing more loads
loads_more P Q c Protects more loads = loads
loads_more P Q c step more loads = tt

pub catch_more : (P Q : ℕ → Type 0) (c : CatchState) → ((head : ℕ) → P head → Q head) → CatchSees P c → CatchSees Q c
catch_more P Q c more sees = record { seen = more (head_in c.seen) sees.seen; loads = loads_more P Q c c.step more sees.loads }

-- ---- where replies lead
module _ (P : ℕ → Type 0) where
  still : (c : CatchState) (step : Catching) → c.step ≡ step → P (head_in c.seen) → LoadsSee P c step → CatchSees P c
  still c step at saw loads = record { seen = saw; loads = subst (LoadsSee P c) (sym at) loads }

  either_sees : (b : Bool) (a c : CatchState) → CatchSees P a → CatchSees P c → CatchSees P (if b then a else c)
  either_sees true a c one other = one
  either_sees false a c one other = other

  finishes_sees : (c : CatchState) → P (head_in c.seen) → CatchSees P (finishes c)
  finishes_sees c saw = either_sees c.is_refresh (record c { refreshing = refresh_finish c.refreshing; step = Finishes }) (record c { step = Ended }) (record { seen = saw; loads = tt }) (record { seen = saw; loads = tt })

  begun_sees : (p : Places) (bits : ℕ) (c : CatchState) (index : ℕ) (found : Option PendingRequest) → P (head_in c.seen) → CatchSees P (latch_begun p bits c index found)
  begun_sees p bits c index None saw = finishes_sees c saw
  begun_sees p bits c index (Some pending) saw = record { seen = saw; loads = tt }

  wanted_sees : (p : Places) (bits : ℕ) (c : CatchState) (requests : List PendingRequest) (at : Option ℕ) → P (head_in c.seen) → CatchSees P (latch_wanted p bits c requests at)
  wanted_sees p bits c requests None saw = finishes_sees c saw
  wanted_sees p bits c requests (Some index) saw = begun_sees p bits c index (slice_get requests index) saw

  latches_see : (p : Places) (bits : ℕ) (c : CatchState) (requests : List PendingRequest) → P (head_in c.seen) → CatchSees P (latches p bits c requests)
  latches_see p bits c requests saw =
      either_sees c.is_entering (latch_wanted p bits c requests (position is_unlatched requests)) (finishes c) (wanted_sees p bits c requests (position is_unlatched requests) saw) (finishes_sees c saw)

  cuts_see : (p : Places) (bits : ℕ) (c : CatchState) (requests : List PendingRequest) (changed : Bool) → P (head_in c.seen) → CatchSees P (cuts p bits c requests changed)
  cuts_see p bits c requests true saw = record { seen = saw; loads = tt }
  cuts_see p bits c requests false saw = latches_see p bits c requests saw

  takes_seen : (p : Places) (bits : ℕ) (c : CatchState) (requests : List PendingRequest) (after : Seen) → P (head_in after) → CatchSees P (takes_up p bits c requests after)
  takes_seen p bits c requests after saw = cuts_see p bits (record c { seen = after; is_entering = enters_prepare c.seen after }) requests (not (is_same_version c.seen after)) saw

  -- whatever the word of the phase says
  said_seen : (seen : Seen) (values : loaded.Seen) (said : PhaseSaid) → P values.head.0 → P (head_in (seen_after seen values said))
  said_seen seen values Spoiled saw = saw
  said_seen seen values (Says phase version) saw = saw

  takes_loaded : (p : Places) (bits : ℕ) (c : CatchState) (requests : List PendingRequest) (values : loaded.Seen) → P values.head.0 → CatchSees P (takes_up p bits c requests (seen_after c.seen values (phase_said values.phase)))
  takes_loaded p bits c requests values saw = takes_seen p bits c requests (seen_after c.seen values (phase_said values.phase)) (said_seen c.seen values (phase_said values.phase) saw)

  -- a refresh
  refresh_sees : (step : Refreshing) (reply : ℕ) → (is_at_head step ≡ true → P reply) → RefreshSees P step → RefreshSees P (refresh_next step reply)
  unfolding refresh_next
  refresh_sees refresh.AtRest reply told sees = tt
  refresh_sees refresh.LoadsEpoch reply told sees = tt
  refresh_sees (refresh.LoadsPhase epoch) reply told sees = tt
  refresh_sees (refresh.LoadsReadOnly epoch phase) reply told sees = tt
  refresh_sees (refresh.LoadsHead epoch phase read_only) reply told sees = told refl
  refresh_sees (refresh.HasLoaded epoch values) reply told sees = sees
  refresh_sees (refresh.StoresEpoch epoch) reply told sees = tt

  refreshes_see : (p : Places) (bits n : ℕ) (c : CatchState) (requests : List PendingRequest) (step : Refreshing) → c.refreshing ≡ step → c.step ≡ Refreshes → P (head_in c.seen) → RefreshSees P step
      → CatchSees P (refresh_ledto p bits c requests (refresh_ask n step))
  unfolding refresh_ledto refresh_ask
  refreshes_see p bits n c requests (refresh.HasLoaded epoch values) e at saw sees = takes_loaded p bits c requests values sees
  refreshes_see p bits n c requests refresh.AtRest e at saw sees = record { seen = saw; loads = tt }
  refreshes_see p bits n c requests refresh.LoadsEpoch e at saw sees = still c Refreshes at saw (subst (RefreshSees P) (sym e) sees)
  refreshes_see p bits n c requests (refresh.LoadsPhase epoch) e at saw sees = still c Refreshes at saw (subst (RefreshSees P) (sym e) sees)
  refreshes_see p bits n c requests (refresh.LoadsReadOnly epoch phase) e at saw sees = still c Refreshes at saw (subst (RefreshSees P) (sym e) sees)
  refreshes_see p bits n c requests (refresh.LoadsHead epoch phase read_only) e at saw sees = still c Refreshes at saw (subst (RefreshSees P) (sym e) sees)
  refreshes_see p bits n c requests (refresh.StoresEpoch epoch) e at saw sees = still c Refreshes at saw (subst (RefreshSees P) (sym e) sees)

  -- a session that protects itself
  protects_see : (p : Places) (bits n : ℕ) (c : CatchState) (requests : List PendingRequest) (step : Protecting) (reply : ℕ) → c.step ≡ Protects → P (head_in c.seen) → IsProtecting step → (wakes_at_head step ≡ true → P reply)
      → CatchSees P (protect_ledto p bits (record c { protecting = protect_next step reply }) requests (protect_next_ask n step reply))
  unfolding protect_ledto protect_next_ask protect_next protect_ask
  protects_see p bits n c requests protect.AtRest reply at saw goes told = absurd goes
  protects_see p bits n c requests protect.LoadsEpoch reply at saw goes told = still (record c { protecting = protect.StoresEpoch reply }) Protects at saw tt
  protects_see p bits n c requests (protect.StoresEpoch epoch) reply at saw goes told = still (record c { protecting = protect.LoadsPhase }) Protects at saw tt
  protects_see p bits n c requests protect.LoadsPhase reply at saw goes told = still (record c { protecting = protect.LoadsReadOnly reply }) Protects at saw tt
  protects_see p bits n c requests (protect.LoadsReadOnly phase) reply at saw goes told = still (record c { protecting = protect.LoadsHead phase reply }) Protects at saw tt
  protects_see p bits n c requests (protect.LoadsHead phase read_only) reply at saw goes told =
      takes_loaded p bits (record c { protecting = protect.AtRest }) requests (record { phase = phase; read_only = record { 0 = read_only }; head = record { 0 = reply } }) (told refl)

  -- a latch, and the end of a refresh
  latch_sees : (p : Places) (bits : ℕ) (c : CatchState) (requests : List PendingRequest) (index : ℕ) (ask : Ask LatchAnswer) → c.step ≡ Latches index → P (head_in c.seen) → CatchSees P (latch_ledto p bits c requests ask)
  unfolding latch_ledto
  latch_sees p bits c requests index (Done Taken) at saw = latches_see p bits c requests saw
  latch_sees p bits c requests index (Done its) at saw = finishes_sees c saw
  latch_sees p bits c requests index ask at saw = still c (Latches index) at saw tt

  finish_sees : (c : CatchState) (ask : Ask RefreshAnswer) → c.step ≡ Finishes → P (head_in c.seen) → CatchSees P (finish_ledto c ask)
  unfolding finish_ledto
  finish_sees c (Done its) at saw = record { seen = saw; loads = tt }
  finish_sees c ask at saw = still c Finishes at saw tt

  -- each reply
  pub catch_sees : (p : Places) (bits n : ℕ) (c : CatchState) (requests : List PendingRequest) (step : Catching) (reply : ℕ) → c.step ≡ step → P (head_in c.seen) → LoadsSee P c step → (loads_head c step ≡ true → P reply)
      → CatchSees P (catching_next p bits n c requests step reply)
  unfolding catching_next
  catch_sees p bits n c requests Ended reply at saw loads told = still c Ended at saw tt
  catch_sees p bits n c requests Refreshes reply at saw loads told =
      refreshes_see p bits n (record c { refreshing = refresh_next c.refreshing reply }) requests (refresh_next c.refreshing reply) refl at saw (refresh_sees c.refreshing reply told loads)
  catch_sees p bits n c requests Protects reply at saw loads told = protects_see p bits n c requests c.protecting reply at saw loads told
  catch_sees p bits n c requests StoresCut reply at saw loads told = record { seen = saw; loads = tt }
  catch_sees p bits n c requests StoresOwing reply at saw loads told = latches_see p bits c requests saw
  catch_sees p bits n c requests (Latches index) reply at saw loads told =
      latch_sees p bits (record c { latching = latch_next c.latching reply }) requests index (latch_next_ask c.latching reply) at saw
  catch_sees p bits n c requests Finishes reply at saw loads told = finish_sees (record c { refreshing = refresh_next c.refreshing reply }) (refresh_ask n (refresh_next c.refreshing reply)) at saw
