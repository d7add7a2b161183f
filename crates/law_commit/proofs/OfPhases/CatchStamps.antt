-- The stamps of a session that catches up.
use Rattle.std.proofs.Common.{◌≡◌, ℕ, List, refl, sym, subst, Bool, true, false}
use Rattle.std.specs.Prelude.{Option, Some, None, if◌then◌else◌, not, slice_get}
use Rattle.std.specs.List.{position}
use Rattle.fkv_plane.specs.declared.asks.Ask.{Ask}
use Rattle.fkv_plane.specs.declared.asks.Ask.TheVariants.{Done}
use Rattle.fkv_plane.specs.declared.places.Places.{Places}
use Rattle.fkv_plane.specs.Passing.{is_done, passed}
use Rattle.fkv_epoch.specs.declared.refreshing.Refreshing.{Refreshing}
use Rattle.fkv_epoch.specs.declared.refreshing.Refreshing.TheVariants as refresh
use Rattle.fkv_epoch.specs.declared.protecting.Protecting.{Protecting}
use Rattle.fkv_epoch.specs.declared.protecting.Protecting.TheVariants as protect
use Rattle.fkv_epoch.specs.EpochWorld as epochs
use Rattle.fkv_epoch.specs.EpochWorld.{EpochMachine, Loads, epoch_of}
use Rattle.fkv_epoch.specs.Refreshing.{refresh_ask, refresh_next, refresh_finish}
use Rattle.fkv_epoch.specs.Protecting.{protect_ask, protect_next, protect_next_ask}
use Rattle.fkv_latch.specs.declared.latching.LatchAnswer.{LatchAnswer}
use Rattle.fkv_latch.specs.declared.latching.LatchAnswer.TheVariants.{Busy, Taken}
use Rattle.fkv_latch.specs.declared.latching.Latching.{Latching}
use Rattle.fkv_latch.specs.declared.latching.Latching.TheVariants as latching
use Rattle.fkv_latch.specs.Latching.{is_exclusive, is_free, latch_ask, latch_next, latch_next_ask}
use Rattle.law_refine.specs.Below.fkv_ops.Seen.{Seen}
use Rattle.law_refine.specs.Below.fkv_pending.PendingRequest.{PendingRequest}
use Rattle.law_refine.specs.Below.fkv_pending.Pending.{is_unlatched}
use Rattle.fkv_words.specs.declared.phase_words.PhaseSaid.{PhaseSaid}
use Rattle.fkv_words.specs.declared.phase_words.PhaseSaid.TheVariants.{Says, Spoiled}
use Rattle.fkv_words.specs.PhaseWords.{phase_said}
use Rattle.law_refine.specs.Below.fkv_session.Catching.{Catching}
use Rattle.law_refine.specs.Below.fkv_session.Catching.TheVariants as catching
use Rattle.law_refine.specs.Below.fkv_session.CatchingUp.{CatchState, catching_ask, finishes, latch_begun, latch_wanted, latches, cuts, is_same_version, enters_prepare, takes_up, refresh_ledto, protect_ledto, latch_ledto, finish_ledto, catching_next}
use Rattle.law_commit.specs.Views.{View, Sight, view_said, is_at_phase, wakes_at_phase, loads_phase, with_loaded}
use Rattle.law_commit.specs.Phases.Stamped.{driven, loads_by, force_by, IsLatching, IsOf, IsUnderWay, RefreshStamped, ProtectStamped, HoldsAll, StoresLast, HeldStamped, CatchStamped, RepliesKeepStamps}

module _ (its : Sight) (l f : Loads) where
  abbrev Here : CatchState → Type 0
  Here c = CatchStamped its l f c c.step

  either : (t : Bool) (a b : CatchState) → Here a → Here b → Here (if t then a else b)
  either true a b one other = one
  either false a b one other = other

  at_step : (c : CatchState) (step : Catching) → c.step ≡ step → CatchStamped its l f c step → Here c
  at_step c step e it = subst (λ (x : Catching). CatchStamped its l f c x) (sym e) it

  stores_last : (step : Refreshing) → HoldsAll step → StoresLast (refresh_finish step)
  unfolding refresh_finish
  stores_last (refresh.HasLoaded epoch values) holds = tt
  stores_last refresh.AtRest holds = absurd holds
  stores_last refresh.LoadsEpoch holds = absurd holds
  stores_last (refresh.LoadsPhase epoch) holds = absurd holds
  stores_last (refresh.LoadsReadOnly epoch phase) holds = absurd holds
  stores_last (refresh.LoadsHead epoch phase read_only) holds = absurd holds
  stores_last (refresh.StoresEpoch epoch) holds = absurd holds

  -- behind the loads
  finishes_here : (c : CatchState) → HeldStamped its l f c c.is_refresh → Here (finishes c)
  finishes_here c held = by_test c.is_refresh held
    where
      by_test : (t : Bool) → HeldStamped its l f c t → Here (if t then record c { refreshing = refresh_finish c.refreshing; step = catching.Finishes } else record c { step = catching.Ended })
      by_test true held = (stores_last c.refreshing held.0, held.1, held.2)
      by_test false held = held

  begun_here : (p : Places) (bits : ℕ) (c : CatchState) (i : ℕ) (found : Option PendingRequest) → HeldStamped its l f c c.is_refresh → Here (latch_begun p bits c i found)
  begun_here p bits c i None held = finishes_here c held
  begun_here p bits c i (Some pending) held = (held, tt)

  wanted_here : (p : Places) (bits : ℕ) (c : CatchState) (requests : List PendingRequest) (at : Option ℕ) → HeldStamped its l f c c.is_refresh → Here (latch_wanted p bits c requests at)
  wanted_here p bits c requests None held = finishes_here c held
  wanted_here p bits c requests (Some i) held = begun_here p bits c i (slice_get requests i) held

  latches_here : (p : Places) (bits : ℕ) (c : CatchState) (requests : List PendingRequest) → HeldStamped its l f c c.is_refresh → Here (latches p bits c requests)
  latches_here p bits c requests held = either c.is_entering (latch_wanted p bits c requests (position is_unlatched requests)) (finishes c) (wanted_here p bits c requests (position is_unlatched requests) held) (finishes_here c held)

  cuts_here : (p : Places) (bits : ℕ) (c : CatchState) (requests : List PendingRequest) (leaves : Bool) → HeldStamped its l f c c.is_refresh → Here (cuts p bits c requests leaves)
  cuts_here p bits c requests true held = held
  cuts_here p bits c requests false held = latches_here p bits c requests held

  takes_here : (p : Places) (bits : ℕ) (c : CatchState) (requests : List PendingRequest) (after : Seen) → HeldStamped its l f c c.is_refresh → Here (takes_up p bits c requests after)
  takes_here p bits c requests after held = cuts_here p bits (record c { seen = after; is_entering = enters_prepare c.seen after }) requests (not (is_same_version c.seen after)) held

  latched_here : (p : Places) (bits : ℕ) (c : CatchState) (requests : List PendingRequest) (i : ℕ) (ask : Ask LatchAnswer) → c.step ≡ catching.Latches i → HeldStamped its l f c c.is_refresh → (is_done ask ≡ false → IsLatching c.latching)
      → Here (latch_ledto p bits c requests ask)
  unfolding latch_ledto
  latched_here p bits c requests i (Done Taken) e held asks = latches_here p bits c requests held
  latched_here p bits c requests i (Done other) e held asks = finishes_here c held
  latched_here p bits c requests i ask e held asks = at_step c (catching.Latches i) e (held, asks refl)

shared_on : (place : ℕ) (taken : Bool) → is_done (if taken then latch_ask (latching.GivesBack place) else Done Taken) ≡ false → IsLatching (if taken then latching.GivesBack place else latching.AtRest)
shared_on place true asks = tt
shared_on place false asks = cc

exclusive_on : (place reply : ℕ) (free : Bool) → is_done (if free then latch_ask (latching.SetsExclusive place reply) else Done Busy) ≡ false → IsLatching (if free then latching.SetsExclusive place reply else latching.AtRest)
exclusive_on place reply true asks = tt
exclusive_on place reply false asks = cc

latches_on : (step : Latching) (reply : ℕ) → is_done (latch_next_ask step reply) ≡ false → IsLatching (latch_next step reply)
unfolding latch_next_ask latch_next
latches_on (latching.AddsShare place) reply asks = shared_on place (is_exclusive reply) asks
latches_on (latching.LoadsWord place) reply asks = exclusive_on place reply (is_free reply) asks
latches_on latching.AtRest reply asks = cc
latches_on (latching.GivesBack place) reply asks = cc
latches_on (latching.DropsShare place) reply asks = cc
latches_on (latching.SetsExclusive place word) reply asks = cc
latches_on (latching.DropsExclusive place) reply asks = cc

-- the load of the phase
said_of : (words : List ℕ) (before : View) (said : PhaseSaid) → (view_said words before said).stamp ≡ epoch_of words
said_of words before Spoiled = refl
said_of words before (Says phase version) = refl

held_refresh : (its : Sight) (l f : Loads) (c : CatchState) → c.is_refresh ≡ true → HeldStamped its l f c true → HeldStamped its l f c c.is_refresh
held_refresh its l f c is held = subst (HeldStamped its l f c) (sym is) held

held_wake : (its : Sight) (l f : Loads) (c : CatchState) → c.is_refresh ≡ false → HeldStamped its l f c false → HeldStamped its l f c c.is_refresh
held_wake its l f c is held = subst (HeldStamped its l f c) (sym is) held

refreshed : (words : List ℕ) (p : Places) (bits n : ℕ) (its : Sight) (l f : Loads) (c : CatchState) (requests : List PendingRequest) (step : Refreshing) (reply : ℕ) → c.step ≡ catching.Refreshes → c.is_refresh ≡ true → RefreshStamped its l f step
    → Here (with_loaded words (is_at_phase step) reply its) (loads_by l (Some (epochs.Refreshes step)) (epoch_of words)) (force_by l f (Some (epochs.Refreshes step)) (epoch_of words))
    (refresh_ledto p bits (record c { refreshing = refresh_next step reply }) requests (refresh_ask n (refresh_next step reply)))
unfolding refresh_ledto refresh_next refresh_ask
refreshed words p bits n its l f c requests refresh.LoadsEpoch reply e is stamped = rw e (is, stamped)
refreshed words p bits n its l f c requests (refresh.LoadsPhase epoch) reply e is stamped = rw e (is, (said_of words its.view (phase_said reply), stamped.0))
refreshed words p bits n its l f c requests (refresh.LoadsReadOnly epoch phase) reply e is stamped = rw e (is, stamped)
refreshed words p bits n its l f c requests (refresh.LoadsHead epoch phase read_only) reply e is stamped =
    let after : CatchState = record c { refreshing = refresh_next (refresh.LoadsHead epoch phase read_only) reply } in
    let last : Loads = loads_by l (Some (epochs.Refreshes (refresh.LoadsHead epoch phase read_only))) (epoch_of words) in
    takes_here its last f p bits after requests _ (held_refresh its last f after is (tt, stamped.0, stamped.1))
refreshed words p bits n its l f c requests refresh.AtRest reply e is stamped = absurd stamped
refreshed words p bits n its l f c requests (refresh.HasLoaded epoch values) reply e is stamped = absurd stamped
refreshed words p bits n its l f c requests (refresh.StoresEpoch epoch) reply e is stamped = absurd stamped

protected : (words : List ℕ) (p : Places) (bits n : ℕ) (its : Sight) (l f : Loads) (c : CatchState) (requests : List PendingRequest) (step : Protecting) (reply : ℕ) → c.step ≡ catching.Protects → c.is_refresh ≡ false → ProtectStamped its l f step
    → Here (with_loaded words (wakes_at_phase step) reply its) (loads_by l (Some (epochs.Protects step)) (epoch_of words)) (force_by l f (Some (epochs.Protects step)) (epoch_of words))
    (protect_ledto p bits (record c { protecting = protect_next step reply }) requests (protect_next_ask n step reply))
unfolding protect_ledto protect_next protect_next_ask protect_ask
protected words p bits n its l f c requests protect.LoadsEpoch reply e is stamped = rw e (is, stamped)
protected words p bits n its l f c requests (protect.StoresEpoch epoch) reply e is stamped = rw e (is, stamped)
protected words p bits n its l f c requests protect.LoadsPhase reply e is stamped = rw e (is, (said_of words its.view (phase_said reply), said_of words its.view (phase_said reply)))
protected words p bits n its l f c requests (protect.LoadsReadOnly phase) reply e is stamped = rw e (is, stamped)
protected words p bits n its l f c requests (protect.LoadsHead phase read_only) reply e is stamped =
    let after : CatchState = record c { protecting = protect_next (protect.LoadsHead phase read_only) reply } in
    let last : Loads = loads_by l (Some (epochs.Protects (protect.LoadsHead phase read_only))) (epoch_of words) in
    let goes_by : Loads = force_by l f (Some (epochs.Protects (protect.LoadsHead phase read_only))) (epoch_of words) in
    takes_here its last goes_by p bits after requests _ (held_wake its last goes_by after is stamped.1)
protected words p bits n its l f c requests protect.AtRest reply e is stamped = absurd stamped

finished : (p : Places) (bits n : ℕ) (its : Sight) (l f : Loads) (c : CatchState) (words : List ℕ) (step : Refreshing) (reply : ℕ) → StoresLast step → IsOf its.coming l.phase
    → Here its (loads_by l (Some (epochs.Refreshes step)) (epoch_of words)) (force_by l f (Some (epochs.Refreshes step)) (epoch_of words)) (finish_ledto (record c { refreshing = refresh_next step reply }) (refresh_ask n (refresh_next step reply)))
unfolding finish_ledto refresh_next refresh_ask
finished p bits n its l f c words (refresh.StoresEpoch epoch) reply last of = of
finished p bits n its l f c words refresh.AtRest reply last of = absurd last
finished p bits n its l f c words refresh.LoadsEpoch reply last of = absurd last
finished p bits n its l f c words (refresh.LoadsPhase epoch) reply last of = absurd last
finished p bits n its l f c words (refresh.LoadsReadOnly epoch phase) reply last of = absurd last
finished p bits n its l f c words (refresh.LoadsHead epoch phase read_only) reply last of = absurd last
finished p bits n its l f c words (refresh.HasLoaded epoch values) reply last of = absurd last

keeps : (words : List ℕ) (p : Places) (bits n : ℕ) (its : Sight) (l f : Loads) (c : CatchState) (requests : List PendingRequest) (step : Catching) (reply : ℕ) → c.step ≡ step → CatchStamped its l f c step
    → CatchStamped (with_loaded words (loads_phase c step) reply its) (loads_by l (driven c step) (epoch_of words)) (force_by l f (driven c step) (epoch_of words)) (catching_next p bits n c requests step reply) (catching_next p bits n c requests step reply).step
unfolding catching_next
keeps words p bits n its l f c requests catching.Ended reply e stamped = at_step its l f c catching.Ended e stamped
keeps words p bits n its l f c requests catching.Refreshes reply e stamped = refreshed words p bits n its l f c requests c.refreshing reply e stamped.0 stamped.1
keeps words p bits n its l f c requests catching.Protects reply e stamped = protected words p bits n its l f c requests c.protecting reply e stamped.0 stamped.1
keeps words p bits n its l f c requests catching.StoresCut reply e stamped = stamped
keeps words p bits n its l f c requests catching.StoresOwing reply e stamped = latches_here its l f p bits c requests stamped
keeps words p bits n its l f c requests (catching.Latches i) reply e stamped = latched_here its l f p bits (record c { latching = latch_next c.latching reply }) requests i (latch_next_ask c.latching reply) e stamped.0 (latches_on c.latching reply)
keeps words p bits n its l f c requests catching.Finishes reply e stamped = finished p bits n its l f c words c.refreshing reply stamped.0 stamped.1

pub replies_keep : RepliesKeepStamps
replies_keep words p bits n its l f c requests reply stamped = keeps words p bits n its l f c requests c.step reply refl stamped

-- where it is done, what is coming is in force
refresh_not_done : (n : ℕ) (its : Sight) (l f : Loads) (step : Refreshing) (through : Unit {0}) → RefreshStamped its l f step → passed {B = Unit {0}} (refresh_ask n step) tt ≡ Done through → ⊥
unfolding refresh_ask passed
refresh_not_done n its l f refresh.AtRest through stamped e = stamped
refresh_not_done n its l f (refresh.HasLoaded epoch values) through stamped e = stamped
refresh_not_done n its l f (refresh.StoresEpoch epoch) through stamped e = stamped
refresh_not_done n its l f step through stamped e = cc

protect_not_done : (n : ℕ) (its : Sight) (l f : Loads) (step : Protecting) (through : Unit {0}) → ProtectStamped its l f step → passed {B = Unit {0}} (protect_ask n step) tt ≡ Done through → ⊥
unfolding protect_ask passed
protect_not_done n its l f protect.AtRest through stamped e = stamped
protect_not_done n its l f step through stamped e = cc

finish_not_done : (n : ℕ) (step : Refreshing) (through : Unit {0}) → StoresLast step → passed {B = Unit {0}} (refresh_ask n step) tt ≡ Done through → ⊥
unfolding refresh_ask passed
finish_not_done n (refresh.StoresEpoch epoch) through last e = cc
finish_not_done n refresh.AtRest through last e = last
finish_not_done n refresh.LoadsEpoch through last e = last
finish_not_done n (refresh.LoadsPhase epoch) through last e = last
finish_not_done n (refresh.LoadsReadOnly epoch phase) through last e = last
finish_not_done n (refresh.LoadsHead epoch phase read_only) through last e = last
finish_not_done n (refresh.HasLoaded epoch values) through last e = last

latch_not_done : (step : Latching) (through : Unit {0}) → IsLatching step → passed {B = Unit {0}} (latch_ask step) tt ≡ Done through → ⊥
unfolding latch_ask passed
latch_not_done latching.AtRest through asks e = asks
latch_not_done step through asks e = cc

pub done_stamped : (p : Places) (n : ℕ) (its : Sight) (l f : Loads) (c : CatchState) (requests : List PendingRequest) (step : Catching) (through : Unit {0}) → CatchStamped its l f c step → catching_ask p n c requests step ≡ Done through → IsOf its.coming f.phase
unfolding catching_ask
done_stamped p n its l f c requests catching.Refreshes through stamped e = absurd (refresh_not_done n its l f c.refreshing through stamped.1 e)
done_stamped p n its l f c requests catching.Protects through stamped e = absurd (protect_not_done n its l f c.protecting through stamped.1 e)
done_stamped p n its l f c requests catching.Ended through stamped e = stamped
done_stamped p n its l f c requests catching.StoresCut through stamped e = cc
done_stamped p n its l f c requests catching.StoresOwing through stamped e = cc
done_stamped p n its l f c requests (catching.Latches i) through stamped e = absurd (latch_not_done c.latching through stamped.1 e)
done_stamped p n its l f c requests catching.Finishes through stamped e = absurd (finish_not_done n c.refreshing through stamped.0 e)

-- and where it asks for something, it is under way
pub asks_under_way : (p : Places) (n : ℕ) (c : CatchState) (requests : List PendingRequest) (step : Catching) → is_done (catching_ask p n c requests step) ≡ false → IsUnderWay step
unfolding catching_ask
asks_under_way p n c requests catching.Ended asks = cc
asks_under_way p n c requests step asks = tt
