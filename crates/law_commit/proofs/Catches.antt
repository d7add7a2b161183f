-- While a session catches up, what it takes up is what its coming view says, once that has come; and its serial stays.
use Rattle.std.proofs.Common.{◌≡◌, ℕ, List, refl, sym, subst, Bool, true, false}
use Rattle.std.specs.Prelude.{Option, Some, None, if◌then◌else◌, not, slice_get}
use Rattle.std.specs.List.{position}
use Rattle.fkv_plane.specs.declared.asks.Ask.{Ask}
use Rattle.fkv_plane.specs.declared.asks.Ask.TheVariants.{Done}
use Rattle.fkv_plane.specs.declared.places.Places.{Places}
use Rattle.fkv_plane.specs.Passing.{passed}
use Rattle.fkv_epoch.specs.declared.values.Seen as loaded
use Rattle.fkv_epoch.specs.declared.refreshing.RefreshAnswer.{RefreshAnswer}
use Rattle.fkv_epoch.specs.declared.refreshing.Refreshing.{Refreshing}
use Rattle.fkv_epoch.specs.declared.refreshing.Refreshing.TheVariants as refresh
use Rattle.fkv_epoch.specs.declared.protecting.Protecting.{Protecting}
use Rattle.fkv_epoch.specs.declared.protecting.Protecting.TheVariants as protect
use Rattle.fkv_epoch.specs.Refreshing.{refresh_ask, refresh_next, refresh_finish}
use Rattle.fkv_epoch.specs.Protecting.{protect_ask, protect_next, protect_next_ask}
use Rattle.fkv_latch.specs.declared.latching.LatchAnswer.{LatchAnswer}
use Rattle.fkv_latch.specs.declared.latching.LatchAnswer.TheVariants.{Taken}
use Rattle.fkv_latch.specs.Latching.{latch_next, latch_next_ask}
use Rattle.law_refine.specs.Below.fkv_ops.Seen.{Seen}
use Rattle.law_refine.specs.Below.fkv_pending.PendingRequest.{PendingRequest}
use Rattle.law_refine.specs.Below.fkv_pending.Pending.{is_unlatched}
use Rattle.fkv_words.specs.declared.phase_words.PhaseSaid.{PhaseSaid}
use Rattle.fkv_words.specs.declared.phase_words.PhaseSaid.TheVariants.{Says, Spoiled}
use Rattle.fkv_words.specs.PhaseWords.{phase_said}
use Rattle.law_refine.specs.Below.fkv_session.Catching.{Catching}
use Rattle.law_refine.specs.Below.fkv_session.Catching.TheVariants as catching
use Rattle.law_refine.specs.Below.fkv_session.CatchingUp.{CatchState, catching_ask, seen_after, finishes, latch_begun, latch_wanted, latches, cuts, is_same_version, enters_prepare, takes_up, refresh_ledto, protect_ledto, latch_ledto, finish_ledto, catching_next}
use Rattle.law_commit.specs.Views.{View, Sight, IsSeenAs, IsTakenFrom, view_said, is_at_phase, wakes_at_phase, loads_phase, with_loaded}

-- a view has what a phase word says
abbrev IsSaid : View → View → PhaseSaid → Type 0
IsSaid before its Spoiled = (its.phase ≡ before.phase) × (its.version ≡ before.version)
IsSaid before its (Says phase version) = (its.phase ≡ phase) × (its.version ≡ version)

abbrev HasSaid : View → Option View → ℕ → Type 0
HasSaid before None word = ⊥
HasSaid before (Some its) word = IsSaid before its (phase_said word)

-- while it loads
abbrev pub RefreshSees : Sight → Refreshing → Type 0
RefreshSees its refresh.LoadsEpoch = Unit {0}
RefreshSees its (refresh.LoadsPhase epoch) = Unit {0}
RefreshSees its (refresh.LoadsReadOnly epoch phase) = HasSaid its.view its.coming phase
RefreshSees its (refresh.LoadsHead epoch phase read_only) = HasSaid its.view its.coming phase
RefreshSees its step = ⊥

abbrev pub ProtectSees : Sight → Protecting → Type 0
ProtectSees its protect.LoadsEpoch = Unit {0}
ProtectSees its (protect.StoresEpoch epoch) = Unit {0}
ProtectSees its protect.LoadsPhase = Unit {0}
ProtectSees its (protect.LoadsReadOnly phase) = HasSaid its.view its.coming phase
ProtectSees its (protect.LoadsHead phase read_only) = HasSaid its.view its.coming phase
ProtectSees its protect.AtRest = ⊥

abbrev pub CatchSees : Sight → CatchState → Catching → Type 0
CatchSees its c catching.Refreshes = IsSeenAs its.view c.seen × RefreshSees its c.refreshing
CatchSees its c catching.Protects = IsSeenAs its.view c.seen × ProtectSees its c.protecting
CatchSees its c step = IsTakenFrom its.coming c.seen

abbrev Now : Sight → CatchState → Type 0
Now its c = CatchSees its c c.step

either_now : (t : Bool) (its : Sight) (a b : CatchState) → Now its a → Now its b → Now its (if t then a else b)
either_now true its a b one other = one
either_now false its a b one other = other

at_step : (its : Sight) (c : CatchState) (step : Catching) → c.step ≡ step → CatchSees its c step → Now its c
at_step its c step e sees = subst (λ (x : Catching). CatchSees its c x) (sym e) sees

-- behind the loads
finishes_now : (its : Sight) (c : CatchState) → IsTakenFrom its.coming c.seen → Now its (finishes c)
finishes_now its c come = either_now c.is_refresh its (record c { refreshing = refresh_finish c.refreshing; step = catching.Finishes }) (record c { step = catching.Ended }) come come

begun_now : (p : Places) (bits : ℕ) (its : Sight) (c : CatchState) (i : ℕ) (found : Option PendingRequest) → IsTakenFrom its.coming c.seen → Now its (latch_begun p bits c i found)
begun_now p bits its c i None come = finishes_now its c come
begun_now p bits its c i (Some pending) come = come

wanted_now : (p : Places) (bits : ℕ) (its : Sight) (c : CatchState) (requests : List PendingRequest) (at : Option ℕ) → IsTakenFrom its.coming c.seen → Now its (latch_wanted p bits c requests at)
wanted_now p bits its c requests None come = finishes_now its c come
wanted_now p bits its c requests (Some i) come = begun_now p bits its c i (slice_get requests i) come

latches_now : (p : Places) (bits : ℕ) (its : Sight) (c : CatchState) (requests : List PendingRequest) → IsTakenFrom its.coming c.seen → Now its (latches p bits c requests)
latches_now p bits its c requests come =
    either_now c.is_entering its (latch_wanted p bits c requests (position is_unlatched requests)) (finishes c) (wanted_now p bits its c requests (position is_unlatched requests) come) (finishes_now its c come)

cuts_now : (p : Places) (bits : ℕ) (its : Sight) (c : CatchState) (requests : List PendingRequest) (leaves : Bool) → IsTakenFrom its.coming c.seen → Now its (cuts p bits c requests leaves)
cuts_now p bits its c requests true come = come
cuts_now p bits its c requests false come = latches_now p bits its c requests come

taken : (before its : View) (seen : Seen) (values : loaded.Seen) (said : PhaseSaid) → IsSeenAs before seen → IsSaid before its said → IsSeenAs its (seen_after seen values said)
taken before its seen values Spoiled goes_by says = record { phase = rw says.0 goes_by.phase; version = rw says.1 goes_by.version }
taken before its seen values (Says phase version) goes_by says = record { phase = sym says.0; version = sym says.1 }

taken_up : (before : View) (coming : Option View) (seen : Seen) (values : loaded.Seen) → IsSeenAs before seen → HasSaid before coming values.phase → IsTakenFrom coming (seen_after seen values (phase_said values.phase))
taken_up before None seen values goes_by says = absurd says
taken_up before (Some its) seen values goes_by says = taken before its seen values (phase_said values.phase) goes_by says

takes_now : (p : Places) (bits : ℕ) (its : Sight) (c : CatchState) (requests : List PendingRequest) (values : loaded.Seen) → IsSeenAs its.view c.seen → HasSaid its.view its.coming values.phase
    → Now its (takes_up p bits c requests (seen_after c.seen values (phase_said values.phase)))
takes_now p bits its c requests values goes_by says =
    let after : Seen = seen_after c.seen values (phase_said values.phase) in
    cuts_now p bits its (record c { seen = after; is_entering = enters_prepare c.seen after }) requests (not (is_same_version c.seen after)) (taken_up its.view its.coming c.seen values goes_by says)

-- the load of the phase
said_so : (words : List ℕ) (before : View) (said : PhaseSaid) → IsSaid before (view_said words before said) said
said_so words before Spoiled = (refl, refl)
said_so words before (Says phase version) = (refl, refl)

refreshed_now : (words : List ℕ) (p : Places) (bits n : ℕ) (its : Sight) (c : CatchState) (requests : List PendingRequest) (step : Refreshing) (reply : ℕ) → c.step ≡ catching.Refreshes → IsSeenAs its.view c.seen → RefreshSees its step
    → Now (with_loaded words (is_at_phase step) reply its) (refresh_ledto p bits (record c { refreshing = refresh_next step reply }) requests (refresh_ask n (refresh_next step reply)))
unfolding refresh_ledto refresh_next refresh_ask
refreshed_now words p bits n its c requests refresh.LoadsEpoch reply e goes_by sees = rw e (goes_by, tt)
refreshed_now words p bits n its c requests (refresh.LoadsPhase epoch) reply e goes_by sees = rw e (goes_by, said_so words its.view (phase_said reply))
refreshed_now words p bits n its c requests (refresh.LoadsReadOnly epoch phase) reply e goes_by sees = rw e (goes_by, sees)
refreshed_now words p bits n its c requests (refresh.LoadsHead epoch phase read_only) reply e goes_by sees = takes_now p bits its (record c { refreshing = _ }) requests _ goes_by sees
refreshed_now words p bits n its c requests refresh.AtRest reply e goes_by sees = absurd sees
refreshed_now words p bits n its c requests (refresh.HasLoaded epoch values) reply e goes_by sees = absurd sees
refreshed_now words p bits n its c requests (refresh.StoresEpoch epoch) reply e goes_by sees = absurd sees

protected_now : (words : List ℕ) (p : Places) (bits n : ℕ) (its : Sight) (c : CatchState) (requests : List PendingRequest) (step : Protecting) (reply : ℕ) → c.step ≡ catching.Protects → IsSeenAs its.view c.seen → ProtectSees its step
    → Now (with_loaded words (wakes_at_phase step) reply its) (protect_ledto p bits (record c { protecting = protect_next step reply }) requests (protect_next_ask n step reply))
unfolding protect_ledto protect_next protect_next_ask protect_ask
protected_now words p bits n its c requests protect.LoadsEpoch reply e goes_by sees = rw e (goes_by, tt)
protected_now words p bits n its c requests (protect.StoresEpoch epoch) reply e goes_by sees = rw e (goes_by, tt)
protected_now words p bits n its c requests protect.LoadsPhase reply e goes_by sees = rw e (goes_by, said_so words its.view (phase_said reply))
protected_now words p bits n its c requests (protect.LoadsReadOnly phase) reply e goes_by sees = rw e (goes_by, sees)
protected_now words p bits n its c requests (protect.LoadsHead phase read_only) reply e goes_by sees = takes_now p bits its (record c { protecting = _ }) requests _ goes_by sees
protected_now words p bits n its c requests protect.AtRest reply e goes_by sees = absurd sees

latched_now : (p : Places) (bits : ℕ) (its : Sight) (c : CatchState) (requests : List PendingRequest) (i : ℕ) (ask : Ask LatchAnswer) → c.step ≡ catching.Latches i → IsTakenFrom its.coming c.seen → Now its (latch_ledto p bits c requests ask)
unfolding latch_ledto
latched_now p bits its c requests i (Done Taken) e come = latches_now p bits its c requests come
latched_now p bits its c requests i (Done other) e come = finishes_now its c come
latched_now p bits its c requests i ask e come = at_step its c (catching.Latches i) e come

finished_now : (its : Sight) (c : CatchState) (ask : Ask RefreshAnswer) → c.step ≡ catching.Finishes → IsTakenFrom its.coming c.seen → Now its (finish_ledto c ask)
unfolding finish_ledto
finished_now its c (Done answer) e come = come
finished_now its c ask e come = at_step its c catching.Finishes e come

-- behind each reply
pub catch_sees : (words : List ℕ) (p : Places) (bits n : ℕ) (its : Sight) (c : CatchState) (requests : List PendingRequest) (step : Catching) (reply : ℕ) → c.step ≡ step → CatchSees its c step
    → CatchSees (with_loaded words (loads_phase c step) reply its) (catching_next p bits n c requests step reply) (catching_next p bits n c requests step reply).step
unfolding catching_next
catch_sees words p bits n its c requests catching.Ended reply e sees = at_step its c catching.Ended e sees
catch_sees words p bits n its c requests catching.Refreshes reply e sees = refreshed_now words p bits n its c requests c.refreshing reply e sees.0 sees.1
catch_sees words p bits n its c requests catching.Protects reply e sees = protected_now words p bits n its c requests c.protecting reply e sees.0 sees.1
catch_sees words p bits n its c requests catching.StoresCut reply e sees = sees
catch_sees words p bits n its c requests catching.StoresOwing reply e sees = latches_now p bits its c requests sees
catch_sees words p bits n its c requests (catching.Latches i) reply e sees = latched_now p bits its (record c { latching = latch_next c.latching reply }) requests i (latch_next_ask c.latching reply) e sees
catch_sees words p bits n its c requests catching.Finishes reply e sees = finished_now its (record c { refreshing = refresh_next c.refreshing reply }) (refresh_ask n (refresh_next c.refreshing reply)) e sees

-- where it is done, what has come is taken up
refresh_not_done : (n : ℕ) (its : Sight) (step : Refreshing) (through : Unit {0}) → RefreshSees its step → passed {B = Unit {0}} (refresh_ask n step) tt ≡ Done through → ⊥
unfolding refresh_ask passed
refresh_not_done n its refresh.AtRest through sees e = sees
refresh_not_done n its (refresh.HasLoaded epoch values) through sees e = sees
refresh_not_done n its (refresh.StoresEpoch epoch) through sees e = sees
refresh_not_done n its step through sees e = cc

protect_not_done : (n : ℕ) (its : Sight) (step : Protecting) (through : Unit {0}) → ProtectSees its step → passed {B = Unit {0}} (protect_ask n step) tt ≡ Done through → ⊥
unfolding protect_ask passed
protect_not_done n its protect.AtRest through sees e = sees
protect_not_done n its step through sees e = cc

pub done_comes : (p : Places) (n : ℕ) (its : Sight) (c : CatchState) (requests : List PendingRequest) (step : Catching) (through : Unit {0}) → CatchSees its c step → catching_ask p n c requests step ≡ Done through → IsTakenFrom its.coming c.seen
unfolding catching_ask
done_comes p n its c requests catching.Refreshes through sees e = absurd (refresh_not_done n its c.refreshing through sees.1 e)
done_comes p n its c requests catching.Protects through sees e = absurd (protect_not_done n its c.protecting through sees.1 e)
done_comes p n its c requests catching.Ended through sees e = sees
done_comes p n its c requests catching.StoresCut through sees e = sees
done_comes p n its c requests catching.StoresOwing through sees e = sees
done_comes p n its c requests (catching.Latches i) through sees e = sees
done_comes p n its c requests catching.Finishes through sees e = sees
