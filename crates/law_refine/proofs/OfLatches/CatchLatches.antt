-- How one reply to a session that catches up moves its machine for latches.
use Rattle.std.proofs.Common.{◌≡◌, ℕ, refl, sym, ap, subst, List, [], Bool, true, false}
use Rattle.std.specs.Prelude.{if◌then◌else◌, not, ⊤, Option, Some, None, slice_get}
use Rattle.std.specs.List.{position}
use Rattle.fkv_map.specs.Keys.{key_of}
use Rattle.fkv_plane.specs.declared.asks.Ask.{Ask}
use Rattle.fkv_plane.specs.declared.asks.Ask.TheVariants.{Done}
use Rattle.fkv_plane.specs.declared.places.Places.{Places}
use Rattle.fkv_plane.specs.Passing.{passed}
use Rattle.fkv_epoch.specs.declared.values.Seen as loaded
use Rattle.fkv_epoch.specs.declared.refreshing.RefreshAnswer.{RefreshAnswer}
use Rattle.fkv_epoch.specs.declared.refreshing.RefreshAnswer.TheVariants.{Loaded, Stored}
use Rattle.fkv_epoch.specs.Refreshing.{refresh_ask, refresh_next, refresh_finish}
use Rattle.fkv_epoch.specs.Protecting.{protect_next, protect_next_ask}
use Rattle.fkv_index.specs.Slots.{home_of}
use Rattle.fkv_latch.specs.declared.latching.LatchAnswer.TheVariants.{Taken}
use Rattle.fkv_latch.specs.declared.latching.LatchTask.TheVariants.{TakeShared}
use Rattle.fkv_latch.specs.declared.latching.Latching.{Latching}
use Rattle.fkv_latch.specs.declared.latching.Latching.TheVariants as latching
use Rattle.fkv_latch.specs.Latching.{latch_ask, latch_next, latch_next_ask, is_exclusive}
use Rattle.law_world.specs.Below.fkv_ops.Seen.{Seen}
use Rattle.law_world.specs.Below.fkv_pending.PendingRequest.{PendingRequest}
use Rattle.law_world.specs.Below.fkv_pending.Pending.{is_unlatched}
use Rattle.law_world.specs.Below.fkv_session.Catching.{Catching}
use Rattle.law_world.specs.Below.fkv_session.Catching.TheVariants.{Ended, Refreshes, Protects, StoresCut, StoresOwing, Latches, Finishes}
use Rattle.law_world.specs.Below.fkv_session.CatchingUp.{CatchState, catching_ask, finishes, latch_begun, latch_wanted, latches, cuts, is_same_version, enters_prepare, takes_up, seen_after, refresh_ledto, protect_ledto, latch_ledto, finish_ledto, catch_requests, catching_next, catch_next}
use Rattle.fkv_words.specs.PhaseWords.{phase_said}
use Rattle.law_world.proofs.OfGuardSessions.AttemptsOuter.{HomesAreLow}
use Rattle.law_refine.specs.Latches.Latchers.{catch_latching}
use Rattle.law_refine.proofs.OfLatches.TryLatches.{alone_given, is_first}
use Rattle.law_refine.proofs.OfLatches.AttemptLatches.{FitsAt, KeepsAt, StartsAt, resting}

-- it takes shares alone
abbrev pub TakesAShare : Latching → Type 0
TakesAShare (latching.AddsShare place) = ⊤
TakesAShare (latching.GivesBack place) = ⊤
TakesAShare step = ⊥

abbrev pub CatchKnows : CatchState → Catching → Type 0
CatchKnows c (Latches index) = TakesAShare c.latching
CatchKnows c step = ⊤

pub record CatchLed (p : Places) (step : Latching) (c : CatchState) : Type 0 where
  pub knows : CatchKnows c c.step
  pub fits : FitsAt p step [] (catch_latching c c.step) []

either_led : (b : Bool) (p : Places) (c d : CatchState) → CatchLed p latching.AtRest c → CatchLed p latching.AtRest d → CatchLed p latching.AtRest (if b then c else d)
either_led true p c d one other = one
either_led false p c d one other = other

finishes_led : (p : Places) (c : CatchState) → CatchLed p latching.AtRest (finishes c)
finishes_led p c = either_led c.is_refresh p (record c { refreshing = refresh_finish c.refreshing; step = Finishes }) (record c { step = Ended }) (record { knows = tt; fits = KeepsAt refl refl refl }) (record { knows = tt; fits = KeepsAt refl refl refl })

begun_led : (p : Places) (bits : ℕ) (c : CatchState) (index : ℕ) (found : Option PendingRequest) → HomesAreLow p bits → CatchLed p latching.AtRest (latch_begun p bits c index found)
begun_led p bits c index None homes = finishes_led p c
begun_led p bits c index (Some pending) homes =
    record { knows = tt; fits = StartsAt TakeShared (home_of bits (key_of pending.request.op)).bucket (homes (key_of pending.request.op)) refl refl refl tt }

wanted_led : (p : Places) (bits : ℕ) (c : CatchState) (requests : List PendingRequest) (found : Option ℕ) → HomesAreLow p bits → CatchLed p latching.AtRest (latch_wanted p bits c requests found)
wanted_led p bits c requests None homes = finishes_led p c
wanted_led p bits c requests (Some index) homes = begun_led p bits c index (slice_get requests index) homes

latches_led : (p : Places) (bits : ℕ) (c : CatchState) (requests : List PendingRequest) → HomesAreLow p bits → CatchLed p latching.AtRest (latches p bits c requests)
latches_led p bits c requests homes =
    either_led c.is_entering p (latch_wanted p bits c requests (position is_unlatched requests)) (finishes c) (wanted_led p bits c requests (position is_unlatched requests) homes) (finishes_led p c)

cuts_led : (p : Places) (bits : ℕ) (c : CatchState) (requests : List PendingRequest) (changed : Bool) → HomesAreLow p bits → CatchLed p latching.AtRest (cuts p bits c requests changed)
cuts_led p bits c requests true homes = record { knows = tt; fits = KeepsAt refl refl refl }
cuts_led p bits c requests false homes = latches_led p bits c requests homes

takes_led : (p : Places) (bits : ℕ) (c : CatchState) (requests : List PendingRequest) (after : Seen) → HomesAreLow p bits → CatchLed p latching.AtRest (takes_up p bits c requests after)
takes_led p bits c requests after homes = cuts_led p bits (record c { seen = after; is_entering = enters_prepare c.seen after }) requests (not (is_same_version c.seen after)) homes

stays_led : (p : Places) (c : CatchState) (step : Catching) → c.step ≡ step → CatchKnows c step → is_first (catch_latching c step) ≡ false → CatchLed p (catch_latching c step) c
stays_led p c step at knows later =
    let at' = sym at in
    record {
      knows = subst (λ x. CatchKnows c x) at' knows;
      fits = subst (λ x. FitsAt p (catch_latching c step) [] (catch_latching c x) []) at' (KeepsAt refl refl later);
    }

refresh_led : (p : Places) (bits : ℕ) (c : CatchState) (requests : List PendingRequest) (ask : Ask RefreshAnswer) → c.step ≡ Refreshes → HomesAreLow p bits → CatchLed p latching.AtRest (refresh_ledto p bits c requests ask)
unfolding refresh_ledto
refresh_led p bits c requests (Done (Loaded values)) at homes = takes_led p bits c requests (seen_after c.seen values (phase_said values.phase)) homes
refresh_led p bits c requests (Done Stored) at homes = record { knows = tt; fits = KeepsAt refl refl refl }
refresh_led p bits c requests ask at homes = stays_led p c Refreshes at tt refl

protect_led : (p : Places) (bits : ℕ) (c : CatchState) (requests : List PendingRequest) (ask : Ask loaded.Seen) → c.step ≡ Protects → HomesAreLow p bits → CatchLed p latching.AtRest (protect_ledto p bits c requests ask)
unfolding protect_ledto
protect_led p bits c requests (Done values) at homes = takes_led p bits c requests (seen_after c.seen values (phase_said values.phase)) homes
protect_led p bits c requests ask at homes = stays_led p c Protects at tt refl

finish_led : (p : Places) (c : CatchState) (ask : Ask RefreshAnswer) → c.step ≡ Finishes → CatchLed p latching.AtRest (finish_ledto c ask)
unfolding finish_ledto
finish_led p c (Done its) at = record { knows = tt; fits = KeepsAt refl refl refl }
finish_led p c ask at = stays_led p c Finishes at tt refl

latched_led : (p : Places) (bits : ℕ) (c : CatchState) (requests : List PendingRequest) (index : ℕ) (step : Latching) (reply : ℕ) → c.latching ≡ latch_next step reply → c.step ≡ Latches index → TakesAShare step → HomesAreLow p bits
    → CatchLed p (latch_next step reply) (latch_ledto p bits c requests (latch_next_ask step reply))
unfolding latch_next latch_next_ask latch_ask latch_ledto
latched_led p bits c requests index (latching.AddsShare place) reply next at takes homes = by_word (is_exclusive reply) next
  where
    by_word : (b : Bool) → c.latching ≡ (if b then latching.GivesBack place else latching.AtRest)
        → CatchLed p (if b then latching.GivesBack place else latching.AtRest) (latch_ledto p bits c requests (if b then latch_ask (latching.GivesBack place) else Done Taken))
    by_word true its = subst (λ x. CatchLed p x c) its (stays_led p c (Latches index) at (subst TakesAShare (sym its) tt) (ap is_first its))
    by_word false its = latches_led p bits c requests homes
latched_led p bits c requests index (latching.GivesBack place) reply next at takes homes = finishes_led p c
latched_led p bits c requests index step reply next at takes homes = absurd takes

no_share_given : (step : Latching) (reply : ℕ) → TakesAShare step → alone_given step (latch_next_ask step reply) [] ≡ []
no_share_given (latching.AddsShare place) reply takes = refl
no_share_given (latching.GivesBack place) reply takes = refl
no_share_given step reply takes = absurd takes

step_led : (p : Places) (bits session : ℕ) (c : CatchState) (requests : List PendingRequest) (step : Catching) (reply : ℕ) → c.step ≡ step → HomesAreLow p bits → CatchKnows c step
    → CatchLed p (latch_next (catch_latching c step) reply) (catching_next p bits session c requests step reply)
unfolding catching_next
step_led p bits session c requests Ended reply at homes knows = resting (λ x. CatchLed p x c) reply (stays_led p c Ended at tt refl)
step_led p bits session c requests Refreshes reply at homes knows = resting (λ x. CatchLed p x (refresh_ledto p bits (record c { refreshing = refresh_next c.refreshing reply }) requests (refresh_ask session (refresh_next c.refreshing reply)))) reply
    (refresh_led p bits (record c { refreshing = refresh_next c.refreshing reply }) requests (refresh_ask session (refresh_next c.refreshing reply)) at homes)
step_led p bits session c requests Protects reply at homes knows = resting (λ x. CatchLed p x (protect_ledto p bits (record c { protecting = protect_next c.protecting reply }) requests (protect_next_ask session c.protecting reply))) reply
    (protect_led p bits (record c { protecting = protect_next c.protecting reply }) requests (protect_next_ask session c.protecting reply) at homes)
step_led p bits session c requests StoresCut reply at homes knows = resting (λ x. CatchLed p x (record c { step = StoresOwing })) reply (record { knows = tt; fits = KeepsAt refl refl refl })
step_led p bits session c requests StoresOwing reply at homes knows = resting (λ x. CatchLed p x (latches p bits c requests)) reply (latches_led p bits c requests homes)
step_led p bits session c requests (Latches index) reply at homes knows = latched_led p bits (record c { latching = latch_next c.latching reply }) requests index c.latching reply refl at knows homes
step_led p bits session c requests Finishes reply at homes knows = resting (λ x. CatchLed p x (finish_ledto (record c { refreshing = refresh_next c.refreshing reply }) (refresh_ask session (refresh_next c.refreshing reply)))) reply
    (finish_led p (record c { refreshing = refresh_next c.refreshing reply }) (refresh_ask session (refresh_next c.refreshing reply)) at)

-- each reply
pub catch_led : (p : Places) (bits session : ℕ) (c : CatchState) (requests : List PendingRequest) (reply : ℕ) → HomesAreLow p bits → CatchKnows c c.step
    → CatchLed p (latch_next (catch_latching c c.step) reply) (catch_next p bits session c requests reply)
catch_led p bits session c requests reply homes knows = step_led p bits session c (catch_requests c requests reply) c.step reply refl homes knows

pub alone_none : (c : CatchState) (step : Catching) (reply : ℕ) → CatchKnows c step → alone_given (catch_latching c step) (latch_next_ask (catch_latching c step) reply) [] ≡ []
alone_none c (Latches index) reply knows = no_share_given c.latching reply knows
alone_none c step reply knows = refl

latch_asks : (step : Latching) (its : Unit {0}) → TakesAShare step → passed {B = Unit {0}} (latch_ask step) tt ≡ Done its → step ≡ latching.AtRest
unfolding latch_ask passed
latch_asks (latching.AddsShare place) its takes e = cc
latch_asks (latching.GivesBack place) its takes e = cc
latch_asks step its takes e = absurd takes

-- at its end no latch is worked on
pub catch_ended : (p : Places) (session : ℕ) (c : CatchState) (requests : List PendingRequest) (step : Catching) (its : Unit {0}) → CatchKnows c step → catching_ask p session c requests step ≡ Done its → catch_latching c step ≡ latching.AtRest
unfolding catching_ask
catch_ended p session c requests (Latches index) its knows e = latch_asks c.latching its knows e
catch_ended p session c requests step its knows e = refl
