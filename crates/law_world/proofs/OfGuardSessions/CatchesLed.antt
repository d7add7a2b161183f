-- Where one reply leads a session that catches up, in what the guard's actor is like.
use Rattle.std.proofs.Common.{◌≡◌, ℕ, ◌∙◌, refl, sym, subst, List, Bool, true, false}
use Rattle.std.specs.Prelude.{if◌then◌else◌, not, Option, Some, None, slice_get}
use Rattle.std.specs.List.{position}
use Rattle.fkv_plane.specs.declared.asks.Ask.TheVariants.{Done}
use Rattle.fkv_plane.specs.declared.places.Places.{Places}
use Rattle.fkv_epoch.specs.declared.protecting.Protecting.{Protecting}
use Rattle.fkv_epoch.specs.declared.protecting.Protecting.TheVariants as protect
use Rattle.fkv_epoch.specs.declared.refreshing.Refreshing.{Refreshing}
use Rattle.fkv_epoch.specs.declared.refreshing.Refreshing.TheVariants as refresh
use Rattle.fkv_epoch.specs.declared.values.Seen as loaded
use Rattle.fkv_epoch.specs.Refreshing.{refresh_ask, refresh_next, refresh_finish}
use Rattle.fkv_epoch.specs.Protecting.{protect_ask, protect_next, protect_next_ask}
use Rattle.fkv_latch.specs.declared.latching.LatchAnswer.TheVariants.{Taken}
use Rattle.fkv_latch.specs.declared.latching.LatchTask.TheVariants.{TakeShared}
use Rattle.fkv_latch.specs.declared.latching.Latching.{Latching}
use Rattle.fkv_latch.specs.declared.latching.Latching.TheVariants as latching
use Rattle.fkv_latch.specs.Latching.{is_exclusive, latch_first, latch_ask, latch_next, latch_next_ask}
use Rattle.fkv_map.specs.Keys.{key_of}
use Rattle.fkv_index.specs.Slots.{home_of}
use Rattle.fkv_plane.specs.Places.{bucket_place}
use Rattle.fkv_plane.specs.Passing.{passed}
use Rattle.fkv_ops.specs.declared.requests.Seen.{Seen}
use Rattle.fkv_pending.specs.declared.pending_requests.PendingRequest.{PendingRequest}
use Rattle.fkv_pending.specs.Pending.{is_unlatched}
use Rattle.fkv_words.specs.declared.phase_words.PhaseSaid.{PhaseSaid}
use Rattle.fkv_words.specs.declared.phase_words.PhaseSaid.TheVariants.{Says, Spoiled}
use Rattle.fkv_words.specs.PhaseWords.{phase_said}
use Rattle.fkv_session.specs.declared.catching_up.Catching.{Catching}
use Rattle.fkv_session.specs.declared.catching_up.Catching.TheVariants.{Ended, Refreshes, Protects, StoresCut, StoresOwing, Latches, Finishes}
use Rattle.fkv_session.specs.CatchingUp.{CatchState, catching_ask, seen_after, finishes, latch_begun, latch_wanted, latches, cuts, takes_up, is_same_version, enters_prepare, refresh_ledto, protect_ledto, latch_ledto, finish_ledto, catching_next}
use Rattle.fkv_flush.specs.GuardSeen.{LastSeen}
use Rattle.fkv_flush.proofs.Shown.{Likeness, refreshed_so_far, protected_then}
use Rattle.law_world.specs.GuardSessions.Likenesses.{likeness, last_seen, through}
use Rattle.law_world.specs.GuardSessions.Catches.{refresh_machine, protect_machine, held_machine, catch_onward, catch_likeness, catch_likeness_at}
use Rattle.law_world.specs.GuardSessions.Rows.{IsLoading, IsProtecting, Holds, HasWoken, HasLoaded, IsSharing, CatchKnows}
use Rattle.law_world.proofs.OfGuardSessions.Onwards.{Leads, Keeps, Goes, stayed}

pub record CatchLed (mid : Likeness) (c : CatchState) : Type 0 where
  pub leads : (protected : Bool) → Leads protected mid (catch_onward c c.step) (catch_likeness c)
  pub knows : CatchKnows c c.step

-- what is there while the session takes up what it has loaded
abbrev held : CatchState → Likeness
held c = likeness (held_machine c) None (last_seen c.seen) None

abbrev Free : CatchState → CatchState → Type 0
Free c after = CatchLed (held c) after

finishes_led : (c : CatchState) → Holds c → Free c (finishes c)
unfolding refresh_finish
finishes_led c (HasWoken e) = rw e (record { leads = λ protected. Keeps refl refl; knows = tt })
finishes_led c (HasLoaded epoch values e f) = rw (e, f) (record { leads = λ protected. Goes epoch values refl refl refl refl; knows = (epoch, refl) })

kept : (c d : CatchState) → d.is_refresh ≡ c.is_refresh → d.refreshing ≡ c.refreshing → Holds c → Holds d
kept c d e f (HasWoken g) = HasWoken (e ∙ g)
kept c d e f (HasLoaded epoch values g h) = HasLoaded epoch values (e ∙ g) (f ∙ h)

begun_led : (p : Places) (bits : ℕ) (c : CatchState) (index : ℕ) (found : Option PendingRequest) → Holds c → Free c (latch_begun p bits c index found)
begun_led p bits c index None h = finishes_led c h
begun_led p bits c index (Some pending) h =
    let d : CatchState = record c { latching = latch_first TakeShared (bucket_place p (home_of bits (key_of pending.request.op)).bucket 7); step = Latches index } in
    record { leads = λ protected. Keeps refl refl; knows = (kept c d refl refl h, tt) }

wanted_led : (p : Places) (bits : ℕ) (c : CatchState) (requests : List PendingRequest) (found : Option ℕ) → Holds c → Free c (latch_wanted p bits c requests found)
wanted_led p bits c requests None h = finishes_led c h
wanted_led p bits c requests (Some index) h = begun_led p bits c index (slice_get requests index) h

either_led : (b : Bool) (c one other : CatchState) → Free c one → Free c other → Free c (if b then one else other)
either_led true c one other x y = x
either_led false c one other x y = y

latches_led : (p : Places) (bits : ℕ) (c : CatchState) (requests : List PendingRequest) → Holds c → Free c (latches p bits c requests)
latches_led p bits c requests h = either_led c.is_entering c (latch_wanted p bits c requests (position is_unlatched requests)) (finishes c) (wanted_led p bits c requests (position is_unlatched requests) h) (finishes_led c h)

cuts_led : (p : Places) (bits : ℕ) (c : CatchState) (requests : List PendingRequest) (changed : Bool) → Holds c → Free c (cuts p bits c requests changed)
cuts_led p bits c requests true h = record { leads = λ protected. Keeps refl refl; knows = kept c _ refl refl h }
cuts_led p bits c requests false h = latches_led p bits c requests h

-- what has been loaded is what the session has seen
its_seen : (seen : Seen) (values : loaded.Seen) (said : PhaseSaid) → ◌≡◌ {A = LastSeen} (record { read_only = values.read_only.0; head = values.head.0 }) (last_seen (seen_after seen values said))
its_seen seen values Spoiled = refl
its_seen seen values (Says phase version) = refl

takes_led : (p : Places) (bits : ℕ) (c : CatchState) (requests : List PendingRequest) (values : loaded.Seen) → Holds c
    → CatchLed (likeness (held_machine c) None (record { read_only = values.read_only.0; head = values.head.0 }) None) (takes_up p bits c requests (seen_after c.seen values (phase_said values.phase)))
takes_led p bits c requests values h =
    let after : Seen = seen_after c.seen values (phase_said values.phase) in
    let d : CatchState = record c { seen = after; is_entering = enters_prepare c.seen after } in
    subst (λ s. CatchLed (likeness (held_machine c) None s None) (takes_up p bits c requests after)) (sym (its_seen c.seen values (phase_said values.phase)))
    (cuts_led p bits d requests (not (is_same_version c.seen after)) (kept c d refl refl h))

-- each load of a refresh
pub refresh_led : (p : Places) (bits session : ℕ) (c : CatchState) (requests : List PendingRequest) (r : Refreshing) (reply : ℕ) → c.step ≡ Refreshes → c.is_refresh ≡ true → IsLoading r
    → (let c' : CatchState = record c { refreshing = refresh_next r reply } in
    CatchLed (likeness (refresh_machine (refresh_next r reply)) None (refreshed_so_far (last_seen c.seen) (refresh_next r reply)) None) (refresh_ledto p bits c' requests (refresh_ask session (refresh_next r reply))))
unfolding refresh_next refresh_ask refresh_ledto
refresh_led p bits session c requests refresh.AtRest reply at is loading = absurd loading
refresh_led p bits session c requests refresh.LoadsEpoch reply at is loading = rw at (record { leads = λ protected. Keeps refl refl; knows = (is, tt) })
refresh_led p bits session c requests (refresh.LoadsPhase epoch) reply at is loading = rw at (record { leads = λ protected. Keeps refl refl; knows = (is, tt) })
refresh_led p bits session c requests (refresh.LoadsReadOnly epoch phase) reply at is loading = rw at (record { leads = λ protected. Keeps refl refl; knows = (is, tt) })
refresh_led p bits session c requests (refresh.LoadsHead epoch phase read_only) reply at is loading =
    let values : loaded.Seen = record { phase = phase; read_only = record { 0 = read_only }; head = record { 0 = reply } } in
    let d : CatchState = record c { refreshing = refresh.HasLoaded epoch values } in
    subst (λ b. CatchLed (likeness (if b then refresh_machine (refresh.HasLoaded epoch values) else None) None (record { read_only = read_only; head = reply }) None) (takes_up p bits d requests (seen_after c.seen values (phase_said phase)))) is
    (takes_led p bits d requests values (HasLoaded epoch values is refl))
refresh_led p bits session c requests (refresh.HasLoaded epoch values) reply at is loading = absurd loading
refresh_led p bits session c requests (refresh.StoresEpoch epoch) reply at is loading = absurd loading

-- each step of one that wakes
pub protect_led : (p : Places) (bits session : ℕ) (c : CatchState) (requests : List PendingRequest) (r : Protecting) (reply : ℕ) → c.step ≡ Protects → c.is_refresh ≡ false → IsProtecting r
    → (let c' : CatchState = record c { protecting = protect_next r reply } in
    CatchLed (likeness (protect_machine (protect_next r reply)) None (protected_then (last_seen c.seen) r reply) None) (protect_ledto p bits c' requests (protect_next_ask session r reply)))
unfolding protect_next protect_next_ask protect_ask protect_ledto
protect_led p bits session c requests protect.AtRest reply at is protecting = absurd protecting
protect_led p bits session c requests protect.LoadsEpoch reply at is protecting = rw at (record { leads = λ protected. Keeps refl refl; knows = (is, tt) })
protect_led p bits session c requests (protect.StoresEpoch epoch) reply at is protecting = rw at (record { leads = λ protected. Keeps refl refl; knows = (is, tt) })
protect_led p bits session c requests protect.LoadsPhase reply at is protecting = rw at (record { leads = λ protected. Keeps refl refl; knows = (is, tt) })
protect_led p bits session c requests (protect.LoadsReadOnly phase) reply at is protecting = rw at (record { leads = λ protected. Keeps refl refl; knows = (is, tt) })
protect_led p bits session c requests (protect.LoadsHead phase read_only) reply at is protecting =
    let values : loaded.Seen = record { phase = phase; read_only = record { 0 = read_only }; head = record { 0 = reply } } in
    let d : CatchState = record c { protecting = protect.AtRest } in
    subst (λ b. CatchLed (likeness (if b then refresh_machine c.refreshing else None) None (record { read_only = read_only; head = reply }) None) (takes_up p bits d requests (seen_after c.seen values (phase_said phase)))) is
    (takes_led p bits d requests values (HasWoken is))

latch_led : (p : Places) (bits : ℕ) (c : CatchState) (requests : List PendingRequest) (index : ℕ) (step : Latching) (reply : ℕ) → c.latching ≡ latch_next step reply → c.step ≡ Latches index → IsSharing step → Holds c
    → Free c (latch_ledto p bits c requests (latch_next_ask step reply))
unfolding latch_next latch_next_ask latch_ask latch_ledto
latch_led p bits c requests index (latching.AddsShare place) reply next at sharing h = by_word (is_exclusive reply) next
  where
    by_word : (b : Bool) → c.latching ≡ (if b then latching.GivesBack place else latching.AtRest) → Free c (latch_ledto p bits c requests (if b then latch_ask (latching.GivesBack place) else Done Taken))
    by_word true its = rw (at, its) (record { leads = λ protected. Keeps refl refl; knows = (kept c (record c { latching = latching.GivesBack place; step = Latches index }) refl refl h, tt) })
    by_word false its = latches_led p bits c requests h
latch_led p bits c requests index (latching.GivesBack place) reply next at sharing h = finishes_led c h
latch_led p bits c requests index step reply next at sharing h = absurd sharing

-- the last store
pub finish_led : (c : CatchState) (session epoch reply : ℕ) → CatchLed (likeness None None (last_seen c.seen) None) (finish_ledto (record c { refreshing = refresh_next (refresh.StoresEpoch epoch) reply }) (refresh_ask session (refresh_next (refresh.StoresEpoch epoch) reply)))
unfolding refresh_next refresh_ask finish_ledto
finish_led c session epoch reply = record { leads = λ protected. Keeps refl refl; knows = tt }

-- a step that is nothing to the guard
abbrev pub is_epochs : Catching → Bool
is_epochs Refreshes = true
is_epochs Protects = true
is_epochs Finishes = true
is_epochs step = false

pub catch_free : (p : Places) (bits session : ℕ) (c : CatchState) (requests : List PendingRequest) (step : Catching) (reply : ℕ) → c.step ≡ step → is_epochs step ≡ false → CatchKnows c step
    → CatchLed (catch_likeness_at c step) (catching_next p bits session c requests step reply)
unfolding catching_next
catch_free p bits session c requests Ended reply at other knows = rw at (record { leads = λ protected. Keeps refl refl; knows = tt })
catch_free p bits session c requests Refreshes reply at other knows = cc
catch_free p bits session c requests Protects reply at other knows = cc
catch_free p bits session c requests StoresCut reply at other knows = record { leads = λ protected. Keeps refl refl; knows = kept c _ refl refl knows }
catch_free p bits session c requests StoresOwing reply at other knows = latches_led p bits c requests knows
catch_free p bits session c requests (Latches index) reply at other knows =
    let d : CatchState = record c { latching = latch_next c.latching reply } in
    latch_led p bits d requests index c.latching reply refl at knows.1 (kept c d refl refl knows.0)
catch_free p bits session c requests Finishes reply at other knows = cc

refresh_no_end : {X : Type 0} (session : ℕ) (r : Refreshing) (its : Unit {0}) → IsLoading r → passed {B = Unit {0}} (refresh_ask session r) tt ≡ Done its → X
unfolding refresh_ask passed
refresh_no_end session refresh.LoadsEpoch its loading e = cc
refresh_no_end session (refresh.LoadsPhase epoch) its loading e = cc
refresh_no_end session (refresh.LoadsReadOnly epoch phase) its loading e = cc
refresh_no_end session (refresh.LoadsHead epoch phase read_only) its loading e = cc
refresh_no_end session r its loading e = absurd loading

protect_no_end : {X : Type 0} (session : ℕ) (r : Protecting) (its : Unit {0}) → IsProtecting r → passed {B = Unit {0}} (protect_ask session r) tt ≡ Done its → X
unfolding protect_ask passed
protect_no_end session protect.AtRest its protecting e = absurd protecting
protect_no_end session protect.LoadsEpoch its protecting e = cc
protect_no_end session (protect.StoresEpoch epoch) its protecting e = cc
protect_no_end session protect.LoadsPhase its protecting e = cc
protect_no_end session (protect.LoadsReadOnly phase) its protecting e = cc
protect_no_end session (protect.LoadsHead phase read_only) its protecting e = cc

latch_no_end : {X : Type 0} (step : Latching) (its : Unit {0}) → IsSharing step → passed {B = Unit {0}} (latch_ask step) tt ≡ Done its → X
unfolding latch_ask passed
latch_no_end (latching.AddsShare place) its sharing e = cc
latch_no_end (latching.GivesBack place) its sharing e = cc
latch_no_end step its sharing e = absurd sharing

store_no_end : {X : Type 0} (session : ℕ) (r : Refreshing) (its : Unit {0}) (epoch : ℕ) → r ≡ refresh.StoresEpoch epoch → passed {B = Unit {0}} (refresh_ask session r) tt ≡ Done its → X
unfolding refresh_ask passed
store_no_end session (refresh.StoresEpoch it) its epoch same e = cc
store_no_end session refresh.AtRest its epoch same e = cc
store_no_end session refresh.LoadsEpoch its epoch same e = cc
store_no_end session (refresh.LoadsPhase it) its epoch same e = cc
store_no_end session (refresh.LoadsReadOnly it phase) its epoch same e = cc
store_no_end session (refresh.LoadsHead it phase read_only) its epoch same e = cc
store_no_end session (refresh.HasLoaded it values) its epoch same e = cc

-- at its end who catches up is through
pub catch_through : (protected : Bool) (p : Places) (session : ℕ) (c : CatchState) (requests : List PendingRequest) (mid : Likeness) (step : Catching) (its : Unit {0}) → CatchKnows c step → catching_ask p session c requests step ≡ Done its
    → Leads protected mid (catch_onward c step) (catch_likeness_at c step) → mid ≡ through (last_seen c.seen)
unfolding catching_ask
catch_through protected p session c requests mid Ended its knows asks led = stayed protected mid (through (last_seen c.seen)) led
catch_through protected p session c requests mid Refreshes its knows asks led = refresh_no_end session c.refreshing its knows.1 asks
catch_through protected p session c requests mid Protects its knows asks led = protect_no_end session c.protecting its knows.1 asks
catch_through protected p session c requests mid StoresCut its knows asks led = cc
catch_through protected p session c requests mid StoresOwing its knows asks led = cc
catch_through protected p session c requests mid (Latches index) its knows asks led = latch_no_end c.latching its knows.1 asks
catch_through protected p session c requests mid Finishes its knows asks led = store_no_end session c.refreshing its knows.0 knows.1 asks
