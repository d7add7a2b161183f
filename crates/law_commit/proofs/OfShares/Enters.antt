-- A session that adds a share as it catches up enters prepare, of a version in which it wasn't in prepare, and has an update that waits.
use Rattle.std.proofs.Common.{◌≡◌, ℕ, ◌-◌, ◌%◌, ◌<◌, refl, sym, subst, arith, Bool, true, false, List, [], ◌∷◌}
use Rattle.std.specs.Prelude.{Option, Some, None, if◌then◌else◌, not, ⊤, slice_get}
use Rattle.std.specs.List.{position}
use Rattle.std.proofs.lemmas.Bool.Decides.{nat_tests}
use Rattle.fkv_plane.specs.declared.asks.Ask.{Ask}
use Rattle.fkv_plane.specs.declared.asks.Ask.TheVariants.{Done}
use Rattle.fkv_plane.specs.declared.places.Places.{Places}
use Rattle.fkv_plane.specs.Places.{bucket_place}
use Rattle.fkv_epoch.specs.declared.values.Seen as loaded
use Rattle.fkv_epoch.specs.declared.refreshing.RefreshAnswer.{RefreshAnswer}
use Rattle.fkv_epoch.specs.declared.refreshing.RefreshAnswer.TheVariants.{Loaded, Stored}
use Rattle.fkv_epoch.specs.Refreshing.{refresh_next, refresh_finish}
use Rattle.fkv_epoch.specs.Protecting.{protect_next}
use Rattle.fkv_latch.specs.declared.latching.LatchAnswer.TheVariants.{Taken}
use Rattle.fkv_latch.specs.declared.latching.Latching.{Latching}
use Rattle.fkv_latch.specs.declared.latching.Latching.TheVariants as latching
use Rattle.fkv_latch.specs.Latching.{is_exclusive, latch_ask, latch_next, latch_next_ask}
use Rattle.fkv_latch.specs.LatchWorld.{has_latch}
use Rattle.fkv_index.specs.Slots.{home_of}
use Rattle.fkv_map.specs.Keys.{key_of}
use Rattle.law_refine.specs.Below.fkv_ops.Seen.{Seen}
use Rattle.law_refine.specs.Below.fkv_pending.PendingRequest.{PendingRequest}
use Rattle.law_refine.specs.Below.fkv_pending.Pending.{is_unlatched}
use Rattle.fkv_words.specs.PhaseWords.{phase_said}
use Rattle.law_refine.specs.Below.fkv_session.Catching.{Catching}
use Rattle.law_refine.specs.Below.fkv_session.Catching.TheVariants.{Ended, Refreshes, Protects, StoresCut, StoresOwing, Latches, Finishes}
use Rattle.law_refine.specs.Below.fkv_session.CatchingUp.{CatchState, catch_requests, catch_next, catching_next, catching_requests, cuts, enters_prepare, finish_ledto, finishes, is_same_version, latch_begun, latch_ledto, latch_marked, latch_wanted, latched, latches, protect_ledto, refresh_ledto, seen_after, takes_up}
use Rattle.law_refine.specs.Below.fkv_session.Sessions.{Seat, bits_of}

-- it adds to the word of a latch
abbrev pub IsSharing : Places → Latching → Type 0
IsSharing p (latching.AddsShare place) = has_latch p place ≡ true
IsSharing p (latching.GivesBack place) = has_latch p place ≡ true
IsSharing p step = ⊥

abbrev pub SomeWait : List PendingRequest → Type 0
SomeWait requests = requests ≡ [] → ⊥

abbrev pub Enters : Seen → CatchState → Type 0
Enters seen c = c.is_entering ≡ true → enters_prepare seen c.seen ≡ true

abbrev pub CatchEnters : Places → Seen → List PendingRequest → CatchState → Catching → Type 0
CatchEnters p seen requests c Refreshes = c.seen ≡ seen
CatchEnters p seen requests c Protects = c.seen ≡ seen
CatchEnters p seen requests c StoresCut = Enters seen c
CatchEnters p seen requests c StoresOwing = Enters seen c
CatchEnters p seen requests c (Latches i) = (enters_prepare seen c.seen ≡ true) × SomeWait requests × IsSharing p c.latching
CatchEnters p seen requests c step = ⊤

abbrev pub IsEnteringSo : Places → Seen → List PendingRequest → CatchState → Type 0
IsEnteringSo p seen requests c = CatchEnters p seen requests c c.step

either_enters : (b : Bool) (p : Places) (seen : Seen) (requests : List PendingRequest) (c d : CatchState) → (b ≡ true → IsEnteringSo p seen requests c) → IsEnteringSo p seen requests d → IsEnteringSo p seen requests (if b then c else d)
either_enters true p seen requests c d one other = one refl
either_enters false p seen requests c d one other = other

still_enters : (p : Places) (seen : Seen) (requests : List PendingRequest) (c : CatchState) (step : Catching) → c.step ≡ step → CatchEnters p seen requests c step → IsEnteringSo p seen requests c
still_enters p seen requests c step s knows = subst (λ (x : Catching). CatchEnters p seen requests c x) (sym s) knows

-- a bucket of the index has a latch
pub bucket_latch : (p : Places) (bucket : ℕ) → bucket < p.buckets → has_latch p (bucket_place p bucket 7) ≡ true
bucket_latch p bucket low = let within : (bucket_place p bucket 7 - bucket_place p 0 0) % 8 ≡ 7 = omega arith in grind (arith, nat_tests, low, within)

some_wait : (requests : List PendingRequest) (i : ℕ) (pending : PendingRequest) → slice_get requests i ≡ Some pending → SomeWait requests
some_wait [] i pending got none = cc
some_wait (o ∷ rest) i pending got none = cc

module _ (k : Seat) (homes : (pending : PendingRequest) → (home_of (bits_of k) (key_of pending.request.op)).bucket < k.places.buckets) where
  finishes_enters : (seen : Seen) (requests : List PendingRequest) (c : CatchState) → IsEnteringSo k.places seen requests (finishes c)
  finishes_enters seen requests c = either_enters c.is_refresh k.places seen requests (record c { refreshing = refresh_finish c.refreshing; step = Finishes }) (record c { step = Ended }) (λ e. tt) tt

  begun_enters : (seen : Seen) (requests : List PendingRequest) (c : CatchState) (i : ℕ) (found : Option PendingRequest) → slice_get requests i ≡ found → enters_prepare seen c.seen ≡ true → IsEnteringSo k.places seen requests (latch_begun k.places (bits_of k) c i found)
  begun_enters seen requests c i None got enters = finishes_enters seen requests c
  begun_enters seen requests c i (Some pending) got enters = (enters, some_wait requests i pending got, bucket_latch k.places (home_of (bits_of k) (key_of pending.request.op)).bucket (homes pending))

  wanted_enters : (seen : Seen) (requests : List PendingRequest) (c : CatchState) (found : Option ℕ) → enters_prepare seen c.seen ≡ true → IsEnteringSo k.places seen requests (latch_wanted k.places (bits_of k) c requests found)
  wanted_enters seen requests c None enters = finishes_enters seen requests c
  wanted_enters seen requests c (Some i) enters = begun_enters seen requests c i (slice_get requests i) refl enters

  latches_enters : (seen : Seen) (requests : List PendingRequest) (c : CatchState) → Enters seen c → IsEnteringSo k.places seen requests (latches k.places (bits_of k) c requests)
  latches_enters seen requests c enters =
      either_enters c.is_entering k.places seen requests (latch_wanted k.places (bits_of k) c requests (position is_unlatched requests)) (finishes c) (λ e. wanted_enters seen requests c (position is_unlatched requests) (enters e)) (finishes_enters seen requests c)

  cuts_enters : (seen : Seen) (requests : List PendingRequest) (c : CatchState) (changed : Bool) → Enters seen c → IsEnteringSo k.places seen requests (cuts k.places (bits_of k) c requests changed)
  cuts_enters seen requests c true enters = enters
  cuts_enters seen requests c false enters = latches_enters seen requests c enters

  takes_enters : (seen : Seen) (requests : List PendingRequest) (c : CatchState) (after : Seen) → c.seen ≡ seen → IsEnteringSo k.places seen requests (takes_up k.places (bits_of k) c requests after)
  takes_enters seen requests c after same =
      cuts_enters seen requests (record c { seen = after; is_entering = enters_prepare c.seen after }) (not (is_same_version c.seen after)) (λ e. subst (λ (x : Seen). enters_prepare x after ≡ true) same e)

  refreshed_enters : (seen : Seen) (requests : List PendingRequest) (c : CatchState) (ask : Ask RefreshAnswer) → c.step ≡ Refreshes → c.seen ≡ seen → IsEnteringSo k.places seen requests (refresh_ledto k.places (bits_of k) c requests ask)
  unfolding refresh_ledto
  refreshed_enters seen requests c (Done (Loaded values)) s same = takes_enters seen requests c (seen_after c.seen values (phase_said values.phase)) same
  refreshed_enters seen requests c (Done Stored) s same = tt
  refreshed_enters seen requests c ask s same = still_enters k.places seen requests c Refreshes s same

  protected_enters : (seen : Seen) (requests : List PendingRequest) (c : CatchState) (ask : Ask loaded.Seen) → c.step ≡ Protects → c.seen ≡ seen → IsEnteringSo k.places seen requests (protect_ledto k.places (bits_of k) c requests ask)
  unfolding protect_ledto
  protected_enters seen requests c (Done values) s same = takes_enters seen requests c (seen_after c.seen values (phase_said values.phase)) same
  protected_enters seen requests c ask s same = still_enters k.places seen requests c Protects s same

  finish_enters : (seen : Seen) (requests : List PendingRequest) (c : CatchState) (ask : Ask RefreshAnswer) → c.step ≡ Finishes → IsEnteringSo k.places seen requests (finish_ledto c ask)
  unfolding finish_ledto
  finish_enters seen requests c (Done its) s = tt
  finish_enters seen requests c ask s = still_enters k.places seen requests c Finishes s tt

  added_enters : (seen : Seen) (requests : List PendingRequest) (c : CatchState) (i place : ℕ) (busy : Bool) → c.step ≡ Latches i → enters_prepare seen c.seen ≡ true → SomeWait requests → has_latch k.places place ≡ true
      → IsEnteringSo k.places seen (latch_marked requests i (if busy then latch_ask (latching.GivesBack place) else Done Taken))
      (latch_ledto k.places (bits_of k) (record c { latching = if busy then latching.GivesBack place else latching.AtRest }) (latch_marked requests i (if busy then latch_ask (latching.GivesBack place) else Done Taken)) (if busy then latch_ask (latching.GivesBack place) else Done Taken))
  unfolding latch_ledto latch_marked latch_ask
  added_enters seen requests c i place true s enters some has = still_enters k.places seen requests (record c { latching = latching.GivesBack place }) (Latches i) s (enters, some, has)
  added_enters seen requests c i place false s enters some has = latches_enters seen (latched requests i (slice_get requests i)) (record c { latching = latching.AtRest }) (λ e. enters)

  latch_enters : (seen : Seen) (requests : List PendingRequest) (c : CatchState) (i : ℕ) (step : Latching) (reply : ℕ) → c.step ≡ Latches i → enters_prepare seen c.seen ≡ true → SomeWait requests → IsSharing k.places step
      → IsEnteringSo k.places seen (latch_marked requests i (latch_next_ask step reply)) (latch_ledto k.places (bits_of k) (record c { latching = latch_next step reply }) (latch_marked requests i (latch_next_ask step reply)) (latch_next_ask step reply))
  unfolding latch_next_ask latch_next latch_ledto
  latch_enters seen requests c i (latching.AddsShare place) reply s enters some has = added_enters seen requests c i place (is_exclusive reply) s enters some has
  latch_enters seen requests c i (latching.GivesBack place) reply s enters some has = finishes_enters seen _ (record c { latching = latching.AtRest })
  latch_enters seen requests c i step reply s enters some has = absurd has

  step_enters : (seen : Seen) (requests : List PendingRequest) (c : CatchState) (step : Catching) (reply : ℕ) → c.step ≡ step → CatchEnters k.places seen requests c step
      → IsEnteringSo k.places seen (catching_requests c requests step reply) (catching_next k.places (bits_of k) k.number c (catching_requests c requests step reply) step reply)
  unfolding catching_next catching_requests
  step_enters seen requests c Ended reply s knows = still_enters k.places seen requests c Ended s tt
  step_enters seen requests c Refreshes reply s knows = refreshed_enters seen requests (record c { refreshing = refresh_next c.refreshing reply }) _ s knows
  step_enters seen requests c Protects reply s knows = protected_enters seen requests (record c { protecting = protect_next c.protecting reply }) _ s knows
  step_enters seen requests c StoresCut reply s knows = knows
  step_enters seen requests c StoresOwing reply s knows = latches_enters seen requests c knows
  step_enters seen requests c (Latches i) reply s knows = latch_enters seen requests c i c.latching reply s knows.0 knows.1 knows.2
  step_enters seen requests c Finishes reply s knows = finish_enters seen requests (record c { refreshing = refresh_next c.refreshing reply }) _ s

  pub catch_enters : (seen : Seen) (requests : List PendingRequest) (c : CatchState) (reply : ℕ) → IsEnteringSo k.places seen requests c → IsEnteringSo k.places seen (catch_requests c requests reply) (catch_next k.places (bits_of k) k.number c requests reply)
  catch_enters seen requests c reply knows = step_enters seen requests c c.step reply refl knows
