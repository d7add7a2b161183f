-- So in each life an update shares its latch just from prepare of its version on.
use Rattle.std.proofs.Common.{◌≡◌, ◌⊎◌, inl, inr, ℕ, zero, suc, ◌<◌, ◌≤◌, ◌∙◌, List, [], ◌∷◌, ◌++◌, refl, arith, ap, sym, subst, Bool, true, false}
use Rattle.std.specs.Prelude.{Option, Some, None, slice_get}
use Rattle.law_refine.specs.Below.fkv_ops.Request.{Request}
use Rattle.law_refine.specs.Below.fkv_ops.Seen.{Seen}
use Rattle.law_refine.specs.Below.fkv_ops.TheTrying.{Trying}
use Rattle.law_refine.specs.Below.fkv_ops.TheTrying.TheVariants as trying
use Rattle.law_refine.specs.Below.fkv_ops.Requests.{is_read}
use Rattle.law_refine.specs.Below.fkv_ops.Trying.{TryState}
use Rattle.law_refine.specs.Below.fkv_pending.TheAttempting.{Attempting}
use Rattle.law_refine.specs.Below.fkv_pending.TheAttempting.TheVariants as attempting
use Rattle.law_refine.specs.Below.fkv_pending.PendingRequest.{PendingRequest}
use Rattle.law_refine.specs.Below.fkv_pending.Attempting.{AttemptState}
use Rattle.fkv_plane.specs.declared.asks.Ask.TheVariants.{Add}
use Rattle.law_refine.specs.Below.fkv_session.Catching.{Catching}
use Rattle.law_refine.specs.Below.fkv_session.Catching.TheVariants as catching
use Rattle.law_refine.specs.Below.fkv_session.Sitting.{Sitting}
use Rattle.law_refine.specs.Below.fkv_session.Sitting.TheVariants.{Attempts, CatchesUp, ClearsMail, Idle, Leaves, LoadsDurable, Polls, StoresCut, StoresOwing, Turns}
use Rattle.law_refine.specs.Below.fkv_session.CatchingUp.{CatchState}
use Rattle.law_refine.specs.Below.fkv_session.SessionRun.{SessionEvent, session_run}
use Rattle.law_refine.specs.Below.fkv_session.Sessions.{Seat, SessionState, bits_of, session_ask}
use Rattle.law_refine.specs.Below.fkv_session.Shares.{HasItsBuckets}
use Rattle.law_refine.specs.Below.fkv_world.Opened.{HasBecome, IsOpenedWorld}
use Rattle.law_refine.specs.Below.fkv_world.OwnEvents.{session_events, session_part_of}
use Rattle.law_refine.specs.Below.fkv_world.Runs.{World, run}
use Rattle.law_refine.specs.Below.fkv_world.World.{Event, Now, seat_at}
use Rattle.law_refine.proofs.Below.fkv_world.Shown.{same_seat, session_runs}
use Rattle.law_refine.specs.Below.law_world.Guarded.Shows as guard
use Rattle.law_refine.specs.Latches.Shows as latches
use Rattle.law_refine.specs.Below.law_local.Sessions.Inputs.{AttemptsSo, TriesFor}
use Rattle.law_refine.specs.Below.law_local.Sessions.Known.{is_attempting}
use Rattle.law_refine.proofs.Below.law_local.OfSessions.Lists.{AllBut, AllKnown, all_left}
use Rattle.law_refine.proofs.Below.law_local.OfSessions.SessionInputs.{attempt_at_call, attempt_in_poll, run_so}
use Rattle.law_refine.proofs.Below.law_world.OfSessions.OwnRun.{of_run, opened_so}
use Rattle.law_commit.specs.Floor.Stands.{OpensSeen, PaperHasFloor, PaperIsSound}
use Rattle.law_commit.specs.Quiet.{rank_now}
use Rattle.law_commit.specs.Shares.Since.{AllShareSince, AttemptSo, HasPrepared, InHandSo, OlderComeSharing, ShareOnlySince, SharesOnly, SharesSince, TriesSo, WaitSo, seen_by, taken_up, waiting_beside}
use Rattle.law_commit.specs.Shares.Tries.{SharesAttempting, SharesInHand, SharesSo, SharesTrying}
use Rattle.law_commit.specs.Shares.Waiting.{has_shifted}
use Rattle.law_commit.specs.Views.{IsComing, IsTakenFrom, Sight, TakesUp, View, rank_of, sight_found, sight_in, sight_of}
use Rattle.law_commit.proofs.Measured.{ComesBetween}
use Rattle.law_commit.proofs.Sights.{coming_seen, view_seen}
use Rattle.law_commit.proofs.OfFloor.LifeFloor.{LifeFloored}
use Rattle.law_commit.proofs.OfFloor.Stands.{has_floor, life_floored}
use Rattle.law_commit.proofs.OfPhases.LifeStages.{first_version}
use Rattle.law_commit.proofs.OfQuiet.Life.{by_event}
use Rattle.law_commit.proofs.OfQuiet.Ranks.{staged_rank}
use Rattle.law_commit.proofs.OfShares.Alone.{CountsLatches, ShowsLatches, meets_none, tries_share}
use Rattle.law_commit.proofs.OfShares.AttemptsSince.{IsOlder, IsSharing, KnowsSharing}
use Rattle.law_commit.proofs.OfShares.CatchesSince.{TakesPrepare}
use Rattle.law_commit.proofs.OfShares.Fits.{AllFit, OwnLatched, own_latched, part_fits, run_known}
use Rattle.law_commit.proofs.OfShares.Leaving.{IsFloored}
use Rattle.law_commit.proofs.OfShares.Onward.{IsOnward, OwnOn, life_on, life_under, rank_onward, seen_rank}
use Rattle.law_commit.proofs.OfShares.Prepared.{opened_latched}
use Rattle.law_commit.proofs.OfShares.SessionsSince.{Knows, SitsTaking, Waits, prepared_on}
use Rattle.law_commit.proofs.OfShares.Waiting.{NoneIsMet, life_latched, shifted_apart}
use Rattle.law_commit.proofs.OfShares.Waiting.{found_all as meets_all}

-- ---- each event of a session in a life fits
module _ (paper_sound : PaperIsSound) (paper_floor : PaperHasFloor) (opening : World) (start session : ℕ) (first : SessionState) (guarded : guard.IsOpened opening.now start) (world : IsOpenedWorld opening) (opens : OpensSeen opening.now)
    (was : slice_get opening.now.sessions session ≡ Some first) (unshifted : Bool)
    (meets : unshifted ≡ true → (before : List Event) (s : SessionState) → slice_get (run opening before).now.sessions session ≡ Some s → NoneIsMet (run opening before).now.words (seat_at opening.now session) s) where
  abbrev k : Seat
  k = seat_at opening.now session

  abbrev buckets : HasItsBuckets (seat_at opening.now session)
  buckets = guarded.buckets

  abbrev own : List Event → List SessionEvent
  own events = session_events opening session events

  abbrev at : List Event → SessionState
  at events = session_run (seat_at opening.now session) first (session_events opening session events)

  become : (events : List Event) → HasBecome opening events session first (at events)
  become events = record { opened = world; was = was; is_now = session_runs opening session first events was }

  floored : (before : List Event) → (at before).is_awake ≡ true → (lived : LifeFloored opening start before) → IsFloored lived.number lived.stage (seen_rank (at before).seen)
  floored before awake lived =
      let floor = has_floor opening start before lived.number lived.stage lived.p lived.its paper_floor session first (at before) (become before) awake in
      let saw = view_seen opening before session first (at before) (become before) in
      let view : View = (sight_of opening before session).view in
      let rank_same : seen_rank (at before).seen ≡ rank_of view = rw (saw.phase, saw.version) refl in
      let rest = floor.rest in
      record { rest = omega (arith, rest, rank_same); in_progress = λ far. (let it = floor.in_progress far in omega (arith, it, rank_same)) }

  latched_part : (before : List Event) (event : Event) → unshifted ≡ true → has_shifted k first (session_part_of (run opening before).now session event ++ own before) ≡ false
      → OwnLatched k buckets first (own before) (session_part_of (run opening before).now session event)
  latched_part before event f none =
      let now : Now = (run opening before).now in
      let there = session_runs opening session first before was in
      let part : List SessionEvent = session_part_of now session event in
      let apart = shifted_apart k first part (own before) none in
      let began = opened_latched k buckets first first.step (world.sessions session first was).none_in_hand (opens.seen session first was) in
      own_latched k buckets first (own before) part (meets_all now k (at before) session event (slice_get now.sessions session) there (same_seat opening before session) (meets f before (at before) there)) apart.0
      (life_latched opening session first was buckets (meets f) before began apart.1)

  life_fits : (events : List Event) → (unshifted ≡ true → has_shifted k first (own events) ≡ false) → AllFit k buckets unshifted first (own events)
  unfolding session_events AllFit
  life_fits [] none = tt
  life_fits (event ∷ before) none =
      let now : Now = (run opening before).now in
      let past = life_fits before (λ f. (shifted_apart k first (session_part_of now session event) (own before) (none f)).1) in
      let lived = life_floored opening start before guarded world opens paper_sound in
      let top_is = staged_rank now lived.number lived.stage lived.its.staged in
      by_event (λ (part : List SessionEvent). OwnOn (rank_now opening before) k first (own before) part → (unshifted ≡ true → OwnLatched k buckets first (own before) part) → AllFit k buckets unshifted first (part ++ own before)) now session event
      (λ call on latched. (tt, past))
      (λ part calls on latched.
      part_fits lived.number lived.stage lived.its.staged.fits.some (rank_now opening before) top_is k buckets unshifted first (world.sessions session first was) (own before) part calls on latched (λ busy awake. floored before awake lived) past)
      (life_on opening start session first guarded world opens was before event) (λ f. latched_part before event f (none f))

  pub life_known : (events : List Event) → (unshifted ≡ true → has_shifted k first (own events) ≡ false) → Knows k buckets unshifted (at events)
  life_known events none =
      run_known k buckets unshifted first (own events) (world.sessions session first was) (first_version opening session first (at events) events (become events) opens.rests) (life_fits events none)

-- ---- what is said of it
list_so : (P : Request → Bool → Type 0) (requests : List PendingRequest) → AllKnown (λ p. P p.request p.request.has_latch) requests → WaitSo P requests
list_so P [] all = tt
list_so P (p ∷ rest) all = (all zero p refl, list_so P rest (λ i q got. all (suc i) q got))

module _ (k : Seat) (its : HasItsBuckets k) (unshifted : Bool) (P : Request → Bool → Type 0) (s : SessionState) (knows : Knows k its unshifted s) (each : (p : PendingRequest) → Waits k its unshifted s p → P p.request p.request.has_latch) where
  polls_other : (i index : ℕ) → s.step ≡ Polls i → s.step ≡ Polls index → index ≡ i
  polls_other i index at is = let same : ◌≡◌ {A = Sitting} (Polls index) (Polls i) = sym is ∙ at in cc

  all_but : (i : ℕ) → s.step ≡ Polls i → AllBut (λ p. P p.request p.request.has_latch) s.requests i
  all_but i at index p got other = each p (knows.waiting index p got (λ is. other (polls_other i index at is)))

  all_of : ((index : ℕ) → s.step ≡ Polls index → ⊥) → WaitSo P s.requests
  all_of none = list_so P s.requests (λ index p got. each p (knows.waiting index p got (none index)))

  waits_so : (step : Sitting) → s.step ≡ step → WaitSo P (waiting_beside s step)
  waits_so (Polls i) at = list_so P _ (all_left (λ p. P p.request p.request.has_latch) s.requests i (all_but i at))
  waits_so (Idle told) at = all_of (λ index is. (let clash : ◌≡◌ {A = Sitting} (Idle told) (Polls index) = sym at ∙ is in cc))
  waits_so (Attempts has_shifted) at = all_of (λ index is. (let clash : ◌≡◌ {A = Sitting} (Attempts has_shifted) (Polls index) = sym at ∙ is in cc))
  waits_so (CatchesUp cause) at = all_of (λ index is. (let clash : ◌≡◌ {A = Sitting} (CatchesUp cause) (Polls index) = sym at ∙ is in cc))
  waits_so ClearsMail at = all_of (λ index is. (let clash : ◌≡◌ {A = Sitting} ClearsMail (Polls index) = sym at ∙ is in cc))
  waits_so (StoresOwing i) at = all_of (λ index is. (let clash : ◌≡◌ {A = Sitting} (StoresOwing i) (Polls index) = sym at ∙ is in cc))
  waits_so (Turns told) at = all_of (λ index is. (let clash : ◌≡◌ {A = Sitting} (Turns told) (Polls index) = sym at ∙ is in cc))
  waits_so StoresCut at = all_of (λ index is. (let clash : ◌≡◌ {A = Sitting} StoresCut (Polls index) = sym at ∙ is in cc))
  waits_so Leaves at = all_of (λ index is. (let clash : ◌≡◌ {A = Sitting} Leaves (Polls index) = sym at ∙ is in cc))
  waits_so LoadsDurable at = all_of (λ index is. (let clash : ◌≡◌ {A = Sitting} LoadsDurable (Polls index) = sym at ∙ is in cc))

-- the one in hand
try_so : (P : Request → Bool → Type 0) (seen : Seen) (t : TryState) (step : Trying) → (SharesSo seen t → P t.request t.has_shared) → SharesTrying seen t step → TriesSo P t step
try_so P seen t trying.TakesShared make so = tt
try_so P seen t (trying.DropsExclusive its) make so = tt
try_so P seen t (trying.DropsShared its) make so = tt
try_so P seen t (trying.Ended its) make so = tt
try_so P seen t trying.LoadsPhase make so = make so
try_so P seen t trying.Walks make so = make so
try_so P seen t trying.CountsTaken make so = make so
try_so P seen t (trying.LoadsSafe addr version) make so = make so
try_so P seen t (trying.SwapsValue addr) make so = make so
try_so P seen t (trying.LoadsCurrent addr) make so = make so
try_so P seen t (trying.ChangesValue addr old) make so = make so
try_so P seen t trying.LoadsAnswer make so = make so
try_so P seen t (trying.TakesExclusive old) make so = make so
try_so P seen t trying.LoadsOld make so = make so
try_so P seen t (trying.Appends its) make so = make so
try_so P seen t (trying.LoadsTail waiting) make so = make so
try_so P seen t (trying.LoadsTaken waiting) make so = make so

module _ (k : Seat) (its : HasItsBuckets k) (unshifted : Bool) (P : Request → Bool → Type 0) (seen : Seen) (each : (p : PendingRequest) → IsSharing unshifted seen ⊥ p → P p.request p.request.has_latch)
    (tried : (t : TryState) (p : PendingRequest) → t.request ≡ p.request → IsOlder unshifted seen p → SharesSo seen t → P t.request t.has_shared) where
  attempt_so : (a : AttemptState) (step : Attempting) → KnowsSharing k its unshifted seen a step → TriesFor (bits_of k) a step → SharesAttempting seen a step → AttemptSo P a step
  attempt_so a attempting.Looks knows goes shares = each a.pending knows.1
  attempt_so a attempting.Puts knows goes shares = each a.pending knows
  attempt_so a (attempting.Ended found) knows goes shares = tt
  attempt_so a attempting.Tries knows goes shares = try_so P seen a.trial a.trial.step (λ so. tried a.trial a.pending goes.its_request knows.1 so) shares

module _ (k : Seat) (its : HasItsBuckets k) (unshifted : Bool) (P : Request → Bool → Type 0) (s : SessionState) (knows : Knows k its unshifted s) (inputs : AttemptsSo k s) (each : (p : PendingRequest) → IsSharing unshifted s.seen ⊥ p → P p.request p.request.has_latch)
    (tried : (t : TryState) (p : PendingRequest) → t.request ≡ p.request → IsOlder unshifted s.seen p → SharesSo s.seen t → P t.request t.has_shared) where
  hand_so : (step : Sitting) → s.step ≡ step → SharesInHand s step → InHandSo P s step
  hand_so (Attempts has_shifted) at shares =
      attempt_so k its unshifted P s.seen each tried s.attempt s.attempt.step (knows.attempted (ap is_attempting at)).knows (attempt_at_call k s has_shifted at inputs).goes.its_try shares
  hand_so (Polls i) at shares = attempt_so k its unshifted P s.seen each tried s.attempt s.attempt.step (knows.attempted (ap is_attempting at)).knows (attempt_in_poll k s i at inputs).goes.its_try shares
  hand_so step at shares = tt

-- ---- only so
no_more : (A : Type 0) → A ⊎ ⊥ → A
no_more A (inl a) = a
no_more A (inr never) = absurd never

tried_only : (unshifted : Bool) (seen : Seen) (t : TryState) (p : PendingRequest) → t.request ≡ p.request → IsOlder unshifted seen p → SharesSo seen t → SharesOnly seen t.request t.has_shared
tried_only unshifted seen t p same older so updates has =
    let was = older (subst (λ (r : Request). is_read r.op ≡ false) same updates) in
    elim (so.came has) [
      | inl prepares ↦ inl prepares
      | inr latched ↦ subst (λ (r : Request). HasPrepared seen r.version.0) (sym same) (no_more (HasPrepared seen p.request.version.0) (was.only (subst (λ (r : Request). r.has_latch ≡ true) same latched)))
    ]

tried_since : (seen : Seen) (t : TryState) (p : PendingRequest) → t.request ≡ p.request → IsOlder true seen p → SharesSo seen t → SharesSince seen t.request t.has_shared
tried_since seen t p same older so updates (inl prepares) = so.prepares prepares updates
tried_since seen t p same older so updates (inr less) =
    let was = older (subst (λ (r : Request). is_read r.op ≡ false) same updates) in
    so.kept (subst (λ (r : Request). r.has_latch ≡ true) (sym same) (was.since (refl, subst (λ (r : Request). r.version.0 < seen.version.0) same less)))

-- by what a session takes up, once it has loaded it
taken_only : (s : SessionState) (c : CatchState) (step : Catching) (p : PendingRequest) → IsOnward s.seen (taken_up s c step) → IsSharing false s.seen (TakesPrepare c step) p → SharesOnly (taken_up s c step) p.request p.request.has_latch
taken_only s c catching.Refreshes p on so updates has = no_more (HasPrepared s.seen p.request.version.0) ((so updates).only has)
taken_only s c catching.Protects p on so updates has = no_more (HasPrepared s.seen p.request.version.0) ((so updates).only has)
taken_only s c catching.Ended p on so updates has = elim ((so updates).only has) [ inl prepared ↦ prepared_on s.seen c.seen p.request.version.0 on (so updates).upto prepared | inr takes ↦ inl takes ]
taken_only s c catching.StoresCut p on so updates has = elim ((so updates).only has) [ inl prepared ↦ prepared_on s.seen c.seen p.request.version.0 on (so updates).upto prepared | inr takes ↦ inl takes ]
taken_only s c catching.StoresOwing p on so updates has = elim ((so updates).only has) [ inl prepared ↦ prepared_on s.seen c.seen p.request.version.0 on (so updates).upto prepared | inr takes ↦ inl takes ]
taken_only s c (catching.Latches i) p on so updates has = elim ((so updates).only has) [ inl prepared ↦ prepared_on s.seen c.seen p.request.version.0 on (so updates).upto prepared | inr takes ↦ inl takes ]
taken_only s c catching.Finishes p on so updates has = elim ((so updates).only has) [ inl prepared ↦ prepared_on s.seen c.seen p.request.version.0 on (so updates).upto prepared | inr takes ↦ inl takes ]

waits_only : (s : SessionState) (step : Sitting) (p : PendingRequest) → IsOnward s.seen (seen_by s step) → IsSharing false s.seen (SitsTaking s step) p → SharesOnly (seen_by s step) p.request p.request.has_latch
waits_only s (CatchesUp cause) p on so updates has = taken_only s s.catching s.catching.step p on so updates has
waits_only s (Idle told) p on so updates has = no_more (HasPrepared s.seen p.request.version.0) ((so updates).only has)
waits_only s (Attempts has_shifted) p on so updates has = no_more (HasPrepared s.seen p.request.version.0) ((so updates).only has)
waits_only s ClearsMail p on so updates has = no_more (HasPrepared s.seen p.request.version.0) ((so updates).only has)
waits_only s (Polls i) p on so updates has = no_more (HasPrepared s.seen p.request.version.0) ((so updates).only has)
waits_only s (StoresOwing i) p on so updates has = no_more (HasPrepared s.seen p.request.version.0) ((so updates).only has)
waits_only s (Turns told) p on so updates has = no_more (HasPrepared s.seen p.request.version.0) ((so updates).only has)
waits_only s StoresCut p on so updates has = no_more (HasPrepared s.seen p.request.version.0) ((so updates).only has)
waits_only s Leaves p on so updates has = no_more (HasPrepared s.seen p.request.version.0) ((so updates).only has)
waits_only s LoadsDurable p on so updates has = no_more (HasPrepared s.seen p.request.version.0) ((so updates).only has)

same_onward : (seen : Seen) → IsOnward seen seen
same_onward seen = rank_onward seen seen (omega arith)

-- what it takes up is of no lower rank
come_up : (low top : ℕ) (found : Option View) (seen : Seen) → ComesBetween rank_of low top found → IsTakenFrom found seen → low ≤ seen_rank seen
come_up low top None seen under taken = absurd taken
come_up low top (Some view) seen under taken = let up = under.0 in let same : seen_rank seen ≡ rank_of view = rw (taken.phase, taken.version) refl in omega (arith, up, same)

taken_onward : (s : SessionState) (sight : Sight) (top : ℕ) (step : Catching) → seen_rank s.seen ≡ rank_of sight.view → ComesBetween rank_of (rank_of sight.view) top sight.coming → TakesUp sight s.catching step → IsOnward s.seen (taken_up s s.catching step)
taken_onward s sight top catching.Refreshes same under takes = same_onward s.seen
taken_onward s sight top catching.Protects same under takes = same_onward s.seen
taken_onward s sight top catching.Ended same under takes = rank_onward s.seen s.catching.seen (let up = come_up (rank_of sight.view) top sight.coming s.catching.seen under takes in omega (arith, up, same))
taken_onward s sight top catching.StoresCut same under takes = rank_onward s.seen s.catching.seen (let up = come_up (rank_of sight.view) top sight.coming s.catching.seen under takes in omega (arith, up, same))
taken_onward s sight top catching.StoresOwing same under takes = rank_onward s.seen s.catching.seen (let up = come_up (rank_of sight.view) top sight.coming s.catching.seen under takes in omega (arith, up, same))
taken_onward s sight top (catching.Latches i) same under takes = rank_onward s.seen s.catching.seen (let up = come_up (rank_of sight.view) top sight.coming s.catching.seen under takes in omega (arith, up, same))
taken_onward s sight top catching.Finishes same under takes = rank_onward s.seen s.catching.seen (let up = come_up (rank_of sight.view) top sight.coming s.catching.seen under takes in omega (arith, up, same))

sits_onward : (s : SessionState) (sight : Sight) (top : ℕ) (step : Sitting) → seen_rank s.seen ≡ rank_of sight.view → ComesBetween rank_of (rank_of sight.view) top sight.coming → IsComing sight s step → IsOnward s.seen (seen_by s step)
sits_onward s sight top (CatchesUp cause) same under comes = taken_onward s sight top s.catching.step same under comes
sits_onward s sight top (Idle told) same under comes = same_onward s.seen
sits_onward s sight top (Attempts has_shifted) same under comes = same_onward s.seen
sits_onward s sight top ClearsMail same under comes = same_onward s.seen
sits_onward s sight top (Polls i) same under comes = same_onward s.seen
sits_onward s sight top (StoresOwing i) same under comes = same_onward s.seen
sits_onward s sight top (Turns told) same under comes = same_onward s.seen
sits_onward s sight top StoresCut same under comes = same_onward s.seen
sits_onward s sight top Leaves same under comes = same_onward s.seen
sits_onward s sight top LoadsDurable same under comes = same_onward s.seen

-- in hand it goes by what it has seen
hand_seen : (s : SessionState) (step : Sitting) → InHandSo (SharesOnly s.seen) s step → InHandSo (SharesOnly (seen_by s step)) s step
hand_seen s (Attempts has_shifted) so = so
hand_seen s (Polls i) so = so
hand_seen s step so = tt

-- ---- in a life
module _ (opening : World) (start : ℕ) (events : List Event) (session : ℕ) (first its : SessionState) (guarded : guard.IsOpened opening.now start) (opens : OpensSeen opening.now) (became : HasBecome opening events session first its) where
  abbrev seat : Seat
  seat = seat_at opening.now session

  inputs_now : AttemptsSo (seat_at opening.now session) its
  inputs_now = of_run (AttemptsSo (seat_at opening.now session)) opening events session first its became
      (run_so (seat_at opening.now session) first (session_events opening session events) (opened_so opening events session first its became))

  onward_now : IsOnward its.seen (seen_by its its.step)
  onward_now =
      let sight : Sight = sight_of opening events session in
      let saw = view_seen opening events session first its became in
      let same : sight_of opening events session ≡ sight_in opening session first events = ap (sight_found opening events session) became.was in
      let under = subst (λ (x : Sight). ComesBetween rank_of (rank_of x.view) (rank_now opening events) x.coming) (sym same) (life_under opening start session first guarded became.opened opens became.was events).coming in
      sits_onward its sight (rank_now opening events) its.step (rw (saw.phase, saw.version) refl) under (coming_seen opening events session first its became)

pub share_only_since : PaperIsSound → PaperHasFloor → ShareOnlySince
share_only_since paper_sound paper_floor opening start events session first its guarded opens became =
    let k : Seat = seat_at opening.now session in
    let knows = of_run (Knows k guarded.buckets false) opening events session first its became
    (life_known paper_sound paper_floor opening start session first guarded became.opened opens became.was false (λ f. cc) events (λ f. cc)) in
    let onward = onward_now opening start events session first its guarded opens became in
    record {
      waiting = waits_so k guarded.buckets false (SharesOnly (seen_by its its.step)) its knows (λ p so. waits_only its its.step p onward so) its.step refl;
      in_hand = hand_seen its its.step
          (hand_so k guarded.buckets false (SharesOnly its.seen) its knows (inputs_now opening start events session first its guarded opens became) (λ p so updates has. no_more (HasPrepared its.seen p.request.version.0) ((so updates).only has))
          (λ t p same older so. tried_only false its.seen t p same older so) its.step refl (tries_share opening start events session first its guarded became));
    }

-- if none has shifted
module _ (paper_sound : PaperIsSound) (paper_floor : PaperHasFloor) (shows : ShowsLatches) (counted : CountsLatches) (opening : World) (start : ℕ) (events : List Event) (session : ℕ) (first its : SessionState) (guarded : guard.IsOpened opening.now start)
    (held : latches.IsOpened opening.now) (opens : OpensSeen opening.now) (became : HasBecome opening events session first its) (none : has_shifted (seat_at opening.now session) first (session_events opening session events) ≡ false) where
  known_now : Knows (seat_at opening.now session) guarded.buckets true its
  known_now =
      of_run (Knows (seat_at opening.now session) guarded.buckets true) opening events session first its became
      (life_known paper_sound paper_floor opening start session first guarded became.opened opens became.was true
      (λ f before s there cause place number at asks. meets_none paper_sound paper_floor shows counted opening start before session place number first s cause guarded held opens (record { opened = became.opened; was = became.was; is_now = there }) at
      (subst (λ (k : Seat). session_ask k s ≡ Add place number) (sym (same_seat opening before session)) asks))
      events (λ f. none))

pub all_share_since : PaperIsSound → PaperHasFloor → ShowsLatches → CountsLatches → AllShareSince
all_share_since paper_sound paper_floor shows counted opening start events session first its guarded held opens became none =
    let k : Seat = seat_at opening.now session in
    let knows = known_now paper_sound paper_floor shows counted opening start events session first its guarded held opens became none in
    record {
      waiting = waits_so k guarded.buckets true (SharesSince its.seen) its knows (λ p so updates prepared. (so updates).since (refl, prepared)) its.step refl;
      in_hand = hand_so k guarded.buckets true (SharesSince its.seen) its knows (inputs_now opening start events session first its guarded opens became) (λ p so updates prepared. (so updates).since (refl, prepared))
          (λ t p same older so. tried_since its.seen t p same older so) its.step refl (tries_share opening start events session first its guarded became);
    }

-- so an older one has come with its share
tries_its : (k : Seat) (s : SessionState) (step : Sitting) → s.step ≡ step → is_attempting step ≡ true → AttemptsSo k s → TriesFor (bits_of k) s.attempt s.attempt.step
tries_its k s (Attempts has_shifted) at attempts so = (attempt_at_call k s has_shifted at so).goes.its_try
tries_its k s (Polls i) at attempts so = (attempt_in_poll k s i at so).goes.its_try
tries_its k s step at attempts so = cc

pub older_come_sharing : PaperIsSound → PaperHasFloor → ShowsLatches → CountsLatches → OlderComeSharing
older_come_sharing paper_sound paper_floor shows counted opening start events session first its guarded held opens became none attempts tries updates less =
    let k : Seat = seat_at opening.now session in
    let knows = known_now paper_sound paper_floor shows counted opening start events session first its guarded held opens became none in
    let known : KnowsSharing k guarded.buckets true its.seen its.attempt attempting.Tries = subst (λ (step : Attempting). KnowsSharing k guarded.buckets true its.seen its.attempt step) tries (knows.attempted attempts).knows in
    let goes : TriesFor (bits_of k) its.attempt attempting.Tries =
    subst (λ (step : Attempting). TriesFor (bits_of k) its.attempt step) tries (tries_its k its its.step refl attempts (inputs_now opening start events session first its guarded opens became)) in
    subst (λ (r : Request). r.has_latch ≡ true) (sym goes.its_request) ((known.1 updates).since (refl, less))
