-- In a life a session that has no update up to a version, from wait-pending of the commit of this number on, gets none any more.
use Rattle.std.proofs.Common.{◌≡◌, ℕ, ◌<◌, ◌≤◌, ◌∙◌, List, [], ◌∷◌, ◌++◌, refl, arith, ap, sym, subst, Bool, true, false}
use Rattle.std.specs.Prelude.{◌==◌, Option, Some, None, slice_get, if◌then◌else◌}
use Rattle.std.proofs.lemmas.Bool.Decides.{nat_tests}
use Rattle.fkv_base.specs.declared.numbers.Version.{Version}
use Rattle.fkv_map.specs.declared.operations.Call.{Call}
use Rattle.fkv_epoch.proofs.Shown.{some_same}
use Rattle.law_refine.specs.Below.fkv_ops.Requests.{is_read}
use Rattle.law_refine.specs.Below.fkv_pending.PendingRequest.{PendingRequest}
use Rattle.fkv_plane.specs.declared.actions.Action.{Action}
use Rattle.fkv_plane.specs.declared.asks.Ask.{Ask}
use Rattle.fkv_plane.specs.declared.asks.Ask.TheVariants.{Load, Store, Swap, Cas, Add, Max, Put, Take, Done}
use Rattle.fkv_plane.specs.Asked.{reply_to}
use Rattle.fkv_plane.specs.Plane.{action_at}
use Rattle.law_refine.specs.Below.fkv_session.Told.{Told}
use Rattle.law_refine.specs.Below.fkv_session.Sitting.{Sitting}
use Rattle.law_refine.specs.Below.fkv_session.Sitting.TheVariants.{Attempts, Polls}
use Rattle.law_refine.specs.Below.fkv_session.Sessions.{IsOpened, Seat, SessionState, session_ask, session_next}
use Rattle.law_refine.specs.Below.fkv_session.SessionRun.{Begins, Gets, Replies, SessionEvent, session_run}
use Rattle.law_refine.specs.Below.fkv_session.Versions.{IsAttemptOfRequest, IsVersion}
use Rattle.law_refine.proofs.Below.fkv_session.Shown.{run_request}
use Rattle.law_refine.specs.Below.fkv_world.Actors.{is_of_session}
use Rattle.law_refine.specs.Below.fkv_world.Moves.{Near}
use Rattle.law_refine.specs.Below.fkv_world.Opened.{HasBecome}
use Rattle.law_refine.specs.Below.fkv_world.OwnEvents.{session_events, session_got, session_part, session_part_found, session_part_of, session_slots, session_steps}
use Rattle.law_refine.specs.Below.fkv_world.Runs.{World, run}
use Rattle.law_refine.specs.Below.fkv_world.World.{Event, Calls, Commits, Crashes, KeeperMoves, Moves, Now, Turns, near, seat_at}
use Rattle.law_refine.proofs.Below.fkv_world.Shown.{session_runs}
use Rattle.law_refine.specs.Below.law_local.Sessions.Known.{is_attempting}
use Rattle.law_refine.proofs.Below.law_world.OfSessions.OwnRun.{of_run, opened_so, to_run}
use Rattle.law_commit.specs.Accepted.{HasRisingVersion}
use Rattle.law_commit.specs.Quiet.{HasNoneUpto, IsLater, IsLiveLater, LiveAreLater, NoneComesBack, OpensQuiet, pending_rank, rank_now}
use Rattle.law_commit.specs.Versions.Requests.{AttemptsSo}
use Rattle.law_commit.proofs.OfPhases.LifeStages.{first_version, rising_version}
use Rattle.law_commit.proofs.OfQuiet.Ranks.{ranks_rise}
use Rattle.law_commit.proofs.OfQuiet.Sessions.{HasNoCall, KnowsLater, Still, TriesLater, WaitsLater, no_calls, one_call}
use Rattle.law_commit.proofs.OfVersions.Requests.{all_so, update_at}

-- ---- a session's part in an event is a call, or has none
got_none : (found : Option Action) → HasNoCall (session_got found)
got_none None = tt
got_none (Some action) = tt

slots_none : (actions : List (Option Action)) (ask : Ask Told) → HasNoCall (session_slots actions ask)
unfolding session_slots
slots_none actions (Put slot action) = tt
slots_none actions (Take slot) = got_none (action_at actions slot)
slots_none actions ask = tt

behind_none : (later : List SessionEvent) (reply : ℕ) → HasNoCall later → HasNoCall (later ++ Replies reply ∷ [])
behind_none [] reply none = tt
behind_none (Begins call ∷ later) reply none = absurd none
behind_none (Replies its ∷ later) reply none = behind_none later reply none
behind_none (Gets action ∷ later) reply none = behind_none later reply none

word_none : (k : Seat) (n : Near SessionState) (ask : Ask Told)
    → HasNoCall (session_slots n.actions (session_ask k (session_next k n.machine (reply_to n.words ask))) ++ Replies (reply_to n.words ask) ∷ [])
word_none k n ask = behind_none (session_slots n.actions (session_ask k (session_next k n.machine (reply_to n.words ask)))) (reply_to n.words ask) (slots_none n.actions (session_ask k (session_next k n.machine (reply_to n.words ask))))

steps_none : (k : Seat) (n : Near SessionState) (ask : Ask Told) → HasNoCall (session_steps k n ask)
unfolding session_steps
steps_none k n (Done its) = tt
steps_none k n (Put slot action) = slots_none n.actions (Put slot action)
steps_none k n (Take slot) = slots_none n.actions (Take slot)
steps_none k n (Load place) = word_none k n (Load place)
steps_none k n (Store place new) = word_none k n (Store place new)
steps_none k n (Swap place new) = word_none k n (Swap place new)
steps_none k n (Cas place old new) = word_none k n (Cas place old new)
steps_none k n (Add place count) = word_none k n (Add place count)
steps_none k n (Max place count) = word_none k n (Max place count)

-- what holds behind a call and behind a list without one holds behind such a part
by_part : (G : List SessionEvent → Type 0) (k : Seat) (n : Near SessionState) (event : Event) → ((call : Call) → G (Begins call ∷ [])) → ((part : List SessionEvent) → HasNoCall part → G part) → G (session_part k n event)
unfolding session_part
by_part G k n (Calls number call) called other = called call
by_part G k n (Moves number) called other = other (session_steps k n (session_ask k n.machine)) (steps_none k n (session_ask k n.machine))
by_part G k n (Commits kind) called other = other [] tt
by_part G k n Turns called other = other [] tt
by_part G k n (KeeperMoves granted done) called other = other [] tt
by_part G k n Crashes called other = other [] tt

pub by_event : (G : List SessionEvent → Type 0) (n : Now) (number : ℕ) (event : Event) → ((call : Call) → G (Begins call ∷ [])) → ((part : List SessionEvent) → HasNoCall part → G part) → G (session_part_of n number event)
by_event G n number event called other = by_crash n.crashed
  where
    by_turn : (s : SessionState) (c : Bool) → G (if c then session_part (seat_at n number) (near n s) event else [])
    by_turn s true = by_part G (seat_at n number) (near n s) event called other
    by_turn s false = other [] tt

    by_found : (found : Option SessionState) → G (session_part_found n number event found)
    by_found None = other [] tt
    by_found (Some s) = by_turn s (is_of_session number event)

    by_crash : (c : Bool) → G (if c then [] else session_part_found n number event (slice_get n.sessions number))
    by_crash true = other [] tt
    by_crash false = by_found (slice_get n.sessions number)

-- ---- what is said of the requests, and what is known of them
module _ (version : ℕ) where
  attempted_so : (s : SessionState) (step : Sitting) → is_attempting step ≡ true → AttemptsSo (IsLater version) s step → TriesLater version s.attempt
  attempted_so s (Attempts has_shifted) attempting so = so
  attempted_so s (Polls index) attempting so = so
  attempted_so s step attempting so = cc

  pub to_known : (s : SessionState) → HasNoneUpto version s → KnowsLater version s
  to_known s none = record {
    waiting = λ index pending got other. update_at (IsLater version) s.requests index pending got none.waiting;
    attempted = λ attempting. attempted_so s s.step attempting none.attempted;
  }

  tries_so : (s : SessionState) (step : Sitting) → (is_attempting step ≡ true → TriesLater version s.attempt) → AttemptsSo (IsLater version) s step
  tries_so s (Attempts has_shifted) tries = tries refl
  tries_so s (Polls index) tries = tries refl
  tries_so s step tries = tt

  -- the request that is polled is of the version of its attempt
  polled_so : (s : SessionState) (i index : ℕ) (pending : PendingRequest) → IsAttemptOfRequest s.requests i s.attempt.pending → i ≡ index → slice_get s.requests index ≡ Some pending → TriesLater version s.attempt → WaitsLater version pending
  polled_so s i index pending its same got tries =
      let it : its.request ≡ pending = some_same its.request pending (sym its.waits ∙ (ap (λ (n : ℕ). slice_get s.requests n) same ∙ got)) in
      subst (WaitsLater version) it (λ updates. subst (λ (v : Version). version < v.0) its.version (tries (ap is_read its.op ∙ updates)))

  other_polls : (i index : ℕ) → (i == index) ≡ false → Polls i ≡ Polls index → ⊥
  other_polls i index other same = let e : i ≡ index = cc in let clash : (i == index) ≡ true = grind (arith, nat_tests, e) in let both : true ≡ false = sym clash ∙ other in cc

  waits_so : (s : SessionState) (step : Sitting) → s.step ≡ step → ((i : ℕ) → s.step ≡ Polls i → IsAttemptOfRequest s.requests i s.attempt.pending) → KnowsLater version s
      → (index : ℕ) (pending : PendingRequest) → slice_get s.requests index ≡ Some pending → WaitsLater version pending
  waits_so s (Polls i) at polls knows index pending got = by_index (i == index) refl
    where
      by_index : (c : Bool) → (i == index) ≡ c → WaitsLater version pending
      by_index true e = polled_so s i index pending (polls i at) (grind (arith, nat_tests, e)) got (knows.attempted (ap is_attempting at))
      by_index false e = knows.waiting index pending got (λ is. other_polls i index e (sym at ∙ is))
  waits_so s step at polls knows index pending got = knows.waiting index pending got (λ is. let clash : step ≡ Polls index = sym at ∙ is in cc)

  pub from_known : (s : SessionState) → ((i : ℕ) → s.step ≡ Polls i → IsAttemptOfRequest s.requests i s.attempt.pending) → KnowsLater version s → HasNoneUpto version s
  from_known s polls knows = record { waiting = all_so (IsLater version) s.requests (waits_so s s.step refl polls knows); attempted = tries_so s s.step (λ attempting. knows.attempted attempting) }

-- ---- a life
module _ (live : LiveAreLater) (opening : World) (start : ℕ) (opens : OpensQuiet opening start) (version session : ℕ) (first : SessionState) (was : slice_get opening.now.sessions session ≡ Some first) where
  abbrev k : Seat
  k = seat_at opening.now session

  abbrev own : List Event → List SessionEvent
  own events = session_events opening session events

  abbrev at : List Event → SessionState
  at events = session_run k first (own events)

  become : (events : List Event) → HasBecome opening events session first (at events)
  become events = record { opened = opens.opened; was = was; is_now = session_runs opening session first events was }

  live_now : (events : List Event) → pending_rank version ≤ rank_now opening events → IsLiveLater version (at events)
  live_now events high = live opening start events version session first (at events) opens (become events) high

  polls_now : (events : List Event) (i : ℕ) → (at events).step ≡ Polls i → IsAttemptOfRequest (at events).requests i (at events).attempt.pending
  polls_now events i polls = run_request k first (own events) i (opened_so opening events session first (at events) (become events)) polls

  event_later : (event : Event) (before : List Event) → pending_rank version ≤ rank_now opening before → KnowsLater version (at before) → KnowsLater version (at (event ∷ before))
  unfolding session_events
  event_later event before high knows =
      let opened : IsOpened first = opened_so opening before session first (at before) (become before) in
      let fit : IsVersion first.seen.version.0 = first_version opening session first (at before) before (become before) opens.seen.rests in
      let rises : HasRisingVersion k first (own (event ∷ before)) = rising_version opening start (event ∷ before) session first (at (event ∷ before)) (become (event ∷ before)) opens.guarded opens.seen.rests in
      let still : Still version k first opened fit (own before) = record { knows = knows; busy = λ busy. live_now before high } in
      by_event (λ (part : List SessionEvent). HasRisingVersion k first (part ++ own before) → KnowsLater version (session_run k first (part ++ own before))) (run opening before).now session event
      (λ call up. one_call version k first opened fit call (own before) (live_now before high) knows)
      (λ part none up. (no_calls version k first opened fit part (own before) none up still).knows) rises

  higher : (low mid high : ℕ) → low ≤ mid → mid ≤ high → low ≤ high
  higher low mid high one other = omega (arith, one, other)

  pub rank_stays : (later before : List Event) → pending_rank version ≤ rank_now opening before → pending_rank version ≤ rank_now opening (later ++ before)
  rank_stays [] before high = high
  rank_stays (event ∷ later) before high =
      higher (pending_rank version) (rank_now opening (later ++ before)) (rank_now opening (event ∷ later ++ before)) (rank_stays later before high) (ranks_rise opening start (later ++ before) event opens)

  known_later : (later before : List Event) → pending_rank version ≤ rank_now opening before → KnowsLater version (at before) → KnowsLater version (at (later ++ before))
  known_later [] before high knows = knows
  known_later (event ∷ later) before high knows = event_later event (later ++ before) (rank_stays later before high) (known_later later before high knows)

  pub none_later : (later before : List Event) → pending_rank version ≤ rank_now opening before → HasNoneUpto version (at before) → HasNoneUpto version (at (later ++ before))
  none_later later before high none = from_known version (at (later ++ before)) (polls_now (later ++ before)) (known_later later before high (to_known version (at before) none))

pub none_comes_back : LiveAreLater → NoneComesBack
none_comes_back live opening start later before version session first its next opens high became none after =
    of_run (HasNoneUpto version) opening (later ++ before) session first next after
    (none_later live opening start opens version session first became.was later before high (to_run (HasNoneUpto version) opening before session first its became none))
