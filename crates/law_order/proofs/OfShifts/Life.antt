-- So no attempt of a life ends as a shift and isn't made again.
use Rattle.std.proofs.Common.{◌≡◌, inl, inr, ℕ, zero, suc, ◌≤◌, ◌∙◌, refl, sym, ap, subst, arith, List, [], ◌∷◌, ◌++◌, Bool, true, false}
use Rattle.std.specs.Prelude.{⊤, ◌||◌, Option, Some, None, if◌then◌else◌, slice_get}
use Rattle.law_commit.specs.Below.fkv_ops.TryAnswer.{TryAnswer}
use Rattle.law_commit.specs.Below.fkv_ops.TryAnswer.TheVariants as tried
use Rattle.law_commit.specs.Below.fkv_ops.Seen.{Seen}
use Rattle.law_commit.specs.Below.fkv_ops.TheTrying.{Trying}
use Rattle.law_commit.specs.Below.fkv_ops.TheTrying.TheVariants as trying
use Rattle.law_commit.specs.Below.fkv_ops.Requests.{is_read}
use Rattle.law_commit.specs.Below.fkv_ops.Trying.{TryState}
use Rattle.law_commit.specs.Below.fkv_pending.TheAttempting.{Attempting}
use Rattle.law_commit.specs.Below.fkv_pending.TheAttempting.TheVariants as attempting
use Rattle.law_commit.specs.Below.fkv_pending.PendingRequest.{PendingRequest}
use Rattle.law_commit.specs.Below.fkv_pending.Attempting.{AttemptState}
use Rattle.fkv_plane.specs.declared.actions.Action.{Action}
use Rattle.fkv_plane.specs.declared.asks.Ask.{Ask}
use Rattle.fkv_plane.specs.declared.asks.Ask.TheVariants.{Add, Cas, Done, Load, Max, Put, Store, Swap, Take}
use Rattle.fkv_plane.specs.declared.places.Places.{Places}
use Rattle.fkv_plane.specs.Asked.{reply_to}
use Rattle.fkv_plane.specs.Plane.{action_at}
use Rattle.law_commit.specs.Below.fkv_session.Told.{Told}
use Rattle.law_commit.specs.Below.fkv_session.Catching.{Catching}
use Rattle.law_commit.specs.Below.fkv_session.Catching.TheVariants as catching
use Rattle.law_commit.specs.Below.fkv_session.CatchCause.TheVariants.{Refreshes, Shifts, Wakes}
use Rattle.law_commit.specs.Below.fkv_session.Sitting.{Sitting}
use Rattle.law_commit.specs.Below.fkv_session.Sitting.TheVariants.{Attempts, CatchesUp, ClearsMail, Idle, Leaves, LoadsDurable, Polls, StoresCut, StoresOwing, Turns}
use Rattle.law_commit.specs.Below.fkv_session.CatchingUp.{CatchState}
use Rattle.law_commit.specs.Below.fkv_session.SessionRun.{Replies, SessionEvent, session_happens, session_run}
use Rattle.law_commit.specs.Below.fkv_session.Sessions.{Seat, SessionState, is_busy, session_ask, session_next}
use Rattle.law_commit.specs.Below.fkv_session.Shares.{AllUpdatesShare}
use Rattle.law_commit.specs.Below.fkv_world.Actors.{is_of_session}
use Rattle.law_commit.specs.Below.fkv_world.Moves.{Near, session_moved}
use Rattle.law_commit.specs.Below.fkv_world.Opened.{HasBecome}
use Rattle.law_commit.specs.Below.fkv_world.OwnEvents.{session_events, session_got, session_part, session_part_found, session_part_of, session_slots, session_steps}
use Rattle.law_commit.specs.Below.fkv_world.Runs.{World, run}
use Rattle.law_commit.specs.Below.fkv_world.World as world
use Rattle.law_commit.specs.Below.fkv_world.World.{Calls, Commits, Crashes, Event, KeeperMoves, Moves, Now, near, seat_at}
use Rattle.law_commit.proofs.Below.fkv_world.Shown.{same_seat, session_runs, session_runs_on}
use Rattle.law_opening.proofs.OfChanges.OfSessions.Calm.{is_calm, not_calm}
use Rattle.law_opening.proofs.OfChanges.OfSessions.Comes.{SessionComes, Stays, Steps, session_comes}
use Rattle.law_opening.proofs.OfChanges.OfSessions.Comes as comes
use Rattle.law_commit.specs.Quiet.{rank_now}
use Rattle.law_commit.specs.Shares.Waiting.{ShareSitting, has_shifted, shifts_at, shifts_by}
use Rattle.law_commit.proofs.OfQuiet.Ranks.{ranks_rise}
use Rattle.law_commit.specs.Below.law_local.Sessions.Known.{is_attempting}
use Rattle.law_log.specs.Enabled.{AreEnabled}
use Rattle.law_order.specs.Apart.Given.{Given}
use Rattle.law_order.specs.Apart.Lives.{AllApartBehind, NoneHasShifted, OpensApart}
use Rattle.law_order.specs.Known.Begins.{BegunLife, home_of_world}
use Rattle.law_order.specs.Known.Knows.{AllKnowBehind}
use Rattle.law_order.specs.Known.Told.{AreToldTruly, reply_in}
use Rattle.law_order.proofs.OfApart.Heart.{became}
use Rattle.law_order.proofs.OfShifts.Attempts.{AttemptRow}
use Rattle.law_order.proofs.OfShifts.Catches.{CatchRow, HasPassed}
use Rattle.law_order.proofs.OfShifts.Calm.{stays_calm}
use Rattle.law_order.proofs.OfShifts.Facts.{replies_so}
use Rattle.law_order.proofs.OfShifts.Sessions.{Come, LeadsRow, RepliesSo, SitsRow, begun_leads, next_leads, none_shifts, settled}
use Rattle.law_order.proofs.OfShifts.Slots.{attempt_puts_none}
use Rattle.law_order.proofs.OfShifts.Tries.{IsShift, ShiftRow}
use Rattle.law_commit.specs.Below.law_refine.Events.GhostEvents.{life_ghosts, mapped}
use Rattle.law_commit.proofs.Below.law_refine.OfRecords.Puts.{is_put}
use Rattle.law_commit.proofs.Below.law_refine.OfSeen.Alone.{moves_alone}
use Rattle.law_commit.proofs.Below.law_refine.OfSeen.There.{there_before}

-- each session's control state tells so of shifts
abbrev pub AllShiftSo : World → List Event → Type 0
AllShiftSo opening events = (session : ℕ) (s : SessionState) → slice_get (run opening events).now.sessions session ≡ Some s → SitsRow (rank_now opening events) (seat_at opening.now session) s s.step

-- ---- as the rank of the phase word rises
shift_on : (X Y F : Type 0) (its : TryAnswer) → (X → Y) → IsShift X F its → IsShift Y F its
shift_on X Y F tried.Shift on so = on so
shift_on X Y F (tried.Done reply) on so = tt
shift_on X Y F (tried.Found value) on so = tt
shift_on X Y F tried.Absent on so = tt
shift_on X Y F (tried.Wait why) on so = tt
shift_on X Y F (tried.AwaitsDisk sought) on so = tt
shift_on X Y F tried.IndexFull on so = so
shift_on X Y F tried.LogFull on so = so

try_on : (X Y F : Type 0) (p : Places) (t : TryState) (step : Trying) → (X → Y) → ShiftRow X F p t step → ShiftRow Y F p t step
try_on X Y F p t (trying.Ended its) on so = shift_on X Y F its on so
try_on X Y F p t (trying.DropsExclusive its) on so = shift_on X Y F its on so
try_on X Y F p t (trying.DropsShared its) on so = shift_on X Y F its on so
try_on X Y F p t trying.TakesShared on (inl adds) = inl adds
try_on X Y F p t trying.TakesShared on (inr x) = inr (on x)
try_on X Y F p t trying.LoadsPhase on so = tt
try_on X Y F p t trying.Walks on so = so
try_on X Y F p t trying.CountsTaken on so = tt
try_on X Y F p t (trying.LoadsSafe addr version) on so = tt
try_on X Y F p t (trying.SwapsValue addr) on so = tt
try_on X Y F p t (trying.LoadsCurrent addr) on so = tt
try_on X Y F p t (trying.ChangesValue addr old) on so = tt
try_on X Y F p t trying.LoadsAnswer on so = tt
try_on X Y F p t (trying.TakesExclusive old) on so = tt
try_on X Y F p t trying.LoadsOld on so = tt
try_on X Y F p t (trying.Appends its) on so = tt
try_on X Y F p t (trying.LoadsTail waiting) on so = tt
try_on X Y F p t (trying.LoadsTaken waiting) on so = tt

attempt_on : (X Y F : Type 0) (C : PendingRequest → Type 0) (p : Places) (a : AttemptState) (step : Attempting) → (X → Y) → AttemptRow X F C p a step → AttemptRow Y F C p a step
attempt_on X Y F C p a (attempting.Ended its) on so = shift_on X Y F its on so
attempt_on X Y F C p a attempting.Looks on so = so
attempt_on X Y F C p a attempting.Tries on so = (so.0, try_on X Y F p a.trial a.trial.step on so.1)
attempt_on X Y F C p a attempting.Puts on so = tt

catch_on : (low high : ℕ) (seen : Seen) (c : CatchState) (step : Catching) → low ≤ high → CatchRow low seen c step → CatchRow high seen c step
catch_on low high seen c catching.Refreshes up so = let passed = so.0.1 in ((so.0.0, omega (arith, passed, up)), so.1)
catch_on low high seen c catching.Protects up so = so
catch_on low high seen c catching.Ended up so = so
catch_on low high seen c catching.StoresCut up so = so
catch_on low high seen c catching.StoresOwing up so = so
catch_on low high seen c (catching.Latches i) up so = so
catch_on low high seen c catching.Finishes up so = so

passed_on : (low high : ℕ) (seen : Seen) → low ≤ high → HasPassed low seen → HasPassed high seen
passed_on low high seen up so = let past = so.1 in (so.0, omega (arith, past, up))

sits_on : (low high : ℕ) (k : Seat) (s : SessionState) (step : Sitting) → low ≤ high → SitsRow low k s step → SitsRow high k s step
sits_on low high k s (Attempts false) up so = record { rests = so.rests; row = attempt_on (HasPassed low s.seen) (HasPassed high s.seen) ⊤ (λ p. ⊤) k.places s.attempt s.attempt.step (passed_on low high s.seen up) so.row }
sits_on low high k s (Attempts true) up so = so
sits_on low high k s (Polls i) up so = so
sits_on low high k s (CatchesUp Shifts) up so = catch_on low high s.seen s.catching s.catching.step up so
sits_on low high k s (CatchesUp Refreshes) up so = tt
sits_on low high k s (CatchesUp Wakes) up so = tt
sits_on low high k s (Idle its) up so = tt
sits_on low high k s ClearsMail up so = tt
sits_on low high k s (StoresOwing i) up so = tt
sits_on low high k s (Turns its) up so = tt
sits_on low high k s StoresCut up so = tt
sits_on low high k s Leaves up so = tt
sits_on low high k s LoadsDurable up so = tt

-- who is calm, or idle, tells nothing
calm_row : (top : ℕ) (k : Seat) (s : SessionState) (step : Sitting) → is_calm step ≡ true → SitsRow top k s step
calm_row top k s (Idle its) calm = tt
calm_row top k s (Turns its) calm = tt
calm_row top k s step calm = cc

-- ---- the events of a session's own that an event is
or_false : (a b : Bool) → a ≡ false → b ≡ false → (a || b) ≡ false
or_false false false one other = refl
or_false true b one other = cc
or_false false true one other = cc

put_none : (k : Seat) (s : SessionState) (step : Sitting) (slot : ℕ) (action : Action) → s.step ≡ step → session_ask k s ≡ Put slot action → shifts_at k s step 0 ≡ false
put_none k s (Attempts true) slot action at asks = let clash : true ≡ false = sym (ap is_put asks) ∙ attempt_puts_none k s s.step (ap is_attempting at) in cc
put_none k s (Polls i) slot action at asks = let clash : true ≡ false = sym (ap is_put asks) ∙ attempt_puts_none k s s.step (ap is_attempting at) in cc
put_none k s step slot action at asks = refl

got_none : (k : Seat) (s : SessionState) (before : List SessionEvent) (found : Option Action) → has_shifted k s before ≡ false → has_shifted k s (session_got found ++ before) ≡ false
unfolding has_shifted
got_none k s before None none = none
got_none k s before (Some action) none = none

slots_none : (actions : List (Option Action)) (k : Seat) (s : SessionState) (before : List SessionEvent) (ask : Ask Told) → session_ask k (session_run k s before) ≡ ask → has_shifted k s before ≡ false → has_shifted k s (session_slots actions ask ++ before) ≡ false
unfolding has_shifted session_slots
slots_none actions k s before (Put slot action) e none = or_false (shifts_at k (session_run k s before) (session_run k s before).step 0) (has_shifted k s before) (put_none k (session_run k s before) (session_run k s before).step slot action refl e) none
slots_none actions k s before (Take slot) e none = got_none k s before (action_at actions slot) none
slots_none actions k s before (Load place) e none = none
slots_none actions k s before (Store place new) e none = none
slots_none actions k s before (Swap place new) e none = none
slots_none actions k s before (Cas place old new) e none = none
slots_none actions k s before (Add place n) e none = none
slots_none actions k s before (Max place n) e none = none
slots_none actions k s before (Done its) e none = none

nothing_none : (k : Seat) (s : SessionState) → has_shifted k s [] ≡ false
unfolding has_shifted
nothing_none k s = refl

one_none : (k : Seat) (s : SessionState) (event : SessionEvent) → shifts_by k s event ≡ false → has_shifted k s (event ∷ []) ≡ false
unfolding has_shifted session_run
one_none k s event none = or_false (shifts_by k s event) false none refl

word_none : (n : Near SessionState) (k : Seat) (ask : Ask Told) → shifts_at k n.machine n.machine.step (reply_to n.words ask) ≡ false
    → has_shifted k n.machine (session_slots n.actions (session_ask k (session_next k n.machine (reply_to n.words ask))) ++ Replies (reply_to n.words ask) ∷ []) ≡ false
unfolding session_run session_happens
word_none n k ask none = slots_none n.actions k n.machine (Replies (reply_to n.words ask) ∷ []) (session_ask k (session_next k n.machine (reply_to n.words ask))) refl (one_none k n.machine (Replies (reply_to n.words ask)) none)

only_none : (n : Near SessionState) (k : Seat) (ask : Ask Told) → session_ask k n.machine ≡ ask → has_shifted k n.machine (session_slots n.actions ask ++ []) ≡ false
unfolding session_run
only_none n k ask e = slots_none n.actions k n.machine [] ask e (nothing_none k n.machine)

got_first : (k : Seat) (s : SessionState) (found : Option Action) → has_shifted k s (session_got found) ≡ false
unfolding has_shifted
got_first k s None = refl
got_first k s (Some action) = refl

steps_none : (n : Near SessionState) (k : Seat) (ask : Ask Told) → session_ask k n.machine ≡ ask → shifts_at k n.machine n.machine.step (reply_to n.words ask) ≡ false → has_shifted k n.machine (session_steps k n ask) ≡ false
unfolding session_steps session_slots has_shifted session_run
steps_none n k (Done its) e none = refl
steps_none n k (Put slot action) e none = only_none n k (Put slot action) e
steps_none n k (Take slot) e none = got_first k n.machine (action_at n.actions slot)
steps_none n k (Load place) e none = word_none n k (Load place) none
steps_none n k (Store place new) e none = word_none n k (Store place new) none
steps_none n k (Swap place new) e none = word_none n k (Swap place new) none
steps_none n k (Cas place old new) e none = word_none n k (Cas place old new) none
steps_none n k (Add place count) e none = word_none n k (Add place count) none
steps_none n k (Max place count) e none = word_none n k (Max place count) none

part_none : (n : Near SessionState) (k : Seat) (event : Event) → shifts_at k n.machine n.machine.step (reply_to n.words (session_ask k n.machine)) ≡ false → has_shifted k n.machine (session_part k n event) ≡ false
unfolding session_part has_shifted
part_none n k (Calls number call) none = refl
part_none n k (Moves number) none = steps_none n k (session_ask k n.machine) refl none
part_none n k (Commits kind) none = refl
part_none n k world.Turns none = refl
part_none n k (KeeperMoves granted done) none = refl
part_none n k Crashes none = refl

either_none : (c : Bool) (k : Seat) (s : SessionState) (a b : List SessionEvent) → has_shifted k s a ≡ false → has_shifted k s b ≡ false → has_shifted k s (if c then a else b) ≡ false
either_none true k s a b one other = one
either_none false k s a b one other = other

found_none : (n : Now) (k : Seat) (s : SessionState) (session : ℕ) (event : Event) (found : Option SessionState) → found ≡ Some s → seat_at n session ≡ k → shifts_at k s s.step (reply_to n.words (session_ask k s)) ≡ false
    → has_shifted k s (if n.crashed then [] else session_part_found n session event found) ≡ false
found_none n k s session event found e seat none =
    rw (e, seat) (either_none n.crashed k s [] (if is_of_session session event then session_part k (near n s) event else []) (nothing_none k s)
    (either_none (is_of_session session event) k s (session_part k (near n s) event) [] (part_none (near n s) k event none) (nothing_none k s)))

joined_none : (k : Seat) (first : SessionState) (later before : List SessionEvent) → has_shifted k first before ≡ false → has_shifted k (session_run k first before) later ≡ false → has_shifted k first (later ++ before) ≡ false
unfolding has_shifted
joined_none k first [] before past none = past
joined_none k first (event ∷ later) before past none =
    let both = split (shifts_by k (session_run k (session_run k first before) later) event) (has_shifted k (session_run k first before) later) none in
    or_false (shifts_by k (session_run k first (later ++ before)) event) (has_shifted k first (later ++ before)) (subst (λ (s : SessionState). shifts_by k s event ≡ false) (sym (session_runs_on k first later before)) both.0) (joined_none k first later before past both.1)
  where
    split : (a b : Bool) → (a || b) ≡ false → (a ≡ false) × (b ≡ false)
    split true b e = cc
    split false b e = (refl, e)

-- ---- what waits shares in prepare
all_come : (requests : List PendingRequest) (index : ℕ) (pending : PendingRequest) → slice_get requests index ≡ Some pending → AllUpdatesShare requests → is_read pending.request.op ≡ false → pending.request.has_latch ≡ true
all_come [] index pending got all update = cc
all_come (p ∷ rest) zero pending got all update = let same : p ≡ pending = cc in subst (λ (x : PendingRequest). is_read x.request.op ≡ false → x.request.has_latch ≡ true) same all.0 update
all_come (p ∷ rest) (suc i) pending got all update = all_come rest i pending got all.1 update

polls_come : (s : SessionState) (step : Sitting) (i index : ℕ) (pending : PendingRequest) → step ≡ Polls i → ShareSitting s step → slice_get s.requests index ≡ Some pending → Come s.seen pending
polls_come s (Polls j) i index pending at shares got prepares update = all_come s.requests index pending got (shares prepares) update
polls_come s step i index pending at shares got prepares update = cc

-- ---- as a life begins
idle_row : (top : ℕ) (k : Seat) (s : SessionState) (step : Sitting) → is_busy step ≡ false → SitsRow top k s step
idle_row top k s (Idle its) idle = tt
idle_row top k s step idle = cc

pub shifts_first : (life : BegunLife) → AllShiftSo life.opening []
unfolding run
shifts_first life session s found = idle_row (rank_now life.opening []) (seat_at life.opening.now session) s s.step (life.begins.world.sessions session s found).none_in_hand

-- ---- by an event
module _ (given : Given) (life : BegunLife) (apart : OpensApart life) (before : List Event) (event : Event) (enabled : AreEnabled (home_of_world life.opening) life.ghosts (mapped life.opening before)) (known : AllKnowBehind life.opening life.ghosts before)
    (told : AreToldTruly (home_of_world life.opening) (life_ghosts life.opening life.ghosts before).log (run life.opening before).now) (all_apart : AllApartBehind life.opening life.ghosts before) (shifts : AllShiftSo life.opening before)
    (none : NoneHasShifted life.opening before) where
  abbrev N : Now
  N = (run life.opening before).now

  same_so : (session : ℕ) → seat_at N session ≡ seat_at life.opening.now session
  same_so session = same_seat life.opening before session

  replied_so : (session : ℕ) (s : SessionState) → slice_get N.sessions session ≡ Some s → RepliesSo (rank_now life.opening before) (seat_at N session) s (reply_in N session s)
  replied_so session s found = replies_so given life apart before enabled known told all_apart session s found

  row_here : (session : ℕ) (s : SessionState) → slice_get N.sessions session ≡ Some s → SitsRow (rank_now life.opening before) (seat_at N session) s s.step
  row_here session s found = subst (λ (k : Seat). SitsRow (rank_now life.opening before) k s s.step) (sym (same_so session)) (shifts session s found)

  pub none_then : NoneHasShifted life.opening (event ∷ before)
  unfolding session_events
  none_then session first was =
      let k : Seat = seat_at life.opening.now session in
      let s : SessionState = session_run k first (session_events life.opening session before) in
      let there = session_runs life.opening session first before was in
      let here : shifts_at (seat_at N session) s s.step (reply_in N session s) ≡ false = none_shifts (rank_now life.opening before) (seat_at N session) s (reply_in N session s) (replied_so session s there) (row_here session s there) in
      let now : shifts_at k s s.step (reply_to N.words (session_ask k s)) ≡ false = subst (λ (x : Seat). shifts_at x s s.step (reply_to N.words (session_ask x s)) ≡ false) (same_so session) here in
      joined_none k first (session_part_of N session event) (session_events life.opening session before) (none session first was) (found_none N k s session event (slice_get N.sessions session) there (same_so session) now)

  pub shifts_then : AllShiftSo life.opening (event ∷ before)
  unfolding run
  shifts_then session after is_now =
      let was = there_before (run life.opening before) event session after is_now in
      by_state was.0 was.1
    where
      up : rank_now life.opening before ≤ rank_now life.opening (event ∷ before)
      up = ranks_rise life.opening life.start before event apart.quiet

      k : Seat
      k = seat_at N session

      raised : (t : SessionState) → SitsRow (rank_now life.opening before) k t t.step → SitsRow (rank_now life.opening (event ∷ before)) (seat_at life.opening.now session) t t.step
      raised t row = sits_on (rank_now life.opening before) (rank_now life.opening (event ∷ before)) (seat_at life.opening.now session) t t.step up (subst (λ (x : Seat). SitsRow (rank_now life.opening before) x t t.step) (same_so session) row)

      -- what waits then has come
      come : (i index : ℕ) (pending : PendingRequest) → after.step ≡ Polls i → slice_get after.requests index ≡ Some pending → Come after.seen pending
      come i index pending at got = polls_come after after.step i index pending at shares got
        where
          shares : ShareSitting after after.step
          shares =
              let first = first_of in
              given.prepare life.opening life.start (event ∷ before) session first.0 after apart.quiet.guarded apart.latches apart.quiet.seen first.1 (none_then session first.0 first.1.was)
            where
              first_of : (first : SessionState) × HasBecome life.opening (event ∷ before) session first after
              first_of = became given life apart (event ∷ before) session after is_now

      led : (t : SessionState) → after ≡ t → LeadsRow (rank_now life.opening before) k t t.step → SitsRow (rank_now life.opening (event ∷ before)) (seat_at life.opening.now session) after after.step
      led t is row =
          let here : LeadsRow (rank_now life.opening before) k after after.step = subst (λ (x : SessionState). LeadsRow (rank_now life.opening before) k x x.step) (sym is) row in
          raised after (settled (rank_now life.opening before) k after after.step refl come here)

      by_state : (s : SessionState) → slice_get N.sessions session ≡ Some s → SitsRow (rank_now life.opening (event ∷ before)) (seat_at life.opening.now session) after after.step
      by_state s was = by_event (session_comes (run life.opening before) event session s after was is_now)
        where
          moved : (calm : Bool) → is_calm s.step ≡ calm → after ≡ (session_moved k (near N s)).machine → SitsRow (rank_now life.opening (event ∷ before)) (seat_at life.opening.now session) after after.step
          moved true e is = calm_row (rank_now life.opening (event ∷ before)) (seat_at life.opening.now session) after after.step (ap (λ (x : SessionState). is_calm x.step) is ∙ stays_calm k (near N s) e)
          moved false e is =
              let busy = not_calm s.step e in
              led (session_next k s (reply_in N session s)) (is ∙ ap (λ (x : Near SessionState). x.machine) (moves_alone life.opening life.start before session s life.begins.store.now was busy.0 busy.1))
              (next_leads (rank_now life.opening before) k s (reply_in N session s) (replied_so session s was) (row_here session s was))

          by_event : SessionComes (run life.opening before) session s after → SitsRow (rank_now life.opening (event ∷ before)) (seat_at life.opening.now session) after after.step
          by_event (Stays is) = raised after (subst (λ (x : SessionState). SitsRow (rank_now life.opening before) k x x.step) (sym is) (row_here session s was))
          by_event (comes.Begins its idle is) = led _ is (begun_leads (rank_now life.opening before) k s its)
          by_event (Steps is) = moved (is_calm s.step) refl is
