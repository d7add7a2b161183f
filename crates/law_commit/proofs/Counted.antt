-- A session's serial counts the updates that it has accepted, each with the version that it was accepted at.
use Rattle.std.proofs.Common.{◌≡◌, ℕ, ◌+◌, ◌≤◌, ◌⊎◌, inl, inr, ◌∙◌, List, [], ◌∷◌, length, refl, arith, ap, sym, subst, Bool, true, false}
use Rattle.std.specs.Prelude.{Option, Some, None, ◌==◌, nat_le, slice_get}
use Rattle.std.proofs.lemmas.Bool.Decides.{nat_tests}
use Rattle.fkv_map.specs.declared.operations.Op.{Op}
use Rattle.fkv_map.specs.declared.operations.Call.{Call}
use Rattle.fkv_plane.specs.declared.actions.Action.{Action}
use Rattle.fkv_plane.specs.declared.asks.Ask.{Ask}
use Rattle.fkv_plane.specs.declared.asks.Ask.TheVariants.{Done}
use Rattle.law_refine.specs.Below.fkv_session.CatchCause.{CatchCause}
use Rattle.law_refine.specs.Below.fkv_session.CatchCause.TheVariants.{Refreshes, Wakes, Shifts}
use Rattle.law_refine.specs.Below.fkv_session.Sitting.{Sitting}
use Rattle.law_refine.specs.Below.fkv_session.Sitting.TheVariants.{Idle, Attempts, CatchesUp, ClearsMail, Polls, StoresOwing, Turns, StoresCut, Leaves, LoadsDurable}
use Rattle.law_refine.specs.Below.fkv_session.Replies.{op_called}
use Rattle.law_refine.specs.Below.fkv_session.Sessions.{SessionState, Seat, IsOpened, is_busy, asks_after, is_word_ask, caught_up, catch_ledto, session_ask, sitting_next, sitting_given}
use Rattle.law_refine.specs.Below.fkv_session.SessionRun.{SessionEvent, Begins, Replies, Gets, begins, session_happens, session_run}
use Rattle.law_refine.specs.Below.fkv_session.Versions.{TakenAt, taken_by, versions_taken}
use Rattle.law_refine.proofs.Below.fkv_session.Shown.{run_call}
use Rattle.law_refine.specs.Below.fkv_world.Opened.{HasBecome}
use Rattle.law_refine.specs.Below.fkv_world.OwnEvents.{session_events}
use Rattle.law_refine.specs.Below.fkv_world.Runs.{World}
use Rattle.law_refine.specs.Below.fkv_world.World.{Event, seat_at}
use Rattle.law_refine.proofs.Below.law_world.OfSessions.OwnRun.{opened_so, of_run}
use Rattle.law_commit.specs.Accepted.{versions_of, versions_found, versions_accepted, count_upto, point, NeverFall, HasRisingVersion}
use Rattle.law_commit.specs.LastSerials.{serial_of, serial_at}
use Rattle.law_commit.proofs.Goes.{attempts_calm, call_calm, moves_on, given_on}

-- a reply by which the next serial is taken, at a call's attempt
abbrev pub Takes : SessionState → SessionEvent → ℕ → Type 0
Takes s (Replies reply) n = (has_shifted : Bool) × (s.step ≡ Attempts has_shifted) × (n ≡ s.serial + 1)
Takes s event n = ⊥

-- where it catches up it takes none
caught_up_serial : (k : Seat) (s : SessionState) (cause : CatchCause) → (caught_up k s cause).serial ≡ s.serial
caught_up_serial k s Refreshes = refl
caught_up_serial k s Wakes = refl
caught_up_serial k s Shifts = (attempts_calm k s true).serial

catch_serial : (k : Seat) (s : SessionState) (cause : CatchCause) (ask : Ask (Unit {0})) → (catch_ledto k s cause ask).serial ≡ s.serial
unfolding catch_ledto
catch_serial k s cause (Done through) = caught_up_serial k (record s { seen = s.catching.seen }) cause
catch_serial k s cause ask = refl

catching_serial : (k : Seat) (s : SessionState) (asks : ℕ) (cause : CatchCause) (reply : ℕ) → (sitting_next k (record s { asks = asks; effect = None }) (CatchesUp cause) reply).serial ≡ s.serial
unfolding sitting_next
catching_serial k s asks cause reply = catch_serial k _ cause _

next_serial : (k : Seat) (s : SessionState) (asks : ℕ) (step : Sitting) (reply : ℕ) → s.step ≡ step
    → ((sitting_next k (record s { asks = asks; effect = None }) step reply).serial ≡ s.serial) ⊎ Takes s (Replies reply) (sitting_next k (record s { asks = asks; effect = None }) step reply).serial
next_serial k s asks (Idle told) reply e = inl (moves_on k s asks (Idle told) reply e).serial
next_serial k s asks (Attempts has_shifted) reply e = elim (moves_on k s asks (Attempts has_shifted) reply e).serial [
  | inl same ↦ inl same
  | inr next ↦ inr (has_shifted, e, next)
]
next_serial k s asks (CatchesUp cause) reply e = inl (catching_serial k s asks cause reply)
next_serial k s asks ClearsMail reply e = inl (moves_on k s asks ClearsMail reply e).serial
next_serial k s asks (Polls i) reply e = inl (moves_on k s asks (Polls i) reply e).serial
next_serial k s asks (StoresOwing i) reply e = inl (moves_on k s asks (StoresOwing i) reply e).serial
next_serial k s asks (Turns told) reply e = inl (moves_on k s asks (Turns told) reply e).serial
next_serial k s asks StoresCut reply e = inl (moves_on k s asks StoresCut reply e).serial
next_serial k s asks Leaves reply e = inl (moves_on k s asks Leaves reply e).serial
next_serial k s asks LoadsDurable reply e = inl (moves_on k s asks LoadsDurable reply e).serial

same_serial : (a s : SessionState) → a ≡ s → a.serial ≡ s.serial
same_serial a s same = ap (λ (x : SessionState). x.serial) same

given_serial : (k : Seat) (s : SessionState) (step : Sitting) (action : Action) → s.step ≡ step → (sitting_given k s step action).serial ≡ s.serial
given_serial k s (Turns told) action e = (given_on k s (Turns told) action e).serial
given_serial k s (Idle told) action e = same_serial _ s (given_on k s (Idle told) action e)
given_serial k s (Attempts has_shifted) action e = same_serial _ s (given_on k s (Attempts has_shifted) action e)
given_serial k s (CatchesUp cause) action e = same_serial _ s (given_on k s (CatchesUp cause) action e)
given_serial k s ClearsMail action e = same_serial _ s (given_on k s ClearsMail action e)
given_serial k s (Polls i) action e = same_serial _ s (given_on k s (Polls i) action e)
given_serial k s (StoresOwing i) action e = same_serial _ s (given_on k s (StoresOwing i) action e)
given_serial k s StoresCut action e = same_serial _ s (given_on k s StoresCut action e)
given_serial k s Leaves action e = same_serial _ s (given_on k s Leaves action e)
given_serial k s LoadsDurable action e = same_serial _ s (given_on k s LoadsDurable action e)

begins_serial : (k : Seat) (s : SessionState) (call : Call) (busy : Bool) → (begins k s busy call).serial ≡ s.serial
begins_serial k s call true = refl
begins_serial k s call false = (call_calm k (record s { asks = 0; effect = None; wants_turn = false }) call).serial

event_serial : (k : Seat) (s : SessionState) (event : SessionEvent) → ((session_happens k s event).serial ≡ s.serial) ⊎ Takes s event (session_happens k s event).serial
unfolding session_happens
event_serial k s (Begins call) = inl (begins_serial k s call (is_busy s.step))
event_serial k s (Replies reply) = next_serial k s (asks_after s.asks (is_word_ask (session_ask k s))) s.step reply refl
event_serial k s (Gets action) = inl (given_serial k s s.step action refl)

-- what is taken by an event
pub none_taken : (a : SessionState) (n : ℕ) (called : Option Op) (taken : List TakenAt) → a.serial ≡ n → taken_by n a called taken ≡ taken
none_taken a n called taken same = let equal : (a.serial == n) ≡ true = grind (arith, nat_tests, same) in rw equal refl

pub one_taken : (a : SessionState) (n : ℕ) (op : Op) (called : Option Op) (taken : List TakenAt) → a.serial ≡ n + 1 → called ≡ Some op → versions_of (taken_by n a called taken) ≡ a.seen.version.0 ∷ versions_of taken
one_taken a n op called taken next its = let other : (a.serial == n) ≡ false = grind (arith, nat_tests, next) in rw other (rw its refl)

counted_by : (k : Seat) (first : SessionState) (event : SessionEvent) (before : List SessionEvent) → IsOpened first
    → (session_run k first before).serial ≡ first.serial + length (versions_of (versions_taken k first before))
    → ((session_run k first (event ∷ before)).serial ≡ (session_run k first before).serial) ⊎ Takes (session_run k first before) event (session_run k first (event ∷ before)).serial
    → (session_run k first (event ∷ before)).serial ≡ first.serial + length (versions_of (versions_taken k first (event ∷ before)))
unfolding versions_taken op_called
counted_by k first event before opened was (inl same) = same ∙ (was ∙ ap (λ (x : List TakenAt). first.serial + length (versions_of x)) (sym (none_taken (session_run k first (event ∷ before)) (session_run k first before).serial _ (versions_taken k first before) same)))
counted_by k first (Replies reply) before opened was (inr takes) =
    let a : SessionState = session_run k first (Replies reply ∷ before) in
    let next = takes.2 in
    let more = one_taken a (session_run k first before).serial _ (op_called k first before) (versions_taken k first before) next (run_call k first before takes.0 opened takes.1).op in
    rw more (omega (arith, was, next))
counted_by k first (Begins call) before opened was (inr takes) = absurd takes
counted_by k first (Gets action) before opened was (inr takes) = absurd takes

pub run_moves : (k : Seat) (first : SessionState) (event : SessionEvent) (before : List SessionEvent)
    → ((session_run k first (event ∷ before)).serial ≡ (session_run k first before).serial) ⊎ Takes (session_run k first before) event (session_run k first (event ∷ before)).serial
unfolding session_run
run_moves k first event before = event_serial k (session_run k first before) event

pub run_counted : (k : Seat) (first : SessionState) (events : List SessionEvent) → IsOpened first → (session_run k first events).serial ≡ first.serial + length (versions_of (versions_taken k first events))
unfolding session_run versions_taken
run_counted k first [] opened = omega arith
run_counted k first (event ∷ before) opened = counted_by k first event before opened (run_counted k first before opened) (run_moves k first event before)

-- where the session's version never falls
below : (low high : ℕ) (versions : List ℕ) → low ≤ high → NeverFall low versions → NeverFall high versions
below low high [] up falls = tt
below low high (version ∷ before) up falls = let one = falls.0 in (omega (arith, up, one), falls.1)

risen_by : (k : Seat) (first : SessionState) (event : SessionEvent) (before : List SessionEvent) → IsOpened first
    → (session_run k first before).seen.version.0 ≤ (session_run k first (event ∷ before)).seen.version.0
    → NeverFall (session_run k first before).seen.version.0 (versions_of (versions_taken k first before))
    → ((session_run k first (event ∷ before)).serial ≡ (session_run k first before).serial) ⊎ Takes (session_run k first before) event (session_run k first (event ∷ before)).serial
    → NeverFall (session_run k first (event ∷ before)).seen.version.0 (versions_of (versions_taken k first (event ∷ before)))
unfolding versions_taken op_called
risen_by k first event before opened up was (inl same) =
    let a : SessionState = session_run k first (event ∷ before) in
    subst (λ (x : List TakenAt). NeverFall a.seen.version.0 (versions_of x)) (sym (none_taken a (session_run k first before).serial _ (versions_taken k first before) same)) (below _ _ _ up was)
risen_by k first (Replies reply) before opened up was (inr takes) =
    let a : SessionState = session_run k first (Replies reply ∷ before) in
    let more = one_taken a (session_run k first before).serial _ (op_called k first before) (versions_taken k first before) takes.2 (run_call k first before takes.0 opened takes.1).op in
    rw more (omega arith, below _ _ _ up was)
risen_by k first (Begins call) before opened up was (inr takes) = absurd takes
risen_by k first (Gets action) before opened up was (inr takes) = absurd takes

pub run_risen : (k : Seat) (first : SessionState) (events : List SessionEvent) → IsOpened first → HasRisingVersion k first events → NeverFall (session_run k first events).seen.version.0 (versions_of (versions_taken k first events))
unfolding versions_taken HasRisingVersion
run_risen k first [] opened rises = tt
run_risen k first (event ∷ before) opened rises = risen_by k first event before opened rises.0 (run_risen k first before opened rises.1) (run_moves k first event before)

pub all_upto : (last version : ℕ) (versions : List ℕ) → last ≤ version → NeverFall last versions → count_upto version versions ≡ length versions
all_upto last version [] up falls = refl
all_upto last version (its ∷ before) up falls =
    let one = falls.0 in
    let rest = all_upto its version before (omega (arith, one, up)) falls.1 in
    let counts : nat_le its version ≡ true = grind (arith, nat_tests, one, up) in
    rw counts (omega (arith, rest))

-- of a life
pub found_so : (opening : World) (events : List Event) (session : ℕ) (first : SessionState) → slice_get opening.now.sessions session ≡ Some first
    → versions_accepted opening events session ≡ versions_of (versions_taken (seat_at opening.now session) first (session_events opening session events))
found_so opening events session first found = ap (versions_found opening events session) found

pub life_counted : (opening : World) (events : List Event) (session : ℕ) (first its : SessionState) → HasBecome opening events session first its
    → its.serial ≡ serial_at opening.now session + length (versions_accepted opening events session)
life_counted opening events session first its became =
    let found = found_so opening events session first became.was in
    let start : serial_at opening.now session ≡ first.serial = ap serial_of became.was in
    rw (found, start)
    (of_run (λ s. s.serial ≡ first.serial + length (versions_of (versions_taken (seat_at opening.now session) first (session_events opening session events)))) opening events session first its became
    (run_counted (seat_at opening.now session) first (session_events opening session events) (opened_so opening events session first its became)))

pub life_risen : (opening : World) (events : List Event) (session : ℕ) (first its : SessionState) → HasBecome opening events session first its
    → HasRisingVersion (seat_at opening.now session) first (session_events opening session events) → NeverFall its.seen.version.0 (versions_accepted opening events session)
life_risen opening events session first its became rises =
    rw (found_so opening events session first became.was)
    (of_run (λ s. NeverFall s.seen.version.0 (versions_of (versions_taken (seat_at opening.now session) first (session_events opening session events)))) opening events session first its became
    (run_risen (seat_at opening.now session) first (session_events opening session events) (opened_so opening events session first its became) rises))

pub life_point : (opening : World) (events : List Event) (session : ℕ) (first its : SessionState) (version : ℕ) → HasBecome opening events session first its
    → HasRisingVersion (seat_at opening.now session) first (session_events opening session events) → its.seen.version.0 ≤ version → point opening events session version ≡ its.serial
life_point opening events session first its version became rises up =
    ap (λ (n : ℕ). serial_at opening.now session + n) (all_upto its.seen.version.0 version (versions_accepted opening events session) up (life_risen opening events session first its became rises))
    ∙ sym (life_counted opening events session first its became)
