-- In prepare each update that waits shares its latch, since no share that is taken with the phase meets bit 63.
use Rattle.std.proofs.Common.{◌≡◌, ◌⊎◌, inl, inr, ℕ, ◌∙◌, refl, sym, subst, List, [], ◌∷◌, ◌++◌, Bool, true, false}
use Rattle.std.specs.Prelude.{Option, Some, None, if◌then◌else◌, ⊤, ◌||◌, slice_get}
use Rattle.fkv_plane.specs.declared.actions.Action.{Action}
use Rattle.fkv_plane.specs.declared.asks.Ask.{Ask}
use Rattle.fkv_plane.specs.declared.asks.Ask.TheVariants.{Load, Store, Swap, Cas, Add, Max, Put, Take, Done}
use Rattle.fkv_plane.specs.Asked.{reply_to, word_at}
use Rattle.fkv_plane.specs.Plane.{action_at}
use Rattle.fkv_latch.specs.Latching.{is_exclusive}
use Rattle.law_refine.specs.Below.fkv_ops.TryAnswer.{TryAnswer}
use Rattle.law_refine.specs.Below.fkv_ops.TryAnswer.TheVariants as tried
use Rattle.law_refine.specs.Below.fkv_session.Told.{Told}
use Rattle.law_refine.specs.Below.fkv_session.Sitting.{Sitting}
use Rattle.law_refine.specs.Below.fkv_session.Sitting.TheVariants.{Idle, Attempts, CatchesUp, ClearsMail, Polls, StoresOwing, Turns, StoresCut, Leaves, LoadsDurable}
use Rattle.law_refine.specs.Below.fkv_session.SessionRun.{SessionEvent, Begins, Replies, Gets, session_happens, session_run}
use Rattle.law_refine.specs.Below.fkv_session.Sessions.{SessionState, Seat, attempt_ledto, attempt_moved, asks_after, is_word_ask, session_ask, session_next, sitting_next}
use Rattle.law_refine.specs.Below.fkv_session.Shares.{HasItsBuckets, attempt_told, has_missed, is_shift, meets_exclusive, misses, misses_at}
use Rattle.law_refine.proofs.Below.fkv_session.Shown.{StepLatched, run_latched}
use Rattle.law_refine.specs.Below.fkv_world.Actors.{is_of_session}
use Rattle.law_refine.specs.Below.fkv_world.Moves.{Near}
use Rattle.law_refine.specs.Below.fkv_world.OwnEvents.{session_events, session_got, session_part, session_part_found, session_part_of, session_slots, session_steps}
use Rattle.law_refine.specs.Below.fkv_world.Runs.{World, run}
use Rattle.law_refine.specs.Below.fkv_world.World as world
use Rattle.law_refine.specs.Below.fkv_world.World.{Event, Calls, Moves, Commits, KeeperMoves, Crashes, Now, near, seat_at}
use Rattle.law_refine.proofs.Below.fkv_world.Shown.{same_seat, session_runs, session_runs_on}
use Rattle.law_commit.specs.Shares.Waiting.{has_shifted, is_shifted, shifts_at, shifts_by}

-- ---- no share that is taken with a phase meets bit 63
abbrev pub MeetsNot : Seat → SessionState → Sitting → ℕ → Type 0
MeetsNot k s (CatchesUp cause) reply = meets_exclusive (session_ask k s) reply ≡ false
MeetsNot k s step reply = ⊤

abbrev pub MeetsNotBy : Seat → SessionState → SessionEvent → Type 0
MeetsNotBy k s (Replies reply) = MeetsNot k s s.step reply
MeetsNotBy k s event = ⊤

unfoldable pub MeetNone : Seat → SessionState → List SessionEvent → Type 0
MeetNone k s [] = ⊤
MeetNone k s (event ∷ before) = MeetsNotBy k (session_run k s before) event × MeetNone k s before

-- so it is where a session makes its step
abbrev pub NoneIsMet : List ℕ → Seat → SessionState → Type 0
NoneIsMet words k s = (cause : _) (place number : ℕ) → s.step ≡ CatchesUp cause → session_ask k s ≡ Add place number → is_exclusive (word_at words place) ≡ false

meets_by : (words : List ℕ) (ask : Ask Told) → ((place number : ℕ) → ask ≡ Add place number → is_exclusive (word_at words place) ≡ false) → meets_exclusive ask (reply_to words ask) ≡ false
meets_by words (Add place number) none = none place number refl
meets_by words ask none = refl

sits_not : (k : Seat) (s : SessionState) (step : Sitting) (reply : ℕ) → ((cause : _) → step ≡ CatchesUp cause → meets_exclusive (session_ask k s) reply ≡ false) → MeetsNot k s step reply
sits_not k s (CatchesUp cause) reply none = none cause refl
sits_not k s (Idle told) reply none = tt
sits_not k s (Attempts has_shifted) reply none = tt
sits_not k s ClearsMail reply none = tt
sits_not k s (Polls i) reply none = tt
sits_not k s (StoresOwing i) reply none = tt
sits_not k s (Turns told) reply none = tt
sits_not k s StoresCut reply none = tt
sits_not k s Leaves reply none = tt
sits_not k s LoadsDurable reply none = tt

replied_so : (words : List ℕ) (k : Seat) (s : SessionState) (ask : Ask Told) → session_ask k s ≡ ask → NoneIsMet words k s → MeetsNot k s s.step (reply_to words ask)
replied_so words k s ask e none =
    sits_not k s s.step (reply_to words ask)
    (λ cause at. subst (λ (x : Ask Told). meets_exclusive x (reply_to words ask) ≡ false) (sym e) (meets_by words ask (λ place number same. none cause place number at (e ∙ same))))

put_so : (k : Seat) (s : SessionState) (slot : ℕ) (action : Action) → session_ask k s ≡ Put slot action → MeetsNot k s s.step 0
put_so k s slot action e = sits_not k s s.step 0 (λ cause at. subst (λ (x : Ask Told). meets_exclusive x 0 ≡ false) (sym e) refl)

got_all : (k : Seat) (s : SessionState) (before : List SessionEvent) (found : Option Action) → MeetNone k s before → MeetNone k s (session_got found ++ before)
unfolding MeetNone
got_all k s before None meet = meet
got_all k s before (Some action) meet = (tt, meet)

slots_all : (actions : List (Option Action)) (k : Seat) (s : SessionState) (before : List SessionEvent) (ask : Ask Told) → session_ask k (session_run k s before) ≡ ask → MeetNone k s before → MeetNone k s (session_slots actions ask ++ before)
unfolding MeetNone session_slots
slots_all actions k s before (Put slot action) e meet = (put_so k (session_run k s before) slot action e, meet)
slots_all actions k s before (Take slot) e meet = got_all k s before (action_at actions slot) meet
slots_all actions k s before (Load place) e meet = meet
slots_all actions k s before (Store place new) e meet = meet
slots_all actions k s before (Swap place new) e meet = meet
slots_all actions k s before (Cas place old new) e meet = meet
slots_all actions k s before (Add place n) e meet = meet
slots_all actions k s before (Max place n) e meet = meet
slots_all actions k s before (Done its) e meet = meet

nothing_met : (k : Seat) (s : SessionState) → MeetNone k s []
unfolding MeetNone
nothing_met k s = tt

word_all : (n : Near SessionState) (k : Seat) (ask : Ask Told) → session_ask k n.machine ≡ ask → NoneIsMet n.words k n.machine
    → MeetNone k n.machine (session_slots n.actions (session_ask k (session_next k n.machine (reply_to n.words ask))) ++ Replies (reply_to n.words ask) ∷ [])
unfolding MeetNone session_run session_happens
word_all n k ask e none =
    slots_all n.actions k n.machine (Replies (reply_to n.words ask) ∷ []) (session_ask k (session_next k n.machine (reply_to n.words ask))) refl (replied_so n.words k n.machine ask e none, tt)

only_slots : (n : Near SessionState) (k : Seat) (ask : Ask Told) → session_ask k n.machine ≡ ask → MeetNone k n.machine (session_slots n.actions ask ++ [])
unfolding session_run
only_slots n k ask e = slots_all n.actions k n.machine [] ask e (nothing_met k n.machine)

got_one : (k : Seat) (s : SessionState) (found : Option Action) → MeetNone k s (session_got found)
unfolding MeetNone
got_one k s None = tt
got_one k s (Some action) = (tt, tt)

steps_all : (n : Near SessionState) (k : Seat) (ask : Ask Told) → session_ask k n.machine ≡ ask → NoneIsMet n.words k n.machine → MeetNone k n.machine (session_steps k n ask)
unfolding session_steps session_slots MeetNone session_run
steps_all n k (Done its) e none = tt
steps_all n k (Put slot action) e none = only_slots n k (Put slot action) e
steps_all n k (Take slot) e none = got_one k n.machine (action_at n.actions slot)
steps_all n k (Load place) e none = word_all n k (Load place) e none
steps_all n k (Store place new) e none = word_all n k (Store place new) e none
steps_all n k (Swap place new) e none = word_all n k (Swap place new) e none
steps_all n k (Cas place old new) e none = word_all n k (Cas place old new) e none
steps_all n k (Add place count) e none = word_all n k (Add place count) e none
steps_all n k (Max place count) e none = word_all n k (Max place count) e none

part_all : (n : Near SessionState) (k : Seat) (event : Event) → NoneIsMet n.words k n.machine → MeetNone k n.machine (session_part k n event)
unfolding session_part MeetNone
part_all n k (Calls number call) none = (tt, tt)
part_all n k (Moves number) none = steps_all n k (session_ask k n.machine) refl none
part_all n k (Commits kind) none = tt
part_all n k world.Turns none = tt
part_all n k (KeeperMoves granted done) none = tt
part_all n k Crashes none = tt

either_all : (c : Bool) (k : Seat) (s : SessionState) (a b : List SessionEvent) → MeetNone k s a → MeetNone k s b → MeetNone k s (if c then a else b)
either_all true k s a b one other = one
either_all false k s a b one other = other

pub found_all : (n : Now) (k : Seat) (s : SessionState) (session : ℕ) (event : Event) (found : Option SessionState) → found ≡ Some s → seat_at n session ≡ k → NoneIsMet n.words k s
    → MeetNone k s (if n.crashed then [] else session_part_found n session event found)
found_all n k s session event found e seat none =
    rw (e, seat) (either_all n.crashed k s [] (if is_of_session session event then session_part k (near n s) event else []) (nothing_met k s)
    (either_all (is_of_session session event) k s (session_part k (near n s) event) [] (part_all (near n s) k event none) (nothing_met k s)))

-- ---- one event
abbrev pub Latched : (k : Seat) → HasItsBuckets k → SessionState → Type 0
Latched k its s = StepLatched k its s s.step

-- a call that is refused at its second attempt leaves what waits as it was
refused_so : (k : Seat) (its : HasItsBuckets k) (s : SessionState) (asks reply : ℕ) (found : TryAnswer) → (found ≡ tried.IndexFull) ⊎ (found ≡ tried.LogFull) → attempt_told k s reply ≡ Done found → StepLatched k its s (Attempts true)
    → Latched k its (sitting_next k (record s { asks = asks; effect = None }) (Attempts true) reply)
unfolding sitting_next attempt_ledto
refused_so k its s asks reply found which told holds =
    subst (λ (ask : Ask TryAnswer). Latched k its (attempt_ledto (attempt_moved k (record s { asks = asks; effect = None }) reply) true ask)) (sym told) (by_found found which)
  where
    by_found : (found : TryAnswer) → (found ≡ tried.IndexFull) ⊎ (found ≡ tried.LogFull) → Latched k its (attempt_ledto (attempt_moved k (record s { asks = asks; effect = None }) reply) true (Done found))
    by_found tried.IndexFull which = holds.all
    by_found tried.LogFull which = holds.all
    by_found found which = elim which [ inl e ↦ cc | inr e ↦ cc ]

refused : (k : Seat) (its : HasItsBuckets k) (s : SessionState) (reply : ℕ) (found : TryAnswer) → (found ≡ tried.IndexFull) ⊎ (found ≡ tried.LogFull) → s.step ≡ Attempts true → attempt_told k s reply ≡ Done found → Latched k its s
    → Latched k its (session_happens k s (Replies reply))
unfolding session_happens
refused k its s reply found which e told holds =
    let asks : ℕ = asks_after s.asks (is_word_ask (session_ask k s)) in
    subst (λ (step : Sitting). Latched k its (sitting_next k (record s { asks = asks; effect = None }) step reply)) (sym e)
    (refused_so k its s asks reply found which told (subst (λ (step : Sitting). StepLatched k its s step) e holds))

or_none : (b : Bool) → b ≡ false → (b || false) ≡ false
or_none false e = refl
or_none true e = cc

single : (k : Seat) (its : HasItsBuckets k) (s : SessionState) (event : SessionEvent) → misses k s event ≡ false → Latched k its s → Latched k its (session_happens k s event)
unfolding session_run has_missed
single k its s event none holds = run_latched k its s (event ∷ []) holds (or_none (misses k s event) none)

abbrev Goes : (k : Seat) → HasItsBuckets k → SessionState → ℕ → Type 0
Goes k its s reply = Latched k its (session_happens k s (Replies reply))

second_so : (k : Seat) (its : HasItsBuckets k) (s : SessionState) (reply : ℕ) (told : Ask TryAnswer) → s.step ≡ Attempts true → attempt_told k s reply ≡ told → is_shifted told ≡ false → Latched k its s → Goes k its s reply
second_so k its s reply (Done tried.IndexFull) e same none holds = refused k its s reply tried.IndexFull (inl refl) e same holds
second_so k its s reply (Done tried.LogFull) e same none holds = refused k its s reply tried.LogFull (inr refl) e same holds
second_so k its s reply (Done tried.Shift) e same none holds = cc
second_so k its s reply told e same none holds =
    single k its s (Replies reply) (subst (λ (step : Sitting). misses_at k s step reply ≡ false) (sym e) (subst (λ (ask : Ask TryAnswer). is_shift ask ≡ false) (sym same) refl)) holds

replies_so : (k : Seat) (its : HasItsBuckets k) (s : SessionState) (step : Sitting) (reply : ℕ) → s.step ≡ step → MeetsNot k s step reply → shifts_at k s step reply ≡ false → Latched k its s → Goes k its s reply
replies_so k its s (Attempts true) reply e meets none holds = second_so k its s reply (attempt_told k s reply) e refl none holds
replies_so k its s (Attempts false) reply e meets none holds = single k its s (Replies reply) (subst (λ (step : Sitting). misses_at k s step reply ≡ false) (sym e) refl) holds
replies_so k its s (Polls i) reply e meets none holds = single k its s (Replies reply) (subst (λ (step : Sitting). misses_at k s step reply ≡ false) (sym e) none) holds
replies_so k its s (CatchesUp cause) reply e meets none holds = single k its s (Replies reply) (subst (λ (step : Sitting). misses_at k s step reply ≡ false) (sym e) meets) holds
replies_so k its s step reply e meets none holds = single k its s (Replies reply) (subst (λ (step : Sitting). misses_at k s step reply ≡ false) (sym e) refl) holds

event_so : (k : Seat) (its : HasItsBuckets k) (s : SessionState) (event : SessionEvent) → MeetsNotBy k s event → shifts_by k s event ≡ false → Latched k its s → Latched k its (session_happens k s event)
event_so k its s (Begins call) meets none holds = single k its s (Begins call) refl holds
event_so k its s (Gets action) meets none holds = single k its s (Gets action) refl holds
event_so k its s (Replies reply) meets none holds = replies_so k its s s.step reply refl meets none holds

-- ---- over a life
pub both_none : (a b : Bool) → (a || b) ≡ false → (a ≡ false) × (b ≡ false)
both_none true b e = cc
both_none false b e = (refl, e)

pub through_so : (k : Seat) (its : HasItsBuckets k) (s : SessionState) (events : List SessionEvent) → MeetNone k s events → has_shifted k s events ≡ false → Latched k its s → Latched k its (session_run k s events)
unfolding session_run has_shifted MeetNone
through_so k its s [] meets none holds = holds
through_so k its s (event ∷ before) meets none holds =
    let both = both_none (shifts_by k (session_run k s before) event) (has_shifted k s before) none in
    event_so k its (session_run k s before) event meets.0 both.0 (through_so k its s before meets.1 both.1 holds)

pub shifted_apart : (k : Seat) (first : SessionState) (later before : List SessionEvent) → has_shifted k first (later ++ before) ≡ false → (has_shifted k (session_run k first before) later ≡ false) × (has_shifted k first before ≡ false)
unfolding has_shifted
shifted_apart k first [] before none = (refl, none)
shifted_apart k first (event ∷ later) before none =
    let both = both_none (shifts_by k (session_run k first (later ++ before)) event) (has_shifted k first (later ++ before)) none in
    let rest = shifted_apart k first later before both.1 in
    let here : shifts_by k (session_run k (session_run k first before) later) event ≡ false = subst (λ (s : SessionState). shifts_by k s event ≡ false) (session_runs_on k first later before) both.0 in
    (rw (here, rest.0) refl, rest.1)

module _ (opening : World) (session : ℕ) (first : SessionState) (found : slice_get opening.now.sessions session ≡ Some first) (its : HasItsBuckets (seat_at opening.now session))
    (none_met : (before : List Event) (s : SessionState) → slice_get (run opening before).now.sessions session ≡ Some s → NoneIsMet (run opening before).now.words (seat_at opening.now session) s) where
  pub life_latched : (events : List Event) → Latched (seat_at opening.now session) its first → has_shifted (seat_at opening.now session) first (session_events opening session events) ≡ false
      → Latched (seat_at opening.now session) its (session_run (seat_at opening.now session) first (session_events opening session events))
  unfolding session_events session_run
  life_latched [] holds none = holds
  life_latched (event ∷ before) holds none =
      let k : Seat = seat_at opening.now session in
      let now : Now = (run opening before).now in
      let s : SessionState = session_run k first (session_events opening session before) in
      let part : List SessionEvent = session_part_of now session event in
      let apart = shifted_apart k first part (session_events opening session before) none in
      let past = life_latched before holds apart.1 in
      let there = session_runs opening session first before found in
      let meets = found_all now k s session event (slice_get now.sessions session) there (same_seat opening before session) (none_met before s there) in
      subst (λ (x : SessionState). Latched k its x) (sym (session_runs_on k first part (session_events opening session before))) (through_so k its s part meets apart.0 past)
