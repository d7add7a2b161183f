-- The laws of a session, of each session of a life.
use Rattle.std.proofs.Common.{◌≡◌, ℕ, ◌<◌, ◌-◌, ◌^◌, ◌∙◌, List, ◌∷◌, ◌++◌, sym, subst, true, false}
use Rattle.std.specs.Prelude.{Some, slice_get}
use Rattle.fkv_epoch.proofs.Shown.{item_within, some_same}
use Rattle.fkv_latch.specs.Latching.{is_exclusive, one_share}
use Rattle.fkv_ops.specs.Trying.{is_prepare}
use Rattle.fkv_plane.specs.declared.asks.Ask.TheVariants.{Add}
use Rattle.fkv_session.specs.declared.answers.Told.TheVariants.{Polled}
use Rattle.fkv_session.specs.declared.sessions.Sitting.TheVariants.{Idle, StoresOwing}
use Rattle.fkv_session.specs.InOrder.{IsOwedOrOneMore, owing_place, owing_told}
use Rattle.fkv_session.specs.Polls.{IsPollOf, attempted_in_poll}
use Rattle.fkv_session.specs.Refused.{before_call}
use Rattle.fkv_session.specs.SessionRun.{SessionEvent, is_calling, session_happens, session_run}
use Rattle.fkv_session.specs.Sessions.{SessionState, Seat, IsOpened, is_busy, session_ask, session_next}
use Rattle.fkv_session.specs.Shares.{AllUpdatesShare, HasItsBuckets, has_missed}
use Rattle.fkv_session.specs.Words.{serial_left, stored_last}
use Rattle.fkv_session.proofs.Shown.{run_back, run_near, run_polled, run_prepared}
use Rattle.fkv_world.specs.Opened.{HasBecome}
use Rattle.fkv_world.specs.OwnEvents.{session_events}
use Rattle.fkv_world.specs.Runs.{World, run}
use Rattle.fkv_world.specs.World.{Event, seat_at}
use Rattle.law_world.proofs.OfRuns.Lives.{runs_on}
use Rattle.fkv_world.proofs.Shown.{same_seat, session_runs}

-- the session of a number as its own run makes it
abbrev pub ran : World → List Event → ℕ → SessionState → SessionState
ran opening events number first = session_run (seat_at opening.now number) first (session_events opening number events)

pub here : (opening : World) (events : List Event) (number : ℕ) (first its : SessionState) → HasBecome opening events number first its → its ≡ ran opening events number first
here opening events number first its became = some_same its (ran opening events number first) (sym became.is_now ∙ session_runs opening number first events became.was)

pub opened_so : (opening : World) (events : List Event) (number : ℕ) (first its : SessionState) → HasBecome opening events number first its → IsOpened first
opened_so opening events number first its became = became.opened.sessions number first became.was

pub seated : (opening : World) (events : List Event) (number : ℕ) (first its : SessionState) → HasBecome opening events number first its → number < opening.now.places.sessions
seated opening events number first its became = subst (λ (count : ℕ). number < count) became.opened.seats (item_within opening.now.sessions number first became.was)

-- what holds of its own run holds of it
pub of_run : (P : SessionState → Type 0) (opening : World) (events : List Event) (number : ℕ) (first its : SessionState) → HasBecome opening events number first its → P (ran opening events number first) → P its
of_run P opening events number first its became holds = subst P (sym (here opening events number first its became)) holds

-- and what is asked of it is asked of its own run
pub to_run : (P : SessionState → Type 0) (opening : World) (events : List Event) (number : ℕ) (first its : SessionState) → HasBecome opening events number first its → P its → P (ran opening events number first)
to_run P opening events number first its became holds = subst P (here opening events number first its became) holds

-- and by the newest of its events
pub of_newest : (P : SessionState → Type 0) (opening : World) (events : List Event) (number : ℕ) (first its : SessionState) (event : SessionEvent) (before : List SessionEvent) → HasBecome opening events number first its
    → session_events opening number events ≡ event ∷ before → P (session_run (seat_at opening.now number) first (event ∷ before)) → P its
of_newest P opening events number first its event before became newest holds =
    of_run P opening events number first its became (subst (λ (own : List SessionEvent). P (session_run (seat_at opening.now number) first own)) (sym newest) holds)

-- where a poll stores the owing word
pub owing_near : (k : Seat) (first : SessionState) (words : ℕ → ℕ) (events : List SessionEvent) (index serial : ℕ) → IsOpened first → k.number < k.places.sessions
    → (session_run k first events).step ≡ StoresOwing index → serial_left k first events ≡ Some serial
    → IsOwedOrOneMore (stored_last k first words events (owing_place k)) (owing_told (session_run k first events))
owing_near k first words events index serial opened seat stores left = rw stores (run_near k first words events index serial opened seat stores left)

-- a share that meets bit 63 is given back
pub gives_back : (k : Seat) (first : SessionState) (events : List SessionEvent) (place reply : ℕ) → IsOpened first → HasItsBuckets k → session_ask k (session_run k first events) ≡ Add place one_share → is_exclusive reply ≡ true
    → session_ask k (session_next k (session_run k first events) reply) ≡ Add place (2 ^ 64 - one_share)
unfolding session_run session_happens
gives_back k first events place reply opened its adds busy = run_back k first events place reply opened its adds busy

-- from a later moment of a life on
shared_from : (w : World) (events : List Event) (number : ℕ) (was its : SessionState) → slice_get w.now.sessions number ≡ Some was → slice_get (run w events).now.sessions number ≡ Some its
    → HasItsBuckets (seat_at w.now number) → is_busy was.step ≡ false → is_prepare was.seen.phase ≡ false
    → has_missed (seat_at w.now number) was (session_events w number events) ≡ false → is_busy its.step ≡ false → is_prepare its.seen.phase ≡ true → AllUpdatesShare its.requests
shared_from w events number was its found is_now buckets idle other none rests prepare =
    subst (λ (s : SessionState). AllUpdatesShare s.requests) (sym same)
    (run_prepared (seat_at w.now number) was (session_events w number events) buckets idle other none (subst (λ (s : SessionState). is_busy s.step ≡ false) same rests) (subst (λ (s : SessionState). is_prepare s.seen.phase ≡ true) same prepare))
  where
    same : its ≡ session_run (seat_at w.now number) was (session_events w number events)
    same = some_same its (session_run (seat_at w.now number) was (session_events w number events)) (sym is_now ∙ session_runs w number was events found)

pub all_share : (opening : World) (later before : List Event) (number : ℕ) (first was its : SessionState) → HasBecome opening before number first was → HasBecome opening (later ++ before) number first its
    → HasItsBuckets (seat_at opening.now number) → is_busy was.step ≡ false → is_prepare was.seen.phase ≡ false
    → has_missed (seat_at opening.now number) was (session_events (run opening before) number later) ≡ false → is_busy its.step ≡ false → is_prepare its.seen.phase ≡ true → AllUpdatesShare its.requests
all_share opening later before number first was its became became_later buckets idle other none rests prepare =
    shared_from (run opening before) later number was its became.is_now
    (subst (λ (w : World). slice_get w.now.sessions number ≡ Some its) (runs_on opening later before) became_later.is_now)
    (subst (λ (k : Seat). HasItsBuckets k) same buckets) idle other
    (subst (λ (k : Seat). has_missed k was (session_events (run opening before) number later) ≡ false) same none) rests prepare
  where
    same : seat_at opening.now number ≡ seat_at (run opening before).now number
    same = sym (same_seat opening before number)

-- a poll that its newest event ends
pub polled_so : (k : Seat) (first : SessionState) (own : List SessionEvent) (event : SessionEvent) (before : List SessionEvent) (left : ℕ) → own ≡ event ∷ before → IsOpened first
    → is_calling (session_run k first before) event ≡ true → (session_run k first own).step ≡ Idle (Polled left)
    → IsPollOf (before_call k first own).requests (attempted_in_poll k first own) (session_run k first own).finished (session_run k first own).requests left
polled_so k first own event before left e opened calling =
    subst (λ (its : List SessionEvent). (session_run k first its).step ≡ Idle (Polled left) → IsPollOf (before_call k first its).requests (attempted_in_poll k first its) (session_run k first its).finished (session_run k first its).requests left)
    (sym e) (λ ends. run_polled k first event before left opened calling ends)
