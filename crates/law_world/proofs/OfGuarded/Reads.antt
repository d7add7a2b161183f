-- Over each list of events, whatever reads of the device give, the guard's world shows the engine's, and each machine is the run of its own events.
use Rattle.std.proofs.Common.{◌≡◌, ℕ, ◌∙◌, refl, sym, ap, subst, List, [], ◌∷◌, ◌++◌, Bool, true, false}
use Rattle.std.specs.Prelude.{if◌then◌else◌, Option, Some, None, slice_get}
use Rattle.fkv_base.specs.declared.shapes.Shape.{Shape}
use Rattle.fkv_plane.specs.declared.actions.Action.{Action}
use Rattle.fkv_plane.specs.declared.asks.Ask.{Ask}
use Rattle.fkv_plane.specs.declared.asks.Ask.TheVariants.{Put, Take, Done}
use Rattle.fkv_plane.specs.declared.places.Places.{Places}
use Rattle.fkv_plane.specs.Asked.{reply_to}
use Rattle.fkv_plane.specs.Plane.{action_at}
use Rattle.fkv_epoch.proofs.Shown.{some_same}
use Rattle.fkv_flush.specs.GuardWorld.{GuardWorld, guard_run}
use Rattle.fkv_keeper.specs.declared.answers.KeeperTold.{KeeperTold}
use Rattle.fkv_keeper.specs.declared.answers.KeeperTold.TheVariants.{Device}
use Rattle.fkv_keeper.specs.Keeping.{KeeperState, keeper_ask}
use Rattle.fkv_keeper.specs.KeeperRun as keeper
use Rattle.fkv_keeper.specs.KeeperRun.{KeeperEvent, keeper_happens, keeper_run}
use Rattle.fkv_session.specs.SessionRun.{SessionEvent, session_run}
use Rattle.fkv_session.specs.Sessions.{SessionState, Seat}
use Rattle.fkv_world.specs.Moves.{Near, keeper_asks, keeper_gets, keeper_replied, keeper_settled}
use Rattle.fkv_world.specs.OwnEvents.{keeper_part_of, session_part_of}
use Rattle.fkv_world.specs.Runs.{World, happens, read_by_keeper, run}
use Rattle.fkv_world.specs.World.{Event, Calls, Moves, Commits, Turns, KeeperMoves, Crashes, Now, happens_now, life_goes, near, seat_at}
use Rattle.fkv_world.proofs.Shown.{happens_keeper, happens_session, keeper_runs_on, places_stay, session_runs_on, shape_stays}
use Rattle.law_world.proofs.OfRuns.Nothing.{none_then}
use Rattle.law_world.specs.Guarded.GuardEvents.{guard_events}
use Rattle.law_world.specs.Guarded.Reads.{AreAsHeld, Heard, IsHeardAsHeld, events_heard, guard_heard, heard_run}
use Rattle.law_world.specs.Guarded.Shows.{IsOpened, Shows, guard_opening}
use Rattle.law_world.specs.GuardSessions.Sessions.{SessionWritesOuter}
use Rattle.law_world.proofs.OfGuarded.Outer.{WriteOuter}
use Rattle.law_world.proofs.OfGuarded.Worlds.{happens_shows, opening_shows}
use Rattle.law_world.proofs.OfGuardSessions.InPlace.{run_outer}

-- ---- one event
-- a world that is so now, of which nothing is past
abbrev bare : Now → World
bare n = record { now = n; past = record { opened = []; history = []; trace = []; calls = [] } }

-- what no read touches
abbrev Spared : Type 0
Spared = Shape × Places × List SessionState

abbrev spared : Now → Spared
spared n = (n.shape, n.places, n.sessions)

goes_spared : (n : Now) (read other : List ℕ) (event : Event) → spared (life_goes n read event) ≡ spared (life_goes n other event)
unfolding life_goes
goes_spared n read other (Calls number call) = refl
goes_spared n read other (Moves number) = refl
goes_spared n read other (Commits kind) = refl
goes_spared n read other Turns = refl
goes_spared n read other (KeeperMoves granted done) = refl
goes_spared n read other Crashes = refl

happens_spared : (n : Now) (read other : List ℕ) (event : Event) → spared (happens_now n read event) ≡ spared (happens_now n other event)
happens_spared n read other event = by n.crashed
  where
    by : (b : Bool) → spared (if b then n else life_goes n read event) ≡ spared (if b then n else life_goes n other event)
    by true = refl
    by false = goes_spared n read other event

store_stays : (n : Now) (read : List ℕ) (event : Event) → ((happens_now n read event).shape ≡ n.shape) × ((happens_now n read event).places ≡ n.places)
unfolding run
store_stays n read event =
    let w : World = bare n in
    let same : spared (happens_now n read event) ≡ spared (happens w event).now = happens_spared n read (read_by_keeper w) event in
    (ap (λ (x : Spared). x.0) same ∙ shape_stays w (event ∷ []), ap (λ (x : Spared). x.1) same ∙ places_stay w (event ∷ []))

-- The session of a number is a run of its own events, and so is the keeper.
pub record RanSession (first : Now) (number : ℕ) (s : SessionState) : Type 0 where
  pub opened : SessionState
  pub was : slice_get first.sessions number ≡ Some opened
  pub came : List SessionEvent
  pub ran : s ≡ session_run (seat_at first number) opened came

pub record RanKeeper (first : Now) (s : KeeperState) : Type 0 where
  pub came : List KeeperEvent
  pub ran : s ≡ keeper_run first.shape first.places first.keeper came

ran_on : (k k' : Seat) (opened x s : SessionState) (part came : List SessionEvent) → k ≡ k' → x ≡ session_run k' opened came → s ≡ session_run k x part → s ≡ session_run k' opened (part ++ came)
ran_on k k' opened x s part came seat ran one = one ∙ ((λ i. session_run (seat i) (ran i) part) ∙ sym (session_runs_on k' opened part came))

some_none : {X : Type 0} (s : SessionState) → Some s ≡ None → X
some_none s e = cc

-- an event leaves it one, if no more is known of what is read
session_found : (first : Now) (w : World) (event : Event) (number : ℕ) (s : SessionState) (found : Option SessionState) → slice_get w.now.sessions number ≡ found → seat_at w.now number ≡ seat_at first number
    → ((x : SessionState) → slice_get w.now.sessions number ≡ Some x → RanSession first number x) → slice_get (happens w event).now.sessions number ≡ Some s → RanSession first number s
session_found first w event number s None none seat was here = some_none s (sym here ∙ none_then w event number none)
session_found first w event number s (Some x) found seat was here =
    let its : RanSession first number x = was x found in
    record {
      opened = its.opened;
      was = its.was;
      came = session_part_of w.now number event ++ its.came;
      ran =
          ran_on (seat_at w.now number) (seat_at first number) its.opened x s (session_part_of w.now number event) its.came seat its.ran
          (some_same s (session_run (seat_at w.now number) x (session_part_of w.now number event)) (sym here ∙ happens_session w event number x found));
    }

session_goes_on : (first n : Now) (read : List ℕ) (event : Event) (number : ℕ) (s : SessionState) → seat_at n number ≡ seat_at first number → ((x : SessionState) → slice_get n.sessions number ≡ Some x → RanSession first number x)
    → slice_get (happens_now n read event).sessions number ≡ Some s → RanSession first number s
session_goes_on first n read event number s seat was there =
    let same : spared (happens_now n read event) ≡ spared (happens (bare n) event).now = happens_spared n read (read_by_keeper (bare n)) event in
    session_found first (bare n) event number s (slice_get n.sessions number) refl seat was (ap (λ (x : Spared). slice_get x.2 number) (sym same) ∙ there)

-- the keeper's step, whatever it reads
abbrev IsRun : Shape → Places → KeeperState → KeeperState → Type 0
IsRun shape p s after = (came : List KeeperEvent) × (after ≡ keeper_run shape p s came)

gets_run : (shape : Shape) (p : Places) (s : KeeperState) (found : Option Action) → IsRun shape p s (keeper_gets shape p s found)
unfolding keeper_run keeper_happens
gets_run shape p s None = ([], refl)
gets_run shape p s (Some action) = (keeper.Gets action ∷ [], refl)

settles_run : (shape : Shape) (p : Places) (granted : Bool) (n : Near KeeperState) (ask : Ask KeeperTold) → IsRun shape p n.machine (keeper_settled shape p granted n ask).machine
unfolding keeper_settled keeper_run keeper_happens
settles_run shape p granted n (Put slot action) = (keeper.Replies 0 granted ∷ [], refl)
settles_run shape p granted n (Take slot) = gets_run shape p n.machine (action_at n.actions slot)
settles_run shape p granted n ask = ([], refl)

replies_run : (shape : Shape) (p : Places) (granted : Bool) (n : Near KeeperState) (ask : Ask KeeperTold)
    → IsRun shape p n.machine (keeper_settled shape p granted (keeper_replied shape p granted n ask) (keeper_ask shape p (keeper_replied shape p granted n ask).machine)).machine
unfolding keeper_run keeper_happens
replies_run shape p granted n ask =
    let after : Near KeeperState = keeper_replied shape p granted n ask in
    let its = settles_run shape p granted after (keeper_ask shape p after.machine) in
    let reply : List KeeperEvent = keeper.Replies (reply_to n.words ask) granted ∷ [] in
    (its.0 ++ reply, its.1 ∙ sym (keeper_runs_on shape p n.machine its.0 reply))

asks_run : (shape : Shape) (p : Places) (granted done : Bool) (read : List ℕ) (n : Near KeeperState) (ask : Ask KeeperTold) → IsRun shape p n.machine (keeper_asks shape p granted done read n ask).machine
unfolding keeper_asks keeper_run keeper_happens
asks_run shape p granted done read n (Done Device) = (keeper.Calls done read ∷ [], refl)
asks_run shape p granted done read n (Done its) = ([], refl)
asks_run shape p granted done read n (Put slot action) = settles_run shape p granted n (Put slot action)
asks_run shape p granted done read n (Take slot) = settles_run shape p granted n (Take slot)
asks_run shape p granted done read n ask = replies_run shape p granted n ask

moves_run : (n : Now) (read : List ℕ) (granted done : Bool) → IsRun n.shape n.places n.keeper (happens_now n read (KeeperMoves granted done)).keeper
unfolding life_goes keeper_run
moves_run n read granted done = by n.crashed
  where
    by : (b : Bool) → IsRun n.shape n.places n.keeper (if b then n else life_goes n read (KeeperMoves granted done)).keeper
    by true = ([], refl)
    by false = asks_run n.shape n.places granted done read (near n n.keeper) (keeper_ask n.shape n.places n.keeper)

-- any other event reads nothing
other_run : (n : Now) (read : List ℕ) (event : Event) → (life_goes n read event).keeper ≡ (life_goes n (read_by_keeper (bare n)) event).keeper → IsRun n.shape n.places n.keeper (happens_now n read event).keeper
other_run n read event same = (keeper_part_of (bare n) event, by n.crashed ∙ happens_keeper (bare n) event)
  where
    by : (b : Bool) → (if b then n else life_goes n read event).keeper ≡ (if b then n else life_goes n (read_by_keeper (bare n)) event).keeper
    by true = refl
    by false = same

keeper_goes_on : (n : Now) (read : List ℕ) (event : Event) → IsRun n.shape n.places n.keeper (happens_now n read event).keeper
unfolding life_goes
keeper_goes_on n read (Calls number call) = other_run n read (Calls number call) refl
keeper_goes_on n read (Moves number) = other_run n read (Moves number) refl
keeper_goes_on n read (Commits kind) = other_run n read (Commits kind) refl
keeper_goes_on n read Turns = other_run n read Turns refl
keeper_goes_on n read (KeeperMoves granted done) = moves_run n read granted done
keeper_goes_on n read Crashes = other_run n read Crashes refl

-- ---- every list
-- What holds at each moment of such a life.
pub record IsGuardedNow (first n : Now) (w : GuardWorld) : Type 0 where
  pub shows : Shows n w
  pub shape : n.shape ≡ first.shape
  pub places : n.places ≡ first.places
  pub sessions : (number : ℕ) (s : SessionState) → slice_get n.sessions number ≡ Some s → RanSession first number s
  pub keeper : RanKeeper first n.keeper

pub seat_so : (first n : Now) (w : GuardWorld) → IsGuardedNow first n w → (number : ℕ) → seat_at n number ≡ seat_at first number
seat_so first n w its number = λ i. record { places = its.places i; shape = its.shape i; number = number }

pub outer_so : (first : Now) (start : ℕ) (n : Now) (w : GuardWorld) → IsOpened first start → IsGuardedNow first n w → WriteOuter n
outer_so first start n w opened its number s there =
    let k : Seat = seat_at first number in
    let r : RanSession first number s = its.sessions number s there in
    let ran : SessionWritesOuter k (session_run k r.opened r.came) = run_outer k r.opened r.came (opened.sessions number r.opened r.was) opened.buckets in
    let here : SessionWritesOuter k s = subst (λ (x : SessionState). SessionWritesOuter k x) (sym r.ran) ran in
    subst (λ (x : Seat). SessionWritesOuter x s) (sym (seat_so first n w its number)) here

one_on : (first : Now) (start : ℕ) (n : Now) (w : GuardWorld) (read : List ℕ) (event : Event) → IsOpened first start → IsGuardedNow first n w → IsGuardedNow first (happens_now n read event) (guard_run w (guard_events n read event))
one_on first start n w read event opened its =
    let stays = store_stays n read event in
    let goes = keeper_goes_on n read event in
    record {
      shows = happens_shows n w read event (outer_so first start n w opened its) its.shows;
      shape = stays.0 ∙ its.shape;
      places = stays.1 ∙ its.places;
      sessions = λ number s there. session_goes_on first n read event number s (seat_so first n w its number) (λ x found. its.sessions number x found) there;
      keeper = record {
        came = goes.0 ++ its.keeper.came;
        ran = goes.1 ∙ ((λ i. keeper_run (its.shape i) (its.places i) (its.keeper.ran i) goes.0) ∙ sym (keeper_runs_on first.shape first.places first.keeper goes.0 its.keeper.came));
      };
    }

begun : (first : Now) (start : ℕ) → IsOpened first start → IsGuardedNow first first (guard_opening first start)
unfolding session_run keeper_run
begun first start opened = record {
  shows = opening_shows first start opened;
  shape = refl;
  places = refl;
  sessions = λ number s there. record { opened = s; was = there; came = []; ran = refl };
  keeper = record { came = []; ran = refl };
}

pub guarded_so : (first : Now) (start : ℕ) (list : List Heard) → IsOpened first start → IsGuardedNow first (heard_run first list) (guard_heard first start list)
unfolding heard_run guard_heard
guarded_so first start [] opened = begun first start opened
guarded_so first start (it ∷ before) opened = one_on first start (heard_run first before) (guard_heard first start before) it.read it.event opened (guarded_so first start before opened)

-- ---- reads of an honest device
pub heard_as_held : (opening : World) (list : List Heard) → AreAsHeld opening list → heard_run opening.now list ≡ (run opening (events_heard list)).now
unfolding heard_run run
heard_as_held opening [] held = refl
heard_as_held opening (it ∷ before) held =
    let w : World = run opening (events_heard before) in
    (λ i. happens_now (heard_as_held opening before held.1 i) (held.0 i) it.event)

-- each life has such a list
pub held_list : World → List Event → List Heard
held_list opening [] = []
held_list opening (event ∷ before) = record { event = event; read = read_by_keeper (run opening before) } ∷ held_list opening before

pub is_held : (opening : World) (events : List Event) → IsHeardAsHeld opening events (held_list opening events)
unfolding held_list
is_held opening [] = record { same = refl; held = tt }
is_held opening (event ∷ before) =
    let rest = is_held opening before in
    record {
      same = ap (λ (es : List Event). event ∷ es) rest.same;
      held = (ap (λ (es : List Event). read_by_keeper (run opening es)) (sym rest.same), rest.held);
    }
