-- A session's durable word is what the keeper has stored last there.
use Rattle.std.proofs.Common.{◌≡◌, ◌≢◌, ◌⊎◌, ◌<◌, inl, inr, ℕ, ◌∙◌, ◌++◌, List, [], ◌∷◌, length, refl, arith, sym, ap, subst, Bool, true, false}
use Rattle.std.specs.Prelude.{if◌then◌else◌, ◌==◌, Option, Some, None, slice_get}
use Rattle.std.proofs.lemmas.Bool.Decides.{nat_tests}
use Rattle.fkv_base.specs.declared.shapes.Shape.{Shape}
use Rattle.fkv_plane.specs.declared.actions.Action.{Action}
use Rattle.fkv_plane.specs.declared.asks.Ask.{Ask}
use Rattle.fkv_plane.specs.declared.asks.Ask.TheVariants.{Load, Store, Swap, Cas, Add, Max, Put, Take, Done}
use Rattle.fkv_plane.specs.declared.places.Places.{Places}
use Rattle.fkv_plane.specs.declared.places.SessionWord.TheVariants as own
use Rattle.fkv_plane.specs.Asked.{reply_to, word_at, words_after}
use Rattle.fkv_plane.specs.Passing.{passed}
use Rattle.fkv_plane.specs.Places.{session_place}
use Rattle.fkv_plane.specs.Plane.{action_at}
use Rattle.fkv_epoch.proofs.Shown.{same_or}
use Rattle.law_refine.specs.Below.fkv_commit.TheFinishing.{Finishing}
use Rattle.law_refine.specs.Below.fkv_commit.TheFinishing.TheVariants as finishing
use Rattle.law_refine.specs.Below.fkv_commit.Finishing.{finishing_ask, point_of}
use Rattle.law_refine.specs.Below.fkv_keeper.KeeperTold.{KeeperTold}
use Rattle.law_refine.specs.Below.fkv_keeper.KeeperTold.TheVariants.{Device}
use Rattle.law_refine.specs.Below.fkv_keeper.TheKeeping.{Keeping}
use Rattle.law_refine.specs.Below.fkv_keeper.TheKeeping.TheVariants.{Ended, Starts, Maintains, LoadsPhase, Enters, Copies, Seeks, Waits, Writes, Finishes, Sweeps}
use Rattle.law_refine.specs.Below.fkv_keeper.Keeping.{KeeperState, keeper_ask, keeper_next, keeping_ask}
use Rattle.law_refine.specs.Below.fkv_keeper.KeeperRun.{KeeperEvent, BeginsCommit, BeginsTurn, Calls as CallsDevice, Replies, keeper_happens, keeper_run}
use Rattle.law_refine.specs.Below.fkv_session.Sessions.{SessionState, Seat, session_ask}
use Rattle.law_refine.specs.Below.fkv_world.Moves.{Near}
use Rattle.law_refine.specs.Below.fkv_world.Opened.{IsOpenedWorld}
use Rattle.law_refine.specs.Below.fkv_world.OwnEvents.{keeper_events, keeper_got, keeper_part, keeper_part_of, keeper_slots, keeper_steps}
use Rattle.law_refine.specs.Below.fkv_world.Runs.{World, happens, read_by_keeper, run}
use Rattle.law_refine.specs.Below.fkv_world.World.{Event, Calls, Moves, Commits, Turns, KeeperMoves, Crashes, Now, near, seat_at}
use Rattle.law_refine.proofs.Below.fkv_world.Shown.{is_over, keeper_runs, keeper_runs_on, places_stay, shape_stays}
use Rattle.law_refine.proofs.Below.law_world.OfRuns.OneWord.{keeper_writes}
use Rattle.law_refine.specs.Footprint.{Durable, TheDurable, Spares}
use Rattle.law_refine.proofs.Footprint.Lives.{keeper_spares}
use Rattle.law_refine.proofs.Footprint.Sessions.{IsSessionSparing, SessionRests, session_asks_spares}
use Rattle.law_commit.specs.Cuts.{HasItsWords, ShowsDurable, durable_at, stored_behind, stored_by, stored_by_keeper, stored_last, word_now}
use Rattle.law_commit.proofs.OfCuts.Events.{event_words, length_stays}
use Rattle.law_commit.proofs.OfCuts.Marks.{few_places, sparing_now}
use Rattle.law_commit.proofs.OfCuts.Points.{run_shows}
use Rattle.law_commit.proofs.OfCuts.Words.{IsStore, IsThere, followed_word, spared_word}

-- ---- what it has stored over events that follow one another
module _ (shape : Shape) (p : Places) where
  no_stores : (s : KeeperState) (f : ℕ → ℕ) (place : ℕ) → stored_last shape p s f [] place ≡ f place
  unfolding stored_last
  no_stores s f place = refl

  stored_on : (first : KeeperState) (f : ℕ → ℕ) (later before : List KeeperEvent) (place : ℕ)
      → stored_last shape p first f (later ++ before) place ≡ stored_last shape p (keeper_run shape p first before) (λ at. stored_last shape p first f before at) later place
  unfolding stored_last
  stored_on first f [] before place = refl
  stored_on first f (event ∷ later) before place =
      ap (λ (s : KeeperState). stored_behind shape p s event place (stored_last shape p first f (later ++ before) place)) (keeper_runs_on shape p first later before)
      ∙ ap (λ (word : ℕ). stored_behind shape p (keeper_run shape p (keeper_run shape p first before) later) event place word) (stored_on first f later before place)

  -- an ask of a slot stores nothing
  slots_stored : (s : KeeperState) (f : ℕ → ℕ) (actions : List (Option Action)) (granted : Bool) (ask : Ask KeeperTold) (before : List KeeperEvent) (place : ℕ) → keeper_ask shape p (keeper_run shape p s before) ≡ ask
      → stored_last shape p s f (keeper_slots actions granted ask ++ before) place ≡ stored_last shape p s f before place
  unfolding keeper_slots stored_last
  slots_stored s f actions granted (Put slot action) before place e = rw e refl
  slots_stored s f actions granted (Take slot) before place e = by_action (action_at actions slot)
    where
      by_action : (found : Option Action) → stored_last shape p s f (keeper_got found ++ before) place ≡ stored_last shape p s f before place
      by_action None = refl
      by_action (Some action) = refl
  slots_stored s f actions granted (Load at) before place e = refl
  slots_stored s f actions granted (Store at word) before place e = refl
  slots_stored s f actions granted (Swap at word) before place e = refl
  slots_stored s f actions granted (Cas at old new) before place e = refl
  slots_stored s f actions granted (Add at k) before place e = refl
  slots_stored s f actions granted (Max at k) before place e = refl
  slots_stored s f actions granted (Done told) before place e = refl

  one_reply : (s : KeeperState) (reply : ℕ) (granted : Bool) → keeper_run shape p s (Replies reply granted ∷ []) ≡ keeper_next shape p s reply granted
  unfolding keeper_run keeper_happens
  one_reply s reply granted = refl

  one_stored : (s : KeeperState) (f : ℕ → ℕ) (reply : ℕ) (granted : Bool) (place : ℕ) → stored_last shape p s f (Replies reply granted ∷ []) place ≡ stored_by (keeper_ask shape p s) place (f place)
  unfolding stored_last keeper_run
  one_stored s f reply granted place = refl

  -- a step stores what its ask does
  replied_stored : (n : Near KeeperState) (granted : Bool) (ask : Ask KeeperTold) (f : ℕ → ℕ) (place : ℕ) → keeper_ask shape p n.machine ≡ ask
      → stored_last shape p n.machine f (keeper_slots n.actions granted (keeper_ask shape p (keeper_next shape p n.machine (reply_to n.words ask) granted)) ++ Replies (reply_to n.words ask) granted ∷ []) place ≡ stored_by ask place (f place)
  replied_stored n granted ask f place e =
      let reply : ℕ = reply_to n.words ask in
      slots_stored n.machine f n.actions granted (keeper_ask shape p (keeper_next shape p n.machine reply granted)) (Replies reply granted ∷ []) place (ap (λ (s : KeeperState). keeper_ask shape p s) (one_reply n.machine reply granted))
      ∙ (one_stored n.machine f reply granted place ∙ ap (λ (its : Ask KeeperTold). stored_by its place (f place)) e)

  slot_stored : (n : Near KeeperState) (granted : Bool) (ask : Ask KeeperTold) (f : ℕ → ℕ) (place : ℕ) → keeper_ask shape p n.machine ≡ ask → stored_last shape p n.machine f (keeper_slots n.actions granted ask) place ≡ f place
  unfolding keeper_slots stored_last keeper_run
  slot_stored n granted (Put slot action) f place e = rw e refl
  slot_stored n granted (Take slot) f place e = by_action (action_at n.actions slot)
    where
      by_action : (found : Option Action) → stored_last shape p n.machine f (keeper_got found) place ≡ f place
      by_action None = refl
      by_action (Some action) = refl
  slot_stored n granted ask f place e = refl

  device_stored : (s : KeeperState) (f : ℕ → ℕ) (done : Bool) (read : List ℕ) (place : ℕ) → stored_last shape p s f (CallsDevice done read ∷ []) place ≡ f place
  unfolding stored_last
  device_stored s f done read place = refl

  commit_stored : (s : KeeperState) (f : ℕ → ℕ) (kind : _) (place : ℕ) → stored_last shape p s f (BeginsCommit kind ∷ []) place ≡ f place
  unfolding stored_last
  commit_stored s f kind place = refl

  turn_stored : (s : KeeperState) (f : ℕ → ℕ) (place : ℕ) → stored_last shape p s f (BeginsTurn ∷ []) place ≡ f place
  unfolding stored_last
  turn_stored s f place = refl

  steps_stored : (n : Near KeeperState) (granted done : Bool) (read : List ℕ) (ask : Ask KeeperTold) (f : ℕ → ℕ) (place : ℕ) → keeper_ask shape p n.machine ≡ ask
      → stored_last shape p n.machine f (keeper_steps shape p granted done read n ask) place ≡ stored_by ask place (f place)
  unfolding keeper_steps
  steps_stored n granted done read (Done Device) f place e = device_stored n.machine f done read place
  steps_stored n granted done read (Done told) f place e = no_stores n.machine f place
  steps_stored n granted done read (Put slot action) f place e = slot_stored n granted (Put slot action) f place e
  steps_stored n granted done read (Take slot) f place e = slot_stored n granted (Take slot) f place e
  steps_stored n granted done read ask f place e = replied_stored n granted ask f place e

-- ---- each ask of the keeper is a store, or spares the durable word; and each of a session spares it
finish_store : (shape : Shape) (p : Places) (s : KeeperState) (session : ℕ) → s.step ≡ Finishes → s.finish.step ≡ finishing.StoresDurable session → IsStore (keeper_ask shape p s)
unfolding keeping_ask finishing_ask passed
finish_store shape p s session finishes stores = rw (finishes, stores) tt

finishes_not : (s : KeeperState) (number : ℕ) → (s.step ≡ Finishes → s.finish.step ≢ finishing.StoresDurable number) → s.step ≡ Finishes → (session : ℕ) → TheDurable number ≡ TheDurable session → s.finish.step ≢ finishing.StoresDurable session
finishes_not s number other finishes session same = λ stores. other finishes (stores ∙ ap finishing.StoresDurable (sym (same_number number session same)))
  where
    same_number : (one other : ℕ) → TheDurable one ≡ TheDurable other → one ≡ other
    same_number one other same = cc

session_spares : (k : Seat) (s : SessionState) (number : ℕ) → IsSessionSparing k.places s → Spares (TheDurable number) k.places (session_ask k s)
session_spares k s number sparing =
    let rests : SessionRests (TheDurable number) k s = record { knows = λ same. cc; search = λ same. cc; entry = λ same. cc; latch = λ same. cc; mail = λ same. cc; marks = λ same. cc; phase = λ e. cc } in
    session_asks_spares (TheDurable number) k s tt sparing rests

-- it finishes a commit, and stores this durable word
data IsStoring (number : ℕ) (s : KeeperState) : Type 0 where
  Storing : s.step ≡ Finishes → s.finish.step ≡ finishing.StoresDurable number → IsStoring number s
  StoringNone : (s.step ≡ Finishes → s.finish.step ≢ finishing.StoresDurable number) → IsStoring number s

finish_storing : (number : ℕ) (step : Finishing) → (step ≡ finishing.StoresDurable number) ⊎ (step ≢ finishing.StoresDurable number)
finish_storing number (finishing.Ended told) = inr (λ e. cc)
finish_storing number (finishing.StoresDurable session) = elim (same_or session number) [
  | inl same ↦ inl (ap finishing.StoresDurable same)
  | inr other ↦ inr (λ e. other (same_session session number e))
]
  where
    same_session : (one other : ℕ) → finishing.StoresDurable one ≡ finishing.StoresDurable other → one ≡ other
    same_session one other e = cc
finish_storing number finishing.StoresRest = inr (λ e. cc)

is_storing : (number : ℕ) (s : KeeperState) (step : Keeping) → s.step ≡ step → IsStoring number s
is_storing number s Finishes e = elim (finish_storing number s.finish.step) [
  | inl stores ↦ Storing e stores
  | inr other ↦ StoringNone (λ finishes. other)
]
is_storing number s (Ended told) e = StoringNone (λ finishes. let clash : Ended told ≡ Finishes = sym e ∙ finishes in cc)
is_storing number s Starts e = StoringNone (λ finishes. let clash : Starts ≡ Finishes = sym e ∙ finishes in cc)
is_storing number s Maintains e = StoringNone (λ finishes. let clash : Maintains ≡ Finishes = sym e ∙ finishes in cc)
is_storing number s LoadsPhase e = StoringNone (λ finishes. let clash : LoadsPhase ≡ Finishes = sym e ∙ finishes in cc)
is_storing number s Enters e = StoringNone (λ finishes. let clash : Enters ≡ Finishes = sym e ∙ finishes in cc)
is_storing number s Copies e = StoringNone (λ finishes. let clash : Copies ≡ Finishes = sym e ∙ finishes in cc)
is_storing number s Sweeps e = StoringNone (λ finishes. let clash : Sweeps ≡ Finishes = sym e ∙ finishes in cc)
is_storing number s Seeks e = StoringNone (λ finishes. let clash : Seeks ≡ Finishes = sym e ∙ finishes in cc)
is_storing number s Waits e = StoringNone (λ finishes. let clash : Waits ≡ Finishes = sym e ∙ finishes in cc)
is_storing number s Writes e = StoringNone (λ finishes. let clash : Writes ≡ Finishes = sym e ∙ finishes in cc)

keeper_own : (opening : World) (events : List Event) (number : ℕ) → IsOpenedWorld opening → IsStoring number (run opening events).now.keeper
    → IsStore (keeper_ask (run opening events).now.shape (run opening events).now.places (run opening events).now.keeper)
    ⊎ Spares (TheDurable number) (run opening events).now.places (keeper_ask (run opening events).now.shape (run opening events).now.places (run opening events).now.keeper)
keeper_own opening events number opened (Storing finishes stores) = inl (finish_store (run opening events).now.shape (run opening events).now.places (run opening events).now.keeper number finishes stores)
keeper_own opening events number opened (StoringNone other) =
    inr (keeper_spares (TheDurable number) opening events (λ e. cc) opened.keeper tt tt (λ session e. cc) (finishes_not (run opening events).now.keeper number other))

-- ---- one event
record Follows (w : World) (place : ℕ) : Type 0 where
  own : word_at (words_after w.now.words (keeper_ask w.now.shape w.now.places w.now.keeper)) place ≡ stored_by (keeper_ask w.now.shape w.now.places w.now.keeper) place (word_at w.now.words place)
  sessions : (at : ℕ) (t : SessionState) → slice_get w.now.sessions at ≡ Some t → word_at (words_after w.now.words (session_ask (seat_at w.now at) t)) place ≡ word_at w.now.words place

module _ (w : World) (place : ℕ) (f : ℕ → ℕ) where
  -- by one that isn't the keeper's
  calm_event : (event : Event) → ((granted done : Bool) → event ≡ KeeperMoves granted done → ⊥) → Follows w place → word_at (happens w event).now.words place ≡ word_at w.now.words place
  calm_event event other follows =
      event_words (λ words. word_at words place ≡ word_at w.now.words place) w event refl
      (record { session = λ at t moves found. follows.sessions at t found; keeper = λ granted done moves. absurd (other granted done moves) })

  alive_event : (event : Event) → w.now.crashed ≡ false → word_at w.now.words place ≡ f place → Follows w place
      → word_at (happens w event).now.words place ≡ stored_last w.now.shape w.now.places w.now.keeper f (keeper_part w.now.shape w.now.places (read_by_keeper w) (near w.now w.now.keeper) event) place
  unfolding keeper_part
  alive_event (Calls at call) alive was follows = calm_event (Calls at call) (λ granted done moves. cc) follows ∙ (was ∙ sym (no_stores w.now.shape w.now.places w.now.keeper f place))
  alive_event (Moves at) alive was follows = calm_event (Moves at) (λ granted done moves. cc) follows ∙ (was ∙ sym (no_stores w.now.shape w.now.places w.now.keeper f place))
  alive_event (Commits kind) alive was follows = calm_event (Commits kind) (λ granted done moves. cc) follows ∙ (was ∙ sym (commit_stored w.now.shape w.now.places w.now.keeper f kind place))
  alive_event Turns alive was follows = calm_event Turns (λ granted done moves. cc) follows ∙ (was ∙ sym (turn_stored w.now.shape w.now.places w.now.keeper f place))
  alive_event (KeeperMoves granted done) alive was follows =
      let ask : Ask KeeperTold = keeper_ask w.now.shape w.now.places w.now.keeper in
      ap (λ (words : List ℕ). word_at words place) (keeper_writes w granted done alive)
      ∙ (follows.own ∙ (ap (λ (word : ℕ). stored_by ask place word) was ∙ sym (steps_stored w.now.shape w.now.places (near w.now w.now.keeper) granted done (read_by_keeper w) ask f place refl)))
  alive_event Crashes alive was follows = calm_event Crashes (λ granted done moves. cc) follows ∙ (was ∙ sym (no_stores w.now.shape w.now.places w.now.keeper f place))

  by_life : (event : Event) (crashed : Bool) → w.now.crashed ≡ crashed → word_at w.now.words place ≡ f place → Follows w place
      → word_at (happens w event).now.words place ≡ stored_last w.now.shape w.now.places w.now.keeper f (if crashed then [] else keeper_part w.now.shape w.now.places (read_by_keeper w) (near w.now w.now.keeper) event) place
  by_life event true over was follows = ap (λ (x : World). word_at x.now.words place) (is_over w event over) ∙ (was ∙ sym (no_stores w.now.shape w.now.places w.now.keeper f place))
  by_life event false alive was follows = alive_event event alive was follows

  durable_event : (event : Event) → word_at w.now.words place ≡ f place → Follows w place
      → word_at (happens w event).now.words place ≡ stored_last w.now.shape w.now.places w.now.keeper f (keeper_part_of w event) place
  durable_event event was follows = by_life event w.now.crashed refl was follows

-- ---- every life
there_now : (opening : World) (events : List Event) (number : ℕ) → number < opening.now.places.sessions → IsThere (run opening events).now.places number Durable (session_place number own.Durable)
there_now opening events number seat = record {
  seat = subst (λ (p : Places). number < p.sessions) (sym (places_stay opening events)) seat;
  among = record { from = omega arith; to = omega arith };
}

low_now : (opening : World) (events : List Event) (number : ℕ) → HasItsWords opening.now → number < opening.now.places.sessions → session_place number own.Durable < length (run opening events).now.words
low_now opening events number words seat =
    subst (λ (count : ℕ). session_place number own.Durable < count) (sym (length_stays opening events))
    (few_places opening.now.places (length opening.now.words) number (session_place number own.Durable) seat words (omega arith))

follows_now : (opening : World) (events : List Event) (number : ℕ) → IsOpenedWorld opening → HasItsWords opening.now → number < opening.now.places.sessions → Follows (run opening events) (session_place number own.Durable)
follows_now opening events number opened words seat =
    let n : Now = (run opening events).now in
    let place : ℕ = session_place number own.Durable in
    let there : IsThere n.places number Durable place = there_now opening events number seat in
    let few : place < length n.words = low_now opening events number words seat in
    record {
      own = followed_word n.places number Durable n.words (keeper_ask n.shape n.places n.keeper) place there few (keeper_own opening events number opened (is_storing number n.keeper n.keeper.step refl));
      sessions = λ at t got. spared_word n.places number Durable n.words (session_ask (seat_at n at) t) place there few (session_spares (seat_at n at) t number (sparing_now opening events at t opened got));
    }

pub life_durable : (opening : World) (events : List Event) (number : ℕ) → IsOpenedWorld opening → HasItsWords opening.now → number < opening.now.places.sessions
    → word_now opening events (session_place number own.Durable) ≡ stored_by_keeper opening events (session_place number own.Durable)
unfolding run keeper_events
life_durable opening [] number opened words seat = sym (no_stores opening.now.shape opening.now.places opening.now.keeper (λ at. word_at opening.now.words at) (session_place number own.Durable))
life_durable opening (event ∷ before) number opened words seat =
    let place : ℕ = session_place number own.Durable in
    let w : World = run opening before in
    let f : ℕ → ℕ = λ at. word_at opening.now.words at in
    let own : List KeeperEvent = keeper_events opening before in
    let g : ℕ → ℕ = λ at. stored_last opening.now.shape opening.now.places opening.now.keeper f own at in
    durable_event w place g event (life_durable opening before number opened words seat) (follows_now opening before number opened words seat)
    ∙ (ap (λ (shape : Shape). stored_last shape w.now.places w.now.keeper g (keeper_part_of w event) place) (shape_stays opening before)
    ∙ (ap (λ (p : Places). stored_last opening.now.shape p w.now.keeper g (keeper_part_of w event) place) (places_stay opening before)
    ∙ (ap (λ (s : KeeperState). stored_last opening.now.shape opening.now.places s g (keeper_part_of w event) place) (keeper_runs opening before)
    ∙ sym (stored_on opening.now.shape opening.now.places opening.now.keeper f (keeper_part_of w event) own place))))

-- so it is a point of the newest finished commit, or of the one that finishes
pub life_shows : (opening : World) (events : List Event) (number : ℕ) → IsOpenedWorld opening → HasItsWords opening.now → ShowsDurable opening.now → number < opening.now.places.sessions
    → word_now opening events (session_place number own.Durable) ≡ durable_at (run opening events).now.keeper (run opening events).now.keeper.step number
life_shows opening events number opened words shows seat =
    let same = shows.sessions in
    life_durable opening events number opened words seat
    ∙ (run_shows opening.now.shape opening.now.places number opening.now.keeper (λ at. word_at opening.now.words at) (keeper_events opening events) opened.keeper (omega (arith, same, seat)) (shows.points number seat)
    ∙ ap (λ (s : KeeperState). durable_at s s.step number) (sym (keeper_runs opening events)))

-- ---- what an event leaves of it
-- the point of the commit that finishes is stored there
pub record IsStoredNow (s : KeeperState) (number word : ℕ) : Type 0 where
  pub finishes : s.step ≡ Finishes
  pub stores : s.finish.step ≡ finishing.StoresDurable number
  pub is : word ≡ point_of (slice_get s.seek.points number)

asks_store : (shape : Shape) (p : Places) (s : KeeperState) (number : ℕ) → s.step ≡ Finishes → s.finish.step ≡ finishing.StoresDurable number → keeper_ask shape p s ≡ Store (session_place number own.Durable) (point_of (slice_get s.seek.points number))
unfolding keeping_ask finishing_ask passed
asks_store shape p s number finishes stores = rw (finishes, stores) refl

stored_there : (place word before : ℕ) → stored_by {A = KeeperTold} (Store place word) place before ≡ word
stored_there place word before = let here : (place == place) ≡ true = grind (arith, nat_tests) in rw here refl

module _ (opening : World) (event : Event) (before : List Event) (number : ℕ) (opened : IsOpenedWorld opening) (words : HasItsWords opening.now) (seat : number < opening.now.places.sessions) where
  abbrev here_now : Now
  here_now = (run opening before).now

  abbrev place : ℕ
  place = session_place number own.Durable

  abbrev IsDurableLeft : ℕ → Type 0
  IsDurableLeft word = (word ≡ word_now opening before place) ⊎ IsStoredNow here_now.keeper number word

  follows_here : Follows (run opening before) place
  follows_here = follows_now opening before number opened words seat

  keeper_left : IsStoring number here_now.keeper → IsDurableLeft (word_at (words_after here_now.words (keeper_ask here_now.shape here_now.places here_now.keeper)) place)
  keeper_left (Storing finishes stores) =
      let asks = asks_store here_now.shape here_now.places here_now.keeper number finishes stores in
      inr (record {
        finishes = finishes;
        stores = stores;
        is = follows_here.own ∙ (ap (λ (ask : Ask KeeperTold). stored_by ask place (word_now opening before place)) asks ∙ stored_there place (point_of (slice_get here_now.keeper.seek.points number)) (word_now opening before place));
      })
  keeper_left (StoringNone other) =
      let spares = keeper_spares (TheDurable number) opening before (λ e. cc) opened.keeper tt tt (λ session e. cc) (finishes_not here_now.keeper number other) in
      inl (spared_word here_now.places number Durable here_now.words (keeper_ask here_now.shape here_now.places here_now.keeper) place (there_now opening before number seat) (low_now opening before number words seat) spares)

  pub durable_left : IsDurableLeft (word_now opening (event ∷ before) place)
  unfolding run
  durable_left =
      event_words (λ (xs : List ℕ). IsDurableLeft (word_at xs place)) (run opening before) event (inl refl) (record {
        session = λ at t moves found. inl (follows_here.sessions at t found);
        keeper = λ granted done moves. keeper_left (is_storing number here_now.keeper here_now.keeper.step refl);
      })
