-- Each step of a life that begins as a store was opened spares the latches.
use Rattle.std.proofs.Common.{◌≡◌, ℕ, ◌∙◌, refl, sym, ap, subst, arith, inl, inr, List, [], ◌∷◌, length, Bool, true, false}
use Rattle.std.specs.Prelude.{if◌then◌else◌, ◌==◌, Option, Some, None, slice_get}
use Rattle.std.proofs.lemmas.Bool.Decides.{nat_tests}
use Rattle.fkv_plane.specs.declared.asks.Ask.{Ask}
use Rattle.fkv_plane.specs.declared.asks.Ask.TheVariants.{Load, Store, Swap, Cas, Add, Max, Put, Take, Done}
use Rattle.fkv_plane.specs.declared.places.Places.{Places}
use Rattle.fkv_plane.specs.Asked.{word_at}
use Rattle.fkv_latch.specs.LatchWorld.{LatchWorld, has_latch, latch_of}
use Rattle.fkv_latch.specs.Latched.{opening}
use Rattle.law_world.specs.Below.fkv_keeper.Keeping.{keeper_ask}
use Rattle.law_world.specs.Below.fkv_session.Sessions.{SessionState, Seat, session_ask}
use Rattle.law_world.specs.Below.fkv_world.Runs.{World, run}
use Rattle.law_world.specs.Below.fkv_world.World.{Event, Calls, Moves, Commits, Turns, KeeperMoves, Crashes, Now, seat_at}
use Rattle.law_refine.specs.Latches.Shows.{SparesLatches, SessionSpares, IsPermitted, ArePermitted, IsOpened, seen_by_latches}
use Rattle.law_refine.specs.Footprint.{TheLatches, Spares}
use Rattle.law_refine.proofs.Footprint.Lives.{keeper_spares}
use Rattle.law_refine.proofs.Footprint.Sessions.{IsSessionSparing, SessionRests, session_asks_spares, session_run_spares}
use Rattle.law_refine.proofs.OfLatches.Worlds.{Holds, seat_there, opening_holds, run_holds}

-- a Cas that is lost keeps its word, and one that is won its bits
cas_keeps : (n old new : ℕ) → latch_of new ≡ latch_of old → latch_of (if n == old then new else n) ≡ latch_of n
cas_keeps n old new same = by_test (n == old) refl
  where
    by_test : (b : Bool) → (n == old) ≡ b → latch_of (if b then new else n) ≡ latch_of n
    by_test true e = let its : n ≡ old = grind (arith, nat_tests, e) in same ∙ ap (λ (word : ℕ). latch_of word) (sym its)
    by_test false e = refl

elsewhere : {X : Type 0} (p : Places) (place : ℕ) → has_latch p place ≡ false → has_latch p place ≡ true → X
elsewhere p place none has = let clash : true ≡ false = sym has ∙ none in cc

leaves_latches : {A : Type 0} (p : Places) (words : List ℕ) (ask : Ask A) → Spares TheLatches p ask → SparesLatches p words ask
leaves_latches p words (Load place) none = λ has. refl
leaves_latches p words (Store place word) none = λ has. elsewhere p place none has
leaves_latches p words (Swap place word) none = λ has. elsewhere p place none has
leaves_latches p words (Cas place old new) (inl none) = λ has. elsewhere p place none has
leaves_latches p words (Cas place old new) (inr same) = λ has. cas_keeps (word_at words place) old new same
leaves_latches p words (Add place k) (inl none) = none
leaves_latches p words (Add place k) (inr its) = absurd its
leaves_latches p words (Max place k) none = λ has. elsewhere p place none has
leaves_latches p words (Put slot action) none = tt
leaves_latches p words (Take slot) none = tt
leaves_latches p words (Done its) none = tt

-- a session is at each moment where its own run leads
session_spares : (n : Now) (w : LatchWorld) (i : ℕ) (found : Option SessionState) → slice_get n.sessions i ≡ found → Holds n w → SessionSpares n i found
session_spares n w i None there holds = tt
session_spares n w i (Some s) there holds = λ rests.
    let k : Seat = seat_at n i in
    let came = (holds.seats i s there).sits.came in
    let spared : IsSessionSparing n.places s = subst (λ (x : SessionState). IsSessionSparing n.places x) (sym came.same) (session_run_spares k came.opening came.events came.opened) in
    let others : SessionRests TheLatches k s = record { knows = λ e. cc; search = λ e. cc; entry = λ e. cc; latch = λ e. rests; mail = λ e. cc; marks = λ e. cc; phase = λ e. cc } in
    leaves_latches n.places n.words (session_ask k s) (session_asks_spares TheLatches k s (seat_there n w i s holds there) spared others)

-- so is the keeper
keeper_spared : (first : World) (events : List Event) → IsOpened first.now
    → SparesLatches (run first events).now.places (run first events).now.words (keeper_ask (run first events).now.shape (run first events).now.places (run first events).now.keeper)
keeper_spared first events opened =
    let n : Now = (run first events).now in
    let served = opened.served in
    let finished = opened.finished in
    leaves_latches n.places n.words (keeper_ask n.shape n.places n.keeper) (keeper_spares TheLatches first events (λ e. cc) opened.keeper (omega (arith, served)) (omega (arith, served, finished)) (λ session e. cc) (λ finishes session e. cc))

is_permitted : (first : World) (before : List Event) (event : Event) (w : LatchWorld) → IsOpened first.now → Holds (run first before).now w → IsPermitted (run first before).now event
is_permitted first before (Moves i) w opened holds = session_spares (run first before).now w i (slice_get (run first before).now.sessions i) refl holds
is_permitted first before (KeeperMoves granted done) w opened holds = keeper_spared first before opened
is_permitted first before (Calls i call) w opened holds = tt
is_permitted first before (Commits kind) w opened holds = tt
is_permitted first before Turns w opened holds = tt
is_permitted first before Crashes w opened holds = tt

-- every life
holds_then : (first : World) (events : List Event) → IsOpened first.now → ArePermitted first events → Holds (run first events).now (seen_by_latches first events)
holds_then first events opened permitted = run_holds first events (opening first.now.places (length first.now.sessions) first.now.words) permitted (opening_holds first.now opened)

pub are_permitted : (first : World) (events : List Event) → IsOpened first.now → ArePermitted first events
are_permitted first [] opened = tt
are_permitted first (event ∷ before) opened =
    let permitted = are_permitted first before opened in
    (is_permitted first before event (seen_by_latches first before) opened (holds_then first before opened permitted), permitted)

pub life_holds : (first : World) (events : List Event) → IsOpened first.now → Holds (run first events).now (seen_by_latches first events)
life_holds first events opened = holds_then first events opened (are_permitted first events opened)
