-- An event of another actor leaves a machine as it was, and one of its own goes by that machine, the words and the actions alone.
use Rattle.std.proofs.Common.{◌≡◌, ◌≢◌, ℕ, ◌∙◌, ◌++◌, List, [], ◌∷◌, refl, ap, Bool, true, false, arith}
use Rattle.std.specs.Prelude.{Option, Some, None, slice_get, ◌==◌}
use Rattle.std.proofs.lemmas.Bool.Decides.{nat_tests}
use Rattle.fkv_epoch.proofs.Shown.{item_written, item_spared}
use Rattle.fkv_session.specs.Sessions.{SessionState}
use Rattle.fkv_world.specs.Actors.{is_of_session, is_of_keeper, NoneOfSession, NoneOfKeeper, session_goes, keeper_goes}
use Rattle.fkv_world.specs.Past.{life_past}
use Rattle.fkv_world.specs.Runs.{World, happens, read_by_keeper, run}
use Rattle.fkv_world.specs.World.{Event, Calls, Moves, Commits, Turns, KeeperMoves, Crashes, Now, seat_at, near, with_session, with_keeper, session_calls, session_moves, life_goes}

-- before a crash an event goes its way, and behind one nothing does
pub lives : (w : World) (event : Event) → w.now.crashed ≡ false → (happens w event).now ≡ life_goes w.now (read_by_keeper w) event
lives w event e = rw e refl

pub is_over : (w : World) (event : Event) → w.now.crashed ≡ true → happens w event ≡ w
is_over w event e = rw e refl

-- a world that goes on
unfoldable pub world_of : World → Event → Now → World
world_of w event after = record { now = after; past = life_past w.now after event w.past }

pub lived : (w : World) (event : Event) → w.now.crashed ≡ false → happens w event ≡ world_of w event (life_goes w.now (read_by_keeper w) event)
unfolding world_of
lived w event e = rw e refl

-- what holds of a world after an event holds where life goes on, and where it is over
abbrev IsKept : {A : Type 0} → (Now → A) → World → Event → Type 0
IsKept part w event = part (happens w event).now ≡ part w.now

kept : {A : Type 0} (part : Now → A) (w : World) (event : Event) (crashed : Bool) → w.now.crashed ≡ crashed
    → part (life_goes w.now (read_by_keeper w) event) ≡ part w.now → part (happens w event).now ≡ part w.now
kept part w event true e same = ap (λ (x : World). part x.now) (is_over w event e)
kept part w event false e same = ap part (lives w event e) ∙ same

other_number : (s number : ℕ) → (number == s) ≡ false → s ≢ number
other_number s number e = λ same. grind (arith, nat_tests, e, same)

called_other : (n : Now) (s number : ℕ) (found : Option SessionState) (call : _) → s ≢ number → slice_get (session_calls n number call found).sessions s ≡ slice_get n.sessions s
called_other n s number None call other = refl
called_other n s number (Some x) call other = item_spared n.sessions number s _ other

moved_other : (n : Now) (s number : ℕ) (found : Option SessionState) → s ≢ number → slice_get (session_moves n number found).sessions s ≡ slice_get n.sessions s
moved_other n s number None other = refl
moved_other n s number (Some x) other = item_spared n.sessions number s _ other

goes_other : (n : Now) (read : List ℕ) (event : Event) (s : ℕ) → is_of_session s event ≡ false → slice_get (life_goes n read event).sessions s ≡ slice_get n.sessions s
unfolding life_goes
goes_other n read (Calls number call) s e = called_other n s number (slice_get n.sessions number) call (other_number s number e)
goes_other n read (Moves number) s e = moved_other n s number (slice_get n.sessions number) (other_number s number e)
goes_other n read (Commits kind) s e = refl
goes_other n read Turns s e = refl
goes_other n read (KeeperMoves granted done) s e = refl
goes_other n read Crashes s e = refl

pub session_apart : (w : World) (event : Event) (s : ℕ) → is_of_session s event ≡ false → slice_get (happens w event).now.sessions s ≡ slice_get w.now.sessions s
session_apart w event s e = kept (λ n. slice_get n.sessions s) w event w.now.crashed refl (goes_other w.now (read_by_keeper w) event s e)

called_keeper : (n : Now) (number : ℕ) (found : Option SessionState) (call : _) → (session_calls n number call found).keeper ≡ n.keeper
called_keeper n number None call = refl
called_keeper n number (Some x) call = refl

moved_keeper : (n : Now) (number : ℕ) (found : Option SessionState) → (session_moves n number found).keeper ≡ n.keeper
moved_keeper n number None = refl
moved_keeper n number (Some x) = refl

goes_keeper : (n : Now) (read : List ℕ) (event : Event) → is_of_keeper event ≡ false → (life_goes n read event).keeper ≡ n.keeper
unfolding life_goes
goes_keeper n read (Calls number call) e = called_keeper n number (slice_get n.sessions number) call
goes_keeper n read (Moves number) e = moved_keeper n number (slice_get n.sessions number)
goes_keeper n read (Commits kind) e = cc
goes_keeper n read Turns e = cc
goes_keeper n read (KeeperMoves granted done) e = cc
goes_keeper n read Crashes e = refl

pub keeper_apart : (w : World) (event : Event) → is_of_keeper event ≡ false → (happens w event).now.keeper ≡ w.now.keeper
keeper_apart w event e = kept (λ n. n.keeper) w event w.now.crashed refl (goes_keeper w.now (read_by_keeper w) event e)

-- over a list of others' events
pub session_aparts : (opening : World) (later before : List Event) (s : ℕ) → NoneOfSession s later → slice_get (run opening (later ++ before)).now.sessions s ≡ slice_get (run opening before).now.sessions s
unfolding run
session_aparts opening [] before s none = refl
session_aparts opening (event ∷ later) before s none = session_apart (run opening (later ++ before)) event s none.0 ∙ session_aparts opening later before s none.1

pub keeper_aparts : (opening : World) (later before : List Event) → NoneOfKeeper later → (run opening (later ++ before)).now.keeper ≡ (run opening before).now.keeper
unfolding run
keeper_aparts opening [] before none = refl
keeper_aparts opening (event ∷ later) before none = keeper_apart (run opening (later ++ before)) event none.0 ∙ keeper_aparts opening later before none.1

-- the store stays the one that it is
goes_shape : (n : Now) (read : List ℕ) (event : Event) → ((life_goes n read event).shape ≡ n.shape) × ((life_goes n read event).places ≡ n.places)
unfolding life_goes
goes_shape n read (Calls number call) = its (slice_get n.sessions number)
  where
    its : (found : Option SessionState) → ((session_calls n number call found).shape ≡ n.shape) × ((session_calls n number call found).places ≡ n.places)
    its None = (refl, refl)
    its (Some x) = (refl, refl)
goes_shape n read (Moves number) = its (slice_get n.sessions number)
  where
    its : (found : Option SessionState) → ((session_moves n number found).shape ≡ n.shape) × ((session_moves n number found).places ≡ n.places)
    its None = (refl, refl)
    its (Some x) = (refl, refl)
goes_shape n read (Commits kind) = (refl, refl)
goes_shape n read Turns = (refl, refl)
goes_shape n read (KeeperMoves granted done) = (refl, refl)
goes_shape n read Crashes = (refl, refl)

pub shape_stays : (opening : World) (events : List Event) → (run opening events).now.shape ≡ opening.now.shape
unfolding run
shape_stays opening [] = refl
shape_stays opening (event ∷ before) =
    kept (λ n. n.shape) (run opening before) event (run opening before).now.crashed refl (goes_shape (run opening before).now (read_by_keeper (run opening before)) event).0 ∙ shape_stays opening before

pub places_stay : (opening : World) (events : List Event) → (run opening events).now.places ≡ opening.now.places
unfolding run
places_stay opening [] = refl
places_stay opening (event ∷ before) =
    kept (λ n. n.places) (run opening before) event (run opening before).now.crashed refl (goes_shape (run opening before).now (read_by_keeper (run opening before)) event).1 ∙ places_stay opening before

-- an event of its own
goes_session : (n : Now) (read : List ℕ) (event : Event) (s : ℕ) (x : SessionState) → is_of_session s event ≡ true → slice_get n.sessions s ≡ Some x
    → life_goes n read event ≡ with_session n s (session_goes (seat_at n s) (near n x) event)
unfolding life_goes session_goes
goes_session n read (Calls number call) s x e found = let same : number ≡ s = grind (arith, nat_tests, e) in rw same (rw found refl)
goes_session n read (Moves number) s x e found = let same : number ≡ s = grind (arith, nat_tests, e) in rw same (rw found refl)
goes_session n read (Commits kind) s x e found = cc
goes_session n read Turns s x e found = cc
goes_session n read (KeeperMoves granted done) s x e found = cc
goes_session n read Crashes s x e found = cc

pub session_own : (w : World) (event : Event) (s : ℕ) (x : SessionState) → is_of_session s event ≡ true → w.now.crashed ≡ false → slice_get w.now.sessions s ≡ Some x
    → (happens w event).now ≡ with_session w.now s (session_goes (seat_at w.now s) (near w.now x) event)
session_own w event s x e alive found = lives w event alive ∙ goes_session w.now (read_by_keeper w) event s x e found

goes_keepers : (n : Now) (read : List ℕ) (event : Event) → is_of_keeper event ≡ true → life_goes n read event ≡ with_keeper n (keeper_goes n.shape n.places read (near n n.keeper) event)
unfolding life_goes keeper_goes
goes_keepers n read (Calls number call) e = cc
goes_keepers n read (Moves number) e = cc
goes_keepers n read (Commits kind) e = refl
goes_keepers n read Turns e = refl
goes_keepers n read (KeeperMoves granted done) e = refl
goes_keepers n read Crashes e = cc

pub keeper_own : (w : World) (event : Event) → is_of_keeper event ≡ true → w.now.crashed ≡ false
    → (happens w event).now ≡ with_keeper w.now (keeper_goes w.now.shape w.now.places (read_by_keeper w) (near w.now w.now.keeper) event)
keeper_own w event e alive = lives w event alive ∙ goes_keepers w.now (read_by_keeper w) event e

-- the session is there still
pub session_written : (w : World) (event : Event) (s : ℕ) (x : SessionState) → is_of_session s event ≡ true → w.now.crashed ≡ false → slice_get w.now.sessions s ≡ Some x
    → slice_get (happens w event).now.sessions s ≡ Some (session_goes (seat_at w.now s) (near w.now x) event).machine
session_written w event s x e alive found = ap (λ (n : Now). slice_get n.sessions s) (session_own w event s x e alive found) ∙ item_written w.now.sessions s x _ found
