-- Each event of the engine keeps what the world of latches shows of it, and so does every life.
use Rattle.std.proofs.Common.{◌≡◌, ℕ, zero, suc, ◌^◌, ◌<◌, ◌≤◌, ◌∙◌, refl, sym, ap, subst, arith, List, [], ◌∷◌, length, Bool, true, false, length-set}
use Rattle.std.specs.Prelude.{if◌then◌else◌, Option, Some, None, slice_get, slice_set, replicate}
use Rattle.fkv_base.specs.Limits.{max_sessions}
use Rattle.fkv_base.specs.declared.shapes.Shape.{Shape}
use Rattle.fkv_map.specs.declared.operations.Call.{Call}
use Rattle.fkv_plane.specs.declared.asks.Ask.{Ask}
use Rattle.fkv_plane.specs.declared.asks.Ask.TheVariants.{Load, Store, Swap, Cas, Add, Max, Put, Take, Done}
use Rattle.fkv_plane.specs.declared.places.Places.{Places}
use Rattle.fkv_plane.specs.Asked.{words_after, reply_to}
use Rattle.fkv_index.proofs.Shown.{homes_are_there}
use Rattle.fkv_latch.specs.declared.latching.Latching.TheVariants as latching
use Rattle.fkv_latch.specs.LatchWorld.{LatchActor, LatchWorld, replied, latch_run}
use Rattle.fkv_latch.specs.Latched.{opening}
use Rattle.fkv_latch.proofs.Shown.{IsSound, run_sound, opening_sound}
use Rattle.law_world.specs.Below.fkv_keeper.KeeperTold.{KeeperTold}
use Rattle.law_world.specs.Below.fkv_keeper.KeeperTold.TheVariants.{Device}
use Rattle.law_world.specs.Below.fkv_keeper.Keeping.{KeeperState, keeper_ask}
use Rattle.law_world.specs.Below.fkv_session.Sitting.{Sitting}
use Rattle.law_world.specs.Below.fkv_session.Sitting.TheVariants.{Idle}
use Rattle.law_world.specs.Below.fkv_session.Sessions.{SessionState, Seat, bits_of, is_busy, session_ask, session_begun}
use Rattle.law_world.specs.Below.fkv_session.SessionRun.{Begins, begins, session_happens, session_run}
use Rattle.law_world.specs.Below.fkv_session.Shares.{times_added}
use Rattle.law_world.specs.Below.fkv_world.World.{Event, Calls, Moves, Commits, Turns, KeeperMoves, Crashes, Now, seat_at, near, with_session, session_calls, session_moves, life_goes, happens_now}
use Rattle.law_world.specs.Below.fkv_world.Moves.{Near, session_moved, keeper_settled, keeper_replied, keeper_asks}
use Rattle.law_world.specs.Below.fkv_world.Runs.{World, run, read_by_keeper}
use Rattle.law_world.proofs.OfGuardSessions.AttemptsOuter.{HomesAreLow}
use Rattle.law_refine.specs.Latches.Latchers.{session_latching, sitting_latching, sitting_alone}
use Rattle.law_refine.specs.Latches.LatchEvents.{begun_at, asked_by, changed_by, moved_events, called_events, life_events, latch_events, mapped}
use Rattle.law_refine.specs.Latches.Shows.{SparesLatches, SessionSpares, IsPermitted, ArePermitted, IsOpened}
use Rattle.law_refine.proofs.Items.{Here, There, set_at, get_set, get_other, set_twice, there_low}
use Rattle.law_refine.proofs.OfLatches.SessionLatches.{SittingKnows, begun_led}
use Rattle.law_refine.proofs.OfLatches.Seats.{Stands, Sits, set_same, task_begins}
use Rattle.law_refine.proofs.OfLatches.Moved.{runs_on, spared_run, asked_run, moves_on}

-- a session with its actor
pub record Seated (n : Now) (w : LatchWorld) (i : ℕ) (s : SessionState) : Type 0 where
  pub actor : LatchActor
  pub got : slice_get w.actors i ≡ Some actor
  pub sits : Sits (seat_at n i) s actor

-- what stands between events
pub record Holds (n : Now) (w : LatchWorld) : Type 0 where
  pub places : w.places ≡ n.places
  pub words : w.words ≡ n.words
  pub sound : IsSound w
  pub buckets : n.places.buckets ≡ 2 ^ n.shape.bucket_bits
  pub few : length n.sessions ≤ n.places.sessions
  pub seats : (i : ℕ) (s : SessionState) → slice_get n.sessions i ≡ Some s → Seated n w i s

-- a session's number is one of the store's
pub seat_there : (n : Now) (w : LatchWorld) (i : ℕ) (s : SessionState) → Holds n w → slice_get n.sessions i ≡ Some s → i < n.places.sessions
seat_there n w i s holds there =
    let low = there_low n.sessions i s there in
    let few = holds.few in
    omega (arith, low, few)

seat_low : (n : Now) (w : LatchWorld) (i : ℕ) (s : SessionState) → Holds n w → slice_get n.sessions i ≡ Some s → i < max_sessions
seat_low n w i s holds there =
    let low = seat_there n w i s holds there in
    let most = n.places.few_sessions in
    omega (arith, low, most)

-- one session has gone on, and its actor with it
session_put : (n : Now) (w : LatchWorld) (i : ℕ) (s : SessionState) (its : Near SessionState) (a c : LatchActor) (after : LatchWorld) → Holds n w → slice_get n.sessions i ≡ Some s → slice_get w.actors i ≡ Some a
    → after ≡ record w { words = its.words; actors = slice_set w.actors i c } → IsSound after → Sits (seat_at n i) its.machine c → Holds (with_session n i its) after
session_put n w i s its a c after holds there got same sound sits = subst (λ (x : LatchWorld). Holds (with_session n i its) x) (sym same) (record {
  places = holds.places;
  words = refl;
  sound = subst IsSound same sound;
  buckets = holds.buckets;
  few = rw (length-set n.sessions i its.machine) holds.few;
  seats = λ j t at. elim (set_at n.sessions i j its.machine t at) [
    | Here here is ↦ rw (here, is) (record { actor = c; got = get_set w.actors i a c got; sits = sits })
    | There other at' ↦ (let seat = holds.seats j t at' in record { actor = seat.actor; got = get_other w.actors i j c other ∙ seat.got; sits = seat.sits })
  ];
})

homes_low : (p : Places) (bits : ℕ) → p.buckets ≡ 2 ^ bits → HomesAreLow p bits
homes_low p bits same = λ key. (homes_are_there p bits key same).few

idle_free : (p : Places) (s : SessionState) (step : Sitting) → is_busy step ≡ false → (sitting_latching s step ≡ latching.AtRest) × (sitting_alone p s step ≡ [])
idle_free p s (Idle its) idle = (refl, refl)
idle_free p s step idle = cc

-- a call that begins
begun_stands : (k : Seat) (s : SessionState) (a : LatchActor) (call : Call) → HomesAreLow k.places (bits_of k) → is_busy s.step ≡ false → Sits k s a → Stands k (session_begun k s call) a
unfolding session_run session_happens times_added
begun_stands k s a call homes idle sits =
    let led = begun_led k s call homes in
    let free = idle_free k.places s s.step idle in
    let came = sits.came in
    record {
      knows = led.knows;
      fits = rw (sits.step ∙ free.0, sits.alone ∙ free.1) led.fits;
      came = record {
        its = came.its;
        opening = came.opening;
        events = Begins call ∷ came.events;
        opened = came.opened;
        same = ap (λ b. begins k s b call) (sym idle) ∙ ap (λ (x : SessionState). begins k x (is_busy x.step) call) came.same;
        counts = λ at has. let before = came.counts at has in omega (arith, before);
      };
    }

session_called_holds : (n : Now) (w : LatchWorld) (i : ℕ) (call : Call) (found : Option SessionState) → slice_get n.sessions i ≡ found → Holds n w → Holds (session_calls n i call found) (latch_run w (called_events n i call found))
unfolding latch_run
session_called_holds n w i call None there holds = holds
session_called_holds n w i call (Some s) there holds = by_busy (is_busy s.step) refl
  where
    by_busy : (b : Bool) → is_busy s.step ≡ b
        → Holds (with_session n i (near n (if b then s else session_begun (seat_at n i) s call))) (latch_run w (if b then [] else begun_at i (session_latching (if b then s else session_begun (seat_at n i) s call))))
    by_busy true e =
        let seat = holds.seats i s there in
        let still : w ≡ record w { words = n.words; actors = slice_set w.actors i seat.actor } = rw (set_same w.actors i seat.actor seat.got, sym holds.words) refl in
        session_put n w i s (near n s) seat.actor seat.actor w holds there seat.got still holds.sound seat.sits
    by_busy false e =
        let seat = holds.seats i s there in
        let k : Seat = seat_at n i in
        let low = seat_low n w i s holds there in
        let stands = begun_stands k s seat.actor call (homes_low n.places n.shape.bucket_bits holds.buckets) e seat.sits in
        let begun = task_begins k (session_begun k s call) seat.actor w i holds.places seat.got holds.sound low stands in
        let same = begun.same ∙ ap (λ (x : List ℕ). record w { words = x; actors = slice_set w.actors i begun.actor }) holds.words in
        session_put n w i s (near n (session_begun k s call)) seat.actor begun.actor _ holds there seat.got same (run_sound w (begun_at i (session_latching (session_begun k s call))) holds.sound) begun.sits

-- a session's step
moved_holds : (n : Now) (w : LatchWorld) (i : ℕ) (found : Option SessionState) → slice_get n.sessions i ≡ found → SessionSpares n i found → Holds n w → Holds (session_moves n i found) (latch_run w (moved_events n i found))
unfolding latch_run
moved_holds n w i None there permitted holds = holds
moved_holds n w i (Some s) there permitted holds =
    let k : Seat = seat_at n i in
    let seat = holds.seats i s there in
    let low = seat_low n w i s holds there in
    let ask : Ask _ = session_ask k s in
    let after : Near SessionState = session_moved k (near n s) in
    let moved = moves_on k (near n s) seat.actor ask (homes_low n.places n.shape.bucket_bits holds.buckets) refl permitted seat.sits in
    let permitted_there : session_latching s ≡ latching.AtRest → SparesLatches w.places w.words ask = λ e. rw (holds.places, holds.words) (permitted e) in
    let main_there = asked_run k s seat.actor w i _ refl seat.got seat.sits.step permitted_there in
    let main : latch_run w (asked_by n.words i (session_latching s) ask) ≡ record w { words = words_after n.words ask; actors = slice_set w.actors i (replied seat.actor (reply_to n.words ask)) } =
    subst (λ (x : List ℕ). latch_run w (asked_by x i (session_latching s) ask) ≡ record w { words = words_after x ask; actors = slice_set w.actors i (replied seat.actor (reply_to x ask)) }) holds.words main_there in
    let behind : LatchWorld = record w { words = words_after n.words ask; actors = slice_set w.actors i (replied seat.actor (reply_to n.words ask)) } in
    let sound : IsSound behind = subst IsSound main (run_sound w (asked_by n.words i (session_latching s) ask) holds.sound) in
    let begun = task_begins k after.machine (replied seat.actor (reply_to n.words ask)) behind i holds.places (get_set w.actors i seat.actor (replied seat.actor (reply_to n.words ask)) seat.got) sound low moved.stands in
    let whole : latch_run w (moved_events n i (Some s)) ≡ latch_run behind (begun_at i (session_latching after.machine)) =
    runs_on w (begun_at i (session_latching after.machine)) (asked_by n.words i (session_latching s) ask) ∙ ap (λ (x : LatchWorld). latch_run x (begun_at i (session_latching after.machine))) main in
    let its : latch_run w (moved_events n i (Some s)) ≡ record w { words = after.words; actors = slice_set w.actors i begun.actor } =
    whole ∙ begun.same ∙ ap (λ (x : List LatchActor). record w { words = words_after n.words ask; actors = x }) (set_twice w.actors i (replied seat.actor (reply_to n.words ask)) begun.actor)
    ∙ ap (λ (x : List ℕ). record w { words = x; actors = slice_set w.actors i begun.actor }) (sym moved.words) in
    session_put n w i s after seat.actor begun.actor _ holds there seat.got its (run_sound w (moved_events n i (Some s)) holds.sound) begun.sits

-- the keeper's step changes no word but that of its ask
settled_words : (shape : Shape) (p : Places) (granted : Bool) (n : Near KeeperState) (ask : Ask KeeperTold) → (keeper_settled shape p granted n ask).words ≡ n.words
unfolding keeper_settled
settled_words shape p granted n (Put slot action) = refl
settled_words shape p granted n (Take slot) = refl
settled_words shape p granted n (Load place) = refl
settled_words shape p granted n (Store place word) = refl
settled_words shape p granted n (Swap place word) = refl
settled_words shape p granted n (Cas place old new) = refl
settled_words shape p granted n (Add place number) = refl
settled_words shape p granted n (Max place number) = refl
settled_words shape p granted n (Done its) = refl

done_words : (shape : Shape) (p : Places) (granted done : Bool) (read : List ℕ) (n : Near KeeperState) (its : KeeperTold) → (keeper_asks shape p granted done read n (Done its)).words ≡ n.words
unfolding keeper_asks
done_words shape p granted done read n Device = refl
done_words shape p granted done read n its = refl

keeper_words : (shape : Shape) (p : Places) (granted done : Bool) (read : List ℕ) (n : Near KeeperState) (ask : Ask KeeperTold) → (keeper_asks shape p granted done read n ask).words ≡ words_after n.words ask
unfolding keeper_asks
keeper_words shape p granted done read n (Done its) = done_words shape p granted done read n its
keeper_words shape p granted done read n (Put slot action) = settled_words shape p granted n (Put slot action)
keeper_words shape p granted done read n (Take slot) = settled_words shape p granted n (Take slot)
keeper_words shape p granted done read n (Load place) = settled_words shape p granted (keeper_replied shape p granted n (Load place)) _
keeper_words shape p granted done read n (Store place word) = settled_words shape p granted (keeper_replied shape p granted n (Store place word)) _
keeper_words shape p granted done read n (Swap place word) = settled_words shape p granted (keeper_replied shape p granted n (Swap place word)) _
keeper_words shape p granted done read n (Cas place old new) = settled_words shape p granted (keeper_replied shape p granted n (Cas place old new)) _
keeper_words shape p granted done read n (Add place number) = settled_words shape p granted (keeper_replied shape p granted n (Add place number)) _
keeper_words shape p granted done read n (Max place number) = settled_words shape p granted (keeper_replied shape p granted n (Max place number)) _

keeper_holds : (n : Now) (w : LatchWorld) (read : List ℕ) (granted done : Bool) → SparesLatches n.places n.words (keeper_ask n.shape n.places n.keeper) → Holds n w
    → Holds (life_goes n read (KeeperMoves granted done)) (latch_run w (changed_by n.words (keeper_ask n.shape n.places n.keeper)))
unfolding life_goes
keeper_holds n w read granted done permitted holds =
    let ask : Ask KeeperTold = keeper_ask n.shape n.places n.keeper in
    let permitted_there : SparesLatches w.places w.words ask = rw (holds.places, holds.words) permitted in
    let same : latch_run w (changed_by n.words ask) ≡ record w { words = words_after n.words ask } =
    subst (λ (x : List ℕ). latch_run w (changed_by x ask) ≡ record w { words = words_after x ask }) holds.words (spared_run w ask permitted_there) in
    let sound = run_sound w (changed_by n.words ask) holds.sound in
    let kept = keeper_words n.shape n.places granted done read (near n n.keeper) ask in
    subst (λ (x : LatchWorld). Holds (life_goes n read (KeeperMoves granted done)) x) (sym same) (record {
      places = holds.places;
      words = sym kept;
      sound = subst IsSound same sound;
      buckets = holds.buckets;
      few = holds.few;
      seats = λ i s at. let seat = holds.seats i s at in record { actor = seat.actor; got = seat.got; sits = seat.sits };
    })

-- each event
goes_holds : (n : Now) (w : LatchWorld) (read : List ℕ) (event : Event) → IsPermitted n event → Holds n w → Holds (life_goes n read event) (latch_run w (life_events n event))
unfolding life_goes life_events latch_run
goes_holds n w read (Calls i call) permitted holds = session_called_holds n w i call (slice_get n.sessions i) refl holds
goes_holds n w read (Moves i) permitted holds = moved_holds n w i (slice_get n.sessions i) refl permitted holds
goes_holds n w read (KeeperMoves granted done) permitted holds = keeper_holds n w read granted done permitted holds
goes_holds n w read (Commits kind) permitted holds = record { places = holds.places; words = holds.words; sound = holds.sound; buckets = holds.buckets; few = holds.few; seats = λ i s at. let seat = holds.seats i s at in record { actor = seat.actor; got = seat.got; sits = seat.sits } }
goes_holds n w read Turns permitted holds = record { places = holds.places; words = holds.words; sound = holds.sound; buckets = holds.buckets; few = holds.few; seats = λ i s at. let seat = holds.seats i s at in record { actor = seat.actor; got = seat.got; sits = seat.sits } }
goes_holds n w read Crashes permitted holds = record { places = holds.places; words = holds.words; sound = holds.sound; buckets = holds.buckets; few = holds.few; seats = λ i s at. let seat = holds.seats i s at in record { actor = seat.actor; got = seat.got; sits = seat.sits } }

happens_holds : (n : Now) (w : LatchWorld) (read : List ℕ) (event : Event) → IsPermitted n event → Holds n w → Holds (happens_now n read event) (latch_run w (latch_events n event))
unfolding latch_run
happens_holds n w read event permitted holds = by_crash n.crashed
  where
    by_crash : (b : Bool) → Holds (if b then n else life_goes n read event) (latch_run w (if b then [] else life_events n event))
    by_crash true = holds
    by_crash false = goes_holds n w read event permitted holds

-- as a life begins
opened_seat : (n : Now) (i : ℕ) (s : SessionState) → IsOpened n → slice_get n.sessions i ≡ Some s → Seated n (opening n.places (length n.sessions) n.words) i s
unfolding session_run times_added
opened_seat n i s opened at =
    let its = opened.sessions i s at in
    let free = idle_free n.places s s.step its.none_in_hand in
    record {
      actor = record { step = latching.AtRest; shared = []; exclusive = [] };
      got = replicated (length n.sessions) i _ (there_low n.sessions i s at);
      sits = record {
        knows = idle_knows n.places s s.step its.none_in_hand;
        step = sym free.0;
        alone = sym free.1;
        came = record { its = opened.buckets; opening = s; events = []; opened = its; same = refl; counts = λ place has. refl };
      };
    }
  where
    replicated : {X : Type 0} (m j : ℕ) (x : X) → j < m → slice_get (replicate m x) j ≡ Some x
    replicated zero j x low = absurd (omega (arith, low))
    replicated (suc m) zero x low = refl
    replicated (suc m) (suc j) x low = replicated m j x (omega (arith, low))

    idle_knows : (p : Places) (t : SessionState) (step : Sitting) → is_busy step ≡ false → SittingKnows p t step
    idle_knows p t (Idle told) idle = tt
    idle_knows p t step idle = cc

most_same : (a b : ℕ) → a ≡ b → a ≤ b
most_same a b same = omega (arith, same)

pub opening_holds : (n : Now) → IsOpened n → Holds n (opening n.places (length n.sessions) n.words)
opening_holds n opened = record {
  places = refl;
  words = refl;
  sound = opening_sound n.places (length n.sessions) n.words opened.latches;
  buckets = opened.buckets;
  few = most_same (length n.sessions) n.places.sessions opened.seats;
  seats = λ i s at. opened_seat n i s opened at;
}

-- every life
pub run_holds : (first : World) (events : List Event) (w : LatchWorld) → ArePermitted first events → Holds first.now w → Holds (run first events).now (latch_run w (mapped first events))
unfolding run mapped latch_run
run_holds first [] w permitted holds = holds
run_holds first (event ∷ before) w permitted holds =
    subst (λ (x : LatchWorld). Holds (run first (event ∷ before)).now x) (sym (runs_on w (latch_events (run first before).now event) (mapped first before)))
    (happens_holds (run first before).now (latch_run w (mapped first before)) (read_by_keeper (run first before)) event permitted.0 (run_holds first before w permitted.1 holds))
