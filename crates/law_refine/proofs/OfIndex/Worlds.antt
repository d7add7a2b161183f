-- Each event of the engine keeps what the world of the index shows of it, and so does every life.
use Rattle.std.proofs.Common.{◌≡◌, ℕ, zero, suc, ◌^◌, ◌<◌, ◌∙◌, refl, sym, ap, subst, arith, List, [], ◌∷◌, length, Bool, true, false}
use Rattle.std.specs.Prelude.{if◌then◌else◌, Option, Some, None, slice_get, slice_set, replicate}
use Rattle.fkv_map.specs.declared.operations.Call.{Call}
use Rattle.fkv_plane.specs.declared.asks.Ask.{Ask}
use Rattle.fkv_plane.specs.declared.places.Places.{Places}
use Rattle.fkv_plane.specs.Asked.{words_after, reply_to}
use Rattle.fkv_index.proofs.Shown.{homes_are_there}
use Rattle.fkv_index.specs.IndexWorld.{IndexActor, IndexEvent, IndexNow, rested_actor}
use Rattle.law_world.specs.Below.fkv_keeper.KeeperTold.{KeeperTold}
use Rattle.law_world.specs.Below.fkv_keeper.Keeping.{keeper_ask}
use Rattle.law_world.specs.Below.fkv_session.Told.{Told}
use Rattle.law_world.specs.Below.fkv_session.Sessions.{SessionState, Seat, is_busy, session_ask, session_begun}
use Rattle.law_world.specs.Below.fkv_world.World.{Event, Calls, Moves, Commits, Turns, KeeperMoves, Crashes, Now, seat_at, near, with_session, session_calls, session_moves, life_goes}
use Rattle.law_world.specs.Below.fkv_world.Moves.{Near, session_moved}
use Rattle.law_world.specs.Below.fkv_world.Runs.{World, read_by_keeper, happens, run}
use Rattle.law_world.proofs.Below.fkv_world.Shown.{is_over, lives}
use Rattle.law_world.proofs.OfRuns.OneWord.{keeper_writes}
use Rattle.law_refine.specs.Index.Finders.{NoWork, session_part, session_search, session_entry}
use Rattle.law_refine.specs.Index.IndexEvents.{begun_by, asked_by, changed_by, moved_events, called_events, life_events, index_events, mapped}
use Rattle.law_refine.specs.Index.Shows.{SparesIndex, SessionSpares, IsPermitted, ArePermitted, IsOpened, opening_index, IsPart, Shows, seen_by_index}
use Rattle.law_refine.proofs.Items.{Here, There, set_at, get_set, get_other, set_twice, there_low}
use Rattle.law_refine.proofs.OfIndex.Goes.{part}
use Rattle.law_refine.proofs.OfIndex.SessionParts.{SittingKnows, Homes, call_goes, idle_knows, idle_part}
use Rattle.law_refine.proofs.OfIndex.SessionAsks.{search_asks, entry_asks}
use Rattle.law_refine.proofs.OfIndex.Actors.{now_run, runs_now, now_on, Asked, begun_events, begins_then}
use Rattle.law_refine.proofs.OfIndex.OwnAsks.{spared_now, has_made}
use Rattle.law_refine.proofs.OfIndex.Moved.{moves_on}

-- the engine's words beside these actors
abbrev pub beside : Now → List IndexActor → IndexNow
beside n actors = record { places = n.places; words = n.words; actors = actors }

-- a session with its actor
pub record Seated (n : Now) (actors : List IndexActor) (i : ℕ) (s : SessionState) : Type 0 where
  pub actor : IndexActor
  pub got : slice_get actors i ≡ Some actor
  pub knows : SittingKnows n.places s s.step
  pub part : IsPart (session_part s) actor

-- what stands between events
pub record Holds (n : Now) (actors : List IndexActor) : Type 0 where
  pub buckets : n.places.buckets ≡ 2 ^ n.shape.bucket_bits
  pub seats : (i : ℕ) (s : SessionState) → slice_get n.sessions i ≡ Some s → Seated n actors i s

-- what an event leads to
pub record Happened (n after : Now) (actors : List IndexActor) (events : List IndexEvent) : Type 0 where
  pub actors_then : List IndexActor
  pub same : now_run (beside n actors) events ≡ beside after actors_then
  pub holds : Holds after actors_then

-- one session has gone on, and its actor with it
session_put : (n : Now) (actors : List IndexActor) (i : ℕ) (s : SessionState) (its : Near SessionState) (a c : IndexActor) → Holds n actors → slice_get n.sessions i ≡ Some s → slice_get actors i ≡ Some a
    → SittingKnows n.places its.machine its.machine.step → IsPart (session_part its.machine) c → Holds (with_session n i its) (slice_set actors i c)
session_put n actors i s its a c holds there got knows is = record {
  buckets = holds.buckets;
  seats = λ j t at. elim (set_at n.sessions i j its.machine t at) [
    | Here here same ↦ rw (here, same) (record { actor = c; got = get_set actors i a c got; knows = knows; part = is })
    | There other at' ↦ (let seat = holds.seats j t at' in record { actor = seat.actor; got = get_other actors i j c other ∙ seat.got; knows = seat.knows; part = seat.part })
  ];
}

homes_there : (n : Now) (i : ℕ) → n.places.buckets ≡ 2 ^ n.shape.bucket_bits → Homes (seat_at n i)
homes_there n i same = λ key. homes_are_there n.places n.shape.bucket_bits key same

-- a call that begins
idle_asked : (p : Places) (s : SessionState) (a : IndexActor) → session_part s ≡ part NoWork s.spare → IsPart (session_part s) a → Asked p 0 (part NoWork s.spare) a
idle_asked p s a none is = let its : IsPart (part NoWork s.spare) a = subst (λ x. IsPart x a) none is in record { work = its.work; spare = its.spare }

call_happened : (n : Now) (actors : List IndexActor) (i : ℕ) (call : Call) (found : Option SessionState) → slice_get n.sessions i ≡ found → Holds n actors → Happened n (session_calls n i call found) actors (called_events n i call found)
call_happened n actors i call None there holds = record { actors_then = actors; same = refl; holds = holds }
call_happened n actors i call (Some s) there holds = by_busy (is_busy s.step) refl
  where
    k : Seat
    k = seat_at n i

    by_busy : (b : Bool) → is_busy s.step ≡ b
        → Happened n (with_session n i (near n (if b then s else session_begun k s call))) actors (if b then [] else begun_by n.places i 0 None (if b then s else session_begun k s call))
    by_busy true e = record {
      actors_then = actors;
      same = refl;
      holds = record {
        buckets = holds.buckets;
        seats = λ j t at. elim (set_at n.sessions i j s t at) [
          | Here here same ↦ (let seat = holds.seats i s there in rw (here, same) (record { actor = seat.actor; got = seat.got; knows = seat.knows; part = seat.part }))
          | There other at' ↦ (let seat = holds.seats j t at' in record { actor = seat.actor; got = seat.got; knows = seat.knows; part = seat.part })
        ];
      };
    }
    by_busy false e =
        let seat = holds.seats i s there in
        let goes = call_goes k s call (homes_there n i holds.buckets) in
        let begun = begins_then n.places (beside n actors) i 0 seat.actor (part NoWork s.spare) (session_part (session_begun k s call)) refl seat.got goes.goes (idle_asked n.places s seat.actor (idle_part s s.step e) seat.part) in
        record {
          actors_then = slice_set actors i begun.actor;
          same = begun.same;
          holds = session_put n actors i s (near n (session_begun k s call)) seat.actor begun.actor holds there seat.got goes.knows begun.part;
        }

-- a session's step
move_happened : (n : Now) (actors : List IndexActor) (i : ℕ) (found : Option SessionState) → slice_get n.sessions i ≡ found → SessionSpares n i found → Holds n actors → Happened n (session_moves n i found) actors (moved_events n i found)
move_happened n actors i None there permitted holds = record { actors_then = actors; same = refl; holds = holds }
move_happened n actors i (Some s) there permitted holds =
    let k : Seat = seat_at n i in
    let seat = holds.seats i s there in
    let ask : Ask Told = session_ask k s in
    let reply : ℕ = reply_to n.words ask in
    let after : Near SessionState = session_moved k (near n s) in
    let moved = moves_on k (near n s) ask (homes_there n i holds.buckets) refl seat.knows in
    let made = has_made (beside n actors) i (session_part s) ask seat.actor seat.got seat.part permitted (λ its at. search_asks k s its seat.knows at) (λ slot addr at. entry_asks k s slot addr seat.knows at) in
    let mid : IndexNow = record { places = n.places; words = words_after n.words ask; actors = slice_set actors i made.actor } in
    let begun = begins_then n.places mid i reply made.actor (session_part s) (session_part after.machine) refl (get_set actors i seat.actor made.actor seat.got) moved.goes.goes made.asked in
    let later : List IndexEvent = begun_events n.places i reply (session_part s).work (session_part after.machine).work in
    let own : List IndexEvent = asked_by n.words i (session_search s) (session_entry s) ask in
    record {
      actors_then = slice_set actors i begun.actor;
      same = now_on (beside n actors) later own ∙ ap (λ m. now_run m later) made.same ∙ begun.same
          ∙ ap (λ xs. record { places = n.places; words = words_after n.words ask; actors = xs }) (set_twice actors i made.actor begun.actor)
          ∙ ap (λ ws. record { places = n.places; words = ws; actors = slice_set actors i begun.actor }) (sym moved.words);
      holds = session_put n actors i s after seat.actor begun.actor holds there seat.got moved.goes.knows begun.part;
    }

-- the keeper's step changes the word of its ask
keeper_happened : (w : World) (actors : List IndexActor) (granted done : Bool) → w.now.crashed ≡ false → SparesIndex w.now.places w.now.words (keeper_ask w.now.shape w.now.places w.now.keeper) → Holds w.now actors
    → Happened w.now (life_goes w.now (read_by_keeper w) (KeeperMoves granted done)) actors (changed_by w.now.words (keeper_ask w.now.shape w.now.places w.now.keeper))
unfolding life_goes
keeper_happened w actors granted done lives_on permitted holds =
    let ask : Ask KeeperTold = keeper_ask w.now.shape w.now.places w.now.keeper in
    let words = ap (λ (n : Now). n.words) (sym (lives w (KeeperMoves granted done) lives_on)) ∙ keeper_writes w granted done lives_on in
    record {
      actors_then = actors;
      same = spared_now (beside w.now actors) ask permitted ∙ ap (λ ws. record { places = w.now.places; words = ws; actors = actors }) (sym words);
      holds = record { buckets = holds.buckets; seats = λ i s at. let seat = holds.seats i s at in record { actor = seat.actor; got = seat.got; knows = seat.knows; part = seat.part } };
    }

still : (n after : Now) (actors : List IndexActor) → Holds n actors → after.places ≡ n.places → after.words ≡ n.words → after.shape ≡ n.shape → after.sessions ≡ n.sessions → Happened n after actors []
still n after actors holds places words shape sessions = record {
  actors_then = actors;
  same = rw (places, words) refl;
  holds = record {
    buckets = rw (places, shape) holds.buckets;
    seats = λ i s at. let seat = holds.seats i s (subst (λ xs. slice_get xs i ≡ Some s) sessions at) in record { actor = seat.actor; got = seat.got; knows = rw places seat.knows; part = seat.part };
  };
}

goes_happened : (w : World) (actors : List IndexActor) (event : Event) → w.now.crashed ≡ false → IsPermitted w.now event → Holds w.now actors → Happened w.now (life_goes w.now (read_by_keeper w) event) actors (life_events w.now event)
unfolding life_goes life_events
goes_happened w actors (Calls i call) on permitted holds = call_happened w.now actors i call (slice_get w.now.sessions i) refl holds
goes_happened w actors (Moves i) on permitted holds = move_happened w.now actors i (slice_get w.now.sessions i) refl permitted holds
goes_happened w actors (KeeperMoves granted done) on permitted holds = keeper_happened w actors granted done on permitted holds
goes_happened w actors (Commits kind) on permitted holds = still w.now _ actors holds refl refl refl refl
goes_happened w actors Turns on permitted holds = still w.now _ actors holds refl refl refl refl
goes_happened w actors Crashes on permitted holds = still w.now _ actors holds refl refl refl refl

-- each event
pub happened : (w : World) (actors : List IndexActor) (event : Event) → IsPermitted w.now event → Holds w.now actors → Happened w.now (happens w event).now actors (index_events w.now event)
happened w actors event permitted holds = by_crash w.now.crashed refl
  where
    by_crash : (b : Bool) → w.now.crashed ≡ b → Happened w.now (happens w event).now actors (if b then [] else life_events w.now event)
    by_crash true over = subst (λ (v : World). Happened w.now v.now actors []) (sym (is_over w event over)) (record { actors_then = actors; same = refl; holds = holds })
    by_crash false on = subst (λ (n : Now). Happened w.now n actors (life_events w.now event)) (sym (lives w event on)) (goes_happened w actors event on permitted holds)

-- as a life begins
replicated : {X : Type 0} (m j : ℕ) (x : X) → j < m → slice_get (replicate m x) j ≡ Some x
replicated zero j x low = absurd (omega (arith, low))
replicated (suc m) zero x low = refl
replicated (suc m) (suc j) x low = replicated m j x (omega (arith, low))

pub opening_holds : (opening : World) (lists : ℕ → List ℕ) → IsOpened opening lists → Holds opening.now (replicate (length opening.now.sessions) rested_actor)
opening_holds opening lists opened = record {
  buckets = opened.buckets;
  seats = λ i s at.
      let its = opened.sessions i s at in
      let idle = idle_part s s.step its.none_in_hand in
      record {
        actor = rested_actor;
        got = replicated (length opening.now.sessions) i rested_actor (there_low opening.now.sessions i s at);
        knows = idle_knows opening.now.places s s.step its.none_in_hand;
        part = subst (λ x. IsPart x rested_actor) (sym idle) (record { work = (refl, refl); spare = sym its.no_spare });
      };
}

-- every life
pub run_holds : (opening : World) (events : List Event) (first : List IndexActor) → ArePermitted opening events → Holds opening.now first → Happened opening.now (run opening events).now first (mapped opening events)
unfolding run mapped
run_holds opening [] first permitted holds = record { actors_then = first; same = refl; holds = holds }
run_holds opening (event ∷ before) first permitted holds =
    let was = run_holds opening before first permitted.1 holds in
    let is = happened (run opening before) was.actors_then event permitted.0 was.holds in
    record {
      actors_then = is.actors_then;
      same = now_on (beside opening.now first) (index_events (run opening before).now event) (mapped opening before) ∙ ap (λ m. now_run m (index_events (run opening before).now event)) was.same ∙ is.same;
      holds = is.holds;
    }

pub life_shows : (opening : World) (lists : ℕ → List ℕ) (events : List Event) → IsOpened opening lists → ArePermitted opening events → Shows (run opening events).now (seen_by_index opening lists events)
life_shows opening lists events opened permitted =
    let its = run_holds opening events (replicate (length opening.now.sessions) rested_actor) permitted (opening_holds opening lists opened) in
    let same : (seen_by_index opening lists events).now ≡ beside (run opening events).now its.actors_then = runs_now (opening_index opening lists) (mapped opening events) ∙ its.same in
    record {
      places = ap (λ (n : IndexNow). n.places) same;
      words = ap (λ (n : IndexNow). n.words) same;
      actors = λ i s at.
          let seat = its.holds.seats i s at in
          record { actor = seat.actor; got = subst (λ (n : IndexNow). slice_get n.actors i ≡ Some seat.actor) (sym same) seat.got; its = seat.part };
    }
