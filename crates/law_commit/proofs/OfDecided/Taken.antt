-- In a life each address is taken as the tail rises above it, and stays taken.
use Rattle.std.proofs.Common.{◌≡◌, ◌≢◌, ℕ, ◌+◌, ◌<◌, ◌⊎◌, ◌∙◌, inl, inr, List, [], ◌∷◌, ◌++◌, length, refl, ap, sym, subst, arith, Bool, true, false}
use Rattle.std.specs.Prelude.{map, ◌==◌, if◌then◌else◌, Option, Some, None, slice_get}
use Rattle.std.proofs.lemmas.Bool.Decides.{nat_tests}
use Rattle.fkv_map.specs.declared.history.HistoryEntry.{HistoryEntry}
use Rattle.fkv_plane.specs.declared.asks.Ask.{Ask}
use Rattle.fkv_plane.specs.declared.asks.Ask.TheVariants.{Put, Take, Done}
use Rattle.fkv_plane.specs.declared.places.Places.{Places}
use Rattle.fkv_plane.specs.declared.places.SharedWord.TheVariants as one
use Rattle.fkv_plane.specs.Asked.{asked, asked_place, reply_to, word_found}
use Rattle.fkv_plane.specs.Places.{shared_place}
use Rattle.law_refine.specs.Below.fkv_log.ReserveAnswer.TheVariants as answer
use Rattle.law_refine.specs.Below.fkv_log.TheReserving.{Reserving}
use Rattle.law_refine.specs.Below.fkv_log.TheReserving.TheVariants as reserve
use Rattle.law_refine.specs.Below.fkv_log.Reserving.{reserve_next_ask}
use Rattle.law_refine.specs.Below.fkv_log.TheFilling.{Filling}
use Rattle.law_refine.specs.Below.fkv_log.TheFilling.TheVariants as fill
use Rattle.law_refine.specs.Below.fkv_log.TheInvalidating.{Invalidating}
use Rattle.law_refine.specs.Below.fkv_log.TheInvalidating.TheVariants as invalidate
use Rattle.law_refine.specs.Below.fkv_log.Shifting.{ShiftState}
use Rattle.law_refine.specs.Below.fkv_log.Turning.{TurnState}
use Rattle.law_refine.specs.Below.fkv_flush.GuardLevels.{levels_of}
use Rattle.law_refine.specs.Below.fkv_flush.GuardSeen.{LastSeen}
use Rattle.law_refine.specs.Below.fkv_flush.GuardWorld.{Actor, GuardWorld, Work, guard_run, is_idle, shift_rests, turn_rests}
use Rattle.law_refine.specs.Below.fkv_flush.GuardWorld as guard_world
use Rattle.fkv_epoch.proofs.Shown.{some_same}
use Rattle.law_refine.proofs.Below.fkv_flush.Shown.{Awake, FitsWork, IsSound, Knows}
use Rattle.law_refine.specs.Below.fkv_ops.TheAppending.{Appending}
use Rattle.law_refine.specs.Below.fkv_ops.TheAppending.TheVariants as appending
use Rattle.law_refine.specs.Below.fkv_ops.TheTrying.{Trying}
use Rattle.law_refine.specs.Below.fkv_ops.TheTrying.TheVariants as trying
use Rattle.law_refine.specs.Below.fkv_ops.Appending.{AppendState}
use Rattle.law_refine.specs.Below.fkv_ops.Trying.{TryState}
use Rattle.law_refine.specs.Below.fkv_pending.TheAttempting.{Attempting}
use Rattle.law_refine.specs.Below.fkv_pending.TheAttempting.TheVariants as attempting
use Rattle.law_refine.specs.Below.fkv_pending.PendingRequest.{PendingRequest}
use Rattle.law_refine.specs.Below.fkv_pending.Attempting.{AttemptState, attempt_ask, attempt_next}
use Rattle.law_refine.specs.Below.fkv_session.Told.{Told}
use Rattle.law_refine.specs.Below.fkv_session.OwnTurning.{OwnTurning}
use Rattle.law_refine.specs.Below.fkv_session.OwnTurning.TheVariants as turning
use Rattle.law_refine.specs.Below.fkv_session.Sitting.{Sitting}
use Rattle.law_refine.specs.Below.fkv_session.Sitting.TheVariants as sitting
use Rattle.law_refine.specs.Below.fkv_session.OwnTurns.{OwnTurnState}
use Rattle.law_refine.specs.Below.fkv_session.Sessions.{SessionState, Seat, bits_of, room_of, session_ask}
use Rattle.law_refine.specs.Below.fkv_world.Actors.{place_named}
use Rattle.law_refine.specs.Below.fkv_world.Past.{Traced}
use Rattle.law_refine.specs.Below.fkv_world.Runs.{World, happens, read_by_keeper, run}
use Rattle.law_refine.specs.Below.fkv_world.World.{Event, Calls, Moves, Commits, Turns, KeeperMoves, Crashes, seat_at}
use Rattle.law_log.specs.Chains.{Cell, Logged, Reserved}
use Rattle.law_log.specs.Ghosts.{Ghosts, GhostEvent, Tells, Reserves, Publishes, Drops, FindsEntry, TakesValue, Changes, Fixes, ghost_run, ghosts_after, set_at}
use Rattle.law_log.specs.Trace.{TraceLine}
use Rattle.law_log.proofs.Shown.{at_one}
use Rattle.law_refine.proofs.Below.law_world.OfRuns.OneWord.{one_word}
use Rattle.law_refine.specs.Below.law_world.GuardKeeper.KeeperActors.{keeper_actor}
use Rattle.law_refine.specs.Below.law_world.Guarded.GuardEvents.{guard_events, keeper_number, life_events}
use Rattle.law_refine.specs.Below.law_world.Guarded.Shows as guard
use Rattle.law_refine.specs.Below.law_world.Guarded.Shows.{Shows, seen_by_guard}
use Rattle.law_refine.specs.Below.law_world.GuardSessions.Attempts.{attempt_likeness_at}
use Rattle.law_refine.specs.Below.law_world.GuardSessions.Likenesses.{append_work, fill_work, invalidate_work, last_seen, reserve_work}
use Rattle.law_refine.specs.Below.law_world.GuardSessions.OwnTurns.{own_turn_likeness_at, shift_work, turn_work}
use Rattle.law_refine.specs.Below.law_world.GuardSessions.Sessions.{session_likeness, sitting_likeness}
use Rattle.law_refine.specs.Below.law_world.GuardSessions.Tries.{is_for_entry, try_likeness_at}
use Rattle.law_refine.proofs.Below.law_world.OfGuarded.Kept.{moved_is}
use Rattle.law_refine.proofs.Below.law_world.OfGuarded.KeeperSteps.{actor_above, keeper_steps}
use Rattle.law_refine.proofs.Below.law_world.OfGuarded.OneStep.{IsStep}
use Rattle.law_refine.proofs.Below.law_world.OfGuarded.Worlds.{life_shows}
use Rattle.law_refine.specs.Events.Appends.{append_ghosts, reserved_ghosts, NewRecord, new_record}
use Rattle.law_refine.specs.Events.GhostEvents.{fixed_ghosts, ghost_events, home_in, life_ghosts, mapped, moved_ghosts, own_ghosts, safe_at, serials_in, traced_by}
use Rattle.law_refine.specs.Events.Lines.{lines_added}
use Rattle.law_refine.specs.Events.Reservations.{AreStill, Behind, DropsOne, Keeps, LosesOne, MovesOn, PublishesOne, Reservation, TakesOne, is_still}
use Rattle.law_refine.specs.Events.Reserved.{tail_at}
use Rattle.law_refine.specs.Events.Sessions.{attempt_ghosts, sitting_ghosts, step_ghosts, tried_ghosts, value_ghosts}
use Rattle.law_refine.specs.Events.Tries.{try_ghosts}
use Rattle.law_refine.proofs.OfEvents.SessionSteps.{life_on as session_on}
use Rattle.law_refine.proofs.OfRecords.Standing.{same_word}
use Rattle.law_commit.specs.Decided.Cells.{IsTaken, TakenFrom}
use Rattle.law_commit.specs.Versions.Cells.{made_in}
use Rattle.law_commit.proofs.OfDecided.Tails.{step_tail}
use Rattle.law_commit.proofs.OfPhases.QuietShown.{life_on}
use Rattle.law_commit.proofs.OfVersions.Cells.{Takes, one_made}

-- ---- one of these events takes the address
abbrev pub TakesIt : ℕ → GhostEvent → Type 0
TakesIt a (Reserves b entry cell) = a ≡ b
TakesIt a event = ⊥

abbrev pub TakesAddr : ℕ → List GhostEvent → Type 0
TakesAddr a [] = ⊥
TakesAddr a (event ∷ before) = TakesIt a event ⊎ TakesAddr a before

behind_takes : (a : ℕ) (later before : List GhostEvent) → TakesAddr a before → TakesAddr a (later ++ before)
behind_takes a [] before takes = takes
behind_takes a (event ∷ later) before takes = inr (behind_takes a later before takes)

-- then it is taken, and stays so
made_taken : (event : GhostEvent) (a : ℕ) (made : Option ℕ) → Takes event a made → made ≢ None
made_taken (Reserves b entry cell) a made takes none = let clash = sym takes.1 ∙ none in cc
made_taken (Publishes b) a made takes none = takes
made_taken (Drops b) a made takes none = takes
made_taken (Changes b entry) a made takes none = takes
made_taken (Tells line) a made takes none = takes
made_taken (FindsEntry reader) a made takes none = takes
made_taken (TakesValue reader) a made takes none = takes
made_taken (Fixes b) a made takes none = takes

pub stays_taken : (home : ℕ → ℕ) (g : Ghosts) (later before : List GhostEvent) (a : ℕ) → IsTaken ((ghost_run home g before).log.cells a) → IsTaken ((ghost_run home g (later ++ before)).log.cells a)
unfolding ghost_run ghosts_after
stays_taken home g [] before a taken = taken
stays_taken home g (event ∷ later) before a taken = elim (one_made home (ghost_run home g (later ++ before)).log event a) [
  | inl same ↦ λ none. stays_taken home g later before a taken (sym same ∙ none)
  | inr takes ↦ made_taken event a _ takes
]

set_taken : (cells : ℕ → Logged) (b : ℕ) (entry : HistoryEntry) (cell : Cell) (a : ℕ) → a ≡ b → IsTaken (set_at cells b (Reserved entry cell) a)
set_taken cells b entry cell a same none = elim (at_one cells b (Reserved entry cell) a) [
  | inl here ↦ let clash = sym (ap made_in here.1) ∙ none in cc
  | inr there ↦ absurd (there.0 same)
]

reserved_taken : (home : ℕ → ℕ) (g : Ghosts) (event : GhostEvent) (a : ℕ) → TakesIt a event → IsTaken ((ghosts_after home g event).log.cells a)
unfolding ghosts_after
reserved_taken home g (Reserves b entry cell) a same = set_taken g.log.cells b entry cell a same
reserved_taken home g event a same = absurd same

pub takes_taken : (home : ℕ → ℕ) (g : Ghosts) (later before : List GhostEvent) (a : ℕ) → TakesAddr a later → IsTaken ((ghost_run home g (later ++ before)).log.cells a)
unfolding ghost_run
takes_taken home g [] before a takes = absurd takes
takes_taken home g (event ∷ later) before a (inl its) = reserved_taken home (ghost_run home g (later ++ before)) event a its
takes_taken home g (event ∷ later) before a (inr takes) = stays_taken home g (event ∷ []) (later ++ before) a (takes_taken home g later before a takes)

-- ---- whoever is about to take an address at the tail takes it, if it is found there
abbrev taking : ℕ → Option Work
taking t = Some (guard_world.Reserves (reserve.TakesTail t))

own_number : (t : ℕ) → (t == t) ≡ true
own_number t = grind (arith, nat_tests)

won_takes : (a : AppendState) (made : NewRecord) (t : ℕ) → TakesAddr t (reserved_ghosts a made (Done (if t == t then answer.Reserved (record { 0 = t }) else answer.Contended)))
won_takes a made t = rw (own_number t) (by_test _ (is_for_entry a (record { 0 = t })))
  where
    by_test : (cell : Cell) (c : Bool) → TakesAddr t (if c then Reserves t made.entry cell ∷ [] else Drops t ∷ Reserves t made.entry cell ∷ [])
    by_test cell true = inl refl
    by_test cell false = inr (inl refl)

same_tail : (tail t : ℕ) → Some (guard_world.Reserves (reserve.TakesTail tail)) ≡ taking t → tail ≡ t
same_tail tail t e = cc

reserve_takes : (room : ℕ) (a : AppendState) (made : NewRecord) (its : Reserving) (t : ℕ) → reserve_work its ≡ taking t → TakesAddr t (reserved_ghosts a made (reserve_next_ask room its t))
unfolding reserve_next_ask
reserve_takes room a made reserve.AtRest t e = cc
reserve_takes room a made (reserve.LoadsLimit bound) t e = cc
reserve_takes room a made (reserve.LoadsTail limit) t e = cc
reserve_takes room a made (reserve.TakesTail tail) t e = subst (λ (x : ℕ). TakesAddr t (reserved_ghosts a made (Done (if t == x then answer.Reserved (record { 0 = x }) else answer.Contended)))) (sym (same_tail tail t e)) (won_takes a made t)

none_fills : (step : Filling) (t : ℕ) → fill_work step ≡ taking t → ⊥
none_fills fill.AtRest t e = cc
none_fills step t e = cc

none_invalidates : (step : Invalidating) (t : ℕ) → invalidate_work step ≡ taking t → ⊥
none_invalidates invalidate.AtRest t e = cc
none_invalidates step t e = cc

append_takes : (room : ℕ) (a : AppendState) (made : NewRecord) (step : Appending) (t : ℕ) → append_work a step ≡ taking t → TakesAddr t (append_ghosts room a made step t)
append_takes room a made appending.Reserves t e = reserve_takes room a made a.reserving t e
append_takes room a made (appending.Fills addr) t e = absurd (none_fills a.filling t e)
append_takes room a made (appending.Publishes addr) t e = cc
append_takes room a made appending.Invalidates t e = absurd (none_invalidates a.invalidating t e)
append_takes room a made (appending.Ended its) t e = cc

try_takes : (k : Seat) (reader : ℕ) (pending : PendingRequest) (seen : LastSeen) (x : TryState) (step : Trying) (t : ℕ) → (try_likeness_at seen x step).work ≡ taking t → TakesAddr t (try_ghosts k.places (room_of k) k.number reader pending x step t)
try_takes k reader pending seen x (trying.Appends made) t e = append_takes (room_of k) x.append (new_record k.number pending made) x.append.step t e
try_takes k reader pending seen x step t e = cc

tried_takes : (k : Seat) (reader : ℕ) (seen : LastSeen) (a : AttemptState) (step : Attempting) (t : ℕ) → (attempt_likeness_at seen a step).work ≡ taking t → TakesAddr t (tried_ghosts k reader a step t)
tried_takes k reader seen a attempting.Tries t e = try_takes k reader a.pending seen a.trial a.trial.step t e
tried_takes k reader seen a step t e = cc

attempt_takes : (k : Seat) (reader : ℕ) (seen : LastSeen) (a : AttemptState) (t : ℕ) → (attempt_likeness_at seen a a.step).work ≡ taking t → TakesAddr t (attempt_ghosts k reader a t)
attempt_takes k reader seen a t e =
    behind_takes t (value_ghosts a.pending.request.op reader (attempt_ask k.places k.number (attempt_next k.places (bits_of k) (room_of k) k.number a t))) (tried_ghosts k reader a a.step t)
    (tried_takes k reader seen a a.step t e)

none_shifts : (s : ShiftState) (t : ℕ) → shift_work s ≡ taking t → ⊥
none_shifts s t e = by_test (shift_rests s.step) e
  where
    by_test : (c : Bool) → (if c then None else Some (guard_world.Shifts s)) ≡ taking t → ⊥
    by_test true e = cc
    by_test false e = cc

none_turns : (s : TurnState) (t : ℕ) → turn_work s ≡ taking t → ⊥
none_turns s t e = by_test (turn_rests s.step) e
  where
    by_test : (c : Bool) → (if c then None else Some (guard_world.Turns s)) ≡ taking t → ⊥
    by_test true e = cc
    by_test false e = cc

own_turn_takes : (seen : LastSeen) (o : OwnTurnState) (step : OwnTurning) (t : ℕ) → (own_turn_likeness_at seen o step).work ≡ taking t → ⊥
own_turn_takes seen o turning.Ended t e = cc
own_turn_takes seen o turning.Scans t e = cc
own_turn_takes seen o turning.Claims t e = cc
own_turn_takes seen o turning.Shifts t e = none_shifts o.shift t e
own_turn_takes seen o turning.Opens t e = none_turns o.turn t e

sitting_takes : (k : Seat) (trace : List Traced) (s : SessionState) (step : Sitting) (t : ℕ) → (sitting_likeness s step).work ≡ taking t → TakesAddr t (sitting_ghosts k trace s step t)
sitting_takes k trace s (sitting.Attempts has_shifted) t e = attempt_takes k _ (last_seen s.seen) s.attempt t e
sitting_takes k trace s (sitting.Polls index) t e = attempt_takes k _ (last_seen s.seen) s.attempt t e
sitting_takes k trace s (sitting.Turns its) t e = absurd (own_turn_takes (last_seen s.seen) s.own_turn s.own_turn.step t e)
sitting_takes k trace s step t e = cc

-- ---- then the ask is of the tail's word
record AsksTail (place : Option ℕ) : Type 0 where
  at : place ≡ Some (shared_place one.Tail)

still_none : (t : ℕ) (events : List GhostEvent) → AreStill events → TakesAddr t events → ⊥
still_none t [] still takes = takes
still_none t (Reserves a entry cell ∷ before) still takes = absurd still.0
still_none t (event ∷ before) still (inl its) = one_still t event still.0 its
  where
    one_still : (t : ℕ) (event : GhostEvent) → is_still event → TakesIt t event → ⊥
    one_still t (Reserves a entry cell) still its = still
    one_still t event still its = its
still_none t (event ∷ before) still (inr takes) = still_none t before still.1 takes

asks_tail : (t : ℕ) (place : Option ℕ) (change : ℕ → ℕ) (reply : ℕ) (events : List GhostEvent) (was is : Option Reservation) → MovesOn place change reply events was is → TakesAddr t events → place ≡ Some (shared_place one.Tail)
asks_tail t place change reply events was is (Keeps its held still) takes = absurd (still_none t its still takes)
asks_tail t place change reply events was is (Behind event still its) (inl takes) = absurd (still_none t (event ∷ []) (still, tt) (inl takes))
asks_tail t place change reply events was is (Behind event still its) (inr takes) = asks_tail t place change reply _ was is its takes
asks_tail t place change reply events was is (TakesOne its takes) there = takes.at
asks_tail t place change reply events was is (LosesOne its takes) there = takes.at
asks_tail t place change reply events was is (PublishesOne its) (inl there) = absurd there
asks_tail t place change reply events was is (PublishesOne its) (inr there) = absurd there
asks_tail t place change reply events was is (DropsOne its) (inl there) = absurd there
asks_tail t place change reply events was is (DropsOne its) (inr there) = absurd there

step_takes : (k : Seat) (trace : List Traced) (s : SessionState) (words : List ℕ) (ask : Ask Told) (t : ℕ) → asked_place ask ≡ Some (shared_place one.Tail) → TakesAddr t (sitting_ghosts k trace s s.step (reply_to words ask)) → TakesAddr t (step_ghosts k trace s words ask)
unfolding step_ghosts
step_takes k trace s words (Done its) t at takes = cc
step_takes k trace s words (Put slot action) t at takes = cc
step_takes k trace s words (Take slot) t at takes = cc
step_takes k trace s words ask t at takes = takes

-- ---- an event of a life
work_is : (found : Option Work) (work : Work) (t : ℕ) → FitsWork found work → work ≡ guard_world.Reserves (reserve.TakesTail t) → found ≡ taking t
work_is None work t idle its = let clash : false ≡ true = sym (ap is_idle its) ∙ idle in cc
work_is (Some other) work t fits its = ap Some (sym fits ∙ its)

taker_below : (w : GuardWorld) (a : ℕ) (x : Actor) (t : ℕ) → IsSound w → slice_get w.now.actors a ≡ Some x → x.work ≡ guard_world.Reserves (reserve.TakesTail t) → a < w.now.places.sessions
taker_below w a x t sound got its = (subst (Knows w.now.shape (levels_of w.now.words) (Awake w.now a x.machine) x.machine x.undecided) its (sound.knows a x got)).0.0.is_session

-- the tail stays, or is taken by one of the log's events and raised by one
pub record TakesAt (before after : ℕ) (events : List GhostEvent) : Type 0 where
  pub takes : TakesAddr before events
  pub raised : after ≡ before + 1

abbrev pub TailMoves : ℕ → ℕ → List GhostEvent → Type 0
TailMoves before after events = (after ≡ before) ⊎ TakesAt before after events

module _ (opening : World) (start : ℕ) (opened : guard.IsOpened opening.now start) (before : List Event) where
  abbrev here : World
  here = run opening before

  abbrev guards : GuardWorld
  guards = seen_by_guard opening start before

  shows : Shows here.now guards
  shows = life_shows opening start before opened

  enough : 3 < length guards.now.words
  enough = let all = shows.sound.enough_words in omega (arith, all)

  -- the guard's tails are the life's
  tail_before : (levels_of guards.now.words).tail ≡ tail_at here.now
  tail_before = ap (λ (words : List ℕ). (levels_of words).tail) shows.words

  tail_after : (event : Event) → (levels_of (guard_run guards (guard_events here.now (read_by_keeper here) event)).now.words).tail ≡ tail_at (run opening (event ∷ before)).now
  tail_after event =
      ap (λ (v : GuardWorld). (levels_of v.now.words).tail) (sym (life_on opening start before event)) ∙ ap (λ (words : List ℕ). (levels_of words).tail) (life_shows opening start (event ∷ before) opened).words

  -- an event that asks for no word leaves it
  unasked : (event : Event) → place_named here.now event ≢ Some (shared_place one.Tail) → tail_at (run opening (event ∷ before)).now ≡ tail_at here.now
  unfolding run
  unasked event other = same_word _ _ (shared_place one.Tail) (one_word here event (shared_place one.Tail) other)

  own_takes : (number : ℕ) (s : SessionState) (x : Actor) (t : ℕ) → slice_get here.now.sessions number ≡ Some s → slice_get guards.now.actors number ≡ Some x → x.work ≡ guard_world.Reserves (reserve.TakesTail t) → t ≡ tail_at here.now
      → TakesAddr t (step_ghosts (seat_at here.now number) here.past.trace s here.now.words (session_ask (seat_at here.now number) s))
  own_takes number s x t found got its same =
      let k : Seat = seat_at here.now number in
      let ask : Ask Told = session_ask k s in
      let sits = (shows.sessions number s found).sits in
      let its_actor : sits_actor ≡ x = some_same (sits_actor) x (sym sits.got ∙ got) in
      let like = work_is (session_likeness s).work x.work t (subst (λ (y : Actor). FitsWork (session_likeness s).work y.work) its_actor sits.fits.work) its in
      let would = sitting_takes k here.past.trace s s.step t like in
      let at = asks_tail t (asked_place ask) (asked ask) t _ _ _ (session_on opening start before number s t opened found) would in
      let reply : reply_to here.now.words ask ≡ t = ap (word_found here.now.words) at ∙ sym same in
      step_takes k here.past.trace s here.now.words ask t at (subst (λ (r : ℕ). TakesAddr t (sitting_ghosts k here.past.trace s s.step r)) (sym reply) would)
    where
      sits_actor : Actor
      sits_actor = (shows.sessions number s found).actor

  -- the step of a session, or the keeper's
  is_step : (number : ℕ) (alive : here.now.crashed ≡ false) → IsStep (keeper_number here.now) number (guard_events here.now (read_by_keeper here) (Moves number))
  unfolding life_events
  is_step number alive = rw alive (moved_is here.now number (slice_get here.now.sessions number))

  keeper_is : (granted done : Bool) (alive : here.now.crashed ≡ false) → IsStep (keeper_number here.now) (keeper_actor (keeper_number here.now) here.now.keeper) (guard_events here.now (read_by_keeper here) (KeeperMoves granted done))
  unfolding life_events
  keeper_is granted done alive = rw alive (keeper_steps (keeper_number here.now) here.now.shape here.now.places granted done (read_by_keeper here) here.now.keeper here.now.words)

  crashed_stays : (event : Event) → here.now.crashed ≡ true → tail_at (run opening (event ∷ before)).now ≡ tail_at here.now
  unfolding guard_run
  crashed_stays event over = sym (tail_after event) ∙ (rw over tail_before)

  keeper_moves : (granted done : Bool) (c : Bool) → here.now.crashed ≡ c → tail_at (run opening (KeeperMoves granted done ∷ before)).now ≡ tail_at here.now
  keeper_moves granted done true over = crashed_stays (KeeperMoves granted done) over
  keeper_moves granted done false alive =
      elim (step_tail (keeper_number here.now) (keeper_actor (keeper_number here.now) here.now.keeper) guards (guard_events here.now (read_by_keeper here) (KeeperMoves granted done)) enough (keeper_is granted done alive)) [
        | inl stays ↦ sym (tail_after (KeeperMoves granted done)) ∙ (stays ∙ tail_before)
        | inr takes ↦
            let low = taker_below guards (keeper_actor (keeper_number here.now) here.now.keeper) takes.x _ shows.sound takes.got takes.its_work in
            let same : guards.now.places.sessions ≡ keeper_number here.now = ap (λ (p : Places). p.sessions) shows.places in
            let above = actor_above (keeper_number here.now) here.now.keeper in
            absurd (omega (arith, low, same, above))
      ]

  session_moves : (number : ℕ) (found : Option SessionState) (c : Bool) → here.now.crashed ≡ c → slice_get here.now.sessions number ≡ found
      → TailMoves (tail_at here.now) (tail_at (run opening (Moves number ∷ before)).now) (moved_ghosts here number found)
  session_moves number found true over e = inl (crashed_stays (Moves number) over)
  session_moves number None false alive e = inl (unasked (Moves number) (λ at. let named : None ≡ Some (shared_place one.Tail) = sym (rw e refl) ∙ at in cc))
  session_moves number (Some s) false alive e =
      elim (step_tail (keeper_number here.now) number guards (guard_events here.now (read_by_keeper here) (Moves number)) enough (is_step number alive)) [
        | inl stays ↦ inl (sym (tail_after (Moves number)) ∙ (stays ∙ tail_before))
        | inr takes ↦
            inr (record {
              takes = subst (λ (t : ℕ). TakesAddr t (moved_ghosts here number (Some s))) tail_before (own_takes number s takes.x _ e takes.got takes.its_work tail_before);
              raised = sym (tail_after (Moves number)) ∙ (takes.raised ∙ ap (λ (t : ℕ). t + 1) tail_before);
            })
      ]

  own_moves : (event : Event) → TailMoves (tail_at here.now) (tail_at (run opening (event ∷ before)).now) (own_ghosts here event)
  own_moves (Moves number) = session_moves number (slice_get here.now.sessions number) here.now.crashed refl refl
  own_moves (KeeperMoves granted done) = inl (keeper_moves granted done here.now.crashed refl)
  own_moves (Calls number call) = inl (unasked (Calls number call) (λ at. cc))
  own_moves (Commits kind) = inl (unasked (Commits kind) (λ at. cc))
  own_moves Turns = inl (unasked Turns (λ at. cc))
  own_moves Crashes = inl (unasked Crashes (λ at. cc))

  -- with what else the event is to the log
  pub tail_moves : (event : Event) → TailMoves (tail_at here.now) (tail_at (run opening (event ∷ before)).now) (ghost_events (serials_in opening.now) here event)
  unfolding ghost_events
  tail_moves event = by_crash here.now.crashed refl
    where
      lines : List TraceLine
      lines = lines_added (serials_in opening.now) here.past.trace (traced_by here event)

      by_crash : (c : Bool) → here.now.crashed ≡ c
          → TailMoves (tail_at here.now) (tail_at (run opening (event ∷ before)).now) (if c then [] else map Tells lines ++ (fixed_ghosts (safe_at here.now) (safe_at (happens here event).now) ++ own_ghosts here event))
      by_crash true over = inl (crashed_stays event over)
      by_crash false alive = elim (own_moves event) [
        | inl stays ↦ inl stays
        | inr its ↦
            inr (record {
              takes =
                  behind_takes (tail_at here.now) (map Tells lines) _ (behind_takes (tail_at here.now) (fixed_ghosts (safe_at here.now) (safe_at (happens here event).now)) (own_ghosts here event) its.takes);
              raised = its.raised;
            })
      ]

-- ---- and a life
below_or_here : (a tail : ℕ) → a < tail + 1 → (a < tail) ⊎ (a ≡ tail)
below_or_here a tail low = by_test (a == tail) refl
  where
    by_test : (c : Bool) → (a == tail) ≡ c → (a < tail) ⊎ (a ≡ tail)
    by_test true e = inr (grind (arith, nat_tests, e))
    by_test false e = inl (grind (arith, nat_tests, e, low))

pub life_taken : (opening : World) (start : ℕ) (ghosts : Ghosts) (events : List Event) → guard.IsOpened opening.now start → TakenFrom (tail_at opening.now) (tail_at (run opening events).now) (life_ghosts opening ghosts events).log
unfolding mapped run
life_taken opening start ghosts [] opened a high low = absurd (omega (arith, high, low))
life_taken opening start ghosts (event ∷ before) opened a high low =
    let home : ℕ → ℕ = home_in opening.now.shape.bucket_bits in
    let its : List GhostEvent = ghost_events (serials_in opening.now) (run opening before) event in
    let tail : ℕ = tail_at (run opening before).now in
    let stays : a < tail → IsTaken ((ghost_run home ghosts (its ++ mapped opening before)).log.cells a) = λ below. stays_taken home ghosts its (mapped opening before) a (life_taken opening start ghosts before opened a high below) in
    elim (tail_moves opening start opened before event) [
      | inl same ↦ stays (omega (arith, low, same))
      | inr takes ↦ elim (below_or_here a tail (let up = takes.raised in omega (arith, low, up))) [
        | inl below ↦ stays below
        | inr here ↦ takes_taken home ghosts its (mapped opening before) a (subst (λ (t : ℕ). TakesAddr t its) (sym here) takes.takes)
      ]
    ]
