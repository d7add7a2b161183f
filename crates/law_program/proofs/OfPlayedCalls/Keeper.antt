-- What the keeper does leaves sessions as they are, and nothing takes effect by it; nor is a session told anything.
use Rattle.std.proofs.Common.{◌≡◌, ◌∙◌, ℕ, List, [], ◌∷◌, ◌++◌, Bool, true, false, ap, append_assoc, refl, sym, subst, length}
use Rattle.std.specs.Prelude.{if◌then◌else◌, slice_get}
use Rattle.law_order.specs.Below.fkv_core.Openings.{beginning}
use Rattle.law_order.specs.Below.fkv_keeper.KeeperRun.{is_in_hand}
use Rattle.law_order.specs.Below.fkv_keeper.KeeperAsks.{keeper_calls}
use Rattle.law_order.specs.Below.fkv_keeper.Keeping.{Finality, keeper_ask}
use Rattle.law_order.specs.Below.fkv_keeper.TheKeeping.{Keeping}
use Rattle.law_order.specs.Below.fkv_keeper.TheKeeping.TheVariants.{Ended}
use Rattle.law_order.specs.Below.fkv_opening.TheOpened.{Opened}
use Rattle.fkv_runs.specs.Below.fkv_playing.ActorCall.{ActorCall}
use Rattle.fkv_runs.specs.Below.fkv_playing.ActorCall.TheVariants.{Session, Commit, Trim, Turn}
use Rattle.law_order.specs.Below.fkv_world.Actors.{is_of_keeper, is_of_session}
use Rattle.law_order.specs.Below.fkv_world.Past as world
use Rattle.law_order.specs.Below.fkv_world.Past.{CommitAsked, KeeperAnswered, Past, TraceEvent, Traced, TurnAsked, calls_after, keeper_answered, life_past, traced}
use Rattle.law_order.specs.Below.fkv_world.Runs.{World, happens, read_by_keeper, run}
use Rattle.law_order.specs.Below.fkv_world.World.{Calls, Commits, Crashes, Event, KeeperMoves, Moves, Now, Turns, life_goes}
use Rattle.law_order.proofs.Below.fkv_world.Shown.{is_over, lived, session_apart, world_of}
use Rattle.law_log.specs.Trace.{history_of}
use Rattle.fkv_map.specs.History.{content}
use Rattle.law_order.specs.Below.law_opening.Log.Maps.{opening_map}
use Rattle.law_program.specs.PlayedCalls.EachLine.{AreMovesOf, IsMoveOf, begun_by}
use Rattle.law_program.specs.WholeCalls.WholeCalls.{map_after}
use Rattle.law_program.specs.PlayedCalls.Waiting.{SeatsKeepKeys, key_told}
use Rattle.law_program.proofs.OfPlayedCalls.Led.{IsKeepers}
use Rattle.law_program.proofs.OfPlayedCalls.Waiting.{other_told, stands_on}
use Rattle.law_order.proofs.OfReads.Numbers.{other_waiting}
use Rattle.law_order.proofs.Below.law_refine.OfCalls.Called.{is_other}
use Rattle.law_order.specs.Below.law_refine.Events.Lines.{read_waiting}
use Rattle.fkv_runs.specs.Below.fkv_playing.Seats.{SeatState}
use Rattle.law_order.specs.Below.law_refine.Calls.Calls.{effects_in_log}
use Rattle.law_order.specs.Below.law_refine.Results.Results.{NobodyCalls}

-- ---- one event
-- Nothing has taken effect, and no session was told a ticket.
pub record IsQuietPast (before after : Past) : Type 0 where
  pub history : after.history ≡ before.history
  pub added : List Traced
  pub so : after.trace ≡ added ++ before.trace
  pub still : (number ticket : ℕ) (trace : List Traced) → read_waiting number ticket (added ++ trace) ≡ read_waiting number ticket trace
  pub keys : (number ticket : ℕ) (trace : List Traced) → key_told number ticket (added ++ trace) ≡ key_told number ticket trace

quiet_none : (p : Past) → IsQuietPast p p
quiet_none p = record { history = refl; added = []; so = refl; still = λ number ticket trace. refl; keys = λ number ticket trace. refl }

quiet_one : (p : Past) (its : TraceEvent) → ((number : ℕ) → is_other number its) → IsQuietPast p (traced p its)
quiet_one p its others = record {
  history = refl;
  added = record { its = its; effects = length p.history } ∷ [];
  so = refl;
  still = λ number ticket trace. other_waiting number ticket (record { its = its; effects = length p.history }) trace (others number);
  keys = λ number ticket trace. other_told number ticket (record { its = its; effects = length p.history }) trace (others number);
}

pub quiet_both : (p between after : Past) → IsQuietPast p between → IsQuietPast between after → IsQuietPast p after
quiet_both p between after one other = record {
  history = other.history ∙ one.history;
  added = other.added ++ one.added;
  so = other.so ∙ (ap (λ (x : List Traced). other.added ++ x) one.so ∙ sym (append_assoc other.added one.added p.trace));
  still = λ number ticket trace. ap (read_waiting number ticket) (append_assoc other.added one.added trace) ∙ (other.still number ticket (one.added ++ trace) ∙ one.still number ticket trace);
  keys = λ number ticket trace. ap (key_told number ticket) (append_assoc other.added one.added trace) ∙ (other.keys number ticket (one.added ++ trace) ∙ one.keys number ticket trace);
}

ends_quietly : (was_busy : Bool) (step : Keeping) (last : Finality) (p : Past) → IsQuietPast p (keeper_answered was_busy step last p)
ends_quietly true (Ended its) last p = quiet_one p (KeeperAnswered its last) (λ number. tt)
ends_quietly was_busy step last p = quiet_none p

begins_quietly : (busy : Bool) (its : TraceEvent) (step : Keeping) (last : Finality) (p : Past) → ((number : ℕ) → is_other number its) → IsQuietPast p (if busy then p else keeper_answered true step last (traced p its))
begins_quietly true its step last p others = quiet_none p
begins_quietly false its step last p others = quiet_both p (traced p its) (keeper_answered true step last (traced p its)) (quiet_one p its others) (ends_quietly true step last (traced p its))

adds_quietly : (n after : Now) (event : Event) (p : Past) → is_of_keeper event ≡ true → IsQuietPast p (life_past n after event p)
unfolding life_past
adds_quietly n after (Calls number asked) p e = cc
adds_quietly n after (Moves number) p e = cc
adds_quietly n after (Commits kind) p e = begins_quietly (is_in_hand n.keeper.step) (CommitAsked kind) after.keeper.step after.keeper.last p (λ number. tt)
adds_quietly n after Turns p e = begins_quietly (is_in_hand n.keeper.step) TurnAsked after.keeper.step after.keeper.last p (λ number. tt)
adds_quietly n after (KeeperMoves granted done) p e =
    let called : Past = record p { calls = calls_after (keeper_ask n.shape n.places n.keeper) (keeper_calls n.shape n.keeper done) p.calls } in
    quiet_both p called (keeper_answered (is_in_hand n.keeper.step) after.keeper.step after.keeper.last called) (record { history = refl; added = []; so = refl; still = λ number ticket trace. refl; keys = λ number ticket trace. refl })
    (ends_quietly (is_in_hand n.keeper.step) after.keeper.step after.keeper.last called)
adds_quietly n after Crashes p e = cc

world_quietly : (w : World) (event : Event) (after : Now) → is_of_keeper event ≡ true → IsQuietPast w.past (world_of w event after).past
unfolding world_of
world_quietly w event after e = adds_quietly w.now after event w.past e

event_quietly : (w : World) (event : Event) → is_of_keeper event ≡ true → IsQuietPast w.past (happens w event).past
event_quietly w event e = by_crash w.now.crashed refl
  where
    by_crash : (crashed : Bool) → w.now.crashed ≡ crashed → IsQuietPast w.past (happens w event).past
    by_crash true over = subst (λ (x : World). IsQuietPast w.past x.past) (sym (is_over w event over)) (quiet_none w.past)
    by_crash false alive = subst (λ (x : World). IsQuietPast w.past x.past) (sym (lived w event alive)) (world_quietly w event (life_goes w.now (read_by_keeper w) event) e)

-- ---- a whole call
of_keeper : (its : ActorCall) (event : Event) → IsKeepers its → IsMoveOf its event → is_of_keeper event ≡ true
of_keeper (Session number asked) event keeper moves = absurd keeper
of_keeper (Commit kind) event keeper moves = ap is_of_keeper moves.2
of_keeper Trim event keeper moves = ap is_of_keeper moves.2
of_keeper Turn event keeper moves = ap is_of_keeper moves.2

of_none : (its : ActorCall) (event : Event) (number : ℕ) → IsKeepers its → IsMoveOf its event → is_of_session number event ≡ false
of_none (Session number asked) event other keeper moves = absurd keeper
of_none (Commit kind) event number keeper moves = ap (is_of_session number) moves.2
of_none Trim event number keeper moves = ap (is_of_session number) moves.2
of_none Turn event number keeper moves = ap (is_of_session number) moves.2

begun_of_keeper : (its : ActorCall) → IsKeepers its → is_of_keeper (begun_by its) ≡ true
begun_of_keeper (Session number asked) keeper = absurd keeper
begun_of_keeper (Commit kind) keeper = refl
begun_of_keeper Trim keeper = refl
begun_of_keeper Turn keeper = refl

begun_of_none : (its : ActorCall) (number : ℕ) → IsKeepers its → is_of_session number (begun_by its) ≡ false
begun_of_none (Session number asked) other keeper = absurd keeper
begun_of_none (Commit kind) number keeper = refl
begun_of_none Trim number keeper = refl
begun_of_none Turn number keeper = refl

module _ (opening : World) (its : ActorCall) (keeper : IsKeepers its) where
  moves_quietly : (moves before : List Event) → AreMovesOf its moves → IsQuietPast (run opening before).past (run opening (moves ++ before)).past
  unfolding run
  moves_quietly [] before are = quiet_none (run opening before).past
  moves_quietly (event ∷ moves) before are =
      quiet_both (run opening before).past (run opening (moves ++ before)).past (happens (run opening (moves ++ before)) event).past (moves_quietly moves before are.1)
      (event_quietly (run opening (moves ++ before)) event (of_keeper its event keeper are.0))

  pub call_quietly : (moves life : List Event) → AreMovesOf its moves → IsQuietPast (run opening life).past (run opening (moves ++ begun_by its ∷ life)).past
  unfolding run
  call_quietly moves life are =
      quiet_both (run opening life).past (happens (run opening life) (begun_by its)).past (run opening (moves ++ begun_by its ∷ life)).past (event_quietly (run opening life) (begun_by its) (begun_of_keeper its keeper))
      (moves_quietly moves (begun_by its ∷ life) are)

  moves_spare : (moves before : List Event) (number : ℕ) → AreMovesOf its moves → slice_get (run opening (moves ++ before)).now.sessions number ≡ slice_get (run opening before).now.sessions number
  unfolding run
  moves_spare [] before number are = refl
  moves_spare (event ∷ moves) before number are = session_apart (run opening (moves ++ before)) event number (of_none its event number keeper are.0) ∙ moves_spare moves before number are.1

  call_spares : (moves life : List Event) (number : ℕ) → AreMovesOf its moves → slice_get (run opening (moves ++ begun_by its ∷ life)).now.sessions number ≡ slice_get (run opening life).now.sessions number
  unfolding run
  call_spares moves life number are = moves_spare moves (begun_by its ∷ life) number are ∙ session_apart (run opening life) (begun_by its) number (begun_of_none its number keeper)

  -- nobody has a call in hand behind it either
  pub nobody_still : (moves life : List Event) → AreMovesOf its moves → NobodyCalls (run opening life).now → NobodyCalls (run opening (moves ++ begun_by its ∷ life)).now
  nobody_still moves life are nobody = λ number s found. nobody number s (sym (call_spares moves life number are) ∙ found)

-- and the map is the same
pub map_stays : (bytes : List ℕ) (o : Opened) (first : Now) (its : ActorCall) → IsKeepers its → (moves life : List Event) → AreMovesOf its moves → map_after o first bytes (moves ++ begun_by its ∷ life) ≡ map_after o first bytes life
map_stays bytes o first its keeper moves life are =
    ap (λ (x : List world.Effect). content (opening_map bytes o) (history_of (effects_in_log x))) (call_quietly (beginning first bytes) its keeper moves life are).history

-- and the tickets that seats keep stand for the same keys
pub seats_still : (bytes : List ℕ) (first : Now) (its : ActorCall) → IsKeepers its → (moves life : List Event) → AreMovesOf its moves → (seats : List SeatState) → SeatsKeepKeys bytes first life seats
    → SeatsKeepKeys bytes first (moves ++ begun_by its ∷ life) seats
seats_still bytes first its keeper moves life are seats keeps =
    let past = call_quietly (beginning first bytes) its keeper moves life are in
    let trace : List Traced = (run (beginning first bytes) life).past.trace in
    record {
      told = λ number seat there ticket. keeps.told number seat there ticket ∙ sym (ap (key_told number ticket.0) past.so ∙ past.keys number ticket.0 trace);
      stand = λ number seat there ticket key kept.
          stands_on bytes first life (moves ++ begun_by its ∷ life) (moves ++ begun_by its ∷ []) past.added number ticket key (sym (append_assoc moves (begun_by its ∷ []) life)) past.so
          (ap (read_waiting number ticket.0) past.so ∙ past.still number ticket.0 trace) (keeps.stand number seat there ticket key kept);
    }
