-- What an event of the world tells: nothing of sessions, or what one session begins and ends; and how that session goes on.
use Rattle.std.proofs.Common.{◌≡◌, ℕ, ◌∙◌, List, [], ◌∷◌, ◌++◌, refl, arith, ap, sym, subst, Bool, true, false, append-nil}
use Rattle.std.specs.Prelude.{slice_get, Option, Some, None, if◌then◌else◌, ◌==◌, ⊤}
use Rattle.std.proofs.lemmas.Bool.Decides.{nat_tests}
use Rattle.fkv_map.specs.declared.operations.Call.{Call}
use Rattle.fkv_map.specs.declared.operations.Call.TheVariants.{Refresh}
use Rattle.fkv_plane.specs.declared.actions.Action.{Action}
use Rattle.fkv_plane.specs.declared.asks.Ask.{Ask}
use Rattle.fkv_plane.specs.declared.asks.Ask.TheVariants.{Put, Take, Done}
use Rattle.fkv_plane.specs.Asked.{reply_to}
use Rattle.fkv_plane.specs.Plane.{action_at}
use Rattle.law_world.specs.Below.fkv_keeper.TheKeeping.{Keeping}
use Rattle.law_world.specs.Below.fkv_keeper.TheKeeping.TheVariants.{Ended}
use Rattle.law_world.specs.Below.fkv_keeper.Keeping.{Finality}
use Rattle.law_world.specs.Below.fkv_keeper.KeeperRun.{is_in_hand}
use Rattle.law_world.specs.Below.fkv_session.Told.{Told}
use Rattle.law_world.specs.Below.fkv_session.SessionRun.{SessionEvent, Begins, Replies, Gets, session_run}
use Rattle.law_world.specs.Below.fkv_session.Sessions.{SessionState, Seat, is_busy, session_ask, session_begun, session_next}
use Rattle.law_world.specs.Below.fkv_world.Actors.{is_of_session, session_goes}
use Rattle.law_world.specs.Runs.Added.{call_begun, begun_by, call_answered, session_answered, keeper_told, is_calling, ended_by, told_by}
use Rattle.law_world.specs.Below.fkv_world.Moves.{Near}
use Rattle.law_world.specs.Below.fkv_world.OwnEvents.{session_got, session_slots, session_steps, session_part, session_part_found, session_part_of}
use Rattle.law_world.specs.Below.fkv_world.Past.{TraceEvent, Called, Answered, CommitAsked, TurnAsked}
use Rattle.law_world.specs.Below.fkv_world.Runs.{World, happens}
use Rattle.law_world.specs.Below.fkv_world.World.{Event, Calls, Moves, Commits, Turns, KeeperMoves, Crashes, Now, seat_at, near}
use Rattle.law_world.proofs.Below.fkv_world.Shown.{happens_session, is_over, session_apart, session_written}
use Rattle.law_world.proofs.OfRuns.Nothing.{in_hand as busy_stays, no_session, none_in_hand}

-- no session tells these
abbrev pub is_of_keeper : TraceEvent → Type 0
is_of_keeper (Called session its) = ⊥
is_of_keeper (Answered session its) = ⊥
is_of_keeper it = ⊤

abbrev pub AreOfKeeper : List TraceEvent → Type 0
AreOfKeeper [] = ⊤
AreOfKeeper (it ∷ before) = is_of_keeper it × AreOfKeeper before

-- these begin no call
abbrev pub AreReplies : List SessionEvent → Type 0
AreReplies [] = ⊤
AreReplies (Begins its ∷ before) = ⊥
AreReplies (event ∷ before) = AreReplies before

-- a session begins a call, or goes on with the one that it has in hand; and tells its end where it comes to that
pub data Part (k : Seat) (number : ℕ) (s its : SessionState) (told : List TraceEvent) : Type 0 where
  Starts : (made : Call) → is_busy s.step ≡ false → its ≡ session_begun k s made → told ≡ call_answered number true its.step its.finished ++ Called number made ∷ [] → Part k number s its told
  GoesOn : (events : List SessionEvent) → is_busy s.step ≡ true → AreReplies events → its ≡ session_run k s events → told ≡ call_answered number true its.step its.finished → Part k number s its told

-- all sessions stay, or one takes its part and the others stay
pub data TellsSo (w : World) (event : Event) : Type 0 where
  Keepers : AreOfKeeper (told_by w.now (happens w event).now event) → ((number : ℕ) → slice_get (happens w event).now.sessions number ≡ slice_get w.now.sessions number) → TellsSo w event
  Sessions : (number : ℕ) (s its : SessionState) → slice_get w.now.sessions number ≡ Some s → slice_get (happens w event).now.sessions number ≡ Some its
      → ((other : ℕ) → (number == other) ≡ false → slice_get (happens w event).now.sessions other ≡ slice_get w.now.sessions other) → Part (seat_at w.now number) number s its (told_by w.now (happens w event).now event) → TellsSo w event

-- ---- the events of a step
got_replies : (found : Option Action) → AreReplies (session_got found)
got_replies None = tt
got_replies (Some action) = tt

slots_reply : (actions : List (Option Action)) (ask : Ask Told) → AreReplies (session_slots actions ask)
unfolding session_slots
slots_reply actions (Put slot action) = tt
slots_reply actions (Take slot) = got_replies (action_at actions slot)
slots_reply actions ask = tt

pub both_reply : (later before : List SessionEvent) → AreReplies later → AreReplies before → AreReplies (later ++ before)
both_reply [] before ones others = others
both_reply (Begins its ∷ later) before ones others = absurd ones
both_reply (Replies reply ∷ later) before ones others = both_reply later before ones others
both_reply (Gets action ∷ later) before ones others = both_reply later before ones others

steps_reply : (k : Seat) (n : Near SessionState) (ask : Ask Told) → AreReplies (session_steps k n ask)
unfolding session_steps
steps_reply k n (Done its) = tt
steps_reply k n (Put slot action) = slots_reply n.actions (Put slot action)
steps_reply k n (Take slot) = slots_reply n.actions (Take slot)
steps_reply k n ask =
    let next : Ask Told = session_ask k (session_next k n.machine (reply_to n.words ask)) in
    both_reply (session_slots n.actions next) (Replies (reply_to n.words ask) ∷ []) (slots_reply n.actions next) tt

pub part_replies : (n : Now) (number : ℕ) → AreReplies (session_part_of n number (Moves number))
unfolding session_part
part_replies n number = by_crash n.crashed (slice_get n.sessions number)
  where
    by_owner : (c : Bool) (s : SessionState) → AreReplies (if c then session_part (seat_at n number) (near n s) (Moves number) else [])
    by_owner true s = steps_reply (seat_at n number) (near n s) (session_ask (seat_at n number) s)
    by_owner false s = tt

    by_crash : (crashed : Bool) (found : Option SessionState) → AreReplies (if crashed then [] else session_part_found n number (Moves number) found)
    by_crash true found = tt
    by_crash false None = tt
    by_crash false (Some s) = by_owner (number == number) s

-- ---- what the keeper tells
pub keeper_end : (was : Bool) (step : Keeping) (last : Finality) → AreOfKeeper (keeper_told was step last)
keeper_end true (Ended its) last = (tt, tt)
keeper_end true step last = tt
keeper_end false step last = tt

pub keeper_start : (was : Bool) (it : TraceEvent) → is_of_keeper it → AreOfKeeper (if was then [] else it ∷ [])
keeper_start true it its = tt
keeper_start false it its = (its, tt)

pub both_keepers : (later before : List TraceEvent) → AreOfKeeper later → AreOfKeeper before → AreOfKeeper (later ++ before)
both_keepers [] before ones others = others
both_keepers (it ∷ later) before ones others = (ones.0, both_keepers later before ones.1 others)

-- where nothing happens nothing is told
abbrev pub ToldAlive : World → Event → List TraceEvent
ToldAlive w event = ended_by w.now (happens w event).now event ++ begun_by w.now event

pub alive_told : (w : World) (event : Event) → w.now.crashed ≡ false → told_by w.now (happens w event).now event ≡ ToldAlive w event
alive_told w event alive = ap (λ (c : Bool). if c then [] else ToldAlive w event) alive

over_told : (w : World) (event : Event) → w.now.crashed ≡ true → told_by w.now (happens w event).now event ≡ []
over_told w event over = ap (λ (c : Bool). if c then [] else ToldAlive w event) over

pub none_answered : (session : ℕ) (after : Option SessionState) → session_answered session false after ≡ []
none_answered session None = refl
none_answered session (Some s) = refl

nothing : (w : World) (event : Event) → happens w event ≡ w → told_by w.now (happens w event).now event ≡ [] → TellsSo w event
nothing w event same none = Keepers (subst AreOfKeeper (sym none) tt) (λ number. ap (λ (x : World). slice_get x.now.sessions number) same)

other_event : (number other : ℕ) → (number == other) ≡ false → is_of_session other (Moves number) ≡ false
other_event number other e = e

-- a call
pub call_nothing : (w : World) (at : ℕ) (its : Call) → w.now.crashed ≡ false → is_calling true (slice_get w.now.sessions at) ≡ false → call_begun at its (slice_get w.now.sessions at) ≡ []
    → told_by w.now (happens w (Calls at its)).now (Calls at its) ≡ []
unfolding ended_by begun_by
call_nothing w at its alive quiet none =
    alive_told w (Calls at its) alive
    ∙ (ap (λ (more : List TraceEvent). session_answered at (is_calling true (slice_get w.now.sessions at)) (slice_get (happens w (Calls at its)).now.sessions at) ++ more) none
    ∙ (ap (λ (b : Bool). session_answered at b (slice_get (happens w (Calls at its)).now.sessions at) ++ []) quiet
    ∙ ap (λ (x : List TraceEvent). x ++ []) (none_answered at (slice_get (happens w (Calls at its)).now.sessions at))))

pub started_now : (w : World) (at : ℕ) (its : Call) (s : SessionState) → w.now.crashed ≡ false → slice_get w.now.sessions at ≡ Some s → is_busy s.step ≡ false
    → slice_get (happens w (Calls at its)).now.sessions at ≡ Some (session_begun (seat_at w.now at) s its)
unfolding session_goes
started_now w at its s alive found idle =
    session_written w (Calls at its) at s (grind (arith, nat_tests)) alive found ∙ ap (λ (b : Bool). Some (if b then s else session_begun (seat_at w.now at) s its)) idle

pub started_told : (w : World) (at : ℕ) (its : Call) (s : SessionState) → w.now.crashed ≡ false → slice_get w.now.sessions at ≡ Some s → is_busy s.step ≡ false
    → told_by w.now (happens w (Calls at its)).now (Calls at its) ≡ call_answered at true (session_begun (seat_at w.now at) s its).step (session_begun (seat_at w.now at) s its).finished ++ Called at its ∷ []
unfolding ended_by begun_by
started_told w at its s alive found idle =
    alive_told w (Calls at its) alive
    ∙ (ap (λ (x : Option SessionState). session_answered at (is_calling true (slice_get w.now.sessions at)) x ++ call_begun at its (slice_get w.now.sessions at)) (started_now w at its s alive found idle)
    ∙ (ap (λ (x : Option SessionState). session_answered at (is_calling true x) (Some (session_begun (seat_at w.now at) s its)) ++ call_begun at its x) found
    ∙ ap (λ (b : Bool). session_answered at (if b then false else true) (Some (session_begun (seat_at w.now at) s its)) ++ (if b then [] else Called at its ∷ [])) idle))

call_starts : (w : World) (at : ℕ) (its : Call) (s : SessionState) → w.now.crashed ≡ false → slice_get w.now.sessions at ≡ Some s → is_busy s.step ≡ false → TellsSo w (Calls at its)
call_starts w at its s alive found idle =
    Sessions at s (session_begun (seat_at w.now at) s its) found (started_now w at its s alive found idle) (λ other e. session_apart w (Calls at its) other e) (Starts its idle refl (started_told w at its s alive found idle))

call_found : (w : World) (at : ℕ) (its : Call) (found : Option SessionState) → w.now.crashed ≡ false → slice_get w.now.sessions at ≡ found → TellsSo w (Calls at its)
call_found w at its None alive e = nothing w (Calls at its) (no_session w at its e).0 (call_nothing w at its alive (ap (is_calling true) e) (ap (call_begun at its) e))
call_found w at its (Some s) alive e = by_busy (is_busy s.step) refl
  where
    by_busy : (busy : Bool) → is_busy s.step ≡ busy → TellsSo w (Calls at its)
    by_busy true b =
        nothing w (Calls at its) (busy_stays w at its s e b)
        (call_nothing w at its alive (ap (is_calling true) e ∙ ap (λ (x : Bool). if x then false else true) b) (ap (call_begun at its) e ∙ ap (λ (x : Bool). if x then [] else Called at its ∷ []) b))
    by_busy false b = call_starts w at its s alive e b

-- a move
pub move_nothing : (w : World) (at : ℕ) → w.now.crashed ≡ false → is_calling false (slice_get w.now.sessions at) ≡ false → told_by w.now (happens w (Moves at)).now (Moves at) ≡ []
unfolding ended_by begun_by
move_nothing w at alive quiet =
    alive_told w (Moves at) alive
    ∙ (ap (λ (b : Bool). session_answered at b (slice_get (happens w (Moves at)).now.sessions at) ++ []) quiet
    ∙ ap (λ (x : List TraceEvent). x ++ []) (none_answered at (slice_get (happens w (Moves at)).now.sessions at)))

behind_nothing : (number : ℕ) (step : _) (s : SessionState) → call_answered number true step s.finished ++ [] ≡ call_answered number true step s.finished
behind_nothing number step s = append-nil _

move_goes : (w : World) (at : ℕ) (s : SessionState) → w.now.crashed ≡ false → slice_get w.now.sessions at ≡ Some s → is_busy s.step ≡ true → TellsSo w (Moves at)
unfolding ended_by begun_by
move_goes w at s alive found busy = Sessions at s after found now (λ other e. session_apart w (Moves at) other e) (GoesOn (session_part_of w.now at (Moves at)) busy (part_replies w.now at) refl told)
  where
    after : SessionState
    after = session_run (seat_at w.now at) s (session_part_of w.now at (Moves at))

    now : slice_get (happens w (Moves at)).now.sessions at ≡ Some after
    now = happens_session w (Moves at) at s found

    told : told_by w.now (happens w (Moves at)).now (Moves at) ≡ call_answered at true after.step after.finished
    told =
        alive_told w (Moves at) alive
        ∙ (ap (λ (x : Option SessionState). session_answered at (is_calling false (slice_get w.now.sessions at)) x ++ []) now
        ∙ (ap (λ (x : Option SessionState). session_answered at (is_calling false x) (Some after) ++ []) found
        ∙ (ap (λ (b : Bool). call_answered at b after.step after.finished ++ []) busy
        ∙ behind_nothing at after.step after)))

move_found : (w : World) (at : ℕ) (found : Option SessionState) → w.now.crashed ≡ false → slice_get w.now.sessions at ≡ found → TellsSo w (Moves at)
move_found w at None alive e = nothing w (Moves at) (no_session w at Refresh e).1 (move_nothing w at alive (ap (is_calling false) e))
move_found w at (Some s) alive e = by_busy (is_busy s.step) refl
  where
    by_busy : (busy : Bool) → is_busy s.step ≡ busy → TellsSo w (Moves at)
    by_busy true b = move_goes w at s alive e b
    by_busy false b = nothing w (Moves at) (none_in_hand w at s e b) (move_nothing w at alive (ap (is_calling false) e ∙ b))

-- each event
alive_tells : (w : World) (event : Event) → w.now.crashed ≡ false → TellsSo w event
unfolding ended_by begun_by
alive_tells w (Calls at its) alive = call_found w at its (slice_get w.now.sessions at) alive refl
alive_tells w (Moves at) alive = move_found w at (slice_get w.now.sessions at) alive refl
alive_tells w (Commits kind) alive = Keepers
    (subst AreOfKeeper (sym (alive_told w (Commits kind) alive)) (both_keepers _ _ (keeper_end _ _ _) (keeper_start (is_in_hand w.now.keeper.step) (CommitAsked kind) tt)))
    (λ number. session_apart w (Commits kind) number refl)
alive_tells w Turns alive = Keepers
    (subst AreOfKeeper (sym (alive_told w Turns alive)) (both_keepers _ _ (keeper_end _ _ _) (keeper_start (is_in_hand w.now.keeper.step) TurnAsked tt)))
    (λ number. session_apart w Turns number refl)
alive_tells w (KeeperMoves granted done) alive = Keepers
    (subst AreOfKeeper (sym (alive_told w (KeeperMoves granted done) alive))
    (both_keepers (keeper_told (is_in_hand w.now.keeper.step) (happens w (KeeperMoves granted done)).now.keeper.step (happens w (KeeperMoves granted done)).now.keeper.last) [] (keeper_end _ _ _) tt))
    (λ number. session_apart w (KeeperMoves granted done) number refl)
alive_tells w Crashes alive = Keepers (subst AreOfKeeper (sym (alive_told w Crashes alive)) tt) (λ number. session_apart w Crashes number refl)

pub tells_so : (w : World) (event : Event) → TellsSo w event
tells_so w event = by_crash w.now.crashed refl
  where
    by_crash : (crashed : Bool) → w.now.crashed ≡ crashed → TellsSo w event
    by_crash true over = nothing w event (is_over w event over) (over_told w event over)
    by_crash false alive = alive_tells w event alive
