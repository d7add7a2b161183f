-- What an event of the world is to its sessions: none of theirs, a call that one begins, or a step of one that has a call in hand.
use Rattle.std.proofs.Common.{◌≡◌, ℕ, ◌∙◌, List, [], ◌∷◌, ◌++◌, refl, arith, ap, sym, subst, Bool, true, false, append-nil}
use Rattle.std.specs.Prelude.{slice_get, Option, Some, None, if◌then◌else◌, ◌==◌}
use Rattle.std.proofs.lemmas.Bool.Decides.{nat_tests}
use Rattle.fkv_map.specs.declared.operations.Call.{Call}
use Rattle.fkv_map.specs.declared.operations.Call.TheVariants.{Refresh}
use Rattle.law_commit.specs.Below.fkv_keeper.KeeperRun.{is_in_hand}
use Rattle.law_commit.specs.Below.fkv_session.SessionRun.{session_run}
use Rattle.law_commit.specs.Below.fkv_session.Sessions.{SessionState, is_busy, session_ask, session_begun}
use Rattle.law_commit.specs.Below.fkv_world.Actors.{is_of_session}
use Rattle.law_commit.specs.Below.law_world.Runs.Added.{call_begun, begun_by, call_answered, session_answered, keeper_told, is_calling, ended_by, told_by}
use Rattle.law_commit.specs.Below.fkv_world.OwnEvents.{session_steps, session_part, session_part_of}
use Rattle.law_commit.specs.Below.fkv_world.Past.{Called, CommitAsked, TurnAsked}
use Rattle.law_commit.specs.Below.fkv_world.Runs.{World, happens}
use Rattle.law_commit.specs.Below.fkv_world.World.{Event, Calls, Moves, Commits, Turns, KeeperMoves, Crashes, seat_at, near}
use Rattle.law_commit.proofs.Below.fkv_world.Shown.{happens_session, session_apart}
use Rattle.law_commit.proofs.Below.law_world.OfRuns.Nothing.{idle_ask, in_hand as busy_stays, no_session, none_in_hand}
use Rattle.law_commit.specs.Below.law_refine.Events.GhostEvents.{moved_ghosts, own_ghosts}
use Rattle.law_commit.specs.Below.law_refine.Events.Sessions.{step_ghosts}
use Rattle.law_commit.proofs.Below.law_refine.OfCalls.Telling.{AreOfKeeper, keeper_end, keeper_start, both_keepers, alive_told, call_nothing, move_nothing, started_now, started_told}

-- the other sessions stay
abbrev pub OthersStay : World → Event → ℕ → Type 0
OthersStay w event number = (other : ℕ) → (number == other) ≡ false → slice_get (happens w event).now.sessions other ≡ slice_get w.now.sessions other

-- a session begins a call
pub record Begins (w : World) (event : Event) : Type 0 where
  pub number : ℕ
  pub its : Call
  pub s : SessionState
  pub is : event ≡ Calls number its
  pub alive : w.now.crashed ≡ false
  pub found : slice_get w.now.sessions number ≡ Some s
  pub idle : is_busy s.step ≡ false
  pub now : slice_get (happens w event).now.sessions number ≡ Some (session_begun (seat_at w.now number) s its)
  pub others : OthersStay w event number
  pub told : told_by w.now (happens w event).now event ≡ call_answered number true (session_begun (seat_at w.now number) s its).step (session_begun (seat_at w.now number) s its).finished ++ Called number its ∷ []

-- where a session's step leads
abbrev pub moved_to : World → ℕ → SessionState → SessionState
moved_to w number s = session_run (seat_at w.now number) s (session_steps (seat_at w.now number) (near w.now s) (session_ask (seat_at w.now number) s))

-- it makes a step of the call that it has in hand
pub record Goes (w : World) (event : Event) : Type 0 where
  pub number : ℕ
  pub s : SessionState
  pub is : event ≡ Moves number
  pub alive : w.now.crashed ≡ false
  pub found : slice_get w.now.sessions number ≡ Some s
  pub busy : is_busy s.step ≡ true
  pub now : slice_get (happens w event).now.sessions number ≡ Some (moved_to w number s)
  pub others : OthersStay w event number
  pub told : told_by w.now (happens w event).now event ≡ call_answered number true (moved_to w number s).step (moved_to w number s).finished

pub data Turn (w : World) (event : Event) : Type 0 where
  Rests : AreOfKeeper (told_by w.now (happens w event).now event) → own_ghosts w event ≡ [] → ((number : ℕ) → slice_get (happens w event).now.sessions number ≡ slice_get w.now.sessions number) → Turn w event
  BeginsOne : Begins w event → Turn w event
  GoesOne : Goes w event → Turn w event

-- ---- where nothing happens
nothing : (w : World) (event : Event) → happens w event ≡ w → own_ghosts w event ≡ [] → told_by w.now (happens w event).now event ≡ [] → Turn w event
nothing w event same own none = Rests (subst AreOfKeeper (sym none) tt) own (λ number. ap (λ (x : World). slice_get x.now.sessions number) same)

-- ---- a call
call_starts : (w : World) (at : ℕ) (its : Call) (s : SessionState) → w.now.crashed ≡ false → slice_get w.now.sessions at ≡ Some s → is_busy s.step ≡ false → Turn w (Calls at its)
call_starts w at its s alive found idle =
    BeginsOne (record { number = at; its = its; s = s; is = refl; alive = alive; found = found; idle = idle; now = started_now w at its s alive found idle; others = λ other e. session_apart w (Calls at its) other e; told = started_told w at its s alive found idle })

call_found : (w : World) (at : ℕ) (its : Call) (found : Option SessionState) → w.now.crashed ≡ false → slice_get w.now.sessions at ≡ found → Turn w (Calls at its)
call_found w at its None alive e = nothing w (Calls at its) (no_session w at its e).0 refl (call_nothing w at its alive (ap (is_calling true) e) (ap (call_begun at its) e))
call_found w at its (Some s) alive e = by_busy (is_busy s.step) refl
  where
    by_busy : (busy : Bool) → is_busy s.step ≡ busy → Turn w (Calls at its)
    by_busy true b =
        nothing w (Calls at its) (busy_stays w at its s e b) refl
        (call_nothing w at its alive (ap (is_calling true) e ∙ ap (λ (x : Bool). if x then false else true) b) (ap (call_begun at its) e ∙ ap (λ (x : Bool). if x then [] else Called at its ∷ []) b))
    by_busy false b = call_starts w at its s alive e b

-- ---- a move
own_steps : (w : World) (at : ℕ) (s : SessionState) → w.now.crashed ≡ false → slice_get w.now.sessions at ≡ Some s → session_part_of w.now at (Moves at) ≡ session_steps (seat_at w.now at) (near w.now s) (session_ask (seat_at w.now at) s)
unfolding session_part
own_steps w at s alive found =
    let own : is_of_session at (Moves at) ≡ true = grind (arith, nat_tests) in
    rw alive (rw found (rw own refl))

move_goes : (w : World) (at : ℕ) (s : SessionState) → w.now.crashed ≡ false → slice_get w.now.sessions at ≡ Some s → is_busy s.step ≡ true → Turn w (Moves at)
unfolding ended_by begun_by
move_goes w at s alive found busy =
    GoesOne (record { number = at; s = s; is = refl; alive = alive; found = found; busy = busy; now = now; others = λ other e. session_apart w (Moves at) other e; told = told })
  where
    after : SessionState
    after = moved_to w at s

    now : slice_get (happens w (Moves at)).now.sessions at ≡ Some after
    now = happens_session w (Moves at) at s found ∙ ap (λ (events : List _). Some (session_run (seat_at w.now at) s events)) (own_steps w at s alive found)

    told : told_by w.now (happens w (Moves at)).now (Moves at) ≡ call_answered at true after.step after.finished
    told =
        alive_told w (Moves at) alive
        ∙ (ap (λ (x : Option SessionState). session_answered at (is_calling false (slice_get w.now.sessions at)) x ++ []) now
        ∙ (ap (λ (x : Option SessionState). session_answered at (is_calling false x) (Some after) ++ []) found
        ∙ (ap (λ (b : Bool). call_answered at b after.step after.finished ++ []) busy
        ∙ append-nil (call_answered at true after.step after.finished))))

none_own : (w : World) (at : ℕ) → slice_get w.now.sessions at ≡ None → own_ghosts w (Moves at) ≡ []
none_own w at e = ap (moved_ghosts w at) e

rests_own : (w : World) (at : ℕ) (s : SessionState) → slice_get w.now.sessions at ≡ Some s → is_busy s.step ≡ false → own_ghosts w (Moves at) ≡ []
unfolding step_ghosts
rests_own w at s e idle =
    let asks = idle_ask (seat_at w.now at) s s.step idle in
    ap (moved_ghosts w at) e ∙ ap (step_ghosts (seat_at w.now at) w.past.trace s w.now.words) asks.1

move_found : (w : World) (at : ℕ) (found : Option SessionState) → w.now.crashed ≡ false → slice_get w.now.sessions at ≡ found → Turn w (Moves at)
move_found w at None alive e = nothing w (Moves at) (no_session w at Refresh e).1 (none_own w at e) (move_nothing w at alive (ap (is_calling false) e))
move_found w at (Some s) alive e = by_busy (is_busy s.step) refl
  where
    by_busy : (busy : Bool) → is_busy s.step ≡ busy → Turn w (Moves at)
    by_busy true b = move_goes w at s alive e b
    by_busy false b = nothing w (Moves at) (none_in_hand w at s e b) (rests_own w at s e b) (move_nothing w at alive (ap (is_calling false) e ∙ b))

-- ---- each event of a world that goes on
pub turn_of : (w : World) (event : Event) → w.now.crashed ≡ false → Turn w event
unfolding ended_by begun_by
turn_of w (Calls at its) alive = call_found w at its (slice_get w.now.sessions at) alive refl
turn_of w (Moves at) alive = move_found w at (slice_get w.now.sessions at) alive refl
turn_of w (Commits kind) alive = Rests
    (subst AreOfKeeper (sym (alive_told w (Commits kind) alive)) (both_keepers _ _ (keeper_end _ _ _) (keeper_start (is_in_hand w.now.keeper.step) (CommitAsked kind) tt))) refl
    (λ number. session_apart w (Commits kind) number refl)
turn_of w Turns alive = Rests
    (subst AreOfKeeper (sym (alive_told w Turns alive)) (both_keepers _ _ (keeper_end _ _ _) (keeper_start (is_in_hand w.now.keeper.step) TurnAsked tt))) refl
    (λ number. session_apart w Turns number refl)
turn_of w (KeeperMoves granted done) alive = Rests
    (subst AreOfKeeper (sym (alive_told w (KeeperMoves granted done) alive))
    (both_keepers (keeper_told (is_in_hand w.now.keeper.step) (happens w (KeeperMoves granted done)).now.keeper.step (happens w (KeeperMoves granted done)).now.keeper.last) [] (keeper_end _ _ _) tt)) refl
    (λ number. session_apart w (KeeperMoves granted done) number refl)
turn_of w Crashes alive = Rests (subst AreOfKeeper (sym (alive_told w Crashes alive)) tt) refl (λ number. session_apart w Crashes number refl)
