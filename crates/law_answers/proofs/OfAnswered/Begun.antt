-- A call that begins is answered at once, or in hand.
use Rattle.std.proofs.Common.{◌≡◌, ℕ, zero, suc, ◌∙◌, refl, sym, ap, subst, inl, inr, ◌⊎◌, ◌<◌, arith, List, [], ◌∷◌, length, Bool, true, false}
use Rattle.std.specs.Prelude.{Option, Some, None, not, ◌&&◌, slice_get}
use Rattle.fkv_base.specs.declared.commits.CommitKind.{CommitKind}
use Rattle.fkv_epoch.proofs.Shown.{item_written}
use Rattle.law_opening.specs.Below.fkv_keeper.Answers.{IsKeeperTold}
use Rattle.law_opening.specs.Below.fkv_keeper.KeeperAsk.{KeeperAsk}
use Rattle.law_opening.specs.Below.fkv_keeper.KeeperTold.{KeeperTold}
use Rattle.law_opening.specs.Below.fkv_keeper.KeeperTold.TheVariants.{Begun, CommitRefused, Device, TurnRefused, Turned}
use Rattle.law_opening.specs.Below.fkv_keeper.TheKeeping.{Keeping}
use Rattle.law_opening.specs.Below.fkv_keeper.TheKeeping.TheVariants.{Ended}
use Rattle.law_opening.specs.Below.fkv_keeper.KeeperRun.{is_in_hand}
use Rattle.law_opening.specs.Below.fkv_keeper.Keeping.{Finality, KeeperState, commit_asked, end_told, turn_asked}
use Rattle.fkv_map.specs.declared.operations.Call.{Call}
use Rattle.law_opening.specs.Below.fkv_session.Answer.{Answer}
use Rattle.law_opening.specs.Below.fkv_session.Finished.{Finished}
use Rattle.law_opening.specs.Below.fkv_session.Sitting.{Sitting}
use Rattle.law_opening.specs.Below.fkv_session.Sitting.TheVariants.{Idle}
use Rattle.law_opening.specs.Below.fkv_session.Sessions.{SessionState, is_busy}
use Rattle.law_opening.specs.Below.fkv_world.World.{Calls, Commits, Event, Now, Turns, happens_now, keeper_asked, life_goes, near, seat_at, session_called, with_keeper, with_session}
use Rattle.law_opening.specs.Below.fkv_core.Actor.{Actor}
use Rattle.law_opening.specs.Below.fkv_core.Actor.TheVariants.{Session, Keeper}
use Rattle.law_opening.specs.Below.fkv_core.Event as asked
use Rattle.law_opening.specs.Below.fkv_core.Event.TheVariants as events
use Rattle.law_opening.specs.Below.fkv_core.TheTold.{Told}
use Rattle.law_opening.specs.Below.fkv_core.Alone.{in_hand, is_seat_busy}
use Rattle.law_opening.specs.Below.fkv_core.Told.{IsKeepingTold, IsNumbered, IsSessionEnd, IsSittingTold, IsTold, keeper_told, may_begin, numbered}
use Rattle.law_opening.specs.Below.fkv_core.Worlds.{took_place}
use Rattle.law_answers.specs.Answered.Answers.{TellsAnswer}
use Rattle.law_answers.specs.Answered.Calls.{IsStartOf, IsThere}
use Rattle.law_answers.proofs.OfAnswered.OneEvent.{keeper_still, session_still}

-- each end of the keeper's call is told
pub keeper_tells : (its : KeeperTold) (last : Finality) (full : Bool) (given : KeeperAsk) → IsKeeperTold last (end_told its (Turned false full)) given → TellsAnswer Keeper (keeper_told given)
keeper_tells Device last full given so = subst (λ (it : KeeperAsk). TellsAnswer Keeper (keeper_told it)) (sym so.1) tt
keeper_tells (Turned finished other) last full given so = subst (λ (it : KeeperAsk). TellsAnswer Keeper (keeper_told it)) (sym so.1) tt
keeper_tells (TurnRefused why) last full given so = subst (λ (it : KeeperAsk). TellsAnswer Keeper (keeper_told it)) (sym so) tt
keeper_tells (Begun number) last full given so = subst (λ (it : KeeperAsk). TellsAnswer Keeper (keeper_told it)) (sym so) tt
keeper_tells (CommitRefused why) last full given so = subst (λ (it : KeeperAsk). TellsAnswer Keeper (keeper_told it)) (sym so) tt

-- told at once, or in hand
abbrev pub IsBegun : Actor → Now → Option Told → Type 0
IsBegun actor after told = TellsAnswer actor told ⊎ ((told ≡ None) × (in_hand after actor ≡ true))

sitting_begun : (number : ℕ) (after : Now) (step : Sitting) (finished : List Finished) (answer : Option Answer) (told : Option Told) → (is_busy step ≡ true → in_hand after (Session number) ≡ true)
    → IsSittingTold true step finished answer → told ≡ numbered number answer → IsBegun (Session number) after told
sitting_begun number after (Idle its) finished answer told busy so is =
    inl (subst (λ (it : Option Told). TellsAnswer (Session number) it) (sym (is ∙ ap (λ (it : Option Answer). numbered number it) so.1)) refl)
sitting_begun number after step finished answer told busy so is = inr (is ∙ ap (λ (it : Option Answer). numbered number it) so, busy refl)

ended_begun : (number : ℕ) (after : Now) (was_busy : Bool) (next : SessionState) (told : Option Told) → was_busy ≡ true → (is_busy next.step ≡ true → in_hand after (Session number) ≡ true)
    → IsNumbered number was_busy next told → IsBegun (Session number) after told
ended_begun number after true next told began busy so = sitting_begun number after next.step next.finished so.answer told busy so.its so.numbered_so
ended_begun number after false next told began busy so = cc

found_begun : (number : ℕ) (after : Now) (s next : SessionState) (was is : Option SessionState) (told : Option Told) → is_busy s.step ≡ false → was ≡ Some s → is ≡ Some next
    → (is_busy next.step ≡ true → in_hand after (Session number) ≡ true) → IsSessionEnd number may_begin was is told → IsBegun (Session number) after told
found_begun number after s next was is told idle found there busy so =
    let its : IsNumbered number (not (is_busy s.step)) next told = subst (λ (at : Option SessionState). IsSessionEnd number may_begin (Some s) at told) there (subst (λ (at : Option SessionState). IsSessionEnd number may_begin at is told) found so) in
    ended_begun number after (not (is_busy s.step)) next told (ap not idle) busy its

found_at : {X : Type 0} (xs : List X) (i : ℕ) → i < length xs → (x : X) × (slice_get xs i ≡ Some x)
found_at [] i small = let none : i < 0 = small in absurd (omega (arith, none))
found_at (x ∷ xs) zero small = (x, refl)
found_at (x ∷ xs) (suc i) small = let wide : suc i < suc (length xs) = small in found_at xs i (omega (arith, wide))

-- where the event leads
called_so : (n : Now) (read : List ℕ) (number : ℕ) (call : Call) (s : SessionState) → n.crashed ≡ false → slice_get n.sessions number ≡ Some s
    → happens_now n read (Calls number call) ≡ with_session n number (near n (session_called (seat_at n number) s call))
unfolding life_goes
called_so n read number call s alive found = rw alive (rw found refl)

commit_so : (n : Now) (read : List ℕ) (kind : CommitKind) → n.crashed ≡ false → happens_now n read (Commits kind) ≡ with_keeper n (near n (keeper_asked n.keeper (commit_asked n.keeper kind)))
unfolding life_goes
commit_so n read kind alive = rw alive refl

turn_so : (n : Now) (read : List ℕ) → n.crashed ≡ false → happens_now n read Turns ≡ with_keeper n (near n (keeper_asked n.keeper (turn_asked n.keeper)))
unfolding life_goes
turn_so n read alive = rw alive refl

alive_told : (n after : Now) (event : Event) (told : Option Told) → n.crashed ≡ false → IsTold n.crashed n after event told → IsTold false n after event told
alive_told n after event told alive so = subst (λ (crashed : Bool). IsTold crashed n after event told) alive so

idle_seat : (n : Now) (number : ℕ) (s : SessionState) → n.crashed ≡ false → slice_get n.sessions number ≡ Some s → in_hand n (Session number) ≡ false → is_busy s.step ≡ false
idle_seat n number s alive found idle = ap is_seat_busy (sym found) ∙ (ap (λ (crashed : Bool). not crashed && is_seat_busy (slice_get n.sessions number)) (sym alive) ∙ idle)

-- a session's
call_begun : (n after : Now) (number : ℕ) (call : Call) (read : List ℕ) (told : Option Told) (s : SessionState) → slice_get n.sessions number ≡ Some s → n.crashed ≡ false → in_hand n (Session number) ≡ false
    → after ≡ happens_now n read (Calls number call) → IsTold n.crashed n after (Calls number call) told → IsBegun (Session number) after told
call_begun n after number call read told s found alive idle led so =
    let next : SessionState = session_called (seat_at n number) s call in
    let goes : after ≡ with_session n number (near n next) = led ∙ called_so n read number call s alive found in
    let there : slice_get after.sessions number ≡ Some next = ap (λ (it : Now). slice_get it.sessions number) goes ∙ item_written n.sessions number s next found in
    let going : after.crashed ≡ false = ap (λ (it : Now). it.crashed) goes ∙ alive in
    found_begun number after s next (slice_get n.sessions number) (slice_get after.sessions number) told (idle_seat n number s alive found idle) found there
    (λ busy. session_still after number next going there busy) (alive_told n after (Calls number call) told alive so)

-- the keeper's
keeping_begun : (after : Now) (step : Keeping) (s : KeeperState) (told : Option Told) → (is_in_hand step ≡ true → in_hand after Keeper ≡ true) → IsKeepingTold true step s told → IsBegun Keeper after told
keeping_begun after (Ended its) s told busy so = inl (subst (λ (it : Option Told). TellsAnswer Keeper it) (sym so.2) (keeper_tells its s.last s.is_drain_full so.0 so.1))
keeping_begun after step s told busy so = inr (so, busy refl)

keeper_begun : (n after : Now) (led : Now) (told : Option Told) → n.crashed ≡ false → in_hand n Keeper ≡ false → after ≡ led → led.crashed ≡ n.crashed
    → IsKeepingTold (not (is_in_hand n.keeper.step)) after.keeper.step after.keeper told → IsBegun Keeper after told
keeper_begun n after led told alive idle goes same so =
    let going : after.crashed ≡ false = ap (λ (it : Now). it.crashed) goes ∙ (same ∙ alive) in
    let none : is_in_hand n.keeper.step ≡ false = ap (λ (crashed : Bool). not crashed && is_in_hand n.keeper.step) (sym alive) ∙ idle in
    keeping_begun after after.keeper.step after.keeper told (λ busy. keeper_still after going busy) (subst (λ (was : Bool). IsKeepingTold (not was) after.keeper.step after.keeper told) none so)

-- any start of an actor's call
pub begun : (its : asked.Event) (actor : Actor) (n after : Now) (read : List ℕ) (granted done : Bool) (told : Option Told) → after ≡ happens_now n read (took_place its granted done)
    → IsTold n.crashed n after (took_place its granted done) told → IsStartOf actor its → IsThere n actor → n.crashed ≡ false → in_hand n actor ≡ false → IsBegun actor after told
begun (events.Call session call) (Session number) n after read granted done told led so starts there alive idle =
    let seat = found_at n.sessions number there in
    call_begun n after number call read told seat.0 seat.1 alive idle (subst (λ (at : ℕ). after ≡ happens_now n read (Calls at call)) starts led) (subst (λ (at : ℕ). IsTold n.crashed n after (Calls at call) told) starts so)
begun (events.Commit kind) Keeper n after read granted done told led so starts there alive idle =
    keeper_begun n after (with_keeper n (near n (keeper_asked n.keeper (commit_asked n.keeper kind)))) told alive idle (led ∙ commit_so n read kind alive) refl (alive_told n after (Commits kind) told alive so)
begun events.Turn Keeper n after read granted done told led so starts there alive idle =
    keeper_begun n after (with_keeper n (near n (keeper_asked n.keeper (turn_asked n.keeper)))) told alive idle (led ∙ turn_so n read alive) refl (alive_told n after Turns told alive so)
begun its (Session number) n after read granted done told led so starts there alive idle = absurd starts
begun its Keeper n after read granted done told led so starts there alive idle = absurd starts
