-- What a call's end tells is the answer that its actor then gives.
use Rattle.std.proofs.Common.{◌≡◌, ◌∙◌, sym, subst, ℕ, Bool, true, false, not, ◌&&◌, refl}
use Rattle.std.specs.Prelude.{Option, Some, None, slice_get}
use Rattle.fkv_keeper.specs.KeeperRun.{is_in_hand}
use Rattle.fkv_keeper.specs.Keeping.{KeeperState}
use Rattle.fkv_session.specs.Sessions.{SessionState, is_busy}
use Rattle.fkv_world.specs.World.{Now}
use Rattle.fkv_core.specs.declared.events.Actor.{Actor}
use Rattle.fkv_core.specs.declared.events.Actor.TheVariants as actors
use Rattle.fkv_core.specs.declared.events.Event as event
use Rattle.fkv_core.specs.declared.events.Event.TheVariants as events
use Rattle.fkv_core.specs.declared.events.Told.{Told}
use Rattle.fkv_core.specs.Alone.{has_call, in_hand, is_seat_busy, moving}
use Rattle.fkv_core.specs.Told.{IsAnswerBehind, IsEventTold, IsKeeperEndTold, IsLastOfSession, IsNumbered, IsSessionEnd, IsSessionTold, IsTold, ends_call, ends_here, ends_session, may_begin, may_move}
use Rattle.fkv_core.specs.Worlds.{took_place}
use Rattle.fkv_core.proofs.Ends.{busy_told, in_hand_told}

-- where a session's call hasn't ended nothing is told
session_quiet : (was busy : Bool) (after : SessionState) → is_busy after.step ≡ busy → (was && not busy) ≡ false → IsSessionTold was after None
session_quiet false busy after is quiet = refl
session_quiet true true after is quiet = busy_told true after.step after.finished is
session_quiet true false after is quiet = cc

session_ended : (number : ℕ) (was : Bool) (after : SessionState) (told : Option Told) → was ≡ true → IsNumbered number true after told → IsNumbered number was after told
session_ended number was after told e its = subst (λ (it : Bool). IsNumbered number it after told) (sym e) its

both_left : (a b : Bool) → (a && b) ≡ true → a ≡ true
both_left true b e = refl
both_left false b e = cc

both_right : (a b : Bool) → (a && b) ≡ true → b ≡ true
both_right true b e = e
both_right false b e = cc

session_told : (number : ℕ) (ends : SessionState → Bool) (was after : Option SessionState) (told : Option Told) → ends_session ends was after ≡ true → IsLastOfSession number after told → IsSessionEnd number ends was after told
session_told number ends (Some s) (Some after) told ended its = session_ended number (ends s) after told (both_left (ends s) (not (is_busy after.step)) ended) its
session_told number ends None after told ended its = cc
session_told number ends (Some s) None told ended its = cc

session_untold : (number : ℕ) (ends : SessionState → Bool) (was after : Option SessionState) (told : Option Told) → ends_session ends was after ≡ false → told ≡ None → IsSessionEnd number ends was after told
session_untold number ends (Some s) (Some after) told quiet none = record { answer = None; its = session_quiet (ends s) (is_busy after.step) after refl quiet; numbered_so = none }
session_untold number ends None after told quiet none = none
session_untold number ends (Some s) None told quiet none = none

keeper_ended : (was : Bool) (after : KeeperState) (told : Option Told) → (was && not (is_in_hand after.step)) ≡ true → IsKeeperEndTold true after told → IsKeeperEndTold was after told
keeper_ended was after told ended its = subst (λ (it : Bool). IsKeeperEndTold it after told) (sym (both_left was (not (is_in_hand after.step)) ended)) its

keeper_untold : (was busy : Bool) (after : KeeperState) (told : Option Told) → is_in_hand after.step ≡ busy → (was && not busy) ≡ false → told ≡ None → IsKeeperEndTold was after told
keeper_untold false busy after told is quiet none = none
keeper_untold true true after told is quiet none = subst (λ (it : Option Told). IsKeeperEndTold true after it) (sym none) (in_hand_told true after.step after is)
keeper_untold true false after told is quiet none = cc

told_here : (its : event.Event) (n after : Now) (granted done ended : Bool) (told : Option Told) → ends_here its n after ≡ ended → IsAnswerBehind ended its after told → IsEventTold n after (took_place its granted done) told
told_here (events.Call number call) n after granted done true told e tells = session_told number may_begin (slice_get n.sessions number) (slice_get after.sessions number) told e tells
told_here (events.Call number call) n after granted done false told e tells = session_untold number may_begin (slice_get n.sessions number) (slice_get after.sessions number) told e tells
told_here (events.Move number) n after granted done true told e tells = session_told number may_move (slice_get n.sessions number) (slice_get after.sessions number) told e tells
told_here (events.Move number) n after granted done false told e tells = session_untold number may_move (slice_get n.sessions number) (slice_get after.sessions number) told e tells
told_here (events.Commit kind) n after granted done true told e tells = keeper_ended (not (is_in_hand n.keeper.step)) after.keeper told e tells
told_here (events.Commit kind) n after granted done false told e tells = keeper_untold (not (is_in_hand n.keeper.step)) (is_in_hand after.keeper.step) after.keeper told refl e tells
told_here events.Turn n after granted done true told e tells = keeper_ended (not (is_in_hand n.keeper.step)) after.keeper told e tells
told_here events.Turn n after granted done false told e tells = keeper_untold (not (is_in_hand n.keeper.step)) (is_in_hand after.keeper.step) after.keeper told refl e tells
told_here events.KeeperMove n after granted done true told e tells = keeper_ended (is_in_hand n.keeper.step) after.keeper told e tells
told_here events.KeeperMove n after granted done false told e tells = keeper_untold (is_in_hand n.keeper.step) (is_in_hand after.keeper.step) after.keeper told refl e tells
told_here events.SweepMove n after granted done true told e tells = keeper_ended (is_in_hand n.keeper.step) after.keeper told e tells
told_here events.SweepMove n after granted done false told e tells = keeper_untold (is_in_hand n.keeper.step) (is_in_hand after.keeper.step) after.keeper told refl e tells
told_here events.Crash n after granted done true told e tells = cc
told_here events.Crash n after granted done false told e tells = tells

told_where : (crashed : Bool) (its : event.Event) (n after : Now) (granted done ended : Bool) (told : Option Told) → (not crashed && ends_here its n after) ≡ ended → IsAnswerBehind ended its after told → IsTold crashed n after (took_place its granted done) told
told_where true its n after granted done true told e tells = cc
told_where true its n after granted done false told e tells = tells
told_where false its n after granted done ended told e tells = told_here its n after granted done ended told e tells

-- so what is told of an event is what its contract says
pub told_so : (its : event.Event) (n after : Now) (granted done ended : Bool) (told : Option Told) → ended ≡ ends_call its n after → IsAnswerBehind ended its after told → IsTold n.crashed n after (took_place its granted done) told
told_so its n after granted done ended told e tells = told_where n.crashed its n after granted done ended told (sym e) tells

pub lived : (crashed ends ended : Bool) → crashed ≡ false → ended ≡ ends → ended ≡ (not crashed && ends)
lived false ends ended e is = is
lived true ends ended e is = cc

seat_rests : (ends : SessionState → Bool) (was after : Option SessionState) → ends_session ends was after ≡ true → is_seat_busy after ≡ false
seat_rests ends (Some s) (Some after) ended = not_so (is_busy after.step) (both_right (ends s) (not (is_busy after.step)) ended)
  where
    not_so : (it : Bool) → not it ≡ true → it ≡ false
    not_so false e = refl
    not_so true e = cc
seat_rests ends None after ended = cc
seat_rests ends (Some s) None ended = cc

has_none : (actor : Actor) (n after : Now) → ends_here (moving actor) n after ≡ true → has_call after actor ≡ false
has_none (actors.Session number) n after ended = seat_rests may_move (slice_get n.sessions number) (slice_get after.sessions number) ended
has_none actors.Keeper n after ended = not_so (is_in_hand after.keeper.step) (both_right (is_in_hand n.keeper.step) (not (is_in_hand after.keeper.step)) ended)
  where
    not_so : (it : Bool) → not it ≡ true → it ≡ false
    not_so false e = refl
    not_so true e = cc

no_call : (crashed has : Bool) → has ≡ false → (not crashed && has) ≡ false
no_call true has e = refl
no_call false has e = e

-- an actor whose call has ended has none in hand
pub ended_rests : (actor : Actor) (its : event.Event) (n after : Now) (ended : Bool) → its ≡ moving actor → ended ≡ ends_call its n after → ended ≡ true → in_hand after actor ≡ false
ended_rests actor its n after ended is so over =
    let here : ends_call (moving actor) n after ≡ true = subst (λ it. ends_call it n after ≡ true) is (sym so ∙ over) in
    no_call after.crashed (has_call after actor) (has_none actor n after (both_right (not n.crashed) (ends_here (moving actor) n after) here))
