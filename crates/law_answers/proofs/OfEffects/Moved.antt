-- A move of a session whose call is in hand is a reply to its ask.
use Rattle.std.proofs.Common.{◌≡◌, ℕ, zero, suc, ◌<◌, ◌∙◌, refl, sym, arith, Bool, true, false, List, [], ◌∷◌, ◌++◌}
use Rattle.std.specs.Prelude.{◌&&◌, not, if◌then◌else◌, Option, Some, None, slice_get}
use Rattle.std.proofs.lemmas.Bool.Decides.{nat_tests}
use Rattle.fkv_plane.specs.declared.actions.Action.{Action}
use Rattle.fkv_plane.specs.declared.asks.Ask.{Ask}
use Rattle.fkv_plane.specs.declared.asks.Ask.TheVariants.{Put, Take, Done}
use Rattle.fkv_plane.specs.Asked.{reply_to}
use Rattle.fkv_plane.specs.Passing.{is_done}
use Rattle.fkv_plane.specs.Plane.{action_at}
use Rattle.law_opening.specs.Below.fkv_core.Alone.{in_hand, is_seat_busy}
use Rattle.law_opening.specs.Below.fkv_core.Actor.TheVariants.{Session}
use Rattle.law_opening.specs.Below.fkv_session.Told.{Told}
use Rattle.law_opening.specs.Below.fkv_session.AsksLeft.{session_asks_left}
use Rattle.law_opening.specs.Below.fkv_session.SessionRun.{SessionEvent, Replies, session_run}
use Rattle.law_opening.specs.Below.fkv_session.Sessions.{SessionState, Seat, is_busy, session_ask, session_next}
use Rattle.law_opening.proofs.Below.fkv_session.Shown.{run_ended, session_left}
use Rattle.law_opening.specs.Below.fkv_world.Actors.{is_of_session, slot_asked}
use Rattle.law_opening.specs.Below.fkv_world.Moves.{Near}
use Rattle.law_opening.specs.Below.fkv_world.OwnEvents.{session_got, session_part, session_part_found, session_part_of, session_slots, session_steps}
use Rattle.law_opening.specs.Below.fkv_world.World.{Moves, Now, near, seat_at}
use Rattle.law_answers.proofs.OfEffects.Quiet.{HaveReply}

-- a session of this number is there, with its call in hand, and the life goes on
pub record IsBusy (n : Now) (number : ℕ) : Type 0 where
  pub its : SessionState
  pub found : slice_get n.sessions number ≡ Some its
  pub busy : is_busy its.step ≡ true
  pub alive : n.crashed ≡ false

busy_so : (n : Now) (number : ℕ) (crashed : Bool) (found : Option SessionState) → n.crashed ≡ crashed → slice_get n.sessions number ≡ found → not crashed && is_seat_busy found ≡ true → IsBusy n number
busy_so n number true found over there busy = cc
busy_so n number false None over there busy = cc
busy_so n number false (Some its) over there busy = record { its = its; found = there; busy = busy; alive = over }

pub busy_of : (n : Now) (number : ℕ) → in_hand n (Session number) ≡ true → IsBusy n number
busy_of n number busy = busy_so n number n.crashed (slice_get n.sessions number) refl refl busy

-- so it asks for something
some_left : (left : ℕ) → (left ≡ 0 → ⊥) → 0 < left
some_left zero none = absurd (none refl)
some_left (suc left) none = omega arith

pub asks_on : (k : Seat) (first : SessionState) (events : List SessionEvent) → is_busy first.step ≡ false → is_busy (session_run k first events).step ≡ true → is_done (session_ask k (session_run k first events)) ≡ false
asks_on k first events idle busy =
    let s : SessionState = session_run k first events in
    (session_left k s).1 (some_left (session_asks_left k s) (λ none. let ended : is_busy s.step ≡ false = run_ended k first events idle none in never (sym ended ∙ busy)))
  where
    never : false ≡ true → ⊥
    never e = cc

-- and, where it stands at no slot, gets a reply
got_behind : (found : Option Action) (reply : ℕ) → HaveReply (session_got found ++ Replies reply ∷ [])
got_behind None reply = tt
got_behind (Some action) reply = tt

slots_behind : (actions : List (Option Action)) (ask : Ask Told) (reply : ℕ) → HaveReply (session_slots actions ask ++ Replies reply ∷ [])
unfolding session_slots
slots_behind actions (Put slot action) reply = tt
slots_behind actions (Take slot) reply = got_behind (action_at actions slot) reply
slots_behind actions ask reply = tt

steps_reply : (k : Seat) (n : Near SessionState) (ask : Ask Told) → is_done ask ≡ false → slot_asked ask ≡ None → HaveReply (session_steps k n ask)
unfolding session_steps
steps_reply k n (Done its) asks off = cc
steps_reply k n (Put slot action) asks off = cc
steps_reply k n (Take slot) asks off = cc
steps_reply k n ask asks off = slots_behind n.actions (session_ask k (session_next k n.machine (reply_to n.words ask))) (reply_to n.words ask)

found_reply : (n : Now) (number : ℕ) (own crashed : Bool) (found : Option SessionState) (its : SessionState) → is_of_session number (Moves number) ≡ own → own ≡ true → crashed ≡ false → found ≡ Some its
    → HaveReply (session_steps (seat_at n number) (near n its) (session_ask (seat_at n number) its))
    → HaveReply (if crashed then [] else session_part_found n number (Moves number) found)
unfolding session_part
found_reply n number own crashed found its is mine alive there reply = rw alive (rw there (rw (is ∙ mine) reply))

pub move_replies : (n : Now) (number : ℕ) (its : SessionState) → n.crashed ≡ false → slice_get n.sessions number ≡ Some its
    → is_done (session_ask (seat_at n number) its) ≡ false → slot_asked (session_ask (seat_at n number) its) ≡ None → HaveReply (session_part_of n number (Moves number))
move_replies n number its alive found asks off =
    let mine : is_of_session number (Moves number) ≡ true = grind (arith, nat_tests) in
    found_reply n number (is_of_session number (Moves number)) n.crashed (slice_get n.sessions number) its refl mine alive found (steps_reply (seat_at n number) (near n its) (session_ask (seat_at n number) its) asks off)
