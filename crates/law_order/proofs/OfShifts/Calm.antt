-- A session that is idle, or makes a turn of its own, stays so by its step.
use Rattle.std.proofs.Common.{◌≡◌, refl, ap, true}
use Rattle.std.specs.Prelude.{Option, Some, None}
use Rattle.fkv_plane.specs.declared.actions.Action.{Action}
use Rattle.fkv_plane.specs.declared.asks.Ask.{Ask}
use Rattle.fkv_plane.specs.declared.asks.Ask.TheVariants.{Done, Put, Take}
use Rattle.fkv_plane.specs.Asked.{reply_to}
use Rattle.fkv_plane.specs.Plane.{action_at}
use Rattle.law_commit.specs.Below.fkv_session.Told.{Told}
use Rattle.law_commit.specs.Below.fkv_session.Sitting.{Sitting}
use Rattle.law_commit.specs.Below.fkv_session.Sitting.TheVariants.{Idle, Turns}
use Rattle.law_commit.specs.Below.fkv_session.OwnTurns.{own_turn_ask, own_turn_given}
use Rattle.law_commit.specs.Below.fkv_session.Sessions.{Seat, SessionState, session_ask, sitting_given}
use Rattle.law_commit.specs.Below.fkv_world.Moves.{Near, session_asks, session_gets, session_moved, session_replied, session_settled}
use Rattle.law_opening.proofs.OfChanges.OfSessions.Calm.{is_calm, next_calm, turned_calm}

action_calm : (k : Seat) (s : SessionState) (step : Sitting) (action : Action) → s.step ≡ step → is_calm step ≡ true → is_calm (sitting_given k s step action).step ≡ true
unfolding sitting_given
action_calm k s (Turns its) action at calm = turned_calm (record s { own_turn = own_turn_given s.own_turn action }) its (own_turn_ask k.shape (own_turn_given s.own_turn action)) at
action_calm k s (Idle its) action at calm = ap is_calm at
action_calm k s step action at calm = cc

gets_calm : (k : Seat) (s : SessionState) (found : Option Action) → is_calm s.step ≡ true → is_calm (session_gets k s found).step ≡ true
gets_calm k s None calm = calm
gets_calm k s (Some action) calm = action_calm k s s.step action refl calm

settled_calm : (k : Seat) (n : Near SessionState) (ask : Ask Told) → is_calm n.machine.step ≡ true → is_calm (session_settled k n ask).machine.step ≡ true
unfolding session_settled
settled_calm k n (Put slot action) calm = next_calm k n.machine 0 calm
settled_calm k n (Take slot) calm = gets_calm k n.machine (action_at n.actions slot) calm
settled_calm k n ask calm = calm

asks_calm : (k : Seat) (n : Near SessionState) (ask : Ask Told) → is_calm n.machine.step ≡ true → is_calm (session_asks k n ask).machine.step ≡ true
unfolding session_asks
asks_calm k n (Done told) calm = calm
asks_calm k n (Put slot action) calm = settled_calm k n (Put slot action) calm
asks_calm k n (Take slot) calm = settled_calm k n (Take slot) calm
asks_calm k n ask calm = settled_calm k (session_replied k n ask) (session_ask k (session_replied k n ask).machine) (next_calm k n.machine (reply_to n.words ask) calm)

pub stays_calm : (k : Seat) (n : Near SessionState) → is_calm n.machine.step ≡ true → is_calm (session_moved k n).machine.step ≡ true
stays_calm k n calm = asks_calm k n (session_ask k n.machine) calm
