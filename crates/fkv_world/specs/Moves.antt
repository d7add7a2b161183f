-- One step of a session, and one of the keeper: what is asked of a word, and the action that goes with it, which is moved in the same step.
use Rattle.std.specs.Prelude.{ℕ, Bool, List, slice_set, Option, Some, None}
use Rattle.fkv_base.specs.declared.shapes.Shape.{Shape}
use Rattle.fkv_plane.specs.declared.actions.Action.{Action}
use Rattle.fkv_plane.specs.declared.asks.Ask.{Ask}
use Rattle.fkv_plane.specs.declared.asks.Ask.TheVariants.{Put, Take, Done}
use Rattle.fkv_plane.specs.declared.places.Places.{Places}
use Rattle.fkv_plane.specs.Asked.{reply_to, words_after}
use Rattle.fkv_plane.specs.Plane.{action_at}
use Rattle.fkv_session.specs.declared.answers.Told.{Told}
use Rattle.fkv_session.specs.Sessions.{SessionState, Seat, session_ask, session_next, session_given}
use Rattle.fkv_keeper.specs.declared.answers.KeeperTold.{KeeperTold}
use Rattle.fkv_keeper.specs.declared.answers.KeeperTold.TheVariants.{Device}
use Rattle.fkv_keeper.specs.Keeping.{KeeperState, keeper_ask, keeper_next, keeper_given, keeper_called}

-- a machine beside the words and the actions
pub record Near (S : Type 0) : Type 0 where
  pub machine : S
  pub words : List ℕ
  pub actions : List (Option Action)

-- what a session does with the action of a slot that it has claimed, if the slot has one
abbrev pub session_gets : Seat → SessionState → Option Action → SessionState
session_gets k s None = s
session_gets k s (Some action) = session_given k s action

-- an action goes into its slot, and one comes out of it; every other ask is left to the next step
unfoldable pub session_settled : Seat → Near SessionState → Ask Told → Near SessionState
session_settled k n (Put slot action) = record n { machine = session_next k n.machine 0; actions = slice_set n.actions slot (Some action) }
session_settled k n (Take slot) = record n { machine = session_gets k n.machine (action_at n.actions slot); actions = slice_set n.actions slot None }
session_settled k n ask = n

-- a word is asked for, and the session goes on with the reply
abbrev pub session_replied : Seat → Near SessionState → Ask Told → Near SessionState
session_replied k n ask = record n { machine = session_next k n.machine (reply_to n.words ask); words = words_after n.words ask }

unfoldable pub session_asks : Seat → Near SessionState → Ask Told → Near SessionState
session_asks k n (Done its) = n
session_asks k n (Put slot action) = session_settled k n (Put slot action)
session_asks k n (Take slot) = session_settled k n (Take slot)
session_asks k n ask = session_settled k (session_replied k n ask) (session_ask k (session_replied k n ask).machine)

-- a session's step
abbrev pub session_moved : Seat → Near SessionState → Near SessionState
session_moved k n = session_asks k n (session_ask k n.machine)

-- so does the keeper
abbrev pub keeper_gets : Shape → Places → KeeperState → Option Action → KeeperState
keeper_gets shape p s None = s
keeper_gets shape p s (Some action) = keeper_given shape p s action

unfoldable pub keeper_settled : Shape → Places → Bool → Near KeeperState → Ask KeeperTold → Near KeeperState
keeper_settled shape p granted n (Put slot action) = record n { machine = keeper_next shape p n.machine 0 granted; actions = slice_set n.actions slot (Some action) }
keeper_settled shape p granted n (Take slot) = record n { machine = keeper_gets shape p n.machine (action_at n.actions slot); actions = slice_set n.actions slot None }
keeper_settled shape p granted n ask = n

abbrev pub keeper_replied : Shape → Places → Bool → Near KeeperState → Ask KeeperTold → Near KeeperState
keeper_replied shape p granted n ask = record n { machine = keeper_next shape p n.machine (reply_to n.words ask) granted; words = words_after n.words ask }

-- whether memory is granted, whether the call of the device succeeds and what it reads count where they are asked for
unfoldable pub keeper_asks : Shape → Places → Bool → Bool → List ℕ → Near KeeperState → Ask KeeperTold → Near KeeperState
keeper_asks shape p granted done read n (Done Device) = record n { machine = keeper_called shape p n.machine done read }
keeper_asks shape p granted done read n (Done its) = n
keeper_asks shape p granted done read n (Put slot action) = keeper_settled shape p granted n (Put slot action)
keeper_asks shape p granted done read n (Take slot) = keeper_settled shape p granted n (Take slot)
keeper_asks shape p granted done read n ask = keeper_settled shape p granted (keeper_replied shape p granted n ask) (keeper_ask shape p (keeper_replied shape p granted n ask).machine)

-- the keeper's step
abbrev pub keeper_moved : Shape → Places → Bool → Bool → List ℕ → Near KeeperState → Near KeeperState
keeper_moved shape p granted done read n = keeper_asks shape p granted done read n (keeper_ask shape p n.machine)
