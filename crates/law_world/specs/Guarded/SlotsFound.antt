-- What a step of the engine finds in the drain slot that it turns to: by the ask of the machine that moves, or the ask that goes with it in the same step.
use Rattle.std.specs.Prelude.{◌≡◌, ⊤, Bool, List, Option, Some, None, slice_get}
use Rattle.fkv_plane.specs.declared.actions.Action.{Action}
use Rattle.fkv_plane.specs.declared.asks.Ask.{Ask}
use Rattle.fkv_plane.specs.declared.asks.Ask.TheVariants.{Put, Take, Done}
use Rattle.fkv_plane.specs.Asked.{reply_to}
use Rattle.fkv_plane.specs.Plane.{action_at}
use Rattle.fkv_keeper.specs.Keeping.{keeper_ask, keeper_next}
use Rattle.fkv_session.specs.Sessions.{SessionState, Seat, session_ask, session_next}
use Rattle.fkv_world.specs.World.{Event, Moves, KeeperMoves, Now, seat_at}

-- a slot that is given an action is empty, and one whose action is taken has one
abbrev pub FindsSlot : {A : Type 0} → List (Option Action) → Ask A → Type 0
FindsSlot actions (Put slot action) = action_at actions slot ≡ None
FindsSlot actions (Take slot) = (action : Action) × (action_at actions slot ≡ Some action)
FindsSlot actions ask = ⊤

-- the ask of a step that may turn to a slot: its own, and where this is of a word, the one that goes with it
abbrev pub slot_ask : {A : Type 0} → Ask A → Ask A → Ask A
slot_ask (Put slot action) behind = Put slot action
slot_ask (Take slot) behind = Take slot
slot_ask (Done its) behind = Done its
slot_ask ask behind = behind

abbrev pub StepFindsSlot : {A : Type 0} → List (Option Action) → Ask A → Ask A → Type 0
StepFindsSlot actions ask behind = FindsSlot actions (slot_ask ask behind)

-- so it is of a session's step, and of the keeper's
abbrev pub SessionFindsSlot : Now → Seat → Option SessionState → Type 0
SessionFindsSlot n k None = ⊤
SessionFindsSlot n k (Some s) = StepFindsSlot n.actions (session_ask k s) (session_ask k (session_next k s (reply_to n.words (session_ask k s))))

abbrev pub KeeperFindsSlot : Now → Bool → Type 0
KeeperFindsSlot n granted =
    StepFindsSlot n.actions (keeper_ask n.shape n.places n.keeper) (keeper_ask n.shape n.places (keeper_next n.shape n.places n.keeper (reply_to n.words (keeper_ask n.shape n.places n.keeper)) granted))

-- every other event turns to no slot
abbrev pub FindsItsSlot : Now → Event → Type 0
FindsItsSlot n (Moves session) = SessionFindsSlot n (seat_at n session) (slice_get n.sessions session)
FindsItsSlot n (KeeperMoves granted done) = KeeperFindsSlot n granted
FindsItsSlot n event = ⊤
