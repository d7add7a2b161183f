-- The lives of new stores, of which the order law speaks, and one that is worked out.
use Rattle.std.specs.Prelude.{◌≡◌, ◌↔◌, ℕ, List}
use Rattle.fkv_base.specs.declared.shapes.Shape.{Shape}
use Rattle.law_opening.specs.Below.fkv_creating.Created.{IsCreated, IsNewStore, created_bytes}
use Rattle.law_commit.specs.Below.fkv_keeper.Keeping.{KeeperState}
use Rattle.law_opening.specs.Below.fkv_opening.Opened.{IsStoreOf}
use Rattle.law_opening.specs.Below.fkv_opening.TheOpened.{Opened}
use Rattle.fkv_plane.specs.declared.places.Places.{Places}
use Rattle.law_commit.specs.Below.fkv_session.Sessions.{SessionState}
use Rattle.law_commit.specs.Below.fkv_world.World.{Event, Now}
use Rattle.law_commit.specs.WorkedRuns.{worked_world}
use Rattle.law_commit.specs.Below.law_refine.Events.Worked.{first_world, worked_events, worked_history}
use Rattle.law_order.specs.OneHistory.EachLife.{IsLife, Life}
use Rattle.law_order.specs.Rules.InTime.{ReadsInTime}
use Rattle.law_order.specs.Rules.Ordered.{HasLegalHistory, IsGuarded, OrdersItsCalls, ReadsFreshly, RunsActionsOnce, effects_so_far}
use Rattle.law_order.specs.Served.Fits.{CallsFit}
use Rattle.law_order.specs.Tickets.Few.{HasFewCalls}

-- ---- what the law of new stores says
-- whatever the device holds before, `create` leaves bytes of a new store
abbrev pub AreCreated : Type 0
AreCreated = (old : List ℕ) (shape : Shape) → IsCreated shape (created_bytes old shape)

-- such bytes hold each new store of the shape, and no other
abbrev pub HoldNew : Type 0
HoldNew = (image : List ℕ) (shape : Shape) (o : Opened) → IsCreated shape image → IsStoreOf image o ↔ IsNewStore shape o

-- ---- each store has lives
-- A store has lives of these events: there is a world with which it opens.
pub record HasLife (bytes : List ℕ) (o : Opened) (events : List Event) : Type 0 where
  pub world : Now
  pub life : IsLife (record { bytes = bytes; opened = o; world = world; events = events })

abbrev pub StoresHaveLives : Type 0
StoresHaveLives = (bytes : List ℕ) (o : Opened) (events : List Event) → IsStoreOf bytes o → CallsFit events → HasFewCalls events → HasLife bytes o events

-- ---- and so does each shape
-- A life of a new store of a shape: its bytes are as `create` leaves them.
pub record IsNewLife (shape : Shape) (its : Life) : Type 0 where
  pub life : IsLife its
  pub created : IsCreated shape its.bytes
  pub store : IsNewStore shape its.opened

-- one with these events
pub record HasNewLife (shape : Shape) (events : List Event) : Type 0 where
  pub its : Life
  pub is_new : IsNewLife shape its
  pub same : (let life = its in life.events ≡ events)

abbrev pub ShapesHaveLives : Type 0
ShapesHaveLives = (shape : Shape) (events : List Event) → CallsFit events → HasFewCalls events → HasNewLife shape events

-- ---- a worked life
-- what the order law says of a life
pub record IsOrderedLife (its : Life) : Type 0 where
  pub legal : HasLegalHistory its.opened its.world its.bytes its.events
  pub ordered : OrdersItsCalls its.opened its.world its.bytes its.events
  pub fresh : ReadsFreshly its.opened its.world its.bytes its.events
  pub in_time : ReadsInTime its.opened its.world its.bytes its.events
  pub guarded : IsGuarded its.opened its.world its.bytes its.events
  pub once : RunsActionsOnce its.opened its.world its.bytes its.events

-- A life of a new store begins with the world of the worked lives, over these bytes.
pub record BeginsAsWorked (its : Life) : Type 0 where
  pub shape : Shape
  pub is_new : IsNewLife shape its
  pub places : Places
  pub keeper : KeeperState
  pub one : SessionState
  pub other : SessionState
  pub first : its.world ≡ (let w = first_world shape places keeper one other in w.now)
  pub past : its.world ≡ (let w = worked_world shape places keeper one other in w.now)

-- The life of a new store that `law_of_a_worked_life` works out: its events, what has taken effect by them, and what the order law says of it.
pub record WorkedLife : Type 0 where
  pub its : Life
  pub begins : BeginsAsWorked its
  pub events : (let life = its in life.events ≡ worked_events)
  pub effects : (let life = its in effects_so_far life.world life.bytes life.events ≡ worked_history)
  pub ordered : IsOrderedLife its
