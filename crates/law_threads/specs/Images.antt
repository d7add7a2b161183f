-- What images hold that a crash may leave in a call of the keeper.
use Rattle.std.specs.Prelude.{ℕ, List}
use Rattle.law_order.specs.Below.fkv_opening.TheOpened.{Opened}
use Rattle.fkv_seats.specs.Rule.{IsSeenBy}
use Rattle.law_order.specs.Below.fkv_world.Runs.{World}
use Rattle.law_order.specs.Below.fkv_world.World.{Now}
use Rattle.law_order.specs.Below.law_opening.Lives.Reaching.{ReachesFar}
use Rattle.law_order.specs.Prefix.Law.{HoldsPrefix}
use Rattle.law_paper.specs.Paper.Forgotten.{AgreeFrom}
use Rattle.fkv_table.specs.declared.happenings.Happening.{Happening}
use Rattle.fkv_table.specs.Keeps.{IsLeftWithin}
use Rattle.fkv_table.specs.Planes.{plane}
use Rattle.law_threads.specs.Calls.{IsOver, events_of}
use Rattle.law_threads.specs.Laws.{IsWithin}

module _ {K : Type 0} (at : K → World) where
  -- An image holds a prefix of the life as it is at some moment of the call, behind these events.
  pub record HoldsWithin (o : Opened) (n : Now) (bytes : List ℕ) (seen seen' : List Happening) (image : List ℕ) : Type 0 where
    pub now : List Happening
    pub from : IsSeenBy (plane at) seen now
    pub to : IsSeenBy (plane at) now seen'
    pub holds : HoldsPrefix o n bytes (events_of now) image

  -- So does each image that a crash may leave in the call, and what agrees with it but at bytes below the begin of its log, if the life began with an image that
  -- reaches far and keeps to the premise of the law of prefixes.
  abbrev pub RecoversWithin : K → List Happening → List Happening → Type 0
  RecoversWithin key seen seen' = (o : Opened) (n : Now) (bytes : List ℕ) → IsOver at key o n bytes → IsWithin o n bytes (events_of seen') → ReachesFar bytes
      → (image found : List ℕ) → IsLeftWithin at key seen seen' image → AgreeFrom image found → HoldsWithin o n bytes seen seen' found
