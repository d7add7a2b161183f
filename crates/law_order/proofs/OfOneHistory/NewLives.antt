-- Each store has lives, and each shape, since there are worlds and new stores.
use Rattle.std.proofs.Common.{ℕ, List, [], refl}
use Rattle.fkv_base.specs.declared.shapes.Shape.{Shape}
use Rattle.law_opening.specs.Below.fkv_core.Openings.{IsOpeningWorld}
use Rattle.law_opening.specs.Below.fkv_creating.Created.{IsCreated, IsNewStore, created_bytes}
use Rattle.law_opening.specs.Below.fkv_opening.TheOpened.{Opened}
use Rattle.law_commit.specs.Below.fkv_world.World.{Now}
use Rattle.law_order.specs.OneHistory.EachLife.{Life}
use Rattle.law_order.specs.OneHistory.NewLives.{AreCreated, HoldNew, ShapesHaveLives, StoresHaveLives}

-- what the laws say of worlds and of new stores
abbrev pub HaveWorlds : Type 0
HaveWorlds = (o : Opened) → (n : Now) × IsOpeningWorld o n

abbrev pub AreNew : Type 0
AreNew = (shape : Shape) → (o : Opened) × IsNewStore shape o

pub stores_have_lives : HaveWorlds → StoresHaveLives
stores_have_lives worlds = λ bytes o events store fits few. record { world = (worlds o).0; life = record { store = store; begins = (worlds o).1; fits = fits; few = few } }

pub shapes_have_lives : HaveWorlds → AreCreated → AreNew → HoldNew → ShapesHaveLives
shapes_have_lives worlds created opened holds = λ shape events fits few.
    let bytes : List ℕ = created_bytes [] shape in
    let made : IsCreated shape bytes = created [] shape in
    let o : Opened = (opened shape).0 in
    let new : IsNewStore shape o = (opened shape).1 in
    let life : Life = record { bytes = bytes; opened = o; world = (worlds o).0; events = events } in
    record {
      its = life;
      is_new = record { life = record { store = (holds bytes shape o made).1 new; begins = (worlds o).1; fits = fits; few = few }; created = made; store = new };
      same = refl;
    }
