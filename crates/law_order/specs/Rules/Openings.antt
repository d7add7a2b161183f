-- What the laws of `rules` say.
use Rattle.std.specs.Prelude.{ℕ, List}
use Rattle.law_opening.specs.Below.fkv_core.Openings.{IsOpeningWorld, beginning}
use Rattle.law_opening.specs.Below.fkv_filling.OpeningIndex.{opening_lists}
use Rattle.law_opening.specs.Below.fkv_opening.Opened.{IsStoreOf}
use Rattle.law_opening.specs.Below.fkv_opening.TheOpened.{Opened}
use Rattle.law_opening.specs.Log.Maps.{opening_map}
use Rattle.law_opening.specs.Log.OpeningLog.{opening_ghosts}
use Rattle.law_commit.specs.Below.fkv_world.World.{Now}
use Rattle.law_commit.specs.Cuts.{HasItsWords, ShowCuts, ShowsDurable}
use Rattle.law_commit.specs.Points.{OpensPointed}
use Rattle.law_commit.specs.Quiet.{OpensQuiet}
use Rattle.law_commit.specs.Versions.Laws.{OpensWithLog}
use Rattle.law_order.specs.Known.Begins.{BeginsLife}

-- the life of an opened store begins with the log of its image
abbrev pub BeginsItsLife : Type 0
BeginsItsLife =
    (bytes : List ℕ) (o : Opened) (n : Now) → IsStoreOf bytes o → IsOpeningWorld o n
    → BeginsLife (beginning n bytes) o.tail.0 (opening_lists o.entries.items) (opening_map bytes o) o.number.0 (opening_ghosts bytes o)

-- the world of an opened store has all its words
abbrev pub OpensWithItsWords : Type 0
OpensWithItsWords =
    (o : Opened) (n : Now) → IsOpeningWorld o n → HasItsWords n

-- its cut words show serials
abbrev pub OpensItsCuts : Type 0
OpensItsCuts =
    (o : Opened) (n : Now) → IsOpeningWorld o n → ShowCuts n

-- its durable words show the points
abbrev pub OpensItsDurables : Type 0
OpensItsDurables =
    (o : Opened) (n : Now) → IsOpeningWorld o n → ShowsDurable n

-- the log of its image has no record of a later version than its phase word's
abbrev pub OpensItsVersions : Type 0
OpensItsVersions =
    (bytes : List ℕ) (o : Opened) (n : Now) → IsStoreOf bytes o → IsOpeningWorld o n → OpensWithLog (beginning n bytes) o.tail.0 (opening_ghosts bytes o)

-- its versions come to their ends
abbrev pub OpensItsEnds : Type 0
OpensItsEnds =
    (bytes : List ℕ) (o : Opened) (n : Now) → IsStoreOf bytes o → IsOpeningWorld o n → OpensQuiet (beginning n bytes) o.tail.0

-- and the points of its newest commit are its sessions' serials
abbrev pub OpensItsPoints : Type 0
OpensItsPoints =
    (bytes : List ℕ) (o : Opened) (n : Now) → IsStoreOf bytes o → IsOpeningWorld o n → OpensPointed (beginning n bytes) o.tail.0
