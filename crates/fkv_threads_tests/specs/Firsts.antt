-- The sessions of a table that was just opened.
use Rattle.std.specs.Prelude.{List}
use Rattle.atomic_table.specs.Seated.{TableId}
use Rattle.fkv_threads.specs.Begun.{AreFirst}
use Rattle.fkv_threads.specs.Models.{Sitting}

-- they are the first of some table
abbrev pub AreFirstOfOne : {K : Type 0} → List (Sitting K) → Type 0
AreFirstOfOne {K} places = (key : K) × (table : TableId) × AreFirst key table places
