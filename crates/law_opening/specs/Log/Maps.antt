-- The map that an opened store stands for.
use Rattle.std.specs.FinMap.{from_entries}
use Rattle.std.specs.Prelude.{ℕ, zero, suc, Option, Some, None, List, [], ◌∷◌}
use Rattle.fkv_map.specs.Map.{Map}
use Rattle.law_paper.specs.Below.fkv_opening.TheOpened.{Opened}
use Rattle.law_log.specs.Ghosts.{shown}
use Rattle.law_refine.specs.Events.GhostEvents.{home_in}
use Rattle.law_opening.specs.Log.OpeningLog.{cell_at, opening_log}

-- a key with its value, if it has one, before others
abbrev pub with_value : ℕ → Option ℕ → List (ℕ × ℕ) → List (ℕ × ℕ)
with_value key None others = others
with_value key (Some value) others = (key, value) ∷ others

-- the keys at all addresses below one, each with its value
unfoldable pub values_below : (ℕ → Option ℕ) → (ℕ → ℕ) → ℕ → List (ℕ × ℕ)
values_below value_of key_at zero = []
values_below value_of key_at (suc a) = with_value (key_at a) (value_of (key_at a)) (values_below value_of key_at a)

-- the keys of all records of the image, each with the value that its log shows
abbrev pub opening_map : List ℕ → Opened → Map
opening_map image o = from_entries (values_below (shown (home_in o.shape.bucket_bits) (opening_log image o)) (λ a. let cell = cell_at image o a in cell.key) o.tail.0)
