-- In which lists of events a life isn't ended.
use Rattle.std.specs.Prelude.{◌≡◌, ⊤, Bool, true, false, List, [], ◌∷◌}
use Rattle.fkv_world.specs.World.{Crashes, Event}

abbrev pub is_crash : Event → Bool
is_crash Crashes = true
is_crash event = false

-- none of these events is a crash
abbrev pub NoneIsCrash : List Event → Type 0
NoneIsCrash [] = ⊤
NoneIsCrash (event ∷ before) = (is_crash event ≡ false) × NoneIsCrash before
