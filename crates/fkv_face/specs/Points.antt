-- Points of a commit.
use Rattle.std.specs.Prelude.{◌≡◌, ◌++◌, ℕ, List, length, min, map, take, drop}
use Rattle.fkv_base.specs.declared.numbers.Serial.{Serial}

-- as many points as there is room for, and behind them the room is as it was
abbrev pub ArePoints : List Serial → List ℕ → List ℕ → Type 0
ArePoints given points points' = let n = min (length given) (length points) in points' ≡ map (λ s. s.0) (take n given) ++ drop n points
