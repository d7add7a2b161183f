-- The points of a commit as numbers.
use Rattle.std.specs.Prelude.{ℕ, List, map}
use Rattle.fkv_base.specs.declared.numbers.Serial.{Serial}

abbrev pub serial_numbers : List Serial → List ℕ
serial_numbers points = map (λ point. point.0) points
