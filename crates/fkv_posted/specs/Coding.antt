-- How the logic stores what was told of a medium.
use Rattle.std.specs.Prelude.{◌≡◌, ℕ, List, [], true, false, cond, ◌==◌, refl}
use Rattle.std.specs.Coded.{Coded, code_by, coded×, coded_ℕ, coded_list}
use Rattle.fkv_disk.specs.Calls.{Write, Sync}
use Rattle.fkv_posted.specs.Outcomes.{Outcome, Gave, Made}

abbrev Parts : Type 0
Parts = ℕ × (ℕ × List ℕ)

abbrev to_parts : Outcome → Parts
to_parts (Gave at bytes) = (0, (at, bytes))
to_parts (Made (Write at bytes true)) = (1, (at, bytes))
to_parts (Made (Write at bytes false)) = (2, (at, bytes))
to_parts (Made (Sync true)) = (3, (0, []))
to_parts (Made (Sync false)) = (4, (0, []))

abbrev from_parts : Parts → Outcome
from_parts p =
    cond (p.0 == 0) (Gave p.1.0 p.1.1) (cond (p.0 == 1) (Made (Write p.1.0 p.1.1 true)) (cond (p.0 == 2) (Made (Write p.1.0 p.1.1 false))
    (cond (p.0 == 3) (Made (Sync true)) (Made (Sync false)))))

pub from_parts-to_parts : (o : Outcome) → from_parts (to_parts o) ≡ o
from_parts-to_parts (Gave at bytes) = refl
from_parts-to_parts (Made (Write at bytes true)) = refl
from_parts-to_parts (Made (Write at bytes false)) = refl
from_parts-to_parts (Made (Sync true)) = refl
from_parts-to_parts (Made (Sync false)) = refl

abbrev pub coded_outcomes : Coded (List Outcome)
coded_outcomes = coded_list (code_by Parts (coded× coded_ℕ (coded× coded_ℕ (coded_list coded_ℕ))) to_parts from_parts from_parts-to_parts)
