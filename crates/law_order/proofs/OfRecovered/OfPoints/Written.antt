-- A slot has room for points that are serials.
use Rattle.std.proofs.Common.{◌≡◌, ℕ, ◌<◌, ◌≤◌, ◌∙◌, List, arith, ap}
use Rattle.std.specs.Prelude.{min}
use Rattle.std.proofs.Math.Nat.{min-eq_left}
use Rattle.std.proofs.lemmas.List.FromFn.{get_or-map-range_with_len, length-map-range_with_len}
use Rattle.fkv_base.specs.Limits.{last_serial}
use Rattle.fkv_base.specs.declared.numbers.Serial.{Serial}
use Rattle.law_commit.specs.Below.fkv_keeper.LastCommits.{point_written, points_written}
use Rattle.fkv_map.specs.History.{point_of}
use Rattle.law_commit.proofs.OfPoints.Taken.{point_past}
use Rattle.law_commit.proofs.OfTold.Sealed.{same_point}

pub written_there : (sessions session : ℕ) (points : List Serial) → session < sessions → point_of points session ≤ last_serial → point_of (points_written sessions points) session ≡ point_of points session
written_there sessions session points there small =
    let none : Serial = record { 0 = 0 } in
    ap (λ (s : Serial). s.0) (get_or-map-range_with_len (λ (i : ℕ). point_written points i) 0 sessions session session none there (omega arith))
    ∙ (ap (λ (n : ℕ). min n last_serial) (same_point points session) ∙ min-eq_left small)

pub written_past : (sessions session : ℕ) (points : List Serial) → sessions ≤ session → point_of (points_written sessions points) session ≡ 0
written_past sessions session points past =
    let many = length-map-range_with_len (λ (i : ℕ). point_written points i) 0 sessions in
    point_past (points_written sessions points) session (omega (arith, many, past))
