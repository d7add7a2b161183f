-- One point more.
use Rattle.std.proofs.Common.{◌≡◌, ℕ, ◌+◌, ◌++◌, ◌∷◌, [], List, arith}
use Rattle.std.proofs.lemmas.List.FromFn.{map-range_with_len_more}
use Rattle.fkv_base.specs.declared.numbers.Serial.{Serial}
use Rattle.fkv_keeper.specs.LastCommits.{points_written, point_written}

pub one_more : (sessions : ℕ) (points : List Serial) → points_written (sessions + 1) points ≡ points_written sessions points ++ point_written points sessions ∷ []
one_more sessions points = map-range_with_len_more (λ session. point_written points session) 0 sessions sessions (omega arith)
