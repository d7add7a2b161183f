-- Where a log begins.
use Rattle.std.specs.Prelude.{ℕ, nat_lt, if◌then◌else◌}

-- An address below the one at which a log begins counts as 0, wherever it stands: what lay there was given back.
unfoldable pub from_or_none : ℕ → ℕ → ℕ
from_or_none begin a = if nat_lt a begin then 0 else a
