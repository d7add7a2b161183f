-- What a session has seen older stays older.
use Rattle.std.specs.Prelude.{◌≡◌, ◌<◌, ◌≤◌, ⊤, ℕ, Option, Some, None}
use Rattle.law_log.specs.Ghosts.{Log}
use Rattle.law_commit.specs.Versions.Cells.{made_in}
use Rattle.law_commit.specs.Views.{Sight, View}

-- no record below the tail of a view is of a later version than the view
abbrev pub IsOlder : View → Log → Type 0
IsOlder view log = (a version : ℕ) → a < view.tail → made_in (log.cells a) ≡ Some version → version ≤ view.version.0

-- a view that comes is so
abbrev pub ComesSo : (View → Type 0) → Option View → Type 0
ComesSo Q None = ⊤
ComesSo Q (Some view) = Q view

-- The view by which a session goes is so, and the one that is coming.
pub record AreViewsSo (Q : View → Type 0) (its : Sight) : Type 0 where
  pub view : Q its.view
  pub coming : ComesSo Q its.coming

abbrev pub HasSeenOlder : Sight → Log → Type 0
HasSeenOlder its log = AreViewsSo (λ view. IsOlder view log) its
