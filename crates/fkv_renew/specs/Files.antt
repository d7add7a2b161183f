-- What a run goes by of the places where stores lie.
use Rattle.std.specs.Prelude.{ℕ, List}

-- When the device of a file is honest, what it reads as, and what a crash may leave of it; which one is the file of a path, as it was opened; and which one has got a
-- name, as it is then.
pub record Files (D : Type 0) : Type 1 where
  pub honest : D → Type 0
  pub seen : D → List ℕ
  pub may_leave : D → List ℕ → Type 0
  pub is_opened : List ℕ → D → Type 0
  pub is_named : List ℕ → D → Type 0

abbrev pub files_of : {D : Type 0} → (D → Type 0) → (D → List ℕ) → (D → List ℕ → Type 0) → (List ℕ → D → Type 0) → (List ℕ → D → Type 0) → Files D
files_of honest seen may_leave is_opened is_named = record { honest = honest; seen = seen; may_leave = may_leave; is_opened = is_opened; is_named = is_named }
