-- Whose an undecided address is.
use Rattle.std.specs.Prelude.{◌≡◌, ℕ, List, Some}
use Rattle.fkv_flush.specs.GuardWorld.{Actor}
use Rattle.fkv_flush.specs.Guarded.{undecided_of}

-- An address whose record is undecided is reserved by one session alone.
abbrev pub UndecidedApart : List Actor → Type 0
UndecidedApart actors = (session other addr : ℕ) → undecided_of actors session ≡ Some addr → undecided_of actors other ≡ Some addr → session ≡ other
