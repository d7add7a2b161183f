use Rattle.std.specs.Prelude.{[], ◌∷◌}
use Rattle.fkv_table.specs.declared.happenings.Happening.TheVariants.{Calls}
use Rattle.fkv_table.proofs.lines.SeatLine.start.Given as goal

-- its first step adds the start of the call
abbrev pub ghosts-perform_first : goal.ghosts-perform_first
ghosts-perform_first g a = record { own = λ _. Calls a._number a._call ∷ [] }
