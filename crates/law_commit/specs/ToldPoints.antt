-- What sessions were told as durable, and how many commits had been told as finished when they asked.
use Rattle.std.specs.Prelude.{ℕ, ◌+◌, ◌==◌, true, if◌then◌else◌, List, [], ◌∷◌}
use Rattle.law_refine.specs.Below.fkv_session.Told.{Told}
use Rattle.law_refine.specs.Below.fkv_session.Told.TheVariants.{Durable}
use Rattle.law_refine.specs.Below.fkv_keeper.KeeperTold.TheVariants.{Turned}
use Rattle.law_refine.specs.Below.fkv_world.Past.{Traced, TraceEvent, Called, Answered, KeeperAnswered}

pub record ToldPoint : Type 0 where
  pub point : ℕ
  pub finished : ℕ

-- how many commits were told as finished, by what callers have seen
abbrev pub and_one_finished : TraceEvent → ℕ → ℕ
and_one_finished (KeeperAnswered (Turned true full) last) before = before + 1
and_one_finished event before = before

abbrev pub finishes_told : List Traced → ℕ
finishes_told [] = 0
finishes_told (it ∷ before) = and_one_finished it.its (finishes_told before)

-- and at the call that a session made last
abbrev pub at_call_by : ℕ → TraceEvent → ℕ → ℕ → ℕ
at_call_by number (Called session call) now earlier = if session == number then now else earlier
at_call_by number event now earlier = earlier

abbrev pub finishes_at_call : ℕ → List Traced → ℕ
finishes_at_call number [] = 0
finishes_at_call number (it ∷ before) = at_call_by number it.its (finishes_told before) (finishes_at_call number before)

-- the answers of durable to a session, the newest first
abbrev pub with_durable : ℕ → Told → List ToldPoint → List ToldPoint
with_durable finished (Durable serial) before = record { point = serial.0; finished = finished } ∷ before
with_durable finished its before = before

abbrev pub with_point : ℕ → TraceEvent → ℕ → List ToldPoint → List ToldPoint
with_point number (Answered session its) finished before = if session == number then with_durable finished its.its before else before
with_point number event finished before = before

abbrev pub points_told : ℕ → List Traced → List ToldPoint
points_told number [] = []
points_told number (it ∷ before) = with_point number it.its (finishes_at_call number before) (points_told number before)
