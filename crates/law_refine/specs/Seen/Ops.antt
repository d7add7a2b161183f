-- The operation of a call that is in hand.
use Rattle.std.specs.Prelude.{◌≡◌, ⊤, false}
use Rattle.fkv_map.specs.Map.{is_reserved}
use Rattle.law_world.specs.Below.fkv_session.CatchCause.TheVariants.{Shifts}
use Rattle.law_world.specs.Below.fkv_session.Sitting.{Sitting}
use Rattle.law_world.specs.Below.fkv_session.Sitting.TheVariants.{Attempts, CatchesUp}
use Rattle.law_world.specs.Below.fkv_session.Sessions.{SessionState}

-- While it is attempted, or the session catches up to try it once more, the operation brings no number that stands for no value.
abbrev pub OpIsPlain : SessionState → Sitting → Type 0
OpIsPlain s (Attempts has_shifted) = is_reserved s.op ≡ false
OpIsPlain s (CatchesUp Shifts) = is_reserved s.op ≡ false
OpIsPlain s step = ⊤

abbrev pub HasPlainOp : SessionState → Type 0
HasPlainOp s = OpIsPlain s s.step
