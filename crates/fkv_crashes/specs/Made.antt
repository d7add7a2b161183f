-- The calls that were made, as a device in memory notes them.
use Rattle.std.specs.Prelude.{List, [], ◌∷◌, true}
use Rattle.fkv_crashes.specs.declared.crashing.MadeCall.{MadeCall}
use Rattle.fkv_crashes.specs.declared.crashing.MadeCall.TheVariants as made
use Rattle.fkv_disk.specs.Calls.{Call, Write, Sync}

abbrev pub as_call : MadeCall → Call
as_call (made.Write at bytes) = Write at bytes.items true
as_call made.Sync = Sync true

-- the newest first, behind those of before
abbrev pub noted : List MadeCall → List Call → List Call
noted [] before = before
noted (call ∷ later) before = noted later (as_call call ∷ before)

abbrev pub as_calls : List MadeCall → List Call
as_calls calls = noted calls []
