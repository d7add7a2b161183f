-- What a machine at rest has in place of a request, and of what a session has seen.
use Rattle.std.specs.Prelude.{false, None}
use Rattle.std.proofs.Common.{arith}
use Rattle.fkv_base.specs.declared.phases.Phase.TheVariants.{Rest}
use Rattle.fkv_map.specs.declared.operations.Op.TheVariants.{Read}
use Rattle.fkv_ops.specs.declared.requests.Request.{Request}
use Rattle.fkv_ops.specs.declared.requests.Seen.{Seen}

-- a read of key 0
abbrev pub no_request : Request
no_request = record { op = Read (record { 0 = 0 }); version = record { 0 = 1 }; has_latch = false; held = None; floor = record { 0 = 0 }; some_version = omega arith; version_fits = omega arith }

-- the first version at rest, with no record in memory
abbrev pub nothing_seen : Seen
nothing_seen = record { phase = Rest; version = record { 0 = 1 }; offsets = record { head = record { 0 = 0 }; read_only = record { 0 = 0 } } }
