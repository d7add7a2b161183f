-- the updates of the lines that were looked at are noted
use Rattle.std.proofs.Common.{take}
use Rattle.std.specs.BTreeMap.{get}
use Rattle.std.specs.Ordering.{nat_cmp}
use Rattle.fkv_thread_scripts.specs.Claims.{AreClaims}
use Rattle.fkv_thread_scripts.specs.Keys.{updates_of}
use Rattle.fkv_thread_scripts.proofs.claims.claims_of.Given as goal

abbrev pub invariant-loop-line : goal.invariant-loop-line
invariant-loop-line l = AreClaims (get nat_cmp l.claims) (updates_of (take l.line-index l.lines))
