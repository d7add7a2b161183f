-- the upserts of the pairs that were looked at
use Rattle.std.proofs.Common.{◌≡◌, take}
use Rattle.fkv_thread_scripts.specs.Keys.{upserts_of}
use Rattle.fkv_thread_scripts.proofs.maps.upserts_of.Given as goal

abbrev pub invariant-loop-pair : goal.invariant-loop-pair
invariant-loop-pair l = l.ops.items ≡ upserts_of (take l.pair-index l.pairs)
