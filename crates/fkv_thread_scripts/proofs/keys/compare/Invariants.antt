-- The maps stay. All keys agree if those that are left do, and so many were compared as are left fewer.
use Rattle.std.proofs.Common.{◌≡◌, ◌+◌, length, filter}
use Rattle.std.specs.List.{list_all}
use Rattle.fkv_thread_scripts.specs.Claims.{compares, holds}
use Rattle.fkv_thread_scripts.proofs.keys.compare.Given as goal

abbrev pub invariant-loop-key : goal.invariant-loop-key
invariant-loop-key l =
    (l.told ≡ l.fn.told)
    × (l.stored ≡ l.fn.stored)
    × (list_all (holds l.told l.stored) l.claims.entries ≡ list_all (holds l.told l.stored) l.key-iterator)
    × (l.count + length (filter (λ entry. compares entry.1) l.key-iterator) ≡ length (filter (λ entry. compares entry.1) l.claims.entries))
