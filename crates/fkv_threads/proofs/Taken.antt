-- A device that nobody has called.
use Rattle.std.proofs.Common.{◌≡◌, ℕ, sym, subst, List}
use Rattle.fkv_disk.specs.Calls.{Call}
use Rattle.fkv_disk.specs.Device.{IsAfter}
use Rattle.law_threads.specs.Below.fkv_world.Runs.{World}
use Rattle.law_threads.specs.Below.fkv_table.Happening.{Happening}
use Rattle.law_threads.specs.Below.fkv_table.Keeps.{IsAfterSeen, LeavesDevice}

-- the device stays behind the list as it was where no call is made
pub after_none : {K : Type 0} (at : K → World) (key : K) (events events' : List Happening) (shown : List ℕ) (may_leave : List ℕ → Type 0) → LeavesDevice at key events events' → IsAfterSeen at key events shown may_leave
    → IsAfterSeen at key events' shown may_leave
after_none at key events events' shown may_leave same after = subst (λ (z : List ℕ × List Call). IsAfter z.0 z.1 shown may_leave) (λ i. (sym same.0 i, sym same.1 i)) after
