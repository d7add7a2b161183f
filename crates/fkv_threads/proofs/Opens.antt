-- The world of a table that was opened is one with which the guard begins, so its sessions and its keeper are ready.
use Rattle.std.proofs.Common.{◌≡◌, ℕ, List, [], sym, ap, subst, arith, Result, Ok, Err, IfOk}
use Rattle.std.specs.declared.snapshot.Snapshot.{Snapshot}
use Rattle.law_threads.specs.Below.fkv_core.Openings.{IsOpeningWorld, beginning}
use Rattle.law_threads.specs.Below.fkv_core.Worlds.{WorldModel}
use Rattle.fkv_disk.specs.Device.{IsAfter}
use Rattle.fkv_opening.specs.declared.opened_store.Opened.{Opened}
use Rattle.law_threads.specs.Below.fkv_world.Opened.{IsOpenedWorld}
use Rattle.law_threads.specs.Below.fkv_world.Runs.{World}
use Rattle.law_threads.specs.Below.law_opening.Lives.Laws.{GuardOpens}
use Rattle.fkv_seats.specs.Rule.{led}
use Rattle.law_threads.specs.Below.fkv_table.Happening.{Happening}
use Rattle.law_threads.specs.Below.fkv_table.Keeps.{IsAfterSeen}
use Rattle.law_threads.specs.Below.fkv_table.Openings.{IsGuardedOpening}
use Rattle.law_threads.specs.Below.fkv_table.Planes.{opening_of}

guard_so : (o : Opened) (w : World) → GuardOpens → IsOpeningWorld o w.now → IsOpenedWorld w → IsGuardedOpening w
guard_so o w opens world opened = record {
  start = o.tail.0;
  guarded = (opens o w.now [] world).now;
  opened = opened;
  seeks = omega (arith, world.its_keeper.sought, world.its_places.sessions);
}

-- what the opening ensures of what it gives, behind the guard's beginning
pub guarded_ok : {X E : Type 0} (r : Result X E) (o : Opened) (world : X → World) (Has Gets : X → Type 0) → GuardOpens → IfOk r (λ x. IsOpeningWorld o (world x).now) → IfOk r (λ x. IsOpenedWorld (world x)) → IfOk r Has
    → ((x : X) → IsGuardedOpening (world x) → Has x → Gets x) → IfOk r Gets
guarded_ok (Ok x) o world Has Gets opens begins opened has gets = gets x (guard_so o (world x) opens begins opened) has
guarded_ok (Err e) o world Has Gets opens begins opened has gets = tt

pub three_ok : {X E : Type 0} (r : Result X E) (A B C Gets : X → Type 0) → IfOk r A → IfOk r B → IfOk r C → ((x : X) → A x → B x → C x → Gets x) → IfOk r Gets
three_ok (Ok x) A B C Gets a b c gets = gets x a b c
three_ok (Err e) A B C Gets a b c gets = tt

-- the device is behind no call as the table begins
pub after_nothing : {D : Type 0} (seen : D → List ℕ) (may_leave : D → List ℕ → Type 0) (key : Snapshot (WorldModel D)) (events : List Happening) (disk device : D) → events ≡ []
    → opening_of seen key ≡ beginning (opening_of seen key).now (seen disk) → device ≡ disk → IsAfter (seen disk) [] (seen disk) (may_leave disk) → IsAfterSeen (opening_of seen) key events (seen device) (may_leave device)
unfolding led
after_nothing {D = D} seen may_leave key events disk device none bytes same after =
    subst (λ (es : List Happening). IsAfterSeen (opening_of seen) key es (seen device) (may_leave device)) (sym none)
    (subst (λ (d : D). IsAfter (opening_of seen key).past.opened [] (seen d) (may_leave d)) (sym same)
    (subst (λ (opened : List ℕ). IsAfter opened [] (seen disk) (may_leave disk)) (sym (ap (λ (w : World). w.past.opened) bytes)) after))
