-- The keeper calls the device where it asks for it, and what the writes of a commit make of it are the keeper's calls.
use Rattle.std.proofs.Common.{◌≡◌, ℕ, List, [], Bool, false, ◌∙◌, refl, sym}
use Rattle.std.specs.Prelude.{Option, Some, None}
use Rattle.fkv_base.specs.declared.faults.Fault.TheVariants as fault
use Rattle.fkv_base.specs.declared.shapes.Shape.{Shape}
use Rattle.fkv_disk.specs.Calls.{Call}
use Rattle.fkv_plane.specs.declared.asks.Ask.{Ask}
use Rattle.fkv_plane.specs.declared.asks.Ask.TheVariants.{Load, Store, Swap, Cas, Add, Max, Put, Take, Done}
use Rattle.fkv_plane.specs.declared.places.Places.{Places}
use Rattle.fkv_plane.specs.Passing.{passed}
use Rattle.fkv_commit.specs.Entering.{enter_ask}
use Rattle.fkv_commit.specs.Finishing.{finish_ask}
use Rattle.fkv_commit.specs.Seeking.{seek_ask}
use Rattle.fkv_commit.specs.Starting.{start_ask}
use Rattle.fkv_commit.specs.Waiting.{wait_ask}
use Rattle.fkv_flush.specs.Devices.{Adds}
use Rattle.fkv_manifest.specs.declared.answers.WriteAnswer.{WriteAnswer}
use Rattle.fkv_manifest.specs.declared.answers.WriteAnswer.TheVariants as write
use Rattle.fkv_manifest.specs.Committing.{commit_answer}
use Rattle.fkv_manifest.specs.Devices.{DoesNext, calls_next}
use Rattle.fkv_manifest.specs.Made.{with_call}
use Rattle.fkv_manifest.proofs.Shown.{step_after}
use Rattle.fkv_keeper.specs.declared.answers.KeeperTold.{KeeperTold}
use Rattle.fkv_keeper.specs.declared.answers.KeeperTold.TheVariants.{Device, Turned, TurnRefused, Begun, CommitRefused}
use Rattle.fkv_keeper.specs.declared.keepers.Keeping.{Keeping}
use Rattle.fkv_keeper.specs.declared.keepers.Keeping.TheVariants.{Ended, Starts, Maintains, LoadsPhase, Enters, Copies, Seeks, Waits, Writes, Finishes, Sweeps}
use Rattle.fkv_maintain.specs.declared.maintaining.MaintainAnswer.{MaintainAnswer}
use Rattle.fkv_maintain.specs.declared.maintaining.MaintainAnswer.TheVariants as maintain
use Rattle.fkv_keeper.specs.Keeping.{KeeperState, device_passed, end_told, write_asked, turn_over, copy_asked, keeping_ask, keeper_ask, sweep_passed}
use Rattle.fkv_keeper.specs.KeeperAsks.{keeping_made, keeper_made, keeper_calls_asked}
use Rattle.fkv_maintain.specs.Maintaining.{maintain_ask, maintain_calls_asked}
use Rattle.fkv_maintain.proofs.Shown.{maintain_asked_calls}
use Rattle.fkv_sweep.specs.Sweeping.{sweep_ask}
use Rattle.fkv_sweep.specs.AsksLeft.{steps_asked}
use Rattle.fkv_sweep.proofs.Shown.{sweep_calls}
use Rattle.fkv_sweep.specs.declared.sweeping.SweepAnswer.{SweepAnswer}
use Rattle.fkv_sweep.specs.declared.sweeping.SweepAnswer.TheVariants as sweep

passed_calls : {A : Type 0} (ask : Ask A) (told : KeeperTold) → 0 ≡ keeper_calls_asked (Done told) → 0 ≡ keeper_calls_asked (passed ask told)
unfolding passed
passed_calls (Done its) told none = none
passed_calls (Load place) told none = refl
passed_calls (Store place new) told none = refl
passed_calls (Swap place new) told none = refl
passed_calls (Cas place old new) told none = refl
passed_calls (Add place k) told none = refl
passed_calls (Max place k) told none = refl
passed_calls (Put slot action) told none = refl
passed_calls (Take slot) told none = refl

device_calls : (ask : Ask MaintainAnswer) (full : Bool) → maintain_calls_asked ask ≡ keeper_calls_asked (device_passed ask (Turned false full))
unfolding device_passed passed
device_calls (Done maintain.Device) full = refl
device_calls (Done maintain.Through) full = refl
device_calls (Done maintain.Spent) full = refl
device_calls (Done maintain.Broken) full = refl
device_calls (Load place) full = refl
device_calls (Store place new) full = refl
device_calls (Swap place new) full = refl
device_calls (Cas place old new) full = refl
device_calls (Add place k) full = refl
device_calls (Max place k) full = refl
device_calls (Put slot action) full = refl
device_calls (Take slot) full = refl

write_calls : (answer : WriteAnswer) (full : Bool) → calls_next answer ≡ keeper_calls_asked (write_asked answer (Turned false full))
write_calls write.Device full = refl
write_calls write.Written full = refl
write_calls (write.Broken why) full = refl

sweep_device_calls : (ask : Ask SweepAnswer) (full : Bool) → steps_asked ask ≡ keeper_calls_asked (sweep_passed ask (Turned false full))
unfolding sweep_passed passed
sweep_device_calls (Done sweep.Device) full = refl
sweep_device_calls (Done sweep.Through) full = refl
sweep_device_calls (Load place) full = refl
sweep_device_calls (Store place new) full = refl
sweep_device_calls (Swap place new) full = refl
sweep_device_calls (Cas place old new) full = refl
sweep_device_calls (Add place k) full = refl
sweep_device_calls (Max place k) full = refl
sweep_device_calls (Put slot action) full = refl
sweep_device_calls (Take slot) full = refl

end_calls : (told : KeeperTold) (full : Bool) → 0 ≡ keeper_calls_asked (Done (end_told told (Turned false full)))
end_calls Device full = refl
end_calls (Turned finished some) full = refl
end_calls (TurnRefused why) full = refl
end_calls (Begun number) full = refl
end_calls (CommitRefused why) full = refl

keeping_asked_calls : (shape : Shape) (p : Places) (s : KeeperState) (step : Keeping) → keeping_made p s step ≡ keeper_calls_asked (keeping_ask shape p s step)
unfolding keeping_ask keeping_made
keeping_asked_calls shape p s (Ended its) = end_calls its s.is_drain_full
keeping_asked_calls shape p s Starts = passed_calls (start_ask s.start) (CommitRefused fault.CommitRunning) refl
keeping_asked_calls shape p s Maintains = maintain_asked_calls shape p s.maintain ∙ device_calls (maintain_ask shape p s.maintain) s.is_drain_full
keeping_asked_calls shape p s LoadsPhase = refl
keeping_asked_calls shape p s Enters = passed_calls (enter_ask s.enter) (turn_over s) refl
keeping_asked_calls shape p s Copies = passed_calls (copy_asked s.copy) (turn_over s) refl
keeping_asked_calls shape p s Seeks = passed_calls (seek_ask s.seek) (turn_over s) refl
keeping_asked_calls shape p s Waits = passed_calls (wait_ask s.wait) (turn_over s) refl
keeping_asked_calls shape p s Writes = write_calls (commit_answer s.writes) s.is_drain_full
keeping_asked_calls shape p s Finishes = passed_calls (finish_ask s.seek.points s.finish) (turn_over s) refl
keeping_asked_calls shape p s Sweeps = sym (sweep_calls s.sweep) ∙ sweep_device_calls (sweep_ask s.sweep) s.is_drain_full

pub keeper_asked_calls : (shape : Shape) (p : Places) (s : KeeperState) → keeper_made p s ≡ keeper_calls_asked (keeper_ask shape p s)
keeper_asked_calls shape p s = keeping_asked_calls shape p s s.step

-- a device that does what one call gives, or none, does so after others
pub does_adds : (call : Option Call) (seen seen' : List ℕ) (may_leave may_leave' : List ℕ → Type 0) → DoesNext call seen seen' may_leave may_leave' → Adds (with_call call []) seen seen' may_leave may_leave'
does_adds None seen seen' may_leave may_leave' does opening calls was = step_after opening calls seen seen' may_leave may_leave' was None does
does_adds (Some call) seen seen' may_leave may_leave' does opening calls was = step_after opening calls seen seen' may_leave may_leave' was (Some call) does
