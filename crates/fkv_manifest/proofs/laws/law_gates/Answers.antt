use Rattle.std.proofs.Common.{◌≡◌, ◌⊎◌, inl, inr, Bool, true, false}
use Rattle.fkv_disk.specs.Calls.{reads_as}
use Rattle.fkv_manifest.specs.Made.{commit_run, commit_made, has_begun}
use Rattle.fkv_manifest.proofs.Settled.{settled}
use Rattle.fkv_manifest.proofs.Along.{run_sound, all_good, written_new, closes_open}
use Rattle.fkv_manifest.proofs.Elsewhere.{store_spared}
use Rattle.fkv_manifest.proofs.laws.law_gates.Goals as goal

pub returns-clause-one_stands : goal.returns-clause-one_stands
returns-clause-one_stands c = λ w opened before other steps image begins left.
    let sound = run_sound w opened before (reads_as opened before) other begins.ready (settled opened before begins.all_done begins.synced) steps in
    either (all_good w opened before (reads_as opened before) other begins.ready (commit_run w steps).step (commit_run w steps).gate.step (commit_made w steps) sound.along image left).1
  where
    either : {A B C : Type 0} → A ⊎ (B × C) → A ⊎ C
    either (inl last) = inl last
    either (inr new) = inr new.1

pub returns-clause-begun : goal.returns-clause-begun
returns-clause-begun c = λ w opened before other steps image begins left none.
    let sound = run_sound w opened before (reads_as opened before) other begins.ready (settled opened before begins.all_done begins.synced) steps in
    last_alone (has_begun w.gate.place (commit_made w steps)) none (all_good w opened before (reads_as opened before) other begins.ready (commit_run w steps).step (commit_run w steps).gate.step (commit_made w steps) sound.along image left).1
  where
    last_alone : {A C : Type 0} → (b : Bool) → b ≡ false → A ⊎ ((b ≡ true) × C) → A
    last_alone b none (inl last) = last
    last_alone b none (inr new) = let begun : b ≡ true = new.0 in absurd (cc)

pub returns-clause-written : goal.returns-clause-written
returns-clause-written c = λ w opened before other steps image begins left end.
    let sound = run_sound w opened before (reads_as opened before) other begins.ready (settled opened before begins.all_done begins.synced) steps in
    written_new w opened before (reads_as opened before) other begins.ready (commit_run w steps) (commit_made w steps) sound end image left

pub returns-clause-spared : goal.returns-clause-spared
returns-clause-spared c = λ w opened before other steps image begins left.
    let sound = run_sound w opened before (reads_as opened before) other begins.ready (settled opened before begins.all_done begins.synced) steps in
    (all_good w opened before (reads_as opened before) other begins.ready (commit_run w steps).step (commit_run w steps).gate.step (commit_made w steps) sound.along image left).0

pub returns-clause-store : goal.returns-clause-store
returns-clause-store c = λ shape w opened before other area other_area steps image begins left lies.
    let sound = run_sound w opened before (reads_as opened before) other begins.ready (settled opened before begins.all_done begins.synced) steps in
    store_spared shape w other area other_area lies (reads_as opened before) image
    (all_good w opened before (reads_as opened before) other begins.ready (commit_run w steps).step (commit_run w steps).gate.step (commit_made w steps) sound.along image left).0

pub returns-clause-closes : goal.returns-clause-closes
returns-clause-closes c = λ w opened before other steps done begins is.
    let sound = run_sound w opened before (reads_as opened before) other begins.ready (settled opened before begins.all_done begins.synced) steps in
    closes_open w opened before (reads_as opened before) other begins.ready (commit_run w steps) (commit_made w steps) done sound is
