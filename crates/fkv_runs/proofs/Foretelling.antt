-- What a crash takes of a device behind calls to come.
use Rattle.std.proofs.Common.{◌≡◌, ◌∙◌, ℕ, zero, suc, max, List, [], ◌∷◌, length, Bool, true, false, not, ◌&&◌, refl, sym, ap, subst}
use Rattle.std.specs.Prelude.{if◌then◌else◌}
use Rattle.fkv_disk.specs.Bytes.{byte_at, covers, listed, range_end, written}
use Rattle.fkv_disk.specs.Calls.{AllDone, Call, Write, Sync, far_end, is_untouched, reads_as, torn_image}
use Rattle.fkv_disk.specs.Done.{calls_of}
use Rattle.fkv_disk.specs.Fuse.{fuse_foretells}
use Rattle.fkv_disk.specs.Fuses.{fuse_device, fuse_state}
use Rattle.fkv_disk.specs.Kinds.{Foretold, Kind, OneSyncThenReads, OnlyReads, Reading, Writing, Syncing, after_kind, after_reads, noted}
use Rattle.fkv_disk.specs.Memory.{disk_calls, disk_opening}
use Rattle.fkv_disk.specs.declared.fuses.Fuse.{Fuse}
use Rattle.fkv_disk.specs.declared.fuses.FuseState.TheVariants.{Sound}
use Rattle.fkv_disk.specs.declared.memory.MemDisk.{MemDisk}
use Rattle.fkv_disk.proofs.Shown.{length-written}
use Rattle.fkv_runs.specs.Openings.{CrashesFrom, foretold_image}

-- Calls of a device leave the same in two ways: what it reads as, how far its writes reach, and what isn't synced.
pub record LeaveSame (opening : List ℕ) (calls : List Call) (opening' : List ℕ) (calls' : List Call) : Type 0 where
  pub read : reads_as opening calls ≡ reads_as opening' calls'
  pub reach : far_end opening calls ≡ far_end opening' calls'
  pub touch : (i : ℕ) → is_untouched calls i ≡ is_untouched calls' i

-- so it stays behind calls to come
same_on : (later : List Kind) (opening : List ℕ) (calls : List Call) (opening' : List ℕ) (calls' : List Call) → LeaveSame opening calls opening' calls' → LeaveSame opening (noted later calls) opening' (noted later calls')
same_on [] opening calls opening' calls' same = same
same_on (Reading ∷ later) opening calls opening' calls' same = same_on later opening calls opening' calls' same
same_on (Writing at bytes true ∷ later) opening calls opening' calls' same = same_on later opening (Write at bytes true ∷ calls) opening' (Write at bytes true ∷ calls') (record {
  read = ap (λ (read : List ℕ). written read at bytes) same.read;
  reach = ap (λ (n : ℕ). max n (range_end at (length bytes))) same.reach;
  touch = λ i. ap (λ (b : Bool). not (covers at (length bytes) i) && b) (same.touch i);
})
same_on (Writing at bytes false ∷ later) opening calls opening' calls' same = same_on later opening calls opening' calls' same
same_on (Syncing true ∷ later) opening calls opening' calls' same =
    same_on later opening (Sync true ∷ calls) opening' (Sync true ∷ calls') (record { read = same.read; reach = same.reach; touch = λ i. refl })
same_on (Syncing false ∷ later) opening calls opening' calls' same = same_on later opening calls opening' calls' same

same_image : (opening : List ℕ) (calls : List Call) (opening' : List ℕ) (calls' : List Call) (torn : ℕ) → LeaveSame opening calls opening' calls' → torn_image opening calls torn ≡ torn_image opening' calls' torn
same_image opening calls opening' calls' torn same = λ i. listed (same.reach i) (λ k. if same.touch k i then byte_at (same.read i) k else torn)

pub same_later : (later : List Kind) (opening : List ℕ) (calls : List Call) (opening' : List ℕ) (calls' : List Call) (torn : ℕ) → LeaveSame opening calls opening' calls'
    → torn_image opening (noted later calls) torn ≡ torn_image opening' (noted later calls') torn
same_later later opening calls opening' calls' torn same = same_image opening (noted later calls) opening' (noted later calls') torn (same_on later opening calls opening' calls' same)

-- what is foretold goes from an image on
abbrev GoesFrom : List ℕ → (List Kind → Foretold) → Type 0
GoesFrom image says = (later : List Kind) (torn : ℕ) → foretold_image (says later) torn ≡ torn_image image (noted later []) torn

-- reads leave it so, and a sync does
from_reads : (n : ℕ) (image : List ℕ) (says : List Kind → Foretold) → GoesFrom image says → GoesFrom image (after_reads n says)
from_reads zero image says from = from
from_reads (suc n) image says from = from_reads n image (after_kind Reading says) (λ later torn. from (Reading ∷ later) torn)

from_sync : (synced : Bool) (image : List ℕ) (says : List Kind → Foretold) → GoesFrom image says → GoesFrom image (after_kind (Syncing synced) says)
from_sync true image says from = λ later torn. from (Syncing true ∷ later) torn ∙ same_later later image (Sync true ∷ []) image [] torn (record { read = refl; reach = refl; touch = λ i. refl })
from_sync false image says from = λ later torn. from (Syncing false ∷ later) torn

pub crashes_behind_reads : {D : Type 0} (refuses : D → ℕ → Bool) (expects : D → List Kind → Foretold) (image : List ℕ) (old new : D) → OnlyReads refuses expects old new → CrashesFrom expects image old → CrashesFrom expects image new
crashes_behind_reads refuses expects image old new made from = subst (GoesFrom image) (sym made.kinds) (from_reads made.reads image (expects old) from)

pub crashes_behind_sync : {D : Type 0} (refuses : D → ℕ → Bool) (expects : D → List Kind → Foretold) (image : List ℕ) (old new : D) → OneSyncThenReads refuses expects old new → CrashesFrom expects image old → CrashesFrom expects image new
crashes_behind_sync refuses expects image old new made from =
    subst (GoesFrom image) (sym made.kinds) (from_reads made.reads image (after_kind (Syncing made.synced) (expects old)) (from_sync made.synced image (expects old) from))

-- a fuse that isn't armed foretells what its device does
passes_each : (later : List Kind) (says : List Kind → Foretold) (torn : ℕ) → foretold_image (fuse_foretells Sound says later) torn ≡ foretold_image (says later) torn
passes_each [] says torn = refl
passes_each (Reading ∷ later) says torn = passes_each later (after_kind Reading says) torn
passes_each (Writing at bytes done ∷ later) says torn = passes_each later (after_kind (Writing at bytes done) says) torn
passes_each (Syncing done ∷ later) says torn = passes_each later (after_kind (Syncing done) says) torn

-- and one around a device in memory that notes no call goes from its bytes on
pub crashes_of_new : (fuse : Fuse MemDisk) (image : List ℕ) → fuse_state fuse ≡ Sound → disk_calls (fuse_device fuse) ≡ [] → disk_opening (fuse_device fuse) ≡ image
    → GoesFrom image (fuse_foretells fuse.state (λ later. record { holds = false; opening = fuse.device.opening.items; calls = noted later (calls_of fuse.device.done.items) }))
crashes_of_new fuse image sound none is = λ later torn.
    (λ i. foretold_image (fuse_foretells (sound i) (λ next. record { holds = false; opening = is i; calls = noted next (none i) }) later) torn)
    ∙ passes_each later (λ next. record { holds = false; opening = image; calls = noted next [] }) torn

-- where each call came through, writes reach as far as is read
pub reach_if_done : (opening : List ℕ) (calls : List Call) → AllDone calls → far_end opening calls ≡ length (reads_as opening calls)
reach_if_done opening [] all = refl
reach_if_done opening (Write at bytes true ∷ before) all = ap (λ (n : ℕ). max n (range_end at (length bytes))) (reach_if_done opening before all) ∙ sym (length-written (reads_as opening before) at bytes)
reach_if_done opening (Write at bytes false ∷ before) all = absurd all
reach_if_done opening (Sync true ∷ before) all = reach_if_done opening before all
reach_if_done opening (Sync false ∷ before) all = absurd all
