-- The scan from one part to the next.
use Rattle.std.proofs.Common.{◌≡◌, inl, ⊎_elim, ℕ, ◌<◌, ◌≤◌, Bool, true, false, Option, sym, subst, arith}
use Rattle.std.specs.Prelude.{◌||◌}
use Rattle.fkv_base.specs.declared.faults.Fault.{Fault}
use Rattle.fkv_base.specs.declared.faults.Fault.TheVariants as fault
use Rattle.fkv_base.specs.declared.faults.Damage.TheVariants as damage
use Rattle.fkv_record.specs.declared.records.Record.{Record}
use Rattle.fkv_scan.specs.declared.home_scans.HomeScan.{HomeScan}
use Rattle.fkv_scan.specs.Known.{KnowsAll}
use Rattle.fkv_scan.specs.Log.{Log}
use Rattle.fkv_scan.specs.Scan.{IsFit, IsOff, IsScannedTo}
use Rattle.fkv_scan.specs.Scanned.{TellsNewer}
use Rattle.fkv_scan.specs.Parts.{AreScannedIn, TellsNewerIn, IsPartRefused}
use Rattle.fkv_scan.specs.Refused.{IsRefused}
use Rattle.fkv_scan.proofs.Greatest.{below_or_not}
use Rattle.fkv_scan.proofs.Meets.{rose_before}

pub scanned_on : (log : Log) (from to : ℕ) → IsScannedTo log from → AreScannedIn log from to → IsScannedTo log to
scanned_on log from to before here c on below = ⊎_elim (λ less. before c on less) (λ more. here c more below) (below_or_not c from)

-- with what is known of the homes, where the device reads as before
pub knows_on : (log log_mid : Log) (from to : ℕ) (before after : ℕ → Option HomeScan) → log_mid ≡ log → IsScannedTo log from × KnowsAll log from before
    → (KnowsAll log_mid from before → AreScannedIn log_mid from to × KnowsAll log_mid to after) → IsScannedTo log to × KnowsAll log to after
knows_on log log_mid from to before after same known here =
    let part = here (subst (λ l. KnowsAll l from before) (sym same) known.1) in
    (scanned_on log from to known.0 (subst (λ l. AreScannedIn l from to) same part.0), subst (λ l. KnowsAll l to after) same part.1)

pub newer_on : (log : Log) (from to : ℕ) (before this : Bool) → log.start ≤ from → from ≤ to → TellsNewer log from before → TellsNewerIn log from to this → TellsNewer log to (before || this)
newer_on log from to true this start up tells here = (tells.0, tells.1, (let low = tells.2 in omega (arith, low, up)), tells.3)
newer_on log from to false true start up tells here = (here.0, (let on = here.1 in omega (arith, on, start)), here.2, here.3)
newer_on log from to false false start up tells here = λ c y on below newer. ⊎_elim (λ less. tells c y on less newer) (λ more. here c y more below newer) (below_or_not c from)

pub refused_from : (before mid now : ℕ) → before ≤ mid → (premise premise_mid : Type 0) (log log_mid : Log) (from to : ℕ) (why : Fault) → log.start ≤ from → to ≤ log.tail
    → (premise → premise_mid × (log_mid ≡ log) × IsScannedTo log from) → IsPartRefused mid now premise_mid log_mid from to why → IsRefused before now premise log why
refused_from before mid now later premise premise_mid log log_mid from to (fault.Damaged damage.Record a) start end known off = λ holds.
    let so_far = known holds in
    let here = subst (λ l. (from ≤ a) × (a < to) × AreScannedIn l from a × ((x : Record) → IsFit l a x → ⊥)) so_far.1 (off so_far.0) in
    let on = here.0 in
    let below = here.1 in
    record { from_start = omega (arith, start, on); in_log = omega (arith, end, below); before = scanned_on log from a so_far.2 here.2; here = here.3 }
refused_from before mid now later premise premise_mid log log_mid from to (fault.Damaged damage.Link a) start end known off = λ holds.
    let so_far = known holds in
    let here = subst (λ l. (from ≤ a) × (a < to) × AreScannedIn l from a × IsOff l a) so_far.1 (off so_far.0) in
    let on = here.0 in
    let below = here.1 in
    inl (record { from_start = omega (arith, start, on); in_log = omega (arith, end, below); before = scanned_on log from a so_far.2 here.2; here = here.3 })
refused_from before mid now later premise premise_mid log log_mid from to fault.Device start end known off = rose_before before mid now later off
refused_from before mid now later premise premise_mid log log_mid from to fault.Memory start end known off = off
refused_from before mid now later premise premise_mid log log_mid from to other start end known off = absurd (off)
