-- Why an opening is refused.
use Rattle.std.proofs.Common.{◌≡◌, ℕ, ◌+◌, ◌-◌, ◌≤◌, ◌^◌, List, inl, inr, min, refl, arith}
use Rattle.fkv_base.specs.declared.faults.Fault.{Fault}
use Rattle.fkv_base.specs.declared.faults.Fault.TheVariants.{BadShape, ValueReserved, PendingFull, IndexFull, LogFull, VersionsSpent, SerialsSpent, EpochsSpent, DrainFull, CommitRunning, PendingLeft, Asleep, Broken, Device, NotAStore, Damaged, Script, Memory, NoSession, Awake, LostFull}
use Rattle.fkv_disk.specs.Device.{Rose}
use Rattle.fkv_opening.specs.Faults.{IsFaultOf, IsRefused}
use Rattle.fkv_handles.specs.Opens.{IsOpeningRefused}

-- the count of failures hasn't risen to 0
none_rose : (before now : ℕ) → now ≡ 0 → Rose before now → ⊥
none_rose before now none rose = let one : 1 ≤ min (before + 1) (2 ^ 64 - 1) = omega arith in omega (arith, none, rose, one)

-- An honest device is refused so too, of which no call has failed.
pub refused_by : (before now : ℕ) (premise : Type 0) (bytes : List ℕ) (why : Fault) → premise → now ≡ 0 → IsRefused before now premise (IsFaultOf bytes) why → IsOpeningRefused bytes why
refused_by before now premise bytes NotAStore honest none so = inr (so honest)
refused_by before now premise bytes (Damaged part place) honest none so = inr (so honest)
refused_by before now premise bytes Device honest none so = absurd (none_rose before now none so)
refused_by before now premise bytes Memory honest none so = inl refl
refused_by before now premise bytes BadShape honest none so = absurd so
refused_by before now premise bytes ValueReserved honest none so = absurd so
refused_by before now premise bytes PendingFull honest none so = absurd so
refused_by before now premise bytes IndexFull honest none so = absurd so
refused_by before now premise bytes LogFull honest none so = absurd so
refused_by before now premise bytes VersionsSpent honest none so = absurd so
refused_by before now premise bytes SerialsSpent honest none so = absurd so
refused_by before now premise bytes EpochsSpent honest none so = absurd so
refused_by before now premise bytes DrainFull honest none so = absurd so
refused_by before now premise bytes CommitRunning honest none so = absurd so
refused_by before now premise bytes PendingLeft honest none so = absurd so
refused_by before now premise bytes Asleep honest none so = absurd so
refused_by before now premise bytes Broken honest none so = absurd so
refused_by before now premise bytes (Script line kind) honest none so = absurd so
refused_by before now premise bytes NoSession honest none so = absurd so
refused_by before now premise bytes Awake honest none so = absurd so
refused_by before now premise bytes LostFull honest none so = absurd so
