-- Names of refusals by number.
use Rattle.std.specs.Prelude.{ℕ, List, [], ◌==◌, cond, codes}
pub use Rattle.std.specs.Prelude.{drop, length, min, take}

-- The names of the faults by their numbers, and of the four refusals that are the face's own; empty where the number is none's.
abbrev pub name_told : ℕ → List ℕ
name_told number =
    cond (number == 1) (codes "BadShape") (cond (number == 2) (codes "ValueReserved") (cond (number == 3) (codes "PendingFull") (
    cond (number == 4) (codes "IndexFull") (cond (number == 5) (codes "LogFull") (cond (number == 6) (codes "VersionsSpent") (
    cond (number == 7) (codes "SerialsSpent") (cond (number == 8) (codes "EpochsSpent") (cond (number == 9) (codes "DrainFull") (
    cond (number == 10) (codes "CommitRunning") (cond (number == 11) (codes "PendingLeft") (cond (number == 12) (codes "Asleep") (
    cond (number == 13) (codes "Broken") (cond (number == 14) (codes "Device") (cond (number == 15) (codes "NotAStore") (
    cond (number == 16) (codes "Damaged") (cond (number == 17) (codes "Script") (cond (number == 18) (codes "Memory") (
    cond (number == 19) (codes "NoSession") (cond (number == 20) (codes "Awake") (cond (number == 21) (codes "LostFull") (
    cond (number == 22) (codes "HandleOut") (cond (number == 23) (codes "HandleTaken") (
    cond (number == 24) (codes "RoomSmall") (cond (number == 26) (codes "NoMerge") ([])))))))))))))))))))))))))
