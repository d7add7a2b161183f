-- Which version recovery reads a mark as.
use Rattle.std.specs.Prelude.{ℕ, ◌+◌, ◌-◌, ◌*◌, ◌/◌, ◌≤◌, max}
use Rattle.fkv_base.specs.declared.classes.StoreClass.{StoreClass}
use Rattle.fkv_base.specs.declared.classes.StoreClass.TheVariants.{Specified, Living}

-- Behind a commit of this number a mark is read as the newest version that has it, of those up to the next commit's. If none of these has it, it is read as
-- itself, which lies above them.
unfoldable pub version_in : ℕ → ℕ → ℕ
version_in number its_mark = its_mark + 8191 * ((number + 1 - its_mark) / 8191)

-- The oldest version that a record of the scan may have, by the number of the commit that made the checkpoint. A living store writes none that is older than
-- that behind the checkpoint's first address. A specified store is asked for no more than that there is a version.
abbrev pub oldest : StoreClass → ℕ → ℕ
oldest Specified checkpoint = 1
oldest Living checkpoint = max 1 checkpoint

-- The window, from the oldest version up to the next commit's, has no mark twice: it has 8191 versions at most.
abbrev pub InWindow : StoreClass → ℕ → ℕ → Type 0
InWindow class checkpoint number = number ≤ oldest class checkpoint + 8189
