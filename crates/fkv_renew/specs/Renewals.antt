-- A renewal from one device to another.
use Rattle.std.specs.Prelude.{◌≡◌, ℕ, ◌+◌, List, length, Option, Some, None, IsSomeAnd, unwrap_or}
use Rattle.fkv_base.specs.declared.faults.Fault.{Fault}
use Rattle.fkv_base.specs.declared.faults.Fault.TheVariants.{Device as DeviceFailed, Memory as MemoryRefused}
use Rattle.fkv_base.specs.declared.numbers.Key.{Key}
use Rattle.fkv_base.specs.declared.numbers.Serial.{Serial}
use Rattle.fkv_base.specs.declared.numbers.Value.{Value}
use Rattle.fkv_base.specs.declared.shapes.Shape.{Shape}
use Rattle.fkv_disk.specs.Device.{LeavesOnly}
use Rattle.fkv_files.specs.declared.troubles.Trouble.TheVariants as trouble
use Rattle.fkv_lines.specs.declared.scripts.Sizes.{Sizes}
use Rattle.fkv_renewing.specs.Refused.{IsUnfit}
use Rattle.fkv_renewing.specs.Renewed.{AreSomePairs, IsRenewal}
use Rattle.fkv_renewing.specs.Room.{HasRoomFor}
use Rattle.fkv_spread.specs.declared.keys.Keys.{Keys}
use Rattle.fkv_renew.specs.Files.{Files}
use Rattle.fkv_renew.specs.Saved.{taken_of}
use Rattle.fkv_renew.specs.Sizes.{AreSizes, HasSizes}
use Rattle.fkv_renew.specs.Stores.{IsHeld, IsLaid, IsUnread}
use Rattle.fkv_renew.specs.declared.renewals.Refusal.{Refusal}
use Rattle.fkv_renew.specs.declared.renewals.Refusal.TheVariants.{First, Memory, New, Sizes as SizesRefused, Unfit, Unopened}
use Rattle.fkv_renew.specs.declared.saved.Saved.{Saved}
use Rattle.fkv_renew.specs.declared.stores.Store.{Store}
use Rattle.fkv_renew.specs.declared.words.Asked.{Asked}

-- ---- what is made

-- what the renewal of a store to this shape has saved: the new one has a record for each pair, and is commit 1
abbrev pub saved_of : Store → Shape → Saved
saved_of store shape = record {
  pairs = length store.pairs.items;
  before = taken_of store.opened.shape store.opened.tail.0 store.opened.number.0;
  after = taken_of shape (length store.pairs.items + 1) 1;
}

-- A device, if it is honest, reads as the renewal of this store to this shape, whose pairs are some store's; and a crash leaves just that.
pub record IsRenewalOf {N : Type 0} (honest : N → Type 0) (seen : N → List ℕ) (may_leave : N → List ℕ → Type 0) (store : Store) (shape : Shape) (device : N) : Type 0 where
  pub reads : honest device → AreSomePairs store.pairs.items → IsRenewal shape store.opened.points.items store.pairs.items (seen device)
  pub synced : honest device → LeavesOnly (seen device) (may_leave device)

-- From one device to another a store is renewed, to the shape that is wanted or else to its own, which has room for it; and this is saved. If the old device is honest,
-- it holds this store. If both are, the new one reads as the renewal of its points and of just its pairs, each with its key as it comes to lie; and a crash leaves just that.
pub record Renews {O N : Type 0} (old_honest : O → Type 0) (old_seen : O → List ℕ) (honest : N → Type 0) (seen : N → List ℕ) (may_leave : N → List ℕ → Type 0) (wanted : Option Shape) (keys : Keys) (old : O) (new : N) (saved : Saved) : Type 0 where
  pub store : Store
  pub laid : Store
  pub shape : Shape
  pub its_shape : shape ≡ unwrap_or wanted store.opened.shape
  pub is_laid : IsLaid keys store laid
  pub room : HasRoomFor shape laid.opened.points.items laid.pairs.items
  pub says : saved ≡ saved_of laid shape
  pub held : old_honest old → IsHeld (old_seen old) store
  pub renewed : old_honest old → honest new → IsRenewal shape laid.opened.points.items laid.pairs.items (seen new)
  pub synced : honest new → LeavesOnly (seen new) (may_leave new)

-- ---- what is refused

-- the shape has no room for these points and pairs
abbrev pub IsTooSmall : Shape → List Serial → List (Key × Value) → Fault → Type 0
IsTooSmall shape points pairs MemoryRefused = ⊥
IsTooSmall shape points pairs other = IsUnfit shape points pairs other

-- why no new store was written: the shape has no room, or its file or memory failed
abbrev pub IsHindrance : Shape → List Serial → List (Key × Value) → Refusal → Type 0
IsHindrance shape points pairs (Unfit fault) = IsTooSmall shape points pairs fault
IsHindrance shape points pairs (First its) = Unit {0}
IsHindrance shape points pairs (New its) = Unit {0}
IsHindrance shape points pairs Memory = Unit {0}
IsHindrance shape points pairs other = ⊥

-- the refusal that a fault of `renew` is
abbrev pub refusal_by : Fault → Refusal
refusal_by MemoryRefused = Memory
refusal_by DeviceFailed = First (trouble.Fault DeviceFailed)
refusal_by other = Unfit other

-- the refusal that a fault in reading the old store is
abbrev pub refusal_of_old : Fault → Refusal
refusal_of_old MemoryRefused = Memory
refusal_of_old other = Unopened other

-- why the store on a device isn't opened: its image has this fault, if it is honest; or it failed
abbrev pub IsUnopened : Type 0 → List ℕ → Fault → Type 0
IsUnopened honest image MemoryRefused = ⊥
IsUnopened honest image other = IsUnread honest image other

-- A store was read from a device, which holds it if it is honest. The shape that is wanted, or else its own, has no room for it, its keys laid so.
pub record IsHindered {O : Type 0} (honest : O → Type 0) (seen : O → List ℕ) (wanted : Option Shape) (keys : Keys) (old : O) (fault : Fault) : Type 0 where
  pub store : Store
  pub laid : Store
  pub shape : Shape
  pub its_shape : shape ≡ unwrap_or wanted store.opened.shape
  pub is_laid : IsLaid keys store laid
  pub held : honest old → IsHeld (seen old) store
  pub why : IsTooSmall shape laid.opened.points.items laid.pairs.items fault

-- why the store on a device isn't renewed: it isn't opened, or has no room; or the new file or memory failed
abbrev pub IsUnrenewed : {O : Type 0} → (O → Type 0) → (O → List ℕ) → Option Shape → Keys → O → Refusal → Type 0
IsUnrenewed honest seen wanted keys old (Unopened fault) = IsUnopened (honest old) (seen old) fault
IsUnrenewed honest seen wanted keys old (Unfit fault) = IsHindered honest seen wanted keys old fault
IsUnrenewed honest seen wanted keys old (First its) = Unit {0}
IsUnrenewed honest seen wanted keys old (New its) = Unit {0}
IsUnrenewed honest seen wanted keys old Memory = Unit {0}
IsUnrenewed honest seen wanted keys old other = ⊥

-- ---- by what is asked for

-- the shape that has them, where some are asked for
abbrev pub IsWanted : Option Sizes → Option Shape → Type 0
IsWanted None wanted = wanted ≡ None
IsWanted (Some sizes) wanted = IsSomeAnd wanted (HasSizes sizes)

-- From the file of the old path, as it was opened, a store was renewed to a file that has then got the new path as its name, with the sizes and keys that are asked
-- for; and this was saved.
pub record IsSavedFrom {D : Type 0} (files : Files D) (asked : Asked) (saved : Saved) : Type 0 where
  pub wanted : Option Shape
  pub sized : IsWanted asked.sizes wanted
  pub old : D
  pub new : D
  pub opened : files.is_opened asked.old.now old
  pub named : files.is_named asked.new.now new
  pub renews : Renews files.honest files.seen files.honest files.seen files.may_leave wanted asked.keys old new saved

-- Why a renewal is refused: no store has the sizes that are asked for. Or the file of the old path was opened, and its store isn't or has no room. Or a file or
-- memory failed.
abbrev pub IsRefusal : {D : Type 0} → Files D → Asked → Refusal → Type 0
IsRefusal files asked (SizesRefused refused) = (asked.sizes ≡ Some refused) × (AreSizes refused → ⊥)
IsRefusal {D} files asked (Unopened fault) = (wanted : Option Shape) × IsWanted asked.sizes wanted × (old : D) × files.is_opened asked.old.now old × IsUnopened (files.honest old) (files.seen old) fault
IsRefusal {D} files asked (Unfit fault) = (wanted : Option Shape) × IsWanted asked.sizes wanted × (old : D) × files.is_opened asked.old.now old × IsHindered files.honest files.seen wanted asked.keys old fault
IsRefusal files asked other = (wanted : Option Shape) × IsWanted asked.sizes wanted
