-- What the bytes of a manifest slot say.
use Rattle.std.specs.Prelude.{◌≡◌, ℕ, List, ◌==◌, if◌then◌else◌, Some, None}
use Rattle.fkv_record.specs.declared.formats.Format.{Format}
use Rattle.fkv_record.specs.declared.manifest_slots.ManifestSlot.{ManifestSlot}
use Rattle.fkv_record.specs.Manifest.{manifest_bytes}
use Rattle.fkv_record.specs.Places.{open_number}
use Rattle.fkv_looking.specs.declared.slot_looks.CommitKind.{CommitKind}
use Rattle.fkv_looking.specs.declared.slot_looks.CommitKind.TheVariants as kind
use Rattle.fkv_looking.specs.declared.slot_looks.SlotLook.{SlotLook}
use Rattle.fkv_looking.specs.declared.slot_looks.SlotLook.TheVariants as slot_look

-- a full commit names its own checkpoint
abbrev pub kind_of : ManifestSlot → CommitKind
kind_of slot = if slot.checkpoint == slot.number then kind.Full else kind.Log

-- The gate is closed; or it is open, and the bytes are no slot's in any format; or they are this slot's in this format.
abbrev pub IsSlotLook : List ℕ → SlotLook → Type 0
IsSlotLook bytes slot_look.Closed = open_number bytes ≡ None
IsSlotLook bytes (slot_look.Unspelled number) = (open_number bytes ≡ Some number) × ((format : Format) (slot : ManifestSlot) → manifest_bytes (format, slot) ≡ Some bytes → ⊥)
IsSlotLook bytes (slot_look.Commit look) = (manifest_bytes (look.format, look.slot) ≡ Some bytes) × (look.kind ≡ kind_of look.slot)
