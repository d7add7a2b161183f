-- What a look tells of the bytes of a device.
use Rattle.std.specs.Prelude.{◌≡◌, ℕ, List, Option}
use Rattle.fkv_base.specs.declared.faults.Fault.TheVariants.{NotAStore, Damaged as damaged}
use Rattle.fkv_base.specs.declared.shapes.Shape.{Shape}
use Rattle.fkv_disk.specs.Bytes.{bytes_at}
use Rattle.fkv_words.specs.Fields.{Reads}
use Rattle.fkv_manifest.specs.Newest.{slot_in}
use Rattle.fkv_record.specs.Layout.{shape_bytes}
use Rattle.fkv_opening.specs.Faults.{IsFaultOf}
use Rattle.fkv_opening.specs.Opened.{IsStoreOf}
use Rattle.fkv_looking.specs.declared.looks.Look.{Look}
use Rattle.fkv_looking.specs.declared.looks.Found.{Found}
use Rattle.fkv_looking.specs.declared.looks.Found.TheVariants.{NoStore, Damaged, Store}
use Rattle.fkv_looking.specs.declared.looks.StoreLook.{StoreLook}
use Rattle.fkv_looking.specs.Buckets.{IsIndexLook}
use Rattle.fkv_looking.specs.Damages.{ArePartBytes, area_in_force}
use Rattle.fkv_looking.specs.Fronts.{in_force}
use Rattle.fkv_looking.specs.Pages.{ArePages}
use Rattle.fkv_looking.specs.Slots.{IsSlotLook}
use Rattle.fkv_looking.specs.Uses.{AreUses}

-- the image holds this store, with these pages of its log, buckets this full and these uses of what it has
pub record IsStoreLook (image : List ℕ) (look : StoreLook) : Type 0 where
  pub holds : IsStoreOf image look.opened
  pub pages : ArePages image look.opened look.pages.items
  pub index : IsIndexLook look.opened look.index
  pub uses : AreUses look.opened look.uses

-- recovery finds no store, this damage, or this store
abbrev pub IsFound : List ℕ → Found → Type 0
IsFound image NoStore = IsFaultOf image NotAStore
IsFound image (Damaged look) = IsFaultOf image (damaged look.part look.place)
IsFound image (Store look) = IsStoreLook image look

-- the bytes of a damaged part are those that stand there, by the shape and by the area that the slot in force names
abbrev pub HasPartBytes : List ℕ → Option Shape → ℕ → Found → Type 0
HasPartBytes image its_shape area NoStore = Unit {0}
HasPartBytes image its_shape area (Damaged look) = ArePartBytes image its_shape area look.part look.place look.bytes.items
HasPartBytes image its_shape area (Store its_store) = Unit {0}

-- The block spells this shape, or none; both slots say so; this one is in force; and recovery finds this.
pub record IsLookOf (image : List ℕ) (look : Look) : Type 0 where
  pub block : Reads shape_bytes (bytes_at image 0 64) look.shape
  pub slot_0 : IsSlotLook (slot_in image 512) look.slots.0
  pub slot_1 : IsSlotLook (slot_in image 1024) look.slots.1
  pub newest : look.in_force ≡ in_force image
  pub found : IsFound image look.found
  pub part : HasPartBytes image look.shape (area_in_force look.in_force look.slots.0 look.slots.1) look.found
