-- The log of an opened store, page by page.
use Rattle.std.specs.Prelude.{◌≡◌, ℕ, ◌+◌, ◌-◌, ◌*◌, ◌/◌, max, min, List, length, slice_get, Some, count_by}
use Rattle.fkv_opening.specs.declared.opened_store.Opened.{Opened}
use Rattle.fkv_looking.specs.declared.classes.RecordClass.{RecordClass}
use Rattle.fkv_looking.specs.declared.classes.RecordClass.TheVariants.{Valid, Invalid, Lost, Newer, NoRecord}
use Rattle.fkv_looking.specs.declared.page_looks.PageLook.{PageLook}
use Rattle.fkv_looking.specs.Classes.{IsClass, is_class}

-- the classes of the addresses from one on and below another, in their order
pub record AreClasses (image : List ℕ) (opened : Opened) (first end : ℕ) (classes : List RecordClass) : Type 0 where
  pub many : length classes ≡ end - first
  pub each : (i : ℕ) (class : RecordClass) → slice_get classes i ≡ Some class → IsClass image opened (first + i) class

-- The page of a number holds the addresses from its first one on, but for address 0, up to its end or the log's. Of each class it has so many.
pub record IsPageLook (image : List ℕ) (opened : Opened) (page : ℕ) (look : PageLook) : Type 0 where
  pub first : look.first.0 ≡ max (page * opened.shape.page) 1
  pub end : look.end.0 ≡ min (page * opened.shape.page + opened.shape.page) opened.tail.0
  pub classes : List RecordClass
  pub classed : AreClasses image opened look.first.0 look.end.0 classes
  pub valid : look.valid ≡ count_by (is_class Valid) classes
  pub invalid : look.invalid ≡ count_by (is_class Invalid) classes
  pub lost : look.lost ≡ count_by (is_class Lost) classes
  pub newer : look.newer ≡ count_by (is_class Newer) classes
  pub no_record : look.no_record ≡ count_by (is_class NoRecord) classes

-- the pages of the log, up to the one that has the last address below its end
pub record ArePages (image : List ℕ) (opened : Opened) (pages : List PageLook) : Type 0 where
  pub many : length pages ≡ (opened.tail.0 - 1) / opened.shape.page + 1
  pub each : (i : ℕ) (look : PageLook) → slice_get pages i ≡ Some look → IsPageLook image opened i look
