-- What the pages of a bar of the strip hold together.
use Rattle.std.specs.Prelude.{ℕ, ◌+◌, ◌-◌, ◌*◌, max, min, List, length}
use Rattle.std.specs.List.{fold, slice_range}
use Rattle.fkv_looking.specs.declared.classes.RecordClass.{RecordClass}
use Rattle.fkv_looking.specs.declared.classes.RecordClass.TheVariants.{Valid, Invalid, Lost, Newer, NoRecord}
use Rattle.fkv_looking.specs.declared.page_looks.PageLook.{PageLook}
use Rattle.fkv_picture.specs.declared.columns.Column.{Column}
use Rattle.fkv_picture.specs.Shares.{capped}

-- how many addresses of a class a page has
abbrev pub count_of : RecordClass → PageLook → ℕ
count_of Valid page = page.valid
count_of Invalid page = page.invalid
count_of Lost page = page.lost
count_of Newer page = page.newer
count_of NoRecord page = page.no_record

-- how many of a class some pages have
abbrev pub count_in : RecordClass → List PageLook → ℕ
count_in class pages = fold (λ sum page. capped (sum + count_of class page)) 0 pages

-- the pages from one on and below another, as far as there are any
abbrev pub pages_between : ℕ → ℕ → List PageLook → List PageLook
pages_between first end pages = slice_range pages (min (length pages) first) (min (length pages) end)

-- what the pages from one on and below another hold: sums of each class, and the addresses from the log's end on. Address 0 is none.
abbrev pub column_of : List PageLook → ℕ → ℕ → ℕ → ℕ → Column
column_of pages size tail first end = record {
  first = first;
  end = end;
  room = end * size - max (first * size) 1;
  valid = count_in Valid (pages_between first end pages);
  lost = count_in Lost (pages_between first end pages);
  invalid = count_in Invalid (pages_between first end pages);
  newer = count_in Newer (pages_between first end pages);
  no_record = count_in NoRecord (pages_between first end pages);
  free = end * size - max (max (first * size) 1) tail;
}
