-- The log as a strip: bars side by side, each for a page or for several.
use Rattle.std.specs.Prelude.{ℕ, ◌+◌, ◌-◌, ◌*◌, min, List}
use Rattle.fkv_looking.specs.declared.page_looks.PageLook.{PageLook}
use Rattle.fkv_picture.specs.declared.stacks.Stack.{Stack}
use Rattle.fkv_picture.specs.Columns.{column_of}
use Rattle.fkv_picture.specs.Each.{each_below}
use Rattle.fkv_picture.specs.Stacks.{stack_text}

-- the first page of a bar, and the one behind its last
abbrev pub first_page : ℕ → ℕ → ℕ → ℕ
first_page drawn a_bar bar = min drawn (bar * a_bar)

abbrev pub end_page : ℕ → ℕ → ℕ → ℕ
end_page drawn a_bar bar = min drawn (first_page drawn a_bar bar + a_bar)

-- the bar of a number, of a log with these pages
abbrev pub stack_at : ℕ → ℕ → ℕ → List PageLook → ℕ → ℕ → ℕ → Stack
stack_at drawn a_bar width pages size tail bar = record {
  column = column_of pages size tail (first_page drawn a_bar bar) (end_page drawn a_bar bar);
  x = 40 + bar * width;
  width = width - 1;
}

abbrev pub bar_text_at : ℕ → ℕ → ℕ → List PageLook → ℕ → ℕ → ℕ → List ℕ
bar_text_at drawn a_bar width pages size tail bar = let stack = stack_at drawn a_bar width pages size tail bar in stack_text stack.column stack.x stack.width

-- all bars, in their order
unfoldable pub strip_text : ℕ → ℕ → ℕ → ℕ → List PageLook → ℕ → ℕ → List ℕ
strip_text drawn a_bar bars width pages size tail = each_below (bar_text_at drawn a_bar width pages size tail) bars
