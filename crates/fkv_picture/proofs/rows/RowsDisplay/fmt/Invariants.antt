use Rattle.std.specs.Fmt.{HasWritten, IsPlainFormatter}
use Rattle.fkv_picture.specs.Each.{each_below}
use Rattle.fkv_picture.specs.Rows.{row_text_at}
use Rattle.fkv_picture.proofs.rows.RowsDisplay.fmt.Given as goal

abbrev pub invariant-loop-entries : goal.invariant-loop-entries
invariant-loop-entries g l =
    IsPlainFormatter l.initial.f → HasWritten g.W.Write.write_str_gives l.initial.f (each_below (row_text_at l.self.0.now) l.entries) l.f
