use Rattle.std.specs.Fmt.{HasWritten, IsPlainFormatter}
use Rattle.fkv_picture.specs.Each.{each_below}
use Rattle.fkv_picture.specs.Squares.{square_text_at}
use Rattle.fkv_picture.proofs.squares.SquaresDisplay.fmt.Given as goal

abbrev pub invariant-loop-number : goal.invariant-loop-number
invariant-loop-number g l =
    let it = l.self in
    IsPlainFormatter l.initial.f
    → HasWritten g.W.Write.write_str_gives l.initial.f (each_below (square_text_at it.layout.buckets_a_square it.layout.columns it.layout.size it.entries.now) l.number) l.f
