use Rattle.std.specs.Fmt.{HasWritten, IsPlainFormatter}
use Rattle.fkv_picture.specs.Each.{each_below}
use Rattle.fkv_picture.specs.Strips.{bar_text_at}
use Rattle.fkv_picture.proofs.strips.BarsDisplay.fmt.Given as goal

abbrev pub invariant-loop-bar : goal.invariant-loop-bar
invariant-loop-bar g l =
    let it = l.self in
    IsPlainFormatter l.initial.f
    → HasWritten g.W.Write.write_str_gives l.initial.f (each_below (bar_text_at it.strip.drawn it.strip.pages_a_bar it.strip.width it.pages.pages.now it.pages.size it.pages.tail) l.bar) l.f
