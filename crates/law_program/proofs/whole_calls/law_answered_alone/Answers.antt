use Rattle.law_order.specs.Below.law_opening.Log.Maps.{opening_map}
use Rattle.law_order.specs.Rules.Ordered.{effects_so_far, lines_so_far}
use Rattle.law_program.proofs.OfWholeCalls.Whole.{answered_alone}
use Rattle.law_program.proofs.whole_calls.law_answered_alone.Goals as goal

pub returns : goal.returns
returns c = λ bytes o n before events op its legal ordered reads given alone tells.
    let both = answered_alone (opening_map bytes o) op (effects_so_far n bytes before) (effects_so_far n bytes events) (lines_so_far n bytes before) (lines_so_far n bytes events) its legal ordered reads given alone tells in
    record { reply = both.0; leaves = both.1 }
