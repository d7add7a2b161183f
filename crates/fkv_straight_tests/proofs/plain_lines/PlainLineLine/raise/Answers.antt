use Rattle.fkv_straight_tests.proofs.Led.{led_more}
use Rattle.fkv_straight_tests.proofs.plain_lines.PlainLineLine.raise.Goals as goal

pub returns-clause-led : goal.returns-clause-led
returns-clause-led g c = λ start op so.
    led_more _ _ _ _ _ _ _ _ c.keep-2.ensures.machine c.keep-2.ensures.replies c.keep-2.ensures.next (led_more _ _ _ _ _ _ _ _ c.keep.ensures.machine c.keep.ensures.replies c.keep.ensures.next so)
