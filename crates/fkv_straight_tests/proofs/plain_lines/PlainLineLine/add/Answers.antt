use Rattle.fkv_straight_tests.proofs.Led.{led_more}
use Rattle.fkv_straight_tests.proofs.plain_lines.PlainLineLine.add.Goals as goal

pub returns-clause-led : goal.returns-clause-led
returns-clause-led g c = λ start op so. led_more _ _ _ _ _ _ _ _ c.go_on.ensures.machine c.go_on.ensures.replies c.go_on.ensures.next so
