-- The law, part by part.
use Rattle.fkv_disk.proofs.Shown.{is_opened}
use Rattle.law_opening.proofs.OfLives.Led.{all_led_on}
use Rattle.law_opening.proofs.OfLives.MadeSteps.{all_lead_on}
use Rattle.law_opening.proofs.OfLives.WorldOpens.{world_opens}
use Rattle.law_opening.proofs.lives.law_device_opens.Goals as goal

pub returns-clause-world : goal.returns-clause-world
returns-clause-world g c = λ o n bytes its. world_opens o n bytes its

pub returns-clause-device : goal.returns-clause-device
returns-clause-device g c = λ only. is_opened (g.D.Device.seen c.args.device.now) (g.D.Device.may_leave c.args.device.now) only

pub returns-clause-steps : goal.returns-clause-steps
returns-clause-steps g c = λ n steps opened only lead. all_led_on g.D.Device.seen g.D.Device.may_leave n c.args.device.now opened only steps lead

pub returns-clause-made : goal.returns-clause-made
returns-clause-made g c = λ n steps claim made. all_lead_on g.D.Device.honest g.D.Device.seen g.D.Device.may_leave g.D.Device.failed g.D.Device.refuses g.D.Device.expects n c.args.device.now claim steps made
