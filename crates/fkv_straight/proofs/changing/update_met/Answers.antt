use Rattle.std.proofs.Common.{subst}
use Rattle.fkv_straight.specs.declared.searching.Met.{Met}
use Rattle.fkv_straight.specs.Met.{HasMet}
use Rattle.fkv_straight.proofs.changing.update_met.Goals as goal

pub update_record-requires-clause-at : goal.update_record-requires-clause-at
update_record-requires-clause-at g c = let its = c.requires.at.0 in (its, c.requires.at.1, subst (λ (m : Met). HasMet its m (g.L.Line.stands c.args.line.now)) c.in-Found.is c.requires.at.2)

pub append_first-requires-clause-at : goal.append_first-requires-clause-at
append_first-requires-clause-at g c = let its = c.requires.at.0 in (its, c.requires.at.1, subst (λ (m : Met). HasMet its m (g.L.Line.stands c.args.line.now)) c.in-Nowhere.is c.requires.at.2)

pub append_past-requires-clause-at : goal.append_past-requires-clause-at
append_past-requires-clause-at g c = let its = c.requires.at.0 in (its, c.requires.at.1, c.in-OnDisk.field-1, subst (λ (m : Met). HasMet its m (g.L.Line.stands c.args.line.now)) c.in-OnDisk.is c.requires.at.2)

pub returns-in-Found-clause-done : goal.returns-in-Found-clause-done
returns-in-Found-clause-done g c = λ its goes met. c.update_record.ensures.done its goes (subst (λ (m : Met). HasMet its m (g.L.Line.stands c.args.line.now)) c.in-Found.is met)

pub returns-in-OnDisk-clause-done : goal.returns-in-OnDisk-clause-done
returns-in-OnDisk-clause-done g c = λ its goes met. c.append_past.ensures.done its goes c.in-OnDisk.field-1 (subst (λ (m : Met). HasMet its m (g.L.Line.stands c.args.line.now)) c.in-OnDisk.is met)
