use Rattle.std.proofs.Common.{ap, rules}
use Rattle.fkv_disk.specs.Done.{call_of}
use Rattle.fkv_disk.proofs.Replayed.{synced_within_all, not_synced_yet, synced_later, synced_first, never_synced, never_synced_first}
use Rattle.fkv_disk.proofs.forgetting.synced_calls.Goals as goal

pub loop-left-init : goal.loop-left-init
loop-left-init c = synced_within_all c.args.done.now _ (search rules)

pub loop-left-preserved : goal.loop-left-preserved
loop-left-preserved c = not_synced_yet c.args.done.now c.loop-left.left c.index-done-left.result c.loop-left-test.true c.loop-left.invariant c.index-done-left.is _ _ (ap call_of c.in-Wrote.is)

pub returns-in-Synced-clause-later : goal.returns-in-Synced-clause-later
returns-in-Synced-clause-later c = synced_later c.args.done.now c.loop-left.left c.index-done-left.result c.loop-left-test.true c.loop-left.invariant c.index-done-left.is (ap call_of c.in-Synced.is)

pub returns-in-Synced-clause-first : goal.returns-in-Synced-clause-first
returns-in-Synced-clause-first c = synced_first c.args.done.now c.loop-left.left c.index-done-left.result c.loop-left-test.true c.loop-left.invariant c.index-done-left.is (ap call_of c.in-Synced.is)

pub returns-clause-later : goal.returns-clause-later
returns-clause-later c = never_synced c.args.done.now c.loop-left.left c.loop-left.invariant (search rules)

pub returns-clause-first : goal.returns-clause-first
returns-clause-first c = λ opening. never_synced_first c.args.done.now c.loop-left.left opening c.loop-left.invariant (search rules)
