-- By whether the version has changed it is at its last store already, or comes there by two more.
use Rattle.std.proofs.Common.{sym, ◌∙◌}
use Rattle.fkv_straight.proofs.Refreshes.{awake_alike, free_alike, other_version, same_version, seen_alike, seen_other, seen_same, serial_alike}
use Rattle.fkv_straight.proofs.refreshing.refresh.Goals as goal

pub load-epoch-requires-clause-awake : goal.load-epoch-requires-clause-awake
load-epoch-requires-clause-awake g c = awake_alike c.args.machine.now.state (g.L.Line.stands c.args.line.now) c.requires.alike c.requires.awake

pub load-epoch-requires-clause-free : goal.load-epoch-requires-clause-free
load-epoch-requires-clause-free g c = free_alike c.args.machine.now.state (g.L.Line.stands c.args.line.now) c.requires.alike c.requires.free

pub load-epoch-requires-clause-seen : goal.load-epoch-requires-clause-seen
load-epoch-requires-clause-seen g c = seen_alike c.args.machine.now.state (g.L.Line.stands c.args.line.now) c.requires.alike ∙ sym c.seen-before.ensures

pub finish-requires-clause-at : goal.finish-requires-clause-at
finish-requires-clause-at g c =
    let k = g.L.Line.seat c.args.line.now in let s = g.L.Line.stands c.args.line.now in let m = c.args.machine.now.state in
    let its = seen_alike m s c.requires.alike ∙ sym c.seen-before.ensures in
    let same = same_version s c.seen-before.result c.load-epoch.result.1 its c.if-after-before.true in
    (s, c.requires.alike, seen_same k s (g.L.Line.stands c.load-epoch.new.line) c.load-epoch.result.0 c.load-epoch.result.1 c.load-epoch.ensures.seen same)

pub end_version-requires-clause-at : goal.end_version-requires-clause-at
end_version-requires-clause-at g c =
    let k = g.L.Line.seat c.args.line.now in let s = g.L.Line.stands c.args.line.now in let m = c.args.machine.now.state in
    let its = seen_alike m s c.requires.alike ∙ sym c.seen-before.ensures in
    let other = other_version s c.seen-before.result c.load-epoch.result.1 its c.if-after-before.false in
    (s, c.load-epoch.result.0, serial_alike m s c.requires.alike, seen_other k s (g.L.Line.stands c.load-epoch.new.line) c.load-epoch.result.0 c.load-epoch.result.1 c.load-epoch.ensures.seen other)

pub finish-requires-2-clause-at : goal.finish-requires-2-clause-at
finish-requires-2-clause-at g c =
    let k = g.L.Line.seat c.args.line.now in let s = g.L.Line.stands c.args.line.now in let m = c.args.machine.now.state in
    let its = seen_alike m s c.requires.alike ∙ sym c.seen-before.ensures in
    let other = other_version s c.seen-before.result c.load-epoch.result.1 its c.if-after-before.false in
    let at = seen_other k s (g.L.Line.stands c.load-epoch.new.line) c.load-epoch.result.0 c.load-epoch.result.1 c.load-epoch.ensures.seen other in
    (s, c.requires.alike, c.end_version.ensures.ends s c.load-epoch.result.0 (serial_alike m s c.requires.alike) at)
