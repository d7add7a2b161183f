-- Each word is loaded in its turn.
use Rattle.std.proofs.Common.{sym, ap, ◌∙◌}
use Rattle.fkv_map.specs.declared.operations.Call.TheVariants as call
use Rattle.fkv_plane.specs.declared.asks.Ask.TheVariants.{Load}
use Rattle.fkv_straight.specs.Standing.{begins}
use Rattle.fkv_straight.proofs.Refreshes.{asks_here, begun, epoch_asks, epoch_comes, head_asks, leads_here, phase_asks, phase_comes, read_only_asks, read_only_comes, was_seen}
use Rattle.fkv_straight.proofs.refreshing.load.Goals as goal

pub first-epoch-requires-clause-asked : goal.first-epoch-requires-clause-asked
first-epoch-requires-clause-asked g c =
    let k = g.L.Line.seat c.args.line.now in let s = g.L.Line.stands c.args.line.now in
    epoch_asks k s (begins k s call.Refresh) (begun k s c.requires.awake c.requires.free) ∙ ap Load (sym c.place-epoch_place.ensures)

pub load-phase-requires-clause-asked : goal.load-phase-requires-clause-asked
load-phase-requires-clause-asked g c =
    let k = g.L.Line.seat c.args.line.now in let s = g.L.Line.stands c.args.line.now in let u = g.L.Line.stands c.first-epoch.new.self in let first = c.first-epoch.ensures in
    let at = epoch_comes k s (begins k s call.Refresh) u c.first-epoch.result (begun k s c.requires.awake c.requires.free) first.next in
    asks_here k (g.L.Line.seat c.first-epoch.new.self) u _ first.seat (phase_asks k s u c.first-epoch.result at ∙ ap Load (sym c.place-phase_place.ensures))

pub load-read_only-requires-clause-asked : goal.load-read_only-requires-clause-asked
load-read_only-requires-clause-asked g c =
    let k = g.L.Line.seat c.args.line.now in let s = g.L.Line.stands c.args.line.now in let u = g.L.Line.stands c.first-epoch.new.self in let v = g.L.Line.stands c.load-phase.new.self in
    let first = c.first-epoch.ensures in let second = c.load-phase.ensures in
    let at = epoch_comes k s (begins k s call.Refresh) u c.first-epoch.result (begun k s c.requires.awake c.requires.free) first.next in
    let then = phase_comes k s u v c.first-epoch.result c.load-phase.result at (leads_here k (g.L.Line.seat c.first-epoch.new.self) u v c.load-phase.result first.seat second.next) in
    asks_here k (g.L.Line.seat c.load-phase.new.self) v _ (second.seat ∙ first.seat) (read_only_asks k s v c.first-epoch.result c.load-phase.result then ∙ ap Load (sym c.place-read_only_place.ensures))

pub load-head-requires-clause-asked : goal.load-head-requires-clause-asked
load-head-requires-clause-asked g c =
    let k = g.L.Line.seat c.args.line.now in let s = g.L.Line.stands c.args.line.now in let u = g.L.Line.stands c.first-epoch.new.self in let v = g.L.Line.stands c.load-phase.new.self in
    let w = g.L.Line.stands c.load-read_only.new.self in
    let first = c.first-epoch.ensures in let second = c.load-phase.ensures in let third = c.load-read_only.ensures in
    let at = epoch_comes k s (begins k s call.Refresh) u c.first-epoch.result (begun k s c.requires.awake c.requires.free) first.next in
    let then = phase_comes k s u v c.first-epoch.result c.load-phase.result at (leads_here k (g.L.Line.seat c.first-epoch.new.self) u v c.load-phase.result first.seat second.next) in
    let later = read_only_comes k s v w c.first-epoch.result c.load-phase.result c.load-read_only.result then
    (leads_here k (g.L.Line.seat c.load-phase.new.self) v w c.load-read_only.result (second.seat ∙ first.seat) third.next) in
    asks_here k (g.L.Line.seat c.load-read_only.new.self) w _ (third.seat ∙ (second.seat ∙ first.seat)) (head_asks k s w c.first-epoch.result c.load-phase.result c.load-read_only.result later ∙ ap Load (sym c.place-head_place.ensures))

pub returns-clause-seen : goal.returns-clause-seen
returns-clause-seen g c =
    let k = g.L.Line.seat c.args.line.now in let s = g.L.Line.stands c.args.line.now in let u = g.L.Line.stands c.first-epoch.new.self in let v = g.L.Line.stands c.load-phase.new.self in
    let w = g.L.Line.stands c.load-read_only.new.self in let x = g.L.Line.stands c.load-head.new.self in
    let first = c.first-epoch.ensures in let second = c.load-phase.ensures in let third = c.load-read_only.ensures in let fourth = c.load-head.ensures in
    let at = epoch_comes k s (begins k s call.Refresh) u c.first-epoch.result (begun k s c.requires.awake c.requires.free) first.next in
    let then = phase_comes k s u v c.first-epoch.result c.load-phase.result at (leads_here k (g.L.Line.seat c.first-epoch.new.self) u v c.load-phase.result first.seat second.next) in
    let later = read_only_comes k s v w c.first-epoch.result c.load-phase.result c.load-read_only.result then
    (leads_here k (g.L.Line.seat c.load-phase.new.self) v w c.load-read_only.result (second.seat ∙ first.seat) third.next) in
    was_seen k s w x c.first-epoch.result c.load-phase.result c.load-read_only.result c.load-head.result c.args.before c.seen_after-after.result later
    (leads_here k (g.L.Line.seat c.load-read_only.new.self) w x c.load-head.result (third.seat ∙ (second.seat ∙ first.seat)) fourth.next)
    c.requires.seen c.phase_said-said.result c.phase_said-said.ensures c.seen_after-after.ensures
