-- The machine and its seat at each round.
use Rattle.std.proofs.Common.{◌≡◌, []}
use Rattle.fkv_plane.specs.declared.asks.Ask.TheVariants.{Done}
use Rattle.fkv_seats.specs.Rule.{base, led}
use Rattle.fkv_session.specs.AsksLeft.{session_asks_left}
use Rattle.fkv_session.specs.declared.answers.Told.{Told}
use Rattle.fkv_session.specs.Sessions.{session_ask}
use Rattle.fkv_session.specs.SessionRun.{telling}
use Rattle.fkv_table.specs.Calls.{HasStepped, IsToldLast}
use Rattle.fkv_table.specs.Planes.{opening_of, plane}
use Rattle.fkv_table.specs.Sits.{IsIdleEmpty, StandsIn}
use Rattle.fkv_table.proofs.sessions.steps_on.Given as goal

abbrev pub invariant-loop-ask : goal.invariant-loop-ask
invariant-loop-ask g l =
    (l.seat.table_id ≡ l.fn.seat.table_id) × (l.seat.id ≡ l.fn.seat.id) × HasStepped l.fn.machine.seat.number l.fn.seat.me.0.seen l.seat.me.0.seen
    × (base (plane (opening_of g.D.Device.seen)) l.seat.me.0.hand l.seat.me.1 ≡ base (plane (opening_of g.D.Device.seen)) l.fn.seat.me.0.hand l.fn.seat.me.1)
    × (l.seat.me.0.desk ≡ l.fn.seat.me.0.desk)
    × StandsIn (opening_of g.D.Device.seen) l.fn.words.key l.seat.me [] l.machine × (l.machine.seat ≡ l.fn.machine.seat)
    × IsIdleEmpty (opening_of g.D.Device.seen) l.machine l.seat.me
    × ((its : Told) → session_ask l.machine.seat l.machine.state ≡ Done its → IsToldLast (led (plane (opening_of g.D.Device.seen)) (opening_of g.D.Device.seen l.fn.words.key) l.seat.me.0.seen) l.machine.seat.number (telling its l.machine.state.finished))
    × (l.ask ≡ session_ask l.machine.seat l.machine.state)

abbrev pub decreases-loop-ask : goal.decreases-loop-ask
decreases-loop-ask g l = session_asks_left l.machine.seat l.machine.state
