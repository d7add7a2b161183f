use Rattle.std.proofs.Common.{◌≡◌, drop}
use Rattle.fkv_session.specs.Alike.{StandAlike}
use Rattle.fkv_session.specs.Sessions.{SessionState, session_ask}
use Rattle.fkv_straight.specs.Standing.{replayed}
use Rattle.fkv_straight.proofs.handing.catch_up.Given as goal

-- the machine stands like one that what is left of the replies leads to where the line stands
abbrev pub invariant-loop-reply : goal.invariant-loop-reply
invariant-loop-reply g l =
    let k = g.L.Line.seat l.fn.line in
    record {
      seat : l.machine.seat ≡ k;
      ask : l.ask ≡ session_ask l.machine.seat l.machine.state;
      left : (s : SessionState) × StandAlike l.machine.state s × (replayed k s (drop l.reply-index l.reply-items) ≡ g.L.Line.stands l.fn.line);
    }
