-- By what an opened store's words show, and the points of its newest commit.
use Rattle.law_order.proofs.OfRules.Points.{points_open}
use Rattle.law_order.proofs.in_turn.law_points_open.Goals as goal

pub returns : goal.returns
returns c = λ bytes o n store its.
    record { quiet = c.law_ends_open.ensures bytes o n store its; cuts = c.law_cuts_open.ensures.cuts o n its; points = λ session. points_open o n its session }
