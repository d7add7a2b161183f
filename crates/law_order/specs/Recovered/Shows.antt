-- What the log beside a life is to the commit with which the store was opened.
use Rattle.law_order.specs.Decided.Cut.{log_beside}
use Rattle.law_commit.specs.Below.law_paper.Paper.Opened.{StandsAsOpened}
use Rattle.law_order.specs.Recovered.Leaves.{SaidOfLeft, homes_of, log_then}

-- The log stands as `law_paper` asks while that commit is in force.
abbrev pub StandsOpened : SaidOfLeft
StandsOpened o n bytes events image leaves = StandsAsOpened (homes_of n) (log_then leaves) (log_beside o n bytes events)
