-- By the floor of live sessions.
use Rattle.law_commit.proofs.OfQuiet.Before.{waits_from_before}
use Rattle.law_commit.proofs.OfQuiet.Begun.{begun_have_flushed}
use Rattle.law_commit.proofs.OfQuiet.Latching.{latches_at_its_version}
use Rattle.law_commit.proofs.OfQuiet.Left.{none_is_left, owes_none}
use Rattle.law_commit.proofs.OfQuiet.Life.{none_comes_back}
use Rattle.law_commit.proofs.OfQuiet.Live.{live_later}
use Rattle.law_commit.proofs.OfQuiet.Points.{points_split, points_stay}
use Rattle.law_commit.proofs.OfQuiet.Ranks.{ranks_rise}
use Rattle.law_commit.proofs.quiet.law_versions_end.Goals as goal

pub returns-clause-ranks : goal.returns-clause-ranks
returns-clause-ranks c = ranks_rise

pub returns-clause-live : goal.returns-clause-live
returns-clause-live c = live_later c.law_floor_stands.ensures.floor

pub returns-clause-gone : goal.returns-clause-gone
returns-clause-gone c = none_comes_back (live_later c.law_floor_stands.ensures.floor)

pub returns-clause-owes : goal.returns-clause-owes
returns-clause-owes c = owes_none (live_later c.law_floor_stands.ensures.floor)

pub returns-clause-left : goal.returns-clause-left
returns-clause-left c = none_is_left (live_later c.law_floor_stands.ensures.floor)

pub returns-clause-before : goal.returns-clause-before
returns-clause-before c = waits_from_before (none_is_left (live_later c.law_floor_stands.ensures.floor))

pub returns-clause-latches : goal.returns-clause-latches
returns-clause-latches c = latches_at_its_version c.law_floor_stands.ensures.floor (waits_from_before (none_is_left (live_later c.law_floor_stands.ensures.floor)))

pub returns-clause-points : goal.returns-clause-points
returns-clause-points c = points_stay (live_later c.law_floor_stands.ensures.floor)

pub returns-clause-splits : goal.returns-clause-splits
returns-clause-splits c = points_split (live_later c.law_floor_stands.ensures.floor)

pub returns-clause-begun : goal.returns-clause-begun
returns-clause-begun c = begun_have_flushed
