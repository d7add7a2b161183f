-- By the moments at which a commit's first address and its end were the tail.
use Rattle.law_commit.proofs.OfDecided.BelowEnd.{each_later, each_old, each_recent, each_settled, each_young}
use Rattle.law_commit.proofs.OfDecided.EndsRise.{ends_rise}
use Rattle.law_commit.proofs.OfDecided.Scans.{begun_below}
use Rattle.law_commit.proofs.OfDecided.Spelled.{full_spell}
use Rattle.law_commit.proofs.OldBegins.{begun_old}
use Rattle.law_commit.proofs.decided.law_commits_cut.Goals as goal

pub returns-clause-later : goal.returns-clause-later
returns-clause-later c = each_later c.law_versions_end.ensures.left

pub returns-clause-young : goal.returns-clause-young
returns-clause-young c = each_young

pub returns-clause-settled : goal.returns-clause-settled
returns-clause-settled c = each_settled c.law_floor_stands.ensures.floor

pub returns-clause-old : goal.returns-clause-old
returns-clause-old c = each_old

pub returns-clause-recent : goal.returns-clause-recent
returns-clause-recent c = each_recent c.law_versions_end.ensures.left

pub returns-clause-ends : goal.returns-clause-ends
returns-clause-ends c = ends_rise

pub returns-clause-triples : goal.returns-clause-triples
returns-clause-triples c = full_spell c.law_phases_are_seen.ensures.sound c.law_floor_stands.ensures.floor c.law_copied.ensures.triples

pub returns-clause-begins : goal.returns-clause-begins
returns-clause-begins c = begun_below

pub returns-clause-as_opened : goal.returns-clause-as_opened
returns-clause-as_opened c = begun_old
