-- By what an opened store's life begins with.
use Rattle.law_opening.specs.Below.fkv_core.Openings.{beginning}
use Rattle.law_opening.specs.Log.OpeningLog.{opening_ghosts}
use Rattle.law_order.proofs.OfRules.Decided.{opens_decided}
use Rattle.law_order.proofs.OfRules.Words.{opens_seen}
use Rattle.law_order.proofs.decided.law_decided_opens.Goals as goal

pub returns-clause-taken : goal.returns-clause-taken
returns-clause-taken c = λ bytes o n events store its.
    c.law_addresses_taken.ensures.taken (beginning n bytes) o.tail.0 (opening_ghosts bytes o) events (opens_decided c.law_life_begins.ensures bytes o n store its).guarded

pub returns-clause-seen : goal.returns-clause-seen
returns-clause-seen c = λ bytes o n events store its bound seen.
    c.law_addresses_taken.ensures.below_views (beginning n bytes) o.tail.0 (opening_ghosts bytes o) events bound (opens_decided c.law_life_begins.ensures bytes o n store its) seen

pub returns-clause-first : goal.returns-clause-first
returns-clause-first c = λ bytes o n events store its commit.
    c.law_commits_decided.ensures.first (beginning n bytes) o.tail.0 (opening_ghosts bytes o) events commit (opens_decided c.law_life_begins.ensures bytes o n store its) (opens_seen o n its)

pub returns-clause-copied : goal.returns-clause-copied
returns-clause-copied c = λ bytes o n events store its commit.
    c.law_commits_decided.ensures.before_copies (beginning n bytes) o.tail.0 (opening_ghosts bytes o) events commit (opens_decided c.law_life_begins.ensures bytes o n store its) (opens_seen o n its)

pub returns-clause-end : goal.returns-clause-end
returns-clause-end c = λ bytes o n events store its commit.
    c.law_commits_decided.ensures.end (beginning n bytes) o.tail.0 (opening_ghosts bytes o) events commit (opens_decided c.law_life_begins.ensures bytes o n store its) (opens_seen o n its)

pub returns-clause-settled_first : goal.returns-clause-settled_first
returns-clause-settled_first c = λ bytes o n events store its commit.
    c.law_commits_settled.ensures.first (beginning n bytes) o.tail.0 (opening_ghosts bytes o) events commit (opens_decided c.law_life_begins.ensures bytes o n store its) (opens_seen o n its)

pub returns-clause-settled_end : goal.returns-clause-settled_end
returns-clause-settled_end c = λ bytes o n events store its commit.
    c.law_commits_settled.ensures.end (beginning n bytes) o.tail.0 (opening_ghosts bytes o) events commit (opens_decided c.law_life_begins.ensures bytes o n store its) (opens_seen o n its)
