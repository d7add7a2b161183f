-- By the latches of an opened store, of which none is held.
use Rattle.law_opening.specs.Below.fkv_core.Openings.{beginning}
use Rattle.law_order.proofs.shares.law_lives_count_shares.Goals as goal

pub returns-clause-permitted : goal.returns-clause-permitted
returns-clause-permitted c = λ bytes o n events store world. c.law_world_latched.ensures.permitted (beginning n bytes) events (c.law_latches_open.ensures o n world)

pub returns-clause-shows : goal.returns-clause-shows
returns-clause-shows c = λ bytes o n events store world. c.law_world_latched.ensures.shows (beginning n bytes) events (c.law_latches_open.ensures o n world)

pub returns-clause-apart : goal.returns-clause-apart
returns-clause-apart c = λ bytes o n events store world. c.law_world_latched.ensures.apart (beginning n bytes) events (c.law_latches_open.ensures o n world)

pub returns-clause-latched : goal.returns-clause-latched
returns-clause-latched c = λ bytes o n events store world. c.law_world_latched.ensures.latched (beginning n bytes) events (c.law_latches_open.ensures o n world)

pub returns-clause-counted : goal.returns-clause-counted
returns-clause-counted c = λ bytes o n events store world. c.law_world_latched.ensures.counted (beginning n bytes) events (c.law_latches_open.ensures o n world)

pub returns-clause-shares : goal.returns-clause-shares
returns-clause-shares c = λ bytes o n events store world session s at. c.law_latched_in_tries.ensures.shares (beginning n bytes) events session s (c.law_latches_open.ensures o n world) at

pub returns-clause-beside_none : goal.returns-clause-beside_none
returns-clause-beside_none c = λ bytes o n events store world place i j s t at_i at_j alone.
    c.law_latched_in_tries.ensures.beside_none (beginning n bytes) events place i j s t (c.law_latches_open.ensures o n world) at_i at_j alone
