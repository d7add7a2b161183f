-- By the points of an opened store's newest commit, and by what its words show.
use Rattle.law_opening.specs.Below.fkv_core.Openings.{beginning}
use Rattle.law_order.proofs.versions.law_lives_take_points.Goals as goal

pub returns-clause-shown : goal.returns-clause-shown
returns-clause-shown c = λ bytes o n events session first its store world became version pending.
    c.law_cuts_show_points.ensures (beginning n bytes) o.tail.0 events version session first its (c.law_ends_open.ensures bytes o n store world) (c.law_cuts_open.ensures.cuts o n world) became pending

pub returns-clause-cuts : goal.returns-clause-cuts
returns-clause-cuts c = λ bytes o n events session first its store world became version later pending then.
    c.law_points_taken.ensures.cuts (beginning n bytes) o.tail.0 later events version session first its (c.law_ends_open.ensures bytes o n store world) became pending then

pub returns-clause-taken : goal.returns-clause-taken
returns-clause-taken c = λ bytes o n events store world d in_hand has.
    c.law_points_taken.ensures.taken (beginning n bytes) o.tail.0 events d (c.law_points_open.ensures bytes o n store world) in_hand has

pub returns-clause-begun : goal.returns-clause-begun
returns-clause-begun c = λ bytes o n events store world d begun.
    c.law_points_taken.ensures.begun (beginning n bytes) o.tail.0 events d (c.law_points_open.ensures bytes o n store world) begun

pub returns-clause-in_hand : goal.returns-clause-in_hand
returns-clause-in_hand c = λ bytes o n events store world.
    c.law_points_taken.ensures.in_hand (beginning n bytes) o.tail.0 events (c.law_points_open.ensures bytes o n store world)

pub returns-clause-last : goal.returns-clause-last
returns-clause-last c = λ bytes o n events store world.
    c.law_points_taken.ensures.last (beginning n bytes) o.tail.0 events (c.law_points_open.ensures bytes o n store world)

pub returns-clause-risen : goal.returns-clause-risen
returns-clause-risen c = λ bytes o n events store world d session in_hand has.
    c.law_points_taken.ensures.risen (beginning n bytes) o.tail.0 events d session (c.law_points_open.ensures bytes o n store world) in_hand has

pub returns-clause-since : goal.returns-clause-since
returns-clause-since c = λ bytes o n events store world d session in_hand.
    c.law_points_between.ensures.since (beginning n bytes) o.tail.0 events d session (c.law_ends_open.ensures bytes o n store world) in_hand

pub returns-clause-given : goal.returns-clause-given
returns-clause-given c = λ bytes o n events store world session version.
    c.law_points_between.ensures.given (beginning n bytes) o.tail.0 events session version (c.law_ends_open.ensures bytes o n store world)
