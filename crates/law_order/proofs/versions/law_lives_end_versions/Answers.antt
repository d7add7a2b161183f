-- By what the sessions of an opened store have seen.
use Rattle.law_opening.specs.Below.fkv_core.Openings.{beginning}
use Rattle.law_order.proofs.versions.law_lives_end_versions.Goals as goal

pub returns-clause-ranks : goal.returns-clause-ranks
returns-clause-ranks c = λ bytes o n events store world event.
    c.law_versions_end.ensures.ranks (beginning n bytes) o.tail.0 events event (c.law_ends_open.ensures bytes o n store world)

pub returns-clause-live : goal.returns-clause-live
returns-clause-live c = λ bytes o n events session first its store world became version from.
    c.law_versions_end.ensures.live (beginning n bytes) o.tail.0 events version session first its (c.law_ends_open.ensures bytes o n store world) became from

pub returns-clause-gone : goal.returns-clause-gone
returns-clause-gone c = λ bytes o n events session first its store world became version later next from none now.
    c.law_versions_end.ensures.gone (beginning n bytes) o.tail.0 later events version session first its next (c.law_ends_open.ensures bytes o n store world) from became none now

pub returns-clause-owes : goal.returns-clause-owes
returns-clause-owes c = λ bytes o n events session first its store world became version pending zero.
    c.law_versions_end.ensures.owes (beginning n bytes) o.tail.0 events version session first its (c.law_ends_open.ensures bytes o n store world) became pending zero

pub returns-clause-left : goal.returns-clause-left
returns-clause-left c = λ bytes o n events session first its store world became version from.
    c.law_versions_end.ensures.left (beginning n bytes) o.tail.0 events version session first its (c.law_ends_open.ensures bytes o n store world) became from

pub returns-clause-before : goal.returns-clause-before
returns-clause-before c = λ bytes o n events session first its store world became.
    c.law_versions_end.ensures.before (beginning n bytes) o.tail.0 events session first its (c.law_ends_open.ensures bytes o n store world) became

pub returns-clause-latches : goal.returns-clause-latches
returns-clause-latches c = λ bytes o n events session first its store world became cause i catches latches.
    c.law_versions_end.ensures.latches (beginning n bytes) o.tail.0 events session first its cause i (c.law_ends_open.ensures bytes o n store world) became catches latches

pub returns-clause-points : goal.returns-clause-points
returns-clause-points c = λ bytes o n events session first its store world became version later from.
    c.law_versions_end.ensures.points (beginning n bytes) o.tail.0 later events version session first its (c.law_ends_open.ensures bytes o n store world) from became

pub returns-clause-splits : goal.returns-clause-splits
returns-clause-splits c = λ bytes o n events session first its store world became version from.
    c.law_versions_end.ensures.splits (beginning n bytes) o.tail.0 events version session first its (c.law_ends_open.ensures bytes o n store world) became from

pub returns-clause-begun : goal.returns-clause-begun
returns-clause-begun c = λ bytes o n events store world d begun.
    c.law_versions_end.ensures.begun (beginning n bytes) o.tail.0 events d (c.law_ends_open.ensures bytes o n store world) begun
