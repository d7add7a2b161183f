-- By the log with which the life of an opened store begins.
use Rattle.law_opening.specs.Below.fkv_core.Openings.{beginning}
use Rattle.law_opening.specs.Log.OpeningLog.{opening_ghosts}
use Rattle.law_order.proofs.versions.law_lives_bound_versions.Goals as goal

pub returns-clause-requests : goal.returns-clause-requests
returns-clause-requests c = λ bytes o n events session first its store world became.
    let opens = c.law_versions_open.ensures bytes o n store world in
    c.law_versions_bounded.ensures.requests (beginning n bytes) o.tail.0 events session first its opens.guarded opens.rests became

pub returns-clause-reserves : goal.returns-clause-reserves
returns-clause-reserves c = λ bytes o n events store world event.
    let opens = c.law_versions_open.ensures bytes o n store world in
    c.law_versions_bounded.ensures.reserves (beginning n bytes) o.tail.0 events event opens.guarded

pub returns-clause-between : goal.returns-clause-between
returns-clause-between c = λ bytes o n events store world event.
    let opens = c.law_versions_open.ensures bytes o n store world in
    c.law_versions_bounded.ensures.between (beginning n bytes) o.tail.0 events event opens.guarded opens.opened opens.rests

pub returns-clause-cells : goal.returns-clause-cells
returns-clause-cells c = λ bytes o n events store world.
    c.law_versions_bounded.ensures.cells (beginning n bytes) o.tail.0 (opening_ghosts bytes o) events (c.law_versions_open.ensures bytes o n store world)

pub returns-clause-always : goal.returns-clause-always
returns-clause-always c = λ bytes o n events store world event later earlier is.
    c.law_versions_bounded.ensures.always (beginning n bytes) o.tail.0 (opening_ghosts bytes o) events event later earlier (c.law_versions_open.ensures bytes o n store world) is

pub returns-clause-from_first : goal.returns-clause-from_first
returns-clause-from_first c = λ bytes o n events store world.
    c.law_versions_bounded.ensures.from_first (beginning n bytes) o.tail.0 (opening_ghosts bytes o) events (c.law_versions_open.ensures bytes o n store world)

pub returns-clause-keeps : goal.returns-clause-keeps
returns-clause-keeps c = λ bytes o n events store world later.
    let opens = c.law_versions_open.ensures bytes o n store world in
    c.law_versions_bounded.ensures.keeps (beginning n bytes) o.tail.0 (opening_ghosts bytes o) later events opens.guarded

pub returns-clause-older : goal.returns-clause-older
returns-clause-older c = λ bytes o n events store world session first its became.
    c.law_versions_bounded.ensures.older (beginning n bytes) o.tail.0 (opening_ghosts bytes o) events session first its (c.law_versions_open.ensures bytes o n store world) became

pub returns-clause-effects : goal.returns-clause-effects
returns-clause-effects c = λ bytes o n events session first its store world became.
    let opens = c.law_versions_open.ensures bytes o n store world in
    c.law_points_split.ensures.effects (beginning n bytes) o.tail.0 events session first its opens.guarded opens.rests became

pub returns-clause-points : goal.returns-clause-points
returns-clause-points c = λ bytes o n events session first its store world became.
    let opens = c.law_versions_open.ensures bytes o n store world in
    c.law_points_split.ensures.points (beginning n bytes) o.tail.0 events session first its opens.guarded opens.rests became
