-- The laws, by what the words of an opened store show.
use Rattle.law_opening.specs.Below.fkv_core.Openings.{beginning}
use Rattle.law_opening.proofs.OfChanges.OfMails.Life.{its_seat}
use Rattle.law_order.proofs.opened.law_marks_open.Goals as goal

pub returns-clause-marks : goal.returns-clause-marks
returns-clause-marks c = λ bytes o n events session first its store world became place mark.
    c.law_marks_stand.ensures.session (beginning n bytes) events session first its place became (c.law_cuts_open.ensures.words o n world) mark

pub returns-clause-durable : goal.returns-clause-durable
returns-clause-durable c = λ bytes o n events session first its store world became.
    let life = c.law_life_begins.ensures bytes o n store world in
    c.law_marks_stand.ensures.durable (beginning n bytes) events session became.opened (c.law_cuts_open.ensures.words o n world) (its_seat (beginning n bytes) o.tail.0 events session its life.store.now became.is_now)

pub returns-clause-points : goal.returns-clause-points
returns-clause-points c = λ bytes o n events session first its store world became.
    let life = c.law_life_begins.ensures bytes o n store world in
    c.law_durable_stands.ensures (beginning n bytes) events session became.opened (c.law_cuts_open.ensures.words o n world) (c.law_cuts_open.ensures.durable o n world) (its_seat (beginning n bytes) o.tail.0 events session its life.store.now became.is_now)

pub returns-clause-told : goal.returns-clause-told
returns-clause-told c = λ bytes o n events session first its store world became.
    c.law_cuts_stand.ensures.always (beginning n bytes) events session first its became (c.law_cuts_open.ensures.words o n world) (c.law_cuts_open.ensures.cuts o n world)

pub returns-clause-left : goal.returns-clause-left
returns-clause-left c = λ bytes o n events session first its store world became.
    let life = c.law_life_begins.ensures bytes o n store world in
    c.law_cuts_stand.ensures.left (beginning n bytes) o.tail.0 events session first its became life.store.now (c.law_phases_open.ensures.rests o n world)

pub returns-clause-asleep : goal.returns-clause-asleep
returns-clause-asleep c = λ bytes o n events session first its store world became asleep other.
    c.law_cuts_stand.ensures.asleep (beginning n bytes) events session first its became (c.law_cuts_open.ensures.words o n world) asleep other

pub returns-clause-serials : goal.returns-clause-serials
returns-clause-serials c = λ bytes o n events session first its store world became place cut.
    c.law_cuts_stand.ensures.serials (beginning n bytes) events session first its place became (c.law_cuts_open.ensures.words o n world) (c.law_cuts_open.ensures.cuts o n world) cut
