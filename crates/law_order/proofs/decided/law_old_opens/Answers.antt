-- By what stays of the opened log, and by the versions of what is new.
use Rattle.std.proofs.Common.{arith, ap}
use Rattle.fkv_base.specs.declared.numbers.Addr.{Addr}
use Rattle.law_opening.specs.Below.fkv_core.Openings.{beginning}
use Rattle.law_opening.specs.Below.fkv_pairs.Pairs.{log_of_store}
use Rattle.law_opening.specs.Log.OpeningLog.{opening_ghosts, opening_log}
use Rattle.law_order.proofs.OfDecided.Cut.{opened_tail}
use Rattle.law_order.proofs.OfDecided.Old.{is_later, keeps_counted, keeps_lost}
use Rattle.law_order.proofs.OfRules.Versions.{opened_version}
use Rattle.law_order.specs.Decided.Cut.{log_beside}
use Rattle.law_order.proofs.decided.law_old_opens.Goals as goal

pub returns-clause-before : goal.returns-clause-before
returns-clause-before c = λ bytes o n events store its.
    let life = c.law_life_begins.ensures bytes o n store its in
    let end = ap (λ (t : Addr). t.0) store.tells.tail in
    let first = opened_tail o n its in
    keeps_counted (log_of_store bytes o store) (opening_log bytes o) (log_beside o n bytes events) (c.law_log_counted.ensures bytes o store)
    (λ h a low. c.law_chains_below.ensures.old (beginning n bytes) o.tail.0 (opening_ghosts bytes o) events h a life.store.now life.reserves (omega (arith, low, end, first)))
    (λ a low. c.law_lives_change_published.ensures.old o n bytes events a store its (omega (arith, low, end)))

pub returns-clause-later : goal.returns-clause-later
returns-clause-later c = λ bytes o n events store its.
    let opens = c.law_versions_open.ensures bytes o n store its in
    let end = ap (λ (t : Addr). t.0) store.tells.tail in
    let first = opened_tail o n its in
    is_later (log_of_store bytes o store) (log_beside o n bytes events) o.tail.0 o.number.0 end store.tells.number
    (λ a version high made.
    let low = c.law_versions_bounded.ensures.from_first (beginning n bytes) o.tail.0 (opening_ghosts bytes o) events opens a version (omega (arith, high, first)) made in
    let said = opened_version o n its opens.rests in
    omega (arith, low, said))

pub returns-clause-made : goal.returns-clause-made
returns-clause-made c = λ bytes o n events store its a version high made.
    let opens = c.law_versions_open.ensures bytes o n store its in
    let end = ap (λ (t : Addr). t.0) store.tells.tail in
    let first = opened_tail o n its in
    let low = c.law_versions_bounded.ensures.from_first (beginning n bytes) o.tail.0 (opening_ghosts bytes o) events opens a version (omega (arith, high, end, first)) made in
    let said = opened_version o n its opens.rests in
    let number = store.tells.number in
    omega (arith, low, said, number)

pub returns-clause-loses : goal.returns-clause-loses
returns-clause-loses c = λ bytes o n events store its.
    let life = c.law_life_begins.ensures bytes o n store its in
    let end = ap (λ (t : Addr). t.0) store.tells.tail in
    let first = opened_tail o n its in
    keeps_lost (log_of_store bytes o store) (opening_log bytes o) (log_beside o n bytes events)
    (λ h a low. c.law_chains_below.ensures.old (beginning n bytes) o.tail.0 (opening_ghosts bytes o) events h a life.store.now life.reserves (omega (arith, low, end, first)))
