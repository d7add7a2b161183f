-- By what an opened store's life begins with.
use Rattle.law_opening.specs.Below.fkv_core.Openings.{beginning}
use Rattle.law_order.proofs.shares.law_shares_open.Goals as goal

pub returns-clause-meets : goal.returns-clause-meets
returns-clause-meets c = λ bytes o n events session place number first its cause store opens.
    let begins = c.law_life_begins.ensures bytes o n store opens in
    c.law_shares_not_missed.ensures.meets (beginning n bytes) o.tail.0 events session place number first its cause begins.store.now (c.law_latches_open.ensures o n opens)
    begins.rests

pub returns-clause-prepare : goal.returns-clause-prepare
returns-clause-prepare c = λ bytes o n events session first its store opens.
    let begins = c.law_life_begins.ensures bytes o n store opens in
    c.law_shares_not_missed.ensures.prepare (beginning n bytes) o.tail.0 events session first its begins.store.now (c.law_latches_open.ensures o n opens)
    begins.rests

pub returns-clause-alone : goal.returns-clause-alone
returns-clause-alone c = λ bytes o n events session place first its store opens.
    c.law_shares_not_missed.ensures.alone (beginning n bytes) o.tail.0 events session place first its (c.law_life_begins.ensures bytes o n store opens).store.now

pub returns-clause-tries : goal.returns-clause-tries
returns-clause-tries c = λ bytes o n events session first its store opens.
    c.law_shares_not_missed.ensures.tries (beginning n bytes) o.tail.0 events session first its (c.law_life_begins.ensures bytes o n store opens).store.now

pub returns-clause-leaves : goal.returns-clause-leaves
returns-clause-leaves c = λ bytes o n events session first its cause store opens.
    let begins = c.law_life_begins.ensures bytes o n store opens in
    c.law_shares_not_missed.ensures.leaves (beginning n bytes) o.tail.0 events session first its cause begins.store.now
    begins.rests

pub returns-clause-only : goal.returns-clause-only
returns-clause-only c = λ bytes o n events session first its store opens.
    let begins = c.law_life_begins.ensures bytes o n store opens in
    c.law_shares_not_missed.ensures.only (beginning n bytes) o.tail.0 events session first its begins.store.now
    begins.rests

pub returns-clause-since : goal.returns-clause-since
returns-clause-since c = λ bytes o n events session first its store opens.
    let begins = c.law_life_begins.ensures bytes o n store opens in
    c.law_shares_not_missed.ensures.since (beginning n bytes) o.tail.0 events session first its begins.store.now (c.law_latches_open.ensures o n opens)
    begins.rests

pub returns-clause-just : goal.returns-clause-just
returns-clause-just c = λ bytes o n events session first its store opens.
    let begins = c.law_life_begins.ensures bytes o n store opens in
    c.law_shares_not_missed.ensures.just (beginning n bytes) o.tail.0 events session first its begins.store.now (c.law_latches_open.ensures o n opens)
    begins.rests

pub returns-clause-older : goal.returns-clause-older
returns-clause-older c = λ bytes o n events session first its store opens.
    let begins = c.law_life_begins.ensures bytes o n store opens in
    c.law_shares_not_missed.ensures.older (beginning n bytes) o.tail.0 events session first its begins.store.now (c.law_latches_open.ensures o n opens)
    begins.rests
