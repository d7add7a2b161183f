-- The law, by what stands between events.
use Rattle.std.proofs.Common.{length}
use Rattle.fkv_latch.specs.Latched.{opening}
use Rattle.fkv_latch.proofs.Shown.{run_sound, opening_sound, sound_apart, sound_counted}
use Rattle.law_world.specs.Below.fkv_world.Runs.{run}
use Rattle.law_refine.specs.Latches.LatchEvents.{mapped}
use Rattle.law_refine.specs.Latches.Shows.{seen_by_latches}
use Rattle.law_refine.proofs.OfLatches.Apart.{holds_shows, holds_apart}
use Rattle.law_refine.proofs.OfLatches.Permitted.{are_permitted, life_holds}
use Rattle.law_refine.proofs.latches.law_world_latched.Goals as goal

pub returns-clause-permitted : goal.returns-clause-permitted
returns-clause-permitted c = λ first events opened. are_permitted first events opened

pub returns-clause-shows : goal.returns-clause-shows
returns-clause-shows c = λ first events opened. holds_shows (run first events).now (seen_by_latches first events) (life_holds first events opened)

pub returns-clause-apart : goal.returns-clause-apart
returns-clause-apart c = λ first events opened. holds_apart (run first events).now (seen_by_latches first events) (life_holds first events opened)

pub returns-clause-latched : goal.returns-clause-latched
returns-clause-latched c = λ first events opened.
    sound_apart (seen_by_latches first events) (run_sound (opening first.now.places (length first.now.sessions) first.now.words) (mapped first events) (opening_sound first.now.places (length first.now.sessions) first.now.words opened.latches))

pub returns-clause-counted : goal.returns-clause-counted
returns-clause-counted c = λ first events opened.
    sound_counted (seen_by_latches first events) (run_sound (opening first.now.places (length first.now.sessions) first.now.words) (mapped first events) (opening_sound first.now.places (length first.now.sessions) first.now.words opened.latches))
