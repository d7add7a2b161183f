-- The law, by what stands at every moment.
use Rattle.fkv_latch.specs.LatchWorld.{latch_run}
use Rattle.fkv_latch.specs.Latched.{opening}
use Rattle.fkv_latch.proofs.Sound.{run_sound, opening_sound}
use Rattle.fkv_latch.proofs.Apart.{sound_apart, sound_counted}
use Rattle.fkv_latch.proofs.Places.{named_latch}
use Rattle.fkv_latch.proofs.laws.law_latched.Goals as goal

pub returns-clause-apart : goal.returns-clause-apart
returns-clause-apart c = λ places actors words events opened.
    sound_apart (latch_run (opening places actors words) events) (run_sound (opening places actors words) events (opening_sound places actors words opened))

pub returns-clause-counted : goal.returns-clause-counted
returns-clause-counted c = λ places actors words events opened.
    sound_counted (latch_run (opening places actors words) events) (run_sound (opening places actors words) events (opening_sound places actors words opened))

pub returns-clause-named : goal.returns-clause-named
returns-clause-named c = named_latch
