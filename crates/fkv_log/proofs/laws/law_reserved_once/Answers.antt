-- No address is given twice, and none past the limit.
use Rattle.fkv_log.specs.Reserved.{tail_of, tail_run, opening}
use Rattle.fkv_log.proofs.Reserved.{run_sound, opening_sound, each_once}
use Rattle.fkv_log.proofs.laws.law_reserved_once.Goals as goal

pub returns-clause-once : goal.returns-clause-once
returns-clause-once c = λ room actors words events opened.
    let w = tail_run (opening room actors words) events in
    each_once (tail_of words) (tail_of w.now.words) w.reserved (run_sound (tail_of words) (opening room actors words) events (opening_sound room actors words opened)).rises

pub returns-clause-rising : goal.returns-clause-rising
returns-clause-rising c = λ room actors words events opened.
    (run_sound (tail_of words) (opening room actors words) events (opening_sound room actors words opened)).rises

pub returns-clause-below : goal.returns-clause-below
returns-clause-below c = λ room actors words events opened.
    (run_sound (tail_of words) (opening room actors words) events (opening_sound room actors words opened)).below
