use Rattle.std.proofs.Common.{◌≡◌, List, ℕ, ◌++◌, sym, subst, Option, Some, Result, Ok}
use Rattle.std.proofs.lemmas.Result.{on_ok_weaker}
use Rattle.std.specs.Io.KnownBytes.{Appends}
use Rattle.fkv_base.specs.declared.faults.Fault.{Fault}
use Rattle.fkv_base.specs.declared.numbers.Key.{Key}
use Rattle.fkv_base.specs.declared.numbers.Version.{Version}
use Rattle.fkv_base.specs.declared.phases.Phase.{Phase}
use Rattle.fkv_keeper.specs.declared.answers.Finished.{Finished}
use Rattle.fkv_keeper.specs.declared.answers.Turn.{Turn}
use Rattle.fkv_texts.specs.Keeper.{turn_line, turn_text, finished_by_turn, finished_commit_text}
use Rattle.fkv_texts.proofs.Appending.{appends_both}
use Rattle.fkv_texts.proofs.keeper.write_turn.Goals as goal

-- the line of a turn and behind it that of its commit are its text
turn_written : (a b c : Option (List ℕ)) (phase : Phase) (version : Version) (wanted : List Key) (told : Result Turn Fault) (turn : Turn) (commit : Finished)
    → told ≡ Ok turn → turn.finished ≡ Some commit → Appends a b (turn_line phase version turn.drain_full wanted) → Appends b c (finished_commit_text commit)
    → Appends a c (turn_text phase version wanted told)
turn_written a b c phase version wanted told turn commit e f h k =
    subst (λ (its : Result Turn Fault). Appends a c (turn_text phase version wanted its)) (sym e)
    (subst (λ (its : Option Finished). Appends a c (turn_line phase version turn.drain_full wanted ++ finished_by_turn its)) (sym f)
    (appends_both a b c (turn_line phase version turn.drain_full wanted) (finished_commit_text commit) h k))

pub returns-in-Some : goal.returns-in-Some
returns-in-Some g c =
    on_ok_weaker c.write_finished_commit.result
    (λ written. turn_written _ _ _ c.args.phase c.args.version c.args.wanted.now c.args.turn.now c.in-Ok.turn c.in-Some.commit c.in-Ok.is c.in-Some.is c.in_ok-write_turn_line-in-Ok.ensures written)
    c.write_finished_commit.ensures
