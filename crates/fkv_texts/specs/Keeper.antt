-- What the keeper's lines write.
use Rattle.std.specs.Prelude.{ℕ, List, [], ◌++◌, codes, Bool, true, false, Option, Some, None, Result, Ok, Err}
use Rattle.std.specs.Fmt.{decimal}
use Rattle.fkv_base.specs.declared.faults.Fault.{Fault}
use Rattle.fkv_base.specs.declared.numbers.Key.{Key}
use Rattle.fkv_base.specs.declared.phases.Phase.{Phase}
use Rattle.fkv_base.specs.declared.numbers.Version.{Version}
use Rattle.fkv_keeper.specs.declared.answers.Finished.{Finished}
use Rattle.fkv_keeper.specs.declared.answers.Turn.{Turn}
use Rattle.fkv_texts.specs.Lines.{keeper_line, keys_text, line_of, phase_text, points_text}
use Rattle.fkv_texts.specs.Refusals.{keeper_refusal}

-- `k commit 1`, or its refusal
abbrev pub commit_text : Result Version Fault → List ℕ
commit_text (Ok number) = keeper_line (codes "commit " ++ decimal number.0)
commit_text (Err fault) = keeper_refusal fault

-- `k finished 1 points 2 3`
abbrev pub finished_commit_text : Finished → List ℕ
finished_commit_text commit =
    keeper_line (codes "finished " ++ decimal commit.number.0 ++ codes " points" ++ points_text commit.points.items)

-- the line of the commit that a turn has finished, if it has finished one
abbrev pub finished_by_turn : Option Finished → List ℕ
finished_by_turn (Some commit) = finished_commit_text commit
finished_by_turn None = []

-- ` drain full`, where a part of the turn was left to a later one since no drain slot was free
abbrev pub drain_text : Bool → List ℕ
drain_text true = codes " drain full"
drain_text false = []

-- ` wants 7 9`: the keys that a sweep of the log's front has found wanted; nothing where there are none
abbrev pub wants_text : List Key → List ℕ
wants_text [] = []
wants_text wanted = codes " wants" ++ keys_text wanted

-- `k turn prepare 1`, with the phase and the version of the phase word after the turn, and a full drain behind it
abbrev pub turn_head : Phase → Version → Bool → List ℕ
turn_head phase version drain_full = codes "k turn" ++ phase_text phase version ++ drain_text drain_full

-- and behind those the keys that a sweep wants
abbrev pub turn_line : Phase → Version → Bool → List Key → List ℕ
turn_line phase version drain_full wanted = line_of (turn_head phase version drain_full ++ wants_text wanted)

-- the line of a turn, and behind it that of the commit that it has finished; or the refusal
abbrev pub turn_text : Phase → Version → List Key → Result Turn Fault → List ℕ
turn_text phase version wanted (Ok turn) = turn_line phase version turn.drain_full wanted ++ finished_by_turn turn.finished
turn_text phase version wanted (Err fault) = keeper_refusal fault

-- the answer to a finish where no commit runs, and where its rounds were not enough
abbrev pub nothing_to_finish : List ℕ
nothing_to_finish = keeper_line (codes "finish nothing")

abbrev pub not_finished : List ℕ
not_finished = keeper_line (codes "finish not finished")
