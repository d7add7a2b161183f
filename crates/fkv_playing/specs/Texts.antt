-- What is printed of what the engine tells.
use Rattle.std.specs.Prelude.{ℕ, List, [], Option, Some, None, Result, Ok, Err, slice_get}
use Rattle.fkv_base.specs.declared.faults.Fault.{Fault}
use Rattle.fkv_base.specs.declared.numbers.Key.{Key}
use Rattle.fkv_base.specs.declared.numbers.Version.{Version}
use Rattle.fkv_base.specs.declared.phases.Phase.{Phase}
use Rattle.fkv_base.specs.declared.phases.Phase.TheVariants.{Rest}
use Rattle.fkv_core.specs.declared.events.Told.{Told}
use Rattle.fkv_core.specs.declared.events.Told.TheVariants.{Session, Commit, Turn}
use Rattle.fkv_keeper.specs.declared.answers.Turn as turns
use Rattle.fkv_map.specs.declared.operations.Call.{Call}
use Rattle.fkv_plane.specs.Asked.{word_at}
use Rattle.fkv_plane.specs.Places.{shared_place}
use Rattle.fkv_plane.specs.declared.places.SharedWord.TheVariants as shared
use Rattle.fkv_session.specs.declared.answers.Answer.{Answer}
use Rattle.fkv_texts.specs.Keeper.{commit_text, finished_by_turn, turn_text}
use Rattle.fkv_texts.specs.Polls.{finished_lines}
use Rattle.fkv_texts.specs.Refusals.{keeper_refusal}
use Rattle.fkv_texts.specs.Sessions.{finished_by, session_text}
use Rattle.fkv_words.specs.PhaseWords.{phase_said}
use Rattle.fkv_words.specs.declared.phase_words.PhaseSaid.{PhaseSaid}
use Rattle.fkv_words.specs.declared.phase_words.PhaseSaid.TheVariants.{Says, Spoiled}
use Rattle.fkv_world.specs.World.{Now}
use Rattle.fkv_playing.specs.Seats.{SeatState}
use Rattle.fkv_playing.specs.declared.calls.Telling.{Telling}
use Rattle.fkv_playing.specs.declared.calls.Telling.TheVariants.{Whole, Finished}

-- the phase and the version that the phase word says
abbrev pub phase_told : PhaseSaid → Phase × Version
phase_told (Says phase version) = (phase, version)
phase_told Spoiled = (Rest, record { 0 = 0 })

abbrev pub phase_shown : Now → Phase × Version
phase_shown n = phase_told (phase_said (word_at n.words (shared_place shared.Phase)))

-- an answer to a session's call: the whole of it, or what it has finished alone
abbrev pub answer_told : Telling → ℕ → Call → Answer → Option SeatState → List ℕ
answer_told telling number call answer None = []
answer_told Whole number call answer (Some seat) = session_text number call seat.waiting answer
answer_told Finished number call answer (Some seat) = finished_lines number seat.waiting (finished_by answer)

-- a turn: the whole of it with the keys that a sweep wants, or what it has finished alone; a refusal is told always
abbrev pub turn_told : Telling → Phase × Version → List Key → Result turns.Turn Fault → List ℕ
turn_told Whole phase wanted its = turn_text phase.0 phase.1 wanted its
turn_told Finished phase wanted (Ok turn) = finished_by_turn turn.finished
turn_told Finished phase wanted (Err fault) = keeper_refusal fault

-- what is printed of what a step has told of this call, before these seats, behind it in this world; nothing where it told nothing
abbrev pub text_of : Telling → Call → List SeatState → Now → Told → List ℕ
text_of telling call seats n (Session number answer) = answer_told telling number call answer (slice_get seats number)
text_of telling call seats n (Commit begun) = commit_text begun
text_of telling call seats n (Turn its) = turn_told telling (phase_shown n) n.keeper.sweep.wanted its

abbrev pub text_heard : Telling → Call → List SeatState → Now → Option Told → List ℕ
text_heard telling call seats n None = []
text_heard telling call seats n (Some told) = text_of telling call seats n told
