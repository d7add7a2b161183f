-- The pieces of a script begin few calls, since its lines are few.
use Rattle.std.proofs.Common.{◌≡◌, ◌≤◌, ◌+◌, ◌*◌, ℕ, zero, suc, List, [], ◌∷◌, Bool, ap, arith, length, take}
use Rattle.std.specs.List.{flat_map}
use Rattle.std.specs.Prelude.{Ok}
use Rattle.std.proofs.lemmas.List.{length-append, length-map, length-replicate}
use Rattle.fkv_lines.specs.Script.{ScriptText, script_of}
use Rattle.fkv_lines.specs.Words.{lines_of as script_lines, most_lines}
use Rattle.fkv_lines.specs.declared.scripts.Line.{Line}
use Rattle.fkv_lines.specs.declared.scripts.Mode.{Mode}
use Rattle.fkv_map.specs.declared.history.HistoryEntry.{HistoryEntry}
use Rattle.fkv_opening.specs.declared.opened_store.Opened.{Opened}
use Rattle.fkv_playing.specs.Players.{PlayerState}
use Rattle.fkv_playing.specs.Seats.{SeatState, first_seat}
use Rattle.fkv_runs.specs.Openings.{Begins}
use Rattle.fkv_runs.specs.Pieces.{ArePieces, line_of, lines_of}
use Rattle.fkv_runs.specs.declared.pieces.Piece.{Piece}
use Rattle.fkv_runs.specs.declared.pieces.Piece.TheVariants.{Group, Finish, Crash, CrashAt, FailAt}
use Rattle.law_program.specs.PlayedCalls.FewCalls.{HasFewSeats, HasFewWith, begun_in, begun_in_all, most_of_finish}
use Rattle.fkv.proofs.ScriptFits.{script_few}

-- ---- its lines
abbrev pub AreFewLines : List Line → Type 0
AreFewLines lines = length lines ≤ most_lines + 1

pub few_lines : (mode : Mode) (bytes : List ℕ) (script : ScriptText) → script_of mode bytes ≡ Ok script → AreFewLines script.lines
unfolding script_of
few_lines mode bytes script said = script_few mode 1 (script_lines bytes) script said

-- ---- its pieces
piece_counted : (piece : Piece) → begun_in piece ≤ most_of_finish * length (lines_of piece)
piece_counted (Group calls) = let many = length-map calls.items line_of in omega (arith, many)
piece_counted Finish = omega arith
piece_counted Crash = omega arith
piece_counted (CrashAt count) = omega arith
piece_counted (FailAt count) = omega arith

pieces_counted : (pieces : List Piece) → begun_in_all pieces ≤ most_of_finish * length (flat_map lines_of pieces)
pieces_counted [] = omega arith
pieces_counted (piece ∷ later) =
    let here = piece_counted piece in
    let there = pieces_counted later in
    let both = length-append (lines_of piece) (flat_map lines_of later) in
    omega (arith, here, there, both)

taken_counted : (count : ℕ) (pieces : List Piece) → begun_in_all (take count pieces) ≤ begun_in_all pieces
taken_counted zero pieces = omega arith
taken_counted (suc count) [] = omega arith
taken_counted (suc count) (piece ∷ later) = let rest = taken_counted count later in omega (arith, rest)

pub few_pieces : (interleaved : Bool) (lines : List Line) (pieces : List Piece) (count : ℕ) → AreFewLines lines → ArePieces interleaved lines pieces → HasFewWith [] (take count pieces)
few_pieces interleaved lines pieces count few are =
    let taken = taken_counted count pieces in
    let all = pieces_counted pieces in
    let same = ap length are.joined in
    omega (arith, taken, all, same, few)

-- ---- its seats
abbrev pub seats_in : {D : Type 0} → PlayerState D → List SeatState
seats_in player = player.seats

pub few_seats : {D : Type 0} (opened : Opened) (device : D) (history : List HistoryEntry) (keeps_history : Bool) (player : PlayerState D) → Begins opened device history keeps_history player → HasFewSeats player
few_seats {D} opened device history keeps_history player begins =
    let same = ap (λ (x : PlayerState D). length x.seats) begins.same in
    let many = length-replicate opened.shape.sessions first_seat in
    let few = opened.shape.limits.few_sessions in
    omega (arith, same, many, few)
