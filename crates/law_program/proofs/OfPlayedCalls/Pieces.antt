-- The pieces of lines of operations, where none is interleaved: each is a group of one call.
use Rattle.std.proofs.Common.{◌≡◌, ◌≢◌, ℕ, zero, suc, List, [], ◌∷◌, ◌++◌, ap, length, map, refl}
use Rattle.std.specs.List.{flat_map}
use Rattle.std.specs.Prelude.{Some, slice_get, ⊤}
use Rattle.fkv_lines.specs.declared.scripts.Line.{Line}
use Rattle.fkv_map.specs.declared.operations.Call.TheVariants as call
use Rattle.fkv_runs.specs.Below.fkv_playing.ActorCall.{ActorCall}
use Rattle.fkv_runs.specs.Below.fkv_playing.ActorCall.TheVariants.{Session, Commit, Trim, Turn}
use Rattle.fkv_runs.specs.Pieces.{IsAlone, line_of, lines_of}
use Rattle.fkv_runs.specs.declared.pieces.Piece.{Piece}
use Rattle.fkv_runs.specs.declared.pieces.Piece.TheVariants.{Group, Finish, Crash, CrashAt, FailAt}
use Rattle.law_program.specs.PlayedCalls.Scripts.{ArePiecesOf, SessionOp, op_line}

-- a piece is the line of this operation
abbrev pub IsOperation : Piece → SessionOp → Type 0
IsOperation (Group calls) one = calls.items ≡ Session one.0 (call.Op one.1) ∷ []
IsOperation other one = ⊥

-- so is each of these
abbrev pub AreOperations : List Piece → List SessionOp → Type 0
AreOperations [] [] = ⊤
AreOperations (piece ∷ later) (one ∷ others) = IsOperation piece one × AreOperations later others
AreOperations pieces ops = ⊥

-- ---- one piece
its_call : (its : ActorCall) (one : SessionOp) → line_of its ≡ op_line one → its ≡ Session one.0 (call.Op one.1)
its_call (Session number asked) one same = cc
its_call (Commit kind) one same = cc
its_call Trim one same = cc
its_call Turn one same = cc

-- the first of these lines is the piece's, and the others come behind it
pub record IsFirst (piece : Piece) (one : SessionOp) (behind others : List Line) : Type 0 where
  pub its : IsOperation piece one
  pub rest : behind ≡ others

first_call : (calls : List ActorCall) (one : SessionOp) (behind others : List Line) → length calls ≡ 1 → map line_of calls ++ behind ≡ op_line one ∷ others → (calls ≡ Session one.0 (call.Op one.1) ∷ []) × (behind ≡ others)
first_call [] one behind others alone same = cc
first_call (its ∷ []) one behind others alone same =
    let here : line_of its ≡ op_line one = cc in
    (ap (λ (x : ActorCall). x ∷ []) (its_call its one here), cc)
first_call (its ∷ next ∷ later) one behind others alone same = cc

first_piece : (piece : Piece) (one : SessionOp) (behind others : List Line) → IsAlone piece → lines_of piece ++ behind ≡ op_line one ∷ others → IsFirst piece one behind others
first_piece (Group calls) one behind others alone same = let its = first_call calls.items one behind others alone same in record { its = its.0; rest = its.1 }
first_piece Finish one behind others alone same = cc
first_piece Crash one behind others alone same = cc
first_piece (CrashAt count) one behind others alone same = cc
first_piece (FailAt count) one behind others alone same = cc

no_piece : (lines behind : List Line) → lines ≢ [] → lines ++ behind ≡ [] → ⊥
no_piece [] behind filled same = filled refl
no_piece (one ∷ later) behind filled same = cc

-- ---- all of them
pub operations_of : (pieces : List Piece) (ops : List SessionOp) → flat_map lines_of pieces ≡ map op_line ops → ((at : ℕ) (piece : Piece) → slice_get pieces at ≡ Some piece → IsAlone piece)
    → ((at : ℕ) (piece : Piece) → slice_get pieces at ≡ Some piece → lines_of piece ≢ []) → AreOperations pieces ops
operations_of [] [] joined alone filled = tt
operations_of [] (one ∷ others) joined alone filled = cc
operations_of (piece ∷ later) [] joined alone filled = absurd (no_piece (lines_of piece) (flat_map lines_of later) (filled zero piece refl) joined)
operations_of (piece ∷ later) (one ∷ others) joined alone filled =
    let first = first_piece piece one (flat_map lines_of later) (map op_line others) (alone zero piece refl) joined in
    (first.its, operations_of later others first.rest (λ at its found. alone (suc at) its found) (λ at its found. filled (suc at) its found))

pub operations : (ops : List SessionOp) (pieces : List Piece) → ArePiecesOf ops pieces → AreOperations pieces ops
operations ops pieces are = operations_of pieces ops are.joined (are.alone refl) are.filled
