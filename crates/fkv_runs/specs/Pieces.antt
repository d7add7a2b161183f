-- The pieces of a script.
use Rattle.std.specs.Prelude.{◌≡◌, ◌≢◌, ℕ, suc, Bool, true, false, List, [], ◌∷◌, map, length, Some, slice_get}
use Rattle.std.specs.List.{flat_map}
use Rattle.fkv_lines.specs.declared.scripts.Line.{Line}
use Rattle.fkv_lines.specs.declared.scripts.Line.TheVariants as line
use Rattle.fkv_playing.specs.declared.calls.ActorCall.{ActorCall}
use Rattle.fkv_playing.specs.declared.calls.ActorCall.TheVariants.{Session, Commit, Trim, Turn}
use Rattle.fkv_runs.specs.declared.pieces.Piece.{Piece}
use Rattle.fkv_runs.specs.declared.pieces.Piece.TheVariants.{Group, Finish, Crash, CrashAt, FailAt}

-- the line of a call
abbrev pub line_of : ActorCall → Line
line_of (Session number call) = line.Call number call
line_of (Commit kind) = line.Commit kind
line_of Trim = line.Trim
line_of Turn = line.Turn

-- the lines of a piece
abbrev pub lines_of : Piece → List Line
lines_of (Group calls) = map line_of calls.items
lines_of Finish = line.Finish ∷ []
lines_of Crash = line.Crash ∷ []
lines_of (CrashAt count) = line.CrashAt count ∷ []
lines_of (FailAt count) = line.FailAt count ∷ []

-- a line that is no call
abbrev pub is_mark : Line → Bool
is_mark (line.Call number call) = false
is_mark (line.Commit kind) = false
is_mark line.Trim = false
is_mark line.Turn = false
is_mark other = true

abbrev pub is_group : Piece → Bool
is_group (Group calls) = true
is_group other = false

-- a group where each line is played alone has one call
abbrev pub IsAlone : Piece → Type 0
IsAlone (Group calls) = length calls.items ≡ 1
IsAlone other = Unit {0}

-- The pieces of these lines: a line that is no call is one of its own. Where calls are interleaved, all that stand together are one piece: no two groups
-- are neighbours. Where they are not, each is one of its own. Each piece has a line.
pub record ArePieces (interleaved : Bool) (lines : List Line) (pieces : List Piece) : Type 0 where
  pub joined : flat_map lines_of pieces ≡ lines
  pub apart : interleaved ≡ true → (at : ℕ) (piece next : Piece) → slice_get pieces at ≡ Some piece → slice_get pieces (suc at) ≡ Some next → is_group piece ≡ true → is_group next ≡ false
  pub alone : interleaved ≡ false → (at : ℕ) (piece : Piece) → slice_get pieces at ≡ Some piece → IsAlone piece
  pub filled : (at : ℕ) (piece : Piece) → slice_get pieces at ≡ Some piece → lines_of piece ≢ []
