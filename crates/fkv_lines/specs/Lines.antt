-- What a line says, by its words.
use Rattle.std.specs.Prelude.{ℕ, Bool, ◌||◌, ◌&&◌, nat_eq, List, [], ◌∷◌, codes, if◌then◌else◌, Result, Ok, Err, slice_index}
use Rattle.std.specs.Str.{bytes_eq}
use Rattle.std.specs.Char.{is_ascii_digit}
use Rattle.fkv_base.specs.declared.faults.ScriptFault.{ScriptFault}
use Rattle.fkv_base.specs.declared.faults.ScriptFault.TheVariants as fault
use Rattle.fkv_base.specs.declared.commits.CommitKind.TheVariants.{Full, Log}
use Rattle.fkv_base.specs.declared.classes.StoreClass.{StoreClass}
use Rattle.fkv_base.specs.declared.classes.StoreClass.TheVariants.{Specified, Living}
use Rattle.fkv_lines.specs.declared.scripts.Line.{Line}
use Rattle.fkv_lines.specs.declared.scripts.Line.TheVariants.{Call, Commit, Trim, Turn, Finish, Crash, CrashAt, FailAt}
use Rattle.fkv_lines.specs.declared.scripts.Mode.{Mode}
use Rattle.fkv_lines.specs.declared.scripts.Mode.TheVariants.{Memory, File}
use Rattle.fkv_lines.specs.declared.scripts.Opening.{Opening}
use Rattle.fkv_lines.specs.declared.scripts.Opening.TheVariants.{Shape, Open}
use Rattle.fkv_lines.specs.declared.scripts.Sizes.{Sizes}
use Rattle.fkv_lines.specs.Numbers.{◌>>=◌, number_of, arguments_of}
use Rattle.fkv_lines.specs.Calls.{alone, call_of, opens_living}

-- ---- the line that opens the store

-- `shape K P F M S O D` and `large K P F M S O D` have the seven sizes in this order
abbrev pub sizes_of : StoreClass → List ℕ → Sizes
sizes_of class n = record { class = class; bucket_bits = slice_index n 0; page = slice_index n 1; frames = slice_index n 2; mutable = slice_index n 3; sessions = slice_index n 4; overflow = slice_index n 5; disk_pages = slice_index n 6 }

-- behind `shape` and `large` stand the sizes
unfoldable pub shape_line : StoreClass → List (List ℕ) → Result Opening ScriptFault
shape_line class words = arguments_of 7 words >>= λ n. Ok (Shape (sizes_of class n))

-- `open` stands alone, and only a store in a file can be opened
unfoldable pub open_line : Mode → List (List ℕ) → Result Opening ScriptFault
open_line Memory words = alone words Open >>= λ said. Err fault.Mode
open_line File words = alone words Open

-- the words `shape`, `large` and `open` open a store, and stand in the first line that says something, and there alone
abbrev pub is_opening : List ℕ → Bool
is_opening head = bytes_eq head (codes "shape") || bytes_eq head (codes "large") || bytes_eq head (codes "open")

-- the first line that says something: `shape` or `large` and seven numbers, or `open`
unfoldable pub opening_line : Mode → List (List ℕ) → Result Opening ScriptFault
opening_line mode [] = Err fault.Order
opening_line mode (head ∷ words) =
    if bytes_eq head (codes "shape") then shape_line Specified words
    else if bytes_eq head (codes "large") then shape_line Living words
    else if bytes_eq head (codes "open") then open_line mode words
    else Err fault.Order

-- ---- later lines

-- a call, behind the number of its session
unfoldable pub session_line : Opening → List ℕ → List (List ℕ) → Result Line ScriptFault
session_line opening session [] = Err fault.Count
session_line opening session (verb ∷ words) = do
  call ← call_of opening verb words
  n ← number_of session
  Ok (Call n call)

-- `k commit` alone is a full commit, and `k commit log` one of the log. In a living store `k commit trim` is a trim.
unfoldable pub commit_line : Opening → List (List ℕ) → Result Line ScriptFault
commit_line opening [] = Ok (Commit Full)
commit_line opening (kind ∷ words) =
    if bytes_eq kind (codes "log") then alone words (Commit Log)
    else if bytes_eq kind (codes "trim") && opens_living opening then alone words Trim
    else Err fault.Word

-- `commit`, `turn` and `finish`, behind `k`
unfoldable pub keeper_line : Opening → List (List ℕ) → Result Line ScriptFault
keeper_line opening [] = Err fault.Count
keeper_line opening (verb ∷ words) =
    if bytes_eq verb (codes "commit") then commit_line opening words
    else if bytes_eq verb (codes "turn") then alone words Turn
    else if bytes_eq verb (codes "finish") then alone words Finish
    else Err fault.Word

-- the calls of the device that follow are counted from 1
unfoldable pub device_call : List ℕ → Result ℕ ScriptFault
device_call word = number_of word >>= λ call. if nat_eq call 0 then Err fault.Number else Ok call

-- `crash` stands alone, or before the number of the device call at which it strikes
unfoldable pub crash_line : List (List ℕ) → Result Line ScriptFault
crash_line [] = Ok Crash
crash_line (word ∷ []) = device_call word >>= λ call. Ok (CrashAt call)
crash_line (word ∷ next ∷ more) = Err fault.Count

-- `fail` stands before the number of the device call from which on all fail
unfoldable pub fail_line : List (List ℕ) → Result Line ScriptFault
fail_line [] = Err fault.Count
fail_line (word ∷ []) = device_call word >>= λ call. Ok (FailAt call)
fail_line (word ∷ next ∷ more) = Err fault.Count

-- a line that a store in memory alone serves
unfoldable pub in_memory : Mode → Line → Result Line ScriptFault
in_memory Memory line = Ok line
in_memory File line = Err fault.Mode

-- a later line is a `crash` or a `fail`, the keeper's behind `k`, or a session's, whose first word begins with a digit
unfoldable pub later_line : Mode → Opening → List (List ℕ) → Result Line ScriptFault
later_line mode opening [] = Err fault.Word
later_line mode opening (head ∷ words) =
    if is_opening head then Err fault.Order
    else if bytes_eq head (codes "crash") then (crash_line words >>= λ line. in_memory mode line)
    else if bytes_eq head (codes "fail") then (fail_line words >>= λ line. in_memory mode line)
    else if bytes_eq head (codes "k") then keeper_line opening words
    else if is_ascii_digit (slice_index head 0) then session_line opening head words
    else Err fault.Word
