-- The calls of a session, by their verbs.
use Rattle.std.specs.Prelude.{ℕ, Bool, true, false, List, length, codes, if◌then◌else◌, Result, Ok, Err, ◌==◌, slice_index}
use Rattle.std.specs.Str.{bytes_eq}
use Rattle.fkv_base.specs.declared.faults.ScriptFault.{ScriptFault}
use Rattle.fkv_base.specs.declared.faults.ScriptFault.TheVariants.{Word, Count}
use Rattle.fkv_base.specs.declared.numbers.Key.{Key}
use Rattle.fkv_map.specs.declared.operations.Call.{Call}
use Rattle.fkv_map.specs.declared.operations.Call.TheVariants as call
use Rattle.fkv_map.specs.declared.operations.Op.{Op}
use Rattle.fkv_map.specs.declared.operations.Op.TheVariants.{Upsert, Delete, Add, Max, Read, Merge}
use Rattle.fkv_map.specs.declared.merges.Merge.TheVariants.{Keep, Min, Sub, And, Or, First}
use Rattle.fkv_base.specs.declared.classes.StoreClass.{StoreClass}
use Rattle.fkv_base.specs.declared.classes.StoreClass.TheVariants.{Specified, Living}
use Rattle.fkv_lines.specs.declared.scripts.Opening.{Opening}
use Rattle.fkv_lines.specs.declared.scripts.Opening.TheVariants.{Shape, Open}
use Rattle.fkv_lines.specs.Numbers.{◌>>=◌, arguments_of}

-- what no further word may follow
abbrev pub alone : {A : Type 0} → List (List ℕ) → A → Result A ScriptFault
alone words said = if length words == 0 then Ok said else Err Count

-- the first number of an operation is its key
abbrev pub key_in : List ℕ → Key
key_in n = record { 0 = slice_index n 0 }

-- merges and trims stand behind a `large` line alone
abbrev pub is_living : StoreClass → Bool
is_living Specified = false
is_living Living = true

abbrev pub opens_living : Opening → Bool
opens_living (Shape sizes) = is_living sizes.class
opens_living Open = false

-- `keep K`, `min K V`, `sub K V`, `and K V`, `or K V` and `first K V`
unfoldable pub merge_of : List ℕ → List (List ℕ) → Result Op ScriptFault
merge_of verb words =
    if bytes_eq verb (codes "keep") then (arguments_of 1 words >>= λ n. Ok (Merge (key_in n) Keep 0))
    else if bytes_eq verb (codes "min") then (arguments_of 2 words >>= λ n. Ok (Merge (key_in n) Min (slice_index n 1)))
    else if bytes_eq verb (codes "sub") then (arguments_of 2 words >>= λ n. Ok (Merge (key_in n) Sub (slice_index n 1)))
    else if bytes_eq verb (codes "and") then (arguments_of 2 words >>= λ n. Ok (Merge (key_in n) And (slice_index n 1)))
    else if bytes_eq verb (codes "or") then (arguments_of 2 words >>= λ n. Ok (Merge (key_in n) Or (slice_index n 1)))
    else if bytes_eq verb (codes "first") then (arguments_of 2 words >>= λ n. Ok (Merge (key_in n) First (slice_index n 1)))
    else Err Word

-- `up K V`, `add K V`, `max K V`, `del K` and `get K`, and the merges where the opening takes them
unfoldable pub operation_of : Opening → List ℕ → List (List ℕ) → Result Op ScriptFault
operation_of opening verb words =
    if bytes_eq verb (codes "up") then (arguments_of 2 words >>= λ n. Ok (Upsert (key_in n) (record { 0 = slice_index n 1 })))
    else if bytes_eq verb (codes "add") then (arguments_of 2 words >>= λ n. Ok (Add (key_in n) (slice_index n 1)))
    else if bytes_eq verb (codes "max") then (arguments_of 2 words >>= λ n. Ok (Max (key_in n) (slice_index n 1)))
    else if bytes_eq verb (codes "del") then (arguments_of 1 words >>= λ n. Ok (Delete (key_in n)))
    else if bytes_eq verb (codes "get") then (arguments_of 1 words >>= λ n. Ok (Read (key_in n)))
    else if opens_living opening then merge_of verb words
    else Err Word

-- `refresh`, `poll`, `sleep` and `wake` stand alone; any other call is an operation
unfoldable pub call_of : Opening → List ℕ → List (List ℕ) → Result Call ScriptFault
call_of opening verb words =
    if bytes_eq verb (codes "refresh") then alone words call.Refresh
    else if bytes_eq verb (codes "poll") then alone words call.Poll
    else if bytes_eq verb (codes "sleep") then alone words call.Sleep
    else if bytes_eq verb (codes "wake") then alone words call.Wake
    else (operation_of opening verb words >>= λ op. Ok (call.Op op))
