-- The line of keys in a report: which keys of a script are compared, and with what.
use Rattle.std.specs.Prelude.{◌≡◌, ◌⊎◌, ℕ, zero, suc, Bool, true, false, ◌&&◌, ◌||◌, if◌then◌else◌, List, [], ◌∷◌, ◌++◌, length, map, nat_eq, nat_lt, nat_le, Option, Some, None, slice_get}
use Rattle.std.specs.FinMap.{empty, get}
use Rattle.std.specs.List.{Contains, fold, flat_map, list_all, sum_by}
use Rattle.std.specs.Set.{distinct_count}
use Rattle.fkv_base.specs.declared.faults.Fault.{Fault}
use Rattle.fkv_base.specs.declared.faults.Fault.TheVariants.{Memory, ValueReserved}
use Rattle.fkv_base.specs.declared.numbers.Key.{Key}
use Rattle.fkv_base.specs.declared.numbers.Serial.{Serial}
use Rattle.fkv_base.specs.declared.numbers.Value.{Value}
use Rattle.fkv_lines.specs.declared.scripts.Line.{Line}
use Rattle.fkv_lines.specs.declared.scripts.Line.TheVariants as line
use Rattle.fkv_map.specs.Keys.{key_of}
use Rattle.fkv_map.specs.Map.{IsReserved, Map, absent_word, applied}
use Rattle.fkv_map.specs.declared.operations.Call.TheVariants as call
use Rattle.fkv_map.specs.declared.operations.Op.{Op}
use Rattle.fkv_map.specs.declared.operations.Op.TheVariants.{Upsert, Add, Read}
use Rattle.fkv_thread_scripts.specs.Logs.{update_of}
use Rattle.fkv_thread_scripts.specs.declared.logs.Log.{Log}
use Rattle.fkv_thread_scripts.specs.declared.reports.Keys.{Keys}
use Rattle.fkv_thread_scripts.specs.declared.reports.Keys.TheVariants.{Agree, Differs}

-- ---- which keys are compared
-- an update of a script, with its session
pub record Update : Type 0 where
  pub session : ℕ
  pub op : Op

abbrev pub is_read : Op → Bool
is_read (Read key) = true
is_read op = false

-- the update that a line makes, if it makes one
abbrev pub update_with : ℕ → Op → List Update
update_with session op = if is_read op then [] else record { session = session; op = op } ∷ []

abbrev pub update_in_line : Line → List Update
update_in_line (line.Call session (call.Op op)) = update_with session op
update_in_line its = []

-- those of a key
abbrev pub at_key : ℕ → Update → List Update
at_key key its = if nat_eq (key_of its.op).0 key then its ∷ [] else []

abbrev pub updates_of : List Line → List Update
updates_of lines = flat_map update_in_line lines

abbrev pub updates_at : ℕ → List Line → List Update
updates_at key lines = flat_map (at_key key) (updates_of lines)

-- one session alone makes them
abbrev pub are_alone : List Update → Bool
are_alone [] = true
are_alone (first ∷ later) = list_all (λ its. nat_eq its.session first.session) later

-- the number that an update adds; none adds 0
abbrev pub is_add : Op → Bool
is_add (Add key n) = true
is_add op = false

abbrev pub number_added : Op → ℕ
number_added (Add key n) = n
number_added op = 0

abbrev pub sum_added : List Update → ℕ
sum_added updates = sum_by (λ its. number_added its.op) updates

-- they all add, and to a sum that no order of them changes
abbrev pub are_sums : List Update → Bool
are_sums updates = list_all (λ its. is_add its.op) updates && nat_lt (sum_added updates) absent_word

-- a key with these updates is compared
abbrev pub is_compared : List Update → Bool
is_compared [] = false
is_compared (first ∷ later) = are_alone (first ∷ later) || are_sums (first ∷ later)

-- ---- what sessions were told
abbrev pub op_in : Option Op → List Op
op_in (Some op) = op ∷ []
op_in None = []

-- the update of a serial that a log has, if it is one up to a point
abbrev pub op_told : Serial → Log → Serial → List Op
op_told point log serial = if nat_le serial.0 point.0 then op_in (update_of log.first log.accepted.items serial) else []

-- the updates up to a point whose results a log tells, in the order of the results
abbrev pub ops_told : Serial → Log → List Op
ops_told point log = flat_map (op_told point log) log.told.items

abbrev pub ops_of : Option Serial → Option Log → List Op
ops_of (Some point) (Some log) = ops_told point log
ops_of point log = []

-- those of the first sessions, so many, one session behind the other
abbrev pub ops_of_first : List Serial → List Log → ℕ → List Op
ops_of_first points logs zero = []
ops_of_first points logs (suc n) = ops_of_first points logs n ++ ops_of (slice_get points n) (slice_get logs n)

-- those of all sessions
abbrev pub told_ops : List Serial → List Log → List Op
told_ops points logs = ops_of_first points logs (length logs)

-- the map that they make
abbrev pub told_map : List Serial → List Log → Map
told_map points logs = fold applied empty (told_ops points logs)

-- the map of pairs
abbrev pub upsert_of : Key × Value → Op
upsert_of pair = Upsert pair.0 pair.1

abbrev pub upserts_of : List (Key × Value) → List Op
upserts_of pairs = map upsert_of pairs

abbrev pub map_of : List (Key × Value) → Map
map_of pairs = fold applied empty (upserts_of pairs)

-- ---- what can't be compared
-- one of these operations brings the word that stands for no value
abbrev pub HasReserved : List Op → Type 0
HasReserved ops = (op : Op) × Contains ops op × IsReserved op

-- why these operations aren't applied: one brings that word, or memory was refused
abbrev pub IsUnapplied : List Op → Fault → Type 0
IsUnapplied ops ValueReserved = HasReserved ops
IsUnapplied ops Memory = Unit {0}
IsUnapplied ops other = ⊥

-- why there is no comparison: what sessions were told up to their points isn't applied, or the pairs aren't
abbrev pub IsUncompared : List Serial → List Log → List (Key × Value) → Fault → Type 0
IsUncompared points logs pairs why = IsUnapplied (told_ops points logs) why ⊎ IsUnapplied (upserts_of pairs) why

-- ---- the line
-- the keys of updates that are compared
abbrev pub key_compared : List Line → Update → List ℕ
key_compared lines its = if is_compared (updates_at (key_of its.op).0 lines) then (key_of its.op).0 ∷ [] else []

abbrev pub keys_compared : List Line → List ℕ
keys_compared lines = flat_map (key_compared lines) (updates_of lines)

-- Each compared key has in the store what sessions were told, and this is their count. Or this one hasn't.
abbrev pub IsKeysLine : List Line → Map → Map → Keys → Type 0
IsKeysLine lines told stored (Agree count) = ((key : ℕ) → is_compared (updates_at key lines) ≡ true → get stored key ≡ get told key) × (count ≡ distinct_count nat_eq (keys_compared lines))
IsKeysLine lines told stored (Differs key) = (is_compared (updates_at key.0 lines) ≡ true) × (get stored key.0 ≡ get told key.0 → ⊥)
