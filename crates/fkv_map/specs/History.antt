-- Histories of updates: what they make of a map, and which of their entries the points of a commit keep.
use Rattle.std.specs.Prelude.{◌≡◌, ◌≤◌, ℕ, max, Bool, cond, ◌&&◌, List, [], ◌∷◌, filter, count_by, nat_eq, nat_lt, nat_le, slice_index_or, Contains}
use Rattle.fkv_base.specs.declared.numbers.Serial.{Serial}
use Rattle.fkv_map.specs.declared.history.HistoryEntry.{HistoryEntry}
use Rattle.fkv_map.specs.Map.{Map, applied, reply_to, IsReserved}

-- the map after the operations of a history, in order
abbrev pub content : Map → List HistoryEntry → Map
content m [] = m
content m (entry ∷ later) = content (applied m entry.op) later

-- each entry's reply is the one that the map gives at its place
abbrev pub IsLegal : Map → List HistoryEntry → Type 0
IsLegal m [] = Unit {0}
IsLegal m (entry ∷ later) = (entry.reply ≡ reply_to m entry.op) × IsLegal (applied m entry.op) later

-- some entry's operation is reserved
abbrev pub HasReserved : List HistoryEntry → Type 0
HasReserved history = (entry : HistoryEntry) × Contains history entry × IsReserved entry.op

-- a session's point; 0 of a session that has none
abbrev pub point_of : List Serial → ℕ → ℕ
point_of points session = let point = slice_index_or points session (record { 0 = 0 }) in point.0

-- the entry's serial is at most its session's point
abbrev pub is_kept : List Serial → HistoryEntry → Bool
is_kept points entry = nat_le entry.serial.0 (point_of points entry.session)

-- the entries that the points keep, in order
abbrev pub kept : List HistoryEntry → List Serial → List HistoryEntry
kept history points = filter (is_kept points) history

-- the entry is of this session and has this serial
abbrev pub is_update : ℕ → ℕ → HistoryEntry → Bool
is_update session serial entry = nat_eq entry.session session && nat_eq entry.serial.0 serial

-- what is kept has each session's serials above its opening point up to its point once each, and no others
abbrev pub IsWhole : List HistoryEntry → List Serial → List Serial → Type 0
IsWhole history opening points =
    (session serial : ℕ) → count_by (is_update session serial) (kept history points)
    ≡ cond (nat_lt (point_of opening session) serial && nat_le serial (point_of points session)) 1 0

-- the greatest serial of a session in a history; 0 of a session that has no entry
abbrev pub greatest_serial : List HistoryEntry → ℕ → ℕ
greatest_serial [] session = 0
greatest_serial (entry ∷ later) session = cond (nat_eq entry.session session) (max entry.serial.0 (greatest_serial later session)) (greatest_serial later session)

-- each session's serials above its opening point, up to its last, stand in the history once each, and no others do
abbrev pub HasEachOnce : List HistoryEntry → List Serial → Type 0
HasEachOnce history opening =
    (session serial : ℕ) → count_by (is_update session serial) history
    ≡ cond (nat_lt (point_of opening session) serial && nat_le serial (greatest_serial history session)) 1 0

-- each session's point among the first is at most its point among the second
abbrev pub AreAtMost : List Serial → List Serial → Type 0
AreAtMost points others = (session : ℕ) → point_of points session ≤ point_of others session
