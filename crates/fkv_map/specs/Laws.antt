-- The laws of histories.
use Rattle.std.specs.Prelude.{◌≡◌, ℕ, ◌+◌, ◌≤◌, max, ◌↔◌, cond, false, nat_lt, List, [], ◌∷◌, ◌++◌, count_by}
use Rattle.std.specs.FinMap.{get}
use Rattle.fkv_base.specs.declared.numbers.Key.{Key}
use Rattle.fkv_base.specs.declared.numbers.Serial.{Serial}
use Rattle.fkv_map.specs.declared.history.HistoryEntry.{HistoryEntry}
use Rattle.fkv_map.specs.declared.merges.Merge.TheVariants.{Keep}
use Rattle.fkv_map.specs.declared.operations.Op.TheVariants.{Read, Merge}
use Rattle.fkv_map.specs.Map.{Map, applied, reply_to}
use Rattle.fkv_map.specs.Keys.{key_of, value_applied, reply_from, is_on, entries_of, value_after, AreLegal}
use Rattle.fkv_map.specs.History.{content, IsLegal, is_kept, kept, point_of, is_update, IsWhole, HasEachOnce, AreAtMost, greatest_serial}

-- a history after another makes of a map what it makes of the map that the other left
abbrev pub ContentOfAppend : Type 0
ContentOfAppend = (m : Map) (earlier later : List HistoryEntry) → content m (earlier ++ later) ≡ content (content m earlier) later

-- a history after another is legal where each is, the later one from the map that the earlier one left
abbrev pub LegalOfAppend : Type 0
LegalOfAppend = (m : Map) (earlier later : List HistoryEntry) → IsLegal m (earlier ++ later) ↔ (IsLegal m earlier × IsLegal (content m earlier) later)

-- ---- key by key
-- a key's value after a history is what the entries on that key make of the one that it had
abbrev pub ContentByKey : Type 0
ContentByKey = (m : Map) (history : List HistoryEntry) (key : ℕ) → get (content m history) key ≡ value_after (get m key) (entries_of key history)

-- a history is legal exactly where for each key the entries on it are, from the value that the key had
abbrev pub LegalByKey : Type 0
LegalByKey = (m : Map) (history : List HistoryEntry) → IsLegal m history ↔ ((key : ℕ) → AreLegal (get m key) (entries_of key history))

-- one more entry changes the value of its own key alone
abbrev pub ContentOfOneMore : Type 0
ContentOfOneMore =
    (m : Map) (earlier : List HistoryEntry) (entry : HistoryEntry) (key : ℕ) → get (content m (earlier ++ entry ∷ [])) key
    ≡ cond (is_on key entry) (value_applied (get (content m earlier) key) entry.op) (get (content m earlier) key)

-- with one more entry a history is legal exactly where it was, and the entry replies what its key's value gives
abbrev pub LegalOfOneMore : Type 0
LegalOfOneMore =
    (m : Map) (earlier : List HistoryEntry) (entry : HistoryEntry) → IsLegal m (earlier ++ entry ∷ [])
    ↔ (IsLegal m earlier × (entry.reply ≡ reply_from (get (content m earlier) (key_of entry.op).0) entry.op))

-- what has of each key the first entries of a legal history is legal
abbrev pub LegalOfFirsts : Type 0
LegalOfFirsts =
    (m : Map) (history firsts : List HistoryEntry) → IsLegal m history
    → ((key : ℕ) → (later : List HistoryEntry) × (entries_of key history ≡ entries_of key firsts ++ later)) → IsLegal m firsts

-- what points keep of a legal history is legal, if on no key an entry that they keep stands after one that they don't
abbrev pub LegalOfKept : Type 0
LegalOfKept =
    (m : Map) (history : List HistoryEntry) (points : List Serial) → IsLegal m history
    → ((key : ℕ) (earlier later : List HistoryEntry) (entry : HistoryEntry) → entries_of key history ≡ earlier ++ entry ∷ later → is_kept points entry ≡ false → kept later points ≡ [])
    → IsLegal m (kept history points)

-- a Keep leaves each map as it is, and replies what a read does
abbrev pub KeepIsRead : Type 0
KeepIsRead = (m : Map) (key : Key) (n : ℕ) → (applied m (Merge key Keep n) ≡ m) × (reply_to m (Merge key Keep n) ≡ reply_to m (Read key))

-- ---- what points keep
-- points that are each session's last serial keep the whole history
abbrev pub KeptOfLastSerials : Type 0
KeptOfLastSerials = (history : List HistoryEntry) (points : List Serial) → ((session : ℕ) → point_of points session ≡ greatest_serial history session) → kept history points ≡ history

-- what the points have kept they keep again
abbrev pub KeptOfKept : Type 0
KeptOfKept = (history : List HistoryEntry) (points : List Serial) → kept (kept history points) points ≡ kept history points

-- what points keep is whole exactly where each serial up to a session's point stands in the history once, if it is above the opening's point, and else not at all
abbrev pub WholeUpToPoints : Type 0
WholeUpToPoints =
    (history : List HistoryEntry) (opening points : List Serial) → IsWhole history opening points
    ↔ ((session serial : ℕ) → serial ≤ point_of points session → count_by (is_update session serial) history ≡ cond (nat_lt (point_of opening session) serial) 1 0)

-- what points keep of a history that has each serial once is whole, if each point is at most its session's last serial, or the opening's point
abbrev pub WholeOfEachOnce : Type 0
WholeOfEachOnce =
    (history : List HistoryEntry) (opening points : List Serial) → HasEachOnce history opening
    → ((session : ℕ) → point_of points session ≤ max (point_of opening session) (greatest_serial history session)) → IsWhole history opening points

-- a history that has each serial once stays one with the next serial of a session: after its last, or after the opening's point where it has none yet
abbrev pub EachOnceOfOneMore : Type 0
EachOnceOfOneMore =
    (history : List HistoryEntry) (opening : List Serial) (entry : HistoryEntry) → HasEachOnce history opening
    → entry.serial.0 ≡ max (point_of opening entry.session) (greatest_serial history entry.session) + 1 → HasEachOnce (history ++ entry ∷ []) opening

-- ---- one life after another
-- what two lives keep, the later opened at the points of the earlier, is whole from the first opening to the last points, if no point fell in the earlier
abbrev pub WholeOfLives : Type 0
WholeOfLives =
    (earlier later : List HistoryEntry) (opening between points : List Serial) → IsWhole earlier opening between → IsWhole later between points
    → AreAtMost opening between → IsWhole (kept earlier between ++ kept later points) opening points

-- and the last points keep all of it, if none fell in the later
abbrev pub KeptOfLives : Type 0
KeptOfLives =
    (earlier later : List HistoryEntry) (between points : List Serial) → AreAtMost between points
    → kept (kept earlier between ++ kept later points) points ≡ kept earlier between ++ kept later points
