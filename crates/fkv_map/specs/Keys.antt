-- One key: what an operation does to its value, and what the entries of a history on it make of that.
use Rattle.std.specs.Prelude.{◌≡◌, ℕ, Bool, nat_eq, Option, Some, None, option_map, List, [], ◌∷◌, filter}
use Rattle.fkv_base.specs.declared.numbers.Key.{Key}
use Rattle.fkv_base.specs.declared.numbers.Value.{Value}
use Rattle.fkv_map.specs.declared.operations.Op.{Op}
use Rattle.fkv_map.specs.declared.operations.Op.TheVariants.{Upsert, Delete, Add, Max, Read, Merge}
use Rattle.fkv_map.specs.declared.operations.Reply.{Reply}
use Rattle.fkv_map.specs.declared.operations.Reply.TheVariants.{Nothing, Number}
use Rattle.fkv_map.specs.declared.history.HistoryEntry.{HistoryEntry}
use Rattle.fkv_map.specs.Map.{sum_with, greater_with, merged, merge_reply, reply_to_read}

-- the key that an operation is on
abbrev pub key_of : Op → Key
key_of (Upsert key value) = key
key_of (Delete key) = key
key_of (Add key n) = key
key_of (Max key n) = key
key_of (Read key) = key
key_of (Merge key which n) = key

-- a value as a number
abbrev pub as_number : Option Value → Option ℕ
as_number value = option_map (λ it. it.0) value

-- what an operation makes of its key's value
abbrev pub value_applied : Option ℕ → Op → Option ℕ
value_applied old (Upsert key value) = Some value.0
value_applied old (Delete key) = None
value_applied old (Add key n) = Some (sum_with old n)
value_applied old (Max key n) = Some (greater_with old n)
value_applied old (Read key) = old
value_applied old (Merge key which n) = merged which old n

-- what an operation replies where its key has this value
abbrev pub reply_from : Option ℕ → Op → Reply
reply_from old (Upsert key value) = Nothing
reply_from old (Delete key) = Nothing
reply_from old (Add key n) = Number (record { 0 = sum_with old n })
reply_from old (Max key n) = Number (record { 0 = greater_with old n })
reply_from old (Read key) = reply_to_read old
reply_from old (Merge key which n) = merge_reply which old n

-- the entry's operation is on this key
abbrev pub is_on : ℕ → HistoryEntry → Bool
is_on key entry = nat_eq (key_of entry.op).0 key

-- the entries on a key, in order
abbrev pub entries_of : ℕ → List HistoryEntry → List HistoryEntry
entries_of key history = filter (is_on key) history

-- what entries on one key make of its value, in order
abbrev pub value_after : Option ℕ → List HistoryEntry → Option ℕ
value_after old [] = old
value_after old (entry ∷ later) = value_after (value_applied old entry.op) later

-- each entry's reply is the one that the key's value gives at its place
abbrev pub AreLegal : Option ℕ → List HistoryEntry → Type 0
AreLegal old [] = Unit {0}
AreLegal old (entry ∷ later) = (entry.reply ≡ reply_from old entry.op) × AreLegal (value_applied old entry.op) later
