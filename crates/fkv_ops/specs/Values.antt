-- Values as they stand in records: one word is kept for a key without a value.
use Rattle.std.specs.Prelude.{ℕ, ◌==◌, if◌then◌else◌, Option, Some, None}
use Rattle.fkv_map.specs.Map.{absent_word}

-- the value that a word stands for
abbrev pub value_of : ℕ → Option ℕ
value_of word = if word == absent_word then None else Some word

-- the word that stands for a value
abbrev pub word_of : Option ℕ → ℕ
word_of None = absent_word
word_of (Some value) = value
