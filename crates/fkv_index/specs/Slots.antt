-- Where a key belongs, and what the words of a bucket say.
use Rattle.std.specs.Prelude.{ℕ, ◌/◌, ◌%◌, ◌^◌, ◌==◌, ◌&&◌, nat_lt, if◌then◌else◌, Bool}
use Rattle.fkv_base.specs.declared.numbers.Key.{Key}
use Rattle.fkv_words.specs.Home.{bucket_of, tag_of}
use Rattle.fkv_index.specs.declared.homes.Home.{Home}
use Rattle.fkv_index.specs.declared.slot_words.SlotWord.{SlotWord}
use Rattle.fkv_index.specs.declared.slot_words.SlotWord.TheVariants.{Empty, Tagged, Spoiled}

-- the slots of a bucket: seven, and one word that leads on
abbrev pub bucket_slots : ℕ
bucket_slots = 7

-- a bucket and a tag
abbrev pub home_of : ℕ → Key → Home
home_of bits key = record { bucket = bucket_of key bits; tag = tag_of key bits }

-- an entry's address is in the low 48 bits of its word, and its tag above them
abbrev pub entry_addr : ℕ → ℕ
entry_addr word = word % 2 ^ 48

abbrev pub entry_tag : ℕ → ℕ
entry_tag word = word / 2 ^ 48

-- an entry has an address, and a tag below 2^15
abbrev pub is_entry : ℕ → Bool
is_entry word = nat_lt 0 (entry_addr word) && nat_lt (entry_tag word) (2 ^ 15)

-- what a slot with this word has
unfoldable pub slot_word : ℕ → SlotWord
slot_word word = if word == 0 then Empty else if is_entry word then Tagged (entry_tag word) else Spoiled

-- the overflow bucket that follows a bucket whose eighth word is this, 0 where none does
abbrev pub link_of : ℕ → ℕ
link_of word = word % 2 ^ 48
