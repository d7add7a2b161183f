-- What a straight call of a key meets first.
use Rattle.std.specs.Prelude.{ℕ, ◌==◌, ◌&&◌, if◌then◌else◌, Option, Some, None}
use Rattle.fkv_plane.specs.declared.places.RecordWord.TheVariants.{Header}
use Rattle.fkv_plane.specs.Places.{record_place}
use Rattle.fkv_index.specs.Slots.{entry_addr, entry_tag}
use Rattle.fkv_straight.specs.declared.going.Going.{Going}
use Rattle.fkv_straight.specs.Memory.{is_in_memory}

-- the place of the header of the record to which the word of a slot leads, if the word has this tag and the record's address lies in memory
unfoldable pub record_led_to : Going → ℕ → ℕ → Option ℕ
record_led_to g tag word = if entry_tag word == tag && is_in_memory g.places.ring g.head (entry_addr word) then Some (record_place g.places (entry_addr word) Header) else None
