-- What a renewal saves, and the lines that say so.
use Rattle.std.specs.Prelude.{ℕ, ◌-◌, List, ◌++◌, codes, if◌then◌else◌, nat_lt}
use Rattle.std.specs.Fmt.{decimal}
use Rattle.fkv_base.specs.Limits.{last_of}
use Rattle.fkv_base.specs.declared.shapes.Shape.{Shape}
use Rattle.fkv_record.specs.Places.{area_place, record_place}
use Rattle.fkv_texts.specs.Lines.{line_of}
use Rattle.fkv_renew.specs.declared.saved.Saved.{Saved}
use Rattle.fkv_renew.specs.declared.saved.Taken.{Taken}

-- the bytes of a store whose log ends at this address: up to there, or those before the areas where no record was written
abbrev pub bytes_up_to : Shape → ℕ → ℕ
bytes_up_to shape tail = if nat_lt 1 tail then record_place shape tail else area_place shape 0

-- What a store takes whose log ends at this address and whose newest commit has this number: its addresses below, its bytes, and how many commits there are to the
-- last one, in the version before the last.
abbrev pub taken_of : Shape → ℕ → ℕ → Taken
taken_of shape tail number = record { records = tail - 1; bytes = bytes_up_to shape tail; commits_left = last_of shape.class - 1 - number }

-- `records 1047 now 3`
abbrev pub change_line : List ℕ → ℕ → ℕ → List ℕ
change_line name before after = line_of (name ++ codes " " ++ decimal before ++ codes " now " ++ decimal after)

-- `renewed pairs 3`, and then what the store took and takes of each
abbrev pub saved_text : Saved → List ℕ
saved_text saved =
    line_of (codes "renewed pairs " ++ decimal saved.pairs)
    ++ change_line (codes "records") saved.before.records saved.after.records
    ++ change_line (codes "bytes") saved.before.bytes saved.after.bytes
    ++ change_line (codes "commits left") saved.before.commits_left saved.after.commits_left
