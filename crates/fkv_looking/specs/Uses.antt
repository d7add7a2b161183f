-- How much of each capacity of an opened store is used.
use Rattle.std.specs.Prelude.{◌≡◌, ℕ, ◌-◌, ◌*◌, Bool, nat_lt, length, count_by}
use Rattle.fkv_base.specs.Limits.{last_of}
use Rattle.fkv_base.specs.declared.numbers.Serial.{Serial}
use Rattle.fkv_record.specs.Places.{most_triples}
use Rattle.fkv_opening.specs.declared.opened_store.Opened.{Opened}
use Rattle.fkv_looking.specs.declared.uses.Capacity.{Capacity}
use Rattle.fkv_looking.specs.declared.uses.Uses.{Uses}

-- so much is used of so much
abbrev pub of : ℕ → ℕ → Capacity
of used most = record { used = used; most = most }

-- a session has a point above 0
abbrev pub has_taken : Serial → Bool
has_taken point = nat_lt 0 point.0

-- entries of the index, addresses of the log below its end, numbers of commits, and sessions with a point
pub record AreUses (opened : Opened) (uses : Uses) : Type 0 where
  pub entries : uses.entries ≡ of (length opened.entries.items) (most_triples opened.shape)
  pub records : uses.records ≡ of (opened.tail.0 - 1) (opened.shape.disk_pages * opened.shape.page - 1)
  pub commits : uses.commits ≡ of opened.number.0 (last_of opened.shape.class - 1)
  pub sessions : uses.sessions ≡ of (count_by has_taken opened.points.items) opened.shape.sessions
