-- What a session has loaded.
use Rattle.std.specs.Prelude.{ℕ}
use Rattle.fkv_epoch.specs.declared.values.Seen.{Seen}

abbrev pub seen : ℕ → ℕ → ℕ → Seen
seen phase read_only head = record { phase = phase; read_only = record { 0 = read_only }; head = record { 0 = head } }
