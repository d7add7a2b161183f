-- Where the calls of a watched device stand, and what it foretells.
use Rattle.std.specs.Prelude.{List, [], ◌∷◌, Bool, true, false}
use Rattle.fkv_disk.specs.Kinds.{Foretold, Kind, Reading, Syncing, nothing}
use Rattle.fkv_opening_tests.specs.declared.watched.Stand.{Stand}
use Rattle.fkv_opening_tests.specs.declared.watched.Stand.TheVariants.{NoCall, OneSyncThenReads, Others}

-- after one more call
abbrev pub stand_after : Kind → Stand → Stand
stand_after (Syncing done) NoCall = OneSyncThenReads
stand_after Reading OneSyncThenReads = OneSyncThenReads
stand_after kind stand = Others

-- Whether the calls, with these to come, are one sync and then reads.
abbrev pub is_quiet_in_the_end : Stand → List Kind → Bool
is_quiet_in_the_end OneSyncThenReads [] = true
is_quiet_in_the_end stand [] = false
is_quiet_in_the_end stand (kind ∷ later) = is_quiet_in_the_end (stand_after kind stand) later

-- what it foretells: whether they are, and nothing else
abbrev pub stand_foretold : Stand → List Kind → Foretold
stand_foretold stand later = record nothing { holds = is_quiet_in_the_end stand later }
