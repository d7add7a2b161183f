-- How a machine passes on what a machine inside it asks.
use Rattle.std.specs.Prelude.{Bool, true, false}
use Rattle.fkv_plane.specs.declared.asks.Ask.{Ask}
use Rattle.fkv_plane.specs.declared.asks.Ask.TheVariants.{Load, Store, Swap, Cas, Add, Max, Put, Take, Done}

-- the same ask, and at the end this answer
unfoldable pub passed : {A B : Type 0} → Ask A → B → Ask B
passed (Load place) answer = Load place
passed (Store place new) answer = Store place new
passed (Swap place new) answer = Swap place new
passed (Cas place old new) answer = Cas place old new
passed (Add place k) answer = Add place k
passed (Max place k) answer = Max place k
passed (Put slot action) answer = Put slot action
passed (Take slot) answer = Take slot
passed (Done inner) answer = Done answer

-- the machine is at an end, and not about to ask for something
abbrev pub is_done : {A : Type 0} → Ask A → Bool
is_done (Done answer) = true
is_done ask = false
