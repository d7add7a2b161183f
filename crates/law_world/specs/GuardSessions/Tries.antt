-- What a step of a try, and of the append inside it, is to the guard.
use Rattle.std.specs.Prelude.{◌<◌, ◌≤◌, ⊤, ℕ, ◌^◌, ◌==◌, ◌&&◌, nat_lt, if◌then◌else◌, Bool, List, [], ◌∷◌, None}
use Rattle.fkv_base.specs.declared.numbers.Addr.{Addr}
use Rattle.fkv_map.specs.Keys.{value_applied}
use Rattle.fkv_plane.specs.declared.asks.Ask.{Ask}
use Rattle.fkv_plane.specs.declared.asks.Ask.TheVariants.{Done}
use Rattle.fkv_plane.specs.declared.places.Places.{Places}
use Rattle.fkv_plane.specs.declared.places.RecordWord.TheVariants as rec
use Rattle.fkv_plane.specs.declared.places.SharedWord.TheVariants as one
use Rattle.fkv_plane.specs.Places.{shared_place, record_place}
use Rattle.fkv_plane.specs.Asked.{reply_to, word_at}
use Rattle.fkv_log.specs.declared.reserving.ReserveAnswer.{ReserveAnswer}
use Rattle.fkv_log.specs.declared.reserving.ReserveAnswer.TheVariants.{Reserved}
use Rattle.fkv_log.specs.Reserving.{reserve_next_ask}
use Rattle.fkv_index.specs.declared.publishing.Publishing.{Publishing}
use Rattle.fkv_index.specs.declared.publishing.Publishing.TheVariants.{SwapsEntry}
use Rattle.fkv_flush.specs.GuardSeen.{LastSeen}
use Rattle.fkv_flush.specs.GuardWorld as guard
use Rattle.fkv_flush.specs.GuardWorld.{GuardEvent, Moves, Updates}
use Rattle.fkv_flush.proofs.Shown.{Likeness}
use Rattle.fkv_ops.specs.declared.appending.Appending.{Appending}
use Rattle.fkv_ops.specs.declared.appending.Appending.TheVariants as appending
use Rattle.fkv_ops.specs.declared.trying.Trying.{Trying}
use Rattle.fkv_ops.specs.declared.trying.Trying.TheVariants.{SwapsValue, ChangesValue, Appends}
use Rattle.fkv_ops.specs.Appending.{AppendState}
use Rattle.fkv_ops.specs.Trying.{TryState}
use Rattle.fkv_ops.specs.Values.{value_of, word_of}
use Rattle.law_world.specs.GuardSessions.Likenesses.{likeness, through, append_work, append_undecided, append_onward}
use Rattle.law_world.specs.GuardSessions.Steps.{Onward, Stays, outer_events, IsOuter}

-- an entry can have this address, and it is above that of the entry before
abbrev pub is_for_entry : AppendState → Addr → Bool
is_for_entry a addr = nat_lt a.its_words.header.previous.0 addr.0 && nat_lt addr.0 (2 ^ 48)

-- an address that is reserved for no entry is given up at once
abbrev pub reserved_events : ℕ → AppendState → Ask ReserveAnswer → List GuardEvent
reserved_events number a (Done (Reserved addr)) = if is_for_entry a addr then Moves number ∷ [] else guard.Publishes number ∷ Moves number ∷ []
reserved_events number a ask = Moves number ∷ []

-- an entry that is won publishes the record
abbrev pub publish_events : {A : Type 0} → ℕ → List ℕ → Publishing → Ask A → List GuardEvent
publish_events number words (SwapsEntry place word entry) ask = if word_at words place == word then guard.Publishes number ∷ outer_events number words ask else outer_events number words ask
publish_events number words step ask = outer_events number words ask

-- the ask of an append, as it is passed on
abbrev pub append_events : {A : Type 0} → ℕ → ℕ → List ℕ → AppendState → Appending → Ask A → List GuardEvent
append_events number room words a appending.Reserves ask = reserved_events number a (reserve_next_ask room a.reserving (reply_to words ask))
append_events number room words a (appending.Fills addr) ask = Moves number ∷ []
append_events number room words a (appending.Publishes addr) ask = publish_events number words a.publishing ask
append_events number room words a appending.Invalidates ask = Moves number ∷ []
append_events number room words a step ask = outer_events number words ask

-- and that of a try: a change in place where the Cas is won
abbrev pub try_events : {A : Type 0} → ℕ → ℕ → List ℕ → Places → TryState → Trying → Ask A → List GuardEvent
try_events number room words p t (SwapsValue addr) ask = Updates number addr.0 (word_of (value_applied None t.request.op)) ∷ []
try_events number room words p t (ChangesValue addr old) ask =
    if word_at words (record_place p addr.0 rec.Value) == old then Updates number addr.0 (word_of (value_applied (value_of old) t.request.op)) ∷ [] else []
try_events number room words p t (Appends its) ask = append_events number room words t.append t.append.step ask
try_events number room words p t step ask = outer_events number words ask

-- what it begins
abbrev pub try_onward : TryState → Trying → Onward
try_onward t (Appends its) = append_onward t.append t.append.step
try_onward t step = Stays

-- and what the actor is like
abbrev pub try_likeness_at : LastSeen → TryState → Trying → Likeness
try_likeness_at seen t (Appends its) = likeness None (append_work t.append t.append.step) seen (append_undecided t.append t.append.step)
try_likeness_at seen t step = through seen

abbrev pub try_likeness : LastSeen → TryState → Likeness
try_likeness seen t = try_likeness_at seen t t.step

-- Where a session may change a value in place: in a record that is reserved, at or above the read-only offset that it has seen.
abbrev pub MayChange : LastSeen → List ℕ → ℕ → Type 0
MayChange seen words addr = (seen.read_only ≤ addr) × (addr < word_at words (shared_place one.Tail))

-- Every word that a step of a try writes beside its record's is none of the guard's.
abbrev pub AppendWritesOuter : {A : Type 0} → Places → Appending → Ask A → Type 0
AppendWritesOuter p (appending.Publishes addr) ask = IsOuter p ask
AppendWritesOuter p step ask = ⊤

abbrev pub TryWritesOuter : {A : Type 0} → Places → TryState → Trying → Ask A → Type 0
TryWritesOuter p t (SwapsValue addr) ask = ⊤
TryWritesOuter p t (ChangesValue addr old) ask = ⊤
TryWritesOuter p t (Appends its) ask = AppendWritesOuter p t.append.step ask
TryWritesOuter p t step ask = IsOuter p ask
