-- Many actors that reserve addresses at the tail, and others who work on the same words.
use Rattle.std.specs.Prelude.{◌≡◌, ℕ, ◌+◌, ◌<◌, ◌≤◌, ◌==◌, ◌&&◌, ◌||◌, nat_lt, if◌then◌else◌, Bool, List, [], ◌∷◌, ◌++◌, ◌⊎◌, length, replicate, slice_get, slice_set, Option, Some, None}
use Rattle.fkv_plane.specs.declared.asks.Ask.{Ask}
use Rattle.fkv_plane.specs.declared.asks.Ask.TheVariants.{Done}
use Rattle.fkv_plane.specs.declared.places.SharedWord.TheVariants as one
use Rattle.fkv_plane.specs.Places.{shared_place}
use Rattle.fkv_plane.specs.Asked.{word_at, words_after, reply_to}
use Rattle.fkv_log.specs.declared.reserving.ReserveAnswer.{ReserveAnswer}
use Rattle.fkv_log.specs.declared.reserving.ReserveAnswer.TheVariants.{Reserved}
use Rattle.fkv_log.specs.declared.reserving.Reserving.{Reserving}
use Rattle.fkv_log.specs.declared.reserving.Reserving.TheVariants.{AtRest, LoadsLimit}
use Rattle.fkv_log.specs.Reserving.{reserve_ask, reserve_next, reserve_next_ask}

-- What may happen next.
pub data TailEvent : Type 0 where
  -- the actor begins to reserve an address, below a bound where there is one
  Begins : ℕ → Option ℕ → TailEvent
  -- the actor makes its one ask
  Moves : ℕ → TailEvent
  -- somebody else changes a word, but for what is barred
  Changes : ℕ → ℕ → TailEvent

-- the words, and how far each actor's machine has come
pub record TailNow : Type 0 where
  -- how many addresses the log has on the device
  pub room : ℕ
  pub words : List ℕ
  pub actors : List Reserving

-- an actor was answered that the address is its own
pub record Reservation : Type 0 where
  pub actor : ℕ
  pub addr : ℕ

pub record TailWorld : Type 0 where
  pub now : TailNow
  -- all reservations ever, the newest first
  pub reserved : List Reservation

abbrev pub tail_of : List ℕ → ℕ
tail_of words = word_at words (shared_place one.Tail)

abbrev pub limit_of : List ℕ → ℕ
limit_of words = word_at words (shared_place one.Limit)

-- nobody lowers the tail or the limit, or moves the tail past the limit
abbrev pub bars_tail : List ℕ → ℕ → Bool
bars_tail words word = nat_lt word (tail_of words) || nat_lt (limit_of words) word

abbrev pub is_barred : List ℕ → ℕ → ℕ → Bool
is_barred words place word = (place == shared_place one.Tail && bars_tail words word) || (place == shared_place one.Limit && nat_lt word (limit_of words))

abbrev pub begun : TailNow → ℕ → Option ℕ → TailNow
begun n actor bound = record n { actors = slice_set n.actors actor (LoadsLimit bound) }

-- one ask of the machine, by the machine's own tables
abbrev pub moved : TailNow → ℕ → Option Reserving → TailNow
moved n actor None = n
moved n actor (Some step) = record n { words = words_after n.words (reserve_ask step); actors = slice_set n.actors actor (reserve_next step (reply_to n.words (reserve_ask step))) }

abbrev pub tail_happens_now : TailNow → TailEvent → TailNow
tail_happens_now n (Begins actor bound) = begun n actor bound
tail_happens_now n (Moves actor) = moved n actor (slice_get n.actors actor)
tail_happens_now n (Changes place word) = if is_barred n.words place word then n else record n { words = slice_set n.words place word }

-- what the machine's answer gives its actor
abbrev pub reserved_by : ℕ → Ask ReserveAnswer → List Reservation
reserved_by actor (Done (Reserved addr)) = record { actor = actor; addr = addr.0 } ∷ []
reserved_by actor ask = []

abbrev pub reserved_of : TailNow → ℕ → Option Reserving → List Reservation
reserved_of n actor None = []
reserved_of n actor (Some step) = reserved_by actor (reserve_next_ask n.room step (reply_to n.words (reserve_ask step)))

abbrev pub reserved_after : TailNow → TailEvent → List Reservation → List Reservation
reserved_after n (Moves actor) reserved = reserved_of n actor (slice_get n.actors actor) ++ reserved
reserved_after n event reserved = reserved

unfoldable pub tail_happens : TailWorld → TailEvent → TailWorld
tail_happens w event = record { now = tail_happens_now w.now event; reserved = reserved_after w.now event w.reserved }

-- a whole run, the newest event first
unfoldable pub tail_run : TailWorld → List TailEvent → TailWorld
tail_run opening [] = opening
tail_run opening (event ∷ before) = tail_happens (tail_run opening before) event

-- the words have a tail and a limit
pub record IsOpened (words : List ℕ) : Type 0 where
  pub enough_words : 4 < length words
  pub below_limit : tail_of words ≤ limit_of words

-- all actors at rest
abbrev pub opening : ℕ → ℕ → List ℕ → TailWorld
opening room actors words = record { now = record { room = room; words = words; actors = replicate actors AtRest }; reserved = [] }

-- each address is below the tail, above all that were reserved before it, and none is below the first
abbrev pub RiseTo : ℕ → ℕ → List Reservation → Type 0
RiseTo first tail [] = first ≤ tail
RiseTo first tail (r ∷ before) = (r.addr < tail) × RiseTo first r.addr before

-- two reservations of one address are one
abbrev pub AreReservedOnce : List Reservation → Type 0
AreReservedOnce reserved = (i j : ℕ) (r s : Reservation) → slice_get reserved i ≡ Some r → slice_get reserved j ≡ Some s → r.addr ≡ s.addr → i ≡ j

-- the one step that gives an address: it gives that of the tail, which it moves up by one
pub record ReservesTail (words : List ℕ) (actor : ℕ) (after : List ℕ) (its : List Reservation) : Type 0 where
  pub tail : after ≡ slice_set words (shared_place one.Tail) (tail_of words + 1)
  pub address : its ≡ record { actor = actor; addr = tail_of words } ∷ []

-- each other changes no word and gives none
pub record Stays (words : List ℕ) (after : List ℕ) (its : List Reservation) : Type 0 where
  pub words_stay : after ≡ words
  pub no_address : its ≡ []

abbrev pub ReservesOrStays : Type 0
ReservesOrStays = (room actor : ℕ) (words : List ℕ) (step : Reserving)
    → ReservesTail words actor (words_after words (reserve_ask step)) (reserved_by actor (reserve_next_ask room step (reply_to words (reserve_ask step))))
    ⊎ Stays words (words_after words (reserve_ask step)) (reserved_by actor (reserve_next_ask room step (reply_to words (reserve_ask step))))
