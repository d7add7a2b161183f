-- Which requests that wait share the latch of their key's bucket, and what a session's asks add to latches and take off.
use Rattle.std.specs.Prelude.{◌≡◌, ℕ, ◌+◌, ◌-◌, ◌^◌, ◌==◌, ◌&&◌, ◌||◌, Bool, true, false, List, [], ◌∷◌, ⊤}
use Rattle.fkv_words.specs.Fields.{bit_of}
use Rattle.fkv_map.specs.Keys.{key_of}
use Rattle.fkv_map.specs.declared.operations.Op.{Op}
use Rattle.fkv_plane.specs.declared.asks.Ask.{Ask}
use Rattle.fkv_plane.specs.declared.asks.Ask.TheVariants.{Add, Done}
use Rattle.fkv_plane.specs.declared.places.Places.{Places}
use Rattle.fkv_plane.specs.Places.{bucket_place}
use Rattle.fkv_index.specs.Slots.{home_of}
use Rattle.fkv_latch.specs.Latching.{one_share, is_exclusive}
use Rattle.fkv_ops.specs.declared.answers.TryAnswer.{TryAnswer}
use Rattle.fkv_ops.specs.declared.answers.TryAnswer.TheVariants as tried
use Rattle.fkv_ops.specs.Requests.{is_read}
use Rattle.fkv_pending.specs.declared.pending_requests.PendingRequest.{PendingRequest}
use Rattle.fkv_pending.specs.Attempting.{attempt_ask, attempt_next}
use Rattle.fkv_session.specs.declared.answers.Told.{Told}
use Rattle.fkv_session.specs.declared.sessions.Sitting.{Sitting}
use Rattle.fkv_session.specs.declared.sessions.Sitting.TheVariants.{Attempts, CatchesUp, Polls}
use Rattle.fkv_session.specs.Accounts.{number_of}
use Rattle.fkv_session.specs.SessionRun.{SessionEvent, Replies, session_run}
use Rattle.fkv_session.specs.Sessions.{SessionState, Seat, bits_of, room_of, session_ask}

-- an ask that adds so much to the word at a place
abbrev pub added_by : {A : Type 0} → ℕ → ℕ → Ask A → ℕ
added_by number at (Add place its) = bit_of (its == number && place == at)
added_by number at ask = 0

abbrev pub added_behind : Seat → SessionState → SessionEvent → ℕ → ℕ → ℕ
added_behind k s (Replies reply) number at = added_by number at (session_ask k s)
added_behind k s event number at = 0

-- how often the session's asks that were replied to have added it there
unfoldable pub times_added : Seat → SessionState → List SessionEvent → ℕ → ℕ → ℕ
times_added k opening [] number at = 0
times_added k opening (event ∷ before) number at = added_behind k (session_run k opening before) event number at + times_added k opening before number at

abbrev pub shares_added : Seat → SessionState → List SessionEvent → ℕ → ℕ
shares_added k opening events at = times_added k opening events one_share at

-- to take one off, or give it back, is to add 2^64 less one
abbrev pub shares_dropped : Seat → SessionState → List SessionEvent → ℕ → ℕ
shares_dropped k opening events at = times_added k opening events (2 ^ 64 - one_share) at

-- a store's index has 2^bits buckets
abbrev pub HasItsBuckets : Seat → Type 0
HasItsBuckets k = k.places.buckets ≡ 2 ^ bits_of k

-- the latch of an operation's key: the eighth word of its bucket, of 2^bits buckets
abbrev pub latch_of : Places → ℕ → Op → ℕ
latch_of p bits op = bucket_place p (home_of bits (key_of op)).bucket 7

-- the request shares the latch at this place
abbrev pub is_sharing : Seat → ℕ → PendingRequest → Bool
is_sharing k at pending = pending.request.has_latch && latch_of k.places (bits_of k) pending.request.op == at

-- how many requests share it
abbrev pub sharing : Seat → ℕ → List PendingRequest → ℕ
sharing k at requests = number_of (is_sharing k at) requests

-- no read shares one
abbrev pub OnlyUpdatesShare : List PendingRequest → Type 0
OnlyUpdatesShare [] = ⊤
OnlyUpdatesShare (pending ∷ rest) = (is_read pending.request.op ≡ true → pending.request.has_latch ≡ false) × OnlyUpdatesShare rest

-- every update does
abbrev pub AllUpdatesShare : List PendingRequest → Type 0
AllUpdatesShare [] = ⊤
AllUpdatesShare (pending ∷ rest) = (is_read pending.request.op ≡ false → pending.request.has_latch ≡ true) × AllUpdatesShare rest

-- what the attempt in hand comes to by a reply
abbrev pub attempt_told : Seat → SessionState → ℕ → Ask TryAnswer
attempt_told k s reply = attempt_ask k.places k.number (attempt_next k.places (bits_of k) (room_of k) k.number s.attempt reply)

-- it ends as a shift. (The two faults are answered at calls alone, which they refuse.)
abbrev pub is_shift : Ask TryAnswer → Bool
is_shift (Done tried.Shift) = true
is_shift (Done tried.IndexFull) = true
is_shift (Done tried.LogFull) = true
is_shift ask = false

-- a share is added to a word that has bit 63
abbrev pub meets_exclusive : Ask Told → ℕ → Bool
meets_exclusive (Add place number) reply = is_exclusive reply
meets_exclusive ask reply = false

-- A reply by which an update is left waiting without its share: the session's second attempt at a call shifts, or one of a poll, or a share
-- that is taken as the session takes up a phase meets bit 63.
abbrev pub misses_at : Seat → SessionState → Sitting → ℕ → Bool
misses_at k s (Attempts true) reply = is_shift (attempt_told k s reply)
misses_at k s (Polls index) reply = is_shift (attempt_told k s reply)
misses_at k s (CatchesUp cause) reply = meets_exclusive (session_ask k s) reply
misses_at k s step reply = false

abbrev pub misses : Seat → SessionState → SessionEvent → Bool
misses k s (Replies reply) = misses_at k s s.step reply
misses k s event = false

-- there was one
unfoldable pub has_missed : Seat → SessionState → List SessionEvent → Bool
has_missed k first [] = false
has_missed k first (event ∷ before) = misses k (session_run k first before) event || has_missed k first before
