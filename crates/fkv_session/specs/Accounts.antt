-- What a session owes for the requests that it has accepted: the serials that it gave, and where each request is.
use Rattle.std.specs.Prelude.{◌≡◌, ℕ, zero, suc, ◌+◌, ◌<◌, ◌≤◌, ◌==◌, Bool, false, List, [], ◌∷◌, ◌++◌, length, map}
use Rattle.fkv_words.specs.Fields.{bit_of}
use Rattle.fkv_pending.specs.declared.pending_requests.PendingRequest.{PendingRequest}
use Rattle.fkv_pending.specs.declared.pending_requests.RequestName.{RequestName}
use Rattle.fkv_pending.specs.declared.pending_requests.RequestName.TheVariants.{Update, Read}
use Rattle.fkv_session.specs.declared.answers.Finished.{Finished}
use Rattle.fkv_session.specs.declared.answers.Finished.TheVariants as finished
use Rattle.fkv_session.specs.declared.answers.Told.{Told}
use Rattle.fkv_session.specs.declared.answers.Told.TheVariants as told
use Rattle.fkv_session.specs.SessionRun.{Telling}

-- the serial of an update that an answer accepts, before these
abbrev pub with_serial : Told → List ℕ → List ℕ
with_serial (told.Done serial its) serials = serial.0 ∷ serials
with_serial (told.Pending serial why) serials = serial.0 ∷ serials
with_serial its serials = serials

-- the serials that answers gave, the newest first
abbrev pub serials_given : List Telling → List ℕ
serials_given [] = []
serials_given (it ∷ before) = with_serial it.its (serials_given before)

-- so many serials behind the first one, the newest first
abbrev pub serials_after : ℕ → ℕ → List ℕ
serials_after first zero = []
serials_after first (suc count) = (first + suc count) ∷ serials_after first count

-- the name of a request that an answer leaves pending, before these
abbrev pub with_pending : Told → List RequestName → List RequestName
with_pending (told.Pending serial why) names = Update serial ∷ names
with_pending (told.PendingRead ticket) names = Read ticket ∷ names
with_pending its names = names

-- the requests that answers left pending
abbrev pub left_pending : List Telling → List RequestName
left_pending [] = []
left_pending (it ∷ before) = with_pending it.its (left_pending before)

-- the requests that wait
abbrev pub names_of : List PendingRequest → List RequestName
names_of requests = map (λ p. p.name) requests

abbrev pub name_finished : Finished → RequestName
name_finished (finished.Update serial its) = Update serial
name_finished (finished.Read ticket its) = Read ticket

-- the requests that a poll has finished
abbrev pub names_finished : List Finished → List RequestName
names_finished its = map name_finished its

-- the requests that polls told as finished
abbrev pub polled : List Telling → List RequestName
polled [] = []
polled (it ∷ before) = names_finished it.finished ++ polled before

-- how many of these are such
abbrev pub number_of : {A : Type 0} → (A → Bool) → List A → ℕ
number_of such [] = 0
number_of such (it ∷ rest) = bit_of (such it) + number_of such rest

-- Serials are given one after another, from the one behind the first on, and the last is the session's.
pub record AreInTurn (first serial : ℕ) (told : List Telling) : Type 0 where
  pub in_turn : serials_given told ≡ serials_after first (length (serials_given told))
  pub counted : serial ≡ first + length (serials_given told)

-- Of whatever requests one asks how many were left pending: so many wait, or were told as finished by a poll, each once.
abbrev pub AreAccountedFor : List Telling → List RequestName → List Finished → Type 0
AreAccountedFor told waiting in_hand = (such : RequestName → Bool) → number_of such (left_pending told) ≡ number_of such waiting + (number_of such (polled told) + number_of such (names_finished in_hand))

-- updates stand in the order of their serials, above the one and up to the other
abbrev pub RiseWithin : ℕ → ℕ → List RequestName → Type 0
RiseWithin low top [] = low ≤ top
RiseWithin low top (Update serial ∷ rest) = (low < serial.0) × RiseWithin serial.0 top rest
RiseWithin low top (Read ticket ∷ rest) = RiseWithin low top rest

-- the serials of updates that were done at their calls
abbrev pub done_before : Told → List ℕ → List ℕ
done_before (told.Done serial its) serials = serial.0 ∷ serials
done_before its serials = serials

abbrev pub serials_done : List Telling → List ℕ
serials_done [] = []
serials_done (it ∷ before) = done_before it.its (serials_done before)

abbrev pub is_update : ℕ → RequestName → Bool
is_update n (Update serial) = serial.0 == n
is_update n (Read ticket) = false

-- An update of a serial is done at its call, or waits, or was told as finished by a poll: just one of these, and once.
abbrev pub IsAnsweredOnce : List Telling → List RequestName → List Finished → ℕ → Type 0
IsAnsweredOnce told waiting in_hand n = number_of (λ s. s == n) (serials_done told) + (number_of (is_update n) waiting + (number_of (is_update n) (polled told) + number_of (is_update n) (names_finished in_hand))) ≡ 1
