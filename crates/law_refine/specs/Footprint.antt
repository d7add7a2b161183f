-- The parts of the words that a law follows by itself, and the frame condition: which asks leave a part as it is, whatever its words are.
use Rattle.std.specs.Prelude.{◌≡◌, ◌≢◌, ◌⊎◌, ◌<◌, ◌≤◌, ◌%◌, ◌^◌, ℕ, ⊤, Bool, true, false}
use Rattle.fkv_plane.specs.declared.actions.Action.TheVariants as act
use Rattle.fkv_plane.specs.declared.asks.Ask.{Ask}
use Rattle.fkv_plane.specs.declared.asks.Ask.TheVariants.{Load, Store, Swap, Cas, Add, Max, Put, Take, Done}
use Rattle.fkv_plane.specs.declared.places.Places.{Places}
use Rattle.fkv_plane.specs.declared.places.SessionWord.{SessionWord}
use Rattle.fkv_plane.specs.declared.places.SessionWord.TheVariants as own
use Rattle.fkv_plane.specs.declared.places.SharedWord.TheVariants as one
use Rattle.fkv_plane.specs.Places.{shared_place, session_place, bucket_place}
use Rattle.fkv_epoch.specs.declared.claiming.Claiming.{Claiming}
use Rattle.fkv_epoch.specs.declared.claiming.Claiming.TheVariants as claim
use Rattle.fkv_index.specs.IndexWorld.{is_bucket_place}
use Rattle.fkv_index.specs.Slots.{link_of}
use Rattle.fkv_latch.specs.LatchWorld.{has_latch, latch_of}

-- words of a session that stand side by side: its cut words and its owing word, its durable word, and its mailbox
pub data OwnWords : Type 0 where
  Marks : OwnWords
  Durable : OwnWords
  Mail : OwnWords

-- from this one to that one
abbrev pub first_word : OwnWords → SessionWord
first_word Marks = own.EvenCut
first_word Durable = own.Durable
first_word Mail = own.MailState

abbrev pub last_word : OwnWords → SessionWord
last_word Marks = own.Owing
last_word Durable = own.Durable
last_word Mail = own.MailValue

-- the index, the latches of its buckets, the phase word, and such words of one session
pub data Part : Type 0 where
  TheIndex : Part
  TheLatches : Part
  ThePhase : Part
  OfSession : ℕ → OwnWords → Part

abbrev pub TheMarks : ℕ → Part
TheMarks session = OfSession session Marks

abbrev pub TheDurable : ℕ → Part
TheDurable session = OfSession session Durable

abbrev pub TheMailbox : ℕ → Part
TheMailbox session = OfSession session Mail

-- neither the count of taken overflow buckets nor a word of a bucket is there
pub record IsElsewhere (p : Places) (place : ℕ) : Type 0 where
  pub no_count : place ≢ shared_place one.Taken
  pub no_bucket : is_bucket_place p place ≡ false

-- one of these words of a session is there
pub record IsAmong (session : ℕ) (its : OwnWords) (place : ℕ) : Type 0 where
  pub from : session_place session (first_word its) ≤ place
  pub to : place ≤ session_place session (last_word its)

-- no word of this part is there
abbrev pub IsOutside : Part → Places → ℕ → Type 0
IsOutside TheIndex p place = IsElsewhere p place
IsOutside TheLatches p place = has_latch p place ≡ false
IsOutside ThePhase p place = place ≢ shared_place one.Phase
IsOutside (OfSession session its) p place = session < p.sessions → IsAmong session its place → ⊥

-- the eighth word of some bucket
pub record IsEighth (p : Places) (place : ℕ) : Type 0 where
  pub bucket : ℕ
  pub at : place ≡ bucket_place p bucket 7

-- A bucket's eighth word has a link below and a latch above it. So the index lets it change above its link, and the latches below.
abbrev pub MaySet : Part → Places → ℕ → ℕ → ℕ → Type 0
MaySet TheIndex p place old new = IsEighth p place × (link_of new ≡ link_of old)
MaySet TheLatches p place old new = latch_of new ≡ latch_of old
MaySet ThePhase p place old new = ⊥
MaySet (OfSession session its) p place old new = ⊥

abbrev pub MayAdd : Part → Places → ℕ → ℕ → Type 0
MayAdd TheIndex p place k = IsEighth p place × (k % 2 ^ 48 ≡ 0)
MayAdd part p place k = ⊥

-- An ask spares a part: it loads, its word is none of the part's, or it changes the word where the part lets it change.
abbrev pub Spares : {A : Type 0} → Part → Places → Ask A → Type 0
Spares part p (Load place) = ⊤
Spares part p (Store place word) = IsOutside part p place
Spares part p (Swap place word) = IsOutside part p place
Spares part p (Cas place old new) = IsOutside part p place ⊎ MaySet part p place old new
Spares part p (Add place k) = IsOutside part p place ⊎ MayAdd part p place k
Spares part p (Max place k) = IsOutside part p place
Spares part p (Put slot action) = ⊤
Spares part p (Take slot) = ⊤
Spares part p (Done its) = ⊤

-- a claimer is about to run an action that stores a phase
abbrev pub stores_phase : Claiming → Bool
stores_phase (claim.Runs slot epoch safe (act.Phase phase version)) = true
stores_phase step = false

-- A session is one of the store's, or its number is no matter: no word of a session is one of another's.
abbrev pub HasSeat : Part → Places → ℕ → Type 0
HasSeat (OfSession session its) p number = ⊤
HasSeat part p number = number < p.sessions

-- so is each of so many
abbrev pub HasSeats : Part → Places → ℕ → Type 0
HasSeats (OfSession session its) p count = ⊤
HasSeats part p count = count ≤ p.sessions
