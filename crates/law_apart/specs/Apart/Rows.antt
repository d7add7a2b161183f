-- What updates know of the versions at their homes, by control state: those that share a latch, and those that make a new record.
use Rattle.std.specs.Prelude.{◌≡◌, ◌⊎◌, ◌+◌, ◌<◌, ◌≤◌, ◌||◌, ⊤, ℕ, Bool, true, false, List, Option, Some, None}
use Rattle.fkv_base.specs.declared.numbers.Version.{Version}
use Rattle.fkv_marks.specs.Marks.{mark}
use Rattle.fkv_plane.specs.declared.asks.Ask.TheVariants.{Done}
use Rattle.fkv_plane.specs.declared.places.Places.{Places}
use Rattle.fkv_plane.specs.Passing.{is_done}
use Rattle.fkv_latch.specs.declared.latching.Latching.{Latching}
use Rattle.fkv_latch.specs.declared.latching.Latching.TheVariants as latching
use Rattle.fkv_index.specs.declared.finding.FindAnswer.{FindAnswer}
use Rattle.fkv_index.specs.declared.finding.FindStep.{FindStep}
use Rattle.fkv_index.specs.declared.finding.FindStep.TheVariants.{AtRest, LinksBucket, LoadsLink, LoadsTaken, TakesBucket}
use Rattle.fkv_index.specs.declared.finding.Finding.{Finding}
use Rattle.fkv_index.specs.declared.finding.Found.{Found}
use Rattle.fkv_index.specs.declared.finding.Found.TheVariants.{Contended, Full, Kept}
use Rattle.fkv_index.specs.declared.finding.Linking.{Linking}
use Rattle.fkv_index.specs.declared.finding.Linking.TheVariants.{Made}
use Rattle.fkv_index.specs.Finding.{find_next_ask}
use Rattle.fkv_index.specs.Slots.{link_of}
use Rattle.fkv_words.specs.PhaseWords.{phase_said}
use Rattle.law_log.specs.Chains.{Cell, Published, head_of, version_at}
use Rattle.law_log.specs.Ghosts.{Log}
use Rattle.law_log.specs.Enabled.{IsFixed}
use Rattle.law_log.specs.Trace.{IsIn}
use Rattle.law_local.specs.Below.fkv_ops.Request.{Request}
use Rattle.law_local.specs.Below.fkv_ops.Seen.{Seen}
use Rattle.law_local.specs.Below.fkv_ops.TheTrying.{Trying}
use Rattle.law_local.specs.Below.fkv_ops.TheTrying.TheVariants.{Appends, DropsExclusive, LoadsOld, LoadsPhase, TakesShared, Walks}
use Rattle.law_local.specs.Below.fkv_ops.WalkAnswer.{WalkAnswer}
use Rattle.law_local.specs.Below.fkv_ops.WalkAnswer.TheVariants as walked
use Rattle.law_local.specs.Below.fkv_ops.TheWalking.{Walking}
use Rattle.law_local.specs.Below.fkv_ops.TheWalking.TheVariants.{Ended, Finds, HasFound, Meets}
use Rattle.law_local.specs.Below.fkv_ops.Trying.{TryState, is_next_marked, is_still_in, is_moving_on, is_prepare, is_wait, try_ask}
use Rattle.law_local.specs.Below.fkv_ops.Walking.{WalkState}
use Rattle.law_local.specs.Below.fkv_pending.TheAttempting.{Attempting}
use Rattle.law_local.specs.Below.fkv_pending.TheAttempting.TheVariants.{Tries}
use Rattle.law_local.specs.Below.fkv_pending.PendingRequest.{PendingRequest}
use Rattle.law_local.specs.Below.fkv_pending.Attempting.{AttemptState}
use Rattle.law_local.specs.Below.fkv_session.Sessions.{SessionState}
use Rattle.law_local.specs.Sessions.Known.{KnowsRequests}
use Rattle.law_local.specs.Tries.OnWay.{IsFoundAt}
use Rattle.law_local.specs.Tries.TryRows.{IsUpdate, NoneIsLater, head_in, key_in}
use Rattle.law_local.specs.Tries.WalkRows.{begin_of}

-- ---- a later version at a request's home
-- a record of a later version than the request's stands in the chain of its home
abbrev pub IsLater : (ℕ → ℕ) → Log → Request → ℕ → Type 0
IsLater home log request a = IsIn a (log.chains (home (key_in request))) × (request.version.0 < version_at (log.cells a))

-- If there is one, the record at this address is of a later version too, and the session may meet it in memory.
abbrev pub ShowsLater : (ℕ → ℕ) → Log → Request → Seen → ℕ → Type 0
ShowsLater home log request seen from = (a : ℕ) → IsLater home log request a → (head_in seen ≤ from) × (request.version.0 < version_at (log.cells from))

-- ---- what a walk has met first
-- the header of the record to which its entry leads has said this mark of the record's version
pub record HasMet (log : Log) (from : ℕ) (said : Version) : Type 0 where
  pub cell : Cell
  pub its : log.cells from ≡ Published cell
  pub its_mark : said.0 ≡ mark cell.version

-- or it has met none yet, and comes to that record
abbrev pub HasComeTo : Log → ℕ → Option Version → ℕ → Type 0
HasComeTo log from None at = at ≡ from
HasComeTo log from (Some said) at = HasMet log from said

abbrev pub HasMetFirst : Log → ℕ → Option Version → Type 0
HasMetFirst log from None = ⊥
HasMetFirst log from (Some said) = HasMet log from said

-- what it has met first is some record of the chain
pub record MetAt (log : Log) (chain : List ℕ) (said : Version) : Type 0 where
  pub at : ℕ
  pub is_in : IsIn at chain
  pub met : HasMet log at said

abbrev pub MetIn : Log → List ℕ → Option Version → Type 0
MetIn log chain None = ⊤
MetIn log chain (Some said) = MetAt log chain said

-- ---- a search that links an overflow bucket
abbrev pub is_link_step : FindStep → Bool
is_link_step (LoadsTaken word) = true
is_link_step (TakesBucket word taken) = true
is_link_step (LinksBucket word) = true
is_link_step step = false

abbrev pub has_linked : Linking → Bool
has_linked Made = true
has_linked linking = false

-- it takes a bucket, links it or has linked it
abbrev pub is_linking : Finding → Bool
is_linking f = is_link_step f.step || has_linked f.linking

-- the search has found neither a slot nor that there is none
abbrev pub is_lost : Found → Bool
is_lost Full = true
is_lost Kept = true
is_lost Contended = true
is_lost found = false

-- ---- the walk of an update that has taken its share in prepare
-- as it has ended, if it was not for want of a slot
abbrev pub EndApart : (ℕ → ℕ) → Log → Request → Seen → WalkState → WalkAnswer → Type 0
EndApart home log request seen w (walked.Found addr version) = ShowsLater home log request seen (begin_of w) × HasMetFirst log (begin_of w) w.first
EndApart home log request seen w walked.Nowhere = ShowsLater home log request seen (begin_of w) × HasComeTo log (begin_of w) w.first 0
EndApart home log request seen w (walked.OnDisk addr) = ShowsLater home log request seen (begin_of w) × HasComeTo log (begin_of w) w.first addr.0 × (addr.0 < head_in seen)
EndApart home log request seen w its = ⊥

-- a search is under way and doesn't link, or the record to which the entry leads shows what is later
abbrev pub WalkApart : (ℕ → ℕ) → Log → Request → Seen → WalkState → Walking → Type 0
WalkApart home log request seen w Finds = (w.first ≡ None) × (w.finding.step ≡ AtRest → ⊥) × (is_linking w.finding ≡ false)
WalkApart home log request seen w (Meets addr) = ShowsLater home log request seen (begin_of w) × HasComeTo log (begin_of w) w.first addr.0
WalkApart home log request seen w (HasFound addr version) = EndApart home log request seen w (walked.Found addr version)
WalkApart home log request seen w (Ended (walked.Found addr version)) = ⊥
WalkApart home log request seen w (Ended its) = EndApart home log request seen w its
WalkApart home log request seen w step = ⊥

-- it is under way
abbrev pub IsUnderWay : Walking → Type 0
IsUnderWay Finds = ⊤
IsUnderWay (Meets addr) = ⊤
IsUnderWay step = ⊥

-- ---- tries
-- its home has no later version, so it has met none
abbrev pub KnowsNone : (ℕ → ℕ) → Log → TryState → Type 0
KnowsNone home log t = NoneIsLater home log t.request × MetIn log (log.chains (home (key_in t.request))) t.walk.first

-- Of one that shares its latch: no record of its home is of a later version than its request, from where its walk has ended. One whose request came with
-- its share knows it from the start. One that searches in prepare, and has to link, knows it because its home was empty. One that loads the phase word is
-- told it by that, and any other goes by the mark of the first record.
abbrev pub SharesRow : (ℕ → ℕ) → Log → TryState → Trying → Type 0
SharesRow home log t TakesShared = ⊤
SharesRow home log t LoadsPhase = ⊤
SharesRow home log t Walks = KnowsNone home log t ⊎ ((is_prepare t.seen.phase ≡ true) × IsUnderWay t.walk.step × WalkApart home log t.request t.seen t.walk t.walk.step × (t.request.has_latch ≡ false) × (is_next_marked t.request.version ≡ false))
SharesRow home log t (DropsExclusive its) = is_wait its ≡ true → NoneIsLater home log t.request
SharesRow home log t step = NoneIsLater home log t.request

-- the session goes on to the next version, and the request is of that one
abbrev pub MovesOn : TryState → Type 0
MovesOn t = (is_moving_on t.seen.phase ≡ true) × (t.request.version.0 ≡ t.seen.version.0)

-- the first record of the request's key from an address on is of its version, and fixed
pub record HasOwn (home : ℕ → ℕ) (log : Log) (request : Request) (from : ℕ) : Type 0 where
  pub at : ℕ
  pub found : IsFoundAt home log (key_in request) from at request.version.0
  pub fixed : IsFixed log at

-- then one that makes a new record holds its latch alone, or copies a record of its version
abbrev pub CopiesApart : (ℕ → ℕ) → Log → TryState → Type 0
CopiesApart home log t = MovesOn t → (t.has_exclusive ≡ true) ⊎ HasOwn home log t.request (begin_of t.walk)

abbrev pub CopiesRow : (ℕ → ℕ) → Log → TryState → Trying → Type 0
CopiesRow home log t LoadsOld = CopiesApart home log t
CopiesRow home log t (Appends its) = CopiesApart home log t
CopiesRow home log t step = ⊤

-- it takes its share in prepare, where its request came without, and has begun to drop what it has held alone
abbrev pub IsDropping : Latching → Type 0
IsDropping (latching.DropsExclusive place) = ⊤
IsDropping step = ⊥

abbrev pub LatchRow : TryState → Trying → Type 0
LatchRow t TakesShared = (is_prepare t.seen.phase ≡ true) × (t.has_shared ≡ false) × (t.request.has_latch ≡ false)
LatchRow t LoadsPhase = (is_prepare t.seen.phase ≡ true) × (t.has_shared ≡ true) × (t.request.has_latch ≡ false)
LatchRow t (DropsExclusive its) = IsDropping t.latching
LatchRow t step = ⊤

pub record TryApart (home : ℕ → ℕ) (log : Log) (t : TryState) : Type 0 where
  pub latch : LatchRow t t.step
  pub shares : t.has_shared ≡ true → SharesRow home log t t.step
  pub copies : CopiesRow home log t t.step

-- ---- requests that wait, and attempts
-- if one that waits shares its latch, no record of its home is of a later version
abbrev pub PendingApart : (ℕ → ℕ) → Log → PendingRequest → Type 0
PendingApart home log pending = pending.request.has_latch ≡ true → NoneIsLater home log pending.request

-- while an attempt tries its try is under way
abbrev pub AttemptApart : (ℕ → ℕ) → Places → Log → AttemptState → Attempting → Type 0
AttemptApart home p log a Tries = TryApart home log a.trial × (is_done (try_ask p a.trial) ≡ false)
AttemptApart home p log a step = PendingApart home log a.pending

-- of a session
abbrev pub SessionApart : (ℕ → ℕ) → Places → Log → SessionState → Type 0
SessionApart home p log s = KnowsRequests (PendingApart home log) (λ a. AttemptApart home p log a a.step) s

-- what an attempt shares of its latch: what its try does, or its request
abbrev pub shares_now : AttemptState → Attempting → Bool
shares_now a Tries = a.trial.has_shared
shares_now a step = a.pending.request.has_latch

-- ---- what is given
-- Headers have marks alone. Beside an update no record is of a version past the next one. From the read-only offset on that its session has seen none is more than
-- one version older.
pub record AreNear (log : Log) (request : Request) (seen : Seen) : Type 0 where
  pub below : (a : ℕ) → version_at (log.cells a) ≤ request.version.0 + 1
  pub above : (a : ℕ) (cell : Cell) → seen.offsets.read_only.0 ≤ a → log.cells a ≡ Published cell → request.version.0 ≤ cell.version + 1

-- so it is beside the update of a try
abbrev pub VersionsNear : Log → TryState → Type 0
VersionsNear log t = IsUpdate t.request → AreNear log t.request t.seen

-- What a search is told. It is lost only if it links. At the load of an eighth word that leads nowhere its home is empty.
pub record SearchTells (log : Log) (h : ℕ) (p : Places) (f : Finding) (reply : ℕ) : Type 0 where
  pub lost : (its : FindAnswer) → (f.step ≡ AtRest → ⊥) → find_next_ask p f reply ≡ Done its → is_lost its.found ≡ true → is_linking f ≡ true
  pub empty : f.step ≡ LoadsLink → link_of reply ≡ 0 → head_of (log.chains h) ≡ 0

-- What the log and the words tell a try in prepare. What is of a later version lies at or above the head that its session has seen. All of its home lies
-- within a ring from there.
pub record TellsApart (home : ℕ → ℕ) (log : Log) (p : Places) (t : TryState) (reply : ℕ) : Type 0 where
  pub above : (a : ℕ) → IsLater home log t.request a → head_in t.seen ≤ a
  pub in_ring : (a : ℕ) → IsIn a (log.chains (home (key_in t.request))) → a < head_in t.seen + p.ring
  pub search : t.walk.step ≡ Finds → SearchTells log (home (key_in t.request)) p t.walk.finding reply

-- so it is of one that walks and shares its latch
abbrev pub TellsSharer : (ℕ → ℕ) → Log → Places → TryState → ℕ → Type 0
TellsSharer home log p t reply = t.step ≡ Walks → t.has_shared ≡ true → is_prepare t.seen.phase ≡ true → TellsApart home log p t reply

-- A try that has its share, and loads the phase word: if that says prepare of its version still, no record of its home is of a later one.
abbrev pub TellsPhase : (ℕ → ℕ) → Log → TryState → ℕ → Type 0
TellsPhase home log t reply = t.step ≡ LoadsPhase → t.has_shared ≡ true → is_still_in (phase_said reply) t.request.version ≡ true → NoneIsLater home log t.request

-- ---- what others leave
-- a chain that has no record of a later version than this gets none
abbrev pub RaisesNone : Log → Log → ℕ → ℕ → Type 0
RaisesNone log after h version = (a : ℕ) → IsIn a (after.chains h) → version < version_at (after.cells a) → (b : ℕ) × IsIn b (log.chains h) × (version < version_at (log.cells b))
