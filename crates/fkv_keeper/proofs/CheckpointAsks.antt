-- Which words each machine inside the keeper changes, where its drain slot is one of the eight.
use Rattle.std.proofs.Common.{◌≡◌, ℕ, ◌<◌, inl, inr, refl}
use Rattle.std.specs.Prelude.{⊤}
use Rattle.fkv_base.specs.Limits.{drain_slots}
use Rattle.fkv_base.specs.declared.numbers.Version.{Version}
use Rattle.fkv_base.specs.declared.phases.Phase.{Phase}
use Rattle.fkv_base.specs.declared.shapes.Shape.{Shape}
use Rattle.fkv_plane.specs.declared.actions.Action.TheVariants as act
use Rattle.fkv_plane.specs.declared.asks.Ask.{Ask}
use Rattle.fkv_plane.specs.declared.asks.Ask.TheVariants.{Load, Store, Swap, Cas, Add, Max, Put, Take, Done}
use Rattle.fkv_plane.specs.declared.places.Places.{Places}
use Rattle.fkv_plane.specs.declared.places.SessionWord.TheVariants as own
use Rattle.fkv_plane.specs.declared.places.SharedWord.TheVariants as one
use Rattle.fkv_plane.specs.Passing.{passed}
use Rattle.fkv_plane.specs.Places.{Name, Shared, Drain, Session}
use Rattle.fkv_epoch.specs.declared.arming.Arming.{Arming}
use Rattle.fkv_epoch.specs.declared.arming.Arming.TheVariants as arm
use Rattle.fkv_epoch.specs.declared.claiming.Claiming.{Claiming}
use Rattle.fkv_epoch.specs.declared.claiming.Claiming.TheVariants as claim
use Rattle.fkv_epoch.specs.declared.raising.Raising.{Raising}
use Rattle.fkv_epoch.specs.declared.raising.Raising.TheVariants as raise
use Rattle.fkv_epoch.specs.declared.scanning.Scanning.{Scanning}
use Rattle.fkv_epoch.specs.declared.scanning.Scanning.TheVariants as scan
use Rattle.fkv_epoch.specs.Arming.{arm_ask}
use Rattle.fkv_epoch.specs.Claiming.{IsClaimInRange, claim_ask}
use Rattle.fkv_epoch.specs.Raising.{IsRaiseInRange, raise_ask}
use Rattle.fkv_epoch.specs.Scanning.{scan_ask}
use Rattle.fkv_log.specs.declared.moving.Moving.{Moving}
use Rattle.fkv_log.specs.declared.moving.Moving.TheVariants as move
use Rattle.fkv_log.specs.declared.moving.Offset.{Offset}
use Rattle.fkv_log.specs.declared.moving.Offset.TheVariants.{ReadOnly, Head}
use Rattle.fkv_log.specs.declared.shifting.Shifting.{Shifting}
use Rattle.fkv_log.specs.declared.shifting.Shifting.TheVariants as shift
use Rattle.fkv_log.specs.declared.turning.Turning.{Turning}
use Rattle.fkv_log.specs.declared.turning.Turning.TheVariants as turn
use Rattle.fkv_log.specs.Moving.{Mover, moving_ask, offset_place}
use Rattle.fkv_log.specs.Shifting.{shifting_ask}
use Rattle.fkv_log.specs.Turning.{turning_ask}
use Rattle.fkv_flush.specs.declared.flushing.Flushing.{Flushing}
use Rattle.fkv_flush.specs.declared.flushing.Flushing.TheVariants as flush
use Rattle.fkv_flush.specs.declared.serving.Serving.{Serving}
use Rattle.fkv_flush.specs.declared.serving.Serving.TheVariants as serve
use Rattle.fkv_flush.specs.Flushing.{flush_ask}
use Rattle.fkv_flush.specs.Serving.{serve_ask}
use Rattle.fkv_commit.specs.declared.deferring.Deferring.{Deferring}
use Rattle.fkv_commit.specs.declared.deferring.Deferring.TheVariants as defer
use Rattle.fkv_commit.specs.Deferring.{DeferState, deferring_ask}
use Rattle.fkv_keeper.specs.CheckpointLaws.{IsPlaceOf, ChangesOnly}

-- a slot that is about to be armed
abbrev pub IsArmIn : Arming → Type 0
IsArmIn arm.AtRest = ⊤
IsArmIn (arm.PutsAction slot epoch) = slot < drain_slots
IsArmIn (arm.StoresEpoch slot epoch) = slot < drain_slots

abbrev pub IsMoveIn : Moving → Raising → Arming → Type 0
IsMoveIn move.AtRest raising arming = ⊤
IsMoveIn (move.Raises target) raising arming = IsRaiseInRange raising
IsMoveIn (move.MovesOffset target) raising arming = IsRaiseInRange raising
IsMoveIn (move.Puts target slot) raising arming = IsArmIn arming
IsMoveIn move.Arms raising arming = IsArmIn arming

abbrev pub IsMoverIn : Mover → Type 0
IsMoverIn m = IsMoveIn m.step m.raising m.arming

abbrev pub IsShiftIn : Shifting → Mover → Type 0
IsShiftIn (shift.Moves tail) m = IsMoverIn m
IsShiftIn step m = ⊤

abbrev pub IsTurnIn : Turning → Mover → Type 0
IsTurnIn turn.Moves m = IsMoverIn m
IsTurnIn step m = ⊤

abbrev pub IsDeferIn : DeferState → Deferring → Type 0
IsDeferIn d (defer.Ended its) = ⊤
IsDeferIn d defer.Seeks = IsRaiseInRange d.raising
IsDeferIn d defer.Holds = IsRaiseInRange d.raising
IsDeferIn d (defer.Raises its) = IsRaiseInRange d.raising
IsDeferIn d (defer.Puts its slot epoch) = IsArmIn d.arming
IsDeferIn d (defer.Arms epoch) = IsArmIn d.arming

-- the words that a raise and an arming change
pub record HasDrain (words : Name → Type 0) : Type 0 where
  pub epoch : words (Shared one.Epoch)
  pub slots : (slot : ℕ) → slot < drain_slots → words (Drain slot)

pub passed_changes : {A B : Type 0} (words : Name → Type 0) (phases : Phase → Version → Type 0) (p : Places) (ask : Ask A) (answer : B) → ChangesOnly words phases p ask → ChangesOnly words phases p (passed ask answer)
unfolding passed
passed_changes words phases p (Load place) answer its = tt
passed_changes words phases p (Store place new) answer its = its
passed_changes words phases p (Swap place new) answer its = its
passed_changes words phases p (Cas place old new) answer its = its
passed_changes words phases p (Add place k) answer its = its
passed_changes words phases p (Max place k) answer its = its
passed_changes words phases p (Put slot action) answer its = tt
passed_changes words phases p (Take slot) answer its = tt
passed_changes words phases p (Done inner) answer its = tt

pub raise_changes : (words : Name → Type 0) (phases : Phase → Version → Type 0) (p : Places) (r : Raising) → HasDrain words → IsRaiseInRange r → ChangesOnly words phases p (raise_ask r)
unfolding raise_ask
raise_changes words phases p (raise.HoldsSlot slot) has fits = (Drain slot, has.slots slot fits, refl)
raise_changes words phases p (raise.RaisesEpoch slot) has fits = (Shared one.Epoch, has.epoch, refl)
raise_changes words phases p r has fits = tt

pub arm_changes : (words : Name → Type 0) (phases : Phase → Version → Type 0) (p : Places) (m : Arming) → HasDrain words → IsArmIn m → ChangesOnly words phases p (arm_ask m)
unfolding arm_ask
arm_changes words phases p (arm.StoresEpoch slot epoch) has fits = inl (Drain slot, has.slots slot fits, refl)
arm_changes words phases p m has fits = tt

pub defer_changes : (words : Name → Type 0) (phases : Phase → Version → Type 0) (p : Places) (d : DeferState) (step : Deferring) → HasDrain words → IsDeferIn d step → ChangesOnly words phases p (deferring_ask d step)
unfolding deferring_ask
defer_changes words phases p d (defer.Ended its) has fits = tt
defer_changes words phases p d defer.Seeks has fits = passed_changes words phases p (raise_ask d.raising) _ (raise_changes words phases p d.raising has fits)
defer_changes words phases p d defer.Holds has fits = tt
defer_changes words phases p d (defer.Raises its) has fits = passed_changes words phases p (raise_ask d.raising) _ (raise_changes words phases p d.raising has fits)
defer_changes words phases p d (defer.Puts its slot epoch) has fits = tt
defer_changes words phases p d (defer.Arms epoch) has fits = passed_changes words phases p (arm_ask d.arming) _ (arm_changes words phases p d.arming has fits)

-- the words of a moved offset
pub record HasOffsets (words : Name → Type 0) : Type 0 where
  pub read_only : words (Shared one.ReadOnly)
  pub head : words (Shared one.Head)

offset_changes : (words : Name → Type 0) (p : Places) (offset : Offset) → HasOffsets words → IsPlaceOf words p (offset_place offset)
offset_changes words p ReadOnly has = (Shared one.ReadOnly, has.read_only, refl)
offset_changes words p Head has = (Shared one.Head, has.head, refl)

pub move_changes : (words : Name → Type 0) (phases : Phase → Version → Type 0) (p : Places) (step : Moving) (raising : Raising) (arming : Arming) → HasDrain words → HasOffsets words → IsMoveIn step raising arming → ChangesOnly words phases p (moving_ask step raising arming)
unfolding moving_ask
move_changes words phases p move.AtRest raising arming has offsets fits = tt
move_changes words phases p (move.Raises target) raising arming has offsets fits = passed_changes words phases p (raise_ask raising) _ (raise_changes words phases p raising has fits)
move_changes words phases p (move.MovesOffset target) raising arming has offsets fits = offset_changes words p target.offset offsets
move_changes words phases p (move.Puts target slot) raising arming has offsets fits = tt
move_changes words phases p move.Arms raising arming has offsets fits = passed_changes words phases p (arm_ask arming) _ (arm_changes words phases p arming has fits)

pub shift_changes : (words : Name → Type 0) (phases : Phase → Version → Type 0) (p : Places) (step : Shifting) (m : Mover) → HasDrain words → HasOffsets words → IsShiftIn step m → ChangesOnly words phases p (shifting_ask step m)
unfolding shifting_ask
shift_changes words phases p (shift.Moves tail) m has offsets fits = passed_changes words phases p (moving_ask m.step m.raising m.arming) _ (move_changes words phases p m.step m.raising m.arming has offsets fits)
shift_changes words phases p step m has offsets fits = tt

pub turn_changes : (words : Name → Type 0) (phases : Phase → Version → Type 0) (p : Places) (shape : Shape) (step : Turning) (m : Mover) → HasDrain words → HasOffsets words → words (Shared one.Limit) → IsTurnIn step m → ChangesOnly words phases p (turning_ask shape step m)
unfolding turning_ask
turn_changes words phases p shape turn.Moves m has offsets limit fits = passed_changes words phases p (moving_ask m.step m.raising m.arming) _ (move_changes words phases p m.step m.raising m.arming has offsets fits)
turn_changes words phases p shape (turn.RaisesLimit end) m has offsets limit fits = (Shared one.Limit, limit, refl)
turn_changes words phases p shape step m has offsets limit fits = tt

pub scan_changes : (words : Name → Type 0) (phases : Phase → Version → Type 0) (p : Places) (m : Scanning) → words (Shared one.SafeEpoch) → ChangesOnly words phases p (scan_ask m)
unfolding scan_ask
scan_changes words phases p (scan.RaisesSafe least) safe = (Shared one.SafeEpoch, safe, refl)
scan_changes words phases p m safe = tt

-- the words of an action, and its phase
pub record HasActions (words : Name → Type 0) (phases : Phase → Version → Type 0) (claiming : Claiming) : Type 0 where
  pub safe : words (Shared one.SafeReadOnly)
  pub closed : words (Shared one.Closed)
  pub stores : (slot epoch safe : ℕ) (its : Phase) (version : Version) → claiming ≡ claim.Runs slot epoch safe (act.Phase its version) → phases its version

pub claim_changes : (words : Name → Type 0) (phases : Phase → Version → Type 0) (p : Places) (m : Claiming) → HasDrain words → HasActions words phases m → IsClaimInRange m → ChangesOnly words phases p (claim_ask m)
unfolding claim_ask
claim_changes words phases p (claim.TakesSlot slot word safe) has actions fits = (Drain slot, has.slots slot fits, refl)
claim_changes words phases p (claim.FreesSlot slot safe) has actions fits = inl (Drain slot, has.slots slot fits, refl)
claim_changes words phases p (claim.Runs slot epoch safe (act.SafeReadOnly addr)) has actions fits = (Shared one.SafeReadOnly, actions.safe, refl)
claim_changes words phases p (claim.Runs slot epoch safe (act.Close addr)) has actions fits = (Shared one.Closed, actions.closed, refl)
claim_changes words phases p (claim.Runs slot epoch safe (act.Phase its version)) has actions fits = inr (its, version, actions.stores slot epoch safe its version refl, refl, refl)
claim_changes words phases p m has actions fits = tt

pub flush_changes : (words : Name → Type 0) (phases : Phase → Version → Type 0) (p : Places) (m : Flushing) → words (Shared one.Flushed) → ChangesOnly words phases p (flush_ask p m)
unfolding flush_ask
flush_changes words phases p (flush.RaisesFlushed end) flushed = (Shared one.Flushed, flushed, refl)
flush_changes words phases p m flushed = tt

-- the words of a mailbox
pub record HasMail (words : Name → Type 0) : Type 0 where
  pub state : (session : ℕ) → words (Session session own.MailState)
  pub header : (session : ℕ) → words (Session session own.MailHeader)
  pub key : (session : ℕ) → words (Session session own.MailKey)
  pub value : (session : ℕ) → words (Session session own.MailValue)

pub serve_changes : (words : Name → Type 0) (phases : Phase → Version → Type 0) (p : Places) (m : Serving) → HasMail words → ChangesOnly words phases p (serve_ask m)
unfolding serve_ask
serve_changes words phases p (serve.StoresHeader session mail) has = inl (Session session own.MailHeader, has.header session, refl)
serve_changes words phases p (serve.StoresKey session mail) has = inl (Session session own.MailKey, has.key session, refl)
serve_changes words phases p (serve.StoresValue session mail) has = inl (Session session own.MailValue, has.value session, refl)
serve_changes words phases p (serve.StoresReady session) has = inl (Session session own.MailState, has.state session, refl)
serve_changes words phases p m has = tt
