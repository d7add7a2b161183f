-- The try of an update never ends as a read's does: it finds no value, and no absence.
use Rattle.std.proofs.Common.{◌≡◌, ℕ, Bool, true, false}
use Rattle.std.specs.Prelude.{Option, Some, None, if◌then◌else◌, ◌==◌, ◌&&◌, not, nat_le, ◌||◌}
use Rattle.fkv_base.specs.declared.numbers.Addr.{Addr}
use Rattle.fkv_base.specs.declared.numbers.Version.{Version}
use Rattle.fkv_log.specs.declared.regions.Region.{Region}
use Rattle.fkv_map.specs.declared.operations.Reply.{Reply}
use Rattle.fkv_map.specs.Keys.{key_of}
use Rattle.fkv_words.specs.declared.phase_words.PhaseSaid.{PhaseSaid}
use Rattle.fkv_words.specs.PhaseWords.{phase_said}
use Rattle.fkv_plane.specs.declared.asks.Ask.{Ask}
use Rattle.fkv_plane.specs.declared.asks.Ask.TheVariants.{Done}
use Rattle.fkv_plane.specs.declared.places.Places.{Places}
use Rattle.fkv_latch.specs.declared.latching.LatchAnswer.{LatchAnswer}
use Rattle.fkv_latch.specs.declared.latching.LatchAnswer.TheVariants as latch
use Rattle.fkv_latch.specs.declared.latching.LatchTask.TheVariants.{TakeShared}
use Rattle.fkv_ops.specs.declared.answers.Reason.TheVariants as reason
use Rattle.fkv_ops.specs.declared.answers.TryAnswer.{TryAnswer}
use Rattle.fkv_ops.specs.declared.answers.TryAnswer.TheVariants as answer
use Rattle.fkv_ops.specs.declared.appending.AppendAnswer.{AppendAnswer}
use Rattle.fkv_ops.specs.declared.appending.AppendAnswer.TheVariants as append
use Rattle.fkv_ops.specs.declared.requests.HeldRecord.{HeldRecord}
use Rattle.fkv_ops.specs.declared.requests.Occasion.{Occasion}
use Rattle.fkv_ops.specs.declared.requests.Occasion.TheVariants.{Call, Poll}
use Rattle.fkv_ops.specs.declared.requests.Request.{Request}
use Rattle.fkv_ops.specs.declared.requests.Seen.{Seen}
use Rattle.fkv_ops.specs.declared.trying.OldValue.{OldValue}
use Rattle.fkv_ops.specs.declared.trying.OldValue.TheVariants.{InMemory, Known}
use Rattle.fkv_ops.specs.declared.trying.Trying.{Trying}
use Rattle.fkv_ops.specs.declared.trying.Trying.TheVariants as try
use Rattle.fkv_ops.specs.declared.walking.WalkAnswer.{WalkAnswer}
use Rattle.fkv_ops.specs.declared.walking.WalkAnswer.TheVariants as walk
use Rattle.fkv_ops.specs.declared.answers.Waiting.{Waiting}
use Rattle.fkv_ops.specs.declared.answers.Waiting.TheVariants.{For, ForRecord}
use Rattle.fkv_ops.specs.Bounds.{bounds_at, is_past_taken, is_past_tail}
use Rattle.fkv_ops.specs.Waiting.{told_of}
use Rattle.fkv_ops.specs.Requests.{is_read, is_blind, is_chain_end}
use Rattle.fkv_ops.specs.Trying.{TryState, try_begun, wants_shared, with_latch, walks, is_bounded, ends, ends_so, tail_loaded, taken_loaded, must_count, count_loaded, ended_without, is_wait, takes_effect, full_at, is_next_marked, shared_ledto, is_still_in, phase_loaded, is_surely_own, wants_exclusive, copies_from, copies, appends, awaits, held_used, changes, is_own_version, region_met, walked, has_walked, must_shift, walk_ledto, safe_loaded, current_ledto, value_changed, exclusive_ledto, old_ledto, append_ledto, exclusive_dropped, shared_dropped, trying_next, try_next, new_try}

-- no answer of a read
abbrev pub IsUpdateEnd : TryAnswer → Type 0
IsUpdateEnd (answer.Found value) = ⊥
IsUpdateEnd answer.Absent = ⊥
IsUpdateEnd its = Unit {0}

abbrev pub IsUpdateStep : Trying → Type 0
IsUpdateStep (try.Ended its) = IsUpdateEnd its
IsUpdateStep (try.DropsExclusive its) = IsUpdateEnd its
IsUpdateStep (try.DropsShared its) = IsUpdateEnd its
IsUpdateStep try.LoadsAnswer = ⊥
IsUpdateStep step = Unit {0}

pub record IsUpdateTry (t : TryState) : Type 0 where
  pub update : is_read t.request.op ≡ false
  pub step : IsUpdateStep t.step

either_update : (c : Bool) (a b : TryState) → IsUpdateTry a → IsUpdateTry b → IsUpdateTry (if c then a else b)
either_update true a b one other = one
either_update false a b one other = other

-- of a test that is false only what is else
else_update : (c : Bool) (a b : TryState) → c ≡ false → IsUpdateTry b → IsUpdateTry (if c then a else b)
else_update true a b e other = cc
else_update false a b e other = other

ended_update : (p : Places) (t : TryState) (its : TryAnswer) → is_read t.request.op ≡ false → IsUpdateEnd its → IsUpdateTry (ended_without p t its)
ended_update p t its e end = either_update (t.has_shared && not (is_wait its)) _ (record t { step = try.Ended its }) (record { update = e; step = end }) (record { update = e; step = end })

ends_so_update : (p : Places) (t : TryState) (its : TryAnswer) → is_read t.request.op ≡ false → IsUpdateEnd its → IsUpdateTry (ends_so p t its)
unfolding ends_so
ends_so_update p t its e end = either_update t.has_exclusive _ (ended_without p t its) (record { update = e; step = end }) (ended_update p t its e end)

ends_update : (p : Places) (t : TryState) (its : TryAnswer) → is_read t.request.op ≡ false → IsUpdateEnd its → IsUpdateTry (ends p t its)
unfolding ends
ends_update p t (answer.Wait it) e end = either_update (is_bounded t) _ (ends_so p t (answer.Wait it)) (record { update = e; step = tt }) (ends_so_update p t (answer.Wait it) e end)
ends_update p t (answer.AwaitsDisk it) e end = either_update (is_bounded t) _ (ends_so p t (answer.AwaitsDisk it)) (record { update = e; step = tt }) (ends_so_update p t (answer.AwaitsDisk it) e end)
ends_update p t its e end = ends_so_update p t its e end

waits_end : (waiting : Waiting) → IsUpdateEnd (told_of waiting)
waits_end (For reason) = tt
waits_end (ForRecord its) = tt

tail_update : (p : Places) (t : TryState) (waiting : Waiting) (tail : ℕ) → is_read t.request.op ≡ false → IsUpdateTry (tail_loaded p t waiting tail)
unfolding tail_loaded
tail_update p t waiting tail e =
    either_update (is_past_tail (bounds_at t.occasion) tail) (ends_so p t answer.LogFull) _ (ends_so_update p t answer.LogFull e tt)
    (either_update (t.walk.entry == 0) (record t { step = try.LoadsTaken waiting }) (ends_so p t (told_of waiting)) (record { update = e; step = tt }) (ends_so_update p t (told_of waiting) e (waits_end waiting)))

taken_update : (p : Places) (t : TryState) (waiting : Waiting) (taken : ℕ) → is_read t.request.op ≡ false → IsUpdateTry (taken_loaded p t waiting taken)
unfolding taken_loaded
taken_update p t waiting taken e =
    either_update (is_past_taken (bounds_at t.occasion) taken) (ends_so p t answer.IndexFull) (ends_so p t (told_of waiting)) (ends_so_update p t answer.IndexFull e tt) (ends_so_update p t (told_of waiting) e (waits_end waiting))

takes_update : (p : Places) (t : TryState) (its : Reply) → is_read t.request.op ≡ false → IsUpdateTry (takes_effect p t its)
takes_update p t its e = ends_update p (record t { effect = Some its }) (answer.Done its) e tt

appends_update : (t : TryState) (old : ℕ) → is_read t.request.op ≡ false → IsUpdateTry (appends t old)
unfolding appends
appends_update t old e = record { update = e; step = tt }

from_update : (t : TryState) (old : OldValue) → is_read t.request.op ≡ false → IsUpdateTry (copies_from t old)
unfolding copies_from
from_update t (Known old) e = appends_update t old e
from_update t InMemory e = either_update (is_blind t.request.op) (appends t _) _ (appends_update t _ e) (record { update = e; step = tt })

copies_update : (p : Places) (t : TryState) (old : OldValue) (is_current : Bool) → is_read t.request.op ≡ false → IsUpdateTry (copies p t old is_current)
unfolding copies
copies_update p t old is_current e = either_update (wants_exclusive t is_current) _ (copies_from t old) (record { update = e; step = tt }) (from_update t old e)

held_update : (p : Places) (t : TryState) (addr : Addr) (held : Option HeldRecord) → is_read t.request.op ≡ false → IsUpdateTry (held_used p t addr held)
unfolding held_used
held_update p t addr None e = ends_update p t _ e tt
held_update p t addr (Some held) e =
    either_update (held.entry == t.walk.entry) _ (awaits p t addr)
    (either_update (held.key.0 == (key_of t.request.op).0) (copies p t (Known held.value) false) _ (copies_update p t (Known held.value) false e)
    (either_update (is_chain_end t.request.floor held.previous) (copies p t (Known _) false) (awaits p t held.previous) (copies_update p t (Known _) false e) (ends_update p t _ e tt)))
    (ends_update p t _ e tt)

region_update : (p : Places) (t : TryState) (addr : Addr) (version : Version) (its : Option Region) → is_read t.request.op ≡ false → IsUpdateTry (region_met p t addr version its)
region_update p t addr version None e = record { update = e; step = tt }
region_update p t addr version (Some its) e =
    either_update (is_own_version t version) (changes t addr) (copies p t InMemory false)
    (either_update (is_blind t.request.op) _ _ (record { update = e; step = tt }) (record { update = e; step = tt })) (copies_update p t InMemory false e)

full_end : (occasion : Occasion) (its : TryAnswer) → IsUpdateEnd its → IsUpdateEnd (full_at occasion its)
full_end (Call bounds) its end = end
full_end Poll its end = tt

walked_update : (p : Places) (t : TryState) (its : WalkAnswer) → is_read t.request.op ≡ false → IsUpdateTry (walked p t its)
walked_update p t (walk.Found addr version) e = else_update (is_read t.request.op) _ (region_met p t addr version _) e (region_update p t addr version _ e)
walked_update p t walk.Nowhere e =
    else_update (is_read t.request.op) (ends p t answer.Absent) _ e
    (either_update (must_count p t) (record t { step = try.CountsTaken }) (copies p t (Known _) false) (record { update = e; step = tt }) (copies_update p t (Known _) false e))
walked_update p t (walk.OnDisk addr) e =
    else_update (is_read t.request.op) (if is_chain_end t.request.floor addr then ends p t answer.Absent else awaits p t addr) _ e
    (either_update (is_blind t.request.op || is_chain_end t.request.floor addr) (copies p t (Known _) false) (held_used p t addr t.request.held) (copies_update p t (Known _) false e) (held_update p t addr t.request.held e))
walked_update p t (walk.Value value) e = ends_update p t _ e tt
walked_update p t walk.Full e = ends_update p t _ e (full_end t.occasion answer.IndexFull tt)
walked_update p t walk.Kept e = ends_update p t _ e (full_end t.occasion answer.IndexFull tt)
walked_update p t walk.Contended e = ends_update p t _ e tt

walk_update : (p : Places) (t : TryState) (ask : Ask WalkAnswer) → IsUpdateTry t → IsUpdateTry (walk_ledto p t ask)
unfolding walk_ledto
walk_update p t (Done its) its_try =
    let after : TryState = record t { spare = t.walk.spare } in
    either_update (has_walked its && must_shift after) (ends p after answer.Shift) (walked p after its) (ends_update p after answer.Shift its_try.update tt) (walked_update p after its its_try.update)
walk_update p t ask its_try = its_try

shared_update : (p : Places) (t : TryState) (ask : Ask LatchAnswer) → IsUpdateTry t → IsUpdateTry (shared_ledto p t ask)
unfolding shared_ledto
shared_update p t (Done latch.Taken) its_try = either_update (is_next_marked t.request.version) _ (walks p (record t { has_shared = true })) (record { update = its_try.update; step = tt }) (record { update = its_try.update; step = tt })
shared_update p t (Done its) its_try = ends_update p t answer.Shift its_try.update tt
shared_update p t ask its_try = its_try

phase_update : (p : Places) (t : TryState) (said : PhaseSaid) → is_read t.request.op ≡ false → IsUpdateTry (phase_loaded p t said)
unfolding phase_loaded
phase_update p t said e = either_update (is_still_in said t.request.version) (walks p t) (ends p t answer.Shift) (record { update = e; step = tt }) (ends_update p t answer.Shift e tt)

count_update : (p : Places) (t : TryState) (taken : ℕ) → is_read t.request.op ≡ false → IsUpdateTry (count_loaded p t taken)
unfolding count_loaded
count_update p t taken e = either_update (is_past_taken (bounds_at t.occasion) taken) (ends p t answer.IndexFull) (copies p t (Known _) false) (ends_update p t answer.IndexFull e tt) (copies_update p t (Known _) false e)

safe_update : (p : Places) (t : TryState) (addr : Addr) (version : Version) (safe : ℕ) → is_read t.request.op ≡ false → IsUpdateTry (safe_loaded p t addr version safe)
safe_update p t addr version safe e = either_update (nat_le safe addr.0) (ends p t _) (copies p t InMemory (is_surely_own t version)) (ends_update p t _ e tt) (copies_update p t InMemory (is_surely_own t version) e)

current_update : (p : Places) (t : TryState) (addr : Addr) (ask : Ask WalkAnswer) → IsUpdateTry t → IsUpdateTry (current_ledto p t addr ask)
unfolding current_ledto
current_update p t addr (Done (walk.Value old)) its_try = record { update = its_try.update; step = tt }
current_update p t addr (Done its) its_try = ends_update p t (answer.Wait reason.Contended) its_try.update tt
current_update p t addr ask its_try = its_try

changed_update : (p : Places) (t : TryState) (old found : ℕ) → is_read t.request.op ≡ false → IsUpdateTry (value_changed p t old found)
changed_update p t old found e = either_update (found == old) (takes_effect p t _) (ends p t _) (takes_update p t _ e) (ends_update p t _ e tt)

exclusive_update : (p : Places) (t : TryState) (old : OldValue) (ask : Ask LatchAnswer) → IsUpdateTry t → IsUpdateTry (exclusive_ledto p t old ask)
unfolding exclusive_ledto
exclusive_update p t old (Done latch.Taken) its_try = from_update (record t { has_exclusive = true }) old its_try.update
exclusive_update p t old (Done its) its_try = ends_update p t (answer.Wait reason.Latch) its_try.update tt
exclusive_update p t old ask its_try = its_try

old_update : (p : Places) (t : TryState) (ask : Ask WalkAnswer) → IsUpdateTry t → IsUpdateTry (old_ledto p t ask)
unfolding old_ledto
old_update p t (Done (walk.Value value)) its_try = appends_update t value its_try.update
old_update p t (Done its) its_try = ends_update p t (answer.Wait reason.Contended) its_try.update tt
old_update p t ask its_try = its_try

append_update : (p : Places) (t : TryState) (its : Reply) (ask : Ask AppendAnswer) → IsUpdateTry t → IsUpdateTry (append_ledto p t its ask)
unfolding append_ledto
append_update p t its (Done append.Published) its_try = takes_update p t its its_try.update
append_update p t its (Done append.Full) its_try = ends_update p t _ its_try.update (full_end t.occasion answer.LogFull tt)
append_update p t its (Done append.NoRoom) its_try = ends_update p t (answer.Wait reason.NoRoom) its_try.update tt
append_update p t its (Done append.Contended) its_try = ends_update p t (answer.Wait reason.Contended) its_try.update tt
append_update p t its ask its_try = its_try

exclusive_left : (p : Places) (t : TryState) (its : TryAnswer) (ask : Ask LatchAnswer) → IsUpdateEnd its → IsUpdateTry t → IsUpdateTry (exclusive_dropped p t its ask)
unfolding exclusive_dropped
exclusive_left p t its (Done told) end its_try = ended_update p t its its_try.update end
exclusive_left p t its ask end its_try = its_try

shared_left : (t : TryState) (its : TryAnswer) (ask : Ask LatchAnswer) → IsUpdateEnd its → IsUpdateTry t → IsUpdateTry (shared_dropped t its ask)
unfolding shared_dropped
shared_left t its (Done told) end its_try = record { update = its_try.update; step = end }
shared_left t its ask end its_try = its_try

step_update : (p : Places) (room : ℕ) (t : TryState) (step : Trying) (reply : ℕ) → IsUpdateStep step → IsUpdateTry t → IsUpdateTry (trying_next p room t step reply)
unfolding trying_next
step_update p room t (try.Ended its) reply knows its_try = its_try
step_update p room t try.TakesShared reply knows its_try = shared_update p _ _ (record { update = its_try.update; step = its_try.step })
step_update p room t try.LoadsPhase reply knows its_try = phase_update p t (phase_said reply) its_try.update
step_update p room t try.Walks reply knows its_try = walk_update p _ _ (record { update = its_try.update; step = its_try.step })
step_update p room t try.CountsTaken reply knows its_try = count_update p t reply its_try.update
step_update p room t (try.LoadsSafe addr version) reply knows its_try = safe_update p t addr version reply its_try.update
step_update p room t (try.SwapsValue addr) reply knows its_try = takes_update p t _ its_try.update
step_update p room t (try.LoadsCurrent addr) reply knows its_try = current_update p _ addr _ (record { update = its_try.update; step = its_try.step })
step_update p room t (try.ChangesValue addr old) reply knows its_try = changed_update p t old reply its_try.update
step_update p room t try.LoadsAnswer reply knows its_try = absurd knows
step_update p room t (try.TakesExclusive old) reply knows its_try = exclusive_update p _ old _ (record { update = its_try.update; step = its_try.step })
step_update p room t try.LoadsOld reply knows its_try = old_update p _ _ (record { update = its_try.update; step = its_try.step })
step_update p room t (try.Appends its) reply knows its_try = append_update p _ its _ (record { update = its_try.update; step = its_try.step })
step_update p room t (try.LoadsTail waiting) reply knows its_try = tail_update p t waiting reply its_try.update
step_update p room t (try.LoadsTaken waiting) reply knows its_try = taken_update p t waiting reply its_try.update
step_update p room t (try.DropsExclusive its) reply knows its_try = exclusive_left p _ its _ knows (record { update = its_try.update; step = its_try.step })
step_update p room t (try.DropsShared its) reply knows its_try = shared_left _ its _ knows (record { update = its_try.update; step = its_try.step })

-- a reply to an update's try
pub try_update : (p : Places) (room : ℕ) (t : TryState) (reply : ℕ) → IsUpdateTry t → IsUpdateTry (try_next p room t reply)
try_update p room t reply its_try = step_update p room (record t { effect = None }) t.step reply its_try.step (record { update = its_try.update; step = its_try.step })

-- it begins with its latch, or with its walk
pub begun_update : (p : Places) (bits : ℕ) (request : Request) (seen : Seen) (occasion : Occasion) (spare : ℕ) → is_read request.op ≡ false → IsUpdateTry (try_begun p bits request seen occasion spare)
begun_update p bits request seen occasion spare e =
    let its : TryState = new_try bits request seen occasion spare in
    either_update (wants_shared its) (with_latch p its TakeShared try.TakesShared) (walks p its) (record { update = e; step = tt }) (record { update = e; step = tt })
