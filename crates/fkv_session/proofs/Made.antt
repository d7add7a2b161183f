-- An update whose effect a try has made is done, with the reply that was told at the effect, and no other is.
use Rattle.std.proofs.Common.{◌≡◌, ℕ, refl, sym, subst, Bool, true, false, ap}
use Rattle.std.specs.Prelude.{Option, Some, None, if◌then◌else◌, ◌==◌, ◌&&◌, not, nat_le, ◌||◌}
use Rattle.fkv_base.specs.declared.numbers.Addr.{Addr}
use Rattle.fkv_base.specs.declared.numbers.Version.{Version}
use Rattle.fkv_log.specs.declared.regions.Region.{Region}
use Rattle.fkv_map.specs.declared.operations.Reply.{Reply}
use Rattle.fkv_map.specs.Keys.{key_of}
use Rattle.fkv_words.specs.declared.phase_words.PhaseSaid.{PhaseSaid}
use Rattle.fkv_words.specs.PhaseWords.{phase_said}
use Rattle.fkv_plane.specs.declared.asks.Ask.{Ask}
use Rattle.fkv_plane.specs.declared.asks.Ask.TheVariants.{Done}
use Rattle.fkv_plane.specs.declared.places.Places.{Places}
use Rattle.fkv_plane.specs.Passing.{passed}
use Rattle.fkv_latch.specs.declared.latching.LatchAnswer.{LatchAnswer}
use Rattle.fkv_latch.specs.declared.latching.LatchAnswer.TheVariants as latch
use Rattle.fkv_ops.specs.declared.answers.Reason.TheVariants as reason
use Rattle.fkv_ops.specs.declared.answers.TryAnswer.{TryAnswer}
use Rattle.fkv_ops.specs.declared.answers.TryAnswer.TheVariants as answer
use Rattle.fkv_ops.specs.declared.appending.AppendAnswer.{AppendAnswer}
use Rattle.fkv_ops.specs.declared.appending.AppendAnswer.TheVariants as append
use Rattle.fkv_ops.specs.declared.requests.HeldRecord.{HeldRecord}
use Rattle.fkv_ops.specs.declared.requests.Occasion.{Occasion}
use Rattle.fkv_ops.specs.declared.requests.Occasion.TheVariants.{Call, Poll}
use Rattle.fkv_ops.specs.declared.trying.OldValue.{OldValue}
use Rattle.fkv_ops.specs.declared.trying.OldValue.TheVariants.{InMemory, Known}
use Rattle.fkv_ops.specs.declared.trying.Trying.{Trying}
use Rattle.fkv_ops.specs.declared.trying.Trying.TheVariants as try
use Rattle.fkv_ops.specs.declared.walking.WalkAnswer.{WalkAnswer}
use Rattle.fkv_ops.specs.declared.walking.WalkAnswer.TheVariants as walk
use Rattle.fkv_ops.specs.declared.answers.Waiting.{Waiting}
use Rattle.fkv_ops.specs.declared.answers.Waiting.TheVariants.{For, ForRecord}
use Rattle.fkv_ops.specs.Bounds.{bounds_at, is_past_taken, is_past_tail}
use Rattle.fkv_ops.specs.Waiting.{told_of}
use Rattle.fkv_ops.specs.Requests.{is_read, is_blind, is_chain_end}
use Rattle.fkv_ops.specs.Values.{value_of}
use Rattle.fkv_ops.specs.Trying.{TryState, is_bounded, ends, ends_so, tail_loaded, taken_loaded, must_count, count_loaded, ended_without, is_wait, takes_effect, full_at, walks, is_next_marked, shared_ledto, is_still_in, phase_loaded, is_surely_own, wants_exclusive, copies_from, copies, appends, awaits, held_used, changes, is_own_version, region_met, walked, has_walked, must_shift, walk_ledto, safe_loaded, current_ledto, value_changed, told_value, answer_ledto, exclusive_ledto, old_ledto, append_ledto, exclusive_dropped, shared_dropped, trying_ask, try_ask, trying_next, try_next}

-- the reply of a try that has ended as done
abbrev pub reply_of : TryAnswer → Option Reply
reply_of (answer.Done its) = Some its
reply_of its = None

-- the reply of the effect that a try has made by now
abbrev pub made_by : Trying → Option Reply
made_by (try.Ended its) = reply_of its
made_by (try.DropsExclusive its) = reply_of its
made_by (try.DropsShared its) = reply_of its
made_by step = None

-- what has been made is what a step makes, or what was made before it
abbrev pub MadeFrom : Option Reply → Option Reply → Option Reply → Type 0
MadeFrom None made before = made ≡ before
MadeFrom (Some its) made before = (made ≡ Some its) × (before ≡ None)

abbrev pub IsMade : TryState → Option Reply → Type 0
IsMade t before = MadeFrom t.effect (made_by t.step) before

quiet : (t : TryState) (before : Option Reply) → t.effect ≡ None → made_by t.step ≡ before → IsMade t before
quiet t before e made = subst (λ (o : Option Reply). MadeFrom o (made_by t.step) before) (sym e) made

either_made : (c : Bool) (a b : TryState) (before : Option Reply) → IsMade a before → IsMade b before → IsMade (if c then a else b) before
either_made true a b before one other = one
either_made false a b before one other = other

ended_made : (p : Places) (t : TryState) (its : TryAnswer) (before : Option Reply) → t.effect ≡ None → reply_of its ≡ before → IsMade (ended_without p t its) before
ended_made p t its before e same =
    either_made (t.has_shared && not (is_wait its)) _ (record t { step = try.Ended its }) before
    (subst (λ (o : Option Reply). MadeFrom o (reply_of its) before) (sym e) same) (subst (λ (o : Option Reply). MadeFrom o (reply_of its) before) (sym e) same)

-- a step that makes nothing and leads to one where nothing was made
stepped : (t : TryState) → t.effect ≡ None → MadeFrom t.effect None None
stepped t e = subst (λ (o : Option Reply). MadeFrom o None None) (sym e) refl

ends_so_made : (p : Places) (t : TryState) (its : TryAnswer) (before : Option Reply) → t.effect ≡ None → reply_of its ≡ before → IsMade (ends_so p t its) before
unfolding ends_so
ends_so_made p t its before e same =
    either_made t.has_exclusive _ (ended_without p t its) before
    (subst (λ (o : Option Reply). MadeFrom o (reply_of its) before) (sym e) same) (ended_made p t its before e same)

ends_made : (p : Places) (t : TryState) (its : TryAnswer) (before : Option Reply) → t.effect ≡ None → reply_of its ≡ before → IsMade (ends p t its) before
unfolding ends
ends_made p t (answer.Wait it) before e same =
    either_made (is_bounded t) _ (ends_so p t (answer.Wait it)) before (subst (λ (o : Option Reply). MadeFrom o None before) (sym e) same) (ends_so_made p t (answer.Wait it) before e same)
ends_made p t (answer.AwaitsDisk it) before e same =
    either_made (is_bounded t) _ (ends_so p t (answer.AwaitsDisk it)) before (subst (λ (o : Option Reply). MadeFrom o None before) (sym e) same) (ends_so_made p t (answer.AwaitsDisk it) before e same)
ends_made p t its before e same = ends_so_made p t its before e same

waits_none : (waiting : Waiting) → reply_of (told_of waiting) ≡ None
waits_none (For reason) = refl
waits_none (ForRecord its) = refl

tail_made : (p : Places) (t : TryState) (waiting : Waiting) (tail : ℕ) → t.effect ≡ None → IsMade (tail_loaded p t waiting tail) None
unfolding tail_loaded
tail_made p t waiting tail e =
    either_made (is_past_tail (bounds_at t.occasion) tail) (ends_so p t answer.LogFull) _ None (ends_so_made p t answer.LogFull None e refl)
    (either_made (t.walk.entry == 0) (record t { step = try.LoadsTaken waiting }) (ends_so p t (told_of waiting)) None (stepped t e) (ends_so_made p t (told_of waiting) None e (waits_none waiting)))

taken_made : (p : Places) (t : TryState) (waiting : Waiting) (taken : ℕ) → t.effect ≡ None → IsMade (taken_loaded p t waiting taken) None
unfolding taken_loaded
taken_made p t waiting taken e =
    either_made (is_past_taken (bounds_at t.occasion) taken) (ends_so p t answer.IndexFull) (ends_so p t (told_of waiting)) None (ends_so_made p t answer.IndexFull None e refl) (ends_so_made p t (told_of waiting) None e (waits_none waiting))

takes_made : (p : Places) (t : TryState) (its : Reply) → IsMade (takes_effect p t its) None
unfolding ends ends_so
takes_made p t its =
    either_made t.has_exclusive _ (ended_without p (record t { effect = Some its }) (answer.Done its)) None (refl, refl)
    (either_made (t.has_shared && true) _ (record t { effect = Some its; step = try.Ended (answer.Done its) }) None (refl, refl) (refl, refl))

appends_made : (t : TryState) (old : ℕ) → t.effect ≡ None → IsMade (appends t old) None
unfolding appends
appends_made t old e = subst (λ (o : Option Reply). MadeFrom o None None) (sym e) refl

from_made : (t : TryState) (old : OldValue) → t.effect ≡ None → IsMade (copies_from t old) None
unfolding copies_from
from_made t (Known old) e = appends_made t old e
from_made t InMemory e = either_made (is_blind t.request.op) (appends t _) _ None (appends_made t _ e) (stepped t e)

copies_made : (p : Places) (t : TryState) (old : OldValue) (is_current : Bool) → t.effect ≡ None → IsMade (copies p t old is_current) None
unfolding copies
copies_made p t old is_current e = either_made (wants_exclusive t is_current) _ (copies_from t old) None (stepped t e) (from_made t old e)

held_made : (p : Places) (t : TryState) (addr : Addr) (held : Option HeldRecord) → t.effect ≡ None → IsMade (held_used p t addr held) None
unfolding held_used
held_made p t addr None e = ends_made p t _ None e refl
held_made p t addr (Some held) e =
    either_made (held.entry == t.walk.entry) _ (awaits p t addr) None
    (either_made (held.key.0 == (key_of t.request.op).0) (copies p t (Known held.value) false) _ None (copies_made p t (Known held.value) false e)
    (either_made (is_chain_end t.request.floor held.previous) (copies p t (Known _) false) (awaits p t held.previous) None (copies_made p t (Known _) false e) (ends_made p t _ None e refl)))
    (ends_made p t _ None e refl)

region_made : (p : Places) (t : TryState) (addr : Addr) (version : Version) (its : Option Region) → t.effect ≡ None → IsMade (region_met p t addr version its) None
region_made p t addr version None e = stepped t e
region_made p t addr version (Some its) e =
    either_made (is_own_version t version) (changes t addr) (copies p t InMemory false) None
    (either_made (is_blind t.request.op) _ _ None (stepped t e) (stepped t e)) (copies_made p t InMemory false e)

full_none : (occasion : Occasion) (its : TryAnswer) → reply_of its ≡ None → reply_of (full_at occasion its) ≡ None
full_none (Call bounds) its e = e
full_none Poll its e = refl

walked_made : (p : Places) (t : TryState) (its : WalkAnswer) → t.effect ≡ None → IsMade (walked p t its) None
walked_made p t (walk.Found addr version) e = either_made (is_read t.request.op) _ (region_met p t addr version _) None (stepped t e) (region_made p t addr version _ e)
walked_made p t walk.Nowhere e =
    either_made (is_read t.request.op) (ends p t answer.Absent) _ None (ends_made p t answer.Absent None e refl)
    (either_made (must_count p t) (record t { step = try.CountsTaken }) (copies p t (Known _) false) None (stepped t e) (copies_made p t (Known _) false e))
walked_made p t (walk.OnDisk addr) e =
    either_made (is_read t.request.op) (if is_chain_end t.request.floor addr then ends p t answer.Absent else awaits p t addr) _ None
    (either_made (is_chain_end t.request.floor addr) (ends p t answer.Absent) (awaits p t addr) None (ends_made p t answer.Absent None e refl) (ends_made p t _ None e refl))
    (either_made (is_blind t.request.op || is_chain_end t.request.floor addr) (copies p t (Known _) false) (held_used p t addr t.request.held) None (copies_made p t (Known _) false e) (held_made p t addr t.request.held e))
walked_made p t (walk.Value value) e = ends_made p t _ None e refl
walked_made p t walk.Full e = ends_made p t _ None e (full_none t.occasion answer.IndexFull refl)
walked_made p t walk.Kept e = ends_made p t _ None e (full_none t.occasion answer.IndexFull refl)
walked_made p t walk.Contended e = ends_made p t _ None e refl

walk_made : (p : Places) (t : TryState) (ask : Ask WalkAnswer) → t.effect ≡ None → made_by t.step ≡ None → IsMade (walk_ledto p t ask) None
unfolding walk_ledto
walk_made p t (Done its) e made =
    let after : TryState = record t { spare = t.walk.spare } in
    either_made (has_walked its && must_shift after) (ends p after answer.Shift) (walked p after its) None (ends_made p after answer.Shift None e refl) (walked_made p after its e)
walk_made p t ask e made = quiet t None e made

shared_made : (p : Places) (t : TryState) (ask : Ask LatchAnswer) → t.effect ≡ None → made_by t.step ≡ None → IsMade (shared_ledto p t ask) None
unfolding shared_ledto
shared_made p t (Done latch.Taken) e made = either_made (is_next_marked t.request.version) _ (walks p (record t { has_shared = true })) None (stepped t e) (stepped t e)
shared_made p t (Done its) e made = ends_made p t answer.Shift None e refl
shared_made p t ask e made = quiet t None e made

phase_made : (p : Places) (t : TryState) (said : PhaseSaid) → t.effect ≡ None → IsMade (phase_loaded p t said) None
unfolding phase_loaded
phase_made p t said e = either_made (is_still_in said t.request.version) (walks p t) (ends p t answer.Shift) None (stepped t e) (ends_made p t answer.Shift None e refl)

count_made : (p : Places) (t : TryState) (taken : ℕ) → t.effect ≡ None → IsMade (count_loaded p t taken) None
unfolding count_loaded
count_made p t taken e = either_made (is_past_taken (bounds_at t.occasion) taken) (ends p t answer.IndexFull) (copies p t (Known _) false) None (ends_made p t answer.IndexFull None e refl) (copies_made p t (Known _) false e)

safe_made : (p : Places) (t : TryState) (addr : Addr) (version : Version) (safe : ℕ) → t.effect ≡ None → IsMade (safe_loaded p t addr version safe) None
safe_made p t addr version safe e = either_made (nat_le safe addr.0) (ends p t _) (copies p t InMemory (is_surely_own t version)) None (ends_made p t _ None e refl) (copies_made p t InMemory (is_surely_own t version) e)

current_made : (p : Places) (t : TryState) (addr : Addr) (ask : Ask WalkAnswer) → t.effect ≡ None → made_by t.step ≡ None → IsMade (current_ledto p t addr ask) None
unfolding current_ledto
current_made p t addr (Done (walk.Value old)) e made = stepped t e
current_made p t addr (Done its) e made = ends_made p t (answer.Wait reason.Contended) None e refl
current_made p t addr ask e made = quiet t None e made

changed_made : (p : Places) (t : TryState) (old found : ℕ) → t.effect ≡ None → IsMade (value_changed p t old found) None
changed_made p t old found e = either_made (found == old) (takes_effect p t _) (ends p t _) None (takes_made p t _) (ends_made p t _ None e refl)

told_none : (value : Option ℕ) → reply_of (told_value value) ≡ None
told_none None = refl
told_none (Some value) = refl

answer_made : (p : Places) (t : TryState) (ask : Ask WalkAnswer) → t.effect ≡ None → made_by t.step ≡ None → IsMade (answer_ledto p t ask) None
unfolding answer_ledto
answer_made p t (Done (walk.Value value)) e made = ends_made p t (told_value (value_of value)) None e (told_none (value_of value))
answer_made p t (Done its) e made = ends_made p t (answer.Wait reason.Contended) None e refl
answer_made p t ask e made = quiet t None e made

exclusive_made : (p : Places) (t : TryState) (old : OldValue) (ask : Ask LatchAnswer) → t.effect ≡ None → made_by t.step ≡ None → IsMade (exclusive_ledto p t old ask) None
unfolding exclusive_ledto
exclusive_made p t old (Done latch.Taken) e made = from_made (record t { has_exclusive = true }) old e
exclusive_made p t old (Done its) e made = ends_made p t (answer.Wait reason.Latch) None e refl
exclusive_made p t old ask e made = quiet t None e made

old_made : (p : Places) (t : TryState) (ask : Ask WalkAnswer) → t.effect ≡ None → made_by t.step ≡ None → IsMade (old_ledto p t ask) None
unfolding old_ledto
old_made p t (Done (walk.Value value)) e made = appends_made t value e
old_made p t (Done its) e made = ends_made p t (answer.Wait reason.Contended) None e refl
old_made p t ask e made = quiet t None e made

append_made : (p : Places) (t : TryState) (its : Reply) (ask : Ask AppendAnswer) → t.effect ≡ None → made_by t.step ≡ None → IsMade (append_ledto p t its ask) None
unfolding append_ledto
append_made p t its (Done append.Published) e made = takes_made p t its
append_made p t its (Done append.Full) e made = ends_made p t _ None e (full_none t.occasion answer.LogFull refl)
append_made p t its (Done append.NoRoom) e made = ends_made p t (answer.Wait reason.NoRoom) None e refl
append_made p t its (Done append.Contended) e made = ends_made p t (answer.Wait reason.Contended) None e refl
append_made p t its ask e made = quiet t None e made

exclusive_left : (p : Places) (t : TryState) (its : TryAnswer) (ask : Ask LatchAnswer) → t.effect ≡ None → made_by t.step ≡ reply_of its → IsMade (exclusive_dropped p t its ask) (reply_of its)
unfolding exclusive_dropped
exclusive_left p t its (Done told) e made = ended_made p t its (reply_of its) e refl
exclusive_left p t its ask e made = quiet t (reply_of its) e made

shared_left : (t : TryState) (its : TryAnswer) (ask : Ask LatchAnswer) → t.effect ≡ None → made_by t.step ≡ reply_of its → IsMade (shared_dropped t its ask) (reply_of its)
unfolding shared_dropped
shared_left t its (Done told) e made = subst (λ (o : Option Reply). MadeFrom o (reply_of its) (reply_of its)) (sym e) refl
shared_left t its ask e made = quiet t (reply_of its) e made

step_made : (p : Places) (room : ℕ) (t : TryState) (step : Trying) (reply : ℕ) → t.effect ≡ None → t.step ≡ step → IsMade (trying_next p room t step reply) (made_by step)
unfolding trying_next
step_made p room t (try.Ended its) reply e s = quiet t (reply_of its) e (subst (λ (x : Trying). made_by x ≡ reply_of its) (sym s) refl)
step_made p room t try.TakesShared reply e s = shared_made p _ _ e (subst (λ (x : Trying). made_by x ≡ None) (sym s) refl)
step_made p room t try.LoadsPhase reply e s = phase_made p t (phase_said reply) e
step_made p room t try.Walks reply e s = walk_made p _ _ e (subst (λ (x : Trying). made_by x ≡ None) (sym s) refl)
step_made p room t try.CountsTaken reply e s = count_made p t reply e
step_made p room t (try.LoadsSafe addr version) reply e s = safe_made p t addr version reply e
step_made p room t (try.SwapsValue addr) reply e s = takes_made p t _
step_made p room t (try.LoadsCurrent addr) reply e s = current_made p _ addr _ e (subst (λ (x : Trying). made_by x ≡ None) (sym s) refl)
step_made p room t (try.ChangesValue addr old) reply e s = changed_made p t old reply e
step_made p room t try.LoadsAnswer reply e s = answer_made p _ _ e (subst (λ (x : Trying). made_by x ≡ None) (sym s) refl)
step_made p room t (try.TakesExclusive old) reply e s = exclusive_made p _ old _ e (subst (λ (x : Trying). made_by x ≡ None) (sym s) refl)
step_made p room t try.LoadsOld reply e s = old_made p _ _ e (subst (λ (x : Trying). made_by x ≡ None) (sym s) refl)
step_made p room t (try.Appends its) reply e s = append_made p _ its _ e (subst (λ (x : Trying). made_by x ≡ None) (sym s) refl)
step_made p room t (try.LoadsTail waiting) reply e s = tail_made p t waiting reply e
step_made p room t (try.LoadsTaken waiting) reply e s = taken_made p t waiting reply e
step_made p room t (try.DropsExclusive its) reply e s = exclusive_left p _ its _ e (subst (λ (x : Trying). made_by x ≡ reply_of its) (sym s) refl)
step_made p room t (try.DropsShared its) reply e s = shared_left _ its _ e (subst (λ (x : Trying). made_by x ≡ reply_of its) (sym s) refl)

-- what a reply to a try makes
pub try_made : (p : Places) (room : ℕ) (t : TryState) (reply : ℕ) → IsMade (try_next p room t reply) (made_by t.step)
try_made p room t reply = step_made p room (record t { effect = None }) t.step reply refl refl

passed_same : {A : Type 0} (ask : Ask A) (its found : TryAnswer) → passed ask its ≡ Done found → found ≡ its
unfolding passed
passed_same (Done inner) its found e = cc
passed_same ask its found e = cc

passed_reply : {A : Type 0} (ask : Ask A) (its found : TryAnswer) → passed ask its ≡ Done found → reply_of its ≡ reply_of found
passed_reply ask its found e = sym (ap reply_of (passed_same ask its found e))

ended_reply : (p : Places) (t : TryState) (step : Trying) (its : TryAnswer) → trying_ask p t step ≡ Done its → made_by step ≡ reply_of its
unfolding trying_ask
ended_reply p t (try.Ended found) its e = let same : found ≡ its = cc in ap reply_of same
ended_reply p t try.TakesShared its e = passed_reply _ answer.Shift its e
ended_reply p t try.LoadsPhase its e = cc
ended_reply p t try.Walks its e = passed_reply _ answer.Shift its e
ended_reply p t try.CountsTaken its e = cc
ended_reply p t (try.LoadsSafe addr version) its e = cc
ended_reply p t (try.SwapsValue addr) its e = cc
ended_reply p t (try.LoadsCurrent addr) its e = passed_reply _ answer.Shift its e
ended_reply p t (try.ChangesValue addr old) its e = cc
ended_reply p t try.LoadsAnswer its e = passed_reply _ answer.Shift its e
ended_reply p t (try.TakesExclusive old) its e = passed_reply _ answer.Shift its e
ended_reply p t try.LoadsOld its e = passed_reply _ answer.Shift its e
ended_reply p t (try.Appends found) its e = passed_reply _ answer.Shift its e
ended_reply p t (try.LoadsTail waiting) its e = cc
ended_reply p t (try.LoadsTaken waiting) its e = cc
ended_reply p t (try.DropsExclusive found) its e = passed_reply _ found its e
ended_reply p t (try.DropsShared found) its e = passed_reply _ found its e

-- a try that ends as done has made its effect, with the reply that it ends with, and one that ends else has made none
pub try_ended : (p : Places) (t : TryState) (its : TryAnswer) → try_ask p t ≡ Done its → made_by t.step ≡ reply_of its
try_ended p t its e = ended_reply p t t.step its e
