-- Whole calls go on answer by answer.
use Rattle.std.proofs.Common.{◌≡◌, ◌∙◌, ℕ, zero, suc, ◌+◌, refl, sym, ap, subst, arith, List, [], ◌∷◌, ◌++◌, Bool, true, false}
use Rattle.std.specs.Prelude.{⊤, not, ◌||◌, Option, Some, None, slice_set, Result, Ok, Err, IsErr}
use Rattle.std.specs.Result.{is_ok}
use Rattle.std.proofs.lemmas.List.{append_assoc}
use Rattle.fkv_base.specs.declared.faults.Fault.{Fault}
use Rattle.fkv_base.specs.declared.shapes.Shape.{Shape}
use Rattle.fkv_disk.specs.Calls.{Call}
use Rattle.fkv_disk.specs.Device.{HasCause, IsAfter, MakesCalls}
use Rattle.fkv_disk.proofs.Shown.{no_call, more_calls}
use Rattle.fkv_plane.specs.declared.actions.Action.{Action}
use Rattle.fkv_plane.specs.declared.asks.Ask.{Ask}
use Rattle.fkv_plane.specs.declared.asks.Ask.TheVariants.{Load, Store, Swap, Cas, Add, Max, Put, Take, Done}
use Rattle.fkv_plane.specs.declared.places.Places.{Places}
use Rattle.fkv_plane.specs.Asked.{reply_to, words_after}
use Rattle.fkv_plane.specs.Plane.{Plane, action_at}
use Rattle.fkv_flush.specs.Devices.{Adds}
use Rattle.fkv_keeper.specs.declared.answers.KeeperTold.{KeeperTold}
use Rattle.fkv_keeper.specs.declared.answers.KeeperTold.TheVariants.{Device, Turned, TurnRefused, Begun, CommitRefused}
use Rattle.fkv_keeper.specs.Keeping.{KeeperState, keeper_ask, keeper_next, keeper_given, keeper_called}
use Rattle.fkv_keeper.specs.KeeperAsks.{keeper_calls, keeper_read}
use Rattle.fkv_keeper.specs.KeeperRun.{KeeperEvent, BeginsTurn, BeginsCommit, Replies, Gets, Calls, keeper_happens, keeper_run, is_failure, has_failed}
use Rattle.fkv_keeper.specs.WholeCalls.{IsAnswered, plane_asked, plane_after, AreAnswered, IsCallBy, IsCallSoFar, HasStopped, device_calls, calls_told, AreCounted, IsTurnSoFar, calls_made, AreRead, AreHonest, IsHonestTurnSoFar}
use Rattle.fkv_keeper.proofs.KeeperLeft.{nor}

-- one answer

pub record IsStep (shape : Shape) (p : Places) (now : KeeperState) (left : Plane) (event : KeeperEvent) (now' : KeeperState) (left' : Plane) : Type 0 where
  pub answered : IsAnswered left (keeper_ask shape p now) event
  pub state : now' ≡ keeper_happens shape p now event
  pub words : left' ≡ plane_asked left (keeper_ask shape p now)

put_answered : (left left' : Plane) (ask : Ask KeeperTold) (slot : ℕ) (action : Action) (granted : Bool) → ask ≡ Put slot action → left' ≡ record left { actions = slice_set left.actions slot (Some action) }
    → IsAnswered left ask (Replies 0 granted) × (left' ≡ plane_asked left ask)
put_answered left left' ask slot action granted is after = rw is (refl, after)

pub put_steps : (shape : Shape) (p : Places) (now now' : KeeperState) (left left' : Plane) (slot : ℕ) (action : Action) (granted : Bool) → keeper_ask shape p now ≡ Put slot action
    → left' ≡ record left { actions = slice_set left.actions slot (Some action) } → now' ≡ keeper_next shape p now 0 granted → IsStep shape p now left (Replies 0 granted) now' left'
unfolding keeper_happens
put_steps shape p now now' left left' slot action granted asks after went = let does = put_answered left left' (keeper_ask shape p now) slot action granted asks after in record { answered = does.0; state = went; words = does.1 }

take_answered : (left left' : Plane) (ask : Ask KeeperTold) (slot : ℕ) (action : Action) → ask ≡ Take slot → action_at left.actions slot ≡ Some action → left' ≡ record left { actions = slice_set left.actions slot None }
    → IsAnswered left ask (Gets action) × (left' ≡ plane_asked left ask)
take_answered left left' ask slot action is there after = rw is (there, after)

pub take_steps : (shape : Shape) (p : Places) (now now' : KeeperState) (left left' : Plane) (slot : ℕ) (action : Action) → keeper_ask shape p now ≡ Take slot → action_at left.actions slot ≡ Some action
    → left' ≡ record left { actions = slice_set left.actions slot None } → now' ≡ keeper_given shape p now action → IsStep shape p now left (Gets action) now' left'
unfolding keeper_happens
take_steps shape p now now' left left' slot action asks there after went = let does = take_answered left left' (keeper_ask shape p now) slot action asks there after in record { answered = does.0; state = went; words = does.1 }

word_answered : (left left' : Plane) (ask : Ask KeeperTold) (reply : ℕ) (granted : Bool) → ((slot : ℕ) (action : Action) → ask ≡ Put slot action → ⊥) → ((slot : ℕ) → ask ≡ Take slot → ⊥) → ((told : KeeperTold) → ask ≡ Done told → ⊥)
    → reply ≡ reply_to left.words ask → left' ≡ record left { words = words_after left.words ask } → IsAnswered left ask (Replies reply granted) × (left' ≡ plane_asked left ask)
word_answered left left' (Load place) reply granted no_put no_take no_end is after = (is, after)
word_answered left left' (Store place new) reply granted no_put no_take no_end is after = (is, after)
word_answered left left' (Swap place new) reply granted no_put no_take no_end is after = (is, after)
word_answered left left' (Cas place old new) reply granted no_put no_take no_end is after = (is, after)
word_answered left left' (Add place k) reply granted no_put no_take no_end is after = (is, after)
word_answered left left' (Max place k) reply granted no_put no_take no_end is after = (is, after)
word_answered left left' (Put slot action) reply granted no_put no_take no_end is after = absurd (no_put slot action refl)
word_answered left left' (Take slot) reply granted no_put no_take no_end is after = absurd (no_take slot refl)
word_answered left left' (Done told) reply granted no_put no_take no_end is after = absurd (no_end told refl)

pub word_steps : (shape : Shape) (p : Places) (now now' : KeeperState) (left left' : Plane) (ask : Ask KeeperTold) (reply : ℕ) (granted : Bool) → ask ≡ keeper_ask shape p now
    → ((slot : ℕ) (action : Action) → ask ≡ Put slot action → ⊥) → ((slot : ℕ) → ask ≡ Take slot → ⊥) → ((told : KeeperTold) → ask ≡ Done told → ⊥)
    → reply ≡ reply_to left.words ask → left' ≡ record left { words = words_after left.words ask } → now' ≡ keeper_next shape p now reply granted → IsStep shape p now left (Replies reply granted) now' left'
unfolding keeper_happens
word_steps shape p now now' left left' ask reply granted asks no_put no_take no_end is after went =
    let does = word_answered left left' ask reply granted no_put no_take no_end is after in
    record { answered = subst (λ (a : Ask KeeperTold). IsAnswered left a (Replies reply granted)) asks does.0; state = went; words = does.1 ∙ ap (λ (a : Ask KeeperTold). plane_asked left a) asks }

device_answered : (left : Plane) (ask : Ask KeeperTold) (done : Bool) (bytes : List ℕ) → ask ≡ Done Device → IsAnswered left ask (Calls done bytes) × (left ≡ plane_asked left ask)
device_answered left ask done bytes is = rw is (tt, refl)

pub device_steps : (shape : Shape) (p : Places) (now now' : KeeperState) (left : Plane) (done : Bool) (bytes : List ℕ) → keeper_ask shape p now ≡ Done Device → now' ≡ keeper_called shape p now done bytes
    → IsStep shape p now left (Calls done bytes) now' left
unfolding keeper_happens
device_steps shape p now now' left done bytes asks went = let does = device_answered left (keeper_ask shape p now) done bytes asks in record { answered = does.0; state = went; words = does.1 }

-- a call goes on by an answer

pub call_first : (shape : Shape) (p : Places) (begun : KeeperState) (plane : Plane) → IsCallBy shape p begun plane [] begun plane
unfolding keeper_run plane_after AreAnswered
call_first shape p begun plane = record { answered = tt; state = refl; words = refl }

pub call_next : (shape : Shape) (p : Places) (begun : KeeperState) (plane : Plane) (events : List KeeperEvent) (event : KeeperEvent) (now now' : KeeperState) (left left' : Plane) → IsCallBy shape p begun plane events now left
    → IsStep shape p now left event now' left' → IsCallBy shape p begun plane (event ∷ events) now' left'
unfolding keeper_run plane_after AreAnswered
call_next shape p begun plane events event now now' left left' its step = record {
  answered = (subst (λ (s : KeeperState). IsAnswered (plane_after shape p begun plane events) (keeper_ask shape p s) event) its.state (subst (λ (at : Plane). IsAnswered at (keeper_ask shape p now) event) its.words step.answered), its.answered);
  state = step.state ∙ ap (λ (s : KeeperState). keeper_happens shape p s event) its.state;
  words = step.words ∙ ap (λ (at : Plane). plane_asked at (keeper_ask shape p now)) its.words ∙ ap (λ (s : KeeperState). plane_asked (plane_after shape p begun plane events) (keeper_ask shape p s)) its.state;
}

pub so_far : (shape : Shape) (p : Places) (begun : KeeperState) (plane : Plane) (event : KeeperEvent) (now now' : KeeperState) (left left' : Plane) → IsCallSoFar shape p begun plane now left
    → IsStep shape p now left event now' left' → IsCallSoFar shape p begun plane now' left'
so_far shape p begun plane event now now' left left' its step = (event ∷ its.0, call_next shape p begun plane its.0 event now now' left left' its.1 step)

-- the same store under another name

pub of_store : (P : Shape → Places → Type 0) (shape shape' : Shape) (p p' : Places) → shape ≡ shape' → p ≡ p' → P shape p → P shape' p'
of_store P shape shape' p p' shapes places its = subst (λ (at : Places). P shape' at) places (subst (λ (store : Shape). P store p) shapes its)

pub call_of : (shape shape' : Shape) (p p' : Places) (begun begun' : KeeperState) (plane : Plane) (now : KeeperState) (left : Plane) → shape ≡ shape' → p ≡ p' → begun ≡ begun' → IsCallSoFar shape p begun plane now left → IsCallSoFar shape' p' begun' plane now left
call_of shape shape' p p' begun begun' plane now left shapes places states its =
    subst (λ (s : KeeperState). IsCallSoFar shape' p' s plane now left) states
    (subst (λ (at : Places). IsCallSoFar shape' at begun plane now left) places (subst (λ (its : Shape). IsCallSoFar its p begun plane now left) shapes its))

-- what else is said of a turn holds behind an answer that is not the device's

abbrev pub IsOfWords : KeeperEvent → Type 0
IsOfWords (Calls done bytes) = ⊥
IsOfWords event = ⊤

counted_by_words : (shape : Shape) (p : Places) (begun : KeeperState) (events : List KeeperEvent) (event : KeeperEvent) (failed failed' : ℕ) (refuses refuses' : ℕ → Bool) → IsOfWords event
    → AreCounted shape p begun events failed failed' refuses refuses' → AreCounted shape p begun (event ∷ events) failed failed' refuses refuses'
unfolding device_calls has_failed
counted_by_words shape p begun events BeginsTurn failed failed' refuses refuses' words its = record { counted = its.counted; cause = its.cause }
counted_by_words shape p begun events (BeginsCommit kind) failed failed' refuses refuses' words its = record { counted = its.counted; cause = its.cause }
counted_by_words shape p begun events (Replies reply granted) failed failed' refuses refuses' words its = record { counted = its.counted; cause = its.cause }
counted_by_words shape p begun events (Gets action) failed failed' refuses refuses' words its = record { counted = its.counted; cause = its.cause }
counted_by_words shape p begun events (Calls done bytes) failed failed' refuses refuses' words its = absurd words

honest_by_words : (shape : Shape) (p : Places) (begun : KeeperState) (events : List KeeperEvent) (event : KeeperEvent) (seen seen' : List ℕ) (may_leave may_leave' : List ℕ → Type 0) → IsOfWords event
    → AreHonest shape p begun events seen seen' may_leave may_leave' → AreHonest shape p begun (event ∷ events) seen seen' may_leave may_leave'
unfolding calls_made AreRead
honest_by_words shape p begun events BeginsTurn seen seen' may_leave may_leave' words its = record { made = its.made; read = λ opening calls was. (tt, its.read opening calls was) }
honest_by_words shape p begun events (BeginsCommit kind) seen seen' may_leave may_leave' words its = record { made = its.made; read = λ opening calls was. (tt, its.read opening calls was) }
honest_by_words shape p begun events (Replies reply granted) seen seen' may_leave may_leave' words its = record { made = its.made; read = λ opening calls was. (tt, its.read opening calls was) }
honest_by_words shape p begun events (Gets action) seen seen' may_leave may_leave' words its = record { made = its.made; read = λ opening calls was. (tt, its.read opening calls was) }
honest_by_words shape p begun events (Calls done bytes) seen seen' may_leave may_leave' words its = absurd words

pub turn_by_words : (shape : Shape) (p : Places) (begun : KeeperState) (plane : Plane) (event : KeeperEvent) (now now' : KeeperState) (left left' : Plane) (failed failed' : ℕ) (refuses refuses' : ℕ → Bool) → IsOfWords event
    → IsTurnSoFar shape p begun plane now left failed failed' refuses refuses' → IsStep shape p now left event now' left' → IsTurnSoFar shape p begun plane now' left' failed failed' refuses refuses'
turn_by_words shape p begun plane event now now' left left' failed failed' refuses refuses' words its step =
    (event ∷ its.0, call_next shape p begun plane its.0 event now now' left left' its.1 step, counted_by_words shape p begun its.0 event failed failed' refuses refuses' words its.2)

pub honest_turn_by_words : (shape : Shape) (p : Places) (begun : KeeperState) (plane : Plane) (event : KeeperEvent) (now now' : KeeperState) (left left' : Plane) (seen seen' : List ℕ) (may_leave may_leave' : List ℕ → Type 0) → IsOfWords event
    → IsHonestTurnSoFar shape p begun plane now left seen seen' may_leave may_leave' → IsStep shape p now left event now' left' → IsHonestTurnSoFar shape p begun plane now' left' seen seen' may_leave may_leave'
honest_turn_by_words shape p begun plane event now now' left left' seen seen' may_leave may_leave' words its step =
    (event ∷ its.0, call_next shape p begun plane its.0 event now now' left left' its.1 step, honest_by_words shape p begun its.0 event seen seen' may_leave may_leave' words its.2)

-- and behind a call of the device

first_failed : {T : Type 0} (result : Result T Fault) (before : Bool) → IsErr result → IsErr (calls_told ((not (is_ok result)) || before))
first_failed (Ok value) before err = nor err
first_failed (Err why) before err = refl

earlier_failed : {T : Type 0} (result : Result T Fault) (before : Bool) → IsErr (calls_told before) → IsErr (calls_told ((not (is_ok result)) || before))
earlier_failed (Ok value) before err = err
earlier_failed (Err why) before err = refl

causes_first : {T : Type 0} (result : Result T Fault) (before : Bool) (failed mid failed' : ℕ) → HasCause failed mid (calls_told before) → HasCause mid failed' result → HasCause failed failed' (calls_told ((not (is_ok result)) || before))
causes_first (Ok value) true failed mid failed' early late = record { later = omega (arith, early.later, late.later); rose = omega (arith, early.rose, late.later); named = refl }
causes_first (Ok value) false failed mid failed' early late = record { later = omega (arith, early.later, late.later); rose = tt; named = tt }
causes_first (Err why) before failed mid failed' early late = record { later = omega (arith, early.later, late.later); rose = omega (arith, early.later, late.rose); named = refl }

failure_is : {T : Type 0} (ask : Ask KeeperTold) (result : Result T Fault) (bytes : List ℕ) → ask ≡ Done Device → not (is_ok result) ≡ is_failure (Calls (is_ok result) bytes) ask
failure_is ask (Ok value) bytes asks = refl
failure_is ask (Err why) bytes asks = rw asks refl

pub counted_by_device : {T : Type 0} (shape : Shape) (p : Places) (begun now : KeeperState) (events : List KeeperEvent) (result : Result T Fault) (bytes : List ℕ) (failed mid failed' : ℕ) (refuses between refuses' : ℕ → Bool)
    → now ≡ keeper_run shape p begun events → keeper_ask shape p now ≡ Done Device → AreCounted shape p begun events failed mid refuses between → HasCause mid failed' result → MakesCalls 1 between refuses' result
    → AreCounted shape p begun (Calls (is_ok result) bytes ∷ events) failed failed' refuses refuses'
unfolding device_calls has_failed
counted_by_device shape p begun now events result bytes failed mid failed' refuses between refuses' at asks its cause counted =
    let before = has_failed shape p begun events in
    let ask = keeper_ask shape p (keeper_run shape p begun events) in
    let is : not (is_ok result) ≡ is_failure (Calls (is_ok result) bytes) ask = failure_is ask result bytes (ap (λ (s : KeeperState). keeper_ask shape p s) (sym at) ∙ asks) in
    let all = calls_told ((not (is_ok result)) || before) in
    let late : MakesCalls 1 between refuses' all = record { counted = counted.counted; refused = λ i below refused. first_failed result before (counted.refused i below refused) } in
    record {
      counted = subst (λ (b : Bool). MakesCalls (device_calls events + 1) refuses refuses' (calls_told (b || before))) is (more_calls (device_calls events) 1 refuses between refuses' (calls_told before) all its.counted (earlier_failed result before) late);
      cause = subst (λ (b : Bool). HasCause failed failed' (calls_told (b || before))) is (causes_first result before failed mid failed' its.cause cause);
    }

honest_by_device : (shape : Shape) (p : Places) (begun now : KeeperState) (events : List KeeperEvent) (done : Bool) (seen mid seen' : List ℕ) (may_leave may_mid may_leave' : List ℕ → Type 0) → now ≡ keeper_run shape p begun events
    → AreHonest shape p begun events seen mid may_leave may_mid → Adds (keeper_calls shape now done) mid seen' may_mid may_leave'
    → AreHonest shape p begun (Calls done (keeper_read (record { shape = shape; places = p; state = now }) mid) ∷ events) seen seen' may_leave may_leave'
unfolding calls_made AreRead
honest_by_device shape p begun now events done seen mid seen' may_leave may_mid may_leave' at its adds = record {
  made = λ opening calls was. subst (λ (s : KeeperState). IsAfter opening ((keeper_calls shape s done ++ calls_made shape p begun events) ++ calls) seen' may_leave') at
      (subst (λ (all : List Call). IsAfter opening all seen' may_leave') (sym (append_assoc (keeper_calls shape now done) (calls_made shape p begun events) calls)) (adds opening (calls_made shape p begun events ++ calls) (its.made opening calls was)));
  read = λ opening calls was. ((mid, (its.made opening calls was).reads, ap (λ (s : KeeperState). keeper_read (record { shape = shape; places = p; state = s }) mid) at), its.read opening calls was);
}

pub turn_by_device : {T : Type 0} (shape : Shape) (p : Places) (begun : KeeperState) (plane : Plane) (now now' : KeeperState) (left : Plane) (result : Result T Fault) (bytes : List ℕ) (failed mid failed' : ℕ) (refuses between refuses' : ℕ → Bool)
    → IsTurnSoFar shape p begun plane now left failed mid refuses between → keeper_ask shape p now ≡ Done Device → now' ≡ keeper_called shape p now (is_ok result) bytes → HasCause mid failed' result → MakesCalls 1 between refuses' result
    → IsTurnSoFar shape p begun plane now' left failed failed' refuses refuses'
turn_by_device shape p begun plane now now' left result bytes failed mid failed' refuses between refuses' its asks went cause counted = (
  Calls (is_ok result) bytes ∷ its.0,
  call_next shape p begun plane its.0 (Calls (is_ok result) bytes) now now' left left its.1 (device_steps shape p now now' left (is_ok result) bytes asks went),
  counted_by_device shape p begun now its.0 result bytes failed mid failed' refuses between refuses' its.1.state asks its.2 cause counted,
)

pub honest_turn_by_device : (shape : Shape) (p : Places) (begun : KeeperState) (plane : Plane) (now now' : KeeperState) (left : Plane) (done : Bool) (seen mid seen' : List ℕ) (may_leave may_mid may_leave' : List ℕ → Type 0)
    → IsHonestTurnSoFar shape p begun plane now left seen mid may_leave may_mid → keeper_ask shape p now ≡ Done Device → now' ≡ keeper_called shape p now done (keeper_read (record { shape = shape; places = p; state = now }) mid)
    → Adds (keeper_calls shape now done) mid seen' may_mid may_leave' → IsHonestTurnSoFar shape p begun plane now' left seen seen' may_leave may_leave'
honest_turn_by_device shape p begun plane now now' left done seen mid seen' may_leave may_mid may_leave' its asks went adds =
    let bytes = keeper_read (record { shape = shape; places = p; state = now }) mid in (
      Calls done bytes ∷ its.0,
      call_next shape p begun plane its.0 (Calls done bytes) now now' left left its.1 (device_steps shape p now now' left done bytes asks went),
      honest_by_device shape p begun now its.0 done seen mid seen' may_leave may_mid may_leave' its.1.state its.2 adds,
    )

-- at the beginning

pub turn_first : (shape : Shape) (p : Places) (begun : KeeperState) (plane : Plane) (failed : ℕ) (refuses : ℕ → Bool) → IsTurnSoFar shape p begun plane begun plane failed failed refuses refuses
unfolding device_calls has_failed
turn_first shape p begun plane failed refuses = ([], call_first shape p begun plane, record { counted = no_call refuses (calls_told false); cause = record { later = omega arith; rose = tt; named = tt } })

pub honest_turn_first : (shape : Shape) (p : Places) (begun : KeeperState) (plane : Plane) (seen : List ℕ) (may_leave : List ℕ → Type 0) → IsHonestTurnSoFar shape p begun plane begun plane seen seen may_leave may_leave
unfolding calls_made AreRead
honest_turn_first shape p begun plane seen may_leave = ([], call_first shape p begun plane, record { made = λ opening calls was. was; read = λ opening calls was. tt })

-- a call stops

pub ended_stops : (plane : Plane) (told : KeeperTold) → (told ≡ Device → ⊥) → HasStopped plane (Done told)
ended_stops plane Device other = absurd (other refl)
ended_stops plane (Turned finished full) other = refl
ended_stops plane (TurnRefused why) other = refl
ended_stops plane (Begun number) other = refl
ended_stops plane (CommitRefused why) other = refl

pub none_stops : (plane plane' : Plane) (ask : Ask KeeperTold) (slot : ℕ) → ask ≡ Take slot → action_at plane.actions slot ≡ None → plane' ≡ plane → HasStopped plane' ask
none_stops plane plane' ask slot is none same = rw (is, same) none

-- nothing is taken out of a slot without an action
pub none_taken : (actions : List (Option Action)) (slot : ℕ) → action_at actions slot ≡ None → slice_set actions slot None ≡ actions
none_taken [] slot none = refl
none_taken (None ∷ rest) zero none = refl
none_taken (Some action ∷ rest) zero none = cc
none_taken (first ∷ rest) (suc slot) none = ap (λ (more : List (Option Action)). first ∷ more) (none_taken rest slot none)

pub none_same : (plane plane' : Plane) (slot : ℕ) → action_at plane.actions slot ≡ None → plane' ≡ record plane { actions = slice_set plane.actions slot None } → plane' ≡ plane
none_same plane plane' slot none after = after ∙ ap (λ (actions : List (Option Action)). record plane { actions = actions }) (none_taken plane.actions slot none)

-- a call's answers come behind the events before it
pub run_joins : (shape : Shape) (p : Places) (opening : KeeperState) (before events : List KeeperEvent) → keeper_run shape p (keeper_run shape p opening before) events ≡ keeper_run shape p opening (events ++ before)
unfolding keeper_run
run_joins shape p opening before [] = refl
run_joins shape p opening before (event ∷ events) = ap (λ (s : KeeperState). keeper_happens shape p s event) (run_joins shape p opening before events)
