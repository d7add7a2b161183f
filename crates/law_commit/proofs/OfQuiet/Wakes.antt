-- A session that wakes stores nothing in its cut words before it has loaded the phase: till then they are as it has slept.
use Rattle.std.proofs.Common.{◌≡◌, ℕ, ◌-◌, ◌<◌, ◌≤◌, ◌∙◌, List, [], ◌∷◌, length, refl, arith, ap, sym, subst, Bool, true, false}
use Rattle.std.specs.Prelude.{⊤, not, ◌==◌, if◌then◌else◌, Option, Some, None, slice_get}
use Rattle.std.specs.List.{position}
use Rattle.std.proofs.lemmas.Bool.Decides.{nat_tests}
use Rattle.fkv_base.specs.declared.faults.Fault.TheVariants as fault
use Rattle.fkv_map.specs.declared.operations.Call.{Call}
use Rattle.fkv_map.specs.declared.operations.Call.TheVariants as call
use Rattle.fkv_plane.specs.declared.actions.Action.{Action}
use Rattle.fkv_plane.specs.declared.asks.Ask.{Ask}
use Rattle.fkv_plane.specs.declared.asks.Ask.TheVariants.{Load, Store, Swap, Cas, Add, Max, Put, Take, Done}
use Rattle.fkv_plane.specs.declared.places.Places.{Places}
use Rattle.fkv_plane.specs.Places.{session_place}
use Rattle.law_refine.specs.Below.fkv_commit.Cuts.{cut_of}
use Rattle.fkv_epoch.specs.Leaving.{leave_next}
use Rattle.fkv_epoch.specs.declared.values.Seen as loaded
use Rattle.fkv_epoch.specs.declared.refreshing.RefreshAnswer.{RefreshAnswer}
use Rattle.fkv_latch.specs.declared.latching.LatchAnswer.{LatchAnswer}
use Rattle.fkv_latch.specs.declared.latching.LatchAnswer.TheVariants.{Taken}
use Rattle.law_refine.specs.Below.fkv_ops.Seen.{Seen}
use Rattle.law_refine.specs.Below.fkv_pending.PendingRequest.{PendingRequest}
use Rattle.law_refine.specs.Below.fkv_pending.Mailing.{mail_next}
use Rattle.law_refine.specs.Below.fkv_pending.Pending.{is_unlatched}
use Rattle.fkv_words.specs.PhaseWords.{phase_said}
use Rattle.law_refine.specs.Below.fkv_session.Told.{Told}
use Rattle.law_refine.specs.Below.fkv_session.Catching.{Catching}
use Rattle.law_refine.specs.Below.fkv_session.Catching.TheVariants as catching
use Rattle.law_refine.specs.Below.fkv_session.CatchCause.TheVariants.{Refreshes, Wakes, Shifts}
use Rattle.law_refine.specs.Below.fkv_session.Sitting.{Sitting}
use Rattle.law_refine.specs.Below.fkv_session.Sitting.TheVariants.{Idle, Attempts, CatchesUp, ClearsMail, Polls, StoresOwing, Turns, StoresCut, Leaves, LoadsDurable}
use Rattle.law_refine.specs.Below.fkv_session.CatchingUp.{CatchState, catch_requests, refresh_begun, wake_begun, catching_next, cuts, enters_prepare, finish_ledto, finishes, is_same_version, latch_begun, latch_ledto, latch_wanted, latches, protect_ledto, seen_after}
use Rattle.law_refine.specs.Below.fkv_session.OwnTurns.{own_turn_ask, own_turn_given}
use Rattle.law_refine.specs.Below.fkv_session.Sessions.{IsOpened, SessionState, Seat, asks_after, bits_of, caught, is_busy, is_word_ask, session_ask, attempt_moved, attempts, call_begun, catch_ledto, op_begun, own_turn_moved, poll_begun, poll_call, polls_at, refresh_call, refusal_of, refuses, shifts, sitting_given, sitting_next, sleep_call, turn_ledto, wake_call}
use Rattle.law_refine.specs.Below.fkv_session.SessionRun.{Begins, Gets, Replies, SessionEvent, begins, session_happens, session_run}
use Rattle.law_refine.specs.Below.fkv_session.Words.{GoesToSleep, HasFinished, IsMark, IsMarkStore, LeavesVersion, OwesUpdates, stored_by, stored_last}
use Rattle.law_refine.proofs.Below.fkv_session.Shown.{IsCatching, IsMarked, StepMarks, run_slept, run_stores}
use Rattle.law_commit.specs.Cuts.{ShowsCut, serial_before}
use Rattle.law_commit.specs.Quiet.{SleptAt}
use Rattle.law_commit.proofs.OfCuts.Always.{run_marks}
use Rattle.law_commit.proofs.OfCuts.Told.{cut_mark}
use Rattle.law_commit.proofs.SessionSteps.{HoldsBegun, attempt_holds, catch_holds, clear_holds, leave_holds, op_holds, poll_holds, polls_hold}

-- ---- where a session comes to wake
abbrev pub NoWake : Sitting → Type 0
NoWake (CatchesUp Wakes) = ⊥
NoWake step = ⊤

abbrev NoneWakes : SessionState → Type 0
NoneWakes s = NoWake s.step

either_no : (c : Bool) (a b : SessionState) → NoneWakes a → NoneWakes b → NoneWakes (if c then a else b)
either_no true a b one other = one
either_no false a b one other = other

still_no : (s : SessionState) (step : Sitting) → s.step ≡ step → NoWake step → NoneWakes s
still_no s step at none = subst NoWake (sym at) none

attempts_no : (k : Seat) (s : SessionState) (has_shifted : Bool) → NoneWakes (attempts k s has_shifted)
unfolding attempts
attempts_no k s has_shifted = tt

shifted_no : (s : SessionState) → NoneWakes (shifts s false)
unfolding shifts
shifted_no s = tt

begun : (k : Seat) → HoldsBegun k (λ s step. NoWake step)
begun k = record { answered = λ s its other. tt; turns = λ s its other. tt; tries = λ s has_shifted. attempts_no k s has_shifted; polls = λ s index pending. tt; shifted = λ s. shifted_no s; owes = λ s index. tt }

turned_no : (s : SessionState) (its : Told) (ask : Ask (Unit {0})) → s.step ≡ Turns its → NoneWakes (turn_ledto s its ask)
unfolding turn_ledto
turned_no s its (Done through) at = tt
turned_no s its ask at = still_no s (Turns its) at tt

pub next_no : (k : Seat) (s : SessionState) (asks : ℕ) (step : Sitting) (reply : ℕ) → s.step ≡ step → NoWake step → NoneWakes (sitting_next k (record s { asks = asks; effect = None }) step reply)
unfolding sitting_next
next_no k s asks (Idle its) reply at none = still_no (record s { asks = asks; effect = None }) (Idle its) at tt
next_no k s asks (Attempts has_shifted) reply at none = attempt_holds k (λ s step. NoWake step) (begun k) (attempt_moved k (record s { asks = asks; effect = None }) reply) has_shifted _ at tt
next_no k s asks (CatchesUp cause) reply at none = catch_holds k (λ s step. NoWake step) (begun k) (caught k (record s { asks = asks; effect = None }) reply) cause _ at none
next_no k s asks ClearsMail reply at none = clear_holds k (λ s step. NoWake step) (begun k) (record s { asks = asks; effect = None; mailing = mail_next s.mailing reply }) _ at tt
next_no k s asks (Polls i) reply at none = poll_holds k (λ s step. NoWake step) (begun k) (attempt_moved k (record s { asks = asks; effect = None }) reply) i _ at tt
next_no k s asks (StoresOwing i) reply at none = polls_hold k (λ s step. NoWake step) (begun k) (record s { asks = asks; effect = None }) i
next_no k s asks (Turns its) reply at none = turned_no (own_turn_moved k (record s { asks = asks; effect = None }) reply) its _ at
next_no k s asks StoresCut reply at none = tt
next_no k s asks Leaves reply at none = leave_holds k (λ s step. NoWake step) (begun k) (record s { asks = asks; effect = None; leaving = leave_next s.leaving }) _ at tt
next_no k s asks LoadsDurable reply at none = tt

-- ---- where a wake comes to, before it has told where it leaves its version
-- it has loaded nothing yet, or is about to store its cut word
abbrev pub IsBefore : Type 0 → Catching → Type 0
IsBefore B catching.Refreshes = ⊥
IsBefore B catching.Protects = B
IsBefore B catching.StoresCut = B
IsBefore B step = ⊤

module _ (B : Type 0) where
  abbrev Goes : CatchState → Type 0
  Goes c = IsBefore B c.step

  either_goes : (t : Bool) (a b : CatchState) → Goes a → Goes b → Goes (if t then a else b)
  either_goes true a b one other = one
  either_goes false a b one other = other

  finishes_goes : (c : CatchState) → Goes (finishes c)
  finishes_goes c = either_goes c.is_refresh _ (record c { step = catching.Ended }) tt tt

  begun_goes : (p : Places) (bits : ℕ) (c : CatchState) (i : ℕ) (found : Option PendingRequest) → Goes (latch_begun p bits c i found)
  begun_goes p bits c i None = finishes_goes c
  begun_goes p bits c i (Some pending) = tt

  wanted_goes : (p : Places) (bits : ℕ) (c : CatchState) (requests : List PendingRequest) (at : Option ℕ) → Goes (latch_wanted p bits c requests at)
  wanted_goes p bits c requests None = finishes_goes c
  wanted_goes p bits c requests (Some i) = begun_goes p bits c i (slice_get requests i)

  latches_goes : (p : Places) (bits : ℕ) (c : CatchState) (requests : List PendingRequest) → Goes (latches p bits c requests)
  latches_goes p bits c requests = either_goes c.is_entering (latch_wanted p bits c requests (position is_unlatched requests)) (finishes c) (wanted_goes p bits c requests (position is_unlatched requests)) (finishes_goes c)

  latched_goes : (p : Places) (bits : ℕ) (c : CatchState) (requests : List PendingRequest) (ask : Ask LatchAnswer) (i : ℕ) → c.step ≡ catching.Latches i → Goes (latch_ledto p bits c requests ask)
  unfolding latch_ledto
  latched_goes p bits c requests (Done Taken) i at = latches_goes p bits c requests
  latched_goes p bits c requests (Done its) i at = finishes_goes c
  latched_goes p bits c requests ask i at = subst (IsBefore B) (sym at) tt

  finished_goes : (c : CatchState) (ask : Ask RefreshAnswer) → c.step ≡ catching.Finishes → Goes (finish_ledto c ask)
  unfolding finish_ledto
  finished_goes c (Done its) at = tt
  finished_goes c ask at = subst (IsBefore B) (sym at) tt

  cuts_goes : (p : Places) (bits : ℕ) (c : CatchState) (requests : List PendingRequest) (leaves : Bool) → B → Goes (cuts p bits c requests leaves)
  cuts_goes p bits c requests true its = its
  cuts_goes p bits c requests false its = latches_goes p bits c requests

  protected_goes : (p : Places) (bits : ℕ) (c : CatchState) (requests : List PendingRequest) (ask : Ask loaded.Seen) → c.step ≡ catching.Protects → B → Goes (protect_ledto p bits c requests ask)
  unfolding protect_ledto
  protected_goes p bits c requests (Done values) at its =
      let after : Seen = seen_after c.seen values (phase_said values.phase) in
      cuts_goes p bits (record c { seen = after; is_entering = enters_prepare c.seen after }) requests (not (is_same_version c.seen after)) its
  protected_goes p bits c requests ask at its = subst (IsBefore B) (sym at) its

  caught_goes : (A : Type 0) (p : Places) (bits n : ℕ) (c : CatchState) (requests : List PendingRequest) (step : Catching) (reply : ℕ) → c.step ≡ step → IsBefore A step → (step ≡ catching.Protects → A → B) → Goes (catching_next p bits n c requests step reply)
  unfolding catching_next
  caught_goes A p bits n c requests catching.Ended reply at before onto = subst (IsBefore B) (sym at) tt
  caught_goes A p bits n c requests catching.Refreshes reply at before onto = absurd before
  caught_goes A p bits n c requests catching.Protects reply at before onto = protected_goes p bits _ requests _ at (onto refl before)
  caught_goes A p bits n c requests catching.StoresCut reply at before onto = tt
  caught_goes A p bits n c requests catching.StoresOwing reply at before onto = latches_goes p bits c requests
  caught_goes A p bits n c requests (catching.Latches i) reply at before onto = latched_goes p bits _ requests _ i at
  caught_goes A p bits n c requests catching.Finishes reply at before onto = finished_goes _ _ at

-- ---- a session's words as it has slept
abbrev pub HasSlept : Seat → (ℕ → ℕ) → SessionState → Type 0
HasSlept k words s = SleptAt s.seen.version.0 s.serial (words (session_place k.number (cut_of s.seen.version.0))) (words (session_place k.number (cut_of (s.seen.version.0 - 1))))

abbrev pub WakesSlept : Seat → (ℕ → ℕ) → SessionState → Sitting → Type 0
WakesSlept k words s (CatchesUp Wakes) = IsBefore (HasSlept k words s) s.catching.step
WakesSlept k words s step = ⊤

not_waking : (k : Seat) (words : ℕ → ℕ) (s : SessionState) (step : Sitting) → NoWake step → WakesSlept k words s step
not_waking k words s (CatchesUp Wakes) none = absurd none
not_waking k words s (CatchesUp Refreshes) none = tt
not_waking k words s (CatchesUp Shifts) none = tt
not_waking k words s step none = tt

wakes_led : (k : Seat) (words : ℕ → ℕ) (t : SessionState) (ask : Ask (Unit {0})) → t.step ≡ CatchesUp Wakes → IsBefore (HasSlept k words t) t.catching.step → WakesSlept k words (catch_ledto k t Wakes ask) (catch_ledto k t Wakes ask).step
unfolding catch_ledto
wakes_led k words t (Done its) at before = tt
wakes_led k words t ask at before = subst (WakesSlept k words t) (sym at) before

-- a reply
other_slept : (k : Seat) (words : ℕ → ℕ) (s : SessionState) (asks : ℕ) (step : Sitting) (reply : ℕ) → s.step ≡ step → NoWake step
    → WakesSlept k words (sitting_next k (record s { asks = asks; effect = None }) step reply) (sitting_next k (record s { asks = asks; effect = None }) step reply).step
other_slept k words s asks step reply at none =
    let a : SessionState = sitting_next k (record s { asks = asks; effect = None }) step reply in
    not_waking k words a a.step (next_no k s asks step reply at none)

replied_slept : (k : Seat) (words after_words : ℕ → ℕ) (s : SessionState) (asks : ℕ) (step : Sitting) (reply : ℕ) → s.step ≡ step → WakesSlept k words s step
    → (step ≡ CatchesUp Wakes → s.catching.step ≡ catching.Protects → (place : ℕ) → IsMark k.number place → after_words place ≡ words place)
    → WakesSlept k after_words (sitting_next k (record s { asks = asks; effect = None }) step reply) (sitting_next k (record s { asks = asks; effect = None }) step reply).step
unfolding sitting_next
replied_slept k words after_words s asks (CatchesUp Wakes) reply at slept same =
    let t : SessionState = caught k (record s { asks = asks; effect = None }) reply in
    wakes_led k after_words t _ at
    (caught_goes (HasSlept k after_words t) (HasSlept k words s) k.places (bits_of k) k.number s.catching (catch_requests s.catching s.requests reply) s.catching.step reply refl slept
    (λ protects its. record {
      serial = its.serial;
      low = its.low;
      own = same refl protects (session_place k.number (cut_of s.seen.version.0)) (cut_mark k.number s.seen.version.0) ∙ its.own;
      before = same refl protects (session_place k.number (cut_of (s.seen.version.0 - 1))) (cut_mark k.number (s.seen.version.0 - 1)) ∙ its.before;
    }))
replied_slept k words after_words s asks (CatchesUp Refreshes) reply at slept same = other_slept k after_words s asks (CatchesUp Refreshes) reply at tt
replied_slept k words after_words s asks (CatchesUp Shifts) reply at slept same = other_slept k after_words s asks (CatchesUp Shifts) reply at tt
replied_slept k words after_words s asks (Idle its) reply at slept same = other_slept k after_words s asks (Idle its) reply at tt
replied_slept k words after_words s asks (Attempts has_shifted) reply at slept same = other_slept k after_words s asks (Attempts has_shifted) reply at tt
replied_slept k words after_words s asks ClearsMail reply at slept same = other_slept k after_words s asks ClearsMail reply at tt
replied_slept k words after_words s asks (Polls i) reply at slept same = other_slept k after_words s asks (Polls i) reply at tt
replied_slept k words after_words s asks (StoresOwing i) reply at slept same = other_slept k after_words s asks (StoresOwing i) reply at tt
replied_slept k words after_words s asks (Turns its) reply at slept same = other_slept k after_words s asks (Turns its) reply at tt
replied_slept k words after_words s asks StoresCut reply at slept same = other_slept k after_words s asks StoresCut reply at tt
replied_slept k words after_words s asks Leaves reply at slept same = other_slept k after_words s asks Leaves reply at tt
replied_slept k words after_words s asks LoadsDurable reply at slept same = other_slept k after_words s asks LoadsDurable reply at tt

-- an action
given_slept : (k : Seat) (words : ℕ → ℕ) (s : SessionState) (step : Sitting) (action : Action) → s.step ≡ step → WakesSlept k words s s.step → WakesSlept k words (sitting_given k s step action) (sitting_given k s step action).step
unfolding sitting_given
given_slept k words s (Turns its) action at slept =
    let t : SessionState = record s { own_turn = own_turn_given s.own_turn action } in
    let a : SessionState = turn_ledto t its (own_turn_ask k.shape t.own_turn) in
    not_waking k words a a.step (turned_no t its (own_turn_ask k.shape t.own_turn) at)
given_slept k words s step action at slept = slept

-- a call
either_slept : (c : Bool) (k : Seat) (words : ℕ → ℕ) (a b : SessionState) → (c ≡ true → WakesSlept k words a a.step) → (c ≡ false → WakesSlept k words b b.step) → WakesSlept k words (if c then a else b) (if c then a else b).step
either_slept true k words a b one other = one refl
either_slept false k words a b one other = other refl

clears_no : (k : Seat) (s : SessionState) → NoneWakes (poll_begun k s)
clears_no k s = either_no s.is_orphaned _ (polls_at k s 0) tt (polls_hold k (λ s step. NoWake step) (begun k) s 0)

called_slept : (k : Seat) (words : ℕ → ℕ) (s : SessionState) (its : Call) → (s.is_awake ≡ false → HasSlept k words s) → WakesSlept k words (call_begun k s its) (call_begun k s its).step
unfolding refresh_call poll_call sleep_call wake_call
called_slept k words s (call.Op op) slept = let a : SessionState = op_begun k s op (refusal_of s op) in not_waking k words a a.step (op_holds k (λ s step. NoWake step) (begun k) s op (refusal_of s op))
called_slept k words s call.Refresh slept =
    let next : SessionState = record s { catching = refresh_begun s.catching s.seen s.serial; step = CatchesUp Refreshes } in
    either_slept s.is_awake k words next (refuses s fault.Asleep) (λ awake. tt) (λ asleep. tt)
called_slept k words s call.Poll slept =
    let polls : SessionState = poll_begun k (record s { finished = [] }) in
    either_slept s.is_awake k words polls (refuses s fault.Asleep) (λ awake. not_waking k words polls polls.step (clears_no k (record s { finished = [] }))) (λ asleep. tt)
called_slept k words s call.Sleep slept =
    let next : SessionState = record s { step = StoresCut } in
    either_slept (not s.is_awake) k words (refuses s fault.Asleep) (if length s.requests == 0 then next else refuses s fault.PendingLeft) (λ asleep. tt)
    (λ awake. either_slept (length s.requests == 0) k words next (refuses s fault.PendingLeft) (λ empty. tt) (λ left. tt))
called_slept k words s call.Wake slept =
    let next : SessionState = record s { catching = wake_begun s.catching s.seen s.serial; step = CatchesUp Wakes } in
    either_slept s.is_awake k words (refuses s fault.Awake) next (λ awake. tt) (λ asleep. slept asleep)
called_slept k words s call.Durable slept = tt

begins_slept : (k : Seat) (words : ℕ → ℕ) (s : SessionState) (its : Call) (busy : Bool) → is_busy s.step ≡ busy → (is_busy s.step ≡ false → s.is_awake ≡ false → HasSlept k words s) → WakesSlept k words s s.step → WakesSlept k words (begins k s busy its) (begins k s busy its).step
begins_slept k words s its true is slept before = before
begins_slept k words s its false is slept before = called_slept k words (record s { asks = 0; effect = None; wants_turn = false }) its (slept is)

-- ---- where it has loaded nothing it stores no cut word
protects_same : (k : Seat) (words : ℕ → ℕ) (left : Option ℕ) (s : SessionState) (step : Catching) → step ≡ catching.Protects → IsCatching k.number words left (record s { catching = record s.catching { step = step } }) → s.catching.seen ≡ s.seen
protects_same k words left s catching.Protects e marks = marks.at.0
protects_same k words left s step e marks = cc

wakes_same : (k : Seat) (words : ℕ → ℕ) (left : Option ℕ) (s : SessionState) (step : Sitting) → step ≡ CatchesUp Wakes → s.catching.step ≡ catching.Protects → StepMarks k words left s step → s.catching.seen ≡ s.seen
wakes_same k words left s (CatchesUp Wakes) e protects marks = protects_same k words left s s.catching.step protects marks
wakes_same k words left s step e protects marks = cc

no_mark : (k : Seat) (s : SessionState) (place word : ℕ) → s.step ≡ CatchesUp Wakes → s.catching.seen ≡ s.seen → IsMarkStore k s place word → ⊥
no_mark k s place word at same (LeavesVersion catches other is its) = other (ap (λ (x : Seen). x.version.0) same)
no_mark k s place word at same (OwesUpdates catches other is its) = other (ap (λ (x : Seen). x.version.0) same)
no_mark k s place word at same (HasFinished {index} stores is its) = let clash : CatchesUp Wakes ≡ StoresOwing index = sym at ∙ stores in cc
no_mark k s place word at same (GoesToSleep sleeps is its) = let clash : CatchesUp Wakes ≡ StoresCut = sym at ∙ sleeps in cc

asked_same : (ask : Ask Told) (place before : ℕ) → ((word : ℕ) → ask ≡ Store place word → ⊥) → stored_by ask place before ≡ before
asked_same (Store at word) place before none = by_place (at == place) refl
  where
    by_place : (here : Bool) → (at == place) ≡ here → (if here then word else before) ≡ before
    by_place true e = let same : at ≡ place = grind (arith, nat_tests, e) in absurd (none word (ap (λ (x : ℕ). Store x word) same))
    by_place false e = refl
asked_same (Load at) place before none = refl
asked_same (Swap at word) place before none = refl
asked_same (Cas at old new) place before none = refl
asked_same (Add at n) place before none = refl
asked_same (Max at n) place before none = refl
asked_same (Put slot action) place before none = refl
asked_same (Take slot) place before none = refl
asked_same (Done told) place before none = refl

-- ---- at each moment of a run
opening_slept : (k : Seat) (words : ℕ → ℕ) (s : SessionState) (step : Sitting) → is_busy step ≡ false → WakesSlept k words s step
opening_slept k words s (Idle its) idle = tt
opening_slept k words s step idle = cc

idle_cut : (k : Seat) (words : ℕ → ℕ) (left : Option ℕ) (s : SessionState) (step : Sitting) → is_busy step ≡ false → StepMarks k words left s step → IsMarked k.number words left s.seen.version.0 s.requests
idle_cut k words left s (Idle its) idle marks = marks
idle_cut k words left s step idle marks = cc

module _ (k : Seat) (first : SessionState) (f : ℕ → ℕ) (opened : IsOpened first) (some : k.number < k.places.sessions) (shows : ShowsCut k first f) (low : (events : List SessionEvent) → serial_before k first events ≤ (session_run k first events).serial) where
  abbrev stored : List SessionEvent → ℕ → ℕ
  stored events place = stored_last k first f events place

  rest_slept : (before : List SessionEvent) → is_busy (session_run k first before).step ≡ false → (session_run k first before).is_awake ≡ false → HasSlept k (stored before) (session_run k first before)
  rest_slept before idle asleep =
      let s : SessionState = session_run k first before in
      let marked = idle_cut k (stored before) (Some (serial_before k first before)) s s.step idle (run_marks k first f before opened some shows) in
      let cut = marked.cut in
      record { serial = serial_before k first before; low = low before; own = run_slept k first f before opened idle asleep; before = cut.2 }

  pub run_wakes : (events : List SessionEvent) → WakesSlept k (stored events) (session_run k first events) (session_run k first events).step
  unfolding session_run stored_last session_happens
  run_wakes [] = opening_slept k f first first.step opened.none_in_hand
  run_wakes (Begins its ∷ before) = begins_slept k (stored before) (session_run k first before) its (is_busy (session_run k first before).step) refl (rest_slept before) (run_wakes before)
  run_wakes (Gets action ∷ before) = given_slept k (stored before) (session_run k first before) (session_run k first before).step action refl (run_wakes before)
  run_wakes (Replies reply ∷ before) =
      let s : SessionState = session_run k first before in
      replied_slept k (stored before) (stored (Replies reply ∷ before)) s (asks_after s.asks (is_word_ask (session_ask k s))) s.step reply refl (run_wakes before)
      (λ wakes protects place mark.
      let same = wakes_same k (stored before) (Some (serial_before k first before)) s s.step wakes protects (run_marks k first f before opened some shows) in
      asked_same (session_ask k s) place (stored before place) (λ word asks. no_mark k s place word wakes same (run_stores k first before opened some place word asks mark)))
