-- At every moment of a run the answer of a call is what its try has come to, and what it has loaded.
use Rattle.std.proofs.Common.{◌≡◌, inl, inr, List, [], ◌∷◌, refl, ap, sym, subst, ◌∙◌, Bool, true, false}
use Rattle.std.specs.Prelude.{Option, Some, None, if◌then◌else◌}
use Rattle.fkv_base.specs.declared.faults.Fault.TheVariants as fault
use Rattle.fkv_base.specs.declared.numbers.Serial.{Serial}
use Rattle.fkv_base.specs.declared.numbers.Version.{Version}
use Rattle.fkv_base.specs.declared.phases.Phase.{Phase}
use Rattle.fkv_map.specs.declared.operations.Call.{Call}
use Rattle.fkv_map.specs.declared.operations.Call.TheVariants as call
use Rattle.fkv_map.specs.declared.operations.Op.{Op}
use Rattle.fkv_plane.specs.declared.places.SessionWord.TheVariants as own
use Rattle.fkv_plane.specs.declared.places.SharedWord.TheVariants as one
use Rattle.fkv_plane.specs.Places.{shared_place, session_place}
use Rattle.fkv_ops.specs.declared.answers.Reason.{Reason}
use Rattle.fkv_ops.specs.declared.answers.Reason.TheVariants as reason
use Rattle.fkv_ops.specs.declared.answers.TryAnswer.TheVariants as tried
use Rattle.fkv_ops.specs.declared.requests.Seen.{Seen}
use Rattle.fkv_ops.specs.TryRun.{Trial}
use Rattle.fkv_session.specs.declared.answers.Told.{Told}
use Rattle.fkv_session.specs.declared.answers.Told.TheVariants as told
use Rattle.fkv_session.specs.declared.sessions.Sitting.{Sitting}
use Rattle.fkv_session.specs.declared.sessions.Sitting.TheVariants.{Idle}
use Rattle.fkv_session.specs.CallAsks.{Ends, asked_by, asked_in_call, told_in}
use Rattle.fkv_session.specs.InOrder.{Exchange, loaded_last}
use Rattle.fkv_session.specs.Refused.{before_call, begun_from}
use Rattle.fkv_session.specs.Kinds.{IsAnswerTo, IsOfKind, IsOfOperation, call_after, last_call}
use Rattle.fkv_session.specs.Replies.{op_after, op_begun, op_called}
use Rattle.fkv_session.specs.Sessions.{SessionState, Seat, IsOpened, asks_after, is_busy, is_word_ask, session_ask}
use Rattle.fkv_session.specs.SessionRun.{SessionEvent, Begins, Replies, Gets, begins, session_happens, session_run}
use Rattle.fkv_session.specs.Shares.{HasItsBuckets}
use Rattle.fkv_session.specs.TrueAnswers.{trial_of, WaitsFor, IsTrueOf, IsPhaseSeen}
use Rattle.fkv_session.proofs.CallTries.{LastTry, HasWaited, HasAwaited, HasShifted, TryEnded, ended_true}
use Rattle.fkv_session.proofs.AnswersKnown.{OpKnown, OtherKnown, EndKnown, ByOp, ByOther, StepKnown, KnownNow, next_now, given_now, next_end, given_end, call_known}

-- over a run
abbrev RunKnown : (k : Seat) → HasItsBuckets k → SessionState → List SessionEvent → SessionState → Type 0
RunKnown k buckets opening events s = KnownNow k buckets (before_call k opening events).seen (last_call k opening events) (asked_in_call k opening events) s

begins_known : (k : Seat) (buckets : HasItsBuckets k) (s earlier : SessionState) (called : Option Call) (asked : List Exchange) (its : Call) (busy : Bool) → is_busy s.step ≡ busy → KnownNow k buckets earlier.seen called asked s
    → KnownNow k buckets (begun_from s (Begins its) earlier).seen (call_after s (Begins its) called) (asked_by k s (Begins its) asked) (begins k s busy its)
begins_known k buckets s earlier called asked its true e known = rw e known
begins_known k buckets s earlier called asked its false e known = rw e (call_known k buckets (record s { asks = 0; effect = None; wants_turn = false }) its)

event_known : (k : Seat) (buckets : HasItsBuckets k) (s earlier : SessionState) (called : Option Call) (asked : List Exchange) (event : SessionEvent) → KnownNow k buckets earlier.seen called asked s
    → KnownNow k buckets (begun_from s event earlier).seen (call_after s event called) (asked_by k s event asked) (session_happens k s event)
unfolding session_happens
event_known k buckets s earlier called asked (Begins its) known = begins_known k buckets s earlier called asked its (is_busy s.step) refl known
event_known k buckets s earlier called asked (Replies reply) known = next_now k buckets earlier.seen called asked s (asks_after s.asks (is_word_ask (session_ask k s))) s.step reply refl known
event_known k buckets s earlier called asked (Gets action) known = given_now k buckets earlier.seen called asked s s.step action refl known

opening_known : (k : Seat) (buckets : HasItsBuckets k) (s : SessionState) (was : Seen) (called : Option Call) (asked : List Exchange) (step : Sitting) → is_busy step ≡ false → StepKnown k buckets was called asked s step
opening_known k buckets s was called asked (Idle its) rests = tt
opening_known k buckets s was called asked step rests = cc

run_known : (k : Seat) (buckets : HasItsBuckets k) (opening : SessionState) (events : List SessionEvent) → IsOpened opening → RunKnown k buckets opening events (session_run k opening events)
unfolding session_run before_call last_call asked_in_call
run_known k buckets opening [] opened = opening_known k buckets opening opening.seen None [] opening.step opened.none_in_hand
run_known k buckets opening (event ∷ before) opened =
    event_known k buckets (session_run k opening before) (before_call k opening before) (last_call k opening before) (asked_in_call k opening before) event (run_known k buckets opening before opened)

-- where a call ends
never_idle : {A : Type 0} (step : Sitting) (its : Told) → is_busy step ≡ true → step ≡ Idle its → A
never_idle (Idle it) its busy e = cc
never_idle step its busy e = cc

event_ends : (k : Seat) (buckets : HasItsBuckets k) (s earlier : SessionState) (called : Option Call) (asked : List Exchange) (event : SessionEvent) (its : Told) → is_busy s.step ≡ true → KnownNow k buckets earlier.seen called asked s → (session_happens k s event).step ≡ Idle its
    → EndKnown k buckets (begun_from s event earlier).seen (call_after s event called) (asked_by k s event asked) (session_happens k s event) its
unfolding session_happens
event_ends k buckets s earlier called asked (Begins it) its busy known e = absurd (never (is_busy s.step) busy e)
  where
    never : (b : Bool) → b ≡ true → (begins k s b it).step ≡ Idle its → ⊥
    never true is ends = never_idle s.step its busy ends
    never false is ends = cc
event_ends k buckets s earlier called asked (Replies reply) its busy known e = next_end k buckets earlier.seen called asked s (asks_after s.asks (is_word_ask (session_ask k s))) reply its busy known e
event_ends k buckets s earlier called asked (Gets action) its busy known e = given_end k buckets earlier.seen called asked s action its busy known e

run_ends : (k : Seat) (buckets : HasItsBuckets k) (opening : SessionState) (event : SessionEvent) (before : List SessionEvent) (its : Told) → IsOpened opening → Ends k opening event before its
    → EndKnown k buckets (before_call k opening (event ∷ before)).seen (last_call k opening (event ∷ before)) (asked_in_call k opening (event ∷ before)) (session_run k opening (event ∷ before)) its
unfolding session_run before_call last_call asked_in_call
run_ends k buckets opening event before its opened ends =
    event_ends k buckets (session_run k opening before) (before_call k opening before) (last_call k opening before) (asked_in_call k opening before) event its ends.in_hand (run_known k buckets opening before opened) ends.its_answer

-- by the law of reasons
waits_so : (c : Trial) (asked : List Exchange) (why : Reason) → LastTry c asked why → WaitsFor c (told_in asked) why
waits_so c asked why (HasWaited ended) = by_reason why ended
  where
    by_reason : (why : Reason) → TryEnded c asked (tried.Wait why) → WaitsFor c (told_in asked) why
    by_reason reason.Disk ended = absurd (ended_true c asked (tried.Wait reason.Disk) ended)
    by_reason reason.Contended ended = inl (ended_true c asked (tried.Wait reason.Contended) ended)
    by_reason reason.Fuzzy ended = ended_true c asked (tried.Wait reason.Fuzzy) ended
    by_reason reason.Latch ended = ended_true c asked (tried.Wait reason.Latch) ended
    by_reason reason.NoRoom ended = ended_true c asked (tried.Wait reason.NoRoom) ended
    by_reason reason.Full ended = ended_true c asked (tried.Wait reason.Full) ended
waits_so c asked why (HasAwaited e awaits) = subst (λ (x : Reason). WaitsFor c (told_in asked) x) (sym e) (awaits.it, ended_true c asked (tried.AwaitsDisk awaits.it) awaits.ended)
waits_so c asked why (HasShifted e ended has) = subst (λ (x : Reason). WaitsFor c (told_in asked) x) (sym e) (inr (record { must = ended_true c asked tried.Shift ended; word = has.word; has_refreshed = has.loaded }))

known_true : (c : Trial) (asked : List Exchange) (its : Told) → OpKnown c asked its → IsTrueOf c (told_in asked) its
known_true c asked (told.Done serial reply) known = known
known_true c asked (told.Pending serial why) known = (known.0, waits_so c asked why known.1)
known_true c asked (told.Found value) known = ended_true c asked (tried.Found value) known
known_true c asked told.Absent known = ended_true c asked tried.Absent known
known_true c asked (told.PendingRead ticket) known = (known.0, record { why = known.1.why; its_cause = waits_so c asked known.1.why known.1.last })
known_true c asked (told.Refused fault.IndexFull) known = (ended_true c asked tried.IndexFull known).1
known_true c asked (told.Refused fault.LogFull) known = (ended_true c asked tried.LogFull known).1
known_true c asked its known = absurd known

-- the operation of the call that began last
abbrev op_in : Option Call → Option Op
op_in (Some (call.Op op)) = Some op
op_in called = None

begun_alike : (busy : Bool) (its : Call) (op : Option Op) (called : Option Call) → op ≡ op_in called → op_begun busy its op ≡ op_in (if busy then called else Some its)
begun_alike true its op called same = same
begun_alike false (call.Op it) op called same = refl
begun_alike false its op called same = refl

after_alike : (s : SessionState) (event : SessionEvent) (op : Option Op) (called : Option Call) → op ≡ op_in called → op_after s event op ≡ op_in (call_after s event called)
after_alike s (Begins its) op called same = begun_alike (is_busy s.step) its op called same
after_alike s event op called same = same

op_of_call : (k : Seat) (opening : SessionState) (events : List SessionEvent) → op_called k opening events ≡ op_in (last_call k opening events)
unfolding op_called last_call
op_of_call k opening [] = refl
op_of_call k opening (event ∷ before) = after_alike (session_run k opening before) event (op_called k opening before) (last_call k opening before) (op_of_call k opening before)

-- an operation's answer
pub run_true : (k : Seat) (buckets : HasItsBuckets k) (opening : SessionState) (event : SessionEvent) (before : List SessionEvent) (its : Told) (op : Op) → IsOpened opening → Ends k opening event before its → op_called k opening (event ∷ before) ≡ Some op
    → IsTrueOf (trial_of k buckets (session_run k opening (event ∷ before)).seen (session_run k opening (event ∷ before)).floor op) (told_in (asked_in_call k opening (event ∷ before))) its
run_true k buckets opening event before its op opened ends called = by_end (run_ends k buckets opening event before its opened ends)
  where
    s : SessionState
    s = session_run k opening (event ∷ before)

    asked : List Exchange
    asked = asked_in_call k opening (event ∷ before)

    begun : Option Call
    begun = last_call k opening (event ∷ before)

    op_there : {called : Option Call} → begun ≡ called → op_in called ≡ Some op
    op_there e = sym (op_of_call k opening (event ∷ before) ∙ ap op_in e) ∙ called

    no_other : (other : Call) → OtherKnown k (before_call k opening (event ∷ before)).seen asked s other its → op_in (Some other) ≡ Some op → ⊥
    no_other (call.Op it) known e = known
    no_other other known e = cc

    by_end : EndKnown k buckets (before_call k opening (event ∷ before)).seen begun asked s its → IsTrueOf (trial_of k buckets s.seen s.floor op) (told_in asked) its
    by_end (ByOp e known) =
        let same : s.op ≡ op = (let there = op_there e in cc) in
        subst (λ (x : Op). IsTrueOf (trial_of k buckets s.seen s.floor x) (told_in asked) its) same (known_true (trial_of k buckets s.seen s.floor s.op) asked its known)
    by_end (ByOther other e known) = absurd (no_other other known (op_there e))

-- an answer is of its call's kind
op_kind : (c : Trial) (asked : List Exchange) (its : Told) → OpKnown c asked its → IsOfOperation c.request.op its
op_kind c asked (told.Done serial reply) known = known
op_kind c asked (told.Pending serial why) known = known.0
op_kind c asked (told.Found value) known = (ended_true c asked (tried.Found value) known).reads
op_kind c asked told.Absent known = (ended_true c asked tried.Absent known).reads
op_kind c asked (told.PendingRead ticket) known = known.0
op_kind c asked (told.Refused fault.IndexFull) known = tt
op_kind c asked (told.Refused fault.LogFull) known = tt
op_kind c asked its known = absurd known

other_kind : (k : Seat) (was : Seen) (asked : List Exchange) (s : SessionState) (other : Call) (its : Told) → OtherKnown k was asked s other its → IsOfKind other its
other_kind k was asked s call.Refresh (told.Refreshed phase version) known = tt
other_kind k was asked s call.Wake (told.Woken phase version) known = tt
other_kind k was asked s call.Durable (told.Durable serial) known = tt
other_kind k was asked s call.Sleep told.Slept known = tt
other_kind k was asked s call.Poll (told.Polled left) known = tt
other_kind k was asked s other its known = absurd known

end_kind : (k : Seat) (buckets : HasItsBuckets k) (was : Seen) (called : Option Call) (asked : List Exchange) (s : SessionState) (its : Told) → EndKnown k buckets was called asked s its → IsAnswerTo called its
end_kind k buckets was called asked s its (ByOp e known) = subst (λ (x : Option Call). IsAnswerTo x its) (sym e) (op_kind (trial_of k buckets s.seen s.floor s.op) asked its known)
end_kind k buckets was called asked s its (ByOther other e known) = subst (λ (x : Option Call). IsAnswerTo x its) (sym e) (other_kind k was asked s other its known)

pub run_kind : (k : Seat) (buckets : HasItsBuckets k) (opening : SessionState) (event : SessionEvent) (before : List SessionEvent) (its : Told) → IsOpened opening → Ends k opening event before its
    → IsAnswerTo (last_call k opening (event ∷ before)) its
run_kind k buckets opening event before its opened ends =
    end_kind k buckets (before_call k opening (event ∷ before)).seen (last_call k opening (event ∷ before)) (asked_in_call k opening (event ∷ before)) (session_run k opening (event ∷ before)) its (run_ends k buckets opening event before its opened ends)

-- a refresh, a wake, and what is durable
other_so : {P : Type 0} (k : Seat) (buckets : HasItsBuckets k) (was : Seen) (called : Option Call) (asked : List Exchange) (s : SessionState) (its : Told) → ((c : Trial) → OpKnown c asked its → ⊥) → ((other : Call) → OtherKnown k was asked s other its → P)
    → EndKnown k buckets was called asked s its → P
other_so k buckets was called asked s its none by_call (ByOp e known) = absurd (none (trial_of k buckets s.seen s.floor s.op) known)
other_so k buckets was called asked s its none by_call (ByOther other e known) = by_call other known

refreshed_so : (k : Seat) (was : Seen) (asked : List Exchange) (s : SessionState) (phase : Phase) (version : Version) (other : Call) → OtherKnown k was asked s other (told.Refreshed phase version)
    → IsPhaseSeen was s.seen (loaded_last asked (shared_place one.Phase)) phase version
refreshed_so k was asked s phase version call.Refresh known = known
refreshed_so k was asked s phase version other known = absurd known

woken_so : (k : Seat) (was : Seen) (asked : List Exchange) (s : SessionState) (phase : Phase) (version : Version) (other : Call) → OtherKnown k was asked s other (told.Woken phase version)
    → IsPhaseSeen was s.seen (loaded_last asked (shared_place one.Phase)) phase version
woken_so k was asked s phase version call.Wake known = known.0
woken_so k was asked s phase version other known = absurd known

durable_so : (k : Seat) (was : Seen) (asked : List Exchange) (s : SessionState) (serial : Serial) (other : Call) → OtherKnown k was asked s other (told.Durable serial) → loaded_last asked (session_place k.number own.Durable) ≡ Some serial.0
durable_so k was asked s serial call.Durable known = known
durable_so k was asked s serial other known = absurd known

pub run_refreshed : (k : Seat) (buckets : HasItsBuckets k) (opening : SessionState) (event : SessionEvent) (before : List SessionEvent) (phase : Phase) (version : Version) → IsOpened opening → Ends k opening event before (told.Refreshed phase version)
    → IsPhaseSeen (before_call k opening (event ∷ before)).seen (session_run k opening (event ∷ before)).seen (loaded_last (asked_in_call k opening (event ∷ before)) (shared_place one.Phase)) phase version
run_refreshed k buckets opening event before phase version opened ends =
    other_so k buckets (before_call k opening (event ∷ before)).seen (last_call k opening (event ∷ before)) (asked_in_call k opening (event ∷ before)) (session_run k opening (event ∷ before)) (told.Refreshed phase version) (λ c known. known)
    (refreshed_so k (before_call k opening (event ∷ before)).seen (asked_in_call k opening (event ∷ before)) (session_run k opening (event ∷ before)) phase version) (run_ends k buckets opening event before (told.Refreshed phase version) opened ends)

pub run_woken : (k : Seat) (buckets : HasItsBuckets k) (opening : SessionState) (event : SessionEvent) (before : List SessionEvent) (phase : Phase) (version : Version) → IsOpened opening → Ends k opening event before (told.Woken phase version)
    → IsPhaseSeen (before_call k opening (event ∷ before)).seen (session_run k opening (event ∷ before)).seen (loaded_last (asked_in_call k opening (event ∷ before)) (shared_place one.Phase)) phase version
run_woken k buckets opening event before phase version opened ends =
    other_so k buckets (before_call k opening (event ∷ before)).seen (last_call k opening (event ∷ before)) (asked_in_call k opening (event ∷ before)) (session_run k opening (event ∷ before)) (told.Woken phase version) (λ c known. known)
    (woken_so k (before_call k opening (event ∷ before)).seen (asked_in_call k opening (event ∷ before)) (session_run k opening (event ∷ before)) phase version) (run_ends k buckets opening event before (told.Woken phase version) opened ends)

pub run_durable : (k : Seat) (buckets : HasItsBuckets k) (opening : SessionState) (event : SessionEvent) (before : List SessionEvent) (serial : Serial) → IsOpened opening → Ends k opening event before (told.Durable serial)
    → loaded_last (asked_in_call k opening (event ∷ before)) (session_place k.number own.Durable) ≡ Some serial.0
run_durable k buckets opening event before serial opened ends =
    other_so k buckets (before_call k opening (event ∷ before)).seen (last_call k opening (event ∷ before)) (asked_in_call k opening (event ∷ before)) (session_run k opening (event ∷ before)) (told.Durable serial) (λ c known. known)
    (durable_so k (before_call k opening (event ∷ before)).seen (asked_in_call k opening (event ∷ before)) (session_run k opening (event ∷ before)) serial) (run_ends k buckets opening event before (told.Durable serial) opened ends)
