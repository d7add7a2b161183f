-- A share that has met bit 63 is given back by the session's next ask.
use Rattle.std.proofs.Common.{◌≡◌, ℕ, ◌-◌, ◌^◌, refl, arith, ap, ◌∙◌, subst, Bool, true, false, List, ◌∷◌}
use Rattle.std.specs.Prelude.{◌==◌, if◌then◌else◌, None}
use Rattle.fkv_plane.specs.declared.asks.Ask.{Ask}
use Rattle.fkv_plane.specs.declared.asks.Ask.TheVariants.{Add, Done}
use Rattle.fkv_plane.specs.Passing.{passed}
use Rattle.fkv_latch.specs.Latching.{one_share, is_exclusive}
use Rattle.fkv_ops.specs.declared.answers.TryAnswer.{TryAnswer}
use Rattle.fkv_ops.specs.declared.answers.TryAnswer.TheVariants as answer
use Rattle.fkv_ops.specs.Trying.{try_ask, try_next}
use Rattle.fkv_ops.proofs.Shown.{given_back}
use Rattle.fkv_pending.specs.declared.attempting.Attempting.{Attempting}
use Rattle.fkv_pending.specs.declared.attempting.Attempting.TheVariants.{Ended, Looks, Tries, Puts}
use Rattle.fkv_pending.specs.Attempting.{AttemptState, try_ledto, try_moved, attempting_ask, attempt_ask, attempting_next, attempt_next}
use Rattle.fkv_latch.specs.declared.latching.LatchAnswer.TheVariants.{Taken}
use Rattle.fkv_latch.specs.declared.latching.Latching.{Latching}
use Rattle.fkv_latch.specs.declared.latching.Latching.TheVariants as latching
use Rattle.fkv_latch.specs.Latching.{latch_ask, latch_next, latch_next_ask}
use Rattle.fkv_pending.specs.declared.pending_requests.PendingRequest.{PendingRequest}
use Rattle.fkv_session.specs.declared.answers.Told.TheVariants as told
use Rattle.fkv_session.specs.declared.catching_up.Catching.{Catching}
use Rattle.fkv_session.specs.declared.catching_up.Catching.TheVariants.{Refreshes, Protects, StoresCut as CutStores, StoresOwing as OwingStores, Latches, Finishes, Ended as CatchEnded}
use Rattle.fkv_session.specs.declared.sessions.CatchCause.{CatchCause}
use Rattle.fkv_session.specs.declared.sessions.Sitting.{Sitting}
use Rattle.fkv_session.specs.declared.sessions.Sitting.TheVariants.{Idle, Attempts, CatchesUp, ClearsMail, Polls, StoresOwing, Turns, StoresCut, Leaves, LoadsDurable}
use Rattle.fkv_session.specs.CatchingUp.{CatchState, catching_ask, catch_ask, latch_marked, catching_requests, latch_ledto, catching_next}
use Rattle.fkv_session.specs.SessionRun.{SessionEvent, Replies, session_happens, session_run}
use Rattle.fkv_session.specs.Sessions.{SessionState, Seat, IsOpened, bits_of, room_of, attempt_ledto, catch_ledto, poll_ledto, attempt_moved, caught, sitting_ask, session_ask, sitting_next, asks_after, is_word_ask}
use Rattle.fkv_session.proofs.CatchShares.{LatchesSo, KnowsCatch}
use Rattle.fkv_session.proofs.Shared.{Book, StepShares, book_of, run_shares}
use Rattle.fkv_session.specs.Shares.{HasItsBuckets}
use Rattle.fkv_session.proofs.AttemptShares.{KnowsShare, trial_at}
use Rattle.fkv_session.proofs.SharesSpared.{SharesNone, passed_none, mail_none, refresh_none, protect_none, leave_none, own_turn_none}

passed_add : {A B : Type 0} (ask : Ask A) (its : B) (place number : ℕ) → passed ask its ≡ Add place number → ask ≡ Add place number
unfolding passed
passed_add (Add at its) found place number e = (let one : at ≡ place = cc in let other : its ≡ number = cc in ap (λ (p : ℕ). Add p its) one ∙ ap (λ (n : ℕ). Add place n) other)
passed_add ask found place number e = cc

spared_not : {A : Type 0} (ask : Ask A) (place : ℕ) → SharesNone ask → ask ≡ Add place one_share → ⊥
spared_not {A = A} ask place none e = let its : SharesNone {A = A} (Add place one_share) = subst (λ (x : Ask A). SharesNone x) e none in let one : (one_share == one_share) ≡ false = its.0 in cc

try_back : (k : Seat) (a : AttemptState) (ask : Ask TryAnswer) (place : ℕ) → a.step ≡ Tries → try_ask k.places a.trial ≡ ask → ask ≡ Add place (2 ^ 64 - one_share) → attempt_ask k.places k.number (try_ledto a ask) ≡ Add place (2 ^ 64 - one_share)
unfolding try_ledto attempting_ask passed
try_back k a (Add at its) place s asks e = ap (λ (x : Attempting). attempting_ask k.places k.number a x) s ∙ ap (λ (x : Ask TryAnswer). passed x answer.Shift) (asks ∙ e)
try_back k a ask place s asks e = cc

step_back : (k : Seat) (its : HasItsBuckets k) (a : AttemptState) (step : Attempting) (reply place : ℕ) → a.step ≡ step → KnowsShare k its a step → attempting_ask k.places k.number a step ≡ Add place one_share → is_exclusive reply ≡ true
    → attempt_ask k.places k.number (attempting_next k.places (bits_of k) (room_of k) k.number (record a { effect = None }) step reply) ≡ Add place (2 ^ 64 - one_share)
unfolding attempting_ask attempting_next
step_back k its a (Ended found) reply place s knows asks busy = cc
step_back k its a Looks reply place s knows asks busy = absurd (spared_not _ place (passed_none _ answer.Shift (mail_none k.number a.mailing)) asks)
step_back k its a Tries reply place s knows asks busy =
    try_back k (try_moved k.places (room_of k) (record a { effect = None }) reply) (try_ask k.places (try_next k.places (room_of k) a.trial reply)) place s refl
    (given_back (trial_at k its knows.request knows.seen knows.occasion) a.trial reply place knows.trying (passed_add (try_ask k.places a.trial) answer.Shift place one_share asks) busy)
step_back k its a Puts reply place s knows asks busy = absurd (spared_not _ place (passed_none _ answer.Shift (mail_none k.number a.mailing)) asks)

pub attempt_back : (k : Seat) (its : HasItsBuckets k) (a : AttemptState) (reply place : ℕ) → KnowsShare k its a a.step → attempt_ask k.places k.number a ≡ Add place one_share → is_exclusive reply ≡ true
    → attempt_ask k.places k.number (attempt_next k.places (bits_of k) (room_of k) k.number a reply) ≡ Add place (2 ^ 64 - one_share)
attempt_back k its a reply place knows asks busy = step_back k its a a.step reply place refl knows asks busy

-- a take-up
latch_back : (k : Seat) (requests : List PendingRequest) (c : CatchState) (i place : ℕ) (busy : Bool) → busy ≡ true → c.step ≡ Latches i → c.latching ≡ (if busy then latching.GivesBack place else latching.AtRest)
    → catch_ask k.places k.number (latch_ledto k.places (bits_of k) c requests (if busy then latch_ask (latching.GivesBack place) else Done Taken)) requests ≡ Add place (2 ^ 64 - one_share)
unfolding latch_ledto catching_ask latch_ask passed
latch_back k requests c i place true e s at = ap (λ (x : Catching). catching_ask k.places k.number c requests x) s ∙ ap (λ (x : Latching). passed {B = Unit {0}} (latch_ask x) tt) at
latch_back k requests c i place false e s at = cc

back_not : (at place : ℕ) → ◌≡◌ {A = Ask (Unit {0})} (Add at (2 ^ 64 - one_share)) (Add place one_share) → ⊥
back_not at place e = let same : ◌≡◌ {A = ℕ} 18446462598732840960 281474976710656 = ap number_of_add e in omega (arith, same)
  where
    number_of_add : Ask (Unit {0}) → ℕ
    number_of_add (Add it number) = number
    number_of_add ask = 0

latching_back : (k : Seat) (requests : List PendingRequest) (c : CatchState) (i : ℕ) (step : Latching) (reply place : ℕ) → c.step ≡ Latches i → LatchesSo k requests i step → passed {B = Unit {0}} (latch_ask step) tt ≡ Add place one_share → is_exclusive reply ≡ true
    → catch_ask k.places k.number (latch_ledto k.places (bits_of k) (record c { latching = latch_next step reply }) (latch_marked requests i (latch_next_ask step reply)) (latch_next_ask step reply)) (latch_marked requests i (latch_next_ask step reply))
    ≡ Add place (2 ^ 64 - one_share)
unfolding latch_ask latch_next latch_next_ask passed
latching_back k requests c i (latching.AddsShare at) reply place s so asks busy =
    let same : at ≡ place = cc in
    latch_back k (latch_marked requests i (if is_exclusive reply then latch_ask (latching.GivesBack at) else Done Taken)) (record c { latching = if is_exclusive reply then latching.GivesBack at else latching.AtRest }) i at (is_exclusive reply) busy s refl
    ∙ ap (λ (p : ℕ). Add p (2 ^ 64 - one_share)) same
latching_back k requests c i (latching.GivesBack at) reply place s so asks busy = absurd (back_not at place asks)
latching_back k requests c i step reply place s so asks busy = absurd so

catch_back : (k : Seat) (requests : List PendingRequest) (c : CatchState) (step : Catching) (reply place : ℕ) → c.step ≡ step → KnowsCatch k requests c step → catching_ask k.places k.number c requests step ≡ Add place one_share → is_exclusive reply ≡ true
    → catch_ask k.places k.number (catching_next k.places (bits_of k) k.number c (catching_requests c requests step reply) step reply) (catching_requests c requests step reply) ≡ Add place (2 ^ 64 - one_share)
unfolding catching_ask catching_next catching_requests
catch_back k requests c CatchEnded reply place s knows asks busy = cc
catch_back k requests c Refreshes reply place s knows asks busy = absurd (spared_not _ place (passed_none _ tt (refresh_none k.number c.refreshing)) asks)
catch_back k requests c Protects reply place s knows asks busy = absurd (spared_not _ place (passed_none _ tt (protect_none k.number c.protecting)) asks)
catch_back k requests c CutStores reply place s knows asks busy = cc
catch_back k requests c OwingStores reply place s knows asks busy = cc
catch_back k requests c (Latches i) reply place s knows asks busy = latching_back k requests c i c.latching reply place s knows asks busy
catch_back k requests c Finishes reply place s knows asks busy = absurd (spared_not _ place (passed_none _ tt (refresh_none k.number c.refreshing)) asks)

-- a session
in_call : (k : Seat) (s : SessionState) (has_shifted : Bool) (ask : Ask TryAnswer) (place : ℕ) → s.step ≡ Attempts has_shifted → attempt_ask k.places k.number s.attempt ≡ ask → ask ≡ Add place (2 ^ 64 - one_share) → session_ask k (attempt_ledto s has_shifted ask) ≡ Add place (2 ^ 64 - one_share)
unfolding attempt_ledto sitting_ask passed
in_call k s has_shifted (Add at its) place e asks same = ap (λ (x : Sitting). sitting_ask k s x) e ∙ ap (λ (x : Ask TryAnswer). passed x told.Slept) (asks ∙ same)
in_call k s has_shifted ask place e asks same = cc

in_poll : (k : Seat) (s : SessionState) (i : ℕ) (ask : Ask TryAnswer) (place : ℕ) → s.step ≡ Polls i → attempt_ask k.places k.number s.attempt ≡ ask → ask ≡ Add place (2 ^ 64 - one_share) → session_ask k (poll_ledto k s i ask) ≡ Add place (2 ^ 64 - one_share)
unfolding poll_ledto sitting_ask passed
in_poll k s i (Add at its) place e asks same = ap (λ (x : Sitting). sitting_ask k s x) e ∙ ap (λ (x : Ask TryAnswer). passed x told.Slept) (asks ∙ same)
in_poll k s i ask place e asks same = cc

in_taking : (k : Seat) (s : SessionState) (cause : CatchCause) (ask : Ask (Unit {0})) (place : ℕ) → s.step ≡ CatchesUp cause → catch_ask k.places k.number s.catching s.requests ≡ ask → ask ≡ Add place (2 ^ 64 - one_share) → session_ask k (catch_ledto k s cause ask) ≡ Add place (2 ^ 64 - one_share)
unfolding catch_ledto sitting_ask passed
in_taking k s cause (Add at its) place e asks same = ap (λ (x : Sitting). sitting_ask k s x) e ∙ ap (λ (x : Ask (Unit {0})). passed x told.Slept) (asks ∙ same)
in_taking k s cause ask place e asks same = cc

sitting_back : (m : Book) (s : SessionState) (asks : ℕ) (step : Sitting) (reply place : ℕ) → s.step ≡ step → StepShares m s step → sitting_ask m.seat s step ≡ Add place one_share → is_exclusive reply ≡ true
    → session_ask m.seat (sitting_next m.seat (record s { asks = asks; effect = None }) step reply) ≡ Add place (2 ^ 64 - one_share)
unfolding sitting_ask sitting_next
sitting_back m s asks (Idle its) reply place e holds adds busy = cc
sitting_back m s asks (Attempts has_shifted) reply place e holds adds busy =
    in_call m.seat (attempt_moved m.seat (record s { asks = asks; effect = None }) reply) has_shifted _ place e refl (attempt_back m.seat m.its s.attempt reply place holds.known.knows (passed_add _ told.Slept place one_share adds) busy)
sitting_back m s asks (CatchesUp cause) reply place e holds adds busy =
    in_taking m.seat (caught m.seat (record s { asks = asks; effect = None }) reply) cause _ place e refl (catch_back m.seat s.requests s.catching s.catching.step reply place refl holds.knows (passed_add _ told.Slept place one_share adds) busy)
sitting_back m s asks ClearsMail reply place e holds adds busy = absurd (spared_not _ place (passed_none _ told.Slept (mail_none m.seat.number s.mailing)) adds)
sitting_back m s asks (Polls i) reply place e holds adds busy =
    in_poll m.seat (attempt_moved m.seat (record s { asks = asks; effect = None }) reply) i _ place e refl (attempt_back m.seat m.its s.attempt reply place holds.known.knows (passed_add _ told.Slept place one_share adds) busy)
sitting_back m s asks (StoresOwing i) reply place e holds adds busy = cc
sitting_back m s asks (Turns its) reply place e holds adds busy = absurd (spared_not _ place (passed_none _ its (own_turn_none m.seat.shape s.own_turn)) adds)
sitting_back m s asks StoresCut reply place e holds adds busy = cc
sitting_back m s asks Leaves reply place e holds adds busy = absurd (spared_not _ place (passed_none _ told.Slept (leave_none m.seat.number s.leaving)) adds)
sitting_back m s asks LoadsDurable reply place e holds adds busy = cc

pub run_back : (k : Seat) (opening : SessionState) (events : List SessionEvent) (place reply : ℕ) → IsOpened opening → HasItsBuckets k → session_ask k (session_run k opening events) ≡ Add place one_share → is_exclusive reply ≡ true
    → session_ask k (session_run k opening (Replies reply ∷ events)) ≡ Add place (2 ^ 64 - one_share)
unfolding session_happens session_run sitting_next
run_back k opening events place reply opened its adds busy =
    let s : SessionState = session_run k opening events in
    sitting_back (book_of k its opening events 0) s (asks_after s.asks (is_word_ask (session_ask k s))) s.step reply place refl (run_shares k its opening events 0 opened) adds busy
