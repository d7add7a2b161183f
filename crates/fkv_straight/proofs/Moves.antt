-- How a session goes on whose try is led on by a reply.
use Rattle.std.proofs.Common.{◌≡◌, ℕ, ◌+◌, refl, sym, ap, ◌∙◌, subst, arith, true, false, [], ◌∷◌, ◌++◌}
use Rattle.std.specs.Prelude.{None, nat_lt, Option}
use Rattle.std.proofs.lemmas.Bool.Decides.{nat_tests}
use Rattle.fkv_base.specs.declared.numbers.Value.{Value}
use Rattle.fkv_map.specs.declared.operations.Reply.{Reply}
use Rattle.fkv_plane.specs.declared.asks.Ask.{Ask}
use Rattle.fkv_plane.specs.declared.asks.Ask.TheVariants.{Load, Store, Swap, Cas, Add, Max, Put, Take, Done}
use Rattle.fkv_plane.specs.Passing.{passed}
use Rattle.fkv_ops.specs.declared.answers.Reason.TheVariants as reason
use Rattle.fkv_ops.specs.declared.answers.TryAnswer.{TryAnswer}
use Rattle.fkv_ops.specs.declared.answers.TryAnswer.TheVariants as tried
use Rattle.fkv_ops.specs.declared.requests.Occasion.{Occasion}
use Rattle.fkv_ops.specs.declared.requests.Occasion.TheVariants.{Call as AtCall, Poll as AtPoll}
use Rattle.fkv_ops.specs.declared.trying.Trying.TheVariants.{Ended}
use Rattle.fkv_ops.specs.Requests.{is_read}
use Rattle.fkv_ops.specs.Trying.{TryState, trying_ask, try_ask}
use Rattle.fkv_pending.specs.declared.attempting.Attempting.TheVariants.{Ended as AtEnd}
use Rattle.fkv_pending.specs.Pending.{with_latch}
use Rattle.fkv_pending.specs.Attempting.{AttemptState, attempting_ask, attempting_next, try_ledto}
use Rattle.fkv_session.specs.declared.answers.Told.{Told}
use Rattle.fkv_session.specs.declared.answers.Told.TheVariants as told
use Rattle.fkv_session.specs.declared.sessions.Sitting.TheVariants.{Idle}
use Rattle.fkv_session.specs.Alike.{lasting}
use Rattle.fkv_session.specs.Sessions.{Seat, SessionState, sitting_ask, sitting_next, session_ask, accepts, attempt_ledto, finishes_request, keeps_request, poll_ledto, polls_at, asks_after, entry_of, is_word_ask}
use Rattle.fkv_straight.specs.Course.{Course, pending_in, request_in, IsLone, IsSettled}
use Rattle.fkv_straight.specs.Standing.{asked, leads, attempt_leads, attempting, sitting, led_attempt, resumed, Tries, IsLed, next_try, IsEnded, IsDone, IsWaiting, waiting_lasts, waiting_told}
use Rattle.fkv_straight.proofs.Tests.{or_false, max_same}
use Rattle.fkv_ops.specs.declared.bounds.Bounds.{Bounds}

-- ---- the session asks what its try asks
asks_when : (c : Course) (t : TryState) (s : SessionState) (its : Occasion) → c.occasion ≡ its → Tries c t s → asked c.seat s ≡ passed (passed (try_ask c.seat.places t) tried.Shift) told.Slept
unfolding Tries asked sitting_ask attempting_ask
asks_when c t s (AtCall bounds) when at = rw (at.1, when) refl
asks_when c t s AtPoll when at = rw (at.1, when) refl

asks_passed : (c : Course) (t : TryState) (s : SessionState) → Tries c t s → asked c.seat s ≡ passed (passed (try_ask c.seat.places t) tried.Shift) told.Slept
asks_passed c t s at = asks_when c t s c.occasion refl at

pub asks_load : (c : Course) (t : TryState) (place : ℕ) (s : SessionState) → Tries c t s → try_ask c.seat.places t ≡ Load place → asked c.seat s ≡ Load place
unfolding passed
asks_load c t place s at e = asks_passed c t s at ∙ ap (λ (x : Ask TryAnswer). passed (passed x tried.Shift) told.Slept) e

pub asks_store : (c : Course) (t : TryState) (place new : ℕ) (s : SessionState) → Tries c t s → try_ask c.seat.places t ≡ Store place new → asked c.seat s ≡ Store place new
unfolding passed
asks_store c t place new s at e = asks_passed c t s at ∙ ap (λ (x : Ask TryAnswer). passed (passed x tried.Shift) told.Slept) e

pub asks_swap : (c : Course) (t : TryState) (place new : ℕ) (s : SessionState) → Tries c t s → try_ask c.seat.places t ≡ Swap place new → asked c.seat s ≡ Swap place new
unfolding passed
asks_swap c t place new s at e = asks_passed c t s at ∙ ap (λ (x : Ask TryAnswer). passed (passed x tried.Shift) told.Slept) e

pub asks_cas : (c : Course) (t : TryState) (place old new : ℕ) (s : SessionState) → Tries c t s → try_ask c.seat.places t ≡ Cas place old new → asked c.seat s ≡ Cas place old new
unfolding passed
asks_cas c t place old new s at e = asks_passed c t s at ∙ ap (λ (x : Ask TryAnswer). passed (passed x tried.Shift) told.Slept) e

pub asks_add : (c : Course) (t : TryState) (place number : ℕ) (s : SessionState) → Tries c t s → try_ask c.seat.places t ≡ Add place number → asked c.seat s ≡ Add place number
unfolding passed
asks_add c t place number s at e = asks_passed c t s at ∙ ap (λ (x : Ask TryAnswer). passed (passed x tried.Shift) told.Slept) e

-- ---- a reply leads the try, and the session by where the try is then
moves : (c : Course) (t : TryState) (reply : ℕ) (s : SessionState) (its : Occasion) → c.occasion ≡ its → Tries c t s → IsLed c (next_try c t reply) (leads c.seat s reply)
unfolding Tries IsLed leads sitting_next attempting_next
moves c t reply s (AtCall bounds) when at = (asks_after at.0 (is_word_ask (session_ask c.seat (sitting c at.0 (attempting c t)))), rw (at.1, when) refl)
moves c t reply s AtPoll when at = (asks_after at.0 (is_word_ask (session_ask c.seat (sitting c at.0 (attempting c t)))), rw (at.1, when) refl)

pub led_on : (c : Course) (t : TryState) (reply : ℕ) (s u : SessionState) → Tries c t s → u ≡ leads c.seat s reply → IsLed c (next_try c t reply) u
led_on c t reply s u at e = subst (IsLed c (next_try c t reply)) (sym e) (moves c t reply s c.occasion refl at)

-- where the try asks for a word it goes on
attempt_stays : (c : Course) (t : TryState) (ask : Ask TryAnswer) → try_ask c.seat.places t ≡ ask → is_word_ask ask ≡ true → t.effect ≡ None → led_attempt c t ≡ attempting c t
unfolding try_ledto
attempt_stays c t (Load place) e word none = rw (e, none) refl
attempt_stays c t (Store place new) e word none = rw (e, none) refl
attempt_stays c t (Swap place new) e word none = rw (e, none) refl
attempt_stays c t (Cas place old new) e word none = rw (e, none) refl
attempt_stays c t (Add place number) e word none = rw (e, none) refl
attempt_stays c t (Max place number) e word none = rw (e, none) refl
attempt_stays c t (Put slot action) e word none = absurd (cc word)
attempt_stays c t (Take slot) e word none = absurd (cc word)
attempt_stays c t (Done its) e word none = absurd (cc word)

leads_on : (its : Occasion) (k : Seat) (s : SessionState) (ask : Ask TryAnswer) → is_word_ask ask ≡ true → attempt_leads its k s ask ≡ s
unfolding attempt_ledto poll_ledto
leads_on (AtCall bounds) k s (Load place) word = refl
leads_on (AtCall bounds) k s (Store place new) word = refl
leads_on (AtCall bounds) k s (Swap place new) word = refl
leads_on (AtCall bounds) k s (Cas place old new) word = refl
leads_on (AtCall bounds) k s (Add place number) word = refl
leads_on (AtCall bounds) k s (Max place number) word = refl
leads_on AtPoll k s (Load place) word = refl
leads_on AtPoll k s (Store place new) word = refl
leads_on AtPoll k s (Swap place new) word = refl
leads_on AtPoll k s (Cas place old new) word = refl
leads_on AtPoll k s (Add place number) word = refl
leads_on AtPoll k s (Max place number) word = refl
leads_on its k s (Put slot action) word = absurd (cc word)
leads_on its k s (Take slot) word = absurd (cc word)
leads_on its k s (Done told) word = absurd (cc word)

passed_word : (ask : Ask TryAnswer) → is_word_ask ask ≡ true → is_word_ask (passed ask tried.Shift) ≡ true
unfolding passed
passed_word (Load place) word = refl
passed_word (Store place new) word = refl
passed_word (Swap place new) word = refl
passed_word (Cas place old new) word = refl
passed_word (Add place number) word = refl
passed_word (Max place number) word = refl
passed_word (Put slot action) word = absurd (cc word)
passed_word (Take slot) word = absurd (cc word)
passed_word (Done its) word = absurd (cc word)

session_stays : (c : Course) (asks : ℕ) (t : TryState) → is_word_ask (try_ask c.seat.places t) ≡ true → resumed c asks (attempting c t) ≡ sitting c asks (attempting c t)
unfolding attempting_ask
session_stays c asks t word = leads_on c.occasion c.seat (sitting c asks (attempting c t)) (passed (try_ask c.seat.places t) tried.Shift) (passed_word (try_ask c.seat.places t) word)

pub stays : (c : Course) (t : TryState) (s : SessionState) → IsLed c t s → t.effect ≡ None → is_word_ask (try_ask c.seat.places t) ≡ true → Tries c t s
unfolding IsLed Tries
stays c t s led none word =
    (led.0, led.1 ∙ (ap (λ (a : AttemptState). resumed c led.0 a) (attempt_stays c t (try_ask c.seat.places t) refl word none) ∙ session_stays c led.0 t word))

-- the same where it is known to what try the reply leads
pub steps : (c : Course) (t after : TryState) (reply : ℕ) (s u : SessionState) → Tries c t s → u ≡ leads c.seat s reply → next_try c t reply ≡ after → after.effect ≡ None → is_word_ask (try_ask c.seat.places after) ≡ true → Tries c after u
steps c t after reply s u at e leads_to none word = stays c after u (subst (λ (x : TryState). IsLed c x u) leads_to (led_on c t reply s u at e)) none word

-- ---- the same behind a step that made the effect: what it tells is told just there
attempt_goes : (c : Course) (t : TryState) (ask : Ask TryAnswer) → try_ask c.seat.places t ≡ ask → is_word_ask ask ≡ true → led_attempt c t ≡ record (attempting c t) { effect = t.effect }
unfolding try_ledto
attempt_goes c t (Load place) e word = rw e refl
attempt_goes c t (Store place new) e word = rw e refl
attempt_goes c t (Swap place new) e word = rw e refl
attempt_goes c t (Cas place old new) e word = rw e refl
attempt_goes c t (Add place number) e word = rw e refl
attempt_goes c t (Max place number) e word = rw e refl
attempt_goes c t (Put slot action) e word = absurd (cc word)
attempt_goes c t (Take slot) e word = absurd (cc word)
attempt_goes c t (Done its) e word = absurd (cc word)

-- the session that stands so, with what it tells of the effect
abbrev told_effect : Course → ℕ → TryState → SessionState
told_effect c asks t = record (sitting c asks (record (attempting c t) { effect = t.effect })) { effect = entry_of c.seat.number (pending_in c) c.name t.effect }

session_goes : (c : Course) (asks : ℕ) (t : TryState) → is_word_ask (try_ask c.seat.places t) ≡ true → resumed c asks (record (attempting c t) { effect = t.effect }) ≡ told_effect c asks t
unfolding attempting_ask
session_goes c asks t word = leads_on c.occasion c.seat (told_effect c asks t) (passed (try_ask c.seat.places t) tried.Shift) (passed_word (try_ask c.seat.places t) word)

stands_so : (c : Course) (t : TryState) (s : SessionState) (led : IsLed c t s) → is_word_ask (try_ask c.seat.places t) ≡ true → (asks : ℕ) × (s ≡ told_effect c asks t)
unfolding IsLed
stands_so c t s led word = (led.0, led.1 ∙ (ap (λ (a : AttemptState). resumed c led.0 a) (attempt_goes c t (try_ask c.seat.places t) refl word) ∙ session_goes c led.0 t word))

asks_so : (c : Course) (t : TryState) (s : SessionState) (asks : ℕ) (its : Occasion) → c.occasion ≡ its → s ≡ told_effect c asks t → asked c.seat s ≡ passed (passed (try_ask c.seat.places t) tried.Shift) told.Slept
unfolding asked sitting_ask attempting_ask
asks_so c t s asks (AtCall bounds) when e = rw (e, when) refl
asks_so c t s asks AtPoll when e = rw (e, when) refl

pub asks_behind : (c : Course) (t : TryState) (place number : ℕ) (s : SessionState) → IsLed c t s → try_ask c.seat.places t ≡ Add place number → asked c.seat s ≡ Add place number
unfolding passed
asks_behind c t place number s led e =
    let so = stands_so c t s led (rw e refl) in
    asks_so c t s so.0 c.occasion refl so.1 ∙ ap (λ (x : Ask TryAnswer). passed (passed x tried.Shift) told.Slept) e

moves_so : (c : Course) (t : TryState) (reply : ℕ) (s : SessionState) (asks : ℕ) (its : Occasion) → c.occasion ≡ its → s ≡ told_effect c asks t → IsLed c (next_try c t reply) (leads c.seat s reply)
unfolding IsLed leads sitting_next attempting_next
moves_so c t reply s asks (AtCall bounds) when e = (asks_after asks (is_word_ask (session_ask c.seat (told_effect c asks t))), rw (e, when) refl)
moves_so c t reply s asks AtPoll when e = (asks_after asks (is_word_ask (session_ask c.seat (told_effect c asks t))), rw (e, when) refl)

pub led_behind : (c : Course) (t : TryState) (reply : ℕ) (s u : SessionState) → IsLed c t s → is_word_ask (try_ask c.seat.places t) ≡ true → u ≡ leads c.seat s reply → IsLed c (next_try c t reply) u
led_behind c t reply s u led word e =
    let so = stands_so c t s led word in
    subst (IsLed c (next_try c t reply)) (sym e) (moves_so c t reply s so.0 c.occasion refl so.1)

-- ---- where the try ends the call is answered
pub ends_found : {bounds : Option Bounds} (c : Course) (t : TryState) (value : Value) (s : SessionState) → c.occasion ≡ AtCall bounds → IsLed c t s → t.step ≡ Ended (tried.Found value) → t.spare ≡ c.lasts.spare → IsEnded c.lasts (told.Found value) s
unfolding IsLed lasting trying_ask try_ledto attempt_ledto attempting_ask passed with_latch
ends_found c t value s calls led ends spare = record {
  ended = rw led.1 (rw (calls, ends) refl);
  lasts = rw led.1 (rw (calls, ends, spare, or_false c.lasts.is_orphaned) refl);
}

pub ends_absent : {bounds : Option Bounds} (c : Course) (t : TryState) (s : SessionState) → c.occasion ≡ AtCall bounds → IsLed c t s → t.step ≡ Ended tried.Absent → t.spare ≡ c.lasts.spare → IsEnded c.lasts told.Absent s
unfolding IsLed lasting trying_ask try_ledto attempt_ledto attempting_ask passed with_latch
ends_absent c t s calls led ends spare = record {
  ended = rw led.1 (rw (calls, ends) refl);
  lasts = rw led.1 (rw (calls, ends, spare, or_false c.lasts.is_orphaned) refl);
}

-- the attempt then, and the session behind it
abbrev waited : Course → TryState → AttemptState
waited c t = record (attempting c t) { effect = t.effect; spare = c.lasts.spare; step = AtEnd (tried.Wait reason.Contended) }

attempt_waits : (c : Course) (t : TryState) → t.step ≡ Ended (tried.Wait reason.Contended) → t.spare ≡ c.lasts.spare → t.has_shared ≡ false → led_attempt c t ≡ waited c t
unfolding trying_ask try_ledto with_latch
attempt_waits c t ends spare free = rw (ends, spare, free) refl

told_waits : {bounds : Option Bounds} (c : Course) (asks : ℕ) (t : TryState) → c.occasion ≡ AtCall bounds → is_read c.op ≡ false → (resumed c asks (waited c t)).step ≡ Idle (told.Pending (record { 0 = c.lasts.serial + 1 }) reason.Contended)
unfolding attempt_ledto attempting_ask accepts
told_waits c asks t calls updates = rw (calls, updates) refl

lasts_waiting : {bounds : Option Bounds} (c : Course) (asks : ℕ) (t : TryState) → c.occasion ≡ AtCall bounds → is_read c.op ≡ false → lasting (resumed c asks (waited c t)) ≡ record c.lasts { serial = c.lasts.serial + 1; requests = c.lasts.requests ++ pending_in c ∷ [] }
unfolding lasting attempt_ledto attempting_ask accepts
lasts_waiting c asks t calls updates = rw (calls, updates) refl

told_polled : (c : Course) (asks : ℕ) (t : TryState) → c.occasion ≡ AtPoll → IsLone c → (resumed c asks (waited c t)).step ≡ Idle (told.Polled 1)
unfolding poll_ledto keeps_request polls_at attempting_ask
told_polled c asks t polls lone = rw (polls, lone.waits) refl

lasts_polled : (c : Course) (asks : ℕ) (t : TryState) → c.occasion ≡ AtPoll → IsLone c → lasting (resumed c asks (waited c t)) ≡ record c.lasts { requests = c.lasts.requests }
unfolding lasting poll_ledto keeps_request polls_at attempting_ask
lasts_polled c asks t polls lone = rw (polls, lone.waits, max_same c.lasts.floor.0) refl

waits_when : (c : Course) (asks : ℕ) (t : TryState) (when : Occasion) → c.occasion ≡ when → IsSettled c → is_read c.op ≡ false → IsEnded (waiting_lasts when c) (waiting_told when c) (resumed c asks (waited c t))
waits_when c asks t (AtCall bounds) calls settled updates = record { ended = told_waits c asks t calls updates; lasts = lasts_waiting c asks t calls updates }
waits_when c asks t AtPoll polls settled updates = record { ended = told_polled c asks t polls (settled.lone polls); lasts = lasts_polled c asks t polls (settled.lone polls) }

pub ends_waiting : (c : Course) (t : TryState) (s : SessionState) → IsSettled c → IsLed c t s → t.step ≡ Ended (tried.Wait reason.Contended) → t.spare ≡ c.lasts.spare → t.has_shared ≡ false → is_read c.op ≡ false → IsWaiting c s
unfolding IsLed
ends_waiting c t s settled led ends spare free updates =
    let at : s ≡ resumed c led.0 (waited c t) = led.1 ∙ ap (λ (a : AttemptState). resumed c led.0 a) (attempt_waits c t ends spare free) in
    subst (λ (x : SessionState). IsWaiting c x) (sym at) (waits_when c led.0 t c.occasion refl settled updates)

-- a poll that has done the update leaves no request, and owes nothing of a version before
is_owed_not : (version seen : ℕ) → version ≡ seen → nat_lt version seen ≡ false
is_owed_not version seen e = grind (arith, nat_tests)

done_call : {bounds : Option Bounds} (c : Course) (t : TryState) (its : Reply) (s : SessionState) → c.occasion ≡ AtCall bounds → IsLed c t s → t.step ≡ Ended (tried.Done its) → t.spare ≡ c.lasts.spare → is_read c.op ≡ false → IsDone c its s
unfolding IsLed lasting trying_ask try_ledto attempt_ledto attempting_ask passed with_latch
done_call c t its s calls led ends spare updates = record {
  ended = rw led.1 (rw (calls, ends, updates) refl);
  lasts = rw led.1 (rw (calls, ends, spare, updates, or_false c.lasts.is_orphaned) refl);
}

done_poll : (c : Course) (t : TryState) (its : Reply) (s : SessionState) → c.occasion ≡ AtPoll → IsLone c → nat_lt (request_in c).version.0 c.lasts.seen.version.0 ≡ false → IsLed c t s → t.step ≡ Ended (tried.Done its) → t.spare ≡ c.lasts.spare
    → is_read c.op ≡ false → IsDone c its s
unfolding IsLed lasting trying_ask try_ledto poll_ledto finishes_request polls_at attempting_ask passed with_latch
done_poll c t its s polls lone none_owed led ends spare updates = record {
  ended = rw led.1 (rw (polls, ends, lone.waits, lone.none_told, none_owed, updates) refl);
  lasts = rw led.1 (rw (polls, ends, lone.waits, lone.none_told, none_owed, spare, updates, or_false c.lasts.is_orphaned, max_same c.lasts.floor.0) refl);
}

pub ends_done : (c : Course) (t : TryState) (its : Reply) (s : SessionState) → IsSettled c → IsLed c t s → t.step ≡ Ended (tried.Done its) → t.spare ≡ c.lasts.spare → is_read c.op ≡ false → IsDone c its s
ends_done c t its s settled led ends spare updates = by c.occasion refl
  where
    by : (when : Occasion) → c.occasion ≡ when → IsDone c its s
    by (AtCall bounds) calls = done_call c t its s calls led ends spare updates
    by AtPoll polls = done_poll c t its s polls (settled.lone polls) (is_owed_not (request_in c).version.0 c.lasts.seen.version.0 settled.own) led ends spare updates

-- what a session asks whose call has ended
pub asks_none : (k : Seat) (s : SessionState) (its : Told) → s.step ≡ Idle its → session_ask k s ≡ Done its
unfolding sitting_ask
asks_none k s its e = rw e refl
