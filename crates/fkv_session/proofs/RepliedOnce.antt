-- What a run owes of its effects: one for each update that is done, none for one that waits, and of which call each is.
use Rattle.std.proofs.Common.{◌≡◌, ℕ, ◌+◌, ◌<◌, ◌≤◌, ◌∙◌, zero, suc, List, [], ◌∷◌, ◌++◌, length, refl, arith, ap, sym, subst, inl, inr, Bool, true, false}
use Rattle.std.specs.Prelude.{map, if◌then◌else◌, Option, Some, None, ◌==◌, ◌⊎◌}
use Rattle.std.proofs.lemmas.Bool.Decides.{nat_tests}
use Rattle.fkv_words.specs.Fields.{bit_of}
use Rattle.fkv_map.specs.declared.history.HistoryEntry.{HistoryEntry}
use Rattle.fkv_map.specs.declared.operations.Op.{Op}
use Rattle.fkv_map.specs.declared.operations.Reply.{Reply}
use Rattle.fkv_base.specs.declared.numbers.Serial.{Serial}
use Rattle.fkv_ops.specs.Requests.{is_read}
use Rattle.fkv_pending.specs.declared.pending_requests.PendingRequest.{PendingRequest}
use Rattle.fkv_pending.specs.declared.pending_requests.RequestName.{RequestName}
use Rattle.fkv_pending.specs.declared.pending_requests.RequestName.TheVariants.{Update, Read}
use Rattle.fkv_session.specs.declared.answers.Finished.{Finished}
use Rattle.fkv_session.specs.declared.answers.Finished.TheVariants as finished
use Rattle.fkv_session.specs.declared.answers.Told.{Told}
use Rattle.fkv_session.specs.declared.answers.Told.TheVariants as told
use Rattle.fkv_session.specs.declared.sessions.Sitting.{Sitting}
use Rattle.fkv_session.specs.declared.sessions.Sitting.TheVariants.{Attempts, Polls}
use Rattle.fkv_session.specs.Sessions.{SessionState, Seat, IsOpened, is_busy, ticket_after, entry_of}
use Rattle.fkv_session.specs.SessionRun.{SessionEvent, session_run, Telling, all_told, in_hand}
use Rattle.fkv_session.specs.Accounts.{serials_given, serials_after, with_serial, with_pending, left_pending, polled, names_of, names_finished, number_of, is_update}
use Rattle.fkv_session.specs.Replies.{is_done, with_effect, effects_told, op_called, Taken, serials_taken, UpdateDone, done_by, with_done, done_by_poll, done_told, AreAnswered, AreRepliesOfEffects, is_of, HasOneEffect, WasTaken, IsTakenNext, AreOfTheirCalls}
use Rattle.fkv_session.proofs.Books.{AreBooksKept, number_append}
use Rattle.fkv_session.proofs.AttemptMade.{made_of}
use Rattle.fkv_session.proofs.Replied.{effect_coming, idle_none, AreOfTaken, IsNameOf, IsTold, run_told}
use Rattle.fkv_session.proofs.Sound.{run_holds}

-- all effects have been answered, but for the one that is coming
pub run_replies : (k : Seat) (opening : SessionState) (events : List SessionEvent) → IsOpened opening
    → AreRepliesOfEffects (effects_told k opening events) (all_told k opening events) (in_hand (session_run k opening events).step (session_run k opening events).finished) (is_busy (session_run k opening events).step)
run_replies k opening events opened =
    let s : SessionState = session_run k opening events in
    let its = run_told k opening events opened in
    record { coming = effect_coming k s s.step; answered = its.settled_ones; its_effects = its.its_effects; none_at_rest = λ rests. idle_none k s s.step rests; replies = its.books.replies }

-- by serial
effects_of_serial : (n : ℕ) (effects : List HistoryEntry) → number_of (is_done n) (map done_by effects) ≡ number_of (is_of n) effects
effects_of_serial n [] = refl
effects_of_serial n (it ∷ rest) = ap (λ (count : ℕ). bit_of (it.serial.0 == n) + count) (effects_of_serial n rest)

polled_of_serial : (n : ℕ) (its : List Finished) → number_of (is_done n) (done_by_poll its) ≡ number_of (is_update n) (names_finished its)
polled_of_serial n [] = refl
polled_of_serial n (finished.Update serial reply ∷ rest) = ap (λ (count : ℕ). bit_of (serial.0 == n) + count) (polled_of_serial n rest)
polled_of_serial n (finished.Read ticket value ∷ rest) = let same = polled_of_serial n rest in omega (arith, same)

-- a serial that was given is told as done, or was left pending
given_by : (n : ℕ) (its : Told) (serials : List ℕ) (done : List UpdateDone) (names : List RequestName) (count : ℕ)
    → number_of (is_done n) done + number_of (is_update n) names ≡ number_of (λ s. s == n) serials + count
    → number_of (is_done n) (with_done its done) + number_of (is_update n) (with_pending its names) ≡ number_of (λ s. s == n) (with_serial its serials) + count
given_by n (told.Done serial its) serials done names count e = omega (arith, e)
given_by n (told.Pending serial why) serials done names count e = omega (arith, e)
given_by n (told.PendingRead ticket) serials done names count e = omega (arith, e)
given_by n its serials done names count e = e

given : (n : ℕ) (before : List Telling) → number_of (is_done n) (done_told before) + number_of (is_update n) (left_pending before) ≡ number_of (λ s. s == n) (serials_given before) + number_of (is_update n) (polled before)
given n [] = refl
given n (it ∷ before) =
    given_by n it.its (serials_given before) (done_by_poll it.finished ++ done_told before) (left_pending before) (number_of (is_update n) (names_finished it.finished ++ polled before))
    (let was = given n before in
    let dones = number_append (is_done n) (done_by_poll it.finished) (done_told before) in
    let names = number_append (is_update n) (names_finished it.finished) (polled before) in
    let same = polled_of_serial n it.finished in
    omega (arith, was, dones, names, same))

-- of each serial as many effects were told, and updates wait, as answers gave it
as_given : (first serial : ℕ) (effects : List HistoryEntry) (before : List Telling) (waiting : List RequestName) (in_hand : List Finished) (n : ℕ) → AreBooksKept first serial before waiting in_hand → AreAnswered effects before in_hand
    → number_of (is_of n) effects + number_of (is_update n) waiting ≡ number_of (λ s. s == n) (serials_after first (length (serials_given before)))
as_given first serial effects before waiting in_hand n books replies =
    let accounts = books.accounts (is_update n) in
    let answered = replies (is_done n) in
    let its = effects_of_serial n effects in
    let polls = polled_of_serial n in_hand in
    let all = given n before in
    let same : number_of (λ s. s == n) (serials_given before) ≡ number_of (λ s. s == n) (serials_after first (length (serials_given before))) = ap (λ (its : List ℕ). number_of (λ s. s == n) its) books.serials.in_turn in
    omega (arith, accounts, answered, its, polls, all, same)

none_above : (first count n : ℕ) → first + count < n → number_of (λ s. s == n) (serials_after first count) ≡ 0
none_above first zero n above = refl
none_above first (suc count) n above =
    let rest = none_above first count n (omega (arith, above)) in
    let other : (first + suc count == n) ≡ false = grind (arith, nat_tests, above) in
    rw other (omega (arith, rest))

none_below : (first count n : ℕ) → n ≤ first → number_of (λ s. s == n) (serials_after first count) ≡ 0
none_below first zero n below = refl
none_below first (suc count) n below =
    let rest = none_below first count n below in
    let other : (first + suc count == n) ≡ false = grind (arith, nat_tests, below) in
    rw other (omega (arith, rest))

one_within : (first count n : ℕ) → first < n → n ≤ first + count → number_of (λ s. s == n) (serials_after first count) ≡ 1
one_within first zero n above below = absurd (omega (arith, above, below))
one_within first (suc count) n above below = tested (λ less. one_within first count n above less) (first + suc count == n) refl
  where
    tested : (n ≤ first + count → number_of (λ s. s == n) (serials_after first count) ≡ 1) → (c : Bool) → (first + suc count == n) ≡ c → bit_of c + number_of (λ s. s == n) (serials_after first count) ≡ 1
    tested before true e =
        let same : first + suc count ≡ n = grind (arith, nat_tests, e) in
        let rest = none_above first count n (omega (arith, same)) in
        omega (arith, rest)
    tested before false e =
        let less : n ≤ first + count = grind (arith, nat_tests, e, below) in
        let rest = before less in
        omega (arith, rest)

-- where no call is in hand all have been answered
all_answered : (effects : List HistoryEntry) (before : List Telling) (in_hand : List Finished) (busy : Bool) → busy ≡ false → AreRepliesOfEffects effects before in_hand busy → AreAnswered effects before in_hand
all_answered effects before in_hand busy rests its = rw (its.its_effects ∙ ap (λ (o : Option HistoryEntry). with_effect o its.answered) (its.none_at_rest rests)) its.replies

-- each serial that was taken
pub run_once : (k : Seat) (opening : SessionState) (events : List SessionEvent) (n : ℕ) → IsOpened opening → is_busy (session_run k opening events).step ≡ false → opening.serial < n → n ≤ (session_run k opening events).serial
    → HasOneEffect (effects_told k opening events) (names_of (session_run k opening events).requests) n
run_once k opening events n opened rests above below =
    let s : SessionState = session_run k opening events in
    let books = (run_holds k opening events opened).books in
    let answered = all_answered _ _ _ (is_busy s.step) rests (run_replies k opening events opened) in
    let counted = books.serials.counted in
    as_given opening.serial s.serial (effects_told k opening events) (all_told k opening events) (names_of s.requests) (in_hand s.step s.finished) n books answered
    ∙ one_within opening.serial (length (serials_given (all_told k opening events))) n above (omega (arith, below, counted))

-- and no other
pub run_none : (k : Seat) (opening : SessionState) (events : List SessionEvent) (n : ℕ) → IsOpened opening → is_busy (session_run k opening events).step ≡ false
    → (n ≤ opening.serial) ⊎ ((session_run k opening events).serial < n) → number_of (is_of n) (effects_told k opening events) ≡ 0
run_none k opening events n opened rests outside = none_of outside
  where
    s : SessionState
    s = session_run k opening events

    sum : number_of (is_of n) (effects_told k opening events) + number_of (is_update n) (names_of s.requests) ≡ number_of (λ x. x == n) (serials_after opening.serial (length (serials_given (all_told k opening events))))
    sum =
        as_given opening.serial s.serial (effects_told k opening events) (all_told k opening events) (names_of s.requests) (in_hand s.step s.finished) n (run_holds k opening events opened).books
        (all_answered _ _ _ (is_busy s.step) rests (run_replies k opening events opened))

    none_of : (n ≤ opening.serial) ⊎ (s.serial < n) → number_of (is_of n) (effects_told k opening events) ≡ 0
    none_of (inl below) = let none = none_below opening.serial (length (serials_given (all_told k opening events))) n below in let all = sum in omega (arith, none, all)
    none_of (inr above) =
        let counted = (run_holds k opening events opened).books.serials.counted in
        let none = none_above opening.serial (length (serials_given (all_told k opening events))) n (omega (arith, above, counted)) in
        let all = sum in
        omega (arith, none, all)

-- of which call each effect is
own_ones : (number : ℕ) (s : SessionState) (called : Option Op) (taken : List Taken) (effects : List HistoryEntry) → AreOfTaken number taken effects → AreOfTheirCalls number s called taken effects
own_ones number s called taken [] own = tt
own_ones number s called taken (it ∷ rest) own = (record { session = own.0.session; update = own.0.update; op = inl own.0.op }, own_ones number s called taken rest own.1)

with_own : (number : ℕ) (s : SessionState) (called : Option Op) (taken : List Taken) (coming : Option HistoryEntry) (effects : List HistoryEntry) → AreOfTheirCalls number s called taken (with_effect coming []) → AreOfTheirCalls number s called taken effects
    → AreOfTheirCalls number s called taken (with_effect coming effects)
with_own number s called taken None effects its own = own
with_own number s called taken (Some it) effects its own = (its.0, own)

entry_own : (number : ℕ) (s : SessionState) (called : Option Op) (taken : List Taken) (pending : PendingRequest) (name : RequestName) (its : Option Reply)
    → ((serial : Serial) → name ≡ Update serial → (is_read pending.request.op ≡ false) × (WasTaken taken serial.0 pending.request.op ⊎ IsTakenNext s called serial.0 pending.request.op))
    → AreOfTheirCalls number s called taken (with_effect (entry_of number pending name its) [])
entry_own number s called taken pending name None known = tt
entry_own number s called taken pending (Update serial) (Some its) known = (record { session = refl; update = (known serial refl).0; op = (known serial refl).1 }, tt)
entry_own number s called taken pending (Read ticket) (Some its) known = tt

busy_step : (s : SessionState) (step : Sitting) → s.step ≡ step → is_busy step ≡ true → is_busy s.step ≡ true
busy_step s step e busy = ap is_busy e ∙ busy

-- the name of the operation in hand
named_next : (s : SessionState) (c : Bool) (serial : Serial) → is_read s.op ≡ c → (if c then Read (record { 0 = ticket_after s.ticket }) else Update (record { 0 = s.serial + 1 })) ≡ Update serial → (is_read s.op ≡ false) × (serial.0 ≡ s.serial + 1)
named_next s true serial r e = cc
named_next s false serial r e = let same : record { 0 = s.serial + 1 } ≡ serial = cc in (r, ap (λ (x : Serial). x.0) (sym same))

coming_own : (k : Seat) (effects : List HistoryEntry) (taken : List Taken) (called : Option Op) (before : List Telling) (s : SessionState) (step : Sitting) → s.step ≡ step → IsTold k effects taken called before s step
    → AreOfTheirCalls k.number s called taken (with_effect (effect_coming k s step) [])
coming_own k effects taken called before s (Attempts has_shifted) e its =
    entry_own k.number s called taken s.attempt.pending s.attempt.pending.name (made_of s.attempt)
    (λ serial name.
    let next = named_next s (is_read s.op) serial refl (sym its.knows.name ∙ name) in
    (ap is_read its.knows.op ∙ next.0, inr (busy_step s (Attempts has_shifted) e refl, its.knows.called_so ∙ ap Some (sym its.knows.op), next.1)))
coming_own k effects taken called before s (Polls i) e its =
    entry_own k.number s called taken s.attempt.pending s.attempt.pending.name (made_of s.attempt)
    (λ serial name.
    let known : IsNameOf taken (Update serial) s.attempt.pending.request.op = subst (λ (x : RequestName). IsNameOf taken x s.attempt.pending.request.op) name its.knows.name in
    (known.0, inl known.1))
coming_own k effects taken called before s step e its = tt

pub run_own : (k : Seat) (opening : SessionState) (events : List SessionEvent) → IsOpened opening
    → AreOfTheirCalls k.number (session_run k opening events) (op_called k opening events) (serials_taken k opening events) (effects_told k opening events)
run_own k opening events opened =
    let s : SessionState = session_run k opening events in
    let its = run_told k opening events opened in
    let coming = coming_own k _ _ _ _ s s.step refl its in
    rw its.its_effects (with_own k.number s (op_called k opening events) (serials_taken k opening events) (effect_coming k s s.step) its.settled_ones coming (own_ones k.number s (op_called k opening events) (serials_taken k opening events) its.settled_ones its.books.own))
