-- At every moment of a session's run no serial has two effects: not even while a call is in hand.
use Rattle.std.proofs.Common.{◌≡◌, ℕ, ◌+◌, ◌<◌, ◌≤◌, ◌∙◌, zero, suc, List, [], ◌∷◌, ◌++◌, length, refl, arith, ap, sym, subst, Bool, true, false, inl, inr, ◌⊎◌}
use Rattle.std.specs.Prelude.{map, slice_get, if◌then◌else◌, Option, Some, None, ◌==◌}
use Rattle.std.proofs.lemmas.Bool.Decides.{nat_tests}
use Rattle.fkv_words.specs.Fields.{bit_of}
use Rattle.fkv_base.specs.declared.numbers.Serial.{Serial}
use Rattle.fkv_map.specs.declared.history.HistoryEntry.{HistoryEntry}
use Rattle.fkv_map.specs.declared.operations.Op.{Op}
use Rattle.fkv_map.specs.declared.operations.Reply.{Reply}
use Rattle.law_world.specs.Below.fkv_ops.Requests.{is_read}
use Rattle.law_world.specs.Below.fkv_pending.PendingRequest.{PendingRequest}
use Rattle.law_world.specs.Below.fkv_pending.RequestName.{RequestName}
use Rattle.law_world.specs.Below.fkv_pending.RequestName.TheVariants.{Update, Read}
use Rattle.law_world.specs.Below.fkv_session.Finished.{Finished}
use Rattle.law_world.specs.Below.fkv_session.Finished.TheVariants as finished
use Rattle.law_world.specs.Below.fkv_session.Told.{Told}
use Rattle.law_world.specs.Below.fkv_session.Told.TheVariants as told
use Rattle.law_world.specs.Below.fkv_session.Sitting.{Sitting}
use Rattle.law_world.specs.Below.fkv_session.Sitting.TheVariants.{Attempts, Polls}
use Rattle.law_world.specs.Below.fkv_session.Sessions.{SessionState, Seat, IsOpened, ticket_after, name_of, entry_of, session_next}
use Rattle.law_world.specs.Below.fkv_session.SessionRun.{SessionEvent, Replies, session_happens, session_run, Telling, all_told, in_hand}
use Rattle.law_world.specs.Below.fkv_session.Accounts.{AreInTurn, AreAccountedFor, serials_given, serials_after, with_serial, with_pending, left_pending, polled, names_of, names_finished, number_of, is_update}
use Rattle.law_world.specs.Below.fkv_session.Replies.{is_done, with_effect, effects_told, op_called, Taken, serials_taken, UpdateDone, done_by, with_done, done_by_poll, done_told, AreAnswered, is_of}
use Rattle.law_world.proofs.Below.fkv_session.Shown.{IsTold, Knows, made_of, run_holds, run_told}

number_both : {A : Type 0} (such : A → Bool) (xs ys : List A) → number_of such (xs ++ ys) ≡ number_of such xs + number_of such ys
number_both such [] ys = omega arith
number_both such (x ∷ xs) ys = let rest = number_both such xs ys in omega (arith, rest)

-- ---- by serial, as many effects are told and updates wait as answers gave it
effects_of_serial : (n : ℕ) (effects : List HistoryEntry) → number_of (is_done n) (map done_by effects) ≡ number_of (is_of n) effects
effects_of_serial n [] = refl
effects_of_serial n (it ∷ rest) = ap (λ (count : ℕ). bit_of (it.serial.0 == n) + count) (effects_of_serial n rest)

polled_of_serial : (n : ℕ) (its : List Finished) → number_of (is_done n) (done_by_poll its) ≡ number_of (is_update n) (names_finished its)
polled_of_serial n [] = refl
polled_of_serial n (finished.Update serial reply ∷ rest) = ap (λ (count : ℕ). bit_of (serial.0 == n) + count) (polled_of_serial n rest)
polled_of_serial n (finished.Read ticket value ∷ rest) = let same = polled_of_serial n rest in omega (arith, same)

given_by : (n : ℕ) (its : Told) (serials : List ℕ) (done : List UpdateDone) (names : List RequestName) (count : ℕ)
    → number_of (is_done n) done + number_of (is_update n) names ≡ number_of (λ s. s == n) serials + count
    → number_of (is_done n) (with_done its done) + number_of (is_update n) (with_pending its names) ≡ number_of (λ s. s == n) (with_serial its serials) + count
given_by n (told.Done serial its) serials done names count e = omega (arith, e)
given_by n (told.Pending serial why) serials done names count e = omega (arith, e)
given_by n (told.PendingRead ticket) serials done names count e = omega (arith, e)
given_by n its serials done names count e = e

given : (n : ℕ) (before : List Telling) → number_of (is_done n) (done_told before) + number_of (is_update n) (left_pending before) ≡ number_of (λ s. s == n) (serials_given before) + number_of (is_update n) (polled before)
given n [] = refl
given n (it ∷ before) =
    given_by n it.its (serials_given before) (done_by_poll it.finished ++ done_told before) (left_pending before) (number_of (is_update n) (names_finished it.finished ++ polled before))
    (let was = given n before in
    let dones = number_both (is_done n) (done_by_poll it.finished) (done_told before) in
    let names = number_both (is_update n) (names_finished it.finished) (polled before) in
    let same = polled_of_serial n it.finished in
    omega (arith, was, dones, names, same))

as_given : (first serial : ℕ) (effects : List HistoryEntry) (before : List Telling) (waiting : List RequestName) (hand : List Finished) (n : ℕ) → AreInTurn first serial before → AreAccountedFor before waiting hand → AreAnswered effects before hand
    → number_of (is_of n) effects + number_of (is_update n) waiting ≡ number_of (λ s. s == n) (serials_after first (length (serials_given before)))
as_given first serial effects before waiting hand n turn accounted replies =
    let accounts = accounted (is_update n) in
    let answered = replies (is_done n) in
    let its = effects_of_serial n effects in
    let polls = polled_of_serial n hand in
    let all = given n before in
    let same : number_of (λ s. s == n) (serials_given before) ≡ number_of (λ s. s == n) (serials_after first (length (serials_given before))) = ap (λ (its : List ℕ). number_of (λ s. s == n) its) turn.in_turn in
    omega (arith, accounts, answered, its, polls, all, same)

none_above : (first count n : ℕ) → first + count < n → number_of (λ s. s == n) (serials_after first count) ≡ 0
none_above first zero n above = refl
none_above first (suc count) n above =
    let rest = none_above first count n (omega (arith, above)) in
    let other : (first + suc count == n) ≡ false = grind (arith, nat_tests, above) in
    rw other (omega (arith, rest))

one_most : (first count n : ℕ) → number_of (λ s. s == n) (serials_after first count) ≤ 1
one_most first zero n = omega arith
one_most first (suc count) n = tested (one_most first count n) (first + suc count == n) refl
  where
    tested : number_of (λ s. s == n) (serials_after first count) ≤ 1 → (c : Bool) → (first + suc count == n) ≡ c → bit_of c + number_of (λ s. s == n) (serials_after first count) ≤ 1
    tested before true e =
        let same : first + suc count ≡ n = grind (arith, nat_tests, e) in
        let rest = none_above first count n (omega (arith, same)) in
        omega (arith, rest)
    tested before false e = omega (arith, before)

-- ---- what the attempt in hand has made comes on top of these
-- an effect on top of others of which none has its serial
one_coming : (n : ℕ) (coming : Option HistoryEntry) (ones : List HistoryEntry) → number_of (is_of n) ones ≤ 1 → ((its : HistoryEntry) → coming ≡ Some its → its.serial.0 ≡ n → number_of (is_of n) ones ≡ 0)
    → number_of (is_of n) (with_effect coming ones) ≤ 1
one_coming n None ones most fresh = most
one_coming n (Some its) ones most fresh = tested (its.serial.0 == n) refl
  where
    tested : (c : Bool) → (its.serial.0 == n) ≡ c → bit_of c + number_of (is_of n) ones ≤ 1
    tested true e = let none = fresh its refl (grind (arith, nat_tests, e)) in omega (arith, none)
    tested false e = omega (arith, most)

entry_named : (number : ℕ) (pending : PendingRequest) (name : RequestName) (reply : Option Reply) (its : HistoryEntry) → entry_of number pending name reply ≡ Some its → name ≡ Update its.serial
entry_named number pending name None its e = cc
entry_named number pending (Update serial) (Some reply) its e = let same : record { session = number; serial = serial; op = pending.request.op; reply = reply } ≡ its = cc in ap (λ (x : HistoryEntry). Update x.serial) same
entry_named number pending (Read ticket) (Some reply) its e = cc

next_serial_named : (s : SessionState) (c : Bool) (serial : Serial) → (if c then Read (record { 0 = ticket_after s.ticket }) else Update (record { 0 = s.serial + 1 })) ≡ Update serial → serial.0 ≡ s.serial + 1
next_serial_named s true serial e = cc
next_serial_named s false serial e = let same : record { 0 = s.serial + 1 } ≡ serial = cc in ap (λ (x : Serial). x.0) (sym same)

named_at : (xs : List RequestName) (index : ℕ) (serial : Serial) (n : ℕ) → slice_get xs index ≡ Some (Update serial) → serial.0 ≡ n → 1 ≤ number_of (is_update n) xs
named_at [] index serial n got e = cc
named_at (x ∷ rest) zero serial n got e =
    let same : x ≡ Update serial = cc in
    let its : (serial.0 == n) ≡ true = grind (arith, nat_tests, e) in
    rw same (rw its (omega arith))
named_at (x ∷ rest) (suc index) serial n got e = let more = named_at rest index serial n got e in omega (arith, more)

-- a serial that comes next, or waits, has no effect that was settled
fresh_coming : (first n : ℕ) (before : List Telling) (s : SessionState) (serial : Serial) (hand : List Finished) (ones : List HistoryEntry) (name : RequestName)
    → AreInTurn first s.serial before → AreAccountedFor before (names_of s.requests) hand → AreAnswered ones before hand
    → name ≡ Update serial → serial.0 ≡ n → (name ≡ name_of s) ⊎ ((index : ℕ) × (slice_get (names_of s.requests) index ≡ Some name)) → number_of (is_of n) ones ≡ 0
fresh_coming first n before s serial hand ones name turn accounted replies update same (inl next) =
    let sum = as_given first s.serial ones before (names_of s.requests) hand n turn accounted replies in
    let its = next_serial_named s (is_read s.op) serial (sym next ∙ update) in
    let counted = turn.counted in
    let none = none_above first (length (serials_given before)) n (omega (arith, its, same, counted)) in
    omega (arith, sum, none)
fresh_coming first n before s serial hand ones name turn accounted replies update same (inr there) =
    let sum = as_given first s.serial ones before (names_of s.requests) hand n turn accounted replies in
    let most = one_most first (length (serials_given before)) n in
    let waits = named_at (names_of s.requests) there.0 serial n (there.1 ∙ ap Some update) same in
    omega (arith, sum, most, waits)

settled_most : (first n : ℕ) (before : List Telling) (s : SessionState) (hand : List Finished) (ones : List HistoryEntry)
    → AreInTurn first s.serial before → AreAccountedFor before (names_of s.requests) hand → AreAnswered ones before hand → number_of (is_of n) ones ≤ 1
settled_most first n before s hand ones turn accounted replies =
    let sum = as_given first s.serial ones before (names_of s.requests) hand n turn accounted replies in
    let few = one_most first (length (serials_given before)) n in
    omega (arith, sum, few)

-- by the control state
at_step : (k : Seat) (first n : ℕ) (effects : List HistoryEntry) (taken : List Taken) (called : Option Op) (before : List Telling) (s : SessionState) (step : Sitting) → IsTold k effects taken called before s step
    → AreInTurn first s.serial before → AreAccountedFor before (names_of s.requests) (in_hand step s.finished) → Knows s step → number_of (is_of n) effects ≤ 1
at_step k first n effects taken called before s (Attempts has_shifted) its turn accounted knows =
    subst (λ (x : List HistoryEntry). number_of (is_of n) x ≤ 1) (sym its.its_effects)
    (one_coming n (entry_of k.number s.attempt.pending s.attempt.pending.name (made_of s.attempt)) its.settled_ones (settled_most first n before s [] its.settled_ones turn accounted its.books.replies)
    (λ entry e same. fresh_coming first n before s entry.serial [] its.settled_ones s.attempt.pending.name turn accounted its.books.replies (entry_named k.number s.attempt.pending s.attempt.pending.name (made_of s.attempt) entry e) same (inl knows)))
at_step k first n effects taken called before s (Polls index) its turn accounted knows =
    subst (λ (x : List HistoryEntry). number_of (is_of n) x ≤ 1) (sym its.its_effects)
    (one_coming n (entry_of k.number s.attempt.pending s.attempt.pending.name (made_of s.attempt)) its.settled_ones (settled_most first n before s s.finished its.settled_ones turn accounted its.books.replies)
    (λ entry e same. fresh_coming first n before s entry.serial s.finished its.settled_ones s.attempt.pending.name turn accounted its.books.replies (entry_named k.number s.attempt.pending s.attempt.pending.name (made_of s.attempt) entry e) same (inr (index, knows))))
at_step k first n effects taken called before s step its turn accounted knows =
    subst (λ (x : List HistoryEntry). number_of (is_of n) x ≤ 1) (sym its.its_effects) (settled_most first n before s (in_hand step s.finished) its.settled_ones turn accounted its.books.replies)

pub one_effect : (k : Seat) (first : SessionState) (events : List SessionEvent) (n : ℕ) → IsOpened first → number_of (is_of n) (effects_told k first events) ≤ 1
one_effect k first events n opened =
    let s : SessionState = session_run k first events in
    let held = run_holds k first events opened in
    at_step k first.serial n (effects_told k first events) (serials_taken k first events) (op_called k first events) (all_told k first events) s s.step (run_told k first events opened) held.books.serials held.books.accounts held.knows

-- so what a reply makes has not been made before
pub none_before : (k : Seat) (first : SessionState) (events : List SessionEvent) (reply : ℕ) (its : HistoryEntry) → IsOpened first → (session_next k (session_run k first events) reply).effect ≡ Some its
    → number_of (is_of its.serial.0) (effects_told k first events) ≡ 0
unfolding effects_told session_run session_happens
none_before k first events reply its opened e =
    let one = one_effect k first (Replies reply ∷ events) its.serial.0 opened in
    let made : number_of (is_of its.serial.0) (with_effect (Some its) (effects_told k first events)) ≤ 1 = subst (λ (x : Option HistoryEntry). number_of (is_of its.serial.0) (with_effect x (effects_told k first events)) ≤ 1) e one in
    let same : (its.serial.0 == its.serial.0) ≡ true = grind (arith, nat_tests) in
    let most : bit_of true + number_of (is_of its.serial.0) (effects_told k first events) ≤ 1 = subst (λ (c : Bool). bit_of c + number_of (is_of its.serial.0) (effects_told k first events) ≤ 1) same made in
    omega (arith, most)
