-- A session asks just where it has asks left, each reply leaves fewer, and a call begins with so many as its bound allows.
use Rattle.std.proofs.Common.{◌≡◌, ℕ, zero, suc, ◌+◌, ◌-◌, ◌*◌, ◌<◌, ◌≤◌, ◌∙◌, refl, sym, ap, subst, arith, Bool, true, false, List, [], ◌∷◌, length}
use Rattle.std.specs.Prelude.{⊤, ◌==◌, ◌||◌, not, if◌then◌else◌, Option, Some, None, slice_get, slice_set}
use Rattle.std.specs.List.{remove}
use Rattle.std.proofs.lemmas.List.{length-set}
use Rattle.std.proofs.lemmas.Option.{slice_get_within}
use Rattle.fkv_base.specs.Limits.{max_pending}
use Rattle.fkv_base.specs.declared.faults.Fault.{Fault}
use Rattle.fkv_base.specs.declared.faults.Fault.TheVariants as fault
use Rattle.fkv_map.specs.declared.operations.Call.{Call}
use Rattle.fkv_map.specs.declared.operations.Call.TheVariants as call
use Rattle.fkv_map.specs.declared.operations.Op.{Op}
use Rattle.fkv_plane.specs.declared.actions.Action.{Action}
use Rattle.fkv_plane.specs.declared.asks.Ask.{Ask}
use Rattle.fkv_plane.specs.declared.asks.Ask.TheVariants.{Done}
use Rattle.fkv_plane.specs.declared.places.Places.{Places}
use Rattle.fkv_plane.specs.Passing.{is_done, passed}
use Rattle.fkv_plane.proofs.Shown.{passed_done}
use Rattle.fkv_epoch.specs.Claiming.{takes_action}
use Rattle.fkv_epoch.specs.Leaving.{leave_ask, leave_next, leave_asks_left}
use Rattle.fkv_epoch.proofs.Shown.{leave_left, leave_fewer}
use Rattle.fkv_ops.specs.Bounds.{bounds_of}
use Rattle.fkv_ops.specs.declared.answers.Reason.{Reason}
use Rattle.fkv_ops.specs.declared.answers.Reason.TheVariants as reason
use Rattle.fkv_ops.specs.declared.answers.TryAnswer.{TryAnswer}
use Rattle.fkv_ops.specs.declared.answers.TryAnswer.TheVariants as tried
use Rattle.fkv_ops.specs.declared.requests.Occasion.TheVariants.{Call as AtCall, Poll as AtPoll}
use Rattle.fkv_ops.specs.Requests.{is_read}
use Rattle.fkv_plane.specs.AsksLeft.{AsksWhereLeft, sum_left}
use Rattle.fkv_pending.specs.declared.mailing.MailAnswer.{MailAnswer}
use Rattle.fkv_pending.specs.declared.mailing.MailAnswer.TheVariants.{Cleared}
use Rattle.fkv_pending.specs.declared.mailing.MailTask.TheVariants.{Clear}
use Rattle.fkv_pending.specs.declared.mailing.Mailing.TheVariants.{LoadsState}
use Rattle.fkv_pending.specs.declared.pending_requests.PendingRequest.{PendingRequest}
use Rattle.fkv_pending.specs.AsksLeft.{attempt_asks_left}
use Rattle.fkv_pending.specs.Mailing.{mail_ask, mail_next, mail_asks_left}
use Rattle.fkv_pending.specs.Attempting.{attempt_ask}
use Rattle.fkv_pending.proofs.Shown.{attempt_left, attempt_begun_left, attempt_fewer, mail_left, mail_fewer}
use Rattle.fkv_session.specs.declared.answers.Told.{Told}
use Rattle.fkv_session.specs.declared.answers.Told.TheVariants as told
use Rattle.fkv_session.specs.declared.sessions.CatchCause.TheVariants.{Refreshes, Wakes, Shifts}
use Rattle.fkv_session.specs.declared.sessions.Sitting.{Sitting}
use Rattle.fkv_session.specs.declared.sessions.Sitting.TheVariants.{Idle, Attempts, CatchesUp, ClearsMail, Polls, StoresOwing, Turns, StoresCut, Leaves, LoadsDurable}
use Rattle.fkv_session.specs.CatchingUp.{catch_ask, refresh_begun, wake_begun}
use Rattle.fkv_session.specs.OwnTurns.{OwnTurnState, own_turn_ask, own_turn_next, own_turn_begun, own_turn_given}
use Rattle.fkv_session.specs.Sessions.{Seat, SessionState, bits_of, room_of, sitting_ask, session_ask, answers, refuses, answers_after_turn, request_in_hand, attempts, polls_request, polls_at, refusal_of, op_begun, refresh_call, poll_begun, poll_call, sleep_call, wake_call, call_begun, session_begun, attempt_left as left_behind, serial_taken, is_no_room, with_request, ticket_after, accepts, shifts, attempted, attempt_ledto, catch_ledto, clear_ledto, is_finished, is_owed, request_finished, finishes_request, lacks_room, keeps_request, poll_ledto, turn_ledto, leave_ledto, attempt_moved, caught, own_turn_moved, sitting_next, session_next, sitting_given, session_given, asks_after, is_word_ask, poll_left as poll_behind}
use Rattle.fkv_session.specs.AsksLeft.{catch_asks_left, most_catch_asks, own_turn_asks_left, most_own_turn_asks, most_attempt_asks, most_poll_asks, sitting_asks_left, session_asks_left, IsOfShape, try_bound, call_bound}
use Rattle.fkv_session.proofs.CatchLeft.{catch_left, catch_fewer, catch_most, refresh_begun_left, wake_begun_left}
use Rattle.fkv_session.proofs.OwnTurnLeft.{own_turn_left, own_turn_begun_left, own_turn_fewer, own_turn_given_fewer, own_turn_waits, own_turn_spared, own_turn_most, passed_takes}
use Rattle.fkv_plane.proofs.Shown.{passed_left, some_inside, inside_fewer, behind_fewer, sum_most, never, none}

-- it asks just where it has asks left

told_left : {A : Type 0} (left : ℕ) (ask : Ask A) (its : Told) → AsksWhereLeft left ask → AsksWhereLeft left (passed ask its)
told_left left ask its where_left = (λ e. where_left.0 (sym (passed_done ask its) ∙ e), λ some. passed_done ask its ∙ where_left.1 some)

sitting_left : (k : Seat) (s : SessionState) (step : Sitting) → AsksWhereLeft (sitting_asks_left k s step) (sitting_ask k s step)
unfolding sitting_ask sitting_asks_left
sitting_left k s (Idle its) = (never, none)
sitting_left k s (Attempts false) =
    passed_left (attempt_asks_left k.places s.attempt) (most_catch_asks s.requests + (most_attempt_asks k.places + most_own_turn_asks k.shape)) (attempt_ask k.places k.number s.attempt) told.Slept (attempt_left k.places k.number s.attempt)
sitting_left k s (Attempts true) = passed_left (attempt_asks_left k.places s.attempt) (most_own_turn_asks k.shape) (attempt_ask k.places k.number s.attempt) told.Slept (attempt_left k.places k.number s.attempt)
sitting_left k s (CatchesUp Refreshes) = told_left (catch_asks_left s.catching s.requests) (catch_ask k.places k.number s.catching s.requests) told.Slept (catch_left k.places k.number s.catching s.requests)
sitting_left k s (CatchesUp Wakes) = told_left (catch_asks_left s.catching s.requests) (catch_ask k.places k.number s.catching s.requests) told.Slept (catch_left k.places k.number s.catching s.requests)
sitting_left k s (CatchesUp Shifts) =
    passed_left (catch_asks_left s.catching s.requests) (most_attempt_asks k.places + most_own_turn_asks k.shape) (catch_ask k.places k.number s.catching s.requests) told.Slept (catch_left k.places k.number s.catching s.requests)
sitting_left k s ClearsMail = passed_left (mail_asks_left s.mailing) (most_poll_asks k s.requests 0) (mail_ask k.number s.mailing) told.Slept (mail_left k.number s.mailing)
sitting_left k s (Polls index) =
    passed_left (attempt_asks_left k.places s.attempt) (most_poll_asks k s.requests (index + 1) + 1) (attempt_ask k.places k.number s.attempt) told.Slept (attempt_left k.places k.number s.attempt)
sitting_left k s (StoresOwing index) = (λ e. omega arith, λ some. refl)
sitting_left k s (Turns its) = told_left (own_turn_asks_left k.shape s.own_turn) (own_turn_ask k.shape s.own_turn) its (own_turn_left k.shape s.own_turn)
sitting_left k s StoresCut = (λ e. omega arith, λ some. refl)
sitting_left k s Leaves = told_left (leave_asks_left s.leaving) (leave_ask k.number s.leaving) told.Slept (leave_left k.number s.leaving)
sitting_left k s LoadsDurable = (λ e. omega arith, λ some. refl)

pub session_left : (k : Seat) (s : SessionState) → AsksWhereLeft (session_asks_left k s) (session_ask k s)
session_left k s = sitting_left k s s.step

pub session_asked_left : (k : Seat) (s : SessionState) (ask : Ask Told) → ask ≡ session_ask k s → AsksWhereLeft (session_asks_left k s) ask
session_asked_left k s ask e = rw e (session_left k s)

-- what each part begins with

turn_begun_left : (k : Seat) (s : SessionState) (its : Told) → session_asks_left k (answers_after_turn s its) ≤ most_own_turn_asks k.shape
unfolding sitting_asks_left
turn_begun_left k s its = tested s.wants_turn
  where
    tested : (b : Bool) → session_asks_left k (if b then record s { own_turn = own_turn_begun s.own_turn; step = Turns its } else answers s its) ≤ most_own_turn_asks k.shape
    tested true = own_turn_begun_left k.shape s.own_turn
    tested false = omega arith

answers_left : (k : Seat) (s : SessionState) (its : Told) → session_asks_left k (answers s its) ≡ 0
unfolding sitting_asks_left
answers_left k s its = refl

first_left : (k : Seat) (s : SessionState) → session_asks_left k (attempts k s false) ≤ most_attempt_asks k.places + (most_catch_asks s.requests + (most_attempt_asks k.places + most_own_turn_asks k.shape))
unfolding attempts sitting_asks_left
first_left k s =
    let begun = attempt_begun_left k.places (bits_of k) (request_in_hand s) s.seen (AtCall (bounds_of k.shape)) s.spare s.is_orphaned in
    let most = sum_most (attempt_asks_left k.places (attempts k s false).attempt) (most_catch_asks s.requests + (most_attempt_asks k.places + most_own_turn_asks k.shape)) in
    omega (arith, begun, most)

second_left : (k : Seat) (s : SessionState) → session_asks_left k (attempts k s true) ≤ most_attempt_asks k.places + most_own_turn_asks k.shape
unfolding attempts sitting_asks_left
second_left k s =
    let begun = attempt_begun_left k.places (bits_of k) (request_in_hand s) s.seen (AtCall (bounds_of k.shape)) s.spare s.is_orphaned in
    let most = sum_most (attempt_asks_left k.places (attempts k s true).attempt) (most_own_turn_asks k.shape) in
    omega (arith, begun, most)

-- each request that is left takes its share
one_more : (more count : ℕ) → (count + 1) * more ≡ more + count * more
one_more more count = omega arith

one_polled : (more index count : ℕ) → index < count → (count - index) * more ≡ more + (count - (index + 1)) * more
one_polled more index count few =
    let one : count - index ≡ (count - (index + 1)) + 1 = omega (arith, few) in
    ap (λ (n : ℕ). n * more) one ∙ one_more more (count - (index + 1))

polls_left : (k : Seat) (s : SessionState) (index : ℕ) → session_asks_left k (polls_at k s index) ≤ most_poll_asks k s.requests index
unfolding polls_at sitting_asks_left
polls_left k s index = begun (slice_get s.requests index) refl
  where
    begun : (got : Option PendingRequest) → slice_get s.requests index ≡ got → session_asks_left k (polls_request k s index got) ≤ most_poll_asks k s.requests index
    begun None e = let few = turn_begun_left k s (told.Polled (length s.requests)) in omega (arith, few)
    begun (Some pending) e =
        let begun = attempt_begun_left k.places (bits_of k) pending s.seen AtPoll s.spare s.is_orphaned in
        let most = sum_most (attempt_asks_left k.places (polls_request k s index (Some pending)).attempt) (most_poll_asks k s.requests (index + 1) + 1) in
        let one = one_polled (most_attempt_asks k.places + 1) index (length s.requests) (slice_get_within s.requests index pending e) in
        omega (arith, begun, most, one)

-- one step, by what the machine inside has left

accepts_left : (k : Seat) (s : SessionState) (why : Reason) → session_asks_left k (accepts s why) ≤ most_own_turn_asks k.shape
unfolding accepts
accepts_left k s why = tested (is_read s.op)
  where
    read : SessionState
    read = with_request (record s { ticket = ticket_after s.ticket })

    updated : SessionState
    updated = with_request (serial_taken (record s { wants_turn = is_no_room why }))

    tested : (b : Bool)
        → session_asks_left k (if b then answers read (told.PendingRead (record { 0 = ticket_after s.ticket })) else answers_after_turn updated (told.Pending (record { 0 = s.serial + 1 }) why)) ≤ most_own_turn_asks k.shape
    tested true = let no = answers_left k read (told.PendingRead (record { 0 = ticket_after s.ticket })) in omega (arith, no)
    tested false = turn_begun_left k updated (told.Pending (record { 0 = s.serial + 1 }) why)

-- behind an attempt
abbrev behind : Seat → SessionState → Bool → ℕ
behind k s false = most_catch_asks s.requests + (most_attempt_asks k.places + most_own_turn_asks k.shape)
behind k s true = most_own_turn_asks k.shape

behind_turn : (k : Seat) (s : SessionState) (has_shifted : Bool) (left : ℕ) → left ≤ most_own_turn_asks k.shape → left ≤ behind k s has_shifted
behind_turn k s false left few = omega (arith, few)
behind_turn k s true left few = few

shifts_left : (k : Seat) (s : SessionState) (has_shifted : Bool) → session_asks_left k (shifts s has_shifted) ≤ behind k s has_shifted
unfolding shifts sitting_asks_left
shifts_left k s false =
    let begun = refresh_begun_left s.catching s.seen s.serial s.requests in
    let most = sum_most (catch_asks_left (refresh_begun s.catching s.seen s.serial) s.requests) (most_attempt_asks k.places + most_own_turn_asks k.shape) in
    omega (arith, begun, most)
shifts_left k s true = accepts_left k s reason.Contended

told_few : (k : Seat) (s : SessionState) (has_shifted : Bool) (to : SessionState) (its : Told) → session_asks_left k (answers to its) ≤ behind k s has_shifted
told_few k s has_shifted to its = let no = answers_left k to its in omega (arith, no)

attempted_left : (k : Seat) (s : SessionState) (has_shifted : Bool) (its : TryAnswer) → session_asks_left k (attempted s has_shifted its) ≤ behind k s has_shifted
attempted_left k s has_shifted (tried.Done its) = tested (is_read s.op)
  where
    tested : (b : Bool) → session_asks_left k (if b then answers s told.Absent else answers (serial_taken s) (told.Done (record { 0 = s.serial + 1 }) its)) ≤ behind k s has_shifted
    tested true = told_few k s has_shifted s told.Absent
    tested false = told_few k s has_shifted (serial_taken s) (told.Done (record { 0 = s.serial + 1 }) its)
attempted_left k s has_shifted (tried.Found value) = told_few k s has_shifted s (told.Found value)
attempted_left k s has_shifted tried.Absent = told_few k s has_shifted s told.Absent
attempted_left k s has_shifted (tried.Wait why) = behind_turn k s has_shifted _ (accepts_left k s why)
attempted_left k s has_shifted (tried.AwaitsDisk sought) = behind_turn k s has_shifted _ (accepts_left k s reason.Disk)
attempted_left k s has_shifted tried.Shift = shifts_left k s has_shifted
attempted_left k s has_shifted tried.IndexFull = told_few k s has_shifted s (told.Refused fault.IndexFull)
attempted_left k s has_shifted tried.LogFull = told_few k s has_shifted s (told.Refused fault.LogFull)

attempts_left : (k : Seat) (s : SessionState) (has_shifted : Bool) → sitting_asks_left k s (Attempts has_shifted) ≡ sum_left (attempt_asks_left k.places s.attempt) (behind k s has_shifted)
unfolding sitting_asks_left
attempts_left k s false = refl
attempts_left k s true = refl

inside_attempt : (k : Seat) (s : SessionState) (has_shifted : Bool) (old : ℕ) → s.step ≡ Attempts has_shifted → attempt_asks_left k.places s.attempt < old → session_asks_left k s < sum_left old (behind k s has_shifted)
inside_attempt k s has_shifted old at fewer =
    let stands = ap (λ (step : Sitting). sitting_asks_left k s step) at in
    let same = attempts_left k s has_shifted in
    let inside = inside_fewer (attempt_asks_left k.places s.attempt) old (behind k s has_shifted) fewer in
    omega (arith, stands, same, inside)

attempt_led : (k : Seat) (s : SessionState) (has_shifted : Bool) (old : ℕ) (ask : Ask TryAnswer) → s.step ≡ Attempts has_shifted → 0 < old → attempt_asks_left k.places s.attempt < old
    → session_asks_left k (attempt_ledto s has_shifted ask) < sum_left old (behind k s has_shifted)
unfolding attempt_ledto
attempt_led k s false old (Done its) at some fewer = behind_fewer _ old (behind k s false) some (attempted_left k (left_behind s) false its)
attempt_led k s true old (Done its) at some fewer = behind_fewer _ old (behind k s true) some (attempted_left k (left_behind s) true its)
attempt_led k s has_shifted old ask at some fewer = inside_attempt k s has_shifted old at fewer

-- a session that refreshes or wakes
catch_led : (k : Seat) (s : SessionState) (old : ℕ) (ask : Ask (Unit {0})) → s.step ≡ CatchesUp Refreshes → catch_asks_left s.catching s.requests < old → session_asks_left k (catch_ledto k s Refreshes ask) < old
unfolding catch_ledto sitting_asks_left
catch_led k s old (Done its) at fewer = omega (arith, fewer)
catch_led k s old ask at fewer = rw at fewer

wake_led : (k : Seat) (s : SessionState) (old : ℕ) (ask : Ask (Unit {0})) → s.step ≡ CatchesUp Wakes → catch_asks_left s.catching s.requests < old → session_asks_left k (catch_ledto k s Wakes ask) < old
unfolding catch_ledto sitting_asks_left
wake_led k s old (Done its) at fewer = omega (arith, fewer)
wake_led k s old ask at fewer = rw at fewer

inside_shift : (k : Seat) (s : SessionState) (old : ℕ) → s.step ≡ CatchesUp Shifts → catch_asks_left s.catching s.requests < old → session_asks_left k s < sum_left old (most_attempt_asks k.places + most_own_turn_asks k.shape)
unfolding sitting_asks_left
inside_shift k s old at fewer = rw at (inside_fewer (catch_asks_left s.catching s.requests) old (most_attempt_asks k.places + most_own_turn_asks k.shape) fewer)

shift_led : (k : Seat) (s : SessionState) (old : ℕ) (ask : Ask (Unit {0})) → s.step ≡ CatchesUp Shifts → 0 < old → catch_asks_left s.catching s.requests < old
    → session_asks_left k (catch_ledto k s Shifts ask) < sum_left old (most_attempt_asks k.places + most_own_turn_asks k.shape)
unfolding catch_ledto
shift_led k s old (Done its) at some fewer = behind_fewer _ old (most_attempt_asks k.places + most_own_turn_asks k.shape) some (second_left k (record s { seen = s.catching.seen }))
shift_led k s old ask at some fewer = inside_shift k s old at fewer

inside_clear : (k : Seat) (s : SessionState) (old : ℕ) → s.step ≡ ClearsMail → mail_asks_left s.mailing < old → session_asks_left k s < sum_left old (most_poll_asks k s.requests 0)
unfolding sitting_asks_left
inside_clear k s old at fewer = rw at (inside_fewer (mail_asks_left s.mailing) old (most_poll_asks k s.requests 0) fewer)

clear_led : (k : Seat) (s : SessionState) (old : ℕ) (ask : Ask MailAnswer) → s.step ≡ ClearsMail → 0 < old → mail_asks_left s.mailing < old → session_asks_left k (clear_ledto k s ask) < sum_left old (most_poll_asks k s.requests 0)
unfolding clear_ledto
clear_led k s old (Done Cleared) at some fewer = behind_fewer _ old (most_poll_asks k s.requests 0) some (polls_left k (record s { is_orphaned = false }) 0)
clear_led k s old (Done its) at some fewer = behind_fewer _ old (most_poll_asks k s.requests 0) some (polls_left k s 0)
clear_led k s old ask at some fewer = inside_clear k s old at fewer

-- fewer requests are left behind one that is finished
remove_few : {A : Type 0} (requests : List A) (index : ℕ) → length (remove requests index) - index ≤ length requests - (index + 1)
remove_few [] zero = omega arith
remove_few [] (suc index) = omega arith
remove_few (first ∷ others) zero = omega arith
remove_few (first ∷ others) (suc index) = let few = remove_few others index in omega (arith, few)

times_few : (more a b : ℕ) → a ≤ b → a * more ≤ b * more
times_few more zero b few = omega arith
times_few more (suc a) zero few = let no : ⊥ = omega (arith, few) in absurd no
times_few more (suc a) (suc b) few = let rest = times_few more a b (omega (arith, few)) in omega (arith, rest)

removed_left : (k : Seat) (requests : List PendingRequest) (index : ℕ) → most_poll_asks k (remove requests index) index ≤ most_poll_asks k requests (index + 1)
removed_left k requests index =
    let few = times_few (most_attempt_asks k.places + 1) (length (remove requests index) - index) (length requests - (index + 1)) (remove_few requests index) in
    omega (arith, few)

finishes_left : (k : Seat) (s : SessionState) (index : ℕ) (its : TryAnswer) → session_asks_left k (finishes_request k s index its) ≤ most_poll_asks k s.requests (index + 1) + 1
unfolding finishes_request sitting_asks_left
finishes_left k s index its = tested (is_owed s)
  where
    tested : (b : Bool) → session_asks_left k (if b then request_finished s index its else polls_at k (request_finished s index its) index) ≤ most_poll_asks k s.requests (index + 1) + 1
    tested true = let few = removed_left k s.requests index in omega (arith, few)
    tested false = let few = removed_left k s.requests index in let polls = polls_left k (request_finished s index its) index in omega (arith, few, polls)

keeps_left : (k : Seat) (s : SessionState) (index : ℕ) (its : TryAnswer) → session_asks_left k (keeps_request k s index its) ≤ most_poll_asks k s.requests (index + 1)
unfolding keeps_request
keeps_left k s index its =
    let kept : SessionState = record s { requests = slice_set s.requests index s.attempt.pending; wants_turn = s.wants_turn || lacks_room its } in
    let polls = polls_left k kept (index + 1) in
    let same = ap (λ (count : ℕ). (count - (index + 1)) * (most_attempt_asks k.places + 1)) (length-set s.requests index s.attempt.pending) in
    omega (arith, polls, same)

inside_poll : (k : Seat) (s : SessionState) (index old : ℕ) → s.step ≡ Polls index → attempt_asks_left k.places s.attempt < old → session_asks_left k s < sum_left old (most_poll_asks k s.requests (index + 1) + 1)
unfolding sitting_asks_left
inside_poll k s index old at fewer = rw at (inside_fewer (attempt_asks_left k.places s.attempt) old (most_poll_asks k s.requests (index + 1) + 1) fewer)

poll_done_left : (k : Seat) (s : SessionState) (index : ℕ) (its : TryAnswer) (b : Bool) → session_asks_left k (if b then finishes_request k s index its else keeps_request k s index its) ≤ most_poll_asks k s.requests (index + 1) + 1
poll_done_left k s index its true = finishes_left k s index its
poll_done_left k s index its false = let few = keeps_left k s index its in omega (arith, few)

poll_led : (k : Seat) (s : SessionState) (index old : ℕ) (ask : Ask TryAnswer) → s.step ≡ Polls index → 0 < old → attempt_asks_left k.places s.attempt < old
    → session_asks_left k (poll_ledto k s index ask) < sum_left old (most_poll_asks k s.requests (index + 1) + 1)
unfolding poll_ledto
poll_led k s index old (Done its) at some fewer = behind_fewer _ old (most_poll_asks k s.requests (index + 1) + 1) some (poll_done_left k (poll_behind s) index its (is_finished its))
poll_led k s index old ask at some fewer = inside_poll k s index old at fewer

turn_led : (k : Seat) (s : SessionState) (its : Told) (old : ℕ) (ask : Ask (Unit {0})) → s.step ≡ Turns its → own_turn_asks_left k.shape s.own_turn < old → session_asks_left k (turn_ledto s its ask) < old
unfolding turn_ledto sitting_asks_left
turn_led k s its old (Done through) at fewer = omega (arith, fewer)
turn_led k s its old ask at fewer = rw at fewer

leave_led : (k : Seat) (s : SessionState) (old : ℕ) (ask : Ask (Unit {0})) → s.step ≡ Leaves → leave_asks_left s.leaving < old → session_asks_left k (leave_ledto s ask) < old
unfolding leave_ledto sitting_asks_left
leave_led k s old (Done its) at fewer = omega (arith, fewer)
leave_led k s old ask at fewer = rw at fewer

-- a turn waits for no action
abbrev NoClaim : Seat → SessionState → Sitting → Type 0
NoClaim k s (Turns its) = takes_action (own_turn_ask k.shape s.own_turn) ≡ false
NoClaim k s step = ⊤

no_claim : (k : Seat) (s : SessionState) (step : Sitting) → takes_action (sitting_ask k s step) ≡ false → NoClaim k s step
unfolding sitting_ask
no_claim k s (Turns its) takes = sym (passed_takes (own_turn_ask k.shape s.own_turn) its) ∙ takes
no_claim k s step takes = tt

sitting_fewer : (k : Seat) (s : SessionState) (step : Sitting) (reply : ℕ) → s.step ≡ step → NoClaim k s step → 0 < sitting_asks_left k s step
    → session_asks_left k (sitting_next k s step reply) < sitting_asks_left k s step
unfolding sitting_next sitting_asks_left leave_asks_left
sitting_fewer k s (Idle its) reply at takes some = none some
sitting_fewer k s (Attempts false) reply at takes some =
    let inside = some_inside (attempt_asks_left k.places s.attempt) (behind k s false) some in
    attempt_led k (attempt_moved k s reply) false (attempt_asks_left k.places s.attempt) (attempt_ask k.places k.number (attempt_moved k s reply).attempt) at inside (attempt_fewer k.places (bits_of k) (room_of k) k.number s.attempt reply inside)
sitting_fewer k s (Attempts true) reply at takes some =
    let inside = some_inside (attempt_asks_left k.places s.attempt) (behind k s true) some in
    attempt_led k (attempt_moved k s reply) true (attempt_asks_left k.places s.attempt) (attempt_ask k.places k.number (attempt_moved k s reply).attempt) at inside (attempt_fewer k.places (bits_of k) (room_of k) k.number s.attempt reply inside)
sitting_fewer k s (CatchesUp Refreshes) reply at takes some =
    catch_led k (caught k s reply) (catch_asks_left s.catching s.requests) (catch_ask k.places k.number (caught k s reply).catching (caught k s reply).requests) at (catch_fewer k.places (bits_of k) k.number s.catching s.requests reply some)
sitting_fewer k s (CatchesUp Wakes) reply at takes some =
    wake_led k (caught k s reply) (catch_asks_left s.catching s.requests) (catch_ask k.places k.number (caught k s reply).catching (caught k s reply).requests) at (catch_fewer k.places (bits_of k) k.number s.catching s.requests reply some)
sitting_fewer k s (CatchesUp Shifts) reply at takes some =
    let inside = some_inside (catch_asks_left s.catching s.requests) (most_attempt_asks k.places + most_own_turn_asks k.shape) some in
    shift_led k (caught k s reply) (catch_asks_left s.catching s.requests) (catch_ask k.places k.number (caught k s reply).catching (caught k s reply).requests) at inside (catch_fewer k.places (bits_of k) k.number s.catching s.requests reply inside)
sitting_fewer k s ClearsMail reply at takes some =
    let inside = some_inside (mail_asks_left s.mailing) (most_poll_asks k s.requests 0) some in
    let fewer = mail_fewer s.mailing reply in
    clear_led k (record s { mailing = mail_next s.mailing reply }) (mail_asks_left s.mailing) (mail_ask k.number (mail_next s.mailing reply)) at inside (omega (arith, fewer, inside))
sitting_fewer k s (Polls index) reply at takes some =
    let inside = some_inside (attempt_asks_left k.places s.attempt) (most_poll_asks k s.requests (index + 1) + 1) some in
    poll_led k (attempt_moved k s reply) index (attempt_asks_left k.places s.attempt) (attempt_ask k.places k.number (attempt_moved k s reply).attempt) at inside (attempt_fewer k.places (bits_of k) (room_of k) k.number s.attempt reply inside)
sitting_fewer k s (StoresOwing index) reply at takes some = let few = polls_left k s index in omega (arith, few)
sitting_fewer k s (Turns its) reply at takes some =
    turn_led k (own_turn_moved k s reply) its (own_turn_asks_left k.shape s.own_turn) (own_turn_ask k.shape (own_turn_moved k s reply).own_turn) at (own_turn_fewer k.shape s.own_turn reply takes some)
sitting_fewer k s StoresCut reply at takes some = omega arith
sitting_fewer k s Leaves reply at takes some =
    let fewer = leave_fewer s.leaving in
    leave_led k (record s { leaving = leave_next s.leaving }) (leave_asks_left s.leaving) (leave_ask k.number (leave_next s.leaving)) at (omega (arith, fewer, some))
sitting_fewer k s LoadsDurable reply at takes some = omega arith

-- what is counted and what was told count for nothing here

counted_ask : (k : Seat) (s : SessionState) (step : Sitting) → sitting_ask k (record s { asks = asks_after s.asks (is_word_ask (session_ask k s)); effect = None }) step ≡ sitting_ask k s step
unfolding sitting_ask
counted_ask k s (Idle its) = refl
counted_ask k s step = refl

counted_left : (k : Seat) (s : SessionState) (step : Sitting) → sitting_asks_left k (record s { asks = asks_after s.asks (is_word_ask (session_ask k s)); effect = None }) step ≡ sitting_asks_left k s step
unfolding sitting_asks_left
counted_left k s (Attempts false) = refl
counted_left k s (Attempts true) = refl
counted_left k s (CatchesUp Refreshes) = refl
counted_left k s (CatchesUp Wakes) = refl
counted_left k s (CatchesUp Shifts) = refl
counted_left k s (Idle its) = refl
counted_left k s step = refl

-- each reply leaves fewer, where it doesn't wait for an action
pub session_fewer : (k : Seat) (s : SessionState) (reply : ℕ) → takes_action (session_ask k s) ≡ false → 0 < session_asks_left k s → session_asks_left k (session_next k s reply) < session_asks_left k s
session_fewer k s reply takes some =
    let now : SessionState = record s { asks = asks_after s.asks (is_word_ask (session_ask k s)); effect = None } in
    let asked : sitting_ask k now s.step ≡ sitting_ask k s s.step = counted_ask k s s.step in
    let left : sitting_asks_left k now s.step ≡ sitting_asks_left k s s.step = counted_left k s s.step in
    let fewer = sitting_fewer k now s.step reply refl (no_claim k now s.step (ap (λ (ask : Ask Told). takes_action ask) asked ∙ takes)) (omega (arith, left, some)) in
    omega (arith, fewer, left)

-- a turn that waits for an action goes on waiting for it
turn_stays : (s : SessionState) (its : Told) (ask : Ask (Unit {0})) → is_done ask ≡ false → turn_ledto s its ask ≡ s
unfolding turn_ledto
turn_stays s its (Done through) asks = cc
turn_stays s its ask asks = refl

turned_stays : (k : Seat) (s : SessionState) (its : Told) (after : OwnTurnState) → after ≡ s.own_turn → is_done (own_turn_ask k.shape s.own_turn) ≡ false
    → turn_ledto (record s { own_turn = after }) its (own_turn_ask k.shape after) ≡ s
turned_stays k s its after same asks =
    ap (λ (o : OwnTurnState). turn_ledto (record s { own_turn = o }) its (own_turn_ask k.shape o)) same ∙ turn_stays s its (own_turn_ask k.shape s.own_turn) asks

sitting_no_more : (k : Seat) (s : SessionState) (step : Sitting) (reply : ℕ) → s.step ≡ step → 0 < sitting_asks_left k s step → session_asks_left k (sitting_next k s step reply) ≤ sitting_asks_left k s step
unfolding sitting_next sitting_asks_left
sitting_no_more k s (Turns its) reply at some = tested (takes_action (own_turn_ask k.shape s.own_turn)) refl
  where
    asks : is_done (own_turn_ask k.shape s.own_turn) ≡ false
    asks = (own_turn_left k.shape s.own_turn).1 some

    tested : (b : Bool) → takes_action (own_turn_ask k.shape s.own_turn) ≡ b → session_asks_left k (sitting_next k s (Turns its) reply) ≤ own_turn_asks_left k.shape s.own_turn
    tested true takes =
        let same = turned_stays k s its (own_turn_next k.shape s.own_turn reply) (own_turn_waits k.shape s.own_turn reply takes) asks in
        let left = ap (λ (t : SessionState). session_asks_left k t) same in
        let stands = ap (λ (step : Sitting). sitting_asks_left k s step) at in
        omega (arith, left, stands)
    tested false takes = let fewer = sitting_fewer k s (Turns its) reply at takes some in omega (arith, fewer)
sitting_no_more k s step reply at some = let fewer = sitting_fewer k s step reply at tt some in omega (arith, fewer)

-- no reply to what it asks leaves more
pub session_no_more : (k : Seat) (s : SessionState) (reply : ℕ) → 0 < session_asks_left k s → session_asks_left k (session_next k s reply) ≤ session_asks_left k s
session_no_more k s reply some =
    let now : SessionState = record s { asks = asks_after s.asks (is_word_ask (session_ask k s)); effect = None } in
    let left : sitting_asks_left k now s.step ≡ sitting_asks_left k s s.step = counted_left k s s.step in
    let few = sitting_no_more k now s.step reply refl (omega (arith, left, some)) in
    omega (arith, few, left)

-- a call begins with so many as its bound allows, at most

refused_left : (k : Seat) (s : SessionState) (why : Fault) → session_asks_left k (refuses s why) ≡ 0
refused_left k s why = answers_left k s (told.Refused why)

-- the bounds by the words that there are
abbrev places_bound : Places → ℕ
places_bound p = 8 * (p.overflow + 1) + 2 * p.ring + 64

abbrev places_call_bound : Places → Call → ℕ
places_call_bound p (call.Op op) = 2 * places_bound p + 128
places_call_bound p call.Poll = max_pending * places_bound p + 128
places_call_bound p its = 128

op_left : (k : Seat) (s : SessionState) (op : Op) (refusal : Option Fault) → length s.requests ≤ max_pending → session_asks_left k (op_begun k s op refusal) ≤ 2 * places_bound k.places + 128
unfolding op_begun
op_left k s op (Some why) few = let no = refused_left k s why in omega (arith, no)
op_left k s op None few =
    let first = first_left k (record s { op = op }) in
    let turn = own_turn_most k.shape in
    let most = catch_most s.requests in
    omega (arith, first, turn, most, few)

poll_most : (k : Seat) (s : SessionState) → length s.requests ≤ max_pending → most_poll_asks k s.requests 0 + 2 ≤ max_pending * places_bound k.places + 128
poll_most k s few =
    let turn = own_turn_most k.shape in
    let times = times_few (most_attempt_asks k.places + 1) (length s.requests - 0) max_pending (omega (arith, few)) in
    omega (arith, turn, times)

poll_left : (k : Seat) (s : SessionState) → length s.requests ≤ max_pending → session_asks_left k (poll_call k s) ≤ max_pending * places_bound k.places + 128
unfolding poll_call sitting_asks_left mail_asks_left
poll_left k s few = tested s.is_awake
  where
    its : SessionState
    its = record s { finished = [] }

    begun : (b : Bool) → session_asks_left k (if b then record its { mailing = LoadsState Clear; step = ClearsMail } else polls_at k its 0) ≤ max_pending * places_bound k.places + 128
    begun true = let most = poll_most k s few in let sum = sum_most 2 (most_poll_asks k s.requests 0) in omega (arith, most, sum)
    begun false = let most = poll_most k s few in let polls = polls_left k its 0 in omega (arith, most, polls)

    tested : (b : Bool) → session_asks_left k (if b then poll_begun k its else refuses s fault.Asleep) ≤ max_pending * places_bound k.places + 128
    tested true = begun s.is_orphaned
    tested false = let no = refused_left k s fault.Asleep in omega (arith, no)

refresh_call_left : (k : Seat) (s : SessionState) → length s.requests ≤ max_pending → session_asks_left k (refresh_call s) ≤ 128
unfolding refresh_call sitting_asks_left
refresh_call_left k s few = tested s.is_awake
  where
    tested : (b : Bool) → session_asks_left k (if b then record s { catching = refresh_begun s.catching s.seen s.serial; step = CatchesUp Refreshes } else refuses s fault.Asleep) ≤ 128
    tested true = let begun = refresh_begun_left s.catching s.seen s.serial s.requests in let most = catch_most s.requests in omega (arith, begun, most, few)
    tested false = omega arith

wake_call_left : (k : Seat) (s : SessionState) → length s.requests ≤ max_pending → session_asks_left k (wake_call s) ≤ 128
unfolding wake_call sitting_asks_left
wake_call_left k s few = tested s.is_awake
  where
    tested : (b : Bool) → session_asks_left k (if b then refuses s fault.Awake else record s { catching = wake_begun s.catching s.seen s.serial; step = CatchesUp Wakes }) ≤ 128
    tested true = omega arith
    tested false = let begun = wake_begun_left s.catching s.seen s.serial s.requests in let most = catch_most s.requests in omega (arith, begun, most, few)

sleep_call_left : (k : Seat) (s : SessionState) → session_asks_left k (sleep_call s) ≤ 128
unfolding sleep_call sitting_asks_left
sleep_call_left k s = tested s.is_awake (length s.requests == 0)
  where
    tested : (b c : Bool) → session_asks_left k (if not b then refuses s fault.Asleep else if c then record s { step = StoresCut } else refuses s fault.PendingLeft) ≤ 128
    tested false c = omega arith
    tested true true = omega arith
    tested true false = omega arith

call_left : (k : Seat) (s : SessionState) (its : Call) → length s.requests ≤ max_pending → session_asks_left k (call_begun k s its) ≤ places_call_bound k.places its
unfolding sitting_asks_left
call_left k s (call.Op op) few = op_left k s op (refusal_of s op) few
call_left k s call.Refresh few = refresh_call_left k s few
call_left k s call.Poll few = poll_left k s few
call_left k s call.Sleep few = sleep_call_left k s
call_left k s call.Wake few = wake_call_left k s few
call_left k s call.Durable few = omega arith

-- and by the sizes of the shape
same_bound : (k : Seat) → IsOfShape k → places_bound k.places ≡ try_bound k.shape
same_bound k of = ap (λ (n : ℕ). 8 * (n + 1) + 2 * k.places.ring + 64) of.overflow ∙ ap (λ (n : ℕ). 8 * (k.shape.overflow + 1) + 2 * n + 64) of.ring

same_call_bound : (k : Seat) (its : Call) → IsOfShape k → places_call_bound k.places its ≡ call_bound k.shape its
same_call_bound k (call.Op op) of = ap (λ (n : ℕ). 2 * n + 128) (same_bound k of)
same_call_bound k call.Poll of = ap (λ (n : ℕ). max_pending * n + 128) (same_bound k of)
same_call_bound k call.Refresh of = refl
same_call_bound k call.Sleep of = refl
same_call_bound k call.Wake of = refl
same_call_bound k call.Durable of = refl

pub session_begun_left : (k : Seat) (s : SessionState) (its : Call) → IsOfShape k → length s.requests ≤ max_pending → session_asks_left k (session_begun k s its) ≤ call_bound k.shape its
session_begun_left k s its of few =
    subst (λ (bound : ℕ). session_asks_left k (session_begun k s its) ≤ bound) (same_call_bound k its of) (call_left k (record s { asks = 0; effect = None; wants_turn = false }) its few)

pub session_begun_most : (k : Seat) (s : SessionState) (its : Call) (begun : SessionState) → begun ≡ session_begun k s its → IsOfShape k → length s.requests ≤ max_pending → session_asks_left k begun ≤ call_bound k.shape its
session_begun_most k s its begun e of few = rw e (session_begun_left k s its of few)

turning_given_fewer : (k : Seat) (s : SessionState) (its : Told) (action : Action) → s.step ≡ Turns its → takes_action (own_turn_ask k.shape s.own_turn) ≡ true
    → session_asks_left k (sitting_given k s (Turns its) action) < sitting_asks_left k s (Turns its)
unfolding sitting_given sitting_asks_left
turning_given_fewer k s its action at takes =
    turn_led k (record s { own_turn = own_turn_given s.own_turn action }) its (own_turn_asks_left k.shape s.own_turn) (own_turn_ask k.shape (own_turn_given s.own_turn action)) at (own_turn_given_fewer k.shape s.own_turn action takes)

-- and so does an action that it waits for, where it makes a turn
pub session_given_fewer : (k : Seat) (s : SessionState) (its : Told) (action : Action) → s.step ≡ Turns its → takes_action (own_turn_ask k.shape s.own_turn) ≡ true
    → session_asks_left k (session_given k s action) < session_asks_left k s
session_given_fewer k s its action at takes =
    let now = ap (λ (step : Sitting). sitting_asks_left k s step) at in
    let next = ap (λ (step : Sitting). session_asks_left k (sitting_given k s step action)) at in
    let fewer = turning_given_fewer k s its action at takes in
    omega (arith, now, next, fewer)

turns_take : (k : Seat) (s : SessionState) (its : Told) (step : Sitting) → step ≡ Turns its → takes_action (sitting_ask k s step) ≡ true → takes_action (own_turn_ask k.shape s.own_turn) ≡ true
unfolding sitting_ask
turns_take k s its (Turns told) at takes = sym (passed_takes (own_turn_ask k.shape s.own_turn) told) ∙ takes
turns_take k s its step at takes = cc

pub session_taken_fewer : (k : Seat) (s : SessionState) (its : Told) (action : Action) → s.step ≡ Turns its → takes_action (session_ask k s) ≡ true → session_asks_left k (session_given k s action) < session_asks_left k s
session_taken_fewer k s its action at takes = session_given_fewer k s its action at (turns_take k s its s.step at takes)

sitting_spared : (k : Seat) (s : SessionState) (step : Sitting) (action : Action) → is_done (sitting_ask k s step) ≡ false → takes_action (sitting_ask k s step) ≡ false → sitting_given k s step action ≡ s
unfolding sitting_ask sitting_given
sitting_spared k s (Turns its) action asks takes =
    let ask = own_turn_ask k.shape s.own_turn in
    let its_own = sym (passed_done ask its) ∙ asks in
    turned_stays k s its (own_turn_given s.own_turn action) (own_turn_spared k.shape s.own_turn action its_own (sym (passed_takes ask its) ∙ takes)) its_own
sitting_spared k s step action asks takes = refl

-- an action that it does not wait for leaves all as it is
pub session_spared : (k : Seat) (s : SessionState) (action : Action) → is_done (session_ask k s) ≡ false → takes_action (session_ask k s) ≡ false → session_given k s action ≡ s
session_spared k s action asks takes = sitting_spared k s s.step action asks takes
