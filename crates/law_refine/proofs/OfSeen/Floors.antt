-- The floors of a session, of its requests and of its attempt stay at or below a begin of the log, where no mail tells a higher one.
use Rattle.std.proofs.Common.{◌≡◌, ℕ, ◌+◌, ◌≤◌, ◌∙◌, refl, sym, ap, subst, arith, Bool, true, false, List, [], ◌∷◌, length}
use Rattle.std.specs.Prelude.{Option, Some, None, if◌then◌else◌, not, ◌==◌, ◌||◌, slice_get, slice_set}
use Rattle.fkv_base.specs.declared.faults.Fault.{Fault}
use Rattle.fkv_base.specs.declared.faults.Fault.TheVariants as fault
use Rattle.fkv_epoch.proofs.Shown.{some_same}
use Rattle.fkv_epoch.specs.Leaving.{leave_ask, leave_next}
use Rattle.fkv_map.specs.Keys.{key_of}
use Rattle.fkv_map.specs.declared.operations.Call.{Call}
use Rattle.fkv_map.specs.declared.operations.Call.TheVariants as call
use Rattle.fkv_map.specs.declared.operations.Op.{Op}
use Rattle.fkv_plane.specs.declared.actions.Action.{Action}
use Rattle.fkv_plane.specs.declared.asks.Ask.{Ask}
use Rattle.fkv_plane.specs.declared.asks.Ask.TheVariants.{Put, Take, Done}
use Rattle.fkv_plane.specs.declared.places.Places.{Places}
use Rattle.fkv_plane.proofs.Shown.{passed_reply}
use Rattle.fkv_plane.specs.Asked.{reply_to}
use Rattle.fkv_plane.specs.Passing.{passed}
use Rattle.fkv_plane.specs.Plane.{action_at}
use Rattle.law_world.specs.Below.fkv_ops.DiskRecord.{DiskRecord}
use Rattle.law_world.specs.Below.fkv_ops.HeaderSaid.{HeaderSaid}
use Rattle.law_world.specs.Below.fkv_ops.HeaderSaid.TheVariants.{Says, Spoiled}
use Rattle.law_world.specs.Below.fkv_ops.HeaderWords.{header_said}
use Rattle.law_world.specs.Below.fkv_ops.Bounds.{bounds_of}
use Rattle.law_world.specs.Below.fkv_ops.Occasion.{Occasion}
use Rattle.law_world.specs.Below.fkv_ops.Occasion.TheVariants.{Call as AtCall, Poll as AtPoll}
use Rattle.law_world.specs.Below.fkv_ops.Reason.{Reason}
use Rattle.law_world.specs.Below.fkv_ops.Reason.TheVariants as reason
use Rattle.law_world.specs.Below.fkv_ops.Seen.{Seen}
use Rattle.law_world.specs.Below.fkv_ops.TryAnswer.{TryAnswer}
use Rattle.law_world.specs.Below.fkv_ops.TryAnswer.TheVariants as answer
use Rattle.law_world.specs.Below.fkv_ops.Requests.{is_chain_end, is_read}
use Rattle.law_world.specs.Below.fkv_ops.Trying.{told_value, try_ask, try_next}
use Rattle.law_world.specs.Below.fkv_ops.Values.{value_of}
use Rattle.law_world.specs.Below.fkv_pending.TheAttempting.{Attempting}
use Rattle.law_world.specs.Below.fkv_pending.TheAttempting.TheVariants as attempting
use Rattle.law_world.specs.Below.fkv_pending.TheAttempting.TheVariants.{Looks, Puts, Tries}
use Rattle.law_world.specs.Below.fkv_pending.MailAnswer.{MailAnswer}
use Rattle.law_world.specs.Below.fkv_pending.MailAnswer.TheVariants as mail
use Rattle.law_world.specs.Below.fkv_pending.MailRecord.{MailRecord}
use Rattle.law_world.specs.Below.fkv_pending.MailTask.TheVariants.{Clear, Take as TakeMail}
use Rattle.law_world.specs.Below.fkv_pending.TheMailing.{Mailing}
use Rattle.law_world.specs.Below.fkv_pending.TheMailing.TheVariants as mailing
use Rattle.law_world.specs.Below.fkv_pending.TheMailing.TheVariants.{LoadsState}
use Rattle.law_world.specs.Below.fkv_pending.Mailing.{mail_ask, mail_next, is_gone, begin_told}
use Rattle.law_world.specs.Below.fkv_pending.Pending.{with_sought, with_held, with_latch, with_asked, without_gone}
use Rattle.law_world.specs.Below.fkv_pending.PendingRequest.{PendingRequest}
use Rattle.law_world.specs.Below.fkv_pending.Attempting.{AttemptState, attempting_ask, attempt_ask, attempt_ended, waits_for_disk, puts_addr, puts, tries, is_seeking_read, goes_on, new_attempt, attempt_begun, held_of, moved_on, read_on, record_taken, goes_anew, mail_taken, look_ledto, held_kept, awaits_record, tried, try_ledto, put_ledto, mail_moved, try_moved, attempting_next}
use Rattle.law_world.specs.Below.fkv_session.Told.{Told}
use Rattle.law_world.specs.Below.fkv_session.Told.TheVariants as told
use Rattle.law_world.specs.Below.fkv_session.CatchCause.{CatchCause}
use Rattle.law_world.specs.Below.fkv_session.CatchCause.TheVariants as cause
use Rattle.law_world.specs.Below.fkv_session.Sitting.{Sitting}
use Rattle.law_world.specs.Below.fkv_session.Sitting.TheVariants.{Idle, Attempts, CatchesUp, ClearsMail, Polls, StoresOwing, Turns, StoresCut, Leaves, LoadsDurable}
use Rattle.law_world.specs.Below.fkv_session.CatchingUp.{catch_ask, refresh_begun, wake_begun}
use Rattle.law_world.specs.Below.fkv_session.OwnTurns.{own_turn_ask, own_turn_begun, own_turn_given}
use Rattle.law_world.specs.Below.fkv_session.Sessions.{SessionState, Seat, bits_of, room_of, is_busy, sitting_ask, session_ask, answers, refuses, answers_after_turn, request_in_hand, attempts, polls_request, polls_at, refusal_of, op_begun, refresh_call, poll_begun, poll_call, sleep_call, wake_call, call_begun, session_begun, attempt_left, poll_left, serial_taken, update_done, is_no_room, with_request, ticket_after, accepts, shifts, attempted, attempt_ledto, catch_ledto, clear_ledto, is_finished, is_owed, request_finished, finishes_request, lacks_room, keeps_request, poll_ledto, turn_ledto, leave_ledto, attempt_moved, caught, own_turn_moved, sitting_next, is_word_ask, asks_after, session_next, sitting_given}
use Rattle.law_local.specs.Sessions.Known.{is_attempting, attempt_after, catch_after, caught_up_at, with_op, KeepsKnown}
use Rattle.law_local.proofs.OfSessions.Known.{begun_known, given_known, opened_known, next_known, stays_known}
use Rattle.law_world.specs.Below.fkv_world.Actors.{is_of_session, session_goes}
use Rattle.law_world.specs.Below.fkv_world.Moves.{Near, session_gets, session_settled, session_replied, session_asks}
use Rattle.law_world.specs.Below.fkv_world.Runs.{World, happens, run}
use Rattle.law_world.specs.Below.fkv_world.World.{Event, Calls, Moves, Commits, Turns as TurnsAsked, KeeperMoves, Crashes, Now, near, seat_at}
use Rattle.law_world.proofs.Below.fkv_world.Shown.{is_over, session_apart, session_written}
use Rattle.law_refine.specs.Mail.Mailers.{attempt_mailing, sitting_mailing}
use Rattle.law_refine.specs.Mail.Reads.{IsTaking}
use Rattle.law_refine.specs.Seen.Floors.{GoesUpto, TriesUpto, HasFloorsUpto, HaveFloorsUpto, OpensUpto, TellsUpto, HasToldUpto}
use Rattle.law_refine.proofs.OfSeen.There.{there_before}

never : {A : Type 0} → true ≡ false → A
never e = cc

-- ---- what an attempt that looks asks is a word of its mailbox
look_ask : (k : Seat) (s : SessionState) → is_attempting s.step ≡ true → s.attempt.step ≡ Looks
    → session_ask k s ≡ passed (passed (mail_ask k.number s.attempt.mailing) answer.Shift) told.Slept
unfolding sitting_ask attempting_ask
look_ask k s attempts looks = by_step s.step attempts
  where
    at_look : passed (attempt_ask k.places k.number s.attempt) told.Slept ≡ passed (passed (mail_ask k.number s.attempt.mailing) answer.Shift) told.Slept
    at_look = ap (λ (x : Attempting). passed (attempting_ask k.places k.number s.attempt x) told.Slept) looks

    by_step : (step : Sitting) → is_attempting step ≡ true
        → sitting_ask k s step ≡ passed (passed (mail_ask k.number s.attempt.mailing) answer.Shift) told.Slept
    by_step (Attempts has_shifted) e = at_look
    by_step (Polls index) e = at_look
    by_step step e = cc

look_reply : (k : Seat) (s : SessionState) (words : List ℕ) → is_attempting s.step ≡ true → s.attempt.step ≡ Looks
    → reply_to words (session_ask k s) ≡ reply_to words (mail_ask k.number s.attempt.mailing)
look_reply k s words attempts looks =
    ap (λ (x : Ask Told). reply_to words x) (look_ask k s attempts looks)
    ∙ passed_reply {B = Told} words (passed (mail_ask k.number s.attempt.mailing) answer.Shift) told.Slept
    ∙ passed_reply {B = TryAnswer} words (mail_ask k.number s.attempt.mailing) answer.Shift

no_put : {A : Type 0} (number : ℕ) (m : Mailing) (slot : ℕ) (action : Action) → passed (passed (mail_ask number m) answer.Shift) told.Slept ≡ Put slot action
    → A
unfolding passed mail_ask
no_put number (mailing.Ended its) slot action e = cc
no_put number (mailing.LoadsState task) slot action e = cc
no_put number mailing.LoadsHeader slot action e = cc
no_put number (mailing.LoadsKey header) slot action e = cc
no_put number (mailing.LoadsValue header key) slot action e = cc
no_put number (mailing.StoresEmpty its) slot action e = cc
no_put number (mailing.StoresAddress addr) slot action e = cc
no_put number mailing.StoresAsked slot action e = cc

-- its machine is the session's
look_mailing : (s : SessionState) (step : Sitting) → is_attempting step ≡ true → s.attempt.step ≡ Looks → sitting_mailing s step ≡ Some s.attempt.mailing
look_mailing s (Attempts has_shifted) attempts looks = ap (attempt_mailing s.attempt) looks
look_mailing s (Polls index) attempts looks = ap (attempt_mailing s.attempt) looks
look_mailing s step attempts looks = cc

module _ (begin : ℕ) where
  -- ---- an attempt
  either_upto : (c : Bool) (a b : AttemptState) → (c ≡ true → TriesUpto begin a) → (c ≡ false → TriesUpto begin b) → TriesUpto begin (if c then a else b)
  either_upto true a b one other = one refl
  either_upto false a b one other = other refl

  puts_upto : (a : AttemptState) (sought : Option DiskRecord) → TriesUpto begin a → TriesUpto begin (puts_addr a sought)
  puts_upto a None its = its
  puts_upto a (Some sought) its = its

  begun_upto : (p : Places) (bits : ℕ) (pending : PendingRequest) (seen : Seen) (occasion : Occasion) (spare : ℕ) (is_orphaned : Bool)
      → GoesUpto begin pending → TriesUpto begin (attempt_begun p bits pending seen occasion spare is_orphaned)
  begun_upto p bits pending seen occasion spare is_orphaned its =
      let a : AttemptState = new_attempt bits pending seen occasion spare is_orphaned in
      either_upto pending.has_asked (record a { mailing = LoadsState TakeMail; step = Looks }) (goes_on p bits a) (λ e. its) (λ e. either_upto (is_seeking_read a) (puts a) (tries p bits a) (λ f. puts_upto a a.pending.sought its) (λ f. its))

  read_upto : (a : AttemptState) (its : MailRecord) (said : HeaderSaid) → TriesUpto begin a → TriesUpto begin (read_on a its said)
  unfolding with_sought
  read_upto a its Spoiled low = puts_upto a a.pending.sought low
  read_upto a its (Says previous version) low =
      let next : AttemptState = record a { pending = with_sought a.pending (moved_on a.pending.sought previous) } in
      either_upto (its.key.0 == (key_of a.pending.request.op).0) (attempt_ended a (told_value (value_of its.value))) (if is_chain_end a.pending.request.floor previous then attempt_ended a answer.Absent else puts next) (λ e. low)
      (λ e. either_upto (is_chain_end a.pending.request.floor previous) (attempt_ended a answer.Absent) (puts next) (λ f. low) (λ f. puts_upto next next.pending.sought low))

  record_upto : (p : Places) (bits : ℕ) (a : AttemptState) (its : MailRecord) (said : HeaderSaid) → TriesUpto begin a
      → TriesUpto begin (record_taken p bits a its said)
  unfolding with_held
  record_upto p bits a its said low =
      let held : AttemptState = record a { pending = with_held a.pending (held_of a.pending.sought its said) } in
      either_upto (is_seeking_read a) (read_on a its said) (tries p bits held) (λ e. read_upto a its said low) (λ e. low)

  anew_upto : (p : Places) (bits : ℕ) (a : AttemptState) (its : MailRecord) → its.key.0 ≤ begin → TriesUpto begin (goes_anew p bits a (begin_told its))
  unfolding without_gone
  anew_upto p bits a its low =
      let next : AttemptState = record a { pending = without_gone a.pending (begin_told its) } in
      either_upto (is_seeking_read a) (waits_for_disk next) (tries p bits next) (λ e. low) (λ e. low)

  mail_upto : (p : Places) (bits : ℕ) (a : AttemptState) (its : MailRecord) → (is_gone its ≡ true → its.key.0 ≤ begin) → TriesUpto begin a
      → TriesUpto begin (mail_taken p bits a its)
  mail_upto p bits a its tells low =
      either_upto (is_gone its) (goes_anew p bits a (begin_told its)) (record_taken p bits a its (header_said its.header)) (λ gone. anew_upto p bits a its (tells gone)) (λ e. record_upto p bits a its (header_said its.header) low)

  -- no higher begin is told by the answer of its mailbox
  abbrev AnswersUpto : Ask MailAnswer → Type 0
  AnswersUpto ask = (its : MailRecord) → ask ≡ Done (mail.Taken its) → is_gone its ≡ true → its.key.0 ≤ begin

  look_upto : (p : Places) (bits : ℕ) (a : AttemptState) (ask : Ask MailAnswer) → AnswersUpto ask → TriesUpto begin a
      → TriesUpto begin (look_ledto p bits a ask)
  unfolding look_ledto with_asked
  look_upto p bits a (Done (mail.Taken its)) tells low = mail_upto p bits (record a { is_emptied = true; pending = with_asked a.pending false }) its (tells its refl) low
  look_upto p bits a (Done other) tells low = either_upto (is_seeking_read a) (waits_for_disk a) (tries p bits a) (λ e. low) (λ e. low)
  look_upto p bits a ask tells low = low

  awaits_upto : (a : AttemptState) (sought : DiskRecord) → TriesUpto begin a → TriesUpto begin (awaits_record a sought)
  unfolding with_held with_sought
  awaits_upto a sought low =
      let its : AttemptState = record a { pending = with_held a.pending (held_kept a.pending.request.held sought.entry) } in
      let next : AttemptState = record its { pending = with_sought its.pending (Some sought) } in
      either_upto a.pending.has_asked (waits_for_disk its) (puts next) (λ e. low) (λ e. puts_upto next next.pending.sought low)

  tried_upto : (a : AttemptState) (its : TryAnswer) → TriesUpto begin a → TriesUpto begin (tried a its)
  tried_upto a (answer.AwaitsDisk sought) low = awaits_upto a sought low
  tried_upto a (answer.Wait its) low = low
  tried_upto a answer.Shift low = low
  tried_upto a its low = low

  try_upto : (a : AttemptState) (ask : Ask TryAnswer) → TriesUpto begin a → TriesUpto begin (try_ledto a ask)
  unfolding try_ledto with_latch
  try_upto a (Done its) low = tried_upto (record a { spare = a.trial.spare; pending = with_latch a.pending a.trial.has_shared }) its low
  try_upto a ask low = low

  put_upto : (a : AttemptState) (ask : Ask MailAnswer) → TriesUpto begin a → TriesUpto begin (put_ledto a ask)
  unfolding put_ledto with_asked
  put_upto a (Done mail.Asked) low = low
  put_upto a (Done other) low = low
  put_upto a ask low = low

  next_upto : (p : Places) (bits room number : ℕ) (a : AttemptState) (step : Attempting) (reply : ℕ)
      → (step ≡ Looks → AnswersUpto (mail_ask number (mail_next a.mailing reply))) → TriesUpto begin a
      → TriesUpto begin (attempting_next p bits room number a step reply)
  unfolding attempting_next
  next_upto p bits room number a (attempting.Ended its) reply tells low = low
  next_upto p bits room number a Looks reply tells low = look_upto p bits (mail_moved a reply) (mail_ask number (mail_next a.mailing reply)) (tells refl) low
  next_upto p bits room number a Tries reply tells low = try_upto (try_moved p room a reply) (try_ask p (try_next p room a.trial reply)) low
  next_upto p bits room number a Puts reply tells low = put_upto (mail_moved a reply) (mail_ask number (mail_next a.mailing reply)) low

  -- ---- the session's own
  abbrev Low : SessionState → Type 0
  Low s = s.floor.0 ≤ begin

  either_low : (c : Bool) (a b : SessionState) → Low a → Low b → Low (if c then a else b)
  either_low true a b one other = one
  either_low false a b one other = other

  turn_low : (s : SessionState) (its : Told) → Low s → Low (answers_after_turn s its)
  turn_low s its low = either_low s.wants_turn (record s { own_turn = own_turn_begun s.own_turn; step = Turns its }) (answers s its) low low

  request_low : (k : Seat) (s : SessionState) (index : ℕ) (found : Option PendingRequest) → Low s → Low (polls_request k s index found)
  request_low k s index None low = turn_low s (told.Polled (length s.requests)) low
  request_low k s index (Some pending) low = low

  polls_low : (k : Seat) (s : SessionState) (index : ℕ) → Low s → Low (polls_at k s index)
  unfolding polls_at
  polls_low k s index low = request_low k s index (slice_get s.requests index) low

  accepts_low : (s : SessionState) (why : Reason) → Low s → Low (accepts s why)
  unfolding accepts
  accepts_low s why low =
      either_low (is_read s.op) (answers (with_request (record s { ticket = ticket_after s.ticket })) (told.PendingRead (record { 0 = ticket_after s.ticket })))
      (answers_after_turn (with_request (serial_taken (record s { wants_turn = is_no_room why }))) (told.Pending (record { 0 = s.serial + 1 }) why)) low
      (turn_low (with_request (serial_taken (record s { wants_turn = is_no_room why }))) (told.Pending (record { 0 = s.serial + 1 }) why) low)

  shifts_low : (s : SessionState) (has_shifted : Bool) → Low s → Low (shifts s has_shifted)
  unfolding shifts
  shifts_low s false low = low
  shifts_low s true low = accepts_low s reason.Contended low

  attempted_low : (s : SessionState) (has_shifted : Bool) (its : TryAnswer) → Low s → Low (attempted s has_shifted its)
  attempted_low s has_shifted (answer.Done made) low = either_low (is_read s.op) (answers s told.Absent) (update_done s made) low low
  attempted_low s has_shifted (answer.Found value) low = low
  attempted_low s has_shifted answer.Absent low = low
  attempted_low s has_shifted (answer.Wait why) low = accepts_low s why low
  attempted_low s has_shifted (answer.AwaitsDisk sought) low = accepts_low s reason.Disk low
  attempted_low s has_shifted answer.Shift low = shifts_low s has_shifted low
  attempted_low s has_shifted answer.IndexFull low = low
  attempted_low s has_shifted answer.LogFull low = low

  called_low : (s : SessionState) (has_shifted : Bool) (ask : Ask TryAnswer) → Low s → Low (attempt_ledto s has_shifted ask)
  unfolding attempt_ledto
  called_low s has_shifted (Done its) low = attempted_low (attempt_left s) has_shifted its low
  called_low s has_shifted ask low = low

  caught_low : (k : Seat) (s : SessionState) (its : CatchCause) (ask : Ask (Unit {0})) → Low s → Low (catch_ledto k s its ask)
  unfolding catch_ledto attempts
  caught_low k s cause.Refreshes (Done through) low = low
  caught_low k s cause.Wakes (Done through) low = low
  caught_low k s cause.Shifts (Done through) low = low
  caught_low k s its ask low = low

  clear_low : (k : Seat) (s : SessionState) (ask : Ask MailAnswer) → Low s → Low (clear_ledto k s ask)
  unfolding clear_ledto
  clear_low k s (Done mail.Cleared) low = polls_low k (record s { is_orphaned = false }) 0 low
  clear_low k s (Done its) low = polls_low k s 0 low
  clear_low k s ask low = low

  finishes_low : (k : Seat) (s : SessionState) (index : ℕ) (its : TryAnswer) → Low s → Low (finishes_request k s index its)
  unfolding finishes_request
  finishes_low k s index its low = either_low (is_owed s) (request_finished s index its) (polls_at k (request_finished s index its) index) low (polls_low k (request_finished s index its) index low)

  keeps_low : (k : Seat) (s : SessionState) (index : ℕ) (its : TryAnswer) → Low s → Low (keeps_request k s index its)
  unfolding keeps_request
  keeps_low k s index its low = polls_low k (record s { requests = slice_set s.requests index s.attempt.pending; wants_turn = s.wants_turn || lacks_room its }) (index + 1) low

  -- a poll raises it to what its attempt has heard
  left_low : (s : SessionState) → Low s → TriesUpto begin s.attempt → Low (poll_left s)
  left_low s low its = omega arith

  polled_low : (k : Seat) (s : SessionState) (index : ℕ) (ask : Ask TryAnswer) → Low s → TriesUpto begin s.attempt → Low (poll_ledto k s index ask)
  unfolding poll_ledto
  polled_low k s index (Done its) low tries =
      either_low (is_finished its) (finishes_request k (poll_left s) index its) (keeps_request k (poll_left s) index its) (finishes_low k (poll_left s) index its (left_low s low tries)) (keeps_low k (poll_left s) index its (left_low s low tries))
  polled_low k s index ask low tries = low

  turned_low : (s : SessionState) (its : Told) (ask : Ask (Unit {0})) → Low s → Low (turn_ledto s its ask)
  unfolding turn_ledto
  turned_low s its (Done through) low = low
  turned_low s its ask low = low

  slept_low : (s : SessionState) (ask : Ask (Unit {0})) → Low s → Low (leave_ledto s ask)
  unfolding leave_ledto
  slept_low s (Done its) low = low
  slept_low s ask low = low

  sitting_low : (k : Seat) (s : SessionState) (step : Sitting) (reply : ℕ) → Low s
      → (is_attempting step ≡ true → TriesUpto begin (attempt_moved k s reply).attempt) → Low (sitting_next k s step reply)
  unfolding sitting_next
  sitting_low k s (Idle its) reply low tries = low
  sitting_low k s (Attempts has_shifted) reply low tries = called_low (attempt_moved k s reply) has_shifted (attempt_ask k.places k.number (attempt_moved k s reply).attempt) low
  sitting_low k s (CatchesUp its) reply low tries = caught_low k (caught k s reply) its (catch_ask k.places k.number (caught k s reply).catching (caught k s reply).requests) low
  sitting_low k s ClearsMail reply low tries = clear_low k (record s { mailing = mail_next s.mailing reply }) (mail_ask k.number (mail_next s.mailing reply)) low
  sitting_low k s (Polls index) reply low tries = polled_low k (attempt_moved k s reply) index (attempt_ask k.places k.number (attempt_moved k s reply).attempt) low (tries refl)
  sitting_low k s (StoresOwing index) reply low tries = polls_low k s index low
  sitting_low k s (Turns its) reply low tries = turned_low (own_turn_moved k s reply) its (own_turn_ask k.shape (own_turn_moved k s reply).own_turn) low
  sitting_low k s StoresCut reply low tries = low
  sitting_low k s Leaves reply low tries = slept_low (record s { leaving = leave_next s.leaving }) (leave_ask k.number (leave_next s.leaving)) low
  sitting_low k s LoadsDurable reply low tries = low

  given_low : (k : Seat) (s : SessionState) (step : Sitting) (action : Action) → Low s → Low (sitting_given k s step action)
  unfolding sitting_given
  given_low k s (Turns its) action low = let after : SessionState = record s { own_turn = own_turn_given s.own_turn action } in turned_low after its (own_turn_ask k.shape after.own_turn) low
  given_low k s step action low = low

  op_low : (k : Seat) (s : SessionState) (op : Op) (why : Option Fault) → Low s → Low (op_begun k s op why)
  unfolding op_begun attempts
  op_low k s op (Some why) low = low
  op_low k s op None low = low

  call_low : (k : Seat) (s : SessionState) (its : Call) → Low s → Low (call_begun k s its)
  unfolding refresh_call poll_call sleep_call wake_call
  call_low k s (call.Op op) low = op_low k s op (refusal_of s op) low
  call_low k s call.Refresh low = either_low s.is_awake (record s { catching = refresh_begun s.catching s.seen s.serial; step = CatchesUp cause.Refreshes }) (refuses s fault.Asleep) low low
  call_low k s call.Poll low =
      let t : SessionState = record s { finished = [] } in
      either_low s.is_awake (poll_begun k t) (refuses s fault.Asleep) (either_low s.is_orphaned (record t { mailing = LoadsState Clear; step = ClearsMail }) (polls_at k t 0) low (polls_low k t 0 low)) low
  call_low k s call.Sleep low =
      either_low (not s.is_awake) (refuses s fault.Asleep) (if length s.requests == 0 then record s { step = StoresCut } else refuses s fault.PendingLeft) low
      (either_low (length s.requests == 0) (record s { step = StoresCut }) (refuses s fault.PendingLeft) low low)
  call_low k s call.Wake low = either_low s.is_awake (refuses s fault.Awake) (record s { catching = wake_begun s.catching s.seen s.serial; step = CatchesUp cause.Wakes }) low low
  call_low k s call.Durable low = low

  -- ---- all of a session's
  abbrev Has : SessionState → Type 0
  Has s = HasFloorsUpto begin s

  -- no higher begin is told by this reply
  abbrev RepliesUpto : Seat → SessionState → ℕ → Type 0
  RepliesUpto k s reply = is_attempting s.step ≡ true → s.attempt.step ≡ Looks → AnswersUpto (mail_ask k.number (mail_next s.attempt.mailing reply))

  latch_upto : (pending : PendingRequest) → GoesUpto begin pending → GoesUpto begin (with_latch pending true)
  unfolding with_latch
  latch_upto pending its = its

  attempt_upto : (k : Seat) (s : SessionState) (reply : ℕ) → RepliesUpto k s reply → is_attempting s.step ≡ true → TriesUpto begin s.attempt
      → TriesUpto begin (attempt_after k s reply)
  attempt_upto k s reply tells attempts its = next_upto k.places (bits_of k) (room_of k) k.number (record s.attempt { effect = None }) s.attempt.step reply (λ looks. tells attempts looks) its

  keeps : (k : Seat) (s : SessionState) (reply : ℕ) → RepliesUpto k s reply → Low s
      → KeepsKnown k s reply (GoesUpto begin) (GoesUpto begin) (TriesUpto begin) (TriesUpto begin)
  keeps k s reply tells low = record {
    waits = λ pending its. its;
    attempts = λ attempts its. attempt_upto k s reply tells attempts its;
    accepts = λ has_shifted told at comes accepted its. its;
    keeps = λ index told at comes waits its. its;
    hands_over = λ polls pending spare is_orphaned its. begun_upto k.places (bits_of k) pending s.seen AtPoll spare is_orphaned its;
    begins_anew = λ through at comes spare is_orphaned. begun_upto k.places (bits_of k) (request_in_hand (caught_up_at k s reply)) (catch_after k s reply).seen (AtCall (bounds_of k.shape)) spare is_orphaned low;
    latches = λ cause pending at its. latch_upto pending its;
  }

  replied_has : (k : Seat) (s : SessionState) (reply : ℕ) → RepliesUpto k s reply → Has s → Has (session_next k s reply)
  replied_has k s reply tells has = record {
    own = sitting_low k (record s { asks = asks_after s.asks (is_word_ask (session_ask k s)); effect = None }) s.step reply has.own (λ attempts. attempt_upto k s reply tells attempts (has.theirs.attempted attempts));
    theirs = next_known (GoesUpto begin) (GoesUpto begin) (TriesUpto begin) (TriesUpto begin) k s reply has.theirs (keeps k s reply tells has.own);
  }

  gets_has : (k : Seat) (s : SessionState) (found : Option Action) → Has s → Has (session_gets k s found)
  gets_has k s None has = has
  gets_has k s (Some action) has = record { own = given_low k s s.step action has.own; theirs = given_known (GoesUpto begin) (TriesUpto begin) k s action has.theirs }

  called_has : (k : Seat) (s : SessionState) (its : Call) (busy : Bool) → is_busy s.step ≡ busy → Has s → Has (if busy then s else session_begun k s its)
  called_has k s its true e has = has
  called_has k s its false e has = record {
    own = call_low k (record s { asks = 0; effect = None; wants_turn = false }) its has.own;
    theirs = begun_known (GoesUpto begin) (TriesUpto begin) k s its e has.theirs (record {
      calls = λ op same none spare is_orphaned. begun_upto k.places (bits_of k) (request_in_hand (with_op s op)) s.seen (AtCall (bounds_of k.shape)) spare is_orphaned has.own;
      polls = λ same awake pending spare is_orphaned low. begun_upto k.places (bits_of k) pending s.seen AtPoll spare is_orphaned low;
    });
  }

  -- ---- a step
  put_has : (k : Seat) (s : SessionState) (slot : ℕ) (action : Action) → session_ask k s ≡ Put slot action → Has s → Has (session_next k s 0)
  put_has k s slot action e has = replied_has k s 0 (λ attempts looks its told gone. no_put k.number s.attempt.mailing slot action (sym (look_ask k s attempts looks) ∙ e)) has

  settled_has : (k : Seat) (n : Near SessionState) (ask : Ask Told) → session_ask k n.machine ≡ ask → Has n.machine → Has (session_settled k n ask).machine
  unfolding session_settled
  settled_has k n (Put slot action) e has = put_has k n.machine slot action e has
  settled_has k n (Take slot) e has = gets_has k n.machine (action_at n.actions slot) has
  settled_has k n ask e has = has

  replied_on : (k : Seat) (n : Near SessionState) (ask : Ask Told) → RepliesUpto k n.machine (reply_to n.words ask) → Has n.machine
      → Has (session_settled k (session_replied k n ask) (session_ask k (session_replied k n ask).machine)).machine
  replied_on k n ask tells has = settled_has k (session_replied k n ask) (session_ask k (session_replied k n ask).machine) refl (replied_has k n.machine (reply_to n.words ask) tells has)

  asked_has : (k : Seat) (n : Near SessionState) (ask : Ask Told) → session_ask k n.machine ≡ ask → RepliesUpto k n.machine (reply_to n.words ask)
      → Has n.machine → Has (session_asks k n ask).machine
  unfolding session_asks
  asked_has k n (Done its) e tells has = has
  asked_has k n (Put slot action) e tells has = settled_has k n (Put slot action) e has
  asked_has k n (Take slot) e tells has = settled_has k n (Take slot) e has
  asked_has k n ask e tells has = replied_on k n ask tells has

  -- whoever takes mail takes what the mailbox has
  replies_upto : (n : Now) (session : ℕ) (s : SessionState) → n.crashed ≡ false → TellsUpto begin n → slice_get n.sessions session ≡ Some s
      → RepliesUpto (seat_at n session) s (reply_to n.words (session_ask (seat_at n session) s))
  replies_upto n session s alive tells there attempts looks its taken gone =
      let takes : mail_ask session (mail_next s.attempt.mailing (reply_to n.words (mail_ask session s.attempt.mailing))) ≡ Done (mail.Taken its) =
      ap (λ (x : ℕ). mail_ask session (mail_next s.attempt.mailing x)) (sym (look_reply (seat_at n session) s n.words attempts looks)) ∙ taken in
      let taking : IsTaking n session its = record { taker = s; there = there; step = s.attempt.mailing; under_way = look_mailing s s.step attempts looks; takes = takes } in
      tells alive session its taking gone

  goes_has : (n : Now) (session : ℕ) (s : SessionState) (event : Event) → n.crashed ≡ false → TellsUpto begin n → slice_get n.sessions session ≡ Some s
      → Has s → Has (session_goes (seat_at n session) (near n s) event).machine
  unfolding session_goes
  goes_has n session s (Calls number its) alive tells there has = called_has (seat_at n session) s its (is_busy s.step) refl has
  goes_has n session s (Moves number) alive tells there has = asked_has (seat_at n session) (near n s) (session_ask (seat_at n session) s) refl (replies_upto n session s alive tells there) has
  goes_has n session s (Commits kind) alive tells there has = has
  goes_has n session s TurnsAsked alive tells there has = has
  goes_has n session s (KeeperMoves granted done) alive tells there has = has
  goes_has n session s Crashes alive tells there has = has

  -- ---- an event
  same_has : (found : Option SessionState) (s after : SessionState) → found ≡ Some s → found ≡ Some after → Has s → Has after
  same_has found s after was is_now has = subst Has (some_same s after (sym was ∙ is_now)) has

  abbrev HasBehind : World → Event → ℕ → Type 0
  HasBehind w event number = (after : SessionState) → slice_get (happens w event).now.sessions number ≡ Some after → Has after

  own_has : (w : World) (event : Event) (number : ℕ) (s : SessionState) (own : Bool) → is_of_session number event ≡ own → w.now.crashed ≡ false
      → TellsUpto begin w.now → slice_get w.now.sessions number ≡ Some s → Has s → HasBehind w event number
  own_has w event number s true e alive tells there has after is_now =
      same_has (slice_get (happens w event).now.sessions number) (session_goes (seat_at w.now number) (near w.now s) event).machine after (session_written w event number s e alive there) is_now (goes_has w.now number s event alive tells there has)
  own_has w event number s false e alive tells there has after is_now = same_has (slice_get (happens w event).now.sessions number) s after (session_apart w event number e ∙ there) is_now has

  event_has : (w : World) (event : Event) (number : ℕ) (s : SessionState) (crashed : Bool) → w.now.crashed ≡ crashed → TellsUpto begin w.now
      → slice_get w.now.sessions number ≡ Some s → Has s → HasBehind w event number
  event_has w event number s true e tells there has after is_now = same_has (slice_get (happens w event).now.sessions number) s after (ap (λ (x : World). slice_get x.now.sessions number) (is_over w event e) ∙ there) is_now has
  event_has w event number s false e tells there has after is_now = own_has w event number s (is_of_session number event) refl e tells there has after is_now

  pub floors_stay : (opening : World) (before : List Event) (event : Event) → TellsUpto begin (run opening before).now
      → HaveFloorsUpto begin (run opening before).now → HaveFloorsUpto begin (run opening (event ∷ before)).now
  unfolding run
  floors_stay opening before event tells have session after is_now =
      let w : World = run opening before in
      let its = there_before w event session after is_now in
      event_has w event session its.0 w.now.crashed refl tells its.1 (have session its.0 its.1) after is_now

  -- ---- a life
  opened_has : (n : Now) → OpensUpto begin n → HaveFloorsUpto begin n
  opened_has n opens session s there = let its = opens session s there in record { own = its.1; theirs = opened_known (GoesUpto begin) (TriesUpto begin) s its.0 }

  pub floors_lie : (opening : World) (events : List Event) → OpensUpto begin opening.now → HasToldUpto begin opening events
      → HaveFloorsUpto begin (run opening events).now
  unfolding run
  floors_lie opening [] opens tells = opened_has opening.now opens
  floors_lie opening (event ∷ before) opens tells = floors_stay opening before event tells.0 (floors_lie opening before opens tells.1)

-- ---- where the begin has risen, they lie below it as well
pub floors_rise : (begin later : ℕ) (n : Now) → begin ≤ later → HaveFloorsUpto begin n → HaveFloorsUpto later n
floors_rise begin later n on have session s there =
    let its = have session s there in
    let own = its.own in
    record {
      own = omega (arith, own, on);
      theirs = stays_known (GoesUpto begin) (GoesUpto later) (TriesUpto begin) (TriesUpto later) s (λ pending low. omega (arith, low, on)) (λ attempts low. omega (arith, low, on)) its.theirs;
    }
