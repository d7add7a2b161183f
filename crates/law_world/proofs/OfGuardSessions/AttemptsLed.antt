-- Where one reply leads an attempt, in what the guard's actor is like: only its try is anything to the guard.
use Rattle.std.proofs.Common.{◌≡◌, ℕ, ◌∙◌, refl, sym, ap, subst, Bool, true, false}
use Rattle.std.specs.Prelude.{if◌then◌else◌, ◌==◌, Option, Some, None}
use Rattle.fkv_base.specs.declared.numbers.Addr.{Addr}
use Rattle.fkv_map.specs.Keys.{key_of}
use Rattle.fkv_plane.specs.declared.asks.Ask.{Ask}
use Rattle.fkv_plane.specs.declared.asks.Ask.TheVariants.{Done}
use Rattle.fkv_plane.specs.declared.places.Places.{Places}
use Rattle.fkv_plane.specs.Passing.{is_done}
use Rattle.fkv_ops.specs.declared.answers.DiskRecord.{DiskRecord}
use Rattle.fkv_ops.specs.declared.answers.TryAnswer.{TryAnswer}
use Rattle.fkv_ops.specs.declared.answers.TryAnswer.TheVariants as answer
use Rattle.fkv_ops.specs.declared.header_words.HeaderSaid.{HeaderSaid}
use Rattle.fkv_ops.specs.declared.header_words.HeaderSaid.TheVariants.{Says, Spoiled}
use Rattle.fkv_ops.specs.declared.requests.Occasion.{Occasion}
use Rattle.fkv_ops.specs.declared.requests.Seen.{Seen}
use Rattle.fkv_ops.specs.declared.trying.Trying.{Trying}
use Rattle.fkv_ops.specs.declared.trying.Trying.TheVariants as trying
use Rattle.fkv_ops.specs.HeaderWords.{header_said}
use Rattle.fkv_ops.specs.Requests.{is_chain_end}
use Rattle.fkv_ops.specs.Values.{value_of}
use Rattle.fkv_ops.specs.Trying.{TryState, try_ask, told_value}
use Rattle.fkv_ops.proofs.Shown.{is_try_end, try_done, TryRestsOrAsks}
use Rattle.fkv_pending.specs.declared.attempting.Attempting.{Attempting}
use Rattle.fkv_pending.specs.declared.attempting.Attempting.TheVariants.{Ended, Looks, Tries, Puts}
use Rattle.fkv_pending.specs.declared.mailing.MailAnswer.{MailAnswer}
use Rattle.fkv_pending.specs.declared.mailing.MailAnswer.TheVariants as mail
use Rattle.fkv_pending.specs.declared.mailing.MailRecord.{MailRecord}
use Rattle.fkv_pending.specs.declared.mailing.MailTask.TheVariants.{Take}
use Rattle.fkv_pending.specs.declared.mailing.Mailing.TheVariants.{LoadsState}
use Rattle.fkv_pending.specs.declared.pending_requests.PendingRequest.{PendingRequest}
use Rattle.fkv_pending.specs.Mailing.{mail_ask, mail_next, is_gone, begin_told}
use Rattle.fkv_pending.specs.Pending.{with_sought, with_held, with_latch, with_asked, without_gone}
use Rattle.fkv_pending.specs.Attempting.{AttemptState, attempt_ended, waits_for_disk, puts_addr, puts, tries, is_seeking_read, goes_on, attempt_begun, held_of, moved_on, read_on, record_taken, goes_anew, mail_taken, look_ledto, held_kept, tried, try_ledto, put_ledto, mail_moved, attempting_next, new_attempt}
use Rattle.fkv_flush.specs.GuardSeen.{LastSeen}
use Rattle.fkv_flush.proofs.Shown.{Likeness}
use Rattle.law_world.specs.GuardSessions.Likenesses.{through}
use Rattle.law_world.specs.GuardSessions.Tries.{try_onward, try_likeness_at}
use Rattle.law_world.specs.GuardSessions.Attempts.{attempt_onward, attempt_likeness}
use Rattle.law_world.proofs.OfGuardSessions.Onwards.{Leads, Keeps, stayed}
use Rattle.law_world.proofs.OfGuardSessions.TriesLed.{TryLed, begun_free}

abbrev pub AttemptLed : LastSeen → Likeness → AttemptState → Type 0
AttemptLed seen mid a = Leads true mid (attempt_onward a a.step) (attempt_likeness seen a)

-- where no try is under way, whether the session is protected or not
module _ (protected : Bool) where
  abbrev Free : LastSeen → AttemptState → Type 0
  Free seen a = Leads protected (through seen) (attempt_onward a a.step) (attempt_likeness seen a)

  either_led : (c : Bool) (seen : LastSeen) (a b : AttemptState) → Free seen a → Free seen b → Free seen (if c then a else b)
  either_led true seen a b one other = one
  either_led false seen a b one other = other

  puts_led : (seen : LastSeen) (a : AttemptState) (sought : Option DiskRecord) → Free seen (puts_addr a sought)
  puts_led seen a None = Keeps refl refl
  puts_led seen a (Some sought) = Keeps refl refl

  tries_led : (p : Places) (bits : ℕ) (seen : LastSeen) (a : AttemptState) → Free seen (tries p bits a)
  tries_led p bits seen a = begun_free protected p bits seen a.pending.request a.seen a.occasion a.spare

  goes_led : (p : Places) (bits : ℕ) (seen : LastSeen) (a : AttemptState) → Free seen (goes_on p bits a)
  goes_led p bits seen a = either_led (is_seeking_read a) seen (puts a) (tries p bits a) (puts_led seen a a.pending.sought) (tries_led p bits seen a)

  pub attempt_begun_led : (p : Places) (bits : ℕ) (seen : LastSeen) (pending : PendingRequest) (its_seen : Seen) (occasion : Occasion) (spare : ℕ) (is_orphaned : Bool) → Free seen (attempt_begun p bits pending its_seen occasion spare is_orphaned)
  attempt_begun_led p bits seen pending its_seen occasion spare is_orphaned =
      let first : AttemptState = new_attempt bits pending its_seen occasion spare is_orphaned in
      either_led pending.has_asked seen (record first { mailing = LoadsState Take; step = Looks }) (goes_on p bits first) (Keeps refl refl) (goes_led p bits seen first)

  read_led : (seen : LastSeen) (a : AttemptState) (its : MailRecord) (said : HeaderSaid) → Free seen (read_on a its said)
  read_led seen a its Spoiled = puts_led seen a a.pending.sought
  read_led seen a its (Says previous version) =
      let moved : AttemptState = record a { pending = with_sought a.pending (moved_on a.pending.sought previous) } in
      either_led (its.key.0 == (key_of a.pending.request.op).0) seen (attempt_ended a (told_value (value_of its.value))) _ (Keeps refl refl)
      (either_led (is_chain_end a.pending.request.floor previous) seen (attempt_ended a answer.Absent) (puts moved) (Keeps refl refl) (puts_led seen moved moved.pending.sought))

  record_led : (p : Places) (bits : ℕ) (seen : LastSeen) (a : AttemptState) (its : MailRecord) (said : HeaderSaid) → Free seen (record_taken p bits a its said)
  record_led p bits seen a its said =
      let held : AttemptState = record a { pending = with_held a.pending (held_of a.pending.sought its said) } in
      either_led (is_seeking_read a) seen (read_on a its said) (tries p bits held) (read_led seen a its said) (tries_led p bits seen held)

  -- where the record is gone a read waits, and any other request is tried anew
  anew_led : (p : Places) (bits : ℕ) (seen : LastSeen) (a : AttemptState) (begin : Addr) → Free seen (goes_anew p bits a begin)
  anew_led p bits seen a begin =
      let its : AttemptState = record a { pending = without_gone a.pending begin } in
      either_led (is_seeking_read a) seen (waits_for_disk its) (tries p bits its) (Keeps refl refl) (tries_led p bits seen its)

  mail_led : (p : Places) (bits : ℕ) (seen : LastSeen) (a : AttemptState) (its : MailRecord) → Free seen (mail_taken p bits a its)
  mail_led p bits seen a its =
      either_led (is_gone its) seen (goes_anew p bits a (begin_told its)) (record_taken p bits a its (header_said its.header))
      (anew_led p bits seen a (begin_told its)) (record_led p bits seen a its (header_said its.header))

  look_led : (p : Places) (bits : ℕ) (seen : LastSeen) (a : AttemptState) (ask : Ask MailAnswer) → a.step ≡ Looks → Free seen (look_ledto p bits a ask)
  unfolding look_ledto
  look_led p bits seen a (Done (mail.Taken its)) at = mail_led p bits seen (record a { is_emptied = true; pending = with_asked a.pending false }) its
  look_led p bits seen a (Done other) at = either_led (is_seeking_read a) seen (waits_for_disk a) (tries p bits a) (Keeps refl refl) (tries_led p bits seen a)
  look_led p bits seen a ask at = rw at (Keeps refl refl)

  put_led : (seen : LastSeen) (a : AttemptState) (ask : Ask MailAnswer) → a.step ≡ Puts → Free seen (put_ledto a ask)
  unfolding put_ledto
  put_led seen a (Done mail.Asked) at = Keeps refl refl
  put_led seen a (Done other) at = Keeps refl refl
  put_led seen a ask at = rw at (Keeps refl refl)

  tried_led : (seen : LastSeen) (a : AttemptState) (its : TryAnswer) → Free seen (tried a its)
  tried_led seen a (answer.AwaitsDisk sought) =
      let kept : AttemptState = record a { pending = with_held a.pending (held_kept a.pending.request.held sought.entry) } in
      let moved : AttemptState = record kept { pending = with_sought kept.pending (Some sought) } in
      either_led a.pending.has_asked seen (waits_for_disk kept) (puts moved) (Keeps refl refl) (puts_led seen moved moved.pending.sought)
  tried_led seen a (answer.Wait why) = Keeps refl refl
  tried_led seen a its = Keeps refl refl

-- at its end a try is through
try_through : (seen : LastSeen) (mid : Likeness) (t : TryState) (step : Trying) → is_try_end step ≡ true → Leads true mid (try_onward t step) (try_likeness_at seen t step) → mid ≡ through seen
try_through seen mid t (trying.Ended its) ended led = stayed true mid (through seen) led
try_through seen mid t step ended led = cc

pub try_ends : (p : Places) (seen : LastSeen) (mid : Likeness) (a : AttemptState) (ask : Ask TryAnswer) → a.step ≡ Tries → try_ask p a.trial ≡ ask → TryRestsOrAsks a.trial → TryLed seen mid a.trial → AttemptLed seen mid (try_ledto a ask)
unfolding try_ledto
try_ends p seen mid a (Done its) at asks rests led =
    let ended = try_through seen mid a.trial a.trial.step (sym (try_done p a.trial rests) ∙ ap is_done asks) led in
    let next : AttemptState = record a { spare = a.trial.spare; pending = with_latch a.pending a.trial.has_shared } in
    subst (λ m. AttemptLed seen m (tried next its)) (sym ended) (tried_led true seen next its)
try_ends p seen mid a ask at asks rests led = rw at led

-- a step of an attempt that tries nothing
abbrev pub is_trying : Attempting → Bool
is_trying Tries = true
is_trying step = false

pub attempt_free : (p : Places) (bits room session : ℕ) (seen : LastSeen) (a : AttemptState) (step : Attempting) (reply : ℕ) → a.step ≡ step → is_trying step ≡ false → AttemptLed seen (through seen) (attempting_next p bits room session a step reply)
unfolding attempting_next
attempt_free p bits room session seen a (Ended its) reply at other = rw at (Keeps refl refl)
attempt_free p bits room session seen a Looks reply at other = look_led true p bits seen (mail_moved a reply) (mail_ask session (mail_next a.mailing reply)) at
attempt_free p bits room session seen a Tries reply at other = cc
attempt_free p bits room session seen a Puts reply at other = put_led true seen (mail_moved a reply) (mail_ask session (mail_next a.mailing reply)) at
