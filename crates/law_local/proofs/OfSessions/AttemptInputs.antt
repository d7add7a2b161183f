-- An attempt goes by what the session has seen as it began, and so does its try.
use Rattle.std.proofs.Common.{◌≡◌, ℕ, refl, sym, subst, Bool, true, false}
use Rattle.std.specs.Prelude.{◌==◌, if◌then◌else◌, Option, Some, None}
use Rattle.fkv_map.specs.Keys.{key_of}
use Rattle.fkv_plane.specs.declared.asks.Ask.{Ask}
use Rattle.fkv_plane.specs.declared.asks.Ask.TheVariants.{Done}
use Rattle.fkv_plane.specs.declared.places.Places.{Places}
use Rattle.fkv_base.specs.declared.numbers.Addr.{Addr}
use Rattle.fkv_ops.specs.declared.answers.DiskRecord.{DiskRecord}
use Rattle.fkv_ops.specs.declared.answers.TryAnswer.{TryAnswer}
use Rattle.fkv_ops.specs.declared.answers.TryAnswer.TheVariants as answer
use Rattle.fkv_ops.specs.declared.header_words.HeaderSaid.{HeaderSaid}
use Rattle.fkv_ops.specs.declared.header_words.HeaderSaid.TheVariants.{Says, Spoiled}
use Rattle.fkv_ops.specs.declared.requests.Occasion.{Occasion}
use Rattle.fkv_ops.specs.declared.requests.Seen.{Seen}
use Rattle.fkv_ops.specs.HeaderWords.{header_said}
use Rattle.fkv_ops.specs.Values.{value_of}
use Rattle.fkv_ops.specs.Trying.{told_value, try_ask}
use Rattle.fkv_ops.specs.Requests.{is_chain_end}
use Rattle.fkv_pending.specs.declared.attempting.Attempting.{Attempting}
use Rattle.fkv_pending.specs.declared.attempting.Attempting.TheVariants.{Ended, Looks, Tries, Puts}
use Rattle.fkv_pending.specs.declared.mailing.MailAnswer.{MailAnswer}
use Rattle.fkv_pending.specs.declared.mailing.MailAnswer.TheVariants as mail
use Rattle.fkv_pending.specs.declared.mailing.MailRecord.{MailRecord}
use Rattle.fkv_pending.specs.declared.mailing.MailTask.TheVariants.{Take, Put}
use Rattle.fkv_pending.specs.declared.mailing.Mailing.TheVariants.{LoadsState, StoresAddress}
use Rattle.fkv_pending.specs.declared.pending_requests.PendingRequest.{PendingRequest}
use Rattle.fkv_pending.specs.Mailing.{mail_ask, mail_next, is_gone, begin_told}
use Rattle.fkv_pending.specs.Pending.{with_sought, with_held, with_latch, with_asked, without_gone}
use Rattle.fkv_pending.specs.Attempting.{AttemptState, attempt_begun, attempt_ended, waits_for_disk, puts_addr, puts, tries, is_seeking_read, goes_on, held_of, moved_on, read_on, record_taken, goes_anew, mail_taken, not_ready, look_ledto, held_kept, awaits_record, leaves, tried, try_ledto, put_ledto, mail_moved, try_moved, attempting_next, attempt_next, new_attempt}
use Rattle.law_local.specs.Sessions.Inputs.{IsTryFor, TriesFor, GoesBy}
use Rattle.law_local.proofs.OfSessions.TryInputs.{try_so, begun_so}

module _ (bits : ℕ) (seen : Seen) (occasion : Occasion) where
  -- what it was given
  abbrev IsGiven : AttemptState → Type 0
  IsGiven a = (a.seen ≡ seen) × (a.occasion ≡ occasion)

  abbrev Goes : AttemptState → Type 0
  Goes a = GoesBy bits seen occasion a

  abbrev Tried : AttemptState → Type 0
  Tried a = IsTryFor bits a.pending.request a.seen a.occasion a.trial

  made : (a : AttemptState) (step : Attempting) → a.step ≡ step → IsGiven a → TriesFor bits a step → Goes a
  made a step at given its = record { its_seen = given.0; its_occasion = given.1; its_try = subst (λ (x : Attempting). TriesFor bits a x) (sym at) its }

  either_goes : (c : Bool) (a b : AttemptState) → Goes a → Goes b → Goes (if c then a else b)
  either_goes true a b one other = one
  either_goes false a b one other = other

  ended_goes : (a : AttemptState) (its : TryAnswer) → IsGiven a → Goes (attempt_ended a its)
  ended_goes a its given = made (attempt_ended a its) (Ended its) refl given tt

  puts_found : (a : AttemptState) (sought : Option DiskRecord) → IsGiven a → Goes (puts_addr a sought)
  puts_found a None given = made (waits_for_disk a) _ refl given tt
  puts_found a (Some sought) given = made (record a { mailing = if a.is_emptied then StoresAddress sought.addr else LoadsState (Put sought.addr); step = Puts }) Puts refl given tt

  puts_goes : (a : AttemptState) → IsGiven a → Goes (puts a)
  puts_goes a given = puts_found a a.pending.sought given

  tries_goes : (p : Places) (a : AttemptState) → IsGiven a → Goes (tries p bits a)
  tries_goes p a given = made (tries p bits a) Tries refl given (begun_so bits a.pending.request a.seen a.occasion p a.spare)

  -- the look
  read_goes : (a : AttemptState) (its : MailRecord) (said : HeaderSaid) → IsGiven a → Goes (read_on a its said)
  read_goes a its Spoiled given = puts_goes a given
  read_goes a its (Says previous version) given =
      let on : AttemptState = record a { pending = with_sought a.pending (moved_on a.pending.sought previous) } in
      let below : AttemptState = if is_chain_end a.pending.request.floor previous then attempt_ended a answer.Absent else puts on in
      either_goes (its.key.0 == (key_of a.pending.request.op).0) (attempt_ended a (told_value (value_of its.value))) below (ended_goes a (told_value (value_of its.value)) given)
      (either_goes (is_chain_end a.pending.request.floor previous) (attempt_ended a answer.Absent) (puts on) (ended_goes a answer.Absent given) (puts_goes on given))

  taken_goes : (p : Places) (a : AttemptState) (its : MailRecord) (said : HeaderSaid) → IsGiven a → Goes (record_taken p bits a its said)
  taken_goes p a its said given =
      let holds : AttemptState = record a { pending = with_held a.pending (held_of a.pending.sought its said) } in
      either_goes (is_seeking_read a) (read_on a its said) (tries p bits holds) (read_goes a its said given) (tries_goes p holds given)

  anew_goes : (p : Places) (a : AttemptState) (begin : Addr) → IsGiven a → Goes (goes_anew p bits a begin)
  anew_goes p a begin given =
      let its : AttemptState = record a { pending = without_gone a.pending begin } in
      either_goes (is_seeking_read a) (waits_for_disk its) (tries p bits its) (ended_goes its _ given) (tries_goes p its given)

  mail_goes : (p : Places) (a : AttemptState) (its : MailRecord) → IsGiven a → Goes (mail_taken p bits a its)
  mail_goes p a its given = either_goes (is_gone its) (goes_anew p bits a (begin_told its)) (record_taken p bits a its (header_said its.header)) (anew_goes p a (begin_told its) given) (taken_goes p a its (header_said its.header) given)

  waits_goes : (p : Places) (a : AttemptState) → IsGiven a → Goes (not_ready p bits a)
  waits_goes p a given = either_goes (is_seeking_read a) (waits_for_disk a) (tries p bits a) (ended_goes a _ given) (tries_goes p a given)

  look_goes : (p : Places) (a : AttemptState) (ask : Ask MailAnswer) → a.step ≡ Looks → IsGiven a → Goes (look_ledto p bits a ask)
  unfolding look_ledto
  look_goes p a (Done (mail.Taken its)) at given = mail_goes p (record a { is_emptied = true; pending = with_asked a.pending false }) its given
  look_goes p a (Done other) at given = waits_goes p a given
  look_goes p a ask at given = made a Looks at given tt

  -- the try
  awaits_goes : (a : AttemptState) (sought : DiskRecord) → IsGiven a → Goes (awaits_record a sought)
  awaits_goes a sought given = either_goes a.pending.has_asked (waits_for_disk its) (puts next) (ended_goes its _ given) (puts_goes next given)
    where
      its : AttemptState
      its = record a { pending = with_held a.pending (held_kept a.pending.request.held sought.entry) }

      next : AttemptState
      next = record its { pending = with_sought its.pending (Some sought) }

  leaves_goes : (a : AttemptState) (its : TryAnswer) → IsGiven a → Goes (leaves a its)
  leaves_goes a its given = made (leaves a its) (Ended its) refl given tt

  tried_goes : (a : AttemptState) (its : TryAnswer) → IsGiven a → Goes (tried a its)
  tried_goes a (answer.AwaitsDisk sought) given = awaits_goes a sought given
  tried_goes a (answer.Wait why) given = ended_goes a _ given
  tried_goes a answer.Shift given = ended_goes a _ given
  tried_goes a its given = leaves_goes a _ given

  led_goes : (a : AttemptState) (ask : Ask TryAnswer) → a.step ≡ Tries → IsGiven a → Tried a → Goes (try_ledto a ask)
  unfolding try_ledto
  led_goes a (Done its) at given so = tried_goes (record a { spare = a.trial.spare; pending = with_latch a.pending a.trial.has_shared }) its given
  led_goes a ask at given so = made a Tries at given so

  put_goes : (a : AttemptState) (ask : Ask MailAnswer) → a.step ≡ Puts → IsGiven a → Goes (put_ledto a ask)
  unfolding put_ledto
  put_goes a (Done mail.Asked) at given = ended_goes (record a { pending = with_asked a.pending true }) _ given
  put_goes a (Done other) at given = ended_goes a _ given
  put_goes a ask at given = made a Puts at given tt

  step_goes : (p : Places) (room session : ℕ) (a : AttemptState) (step : Attempting) (reply : ℕ) → a.step ≡ step → IsGiven a → TriesFor bits a step → Goes (attempting_next p bits room session (record a { effect = None }) step reply)
  unfolding attempting_next
  step_goes p room session a (Ended its) reply at given so = made (record a { effect = None }) (Ended its) at given tt
  step_goes p room session a Looks reply at given so = look_goes p (mail_moved (record a { effect = None }) reply) (mail_ask session (mail_next a.mailing reply)) at given
  step_goes p room session a Tries reply at given so =
      let moved : AttemptState = try_moved p room (record a { effect = None }) reply in
      led_goes moved (try_ask p moved.trial) at given (try_so bits a.pending.request a.seen a.occasion p room a.trial reply so)
  step_goes p room session a Puts reply at given so = put_goes (mail_moved (record a { effect = None }) reply) (mail_ask session (mail_next a.mailing reply)) at given

  -- each reply to it
  pub attempt_goes : (p : Places) (room session : ℕ) (a : AttemptState) (reply : ℕ) → GoesBy bits seen occasion a → GoesBy bits seen occasion (attempt_next p bits room session a reply)
  attempt_goes p room session a reply its = step_goes p room session a a.step reply refl (its.its_seen, its.its_occasion) its.its_try

  -- and how it begins
  pub begun_goes : (p : Places) (pending : PendingRequest) (spare : ℕ) (is_orphaned : Bool) → GoesBy bits seen occasion (attempt_begun p bits pending seen occasion spare is_orphaned)
  begun_goes p pending spare is_orphaned =
      let its : AttemptState = new_attempt bits pending seen occasion spare is_orphaned in
      let looks : AttemptState = record its { mailing = LoadsState Take; step = Looks } in
      either_goes pending.has_asked looks (goes_on p bits its) (made looks Looks refl (refl, refl) tt)
      (either_goes (is_seeking_read its) (puts its) (tries p bits its) (puts_goes its (refl, refl)) (tries_goes p its (refl, refl)))

-- ---- the request with which it begins
either_pending : (c : Bool) (a b : AttemptState) (pending : PendingRequest) → a.pending ≡ pending → b.pending ≡ pending → (if c then a else b).pending ≡ pending
either_pending true a b pending one other = one
either_pending false a b pending one other = other

puts_pending : (a : AttemptState) (sought : Option DiskRecord) → (puts_addr a sought).pending ≡ a.pending
puts_pending a None = refl
puts_pending a (Some sought) = refl

pub begun_pending : (p : Places) (bits : ℕ) (pending : PendingRequest) (seen : Seen) (occasion : Occasion) (spare : ℕ) (is_orphaned : Bool) → (attempt_begun p bits pending seen occasion spare is_orphaned).pending ≡ pending
begun_pending p bits pending seen occasion spare is_orphaned =
    let its : AttemptState = new_attempt bits pending seen occasion spare is_orphaned in
    either_pending pending.has_asked (record its { mailing = LoadsState Take; step = Looks }) (goes_on p bits its) pending refl
    (either_pending (is_seeking_read its) (puts its) (tries p bits its) pending (puts_pending its pending.sought) refl)
