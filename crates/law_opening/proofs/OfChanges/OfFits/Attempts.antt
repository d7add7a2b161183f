-- Each reply leads an attempt on to a state in which what it has loaded fits, and what it seeks on the device is there.
use Rattle.std.proofs.Common.{◌≡◌, ℕ, ◌≤◌, refl, arith, Bool, true, false, Option, Some, None}
use Rattle.std.proofs.lemmas.Bool.Decides.{nat_tests}
use Rattle.std.specs.Prelude.{⊤, ◌==◌, if◌then◌else◌}
use Rattle.fkv_base.specs.declared.numbers.Addr.{Addr}
use Rattle.fkv_map.specs.Keys.{key_of}
use Rattle.law_refine.specs.Below.fkv_ops.HeaderWords.{header_said}
use Rattle.law_refine.specs.Below.fkv_ops.Requests.{is_chain_end}
use Rattle.law_refine.specs.Below.fkv_ops.Resting.{no_request, nothing_seen}
use Rattle.law_refine.specs.Below.fkv_ops.Trying.{told_value, try_ask, try_next, try_rested}
use Rattle.law_refine.specs.Below.fkv_ops.Values.{value_of}
use Rattle.law_refine.specs.Below.fkv_ops.DiskRecord.{DiskRecord}
use Rattle.law_refine.specs.Below.fkv_ops.TryAnswer.{TryAnswer}
use Rattle.law_refine.specs.Below.fkv_ops.TryAnswer.TheVariants as answer
use Rattle.law_refine.specs.Below.fkv_ops.HeaderSaid.{HeaderSaid}
use Rattle.law_refine.specs.Below.fkv_ops.HeaderSaid.TheVariants.{Says, Spoiled}
use Rattle.law_refine.specs.Below.fkv_ops.HeldRecord.{HeldRecord}
use Rattle.law_refine.specs.Below.fkv_ops.Occasion.{Occasion}
use Rattle.law_refine.specs.Below.fkv_ops.Occasion.TheVariants.{Call}
use Rattle.law_refine.specs.Below.fkv_ops.Seen.{Seen}
use Rattle.law_refine.specs.Below.fkv_pending.Attempting.{AttemptState, attempt_begun, attempt_ended, attempt_next, attempting_next, awaits_record, goes_anew, goes_on, held_kept, held_of, is_seeking_read, look_ledto, mail_taken, moved_on, new_attempt, not_ready, put_ledto, puts, puts_addr, read_on, record_taken, tried, tries, try_ledto, waits_for_disk}
use Rattle.law_refine.specs.Below.fkv_pending.Mailing.{begin_told, is_gone, mail_ask, mail_empty, mail_next, mail_ready, state_found}
use Rattle.law_refine.specs.Below.fkv_pending.Pending.{with_asked, with_held, with_latch, with_sought, without_gone}
use Rattle.law_refine.specs.Below.fkv_pending.TheAttempting.{Attempting}
use Rattle.law_refine.specs.Below.fkv_pending.TheAttempting.TheVariants.{Ended, Looks, Tries, Puts}
use Rattle.law_refine.specs.Below.fkv_pending.MailAnswer.{MailAnswer}
use Rattle.law_refine.specs.Below.fkv_pending.MailAnswer.TheVariants as mail
use Rattle.law_refine.specs.Below.fkv_pending.MailRecord.{MailRecord}
use Rattle.law_refine.specs.Below.fkv_pending.MailTask.{MailTask}
use Rattle.law_refine.specs.Below.fkv_pending.MailTask.TheVariants.{Clear, Put, Take}
use Rattle.law_refine.specs.Below.fkv_pending.TheMailing.{Mailing}
use Rattle.law_refine.specs.Below.fkv_pending.TheMailing.TheVariants as mailing
use Rattle.law_refine.specs.Below.fkv_pending.PendingRequest.{PendingRequest}
use Rattle.fkv_plane.specs.declared.asks.Ask.{Ask}
use Rattle.fkv_plane.specs.declared.asks.Ask.TheVariants.{Done}
use Rattle.fkv_plane.specs.declared.places.Places.{Places}
use Rattle.law_opening.proofs.OfChanges.AttemptRows.{AttemptTold}
use Rattle.law_opening.proofs.OfChanges.OfFits.Rows.{AnswerOk, AttemptOk, HeldOk, IsThere, MailingOk, PendingOk, RecordOk, SoughtOk, TryOk, led_on}
use Rattle.law_opening.proofs.OfChanges.OfFits.Tries.{TryValueTold, new_ok, try_answers, try_begins, try_ok}
use Rattle.law_opening.proofs.OfChanges.Rows.{AttemptSo}
use Rattle.law_log.specs.Ghosts.{Log}

-- a record that is taken from the mailbox fits, and leads to one that is there; or it is gone
abbrev pub TakenTold : ℕ → Log → ℕ → Ask MailAnswer → Type 0
TakenTold begin log flushed (Done (mail.Taken its)) = RecordOk begin log flushed its (header_said its.header)
TakenTold begin log flushed ask = ⊤

abbrev pub AttemptValueTold : ℕ → Log → ℕ → ℕ → AttemptState → Attempting → ℕ → Type 0
AttemptValueTold begin log flushed session a Tries reply = TryValueTold log flushed a.trial a.trial.step reply
AttemptValueTold begin log flushed session a Looks reply = TakenTold begin log flushed (mail_ask session (mail_next a.mailing reply))
AttemptValueTold begin log flushed session a step reply = ⊤

module _ (begin : ℕ) (log : Log) (flushed : ℕ) (p : Places) (bits : ℕ) where
  abbrev Ok : AttemptState → Type 0
  Ok a = AttemptOk begin log flushed a

  abbrev Pending : PendingRequest → Type 0
  Pending pending = PendingOk begin log flushed pending

  abbrev Mails : Mailing → Type 0
  Mails step = MailingOk log flushed step

  abbrev Tried : AttemptState → Type 0
  Tried a = TryOk begin log flushed a.trial

  -- ---- the mailbox
  found_ok : (task : MailTask) (found : ℕ) → Mails (mailing.LoadsState task) → Mails (state_found task found)
  found_ok Clear found ok = by_test (found == mail_ready)
    where
      by_test : (b : Bool) → Mails (if b then mailing.StoresEmpty mail.Cleared else mailing.Ended mail.NotReady)
      by_test true = tt
      by_test false = tt
  found_ok Take found ok = by_test (found == mail_ready)
    where
      by_test : (b : Bool) → Mails (if b then mailing.LoadsHeader else mailing.Ended mail.NotReady)
      by_test true = tt
      by_test false = tt
  found_ok (Put addr) found ok = by_test (found == mail_empty)
    where
      by_test : (b : Bool) → Mails (if b then mailing.StoresAddress addr else mailing.Ended mail.Occupied)
      by_test true = ok
      by_test false = tt

  mail_ok : (step : Mailing) (reply : ℕ) → Mails step → Mails (mail_next step reply)
  unfolding mail_next
  mail_ok (mailing.Ended its) reply ok = tt
  mail_ok (mailing.LoadsState task) reply ok = found_ok task reply ok
  mail_ok mailing.LoadsHeader reply ok = tt
  mail_ok (mailing.LoadsKey header) reply ok = tt
  mail_ok (mailing.LoadsValue header key) reply ok = tt
  mail_ok (mailing.StoresEmpty its) reply ok = tt
  mail_ok (mailing.StoresAddress addr) reply ok = tt
  mail_ok mailing.StoresAsked reply ok = tt

  -- ---- a request
  sought_ok : (pending : PendingRequest) (sought : Option DiskRecord) → Pending pending → SoughtOk log flushed sought → Pending (with_sought pending sought)
  unfolding with_sought
  sought_ok pending sought ok its = (ok.0, (its, ok.1.1))

  hold_ok : (pending : PendingRequest) (held : Option HeldRecord) → Pending pending → HeldOk begin log flushed pending.request.floor held → Pending (with_held pending held)
  unfolding with_held
  hold_ok pending held ok its = (its, ok.1)

  pub latch_ok : (pending : PendingRequest) (has_latch : Bool) → Pending pending → Pending (with_latch pending has_latch)
  unfolding with_latch
  latch_ok pending has_latch ok = ok

  asked_ok : (pending : PendingRequest) (has_asked : Bool) → Pending pending → Pending (with_asked pending has_asked)
  unfolding with_asked
  asked_ok pending has_asked ok = ok

  kept_ok : (floor : Addr) (held : Option HeldRecord) (entry : ℕ) → HeldOk begin log flushed floor held → HeldOk begin log flushed floor (held_kept held entry)
  kept_ok floor None entry ok = tt
  kept_ok floor (Some held) entry ok = by_test (held.entry == entry)
    where
      by_test : (b : Bool) → HeldOk begin log flushed floor (if b then Some held else None)
      by_test true = ok
      by_test false = tt

  held_of_ok : (floor : Addr) (sought : Option DiskRecord) (its : MailRecord) (said : HeaderSaid) → begin ≤ floor.0 → RecordOk begin log flushed its said → HeldOk begin log flushed floor (held_of sought its said)
  held_of_ok floor None its said above ok = tt
  held_of_ok floor (Some sought) its Spoiled above ok = tt
  held_of_ok floor (Some sought) its (Says previous version) above ok = (ok.0, (ok.1.0, above))

  gone_ok : (pending : PendingRequest) (floor : Addr) → begin ≤ floor.0 → Pending (without_gone pending floor)
  unfolding without_gone
  gone_ok pending floor above = (tt, (tt, above))

  -- ---- it tries anew
  tries_ok : (a : AttemptState) → Pending a.pending → Mails a.mailing → Ok (tries p bits a)
  tries_ok a pending mails = (pending, (mails, try_begins begin log flushed p bits a.pending.request a.seen a.occasion a.spare pending.0))

  puts_addr_ok : (a : AttemptState) (sought : Option DiskRecord) → Ok a → SoughtOk log flushed sought → Ok (puts_addr a sought)
  puts_addr_ok a None ok its = ok
  puts_addr_ok a (Some it) ok its = (ok.0, (by_test a.is_emptied, ok.1.1))
    where
      by_test : (b : Bool) → Mails (if b then mailing.StoresAddress it.addr else mailing.LoadsState (Put it.addr))
      by_test true = its
      by_test false = its

  puts_ok : (a : AttemptState) → Ok a → Ok (puts a)
  puts_ok a ok = puts_addr_ok a a.pending.sought ok ok.0.1.0

  goes_on_ok : (a : AttemptState) → Ok a → Ok (goes_on p bits a)
  goes_on_ok a ok = by_test (is_seeking_read a)
    where
      by_test : (b : Bool) → Ok (if b then puts a else tries p bits a)
      by_test true = puts_ok a ok
      by_test false = tries_ok a ok.0 ok.1.0

  new_attempt_ok : (pending : PendingRequest) (seen : Seen) (occasion : Occasion) (spare : ℕ) (is_orphaned : Bool) → Pending pending → Ok (new_attempt bits pending seen occasion spare is_orphaned)
  unfolding try_rested
  new_attempt_ok pending seen occasion spare is_orphaned ok = (ok, (tt, new_ok begin log flushed p bits no_request nothing_seen (Call None) 0 tt))

  pub attempt_begins : (pending : PendingRequest) (seen : Seen) (occasion : Occasion) (spare : ℕ) (is_orphaned : Bool) → Pending pending → Ok (attempt_begun p bits pending seen occasion spare is_orphaned)
  attempt_begins pending seen occasion spare is_orphaned ok = by_test (new_attempt bits pending seen occasion spare is_orphaned) (new_attempt_ok pending seen occasion spare is_orphaned ok) pending.has_asked
    where
      by_test : (a : AttemptState) → Ok a → (b : Bool) → Ok (if b then record a { mailing = mailing.LoadsState Take; step = Looks } else goes_on p bits a)
      by_test a its true = (its.0, (tt, its.1.1))
      by_test a its false = goes_on_ok a its

  -- ---- behind a look into the mailbox
  moved_ok : (sought : Option DiskRecord) (previous : Addr) → IsThere log flushed previous.0 → SoughtOk log flushed (moved_on sought previous)
  moved_ok None previous there = tt
  moved_ok (Some it) previous there = there

  read_on_ok : (a : AttemptState) (its : MailRecord) (said : HeaderSaid) → Ok a → RecordOk begin log flushed its said → Ok (read_on a its said)
  read_on_ok a its Spoiled ok record_is = puts_ok a ok
  read_on_ok a its (Says previous version) ok record_is = by_key (its.key.0 == (key_of a.pending.request.op).0)
    where
      by_end : (b : Bool) → is_chain_end a.pending.request.floor previous ≡ b → Ok (if b then attempt_ended a answer.Absent else puts (record a { pending = with_sought a.pending (moved_on a.pending.sought previous) }))
      by_end true e = ok
      by_end false e =
          puts_ok (record a { pending = with_sought a.pending (moved_on a.pending.sought previous) })
          (sought_ok a.pending (moved_on a.pending.sought previous) ok.0 (moved_ok a.pending.sought previous (led_on begin log flushed a.pending.request.floor previous ok.0.1.1 e record_is.1.0)), ok.1)

      by_key : (b : Bool)
          → Ok (if b then attempt_ended a (told_value (value_of its.value)) else if is_chain_end a.pending.request.floor previous then attempt_ended a answer.Absent else puts (record a { pending = with_sought a.pending (moved_on a.pending.sought previous) }))
      by_key true = ok
      by_key false = by_end (is_chain_end a.pending.request.floor previous) refl

  taken_ok : (a : AttemptState) (its : MailRecord) (said : HeaderSaid) → Ok a → RecordOk begin log flushed its said → Ok (record_taken p bits a its said)
  taken_ok a its said ok record_is = by_test (is_seeking_read a)
    where
      by_test : (b : Bool) → Ok (if b then read_on a its said else tries p bits (record a { pending = with_held a.pending (held_of a.pending.sought its said) }))
      by_test true = read_on_ok a its said ok record_is
      by_test false =
          tries_ok (record a { pending = with_held a.pending (held_of a.pending.sought its said) })
          (hold_ok a.pending (held_of a.pending.sought its said) ok.0 (held_of_ok a.pending.request.floor a.pending.sought its said ok.0.1.1 record_is)) ok.1.0

  -- where the record is gone the request goes by the begin that it is told
  anew_ok : (a : AttemptState) (floor : Addr) → Ok a → begin ≤ floor.0 → Ok (goes_anew p bits a floor)
  anew_ok a floor ok above = by_test (is_seeking_read a)
    where
      by_test : (b : Bool) → Ok (if b then waits_for_disk (record a { pending = without_gone a.pending floor }) else tries p bits (record a { pending = without_gone a.pending floor }))
      by_test true = (gone_ok a.pending floor above, ok.1)
      by_test false = tries_ok (record a { pending = without_gone a.pending floor }) (gone_ok a.pending floor above) ok.1.0

  mail_taken_ok : (a : AttemptState) (its : MailRecord) → Ok a → RecordOk begin log flushed its (header_said its.header) → Ok (mail_taken p bits a its)
  mail_taken_ok a its ok record_is = by_test (is_gone its) refl
    where
      by_test : (b : Bool) → is_gone its ≡ b → Ok (if b then goes_anew p bits a (begin_told its) else record_taken p bits a its (header_said its.header))
      by_test true e = anew_ok a (begin_told its) ok (record_is.1.1 (grind (arith, nat_tests, e)))
      by_test false e = taken_ok a its (header_said its.header) ok record_is

  not_ready_ok : (a : AttemptState) → Ok a → Ok (not_ready p bits a)
  not_ready_ok a ok = by_test (is_seeking_read a)
    where
      by_test : (b : Bool) → Ok (if b then waits_for_disk a else tries p bits a)
      by_test true = ok
      by_test false = tries_ok a ok.0 ok.1.0

  look_ok : (a : AttemptState) (ask : Ask MailAnswer) → Ok a → TakenTold begin log flushed ask → Ok (look_ledto p bits a ask)
  unfolding look_ledto
  look_ok a (Done (mail.Taken its)) ok told =
      mail_taken_ok (record a { is_emptied = true; pending = with_asked a.pending false }) its (asked_ok a.pending false ok.0, ok.1) told
  look_ok a (Done other) ok told = not_ready_ok a ok
  look_ok a ask ok told = ok

  -- ---- behind a try
  awaits_ok : (a : AttemptState) (it : DiskRecord) → Ok a → IsThere log flushed it.addr.0 → Ok (awaits_record a it)
  awaits_ok a it ok there = by_test a.pending.has_asked
    where
      held : HeldOk begin log flushed a.pending.request.floor (held_kept a.pending.request.held it.entry)
      held = kept_ok a.pending.request.floor a.pending.request.held it.entry ok.0.0

      pending : Pending (with_held a.pending (held_kept a.pending.request.held it.entry))
      pending = hold_ok a.pending (held_kept a.pending.request.held it.entry) ok.0 held

      by_test : (b : Bool)
          → Ok (if b then waits_for_disk (record a { pending = with_held a.pending (held_kept a.pending.request.held it.entry) }) else puts (record a { pending = with_sought (with_held a.pending (held_kept a.pending.request.held it.entry)) (Some it) }))
      by_test true = (pending, ok.1)
      by_test false =
          puts_ok (record a { pending = with_sought (with_held a.pending (held_kept a.pending.request.held it.entry)) (Some it) })
          (sought_ok (with_held a.pending (held_kept a.pending.request.held it.entry)) (Some it) pending there, ok.1)

  tried_ok : (a : AttemptState) (its : TryAnswer) → Ok a → AnswerOk log flushed its → Ok (tried a its)
  tried_ok a (answer.AwaitsDisk it) ok there = awaits_ok a it ok there
  tried_ok a (answer.Wait its) ok there = ok
  tried_ok a (answer.Done its) ok there = ok
  tried_ok a (answer.Found its) ok there = ok
  tried_ok a answer.Absent ok there = ok
  tried_ok a answer.Shift ok there = ok
  tried_ok a answer.IndexFull ok there = ok
  tried_ok a answer.LogFull ok there = ok

  -- the answer of a try is one that it has come to
  try_led_ok : (a : AttemptState) (ask : Ask TryAnswer) → Ok a → try_ask p a.trial ≡ ask → Ok (try_ledto a ask)
  unfolding try_ledto
  try_led_ok a (Done its) ok e = tried_ok (record a { spare = a.trial.spare; pending = with_latch a.pending a.trial.has_shared }) its (latch_ok a.pending a.trial.has_shared ok.0, ok.1) (try_answers begin log flushed p a.trial its ok.1.1 e)
  try_led_ok a ask ok e = ok

  -- ---- behind an ask of the mailbox
  put_ok : (a : AttemptState) (ask : Ask MailAnswer) → Ok a → Ok (put_ledto a ask)
  unfolding put_ledto
  put_ok a (Done mail.Asked) ok = (asked_ok a.pending true ok.0, ok.1)
  put_ok a (Done other) ok = ok
  put_ok a ask ok = ok

  -- ---- by the control state
  row_ok : (room session : ℕ) (a : AttemptState) (step : Attempting) (reply : ℕ) → a.step ≡ step → AttemptSo log a.trial step → AttemptTold log p a step reply → Ok a → AttemptValueTold begin log flushed session a step reply
      → Ok (attempting_next p bits room session (record a { effect = None }) step reply)
  unfolding attempting_next
  row_ok room session a (Ended its) reply at known told ok value = ok
  row_ok room session a Looks reply at known told ok value =
      look_ok (record a { effect = None; mailing = mail_next a.mailing reply }) (mail_ask session (mail_next a.mailing reply)) (ok.0, (mail_ok a.mailing reply ok.1.0, ok.1.1)) value
  row_ok room session a Tries reply at known told ok value =
      try_led_ok (record a { effect = (try_next p room a.trial reply).effect; trial = try_next p room a.trial reply }) (try_ask p (try_next p room a.trial reply))
      (ok.0, (ok.1.0, try_ok begin log flushed p room a.trial reply known told ok.1.1 value)) refl
  row_ok room session a Puts reply at known told ok value =
      put_ok (record a { effect = None; mailing = mail_next a.mailing reply }) (mail_ask session (mail_next a.mailing reply)) (ok.0, (mail_ok a.mailing reply ok.1.0, ok.1.1))

  pub attempt_ok : (room session : ℕ) (a : AttemptState) (reply : ℕ) → AttemptSo log a.trial a.step → AttemptTold log p a a.step reply → Ok a → AttemptValueTold begin log flushed session a a.step reply → Ok (attempt_next p bits room session a reply)
  attempt_ok room session a reply known told ok value = row_ok room session a a.step reply refl known told ok value
