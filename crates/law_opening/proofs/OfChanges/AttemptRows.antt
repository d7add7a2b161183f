-- Each reply leads an attempt on to a state in which it goes by what is published.
use Rattle.std.proofs.Common.{◌≡◌, ℕ, refl, sym, subst, Bool, true, false, Option, Some, None}
use Rattle.std.specs.Prelude.{⊤, ◌==◌, if◌then◌else◌}
use Rattle.fkv_base.specs.declared.numbers.Addr.{Addr}
use Rattle.fkv_map.specs.Keys.{key_of}
use Rattle.law_refine.specs.Below.fkv_ops.HeaderWords.{header_said}
use Rattle.law_refine.specs.Below.fkv_ops.Requests.{is_chain_end}
use Rattle.law_refine.specs.Below.fkv_ops.Trying.{told_value, try_ask, try_next}
use Rattle.law_refine.specs.Below.fkv_ops.Values.{value_of}
use Rattle.law_refine.specs.Below.fkv_ops.DiskRecord.{DiskRecord}
use Rattle.law_refine.specs.Below.fkv_ops.TryAnswer.{TryAnswer}
use Rattle.law_refine.specs.Below.fkv_ops.TryAnswer.TheVariants as answer
use Rattle.law_refine.specs.Below.fkv_ops.HeaderSaid.{HeaderSaid}
use Rattle.law_refine.specs.Below.fkv_ops.HeaderSaid.TheVariants.{Says, Spoiled}
use Rattle.law_refine.specs.Below.fkv_ops.Occasion.{Occasion}
use Rattle.law_refine.specs.Below.fkv_ops.Seen.{Seen}
use Rattle.law_refine.specs.Below.fkv_pending.Attempting.{AttemptState, attempt_begun, attempt_ended, attempt_next, attempting_next, awaits_record, goes_anew, goes_on, held_kept, held_of, is_seeking_read, look_ledto, mail_taken, moved_on, new_attempt, not_ready, put_ledto, puts, puts_addr, read_on, record_taken, tried, tries, try_ledto, waits_for_disk}
use Rattle.law_refine.specs.Below.fkv_pending.Mailing.{begin_told, is_gone, mail_ask, mail_next}
use Rattle.law_refine.specs.Below.fkv_pending.Pending.{with_asked, with_held, with_latch, with_sought, without_gone}
use Rattle.law_refine.specs.Below.fkv_pending.TheAttempting.{Attempting}
use Rattle.law_refine.specs.Below.fkv_pending.TheAttempting.TheVariants.{Ended, Looks, Tries, Puts}
use Rattle.law_refine.specs.Below.fkv_pending.MailAnswer.{MailAnswer}
use Rattle.law_refine.specs.Below.fkv_pending.MailAnswer.TheVariants as mail
use Rattle.law_refine.specs.Below.fkv_pending.MailRecord.{MailRecord}
use Rattle.law_refine.specs.Below.fkv_pending.MailTask.TheVariants.{Take}
use Rattle.law_refine.specs.Below.fkv_pending.TheMailing.TheVariants.{LoadsState}
use Rattle.law_refine.specs.Below.fkv_pending.PendingRequest.{PendingRequest}
use Rattle.fkv_plane.specs.declared.asks.Ask.{Ask}
use Rattle.fkv_plane.specs.declared.asks.Ask.TheVariants.{Done}
use Rattle.fkv_plane.specs.declared.places.Places.{Places}
use Rattle.law_log.specs.Ghosts.{Log}
use Rattle.law_opening.proofs.OfChanges.Rows.{AttemptKnown, AttemptSo, TryKnown}
use Rattle.law_opening.proofs.OfChanges.TryRows.{TryTold, try_begins, try_so}

abbrev pub AttemptTold : Log → Places → AttemptState → Attempting → ℕ → Type 0
AttemptTold log p a Tries reply = TryTold log p a.trial a.trial.step reply
AttemptTold log p a step reply = ⊤

module _ (log : Log) (p : Places) (bits : ℕ) where
  -- ---- it tries anew
  tries_so : (a : AttemptState) → AttemptKnown log (tries p bits a)
  tries_so a = try_begins log p bits a.pending.request a.seen a.occasion a.spare

  puts_addr_so : (a : AttemptState) (sought : Option DiskRecord) → AttemptKnown log (puts_addr a sought)
  puts_addr_so a None = tt
  puts_addr_so a (Some it) = tt

  puts_so : (a : AttemptState) → AttemptKnown log (puts a)
  puts_so a = puts_addr_so a a.pending.sought

  goes_on_so : (a : AttemptState) → AttemptKnown log (goes_on p bits a)
  goes_on_so a = by_test (is_seeking_read a)
    where
      by_test : (b : Bool) → AttemptKnown log (if b then puts a else tries p bits a)
      by_test true = puts_so a
      by_test false = tries_so a

  pub attempt_begins : (pending : PendingRequest) (seen : Seen) (occasion : Occasion) (spare : ℕ) (is_orphaned : Bool) → AttemptKnown log (attempt_begun p bits pending seen occasion spare is_orphaned)
  attempt_begins pending seen occasion spare is_orphaned = by_test (new_attempt bits pending seen occasion spare is_orphaned) pending.has_asked
    where
      by_test : (a : AttemptState) (b : Bool) → AttemptKnown log (if b then record a { mailing = LoadsState Take; step = Looks } else goes_on p bits a)
      by_test a true = tt
      by_test a false = goes_on_so a

  -- ---- behind a look into the mailbox
  read_on_so : (a : AttemptState) (its : MailRecord) (said : HeaderSaid) → AttemptKnown log (read_on a its said)
  read_on_so a its Spoiled = puts_so a
  read_on_so a its (Says previous version) = by_key (its.key.0 == (key_of a.pending.request.op).0)
    where
      by_end : (b : Bool) → AttemptKnown log (if b then attempt_ended a answer.Absent else puts (record a { pending = with_sought a.pending (moved_on a.pending.sought previous) }))
      by_end true = tt
      by_end false = puts_so (record a { pending = with_sought a.pending (moved_on a.pending.sought previous) })

      by_key : (b : Bool)
          → AttemptKnown log (if b then attempt_ended a (told_value (value_of its.value)) else if is_chain_end a.pending.request.floor previous then attempt_ended a answer.Absent else puts (record a { pending = with_sought a.pending (moved_on a.pending.sought previous) }))
      by_key true = tt
      by_key false = by_end (is_chain_end a.pending.request.floor previous)

  taken_so : (a : AttemptState) (its : MailRecord) (said : HeaderSaid) → AttemptKnown log (record_taken p bits a its said)
  taken_so a its said = by_test (is_seeking_read a)
    where
      by_test : (b : Bool) → AttemptKnown log (if b then read_on a its said else tries p bits (record a { pending = with_held a.pending (held_of a.pending.sought its said) }))
      by_test true = read_on_so a its said
      by_test false = tries_so (record a { pending = with_held a.pending (held_of a.pending.sought its said) })

  -- a record that is gone
  anew_so : (a : AttemptState) (begin : Addr) → AttemptKnown log (goes_anew p bits a begin)
  anew_so a begin = by_test (record a { pending = without_gone a.pending begin }) (is_seeking_read a)
    where
      by_test : (its : AttemptState) (b : Bool) → AttemptKnown log (if b then waits_for_disk its else tries p bits its)
      by_test its true = tt
      by_test its false = tries_so its

  mail_so : (a : AttemptState) (its : MailRecord) → AttemptKnown log (mail_taken p bits a its)
  mail_so a its = by_test (is_gone its)
    where
      by_test : (b : Bool) → AttemptKnown log (if b then goes_anew p bits a (begin_told its) else record_taken p bits a its (header_said its.header))
      by_test true = anew_so a (begin_told its)
      by_test false = taken_so a its (header_said its.header)

  not_ready_so : (a : AttemptState) → AttemptKnown log (not_ready p bits a)
  not_ready_so a = by_test (is_seeking_read a)
    where
      by_test : (b : Bool) → AttemptKnown log (if b then waits_for_disk a else tries p bits a)
      by_test true = tt
      by_test false = tries_so a

  look_so : (a : AttemptState) (ask : Ask MailAnswer) → a.step ≡ Looks → AttemptKnown log (look_ledto p bits a ask)
  unfolding look_ledto
  look_so a (Done (mail.Taken its)) at = mail_so (record a { is_emptied = true; pending = with_asked a.pending false }) its
  look_so a (Done other) at = not_ready_so a
  look_so a ask at = subst (AttemptSo log a.trial) (sym at) tt

  -- ---- behind a try
  awaits_so : (a : AttemptState) (it : DiskRecord) → AttemptKnown log (awaits_record a it)
  awaits_so a it = by_test a.pending.has_asked
    where
      by_test : (b : Bool)
          → AttemptKnown log (if b then waits_for_disk (record a { pending = with_held a.pending (held_kept a.pending.request.held it.entry) }) else puts (record a { pending = with_sought (with_held a.pending (held_kept a.pending.request.held it.entry)) (Some it) }))
      by_test true = tt
      by_test false = puts_so (record a { pending = with_sought (with_held a.pending (held_kept a.pending.request.held it.entry)) (Some it) })

  tried_so : (a : AttemptState) (its : TryAnswer) → AttemptKnown log (tried a its)
  tried_so a (answer.AwaitsDisk it) = awaits_so a it
  tried_so a (answer.Wait its) = tt
  tried_so a (answer.Done its) = tt
  tried_so a (answer.Found its) = tt
  tried_so a answer.Absent = tt
  tried_so a answer.Shift = tt
  tried_so a answer.IndexFull = tt
  tried_so a answer.LogFull = tt

  led_so : (a : AttemptState) (ask : Ask TryAnswer) → a.step ≡ Tries → TryKnown log a.trial → AttemptKnown log (try_ledto a ask)
  unfolding try_ledto
  led_so a (Done its) at known = tried_so (record a { spare = a.trial.spare; pending = with_latch a.pending a.trial.has_shared }) its
  led_so a ask at known = subst (AttemptSo log a.trial) (sym at) known

  -- ---- behind an ask of the mailbox
  put_so : (a : AttemptState) (ask : Ask MailAnswer) → a.step ≡ Puts → AttemptKnown log (put_ledto a ask)
  unfolding put_ledto
  put_so a (Done mail.Asked) at = tt
  put_so a (Done other) at = tt
  put_so a ask at = subst (AttemptSo log a.trial) (sym at) tt

  -- ---- by the control state
  row_so : (room session : ℕ) (a : AttemptState) (step : Attempting) (reply : ℕ) → a.step ≡ step → AttemptSo log a.trial step → AttemptTold log p a step reply → AttemptKnown log (attempting_next p bits room session (record a { effect = None }) step reply)
  unfolding attempting_next
  row_so room session a (Ended its) reply at so told = subst (AttemptSo log a.trial) (sym at) tt
  row_so room session a Looks reply at so told = look_so (record a { effect = None; mailing = mail_next a.mailing reply }) (mail_ask session (mail_next a.mailing reply)) at
  row_so room session a Tries reply at so told =
      led_so (record a { effect = (try_next p room a.trial reply).effect; trial = try_next p room a.trial reply }) (try_ask p (try_next p room a.trial reply)) at (try_so log p room a.trial reply so told)
  row_so room session a Puts reply at so told = put_so (record a { effect = None; mailing = mail_next a.mailing reply }) (mail_ask session (mail_next a.mailing reply)) at

  pub attempt_so : (room session : ℕ) (a : AttemptState) (reply : ℕ) → AttemptKnown log a → AttemptTold log p a a.step reply → AttemptKnown log (attempt_next p bits room session a reply)
  attempt_so room session a reply known told = row_so room session a a.step reply refl known told
