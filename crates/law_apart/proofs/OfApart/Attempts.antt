-- Each true reply leads an attempt on to what it has to know of versions.
use Rattle.std.proofs.Common.{◌≡◌, ◌⊎◌, inl, inr, ℕ, refl, sym, ap, ◌∙◌, subst, Bool, true, false, Option, Some, None}
use Rattle.std.specs.Prelude.{◌==◌, ◌&&◌, if◌then◌else◌}
use Rattle.std.specs.Option.{is_some}
use Rattle.fkv_base.specs.declared.numbers.Addr.{Addr}
use Rattle.fkv_map.specs.Keys.{key_of}
use Rattle.fkv_plane.specs.declared.asks.Ask.{Ask}
use Rattle.fkv_plane.specs.declared.asks.Ask.TheVariants.{Done}
use Rattle.fkv_plane.specs.declared.places.Places.{Places}
use Rattle.fkv_plane.specs.Passing.{is_done}
use Rattle.law_log.specs.Chains.{VersionsFall}
use Rattle.law_log.specs.Ghosts.{Log}
use Rattle.law_local.specs.Below.fkv_ops.DiskRecord.{DiskRecord}
use Rattle.law_local.specs.Below.fkv_ops.TryAnswer.{TryAnswer}
use Rattle.law_local.specs.Below.fkv_ops.TryAnswer.TheVariants as answer
use Rattle.law_local.specs.Below.fkv_ops.HeaderSaid.{HeaderSaid}
use Rattle.law_local.specs.Below.fkv_ops.HeaderSaid.TheVariants.{Says, Spoiled}
use Rattle.law_local.specs.Below.fkv_ops.HeldRecord.{HeldRecord}
use Rattle.law_local.specs.Below.fkv_ops.Occasion.{Occasion}
use Rattle.law_local.specs.Below.fkv_ops.Seen.{Seen}
use Rattle.law_local.specs.Below.fkv_ops.HeaderWords.{header_said}
use Rattle.law_local.specs.Below.fkv_ops.Requests.{is_chain_end}
use Rattle.law_local.specs.Below.fkv_ops.Trying.{TryState, is_prepare, told_value, try_ask, try_next}
use Rattle.law_local.specs.Below.fkv_ops.Values.{value_of}
use Rattle.law_local.specs.Below.fkv_pending.TheAttempting.{Attempting}
use Rattle.law_local.specs.Below.fkv_pending.TheAttempting.TheVariants.{Ended, Looks, Puts, Tries}
use Rattle.law_local.specs.Below.fkv_pending.MailAnswer.{MailAnswer}
use Rattle.law_local.specs.Below.fkv_pending.MailAnswer.TheVariants as mail
use Rattle.law_local.specs.Below.fkv_pending.MailRecord.{MailRecord}
use Rattle.law_local.specs.Below.fkv_pending.MailTask.TheVariants.{Put, Take}
use Rattle.law_local.specs.Below.fkv_pending.TheMailing.TheVariants.{LoadsState, StoresAddress}
use Rattle.law_local.specs.Below.fkv_pending.PendingRequest.{PendingRequest}
use Rattle.law_local.specs.Below.fkv_pending.Attempting.{AttemptState, attempt_begun, attempt_ended, attempt_next, attempting_next, awaits_record, goes_on, held_kept, held_of, is_seeking_read, leaves, look_ledto, mail_taken, goes_anew, moved_on, new_attempt, not_ready, put_ledto, puts, puts_addr, read_on, record_taken, tried, tries, try_ledto, waits_for_disk}
use Rattle.law_local.specs.Below.fkv_pending.Mailing.{begin_told, is_gone, mail_ask, mail_next}
use Rattle.law_local.specs.Below.fkv_pending.Pending.{with_asked, with_held, with_latch, with_sought, without_gone}
use Rattle.law_local.specs.Tries.AttemptRows.{AttemptKnows, AttemptRow, IsTrueOfAttempt, TriesFor}
use Rattle.law_local.specs.Tries.OnWay.{IsOrderly}
use Rattle.law_local.specs.Tries.TryRows.{NoneIsLater, TryKnows, key_in}
use Rattle.law_local.proofs.OfTries.TrialKept.{KeepsRequest, try_kept}
use Rattle.law_local.proofs.OfTries.TrySteps.{try_leads}
use Rattle.law_apart.specs.Apart.Rows.{AttemptApart, PendingApart, TellsPhase, TellsSharer, TryApart, VersionsNear}
use Rattle.law_apart.proofs.OfApart.Tries.{begun_asks, none_at_end, try_apart, try_begins_apart}

module _ (home : ℕ → ℕ) (p : Places) (log : Log) where
  abbrev Waits : PendingRequest → Type 0
  Waits pending = PendingApart home log pending

  -- ---- the request as it changes
  asked_apart : (pending : PendingRequest) (b : Bool) → Waits pending → Waits (with_asked pending b)
  unfolding with_asked
  asked_apart pending b its = its

  held_apart : (pending : PendingRequest) (held : Option HeldRecord) → Waits pending → Waits (with_held pending held)
  unfolding with_held
  held_apart pending held its = its

  sought_apart : (pending : PendingRequest) (sought : Option DiskRecord) → Waits pending → Waits (with_sought pending sought)
  unfolding with_sought
  sought_apart pending sought its = its

  gone_apart : (pending : PendingRequest) (begin : Addr) → Waits pending → Waits (without_gone pending begin)
  unfolding without_gone
  gone_apart pending begin its = its

  pub latch_apart : (pending : PendingRequest) (b : Bool) → (b ≡ true → NoneIsLater home log pending.request) → Waits (with_latch pending b)
  unfolding with_latch
  latch_apart pending b none = none

  -- ---- an attempt
  abbrev Apart : AttemptState → Type 0
  Apart a = AttemptApart home p log a a.step

  either_apart : (b : Bool) (one other : AttemptState) → Apart one → Apart other → Apart (if b then one else other)
  either_apart true one other first second = first
  either_apart false one other first second = second

  tries_apart : (bits : ℕ) (a : AttemptState) → Waits a.pending → Apart (tries p bits a)
  tries_apart bits a pending = (try_begins_apart home log p bits a.pending.request a.seen a.occasion a.spare pending, begun_asks p bits a.pending.request a.seen a.occasion a.spare)

  puts_found : (a : AttemptState) (sought : Option DiskRecord) → Waits a.pending → Apart (puts_addr a sought)
  puts_found a None pending = pending
  puts_found a (Some sought) pending = pending

  puts_apart : (a : AttemptState) → Waits a.pending → Apart (puts a)
  puts_apart a pending = puts_found a a.pending.sought pending

  -- ---- the look
  read_apart : (a : AttemptState) (its : MailRecord) (said : HeaderSaid) → Waits a.pending → Apart (read_on a its said)
  read_apart a its Spoiled pending = puts_apart a pending
  read_apart a its (Says previous version) pending =
      let on : AttemptState = record a { pending = with_sought a.pending (moved_on a.pending.sought previous) } in
      let below : AttemptState = if is_chain_end a.pending.request.floor previous then attempt_ended a answer.Absent else puts on in
      either_apart (its.key.0 == (key_of a.pending.request.op).0) (attempt_ended a (told_value (value_of its.value))) below pending
      (either_apart (is_chain_end a.pending.request.floor previous) (attempt_ended a answer.Absent) (puts on) pending
      (puts_apart on (sought_apart a.pending (moved_on a.pending.sought previous) pending)))

  taken_apart : (bits : ℕ) (a : AttemptState) (its : MailRecord) (said : HeaderSaid) → Waits a.pending → Apart (record_taken p bits a its said)
  taken_apart bits a its said pending =
      let holds : AttemptState = record a { pending = with_held a.pending (held_of a.pending.sought its said) } in
      either_apart (is_seeking_read a) (read_on a its said) (tries p bits holds) (read_apart a its said pending) (tries_apart bits holds (held_apart a.pending (held_of a.pending.sought its said) pending))

  anew_apart : (bits : ℕ) (a : AttemptState) (begin : Addr) → Waits a.pending → Apart (goes_anew p bits a begin)
  anew_apart bits a begin pending =
      let its : AttemptState = record a { pending = without_gone a.pending begin } in
      let waits : Waits its.pending = gone_apart a.pending begin pending in
      either_apart (is_seeking_read a) (waits_for_disk its) (tries p bits its) waits (tries_apart bits its waits)

  mail_apart : (bits : ℕ) (a : AttemptState) (its : MailRecord) → Waits a.pending → Apart (mail_taken p bits a its)
  mail_apart bits a its pending =
      either_apart (is_gone its) (goes_anew p bits a (begin_told its)) (record_taken p bits a its (header_said its.header))
      (anew_apart bits a (begin_told its) pending) (taken_apart bits a its (header_said its.header) pending)

  waits_apart : (bits : ℕ) (a : AttemptState) → Waits a.pending → Apart (not_ready p bits a)
  waits_apart bits a pending = either_apart (is_seeking_read a) (waits_for_disk a) (tries p bits a) pending (tries_apart bits a pending)

  look_apart : (bits : ℕ) (a : AttemptState) (ask : Ask MailAnswer) → a.step ≡ Looks → Waits a.pending → Apart (look_ledto p bits a ask)
  unfolding look_ledto
  look_apart bits a (Done (mail.Taken its)) at pending =
      mail_apart bits (record a { is_emptied = true; pending = with_asked a.pending false }) its (asked_apart a.pending false pending)
  look_apart bits a (Done other) at pending = waits_apart bits a pending
  look_apart bits a ask at pending = subst (AttemptApart home p log a) (sym at) pending

  -- ---- the try
  awaits_apart : (a : AttemptState) (sought : DiskRecord) → Waits a.pending → Apart (awaits_record a sought)
  awaits_apart a sought pending = either_apart a.pending.has_asked (waits_for_disk its) (puts next) held (puts_apart next (sought_apart its.pending (Some sought) held))
    where
      its : AttemptState
      its = record a { pending = with_held a.pending (held_kept a.pending.request.held sought.entry) }

      next : AttemptState
      next = record its { pending = with_sought its.pending (Some sought) }

      held : Waits its.pending
      held = held_apart a.pending (held_kept a.pending.request.held sought.entry) pending

  tried_apart : (a : AttemptState) (its : TryAnswer) → Waits a.pending → Apart (tried a its)
  tried_apart a (answer.AwaitsDisk sought) pending = awaits_apart a sought pending
  tried_apart a (answer.Wait why) pending = pending
  tried_apart a answer.Shift pending = pending
  tried_apart a (answer.Done reply) pending = pending
  tried_apart a (answer.Found value) pending = pending
  tried_apart a answer.Absent pending = pending
  tried_apart a answer.IndexFull pending = pending
  tried_apart a answer.LogFull pending = pending

  led_apart : (a : AttemptState) (ask : Ask TryAnswer) → a.step ≡ Tries → try_ask p a.trial ≡ ask → TriesFor home log a.pending a.seen a.trial → TryApart home log a.trial → Apart (try_ledto a ask)
  unfolding try_ledto
  led_apart a (Done its) at asks tries apart =
      tried_apart (record a { spare = a.trial.spare; pending = with_latch a.pending a.trial.has_shared }) its
      (latch_apart a.pending a.trial.has_shared (λ has. subst (NoneIsLater home log) tries.its_request (none_at_end home log p a.trial its tries.knows apart asks has)))
  led_apart a ask at asks tries apart = subst (AttemptApart home p log a) (sym at) (apart, ap is_done asks)

  put_apart : (a : AttemptState) (ask : Ask MailAnswer) → a.step ≡ Puts → Waits a.pending → Apart (put_ledto a ask)
  unfolding put_ledto
  put_apart a (Done mail.Asked) at pending = asked_apart a.pending true pending
  put_apart a (Done other) at pending = pending
  put_apart a ask at pending = subst (AttemptApart home p log a) (sym at) pending

  -- ---- each reply
  row_apart : (bits room session : ℕ) (a : AttemptState) (step : Attempting) (reply : ℕ) → IsOrderly home log → VersionsFall log.cells (log.chains (home (key_in a.trial.request))) → (a.step ≡ Tries → VersionsNear log a.trial)
      → (a.step ≡ Tries → TellsSharer home log p a.trial reply) → (a.step ≡ Tries → TellsPhase home log a.trial reply) → (a.step ≡ Tries → TryKnows home log (try_next p room a.trial reply)) → a.step ≡ step → AttemptRow home log a step → IsTrueOfAttempt home log p a step reply
      → AttemptApart home p log a step → Apart (attempting_next p bits room session (record a { effect = None }) step reply)
  unfolding attempting_next
  row_apart bits room session a (Ended its) reply orderly falls near tells word leads at row says apart = subst (AttemptApart home p log (record a { effect = None })) (sym at) apart
  row_apart bits room session a Looks reply orderly falls near tells word leads at row says apart = look_apart bits (record a { effect = None; mailing = mail_next a.mailing reply }) (mail_ask session (mail_next a.mailing reply)) at apart
  row_apart bits room session a Tries reply orderly falls near tells word leads at row says apart =
      led_apart (record a { effect = (try_next p room a.trial reply).effect; trial = try_next p room a.trial reply }) (try_ask p (try_next p room a.trial reply)) at refl
      (record { knows = leads at; its_request = kept.request ∙ row.its_request; its_seen = kept.seen ∙ row.its_seen; not_asked = row.not_asked })
      (try_apart home log p room a.trial reply orderly falls (near at) (tells at) (word at) row.knows says apart.0)
    where
      kept : KeepsRequest a.trial (try_next p room a.trial reply)
      kept = try_kept p room a.trial reply
  row_apart bits room session a Puts reply orderly falls near tells word leads at row says apart = put_apart (record a { effect = None; mailing = mail_next a.mailing reply }) (mail_ask session (mail_next a.mailing reply)) at apart

  pub attempt_apart : (bits room session : ℕ) (a : AttemptState) (reply : ℕ) → IsOrderly home log → VersionsFall log.cells (log.chains (home (key_in a.trial.request))) → (a.step ≡ Tries → VersionsNear log a.trial)
      → (a.step ≡ Tries → TellsSharer home log p a.trial reply) → (a.step ≡ Tries → TellsPhase home log a.trial reply) → (a.step ≡ Tries → TryKnows home log (try_next p room a.trial reply)) → AttemptKnows home log a → IsTrueOfAttempt home log p a a.step reply
      → AttemptApart home p log a a.step → Apart (attempt_next p bits room session a reply)
  attempt_apart bits room session a reply orderly falls near tells word leads knows says apart = row_apart bits room session a a.step reply orderly falls near tells word leads refl knows.row says apart

  pub attempt_begins_apart : (bits : ℕ) (pending : PendingRequest) (seen : Seen) (occasion : Occasion) (spare : ℕ) (is_orphaned : Bool) → Waits pending → Apart (attempt_begun p bits pending seen occasion spare is_orphaned)
  attempt_begins_apart bits pending seen occasion spare is_orphaned waits =
      let its : AttemptState = new_attempt bits pending seen occasion spare is_orphaned in
      let looks : AttemptState = record its { mailing = LoadsState Take; step = Looks } in
      either_apart pending.has_asked looks (goes_on p bits its) waits
      (either_apart (is_seeking_read its) (puts its) (tries p bits its) (puts_apart its waits) (tries_apart bits its waits))
