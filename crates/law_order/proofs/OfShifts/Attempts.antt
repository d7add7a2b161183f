-- An attempt ends as a shift just where its try does.
use Rattle.std.proofs.Common.{◌≡◌, ℕ, ◌∙◌, refl, sym, ap, subst, Bool, true, false}
use Rattle.std.specs.Prelude.{◌==◌, ⊤, if◌then◌else◌, Option, Some, None}
use Rattle.fkv_base.specs.declared.numbers.Addr.{Addr}
use Rattle.fkv_map.specs.Keys.{key_of}
use Rattle.law_commit.specs.Below.fkv_ops.DiskRecord.{DiskRecord}
use Rattle.law_commit.specs.Below.fkv_ops.TryAnswer.{TryAnswer}
use Rattle.law_commit.specs.Below.fkv_ops.TryAnswer.TheVariants as answer
use Rattle.law_commit.specs.Below.fkv_ops.HeaderSaid.{HeaderSaid}
use Rattle.law_commit.specs.Below.fkv_ops.HeaderSaid.TheVariants.{Says, Spoiled}
use Rattle.law_commit.specs.Below.fkv_ops.HeldRecord.{HeldRecord}
use Rattle.law_commit.specs.Below.fkv_ops.Occasion.{Occasion}
use Rattle.law_commit.specs.Below.fkv_ops.Request.{Request}
use Rattle.law_commit.specs.Below.fkv_ops.Seen.{Seen}
use Rattle.law_commit.specs.Below.fkv_ops.HeaderWords.{header_said}
use Rattle.law_commit.specs.Below.fkv_ops.Requests.{is_chain_end, is_read}
use Rattle.law_commit.specs.Below.fkv_ops.Trying.{is_prepare, told_value, try_ask, try_next}
use Rattle.law_commit.specs.Below.fkv_ops.Values.{value_of}
use Rattle.law_commit.specs.Below.fkv_ops.TheTrying.{Trying}
use Rattle.law_commit.specs.Below.fkv_ops.TheTrying.TheVariants as trying
use Rattle.law_commit.specs.Below.fkv_ops.Trying.{TryState, trying_ask}
use Rattle.law_commit.proofs.Below.fkv_ops.Shown.{TryRestsOrAsks, is_try_end, try_done, try_rests}
use Rattle.law_commit.specs.Below.fkv_pending.TheAttempting.{Attempting}
use Rattle.law_commit.specs.Below.fkv_pending.TheAttempting.TheVariants.{Ended, Looks, Puts, Tries}
use Rattle.law_commit.specs.Below.fkv_pending.MailAnswer.{MailAnswer}
use Rattle.law_commit.specs.Below.fkv_pending.MailAnswer.TheVariants as mail
use Rattle.law_commit.specs.Below.fkv_pending.MailRecord.{MailRecord}
use Rattle.law_commit.specs.Below.fkv_pending.MailTask.TheVariants.{Take}
use Rattle.law_commit.specs.Below.fkv_pending.TheMailing.TheVariants.{LoadsState}
use Rattle.law_commit.specs.Below.fkv_pending.PendingRequest.{PendingRequest}
use Rattle.law_commit.specs.Below.fkv_pending.Attempting.{AttemptState, attempt_begun, attempt_ended, attempt_next, attempting_next, awaits_record, goes_anew, goes_on, held_kept, held_of, is_seeking_read, look_ledto, mail_taken, moved_on, new_attempt, not_ready, put_ledto, puts, puts_addr, read_on, record_taken, tried, tries, try_ledto, waits_for_disk}
use Rattle.law_commit.specs.Below.fkv_pending.Mailing.{begin_told, is_gone, mail_ask, mail_next}
use Rattle.law_commit.proofs.Below.fkv_pending.Shown.{AttemptAsksAt, AttemptRestsOrAsks}
use Rattle.law_commit.specs.Below.fkv_pending.Pending.{with_asked, with_held, with_latch, with_sought, without_gone}
use Rattle.fkv_plane.specs.declared.asks.Ask.{Ask}
use Rattle.fkv_plane.specs.declared.asks.Ask.TheVariants.{Done}
use Rattle.fkv_plane.specs.declared.places.Places.{Places}
use Rattle.fkv_plane.specs.Passing.{is_done}
use Rattle.law_order.proofs.OfShifts.Tries.{IsShift, ShiftRow, ShiftsBy, try_begins_row, try_shifts}

-- In prepare an update has come with its share.
abbrev pub HasCome : Seen → Request → Type 0
HasCome seen request = is_prepare seen.phase ≡ true → is_read request.op ≡ false → request.has_latch ≡ true

-- Of an attempt that comes to its try: so of its request, if C. Where it has ended as a shift X holds.
abbrev pub AttemptRow : Type 0 → Type 0 → (PendingRequest → Type 0) → Places → AttemptState → Attempting → Type 0
AttemptRow X F C p a (Ended its) = IsShift X F its
AttemptRow X F C p a Looks = C a.pending
AttemptRow X F C p a Tries = C a.pending × ShiftRow X F p a.trial a.trial.step
AttemptRow X F C p a Puts = ⊤

-- at the end of a try
ends_so : (X F : Type 0) (p : Places) (t : TryState) (its : TryAnswer) → TryRestsOrAsks t → try_ask p t ≡ Done its → ShiftRow X F p t t.step → IsShift X F its
unfolding trying_ask
ends_so X F p t its rests asks row = by_step t.step (sym (try_done p t rests) ∙ ap is_done asks) asks row
  where
    by_step : (step : Trying) → is_try_end step ≡ true → trying_ask p t step ≡ Done its → ShiftRow X F p t step → IsShift X F its
    by_step (trying.Ended told) end e so = let same : told ≡ its = cc in subst (IsShift X F) same so
    by_step step end e so = cc

module _ (X F : Type 0) (C : PendingRequest → Type 0) (asked : (pending : PendingRequest) (b : Bool) → C pending → C (with_asked pending b)) (held : (pending : PendingRequest) (its : Option HeldRecord) → C pending → C (with_held pending its))
    (lost : (pending : PendingRequest) (begin : Addr) → C pending → C (without_gone pending begin)) (p : Places) where
  abbrev Row : AttemptState → Type 0
  Row a = AttemptRow X F C p a a.step

  either : (b : Bool) (one other : AttemptState) → Row one → Row other → Row (if b then one else other)
  either true one other first second = first
  either false one other first second = second

  tries_row : (bits : ℕ) (a : AttemptState) → C a.pending → Row (tries p bits a)
  tries_row bits a came = (came, try_begins_row X F p bits a.pending.request a.seen a.occasion a.spare)

  puts_found : (a : AttemptState) (its : Option DiskRecord) → Row (puts_addr a its)
  puts_found a None = tt
  puts_found a (Some its) = tt

  puts_row : (a : AttemptState) → Row (puts a)
  puts_row a = puts_found a a.pending.sought

  told_row : (a : AttemptState) (its : Option ℕ) → Row (attempt_ended a (told_value its))
  told_row a None = tt
  told_row a (Some value) = tt

  read_row : (a : AttemptState) (its : MailRecord) (said : HeaderSaid) → Row (read_on a its said)
  read_row a its Spoiled = puts_row a
  read_row a its (Says previous version) =
      let on : AttemptState = record a { pending = with_sought a.pending (moved_on a.pending.sought previous) } in
      let ends : Bool = is_chain_end a.pending.request.floor previous in
      either (its.key.0 == (key_of a.pending.request.op).0) (attempt_ended a (told_value (value_of its.value))) (if ends then attempt_ended a answer.Absent else puts on) (told_row a (value_of its.value))
      (either ends (attempt_ended a answer.Absent) (puts on) tt (puts_row on))

  taken_row : (bits : ℕ) (a : AttemptState) (its : MailRecord) (said : HeaderSaid) → C a.pending → Row (record_taken p bits a its said)
  taken_row bits a its said came =
      let holds : AttemptState = record a { pending = with_held a.pending (held_of a.pending.sought its said) } in
      either (is_seeking_read a) (read_on a its said) (tries p bits holds) (read_row a its said) (tries_row bits holds (held a.pending (held_of a.pending.sought its said) came))

  anew_row : (bits : ℕ) (a : AttemptState) (begin : Addr) → C a.pending → Row (goes_anew p bits a begin)
  anew_row bits a begin came =
      let its : AttemptState = record a { pending = without_gone a.pending begin } in
      either (is_seeking_read a) (waits_for_disk its) (tries p bits its) tt (tries_row bits its (lost a.pending begin came))

  mail_row : (bits : ℕ) (a : AttemptState) (its : MailRecord) → C a.pending → Row (mail_taken p bits a its)
  mail_row bits a its came =
      either (is_gone its) (goes_anew p bits a (begin_told its)) (record_taken p bits a its (header_said its.header)) (anew_row bits a (begin_told its) came) (taken_row bits a its (header_said its.header) came)

  ready_row : (bits : ℕ) (a : AttemptState) → C a.pending → Row (not_ready p bits a)
  ready_row bits a came = either (is_seeking_read a) (waits_for_disk a) (tries p bits a) tt (tries_row bits a came)

  look_row : (bits : ℕ) (a : AttemptState) (ask : Ask MailAnswer) → a.step ≡ Looks → C a.pending → Row (look_ledto p bits a ask)
  unfolding look_ledto
  look_row bits a (Done (mail.Taken its)) at came = mail_row bits (record a { is_emptied = true; pending = with_asked a.pending false }) its (asked a.pending false came)
  look_row bits a (Done other) at came = ready_row bits a came
  look_row bits a ask at came = subst (AttemptRow X F C p a) (sym at) came

  awaits_row : (a : AttemptState) (its : DiskRecord) → Row (awaits_record a its)
  awaits_row a its =
      let kept : AttemptState = record a { pending = with_held a.pending (held_kept a.pending.request.held its.entry) } in
      let next : AttemptState = record kept { pending = with_sought kept.pending (Some its) } in
      either a.pending.has_asked (waits_for_disk kept) (puts next) tt (puts_row next)

  tried_row : (a : AttemptState) (its : TryAnswer) → IsShift X F its → Row (tried a its)
  tried_row a (answer.AwaitsDisk its) so = awaits_row a its
  tried_row a (answer.Wait why) so = tt
  tried_row a answer.Shift so = so
  tried_row a (answer.Done reply) so = tt
  tried_row a (answer.Found value) so = tt
  tried_row a answer.Absent so = tt
  tried_row a answer.IndexFull so = so
  tried_row a answer.LogFull so = so

  led_row : (a : AttemptState) (ask : Ask TryAnswer) → a.step ≡ Tries → try_ask p a.trial ≡ ask → TryRestsOrAsks a.trial → C a.pending → ShiftRow X F p a.trial a.trial.step → Row (try_ledto a ask)
  unfolding try_ledto
  led_row a (Done its) at asks rests came row = tried_row (record a { spare = a.trial.spare; pending = with_latch a.pending a.trial.has_shared }) its (ends_so X F p a.trial its rests asks row)
  led_row a ask at asks rests came row = subst (AttemptRow X F C p a) (sym at) (came, row)

  put_row : (a : AttemptState) (ask : Ask MailAnswer) → a.step ≡ Puts → Row (put_ledto a ask)
  unfolding put_ledto
  put_row a (Done mail.Asked) at = tt
  put_row a (Done other) at = tt
  put_row a ask at = subst (AttemptRow X F C p a) (sym at) tt

  row_on : (bits room session : ℕ) (a : AttemptState) (step : Attempting) (reply : ℕ) → a.step ≡ step → AttemptAsksAt a step → (a.step ≡ Tries → C a.pending → ShiftsBy X F p a.trial reply) → AttemptRow X F C p a step → Row (attempting_next p bits room session (record a { effect = None }) step reply)
  unfolding attempting_next
  row_on bits room session a (Ended its) reply at rests shifts row = subst (AttemptRow X F C p (record a { effect = None })) (sym at) row
  row_on bits room session a Looks reply at rests shifts row = look_row bits (record a { effect = None; mailing = mail_next a.mailing reply }) (mail_ask session (mail_next a.mailing reply)) at row
  row_on bits room session a Tries reply at rests shifts row =
      led_row (record a { effect = (try_next p room a.trial reply).effect; trial = try_next p room a.trial reply }) (try_ask p (try_next p room a.trial reply)) at refl (try_rests p room a.trial reply rests.0) row.0
      (try_shifts X F p room a.trial reply (shifts at row.0) row.1)
  row_on bits room session a Puts reply at rests shifts row = put_row (record a { effect = None; mailing = mail_next a.mailing reply }) (mail_ask session (mail_next a.mailing reply)) at

  pub attempt_shifts : (bits room session : ℕ) (a : AttemptState) (reply : ℕ) → AttemptRestsOrAsks a → (a.step ≡ Tries → C a.pending → ShiftsBy X F p a.trial reply) → Row a → Row (attempt_next p bits room session a reply)
  attempt_shifts bits room session a reply rests shifts row = row_on bits room session a a.step reply refl rests shifts row

  pub attempt_begins_row : (bits : ℕ) (pending : PendingRequest) (seen : Seen) (occasion : Occasion) (spare : ℕ) (is_orphaned : Bool) → C pending → Row (attempt_begun p bits pending seen occasion spare is_orphaned)
  attempt_begins_row bits pending seen occasion spare is_orphaned came =
      let its : AttemptState = new_attempt bits pending seen occasion spare is_orphaned in
      either pending.has_asked (record its { mailing = LoadsState Take; step = Looks }) (goes_on p bits its) came
      (either (is_seeking_read its) (puts its) (tries p bits its) (puts_row its) (tries_row bits its came))
