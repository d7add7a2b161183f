-- An attempt of a read that waits leaves it with a record that it seeks, or it is told that this is gone. Then its floor is what it was told.
use Rattle.std.proofs.Common.{◌≡◌, ◌⊎◌, ℕ, ◌∙◌, inl, inr, refl, sym, ap, subst, Bool, true, false}
use Rattle.std.specs.Prelude.{◌==◌, ◌&&◌, ⊤, if◌then◌else◌, Option, Some, None}
use Rattle.std.specs.Option.{is_some}
use Rattle.fkv_base.specs.declared.numbers.Addr.{Addr}
use Rattle.fkv_map.specs.Keys.{key_of}
use Rattle.law_commit.specs.Below.fkv_ops.DiskRecord.{DiskRecord}
use Rattle.law_commit.specs.Below.fkv_ops.TryAnswer.{TryAnswer}
use Rattle.law_commit.specs.Below.fkv_ops.TryAnswer.TheVariants as answer
use Rattle.law_commit.specs.Below.fkv_ops.HeaderSaid.{HeaderSaid}
use Rattle.law_commit.specs.Below.fkv_ops.HeaderSaid.TheVariants.{Says, Spoiled}
use Rattle.law_commit.specs.Below.fkv_ops.Occasion.{Occasion}
use Rattle.law_commit.specs.Below.fkv_ops.Seen.{Seen}
use Rattle.law_commit.specs.Below.fkv_ops.TheTrying.{Trying}
use Rattle.law_commit.specs.Below.fkv_ops.TheTrying.TheVariants as trying
use Rattle.law_commit.specs.Below.fkv_ops.HeaderWords.{header_said}
use Rattle.law_commit.specs.Below.fkv_ops.Requests.{is_chain_end, is_read}
use Rattle.law_commit.specs.Below.fkv_ops.Trying.{TryState, told_value, try_ask, try_next, trying_ask}
use Rattle.law_commit.specs.Below.fkv_ops.Values.{value_of}
use Rattle.law_commit.proofs.Below.fkv_ops.Shown.{TryRestsOrAsks, is_try_end, try_done, try_rests}
use Rattle.law_commit.specs.Below.fkv_pending.TheAttempting.{Attempting}
use Rattle.law_commit.specs.Below.fkv_pending.TheAttempting.TheVariants.{Ended, Looks, Puts, Tries}
use Rattle.law_commit.specs.Below.fkv_pending.MailAnswer.{MailAnswer}
use Rattle.law_commit.specs.Below.fkv_pending.MailAnswer.TheVariants as mail
use Rattle.law_commit.specs.Below.fkv_pending.MailRecord.{MailRecord}
use Rattle.law_commit.specs.Below.fkv_pending.MailTask.TheVariants.{Take}
use Rattle.law_commit.specs.Below.fkv_pending.TheMailing.TheVariants.{LoadsState}
use Rattle.law_commit.specs.Below.fkv_pending.PendingRequest.{PendingRequest}
use Rattle.law_commit.specs.Below.fkv_pending.Attempting.{AttemptState, attempt_begun, attempt_ended, attempt_next, attempting_next, awaits_record, goes_anew, goes_on, held_kept, held_of, is_poll, is_seeking_read, look_ledto, mail_taken, moved_on, new_attempt, not_ready, put_ledto, puts, puts_addr, read_on, record_taken, tried, tries, try_ledto, waits_for_disk}
use Rattle.law_commit.specs.Below.fkv_pending.Mailing.{begin_told, is_gone, mail_ask, mail_next}
use Rattle.law_commit.specs.Below.fkv_pending.Pending.{with_asked, with_held, with_latch, with_sought, without_gone}
use Rattle.law_commit.proofs.Below.fkv_pending.Shown.{AttemptAsksAt, AttemptRestsOrAsks}
use Rattle.fkv_plane.specs.declared.asks.Ask.{Ask}
use Rattle.fkv_plane.specs.declared.asks.Ask.TheVariants.{Done}
use Rattle.fkv_plane.specs.declared.places.Places.{Places}
use Rattle.fkv_plane.specs.Passing.{is_done}
use Rattle.law_order.specs.Ordered.Met.{IsMet, SeeksOne, SeeksOr}
use Rattle.law_order.specs.Rows.Asked.{SeeksWhereAsked}
use Rattle.law_order.proofs.OfRows.Seeks.{held_seeks, latch_seeks, lost_seeks}

-- where an answer lets it wait
abbrev pub SeeksBy : (ℕ → Type 0) → PendingRequest → TryAnswer → Type 0
SeeksBy G pending (answer.Wait why) = SeeksOr G pending
SeeksBy G pending (answer.AwaitsDisk its) = SeeksOr G pending
SeeksBy G pending answer.Shift = SeeksOr G pending
SeeksBy G pending answer.IndexFull = SeeksOr G pending
SeeksBy G pending answer.LogFull = SeeksOr G pending
SeeksBy G pending its = ⊤

-- a poll tries a read only by such a floor, and where it seeks none
abbrev pub TriesAnew : (ℕ → Type 0) → Occasion → PendingRequest → Type 0
TriesAnew G occasion pending = is_poll occasion ≡ true → is_read pending.request.op ≡ true → (is_some pending.sought ≡ false) × G pending.request.floor.0

-- Where an attempt has ended so its request does, and while it looks into the mailbox, or puts an address there. A try begins with one that seeks a record if it
-- has asked for it. A poll's try of a read is made anew.
abbrev pub WaitsRow : (ℕ → Type 0) → AttemptState → Attempting → Type 0
WaitsRow G a (Ended its) = SeeksBy G a.pending its
WaitsRow G a Puts = SeeksOne a.pending
WaitsRow G a Looks = SeeksWhereAsked a.pending × SeeksOne a.pending
WaitsRow G a Tries = SeeksWhereAsked a.pending × TriesAnew G a.occasion a.pending

abbrev pub Waits : (ℕ → Type 0) → AttemptState → Type 0
Waits G a = WaitsRow G a a.step

seeking : (poll read some : Bool) → (poll && (read && some)) ≡ true → some ≡ true
seeking true true some e = e
seeking true false some e = cc
seeking false read some e = cc

unsought : (poll read some : Bool) → (poll && (read && some)) ≡ false → poll ≡ true → read ≡ true → some ≡ false
unsought true true some e one other = e
unsought true false some e one other = cc
unsought false read some e one other = cc

not_both : {A : Type 0} (c : Bool) → c ≡ false → c ≡ true → A
not_both c one other = cc

moved_some : (sought : Option DiskRecord) (addr : _) → is_some sought ≡ true → is_some (moved_on sought addr) ≡ true
moved_some None addr e = cc
moved_some (Some it) addr e = refl

none_asked : (pending : PendingRequest) → SeeksWhereAsked (with_asked pending false)
unfolding with_asked
none_asked pending = λ read asked. cc

none_is_asked : (pending : PendingRequest) → (with_asked pending false).has_asked ≡ false
unfolding with_asked
none_is_asked pending = refl

same_one : (pending : PendingRequest) → SeeksOne pending → SeeksOne (with_asked pending false)
unfolding with_asked
same_one pending one = one

-- who is told that a record is gone is told such a begin
abbrev pub TellsSo : (ℕ → Type 0) → Ask MailAnswer → Type 0
TellsSo G ask = (its : MailRecord) → ask ≡ Done (mail.Taken its) → is_gone its ≡ true → G its.key.0

-- a read is met
abbrev MetIfRead : PendingRequest → TryAnswer → Type 0
MetIfRead pending its = is_read pending.request.op ≡ true → IsMet its

abbrev pub MeetsTry : Places → ℕ → AttemptState → ℕ → Type 0
MeetsTry p room a reply = (its : TryAnswer) → (try_next p room a.trial reply).step ≡ trying.Ended its → MetIfRead a.pending its

-- what its reply takes from the mailbox tells so
abbrev pub LooksSo : (ℕ → Type 0) → ℕ → AttemptState → ℕ → Type 0
LooksSo G session a reply = TellsSo G (mail_ask session (mail_next a.mailing reply))

-- a try that has ended tells this
end_tells : (p : Places) (t : TryState) (its : TryAnswer) → TryRestsOrAsks t → try_ask p t ≡ Done its → t.step ≡ trying.Ended its
unfolding trying_ask
end_tells p t its rests asks = by_step t.step refl (sym (try_done p t rests) ∙ ap is_done asks) asks
  where
    by_step : (step : Trying) → t.step ≡ step → is_try_end step ≡ true → trying_ask p t step ≡ Done its → t.step ≡ trying.Ended its
    by_step (trying.Ended told) at end e = let same : told ≡ its = cc in at ∙ ap trying.Ended same
    by_step step at end e = cc

-- ---- whatever it is told, by floors that are so
module _ (G : ℕ → Type 0) where
  either : (b : Bool) (one other : AttemptState) → (b ≡ true → Waits G one) → (b ≡ false → Waits G other) → Waits G (if b then one else other)
  either true one other first second = first refl
  either false one other first second = second refl

  -- one that seeks a record isn't tried by a poll
  sought_untried : (occasion : Occasion) (pending : PendingRequest) → (is_poll occasion && (is_read pending.request.op && is_some pending.sought)) ≡ false → SeeksOne pending → TriesAnew G occasion pending
  sought_untried occasion pending e one = λ poll read. not_both (is_some pending.sought) (unsought (is_poll occasion) (is_read pending.request.op) (is_some pending.sought) e poll read) (one read)

  -- and one that doesn't goes by such a floor
  sought_or : (some : Bool) (floor : ℕ) → some ≡ false → (some ≡ true) ⊎ G floor → G floor
  sought_or some floor none (inl is) = not_both some none is
  sought_or some floor none (inr so) = so

  tried_anew : (occasion : Occasion) (pending : PendingRequest) → (is_poll occasion && (is_read pending.request.op && is_some pending.sought)) ≡ false → (is_poll occasion ≡ true → SeeksOr G pending) → TriesAnew G occasion pending
  tried_anew occasion pending e one = λ poll read.
      let none : is_some pending.sought ≡ false = unsought (is_poll occasion) (is_read pending.request.op) (is_some pending.sought) e poll read in
      (none, sought_or (is_some pending.sought) pending.request.floor.0 none (one poll read))

  -- ---- the address that it puts
  puts_found : (a : AttemptState) (its : Option DiskRecord) → a.pending.sought ≡ its → is_some its ≡ true → Waits G (puts_addr a its)
  puts_found a None e some = cc
  puts_found a (Some its) e some = λ read. ap is_some e

  puts_waits : (a : AttemptState) → is_some a.pending.sought ≡ true → Waits G (puts a)
  puts_waits a some = puts_found a a.pending.sought refl some

  -- ---- the look
  told_waits : (a : AttemptState) (its : Option ℕ) → Waits G (attempt_ended a (told_value its))
  told_waits a None = tt
  told_waits a (Some value) = tt

  read_waits : (a : AttemptState) (its : MailRecord) (said : HeaderSaid) → is_some a.pending.sought ≡ true → Waits G (read_on a its said)
  unfolding with_sought
  read_waits a its Spoiled some = puts_waits a some
  read_waits a its (Says previous version) some =
      let on : AttemptState = record a { pending = with_sought a.pending (moved_on a.pending.sought previous) } in
      let ends : Bool = is_chain_end a.pending.request.floor previous in
      either (its.key.0 == (key_of a.pending.request.op).0) (attempt_ended a (told_value (value_of its.value))) (if ends then attempt_ended a answer.Absent else puts on) (λ e. told_waits a (value_of its.value))
      (λ e. either ends (attempt_ended a answer.Absent) (puts on) (λ f. tt) (λ f. puts_waits on (moved_some a.pending.sought previous some)))

  taken_waits : (p : Places) (bits : ℕ) (a : AttemptState) (its : MailRecord) (said : HeaderSaid) → SeeksWhereAsked a.pending → SeeksOne a.pending → Waits G (record_taken p bits a its said)
  unfolding with_held
  taken_waits p bits a its said asked one =
      let holds : AttemptState = record a { pending = with_held a.pending (held_of a.pending.sought its said) } in
      either (is_seeking_read a) (read_on a its said) (tries p bits holds) (λ e. read_waits a its said (seeking (is_poll a.occasion) (is_read a.pending.request.op) (is_some a.pending.sought) e))
      (λ e. (held_seeks a.pending (held_of a.pending.sought its said) asked, sought_untried a.occasion a.pending e one))

  -- it is gone
  anew_waits : (p : Places) (bits : ℕ) (a : AttemptState) (begin : Addr) → a.pending.has_asked ≡ false → G begin.0 → SeeksOne a.pending → Waits G (goes_anew p bits a begin)
  unfolding without_gone
  anew_waits p bits a begin none so one =
      let its : AttemptState = record a { pending = without_gone a.pending begin } in
      either (is_seeking_read a) (waits_for_disk its) (tries p bits its) (λ e read. inr so)
      (λ e. (lost_seeks a.pending begin none, λ poll read. not_both (is_some a.pending.sought) (unsought (is_poll a.occasion) (is_read a.pending.request.op) (is_some a.pending.sought) e poll read) (one read)))

  mail_waits : (p : Places) (bits : ℕ) (a : AttemptState) (its : MailRecord) → (is_gone its ≡ true → G its.key.0) → a.pending.has_asked ≡ false → SeeksWhereAsked a.pending → SeeksOne a.pending → Waits G (mail_taken p bits a its)
  mail_waits p bits a its so none asked one =
      either (is_gone its) (goes_anew p bits a (begin_told its)) (record_taken p bits a its (header_said its.header)) (λ gone. anew_waits p bits a (begin_told its) none (so gone) one)
      (λ e. taken_waits p bits a its (header_said its.header) asked one)

  ready_waits : (p : Places) (bits : ℕ) (a : AttemptState) → SeeksWhereAsked a.pending → SeeksOne a.pending → Waits G (not_ready p bits a)
  ready_waits p bits a asked one = either (is_seeking_read a) (waits_for_disk a) (tries p bits a) (λ e read. inl (one read)) (λ e. (asked, sought_untried a.occasion a.pending e one))

  look_waits : (p : Places) (bits : ℕ) (a : AttemptState) (ask : Ask MailAnswer) → a.step ≡ Looks → TellsSo G ask → SeeksWhereAsked a.pending × SeeksOne a.pending → Waits G (look_ledto p bits a ask)
  unfolding look_ledto
  look_waits p bits a (Done (mail.Taken its)) at so asked =
      mail_waits p bits (record a { is_emptied = true; pending = with_asked a.pending false }) its (so its refl) (none_is_asked a.pending) (none_asked a.pending) (same_one a.pending asked.1)
  look_waits p bits a (Done other) at so asked = ready_waits p bits a asked.0 asked.1
  look_waits p bits a ask at so asked = subst (WaitsRow G a) (sym at) asked

  -- ---- the try
  awaits_waits : (a : AttemptState) (its : DiskRecord) → SeeksWhereAsked a.pending → Waits G (awaits_record a its)
  unfolding with_held with_sought
  awaits_waits a its asked =
      let kept : AttemptState = record a { pending = with_held a.pending (held_kept a.pending.request.held its.entry) } in
      let next : AttemptState = record kept { pending = with_sought kept.pending (Some its) } in
      either a.pending.has_asked (waits_for_disk kept) (puts next) (λ e read. inl (asked read e)) (λ e. puts_waits next refl)

  tried_waits : (a : AttemptState) (its : TryAnswer) → MetIfRead a.pending its → SeeksWhereAsked a.pending → Waits G (tried a its)
  tried_waits a (answer.AwaitsDisk its) met asked = awaits_waits a its asked
  tried_waits a (answer.Wait why) met asked = λ read. absurd (met read)
  tried_waits a answer.Shift met asked = λ read. absurd (met read)
  tried_waits a (answer.Done reply) met asked = tt
  tried_waits a (answer.Found value) met asked = tt
  tried_waits a answer.Absent met asked = tt
  tried_waits a answer.IndexFull met asked = λ read. absurd (met read)
  tried_waits a answer.LogFull met asked = λ read. absurd (met read)

  led_waits : (p : Places) (a : AttemptState) (ask : Ask TryAnswer) → a.step ≡ Tries → try_ask p a.trial ≡ ask → TryRestsOrAsks a.trial → ((its : TryAnswer) → a.trial.step ≡ trying.Ended its → MetIfRead a.pending its) → SeeksWhereAsked a.pending × TriesAnew G a.occasion a.pending → Waits G (try_ledto a ask)
  unfolding try_ledto with_latch
  led_waits p a (Done its) at asks rests met asked =
      tried_waits (record a { spare = a.trial.spare; pending = with_latch a.pending a.trial.has_shared }) its (met its (end_tells p a.trial its rests asks)) (latch_seeks a.pending a.trial.has_shared asked.0)
  led_waits p a ask at asks rests met asked = subst (WaitsRow G a) (sym at) asked

  put_waits : (a : AttemptState) (ask : Ask MailAnswer) → a.step ≡ Puts → SeeksOne a.pending → Waits G (put_ledto a ask)
  unfolding put_ledto with_asked
  put_waits a (Done mail.Asked) at so = λ read. inl (so read)
  put_waits a (Done other) at so = λ read. inl (so read)
  put_waits a ask at so = subst (WaitsRow G a) (sym at) so

  -- ---- each reply
  row_waits : (p : Places) (bits room session : ℕ) (a : AttemptState) (step : Attempting) (reply : ℕ) → a.step ≡ step → AttemptAsksAt a step → (a.step ≡ Tries → MeetsTry p room a reply) → (a.step ≡ Looks → LooksSo G session a reply) → WaitsRow G a step → Waits G (attempting_next p bits room session (record a { effect = None }) step reply)
  unfolding attempting_next
  row_waits p bits room session a (Ended its) reply at rests met told row = subst (WaitsRow G (record a { effect = None })) (sym at) row
  row_waits p bits room session a Looks reply at rests met told row = look_waits p bits (record a { effect = None; mailing = mail_next a.mailing reply }) (mail_ask session (mail_next a.mailing reply)) at (told at) row
  row_waits p bits room session a Tries reply at rests met told row =
      led_waits p (record a { effect = (try_next p room a.trial reply).effect; trial = try_next p room a.trial reply }) (try_ask p (try_next p room a.trial reply)) at refl (try_rests p room a.trial reply rests.0) (met at) row
  row_waits p bits room session a Puts reply at rests met told row = put_waits (record a { effect = None; mailing = mail_next a.mailing reply }) (mail_ask session (mail_next a.mailing reply)) at row

  pub attempt_waits : (p : Places) (bits room session : ℕ) (a : AttemptState) (reply : ℕ) → AttemptRestsOrAsks a → (a.step ≡ Tries → MeetsTry p room a reply) → (a.step ≡ Looks → LooksSo G session a reply) → Waits G a → Waits G (attempt_next p bits room session a reply)
  attempt_waits p bits room session a reply rests met told row = row_waits p bits room session a a.step reply refl rests met told row

  -- and how it begins
  pub attempt_begun_waits : (p : Places) (bits : ℕ) (pending : PendingRequest) (seen : Seen) (occasion : Occasion) (spare : ℕ) (is_orphaned : Bool) → SeeksWhereAsked pending → (is_poll occasion ≡ true → SeeksOr G pending)
      → Waits G (attempt_begun p bits pending seen occasion spare is_orphaned)
  attempt_begun_waits p bits pending seen occasion spare is_orphaned asked one =
      let its : AttemptState = new_attempt bits pending seen occasion spare is_orphaned in
      either pending.has_asked (record its { mailing = LoadsState Take; step = Looks }) (goes_on p bits its) (λ e. (asked, λ read. asked read e))
      (λ e. either (is_seeking_read its) (puts its) (tries p bits its) (λ f. puts_waits its (seeking (is_poll occasion) (is_read pending.request.op) (is_some pending.sought) f)) (λ f. (asked, tried_anew occasion pending f one)))

-- ---- what is known of a floor goes on
module _ (G G' : ℕ → Type 0) (on : (floor : ℕ) → G floor → G' floor) where
  seeks_or_on : (some : Bool) (floor : ℕ) → (some ≡ true) ⊎ G floor → (some ≡ true) ⊎ G' floor
  seeks_or_on some floor (inl is) = inl is
  seeks_or_on some floor (inr so) = inr (on floor so)

  pub pending_on : (pending : PendingRequest) → SeeksOr G pending → SeeksOr G' pending
  pending_on pending one = λ read. seeks_or_on (is_some pending.sought) pending.request.floor.0 (one read)

  by_answer : (pending : PendingRequest) (its : TryAnswer) → SeeksBy G pending its → SeeksBy G' pending its
  by_answer pending (answer.Wait why) so = pending_on pending so
  by_answer pending (answer.AwaitsDisk its) so = pending_on pending so
  by_answer pending answer.Shift so = pending_on pending so
  by_answer pending answer.IndexFull so = pending_on pending so
  by_answer pending answer.LogFull so = pending_on pending so
  by_answer pending (answer.Done reply) so = tt
  by_answer pending (answer.Found value) so = tt
  by_answer pending answer.Absent so = tt

  pub row_on : (a : AttemptState) (step : Attempting) → WaitsRow G a step → WaitsRow G' a step
  row_on a (Ended its) so = by_answer a.pending its so
  row_on a Puts so = so
  row_on a Looks so = so
  row_on a Tries so = (so.0, λ poll read. let its = so.1 poll read in (its.0, on a.pending.request.floor.0 its.1))
