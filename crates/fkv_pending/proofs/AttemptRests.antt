-- An attempt that has begun is at its end, or it asks.
use Rattle.std.proofs.Common.{◌≡◌, ℕ, ◌∙◌, refl, sym, subst, Bool, true, false}
use Rattle.std.specs.Option.{is_some}
use Rattle.std.specs.Prelude.{◌==◌, ◌&&◌, if◌then◌else◌, Option, Some, None, ⊤}
use Rattle.fkv_map.specs.Keys.{key_of}
use Rattle.fkv_plane.specs.declared.asks.Ask.{Ask}
use Rattle.fkv_plane.specs.declared.asks.Ask.TheVariants.{Done}
use Rattle.fkv_plane.specs.declared.places.Places.{Places}
use Rattle.fkv_plane.specs.Passing.{is_done}
use Rattle.fkv_plane.proofs.Shown.{passed_done}
use Rattle.fkv_ops.specs.declared.answers.DiskRecord.{DiskRecord}
use Rattle.fkv_ops.specs.declared.answers.TryAnswer.{TryAnswer}
use Rattle.fkv_ops.specs.declared.answers.TryAnswer.TheVariants as answer
use Rattle.fkv_ops.specs.declared.header_words.HeaderSaid.{HeaderSaid}
use Rattle.fkv_ops.specs.declared.header_words.HeaderSaid.TheVariants.{Says, Spoiled}
use Rattle.fkv_ops.specs.declared.requests.Occasion.{Occasion}
use Rattle.fkv_ops.specs.declared.requests.Seen.{Seen}
use Rattle.fkv_ops.specs.HeaderWords.{header_said}
use Rattle.fkv_ops.specs.Requests.{is_read, is_chain_end}
use Rattle.fkv_ops.specs.Values.{value_of}
use Rattle.fkv_ops.specs.Trying.{told_value, try_ask, try_next}
use Rattle.fkv_ops.proofs.Shown.{is_try_end, TryRestsOrAsks, try_done, try_begun_rests, try_begun_asks, try_rests}
use Rattle.fkv_pending.specs.declared.attempting.Attempting.{Attempting}
use Rattle.fkv_pending.specs.declared.attempting.Attempting.TheVariants.{Ended, Looks, Tries, Puts}
use Rattle.fkv_pending.specs.declared.mailing.MailAnswer.{MailAnswer}
use Rattle.fkv_pending.specs.declared.mailing.MailAnswer.TheVariants as mail
use Rattle.fkv_pending.specs.declared.mailing.MailRecord.{MailRecord}
use Rattle.fkv_pending.specs.declared.mailing.MailTask.TheVariants.{Take, Put}
use Rattle.fkv_pending.specs.declared.mailing.Mailing.TheVariants.{LoadsState, StoresAddress}
use Rattle.fkv_pending.specs.declared.pending_requests.PendingRequest.{PendingRequest}
use Rattle.fkv_pending.specs.Mailing.{mail_ask, mail_next, is_gone, begin_told}
use Rattle.fkv_pending.specs.MailWorld.{is_at_end}
use Rattle.fkv_pending.specs.Pending.{with_sought, with_held, with_latch, with_asked, without_gone}
use Rattle.fkv_pending.specs.Attempting.{AttemptState, attempting_ask, attempt_ask, attempt_ended, waits_for_disk, puts_addr, puts, tries, is_poll, is_seeking_read, goes_on, attempt_begun, held_of, moved_on, read_on, record_taken, not_ready, look_ledto, held_kept, awaits_record, tried, try_ledto, put_ledto, mail_moved, try_moved, attempting_next, attempt_next, new_attempt, mail_taken}
use Rattle.fkv_pending.proofs.MailAsks.{mail_done}

abbrev pub is_attempt_end : Attempting → Bool
is_attempt_end (Ended its) = true
is_attempt_end step = false

-- the machine inside that is driven is under way
abbrev pub AttemptAsksAt : AttemptState → Attempting → Type 0
AttemptAsksAt a (Ended its) = ⊤
AttemptAsksAt a Looks = is_at_end a.mailing ≡ false
AttemptAsksAt a Tries = TryRestsOrAsks a.trial × (is_try_end a.trial.step ≡ false)
AttemptAsksAt a Puts = is_at_end a.mailing ≡ false

abbrev pub AttemptRestsOrAsks : AttemptState → Type 0
AttemptRestsOrAsks a = AttemptAsksAt a a.step

attempting_done : (p : Places) (session : ℕ) (a : AttemptState) (step : Attempting) → AttemptAsksAt a step → is_done (attempting_ask p session a step) ≡ is_attempt_end step
unfolding attempting_ask
attempting_done p session a (Ended its) at = refl
attempting_done p session a Looks at = passed_done (mail_ask session a.mailing) answer.Shift ∙ mail_done session a.mailing ∙ at
attempting_done p session a Tries at = passed_done (try_ask p a.trial) answer.Shift ∙ try_done p a.trial at.0 ∙ at.1
attempting_done p session a Puts at = passed_done (mail_ask session a.mailing) answer.Shift ∙ mail_done session a.mailing ∙ at

-- it is at an end exactly where it has ended
pub attempt_done : (p : Places) (session : ℕ) (a : AttemptState) → AttemptRestsOrAsks a → is_done (attempt_ask p session a) ≡ is_attempt_end a.step
attempt_done p session a at = attempting_done p session a a.step at

puts_addr_rests : (a : AttemptState) (sought : Option DiskRecord) → AttemptRestsOrAsks (puts_addr a sought)
puts_addr_rests a None = tt
puts_addr_rests a (Some sought) = tested a.is_emptied
  where
    tested : (b : Bool) → is_at_end (if b then StoresAddress sought.addr else LoadsState (Put sought.addr)) ≡ false
    tested true = refl
    tested false = refl

puts_rests : (a : AttemptState) → AttemptRestsOrAsks (puts a)
puts_rests a = puts_addr_rests a a.pending.sought

tries_rests : (p : Places) (bits : ℕ) (a : AttemptState) → AttemptRestsOrAsks (tries p bits a)
tries_rests p bits a =
    let rests = try_begun_rests p bits a.pending.request a.seen a.occasion a.spare in
    (rests, sym (try_done p (tries p bits a).trial rests) ∙ try_begun_asks p bits a.pending.request a.seen a.occasion a.spare)

goes_on_rests : (p : Places) (bits : ℕ) (a : AttemptState) → AttemptRestsOrAsks (goes_on p bits a)
goes_on_rests p bits a = tested (is_seeking_read a)
  where
    tested : (b : Bool) → AttemptRestsOrAsks (if b then puts a else tries p bits a)
    tested true = puts_rests a
    tested false = tries_rests p bits a

pub attempt_begun_rests : (p : Places) (bits : ℕ) (pending : PendingRequest) (seen : Seen) (occasion : Occasion) (spare : ℕ) (is_orphaned : Bool)
    → AttemptRestsOrAsks (attempt_begun p bits pending seen occasion spare is_orphaned)
attempt_begun_rests p bits pending seen occasion spare is_orphaned = tested pending.has_asked
  where
    its : AttemptState
    its = new_attempt bits pending seen occasion spare is_orphaned

    tested : (b : Bool) → AttemptRestsOrAsks (if b then record its { mailing = LoadsState Take; step = Looks } else goes_on p bits its)
    tested true = refl
    tested false = goes_on_rests p bits its

-- and it asks as it begins: a read that is put off seeks a record
goes_on_asks : (p : Places) (bits : ℕ) (a : AttemptState) → is_attempt_end (goes_on p bits a).step ≡ false
goes_on_asks p bits a = tested a.pending.sought (is_poll a.occasion) (is_read a.pending.request.op)
  where
    tested : (sought : Option DiskRecord) (b c : Bool) → is_attempt_end (if b && (c && is_some sought) then puts_addr a sought else tries p bits a).step ≡ false
    tested sought false c = refl
    tested sought true false = refl
    tested None true true = refl
    tested (Some sought) true true = refl

pub attempt_begun_asks : (p : Places) (bits session : ℕ) (pending : PendingRequest) (seen : Seen) (occasion : Occasion) (spare : ℕ) (is_orphaned : Bool)
    → is_done (attempt_ask p session (attempt_begun p bits pending seen occasion spare is_orphaned)) ≡ false
attempt_begun_asks p bits session pending seen occasion spare is_orphaned =
    let begun = attempt_begun p bits pending seen occasion spare is_orphaned in
    attempt_done p session begun (attempt_begun_rests p bits pending seen occasion spare is_orphaned) ∙ tested pending.has_asked
  where
    its : AttemptState
    its = new_attempt bits pending seen occasion spare is_orphaned

    tested : (b : Bool) → is_attempt_end (if b then record its { mailing = LoadsState Take; step = Looks } else goes_on p bits its).step ≡ false
    tested true = refl
    tested false = goes_on_asks p bits its

read_on_rests : (a : AttemptState) (its : MailRecord) (said : HeaderSaid) → AttemptRestsOrAsks (read_on a its said)
read_on_rests a its Spoiled = puts_rests a
read_on_rests a its (Says previous version) = tested (its.key.0 == (key_of a.pending.request.op).0) (is_chain_end a.pending.request.floor previous)
  where
    tested : (b c : Bool)
        → AttemptRestsOrAsks (if b then attempt_ended a (told_value (value_of its.value)) else if c then attempt_ended a answer.Absent else puts (record a { pending = with_sought a.pending (moved_on a.pending.sought previous) }))
    tested true c = tt
    tested false true = tt
    tested false false = puts_rests (record a { pending = with_sought a.pending (moved_on a.pending.sought previous) })

record_taken_rests : (p : Places) (bits : ℕ) (a : AttemptState) (its : MailRecord) (said : HeaderSaid) → AttemptRestsOrAsks (record_taken p bits a its said)
record_taken_rests p bits a its said = tested (is_seeking_read a)
  where
    tested : (b : Bool) → AttemptRestsOrAsks (if b then read_on a its said else tries p bits (record a { pending = with_held a.pending (held_of a.pending.sought its said) }))
    tested true = read_on_rests a its said
    tested false = tries_rests p bits (record a { pending = with_held a.pending (held_of a.pending.sought its said) })

mail_taken_rests : (p : Places) (bits : ℕ) (a : AttemptState) (its : MailRecord) → AttemptRestsOrAsks (mail_taken p bits a its)
mail_taken_rests p bits a its = tested (is_gone its) (is_seeking_read a)
  where
    anew : AttemptState
    anew = record a { pending = without_gone a.pending (begin_told its) }

    tested : (b read : Bool) → AttemptRestsOrAsks (if b then (if read then waits_for_disk anew else tries p bits anew) else record_taken p bits a its (header_said its.header))
    tested true true = tt
    tested true false = tries_rests p bits anew
    tested false read = record_taken_rests p bits a its (header_said its.header)

not_ready_rests : (p : Places) (bits : ℕ) (a : AttemptState) → AttemptRestsOrAsks (not_ready p bits a)
not_ready_rests p bits a = tested (is_seeking_read a)
  where
    tested : (b : Bool) → AttemptRestsOrAsks (if b then waits_for_disk a else tries p bits a)
    tested true = tt
    tested false = tries_rests p bits a

awaits_rests : (a : AttemptState) (sought : DiskRecord) → AttemptRestsOrAsks (awaits_record a sought)
awaits_rests a sought = tested a.pending.has_asked
  where
    its : AttemptState
    its = record a { pending = with_held a.pending (held_kept a.pending.request.held sought.entry) }

    tested : (b : Bool) → AttemptRestsOrAsks (if b then waits_for_disk its else puts (record its { pending = with_sought its.pending (Some sought) }))
    tested true = tt
    tested false = puts_rests (record its { pending = with_sought its.pending (Some sought) })

tried_rests : (a : AttemptState) (its : TryAnswer) → AttemptRestsOrAsks (tried a its)
tried_rests a (answer.AwaitsDisk sought) = awaits_rests a sought
tried_rests a (answer.Wait its) = tt
tried_rests a its = tt

inside_mail : (session : ℕ) (a : AttemptState) (ask : Ask MailAnswer) → ask ≡ mail_ask session a.mailing → is_done ask ≡ false → is_at_end a.mailing ≡ false
inside_mail session a ask e asks = sym (mail_done session a.mailing) ∙ subst (λ (its : Ask MailAnswer). is_done its ≡ false) e asks

look_rests : (p : Places) (bits session : ℕ) (a : AttemptState) (ask : Ask MailAnswer) → a.step ≡ Looks → ask ≡ mail_ask session a.mailing → AttemptRestsOrAsks (look_ledto p bits a ask)
unfolding look_ledto
look_rests p bits session a (Done (mail.Taken its)) at e = mail_taken_rests p bits (record a { is_emptied = true; pending = with_asked a.pending false }) its
look_rests p bits session a (Done other) at e = not_ready_rests p bits a
look_rests p bits session a ask at e = rw at (inside_mail session a ask e refl)

put_rests : (session : ℕ) (a : AttemptState) (ask : Ask MailAnswer) → a.step ≡ Puts → ask ≡ mail_ask session a.mailing → AttemptRestsOrAsks (put_ledto a ask)
unfolding put_ledto
put_rests session a (Done mail.Asked) at e = tt
put_rests session a (Done other) at e = tt
put_rests session a ask at e = rw at (inside_mail session a ask e refl)

inside_try : (p : Places) (a : AttemptState) (ask : Ask TryAnswer) → TryRestsOrAsks a.trial → ask ≡ try_ask p a.trial → is_done ask ≡ false → is_try_end a.trial.step ≡ false
inside_try p a ask rests e asks = sym (try_done p a.trial rests) ∙ subst (λ (its : Ask TryAnswer). is_done its ≡ false) e asks

try_led_rests : (p : Places) (a : AttemptState) (ask : Ask TryAnswer) → a.step ≡ Tries → TryRestsOrAsks a.trial → ask ≡ try_ask p a.trial → AttemptRestsOrAsks (try_ledto a ask)
unfolding try_ledto
try_led_rests p a (Done its) at rests e = tried_rests (record a { spare = a.trial.spare; pending = with_latch a.pending a.trial.has_shared }) its
try_led_rests p a ask at rests e = rw at (rests, inside_try p a ask rests e refl)

attempting_rests : (p : Places) (bits room session : ℕ) (a : AttemptState) (step : Attempting) (reply : ℕ) → a.step ≡ step → AttemptAsksAt a step → AttemptRestsOrAsks (attempting_next p bits room session a step reply)
unfolding attempting_next
attempting_rests p bits room session a (Ended its) reply at asks = rw at tt
attempting_rests p bits room session a Looks reply at asks = look_rests p bits session (mail_moved a reply) (mail_ask session (mail_next a.mailing reply)) at refl
attempting_rests p bits room session a Tries reply at asks = try_led_rests p (try_moved p room a reply) (try_ask p (try_next p room a.trial reply)) at (try_rests p room a.trial reply asks.0) refl
attempting_rests p bits room session a Puts reply at asks = put_rests session (mail_moved a reply) (mail_ask session (mail_next a.mailing reply)) at refl

effect_rests : (a : AttemptState) (step : Attempting) → AttemptAsksAt a step → AttemptAsksAt (record a { effect = None }) step
effect_rests a (Ended its) asks = asks
effect_rests a Looks asks = asks
effect_rests a Tries asks = asks
effect_rests a Puts asks = asks

-- it stays so behind each reply
pub attempt_rests : (p : Places) (bits room session : ℕ) (a : AttemptState) (reply : ℕ) → AttemptRestsOrAsks a → AttemptRestsOrAsks (attempt_next p bits room session a reply)
attempt_rests p bits room session a reply asks = attempting_rests p bits room session (record a { effect = None }) a.step reply refl (effect_rests a a.step asks)
