-- An attempt that ends in waiting leaves its update with its share, if the session has come to prepare of the update's version. Else it leaves it without.
use Rattle.std.proofs.Common.{◌≡◌, ◌⊎◌, inl, inr, ℕ, ◌<◌, ◌≤◌, ◌∙◌, refl, sym, subst, Bool, true, false}
use Rattle.std.specs.Prelude.{Option, Some, None, if◌then◌else◌, ◌==◌, ◌&&◌, ◌||◌, not}
use Rattle.std.specs.Option.{is_some}
use Rattle.fkv_base.specs.declared.numbers.Addr.{Addr}
use Rattle.fkv_map.specs.Keys.{key_of}
use Rattle.fkv_plane.specs.declared.asks.Ask.{Ask}
use Rattle.fkv_plane.specs.declared.asks.Ask.TheVariants.{Done}
use Rattle.law_refine.specs.Below.fkv_ops.DiskRecord.{DiskRecord}
use Rattle.law_refine.specs.Below.fkv_ops.Reason.TheVariants as reason
use Rattle.law_refine.specs.Below.fkv_ops.TryAnswer.{TryAnswer}
use Rattle.law_refine.specs.Below.fkv_ops.TryAnswer.TheVariants as answer
use Rattle.law_refine.specs.Below.fkv_ops.HeaderSaid.{HeaderSaid}
use Rattle.law_refine.specs.Below.fkv_ops.HeaderSaid.TheVariants.{Says, Spoiled}
use Rattle.law_refine.specs.Below.fkv_ops.HeldRecord.{HeldRecord}
use Rattle.law_refine.specs.Below.fkv_ops.Occasion.{Occasion}
use Rattle.law_refine.specs.Below.fkv_ops.Request.{Request}
use Rattle.law_refine.specs.Below.fkv_ops.Seen.{Seen}
use Rattle.law_refine.specs.Below.fkv_ops.HeaderWords.{header_said}
use Rattle.law_refine.specs.Below.fkv_ops.Requests.{is_chain_end, is_read}
use Rattle.law_refine.specs.Below.fkv_ops.Trying.{is_prepare, is_wait, told_value, try_ask}
use Rattle.law_refine.specs.Below.fkv_ops.Values.{value_of}
use Rattle.law_refine.proofs.Below.fkv_ops.Shown.{IsTrying, begun_trying, ended_keeps, next_trying}
use Rattle.law_refine.specs.Below.fkv_pending.TheAttempting.{Attempting}
use Rattle.law_refine.specs.Below.fkv_pending.TheAttempting.TheVariants.{Ended, Looks, Puts, Tries}
use Rattle.law_refine.specs.Below.fkv_pending.MailAnswer.{MailAnswer}
use Rattle.law_refine.specs.Below.fkv_pending.MailAnswer.TheVariants as mail
use Rattle.law_refine.specs.Below.fkv_pending.MailRecord.{MailRecord}
use Rattle.law_refine.specs.Below.fkv_pending.Mailing.{begin_told, is_gone}
use Rattle.law_refine.specs.Below.fkv_pending.PendingRequest.{PendingRequest}
use Rattle.law_refine.specs.Below.fkv_pending.Pending.{with_asked, with_held, with_latch, with_sought, without_gone}
use Rattle.law_refine.specs.Below.fkv_pending.Attempting.{AttemptState, attempt_begun, attempt_ended, attempt_next, attempting_next, goes_anew, goes_on, held_kept, held_of, is_poll, is_seeking_read, look_ledto, mail_moved, mail_taken, moved_on, new_attempt, put_ledto, puts, puts_addr, read_on, record_taken, tried, tries, try_ledto, try_moved, waits_for_disk}
use Rattle.law_refine.proofs.Below.fkv_pending.Shown.{AttemptRestsOrAsks, attempt_begun_rests, attempt_rests}
use Rattle.law_refine.specs.Below.fkv_session.Sessions.{Seat, bits_of, room_of}
use Rattle.law_refine.specs.Below.fkv_session.Shares.{HasItsBuckets}
use Rattle.law_refine.proofs.Below.fkv_session.Shown.{trial_at}
use Rattle.law_commit.specs.Shares.Since.{HasPrepared}

-- What is known of a request: it is of no later version than its session's. It shares its latch only from prepare of its version on, or since T. And it does if C.
pub record Shares (seen : Seen) (T C : Type 0) (request : Request) : Type 0 where
  pub upto : request.version.0 ≤ seen.version.0
  pub only : request.has_latch ≡ true → HasPrepared seen request.version.0 ⊎ T
  pub since : C → request.has_latch ≡ true

-- if it is an update; what it does from prepare on is known only if none has shifted
abbrev pub IsSharing : Bool → Seen → Type 0 → PendingRequest → Type 0
IsSharing unshifted seen T p = is_read p.request.op ≡ false → Shares seen T ((unshifted ≡ true) × HasPrepared seen p.request.version.0) p.request

-- as it comes to its try it may have to take its share yet
abbrev pub IsOlder : Bool → Seen → PendingRequest → Type 0
IsOlder unshifted seen p = is_read p.request.op ≡ false → Shares seen ⊥ ((unshifted ≡ true) × (p.request.version.0 < seen.version.0)) p.request

-- as its try leaves it
abbrev pub IsLeft : Bool → Seen → TryAnswer → PendingRequest → Type 0
IsLeft unshifted seen found p = is_read p.request.op ≡ false → Shares seen ⊥ ((unshifted ≡ true) × ((is_wait found ≡ true) × HasPrepared seen p.request.version.0)) p.request

-- ---- tests
middle_so : (x y z : Bool) → (x && (y && z)) ≡ true → y ≡ true
middle_so true true z e = refl
middle_so true false z e = cc
middle_so false y z e = cc

seeking_reads : (a : AttemptState) → is_seeking_read a ≡ true → is_read a.pending.request.op ≡ true
seeking_reads a e = middle_so (is_poll a.occasion) (is_read a.pending.request.op) (is_some a.pending.sought) e

came_so : (has wait latch prepare read : Bool) → has ≡ (wait && (latch || (prepare && not read))) → has ≡ true → (latch ≡ true) ⊎ (prepare ≡ true)
came_so has true true prepare read e is = inl refl
came_so has true false true read e is = inr refl
came_so has true false false read e is = let clash : false ≡ true = sym e ∙ is in cc
came_so has false latch prepare read e is = let clash : false ≡ true = sym e ∙ is in cc

latch_stays : (has wait latch prepare read : Bool) → has ≡ (wait && (latch || (prepare && not read))) → wait ≡ true → latch ≡ true → has ≡ true
latch_stays has true true prepare read e waits latched = e
latch_stays has true false prepare read e waits latched = cc
latch_stays has false latch prepare read e waits latched = cc

prepare_takes : (has wait latch prepare read : Bool) → has ≡ (wait && (latch || (prepare && not read))) → wait ≡ true → prepare ≡ true → read ≡ false → has ≡ true
prepare_takes has true true prepare read e waits prepares updates = e
prepare_takes has true false true false e waits prepares updates = e
prepare_takes has true false true true e waits prepares updates = cc
prepare_takes has true false false read e waits prepares updates = cc
prepare_takes has false latch prepare read e waits prepares updates = cc

no_read : {X : Type 0} (b : Bool) → b ≡ true → b ≡ false → X
no_read true one other = cc
no_read false one other = cc

-- ---- what changes of a request besides its latch
module _ (unshifted : Bool) (seen : Seen) where
  abbrev Full : PendingRequest → Type 0
  Full p = IsSharing unshifted seen ⊥ p

  of_read : (p : PendingRequest) → is_read p.request.op ≡ true → Full p
  of_read p read = λ updates. no_read (is_read p.request.op) read updates

  left_read : (found : TryAnswer) (p : PendingRequest) → is_read p.request.op ≡ true → IsLeft unshifted seen found p
  left_read found p read = λ updates. no_read (is_read p.request.op) read updates

  full_left : (found : TryAnswer) (p : PendingRequest) → Full p → IsLeft unshifted seen found p
  full_left found p so = λ updates. record { upto = (so updates).upto; only = (so updates).only; since = λ c. (so updates).since (c.0, c.1.1) }

  pub left_full : (found : TryAnswer) (p : PendingRequest) → (unshifted ≡ true → is_wait found ≡ true) → IsLeft unshifted seen found p → Full p
  left_full found p waits so = λ updates. record { upto = (so updates).upto; only = (so updates).only; since = λ c. (so updates).since (c.0, (waits c.0, c.1)) }

  full_older : (p : PendingRequest) → Full p → IsOlder unshifted seen p
  full_older p so = λ updates. record { upto = (so updates).upto; only = (so updates).only; since = λ c. (so updates).since (c.0, inr c.1) }

  sought_full : (p : PendingRequest) (sought : Option DiskRecord) → Full p → Full (with_sought p sought)
  unfolding with_sought
  sought_full p sought so = so

  sought_read : (p : PendingRequest) (sought : Option DiskRecord) → is_read p.request.op ≡ true → is_read (with_sought p sought).request.op ≡ true
  unfolding with_sought
  sought_read p sought read = read

  asked_full : (p : PendingRequest) (asked : Bool) → Full p → Full (with_asked p asked)
  unfolding with_asked
  asked_full p asked so = so

  held_older : (p : PendingRequest) (held : Option HeldRecord) → IsOlder unshifted seen p → IsOlder unshifted seen (with_held p held)
  unfolding with_held
  held_older p held so = λ updates. record { upto = (so updates).upto; only = (so updates).only; since = (so updates).since }

  gone_older : (p : PendingRequest) (begin : Addr) → IsOlder unshifted seen p → IsOlder unshifted seen (without_gone p begin)
  unfolding without_gone
  gone_older p begin so = λ updates. record { upto = (so updates).upto; only = (so updates).only; since = (so updates).since }

  gone_read : (p : PendingRequest) (begin : Addr) → is_read p.request.op ≡ true → is_read (without_gone p begin).request.op ≡ true
  unfolding without_gone
  gone_read p begin read = read

  held_left : (found : TryAnswer) (p : PendingRequest) (held : Option HeldRecord) → IsLeft unshifted seen found p → IsLeft unshifted seen found (with_held p held)
  unfolding with_held
  held_left found p held so = λ updates. record { upto = (so updates).upto; only = (so updates).only; since = (so updates).since }

-- ---- an attempt
module _ (k : Seat) (its : HasItsBuckets k) (unshifted : Bool) (seen : Seen) where
  abbrev pub KnowsSharing : AttemptState → Attempting → Type 0
  KnowsSharing a (Ended found) = IsLeft unshifted seen found a.pending
  KnowsSharing a Looks = (a.seen ≡ seen) × IsSharing unshifted seen ⊥ a.pending
  KnowsSharing a Tries = IsTrying (trial_at k its a.pending.request seen a.occasion) a.trial × IsOlder unshifted seen a.pending
  KnowsSharing a Puts = IsSharing unshifted seen ⊥ a.pending

  pub record IsAttemptSharing (a : AttemptState) : Type 0 where
    pub rests : AttemptRestsOrAsks a
    pub knows : KnowsSharing a a.step

  abbrev Now : AttemptState → Type 0
  Now a = KnowsSharing a a.step

  either_now : (c : Bool) (a b : AttemptState) → (c ≡ true → Now a) → Now b → Now (if c then a else b)
  either_now true a b one other = one refl
  either_now false a b one other = other

  still_now : (a : AttemptState) (step : Attempting) → a.step ≡ step → KnowsSharing a step → Now a
  still_now a step at knows = subst (λ (x : Attempting). KnowsSharing a x) (sym at) knows

  puts_now : (a : AttemptState) (sought : Option DiskRecord) → IsSharing unshifted seen ⊥ a.pending → Now (puts_addr a sought)
  puts_now a None so = full_left unshifted seen (answer.Wait reason.Disk) a.pending so
  puts_now a (Some sought) so = so

  tries_now : (a : AttemptState) → a.seen ≡ seen → IsOlder unshifted seen a.pending → Now (tries k.places (bits_of k) a)
  tries_now a same older =
      (subst (λ (x : Seen). IsTrying (trial_at k its a.pending.request x a.occasion) (tries k.places (bits_of k) a).trial) same (begun_trying (trial_at k its a.pending.request a.seen a.occasion) a.spare), older)

  goes_now : (a : AttemptState) → a.seen ≡ seen → IsOlder unshifted seen a.pending → Now (goes_on k.places (bits_of k) a)
  goes_now a same older =
      either_now (is_seeking_read a) (puts a) (tries k.places (bits_of k) a) (λ seeks. puts_now a a.pending.sought (of_read unshifted seen a.pending (seeking_reads a seeks))) (tries_now a same older)

  begun_now : (pending : PendingRequest) (occasion : Occasion) (spare : ℕ) (is_orphaned : Bool) → (pending.has_asked ≡ true → IsSharing unshifted seen ⊥ pending) → IsOlder unshifted seen pending
      → Now (attempt_begun k.places (bits_of k) pending seen occasion spare is_orphaned)
  begun_now pending occasion spare is_orphaned full older =
      let first : AttemptState = new_attempt (bits_of k) pending seen occasion spare is_orphaned in
      either_now pending.has_asked _ (goes_on k.places (bits_of k) first) (λ asked. (refl, full asked)) (goes_now first refl older)

  -- a look into the mailbox
  read_now : (a : AttemptState) (its_mail : MailRecord) (said : HeaderSaid) → is_read a.pending.request.op ≡ true → Now (read_on a its_mail said)
  read_now a its_mail Spoiled read = puts_now a a.pending.sought (of_read unshifted seen a.pending read)
  read_now a its_mail (Says previous version) read =
      let next : PendingRequest = with_sought a.pending (moved_on a.pending.sought previous) in
      let moved : AttemptState = record a { pending = next } in
      let found : AttemptState = attempt_ended a (told_value (value_of its_mail.value)) in
      let absent : AttemptState = attempt_ended a answer.Absent in
      either_now (its_mail.key.0 == (key_of a.pending.request.op).0) found (if is_chain_end a.pending.request.floor previous then absent else puts moved) (λ e. left_read unshifted seen (told_value (value_of its_mail.value)) a.pending read)
      (either_now (is_chain_end a.pending.request.floor previous) absent (puts moved) (λ e. left_read unshifted seen answer.Absent a.pending read)
      (puts_now moved next.sought (of_read unshifted seen next (sought_read unshifted seen a.pending (moved_on a.pending.sought previous) read))))

  taken_now : (a : AttemptState) (its_mail : MailRecord) (said : HeaderSaid) → a.seen ≡ seen → Full unshifted seen a.pending
      → Now (record_taken k.places (bits_of k) a its_mail said)
  taken_now a its_mail said same so =
      let held : Option HeldRecord = held_of a.pending.sought its_mail said in
      let holding : AttemptState = record a { pending = with_held a.pending held } in
      either_now (is_seeking_read a) (read_on a its_mail said) (tries k.places (bits_of k) holding)
      (λ seeks. read_now a its_mail said (seeking_reads a seeks))
      (tries_now holding same (held_older unshifted seen a.pending held (full_older unshifted seen a.pending so)))

  -- where the record is gone a read waits, and an update is tried
  anew_now : (a : AttemptState) (begin : Addr) → a.seen ≡ seen → Full unshifted seen a.pending → Now (goes_anew k.places (bits_of k) a begin)
  anew_now a begin same so =
      let next : PendingRequest = without_gone a.pending begin in
      let without : AttemptState = record a { pending = next } in
      either_now (is_seeking_read a) (waits_for_disk without) (tries k.places (bits_of k) without)
      (λ seeks. left_read unshifted seen (answer.Wait reason.Disk) next (gone_read unshifted seen a.pending begin (seeking_reads a seeks)))
      (tries_now without same (gone_older unshifted seen a.pending begin (full_older unshifted seen a.pending so)))

  mail_now : (a : AttemptState) (its_mail : MailRecord) → a.seen ≡ seen → Full unshifted seen a.pending → Now (mail_taken k.places (bits_of k) a its_mail)
  mail_now a its_mail same so =
      either_now (is_gone its_mail) (goes_anew k.places (bits_of k) a (begin_told its_mail)) (record_taken k.places (bits_of k) a its_mail (header_said its_mail.header))
      (λ gone. anew_now a (begin_told its_mail) same so) (taken_now a its_mail (header_said its_mail.header) same so)

  look_now : (a : AttemptState) (ask : Ask MailAnswer) → a.step ≡ Looks → a.seen ≡ seen → IsSharing unshifted seen ⊥ a.pending → Now (look_ledto k.places (bits_of k) a ask)
  unfolding look_ledto
  look_now a (Done (mail.Taken it)) at same so =
      mail_now (record a { is_emptied = true; pending = with_asked a.pending false }) it same (asked_full unshifted seen a.pending false so)
  look_now a (Done other) at same so =
      either_now (is_seeking_read a) (waits_for_disk a) (tries k.places (bits_of k) a) (λ seeks. left_read unshifted seen (answer.Wait reason.Disk) a.pending (seeking_reads a seeks)) (tries_now a same (full_older unshifted seen a.pending so))
  look_now a ask at same so = still_now a Looks at (same, so)

  put_now : (a : AttemptState) (ask : Ask MailAnswer) → a.step ≡ Puts → IsSharing unshifted seen ⊥ a.pending → Now (put_ledto a ask)
  unfolding put_ledto
  put_now a (Done mail.Asked) at so = full_left unshifted seen (answer.Wait reason.Disk) (with_asked a.pending true) (asked_full unshifted seen a.pending true so)
  put_now a (Done other) at so = full_left unshifted seen (answer.Wait reason.Disk) a.pending so
  put_now a ask at so = still_now a Puts at so

  -- the end of a try
  tried_now : (a : AttemptState) (found : TryAnswer) → IsLeft unshifted seen found a.pending → Now (tried a found)
  tried_now a (answer.AwaitsDisk sought) so =
      let held : Option HeldRecord = held_kept a.pending.request.held sought.entry in
      let kept : PendingRequest = with_held a.pending held in
      let here : AttemptState = record a { pending = kept } in
      let next : PendingRequest = with_sought kept (Some sought) in
      let full = left_full unshifted seen (answer.AwaitsDisk sought) kept (λ is. refl) (held_left unshifted seen (answer.AwaitsDisk sought) a.pending held so) in
      either_now a.pending.has_asked (waits_for_disk here) (puts (record here { pending = next })) (λ asked. full_left unshifted seen (answer.Wait reason.Disk) kept full)
      (puts_now (record here { pending = next }) next.sought (sought_full unshifted seen kept (Some sought) full))
  tried_now a (answer.Wait why) so = so
  tried_now a (answer.Done reply) so = so
  tried_now a (answer.Found value) so = so
  tried_now a answer.Absent so = so
  tried_now a answer.Shift so = so
  tried_now a answer.IndexFull so = so
  tried_now a answer.LogFull so = so

  ended_left : (a : AttemptState) (found : TryAnswer) → try_ask k.places a.trial ≡ Done found → IsTrying (trial_at k its a.pending.request seen a.occasion) a.trial → IsOlder unshifted seen a.pending
      → IsLeft unshifted seen found (with_latch a.pending a.trial.has_shared)
  unfolding with_latch
  ended_left a found asks trying older updates =
      let r : Request = a.pending.request in
      let keeps = ended_keeps (trial_at k its r seen a.occasion) a.trial found trying asks in
      let was = older updates in
      record {
        upto = was.upto;
        only = λ has. elim (came_so a.trial.has_shared (is_wait found) r.has_latch (is_prepare seen.phase) (is_read r.op) keeps.shares has) [ inl latched ↦ was.only latched | inr prepares ↦ inl (inl prepares) ];
        since = λ c. elim c.1.1 [
          | inl prepares ↦ prepare_takes a.trial.has_shared (is_wait found) r.has_latch (is_prepare seen.phase) (is_read r.op) keeps.shares c.1.0 prepares updates
          | inr older_one ↦ latch_stays a.trial.has_shared (is_wait found) r.has_latch (is_prepare seen.phase) (is_read r.op) keeps.shares c.1.0 (was.since (c.0, older_one))
        ];
      }

  try_now : (a : AttemptState) (ask : Ask TryAnswer) → try_ask k.places a.trial ≡ ask → a.step ≡ Tries → IsTrying (trial_at k its a.pending.request seen a.occasion) a.trial → IsOlder unshifted seen a.pending → Now (try_ledto a ask)
  unfolding try_ledto
  try_now a (Done found) asks at trying older = tried_now (record a { spare = a.trial.spare; pending = with_latch a.pending a.trial.has_shared }) found (ended_left a found asks trying older)
  try_now a ask asks at trying older = still_now a Tries at (trying, older)

  -- each reply
  step_now : (a : AttemptState) (step : Attempting) (reply : ℕ) → a.step ≡ step → KnowsSharing a step → Now (attempting_next k.places (bits_of k) (room_of k) k.number a step reply)
  unfolding attempting_next
  step_now a (Ended found) reply at knows = still_now a (Ended found) at knows
  step_now a Looks reply at knows = look_now (mail_moved a reply) _ at knows.0 knows.1
  step_now a Tries reply at knows =
      try_now (try_moved k.places (room_of k) a reply) _ refl at (next_trying (trial_at k its a.pending.request seen a.occasion) a.trial reply knows.0) knows.1
  step_now a Puts reply at knows = put_now (mail_moved a reply) _ at knows

  effect_now : (a : AttemptState) (step : Attempting) → KnowsSharing a step → KnowsSharing (record a { effect = None }) step
  effect_now a (Ended found) knows = knows
  effect_now a Looks knows = knows
  effect_now a Tries knows = knows
  effect_now a Puts knows = knows

  pub attempt_sharing : (a : AttemptState) (reply : ℕ) → IsAttemptSharing a → IsAttemptSharing (attempt_next k.places (bits_of k) (room_of k) k.number a reply)
  attempt_sharing a reply so = record {
    rests = attempt_rests k.places (bits_of k) (room_of k) k.number a reply so.rests;
    knows = step_now (record a { effect = None }) a.step reply refl (effect_now a a.step so.knows);
  }

  pub begun_sharing : (pending : PendingRequest) (occasion : Occasion) (spare : ℕ) (is_orphaned : Bool) → (pending.has_asked ≡ true → IsSharing unshifted seen ⊥ pending) → IsOlder unshifted seen pending
      → IsAttemptSharing (attempt_begun k.places (bits_of k) pending seen occasion spare is_orphaned)
  begun_sharing pending occasion spare is_orphaned full older =
      record { rests = attempt_begun_rests k.places (bits_of k) pending seen occasion spare is_orphaned; knows = begun_now pending occasion spare is_orphaned full older }

  -- from a request that waits
  pub polled_sharing : (pending : PendingRequest) (occasion : Occasion) (spare : ℕ) (is_orphaned : Bool) → IsSharing unshifted seen ⊥ pending → IsAttemptSharing (attempt_begun k.places (bits_of k) pending seen occasion spare is_orphaned)
  polled_sharing pending occasion spare is_orphaned so = begun_sharing pending occasion spare is_orphaned (λ asked. so) (full_older unshifted seen pending so)
