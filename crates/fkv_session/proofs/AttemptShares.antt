-- What an attempt has added to its request's latch and not taken off is what its request shares, at each of its steps.
use Rattle.std.proofs.Common.{◌≡◌, ℕ, ◌+◌, ◌-◌, ◌^◌, refl, sym, subst, ap, ◌∙◌, arith, Bool, true, false}
use Rattle.std.specs.Prelude.{Option, Some, None, if◌then◌else◌, ◌==◌, ◌&&◌, ◌||◌, not}
use Rattle.std.proofs.lemmas.Bool.Decides.{nat_tests}
use Rattle.fkv_words.specs.Fields.{bit_of}
use Rattle.fkv_map.specs.declared.operations.Op.{Op}
use Rattle.fkv_map.specs.Keys.{key_of}
use Rattle.fkv_plane.specs.declared.asks.Ask.{Ask}
use Rattle.fkv_plane.specs.declared.asks.Ask.TheVariants.{Add, Done}
use Rattle.fkv_plane.specs.Passing.{passed}
use Rattle.fkv_latch.specs.Latching.{one_share}
use Rattle.fkv_ops.specs.declared.answers.DiskRecord.{DiskRecord}
use Rattle.fkv_ops.specs.declared.answers.TryAnswer.{TryAnswer}
use Rattle.fkv_ops.specs.declared.answers.TryAnswer.TheVariants as answer
use Rattle.fkv_ops.specs.declared.header_words.HeaderSaid.{HeaderSaid}
use Rattle.fkv_ops.specs.declared.header_words.HeaderSaid.TheVariants.{Says, Spoiled}
use Rattle.fkv_ops.specs.declared.requests.Occasion.{Occasion}
use Rattle.fkv_ops.specs.declared.requests.Request.{Request}
use Rattle.fkv_ops.specs.declared.requests.Seen.{Seen}
use Rattle.fkv_ops.specs.HeaderWords.{header_said}
use Rattle.fkv_ops.specs.LatchCounts.{is_adding}
use Rattle.fkv_ops.specs.Reasons.{latch_place}
use Rattle.fkv_ops.specs.Requests.{is_read, is_chain_end}
use Rattle.fkv_ops.specs.Trying.{TryState, try_ask, try_next, told_value, is_wait, is_prepare}
use Rattle.fkv_ops.specs.TryRun.{Trial}
use Rattle.fkv_ops.specs.Values.{value_of}
use Rattle.fkv_ops.proofs.Shown.{IsTrying, shares_owed, begun_trying, begun_owes, next_trying, next_owes, AddsThere, adds_there, ended_keeps}
use Rattle.fkv_pending.specs.declared.attempting.Attempting.{Attempting}
use Rattle.fkv_pending.specs.declared.attempting.Attempting.TheVariants.{Ended, Looks, Tries, Puts}
use Rattle.fkv_pending.specs.declared.mailing.MailAnswer.{MailAnswer}
use Rattle.fkv_pending.specs.declared.mailing.MailAnswer.TheVariants as mail
use Rattle.fkv_pending.specs.declared.mailing.MailRecord.{MailRecord}
use Rattle.fkv_pending.specs.declared.pending_requests.PendingRequest.{PendingRequest}
use Rattle.fkv_pending.specs.Pending.{with_sought, with_held, with_latch, with_asked, without_gone}
use Rattle.fkv_pending.specs.Attempting.{AttemptState, is_seeking_read, attempt_ended, waits_for_disk, puts_addr, puts, tries, goes_on, attempt_begun, read_on, moved_on, held_of, held_kept, look_ledto, awaits_record, tried, try_ledto, put_ledto, mail_moved, try_moved, attempting_ask, attempt_ask, attempting_next, attempt_next, new_attempt, goes_anew, record_taken}
use Rattle.fkv_session.specs.Sessions.{Seat, bits_of, room_of}
use Rattle.fkv_session.specs.Shares.{added_by, latch_of, HasItsBuckets}
use Rattle.fkv_session.proofs.SharesSpared.{SharesNone, none_added, none_dropped, passed_added, passed_none, mail_none}
use Rattle.fkv_session.proofs.AttemptMade.{read_of}
use Rattle.fkv_base.specs.declared.numbers.Addr.{Addr}
use Rattle.fkv_pending.specs.Mailing.{is_gone, begin_told}

-- a number that counts where the test holds
abbrev pub there : Bool → ℕ → ℕ
there true n = n
there false n = 0

there_sum : (b : Bool) (m n : ℕ) → there b (m + n) ≡ there b m + there b n
there_sum true m n = refl
there_sum false m n = refl

abbrev pub trial_at : (k : Seat) → HasItsBuckets k → Request → Seen → Occasion → Trial
trial_at k its request seen occasion = record { places = k.places; bits = bits_of k; its_buckets = its; room = room_of k; request = request; seen = seen; occasion = occasion }

-- a try for a request of this operation
pub record IsTryOf (k : Seat) (its : HasItsBuckets k) (op : Op) (t : TryState) : Type 0 where
  pub request : Request
  pub seen : Seen
  pub occasion : Occasion
  pub its_op : request.op ≡ op
  pub reads : is_read op ≡ true → request.has_latch ≡ false
  pub trying : IsTrying (trial_at k its request seen occasion) t

-- what it has yet to take off, or to keep
abbrev pub owed_in : AttemptState → Attempting → ℕ
owed_in a Tries = shares_owed a.trial
owed_in a step = bit_of a.pending.request.has_latch

abbrev pub ReadsNone : PendingRequest → Type 0
ReadsNone p = is_read p.request.op ≡ true → p.request.has_latch ≡ false

-- where it ends but for waiting it shares none
abbrev pub KnowsShare : (k : Seat) → HasItsBuckets k → AttemptState → Attempting → Type 0
KnowsShare k its a (Ended found) = is_wait found ≡ false → a.pending.request.has_latch ≡ false
KnowsShare k its a Tries = IsTryOf k its a.pending.request.op a.trial
KnowsShare k its a step = Unit {0}

pub record IsShareSo (k : Seat) (its : HasItsBuckets k) (owed : ℕ) (a : AttemptState) : Type 0 where
  pub owes : owed_in a a.step ≡ owed
  pub reads : ReadsNone a.pending
  pub knows : KnowsShare k its a a.step

either_so : (c : Bool) (k : Seat) (its : HasItsBuckets k) (owed : ℕ) (a b : AttemptState) → IsShareSo k its owed a → IsShareSo k its owed b → IsShareSo k its owed (if c then a else b)
either_so true k its owed a b one other = one
either_so false k its owed a b one other = other

-- a step that is kept
still_so : (k : Seat) (its : HasItsBuckets k) (owed : ℕ) (a : AttemptState) (step : Attempting) → a.step ≡ step → owed_in a step ≡ owed → ReadsNone a.pending → KnowsShare k its a step → IsShareSo k its owed a
still_so k its owed a step s owes reads knows = record {
  owes = ap (λ (x : Attempting). owed_in a x) s ∙ owes;
  reads = reads;
  knows = subst (λ (x : Attempting). KnowsShare k its a x) (sym s) knows;
}

abbrev OwesSo : ℕ → AttemptState → Type 0
OwesSo owed a = bit_of a.pending.request.has_latch ≡ owed

puts_so : (k : Seat) (its : HasItsBuckets k) (owed : ℕ) (a : AttemptState) (sought : Option DiskRecord) → OwesSo owed a → ReadsNone a.pending → IsShareSo k its owed (puts_addr a sought)
puts_so k its owed a None owes reads = record { owes = owes; reads = reads; knows = λ e. cc }
puts_so k its owed a (Some sought) owes reads = record { owes = owes; reads = reads; knows = tt }

tries_so : (k : Seat) (its : HasItsBuckets k) (owed : ℕ) (a : AttemptState) → OwesSo owed a → ReadsNone a.pending → IsShareSo k its owed (tries k.places (bits_of k) a)
tries_so k its owed a owes reads =
    let c : Trial = trial_at k its a.pending.request a.seen a.occasion in
    record {
      owes = begun_owes c a.spare ∙ owes;
      reads = reads;
      knows = record { request = a.pending.request; seen = a.seen; occasion = a.occasion; its_op = refl; reads = reads; trying = begun_trying c a.spare };
    }

goes_so : (k : Seat) (its : HasItsBuckets k) (owed : ℕ) (a : AttemptState) → OwesSo owed a → ReadsNone a.pending → IsShareSo k its owed (goes_on k.places (bits_of k) a)
goes_so k its owed a owes reads = either_so (is_seeking_read a) k its owed (puts a) (tries k.places (bits_of k) a) (puts_so k its owed a a.pending.sought owes reads) (tries_so k its owed a owes reads)

-- it begins with what its request shares
pub begun_shares : (k : Seat) (its : HasItsBuckets k) (pending : PendingRequest) (seen : Seen) (occasion : Occasion) (spare : ℕ) (is_orphaned : Bool) → ReadsNone pending
    → IsShareSo k its (bit_of pending.request.has_latch) (attempt_begun k.places (bits_of k) pending seen occasion spare is_orphaned)
begun_shares k its pending seen occasion spare is_orphaned reads =
    let first : AttemptState = new_attempt (bits_of k) pending seen occasion spare is_orphaned in
    either_so pending.has_asked k its (bit_of pending.request.has_latch) _ (goes_on k.places (bits_of k) first) (record { owes = refl; reads = reads; knows = tt })
    (goes_so k its (bit_of pending.request.has_latch) first refl reads)

-- what changes of a request besides its latch
sought_latch : (p : PendingRequest) (sought : Option DiskRecord) → ((with_sought p sought).request.has_latch ≡ p.request.has_latch) × ((with_sought p sought).request.op ≡ p.request.op)
unfolding with_sought
sought_latch p sought = (refl, refl)

held_latch : (p : PendingRequest) (held : _) → ((with_held p held).request.has_latch ≡ p.request.has_latch) × ((with_held p held).request.op ≡ p.request.op)
unfolding with_held
held_latch p held = (refl, refl)

asked_latch : (p : PendingRequest) (asked : Bool) → ((with_asked p asked).request.has_latch ≡ p.request.has_latch) × ((with_asked p asked).request.op ≡ p.request.op)
unfolding with_asked
asked_latch p asked = (refl, refl)

gone_latch : (p : PendingRequest) (begin : Addr) → ((without_gone p begin).request.has_latch ≡ p.request.has_latch) × ((without_gone p begin).request.op ≡ p.request.op)
unfolding without_gone
gone_latch p begin = (refl, refl)

reads_as : (p q : PendingRequest) → (q.request.has_latch ≡ p.request.has_latch) × (q.request.op ≡ p.request.op) → ReadsNone p → ReadsNone q
reads_as p q same reads = λ e. same.0 ∙ reads (sym (ap (λ (o : Op). is_read o) same.1) ∙ e)

owes_as : (p q : PendingRequest) (owed : ℕ) → (q.request.has_latch ≡ p.request.has_latch) × (q.request.op ≡ p.request.op) → bit_of p.request.has_latch ≡ owed → bit_of q.request.has_latch ≡ owed
owes_as p q owed same owes = ap (λ (b : Bool). bit_of b) same.0 ∙ owes

read_so : (k : Seat) (its : HasItsBuckets k) (owed : ℕ) (a : AttemptState) (mail : MailRecord) (said : HeaderSaid) → OwesSo owed a → ReadsNone a.pending → is_read a.pending.request.op ≡ true → IsShareSo k its owed (read_on a mail said)
read_so k its owed a mail Spoiled owes reads read = puts_so k its owed a a.pending.sought owes reads
read_so k its owed a mail (Says previous version) owes reads read =
    let same = sought_latch a.pending (moved_on a.pending.sought previous) in
    let next : PendingRequest = with_sought a.pending (moved_on a.pending.sought previous) in
    let moved : AttemptState = record a { pending = next } in
    let found : AttemptState = attempt_ended a (told_value (value_of mail.value)) in
    let absent : AttemptState = attempt_ended a answer.Absent in
    either_so (mail.key.0 == (key_of a.pending.request.op).0) k its owed found (if is_chain_end a.pending.request.floor previous then absent else puts moved) (record { owes = owes; reads = reads; knows = λ e. reads read })
    (either_so (is_chain_end a.pending.request.floor previous) k its owed absent (puts moved) (record { owes = owes; reads = reads; knows = λ e. reads read })
    (puts_so k its owed moved next.sought (owes_as a.pending next owed same owes) (reads_as a.pending next same reads)))

record_so : (k : Seat) (its : HasItsBuckets k) (owed : ℕ) (a : AttemptState) (mail : MailRecord) (said : HeaderSaid) (read : Bool) → is_seeking_read a ≡ read → OwesSo owed a → ReadsNone a.pending
    → IsShareSo k its owed (if read then read_on a mail said else tries k.places (bits_of k) (record a { pending = with_held a.pending (held_of a.pending.sought mail said) }))
record_so k its owed a mail said true r owes reads = read_so k its owed a mail said owes reads (read_of a r)
record_so k its owed a mail said false r owes reads =
    let next : PendingRequest = with_held a.pending (held_of a.pending.sought mail said) in
    let same = held_latch a.pending (held_of a.pending.sought mail said) in
    tries_so k its owed (record a { pending = next }) (owes_as a.pending next owed same owes) (reads_as a.pending next same reads)

gone_so : (k : Seat) (its : HasItsBuckets k) (owed : ℕ) (a : AttemptState) (begin : Addr) → OwesSo owed a → ReadsNone a.pending → IsShareSo k its owed (goes_anew k.places (bits_of k) a begin)
gone_so k its owed a begin owes reads =
    let next : PendingRequest = without_gone a.pending begin in
    let anew : AttemptState = record a { pending = next } in
    let same = gone_latch a.pending begin in
    let owes_next = owes_as a.pending next owed same owes in
    let reads_next = reads_as a.pending next same reads in
    either_so (is_seeking_read a) k its owed (waits_for_disk anew) (tries k.places (bits_of k) anew) (record { owes = owes_next; reads = reads_next; knows = λ e. cc }) (tries_so k its owed anew owes_next reads_next)

look_so : (k : Seat) (its : HasItsBuckets k) (owed : ℕ) (a : AttemptState) (ask : Ask MailAnswer) → a.step ≡ Looks → OwesSo owed a → ReadsNone a.pending → IsShareSo k its owed (look_ledto k.places (bits_of k) a ask)
unfolding look_ledto
look_so k its owed a (Done (mail.Taken it)) s owes reads =
    let next : PendingRequest = with_asked a.pending false in
    let same = asked_latch a.pending false in
    let emptied : AttemptState = record a { is_emptied = true; pending = next } in
    let owes_next = owes_as a.pending next owed same owes in
    let reads_next = reads_as a.pending next same reads in
    either_so (is_gone it) k its owed (goes_anew k.places (bits_of k) emptied (begin_told it)) (record_taken k.places (bits_of k) emptied it (header_said it.header)) (gone_so k its owed emptied (begin_told it) owes_next reads_next)
    (record_so k its owed emptied it (header_said it.header) (is_seeking_read emptied) refl owes_next reads_next)
look_so k its owed a (Done other) s owes reads =
    either_so (is_seeking_read a) k its owed (waits_for_disk a) (tries k.places (bits_of k) a) (record { owes = owes; reads = reads; knows = λ e. cc }) (tries_so k its owed a owes reads)
look_so k its owed a ask s owes reads = still_so k its owed a Looks s owes reads tt

put_so : (k : Seat) (its : HasItsBuckets k) (owed : ℕ) (a : AttemptState) (ask : Ask MailAnswer) → a.step ≡ Puts → OwesSo owed a → ReadsNone a.pending → IsShareSo k its owed (put_ledto a ask)
unfolding put_ledto
put_so k its owed a (Done mail.Asked) s owes reads =
    let next : PendingRequest = with_asked a.pending true in
    let same = asked_latch a.pending true in
    record { owes = owes_as a.pending next owed same owes; reads = reads_as a.pending next same reads; knows = λ e. cc }
put_so k its owed a (Done other) s owes reads = record { owes = owes; reads = reads; knows = λ e. cc }
put_so k its owed a ask s owes reads = still_so k its owed a Puts s owes reads tt

awaits_so : (k : Seat) (its : HasItsBuckets k) (owed : ℕ) (a : AttemptState) (sought : DiskRecord) → OwesSo owed a → ReadsNone a.pending → IsShareSo k its owed (awaits_record a sought)
awaits_so k its owed a sought owes reads =
    let kept : PendingRequest = with_held a.pending (held_kept a.pending.request.held sought.entry) in
    let same = held_latch a.pending (held_kept a.pending.request.held sought.entry) in
    let here : AttemptState = record a { pending = kept } in
    let next : PendingRequest = with_sought kept (Some sought) in
    let again = sought_latch kept (Some sought) in
    let moved : AttemptState = record here { pending = next } in
    either_so a.pending.has_asked k its owed (waits_for_disk here) (puts moved) (record { owes = owes_as a.pending kept owed same owes; reads = reads_as a.pending kept same reads; knows = λ e. cc })
    (puts_so k its owed moved next.sought (owes_as kept next owed again (owes_as a.pending kept owed same owes)) (reads_as kept next again (reads_as a.pending kept same reads)))

tried_so : (k : Seat) (its : HasItsBuckets k) (owed : ℕ) (a : AttemptState) (found : TryAnswer) → OwesSo owed a → ReadsNone a.pending → (is_wait found ≡ false → a.pending.request.has_latch ≡ false) → IsShareSo k its owed (tried a found)
tried_so k its owed a (answer.AwaitsDisk sought) owes reads ends = awaits_so k its owed a sought owes reads
tried_so k its owed a (answer.Wait why) owes reads ends = record { owes = owes; reads = reads; knows = ends }
tried_so k its owed a (answer.Done reply) owes reads ends = record { owes = owes; reads = reads; knows = ends }
tried_so k its owed a (answer.Found value) owes reads ends = record { owes = owes; reads = reads; knows = ends }
tried_so k its owed a answer.Absent owes reads ends = record { owes = owes; reads = reads; knows = ends }
tried_so k its owed a answer.Shift owes reads ends = record { owes = owes; reads = reads; knows = ends }
tried_so k its owed a answer.IndexFull owes reads ends = record { owes = owes; reads = reads; knows = ends }
tried_so k its owed a answer.LogFull owes reads ends = record { owes = owes; reads = reads; knows = ends }

no_share : (has wait shares : Bool) → has ≡ (wait && shares) → wait ≡ false → has ≡ false
no_share has true shares e w = cc
no_share has false shares e w = e

no_read : (has wait latch prepare read : Bool) → has ≡ (wait && (latch || (prepare && not read))) → latch ≡ false → read ≡ true → has ≡ false
no_read has wait latch prepare false e none r = cc
no_read has wait true prepare true e none r = cc
no_read has false false prepare true e none r = e
no_read has true false true true e none r = e
no_read has true false false true e none r = e

try_so : (k : Seat) (its : HasItsBuckets k) (owed : ℕ) (a : AttemptState) (ask : Ask TryAnswer) → try_ask k.places a.trial ≡ ask → a.step ≡ Tries → shares_owed a.trial ≡ owed → ReadsNone a.pending → IsTryOf k its a.pending.request.op a.trial
    → IsShareSo k its owed (try_ledto a ask)
unfolding try_ledto with_latch
try_so k its owed a (Done found) asks s owes reads of =
    let c : Trial = trial_at k its of.request of.seen of.occasion in
    let keeps = ended_keeps c a.trial found of.trying asks in
    tried_so k its owed (record a { spare = a.trial.spare; pending = with_latch a.pending a.trial.has_shared }) found (sym keeps.owes ∙ owes)
    (λ read. no_read a.trial.has_shared (is_wait found) of.request.has_latch (is_prepare of.seen.phase) (is_read of.request.op) keeps.shares (of.reads read) (ap (λ (o : Op). is_read o) of.its_op ∙ read))
    (λ ends. no_share a.trial.has_shared (is_wait found) (of.request.has_latch || (is_prepare of.seen.phase && not (is_read of.request.op))) keeps.shares ends)
try_so k its owed a ask asks s owes reads of = still_so k its owed a Tries s owes reads of

-- what a step adds
pub record SharesCount (latch before : ℕ) (ask : Ask TryAnswer) (after : ℕ) : Type 0 where
  pub counts : (at : ℕ) → there (latch == at) before + added_by one_share at ask ≡ there (latch == at) after + added_by (2 ^ 64 - one_share) at ask

none_count : (latch before : ℕ) (ask : Ask TryAnswer) (after : ℕ) → SharesNone ask → before ≡ after → SharesCount latch before ask after
none_count latch before ask after none same =
    record { counts = λ at. (let one = none_added at ask none in let other = none_dropped at ask none in let eq = ap (λ (n : ℕ). there (latch == at) n) same in omega (arith, one, other, eq)) }

at_itself : (n : ℕ) → (n == n) ≡ true
at_itself n = grind (arith, nat_tests)

added_at : (b itself d : Bool) → itself ≡ true → bit_of (b && d) ≡ there d (bit_of (b && itself))
added_at true true true e = refl
added_at true true false e = refl
added_at false true true e = refl
added_at false true false e = refl
added_at b false d e = cc

there_added : (c : Trial) (number at : ℕ) (ask : Ask TryAnswer) → AddsThere (latch_place c) ask → added_by number at ask ≡ there (latch_place c == at) (bit_of (is_adding c number ask))
there_added c number at (Add place its) same =
    subst (λ (p : ℕ). bit_of (its == number && p == at) ≡ there (latch_place c == at) (bit_of (its == number && p == latch_place c))) (sym same)
    (added_at (its == number) (latch_place c == latch_place c) (latch_place c == at) (at_itself (latch_place c)))
there_added c number at ask same = none_there (latch_place c == at)
  where
    none_there : (b : Bool) → 0 ≡ there b 0
    none_there true = refl
    none_there false = refl

try_count : (k : Seat) (its : HasItsBuckets k) (op : Op) (t : TryState) (reply : ℕ) → IsTryOf k its op t
    → SharesCount (latch_of k.places (bits_of k) op) (shares_owed t) (passed (try_ask k.places t) answer.Shift) (shares_owed (try_next k.places (room_of k) t reply))
try_count k its op t reply of =
    let c : Trial = trial_at k its of.request of.seen of.occasion in
    let ask : Ask TryAnswer = try_ask k.places t in
    let next : TryState = try_next k.places (room_of k) t reply in
    subst (λ (o : Op). SharesCount (latch_of k.places (bits_of k) o) (shares_owed t) (passed ask answer.Shift) (shares_owed next)) of.its_op
    (record {
      counts = λ at.
          (let b : Bool = latch_place c == at in
          let moved = next_owes c t reply of.trying in
          let told = ap (λ (n : ℕ). there b n) moved in
          let one = there_sum b (shares_owed t) (bit_of (is_adding c one_share ask)) in
          let two = there_sum b (shares_owed next) (bit_of (is_adding c (2 ^ 64 - one_share) ask)) in
          let three = there_added c one_share at ask (adds_there c t of.trying) in
          let four = there_added c (2 ^ 64 - one_share) at ask (adds_there c t of.trying) in
          let five = passed_added one_share at ask answer.Shift in
          let six = passed_added (2 ^ 64 - one_share) at ask answer.Shift in
          ap (λ (n : ℕ). there b (shares_owed t) + n) (five ∙ three) ∙ sym one ∙ told ∙ two ∙ sym (ap (λ (n : ℕ). there b (shares_owed next) + n) (six ∙ four)));
    })

next_of : (k : Seat) (its : HasItsBuckets k) (op : Op) (t : TryState) (reply : ℕ) → IsTryOf k its op t → IsTryOf k its op (try_next k.places (room_of k) t reply)
next_of k its op t reply of = record {
  request = of.request;
  seen = of.seen;
  occasion = of.occasion;
  its_op = of.its_op;
  reads = of.reads;
  trying = next_trying (trial_at k its of.request of.seen of.occasion) t reply of.trying;
}

-- behind a reply
pub record AttemptShares (k : Seat) (its : HasItsBuckets k) (latch before : ℕ) (ask : Ask TryAnswer) (a : AttemptState) : Type 0 where
  pub count : SharesCount latch before ask (owed_in a a.step)
  pub reads : ReadsNone a.pending
  pub knows : KnowsShare k its a a.step

shares_behind : (k : Seat) (its : HasItsBuckets k) (latch before owed : ℕ) (ask : Ask TryAnswer) (a : AttemptState) → SharesCount latch before ask owed → IsShareSo k its owed a → AttemptShares k its latch before ask a
shares_behind k its latch before owed ask a count so = record { count = subst (λ (n : ℕ). SharesCount latch before ask n) (sym so.owes) count; reads = so.reads; knows = so.knows }

step_shares : (k : Seat) (its : HasItsBuckets k) (a : AttemptState) (step : Attempting) (reply : ℕ) → a.step ≡ step → ReadsNone a.pending → KnowsShare k its a step
    → AttemptShares k its (latch_of k.places (bits_of k) a.pending.request.op) (owed_in a step) (attempting_ask k.places k.number a step) (attempting_next k.places (bits_of k) (room_of k) k.number a step reply)
unfolding attempting_next attempting_ask
step_shares k its a (Ended found) reply s reads knows =
    shares_behind k its _ (bit_of a.pending.request.has_latch) (bit_of a.pending.request.has_latch) (Done found) a (none_count _ _ (Done found) _ tt refl) (still_so k its (bit_of a.pending.request.has_latch) a (Ended found) s refl reads knows)
step_shares k its a Looks reply s reads knows =
    shares_behind k its _ (bit_of a.pending.request.has_latch) (bit_of a.pending.request.has_latch) _ _ (none_count _ _ _ _ (passed_none _ answer.Shift (mail_none k.number a.mailing)) refl)
    (look_so k its (bit_of a.pending.request.has_latch) (mail_moved a reply) _ s refl reads)
step_shares k its a Tries reply s reads knows =
    shares_behind k its _ (shares_owed a.trial) (shares_owed (try_next k.places (room_of k) a.trial reply)) _ _ (try_count k its a.pending.request.op a.trial reply knows)
    (try_so k its (shares_owed (try_next k.places (room_of k) a.trial reply)) (try_moved k.places (room_of k) a reply) _ refl s refl reads (next_of k its a.pending.request.op a.trial reply knows))
step_shares k its a Puts reply s reads knows =
    shares_behind k its _ (bit_of a.pending.request.has_latch) (bit_of a.pending.request.has_latch) _ _ (none_count _ _ _ _ (passed_none _ answer.Shift (mail_none k.number a.mailing)) refl)
    (put_so k its (bit_of a.pending.request.has_latch) (mail_moved a reply) _ s refl reads)

pub attempt_shares : (k : Seat) (its : HasItsBuckets k) (a : AttemptState) (reply : ℕ) → ReadsNone a.pending → KnowsShare k its a a.step
    → AttemptShares k its (latch_of k.places (bits_of k) a.pending.request.op) (owed_in a a.step) (attempt_ask k.places k.number a) (attempt_next k.places (bits_of k) (room_of k) k.number a reply)
unfolding attempting_ask
attempt_shares k its a reply reads knows = step_shares k its (record a { effect = None }) a.step reply refl reads knows
