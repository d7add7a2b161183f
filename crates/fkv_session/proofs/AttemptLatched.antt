-- An attempt of an update in prepare, that ends in waiting, leaves it with its share.
use Rattle.std.proofs.Common.{◌≡◌, ℕ, refl, sym, subst, ap, ◌∙◌, Bool, true, false}
use Rattle.std.specs.Prelude.{Option, Some, None, if◌then◌else◌, ◌==◌, ◌&&◌, ◌||◌, not}
use Rattle.fkv_map.specs.declared.operations.Op.{Op}
use Rattle.fkv_map.specs.Keys.{key_of}
use Rattle.fkv_plane.specs.declared.asks.Ask.{Ask}
use Rattle.fkv_plane.specs.declared.asks.Ask.TheVariants.{Done}
use Rattle.fkv_ops.specs.declared.answers.DiskRecord.{DiskRecord}
use Rattle.fkv_ops.specs.declared.answers.TryAnswer.{TryAnswer}
use Rattle.fkv_ops.specs.declared.answers.TryAnswer.TheVariants as answer
use Rattle.fkv_ops.specs.declared.header_words.HeaderSaid.{HeaderSaid}
use Rattle.fkv_ops.specs.declared.header_words.HeaderSaid.TheVariants.{Says, Spoiled}
use Rattle.fkv_ops.specs.declared.requests.Occasion.{Occasion}
use Rattle.fkv_ops.specs.declared.requests.Request.{Request}
use Rattle.fkv_ops.specs.declared.requests.Seen.{Seen}
use Rattle.fkv_ops.specs.HeaderWords.{header_said}
use Rattle.fkv_ops.specs.Requests.{is_read, is_chain_end}
use Rattle.fkv_ops.specs.Trying.{TryState, try_ask, try_next, told_value, is_wait, is_prepare}
use Rattle.fkv_ops.specs.Values.{value_of}
use Rattle.fkv_ops.proofs.Shown.{IsTrying, begun_trying, next_trying, ended_keeps}
use Rattle.fkv_pending.specs.declared.attempting.Attempting.{Attempting}
use Rattle.fkv_pending.specs.declared.attempting.Attempting.TheVariants.{Ended, Looks, Tries, Puts}
use Rattle.fkv_pending.specs.declared.mailing.MailAnswer.{MailAnswer}
use Rattle.fkv_pending.specs.declared.mailing.MailAnswer.TheVariants as mail
use Rattle.fkv_pending.specs.declared.mailing.MailRecord.{MailRecord}
use Rattle.fkv_pending.specs.declared.pending_requests.PendingRequest.{PendingRequest}
use Rattle.fkv_pending.specs.Pending.{with_sought, with_held, with_latch, with_asked, without_gone}
use Rattle.fkv_pending.specs.Attempting.{AttemptState, is_seeking_read, attempt_ended, waits_for_disk, puts_addr, puts, tries, goes_on, attempt_begun, read_on, moved_on, held_of, held_kept, look_ledto, tried, try_ledto, put_ledto, mail_moved, try_moved, attempting_next, attempt_next, new_attempt, goes_anew, record_taken}
use Rattle.fkv_session.specs.Sessions.{Seat, bits_of, room_of}
use Rattle.fkv_session.specs.Shares.{HasItsBuckets}
use Rattle.fkv_session.proofs.AttemptShares.{trial_at}
use Rattle.fkv_session.proofs.AttemptMade.{read_of}
use Rattle.fkv_base.specs.declared.numbers.Addr.{Addr}
use Rattle.fkv_pending.specs.Mailing.{is_gone, begin_told}

-- a try by what the session has seen
pub record IsTryIn (k : Seat) (its : HasItsBuckets k) (seen : Seen) (op : Op) (t : TryState) : Type 0 where
  pub request : Request
  pub occasion : Occasion
  pub its_op : request.op ≡ op
  pub trying : IsTrying (trial_at k its request seen occasion) t

-- in prepare an update has its share
abbrev pub HasIt : Seen → PendingRequest → Type 0
HasIt seen p = is_prepare seen.phase ≡ true → is_read p.request.op ≡ false → p.request.has_latch ≡ true

abbrev pub KnowsLatch : (k : Seat) → HasItsBuckets k → Seen → AttemptState → Attempting → Type 0
KnowsLatch k its seen a (Ended found) = is_wait found ≡ true → HasIt seen a.pending
KnowsLatch k its seen a Looks = a.seen ≡ seen
KnowsLatch k its seen a Tries = IsTryIn k its seen a.pending.request.op a.trial
KnowsLatch k its seen a Puts = HasIt seen a.pending

abbrev pub InLatch : (k : Seat) → HasItsBuckets k → Seen → AttemptState → Type 0
InLatch k its seen a = KnowsLatch k its seen a a.step

either_in : (c : Bool) (k : Seat) (its : HasItsBuckets k) (seen : Seen) (a b : AttemptState) → (c ≡ true → InLatch k its seen a) → InLatch k its seen b → InLatch k its seen (if c then a else b)
either_in true k its seen a b one other = one refl
either_in false k its seen a b one other = other

still_in : (k : Seat) (its : HasItsBuckets k) (seen : Seen) (a : AttemptState) (step : Attempting) → a.step ≡ step → KnowsLatch k its seen a step → InLatch k its seen a
still_in k its seen a step s knows = subst (λ (x : Attempting). KnowsLatch k its seen a x) (sym s) knows

puts_in : (k : Seat) (its : HasItsBuckets k) (seen : Seen) (a : AttemptState) (sought : Option DiskRecord) → HasIt seen a.pending → InLatch k its seen (puts_addr a sought)
puts_in k its seen a None has = λ waits. has
puts_in k its seen a (Some sought) has = has

of_read : (seen : Seen) (p : PendingRequest) → is_read p.request.op ≡ true → HasIt seen p
of_read seen p read = λ prepare update. cc

tries_in : (k : Seat) (its : HasItsBuckets k) (seen : Seen) (a : AttemptState) → a.seen ≡ seen → InLatch k its seen (tries k.places (bits_of k) a)
tries_in k its seen a same = subst (λ (x : Seen). IsTryIn k its x a.pending.request.op (tries k.places (bits_of k) a).trial) same
    (record { request = a.pending.request; occasion = a.occasion; its_op = refl; trying = begun_trying (trial_at k its a.pending.request a.seen a.occasion) a.spare })

goes_in : (k : Seat) (its : HasItsBuckets k) (seen : Seen) (a : AttemptState) → a.seen ≡ seen → InLatch k its seen (goes_on k.places (bits_of k) a)
goes_in k its seen a same =
    either_in (is_seeking_read a) k its seen (puts a) (tries k.places (bits_of k) a) (λ read. puts_in k its seen a a.pending.sought (of_read seen a.pending (read_of a read))) (tries_in k its seen a same)

pub begun_in : (k : Seat) (its : HasItsBuckets k) (pending : PendingRequest) (seen : Seen) (occasion : Occasion) (spare : ℕ) (is_orphaned : Bool)
    → InLatch k its seen (attempt_begun k.places (bits_of k) pending seen occasion spare is_orphaned)
begun_in k its pending seen occasion spare is_orphaned =
    let first : AttemptState = new_attempt (bits_of k) pending seen occasion spare is_orphaned in
    either_in pending.has_asked k its seen _ (goes_on k.places (bits_of k) first) (λ asked. refl) (goes_in k its seen first refl)

-- what changes of a request besides its latch
sought_has : (seen : Seen) (p : PendingRequest) (sought : Option DiskRecord) → HasIt seen p → HasIt seen (with_sought p sought)
unfolding with_sought
sought_has seen p sought has = has

sought_read : (p : PendingRequest) (sought : Option DiskRecord) → is_read p.request.op ≡ true → is_read (with_sought p sought).request.op ≡ true
unfolding with_sought
sought_read p sought read = read

held_has : (seen : Seen) (p : PendingRequest) (held : _) → HasIt seen p → HasIt seen (with_held p held)
unfolding with_held
held_has seen p held has = has

asked_has : (seen : Seen) (p : PendingRequest) (asked : Bool) → HasIt seen p → HasIt seen (with_asked p asked)
unfolding with_asked
asked_has seen p asked has = has

gone_read : (p : PendingRequest) (begin : Addr) → is_read p.request.op ≡ true → is_read (without_gone p begin).request.op ≡ true
unfolding without_gone
gone_read p begin read = read

read_in : (k : Seat) (its : HasItsBuckets k) (seen : Seen) (a : AttemptState) (mail : MailRecord) (said : HeaderSaid) → is_read a.pending.request.op ≡ true → InLatch k its seen (read_on a mail said)
read_in k its seen a mail Spoiled read = puts_in k its seen a a.pending.sought (of_read seen a.pending read)
read_in k its seen a mail (Says previous version) read =
    let next : PendingRequest = with_sought a.pending (moved_on a.pending.sought previous) in
    let moved : AttemptState = record a { pending = next } in
    let found : AttemptState = attempt_ended a (told_value (value_of mail.value)) in
    let absent : AttemptState = attempt_ended a answer.Absent in
    either_in (mail.key.0 == (key_of a.pending.request.op).0) k its seen found (if is_chain_end a.pending.request.floor previous then absent else puts moved) (λ e. λ waits. of_read seen a.pending read)
    (either_in (is_chain_end a.pending.request.floor previous) k its seen absent (puts moved) (λ e. λ waits. of_read seen a.pending read) (puts_in k its seen moved next.sought (of_read seen next (sought_read a.pending (moved_on a.pending.sought previous) read))))

gone_in : (k : Seat) (its : HasItsBuckets k) (seen : Seen) (a : AttemptState) (begin : Addr) → a.seen ≡ seen → InLatch k its seen (goes_anew k.places (bits_of k) a begin)
gone_in k its seen a begin same =
    let next : PendingRequest = without_gone a.pending begin in
    let anew : AttemptState = record a { pending = next } in
    either_in (is_seeking_read a) k its seen (waits_for_disk anew) (tries k.places (bits_of k) anew) (λ read. λ waits. of_read seen next (gone_read a.pending begin (read_of a read))) (tries_in k its seen anew same)

look_in : (k : Seat) (its : HasItsBuckets k) (seen : Seen) (a : AttemptState) (ask : Ask MailAnswer) → a.step ≡ Looks → a.seen ≡ seen → InLatch k its seen (look_ledto k.places (bits_of k) a ask)
unfolding look_ledto
look_in k its seen a (Done (mail.Taken it)) s same =
    let emptied : AttemptState = record a { is_emptied = true; pending = with_asked a.pending false } in
    let holding : AttemptState = record emptied { pending = with_held emptied.pending (held_of emptied.pending.sought it (header_said it.header)) } in
    either_in (is_gone it) k its seen (goes_anew k.places (bits_of k) emptied (begin_told it)) (record_taken k.places (bits_of k) emptied it (header_said it.header)) (λ gone. gone_in k its seen emptied (begin_told it) same)
    (either_in (is_seeking_read emptied) k its seen (read_on emptied it (header_said it.header)) (tries k.places (bits_of k) holding)
    (λ read. read_in k its seen emptied it (header_said it.header) (read_of emptied read)) (tries_in k its seen holding same))
look_in k its seen a (Done other) s same =
    either_in (is_seeking_read a) k its seen (waits_for_disk a) (tries k.places (bits_of k) a) (λ read. λ waits. of_read seen a.pending (read_of a read)) (tries_in k its seen a same)
look_in k its seen a ask s same = still_in k its seen a Looks s same

put_in : (k : Seat) (its : HasItsBuckets k) (seen : Seen) (a : AttemptState) (ask : Ask MailAnswer) → a.step ≡ Puts → HasIt seen a.pending → InLatch k its seen (put_ledto a ask)
unfolding put_ledto
put_in k its seen a (Done mail.Asked) s has = λ waits. asked_has seen a.pending true has
put_in k its seen a (Done other) s has = λ waits. has
put_in k its seen a ask s has = still_in k its seen a Puts s has

tried_in : (k : Seat) (its : HasItsBuckets k) (seen : Seen) (a : AttemptState) (found : TryAnswer) → (is_wait found ≡ true → HasIt seen a.pending) → InLatch k its seen (tried a found)
tried_in k its seen a (answer.AwaitsDisk sought) has =
    let kept : PendingRequest = with_held a.pending (held_kept a.pending.request.held sought.entry) in
    let here : AttemptState = record a { pending = kept } in
    let next : PendingRequest = with_sought kept (Some sought) in
    let its_own = held_has seen a.pending (held_kept a.pending.request.held sought.entry) (has refl) in
    either_in a.pending.has_asked k its seen (waits_for_disk here) (puts (record here { pending = next })) (λ asked. λ waits. its_own) (puts_in k its seen (record here { pending = next }) next.sought (sought_has seen kept (Some sought) its_own))
tried_in k its seen a (answer.Wait why) has = has
tried_in k its seen a (answer.Done reply) has = has
tried_in k its seen a (answer.Found value) has = has
tried_in k its seen a answer.Absent has = has
tried_in k its seen a answer.Shift has = has
tried_in k its seen a answer.IndexFull has = has
tried_in k its seen a answer.LogFull has = has

keeps_it : (has wait latch prepare read : Bool) → has ≡ (wait && (latch || (prepare && not read))) → wait ≡ true → prepare ≡ true → read ≡ false → has ≡ true
keeps_it has true true true false e w p r = e
keeps_it has true false true false e w p r = e
keeps_it has false latch prepare read e w p r = cc
keeps_it has true latch false read e w p r = cc
keeps_it has true latch true true e w p r = cc

try_in : (k : Seat) (its : HasItsBuckets k) (seen : Seen) (a : AttemptState) (ask : Ask TryAnswer) → try_ask k.places a.trial ≡ ask → a.step ≡ Tries → IsTryIn k its seen a.pending.request.op a.trial → InLatch k its seen (try_ledto a ask)
unfolding try_ledto with_latch
try_in k its seen a (Done found) asks s of =
    let keeps = ended_keeps (trial_at k its of.request seen of.occasion) a.trial found of.trying asks in
    tried_in k its seen (record a { spare = a.trial.spare; pending = with_latch a.pending a.trial.has_shared }) found
    (λ waits. λ prepare update. keeps_it a.trial.has_shared (is_wait found) of.request.has_latch (is_prepare seen.phase) (is_read of.request.op) keeps.shares waits prepare (ap (λ (o : Op). is_read o) of.its_op ∙ update))
try_in k its seen a ask asks s of = still_in k its seen a Tries s of

next_in : (k : Seat) (its : HasItsBuckets k) (seen : Seen) (op : Op) (t : TryState) (reply : ℕ) → IsTryIn k its seen op t → IsTryIn k its seen op (try_next k.places (room_of k) t reply)
next_in k its seen op t reply of = record { request = of.request; occasion = of.occasion; its_op = of.its_op; trying = next_trying (trial_at k its of.request seen of.occasion) t reply of.trying }

step_in : (k : Seat) (its : HasItsBuckets k) (seen : Seen) (a : AttemptState) (step : Attempting) (reply : ℕ) → a.step ≡ step → KnowsLatch k its seen a step
    → InLatch k its seen (attempting_next k.places (bits_of k) (room_of k) k.number a step reply)
unfolding attempting_next
step_in k its seen a (Ended found) reply s knows = still_in k its seen a (Ended found) s knows
step_in k its seen a Looks reply s knows = look_in k its seen (mail_moved a reply) _ s knows
step_in k its seen a Tries reply s knows = try_in k its seen (try_moved k.places (room_of k) a reply) _ refl s (next_in k its seen a.pending.request.op a.trial reply knows)
step_in k its seen a Puts reply s knows = put_in k its seen (mail_moved a reply) _ s knows

effect_in : (k : Seat) (its : HasItsBuckets k) (seen : Seen) (a : AttemptState) (step : Attempting) → KnowsLatch k its seen a step → KnowsLatch k its seen (record a { effect = None }) step
effect_in k its seen a (Ended found) knows = knows
effect_in k its seen a Looks knows = knows
effect_in k its seen a Tries knows = knows
effect_in k its seen a Puts knows = knows

pub attempt_in : (k : Seat) (its : HasItsBuckets k) (seen : Seen) (a : AttemptState) (reply : ℕ) → InLatch k its seen a → InLatch k its seen (attempt_next k.places (bits_of k) (room_of k) k.number a reply)
attempt_in k its seen a reply knows = step_in k its seen (record a { effect = None }) a.step reply refl (effect_in k its seen a a.step knows)
