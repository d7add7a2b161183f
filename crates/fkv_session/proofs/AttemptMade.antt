-- What an attempt makes is what its try makes; and an attempt of an update never ends as a read's does.
use Rattle.std.specs.Option.{is_some}
use Rattle.std.proofs.Common.{◌≡◌, ℕ, refl, sym, subst, ap, ◌∙◌, Bool, true, false}
use Rattle.std.specs.Prelude.{Option, Some, None, if◌then◌else◌, ◌==◌, ◌&&◌}
use Rattle.fkv_map.specs.declared.operations.Reply.{Reply}
use Rattle.fkv_map.specs.Keys.{key_of}
use Rattle.fkv_plane.specs.declared.asks.Ask.{Ask}
use Rattle.fkv_plane.specs.declared.asks.Ask.TheVariants.{Done}
use Rattle.fkv_plane.specs.declared.places.Places.{Places}
use Rattle.fkv_plane.specs.Passing.{passed, is_done}
use Rattle.fkv_latch.specs.declared.latching.LatchTask.TheVariants.{TakeShared}
use Rattle.fkv_ops.specs.declared.answers.DiskRecord.{DiskRecord}
use Rattle.fkv_ops.specs.declared.answers.TryAnswer.{TryAnswer}
use Rattle.fkv_ops.specs.declared.answers.TryAnswer.TheVariants as answer
use Rattle.fkv_ops.specs.declared.header_words.HeaderSaid.{HeaderSaid}
use Rattle.fkv_ops.specs.declared.header_words.HeaderSaid.TheVariants.{Says, Spoiled}
use Rattle.fkv_ops.specs.declared.requests.Occasion.{Occasion}
use Rattle.fkv_ops.specs.declared.requests.Seen.{Seen}
use Rattle.fkv_ops.specs.HeaderWords.{header_said}
use Rattle.fkv_ops.specs.declared.trying.Trying.{Trying}
use Rattle.fkv_ops.specs.declared.trying.Trying.TheVariants as try
use Rattle.fkv_ops.specs.declared.requests.Request.{Request}
use Rattle.fkv_ops.specs.Requests.{is_read, is_chain_end}
use Rattle.fkv_ops.specs.Trying as trying
use Rattle.fkv_ops.specs.Values.{value_of}
use Rattle.fkv_ops.specs.Trying.{TryState, try_begun, wants_shared, walks, told_value, trying_ask, try_ask, new_try}
use Rattle.fkv_pending.specs.declared.attempting.Attempting.{Attempting}
use Rattle.fkv_pending.specs.declared.attempting.Attempting.TheVariants.{Ended, Looks, Tries, Puts}
use Rattle.fkv_pending.specs.declared.mailing.MailAnswer.{MailAnswer}
use Rattle.fkv_pending.specs.declared.mailing.MailAnswer.TheVariants as mail
use Rattle.fkv_pending.specs.declared.mailing.MailRecord.{MailRecord}
use Rattle.fkv_pending.specs.declared.pending_requests.PendingRequest.{PendingRequest}
use Rattle.fkv_pending.specs.Pending.{with_sought, with_held, with_latch, with_asked, without_gone}
use Rattle.fkv_pending.specs.Attempting.{AttemptState, is_poll, is_seeking_read, attempt_ended, waits_for_disk, puts_addr, puts, tries, goes_on, attempt_begun, read_on, moved_on, held_of, held_kept, look_ledto, awaits_record, tried, try_ledto, put_ledto, mail_moved, try_moved, attempting_ask, attempt_ask, attempting_next, attempt_next, new_attempt, goes_anew, record_taken}
use Rattle.fkv_pending.proofs.Shown.{is_attempt_end, AttemptRestsOrAsks, attempt_done}
use Rattle.fkv_session.proofs.Made.{reply_of, made_by, MadeFrom, try_made, try_ended}
use Rattle.fkv_session.proofs.UpdateEnds.{IsUpdateEnd, IsUpdateStep, IsUpdateTry, try_update, begun_update}
use Rattle.fkv_base.specs.declared.numbers.Addr.{Addr}
use Rattle.fkv_pending.specs.Mailing.{is_gone, begin_told}

-- the reply of the effect that the attempt has made by now
abbrev pub made_in : AttemptState → Attempting → Option Reply
made_in a (Ended its) = reply_of its
made_in a Tries = made_by a.trial.step
made_in a step = None

abbrev pub made_of : AttemptState → Option Reply
made_of a = made_in a a.step

abbrev pub KnowsUpdate : AttemptState → Attempting → Type 0
KnowsUpdate a (Ended its) = IsUpdateEnd its
KnowsUpdate a Tries = IsUpdateTry a.trial
KnowsUpdate a step = Unit {0}

-- behind a reply: what was made before, and by this step; and of an update, how far it is
pub record IsMadeSo (before : Option Reply) (a : AttemptState) : Type 0 where
  pub made : MadeFrom a.effect (made_of a) before
  pub knows : is_read a.pending.request.op ≡ false → KnowsUpdate a a.step

either_so : (c : Bool) (a b : AttemptState) (before : Option Reply) → IsMadeSo before a → IsMadeSo before b → IsMadeSo before (if c then a else b)
either_so true a b before one other = one
either_so false a b before one other = other

-- a step that makes nothing
quiet : (a : AttemptState) (before : Option Reply) → a.effect ≡ None → made_of a ≡ before → (is_read a.pending.request.op ≡ false → KnowsUpdate a a.step) → IsMadeSo before a
quiet a before e made knows = record { made = subst (λ (o : Option Reply). MadeFrom o (made_of a) before) (sym e) made; knows = knows }

from_none : (effect : Option Reply) → effect ≡ None → MadeFrom effect None None
from_none effect e = subst (λ (o : Option Reply). MadeFrom o None None) (sym e) refl

puts_so : (a : AttemptState) (sought : Option DiskRecord) (before : Option Reply) → MadeFrom a.effect None before → IsMadeSo before (puts_addr a sought)
puts_so a None before made = record { made = made; knows = λ update. tt }
puts_so a (Some sought) before made = record { made = made; knows = λ update. tt }

either_none : (c : Bool) (a b : TryState) → made_by a.step ≡ None → made_by b.step ≡ None → made_by (if c then a else b).step ≡ None
either_none true a b one other = one
either_none false a b one other = other

-- a try begins with nothing made
trial_none : (p : Places) (bits : ℕ) (request : Request) (seen : Seen) (occasion : Occasion) (spare : ℕ) → made_by (try_begun p bits request seen occasion spare).step ≡ None
trial_none p bits request seen occasion spare =
    let its : TryState = new_try bits request seen occasion spare in
    either_none (wants_shared its) (trying.with_latch p its TakeShared try.TakesShared) (walks p its) refl refl

tries_so : (p : Places) (bits : ℕ) (a : AttemptState) → a.effect ≡ None → IsMadeSo None (tries p bits a)
tries_so p bits a e = quiet _ None e (trial_none p bits a.pending.request a.seen a.occasion a.spare) (λ update. begun_update p bits a.pending.request a.seen a.occasion a.spare update)

goes_so : (p : Places) (bits : ℕ) (a : AttemptState) → a.effect ≡ None → IsMadeSo None (goes_on p bits a)
goes_so p bits a e = either_so (is_seeking_read a) (puts a) (tries p bits a) None (puts_so a a.pending.sought None (from_none a.effect e)) (tries_so p bits a e)

-- an attempt begins with nothing made
pub begun_so : (p : Places) (bits : ℕ) (pending : PendingRequest) (seen : Seen) (occasion : Occasion) (spare : ℕ) (is_orphaned : Bool)
    → IsMadeSo None (attempt_begun p bits pending seen occasion spare is_orphaned)
begun_so p bits pending seen occasion spare is_orphaned =
    let its : AttemptState = new_attempt bits pending seen occasion spare is_orphaned in
    either_so pending.has_asked _ (goes_on p bits its) None (record { made = refl; knows = λ update. tt }) (goes_so p bits its refl)

either_nothing : (c : Bool) (a b : AttemptState) → made_of a ≡ None → made_of b ≡ None → made_of (if c then a else b) ≡ None
either_nothing true a b one other = one
either_nothing false a b one other = other

puts_nothing : (a : AttemptState) (sought : Option DiskRecord) → made_of (puts_addr a sought) ≡ None
puts_nothing a None = refl
puts_nothing a (Some sought) = refl

pub begun_nothing : (p : Places) (bits : ℕ) (pending : PendingRequest) (seen : Seen) (occasion : Occasion) (spare : ℕ) (is_orphaned : Bool)
    → made_of (attempt_begun p bits pending seen occasion spare is_orphaned) ≡ None
begun_nothing p bits pending seen occasion spare is_orphaned =
    let its : AttemptState = new_attempt bits pending seen occasion spare is_orphaned in
    either_nothing pending.has_asked _ (goes_on p bits its) refl
    (either_nothing (is_seeking_read its) (puts its) (tries p bits its) (puts_nothing its its.pending.sought) (trial_none p bits its.pending.request its.seen its.occasion its.spare))

-- a read that seeks a record is a read
both_read : (b c d : Bool) → (b && (c && d)) ≡ true → c ≡ true
both_read true true d e = refl
both_read true false d e = cc
both_read false c d e = cc

pub read_of : (a : AttemptState) → is_seeking_read a ≡ true → is_read a.pending.request.op ≡ true
read_of a read = both_read (is_poll a.occasion) (is_read a.pending.request.op) (is_some a.pending.sought) read

told_none : (value : Option ℕ) → reply_of (told_value value) ≡ None
told_none None = refl
told_none (Some value) = refl

-- a read that ends, or goes on
read_so : (a : AttemptState) (its : MailRecord) (said : HeaderSaid) → a.effect ≡ None → is_read a.pending.request.op ≡ true → IsMadeSo None (read_on a its said)
read_so a its Spoiled e read = puts_so a a.pending.sought None (from_none a.effect e)
read_so a its (Says previous version) e read =
    let moved : AttemptState = record a { pending = with_sought a.pending (moved_on a.pending.sought previous) } in
    let found : AttemptState = attempt_ended a (told_value (value_of its.value)) in
    let absent : AttemptState = attempt_ended a answer.Absent in
    either_so (its.key.0 == (key_of a.pending.request.op).0) found (if is_chain_end a.pending.request.floor previous then absent else puts moved) None (quiet found None e (told_none (value_of its.value)) (λ update. cc))
    (either_so (is_chain_end a.pending.request.floor previous) absent (puts moved) None (quiet absent None e refl (λ update. cc)) (puts_so moved moved.pending.sought None (from_none a.effect e)))

record_so : (p : Places) (bits : ℕ) (a : AttemptState) (its : MailRecord) (said : HeaderSaid) (read : Bool) → is_seeking_read a ≡ read → a.effect ≡ None
    → IsMadeSo None (if read then read_on a its said else tries p bits (record a { pending = with_held a.pending (held_of a.pending.sought its said) }))
record_so p bits a its said true r e = read_so a its said e (read_of a r)
record_so p bits a its said false r e = tries_so p bits (record a { pending = with_held a.pending (held_of a.pending.sought its said) }) e

gone_so : (p : Places) (bits : ℕ) (a : AttemptState) (begin : Addr) → a.effect ≡ None → IsMadeSo None (goes_anew p bits a begin)
gone_so p bits a begin e =
    let anew : AttemptState = record a { pending = without_gone a.pending begin } in
    either_so (is_seeking_read a) (waits_for_disk anew) (tries p bits anew) None (quiet (waits_for_disk anew) None e refl (λ update. tt)) (tries_so p bits anew e)

look_so : (p : Places) (bits : ℕ) (a : AttemptState) (ask : Ask MailAnswer) → a.effect ≡ None → a.step ≡ Looks → IsMadeSo None (look_ledto p bits a ask)
unfolding look_ledto
look_so p bits a (Done (mail.Taken its)) e s =
    let emptied : AttemptState = record a { is_emptied = true; pending = with_asked a.pending false } in
    either_so (is_gone its) (goes_anew p bits emptied (begin_told its)) (record_taken p bits emptied its (header_said its.header)) None (gone_so p bits emptied (begin_told its) e)
    (record_so p bits emptied its (header_said its.header) (is_seeking_read emptied) refl e)
look_so p bits a (Done other) e s = either_so (is_seeking_read a) _ (tries p bits a) None (quiet _ None e refl (λ update. tt)) (tries_so p bits a e)
look_so p bits a ask e s = quiet a None e (ap (made_in a) s) (λ update. subst (λ (x : Attempting). KnowsUpdate a x) (sym s) tt)

awaits_so : (a : AttemptState) (sought : DiskRecord) (before : Option Reply) → MadeFrom a.effect None before → IsMadeSo before (awaits_record a sought)
awaits_so a sought before made =
    let its : AttemptState = record a { pending = with_held a.pending (held_kept a.pending.request.held sought.entry) } in
    let moved : AttemptState = record its { pending = with_sought its.pending (Some sought) } in
    either_so a.pending.has_asked (waits_for_disk its) (puts moved) before (record { made = made; knows = λ update. tt }) (puts_so moved moved.pending.sought before made)

tried_so : (a : AttemptState) (its : TryAnswer) (before : Option Reply) → MadeFrom a.effect (reply_of its) before → (is_read a.pending.request.op ≡ false → IsUpdateEnd its) → IsMadeSo before (tried a its)
tried_so a (answer.AwaitsDisk sought) before made knows = awaits_so a sought before made
tried_so a (answer.Wait why) before made knows = record { made = made; knows = knows }
tried_so a (answer.Done reply) before made knows = record { made = made; knows = knows }
tried_so a (answer.Found value) before made knows = record { made = made; knows = knows }
tried_so a answer.Absent before made knows = record { made = made; knows = knows }
tried_so a answer.Shift before made knows = record { made = made; knows = knows }
tried_so a answer.IndexFull before made knows = record { made = made; knows = knows }
tried_so a answer.LogFull before made knows = record { made = made; knows = knows }

passed_update : {A : Type 0} (ask : Ask A) (its found : TryAnswer) → IsUpdateEnd its → passed ask its ≡ Done found → IsUpdateEnd found
unfolding passed
passed_update (Done inner) its found end e = let same : its ≡ found = cc in subst (λ (x : TryAnswer). IsUpdateEnd x) same end
passed_update ask its found end e = cc

-- an update's try ends as an update's
ended_update : (p : Places) (t : TryState) (step : Trying) (its : TryAnswer) → IsUpdateStep step → trying_ask p t step ≡ Done its → IsUpdateEnd its
unfolding trying_ask
ended_update p t (try.Ended found) its end e = let same : found ≡ its = cc in subst (λ (x : TryAnswer). IsUpdateEnd x) same end
ended_update p t try.TakesShared its end e = passed_update _ answer.Shift its tt e
ended_update p t try.Walks its end e = passed_update _ answer.Shift its tt e
ended_update p t try.LoadsPhase its end e = cc
ended_update p t try.CountsTaken its end e = cc
ended_update p t (try.LoadsTail waiting) its end e = cc
ended_update p t (try.LoadsTaken waiting) its end e = cc
ended_update p t (try.LoadsSafe addr version) its end e = cc
ended_update p t (try.SwapsValue addr) its end e = cc
ended_update p t (try.LoadsCurrent addr) its end e = passed_update _ answer.Shift its tt e
ended_update p t (try.ChangesValue addr old) its end e = cc
ended_update p t try.LoadsAnswer its end e = absurd end
ended_update p t (try.TakesExclusive old) its end e = passed_update _ answer.Shift its tt e
ended_update p t try.LoadsOld its end e = passed_update _ answer.Shift its tt e
ended_update p t (try.Appends found) its end e = passed_update _ answer.Shift its tt e
ended_update p t (try.DropsExclusive found) its end e = passed_update _ found its end e
ended_update p t (try.DropsShared found) its end e = passed_update _ found its end e

try_so : (p : Places) (a : AttemptState) (ask : Ask TryAnswer) (before : Option Reply) → try_ask p a.trial ≡ ask → a.step ≡ Tries → MadeFrom a.effect (made_by a.trial.step) before → (is_read a.pending.request.op ≡ false → IsUpdateTry a.trial)
    → IsMadeSo before (try_ledto a ask)
unfolding try_ledto with_latch
try_so p a (Done its) before asks s made knows =
    tried_so (record a { spare = a.trial.spare; pending = with_latch a.pending a.trial.has_shared }) its before
    (subst (λ (o : Option Reply). MadeFrom a.effect o before) (try_ended p a.trial its asks) made)
    (λ update. ended_update p a.trial a.trial.step its (knows update).step asks)
try_so p a ask before asks s made knows = record {
  made = subst (λ (x : Attempting). MadeFrom a.effect (made_in a x) before) (sym s) made;
  knows = λ update. subst (λ (x : Attempting). KnowsUpdate a x) (sym s) (knows update);
}

put_so : (a : AttemptState) (ask : Ask MailAnswer) → a.effect ≡ None → a.step ≡ Puts → IsMadeSo None (put_ledto a ask)
unfolding put_ledto
put_so a (Done mail.Asked) e s = quiet _ None e refl (λ update. tt)
put_so a (Done other) e s = quiet _ None e refl (λ update. tt)
put_so a ask e s = quiet a None e (ap (made_in a) s) (λ update. subst (λ (x : Attempting). KnowsUpdate a x) (sym s) tt)

step_so : (p : Places) (bits room session : ℕ) (a : AttemptState) (step : Attempting) (reply : ℕ) → a.effect ≡ None → a.step ≡ step → (is_read a.pending.request.op ≡ false → KnowsUpdate a step)
    → IsMadeSo (made_in a step) (attempting_next p bits room session a step reply)
unfolding attempting_next
step_so p bits room session a (Ended its) reply e s knows = quiet a (reply_of its) e (ap (made_in a) s) (λ update. subst (λ (x : Attempting). KnowsUpdate a x) (sym s) (knows update))
step_so p bits room session a Looks reply e s knows = look_so p bits (mail_moved a reply) _ e s
step_so p bits room session a Tries reply e s knows =
    try_so p (try_moved p room a reply) _ (made_by a.trial.step) refl s (try_made p room a.trial reply) (λ update. try_update p room a.trial reply (knows update))
step_so p bits room session a Puts reply e s knows = put_so (mail_moved a reply) _ e s

-- what a reply to an attempt makes
pub attempt_so : (p : Places) (bits room session : ℕ) (a : AttemptState) (reply : ℕ) → (is_read a.pending.request.op ≡ false → KnowsUpdate a a.step) → IsMadeSo (made_of a) (attempt_next p bits room session a reply)
attempt_so p bits room session a reply knows = step_so p bits room session (record a { effect = None }) a.step reply refl refl knows

ends_at : (p : Places) (session : ℕ) (a : AttemptState) (step : Attempting) (its : TryAnswer) → is_attempt_end step ≡ true → attempting_ask p session a step ≡ Done its → step ≡ Ended its
unfolding attempting_ask
ends_at p session a (Ended found) its end asks = let same : found ≡ its = cc in ap Ended same
ends_at p session a step its end asks = cc

-- what an attempt ends with
pub attempt_ends : (p : Places) (session : ℕ) (a : AttemptState) (its : TryAnswer) → AttemptRestsOrAsks a → attempt_ask p session a ≡ Done its → a.step ≡ Ended its
attempt_ends p session a its rests asks = ends_at p session a a.step its (sym (attempt_done p session a rests) ∙ ap is_done asks) asks
