-- Behind a step that changes the log a try needs nothing more to be kept: its record has an address, or the try is at its end.
use Rattle.std.proofs.Common.{◌≡◌, ℕ, sym, subst, Bool, true, false, Option, None, Some}
use Rattle.std.specs.Prelude.{◌==◌, ◌&&◌, not, nat_lt, ◌^◌, if◌then◌else◌}
use Rattle.fkv_base.specs.declared.numbers.Addr.{Addr}
use Rattle.fkv_map.specs.declared.operations.Reply.{Reply}
use Rattle.fkv_map.specs.Keys.{reply_from}
use Rattle.fkv_plane.specs.declared.asks.Ask.{Ask}
use Rattle.fkv_plane.specs.declared.asks.Ask.TheVariants.{Done}
use Rattle.fkv_plane.specs.declared.places.Places.{Places}
use Rattle.fkv_log.specs.declared.reserving.ReserveAnswer.TheVariants as reserve
use Rattle.fkv_log.specs.Reserving.{reserve_next, reserve_next_ask}
use Rattle.fkv_log.specs.Filling.{fill_begun}
use Rattle.fkv_log.specs.Invalidating.{invalidate_ask, invalidate_next}
use Rattle.fkv_latch.specs.declared.latching.LatchTask.TheVariants.{DropShared, DropExclusive}
use Rattle.fkv_index.specs.declared.publishing.PublishAnswer.{PublishAnswer}
use Rattle.fkv_index.specs.declared.publishing.PublishAnswer.TheVariants as publish
use Rattle.fkv_index.specs.Publishing.{publish_next, publish_next_ask}
use Rattle.law_log.specs.Ghosts.{Log}
use Rattle.fkv_ops.specs.declared.answers.DiskRecord.{DiskRecord}
use Rattle.fkv_ops.specs.declared.answers.Reason.TheVariants as reason
use Rattle.fkv_ops.specs.declared.answers.TryAnswer.{TryAnswer}
use Rattle.fkv_ops.specs.declared.answers.TryAnswer.TheVariants as answer
use Rattle.fkv_ops.specs.declared.appending.AppendAnswer.{AppendAnswer}
use Rattle.fkv_ops.specs.declared.appending.AppendAnswer.TheVariants as append
use Rattle.fkv_ops.specs.declared.appending.Appending.TheVariants as appending
use Rattle.fkv_ops.specs.declared.trying.Trying.TheVariants as try
use Rattle.fkv_ops.specs.Values.{value_of}
use Rattle.fkv_ops.specs.Appending.{AppendState, append_ended, addr_reserved, reserve_ledto, publish_ledto, invalidate_ledto, appending_next, append_ask, append_next}
use Rattle.fkv_ops.specs.Trying.{TryState, is_wait, with_latch, ended_without, ends_so, ends_by, is_bounded, ends, takes_effect, full_at, value_changed, append_ledto, trying_next, try_ask, try_next}
use Rattle.fkv_pending.specs.declared.attempting.Attempting.TheVariants.{Tries}
use Rattle.fkv_pending.specs.Attempting.{AttemptState, attempt_next, attempting_next, waits_for_disk, puts_addr, puts, awaits_record, held_kept, tried, try_ledto}
use Rattle.fkv_pending.specs.Pending.{with_sought, with_held, with_latch as with_share}
use Rattle.law_local.specs.Tries.TryRows.{cell_of}
use Rattle.law_local.specs.Tries.Kept.{KeepsForAppend, KeepsForTry, ChangesLog, Swaps, Changes, TakesAddress, Publishes, GivesUp}
use Rattle.law_local.specs.Tries.AttemptRows.{KeepsForAttempt}
use Rattle.fkv_ops.specs.Waiting.{waiting_of}
use Rattle.fkv_ops.specs.declared.answers.Waiting.{Waiting}

-- what a state needs
abbrev pub Needs : (ℕ → ℕ) → Log → Log → TryState → Type 0
Needs home log after t = KeepsForTry home log after t t.step

ended_needs : (home : ℕ → ℕ) (log after : Log) (p : Places) (t : TryState) (its : TryAnswer) → Needs home log after (ended_without p t its)
ended_needs home log after p t its = by_test (t.has_shared && not (is_wait its))
  where
    by_test : (b : Bool) → Needs home log after (if b then with_latch p (record t { has_shared = false }) DropShared (try.DropsShared its) else record t { step = try.Ended its })
    by_test true = tt
    by_test false = tt

ends_so_need : (home : ℕ → ℕ) (log after : Log) (p : Places) (t : TryState) (its : TryAnswer) → Needs home log after (ends_so p t its)
unfolding ends_so
ends_so_need home log after p t its = by_test t.has_exclusive
  where
    by_test : (b : Bool) → Needs home log after (if b then with_latch p (record t { has_exclusive = false }) DropExclusive (try.DropsExclusive its) else ended_without p t its)
    by_test true = tt
    by_test false = ended_needs home log after p t its

ends_by_need : (home : ℕ → ℕ) (log after : Log) (p : Places) (t : TryState) (its : TryAnswer) (waiting : Option Waiting) → Needs home log after (ends_by p t its waiting)
ends_by_need home log after p t its None = ends_so_need home log after p t its
ends_by_need home log after p t its (Some waiting) = by_test (is_bounded t)
  where
    by_test : (b : Bool) → Needs home log after (if b then record t { step = try.LoadsTail waiting } else ends_so p t its)
    by_test true = tt
    by_test false = ends_so_need home log after p t its

ends_need : (home : ℕ → ℕ) (log after : Log) (p : Places) (t : TryState) (its : TryAnswer) → Needs home log after (ends p t its)
unfolding ends
ends_need home log after p t its = ends_by_need home log after p t its (waiting_of its)

changed_needs : (home : ℕ → ℕ) (log after : Log) (p : Places) (t : TryState) (old found : ℕ) → Needs home log after (value_changed p t old found)
changed_needs home log after p t old found = by_test (found == old)
  where
    by_test : (b : Bool) → Needs home log after (if b then takes_effect p t (reply_from (value_of old) t.request.op) else ends p t (answer.Wait reason.Contended))
    by_test true = ends_need home log after p (record t { effect = Some (reply_from (value_of old) t.request.op) }) (answer.Done (reply_from (value_of old) t.request.op))
    by_test false = ends_need home log after p t (answer.Wait reason.Contended)

-- ---- an append
-- what is kept for one that makes a record of this version
abbrev pub AppendNeeds : (ℕ → ℕ) → Log → Log → ℕ → AppendState → Type 0
AppendNeeds home log after version a = KeepsForAppend home log after (cell_of version a.its_words) a.step

reserved_needs : (home : ℕ → ℕ) (log after : Log) (version : ℕ) (a : AppendState) (addr : Addr) → AppendNeeds home log after version (addr_reserved a addr)
reserved_needs home log after version a addr = by_test (nat_lt a.its_words.header.previous.0 addr.0 && nat_lt addr.0 (2 ^ 48))
  where
    by_test : (b : Bool) → AppendNeeds home log after version (if b then record a { filling = fill_begun addr a.its_words; step = appending.Fills addr } else append_ended a append.Contended)
    by_test true = tt
    by_test false = tt

taken_needs : (home : ℕ → ℕ) (log after : Log) (version : ℕ) (p : Places) (room : ℕ) (a : AppendState) (reply : ℕ) (addr : Addr) → a.step ≡ appending.Reserves → reserve_next_ask room a.reserving reply ≡ Done (reserve.Reserved addr) → AppendNeeds home log after version (append_next p room a reply)
unfolding appending_next reserve_ledto
taken_needs home log after version p room a reply addr at won =
    subst (λ step. AppendNeeds home log after version (appending_next p room a step reply)) (sym at)
    (subst (λ ask. AppendNeeds home log after version (reserve_ledto (record a { reserving = reserve_next a.reserving reply }) ask)) (sym won) (reserved_needs home log after version (record a { reserving = reserve_next a.reserving reply }) addr))

published_needs : (home : ℕ → ℕ) (log after : Log) (version : ℕ) (a : AppendState) (addr : Addr) (ask : Ask PublishAnswer) → a.step ≡ appending.Publishes addr → AppendNeeds home log after version (publish_ledto a addr ask)
unfolding publish_ledto
published_needs home log after version a addr (Done publish.Won) at = tt
published_needs home log after version a addr (Done publish.Lost) at = tt
published_needs home log after version a addr ask at = subst (KeepsForAppend home log after (cell_of version a.its_words)) (sym at) tt

publish_needs : (home : ℕ → ℕ) (log after : Log) (version : ℕ) (p : Places) (room : ℕ) (a : AppendState) (reply : ℕ) (addr : Addr) → a.step ≡ appending.Publishes addr → AppendNeeds home log after version (append_next p room a reply)
unfolding appending_next
publish_needs home log after version p room a reply addr at =
    subst (λ step. AppendNeeds home log after version (appending_next p room a step reply)) (sym at) (published_needs home log after version (record a { publishing = publish_next a.publishing reply }) addr (publish_next_ask a.publishing reply) at)

invalidated_needs : (home : ℕ → ℕ) (log after : Log) (version : ℕ) (a : AppendState) (ask : Ask (Unit {0})) → a.step ≡ appending.Invalidates → AppendNeeds home log after version (invalidate_ledto a ask)
unfolding invalidate_ledto
invalidated_needs home log after version a (Done told) at = tt
invalidated_needs home log after version a ask at = subst (KeepsForAppend home log after (cell_of version a.its_words)) (sym at) tt

invalidate_needs : (home : ℕ → ℕ) (log after : Log) (version : ℕ) (p : Places) (room : ℕ) (a : AppendState) (reply : ℕ) → a.step ≡ appending.Invalidates → AppendNeeds home log after version (append_next p room a reply)
unfolding appending_next
invalidate_needs home log after version p room a reply at =
    subst (λ step. AppendNeeds home log after version (appending_next p room a step reply)) (sym at) (invalidated_needs home log after version (record a { invalidating = invalidate_next a.invalidating }) (invalidate_ask p (invalidate_next a.invalidating)) at)

append_needs : (home : ℕ → ℕ) (log after : Log) (p : Places) (t : TryState) (its : Reply) (ask : Ask AppendAnswer) → t.step ≡ try.Appends its → AppendNeeds home log after t.request.version.0 t.append → Needs home log after (append_ledto p t its ask)
unfolding append_ledto
append_needs home log after p t its (Done append.Published) at needs = ends_need home log after p (record t { effect = Some its }) (answer.Done its)
append_needs home log after p t its (Done append.Full) at needs = ends_need home log after p t (full_at t.occasion answer.LogFull)
append_needs home log after p t its (Done append.NoRoom) at needs = ends_need home log after p t (answer.Wait reason.NoRoom)
append_needs home log after p t its (Done append.Contended) at needs = ends_need home log after p t (answer.Wait reason.Contended)
append_needs home log after p t its ask at needs = subst (KeepsForTry home log after t) (sym at) needs

appends_need : (home : ℕ → ℕ) (log after : Log) (p : Places) (room : ℕ) (t : TryState) (reply : ℕ) (its : Reply) → t.step ≡ try.Appends its → AppendNeeds home log after t.request.version.0 (append_next p room t.append reply) → Needs home log after (try_next p room t reply)
unfolding trying_next
appends_need home log after p room t reply its at needs =
    subst (λ step. Needs home log after (trying_next p room (record t { effect = None }) step reply)) (sym at)
    (append_needs home log after p (record t { effect = None; append = append_next p room t.append reply }) its (append_ask p (append_next p room t.append reply)) at needs)

swaps_need : (home : ℕ → ℕ) (log after : Log) (p : Places) (room : ℕ) (t : TryState) (reply : ℕ) (addr : Addr) → t.step ≡ try.SwapsValue addr → Needs home log after (try_next p room t reply)
unfolding trying_next
swaps_need home log after p room t reply addr at =
    subst (λ step. Needs home log after (trying_next p room (record t { effect = None }) step reply)) (sym at) (ends_need home log after p (record t { effect = Some (reply_from None t.request.op) }) (answer.Done (reply_from None t.request.op)))

changes_need : (home : ℕ → ℕ) (log after : Log) (p : Places) (room : ℕ) (t : TryState) (reply : ℕ) (addr : Addr) (old : ℕ) → t.step ≡ try.ChangesValue addr old → Needs home log after (try_next p room t reply)
unfolding trying_next
changes_need home log after p room t reply addr old at =
    subst (λ step. Needs home log after (trying_next p room (record t { effect = None }) step reply)) (sym at) (changed_needs home log after p (record t { effect = None }) old reply)

pub own_needs : (home : ℕ → ℕ) (log after : Log) (p : Places) (room : ℕ) (t : TryState) (reply : ℕ) → ChangesLog room t reply → Needs home log after (try_next p room t reply)
own_needs home log after p room t reply (Swaps {addr = addr} at) = swaps_need home log after p room t reply addr at
own_needs home log after p room t reply (Changes {addr = addr} {old = old} at) = changes_need home log after p room t reply addr old at
own_needs home log after p room t reply (TakesAddress {its = its} {addr = addr} at append_at won) = appends_need home log after p room t reply its at (taken_needs home log after t.request.version.0 p room t.append reply addr append_at won)
own_needs home log after p room t reply (Publishes {its = its} {addr = addr} at append_at) = appends_need home log after p room t reply its at (publish_needs home log after t.request.version.0 p room t.append reply addr append_at)
own_needs home log after p room t reply (GivesUp {its = its} at append_at) = appends_need home log after p room t reply its at (invalidate_needs home log after t.request.version.0 p room t.append reply append_at)

-- ---- and so does the attempt
abbrev pub AttemptNeeds : (ℕ → ℕ) → Log → Log → AttemptState → Type 0
AttemptNeeds home log after a = KeepsForAttempt home log after a a.step

puts_need : (home : ℕ → ℕ) (log after : Log) (a : AttemptState) (sought : Option DiskRecord) → AttemptNeeds home log after (puts_addr a sought)
puts_need home log after a None = tt
puts_need home log after a (Some it) = tt

awaits_need : (home : ℕ → ℕ) (log after : Log) (a : AttemptState) (it : DiskRecord) → AttemptNeeds home log after (awaits_record a it)
awaits_need home log after a it = by_test a.pending.has_asked
  where
    by_test : (b : Bool)
        → AttemptNeeds home log after (if b then waits_for_disk (record a { pending = with_held a.pending (held_kept a.pending.request.held it.entry) }) else puts (record a { pending = with_sought (with_held a.pending (held_kept a.pending.request.held it.entry)) (Some it) }))
    by_test true = tt
    by_test false = puts_need home log after (record a { pending = with_sought (with_held a.pending (held_kept a.pending.request.held it.entry)) (Some it) }) (with_sought (with_held a.pending (held_kept a.pending.request.held it.entry)) (Some it)).sought

tried_needs : (home : ℕ → ℕ) (log after : Log) (a : AttemptState) (its : TryAnswer) → AttemptNeeds home log after (tried a its)
tried_needs home log after a (answer.AwaitsDisk it) = awaits_need home log after a it
tried_needs home log after a (answer.Wait its) = tt
tried_needs home log after a (answer.Found its) = tt
tried_needs home log after a answer.Absent = tt
tried_needs home log after a (answer.Done its) = tt
tried_needs home log after a answer.Shift = tt
tried_needs home log after a answer.IndexFull = tt
tried_needs home log after a answer.LogFull = tt

try_led_needs : (home : ℕ → ℕ) (log after : Log) (a : AttemptState) (ask : Ask TryAnswer) → a.step ≡ Tries → Needs home log after a.trial → AttemptNeeds home log after (try_ledto a ask)
unfolding try_ledto
try_led_needs home log after a (Done its) at needs = tried_needs home log after (record a { spare = a.trial.spare; pending = with_share a.pending a.trial.has_shared }) its
try_led_needs home log after a ask at needs = subst (KeepsForAttempt home log after a) (sym at) needs

pub attempt_needs : (home : ℕ → ℕ) (log after : Log) (p : Places) (bits room session : ℕ) (a : AttemptState) (reply : ℕ) → a.step ≡ Tries → ChangesLog room a.trial reply → AttemptNeeds home log after (attempt_next p bits room session a reply)
unfolding attempting_next
attempt_needs home log after p bits room session a reply at changes =
    subst (λ step. AttemptNeeds home log after (attempting_next p bits room session (record a { effect = None }) step reply)) (sym at)
    (try_led_needs home log after (record a { effect = (try_next p room a.trial reply).effect; trial = try_next p room a.trial reply }) (try_ask p (try_next p room a.trial reply)) at (own_needs home log after p room a.trial reply changes))
