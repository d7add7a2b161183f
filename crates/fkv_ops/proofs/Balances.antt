-- Each ask changes the latch by just what the try owes to it then.
use Rattle.std.proofs.Common.{◌≡◌, ℕ, ◌+◌, ◌-◌, ◌*◌, ◌/◌, ◌%◌, ◌<◌, ◌^◌, refl, arith, sym, subst, Bool, true, false}
use Rattle.std.specs.Prelude.{◌==◌, ◌&&◌}
use Rattle.std.proofs.lemmas.Bool.Decides.{nat_tests}
use Rattle.std.proofs.lemmas.Nat.{pow_pos}
use Rattle.std.proofs.Math.Nat.{mod-lt}
use Rattle.fkv_base.specs.declared.numbers.Addr.{Addr}
use Rattle.fkv_words.specs.Fields.{bit_of}
use Rattle.fkv_map.specs.Keys.{key_of, value_applied}
use Rattle.fkv_plane.specs.declared.asks.Ask.{Ask}
use Rattle.fkv_plane.specs.declared.asks.Ask.TheVariants.{Load, Cas, Done}
use Rattle.fkv_plane.specs.declared.places.RecordWord.TheVariants as rec
use Rattle.fkv_plane.specs.Places.{record_place}
use Rattle.fkv_plane.specs.Passing.{passed}
use Rattle.fkv_log.specs.declared.filling.Filling.{Filling}
use Rattle.fkv_log.specs.declared.filling.Filling.TheVariants as fill
use Rattle.fkv_log.specs.declared.invalidating.Invalidating.{Invalidating}
use Rattle.fkv_log.specs.declared.invalidating.Invalidating.TheVariants as invalidate
use Rattle.fkv_log.specs.declared.loading.Loading.{Loading}
use Rattle.fkv_log.specs.declared.loading.Loading.TheVariants as load
use Rattle.fkv_log.specs.declared.reserving.Reserving.{Reserving}
use Rattle.fkv_log.specs.declared.reserving.Reserving.TheVariants as reserve
use Rattle.fkv_log.specs.Filling.{fill_ask}
use Rattle.fkv_log.specs.Invalidating.{invalidate_ask}
use Rattle.fkv_log.specs.Loading.{load_ask}
use Rattle.fkv_log.specs.Reserving.{reserve_ask}
use Rattle.fkv_latch.specs.declared.latching.Latching.{Latching}
use Rattle.fkv_latch.specs.declared.latching.Latching.TheVariants as latching
use Rattle.fkv_latch.specs.Latching.{one_share, exclusive_bit, latch_ask}
use Rattle.fkv_index.specs.declared.finding.FindStep.{FindStep}
use Rattle.fkv_index.specs.declared.finding.FindStep.TheVariants as find
use Rattle.fkv_index.specs.declared.finding.Finding.{Finding}
use Rattle.fkv_index.specs.declared.publishing.Publishing.TheVariants.{SwapsEntry}
use Rattle.fkv_index.specs.Finding.{find_step_ask}
use Rattle.fkv_index.specs.Publishing.{publish_ask}
use Rattle.fkv_index.specs.IndexWorld.{new_entry}
use Rattle.fkv_ops.specs.declared.answers.TryAnswer.{TryAnswer}
use Rattle.fkv_ops.specs.declared.answers.TryAnswer.TheVariants as answer
use Rattle.fkv_ops.specs.declared.appending.AppendAnswer.TheVariants as append
use Rattle.fkv_ops.specs.declared.appending.Appending.{Appending}
use Rattle.fkv_ops.specs.declared.appending.Appending.TheVariants as appending
use Rattle.fkv_ops.specs.declared.trying.Trying.{Trying}
use Rattle.fkv_ops.specs.declared.trying.Trying.TheVariants.{Ended, TakesShared, LoadsPhase, Walks, CountsTaken, LoadsSafe, SwapsValue, LoadsCurrent, ChangesValue, LoadsAnswer, TakesExclusive, LoadsOld, Appends, LoadsTail, LoadsTaken, DropsExclusive, DropsShared}
use Rattle.fkv_ops.specs.declared.walking.WalkAnswer.TheVariants as walk
use Rattle.fkv_ops.specs.declared.walking.Walking.{Walking}
use Rattle.fkv_ops.specs.declared.walking.Walking.TheVariants as walking
use Rattle.fkv_ops.specs.Values.{value_of, word_of}
use Rattle.fkv_ops.specs.Walking.{WalkState, walking_ask, walk_ask}
use Rattle.fkv_ops.specs.Appending.{AppendState, appending_ask, append_ask}
use Rattle.fkv_ops.specs.Trying.{TryState, trying_ask, words_of}
use Rattle.fkv_ops.specs.TryRun.{Trial, home_at, Told}
use Rattle.fkv_ops.specs.Reasons.{latch_place}
use Rattle.fkv_ops.specs.LatchCounts.{is_adding, is_setting}
use Rattle.fkv_ops.proofs.Searched.{StandsAt, SearchStep}
use Rattle.fkv_ops.proofs.Walked.{WalkRow, LoadsRecord, loads_place}
use Rattle.fkv_ops.proofs.Appended.{AppendRow}
use Rattle.fkv_ops.proofs.TryRows.{norm, Owed, latch_held, owed_at, ShareRow, AloneRow, TryRow}
use Rattle.fkv_ops.proofs.TrySteps.{owed_then}

-- what is owed, before an ask and behind it
pub record Balances (c : Trial) (before : Owed) (ask : Ask TryAnswer) (reply : ℕ) (behind : Owed) : Type 0 where
  pub shares : before.shares + bit_of (is_adding c one_share ask) ≡ behind.shares + bit_of (is_adding c (2 ^ 64 - one_share) ask)
  pub bits : before.bits + bit_of (is_setting c ask reply) ≡ behind.bits + bit_of (is_adding c exclusive_bit ask)

-- an ask that has nothing to do with the latch
pub record IsApart (c : Trial) (ask : Ask TryAnswer) (reply : ℕ) : Type 0 where
  pub adds_none : (number : ℕ) → is_adding c number ask ≡ false
  pub sets_none : is_setting c ask reply ≡ false

apart_balances : (c : Trial) (owed : Owed) (ask : Ask TryAnswer) (reply : ℕ) → IsApart c ask reply → Balances c owed ask reply owed
apart_balances c owed ask reply apart = record {
  shares = rw (apart.adds_none one_share, apart.adds_none (2 ^ 64 - one_share)) refl;
  bits = rw (apart.sets_none, apart.adds_none exclusive_bit) refl;
}

first_false : (a b d : Bool) → a ≡ false → (a && b && d) ≡ false
first_false true b d e = cc
first_false false b d e = refl

second_false : (a b d : Bool) → b ≡ false → (a && b && d) ≡ false
second_false true true d e = cc
second_false true false d e = refl
second_false false b d e = refl

less_apart : (a b : ℕ) → a < b → (a == b) ≡ false
less_apart a b low = grind (arith, nat_tests, low)

more_apart : (a b : ℕ) → b < a → (a == b) ≡ false
more_apart a b low = grind (arith, nat_tests, low)

same_same : (a : ℕ) → (a == a) ≡ true
same_same a = grind (arith, nat_tests)

-- a Cas to a word that isn't so much more
other_cas : (c : Trial) (place old new reply : ℕ) → new < old + exclusive_bit → IsApart c (Cas place old new) reply
other_cas c place old new reply low = record { adds_none = λ number. refl; sets_none = first_false (new == old + exclusive_bit) (place == latch_place c) (reply == old) (less_apart new (old + exclusive_bit) low) }

-- and one at another place
else_cas : (c : Trial) (place old new reply : ℕ) → latch_place c < place → IsApart c (Cas place old new) reply
else_cas c place old new reply high = record { adds_none = λ number. refl; sets_none = second_false (new == old + exclusive_bit) (place == latch_place c) (reply == old) (more_apart place (latch_place c) high) }

find_apart : (c : Trial) (told : Told) (f : Finding) (step : FindStep) (reply : ℕ) → StandsAt c told f → SearchStep c told f step → IsApart c (passed (passed (find_step_ask f step) walk.Contended) answer.Shift) reply
unfolding find_step_ask passed
find_apart c told f find.AtRest reply stands knows = absurd knows
find_apart c told f (find.LoadsSlot slot) reply stands knows = record { adds_none = λ number. refl; sets_none = refl }
find_apart c told f find.LoadsLink reply stands knows = record { adds_none = λ number. refl; sets_none = refl }
find_apart c told f (find.LoadsTaken word) reply stands knows = record { adds_none = λ number. refl; sets_none = refl }
find_apart c told f (find.TakesBucket word taken) reply stands knows = other_cas c _ taken (taken + 1) reply (omega arith)
find_apart c told f (find.LinksBucket word) reply stands knows =
    let few = stands.few in
    let limit = c.places.few_overflow in
    other_cas c _ word (word + f.spare) reply (omega (arith, few, limit))

load_apart : (c : Trial) (loading : Loading) (reply : ℕ) → IsApart c (passed (passed (load_ask c.places loading) walk.Contended) answer.Shift) reply
unfolding load_ask passed
load_apart c load.AtRest reply = record { adds_none = λ number. refl; sets_none = refl }
load_apart c (load.LoadsHeader addr) reply = record { adds_none = λ number. refl; sets_none = refl }
load_apart c (load.LoadsKey addr header) reply = record { adds_none = λ number. refl; sets_none = refl }
load_apart c (load.HasKey addr header key) reply = record { adds_none = λ number. refl; sets_none = refl }
load_apart c (load.LoadsValue addr header key) reply = record { adds_none = λ number. refl; sets_none = refl }

done_apart : (c : Trial) (its : TryAnswer) (reply : ℕ) → IsApart c (Done its) reply
done_apart c its reply = record { adds_none = λ number. refl; sets_none = refl }

pub load_word_apart : (c : Trial) (place reply : ℕ) → IsApart c (Load place) reply
load_word_apart c place reply = record { adds_none = λ number. refl; sets_none = refl }

pub walk_apart : (c : Trial) (told : Told) (w : WalkState) (step : Walking) (reply : ℕ) → WalkRow c told w step → IsApart c (passed (walking_ask c.places w step) answer.Shift) reply
unfolding walking_ask passed
walk_apart c told w (walking.Ended its) reply row = done_apart c answer.Shift reply
walk_apart c told w walking.Finds reply row = find_apart c told w.finding w.finding.step reply row.0.0 row.0.1
walk_apart c told w (walking.Meets addr) reply row = load_apart c w.loading reply
walk_apart c told w (walking.HasFound addr version) reply row = done_apart c answer.Shift reply
walk_apart c told w walking.LoadsValue reply row = absurd row

reserve_apart : (c : Trial) (reserving : Reserving) (reply : ℕ) → IsApart c (passed (passed (reserve_ask reserving) append.Contended) answer.Shift) reply
unfolding reserve_ask passed
reserve_apart c reserve.AtRest reply = done_apart c answer.Shift reply
reserve_apart c (reserve.LoadsLimit bound) reply = load_word_apart c _ reply
reserve_apart c (reserve.LoadsTail limit) reply = load_word_apart c _ reply
reserve_apart c (reserve.TakesTail tail) reply = other_cas c _ tail (tail + 1) reply (omega arith)

fill_apart : (c : Trial) (filling : Filling) (reply : ℕ) → IsApart c (passed (passed (fill_ask c.places filling) append.Contended) answer.Shift) reply
unfolding fill_ask passed
fill_apart c fill.AtRest reply = done_apart c answer.Shift reply
fill_apart c (fill.StoresValue addr words) reply = record { adds_none = λ number. refl; sets_none = refl }
fill_apart c (fill.StoresKey addr words) reply = record { adds_none = λ number. refl; sets_none = refl }
fill_apart c (fill.StoresHeader addr words) reply = record { adds_none = λ number. refl; sets_none = refl }

invalidate_apart : (c : Trial) (invalidating : Invalidating) (reply : ℕ) → IsApart c (passed (passed (invalidate_ask c.places invalidating) append.Contended) answer.Shift) reply
unfolding invalidate_ask passed
invalidate_apart c invalidate.AtRest reply = done_apart c answer.Shift reply
invalidate_apart c (invalidate.StoresHeader addr header) reply = record { adds_none = λ number. refl; sets_none = refl }

small_tag : (c : Trial) → (home_at c).tag < 32768
small_tag c = mod-lt ((key_of c.request.op).0 / 2 ^ c.bits) (omega arith)

small_entry : (addr tag : ℕ) → addr < 281474976710656 → tag < 32768 → addr + tag * 281474976710656 < 9223372036854775808
small_entry addr tag low few = omega (arith, low, few)

publish_apart : (c : Trial) (place entry addr reply : ℕ) → addr < 2 ^ 48 → IsApart c (passed (passed (publish_ask (SwapsEntry place entry (new_entry addr (home_at c).tag))) append.Contended) answer.Shift) reply
unfolding publish_ask passed
publish_apart c place entry addr reply fits =
    let small : addr + (home_at c).tag * 281474976710656 < 9223372036854775808 = small_entry addr (home_at c).tag fits (small_tag c) in
    other_cas c place entry (new_entry addr (home_at c).tag) reply (omega (arith, small))

pub append_apart : (c : Trial) (told : Told) (place entry : ℕ) (words : _) (last : Appending) (a : AppendState) (step : Appending) (reply : ℕ) → AppendRow c told (record { place = place; entry = entry; tag = (home_at c).tag }) words last a step
    → IsApart c (passed (appending_ask c.places a step) answer.Shift) reply
unfolding appending_ask passed
append_apart c told place entry words last a (appending.Ended its) reply row = done_apart c answer.Shift reply
append_apart c told place entry words last a appending.Reserves reply row = reserve_apart c a.reserving reply
append_apart c told place entry words last a (appending.Fills addr) reply row = fill_apart c a.filling reply
append_apart c told place entry words last a (appending.Publishes addr) reply row =
    subst (λ x. IsApart c (passed (passed (publish_ask x) append.Contended) answer.Shift) reply) (sym row.2) (publish_apart c place entry addr.0 reply row.0.fits)
append_apart c told place entry words last a appending.Invalidates reply row = invalidate_apart c a.invalidating reply

-- records lie behind the buckets
frames_behind : (sessions buckets overflow bucket more : ℕ) → bucket < buckets → 24 + 16 * sessions + 8 * bucket + 7 < 24 + 16 * sessions + 8 * (buckets + overflow) + 3 * more + 2
frames_behind sessions buckets overflow bucket more few = omega (arith, few)

pub value_apart : (c : Trial) (addr old new reply : ℕ) → IsApart c (Cas (record_place c.places addr rec.Value) old new) reply
value_apart c addr old new reply =
    let few : (home_at c).bucket < c.places.buckets = subst (λ n. (key_of c.request.op).0 % 2 ^ c.bits < n) (sym c.its_buckets) (mod-lt (key_of c.request.op).0 (pow_pos c.bits)) in
    else_cas c (record_place c.places addr rec.Value) old new reply (frames_behind c.places.sessions c.places.buckets c.places.overflow (home_at c).bucket (addr % c.places.ring) few)

at_latch : (c : Trial) (place : ℕ) → place ≡ latch_place c → (place == latch_place c) ≡ true
at_latch c place e = subst (λ p. (p == latch_place c) ≡ true) (sym e) (same_same (latch_place c))

share_balances : (c : Trial) (told : Told) (t : TryState) (step : Latching) (reply : ℕ) → t.latching ≡ step → t.has_shared ≡ false → ShareRow c told step
    → Balances c (owed_at t TakesShared) (passed (latch_ask t.latching) answer.Shift) reply (owed_then t TakesShared reply)
unfolding latch_ask passed
share_balances c told t (latching.AddsShare place) reply at none row = rw (at, latch_ask, none) (record { shares = rw (at_latch c place row) refl; bits = refl })
share_balances c told t (latching.GivesBack place) reply at none row = rw (at, latch_ask, none) (record { shares = rw (at_latch c place row.0) refl; bits = refl })
share_balances c told t step reply at none row = absurd row

alone_balances : (c : Trial) (told : Told) (t : TryState) (old : _) (step : Latching) (reply : ℕ) → t.latching ≡ step → t.has_exclusive ≡ false → AloneRow c told step
    → Balances c (owed_at t (TakesExclusive old)) (passed (latch_ask t.latching) answer.Shift) reply (owed_then t (TakesExclusive old) reply)
unfolding latch_ask passed
alone_balances c told t old (latching.LoadsWord place) reply at none row = rw (at, latch_ask, none) (record { shares = refl; bits = refl })
alone_balances c told t old (latching.SetsExclusive place word) reply at none row = rw (at, latch_ask, none) (record { shares = refl; bits = rw (same_same (word + exclusive_bit), at_latch c place row.0) (by_word (reply == word)) })
  where
    by_word : (b : Bool) → 0 + bit_of b ≡ bit_of b + 0
    by_word true = refl
    by_word false = refl
alone_balances c told t old step reply at none row = absurd row

drop_balances : (c : Trial) (t : TryState) (its : TryAnswer) (reply : ℕ) → t.latching ≡ latching.DropsExclusive (latch_place c) → Balances c (owed_at t (DropsExclusive its)) (passed (latch_ask t.latching) its) reply (latch_held t)
unfolding latch_ask passed
drop_balances c t its reply at = rw (at, latch_ask) (record { shares = refl; bits = rw (same_same (latch_place c)) (omega arith) })

unshare_balances : (c : Trial) (t : TryState) (its : TryAnswer) (reply : ℕ) → t.latching ≡ latching.DropsShare (latch_place c) → Balances c (owed_at t (DropsShared its)) (passed (latch_ask t.latching) its) reply (latch_held t)
unfolding latch_ask passed
unshare_balances c t its reply at = rw (at, latch_ask) (record { shares = rw (same_same (latch_place c)) (omega arith); bits = refl })

pub loads_apart : (c : Trial) (t : TryState) (addr : Addr) (reply : ℕ) → LoadsRecord t.walk addr → IsApart c (passed (walk_ask c.places t.walk) answer.Shift) reply
loads_apart c t addr reply loads = subst (λ a. IsApart c a reply) (sym (loads_place c.places t.walk addr loads)) (load_word_apart c (record_place c.places addr.0 rec.Value) reply)

-- each ask of each step
pub row_balances : (c : Trial) (told : Told) (t : TryState) (step : Trying) (reply : ℕ) → TryRow c told t step → Balances c (owed_at t step) (trying_ask c.places (norm c t) step) reply (owed_then t step reply)
unfolding trying_ask
row_balances c told t (Ended its) reply row = apart_balances c (latch_held t) (Done its) reply (done_apart c its reply)
row_balances c told t TakesShared reply row = share_balances c told t t.latching reply refl row.not_shared row.its_latching
row_balances c told t LoadsPhase reply row = apart_balances c (latch_held t) (Load _) reply (load_word_apart c _ reply)
row_balances c told t Walks reply row = apart_balances c (latch_held t) (passed (walk_ask c.places t.walk) answer.Shift) reply (walk_apart c told t.walk t.walk.step reply row.walks.its_row)
row_balances c told t CountsTaken reply row = apart_balances c (latch_held t) (Load _) reply (load_word_apart c _ reply)
row_balances c told t (LoadsSafe addr version) reply row = apart_balances c (latch_held t) (Load _) reply (load_word_apart c _ reply)
row_balances c told t (SwapsValue addr) reply row = record { shares = refl; bits = refl }
row_balances c told t (LoadsCurrent addr) reply row = apart_balances c (latch_held t) (passed (walk_ask c.places t.walk) answer.Shift) reply (loads_apart c t addr reply row.2)
row_balances c told t (ChangesValue addr old) reply row =
    apart_balances c (latch_held t) (Cas (record_place c.places addr.0 rec.Value) old (word_of (value_applied (value_of old) c.request.op))) reply (value_apart c addr.0 old (word_of (value_applied (value_of old) c.request.op)) reply)
row_balances c told t LoadsAnswer reply row = apart_balances c (latch_held t) (passed (walk_ask c.places t.walk) answer.Shift) reply (loads_apart c t row.addr reply row.loads)
row_balances c told t (TakesExclusive old) reply row = alone_balances c told t old t.latching reply refl row.not_alone row.its_latching
row_balances c told t LoadsOld reply row = apart_balances c (latch_held t) (passed (walk_ask c.places t.walk) answer.Shift) reply (loads_apart c t row.addr reply row.loads)
row_balances c told t (Appends its) reply row =
    apart_balances c (latch_held t) (passed (append_ask c.places t.append) answer.Shift) reply (append_apart c told row.place row.entry (words_of c.request row.entry row.old) row.last t.append t.append.step reply row.appends.its_row)
row_balances c told t (LoadsTail waiting) reply row = apart_balances c (latch_held t) (Load _) reply (load_word_apart c _ reply)
row_balances c told t (LoadsTaken waiting) reply row = apart_balances c (latch_held t) (Load _) reply (load_word_apart c _ reply)
row_balances c told t (DropsExclusive its) reply row = drop_balances c t its reply row.its_latching
row_balances c told t (DropsShared its) reply row = unshare_balances c t its reply row.its_latching
