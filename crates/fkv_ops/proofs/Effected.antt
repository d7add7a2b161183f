-- The step that makes an effect is a Swap or a won Cas, and what it tells is true.
use Rattle.std.proofs.Common.{◌≡◌, ℕ, ◌+◌, ◌*◌, ◌^◌, List, ◌∷◌, refl, arith, sym, ap, ◌∙◌, subst, Bool, true, false}
use Rattle.std.specs.Prelude.{◌==◌, ◌&&◌, not, if◌then◌else◌, ⊤, Option, Some, None}
use Rattle.fkv_base.specs.declared.numbers.Addr.{Addr}
use Rattle.fkv_marks.specs.Marks.{mark}
use Rattle.fkv_words.specs.Fields.{bit_of}
use Rattle.fkv_map.specs.declared.operations.Op.{Op}
use Rattle.fkv_map.specs.declared.operations.Op.TheVariants.{Upsert, Delete, Add as Adds, Max as Maxes, Read, Merge as Merges}
use Rattle.fkv_map.specs.declared.operations.Reply.{Reply}
use Rattle.fkv_map.specs.Keys.{key_of, reply_from, value_applied}
use Rattle.fkv_plane.specs.declared.asks.Ask.{Ask}
use Rattle.fkv_plane.specs.declared.asks.Ask.TheVariants.{Swap, Cas, Add, Done}
use Rattle.fkv_plane.specs.declared.places.Places.{Places}
use Rattle.fkv_plane.specs.declared.places.RecordWord.TheVariants as rec
use Rattle.fkv_plane.specs.Places.{record_place}
use Rattle.fkv_plane.specs.Passing.{passed}
use Rattle.fkv_log.specs.declared.record_words.RecordWords.{RecordWords}
use Rattle.fkv_log.specs.Invalidating.{invalidate_ask}
use Rattle.fkv_latch.specs.declared.latching.LatchTask.TheVariants.{TakeShared, DropShared, DropExclusive}
use Rattle.fkv_latch.specs.Latching.{one_share, latch_ask}
use Rattle.fkv_index.specs.declared.publishing.PublishAnswer.TheVariants as publish
use Rattle.fkv_index.specs.declared.publishing.Publishing.TheVariants.{SwapsEntry}
use Rattle.fkv_index.specs.Slots.{entry_addr}
use Rattle.fkv_index.specs.Publishing.{publish_ask, publish_next, publish_next_ask}
use Rattle.fkv_index.specs.IndexWorld.{new_entry}
use Rattle.fkv_ops.specs.declared.answers.TryAnswer.{TryAnswer}
use Rattle.fkv_ops.specs.declared.answers.TryAnswer.TheVariants as answer
use Rattle.fkv_ops.specs.declared.answers.Reason.TheVariants as reason
use Rattle.fkv_ops.specs.declared.appending.FoundSlot.{FoundSlot}
use Rattle.fkv_ops.specs.declared.appending.AppendAnswer.{AppendAnswer}
use Rattle.fkv_ops.specs.declared.appending.AppendAnswer.TheVariants as append
use Rattle.fkv_ops.specs.declared.appending.Appending.{Appending}
use Rattle.fkv_ops.specs.declared.appending.Appending.TheVariants as appending
use Rattle.fkv_ops.specs.declared.trying.Trying.{Trying}
use Rattle.fkv_ops.specs.declared.trying.Trying.TheVariants.{Ended, TakesShared, LoadsPhase, Walks, CountsTaken, LoadsSafe, SwapsValue, LoadsCurrent, ChangesValue, LoadsAnswer, TakesExclusive, LoadsOld, Appends, LoadsTail, LoadsTaken, DropsExclusive, DropsShared}
use Rattle.fkv_ops.specs.declared.answers.Waiting.{Waiting}
use Rattle.fkv_ops.specs.declared.answers.Waiting.TheVariants.{For, ForRecord}
use Rattle.fkv_ops.specs.Values.{value_of, word_of}
use Rattle.fkv_ops.specs.Requests.{is_read, is_blind}
use Rattle.fkv_ops.specs.Appending.{AppendState, appending_ask, append_ask, publish_ledto, appending_next, append_next}
use Rattle.fkv_ops.specs.Trying.{TryState, new_try, trying_ask, try_ask, trying_next, is_wait, with_latch, walks, is_bounded, ends, ends_by, ends_so, ended_without, takes_effect, full_at, value_changed, append_ledto, words_of}
use Rattle.fkv_ops.specs.TryRun.{Trial, home_at, trial_begun, try_run, Told, told_by, effects_of}
use Rattle.fkv_ops.specs.Reasons.{latch_place, Loaded, IsStored, HasEntry, needs_exclusive}
use Rattle.fkv_ops.specs.Effects.{MayChange, IsMadeOf, IsPublished, IsEffect, BySwap, ByChange, ByRecord, EffectsAreTrue, AreKindsSo, shares_latch, SharesFirst, EachMayStay, HasSetBit}
use Rattle.fkv_ops.proofs.BoolTests.{eq_true}
use Rattle.fkv_ops.proofs.Appended.{IsReserved, IsFilled, is_publishing, AppendRow, AppendKnows, append_true, append_answers}
use Rattle.fkv_ops.proofs.TryRows.{norm, Owed, Under, Stays, TryRow, AppendsKnow}
use Rattle.fkv_ops.proofs.TrySteps.{makes_effect, Steps, Quietly, Effectively, owed_then, quieted}
use Rattle.fkv_ops.proofs.TryRuns.{Known, quieted_ask, quieted_next, step_true, run_true, run_known}

the_reply : (a b : Reply) → Some a ≡ Some b → a ≡ b
the_reply a b e = cc

none_told : {X : Type 0} (a : Reply) → None ≡ Some a → X
none_told a e = cc

-- a try's end tells nothing
without_effect : (p : Places) (t : TryState) (its : TryAnswer) → (ended_without p t its).effect ≡ t.effect
without_effect p t its = by_test (t.has_shared && not (is_wait its))
  where
    by_test : (b : Bool) → (if b then with_latch p (record t { has_shared = false }) DropShared (DropsShared its) else record t { step = Ended its }).effect ≡ t.effect
    by_test true = refl
    by_test false = refl

ends_so_effect : (p : Places) (t : TryState) (its : TryAnswer) → (ends_so p t its).effect ≡ t.effect
unfolding ends_so
ends_so_effect p t its = by_test t.has_exclusive
  where
    by_test : (b : Bool) → (if b then with_latch p (record t { has_exclusive = false }) DropExclusive (DropsExclusive its) else ended_without p t its).effect ≡ t.effect
    by_test true = refl
    by_test false = without_effect p t its

waits_effect : (p : Places) (t : TryState) (its : TryAnswer) (waiting : Waiting) → (ends_by p t its (Some waiting)).effect ≡ t.effect
waits_effect p t its waiting = by_test (is_bounded t)
  where
    by_test : (b : Bool) → (if b then record t { step = LoadsTail waiting } else ends_so p t its).effect ≡ t.effect
    by_test true = refl
    by_test false = ends_so_effect p t its

pub ends_effect : (p : Places) (t : TryState) (its : TryAnswer) → (ends p t its).effect ≡ t.effect
unfolding ends
ends_effect p t (answer.Wait it) = waits_effect p t (answer.Wait it) (For it)
ends_effect p t (answer.AwaitsDisk it) = waits_effect p t (answer.AwaitsDisk it) (ForRecord it)
ends_effect p t its = ends_so_effect p t its

-- a value that doesn't depend on the old one
blind_same : (op : Op) (old : Option ℕ) → is_blind op ≡ true → (value_applied None op ≡ value_applied old op) × (reply_from None op ≡ reply_from old op)
blind_same (Upsert key value) old e = (refl, refl)
blind_same (Delete key) old e = (refl, refl)
blind_same (Adds key n) old e = cc
blind_same (Maxes key n) old e = cc
blind_same (Read key) old e = cc
blind_same (Merges key which n) old e = cc

swap_effect : (c : Trial) (told : Told) (t : TryState) (addr : Addr) (reply : ℕ) (its : Reply) → MayChange c told addr.0 → is_blind c.request.op ≡ true → (takes_effect c.places (quieted c t) (reply_from None c.request.op)).effect ≡ Some its
    → IsEffect c told (Swap (record_place c.places addr.0 rec.Value) (word_of (value_applied None c.request.op))) reply its
swap_effect c told t addr reply its may blind e =
    let same = blind_same c.request.op (value_of reply) blind in
    let told_so = the_reply (reply_from None c.request.op) its (sym (ends_effect c.places (record (quieted c t) { effect = Some (reply_from None c.request.op) }) (answer.Done (reply_from None c.request.op))) ∙ e) in
    BySwap (record { addr = addr.0; may = may; blind = blind; its_ask = ap (λ v. Swap (record_place c.places addr.0 rec.Value) (word_of v)) same.0; its_reply = sym told_so ∙ same.1 })

change_effect : (c : Trial) (told : Told) (t : TryState) (addr : Addr) (old reply : ℕ) (its : Reply) → MayChange c told addr.0 → Loaded told (record_place c.places addr.0 rec.Value) old → (value_changed c.places (quieted c t) old reply).effect ≡ Some its
    → IsEffect c told (Cas (record_place c.places addr.0 rec.Value) old (word_of (value_applied (value_of old) c.request.op))) reply its
change_effect c told t addr old reply its may loaded = by_word (reply == old) refl
  where
    new : ℕ → ℕ
    new word = word_of (value_applied (value_of word) c.request.op)

    by_word : (b : Bool) → (reply == old) ≡ b → (if b then takes_effect c.places (quieted c t) (reply_from (value_of old) c.request.op) else ends c.places (quieted c t) (answer.Wait reason.Contended)).effect ≡ Some its
        → IsEffect c told (Cas (record_place c.places addr.0 rec.Value) old (new old)) reply its
    by_word true d e =
        let same : old ≡ reply = sym (eq_true reply old d) in
        let told_so = the_reply (reply_from (value_of old) c.request.op) its (sym (ends_effect c.places (record (quieted c t) { effect = Some (reply_from (value_of old) c.request.op) }) (answer.Done (reply_from (value_of old) c.request.op))) ∙ e) in
        ByChange (record { addr = addr.0; may = may; its_old = subst (Loaded told (record_place c.places addr.0 rec.Value)) same loaded; its_ask = ap (λ w. Cas (record_place c.places addr.0 rec.Value) w (new w)) same; its_reply = sym told_so ∙ ap (λ w. reply_from (value_of w) c.request.op) same })
    by_word false d e = none_told its (sym (ends_effect c.places (quieted c t) (answer.Wait reason.Contended)) ∙ e)

-- the Cas by which a record was published
record PublishedBy (c : Trial) (told : Told) (slot : FoundSlot) (words : RecordWords) (ask : Ask TryAnswer) (reply : ℕ) : Type 0 where
  addr : Addr
  its_ask : ask ≡ Cas slot.place slot.entry (new_entry addr.0 slot.tag)
  won : reply ≡ slot.entry
  reserved : IsReserved c told slot addr
  filled : IsFilled c told words addr

swap_ask : (place entry new : ℕ) → passed (passed (publish_ask (SwapsEntry place entry new)) append.Contended) answer.Shift ≡ Cas place entry new
unfolding publish_ask passed
swap_ask place entry new = refl

swap_won : (p : Places) (a : AppendState) (addr : Addr) (place entry new reply : ℕ) → append_ask p (publish_ledto a addr (publish_next_ask (SwapsEntry place entry new) reply)) ≡ Done append.Published → reply ≡ entry
unfolding publish_next_ask publish_ledto appending_ask invalidate_ask passed
swap_won p a addr place entry new reply = by_word (reply == entry) refl
  where
    by_word : (b : Bool) → (reply == entry) ≡ b → append_ask p (publish_ledto a addr (Done (if b then publish.Won else publish.Lost))) ≡ Done append.Published → reply ≡ entry
    by_word true d e = eq_true reply entry d
    by_word false d e = cc

published_row : (c : Trial) (told : Told) (slot : FoundSlot) (words : RecordWords) (last : Appending) (a : AppendState) (step : Appending) (reply : ℕ) → AppendRow c told slot words last a step → is_publishing step ≡ true
    → append_ask c.places (appending_next c.places c.room a step reply) ≡ Done append.Published → PublishedBy c told slot words (passed (appending_ask c.places a step) answer.Shift) reply
unfolding appending_ask appending_next
published_row c told slot words last a (appending.Publishes addr) reply row e f = record {
  addr = addr;
  its_ask = ap (λ x. passed (passed (publish_ask x) append.Contended) answer.Shift) row.2 ∙ swap_ask slot.place slot.entry (new_entry addr.0 slot.tag);
  won = swap_won c.places (record a { publishing = publish_next a.publishing reply }) addr slot.place slot.entry (new_entry addr.0 slot.tag) reply
      (subst (λ x. append_ask c.places (publish_ledto (record a { publishing = publish_next a.publishing reply }) addr (publish_next_ask x reply)) ≡ Done append.Published) row.2 f);
  reserved = row.0;
  filled = row.1;
}
published_row c told slot words last a (appending.Ended its) reply row e f = cc
published_row c told slot words last a appending.Reserves reply row e f = cc
published_row c told slot words last a (appending.Fills addr) reply row e f = cc
published_row c told slot words last a appending.Invalidates reply row e f = cc

-- where it tells an effect the append has come to its end
append_effect : (p : Places) (t : TryState) (its it : Reply) (ask : Ask AppendAnswer) → t.effect ≡ None → (append_ledto p t its ask).effect ≡ Some it → (ask ≡ Done append.Published) × (its ≡ it)
unfolding append_ledto
append_effect p t its it (Done append.Published) quiet e = (refl, the_reply its it (sym (ends_effect p (record t { effect = Some its }) (answer.Done its)) ∙ e))
append_effect p t its it (Done append.Full) quiet e = none_told it (sym quiet ∙ sym (ends_effect p t (full_at t.occasion answer.LogFull)) ∙ e)
append_effect p t its it (Done append.NoRoom) quiet e = none_told it (sym quiet ∙ sym (ends_effect p t (answer.Wait reason.NoRoom)) ∙ e)
append_effect p t its it (Done append.Contended) quiet e = none_told it (sym quiet ∙ sym (ends_effect p t (answer.Wait reason.Contended)) ∙ e)
append_effect p t its it ask quiet e = none_told it (sym quiet ∙ e)

-- the word of a header that isn't invalid
pub plain : (x y : ℕ) → x + y + bit_of false * 2 ^ 62 ≡ x + y
plain x y = omega arith

published_effect : (c : Trial) (told : Told) (place entry : ℕ) (old : Option ℕ) (is_current : Bool) (ask : Ask TryAnswer) (reply : ℕ) (its : Reply)
    → PublishedBy c told (record { place = place; entry = entry; tag = (home_at c).tag }) (words_of c.request entry old) ask reply → HasEntry c told place entry → IsMadeOf c told place entry old is_current
    → (needs_exclusive c is_current ≡ true → HasSetBit c told) → its ≡ reply_from old c.request.op → IsEffect c told ask reply its
published_effect c told place entry old is_current ask reply its by slot made_of alone told_so = ByRecord (subst (λ r. IsPublished c told ask r its) (sym by.won) (record {
  place = place;
  addr = by.addr.0;
  old = old;
  is_current = is_current;
  its_ask = by.its_ask;
  slot = slot;
  made_of = made_of;
  alone = alone;
  reserved = by.reserved.its_cas;
  above = by.reserved.above;
  its_value = by.filled.its_value;
  its_key = by.filled.its_key;
  its_header = subst (IsStored told (record_place c.places by.addr.0 rec.Header)) (plain (entry_addr entry) ((mark c.request.version.0) * 2 ^ 48)) by.filled.its_header;
  its_reply = told_so;
}))

-- any ask and any reply
abbrev pub anything : Told
anything ask reply = ⊤

appends_effect : (c : Trial) (told : Told) (t : TryState) (r : Reply) (reply : ℕ) (its : Reply) → AppendsKnow c told t r → AppendsKnow c anything t r
    → (append_ledto c.places (record (quieted c t) { append = append_next c.places c.room t.append reply }) r (append_ask c.places (append_next c.places c.room t.append reply))).effect ≡ Some its
    → IsEffect c told (passed (append_ask c.places t.append) answer.Shift) reply its
appends_effect c told t r reply its row any e =
    let led = append_effect c.places (record (quieted c t) { append = append_next c.places c.room t.append reply }) r its (append_ask c.places (append_next c.places c.room t.append reply)) refl e in
    let behind : AppendKnows c anything (record { place = any.place; entry = any.entry; tag = (home_at c).tag }) (words_of c.request any.entry any.old) t.append.step (append_next c.places c.room t.append reply) =
    append_true c anything (record { place = any.place; entry = any.entry; tag = (home_at c).tag }) (words_of c.request any.entry any.old) any.last t.append reply any.appends any.asks tt in
    let publishes : is_publishing t.append.step ≡ true =
    append_answers c anything (record { place = any.place; entry = any.entry; tag = (home_at c).tag }) (words_of c.request any.entry any.old) t.append.step (append_next c.places c.room t.append reply) append.Published behind led.0 in
    published_effect c told row.place row.entry row.old row.is_current (passed (append_ask c.places t.append) answer.Shift) reply its
    (published_row c told (record { place = row.place; entry = row.entry; tag = (home_at c).tag }) (words_of c.request row.entry row.old) row.last t.append t.append.step reply row.appends.its_row publishes led.0)
    row.appends.has_slot row.made_of row.alone (sym led.1 ∙ row.its_reply)

effect_row : (c : Trial) (told : Told) (t : TryState) (step : Trying) (reply : ℕ) (its : Reply) → TryRow c told t step → TryRow c anything t step → makes_effect step ≡ true → (trying_next c.places c.room (quieted c t) step reply).effect ≡ Some its
    → IsEffect c told (trying_ask c.places (quieted c t) step) reply its
unfolding trying_ask trying_next
effect_row c told t (SwapsValue addr) reply its row any makes e = swap_effect c told t addr reply its row.1 row.2 e
effect_row c told t (ChangesValue addr old) reply its row any makes e = change_effect c told t addr old reply its row.1 row.2 e
effect_row c told t (Appends r) reply its row any makes e = appends_effect c told t r reply its row any e
effect_row c told t (Ended it) reply its row any makes e = cc
effect_row c told t TakesShared reply its row any makes e = cc
effect_row c told t LoadsPhase reply its row any makes e = cc
effect_row c told t Walks reply its row any makes e = cc
effect_row c told t CountsTaken reply its row any makes e = cc
effect_row c told t (LoadsSafe addr version) reply its row any makes e = cc
effect_row c told t (LoadsCurrent addr) reply its row any makes e = cc
effect_row c told t LoadsAnswer reply its row any makes e = cc
effect_row c told t (TakesExclusive old) reply its row any makes e = cc
effect_row c told t LoadsOld reply its row any makes e = cc
effect_row c told t (LoadsTail waiting) reply its row any makes e = cc
effect_row c told t (LoadsTaken waiting) reply its row any makes e = cc
effect_row c told t (DropsExclusive it) reply its row any makes e = cc
effect_row c told t (DropsShared it) reply its row any makes e = cc

-- which steps make one
makes : (c : Trial) (step : Trying) (owed : Owed) (t : TryState) (its : Reply) → Steps c anything step owed t → t.effect ≡ Some its → makes_effect step ≡ true
makes c step owed t its (Quietly comes) e = none_told its (sym comes.its_effect ∙ e)
makes c step owed t its (Effectively it made none comes) e = made

pub any_known : (c : Trial) (spare : ℕ) (replies : List ℕ) → Known c anything (effects_of c (trial_begun c spare) replies) (try_run c (trial_begun c spare) replies)
any_known c spare replies = run_true c anything spare replies (λ ask reply among. tt)

pub run_makes : (c : Trial) (spare : ℕ) (replies : List ℕ) (reply : ℕ) (its : Reply) → (try_run c (trial_begun c spare) (reply ∷ replies)).effect ≡ Some its
    → makes_effect (try_run c (trial_begun c spare) replies).step ≡ true
run_makes c spare replies reply its e =
    makes c (try_run c (trial_begun c spare) replies).step (owed_then (try_run c (trial_begun c spare) replies) (try_run c (trial_begun c spare) replies).step reply) (try_run c (trial_begun c spare) (reply ∷ replies)) its
    (step_true c anything (effects_of c (trial_begun c spare) replies) (try_run c (trial_begun c spare) replies) reply (any_known c spare replies) tt) e

pub effects_true : EffectsAreTrue
effects_true c spare replies reply its e =
    let known = run_known c spare replies in
    let any = any_known c spare replies in
    let t : TryState = try_run c (trial_begun c spare) replies in
    subst (λ ask. IsEffect c (told_by c (trial_begun c spare) replies) ask reply its) (sym (quieted_ask c t known.same))
    (effect_row c (told_by c (trial_begun c spare) replies) t t.step reply its known.row any.row (run_makes c spare replies reply its e) (ap (λ x. x.effect) (quieted_next c t reply known.same) ∙ e))

-- an update that may make its effect has shared the latch where it has to
added : (c : Trial) (told : Told) (t : TryState) (step : Trying) → TryRow c told t step → makes_effect step ≡ true → Under c told t.has_shared
added c told t (SwapsValue addr) row e = row.0.under
added c told t (ChangesValue addr old) row e = row.0.under
added c told t (Appends its) row e = row.updates.under
added c told t (Ended it) row e = cc
added c told t TakesShared row e = cc
added c told t LoadsPhase row e = cc
added c told t Walks row e = cc
added c told t CountsTaken row e = cc
added c told t (LoadsSafe addr version) row e = cc
added c told t (LoadsCurrent addr) row e = cc
added c told t LoadsAnswer row e = cc
added c told t (TakesExclusive old) row e = cc
added c told t LoadsOld row e = cc
added c told t (LoadsTail waiting) row e = cc
added c told t (LoadsTaken waiting) row e = cc
added c told t (DropsExclusive it) row e = cc
added c told t (DropsShared it) row e = cc

-- and seen that its session may stay
stayed : (c : Trial) (told : Told) (t : TryState) (step : Trying) → TryRow c told t step → makes_effect step ≡ true → Stays c told
stayed c told t (SwapsValue addr) row e = row.0.stays
stayed c told t (ChangesValue addr old) row e = row.0.stays
stayed c told t (Appends its) row e = row.updates.stays
stayed c told t (Ended it) row e = cc
stayed c told t TakesShared row e = cc
stayed c told t LoadsPhase row e = cc
stayed c told t Walks row e = cc
stayed c told t CountsTaken row e = cc
stayed c told t (LoadsSafe addr version) row e = cc
stayed c told t (LoadsCurrent addr) row e = cc
stayed c told t LoadsAnswer row e = cc
stayed c told t (TakesExclusive old) row e = cc
stayed c told t LoadsOld row e = cc
stayed c told t (LoadsTail waiting) row e = cc
stayed c told t (LoadsTaken waiting) row e = cc
stayed c told t (DropsExclusive it) row e = cc
stayed c told t (DropsShared it) row e = cc

pub each_may_stay : EachMayStay
each_may_stay c spare replies reply its wants e =
    let known = run_known c spare replies in
    let t : TryState = try_run c (trial_begun c spare) replies in
    stayed c (told_by c (trial_begun c spare) replies) t t.step known.row (run_makes c spare replies reply its e) wants

share_first : (c : Trial) (spare : ℕ) (b : Bool) → b ≡ true
    → try_ask c.places (if b then with_latch c.places (norm c (new_try c.bits c.request c.seen c.occasion spare)) TakeShared TakesShared
    else walks c.places (norm c (new_try c.bits c.request c.seen c.occasion spare))) ≡ Add (latch_place c) one_share
unfolding trying_ask latch_ask passed
share_first c spare true e = refl
share_first c spare false e = cc

wants_so : (a b : Bool) → a ≡ true → b ≡ false → (a && not b) ≡ true
wants_so true false e f = refl
wants_so true true e f = cc
wants_so false b e f = cc

pub shares_first : SharesFirst
shares_first c spare wants none = record {
  first = share_first c spare (shares_latch c && not c.request.has_latch) (wants_so (shares_latch c) c.request.has_latch wants none);
  does = λ replies reply its e.
      let known = run_known c spare replies in
      let t : TryState = try_run c (trial_begun c spare) replies in
      let under = added c (told_by c (trial_begun c spare) replies) t t.step known.row (run_makes c spare replies reply its e) in
      under.has_added wants none;
}

reads_alone : (op : Op) → is_read op ≡ true → op ≡ Read (key_of op)
reads_alone (Upsert key value) e = cc
reads_alone (Delete key) e = cc
reads_alone (Adds key n) e = cc
reads_alone (Maxes key n) e = cc
reads_alone (Read key) e = refl
reads_alone (Merges key which n) e = cc

pub kinds_so : AreKindsSo
kinds_so = record { reads = λ key. refl; reads_alone = reads_alone; same_value = λ op old e. sym (blind_same op old e).0; same_reply = λ op old e. sym (blind_same op old e).1 }
