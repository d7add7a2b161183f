-- Each ask of a try is one that its step may make.
use Rattle.std.proofs.Common.{◌≡◌, ℕ, ◌*◌, ◌^◌, refl, inl, inr, sym, ap, ◌∙◌, subst, Bool, true, false}
use Rattle.std.specs.Prelude.{◌==◌, if◌then◌else◌, Option, Some, None}
use Rattle.fkv_base.specs.declared.numbers.Addr.{Addr}
use Rattle.fkv_marks.specs.Marks.{mark}
use Rattle.fkv_map.specs.declared.operations.Reply.{Reply}
use Rattle.fkv_map.specs.Keys.{reply_from}
use Rattle.fkv_words.specs.Layout.{header_word}
use Rattle.fkv_plane.specs.declared.asks.Ask.TheVariants.{Done}
use Rattle.fkv_plane.specs.declared.places.Places.{Places}
use Rattle.fkv_plane.specs.declared.places.RecordWord.TheVariants as rec
use Rattle.fkv_plane.specs.Places.{record_place}
use Rattle.fkv_plane.specs.Passing.{passed}
use Rattle.fkv_log.specs.declared.loading.Loading.{Loading}
use Rattle.fkv_log.specs.declared.loading.Loading.TheVariants as load
use Rattle.fkv_log.specs.declared.reserving.Reserving.{Reserving}
use Rattle.fkv_log.specs.declared.reserving.Reserving.TheVariants as reserve
use Rattle.fkv_log.specs.declared.filling.Filling.{Filling}
use Rattle.fkv_log.specs.declared.filling.Filling.TheVariants as fill
use Rattle.fkv_log.specs.declared.invalidating.Invalidating.TheVariants as invalidate
use Rattle.fkv_log.specs.Loading.{load_ask}
use Rattle.fkv_log.specs.Reserving.{reserve_ask}
use Rattle.fkv_log.specs.Filling.{fill_ask}
use Rattle.fkv_log.specs.Invalidating.{invalidate_ask}
use Rattle.fkv_latch.specs.declared.latching.Latching.{Latching}
use Rattle.fkv_latch.specs.declared.latching.Latching.TheVariants as latching
use Rattle.fkv_latch.specs.Latching.{latch_ask}
use Rattle.fkv_index.specs.declared.finding.Finding.{Finding}
use Rattle.fkv_index.specs.declared.finding.FindStep.{FindStep}
use Rattle.fkv_index.specs.declared.finding.FindStep.TheVariants as find
use Rattle.fkv_index.specs.declared.publishing.PublishAnswer.TheVariants as publish
use Rattle.fkv_index.specs.declared.publishing.Publishing.TheVariants.{SwapsEntry}
use Rattle.fkv_index.specs.Slots.{entry_addr}
use Rattle.fkv_index.specs.Finding.{find_step_ask}
use Rattle.fkv_index.specs.Publishing.{publish_ask, publish_next, publish_next_ask}
use Rattle.fkv_index.specs.IndexWorld.{new_entry}
use Rattle.fkv_ops.specs.declared.answers.TryAnswer.{TryAnswer}
use Rattle.fkv_ops.specs.declared.answers.TryAnswer.TheVariants as answer
use Rattle.fkv_ops.specs.declared.answers.Reason.TheVariants as reason
use Rattle.fkv_ops.specs.declared.appending.AppendAnswer.TheVariants as append
use Rattle.fkv_ops.specs.declared.appending.Appending.{Appending}
use Rattle.fkv_ops.specs.declared.appending.Appending.TheVariants as appending
use Rattle.fkv_ops.specs.declared.trying.Trying.{Trying}
use Rattle.fkv_ops.specs.declared.trying.Trying.TheVariants.{Ended, TakesShared, LoadsPhase, Walks, CountsTaken, LoadsSafe, SwapsValue, LoadsCurrent, ChangesValue, LoadsAnswer, TakesExclusive, LoadsOld, Appends, LoadsTail, LoadsTaken, DropsExclusive, DropsShared}
use Rattle.fkv_ops.specs.declared.walking.Walking.{Walking}
use Rattle.fkv_ops.specs.declared.walking.Walking.TheVariants as walking
use Rattle.fkv_ops.specs.declared.walking.WalkAnswer.TheVariants as walk
use Rattle.fkv_ops.specs.Values.{value_of}
use Rattle.fkv_ops.specs.Walking.{WalkState, walking_ask, walk_ask}
use Rattle.fkv_ops.specs.Appending.{AppendState, appending_ask, append_ask, publish_ledto, appending_next, append_next}
use Rattle.fkv_ops.specs.Trying.{TryState, trying_ask, trying_next, try_next, ends, takes_effect, value_changed, append_ledto, words_of}
use Rattle.fkv_ops.specs.TryRun.{Trial, home_at, trial_begun, try_run, Told, told_by}
use Rattle.fkv_ops.specs.Reasons.{latch_place, Loaded, IsLost, ComesTo, HasEntry}
use Rattle.fkv_ops.specs.Effects.{IsMadeOf}
use Rattle.fkv_ops.specs.EachAsk.{ItsValue, ItsKey, ItsHeader, Invalid, TellsEffect, SetsBit, Reserves, Takes, Links, Publishes, AskIsSo, EachAskIsSo}
use Rattle.fkv_ops.proofs.BoolTests.{eq_false}
use Rattle.fkv_ops.proofs.Searched.{unmade, StandsAt, SearchStep}
use Rattle.fkv_ops.proofs.Walked.{LoadRow, WalkRow, LoadsRecord, loads_place}
use Rattle.fkv_ops.proofs.Appended.{ReserveRow, FillRow, IsReserved, AppendRow, invalid_word}
use Rattle.fkv_ops.proofs.TryRows.{ShareRow, AloneRow, TryRow}
use Rattle.fkv_ops.proofs.TrySteps.{quieted}
use Rattle.fkv_ops.proofs.TryRuns.{quieted_ask, quieted_next, run_known}
use Rattle.fkv_ops.proofs.Effected.{ends_effect, plain}

search_so : (c : Trial) (told : Told) (f : Finding) (step : FindStep) (reply : ℕ) (effect : Option Reply) → StandsAt c told f → SearchStep c told f step → AskIsSo c told (passed (passed (find_step_ask f step) walk.Contended) answer.Shift) reply effect
unfolding find_step_ask passed
search_so c told f find.AtRest reply effect stands knows = absurd knows
search_so c told f (find.LoadsSlot slot) reply effect stands knows = tt
search_so c told f find.LoadsLink reply effect stands knows = tt
search_so c told f (find.LoadsTaken word) reply effect stands knows = tt
search_so c told f (find.TakesBucket word taken) reply effect stands knows = record { its_old = knows.2; may = Takes refl refl }
search_so c told f (find.LinksBucket word) reply effect stands knows =
    record { its_old = knows.0.its_word; may = Links f.spare (subst (λ b. ComesTo c told stands.links b f.base) (unmade f.linking knows.0.links) stands.its_bucket) refl knows.0.no_link knows.1 stands.few refl }

load_so : (c : Trial) (told : Told) (addr : Addr) (loading : Loading) (reply : ℕ) (effect : Option Reply) → LoadRow c told addr loading → AskIsSo c told (passed (passed (load_ask c.places loading) walk.Contended) answer.Shift) reply effect
unfolding load_ask passed
load_so c told addr (load.LoadsHeader its) reply effect row = tt
load_so c told addr (load.LoadsKey its header) reply effect row = tt
load_so c told addr loading reply effect row = absurd row

walk_so : (c : Trial) (told : Told) (w : WalkState) (step : Walking) (reply : ℕ) (effect : Option Reply) → WalkRow c told w step → AskIsSo c told (passed (walking_ask c.places w step) answer.Shift) reply effect
unfolding walking_ask passed
walk_so c told w (walking.Ended its) reply effect row = tt
walk_so c told w walking.Finds reply effect row = search_so c told w.finding w.finding.step reply effect row.0.0 row.0.1
walk_so c told w (walking.Meets addr) reply effect row = load_so c told addr w.loading reply effect row.its_load
walk_so c told w (walking.HasFound addr version) reply effect row = tt
walk_so c told w walking.LoadsValue reply effect row = absurd row

loads_so : (c : Trial) (told : Told) (w : WalkState) (addr : Addr) (reply : ℕ) (effect : Option Reply) → LoadsRecord w addr → AskIsSo c told (passed (walk_ask c.places w) answer.Shift) reply effect
loads_so c told w addr reply effect loads = subst (λ a. AskIsSo c told a reply effect) (sym (loads_place c.places w addr loads)) tt

reserve_so : (c : Trial) (told : Told) (reserving : Reserving) (reply : ℕ) (effect : Option Reply) → ReserveRow c told reserving → AskIsSo c told (passed (passed (reserve_ask reserving) append.Contended) answer.Shift) reply effect
unfolding reserve_ask passed
reserve_so c told reserve.AtRest reply effect row = absurd row
reserve_so c told (reserve.LoadsLimit bound) reply effect row = tt
reserve_so c told (reserve.LoadsTail limit) reply effect row = tt
reserve_so c told (reserve.TakesTail tail) reply effect row = record { its_old = row; may = Reserves refl refl }

fill_so : (c : Trial) (told : Told) (place entry : ℕ) (old : Option ℕ) (is_current : Bool) (addr : Addr) (filling : Filling) (reply : ℕ) (effect : Option Reply) → HasEntry c told place entry → IsMadeOf c told place entry old is_current
    → IsReserved c told (record { place = place; entry = entry; tag = (home_at c).tag }) addr → FillRow c told (words_of c.request entry old) addr filling → AskIsSo c told (passed (passed (fill_ask c.places filling) append.Contended) answer.Shift) reply effect
unfolding fill_ask passed
fill_so c told place entry old is_current addr fill.AtRest reply effect slot made_of reserved row = absurd row
fill_so c told place entry old is_current addr (fill.StoresValue it its) reply effect slot made_of reserved row =
    record { addr = addr.0; reserved = reserved.its_cas; its_word = ItsValue made_of (ap (λ a. record_place c.places a.0 rec.Value) row.0) (ap (λ w. w.value) row.1) }
fill_so c told place entry old is_current addr (fill.StoresKey it its) reply effect slot made_of reserved row =
    record { addr = addr.0; reserved = reserved.its_cas; its_word = ItsKey (ap (λ a. record_place c.places a.0 rec.Key) row.0) (ap (λ w. w.key.0) row.1) }
fill_so c told place entry old is_current addr (fill.StoresHeader it its) reply effect slot made_of reserved row = record {
  addr = addr.0;
  reserved = reserved.its_cas;
  its_word = ItsHeader slot (ap (λ a. record_place c.places a.0 rec.Header) row.0) (ap (λ w. header_word w.header) row.1 ∙ plain (entry_addr entry) ((mark c.request.version.0) * 2 ^ 48));
}

-- where the Cas of the slot is won the append has published
published_asks : (p : Places) (a : AppendState) (addr : Addr) (place entry new reply : ℕ) → reply ≡ entry → append_ask p (publish_ledto a addr (publish_next_ask (SwapsEntry place entry new) reply)) ≡ Done append.Published
unfolding publish_next_ask publish_ledto appending_ask
published_asks p a addr place entry new reply won = by_word (reply == entry) refl
  where
    by_word : (b : Bool) → (reply == entry) ≡ b → append_ask p (publish_ledto a addr (Done (if b then publish.Won else publish.Lost))) ≡ Done append.Published
    by_word true e = refl
    by_word false e = absurd (eq_false reply entry e won)

publish_tells : (p : Places) (t : TryState) (its : Reply) → (append_ledto p t its (Done append.Published)).effect ≡ Some its
unfolding append_ledto
publish_tells p t its = ends_effect p (record t { effect = Some its }) (answer.Done its)

publish_so : (c : Trial) (told : Told) (t : TryState) (its : Reply) (a : AppendState) (addr : Addr) (place entry new reply : ℕ) → HasEntry c told place entry
    → AskIsSo c told (passed (passed (publish_ask (SwapsEntry place entry new)) append.Contended) answer.Shift) reply (append_ledto c.places t its (append_ask c.places (publish_ledto a addr (publish_next_ask (SwapsEntry place entry new) reply)))).effect
unfolding publish_ask passed
publish_so c told t its a addr place entry new reply slot = record {
  its_old = slot.its_slot.its_word;
  may = Publishes (λ won. (its, ap (λ ask. (append_ledto c.places t its ask).effect) (published_asks c.places a addr place entry new reply won) ∙ publish_tells c.places t its));
}

invalidate_so : (c : Trial) (told : Told) (place entry : ℕ) (old : Option ℕ) (addr : Addr) (reply : ℕ) (effect : Option Reply) → HasEntry c told place entry → IsReserved c told (record { place = place; entry = entry; tag = (home_at c).tag }) addr
    → IsLost told place entry (new_entry addr.0 (home_at c).tag) → AskIsSo c told (passed (passed (invalidate_ask c.places (invalidate.StoresHeader addr (words_of c.request entry old).header)) append.Contended) answer.Shift) reply effect
unfolding invalidate_ask passed
invalidate_so c told place entry old addr reply effect slot reserved lost = record {
  addr = addr.0;
  reserved = reserved.its_cas;
  its_word = Invalid slot lost refl (invalid_word (entry_addr entry) (mark c.request.version.0) (entry_addr entry) (mark c.request.version.0) refl refl);
}

append_so : (c : Trial) (told : Told) (t : TryState) (its : Reply) (place entry : ℕ) (old : Option ℕ) (is_current : Bool) (last : Appending) (a : AppendState) (step : Appending) (reply : ℕ) → HasEntry c told place entry → IsMadeOf c told place entry old is_current
    → AppendRow c told (record { place = place; entry = entry; tag = (home_at c).tag }) (words_of c.request entry old) last a step
    → AskIsSo c told (passed (appending_ask c.places a step) answer.Shift) reply (append_ledto c.places t its (append_ask c.places (appending_next c.places c.room a step reply))).effect
unfolding appending_ask appending_next passed
append_so c told t its place entry old is_current last a (appending.Ended it) reply slot made_of row = tt
append_so c told t its place entry old is_current last a appending.Reserves reply slot made_of row =
    reserve_so c told a.reserving reply (append_ledto c.places t its (append_ask c.places (appending_next c.places c.room a appending.Reserves reply))).effect row
append_so c told t its place entry old is_current last a (appending.Fills addr) reply slot made_of row =
    fill_so c told place entry old is_current addr a.filling reply (append_ledto c.places t its (append_ask c.places (appending_next c.places c.room a (appending.Fills addr) reply))).effect slot made_of row.0 row.1
append_so c told t its place entry old is_current last a (appending.Publishes addr) reply slot made_of row =
    subst (λ x. AskIsSo c told (passed (passed (publish_ask x) append.Contended) answer.Shift) reply (append_ledto c.places t its (append_ask c.places (publish_ledto (record a { publishing = publish_next a.publishing reply }) addr (publish_next_ask x reply)))).effect) (sym row.2)
    (publish_so c told t its (record a { publishing = publish_next a.publishing reply }) addr place entry (new_entry addr.0 (home_at c).tag) reply slot)
append_so c told t its place entry old is_current last a appending.Invalidates reply slot made_of row =
    subst (λ x. AskIsSo c told (passed (passed (invalidate_ask c.places x) append.Contended) answer.Shift) reply (append_ledto c.places t its (append_ask c.places (appending_next c.places c.room a appending.Invalidates reply))).effect) (sym row.its_step)
    (invalidate_so c told place entry old row.addr reply (append_ledto c.places t its (append_ask c.places (appending_next c.places c.room a appending.Invalidates reply))).effect slot row.reserved row.lost)

share_so : (c : Trial) (told : Told) (step : Latching) (reply : ℕ) (effect : Option Reply) → ShareRow c told step → AskIsSo c told (passed (latch_ask step) answer.Shift) reply effect
unfolding latch_ask passed
share_so c told (latching.AddsShare place) reply effect row = (row, inl refl)
share_so c told (latching.GivesBack place) reply effect row = (row.0, inr (inl refl))
share_so c told step reply effect row = absurd row

alone_so : (c : Trial) (told : Told) (step : Latching) (reply : ℕ) (effect : Option Reply) → AloneRow c told step → AskIsSo c told (passed (latch_ask step) answer.Shift) reply effect
unfolding latch_ask passed
alone_so c told (latching.LoadsWord place) reply effect row = tt
alone_so c told (latching.SetsExclusive place word) reply effect row = record { its_old = subst (λ p. Loaded told p word) (sym row.0) row.2; may = SetsBit row.0 row.1 refl }
alone_so c told step reply effect row = absurd row

drop_so : (c : Trial) (told : Told) (its : TryAnswer) (reply : ℕ) (effect : Option Reply) → AskIsSo c told (passed (latch_ask (latching.DropsExclusive (latch_place c))) its) reply effect
unfolding latch_ask passed
drop_so c told its reply effect = (refl, inr (inr refl))

unshare_so : (c : Trial) (told : Told) (its : TryAnswer) (reply : ℕ) (effect : Option Reply) → AskIsSo c told (passed (latch_ask (latching.DropsShare (latch_place c))) its) reply effect
unfolding latch_ask passed
unshare_so c told its reply effect = (refl, inr (inl refl))

-- a Cas of a value's word that is won makes the effect
changed_tells : (p : Places) (t : TryState) (old reply : ℕ) → reply ≡ old → TellsEffect (value_changed p t old reply).effect
changed_tells p t old reply won = by_word (reply == old) refl
  where
    by_word : (b : Bool) → (reply == old) ≡ b → TellsEffect (if b then takes_effect p t (reply_from (value_of old) t.request.op) else ends p t (answer.Wait reason.Contended)).effect
    by_word true e = (reply_from (value_of old) t.request.op, ends_effect p (record t { effect = Some (reply_from (value_of old) t.request.op) }) (answer.Done (reply_from (value_of old) t.request.op)))
    by_word false e = absurd (eq_false reply old e won)

-- each step
pub row_so : (c : Trial) (told : Told) (t : TryState) (step : Trying) (reply : ℕ) → TryRow c told t step → AskIsSo c told (trying_ask c.places (quieted c t) step) reply (trying_next c.places c.room (quieted c t) step reply).effect
unfolding trying_ask trying_next
row_so c told t (Ended its) reply row = tt
row_so c told t TakesShared reply row = share_so c told t.latching reply (trying_next c.places c.room (quieted c t) TakesShared reply).effect row.its_latching
row_so c told t LoadsPhase reply row = tt
row_so c told t Walks reply row = walk_so c told t.walk t.walk.step reply (trying_next c.places c.room (quieted c t) Walks reply).effect row.walks.its_row
row_so c told t CountsTaken reply row = tt
row_so c told t (LoadsSafe addr version) reply row = tt
row_so c told t (SwapsValue addr) reply row =
    (reply_from None c.request.op, ends_effect c.places (record (quieted c t) { effect = Some (reply_from None c.request.op) }) (answer.Done (reply_from None c.request.op)))
row_so c told t (LoadsCurrent addr) reply row = loads_so c told t.walk addr reply (trying_next c.places c.room (quieted c t) (LoadsCurrent addr) reply).effect row.2
row_so c told t (ChangesValue addr old) reply row = record { its_old = row.2; may = Publishes (changed_tells c.places (quieted c t) old reply) }
row_so c told t LoadsAnswer reply row = loads_so c told t.walk row.addr reply (trying_next c.places c.room (quieted c t) LoadsAnswer reply).effect row.loads
row_so c told t (TakesExclusive old) reply row = alone_so c told t.latching reply (trying_next c.places c.room (quieted c t) (TakesExclusive old) reply).effect row.its_latching
row_so c told t LoadsOld reply row = loads_so c told t.walk row.addr reply (trying_next c.places c.room (quieted c t) LoadsOld reply).effect row.loads
row_so c told t (Appends its) reply row =
    append_so c told (record (quieted c t) { append = append_next c.places c.room t.append reply }) its row.place row.entry row.old row.is_current row.last t.append t.append.step reply row.appends.has_slot row.made_of row.appends.its_row
row_so c told t (LoadsTail waiting) reply row = tt
row_so c told t (LoadsTaken waiting) reply row = tt
row_so c told t (DropsExclusive its) reply row =
    subst (λ x. AskIsSo c told (passed (latch_ask x) its) reply (trying_next c.places c.room (quieted c t) (DropsExclusive its) reply).effect) (sym row.its_latching) (drop_so c told its reply (trying_next c.places c.room (quieted c t) (DropsExclusive its) reply).effect)
row_so c told t (DropsShared its) reply row =
    subst (λ x. AskIsSo c told (passed (latch_ask x) its) reply (trying_next c.places c.room (quieted c t) (DropsShared its) reply).effect) (sym row.its_latching) (unshare_so c told its reply (trying_next c.places c.room (quieted c t) (DropsShared its) reply).effect)

pub each_ask : EachAskIsSo
each_ask c spare replies reply =
    let told : Told = told_by c (trial_begun c spare) replies in
    let t : TryState = try_run c (trial_begun c spare) replies in
    let known = run_known c spare replies in
    subst (λ ask. AskIsSo c told ask reply (try_next c.places c.room t reply).effect) (sym (quieted_ask c t known.same))
    (subst (λ s. AskIsSo c told (trying_ask c.places (quieted c t) t.step) reply s.effect) (quieted_next c t reply known.same) (row_so c told t t.step reply known.row))
