-- Which asks of a try have to do with the overflow buckets: those of its search that take one and link one, and no other.
use Rattle.std.proofs.Common.{◌≡◌, ℕ, ◌+◌, ◌-◌, ◌*◌, ◌%◌, ◌<◌, ◌≤◌, ◌^◌, refl, arith, sym, ap, ◌∙◌, subst, Bool, true, false}
use Rattle.std.specs.Prelude.{◌==◌, ◌&&◌, not, nat_lt, nat_le, if◌then◌else◌, ⊤}
use Rattle.std.proofs.lemmas.Bool.Decides.{nat_tests}
use Rattle.std.proofs.lemmas.Nat.{pow_pos}
use Rattle.std.proofs.Math.Nat.{mod-lt}
use Rattle.fkv_base.specs.Limits.{max_overflow}
use Rattle.fkv_base.specs.declared.numbers.Addr.{Addr}
use Rattle.fkv_map.specs.Keys.{key_of}
use Rattle.fkv_plane.specs.declared.asks.Ask.{Ask}
use Rattle.fkv_plane.specs.declared.asks.Ask.TheVariants.{Cas}
use Rattle.fkv_plane.specs.declared.places.RecordWord.TheVariants as rec
use Rattle.fkv_plane.specs.declared.places.SharedWord.TheVariants as one
use Rattle.fkv_plane.specs.Places.{shared_place, bucket_place, overflow_place, record_place, frames_start}
use Rattle.fkv_plane.specs.Passing.{passed}
use Rattle.fkv_log.specs.declared.filling.Filling.{Filling}
use Rattle.fkv_log.specs.declared.filling.Filling.TheVariants as fill
use Rattle.fkv_log.specs.declared.invalidating.Invalidating.{Invalidating}
use Rattle.fkv_log.specs.declared.invalidating.Invalidating.TheVariants as invalidate
use Rattle.fkv_log.specs.declared.loading.Loading.{Loading}
use Rattle.fkv_log.specs.declared.loading.Loading.TheVariants as load
use Rattle.fkv_log.specs.declared.reserving.Reserving.{Reserving}
use Rattle.fkv_log.specs.declared.reserving.Reserving.TheVariants as reserve
use Rattle.fkv_log.specs.Filling.{fill_ask}
use Rattle.fkv_log.specs.Invalidating.{invalidate_ask}
use Rattle.fkv_log.specs.Loading.{load_ask}
use Rattle.fkv_log.specs.Reserving.{reserve_ask}
use Rattle.fkv_latch.specs.declared.latching.Latching.{Latching}
use Rattle.fkv_latch.specs.declared.latching.Latching.TheVariants as latching
use Rattle.fkv_latch.specs.Latching.{exclusive_bit, latch_ask}
use Rattle.fkv_index.specs.declared.finding.FindStep.{FindStep}
use Rattle.fkv_index.specs.declared.finding.FindStep.TheVariants as find
use Rattle.fkv_index.specs.declared.finding.Finding.{Finding}
use Rattle.fkv_index.specs.declared.publishing.Publishing.TheVariants.{SwapsEntry}
use Rattle.fkv_index.specs.Slots.{bucket_slots, link_of}
use Rattle.fkv_index.specs.Finding.{find_step_ask, spare_of}
use Rattle.fkv_index.specs.Publishing.{publish_ask}
use Rattle.fkv_index.specs.IndexWorld.{is_bucket_place, is_link_place}
use Rattle.fkv_ops.specs.declared.answers.TryAnswer.{TryAnswer}
use Rattle.fkv_ops.specs.declared.answers.TryAnswer.TheVariants as answer
use Rattle.fkv_ops.specs.declared.appending.AppendAnswer.TheVariants as append
use Rattle.fkv_ops.specs.declared.appending.Appending.{Appending}
use Rattle.fkv_ops.specs.declared.appending.Appending.TheVariants as appending
use Rattle.fkv_ops.specs.declared.walking.WalkAnswer.TheVariants as walk
use Rattle.fkv_ops.specs.Walking.{WalkState, walk_ask}
use Rattle.fkv_ops.specs.Appending.{AppendState, appending_ask}
use Rattle.fkv_ops.specs.TryRun.{Trial, home_at, Told}
use Rattle.fkv_ops.specs.Reasons.{latch_place, ComesTo, AtHome, ByLink, ByOwn, HasSlot, HasEntry}
use Rattle.fkv_ops.specs.Spares.{is_count, is_linking, spare_after, UsesSpare}
use Rattle.fkv_ops.proofs.Searched.{StandsAt, SearchStep}
use Rattle.fkv_ops.proofs.Walked.{LoadsRecord, loads_place}
use Rattle.fkv_ops.proofs.Appended.{AppendRow}
use Rattle.fkv_ops.proofs.TryRows.{ShareRow, AloneRow}

-- an ask that has nothing to do with them
abbrev pub IsAside : Trial → Ask TryAnswer → Type 0
IsAside c (Cas place old new) = (is_count place ≡ false) × (is_linking c.places place old new ≡ false)
IsAside c ask = ⊤

no : {X : Type 0} → false ≡ true → X
no e = cc

pub aside_after : (c : Trial) (ask : Ask TryAnswer) (reply n : ℕ) → IsAside c ask → spare_after c.places ask reply n ≡ n
aside_after c (Cas place old new) reply n aside = by_won (reply == old) (is_count place) (is_linking c.places place old new) aside.0 aside.1
  where
    by_won : (b d e : Bool) → d ≡ false → e ≡ false → (if b then (if d then new else if e then 0 else n) else n) ≡ n
    by_won true true e x y = cc
    by_won true false true x y = cc
    by_won true false false x y = refl
    by_won false d e x y = refl
aside_after c ask reply n aside = refl

pub aside_uses : (c : Trial) (n : ℕ) (ask : Ask TryAnswer) → IsAside c ask → UsesSpare c.places n ask
aside_uses c n (Cas place old new) aside = record { takes = λ e. no (sym aside.0 ∙ e); links = λ e. no (sym aside.1 ∙ e) }
aside_uses c n ask aside = tt

-- the first word of a bucket that there is
pub record IsBase (c : Trial) (base : ℕ) : Type 0 where
  pub bucket : ℕ
  pub there : bucket < c.places.buckets + c.places.overflow
  pub its_base : base ≡ bucket_place c.places bucket 0

home_there : (c : Trial) → (home_at c).bucket < c.places.buckets + c.places.overflow
home_there c = more (home_at c).bucket c.places.buckets c.places.overflow (subst (λ n. (key_of c.request.op).0 % 2 ^ c.bits < n) (sym c.its_buckets) (mod-lt (key_of c.request.op).0 (pow_pos c.bits)))
  where
    more : (a b d : ℕ) → a < b → a < b + d
    more a b d low = omega (arith, low)

overflow_there : (c : Trial) (number : ℕ) → 0 < number → number ≤ c.places.overflow → IsBase c (overflow_place c.places number 0)
overflow_there c number some few = record { bucket = c.places.buckets + (number - 1); there = omega (arith, some, few); its_base = refl }

base_there : (c : Trial) (told : Told) {links : ℕ} {own : Bool} {base : ℕ} → ComesTo c told links own base → IsBase c base
base_there c told AtHome = record { bucket = (home_at c).bucket; there = home_there c; its_base = refl }
base_there c told (ByLink word before its some few) = overflow_there c (link_of word) some few
base_there c told (ByOwn word number before its some few) = overflow_there c number some few

false_first : (a b : Bool) → a ≡ false → (a && b) ≡ false
false_first true b e = cc
false_first false b e = refl

false_start : (a b d : Bool) → a ≡ false → (a && b && d) ≡ false
false_start true b d e = cc
false_start false b d e = refl

false_middle : (a b d : Bool) → b ≡ false → (a && b && d) ≡ false
false_middle true true d e = cc
false_middle true false d e = refl
false_middle false b d e = refl

false_last : (a b d : Bool) → d ≡ true → (a && b && not d) ≡ false
false_last true true true e = refl
false_last true true false e = cc
false_last true false d e = refl
false_last false b d e = refl

-- below the buckets
low_place : (p : _) (place : ℕ) → place < 24 → is_bucket_place p place ≡ false
low_place p place low = false_first (nat_le (24 + 16 * p.sessions + 8 * 0 + 0) place) (nat_lt place (frames_start p)) (below (16 * p.sessions) place low)
  where
    below : (s place : ℕ) → place < 24 → nat_le (24 + s + 8 * 0 + 0) place ≡ false
    below s place low = grind (arith, nat_tests, low)

-- behind them
false_second : (a b : Bool) → b ≡ false → (a && b) ≡ false
false_second true true e = cc
false_second true false e = refl
false_second false b e = refl

not_below : (a b : ℕ) → b ≤ a → nat_lt a b ≡ false
not_below a b high = grind (arith, nat_tests, high)

high_place : (p : _) (place : ℕ) → frames_start p ≤ place → is_bucket_place p place ≡ false
high_place p place high = false_second (nat_le (bucket_place p 0 0) place) (nat_lt place (frames_start p)) (not_below place (frames_start p) high)

not_count : (place : ℕ) → 24 ≤ place → (place == 10) ≡ false
not_count place high = grind (arith, nat_tests, high)

not_seventh : (n : ℕ) → n < 7 → (n == 7) ≡ false
not_seventh n low = grind (arith, nat_tests, low)

-- a word of a bucket, counted from the first bucket on
word_in : (sessions bucket slot : ℕ) → slot < 8 → (24 + 16 * sessions + 8 * bucket + 0 + slot - (24 + 16 * sessions + 8 * 0 + 0)) % 8 ≡ slot
word_in sessions bucket slot low = omega (arith, low)

slot_aside : (c : Trial) (told : Told) (place word old new : ℕ) → HasSlot c told place word → IsAside c (Cas place old new)
slot_aside c told place word old new has = subst (λ x. IsAside c (Cas x old new)) (sym (has.its_place ∙ ap (λ b. b + has.slot) base.its_base)) (not_count (bucket_place c.places base.bucket 0 + has.slot) (omega arith), no_link)
  where
    base : IsBase c has.base
    base = base_there c told has.its_bucket

    few : has.slot < 8
    few = let low = has.few in omega (arith, low)

    no_link : is_linking c.places (bucket_place c.places base.bucket 0 + has.slot) old new ≡ false
    no_link = false_middle (is_bucket_place c.places (bucket_place c.places base.bucket 0 + has.slot)) (is_link_place c.places (bucket_place c.places base.bucket 0 + has.slot)) (not (link_of new == link_of old))
        (ap (λ n. n == 7) (word_in c.places.sessions base.bucket has.slot few) ∙ not_seventh has.slot has.few)

same_link : (word : ℕ) → (link_of (word + exclusive_bit) == link_of word) ≡ true
same_link word = let same : (word + 2 ^ 63) % 2 ^ 48 ≡ word % 2 ^ 48 = omega arith in grind (arith, nat_tests, same)

-- a latch's word keeps its link
latch_aside : (c : Trial) (word : ℕ) → IsAside c (Cas (latch_place c) word (word + exclusive_bit))
latch_aside c word = (not_count (latch_place c) (omega arith), false_last (is_bucket_place c.places (latch_place c)) (is_link_place c.places (latch_place c)) (link_of (word + exclusive_bit) == link_of word) (same_link word))

tail_aside : (c : Trial) (tail : ℕ) → IsAside c (Cas (shared_place one.Tail) tail (tail + 1))
tail_aside c tail = (refl, false_start (is_bucket_place c.places 3) (is_link_place c.places 3) (not (link_of (tail + 1) == link_of tail)) (low_place c.places 3 (omega arith)))

frames_high : (sessions buckets overflow more : ℕ) → 24 ≤ 24 + 16 * sessions + 8 * (buckets + overflow) + 3 * more + 2
frames_high sessions buckets overflow more = omega arith

pub value_aside : (c : Trial) (addr old new : ℕ) → IsAside c (Cas (record_place c.places addr rec.Value) old new)
value_aside c addr old new = (
  not_count (record_place c.places addr rec.Value) (frames_high c.places.sessions c.places.buckets c.places.overflow (addr % c.places.ring)),
  false_start (is_bucket_place c.places (record_place c.places addr rec.Value)) (is_link_place c.places (record_place c.places addr rec.Value)) (not (link_of new == link_of old))
      (high_place c.places (record_place c.places addr rec.Value) (at_frames (frames_start c.places) (3 * (addr % c.places.ring)))),
)
  where
    at_frames : (a b : ℕ) → a ≤ a + b + 2
    at_frames a b = omega arith

pub load_aside : (c : Trial) (loading : Loading) → IsAside c (passed (passed (load_ask c.places loading) walk.Contended) answer.Shift)
unfolding load_ask passed
load_aside c load.AtRest = tt
load_aside c (load.LoadsHeader addr) = tt
load_aside c (load.LoadsKey addr header) = tt
load_aside c (load.HasKey addr header key) = tt
load_aside c (load.LoadsValue addr header key) = tt

pub loads_aside : (c : Trial) (w : WalkState) (addr : Addr) → LoadsRecord w addr → IsAside c (passed (walk_ask c.places w) answer.Shift)
loads_aside c w addr loads = subst (IsAside c) (sym (loads_place c.places w addr loads)) tt

reserve_aside : (c : Trial) (reserving : Reserving) → IsAside c (passed (passed (reserve_ask reserving) append.Contended) answer.Shift)
unfolding reserve_ask passed
reserve_aside c reserve.AtRest = tt
reserve_aside c (reserve.LoadsLimit bound) = tt
reserve_aside c (reserve.LoadsTail limit) = tt
reserve_aside c (reserve.TakesTail tail) = tail_aside c tail

fill_aside : (c : Trial) (filling : Filling) → IsAside c (passed (passed (fill_ask c.places filling) append.Contended) answer.Shift)
unfolding fill_ask passed
fill_aside c fill.AtRest = tt
fill_aside c (fill.StoresValue addr words) = tt
fill_aside c (fill.StoresKey addr words) = tt
fill_aside c (fill.StoresHeader addr words) = tt

invalidate_aside : (c : Trial) (invalidating : Invalidating) → IsAside c (passed (passed (invalidate_ask c.places invalidating) append.Contended) answer.Shift)
unfolding invalidate_ask passed
invalidate_aside c invalidate.AtRest = tt
invalidate_aside c (invalidate.StoresHeader addr header) = tt

publish_aside : (c : Trial) (told : Told) (place entry new : ℕ) → HasEntry c told place entry → IsAside c (passed (passed (publish_ask (SwapsEntry place entry new)) append.Contended) answer.Shift)
unfolding publish_ask passed
publish_aside c told place entry new slot = slot_aside c told place entry entry new slot.its_slot

pub append_aside : (c : Trial) (told : Told) (place entry : ℕ) (words : _) (last : Appending) (a : AppendState) (step : Appending) → HasEntry c told place entry
    → AppendRow c told (record { place = place; entry = entry; tag = (home_at c).tag }) words last a step → IsAside c (passed (appending_ask c.places a step) answer.Shift)
unfolding appending_ask passed
append_aside c told place entry words last a (appending.Ended its) slot row = tt
append_aside c told place entry words last a appending.Reserves slot row = reserve_aside c a.reserving
append_aside c told place entry words last a (appending.Fills addr) slot row = fill_aside c a.filling
append_aside c told place entry words last a (appending.Publishes addr) slot row = subst (λ x. IsAside c (passed (passed (publish_ask x) append.Contended) answer.Shift)) (sym row.2) (publish_aside c told place entry _ slot)
append_aside c told place entry words last a appending.Invalidates slot row = invalidate_aside c a.invalidating

pub share_aside : (c : Trial) (told : Told) (step : Latching) → ShareRow c told step → IsAside c (passed (latch_ask step) answer.Shift)
unfolding latch_ask passed
share_aside c told (latching.AddsShare place) row = tt
share_aside c told (latching.GivesBack place) row = tt
share_aside c told step row = absurd row

pub alone_aside : (c : Trial) (told : Told) (step : Latching) → AloneRow c told step → IsAside c (passed (latch_ask step) answer.Shift)
unfolding latch_ask passed
alone_aside c told (latching.LoadsWord place) row = tt
alone_aside c told (latching.SetsExclusive place word) row = subst (λ p. IsAside c (Cas p word (word + exclusive_bit))) (sym row.0) (latch_aside c word)
alone_aside c told step row = absurd row

pub drop_aside : (c : Trial) (its : TryAnswer) → IsAside c (passed (latch_ask (latching.DropsExclusive (latch_place c))) its)
unfolding latch_ask passed
drop_aside c its = tt

pub unshare_aside : (c : Trial) (its : TryAnswer) → IsAside c (passed (latch_ask (latching.DropsShare (latch_place c))) its)
unfolding latch_ask passed
unshare_aside c its = tt

-- the eighth word of a bucket that there is
at_link : (c : Trial) (base : ℕ) → IsBase c base → (is_bucket_place c.places (base + bucket_slots) ≡ true) × (is_link_place c.places (base + bucket_slots) ≡ true) × (is_count (base + bucket_slots) ≡ false)
at_link c base is = subst (λ b. (is_bucket_place c.places (b + bucket_slots) ≡ true) × (is_link_place c.places (b + bucket_slots) ≡ true) × (is_count (b + bucket_slots) ≡ false)) (sym is.its_base) (
  both (nat_le (bucket_place c.places 0 0) (bucket_place c.places is.bucket 0 + 7)) (nat_lt (bucket_place c.places is.bucket 0 + 7) (frames_start c.places)) (behind c.places.sessions is.bucket) (before c.places.sessions is.bucket (c.places.buckets + c.places.overflow) is.there),
  ap (λ n. n == 7) (word_in c.places.sessions is.bucket 7 (omega arith)),
  not_count (bucket_place c.places is.bucket 0 + 7) (omega arith),
)
  where
    both : (a b : Bool) → a ≡ true → b ≡ true → (a && b) ≡ true
    both true true x y = refl
    both true false x y = cc
    both false b x y = cc

    is_below : (a b : ℕ) → a ≤ b → nat_le a b ≡ true
    is_below a b low = grind (arith, nat_tests, low)

    is_less : (a b : ℕ) → a < b → nat_lt a b ≡ true
    is_less a b low = grind (arith, nat_tests, low)

    behind : (sessions bucket : ℕ) → nat_le (24 + 16 * sessions + 8 * 0 + 0) (24 + 16 * sessions + 8 * bucket + 0 + 7) ≡ true
    behind sessions bucket = is_below (24 + 16 * sessions + 8 * 0 + 0) (24 + 16 * sessions + 8 * bucket + 0 + 7) (omega arith)

    before : (sessions bucket all : ℕ) → bucket < all → nat_lt (24 + 16 * sessions + 8 * bucket + 0 + 7) (24 + 16 * sessions + 8 * all) ≡ true
    before sessions bucket all low = is_less (24 + 16 * sessions + 8 * bucket + 0 + 7) (24 + 16 * sessions + 8 * all) (omega (arith, low))

-- where a number is added to a word that leads nowhere it leads there
leads_on : (word number : ℕ) → link_of word ≡ 0 → 0 < number → number < 2 ^ 48 → (link_of (word + number) == link_of word) ≡ false
leads_on word number none some few = other (link_of (word + number)) (link_of word) none (leads word number none some few)
  where
    other : (a b : ℕ) → b ≡ 0 → 0 < a → (a == b) ≡ false
    other a b e f = grind (arith, nat_tests, e, f)

    leads : (word number : ℕ) → word % 281474976710656 ≡ 0 → 0 < number → number < 281474976710656 → 0 < (word + number) % 281474976710656
    leads word number none some few = omega (arith, none, some, few)

-- a won link leaves none to spare
pub link_is : (c : Trial) (told : Told) (f : Finding) (word : ℕ) → StandsAt c told f → SearchStep c told f (find.LinksBucket word) → (is_linking c.places (f.base + bucket_slots) word (word + f.spare) ≡ true) × (is_count (f.base + bucket_slots) ≡ false)
link_is c told f word stands knows = (three (is_bucket_place c.places (f.base + bucket_slots)) (is_link_place c.places (f.base + bucket_slots)) (link_of (word + f.spare) == link_of word) at.0 at.1 (leads_on word f.spare knows.0.no_link knows.1 (small f.spare c.places.overflow stands.few c.places.few_overflow)), at.2)
  where
    at : (is_bucket_place c.places (f.base + bucket_slots) ≡ true) × (is_link_place c.places (f.base + bucket_slots) ≡ true) × (is_count (f.base + bucket_slots) ≡ false)
    at = at_link c f.base (base_there c told stands.its_bucket)

    three : (a b d : Bool) → a ≡ true → b ≡ true → d ≡ false → (a && b && not d) ≡ true
    three true true true x y z = cc
    three true true false x y z = refl
    three true false d x y z = cc
    three false b d x y z = cc

    small : (a b : ℕ) → a ≤ b → b ≤ max_overflow → a < 2 ^ 48
    small a b low few = omega (arith, low, few)

-- a spare that there is
pub spare_there : (c : Trial) (n : ℕ) → n ≤ c.places.overflow → spare_of c.places n ≡ n
spare_there c n few = by_test (nat_le n c.places.overflow) (is_below n c.places.overflow few)
  where
    is_below : (a b : ℕ) → a ≤ b → nat_le a b ≡ true
    is_below a b low = grind (arith, nat_tests, low)

    by_test : (b : Bool) → b ≡ true → (if b then n else 0) ≡ n
    by_test true e = refl
    by_test false e = cc

search_uses : (c : Trial) (told : Told) (f : Finding) (step : FindStep) (n : ℕ) → StandsAt c told f → SearchStep c told f step → f.spare ≡ n → UsesSpare c.places n (passed (passed (find_step_ask f step) walk.Contended) answer.Shift)
unfolding find_step_ask passed
search_uses c told f find.AtRest n stands knows at = absurd knows
search_uses c told f (find.LoadsSlot slot) n stands knows at = tt
search_uses c told f find.LoadsLink n stands knows at = tt
search_uses c told f (find.LoadsTaken word) n stands knows at = tt
search_uses c told f (find.TakesBucket word taken) n stands knows at = record { takes = λ e. (sym at ∙ knows.3, refl); links = λ e. no (sym (false_start (is_bucket_place c.places 10) (is_link_place c.places 10) (not (link_of (taken + 1) == link_of taken)) (low_place c.places 10 (omega arith))) ∙ e) }
search_uses c told f (find.LinksBucket word) n stands knows at = record {
  takes = λ e. no (sym (link_is c told f word stands knows).1 ∙ e);
  links = λ e. (subst (λ x. 0 < x) at knows.1, knows.0.no_link, ap (λ x. word + x) at);
}

pub walk_uses : (c : Trial) (told : Told) (f : Finding) (n : ℕ) → StandsAt c told f → SearchStep c told f f.step → spare_of c.places f.spare ≡ n → UsesSpare c.places n (passed (passed (find_step_ask f f.step) walk.Contended) answer.Shift)
walk_uses c told f n stands knows at = search_uses c told f f.step n stands knows (sym (spare_there c f.spare stands.few) ∙ at)
