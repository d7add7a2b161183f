-- Each reply leads a try on to a state of which it knows what it has to.
use Rattle.std.proofs.Common.{◌≡◌, ℕ, ◌+◌, ◌<◌, ◌≤◌, ◌⊎◌, [], ◌∷◌, refl, inl, inr, sym, ap, ◌∙◌, subst, Bool, true, false}
use Rattle.std.specs.Prelude.{◌==◌, ◌&&◌, ◌||◌, not, nat_le, if◌then◌else◌, Option, Some, None}
use Rattle.fkv_base.specs.declared.numbers.Addr.{Addr}
use Rattle.fkv_marks.specs.Marks.{mark}
use Rattle.fkv_words.specs.Fields.{bit_of}
use Rattle.fkv_map.specs.declared.operations.Reply.{Reply}
use Rattle.fkv_map.specs.Map.{absent_word}
use Rattle.fkv_map.specs.Keys.{reply_from, value_applied}
use Rattle.fkv_words.specs.PhaseWords.{phase_said}
use Rattle.fkv_plane.specs.declared.asks.Ask.{Ask}
use Rattle.fkv_plane.specs.declared.asks.Ask.TheVariants.{Load, Cas, Add, Done}
use Rattle.fkv_plane.specs.declared.places.RecordWord.TheVariants as rec
use Rattle.fkv_plane.specs.declared.places.SharedWord.TheVariants as one
use Rattle.fkv_plane.specs.Places.{shared_place, record_place}
use Rattle.fkv_plane.specs.Passing.{passed, is_done}
use Rattle.fkv_latch.specs.declared.latching.LatchAnswer.TheVariants as latch
use Rattle.fkv_latch.specs.declared.latching.Latching.{Latching}
use Rattle.fkv_latch.specs.declared.latching.Latching.TheVariants as latching
use Rattle.fkv_latch.specs.Latching.{one_share, exclusive_bit, is_exclusive, is_free, latch_ask, latch_next, latch_next_ask}
use Rattle.fkv_ops.specs.declared.answers.Reason.TheVariants as reason
use Rattle.fkv_ops.specs.declared.answers.TryAnswer.{TryAnswer}
use Rattle.fkv_ops.specs.declared.answers.TryAnswer.TheVariants as answer
use Rattle.fkv_ops.specs.declared.answers.Waiting.{Waiting}
use Rattle.fkv_ops.specs.declared.bounds.Bounds.{Bounds}
use Rattle.fkv_ops.specs.declared.requests.Occasion.{Occasion}
use Rattle.fkv_ops.specs.declared.requests.Occasion.TheVariants.{Call, Poll}
use Rattle.fkv_ops.specs.Bounds.{bounds_at, IsCall, is_past_taken, is_past_tail}
use Rattle.fkv_ops.specs.Waiting.{told_of}
use Rattle.fkv_ops.specs.declared.appending.AppendAnswer.{AppendAnswer}
use Rattle.fkv_ops.specs.declared.appending.AppendAnswer.TheVariants as append
use Rattle.fkv_ops.specs.declared.appending.Appending.{Appending}
use Rattle.fkv_ops.specs.declared.trying.OldValue.{OldValue}
use Rattle.fkv_ops.specs.declared.trying.OldValue.TheVariants.{InMemory, Known}
use Rattle.fkv_ops.specs.declared.trying.Trying.{Trying}
use Rattle.fkv_ops.specs.declared.trying.Trying.TheVariants.{Ended, TakesShared, LoadsPhase, Walks, CountsTaken, LoadsSafe, SwapsValue, LoadsCurrent, ChangesValue, LoadsAnswer, TakesExclusive, LoadsOld, Appends, LoadsTail, LoadsTaken, DropsExclusive, DropsShared}
use Rattle.fkv_ops.specs.declared.walking.WalkAnswer.TheVariants as walk
use Rattle.fkv_ops.specs.Values.{value_of, word_of}
use Rattle.fkv_ops.specs.Requests.{is_read}
use Rattle.fkv_ops.specs.Walking.{WalkState, walk_ask, walk_next}
use Rattle.fkv_ops.specs.Appending.{append_ask, append_next}
use Rattle.fkv_ops.specs.Trying.{TryState, trying_ask, is_wait, is_prepare, is_moving_on, is_marked, is_next_marked, is_still_in, ends, ends_so, tail_loaded, taken_loaded, count_loaded, copies, takes_effect, walks, latch_shared, shared_ledto, phase_loaded, current_ledto, value_changed, told_value, answer_ledto, exclusive_ledto, old_ledto, append_ledto, exclusive_dropped, shared_dropped, trying_next, words_of}
use Rattle.fkv_ops.specs.TryRun.{Trial, home_at, Told, reply_told}
use Rattle.fkv_ops.specs.Reasons.{latch_place, Loaded, HasEntry, HasFound, Held, Quicker, HasMetLatch, needs_exclusive, tells_own, HasNoneOfVersion, FoundMarked, FoundAnother, FoundNone, FoundBelow, OthersWentOn, ByLatch, ByWord, HasValue, ValueLost, HasNoRoom, HasNoEntry, IsPastTail, IsTrue}
use Rattle.fkv_ops.specs.Effects.{MayChange, IsMadeOf, OfRecord, OfNone, OfNoneBelow, OfAny, OfHeld, OfNoneBehind, IsLoaded, shares_latch, HasShared, OnWord}
use Rattle.fkv_ops.proofs.BoolTests.{lt_true, lt_false, le_true, le_false, eq_true, eq_false, both}
use Rattle.fkv_ops.proofs.Walked.{walk_true, walk_begun_true, walk_begun_asks, loads_place, loads_value, loads_same}
use Rattle.fkv_ops.proofs.Appended.{AppendKnows, append_true, append_answers}
use Rattle.fkv_ops.proofs.TryRows.{norm, shares, Owed, latch_held, owed_at, Under, Updates, ShareRow, AloneRow, OldRow, Alone, PhaseKnows, TryRow, told_at, Comes, CountKnows, TailKnows, TakenKnows, told_none, ended_without_true, ends_so_true, ends_true, takes_effect_true}
use Rattle.fkv_ops.proofs.Copied.{appends_true, copies_from_true, copies_true}
use Rattle.fkv_ops.proofs.Tried.{quiet_end, never_kept, full_true, walk_led_true, safe_true}

-- the steps whose ask can make an effect
abbrev pub makes_effect : Trying → Bool
makes_effect (SwapsValue addr) = true
makes_effect (ChangesValue addr old) = true
makes_effect (Appends its) = true
makes_effect step = false

-- a step leads on, without an effect or with one
pub data Steps (c : Trial) (told : Told) (step : Trying) (owed : Owed) (t : TryState) : Type 0 where
  Quietly : Comes c told None (told_at step) owed t → Steps c told step owed t
  Effectively : (its : Reply) → makes_effect step ≡ true → told_at step ≡ [] → Comes c told (Some its) (its ∷ []) owed t → Steps c told step owed t

-- what a reply leaves of the latch: a share that was tried is owed either way, and the bit where the Cas was won
abbrev pub shared_by : Latching → ℕ
shared_by (latching.AddsShare place) = 1
shared_by step = 0

abbrev pub taken_by : Latching → ℕ → ℕ
taken_by (latching.SetsExclusive place word) reply = bit_of (reply == word)
taken_by step reply = 0

abbrev pub owed_then : TryState → Trying → ℕ → Owed
owed_then t TakesShared reply = record { shares = shared_by t.latching; bits = bit_of t.has_exclusive }
owed_then t (TakesExclusive old) reply = record { shares = bit_of t.has_shared; bits = taken_by t.latching reply }
owed_then t step reply = latch_held t

owing : (c : Trial) (told : Told) (owed owed' : Owed) (t : TryState) → owed ≡ owed' → Comes c told None [] owed t → Comes c told None [] owed' t
owing c told owed owed' t e comes = subst (λ o. Comes c told None [] o t) e comes

-- the walk begins
pub walks_true : (c : Trial) (told : Told) (t : TryState) → t.effect ≡ None → t.has_exclusive ≡ false → Under c told t.has_shared → Comes c told None [] (latch_held t) (walks c.places (norm c t))
walks_true c told t quiet not_alone under = record {
  same = refl;
  owes = refl;
  its_effect = quiet;
  its_told = refl;
  row = record { not_alone = not_alone; under = under; walks = walk_begun_true c told t.spare; asks = walk_begun_asks c t.spare };
}

or_right : (a b : Bool) → b ≡ true → true ≡ (a || b)
or_right true b e = refl
or_right false b e = sym e

negated : (b : Bool) → not b ≡ true → b ≡ false
negated true e = cc
negated false e = refl

shift_true : (c : Trial) (told : Told) (t : TryState) → t.effect ≡ None → shares_latch c ≡ true → OthersWentOn c told → Comes c told None [] (latch_held t) (ends c.places (norm c t) answer.Shift)
shift_true c told t quiet wants others =
    let split = both (is_prepare c.seen.phase) (not (is_read c.request.op)) wants in
    subst (λ e. Comes c told e [] (latch_held t) (ends c.places (norm c t) answer.Shift)) quiet
    (ends_true c told t answer.Shift (record { in_prepare = split.0; update = negated (is_read c.request.op) split.1; others = others }) (λ waits. cc) (λ b waits. cc))

no : false ≡ true → ⊥
no e = cc

-- the latch is shared: the walk begins, or the phase word is loaded before
latch_shared_true : (c : Trial) (told : Told) (t : TryState) → t.effect ≡ None → t.has_exclusive ≡ false → t.has_shared ≡ true → shares_latch c ≡ true → HasShared c told → Comes c told None [] (latch_held t) (latch_shared c.places (norm c t))
latch_shared_true c told t quiet not_alone shared wants added = by_mark (is_next_marked c.request.version) refl
  where
    by_mark : (b : Bool) → is_next_marked c.request.version ≡ b → Comes c told None [] (latch_held t) (if b then record (norm c t) { step = LoadsPhase } else walks c.places (norm c t))
    by_mark true e = record { same = refl; owes = refl; its_effect = quiet; its_told = refl; row = record { not_alone = not_alone; shared = shared; wants = wants; added = added; marked = e } }
    by_mark false e = walks_true c told t quiet not_alone (record { shared = shared ∙ or_right c.request.has_latch (shares_latch c) wants; has_added = λ w n. added; in_phase = λ marked w. absurd (no (sym e ∙ marked)) })

phase_true : (c : Trial) (told : Told) (t : TryState) (reply : ℕ) → t.effect ≡ None → PhaseKnows c told t → Loaded told (shared_place one.Phase) reply → Comes c told None [] (latch_held t) (phase_loaded c.places (norm c t) (phase_said reply))
unfolding phase_loaded
phase_true c told t reply quiet knows was = by_word (is_still_in (phase_said reply) c.request.version) refl
  where
    by_word : (b : Bool) → is_still_in (phase_said reply) c.request.version ≡ b → Comes c told None [] (latch_held t) (if b then walks c.places (norm c t) else ends c.places (norm c t) answer.Shift)
    by_word true e = walks_true c told t quiet knows.not_alone
        (record { shared = knows.shared ∙ or_right c.request.has_latch (shares_latch c) knows.wants; has_added = λ w n. knows.added; in_phase = λ marked w. OnWord reply marked was e })
    by_word false e = shift_true c told t quiet knows.wants (ByWord reply knows.marked was e)

shared_true : (c : Trial) (told : Told) (t : TryState) (step : Latching) (reply : ℕ) → t.latching ≡ latch_next step reply → t.effect ≡ None → t.has_exclusive ≡ false → t.has_shared ≡ false → t.step ≡ TakesShared → shares_latch c ≡ true
    → c.request.has_latch ≡ false → ShareRow c told step → told (passed (latch_ask step) answer.Shift) reply
    → Comes c told None [] (record { shares = shared_by step; bits = bit_of t.has_exclusive }) (shared_ledto c.places (norm c t) (latch_next_ask step reply))
unfolding shared_ledto latch_ask latch_next latch_next_ask passed
shared_true c told t (latching.AddsShare place) reply next quiet not_alone not_shared at wants has_none row was = by_word (is_exclusive reply) refl
  where
    its_add : told (Add (latch_place c) one_share) reply
    its_add = subst (λ p. told (Add p one_share) reply) row was

    owed : t.latching ≡ latching.GivesBack place → owed_at t TakesShared ≡ record { shares = 1; bits = bit_of t.has_exclusive }
    owed its = rw (its, not_shared) refl

    stays : t.latching ≡ latching.GivesBack place → exclusive_bit ≤ reply → Comes c told None [] (record { shares = 1; bits = bit_of t.has_exclusive }) (norm c t)
    stays its high = record {
      same = refl;
      owes = ap (owed_at t) at ∙ owed its;
      its_effect = quiet;
      its_told = ap told_at at;
      row = subst (TryRow c told (norm c t)) (sym at) (record { not_alone = not_alone; not_shared = not_shared; wants = wants; has_none = has_none; its_latching = subst (ShareRow c told) (sym its) (row, ByLatch reply its_add high) });
    }

    by_word : (b : Bool) → is_exclusive reply ≡ b
        → Comes c told None [] (record { shares = 1; bits = bit_of t.has_exclusive }) (shared_ledto c.places (norm c t) (if b then latch_ask (latching.GivesBack place) else Done latch.Taken))
    by_word true e = stays (next ∙ rw e refl) (le_true exclusive_bit reply e)
    by_word false e = latch_shared_true c told (record t { has_shared = true }) quiet not_alone refl wants (record { word = reply; its_add = its_add; not_alone = le_false exclusive_bit reply e })
shared_true c told t (latching.GivesBack place) reply next quiet not_alone not_shared at wants has_none row was =
    owing c told (latch_held t) (record { shares = 0; bits = bit_of t.has_exclusive }) (ends c.places (norm c t) answer.Shift) (ap (λ b. record { shares = bit_of b; bits = bit_of t.has_exclusive }) not_shared) (shift_true c told t quiet wants row.1)
shared_true c told t step reply next quiet not_alone not_shared at wants has_none row was = absurd row

-- a mark that doesn't tell it is another one, or one that older versions have too
not_told : (c : Trial) (told : Told) {place entry addr : ℕ} (version : ℕ) → HasFound c told place entry addr version → tells_own c version ≡ false → HasNoneOfVersion c told
not_told c told version found = by_mark (is_marked c.request.version) refl
  where
    by_mark : (b : Bool) → is_marked c.request.version ≡ b → (not b && version == mark c.request.version.0) ≡ false → HasNoneOfVersion c told
    by_mark true e own = FoundMarked found e
    by_mark false e own = FoundAnother found (eq_false version (mark c.request.version.0) own)

-- what is made of no record of the request's version
made_of_none : (c : Trial) (told : Told) (place entry : ℕ) (old : Option ℕ) (is_current : Bool) → IsMadeOf c told place entry old is_current → is_current ≡ false → HasNoneOfVersion c told
made_of_none c told place entry old is_current (OfRecord {version = version} found may its_old) e = not_told c told version found e
made_of_none c told place entry old is_current (OfNone walks) e = FoundNone walks
made_of_none c told place entry old is_current (OfNoneBelow ends) e = FoundBelow ends.0
made_of_none c told place entry old is_current (OfAny leaves blind) e = FoundBelow leaves
made_of_none c told place entry old is_current (OfHeld holds same its_key) e = FoundBelow holds.leaves
made_of_none c told place entry old is_current (OfNoneBehind holds same other none) e = FoundBelow holds.leaves

none_of_version : (c : Trial) (told : Told) (w : WalkState) (old : OldValue) (is_current : Bool) → OldRow c told w old is_current → is_current ≡ false → HasNoneOfVersion c told
none_of_version c told w InMemory is_current row e = not_told c told row.version.0 row.found.its.its_record (row.current ∙ e)
none_of_version c told w (Known word) is_current row e = made_of_none c told w.place w.entry (value_of word) is_current row e

waits_for_latch : (c : Trial) (told : Told) (t : TryState) (old : OldValue) (is_current : Bool) → Updates c told t → OldRow c told t.walk old is_current → needs_exclusive c is_current ≡ true → HasMetLatch c told → IsTrue c told (answer.Wait reason.Latch)
waits_for_latch c told t old is_current updates its_old need met =
    let split = both (is_moving_on c.seen.phase && c.request.version.0 == c.seen.version.0) (not is_current) need in
    let other : is_current ≡ false = negated is_current split.1 in
    record { update = updates.update; needed = subst (λ b. needs_exclusive c b ≡ true) other need; none = none_of_version c told t.walk old is_current its_old other; met = met }

alone_true : (c : Trial) (told : Told) (t : TryState) (old : OldValue) (step : Latching) (reply : ℕ) (is_current : Bool) → t.latching ≡ latch_next step reply → t.effect ≡ None → t.has_exclusive ≡ false → t.step ≡ TakesExclusive old
    → Updates c told t → HasEntry c told t.walk.place t.walk.entry → OldRow c told t.walk old is_current → needs_exclusive c is_current ≡ true → AloneRow c told step → told (passed (latch_ask step) answer.Shift) reply
    → Comes c told None [] (record { shares = bit_of t.has_shared; bits = taken_by step reply }) (exclusive_ledto c.places (norm c t) old (latch_next_ask step reply))
unfolding exclusive_ledto latch_ask latch_next latch_next_ask passed
alone_true c told t old (latching.LoadsWord place) reply is_current next quiet not_alone at updates slot its_old need row was = by_word (is_free reply) refl
  where
    none : latch_held t ≡ record { shares = bit_of t.has_shared; bits = 0 }
    none = ap (λ b. record { shares = bit_of t.has_shared; bits = bit_of b }) not_alone

    stays : t.latching ≡ latching.SetsExclusive place reply → reply < one_share → Comes c told None [] (record { shares = bit_of t.has_shared; bits = 0 }) (norm c t)
    stays its free = record {
      same = refl;
      owes = ap (owed_at t) at ∙ none;
      its_effect = quiet;
      its_told = ap told_at at;
      row = subst (TryRow c told (norm c t)) (sym at)
          (record { not_alone = not_alone; updates = record { under = updates.under; update = updates.update; stays = updates.stays; lacks = updates.lacks }; slot = slot; is_current = is_current; its_old = its_old; need = need; its_latching = subst (AloneRow c told) (sym its) (row, free, subst (λ p. told (Load p) reply) row was) });
    }

    by_word : (b : Bool) → is_free reply ≡ b
        → Comes c told None [] (record { shares = bit_of t.has_shared; bits = 0 }) (exclusive_ledto c.places (norm c t) old (if b then latch_ask (latching.SetsExclusive place reply) else Done latch.Busy))
    by_word true e = stays (next ∙ rw e refl) (lt_true reply one_share e)
    by_word false e = owing c told (latch_held t) (record { shares = bit_of t.has_shared; bits = 0 }) (ends c.places (norm c t) (answer.Wait reason.Latch)) none
        (quiet_end c told t (answer.Wait reason.Latch) quiet updates.under refl (waits_for_latch c told t old is_current updates its_old need (Held reply (subst (λ p. told (Load p) reply) row was) (lt_false reply one_share e))) (λ b waits. updates.lacks))
alone_true c told t old (latching.SetsExclusive place word) reply is_current next quiet not_alone at updates slot its_old need row was = by_word (reply == word) refl
  where
    none : latch_held t ≡ record { shares = bit_of t.has_shared; bits = 0 }
    none = ap (λ b. record { shares = bit_of t.has_shared; bits = bit_of b }) not_alone

    its_cas : told (Cas (latch_place c) word (word + exclusive_bit)) reply
    its_cas = subst (λ p. told (Cas p word (word + exclusive_bit)) reply) row.0 was

    by_word : (b : Bool) → (reply == word) ≡ b
        → Comes c told None [] (record { shares = bit_of t.has_shared; bits = bit_of b }) (exclusive_ledto c.places (norm c t) old (Done (if b then latch.Taken else latch.Busy)))
    by_word true e = copies_from_true c told (record t { has_exclusive = true }) old is_current quiet (record { under = updates.under; update = updates.update; stays = updates.stays; lacks = updates.lacks }) slot its_old
        (λ need. record { word = word; free = row.1; its_cas = subst (told (Cas (latch_place c) word (word + exclusive_bit))) (eq_true reply word e) its_cas })
    by_word false e = owing c told (latch_held t) (record { shares = bit_of t.has_shared; bits = 0 }) (ends c.places (norm c t) (answer.Wait reason.Latch)) none
        (quiet_end c told t (answer.Wait reason.Latch) quiet updates.under refl (waits_for_latch c told t old is_current updates its_old need (Quicker word row.1 row.2 (record { found = reply; its_cas = its_cas; another = eq_false reply word e }))) (λ b waits. updates.lacks))
alone_true c told t old step reply is_current next quiet not_alone at updates slot its_old need row was = absurd row

dropped_true : (c : Trial) (told : Told) (t : TryState) (its : TryAnswer) (place reply : ℕ) → IsTrue c told its → t.has_exclusive ≡ false → (is_wait its ≡ true → t.has_shared ≡ shares c)
    → Comes c told t.effect (reply_told its) (latch_held t) (exclusive_dropped c.places (norm c t) its (latch_next_ask (latching.DropsExclusive place) reply))
unfolding exclusive_dropped latch_next_ask
dropped_true c told t its place reply truth not_alone kept = ended_without_true c told t its truth not_alone kept

unshared_true : (c : Trial) (told : Told) (t : TryState) (its : TryAnswer) (place reply : ℕ) → IsTrue c told its → t.has_exclusive ≡ false → t.has_shared ≡ (is_wait its && shares c)
    → Comes c told t.effect (reply_told its) (latch_held t) (shared_dropped (norm c t) its (latch_next_ask (latching.DropsShare place) reply))
unfolding shared_dropped latch_next_ask
unshared_true c told t its place reply truth not_alone kept = record { same = refl; owes = refl; its_effect = refl; its_told = refl; row = record { truth = truth; not_alone = not_alone; shared = kept } }

current_true : (c : Trial) (told : Told) (t : TryState) (addr : Addr) (value : ℕ) → t.effect ≡ None → Updates c told t → MayChange c told addr.0 → Loaded told (record_place c.places addr.0 rec.Value) value → Comes c told None [] (latch_held t) (current_ledto c.places (norm c t) addr (Done (walk.Value value)))
unfolding current_ledto
current_true c told t addr value quiet updates may loaded = record { same = refl; owes = refl; its_effect = quiet; its_told = refl; row = (record { under = updates.under; update = updates.update; stays = updates.stays; lacks = updates.lacks }, may, loaded) }

answer_true : (c : Trial) (told : Told) (t : TryState) (value : ℕ) → t.effect ≡ None → Under c told t.has_shared → is_read c.request.op ≡ true → HasValue c told value → Comes c told None [] (latch_held t) (answer_ledto c.places (norm c t) (Done (walk.Value value)))
unfolding answer_ledto
answer_true c told t value quiet under reads has = by_word (value == absent_word) refl
  where
    by_word : (b : Bool) → (value == absent_word) ≡ b → Comes c told None [] (latch_held t) (ends c.places (norm c t) (told_value (if b then None else Some value)))
    by_word true e = quiet_end c told t answer.Absent quiet under refl (record { reads = reads; none = inl (subst (HasValue c told) (eq_true value absent_word e) has) }) (λ b waits. cc)
    by_word false e = quiet_end c told t (answer.Found (record { 0 = value })) quiet under refl (record { reads = reads; its_value = has; present = eq_false value absent_word e }) (λ b waits. cc)

old_true : (c : Trial) (told : Told) (t : TryState) (value : ℕ) (is_current : Bool) → t.effect ≡ None → Updates c told t → HasEntry c told t.walk.place t.walk.entry → IsMadeOf c told t.walk.place t.walk.entry (value_of value) is_current → Alone c told is_current
    → Comes c told None [] (latch_held t) (old_ledto c.places (norm c t) (Done (walk.Value value)))
unfolding old_ledto
old_true c told t value is_current quiet updates slot made_of alone = appends_true c told t value is_current quiet updates slot made_of alone

changed_true : (c : Trial) (told : Told) (t : TryState) (addr : Addr) (old reply : ℕ) → t.effect ≡ None → Updates c told t → MayChange c told addr.0 → Loaded told (record_place c.places addr.0 rec.Value) old
    → told (Cas (record_place c.places addr.0 rec.Value) old (word_of (value_applied (value_of old) c.request.op))) reply → Steps c told (ChangesValue addr old) (latch_held t) (value_changed c.places (norm c t) old reply)
changed_true c told t addr old reply quiet updates may loaded was = by_word (reply == old) refl
  where
    by_word : (b : Bool) → (reply == old) ≡ b
        → Steps c told (ChangesValue addr old) (latch_held t) (if b then takes_effect c.places (norm c t) (reply_from (value_of old) c.request.op) else ends c.places (norm c t) (answer.Wait reason.Contended))
    by_word true e = Effectively (reply_from (value_of old) c.request.op) refl refl (takes_effect_true c told t (reply_from (value_of old) c.request.op) updates)
    by_word false e = Quietly (quiet_end c told t (answer.Wait reason.Contended) quiet updates.under refl
        (ValueLost old may.found loaded (record { found = reply; its_cas = was; another = eq_false reply old e })) (λ b waits. updates.lacks))

append_led_true : (c : Trial) (told : Told) (t : TryState) (its : Reply) (place entry : ℕ) (old : Option ℕ) (is_current : Bool) (last : Appending) (ask : Ask AppendAnswer) → t.effect ≡ None → t.step ≡ Appends its → Updates c told t
    → its ≡ reply_from old c.request.op → IsMadeOf c told place entry old is_current → Alone c told is_current
    → AppendKnows c told (record { place = place; entry = entry; tag = (home_at c).tag }) (words_of c.request entry old) last t.append → append_ask c.places t.append ≡ ask
    → Steps c told (Appends its) (latch_held t) (append_ledto c.places (norm c t) its ask)
unfolding append_ledto
append_led_true c told t its place entry old is_current last (Done append.Published) quiet at updates told_so made_of alone knows e = Effectively its refl refl (takes_effect_true c told t its updates)
append_led_true c told t its place entry old is_current last (Done append.Full) quiet at updates told_so made_of alone knows e =
    let full = append_answers c told (record { place = place; entry = entry; tag = (home_at c).tag }) (words_of c.request entry old) last t.append append.Full knows e in
    Quietly (full_true c told t answer.LogFull (λ at. inr (at_poll at full)) quiet updates.under refl refl (λ call. (call, full)))
  where
    at_poll : c.occasion ≡ Poll → HasNoRoom told c.room ⊎ IsPastTail c told → HasNoRoom told c.room
    at_poll at (inl none) = none
    at_poll at (inr past) = absurd (never_kept c.occasion past.bounds at past.has)
append_led_true c told t its place entry old is_current last (Done append.NoRoom) quiet at updates told_so made_of alone knows e =
    Quietly (quiet_end c told t (answer.Wait reason.NoRoom) quiet updates.under refl (append_answers c told (record { place = place; entry = entry; tag = (home_at c).tag }) (words_of c.request entry old) last t.append append.NoRoom knows e) (λ b waits. updates.lacks))
append_led_true c told t its place entry old is_current last (Done append.Contended) quiet at updates told_so made_of alone knows e =
    Quietly (quiet_end c told t (answer.Wait reason.Contended) quiet updates.under refl (append_answers c told (record { place = place; entry = entry; tag = (home_at c).tag }) (words_of c.request entry old) last t.append append.Contended knows e) (λ b waits. updates.lacks))
append_led_true c told t its place entry old is_current last ask quiet at updates told_so made_of alone knows e = Quietly (record {
  same = refl;
  owes = ap (owed_at t) at;
  its_effect = quiet;
  its_told = ap told_at at;
  row = subst (TryRow c told (norm c t)) (sym at) (record {
    updates = record { under = updates.under; update = updates.update; stays = updates.stays; lacks = updates.lacks };
    place = place;
    entry = entry;
    old = old;
    is_current = is_current;
    its_reply = told_so;
    made_of = made_of;
    alone = alone;
    last = last;
    appends = knows;
    asks = ap is_done e;
  });
})

is_call : (o : Occasion) (bounds : Bounds) → bounds_at o ≡ Some bounds → IsCall o
is_call (Call its) bounds e = tt
is_call Poll bounds e = cc

-- the try ends as it is to, or is refused
ends_quietly : (c : Trial) (told : Told) (t : TryState) (its : TryAnswer) → t.effect ≡ None → reply_told its ≡ [] → IsTrue c told its → (is_wait its ≡ true → t.has_shared ≡ shares c) → Comes c told None [] (latch_held t) (ends_so c.places (norm c t) its)
ends_quietly c told t its quiet none truth kept =
    subst (λ e. Comes c told e [] (latch_held t) (ends_so c.places (norm c t) its)) quiet (subst (λ l. Comes c told t.effect l (latch_held t) (ends_so c.places (norm c t) its)) none (ends_so_true c told t its truth kept))

tail_true : (c : Trial) (told : Told) (t : TryState) (waiting : Waiting) (tail : ℕ) → t.effect ≡ None → TailKnows c told t waiting → Loaded told (shared_place one.Tail) tail → Comes c told None [] (latch_held t) (tail_loaded c.places (norm c t) waiting tail)
unfolding tail_loaded
tail_true c told t waiting tail quiet knows was = by_bounds (bounds_at c.occasion) refl
  where
    waits : Comes c told None [] (latch_held t) (ends_so c.places (norm c t) (told_of waiting))
    waits = ends_quietly c told t (told_of waiting) quiet (told_none waiting) knows.truth (λ waits. knows.shared)

    by_entry : (b : Bool) → (t.walk.entry == 0) ≡ b → Comes c told None [] (latch_held t) (if b then record (norm c t) { step = LoadsTaken waiting } else ends_so c.places (norm c t) (told_of waiting))
    by_entry true e = record { same = refl; owes = refl; its_effect = quiet; its_told = refl; row = record { truth = knows.truth; shared = knows.shared; update = knows.update; none = knows.lacks (eq_true t.walk.entry 0 e) } }
    by_entry false e = waits

    by_tail : (bounds : Bounds) → bounds_at c.occasion ≡ Some bounds → (b : Bool) → nat_le bounds.tail tail ≡ b
        → Comes c told None [] (latch_held t) (if b then ends_so c.places (norm c t) answer.LogFull else if t.walk.entry == 0 then record (norm c t) { step = LoadsTaken waiting } else ends_so c.places (norm c t) (told_of waiting))
    by_tail bounds has true e = ends_quietly c told t answer.LogFull quiet refl
        (is_call c.occasion bounds has, inr (record { update = knows.update; bounds = bounds; has = has; tail = tail; its_tail = was; past = le_true bounds.tail tail e })) (λ waits. cc)
    by_tail bounds has false e = by_entry (t.walk.entry == 0) refl

    by_bounds : (its : Option Bounds) → bounds_at c.occasion ≡ its
        → Comes c told None [] (latch_held t) (if is_past_tail its tail then ends_so c.places (norm c t) answer.LogFull else if t.walk.entry == 0 then record (norm c t) { step = LoadsTaken waiting } else ends_so c.places (norm c t) (told_of waiting))
    by_bounds None has = by_entry (t.walk.entry == 0) refl
    by_bounds (Some bounds) has = by_tail bounds has (nat_le bounds.tail tail) refl

past_taken : (c : Trial) (told : Told) (taken : ℕ) → is_read c.request.op ≡ false → HasNoEntry c told → Loaded told (shared_place one.Taken) taken → is_past_taken (bounds_at c.occasion) taken ≡ true → IsTrue c told answer.IndexFull
past_taken c told taken update none was past = by_bounds (bounds_at c.occasion) refl past
  where
    by_bounds : (its : Option Bounds) → bounds_at c.occasion ≡ its → is_past_taken its taken ≡ true → IsTrue c told answer.IndexFull
    by_bounds None has e = cc
    by_bounds (Some bounds) has e =
        (is_call c.occasion bounds has, inr (record { none = none; past = record { update = update; bounds = bounds; has = has; taken = taken; its_count = was; past = le_true bounds.taken taken e } }))

taken_true : (c : Trial) (told : Told) (t : TryState) (waiting : Waiting) (taken : ℕ) → t.effect ≡ None → TakenKnows c told t waiting → Loaded told (shared_place one.Taken) taken → Comes c told None [] (latch_held t) (taken_loaded c.places (norm c t) waiting taken)
unfolding taken_loaded
taken_true c told t waiting taken quiet knows was = by_count (is_past_taken (bounds_at c.occasion) taken) refl
  where
    by_count : (b : Bool) → is_past_taken (bounds_at c.occasion) taken ≡ b → Comes c told None [] (latch_held t) (if b then ends_so c.places (norm c t) answer.IndexFull else ends_so c.places (norm c t) (told_of waiting))
    by_count true e = ends_quietly c told t answer.IndexFull quiet refl (past_taken c told taken knows.update knows.none was e) (λ waits. cc)
    by_count false e = ends_quietly c told t (told_of waiting) quiet (told_none waiting) knows.truth (λ waits. knows.shared)

count_true : (c : Trial) (told : Told) (t : TryState) (taken : ℕ) → t.effect ≡ None → CountKnows c told t → Loaded told (shared_place one.Taken) taken → Comes c told None [] (latch_held t) (count_loaded c.places (norm c t) taken)
unfolding count_loaded
count_true c told t taken quiet knows was = by_count (is_past_taken (bounds_at c.occasion) taken) refl
  where
    by_count : (b : Bool) → is_past_taken (bounds_at c.occasion) taken ≡ b → Comes c told None [] (latch_held t) (if b then ends c.places (norm c t) answer.IndexFull else copies c.places (norm c t) (Known absent_word) false)
    by_count true e = quiet_end c told t answer.IndexFull quiet knows.updates.under refl (past_taken c told taken knows.updates.update (knows.updates.lacks knows.empty) was e) (λ b waits. cc)
    by_count false e = copies_true c told t (Known absent_word) false quiet knows.not_alone knows.updates knows.walks.slot (OfNone knows.walks)

-- the state as a reply meets it: what the last reply made is told no more
abbrev pub quieted : Trial → TryState → TryState
quieted c t = norm c (record t { effect = None })

asked_latch : (told : Told) (step step' : Latching) (reply : ℕ) → step ≡ step' → told (passed (latch_ask step) answer.Shift) reply → told (passed (latch_ask step') answer.Shift) reply
asked_latch told step step' reply e was = subst (λ x. told (passed (latch_ask x) answer.Shift) reply) e was

pub row_true : (c : Trial) (told : Told) (t : TryState) (step : Trying) (reply : ℕ) → t.step ≡ step → TryRow c told t step → told (trying_ask c.places (quieted c t) step) reply → Steps c told step (owed_then t step reply) (trying_next c.places c.room (quieted c t) step reply)
unfolding trying_ask trying_next
row_true c told t (Ended its) reply at row was = Quietly (record { same = refl; owes = ap (owed_at t) at; its_effect = refl; its_told = ap told_at at; row = subst (TryRow c told (quieted c t)) (sym at) (record { truth = row.truth; not_alone = row.not_alone; shared = row.shared }) })
row_true c told t TakesShared reply at row was =
    Quietly (shared_true c told (record t { effect = None; latching = latch_next t.latching reply }) t.latching reply refl refl row.not_alone row.not_shared at row.wants row.has_none row.its_latching was)
row_true c told t LoadsPhase reply at row was =
    Quietly (phase_true c told (record t { effect = None }) reply refl (record { not_alone = row.not_alone; shared = row.shared; wants = row.wants; added = row.added; marked = row.marked }) was)
row_true c told t Walks reply at row was =
    Quietly (walk_led_true c told (record t { effect = None; walk = walk_next c.places t.walk reply }) (walk_ask c.places (walk_next c.places t.walk reply)) refl row.not_alone at row.under (walk_true c told t.walk reply row.walks was) refl)
row_true c told t CountsTaken reply at row was =
    Quietly (count_true c told (record t { effect = None }) reply refl
    (record { not_alone = row.not_alone; updates = record { under = row.updates.under; update = row.updates.update; stays = row.updates.stays; lacks = row.updates.lacks }; walks = row.walks; empty = row.empty }) was)
row_true c told t (LoadsSafe addr version) reply at row was =
    Quietly (safe_true c told (record t { effect = None }) addr version reply refl row.not_alone (record { under = row.updates.under; update = row.updates.update; stays = row.updates.stays; lacks = row.updates.lacks }) row.found row.below was)
row_true c told t (SwapsValue addr) reply at row was =
    Effectively (reply_from None c.request.op) refl refl (takes_effect_true c told (record t { effect = None }) (reply_from None c.request.op) (record { under = row.0.under; update = row.0.update; stays = row.0.stays; lacks = row.0.lacks }))
row_true c told t (LoadsCurrent addr) reply at row was =
    Quietly (subst (λ ask. Comes c told None [] (latch_held t) (current_ledto c.places (norm c (record t { effect = None; walk = walk_next c.places t.walk reply })) addr ask)) (sym (loads_value c.places t.walk addr reply row.2))
    (current_true c told (record t { effect = None; walk = walk_next c.places t.walk reply }) addr reply refl (record { under = row.0.under; update = row.0.update; stays = row.0.stays; lacks = λ none. row.0.lacks (sym (loads_same c.places t.walk addr reply row.2).1 ∙ none) }) row.1 (subst (λ a. told a reply) (loads_place c.places t.walk addr row.2) was)))
row_true c told t (ChangesValue addr old) reply at row was = changed_true c told (record t { effect = None }) addr old reply refl (record { under = row.0.under; update = row.0.update; stays = row.0.stays; lacks = row.0.lacks }) row.1 row.2 was
row_true c told t LoadsAnswer reply at row was =
    Quietly (subst (λ ask. Comes c told None [] (latch_held t) (answer_ledto c.places (norm c (record t { effect = None; walk = walk_next c.places t.walk reply })) ask)) (sym (loads_value c.places t.walk row.addr reply row.loads))
    (answer_true c told (record t { effect = None; walk = walk_next c.places t.walk reply }) reply refl row.under row.reads
    (record { place = t.walk.place; entry = t.walk.entry; addr = row.addr.0; version = row.version; found = row.found; its_value = subst (λ a. told a reply) (loads_place c.places t.walk row.addr row.loads) was })))
row_true c told t (TakesExclusive old) reply at row was =
    Quietly (alone_true c told (record t { effect = None; latching = latch_next t.latching reply }) old t.latching reply row.is_current refl refl row.not_alone at (record { under = row.updates.under; update = row.updates.update; stays = row.updates.stays; lacks = row.updates.lacks }) row.slot row.its_old row.need row.its_latching was)
row_true c told t LoadsOld reply at row was =
    Quietly (subst (λ ask. Comes c told None [] (latch_held t) (old_ledto c.places (norm c (record t { effect = None; walk = walk_next c.places t.walk reply })) ask)) (sym (loads_value c.places t.walk row.addr reply row.loads))
    (old_true c told (record t { effect = None; walk = walk_next c.places t.walk reply }) reply (tells_own c row.version) refl (record { under = row.updates.under; update = row.updates.update; stays = row.updates.stays; lacks = λ none. row.updates.lacks (sym same.1 ∙ none) })
    (subst (λ p. HasEntry c told p (walk_next c.places t.walk reply).entry) (sym same.0) (subst (λ e. HasEntry c told t.walk.place e) (sym same.1) row.found.walk.slot))
    (subst (λ p. IsMadeOf c told p (walk_next c.places t.walk reply).entry (value_of reply) (tells_own c row.version)) (sym same.0)
    (subst (λ e. IsMadeOf c told t.walk.place e (value_of reply) (tells_own c row.version)) (sym same.1) made)) row.alone))
  where
    same : ((walk_next c.places t.walk reply).place ≡ t.walk.place) × ((walk_next c.places t.walk reply).entry ≡ t.walk.entry)
    same = loads_same c.places t.walk row.addr reply row.loads

    made : IsMadeOf c told t.walk.place t.walk.entry (value_of reply) (tells_own c row.version)
    made = OfRecord row.found row.may (IsLoaded reply (subst (λ a. told a reply) (loads_place c.places t.walk row.addr row.loads) was))
row_true c told t (Appends its) reply at row was =
    append_led_true c told (record t { effect = None; append = append_next c.places c.room t.append reply }) its row.place row.entry row.old row.is_current t.append.step (append_ask c.places (append_next c.places c.room t.append reply)) refl at
    (record { under = row.updates.under; update = row.updates.update; stays = row.updates.stays; lacks = row.updates.lacks }) row.its_reply row.made_of row.alone
    (append_true c told (record { place = row.place; entry = row.entry; tag = (home_at c).tag }) (words_of c.request row.entry row.old) row.last t.append reply row.appends row.asks was) refl
row_true c told t (LoadsTail waiting) reply at row was =
    Quietly (tail_true c told (record t { effect = None }) waiting reply refl (record { truth = row.truth; shared = row.shared; update = row.update; lacks = row.lacks }) was)
row_true c told t (LoadsTaken waiting) reply at row was =
    Quietly (taken_true c told (record t { effect = None }) waiting reply refl (record { truth = row.truth; shared = row.shared; update = row.update; none = row.none }) was)
row_true c told t (DropsExclusive its) reply at row was =
    Quietly (subst (λ x. Comes c told None (reply_told its) (latch_held t) (exclusive_dropped c.places (norm c (record t { effect = None; latching = latch_next t.latching reply })) its (latch_next_ask x reply))) (sym row.its_latching)
    (dropped_true c told (record t { effect = None; latching = latch_next t.latching reply }) its (latch_place c) reply row.truth row.not_alone row.shared))
row_true c told t (DropsShared its) reply at row was =
    Quietly (subst (λ x. Comes c told None (reply_told its) (latch_held t) (shared_dropped (norm c (record t { effect = None; latching = latch_next t.latching reply })) its (latch_next_ask x reply))) (sym row.its_latching)
    (unshared_true c told (record t { effect = None; latching = latch_next t.latching reply }) its (latch_place c) reply row.its_end.truth row.its_end.not_alone row.its_end.shared))
