-- Over every list of replies the latch is changed by just what the try owes to it, and up to its effect nothing is given back.
use Rattle.std.proofs.Common.{◌≡◌, ℕ, ◌+◌, ◌-◌, ◌^◌, List, [], ◌∷◌, refl, arith, sym, ap, ◌∙◌, subst, Bool, true, false}
use Rattle.std.specs.Prelude.{◌&&◌, not, if◌then◌else◌}
use Rattle.fkv_words.specs.Fields.{bit_of}
use Rattle.fkv_plane.specs.declared.asks.Ask.{Ask}
use Rattle.fkv_plane.specs.declared.places.Places.{Places}
use Rattle.fkv_plane.specs.Passing.{passed}
use Rattle.fkv_latch.specs.declared.latching.LatchTask.TheVariants.{DropShared, DropExclusive}
use Rattle.fkv_latch.specs.declared.latching.Latching.{Latching}
use Rattle.fkv_latch.specs.declared.latching.Latching.TheVariants as latching
use Rattle.fkv_latch.specs.Latching.{one_share, exclusive_bit, latch_ask, latch_next, latch_next_ask}
use Rattle.fkv_ops.specs.declared.answers.TryAnswer.{TryAnswer}
use Rattle.fkv_ops.specs.declared.answers.TryAnswer.TheVariants as answer
use Rattle.fkv_ops.specs.declared.trying.Trying.{Trying}
use Rattle.fkv_ops.specs.declared.trying.Trying.TheVariants.{Ended, TakesShared, LoadsPhase, Walks, CountsTaken, LoadsSafe, SwapsValue, LoadsCurrent, ChangesValue, LoadsAnswer, TakesExclusive, LoadsOld, Appends, LoadsTail, LoadsTaken, DropsExclusive, DropsShared}
use Rattle.fkv_ops.specs.Trying.{TryState, trying_ask, try_ask, trying_next, try_next, is_wait, with_latch, ends, ends_so, ended_without, shared_ledto, exclusive_dropped, shared_dropped, words_of}
use Rattle.fkv_ops.specs.Walking.{walk_ask}
use Rattle.fkv_ops.specs.Appending.{append_ask}
use Rattle.fkv_ops.specs.TryRun.{Trial, trial_begun, try_run, Told, Exchange, exchanges, effects_of}
use Rattle.fkv_ops.specs.Reasons.{latch_place}
use Rattle.fkv_ops.specs.LatchCounts.{is_adding, bits_set, shares_added, shares_dropped, bits_cleared, EachLeavesLatch, EachHoldsLatch}
use Rattle.fkv_ops.proofs.TryRows.{norm, shares, Owed, latch_held, owed_at, ShareRow, AloneRow, TryRow}
use Rattle.fkv_ops.proofs.TrySteps.{makes_effect, Steps, Quietly, Effectively, owed_then, quieted}
use Rattle.fkv_ops.proofs.TryRuns.{begun_true, quieted_next, step_true, at_end}
use Rattle.fkv_ops.proofs.Effected.{anything, any_known, run_makes}
use Rattle.fkv_ops.proofs.Balances.{Balances, IsApart, row_balances, walk_apart, loads_apart, append_apart}

-- the steps before a try begins to give back what it holds
abbrev is_early : Trying → Bool
is_early (Ended its) = false
is_early (DropsExclusive its) = false
is_early (DropsShared its) = false
is_early step = true

without_late : (p : Places) (t : TryState) (its : TryAnswer) → is_early (ended_without p t its).step ≡ false
without_late p t its = by_test (t.has_shared && not (is_wait its))
  where
    by_test : (b : Bool) → is_early (if b then with_latch p (record t { has_shared = false }) DropShared (DropsShared its) else record t { step = Ended its }).step ≡ false
    by_test true = refl
    by_test false = refl

shift_late : (p : Places) (t : TryState) → is_early (ends p t answer.Shift).step ≡ false
unfolding ends ends_so
shift_late p t = by_test t.has_exclusive
  where
    by_test : (b : Bool) → is_early (if b then with_latch p (record t { has_exclusive = false }) DropExclusive (DropsExclusive answer.Shift) else ended_without p t answer.Shift).step ≡ false
    by_test true = refl
    by_test false = without_late p t answer.Shift

-- an ask that gives nothing back
record GivesNone (c : Trial) (ask : Ask TryAnswer) : Type 0 where
  dropped : is_adding c (2 ^ 64 - one_share) ask ≡ false
  cleared : is_adding c exclusive_bit ask ≡ false

gives_none : (c : Trial) (ask : Ask TryAnswer) (reply : ℕ) → IsApart c ask reply → GivesNone c ask
gives_none c ask reply apart = record { dropped = apart.adds_none (2 ^ 64 - one_share); cleared = apart.adds_none exclusive_bit }

no : {X : Type 0} → false ≡ true → X
no e = cc

share_early : (c : Trial) (told : Told) (t s : TryState) (step : Latching) (reply : ℕ) → t.latching ≡ step → ShareRow c told step → is_early (shared_ledto c.places s (latch_next_ask step reply)).step ≡ true
    → (is_early TakesShared ≡ true) × GivesNone c (passed (latch_ask t.latching) answer.Shift)
unfolding latch_ask latch_next_ask shared_ledto passed
share_early c told t s (latching.AddsShare place) reply at row early = (refl, rw (at, latch_ask) (record { dropped = refl; cleared = refl }))
share_early c told t s (latching.GivesBack place) reply at row early = no (sym (shift_late c.places s) ∙ early)
share_early c told t s step reply at row early = absurd row

alone_gives_none : (c : Trial) (told : Told) (t : TryState) (step : Latching) → t.latching ≡ step → AloneRow c told step → GivesNone c (passed (latch_ask t.latching) answer.Shift)
unfolding latch_ask passed
alone_gives_none c told t (latching.LoadsWord place) at row = rw (at, latch_ask) (record { dropped = refl; cleared = refl })
alone_gives_none c told t (latching.SetsExclusive place word) at row = rw (at, latch_ask) (record { dropped = refl; cleared = refl })
alone_gives_none c told t step at row = absurd row

drop_late : (c : Trial) (s : TryState) (its : TryAnswer) (step : Latching) (reply : ℕ) → step ≡ latching.DropsExclusive (latch_place c) → is_early (exclusive_dropped c.places s its (latch_next_ask step reply)).step ≡ false
unfolding exclusive_dropped latch_next_ask
drop_late c s its step reply at = rw (at, latch_next_ask) (without_late c.places s its)

unshare_late : (c : Trial) (s : TryState) (its : TryAnswer) (step : Latching) (reply : ℕ) → step ≡ latching.DropsShare (latch_place c) → is_early (shared_dropped s its (latch_next_ask step reply)).step ≡ false
unfolding shared_dropped latch_next_ask
unshare_late c s its step reply at = rw (at, latch_next_ask) refl

-- where a step leads to an early one it is early itself, and gives nothing back
early_row : (c : Trial) (told : Told) (t : TryState) (step : Trying) (reply : ℕ) → t.step ≡ step → TryRow c told t step → is_early (trying_next c.places c.room (quieted c t) step reply).step ≡ true
    → (is_early step ≡ true) × GivesNone c (trying_ask c.places (norm c t) step)
unfolding trying_ask trying_next
early_row c told t (Ended its) reply at row early = no (sym (ap is_early at) ∙ early)
early_row c told t TakesShared reply at row early = share_early c told t (record (quieted c t) { latching = latch_next t.latching reply }) t.latching reply refl row.its_latching early
early_row c told t LoadsPhase reply at row early = (refl, record { dropped = refl; cleared = refl })
early_row c told t Walks reply at row early = (refl, gives_none c (passed (walk_ask c.places t.walk) answer.Shift) reply (walk_apart c told t.walk t.walk.step reply row.walks.its_row))
early_row c told t CountsTaken reply at row early = (refl, record { dropped = refl; cleared = refl })
early_row c told t (LoadsSafe addr version) reply at row early = (refl, record { dropped = refl; cleared = refl })
early_row c told t (SwapsValue addr) reply at row early = (refl, record { dropped = refl; cleared = refl })
early_row c told t (LoadsCurrent addr) reply at row early = (refl, gives_none c (passed (walk_ask c.places t.walk) answer.Shift) reply (loads_apart c t addr reply row.2))
early_row c told t (ChangesValue addr old) reply at row early = (refl, record { dropped = refl; cleared = refl })
early_row c told t LoadsAnswer reply at row early = (refl, gives_none c (passed (walk_ask c.places t.walk) answer.Shift) reply (loads_apart c t row.addr reply row.loads))
early_row c told t (TakesExclusive old) reply at row early = (refl, alone_gives_none c told t t.latching refl row.its_latching)
early_row c told t LoadsOld reply at row early = (refl, gives_none c (passed (walk_ask c.places t.walk) answer.Shift) reply (loads_apart c t row.addr reply row.loads))
early_row c told t (Appends its) reply at row early =
    (refl, gives_none c (passed (append_ask c.places t.append) answer.Shift) reply (append_apart c told row.place row.entry (words_of c.request row.entry row.old) row.last t.append t.append.step reply row.appends.its_row))
early_row c told t (LoadsTail waiting) reply at row early = (refl, record { dropped = refl; cleared = refl })
early_row c told t (LoadsTaken waiting) reply at row early = (refl, record { dropped = refl; cleared = refl })
early_row c told t (DropsExclusive its) reply at row early = no (sym (drop_late c (record (quieted c t) { latching = latch_next t.latching reply }) its t.latching reply row.its_latching) ∙ early)
early_row c told t (DropsShared its) reply at row early = no (sym (unshare_late c (record (quieted c t) { latching = latch_next t.latching reply }) its t.latching reply row.its_latching) ∙ early)

-- as the try's own state
normal_ask : (c : Trial) (t : TryState) → t ≡ norm c t → try_ask c.places t ≡ trying_ask c.places (norm c t) t.step
normal_ask c t same = ap (λ x. trying_ask c.places x t.step) same

-- what was done to the latch, and what is owed to it
record Counted (c : Trial) (its : List Exchange) (t : TryState) : Type 0 where
  shares : bit_of c.request.has_latch + shares_added c its ≡ shares_dropped c its + (owed_at t t.step).shares
  bits : bits_set c its ≡ bits_cleared c its + (owed_at t t.step).bits
  calm : is_early t.step ≡ true → (shares_dropped c its ≡ 0) × (bits_cleared c its ≡ 0)

then_owed : (c : Trial) (told : Told) (step : Trying) (owed : Owed) (t : TryState) → Steps c told step owed t → owed_at t t.step ≡ owed
then_owed c told step owed t (Quietly comes) = comes.owes
then_owed c told step owed t (Effectively its makes none comes) = comes.owes

none_more : (n : ℕ) → n ≡ 0 → 0 + n ≡ 0
none_more n e = omega (arith, e)

counted_next : (c : Trial) (t t' : TryState) (reply : ℕ) (its : List Exchange) → t ≡ norm c t → try_next c.places c.room t reply ≡ t' → TryRow c anything t t.step → Counted c its t → owed_at t' t'.step ≡ owed_then t t.step reply
    → Counted c (record { ask = try_ask c.places t; reply = reply } ∷ its) t'
counted_next c t t' reply its same next row counted owes = record {
  shares =
      let before = counted.shares in
      let step = balance.shares in
      let owed : (owed_at t' t'.step).shares ≡ (owed_then t t.step reply).shares = ap (λ o. o.shares) owes in
      omega (arith, before, step, owed);
  bits =
      let before = counted.bits in
      let step = balance.bits in
      let owed : (owed_at t' t'.step).bits ≡ (owed_then t t.step reply).bits = ap (λ o. o.bits) owes in
      omega (arith, before, step, owed);
  calm = λ early.
      let here = early_row c anything t t.step reply refl row (subst (λ s. is_early s.step ≡ true) (sym (quieted_next c t reply same ∙ next)) early) in
      let gives = subst (GivesNone c) (sym (normal_ask c t same)) here.1 in
      let calm = counted.calm here.0 in
      (rw gives.dropped (none_more (shares_dropped c its) calm.0), rw gives.cleared (none_more (bits_cleared c its) calm.1));
}
  where
    balance : Balances c (owed_at t t.step) (try_ask c.places t) reply (owed_then t t.step reply)
    balance = subst (λ a. Balances c (owed_at t t.step) a reply (owed_then t t.step reply)) (sym (normal_ask c t same)) (row_balances c anything t t.step reply row)

counted_run : (c : Trial) (spare : ℕ) (replies : List ℕ) → Counted c (exchanges c (trial_begun c spare) replies) (try_run c (trial_begun c spare) replies)
counted_run c spare [] =
    let begun = begun_true c anything spare in
    let owed : (owed_at (trial_begun c spare) (trial_begun c spare).step).shares ≡ bit_of c.request.has_latch = ap (λ o. o.shares) begun.owes in
    let none : (owed_at (trial_begun c spare) (trial_begun c spare).step).bits ≡ 0 = ap (λ o. o.bits) begun.owes in
    record { shares = omega (arith, owed); bits = omega (arith, none); calm = λ early. (refl, refl) }
counted_run c spare (reply ∷ earlier) =
    let t : TryState = try_run c (trial_begun c spare) earlier in
    let known = any_known c spare earlier in
    counted_next c t (try_run c (trial_begun c spare) (reply ∷ earlier)) reply (exchanges c (trial_begun c spare) earlier) known.same refl known.row (counted_run c spare earlier)
    (then_owed c anything t.step (owed_then t t.step reply) (try_run c (trial_begun c spare) (reply ∷ earlier)) (step_true c anything (effects_of c (trial_begun c spare) earlier) t reply known tt))

early_makes : (step : Trying) → makes_effect step ≡ true → is_early step ≡ true
early_makes (SwapsValue addr) e = refl
early_makes (ChangesValue addr old) e = refl
early_makes (Appends its) e = refl
early_makes (Ended its) e = cc
early_makes TakesShared e = refl
early_makes LoadsPhase e = refl
early_makes Walks e = refl
early_makes CountsTaken e = refl
early_makes (LoadsSafe addr version) e = refl
early_makes (LoadsCurrent addr) e = refl
early_makes LoadsAnswer e = refl
early_makes (TakesExclusive old) e = refl
early_makes LoadsOld e = refl
early_makes (LoadsTail waiting) e = refl
early_makes (LoadsTaken waiting) e = refl
early_makes (DropsExclusive its) e = cc
early_makes (DropsShared its) e = cc

pub each_holds : EachHoldsLatch
each_holds c spare replies reply its e =
    let calm = (counted_run c spare replies).calm (early_makes (try_run c (trial_begun c spare) replies).step (run_makes c spare replies reply its e)) in
    record { cleared = calm.1; dropped = calm.0 }

pub each_leaves : EachLeavesLatch
each_leaves c spare replies its e =
    let t : TryState = try_run c (trial_begun c spare) replies in
    let known = any_known c spare replies in
    let at = at_end c anything (effects_of c (trial_begun c spare) replies) t its known e in
    let ends = subst (TryRow c anything t) at known.row in
    let counted = counted_run c spare replies in
    let owed : owed_at t t.step ≡ latch_held t = ap (owed_at t) at in
    let shares_left : (owed_at t t.step).shares ≡ bit_of (is_wait its && shares c) = ap (λ o. o.shares) owed ∙ ap bit_of ends.shared in
    let bits_left : (owed_at t t.step).bits ≡ 0 = ap (λ o. o.bits) owed ∙ ap bit_of ends.not_alone in
    let its_shares = counted.shares in
    let its_bits = counted.bits in
    record { alone = omega (arith, its_bits, bits_left); shared = its_shares ∙ ap (λ n. shares_dropped c (exchanges c (trial_begun c spare) replies) + n) shares_left }
