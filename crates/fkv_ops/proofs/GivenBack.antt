-- A share that has met bit 63 is given back by a try's next ask.
use Rattle.std.proofs.Common.{◌≡◌, ℕ, ◌-◌, ◌^◌, refl, arith, sym, ap, ◌∙◌, subst, Bool, true, false}
use Rattle.std.specs.Prelude.{◌==◌, ◌&&◌, if◌then◌else◌, None}
use Rattle.std.proofs.lemmas.Bool.Decides.{nat_tests}
use Rattle.fkv_plane.specs.declared.asks.Ask.{Ask}
use Rattle.fkv_plane.specs.declared.asks.Ask.TheVariants.{Add, Done}
use Rattle.fkv_plane.specs.Passing.{passed}
use Rattle.fkv_latch.specs.declared.latching.LatchAnswer.TheVariants.{Taken}
use Rattle.fkv_latch.specs.declared.latching.Latching.{Latching}
use Rattle.fkv_latch.specs.declared.latching.Latching.TheVariants as latching
use Rattle.fkv_latch.specs.Latching.{one_share, is_exclusive, latch_ask, latch_next, latch_next_ask}
use Rattle.fkv_ops.specs.declared.answers.TryAnswer.{TryAnswer}
use Rattle.fkv_ops.specs.declared.answers.TryAnswer.TheVariants as answer
use Rattle.fkv_ops.specs.declared.trying.Trying.{Trying}
use Rattle.fkv_ops.specs.declared.trying.Trying.TheVariants.{Ended, TakesShared, LoadsPhase, Walks, CountsTaken, LoadsSafe, SwapsValue, LoadsCurrent, ChangesValue, LoadsAnswer, TakesExclusive, LoadsOld, Appends, LoadsTail, LoadsTaken, DropsExclusive, DropsShared}
use Rattle.fkv_ops.specs.Trying.{TryState, trying_ask, try_ask, try_next, trying_next, shared_ledto, words_of}
use Rattle.fkv_ops.specs.TryRun.{Trial, Told}
use Rattle.fkv_ops.specs.Reasons.{latch_place}
use Rattle.fkv_ops.specs.Walking.{walk_ask}
use Rattle.fkv_ops.specs.Appending.{append_ask}
use Rattle.fkv_ops.proofs.TryRows.{ShareRow, AloneRow, TryRow}
use Rattle.fkv_ops.proofs.Effected.{anything}
use Rattle.fkv_ops.proofs.Balances.{IsApart, walk_apart, loads_apart, append_apart}
use Rattle.fkv_ops.proofs.LatchShares.{IsTrying, AddsThere, adds_there}

itself : (n : ℕ) → (n == n) ≡ true
itself n = grind (arith, nat_tests)

both_hold : (a b : Bool) → a ≡ true → b ≡ true → (a && b) ≡ false → ⊥
both_hold true true e f none = cc
both_hold false b e f none = cc
both_hold true false e f none = cc

not_latch : (c : Trial) (ask : Ask TryAnswer) (reply place number : ℕ) → IsApart c ask reply → AddsThere (latch_place c) ask → ask ≡ Add place number → ⊥
not_latch c (Add at its) reply place number apart same e =
    both_hold (its == its) (at == latch_place c) (itself its) (subst (λ (p : ℕ). (p == latch_place c) ≡ true) (sym same) (itself (latch_place c))) (apart.adds_none its)
not_latch c ask reply place number apart same e = cc

added_number : Ask TryAnswer → ℕ
added_number (Add place number) = number
added_number ask = 0

apart_back : (at place : ℕ) → ◌≡◌ {A = Ask TryAnswer} (Add at (2 ^ 64 - one_share)) (Add place one_share) → ⊥
unfolding added_number
apart_back at place e = let same : ◌≡◌ {A = ℕ} 18446462598732840960 281474976710656 = ap added_number e in omega (arith, same)

apart_bit : (at place : ℕ) → ◌≡◌ {A = Ask TryAnswer} (Add at (2 ^ 63)) (Add place one_share) → ⊥
unfolding added_number
apart_bit at place e = let same : ◌≡◌ {A = ℕ} 9223372036854775808 281474976710656 = ap added_number e in omega (arith, same)

-- the next ask, by what the latch asks next
back_led : (c : Trial) (t : TryState) (place : ℕ) (busy : Bool) → busy ≡ true → t.step ≡ TakesShared → t.latching ≡ (if busy then latching.GivesBack place else latching.AtRest)
    → try_ask c.places (shared_ledto c.places t (if busy then latch_ask (latching.GivesBack place) else Done Taken)) ≡ Add place (2 ^ 64 - one_share)
unfolding shared_ledto trying_ask latch_ask passed
back_led c t place true e s at = ap (λ (x : Trying). trying_ask c.places t x) s ∙ ap (λ (x : Latching). passed (latch_ask x) answer.Shift) at
back_led c t place false e s at = cc

back_shared : (c : Trial) (told : Told) (t : TryState) (step : Latching) (reply place : ℕ) → t.latching ≡ latch_next step reply → t.step ≡ TakesShared → ShareRow c told step → passed (latch_ask step) answer.Shift ≡ Add place one_share → is_exclusive reply ≡ true
    → try_ask c.places (shared_ledto c.places t (latch_next_ask step reply)) ≡ Add place (2 ^ 64 - one_share)
unfolding latch_ask latch_next latch_next_ask passed
back_shared c told t (latching.AddsShare at) reply place next s row asks busy =
    let same : at ≡ place = cc in
    back_led c t at (is_exclusive reply) busy s next ∙ ap (λ (p : ℕ). Add p (2 ^ 64 - one_share)) same
back_shared c told t (latching.GivesBack at) reply place next s row asks busy = absurd (apart_back at place asks)
back_shared c told t step reply place next s row asks busy = absurd row

alone_not : (c : Trial) (told : Told) (step : Latching) (place : ℕ) → AloneRow c told step → passed (latch_ask step) answer.Shift ≡ Add place one_share → ⊥
unfolding latch_ask passed
alone_not c told (latching.LoadsWord at) place row e = cc
alone_not c told (latching.SetsExclusive at word) place row e = cc
alone_not c told step place row e = absurd row

drop_not : (step : Latching) (at place : ℕ) (its : TryAnswer) → step ≡ latching.DropsExclusive at → passed (latch_ask step) its ≡ Add place one_share → ⊥
unfolding latch_ask passed
drop_not (latching.DropsExclusive it) at place its e f = apart_bit it place f
drop_not step at place its e f = cc

unshare_not : (step : Latching) (at place : ℕ) (its : TryAnswer) → step ≡ latching.DropsShare at → passed (latch_ask step) its ≡ Add place one_share → ⊥
unfolding latch_ask passed
unshare_not (latching.DropsShare it) at place its e f = apart_back it place f
unshare_not step at place its e f = cc

row_back : (c : Trial) (t : TryState) (step : Trying) (reply place : ℕ) → t.step ≡ step → TryRow c anything t step → AddsThere (latch_place c) (trying_ask c.places t step) → trying_ask c.places t step ≡ Add place one_share → is_exclusive reply ≡ true
    → try_ask c.places (trying_next c.places c.room (record t { effect = None }) step reply) ≡ Add place (2 ^ 64 - one_share)
unfolding trying_ask trying_next
row_back c t (Ended its) reply place s row there asks busy = cc
row_back c t TakesShared reply place s row there asks busy = back_shared c anything (record t { effect = None; latching = latch_next t.latching reply }) t.latching reply place refl s row.its_latching asks busy
row_back c t LoadsPhase reply place s row there asks busy = cc
row_back c t Walks reply place s row there asks busy = absurd (not_latch c (passed (walk_ask c.places t.walk) answer.Shift) reply place one_share (walk_apart c anything t.walk t.walk.step reply row.walks.its_row) there asks)
row_back c t CountsTaken reply place s row there asks busy = cc
row_back c t (LoadsSafe addr version) reply place s row there asks busy = cc
row_back c t (SwapsValue addr) reply place s row there asks busy = cc
row_back c t (LoadsCurrent addr) reply place s row there asks busy = absurd (not_latch c (passed (walk_ask c.places t.walk) answer.Shift) reply place one_share (loads_apart c t addr reply row.2) there asks)
row_back c t (ChangesValue addr old) reply place s row there asks busy = cc
row_back c t LoadsAnswer reply place s row there asks busy = absurd (not_latch c (passed (walk_ask c.places t.walk) answer.Shift) reply place one_share (loads_apart c t row.addr reply row.loads) there asks)
row_back c t (TakesExclusive old) reply place s row there asks busy = absurd (alone_not c anything t.latching place row.its_latching asks)
row_back c t LoadsOld reply place s row there asks busy = absurd (not_latch c (passed (walk_ask c.places t.walk) answer.Shift) reply place one_share (loads_apart c t row.addr reply row.loads) there asks)
row_back c t (Appends its) reply place s row there asks busy =
    absurd (not_latch c (passed (append_ask c.places t.append) answer.Shift) reply place one_share (append_apart c anything row.place row.entry (words_of c.request row.entry row.old) row.last t.append t.append.step reply row.appends.its_row) there asks)
row_back c t (LoadsTail waiting) reply place s row there asks busy = cc
row_back c t (LoadsTaken waiting) reply place s row there asks busy = cc
row_back c t (DropsExclusive its) reply place s row there asks busy = absurd (drop_not t.latching (latch_place c) place its row.its_latching asks)
row_back c t (DropsShared its) reply place s row there asks busy = absurd (unshare_not t.latching (latch_place c) place its row.its_latching asks)

pub given_back : (c : Trial) (t : TryState) (reply place : ℕ) → IsTrying c t → try_ask c.places t ≡ Add place one_share → is_exclusive reply ≡ true → try_ask c.places (try_next c.places c.room t reply) ≡ Add place (2 ^ 64 - one_share)
given_back c t reply place its asks busy = row_back c t t.step reply place refl its.row (adds_there c t its) asks busy
