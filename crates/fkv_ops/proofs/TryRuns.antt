-- Over every list of replies a try knows what its step has to, and what it was told is what is told at its end.
use Rattle.std.proofs.Common.{◌≡◌, ℕ, ◌+◌, List, [], ◌∷◌, refl, inl, inr, arith, sym, ap, ◌∙◌, subst, Bool, true, false}
use Rattle.std.specs.Prelude.{◌&&◌, ◌||◌, not, if◌then◌else◌, None}
use Rattle.fkv_words.specs.Fields.{bit_of}
use Rattle.fkv_map.specs.declared.operations.Reply.{Reply}
use Rattle.fkv_plane.specs.declared.asks.Ask.{Ask}
use Rattle.fkv_plane.specs.declared.asks.Ask.TheVariants.{Done}
use Rattle.fkv_plane.specs.declared.places.Places.{Places}
use Rattle.fkv_plane.specs.Passing.{passed, is_done}
use Rattle.fkv_latch.specs.declared.latching.LatchTask.TheVariants.{TakeShared}
use Rattle.fkv_latch.specs.declared.latching.Latching.{Latching}
use Rattle.fkv_latch.specs.declared.latching.Latching.TheVariants as latching
use Rattle.fkv_latch.specs.Latching.{latch_ask}
use Rattle.fkv_ops.specs.declared.answers.TryAnswer.{TryAnswer}
use Rattle.fkv_ops.specs.declared.answers.TryAnswer.TheVariants as answer
use Rattle.fkv_ops.specs.declared.trying.Trying.{Trying}
use Rattle.fkv_ops.specs.declared.trying.Trying.TheVariants.{Ended, TakesShared, LoadsPhase, Walks, CountsTaken, LoadsSafe, SwapsValue, LoadsCurrent, ChangesValue, LoadsAnswer, TakesExclusive, LoadsOld, Appends, LoadsTail, LoadsTaken, DropsExclusive, DropsShared}
use Rattle.fkv_ops.specs.Walking.{walk_ask}
use Rattle.fkv_ops.specs.Appending.{append_ask}
use Rattle.fkv_ops.specs.Trying.{TryState, new_try, trying_ask, try_ask, trying_next, try_next, with_latch, walks}
use Rattle.fkv_ops.specs.TryRun.{Trial, trial_begun, try_run, Told, told_by, with_effect, effects_of}
use Rattle.fkv_ops.specs.Reasons.{latch_place, IsTrue, EachIsTrue}
use Rattle.fkv_ops.specs.Effects.{EffectsAreOnce, LatchesAreKept, shares_latch, WithLatch}
use Rattle.fkv_ops.proofs.BoolTests.{both}
use Rattle.fkv_ops.proofs.Walked.{loads_asks}
use Rattle.fkv_ops.proofs.TryRows.{norm, Owed, ShareRow, AloneRow, TryRow, told_at, Comes}
use Rattle.fkv_ops.proofs.TrySteps.{Steps, Quietly, Effectively, owed_then, quieted, walks_true, row_true}

-- what is known of a state, behind these effects
pub record Known (c : Trial) (told : Told) (effects : List Reply) (t : TryState) : Type 0 where
  pub same : t ≡ norm c t
  pub its_told : told_at t.step ≡ effects
  pub row : TryRow c told t t.step

no : {X : Type 0} → false ≡ true → X
no e = cc

-- as it begins
pub begun_true : (c : Trial) (told : Told) (spare : ℕ) → Comes c told None [] (record { shares = bit_of c.request.has_latch; bits = 0 }) (trial_begun c spare)
begun_true c told spare = by_share (shares_latch c && not c.request.has_latch) refl
  where
    first : TryState
    first = new_try c.bits c.request c.seen c.occasion spare

    negated : (b : Bool) → not b ≡ true → b ≡ false
    negated true e = cc
    negated false e = refl

    kept : (a b : Bool) → (b && not a) ≡ false → a ≡ (a || b)
    kept true b e = refl
    kept false true e = cc
    kept false false e = refl

    wanted : (a b : Bool) → (b && not a) ≡ false → b ≡ true → a ≡ false → ⊥
    wanted true b e f g = cc
    wanted false true e f g = cc
    wanted false false e f g = cc

    came_with : (a b : Bool) → (b && not a) ≡ false → b ≡ true → a ≡ true
    came_with true b e f = refl
    came_with false true e f = cc
    came_with false false e f = cc

    of_shares : ℕ → Owed
    of_shares n = record { shares = n; bits = 0 }

    none_given : (n : ℕ) → n + 0 ≡ n
    none_given n = omega arith

    by_share : (b : Bool) → (shares_latch c && not c.request.has_latch) ≡ b → Comes c told None [] (record { shares = bit_of c.request.has_latch; bits = 0 }) (if b then with_latch c.places (norm c first) TakeShared TakesShared else walks c.places (norm c first))
    by_share true e =
        let split = both (shares_latch c) (not c.request.has_latch) e in
        let not_shared : c.request.has_latch ≡ false = negated c.request.has_latch split.1 in
        record { same = refl; owes = ap of_shares (none_given (bit_of c.request.has_latch)); its_effect = refl; its_told = refl; row = record { not_alone = refl; not_shared = not_shared; wants = split.0; has_none = negated c.request.has_latch split.1; its_latching = refl } }
    by_share false e = walks_true c told first refl refl (record { shared = kept c.request.has_latch (shares_latch c) e; has_added = λ wants none. absurd (wanted c.request.has_latch (shares_latch c) e wants none); in_phase = λ marked wants. WithLatch marked (came_with c.request.has_latch (shares_latch c) e wants) })

ask_same : (p : Places) (t : TryState) (step : Trying) → trying_ask p (record t { effect = None }) step ≡ trying_ask p t step
unfolding trying_ask
ask_same p t (Ended its) = refl
ask_same p t TakesShared = refl
ask_same p t LoadsPhase = refl
ask_same p t Walks = refl
ask_same p t CountsTaken = refl
ask_same p t (LoadsSafe addr version) = refl
ask_same p t (SwapsValue addr) = refl
ask_same p t (LoadsCurrent addr) = refl
ask_same p t (ChangesValue addr old) = refl
ask_same p t LoadsAnswer = refl
ask_same p t (TakesExclusive old) = refl
ask_same p t LoadsOld = refl
ask_same p t (Appends its) = refl
ask_same p t (LoadsTail waiting) = refl
ask_same p t (LoadsTaken waiting) = refl
ask_same p t (DropsExclusive its) = refl
ask_same p t (DropsShared its) = refl

-- what it asks as the reply meets it
pub quieted_ask : (c : Trial) (t : TryState) → t ≡ norm c t → try_ask c.places t ≡ trying_ask c.places (quieted c t) t.step
quieted_ask c t same = ap (λ x. trying_ask c.places x t.step) same ∙ sym (ask_same c.places (norm c t) t.step)

pub quieted_next : (c : Trial) (t : TryState) (reply : ℕ) → t ≡ norm c t → trying_next c.places c.room (quieted c t) t.step reply ≡ try_next c.places c.room t reply
quieted_next c t reply same = ap (λ x. trying_next c.places c.room (record x { effect = None }) t.step reply) (sym same)

-- a step leads on
pub step_true : (c : Trial) (told : Told) (effects : List Reply) (t : TryState) (reply : ℕ) → Known c told effects t → told (try_ask c.places t) reply → Steps c told t.step (owed_then t t.step reply) (try_next c.places c.room t reply)
step_true c told effects t reply known was =
    subst (Steps c told t.step (owed_then t t.step reply)) (quieted_next c t reply known.same) (row_true c told t t.step reply refl known.row (subst (λ a. told a reply) (quieted_ask c t known.same) was))

stepped : (c : Trial) (told : Told) (effects : List Reply) (step : Trying) (owed : Owed) (t : TryState) → told_at step ≡ effects → Steps c told step owed t → Known c told (with_effect t.effect effects) t
stepped c told effects step owed t before (Quietly comes) = record { same = comes.same; its_told = comes.its_told ∙ before ∙ sym (ap (λ e. with_effect e effects) comes.its_effect); row = comes.row }
stepped c told effects step owed t before (Effectively its makes none comes) =
    record { same = comes.same; its_told = comes.its_told ∙ ap (λ l. its ∷ l) (sym none ∙ before) ∙ sym (ap (λ e. with_effect e effects) comes.its_effect); row = comes.row }

-- over a whole run
pub run_true : (c : Trial) (told : Told) (spare : ℕ) (replies : List ℕ) → ((ask : Ask TryAnswer) (reply : ℕ) → told_by c (trial_begun c spare) replies ask reply → told ask reply)
    → Known c told (effects_of c (trial_begun c spare) replies) (try_run c (trial_begun c spare) replies)
run_true c told spare [] all = let its = begun_true c told spare in record { same = its.same; its_told = its.its_told; row = its.row }
run_true c told spare (reply ∷ earlier) all =
    let known : Known c told (effects_of c (trial_begun c spare) earlier) (try_run c (trial_begun c spare) earlier) = run_true c told spare earlier (λ ask it among. all ask it (inr among)) in
    stepped c told (effects_of c (trial_begun c spare) earlier) (try_run c (trial_begun c spare) earlier).step (owed_then (try_run c (trial_begun c spare) earlier) (try_run c (trial_begun c spare) earlier).step reply) (try_run c (trial_begun c spare) (reply ∷ earlier)) known.its_told
    (step_true c told (effects_of c (trial_begun c spare) earlier) (try_run c (trial_begun c spare) earlier) reply known (all (try_ask c.places (try_run c (trial_begun c spare) earlier)) reply (inl (refl, refl))))

not_passed : {A B : Type 0} (ask : Ask A) (a b : B) → is_done ask ≡ false → passed ask a ≡ Done b → ⊥
unfolding passed
not_passed (Done its) a b e f = cc
not_passed ask a b e f = cc

share_asks : (c : Trial) (told : Told) (step : Latching) → ShareRow c told step → is_done (latch_ask step) ≡ false
unfolding latch_ask
share_asks c told (latching.AddsShare place) row = refl
share_asks c told (latching.GivesBack place) row = refl
share_asks c told step row = absurd row

alone_asks : (c : Trial) (told : Told) (step : Latching) → AloneRow c told step → is_done (latch_ask step) ≡ false
unfolding latch_ask
alone_asks c told (latching.LoadsWord place) row = refl
alone_asks c told (latching.SetsExclusive place word) row = refl
alone_asks c told step row = absurd row

drop_asks : (place : ℕ) → is_done (latch_ask (latching.DropsExclusive place)) ≡ false
unfolding latch_ask
drop_asks place = refl

unshare_asks : (place : ℕ) → is_done (latch_ask (latching.DropsShare place)) ≡ false
unfolding latch_ask
unshare_asks place = refl

-- it answers only at its end
row_ended : (c : Trial) (told : Told) (t : TryState) (step : Trying) (its : TryAnswer) → TryRow c told t step → trying_ask c.places t step ≡ Done its → step ≡ Ended its
unfolding trying_ask
row_ended c told t (Ended it) its row e = cc
row_ended c told t TakesShared its row e = absurd (not_passed (latch_ask t.latching) answer.Shift its (share_asks c told t.latching row.its_latching) e)
row_ended c told t LoadsPhase its row e = cc
row_ended c told t Walks its row e = absurd (not_passed (walk_ask c.places t.walk) answer.Shift its row.asks e)
row_ended c told t CountsTaken its row e = cc
row_ended c told t (LoadsSafe addr version) its row e = cc
row_ended c told t (SwapsValue addr) its row e = cc
row_ended c told t (LoadsCurrent addr) its row e = absurd (not_passed (walk_ask c.places t.walk) answer.Shift its (loads_asks c.places t.walk addr row.2) e)
row_ended c told t (ChangesValue addr old) its row e = cc
row_ended c told t LoadsAnswer its row e = absurd (not_passed (walk_ask c.places t.walk) answer.Shift its (loads_asks c.places t.walk row.addr row.loads) e)
row_ended c told t (TakesExclusive old) its row e = absurd (not_passed (latch_ask t.latching) answer.Shift its (alone_asks c told t.latching row.its_latching) e)
row_ended c told t LoadsOld its row e = absurd (not_passed (walk_ask c.places t.walk) answer.Shift its (loads_asks c.places t.walk row.addr row.loads) e)
row_ended c told t (Appends it) its row e = absurd (not_passed (append_ask c.places t.append) answer.Shift its row.asks e)
row_ended c told t (LoadsTail waiting) its row e = cc
row_ended c told t (LoadsTaken waiting) its row e = cc
row_ended c told t (DropsExclusive it) its row e = absurd (not_passed (latch_ask t.latching) it its (subst (λ x. is_done (latch_ask x) ≡ false) (sym row.its_latching) (drop_asks (latch_place c))) e)
row_ended c told t (DropsShared it) its row e = absurd (not_passed (latch_ask t.latching) it its (subst (λ x. is_done (latch_ask x) ≡ false) (sym row.its_latching) (unshare_asks (latch_place c))) e)

-- what is known of a run by what was asked in it
abbrev pub RunKnown : Trial → ℕ → List ℕ → Type 0
RunKnown c spare replies = Known c (told_by c (trial_begun c spare) replies) (effects_of c (trial_begun c spare) replies) (try_run c (trial_begun c spare) replies)

pub run_known : (c : Trial) (spare : ℕ) (replies : List ℕ) → RunKnown c spare replies
run_known c spare replies = run_true c (told_by c (trial_begun c spare) replies) spare replies (λ ask reply among. among)

pub at_end : (c : Trial) (told : Told) (effects : List Reply) (t : TryState) (its : TryAnswer) → Known c told effects t → try_ask c.places t ≡ Done its → t.step ≡ Ended its
at_end c told effects t its known e = row_ended c told t t.step its known.row e

-- what it ends with was found by it, also as whoever knows more of what was asked sees it
pub found_true : (c : Trial) (told : Told) (spare : ℕ) (replies : List ℕ) (its : TryAnswer) → ((ask : Ask TryAnswer) (reply : ℕ) → told_by c (trial_begun c spare) replies ask reply → told ask reply)
    → try_ask c.places (try_run c (trial_begun c spare) replies) ≡ Done its → IsTrue c told its
found_true c told spare replies its all e =
    let known = run_true c told spare replies all in
    let ends = subst (TryRow c told (try_run c (trial_begun c spare) replies)) (at_end c told (effects_of c (trial_begun c spare) replies) (try_run c (trial_begun c spare) replies) its known e) known.row in
    ends.truth

pub each_is_true : EachIsTrue
each_is_true c spare replies its e = found_true c (told_by c (trial_begun c spare) replies) spare replies its (λ ask reply among. among) e

pub effects_once : EffectsAreOnce
effects_once c spare replies its e =
    let known = run_known c spare replies in
    sym known.its_told ∙ ap told_at (at_end c (told_by c (trial_begun c spare) replies) (effects_of c (trial_begun c spare) replies) (try_run c (trial_begun c spare) replies) its known e)

pub latches_kept : LatchesAreKept
latches_kept c spare replies its e =
    let known = run_known c spare replies in
    let told : Told = told_by c (trial_begun c spare) replies in
    let ends = subst (TryRow c told (try_run c (trial_begun c spare) replies)) (at_end c told (effects_of c (trial_begun c spare) replies) (try_run c (trial_begun c spare) replies) its known e) known.row in
    record { not_alone = ends.not_alone; shares = ends.shared }
