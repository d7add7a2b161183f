-- Where no update of a serial waits, the answers that give it make one effect of it at least.
use Rattle.std.proofs.Common.{◌≡◌, ℕ, ◌+◌, ◌≤◌, List, [], ◌∷◌, ◌++◌, refl, arith, ap, sym, subst, Bool}
use Rattle.std.specs.Prelude.{Option, Some, None, map, ◌==◌}
use Rattle.fkv_words.specs.Fields.{bit_of}
use Rattle.fkv_map.specs.declared.history.HistoryEntry.{HistoryEntry}
use Rattle.law_commit.specs.Below.fkv_pending.RequestName.{RequestName}
use Rattle.law_commit.specs.Below.fkv_session.Finished.{Finished}
use Rattle.law_commit.specs.Below.fkv_session.Finished.TheVariants as finished
use Rattle.law_commit.specs.Below.fkv_session.Told.{Told}
use Rattle.law_commit.specs.Below.fkv_session.Told.TheVariants as told
use Rattle.law_commit.specs.Below.fkv_session.Accounts.{IsAnsweredOnce, done_before, is_update, names_finished, number_of, polled, serials_done}
use Rattle.law_commit.specs.Below.fkv_session.Replies.{AreRepliesOfEffects, UpdateDone, done_by, done_by_poll, done_told, is_done, is_of, with_done, with_effect}
use Rattle.law_commit.specs.Below.fkv_session.SessionRun.{Telling}

number_both : {A : Type 0} (such : A → Bool) (xs ys : List A) → number_of such (xs ++ ys) ≡ number_of such xs + number_of such ys
number_both such [] ys = omega arith
number_both such (x ∷ xs) ys = let rest = number_both such xs ys in omega (arith, rest)

-- ---- by the serial
effects_so : (n : ℕ) (effects : List HistoryEntry) → number_of (is_done n) (map done_by effects) ≡ number_of (is_of n) effects
effects_so n [] = refl
effects_so n (it ∷ rest) = ap (λ (count : ℕ). bit_of (it.serial.0 == n) + count) (effects_so n rest)

polls_so : (n : ℕ) (its : List Finished) → number_of (is_done n) (done_by_poll its) ≡ number_of (is_update n) (names_finished its)
polls_so n [] = refl
polls_so n (finished.Update serial reply ∷ rest) = ap (λ (count : ℕ). bit_of (serial.0 == n) + count) (polls_so n rest)
polls_so n (finished.Read ticket value ∷ rest) = let same = polls_so n rest in omega (arith, same)

done_more : (n : ℕ) (its : Told) (done : List UpdateDone) (serials : List ℕ) (count : ℕ) → number_of (is_done n) done ≡ number_of (λ s. s == n) serials + count
    → number_of (is_done n) (with_done its done) ≡ number_of (λ s. s == n) (done_before its serials) + count
done_more n (told.Done serial its) done serials count same = omega (arith, same)
done_more n its done serials count same = same

-- what answers told as done was done at its call, or told by a poll
done_so : (n : ℕ) (before : List Telling) → number_of (is_done n) (done_told before) ≡ number_of (λ s. s == n) (serials_done before) + number_of (is_update n) (polled before)
done_so n [] = refl
done_so n (it ∷ before) =
    done_more n it.its (done_by_poll it.finished ++ done_told before) (serials_done before) (number_of (is_update n) (names_finished it.finished ++ polled before))
    (let was = done_so n before in
    let dones = number_both (is_done n) (done_by_poll it.finished) (done_told before) in
    let names = number_both (is_update n) (names_finished it.finished) (polled before) in
    let same = polls_so n it.finished in
    omega (arith, was, dones, names, same))

with_more : (n : ℕ) (coming : Option HistoryEntry) (ones : List HistoryEntry) → number_of (is_of n) ones ≤ number_of (is_of n) (with_effect coming ones)
with_more n None ones = omega arith
with_more n (Some its) ones = omega arith

pub one_least : (n : ℕ) (effects : List HistoryEntry) (told : List Telling) (waiting : List RequestName) (hand : List Finished) (busy : Bool) → AreRepliesOfEffects effects told hand busy → IsAnsweredOnce told waiting hand n
    → number_of (is_update n) waiting ≡ 0 → 1 ≤ number_of (is_of n) effects
one_least n effects told waiting hand busy its once none =
    let replies = its.replies (is_done n) in
    let these = effects_so n its.answered in
    let all = done_so n told in
    let polls = polls_so n hand in
    let more = with_more n its.coming its.answered in
    subst (λ (x : List HistoryEntry). 1 ≤ number_of (is_of n) x) (sym its.its_effects) (omega (arith, replies, these, all, polls, once, none, more))
