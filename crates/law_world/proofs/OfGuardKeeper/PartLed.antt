-- Where a step for a commit leads, with what is settled behind it.
use Rattle.std.proofs.Common.{◌≡◌, ℕ, List, [], ◌∷◌, suc, zero, refl, ap, sym, subst, true, false}
use Rattle.std.specs.Prelude.{Option, Some, None, slice_get, slice_set}
use Rattle.fkv_plane.specs.declared.actions.Action.{Action}
use Rattle.fkv_plane.specs.declared.asks.Ask.{Ask}
use Rattle.fkv_plane.specs.declared.asks.Ask.TheVariants.{Load, Store, Swap, Cas, Add, Max, Put, Take, Done}
use Rattle.fkv_plane.specs.Asked.{reply_to, words_after}
use Rattle.fkv_plane.specs.Passing.{passed}
use Rattle.fkv_epoch.specs.declared.raising.Raising.TheVariants as raise
use Rattle.fkv_epoch.specs.EpochWorld.{EpochMachine, Raises, ToRaise, is_at_rest, resumed_machine}
use Rattle.fkv_flush.specs.GuardSeen.{LastSeen}
use Rattle.fkv_flush.specs.GuardWorld.{Actor, Rests, GuardNow, GuardEvent, Begins, Resumes, ToDo, near, put_near, is_idle}
use Rattle.fkv_flush.proofs.Shown.{runs_now, put_there, goes_on, resumes, Follows}
use Rattle.law_world.specs.GuardKeeper.Settled.{settled, actions_settled, is_of_slot, takes_none}
use Rattle.law_world.specs.GuardKeeper.Followed.{likeness}
use Rattle.law_world.proofs.OfGuardKeeper.Led.{then_begins}
use Rattle.law_world.proofs.OfGuardKeeper.Slots.{settled_stays, actions_stay}

-- the actor is like a machine that has come to this state, and this is known of it
pub record PartLed {S : Type 0} (n : GuardNow) (a : ℕ) (events : List GuardEvent) (seen : LastSeen) (machine : S → Option EpochMachine) (Knows : S → Type 0) (its : S) (words : List ℕ) (actions : List (Option Action)) : Type 0 where
  pub follows : Follows n a events (likeness seen (machine its) None) words actions
  pub knows : Knows its

pub slotless_part : {S A : Type 0} (n : GuardNow) (a : ℕ) (events : List GuardEvent) (seen : LastSeen) (machine : S → Option EpochMachine) (Knows : S → Type 0) (next : S → ℕ → S) (there : S) (words : List ℕ) (ask : Ask A) → is_of_slot ask ≡ false
    → PartLed n a events seen machine Knows there words n.actions
    → PartLed n a events seen machine Knows (settled next takes_none n.actions there ask) words (actions_settled n.actions ask)
slotless_part {S = S} n a events seen machine Knows next there words ask e led =
    subst (λ (its : S). PartLed n a events seen machine Knows its words (actions_settled n.actions ask)) (sym (settled_stays next takes_none n.actions there ask e))
    (subst (λ (actions : List (Option Action)). PartLed n a events seen machine Knows there words actions) (sym (actions_stay n.actions ask e)) led)

-- a passed ask does to the words what the ask inside does, and is replied the same
pub passed_step : {A B : Type 0} (P : ℕ → List ℕ → Type 0) (words : List ℕ) (ask : Ask A) (answer : B) → P (reply_to words ask) (words_after words ask) → P (reply_to words (passed ask answer)) (words_after words (passed ask answer))
unfolding passed
passed_step P words (Load place) answer p = p
passed_step P words (Store place new) answer p = p
passed_step P words (Swap place new) answer p = p
passed_step P words (Cas place old new) answer p = p
passed_step P words (Add place k) answer p = p
passed_step P words (Max place k) answer p = p
passed_step P words (Put slot action) answer p = p
passed_step P words (Take slot) answer p = p
passed_step P words (Done inner) answer p = p

set_same : {X : Type 0} (xs : List X) (i : ℕ) (x : X) → slice_get xs i ≡ Some x → slice_set xs i x ≡ xs
set_same [] i x got = refl
set_same (y ∷ rest) zero x got = let same : y ≡ x = cc in rw same refl
set_same (y ∷ rest) (suc i) x got = ap (λ ys. y ∷ ys) (set_same rest i x got)

-- with no event all stays as it is
pub stays : (n : GuardNow) (a : ℕ) (x : Actor) → slice_get n.actors a ≡ Some x → runs_now n [] ≡ put_near n a (near n.words n.actions x)
stays n a x got = ap (λ (actors : List Actor). record n { actors = actors }) (sym (set_same n.actors a x got))

-- the actor goes on once what its machine waits for is done
pub then_resumes : (n : GuardNow) (a : ℕ) (x y : Actor) (before : List GuardEvent) (words : List ℕ) (actions : List (Option Action)) → slice_get n.actors a ≡ Some x
    → runs_now n before ≡ put_near n a (near words actions y) → is_idle y.work ≡ true
    → runs_now n (Resumes a ∷ before) ≡ put_near n a (near words actions (record y { machine = resumed_machine y.machine }))
then_resumes n a x y before words actions got led idle =
    let m : GuardNow = put_near n a (near words actions y) in
    goes_on n a (Resumes a) before (near words actions y) (near words actions (record y { machine = resumed_machine y.machine })) led
    (resumes m a y (put_there n a x (near words actions y) got) idle)

-- it begins to seek a slot
pub raise_begins : (n : GuardNow) (a : ℕ) (x : Actor) → slice_get n.actors a ≡ Some x → is_at_rest x.machine ≡ true → is_idle x.work ≡ true
    → runs_now n (Begins a (ToDo ToRaise) ∷ []) ≡ put_near n a (near n.words n.actions (record x { machine = Raises raise.LoadsEpoch; work = Rests }))
raise_begins n a x got rests idle = then_begins n a x x [] n.words n.actions (ToDo ToRaise) got (stays n a x got) rests idle refl
