-- What holds at every moment, and how a step of one actor keeps it.
use Rattle.std.proofs.Common.{◌≡◌, ◌≢◌, ℕ, ◌+◌, ◌*◌, ◌^◌, ◌<◌, ◌≤◌, ◌⊎◌, List, length, refl, arith, ap, inl, inr, true}
use Rattle.fkv_base.specs.Limits.{max_sessions, drain_slots}
use Rattle.std.specs.Prelude.{Option, Some, None, slice_get, slice_set, sum_by, All}
use Rattle.std.proofs.lemmas.List.Sums.{sum_by-set, sum_by-le}
use Rattle.std.proofs.lemmas.Option.{get_or_from_slice_get}
use Rattle.std.proofs.lemmas.List.{length-set}
use Rattle.std.proofs.lemmas.Bool.Decides.{nat_tests}
use Rattle.fkv_plane.specs.declared.actions.Action.{Action}
use Rattle.fkv_plane.specs.Plane.{action_at}
use Rattle.fkv_epoch.specs.declared.raising.Raising.TheVariants as raise
use Rattle.fkv_epoch.specs.EpochWorld.{EpochMachine, Protects, Refreshes, Leaves, Scans, Claims, Raises, HasRaised, Arms, Sight, OfPhase, OfReadOnly, OfHead, Loads, Armed, Claimed, Ran, EpochNow, EpochPast, EpochWorld, epoch_of, safe_of, own_epoch, drain_word, loaded, with_load, taken_up}
use Rattle.fkv_epoch.specs.Once.{goes_by, load_of, RunsOnce}
use Rattle.fkv_plane.specs.declared.places.SessionWord.TheVariants as own
use Rattle.fkv_plane.specs.Places.{session_place, drain_place}
use Rattle.fkv_epoch.proofs.Items.{item_within, word_written, word_spared}
use Rattle.fkv_epoch.proofs.Epochs.{IsFrom, AreFrom, Knows, Epochs, Change, stepped}
use Rattle.fkv_epoch.proofs.Slots.{Fate, SlotTable, Holds, Slots, still}

-- an actor that has seen that the epoch may be raised, and has not raised it yet
abbrev pub weight : EpochMachine → ℕ
weight (Raises (raise.MeetsSlot slot)) = 1
weight (Raises (raise.HoldsSlot slot)) = 1
weight (Raises (raise.HasSlot slot)) = 1
weight (Raises (raise.RaisesEpoch slot)) = 1
weight machine = 0

light : (machine : EpochMachine) → weight machine ≤ 1
light (Raises raise.AtRest) = omega arith
light (Raises raise.LoadsEpoch) = omega arith
light (Raises (raise.MeetsSlot slot)) = omega arith
light (Raises (raise.HoldsSlot slot)) = omega arith
light (Raises (raise.HasSlot slot)) = omega arith
light (Raises (raise.RaisesEpoch slot)) = omega arith
light (Protects x) = omega arith
light (Refreshes x) = omega arith
light (Leaves x) = omega arith
light (Scans x) = omega arith
light (Claims x) = omega arith
light (HasRaised x y) = omega arith
light (Arms x) = omega arith

all_light : (actors : List EpochMachine) → All (λ x. weight x ≤ 1) actors
all_light actors = λ k d h. light _

-- what the slots' part of a world is
abbrev pub slot_table : EpochNow → EpochPast → (ℕ → Option ℕ) → (ℕ → Fate) → SlotTable
slot_table n past owners fates = record {
  epoch = epoch_of n.words;
  safe = safe_of n.words;
  drains = drain_word n.words;
  homes = action_at n.actions;
  owners = owners;
  fates = fates;
  armed = past.armed;
  claims = past.claims;
  runs = past.runs;
}

pub record IsSound (w : EpochWorld) : Type 0 where
  pub few_sessions : w.now.sessions ≤ max_sessions
  pub enough_words : 24 + 16 * w.now.sessions ≤ length w.now.words
  pub eight_slots : length w.now.actions ≡ drain_slots
  pub few_actors : length w.now.actors ≤ 2 ^ 48
  pub bounded : epoch_of w.now.words + sum_by weight w.now.actors < 2 ^ 48 + length w.now.actors
  pub epochs : Epochs w.now.sessions (epoch_of w.now.words) (safe_of w.now.words) (own_epoch w.now.words) w.past.loads w.past.in_force w.now.actors
  pub owners : ℕ → Option ℕ
  pub fates : ℕ → Fate
  pub slots : Slots (slot_table w.now w.past owners fates) w.now.actors
  pub once : RunsOnce w.past.armed w.past.claims w.past.runs

-- the epoch stays bounded: it rises at one actor's cost, or is below its last
pub bounded_step : (E E' : ℕ) (actors : List EpochMachine) (a : ℕ) (d d' : EpochMachine) → slice_get actors a ≡ Some d
    → E + sum_by weight actors < 2 ^ 48 + length actors
    → (E' + weight d' ≤ E + weight d) ⊎ (E' + 1 < 2 ^ 48)
    → E' + sum_by weight (slice_set actors a d') < 2 ^ 48 + length (slice_set actors a d')
bounded_step E E' actors a d d' got old step =
    let inside = item_within actors a d got in
    let swap = sum_by-set weight actors a d' d inside in
    let at_a = ap weight (get_or_from_slice_get actors a d d got) in
    let same : length (slice_set actors a d') ≡ length actors = length-set actors a d' in
    let most = sum_by-le weight 1 (slice_set actors a d') (all_light (slice_set actors a d')) in
    elim step [ inl h ↦ omega arith | inr h ↦ omega arith ]

pub loaded_here : (loads : ℕ → Loads) (a : ℕ) (x : Option Sight) (epoch : ℕ) → loaded loads a x epoch a ≡ with_load (loads a) x epoch
loaded_here loads a x epoch = grind (arith, nat_tests)

pub loaded_there : (loads : ℕ → Loads) (a : ℕ) (x : Option Sight) (epoch s : ℕ) → s ≢ a → loaded loads a x epoch s ≡ loads s
loaded_there loads a x epoch s n = grind (arith, nat_tests)

-- a load is at an epoch up to now
load_below : (l : Loads) (x : Option Sight) (epoch : ℕ) → ((sight : Sight) → load_of l sight ≤ epoch) → (sight : Sight) → load_of (with_load l x epoch) sight ≤ epoch
load_below l None epoch h sight = h sight
load_below l (Some OfPhase) epoch h OfPhase = omega arith
load_below l (Some OfPhase) epoch h OfReadOnly = h OfReadOnly
load_below l (Some OfPhase) epoch h OfHead = h OfHead
load_below l (Some OfReadOnly) epoch h OfPhase = h OfPhase
load_below l (Some OfReadOnly) epoch h OfReadOnly = omega arith
load_below l (Some OfReadOnly) epoch h OfHead = h OfHead
load_below l (Some OfHead) epoch h OfPhase = h OfPhase
load_below l (Some OfHead) epoch h OfReadOnly = h OfReadOnly
load_below l (Some OfHead) epoch h OfHead = omega arith

pub load_up : (l : Loads) (x : Sight) (epoch : ℕ) → ((sight : Sight) → load_of l sight ≤ epoch) → (sight : Sight) → load_of l sight ≤ load_of (with_load l (Some x) epoch) sight
load_up l OfPhase epoch h OfPhase = h OfPhase
load_up l OfPhase epoch h OfReadOnly = omega arith
load_up l OfPhase epoch h OfHead = omega arith
load_up l OfReadOnly epoch h OfPhase = omega arith
load_up l OfReadOnly epoch h OfReadOnly = h OfReadOnly
load_up l OfReadOnly epoch h OfHead = omega arith
load_up l OfHead epoch h OfPhase = omega arith
load_up l OfHead epoch h OfReadOnly = omega arith
load_up l OfHead epoch h OfHead = h OfHead

load_grows : (l : Loads) (x : Option Sight) (epoch : ℕ) → ((sight : Sight) → load_of l sight ≤ epoch) → (sight : Sight) → load_of l sight ≤ load_of (with_load l x epoch) sight
load_grows l None epoch h sight = omega arith
load_grows l (Some x) epoch h sight = load_up l x epoch h sight

-- what a step of the actor a, with this load, makes of the loads in force: those of others stay, and none is later than the last
pub record Takes (epoch : ℕ) (loads force force' : ℕ → Loads) (a : ℕ) (x : Option Sight) : Type 0 where
  pub others : (s : ℕ) → s ≢ a → force' s ≡ force s
  pub below : (sight : Sight) → load_of (force' a) sight ≤ load_of (with_load (loads a) x epoch) sight

-- they stay
pub takes_none : (w : EpochWorld) (a : ℕ) (x : Option Sight) → IsSound w → Takes (epoch_of w.now.words) w.past.loads w.past.in_force w.past.in_force a x
takes_none w a x sound = record {
  others = λ s n. refl;
  below = λ sight. let h = sound.epochs.force_below a sight in let up = load_grows (w.past.loads a) x (epoch_of w.now.words) (λ o. sound.epochs.loads_below a o) sight in omega (arith, h, up);
}

both_load : (l f : Loads) (x : Option Sight) (epoch : ℕ) → ((sight : Sight) → load_of f sight ≤ load_of l sight) → (sight : Sight) → load_of (with_load f x epoch) sight ≤ load_of (with_load l x epoch) sight
both_load l f None epoch h sight = h sight
both_load l f (Some OfPhase) epoch h OfPhase = omega arith
both_load l f (Some OfPhase) epoch h OfReadOnly = h OfReadOnly
both_load l f (Some OfPhase) epoch h OfHead = h OfHead
both_load l f (Some OfReadOnly) epoch h OfPhase = h OfPhase
both_load l f (Some OfReadOnly) epoch h OfReadOnly = omega arith
both_load l f (Some OfReadOnly) epoch h OfHead = h OfHead
both_load l f (Some OfHead) epoch h OfPhase = h OfPhase
both_load l f (Some OfHead) epoch h OfReadOnly = h OfReadOnly
both_load l f (Some OfHead) epoch h OfHead = omega arith

-- the load is in force at once
pub takes_load : (w : EpochWorld) (a : ℕ) (x : Option Sight) → IsSound w → Takes (epoch_of w.now.words) w.past.loads w.past.in_force (loaded w.past.in_force a x (epoch_of w.now.words)) a x
takes_load w a x sound = record {
  others = λ s n. loaded_there w.past.in_force a x (epoch_of w.now.words) s n;
  below = λ sight. rw (loaded_here w.past.in_force a x (epoch_of w.now.words)) (both_load (w.past.loads a) (w.past.in_force a) x (epoch_of w.now.words) (λ o. sound.epochs.force_below a o) sight);
}

pub taken_here : (past : EpochPast) (a : ℕ) → taken_up past a a ≡ past.loads a
taken_here past a = grind (arith, nat_tests)

-- all that is loaded comes into force
pub takes_all : (w : EpochWorld) (a : ℕ) → Takes (epoch_of w.now.words) w.past.loads w.past.in_force (taken_up w.past a) a None
takes_all w a = record {
  others = λ s n. grind (arith, nat_tests);
  below = λ sight. rw (taken_here w.past a) (omega arith);
}

-- the epochs' part of a step of the actor a
pub epochs_step : (S E E' safe safe' : ℕ) (W W' : ℕ → ℕ) (L F F' : ℕ → Loads) (actors : List EpochMachine) (a : ℕ) (d d' : EpochMachine) (x : Option Sight)
    → Epochs S E safe W L F actors → slice_get actors a ≡ Some d
    → E ≤ E' → safe' + 1 ≤ E → AreFrom W F actors (safe' + 1) S
    → ((s : ℕ) → s < S → s ≢ a → W' s ≡ W s) → Takes E L F F' a x
    → (a < S → Change E (W a) (F a) d (W' a) (F' a) d')
    → Knows S E (W' a) (with_load (L a) x E) (AreFrom W F actors) a d'
    → Epochs S E' safe' W' (loaded L a x E) F' (slice_set actors a d')
epochs_step S E E' safe safe' W W' L F F' actors a d d' x old got up safe_up above sw takes change knows =
    let here = loaded_here L a x E in
    stepped S E E' safe safe' W W' L (loaded L a x E) F F' actors a d d' old got up safe_up above sw
    (λ s n. loaded_there L a x E s n) takes.others change
    (λ sight. rw here (let h = load_below (L a) x E (λ o. old.loads_below a o) sight in omega (arith, h, up)))
    (λ sight. rw here (takes.below sight))
    (rw here knows)

-- a step that writes no word and moves no action
pub looks : (w : EpochWorld) (a : ℕ) (d d' : EpochMachine) (x : Option Sight) (force' : ℕ → Loads) → IsSound w → slice_get w.now.actors a ≡ Some d
    → (weight d' ≤ weight d) ⊎ (epoch_of w.now.words + 1 < 2 ^ 48)
    → Takes (epoch_of w.now.words) w.past.loads w.past.in_force force' a x
    → (a < w.now.sessions → Change (epoch_of w.now.words) (own_epoch w.now.words a) (w.past.in_force a) d (own_epoch w.now.words a) (force' a) d')
    → Knows w.now.sessions (epoch_of w.now.words) (own_epoch w.now.words a) (with_load (w.past.loads a) x (epoch_of w.now.words)) (AreFrom (own_epoch w.now.words) w.past.in_force w.now.actors) a d'
    → ((owners : ℕ → Option ℕ) (fates : ℕ → Fate) → Slots (slot_table w.now w.past owners fates) w.now.actors → Holds (slot_table w.now w.past owners fates) a d')
    → IsSound (record { now = record w.now { actors = slice_set w.now.actors a d' }; past = record w.past { loads = loaded w.past.loads a x (epoch_of w.now.words); in_force = force' } })
looks w a d d' x force' sound got lighter takes change knows holds =
    record {
      few_sessions = sound.few_sessions;
      enough_words = sound.enough_words;
      eight_slots = sound.eight_slots;
      few_actors = let same : length (slice_set w.now.actors a d') ≡ length w.now.actors = length-set w.now.actors a d' in omega (arith, same, sound.few_actors);
      bounded = bounded_step (epoch_of w.now.words) (epoch_of w.now.words) w.now.actors a d d' got sound.bounded (elim lighter [ inl h ↦ inl (omega arith) | inr h ↦ inr h ]);
      epochs = epochs_step w.now.sessions (epoch_of w.now.words) (epoch_of w.now.words) (safe_of w.now.words) (safe_of w.now.words) (own_epoch w.now.words) (own_epoch w.now.words) w.past.loads w.past.in_force force' w.now.actors a d d' x
          sound.epochs got (omega arith) sound.epochs.safe_below sound.epochs.above_safe (λ s i n. refl) takes change knows;
      owners = sound.owners;
      fates = sound.fates;
      slots = still (slot_table w.now w.past sound.owners sound.fates) (epoch_of w.now.words) (safe_of w.now.words) (drain_word w.now.words) w.now.actors a d d' sound.slots got (omega arith) (omega arith) (λ s f. refl) (holds sound.owners sound.fates sound.slots);
      once = sound.once;
    }

-- and after which the actor goes by what it went by before
pub quiet : (w : EpochWorld) (a : ℕ) (d d' : EpochMachine) (x : Option Sight) → IsSound w → slice_get w.now.actors a ≡ Some d
    → (weight d' ≤ weight d) ⊎ (epoch_of w.now.words + 1 < 2 ^ 48)
    → (a < w.now.sessions → Change (epoch_of w.now.words) (own_epoch w.now.words a) (w.past.in_force a) d (own_epoch w.now.words a) (w.past.in_force a) d')
    → Knows w.now.sessions (epoch_of w.now.words) (own_epoch w.now.words a) (with_load (w.past.loads a) x (epoch_of w.now.words)) (AreFrom (own_epoch w.now.words) w.past.in_force w.now.actors) a d'
    → ((owners : ℕ → Option ℕ) (fates : ℕ → Fate) → Slots (slot_table w.now w.past owners fates) w.now.actors → Holds (slot_table w.now w.past owners fates) a d')
    → IsSound (record { now = record w.now { actors = slice_set w.now.actors a d' }; past = record w.past { loads = loaded w.past.loads a x (epoch_of w.now.words) } })
quiet w a d d' x sound got lighter change knows holds = looks w a d d' x w.past.in_force sound got lighter (takes_none w a x sound) change knows holds

-- any step of the actor a, from what its parts keep
pub assembled : (w : EpochWorld) (a : ℕ) (d d' : EpochMachine) (x : Option Sight) (force' : ℕ → Loads) (words' : List ℕ) (actions' : List (Option Action)) (armed' : List Armed) (claims' : List Claimed) (runs' : List Ran) (owners' : ℕ → Option ℕ) (fates' : ℕ → Fate)
    → IsSound w → slice_get w.now.actors a ≡ Some d → length words' ≡ length w.now.words → length actions' ≡ drain_slots
    → (epoch_of words' + weight d' ≤ epoch_of w.now.words + weight d) ⊎ (epoch_of words' + 1 < 2 ^ 48)
    → (let n' : EpochNow = record w.now { words = words'; actions = actions'; actors = slice_set w.now.actors a d' } in
    let past' : EpochPast = record { loads = loaded w.past.loads a x (epoch_of w.now.words); in_force = force'; armed = armed'; claims = claims'; runs = runs' } in
    Epochs w.now.sessions (epoch_of words') (safe_of words') (own_epoch words') past'.loads past'.in_force n'.actors
    → Slots (slot_table n' past' owners' fates') n'.actors → RunsOnce armed' claims' runs' → IsSound (record { now = n'; past = past' }))
assembled w a d d' x force' words' actions' armed' claims' runs' owners' fates' sound got same_words same_actions lighter epochs slots once =
    record {
      few_sessions = sound.few_sessions;
      enough_words = omega (arith, same_words, sound.enough_words);
      eight_slots = same_actions;
      few_actors = let same : length (slice_set w.now.actors a d') ≡ length w.now.actors = length-set w.now.actors a d' in omega (arith, same, sound.few_actors);
      bounded = bounded_step (epoch_of w.now.words) (epoch_of words') w.now.actors a d d' got sound.bounded lighter;
      epochs = epochs;
      owners = owners';
      fates = fates';
      slots = slots;
      once = once;
    }

-- a step that writes a word which is neither epoch
pub epochs_written : (w : EpochWorld) (a : ℕ) (d d' : EpochMachine) (force' : ℕ → Loads) (place word : ℕ) → IsSound w → slice_get w.now.actors a ≡ Some d
    → 2 ≤ place → ((s : ℕ) → s < w.now.sessions → s ≢ a → session_place s own.Epoch ≢ place)
    → Takes (epoch_of w.now.words) w.past.loads w.past.in_force force' a None
    → (let words' : List ℕ = slice_set w.now.words place word in
    (a < w.now.sessions → Change (epoch_of w.now.words) (own_epoch w.now.words a) (w.past.in_force a) d (own_epoch words' a) (force' a) d')
    → Knows w.now.sessions (epoch_of w.now.words) (own_epoch words' a) (w.past.loads a) (AreFrom (own_epoch w.now.words) w.past.in_force w.now.actors) a d'
    → Epochs w.now.sessions (epoch_of words') (safe_of words') (own_epoch words') (loaded w.past.loads a None (epoch_of w.now.words)) force' (slice_set w.now.actors a d'))
epochs_written w a d d' force' place word sound got far others takes change knows =
    let words' : List ℕ = slice_set w.now.words place word in
    let same_epoch : epoch_of words' ≡ epoch_of w.now.words = word_spared w.now.words place word 0 (λ e. omega (arith, e, far)) in
    let same_safe : safe_of words' ≡ safe_of w.now.words = word_spared w.now.words place word 1 (λ e. omega (arith, e, far)) in
    epochs_step w.now.sessions (epoch_of w.now.words) (epoch_of words') (safe_of w.now.words) (safe_of words') (own_epoch w.now.words) (own_epoch words') w.past.loads w.past.in_force force' w.now.actors a d d' None
    sound.epochs got (omega arith) (omega (arith, same_safe, sound.epochs.safe_below)) (rw same_safe sound.epochs.above_safe)
    (λ s i n. word_spared w.now.words place word (session_place s own.Epoch) (others s i n)) takes change knows

-- a step that writes the epoch word of a session
pub own_written : (w : EpochWorld) (a : ℕ) (d d' : EpochMachine) (force' : ℕ → Loads) (word : ℕ) → IsSound w → slice_get w.now.actors a ≡ Some d
    → weight d' ≤ weight d → a < w.now.sessions
    → Takes (epoch_of w.now.words) w.past.loads w.past.in_force force' a None
    → Change (epoch_of w.now.words) (own_epoch w.now.words a) (w.past.in_force a) d word (force' a) d'
    → Knows w.now.sessions (epoch_of w.now.words) word (w.past.loads a) (AreFrom (own_epoch w.now.words) w.past.in_force w.now.actors) a d'
    → ((k : SlotTable) → Holds k a d')
    → IsSound (record { now = record w.now { words = slice_set w.now.words (session_place a own.Epoch) word; actors = slice_set w.now.actors a d' }; past = record w.past { loads = loaded w.past.loads a None (epoch_of w.now.words); in_force = force' } })
own_written w a d d' force' word sound got lighter inside takes change knows holds =
    let place : ℕ = session_place a own.Epoch in
    let words' : List ℕ = slice_set w.now.words place word in
    let now_own : own_epoch words' a ≡ word = word_written w.now.words place word (omega (arith, inside, sound.enough_words)) in
    let same_epoch : epoch_of words' ≡ epoch_of w.now.words = word_spared w.now.words place word 0 (λ e. omega (arith, e)) in
    let same_safe : safe_of words' ≡ safe_of w.now.words = word_spared w.now.words place word 1 (λ e. omega (arith, e)) in
    let k : SlotTable = slot_table w.now w.past sound.owners sound.fates in
    let k' : SlotTable = record k { epoch = epoch_of words'; safe = safe_of words'; drains = drain_word words' } in
    assembled w a d d' None force' words' w.now.actions w.past.armed w.past.claims w.past.runs sound.owners sound.fates sound got
    (length-set w.now.words place word) sound.eight_slots (inl (omega arith))
    (epochs_written w a d d' force' place word sound got (omega arith) (λ s i n e. n (omega (arith, e))) takes (λ i. rw now_own change) (rw now_own knows))
    (still (slot_table w.now w.past sound.owners sound.fates) (epoch_of words') (safe_of words') (drain_word words') w.now.actors a d d' sound.slots got
    (omega arith) (omega arith) (λ s f. word_spared w.now.words place word (drain_place s) (λ e. omega (arith, e, f))) (holds k'))
    sound.once

-- a session with another machine goes by no more than before
pub change_machine : (E word : ℕ) (l : Loads) (d d' : EpochMachine) → ((sight : Sight) → goes_by sight d' ≡ true → goes_by sight d ≡ true)
    → IsFrom word word l d → word ≤ E → Change E word l d word l d'
change_machine E word l d d' less own below = record {
  bounds = λ m h f. record { loaded = λ sight p g. f.loaded sight p (less sight g) };
  own = record { loaded = λ sight p g. own.loaded sight p (less sight g) };
  below = below;
}

load_now : (l : Loads) (x : Sight) (epoch : ℕ) → load_of (with_load l (Some x) epoch) x ≡ epoch
load_now l OfPhase epoch = refl
load_now l OfReadOnly epoch = refl
load_now l OfHead epoch = refl

-- a session that has loaded one value
pub change_load : (E word : ℕ) (l : Loads) (d d' : EpochMachine) (x : Sight) → ((sight : Sight) → goes_by sight d' ≡ true → (sight ≡ x) ⊎ (goes_by sight d ≡ true))
    → IsFrom word word l d → word ≤ E → ((sight : Sight) → load_of l sight ≤ E) → Change E word l d word (with_load l (Some x) E) d'
change_load E word l d d' x more own below loads =
    let bound : (m : ℕ) → m ≤ E → IsFrom m word l d → IsFrom m word (with_load l (Some x) E) d' = λ m h f. record {
      loaded = λ sight p g. elim (more sight g) [
        | inl e ↦ rw e (let now = load_now l x E in omega (arith, now, h))
        | inr g' ↦ let up = load_up l x E loads sight in let old = f.loaded sight p g' in omega (arith, up, old)
      ];
    } in
    record { bounds = bound; own = bound word below own; below = below }
