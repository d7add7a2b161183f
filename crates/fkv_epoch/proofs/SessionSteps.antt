-- Steps of the machines that change a session's epoch word.
use Rattle.std.proofs.Common.{◌≡◌, ℕ, ◌<◌, ◌≤◌, ◌⊎◌, refl, arith, inl, inr, true}
use Rattle.std.specs.Prelude.{Some, None, slice_get}
use Rattle.std.proofs.lemmas.List.{set-get_or}
use Rattle.fkv_epoch.specs.declared.protecting.Protecting.{Protecting}
use Rattle.fkv_epoch.specs.declared.protecting.Protecting.TheVariants as protect
use Rattle.fkv_epoch.specs.declared.refreshing.Refreshing.{Refreshing}
use Rattle.fkv_epoch.specs.declared.refreshing.Refreshing.TheVariants as refresh
use Rattle.fkv_epoch.specs.declared.leaving.Leaving.{Leaving}
use Rattle.fkv_epoch.specs.declared.leaving.Leaving.TheVariants as leave
use Rattle.fkv_plane.specs.Asked.{word_at}
use Rattle.fkv_epoch.specs.Values.{seen}
use Rattle.fkv_epoch.specs.Protecting.{protect_ask, protect_next}
use Rattle.fkv_epoch.specs.Refreshing.{refresh_ask, refresh_next}
use Rattle.fkv_epoch.specs.Leaving.{leave_ask, leave_next}
use Rattle.fkv_epoch.specs.EpochWorld.{EpochMachine, Protects, Refreshes, Leaves, Sight, OfPhase, OfReadOnly, OfHead, EpochWorld, moved, past_moved, epoch_of, own_epoch, loaded, taken_up}
use Rattle.fkv_epoch.specs.Once.{goes_by, load_of}
use Rattle.fkv_epoch.proofs.Epochs.{Change}
use Rattle.fkv_epoch.proofs.Sound.{IsSound, loaded_here, quiet, looks, takes_none, takes_load, takes_all, taken_here, own_written, change_machine, change_load}

-- the world is sound after one ask of the actor
abbrev pub SoundAfter : EpochWorld → ℕ → EpochMachine → Type 0
SoundAfter w a d = IsSound (record { now = moved w.now a (Some d); past = past_moved w.now a w.past (Some d) })

-- another machine of the session, or another step, by which it goes no more than before
pub machine_changed : (w : EpochWorld) (a : ℕ) (d d' : EpochMachine) → IsSound w → slice_get w.now.actors a ≡ Some d
    → ((sight : Sight) → goes_by sight d' ≡ true → goes_by sight d ≡ true) → a < w.now.sessions
    → Change (epoch_of w.now.words) (own_epoch w.now.words a) (w.past.in_force a) d (own_epoch w.now.words a) (w.past.in_force a) d'
machine_changed w a d d' sound got less inside =
    change_machine (epoch_of w.now.words) (own_epoch w.now.words a) (w.past.in_force a) d d' less (sound.epochs.above_word a inside d got) (sound.epochs.words_below a inside)

-- a load of one value, which is in force at once
pub looking : (w : EpochWorld) (a : ℕ) (d d' : EpochMachine) (x : Sight) → IsSound w → slice_get w.now.actors a ≡ Some d
    → ((sight : Sight) → goes_by sight d' ≡ true → (sight ≡ x) ⊎ (goes_by sight d ≡ true)) → a < w.now.sessions
    → Change (epoch_of w.now.words) (own_epoch w.now.words a) (w.past.in_force a) d (own_epoch w.now.words a) (loaded w.past.in_force a (Some x) (epoch_of w.now.words) a) d'
looking w a d d' x sound got more inside =
    rw (loaded_here w.past.in_force a (Some x) (epoch_of w.now.words))
    (change_load (epoch_of w.now.words) (own_epoch w.now.words a) (w.past.in_force a) d d' x more (sound.epochs.above_word a inside d got) (sound.epochs.words_below a inside)
    (λ o. let f = sound.epochs.force_below a o in let l = sound.epochs.loads_below a o in omega (arith, f, l)))

pub protect_moves : (w : EpochWorld) (a : ℕ) (step : Protecting) → IsSound w → slice_get w.now.actors a ≡ Some (Protects step) → SoundAfter w a (Protects step)
unfolding protect_ask protect_next
protect_moves w a protect.AtRest sound got =
    quiet w a (Protects protect.AtRest) (Protects protect.AtRest) None sound got (inl (omega arith))
    (machine_changed w a _ (Protects protect.AtRest) sound got (λ s g. refl)) (sound.epochs.knows a (Protects protect.AtRest) got) (λ o f s. tt)
protect_moves w a protect.LoadsEpoch sound got =
    let k = sound.epochs.knows a (Protects protect.LoadsEpoch) got in
    let some = sound.epochs.safe_below in
    rw (set-get_or w.now.words 0 0)
    (quiet w a (Protects protect.LoadsEpoch) (Protects (protect.StoresEpoch (epoch_of w.now.words))) None sound got (inl (omega arith))
    (machine_changed w a (Protects protect.LoadsEpoch) (Protects (protect.StoresEpoch (epoch_of w.now.words))) sound got (λ s g. g)) (k, omega (arith, some), omega arith) (λ o f s. tt))
protect_moves w a (protect.StoresEpoch e) sound got =
    let k = sound.epochs.knows a (Protects (protect.StoresEpoch e)) got in
    own_written w a (Protects (protect.StoresEpoch e)) (Protects protect.LoadsPhase) w.past.in_force e sound got (omega arith) k.0 (takes_none w a None sound)
    (record { bounds = λ m h f. record { loaded = λ s p g. cc }; own = record { loaded = λ s p g. cc }; below = k.2 }) (k.0, k.1) (λ k'. tt)
protect_moves w a protect.LoadsPhase sound got =
    let k = sound.epochs.knows a (Protects protect.LoadsPhase) got in
    rw (set-get_or w.now.words 2 0)
    (looks w a (Protects protect.LoadsPhase) (Protects (protect.LoadsReadOnly (word_at w.now.words 2))) (Some OfPhase) (loaded w.past.in_force a (Some OfPhase) (epoch_of w.now.words)) sound got (inl (omega arith)) (takes_load w a (Some OfPhase) sound)
    (looking w a (Protects protect.LoadsPhase) (Protects (protect.LoadsReadOnly (word_at w.now.words 2))) OfPhase sound got (λ s g. first s g)) k (λ o f s. tt))
  where
    first : (s : Sight) → goes_by s (Protects (protect.LoadsReadOnly (word_at w.now.words 2))) ≡ true → (s ≡ OfPhase) ⊎ (goes_by s (Protects protect.LoadsPhase) ≡ true)
    first OfPhase g = inl refl
    first OfReadOnly g = cc
    first OfHead g = cc
protect_moves w a (protect.LoadsReadOnly p) sound got =
    let k = sound.epochs.knows a (Protects (protect.LoadsReadOnly p)) got in
    rw (set-get_or w.now.words 5 0)
    (looks w a (Protects (protect.LoadsReadOnly p)) (Protects (protect.LoadsHead p (word_at w.now.words 5))) (Some OfReadOnly) (loaded w.past.in_force a (Some OfReadOnly) (epoch_of w.now.words)) sound got (inl (omega arith)) (takes_load w a (Some OfReadOnly) sound)
    (looking w a (Protects (protect.LoadsReadOnly p)) (Protects (protect.LoadsHead p (word_at w.now.words 5))) OfReadOnly sound got (λ s g. second s g)) k (λ o f s. tt))
  where
    second : (s : Sight) → goes_by s (Protects (protect.LoadsHead p (word_at w.now.words 5))) ≡ true → (s ≡ OfReadOnly) ⊎ (goes_by s (Protects (protect.LoadsReadOnly p)) ≡ true)
    second OfPhase g = inr refl
    second OfReadOnly g = inl refl
    second OfHead g = cc
protect_moves w a (protect.LoadsHead p r) sound got =
    let k = sound.epochs.knows a (Protects (protect.LoadsHead p r)) got in
    rw (set-get_or w.now.words 8 0)
    (looks w a (Protects (protect.LoadsHead p r)) (Protects protect.AtRest) (Some OfHead) (loaded w.past.in_force a (Some OfHead) (epoch_of w.now.words)) sound got (inl (omega arith)) (takes_load w a (Some OfHead) sound)
    (looking w a (Protects (protect.LoadsHead p r)) (Protects protect.AtRest) OfHead sound got (λ s g. third s)) (λ i. k.1) (λ o f s. tt))
  where
    third : (s : Sight) → (s ≡ OfHead) ⊎ (goes_by s (Protects (protect.LoadsHead p r)) ≡ true)
    third OfPhase = inr refl
    third OfReadOnly = inr refl
    third OfHead = inl refl

pub leave_moves : (w : EpochWorld) (a : ℕ) (step : Leaving) → IsSound w → slice_get w.now.actors a ≡ Some (Leaves step) → SoundAfter w a (Leaves step)
unfolding leave_ask leave_next
leave_moves w a leave.AtRest sound got =
    quiet w a (Leaves leave.AtRest) (Leaves leave.AtRest) None sound got (inl (omega arith))
    (machine_changed w a (Leaves leave.AtRest) (Leaves leave.AtRest) sound got (λ s g. refl)) tt (λ o f s. tt)
leave_moves w a leave.StoresZero sound got =
    let k = sound.epochs.knows a (Leaves leave.StoresZero) got in
    own_written w a (Leaves leave.StoresZero) (Leaves leave.AtRest) w.past.in_force 0 sound got (omega arith) k (takes_none w a None sound)
    (record { bounds = λ m h f. record { loaded = λ s p g. absurd (omega (arith, p)) }; own = record { loaded = λ s p g. absurd (omega (arith, p)) }; below = omega arith }) tt (λ k'. tt)

pub refresh_moves : (w : EpochWorld) (a : ℕ) (step : Refreshing) → IsSound w → slice_get w.now.actors a ≡ Some (Refreshes step) → SoundAfter w a (Refreshes step)
unfolding refresh_ask refresh_next
refresh_moves w a refresh.AtRest sound got =
    quiet w a (Refreshes refresh.AtRest) (Refreshes refresh.AtRest) None sound got (inl (omega arith))
    (machine_changed w a (Refreshes refresh.AtRest) (Refreshes refresh.AtRest) sound got (λ s g. refl)) (sound.epochs.knows a (Refreshes refresh.AtRest) got) (λ o f s. tt)
refresh_moves w a refresh.LoadsEpoch sound got =
    let k = sound.epochs.knows a (Refreshes refresh.LoadsEpoch) got in
    let some = sound.epochs.safe_below in
    rw (set-get_or w.now.words 0 0)
    (quiet w a (Refreshes refresh.LoadsEpoch) (Refreshes (refresh.LoadsPhase (epoch_of w.now.words))) None sound got (inl (omega arith))
    (machine_changed w a (Refreshes refresh.LoadsEpoch) (Refreshes (refresh.LoadsPhase (epoch_of w.now.words))) sound got (λ s g. refl)) (k.0, k.1, omega (arith, some), omega arith) (λ o f s. tt))
refresh_moves w a (refresh.LoadsPhase e) sound got =
    let k = sound.epochs.knows a (Refreshes (refresh.LoadsPhase e)) got in
    rw (set-get_or w.now.words 2 0)
    (quiet w a (Refreshes (refresh.LoadsPhase e)) (Refreshes (refresh.LoadsReadOnly e (word_at w.now.words 2))) (Some OfPhase) sound got (inl (omega arith))
    (machine_changed w a (Refreshes (refresh.LoadsPhase e)) (Refreshes (refresh.LoadsReadOnly e (word_at w.now.words 2))) sound got (λ s g. refl)) (k.0, k.1, k.2, k.3, k.3) (λ o f s. tt))
refresh_moves w a (refresh.LoadsReadOnly e p) sound got =
    let k = sound.epochs.knows a (Refreshes (refresh.LoadsReadOnly e p)) got in
    rw (set-get_or w.now.words 5 0)
    (quiet w a (Refreshes (refresh.LoadsReadOnly e p)) (Refreshes (refresh.LoadsHead e p (word_at w.now.words 5))) (Some OfReadOnly) sound got (inl (omega arith))
    (machine_changed w a (Refreshes (refresh.LoadsReadOnly e p)) (Refreshes (refresh.LoadsHead e p (word_at w.now.words 5))) sound got (λ s g. refl)) (k.0, k.1, k.2, k.3, k.4, k.3) (λ o f s. tt))
refresh_moves w a (refresh.LoadsHead e p r) sound got =
    let k = sound.epochs.knows a (Refreshes (refresh.LoadsHead e p r)) got in
    rw (set-get_or w.now.words 8 0)
    (quiet w a (Refreshes (refresh.LoadsHead e p r)) (Refreshes (refresh.HasLoaded e (seen p r (word_at w.now.words 8)))) (Some OfHead) sound got (inl (omega arith))
    (machine_changed w a (Refreshes (refresh.LoadsHead e p r)) (Refreshes (refresh.HasLoaded e (seen p r (word_at w.now.words 8)))) sound got (λ s g. refl)) (k.0, k.1, k.2, k.3, k.4, k.5, k.3) (λ o f s. tt))
refresh_moves w a (refresh.HasLoaded e v) sound got =
    let k = sound.epochs.knows a (Refreshes (refresh.HasLoaded e v)) got in
    quiet w a (Refreshes (refresh.HasLoaded e v)) (Refreshes (refresh.HasLoaded e v)) None sound got (inl (omega arith))
    (machine_changed w a (Refreshes (refresh.HasLoaded e v)) (Refreshes (refresh.HasLoaded e v)) sound got (λ s g. refl)) k (λ o f s. tt)
refresh_moves w a (refresh.StoresEpoch e) sound got =
    let k = sound.epochs.knows a (Refreshes (refresh.StoresEpoch e)) got in
    own_written w a (Refreshes (refresh.StoresEpoch e)) (Refreshes refresh.AtRest) (taken_up w.past a) e sound got (omega arith) k.0 (takes_all w a)
    (rw (taken_here w.past a) (record {
      bounds = λ m h f. record { loaded = λ s p g. let old = f.loaded s k.1 refl in let up = sound.epochs.force_below a s in omega (arith, old, up) };
      own = record { loaded = λ s p g. own_load s };
      below = k.3;
    })) (λ i. k.2) (λ k'. tt)
  where
    own_load : (s : Sight) → e ≤ load_of (w.past.loads a) s
    own_load OfPhase = (sound.epochs.knows a (Refreshes (refresh.StoresEpoch e)) got).4
    own_load OfReadOnly = (sound.epochs.knows a (Refreshes (refresh.StoresEpoch e)) got).5
    own_load OfHead = (sound.epochs.knows a (Refreshes (refresh.StoresEpoch e)) got).6
