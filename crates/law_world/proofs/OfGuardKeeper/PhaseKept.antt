-- The load of the phase, and what it calls for.
use Rattle.std.proofs.Common.{◌≡◌, ℕ, List, [], ◌∷◌, ◌⊎◌, inl, inr, refl, ap, sym, subst, ◌∙◌, Bool, true, false}
use Rattle.std.specs.Prelude.{Option, Some, None, slice_get, if◌then◌else◌, ◌||◌, ◌&&◌}
use Rattle.fkv_base.specs.declared.numbers.Serial.{Serial}
use Rattle.fkv_base.specs.declared.numbers.Version.{Version}
use Rattle.fkv_base.specs.declared.phases.Phase.TheVariants as phase
use Rattle.fkv_words.specs.declared.phase_words.PhaseSaid.{PhaseSaid}
use Rattle.fkv_words.specs.declared.phase_words.PhaseSaid.TheVariants.{Says}
use Rattle.fkv_plane.specs.declared.places.Places.{Places}
use Rattle.fkv_plane.specs.Passing.{passed}
use Rattle.fkv_epoch.specs.declared.raising.Raising.TheVariants as raise
use Rattle.fkv_epoch.specs.Raising.{raise_ask}
use Rattle.fkv_epoch.specs.EpochWorld.{Raises, ToRaise}
use Rattle.fkv_commit.specs.declared.commits.Commit.{Commit}
use Rattle.fkv_commit.specs.Deferring.{deferring_ask}
use Rattle.fkv_commit.specs.Entering.{EnterState, enter_begun, entering_ask}
use Rattle.fkv_commit.specs.Seeking.{SeekState, seek_begun, seek_ask}
use Rattle.fkv_flush.specs.GuardSeen.{LastSeen}
use Rattle.fkv_flush.specs.GuardWorld.{Actor, Rests, GuardNow, GuardEvent, Begins, ToDo}
use Rattle.fkv_flush.proofs.Shown.{Fits}
use Rattle.fkv_keeper.specs.declared.keepers.Keeping.{Keeping}
use Rattle.fkv_keeper.specs.declared.keepers.Keeping.TheVariants as keeping
use Rattle.fkv_keeper.specs.Keeping.{KeeperState, keeping_ask, copies, part_begun, phase_ledto, turn_over, is_copy_resting}
use Rattle.law_world.specs.GuardKeeper.KeeperShown.{OfStore}
use Rattle.law_world.specs.GuardKeeper.CommitEvents.{seek_begins}
use Rattle.law_world.specs.GuardKeeper.KeeperEvents.{part_begins}
use Rattle.law_world.proofs.OfGuardKeeper.KeeperLed.{StepLed, slotless_step}
use Rattle.law_world.specs.GuardKeeper.Followed.{likeness}
use Rattle.law_world.proofs.OfGuardKeeper.PartLed.{PartLed, stays, raise_begins}
use Rattle.law_world.proofs.OfGuardKeeper.Quiet.{IsQuietAs, quiet_step, quiet_begins}
use Rattle.law_world.proofs.OfGuardKeeper.Slots.{passed_slot}
use Rattle.law_world.proofs.OfGuardKeeper.Sought.{seek_machine, SeekKnown, owing_led, owing_slot}
use Rattle.fkv_maintain.specs.Maintaining.{is_flush_resting}
use Rattle.fkv_sweep.specs.Sweeping.{is_sweeping}

-- wait-pending is to be deferred
pub record HasEntered (s there : KeeperState) : Type 0 where
  pub from : EnterState
  pub number : Version
  pub step : there.step ≡ keeping.Enters
  pub its : there.enter ≡ enter_begun from number
  pub store : (p : Places) → OfStore p s → OfStore p there

-- the points are to be sought
pub record HasSought (s there : KeeperState) : Type 0 where
  pub from : SeekState
  pub number : Version
  pub floor : List Serial
  pub step : there.step ≡ keeping.Seeks
  pub its : there.seek ≡ seek_begun from number floor
  pub store : (p : Places) → OfStore p s → OfStore p there

abbrev pub HasBegun : KeeperState → KeeperState → Type 0
HasBegun s there = IsQuietAs s there ⊎ (HasEntered s there ⊎ HasSought s there)

either_quiet : (b : Bool) (s x y : KeeperState) → IsQuietAs s x → IsQuietAs s y → IsQuietAs s (if b then x else y)
either_quiet true s x y one other = one
either_quiet false s x y one other = other

copies_quiet : (p : Places) (s : KeeperState) (granted : Bool) → IsQuietAs s (copies p s granted)
copies_quiet p s granted = either_quiet (granted || is_copy_resting s.copy) s _ _ (record { quiet = refl; store = λ p same. same }) (record { quiet = refl; store = λ p same. same })

either : (b : Bool) (s x y : KeeperState) → HasBegun s x → HasBegun s y → HasBegun s (if b then x else y)
either true s x y one other = one
either false s x y one other = other

part_so : (p : Places) (s : KeeperState) (c : Commit) (said : PhaseSaid) (granted : Bool) → HasBegun s (part_begun p s c said granted)
part_so p s c (Says phase.InProgress version) granted =
    either s.has_entered s _ _ (either c.is_copied s _ _ (inl (record { quiet = refl; store = λ p same. same })) (inl (copies_quiet p s granted)))
    (inr (inl (record { from = s.enter; number = c.number; step = refl; its = refl; store = λ p same. same })))
part_so p s c (Says phase.WaitPending version) granted =
    either c.is_copied s _ _ (inr (inr (record { from = s.seek; number = c.number; floor = s.last.points; step = refl; its = refl; store = λ p same. same }))) (inl (copies_quiet p s granted))
part_so p s c (Says phase.WaitFlush version) granted = either s.has_points s _ _ (inl (record { quiet = refl; store = λ p same. same })) (inl (record { quiet = refl; store = λ p same. same }))
part_so p s c said granted = inl (record { quiet = refl; store = λ p same. same })

pub phase_so : (p : Places) (s : KeeperState) (its : Option Commit) (said : PhaseSaid) (granted : Bool) → HasBegun s (phase_ledto p s its said granted)
unfolding phase_ledto
phase_so p s None said granted = inl (either_quiet (is_flush_resting s.maintain) s _ _ (record { quiet = refl; store = λ p same. same })
    (either_quiet (granted && is_sweeping s.sweep) s _ _ (record { quiet = refl; store = λ p same. same }) (record { quiet = refl; store = λ p same. same })))
phase_so p s (Some c) said granted = either s.rests s _ _ (either granted s _ _ (inl (record { quiet = refl; store = λ p same. same })) (inl (record { quiet = refl; store = λ p same. same })))
    (either (is_flush_resting s.maintain) s _ _ (inl (record { quiet = refl; store = λ p same. same })) (part_so p s c said granted))

enters_phase : (n : GuardNow) (a : ℕ) (x : Actor) (seen : LastSeen) (granted : Bool) (there : KeeperState) (from : EnterState) (number : Version) → slice_get n.actors a ≡ Some x → Fits (likeness seen None None) x
    → OfStore n.places there
    → StepLed n a (Begins a (ToDo ToRaise) ∷ []) seen granted (record there { enter = enter_begun from number; step = keeping.Enters }) n.words
unfolding keeping_ask entering_ask deferring_ask raise_ask passed
enters_phase n a x seen granted there from number got fits same =
    slotless_step n a (Begins a (ToDo ToRaise) ∷ []) seen granted (record there { enter = enter_begun from number; step = keeping.Enters }) n.words refl (record {
      follows = record {
        actor = record x { machine = Raises raise.LoadsEpoch; work = Rests };
        same = raise_begins n a x got fits.machine fits.work;
        fits = record { machine = refl; work = refl; seen = fits.seen; undecided = fits.undecided };
      };
      knows = record { sessions = same.0; loads = same.1; its = tt };
    })

seeks_phase : (n : GuardNow) (a : ℕ) (x : Actor) (seen : LastSeen) (granted : Bool) (there : KeeperState) (from : SeekState) (number : Version) (floor : List Serial) → slice_get n.actors a ≡ Some x → Fits (likeness seen None None) x
    → OfStore n.places there
    → StepLed n a (seek_begins a (seek_begun from number floor).step) seen granted (record there { seek = seek_begun from number floor; step = keeping.Seeks }) n.words
unfolding keeping_ask
seeks_phase n a x seen granted there from number floor got fits same =
    let first : SeekState = record from { number = number; floor = floor; points = [] } in
    let led : PartLed n a (seek_begins a (seek_begun from number floor).step) seen seek_machine (SeekKnown n.words) (seek_begun from number floor) n.words n.actions = owing_led n a x seen first 0 got fits in
    slotless_step n a (seek_begins a (seek_begun from number floor).step) seen granted (record there { seek = seek_begun from number floor; step = keeping.Seeks }) n.words
    (passed_slot (seek_ask (seek_begun from number floor)) (turn_over there) ∙ owing_slot first 0) (record { follows = led.follows; knows = record { sessions = same.0; loads = same.1; its = led.knows } })

-- by what has begun
pub phase_goes : (n : GuardNow) (a : ℕ) (x : Actor) (seen : LastSeen) (granted : Bool) (s there : KeeperState) → slice_get n.actors a ≡ Some x → Fits (likeness seen None None) x → OfStore n.places s
    → HasBegun s there → StepLed n a (part_begins a there there.step) seen granted there n.words
phase_goes n a x seen granted s there got fits same (inl its) =
    subst (λ (events : List GuardEvent). StepLed n a events seen granted there n.words) (sym (quiet_begins a there there.step its.quiet))
    (quiet_step n a [] seen granted there n.words its.quiet (its.store n.places same) (record { actor = x; same = stays n a x got; fits = fits }))
phase_goes n a x seen granted s there got fits same (inr (inl its)) =
    let last : KeeperState = record there { enter = enter_begun its.from its.number; step = keeping.Enters } in
    let so : there ≡ last = ap (λ (step : Keeping). record there { step = step }) its.step ∙ ap (λ (inner : EnterState). record there { enter = inner; step = keeping.Enters }) its.its in
    subst (λ (k : KeeperState). StepLed n a (part_begins a k k.step) seen granted k n.words) (sym so) (enters_phase n a x seen granted there its.from its.number got fits (its.store n.places same))
phase_goes n a x seen granted s there got fits same (inr (inr its)) =
    let last : KeeperState = record there { seek = seek_begun its.from its.number its.floor; step = keeping.Seeks } in
    let so : there ≡ last = ap (λ (step : Keeping). record there { step = step }) its.step ∙ ap (λ (inner : SeekState). record there { seek = inner; step = keeping.Seeks }) its.its in
    subst (λ (k : KeeperState). StepLed n a (part_begins a k k.step) seen granted k n.words) (sym so) (seeks_phase n a x seen granted there its.from its.number its.floor got fits (its.store n.places same))
