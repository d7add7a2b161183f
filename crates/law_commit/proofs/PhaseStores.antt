-- The keeper stores in the phase word what its step may store, and nothing else.
use Rattle.std.proofs.Common.{◌≡◌, ◌≢◌, ◌⊎◌, inl, inr, ℕ, ◌∙◌, List, [], ◌∷◌, refl, arith, sym, ap, subst, Bool, true, false}
use Rattle.std.specs.Prelude.{slice_set}
use Rattle.fkv_plane.specs.declared.asks.Ask.{Ask}
use Rattle.fkv_plane.specs.declared.asks.Ask.TheVariants.{Load, Store, Swap, Cas, Add, Max, Put, Take, Done}
use Rattle.fkv_plane.specs.declared.places.Places.{Places}
use Rattle.fkv_plane.specs.declared.places.SharedWord.TheVariants as one
use Rattle.fkv_plane.specs.Asked.{word_at, words_after}
use Rattle.fkv_plane.specs.Places.{Name, Shared, Drain, Session, Bucket, Overflow, Record, place as place_of}
use Rattle.fkv_epoch.proofs.Shown.{same_or, word_spared}
use Rattle.law_refine.specs.Below.fkv_keeper.KeeperTold.{KeeperTold}
use Rattle.law_refine.specs.Below.fkv_keeper.TheKeeping.{Keeping}
use Rattle.law_refine.specs.Below.fkv_keeper.TheKeeping.TheVariants.{Ended, Starts, Maintains, LoadsPhase, Enters, Copies, Seeks, Waits, Writes, Finishes, Sweeps}
use Rattle.law_refine.specs.Below.fkv_keeper.CheckpointLaws.{ChangesItsWords, ChangesOnly, IsPlaceOf, MayChange, MayStore}
use Rattle.law_refine.specs.Below.fkv_keeper.Keeping.{KeeperState, keeper_ask}
use Rattle.law_refine.proofs.Below.fkv_keeper.Shown.{run_stores}
use Rattle.law_refine.specs.Below.fkv_world.Opened.{IsOpenedWorld}
use Rattle.law_refine.specs.Below.fkv_world.OwnEvents.{keeper_events}
use Rattle.law_refine.specs.Below.fkv_world.Runs.{World, happens, run}
use Rattle.law_refine.specs.Below.fkv_world.World.{Event, KeeperMoves}
use Rattle.law_refine.proofs.Below.fkv_world.Shown.{is_over, places_stay, shape_stays}
use Rattle.law_refine.proofs.Below.law_world.OfRuns.OneWord.{keeper_writes}
use Rattle.law_refine.proofs.Below.law_world.OfKeeper.OwnRun.{of_keeper}
use Rattle.law_commit.specs.PhaseStores.{IsPhaseStored, StoresItsPhase, phase_at}

-- the phase word has a place of its own
name_off : (p : Places) (name : Name) → (name ≡ Shared one.Phase → ⊥) → 2 ≢ place_of p name
name_off p (Shared one.Phase) other = λ e. other refl
name_off p (Shared one.Epoch) other = λ e. cc
name_off p (Shared one.SafeEpoch) other = λ e. cc
name_off p (Shared one.Tail) other = λ e. cc
name_off p (Shared one.Limit) other = λ e. cc
name_off p (Shared one.ReadOnly) other = λ e. cc
name_off p (Shared one.SafeReadOnly) other = λ e. cc
name_off p (Shared one.Flushed) other = λ e. cc
name_off p (Shared one.Head) other = λ e. cc
name_off p (Shared one.Closed) other = λ e. cc
name_off p (Shared one.Taken) other = λ e. cc
name_off p (Drain slot) other = λ e. omega (arith, e)
name_off p (Session session word) other = λ e. omega (arith, e)
name_off p (Bucket bucket word) other = λ e. omega (arith, e)
name_off p (Overflow number word) other = λ e. omega (arith, e)
name_off p (Record addr word) other = λ e. omega (arith, e)

may_not : (step : Keeping) → MayChange step (Shared one.Phase) → ⊥
may_not (Ended its) may = may
may_not Starts may = may
may_not Maintains may = may
may_not LoadsPhase may = may
may_not Enters may = may
may_not Copies may = may
may_not Sweeps may = may
may_not Seeks may = may
may_not Waits may = may
may_not Writes may = may
may_not Finishes may = may

spares : (p : Places) (step : Keeping) (place : ℕ) → IsPlaceOf (MayChange step) p place → 2 ≢ place
spares p step place its = λ e. name_off p its.0 (λ same. may_not step (subst (λ (x : Name). MayChange step x) same its.1)) (e ∙ its.2)

-- a word that is written there
written : (words : List ℕ) (new : ℕ) → (word_at (slice_set words 2 new) 2 ≡ word_at words 2) ⊎ (word_at (slice_set words 2 new) 2 ≡ new)
written [] new = inl refl
written (a ∷ []) new = inl refl
written (a ∷ b ∷ []) new = inl refl
written (a ∷ b ∷ c ∷ more) new = inr refl

loaded : (words : List ℕ) → word_at (slice_set words 2 (word_at words 2)) 2 ≡ word_at words 2
loaded words = elim (written words (word_at words 2)) [ inl same ↦ same | inr new ↦ new ]

loads_any : (words : List ℕ) (place : ℕ) → word_at (slice_set words place (word_at words place)) 2 ≡ word_at words 2
loads_any words place = elim (same_or 2 place) [
  | inl same ↦ subst (λ (x : ℕ). word_at (slice_set words x (word_at words x)) 2 ≡ word_at words 2) same (loaded words)
  | inr other ↦ word_spared words place (word_at words place) 2 other
]

stored : (s : KeeperState) (words : List ℕ) (new : ℕ) → IsPhaseStored s new → StoresItsPhase s (word_at words 2) (word_at (slice_set words 2 new) 2)
stored s words new its = elim (written words new) [
  | inl same ↦ inl same
  | inr is_new ↦ inr (record { its = its.its; version = its.version; may = its.may; is_so = is_new ∙ its.is_so })
]

after_ask : (p : Places) (s : KeeperState) (words : List ℕ) (ask : Ask KeeperTold) → ChangesOnly (MayChange s.step) (MayStore s s.step) p ask → StoresItsPhase s (word_at words 2) (word_at (words_after words ask) 2)
after_ask p s words (Load place) only = inl (loads_any words place)
after_ask p s words (Store place new) (inl other) = inl (word_spared words place new 2 (spares p s.step place other))
after_ask p s words (Store place new) (inr its) =
    subst (λ (x : ℕ). StoresItsPhase s (word_at words 2) (word_at (slice_set words x new) 2)) (sym its.3) (stored s words new (record { its = its.0; version = its.1; may = its.2; is_so = its.4 }))
after_ask p s words (Swap place new) only = inl (word_spared words place _ 2 (spares p s.step place only))
after_ask p s words (Cas place old new) only = inl (word_spared words place _ 2 (spares p s.step place only))
after_ask p s words (Add place k) only = inl (word_spared words place _ 2 (spares p s.step place only))
after_ask p s words (Max place k) only = inl (word_spared words place _ 2 (spares p s.step place only))
after_ask p s words (Put slot action) only = inl refl
after_ask p s words (Take slot) only = inl refl
after_ask p s words (Done its) only = inl refl

by_crash : (w : World) (granted done crashed : Bool) → w.now.crashed ≡ crashed → ChangesItsWords w.now.shape w.now.places w.now.keeper
    → StoresItsPhase w.now.keeper (phase_at w.now) (phase_at (happens w (KeeperMoves granted done)).now)
by_crash w granted done true e only = inl (ap (λ (x : World). phase_at x.now) (is_over w (KeeperMoves granted done) e))
by_crash w granted done false e only =
    subst (λ (x : List ℕ). StoresItsPhase w.now.keeper (phase_at w.now) (word_at x 2)) (sym (keeper_writes w granted done e))
    (after_ask w.now.places w.now.keeper w.now.words (keeper_ask w.now.shape w.now.places w.now.keeper) only)

pub keeper_stores : (opening : World) (events : List Event) (granted done : Bool) → IsOpenedWorld opening
    → StoresItsPhase (run opening events).now.keeper (phase_at (run opening events).now) (phase_at (run opening (KeeperMoves granted done ∷ events)).now)
unfolding run
keeper_stores opening events granted done opened =
    let only = of_keeper (λ (x : KeeperState). ChangesItsWords opening.now.shape opening.now.places x) opening events
    (run_stores opening.now.shape opening.now.places opening.now.keeper (keeper_events opening events) opened.keeper) in
    by_crash (run opening events) granted done (run opening events).now.crashed refl (rw (shape_stays opening events, places_stay opening events) only)
