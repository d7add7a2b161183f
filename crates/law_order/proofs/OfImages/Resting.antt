-- What is known of the commit in hand where a keeper has come to is kept by each event, whether or not its writes rest.
use Rattle.std.proofs.Common.{◌≡◌, inl, inr, ◌∙◌, refl, sym, ap, subst, Bool, true, false, List, [], ◌∷◌}
use Rattle.std.specs.Prelude.{if◌then◌else◌}
use Rattle.std.specs.Option.{is_some}
use Rattle.fkv_base.specs.declared.shapes.Shape.{Shape}
use Rattle.law_commit.specs.Below.fkv_keeper.TheKeeping.{Keeping}
use Rattle.law_commit.specs.Below.fkv_keeper.TheKeeping.TheVariants.{Maintains, Writes}
use Rattle.law_commit.specs.Below.fkv_keeper.Keeping.{KeeperState, come_to}
use Rattle.law_commit.specs.Below.fkv_keeper.KeeperLaws.{MayRest}
use Rattle.law_commit.specs.Below.fkv_keeper.KeeperRun.{IsOpened, KeeperEvent, keeper_happens, keeper_run}
use Rattle.law_commit.proofs.Below.fkv_keeper.Shown.{BeginsRest, BreaksInRest, EndsRest, RestsStill, begins_rest, rest_ends, rests_still}
use Rattle.law_commit.specs.Below.fkv_maintain.Parts.{IsServing}
use Rattle.fkv_plane.specs.declared.places.Places.{Places}
use Rattle.law_commit.specs.Below.fkv_world.OwnEvents.{keeper_events}
use Rattle.law_commit.specs.Below.fkv_world.Runs.{World, run}
use Rattle.law_commit.specs.Below.fkv_world.World.{Event}
use Rattle.law_commit.proofs.Below.fkv_world.Shown.{keeper_runs}

not_both : {X : Type 0} (b : Bool) → b ≡ true → b ≡ false → X
not_both b high low = let clash : true ≡ false = sym high ∙ low in cc

-- ---- where writes rest, a commit is in hand, no part of it is under way, and a turn serves
pub record RestsWell (s : KeeperState) : Type 0 where
  pub in_hand : s.rests ≡ true → is_some s.commit ≡ true
  pub rests : s.rests ≡ true → MayRest s.step
  pub serves : s.rests ≡ true → s.step ≡ Maintains → IsServing s.maintain.step

pub opened_well : (s : KeeperState) → IsOpened s → RestsWell s
opened_well s opened = record { in_hand = λ is. not_both s.rests is opened.none_rest; rests = λ is. not_both s.rests is opened.none_rest; serves = λ is. not_both s.rests is opened.none_rest }

abbrev ServesWell : KeeperState → Type 0
ServesWell s = MayRest s.step × (s.step ≡ Maintains → IsServing s.maintain.step) × (is_some s.commit ≡ true)

well_now : (shape : Shape) (p : Places) (s : KeeperState) (event : KeeperEvent) → RestsWell s → (keeper_happens shape p s event).rests ≡ true → ServesWell (keeper_happens shape p s event)
well_now shape p s event well is = by s.rests refl
  where
    by : (rests : Bool) → s.rests ≡ rests → ServesWell (keeper_happens shape p s event)
    by true was = let kept = rests_still shape p s event was (well.in_hand was) (well.rests was) (well.serves was) is in (kept.rests, kept.serves, ap is_some kept.commit ∙ well.in_hand was)
    by false none = let begun = begins_rest shape p s event none is in subst ServesWell (sym begun.same) (tt, λ at. cc, ap is_some begun.in_hand)

pub happens_well : (shape : Shape) (p : Places) (s : KeeperState) (event : KeeperEvent) → RestsWell s → RestsWell (keeper_happens shape p s event)
happens_well shape p s event well = record {
  in_hand = λ is. (well_now shape p s event well is).2;
  rests = λ is. (well_now shape p s event well is).0;
  serves = λ is. (well_now shape p s event well is).1;
}

-- ---- a state has of the commit in hand what another has
pub record IsSameInHand (s a : KeeperState) : Type 0 where
  pub commit : a.commit ≡ s.commit
  pub seek : a.seek ≡ s.seek
  pub writes : a.writes ≡ s.writes
  pub used : a.used ≡ s.used
  pub last : a.last ≡ s.last
  pub lost : a.lost ≡ s.lost

pub still_same : (s a : KeeperState) → RestsStill s a → IsSameInHand s a
still_same s a kept = record { commit = kept.commit; seek = kept.seek; writes = kept.writes; used = kept.used; last = kept.last; lost = kept.lost }

pub taken_same : (s a : KeeperState) → a ≡ record s { rests = false; is_granted = true; step = Writes } → IsSameInHand s a
taken_same s a taken = record {
  commit = ap (λ (x : KeeperState). x.commit) taken;
  seek = ap (λ (x : KeeperState). x.seek) taken;
  writes = ap (λ (x : KeeperState). x.writes) taken;
  used = ap (λ (x : KeeperState). x.used) taken;
  last = ap (λ (x : KeeperState). x.last) taken;
  lost = ap (λ (x : KeeperState). x.lost) taken;
}

-- ---- an event
-- what is known at the step of a call is known where the keeper has come to
pub kept_on : (P : KeeperState → Keeping → Type 0) (shape : Shape) (p : Places) (s : KeeperState) (event : KeeperEvent) → RestsWell s
    → (s.rests ≡ false → P s s.step → P (keeper_happens shape p s event) (keeper_happens shape p s event).step)
    → ((a : KeeperState) → BeginsRest s event a → P s Writes → P a Writes)
    → ((a : KeeperState) → IsSameInHand s a → P s Writes → P a Writes)
    → ((a : KeeperState) → BreaksInRest s a → P s Writes → P a a.step)
    → P s (come_to s) → P (keeper_happens shape p s event) (come_to (keeper_happens shape p s event))
kept_on P shape p s event well goes begins same breaks is = from s.rests refl is
  where
    a : KeeperState
    a = keeper_happens shape p s event

    awake : s.rests ≡ false → P s s.step → (rests : Bool) → a.rests ≡ rests → P a (if rests then Writes else a.step)
    awake none now true e = let begun = begins_rest shape p s event none e in begins a begun (subst (λ (k : Keeping). P s k) begun.writes now)
    awake none now false e = goes none now

    by_end : P s Writes → EndsRest s event a → P a a.step
    by_end now (inl taken) = subst (λ (k : Keeping). P a k) (sym (ap (λ (x : KeeperState). x.step) taken)) (same a (taken_same s a taken) now)
    by_end now (inr broken) = breaks a broken now

    resting : s.rests ≡ true → P s Writes → (rests : Bool) → a.rests ≡ rests → P a (if rests then Writes else a.step)
    resting was now true e = same a (still_same s a (rests_still shape p s event was (well.in_hand was) (well.rests was) (well.serves was) e)) now
    resting was now false e = by_end now (rest_ends shape p s event was (well.rests was) e)

    from : (rests : Bool) → s.rests ≡ rests → P s (if rests then Writes else s.step) → P a (come_to a)
    from true was now = resting was now a.rests refl
    from false none now = awake none now a.rests refl

-- what is known of all that is written is known at the step of the call
pub at_step : (P : KeeperState → Keeping → Type 0) (s : KeeperState) → ((k : Keeping) → P s Writes → P s k) → P s (come_to s) → P s s.step
at_step P s any is = by s.rests is
  where
    by : (rests : Bool) → P s (if rests then Writes else s.step) → P s s.step
    by true now = any s.step now
    by false now = now

-- a keeper that has opened has come to its step
pub opened_at : (P : KeeperState → Keeping → Type 0) (s : KeeperState) → IsOpened s → P s s.step → P s (come_to s)
opened_at P s opened now = subst (λ (rests : Bool). P s (if rests then Writes else s.step)) (sym opened.none_rest) now

-- and one whose writes begin has come to them
pub at_writes : (P : KeeperState → Keeping → Type 0) (s : KeeperState) → s.step ≡ Writes → P s (come_to s) → P s Writes
at_writes P s writes is = by s.rests is
  where
    by : (rests : Bool) → P s (if rests then Writes else s.step) → P s Writes
    by true now = now
    by false now = subst (λ (k : Keeping). P s k) writes now

-- ---- in a life
run_well : (shape : Shape) (p : Places) (opening : KeeperState) (events : List KeeperEvent) → IsOpened opening → RestsWell (keeper_run shape p opening events)
unfolding keeper_run
run_well shape p opening [] opened = opened_well opening opened
run_well shape p opening (event ∷ before) opened = happens_well shape p (keeper_run shape p opening before) event (run_well shape p opening before opened)

pub life_well : (opening : World) (events : List Event) → IsOpened opening.now.keeper → RestsWell (run opening events).now.keeper
life_well opening events opened = subst RestsWell (sym (keeper_runs opening events)) (run_well opening.now.shape opening.now.places opening.now.keeper (keeper_events opening events) opened)

-- none rest at any other step
pub life_awake : (opening : World) (events : List Event) (step : Keeping) → IsOpened opening.now.keeper → (run opening events).now.keeper.step ≡ step → (MayRest step → ⊥) → (run opening events).now.keeper.rests ≡ false
life_awake opening events step opened e not = by s.rests refl
  where
    s : KeeperState
    s = (run opening events).now.keeper

    by : (rests : Bool) → s.rests ≡ rests → rests ≡ false
    by true is = let well = life_well opening events opened in absurd (not (subst MayRest e (well.rests is)))
    by false is = refl

pub life_comes : (opening : World) (events : List Event) (step : Keeping) → IsOpened opening.now.keeper → (run opening events).now.keeper.step ≡ step → (MayRest step → ⊥) → come_to (run opening events).now.keeper ≡ step
life_comes opening events step opened e not = ap (λ (rests : Bool). if rests then Writes else (run opening events).now.keeper.step) (life_awake opening events step opened e not) ∙ e
