-- What a session was told as durable is its point in a sealed commit, no less than in each that was told as finished before its call.
use Rattle.std.proofs.Common.{◌≡◌, inl, inr, ℕ, zero, suc, ◌+◌, ◌<◌, ◌≤◌, ◌∙◌, List, [], ◌∷◌, ◌++◌, refl, arith, ap, sym, subst, Bool, true, false}
use Rattle.std.specs.Prelude.{if◌then◌else◌, nat_lt, Option, Some, None, slice_get}
use Rattle.fkv_base.specs.declared.numbers.Serial.{Serial}
use Rattle.fkv_base.specs.declared.numbers.Version.{Version}
use Rattle.fkv_base.specs.declared.shapes.Shape.{Shape}
use Rattle.fkv_plane.specs.declared.places.Places.{Places}
use Rattle.law_refine.specs.Below.fkv_commit.Commit.{Commit}
use Rattle.law_refine.specs.Below.fkv_commit.TheFinishing.{Finishing}
use Rattle.law_refine.specs.Below.fkv_commit.TheFinishing.TheVariants as finishing
use Rattle.law_refine.specs.Below.fkv_commit.Finishing as finish
use Rattle.law_refine.specs.Below.fkv_manifest.TheCommitting.{Committing}
use Rattle.law_refine.specs.Below.fkv_manifest.TheCommitting.TheVariants.{PutsSlot}
use Rattle.law_refine.specs.Below.fkv_manifest.TheGating.{Gating}
use Rattle.law_refine.specs.Below.fkv_manifest.TheGating.TheVariants.{Opens, SyncsOpen}
use Rattle.law_refine.specs.Below.fkv_keeper.KeeperTold.TheVariants.{Turned}
use Rattle.law_refine.specs.Below.fkv_keeper.TheKeeping.{Keeping}
use Rattle.law_refine.specs.Below.fkv_keeper.TheKeeping.TheVariants.{Ended, Starts, Maintains, LoadsPhase, Enters, Copies, Seeks, Waits, Writes, Finishes, Sweeps}
use Rattle.law_refine.specs.Below.fkv_keeper.Keeping.{KeeperState, come_to}
use Rattle.law_refine.specs.Below.fkv_keeper.KeeperRun.{Calls, KeeperEvent, keeper_run}
use Rattle.fkv_map.specs.History.{point_of}
use Rattle.law_refine.specs.Below.fkv_world.OwnEvents.{keeper_events, keeper_part_of}
use Rattle.law_refine.specs.Below.fkv_world.Past.{Traced}
use Rattle.law_refine.specs.Below.fkv_world.Runs.{World, run}
use Rattle.law_refine.specs.Below.fkv_world.World.{Event}
use Rattle.law_log.specs.Trace.{IsIn}
use Rattle.law_commit.specs.BegunCommits.{BegunCommit, begun_at_end, begun_at_gate, begun_at_writes, begun_by, commit_opened, commit_opening, commits_begun, life_begun, with_finished, with_opening, with_sealed}
use Rattle.law_commit.specs.HeldCommits.{AtKeeping, IsInHand}
use Rattle.law_commit.specs.Cuts.{ShowsDurable, durable_at, durable_in}
use Rattle.law_commit.specs.FinishedCommits.{told_of}
use Rattle.law_commit.specs.Laws.Cuts.{DurableWordsShowPoints}
use Rattle.law_commit.specs.Laws.Pasts.{BegunAreInTurn, FinishedAreTold}
use Rattle.law_commit.specs.Points.{BegunHavePoints, OpensPointed}
use Rattle.law_commit.specs.ToldDurable.{TellsSealedPoints}
use Rattle.law_commit.specs.ToldPoints.{ToldPoint, finishes_at_call, finishes_told, points_told}
use Rattle.law_commit.proofs.LifeBegun.{life_rests, life_stands}
use Rattle.law_commit.proofs.OfCuts.Marks.{seat_of}
use Rattle.law_commit.proofs.OfCuts.Points.{durable_come}
use Rattle.law_commit.proofs.OfPhases.LifeStages.{life_staged}
use Rattle.law_commit.proofs.OfPoints.Last.{last_of}
use Rattle.law_commit.proofs.OfPoints.Rises.{rises_by_version}
use Rattle.law_commit.proofs.OfTold.News.{IsNew, told_now}
use Rattle.law_commit.proofs.OfTold.Numbers.{at_call, last_counts}

-- a session's point, in both words
pub same_point : (points : List Serial) (session : ℕ) → finish.point_of (slice_get points session) ≡ point_of points session
same_point [] session = refl
same_point (x ∷ rest) zero = refl
same_point (x ∷ rest) (suc i) = same_point rest i

-- ---- a sealed commit of this number, with these points, has begun
pub record HasSealed (its_number : ℕ) (its_points : List Serial) (begun : List BegunCommit) : Type 0 where
  pub commit : BegunCommit
  pub there : IsIn commit begun
  pub number : (let c = commit in c.number.0 ≡ its_number)
  pub points : (let c = commit in c.points ≡ its_points)
  pub is_sealed : (let c = commit in c.is_sealed ≡ true)

module _ (number : ℕ) (points : List Serial) where
  abbrev Has : List BegunCommit → Type 0
  Has begun = HasSealed number points begun

  behind_one : (c : BegunCommit) (begun : List BegunCommit) → Has begun → Has (c ∷ begun)
  behind_one c begun its = record { commit = its.commit; there = inr its.there; number = its.number; points = its.points; is_sealed = its.is_sealed }

  opening_on : (s : KeeperState) (found : Option Commit) (begun : List BegunCommit) → Has begun → Has (with_opening s found begun)
  opening_on s None begun its = its
  opening_on s (Some c) begun its = behind_one (commit_opening s c) begun its

  -- the newest is another one, with the same number and points
  head_on : (c d : BegunCommit) (begun : List BegunCommit) → d.number ≡ c.number → d.points ≡ c.points → (c.is_sealed ≡ true → d.is_sealed ≡ true) → Has (c ∷ begun) → Has (d ∷ begun)
  head_on c d begun number_so points_so sealed its = by_place its.there
    where
      by_place : IsIn its.commit (c ∷ begun) → Has (d ∷ begun)
      by_place (inl same) = record {
        commit = d;
        there = inl refl;
        number = ap (λ (v : Version). v.0) number_so ∙ (ap (λ (x : BegunCommit). x.number.0) same ∙ its.number);
        points = points_so ∙ (ap (λ (x : BegunCommit). x.points) same ∙ its.points);
        is_sealed = sealed (ap (λ (x : BegunCommit). x.is_sealed) same ∙ its.is_sealed);
      }
      by_place (inr other) = record { commit = its.commit; there = inr other; number = its.number; points = its.points; is_sealed = its.is_sealed }

  sealed_on : (begun : List BegunCommit) → Has begun → Has (with_sealed begun)
  sealed_on [] its = its
  sealed_on (c ∷ before) its = head_on c (record c { is_sealed = true }) before refl refl (λ sealed. refl) its

  finished_on : (begun : List BegunCommit) → Has begun → Has (with_finished begun)
  finished_on [] its = its
  finished_on (c ∷ before) its = head_on c (record c { is_finished = true }) before refl refl (λ sealed. sealed) its

  gate_on : (s : KeeperState) (step : Gating) (done : Bool) (begun : List BegunCommit) → Has begun → Has (begun_at_gate s step done begun)
  gate_on s Opens done begun its = opening_on s s.commit begun its
  gate_on s SyncsOpen true begun its = sealed_on begun its
  gate_on s step done begun its = its

  writes_on : (s : KeeperState) (step : Committing) (done : Bool) (begun : List BegunCommit) → Has begun → Has (begun_at_writes s step done begun)
  writes_on s PutsSlot done begun its = gate_on s s.writes.gate.step done begun its
  writes_on s step done begun its = its

  end_on : (after : Keeping) (begun : List BegunCommit) → Has begun → Has (begun_at_end after begun)
  end_on (Ended (Turned true full)) begun its = finished_on begun its
  end_on after begun its = its

  begun_on : (s : KeeperState) (step : Keeping) (event : KeeperEvent) (after : Keeping) (begun : List BegunCommit) → Has begun → Has (begun_by s step event after begun)
  begun_on s Writes (Calls done bytes) after begun its = writes_on s s.writes.step done begun its
  begun_on s Finishes event after begun its = end_on after begun its
  begun_on s step event after begun its = its

  run_on : (shape : Shape) (p : Places) (opening : KeeperState) (first : List BegunCommit) (later before : List KeeperEvent) → Has (commits_begun shape p opening first before) → Has (commits_begun shape p opening first (later ++ before))
  unfolding commits_begun
  run_on shape p opening first [] before its = its
  run_on shape p opening first (event ∷ later) before its =
      begun_on (keeper_run shape p opening (later ++ before)) (keeper_run shape p opening (later ++ before)).step event (keeper_run shape p opening (event ∷ later ++ before)).step (commits_begun shape p opening first (later ++ before))
      (run_on shape p opening first later before its)

  life_on : (opening : World) (event : Event) (before : List Event) → Has (life_begun opening before) → Has (life_begun opening (event ∷ before))
  unfolding keeper_events
  life_on opening event before its =
      run_on opening.now.shape opening.now.places opening.now.keeper (commit_opened opening.now opening.past.opened ∷ []) (keeper_part_of (run opening before) event) (keeper_events opening before) its

module _ (in_turn : BegunAreInTurn) (finished : FinishedAreTold) (durable : DurableWordsShowPoints) (opening : World) (start : ℕ) (opens : OpensPointed opening start) (shows : ShowsDurable opening.now) (session : ℕ) where
  -- such a commit, and how many were told as finished before the call
  record Tells (events : List Event) (told : ToldPoint) : Type 0 where
    at : ℕ
    points : List Serial
    has : HasSealed at points (life_begun opening events)
    point : told.point ≡ point_of points session
    low : opening.now.keeper.last.number.0 + told.finished ≤ at

  tells_on : (event : Event) (before : List Event) (told : ToldPoint) → Tells before told → Tells (event ∷ before) told
  tells_on event before told its = record { at = its.at; points = its.points; has = life_on its.at its.points opening event before its.has; point = its.point; low = its.low }

  -- ---- a word that is loaded
  module _ (before : List Event) where
    abbrev s : KeeperState
    s = (run opening before).now.keeper

    abbrev begun : List BegunCommit
    begun = life_begun opening before

    abbrev trace : List Traced
    trace = (run opening before).past.trace

    stands : AtKeeping begun s (come_to s)
    stands = life_stands opening before opens.quiet.opened

    counted : s.last.number.0 ≡ opening.now.keeper.last.number.0 + finishes_told trace
    counted =
        last_counts trace (told_of opening.now.keeper.last) begun s (come_to s) stands (in_turn opening start before opens.quiet.opened opens.quiet.guarded opens.quiet.seen.rests) (finished opening before opens.quiet.opened)

    module _ (told : ToldPoint) (at_the_call : told.finished ≡ finishes_at_call session trace) where
      low_last : opening.now.keeper.last.number.0 + told.finished ≤ s.last.number.0
      low_last = let few = at_call session trace in let is = counted in let same = at_the_call in omega (arith, few, is, same)

      -- the newest finished one's
      of_last : told.point ≡ finish.point_of (slice_get s.last.points session) → Tells before told
      of_last is =
          let last = last_of begun s (come_to s) stands in
          let it = last.its in
          record {
            at = s.last.number.0;
            points = s.last.points;
            has = record { commit = last.commit; there = last.there; number = ap (λ (v : Version). v.0) it.number; points = it.points; is_sealed = last.is_sealed };
            point = is ∙ same_point s.last.points session;
            low = low_last;
          }

      -- the one's that finishes
      of_hand : IsInHand begun s true → told.point ≡ finish.point_of (slice_get s.seek.points session) → Tells before told
      of_hand hand is =
          let lived = life_staged opening start before opens.quiet.guarded opens.quiet.opened opens.quiet.seen.rests in
          let next = lived.staged.keeper.has.next in
          let same = ap (λ (v : Version). v.0) (lived.staged.keeper.has.hand hand.commit hand.in_hand).0 in
          let number = ap (λ (v : Version). v.0) hand.number in
          let low = low_last in
          record {
            at = hand.newest.number.0;
            points = s.seek.points;
            has = record { commit = hand.newest; there = subst (λ (xs : List BegunCommit). IsIn hand.newest xs) (sym hand.its) (inl refl); number = refl; points = hand.points; is_sealed = hand.is_so };
            point = is ∙ same_point s.seek.points session;
            low = omega (arith, next, same, number, low);
          }

      in_finish : IsInHand begun s true → (step : Finishing) → told.point ≡ durable_in s.last.points s.seek.points step session → Tells before told
      in_finish hand (finishing.StoresDurable next) is = by_test (nat_lt session next) is
        where
          by_test : (b : Bool) → told.point ≡ (if b then finish.point_of (slice_get s.seek.points session) else finish.point_of (slice_get s.last.points session)) → Tells before told
          by_test true seeks = of_hand hand seeks
          by_test false lasts = of_last lasts
      in_finish hand finishing.StoresRest is = of_hand hand is
      in_finish hand (finishing.Ended its) is = of_hand hand is

      at_step : (step : Keeping) → AtKeeping begun s step → told.point ≡ durable_at s step session → Tells before told
      at_step Finishes at is = in_finish at s.finish.step is
      at_step (Ended its) at is = of_last is
      at_step Starts at is = of_last is
      at_step Maintains at is = of_last is
      at_step LoadsPhase at is = of_last is
      at_step Enters at is = of_last is
      at_step Copies at is = of_last is
      at_step Sweeps at is = of_last is
      at_step Seeks at is = of_last is
      at_step Waits at is = of_last is
      at_step Writes at is = of_last is

  new_tells : (event : Event) (before : List Event) (told : ToldPoint) → IsNew opening opens.quiet.opened event before session told → Tells before told
  new_tells event before told new =
      let there = new.there in
      let seat : session < opening.now.places.sessions = seat_of opening session there.0 opens.quiet.opened there.1 in
      let word = durable opening before session opens.quiet.opened opens.quiet.guarded.words.enough_words shows seat in
      let n : KeeperState = (run opening before).now.keeper in
      at_step before told new.finished (come_to n) (stands before) (new.point ∙ (word ∙ durable_come n session (life_rests opening before opens.quiet.opened)))

  -- ---- each answer
  nothing_yet : {X : Type 0} (told : ToldPoint) (trace : List Traced) → trace ≡ [] → IsIn told (points_told session trace) → X
  nothing_yet told [] none there = absurd there
  nothing_yet told (it ∷ before) none there = cc

  life_tells : (events : List Event) (told : ToldPoint) → IsIn told (points_told session (run opening events).past.trace) → Tells events told
  unfolding run
  life_tells [] told there = nothing_yet told opening.past.trace opens.quiet.opened.no_trace there
  life_tells (event ∷ before) told there = elim (told_now opening opens.quiet.opened event before session told there) [
    | inl earlier ↦ tells_on event before told (life_tells before told earlier)
    | inr new ↦ tells_on event before told (new_tells event before told new)
  ]

pub tells_sealed : BegunAreInTurn → FinishedAreTold → DurableWordsShowPoints → BegunHavePoints → TellsSealedPoints
tells_sealed in_turn finished durable have opening start events session told opens shows there =
    let its = life_tells in_turn finished durable opening start opens shows session events told there in
    let has = its.has in
    let own_point = have opening start events has.commit opens has.there session in
    record {
      commit = has.commit;
      begun = has.there;
      is_sealed = has.is_sealed;
      point = its.point ∙ ap (λ (points : List Serial). point_of points session) (sym has.points);
      since = λ d begun up.
          let number = has.number in
          let low = its.low in
          let other = have opening start events d opens begun session in
          let rises = rises_by_version opening events session d.number.0 has.commit.number.0 (omega (arith, up, low, number)) in
          let is = its.point in
          let same = ap (λ (points : List Serial). point_of points session) has.points in
          omega (arith, own_point, other, rises, is, same);
    }
