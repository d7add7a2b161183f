-- From the safe read-only offset on each record is of a later version than the newest finished commit: that one's end was flushed before it was written.
use Rattle.std.proofs.Common.{◌≡◌, inl, inr, ℕ, ◌≤◌, refl, sym, ap, subst, arith, Bool, true, false, List, [], ◌∷◌, ◌++◌}
use Rattle.std.specs.Prelude.{Some}
use Rattle.fkv_base.specs.declared.numbers.Version.{Version}
use Rattle.law_commit.specs.Below.fkv_keeper.TheKeeping.{Keeping}
use Rattle.law_commit.specs.Below.fkv_keeper.TheKeeping.TheVariants.{Copies, Ended, Enters, Finishes, LoadsPhase, Maintains, Seeks, Starts, Sweeps, Waits, Writes}
use Rattle.law_commit.specs.Below.fkv_keeper.Keeping.{Finality, KeeperState, come_to}
use Rattle.law_commit.specs.Below.fkv_world.Runs.{happens, run}
use Rattle.law_commit.specs.Below.fkv_world.World.{Event, Now}
use Rattle.law_commit.specs.BegunCommits.{BegunCommit, life_begun}
use Rattle.law_commit.specs.Decided.Below.{OpensWhole}
use Rattle.law_commit.specs.Decided.Ended.{IsWrittenNow, Span, span_of, span_opened}
use Rattle.law_commit.specs.HeldCommits.{AtEnd, AtKeeping, HaveFinished}
use Rattle.law_commit.specs.Versions.Cells.{made_in}
use Rattle.law_commit.proofs.Below.law_refine.OfEvents.Fixed.{life_rises}
use Rattle.law_commit.proofs.Below.law_world.OfGuarded.OfLives.{life_in_order}
use Rattle.law_commit.proofs.Below.law_world.OfGuarded.Worlds.{life_shows}
use Rattle.law_commit.specs.Below.law_world.Guarded.Shows.{seen_by_guard}
use Rattle.law_commit.specs.Below.law_refine.Events.GhostEvents.{life_ghosts, safe_at}
use Rattle.law_log.specs.Ghosts.{Log}
use Rattle.law_log.specs.Trace.{IsIn}
use Rattle.law_order.specs.Apart.Given.{Given}
use Rattle.law_order.specs.Apart.Lives.{OpensApart}
use Rattle.law_order.specs.Known.Begins.{BegunLife}
use Rattle.law_order.specs.Images.Ends.{CommitEndsBy}
use Rattle.law_order.proofs.OfApart.Moments.{number, stands}
use Rattle.law_order.proofs.OfImages.EndsFlushed.{EndsAt, flushed_at, life_ends}
use Rattle.law_order.proofs.OfImages.Resting.{at_writes}

-- ---- the newest finished commit has begun
pub record IsLast (begun : List BegunCommit) (last : Finality) : Type 0 where
  pub its : BegunCommit
  pub is_in : IsIn its begun
  pub number : (let c = its in c.number ≡ last.number)

finished_is : (begun : List BegunCommit) (last : Finality) → HaveFinished begun last → IsLast begun last
finished_is begun last all = record { its = all.newest; is_in = subst (IsIn all.newest) (sym all.its) (inl refl); number = all.last.number }

behind_is : (begun older : List BegunCommit) (newest : BegunCommit) (last : Finality) → begun ≡ newest ∷ older → HaveFinished older last → IsLast begun last
behind_is begun older newest last its others =
    let was = finished_is older last others in
    record { its = was.its; is_in = subst (IsIn was.its) (sym its) (inr was.is_in); number = was.number }

ended_is : (begun : List BegunCommit) (s : KeeperState) (broken : Bool) → AtEnd begun s broken → IsLast begun s.last
ended_is begun s true at = elim at [
  | inl all ↦ finished_is begun s.last all
  | inr one ↦ behind_is begun one.older one.newest s.last one.its one.others
]
ended_is begun s false at = finished_is begun s.last at

last_is : (begun : List BegunCommit) (s : KeeperState) (step : Keeping) → AtKeeping begun s step → IsLast begun s.last
last_is begun s Finishes at = behind_is begun at.older at.newest s.last at.its at.others
last_is begun s Writes at = elim at [
  | inl all ↦ finished_is begun s.last all
  | inr one ↦ behind_is begun one.older one.newest s.last one.its one.others
]
last_is begun s (Ended its) at = ended_is begun s s.is_broken at
last_is begun s Starts at = finished_is begun s.last at
last_is begun s Maintains at = finished_is begun s.last at
last_is begun s LoadsPhase at = finished_is begun s.last at
last_is begun s Enters at = finished_is begun s.last at
last_is begun s Copies at = finished_is begun s.last at
last_is begun s Sweeps at = finished_is begun s.last at
last_is begun s Seeks at = finished_is begun s.last at
last_is begun s Waits at = finished_is begun s.last at

module _ (given : Given) (life : BegunLife) (apart : OpensApart life) (before : List Event) where
  abbrev N : Now
  N = (run life.opening before).now

  abbrev L : Log
  L = (life_ghosts life.opening life.ghosts before).log

  whole : OpensWhole life.opening life.start life.ghosts
  whole = record { quiet = apart.quiet; unborn = life.begins.unborn; decided = life.begins.reserves; upto = apart.upto }

  last : IsLast (life_begun life.opening before) N.keeper.last
  last = last_is (life_begun life.opening before) N.keeper (come_to N.keeper) (given.begun life.opening before life.begins.world)

  -- ---- its end is flushed
  rises_one : (so_far : List Event) (event : Event) → flushed_at (run life.opening so_far) ≤ flushed_at (happens (run life.opening so_far) event)
  unfolding run
  rises_one so_far event = (life_rises life.opening life.start so_far (event ∷ []) life.begins.store.now).flushed

  rises_run : (so_far : List Event) (event : Event) → flushed_at (run life.opening so_far) ≤ flushed_at (run life.opening (event ∷ so_far))
  unfolding run
  rises_run so_far event = rises_one so_far event

  rises : (later moment : List Event) → flushed_at (run life.opening moment) ≤ flushed_at (run life.opening (later ++ moment))
  rises [] moment = omega arith
  rises (event ∷ later) moment = let up = rises later moment in let one = rises_run (later ++ moment) event in omega (arith, up, one)

  -- as it was written
  written_by : (x : Span) (moment : List Event) → IsWrittenNow x (run life.opening moment).now → x.end.0 ≤ flushed_at (run life.opening moment)
  written_by x moment was =
      let s : KeeperState = (run life.opening moment).now.keeper in
      let by : CommitEndsBy (flushed_at (run life.opening moment)) s =
      at_writes (EndsAt (flushed_at (run life.opening moment))) s was.writes (life_ends life.opening moment life.begins.store.now.keeper rises_one).ends in
      let low = by was.commit was.in_hand in
      let same : x.end.0 ≡ (let c = was.commit in c.end.0) = ap (λ (y : Span). y.end.0) was.its in
      omega (arith, low, same)

  -- the opening's ends where the log was flushed then
  opened_by : (span_opened life.opening).end.0 ≤ flushed_at (run life.opening [])
  unfolding run
  opened_by =
      let tail = life.begins.store.now.words.tail in
      let flushed = life.begins.store.now.words.flushed in
      omega (arith, tail, flushed)

  ends_flushed : (c : BegunCommit) → IsIn c (life_begun life.opening before) → c.parts.end.0 ≤ flushed_at (run life.opening before)
  ends_flushed c is_in = elim (given.ended life.opening life.start before c apart.quiet is_in) [
    | inl has ↦
        let was = has.written in
        let low = written_by (span_of c) was.moment was.was in
        let up : flushed_at (run life.opening was.moment) ≤ flushed_at (run life.opening before) = subst (λ (events : List Event). flushed_at (run life.opening was.moment) ≤ flushed_at (run life.opening events)) (sym was.split) (rises was.later was.moment) in
        omega (arith, low, up)
    | inr opened ↦
        let same : c.parts.end.0 ≡ (span_opened life.opening).end.0 = ap (λ (x : Span). x.end.0) opened in
        let low = opened_by in
        let up : flushed_at (run life.opening []) ≤ flushed_at (run life.opening before) = flushed_up before in
        omega (arith, same, low, up)
  ]
    where
      flushed_up : (events : List Event) → flushed_at (run life.opening []) ≤ flushed_at (run life.opening events)
      flushed_up [] = omega arith
      flushed_up (event ∷ rest) = let up = flushed_up rest in let one = rises_run rest event in omega (arith, up, one)

  -- ---- so each record from the safe read-only offset on is of the version of the commit that is next, or later
  pub recent : (a version : ℕ) → safe_at N ≤ a → made_in (L.cells a) ≡ Some version → number given.floors given.left life.opening life.start before apart.quiet ≤ version
  recent a version above made =
      let low = ends_flushed last.its last.is_in in
      let order = (life_in_order N (seen_by_guard life.opening life.start before) (life_shows life.opening life.start before life.begins.store.now)).flushed_below in
      let later = given.later life.opening life.start life.ghosts before last.its whole last.is_in a version (omega (arith, low, order, above)) made in
      let its : (let c = last.its in c.number.0) ≡ N.keeper.last.number.0 = ap (λ (v : Version). v.0) last.number in
      let next = (stands given.floors given.left life.opening life.start before apart.quiet).staged.keeper.has.next in
      omega (arith, later, its, next)
