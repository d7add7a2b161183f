-- The newest finished commit has begun, so its points are the sessions' points of its number. Those of the commit in hand are no less.
use Rattle.std.proofs.Common.{◌≡◌, inl, inr, ◌∙◌, List, ◌∷◌, refl, arith, ap, sym, subst, Bool, true, false}
use Rattle.fkv_base.specs.declared.numbers.Serial.{Serial}
use Rattle.fkv_base.specs.declared.numbers.Version.{Version}
use Rattle.law_refine.specs.Below.fkv_keeper.TheKeeping.{Keeping}
use Rattle.law_refine.specs.Below.fkv_keeper.TheKeeping.TheVariants.{Ended, Starts, Maintains, LoadsPhase, Enters, Copies, Seeks, Waits, Writes, Finishes, Sweeps}
use Rattle.law_refine.specs.Below.fkv_keeper.Keeping.{Finality, KeeperState, come_to}
use Rattle.fkv_map.specs.History.{point_of}
use Rattle.law_refine.specs.Below.fkv_world.Runs.{run}
use Rattle.law_log.specs.Trace.{IsIn}
use Rattle.law_commit.specs.Accepted.{point}
use Rattle.law_commit.specs.BegunCommits.{BegunCommit, life_begun}
use Rattle.law_commit.specs.HeldCommits.{AreFinished, AtEnd, AtKeeping, HaveFinished, IsAsLast}
use Rattle.law_commit.specs.Points.{BegunHavePoints, LastHasPoints, RisesFromLast, TakesPoints}
use Rattle.law_commit.proofs.LifeBegun.{life_stands}
use Rattle.law_commit.proofs.OfPhases.LifeStages.{life_staged}
use Rattle.law_commit.proofs.OfPoints.Rises.{rises_by_version}

-- ---- among those that have begun
pub record IsLastOf (begun : List BegunCommit) (last : Finality) : Type 0 where
  pub commit : BegunCommit
  pub there : IsIn commit begun
  pub is_sealed : (let c = commit in c.is_sealed ≡ true)
  pub its : IsAsLast last commit

finished_last : (begun : List BegunCommit) (last : Finality) → HaveFinished begun last → IsLastOf begun last
finished_last begun last all = record {
  commit = all.newest;
  there = subst (λ (xs : List BegunCommit). IsIn all.newest xs) (sym all.its) (inl refl);
  is_sealed = (subst AreFinished all.its all.finished).0;
  its = all.last;
}

older_last : (begun older : List BegunCommit) (newest : BegunCommit) (last : Finality) → begun ≡ newest ∷ older → HaveFinished older last → IsLastOf begun last
older_last begun older newest last same all =
    let its = finished_last older last all in
    record { commit = its.commit; there = subst (λ (xs : List BegunCommit). IsIn its.commit xs) (sym same) (inr its.there); is_sealed = its.is_sealed; its = its.its }

end_last : (begun : List BegunCommit) (s : KeeperState) (broken : Bool) → AtEnd begun s broken → IsLastOf begun s.last
end_last begun s true (inl all) = finished_last begun s.last all
end_last begun s true (inr one) = older_last begun one.older one.newest s.last one.its one.others
end_last begun s false all = finished_last begun s.last all

pub last_of : (begun : List BegunCommit) (s : KeeperState) (step : Keeping) → AtKeeping begun s step → IsLastOf begun s.last
last_of begun s Finishes its = older_last begun its.older its.newest s.last its.its its.others
last_of begun s Writes (inl all) = finished_last begun s.last all
last_of begun s Writes (inr one) = older_last begun one.older one.newest s.last one.its one.others
last_of begun s (Ended told) its = end_last begun s s.is_broken its
last_of begun s Starts its = finished_last begun s.last its
last_of begun s Maintains its = finished_last begun s.last its
last_of begun s LoadsPhase its = finished_last begun s.last its
last_of begun s Enters its = finished_last begun s.last its
last_of begun s Copies its = finished_last begun s.last its
last_of begun s Sweeps its = finished_last begun s.last its
last_of begun s Seeks its = finished_last begun s.last its
last_of begun s Waits its = finished_last begun s.last its

-- ---- in a life
pub last_has_points : BegunHavePoints → LastHasPoints
last_has_points begun opening start events opens session =
    let s : KeeperState = (run opening events).now.keeper in
    let last = last_of (life_begun opening events) s (come_to s) (life_stands opening events opens.quiet.opened) in
    let its = begun opening start events last.commit opens last.there session in
    let is = last.its in
    let points = ap (λ (x : List Serial). point_of x session) is.points in
    let number = ap (λ (v : Version). point opening events session v.0) is.number in
    sym points ∙ (its ∙ number)

pub rises_from_last : BegunHavePoints → TakesPoints → RisesFromLast
rises_from_last begun takes opening start events c session opens in_hand taken =
    let lived = life_staged opening start events opens.quiet.guarded opens.quiet.opened opens.quiet.seen.rests in
    let next = lived.staged.keeper.has.next in
    let same = ap (λ (v : Version). v.0) (lived.staged.keeper.has.hand c in_hand).0 in
    let last = last_has_points begun opening start events opens session in
    let now = takes opening start events c opens in_hand taken session in
    let up = rises_by_version opening events session (run opening events).now.keeper.last.number.0 c.number.0 (omega (arith, next, same)) in
    omega (arith, last, now, up)
