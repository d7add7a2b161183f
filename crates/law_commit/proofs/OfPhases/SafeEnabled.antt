-- An epoch that is safe may be so on paper, where that shows the sessions.
use Rattle.std.proofs.Common.{◌≡◌, ℕ, ◌<◌, ◌≤◌, ◌∙◌, List, refl, arith, sym, ap, subst, true}
use Rattle.std.specs.Prelude.{Option, Some, None, slice_get}
use Rattle.fkv_epoch.specs.EpochWorld.{epoch_of, safe_of}
use Rattle.fkv_epoch.proofs.Shown.{safe_is_below}
use Rattle.law_refine.specs.Below.fkv_flush.GuardWorld.{epoch_world}
use Rattle.law_refine.specs.Below.fkv_session.Sessions.{SessionState}
use Rattle.law_refine.specs.Below.fkv_session.SessionRun.{session_run}
use Rattle.law_refine.specs.Below.fkv_world.Opened.{HasBecome, IsOpenedWorld}
use Rattle.law_refine.specs.Below.fkv_world.OwnEvents.{session_events}
use Rattle.law_refine.specs.Below.fkv_world.Runs.{World, run}
use Rattle.law_refine.specs.Below.fkv_world.World.{Event, seat_at}
use Rattle.law_refine.proofs.Below.fkv_world.Shown.{session_runs}
use Rattle.law_refine.specs.Below.law_world.Guarded.Shows as guard
use Rattle.law_refine.specs.Below.law_world.Guarded.Shows.{seen_by_guard}
use Rattle.law_refine.proofs.Below.law_world.OfGuarded.Worlds.{life_shows}
use Rattle.law_paper.specs.Phases as paper
use Rattle.law_paper.specs.Phases.{MayBeSafe, Phasing}
use Rattle.law_commit.specs.Phases.Projected.{SafeIsEnabled, ShowsSession, ShowsSessions, is_coming}
use Rattle.law_commit.specs.Views.{View, sight_of}
use Rattle.law_commit.proofs.OfPhases.Awake.{life_live}
use Rattle.law_commit.proofs.OfPhases.SafeSeen.{safe_coming, safe_view}

module _ (p : Phasing) (opening : World) (start : ℕ) (events : List Event) (m : ℕ) (guarded : guard.IsOpened opening.now start) (opened : IsOpenedWorld opening) (shows : ShowsSessions p.sessions opening events)
    (safe : m ≤ safe_of (run opening events).now.words) where
  became : (session : ℕ) (first : SessionState) → slice_get opening.now.sessions session ≡ Some first → HasBecome opening events session first (session_run (seat_at opening.now session) first (session_events opening session events))
  became session first was = record { opened = opened; was = was; is_now = session_runs opening session first events was }

  below : (stamp view : ℕ) → stamp ≡ view → m < view → m < stamp
  below stamp view e low = omega (arith, e, low)

  views_above : (session : ℕ) (found : Option SessionState) → slice_get opening.now.sessions session ≡ found → p.sessions.live session ≡ true → m < (p.sessions.view session).stamp
  views_above session None gone live = let none = (shows.none session gone).0 in cc
  views_above session (Some first) was live =
      let its : SessionState = session_run (seat_at opening.now session) first (session_events opening session events) in
      let there = became session first was in
      let shown = shows.there session first its there in
      let awake : its.is_awake ≡ true = sym shown.live ∙ live in
      below (p.sessions.view session).stamp (sight_of opening events session).view.stamp (ap (λ (v : paper.View). v.stamp) (shown.view awake))
      (safe_view opening start events session first its m guarded there (life_live opening events session first its there ∙ awake) safe)

  coming_above : (session : ℕ) (first its : SessionState) (coming : Option View) → HasBecome opening events session first its → ShowsSession p.sessions session (sight_of opening events session) its.is_awake
      → (sight_of opening events session).coming ≡ coming → is_coming coming ≡ true → m < (p.sessions.coming session).stamp
  coming_above session first its None there shown e comes = cc
  coming_above session first its (Some view) there shown e comes =
      below (p.sessions.coming session).stamp view.stamp (ap (λ (v : paper.View). v.stamp) (shown.coming view e)) (safe_coming opening start events session first its m view guarded there e safe)

  comings_above : (session : ℕ) (found : Option SessionState) → slice_get opening.now.sessions session ≡ found → p.sessions.comes session ≡ true → m < (p.sessions.coming session).stamp
  comings_above session None gone comes = let none = (shows.none session gone).1 in cc
  comings_above session (Some first) was comes =
      let its : SessionState = session_run (seat_at opening.now session) first (session_events opening session events) in
      let there = became session first was in
      let shown = shows.there session first its there in
      coming_above session first its (sight_of opening events session).coming there shown refl (sym shown.comes ∙ comes)

  epoch_above : p.epoch ≡ epoch_of (run opening events).now.words → m < p.epoch
  epoch_above same =
      let guards = life_shows opening start events guarded in
      let low = safe_is_below (epoch_world (seen_by_guard opening start events)) guards.sound.epochs in
      let here : safe_of (run opening events).now.words < epoch_of (run opening events).now.words = subst (λ (words : List ℕ). safe_of words < epoch_of words) guards.words low in
      omega (arith, here, same, safe)

pub safe_enabled : SafeIsEnabled
safe_enabled p opening start events m guarded opened same shows safe = record {
  below = epoch_above p opening start events m guarded opened shows safe same;
  views = λ session live. views_above p opening start events m guarded opened shows safe session (slice_get opening.now.sessions session) refl live;
  coming = λ session comes. comings_above p opening start events m guarded opened shows safe session (slice_get opening.now.sessions session) refl comes;
}
