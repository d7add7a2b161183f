-- What a session is told as durable is no less than what it was told before.
use Rattle.std.proofs.Common.{◌≡◌, inl, inr, ℕ, ◌<◌, ◌≤◌, ◌∙◌, List, [], ◌∷◌, refl, arith, ap, sym, subst, true, false}
use Rattle.std.specs.Prelude.{nat_lt, slice_get}
use Rattle.std.proofs.lemmas.Bool.Decides.{nat_tests}
use Rattle.fkv_base.specs.declared.numbers.Serial.{Serial}
use Rattle.fkv_base.specs.declared.numbers.Version.{Version}
use Rattle.fkv_plane.specs.declared.places.SessionWord.TheVariants as own
use Rattle.fkv_plane.specs.Places.{session_place}
use Rattle.law_refine.specs.Below.fkv_commit.TheFinishing.{Finishing}
use Rattle.law_refine.specs.Below.fkv_commit.TheFinishing.TheVariants as finishing
use Rattle.law_refine.specs.Below.fkv_commit.Finishing as finish
use Rattle.law_refine.specs.Below.fkv_keeper.TheKeeping.{Keeping}
use Rattle.law_refine.specs.Below.fkv_keeper.TheKeeping.TheVariants.{Finishes}
use Rattle.law_refine.specs.Below.fkv_keeper.Keeping.{KeeperState}
use Rattle.fkv_map.specs.History.{point_of}
use Rattle.law_refine.specs.Below.fkv_world.Past.{Traced}
use Rattle.law_refine.specs.Below.fkv_world.Runs.{World, run}
use Rattle.law_refine.specs.Below.fkv_world.World.{Event}
use Rattle.law_log.specs.Trace.{IsIn}
use Rattle.law_commit.specs.BegunCommits.{BegunCommit, life_begun}
use Rattle.law_commit.specs.HeldCommits.{AtKeeping, IsInHand}
use Rattle.law_commit.specs.Cuts.{ShowsDurable, durable_at, durable_in, word_now}
use Rattle.law_commit.specs.Laws.Cuts.{DurableWordsShowPoints}
use Rattle.law_commit.specs.Points.{BegunHavePoints, LastHasPoints, OpensPointed}
use Rattle.law_commit.specs.ToldDurable.{NoneFalls, ToldNeverFalls}
use Rattle.law_commit.specs.ToldPoints.{ToldPoint, points_told}
use Rattle.law_commit.proofs.InRest.{awake_so, come_awake}
use Rattle.law_commit.proofs.LifeBegun.{life_rests, life_stands}
use Rattle.law_commit.proofs.OfCuts.Durables.{durable_left}
use Rattle.law_commit.proofs.OfPhases.LifeStages.{life_staged}
use Rattle.law_commit.proofs.OfPoints.Rises.{rises_by_version}
use Rattle.law_commit.proofs.OfTold.News.{IsNew, IsToldMore, told_more}
use Rattle.law_commit.proofs.OfTold.Sealed.{same_point}

-- ---- what was told
higher : (low high : ℕ) (told : List ToldPoint) → low ≤ high → NoneFalls low told → NoneFalls high told
higher low high [] up falls = tt
higher low high (it ∷ before) up falls = let most = falls.0 in (omega (arith, up, most), falls.1)

module _ (durable : DurableWordsShowPoints) (have : BegunHavePoints) (last_have : LastHasPoints) (opening : World) (start : ℕ) (opens : OpensPointed opening start) (shows : ShowsDurable opening.now) (session : ℕ) (seat : session < opening.now.places.sessions) where
  abbrev durable_word : List Event → ℕ
  durable_word events = word_now opening events (session_place session own.Durable)

  -- ---- the durable word never falls
  module _ (before : List Event) where
    abbrev s : KeeperState
    s = (run opening before).now.keeper

    abbrev begun : List BegunCommit
    begun = life_begun opening before

    -- the point of the commit that finishes is no less than that of the one before
    point_rises : s.step ≡ Finishes → point_of s.last.points session ≤ point_of s.seek.points session
    point_rises finishes =
        let awake = awake_so s Finishes finishes (λ may. may) (life_rests opening before opens.quiet.opened) in
        let hand : IsInHand begun s true = subst (λ (x : Keeping). AtKeeping begun s x) (come_awake s Finishes awake finishes) (life_stands opening before opens.quiet.opened) in
        let lived = life_staged opening start before opens.quiet.guarded opens.quiet.opened opens.quiet.seen.rests in
        let next = lived.staged.keeper.has.next in
        let same = ap (λ (v : Version). v.0) (lived.staged.keeper.has.hand hand.commit hand.in_hand).0 in
        let number = ap (λ (v : Version). v.0) hand.number in
        let here : IsIn hand.newest begun = subst (λ (xs : List BegunCommit). IsIn hand.newest xs) (sym hand.its) (inl refl) in
        let its = have opening start before hand.newest opens here session in
        let points = ap (λ (x : List Serial). point_of x session) hand.points in
        let last = last_have opening start before opens session in
        let up = rises_by_version opening before session s.last.number.0 hand.newest.number.0 (omega (arith, next, same, number)) in
        omega (arith, its, points, last, up)

    -- the word that the store replaces
    replaced : (step : Keeping) (at : Finishing) → step ≡ Finishes → s.finish.step ≡ at → at ≡ finishing.StoresDurable session → durable_at s step session ≡ finish.point_of (slice_get s.last.points session)
    replaced Finishes (finishing.StoresDurable next) is met stores =
        let same : next ≡ session = cc in
        let not_yet : nat_lt session session ≡ false = grind (arith, nat_tests) in
        ap (λ (x : Finishing). durable_in s.last.points s.seek.points x session) (met ∙ stores) ∙ rw not_yet refl
    replaced Finishes (finishing.Ended told) is met stores = cc
    replaced Finishes finishing.StoresRest is met stores = cc
    replaced step at is met stores = cc

    word_rises : (event : Event) → durable_word before ≤ durable_word (event ∷ before)
    word_rises event = elim (durable_left opening event before session opens.quiet.opened opens.quiet.guarded.words.enough_words seat) [
      | inl same ↦ omega (arith, same)
      | inr stored ↦
          let was = durable opening before session opens.quiet.opened opens.quiet.guarded.words.enough_words shows seat in
          let old = replaced s.step s.finish.step stored.finishes refl stored.stores in
          let last = same_point s.last.points session in
          let new = same_point s.seek.points session in
          let up = point_rises stored.finishes in
          let is = stored.is in
          omega (arith, was, old, last, new, up, is)
    ]

  nothing_yet : (most : ℕ) (trace : List Traced) → trace ≡ [] → NoneFalls most (points_told session trace)
  nothing_yet most [] none = tt
  nothing_yet most (it ∷ before) none = cc

  told_on : (event : Event) (before : List Event) (points : List ToldPoint) → IsToldMore opening opens.quiet.opened event before session points → NoneFalls (durable_word before) (points_told session (run opening before).past.trace) → NoneFalls (durable_word (event ∷ before)) points
  told_on event before points (inl same) falls =
      subst (λ (xs : List ToldPoint). NoneFalls (durable_word (event ∷ before)) xs) (sym same) (higher (durable_word before) (durable_word (event ∷ before)) (points_told session (run opening before).past.trace) (word_rises before event) falls)
  told_on event before points (inr more) falls =
      let new : IsNew opening opens.quiet.opened event before session more.0 = more.2 in
      let up = word_rises before event in
      let is = new.point in
      subst (λ (xs : List ToldPoint). NoneFalls (durable_word (event ∷ before)) xs) (sym more.1)
      (omega (arith, up, is), subst (λ (n : ℕ). NoneFalls n (points_told session (run opening before).past.trace)) (sym is) falls)

  life_falls : (events : List Event) → NoneFalls (durable_word events) (points_told session (run opening events).past.trace)
  unfolding run
  life_falls [] = nothing_yet (durable_word []) opening.past.trace opens.quiet.opened.no_trace
  life_falls (event ∷ before) = told_on event before (points_told session (run opening (event ∷ before)).past.trace) (told_more opening opens.quiet.opened event before session) (life_falls before)

pub told_never_falls : DurableWordsShowPoints → BegunHavePoints → LastHasPoints → ToldNeverFalls
told_never_falls durable have last_have opening start events session opens shows seat = life_falls durable have last_have opening start opens shows session seat events
