-- What a try knows of versions stays as the log grows, if its home gets no later version that it hasn't already.
use Rattle.std.proofs.Common.{◌≡◌, ◌⊎◌, inl, inr, ℕ, ◌<◌, ◌≤◌, refl, sym, ap, ◌∙◌, subst, arith, Bool, true, false, Option, Some, None}
use Rattle.std.specs.Prelude.{nat_lt}
use Rattle.fkv_base.specs.declared.numbers.Version.{Version}
use Rattle.fkv_map.specs.Map.{Map}
use Rattle.fkv_plane.specs.declared.places.Places.{Places}
use Rattle.law_log.specs.Chains.{Cell, Dropped, Logged, Published, Reserved, Unborn, version_at}
use Rattle.law_log.specs.Ghosts.{Log}
use Rattle.law_log.specs.Trace.{IsIn}
use Rattle.law_log.proofs.Shown.{Grows, Held, not_unborn}
use Rattle.law_local.specs.Below.fkv_ops.Request.{Request}
use Rattle.law_local.specs.Below.fkv_ops.Seen.{Seen}
use Rattle.law_local.specs.Below.fkv_ops.TheTrying.{Trying}
use Rattle.law_local.specs.Below.fkv_ops.TheTrying.TheVariants as try
use Rattle.law_local.specs.Below.fkv_ops.WalkAnswer.{WalkAnswer}
use Rattle.law_local.specs.Below.fkv_ops.WalkAnswer.TheVariants as walk
use Rattle.law_local.specs.Below.fkv_ops.TheWalking.{Walking}
use Rattle.law_local.specs.Below.fkv_ops.TheWalking.TheVariants.{Ended, Finds, HasFound, LoadsValue, Meets}
use Rattle.law_local.specs.Below.fkv_ops.Trying.{TryState, is_prepare}
use Rattle.law_local.specs.Below.fkv_ops.Walking.{WalkState}
use Rattle.law_local.specs.Below.fkv_pending.TheAttempting.{Attempting}
use Rattle.law_local.specs.Below.fkv_pending.TheAttempting.TheVariants as attempt
use Rattle.law_local.specs.Below.fkv_pending.PendingRequest.{PendingRequest}
use Rattle.law_local.specs.Below.fkv_pending.Attempting.{AttemptState}
use Rattle.law_local.specs.Tries.TryRows.{NoneIsLater, head_in, key_in}
use Rattle.law_local.specs.Tries.WalkRows.{begin_of}
use Rattle.law_local.proofs.OfTries.OnWay.{fixed_grows, found_grows}
use Rattle.law_apart.specs.Apart.Rows.{AttemptApart, CopiesApart, CopiesRow, EndApart, HasComeTo, HasMet, HasMetFirst, HasOwn, PendingApart, RaisesNone, SharesRow, ShowsLater, TryApart, WalkApart, shares_now, MetIn}
use Rattle.law_apart.proofs.OfApart.Tests.{lt_false, lt_true}

module _ (home : ℕ → ℕ) (m : Map) (log log' : Log) (held : Held home m log) (grows : Grows home m log log') where
  -- a published record keeps its version
  version_stays : (a n : ℕ) → n < version_at (log.cells a) → n < version_at (log'.cells a)
  version_stays a n high = by_cell (log.cells a) refl high
    where
      by_cell : (logged : Logged) → log.cells a ≡ logged → n < version_at logged → n < version_at (log'.cells a)
      by_cell (Published cell) its above = let is = ap version_at (grows.published a cell its).still in omega (arith, is, above)
      by_cell Unborn its above = absurd (omega (arith, above))
      by_cell (Reserved entry cell) its above = absurd (omega (arith, above))
      by_cell (Dropped cell) its above = absurd (omega (arith, above))

  met_stays : (from : ℕ) (version : Version) → HasMet log from version → HasMet log' from version
  met_stays from version met =
      let stays = grows.published from met.cell met.its in
      record { cell = record met.cell { value = stays.value }; its = stays.still; its_mark = met.its_mark }

  come_stays : (from at : ℕ) (first : Option Version) → HasComeTo log from first at → HasComeTo log' from first at
  come_stays from at None come = come
  come_stays from at (Some version) come = met_stays from version come

  first_stays : (from : ℕ) (first : Option Version) → HasMetFirst log from first → HasMetFirst log' from first
  first_stays from None met = absurd met
  first_stays from (Some version) met = met_stays from version met

  -- what is in a chain stays there
  in_stays : (h : ℕ) (first : Option Version) → MetIn log (log.chains h) first → MetIn log' (log'.chains h) first
  in_stays h None met = met
  in_stays h (Some version) met = record { at = met.at; is_in = chain_stays h met.at met.is_in; met = met_stays met.at version met.met }
    where
      chain_stays : (h a : ℕ) → IsIn a (log.chains h) → IsIn a (log'.chains h)
      chain_stays h a is_in = elim (grows.chains h a (inr is_in)).1 [
        | inl zero ↦ absurd (not_unborn (log.cells a) (held.chains.in_chain h a is_in).cell (held.chains.in_chain h a is_in).its (ap log.cells zero ∙ held.none))
        | inr there ↦ there
      ]

  own_stays : (request : Request) (from : ℕ) → HasOwn home log request from → HasOwn home log' request from
  own_stays request from own = record {
    at = own.at;
    found = found_grows home m log log' (key_in request) from own.at request.version.0 held grows own.found;
    fixed = fixed_grows home m log log' own.at grows own.fixed;
  }

  -- ---- of a request whose home gets no later version
  pub none_stays : (request : Request) → RaisesNone log log' (home (key_in request)) request.version.0 → NoneIsLater home log request → NoneIsLater home log' request
  none_stays request raises none update a is_in = by_test (nat_lt request.version.0 (version_at (log'.cells a))) refl
    where
      by_test : (b : Bool) → nat_lt request.version.0 (version_at (log'.cells a)) ≡ b → version_at (log'.cells a) ≤ request.version.0
      by_test true e =
          let was = raises a is_in (lt_true request.version.0 (version_at (log'.cells a)) e) in
          let low = none update was.0 was.1 in
          let high = was.2 in
          absurd (omega (arith, low, high))
      by_test false e = lt_false request.version.0 (version_at (log'.cells a)) e

  module _ (request : Request) (seen : Seen) (raises : RaisesNone log log' (home (key_in request)) request.version.0) where
    shows_stays : (from : ℕ) → ShowsLater home log request seen from → ShowsLater home log' request seen from
    shows_stays from shows a later =
        let was = raises a later.0 later.1 in
        let its = shows was.0 (was.1, was.2) in
        (its.0, version_stays from request.version.0 its.1)

    end_stays : (w : WalkState) (its : WalkAnswer) → EndApart home log request seen w its → EndApart home log' request seen w its
    end_stays w (walk.Found addr version) so = (shows_stays (begin_of w) so.0, first_stays (begin_of w) w.first so.1)
    end_stays w walk.Nowhere so = (shows_stays (begin_of w) so.0, come_stays (begin_of w) 0 w.first so.1)
    end_stays w (walk.OnDisk addr) so = (shows_stays (begin_of w) so.0, come_stays (begin_of w) addr.0 w.first so.1, so.2)
    end_stays w (walk.Value value) so = absurd so
    end_stays w walk.Full so = absurd so
    end_stays w walk.Kept so = absurd so
    end_stays w walk.Contended so = absurd so

    ended_stays : (w : WalkState) (its : WalkAnswer) → WalkApart home log request seen w (Ended its) → WalkApart home log' request seen w (Ended its)
    ended_stays w (walk.Found addr version) so = absurd so
    ended_stays w walk.Nowhere so = end_stays w walk.Nowhere so
    ended_stays w (walk.OnDisk addr) so = end_stays w (walk.OnDisk addr) so
    ended_stays w (walk.Value value) so = absurd so
    ended_stays w walk.Full so = absurd so
    ended_stays w walk.Kept so = absurd so
    ended_stays w walk.Contended so = absurd so

    walk_stays : (w : WalkState) (step : Walking) → WalkApart home log request seen w step → WalkApart home log' request seen w step
    walk_stays w Finds so = so
    walk_stays w (Meets addr) so = (shows_stays (begin_of w) so.0, come_stays (begin_of w) addr.0 w.first so.1)
    walk_stays w (HasFound addr version) so = end_stays w (walk.Found addr version) so
    walk_stays w (Ended its) so = ended_stays w its so
    walk_stays w LoadsValue so = absurd so

  -- ---- tries
  module _ (t : TryState) (raises : t.has_shared ≡ true → RaisesNone log log' (home (key_in t.request)) t.request.version.0) where
    none_on : t.has_shared ≡ true → NoneIsLater home log t.request → NoneIsLater home log' t.request
    none_on has none = none_stays t.request (raises has) none

    shares_stays : (step : Trying) → t.has_shared ≡ true → SharesRow home log t step → SharesRow home log' t step
    shares_stays try.TakesShared has row = tt
    shares_stays try.LoadsPhase has row = tt
    shares_stays try.Walks has row = elim row [ inl none ↦ inl (none_on has none.0, in_stays (home (key_in t.request)) t.walk.first none.1) | inr apart ↦ inr (apart.0, apart.1, walk_stays t.request t.seen (raises has) t.walk t.walk.step apart.2, apart.3, apart.4) ]
    shares_stays (try.DropsExclusive its) has row = λ wait. none_on has (row wait)
    shares_stays try.CountsTaken has row = none_on has row
    shares_stays (try.LoadsTail waiting) has row = none_on has row
    shares_stays (try.LoadsTaken waiting) has row = none_on has row
    shares_stays (try.Ended its) has row = none_on has row
    shares_stays (try.LoadsSafe addr version) has row = none_on has row
    shares_stays (try.SwapsValue addr) has row = none_on has row
    shares_stays (try.LoadsCurrent addr) has row = none_on has row
    shares_stays (try.ChangesValue addr old) has row = none_on has row
    shares_stays try.LoadsAnswer has row = none_on has row
    shares_stays (try.TakesExclusive old) has row = none_on has row
    shares_stays try.LoadsOld has row = none_on has row
    shares_stays (try.Appends its) has row = none_on has row
    shares_stays (try.DropsShared its) has row = none_on has row

    copies_on : CopiesApart home log t → CopiesApart home log' t
    copies_on copies moves = elim (copies moves) [ inl has ↦ inl has | inr own ↦ inr (own_stays t.request (begin_of t.walk) own) ]

    copies_stay : (step : Trying) → CopiesRow home log t step → CopiesRow home log' t step
    copies_stay try.LoadsOld row = copies_on row
    copies_stay (try.Appends its) row = copies_on row
    copies_stay try.TakesShared row = tt
    copies_stay try.LoadsPhase row = tt
    copies_stay try.Walks row = tt
    copies_stay try.CountsTaken row = tt
    copies_stay (try.LoadsTail waiting) row = tt
    copies_stay (try.LoadsTaken waiting) row = tt
    copies_stay (try.DropsExclusive its) row = tt
    copies_stay (try.Ended its) row = tt
    copies_stay (try.LoadsSafe addr version) row = tt
    copies_stay (try.SwapsValue addr) row = tt
    copies_stay (try.LoadsCurrent addr) row = tt
    copies_stay (try.ChangesValue addr old) row = tt
    copies_stay try.LoadsAnswer row = tt
    copies_stay (try.TakesExclusive old) row = tt
    copies_stay (try.DropsShared its) row = tt

    pub try_stays : TryApart home log t → TryApart home log' t
    try_stays apart = record { latch = apart.latch; shares = λ has. shares_stays t.step has (apart.shares has); copies = copies_stay t.step apart.copies }

  -- ---- requests that wait
  pub pending_stays : (pending : PendingRequest) → (pending.request.has_latch ≡ true → RaisesNone log log' (home (key_in pending.request)) pending.request.version.0) → PendingApart home log pending → PendingApart home log' pending
  pending_stays pending raises apart has = none_stays pending.request (raises has) (apart has)

  -- ---- attempts
  pub attempt_stays : (p : Places) (a : AttemptState) (step : Attempting) → (step ≡ attempt.Tries → a.trial.request ≡ a.pending.request)
      → (shares_now a step ≡ true → RaisesNone log log' (home (key_in a.pending.request)) a.pending.request.version.0) → AttemptApart home p log a step → AttemptApart home p log' a step
  attempt_stays p a attempt.Tries same raises apart =
      (try_stays a.trial (λ has. subst (λ (r : Request). RaisesNone log log' (home (key_in r)) r.version.0) (sym (same refl)) (raises has)) apart.0, apart.1)
  attempt_stays p a (attempt.Ended its) same raises apart = pending_stays a.pending raises apart
  attempt_stays p a attempt.Looks same raises apart = pending_stays a.pending raises apart
  attempt_stays p a attempt.Puts same raises apart = pending_stays a.pending raises apart
