-- What takes effect has no later version at its home, and no change meets a copy of its record.
use Rattle.std.proofs.Common.{◌≡◌, inl, inr, ℕ, ◌<◌, refl, sym, ap, ◌∙◌, subst, arith, Bool, true, false, List, Some}
use Rattle.std.specs.Prelude.{⊤, slice_get}
use Rattle.std.proofs.lemmas.Bool.Decides.{nat_tests}
use Rattle.fkv_epoch.proofs.Shown.{none_some, some_same}
use Rattle.law_commit.specs.Below.fkv_ops.Request.{Request}
use Rattle.law_commit.specs.Below.fkv_ops.TheTrying.{Trying}
use Rattle.law_commit.specs.Below.fkv_ops.TheTrying.TheVariants.{Appends, ChangesValue, SwapsValue}
use Rattle.law_commit.specs.Below.fkv_ops.Requests.{is_read}
use Rattle.law_commit.specs.Below.fkv_ops.Trying.{TryState}
use Rattle.law_commit.specs.Below.fkv_pending.TheAttempting.{Attempting}
use Rattle.law_commit.specs.Below.fkv_pending.TheAttempting.TheVariants.{Tries}
use Rattle.law_commit.specs.Below.fkv_session.Sessions.{SessionState}
use Rattle.law_commit.specs.Below.fkv_world.Runs.{run}
use Rattle.law_commit.specs.Below.fkv_world.World.{Event, Now, seat_at}
use Rattle.law_apart.specs.Apart.Rows.{SharesRow, shares_now}
use Rattle.law_commit.specs.Shares.Tries.{SharesSo, SharesTrying}
use Rattle.law_commit.specs.Below.law_world.GuardSessions.InPlace.{try_changes}
use Rattle.law_commit.specs.Below.law_local.Sessions.Known.{is_attempting}
use Rattle.law_commit.specs.Below.law_local.Tries.AttemptRows.{AttemptRow}
use Rattle.law_commit.specs.Below.law_local.Tries.AttemptRows as local
use Rattle.law_commit.specs.Below.law_local.Tries.OnWay.{IsFoundAt}
use Rattle.law_commit.specs.Below.law_local.Tries.Kept.{source_of}
use Rattle.law_commit.specs.Below.law_local.Tries.TryRows.{NoneIsLater, TryRow, cell_of, key_in}
use Rattle.law_commit.specs.Below.law_local.Tries.WalkRows.{begin_of}
use Rattle.law_log.specs.Chains.{Cell, Logged, Published, chain_from, has_key, version_at}
use Rattle.law_log.specs.Enabled.{AreEnabled, NoneAbove, NoneCopies}
use Rattle.law_log.specs.Ghosts.{Log, first_from}
use Rattle.law_log.proofs.Shown.{IsFirst, first_is, not_unborn}
use Rattle.law_order.specs.Apart.Given.{Given}
use Rattle.law_order.specs.Apart.Lives.{AllApartBehind, OpensApart}
use Rattle.law_order.specs.Known.Begins.{BegunLife, home_of_world}
use Rattle.law_order.specs.Known.Knows.{AllKnowBehind}
use Rattle.law_order.proofs.OfApart.Heart.{Makes, Sharer, became, gone_now, key_so, makes_key, makes_version, making_of, stands_so, version_so}
use Rattle.law_order.proofs.OfApart.Moments.{attempt_left, attempt_upto}
use Rattle.law_order.proofs.OfApart.Newest.{held, shares, trial_apart, unshared_none, unshared_said}
use Rattle.law_order.proofs.OfApart.Sharers.{attempts_held}
use Rattle.law_commit.specs.Below.law_refine.Events.Effects.{PublishesIt, mover_step}
use Rattle.law_commit.specs.Below.law_refine.Events.GhostEvents.{life_ghosts, mapped}
use Rattle.law_commit.specs.Below.law_refine.Events.Reservations.{Reservation}
use Rattle.law_commit.specs.Below.law_refine.Events.Reserved.{IsOfSession}
use Rattle.law_commit.proofs.Below.law_refine.OfEvents.ReservedLife.{life_sessions}

-- a try is about to take effect
abbrev pub TakesEffect : Trying → Type 0
TakesEffect (SwapsValue addr) = ⊤
TakesEffect (ChangesValue addr old) = ⊤
TakesEffect (Appends its) = ⊤
TakesEffect step = ⊥

module _ (given : Given) (life : BegunLife) (apart : OpensApart life) (before : List Event) (enabled : AreEnabled (home_of_world life.opening) life.ghosts (mapped life.opening before)) (known : AllKnowBehind life.opening life.ghosts before)
    (all_apart : AllApartBehind life.opening life.ghosts before) where
  abbrev N : Now
  N = (run life.opening before).now

  abbrev L : Log
  L = (life_ghosts life.opening life.ghosts before).log

  abbrev H : ℕ → ℕ
  H = home_of_world life.opening

  module _ (session : ℕ) (s : SessionState) (found : slice_get N.sessions session ≡ Some s) (attempts : is_attempting s.step ≡ true) (tries : s.attempt.step ≡ Tries) where
    abbrev t : TryState
    t = s.attempt.trial

    row : local.TriesFor H L s.attempt.pending s.attempt.seen t
    row = subst (AttemptRow H L s.attempt) tries ((known session s found).attempted attempts).row

    shares_so : (step : Trying) → TakesEffect step → SharesTrying s.seen t step → SharesSo s.seen t
    shares_so (SwapsValue addr) takes so = so
    shares_so (ChangesValue addr old) takes so = so
    shares_so (Appends its) takes so = so
    shares_so step takes so = absurd takes

    row_none : (step : Trying) → TakesEffect step → SharesRow H L t step → NoneIsLater H L t.request
    row_none (SwapsValue addr) takes so = so
    row_none (ChangesValue addr old) takes so = so
    row_none (Appends its) takes so = so
    row_none step takes so = absurd takes

    so_now : TakesEffect t.step → SharesSo s.seen t
    so_now takes = shares_so t.step takes (shares given life apart before enabled session s found attempts tries (known session s found) (all_apart session s found))

    pub none_now : TakesEffect t.step → NoneIsLater H L t.request
    none_now takes = by_share t.has_shared refl
      where
        by_share : (b : Bool) → t.has_shared ≡ b → NoneIsLater H L t.request
        by_share true e = row_none t.step takes ((trial_apart given life apart before enabled session s found attempts tries (known session s found) (all_apart session s found)).shares e)
        by_share false e = unshared_none given life apart before enabled session s found attempts tries (known session s found) (all_apart session s found) (so_now takes) e

    updates : is_read t.request.op ≡ false → is_read s.attempt.pending.request.op ≡ false
    updates update = subst (λ (r : Request). is_read r.op ≡ false) row.its_request update

    -- who shares its latch has nobody beside it that makes a record of a later version
    sharer_alone : TakesEffect t.step → is_read t.request.op ≡ false → t.has_shared ≡ true → (number : ℕ) (other : SessionState) → slice_get N.sessions number ≡ Some other → Makes other
        → H (key_in other.attempt.pending.request) ≡ H (key_in t.request) → t.request.version.0 < other.attempt.pending.request.version.0 → ⊥
    sharer_alone takes update e number other got makes same_home later =
        let first_so = became given life apart before session s found in
        let sharer : Sharer given life apart before (H (key_in t.request)) t.request.version.0 = record {
          session = session;
          state = s;
          got = found;
          op = s.attempt.pending.request.op;
          its_home = ap (λ (r : Request). H (key_in r)) row.its_request;
          left = subst (λ (r : Request). gone_now given life apart before < r.version.0) (sym row.its_request) (attempt_left given.floors given.left life.opening life.start before apart.quiet session first_so.0 s first_so.1 attempts (updates update));
          held = attempts_held (seat_at N session) s attempts (subst (λ (x : Attempting). shares_now s.attempt x ≡ true) (sym tries) e);
        } in
        let stands = stands_so given life apart before number other got (known number other got) (all_apart number other got) (held given life apart before enabled).chains makes (H (key_in t.request)) t.request.version.0 sharer same_home later in
        let low = none_now takes update stands.0 stands.1 in
        let high = stands.2 in
        omega (arith, low, high)

    -- nobody makes a record of a later version at its home
    pub none_makes : TakesEffect t.step → is_read t.request.op ≡ false → (number : ℕ) (other : SessionState) → slice_get N.sessions number ≡ Some other → Makes other
        → H (key_in other.attempt.pending.request) ≡ H (key_in t.request) → t.request.version.0 < other.attempt.pending.request.version.0 → ⊥
    none_makes takes update number other got makes same_home later = by_share t.has_shared refl
      where
        by_share : (c : Bool) → t.has_shared ≡ c → ⊥
        by_share true e = sharer_alone takes update e number other got makes same_home later
        by_share false e =
            let said = unshared_said given life apart before enabled session s found attempts tries (known session s found) (all_apart session s found) (so_now takes) e update in
            let same = ap (λ (r : Request). r.version.0) row.its_request in
            let first_so = became given life apart before number other got in
            let its_row : local.TriesFor H L other.attempt.pending other.attempt.seen other.attempt.trial = subst (AttemptRow H L other.attempt) makes.tries ((known number other got).attempted makes.attempts).row in
            let is_update : is_read other.attempt.pending.request.op ≡ false = subst (λ (r : Request). is_read r.op ≡ false) its_row.its_request (subst (TryRow H L other.attempt.trial) makes.appends its_row.knows.row).0 in
            let upto = attempt_upto given.floors given.left life.opening life.start before apart.quiet number first_so.0 other first_so.1 makes.attempts is_update in
            let ahead = given.ahead life.opening life.start before number first_so.0 other first_so.1 apart.quiet.guarded apart.quiet.seen.rests in
            omega (arith, said, same, upto, ahead, later)

    -- a record that leads to it as the first of its key has that key
    found_key : (cell : Cell) (from at : ℕ) → IsFoundAt H L (key_in t.request) from at t.request.version.0 → first_from H L cell.key cell.previous ≡ at → cell.key ≡ key_in t.request
    found_key cell from at is first = by_first (first_from H L cell.key cell.previous) (first_is (has_key cell.key) L.cells (chain_from cell.previous (L.chains (H cell.key)))) first
      where
        some : at ≡ 0 → ⊥
        some zero_is = not_unborn (L.cells at) is.cell is.its (ap L.cells zero_is ∙ (held given life apart before enabled).none)

        by_first : (x : ℕ) → IsFirst (has_key cell.key) L.cells (chain_from cell.previous (L.chains (H cell.key))) x → x ≡ at → cell.key ≡ key_in t.request
        by_first x (inl none) e = absurd (some (sym e ∙ none))
        by_first x (inr has) e =
            let test : has_key cell.key (Published is.cell) ≡ true = subst (λ (l : Logged). has_key cell.key l ≡ true) (ap L.cells e ∙ is.its) has.1 in
            let key = is.its_key in
            grind (arith, nat_tests, test, key)

    -- nobody makes a record of a later version of one that may change
    pub none_copies : TakesEffect t.step → is_read t.request.op ≡ false → (from at : ℕ) → IsFoundAt H L (key_in t.request) from at t.request.version.0 → NoneCopies H L at t.request.version.0
    none_copies takes update from at is b entry cell there older first = absurd (none_makes takes update of.number other of.has.found (making_of of.number other of.its of.has.reserved).makes same_home later)
      where
        of : IsOfSession N b entry cell
        of = life_sessions life.opening life.start life.ghosts before life.begins.store.now life.begins.unborn life.begins.reserves b entry cell there

        other : SessionState
        other = of.has.state

        same_home : H (key_in other.attempt.pending.request) ≡ H (key_in t.request)
        same_home = sym (key_so given life apart before of.number other of.has.found (known of.number other of.has.found) (all_apart of.number other of.has.found) (held given life apart before enabled).chains of.its of.has.reserved)
            ∙ ap (λ (c : Cell). H c.key) of.its_cell ∙ ap H (found_key cell from at is first)

        later : t.request.version.0 < other.attempt.pending.request.version.0
        later =
            let version = version_so given life apart before of.number other of.has.found (known of.number other of.has.found) (all_apart of.number other of.has.found) (held given life apart before enabled).chains of.its of.has.reserved in
            let same = ap (λ (c : Cell). c.version) of.its_cell in
            omega (arith, older, version, same)

    -- ---- a record that it changes in place
    record ChangesOwn (at : ℕ) : Type 0 where
      takes : TakesEffect t.step
      update : is_read t.request.op ≡ false
      is : IsFoundAt H L (key_in t.request) (begin_of t.walk) at t.request.version.0

    changes_own : (at : ℕ) → try_changes t.step ≡ Some at → ChangesOwn at
    changes_own at changes = by_step t.step refl changes
      where
        its : (step : Trying) (addr : ℕ) → t.step ≡ step → TakesEffect step → is_read t.request.op ≡ false → IsFoundAt H L (key_in t.request) (begin_of t.walk) addr t.request.version.0 → addr ≡ at → ChangesOwn at
        its step addr e takes update is same = record {
          takes = subst TakesEffect (sym e) takes;
          update = update;
          is = subst (λ (a : ℕ). IsFoundAt H L (key_in t.request) (begin_of t.walk) a t.request.version.0) same is;
        }

        by_step : (step : Trying) → t.step ≡ step → try_changes step ≡ Some at → ChangesOwn at
        by_step (SwapsValue addr) e is =
            let now : TryRow H L t (SwapsValue addr) = subst (TryRow H L t) e row.knows.row in
            its (SwapsValue addr) addr.0 e tt now.0 now.2.found (some_same addr.0 at is)
        by_step (ChangesValue addr old) e is =
            let now : TryRow H L t (ChangesValue addr old) = subst (TryRow H L t) e row.knows.row in
            its (ChangesValue addr old) addr.0 e tt now.0 now.1.found (some_same addr.0 at is)
        by_step step e is = none_some at is

    pub changes_none : (at : ℕ) → try_changes t.step ≡ Some at → NoneAbove L (H (key_in t.request)) t.request.version.0 × NoneCopies H L at t.request.version.0
    changes_none at changes = let own = changes_own at changes in (none_now own.takes own.update, none_copies own.takes own.update (begin_of t.walk) at own.is)

    -- and nobody copies that one into a later version
    pub spares : (at : ℕ) → try_changes t.step ≡ Some at → (number : ℕ) (other : SessionState) → slice_get N.sessions number ≡ Some other → Makes other
        → source_of H L (cell_of other.attempt.trial.request.version.0 other.attempt.trial.append.its_words) ≡ at → version_at (L.cells at) < (cell_of other.attempt.trial.request.version.0 other.attempt.trial.append.its_words).version → ⊥
    spares at changes number other got makes source older =
        none_makes own.takes own.update number other got makes (sym (ap H its_key) ∙ ap H (found_key (cell_of other.attempt.trial.request.version.0 other.attempt.trial.append.its_words) (begin_of t.walk) at own.is source)) later
      where
        own : ChangesOwn at
        own = changes_own at changes

        its_key : (cell_of other.attempt.trial.request.version.0 other.attempt.trial.append.its_words).key ≡ key_in other.attempt.pending.request
        its_key = makes_key given life apart before number other got (known number other got) (all_apart number other got) (held given life apart before enabled).chains makes

        later : t.request.version.0 < other.attempt.pending.request.version.0
        later =
            let version = makes_version given life apart before number other got (known number other got) (all_apart number other got) (held given life apart before enabled).chains makes in
            let is = ap version_at own.is.its in
            let own_version = own.is.its_version in
            omega (arith, older, version, is, own_version)

  -- ---- a record that is published
  pub publishes_none : (number : ℕ) (s : SessionState) → slice_get N.sessions number ≡ Some s → (its : Reservation) → PublishesIt (mover_step N number (Some s)) its → NoneAbove L (H its.cell.key) its.cell.version
  publishes_none number s found its publishes =
      let making = (making_of number s its publishes.reserved).makes in
      let chains = (held given life apart before enabled).chains in
      let row : local.TriesFor H L s.attempt.pending s.attempt.seen s.attempt.trial = subst (AttemptRow H L s.attempt) making.tries ((known number s found).attempted making.attempts).row in
      let update : is_read s.attempt.trial.request.op ≡ false = (subst (TryRow H L s.attempt.trial) making.appends row.knows.row).0 in
      let none = none_now number s found making.attempts making.tries (subst TakesEffect (sym making.appends) tt) update in
      let key = key_so given life apart before number s found (known number s found) (all_apart number s found) chains its publishes.reserved in
      let version = version_so given life apart before number s found (known number s found) (all_apart number s found) chains its publishes.reserved in
      subst (λ (h : ℕ). NoneAbove L h its.cell.version) (ap (λ (r : Request). H (key_in r)) row.its_request ∙ sym key)
      (subst (λ (v : ℕ). NoneAbove L (H (key_in s.attempt.trial.request)) v) (ap (λ (r : Request). r.version.0) row.its_request ∙ sym version) none)
