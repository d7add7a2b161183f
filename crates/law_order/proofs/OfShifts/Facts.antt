-- Where a try in prepare would shift, the phase word has come further. So a second attempt isn't in prepare, and one of a poll has come with its share.
use Rattle.std.proofs.Common.{◌≡◌, ℕ, ◌+◌, ◌*◌, ◌^◌, ◌<◌, ◌≤◌, ◌∙◌, refl, sym, ap, subst, arith, List, Bool, true, false, inl, inr}
use Rattle.std.specs.Prelude.{◌==◌, ◌&&◌, Option, Some, None, not, slice_get}
use Rattle.std.proofs.lemmas.Bool.Decides.{nat_tests}
use Rattle.fkv_base.specs.declared.numbers.Version.{Version}
use Rattle.fkv_base.specs.declared.phases.Phase.{Phase}
use Rattle.fkv_base.specs.declared.phases.Phase.TheVariants.{InProgress, Prepare, Rest, WaitFlush, WaitPending}
use Rattle.fkv_marks.specs.Marks.{mark}
use Rattle.fkv_marks.proofs.Shown.{mark_low, mark_small}
use Rattle.fkv_epoch.specs.declared.refreshing.Refreshing.{Refreshing}
use Rattle.fkv_epoch.specs.declared.refreshing.Refreshing.TheVariants as refresh
use Rattle.fkv_epoch.specs.Refreshing.{refresh_ask}
use Rattle.fkv_epoch.proofs.Shown.{none_some}
use Rattle.fkv_index.specs.declared.homes.Home.{Home}
use Rattle.fkv_index.specs.Slots.{home_of}
use Rattle.fkv_index.proofs.Shown.{homes_are_there}
use Rattle.fkv_latch.specs.declared.latching.Latching.TheVariants.{AddsShare}
use Rattle.fkv_latch.specs.Latching.{is_exclusive, latch_ask, one_share}
use Rattle.fkv_latch.specs.LatchWorld.{has_latch}
use Rattle.fkv_map.specs.Keys.{key_of}
use Rattle.law_commit.specs.Below.fkv_ops.Bounds.{IsCall}
use Rattle.law_commit.specs.Below.fkv_ops.Request.{Request}
use Rattle.law_commit.specs.Below.fkv_ops.Seen.{Seen}
use Rattle.law_commit.specs.Below.fkv_ops.TheTrying.{Trying}
use Rattle.law_commit.specs.Below.fkv_ops.TheTrying.TheVariants.{LoadsPhase, TakesShared, Walks}
use Rattle.law_commit.specs.Below.fkv_ops.WalkAnswer.TheVariants as walked
use Rattle.law_commit.specs.Below.fkv_ops.TheWalking.{Walking}
use Rattle.law_commit.specs.Below.fkv_ops.TheWalking.TheVariants.{Ended, Finds, HasFound, LoadsValue, Meets}
use Rattle.law_commit.specs.Below.fkv_ops.Requests.{is_read}
use Rattle.law_commit.specs.Below.fkv_ops.Trying.{TryState, is_above, is_next_marked, is_prepare, is_still_in, must_shift, trying_ask}
use Rattle.law_commit.specs.Below.fkv_ops.Walking.{WalkState, walk_next}
use Rattle.law_commit.specs.Below.fkv_pending.TheAttempting.{Attempting}
use Rattle.law_commit.specs.Below.fkv_pending.TheAttempting.TheVariants.{Tries}
use Rattle.law_commit.specs.Below.fkv_pending.Attempting.{attempting_ask}
use Rattle.fkv_plane.specs.declared.asks.Ask.TheVariants.{Add, Load}
use Rattle.fkv_plane.specs.declared.places.SharedWord.TheVariants as one
use Rattle.fkv_plane.specs.Asked.{reply_to, word_at}
use Rattle.fkv_plane.specs.Passing.{passed}
use Rattle.fkv_plane.specs.Places.{bucket_place, shared_place}
use Rattle.law_commit.specs.Below.fkv_session.Catching.TheVariants as catching
use Rattle.law_commit.specs.Below.fkv_session.CatchCause.TheVariants.{Shifts}
use Rattle.law_commit.specs.Below.fkv_session.Sitting.{Sitting}
use Rattle.law_commit.specs.Below.fkv_session.Sitting.TheVariants.{Attempts, CatchesUp, Polls}
use Rattle.law_commit.specs.Below.fkv_session.CatchingUp.{catching_ask}
use Rattle.law_commit.specs.Below.fkv_session.Sessions.{Seat, SessionState, session_ask, sitting_ask}
use Rattle.fkv_words.specs.declared.phase_words.PhaseSaid.{PhaseSaid}
use Rattle.fkv_words.specs.declared.phase_words.PhaseSaid.TheVariants.{Says, Spoiled}
use Rattle.fkv_words.specs.PhaseWords.{phase_said}
use Rattle.law_commit.specs.Below.fkv_world.Opened.{HasBecome}
use Rattle.law_commit.specs.Below.fkv_world.Runs.{run}
use Rattle.law_commit.specs.Below.fkv_world.World.{Event, Now, seat_at}
use Rattle.law_commit.proofs.Below.fkv_world.Shown.{places_stay, shape_stays}
use Rattle.law_apart.specs.Apart.Rows.{HasComeTo, HasMet, HasMetFirst, LatchRow, MetIn, SharesRow, TryApart, WalkApart}
use Rattle.law_apart.proofs.OfApart.Tries.{came_stays}
use Rattle.law_apart.proofs.OfApart.Walks.{walk_apart, walk_met}
use Rattle.law_opening.proofs.OfChanges.OfSessions.Attempting.{life_attempts}
use Rattle.law_commit.specs.Phases.Projected.{SitsAwake}
use Rattle.law_commit.specs.PhaseVersions.{phase_version, version_said}
use Rattle.law_commit.specs.Floor.Stands.{FloorStands}
use Rattle.law_commit.specs.Quiet.{rank_now, rank_said}
use Rattle.law_commit.specs.Ranks.{rank}
use Rattle.law_commit.specs.Shares.Tries.{SharesSo, SharesTrying}
use Rattle.law_commit.specs.Views.{View, rank_of, sight_of}
use Rattle.law_commit.proofs.OfPhases.Awake.{life_so}
use Rattle.law_commit.proofs.OfQuiet.Ranks.{few_stages, staged_rank}
use Rattle.law_commit.proofs.OfShares.Enters.{bucket_latch}
use Rattle.law_commit.proofs.OfShares.Onward.{rank_high}
use Rattle.law_commit.proofs.Shown.{view_seen}
use Rattle.law_commit.specs.Below.law_local.Sessions.Inputs.{AttemptsBy, IsAttemptInPoll}
use Rattle.law_commit.specs.Below.law_local.Sessions.Known.{is_attempting}
use Rattle.law_commit.specs.Below.law_local.Tries.AttemptRows.{AttemptRow}
use Rattle.law_commit.specs.Below.law_local.Tries.AttemptRows as local
use Rattle.law_commit.specs.Below.law_local.Tries.Replies.{IsTrueReply}
use Rattle.law_commit.specs.Below.law_local.Tries.TryRows.{TryRow, key_in}
use Rattle.law_commit.specs.Below.law_local.Tries.WalkRows.{begin_of}
use Rattle.law_commit.proofs.Below.law_local.OfTries.OnWay.{orderly}
use Rattle.law_log.specs.Chains.{version_at}
use Rattle.law_log.specs.Enabled.{AreEnabled}
use Rattle.law_log.specs.Ghosts.{Log}
use Rattle.law_log.proofs.Shown.{Held}
use Rattle.law_order.specs.Apart.Given.{Given}
use Rattle.law_order.specs.Apart.Lives.{AllApartBehind, OpensApart}
use Rattle.law_order.specs.Known.Begins.{BegunLife, home_of_world}
use Rattle.law_order.specs.Known.Knows.{AllKnowBehind}
use Rattle.law_order.specs.Known.Told.{AreToldTruly, reply_in}
use Rattle.law_order.proofs.OfApart.Heart.{became, try_in}
use Rattle.law_order.proofs.OfApart.Moments.{attempt_prepared, awake}
use Rattle.law_order.proofs.OfApart.Newest.{asks_phase, held, same_seen, shares, tells, trial_apart, version_low}
use Rattle.law_order.proofs.OfShifts.Catches.{HasPassed, SaysElse, loads_next}
use Rattle.law_order.proofs.OfShifts.Sessions.{Come, RepliesSo}
use Rattle.law_order.proofs.OfShifts.Tries.{ShiftsBy}
use Rattle.law_commit.specs.Below.law_refine.Events.GhostEvents.{life_ghosts, mapped}

-- ---- what a test says
shift_so : (prepare read marked above : Bool) → (prepare && not read && not marked && above) ≡ true → (prepare ≡ true) × (read ≡ false) × (above ≡ true) × (marked ≡ false)
shift_so true false false true e = (refl, refl, refl, refl)
shift_so true false false false e = cc
shift_so true false true above e = cc
shift_so true true marked above e = cc
shift_so false read marked above e = cc

clash : {X : Type 0} (b : Bool) → b ≡ true → b ≡ false → X
clash true e f = cc
clash false e f = cc

-- ---- what a walk has met first is a record
met_first : (home : ℕ → ℕ) (log : Log) (request : Request) (seen : Seen) (w : WalkState) (step : Walking) (first : Option Version) (version : Version) → w.first ≡ first → first ≡ Some version → WalkApart home log request seen w step → HasMet log (begin_of w) version
met_first home log request seen w Finds first version is some apart = none_some version (sym (sym is ∙ apart.0) ∙ some)
met_first home log request seen w (Meets addr) first version is some apart = subst (λ (f : Option Version). HasComeTo log (begin_of w) f addr.0) (is ∙ some) apart.1
met_first home log request seen w (HasFound addr found) first version is some apart = subst (λ (f : Option Version). HasMetFirst log (begin_of w) f) (is ∙ some) apart.1
met_first home log request seen w (Ended (walked.Found addr found)) first version is some apart = absurd apart
met_first home log request seen w (Ended walked.Nowhere) first version is some apart = subst (λ (f : Option Version). HasComeTo log (begin_of w) f 0) (is ∙ some) apart.1
met_first home log request seen w (Ended (walked.OnDisk addr)) first version is some apart = subst (λ (f : Option Version). HasComeTo log (begin_of w) f addr.0) (is ∙ some) apart.1
met_first home log request seen w (Ended (walked.Value value)) first version is some apart = absurd apart
met_first home log request seen w (Ended walked.Full) first version is some apart = absurd apart
met_first home log request seen w (Ended walked.Kept) first version is some apart = absurd apart
met_first home log request seen w (Ended walked.Contended) first version is some apart = absurd apart
met_first home log request seen w LoadsValue first version is some apart = absurd apart

-- ---- ranks
rank_past : (said : PhaseSaid) (own : ℕ) → own < version_said said → 5 * own + 1 < rank_said said
rank_past Spoiled own later = absurd (omega (arith, later))
rank_past (Says phase version) own later = let high = rank_high phase version.0 in omega (arith, high, later)

-- a word that has come to prepare of this version, and says it no more, has come further
rank_else : (said : PhaseSaid) (version : Version) (own : ℕ) → is_still_in said version ≡ false → version.0 ≡ own → 5 * own + 1 ≤ rank_said said → 5 * own + 1 < rank_said said
rank_else Spoiled version own other is low = absurd (omega (arith, low))
rank_else (Says Prepare its) version own other is low = let off : (its.0 == own) ≡ false = subst (λ (n : ℕ). (its.0 == n) ≡ false) is other in grind (arith, nat_tests, off, low)
rank_else (Says Rest its) version own other is low = omega (arith, low)
rank_else (Says InProgress its) version own other is low = omega (arith, low)
rank_else (Says WaitPending its) version own other is low = omega (arith, low)
rank_else (Says WaitFlush its) version own other is low = omega (arith, low)

phase_else : (phase : Phase) (version own : ℕ) → 5 * own + 1 < rank phase version → rank phase version ≤ 5 * own + 4 → is_prepare phase ≡ false
phase_else Prepare version own high low = absurd (omega (arith, high, low))
phase_else Rest version own high low = refl
phase_else InProgress version own high low = refl
phase_else WaitPending version own high low = refl
phase_else WaitFlush version own high low = refl

says_else : (said : PhaseSaid) (own : ℕ) → 5 * own + 1 < rank_said said → rank_said said ≤ 5 * own + 4 → SaysElse said
says_else Spoiled own high low = omega (arith, high)
says_else (Says phase version) own high low = phase_else phase version.0 own high low

prepare_rank : (phase : Phase) (version : ℕ) → is_prepare phase ≡ true → rank phase version ≡ 5 * version + 1
prepare_rank Prepare version e = refl
prepare_rank Rest version e = cc
prepare_rank InProgress version e = cc
prepare_rank WaitPending version e = cc
prepare_rank WaitFlush version e = cc

-- ---- what is asked
adds_share : (k : Seat) (s : SessionState) (step : Sitting) (place : ℕ) → is_attempting step ≡ true → s.attempt.step ≡ Tries → s.attempt.trial.step ≡ TakesShared → s.attempt.trial.latching ≡ AddsShare place
    → sitting_ask k s step ≡ Add place one_share
unfolding sitting_ask attempting_ask trying_ask latch_ask passed
adds_share k s (Attempts has_shifted) place attempts tries takes adds = rw (tries, takes, adds) refl
adds_share k s (Polls index) place attempts tries takes adds = rw (tries, takes, adds) refl
adds_share k s step place attempts tries takes adds = cc

loads_phase : (k : Seat) (s : SessionState) (step : Refreshing) → s.step ≡ CatchesUp Shifts → s.catching.step ≡ catching.Refreshes → s.catching.refreshing ≡ step → loads_next step → session_ask k s ≡ Load (shared_place one.Phase)
unfolding sitting_ask catching_ask refresh_ask passed
loads_phase k s (refresh.LoadsPhase epoch) at refreshes is loads = rw (at, refreshes, is) refl
loads_phase k s refresh.LoadsEpoch at refreshes is loads = absurd loads
loads_phase k s (refresh.LoadsReadOnly epoch phase) at refreshes is loads = absurd loads
loads_phase k s (refresh.LoadsHead epoch phase read_only) at refreshes is loads = absurd loads
loads_phase k s refresh.AtRest at refreshes is loads = absurd loads
loads_phase k s (refresh.HasLoaded epoch values) at refreshes is loads = absurd loads
loads_phase k s (refresh.StoresEpoch epoch) at refreshes is loads = absurd loads

module _ (given : Given) (life : BegunLife) (apart : OpensApart life) (before : List Event) (enabled : AreEnabled (home_of_world life.opening) life.ghosts (mapped life.opening before)) (known : AllKnowBehind life.opening life.ghosts before)
    (told : AreToldTruly (home_of_world life.opening) (life_ghosts life.opening life.ghosts before).log (run life.opening before).now) (all_apart : AllApartBehind life.opening life.ghosts before)
    (session : ℕ) (s : SessionState) (found : slice_get (run life.opening before).now.sessions session ≡ Some s) where
  abbrev N : Now
  N = (run life.opening before).now

  abbrev L : Log
  L = (life_ghosts life.opening life.ghosts before).log

  abbrev H : ℕ → ℕ
  H = home_of_world life.opening

  abbrev reply : ℕ
  reply = reply_in N session s

  abbrev top : ℕ
  top = rank_now life.opening before

  abbrev t : TryState
  t = s.attempt.trial

  became_so : (first : SessionState) × HasBecome life.opening before session first s
  became_so = became given life apart before session s found

  is_held : Held H life.map L
  is_held = held given life apart before enabled

  module _ (attempts : is_attempting s.step ≡ true) (tries : s.attempt.step ≡ Tries) where
    row : local.TriesFor H L s.attempt.pending s.attempt.seen t
    row = subst (AttemptRow H L s.attempt) tries ((known session s found).attempted attempts).row

    seen_so : t.seen ≡ s.seen
    seen_so = same_seen given life apart before enabled session s found attempts tries (known session s found) (all_apart session s found)

    its_apart : TryApart H L t
    its_apart = trial_apart given life apart before enabled session s found attempts tries (known session s found) (all_apart session s found)

    says : IsTrueReply H L N.places t t.step reply
    says = subst (λ (x : Attempting). local.IsTrueOfAttempt H L N.places s.attempt x reply) tries (told session s found attempts)

    prepares_so : is_prepare t.seen.phase ≡ true → is_prepare s.seen.phase ≡ true
    prepares_so e = subst (λ (x : Seen). is_prepare x.phase ≡ true) seen_so e

    -- ---- where a walk has met a later version
    shared : t.step ≡ Walks → is_prepare t.seen.phase ≡ true → is_read t.request.op ≡ false → t.has_shared ≡ true
    shared at prepares update =
        let so : SharesSo s.seen t = subst (SharesTrying s.seen t) at (shares given life apart before enabled session s found attempts tries (known session s found) (all_apart session s found)) in
        so.prepares (prepares_so prepares) update

    -- it stands in the log
    version_said_by : (a : ℕ) (version : Version) → HasMet L a version → version.0 ≤ phase_version N.words
    version_said_by a version met =
        let low = version_low given life apart before enabled a in
        let is = ap version_at met.its in
        let same = met.its_mark in
        let under = mark_low met.cell.version in
        omega (arith, low, is, same, under)

    first_said : t.step ≡ Walks → t.has_shared ≡ true → (version : Version) → (walk_next N.places t.walk reply).first ≡ Some version → version.0 ≤ phase_version N.words
    first_said at has version first =
        let its_row : TryRow H L t Walks = subst (TryRow H L t) at row.knows.row in
        let its_says : IsTrueReply H L N.places t Walks reply = subst (λ (x : Trying). IsTrueReply H L N.places t x reply) at says in
        let its_shares : SharesRow H L t Walks = subst (SharesRow H L t) at (its_apart.shares has) in
        elim its_shares [
          | inl none ↦ in_chain (subst (MetIn L (L.chains (H (key_in t.request)))) first (walk_met H L t.request t.seen N.places t.walk reply its_row.0 its_row.1 none.1))
          | inr walks ↦
              let tell = tells given life apart before enabled session s found attempts tries (known session s found) (all_apart session s found) at has walks.0 in
              elim (walk_apart H L t.request t.seen N.places (orderly H life.map L is_held) tell.above tell.in_ring (is_held.falls (H (key_in t.request))) t.walk reply its_row.0 its_row.1 its_says tell.search walks.2) [
                | inl none ↦ in_chain (subst (MetIn L (L.chains (H (key_in t.request)))) first none.1)
                | inr on ↦ version_said_by (begin_of (walk_next N.places t.walk reply)) version (met_first H L t.request t.seen (walk_next N.places t.walk reply) (walk_next N.places t.walk reply).step (walk_next N.places t.walk reply).first version refl first on)
              ]
        ]
      where
        in_chain : MetIn L (L.chains (H (key_in t.request))) (Some version) → version.0 ≤ phase_version N.words
        in_chain met = version_said_by met.at version met.met

    later_so : is_next_marked t.request.version ≡ false → (first : Option Version) → (walk_next N.places t.walk reply).first ≡ first → is_above first t.request.version ≡ true → t.step ≡ Walks → t.has_shared ≡ true → t.request.version.0 < phase_version N.words
    later_so unmarked None is above at has = cc
    later_so unmarked (Some version) is above at has =
        let up = first_said at has version is in
        let high : mark t.request.version.0 < version.0 = grind (arith, nat_tests, above) in
        let few : t.request.version.0 < 8191 = grind (arith, nat_tests, unmarked) in
        let own = mark_small t.request.version.0 (omega (arith, few)) in
        omega (arith, up, high, own)

    walk_passes : t.step ≡ Walks → must_shift (record t { walk = walk_next N.places t.walk reply }) ≡ true → HasPassed top s.seen
    walk_passes at must =
        let so = shift_so (is_prepare t.seen.phase) (is_read t.request.op) (is_next_marked t.request.version) (is_above (walk_next N.places t.walk reply).first t.request.version) must in
        let later = later_so so.3 (walk_next N.places t.walk reply).first refl so.2 at (shared at so.0 so.1) in
        let updates : is_read s.attempt.pending.request.op ≡ false = subst (λ (r : Request). is_read r.op ≡ false) row.its_request so.1 in
        let own = attempt_prepared given.floors given.left life.opening life.start before apart.quiet session became_so.0 s became_so.1 attempts updates (prepares_so so.0) in
        let request = ap (λ (r : Request). r.version.0) row.its_request in
        (prepares_so so.0, rank_past (phase_said (word_at N.words (shared_place one.Phase))) s.seen.version.0 (omega (arith, later, own, request)))

    walk_never : t.step ≡ Walks → must_shift (record t { walk = walk_next N.places t.walk reply }) ≡ true → (is_prepare s.seen.phase ≡ true → is_read t.request.op ≡ false → t.request.has_latch ≡ true) → ⊥
    walk_never at must came =
        let so = shift_so (is_prepare t.seen.phase) (is_read t.request.op) (is_next_marked t.request.version) (is_above (walk_next N.places t.walk reply).first t.request.version) must in
        let stays = came_stays H L N.places t reply row.knows its_apart at (shared at so.0 so.1) (came (prepares_so so.0) so.1) in
        clash (must_shift (record t { walk = walk_next N.places t.walk reply })) must stays

    -- ---- where the phase word is loaded behind the share
    phase_row : t.step ≡ LoadsPhase → LatchRow t LoadsPhase
    phase_row at = subst (LatchRow t) at its_apart.latch

    phase_update : t.step ≡ LoadsPhase → is_read t.request.op ≡ false
    phase_update at = subst (TryRow H L t) at row.knows.row

    phase_loads : t.step ≡ LoadsPhase → reply ≡ word_at N.words (shared_place one.Phase)
    phase_loads at = ap (reply_to N.words) (asks_phase (seat_at N session) s s.step attempts tries at)

    -- what the session has seen is no further than the word
    word_high : is_prepare s.seen.phase ≡ true → 5 * s.seen.version.0 + 1 ≤ rank_said (phase_said (word_at N.words (shared_place one.Phase)))
    word_high prepares =
        let stands : FloorStands life.opening before = given.floors life.opening life.start before apart.quiet.guarded apart.quiet.opened apart.quiet.seen in
        let live = awake given.floors given.left life.opening life.start before apart.quiet session became_so.0 s became_so.1 attempts in
        let low = (stands.floor session became_so.0 s became_so.1 live).low in
        let saw = view_seen life.opening before session became_so.0 s became_so.1 in
        let view : View = (sight_of life.opening before session).view in
        let same : rank_of view ≡ 5 * s.seen.version.0 + 1 =
        prepare_rank view.phase view.version.0 (subst (λ (p : Phase). is_prepare p ≡ true) saw.phase prepares) ∙ ap (λ (v : Version). 5 * v.0 + 1) (sym saw.version) in
        let word = staged_rank N stands.number stands.stage stands.staged in
        omega (arith, low, same, word)

    phase_passes : t.step ≡ LoadsPhase → is_still_in (phase_said reply) t.request.version ≡ false → HasPassed top s.seen
    phase_passes at other =
        let prepares = prepares_so (phase_row at).0 in
        let updates : is_read s.attempt.pending.request.op ≡ false = subst (λ (r : Request). is_read r.op ≡ false) row.its_request (phase_update at) in
        let own = attempt_prepared given.floors given.left life.opening life.start before apart.quiet session became_so.0 s became_so.1 attempts updates prepares in
        let request : t.request.version.0 ≡ s.attempt.pending.request.version.0 = ap (λ (r : Request). r.version.0) row.its_request in (
          prepares,
          rank_else (phase_said (word_at N.words (shared_place one.Phase))) t.request.version s.seen.version.0 (subst (λ (w : ℕ). is_still_in (phase_said w) t.request.version ≡ false) (phase_loads at) other) (request ∙ own) (word_high prepares),
        )

    -- ---- where a share meets bit 63
    takes_row : t.step ≡ TakesShared → LatchRow t TakesShared
    takes_row at = subst (LatchRow t) at its_apart.latch

    takes_update : t.step ≡ TakesShared → is_read t.request.op ≡ false
    takes_update at = subst (TryRow H L t) at row.knows.row

    buckets : N.places.buckets ≡ 2 ^ N.shape.bucket_bits
    buckets = rw (places_stay life.opening before, shape_stays life.opening before) life.begins.store.now.buckets

    has_place : has_latch N.places (bucket_place N.places t.home.bucket 7) ≡ true
    has_place =
        let home : t.home ≡ home_of N.shape.bucket_bits (key_of s.attempt.pending.request.op) =
        (try_in given life apart before session s found attempts tries).its_home ∙ ap (λ (bits : ℕ). home_of bits (key_of s.attempt.pending.request.op)) (sym (ap (λ (shape : _). shape.bucket_bits) (shape_stays life.opening before))) in
        bucket_latch N.places t.home.bucket (subst (λ (h : Home). h.bucket < N.places.buckets) (sym home) (homes_are_there N.places N.shape.bucket_bits (key_of s.attempt.pending.request.op) buckets).few)

    word_so : t.step ≡ TakesShared → t.latching ≡ AddsShare (bucket_place N.places t.home.bucket 7) → reply ≡ word_at N.words (bucket_place N.places t.home.bucket 7)
    word_so at adds = ap (reply_to N.words) (adds_share (seat_at N session) s s.step (bucket_place N.places t.home.bucket 7) attempts tries at adds)

    latch_passes : t.step ≡ TakesShared → t.latching ≡ AddsShare (bucket_place N.places t.home.bucket 7) → is_exclusive reply ≡ true → HasPassed top s.seen
    latch_passes at adds bit =
        let prepares = prepares_so (takes_row at).0 in (
          prepares,
          given.bit life.opening life.start before session (bucket_place N.places t.home.bucket 7) became_so.0 s apart.quiet.guarded apart.latches apart.quiet.seen became_so.1
              (awake given.floors given.left life.opening life.start before apart.quiet session became_so.0 s became_so.1 attempts) prepares has_place
              (subst (λ (word : ℕ). is_exclusive word ≡ true) (word_so at adds) bit),
        )

  -- ---- at each control state
  attempting_at : (step : Sitting) → s.step ≡ step → is_attempting step ≡ true → is_attempting s.step ≡ true
  attempting_at step at e = ap is_attempting at ∙ e

  in_poll : (i : ℕ) → s.step ≡ Polls i → IsAttemptInPoll (seat_at life.opening.now session) s i
  in_poll i at = subst (AttemptsBy (seat_at life.opening.now session) s) at (life_attempts life.opening before session s life.begins.world found)

  phase_word : s.step ≡ CatchesUp Shifts → s.catching.step ≡ catching.Refreshes → loads_next s.catching.refreshing → reply ≡ word_at N.words (shared_place one.Phase)
  phase_word at refreshes loads = ap (reply_to N.words) (loads_phase (seat_at N session) s s.catching.refreshing at refreshes refl loads)

  loads_else : s.step ≡ CatchesUp Shifts → s.catching.step ≡ catching.Refreshes → HasPassed top s.seen → loads_next s.catching.refreshing → SaysElse (phase_said reply)
  loads_else at refreshes passes loads =
      let stands : FloorStands life.opening before = given.floors life.opening life.start before apart.quiet.guarded apart.quiet.opened apart.quiet.seen in
      let up : SitsAwake s (CatchesUp Shifts) = subst (SitsAwake s) at (life_so life.opening before session became_so.0 s became_so.1) in
      let floor = stands.floor session became_so.0 s became_so.1 up.0 in
      let rest = floor.rest in
      let saw = view_seen life.opening before session became_so.0 s became_so.1 in
      let view : View = (sight_of life.opening before session).view in
      let same : rank_of view ≡ 5 * s.seen.version.0 + 1 =
      prepare_rank view.phase view.version.0 (subst (λ (p : Phase). is_prepare p ≡ true) saw.phase passes.0) ∙ ap (λ (v : Version). 5 * v.0 + 1) (sym saw.version) in
      let word = staged_rank N stands.number stands.stage stands.staged in
      let few = few_stages stands.stage in
      subst (λ (w : ℕ). SaysElse (phase_said w)) (sym (phase_word at refreshes loads)) (says_else (phase_said (word_at N.words (shared_place one.Phase))) s.seen.version.0 passes.1 (omega (arith, rest, same, word, few)))

  pub replies_so : RepliesSo top (seat_at N session) s reply
  replies_so = record {
    first = λ at tries. record {
      latch = λ takes adds bit. latch_passes (attempting_at (Attempts false) at refl) tries takes adds bit;
      phase = λ loads other. phase_passes (attempting_at (Attempts false) at refl) tries loads other;
      walk = λ walks its ends must. walk_passes (attempting_at (Attempts false) at refl) tries walks must;
      full = λ call. tt;
    };
    second = λ at tries other. record {
      latch = λ takes adds bit. clash (is_prepare s.seen.phase) (prepares_so (attempting_at (Attempts true) at refl) tries (takes_row (attempting_at (Attempts true) at refl) tries takes).0) other;
      phase = λ loads says. clash (is_prepare s.seen.phase) (prepares_so (attempting_at (Attempts true) at refl) tries (phase_row (attempting_at (Attempts true) at refl) tries loads).0) other;
      walk = λ walks its ends must. walk_never (attempting_at (Attempts true) at refl) tries walks must (λ prepares update. clash (is_prepare s.seen.phase) prepares other);
      full = λ call. tt;
    };
    polls = λ i at tries come. polled i at tries come;
    loads = loads_else;
  }
    where
      polled : (i : ℕ) (at : s.step ≡ Polls i) (tries : s.attempt.step ≡ Tries) → Come s.seen s.attempt.pending → ShiftsBy ⊥ ⊥ N.places t reply
      polled i at tries come =
          let attempts : is_attempting s.step ≡ true = attempting_at (Polls i) at refl in
          let same = (row attempts tries).its_request in
          let came : is_prepare s.seen.phase ≡ true → is_read t.request.op ≡ false → t.request.has_latch ≡ true =
          (λ prepares update. subst (λ (r : Request). r.has_latch ≡ true) (sym same) (come prepares (subst (λ (r : Request). is_read r.op ≡ false) same update))) in
          record {
            latch = λ takes adds bit. (let its = takes_row attempts tries takes in clash t.request.has_latch (came (prepares_so attempts tries its.0) (takes_update attempts tries takes)) its.2);
            phase = λ loads says. (let its = phase_row attempts tries loads in clash t.request.has_latch (came (prepares_so attempts tries its.0) (phase_update attempts tries loads)) its.2);
            walk = λ walks its ends must. walk_never attempts tries walks must came;
            full = λ call. subst IsCall ((try_in given life apart before session s found attempts tries).its_occasion ∙ (in_poll i at).goes.its_occasion) call;
          }
