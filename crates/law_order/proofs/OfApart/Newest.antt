-- What the log and the words tell a session's try: so none that has passed its walk has a later version at its home.
use Rattle.std.proofs.Common.{◌≡◌, ℕ, ◌+◌, ◌<◌, ◌≤◌, refl, sym, ap, ◌∙◌, subst, arith, eqb-true, Bool, true, false, List, Some}
use Rattle.std.specs.Prelude.{◌==◌, nat_le, nat_lt, slice_get}
use Rattle.std.proofs.lemmas.Bool.Decides.{nat_tests}
use Rattle.fkv_base.specs.declared.numbers.Version.{Version}
use Rattle.fkv_base.specs.declared.phases.Phase.TheVariants.{InProgress, Prepare, Rest, WaitFlush, WaitPending}
use Rattle.fkv_plane.specs.Places.{shared_place}
use Rattle.fkv_plane.specs.Asked.{word_at}
use Rattle.fkv_plane.specs.declared.places.SharedWord.TheVariants as one
use Rattle.fkv_plane.specs.Passing.{passed}
use Rattle.fkv_words.specs.PhaseWords.{phase_said}
use Rattle.fkv_words.specs.declared.phase_words.PhaseSaid.{PhaseSaid}
use Rattle.fkv_words.specs.declared.phase_words.PhaseSaid.TheVariants.{Says, Spoiled}
use Rattle.fkv_index.specs.declared.finding.FindAnswer.{FindAnswer}
use Rattle.fkv_index.specs.declared.finding.FindStep.{FindStep}
use Rattle.fkv_index.specs.declared.finding.FindStep.TheVariants as find
use Rattle.fkv_index.specs.declared.finding.Finding.{Finding}
use Rattle.fkv_index.specs.declared.finding.Found.{Found}
use Rattle.fkv_index.specs.declared.finding.Found.TheVariants as found
use Rattle.fkv_index.specs.declared.homes.Home.{Home}
use Rattle.fkv_index.specs.Finding.{find_ask, find_next_ask}
use Rattle.fkv_index.specs.IndexWorld.{IndexWorld}
use Rattle.fkv_index.specs.OneEntry.{HasLost}
use Rattle.fkv_index.specs.Slots.{home_of, link_of}
use Rattle.fkv_index.proofs.Shown.{IsBegun, IsReading, IsSound, sound_lost}
use Rattle.fkv_index.specs.declared.finding.Purpose.TheVariants as slot
use Rattle.fkv_map.specs.declared.operations.Op.{Op}
use Rattle.fkv_map.specs.Keys.{key_of}
use Rattle.law_commit.specs.Below.fkv_ops.Request.{Request}
use Rattle.law_commit.specs.Below.fkv_ops.Occasion.{Occasion}
use Rattle.law_commit.specs.Below.fkv_ops.Seen.{Seen}
use Rattle.law_commit.specs.Below.fkv_ops.TheTrying.TheVariants.{LoadsPhase, Walks}
use Rattle.law_commit.specs.Below.fkv_ops.TheWalking.TheVariants.{Finds}
use Rattle.law_commit.specs.Below.fkv_ops.Requests.{is_read, purpose_at}
use Rattle.law_commit.specs.Below.fkv_ops.Trying.{TryState, is_moving_on, is_prepare, is_still_in, trying_ask}
use Rattle.law_commit.specs.Below.fkv_pending.TheAttempting.TheVariants.{Tries}
use Rattle.law_commit.specs.Below.fkv_pending.Attempting.{attempting_ask}
use Rattle.fkv_plane.specs.Asked.{reply_to}
use Rattle.fkv_plane.proofs.Shown.{passed_reply}
use Rattle.law_commit.specs.Below.fkv_session.Told.TheVariants.{Slept}
use Rattle.fkv_plane.specs.declared.asks.Ask.TheVariants.{Done, Load}
use Rattle.law_commit.specs.Below.fkv_session.Sitting.{Sitting}
use Rattle.law_commit.specs.Below.fkv_session.Sitting.TheVariants.{Attempts, Polls}
use Rattle.law_commit.specs.Below.fkv_session.Sessions.{Seat, SessionState, sitting_ask}
use Rattle.law_commit.specs.Below.fkv_world.Opened.{HasBecome}
use Rattle.law_commit.specs.Below.fkv_world.Runs.{run}
use Rattle.law_commit.specs.Below.fkv_world.World.{Event, Now, seat_at}
use Rattle.law_commit.proofs.Below.fkv_world.Shown.{shape_stays}
use Rattle.law_apart.specs.Apart.Rows.{AttemptApart, IsLater, SearchTells, TellsApart, TellsPhase, TellsSharer, TryApart, VersionsNear, has_linked, is_linking, is_lost}
use Rattle.law_apart.proofs.OfApart.Links.{full_links, is_full}
use Rattle.law_apart.proofs.OfApart.Tries.{marks_told, sharers_pass}
use Rattle.law_opening.proofs.OfChanges.OfSessions.Attempting.{attempting_is}
use Rattle.law_commit.specs.PhaseVersions.{phase_version, version_said}
use Rattle.law_commit.specs.Shares.Tries.{SharesAttempting, SharesInHand, SharesSo, SharesTrying}
use Rattle.law_commit.specs.Versions.Laws.{OpensWithLog}
use Rattle.law_commit.specs.Versions.Cells.{made_in}
use Rattle.law_commit.specs.Versions.Seen.{IsOlder}
use Rattle.law_commit.specs.Views.{sight_of}
use Rattle.law_commit.proofs.OfCopied.Leads.{HasHeads, shows_then}
use Rattle.law_commit.proofs.OfLinked.Lives.{life_meets}
use Rattle.law_commit.proofs.OfShares.Alone.{tries_share}
use Rattle.law_commit.proofs.OfVersions.Life.{cells_upto, sees_older}
use Rattle.law_commit.proofs.Shown.{view_seen}
use Rattle.law_commit.proofs.Below.law_world.OfGuarded.OfLives.{life_in_order}
use Rattle.law_commit.proofs.Below.law_world.OfGuarded.Worlds.{life_shows}
use Rattle.law_commit.specs.Below.law_world.Guarded.Shows.{seen_by_guard}
use Rattle.law_commit.specs.Below.law_local.Sessions.Known.{is_attempting}
use Rattle.law_commit.specs.Below.law_local.Tries.AttemptRows.{AttemptRow}
use Rattle.law_commit.specs.Below.law_local.Tries.AttemptRows as local
use Rattle.law_commit.specs.Below.law_local.Tries.Replies.{IsTrueReply}
use Rattle.law_commit.specs.Below.law_local.Tries.TryRows.{MarksTell, NoneIsLater, NoneLaterPast, head_in, key_in}
use Rattle.law_commit.proofs.Below.law_local.OfTries.OnWay.{orderly}
use Rattle.law_log.specs.Chains.{Dropped, Logged, Published, Reserved, Unborn, head_of, version_at}
use Rattle.law_log.specs.Enabled.{AreEnabled, NoneAbove}
use Rattle.law_log.specs.Ghosts.{Log}
use Rattle.law_log.specs.Trace.{IsIn}
use Rattle.law_log.proofs.Shown.{Held, run_held}
use Rattle.law_order.specs.Apart.Given.{Given}
use Rattle.law_order.specs.Apart.Lives.{KeepsApart, OpensApart}
use Rattle.law_order.specs.Known.Begins.{BegunLife, home_of_world}
use Rattle.law_order.specs.Known.Knows.{SessionKnows}
use Rattle.law_order.specs.Known.Told.{reply_in}
use Rattle.law_order.proofs.OfApart.Heart.{became, seen_in}
use Rattle.law_order.proofs.OfApart.Moments.{attempt_newest, attempt_next, attempt_prepared, attempt_upto, awake, number, said_next}
use Rattle.law_order.proofs.OfApart.Recent.{recent}
use Rattle.law_order.proofs.OfTruth.Frames.{published_below}
use Rattle.law_commit.specs.Below.law_refine.Index.Finders.{Search, Searches, SessionWork, session_part}
use Rattle.law_commit.specs.Below.law_refine.Index.Finders as finders
use Rattle.law_commit.specs.Below.law_refine.Index.Shows.{IsWork, seen_by_index}
use Rattle.law_commit.proofs.Below.law_refine.OfIndex.LifeFacts.{life_asks, life_sound}
use Rattle.law_commit.proofs.Below.law_refine.OfIndex.Permitted.{are_permitted}
use Rattle.law_commit.specs.Below.law_refine.Events.GhostEvents.{home_number, life_ghosts, mapped}
use Rattle.law_commit.specs.Below.law_refine.Events.Reserved.{tail_at}
use Rattle.law_commit.specs.Below.law_refine.Heads.Searches.{IsWorkAt, home_attempted}
use Rattle.law_commit.proofs.Below.law_refine.OfEvents.Fixed.{ghost_fixed}
use Rattle.law_commit.proofs.Below.law_refine.OfHeads.AtHome.{life_at_home}
use Rattle.law_commit.proofs.Below.law_refine.OfRecords.FrameOwners.{sees_safely}
use Rattle.law_commit.proofs.Below.law_refine.OfRecords.Frames.{finds_framed}
use Rattle.law_commit.proofs.Below.law_refine.OfSeen.Lives.{life_head_fixed}

-- ---- by the control state
-- a search that is lost links
lost_links : (words : List ℕ) (f : Finding) (step : FindStep) → f.step ≡ step → (step ≡ find.AtRest → ⊥) → HasLost words f step → is_linking f ≡ true
lost_links words f find.AtRest at busy lost = absurd (busy refl)
lost_links words f (find.LoadsSlot slot) at busy lost = absurd lost
lost_links words f find.LoadsLink at busy lost = rw (lost.0, at) refl
lost_links words f (find.LoadsTaken word) at busy lost = absurd lost
lost_links words f (find.TakesBucket word taken) at busy lost = rw at refl
lost_links words f (find.LinksBucket word) at busy lost = rw at refl

-- a search that only loads links nothing
reading_links : (f : Finding) (step : FindStep) → IsReading (record f { step = step }) → is_linking (record f { step = step }) ≡ false
reading_links f find.AtRest its = ap has_linked its.never
reading_links f (find.LoadsSlot slot) its = ap has_linked its.never
reading_links f find.LoadsLink its = ap has_linked its.never
reading_links f (find.LoadsTaken word) its = absurd its.loads
reading_links f (find.TakesBucket word taken) its = absurd its.loads
reading_links f (find.LinksBucket word) its = absurd its.loads

read_purpose : (occasion : Occasion) (op : Op) → is_read op ≡ true → purpose_at occasion op ≡ slot.Read
read_purpose occasion op reads = rw reads refl

attempt_share : (s : SessionState) (step : Sitting) → is_attempting step ≡ true → SharesInHand s step → SharesAttempting s.seen s.attempt s.attempt.step
attempt_share s (Attempts has_shifted) attempts so = so
attempt_share s (Polls index) attempts so = so
attempt_share s step attempts so = cc

sitting_work : (s : SessionState) (step : Sitting) → is_attempting step ≡ true → s.attempt.step ≡ Tries → s.attempt.trial.step ≡ Walks → s.attempt.trial.walk.step ≡ Finds
    → (finders.sitting_part s step).work ≡ Searches (record { finding = s.attempt.trial.walk.finding; purpose = purpose_at s.attempt.trial.occasion s.attempt.trial.request.op })
sitting_work s (Attempts has_shifted) attempts tries walks finds = rw (tries, walks, finds) refl
sitting_work s (Polls index) attempts tries walks finds = rw (tries, walks, finds) refl
sitting_work s step attempts tries walks finds = cc

-- ---- the phase word, where a try loads it behind its share
pub asks_phase : (k : Seat) (s : SessionState) (step : Sitting) → is_attempting step ≡ true → s.attempt.step ≡ Tries → s.attempt.trial.step ≡ LoadsPhase → sitting_ask k s step ≡ Load (shared_place one.Phase)
unfolding sitting_ask attempting_ask trying_ask passed
asks_phase k s (Attempts has_shifted) attempts tries loads = rw (tries, loads) refl
asks_phase k s (Polls index) attempts tries loads = rw (tries, loads) refl
asks_phase k s step attempts tries loads = cc

-- if it says prepare of this version, it says none above
still_said : (said : PhaseSaid) (version : Version) → is_still_in said version ≡ true → version_said said ≤ version.0
still_said Spoiled version still = cc
still_said (Says Prepare its) version still = let same : its.0 ≡ version.0 = eqb-true its.0 version.0 still in omega (arith, same)
still_said (Says Rest its) version still = cc
still_said (Says InProgress its) version still = cc
still_said (Says WaitPending its) version still = cc
still_said (Says WaitFlush its) version still = cc

module _ (given : Given) (life : BegunLife) (apart : OpensApart life) (before : List Event) (enabled : AreEnabled (home_of_world life.opening) life.ghosts (mapped life.opening before)) where
  abbrev N : Now
  N = (run life.opening before).now

  abbrev L : Log
  L = (life_ghosts life.opening life.ghosts before).log

  abbrev H : ℕ → ℕ
  H = home_of_world life.opening

  pub held : Held H life.map L
  held = run_held H life.map life.number life.ghosts (mapped life.opening before) life.begins.log enabled

  pub opens_log : OpensWithLog life.opening life.start life.ghosts
  opens_log = record { guarded = life.begins.store.now; opened = life.begins.world; rests = apart.quiet.seen.rests; unborn = life.begins.unborn; upto = apart.upto }

  -- no record is of a later version than the phase word's
  pub version_low : (a : ℕ) → version_at (L.cells a) ≤ phase_version N.words
  version_low a = by_cell (L.cells a) refl
    where
      by_cell : (logged : Logged) → L.cells a ≡ logged → version_at logged ≤ phase_version N.words
      by_cell (Published cell) its = cells_upto life.opening life.start life.ghosts before opens_log a cell.version (ap made_in its)
      by_cell Unborn its = omega arith
      by_cell (Reserved entry cell) its = omega arith
      by_cell (Dropped cell) its = omega arith

  pub none_said : (h w : ℕ) → phase_version N.words ≤ w → NoneAbove L h w
  none_said h w high a is_in = let low = version_low a in omega (arith, low, high)

  module _ (session : ℕ) (s : SessionState) (is_there : slice_get N.sessions session ≡ Some s) (attempts : is_attempting s.step ≡ true) (tries : s.attempt.step ≡ Tries) (known : SessionKnows H L s) (is_apart : KeepsApart life.opening life.ghosts before s) where
    abbrev t : TryState
    t = s.attempt.trial

    row : local.TriesFor H L s.attempt.pending s.attempt.seen t
    row = subst (AttemptRow H L s.attempt) tries (known.attempted attempts).row

    pub trial_apart : TryApart H L t
    trial_apart = (subst (AttemptApart H N.places L s.attempt) tries (is_apart.rows.attempted attempts)).0

    became_so : (first : SessionState) × HasBecome life.opening before session first s
    became_so = became given life apart before session s is_there

    pub same_seen : t.seen ≡ s.seen
    same_seen = row.its_seen ∙ seen_in given life apart before session s is_there attempts

    pub shares : SharesTrying s.seen t t.step
    shares = subst (SharesAttempting s.seen s.attempt) tries (attempt_share s s.step attempts (tries_share life.opening life.start before session became_so.0 s life.begins.store.now became_so.1))

    -- ---- records are of the version of an update, or of one of those beside it
    pub versions_near : VersionsNear L t
    versions_near update = record {
      below = λ a. (let low = version_low a in let most = said_next given.floors given.left life.opening life.start before apart.quiet in omega (arith, low, most, next, request));
      above = λ a cell mutable its.
          (let safe = (sees_safely life.opening life.start before session s life.begins.store.now is_there (attempting_is s.step attempts)).read_only in
          let seen : s.seen.offsets.read_only.0 ≤ a = subst (λ (x : Seen). x.offsets.read_only.0 ≤ a) same_seen mutable in
          let own = recent given life apart before a cell.version (omega (arith, safe, seen)) (ap made_in its) in
          let upto = attempt_upto given.floors given.left life.opening life.start before apart.quiet session became_so.0 s became_so.1 attempts updates in
          let ahead = given.ahead life.opening life.start before session became_so.0 s became_so.1 apart.quiet.guarded apart.quiet.seen.rests in
          let most = said_next given.floors given.left life.opening life.start before apart.quiet in
          omega (arith, own, upto, ahead, most, request));
    }
      where
        request : t.request.version.0 ≡ s.attempt.pending.request.version.0
        request = ap (λ (r : Request). r.version.0) row.its_request

        updates : is_read s.attempt.pending.request.op ≡ false
        updates = subst (λ (r : Request). is_read r.op ≡ false) row.its_request update

        next : number given.floors given.left life.opening life.start before apart.quiet ≤ s.attempt.pending.request.version.0
        next = attempt_next given.floors given.left life.opening life.start before apart.quiet session became_so.0 s became_so.1 attempts updates

    -- ---- one that doesn't share its latch
    pub unshared_said : SharesSo s.seen t → t.has_shared ≡ false → is_read t.request.op ≡ false → phase_version N.words ≤ s.attempt.pending.request.version.0
    unshared_said so unshared update = attempt_newest given.floors given.left life.opening life.start before apart.quiet session became_so.0 s became_so.1 attempts updates unprepared newest
      where
        updates : is_read s.attempt.pending.request.op ≡ false
        updates = subst (λ (r : Request). is_read r.op ≡ false) row.its_request update

        clash : {X : Type 0} → t.has_shared ≡ true → X
        clash has = let never : true ≡ false = sym has ∙ unshared in cc

        unprepared : is_prepare s.seen.phase ≡ false
        unprepared = by_phase (is_prepare s.seen.phase) refl
          where
            by_phase : (b : Bool) → is_prepare s.seen.phase ≡ b → is_prepare s.seen.phase ≡ false
            by_phase true e = clash (so.prepares e update)
            by_phase false e = e

        newest : is_moving_on s.seen.phase ≡ true → s.attempt.pending.request.version.0 ≡ s.seen.version.0
        newest moves = by_version (s.attempt.pending.request.version.0 == s.seen.version.0) refl
          where
            by_version : (b : Bool) → (s.attempt.pending.request.version.0 == s.seen.version.0) ≡ b → s.attempt.pending.request.version.0 ≡ s.seen.version.0
            by_version true e = eqb-true s.attempt.pending.request.version.0 s.seen.version.0 e
            by_version false e =
                let upto = attempt_upto given.floors given.left life.opening life.start before apart.quiet session became_so.0 s became_so.1 attempts updates in
                let older : s.attempt.pending.request.version.0 < s.seen.version.0 = grind (arith, nat_tests, e, upto) in
                clash (so.kept (given.older life.opening life.start before session became_so.0 s apart.quiet.guarded apart.latches apart.quiet.seen became_so.1 (is_apart.none session became_so.0 became_so.1.was) attempts tries updates older))

    pub unshared_none : SharesSo s.seen t → t.has_shared ≡ false → NoneIsLater H L t.request
    unshared_none so unshared update =
        subst (λ (r : Request). NoneAbove L (H (key_in t.request)) r.version.0) (sym row.its_request) (none_said (H (key_in t.request)) s.attempt.pending.request.version.0 (unshared_said so unshared update))

    -- ---- what a try in prepare is told
    above : is_prepare t.seen.phase ≡ true → is_read t.request.op ≡ false → (a : ℕ) → IsLater H L t.request a → head_in t.seen ≤ a
    above prepares update a later = by_test (nat_le (head_in t.seen) a) refl
      where
        by_test : (b : Bool) → nat_le (head_in t.seen) a ≡ b → head_in t.seen ≤ a
        by_test true e = grind (arith, nat_tests, e)
        by_test false e =
            let low : a < head_in t.seen = grind (arith, nat_tests, e) in
            let head : head_in t.seen ≤ L.fixed = subst (λ (x : Seen). head_in x ≤ L.fixed) (sym same_seen) (life_head_fixed life.opening life.start life.ghosts before session s life.begins.store.now life.begins.fixed is_there) in
            let fixed = ghost_fixed life.opening life.start life.ghosts before life.begins.store.now life.begins.fixed in
            let live = awake given.floors given.left life.opening life.start before apart.quiet session became_so.0 s became_so.1 attempts in
            let safe = given.safe life.opening life.start before apart.quiet.guarded session became_so.0 s became_so.1 live in
            let seen : IsOlder (sight_of life.opening before session).view L = (sees_older life.opening life.start life.ghosts before session became_so.0 s opens_log became_so.1).view in
            let cell = held.chains.in_chain (H (key_in t.request)) a later.0 in
            let older = seen a cell.cell.version (omega (arith, low, head, fixed, safe)) (ap made_in cell.its) in
            let view = ap (λ (v : Version). v.0) (view_seen life.opening before session became_so.0 s became_so.1).version in
            let updates : is_read s.attempt.pending.request.op ≡ false = subst (λ (r : Request). is_read r.op ≡ false) row.its_request update in
            let own = attempt_prepared given.floors given.left life.opening life.start before apart.quiet session became_so.0 s became_so.1 attempts updates (subst (λ (x : Seen). is_prepare x.phase ≡ true) same_seen prepares) in
            let is = ap version_at cell.its in
            let high = later.1 in
            let request = ap (λ (r : Request). r.version.0) row.its_request in
            absurd (omega (arith, older, view, own, is, high, request))

    pub in_ring : (a : ℕ) → IsIn a (L.chains (H (key_in t.request))) → a < head_in t.seen + N.places.ring
    in_ring a is_in = subst (λ (x : Seen). a < head_in x + N.places.ring) (sym same_seen) (by_test (nat_lt a (head_in s.seen)) refl)
      where
        there : a < tail_at N
        there = let cell = held.chains.in_chain (H (key_in t.request)) a is_in in published_below life.opening life.start life.ghosts before a cell.cell life.begins.store.now life.begins.unborn cell.its

        by_test : (b : Bool) → nat_lt a (head_in s.seen) ≡ b → a < head_in s.seen + N.places.ring
        by_test true e = let low : a < head_in s.seen = grind (arith, nat_tests, e) in omega (arith, low)
        by_test false e =
            let high : head_in s.seen ≤ a = grind (arith, nat_tests, e) in
            let below = there in
            let framed = finds_framed life.opening life.start before session s life.begins.store.now is_there (attempting_is s.step attempts) (head_in s.seen) (omega arith) (omega (arith, high, below)) in
            let near = framed.near in
            let order = (life_in_order N (seen_by_guard life.opening life.start before) (life_shows life.opening life.start before life.begins.store.now)).tail_below in
            omega (arith, near, order, below)

    -- ---- a search
    has_heads : HasHeads life.opening life.start life.lists life.ghosts
    has_heads = record { opened = life.begins.store.now; in_order = life.begins.index; none = life.begins.unborn; free = life.begins.reserves; leads = life.begins.heads }

    pub search : t.step ≡ Walks → t.walk.step ≡ Finds → SearchTells L (H (key_in t.request)) N.places t.walk.finding (reply_in N session s)
    search walks finds = record { lost = lost; empty = empty }
      where
        its : Search
        its = record { finding = t.walk.finding; purpose = purpose_at t.occasion t.request.op }

        searches : (session_part s).work ≡ Searches its
        searches = sitting_work s s.step attempts tries walks finds

        w : IndexWorld
        w = seen_by_index life.opening life.lists before

        lost : (told : FindAnswer) → (t.walk.finding.step ≡ find.AtRest → ⊥) → find_next_ask N.places t.walk.finding (reply_in N session s) ≡ Done told → is_lost told.found ≡ true → is_linking t.walk.finding ≡ true
        lost told busy e is_so = by_found told.found refl is_so
          where
            sound : IsSound w
            sound = life_sound life.opening life.lists before life.begins.index

            contended : told.found ≡ found.Contended → is_linking t.walk.finding ≡ true
            contended is =
                let shows = shows_then life.opening life.start life.lists life.ghosts before has_heads in
                let actor = shows.actors session s is_there in
                let work : IsWork (Searches its) actor.actor = subst (λ (x : SessionWork). IsWork x actor.actor) searches actor.its.work in
                let asks = (life_asks life.opening life.lists before life.begins.index (are_permitted life.opening life.lists before life.begins.index) session s is_there).searches its searches in
                let reply : reply_in N session s ≡ reply_to N.words (find_ask t.walk.finding) = ap (reply_to N.words) asks ∙ passed_reply N.words (find_ask t.walk.finding) Slept in
                let ends : find_next_ask w.now.places actor.actor.finding (reply_to w.now.words (find_ask actor.actor.finding)) ≡ Done told = rw (shows.places, shows.words, work.1) (ap (find_next_ask N.places t.walk.finding) (sym reply) ∙ e) in
                let has = sound_lost w sound session actor.actor told actor.got work.0 ends is in
                let here : HasLost w.now.words t.walk.finding t.walk.finding.step = subst (λ (f : Finding). HasLost w.now.words f f.step) work.1 has in
                lost_links w.now.words t.walk.finding t.walk.finding.step refl busy here

            by_found : (its_found : Found) → told.found ≡ its_found → is_lost its_found ≡ true → is_linking t.walk.finding ≡ true
            by_found (found.Slot place word) is so = cc
            by_found found.NoSlot is so = cc
            by_found found.Full is so = full_links N.places t.walk.finding (reply_in N session s) told e (ap is_full is)
            by_found found.Kept is so = full_links N.places t.walk.finding (reply_in N session s) told e (ap is_full is)
            by_found found.Contended is so = contended is

        empty : t.walk.finding.step ≡ find.LoadsLink → link_of (reply_in N session s) ≡ 0 → head_of (L.chains (H (key_in t.request))) ≡ 0
        empty at nowhere =
            let none = life_meets life.opening life.start life.lists life.ghosts before has_heads session s its is_there searches at nowhere in
            let home : t.walk.finding.home ≡ home_attempted N s = subst (IsWorkAt (home_attempted N s)) searches (life_at_home life.opening life.lists before life.begins.index session s is_there).work in
            let same : home_attempted N s ≡ home_of life.opening.now.shape.bucket_bits (key_of t.request.op) =
            ap (λ (shape : _). home_of shape.bucket_bits (key_of s.attempt.pending.request.op)) (shape_stays life.opening before) ∙ sym (ap (λ (r : Request). home_of life.opening.now.shape.bucket_bits (key_of r.op)) row.its_request) in
            subst (λ (x : Home). head_of (L.chains (home_number x)) ≡ 0) (home ∙ same) none

    -- that of a read links nothing
    pub links_none : t.step ≡ Walks → t.walk.step ≡ Finds → is_read t.request.op ≡ true → is_linking t.walk.finding ≡ false
    links_none walks finds reads =
        let its : Search = record { finding = t.walk.finding; purpose = purpose_at t.occasion t.request.op } in
        let searches : (session_part s).work ≡ Searches its = sitting_work s s.step attempts tries walks finds in
        let actor = (shows_then life.opening life.start life.lists life.ghosts before has_heads).actors session s is_there in
        let work : IsWork (Searches its) actor.actor = subst (λ (x : SessionWork). IsWork x actor.actor) searches actor.its.work in
        let begun : IsBegun actor.actor = (life_sound life.opening life.lists before life.begins.index).begun session actor.actor actor.got in
        reading_links t.walk.finding t.walk.finding.step (subst IsReading work.1 (begun.its_reading (work.2 ∙ read_purpose t.occasion t.request.op reads)))

    pub tells : TellsSharer H L N.places t (reply_in N session s)
    tells walks has prepares = by_op (is_read t.request.op) refl
      where
        by_op : (b : Bool) → is_read t.request.op ≡ b → TellsApart H L N.places t (reply_in N session s)
        by_op true read = let clash : true ≡ false = sym has ∙ (row.knows.free read).0 in cc
        by_op false update = record { above = above prepares update; in_ring = in_ring; search = search walks }

    pub phase_tells : TellsPhase H L t (reply_in N session s)
    phase_tells loads has still update =
        let word : reply_in N session s ≡ word_at N.words (shared_place one.Phase) = ap (reply_to N.words) (asks_phase (seat_at N session) s s.step attempts tries loads) in
        none_said (H (key_in t.request)) t.request.version.0 (still_said (phase_said (word_at N.words (shared_place one.Phase))) t.request.version (subst (λ (w : ℕ). is_still_in (phase_said w) t.request.version ≡ true) word still))

    -- ---- so one that passes its walk has none later
    pub passes : IsTrueReply H L N.places t t.step (reply_in N session s) → NoneLaterPast H L N.places t (reply_in N session s)
    passes says at addr version ends past update = by_share t.has_shared refl
      where
        by_share : (b : Bool) → t.has_shared ≡ b → NoneAbove L (H (key_in t.request)) t.request.version.0
        by_share true e = sharers_pass H L N.places t (reply_in N session s) (orderly H life.map L held) (held.falls (H (key_in t.request))) versions_near tells row.knows says trial_apart e at addr version ends past update
        by_share false e = unshared_none (subst (SharesTrying s.seen t) at shares) e update

    -- and a record that it may change is of the version whose mark its header has
    pub marks : IsTrueReply H L N.places t t.step (reply_in N session s) → MarksTell L N.places t (reply_in N session s)
    marks says = marks_told H L N.places t (reply_in N session s) (orderly H life.map L held) versions_near row.knows says
