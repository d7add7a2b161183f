-- The points of each commit that has begun in a life, by the laws of points, and by what its sessions have answered.
use Rattle.std.proofs.Common.{◌≡◌, ℕ, ◌<◌, ◌≤◌, ◌∙◌, List, length, refl, arith, ap, sym, subst, Bool, true, false, cond}
use Rattle.std.specs.Prelude.{Option, None, Some, nat_le, nat_lt, slice_get}
use Rattle.std.specs.List.{count_by}
use Rattle.std.proofs.lemmas.Bool.Decides.{nat_tests}
use Rattle.std.proofs.lemmas.Option.{slice_get_within}
use Rattle.fkv_base.specs.Limits.{last_serial}
use Rattle.fkv_epoch.proofs.Shown.{none_some}
use Rattle.law_commit.specs.Below.fkv_keeper.LastCommits.{points_written}
use Rattle.fkv_map.specs.History.{is_kept, is_update, point_of}
use Rattle.fkv_map.specs.declared.history.HistoryEntry.{HistoryEntry}
use Rattle.law_commit.specs.Below.fkv_session.Accounts.{IsAnsweredOnce, names_of, number_of}
use Rattle.law_commit.specs.Below.fkv_session.Replies.{AreRepliesOfEffects, is_of}
use Rattle.law_commit.specs.Below.fkv_session.SessionRun.{in_hand, session_run}
use Rattle.law_commit.specs.Below.fkv_session.Sessions.{SessionState, is_busy}
use Rattle.law_commit.specs.Below.fkv_session.Versions.{AreAsTaken, versions_taken}
use Rattle.law_commit.specs.Below.fkv_world.Opened.{HasBecome, effects_of, life_effects, life_told}
use Rattle.law_commit.specs.Below.fkv_world.OwnEvents.{session_events}
use Rattle.law_commit.specs.Below.fkv_world.Past as world
use Rattle.law_commit.specs.Below.fkv_world.Runs.{World, happens, run}
use Rattle.law_commit.specs.Below.fkv_world.World.{Event, seat_at}
use Rattle.law_commit.proofs.Below.fkv_world.Shown.{session_runs}
use Rattle.law_commit.specs.Accepted.{point, versions_found}
use Rattle.law_commit.specs.LastSerials.{serial_at, serial_of}
use Rattle.law_commit.specs.BegunCommits.{BegunCommit, life_begun}
use Rattle.law_commit.specs.Points.{BegunHavePoints, OpensPointed, RisesByVersion, UpToGiven}
use Rattle.law_commit.specs.Quiet.{BegunHaveFlushed, HasNoneUpto, NoneIsLeft, PointsAlwaysSplit, pending_rank, rank_now}
use Rattle.law_commit.specs.Versions.Laws.{HasEffectsOfVersions}
use Rattle.law_commit.proofs.OfCuts.Fits.{run_fits}
use Rattle.law_commit.proofs.OfPoints.Taken.{none_past}
use Rattle.law_commit.proofs.OfVersions.Points.{count_low}
use Rattle.law_commit.proofs.Shown.{life_counted}
use Rattle.law_log.specs.Trace as log
use Rattle.law_log.specs.Trace.{IsIn, history_of}
use Rattle.law_commit.specs.Below.law_paper.Kept.{PointsSplit}
use Rattle.law_order.proofs.OfRecovered.OfPoints.Effects.{IsSeated, NoneTwice, count_is, each_seated, most_one, none_so, of_life}
use Rattle.law_order.proofs.OfRecovered.OfPoints.Once.{none_low, one_there}
use Rattle.law_order.proofs.OfRecovered.OfPoints.Written.{written_past, written_there}
use Rattle.law_commit.specs.Below.law_refine.Calls.Calls.{effects_of_life}
use Rattle.law_commit.proofs.Below.law_world.OfSessions.OwnRun.{opened_so}
use Rattle.law_commit.specs.Below.law_world.Runs.Added.{IsHistoryAfter}

-- ---- what is given, of each life
abbrev pub AnswersOnce : Type 0
AnswersOnce = (opening : World) (events : List Event) (session : ℕ) (first its : SessionState) (serial : ℕ) → HasBecome opening events session first its → first.serial < serial → serial ≤ its.serial
    → IsAnsweredOnce (life_told opening events session first) (names_of its.requests) (in_hand its.step its.finished) serial

abbrev pub RepliesOfEffects : Type 0
RepliesOfEffects = (opening : World) (events : List Event) (session : ℕ) (first its : SessionState) → HasBecome opening events session first its
    → AreRepliesOfEffects (life_effects opening events session first) (life_told opening events session first) (in_hand its.step its.finished) (is_busy its.step)

abbrev pub WaitAsTaken : Type 0
WaitAsTaken = (opening : World) (events : List Event) (session : ℕ) (first its : SessionState) → HasBecome opening events session first its
    → AreAsTaken (versions_taken (seat_at opening.now session) first (session_events opening session events)) its.requests

abbrev pub TellsItsEffects : Type 0
TellsItsEffects = (opening : World) (events : List Event) (session : ℕ) (first its : SessionState) → HasBecome opening events session first its
    → life_effects opening events session first ≡ effects_of session (run opening events).past.history

pub record Given : Type 0 where
  pub begun : BegunHavePoints
  pub given : UpToGiven
  pub rises : RisesByVersion
  pub effects : HasEffectsOfVersions
  pub left : NoneIsLeft
  pub splits : PointsAlwaysSplit
  pub flushed : BegunHaveFlushed
  pub once : AnswersOnce
  pub replies : RepliesOfEffects
  pub taken : WaitAsTaken
  pub tells : TellsItsEffects
  pub added : (w : World) (event : Event) → IsHistoryAfter w event (happens w event).past.history

-- ---- tests
low_count : (opening n count : ℕ) → count ≡ 0 → n ≤ opening → count ≡ cond (nat_lt opening n) 1 0
low_count opening n count none low = grind (arith, nat_tests, none, low)

high_count : (opening n count : ℕ) → count ≡ 1 → opening < n → count ≡ cond (nat_lt opening n) 1 0
high_count opening n count one high = grind (arith, nat_tests, one, high)

is_above : (a b : ℕ) → nat_lt a b ≡ true → a < b
is_above a b e = grind (arith, nat_tests, e)

is_upto : (a b : ℕ) → nat_lt a b ≡ false → b ≤ a
is_upto a b e = grind (arith, nat_tests, e)

-- ---- of one life
module _ (g : Given) (opening : World) (start : ℕ) (events : List Event) (opens : OpensPointed opening start) where
  abbrev session_now : (session : ℕ) → SessionState → SessionState
  session_now session first = session_run (seat_at opening.now session) first (session_events opening session events)

  become : (session : ℕ) (first : SessionState) → slice_get opening.now.sessions session ≡ Some first → HasBecome opening events session first (session_now session first)
  become session first was = let quiet = opens.quiet in record { opened = quiet.opened; was = was; is_now = session_runs opening session first events was }

  no_point : (session last : ℕ) → slice_get opening.now.sessions session ≡ None → point opening events session last ≡ 0
  no_point session last none = rw none refl

  module _ (c : BegunCommit) (there : IsIn c (life_begun opening events)) where
    last : ℕ
    last = c.number.0

    high : pending_rank c.number.0 ≤ rank_now opening events
    high = let flushed = g.flushed opening start events c opens.quiet there in omega (arith, flushed)

    is_point : (session : ℕ) → point_of c.points session ≡ point opening events session c.number.0
    is_point session = g.begun opening start events c opens there session

    -- ---- they split the effects by version
    session_splits : (it : world.Effect) → IsIn it (run opening events).past.history → is_kept c.points it.entry ≡ nat_le it.version.0 c.number.0
    session_splits it stands =
        let quiet = opens.quiet in
        let seated : IsSeated opening it = each_seated g.added opening quiet.opened events it stands in
        ap (λ (n : ℕ). nat_le it.entry.serial.0 n) (is_point it.entry.session)
        ∙ g.splits opening start events c.number.0 it.entry.session seated.0 (session_now it.entry.session seated.0) opens.quiet (become it.entry.session seated.0 seated.1) high it stands refl

    pub splits_so : PointsSplit c.points c.number.0 (effects_of_life opening events)
    splits_so effect stands =
        let found = of_life (run opening events).past.history effect stands in
        subst (λ (x : log.Effect). is_kept c.points x.entry ≡ nat_le x.version c.number.0) found.2 (session_splits found.0 found.1)

    -- ---- none has fallen
    pub no_lower : (session : ℕ) → serial_at opening.now session ≤ point_of c.points session
    no_lower session = let is = is_point session in omega (arith, is)

    -- ---- a slot has room for them
    is_small : (session : ℕ) (first : SessionState) → slice_get opening.now.sessions session ≡ Some first → point_of c.points session ≤ last_serial
    is_small session first was =
        let became = become session first was in
        let its : SessionState = session_now session first in
        let fits : its.serial ≤ last_serial = run_fits (seat_at opening.now session) first (session_events opening session events) (opened_so opening events session first its became) in
        let counts = life_counted opening events session first its became in
        let few = count_low c.number.0 (versions_found opening events session (slice_get opening.now.sessions session)) in
        let is = is_point session in
        omega (arith, fits, counts, few, is)

    pub fits_so : (sessions : ℕ) → length opening.now.sessions ≡ sessions → (session : ℕ) → point_of (points_written sessions c.points) session ≡ point_of c.points session
    fits_so sessions many session = by_session (slice_get opening.now.sessions session) refl
      where
        by_session : (found : Option SessionState) → slice_get opening.now.sessions session ≡ found → point_of (points_written sessions c.points) session ≡ point_of c.points session
        by_session None none =
            let past = none_past opening.now.sessions session none in
            written_past sessions session c.points (omega (arith, past, many)) ∙ sym (is_point session ∙ no_point session c.number.0 none)
        by_session (Some first) was =
            let within = slice_get_within opening.now.sessions session first was in
            written_there sessions session c.points (omega (arith, within, many)) (is_small session first was)

    -- ---- each serial up to a point is kept once
    seated_count : NoneTwice (effects_of_life opening events) → (session n : ℕ) (first : SessionState) → slice_get opening.now.sessions session ≡ Some first → n ≤ point_of c.points session
        → number_of (is_of n) (effects_of session (run opening events).past.history) ≡ cond (nat_lt first.serial n) 1 0
    seated_count twice session n first was low = by_test (nat_lt first.serial n) refl
      where
        its : SessionState
        its = session_now session first

        became : HasBecome opening events session first its
        became = become session first was

        given : point opening events session c.number.0 ≤ its.serial
        given =
            let most = g.given opening start events session c.number.0 opens.quiet in
            let now = ap serial_of became.is_now in
            omega (arith, most, now)

        by_test : (b : Bool) → nat_lt first.serial n ≡ b → number_of (is_of n) (effects_of session (run opening events).past.history) ≡ cond (nat_lt first.serial n) 1 0
        by_test true e =
            let quiet = opens.quiet in
            let none : HasNoneUpto c.number.0 its = g.left opening start events c.number.0 session first its opens.quiet became (g.flushed opening start events c opens.quiet there) in
            let is = is_point session in
            let most = given in
            let one = one_there opening start events quiet session first its became (g.taken opening events session first its became) (λ i above upto. g.once opening events session first its i became above upto)
            (g.replies opening events session first its became)
            (λ i. subst (λ (x : List HistoryEntry). number_of (is_of i) x ≤ 1) (sym (g.tells opening events session first its became)) (most_one session i (run opening events).past.history twice)) c.number.0 n none (is_above first.serial n e) (omega (arith, low, is)) (omega (arith, low, is, most)) in
            high_count first.serial n _ (ap (λ (x : List HistoryEntry). number_of (is_of n) x) (sym (g.tells opening events session first its became)) ∙ one) (is_above first.serial n e)
        by_test false e =
            let quiet = opens.quiet in
            low_count first.serial n _ (none_low opening start events quiet session first its became (g.effects opening start events session first its quiet.guarded quiet.seen.rests became) n (is_upto first.serial n e)) (is_upto first.serial n e)

    pub count_so : NoneTwice (effects_of_life opening events) → (session n : ℕ) → n ≤ point_of c.points session → count_by (is_update session n) (history_of (effects_of_life opening events)) ≡ cond (nat_lt (serial_at opening.now session) n) 1 0
    count_so twice session n low = count_is session n (run opening events).past.history ∙ by_session (slice_get opening.now.sessions session) refl
      where
        by_session : (found : Option SessionState) → slice_get opening.now.sessions session ≡ found → number_of (is_of n) (effects_of session (run opening events).past.history) ≡ cond (nat_lt (serial_at opening.now session) n) 1 0
        by_session None none =
            let quiet = opens.quiet in
            let is = is_point session ∙ no_point session c.number.0 none in
            low_count (serial_at opening.now session) n _
            (none_so session n (run opening events).past.history
            (λ it stands mine named.
            let seated : IsSeated opening it = each_seated g.added opening quiet.opened events it stands in
            none_some seated.0 (sym none ∙ (ap (λ (i : ℕ). slice_get opening.now.sessions i) (sym mine) ∙ seated.1))))
            (omega (arith, low, is))
        by_session (Some first) was =
            seated_count twice session n first was low ∙ ap (λ (s : ℕ). cond (nat_lt s n) 1 0) (sym (ap serial_of was))

  -- ---- and no commit has a lower point than an older one
  pub rises_so : (older newer : BegunCommit) → IsIn older (life_begun opening events) → IsIn newer (life_begun opening events) → older.number.0 ≤ newer.number.0 → (session : ℕ) → point_of older.points session ≤ point_of newer.points session
  rises_so older newer one other up session =
      let rises = g.rises opening events session older.number.0 newer.number.0 up in
      let first = is_point older one session in
      let second = is_point newer other session in
      omega (arith, rises, first, second)
