-- From a commit's end on each record is of a later version; below it none is of a version past the next one, and all is settled. Below its first address none
-- is of a later version, and from there on none of an earlier one.
use Rattle.std.specs.Prelude.{if◌then◌else◌}
use Rattle.std.proofs.Common.{◌≡◌, inl, inr, ℕ, ◌+◌, ◌-◌, ◌≤◌, ◌∙◌, List, [], ◌∷◌, ◌++◌, refl, arith, ap, sym, subst, Bool, true, false}
use Rattle.std.proofs.lemmas.List.{append-nil}
use Rattle.fkv_base.specs.declared.numbers.Version.{Version}
use Rattle.law_refine.specs.Below.fkv_commit.TheSeeking.{Seeking}
use Rattle.law_refine.specs.Below.fkv_commit.TheSeeking.TheVariants as seeking
use Rattle.law_refine.specs.Below.fkv_commit.TheStarting.{Starting}
use Rattle.law_refine.specs.Below.fkv_commit.TheStarting.TheVariants as starting
use Rattle.law_refine.specs.Below.fkv_keeper.TheKeeping.{Keeping}
use Rattle.law_refine.specs.Below.fkv_keeper.TheKeeping.TheVariants.{Seeks, Starts, Writes}
use Rattle.law_refine.specs.Below.fkv_keeper.Keeping.{KeeperState, come_to}
use Rattle.law_refine.specs.Below.fkv_world.Runs.{World, run}
use Rattle.law_refine.specs.Below.fkv_world.World.{Event, Now}
use Rattle.law_log.specs.Ghosts.{Ghosts, Log}
use Rattle.law_refine.specs.Events.GhostEvents.{life_ghosts}
use Rattle.law_refine.specs.Events.Reserved.{tail_at}
use Rattle.law_refine.proofs.OfSeen.There.{was_there}
use Rattle.law_commit.specs.Decided.Below.{ButOpenings, CellsBelow, IsLaterFromEnd, IsOldBelowFirst, IsRecentFromFirst, IsSettledBelowEnd, IsYoungBelowEnd, OfEachBegun, OpensWhole}
use Rattle.law_commit.specs.Decided.Cells.{DecidedBelow}
use Rattle.law_commit.specs.Decided.Ended.{HadMoment, HasEnded, IsWrittenNow, LoadsEnd, LoadsFirst, Span, span_of, span_opened}
use Rattle.law_commit.specs.Decided.Later.{AttemptLater, AttemptedLater}
use Rattle.law_commit.specs.Decided.Laws.{OpensDecided}
use Rattle.law_commit.specs.Floor.Stands.{FloorAlwaysStands, IsWritten, stage_number}
use Rattle.law_commit.specs.PhaseVersions.{phase_version, version_said}
use Rattle.law_commit.specs.Phases.Staged.{Flushes, Prepares, SeekAt, Stage, StartAt, StepAt, stage_version}
use Rattle.law_commit.specs.Quiet.{NoneIsLeft, OpensQuiet, flush_rank, rank_now, rank_said}
use Rattle.law_commit.specs.Versions.Laws.{OpensWithLog}
use Rattle.law_commit.proofs.OfDecided.Ended.{had_since, have_ended, written_so}
use Rattle.law_commit.proofs.OfDecided.Later.{makes_later}
use Rattle.law_commit.proofs.OfDecided.Lives.{below_end, settles, stays_decided, tails_rise}
use Rattle.law_commit.proofs.OfPhases.LifeStages.{life_staged, version_now}
use Rattle.law_commit.proofs.OfQuiet.Ranks.{rank_first, ranks_rise, staged_rank}
use Rattle.law_commit.proofs.OfVersions.Life.{cells_from, cells_upto, keeps_versions}

-- ---- what the keeper is at as it loads the tail
record FlushesIt (opening : World) (x : Span) (moment : List Event) : Type 0 where
  rank : flush_rank x.number.0 ≤ rank_now opening moment
  version : phase_version (run opening moment).now.words ≤ x.number.0 + 1

-- a keeper that is at a commit's writes has come to them
come_written : (s : KeeperState) → IsWritten s.step → IsWritten (come_to s)
come_written s written = by s.rests
  where
    by : (rests : Bool) → IsWritten (if rests then Writes else s.step)
    by true = tt
    by false = written

at_end : (number : Version) (stage : Stage) (s : KeeperState) → s.step ≡ Seeks → s.seek.step ≡ seeking.LoadsTail → StepAt number stage s s.step → stage ≡ Flushes
at_end number stage s seeks loads at =
    let here : StepAt number stage s Seeks = subst (λ (k : Keeping). StepAt number stage s k) seeks at in
    let there : SeekAt number stage s.seek seeking.LoadsTail = subst (λ (k : Seeking). SeekAt number stage s.seek k) loads here.1 in
    there.0

record PreparesIt (its number : Version) (stage : Stage) : Type 0 where
  same : its ≡ number
  prepares : stage ≡ Prepares

at_first : (number its : Version) (stage : Stage) (s : KeeperState) → s.step ≡ Starts → s.start.step ≡ starting.LoadsTail its → StepAt number stage s s.step → PreparesIt its number stage
at_first number its stage s starts loads at =
    let here : StepAt number stage s Starts = subst (λ (k : Keeping). StepAt number stage s k) starts at in
    let there : StartAt number stage s.start (starting.LoadsTail its) = subst (λ (k : Starting). StartAt number stage s.start k) loads here in
    record { same = there.0.same; prepares = there.1 }

flushed_version : (number : Version) → (stage_version number Flushes).0 ≤ number.0 + 1
flushed_version number = omega arith

-- as the end is loaded the phase word says wait-flush of the commit
pub ending_rank : (opening : World) (start : ℕ) (opens : OpensQuiet opening start) (x : Span) (moment : List Event) → LoadsEnd x (run opening moment).now → rank_now opening moment ≡ flush_rank x.number.0
ending_rank opening start opens x moment its =
    let n : Now = (run opening moment).now in
    let lived = life_staged opening start moment opens.guarded opens.opened opens.seen.rests in
    let flushes = at_end lived.number lived.stage n.keeper its.seeks its.loads lived.staged.keeper.step in
    let hand = ap (λ (v : Version). v.0) (lived.staged.keeper.has.hand its.commit its.in_hand).0 in
    let same = ap (λ (y : Span). y.number.0) its.its in
    let said = staged_rank n lived.number lived.stage lived.staged in
    let stage = ap stage_number flushes in
    omega (arith, hand, same, said, stage)

-- ---- a life
module _ (opening : World) (start : ℕ) (ghosts : Ghosts) (opens : OpensWhole opening start ghosts) where
  abbrev log_at : List Event → Log
  log_at events = (life_ghosts opening ghosts events).log

  with_log : OpensWithLog opening start ghosts
  with_log = let quiet = opens.quiet in record { guarded = quiet.guarded; opened = quiet.opened; rests = quiet.seen.rests; unborn = opens.unborn; upto = opens.upto }

  pub with_decided : OpensDecided opening start ghosts
  with_decided = let quiet = opens.quiet in record { guarded = quiet.guarded; opened = quiet.opened; unborn = opens.unborn; decided = opens.decided }

  flushes_it : (x : Span) (moment : List Event) → LoadsEnd x (run opening moment).now → FlushesIt opening x moment
  flushes_it x moment its =
      let quiet = opens.quiet in
      let n : Now = (run opening moment).now in
      let lived = life_staged opening start moment quiet.guarded quiet.opened quiet.seen.rests in
      let flushes = at_end lived.number lived.stage n.keeper its.seeks its.loads lived.staged.keeper.step in
      let hand = ap (λ (v : Version). v.0) (lived.staged.keeper.has.hand its.commit its.in_hand).0 in
      let same = ap (λ (y : Span). y.number.0) its.its in
      let version = version_now n lived.number lived.stage lived.staged in
      let upto = flushed_version lived.number in
      let next = ap (λ (s : Stage). (stage_version lived.number s).0) flushes in
      let rank = ending_rank opening start quiet x moment its in
      record { rank = omega (arith, rank); version = omega (arith, hand, same, version, upto, next) }

  prepares_version : (number : Version) (moment : List Event) → (run opening moment).now.keeper.step ≡ Starts → (run opening moment).now.keeper.start.step ≡ starting.LoadsTail number → phase_version (run opening moment).now.words ≡ number.0
  prepares_version number moment starts loads =
      let quiet = opens.quiet in
      let n : Now = (run opening moment).now in
      let lived = life_staged opening start moment quiet.guarded quiet.opened quiet.seen.rests in
      let at = at_first lived.number number lived.stage n.keeper starts loads lived.staged.keeper.step in
      version_now n lived.number lived.stage lived.staged ∙ (ap (λ (s : Stage). (stage_version lived.number s).0) at.prepares ∙ ap (λ (v : Version). v.0) (sym at.same))

  -- ---- from the end on
  rank_stays : (version : ℕ) (later before : List Event) → flush_rank version ≤ rank_now opening before → flush_rank version ≤ rank_now opening (later ++ before)
  rank_stays version [] before high = high
  rank_stays version (event ∷ later) before high =
      let up = ranks_rise opening start (later ++ before) event opens.quiet in
      let was = rank_stays version later before high in
      omega (arith, up, was)

  attempts_later : NoneIsLeft → (version : ℕ) (moment : List Event) → flush_rank version ≤ rank_now opening moment → AttemptLater version (run opening moment).now
  attempts_later left version moment high session s found =
      let was = was_there opening moment session s found in
      let none = left opening start moment version session was.first s opens.quiet (record { opened = (let quiet = opens.quiet in quiet.opened); was = was.was; is_now = found }) high in
      none.attempted

  attempted_later : NoneIsLeft → (version : ℕ) (later before : List Event) → flush_rank version ≤ rank_now opening before → AttemptedLater version opening later before
  attempted_later left version [] before high = tt
  attempted_later left version (event ∷ later) before high = (attempts_later left version (later ++ before) (rank_stays version later before high), attempted_later left version later before high)

  later_from : NoneIsLeft → (events : List Event) (x : Span) → HadMoment (LoadsEnd x) opening events → IsLaterFromEnd opening x (log_at events)
  later_from left events x had =
      let quiet = opens.quiet in
      let its = had.was in
      let tail = its.tail in
      subst (λ (e : List Event). IsLaterFromEnd opening x (log_at e)) (sym had.split)
      (makes_later opening start ghosts had.later had.moment x.end.0 x.number.0 quiet.guarded opens.unborn (omega (arith, tail)) (attempted_later left x.number.0 had.later had.moment (flushes_it x had.moment its).rank))

  -- ---- from the first address on
  -- as that is loaded the commit before it has come to its end
  first_rank : (x : Span) (moment : List Event) → LoadsFirst x.number x.first (run opening moment).now → flush_rank (x.number.0 - 1) ≤ rank_now opening moment
  first_rank x moment its =
      let quiet = opens.quiet in
      let n : Now = (run opening moment).now in
      let lived = life_staged opening start moment quiet.guarded quiet.opened quiet.seen.rests in
      let at = at_first lived.number x.number lived.stage n.keeper its.starts its.loads lived.staged.keeper.step in
      let same = ap (λ (v : Version). v.0) at.same in
      let said = staged_rank n lived.number lived.stage lived.staged in
      let stage = ap stage_number at.prepares in
      let first = rank_first opening start moment quiet in
      let opened = ap rank_said quiet.seen.rests.says in
      omega (arith, same, said, stage, first, opened)

  recent_from : NoneIsLeft → (events : List Event) (x : Span) → HadMoment (LoadsFirst x.number x.first) opening events → IsRecentFromFirst opening x (log_at events)
  recent_from left events x had =
      let quiet = opens.quiet in
      let its = had.was in
      let tail = its.tail in
      let later = makes_later opening start ghosts had.later had.moment x.first.0 (x.number.0 - 1) quiet.guarded opens.unborn (omega (arith, tail))
      (attempted_later left (x.number.0 - 1) had.later had.moment (first_rank x had.moment its)) in
      subst (λ (e : List Event). IsRecentFromFirst opening x (log_at e)) (sym had.split) (λ a version from made. (let least = later a version from made in omega (arith, least)))

  -- ---- below an address that was the tail
  below_tail : (later moment : List Event) (bound high : ℕ) → bound ≡ tail_at (run opening moment).now → phase_version (run opening moment).now.words ≤ high → CellsBelow bound high (log_at (later ++ moment))
  below_tail later moment bound high tail upto a version low made =
      let quiet = opens.quiet in
      let was = sym (keeps_versions opening start ghosts later moment quiet.guarded a (omega (arith, low, tail))) ∙ made in
      let most = cells_upto opening start ghosts moment with_log a version was in
      omega (arith, most, upto)

  young_below : (events : List Event) (x : Span) → HadMoment (LoadsEnd x) opening events → IsYoungBelowEnd opening x (log_at events)
  young_below events x had =
      let its = had.was in
      subst (λ (e : List Event). IsYoungBelowEnd opening x (log_at e)) (sym had.split) (below_tail had.later had.moment x.end.0 (x.number.0 + 1) its.tail (flushes_it x had.moment its).version)

  old_below : (events : List Event) (x : Span) → HadMoment (LoadsFirst x.number x.first) opening events → IsOldBelowFirst opening x (log_at events)
  old_below events x had =
      let its = had.was in
      let same = prepares_version x.number had.moment its.starts its.loads in
      subst (λ (e : List Event). IsOldBelowFirst opening x (log_at e)) (sym had.split) (below_tail had.later had.moment x.first.0 x.number.0 its.tail (omega (arith, same)))

  -- ---- all is settled there
  not_above : (events : List Event) (x : Span) → HadMoment (LoadsEnd x) opening events → x.end.0 ≤ tail_at (run opening events).now
  not_above events x had =
      let quiet = opens.quiet in
      let its = had.was in
      let tail = its.tail in
      subst (λ (e : List Event). x.end.0 ≤ tail_at (run opening e).now) (sym had.split) (let up = tails_rise opening start had.later had.moment quiet.guarded in omega (arith, tail, up))

  decided_there : FloorAlwaysStands → (x : Span) (moment : List Event) → IsWrittenNow x (run opening moment).now → DecidedBelow x.end.0 (log_at moment)
  decided_there floor x moment its =
      let quiet = opens.quiet in
      let written : IsWritten (come_to (run opening moment).now.keeper) = come_written (run opening moment).now.keeper (subst IsWritten (sym its.writes) tt) in
      let same = ap (λ (y : Span). y.end.0) its.its in
      let decided = below_end floor opening start ghosts moment its.commit with_decided quiet.seen its.in_hand (inr written) in
      λ a entry cell low e. decided a entry cell (omega (arith, low, same)) e

  settled_below : FloorAlwaysStands → (events : List Event) (x : Span) → HadMoment (IsWrittenNow x) opening events → IsSettledBelowEnd opening x (log_at events)
  settled_below floor events x had =
      let quiet = opens.quiet in
      let ended = (written_so opening start quiet x had.moment had.was).end in
      let decided = stays_decided opening start ghosts had.later had.moment x.end.0 quiet.guarded (not_above had.moment x ended) (decided_there floor x had.moment had.was) in
      let high = not_above events x (had_since (LoadsEnd x) opening events had.later had.moment had.split ended) in
      settles opening start ghosts events x.end.0 quiet.guarded high (subst (λ (e : List Event). DecidedBelow x.end.0 (log_at e)) (sym had.split) decided)

  -- ---- the commit with which the store was opened
  opened_later : (events : List Event) → IsLaterFromEnd opening (span_opened opening) (log_at events)
  opened_later events a version high made =
      let quiet = opens.quiet in
      let low = cells_from opening start ghosts events with_log a version high made in
      let said = ap version_said quiet.seen.rests.says in
      omega (arith, low, said)

  opened_young : (events : List Event) → IsYoungBelowEnd opening (span_opened opening) (log_at events)
  unfolding run
  opened_young events =
      let quiet = opens.quiet in
      let said = ap version_said quiet.seen.rests.says in
      subst (λ (e : List Event). IsYoungBelowEnd opening (span_opened opening) (log_at e)) (append-nil events)
      (below_tail events [] (tail_at opening.now) (opening.now.keeper.last.number.0 + 1) refl (omega (arith, said)))

  opened_settled : (events : List Event) → IsSettledBelowEnd opening (span_opened opening) (log_at events)
  opened_settled events a from low = absurd (omega (arith, from, low))

-- ---- each that has begun
module _ (P : World → Span → Log → Type 0) where
  of_each : ((opening : World) (start : ℕ) (ghosts : Ghosts) (events : List Event) (x : Span) → OpensWhole opening start ghosts → HasEnded opening events x → P opening x (life_ghosts opening ghosts events).log)
      → ((opening : World) (start : ℕ) (ghosts : Ghosts) (events : List Event) → OpensWhole opening start ghosts → P opening (span_opened opening) (life_ghosts opening ghosts events).log) → OfEachBegun P
  of_each ended first opening start ghosts events c opens there = elim (have_ended opening start events c opens.quiet there) [
    | inl its ↦ ended opening start ghosts events (span_of c) opens its
    | inr same ↦ subst (λ (x : Span). P opening x (life_ghosts opening ghosts events).log) (sym same) (first opening start ghosts events opens)
  ]

pub each_later : NoneIsLeft → OfEachBegun IsLaterFromEnd
each_later left =
    of_each IsLaterFromEnd (λ opening start ghosts events x opens its. later_from opening start ghosts opens left events x its.end) (λ opening start ghosts events opens. opened_later opening start ghosts opens events)

pub each_young : OfEachBegun IsYoungBelowEnd
each_young = of_each IsYoungBelowEnd (λ opening start ghosts events x opens its. young_below opening start ghosts opens events x its.end) (λ opening start ghosts events opens. opened_young opening start ghosts opens events)

pub each_settled : FloorAlwaysStands → OfEachBegun IsSettledBelowEnd
each_settled floor =
    of_each IsSettledBelowEnd (λ opening start ghosts events x opens its. settled_below opening start ghosts opens floor events x its.written) (λ opening start ghosts events opens. opened_settled opening start ghosts opens events)

pub each_recent : NoneIsLeft → OfEachBegun (ButOpenings IsRecentFromFirst)
each_recent left opening start ghosts events c opens there = elim (have_ended opening start events c opens.quiet there) [
  | inl its ↦ inl (recent_from opening start ghosts opens left events (span_of c) its.first)
  | inr same ↦ inr same
]

pub each_old : OfEachBegun (ButOpenings IsOldBelowFirst)
each_old opening start ghosts events c opens there = elim (have_ended opening start events c opens.quiet there) [
  | inl its ↦ inl (old_below opening start ghosts opens events (span_of c) its.first)
  | inr same ↦ inr same
]
