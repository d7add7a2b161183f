-- The log of each commit that has begun in a life begins at or below its first address, and that of the checkpoint that it uses.
use Rattle.std.proofs.Common.{◌≡◌, ◌⊎◌, inl, inr, ℕ, ◌+◌, ◌≤◌, List, [], ◌∷◌, refl, ap, sym, subst, arith}
use Rattle.std.specs.Prelude.{Some}
use Rattle.fkv_base.specs.declared.commits.CommitKind.{CommitKind}
use Rattle.fkv_base.specs.declared.commits.CommitKind.TheVariants.{Full, Log}
use Rattle.fkv_base.specs.declared.numbers.Addr.{Addr}
use Rattle.fkv_base.specs.declared.numbers.Serial.{Serial}
use Rattle.fkv_base.specs.declared.numbers.Version.{Version}
use Rattle.law_refine.specs.Below.fkv_commit.Commit.{Commit}
use Rattle.law_refine.specs.Below.fkv_commit.TheStarting.{Starting}
use Rattle.law_refine.specs.Below.fkv_commit.TheStarting.TheVariants as starting
use Rattle.law_refine.specs.Below.fkv_keeper.Checkpoint.{Checkpoint}
use Rattle.law_refine.specs.Below.fkv_keeper.CheckpointLaws.{IsBehindWait}
use Rattle.law_refine.specs.Below.fkv_keeper.Keeping.{Finality, KeeperState, come_to}
use Rattle.law_refine.specs.Below.fkv_keeper.SlotLaws.{HasMoved}
use Rattle.law_refine.specs.Below.fkv_keeper.TheKeeping.{Keeping}
use Rattle.law_refine.specs.Below.fkv_keeper.TheKeeping.TheVariants.{Writes}
use Rattle.law_refine.specs.Below.fkv_world.Opened.{IsOpenedWorld}
use Rattle.law_refine.specs.Below.fkv_world.OwnEvents.{keeper_events}
use Rattle.law_refine.specs.Below.fkv_world.Runs.{World, run}
use Rattle.law_refine.specs.Below.fkv_world.World.{Event}
use Rattle.law_refine.specs.Events.Reserved.{tail_at}
use Rattle.law_refine.proofs.Below.law_world.OfKeeper.OwnRun.{keeper_begins, of_keeper}
use Rattle.law_commit.specs.Begins.{BegunBeginBelow, BeginsBelow, OpensScanned}
use Rattle.law_commit.specs.BegunCommits.{life_begun}
use Rattle.law_commit.specs.CommitParts.{CommitParts, parts_opening}
use Rattle.law_commit.specs.Decided.Ended.{HadMoment, LoadsFirst, span_in}
use Rattle.law_commit.specs.Phases.Staged.{StartAt, StepAt}
use Rattle.law_commit.proofs.AllBegun.{AllParts, event_parts, opened_parts, parts_of, weaker_parts}
use Rattle.law_commit.proofs.Lasts.{IsOrNewer, life_last}
use Rattle.law_commit.proofs.LifeBegun.{life_stands}
use Rattle.law_commit.proofs.OfDecided.Ended.{written_so}
use Rattle.law_commit.proofs.OfDecided.Lives.{tails_rise}
use Rattle.law_commit.proofs.OfPhases.LifeStages.{life_staged}
use Rattle.law_commit.proofs.OfPoints.Last.{last_of}
use Rattle.law_commit.proofs.Used.{UsesBy, run_uses_by}

-- ---- the checkpoint that the commit in hand uses as it is written
abbrev UsesThere : KeeperState → Type 0
UsesThere s = s.step ≡ Writes → (c : Commit) → s.commit ≡ Some c → UsesBy c.kind s c

life_uses : (opening : World) (events : List Event) → IsOpenedWorld opening → UsesThere (run opening events).now.keeper
life_uses opening events opened =
    of_keeper UsesThere opening events (λ writes c found. run_uses_by opening.now.shape opening.now.places opening.now.keeper (keeper_events opening events) c opened.keeper (subst IsBehindWait (sym writes) tt) found)

-- ---- a life
module _ (opening : World) (start : ℕ) (opens : OpensScanned opening start) where
  abbrev keeper_at : List Event → KeeperState
  keeper_at events = (run opening events).now.keeper

  abbrev tail_of : List Event → ℕ
  tail_of events = tail_at (run opening events).now

  -- as the commit is written, its first address was the tail as the keeper loaded that
  first_then : (before : List Event) (c : Commit) → (keeper_at before).step ≡ Writes → (keeper_at before).commit ≡ Some c → HadMoment (LoadsFirst c.number c.first) opening before
  first_then before c at is =
      (written_so opening start opens.quiet (span_in c c.end (keeper_at before).writes.triples) before (record { writes = at; commit = c; in_hand = is; its = refl })).first

  upto_tail : (before : List Event) (number : Version) (first : Addr) → HadMoment (LoadsFirst number first) opening before → first.0 ≤ tail_of before
  upto_tail before number first had =
      let loaded = had.was.tail in
      let up : tail_of had.moment ≤ tail_of before = subst (λ (e : List Event). tail_of had.moment ≤ tail_of e) (sym had.split) (tails_rise opening start had.later had.moment opens.quiet.guarded) in
      omega (arith, loaded, up)

  one_up : (event : Event) (before : List Event) → tail_of before ≤ tail_of (event ∷ before)
  one_up event before = tails_rise opening start (event ∷ []) before opens.quiet.guarded

  -- ---- no scan begins above the tail
  abbrev Low : List Event → Version → CommitParts → List Serial → Type 0
  Low events number x points = x.checkpoint.first.0 ≤ tail_of events

  last_low : (events : List Event) → AllParts (Low events) (life_begun opening events) → (keeper_at events).last.checkpoint.first.0 ≤ tail_of events
  last_low events all =
      let last = last_of (life_begun opening events) (keeper_at events) (come_to (keeper_at events)) (life_stands opening events opens.quiet.opened) in
      let low = parts_of (Low events) last.commit (life_begun opening events) last.there all in
      let same = ap (λ (x : Checkpoint). x.first.0) last.its.checkpoint in
      omega (arith, low, same)

  used_low : (before : List Event) (kind : CommitKind) (c : Commit) → UsesBy kind (keeper_at before) c → c.first.0 ≤ tail_of before → (keeper_at before).last.checkpoint.first.0 ≤ tail_of before → (keeper_at before).used.first.0 ≤ tail_of before
  used_low before Full c uses first last = (let same = ap (λ (a : Addr). a.0) uses.1 in omega (arith, same, first))
  used_low before Log c uses first last = (let same = ap (λ (x : Checkpoint). x.first.0) uses in omega (arith, same, last))

  all_low : (events : List Event) → AllParts (Low events) (life_begun opening events)
  unfolding run
  all_low [] = opened_parts (Low []) opening opens.below_tail
  all_low (event ∷ before) =
      let past = all_low before in
      let up = one_up event before in
      event_parts (Low (event ∷ before)) opening before event
      (λ at c is. let used = used_low before c.kind c (life_uses opening before opens.quiet.opened at c is) (upto_tail before c.number c.first (first_then before c at is)) (last_low before past) in omega (arith, used, up))
      (weaker_parts (Low before) (Low (event ∷ before)) (life_begun opening before) (λ number x points low. omega (arith, low, up)) past)

  -- ---- the newest finished commit was the same as this one's first address was loaded
  starts_next : (moment : List Event) (number : Version) (first : Addr) → LoadsFirst number first (run opening moment).now → number.0 ≡ (keeper_at moment).last.number.0 + 1
  starts_next moment number first loads =
      let lived = life_staged opening start moment opens.quiet.guarded opens.quiet.opened opens.quiet.seen.rests in
      let its : StartAt lived.number lived.stage (keeper_at moment).start (keeper_at moment).start.step = subst (λ (x : Keeping). StepAt lived.number lived.stage (keeper_at moment) x) loads.starts lived.staged.keeper.step in
      let there : StartAt lived.number lived.stage (keeper_at moment).start (starting.LoadsTail number) = subst (λ (x : Starting). StartAt lived.number lived.stage (keeper_at moment).start x) loads.loads its in
      let same = ap (λ (v : Version). v.0) there.0.same in
      let next = lived.staged.keeper.has.next in
      omega (arith, same, next)

  hand_next : (before : List Event) (c : Commit) → (keeper_at before).commit ≡ Some c → c.number.0 ≡ (keeper_at before).last.number.0 + 1
  hand_next before c is =
      let lived = life_staged opening start before opens.quiet.guarded opens.quiet.opened opens.quiet.seen.rests in
      let same = ap (λ (v : Version). v.0) (lived.staged.keeper.has.hand c is).0 in
      let next = lived.staged.keeper.has.next in
      omega (arith, same, next)

  -- so the scan of that one begins at or below this one's first address
  last_first : (before : List Event) (c : Commit) → (keeper_at before).commit ≡ Some c → HadMoment (LoadsFirst c.number c.first) opening before → (keeper_at before).last.checkpoint.first.0 ≤ c.first.0
  last_first before c is had = elim goes [
    | inl same ↦
        let checkpoint = ap (λ (f : Finality). f.checkpoint.first.0) same in
        let low = last_low had.moment (all_low had.moment) in
        let loaded = had.was.tail in
        omega (arith, checkpoint, low, loaded)
    | inr more ↦ (let one = starts_next had.moment c.number c.first had.was in let other = hand_next before c is in absurd (omega (arith, more, one, other)))
  ]
    where
      goes : IsOrNewer (keeper_at had.moment).last (keeper_at before).last
      goes = subst (λ (e : List Event). IsOrNewer (keeper_at had.moment).last (keeper_at e).last) (sym had.split) (life_last opening start opens.quiet.guarded opens.quiet.opened opens.quiet.seen.rests had.later had.moment)

  -- ---- each begins below both
  abbrev Below : Version → CommitParts → List Serial → Type 0
  Below number x points = BeginsBelow x

  last_below : (events : List Event) → AllParts Below (life_begun opening events) → (keeper_at events).last.begin.0 ≤ (keeper_at events).last.checkpoint.first.0
  last_below events all =
      let last = last_of (life_begun opening events) (keeper_at events) (come_to (keeper_at events)) (life_stands opening events opens.quiet.opened) in
      let below = parts_of Below last.commit (life_begun opening events) last.there all in
      let scan = below.scan in
      let checkpoint = ap (λ (x : Checkpoint). x.first.0) last.its.checkpoint in
      let begin = ap (λ (a : Addr). a.0) last.its.begin in
      omega (arith, scan, checkpoint, begin)

  hand_below : (s : KeeperState) (c : Commit) → s.last.begin.0 ≤ s.last.checkpoint.first.0 → s.last.checkpoint.first.0 ≤ c.first.0 → (c.begin ≡ s.last.begin) ⊎ HasMoved s c → (c.begin.0 ≤ c.first.0) × (c.begin.0 ≤ s.last.checkpoint.first.0)
  hand_below s c last first (inl same) = (let begin = ap (λ (a : Addr). a.0) same in (omega (arith, begin, last, first), omega (arith, begin, last)))
  hand_below s c last first (inr moved) = (moved.before, moved.in_force)

  used_below : (s : KeeperState) (kind : CommitKind) (c : Commit) → UsesBy kind s c → (c.begin.0 ≤ c.first.0) × (c.begin.0 ≤ s.last.checkpoint.first.0) → c.begin.0 ≤ s.used.first.0
  used_below s Full c uses below = (let same = ap (λ (a : Addr). a.0) uses.1 in let low = below.0 in omega (arith, same, low))
  used_below s Log c uses below = (let same = ap (λ (x : Checkpoint). x.first.0) uses in let low = below.1 in omega (arith, same, low))

  written_below : (before : List Event) (c : Commit) → (keeper_at before).step ≡ Writes → (keeper_at before).commit ≡ Some c → AllParts Below (life_begun opening before) → BeginsBelow (parts_opening (keeper_at before) c)
  written_below before c at is past =
      let s : KeeperState = keeper_at before in
      let below = hand_below s c (last_below before past) (last_first before c is (first_then before c at is)) ((keeper_begins opening before opens.quiet.opened).commit c is) in
      record { first = below.0; scan = used_below s c.kind c (life_uses opening before opens.quiet.opened at c is) below }

  all_below : (events : List Event) → AllParts Below (life_begun opening events)
  all_below [] = opened_parts Below opening (record { first = opens.before_scan; scan = opens.before_scan })
  all_below (event ∷ before) = (let past = all_below before in event_parts Below opening before event (λ at c is. written_below before c at is past) past)

pub begun_below : BegunBeginBelow
begun_below opening start events c opens there = parts_of (Below opening start opens) c (life_begun opening events) there (all_below opening start opens events)
