-- What is known of the commits that have begun, at each step of the keeper.
use Rattle.std.proofs.Common.{◌≡◌, ◌⊎◌, inl, inr, ℕ, ◌∙◌, List, [], ◌∷◌, refl, ap, sym, subst, Bool, true, false}
use Rattle.std.specs.Prelude.{Option, Some, None, if◌then◌else◌}
use Rattle.fkv_base.specs.declared.shapes.Shape.{Shape}
use Rattle.fkv_plane.specs.declared.asks.Ask.{Ask}
use Rattle.fkv_plane.specs.declared.asks.Ask.TheVariants.{Done}
use Rattle.fkv_plane.specs.declared.places.Places.{Places}
use Rattle.law_refine.specs.Below.fkv_commit.Commit.{Commit}
use Rattle.law_refine.specs.Below.fkv_commit.FinishAnswer.{FinishAnswer}
use Rattle.law_refine.specs.Below.fkv_commit.WaitAnswer.{WaitAnswer}
use Rattle.law_refine.specs.Below.fkv_commit.WaitAnswer.TheVariants as wait
use Rattle.law_refine.specs.Below.fkv_commit.Finishing.{finish_ask, finish_next}
use Rattle.law_refine.specs.Below.fkv_commit.Waiting.{wait_ask, wait_next}
use Rattle.law_refine.specs.Below.fkv_manifest.TheCommitting.{Committing}
use Rattle.law_refine.specs.Below.fkv_manifest.TheCommitting.TheVariants as committing
use Rattle.law_refine.specs.Below.fkv_manifest.TheGating.{Gating}
use Rattle.law_refine.specs.Below.fkv_manifest.TheGating.TheVariants as gate
use Rattle.law_refine.specs.Below.fkv_manifest.Committing.{CommitWriter, commit_answer, commit_next, commit_start, commit_step_answer, commit_step_next, gate_after}
use Rattle.law_refine.specs.Below.fkv_manifest.WriteAnswer.{WriteAnswer}
use Rattle.law_refine.specs.Below.fkv_manifest.WriteAnswer.TheVariants as write
use Rattle.law_refine.specs.Below.fkv_manifest.Gating.{gate_answer, gate_next, gate_start}
use Rattle.law_refine.specs.Below.fkv_keeper.KeeperTold.{KeeperTold}
use Rattle.law_refine.specs.Below.fkv_keeper.TheKeeping.{Keeping}
use Rattle.law_refine.specs.Below.fkv_keeper.TheKeeping.TheVariants.{Ended, Starts, Maintains, LoadsPhase, Enters, Copies, Seeks, Waits, Writes, Finishes, Sweeps}
use Rattle.law_refine.specs.Below.fkv_keeper.CheckpointLaws.{MayFollow, IsFinished}
use Rattle.law_refine.specs.Below.fkv_keeper.Keeping.{Finality, KeeperState, come_to, finish_ledto, finished, keeping_called, keeping_given, keeping_next, lost_left, must_rest, rested, triples_written, turned, wait_ledto, write_ledto, writes_begun, writes_called}
use Rattle.law_refine.specs.Below.fkv_keeper.KeeperLaws.{MayRest}
use Rattle.law_refine.specs.Below.fkv_keeper.KeeperRun.{KeeperEvent, BeginsTurn, BeginsCommit, Replies, Gets, Calls, IsOpened, is_in_hand, keeper_happens, keeper_run}
use Rattle.law_refine.specs.Below.fkv_keeper.LastCommits.{is_gate_open}
use Rattle.law_refine.proofs.Below.fkv_keeper.Shown.{each_move}
use Rattle.law_refine.proofs.Below.law_world.OfStanding.Runs.{happens_at, happens_so}
use Rattle.law_commit.specs.BegunCommits.{BegunCommit, commit_opening, begun_at_end, begun_at_gate, begun_at_writes, begun_by, commits_begun, with_opening}
use Rattle.law_commit.specs.HeldCommits.{AtEnd, AtKeeping, HaveFinished, IsInHand, OneIsOpen}
use Rattle.law_commit.proofs.InRest.{GoesOn, HasBroken, IsKept, after_rest, come_awake, come_rested, rest_begun, rests_there, stays_awake}

-- as far as its writes have come
abbrev pub IsFresh : Gating → Type 0
IsFresh gate.Closes = Unit {0}
IsFresh gate.WritesBody = Unit {0}
IsFresh step = ⊥

-- ---- where no writes are near
abbrev pub IsCalm : Keeping → Type 0
IsCalm Waits = ⊥
IsCalm Writes = ⊥
IsCalm Finishes = ⊥
IsCalm step = Unit {0}

pub no_writes : (step : Keeping) → IsCalm step → MayFollow step Writes → ⊥
no_writes (Ended its) calm follows = follows
no_writes Starts calm follows = follows
no_writes Maintains calm follows = follows
no_writes LoadsPhase calm follows = follows
no_writes Enters calm follows = follows
no_writes Copies calm follows = follows
no_writes Sweeps calm follows = follows
no_writes Seeks calm follows = follows
no_writes step calm follows = absurd calm

pub no_finish : (step : Keeping) → IsCalm step → MayFollow step Finishes → ⊥
no_finish (Ended its) calm follows = follows
no_finish Starts calm follows = follows
no_finish Maintains calm follows = follows
no_finish LoadsPhase calm follows = follows
no_finish Enters calm follows = follows
no_finish Copies calm follows = follows
no_finish Sweeps calm follows = follows
no_finish Seeks calm follows = follows
no_finish step calm follows = absurd calm

not_finishing : (step : Keeping) → IsCalm step → step ≡ Finishes → ⊥
not_finishing Finishes calm e = calm
not_finishing step calm e = cc

same_last : (s a : KeeperState) (step : Keeping) → s.step ≡ step → IsCalm step → ((a.last ≡ s.last) × (a.lost ≡ s.lost)) ⊎ ((c : Commit) × (s.commit ≡ Some c) × IsFinished s a c) → a.last ≡ s.last
same_last s a step e calm (inl same) = same.0
same_last s a step e calm (inr other) = absurd (not_finishing step calm (sym e ∙ other.2.finishes))

fresh : (is_open : Bool) → IsFresh (gate_start is_open)
fresh true = tt
fresh false = tt

pub same_commit : (c d : Commit) → Some c ≡ Some d → c ≡ d
same_commit c d e = cc

pub there : (shape : Shape) (p : Places) (s : KeeperState) (event : KeeperEvent) (step : Keeping) → s.step ≡ step → happens_at shape p s step event ≡ keeper_happens shape p s event
there shape p s event step e = ap (λ (x : Keeping). happens_at shape p s x event) (sym e) ∙ happens_so shape p s event

abbrev pub AtGate : List BegunCommit → KeeperState → Gating → Type 0
AtGate begun s gate.SyncsOpen = IsInHand begun s false
AtGate begun s gate.Written = ⊥
AtGate begun s (gate.Broken why) = ⊥
AtGate begun s step = HaveFinished begun s.last

abbrev pub AtWrites : List BegunCommit → KeeperState → Committing → Type 0
AtWrites begun s committing.PutsSlot = AtGate begun s s.writes.gate.step
AtWrites begun s (committing.Broken why) = ⊥
AtWrites begun s step = HaveFinished begun s.last × IsFresh s.writes.gate.step

abbrev pub StandsAt : List BegunCommit → KeeperState → Keeping → Type 0
StandsAt begun s Finishes = IsInHand begun s true
StandsAt begun s Writes = AtWrites begun s s.writes.step
StandsAt begun s (Ended its) = AtEnd begun s s.is_broken
StandsAt begun s step = HaveFinished begun s.last

abbrev pub Stands : List BegunCommit → KeeperState → Type 0
Stands begun s = StandsAt begun s (come_to s)

-- at its step, which is where it has come to as long as no writes rest
abbrev StandsThere : List BegunCommit → KeeperState → Type 0
StandsThere begun s = StandsAt begun s s.step

still_stands : (begun : List BegunCommit) (s : KeeperState) (step : Keeping) → s.step ≡ step → StandsAt begun s step → StandsThere begun s
still_stands begun s step e its = subst (λ (x : Keeping). StandsAt begun s x) (sym e) its

come_stands : (begun : List BegunCommit) (s : KeeperState) (step : Keeping) → come_to s ≡ step → StandsAt begun s step → Stands begun s
come_stands begun s step e its = subst (λ (x : Keeping). StandsAt begun s x) (sym e) its

still_finishing : (begun : List BegunCommit) (s : KeeperState) → s.step ≡ Finishes → IsInHand begun s true → StandsThere (begun_at_end s.step begun) s
still_finishing begun s e its = subst (λ (x : Keeping). StandsAt (begun_at_end x begun) s x) (sym e) its

-- what is known of the commits stays so where the keeper keeps what they were written from
held_on : (begun : List BegunCommit) (s a : KeeperState) (sealed : Bool) → IsKept s a → IsInHand begun s sealed → IsInHand begun a sealed
held_on begun s a sealed kept its = record {
  commit = its.commit;
  in_hand = kept.commit ∙ its.in_hand;
  newest = its.newest;
  older = its.older;
  its = its.its;
  number = its.number;
  kind = its.kind;
  begin = its.begin;
  first = its.first;
  end = its.end;
  triples = its.triples ∙ ap (λ (x : CommitWriter). x.triples) (sym kept.writes);
  points = its.points ∙ sym kept.points;
  checkpoint = its.checkpoint ∙ sym kept.used;
  lost = its.lost ∙ ap (λ x. lost_left its.commit.kind x) (sym kept.lost);
  unfinished = its.unfinished;
  is_so = its.is_so;
  others = subst (λ (x : Finality). HaveFinished its.older x) (sym kept.last) its.others;
}

all_on : (begun : List BegunCommit) (s a : KeeperState) → IsKept s a → HaveFinished begun s.last → HaveFinished begun a.last
all_on begun s a kept all = subst (λ (x : Finality). HaveFinished begun x) (sym kept.last) all

gate_kept : (begun : List BegunCommit) (s a : KeeperState) (step : Gating) → IsKept s a → AtGate begun s step → AtGate begun a step
gate_kept begun s a gate.SyncsOpen kept its = held_on begun s a false kept its
gate_kept begun s a gate.Written kept its = its
gate_kept begun s a (gate.Broken why) kept its = its
gate_kept begun s a gate.Closes kept its = all_on begun s a kept its
gate_kept begun s a gate.SyncsClosed kept its = all_on begun s a kept its
gate_kept begun s a gate.WritesBody kept its = all_on begun s a kept its
gate_kept begun s a gate.SyncsBody kept its = all_on begun s a kept its
gate_kept begun s a gate.Opens kept its = all_on begun s a kept its

fresh_kept : (s a : KeeperState) → IsKept s a → IsFresh s.writes.gate.step → IsFresh a.writes.gate.step
fresh_kept s a kept first = subst (λ (x : CommitWriter). IsFresh x.gate.step) (sym kept.writes) first

writes_kept : (begun : List BegunCommit) (s a : KeeperState) (step : Committing) → IsKept s a → AtWrites begun s step → AtWrites begun a step
writes_kept begun s a committing.PutsSlot kept its = subst (λ (x : CommitWriter). AtGate begun a x.gate.step) (sym kept.writes) (gate_kept begun s a s.writes.gate.step kept its)
writes_kept begun s a (committing.Broken why) kept its = its
writes_kept begun s a committing.WritesTriples kept its = (all_on begun s a kept its.0, fresh_kept s a kept its.1)
writes_kept begun s a committing.SyncsTriples kept its = (all_on begun s a kept its.0, fresh_kept s a kept its.1)

still_written : (begun : List BegunCommit) (s a : KeeperState) → IsKept s a → AtWrites begun s s.writes.step → AtWrites begun a a.writes.step
still_written begun s a kept its = subst (λ (x : CommitWriter). AtWrites begun a x.step) (sym kept.writes) (writes_kept begun s a s.writes.step kept its)

at_end : (begun : List BegunCommit) (s : KeeperState) (broken : Bool) → HaveFinished begun s.last → AtEnd begun s broken
at_end begun s true all = inl all
at_end begun s false all = all

-- ---- where no writes are near
after_calm : (begun : List BegunCommit) (a : KeeperState) (step after : Keeping) → IsCalm step → MayFollow step after → HaveFinished begun a.last → StandsAt begun a after
after_calm begun a step Finishes calm follows all = absurd (no_finish step calm follows)
after_calm begun a step Writes calm follows all = absurd (no_writes step calm follows)
after_calm begun a step (Ended its) calm follows all = at_end begun a a.is_broken all
after_calm begun a step Starts calm follows all = all
after_calm begun a step Maintains calm follows all = all
after_calm begun a step LoadsPhase calm follows all = all
after_calm begun a step Enters calm follows all = all
after_calm begun a step Copies calm follows all = all
after_calm begun a step Sweeps calm follows all = all
after_calm begun a step Seeks calm follows all = all
after_calm begun a step Waits calm follows all = all

calm_stands : (shape : Shape) (p : Places) (begun : List BegunCommit) (s : KeeperState) (event : KeeperEvent) (step : Keeping) → s.rests ≡ false → s.step ≡ step → IsCalm step → HaveFinished begun s.last → Stands begun (keeper_happens shape p s event)
calm_stands shape p begun s event step awake e calm all =
    let a : KeeperState = keeper_happens shape p s event in
    let move = each_move shape p s event in
    after_calm begun a step (come_to a) calm (subst (λ (x : Keeping). MayFollow x (come_to a)) (come_awake s step awake e) move.one.follows)
    (subst (λ (x : Finality). HaveFinished begun x) (sym (same_last s a step e calm move.lists.lists)) all)

-- a keeper that is broken stays so
broken_stays : (shape : Shape) (p : Places) (begun : List BegunCommit) (s : KeeperState) (event : KeeperEvent) (told : KeeperTold) → s.rests ≡ false → s.step ≡ Ended told → s.is_broken ≡ true → HaveFinished begun s.last ⊎ OneIsOpen begun s.last
    → StandsThere begun (happens_at shape p s (Ended told) event)
unfolding keeping_next keeping_given keeping_called
broken_stays shape p begun s BeginsTurn told awake e broken its = rw broken its
broken_stays shape p begun s (BeginsCommit kind) told awake e broken its = rw broken its
broken_stays shape p begun s (Replies reply granted) told awake e broken its = rw e (rw broken its)
broken_stays shape p begun s (Gets action) told awake e broken its = rw e (rw broken its)
broken_stays shape p begun s (Calls done bytes) told awake e broken its = rw e (rw broken its)

-- an event outside the writes begins no rest
come_there : (shape : Shape) (p : Places) (begun : List BegunCommit) (s : KeeperState) (event : KeeperEvent) (step : Keeping) → s.rests ≡ false → s.step ≡ step → (step ≡ Writes → ⊥) → StandsThere begun (happens_at shape p s step event)
    → Stands begun (keeper_happens shape p s event)
come_there shape p begun s event step awake e other its =
    let a : KeeperState = keeper_happens shape p s event in
    come_stands begun a a.step (come_awake a a.step (stays_awake shape p s event awake (λ writes. other (sym e ∙ writes))) refl) (subst (λ (x : KeeperState). StandsThere begun x) (there shape p s event step e) its)

ended_stands : (shape : Shape) (p : Places) (begun : List BegunCommit) (s : KeeperState) (event : KeeperEvent) (told : KeeperTold) (broken : Bool) → s.rests ≡ false → s.step ≡ Ended told → s.is_broken ≡ broken → AtEnd begun s broken
    → Stands begun (keeper_happens shape p s event)
ended_stands shape p begun s event told true awake e broken its = come_there shape p begun s event (Ended told) awake e (λ writes. cc) (broken_stays shape p begun s event told awake e broken its)
ended_stands shape p begun s event told false awake e broken its = calm_stands shape p begun s event (Ended told) awake e tt its

-- ---- where a commit's writes begin
started : (begun : List BegunCommit) (s : KeeperState) (triples : List ℕ) → HaveFinished begun s.last → IsFresh s.writes.gate.step → AtWrites begun s (commit_start triples)
started begun s [] all first = (all, first)
started begun s (b ∷ rest) all first = (all, first)

writes_stand : (shape : Shape) (begun : List BegunCommit) (s : KeeperState) (found : Option Commit) → HaveFinished begun s.last → StandsThere begun (writes_begun shape s found)
writes_stand shape begun s None all = at_end begun s s.is_broken all
writes_stand shape begun s (Some c) all = started begun (writes_begun shape s (Some c)) (triples_written c.kind s.copy) all (fresh (is_gate_open s.last.gates c.number))

waited_stands : (shape : Shape) (begun : List BegunCommit) (s : KeeperState) (ask : Ask WaitAnswer) → s.step ≡ Waits → HaveFinished begun s.last → StandsThere begun (wait_ledto shape s ask)
unfolding wait_ledto
waited_stands shape begun s (Done wait.Flushed) e all = writes_stand shape begun s s.commit all
waited_stands shape begun s (Done wait.NotYet) e all = at_end begun s s.is_broken all
waited_stands shape begun s (Done wait.Idle) e all = at_end begun s s.is_broken all
waited_stands shape begun s ask e all = rw e all

waits_stand : (shape : Shape) (p : Places) (begun : List BegunCommit) (s : KeeperState) (event : KeeperEvent) → s.step ≡ Waits → HaveFinished begun s.last → StandsThere begun (happens_at shape p s Waits event)
unfolding keeping_next keeping_given keeping_called
waits_stand shape p begun s BeginsTurn e all = rw e all
waits_stand shape p begun s (BeginsCommit kind) e all = rw e all
waits_stand shape p begun s (Replies reply granted) e all = waited_stands shape begun (record s { wait = wait_next s.wait reply }) (wait_ask (wait_next s.wait reply)) e all
waits_stand shape p begun s (Gets action) e all = rw e all
waits_stand shape p begun s (Calls done bytes) e all = rw e all

-- ---- where they are made
-- Behind a call they go on, and rest where a sync is due.
rested_stands : (begun : List BegunCommit) (s : KeeperState) → s.step ≡ Writes → AtWrites begun s s.writes.step → Stands begun (rested s)
rested_stands begun s e its = by (must_rest s)
  where
    at_writes : (rests : Bool) → StandsAt begun s (if rests then Writes else s.step)
    at_writes true = its
    at_writes false = still_stands begun s Writes e its

    by : (rests : Bool) → Stands begun (if rests then turned (record s { rests = true }) else s)
    by true = still_written begun s (turned (record s { rests = true })) (record { commit = refl; writes = refl; points = refl; taken = refl; used = refl; last = refl; lost = refl }) its
    by false = at_writes s.rests

made_on : (begun : List BegunCommit) (s : KeeperState) (c : Commit) → s.step ≡ Writes → s.commit ≡ Some c → commit_answer (commit_next s.writes true) ≡ write.Device
    → AtWrites begun (record s { writes = commit_next s.writes true }) (commit_next s.writes true).step → Stands begun (writes_called s true)
unfolding write_ledto
made_on begun s c e found answers its =
    let next : KeeperState = record s { writes = commit_next s.writes true } in
    subst (λ (x : Option Commit). Stands begun (write_ledto next x (commit_answer (commit_next s.writes true)))) (sym found)
    (subst (λ (x : WriteAnswer). Stands begun (write_ledto next (Some c) x)) (sym answers) (rested_stands begun next e its))

shown_begun : (begun : List BegunCommit) (s : KeeperState) (step : Gating) → s.writes.gate.step ≡ step → Stands (begun_at_gate s step true begun) (writes_called s true) → Stands (begun_at_writes s committing.PutsSlot true begun) (writes_called s true)
shown_begun begun s step here its = subst (λ (x : Gating). Stands (begun_at_gate s x true begun) (writes_called s true)) (sym here) its

gate_stands : (begun : List BegunCommit) (s : KeeperState) (step : Gating) (found : Option Commit) → s.rests ≡ false → s.step ≡ Writes → s.writes.step ≡ committing.PutsSlot → s.writes.gate.step ≡ step → s.commit ≡ found → AtGate begun s step
    → Stands (begun_at_writes s committing.PutsSlot true begun) (writes_called s true)
unfolding commit_step_answer commit_step_next gate_after gate_answer gate_next write_ledto
gate_stands begun s gate.Closes None awake e at here none its = rw (at, here, none, awake) (at_end begun s s.is_broken its)
gate_stands begun s gate.Closes (Some c) awake e at here found its = shown_begun begun s gate.Closes here (made_on begun s c e found (rw (at, here) refl) (rw (at, here) its))
gate_stands begun s gate.SyncsClosed None awake e at here none its = rw (at, here, none, awake) (at_end begun s s.is_broken its)
gate_stands begun s gate.SyncsClosed (Some c) awake e at here found its = shown_begun begun s gate.SyncsClosed here (made_on begun s c e found (rw (at, here) refl) (rw (at, here) its))
gate_stands begun s gate.WritesBody None awake e at here none its = rw (at, here, none, awake) (at_end begun s s.is_broken its)
gate_stands begun s gate.WritesBody (Some c) awake e at here found its = shown_begun begun s gate.WritesBody here (made_on begun s c e found (rw (at, here) refl) (rw (at, here) its))
gate_stands begun s gate.SyncsBody None awake e at here none its = rw (at, here, none, awake) (at_end begun s s.is_broken its)
gate_stands begun s gate.SyncsBody (Some c) awake e at here found its = shown_begun begun s gate.SyncsBody here (made_on begun s c e found (rw (at, here) refl) (rw (at, here) its))
gate_stands begun s gate.Opens None awake e at here none its = rw (at, here, none, awake) (at_end begun s s.is_broken its)
gate_stands begun s gate.Opens (Some c) awake e at here found its =
    shown_begun begun s gate.Opens here
    (subst (λ (x : Option Commit). Stands (with_opening s x begun) (writes_called s true)) (sym found)
    (made_on (commit_opening s c ∷ begun) s c e found (rw (at, here) refl)
    (rw (at, here) (record { commit = c; in_hand = found; newest = commit_opening s c; older = begun; its = refl; number = refl; kind = refl; begin = refl; first = refl; end = refl; triples = refl; points = refl; checkpoint = refl; lost = refl; unfinished = refl; is_so = refl; others = its }))))
gate_stands begun s gate.SyncsOpen None awake e at here none its = absurd (none_found none its.in_hand)
  where
    none_found : s.commit ≡ None → s.commit ≡ Some its.commit → ⊥
    none_found none found = let both : None ≡ Some its.commit = sym none ∙ found in cc
gate_stands begun s gate.SyncsOpen (Some c) awake e at here found its =
    let list = its.its in
    rw (at, here, found, list, awake) (record {
      commit = its.commit;
      in_hand = sym found ∙ its.in_hand;
      newest = record its.newest { is_sealed = true };
      older = its.older;
      its = refl;
      number = its.number;
      kind = its.kind;
      begin = its.begin;
      first = its.first;
      end = its.end;
      triples = its.triples;
      points = its.points;
      checkpoint = its.checkpoint;
      lost = its.lost;
      unfinished = its.unfinished;
      is_so = refl;
      others = its.others;
    })
gate_stands begun s gate.Written found awake e at here one its = absurd its
gate_stands begun s (gate.Broken why) found awake e at here one its = absurd its

fresh_gate : (begun : List BegunCommit) (s : KeeperState) (step : Gating) → IsFresh step → HaveFinished begun s.last → AtGate begun s step
fresh_gate begun s gate.Closes first all = all
fresh_gate begun s gate.WritesBody first all = all
fresh_gate begun s step first all = absurd first

synced_stands : (begun : List BegunCommit) (s : KeeperState) (step : Gating) (found : Option Commit) → s.rests ≡ false → s.step ≡ Writes → s.writes.step ≡ committing.SyncsTriples → s.writes.gate.step ≡ step → s.commit ≡ found → IsFresh step
    → HaveFinished begun s.last → Stands begun (writes_called s true)
unfolding commit_step_answer commit_step_next gate_after gate_answer write_ledto
synced_stands begun s gate.Closes None awake e at here none first all = rw (at, here, none, awake) (at_end begun s s.is_broken all)
synced_stands begun s gate.Closes (Some c) awake e at here found first all = made_on begun s c e found (rw (at, here) refl) (rw (at, here) all)
synced_stands begun s gate.WritesBody None awake e at here none first all = rw (at, here, none, awake) (at_end begun s s.is_broken all)
synced_stands begun s gate.WritesBody (Some c) awake e at here found first all = made_on begun s c e found (rw (at, here) refl) (rw (at, here) all)
synced_stands begun s step found awake e at here its first all = absurd first

made_stand : (begun : List BegunCommit) (s : KeeperState) (step : Committing) (found : Option Commit) → s.rests ≡ false → s.step ≡ Writes → s.writes.step ≡ step → s.commit ≡ found → AtWrites begun s step
    → Stands (begun_at_writes s step true begun) (writes_called s true)
unfolding commit_step_answer commit_step_next gate_after write_ledto
made_stand begun s committing.WritesTriples None awake e at none its = rw (at, none, awake) (at_end begun s s.is_broken its.0)
made_stand begun s committing.WritesTriples (Some c) awake e at found its = made_on begun s c e found (rw at refl) (rw at its)
made_stand begun s committing.SyncsTriples found awake e at is its = synced_stands begun s s.writes.gate.step found awake e at refl is its.1 its.0
made_stand begun s committing.PutsSlot found awake e at is its = gate_stands begun s s.writes.gate.step found awake e at refl is its
made_stand begun s (committing.Broken why) found awake e at is its = absurd its

failed_gate : (begun : List BegunCommit) (s : KeeperState) (step : Gating) (found : Option Commit) → s.writes.gate.step ≡ step → s.commit ≡ found → AtGate begun s step
    → HaveFinished (begun_at_writes s committing.PutsSlot false begun) s.last ⊎ OneIsOpen (begun_at_writes s committing.PutsSlot false begun) s.last
failed_gate begun s gate.Closes found here is its = rw here (inl its)
failed_gate begun s gate.SyncsClosed found here is its = rw here (inl its)
failed_gate begun s gate.WritesBody found here is its = rw here (inl its)
failed_gate begun s gate.SyncsBody found here is its = rw here (inl its)
failed_gate begun s gate.Opens None here none its = rw (here, none) (inl its)
failed_gate begun s gate.Opens (Some c) here found its = rw (here, found) (inr (record { newest = commit_opening s c; older = begun; its = refl; unfinished = refl; unsealed = refl; others = its }))
failed_gate begun s gate.SyncsOpen found here is its = rw here (inr (record { newest = its.newest; older = its.older; its = its.its; unfinished = its.unfinished; unsealed = its.is_so; others = its.others }))
failed_gate begun s gate.Written found here is its = absurd its
failed_gate begun s (gate.Broken why) found here is its = absurd its

failed_stand : (begun : List BegunCommit) (s : KeeperState) (step : Committing) → s.writes.step ≡ step → AtWrites begun s step → HaveFinished (begun_at_writes s step false begun) s.last ⊎ OneIsOpen (begun_at_writes s step false begun) s.last
failed_stand begun s committing.WritesTriples at its = inl its.0
failed_stand begun s committing.SyncsTriples at its = inl its.0
failed_stand begun s committing.PutsSlot at its = failed_gate begun s s.writes.gate.step s.commit refl refl its
failed_stand begun s (committing.Broken why) at its = absurd its

writing_stands : (shape : Shape) (p : Places) (begun : List BegunCommit) (s : KeeperState) (event : KeeperEvent) → s.rests ≡ false → s.step ≡ Writes → AtWrites begun s s.writes.step
    → Stands (begun_by s Writes event (happens_at shape p s Writes event).step begun) (happens_at shape p s Writes event)
unfolding keeping_next keeping_given keeping_called
writing_stands shape p begun s BeginsTurn awake e its = come_stands begun s Writes (come_awake s Writes awake e) its
writing_stands shape p begun s (BeginsCommit kind) awake e its = come_stands begun s Writes (come_awake s Writes awake e) its
writing_stands shape p begun s (Replies reply granted) awake e its = come_stands begun s Writes (come_awake s Writes awake e) its
writing_stands shape p begun s (Gets action) awake e its = come_stands begun s Writes (come_awake s Writes awake e) its
writing_stands shape p begun s (Calls true bytes) awake e its = made_stand begun s s.writes.step s.commit awake e refl refl its
writing_stands shape p begun s (Calls false bytes) awake e its = failed_stand begun s s.writes.step refl its

-- ---- as it is said
gate_open : (begun : List BegunCommit) (s : KeeperState) (step : Gating) → AtGate begun s step → HaveFinished begun s.last ⊎ OneIsOpen begun s.last
gate_open begun s gate.Closes its = inl its
gate_open begun s gate.SyncsClosed its = inl its
gate_open begun s gate.WritesBody its = inl its
gate_open begun s gate.SyncsBody its = inl its
gate_open begun s gate.Opens its = inl its
gate_open begun s gate.SyncsOpen its = inr (record { newest = its.newest; older = its.older; its = its.its; unfinished = its.unfinished; unsealed = its.is_so; others = its.others })
gate_open begun s gate.Written its = absurd its
gate_open begun s (gate.Broken why) its = absurd its

writes_open : (begun : List BegunCommit) (s : KeeperState) (step : Committing) → AtWrites begun s step → HaveFinished begun s.last ⊎ OneIsOpen begun s.last
writes_open begun s committing.WritesTriples its = inl its.0
writes_open begun s committing.SyncsTriples its = inl its.0
writes_open begun s committing.PutsSlot its = gate_open begun s s.writes.gate.step its
writes_open begun s (committing.Broken why) its = absurd its

-- ---- where it is finished
finished_stands : (begun : List BegunCommit) (s : KeeperState) (found : Option Commit) → s.commit ≡ found → IsInHand begun s true → StandsThere (begun_at_end (finished s found).step begun) (finished s found)
finished_stands begun s None none its = absurd (nothing (sym none ∙ its.in_hand))
  where
    nothing : None ≡ Some its.commit → ⊥
    nothing e = cc
finished_stands begun s (Some c) found its =
    let same = same_commit c its.commit (sym found ∙ its.in_hand) in
    let newest : BegunCommit = record its.newest { is_finished = true } in
    let list = its.its in
    rw list (at_end (newest ∷ its.older) (finished s (Some c)) s.is_broken
    (record {
      newest = newest;
      older = its.older;
      its = refl;
      finished = (its.is_so, refl, its.others.finished);
      last = record {
        number = its.number ∙ ap (λ (x : Commit). x.number) (sym same);
        begin = its.begin ∙ ap (λ (x : Commit). x.begin) (sym same);
        points = its.points;
        checkpoint = its.checkpoint;
      };
    }))

finish_stands : (begun : List BegunCommit) (s : KeeperState) (ask : Ask FinishAnswer) → s.step ≡ Finishes → IsInHand begun s true → StandsThere (begun_at_end (finish_ledto s ask).step begun) (finish_ledto s ask)
unfolding finish_ledto
finish_stands begun s (Done answer) e its = finished_stands begun s s.commit refl its
finish_stands begun s ask e its = still_finishing begun s e its

finishing_stands : (shape : Shape) (p : Places) (begun : List BegunCommit) (s : KeeperState) (event : KeeperEvent) → s.step ≡ Finishes → IsInHand begun s true
    → StandsThere (begun_at_end (happens_at shape p s Finishes event).step begun) (happens_at shape p s Finishes event)
unfolding keeping_next keeping_given keeping_called
finishing_stands shape p begun s BeginsTurn e its = still_finishing begun s e its
finishing_stands shape p begun s (BeginsCommit kind) e its = still_finishing begun s e its
finishing_stands shape p begun s (Replies reply granted) e its =
    let next : KeeperState = record s { finish = finish_next s.finish reply } in
    finish_stands begun next (finish_ask s.seek.points (finish_next s.finish reply)) e
    (held_on begun s next true (record { commit = refl; writes = refl; points = refl; taken = refl; used = refl; last = refl; lost = refl }) its)
finishing_stands shape p begun s (Gets action) e its = still_finishing begun s e its
finishing_stands shape p begun s (Calls done bytes) e its = still_finishing begun s e its

-- ---- each event, while no writes rest
awake_stands : (shape : Shape) (p : Places) (begun : List BegunCommit) (s : KeeperState) (event : KeeperEvent) (step : Keeping) → s.rests ≡ false → s.step ≡ step → StandsAt begun s step
    → Stands (begun_by s step event (keeper_happens shape p s event).step begun) (keeper_happens shape p s event)
awake_stands shape p begun s event (Ended told) awake e its = ended_stands shape p begun s event told s.is_broken awake e refl its
awake_stands shape p begun s event Waits awake e its = come_there shape p begun s event Waits awake e (λ writes. cc) (waits_stand shape p begun s event e its)
awake_stands shape p begun s event Writes awake e its =
    subst (λ (x : KeeperState). Stands (begun_by s Writes event x.step begun) x) (there shape p s event Writes e) (writing_stands shape p begun s event awake e its)
awake_stands shape p begun s event Finishes awake e its =
    subst (λ (x : Keeping). Stands (begun_at_end x begun) (keeper_happens shape p s event)) (ap (λ (x : KeeperState). x.step) (there shape p s event Finishes e))
    (come_there shape p (begun_at_end (happens_at shape p s Finishes event).step begun) s event Finishes awake e (λ writes. cc) (finishing_stands shape p begun s event e its))
awake_stands shape p begun s event Starts awake e its = calm_stands shape p begun s event Starts awake e tt its
awake_stands shape p begun s event Maintains awake e its = calm_stands shape p begun s event Maintains awake e tt its
awake_stands shape p begun s event LoadsPhase awake e its = calm_stands shape p begun s event LoadsPhase awake e tt its
awake_stands shape p begun s event Enters awake e its = calm_stands shape p begun s event Enters awake e tt its
awake_stands shape p begun s event Copies awake e its = calm_stands shape p begun s event Copies awake e tt its
awake_stands shape p begun s event Sweeps awake e its = calm_stands shape p begun s event Sweeps awake e tt its
awake_stands shape p begun s event Seeks awake e its = calm_stands shape p begun s event Seeks awake e tt its

-- ---- and where they rest
module _ (shape : Shape) (p : Places) (begun : List BegunCommit) (s : KeeperState) (event : KeeperEvent) (rests : s.rests ≡ true) (may : MayRest s.step) (its : AtWrites begun s s.writes.step) where
  abbrev a : KeeperState
  a = keeper_happens shape p s event

  -- they rest still, go on, or a call has failed
  kept_stands : AtWrites begun a a.writes.step → (a.rests ≡ true) ⊎ (GoesOn a ⊎ HasBroken a) → Stands begun a
  kept_stands written (inl still) = come_stands begun a Writes (come_rested a still) written
  kept_stands written (inr (inl on)) = come_stands begun a Writes (come_awake a Writes on.awake on.writes) written
  kept_stands written (inr (inr broken)) =
      come_stands begun a (Ended broken.told) (come_awake a (Ended broken.told) broken.awake broken.ended)
      (subst (λ (b : Bool). AtEnd begun a b) (sym broken.broken) (writes_open begun a a.writes.step written))

  rest_stands : Stands (begun_by s s.step event a.step begun) a
  rest_stands =
      let kept = after_rest shape p s event rests may in
      subst (λ (x : List BegunCommit). Stands x a) (sym (rest_begun s s.step event a.step begun may)) (kept_stands (still_written begun s a kept.kept its) kept.goes)

-- ---- each event
event_stands : (shape : Shape) (p : Places) (begun : List BegunCommit) (s : KeeperState) (event : KeeperEvent) → (s.rests ≡ true → MayRest s.step) → Stands begun s
    → Stands (begun_by s s.step event (keeper_happens shape p s event).step begun) (keeper_happens shape p s event)
event_stands shape p begun s event may its = by s.rests refl
  where
    by : (b : Bool) → s.rests ≡ b → Stands (begun_by s s.step event (keeper_happens shape p s event).step begun) (keeper_happens shape p s event)
    by true rests = rest_stands shape p begun s event rests (may rests) (subst (λ (x : Keeping). StandsAt begun s x) (come_rested s rests) its)
    by false awake = awake_stands shape p begun s event s.step awake refl (subst (λ (x : Keeping). StandsAt begun s x) (come_awake s s.step awake refl) its)

opened_at : (begun : List BegunCommit) (s : KeeperState) (step : Keeping) → is_in_hand step ≡ false → HaveFinished begun s.last → StandsAt begun s step
opened_at begun s (Ended told) idle all = at_end begun s s.is_broken all
opened_at begun s step idle all = cc

pub opened_stands : (begun : List BegunCommit) (s : KeeperState) → IsOpened s → HaveFinished begun s.last → Stands begun s
opened_stands begun s opened all = come_stands begun s s.step (come_awake s s.step opened.none_rest refl) (opened_at begun s s.step opened.none_in_hand all)

-- ---- at each moment of a run
pub run_stands : (shape : Shape) (p : Places) (opening : KeeperState) (first : List BegunCommit) (events : List KeeperEvent) → IsOpened opening → HaveFinished first opening.last
    → Stands (commits_begun shape p opening first events) (keeper_run shape p opening events)
unfolding keeper_run commits_begun
run_stands shape p opening first [] opened all = opened_stands first opening opened all
run_stands shape p opening first (event ∷ before) opened all =
    event_stands shape p (commits_begun shape p opening first before) (keeper_run shape p opening before) event (rests_there shape p opening before opened) (run_stands shape p opening first before opened all)

-- as it is said
pub said_so : (begun : List BegunCommit) (s : KeeperState) (step : Keeping) → StandsAt begun s step → AtKeeping begun s step
said_so begun s Finishes its = its
said_so begun s Writes its = writes_open begun s s.writes.step its
said_so begun s (Ended told) its = its
said_so begun s Starts its = its
said_so begun s Maintains its = its
said_so begun s LoadsPhase its = its
said_so begun s Enters its = its
said_so begun s Copies its = its
said_so begun s Sweeps its = its
said_so begun s Seeks its = its
said_so begun s Waits its = its
