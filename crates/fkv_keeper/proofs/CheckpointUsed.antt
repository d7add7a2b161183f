-- While a commit is written and finished it uses the checkpoint with which its writes have begun.
use Rattle.std.proofs.Common.{◌≡◌, ℕ, ◌∙◌, ◌⊎◌, inl, inr, List, [], ◌∷◌, refl, ap, sym, subst, Bool, true, false}
use Rattle.std.specs.Prelude.{Option, Some, if◌then◌else◌}
use Rattle.fkv_base.specs.declared.shapes.Shape.{Shape}
use Rattle.fkv_plane.specs.declared.places.Places.{Places}
use Rattle.fkv_commit.specs.declared.commits.Commit.{Commit}
use Rattle.fkv_base.specs.declared.commits.CommitKind.{CommitKind}
use Rattle.fkv_base.specs.declared.commits.CommitKind.TheVariants.{Full, Log}
use Rattle.fkv_manifest.specs.Committing.{CommitWriter}
use Rattle.fkv_keeper.specs.declared.answers.KeeperTold.{KeeperTold}
use Rattle.fkv_keeper.specs.declared.keepers.Keeping.{Keeping}
use Rattle.fkv_keeper.specs.declared.keepers.Keeping.TheVariants.{Ended, Starts, LoadsPhase, Copies, Waits, Writes, Finishes}
use Rattle.fkv_keeper.specs.Keeping.{KeeperState, come_to, Finality, is_copy_resting, keeping_given, keeping_called}
use Rattle.fkv_keeper.specs.KeeperRun.{KeeperEvent, BeginsTurn, BeginsCommit, Replies, Gets, Calls, is_in_hand, keeper_happens, keeper_run, IsOpened, Writing, writing_after, writing}
use Rattle.fkv_keeper.specs.CheckpointLaws.{replies_after, copy_replies, BegunWith, LastBegin, last_begin_after, last_begin, begun_with, IsWrittenAs, AreWritesBegun, IsBehindWait, UsesAs, IsBeingWritten, IsFinished, IsCommitAfter, KeepsLists, MayFollow}
use Rattle.fkv_keeper.proofs.Happens.{happens_at, happens_so}
use Rattle.fkv_keeper.specs.KeeperLaws.{MayRest}
use Rattle.fkv_keeper.specs.PartLaws.{IsPartBegun, IsWriteTakenUp}
use Rattle.fkv_keeper.proofs.KeeperRuns.{run_rests}
use Rattle.fkv_keeper.proofs.PartMoves.{each_part}
use Rattle.fkv_keeper.proofs.Rests.{begins_rest, rests_still}
use Rattle.fkv_keeper.proofs.CheckpointRuns.{run_copied}
use Rattle.fkv_keeper.proofs.CheckpointMoves.{IsMove, each_move}
use Rattle.fkv_keeper.proofs.CheckpointWrites.{run_writes}
use Rattle.std.specs.Option.{is_some}

-- what comes before a step behind the wait
before_it : (step next : Keeping) → MayFollow step next → IsBehindWait next → ((step ≡ Waits) × (next ≡ Writes)) ⊎ IsBehindWait step
before_it Waits Writes follows behind = inl (refl, refl)
before_it Writes next follows behind = inr tt
before_it Finishes next follows behind = inr tt
before_it step Writes follows behind = absurd follows
before_it step Finishes follows behind = absurd follows
before_it step next follows behind = absurd behind

not_ended : (step : Keeping) (told : KeeperTold) → step ≡ Ended told → IsBehindWait step → ⊥
not_ended step told e behind = subst IsBehindWait e behind

not_starts : (step : Keeping) → step ≡ Starts → IsBehindWait step → ⊥
not_starts step e behind = subst IsBehindWait e behind

not_waits : (step : Keeping) → IsBehindWait step → step ≡ Waits → ⊥
not_waits step behind e = subst IsBehindWait e behind

-- what stays of the lists beside a run
same_replies : (rests : Bool) (step : Keeping) (event : KeeperEvent) (after : Keeping) (was : List ℕ) → IsBehindWait step ⊎ (step ≡ Waits) → replies_after rests step event after was ≡ was
same_replies rests LoadsPhase event after was (inl behind) = absurd behind
same_replies rests LoadsPhase event after was (inr waits) = cc
same_replies rests Copies event after was (inl behind) = absurd behind
same_replies rests Copies event after was (inr waits) = cc
same_replies rests step event after was here = refl

same_told : (step : Keeping) (event : KeeperEvent) (after : KeeperState) (was : LastBegin) → IsBehindWait step ⊎ (step ≡ Waits) → last_begin_after step event after was ≡ was
same_told (Ended its) event after was (inl behind) = absurd behind
same_told (Ended its) event after was (inr waits) = cc
same_told Starts event after was (inl behind) = absurd behind
same_told Starts event after was (inr waits) = cc
same_told step event after was here = refl

same_first : (step : Keeping) (event : KeeperEvent) (after : KeeperState) (w : Writing) → IsBehindWait step → (writing_after step event after w).first ≡ w.first
same_first Writes BeginsTurn after w behind = refl
same_first Writes (BeginsCommit kind) after w behind = refl
same_first Writes (Replies reply granted) after w behind = refl
same_first Writes (Gets action) after w behind = refl
same_first Writes (Calls done bytes) after w behind = refl
same_first Finishes event after w behind = refl
same_first step event after w behind = absurd behind

not_writing : (step : Keeping) → step ≡ Waits → step ≡ Writes → ⊥
not_writing step waits writes = let clash : Waits ≡ Writes = sym waits ∙ writes in cc

-- the writes begin at a reply
begun_first : (shape : Shape) (p : Places) (s : KeeperState) (event : KeeperEvent) (w : Writing) → s.step ≡ Waits → (happens_at shape p s Waits event).step ≡ Writes → (writing_after Waits event (happens_at shape p s Waits event) w).first ≡ (happens_at shape p s Waits event).writes
unfolding keeping_given keeping_called
begun_first shape p s (Replies reply granted) w waits writes = refl
begun_first shape p s event w waits writes = absurd (not_writing s.step waits writes)

-- a commit that goes on uses what it has used
used_as : (kind other : CommitKind) (p : Places) (replies : List ℕ) (w v : Writing) (s a : KeeperState) (c d : Commit) → other ≡ kind → d.number ≡ c.number → d.first ≡ c.first → a.used ≡ s.used → a.last ≡ s.last → v.first ≡ w.first
    → UsesAs kind p replies w s c → UsesAs other p replies v a d
used_as Full Full p replies w v s a c d e number first used last same its = record {
  finished = its.finished;
  used = used ∙ its.used ∙ rw number (rw first (rw last refl));
  triples = ap (λ (x : CommitWriter). x.triples) same ∙ its.triples;
}
used_as Log Log p replies w v s a c d e number first used last same its = record { used = used ∙ its.used ∙ ap (λ (x : Finality). x.checkpoint) (sym last); triples = ap (λ (x : CommitWriter). x.triples) same ∙ its.triples }
used_as Full Log p replies w v s a c d e number first used last same its = cc
used_as Log Full p replies w v s a c d e number first used last same its = cc

goes_on : (p : Places) (replies : List ℕ) (told : Option BegunWith) (w v : Writing) (s a : KeeperState) (c : Commit) → IsBehindWait s.step → IsBehindWait a.step → s.commit ≡ Some c → IsCommitAfter (Some c) s a → KeepsLists s a → v.first ≡ w.first
    → told ≡ Some (record { kind = c.kind; number = c.number; first = c.first }) → UsesAs c.kind p replies w s c → IsBeingWritten p replies told v a
goes_on p replies told w v s a c behind still in_hand (inl same) lists first begun uses = by_lists lists.lists
  where
    by_lists : ((a.last ≡ s.last) × (a.lost ≡ s.lost)) ⊎ ((x : Commit) × (s.commit ≡ Some x) × IsFinished s a x) → IsBeingWritten p replies told v a
    by_lists (inl kept) = record {
      commit = same.commit;
      in_hand = same.in_hand;
      begun = begun ∙ rw same.kind (rw same.number (rw same.first refl));
      uses = used_as c.kind same.commit.kind p replies w v s a c same.commit same.kind same.number same.first (lists.used (not_waits s.step behind)) kept.0 first uses;
    }
    by_lists (inr finish) = absurd (not_ended a.step _ finish.2.told still)
goes_on p replies told w v s a c behind still in_hand (inr (inl finish)) lists first begun uses = absurd (not_ended a.step _ finish.told still)
goes_on p replies told w v s a c behind still in_hand (inr (inr other)) lists first begun uses = absurd (not_starts s.step other.starts behind)

-- the writes have just begun
from_written : (kind : CommitKind) (shape : Shape) (p : Places) (replies : List ℕ) (v : Writing) (s a : KeeperState) (c : Commit) → a.last ≡ s.last → v.first ≡ a.writes → IsWrittenAs kind shape p replies s a c → UsesAs kind p replies v a c
from_written Full shape p replies v s a c last first its = record { finished = its.copy.finished; used = its.used ∙ rw last refl; triples = ap (λ (x : CommitWriter). x.triples) first ∙ its.triples }
from_written Log shape p replies v s a c last first its = record { used = its.used ∙ ap (λ (x : Finality). x.checkpoint) (sym last); triples = ap (λ (x : CommitWriter). x.triples) first ∙ its.triples }

has_begun : (shape : Shape) (p : Places) (replies : List ℕ) (told : Option BegunWith) (v : Writing) (s a : KeeperState) → s.step ≡ Waits → a.step ≡ Writes → v.first ≡ a.writes → KeepsLists s a → AreWritesBegun shape p replies told s a → IsBeingWritten p replies told v a
has_begun shape p replies told v s a waits writes first lists its = by_lists lists.lists
  where
    by_lists : ((a.last ≡ s.last) × (a.lost ≡ s.lost)) ⊎ ((x : Commit) × (s.commit ≡ Some x) × IsFinished s a x) → IsBeingWritten p replies told v a
    by_lists (inl kept) = record { commit = its.commit; in_hand = its.stays; begun = its.begun; uses = from_written its.commit.kind shape p replies v s a its.commit kept.0 first its.written }
    by_lists (inr finish) = let clash : Writes ≡ Ended _ = sym writes ∙ finish.2.told in cc

-- the lists beside a run are as they were
as_before : (p : Places) (replies : List ℕ) (told : LastBegin) (v : Writing) (s a : KeeperState) (event : KeeperEvent) → IsBehindWait s.step ⊎ (s.step ≡ Waits) → IsBeingWritten p replies told.begun v a
    → IsBeingWritten p (replies_after (is_copy_resting s.copy) s.step event a.step replies) (last_begin_after s.step event a told).begun v a
as_before p replies told v s a event here its =
    subst (λ (x : List ℕ). IsBeingWritten p x (last_begin_after s.step event a told).begun v a) (sym (same_replies (is_copy_resting s.copy) s.step event a.step replies here))
    (subst (λ (x : LastBegin). IsBeingWritten p replies x.begun v a) (sym (same_told s.step event a told here)) its)

no_start : (s : KeeperState) (step : Keeping) → s.step ≡ step → IsOpened s → IsBehindWait step → ⊥
no_start s (Ended its) e opened behind = behind
no_start s step e opened behind = let busy : true ≡ false = sym (ap is_in_hand e) ∙ opened.none_in_hand in cc

first_written : (shape : Shape) (p : Places) (s : KeeperState) (event : KeeperEvent) (w : Writing) → s.step ≡ Waits → (keeper_happens shape p s event).step ≡ Writes
    → (writing_after s.step event (keeper_happens shape p s event) w).first ≡ (keeper_happens shape p s event).writes
first_written shape p s event w waits writes =
    ap (λ (x : Keeping). (writing_after x event (keeper_happens shape p s event) w).first) waits
    ∙ subst (λ (x : KeeperState). (writing_after Waits event x w).first ≡ x.writes) same (begun_first shape p s event w waits (ap (λ (x : KeeperState). x.step) same ∙ writes))
  where
    same : happens_at shape p s Waits event ≡ keeper_happens shape p s event
    same = ap (λ (x : Keeping). happens_at shape p s x event) (sym waits) ∙ happens_so shape p s event

-- a commit that stays as it is uses what it has used
kept_used : (p : Places) (replies : List ℕ) (told now : Option BegunWith) (w v : Writing) (s a : KeeperState) → a.commit ≡ s.commit → a.used ≡ s.used → a.last ≡ s.last → v.first ≡ w.first
    → ((c : Commit) → a.commit ≡ Some c → now ≡ Some (record { kind = c.kind; number = c.number; first = c.first })) → IsBeingWritten p replies told w s → IsBeingWritten p replies now v a
kept_used p replies told now w v s a commit used last first begun its = record {
  commit = its.commit;
  in_hand = commit ∙ its.in_hand;
  begun = begun its.commit (commit ∙ its.in_hand);
  uses = used_as its.commit.kind its.commit.kind p replies w v s a its.commit its.commit refl refl refl used last first its.uses;
}

-- while writes rest no copy has a reply
resting_replies : (rests : Bool) (step : Keeping) (event : KeeperEvent) (after : Keeping) (was : List ℕ) → MayRest step → (after ≡ Copies → ⊥) → replies_after rests step event after was ≡ was
resting_replies rests LoadsPhase (Replies reply granted) Copies was may not = absurd (not refl)
resting_replies rests LoadsPhase event after was may not = refl
resting_replies rests Copies event after was may not = absurd may
resting_replies rests step event after was may not = refl

resting_first : (step : Keeping) (event : KeeperEvent) (after : KeeperState) (w : Writing) → MayRest step → (writing_after step event after w).first ≡ w.first
resting_first Waits event after w may = absurd may
resting_first Writes event after w may = absurd may
resting_first step event after w may = refl

no_copies : (step : Keeping) → MayRest step → step ≡ Copies → ⊥
no_copies step may e = subst MayRest e may

-- writes that rest are behind the wait again where they are taken up, and nowhere else
taken_up : (step : Keeping) (s : KeeperState) (event : KeeperEvent) (a : KeeperState) → IsBehindWait step → MayRest s.step → IsPartBegun step s event a → IsWriteTakenUp s event a
taken_up Writes s event a behind may (inl writes) = absurd (subst MayRest writes may)
taken_up Writes s event a behind may (inr (inl begun)) = absurd (subst MayRest begun.waits may)
taken_up Writes s event a behind may (inr (inr its)) = its
taken_up Finishes s event a behind may (inl finishes) = absurd (subst MayRest finishes may)
taken_up Finishes s event a behind may (inr begun) = absurd (subst MayRest begun.writes may)
taken_up step s event a behind may begun = absurd behind

-- a keeper that has come to the wait is at it
at_waits : (s : KeeperState) → come_to s ≡ Waits → (s.rests ≡ false) × (s.step ≡ Waits)
at_waits s waits = by s.rests refl waits
  where
    by : (rests : Bool) → s.rests ≡ rests → (if rests then Writes else s.step) ≡ Waits → (s.rests ≡ false) × (s.step ≡ Waits)
    by true e clash = cc
    by false e same = (e, same)

writes_now : (shape : Shape) (p : Places) (s : KeeperState) (event : KeeperEvent) → s.rests ≡ false → s.step ≡ Waits → come_to (keeper_happens shape p s event) ≡ Writes → (keeper_happens shape p s event).step ≡ Writes
writes_now shape p s event awake waits writes = by a.rests refl writes
  where
    a : KeeperState
    a = keeper_happens shape p s event

    by : (rests : Bool) → a.rests ≡ rests → (if rests then Writes else a.step) ≡ Writes → a.step ≡ Writes
    by true e same = absurd (not_writing s.step waits (begins_rest shape p s event awake e).writes)
    by false e same = same

-- what is behind the wait has come to be so
pub come_behind : (s : KeeperState) → IsBehindWait s.step → IsBehindWait (come_to s)
come_behind s behind = by s.rests
  where
    by : (rests : Bool) → IsBehindWait (if rests then Writes else s.step)
    by true = tt
    by false = behind

no_behind : (opening : KeeperState) → IsOpened opening → IsBehindWait (come_to opening) → ⊥
no_behind opening opened behind = no_start opening opening.step refl opened (subst (λ (rests : Bool). IsBehindWait (if rests then Writes else opening.step)) opened.none_rest behind)

pub run_used : (shape : Shape) (p : Places) (opening : KeeperState) (events : List KeeperEvent) → IsOpened opening → IsBehindWait (come_to (keeper_run shape p opening events))
    → IsBeingWritten p (copy_replies shape p opening events) (begun_with shape p opening events) (writing shape p opening events) (keeper_run shape p opening events)
unfolding keeper_run copy_replies last_begin writing
run_used shape p opening [] opened behind = absurd (no_behind opening opened behind)
run_used shape p opening (event ∷ before) opened behind = by_step (λ goes. run_used shape p opening before opened goes) (before_it (come_to s) (come_to a) move.one.follows behind)
  where
    s : KeeperState
    s = keeper_run shape p opening before

    a : KeeperState
    a = keeper_happens shape p s event

    replies : List ℕ
    replies = copy_replies shape p opening before

    told : LastBegin
    told = last_begin shape p opening before

    w : Writing
    w = writing shape p opening before

    move : IsMove p s event a
    move = each_move shape p s event

    Written : Type 0
    Written = IsBeingWritten p (replies_after (is_copy_resting s.copy) s.step event a.step replies) (last_begin_after s.step event a told).begun (writing_after s.step event a w) a

    begun : (c : Commit) → a.commit ≡ Some c → (last_begin_after s.step event a told).begun ≡ Some (record { kind = c.kind; number = c.number; first = c.first })
    begun c in_hand = (run_copied shape p opening (event ∷ before) opened).begun c in_hand

    still : a.commit ≡ s.commit → a.used ≡ s.used → a.last ≡ s.last → (writing_after s.step event a w).first ≡ w.first → replies_after (is_copy_resting s.copy) s.step event a.step replies ≡ replies → IsBeingWritten p replies told.begun w s → Written
    still commit used last first same its =
        subst (λ (x : List ℕ). IsBeingWritten p x (last_begin_after s.step event a told).begun (writing_after s.step event a w) a) (sym same)
        (kept_used p replies told.begun (last_begin_after s.step event a told).begun w (writing_after s.step event a w) s a commit used last first begun its)

    from_rest : s.rests ≡ true → (is : Bool) → a.rests ≡ is → IsBehindWait (if is then Writes else a.step) → IsBeingWritten p replies told.begun w s → Written
    from_rest rests true is goes its =
        let was = run_rests shape p opening before opened rests in
        let kept = rests_still shape p s event rests (ap is_some was.in_hand) was.rests was.serves is in
        still kept.commit kept.used kept.last (resting_first s.step event a w was.rests) (resting_replies (is_copy_resting s.copy) s.step event a.step replies was.rests (no_copies a.step kept.rests)) its
    from_rest rests false is goes its =
        let was = run_rests shape p opening before opened rests in
        let up = taken_up a.step s event a goes was.rests (each_part shape p s event).begins in
        still (ap (λ (x : KeeperState). x.commit) up.same) (ap (λ (x : KeeperState). x.used) up.same) (ap (λ (x : KeeperState). x.last) up.same) (resting_first s.step event a w was.rests)
        (resting_replies (is_copy_resting s.copy) s.step event a.step replies was.rests (λ at. subst IsBehindWait at goes)) its

    from_step : s.rests ≡ false → IsBehindWait s.step → (is : Bool) → a.rests ≡ is → IsBehindWait (if is then Writes else a.step) → IsBeingWritten p replies told.begun w s → Written
    from_step awake goes true is after its =
        let rest = begins_rest shape p s event awake is in
        still (ap (λ (x : KeeperState). x.commit) rest.same) (ap (λ (x : KeeperState). x.used) rest.same) (ap (λ (x : KeeperState). x.last) rest.same) (same_first s.step event a w goes)
        (same_replies (is_copy_resting s.copy) s.step event a.step replies (inl goes)) its
    from_step awake goes false is after its =
        as_before p replies told _ s a event (inl goes)
        (goes_on p replies told.begun w _ s a its.commit goes after its.in_hand (subst (λ (x : Option Commit). IsCommitAfter x s a) its.in_hand move.copies.commit) move.lists (same_first s.step event a w goes) its.begun its.uses)

    by_step : (IsBehindWait (come_to s) → IsBeingWritten p replies told.begun w s) → ((come_to s ≡ Waits) × (come_to a ≡ Writes)) ⊎ IsBehindWait (come_to s) → Written
    by_step been (inl begins) =
        let waits = at_waits s begins.0 in
        let writes = writes_now shape p s event waits.0 waits.1 begins.1 in
        as_before p replies told _ s a event (inr waits.1)
        (has_begun shape p replies told.begun _ s a waits.1 writes (first_written shape p s event w waits.1 writes) move.lists (run_writes shape p opening before event opened waits.1 writes))
    by_step been (inr goes) = by s.rests refl goes
      where
        by : (rests : Bool) → s.rests ≡ rests → IsBehindWait (if rests then Writes else s.step) → Written
        by true rests behind_it = from_rest rests a.rests refl behind (been goes)
        by false awake behind_it = from_step awake behind_it a.rests refl behind (been goes)
