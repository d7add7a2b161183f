-- What is written as the writes of a commit begin, and the clauses of the law over runs.
use Rattle.std.proofs.Common.{◌≡◌, ℕ, ◌∙◌, List, ◌∷◌, refl, ap, sym, subst, Bool, true, false}
use Rattle.std.specs.Prelude.{Option, Some, None, length, if◌then◌else◌}
use Rattle.fkv_base.specs.declared.shapes.Shape.{Shape}
use Rattle.fkv_record.specs.Places.{area_place}
use Rattle.fkv_plane.specs.declared.asks.Ask.{Ask}
use Rattle.fkv_plane.specs.declared.asks.Ask.TheVariants.{Done}
use Rattle.fkv_plane.specs.declared.places.Places.{Places}
use Rattle.fkv_checkpoint.specs.Copied.{copied_after}
use Rattle.fkv_checkpoint.specs.Copying.{Copier}
use Rattle.fkv_commit.specs.declared.commits.Commit.{Commit}
use Rattle.fkv_base.specs.declared.commits.CommitKind.{CommitKind}
use Rattle.fkv_base.specs.declared.commits.CommitKind.TheVariants.{Full, Log}
use Rattle.fkv_commit.specs.declared.waiting.WaitAnswer.{WaitAnswer}
use Rattle.fkv_commit.specs.declared.waiting.WaitAnswer.TheVariants as wait
use Rattle.fkv_commit.specs.Waiting.{WaitState, wait_ask, wait_next}
use Rattle.fkv_keeper.specs.declared.keepers.Keeping.{Keeping}
use Rattle.fkv_keeper.specs.declared.keepers.Keeping.TheVariants.{Waits, Writes}
use Rattle.fkv_keeper.specs.declared.last_commits.Checkpoint.{Checkpoint}
use Rattle.fkv_keeper.specs.LastCommits.{other_area, area_number, slot_written}
use Rattle.fkv_keeper.specs.Keeping.{KeeperState, come_to, bytes_copied, checkpoint_used, triples_written, lost_left, writes_begun, wait_ledto, keeping_next, keeping_given, keeping_called}
use Rattle.fkv_keeper.specs.KeeperRun.{KeeperEvent, Replies, writing, keeper_run, IsOpened}
use Rattle.fkv_keeper.specs.CheckpointLaws.{copy_replies, LastBegin, last_begin, begun_with, HasCopied, HoldsCopy, IsBeforeWrites, IsWrittenAs, AreWritesBegun}
use Rattle.fkv_keeper.specs.KeeperLaws.{MayRest}
use Rattle.fkv_keeper.proofs.KeeperSound.{Knows}
use Rattle.fkv_keeper.proofs.Happens.{happens_at, happens_so}
use Rattle.fkv_keeper.proofs.KeeperRuns.{run_rests, run_sound}
use Rattle.fkv_keeper.proofs.CheckpointRuns.{IsAtWork, IsSound, run_copied}

-- before a commit's writes none rest
early_awake : (s : KeeperState) → IsBeforeWrites (come_to s) → (s.rests ≡ false) × IsBeforeWrites s.step
early_awake s early = by s.rests refl early
  where
    by : (rests : Bool) → s.rests ≡ rests → IsBeforeWrites (if rests then Writes else s.step) → (s.rests ≡ false) × IsBeforeWrites s.step
    by true e before = absurd before
    by false e before = (e, before)

pub run_holds : (shape : Shape) (p : Places) (opening : KeeperState) (events : List KeeperEvent) → IsOpened opening → HoldsCopy p (copy_replies shape p opening events) (keeper_run shape p opening events)
run_holds shape p opening events opened c in_hand full copied works early =
    let s = keeper_run shape p opening events in
    let awake = early_awake s early in
    (run_copied shape p opening events opened).copied c in_hand full copied (works, awake.0) awake.1

-- by the kind of the commit
written_as : (shape : Shape) (p : Places) (replies : List ℕ) (s : KeeperState) (w : WaitState) (c : Commit) (kind : CommitKind) → c.kind ≡ kind → (c.kind ≡ Full → HasCopied p replies s.copy)
    → IsWrittenAs kind shape p replies s (writes_begun shape (record s { wait = w }) (Some c)) c
written_as shape p replies s w c Full full holds = record {
  copy = copy;
  triples = ap (λ (k : CommitKind). triples_written k s.copy) full ∙ ap bytes_copied copy.in_hand;
  area = ap (λ (x : Checkpoint). area_place shape (area_number x.area)) used;
  used = used;
  slot = ap (λ (k : CommitKind). slot_written shape.sessions c.number c.begin c.end (checkpoint_used c c.kind s.last s.copy) s.seek.points (lost_left k s.lost)) full;
}
  where
    copy : HasCopied p replies s.copy
    copy = holds full

    used : checkpoint_used c c.kind s.last s.copy ≡ record { number = c.number; first = c.first; triples = length (copied_after p replies); area = other_area s.last.checkpoint.area }
    used = ap (λ (k : CommitKind). checkpoint_used c k s.last s.copy) full ∙ ap (λ (x : Option Copier). checkpoint_used c Full s.last x) copy.in_hand
written_as shape p replies s w c Log log holds = record {
  triples = ap (λ (k : CommitKind). triples_written k s.copy) log;
  used = ap (λ (k : CommitKind). checkpoint_used c k s.last s.copy) log;
  slot = ap (λ (k : CommitKind). slot_written shape.sessions c.number c.begin c.end (checkpoint_used c c.kind s.last s.copy) s.seek.points (lost_left k s.lost)) log;
}

begun_writes : (shape : Shape) (p : Places) (replies : List ℕ) (told : LastBegin) (s : KeeperState) (w : WaitState) (found : Option Commit) → s.commit ≡ found → IsAtWork s → IsSound p replies told s Waits
    → (writes_begun shape (record s { wait = w }) found).step ≡ Writes → AreWritesBegun shape p replies told.begun s (writes_begun shape (record s { wait = w }) found)
begun_writes shape p replies told s w None in_hand works sound writes = cc
begun_writes shape p replies told s w (Some c) in_hand works sound writes = record {
  commit = c;
  in_hand = in_hand;
  stays = in_hand;
  begun = sound.begun c in_hand;
  copied = sound.here c in_hand;
  written = written_as shape p replies s w c c.kind refl (λ full. sound.copied c in_hand full (sound.here c in_hand) works tt);
}

not_writing : (step : Keeping) → step ≡ Waits → step ≡ Writes → ⊥
not_writing step waits writes = let clash : Waits ≡ Writes = sym waits ∙ writes in cc

wait_writes : (shape : Shape) (p : Places) (replies : List ℕ) (told : LastBegin) (s : KeeperState) (w : WaitState) (ask : Ask WaitAnswer) → s.step ≡ Waits → IsAtWork s → IsSound p replies told s Waits
    → (wait_ledto shape (record s { wait = w }) ask).step ≡ Writes → AreWritesBegun shape p replies told.begun s (wait_ledto shape (record s { wait = w }) ask)
unfolding wait_ledto
wait_writes shape p replies told s w (Done wait.Flushed) e works sound writes = begun_writes shape p replies told s w s.commit refl works sound writes
wait_writes shape p replies told s w (Done wait.NotYet) e works sound writes = cc
wait_writes shape p replies told s w (Done wait.Idle) e works sound writes = cc
wait_writes shape p replies told s w ask e works sound writes = absurd (not_writing s.step e writes)

event_writes : (shape : Shape) (p : Places) (replies : List ℕ) (told : LastBegin) (s : KeeperState) (event : KeeperEvent) → s.step ≡ Waits → IsAtWork s → IsSound p replies told s Waits
    → (happens_at shape p s Waits event).step ≡ Writes → AreWritesBegun shape p replies told.begun s (happens_at shape p s Waits event)
unfolding keeping_next keeping_given keeping_called
event_writes shape p replies told s (Replies reply granted) e works sound writes = wait_writes shape p replies told s (wait_next s.wait reply) (wait_ask (wait_next s.wait reply)) e works sound writes
event_writes shape p replies told s event e works sound writes = absurd (not_writing s.step e writes)

pub run_writes : (shape : Shape) (p : Places) (opening : KeeperState) (events : List KeeperEvent) (event : KeeperEvent) → IsOpened opening
    → (keeper_run shape p opening events).step ≡ Waits → (keeper_run shape p opening (event ∷ events)).step ≡ Writes
    → AreWritesBegun shape p (copy_replies shape p opening events) (begun_with shape p opening events) (keeper_run shape p opening events) (keeper_run shape p opening (event ∷ events))
unfolding keeper_run
run_writes shape p opening events event opened waits writes =
    subst (λ (x : KeeperState). AreWritesBegun shape p (copy_replies shape p opening events) (begun_with shape p opening events) s x) same
    (event_writes shape p (copy_replies shape p opening events) (last_begin shape p opening events) s event waits works sound (ap (λ (x : KeeperState). x.step) same ∙ writes))
  where
    s : KeeperState
    s = keeper_run shape p opening events

    same : happens_at shape p s Waits event ≡ keeper_run shape p opening (event ∷ events)
    same = ap (λ (x : Keeping). happens_at shape p s x event) (sym waits) ∙ happens_so shape p s event

    knows : Knows shape s (writing shape p opening events) Waits
    knows = subst (λ (x : Keeping). Knows shape s (writing shape p opening events) x) waits (run_sound shape p opening events opened).knows

    works : IsAtWork s
    works = (knows, awake s.rests refl)
      where
        awake : (rests : Bool) → s.rests ≡ rests → rests ≡ false
        awake true e = absurd (subst MayRest waits (run_rests shape p opening events opened e).rests)
        awake false e = refl

    sound : IsSound p (copy_replies shape p opening events) (last_begin shape p opening events) s Waits
    sound = subst (λ (x : Keeping). IsSound p (copy_replies shape p opening events) (last_begin shape p opening events) s x) waits (run_copied shape p opening events opened)
