-- What the steps lead to in which a commit is written and finished.
use Rattle.std.proofs.Common.{◌≡◌, ℕ, ◌*◌, ◌^◌, ◌≤◌, List, [], ◌∷◌, ◌++◌, length, Bool, true, false, refl, sym, ◌∙◌, ap, subst, arith}
use Rattle.std.specs.Prelude.{Option, Some, None, if◌then◌else◌}
use Rattle.std.proofs.lemmas.List.{length-append}
use Rattle.std.proofs.lemmas.List.Concat.{flat_map-cons}
use Rattle.fkv_base.specs.declared.shapes.Shape.{Shape}
use Rattle.fkv_record.specs.Places.{most_triples}
use Rattle.fkv_disk.specs.Calls.{Call}
use Rattle.fkv_plane.specs.declared.asks.Ask.{Ask}
use Rattle.fkv_plane.specs.declared.asks.Ask.TheVariants.{Done}
use Rattle.fkv_plane.specs.declared.places.Places.{Places}
use Rattle.fkv_checkpoint.specs.Triples.{CopiedEntry, copied_bytes, all_bytes}
use Rattle.fkv_checkpoint.specs.Copying.{Copier}
use Rattle.fkv_checkpoint.specs.Copied.{copied_after}
use Rattle.fkv_checkpoint.proofs.Shown.{copy_fits}
use Rattle.fkv_commit.specs.declared.commits.Commit.{Commit}
use Rattle.fkv_base.specs.declared.commits.CommitKind.{CommitKind}
use Rattle.fkv_base.specs.declared.commits.CommitKind.TheVariants.{Full, Log}
use Rattle.fkv_commit.specs.declared.finishing.FinishAnswer.{FinishAnswer}
use Rattle.fkv_commit.specs.declared.waiting.WaitAnswer.{WaitAnswer}
use Rattle.fkv_commit.specs.declared.waiting.WaitAnswer.TheVariants as wait
use Rattle.fkv_commit.specs.Finishing.{FinishState, finish_begun}
use Rattle.fkv_commit.specs.Waiting.{WaitState}
use Rattle.fkv_manifest.specs.declared.answers.WriteAnswer.{WriteAnswer}
use Rattle.fkv_manifest.specs.declared.answers.WriteAnswer.TheVariants as write
use Rattle.fkv_manifest.specs.Committing.{CommitWriter, commit_call, commit_next, commit_answer}
use Rattle.fkv_manifest.specs.Made.{commit_run, commit_made, with_call}
use Rattle.fkv_keeper.specs.declared.answers.KeeperTold.TheVariants.{Turned}
use Rattle.fkv_keeper.specs.declared.keepers.Keeping.{Keeping}
use Rattle.fkv_keeper.specs.declared.keepers.Keeping.TheVariants.{Ended, Waits, Writes, Finishes}
use Rattle.fkv_keeper.specs.declared.last_commits.Checkpoint.{Checkpoint}
use Rattle.fkv_keeper.specs.Keeping.{Finality, KeeperState, triples_copied, bytes_copied, checkpoint_used, triples_written, writes_of, writes_begun, wait_ledto, finished, finish_ledto, turned, must_rest, write_ledto, writes_called, lost_left}
use Rattle.fkv_keeper.specs.KeeperRun.{Writing}
use Rattle.law_world.specs.Standing.Standing.{Standing, is_at_writes, IsOneInForce, standing_after, is_writing_after}
use Rattle.law_world.proofs.OfStanding.Flushed.{IsCalm}
use Rattle.law_world.proofs.OfStanding.Moments.{CopyKnown, CommitKnown, IsWritingNow, IsWrittenNow, Along, Knows, IsSound, GoesTo, IsAt, IsAwake, along_awake, calm_rest, goes_plain}
use Rattle.law_world.proofs.OfStanding.Written.{IsNext, Lies, IsUnderWay, slot_names, writes_begin, under_way_stands, under_way_triples, finished_calm}

-- sixteen bytes for each triple
length-all : (entries : List CopiedEntry) → length (all_bytes entries) ≡ 16 * length entries
unfolding all_bytes copied_bytes
length-all [] = refl
length-all (e ∷ entries) =
    let rest = length-all entries in
    let both = length-append (copied_bytes e) (all_bytes entries) in
    ap (λ (s : List ℕ). length s) (flat_map-cons copied_bytes e entries) ∙ omega (arith, both, rest)

-- the calls of a step before those that came first
appended : (call : Option Call) (made before : List Call) → with_call call [] ++ (made ++ before) ≡ with_call call made ++ before
appended None made before = refl
appended (Some call) made before = refl

module _ (shape : Shape) (p : Places) (opened : List ℕ) (buckets : p.buckets ≡ 2 ^ shape.bucket_bits) (overflow : p.overflow ≡ shape.overflow) where
  -- the triples of a copy, which fit an area
  copied_length : (copy : Option Copier) → length (bytes_copied copy) ≡ 16 * triples_copied copy
  copied_length None = refl
  copied_length (Some m) = length-all m.triples

  copied_fits : (copy : Option Copier) → CopyKnown shape p opened copy → triples_copied copy ≤ most_triples shape
  copied_fits None known = omega arith
  copied_fits (Some m) known =
      let same : length m.triples ≡ length (copied_after p known.replies) = ap (λ (x : Copier). length x.triples) known.is in
      omega (arith, copy_fits p known.replies, same, buckets, overflow)

  in_hand_known : (last : Finality) (found : Option Commit) (c : Commit) → found ≡ Some c → CommitKnown shape p opened last found → IsNext last c
  in_hand_known last found c e known = subst (λ (x : Option Commit). CommitKnown shape p opened last x) e known

  lies_in : (s : KeeperState) (c : Commit) (kind : CommitKind) → CopyKnown shape p opened s.copy → Lies shape kind s.last.checkpoint (checkpoint_used c kind s.last s.copy) (triples_written kind s.copy)
  lies_in s c Full known = (refl, copied_length s.copy, copied_fits s.copy known)
  lies_in s c Log known = (refl, refl)

  -- the writes begin where the log is flushed
  begun_on : (s : KeeperState) (was : Bool) (its : Standing) (calls : List Call) (found : Option Commit) → IsAt shape p opened s was Waits → IsCalm shape opened s.last its calls → s.commit ≡ found
      → GoesTo shape p opened was its (record { first = (writes_begun shape s found).writes; answers = [] }) calls (writes_begun shape s found)
  unfolding commit_run commit_made
  begun_on s was its calls None now calm e =
      goes_plain shape p opened s _ was its (record { first = s.writes; answers = [] }) calls Waits (Ended (Turned false s.is_drain_full)) now calm tt refl now.works refl now.commit now.copy
  begun_on s was its calls (Some c) now calm e = record {
    commit = now.commit;
    copy = tt;
    along = along_awake shape p opened after true its begun calls now.works (refl, writing);
  }
    where
      after : KeeperState
      after = writes_begun shape s (Some c)

      used : Checkpoint
      used = checkpoint_used c c.kind s.last s.copy

      begun : Writing
      begun = record { first = writes_of shape s c used; answers = [] }

      next : IsNext s.last c
      next = in_hand_known s.last s.commit c e now.commit

      writing : IsWritingNow shape p opened after its begun calls
      writing = record {
        commit = c;
        in_hand = e;
        under_way = record {
          before = calls;
          has = calm.has;
          begins = writes_begin shape opened s.last its s c used calls refl calm next;
          made = refl;
          place = refl;
          named = (slot_names shape c used s.seek.points (lost_left c.kind s.lost) next.fits).names;
          area = refl;
          lies = lies_in s c c.kind now.copy;
        };
        run = refl;
      }

  pub wait_on : (s : KeeperState) (was : Bool) (its : Standing) (calls : List Call) (x : WaitState) (ask : Ask WaitAnswer) → IsAt shape p opened s was Waits → IsCalm shape opened s.last its calls
      → GoesTo shape p opened was its (record { first = (wait_ledto shape (record s { wait = x }) ask).writes; answers = [] }) calls (wait_ledto shape (record s { wait = x }) ask)
  unfolding wait_ledto
  wait_on s was its calls x (Done wait.Flushed) now calm =
      begun_on (record s { wait = x }) was its calls s.commit (record { at = now.at; works = now.works; unwritten = now.unwritten; commit = now.commit; copy = now.copy }) calm refl
  wait_on s was its calls x (Done wait.NotYet) now calm = goes_plain shape p opened s _ was its (record { first = s.writes; answers = [] }) calls Waits (Ended (Turned false s.is_drain_full)) now calm tt refl now.works refl now.commit now.copy
  wait_on s was its calls x (Done wait.Idle) now calm = goes_plain shape p opened s _ was its (record { first = s.writes; answers = [] }) calls Waits (Ended (Turned false s.is_drain_full)) now calm tt refl now.works refl now.commit now.copy
  wait_on s was its calls x ask now calm = goes_plain shape p opened s _ was its (record { first = s.writes; answers = [] }) calls Waits Waits now calm tt now.at now.works refl now.commit now.copy

  -- a call of the writes
  under_way_on : (last : Finality) (its : Standing) (c : Commit) (used : Checkpoint) (w : Writing) (calls : List Call) (v : CommitWriter) (done : Bool) → v ≡ commit_run w.first w.answers → IsUnderWay shape opened last its c used w calls
      → IsUnderWay shape opened last its c used (record w { answers = done ∷ w.answers }) (with_call (commit_call v done) [] ++ calls)
  unfolding commit_made
  under_way_on last its c used w calls v done run is = record {
    before = is.before;
    has = is.has;
    begins = is.begins;
    made =
        ap (λ (x : CommitWriter). with_call (commit_call x done) [] ++ calls) run
        ∙ ap (λ (m : List Call). with_call (commit_call (commit_run w.first w.answers) done) [] ++ m) is.made
        ∙ appended (commit_call (commit_run w.first w.answers) done) (commit_made w.first w.answers) is.before;
    place = is.place;
    named = is.named;
    area = is.area;
    lies = is.lies;
  }

  module _ (s : KeeperState) (was : Bool) (its : Standing) (w : Writing) (calls : List Call) (copy : CopyKnown shape p opened s.copy) (commit : CommitKnown shape p opened s.last s.commit) (works : IsAwake shape p opened s) where
    written_still : IsWritingNow shape p opened s its w calls → s.step ≡ Writes → GoesTo shape p opened was its w calls s
    written_still known e = record {
      commit = commit;
      copy = copy;
      along = along_awake shape p opened s (is_writing_after s.step was) its w calls works (subst (λ (k : Keeping). (is_writing_after k was ≡ is_at_writes k) × Knows shape p opened s its w calls k) (sym e) (refl, known));
    }

    written_on : (known : IsWritingNow shape p opened s its w calls) (found : Option Commit) (answer : WriteAnswer) → s.step ≡ Writes → was ≡ true → s.commit ≡ found → commit_answer s.writes ≡ answer → GoesTo shape p opened was its w calls (write_ledto s found answer)
    unfolding write_ledto
    written_on known None answer e writes in_hand its_answer = let clash : None ≡ Some known.commit = sym in_hand ∙ known.in_hand in absurd (cc)
    written_on known (Some c) write.Written e writes in_hand its_answer = record {
      commit = commit;
      copy = copy;
      along = along_awake shape p opened (record s { finish = finish_begun s.finish c.number; step = Finishes }) true its w calls works (refl, written);
    }
      where
        written : IsWrittenNow shape p opened (record s { finish = finish_begun s.finish c.number; step = Finishes }) its w calls
        written = record { commit = known.commit; in_hand = known.in_hand; under_way = known.under_way; answered = ap commit_answer (sym known.run) ∙ its_answer }
    written_on known (Some c) write.Device e writes in_hand its_answer = by (must_rest s)
      where
        rested_now : KeeperState
        rested_now = turned (record s { rests = true })

        resting : IsWritingNow shape p opened rested_now its w calls
        resting = record { commit = known.commit; in_hand = known.in_hand; under_way = known.under_way; run = known.run }

        by : (rests : Bool) → GoesTo shape p opened was its w calls (if rests then rested_now else s)
        by true = record { commit = commit; copy = copy; along = subst (λ (b : Bool). Along shape p opened rested_now was its w calls b) (sym works.0) (writes, resting) }
        by false = written_still known e
    written_on known (Some c) (write.Broken why) e writes in_hand its_answer = written_still known e

  module _ (s : KeeperState) (was : Bool) (its : Standing) (w : Writing) (calls : List Call) (copy : CopyKnown shape p opened s.copy) (commit : CommitKnown shape p opened s.last s.commit) (works : IsAwake shape p opened s) where
    abbrev called : Bool → Writing
    called done = record w { answers = done ∷ w.answers }

    pub write_on : (done : Bool) → s.step ≡ Writes → was ≡ true → IsWritingNow shape p opened s its w calls → GoesTo shape p opened was its (called done) (with_call (commit_call s.writes done) [] ++ calls) (writes_called s done)
    unfolding commit_run
    write_on true e writes known = written_on t was its (called true) after copy commit works now s.commit (commit_answer t.writes) e writes refl refl
      where
        t : KeeperState
        t = record s { writes = commit_next s.writes true }

        after : List Call
        after = with_call (commit_call s.writes true) [] ++ calls

        now : IsWritingNow shape p opened t its (called true) after
        now = record {
          commit = known.commit;
          in_hand = known.in_hand;
          under_way = under_way_on s.last its known.commit s.used w calls s.writes true known.run known.under_way;
          run = ap (λ (x : CommitWriter). commit_next x true) known.run;
        }
    write_on false e writes known = record {
      commit = commit;
      copy = copy;
      along = record {
        refused = tt;
        stands = λ image left. subst (λ (b : Bool). IsOneInForce b s.last its w.first image) (sym writes) (under_way_stands shape opened s.last its known.commit s.used (called false) after now image left);
        triples = λ image left. under_way_triples shape opened s.last its known.commit s.used (called false) after now image left;
        named = known.under_way.has.named;
      };
    }
      where
        after : List Call
        after = with_call (commit_call s.writes false) [] ++ calls

        now : IsUnderWay shape opened s.last its known.commit s.used (called false) after
        now = under_way_on s.last its known.commit s.used w calls s.writes false known.run known.under_way

    -- the commit is finished
    finished_on : (x : FinishState) (found : Option Commit) → s.commit ≡ found → s.step ≡ Finishes → IsWrittenNow shape p opened s its w calls
        → IsSound shape p opened (finished (record s { finish = x }) found) (is_writing_after (finished (record s { finish = x }) found).step was) (standing_after Finishes (finished (record s { finish = x }) found).step found w.first its) w calls
    finished_on x None in_hand e known = let clash : None ≡ Some known.commit = sym in_hand ∙ known.in_hand in absurd (cc)
    finished_on x (Some c) in_hand e known = record {
      commit = tt;
      copy = copy;
      along = along_awake shape p opened (finished (record s { finish = x }) (Some c)) false (standing_after Finishes (Ended (Turned true s.is_drain_full)) (Some c) w.first its) w calls works (refl, calm_rest shape p opened (finished (record s { finish = x }) (Some c)).last (standing_after Finishes (Ended (Turned true s.is_drain_full)) (Some c) w.first its) calls s.maintain.flushing calm);
    }
      where
        same : known.commit ≡ c
        same = some_same (sym known.in_hand ∙ in_hand)
          where
            some_same : {a b : Commit} → Some a ≡ Some b → a ≡ b
            some_same e = cc

        under_way : IsUnderWay shape opened s.last its c s.used w calls
        under_way = subst (λ (d : Commit). IsUnderWay shape opened s.last its d s.used w calls) same known.under_way

        calm : IsCalm shape opened (finished (record s { finish = x }) (Some c)).last (standing_after Finishes (Ended (Turned true s.is_drain_full)) (Some c) w.first its) calls
        calm = finished_calm shape opened s.last its c s.used w calls under_way known.answered s.seek.points

    pub finish_on : (x : FinishState) (ask : Ask FinishAnswer) → s.step ≡ Finishes → was ≡ true → IsWrittenNow shape p opened s its w calls
        → IsSound shape p opened (finish_ledto (record s { finish = x }) ask) (is_writing_after (finish_ledto (record s { finish = x }) ask).step was) (standing_after Finishes (finish_ledto (record s { finish = x }) ask).step s.commit w.first its) w calls
    unfolding finish_ledto
    finish_on x (Done end) e writes known = finished_on x s.commit refl e known
    finish_on x ask e writes known = record {
      commit = commit;
      copy = copy;
      along = along_awake shape p opened (record s { finish = x }) (is_writing_after s.step was) (standing_after Finishes s.step s.commit w.first its) w calls works
          (subst (λ (k : Keeping). (is_writing_after k was ≡ is_at_writes k) × Knows shape p opened (record s { finish = x }) (standing_after Finishes k s.commit w.first its) w calls k) (sym e) (refl, now));
    }
      where
        now : IsWrittenNow shape p opened (record s { finish = x }) its w calls
        now = record { commit = known.commit; in_hand = known.in_hand; under_way = known.under_way; answered = known.answered }
