-- What is known of a store at each moment of a run, by how far the keeper's call has come.
use Rattle.std.proofs.Common.{◌≡◌, ℕ, List, Bool, true, false, refl, sym, subst}
use Rattle.std.specs.Prelude.{⊤, Option, Some, None, if◌then◌else◌}
use Rattle.fkv_base.specs.declared.shapes.Shape.{Shape}
use Rattle.fkv_record.specs.Places.{number_at}
use Rattle.fkv_disk.specs.Calls.{Call, MayLeave}
use Rattle.fkv_plane.specs.declared.places.Places.{Places}
use Rattle.fkv_checkpoint.specs.Copying.{Copier}
use Rattle.fkv_checkpoint.specs.Copied.{copying_after, copied_after}
use Rattle.fkv_commit.specs.declared.commits.Commit.{Commit}
use Rattle.fkv_flush.specs.declared.flushing.Flushing.{Flushing}
use Rattle.fkv_flush.specs.declared.flushing.Flushing.TheVariants as flush
use Rattle.fkv_maintain.specs.declared.maintaining.Maintaining.{Maintaining}
use Rattle.fkv_maintain.specs.declared.maintaining.Maintaining.TheVariants as part
use Rattle.fkv_manifest.specs.declared.answers.WriteAnswer.TheVariants as answer
use Rattle.fkv_manifest.specs.Committing.{commit_answer}
use Rattle.fkv_manifest.specs.Made.{commit_run}
use Rattle.fkv_keeper.specs.declared.answers.KeeperTold.{KeeperTold}
use Rattle.fkv_keeper.specs.declared.answers.KeeperTold.TheVariants.{Turned}
use Rattle.fkv_keeper.specs.declared.keepers.Keeping.{Keeping}
use Rattle.fkv_keeper.specs.declared.keepers.Keeping.TheVariants.{Ended, Starts, Maintains, LoadsPhase, Writes, Finishes}
use Rattle.fkv_maintain.specs.Maintaining.{MaintainState, is_sync_due, flush_begun}
use Rattle.fkv_keeper.specs.Keeping.{Finality, KeeperState, come_to, parts_begun}
use Rattle.fkv_keeper.specs.KeeperLaws.{IsRefusal}
use Rattle.fkv_keeper.specs.KeeperRun.{Writing}
use Rattle.law_world.specs.Standing.Standing.{Standing, is_at_writes, IsOneInForce, TriplesStand, is_writing_after}
use Rattle.law_world.proofs.OfStanding.Fronts.{Has}
use Rattle.law_world.proofs.OfStanding.Flushed.{IsCalm, IsFlushing, calm_flushes, calm_left, flushing_left}
use Rattle.law_world.proofs.OfStanding.Written.{IsNext, IsUnderWay}

-- a refused call is at its end
abbrev pub IsRefused : Keeping → Type 0
IsRefused (Ended told) = IsRefusal told
IsRefused step = ⊥

-- neither a commit is written, nor the log flushed
abbrev pub IsPlain : Keeping → Type 0
IsPlain Maintains = ⊥
IsPlain Writes = ⊥
IsPlain Finishes = ⊥
IsPlain step = ⊤

module _ (shape : Shape) (p : Places) (opened : List ℕ) where
  -- a copy is one of this index
  pub record IsCopyOf (m : Copier) : Type 0 where
    pub replies : List ℕ
    pub is : m ≡ record { places = p; copying = copying_after p replies; triples = copied_after p replies }

  abbrev pub CopyKnown : Option Copier → Type 0
  CopyKnown None = ⊤
  CopyKnown (Some m) = IsCopyOf m

  abbrev pub CommitKnown : Finality → Option Commit → Type 0
  CommitKnown last None = ⊤
  CommitKnown last (Some c) = IsNext last c

  -- between a write of the log and its sync the flush is under way
  abbrev pub FlushKnows : Finality → Standing → List Call → Flushing → Type 0
  FlushKnows last its calls (flush.LoadsWord its_part addr word) = IsFlushing shape opened last its calls
  FlushKnows last its calls (flush.WritesPart its_part) = IsFlushing shape opened last its calls
  FlushKnows last its calls (flush.Syncs end) = IsFlushing shape opened last its calls
  FlushKnows last its calls step = IsCalm shape opened last its calls

  -- elsewhere it may rest, before its sync
  abbrev pub RestKnows : Finality → Standing → List Call → Flushing → Type 0
  RestKnows last its calls (flush.Syncs end) = IsFlushing shape opened last its calls
  RestKnows last its calls step = IsCalm shape opened last its calls

  abbrev pub MaintainKnows : Finality → Standing → List Call → Maintaining → Flushing → Type 0
  MaintainKnows last its calls part.Flushes flushing = FlushKnows last its calls flushing
  MaintainKnows last its calls step flushing = RestKnows last its calls flushing

  -- a commit is written, and all of it is written
  pub record IsWritingNow (s : KeeperState) (its : Standing) (w : Writing) (calls : List Call) : Type 0 where
    pub commit : Commit
    pub in_hand : s.commit ≡ Some commit
    pub under_way : IsUnderWay shape opened s.last its commit s.used w calls
    pub run : s.writes ≡ commit_run w.first w.answers

  pub record IsWrittenNow (s : KeeperState) (its : Standing) (w : Writing) (calls : List Call) : Type 0 where
    pub commit : Commit
    pub in_hand : s.commit ≡ Some commit
    pub under_way : IsUnderWay shape opened s.last its commit s.used w calls
    pub answered : commit_answer (commit_run w.first w.answers) ≡ answer.Written

  -- in a commit's parts no flush rests
  abbrev pub Knows : KeeperState → Standing → Writing → List Call → Keeping → Type 0
  Knows s its w calls (Ended told) = RestKnows s.last its calls s.maintain.flushing
  Knows s its w calls Starts = RestKnows s.last its calls s.maintain.flushing
  Knows s its w calls Maintains = MaintainKnows s.last its calls s.maintain.step s.maintain.flushing
  Knows s its w calls LoadsPhase = RestKnows s.last its calls s.maintain.flushing
  Knows s its w calls Writes = IsWritingNow s its w calls
  Knows s its w calls Finishes = IsWrittenNow s its w calls
  Knows s its w calls step = IsCalm shape opened s.last its calls

  -- once a call has failed none comes any more, and one commit stands
  pub record IsBrokenNow (s : KeeperState) (is_written : Bool) (its : Standing) (w : Writing) (calls : List Call) : Type 0 where
    pub refused : IsRefused s.step
    pub stands : (image : List ℕ) → MayLeave opened calls image → IsOneInForce is_written s.last its w.first image
    pub triples : (image : List ℕ) → MayLeave opened calls image → TriplesStand shape s.last.checkpoint its image
    pub named : number_at its.slot 8 ≡ s.last.number.0

  abbrev pub Along : KeeperState → Bool → Standing → Writing → List Call → Bool → Type 0
  Along s is_written its w calls true = IsBrokenNow s is_written its w calls
  Along s is_written its w calls false = (is_written ≡ is_at_writes (come_to s)) × Knows s its w calls (come_to s)

  pub record IsSound (s : KeeperState) (is_written : Bool) (its : Standing) (w : Writing) (calls : List Call) : Type 0 where
    pub commit : CommitKnown s.last s.commit
    pub copy : CopyKnown s.copy
    pub along : Along s is_written its w calls s.is_broken

  -- what an event leads to
  abbrev pub GoesTo : Bool → Standing → Writing → List Call → KeeperState → Type 0
  GoesTo was its w calls after = IsSound after (is_writing_after after.step was) its w calls

  -- the device works, and no writes rest
  abbrev pub IsAwake : KeeperState → Type 0
  IsAwake s = (s.is_broken ≡ false) × (s.rests ≡ false)

  -- there a keeper has come to its step
  pub along_awake : (s : KeeperState) (is_written : Bool) (its : Standing) (w : Writing) (calls : List Call) → IsAwake s → (is_written ≡ is_at_writes s.step) × Knows s its w calls s.step → Along s is_written its w calls s.is_broken
  along_awake s is_written its w calls awake knows =
      subst (λ (b : Bool). Along s is_written its w calls b) (sym awake.0)
      (subst (λ (rests : Bool). (is_written ≡ is_at_writes (if rests then Writes else s.step)) × Knows s its w calls (if rests then Writes else s.step)) (sym awake.1) knows)

  -- at a step while no commit is written, and the device works
  pub record IsAt (s : KeeperState) (is_written : Bool) (step : Keeping) : Type 0 where
    pub at : s.step ≡ step
    pub works : IsAwake s
    pub unwritten : is_written ≡ false
    pub commit : CommitKnown s.last s.commit
    pub copy : CopyKnown s.copy

  -- where all is calm each part of a turn may begin
  pub calm_flush : (last : Finality) (its : Standing) (calls : List Call) (step : Flushing) → IsCalm shape opened last its calls → FlushKnows last its calls step
  calm_flush last its calls (flush.LoadsWord its_part addr word) calm = calm_flushes shape opened last its calls calm
  calm_flush last its calls (flush.WritesPart its_part) calm = calm_flushes shape opened last its calls calm
  calm_flush last its calls (flush.Syncs end) calm = calm_flushes shape opened last its calls calm
  calm_flush last its calls step calm = calm

  pub calm_rest : (last : Finality) (its : Standing) (calls : List Call) (step : Flushing) → IsCalm shape opened last its calls → RestKnows last its calls step
  calm_rest last its calls (flush.Syncs end) calm = calm_flushes shape opened last its calls calm
  calm_rest last its calls step calm = calm

  pub calm_knows : (last : Finality) (its : Standing) (calls : List Call) (step : Maintaining) (flushing : Flushing) → IsCalm shape opened last its calls → MaintainKnows last its calls step flushing
  calm_knows last its calls part.Flushes flushing calm = calm_flush last its calls flushing calm
  calm_knows last its calls step flushing calm = calm_rest last its calls flushing calm

  -- where no sync is due, none rests
  pub awake_calm : (last : Finality) (its : Standing) (calls : List Call) (step : Flushing) → is_sync_due step ≡ false → RestKnows last its calls step → IsCalm shape opened last its calls
  awake_calm last its calls (flush.Syncs end) awake knows = let clash : true ≡ false = awake in absurd (cc)
  awake_calm last its calls step awake knows = knows

  -- and where one is, a flush under way rests as it is
  pub due_rests : (last : Finality) (its : Standing) (calls : List Call) (step : Flushing) → is_sync_due step ≡ true → FlushKnows last its calls step → RestKnows last its calls step
  due_rests last its calls (flush.Syncs end) due knows = knows
  due_rests last its calls step due knows = let clash : false ≡ true = due in absurd (cc)

  -- one that rests is taken up, or one begins
  pub begun_flushes : (last : Finality) (its : Standing) (calls : List Call) (step : Flushing) → RestKnows last its calls step → FlushKnows last its calls (flush_begun step)
  begun_flushes last its calls (flush.Syncs end) knows = knows
  begun_flushes last its calls step knows = knows

  -- a turn begins
  pub begun_knows : (last : Finality) (its : Standing) (calls : List Call) (alone : Bool) (m : MaintainState) → RestKnows last its calls m.flushing → MaintainKnows last its calls (parts_begun alone m).step (parts_begun alone m).flushing
  begun_knows last its calls true m knows = knows
  begun_knows last its calls false m knows = knows

  -- what a crash leaves in a turn
  pub flush_left : (last : Finality) (its : Standing) (calls : List Call) (step : Flushing) (image : List ℕ) → FlushKnows last its calls step → MayLeave opened calls image → Has shape last its image
  flush_left last its calls (flush.LoadsWord its_part addr word) image is left = flushing_left shape opened last its calls image is left
  flush_left last its calls (flush.WritesPart its_part) image is left = flushing_left shape opened last its calls image is left
  flush_left last its calls (flush.Syncs end) image is left = flushing_left shape opened last its calls image is left
  flush_left last its calls step image is left = calm_left shape opened last its calls image is left

  pub rest_left : (last : Finality) (its : Standing) (calls : List Call) (step : Flushing) (image : List ℕ) → RestKnows last its calls step → MayLeave opened calls image → Has shape last its image
  rest_left last its calls (flush.Syncs end) image is left = flushing_left shape opened last its calls image is left
  rest_left last its calls step image is left = calm_left shape opened last its calls image is left

  pub maintain_left : (last : Finality) (its : Standing) (calls : List Call) (step : Maintaining) (flushing : Flushing) (image : List ℕ) → MaintainKnows last its calls step flushing → MayLeave opened calls image → Has shape last its image
  maintain_left last its calls part.Flushes flushing image is left = flush_left last its calls flushing image is left
  maintain_left last its calls step flushing image is left = rest_left last its calls flushing image is left

  -- the slot that stands names the newest finished commit
  flush_named : (last : Finality) (its : Standing) (calls : List Call) (step : Flushing) → FlushKnows last its calls step → number_at its.slot 8 ≡ last.number.0
  flush_named last its calls (flush.LoadsWord its_part addr word) is = is.has.named
  flush_named last its calls (flush.WritesPart its_part) is = is.has.named
  flush_named last its calls (flush.Syncs end) is = is.has.named
  flush_named last its calls step is = is.has.named

  pub rest_named : (last : Finality) (its : Standing) (calls : List Call) (step : Flushing) → RestKnows last its calls step → number_at its.slot 8 ≡ last.number.0
  rest_named last its calls (flush.Syncs end) is = is.has.named
  rest_named last its calls step is = is.has.named

  pub maintain_named : (last : Finality) (its : Standing) (calls : List Call) (step : Maintaining) (flushing : Flushing) → MaintainKnows last its calls step flushing → number_at its.slot 8 ≡ last.number.0
  maintain_named last its calls part.Flushes flushing is = flush_named last its calls flushing is
  maintain_named last its calls step flushing is = rest_named last its calls flushing is

  pub plain_knows : (s : KeeperState) (its : Standing) (w : Writing) (calls : List Call) (step : Keeping) → IsPlain step → IsCalm shape opened s.last its calls → Knows s its w calls step
  plain_knows s its w calls Maintains plain calm = absurd plain
  plain_knows s its w calls Writes plain calm = absurd plain
  plain_knows s its w calls Finishes plain calm = absurd plain
  plain_knows s its w calls (Ended told) plain calm = calm_rest s.last its calls s.maintain.flushing calm
  plain_knows s its w calls Starts plain calm = calm_rest s.last its calls s.maintain.flushing calm
  plain_knows s its w calls LoadsPhase plain calm = calm_rest s.last its calls s.maintain.flushing calm
  plain_knows s its w calls step plain calm = calm

  -- between two parts of a commit a flush may rest
  abbrev pub IsBetween : Keeping → Type 0
  IsBetween (Ended told) = ⊤
  IsBetween Starts = ⊤
  IsBetween LoadsPhase = ⊤
  IsBetween step = ⊥

  between_plain : (step : Keeping) → IsBetween step → IsPlain step
  between_plain (Ended told) between = tt
  between_plain Starts between = tt
  between_plain LoadsPhase between = tt
  between_plain step between = absurd between

  between_knows : (s : KeeperState) (its : Standing) (w : Writing) (calls : List Call) (step : Keeping) → IsBetween step → RestKnows s.last its calls s.maintain.flushing → Knows s its w calls step
  between_knows s its w calls (Ended told) between knows = knows
  between_knows s its w calls Starts between knows = knows
  between_knows s its w calls LoadsPhase between knows = knows
  between_knows s its w calls step between knows = absurd between

  pub plain_unwritten : (step : Keeping) (was : Bool) → IsPlain step → was ≡ false → is_writing_after step was ≡ is_at_writes step
  plain_unwritten Maintains was plain e = absurd plain
  plain_unwritten Writes was plain e = absurd plain
  plain_unwritten Finishes was plain e = absurd plain
  plain_unwritten (Ended (Turned true full)) was plain e = refl
  plain_unwritten (Ended told) was plain e = e
  plain_unwritten step was plain e = e

  -- what leads to a plain step, where the device works
  pub goes_plain : (s after : KeeperState) (was : Bool) (its : Standing) (w : Writing) (calls : List Call) (step to : Keeping) → IsAt s was step → IsCalm shape opened s.last its calls → IsPlain to → after.step ≡ to → IsAwake after → after.last ≡ s.last
      → CommitKnown s.last after.commit → CopyKnown after.copy → GoesTo was its w calls after
  goes_plain s after was its w calls step to now calm plain e works same commit copy = record {
    commit = subst (λ (f : Finality). CommitKnown f after.commit) (sym same) commit;
    copy = copy;
    along =
        along_awake after (is_writing_after after.step was) its w calls works
        (subst (λ (k : Keeping). (is_writing_after k was ≡ is_at_writes k) × Knows after its w calls k) (sym e)
        (plain_unwritten to was plain now.unwritten, plain_knows after its w calls to plain (subst (λ (f : Finality). IsCalm shape opened f its calls) (sym same) calm)));
  }

  -- what leads to such a step with a flush at rest
  pub goes_between : (s after : KeeperState) (was : Bool) (its : Standing) (w : Writing) (calls : List Call) (step to : Keeping) → IsAt s was step → RestKnows s.last its calls after.maintain.flushing → IsBetween to → after.step ≡ to → IsAwake after → after.last ≡ s.last
      → CommitKnown s.last after.commit → CopyKnown after.copy → GoesTo was its w calls after
  goes_between s after was its w calls step to now knows between e works same commit copy = record {
    commit = subst (λ (f : Finality). CommitKnown f after.commit) (sym same) commit;
    copy = copy;
    along =
        along_awake after (is_writing_after after.step was) its w calls works
        (subst (λ (k : Keeping). (is_writing_after k was ≡ is_at_writes k) × Knows after its w calls k) (sym e)
        (plain_unwritten to was (between_plain to between) now.unwritten, between_knows after its w calls to between (subst (λ (f : Finality). RestKnows f its calls after.maintain.flushing) (sym same) knows)));
  }

  -- and to a turn's parts
  pub goes_maintains : (s after : KeeperState) (was : Bool) (its : Standing) (w : Writing) (calls : List Call) → was ≡ false → after.step ≡ Maintains → IsAwake after → CommitKnown after.last after.commit → CopyKnown after.copy
      → MaintainKnows after.last its calls after.maintain.step after.maintain.flushing → GoesTo was its w calls after
  goes_maintains s after was its w calls unwritten e works commit copy knows = record {
    commit = commit;
    copy = copy;
    along =
        along_awake after (is_writing_after after.step was) its w calls works
        (subst (λ (k : Keeping). (is_writing_after k was ≡ is_at_writes k) × Knows after its w calls k) (sym e) (unwritten, knows));
  }

  -- a failure of a call that isn't one of a commit's writes
  pub goes_broken : (after : KeeperState) (was : Bool) (its : Standing) (w : Writing) (calls : List Call) (told : KeeperTold) → was ≡ false → after.step ≡ Ended told → IsRefusal told → after.is_broken ≡ true → CommitKnown after.last after.commit → CopyKnown after.copy
      → number_at its.slot 8 ≡ after.last.number.0 → ((image : List ℕ) → MayLeave opened calls image → Has shape after.last its image) → IsSound after was its w calls
  goes_broken after was its w calls told unwritten e refusal broken commit copy named left = record {
    commit = commit;
    copy = copy;
    along = subst (λ (b : Bool). Along after was its w calls b) (sym broken) (record {
      refused = subst (λ (k : Keeping). IsRefused k) (sym e) refusal;
      stands = λ image may. subst (λ (b : Bool). IsOneInForce b after.last its w.first image) (sym unwritten) (left image may).stands;
      triples = λ image may. record { same = (left image may).triples; fit = (left image may).fit; long = (left image may).long };
      named = named;
    });
  }
