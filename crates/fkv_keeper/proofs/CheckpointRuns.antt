-- The copy in hand is the one that the replies told, and a commit's writes begin from it.
use Rattle.std.proofs.Common.{◌≡◌, ℕ, ◌∙◌, List, [], ◌∷◌, refl, ap, sym, subst, Bool, true, false}
use Rattle.std.specs.Prelude.{◌&&◌, not, ◌||◌, Option, Some, None, if◌then◌else◌, ⊤}
use Rattle.fkv_base.specs.declared.faults.Fault.TheVariants as fault
use Rattle.fkv_base.specs.declared.numbers.Addr.{Addr}
use Rattle.fkv_base.specs.declared.phases.Phase.TheVariants as phase
use Rattle.fkv_base.specs.declared.shapes.Shape.{Shape}
use Rattle.fkv_words.specs.declared.phase_words.PhaseSaid.{PhaseSaid}
use Rattle.fkv_words.specs.declared.phase_words.PhaseSaid.TheVariants.{Says}
use Rattle.fkv_words.specs.PhaseWords.{phase_said}
use Rattle.fkv_plane.specs.declared.actions.Action.{Action}
use Rattle.fkv_plane.specs.declared.asks.Ask.{Ask}
use Rattle.fkv_plane.specs.declared.asks.Ask.TheVariants.{Done}
use Rattle.fkv_plane.specs.declared.places.Places.{Places}
use Rattle.fkv_checkpoint.specs.Copied.{copying_after, copied_after}
use Rattle.fkv_checkpoint.specs.Copying.{Copier, copy_begun}
use Rattle.fkv_commit.specs.declared.commits.Commit.{Commit}
use Rattle.fkv_base.specs.declared.commits.CommitKind.{CommitKind}
use Rattle.fkv_base.specs.declared.commits.CommitKind.TheVariants.{Full, Log}
use Rattle.fkv_commit.specs.declared.entering.EnterAnswer.{EnterAnswer}
use Rattle.fkv_commit.specs.declared.entering.EnterAnswer.TheVariants as enter
use Rattle.fkv_commit.specs.declared.finishing.FinishAnswer.{FinishAnswer}
use Rattle.fkv_commit.specs.declared.seeking.SeekAnswer.{SeekAnswer}
use Rattle.fkv_commit.specs.declared.seeking.SeekAnswer.TheVariants as seek
use Rattle.fkv_commit.specs.declared.starting.StartAsked.{StartAsked}
use Rattle.fkv_commit.specs.declared.starting.StartAnswer.{StartAnswer}
use Rattle.fkv_commit.specs.declared.starting.StartAnswer.TheVariants as start
use Rattle.fkv_commit.specs.declared.waiting.WaitAnswer.{WaitAnswer}
use Rattle.fkv_commit.specs.declared.waiting.WaitAnswer.TheVariants as wait
use Rattle.fkv_commit.specs.Commits.{is_log, commit_begun}
use Rattle.fkv_commit.specs.Entering.{enter_ask, enter_next}
use Rattle.fkv_commit.specs.Finishing.{finish_ask, finish_next}
use Rattle.fkv_commit.specs.Seeking.{seek_begun, seek_ask, seek_next}
use Rattle.fkv_commit.proofs.Shown.{start_asked}
use Rattle.fkv_commit.specs.Starting.{start_begun, start_ask, start_next}
use Rattle.fkv_commit.specs.Waiting.{wait_ask, wait_next}
use Rattle.fkv_manifest.specs.declared.answers.WriteAnswer.{WriteAnswer}
use Rattle.fkv_manifest.specs.declared.answers.WriteAnswer.TheVariants as write
use Rattle.fkv_manifest.specs.Committing.{commit_next, commit_answer}
use Rattle.fkv_maintain.specs.declared.maintaining.MaintainAnswer.{MaintainAnswer}
use Rattle.fkv_maintain.specs.declared.maintaining.MaintainAnswer.TheVariants as maintain
use Rattle.fkv_maintain.specs.Maintaining.{is_flush_resting, maintain_ask, maintain_next, maintain_given, maintain_called}
use Rattle.fkv_keeper.specs.declared.answers.KeeperTold.{KeeperTold}
use Rattle.fkv_keeper.specs.declared.answers.KeeperTold.TheVariants.{TurnRefused, CommitRefused}
use Rattle.fkv_keeper.specs.declared.keepers.Keeping.{Keeping}
use Rattle.fkv_keeper.specs.declared.keepers.Keeping.TheVariants.{Ended, Starts, Maintains, LoadsPhase, Enters, Copies, Seeks, Waits, Writes, Finishes, Sweeps}
use Rattle.fkv_keeper.specs.Keeping.{asked_for, KeeperState, is_copy_resting, copy_asked, copy_told, copy_driven, copied, points_known, ended, turned, turn_asked, commit_asked, start_ledto, maintain_ledto, copies, part_begun, parts_begun, must_rest, writes_taken_up, phase_ledto, enter_ledto, copy_ledto, seek_ledto, writes_begun, wait_ledto, finished, finish_ledto, keeping_next, keeping_given, write_ledto, writes_called, keeping_called, unless_flush_rests, serves_alone, sweeps_next, sweep_ledto, sweep_called, begin_next}
use Rattle.fkv_keeper.specs.KeeperRun.{KeeperEvent, BeginsTurn, BeginsCommit, Replies, Gets, Calls, is_in_hand, begins, keeper_run, IsOpened}
use Rattle.fkv_keeper.specs.CheckpointLaws.{replies_after, copy_replies, LastBegin, begun_of, begun_by, last_begin_after, last_begin, copy_by, HasCopied, IsBeforeWrites}
use Rattle.fkv_keeper.proofs.Happens.{happens_at, happens_so}
use Rattle.fkv_sweep.specs.Sweeping.{is_sweeping, sweep_ask, sweep_next, sweep_read}
use Rattle.fkv_sweep.specs.declared.sweeping.SweepAnswer.{SweepAnswer}
use Rattle.fkv_sweep.specs.declared.sweeping.SweepAnswer.TheVariants as sweep

-- what is known by how far the call has come
abbrev pub Here : Places → List ℕ → LastBegin → KeeperState → Keeping → Type 0
Here p replies told s Copies = (s.copy ≡ Some (copy_by p replies)) × ((c : Commit) → s.commit ≡ Some c → c.is_copied ≡ false)
Here p replies told s Seeks = (c : Commit) → s.commit ≡ Some c → c.is_copied ≡ true
Here p replies told s Waits = (c : Commit) → s.commit ≡ Some c → c.is_copied ≡ true
Here p replies told s Starts = told.asked ≡ Some s.start.asked.kind
Here p replies told s step = ⊤

-- the device works, and no writes rest
abbrev pub IsAtWork : KeeperState → Type 0
IsAtWork s = (s.is_broken ≡ false) × (s.rests ≡ false)

-- what holds at every moment
pub record IsSound (p : Places) (replies : List ℕ) (told : LastBegin) (s : KeeperState) (step : Keeping) : Type 0 where
  pub copied : (c : Commit) → s.commit ≡ Some c → c.kind ≡ Full → c.is_copied ≡ true → IsAtWork s → IsBeforeWrites step → HasCopied p replies s.copy
  pub points : (c : Commit) → s.commit ≡ Some c → s.has_points ≡ true → c.is_copied ≡ true
  pub begun : (c : Commit) → s.commit ≡ Some c → told.begun ≡ Some (record { kind = c.kind; number = c.number; first = c.first })
  pub rests : (c : Commit) → s.commit ≡ Some c → is_copy_resting s.copy ≡ true → s.copy ≡ Some (copy_by p replies)
  pub here : Here p replies told s step

at_step : (p : Places) (replies : List ℕ) (told : LastBegin) (s : KeeperState) (step : Keeping) → s.step ≡ step → IsSound p replies told s step → IsSound p replies told s s.step
at_step p replies told s step e sound = subst (λ (x : Keeping). IsSound p replies told s x) (sym e) sound

-- a state with the same commit and the same copy
keeps : (p : Places) (replies : List ℕ) (told : LastBegin) (s a : KeeperState) (step next : Keeping) → a.commit ≡ s.commit → a.copy ≡ s.copy → a.has_points ≡ s.has_points → (IsAtWork a → IsAtWork s)
    → (IsBeforeWrites next → IsBeforeWrites step) → IsSound p replies told s step → Here p replies told a next → IsSound p replies told a next
keeps p replies told s a step next same copy points works before sound here = record {
  copied = λ c in_hand full is_copied working early. subst (λ (x : Option Copier). HasCopied p replies x) (sym copy) (sound.copied c (sym same ∙ in_hand) full is_copied (works working) (before early));
  points = λ c in_hand taken. sound.points c (sym same ∙ in_hand) (sym points ∙ taken);
  begun = λ c in_hand. sound.begun c (sym same ∙ in_hand);
  rests = λ c in_hand so. copy ∙ sound.rests c (sym same ∙ in_hand) (ap is_copy_resting (sym copy) ∙ so);
  here = here;
}

no_some : {A : Type 0} (c : A) → None ≡ Some c → ⊥
no_some c e = cc

some_same : (its c : Commit) → Some its ≡ Some c → its ≡ c
some_same its c both = cc

-- one without a commit
gone : (p : Places) (replies : List ℕ) (told : LastBegin) (a : KeeperState) (its : KeeperTold) → a.commit ≡ None → IsSound p replies told a (Ended its)
gone p replies told a its none = record {
  copied = λ c in_hand full is_copied working early. absurd (no_some c (sym none ∙ in_hand));
  points = λ c in_hand taken. absurd (no_some c (sym none ∙ in_hand));
  begun = λ c in_hand. absurd (no_some c (sym none ∙ in_hand));
  rests = λ c in_hand so. absurd (no_some c (sym none ∙ in_hand));
  here = tt;
}

-- a call that ends before the writes
over : (p : Places) (replies : List ℕ) (told : LastBegin) (t : KeeperState) (step : Keeping) (its : KeeperTold) → IsBeforeWrites step → IsSound p replies told t step → IsSound p replies told (ended t its) (Ended its)
over p replies told t step its early sound = keeps p replies told t (ended t its) step (Ended its) refl refl refl (λ works. works) (λ so. early) sound tt

not_log : (kind : CommitKind) → kind ≡ Full → is_log kind ≡ true → ⊥
not_log Full e log = cc
not_log Log e log = cc

-- by what the machines inside come to
start_sound : (p : Places) (replies : List ℕ) (told : LastBegin) (t : KeeperState) (ask : Ask StartAnswer) → t.step ≡ Starts → IsSound p replies told t Starts → IsSound p replies (begun_by ask told) (start_ledto t ask) (start_ledto t ask).step
unfolding start_ledto
start_sound p replies told t (Done (start.Begun number first)) e sound = record {
  copied = λ c in_hand full is_copied working early.
      let same : commit_begun number t.start.asked.kind (begin_next t first) first ≡ c = cc in
      absurd (not_log t.start.asked.kind (ap (λ (x : Commit). x.kind) same ∙ full) (ap (λ (x : Commit). x.is_copied) same ∙ is_copied));
  points = λ c in_hand taken. cc;
  begun = λ c in_hand. let same : commit_begun number t.start.asked.kind (begin_next t first) first ≡ c = cc in ap (λ (x : Option CommitKind). begun_of x number first) sound.here ∙ ap (λ (x : Commit). Some (record { kind = x.kind; number = x.number; first = x.first })) same;
  rests = λ c in_hand so. cc;
  here = tt;
}
start_sound p replies told t (Done (start.Refused why)) e sound = over p replies told t Starts _ tt sound
start_sound p replies told t (Done start.Idle) e sound = over p replies told t Starts _ tt sound
start_sound p replies told t ask e sound = at_step p replies told t Starts e sound

start_kept : (t : KeeperState) (ask : Ask StartAnswer) → (start_ledto t ask).start ≡ t.start
unfolding start_ledto
start_kept t (Done (start.Begun number first)) = refl
start_kept t (Done (start.Refused why)) = refl
start_kept t (Done start.Idle) = refl
start_kept t ask = refl

maintain_sound : (p : Places) (replies : List ℕ) (told : LastBegin) (t : KeeperState) (ask : Ask MaintainAnswer) → t.step ≡ Maintains → IsSound p replies told t Maintains → IsSound p replies told (maintain_ledto t ask) (maintain_ledto t ask).step
unfolding maintain_ledto
maintain_sound p replies told t (Done maintain.Through) e sound = keeps p replies told t _ Maintains LoadsPhase refl refl refl (λ works. works) (λ so. tt) sound tt
maintain_sound p replies told t (Done maintain.Spent) e sound = over p replies told t Maintains _ tt sound
maintain_sound p replies told t (Done maintain.Broken) e sound = keeps p replies told t _ Maintains (Ended (_)) refl refl refl (λ works. let wrong : true ≡ false = works.0 in cc) (λ so. tt) sound tt
maintain_sound p replies told t ask e sound = at_step p replies told t Maintains e sound

-- what the phase calls for
abbrev from_phase : Places → List ℕ → LastBegin → Bool → ℕ → Bool → KeeperState → Type 0
from_phase p replies told rests reply granted a = IsSound p (replies_after rests LoadsPhase (Replies reply granted) a.step replies) told a a.step

copies_sound : (p : Places) (replies : List ℕ) (told : LastBegin) (s : KeeperState) (c : Commit) (reply : ℕ) (granted : Bool) → s.commit ≡ Some c → c.is_copied ≡ false → IsSound p replies told s LoadsPhase
    → from_phase p replies told (is_copy_resting s.copy) reply granted (copies p s granted)
unfolding copying_after copied_after
copies_sound p replies told s c reply granted in_hand not_copied sound = by_rest (is_copy_resting s.copy) refl granted
  where
    same : (its : Commit) → s.commit ≡ Some its → its ≡ c
    same its found = let both : Some its ≡ Some c = sym found ∙ in_hand in cc

    clash : (its : Commit) → s.commit ≡ Some its → its.is_copied ≡ true → ⊥
    clash its found is_copied = let wrong : true ≡ false = sym is_copied ∙ ap (λ (x : Commit). x.is_copied) (same its found) ∙ not_copied in cc

    copying : (was : List ℕ) (copy : Option Copier) → copy ≡ Some (copy_by p was) → IsSound p was told (record s { copy = copy; is_granted = true; step = Copies }) Copies
    copying was copy is = record {
      copied = λ its found full is_copied working early. absurd (clash its found is_copied);
      points = sound.points;
      begun = sound.begun;
      rests = λ its found so. is;
      here = (is, λ its found. ap (λ (x : Commit). x.is_copied) (same its found) ∙ not_copied);
    }

    by_rest : (rests : Bool) → is_copy_resting s.copy ≡ rests → (granted : Bool)
        → from_phase p replies told rests reply granted (if granted || rests then record s { copy = if rests then s.copy else Some (copy_begun p); is_granted = true; step = Copies } else ended (record s { is_granted = false }) (TurnRefused fault.Memory))
    by_rest true rests true = copying replies s.copy (sound.rests c in_hand rests)
    by_rest true rests false = copying replies s.copy (sound.rests c in_hand rests)
    by_rest false none true = copying [] (Some (copy_begun p)) refl
    by_rest false none false = keeps p replies told s _ LoadsPhase (Ended _) refl refl refl (λ works. works) (λ so. tt) sound tt

else_sound : (p : Places) (replies : List ℕ) (told : LastBegin) (s : KeeperState) (c : Commit) (reply : ℕ) (granted : Bool) (other : KeeperState) (is_copied : Bool) → c.is_copied ≡ is_copied → s.commit ≡ Some c → IsSound p replies told s LoadsPhase
    → (c.is_copied ≡ true → from_phase p replies told (is_copy_resting s.copy) reply granted other) → from_phase p replies told (is_copy_resting s.copy) reply granted (if is_copied then other else copies p s granted)
else_sound p replies told s c reply granted other true so in_hand sound its = its so
else_sound p replies told s c reply granted other false so in_hand sound its = copies_sound p replies told s c reply granted in_hand so sound

either_sound : (b : Bool) (p : Places) (replies : List ℕ) (told : LastBegin) (rests : Bool) (reply : ℕ) (granted : Bool) (a o : KeeperState) → (b ≡ true → from_phase p replies told rests reply granted a) → from_phase p replies told rests reply granted o
    → from_phase p replies told rests reply granted (if b then a else o)
either_sound true p replies told rests reply granted a o one other = one refl
either_sound false p replies told rests reply granted a o one other = other

is_found : (s : KeeperState) (c its : Commit) → s.commit ≡ Some c → c.is_copied ≡ true → s.commit ≡ Some its → its.is_copied ≡ true
is_found s c its in_hand is_copied found = ap (λ (x : Commit). x.is_copied) (let both : Some its ≡ Some c = sym found ∙ in_hand in some_same its c both) ∙ is_copied

part_sound : (p : Places) (replies : List ℕ) (told : LastBegin) (s : KeeperState) (c : Commit) (said : PhaseSaid) (reply : ℕ) (granted : Bool) → s.commit ≡ Some c → IsSound p replies told s LoadsPhase → from_phase p replies told (is_copy_resting s.copy) reply granted (part_begun p s c said granted)
part_sound p replies told s c (Says phase.InProgress version) reply granted in_hand sound =
    either_sound s.has_entered p replies told (is_copy_resting s.copy) reply granted _ _
    (λ entered. else_sound p replies told s c reply granted (turned s) c.is_copied refl in_hand sound (λ is_copied. over p replies told s LoadsPhase _ tt sound))
    (keeps p replies told s _ LoadsPhase Enters refl refl refl (λ works. works) (λ so. tt) sound tt)
part_sound p replies told s c (Says phase.WaitPending version) reply granted in_hand sound =
    else_sound p replies told s c reply granted (record s { seek = seek_begun s.seek c.number s.last.points; has_points = false; step = Seeks }) c.is_copied refl in_hand sound
    (λ is_copied. record {
      copied = λ its found full copied working early. sound.copied its found full copied working tt;
      points = λ its found taken. cc;
      begun = sound.begun;
      rests = sound.rests;
      here = λ its found. is_found s c its in_hand is_copied found;
    })
part_sound p replies told s c (Says phase.WaitFlush version) reply granted in_hand sound =
    either_sound s.has_points p replies told (is_copy_resting s.copy) reply granted _ _
    (λ taken. keeps p replies told s _ LoadsPhase Waits refl refl refl (λ works. works) (λ so. tt) sound (λ its found. sound.points its found taken))
    (over p replies told s LoadsPhase _ tt sound)
part_sound p replies told s c said reply granted in_hand sound = over p replies told s LoadsPhase _ tt sound

-- where a flush rests the turn is over
lets_sound : (p : Places) (replies : List ℕ) (told : LastBegin) (s its : KeeperState) (reply : ℕ) (granted : Bool) → IsSound p replies told s LoadsPhase → from_phase p replies told (is_copy_resting s.copy) reply granted its
    → from_phase p replies told (is_copy_resting s.copy) reply granted (unless_flush_rests s granted its)
lets_sound p replies told s its reply granted sound led =
    either_sound (is_flush_resting s.maintain) p replies told (is_copy_resting s.copy) reply granted _ _ (λ rests. keeps p replies told s _ LoadsPhase (Ended _) refl refl refl (λ works. works) (λ so. tt) sound tt) led

-- a sweep goes on, or the turn is over
sweeps_sound : (p : Places) (replies : List ℕ) (told : LastBegin) (s : KeeperState) (reply : ℕ) (granted : Bool) → IsSound p replies told s LoadsPhase → from_phase p replies told (is_copy_resting s.copy) reply granted (sweeps_next s granted)
sweeps_sound p replies told s reply granted sound =
    either_sound (granted && is_sweeping s.sweep) p replies told (is_copy_resting s.copy) reply granted _ _ (λ goes. keeps p replies told s _ LoadsPhase Sweeps refl refl refl (λ works. works) (λ so. tt) sound tt)
    (keeps p replies told s _ LoadsPhase (Ended _) refl refl refl (λ works. works) (λ so. tt) sound tt)

phase_sound : (p : Places) (replies : List ℕ) (told : LastBegin) (s : KeeperState) (found : Option Commit) (said : PhaseSaid) (reply : ℕ) (granted : Bool) → s.commit ≡ found → IsSound p replies told s LoadsPhase → from_phase p replies told (is_copy_resting s.copy) reply granted (phase_ledto p s found said granted)
unfolding phase_ledto
phase_sound p replies told s None said reply granted in_hand sound = lets_sound p replies told s _ reply granted sound (sweeps_sound p replies told s reply granted sound)
phase_sound p replies told s (Some c) said reply granted in_hand sound = by s.rests granted
  where
    by : (rests granted : Bool) → from_phase p replies told (is_copy_resting s.copy) reply granted (if rests then writes_taken_up s granted else unless_flush_rests s granted (part_begun p s c said granted))
    by true true = record { copied = λ its found full is_copied working early. absurd early; points = sound.points; begun = sound.begun; rests = sound.rests; here = tt }
    by true false = keeps p replies told s _ LoadsPhase (Ended _) refl refl refl (λ works. works) (λ so. tt) sound tt
    by false granted = lets_sound p replies told s _ reply granted sound (part_sound p replies told s c said reply granted in_hand sound)

enter_sound : (p : Places) (replies : List ℕ) (told : LastBegin) (t : KeeperState) (ask : Ask EnterAnswer) → t.step ≡ Enters → IsSound p replies told t Enters → IsSound p replies told (enter_ledto t ask) (enter_ledto t ask).step
unfolding enter_ledto
enter_sound p replies told t (Done enter.Entered) e sound = keeps p replies told t _ Enters (Ended _) refl refl refl (λ works. works) (λ so. tt) sound tt
enter_sound p replies told t (Done enter.DrainFull) e sound = keeps p replies told t _ Enters (Ended _) refl refl refl (λ works. works) (λ so. tt) sound tt
enter_sound p replies told t (Done enter.EpochsSpent) e sound = over p replies told t Enters _ tt sound
enter_sound p replies told t (Done enter.Idle) e sound = over p replies told t Enters _ tt sound
enter_sound p replies told t ask e sound = at_step p replies told t Enters e sound

-- the copy goes on by its reply
copied_some : (rests : Bool) (found : Option Commit) (c : Commit) → copied rests found ≡ Some c → (its : Commit) × (found ≡ Some its) × (c ≡ record its { is_copied = its.is_copied || not rests })
copied_some rests None c e = cc
copied_some rests (Some its) c e = (its, refl, some_same c (record its { is_copied = its.is_copied || not rests }) (sym e))

-- one that wasn't copied counts as copied where the copy doesn't rest
at_end : (was rests : Bool) → was ≡ false → (was || not rests) ≡ true → rests ≡ false
at_end true rests not_copied is_copied = cc
at_end false true not_copied is_copied = cc
at_end false false not_copied is_copied = refl

no_rest : (copy : Option Copier) (rests : Bool) → is_copy_resting copy ≡ rests → rests ≡ false → copy_told copy ≡ copy_asked copy
no_rest copy rests is none = ap (λ (x : Bool). if x then Done tt else copy_asked copy) (is ∙ none)

copy_sound : (p : Places) (replies : List ℕ) (told : LastBegin) (t : KeeperState) (ask : Ask (Unit {0})) → t.step ≡ Copies → t.copy ≡ Some (copy_by p replies) → copy_told t.copy ≡ ask → IsSound p replies told t Copies
    → IsSound p replies told (copy_ledto t ask) (copy_ledto t ask).step
unfolding copy_ledto
copy_sound p replies told t (Done its) e has asks sound = record {
  copied = λ c in_hand full is_copied working early. record { in_hand = has; finished = sym (ap copy_asked has) ∙ (sym (no_rest t.copy (is_copy_resting t.copy) refl (at_its_end c in_hand is_copied)) ∙ asks) };
  points = λ c in_hand taken. absurd (truth c in_hand (let found = copied_some (is_copy_resting t.copy) t.commit c in_hand in sound.points found.0 found.1 taken));
  begun = λ c in_hand. let found = copied_some (is_copy_resting t.copy) t.commit c in_hand in sound.begun found.0 found.1 ∙ ap (λ (x : Commit). Some (record { kind = x.kind; number = x.number; first = x.first })) (sym found.2);
  rests = λ c in_hand so. has;
  here = tt;
}
  where
    was_not : (c : Commit) (in_hand : copied (is_copy_resting t.copy) t.commit ≡ Some c) → (copied_some (is_copy_resting t.copy) t.commit c in_hand).0.is_copied ≡ false
    was_not c in_hand = let found = copied_some (is_copy_resting t.copy) t.commit c in_hand in sound.here.1 found.0 found.1

    at_its_end : (c : Commit) (in_hand : copied (is_copy_resting t.copy) t.commit ≡ Some c) → c.is_copied ≡ true → is_copy_resting t.copy ≡ false
    at_its_end c in_hand is_copied =
        let found = copied_some (is_copy_resting t.copy) t.commit c in_hand in
        at_end found.0.is_copied (is_copy_resting t.copy) (was_not c in_hand) (ap (λ (x : Commit). x.is_copied) (sym found.2) ∙ is_copied)

    truth : (c : Commit) (in_hand : copied (is_copy_resting t.copy) t.commit ≡ Some c) → (copied_some (is_copy_resting t.copy) t.commit c in_hand).0.is_copied ≡ true → ⊥
    truth c in_hand is_copied = let wrong : true ≡ false = sym is_copied ∙ was_not c in_hand in cc
copy_sound p replies told t ask e has asks sound = at_step p replies told t Copies e sound

-- the copy before the reply, and after it
driven_sound : (p : Places) (replies : List ℕ) (told : LastBegin) (s : KeeperState) (reply : ℕ) → IsSound p replies told s Copies → IsSound p (reply ∷ replies) told (record s { copy = copy_driven s.copy reply }) Copies
unfolding copying_after copied_after
driven_sound p replies told s reply sound = record {
  copied = λ c in_hand full is_copied working early. absurd (clash c in_hand is_copied);
  points = sound.points;
  begun = sound.begun;
  rests = λ c in_hand so. ap (λ (x : Option Copier). copy_driven x reply) sound.here.0;
  here = (ap (λ (x : Option Copier). copy_driven x reply) sound.here.0, sound.here.1);
}
  where
    clash : (c : Commit) → s.commit ≡ Some c → c.is_copied ≡ true → ⊥
    clash c in_hand is_copied = let wrong : true ≡ false = sym is_copied ∙ sound.here.1 c in_hand in cc

known_some : (found : Option Commit) (end : Addr) (epoch : ℕ) (c : Commit) → points_known found end epoch ≡ Some c → (its : Commit) × (found ≡ Some its) × (c ≡ record its { end = end; epoch = epoch })
known_some None end epoch c e = cc
known_some (Some its) end epoch c e = (its, refl, some_same c (record its { end = end; epoch = epoch }) (sym e))

seek_sound : (p : Places) (replies : List ℕ) (told : LastBegin) (t : KeeperState) (ask : Ask SeekAnswer) → t.step ≡ Seeks → IsSound p replies told t Seeks → IsSound p replies told (seek_ledto t ask) (seek_ledto t ask).step
unfolding seek_ledto
seek_sound p replies told t (Done (seek.Taken end epoch)) e sound = record {
  copied = λ c in_hand full is_copied working early.
      let found = known_some t.commit end epoch c in_hand in
      sound.copied found.0 found.1 (ap (λ (x : Commit). x.kind) (sym found.2) ∙ full) (ap (λ (x : Commit). x.is_copied) (sym found.2) ∙ is_copied) working tt;
  points = λ c in_hand taken. let found = known_some t.commit end epoch c in_hand in ap (λ (x : Commit). x.is_copied) found.2 ∙ sound.here found.0 found.1;
  begun = λ c in_hand. let found = known_some t.commit end epoch c in_hand in sound.begun found.0 found.1 ∙ ap (λ (x : Commit). Some (record { kind = x.kind; number = x.number; first = x.first })) (sym found.2);
  rests = λ c in_hand so. let found = known_some t.commit end epoch c in_hand in sound.rests found.0 found.1 so;
  here = tt;
}
seek_sound p replies told t (Done seek.DrainFull) e sound = keeps p replies told t _ Seeks (Ended _) refl refl refl (λ works. works) (λ so. tt) sound tt
seek_sound p replies told t (Done seek.EpochsSpent) e sound = over p replies told t Seeks _ tt sound
seek_sound p replies told t (Done seek.Owing) e sound = over p replies told t Seeks _ tt sound
seek_sound p replies told t (Done seek.Idle) e sound = over p replies told t Seeks _ tt sound
seek_sound p replies told t ask e sound = at_step p replies told t Seeks e sound

-- the writes begin
begun_sound : (shape : Shape) (p : Places) (replies : List ℕ) (told : LastBegin) (t : KeeperState) (found : Option Commit) → t.commit ≡ found → IsSound p replies told t Waits → IsSound p replies told (writes_begun shape t found) (writes_begun shape t found).step
begun_sound shape p replies told t None in_hand sound = over p replies told t Waits _ tt sound
begun_sound shape p replies told t (Some c) in_hand sound = record { copied = λ its found full is_copied working early. absurd early; points = sound.points; begun = sound.begun; rests = λ its found so. cc; here = tt }

wait_sound : (shape : Shape) (p : Places) (replies : List ℕ) (told : LastBegin) (t : KeeperState) (ask : Ask WaitAnswer) → t.step ≡ Waits → IsSound p replies told t Waits → IsSound p replies told (wait_ledto shape t ask) (wait_ledto shape t ask).step
unfolding wait_ledto
wait_sound shape p replies told t (Done wait.Flushed) e sound = begun_sound shape p replies told t t.commit refl sound
wait_sound shape p replies told t (Done wait.NotYet) e sound = over p replies told t Waits _ tt sound
wait_sound shape p replies told t (Done wait.Idle) e sound = over p replies told t Waits _ tt sound
wait_sound shape p replies told t ask e sound = at_step p replies told t Waits e sound

-- a call of the writes
write_sound : (p : Places) (replies : List ℕ) (told : LastBegin) (t : KeeperState) (found : Option Commit) (answer : WriteAnswer) → t.step ≡ Writes → t.commit ≡ found → IsSound p replies told t Writes → IsSound p replies told (write_ledto t found answer) (write_ledto t found answer).step
unfolding write_ledto
write_sound p replies told t None answer e in_hand sound = gone p replies told _ _ in_hand
write_sound p replies told t (Some c) write.Written e in_hand sound = keeps p replies told t _ Writes Finishes refl refl refl (λ works. works) (λ early. early) sound tt
write_sound p replies told t (Some c) write.Device e in_hand sound = by (must_rest t)
  where
    by : (rests : Bool) → let a = if rests then turned (record t { rests = true }) else t in IsSound p replies told a a.step
    by true = record { copied = λ its found full is_copied working early. let wrong : true ≡ false = working.1 in cc; points = sound.points; begun = sound.begun; rests = sound.rests; here = tt }
    by false = at_step p replies told t Writes e sound
write_sound p replies told t (Some c) (write.Broken why) e in_hand sound = at_step p replies told t Writes e sound

broken_not : true ≡ false → ⊥
broken_not e = cc

call_sound : (p : Places) (replies : List ℕ) (told : LastBegin) (s : KeeperState) (done : Bool) → s.step ≡ Writes → IsSound p replies told s Writes → IsSound p replies told (writes_called s done) (writes_called s done).step
call_sound p replies told s true e sound =
    write_sound p replies told (record s { writes = commit_next s.writes true }) s.commit (commit_answer (commit_next s.writes true)) e refl (keeps p replies told s _ Writes Writes refl refl refl (λ works. works) (λ early. early) sound tt)
call_sound p replies told s false e sound = record { copied = λ c in_hand full is_copied working early. absurd (broken_not working.0); points = sound.points; begun = sound.begun; rests = sound.rests; here = tt }

-- the commit is finished
finished_sound : (p : Places) (replies : List ℕ) (told : LastBegin) (t : KeeperState) (found : Option Commit) → t.commit ≡ found → IsSound p replies told (finished t found) (finished t found).step
finished_sound p replies told t None in_hand = gone p replies told _ _ in_hand
finished_sound p replies told t (Some c) in_hand = gone p replies told _ _ refl

finish_sound : (p : Places) (replies : List ℕ) (told : LastBegin) (t : KeeperState) (ask : Ask FinishAnswer) → t.step ≡ Finishes → IsSound p replies told t Finishes → IsSound p replies told (finish_ledto t ask) (finish_ledto t ask).step
unfolding finish_ledto
finish_sound p replies told t (Done its) e sound = finished_sound p replies told t t.commit refl
finish_sound p replies told t ask e sound = at_step p replies told t Finishes e sound

-- the sweep's turn goes on, or is through
sweep_sound : (p : Places) (replies : List ℕ) (told : LastBegin) (t : KeeperState) (ask : Ask SweepAnswer) → t.step ≡ Sweeps → IsSound p replies told t Sweeps → IsSound p replies told (sweep_ledto t ask) (sweep_ledto t ask).step
unfolding sweep_ledto
sweep_sound p replies told t (Done sweep.Through) e sound = over p replies told t Sweeps _ tt sound
sweep_sound p replies told t ask e sound = at_step p replies told t Sweeps e sound

read_sound : (p : Places) (replies : List ℕ) (told : LastBegin) (s : KeeperState) (done : Bool) (bytes : List ℕ) → s.step ≡ Sweeps → IsSound p replies told s Sweeps → IsSound p replies told (sweep_called s done bytes) (sweep_called s done bytes).step
read_sound p replies told s true bytes e sound = sweep_sound p replies told (record s { sweep = sweep_read s.sweep bytes }) (sweep_ask (sweep_read s.sweep bytes)) e (keeps p replies told s _ Sweeps Sweeps refl refl refl (λ works. works) (λ early. early) sound tt)
read_sound p replies told s false bytes e sound = record { copied = λ c in_hand full is_copied working early. absurd (broken_not working.0); points = sound.points; begun = sound.begun; rests = sound.rests; here = tt }

-- a reply, an action, and a call of the device
same_here : (p : Places) (replies : List ℕ) (told : LastBegin) (s t : KeeperState) (step : Keeping) → t.commit ≡ s.commit → t.copy ≡ s.copy → t.has_points ≡ s.has_points → t.is_broken ≡ s.is_broken → t.rests ≡ s.rests → Here p replies told t step → IsSound p replies told s step → IsSound p replies told t step
same_here p replies told s t step commit copy points broken rests here sound = keeps p replies told s t step step commit copy points (λ works. (sym broken ∙ works.0, sym rests ∙ works.1)) (λ early. early) sound here

reply_sound : (shape : Shape) (p : Places) (replies : List ℕ) (told : LastBegin) (s : KeeperState) (step : Keeping) (reply : ℕ) (granted : Bool) → s.step ≡ step → IsSound p replies told s step
    → IsSound p (replies_after (is_copy_resting s.copy) step (Replies reply granted) (keeping_next shape p s step reply granted).step replies) (last_begin_after step (Replies reply granted) (keeping_next shape p s step reply granted) told) (keeping_next shape p s step reply granted) (keeping_next shape p s step reply granted).step
unfolding keeping_next
reply_sound shape p replies told s (Ended its) reply granted e sound = at_step p replies told s (Ended its) e sound
reply_sound shape p replies told s Starts reply granted e sound =
    subst (λ x. IsSound p replies (begun_by (start_ask x) told) a a.step) (sym (start_kept t (start_ask t.start)))
    (start_sound p replies told t (start_ask t.start) e (same_here p replies told s t Starts refl refl refl refl refl (sound.here ∙ ap (λ (x : StartAsked). Some x.kind) (sym (start_asked s.start reply))) sound))
  where
    t : KeeperState
    t = record s { start = start_next s.start reply }

    a : KeeperState
    a = start_ledto t (start_ask t.start)
reply_sound shape p replies told s Maintains reply granted e sound = maintain_sound p replies told _ (maintain_ask shape p (maintain_next shape p s.maintain reply)) e (same_here p replies told s _ Maintains refl refl refl refl refl tt sound)
reply_sound shape p replies told s LoadsPhase reply granted e sound = phase_sound p replies told s s.commit (phase_said reply) reply granted refl sound
reply_sound shape p replies told s Enters reply granted e sound = enter_sound p replies told _ (enter_ask (enter_next s.enter reply)) e (same_here p replies told s _ Enters refl refl refl refl refl tt sound)
reply_sound shape p replies told s Copies reply granted e sound =
    let after = driven_sound p replies told s reply sound in
    copy_sound p (reply ∷ replies) told (record s { copy = copy_driven s.copy reply }) (copy_told (copy_driven s.copy reply)) e after.here.0 refl after
reply_sound shape p replies told s Seeks reply granted e sound = seek_sound p replies told _ (seek_ask (seek_next s.seek reply)) e (same_here p replies told s _ Seeks refl refl refl refl refl sound.here sound)
reply_sound shape p replies told s Waits reply granted e sound = wait_sound shape p replies told _ (wait_ask (wait_next s.wait reply)) e (same_here p replies told s _ Waits refl refl refl refl refl sound.here sound)
reply_sound shape p replies told s Writes reply granted e sound = at_step p replies told s Writes e sound
reply_sound shape p replies told s Finishes reply granted e sound = finish_sound p replies told _ (finish_ask s.seek.points (finish_next s.finish reply)) e (same_here p replies told s _ Finishes refl refl refl refl refl tt sound)
reply_sound shape p replies told s Sweeps reply granted e sound = sweep_sound p replies told _ (sweep_ask (sweep_next s.sweep reply)) e (same_here p replies told s _ Sweeps refl refl refl refl refl tt sound)

given_sound : (shape : Shape) (p : Places) (replies : List ℕ) (told : LastBegin) (s : KeeperState) (step : Keeping) (action : Action) → s.step ≡ step → IsSound p replies told s step → IsSound p replies told (keeping_given shape p s step action) (keeping_given shape p s step action).step
unfolding keeping_given
given_sound shape p replies told s Maintains action e sound = maintain_sound p replies told _ (maintain_ask shape p (maintain_given s.maintain action)) e (same_here p replies told s _ Maintains refl refl refl refl refl tt sound)
given_sound shape p replies told s step action e sound = at_step p replies told s step e sound

called_sound : (shape : Shape) (p : Places) (replies : List ℕ) (told : LastBegin) (s : KeeperState) (step : Keeping) (done : Bool) (bytes : List ℕ) → s.step ≡ step → IsSound p replies told s step → IsSound p replies told (keeping_called shape p s step done bytes) (keeping_called shape p s step done bytes).step
unfolding keeping_called
called_sound shape p replies told s Maintains done bytes e sound = maintain_sound p replies told _ (maintain_ask shape p (maintain_called shape p s.maintain done bytes)) e (same_here p replies told s _ Maintains refl refl refl refl refl tt sound)
called_sound shape p replies told s Writes done bytes e sound = call_sound p replies told s done e sound
called_sound shape p replies told s Sweeps done bytes e sound = read_sound p replies told s done bytes e sound
called_sound shape p replies told s step done bytes e sound = at_step p replies told s step e sound

-- where a turn or a commit is begun
turn_sound : (p : Places) (replies : List ℕ) (told : LastBegin) (s : KeeperState) (its : KeeperTold) (broken : Bool) → IsSound p replies told s (Ended its)
    → let a = if broken then ended s (TurnRefused fault.Broken) else record s { maintain = parts_begun (serves_alone s) s.maintain; is_drain_full = false; step = Maintains } in IsSound p replies told a a.step
turn_sound p replies told s its true sound = over p replies told s (Ended its) _ tt sound
turn_sound p replies told s its false sound = keeps p replies told s _ (Ended its) Maintains refl refl refl (λ works. works) (λ so. tt) sound tt

asked_sound : (p : Places) (replies : List ℕ) (told : LastBegin) (s : KeeperState) (kind : CommitKind) (its : KeeperTold) → IsSound p replies told s (Ended its) → IsSound p replies (record told { asked = Some kind }) s (Ended its)
asked_sound p replies told s kind its sound = record { copied = sound.copied; points = sound.points; begun = sound.begun; rests = sound.rests; here = tt }

commit_sound : (p : Places) (replies : List ℕ) (told : LastBegin) (s : KeeperState) (kind : CommitKind) (its : KeeperTold) (broken rests : Bool) → IsSound p replies told s (Ended its)
    → let a = if broken then ended s (CommitRefused fault.Broken) else (if rests then ended s (CommitRefused fault.CommitRunning) else record s { start = start_begun s.start (asked_for s kind); step = Starts }) in
    IsSound p replies (record told { asked = Some kind }) a a.step
commit_sound p replies told s kind its true rests sound = over p replies (record told { asked = Some kind }) s (Ended its) _ tt (asked_sound p replies told s kind its sound)
commit_sound p replies told s kind its false true sound = over p replies (record told { asked = Some kind }) s (Ended its) _ tt (asked_sound p replies told s kind its sound)
commit_sound p replies told s kind its false false sound = keeps p replies (record told { asked = Some kind }) s _ (Ended its) Starts refl refl refl (λ works. works) (λ so. tt) (asked_sound p replies told s kind its sound) refl

commit_begins : (p : Places) (replies : List ℕ) (told : LastBegin) (s : KeeperState) (step : Keeping) (kind : CommitKind) → s.step ≡ step → IsSound p replies told s step
    → let a = begins s (is_in_hand step) (commit_asked s kind) in IsSound p (replies_after (is_copy_resting s.copy) step (BeginsCommit kind) a.step replies) (last_begin_after step (BeginsCommit kind) a told) a a.step
commit_begins p replies told s (Ended its) kind e sound = commit_sound p replies told s kind its s.is_broken s.rests sound
commit_begins p replies told s LoadsPhase kind e sound = at_step p replies told s LoadsPhase e sound
commit_begins p replies told s step kind e sound = at_step p replies told s step e sound

begins_sound : (p : Places) (replies : List ℕ) (told : LastBegin) (s begun : KeeperState) (step : Keeping) → s.step ≡ step → IsSound p replies told s step → ((its : KeeperTold) → IsSound p replies told s (Ended its) → IsSound p replies told begun begun.step)
    → IsSound p replies told (begins s (is_in_hand step) begun) (begins s (is_in_hand step) begun).step
begins_sound p replies told s begun (Ended its) e sound first = first its sound
begins_sound p replies told s begun step e sound first = at_step p replies told s step e sound

-- an event that replies to no ask and asks for no commit
abbrev IsUnreplied : KeeperEvent → Type 0
IsUnreplied (Replies reply granted) = ⊥
IsUnreplied (BeginsCommit kind) = ⊥
IsUnreplied event = ⊤

same_replies : (rests : Bool) (step : Keeping) (event : KeeperEvent) (after : Keeping) (was : List ℕ) → IsUnreplied event → replies_after rests step event after was ≡ was
same_replies rests step (Replies reply granted) after was unreplied = absurd unreplied
same_replies rests step (BeginsCommit kind) after was unreplied = absurd unreplied
same_replies rests LoadsPhase event after was unreplied = refl
same_replies rests Copies event after was unreplied = refl
same_replies rests step event after was unreplied = refl

same_told : (step : Keeping) (event : KeeperEvent) (after : KeeperState) (was : LastBegin) → IsUnreplied event → last_begin_after step event after was ≡ was
same_told step (Replies reply granted) after was unreplied = absurd unreplied
same_told step (BeginsCommit kind) after was unreplied = absurd unreplied
same_told (Ended its) event after was unreplied = refl
same_told Starts event after was unreplied = refl
same_told step event after was unreplied = refl

unreplied_sound : (p : Places) (replies : List ℕ) (told : LastBegin) (s a : KeeperState) (step : Keeping) (event : KeeperEvent) → IsUnreplied event → IsSound p replies told a a.step → IsSound p (replies_after (is_copy_resting s.copy) step event a.step replies) (last_begin_after step event a told) a a.step
unreplied_sound p replies told s a step event unreplied sound =
    subst (λ (x : List ℕ). IsSound p x (last_begin_after step event a told) a a.step) (sym (same_replies (is_copy_resting s.copy) step event a.step replies unreplied))
    (subst (λ (x : LastBegin). IsSound p replies x a a.step) (sym (same_told step event a told unreplied)) sound)

happens_sound : (shape : Shape) (p : Places) (replies : List ℕ) (told : LastBegin) (s : KeeperState) (step : Keeping) (event : KeeperEvent) → s.step ≡ step → IsSound p replies told s step
    → let a = happens_at shape p s step event in IsSound p (replies_after (is_copy_resting s.copy) step event a.step replies) (last_begin_after step event a told) a a.step
happens_sound shape p replies told s step BeginsTurn e sound =
    unreplied_sound p replies told s _ step BeginsTurn tt (begins_sound p replies told s (turn_asked s) step e sound (λ its rests. turn_sound p replies told s its s.is_broken rests))
happens_sound shape p replies told s step (BeginsCommit kind) e sound = commit_begins p replies told s step kind e sound
happens_sound shape p replies told s step (Replies reply granted) e sound = reply_sound shape p replies told s step reply granted e sound
happens_sound shape p replies told s step (Gets action) e sound = unreplied_sound p replies told s _ step (Gets action) tt (given_sound shape p replies told s step action e sound)
happens_sound shape p replies told s step (Calls done bytes) e sound = unreplied_sound p replies told s _ step (Calls done bytes) tt (called_sound shape p replies told s step done bytes e sound)

opening_sound : (p : Places) (s : KeeperState) (step : Keeping) → s.step ≡ step → IsOpened s → IsSound p [] (record { asked = None; begun = None }) s step
opening_sound p s (Ended its) e opened = gone p [] (record { asked = None; begun = None }) s its opened.no_commit
opening_sound p s step e opened = let busy : true ≡ false = sym (ap is_in_hand e) ∙ opened.none_in_hand in cc

pub run_copied : (shape : Shape) (p : Places) (opening : KeeperState) (events : List KeeperEvent) → IsOpened opening
    → IsSound p (copy_replies shape p opening events) (last_begin shape p opening events) (keeper_run shape p opening events) (keeper_run shape p opening events).step
unfolding keeper_run copy_replies last_begin
run_copied shape p opening [] opened = opening_sound p opening opening.step refl opened
run_copied shape p opening (event ∷ before) opened =
    subst (λ (x : KeeperState). IsSound p (replies_after (is_copy_resting s.copy) s.step event x.step (copy_replies shape p opening before)) (last_begin_after s.step event x (last_begin shape p opening before)) x x.step) (happens_so shape p s event)
    (happens_sound shape p (copy_replies shape p opening before) (last_begin shape p opening before) s s.step event refl (run_copied shape p opening before opened))
  where
    s : KeeperState
    s = keeper_run shape p opening before
