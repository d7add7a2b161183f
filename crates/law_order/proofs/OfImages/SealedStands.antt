-- A commit that is sealed and not finished is the one whose words are stored. It stands, whole.
use Rattle.std.proofs.Common.{◌≡◌, ◌⊎◌, inl, inr, ℕ, ◌∙◌, refl, sym, subst, Bool, true, false, List, ◌∷◌}
use Rattle.std.specs.Prelude.{if◌then◌else◌}
use Rattle.law_commit.specs.Below.fkv_keeper.Keeping.{Finality, KeeperState, come_to}
use Rattle.law_commit.specs.Below.fkv_keeper.TheKeeping.{Keeping}
use Rattle.law_commit.specs.Below.fkv_keeper.TheKeeping.TheVariants.{Ended, Starts, Maintains, LoadsPhase, Enters, Copies, Seeks, Waits, Writes, Finishes, Sweeps}
use Rattle.law_commit.specs.Below.fkv_manifest.Committing.{CommitWriter}
use Rattle.law_commit.specs.Below.fkv_manifest.Kept.{NewStands}
use Rattle.law_commit.specs.BegunCommits.{BegunCommit}
use Rattle.law_commit.specs.HeldCommits.{AreFinished, AtEnd, AtKeeping, HaveFinished, OneIsOpen}
use Rattle.law_order.proofs.OfImages.NamedNow.{SealedStands}

clash : {X : Type 0} (b : Bool) → b ≡ true → b ≡ false → X
clash b e f = cc

all_finished : {X : Type 0} (begun : List BegunCommit) (last : Finality) (d : BegunCommit) (rest : List BegunCommit) → HaveFinished begun last → begun ≡ d ∷ rest → d.is_finished ≡ false → X
all_finished begun last d rest all e still_open = clash d.is_finished (subst AreFinished e all.finished).1 still_open

one_open : {X : Type 0} (begun : List BegunCommit) (last : Finality) (d : BegunCommit) (rest : List BegunCommit) → OneIsOpen begun last → begun ≡ d ∷ rest → d.is_sealed ≡ true → X
one_open begun last d rest one e is =
    let lists : one.newest ∷ one.older ≡ d ∷ rest = sym one.its ∙ e in
    let same : one.newest ≡ d = cc in
    clash d.is_sealed is (subst (λ (x : BegunCommit). x.is_sealed ≡ false) same one.unsealed)

none_or_one : (begun : List BegunCommit) (last : Finality) (w : CommitWriter) (image : List ℕ) → HaveFinished begun last ⊎ OneIsOpen begun last → SealedStands begun w image
none_or_one begun last w image (inl all) = λ d rest e still_open is. all_finished begun last d rest all e still_open
none_or_one begun last w image (inr one) = λ d rest e still_open is. one_open begun last d rest one e is

at_end : (begun : List BegunCommit) (s : KeeperState) (w : CommitWriter) (image : List ℕ) (broken : Bool) → AtEnd begun s broken → SealedStands begun w image
at_end begun s w image true its = none_or_one begun s.last w image its
at_end begun s w image false its = none_or_one begun s.last w image (inl its)

step_stands : (begun : List BegunCommit) (s : KeeperState) (step : Keeping) (w : CommitWriter) (image : List ℕ) → AtKeeping begun s step → (step ≡ Finishes → NewStands w image) → SealedStands begun w image
step_stands begun s Finishes w image its written = λ d rest e still_open is. written refl
step_stands begun s Writes w image its written = none_or_one begun s.last w image its
step_stands begun s (Ended told) w image its written = at_end begun s w image s.is_broken its
step_stands begun s Starts w image its written = none_or_one begun s.last w image (inl its)
step_stands begun s Maintains w image its written = none_or_one begun s.last w image (inl its)
step_stands begun s LoadsPhase w image its written = none_or_one begun s.last w image (inl its)
step_stands begun s Enters w image its written = none_or_one begun s.last w image (inl its)
step_stands begun s Copies w image its written = none_or_one begun s.last w image (inl its)
step_stands begun s Sweeps w image its written = none_or_one begun s.last w image (inl its)
step_stands begun s Seeks w image its written = none_or_one begun s.last w image (inl its)
step_stands begun s Waits w image its written = none_or_one begun s.last w image (inl its)

-- one that has come to a finish is at it
finishes : (s : KeeperState) → come_to s ≡ Finishes → s.step ≡ Finishes
finishes s e = by s.rests e
  where
    by : (rests : Bool) → (if rests then Writes else s.step) ≡ Finishes → s.step ≡ Finishes
    by true clash = cc
    by false here = here

pub sealed_stands : (begun : List BegunCommit) (s : KeeperState) (w : CommitWriter) (image : List ℕ) → AtKeeping begun s (come_to s) → (s.step ≡ Finishes → NewStands w image) → SealedStands begun w image
sealed_stands begun s w image its written = step_stands begun s (come_to s) w image its (λ e. written (finishes s e))
