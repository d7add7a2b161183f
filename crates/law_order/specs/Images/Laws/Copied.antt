-- What the law of `copied` says.
use Rattle.std.specs.Prelude.{◌⊎◌, ◌≡◌, ℕ, List}
use Rattle.fkv_base.specs.declared.commits.CommitKind.TheVariants.{Full}
use Rattle.law_opening.specs.Below.fkv_core.Openings.{IsOpeningWorld, beginning}
use Rattle.law_opening.specs.Below.fkv_opening.Opened.{IsStoreOf}
use Rattle.law_opening.specs.Below.fkv_opening.TheOpened.{Opened}
use Rattle.law_commit.specs.Below.fkv_world.World.{Event, Now}
use Rattle.law_commit.specs.BegunCommits.{BegunCommit, commit_opened}
use Rattle.law_order.specs.Images.Copied.{SpellsTriples, WritesItsCopy}
use Rattle.law_order.specs.Images.Named.{begun_so_far}
use Rattle.law_log.specs.Trace.{IsIn}
use Rattle.law_opening.specs.Lives.Reaching.{ReachesFar}

-- each full commit that a life has begun has written its copy
abbrev pub CommitsWriteTheirCopy : Type 0
CommitsWriteTheirCopy =
    (o : Opened) (n : Now) (bytes : List ℕ) (events : List Event) (c : BegunCommit) → IsStoreOf bytes o → IsOpeningWorld o n → ReachesFar bytes → IsIn c (begun_so_far n bytes events) → c.parts.kind ≡ Full
    → WritesItsCopy (beginning n bytes) events c ⊎ (c ≡ commit_opened n bytes)

-- so its triples are of homes that are apart
abbrev pub CommitsSpellTriples : Type 0
CommitsSpellTriples =
    (o : Opened) (n : Now) (bytes : List ℕ) (events : List Event) (c : BegunCommit) → IsStoreOf bytes o → IsOpeningWorld o n → ReachesFar bytes → IsIn c (begun_so_far n bytes events) → c.parts.kind ≡ Full → SpellsTriples n.shape.bucket_bits c ⊎ (c ≡ commit_opened n bytes)
