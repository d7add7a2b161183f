-- What the law of a copy says of the copies beside a life.
use Rattle.std.specs.Prelude.{ℕ, List, length}
use Rattle.law_refine.proofs.Below.fkv_checkpoint.Shown.{IsCopySound, copy_opens, copy_sound}
use Rattle.law_refine.specs.Below.fkv_world.Runs.{World}
use Rattle.law_refine.specs.Below.fkv_world.World.{Event}
use Rattle.law_refine.specs.Index.Shows as index
use Rattle.law_commit.specs.Copied.Runs.{copy_events, opening_copy}

pub life_sound : (opening : World) (lists : ℕ → List ℕ) (events : List Event) → index.IsOpened opening lists → IsCopySound (opening_copy opening lists) (copy_events opening events)
life_sound opening lists events opened =
    copy_sound (opening_copy opening lists) (copy_events opening events) (copy_opens opening.now.places opening.now.words lists (length opening.now.sessions) opened.its_index)
