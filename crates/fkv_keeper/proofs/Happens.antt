-- One event, by the step at which the keeper stands.
use Rattle.std.proofs.Common.{◌≡◌, refl}
use Rattle.fkv_base.specs.declared.shapes.Shape.{Shape}
use Rattle.fkv_plane.specs.declared.places.Places.{Places}
use Rattle.fkv_keeper.specs.declared.keepers.Keeping.{Keeping}
use Rattle.fkv_keeper.specs.Keeping.{KeeperState, commit_asked, turn_asked, keeping_next, keeping_given, keeping_called}
use Rattle.fkv_keeper.specs.KeeperRun.{KeeperEvent, BeginsTurn, BeginsCommit, Replies, Gets, Calls, is_in_hand, begins, keeper_happens}

-- the state with its step told beside it, so that tables by step compute
abbrev pub happens_at : Shape → Places → KeeperState → Keeping → KeeperEvent → KeeperState
happens_at shape p s step BeginsTurn = begins s (is_in_hand step) (turn_asked s)
happens_at shape p s step (BeginsCommit kind) = begins s (is_in_hand step) (commit_asked s kind)
happens_at shape p s step (Replies reply granted) = keeping_next shape p s step reply granted
happens_at shape p s step (Gets action) = keeping_given shape p s step action
happens_at shape p s step (Calls done bytes) = keeping_called shape p s step done bytes

pub happens_so : (shape : Shape) (p : Places) (s : KeeperState) (event : KeeperEvent) → happens_at shape p s s.step event ≡ keeper_happens shape p s event
unfolding keeper_happens
happens_so shape p s BeginsTurn = refl
happens_so shape p s (BeginsCommit kind) = refl
happens_so shape p s (Replies reply granted) = refl
happens_so shape p s (Gets action) = refl
happens_so shape p s (Calls done bytes) = refl
