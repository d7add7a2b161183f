use Rattle.std.proofs.Common.{◌≡◌, ◌≤◌, length}
use Rattle.fkv_keeper.specs.LastCommits.{points_written}
use Rattle.fkv_keeper.proofs.manifests.points_written.Given as goal

-- the points of the sessions below
abbrev pub invariant-loop-session : goal.invariant-loop-session
invariant-loop-session l = record {
  within : l.session ≤ l.sessions;
  count : length l.serials.items ≡ l.session;
  so_far : l.serials.items ≡ points_written l.session l.points;
}
