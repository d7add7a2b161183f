-- What a commit is, and the versions and phases that it goes through.
use Rattle.std.specs.Prelude.{◌+◌, ◌-◌, min, Bool, true, false}
use Rattle.fkv_base.specs.Limits.{last_version}
use Rattle.fkv_base.specs.declared.numbers.Addr.{Addr}
use Rattle.fkv_base.specs.declared.numbers.Version.{Version}
use Rattle.fkv_commit.specs.declared.commits.Commit.{Commit}
use Rattle.fkv_base.specs.declared.commits.CommitKind.{CommitKind}
use Rattle.fkv_base.specs.declared.commits.CommitKind.TheVariants.{Full, Log}

-- a log commit copies nothing
abbrev pub is_log : CommitKind → Bool
is_log Full = false
is_log Log = true

-- as it has started: its end and the epoch of its last arming aren't known yet
abbrev pub commit_begun : Version → CommitKind → Addr → Addr → Commit
commit_begun number kind begin first = record { number = number; kind = kind; begin = begin; first = first; end = record { 0 = 0 }; epoch = 0; is_copied = is_log kind }

-- the version that follows, up to the last
abbrev pub version_after : Version → Version
version_after version = record { 0 = min version.0 (last_version - 1) + 1 }
