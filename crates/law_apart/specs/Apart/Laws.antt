-- What the law of tries apart says.
use Rattle.std.specs.Prelude.{◌≡◌, ℕ, Bool, true, false}
use Rattle.fkv_plane.specs.declared.places.Places.{Places}
use Rattle.law_log.specs.Chains.{VersionsFall}
use Rattle.law_log.specs.Ghosts.{Log}
use Rattle.law_local.specs.Below.fkv_ops.Occasion.{Occasion}
use Rattle.law_local.specs.Below.fkv_ops.Request.{Request}
use Rattle.law_local.specs.Below.fkv_ops.Seen.{Seen}
use Rattle.law_local.specs.Below.fkv_ops.TheTrying.TheVariants.{Walks}
use Rattle.law_local.specs.Below.fkv_ops.Trying.{TryState, must_shift, try_begun, try_next}
use Rattle.law_local.specs.Below.fkv_ops.Walking.{walk_next}
use Rattle.law_local.specs.Tries.OnWay.{IsOrderly}
use Rattle.law_local.specs.Tries.Replies.{IsTrueReply}
use Rattle.law_local.specs.Tries.TryRows.{MarksTell, NoneIsLater, NoneLaterPast, TryKnows, key_in}
use Rattle.law_apart.specs.Apart.Rows.{TellsPhase, TellsSharer, TryApart, VersionsNear}

-- a try begins so, if its request does
abbrev pub TriesBeginApart : Type 0
TriesBeginApart = (home : ℕ → ℕ) (log : Log) (p : Places) (bits : ℕ) (request : Request) (seen : Seen) (occasion : Occasion) (spare : ℕ) → (request.has_latch ≡ true → NoneIsLater home log request)
    → TryApart home log (try_begun p bits request seen occasion spare)

-- each true reply leads it on
abbrev pub TriesLeadApart : Type 0
TriesLeadApart = (home : ℕ → ℕ) (log : Log) (p : Places) (room : ℕ) (t : TryState) (reply : ℕ) → IsOrderly home log → VersionsFall log.cells (log.chains (home (key_in t.request))) → VersionsNear log t → TellsSharer home log p t reply → TellsPhase home log t reply
    → TryKnows home log t → IsTrueReply home log p t t.step reply → TryApart home log t → TryApart home log (try_next p room t reply)

-- one that meets a record which its session may change knows that record's version by its mark
abbrev pub MarksAreTold : Type 0
MarksAreTold = (home : ℕ → ℕ) (log : Log) (p : Places) (t : TryState) (reply : ℕ) → IsOrderly home log → VersionsNear log t → TryKnows home log t → IsTrueReply home log p t t.step reply → MarksTell log p t reply

-- one whose request came with its share doesn't shift where its walk ends
abbrev pub CameStays : Type 0
CameStays = (home : ℕ → ℕ) (log : Log) (p : Places) (t : TryState) (reply : ℕ) → TryKnows home log t → TryApart home log t → t.step ≡ Walks → t.has_shared ≡ true → t.request.has_latch ≡ true
    → must_shift (record t { walk = walk_next p t.walk reply }) ≡ false

-- so one that shares its latch leads on past its walk: its home has no later version
abbrev pub SharersPass : Type 0
SharersPass = (home : ℕ → ℕ) (log : Log) (p : Places) (t : TryState) (reply : ℕ) → IsOrderly home log → VersionsFall log.cells (log.chains (home (key_in t.request))) → VersionsNear log t → TellsSharer home log p t reply
    → TryKnows home log t → IsTrueReply home log p t t.step reply → TryApart home log t → t.has_shared ≡ true → NoneLaterPast home log p t reply
