-- What is found where nothing was given back, and what an image names that shows the same.
use Rattle.std.proofs.Common.{refl, ℕ, List}
use Rattle.fkv_disk.specs.Calls.{Call, MayLeave}
use Rattle.law_opening.proofs.Below.fkv_newest.Shown.{told_alike}
use Rattle.law_opening.specs.Below.fkv_newest.Newest.{ShowSame}
use Rattle.law_commit.specs.BegunCommits.{BegunCommit}
use Rattle.law_order.specs.Prefix.Law.{MayBeFound, NamesCommit}

pub as_left : (bytes : List ℕ) (calls : List Call) (image : List ℕ) → MayLeave bytes calls image → MayBeFound bytes calls image
as_left bytes calls image left = record { image = image; left = left; agrees = record { long = refl; same = λ i kept. refl } }

pub named_alike : (image other : List ℕ) → ShowSame image other → (c : BegunCommit) → NamesCommit image c → NamesCommit other c
named_alike image other same c named = record { newest = named.newest; its = told_alike image other same named.newest named.its; number = named.number; points = named.points }
