-- What a store is whose memory was given records.
use Rattle.std.specs.Prelude.{◌≡◌, ℕ, ◌-◌, ◌*◌, max}
use Rattle.fkv_opening.specs.Opening.{opening_limit}
use Rattle.fkv_opening.specs.declared.opened_store.Opened.{Opened}

-- From where on: the newest records from the log's begin on, at most so many, and as many as fit into the ring beside the room that is open to new ones.
abbrev pub warm_from : Opened → ℕ → ℕ
warm_from o most = max (max (opening_limit o - o.shape.frames * o.shape.page) (o.tail.0 - most)) o.begin.0

-- all but what memory has is as it was
pub record IsSameStore (opened warmed : Opened) : Type 0 where
  pub shape : warmed.shape ≡ opened.shape
  pub number : warmed.number ≡ opened.number
  pub begin : warmed.begin ≡ opened.begin
  pub tail : warmed.tail ≡ opened.tail
  pub points : warmed.points.items ≡ opened.points.items
  pub gates : warmed.gates ≡ opened.gates
  pub checkpoint : warmed.checkpoint ≡ opened.checkpoint
  pub lost : warmed.lost.items ≡ opened.lost.items
  pub entries : warmed.entries.items ≡ opened.entries.items
