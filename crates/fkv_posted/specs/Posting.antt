-- What a caller has told of the call that comes next.
use Rattle.std.specs.Prelude.{ℕ, zero, List, [], ◌∷◌, Bool, true, false, nat_eq, ◌&&◌, Option, Some, None}
use Rattle.std.specs.Borrow.{Bor}
use Rattle.fkv_disk.specs.Kinds.{Foretold, Kind, Writing, nothing}
use Rattle.fkv_posted.specs.Outcomes.{Outcome, Gave}
use Rattle.fkv_posted.specs.declared.outcomes.Told.{Told}
use Rattle.fkv_posted.specs.declared.outcomes.Told.TheVariants.{Piece, Read, Written, Synced}

-- nothing counts any more once a call has failed
abbrev pub told_now : ℕ → Option Told → Option Told
told_now zero told = told
told_now failures told = None

-- a read of so many bytes from this offset on was told, or a write or a sync that succeeded
abbrev pub has_read : ℕ → ℕ → Option Told → Bool
has_read at n (Some (Read place bytes)) = nat_eq place at && nat_eq n 24
has_read at n (Some (Piece place bytes)) = nat_eq place at && nat_eq n 768
has_read at n told = false

abbrev pub has_written : Option Told → Bool
has_written (Some Written) = true
has_written told = false

abbrev pub has_synced : Option Told → Bool
has_synced (Some Synced) = true
has_synced told = false

-- with the read that was told, if one was
abbrev pub with_read : Option Told → List Outcome → List Outcome
with_read (Some (Read at bytes)) before = Gave at bytes ∷ before
with_read (Some (Piece at bytes)) before = Gave at bytes ∷ before
with_read told before = before

abbrev pub with_told : ℕ → Option Told → List Outcome → List Outcome
with_told failures told before = with_read (told_now failures told) before

-- the bytes that are shown, or these where none are
abbrev pub shown_or : Option (Bor (List ℕ)) → List ℕ → List ℕ
shown_or (Some bytes) seen = bytes.now
shown_or None seen = seen

-- none of these is a write
abbrev pub writes_none : List Kind → Bool
writes_none [] = true
writes_none (Writing at bytes done ∷ later) = false
writes_none (kind ∷ later) = writes_none later

-- No call has failed while bytes are shown, and none will that isn't a write.
abbrev pub stays_shown : Option (Bor (List ℕ)) → ℕ → List Kind → Bool
stays_shown (Some bytes) zero later = writes_none later
stays_shown shown failures later = false

-- what a medium foretells: whether it stays shown, and nothing else
abbrev pub shown_foretold : Option (Bor (List ℕ)) → ℕ → List Kind → Foretold
shown_foretold shown failures later = record nothing { holds = stays_shown shown failures later }
