-- The calls that a commit has made after so many steps, each of which may have failed.
use Rattle.std.specs.Prelude.{ℕ, ◌+◌, ◌==◌, ◌&&◌, ◌||◌, List, [], ◌∷◌, ◌++◌, drop, Bool, true, false, if◌then◌else◌, Option, Some, None}
use Rattle.fkv_disk.specs.Bytes.{byte_at}
use Rattle.fkv_disk.specs.Calls.{Call, Write, Sync}
use Rattle.fkv_manifest.specs.Gating.{GateWriter, open_gate, closed_gate}
use Rattle.fkv_manifest.specs.Committing.{CommitWriter, commit_call, commit_next}

-- the machine after steps, the newest first: whether the call of each succeeded
unfoldable pub commit_run : CommitWriter → List Bool → CommitWriter
commit_run w [] = w
commit_run w (done ∷ before) = commit_next (commit_run w before) done

-- a step may make no call
abbrev pub with_call : Option Call → List Call → List Call
with_call None calls = calls
with_call (Some call) calls = call ∷ calls

-- the calls that these steps have made, the newest first
unfoldable pub commit_made : CommitWriter → List Bool → List Call
commit_made w [] = []
commit_made w (done ∷ before) = with_call (commit_call (commit_run w before) done) (commit_made w before)

-- the call writes the byte of an open gate at this place
abbrev pub opens_gate : ℕ → Call → Bool
opens_gate place (Write at bytes done) = at == place && byte_at bytes 0 == open_gate
opens_gate place (Sync done) = false

-- one of the calls does, whether it succeeded or not
abbrev pub has_begun : ℕ → List Call → Bool
has_begun place [] = false
has_begun place (call ∷ before) = opens_gate place call || has_begun place before

-- The calls of a whole commit, the newest first: the triples, where there are some, and a sync; the gate closed and a sync, where it
-- stood open; the slot behind its gate and a sync; the gate opened and a sync.
abbrev pub written_triples : ℕ → List ℕ → List Call
written_triples area [] = []
written_triples area (b ∷ rest) = Write area (b ∷ rest) true ∷ []

abbrev pub triples_calls : CommitWriter → List Call
triples_calls w = Sync true ∷ written_triples w.area w.triples

abbrev pub closing_calls : GateWriter → Bool → List Call
closing_calls w is_open = if is_open then Sync true ∷ Write w.place (closed_gate ∷ []) true ∷ [] else []

abbrev pub slot_calls : GateWriter → List Call
slot_calls w = Sync true ∷ Write w.place (open_gate ∷ []) true ∷ Sync true ∷ Write (w.place + w.start) (drop w.start w.slot) true ∷ []

-- those of the slot alone
abbrev pub whole_gate : GateWriter → Bool → List Call
whole_gate w is_open = slot_calls w ++ closing_calls w is_open

abbrev pub whole_commit : CommitWriter → Bool → List Call
whole_commit w is_open = whole_gate w.gate is_open ++ triples_calls w
