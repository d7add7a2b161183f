-- The chains of the log beside a life, and the entries of the index.
use Rattle.std.specs.Prelude.{◌≡◌, ⊤, ℕ, ◌==◌, if◌then◌else◌, List, [], ◌∷◌}
use Rattle.fkv_index.specs.declared.homes.Home.{Home}
use Rattle.fkv_index.specs.Entries.{entry_at}
use Rattle.fkv_index.specs.IndexWorld.{new_entry}
use Rattle.fkv_index.specs.OneEntry.{IsHome}
use Rattle.law_log.specs.Chains.{Logged, Reserved, head_of}
use Rattle.law_log.specs.Ghosts.{Log, Ghosts, GhostEvent, Publishes, ghost_run}
use Rattle.law_world.specs.Below.fkv_world.World.{Now}
use Rattle.law_refine.specs.Events.GhostEvents.{home_number}

-- the word of an entry that leads to an address, for a home of this tag; 0 where it leads nowhere
abbrev pub entry_to : ℕ → ℕ → ℕ
entry_to addr tag = if addr == 0 then 0 else new_entry addr tag

-- where the chain of a home begins, 0 where it is empty
abbrev pub head_at : Log → Home → ℕ
head_at log its_home = head_of (log.chains (home_number its_home))

-- the entry of each home leads to where its chain begins, and a home whose chain is empty has none
abbrev pub LeadToHeads : Now → (ℕ → List ℕ) → Log → Type 0
LeadToHeads n lists log = (its_home : Home) → IsHome n.places its_home → entry_at n.places n.words lists its_home ≡ entry_to (head_at log its_home) its_home.tag

-- the chain of a record's home begins with what the record leads to
abbrev pub IsAtHead : (ℕ → ℕ) → Log → Logged → Type 0
IsAtHead home log (Reserved entry cell) = head_of (log.chains (home cell.key)) ≡ cell.previous
IsAtHead home log logged = ⊤

abbrev pub meets_head : (ℕ → ℕ) → Log → GhostEvent → Type 0
meets_head home log (Publishes a) = IsAtHead home log (log.cells a)
meets_head home log event = ⊤

-- so it is with each record that these events publish, where it is published
unfoldable pub AllMeetHeads : (ℕ → ℕ) → Ghosts → List GhostEvent → Type 0
AllMeetHeads home ghosts [] = ⊤
AllMeetHeads home ghosts (event ∷ before) = meets_head home (ghost_run home ghosts before).log event × AllMeetHeads home ghosts before
