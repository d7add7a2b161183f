-- When the words of the store tell the truth of the log, so that replies do.
use Rattle.std.specs.Prelude.{◌≡◌, ℕ, ◌≤◌, ◌⊎◌, ⊤, List}
use Rattle.fkv_plane.specs.declared.places.Places.{Places}
use Rattle.fkv_plane.specs.declared.places.RecordWord.TheVariants as rec
use Rattle.fkv_plane.specs.declared.places.SharedWord.TheVariants as one
use Rattle.fkv_plane.specs.Asked.{word_at}
use Rattle.fkv_plane.specs.Places.{shared_place, record_place}
use Rattle.fkv_index.specs.Finding.{find_next_ask}
use Rattle.law_log.specs.Chains.{head_of}
use Rattle.law_log.specs.Ghosts.{Log}
use Rattle.fkv_ops.specs.declared.requests.Seen.{Seen}
use Rattle.fkv_ops.specs.declared.trying.Trying.{Trying}
use Rattle.fkv_ops.specs.declared.trying.Trying.TheVariants.{Walks}
use Rattle.fkv_ops.specs.declared.walking.Walking.{Walking}
use Rattle.fkv_ops.specs.declared.walking.Walking.TheVariants.{Finds}
use Rattle.fkv_ops.specs.Trying.{TryState}
use Rattle.fkv_ops.specs.Walking.{WalkState}
use Rattle.fkv_pending.specs.declared.attempting.Attempting.{Attempting}
use Rattle.fkv_pending.specs.declared.attempting.Attempting.TheVariants.{Looks, Tries}
use Rattle.fkv_pending.specs.Attempting.{AttemptState}
use Rattle.law_local.specs.Tries.TryRows.{floor_in}
use Rattle.law_local.specs.Tries.MailRows.{IsTrueOfLook}
use Rattle.law_local.specs.Tries.Replies.{SaysHeader, SaysKey, SaysValue, EndsAtHead, IsAboveAll}

-- the session may meet the record in a frame: it is at or above the head that the session has seen, or may be changed in place
abbrev pub IsHere : Seen → ℕ → Type 0
IsHere seen a = (seen.offsets.head.0 ≤ a) ⊎ (seen.offsets.read_only.0 ≤ a)

-- The frames of such records show them, the safe read-only offset is what is fixed, and the tail lies above all records.
pub record WordsShow (log : Log) (p : Places) (seen : Seen) (words : List ℕ) : Type 0 where
  pub header : (a : ℕ) → IsHere seen a → SaysHeader (log.cells a) (word_at words (record_place p a rec.Header))
  pub key : (a : ℕ) → IsHere seen a → SaysKey (log.cells a) (word_at words (record_place p a rec.Key))
  pub value : (a : ℕ) → IsHere seen a → SaysValue (log.cells a) (word_at words (record_place p a rec.Value))
  pub fixed : word_at words (shared_place one.SafeReadOnly) ≡ log.fixed
  pub tail : IsAboveAll log (word_at words (shared_place one.Tail))

-- where a search ends by this reply, the entry that it finds leads to where the chain of its key begins
abbrev pub WalkSearches : (ℕ → ℕ) → Log → Places → WalkState → Walking → ℕ → Type 0
WalkSearches home log p w Finds reply = EndsAtHead (head_of (log.chains (home w.key.0))) (find_next_ask p w.finding reply)
WalkSearches home log p w step reply = ⊤

abbrev pub TrySearches : (ℕ → ℕ) → Log → Places → TryState → Trying → ℕ → Type 0
TrySearches home log p t Walks reply = WalkSearches home log p t.walk t.walk.step reply
TrySearches home log p t step reply = ⊤

-- and what is loaded from the mailbox is the record that is sought
abbrev pub AttemptMeets : (ℕ → ℕ) → Log → Places → AttemptState → Attempting → ℕ → Type 0
AttemptMeets home log p a Looks reply = IsTrueOfLook log (floor_in a.pending.request) a.pending.sought a.mailing reply
AttemptMeets home log p a Tries reply = TrySearches home log p a.trial a.trial.step reply
AttemptMeets home log p a step reply = ⊤
