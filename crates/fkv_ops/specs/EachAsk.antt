-- What each ask of a try is, by what the try asked and was replied before it, and whether it makes an effect. So a try swaps nothing, wins
-- no Cas and stores no word besides.
use Rattle.std.specs.Prelude.{◌≡◌, ℕ, ◌+◌, ◌-◌, ◌*◌, ◌^◌, ◌<◌, ◌≤◌, ◌⊎◌, Bool, false, List, ◌∷◌, ⊤, Option, Some}
use Rattle.fkv_marks.specs.Marks.{mark}
use Rattle.fkv_map.specs.declared.operations.Reply.{Reply}
use Rattle.fkv_map.specs.Keys.{key_of, value_applied}
use Rattle.fkv_plane.specs.declared.asks.Ask.{Ask}
use Rattle.fkv_plane.specs.declared.asks.Ask.TheVariants.{Load, Store, Swap, Cas, Add, Done}
use Rattle.fkv_plane.specs.declared.places.SharedWord.TheVariants as one
use Rattle.fkv_plane.specs.declared.places.RecordWord.TheVariants as rec
use Rattle.fkv_plane.specs.Places.{shared_place, record_place}
use Rattle.fkv_latch.specs.Latching.{one_share, exclusive_bit}
use Rattle.fkv_index.specs.Slots.{bucket_slots, entry_addr, link_of}
use Rattle.fkv_index.specs.IndexWorld.{new_entry}
use Rattle.fkv_ops.specs.declared.answers.TryAnswer.{TryAnswer}
use Rattle.fkv_ops.specs.Values.{word_of}
use Rattle.fkv_ops.specs.Trying.{try_ask}
use Rattle.fkv_ops.specs.TryRun.{Trial, home_at, try_run, trial_begun, Told, told_by}
use Rattle.fkv_ops.specs.Reasons.{latch_place, Loaded, Won, IsLost, ComesTo, HasEntry}
use Rattle.fkv_ops.specs.Effects.{IsMadeOf}

-- The words of the record at this address: its value, which the operation makes of the old one, the key, and the header, which is stored
-- once more with bit 62 where the entry was lost.
pub data IsRecordWord (c : Trial) (told : Told) (addr place word : ℕ) : Type 0 where
  ItsValue : {slot entry : ℕ} {old : Option ℕ} {is_current : Bool} → IsMadeOf c told slot entry old is_current → place ≡ record_place c.places addr rec.Value → word ≡ word_of (value_applied old c.request.op) → IsRecordWord c told addr place word
  ItsKey : place ≡ record_place c.places addr rec.Key → word ≡ (key_of c.request.op).0 → IsRecordWord c told addr place word
  ItsHeader : {slot entry : ℕ} → HasEntry c told slot entry → place ≡ record_place c.places addr rec.Header → word ≡ entry_addr entry + mark c.request.version.0 * 2 ^ 48 → IsRecordWord c told addr place word
  Invalid : {slot entry : ℕ} → HasEntry c told slot entry → IsLost told slot entry (new_entry addr (home_at c).tag) → place ≡ record_place c.places addr rec.Header → word ≡ entry_addr entry + mark c.request.version.0 * 2 ^ 48 + 2 ^ 62
      → IsRecordWord c told addr place word

-- a word of the record whose address was reserved
pub record StoresWord (c : Trial) (told : Told) (place word : ℕ) : Type 0 where
  pub addr : ℕ
  pub reserved : Won told (shared_place one.Tail) addr (addr + 1)
  pub its_word : IsRecordWord c told addr place word

abbrev pub TellsEffect : Option Reply → Type 0
TellsEffect effect = (its : Reply) × (effect ≡ Some its)

-- A Cas sets bit 63 of a latch that nobody holds, reserves an address at the tail, takes an overflow bucket, or links one behind the last
-- bucket of the search, where the try has linked none before. Any other one makes an effect where it is won.
pub data CasMay (c : Trial) (told : Told) (place old new reply : ℕ) (effect : Option Reply) : Type 0 where
  SetsBit : place ≡ latch_place c → old < one_share → new ≡ old + exclusive_bit → CasMay c told place old new reply effect
  Reserves : place ≡ shared_place one.Tail → new ≡ old + 1 → CasMay c told place old new reply effect
  Takes : place ≡ shared_place one.Taken → new ≡ old + 1 → CasMay c told place old new reply effect
  Links : {links base : ℕ} (number : ℕ) → ComesTo c told links false base → place ≡ base + bucket_slots → link_of old ≡ 0 → 0 < number → number ≤ c.places.overflow → new ≡ old + number → CasMay c told place old new reply effect
  Publishes : (reply ≡ old → TellsEffect effect) → CasMay c told place old new reply effect

-- what it expects was loaded there
pub record CasIsSo (c : Trial) (told : Told) (place old new reply : ℕ) (effect : Option Reply) : Type 0 where
  pub its_old : Loaded told place old
  pub may : CasMay c told place old new reply effect

-- a share is added or taken off, or bit 63 is cleared
abbrev pub IsLatchChange : ℕ → Type 0
IsLatchChange number = (number ≡ one_share) ⊎ (number ≡ 2 ^ 64 - one_share) ⊎ (number ≡ exclusive_bit)

-- each ask, with its reply and the effect that is told then
abbrev pub AskIsSo : Trial → Told → Ask TryAnswer → ℕ → Option Reply → Type 0
AskIsSo c told (Load place) reply effect = ⊤
AskIsSo c told (Store place word) reply effect = StoresWord c told place word
AskIsSo c told (Swap place word) reply effect = TellsEffect effect
AskIsSo c told (Cas place old new) reply effect = CasIsSo c told place old new reply effect
AskIsSo c told (Add place number) reply effect = (place ≡ latch_place c) × IsLatchChange number
AskIsSo c told (Done its) reply effect = ⊤
AskIsSo c told ask reply effect = ⊥

-- over every list of replies
abbrev pub EachAskIsSo : Type 0
EachAskIsSo = (c : Trial) (spare : ℕ) (replies : List ℕ) (reply : ℕ)
    → AskIsSo c (told_by c (trial_begun c spare) replies) (try_ask c.places (try_run c (trial_begun c spare) replies)) reply (try_run c (trial_begun c spare) (reply ∷ replies)).effect
