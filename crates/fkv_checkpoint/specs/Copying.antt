-- How the index is copied into triples: for each bucket in order its slots and those of the overflow buckets that follow it. Behind the
-- seventh slot the link is loaded; where none follows comes the next bucket.
use Rattle.std.specs.Prelude.{ℕ, ◌+◌, ◌-◌, ◌*◌, ◌%◌, ◌^◌, ◌<◌, ◌≤◌, ◌≡◌, ◌==◌, ◌&&◌, ◌||◌, nat_lt, nat_le, if◌then◌else◌, Bool, false, List, [], ◌∷◌, ◌++◌, ⊤, Option, Some, None}
use Rattle.fkv_plane.specs.declared.asks.Ask.{Ask}
use Rattle.fkv_plane.specs.declared.asks.Ask.TheVariants.{Load, Done}
use Rattle.fkv_plane.specs.declared.places.Places.{Places}
use Rattle.fkv_plane.specs.Places.{bucket_place, overflow_place}
use Rattle.fkv_index.specs.Slots.{bucket_slots, is_entry, entry_addr, entry_tag, link_of}
use Rattle.fkv_checkpoint.specs.declared.copying.CopyStep.{CopyStep}
use Rattle.fkv_checkpoint.specs.declared.copying.CopyStep.TheVariants.{Ended, LoadsSlot, LoadsLink}
use Rattle.fkv_checkpoint.specs.declared.copying.Copying.{Copying}
use Rattle.fkv_checkpoint.specs.Triples.{CopiedEntry}

pub record Copier : Type 0 where
  pub places : Places
  pub copying : Copying
  -- what was copied so far, in the order of the loads
  pub triples : List CopiedEntry

-- an index has an entry in each of its slots, at most
abbrev pub most_copied : Places → ℕ
most_copied p = 7 * (p.buckets + p.overflow)

-- on to the first slot of a bucket, where there is one of that number
abbrev pub bucket_entered : Places → Copying → ℕ → Copying
bucket_entered p c bucket = if nat_lt bucket p.buckets then record c { bucket = bucket; base = bucket_place p bucket 0; step = LoadsSlot 0 } else record c { step = Ended }

-- a copy begins at the first bucket; it may follow as many links as there are overflow buckets
abbrev pub first_copying : Places → Copying
first_copying p = bucket_entered p (record { bucket = 0; base = 0; links = p.overflow; step = Ended }) 0

abbrev pub copy_begun : Places → Copier
copy_begun p = record { places = p; copying = first_copying p; triples = [] }

-- room that was got for a copy, if any was, is for a store with these places
abbrev pub IsRoomFor : Places → Option Places → Type 0
IsRoomFor p None = ⊤
IsRoomFor p (Some got) = got ≡ p

-- what each state asks
unfoldable pub copy_step_ask : ℕ → CopyStep → Ask (Unit {0})
copy_step_ask base Ended = Done tt
copy_step_ask base (LoadsSlot slot) = Load (base + slot)
copy_step_ask base LoadsLink = Load (base + bucket_slots)

abbrev pub copy_ask : Copying → Ask (Unit {0})
copy_ask c = copy_step_ask c.base c.step

-- the place of the word that each state loads, if it loads one
unfoldable pub step_word_due : ℕ → CopyStep → Option ℕ
step_word_due base Ended = None
step_word_due base (LoadsSlot slot) = Some (base + slot)
step_word_due base LoadsLink = Some (base + bucket_slots)

abbrev pub copy_word_due : Copying → Option ℕ
copy_word_due c = step_word_due c.base c.step

-- behind the last slot comes the link
abbrev pub slot_after : ℕ → CopyStep
slot_after slot = if nat_lt (slot + 1) bucket_slots then LoadsSlot (slot + 1) else LoadsLink

-- on to an overflow bucket, where there is one of that number and fewer were passed than there are; else to the next bucket
abbrev pub link_led : Places → Copying → ℕ → Copying
link_led p c number =
    if nat_lt 0 number && nat_le number p.overflow && nat_lt 0 c.links then record c { base = overflow_place p number 0; links = c.links - 1; step = LoadsSlot 0 } else bucket_entered p c (c.bucket + 1)

-- where the reply leads
unfoldable pub copy_step_next : Places → Copying → CopyStep → ℕ → Copying
copy_step_next p c Ended reply = c
copy_step_next p c (LoadsSlot slot) reply = record c { step = slot_after slot }
copy_step_next p c LoadsLink reply = link_led p c (link_of reply)

abbrev pub copy_next : Places → Copying → ℕ → Copying
copy_next p c reply = copy_step_next p c c.step reply

-- a slot's word that is an entry is copied, and no other
unfoldable pub slot_copied : ℕ → ℕ → List CopiedEntry
slot_copied bucket word = if is_entry word then record { home = record { bucket = bucket; tag = entry_tag word }; addr = entry_addr word } ∷ [] else []

unfoldable pub copied_at : Copying → CopyStep → ℕ → List CopiedEntry
copied_at c Ended reply = []
copied_at c (LoadsSlot slot) reply = slot_copied c.bucket reply
copied_at c LoadsLink reply = []

-- the copy after a reply
abbrev pub copy_after : Copier → ℕ → Copier
copy_after m reply = record m { copying = copy_next m.places m.copying reply; triples = m.triples ++ copied_at m.copying m.copying.step reply }

-- how many asks it has left at most: eight for each bucket and each link that may be followed
unfoldable pub step_asks_left : Places → Copying → CopyStep → ℕ
step_asks_left p c Ended = 0
step_asks_left p c (LoadsSlot slot) = 2 + (6 - slot) + 8 * c.links + 8 * (p.buckets - (c.bucket + 1))
step_asks_left p c LoadsLink = 1 + 8 * c.links + 8 * (p.buckets - (c.bucket + 1))

abbrev pub copy_asks_left : Places → Copying → ℕ
copy_asks_left p c = step_asks_left p c c.step

-- a copy goes on past so many buckets, and so many overflow buckets, without a rest
abbrev pub most_at_once : ℕ
most_at_once = 1024

-- a store that has more of either is copied in parts
abbrev pub is_parted : Places → Bool
is_parted p = nat_lt most_at_once p.buckets || nat_lt most_at_once p.overflow

-- how many buckets may come behind the one that is copied, overflow buckets among them
abbrev pub buckets_behind : Places → Copying → ℕ
buckets_behind p c = c.links + (p.buckets - (c.bucket + 1))

-- A copy in parts rests before the first slot of a bucket with which a multiple of so many are left. It rests nowhere else.
unfoldable pub step_rests : Places → Copying → CopyStep → Bool
step_rests p c Ended = false
step_rests p c (LoadsSlot slot) = (slot == 0) && is_parted p && ((buckets_behind p c + 1) % most_at_once == 0)
step_rests p c LoadsLink = false

abbrev pub copy_rests : Places → Copying → Bool
copy_rests p c = step_rests p c c.step

-- how many asks it has left up to its next rest, or to its end, at most
abbrev pub behind_in_part : Places → Copying → ℕ
behind_in_part p c = if is_parted p then buckets_behind p c % most_at_once else buckets_behind p c

unfoldable pub step_part_left : Places → Copying → CopyStep → ℕ
step_part_left p c Ended = 0
step_part_left p c (LoadsSlot slot) = 2 + (6 - slot) + 8 * behind_in_part p c
step_part_left p c LoadsLink = 1 + 8 * behind_in_part p c

abbrev pub part_asks_left : Places → Copying → ℕ
part_asks_left p c = step_part_left p c c.step

-- how many slots it may still load
abbrev pub step_slots_left : Places → Copying → CopyStep → ℕ
step_slots_left p c Ended = 0
step_slots_left p c (LoadsSlot slot) = (7 - slot) + 7 * c.links + 7 * (p.buckets - (c.bucket + 1))
step_slots_left p c LoadsLink = 7 * c.links + 7 * (p.buckets - (c.bucket + 1))

abbrev pub slots_left : Places → Copying → ℕ
slots_left p c = step_slots_left p c c.step

-- numbers of slots and buckets that there are
abbrev pub IsStepInRange : Places → Copying → CopyStep → Type 0
IsStepInRange p c Ended = ⊤
IsStepInRange p c (LoadsSlot slot) = (slot < bucket_slots) × (c.bucket < p.buckets)
IsStepInRange p c LoadsLink = c.bucket < p.buckets

pub record IsCopyingInRange (p : Places) (c : Copying) : Type 0 where
  pub bucket_fits : c.bucket < 2 ^ 32
  pub base_fits : c.base < 2 ^ 32
  pub links_fit : c.links < 2 ^ 32
  pub its_step : IsStepInRange p c c.step

-- and the buffer has room for all that may still come
pub record IsCopyInRange (p : Places) (c : Copying) (space held : ℕ) : Type 0 where
  pub its_copying : IsCopyingInRange p c
  pub its_space : space ≡ 16 * most_copied p
  pub fits : held + slots_left p c ≤ most_copied p
