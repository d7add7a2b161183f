-- The limits of a shape's seven sizes, and of the numbers that a store counts.
use Rattle.std.specs.Prelude.{◌≡◌, ℕ, ◌-◌, ◌*◌, ◌^◌, ◌≤◌, ◌<◌, if◌then◌else◌, Bool, true, false, ◌&&◌, nat_le, nat_lt, IsTrue}
use Rattle.std.specs.Int.{is_power_of_two}
use Rattle.fkv_base.specs.declared.classes.StoreClass.{StoreClass}
use Rattle.fkv_base.specs.declared.classes.StoreClass.TheVariants.{Specified, Living}

-- at most so many sessions, and requests of one session that are pending
abbrev pub max_sessions : ℕ
max_sessions = 32

abbrev pub max_pending : ℕ
max_pending = 64

-- and so many requests of one session a living store keeps room for: those that are pending, and one to spare
abbrev pub max_in_hand : ℕ
max_in_hand = 65

-- so many drain slots
abbrev pub drain_slots : ℕ
drain_slots = 8

-- at most 2^24 buckets, as many overflow buckets, and 2^30 pages of the log on the device
abbrev pub max_bucket_bits : ℕ
max_bucket_bits = 24

abbrev pub max_buckets : ℕ
max_buckets = 16777216

abbrev pub max_overflow : ℕ
max_overflow = 16777216

-- the slots of them all, seven each
abbrev pub most_slots : ℕ
most_slots = 234881024

abbrev pub max_disk_pages : ℕ
max_disk_pages = 1073741824

-- the records of a page, the frames, the records that all frames hold together, at most 2^28, and those of the log, at most 2^46
abbrev pub min_page : ℕ
min_page = 4

abbrev pub max_page : ℕ
max_page = 65536

abbrev pub min_frames : ℕ
min_frames = 2

abbrev pub max_frames : ℕ
max_frames = 4096

abbrev pub max_ring : ℕ
max_ring = 268435456

abbrev pub max_log : ℕ
max_log = 70368744177664

-- what a specified store has of these at most
abbrev pub small_bucket_bits : ℕ
small_bucket_bits = 10

abbrev pub small_page : ℕ
small_page = 1024

abbrev pub small_frames : ℕ
small_frames = 64

abbrev pub small_overflow : ℕ
small_overflow = 1024

abbrev pub small_disk_pages : ℕ
small_disk_pages = 65536

-- The last version that there is, and that of a store: a specified one has the versions that are their own marks.
abbrev pub last_version : ℕ
last_version = 2 ^ 45 - 1

abbrev pub last_of : StoreClass → ℕ
last_of Specified = 8191
last_of Living = last_version

-- the last serial of a session

abbrev pub last_serial : ℕ
last_serial = 2 ^ 48 - 1

-- from this epoch on nobody raises it: so raises that are under way together stay below 2^48
abbrev pub last_epoch : ℕ
last_epoch = 2 ^ 48 - 1024

-- a power of two within two bounds
abbrev pub is_ring_size : ℕ → ℕ → ℕ → Bool
is_ring_size size least most = is_power_of_two size && nat_le least size && nat_le size most

-- 2^bucket_bits buckets; the records of a page and the frames are powers of two; at least one frame is not mutable
pub record IsShape (bucket_bits page frames mutable sessions overflow disk_pages : ℕ) : Type 0 where
  pub few_buckets : bucket_bits ≤ max_bucket_bits
  pub page_size : IsTrue (is_ring_size page min_page max_page)
  pub ring_size : IsTrue (is_ring_size frames min_frames max_frames)
  pub some_mutable : 1 ≤ mutable
  pub some_read_only : mutable < frames
  pub some_session : 1 ≤ sessions
  pub few_sessions : sessions ≤ max_sessions
  pub few_overflow : overflow ≤ max_overflow
  pub some_disk : 1 ≤ disk_pages
  pub few_disk : disk_pages ≤ max_disk_pages

-- the same as a test
abbrev pub is_shape : ℕ → ℕ → ℕ → ℕ → ℕ → ℕ → ℕ → Bool
is_shape bucket_bits page frames mutable sessions overflow disk_pages =
    nat_le bucket_bits max_bucket_bits && is_ring_size page min_page max_page && is_ring_size frames min_frames max_frames && nat_le 1 mutable && nat_lt mutable frames
    && nat_le 1 sessions && nat_le sessions max_sessions && nat_le overflow max_overflow && nat_le 1 disk_pages && nat_le disk_pages max_disk_pages

-- sizes are small if none of five is above what a specified store has
pub record IsSmall (bucket_bits page frames overflow disk_pages : ℕ) : Type 0 where
  pub small_buckets : bucket_bits ≤ small_bucket_bits
  pub small_pages : page ≤ small_page
  pub small_ring : frames ≤ small_frames
  pub small_chains : overflow ≤ small_overflow
  pub small_disk : disk_pages ≤ small_disk_pages

-- the same as a test
abbrev pub is_small : ℕ → ℕ → ℕ → ℕ → ℕ → Bool
is_small bucket_bits page frames overflow disk_pages =
    nat_le bucket_bits small_bucket_bits && nat_le page small_page && nat_le frames small_frames && nat_le overflow small_overflow && nat_le disk_pages small_disk_pages

-- a specified store has small sizes; a living one may have them
abbrev pub IsOfClass : StoreClass → Type 0 → Type 0
IsOfClass class small = class ≡ Specified → small

abbrev pub is_specified : StoreClass → Bool
is_specified Specified = true
is_specified Living = false

-- What the calls of a living store leave to its polls. Of the index: an overflow bucket for each request in hand.
abbrev pub margin_buckets : StoreClass → ℕ → ℕ
margin_buckets Specified sessions = 0
margin_buckets Living sessions = max_in_hand * sessions

-- Of the log: for each of them a record for each session, since one that is published can make each other session lose one.
abbrev pub margin_records : StoreClass → ℕ → ℕ
margin_records Specified sessions = 0
margin_records Living sessions = max_in_hand * sessions * sessions

-- so many overflow buckets, or as many as there may be
abbrev pub overflow_within : ℕ → ℕ
overflow_within wanted = if nat_lt wanted max_overflow then wanted else max_overflow
