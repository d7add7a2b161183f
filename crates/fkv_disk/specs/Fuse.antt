-- What a fuse shows, and what it makes of the images that its device may leave.
use Rattle.std.specs.Prelude.{◌⊎◌, ℕ, zero, suc, List, [], ◌∷◌, length, Bool, true, false, nat_lt, nat_le, ◌||◌, refl}
use Rattle.std.proofs.Common.{inl, inr, arith}
use Rattle.fkv_disk.specs.Bytes.{AreBytes, listed}
use Rattle.fkv_disk.specs.Calls.{Call, Write}
use Rattle.fkv_disk.specs.Device.{Torn}
use Rattle.fkv_disk.specs.Kinds.{Kind, Reading, Writing, Syncing, Foretold, after_kind}
use Rattle.fkv_disk.specs.declared.fuses.FuseState.{FuseState}
use Rattle.fkv_disk.specs.declared.fuses.FuseState.TheVariants.{Sound, Armed, Blown, BlownAt}

-- the next call passes
abbrev pub passes : FuseState → Bool
passes Sound = true
passes (Armed left) = nat_lt 0 left
passes Blown = false
passes (BlownAt at n) = false

-- after a read or a sync
abbrev pub burned : FuseState → FuseState
burned Sound = Sound
burned (Armed zero) = Blown
burned (Armed (suc left)) = Armed left
burned Blown = Blown
burned (BlownAt at n) = BlownAt at n

-- after a write of n bytes at an offset: it keeps the range of the write at which it blew
abbrev pub burned_at : ℕ → ℕ → FuseState → FuseState
burned_at at n Sound = Sound
burned_at at n (Armed zero) = BlownAt at n
burned_at at n (Armed (suc left)) = Armed left
burned_at at n Blown = Blown
burned_at at n (BlownAt from m) = BlownAt from m

-- which of the calls to come are refused: each from the fuse's count on, and before it those that its device refuses
abbrev pub fuse_refuses : FuseState → (ℕ → Bool) → ℕ → Bool
fuse_refuses Sound device = device
fuse_refuses (Armed left) device = λ i. nat_le left i || device i
fuse_refuses Blown device = λ i. true
fuse_refuses (BlownAt at n) device = λ i. true

-- it refuses each call, for good
abbrev pub is_blown : FuseState → Bool
is_blown Sound = false
is_blown (Armed left) = false
is_blown Blown = true
is_blown (BlownAt at n) = true

-- after it was set to pass so many calls: one that has blown stays blown
abbrev pub armed : ℕ → FuseState → FuseState
armed k Sound = Armed k
armed k (Armed left) = Armed k
armed k Blown = Blown
armed k (BlownAt at n) = BlownAt at n

-- What a crash may leave: where the fuse blew at a write, an image of the device with that write torn over it.
abbrev pub FuseLeaves : FuseState → (List ℕ → Type 0) → List ℕ → Type 0
FuseLeaves Sound leaves image = leaves image
FuseLeaves (Armed left) leaves image = leaves image
FuseLeaves Blown leaves image = leaves image
FuseLeaves (BlownAt at n) leaves image = (old : List ℕ) × leaves old × Torn at n old image × AreBytes image

-- What a crash since a time may have left: no time passes for the device once the fuse has blown.
abbrev pub FuseLeftSince : FuseState → (ℕ → List ℕ → Type 0) → (List ℕ → Type 0) → ℕ → List ℕ → Type 0
FuseLeftSince Sound since leaves t image = since t image
FuseLeftSince (Armed left) since leaves t image = since t image
FuseLeftSince Blown since leaves t image = since t image
FuseLeftSince (BlownAt at n) since leaves t image = since t image ⊎ FuseLeaves (BlownAt at n) leaves image

pub fuse_counts_now : (state : FuseState) (since : ℕ → List ℕ → Type 0) (leaves : List ℕ → Type 0) (t : ℕ) (image : List ℕ) → (leaves image → since t image) → FuseLeaves state leaves image → FuseLeftSince state since leaves t image
fuse_counts_now Sound since leaves t image counts left = counts left
fuse_counts_now (Armed k) since leaves t image counts left = counts left
fuse_counts_now Blown since leaves t image counts left = counts left
fuse_counts_now (BlownAt at n) since leaves t image counts left = inr left

-- bytes that no crash changed are torn over themselves
pub torn_same : (at n : ℕ) (image : List ℕ) → Torn at n image image
torn_same at n image = record { no_shorter = omega arith; no_longer = omega arith; outside = λ i below out. refl }

pub fuse_only_now : (state : FuseState) (since : ℕ → List ℕ → Type 0) (leaves : List ℕ → Type 0) (now : ℕ) (image : List ℕ) → (since now image → leaves image) → (leaves image → AreBytes image) → FuseLeftSince state since leaves now image → FuseLeaves state leaves image
fuse_only_now Sound since leaves now image only fits left = only left
fuse_only_now (Armed k) since leaves now image only fits left = only left
fuse_only_now Blown since leaves now image only fits left = only left
fuse_only_now (BlownAt at n) since leaves now image only fits (inl past) = (image, only past, torn_same at n image, fits (only past))
fuse_only_now (BlownAt at n) since leaves now image only fits (inr torn) = torn

-- what the device may leave is left where nothing is torn
pub fuse_leaves_whole : (state : FuseState) (leaves : List ℕ → Type 0) (image : List ℕ) → AreBytes image → leaves image → FuseLeaves state leaves image
fuse_leaves_whole Sound leaves image fits left = left
fuse_leaves_whole (Armed k) leaves image fits left = left
fuse_leaves_whole Blown leaves image fits left = left
fuse_leaves_whole (BlownAt at n) leaves image fits left = (image, left, torn_same at n image, fits)

pub fuse_leaves_bytes : (state : FuseState) (leaves : List ℕ → Type 0) (image : List ℕ) → (leaves image → AreBytes image) → FuseLeaves state leaves image → AreBytes image
fuse_leaves_bytes Sound leaves image fits left = fits left
fuse_leaves_bytes (Armed k) leaves image fits left = fits left
fuse_leaves_bytes Blown leaves image fits left = fits left
fuse_leaves_bytes (BlownAt at n) leaves image fits left = left.3

-- the calls of the device and, as the newest, the write at which the fuse blew, with bytes that don't matter
abbrev pub with_refused : FuseState → List Call → List Call
with_refused Sound calls = calls
with_refused (Armed left) calls = calls
with_refused Blown calls = calls
with_refused (BlownAt at n) calls = Write at (listed n (λ k. 0)) false ∷ calls

-- after this call
abbrev pub burned_by : Kind → FuseState → FuseState
burned_by Reading state = burned state
burned_by (Writing at bytes done) state = burned_at at (length bytes) state
burned_by (Syncing done) state = burned state

-- what a device says of the calls to come once a call came, if the fuse let it pass
abbrev pub passed_on : Bool → Kind → (List Kind → Foretold) → List Kind → Foretold
passed_on true kind says = after_kind kind says
passed_on false kind says = says

-- What a fuse says of itself once these calls have come: what its device says once those that pass have come, and the write at which it blew.
abbrev pub fuse_foretells : FuseState → (List Kind → Foretold) → List Kind → Foretold
fuse_foretells state says [] = record { holds = (says []).holds; opening = (says []).opening; calls = with_refused state (says []).calls }
fuse_foretells state says (kind ∷ later) = fuse_foretells (burned_by kind state) (passed_on (passes state) kind says) later
