-- Which overflow bucket a session has to spare, by what its try asked and was replied: none is taken twice, linked twice, or lost.
use Rattle.std.specs.Prelude.{◌≡◌, ℕ, ◌+◌, ◌<◌, ◌≤◌, ◌==◌, ◌&&◌, not, if◌then◌else◌, Bool, true, List, [], ◌∷◌, ⊤}
use Rattle.fkv_plane.specs.declared.asks.Ask.{Ask}
use Rattle.fkv_plane.specs.declared.asks.Ask.TheVariants.{Cas, Done}
use Rattle.fkv_plane.specs.declared.places.Places.{Places}
use Rattle.fkv_plane.specs.declared.places.SharedWord.TheVariants as one
use Rattle.fkv_plane.specs.Places.{shared_place}
use Rattle.fkv_index.specs.Slots.{link_of}
use Rattle.fkv_index.specs.Finding.{spare_of}
use Rattle.fkv_index.specs.IndexWorld.{is_bucket_place, is_link_place}
use Rattle.fkv_ops.specs.declared.answers.TryAnswer.{TryAnswer}
use Rattle.fkv_ops.specs.Trying.{TryState, try_ask}
use Rattle.fkv_ops.specs.TryRun.{Trial, trial_begun, try_run, Exchange, exchanges}

-- the count of overflow buckets that are taken
abbrev pub is_count : ℕ → Bool
is_count place = place == shared_place one.Taken

-- the Cas is of the eighth word of a bucket, and changes where that leads on
abbrev pub is_linking : Places → ℕ → ℕ → ℕ → Bool
is_linking p place old new = is_bucket_place p place && is_link_place p place && not (link_of new == link_of old)

-- Behind one ask: a Cas that was won on the count leaves its new number to spare, one that was won on a link leaves none, and no other ask
-- changes it.
abbrev pub spare_after : Places → Ask TryAnswer → ℕ → ℕ → ℕ
spare_after p (Cas place old new) reply spare = if reply == old then (if is_count place then new else if is_linking p place old new then 0 else spare) else spare
spare_after p ask reply spare = spare

-- the bucket that is to spare behind these exchanges, 0 where none is; it was this one before them
abbrev pub spare_told : Places → ℕ → List Exchange → ℕ
spare_told p spare [] = spare
spare_told p spare (it ∷ before) = spare_after p it.ask it.reply (spare_told p spare before)

-- The count is raised by one, and only where there is none to spare; and where a bucket is linked it is the one to spare, behind one that
-- led nowhere.
pub record SpareIsUsed (p : Places) (spare place old new : ℕ) : Type 0 where
  pub takes : is_count place ≡ true → (spare ≡ 0) × (new ≡ old + 1)
  pub links : is_linking p place old new ≡ true → (0 < spare) × (link_of old ≡ 0) × (new ≡ old + spare)

abbrev pub UsesSpare : Places → ℕ → Ask TryAnswer → Type 0
UsesSpare p spare (Cas place old new) = SpareIsUsed p spare place old new
UsesSpare p spare ask = ⊤

-- over every list of replies, at each ask. A spare that is given with a number past the overflow buckets is none (spare_of)
abbrev pub EachUsesSpare : Type 0
EachUsesSpare = (c : Trial) (spare : ℕ) (replies : List ℕ)
    → UsesSpare c.places (spare_told c.places (spare_of c.places spare) (exchanges c (trial_begun c spare) replies)) (try_ask c.places (try_run c (trial_begun c spare) replies))

-- what the try tells its session to have to spare
pub record TellsSpare (c : Trial) (spare : ℕ) (its : List Exchange) (t : TryState) : Type 0 where
  pub told : spare ≤ c.places.overflow → t.spare ≡ spare_told c.places spare its
  pub few : spare ≤ c.places.overflow → t.spare ≤ c.places.overflow
  pub any : spare_of c.places t.spare ≡ spare_told c.places (spare_of c.places spare) its

-- over every list of replies, at the end of the try
abbrev pub EachTellsSpare : Type 0
EachTellsSpare = (c : Trial) (spare : ℕ) (replies : List ℕ) (answer : TryAnswer) → try_ask c.places (try_run c (trial_begun c spare) replies) ≡ Done answer
    → TellsSpare c spare (exchanges c (trial_begun c spare) replies) (try_run c (trial_begun c spare) replies)
