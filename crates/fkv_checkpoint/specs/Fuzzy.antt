-- What a copy has, while others go on: entries that stood, each home once, and none left out that stood all the while.
use Rattle.std.specs.Prelude.{◌≡◌, ◌≤◌, ◌⊎◌, ℕ, List, [], ◌∷◌, ⊤}
use Rattle.std.specs.List.{AllByRecursion}
use Rattle.fkv_plane.specs.declared.places.Places.{Places}
use Rattle.fkv_index.specs.declared.homes.Home.{Home}
use Rattle.fkv_index.specs.Slots.{entry_addr}
use Rattle.fkv_index.specs.IndexWorld.{IndexWorld, index_opening}
use Rattle.fkv_index.specs.OneEntry.{IsIndexAt, IsHome}
use Rattle.fkv_index.specs.Entries.{entry_of}
use Rattle.fkv_checkpoint.specs.declared.copying.CopyStep.TheVariants.{Ended}
use Rattle.fkv_checkpoint.specs.Triples.{CopiedEntry}
use Rattle.fkv_checkpoint.specs.CopyWorld.{CopyWorld, CopyEvent, CopyBegins, CopyMoves, IndexMoves, copy_run, copy_opening}

-- the index as it was when the copy began
unfoldable pub begun_at : CopyWorld → List CopyEvent → IndexWorld
begun_at opening [] = opening.index
begun_at opening (CopyBegins ∷ before) = (copy_run opening before).index
begun_at opening (CopyMoves ∷ before) = begun_at opening before
begun_at opening (IndexMoves event ∷ before) = begun_at opening before

-- the home has an entry of this address
pub record IsEntryThen (w : IndexWorld) (e : CopiedEntry) : Type 0 where
  pub its_home : IsHome w.now.places e.home
  pub some : entry_of w e.home ≡ 0 → ⊥
  pub its_addr : entry_addr (entry_of w e.home) ≡ e.addr

-- it had it at a step of the copy
abbrev pub HasStood : CopyWorld → List CopyEvent → CopiedEntry → Type 0
HasStood opening [] e = ⊥
HasStood opening (CopyBegins ∷ before) e = ⊥
HasStood opening (CopyMoves ∷ before) e = IsEntryThen (copy_run opening before).index e ⊎ HasStood opening before e
HasStood opening (IndexMoves event ∷ before) e = HasStood opening before e

-- each entry that was copied stood at a step of the copy
abbrev pub CopiedHaveStood : CopyWorld → List CopyEvent → Type 0
CopiedHaveStood opening events = AllByRecursion (HasStood opening events) (copy_run opening events).triples

-- no home stands twice
abbrev pub AreApart : List CopiedEntry → Type 0
AreApart [] = ⊤
AreApart (e ∷ rest) = AllByRecursion (λ o. o.home ≡ e.home → ⊥) rest × AreApart rest

abbrev pub HomesOnce : CopyWorld → List CopyEvent → Type 0
HomesOnce opening events = AreApart (copy_run opening events).triples

-- the home was copied, with this address or a greater one
abbrev pub HasCopy : List CopiedEntry → Home → ℕ → Type 0
HasCopy [] home addr = ⊥
HasCopy (e ∷ rest) home addr = ((e.home ≡ home) × (addr ≤ e.addr)) ⊎ HasCopy rest home addr

-- At the end of a copy each home that had an entry when it began has a triple, whose address is that entry's or a newer one's. (An entry
-- stays for good, so this is each home that had one at every step.)
abbrev pub NoneLeftOut : CopyWorld → List CopyEvent → Type 0
NoneLeftOut opening events = (home : Home) → (copy_run opening events).copying.step ≡ Ended → IsHome (begun_at opening events).now.places home → (entry_of (begun_at opening events) home ≡ 0 → ⊥)
    → HasCopy (copy_run opening events).triples home (entry_addr (entry_of (begun_at opening events) home))

-- what holds at each moment of each run that begins with an index in order
abbrev pub AtEachCopy : (CopyWorld → List CopyEvent → Type 0) → Type 0
AtEachCopy P = (p : Places) (words : List ℕ) (lists : ℕ → List ℕ) (actors : ℕ) (events : List CopyEvent) → IsIndexAt (index_opening p words lists actors) → P (copy_opening p words lists actors) events
