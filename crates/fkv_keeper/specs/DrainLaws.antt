-- What a call of the keeper has met of the drain slots where it ends for want of one.
use Rattle.std.specs.Prelude.{◌≡◌, ◌≢◌, ℕ, zero, suc, ◌<◌, ◌⊎◌, Bool, true, false, List, [], ◌∷◌, ◌++◌}
use Rattle.fkv_base.specs.Limits.{drain_slots, last_epoch}
use Rattle.fkv_base.specs.declared.shapes.Shape.{Shape}
use Rattle.fkv_plane.specs.declared.asks.Ask.TheVariants.{Load, Cas}
use Rattle.fkv_plane.specs.declared.places.Places.{Places}
use Rattle.fkv_plane.specs.declared.places.SharedWord.TheVariants as one
use Rattle.fkv_plane.specs.Places.{shared_place, drain_place}
use Rattle.fkv_commit.specs.Exchanges.{Exchange, exchange, exchanged}
use Rattle.fkv_keeper.specs.Keeping.{KeeperState, keeper_ask}
use Rattle.fkv_keeper.specs.KeeperRun.{KeeperEvent, BeginsTurn, BeginsCommit, Replies, is_in_hand, keeper_run}

-- a call that begins has told nothing yet
abbrev pub told_anew : Bool → List Exchange → List Exchange
told_anew true told = told
told_anew false told = []

abbrev pub told_after : Shape → Places → KeeperState → KeeperEvent → List Exchange → List Exchange
told_after shape p s BeginsTurn told = told_anew (is_in_hand s.step) told
told_after shape p s (BeginsCommit kind) told = told_anew (is_in_hand s.step) told
told_after shape p s (Replies reply granted) told = exchanged (keeper_ask shape p s) reply told
told_after shape p s event told = told

-- what the call that has begun last has asked and was replied, the newest first
unfoldable pub call_told : Shape → Places → KeeperState → List KeeperEvent → List Exchange
call_told shape p opening [] = []
call_told shape p opening (event ∷ before) = told_after shape p (keeper_run shape p opening before) event (call_told shape p opening before)

-- A drain slot was met last and was not free: its word was loaded and was not 0; or it was 0, and the Cas that came next was lost.
abbrev pub WasPassed : ℕ → List Exchange → List Exchange → Type 0
WasPassed slot before told =
    (word : ℕ) × (word ≢ 0)
    × ((told ≡ exchange (Load (drain_place slot)) word ∷ before)
    ⊎ (told ≡ exchange (Cas (drain_place slot) 0 1) word ∷ exchange (Load (drain_place slot)) 0 ∷ before))

-- So were the first so many, from slot 0 up, each once, and nothing else was asked in between.
abbrev pub WerePassed : ℕ → List Exchange → List Exchange → Type 0
WerePassed zero before told = told ≡ before
WerePassed (suc slot) before told = (between : List Exchange) × WerePassed slot before between × WasPassed slot between told

-- A slot was sought in vain among the first so many: the epoch was loaded, and was below its last, and then they were met, and none was free.
pub record WereSought (slots : ℕ) (told : List Exchange) : Type 0 where
  pub before : List Exchange
  pub epoch : ℕ
  pub below : epoch < last_epoch
  pub passed : WerePassed slots (exchange (Load (shared_place one.Epoch)) epoch ∷ before) told

-- At some moment of the call that has begun last all slots were sought in vain.
pub record HasSoughtAll (told : List Exchange) : Type 0 where
  pub then : List Exchange
  pub sought : WereSought drain_slots then
  pub since : List Exchange
  pub its : told ≡ since ++ then
