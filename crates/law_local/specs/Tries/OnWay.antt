-- Where one is down the chain of a key's home, by the log alone.
use Rattle.std.specs.Prelude.{◌≡◌, ℕ, ◌<◌}
use Rattle.law_log.specs.Chains.{Cell, Unborn, Published, IsWithin}
use Rattle.law_log.specs.Ghosts.{Log, first_from}
use Rattle.law_log.specs.Enabled.{AreChains}

-- Down the chain of the key's home from one address one comes to another: both stand in the chain, or are 0, and what stands first of the key
-- from the one stands first from the other.
pub record IsOnWay (home : ℕ → ℕ) (log : Log) (key from to : ℕ) : Type 0 where
  pub begins : IsWithin from (log.chains (home key))
  pub within : IsWithin to (log.chains (home key))
  pub same : first_from home log key from ≡ first_from home log key to

-- one comes to a record there, and it lies below this address
pub record ComesBelow (home : ℕ → ℕ) (log : Log) (key from to low : ℕ) : Type 0 where
  pub way : IsOnWay home log key from to
  pub some : 0 < to
  pub below : to < low

-- there is no record of the key from there on
pub record FindsNone (home : ℕ → ℕ) (log : Log) (key from : ℕ) : Type 0 where
  pub begins : IsWithin from (log.chains (home key))
  pub none : first_from home log key from ≡ 0

-- the first record of the key from there on is at this address, and of this version
pub record IsFoundAt (home : ℕ → ℕ) (log : Log) (key from at version : ℕ) : Type 0 where
  pub begins : IsWithin from (log.chains (home key))
  pub first : first_from home log key from ≡ at
  pub cell : Cell
  pub its : log.cells at ≡ Published cell
  pub its_key : cell.key ≡ key
  pub its_version : cell.version ≡ version

-- What rows rest on in a log: its chains, that there is no record at 0, and that something is fixed.
pub record IsOrderly (home : ℕ → ℕ) (log : Log) : Type 0 where
  pub chains : AreChains home log
  pub none : log.cells 0 ≡ Unborn
  pub some_fixed : 0 < log.fixed
