-- The order law's log with which the life of an opened store begins: the chains of the image.
use Rattle.std.specs.Prelude.{ℕ, zero, suc, ◌%◌, ◌^◌, nat_eq, cond, Bool, false, ◌||◌, List, [], ◌∷◌}
use Rattle.fkv_entries.specs.declared.home_entries.HomeEntry.{HomeEntry}
use Rattle.fkv_record.specs.Begin.{from_or_none}
use Rattle.law_paper.specs.Below.fkv_opening.Entries.{entry_home}
use Rattle.law_paper.specs.Below.fkv_opening.TheOpened.{Opened}
use Rattle.law_paper.specs.Below.fkv_opening.Warm.{record_word}
use Rattle.law_refine.specs.Below.fkv_ops.Values.{value_of}
use Rattle.law_log.specs.Chains.{Cell, Logged, Unborn, Published}
use Rattle.law_log.specs.Ghosts.{Log, Ghosts, NotCalled}
use Rattle.law_refine.specs.Events.GhostEvents.{home_in}

-- the record of the image at an address; all that an opened store has counts as of its commit's version, and what lies below its log's begin is led to by nothing
unfoldable pub cell_at : List ℕ → Opened → ℕ → Cell
cell_at image o a = record {
  key = record_word image o.shape a 1;
  value = value_of (record_word image o.shape a 2);
  version = o.number.0;
  previous = from_or_none o.begin.0 (record_word image o.shape a 0 % 2 ^ 48);
}

-- the addresses from one down, each where the record at the one before leads, to the first that is 0; at most so many
unfoldable pub chain_down : (ℕ → ℕ) → ℕ → ℕ → List ℕ
chain_down leads zero a = []
chain_down leads (suc most) a = cond (nat_eq a 0) [] (a ∷ chain_down leads most (leads a))

-- where the entry of a home leads, 0 where it has none
unfoldable pub entry_of : List HomeEntry → ℕ → ℕ
entry_of [] its_home = 0
entry_of (x ∷ entries) its_home = cond (nat_eq (entry_home x) its_home) x.entry.addr.0 (entry_of entries its_home)

-- the chain of a home, from its entry down
abbrev pub chain_of : List ℕ → Opened → ℕ → List ℕ
chain_of image o its_home = chain_down (λ a. let cell = cell_at image o a in cell.previous) o.tail.0 (entry_of o.entries.items its_home)

-- whether an address stands in a chain
unfoldable pub is_in : ℕ → List ℕ → Bool
is_in a [] = false
is_in a (b ∷ older) = nat_eq b a || is_in a older

-- an address has the record there where that stands in the chain of its key's home, and else none
unfoldable pub logged_at : List ℕ → Opened → ℕ → Logged
logged_at image o a = let cell = cell_at image o a in cond (is_in a (chain_of image o (home_in o.shape.bucket_bits cell.key))) (Published cell) Unborn

-- the log: all of it is fixed, and nothing has taken effect
abbrev pub opening_log : List ℕ → Opened → Log
opening_log image o = record { cells = logged_at image o; chains = chain_of image o; fixed = o.tail.0; history = [] }

-- Nothing has been told, and no read has been called.
abbrev pub opening_ghosts : List ℕ → Opened → Ghosts
opening_ghosts image o = record { log = opening_log image o; trace = []; reads = λ reader. NotCalled }
