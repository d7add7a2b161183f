-- What keeps updates of two versions apart at one home: who tries, what it has seen, and which latches it has. No machine is named.
use Rattle.std.specs.Prelude.{◌≡◌, ◌⊎◌, ℕ, ◌+◌, ◌*◌, ◌<◌, ◌≤◌, Bool, true, false, Option, Some}
use Rattle.law_log.specs.Chains.{version_at}
use Rattle.law_log.specs.Ghosts.{Log}
use Rattle.law_log.specs.Enabled.{IsFixed, NoneAbove}
use Rattle.law_log.specs.Trace.{IsIn}

-- A request in a try: its home and version, and the rank of the view by which its session goes. `shares` and `owns`: it has its bucket's latch, shared or
-- alone. `is_past`: its walk has ended and passed the test for a later version, and its effect has yet to come. `copies`: the record that it makes a new one
-- of, from where it loads the old value up to the publish.
pub record Trier : Type 0 where
  pub home : ℕ
  pub version : ℕ
  pub rank : ℕ
  pub shares : Bool
  pub owns : Bool
  pub is_past : Bool
  pub copies : Option ℕ

-- A request that waits, or whose try hasn't walked yet: its home and version, and whether it shares its bucket's latch.
pub record Waiter : Type 0 where
  pub home : ℕ
  pub version : ℕ
  pub shares : Bool

-- A session of a rank goes by a version alone: in wait-flush, at rest and in prepare, when no request of an older version is left.
abbrev pub IsSettled : ℕ → ℕ → Type 0
IsSettled rank version = (rank + 1 ≡ 5 * version) ⊎ ((rank ≡ 5 * version) ⊎ (rank ≡ 5 * version + 1))

-- It is between the version before and this one: in in-progress and in wait-pending.
abbrev pub IsBetween : ℕ → ℕ → Type 0
IsBetween rank version = (rank + 3 ≡ 5 * version) ⊎ (rank + 2 ≡ 5 * version)

-- A try is of its session's version, or at a poll of the one before, if its session is between the two.
abbrev pub IsOfRank : Trier → Type 0
IsOfRank r = IsSettled r.rank r.version ⊎ (IsBetween r.rank r.version ⊎ IsBetween r.rank (r.version + 1))

-- What is known of a try, where no request of a version up to `quiet` is left.
pub record Knows (quiet : ℕ) (log : Log) (r : Trier) : Type 0 where
  pub its_rank : IsOfRank r
  -- it is left itself, and of the next version, unless its session is between the version before and its own
  pub there : quiet < r.version
  pub settled : IsSettled r.rank r.version → r.version ≤ quiet + 1
  pub polled : IsBetween r.rank (r.version + 1) → r.version ≤ quiet + 1
  -- in prepare, and at a poll of the version before, it shares its latch once its walk is past
  pub prepares : r.is_past ≡ true → r.rank ≡ 5 * r.version + 1 → r.shares ≡ true
  pub polls : r.is_past ≡ true → IsBetween r.rank (r.version + 1) → r.shares ≡ true
  -- once its walk is past its home has no later version
  pub none_above : r.is_past ≡ true → NoneAbove log r.home r.version
  -- it holds a latch alone between versions only
  pub owner : r.owns ≡ true → IsBetween r.rank r.version

-- Of one that waits: it is left, and if it shares its latch its home has no later version.
pub record KnowsWaiter (quiet : ℕ) (log : Log) (w : Waiter) : Type 0 where
  pub there : quiet < w.version
  pub none_above : w.shares ≡ true → NoneAbove log w.home w.version

-- Of one that takes effect: if it is between versions it holds its latch alone, or its home has a record of its version already.
abbrev pub HoldsHome : Log → Trier → Type 0
HoldsHome log r = IsBetween r.rank r.version → (r.owns ≡ true) ⊎ ((a : ℕ) × IsIn a (log.chains r.home) × (version_at (log.cells a) ≡ r.version))

-- Of one that copies: the record is fixed, or of an older version, and then it holds its latch alone or no request of that version is left.
abbrev pub CopiesAlone : ℕ → Log → Trier → Type 0
CopiesAlone quiet log r = (x : ℕ) → r.copies ≡ Some x → IsFixed log x ⊎ ((version_at (log.cells x) < r.version) × ((r.owns ≡ true) ⊎ (version_at (log.cells x) ≤ quiet)))

-- Two tries of different sessions. At one home, if the one holds its latch alone the other has none. If the one's session is between versions, the other's has
-- come as far as prepare of the version before. Nor has it come further than wait-flush of this one.
pub record AreTwo (r s : Trier) : Type 0 where
  pub apart : r.home ≡ s.home → r.owns ≡ true → (s.shares ≡ false) × (s.owns ≡ false)
  pub close : IsBetween r.rank r.version → 5 * r.version ≤ s.rank + 4
  pub next : IsBetween r.rank r.version → s.rank + 1 ≤ 5 * r.version

-- A try of one session and a request of another that waits: if the one holds its latch alone at that home, the other doesn't share it.
abbrev pub AreApart : Trier → Waiter → Type 0
AreApart r w = r.home ≡ w.home → r.owns ≡ true → w.shares ≡ false

-- ---- what can't be
-- An update takes effect at a home at which one of an older version is past its walk.
pub record PassesOlder (quiet : ℕ) (log : Log) (r s : Trier) : Type 0 where
  pub two : AreTwo r s
  pub takes_effect : Knows quiet log r
  pub holds : HoldsHome log r
  pub other : Knows quiet log s
  pub same : r.home ≡ s.home
  pub past : s.is_past ≡ true
  pub older : s.version < r.version

-- An update takes effect at a home at which one of an older version waits with its latch shared.
pub record PassesWaiter (quiet : ℕ) (log : Log) (r : Trier) (w : Waiter) : Type 0 where
  pub apart : AreApart r w
  pub takes_effect : Knows quiet log r
  pub holds : HoldsHome log r
  pub other : KnowsWaiter quiet log w
  pub same : r.home ≡ w.home
  pub shares : w.shares ≡ true
  pub older : w.version < r.version

-- An update is past its walk, and may change a record of its version in place, since that isn't fixed. Another one at the same home copies that record.
pub record ChangesCopied (quiet : ℕ) (log : Log) (r s : Trier) (x : ℕ) : Type 0 where
  pub two : AreTwo r s
  pub copier : Knows quiet log r
  pub alone : CopiesAlone quiet log r
  pub other : Knows quiet log s
  pub same : r.home ≡ s.home
  pub past : s.is_past ≡ true
  pub its_version : version_at (log.cells x) ≡ s.version
  pub mutable : IsFixed log x → ⊥
  pub copies : r.copies ≡ Some x
