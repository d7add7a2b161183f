-- What the log of a sweep says of the log that it is made of.
use Rattle.std.proofs.Common.{◌≡◌, ℕ, ◌∙◌, inl, inr, refl, sym, ap, true, List, [], ◌∷◌}
use Rattle.std.specs.Prelude.{is_none, Option, Some, None}
use Rattle.fkv_base.specs.declared.numbers.Key.{Key}
use Rattle.fkv_sweep.specs.SweptLogs as swept
use Rattle.fkv_sweep.specs.SweptLogs.{HasKeyAt, Standing}
use Rattle.law_log.specs.Chains.{Cell, Logged, Unborn, Reserved, Published, Dropped}
use Rattle.law_log.specs.Ghosts.{Log}
use Rattle.law_log.specs.Trace as trace
use Rattle.law_order.specs.Swept.Logs.{standing_at, swept_log}

-- ---- what stands in a chain
pub in_trace : (a : ℕ) (chain : List ℕ) → swept.IsIn a chain → trace.IsIn a chain
in_trace a [] is_in = is_in
in_trace a (b ∷ older) (inl same) = inl same
in_trace a (b ∷ older) (inr is_in) = inr (in_trace a older is_in)

pub in_swept : (a : ℕ) (chain : List ℕ) → trace.IsIn a chain → swept.IsIn a chain
in_swept a [] is_in = is_in
in_swept a (b ∷ older) (inl same) = inl same
in_swept a (b ∷ older) (inr is_in) = inr (in_swept a older is_in)

-- ---- what stands at an address is a published record
pub record StandsAs (logged : Logged) (it : Standing) : Type 0 where
  pub cell : Cell
  pub its : logged ≡ Published cell
  pub key : it.key.0 ≡ cell.key
  pub absent : it.absent ≡ is_none cell.value

pub stands_as : (logged : Logged) (it : Standing) → standing_at logged ≡ Some it → StandsAs logged it
stands_as (Published cell) it e =
    let same : it ≡ record { key = record { 0 = cell.key }; absent = is_none cell.value } = cc in
    record { cell = cell; its = refl; key = ap (λ (x : Standing). x.key.0) same; absent = ap (λ (x : Standing). x.absent) same }
stands_as Unborn it e = cc
stands_as (Reserved entry cell) it e = cc
stands_as (Dropped cell) it e = cc

-- absent is a record that shows no value
pub none_shown : (value : Option ℕ) → is_none value ≡ true → value ≡ None
none_shown None e = refl
none_shown (Some n) e = cc

-- ---- a record of a key
pub has_key_at : (log : Log) (key : Key) (a : ℕ) (cell : Cell) → log.cells a ≡ Published cell → cell.key ≡ key.0 → HasKeyAt (swept_log log) key a
has_key_at log key a cell e same = record { cell = record { key = record { 0 = cell.key }; absent = is_none cell.value }; stands = ap standing_at e; same = ap (λ (n : ℕ). record { 0 = n }) same }

pub record IsOfKey (log : Log) (key a : ℕ) : Type 0 where
  pub cell : Cell
  pub its : log.cells a ≡ Published cell
  pub same : cell.key ≡ key

pub is_of_key : (log : Log) (key : Key) (a : ℕ) → HasKeyAt (swept_log log) key a → IsOfKey log key.0 a
is_of_key log key a has =
    let its = stands_as (log.cells a) has.cell has.stands in
    record { cell = its.cell; its = its.its; same = sym its.key ∙ ap (λ (k : Key). k.0) has.same }
