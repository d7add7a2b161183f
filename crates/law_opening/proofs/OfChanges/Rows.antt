-- What a session that attempts something knows of the log by its control state: whatever it goes by is published. And that it stays so as the log grows.
use Rattle.std.proofs.Common.{◌≡◌, inl, inr, ℕ, ◌≤◌}
use Rattle.std.specs.Prelude.{⊤}
use Rattle.fkv_base.specs.declared.numbers.Addr.{Addr}
use Rattle.fkv_index.specs.Slots.{entry_addr}
use Rattle.law_refine.specs.Below.fkv_log.TheLoading.{Loading}
use Rattle.law_refine.specs.Below.fkv_log.TheLoading.TheVariants as load
use Rattle.law_refine.specs.Below.fkv_ops.HeaderWords.{header_said}
use Rattle.law_refine.specs.Below.fkv_ops.Trying.{TryState}
use Rattle.law_refine.specs.Below.fkv_ops.Walking.{WalkState}
use Rattle.law_refine.specs.Below.fkv_ops.HeaderSaid.{HeaderSaid}
use Rattle.law_refine.specs.Below.fkv_ops.HeaderSaid.TheVariants.{Says, Spoiled}
use Rattle.law_refine.specs.Below.fkv_ops.OldValue.{OldValue}
use Rattle.law_refine.specs.Below.fkv_ops.OldValue.TheVariants.{InMemory, Known}
use Rattle.law_refine.specs.Below.fkv_ops.TheTrying.{Trying}
use Rattle.law_refine.specs.Below.fkv_ops.TheTrying.TheVariants.{Walks, LoadsSafe, SwapsValue, LoadsCurrent, ChangesValue, LoadsAnswer, TakesExclusive, LoadsOld, Appends}
use Rattle.law_refine.specs.Below.fkv_ops.WalkAnswer.{WalkAnswer}
use Rattle.law_refine.specs.Below.fkv_ops.WalkAnswer.TheVariants as answer
use Rattle.law_refine.specs.Below.fkv_ops.TheWalking.{Walking}
use Rattle.law_refine.specs.Below.fkv_ops.TheWalking.TheVariants.{Ended, Meets, HasFound, LoadsValue}
use Rattle.law_refine.specs.Below.fkv_pending.Attempting.{AttemptState}
use Rattle.law_refine.specs.Below.fkv_pending.TheAttempting.{Attempting}
use Rattle.law_refine.specs.Below.fkv_pending.TheAttempting.TheVariants.{Tries}
use Rattle.law_log.specs.Ghosts.{Log}
use Rattle.law_refine.specs.Events.Published.{IsPublished}
use Rattle.law_opening.specs.Changes.Linked.{IsLed}

-- ---- a walk
-- a published record stands there, at or above the head
abbrev pub IsAt : Log → ℕ → ℕ → Type 0
IsAt log head a = IsPublished (log.cells a) × (head ≤ a)

-- a header leads to a published record, or to none
abbrev pub LeadsSaid : Log → HeaderSaid → Type 0
LeadsSaid log (Says previous version) = IsLed log previous.0
LeadsSaid log Spoiled = ⊤

abbrev pub LeadsOn : Log → ℕ → Type 0
LeadsOn log header = LeadsSaid log (header_said header)

abbrev pub LoadSo : Log → Addr → Loading → Type 0
LoadSo log addr (load.LoadsHeader its) = its ≡ addr
LoadSo log addr (load.LoadsKey its header) = LeadsOn log header
LoadSo log addr (load.HasKey its header key) = LeadsOn log header
LoadSo log addr loading = ⊤

-- a walk doesn't end with a record that it has found: there it waits
abbrev pub EndSo : WalkAnswer → Type 0
EndSo (answer.Found addr version) = ⊥
EndSo its = ⊤

abbrev pub WalkSo : Log → ℕ → Loading → Walking → Type 0
WalkSo log head loading (Ended its) = EndSo its
WalkSo log head loading (Meets addr) = IsAt log head addr.0 × LoadSo log addr loading
WalkSo log head loading (HasFound addr version) = IsAt log head addr.0
WalkSo log head loading step = ⊤

abbrev pub WalkKnown : Log → WalkState → Type 0
WalkKnown log w = IsLed log (entry_addr w.entry) × WalkSo log w.head.0 w.loading w.step

-- ---- a try
-- its walk stands at the record that it has found, or is past it
abbrev pub IsFound : Walking → Type 0
IsFound (HasFound addr version) = ⊤
IsFound step = ⊥

abbrev pub IsPast : Walking → Type 0
IsPast LoadsValue = ⊤
IsPast (Ended its) = ⊤
IsPast step = ⊥

abbrev pub OldSo : Walking → OldValue → Type 0
OldSo step InMemory = IsFound step
OldSo step (Known word) = ⊤

-- the record that it makes leads to this address
abbrev pub TrySo : Log → WalkState → ℕ → Trying → Type 0
TrySo log w previous Walks = WalkSo log w.head.0 w.loading w.step
TrySo log w previous (LoadsSafe addr version) = IsFound w.step
TrySo log w previous (SwapsValue addr) = IsAt log w.head.0 addr.0
TrySo log w previous (LoadsCurrent addr) = IsPast w.step × IsAt log w.head.0 addr.0
TrySo log w previous (ChangesValue addr old) = IsAt log w.head.0 addr.0
TrySo log w previous LoadsAnswer = IsPast w.step
TrySo log w previous (TakesExclusive old) = OldSo w.step old
TrySo log w previous LoadsOld = IsPast w.step
TrySo log w previous (Appends its) = IsLed log previous
TrySo log w previous step = ⊤

abbrev pub made_previous : TryState → ℕ
made_previous t = t.append.its_words.header.previous.0

abbrev pub TryKnown : Log → TryState → Type 0
TryKnown log t = IsLed log (entry_addr t.walk.entry) × TrySo log t.walk (made_previous t) t.step

-- ---- an attempt
abbrev pub AttemptSo : Log → TryState → Attempting → Type 0
AttemptSo log trial Tries = TryKnown log trial
AttemptSo log trial step = ⊤

abbrev pub AttemptKnown : Log → AttemptState → Type 0
AttemptKnown log a = AttemptSo log a.trial a.step

-- ---- as the log grows
-- what is published stays so
abbrev pub Stays : Log → Log → Type 0
Stays log log' = (a : ℕ) → IsPublished (log.cells a) → IsPublished (log'.cells a)

module _ (log log' : Log) (stays : Stays log log') where
  pub led_grows : (a : ℕ) → IsLed log a → IsLed log' a
  led_grows a (inl none) = inl none
  led_grows a (inr there) = inr (stays a there)

  at_grows : (head a : ℕ) → IsAt log head a → IsAt log' head a
  at_grows head a at = (stays a at.0, at.1)

  said_grows : (said : HeaderSaid) → LeadsSaid log said → LeadsSaid log' said
  said_grows (Says previous version) leads = led_grows previous.0 leads
  said_grows Spoiled leads = tt

  load_grows : (addr : Addr) (loading : Loading) → LoadSo log addr loading → LoadSo log' addr loading
  load_grows addr (load.LoadsHeader its) so = so
  load_grows addr (load.LoadsKey its header) so = said_grows (header_said header) so
  load_grows addr (load.HasKey its header key) so = said_grows (header_said header) so
  load_grows addr loading so = so

  walk_grows : (head : ℕ) (loading : Loading) (step : Walking) → WalkSo log head loading step → WalkSo log' head loading step
  walk_grows head loading (Ended its) so = so
  walk_grows head loading (Meets addr) so = (at_grows head addr.0 so.0, load_grows addr loading so.1)
  walk_grows head loading (HasFound addr version) so = at_grows head addr.0 so
  walk_grows head loading step so = so

  try_grows : (w : WalkState) (previous : ℕ) (step : Trying) → TrySo log w previous step → TrySo log' w previous step
  try_grows w previous Walks so = walk_grows w.head.0 w.loading w.step so
  try_grows w previous (SwapsValue addr) so = at_grows w.head.0 addr.0 so
  try_grows w previous (LoadsCurrent addr) so = (so.0, at_grows w.head.0 addr.0 so.1)
  try_grows w previous (ChangesValue addr old) so = at_grows w.head.0 addr.0 so
  try_grows w previous (Appends its) so = led_grows previous so
  try_grows w previous step so = so

  attempt_row_grows : (trial : TryState) (step : Attempting) → AttemptSo log trial step → AttemptSo log' trial step
  attempt_row_grows trial Tries so = (led_grows (entry_addr trial.walk.entry) so.0, try_grows trial.walk (made_previous trial) trial.step so.1)
  attempt_row_grows trial step so = so

  pub attempt_grows : (a : AttemptState) → AttemptKnown log a → AttemptKnown log' a
  attempt_grows a so = attempt_row_grows a.trial a.step so
