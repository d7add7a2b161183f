-- A crash: the image that it leaves, the store that is recovered from it, and the report.
use Rattle.std.specs.Prelude.{◌≡◌, ◌↔◌, ℕ, Bool, true, false, IsTrue, List, [], ◌++◌}
use Rattle.std.specs.FinMap.{empty, entries}
use Rattle.fkv_base.specs.declared.faults.Fault.{Fault}
use Rattle.fkv_base.specs.declared.faults.Fault.TheVariants.{Device, Memory}
use Rattle.fkv_base.specs.declared.numbers.Key.{Key}
use Rattle.fkv_base.specs.declared.numbers.Value.{Value}
use Rattle.fkv_map.specs.History.{content, kept}
use Rattle.fkv_map.specs.Map.{as_numbers}
use Rattle.fkv_map.specs.declared.history.HistoryEntry.{HistoryEntry}
use Rattle.fkv_opening.specs.Faults.{IsFaultOf}
use Rattle.fkv_opening.specs.declared.opened_store.Opened.{Opened}
use Rattle.fkv_playing.specs.Players.{PlayerState}
use Rattle.fkv_texts.specs.Refusals.{last_refusal}
use Rattle.fkv_texts.specs.Reports.{check_text, report_text}
use Rattle.fkv_texts.specs.declared.reports.Opening.TheVariants as opening
use Rattle.fkv_runs.specs.Openings.{Begins, IsRecovered}

-- what a check prints behind a report, where the run has checks
abbrev pub check_behind : Bool → Bool → List ℕ
check_behind true agrees = check_text agrees
check_behind false agrees = []

-- of the updates in hand those are kept that the points keep, where they are kept at all
abbrev pub kept_behind : Bool → List HistoryEntry → Opened → List HistoryEntry
kept_behind true history opened = kept history opened.points.items
kept_behind false history opened = []

-- whether the recovered pairs are those of a replay of the updates that are kept; without a check they count as such
abbrev pub IsReplay : List HistoryEntry → List (Key × Value) → Bool → Type 0
IsReplay history pairs agrees = IsTrue agrees ↔ (as_numbers pairs ≡ entries (content empty history))

abbrev pub Agrees : Bool → List HistoryEntry → List (Key × Value) → Bool → Type 0
Agrees true history pairs agrees = IsReplay history pairs agrees
Agrees false history pairs agrees = agrees ≡ true

-- the report of a crash, and its check
abbrev pub crash_text : Bool → Opened → List (Key × Value) → Bool → List ℕ
crash_text checks opened pairs agrees = report_text opening.Crash opened.number opened.points.items pairs ++ check_behind checks agrees

-- The store is recovered from the image of the crash, over a new device that holds that image and refuses no call, and with it the next life begins; the report shows it.
pub record IsCrash {D : Type 0} (holds : List ℕ → D → Type 0) (image : List ℕ) (checks : Bool) (before after : PlayerState D) (agrees : Bool) (text : List ℕ) : Type 0 where
  pub opened : Opened
  pub pairs : List (Key × Value)
  pub recovered : IsRecovered image opened pairs
  pub device : D
  pub reads : holds image device
  pub begins : Begins opened device (kept_behind checks before.history opened) checks after
  pub checked : Agrees checks (kept before.history opened.points.items) pairs agrees
  pub says : text ≡ crash_text checks opened pairs agrees

-- a refusal has its cause: a fault of the image, or the device failed, or memory was refused
abbrev pub IsCause : List ℕ → Fault → Type 0
IsCause image Memory = Unit {0}
IsCause image Device = Unit {0}
IsCause image other = IsFaultOf image other

-- A run that can't go on prints the refusal, and ends with it; memory that is refused is none.
abbrev pub IsRefusal : List ℕ → List ℕ → Type 0
IsRefusal image text = (fault : Fault) × (fault ≡ Memory → ⊥) × IsCause image fault × (text ≡ last_refusal fault)
