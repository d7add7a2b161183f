-- Four runs over one home: one that keeps to the rules, and three that break one of them.
use Rattle.std.specs.Prelude.{◌≡◌, ℕ, Some, List, [], ◌∷◌}
use Rattle.std.specs.FinMap.{empty}
use Rattle.fkv_map.specs.declared.operations.Op.{Op}
use Rattle.fkv_map.specs.declared.operations.Op.TheVariants.{Upsert, Add}
use Rattle.fkv_map.specs.declared.operations.Reply.{Reply}
use Rattle.fkv_map.specs.declared.operations.Reply.TheVariants.{Nothing, Number, Found, Absent}
use Rattle.fkv_map.specs.declared.history.HistoryEntry.{HistoryEntry}
use Rattle.fkv_map.specs.Map.{Map}
use Rattle.fkv_map.specs.History.{IsLegal}
use Rattle.law_log.specs.Trace.{history_of, CallsUpdate, GivesResult, CallsRead, AnswersRead, ReadsAreFresh}
use Rattle.law_log.specs.Chains.{Cell, Unborn}
use Rattle.law_log.specs.Ghosts.{Ghosts, GhostEvent, Tells, FindsEntry, TakesValue, Reserves, Publishes, Changes, Fixes, NotCalled, shown, ghost_run}
use Rattle.law_log.specs.Enabled.{AreEnabled, IsOpened}

abbrev pub no_map : Map
no_map = empty

-- every key has the same home
abbrev pub one_home : ℕ → ℕ
one_home key = 0

-- nothing is in the log
abbrev pub empty_log : Ghosts
empty_log = record {
  log = record { cells = λ a. Unborn; chains = λ h. []; fixed = 1; history = [] };
  trace = [];
  reads = λ reader. NotCalled;
}

abbrev pub entry_of : ℕ → ℕ → Op → Reply → HistoryEntry
entry_of session serial op reply = record { session = session; serial = record { 0 = serial }; op = op; reply = reply }

abbrev pub cell_of : ℕ → ℕ → ℕ → Cell
cell_of key value previous = record { key = key; value = Some value; version = 1; previous = previous }

-- keys 5 and 6: session 0 gives them values, session 1 adds to one
abbrev pub gives_70 : Op
gives_70 = Upsert (record { 0 = 5 }) (record { 0 = 70 })

abbrev pub adds_5 : Op
adds_5 = Add (record { 0 = 5 }) 5

abbrev pub gives_8 : Op
gives_8 = Upsert (record { 0 = 6 }) (record { 0 = 8 })

-- Key 5 gets 70 by a record; a read begins, and meets it; 5 is added in place, and the read takes the sum; a record of key 6 comes before it.
abbrev pub kept_run : List GhostEvent
kept_run =
    Tells (AnswersRead 0 (Found (record { 0 = 75 })))
    ∷ Publishes 2
    ∷ TakesValue 0
    ∷ Tells (GivesResult 1 1 (Number (record { 0 = 75 })))
    ∷ Changes 1 (entry_of 1 1 adds_5 (Number (record { 0 = 75 })))
    ∷ Reserves 2 (entry_of 0 2 gives_8 Nothing) (cell_of 6 8 1)
    ∷ Tells (CallsUpdate 0 2 gives_8)
    ∷ Tells (CallsUpdate 1 1 adds_5)
    ∷ FindsEntry 0
    ∷ Tells (CallsRead 0 5)
    ∷ Tells (GivesResult 0 1 Nothing)
    ∷ Publishes 1
    ∷ Reserves 1 (entry_of 0 1 gives_70 Nothing) (cell_of 5 70 0)
    ∷ Tells (CallsUpdate 0 1 gives_70)
    ∷ []

-- the log is opened, the run keeps to the rules, and both keys show what they have
pub record IsKept : Type 0 where
  pub opened : IsOpened one_home no_map 0 empty_log
  pub enabled : AreEnabled one_home empty_log kept_run
  pub key_5 : shown one_home (ghost_run one_home empty_log kept_run).log 5 ≡ Some 75
  pub key_6 : shown one_home (ghost_run one_home empty_log kept_run).log 6 ≡ Some 8

-- Two sessions add 5 to 70: one changes the record in place after the other has made a new one of it. Both are told 75.
abbrev pub both_add : List GhostEvent → List GhostEvent
both_add between =
    Publishes 2 ∷ Changes 1 (entry_of 1 1 adds_5 (Number (record { 0 = 75 }))) ∷ Reserves 2 (entry_of 0 2 adds_5 (Number (record { 0 = 75 }))) (cell_of 5 75 1)
    ∷ Tells (CallsUpdate 1 1 adds_5) ∷ Tells (CallsUpdate 0 2 adds_5) ∷ between

abbrev pub gets_70 : List GhostEvent
gets_70 = Publishes 1 ∷ Reserves 1 (entry_of 0 1 gives_70 Nothing) (cell_of 5 70 0) ∷ Tells (CallsUpdate 0 1 gives_70) ∷ []

abbrev pub IsLegalRun : List GhostEvent → Type 0
IsLegalRun events = IsLegal no_map (history_of (ghost_run one_home empty_log events).log.history)

-- the record was fixed, and is changed all the same
abbrev pub ChangesWhatIsFixed : Type 0
ChangesWhatIsFixed = IsLegalRun (both_add (Fixes 2 ∷ gets_70)) → ⊥

-- the record wasn't fixed, and the new one is made of it all the same
abbrev pub CopiesWhatMayChange : Type 0
CopiesWhatMayChange = IsLegalRun (both_add gets_70) → ⊥

-- a read that was called behind the result is answered what the opening had
abbrev pub gives_opening : List GhostEvent
gives_opening = Tells (AnswersRead 0 Absent) ∷ Tells (CallsRead 0 5) ∷ Tells (GivesResult 0 1 Nothing) ∷ gets_70

abbrev pub GivesOpeningState : Type 0
GivesOpeningState = ReadsAreFresh no_map (ghost_run one_home empty_log gives_opening).log.history (ghost_run one_home empty_log gives_opening).trace → ⊥
