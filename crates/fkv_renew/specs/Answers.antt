-- What the program answers, by what it is asked for.
use Rattle.std.specs.Prelude.{◌≡◌, ◌⊎◌, ℕ, List, codes}
use Rattle.fkv_base.specs.declared.faults.Fault.{Fault}
use Rattle.fkv_base.specs.declared.faults.Fault.TheVariants.{BadShape, Device}
use Rattle.fkv_texts.specs.Lines.{line_of}
use Rattle.fkv_texts.specs.Refusals.{last_refusal}
use Rattle.clap.specs.Walk.{Text}
use Rattle.fkv_renew.specs.Asked.{AreRefusedWords, AskFor}
use Rattle.fkv_renew.specs.Files.{Files}
use Rattle.fkv_renew.specs.Renewals.{IsRefusal, IsSavedFrom}
use Rattle.fkv_renew.specs.Saved.{saved_text}
use Rattle.fkv_renew.specs.declared.renewals.Refusal.{Refusal}
use Rattle.fkv_renew.specs.declared.renewals.Refusal.TheVariants as refusal
use Rattle.fkv_renew.specs.declared.saved.Saved.{Saved}
use Rattle.fkv_renew.specs.declared.words.Asked.{Asked}

-- the fault by which it is told, and the status
abbrev pub fault_of_refusal : Refusal → Fault
fault_of_refusal (refusal.Sizes sizes) = BadShape
fault_of_refusal (refusal.Unopened fault) = fault
fault_of_refusal (refusal.Unfit fault) = fault
fault_of_refusal other = Device

abbrev pub status_of_refusal : Refusal → ℕ
status_of_refusal (refusal.Sizes sizes) = 2
status_of_refusal other = 3

-- The answer to what is asked for: what is saved, with status 0; or the refusal.
abbrev pub IsAnswerTo : {D : Type 0} → Files D → Asked → ℕ → List ℕ → Type 0
IsAnswerTo files asked status text =
    ((saved : Saved) × IsSavedFrom files asked saved × (status ≡ 0) × (text ≡ saved_text saved))
    ⊎ ((its : Refusal) × IsRefusal files asked its × (status ≡ status_of_refusal its) × (text ≡ last_refusal (fault_of_refusal its)))

-- The answer to the words: words that are refused give the line `options`, with status 2.
abbrev pub IsAnswer : {D : Type 0} → Files D → List Text → ℕ → List ℕ → Type 0
IsAnswer files words status text =
    ((asked : Asked) × AskFor words asked × IsAnswerTo files asked status text)
    ⊎ (AreRefusedWords words × (status ≡ 2) × (text ≡ line_of (codes "options")))

-- words of which one is no text are refused so too
abbrev pub IsUnreadAnswer : ℕ → List ℕ → Type 0
IsUnreadAnswer status text = (status ≡ 2) × (text ≡ line_of (codes "options"))
