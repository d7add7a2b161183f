-- A call of a session that sits at its table.
use Rattle.std.specs.Prelude.{◌≡◌, List, [], ◌∷◌}
use Rattle.fkv_map.specs.declared.operations.Call.{Call}
use Rattle.fkv_map.specs.declared.operations.Call.TheVariants as call
use Rattle.fkv_map.specs.declared.operations.Op.{Op}
use Rattle.fkv_session.specs.Answers.{IsAnswerTold}
use Rattle.fkv_session.specs.declared.answers.Answer.{Answer}
use Rattle.fkv_session.specs.declared.answers.Told.{Told}
use Rattle.law_threads.specs.Below.fkv_world.Runs.{World}
use Rattle.law_threads.specs.Durable.{ItsDurableNeverFalls, RecoversItsDurable, TellsItsDurable}
use Rattle.law_threads.specs.Laws.{IsWithin}
use Rattle.fkv_threads.specs.Models.{IsSitting, Sitting}
use Rattle.fkv_threads.specs.Runs.{IsLawful, IsRun, OfThisRun, run_of}

module _ {K : Type 0} (at : K → World) where
  -- The session has run this call at its table, and all that the thread law says of a call is so of it. Then it sits there as before.
  pub record IsCallOf (s : Sitting K) (call : Call) (answer : Answer) (s' : Sitting K) : Type 0 where
    pub number : s'.number ≡ s.number
    pub key : s'.key ≡ s.key
    pub table : s'.table ≡ s.table
    pub sits : IsSitting at s'
    pub called : IsRun at s.key (run_of s.number call answer s.seen s'.seen)
    pub in_lives : IsLawful at s.key (run_of s.number call answer s.seen s'.seen) IsWithin
    pub durable : OfThisRun at s.key (run_of s.number call answer s.seen s'.seen) IsWithin TellsItsDurable
    pub never_falls : OfThisRun at s.key (run_of s.number call answer s.seen s'.seen) IsWithin ItsDurableNeverFalls
    pub recovered : OfThisRun at s.key (run_of s.number call answer s.seen s'.seen) IsWithin (RecoversItsDurable at)

  -- It was told this. The answer to the call is the one that says so, with what its last poll has finished.
  abbrev pub IsToldCallOf : Sitting K → Call → Told → Sitting K → Type 0
  IsToldCallOf s call told s' = (answer : Answer) → IsAnswerTold told s'.finished answer → IsCallOf s call answer s'

  -- It has run these operations one after another, and was told this of each.
  abbrev pub HaveRun : Sitting K → List Op → List Told → Sitting K → Type 0
  HaveRun s [] [] s' = s ≡ s'
  HaveRun s (op ∷ ops) (told ∷ later) s' = (between : Sitting K) × IsToldCallOf s (call.Op op) told between × HaveRun between ops later s'
  HaveRun s [] (told ∷ later) s' = ⊥
  HaveRun s (op ∷ ops) [] s' = ⊥
