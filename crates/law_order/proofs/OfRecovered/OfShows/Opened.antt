-- What counted as the store was opened, in the log of a life.
use Rattle.std.proofs.Common.{◌≡◌, inl, inr, ℕ, ◌<◌, ◌≤◌, ◌∙◌, refl, sym, subst}
use Rattle.std.proofs.lemmas.Bool.{cases_lt}
use Rattle.fkv_base.specs.declared.shapes.Shape.{Shape}
use Rattle.law_opening.specs.Below.fkv_chains.Entries.{Counts}
use Rattle.law_opening.specs.Below.fkv_pairs.Pairs.{CountsAtHome}
use Rattle.fkv_record.specs.declared.records.Record.{Record}
use Rattle.law_opening.specs.Below.fkv_scan.Log as scan
use Rattle.law_opening.specs.Below.fkv_scan.Log.{record_home}
use Rattle.law_log.specs.Chains.{Cell, Logged, Published, Unborn}
use Rattle.law_log.specs.Ghosts.{Log}
use Rattle.law_opening.specs.Log.Records.{HasWhatCounts, cell_of}
use Rattle.law_commit.specs.Below.law_paper.Paper.Values.{TellsCell}
use Rattle.law_commit.specs.Below.law_refine.Events.GhostEvents.{home_in}

-- the home of a record is that of its key
home_is : (bits : ℕ) (x : Record) → record_home bits x ≡ home_in bits x.key.0
unfolding record_home
home_is bits x = refl

pub of_homes : (was : scan.Log) (shape : Shape) → shape ≡ was.shape → (x : Record) → record_home was.shape.bucket_bits x ≡ home_in shape.bucket_bits x.key.0
of_homes was shape same x = subst (λ (s : Shape). record_home s.bucket_bits x ≡ home_in shape.bucket_bits x.key.0) same (home_is shape.bucket_bits x)

none_there : (logged : Logged) (cell : Cell) → logged ≡ Unborn → logged ≡ Published cell → ⊥
none_there logged cell none is = cc

-- A record that counted is published, so it lies below the opened tail, and the log has it as it was.
pub tells_counted : (was : scan.Log) (first log : Log) (tail : ℕ) → HasWhatCounts was first → ((a : ℕ) → a < tail → log.cells a ≡ first.cells a) → ((a : ℕ) → tail ≤ a → first.cells a ≡ Unborn) → (h a : ℕ) (x : Record) → Counts was h a x → TellsCell (log.cells a) x
tells_counted was first log tail has stays unborn h a x counts =
    let home : CountsAtHome was a x = subst (λ (k : ℕ). Counts was k a x) (sym counts.valid.same) counts in
    let there : first.cells a ≡ Published (cell_of was x) = has.counted a x home in
    elim (cases_lt a tail) [
      | inl low ↦ record { cell = cell_of was x; its = stays a low ∙ there; its_key = refl; its_value = refl }
      | inr high ↦ absurd (none_there (first.cells a) (cell_of was x) (unborn a high) there)
    ]
