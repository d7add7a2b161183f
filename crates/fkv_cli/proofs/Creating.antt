-- What crashes make of a new store in memory.
use Rattle.std.proofs.Common.{◌≡◌, ◌∙◌, ℕ, List, [], ◌∷◌, true, drop, refl, ap}
use Rattle.std.specs.Prelude.{◌++◌, replicate}
use Rattle.fkv_base.specs.declared.shapes.Shape.{Shape}
use Rattle.fkv_creating.specs.Created.{created_bytes, created_kinds, laid, laid_kinds}
use Rattle.fkv_disk.specs.Bytes.{written}
use Rattle.fkv_disk.specs.Calls.{Call, Write, Sync, torn_image}
use Rattle.fkv_disk.specs.Kinds.{Foretold, Kind, Writing, Syncing, noted}
use Rattle.fkv_runs.proofs.Shown.{reach_if_done, same_later}
use Rattle.fkv_runs.specs.Openings.{CrashesFrom, foretold_image}

-- four writes, with a sync behind each, leave what they have written, all of it synced
four_on : (image first second third fourth : List ℕ) (a b c d : ℕ) (later : List Kind) (torn : ℕ)
    → torn_image image (noted (Writing a first true ∷ Syncing true ∷ Writing b second true ∷ Syncing true ∷ Writing c third true ∷ Syncing true ∷ Writing d fourth true ∷ Syncing true ∷ later) []) torn
    ≡ torn_image (written (written (written (written image a first) b second) c third) d fourth) (noted later []) torn
four_on image first second third fourth a b c d later torn =
    let calls : List Call = Sync true ∷ Write d fourth true ∷ Sync true ∷ Write c third true ∷ Sync true ∷ Write b second true ∷ Sync true ∷ Write a first true ∷ [] in
    same_later later image calls (written (written (written (written image a first) b second) c third) d fourth) [] torn
    (record { read = refl; reach = reach_if_done image calls tt; touch = λ i. refl })

laid_on : (image block slot : List ℕ) (later : List Kind) (torn : ℕ) → torn_image image (noted (laid_kinds block slot ++ later) []) torn ≡ torn_image (laid image block slot) (noted later []) torn
unfolding laid laid_kinds
laid_on image block slot later torn = four_on image (replicate 1536 0) block (drop 8 slot) (165 ∷ []) 0 0 520 512 later torn

-- the calls that lay it are noted, and nothing else
pub crashes_of_created : {D : Type 0} (expects : D → List Kind → Foretold) (image : List ℕ) (shape : Shape) (old new : D) → CrashesFrom expects image old
    → ((later : List Kind) → expects new later ≡ expects old (created_kinds shape ++ later)) → CrashesFrom expects (created_bytes image shape) new
crashes_of_created expects image shape old new from noted_so = λ later torn.
    ap (λ (its : Foretold). foretold_image its torn) (noted_so later) ∙ from (created_kinds shape ++ later) torn
    ∙ laid_on image _ _ later torn
