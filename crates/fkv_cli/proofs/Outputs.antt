-- What is written for a script.
use Rattle.std.proofs.Common.{◌≡◌, ◌∙◌, ◌⊎◌, inl, inr, ℕ, Bool, List, Option, Some, None, sym, ap, subst, Global, String, string_bytes, Result, IfOk, OnErr, is_some}
use Rattle.std.proofs.lemmas.Result.{IfOk-weaker, on_err_weaker}
use Rattle.fkv_base.specs.declared.faults.Fault.{Fault}
use Rattle.fkv_base.specs.declared.faults.Fault.TheVariants.{BadShape, Device, Memory}
use Rattle.fkv_base.specs.declared.shapes.Shape.{Shape}
use Rattle.fkv_lines.specs.declared.scripts.Line.{Line}
use Rattle.fkv_lines.specs.declared.scripts.Opening as openings
use Rattle.fkv_lines.specs.declared.scripts.Opening.TheVariants as opening
use Rattle.fkv_lines.specs.declared.scripts.Sizes.{Sizes}
use Rattle.fkv_options.specs.declared.options.Options.{Options}
use Rattle.fkv_runs.specs.Below.fkv_playing.InTurn.{Writes}
use Rattle.fkv_runs.specs.Beginnings.{BreaksOff}
use Rattle.fkv_runs.specs.Pieces.{ArePieces}
use Rattle.fkv_runs.specs.declared.pieces.Piece.{Piece}
use Rattle.fkv_runs.proofs.Shown.{breaks_weaker}
use Rattle.fkv_cli.proofs.Appending.{writes_weaker}
use Rattle.fkv_cli.specs.Output.{AreSizes, Devices, HasSizes, IsRunInFile, IsRunInMemory, IsRunInNewFile, IsRunOfOldStore, IsRunOfScript, IsRunOfShape, IsRunOfStore, Places, Refuses, RefusesOld, path_in}

-- the pieces, as what was called says it, and as it is asked
pub pieces_said : (flag wanted : Bool) (lines its : List Line) (pieces listed : List Piece) → flag ≡ wanted → lines ≡ its → listed ≡ pieces → ArePieces flag lines pieces → ArePieces wanted its listed
pieces_said flag wanted lines its pieces listed e f k h =
    subst (λ (xs : List Piece). ArePieces wanted its xs) (sym k) (subst (λ (xs : List Line). ArePieces wanted xs pieces) f (subst (λ (b : Bool). ArePieces b lines pieces) e h))

-- a script whose first line opens a store
opened_run : {M F : Type 0} (devices : Devices M F) (options : Options) (said : Option openings.Opening) (first : openings.Opening) (lines : List Line) (pieces : List Piece) (status : ℕ) (text : List ℕ)
    → said ≡ Some first → ArePieces (is_some options.seed) lines pieces → IsRunOfShape devices options first pieces status text → IsRunOfScript devices options said lines status text
opened_run devices options said first lines pieces status text e are run = subst (λ (o : Option openings.Opening). IsRunOfScript devices options o lines status text) (sym e) (pieces, are, run)

-- a script that makes a store
new_run : {M F : Type 0} (devices : Devices M F) (options : Options) (said : Option openings.Opening) (first : openings.Opening) (sizes : Sizes) (shape : Shape) (lines : List Line) (pieces : List Piece) (status : ℕ) (text : List ℕ)
    → said ≡ Some first → first ≡ opening.Shape sizes → HasSizes sizes shape → ArePieces (is_some options.seed) lines pieces
    → IsRunOfStore devices options (Some shape) pieces status text (is_some options.file) → IsRunOfScript devices options said lines status text
new_run devices options said first sizes shape lines pieces status text e f has are run =
    opened_run devices options said (opening.Shape sizes) lines pieces status text (e ∙ ap Some f) are (inl (shape, has, run))

pub runs_new : {E M F : Type 0} (devices : Devices M F) (options : Options) (said : Option openings.Opening) (first : openings.Opening) (sizes : Sizes) (shape : Shape) (lines : List Line) (pieces : List Piece)
    (a b : Option (List ℕ)) (result : Result ℕ E) → said ≡ Some first → first ≡ opening.Shape sizes → HasSizes sizes shape → ArePieces (is_some options.seed) lines pieces
    → IfOk result (λ status. Writes (λ text. IsRunOfStore devices options (Some shape) pieces status text (is_some options.file)) a b)
    → IfOk result (λ status. Writes (IsRunOfScript devices options said lines status) a b)
runs_new devices options said first sizes shape lines pieces a b result e f has are h =
    IfOk-weaker result (λ status. Writes (λ text. IsRunOfStore devices options (Some shape) pieces status text (is_some options.file)) a b) (λ status. Writes (IsRunOfScript devices options said lines status) a b)
    (λ status. writes_weaker (λ text. IsRunOfStore devices options (Some shape) pieces status text (is_some options.file)) (IsRunOfScript devices options said lines status) a b
    (λ text. new_run devices options said first sizes shape lines pieces status text e f has are))
    h

pub new_breaks : {E M F : Type 0} (devices : Devices M F) (options : Options) (said : Option openings.Opening) (first : openings.Opening) (sizes : Sizes) (shape : Shape) (lines : List Line) (pieces : List Piece)
    (a b : Option (List ℕ)) (result : Result ℕ E) → said ≡ Some first → first ≡ opening.Shape sizes → HasSizes sizes shape → ArePieces (is_some options.seed) lines pieces
    → OnErr result (BreaksOff (λ text. IsRunOfStore devices options (Some shape) pieces 4 text (is_some options.file)) a b)
    → OnErr result (BreaksOff (IsRunOfScript devices options said lines 4) a b)
new_breaks devices options said first sizes shape lines pieces a b result e f has are h =
    on_err_weaker result
    (breaks_weaker (λ text. IsRunOfStore devices options (Some shape) pieces 4 text (is_some options.file)) (IsRunOfScript devices options said lines 4) a b
    (λ text. new_run devices options said first sizes shape lines pieces 4 text e f has are))
    h

-- a script whose sizes are none of a shape
shape_refused : {M F : Type 0} (devices : Devices M F) (options : Options) (said : Option openings.Opening) (first : openings.Opening) (sizes : Sizes) (fault : Fault) (lines : List Line) (pieces : List Piece) (status : ℕ) (text : List ℕ)
    → said ≡ Some first → first ≡ opening.Shape sizes → (AreSizes sizes → ⊥) → fault ≡ BadShape → ArePieces (is_some options.seed) lines pieces
    → Refuses fault 2 status text → IsRunOfScript devices options said lines status text
shape_refused devices options said first sizes fault lines pieces status text e f none bad are refusal =
    opened_run devices options said (opening.Shape sizes) lines pieces status text (e ∙ ap Some f) are (inr (none, subst (λ (its : Fault). Refuses its 2 status text) bad refusal))

pub refuses_shape : {E M F : Type 0} (devices : Devices M F) (options : Options) (said : Option openings.Opening) (first : openings.Opening) (sizes : Sizes) (fault : Fault) (lines : List Line) (pieces : List Piece)
    (a b : Option (List ℕ)) (result : Result ℕ E) → said ≡ Some first → first ≡ opening.Shape sizes → (AreSizes sizes → ⊥) → fault ≡ BadShape → ArePieces (is_some options.seed) lines pieces
    → IfOk result (λ told. Writes (Refuses fault 2 told) a b)
    → IfOk result (λ status. Writes (IsRunOfScript devices options said lines status) a b)
refuses_shape devices options said first sizes fault lines pieces a b result e f none bad are h =
    IfOk-weaker result (λ told. Writes (Refuses fault 2 told) a b) (λ status. Writes (IsRunOfScript devices options said lines status) a b)
    (λ status. writes_weaker (Refuses fault 2 status) (IsRunOfScript devices options said lines status) a b
    (λ text. shape_refused devices options said first sizes fault lines pieces status text e f none bad are))
    h

pub shape_breaks : {E M F : Type 0} (devices : Devices M F) (options : Options) (said : Option openings.Opening) (first : openings.Opening) (sizes : Sizes) (fault : Fault) (lines : List Line) (pieces : List Piece)
    (a b : Option (List ℕ)) (result : Result ℕ E) → said ≡ Some first → first ≡ opening.Shape sizes → (AreSizes sizes → ⊥) → fault ≡ BadShape → ArePieces (is_some options.seed) lines pieces
    → OnErr result (BreaksOff (λ text. (fault ≡ Memory → ⊥) × Refuses fault 2 4 text) a b)
    → OnErr result (BreaksOff (IsRunOfScript devices options said lines 4) a b)
shape_breaks devices options said first sizes fault lines pieces a b result e f none bad are h =
    on_err_weaker result
    (breaks_weaker (λ text. (fault ≡ Memory → ⊥) × Refuses fault 2 4 text) (IsRunOfScript devices options said lines 4) a b
    (λ text refusal. shape_refused devices options said first sizes fault lines pieces 4 text e f none bad are refusal.1))
    h

-- a script that opens a store
pub opening_breaks : {E M F : Type 0} (devices : Devices M F) (options : Options) (said : Option openings.Opening) (first : openings.Opening) (lines : List Line) (pieces : List Piece)
    (a b : Option (List ℕ)) (result : Result ℕ E) → said ≡ Some first → first ≡ opening.Open → ArePieces (is_some options.seed) lines pieces
    → OnErr result (BreaksOff (λ text. IsRunOfOldStore devices.file (path_in options.file) pieces 4 text (is_some options.file)) a b)
    → OnErr result (BreaksOff (IsRunOfScript devices options said lines 4) a b)
opening_breaks devices options said first lines pieces a b result e f are h =
    on_err_weaker result
    (breaks_weaker (λ text. IsRunOfOldStore devices.file (path_in options.file) pieces 4 text (is_some options.file)) (IsRunOfScript devices options said lines 4) a b
    (λ text. opened_run devices options said opening.Open lines pieces 4 text (e ∙ ap Some f) are))
    h

-- a new store in memory
pub new_in_memory : {E M F S : Type 0} (devices : Devices M F) (options : Options) (shape : Shape) (pieces : List Piece) (file : Option S) (a b : Option (List ℕ)) (result : Result ℕ E) → file ≡ None
    → IfOk result (λ status. Writes (λ text. IsRunInMemory devices.memory options shape pieces status text ⊎ Refuses Device 3 status text) a b)
    → IfOk result (λ status. Writes (λ text. IsRunOfStore devices options (Some shape) pieces status text (is_some file)) a b)
new_in_memory {E} {M} {F} {S} devices options shape pieces file a b result e h =
    subst (λ (o : Option S). IfOk result (λ status. Writes (λ text. IsRunOfStore devices options (Some shape) pieces status text (is_some o)) a b)) (sym e) h

pub new_breaks_in_memory : {E M F S : Type 0} (devices : Devices M F) (options : Options) (shape : Shape) (pieces : List Piece) (file : Option S) (a b : Option (List ℕ)) (result : Result ℕ E) → file ≡ None
    → OnErr result (BreaksOff (λ text. IsRunInMemory devices.memory options shape pieces 4 text ⊎ Refuses Device 3 4 text) a b)
    → OnErr result (BreaksOff (λ text. IsRunOfStore devices options (Some shape) pieces 4 text (is_some file)) a b)
new_breaks_in_memory {E} {M} {F} {S} devices options shape pieces file a b result e h =
    subst (λ (o : Option S). OnErr result (BreaksOff (λ text. IsRunOfStore devices options (Some shape) pieces 4 text (is_some o)) a b)) (sym e) h

-- a new store in a file
module _ {E M F : Type 0} (devices : Devices M F) (options : Options) (path : String Global) (its : List ℕ) (there : options.file ≡ Some path) (said : its ≡ string_bytes path) (pieces : List Piece) (a b : Option (List ℕ)) (result : Result ℕ E) where
  same : its ≡ path_in options.file
  same = said ∙ sym (ap path_in there)

  pub new_in_file : (shape : Shape) → IfOk result (λ status. Writes (λ text. IsRunInNewFile devices.file its shape pieces status text ⊎ Refuses Device 3 status text) a b)
      → IfOk result (λ status. Writes (λ text. IsRunOfStore devices options (Some shape) pieces status text (is_some options.file)) a b)
  new_in_file shape h =
      subst (λ (o : Option (String Global)). IfOk result (λ status. Writes (λ text. IsRunOfStore devices options (Some shape) pieces status text (is_some o)) a b)) (sym there)
      (subst (λ (p : List ℕ). IfOk result (λ status. Writes (λ text. IsRunInNewFile devices.file p shape pieces status text ⊎ Refuses Device 3 status text) a b)) same h)

  pub new_breaks_in_file : (shape : Shape) → OnErr result (BreaksOff (λ text. IsRunInNewFile devices.file its shape pieces 4 text ⊎ Refuses Device 3 4 text) a b)
      → OnErr result (BreaksOff (λ text. IsRunOfStore devices options (Some shape) pieces 4 text (is_some options.file)) a b)
  new_breaks_in_file shape h =
      subst (λ (o : Option (String Global)). OnErr result (BreaksOff (λ text. IsRunOfStore devices options (Some shape) pieces 4 text (is_some o)) a b)) (sym there)
      (subst (λ (p : List ℕ). OnErr result (BreaksOff (λ text. IsRunInNewFile devices.file p shape pieces 4 text ⊎ Refuses Device 3 4 text) a b)) same h)

-- the store that a file holds
module _ {E F : Type 0} (places : Places F) (options : Options) (path : String Global) (its : List ℕ) (there : options.file ≡ Some path) (said : its ≡ string_bytes path) (pieces : List Piece) (a b : Option (List ℕ)) (result : Result ℕ E) where
  its_path : its ≡ path_in options.file
  its_path = said ∙ sym (ap path_in there)

  pub old_in_file : IfOk result (λ status. Writes (λ text. IsRunInFile places its pieces status text ⊎ RefusesOld places its status text) a b)
      → IfOk result (λ status. Writes (λ text. IsRunOfOldStore places (path_in options.file) pieces status text (is_some options.file)) a b)
  old_in_file h =
      subst (λ (o : Option (String Global)). IfOk result (λ status. Writes (λ text. IsRunOfOldStore places (path_in options.file) pieces status text (is_some o)) a b)) (sym there)
      (subst (λ (p : List ℕ). IfOk result (λ status. Writes (λ text. IsRunInFile places p pieces status text ⊎ RefusesOld places p status text) a b)) its_path h)

  pub old_breaks_in_file : OnErr result (BreaksOff (λ text. IsRunInFile places its pieces 4 text ⊎ RefusesOld places its 4 text) a b)
      → OnErr result (BreaksOff (λ text. IsRunOfOldStore places (path_in options.file) pieces 4 text (is_some options.file)) a b)
  old_breaks_in_file h =
      subst (λ (o : Option (String Global)). OnErr result (BreaksOff (λ text. IsRunOfOldStore places (path_in options.file) pieces 4 text (is_some o)) a b)) (sym there)
      (subst (λ (p : List ℕ). OnErr result (BreaksOff (λ text. IsRunInFile places p pieces 4 text ⊎ RefusesOld places p 4 text) a b)) its_path h)
