-- What is written of a script of operations for a new store in a file is the plain map's, by what is written of any script.
use Rattle.std.proofs.Common.{◌≡◌, ◌≢◌, ◌∙◌, ℕ, List, [], Bool, true, false, ap, inl, inr, refl, subst, sym, take}
use Rattle.std.specs.Prelude.{IfSome, Option, Some, None, Ok, Result, is_some, map, option_map, string_bytes}
use Rattle.std.specs.FinMap.{empty}
use Rattle.fkv_base.specs.declared.shapes.Shape.{Shape}
use Rattle.fkv_lines.specs.Script.{LineFault, ScriptText, script_of}
use Rattle.fkv_lines.specs.declared.scripts.Mode.TheVariants as mode
use Rattle.fkv_lines.specs.declared.scripts.Opening.TheVariants as opening
use Rattle.fkv_lines.specs.declared.scripts.Sizes.{Sizes}
use Rattle.fkv_options.specs.declared.options.Options.{Options}
use Rattle.fkv_playing.specs.InTurn.{Writes}
use Rattle.law_program.specs.PlayedCalls.NewFiles.{NewFilesPlayMap}
use Rattle.law_program.specs.PlayedCalls.Scripts.{IsPlayOfMap, SessionOp, op_line}
use Rattle.fkv_runs.specs.Pieces.{ArePieces}
use Rattle.fkv_runs.specs.declared.pieces.Piece.{Piece}
use Rattle.fkv_cli.specs.Output.{Devices, IsOutputOf, IsPlayed, IsRunInNewFile, IsRunOfScript, IsRunOfShape, IsRunOfStore, IsRunOfText, mode_of, path_in, script_limit}
use Rattle.fkv.specs.Replies.{IsScriptOf, PrintsMapOfFileScript}
use Rattle.fkv.proofs.Replies.{not_2, not_3, zero_is_4}
use Rattle.fkv.proofs.ScriptFits.{AreFitting, fitting}

is_there : {A B : Type 0} (f : A → B) (its : Option A) → is_some its ≡ is_some (option_map f its)
is_there f None = refl
is_there f (Some x) = refl

module _ {M F : Type 0} (devices : Devices M F) (plays : NewFilesPlayMap devices.file.engine) (options : Options) (sizes : Sizes) (ops : List SessionOp) (bytes : List ℕ) (script : IsScriptOf mode.File bytes sizes ops) (text : List ℕ) where
  in_new_file : (shape : Shape) (pieces : List Piece) → ArePieces false (map op_line ops) pieces → IsRunInNewFile devices.file (path_in options.file) shape pieces 0 text → IsPlayOfMap empty ops text
  in_new_file shape pieces are its = by_end its.life.played
    where
      numbers : AreFitting ops
      numbers = fitting mode.File (take script_limit bytes) ops (record { opening = Some (opening.Shape sizes); lines = map op_line ops }) script refl

      by_end : IsPlayed devices.file.engine pieces its.life.player 0 text → IsPlayOfMap empty ops text
      by_end (inl run) = plays shape its.opened its.device [] false its.life.player pieces ops text its.is_new its.life.begins are numbers.fit numbers.few run.1
      by_end (inr off) = absurd (zero_is_4 off.0)

  of_store : (shape : Shape) (pieces : List Piece) (in_file : Bool) → in_file ≡ true → ArePieces false (map op_line ops) pieces → IsRunOfStore devices options (Some shape) pieces 0 text in_file → IsPlayOfMap empty ops text
  of_store shape pieces true e are (inl its) = in_new_file shape pieces are its
  of_store shape pieces true e are (inr refused) = absurd (not_3 refused.0)
  of_store shape pieces false e are its = cc

  of_shape : (pieces : List Piece) → is_some options.file ≡ true → ArePieces false (map op_line ops) pieces → IsRunOfShape devices options (opening.Shape sizes) pieces 0 text → IsPlayOfMap empty ops text
  of_shape pieces there are (inl its) = of_store its.0 pieces (is_some options.file) there are its.2
  of_shape pieces there are (inr refused) = absurd (not_2 refused.1.0)

  of_script : is_some options.file ≡ true → options.seed ≡ None → IsRunOfScript devices options (Some (opening.Shape sizes)) (map op_line ops) 0 text → IsPlayOfMap empty ops text
  of_script file seed its = of_shape its.0 file (subst (λ (x : Bool). ArePieces x (map op_line ops) its.0) (ap is_some seed) its.1) its.2

  of_text : is_some options.file ≡ true → options.seed ≡ None → IsRunOfText devices options (script_of (mode_of (is_some options.file)) (take script_limit bytes)) 0 text → IsPlayOfMap empty ops text
  of_text file seed its =
      let said : script_of (mode_of (is_some options.file)) (take script_limit bytes) ≡ Ok (record { opening = Some (opening.Shape sizes); lines = map op_line ops })
      = ap (λ (x : Bool). script_of (mode_of x) (take script_limit bytes)) file ∙ script in
      of_script file seed (subst (λ (x : Result ScriptText LineFault). IsRunOfText devices options x 0 text) said its)

prints_map : {M F : Type 0} (devices : Devices M F) → NewFilesPlayMap devices.file.engine → (words : List (List ℕ)) (known : Option (List ℕ)) (text : List ℕ) → IsOutputOf devices words known 0 text → PrintsMapOfFileScript words known text
prints_map devices plays words known text (inl refused) plain bytes sizes ops is script = absurd (not_2 refused.answers)
prints_map devices plays words known text (inr its) plain bytes sizes ops is script =
    of_text devices plays its.options sizes ops bytes script text (is_there string_bytes its.options.file ∙ ap is_some its.asked.file ∙ plain.0) (its.asked.seed ∙ plain.1)
    (subst (λ (x : Option (List ℕ)). IfSome x (λ (y : List ℕ). IsRunOfText devices its.options (script_of (mode_of (is_some its.options.file)) (take script_limit y)) 0 text)) is its.run)

-- so it is of what a run with status 0 has written
pub writes_file_map : {M F : Type 0} (devices : Devices M F) (words : List (List ℕ)) (known : Option (List ℕ)) (status : ℕ) (a b : Option (List ℕ)) → (status ≢ 4 → Writes (IsOutputOf devices words known status) a b)
    → NewFilesPlayMap devices.file.engine → status ≡ 0 → Writes (PrintsMapOfFileScript words known) a b
writes_file_map devices words known status a b whole plays e =
    let h = whole (λ f. zero_is_4 (sym e ∙ f)) in (h.0, prints_map devices plays words known h.0 (subst (λ (n : ℕ). IsOutputOf devices words known n h.0) e h.1), h.2)
