-- What is written of a script of operations is the plain map's, by what is written of any script.
use Rattle.std.proofs.Common.{◌≡◌, ◌≢◌, ◌∙◌, ℕ, List, [], Bool, true, false, ap, arith, inl, inr, refl, subst, sym, take}
use Rattle.std.specs.Prelude.{IfSome, Option, Some, None, Ok, Result, is_some, map, option_map, string_bytes}
use Rattle.std.specs.FinMap.{empty}
use Rattle.fkv_base.specs.declared.shapes.Shape.{Shape}
use Rattle.fkv_lines.specs.Script.{LineFault, ScriptText, script_of}
use Rattle.fkv_lines.specs.declared.scripts.Mode.TheVariants as mode
use Rattle.fkv_lines.specs.declared.scripts.Opening.TheVariants as opening
use Rattle.fkv_lines.specs.declared.scripts.Sizes.{Sizes}
use Rattle.fkv_options.specs.declared.options.Options.{Options}
use Rattle.fkv_playing.specs.InTurn.{Writes}
use Rattle.law_program.specs.PlayedCalls.Scripts.{IsPlayOfMap, NewStoresPlayMap, SessionOp, op_line}
use Rattle.fkv_runs.specs.Pieces.{ArePieces}
use Rattle.fkv_runs.specs.declared.pieces.Piece.{Piece}
use Rattle.fkv_cli.specs.Output.{AreLives, ComesTo, Devices, IsOutputOf, IsRunInMemory, IsRunOfScript, IsRunOfShape, IsRunOfStore, IsRunOfText, mode_of, script_limit, settings_of}
use Rattle.fkv.specs.Replies.{IsScriptOf, NameNoFileOrSeed, PrintsMapOfScript}
use Rattle.fkv.proofs.ScriptFits.{AreFitting, fitting}

-- status 0 is none of a refusal's
pub not_2 : ComesTo 2 0 → ⊥
not_2 (inl e) = omega (arith, e)
not_2 (inr e) = omega (arith, e)

pub not_3 : ComesTo 3 0 → ⊥
not_3 (inl e) = omega (arith, e)
not_3 (inr e) = omega (arith, e)

pub zero_is_4 : ◌≡◌ {A = ℕ} 0 4 → ⊥
zero_is_4 e = omega (arith, e)

pub none_kept : {A B : Type 0} (f : A → B) (its : Option A) → option_map f its ≡ None → its ≡ None
none_kept f None e = refl
none_kept f (Some x) e = cc

module _ {M F : Type 0} (devices : Devices M F) (plays : NewStoresPlayMap devices.memory) (options : Options) (sizes : Sizes) (ops : List SessionOp) (bytes : List ℕ) (script : IsScriptOf mode.Memory bytes sizes ops) (text : List ℕ) where
  in_memory : (shape : Shape) (pieces : List Piece) → ArePieces false (map op_line ops) pieces → IsRunInMemory devices.memory options shape pieces 0 text → IsPlayOfMap empty ops text
  in_memory shape pieces are its = by_end its.lives
    where
      numbers : AreFitting ops
      numbers = fitting mode.Memory (take script_limit bytes) ops (record { opening = Some (opening.Shape sizes); lines = map op_line ops }) script refl

      by_end : AreLives devices.memory (settings_of options) pieces (record { player = its.player; agrees = true }) 0 text → IsPlayOfMap empty ops text
      by_end (inl run) = plays shape its.image its.opened its.device [] options.check true its.player (settings_of options) pieces ops 0 text its.is_new its.store its.begins are numbers.fit numbers.few run
      by_end (inr off) = absurd (zero_is_4 off.0)

  of_store : (shape : Shape) (pieces : List Piece) (in_file : Bool) → in_file ≡ false → ArePieces false (map op_line ops) pieces → IsRunOfStore devices options (Some shape) pieces 0 text in_file → IsPlayOfMap empty ops text
  of_store shape pieces false e are (inl its) = in_memory shape pieces are its
  of_store shape pieces false e are (inr refused) = absurd (not_3 refused.0)
  of_store shape pieces true e are its = cc

  of_shape : (pieces : List Piece) → is_some options.file ≡ false → ArePieces false (map op_line ops) pieces → IsRunOfShape devices options (opening.Shape sizes) pieces 0 text → IsPlayOfMap empty ops text
  of_shape pieces none are (inl its) = of_store its.0 pieces (is_some options.file) none are its.2
  of_shape pieces none are (inr refused) = absurd (not_2 refused.1.0)

  of_script : options.file ≡ None → options.seed ≡ None → IsRunOfScript devices options (Some (opening.Shape sizes)) (map op_line ops) 0 text → IsPlayOfMap empty ops text
  of_script file seed its =
      of_shape its.0 (ap is_some file) (subst (λ (x : Bool). ArePieces x (map op_line ops) its.0) (ap is_some seed) its.1) its.2

  of_text : options.file ≡ None → options.seed ≡ None → IsRunOfText devices options (script_of (mode_of (is_some options.file)) (take script_limit bytes)) 0 text → IsPlayOfMap empty ops text
  of_text file seed its =
      let said : script_of (mode_of (is_some options.file)) (take script_limit bytes) ≡ Ok (record { opening = Some (opening.Shape sizes); lines = map op_line ops })
      = ap (λ (x : Option _). script_of (mode_of (is_some x)) (take script_limit bytes)) file ∙ script in
      of_script file seed (subst (λ (x : Result ScriptText LineFault). IsRunOfText devices options x 0 text) said its)

pub prints_map : {M F : Type 0} (devices : Devices M F) → NewStoresPlayMap devices.memory → (words : List (List ℕ)) (known : Option (List ℕ)) (text : List ℕ) → IsOutputOf devices words known 0 text → PrintsMapOfScript words known text
prints_map devices plays words known text (inl refused) plain bytes sizes ops is script = absurd (not_2 refused.answers)
prints_map devices plays words known text (inr its) plain bytes sizes ops is script =
    of_text devices plays its.options sizes ops bytes script text (none_kept string_bytes its.options.file (its.asked.file ∙ plain.0)) (its.asked.seed ∙ plain.1)
    (subst (λ (x : Option (List ℕ)). IfSome x (λ (y : List ℕ). IsRunOfText devices its.options (script_of (mode_of (is_some its.options.file)) (take script_limit y)) 0 text)) is its.run)

-- so it is of what a run with status 0 has written
pub writes_map : {M F : Type 0} (devices : Devices M F) (words : List (List ℕ)) (known : Option (List ℕ)) (status : ℕ) (a b : Option (List ℕ)) → (status ≢ 4 → Writes (IsOutputOf devices words known status) a b)
    → NewStoresPlayMap devices.memory → status ≡ 0 → Writes (PrintsMapOfScript words known) a b
writes_map devices words known status a b whole plays e =
    let h = whole (λ f. zero_is_4 (sym e ∙ f)) in (h.0, prints_map devices plays words known h.0 (subst (λ (n : ℕ). IsOutputOf devices words known n h.0) e h.1), h.2)

-- a run without words is such a one
no_words : NameNoFileOrSeed []
no_words = (refl, refl)
