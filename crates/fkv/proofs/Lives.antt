-- What is written of a script for a new store in memory is played in lives, by what is written of any script.
use Rattle.std.proofs.Common.{◌≡◌, ◌≢◌, ◌∙◌, ◌⊎◌, ℕ, zero, suc, List, [], ◌∷◌, ◌++◌, Bool, true, false, All, ap, inl, inr, length, map, refl, subst, sym, take}
use Rattle.std.specs.List.{flat_map}
use Rattle.std.specs.Prelude.{IfSome, Option, Some, None, Ok, Result, is_some, slice_get, string_bytes}
use Rattle.std.proofs.lemmas.List.Elements.{All-head, All-tail}
use Rattle.fkv_base.specs.declared.faults.Fault.TheVariants as fault
use Rattle.fkv_base.specs.declared.shapes.Shape.{Shape}
use Rattle.fkv_lines.specs.Script.{LineFault, ScriptText, script_of}
use Rattle.fkv_lines.specs.declared.scripts.Line.{Line}
use Rattle.fkv_lines.specs.declared.scripts.Line.TheVariants as line
use Rattle.fkv_lines.specs.declared.scripts.Mode.TheVariants as mode
use Rattle.fkv_lines.specs.declared.scripts.Opening.TheVariants as opening
use Rattle.fkv_lines.specs.declared.scripts.Sizes.{Sizes}
use Rattle.fkv_lines.proofs.Shown.{IsCallOfWords, IsLineOfWords, script_words}
use Rattle.fkv_map.specs.declared.operations.Call.{Call}
use Rattle.fkv_map.specs.declared.operations.Call.TheVariants as call
use Rattle.fkv_options.specs.declared.options.Options.{Options}
use Rattle.fkv_playing.specs.InTurn.{Writes}
use Rattle.fkv_playing.specs.declared.calls.ActorCall.{ActorCall}
use Rattle.fkv_playing.specs.declared.calls.ActorCall.TheVariants.{Session, Commit, Trim, Turn}
use Rattle.fkv_runs.specs.Pieces.{ArePieces, IsAlone, line_of, lines_of}
use Rattle.fkv_runs.specs.declared.pieces.Piece.{Piece}
use Rattle.fkv_runs.specs.declared.pieces.Piece.TheVariants.{Group, Finish, Crash, CrashAt, FailAt}
use Rattle.fkv_runs.specs.declared.settings.Settings.{Settings}
use Rattle.fkv_cli.specs.Output.{AreLives, Devices, IsOutputOf, IsRunInMemory, IsRunOfScript, IsRunOfShape, IsRunOfStore, IsRunOfText, mode_of, script_limit, settings_of}
use Rattle.law_program.specs.PlayedCalls.EachLine.{ItsNumbersFit}
use Rattle.law_program.specs.PlayedCalls.Lives.{LivesBegin}
use Rattle.law_program.specs.PlayedCalls.Runs.{ArePlain, IsPlain, RunsGoOn}
use Rattle.fkv.specs.Lives.{IsRefusedRun, IsRunInLives, PrintsInLives, first_life}
use Rattle.fkv.proofs.FewCalls.{AreFewLines, few_lines, few_pieces, few_seats}
use Rattle.fkv.proofs.Replies.{none_kept}
use Rattle.fkv.proofs.ScriptFits.{one_fits}

-- ---- its pieces
call_fits : (number : ℕ) (asked : Call) → IsCallOfWords asked → ItsNumbersFit (Session number asked)
call_fits number (call.Op op) its = (one_fits 0 op its).0
call_fits number asked its = tt

pub fits_words : (one : ActorCall) → IsLineOfWords (line_of one) → ItsNumbersFit one
fits_words (Session number asked) its = call_fits number asked its.1
fits_words (Commit kind) its = tt
fits_words Trim its = tt
fits_words Turn its = tt

plain_group : (items : List ActorCall) (behind : List Line) → length items ≡ 1 → All IsLineOfWords (map line_of items ++ behind) → ((one : ActorCall) × (items ≡ one ∷ []) × ItsNumbersFit one) × All IsLineOfWords behind
plain_group [] behind alone all = cc
plain_group (one ∷ []) behind alone all = ((one, refl, fits_words one (All-head IsLineOfWords (line_of one) behind all)), All-tail IsLineOfWords (line_of one) behind all)
plain_group (one ∷ other ∷ later) behind alone all = cc

plain_piece : (piece : Piece) (behind : List Line) → IsAlone piece → All IsLineOfWords (lines_of piece ++ behind) → IsPlain piece × All IsLineOfWords behind
plain_piece (Group calls) behind alone all = plain_group calls.items behind alone all
plain_piece Finish behind alone all = (tt, All-tail IsLineOfWords line.Finish behind all)
plain_piece Crash behind alone all = (tt, All-tail IsLineOfWords line.Crash behind all)
plain_piece (CrashAt count) behind alone all = (tt, All-tail IsLineOfWords (line.CrashAt count) behind all)
plain_piece (FailAt count) behind alone all = (tt, All-tail IsLineOfWords (line.FailAt count) behind all)

plain_pieces : (pieces : List Piece) → All IsLineOfWords (flat_map lines_of pieces) → ((at : ℕ) (piece : Piece) → slice_get pieces at ≡ Some piece → IsAlone piece) → ArePlain pieces
plain_pieces [] all alone = tt
plain_pieces (piece ∷ later) all alone =
    let one = plain_piece piece (flat_map lines_of later) (alone zero piece refl) all in (one.0, plain_pieces later one.1 (λ at its found. alone (suc at) its found))

plain_taken : (count : ℕ) (pieces : List Piece) → ArePlain pieces → ArePlain (take count pieces)
plain_taken zero pieces plain = tt
plain_taken (suc count) [] plain = tt
plain_taken (suc count) (piece ∷ later) plain = (plain.0, plain_taken count later plain.1)

-- ---- its run
module _ {M F : Type 0} (devices : Devices M F) (seen : M → List ℕ) (may_leave : M → List ℕ → Type 0) (begin : LivesBegin seen may_leave devices.memory.holds) (runs : (settings : Settings) → RunsGoOn seen may_leave devices.memory settings)
    (options : Options) (sizes : Sizes) (lines : List Line) (words : All IsLineOfWords lines) (short : AreFewLines lines) (status : ℕ) (ends : status ≢ 4) (text : List ℕ) where
  abbrev Lived : Type 0
  Lived = IsRefusedRun text ⊎ ((settings : Settings) × IsRunInLives seen may_leave devices.memory settings lines status text)

  in_memory : (shape : Shape) (pieces : List Piece) → ArePieces false lines pieces → IsRunInMemory devices.memory options shape pieces status text → IsRunInLives seen may_leave devices.memory (settings_of options) lines status text
  in_memory shape pieces are its = by_end its.lives
    where
      by_end : AreLives devices.memory (settings_of options) pieces (record { player = its.player; agrees = true }) status text → IsRunInLives seen may_leave devices.memory (settings_of options) lines status text
      by_end (inl run) =
          let shown = begin its.image its.opened its.device [] options.check its.player its.store its.reads its.begins in
          let plain = plain_taken run.count pieces (plain_pieces pieces (subst (All IsLineOfWords) (sym are.joined) words) (are.alone refl)) in
          record {
            pieces = pieces;
            are_pieces = are;
            image = its.image;
            opened = its.opened;
            player = its.player;
            shown = shown;
            run = run;
            in_lives = runs (settings_of options) (take run.count pieces) (first_life its.image its.opened its.player.world.now) (record { player = its.player; agrees = true }) run.last run.refused run.said shown plain
                (few_seats its.opened its.device [] options.check its.player its.begins) (few_pieces false lines pieces run.count short are) run.played;
          }
      by_end (inr off) = absurd (ends off.0)

  of_store : (shape : Shape) (pieces : List Piece) (in_file : Bool) → in_file ≡ false → ArePieces false lines pieces → IsRunOfStore devices options (Some shape) pieces status text in_file → Lived
  of_store shape pieces false e are (inl its) = inr (settings_of options, in_memory shape pieces are its)
  of_store shape pieces false e are (inr refused) = inl (inr (fault.Device, refused.1))
  of_store shape pieces true e are its = cc

  of_shape : (pieces : List Piece) → is_some options.file ≡ false → ArePieces false lines pieces → IsRunOfShape devices options (opening.Shape sizes) pieces status text → Lived
  of_shape pieces none are (inl its) = of_store its.0 pieces (is_some options.file) none are its.2
  of_shape pieces none are (inr refused) = inl (inr (fault.BadShape, refused.1.1))

  of_script : options.file ≡ None → options.seed ≡ None → IsRunOfScript devices options (Some (opening.Shape sizes)) lines status text → Lived
  of_script file seed its = of_shape its.0 (ap is_some file) (subst (λ (x : Bool). ArePieces x lines its.0) (ap is_some seed) its.1) its.2

  of_text : (bytes : List ℕ) → script_of mode.Memory (take script_limit bytes) ≡ Ok (record { opening = Some (opening.Shape sizes); lines = lines }) → options.file ≡ None → options.seed ≡ None
      → IsRunOfText devices options (script_of (mode_of (is_some options.file)) (take script_limit bytes)) status text → Lived
  of_text bytes script file seed its =
      let said : script_of (mode_of (is_some options.file)) (take script_limit bytes) ≡ Ok (record { opening = Some (opening.Shape sizes); lines = lines })
      = ap (λ (x : Option _). script_of (mode_of (is_some x)) (take script_limit bytes)) file ∙ script in
      of_script file seed (subst (λ (x : Result ScriptText LineFault). IsRunOfText devices options x status text) said its)

prints_in_lives : {M F : Type 0} (devices : Devices M F) (seen : M → List ℕ) (may_leave : M → List ℕ → Type 0) → LivesBegin seen may_leave devices.memory.holds → ((settings : Settings) → RunsGoOn seen may_leave devices.memory settings)
    → (words : List (List ℕ)) (known : Option (List ℕ)) (status : ℕ) (text : List ℕ) → status ≢ 4 → IsOutputOf devices words known status text → PrintsInLives seen may_leave devices.memory words known status text
prints_in_lives devices seen may_leave begin runs words known status text ends (inl refused) plain bytes sizes lines is script = inl (inl refused.says)
prints_in_lives devices seen may_leave begin runs words known status text ends (inr its) plain bytes sizes lines is script =
    of_text devices seen may_leave begin runs its.options sizes lines (script_words mode.Memory (take script_limit bytes) (record { opening = Some (opening.Shape sizes); lines = lines }) script).lines
    (few_lines mode.Memory (take script_limit bytes) (record { opening = Some (opening.Shape sizes); lines = lines }) script) status ends text bytes script
    (none_kept string_bytes its.options.file (its.asked.file ∙ plain.0)) (its.asked.seed ∙ plain.1)
    (subst (λ (x : Option (List ℕ)). IfSome x (λ (y : List ℕ). IsRunOfText devices its.options (script_of (mode_of (is_some its.options.file)) (take script_limit y)) status text)) is its.run)

-- so it is of what a run has written that came to its end
pub writes_in_lives : {M F : Type 0} (devices : Devices M F) (seen : M → List ℕ) (may_leave : M → List ℕ → Type 0) (words : List (List ℕ)) (known : Option (List ℕ)) (status : ℕ) (a b : Option (List ℕ))
    → (status ≢ 4 → Writes (IsOutputOf devices words known status) a b) → LivesBegin seen may_leave devices.memory.holds → ((settings : Settings) → RunsGoOn seen may_leave devices.memory settings)
    → status ≢ 4 → Writes (PrintsInLives seen may_leave devices.memory words known status) a b
writes_in_lives devices seen may_leave words known status a b whole begin runs ends = let h = whole ends in (h.0, prints_in_lives devices seen may_leave begin runs words known status h.0 ends h.1, h.2)
