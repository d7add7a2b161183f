-- What is written of a script for a new store in memory is reported over all lives of its run, by what is written of any script.
use Rattle.std.proofs.Common.{◌≡◌, ◌≢◌, ◌∙◌, ◌⊎◌, ℕ, zero, suc, List, [], ◌∷◌, ◌++◌, Bool, true, false, All, ap, arith, inl, inr, map, refl, subst, sym, take}
use Rattle.std.specs.List.{flat_map}
use Rattle.std.specs.Prelude.{IfSome, Option, Some, None, Ok, Result, is_some, string_bytes}
use Rattle.std.proofs.lemmas.List.Elements.{All-head, All-tail}
use Rattle.fkv_base.specs.declared.faults.Fault.TheVariants as fault
use Rattle.fkv_base.specs.declared.shapes.Shape.{Shape}
use Rattle.fkv_lines.specs.Script.{LineFault, ScriptText, script_of}
use Rattle.fkv_lines.specs.declared.scripts.Line.{Line}
use Rattle.fkv_lines.specs.declared.scripts.Line.TheVariants as line
use Rattle.fkv_lines.specs.declared.scripts.Mode.TheVariants as mode
use Rattle.fkv_lines.specs.declared.scripts.Opening.TheVariants as opening
use Rattle.fkv_lines.specs.declared.scripts.Sizes.{Sizes}
use Rattle.fkv_lines.proofs.Shown.{IsLineOfWords, script_words}
use Rattle.fkv_options.specs.Options.{AreMatchesOf, torn_in}
use Rattle.fkv_options.specs.declared.options.Options.{Options}
use Rattle.fkv_playing.specs.InTurn.{Writes}
use Rattle.fkv_playing.specs.declared.calls.ActorCall.{ActorCall}
use Rattle.fkv_runs.specs.Pieces.{ArePieces, line_of, lines_of}
use Rattle.fkv_runs.specs.Runs.{IsCrashed, IsCrashedWhere, IsRun, RunState, is_due, status_of}
use Rattle.fkv_runs.specs.declared.pieces.Piece.{Piece}
use Rattle.fkv_runs.specs.declared.pieces.Piece.TheVariants.{Group, Finish, Crash, CrashAt, FailAt}
use Rattle.fkv_runs.specs.declared.settings.Settings.{Settings}
use Rattle.fkv_cli.specs.Output.{AreLives, Devices, IsOutputOf, IsRunInMemory, IsRunOfScript, IsRunOfShape, IsRunOfStore, IsRunOfText, mode_of, script_limit, settings_of}
use Rattle.law_program.specs.PlayedCalls.AllLives.{CrashEndsLives, EndsLivesWhere, PieceFits, PiecesFit, ReportsOverLives, RunInLives, first_run}
use Rattle.law_program.specs.PlayedCalls.Interleaved.{AreFitting}
use Rattle.fkv.specs.AllLives.{IsRunOverLives, ReportsOfAllLives, settings_in}
use Rattle.fkv.specs.Lives.{IsRefusedRun}
use Rattle.fkv.proofs.FewCalls.{AreFewLines, few_lines, few_pieces}
use Rattle.fkv.proofs.Lives.{fits_words}
use Rattle.fkv.proofs.Replies.{none_kept}

-- ---- its pieces
fitting_group : (items : List ActorCall) (behind : List Line) → All IsLineOfWords (map line_of items ++ behind) → AreFitting items × All IsLineOfWords behind
fitting_group [] behind all = (tt, all)
fitting_group (one ∷ later) behind all =
    let rest = fitting_group later behind (All-tail IsLineOfWords (line_of one) (map line_of later ++ behind) all) in
    ((fits_words one (All-head IsLineOfWords (line_of one) (map line_of later ++ behind) all), rest.0), rest.1)

fitting_piece : (piece : Piece) (behind : List Line) → All IsLineOfWords (lines_of piece ++ behind) → PieceFits piece × All IsLineOfWords behind
fitting_piece (Group calls) behind all = fitting_group calls.items behind all
fitting_piece Finish behind all = (tt, All-tail IsLineOfWords line.Finish behind all)
fitting_piece Crash behind all = (tt, All-tail IsLineOfWords line.Crash behind all)
fitting_piece (CrashAt count) behind all = (tt, All-tail IsLineOfWords (line.CrashAt count) behind all)
fitting_piece (FailAt count) behind all = (tt, All-tail IsLineOfWords (line.FailAt count) behind all)

fitting_pieces : (pieces : List Piece) → All IsLineOfWords (flat_map lines_of pieces) → PiecesFit pieces
fitting_pieces [] all = tt
fitting_pieces (piece ∷ later) all = let one = fitting_piece piece (flat_map lines_of later) all in (one.0, fitting_pieces later one.1)

fitting_taken : (count : ℕ) (pieces : List Piece) → PiecesFit pieces → PiecesFit (take count pieces)
fitting_taken zero pieces fit = tt
fitting_taken (suc count) [] fit = tt
fitting_taken (suc count) (piece ∷ later) fit = (fit.0, fitting_taken count later fit.1)

-- ---- its status
status_agrees : (status : ℕ) (over agrees : Bool) → status ≡ status_of over agrees → (over ≡ false → agrees ≡ true) → status ≢ 1
status_agrees status true agrees said so = λ one. omega (arith, said, one)
status_agrees status false true said so = λ one. omega (arith, said, one)
status_agrees status false false said so = λ one. let never : false ≡ true = so refl in cc

-- ---- its run
module _ {M F : Type 0} (devices : Devices M F) (seen : M → List ℕ) (may_leave : M → List ℕ → Type 0) (laws : (settings : Settings) → ReportsOverLives seen may_leave devices.memory settings)
    (options : Options) (sizes : Sizes) (lines : List Line) (words : All IsLineOfWords lines) (short : AreFewLines lines) (status : ℕ) (ends : status ≢ 4) (text : List ℕ) where
  abbrev Reported : Bool → Type 0
  Reported interleaved = IsRefusedRun text ⊎ IsRunOverLives seen may_leave devices.memory (settings_of options) interleaved lines status text

  due : (settings : Settings) (is : Bool) (last : RunInLives M) (after : RunState M) (over : Bool) (report : List ℕ)
      → (IsCrashed devices.memory settings last.run after over report → CrashEndsLives seen may_leave devices.memory settings last after over report)
      → IsCrashedWhere is devices.memory settings last.run after over report → EndsLivesWhere seen may_leave devices.memory settings is last after over report
  due settings true last after over report law crashed = law crashed
  due settings false last after over report law crashed = tt

  -- behind the crash that is taken at the end the run agrees as it did before
  due_agrees : (settings : Settings) (is : Bool) (last : RunInLives M) (after : RunState M) (over : Bool) (report : List ℕ) → IsCrashedWhere is devices.memory settings last.run after over report
      → EndsLivesWhere seen may_leave devices.memory settings is last after over report → over ≡ false → after.agrees ≡ (let run = last.run in run.agrees)
  due_agrees settings true last after over report crashed ends goes = let end = ends.2 in let its = end.report goes in its.counted
  due_agrees settings false last after over report crashed ends goes = ap (λ (x : RunState M). x.agrees) crashed.0

  run_agrees : (settings : Settings) (pieces : List Piece) (before : RunState M) (lives : RunInLives M) (run : IsRun devices.memory settings pieces before status text) → (run.refused ≡ false → run.last.agrees ≡ true)
      → (run.refused ≡ false → EndsLivesWhere seen may_leave devices.memory settings (is_due run.last.player.waits) (record lives { run = run.last }) run.after run.over run.reported) → run.over ≡ false → run.after.agrees ≡ true
  run_agrees settings pieces before lives run agrees ended goes = by_refused run.refused refl
    where
      by_refused : (refused : Bool) → run.refused ≡ refused → run.after.agrees ≡ true
      by_refused true e = let never : true ≡ false = sym (run.ends e).0 ∙ goes in cc
      by_refused false e = due_agrees settings (is_due run.last.player.waits) (record lives { run = run.last }) run.after run.over run.reported (run.crashed e) (ended e) goes ∙ agrees e

  in_memory : (interleaved : Bool) (shape : Shape) (pieces : List Piece) → ArePieces interleaved lines pieces → IsRunInMemory devices.memory options shape pieces status text
      → IsRunOverLives seen may_leave devices.memory (settings_of options) interleaved lines status text
  in_memory interleaved shape pieces are its = by_end its.lives
    where
      law : ReportsOverLives seen may_leave devices.memory (settings_of options)
      law = laws (settings_of options)

      by_end : AreLives devices.memory (settings_of options) pieces (record { player = its.player; agrees = true }) status text → IsRunOverLives seen may_leave devices.memory (settings_of options) interleaved lines status text
      by_end (inl run) =
          let shown = law.begin shape its.image its.opened its.device its.player its.created its.store its.reads its.begins in
          let fit = fitting_taken run.count pieces (fitting_pieces pieces (subst (All IsLineOfWords) (sym are.joined) words)) in
          let over = law.runs (take run.count pieces) (first_run its.image its.opened its.player) run.last run.refused run.said shown fit (few_pieces interleaved lines pieces run.count short are) run.played in
          let last : RunInLives M = record { its = over.its; before = over.lives; run = run.last } in
          let ended : run.refused ≡ false → EndsLivesWhere seen may_leave devices.memory (settings_of options) (is_due run.last.player.waits) last run.after run.over run.reported
          = λ all. due (settings_of options) (is_due run.last.player.waits) last run.after run.over run.reported (λ crashed. law.crashes last run.after run.over run.reported (over.shown all) crashed) (run.crashed all) in
          record {
            pieces = pieces;
            are_pieces = are;
            image = its.image;
            opened = its.opened;
            player = its.player;
            shown = shown;
            is_run = run;
            lives = last;
            ends = refl;
            played = over.played;
            crashed = ended;
            agrees = status_agrees status run.over run.after.agrees run.answers (run_agrees (settings_of options) pieces (record { player = its.player; agrees = true }) last run over.agrees ended);
          }
      by_end (inr off) = absurd (ends off.0)

  of_store : (interleaved : Bool) (shape : Shape) (pieces : List Piece) (in_file : Bool) → in_file ≡ false → ArePieces interleaved lines pieces → IsRunOfStore devices options (Some shape) pieces status text in_file → Reported interleaved
  of_store interleaved shape pieces false e are (inl its) = inr (in_memory interleaved shape pieces are its)
  of_store interleaved shape pieces false e are (inr refused) = inl (inr (fault.Device, refused.1))
  of_store interleaved shape pieces true e are its = cc

  of_shape : (interleaved : Bool) (pieces : List Piece) → is_some options.file ≡ false → ArePieces interleaved lines pieces → IsRunOfShape devices options (opening.Shape sizes) pieces status text → Reported interleaved
  of_shape interleaved pieces none are (inl its) = of_store interleaved its.0 pieces (is_some options.file) none are its.2
  of_shape interleaved pieces none are (inr refused) = inl (inr (fault.BadShape, refused.1.1))

  of_script : options.file ≡ None → IsRunOfScript devices options (Some (opening.Shape sizes)) lines status text → Reported (is_some options.seed)
  of_script file its = of_shape (is_some options.seed) its.0 (ap is_some file) its.1 its.2

  of_text : (bytes : List ℕ) → script_of mode.Memory (take script_limit bytes) ≡ Ok (record { opening = Some (opening.Shape sizes); lines = lines }) → options.file ≡ None
      → IsRunOfText devices options (script_of (mode_of (is_some options.file)) (take script_limit bytes)) status text → Reported (is_some options.seed)
  of_text bytes script file its =
      let said : script_of (mode_of (is_some options.file)) (take script_limit bytes) ≡ Ok (record { opening = Some (opening.Shape sizes); lines = lines })
      = ap (λ (x : Option _). script_of (mode_of (is_some x)) (take script_limit bytes)) file ∙ script in
      of_script file (subst (λ (x : Result ScriptText LineFault). IsRunOfText devices options x status text) said its)

same_settings : (words : List (List ℕ)) (options : Options) → AreMatchesOf words options → settings_of options ≡ settings_in words
same_settings words options are = ap (λ (x : ℕ). record { torn = x; checks = options.check }) are.torn ∙ ap (λ (x : Bool). record { torn = torn_in words; checks = x }) are.check

reports_all_lives : {M F : Type 0} (devices : Devices M F) (seen : M → List ℕ) (may_leave : M → List ℕ → Type 0) → ((settings : Settings) → ReportsOverLives seen may_leave devices.memory settings)
    → (words : List (List ℕ)) (known : Option (List ℕ)) (status : ℕ) (text : List ℕ) → status ≢ 4 → IsOutputOf devices words known status text → ReportsOfAllLives seen may_leave devices.memory words known status text
reports_all_lives devices seen may_leave laws words known status text ends (inl refused) plain bytes sizes lines is script = inl (inl refused.says)
reports_all_lives devices seen may_leave laws words known status text ends (inr its) plain bytes sizes lines is script =
    subst (λ (x : Option _). IsRefusedRun text ⊎ IsRunOverLives seen may_leave devices.memory (settings_in words) (is_some x) lines status text) its.asked.seed
    (subst (λ (x : Settings). IsRefusedRun text ⊎ IsRunOverLives seen may_leave devices.memory x (is_some its.options.seed) lines status text) (same_settings words its.options its.asked)
    (of_text devices seen may_leave laws its.options sizes lines (script_words mode.Memory (take script_limit bytes) (record { opening = Some (opening.Shape sizes); lines = lines }) script).lines
    (few_lines mode.Memory (take script_limit bytes) (record { opening = Some (opening.Shape sizes); lines = lines }) script) status ends text bytes script
    (none_kept string_bytes its.options.file (its.asked.file ∙ plain))
    (subst (λ (x : Option (List ℕ)). IfSome x (λ (y : List ℕ). IsRunOfText devices its.options (script_of (mode_of (is_some its.options.file)) (take script_limit y)) status text)) is its.run)))

-- so it is of what a run has written that came to its end
pub writes_all_lives : {M F : Type 0} (devices : Devices M F) (seen : M → List ℕ) (may_leave : M → List ℕ → Type 0) (words : List (List ℕ)) (known : Option (List ℕ)) (status : ℕ) (a b : Option (List ℕ))
    → (status ≢ 4 → Writes (IsOutputOf devices words known status) a b) → ((settings : Settings) → ReportsOverLives seen may_leave devices.memory settings)
    → status ≢ 4 → Writes (ReportsOfAllLives seen may_leave devices.memory words known status) a b
writes_all_lives devices seen may_leave words known status a b whole laws ends = let h = whole ends in (h.0, reports_all_lives devices seen may_leave laws words known status h.0 ends h.1, h.2)
