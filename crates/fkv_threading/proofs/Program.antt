-- What the program writes comes of its input.
use Rattle.std.proofs.Common.{◌≡◌, ◌∙◌, inl, inr, ℕ, List, [], ◌∷◌, ◌++◌, Option, Some, None, Result, Ok, Err, IfOk, IfSome, OnErr, refl, sym, ap, subst, take, append-nil, append_assoc, option_map, codes}
use Rattle.std.specs.Io.KnownBytes.{Appends, Keeps}
use Rattle.fkv_base.specs.declared.faults.Fault.{Fault}
use Rattle.fkv_lines.specs.Script.{ScriptText}
use Rattle.fkv_lines.specs.declared.scripts.Line.{Line}
use Rattle.fkv_lines.specs.declared.scripts.Opening.{Opening}
use Rattle.fkv_lines.specs.declared.scripts.Opening.TheVariants as openings
use Rattle.fkv_lines.specs.declared.scripts.Sizes.{Sizes}
use Rattle.fkv_runs.proofs.Shown.{appends_kept, breaks_weaker}
use Rattle.fkv_runs.specs.Beginnings.{BreaksOff}
use Rattle.fkv_runs.specs.Below.fkv_playing.InTurn.{Writes}
use Rattle.fkv_texts.proofs.Shown.{appends_nothing}
use Rattle.fkv_thread_scripts.specs.Reports.{ended}
use Rattle.fkv_thread_scripts.specs.Served.{IsServedScript, TellsRefusal}
use Rattle.fkv_thread_scripts.specs.declared.reports.Report.{Report}
use Rattle.fkv_threading.specs.Program.{IsRunOfBytes, IsRunOfInput, IsTextOnThreads, TellsLine, WithSomeStatus, script_limit}
use Rattle.fkv_threading.specs.Written.{IsRunOnThreads, reported_text}

-- ---- the input
known_taken : (known : Option (List ℕ)) (limit : ℕ) (bytes : List ℕ) → IfSome (option_map (take limit) known) (λ xs. bytes ≡ xs) → IfSome known (λ script. bytes ≡ take limit script)
known_taken None limit bytes h = tt
known_taken (Some script) limit bytes h = h

-- what a reader's first bytes were, where it says what it has
pub first_bytes : {R : Type 0} (remaining : R → Option (List ℕ)) (inner input : R) (limit : ℕ) (front bytes : List ℕ) → inner ≡ input → front ≡ [] → IfSome (option_map (take limit) (remaining inner)) (λ xs. bytes ≡ front ++ xs) → IfSome (remaining input) (λ script. bytes ≡ take limit script)
first_bytes remaining inner input limit front bytes same none h =
    known_taken (remaining input) limit bytes
    (subst (λ r. IfSome (option_map (take limit) (remaining r)) (λ xs. bytes ≡ xs)) same
    (subst (λ (start : List ℕ). IfSome (option_map (take limit) (remaining inner)) (λ xs. bytes ≡ start ++ xs)) none h))

module _ (Ends : List Line → Sizes → Result Report Fault → Type 0) where
  -- a script is read, and run
  input_run : (known : Option (List ℕ)) (bytes items : List ℕ) (status : ℕ) (text : List ℕ) → bytes ≡ items → IfSome known (λ all. items ≡ take script_limit all) → IsRunOfBytes Ends bytes status text → IsRunOfInput Ends known status text
  input_run known bytes items status text same first run = inr (bytes, subst (λ (its : List ℕ). IfSome known (λ all. its ≡ take script_limit all)) (sym same) first, run)

  -- that is written, and the flush behind it keeps it
  pub input_runs : (known : Option (List ℕ)) (bytes items : List ℕ) (status : ℕ) (a b c : Option (List ℕ)) → bytes ≡ items → IfSome known (λ all. items ≡ take script_limit all) → Writes (IsRunOfBytes Ends bytes status) a b → Keeps b c → Writes (IsRunOfInput Ends known status) a c
  input_runs known bytes items status a b c same first h kept = (h.0, input_run known bytes items status h.0 same first h.1, appends_kept a b c h.0 h.2 kept)

  -- or the flush fails
  pub input_flush_fails : (known : Option (List ℕ)) (bytes items : List ℕ) (status : ℕ) (a b c : Option (List ℕ)) → bytes ≡ items → IfSome known (λ all. items ≡ take script_limit all) → Writes (IsRunOfBytes Ends bytes status) a b → Keeps b c → BreaksOff (WithSomeStatus (IsRunOfInput Ends known)) a c
  input_flush_fails known bytes items status a b c same first h kept =
      let all : IsRunOfInput Ends known status h.0 = input_run known bytes items status h.0 same first h.1 in
      (h.0, inr ([], subst (WithSomeStatus (IsRunOfInput Ends known)) (sym (append-nil h.0)) (status, all)), appends_kept a b c h.0 h.2 kept)

  -- or it breaks off
  pub input_breaks : (known : Option (List ℕ)) (bytes items : List ℕ) (a b : Option (List ℕ)) → bytes ≡ items → IfSome known (λ all. items ≡ take script_limit all) → BreaksOff (WithSomeStatus (IsRunOfBytes Ends bytes)) a b → BreaksOff (WithSomeStatus (IsRunOfInput Ends known)) a b
  input_breaks known bytes items a b same first =
      breaks_weaker (WithSomeStatus (IsRunOfBytes Ends bytes)) (WithSomeStatus (IsRunOfInput Ends known)) a b (λ text its. (its.0, input_run known bytes items its.0 text same first its.1))

  nothing_appended : (a b : Option (List ℕ)) → Keeps a b → Appends a b []
  nothing_appended a b kept = appends_kept a a b [] (appends_nothing a) kept

  -- the input can't be read
  pub input_unread : {E : Type 0} (known : Option (List ℕ)) (a b : Option (List ℕ)) (r : Result ℕ E) → IfOk r (λ status. status ≡ 4) → Keeps a b → IfOk r (λ status. Writes (IsRunOfInput Ends known status) a b)
  input_unread known a b (Ok status) is kept = ([], inl (is, refl), nothing_appended a b kept)
  input_unread known a b (Err e) is kept = tt

  pub unread_breaks : {E : Type 0} (known : Option (List ℕ)) (a b : Option (List ℕ)) (r : Result ℕ E) → Keeps a b → OnErr r (BreaksOff (WithSomeStatus (IsRunOfInput Ends known)) a b)
  unread_breaks known a b (Ok status) kept = tt
  unread_breaks known a b (Err e) kept = ([], inl refl, nothing_appended a b kept)

  -- ---- its bytes
  -- a line's fault is told
  pub bytes_refused : {E : Type 0} (bytes : List ℕ) (fault : Fault) (a b : Option (List ℕ)) (r : Result ℕ E) → TellsRefusal bytes fault → IfOk r (λ status. (status ≡ 2) × Writes (TellsLine fault) a b) → IfOk r (λ status. Writes (IsRunOfBytes Ends bytes status) a b)
  bytes_refused bytes fault a b (Ok status) tells (two, (text, (line, kind, same, says), wrote)) =
      (text, inr (record { line = line; kind = kind }, subst (TellsRefusal bytes) same tells, two, says), wrote)
  bytes_refused bytes fault a b (Err e) tells h = tt

  line_refused : (bytes : List ℕ) (fault : Fault) (text : List ℕ) → TellsRefusal bytes fault → TellsLine fault text → WithSomeStatus (IsRunOfBytes Ends bytes) text
  line_refused bytes fault text tells (line, kind, same, says) = (2, inr (record { line = line; kind = kind }, subst (TellsRefusal bytes) same tells, refl, says))

  pub refusal_breaks : {E : Type 0} (bytes : List ℕ) (fault : Fault) (a b : Option (List ℕ)) (r : Result ℕ E) → TellsRefusal bytes fault → OnErr r (BreaksOff (TellsLine fault) a b) → OnErr r (BreaksOff (WithSomeStatus (IsRunOfBytes Ends bytes)) a b)
  refusal_breaks bytes fault a b (Ok status) tells h = tt
  refusal_breaks bytes fault a b (Err e) tells h = breaks_weaker (TellsLine fault) (WithSomeStatus (IsRunOfBytes Ends bytes)) a b (λ text. line_refused bytes fault text tells) h

  script_runs : (bytes : List ℕ) (script : ScriptText) (opening : Option Opening) (a b : Option (List ℕ)) (status : ℕ) → IsServedScript bytes script → script.opening ≡ opening → IsRunOnThreads (Ends script.lines) opening (Appends a b) status → Writes (IsRunOfBytes Ends bytes status) a b
  script_runs bytes script (Some (openings.Shape sizes)) a b status served is (reported, says, wrote, answers) =
      (reported_text reported, inl (script, served, subst (λ (o : Option Opening). IsTextOnThreads (Ends script.lines) o status (reported_text reported)) (sym is) (reported, says, refl, answers)), wrote)
  script_runs bytes script (Some openings.Open) a b status served is (wrote, answers) = ([], inl (script, served, subst (λ (o : Option Opening). IsTextOnThreads (Ends script.lines) o status []) (sym is) (refl, answers)), wrote)
  script_runs bytes script None a b status served is (wrote, answers) = ([], inl (script, served, subst (λ (o : Option Opening). IsTextOnThreads (Ends script.lines) o status []) (sym is) (refl, answers)), wrote)

  pub result_runs : {E : Type 0} (bytes : List ℕ) (script : ScriptText) (a b : Option (List ℕ)) (r : Result ℕ E) → IsServedScript bytes script → IfOk r (IsRunOnThreads (Ends script.lines) script.opening (Appends a b)) → IfOk r (λ status. Writes (IsRunOfBytes Ends bytes status) a b)
  result_runs bytes script a b (Ok status) served h = script_runs bytes script script.opening a b status served refl h
  result_runs bytes script a b (Err e) served h = tt

  pub result_breaks : {E : Type 0} (bytes : List ℕ) (script : ScriptText) (a b : Option (List ℕ)) (r : Result ℕ E) → IsServedScript bytes script → OnErr r (BreaksOff (WithSomeStatus (IsTextOnThreads (Ends script.lines) script.opening)) a b) → OnErr r (BreaksOff (WithSomeStatus (IsRunOfBytes Ends bytes)) a b)
  result_breaks bytes script a b (Ok status) served h = tt
  result_breaks bytes script a b (Err e) served h =
      breaks_weaker (WithSomeStatus (IsTextOnThreads (Ends script.lines) script.opening)) (WithSomeStatus (IsRunOfBytes Ends bytes)) a b (λ text its. (its.0, inl (script, served, its.1))) h

-- ---- a line's text
joined : (number name : List ℕ) → codes "script line " ++ (number ++ (codes " " ++ (name ++ (10 ∷ [])))) ≡ ended (codes "script line " ++ number ++ codes " " ++ name)
joined number name = simp append_assoc

-- what was formatted is the line
pub line_told : (front said number name wanted : List ℕ) → front ≡ [] → said ≡ front ++ (codes "script line " ++ (number ++ (codes " " ++ (name ++ (10 ∷ []))))) → name ≡ wanted → said ≡ ended (codes "script line " ++ number ++ codes " " ++ wanted)
line_told front said number name wanted nothing h e =
    h ∙ ap (λ (its : List ℕ). its ++ (codes "script line " ++ (number ++ (codes " " ++ (name ++ (10 ∷ [])))))) nothing ∙ joined number name ∙ ap (λ (its : List ℕ). ended (codes "script line " ++ number ++ codes " " ++ its)) e
