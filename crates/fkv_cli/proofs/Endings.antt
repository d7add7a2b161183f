-- How the runs of a store end.
use Rattle.std.proofs.Common.{◌≡◌, ◌⊎◌, inl, inr, ℕ, ◌++◌, Bool, true, false, List, [], Option, refl, sym, ap, ◌∙◌, subst, append-nil, Result, Ok, Err, IfOk, OnErr}
use Rattle.std.proofs.lemmas.Result.{IfOk-weaker, on_err_weaker}
use Rattle.std.specs.Io.KnownBytes.{Appends}
use Rattle.fkv_base.specs.declared.faults.Fault.{Fault}
use Rattle.fkv_base.specs.declared.faults.Fault.TheVariants.{Damaged, Device, Memory, NotAStore}
use Rattle.fkv_base.specs.declared.numbers.Key.{Key}
use Rattle.fkv_base.specs.declared.numbers.Serial.{Serial}
use Rattle.fkv_base.specs.declared.numbers.Value.{Value}
use Rattle.fkv_base.specs.declared.shapes.Shape.{Shape}
use Rattle.fkv_runs.specs.Below.fkv_core.Worlds.{WorldModel}
use Rattle.fkv_runs.specs.Below.fkv_core.Event.{Event}
use Rattle.fkv_runs.specs.Below.fkv_core.TheTold.{Told}
use Rattle.fkv_creating.specs.Created.{IsCreated, IsNewStore}
use Rattle.fkv_opening.specs.Opened.{IsStoreOf}
use Rattle.fkv_opening.specs.declared.opened_store.Opened.{Opened}
use Rattle.fkv_options.specs.declared.options.Options.{Options}
use Rattle.fkv_runs.specs.Below.fkv_playing.InTurn.{Writes}
use Rattle.fkv_runs.specs.Below.fkv_playing.Players.{PlayerState}
use Rattle.fkv_runs.specs.Beginnings.{BreaksOff}
use Rattle.fkv_runs.specs.Files.{IsPartOfLife, IsRunOfLife}
use Rattle.fkv_runs.specs.Openings.{Begins, Medium}
use Rattle.fkv_runs.specs.Runs.{IsPartOfRun, IsRun}
use Rattle.fkv_runs.specs.declared.pieces.Piece.{Piece}
use Rattle.fkv_disk.specs.Quiet.{IsHindrance}
use Rattle.fkv_texts.specs.Reports.{report_text}
use Rattle.fkv_texts.specs.declared.reports.Opening.TheVariants as reports
use Rattle.fkv_texts.proofs.Shown.{appends_both}
use Rattle.fkv_runs.proofs.Shown.{breaks_at_once, breaks_behind, breaks_weaker, text_breaks}
use Rattle.fkv_cli.proofs.Appending.{writes_weaker}
use Rattle.fkv_cli.specs.Output.{HoldsStore, IsFound, IsLifeInFile, IsRunInFile, IsRunInMemory, IsRunInNewFile, IsUnopened, IsUnread, Places, Refuses, RefusesOld, settings_of}

-- what was hindered, and not by memory, was hindered by the device
hindered : (before now : ℕ) (fault : Fault) → IsHindrance before now fault → (fault ≡ Memory → ⊥) → fault ≡ Device
hindered before now Memory h other = absurd (other refl)
hindered before now Device h other = refl
hindered before now fault h other = absurd h

-- what is printed where a device is refused
pub refused_device : {E : Type 0} (Its : ℕ → List ℕ → Type 0) (fault : Fault) (a b : Option (List ℕ)) (result : Result ℕ E) → IfOk result (λ told. Writes (Refuses fault 3 told) a b)
    → fault ≡ Device → IfOk result (λ status. Writes (λ text. Its status text ⊎ Refuses Device 3 status text) a b)
refused_device Its fault a b result h device =
    IfOk-weaker result (λ told. Writes (Refuses fault 3 told) a b) (λ status. Writes (λ text. Its status text ⊎ Refuses Device 3 status text) a b)
    (λ told. writes_weaker (Refuses fault 3 told) (λ text. Its told text ⊎ Refuses Device 3 told text) a b
    (λ text said. inr (subst (λ (f : Fault). Refuses f 3 told text) device said)))
    h

-- what is printed where making a store was hindered
pub refused_new : {E : Type 0} (Its : ℕ → List ℕ → Type 0) (before now : ℕ) (fault : Fault) (a b : Option (List ℕ)) (result : Result ℕ E) → IfOk result (λ told. Writes (Refuses fault 3 told) a b)
    → IfOk result (λ told. fault ≡ Memory → ⊥) → IsHindrance before now fault → IfOk result (λ status. Writes (λ text. Its status text ⊎ Refuses Device 3 status text) a b)
refused_new {E} Its before now fault a b (Err error) h other hindrance = tt
refused_new {E} Its before now fault a b (Ok told) h other hindrance = refused_device {E = E} Its fault a b (Ok told) h (hindered before now fault hindrance other)

-- why no store is opened, by the fault in reading it
pub unopened_so : {F : Type 0} (places : Places F) (path : List ℕ) (found : F) (fault : Fault) → places.is_opened path found → IsUnread (places.honest found) (places.seen found) fault → (fault ≡ Memory → ⊥) → IsUnopened places path fault
unopened_so places path found NotAStore opened so other = (found, opened, so)
unopened_so places path found (Damaged part place) opened so other = (found, opened, so)
unopened_so places path found Device opened so other = tt
unopened_so places path found Memory opened so other = absurd (other refl)
unopened_so places path found fault opened so other = so

-- what is printed where opening a store is refused
pub refused_old : {E F : Type 0} (Its : ℕ → List ℕ → Type 0) (places : Places F) (path : List ℕ) (fault : Fault) (a b : Option (List ℕ)) (result : Result ℕ E) → ((fault ≡ Memory → ⊥) → IsUnopened places path fault)
    → IfOk result (λ told. fault ≡ Memory → ⊥) → IfOk result (λ told. Writes (Refuses fault 3 told) a b) → IfOk result (λ status. Writes (λ text. Its status text ⊎ RefusesOld places path status text) a b)
refused_old Its places path fault a b (Err error) why other h = tt
refused_old Its places path fault a b (Ok told) why other h =
    writes_weaker (Refuses fault 3 told) (λ text. Its told text ⊎ RefusesOld places path told text) a b (λ text said. inr (fault, why other, said)) h

-- such a refusal breaks off
pub refusal_breaks : {E F : Type 0} (places : Places F) (path : List ℕ) (pieces : List Piece) (fault : Fault) (a b : Option (List ℕ)) (result : Result ℕ E) → ((fault ≡ Memory → ⊥) → IsUnopened places path fault)
    → OnErr result (BreaksOff (λ text. (fault ≡ Memory → ⊥) × Refuses fault 3 4 text) a b)
    → OnErr result (BreaksOff (λ text. IsRunInFile places path pieces 4 text ⊎ RefusesOld places path 4 text) a b)
refusal_breaks places path pieces fault a b result why h =
    on_err_weaker result
    (breaks_weaker (λ text. (fault ≡ Memory → ⊥) × Refuses fault 3 4 text) (λ text. IsRunInFile places path pieces 4 text ⊎ RefusesOld places path 4 text) a b (λ text said. inr (fault, why said.0, said.1)))
    h

-- the lives of a new store in memory
pub lives_in_memory : {E M : Type 0} (medium : Medium M) (options : Options) (shape : Shape) (opened : Opened) (image : List ℕ) (device : M) (pieces : List Piece) (a b : Option (List ℕ)) (result : Result ℕ E)
    → IsNewStore shape opened → IsCreated shape image → IsStoreOf image opened → medium.holds image device → medium.crashes image device
    → IfOk result (λ status. (player : PlayerState M) × Begins opened device [] options.check player
    × Writes (IsRun medium (settings_of options) pieces (record { player = player; agrees = true }) status) a b)
    → IfOk result (λ status. Writes (λ text. IsRunInMemory medium options shape pieces status text ⊎ Refuses Device 3 status text) a b)
lives_in_memory medium options shape opened image device pieces a b (Err error) new created store reads crashes h = tt
lives_in_memory medium options shape opened image device pieces a b (Ok status) new created store reads crashes h =
    writes_weaker (IsRun medium (settings_of options) pieces (record { player = h.0; agrees = true }) status) (λ text. IsRunInMemory medium options shape pieces status text ⊎ Refuses Device 3 status text) a b
    (λ text run. inl (record { opened = opened; is_new = new; image = image; created = created; store = store; device = device; reads = reads; crashes = crashes; player = h.0; begins = h.1; lives = inl run }))
    h.2

-- they break off
pub lives_break : {E M : Type 0} (medium : Medium M) (options : Options) (shape : Shape) (opened : Opened) (image : List ℕ) (device : M) (pieces : List Piece) (a b : Option (List ℕ)) (result : Result ℕ E)
    → IsNewStore shape opened → IsCreated shape image → IsStoreOf image opened → medium.holds image device → medium.crashes image device
    → OnErr result (BreaksOff (λ text. (player : PlayerState M) × Begins opened device [] options.check player
    × IsPartOfRun medium (settings_of options) pieces (record { player = player; agrees = true }) text) a b)
    → OnErr result (BreaksOff (λ text. IsRunInMemory medium options shape pieces 4 text ⊎ Refuses Device 3 4 text) a b)
lives_break {E} {M} medium options shape opened image device pieces a b result new created store reads crashes h =
    let Its : List ℕ → Type 0 = λ text. (player : PlayerState M) × Begins opened device [] options.check player
    × IsPartOfRun medium (settings_of options) pieces (record { player = player; agrees = true }) text in
    let Other : List ℕ → Type 0 = λ text. IsRunInMemory medium options shape pieces 4 text ⊎ Refuses Device 3 4 text in
    on_err_weaker result
    (breaks_weaker Its Other a b
    (λ text part. inl (record { opened = opened; is_new = new; image = image; created = created; store = store; device = device; reads = reads; crashes = crashes; player = part.0; begins = part.1; lives = inr (refl, part.2) })))
    h

-- the life of a store in a file
life_whole : {F : Type 0} (engine : Event → WorldModel F → WorldModel F → Option Told → Bool → Type 0) (opened : Opened) (device : F) (pieces : List Piece) (player : PlayerState F) (text : List ℕ)
    → Begins opened device [] false player → IsRunOfLife engine pieces player text → IsLifeInFile engine opened device pieces 0 text
life_whole engine opened device pieces player text begins run = record { player = player; begins = begins; played = inl (refl, run) }

life_part : {F : Type 0} (engine : Event → WorldModel F → WorldModel F → Option Told → Bool → Type 0) (opened : Opened) (device : F) (pieces : List Piece) (text : List ℕ)
    → (player : PlayerState F) × Begins opened device [] false player × IsPartOfLife engine pieces player text → IsLifeInFile engine opened device pieces 4 text
life_part engine opened device pieces text part = record { player = part.0; begins = part.1; played = inr (refl, part.2) }

-- the life of a new store in a file
module _ {F : Type 0} (places : Places F) (path : List ℕ) (shape : Shape) (opened : Opened) (found device : F) (pieces : List Piece) (a b : Option (List ℕ)) (new : IsNewStore shape opened) (made : places.is_made path found)
    (holds : places.honest found → HoldsStore places.honest places.seen places.may_leave (places.seen device) opened device) where
  new_file : (status : ℕ) (text : List ℕ) → IsLifeInFile places.engine opened device pieces status text → IsRunInNewFile places path shape pieces status text
  new_file status text life = record { opened = opened; is_new = new; found = found; made = made; device = device; holds = holds; life = life }

  pub life_in_new_file : (player : PlayerState F) × Begins opened device [] false player × Writes (IsRunOfLife places.engine pieces player) a b
      → Writes (λ text. IsRunInNewFile places path shape pieces 0 text ⊎ Refuses Device 3 0 text) a b
  life_in_new_file h =
      writes_weaker (IsRunOfLife places.engine pieces h.0) (λ text. IsRunInNewFile places path shape pieces 0 text ⊎ Refuses Device 3 0 text) a b
      (λ text run. inl (new_file 0 text (life_whole places.engine opened device pieces h.0 text h.1 run)))
      h.2

  -- it breaks off
  pub life_breaks_in_new_file : BreaksOff (λ text. (player : PlayerState F) × Begins opened device [] false player × IsPartOfLife places.engine pieces player text) a b
      → BreaksOff (λ text. IsRunInNewFile places path shape pieces 4 text ⊎ Refuses Device 3 4 text) a b
  life_breaks_in_new_file =
      breaks_weaker (λ text. (player : PlayerState F) × Begins opened device [] false player × IsPartOfLife places.engine pieces player text) (λ text. IsRunInNewFile places path shape pieces 4 text ⊎ Refuses Device 3 4 text) a b
      (λ text part. inl (new_file 4 text (life_part places.engine opened device pieces text part)))

-- the report of the store that a file holds, as what was called says it
report_written : (opened : Opened) (pairs listed : List (Key × Value)) (points : List Serial) (said : List ℕ) (a b : Option (List ℕ))
    → points ≡ opened.points.items → listed ≡ pairs → said ≡ report_text reports.Open opened.number points listed → Appends a b said
    → Appends a b (report_text reports.Open opened.number opened.points.items pairs)
report_written opened pairs listed points said a b same_points same_pairs told h =
    subst (λ (its : List (Key × Value)). Appends a b (report_text reports.Open opened.number opened.points.items its)) same_pairs
    (subst (λ (its : List Serial). Appends a b (report_text reports.Open opened.number its listed)) same_points
    (subst (λ (its : List ℕ). Appends a b its) told h))

-- nothing is written yet
pub file_unsaid : {F : Type 0} (places : Places F) (path : List ℕ) (pieces : List Piece) (a : Option (List ℕ))
    → BreaksOff (λ text. IsRunInFile places path pieces 4 text ⊎ RefusesOld places path 4 text) a a
file_unsaid places path pieces = breaks_at_once (λ text. IsRunInFile places path pieces 4 text ⊎ RefusesOld places path 4 text)

-- the store that a file holds
module _ {F : Type 0} (places : Places F) (path : List ℕ) (found device : F) (opened : Opened) (pairs : List (Key × Value)) (is_opened : places.is_opened path found)
    (is_found : IsFound places.honest places.seen places.may_leave found opened pairs device) (pieces : List Piece) where
  in_file : (status : ℕ) (said : List ℕ) → IsLifeInFile places.engine opened device pieces status said ⊎ ((status ≡ 4) × (said ≡ []))
      → IsRunInFile places path pieces status (report_text reports.Open opened.number opened.points.items pairs ++ said)
  in_file status said life = record { opened = opened; pairs = pairs; found = found; is_opened = is_opened; device = device; is_found = is_found; said = said; life = life; says = refl }

  -- behind the report its life
  pub life_in_file : (listed : List (Key × Value)) (points : List Serial) (report : List ℕ)
      (a b c : Option (List ℕ)) → points ≡ opened.points.items → listed ≡ pairs → report ≡ report_text reports.Open opened.number points listed → Appends a b report
      → (player : PlayerState F) × Begins opened device [] false player × Writes (IsRunOfLife places.engine pieces player) b c
      → Writes (λ text. IsRunInFile places path pieces 0 text ⊎ RefusesOld places path 0 text) a c
  life_in_file listed points report a b c same_points same_pairs told reported h =
      let said : List ℕ = h.2.0 in
      let its : List ℕ = report_text reports.Open opened.number opened.points.items pairs in (
        its ++ said,
        inl (in_file 0 said (inl (life_whole places.engine opened device pieces h.0 said h.1 h.2.1))),
        appends_both a b c its said (report_written opened pairs listed points report a b same_points same_pairs told reported) h.2.2,
      )

  -- the report, where no life begins behind it
  report_alone : IsRunInFile places path pieces 4 (report_text reports.Open opened.number opened.points.items pairs)
  report_alone = subst (λ (text : List ℕ). IsRunInFile places path pieces 4 text) (append-nil (report_text reports.Open opened.number opened.points.items pairs)) (in_file 4 [] (inr (refl, refl)))

  -- behind the report its life breaks off
  pub life_breaks_in_file : (listed : List (Key × Value)) (points : List Serial) (report : List ℕ)
      (a b c : Option (List ℕ)) → points ≡ opened.points.items → listed ≡ pairs → report ≡ report_text reports.Open opened.number points listed → Appends a b report
      → BreaksOff (λ text. (player : PlayerState F) × Begins opened device [] false player × IsPartOfLife places.engine pieces player text) b c
      → BreaksOff (λ text. IsRunInFile places path pieces 4 text ⊎ RefusesOld places path 4 text) a c
  life_breaks_in_file listed points report a b c same_points same_pairs told reported =
      let its : List ℕ = report_text reports.Open opened.number opened.points.items pairs in
      breaks_behind (λ text. (player : PlayerState F) × Begins opened device [] false player × IsPartOfLife places.engine pieces player text) (λ text. IsRunInFile places path pieces 4 text ⊎ RefusesOld places path 4 text) its
      a b c
      (report_written opened pairs listed points report a b same_points same_pairs told reported)
      (inl report_alone)
      (λ text part. inl (in_file 4 text (inl (life_part places.engine opened device pieces text part))))

  -- the report breaks off
  pub report_breaks : (listed : List (Key × Value)) (points : List Serial) (report : List ℕ) (a b : Option (List ℕ))
      → points ≡ opened.points.items → listed ≡ pairs → report ≡ report_text reports.Open opened.number points listed → BreaksOff (λ its. its ≡ report) a b
      → BreaksOff (λ text. IsRunInFile places path pieces 4 text ⊎ RefusesOld places path 4 text) a b
  report_breaks listed points report a b same_points same_pairs told =
      let its : List ℕ = report_text reports.Open opened.number opened.points.items pairs in
      let same : its ≡ report =
      sym (told ∙ ap (λ (p : List Serial). report_text reports.Open opened.number p listed) same_points ∙ ap (λ (p : List (Key × Value)). report_text reports.Open opened.number opened.points.items p) same_pairs) in
      text_breaks (λ text. IsRunInFile places path pieces 4 text ⊎ RefusesOld places path 4 text) report a b
      (inl (subst (λ (text : List ℕ). IsRunInFile places path pieces 4 text) same report_alone))
