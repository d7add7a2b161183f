-- What is written for the bytes of a script, and for the words of a run.
use Rattle.std.proofs.Common.{◌≡◌, ◌∙◌, inl, inr, ℕ, Bool, true, false, List, length, take, Option, Some, None, refl, sym, ap, subst, arith, Result, Ok, Err, IfSome, OnErr, OnOk, codes, is_some, string_bytes}
use Rattle.std.proofs.lemmas.List.{take_all}
use Rattle.std.specs.Io.KnownBytes.{Appends, Keeps}
use Rattle.fkv_base.specs.declared.faults.Fault.{Fault}
use Rattle.fkv_base.specs.declared.faults.Fault.TheVariants as faults
use Rattle.fkv_base.specs.declared.faults.Fault.TheVariants.{Memory, Script}
use Rattle.fkv_base.specs.declared.shapes.Shape.{Shape}
use Rattle.fkv_runs.specs.Below.fkv_core.Worlds.{WorldModel}
use Rattle.fkv_runs.specs.Below.fkv_core.Event.{Event}
use Rattle.fkv_runs.specs.Below.fkv_core.TheTold.{Told}
use Rattle.fkv_lines.specs.Reading.{TellsFault}
use Rattle.fkv_lines.specs.Script.{LineFault, ScriptText, script_of}
use Rattle.fkv_lines.specs.declared.scripts.Line.{Line}
use Rattle.fkv_lines.specs.declared.scripts.Opening as openings
use Rattle.fkv_lines.specs.declared.scripts.Opening.TheVariants as opening
use Rattle.fkv_opening.specs.declared.opened_store.Opened.{Opened}
use Rattle.fkv_options.specs.Options.{AreMatchesOf, TellsMatches}
use Rattle.fkv_options.specs.declared.endings.RunFault.{RunFault}
use Rattle.fkv_options.specs.declared.options.Options.{Options}
use Rattle.fkv_runs.specs.Below.fkv_playing.InTurn.{Writes}
use Rattle.fkv_runs.specs.Below.fkv_playing.Players.{PlayerState}
use Rattle.fkv_runs.specs.Beginnings.{BreaksOff}
use Rattle.fkv_runs.specs.Files.{IsRunOfLife}
use Rattle.fkv_runs.specs.Openings.{Medium}
use Rattle.fkv_runs.specs.Runs.{RunState}
use Rattle.fkv_runs.specs.declared.settings.Settings.{Settings}
use Rattle.fkv_runs.specs.declared.pieces.Piece.{Piece}
use Rattle.fkv_texts.specs.Lines.{line_of}
use Rattle.fkv_runs.proofs.Shown.{appends_kept, breaks_weaker}
use Rattle.fkv_cli.proofs.Appending.{writes_broken, writes_kept, writes_weaker}
use Rattle.fkv_cli.specs.Output.{AreLives, AreUnreadWords, Devices, IsLifeInFile, IsOutputOf, IsPlayed, IsRunInFile, IsRunInMemory, IsRunInNewFile, IsRunOfOldStore, IsRunOfScript, IsRunOfShape, IsEndingBy, IsRunOfInput, IsRunOfStore, IsRunOfText, Places, ReadsOrEnds, Refuses, mode_of, path_in, script_limit, settings_of}

-- a script's fault, and how a run ends by it
pub ends_by : (read : Result ScriptText LineFault) (fault : Fault) (ended : RunFault) → TellsFault read fault → IsEndingBy fault ended → ReadsOrEnds read (Err ended)
ends_by read (Script line kind) ended told (inl want) = inl want
ends_by read (Script line kind) ended told (inr ends) = inr (record { line = line; kind = kind }, told, ends)
ends_by read Memory ended told want = inl want
ends_by read faults.BadShape ended told want = absurd told
ends_by read faults.ValueReserved ended told want = absurd told
ends_by read faults.PendingFull ended told want = absurd told
ends_by read faults.IndexFull ended told want = absurd told
ends_by read faults.LogFull ended told want = absurd told
ends_by read faults.VersionsSpent ended told want = absurd told
ends_by read faults.SerialsSpent ended told want = absurd told
ends_by read faults.EpochsSpent ended told want = absurd told
ends_by read faults.DrainFull ended told want = absurd told
ends_by read faults.CommitRunning ended told want = absurd told
ends_by read faults.PendingLeft ended told want = absurd told
ends_by read faults.Asleep ended told want = absurd told
ends_by read faults.Broken ended told want = absurd told
ends_by read faults.Device ended told want = absurd told
ends_by read faults.NotAStore ended told want = absurd told
ends_by read faults.NoSession ended told want = absurd told
ends_by read faults.Awake ended told want = absurd told
ends_by read faults.LostFull ended told want = absurd told
ends_by read (faults.Damaged part place) ended told want = absurd told

-- the line that tells of it is printed
pub fault_told : {M F : Type 0} (devices : Devices M F) (options : Options) (read : Result ScriptText LineFault) (ended : RunFault) (status : ℕ) (a b : Option (List ℕ))
    → ReadsOrEnds read (Err ended) → status ≡ ended.status → (ended.status ≡ 4 → ⊥) → Appends a b (string_bytes ended.text) → Writes (IsRunOfText devices options read status) a b
fault_told devices options read ended status a b (inl want) same other h = absurd (other want.0)
fault_told devices options read ended status a b (inr (fault, is, ends)) same other h = (
  string_bytes ended.text,
  subst (λ (its : Result ScriptText LineFault). IsRunOfText devices options its status (string_bytes ended.text)) (sym is) (inl (same ∙ ends.0), ends.1),
  h,
)

-- it breaks off
fault_at_4 : {M F : Type 0} (devices : Devices M F) (options : Options) (read : Result ScriptText LineFault) (ended : RunFault) (text : List ℕ)
    → ReadsOrEnds read (Err ended) → (ended.status ≡ 4 → ⊥) → text ≡ string_bytes ended.text → IsRunOfText devices options read 4 text
fault_at_4 devices options read ended text (inl want) other same = absurd (other want.0)
fault_at_4 devices options read ended text (inr (fault, is, ends)) other same =
    subst (λ (its : Result ScriptText LineFault). IsRunOfText devices options its 4 text) (sym is) (inr refl, same ∙ ends.1)

pub fault_breaks : {M F : Type 0} (devices : Devices M F) (options : Options) (read : Result ScriptText LineFault) (ended : RunFault) (a b : Option (List ℕ))
    → ReadsOrEnds read (Err ended) → BreaksOff (λ text. (ended.status ≡ 4 → ⊥) × (text ≡ string_bytes ended.text)) a b → BreaksOff (IsRunOfText devices options read 4) a b
fault_breaks devices options read ended a b told =
    breaks_weaker (λ text. (ended.status ≡ 4 → ⊥) × (text ≡ string_bytes ended.text)) (IsRunOfText devices options read 4) a b
    (λ text h. fault_at_4 devices options read ended text told h.0 h.1)

-- ---- status 4, where all is written

refuses_at_4 : (fault : Fault) (wanted status : ℕ) (text : List ℕ) → Refuses fault wanted status text → Refuses fault wanted 4 text
refuses_at_4 fault wanted status text h = (inr refl, h.1)

lives_at_4 : {M : Type 0} (medium : Medium M) (settings : Settings) (pieces : List Piece) (before : RunState M) (status : ℕ) (text : List ℕ) → AreLives medium settings pieces before status text → AreLives medium settings pieces before 4 text
lives_at_4 medium settings pieces before status text (inl whole) = inr (refl, inr (status, whole))
lives_at_4 medium settings pieces before status text (inr part) = inr (refl, part.1)

memory_at_4 : {M F : Type 0} (devices : Devices M F) (options : Options) (shape : Shape) (pieces : List Piece) (status : ℕ) (text : List ℕ)
    → IsRunInMemory devices.memory options shape pieces status text → IsRunInMemory devices.memory options shape pieces 4 text
memory_at_4 devices options shape pieces status text run =
    record {
      opened = run.opened;
      is_new = run.is_new;
      image = run.image;
      created = run.created;
      store = run.store;
      device = run.device;
      reads = run.reads;
      crashes = run.crashes;
      player = run.player;
      begins = run.begins;
      lives = lives_at_4 devices.memory (settings_of options) pieces (record { player = run.player; agrees = true }) status text run.lives;
    }

-- all pieces are as many as there are
all_played : {F : Type 0} (engine : Event → WorldModel F → WorldModel F → Option Told → Bool → Type 0) (pieces : List Piece) (player : PlayerState F) (status : ℕ) (text : List ℕ) → IsPlayed engine pieces player status text → IsPlayed engine pieces player 4 text
all_played engine pieces player status text (inl whole) =
    inr (refl, (length pieces, subst (λ (its : List Piece). IsRunOfLife engine its player text) (sym (take_all (length pieces) pieces (omega arith))) whole.1))
all_played engine pieces player status text (inr part) = inr (refl, part.1)

life_at_4 : {F : Type 0} (engine : Event → WorldModel F → WorldModel F → Option Told → Bool → Type 0) (opened : Opened) (device : F) (pieces : List Piece) (status : ℕ) (text : List ℕ) → IsLifeInFile engine opened device pieces status text
    → IsLifeInFile engine opened device pieces 4 text
life_at_4 engine opened device pieces status text life = record { player = life.player; begins = life.begins; played = all_played engine pieces life.player status text life.played }

new_file_at_4 : {F : Type 0} (places : Places F) (path : List ℕ) (shape : Shape) (pieces : List Piece) (status : ℕ) (text : List ℕ) → IsRunInNewFile places path shape pieces status text → IsRunInNewFile places path shape pieces 4 text
new_file_at_4 places path shape pieces status text run = record {
  opened = run.opened;
  is_new = run.is_new;
  found = run.found;
  made = run.made;
  device = run.device;
  holds = run.holds;
  life = life_at_4 places.engine run.opened run.device pieces status text run.life;
}

file_at_4 : {F : Type 0} (places : Places F) (path : List ℕ) (pieces : List Piece) (status : ℕ) (text : List ℕ) → IsRunInFile places path pieces status text → IsRunInFile places path pieces 4 text
file_at_4 places path pieces status text run = elim run.life [
  | inl life ↦ record {
    opened = run.opened;
    pairs = run.pairs;
    found = run.found;
    is_opened = run.is_opened;
    device = run.device;
    is_found = run.is_found;
    said = run.said;
    life = inl (life_at_4 places.engine run.opened run.device pieces status run.said life);
    says = run.says;
  }
  | inr none ↦ record {
    opened = run.opened;
    pairs = run.pairs;
    found = run.found;
    is_opened = run.is_opened;
    device = run.device;
    is_found = run.is_found;
    said = run.said;
    life = inr (refl, none.1);
    says = run.says;
  }
]

old_at_4 : {F : Type 0} (places : Places F) (path : List ℕ) (pieces : List Piece) (status : ℕ) (text : List ℕ) (in_file : Bool) → IsRunOfOldStore places path pieces status text in_file → IsRunOfOldStore places path pieces 4 text in_file
old_at_4 places path pieces status text false h = (inr refl, h.1)
old_at_4 places path pieces status text true (inl run) = inl (file_at_4 places path pieces status text run)
old_at_4 places path pieces status text true (inr (fault, why, refusal)) = inr (fault, why, refuses_at_4 fault 3 status text refusal)

store_at_4 : {M F : Type 0} (devices : Devices M F) (options : Options) (shape : Option Shape) (pieces : List Piece) (status : ℕ) (text : List ℕ) (in_file : Bool)
    → IsRunOfStore devices options shape pieces status text in_file → IsRunOfStore devices options shape pieces 4 text in_file
store_at_4 devices options None pieces status text in_file h = old_at_4 devices.file (path_in options.file) pieces status text in_file h
store_at_4 devices options (Some shape) pieces status text false (inl run) = inl (memory_at_4 devices options shape pieces status text run)
store_at_4 devices options (Some shape) pieces status text false (inr refusal) = inr (inr refl, refusal.1)
store_at_4 devices options (Some shape) pieces status text true (inl run) = inl (new_file_at_4 devices.file (path_in options.file) shape pieces status text run)
store_at_4 devices options (Some shape) pieces status text true (inr refusal) = inr (inr refl, refusal.1)

shape_at_4 : {M F : Type 0} (devices : Devices M F) (options : Options) (first : openings.Opening) (pieces : List Piece) (status : ℕ) (text : List ℕ)
    → IsRunOfShape devices options first pieces status text → IsRunOfShape devices options first pieces 4 text
shape_at_4 devices options opening.Open pieces status text h = store_at_4 devices options None pieces status text (is_some options.file) h
shape_at_4 devices options (opening.Shape sizes) pieces status text (inl (shape, has, run)) = inl (shape, has, store_at_4 devices options (Some shape) pieces status text (is_some options.file) run)
shape_at_4 devices options (opening.Shape sizes) pieces status text (inr (none, refusal)) = inr (none, (inr refl, refusal.1))

script_at_4 : {M F : Type 0} (devices : Devices M F) (options : Options) (said : Option openings.Opening) (lines : List Line) (status : ℕ) (text : List ℕ)
    → IsRunOfScript devices options said lines status text → IsRunOfScript devices options said lines 4 text
script_at_4 devices options None lines status text h = (inr refl, h.1)
script_at_4 devices options (Some first) lines status text (pieces, are, run) = (pieces, are, shape_at_4 devices options first pieces status text run)

text_at_4 : {M F : Type 0} (devices : Devices M F) (options : Options) (read : Result ScriptText LineFault) (status : ℕ) (text : List ℕ)
    → IsRunOfText devices options read status text → IsRunOfText devices options read 4 text
text_at_4 devices options (Ok script) status text h = script_at_4 devices options script.opening script.lines status text h
text_at_4 devices options (Err fault) status text h = (inr refl, h.1)

-- ---- the input

-- what is written of a script's first bytes is written of the input, where it is known
first_bytes_run : {M F : Type 0} (devices : Devices M F) (options : Options) (known : Option (List ℕ)) (items : List ℕ) (status : ℕ) (text : List ℕ)
    → IfSome known (λ script. items ≡ take script_limit script)
    → IsRunOfText devices options (script_of (mode_of (is_some options.file)) items) status text → IsRunOfInput devices options known status text
first_bytes_run devices options None items status text taken run = tt
first_bytes_run devices options (Some script) items status text taken run =
    subst (λ (front : List ℕ). IsRunOfText devices options (script_of (mode_of (is_some options.file)) front) status text) taken run

module _ {M F : Type 0} (devices : Devices M F) (options : Options) (known : Option (List ℕ)) (bytes items : List ℕ) (same : bytes ≡ items) (taken : IfSome known (λ script. items ≡ take script_limit script)) where
  known_run : (status : ℕ) (text : List ℕ) → IsRunOfText devices options (script_of (mode_of (is_some options.file)) bytes) status text → IsRunOfInput devices options known status text
  known_run status text run =
      first_bytes_run devices options known items status text taken
      (subst (λ (its : List ℕ). IsRunOfText devices options (script_of (mode_of (is_some options.file)) its) status text) same run)

  -- a flush behind it keeps all of it
  pub runs_input : {W : Type 0} (status said : ℕ) (contents : W → Option (List ℕ)) (a : Option (List ℕ)) (between output after : W)
      → Writes (IsRunOfText devices options (script_of (mode_of (is_some options.file)) bytes) said) a (contents output) → status ≡ said → between ≡ output → Keeps (contents between) (contents after)
      → Writes (IsRunOfInput devices options known status) a (contents after)
  runs_input {W} status said contents a between output after h same_status same_output kept =
      subst (λ (n : ℕ). Writes (IsRunOfInput devices options known n) a (contents after)) (sym same_status)
      (writes_kept (IsRunOfInput devices options known said) a (contents output) (contents after)
      (writes_weaker (IsRunOfText devices options (script_of (mode_of (is_some options.file)) bytes) said) (IsRunOfInput devices options known said) a (contents output)
      (λ text. known_run said text)
      h)
      (subst (λ (o : W). Keeps (contents o) (contents after)) same_output kept))

  -- all is written, and then the flush fails
  pub input_flushed : {W : Type 0} (said : ℕ) (contents : W → Option (List ℕ)) (a : Option (List ℕ)) (between output after : W)
      → Writes (IsRunOfText devices options (script_of (mode_of (is_some options.file)) bytes) said) a (contents output) → between ≡ output → Keeps (contents between) (contents after)
      → BreaksOff (IsRunOfInput devices options known 4) a (contents after)
  input_flushed {W} said contents a between output after h same_output kept =
      writes_broken (IsRunOfInput devices options known 4) a (contents after)
      (writes_kept (IsRunOfInput devices options known 4) a (contents output) (contents after)
      (writes_weaker (IsRunOfText devices options (script_of (mode_of (is_some options.file)) bytes) said) (IsRunOfInput devices options known 4) a (contents output)
      (λ text run. known_run 4 text (text_at_4 devices options (script_of (mode_of (is_some options.file)) bytes) said text run))
      h)
      (subst (λ (o : W). Keeps (contents o) (contents after)) same_output kept))

  -- it breaks off
  pub input_breaks : (a b : Option (List ℕ)) → BreaksOff (IsRunOfText devices options (script_of (mode_of (is_some options.file)) bytes) 4) a b → BreaksOff (IsRunOfInput devices options known 4) a b
  input_breaks a b =
      breaks_weaker (IsRunOfText devices options (script_of (mode_of (is_some options.file)) bytes) 4) (IsRunOfInput devices options known 4) a b
      (λ text. known_run 4 text)

-- a run that comes to status 4 by itself
pub ends_at_4 : (Its : ℕ → List ℕ → Type 0) (status : ℕ) (a b : Option (List ℕ)) → Writes (Its status) a b → status ≡ 4 → BreaksOff (Its 4) a b
ends_at_4 Its status a b h e = writes_broken (Its 4) a b (subst (λ (n : ℕ). Writes (Its n) a b) e h)

-- ---- words

module _ {M F : Type 0} (devices : Devices M F) (words : List (List ℕ)) (known : Option (List ℕ)) where
  -- what is written by the options that the words ask for
  asked_run : (options : Options) (status : ℕ) (text : List ℕ) → AreMatchesOf words options → IsRunOfInput devices options known status text → IsOutputOf devices words known status text
  asked_run options status text asked run = inr (record { options = options; asked = asked; run = run })

  pub runs_words : (options : Options) (status said : ℕ) (a b : Option (List ℕ)) → AreMatchesOf words options → status ≡ said → ((said ≡ 4 → ⊥) → Writes (IsRunOfInput devices options known said) a b)
      → (status ≡ 4 → ⊥) → Writes (IsOutputOf devices words known status) a b
  runs_words options status said a b asked same h other =
      writes_weaker (IsRunOfInput devices options known status) (IsOutputOf devices words known status) a b (λ text. asked_run options status text asked)
      (subst (λ (n : ℕ). Writes (IsRunOfInput devices options known n) a b) (sym same) (h (λ four. other (same ∙ four))))

  pub words_break : (options : Options) (status said : ℕ) (a b : Option (List ℕ)) → AreMatchesOf words options → status ≡ said → (said ≡ 4 → BreaksOff (IsRunOfInput devices options known 4) a b)
      → status ≡ 4 → BreaksOff (IsOutputOf devices words known 4) a b
  words_break options status said a b asked same h four =
      breaks_weaker (IsRunOfInput devices options known 4) (IsOutputOf devices words known 4) a b (λ text. asked_run options 4 text asked) (h (sym same ∙ four))

  -- words that are refused
  pub refuses_words : (fault : RunFault) (status : ℕ) (a b : Option (List ℕ)) → TellsMatches words (Err fault) → (status ≡ 4 → ⊥) → status ≡ fault.status → Appends a b (string_bytes fault.text)
      → Writes (IsOutputOf devices words known status) a b
  refuses_words fault status a b (inl want) other same h = absurd (other (same ∙ want.0))
  refuses_words fault status a b (inr (refused, line)) other same h =
      (string_bytes fault.text, inl (record { refused = refused; answers = inl (same ∙ line.0); says = line.1 }), h)

  refused_at_4 : (fault : RunFault) (text : List ℕ) → TellsMatches words (Err fault) → (fault.status ≡ 4 → ⊥) → text ≡ string_bytes fault.text → IsOutputOf devices words known 4 text
  refused_at_4 fault text (inl want) other says = absurd (other want.0)
  refused_at_4 fault text (inr (refused, line)) other says = inl (record { refused = refused; answers = inr refl; says = says ∙ line.1 })

  pub refusal_breaks : (fault : RunFault) (a b : Option (List ℕ)) → TellsMatches words (Err fault) → BreaksOff (λ text. (fault.status ≡ 4 → ⊥) × (text ≡ string_bytes fault.text)) a b
      → BreaksOff (IsOutputOf devices words known 4) a b
  refusal_breaks fault a b told =
      breaks_weaker (λ text. (fault.status ≡ 4 → ⊥) × (text ≡ string_bytes fault.text)) (IsOutputOf devices words known 4) a b
      (λ text h. refused_at_4 fault text told h.0 h.1)

-- the line of a refusal, and a flush behind it
pub refusal_kept : {W : Type 0} (fault : RunFault) (contents : W → Option (List ℕ)) (a : Option (List ℕ)) (between output after : W)
    → (fault.status ≡ 4 → ⊥) → Appends a (contents output) (string_bytes fault.text) → between ≡ output → Keeps (contents between) (contents after)
    → BreaksOff (λ text. (fault.status ≡ 4 → ⊥) × (text ≡ string_bytes fault.text)) a (contents after)
refusal_kept {W} fault contents a between output after other h same kept =
    writes_broken (λ text. (fault.status ≡ 4 → ⊥) × (text ≡ string_bytes fault.text)) a (contents after)
    (string_bytes fault.text, (other, refl), appends_kept a (contents output) (contents after) (string_bytes fault.text) h (subst (λ (o : W). Keeps (contents o) (contents after)) same kept))

-- words of which one is no text
pub unread_breaks : (told : List ℕ) (a b : Option (List ℕ)) → told ≡ line_of (codes "options") → BreaksOff (λ text. text ≡ told) a b → BreaksOff (AreUnreadWords 4) a b
unread_breaks told a b same = breaks_weaker (λ text. text ≡ told) (AreUnreadWords 4) a b (λ text is. (inr refl, is ∙ same))

pub unread_told : {T E : Type 0} (result : Result T E) (told : List ℕ) (a b c : Option (List ℕ)) → told ≡ line_of (codes "options") → Appends a b told → Keeps b c → OnOk result (Writes (AreUnreadWords 2) a c)
unread_told (Ok value) told a b c same h k = (told, (inl refl, same), appends_kept a b c told h k)
unread_told (Err error) told a b c same h k = tt

-- the line is written, and then the flush fails
pub unread_flushed : {T E : Type 0} (result : Result T E) (told : List ℕ) (a b c : Option (List ℕ)) → told ≡ line_of (codes "options") → Appends a b told → Keeps b c → OnErr result (BreaksOff (AreUnreadWords 4) a c)
unread_flushed (Ok value) told a b c same h k = tt
unread_flushed (Err error) told a b c same h k = writes_broken (AreUnreadWords 4) a c (told, (inr refl, same), appends_kept a b c told h k)
