-- What the program writes, and its status, by its words and its script.
use Rattle.std.specs.Prelude.{◌≡◌, ◌⊎◌, ◌*◌, ◌+◌, ℕ, Bool, true, false, List, [], ◌++◌, codes, decimal, take, is_some, string_bytes, IfSome, Option, Some, None, String, Result, Ok, Err}
use Rattle.fkv_base.specs.declared.numbers.Key.{Key}
use Rattle.fkv_base.specs.declared.numbers.Value.{Value}
use Rattle.fkv_base.specs.Fault.{script_fault_name}
use Rattle.fkv_base.specs.Limits.{IsShape, IsSmall, IsOfClass}
use Rattle.fkv_base.specs.declared.faults.Fault.{Fault}
use Rattle.fkv_base.specs.declared.faults.Fault.TheVariants.{BadShape, Damaged, Device, Memory, NotAStore, Script}
use Rattle.fkv_base.specs.declared.shapes.Shape.{Shape}
use Rattle.fkv_creating.specs.Created.{IsCreated, IsNewStore}
use Rattle.fkv_disk.specs.Device.{LeavesOnly}
use Rattle.fkv_disk.specs.Kinds.{Foretold, Kind}
use Rattle.fkv_opening.specs.Faults.{IsFaultOf}
use Rattle.fkv_runs.specs.Below.fkv_core.Worlds.{WorldModel}
use Rattle.fkv_runs.specs.Below.fkv_core.Event.{Event}
use Rattle.fkv_runs.specs.Below.fkv_core.TheTold.{Told}
use Rattle.fkv_lines.specs.Reading.{script_text}
use Rattle.fkv_lines.specs.Script.{LineFault, ScriptText, script_of}
use Rattle.fkv_lines.specs.declared.scripts.Line.{Line}
use Rattle.fkv_lines.specs.declared.scripts.Mode.{Mode}
use Rattle.fkv_lines.specs.declared.scripts.Mode.TheVariants as mode
use Rattle.fkv_lines.specs.declared.scripts.Opening as openings
use Rattle.fkv_lines.specs.declared.scripts.Opening.TheVariants as opening
use Rattle.fkv_lines.specs.declared.scripts.Script as scripts
use Rattle.fkv_lines.specs.declared.scripts.Sizes.{Sizes}
use Rattle.fkv_opening.specs.Opened.{IsStoreOf}
use Rattle.fkv_opening.specs.declared.opened_store.Opened.{Opened}
use Rattle.fkv_options.specs.CommandLine.{AreAccepted}
use Rattle.fkv_options.specs.Options.{AreMatchesOf}
use Rattle.fkv_options.specs.RunFault.{IsWant}
use Rattle.fkv_options.specs.declared.endings.RunFault.{RunFault}
use Rattle.fkv_options.specs.declared.options.Options.{Options}
use Rattle.fkv_runs.specs.Below.fkv_playing.Players.{EngineStep, PlayerState}
use Rattle.fkv_runs.specs.Files.{IsPartOfLife, IsRunOfLife}
use Rattle.fkv_runs.specs.Openings.{Begins, IsRecovered, Medium}
use Rattle.fkv_runs.specs.Pieces.{ArePieces}
use Rattle.fkv_runs.specs.Runs.{IsPartOfRun, IsRun, RunState}
use Rattle.fkv_runs.specs.declared.pieces.Piece.{Piece}
use Rattle.fkv_runs.specs.declared.settings.Settings.{Settings}
use Rattle.fkv_texts.specs.Lines.{line_of}
use Rattle.fkv_texts.specs.Refusals.{last_refusal}
use Rattle.fkv_texts.specs.Reports.{report_text}
use Rattle.fkv_texts.specs.declared.reports.Opening.TheVariants as reports

-- a longer script has its first faulty line among its first so many bytes
abbrev pub script_limit : ℕ
script_limit = 65536 * 201 + 1

-- `script line 7 Count`
abbrev pub line_fault_text : LineFault → List ℕ
line_fault_text fault = line_of (codes "script line " ++ decimal fault.line ++ codes " " ++ script_fault_name fault.kind)

-- a run comes to this status, or breaks off with status 4
abbrev pub ComesTo : ℕ → ℕ → Type 0
ComesTo wanted status = (status ≡ wanted) ⊎ (status ≡ 4)

-- a run that ends with a refusal
abbrev pub Refuses : Fault → ℕ → ℕ → List ℕ → Type 0
Refuses fault wanted status text = ComesTo wanted status × (text ≡ last_refusal fault)

-- behind `shape` stand sizes within the small limits, and behind `large` those within the large ones
abbrev pub AreSizes : Sizes → Type 0
AreSizes sizes =
    IsShape sizes.bucket_bits sizes.page sizes.frames sizes.mutable sizes.sessions sizes.overflow sizes.disk_pages
    × IsOfClass sizes.class (IsSmall sizes.bucket_bits sizes.page sizes.frames sizes.overflow sizes.disk_pages)

-- The shape of these sizes, where a store of their line's class may have them.
pub record HasSizes (sizes : Sizes) (shape : Shape) : Type 0 where
  pub of_its_class : AreSizes sizes
  pub class : shape.class ≡ sizes.class
  pub bucket_bits : shape.bucket_bits ≡ sizes.bucket_bits
  pub page : shape.page ≡ sizes.page
  pub frames : shape.frames ≡ sizes.frames
  pub mutable : shape.mutable ≡ sizes.mutable
  pub sessions : shape.sessions ≡ sizes.sessions
  pub overflow : shape.overflow ≡ sizes.overflow
  pub disk_pages : shape.disk_pages ≡ sizes.disk_pages

-- crashes are taken as the options say
abbrev pub settings_of : Options → Settings
settings_of options = record { torn = options.torn; checks = options.check }

-- What a run goes by of the places where stores lie: the steps of the engine over a file; when the device of one is honest, what it reads as, and what a crash may
-- leave of it; and which one is the file of a path as it was opened, for a store that is there, and for a new one.
pub record Places (F : Type 0) : Type 1 where
  pub engine : Event → WorldModel F → WorldModel F → Option Told → Bool → Type 0
  pub honest : F → Type 0
  pub seen : F → List ℕ
  pub may_leave : F → List ℕ → Type 0
  pub is_opened : List ℕ → F → Type 0
  pub is_made : List ℕ → F → Type 0

abbrev pub places_of : {F : Type 0} → (F → Type 0) → (F → List ℕ) → (F → List ℕ → Type 0) → (F → ℕ) → (F → ℕ → Bool) → (F → List Kind → Foretold) → (F → Bool) → (List ℕ → F → Type 0) → (List ℕ → F → Type 0) → Places F
places_of honest seen may_leave failed refuses expects broken is_opened is_made =
    record { engine = EngineStep honest seen may_leave failed refuses expects broken; honest = honest; seen = seen; may_leave = may_leave; is_opened = is_opened; is_made = is_made }

-- What a run goes by: of a device in memory, and of files.
pub record Devices (M F : Type 0) : Type 1 where
  pub memory : Medium M
  pub file : Places F

-- the path that the options have
abbrev pub path_in : {Z : Type 0} → Option (String Z) → List ℕ
path_in None = []
path_in (Some path) = string_bytes path

-- all lives of a store in memory, or a part of them where the run breaks off
abbrev pub AreLives : {M : Type 0} → Medium M → Settings → List Piece → RunState M → ℕ → List ℕ → Type 0
AreLives medium settings pieces before status text = IsRun medium settings pieces before status text ⊎ ((status ≡ 4) × IsPartOfRun medium settings pieces before text)

-- A new store in memory, over a device that holds it and refuses no call, and its lives. Crashes of the first one go from the store's image on.
pub record IsRunInMemory {M : Type 0} (medium : Medium M) (options : Options) (shape : Shape) (pieces : List Piece) (status : ℕ) (text : List ℕ) : Type 0 where
  pub opened : Opened
  pub is_new : IsNewStore shape opened
  pub image : List ℕ
  pub created : IsCreated shape image
  pub store : IsStoreOf image opened
  pub device : M
  pub reads : medium.holds image device
  pub crashes : medium.crashes image device
  pub player : PlayerState M
  pub begins : Begins opened device [] options.check player
  pub lives : AreLives medium (settings_of options) pieces (record { player = player; agrees = true }) status text

-- the one life of a store in a file, or a part of it where the run breaks off
abbrev pub IsPlayed : {F : Type 0} → (Event → WorldModel F → WorldModel F → Option Told → Bool → Type 0) → List Piece → PlayerState F → ℕ → List ℕ → Type 0
IsPlayed engine pieces player status text = ((status ≡ 0) × IsRunOfLife engine pieces player text) ⊎ ((status ≡ 4) × IsPartOfLife engine pieces player text)

pub record IsLifeInFile {F : Type 0} (engine : Event → WorldModel F → WorldModel F → Option Told → Bool → Type 0) (opened : Opened) (device : F) (pieces : List Piece) (status : ℕ) (text : List ℕ) : Type 0 where
  pub player : PlayerState F
  pub begins : Begins opened device [] false player
  pub played : IsPlayed engine pieces player status text

-- A device is honest, reads as this image, which holds this store, and a crash leaves just that.
pub record HoldsStore {F : Type 0} (honest : F → Type 0) (seen : F → List ℕ) (may_leave : F → List ℕ → Type 0) (image : List ℕ) (opened : Opened) (device : F) : Type 0 where
  pub is_honest : honest device
  pub reads : seen device ≡ image
  pub synced : LeavesOnly image (may_leave device)
  pub store : IsStoreOf image opened

-- A new store in the file of this path, and its life. If the device is honest as it was opened, it then holds the store.
pub record IsRunInNewFile {F : Type 0} (places : Places F) (path : List ℕ) (shape : Shape) (pieces : List Piece) (status : ℕ) (text : List ℕ) : Type 0 where
  pub opened : Opened
  pub is_new : IsNewStore shape opened
  pub found : F
  pub made : places.is_made path found
  pub device : F
  pub holds : places.honest found → HoldsStore places.honest places.seen places.may_leave (places.seen device) opened device
  pub life : IsLifeInFile places.engine opened device pieces status text

-- What was read of a device: if it is honest as it was found, it still reads so, and holds this store, with these pairs.
pub record IsFound {F : Type 0} (honest : F → Type 0) (seen : F → List ℕ) (may_leave : F → List ℕ → Type 0) (found : F) (opened : Opened) (pairs : List (Key × Value)) (device : F) : Type 0 where
  pub holds : honest found → HoldsStore honest seen may_leave (seen found) opened device
  pub recovered : honest found → IsRecovered (seen found) opened pairs

-- The store that the file of this path holds: its report, and its life, which may not begin where the run breaks off.
pub record IsRunInFile {F : Type 0} (places : Places F) (path : List ℕ) (pieces : List Piece) (status : ℕ) (text : List ℕ) : Type 0 where
  pub opened : Opened
  pub pairs : List (Key × Value)
  pub found : F
  pub is_opened : places.is_opened path found
  pub device : F
  pub is_found : IsFound places.honest places.seen places.may_leave found opened pairs device
  pub said : List ℕ
  pub life : IsLifeInFile places.engine opened device pieces status said ⊎ ((status ≡ 4) × (said ≡ []))
  pub says : text ≡ report_text reports.Open opened.number opened.points.items pairs ++ said

-- why no store is read of a device: the image has this fault, if it is honest; or it failed, or memory was refused
abbrev pub IsUnread : Type 0 → List ℕ → Fault → Type 0
IsUnread honest image NotAStore = honest → IsFaultOf image NotAStore
IsUnread honest image (Damaged part place) = honest → IsFaultOf image (Damaged part place)
IsUnread honest image Device = Unit {0}
IsUnread honest image Memory = Unit {0}
IsUnread honest image other = ⊥

-- why the store in the file of this path isn't opened: what its device reads as has this fault, if it is honest as it was opened; or the file failed
abbrev pub IsUnopened : {F : Type 0} → Places F → List ℕ → Fault → Type 0
IsUnopened {F} places path NotAStore = (found : F) × places.is_opened path found × IsUnread (places.honest found) (places.seen found) NotAStore
IsUnopened {F} places path (Damaged part place) = (found : F) × places.is_opened path found × IsUnread (places.honest found) (places.seen found) (Damaged part place)
IsUnopened places path Device = Unit {0}
IsUnopened places path other = ⊥

-- it is refused so
abbrev pub RefusesOld : {F : Type 0} → Places F → List ℕ → ℕ → List ℕ → Type 0
RefusesOld places path status text = (fault : Fault) × IsUnopened places path fault × Refuses fault 3 status text

-- The store that a file holds; or it is refused. In memory no store is opened.
abbrev pub IsRunOfOldStore : {F : Type 0} → Places F → List ℕ → List Piece → ℕ → List ℕ → Bool → Type 0
IsRunOfOldStore places path pieces status text false = ComesTo 0 status × (text ≡ [])
IsRunOfOldStore places path pieces status text true = IsRunInFile places path pieces status text ⊎ RefusesOld places path status text

-- A new store, in memory or in the file that the options name; or it is refused, since the device failed.
abbrev pub IsRunOfStore : {M F : Type 0} → Devices M F → Options → Option Shape → List Piece → ℕ → List ℕ → Bool → Type 0
IsRunOfStore devices options None pieces status text in_file = IsRunOfOldStore devices.file (path_in options.file) pieces status text in_file
IsRunOfStore devices options (Some shape) pieces status text false = IsRunInMemory devices.memory options shape pieces status text ⊎ Refuses Device 3 status text
IsRunOfStore devices options (Some shape) pieces status text true = IsRunInNewFile devices.file (path_in options.file) shape pieces status text ⊎ Refuses Device 3 status text

-- The line that opens the store: sizes that are none of a shape are refused.
abbrev pub IsRunOfShape : {M F : Type 0} → Devices M F → Options → openings.Opening → List Piece → ℕ → List ℕ → Type 0
IsRunOfShape devices options opening.Open pieces status text = IsRunOfStore devices options None pieces status text (is_some options.file)
IsRunOfShape devices options (opening.Shape sizes) pieces status text =
    ((shape : Shape) × HasSizes sizes shape × IsRunOfStore devices options (Some shape) pieces status text (is_some options.file))
    ⊎ ((AreSizes sizes → ⊥) × Refuses BadShape 2 status text)

-- A script without a faulty line; one that says nothing prints nothing.
abbrev pub IsRunOfScript : {M F : Type 0} → Devices M F → Options → Option openings.Opening → List Line → ℕ → List ℕ → Type 0
IsRunOfScript devices options None lines status text = ComesTo 0 status × (text ≡ [])
IsRunOfScript devices options (Some first) lines status text =
    (pieces : List Piece) × ArePieces (is_some options.seed) lines pieces × IsRunOfShape devices options first pieces status text

-- The bytes of a script: its run, or its first faulty line.
abbrev pub IsRunOfText : {M F : Type 0} → Devices M F → Options → Result ScriptText LineFault → ℕ → List ℕ → Type 0
IsRunOfText devices options (Ok script) status text = IsRunOfScript devices options script.opening script.lines status text
IsRunOfText devices options (Err fault) status text = ComesTo 2 status × (text ≡ line_fault_text fault)

-- a store lies in the file that the options name, or in memory
abbrev pub mode_of : Bool → Mode
mode_of false = mode.Memory
mode_of true = mode.File

-- how a run ends at a faulty line: with status 2, and the line that tells of it is left to print
abbrev pub EndsAt : LineFault → RunFault → Type 0
EndsAt fault ended = (ended.status ≡ 2) × (string_bytes ended.text ≡ line_fault_text fault)

-- how a run ends whose script has this fault
abbrev pub IsEndingBy : Fault → RunFault → Type 0
IsEndingBy (Script line kind) ended = IsWant ended ⊎ EndsAt (record { line = line; kind = kind }) ended
IsEndingBy other ended = IsWant ended

-- the script that the bytes say; or memory was refused, or a run ends at the first faulty line
abbrev pub ReadsOrEnds : Result ScriptText LineFault → Result scripts.Script RunFault → Type 0
ReadsOrEnds read (Ok script) = read ≡ Ok (script_text script)
ReadsOrEnds read (Err ended) = IsWant ended ⊎ ((fault : LineFault) × (read ≡ Err fault) × EndsAt fault ended)

-- by these options, of a reader whose bytes are known this is written
abbrev pub IsRunOfInput : {M F : Type 0} → Devices M F → Options → Option (List ℕ) → ℕ → List ℕ → Type 0
IsRunOfInput devices options known status text =
    IfSome known (λ bytes. IsRunOfText devices options (script_of (mode_of (is_some options.file)) (take script_limit bytes)) status text)

-- Words that are refused: the line `options`.
pub record AreRefusedWords (words : List (List ℕ)) (status : ℕ) (text : List ℕ) : Type 0 where
  pub refused : AreAccepted words → ⊥
  pub answers : ComesTo 2 status
  pub says : text ≡ line_of (codes "options")

-- words of which one is no text: the line `options`, as of words that are refused
abbrev pub AreUnreadWords : ℕ → List ℕ → Type 0
AreUnreadWords status text = ComesTo 2 status × (text ≡ line_of (codes "options"))

-- words that are accepted: what is written by the options that they ask for
pub record IsRunOfWords {M F : Type 0} (devices : Devices M F) (words : List (List ℕ)) (known : Option (List ℕ)) (status : ℕ) (text : List ℕ) : Type 0 where
  pub options : Options
  pub asked : AreMatchesOf words options
  pub run : IsRunOfInput devices options known status text

-- What is written for these words and a script, by the status. With status 4 it is what would stand behind a beginning: the run breaks off in it.
abbrev pub IsOutputOf : {M F : Type 0} → Devices M F → List (List ℕ) → Option (List ℕ) → ℕ → List ℕ → Type 0
IsOutputOf devices words known status text = AreRefusedWords words status text ⊎ IsRunOfWords devices words known status text
