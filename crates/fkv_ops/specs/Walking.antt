-- How the chain of a key's home is walked: the entry is found, and from its address on each record that is in memory is met, up to
-- the first one of the key.
use Rattle.std.specs.Prelude.{ℕ, ◌-◌, ◌==◌, nat_lt, if◌then◌else◌, Option, Some, None}
use Rattle.fkv_base.specs.declared.numbers.Addr.{Addr}
use Rattle.fkv_base.specs.declared.numbers.Key.{Key}
use Rattle.fkv_base.specs.declared.numbers.Version.{Version}
use Rattle.fkv_plane.specs.declared.asks.Ask.{Ask}
use Rattle.fkv_plane.specs.declared.asks.Ask.TheVariants.{Done}
use Rattle.fkv_plane.specs.declared.places.Places.{Places}
use Rattle.fkv_plane.specs.Passing.{passed}
use Rattle.fkv_log.specs.declared.loading.LoadAnswer.{LoadAnswer}
use Rattle.fkv_log.specs.declared.loading.LoadAnswer.TheVariants as load
use Rattle.fkv_log.specs.declared.loading.Loading.{Loading}
use Rattle.fkv_log.specs.declared.loading.Loading.TheVariants.{AtRest, LoadsHeader}
use Rattle.fkv_log.specs.Loading.{load_ask, load_next, load_next_ask, load_on}
use Rattle.fkv_index.specs.declared.homes.Home.{Home}
use Rattle.fkv_index.specs.declared.finding.Purpose.{Purpose}
use Rattle.fkv_index.specs.declared.finding.Found.{Found}
use Rattle.fkv_index.specs.declared.finding.Found.TheVariants as found
use Rattle.fkv_index.specs.declared.finding.FindAnswer.{FindAnswer}
use Rattle.fkv_index.specs.declared.finding.Finding.{Finding}
use Rattle.fkv_index.specs.Slots.{entry_addr}
use Rattle.fkv_index.specs.Finding.{rested, first_finding, find_ask, find_next, find_next_ask}
use Rattle.fkv_ops.specs.declared.header_words.HeaderSaid.{HeaderSaid}
use Rattle.fkv_ops.specs.declared.header_words.HeaderSaid.TheVariants.{Says, Spoiled}
use Rattle.fkv_ops.specs.declared.walking.WalkAnswer.{WalkAnswer}
use Rattle.fkv_ops.specs.declared.walking.WalkAnswer.TheVariants as answer
use Rattle.fkv_ops.specs.declared.walking.Walking.{Walking}
use Rattle.fkv_ops.specs.declared.walking.Walking.TheVariants.{Ended, Finds, Meets, HasFound, LoadsValue}
use Rattle.fkv_ops.specs.HeaderWords.{header_said}

pub record WalkState : Type 0 where
  pub key : Key
  -- the head that the session has seen: below it the frames may be another's
  pub head : Addr
  -- the place of the home's slot, and the word of its entry, 0 where it has none
  pub place : ℕ
  pub entry : ℕ
  -- the version of the first record that was met
  pub first : Option Version
  -- an overflow bucket that the session has taken and not linked, 0 where it has none
  pub spare : ℕ
  -- the machines inside it
  pub finding : Finding
  pub loading : Loading
  pub step : Walking

pub record Walker : Type 0 where
  pub places : Places
  -- the index has 2^bits buckets
  pub bits : ℕ
  pub state : WalkState

-- before it first starts
unfoldable pub walk_rested : WalkState
walk_rested = record { key = record { 0 = 0 }; head = record { 0 = 0 }; place = 0; entry = 0; first = None; spare = 0; finding = rested 0; loading = AtRest; step = Ended answer.Contended }

-- As it begins it is made of what it is given alone: nothing is left of an earlier walk.
abbrev pub walk_begun : Places → Home → Key → Purpose → Addr → ℕ → WalkState
walk_begun p home key purpose head spare = record { key = key; head = head; place = 0; entry = 0; first = None; spare = spare; finding = first_finding p home purpose spare; loading = AtRest; step = Finds }

-- what each state asks
unfoldable pub walking_ask : Places → WalkState → Walking → Ask WalkAnswer
walking_ask p w (Ended answer) = Done answer
walking_ask p w Finds = passed (find_ask w.finding) answer.Contended
walking_ask p w (Meets addr) = passed (load_ask p w.loading) answer.Contended
walking_ask p w (HasFound addr version) = Done (answer.Found addr version)
walking_ask p w LoadsValue = passed (load_ask p w.loading) answer.Contended

abbrev pub walk_ask : Places → WalkState → Ask WalkAnswer
walk_ask p w = walking_ask p w w.step

abbrev pub walk_ended : WalkState → WalkAnswer → WalkState
walk_ended w answer = record w { step = Ended answer }

-- an address of the chain is met where it lies within a ring from the head on. No store has records past that
abbrev pub reached : Places → WalkState → ℕ → WalkState
reached p w addr =
    if addr == 0 then walk_ended w answer.Nowhere
    else if nat_lt addr w.head.0 then walk_ended w (answer.OnDisk (record { 0 = addr }))
    else if nat_lt (addr - w.head.0) p.ring then record w { loading = LoadsHeader (record { 0 = addr }); step = Meets (record { 0 = addr }) }
    else walk_ended w answer.Contended

-- the walk goes by the entry that was found
abbrev pub slot_found : Places → WalkState → Found → WalkState
slot_found p w (found.Slot place word) = reached p (record w { place = place; entry = word }) (entry_addr word)
slot_found p w found.NoSlot = walk_ended w answer.Nowhere
slot_found p w found.Full = walk_ended w answer.Full
slot_found p w found.Kept = walk_ended w answer.Kept
slot_found p w found.Contended = walk_ended w answer.Contended

-- by what the search asks next
unfoldable pub find_ledto : Places → WalkState → Ask FindAnswer → WalkState
find_ledto p w (Done its) = slot_found p (record w { spare = its.spare }) its.found
find_ledto p w ask = w

-- the version of the first record stays
abbrev pub first_met : Option Version → Version → Option Version
first_met None version = Some version
first_met (Some first) version = Some first

-- a record of the key ends the walk, and else its previous one is met, which lies below
abbrev pub record_met : Places → WalkState → Addr → Key → HeaderSaid → WalkState
record_met p w addr key Spoiled = walk_ended w answer.Contended
record_met p w addr key (Says previous version) =
    if nat_lt previous.0 addr.0 then (if key.0 == w.key.0 then record w { first = first_met w.first version; step = HasFound addr version } else reached p (record w { first = first_met w.first version }) previous.0)
    else walk_ended w answer.Contended

-- by what the load asks next
unfoldable pub load_ledto : Places → WalkState → Addr → Ask LoadAnswer → WalkState
load_ledto p w addr (Done (load.Met header key)) = record_met p w addr key (header_said header)
load_ledto p w addr (Done other) = walk_ended w answer.Contended
load_ledto p w addr ask = w

unfoldable pub value_ledto : WalkState → Ask LoadAnswer → WalkState
value_ledto w (Done (load.Whole header key value)) = walk_ended w (answer.Value value)
value_ledto w (Done other) = walk_ended w answer.Contended
value_ledto w ask = w

-- where the reply leads
unfoldable pub walking_next : Places → WalkState → Walking → ℕ → WalkState
walking_next p w (Ended answer) reply = w
walking_next p w Finds reply = find_ledto p (record w { finding = find_next p w.finding reply }) (find_next_ask p w.finding reply)
walking_next p w (Meets addr) reply = load_ledto p (record w { loading = load_next w.loading reply }) addr (load_next_ask p w.loading reply)
walking_next p w (HasFound addr version) reply = w
walking_next p w LoadsValue reply = value_ledto (record w { loading = load_next w.loading reply }) (load_next_ask p w.loading reply)

abbrev pub walk_next : Places → WalkState → ℕ → WalkState
walk_next p w reply = walking_next p w w.step reply

-- where it goes on where the value of the record that was found is wanted
unfoldable pub walking_on : WalkState → Walking → WalkState
walking_on w (HasFound addr version) = record w { loading = load_on w.loading; step = LoadsValue }
walking_on w step = w

abbrev pub walk_on : WalkState → WalkState
walk_on w = walking_on w w.step
