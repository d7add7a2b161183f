-- What took effect, and what calls were told, as plain data.
use Rattle.std.specs.Prelude.{◌≡◌, ℕ, ◌⊎◌, ◌&&◌, nat_eq, nat_le, cond, Option, Some, None, List, [], ◌∷◌, ◌++◌}
use Rattle.std.specs.FinMap.{get}
use Rattle.fkv_map.specs.declared.operations.Op.{Op}
use Rattle.fkv_map.specs.declared.operations.Reply.{Reply}
use Rattle.fkv_map.specs.declared.history.HistoryEntry.{HistoryEntry}
use Rattle.fkv_map.specs.Map.{Map, reply_to_read}
use Rattle.fkv_map.specs.History.{content}

-- an update that took effect, and the version that it belongs to
pub record Effect : Type 0 where
  pub entry : HistoryEntry
  pub version : ℕ

-- Effects stand the newest first; as a history they stand in order.
abbrev pub history_of : List Effect → List HistoryEntry
history_of [] = []
history_of (effect ∷ before) = history_of before ++ effect.entry ∷ []

-- the value that a key has after these effects
abbrev pub value_in : Map → List Effect → ℕ → Option ℕ
value_in m effects key = get (content m (history_of effects)) key

-- the effects of versions up to this one
abbrev pub upto : ℕ → List Effect → List Effect
upto version [] = []
upto version (effect ∷ before) = cond (nat_le effect.version version) (effect ∷ upto version before) (upto version before)

-- What a call tells. An update is named by its session and the serial that it takes, a read by a number that no other read has.
pub data TraceLine : Type 0 where
  CallsUpdate : ℕ → ℕ → Op → TraceLine
  -- its serial is free again
  RefusesUpdate : ℕ → ℕ → TraceLine
  -- its result is given, at its call or at a poll
  GivesResult : ℕ → ℕ → Reply → TraceLine
  CallsRead : ℕ → ℕ → TraceLine
  AnswersRead : ℕ → Reply → TraceLine

-- it stands in the list
abbrev pub IsIn : {X : Type 0} → X → List X → Type 0
IsIn it [] = ⊥
IsIn it (x ∷ rest) = (x ≡ it) ⊎ IsIn it rest

-- the operation that this line leaves as called under a name
abbrev pub called_by : TraceLine → ℕ → ℕ → Option Op → Option Op
called_by (CallsUpdate s n op) session serial before = cond (nat_eq s session && nat_eq n serial) (Some op) before
called_by (RefusesUpdate s n) session serial before = cond (nat_eq s session && nat_eq n serial) None before
called_by line session serial before = before

-- the operation of the update that was called under a name, and not refused since
abbrev pub called_as : List TraceLine → ℕ → ℕ → Option Op
called_as [] session serial = None
called_as (line ∷ before) session serial = called_by line session serial (called_as before session serial)

-- the update of this name has taken effect
pub record HasUpdate (effects : List Effect) (session serial : ℕ) : Type 0 where
  pub effect : Effect
  pub is_in : IsIn effect effects
  pub its_session : effect.entry.session ≡ session
  pub its_serial : effect.entry.serial.0 ≡ serial

-- and was told this
pub record HasReply (effects : List Effect) (session serial : ℕ) (reply : Reply) : Type 0 where
  pub update : HasUpdate effects session serial
  pub its_reply : update.effect.entry.reply ≡ reply

-- each update whose result these lines give has taken effect
abbrev pub HaveTakenEffect : List TraceLine → List Effect → Type 0
HaveTakenEffect lines effects = (session serial : ℕ) (reply : Reply) → IsIn (GivesResult session serial reply) lines → HasUpdate effects session serial

-- Each update whose result was given took effect once, with that reply; each update once at most; none but those that were called and not
-- refused. Where a result was given before another update was called, it took effect before that.
pub record OrdersCalls (effects : List Effect) (trace : List TraceLine) : Type 0 where
  pub given : (session serial : ℕ) (reply : Reply) → IsIn (GivesResult session serial reply) trace → HasReply effects session serial reply
  pub once : (newer older : List Effect) (effect : Effect) → effects ≡ newer ++ effect ∷ older → HasUpdate older effect.entry.session effect.entry.serial.0 → ⊥
  pub called : (effect : Effect) → IsIn effect effects → called_as trace effect.entry.session effect.entry.serial.0 ≡ Some effect.entry.op
  pub in_order : (newer older : List Effect) (effect : Effect) (later earlier : List TraceLine) (op : Op) → effects ≡ newer ++ effect ∷ older
      → trace ≡ later ++ CallsUpdate effect.entry.session effect.entry.serial.0 op ∷ earlier → HaveTakenEffect earlier older

-- the reply is the key's value after some of the effects, all up to one: each whose result the earlier lines give is among them, and none that the later lines call
pub record IsFresh (m : Map) (effects : List Effect) (key : ℕ) (reply : Reply) (earlier later : List TraceLine) : Type 0 where
  pub newer : List Effect
  pub older : List Effect
  pub all : effects ≡ newer ++ older
  pub value : reply ≡ reply_to_read (value_in m older key)
  pub given_before : HaveTakenEffect earlier older
  pub called_later : (session serial : ℕ) (op : Op) → IsIn (CallsUpdate session serial op) later → HasUpdate older session serial → ⊥

-- Each read that was answered had been called, and gives its key's value at some moment between.
pub record ReadsAreFresh (m : Map) (effects : List Effect) (trace : List TraceLine) : Type 0 where
  pub called : (later before : List TraceLine) (reader : ℕ) (reply : Reply) → trace ≡ later ++ AnswersRead reader reply ∷ before → (key : ℕ) × IsIn (CallsRead reader key) before
  pub fresh : (later between earlier : List TraceLine) (reader key : ℕ) (reply : Reply) → trace ≡ later ++ AnswersRead reader reply ∷ (between ++ CallsRead reader key ∷ earlier)
      → IsFresh m effects key reply earlier later
