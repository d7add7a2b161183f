-- Whole calls: of all that happens between two moments of a life an operation's call and answer are the only ones. What is answered then, by the map.
use Rattle.std.specs.Prelude.{◌≡◌, ⊤, ℕ, List, ◌∷◌}
use Rattle.fkv_base.specs.declared.numbers.Key.{Key}
use Rattle.fkv_map.specs.History.{content}
use Rattle.fkv_map.specs.Map.{Map, applied, reply_to}
use Rattle.fkv_map.specs.declared.operations.Op.{Op}
use Rattle.fkv_map.specs.declared.operations.Op.TheVariants.{Read}
use Rattle.fkv_map.specs.declared.operations.Reply.{Reply}
use Rattle.fkv_map.specs.declared.operations.Reply.TheVariants as reply
use Rattle.law_order.specs.Below.fkv_opening.TheOpened.{Opened}
use Rattle.law_order.specs.Below.law_opening.Log.Maps.{opening_map}
use Rattle.law_log.specs.Trace.{AnswersRead, CallsRead, Effect, GivesResult, IsIn, TraceLine, history_of}
use Rattle.law_order.specs.Rules.Ordered.{effects_so_far, lines_so_far}
use Rattle.law_order.specs.Below.fkv_session.Told.{Told}
use Rattle.law_order.specs.Below.fkv_session.Told.TheVariants as told
use Rattle.law_order.specs.Below.fkv_world.World.{Event, Now}

-- the map that a store shows after these events of a life: its own after the history so far
abbrev pub map_after : Opened → Now → List ℕ → List Event → Map
map_after o n bytes events = content (opening_map bytes o) (history_of (effects_so_far n bytes events))

-- ---- what is told
-- What is answered is what the map replies. Of an operation that waits or is refused nothing is said here.
abbrev pub IsMapsReply : Map → Op → Told → Type 0
IsMapsReply m op (told.Done serial its) = its ≡ reply_to m op
IsMapsReply m op (told.Found value) = reply_to m op ≡ reply.Found value
IsMapsReply m op told.Absent = reply_to m op ≡ reply.Absent
IsMapsReply m op its = ⊤

-- An update that is done is applied to the map, and no other answer leaves it another map: not of a read, of what is refused, nor of what still waits.
abbrev pub LeavesMap : Map → Map → Op → Told → Type 0
LeavesMap before after op (told.Done serial its) = after ≡ applied before op
LeavesMap before after op its = after ≡ before

-- ---- what happens by a call alone
-- its update is the one effect since, with this reply
pub record HasUpdatedAlone (op : Op) (before after : List Effect) (its : Reply) : Type 0 where
  pub effect : Effect
  pub one : after ≡ effect ∷ before
  pub its_op : effect.entry.op ≡ op
  pub its_reply : effect.entry.reply ≡ its

-- it is a read, without an effect
pub record HasReadAlone (op : Op) (before after : List Effect) : Type 0 where
  pub key : Key
  pub its_op : op ≡ Read key
  pub none : after ≡ before

-- so it is with each answer: what is done has made its one effect, a read's value is told of a read, and nothing else has taken effect
abbrev pub HasHappenedAlone : Op → List Effect → List Effect → Told → Type 0
HasHappenedAlone op before after (told.Done serial its) = HasUpdatedAlone op before after its
HasHappenedAlone op before after (told.Found value) = HasReadAlone op before after
HasHappenedAlone op before after told.Absent = HasReadAlone op before after
HasHappenedAlone op before after its = after ≡ before

-- a read's call and its answer are all that was told since
abbrev pub TellsRead : List TraceLine → List TraceLine → Op → Reply → Type 0
TellsRead before since (Read key) its = (reader : ℕ) × (since ≡ AnswersRead reader its ∷ CallsRead reader key.0 ∷ before)
TellsRead before since op its = ⊤

abbrev pub TellsAlone : List TraceLine → List TraceLine → Op → Told → Type 0
TellsAlone before since op (told.Found value) = TellsRead before since op (reply.Found value)
TellsAlone before since op told.Absent = TellsRead before since op reply.Absent
TellsAlone before since op its = ⊤

-- the result of each update that has taken effect was given
abbrev pub AreAllGiven : List Effect → List TraceLine → Type 0
AreAllGiven effects lines = (effect : Effect) → IsIn effect effects → IsIn (GivesResult effect.entry.session effect.entry.serial.0 effect.entry.reply) lines

-- ---- from one moment of a life to a later one
abbrev pub HappensAlone : Now → List ℕ → List Event → List Event → Op → Told → Type 0
HappensAlone n bytes before events op its = HasHappenedAlone op (effects_so_far n bytes before) (effects_so_far n bytes events) its

abbrev pub IsToldAlone : Now → List ℕ → List Event → List Event → Op → Told → Type 0
IsToldAlone n bytes before events op its = TellsAlone (lines_so_far n bytes before) (lines_so_far n bytes events) op its

abbrev pub AreGivenSoFar : Now → List ℕ → List Event → Type 0
AreGivenSoFar n bytes events = AreAllGiven (effects_so_far n bytes events) (lines_so_far n bytes events)

-- the operation is answered by the map of the earlier moment, and leaves that of the later one
pub record IsAnsweredByMap (o : Opened) (n : Now) (bytes : List ℕ) (before events : List Event) (op : Op) (its : Told) : Type 0 where
  pub reply : IsMapsReply (map_after o n bytes before) op its
  pub leaves : LeavesMap (map_after o n bytes before) (map_after o n bytes events) op its
