-- A run of one try, by the replies to its asks, and what is told of it: each ask with its reply.
use Rattle.std.specs.Prelude.{◌≡◌, ℕ, ◌^◌, ◌⊎◌, List, [], ◌∷◌, Option, Some, None}
use Rattle.fkv_map.specs.declared.operations.Reply.{Reply}
use Rattle.fkv_map.specs.Keys.{key_of}
use Rattle.fkv_plane.specs.declared.asks.Ask.{Ask}
use Rattle.fkv_plane.specs.declared.places.Places.{Places}
use Rattle.fkv_index.specs.declared.homes.Home.{Home}
use Rattle.fkv_index.specs.Slots.{home_of}
use Rattle.fkv_ops.specs.declared.answers.TryAnswer.{TryAnswer}
use Rattle.fkv_ops.specs.declared.answers.TryAnswer.TheVariants.{Done}
use Rattle.fkv_ops.specs.declared.requests.Occasion.{Occasion}
use Rattle.fkv_ops.specs.declared.requests.Request.{Request}
use Rattle.fkv_ops.specs.declared.requests.Seen.{Seen}
use Rattle.fkv_ops.specs.Trying.{TryState, try_begun, try_ask, try_next}

-- what a try is given
pub record Trial : Type 0 where
  pub places : Places
  -- the index has 2^bits buckets
  pub bits : ℕ
  pub its_buckets : places.buckets ≡ 2 ^ bits
  -- how many addresses the log has on the device
  pub room : ℕ
  pub request : Request
  -- what the session has seen
  pub seen : Seen
  pub occasion : Occasion

abbrev pub home_at : Trial → Home
home_at c = home_of c.bits (key_of c.request.op)

-- the try begins
abbrev pub trial_begun : Trial → ℕ → TryState
trial_begun c spare = try_begun c.places c.bits c.request c.seen c.occasion spare

-- where it stands after these replies, the newest of which is first
abbrev pub try_run : Trial → TryState → List ℕ → TryState
try_run c begun [] = begun
try_run c begun (reply ∷ before) = try_next c.places c.room (try_run c begun before) reply

pub record Exchange : Type 0 where
  pub ask : Ask TryAnswer
  pub reply : ℕ

-- what was asked, each with its reply
abbrev pub exchanges : Trial → TryState → List ℕ → List Exchange
exchanges c begun [] = []
exchanges c begun (reply ∷ before) = record { ask = try_ask c.places (try_run c begun before); reply = reply } ∷ exchanges c begun before

abbrev pub IsAmong : List Exchange → Ask TryAnswer → ℕ → Type 0
IsAmong [] ask reply = ⊥
IsAmong (it ∷ before) ask reply = ((it.ask ≡ ask) × (it.reply ≡ reply)) ⊎ IsAmong before ask reply

-- that an ask was made and replied so
abbrev pub Told : Type 1
Told = Ask TryAnswer → ℕ → Type 0

abbrev pub told_by : Trial → TryState → List ℕ → Told
told_by c begun replies = IsAmong (exchanges c begun replies)

-- what updates were told at the steps that made their effects, the newest first
abbrev pub with_effect : Option Reply → List Reply → List Reply
with_effect None its = its
with_effect (Some reply) its = reply ∷ its

abbrev pub effects_of : Trial → TryState → List ℕ → List Reply
effects_of c begun [] = []
effects_of c begun (reply ∷ before) = with_effect (try_run c begun (reply ∷ before)).effect (effects_of c begun before)

-- what is told to an update that is done, once, and nothing else
abbrev pub reply_told : TryAnswer → List Reply
reply_told (Done reply) = reply ∷ []
reply_told answer = []
