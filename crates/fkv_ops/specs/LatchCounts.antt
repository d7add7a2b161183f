-- How often a try's asks have changed the latch of the key's bucket.
use Rattle.std.specs.Prelude.{◌≡◌, ℕ, ◌+◌, ◌-◌, ◌^◌, ◌==◌, ◌&&◌, ◌||◌, Bool, false, List, [], ◌∷◌, Some}
use Rattle.fkv_words.specs.Fields.{bit_of}
use Rattle.fkv_map.specs.declared.operations.Reply.{Reply}
use Rattle.fkv_plane.specs.declared.asks.Ask.{Ask}
use Rattle.fkv_plane.specs.declared.asks.Ask.TheVariants.{Cas, Add, Done}
use Rattle.fkv_latch.specs.Latching.{one_share, exclusive_bit}
use Rattle.fkv_ops.specs.declared.answers.TryAnswer.{TryAnswer}
use Rattle.fkv_ops.specs.Trying.{is_wait, try_ask}
use Rattle.fkv_ops.specs.TryRun.{Trial, trial_begun, try_run, Exchange, exchanges}
use Rattle.fkv_ops.specs.Reasons.{latch_place}
use Rattle.fkv_ops.specs.Effects.{shares_latch}

-- the ask adds so much to the bucket's eighth word
abbrev pub is_adding : Trial → ℕ → Ask TryAnswer → Bool
is_adding c number (Add place k) = k == number && place == latch_place c
is_adding c number ask = false

-- the Cas sets bit 63 there, and is won
abbrev pub is_setting : Trial → Ask TryAnswer → ℕ → Bool
is_setting c (Cas place old new) reply = new == old + exclusive_bit && place == latch_place c && reply == old
is_setting c ask reply = false

-- how often it was added
abbrev pub times_added : Trial → ℕ → List Exchange → ℕ
times_added c number [] = 0
times_added c number (it ∷ before) = bit_of (is_adding c number it.ask) + times_added c number before

abbrev pub shares_added : Trial → List Exchange → ℕ
shares_added c its = times_added c one_share its

-- to take one off is to add 2^64 less one
abbrev pub shares_dropped : Trial → List Exchange → ℕ
shares_dropped c its = times_added c (2 ^ 64 - one_share) its

-- bit 63 is cleared where it is added
abbrev pub bits_cleared : Trial → List Exchange → ℕ
bits_cleared c its = times_added c exclusive_bit its

abbrev pub bits_set : Trial → List Exchange → ℕ
bits_set c [] = 0
bits_set c (it ∷ before) = bit_of (is_setting c it.ask it.reply) + bits_set c before

-- at its end a try has cleared the bit as often as it has set it; and with the share that its request came with as many were added as were
-- taken off, but for the one of a request that waits and shares the latch
pub record LeavesLatch (c : Trial) (its : List Exchange) (answer : TryAnswer) : Type 0 where
  pub alone : bits_set c its ≡ bits_cleared c its
  pub shared : bit_of c.request.has_latch + shares_added c its ≡ shares_dropped c its + bit_of (is_wait answer && (c.request.has_latch || shares_latch c))

abbrev pub EachLeavesLatch : Type 0
EachLeavesLatch = (c : Trial) (spare : ℕ) (replies : List ℕ) (answer : TryAnswer) → try_ask c.places (try_run c (trial_begun c spare) replies) ≡ Done answer
    → LeavesLatch c (exchanges c (trial_begun c spare) replies) answer

-- up to its effect it has cleared no bit and taken off no share: what it holds of the latch it has held since it took it
pub record HoldsLatch (c : Trial) (its : List Exchange) : Type 0 where
  pub cleared : bits_cleared c its ≡ 0
  pub dropped : shares_dropped c its ≡ 0

abbrev pub EachHoldsLatch : Type 0
EachHoldsLatch = (c : Trial) (spare : ℕ) (replies : List ℕ) (reply : ℕ) (its : Reply) → (try_run c (trial_begun c spare) (reply ∷ replies)).effect ≡ Some its
    → HoldsLatch c (exchanges c (trial_begun c spare) replies)
