-- A sweep of the store's records asks for words that are there: its search is at a bucket of the index.
use Rattle.std.proofs.Common.{◌≡◌, ℕ, ◌+◌, ◌^◌, refl, sym, subst, ap, List, [], ◌∷◌, ◌++◌, Bool, true, false}
use Rattle.std.specs.Prelude.{◌==◌, ◌&&◌, nat_lt, if◌then◌else◌, length, ⊤}
use Rattle.fkv_base.specs.declared.numbers.Addr.{Addr}
use Rattle.fkv_base.specs.declared.numbers.Key.{Key}
use Rattle.fkv_base.specs.declared.shapes.Shape.{Shape}
use Rattle.fkv_plane.specs.declared.asks.Ask.{Ask}
use Rattle.fkv_plane.specs.declared.asks.Ask.TheVariants.{Done}
use Rattle.fkv_plane.specs.declared.places.Places.{Places}
use Rattle.fkv_plane.specs.Passing.{is_done}
use Rattle.fkv_index.specs.declared.finding.FindAnswer.{FindAnswer}
use Rattle.fkv_index.specs.declared.finding.Found.{Found}
use Rattle.fkv_index.specs.declared.finding.Found.TheVariants.{Slot}
use Rattle.fkv_index.specs.declared.finding.Purpose.TheVariants.{Read}
use Rattle.fkv_index.specs.Finding.{find_next, find_next_ask, first_finding}
use Rattle.fkv_index.specs.Slots.{entry_addr, home_of}
use Rattle.fkv_index.proofs.Shown.{homes_are_there}
use Rattle.fkv_sweep.specs.declared.sweeping.Sweeping.{Sweeping}
use Rattle.fkv_sweep.specs.declared.sweeping.Sweeping.TheVariants.{AtRest, LoadsHead, Takes, Meets, Finds, LoadsKey, LoadsHeader, Reads}
use Rattle.fkv_sweep.specs.Sweeping.{Sweeper, chain_met, find_ledto, gone_on, holds, is_counted, is_sweeping, key_met, key_wanted, led_down, most_wanted, piece_read, previous_in, reached, record_met, record_passed, slot_found, sweep_next, sweep_read, sweeping_next, sweeping_read, turn_begun, words_at, words_held}
use Rattle.fkv_keeper.proofs.Shown.{IsOfStore}
use Rattle.law_world.proofs.OfGuardSessions.FindsOuter.{IsAtBucket, finds_outer, first_outer}

-- what is so of a sweep, by what it is at
abbrev pub SweepRow : Places → Sweeper → Sweeping → Type 0
SweepRow p w (Finds key) = IsAtBucket p w.finding
SweepRow p w step = ⊤

abbrev pub IsSweepRow : Places → Sweeper → Type 0
IsSweepRow p w = SweepRow p w w.step

-- it goes on to a record that is taken or read, or it rests
gone_step : (p : Places) (w : Sweeper) (on has : Bool) → SweepRow p w (if on then (if has then Takes else Meets) else AtRest)
gone_step p w true true = tt
gone_step p w true false = tt
gone_step p w false has = tt

gone_row : (p : Places) (w : Sweeper) → IsSweepRow p (gone_on w)
gone_row p w = gone_step p (gone_on w) (nat_lt (w.next.0 + 1) w.to.0 && nat_lt 1 w.left && nat_lt (length w.wanted) most_wanted) (holds w.piece (record { 0 = w.next.0 + 1 }))

either : (b : Bool) (p : Places) (x y : Sweeper) → IsSweepRow p x → IsSweepRow p y → IsSweepRow p (if b then x else y)
either true p x y one other = one
either false p x y one other = other

passed_row : (p : Places) (w : Sweeper) → IsSweepRow p (record_passed w)
passed_row p w = gone_row p (record w { at = if length w.wanted == 0 then record { 0 = w.next.0 + 1 } else w.at })

wanted_row : (p : Places) (w : Sweeper) (key : Key) → IsSweepRow p (key_wanted w key)
wanted_row p w key = gone_row p (record w { wanted = w.wanted ++ key ∷ [] })

reached_row : (p : Places) (w : Sweeper) (key : Key) (addr : ℕ) → IsSweepRow p (reached w key addr)
reached_row p w key addr = either (nat_lt addr w.to.0) p _ _ (wanted_row p w key) (either (nat_lt addr w.head.0) p _ _ tt tt)

led_row : (p : Places) (w : Sweeper) (key : Key) (addr : Addr) (previous : ℕ) → IsSweepRow p (led_down w key addr previous)
led_row p w key addr previous = either (nat_lt previous addr.0) p _ _ (reached_row p w key previous) (wanted_row p w key)

found_row : (p : Places) (w : Sweeper) (key : Key) (found : Found) → IsSweepRow p (slot_found w key found)
found_row p w key (Slot place word) = reached_row p w key (entry_addr word)
found_row p w key found = wanted_row p w key

-- the search goes on at a bucket
find_row : (p : Places) (w : Sweeper) (key : Key) (ask : Ask FindAnswer) → w.step ≡ Finds key → (is_done ask ≡ false → IsAtBucket p w.finding) → IsSweepRow p (find_ledto w key ask)
unfolding find_ledto
find_row p w key (Done its) at there = found_row p w key its.found
find_row p w key ask at there = subst (SweepRow p w) (sym at) (there refl)

key_row : (p : Places) (w : Sweeper) (key : Key) (addr : Addr) (word : ℕ) → IsSweepRow p (key_met w key addr word)
key_row p w key addr word = either (word == key.0) p _ _ (passed_row p w) tt

chain_row : (p : Places) (w : Sweeper) (key : Key) (addr : Addr) (words : _) → IsSweepRow p (chain_met w key addr words)
chain_row p w key addr words = either (words.key.0 == key.0) p _ _ (passed_row p w) (led_row p w key addr (previous_in words.header))

-- as its turn begins
begun_step : (p : Places) (w : Sweeper) (on : Bool) → SweepRow p w (if on then LoadsHead else AtRest)
begun_step p w true = tt
begun_step p w false = tt

pub turn_begun_row : (p : Places) (w : Sweeper) → IsSweepRow p (turn_begun w)
turn_begun_row p w = begun_step p (turn_begun w) (is_sweeping w)

module _ (shape : Shape) (p : Places) (buckets : p.buckets ≡ 2 ^ shape.bucket_bits) where
  -- and begins at one of its own
  met_row : (w : Sweeper) (words : _) → IsOfStore shape p w → IsSweepRow p (record_met w words)
  met_row w words of = either (is_counted words) p _ _ (subst (λ (bits : ℕ). IsAtBucket p (first_finding w.places (home_of bits words.key) Read 0)) (sym (ap (λ (x : Shape). x.bucket_bits) of.its_shape))
      (subst (λ (q : Places). IsAtBucket p (first_finding q (home_of shape.bucket_bits words.key) Read 0)) (sym of.its_places)
      (first_outer p (home_of shape.bucket_bits words.key) Read 0 (homes_are_there p shape.bucket_bits words.key buckets).few))) (passed_row p w)

  -- each reply
  next_row : (w : Sweeper) (step : Sweeping) (reply : ℕ) → w.step ≡ step → IsOfStore shape p w → SweepRow p w step → IsSweepRow p (sweeping_next w step reply)
  unfolding sweeping_next
  next_row w AtRest reply at of row = subst (SweepRow p w) (sym at) tt
  next_row w LoadsHead reply at of row = coming_row (holds w.piece w.next)
    where
      coming_row : (has : Bool) → SweepRow p w (if has then Takes else Meets)
      coming_row true = tt
      coming_row false = tt
  next_row w Takes reply at of row = met_row w (words_held w.piece w.next) of
  next_row w Meets reply at of row = subst (SweepRow p w) (sym at) tt
  next_row w (Finds key) reply at of row =
      find_row p (record w { finding = find_next w.places w.finding reply }) key (find_next_ask w.places w.finding reply) at
      (subst (λ (q : Places). is_done (find_next_ask q w.finding reply) ≡ false → IsAtBucket p (find_next q w.finding reply)) (sym of.its_places) (finds_outer p w.finding reply row).its)
  next_row w (LoadsKey key addr) reply at of row = key_row p w key addr reply
  next_row w (LoadsHeader key addr) reply at of row = led_row p w key addr (previous_in reply)
  next_row w (Reads key addr) reply at of row = subst (SweepRow p w) (sym at) tt

  pub sweep_next_row : (w : Sweeper) (reply : ℕ) → IsOfStore shape p w → IsSweepRow p w → IsSweepRow p (sweep_next w reply)
  sweep_next_row w reply of row = next_row w w.step reply refl of row

  -- each read
  read_row : (w : Sweeper) (step : Sweeping) (bytes : List ℕ) → w.step ≡ step → IsOfStore shape p w → SweepRow p w step → IsSweepRow p (sweeping_read w step bytes)
  unfolding sweeping_read
  read_row w Meets bytes at of row = met_row (record w { piece = piece_read w.next bytes }) (words_held (piece_read w.next bytes) w.next) (record { its_shape = of.its_shape; its_places = of.its_places })
  read_row w (Reads key addr) bytes at of row = chain_row p w key addr (words_at bytes 0)
  read_row w AtRest bytes at of row = subst (SweepRow p w) (sym at) row
  read_row w LoadsHead bytes at of row = subst (SweepRow p w) (sym at) row
  read_row w Takes bytes at of row = subst (SweepRow p w) (sym at) row
  read_row w (Finds key) bytes at of row = subst (SweepRow p w) (sym at) row
  read_row w (LoadsKey key addr) bytes at of row = subst (SweepRow p w) (sym at) row
  read_row w (LoadsHeader key addr) bytes at of row = subst (SweepRow p w) (sym at) row

  pub sweep_read_row : (w : Sweeper) (bytes : List ℕ) → IsOfStore shape p w → IsSweepRow p w → IsSweepRow p (sweep_read w bytes)
  sweep_read_row w bytes of row = read_row w w.step bytes refl of row
