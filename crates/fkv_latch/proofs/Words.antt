-- The word of one latch, and what one ask does to it.
use Rattle.std.proofs.Common.{◌≡◌, ℕ, ◌+◌, ◌-◌, ◌*◌, ◌%◌, ◌^◌, ◌<◌, ◌≤◌, arith}
use Rattle.fkv_latch.specs.LatchWorld.{latch_of}

-- the word counts these shares, and has bit 63 where one holds it alone, and none shares it
pub record IsAt (word shares bits held : ℕ) : Type 0 where
  pub counted : latch_of word ≡ shares + 2 ^ 15 * bits
  pub single : bits ≤ 1
  pub apart : 0 < bits → held ≡ 0

pub same_at : (word shares bits held word' shares' bits' held' : ℕ) → word' ≡ word → shares' ≡ shares → bits' ≡ bits → held' ≡ held
    → IsAt word shares bits held → IsAt word' shares' bits' held'
same_at word shares bits held word' shares' bits' held' e f g h at = record {
  counted = omega (arith, at.counted, e, f, g);
  single = omega (arith, at.single, g);
  apart = λ some. let few = at.apart (omega (arith, some, g)) in omega (arith, few, h);
}

-- a share that is added while one holds the latch alone
pub share_met : (word shares bits held : ℕ) → 2 ^ 63 ≤ word → shares < 2 ^ 14 → IsAt word shares bits held → IsAt ((word + 2 ^ 48) % 2 ^ 64) (shares + 1) bits held
share_met word shares bits held set few at = record {
  counted = omega (arith, at.counted, at.single);
  single = at.single;
  apart = at.apart;
}

-- a share that is added while nobody does
pub share_taken : (word shares bits held : ℕ) → word < 2 ^ 63 → shares < 2 ^ 14 → IsAt word shares bits held → IsAt ((word + 2 ^ 48) % 2 ^ 64) (shares + 1) bits (held + 1)
share_taken word shares bits held clear few at =
    let none : bits ≡ 0 = omega (arith, at.counted, at.single) in
    record {
      counted = omega (arith, at.counted, none);
      single = at.single;
      apart = λ some. absurd (omega (arith, some, none));
    }

pub share_dropped : (word shares bits held : ℕ) → shares < 2 ^ 14 → IsAt word (shares + 1) bits held → IsAt ((word + (2 ^ 64 - 2 ^ 48)) % 2 ^ 64) shares bits held
share_dropped word shares bits held few at = record {
  counted = omega (arith, at.counted, at.single);
  single = at.single;
  apart = at.apart;
}

pub bit_set : (word shares bits held : ℕ) → word < 2 ^ 48 → held ≤ shares → IsAt word shares bits held → IsAt (word + 2 ^ 63) shares (bits + 1) held
bit_set word shares bits held free within at =
    let none : shares + 2 ^ 15 * bits ≡ 0 = omega (arith, at.counted) in
    record {
      counted = omega (arith, none);
      single = omega (arith, none);
      apart = λ some. omega (arith, none, within);
    }

pub bit_dropped : (word shares bits held : ℕ) → shares < 2 ^ 14 → IsAt word shares (bits + 1) held → IsAt ((word + 2 ^ 63) % 2 ^ 64) shares bits held
bit_dropped word shares bits held few at =
    let none : bits ≡ 0 = omega (arith, at.single) in
    record {
      counted = omega (arith, at.counted, none);
      single = omega (arith, none);
      apart = λ some. absurd (omega (arith, some, none));
    }
