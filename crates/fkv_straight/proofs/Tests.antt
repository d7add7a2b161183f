-- Tests as a call makes them and as the table does.
use Rattle.std.proofs.Common.{◌≡◌, ℕ, ◌-◌, ◌/◌, ◌%◌, ◌^◌, ◌≤◌, refl, sym, ap, ◌∙◌, arith, Bool, true, false}
use Rattle.std.specs.Prelude.{◌==◌, ◌&&◌, ◌||◌, if◌then◌else◌, max, not, nat_lt}
use Rattle.std.proofs.lemmas.Bool.Decides.{nat_tests}
use Rattle.fkv_base.specs.declared.numbers.Addr.{Addr}
use Rattle.fkv_base.specs.declared.numbers.Version.{Version}
use Rattle.fkv_ops.specs.declared.header_words.HeaderSaid.{HeaderSaid}
use Rattle.fkv_ops.specs.declared.header_words.HeaderSaid.TheVariants.{Says, Spoiled}
use Rattle.fkv_ops.specs.HeaderWords.{header_said, is_header, previous_in, version_in}
use Rattle.fkv_straight.specs.Memory.{is_in_memory}

pub same : (n : ℕ) → (n == n) ≡ true
same n = grind (arith, nat_tests)

pub differs : (n m : ℕ) → ¬ (n ≡ m) → (n == m) ≡ false
differs n m h = grind (arith, nat_tests, h)

pub or_false : (b : Bool) → (b || false) ≡ b
or_false true = refl
or_false false = refl

pub not_false : (b : Bool) → not b ≡ false → b ≡ true
not_false true h = refl
not_false false h = absurd (cc h)

pub and_false : (b : Bool) → (b && false) ≡ false
and_false true = refl
and_false false = refl

-- an address in memory, test by test
pub record Here (ring head addr : ℕ) : Type 0 where
  pub some : (addr == 0) ≡ false
  pub above : nat_lt addr head ≡ false
  pub within : nat_lt (addr - head) ring ≡ true

pub here : (ring head addr : ℕ) → is_in_memory ring head addr ≡ true → Here ring head addr
unfolding is_in_memory
here ring head addr = by (addr == 0) (nat_lt addr head) (nat_lt (addr - head) ring) refl refl refl
  where
    by : (a b d : Bool) → (addr == 0) ≡ a → nat_lt addr head ≡ b → nat_lt (addr - head) ring ≡ d → (not a && not b && d) ≡ true → Here ring head addr
    by false false true x y z h = record { some = x; above = y; within = z }
    by true b d x y z h = absurd (cc h)
    by false true d x y z h = absurd (cc h)
    by false false false x y z h = absurd (cc h)

-- a header whose word has no bit above those of its version
pub said_plainly : (word previous version : ℕ) → ¬ (word / 2 ^ 48 ≡ 0) → word / 2 ^ 48 ≤ 8191 → previous ≡ word % 2 ^ 48 → version ≡ word / 2 ^ 48 → Says (record { 0 = previous }) (record { 0 = version }) ≡ header_said word
unfolding header_said
said_plainly word previous version some fits p v =
    let whole : word / 2 ^ 48 % 2 ^ 13 ≡ word / 2 ^ 48 = omega (arith, fits) in
    let has : (word / 2 ^ 48 % 2 ^ 13 == 0) ≡ false = (let h : ¬ (word / 2 ^ 48 % 2 ^ 13 ≡ 0) = (λ e. some (sym whole ∙ e)) in grind (arith, nat_tests, h)) in
    let clear : (word / 2 ^ 61 % 2 == 0) ≡ true = (let h : word / 2 ^ 61 % 2 ≡ 0 = omega (arith, fits) in grind (arith, nat_tests, h)) in
    let top : (word / 2 ^ 63 == 0) ≡ true = (let h : word / 2 ^ 63 ≡ 0 = omega (arith, fits) in grind (arith, nat_tests, h)) in
    (λ i. Says (record { 0 = p i }) (record { 0 = (v ∙ sym whole) i })) ∙ sym (rw (has, clear, top) refl)

-- what a valid header says of the record before is what its word has there
abbrev before_in : HeaderSaid → ℕ
before_in (Says previous version) = previous.0
before_in Spoiled = 0

pub previous_said : (word : ℕ) (previous : Addr) (version : Version) → header_said word ≡ Says previous version → previous.0 ≡ previous_in word
unfolding header_said
previous_said word previous version = of_kind (is_header word)
  where
    of_kind : (valid : Bool) → (if valid then Says (record { 0 = previous_in word }) (record { 0 = version_in word }) else Spoiled) ≡ Says previous version → previous.0 ≡ previous_in word
    of_kind true e = sym (ap before_in e)
    of_kind false e = absurd (cc e)

pub says_previous : (word : ℕ) (previous : Addr) (version : Version) → header_said word ≡ Says previous version → header_said word ≡ Says (record { 0 = previous_in word }) version
says_previous word previous version said = said ∙ ap (λ (n : ℕ). Says (record { 0 = n }) version) (previous_said word previous version said)

pub max_same : (a : ℕ) → max a a ≡ a
max_same a = omega arith

pub max_low : (a b : ℕ) → b ≤ a → max a b ≡ a
max_low a b low = omega (arith, low)
